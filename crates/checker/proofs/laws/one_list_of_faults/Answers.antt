-- Both rise, and have the same items.
use Rattle.checker.proofs.ItemLemmas.{same_lists}
use Rattle.checker.proofs.laws.one_list_of_faults.Goals as goal

pub returns : goal.returns
returns c = λ m p xs ys h k.
    same_lists xs ys h.rising k.rising
    (λ f at. let has = h.each at.0 f at.1 in k.all f has.0 has.1)
    (λ f at. let has = k.each at.0 f at.1 in h.all f has.0 has.1)
