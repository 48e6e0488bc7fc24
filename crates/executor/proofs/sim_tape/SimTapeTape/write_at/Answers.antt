use Rattle.std.proofs.Common.{rules, ◌∙◌, ◌+◌, take, Some, refl, sym, ap}
use Rattle.executor.proofs.SimLemmas.{torn}
use Rattle.executor.proofs.sim_tape.SimTapeTape.write_at.Goals as goal

pub returns : goal.returns
returns c =
    let wrote = c.write_at-2.ensures in
    let cut = c.truncate.ensures in
    let counted = c.saturating_add-self.ensures in
    torn _ _ c.args.at c.from.result _ c.requires.within (c.in-Some.is ∙ ap (λ n. Some n) (sym c.from.ensures)) refl
    (ap (λ s. s.room) cut ∙ wrote.room)
    (ap (λ s. s.contents) cut ∙ ap (take (c.args.at + c.from.result)) wrote.contents)
    (search (rules, counted))
