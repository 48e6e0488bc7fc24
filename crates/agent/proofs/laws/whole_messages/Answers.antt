use Rattle.std.proofs.Common.{◌≡◌, ℕ, suc, ◌+◌, List, get_or, take, ap, subst, arith}
use Rattle.model.specs.Messages.{AreRising}
use Rattle.agent.proofs.SpellingLemmas.{rising-of, none-of, first-of}
use Rattle.agent.proofs.ToldLemmas.{one-telling}
use Rattle.agent.proofs.laws.whole_messages.Goals as goal

pub returns-clause-one : goal.returns-clause-one
returns-clause-one c = one-telling

pub returns-clause-not_both : goal.returns-clause-not_both
returns-clause-not_both c plan from done t same = (let version = ap (λ (l : List ℕ). get_or l 1 0) same in omega (arith, version))

pub returns-clause-rising : goal.returns-clause-rising
returns-clause-rising c entries = (none-of 0 0 entries, rising-of 0 0 entries)

pub returns-clause-first : goal.returns-clause-first
returns-clause-first c entries e wrong =
    let found = first-of 0 0 entries e wrong in
    let same = found.1 in
    let before : found.0 ≡ e = omega (arith, same) in
    let with_it : e + 1 ≡ suc found.0 = omega (arith, same) in
    (subst (λ n. AreRising 0 (take n entries)) before found.2, λ rising. found.3 (subst (λ n. AreRising 0 (take n entries)) with_it rising))
