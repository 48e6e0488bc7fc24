-- How many agents are named: as many as are marked.
use Rattle.std.proofs.Common.{◌≡◌, ℕ, zero, suc, ◌+◌, ◌<◌, Bool, true, false, cond, List, get_or, arith, refl, sym, ap, ◌∙◌}
use Rattle.std.specs.Prelude.{◌||◌}
use Rattle.model.specs.declared.plan_fault.PlanFault.{PlanFault}
use Rattle.checker.specs.AllFaults.{is_named, count_of_named}
use Rattle.checker.specs.Code.Marks.{count_of_marks}

pub marks-named : (n : ℕ) (marks : List Bool) (faults : List PlanFault) → ((k : ℕ) → k < n → get_or marks k false ≡ is_named faults k) → count_of_marks n marks ≡ count_of_named n faults
marks-named zero marks faults h = refl
marks-named (suc n) marks faults h =
    let rest = marks-named n marks faults (λ k less. h k (omega (arith, less))) in
    ap (λ b. cond b (count_of_marks n marks + 1) (count_of_marks n marks)) (h n (omega arith)) ∙ ap (λ c. cond (is_named faults n) (c + 1) c) rest

-- nobody is left who is named and not marked
pub marks-end : (b rest named : Bool) → rest ≡ false → (b || rest) ≡ named → b ≡ named
marks-end true rest named none h = h
marks-end false rest named none h = sym none ∙ h
