-- It is put behind what was asked.
use Rattle.std.proofs.Common.{◌≡◌, ◌∙◌, ◌++◌, ◌∷◌, [], ap, subst, sym}
use Rattle.least_costs.specs.declared.rules.Rules.{Rules}
use Rattle.least_costs.specs.declared.rules.Timed.{Timed}
use Rattle.least_costs.specs.Code.Ruling.{AreImplied, AreTimed}
use Rattle.least_costs.proofs.AskedLemmas.{timed_more}
use Rattle.least_costs.proofs.rules.Rules.add_timed.Goals as goal
use Rattle.least_costs.proofs.rules.Rules.add_timed.Goals.{then-time-len, else-time-len}

pub returns : goal.returns
returns c = λ asked one are.
    let old = c.args.self.now in
    let it : Timed = record { constraint = c.args.constraint; beside = c.if-time-len.beside } in
    let timed : c.if-time-len.self.timed ≡ old.timed = elim c.if-time-len.branch [
      | then-time-len w ↦ ap (λ (r : Rules). r.timed) w.self-is ∙ c.in_ok-make_moment.ensures.timed
      | else-time-len w ↦ ap (λ (r : Rules). r.timed) w.self-is ∙ c.in_ok-make_moment.ensures.timed
    ] in
    let lasting : c.if-time-len.self.lasting ≡ old.lasting = elim c.if-time-len.branch [
      | then-time-len w ↦ ap (λ (r : Rules). r.lasting) w.self-is ∙ c.in_ok-make_moment.ensures.lasting
      | else-time-len w ↦ ap (λ (r : Rules). r.lasting) w.self-is ∙ c.in_ok-make_moment.ensures.lasting
    ] in
    record {
      timed = subst (AreTimed asked) (sym c.in_ok-push.ensures.items)
          (subst (λ v. AreTimed asked (v.items ++ it ∷ [])) (sym timed) (timed_more asked old.timed.items it one are.timed));
      lasting = subst (λ v. AreImplied asked v.items) (sym lasting) are.lasting;
    }
