-- What is asked is taken, one by one.
use Rattle.std.proofs.Common.{sym, subst}
use Rattle.std.specs.Prelude.{slice_index_or}
use Rattle.std.proofs.lemmas.Option.{slice_get-get_or}
use Rattle.optimality.specs.declared.constraint.Constraint.{Constraint}
use Rattle.optimality.specs.declared.constraint.Constraint.TheVariants.{Away}
use Rattle.least_costs.specs.Code.Ruling.{AreImplied, AreTimed}
use Rattle.least_costs.proofs.AskedLemmas.{implied_at}
use Rattle.least_costs.proofs.rules.Rules.take.Goals as goal

pub loop-constraint-preserved : goal.loop-constraint-preserved
loop-constraint-preserved c =
    let asked = c.args.asked.now in
    let i = c.loop-constraint.constraint-index in
    let none : Constraint = Away 0 (record { x = 0; y = 0 }) in
    let there = slice_get-get_or asked i none c.loop-constraint-test.true in
    c.in_ok-add.ensures asked (implied_at asked i (slice_index_or asked i none) there) c.loop-constraint.invariant

pub returns : goal.returns
returns c = record {
  timed = subst (λ v. AreTimed c.args.asked.now v.items) (sym c.note_dues.ensures.timed) c.loop-constraint.invariant.timed;
  lasting = subst (λ v. AreImplied c.args.asked.now v.items) (sym c.note_dues.ensures.lasting) c.loop-constraint.invariant.lasting;
}
