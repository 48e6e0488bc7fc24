-- The plan is at hand, and the agent's part was taken, if there is one.
use Rattle.std.proofs.Common.{refl, subst, sym}
use Rattle.planned.specs.declared.reading.PlanAtHand.{PlanAtHand}
use Rattle.agent_commands.specs.Code.Plans.{IsTermsFor}
use Rattle.agent_commands.specs.declared.terms.Terms.TheVariants as terms
use Rattle.agent_commands.proofs.TermsLemmas.{part-on-terms}
use Rattle.agent_commands.proofs.agent_part.read_part_and_terms.Goals as goal

pub returns-in-Any : goal.returns-in-Any
returns-in-Any g c =
    let read = c.in_ok-read_part.ensures in
    let checked = read.1.1 in
    let it : PlanAtHand = record { map = checked.0; plan = checked.1; dependencies = read.0 } in
    let any : IsTermsFor c.args.claim it.plan terms.Any = subst (λ claim. IsTermsFor claim it.plan terms.Any) (sym c.in-Any.is) refl in
    (it, (checked.2, (read.1.0, checked.3, read.1.2)), part-on-terms c.args.claim it c.args.id _ _ _ read.2 any c.on_terms.ensures)

pub returns : goal.returns
returns g c =
    let it = c.in_ok-plan.field-0 in
    (it, c.in_ok-plan.ensures, part-on-terms c.args.claim it c.args.id _ _ _ c.in_ok-own.ensures c.new.ensures c.on_terms-2.ensures)
