-- The plan with one more agent keeps its limits.
use Rattle.std.proofs.Common.{◌≡◌, ◌+◌, ◌<◌, ◌≤◌, ◌∷◌, [], ◌++◌, length, arith, ap, sym, subst, ◌∙◌}
use Rattle.model.specs.Plan.{Course}
use Rattle.plan_text.specs.Limits.{most_agents, most_acts_in_all, acts_in, IsCourse, IsPlan}
use Rattle.plan_text.proofs.LimitLemmas.{acts_in-push, IsPlan-push}
use Rattle.plan_text.proofs.plan.Plan.push.Goals as goal

pub invariant_of-self-2 : goal.invariant_of-self-2
invariant_of-self-2 c =
    let courses = c.self.inside.courses.items in
    let course : Course = record { start = c.args.start; acts = c.args.acts.items } in
    let items : c.push.new.self.items ≡ courses ++ course ∷ [] = c.in_ok-push.ensures.items ∙ ap (λ x. courses ++ x ∷ []) c.new.ensures in
    let keeps : IsCourse course = record { column = omega arith; row = omega arith; acts_limit = omega arith } in
    let within : IsPlan (record { number = c.self.inside.number; courses = courses }) = c.self.invariant.0 in
    let room : length courses < most_agents = omega (arith, within.agent_limit) in
    let fits : acts_in courses + length course.acts ≤ most_acts_in_all = omega (arith, within.acts_limit, c.self.invariant.1) in (
      subst (λ xs. IsPlan (record { number = c.self.inside.number; courses = xs })) (sym items)
          (IsPlan-push c.self.inside.number courses course within room keeps fits),
      omega (arith, c.self.invariant.1, acts_in-push courses course) ∙ ap acts_in (sym items),
    )
