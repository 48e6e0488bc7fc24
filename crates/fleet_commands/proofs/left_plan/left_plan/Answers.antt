-- One agent more, whose course is added, or which is left out.
use Rattle.std.proofs.Common.{ℕ, ◌++◌, [], List, sym, ap, ◌∙◌, append-nil}
use Rattle.std.proofs.lemmas.Bool.{cond-false, cond-true}
use Rattle.model.specs.Plan.{Course, course_of}
use Rattle.model.specs.Timetable.{track_of}
use Rattle.fleet_commands.specs.FoundTapes.{begun_by}
use Rattle.fleet_commands.specs.LeftPlan.{first_step, is_left_out, left_courses, left_courses_by}
use Rattle.fleet_commands.proofs.LineLemmas.{behind-more}
use Rattle.fleet_commands.proofs.left_plan.left_plan.Goals as goal
use Rattle.fleet_commands.proofs.left_plan.left_plan.Goals.{then-not-is_left_out+in_ok-push_left, else-not-is_left_out}

pub loop-agent-preserved : goal.loop-agent-preserved
loop-agent-preserved c =
    let tt = c.args.at_hand.now.dependencies in
    let plan = c.args.at_hand.now.plan in
    let found = c.args.found.now in
    let without = c.args.without in
    let n = c.loop-agent.agent in
    let before = c.loop-agent.left in
    let own = λ (begun first : ℕ). left_courses_by begun first (track_of tt n) (course_of plan n) in
    let out = is_left_out without n in
    record {
      number = elim c.if-not-is_left_out.branch [
        | then-not-is_left_out+in_ok-push_left w ↦ ap (λ v. v.number) (w.left-is ∙ w.in_ok-push_left.ensures.left) ∙ c.loop-agent.invariant.number
        | else-not-is_left_out w ↦ ap (λ v. v.number) w.left-is ∙ c.loop-agent.invariant.number
      ];
      courses = behind-more [] (left_courses plan tt found without) n before.courses c.if-not-is_left_out.left.courses c.loop-agent.invariant.courses (elim c.if-not-is_left_out.branch [
        | then-not-is_left_out+in_ok-push_left w ↦
            ap (λ v. v.courses) (w.left-is ∙ w.in_ok-push_left.ensures.left)
            ∙ ap (λ (l : List Course). before.courses ++ l) (ap (λ m. own m c.first_step-first.result) w.begun_by-begun.ensures ∙ ap (own (begun_by found n)) c.first_step-first.ensures
            ∙ sym (cond-false out [] (own (begun_by found n) (first_step tt found without)) (sym c.is_left_out.ensures ∙ w.if-not-is_left_out.true)))
        | else-not-is_left_out w ↦
            ap (λ v. v.courses) w.left-is ∙ sym (append-nil before.courses)
            ∙ ap (λ (l : List Course). before.courses ++ l) (sym (cond-true out [] (own (begun_by found n) (first_step tt found without)) (sym c.is_left_out.ensures ∙ w.if-not-is_left_out.false)))
      ]);
    }
