-- The courses are those of the tracks.
use Rattle.std.proofs.Common.{rules, ◌≡◌, map, refl, ap, subst, ◌∙◌}
use Rattle.std.specs.Prelude.{slice_get, option_copied}
use Rattle.std.proofs.lemmas.Option.{slice_get-get_or, slice_get_past}
use Rattle.checker.specs.Checking.{Checked}
use Rattle.checker.specs.Code.Tracks.{track_along, HasCourse}
use Rattle.checker.proofs.KeptLemmas.{has_course}
use Rattle.checker.proofs.checked_plan.CheckedPlan.course.Goals as goal

pub returns : goal.returns
returns c =
    let courses = c.self.inside.courses.items in
    let view : Checked = record {
      width = c.self.inside.width;
      height = c.self.inside.height;
      timetable = record { number = c.self.inside.number; tracks = map track_along courses };
    } in
    let here = option_copied c.get.result in
    let at : here ≡ slice_get c.deref.result.now c.args.agent = search (rules, slice_get-get_or, slice_get_past) in
    subst (λ v. HasCourse v c.args.agent here) c.self.view_is
    (has_course view courses refl c.self.invariant c.args.agent here (at ∙ ap (λ l. slice_get l c.args.agent) c.deref.ensures.value))
