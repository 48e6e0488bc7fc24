-- The course is added whose cells and acts are at hand.
use Rattle.std.proofs.Common.{◌≡◌, ◌≤◌, ◌∷◌, ◌++◌, [], List, length, None, Some, sym, ap, ap₂, subst, refl, ◌∙◌, append-nil}
use Rattle.std.specs.Option.{IsSome}
use Rattle.std.specs.Prelude.{MatchOption, slice_get}
use Rattle.std.proofs.lemmas.Bool.{ltb-false}
use Rattle.std.proofs.lemmas.Option.{none-some, same_Some, slice_get_past, slice_get_read}
use Rattle.model.specs.Plan.{Course, course_of}
use Rattle.model.specs.Timetable.{track_of}
use Rattle.depgraph.specs.AgentParts.{AgentPart, IsPartOf}
use Rattle.depgraph.specs.Laws.AgentParts.{cell-there}
use Rattle.fleet_commands.specs.LeftPlan.{left_course, left_courses_by}
use Rattle.fleet_commands.proofs.StandingLemmas.{some-unless, track-there}
use Rattle.fleet_commands.proofs.left_plan.push_left.Goals as goal

pub returns-in_default-clause-left : goal.returns-in_default-clause-left
returns-in_default-clause-left c =
    let left = c.args.left.now in
    let track = track_of c.args.at_hand.now.dependencies c.args.agent in
    let past = ltb-false c.from.result (length c.courses.result.now) (sym c.in_default.ensures.lookup.0) in
    let courses = c.args.at_hand.now.plan.courses in
    let none : course_of c.args.at_hand.now.plan c.args.agent ≡ None
    = slice_get_past courses c.args.agent (subst (λ n. length courses ≤ n) c.from.ensures (subst (λ l. length l ≤ c.from.result) c.courses.ensures.courses past)) in
    ap (λ (l : List Course). record left { courses = l }) (sym (append-nil left.courses)
    ∙ ap (λ (l : List Course). left.courses ++ l) (sym (ap (left_courses_by c.args.ahead.begun c.args.ahead.first track) none)))

pub unwrap-part-requires : goal.unwrap-part-requires
unwrap-part-requires c =
    let found = track-there c.args.at_hand.now.dependencies c.args.agent c.requires.there in
    some-unless c.part.result _ _ c.part.ensures (λ none. none-some found.0 (sym none ∙ found.1))

pub unwrap-requires : goal.unwrap-requires
unwrap-requires c =
    let tt = c.args.at_hand.now.dependencies in
    let i = c.args.agent in
    let part = subst (λ o. MatchOption o (track_of tt i ≡ None) (λ (p : AgentPart). IsPartOf tt p × (p.agent ≡ i))) c.unwrap-part.ensures c.part.ensures in
    let is = part.0 in
    let track : track_of tt i ≡ Some is.track = ap (track_of tt) (sym part.1) ∙ is.is_track in
    subst IsSome (sym (c.cell.ensures.cell ∙ cell-there is.track _ c.args.ahead.begun is.cells (c.requires.within is.track track))) refl

pub returns-clause-left : goal.returns-clause-left
returns-clause-left c =
    let tt = c.args.at_hand.now.dependencies in
    let plan = c.args.at_hand.now.plan in
    let i = c.args.agent in
    let left = c.args.left.now in
    let begun = c.args.ahead.begun in
    let first = c.args.ahead.first in
    let k = c.in-Some.course.now in
    let part = subst (λ o. MatchOption o (track_of tt i ≡ None) (λ (p : AgentPart). IsPartOf tt p × (p.agent ≡ i))) c.unwrap-part.ensures c.part.ensures in
    let is = part.0 in
    let track : track_of tt i ≡ Some is.track = ap (track_of tt) (sym part.1) ∙ is.is_track in
    let lookup = c.in-Some.ensures.lookup in
    let read = slice_get_read c.courses.result.now _ c.from.result k refl lookup.3.0 lookup.1 in
    let course : course_of plan i ≡ Some k = ap (course_of plan) (sym c.from.ensures) ∙ subst (λ l. slice_get l c.from.result ≡ Some k) c.courses.ensures.courses read in
    let start = same_Some _ _ (sym c.unwrap.ensures ∙ c.cell.ensures.cell ∙ cell-there is.track _ begun is.cells (c.requires.within is.track track)) in
    let acts = c.in_ok-acts.ensures tt is ∙ ap (λ l. (left_course is.track begun first l).acts) c.acts.ensures in
    let one : record { start = c.unwrap.result; acts = c.in_ok-acts.acts.items } ∷ [] ≡ left_course is.track begun first k.acts ∷ []
    = ap₂ (λ s a. record { start = s; acts = a } ∷ []) start acts in
    let by : left_courses_by begun first (track_of tt i) (course_of plan i) ≡ left_course is.track begun first k.acts ∷ []
    = ap (λ o. left_courses_by begun first o (course_of plan i)) track ∙ ap (left_courses_by begun first (Some is.track)) course in
    c.in_ok-push.ensures.ok ∙ ap (λ (l : List Course). record left { courses = left.courses ++ l }) (one ∙ sym by)
