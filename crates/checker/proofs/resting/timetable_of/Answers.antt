-- The plan's timetable is that along its acts.
use Rattle.std.proofs.Common.{◌≡◌, ℕ, List, map, sym, ap, subst, ◌∙◌}
use Rattle.model.specs.Plan.{Course}
use Rattle.checker.specs.Checking.{Checked, IsChecked, IsCheckOf}
use Rattle.checker.specs.Code.Tracks.{track_along}
use Rattle.checker.specs.Code.Resting.{rested}
use Rattle.checker.proofs.TimetableLemmas.{TimetableLaws, is_check, is_checked}
use Rattle.checker.proofs.resting.timetable_of.Goals as goal

same : (w x h k n m : ℕ) (courses others : List Course) → w ≡ x → h ≡ k → n ≡ m → courses ≡ others
    → ◌≡◌ {A = Checked} (record { width = w; height = h; timetable = record { number = n; tracks = map track_along courses } })
    (record { width = x; height = k; timetable = record { number = m; tracks = map track_along others } })
same w x h k n m courses others e f g is = λ i. record { width = e i; height = f i; timetable = record { number = g i; tracks = map track_along (is i) } }

pub from_courses-requires : goal.from_courses-requires
from_courses-requires c =
    let law = c.timetables.ensures in
    let laws : TimetableLaws = record { some = law.some; conflict_free = law.conflict_free; swap_free = law.swap_free; at_rest = law.at_rest; no_longer = law.no_longer } in
    subst IsChecked (sym (same c.width.result c.args.grid.now.width c.height.result c.args.grid.now.height c.number-number.result c.args.plan.number
    c.rested-courses.result.items (map rested c.args.plan.courses) c.width.ensures.width c.height.ensures.height c.number-number.ensures.number
    (c.rested-courses.ensures ∙ ap (map rested) c.into_courses.ensures)))
    (is_checked laws c.args.grid.now c.args.plan c.width.ensures.map c.number-number.ensures.within c.requires)

pub returns : goal.returns
returns c =
    let law = c.timetables.ensures in
    let laws : TimetableLaws = record { some = law.some; conflict_free = law.conflict_free; swap_free = law.swap_free; at_rest = law.at_rest; no_longer = law.no_longer } in
    subst (IsCheckOf c.args.grid.now c.args.plan) (sym (c.from_courses.ensures ∙ same c.width.result c.args.grid.now.width c.height.result c.args.grid.now.height c.number-number.result
    c.args.plan.number
    c.rested-courses.result.items (map rested c.args.plan.courses) c.width.ensures.width c.height.ensures.height c.number-number.ensures.number
    (c.rested-courses.ensures ∙ ap (map rested) c.into_courses.ensures)))
    (is_check laws c.args.grid.now c.args.plan c.requires)
