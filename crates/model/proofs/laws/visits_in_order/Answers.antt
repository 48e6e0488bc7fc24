use Rattle.std.proofs.Common.{◌≡◌, ℕ, zero, suc, ◌<◌, eqb, inl, inr, arith, sym, ap, ◌∙◌}
use Rattle.std.proofs.lemmas.Bool.{cases_Bool, eqb-true, eqb-false}
use Rattle.std.proofs.lemmas.Option.{same_Some}
use Rattle.grid.specs.declared.cell.Cell.{Cell}
use Rattle.model.specs.Timetable.{Timetable, cell_at, moves_before, track_of, Stands, IsConflictFree}
use Rattle.model.specs.Dependency.{IsVisit}
use Rattle.model.specs.Laws.Tracks.{moves-rise, moves-leave}
use Rattle.model.specs.Laws.Needs.{stands-from}
use Rattle.model.proofs.laws.visits_in_order.Goals as goal

stands-by_visit : (tab : Timetable) (i n t : ℕ) (c : Cell) → IsVisit tab i n t c → Stands tab i t c
stands-by_visit tab i n t c v = stands-from tab i t c v.track v.is_track v.is_there

same_track : (tab : Timetable) (i j n m s t : ℕ) (c : Cell) → i ≡ j → (v : IsVisit tab i n s c) → (w : IsVisit tab j m t c) → v.track ≡ w.track
same_track tab i j n m s t c e v w = same_Some v.track w.track (sym v.is_track ∙ ap (track_of tab) e ∙ w.is_track)

one_at_a_time : (tab : Timetable) (i j n m t : ℕ) (c : Cell) → IsConflictFree tab → IsVisit tab i n t c → IsVisit tab j m t c → (i ≡ j) × (n ≡ m)
one_at_a_time tab i j n m t c free v w =
    let same = free i j t c (stands-by_visit tab i n t c v) (stands-by_visit tab j m t c w) in
    (same, sym v.is_index ∙ ap (λ k. moves_before k t) (same_track tab i j n m t t c same v w) ∙ w.is_index)

-- who comes anew has moved since
later_index : (tab : Timetable) (i j n m s t : ℕ) (c : Cell) → i ≡ j → IsVisit tab i n s c → IsVisit tab j m t c → s < t → n < m
later_index tab i j n m s zero c e v w less = absurd (omega (arith, less))
later_index tab i j n m s (suc t) c e v w less =
    let track = w.track in
    let index_v : moves_before track s ≡ n = ap (λ k. moves_before k s) (sym (same_track tab i j n m s (suc t) c e v w)) ∙ v.is_index in
    let comes : cell_at track t ≡ cell_at track (suc t) → ⊥ = λ stays. w.comes t (omega arith) (stays ∙ w.is_there) in
    let leaves = moves-leave track.start track.later t comes in
    let rise = moves-rise track.start track.later s t (omega (arith, less)) in
    let index_w = w.is_index in
    omega (arith, leaves, rise, index_v, index_w)

pub returns-clause-one_at_a_time : goal.returns-clause-one_at_a_time
returns-clause-one_at_a_time c = one_at_a_time

pub returns-clause-ended : goal.returns-clause-ended
returns-clause-ended c = λ tab i j n m s t cell free v w less.
    elim (cases_Bool (eqb i j)) [
      | inl same ↦ inr (eqb-true i j same, later_index tab i j n m s t cell (eqb-true i j same) v w less)
      | inr other ↦ inl (λ there. eqb-false i j other (free i j t cell there (stands-by_visit tab j m t cell w)))
    ]
