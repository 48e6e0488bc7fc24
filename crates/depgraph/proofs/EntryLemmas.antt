-- The entries of paths on which no two agents meet.
use Rattle.std.proofs.Common.{◌≡◌, ℕ, ◌+◌, ◌^◌, ◌<◌, ◌≤◌, List, length, get_or, inl, inr, arith, refl, sym, ap, subst, ◌∙◌}
use Rattle.std.specs.Prelude.{slice_get}
use Rattle.std.proofs.lemmas.Bool.{cases_lt}
use Rattle.std.proofs.lemmas.Option.{same_Some}
use Rattle.grid.specs.declared.cell.Cell.{Cell}
use Rattle.model.specs.Dependency.{IsVisit}
use Rattle.model.specs.Timetable.{Track, Timetable, moves_before, IsConflictFree}
use Rattle.model.specs.Laws.Needs.{stands-from}
use Rattle.model.specs.Laws.Tracks.{length-path, moves-rise, moves-most}
use Rattle.depgraph.specs.Code.Entries.{begin_in, IsEntry, AreFew}
use Rattle.depgraph.specs.Code.Following.{AreEntries}
use Rattle.depgraph.specs.Code.Numbers.{no_cell, AreNumbered}
use Rattle.depgraph.specs.Code.Paths.{ArePaths}
use Rattle.depgraph.proofs.NumberLemmas.{are_known}
use Rattle.depgraph.proofs.PositionLemmas.{one_visit}
use Rattle.depgraph.proofs.ScheduleLemmas.{same_count, begin_most}
use Rattle.depgraph.proofs.VisitLemmas.{entry_at, entry_visit, entry-one, entry-within}
use Rattle.depgraph.proofs.WaitLemmas.{same_place}

module _ (number : ℕ) (tracks : List Track) (cells : List Cell) (times ends : List ℕ) (h : ArePaths tracks cells times ends) where
  abbrev tt : Timetable
  tt = record { number = number; tracks = tracks }

  visit_of : (i k e : ℕ) → IsEntry ends i k e → IsVisit tt i k (get_or times e 0) (get_or cells e no_cell)
  visit_of i k e entry = entry_visit tracks cells times ends h number i k e no_cell entry

  -- an agent comes later into a later cell of its path
  times-rise_along : (i k l d e : ℕ) → IsEntry ends i k d → IsEntry ends i l e → d < e → get_or times d 0 < get_or times e 0
  times-rise_along i k l d e first second less =
      let v = visit_of i k d first in
      let w = visit_of i l e second in
      let a = first.place in
      let b = second.place in
      elim (cases_lt (get_or times d 0) (get_or times e 0)) [
        | inl sooner ↦ sooner
        | inr not_sooner ↦ (
            let track = same_Some v.track w.track (sym v.is_track ∙ w.is_track) in
            let at_d = sym (ap (λ x. moves_before x (get_or times d 0)) track) ∙ v.is_index in
            let at_e = w.is_index in
            let rise = moves-rise w.track.start w.track.later (get_or times e 0) (get_or times d 0) not_sooner in
            absurd (omega (arith, at_d, at_e, rise, a, b, less))
            )
      ]

  module _ (free : IsConflictFree tt) where
    -- two entries into one cell at one time are one
    one_entry : (i j k l d e : ℕ) → IsEntry ends i k d → IsEntry ends j l e → get_or cells d no_cell ≡ get_or cells e no_cell → get_or times d 0 ≡ get_or times e 0 → d ≡ e
    one_entry i j k l d e first second cell time =
        let v = subst (λ t. IsVisit tt i k t (get_or cells d no_cell)) time (visit_of i k d first) in
        let w = subst (IsVisit tt j l (get_or times e 0)) (sym cell) (visit_of j l e second) in
        let one = one_visit tt i j k l (get_or times e 0) (get_or cells d no_cell) free v w in
        first.place ∙ ap (λ x. begin_in ends x + k) one.0 ∙ ap (λ x. begin_in ends j + x) one.1 ∙ sym second.place

    -- who comes into a cell after another comes after that one left, by the next move of its path
    pub left_entry : (i j k l d e : ℕ) → IsEntry ends i k d → IsEntry ends j l e → get_or cells d no_cell ≡ get_or cells e no_cell → get_or times d 0 < get_or times e 0
        → (i ≡ j → ⊥) → IsEntry ends i (k + 1) (d + 1)
    left_entry i j k l d e first second cell less other =
        let v = visit_of i k d first in
        let w = visit_of j l e second in
        let track = v.track in
        let s = get_or times d 0 in
        let t = get_or times e 0 in
        let c = get_or cells e no_cell in
        let rise = moves-rise track.start track.later s t (omega (arith, less)) in
        let most = moves-most track.start track.later t in
        let index = v.is_index in
        let gone : (moves_before track s ≡ moves_before track t) → ⊥ = λ same. (
        let there = sym (same_place track s t same) ∙ v.is_there ∙ cell in
        other (free i j t c (stands-from tt i t c track v.is_track there) (stands-from tt j t c w.track w.is_track w.is_there))
        ) in
        let more : k + 1 ≤ moves_before track t = (elim (cases_lt (moves_before track s) (moves_before track t)) [
          | inl rises ↦ omega (arith, rises, index)
          | inr not_less ↦ absurd (gone (omega (arith, not_less, rise)))
        ]) in
        let long = length-path track.start track.later in
        let at = first.place in
        let place : begin_in ends i + (k + 1) ≡ d + 1 = omega (arith, at) in
        subst (IsEntry ends i (k + 1)) place (entry_at tracks cells times ends h i (k + 1) track v.is_track (omega (arith, more, most, long)))

    pub are_entries : (names : List Cell) (numbers : List ℕ) → AreNumbered cells names numbers → length numbers ≡ length times → AreFew cells ends
        → ((e : ℕ) → e < length times → get_or times e 0 < 2 ^ 16) → AreEntries times ends numbers (length names)
    are_entries names numbers n count few early =
        let many = same_count tracks cells times ends h in
        let all = few.all in
        let fewer = n.few in
        let within : (i k e : ℕ) → IsEntry ends i k e → e < length times = λ i k e entry. (let inside = entry-within tracks cells times ends h i k e entry in omega (arith, inside, many)) in
        let one_cell : (i j k l d e : ℕ) → IsEntry ends i k d → IsEntry ends j l e → get_or numbers d 0 ≡ get_or numbers e 0 → get_or cells d no_cell ≡ get_or cells e no_cell =
        λ i j k l d e first second same. (
        let in_d = within i k d first in
        let in_e = within j l e second in
        same_Some (get_or cells d no_cell) (get_or cells e no_cell)
        (sym (n.named d (omega (arith, in_d, count))) ∙ ap (slice_get names) same ∙ n.named e (omega (arith, in_e, count)))
        ) in
        record {
          agents = few.agents;
          all = omega (arith, many, all);
          limited = omega (arith, fewer, count, many, all);
          count = count;
          known = are_known cells names numbers n;
          early = early;
          begins = begin_most tracks cells times ends h;
          first = refl;
          inside = within;
          one = entry-one tracks cells times ends h;
          few = few.own;
          rising = times-rise_along;
          apart = λ i j k l d e first second same time. one_entry i j k l d e first second (one_cell i j k l d e first second same) time;
          left = λ i j k l d e first second same less other.
              few.own i (k + 1) (d + 1) (left_entry i j k l d e first second (one_cell i j k l d e first second same) less other);
        }
