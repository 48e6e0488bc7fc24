-- The visits of a timetable, and the places of their arrivals in its schedule.
use Rattle.std.proofs.Common.{◌≡◌, ℕ, ◌<◌, List, length, get_or, inl, inr, arith, sym, ap, subst, ◌∙◌}
use Rattle.std.proofs.lemmas.Bool.{cases_lt}
use Rattle.std.proofs.lemmas.Option.{same_Some}
use Rattle.grid.specs.declared.cell.Cell.{Cell}
use Rattle.model.specs.declared.visit.Visit.{Visit}
use Rattle.model.specs.Timetable.{Track, Timetable, moves_before, track_of, IsConflictFree}
use Rattle.model.specs.Dependency.{IsVisit}
use Rattle.model.specs.Laws.Needs.{stands-from}
use Rattle.depgraph.specs.declared.placing.Arrival.{Arrival}
use Rattle.depgraph.specs.Visits.{IsVisitTo, ComesBefore}
use Rattle.depgraph.specs.Code.Entries.{IsEntry}
use Rattle.depgraph.specs.Code.Numbers.{no_cell}
use Rattle.depgraph.specs.Code.Paths.{all_entered, all_times}
use Rattle.depgraph.specs.Code.Placing.{visit_in, IsTimeline}
use Rattle.depgraph.specs.Code.Ranks.{rank}
use Rattle.depgraph.specs.Code.Schedules.{no_arrival, entry_of_arrival, entry_in}
use Rattle.depgraph.proofs.RankLemmas.{rank-one, rank-within, rank-order}
use Rattle.depgraph.proofs.ScheduleLemmas.{same_count, arrival-within, arrivals_apart}
use Rattle.depgraph.proofs.VisitLemmas.{entry_visit, visit_entry, entry-one, entry-before, entry-within}

-- two visits of one cell at one time are one
pub one_visit : (tt : Timetable) (i j n m t : ℕ) (c : Cell) → IsConflictFree tt → IsVisit tt i n t c → IsVisit tt j m t c → (i ≡ j) × (n ≡ m)
one_visit tt i j n m t c free v w =
    let same = free i j t c (stands-from tt i t c v.track v.is_track v.is_there) (stands-from tt j t c w.track w.is_track w.is_there) in
    let track = same_Some v.track w.track (sym v.is_track ∙ ap (track_of tt) same ∙ w.is_track) in
    (same, sym v.is_index ∙ ap (λ k. moves_before k t) track ∙ w.is_index)

-- an agent has one visit at a time
pub one_index : (tt : Timetable) (i n m t : ℕ) (c d : Cell) → IsVisit tt i n t c → IsVisit tt i m t d → n ≡ m
one_index tt i n m t c d v w =
    let track = same_Some v.track w.track (sym v.is_track ∙ w.is_track) in
    sym v.is_index ∙ ap (λ k. moves_before k t) track ∙ w.is_index

abbrev the_visit : ℕ → ℕ → ℕ → Visit
the_visit i k t = record { agent = i; index = k; time = t }

visit_parts : (i j k l t u : ℕ) → i ≡ j → k ≡ l → t ≡ u → the_visit i k t ≡ the_visit j l u
visit_parts i j k l t u a b c = ap (λ x. the_visit x k t) a ∙ ap (λ x. the_visit j x t) b ∙ ap (λ x. the_visit j l x) c

module _ (number : ℕ) (tracks : List Track) (ends : List ℕ) (arrivals : List Arrival) (step_ends : List ℕ) (line : IsTimeline tracks ends arrivals step_ends) where
  -- the timetable, the visit and the cell of an arrival
  abbrev pub table : Timetable
  table = record { number = number; tracks = tracks }

  abbrev pub visit_at : ℕ → Visit
  visit_at p = visit_in (all_times tracks) ends arrivals p

  abbrev pub cell_of : ℕ → Cell
  cell_of p = get_or (all_entered tracks) (entry_in ends arrivals p) no_cell

  in_times : (p : ℕ) → p < length arrivals → entry_in ends arrivals p < length (all_times tracks)
  in_times p less =
      let within = arrival-within tracks (all_entered tracks) (all_times tracks) ends arrivals p line.paths line.schedule less in
      let same = same_count tracks (all_entered tracks) (all_times tracks) ends line.paths in
      omega (arith, within, same)

  pub arrival-visit : (p : ℕ) → p < length arrivals → IsVisitTo table (cell_of p) (visit_at p)
  arrival-visit p less =
      entry_visit tracks (all_entered tracks) (all_times tracks) ends line.paths number (get_or arrivals p no_arrival).agent (get_or arrivals p no_arrival).index
      (entry_in ends arrivals p) no_cell (line.schedule.entries p less)

  -- the place of a visit's arrival
  pub visit-arrival : (v : Visit) (c : Cell) → IsVisitTo table c v → (p : ℕ) × (p < length arrivals) × (visit_at p ≡ v) × (cell_of p ≡ c)
  visit-arrival v c is =
      let times = all_times tracks in
      let found = visit_entry tracks (all_entered tracks) times ends line.paths number v.agent v.index v.time c no_cell is in
      let e = found.0 in
      let same = same_count tracks (all_entered tracks) times ends line.paths in
      let inside = entry-within tracks (all_entered tracks) times ends line.paths v.agent v.index e found.1 in
      let within : e < length times = omega (arith, inside, same) in
      let p = rank times e in
      let place = rank-within times (length step_ends) e line.within within in
      let count = line.schedule.count in
      let less : p < length arrivals = omega (arith, place, count) in
      let entry : entry_in ends arrivals p ≡ e = rank-one times (entry_in ends arrivals p) e (in_times p less) within (line.schedule.places p less) in
      let own = subst (IsEntry ends (get_or arrivals p no_arrival).agent (get_or arrivals p no_arrival).index) entry (line.schedule.entries p less) in
      let one = entry-one tracks (all_entered tracks) times ends line.paths (get_or arrivals p no_arrival).agent v.agent (get_or arrivals p no_arrival).index v.index e own found.1 in (
        p,
        less,
        visit_parts (get_or arrivals p no_arrival).agent v.agent (get_or arrivals p no_arrival).index v.index (get_or times (entry_in ends arrivals p) 0) v.time one.0 one.1
            (ap (λ x. get_or times x 0) entry ∙ found.2),
        ap (λ x. get_or (all_entered tracks) x no_cell) entry ∙ found.3,
      )

  -- two arrivals of one agent with one index are one
  pub one_arrival : (p q : ℕ) → p < length arrivals → q < length arrivals → (visit_at p).agent ≡ (visit_at q).agent → (visit_at p).index ≡ (visit_at q).index → p ≡ q
  one_arrival p q in_p in_q agent index =
      let a = (line.schedule.entries p in_p).place in
      let b = (line.schedule.entries q in_q).place in
      arrivals_apart (all_times tracks) ends arrivals p q line.schedule in_p in_q
      (ap (λ i. entry_of_arrival ends (record { agent = i; index = (visit_at p).index })) agent ∙ ap (λ k. entry_of_arrival ends (record { agent = (visit_at q).agent; index = k })) index)

  -- two arrivals in one cell at one time are one
  pub one_there : (p q : ℕ) → IsConflictFree table → p < length arrivals → q < length arrivals → cell_of p ≡ cell_of q → (visit_at p).time ≡ (visit_at q).time → p ≡ q
  one_there p q free in_p in_q cell time =
      let v = visit_at p in
      let w = visit_at q in
      let first = subst (λ t. IsVisit table v.agent v.index t (cell_of p)) time (arrival-visit p in_p) in
      let second = subst (IsVisit table w.agent w.index w.time) (sym cell) (arrival-visit q in_q) in
      let one = one_visit table v.agent w.agent v.index w.index w.time (cell_of p) free first second in
      one_arrival p q in_p in_q one.0 one.1

  -- the arrivals go by time and then by agent
  pub arrivals-rise : (p q : ℕ) → p < q → q < length arrivals → ComesBefore (visit_at p) (visit_at q)
  arrivals-rise p q less in_q =
      let in_p : p < length arrivals = omega (arith, less, in_q) in
      let times = all_times tracks in
      let first = line.schedule.places p in_p in
      let second = line.schedule.places q in_q in
      let v = visit_at p in
      let w = visit_at q in
      elim (rank-order times (entry_in ends arrivals p) (entry_in ends arrivals q) (in_times p in_p) (in_times q in_q) (omega (arith, first, second, less))) [
        | inl earlier ↦ inl earlier
        | inr both ↦ (
            let time = both.0 in
            let before = both.1 in
            elim (cases_lt v.agent w.agent) [
              | inl lesser ↦ inr (time, lesser)
              | inr not_less ↦ elim (cases_lt w.agent v.agent) [
                | inl greater ↦ (
                    let wrong = entry-before tracks (all_entered tracks) times ends line.paths w.agent v.agent w.index v.index (entry_in ends arrivals q) (entry_in ends arrivals p) greater
                    (line.schedule.entries q in_q) (line.schedule.entries p in_p) in
                    absurd (omega (arith, wrong, before))
                    )
                | inr not_more ↦ (
                    let agent : v.agent ≡ w.agent = omega (arith, not_less, not_more) in
                    let own = subst (λ i. IsVisit table i v.index v.time (cell_of p)) agent (arrival-visit p in_p) in
                    let index = one_index table w.agent v.index w.index w.time (cell_of p) (cell_of q) (subst (λ t. IsVisit table w.agent v.index t (cell_of p)) time own) (arrival-visit q in_q) in
                    let same = one_arrival p q in_p in_q agent index in
                    absurd (omega (arith, same, less))
                    )
              ]
            ]
            )
      ]

  -- of two arrivals in one cell the later in the list comes at a later time
  pub times-rise : (p q : ℕ) → IsConflictFree table → p < q → q < length arrivals → cell_of p ≡ cell_of q → (visit_at p).time < (visit_at q).time
  times-rise p q free less in_q cell = elim (arrivals-rise p q less in_q) [
    | inl earlier ↦ earlier
    | inr both ↦ (let same = one_there p q free (omega (arith, less, in_q)) in_q cell both.0 in absurd (omega (arith, same, less)))
  ]
