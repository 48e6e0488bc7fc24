-- What a graph keeps tells its timetable, its routes and its visits.
use Rattle.std.proofs.Common.{◌≡◌, ℕ, suc, ◌+◌, ◌-◌, ◌^◌, ◌<◌, ◌≤◌, List, length, get_or, map, take, Some, None, inl, inr, arith, refl, sym, ap, subst, ◌∙◌}
use Rattle.std.specs.Prelude.{◌⊎◌, Option, ◌==◌, option_map, slice_get}
use Rattle.std.specs.List.{range_with_len}
use Rattle.std.proofs.lemmas.Bool.{cases_lt, cases_Bool, cond-true, cond-false, eq-eqb, ne_eqb}
use Rattle.std.proofs.lemmas.List.{length-map}
use Rattle.std.proofs.lemmas.List.FromFn.{get_or-map-range_with_len, length-map-range_with_len}
use Rattle.std.proofs.lemmas.Option.{slice_get-get_or, slice_get-map, slice_get_past, slice_get_within, get_or_from_slice_get, same_Some}
use Rattle.grid.specs.declared.cell.Cell.{Cell}
use Rattle.model.specs.declared.visit.Visit.{Visit}
use Rattle.model.specs.Dependency.{need}
use Rattle.model.specs.Timetable.{Track, Timetable, cell_at, moves, path, step_of, track_of}
use Rattle.model.specs.Laws.Tracks.{length-path}
use Rattle.depgraph.specs.Routes.{IsRouteOf, asked_by}
use Rattle.depgraph.specs.Visits.{IsVisitTo, AreVisitsTo, Visited, AreAllVisits}
use Rattle.depgraph.specs.declared.waiting.Wait.{Wait}
use Rattle.depgraph.specs.Code.Entries.{begin_in, IsEntry, arrival_time}
use Rattle.depgraph.specs.Code.Keeping.{AreKeptVisits, route_by, route_in, need_of, asked_of}
use Rattle.depgraph.specs.Code.Numbers.{no_cell}
use Rattle.depgraph.specs.Code.Orders.{IsOrder}
use Rattle.depgraph.specs.Code.Paths.{all_entered, all_times}
use Rattle.depgraph.specs.Code.Placing.{part_of, visited, listing}
use Rattle.depgraph.specs.Code.Ranks.{tally, below, rank}
use Rattle.depgraph.specs.Code.Schedules.{entry_in}
use Rattle.depgraph.specs.Code.Waits.{no_visit, no_wait, entry_for, wait_of, before_at}
use Rattle.depgraph.proofs.BeforeLemmas.{later-is}
use Rattle.depgraph.proofs.BlockLemmas.{name-of, listing-get, number-within, begin-below, end-below, part-within, visit-at_rank, all_visits}
use Rattle.depgraph.proofs.PositionLemmas.{visit_at, cell_of}
use Rattle.depgraph.proofs.RankLemmas.{occurrences_rise, occurs, occurrence-rank, rank-is, rank-least, rank-most, tally-within}
use Rattle.depgraph.proofs.ScheduleLemmas.{same_count, begin_most, position}
use Rattle.depgraph.proofs.PathLemmas.{no_track}
use Rattle.depgraph.proofs.VisitLemmas.{begin_is, end_is, IsArrival, arrives, arrival-cell, entry_own, entry_track, entry_at, entry-one, entry-within}
use Rattle.depgraph.proofs.WaitLemmas.{IsJustBefore, need_none, need_some}

module _ (tt : Timetable) (cells : List Cell) (times ends : List ℕ) (needs : List Wait) (visits : List Visit) (visit_ends : List ℕ) (h : AreKeptVisits tt cells times ends needs visits visit_ends) where
  -- ---- routes

  -- what an entry of an agent's path tells
  entry_parts : (i k e : ℕ) → IsEntry ends i k e → (track : Track) × (track_of tt i ≡ Some track) × (k < length (path track)) ×
      (get_or (all_entered tt.tracks) e no_cell ≡ get_or (path track) k no_cell)
      × (get_or (all_times tt.tracks) e 0 ≡ arrival_time track k)
  entry_parts i k e entry =
      let found = entry_track tt.tracks (all_entered tt.tracks) (all_times tt.tracks) ends h.line.paths i k e entry in
      let own = entry_own tt.tracks (all_entered tt.tracks) (all_times tt.tracks) ends h.line.paths i k e found.0 no_cell found.1 entry in
      (found.0, found.1, own.0, own.1, own.2)

  pub kept_cell : (i k e : ℕ) → IsEntry ends i k e → slice_get (route_in tt i).cells k ≡ Some (get_or cells e no_cell)
  kept_cell i k e entry =
      let own = entry_parts i k e entry in
      ap (λ o. slice_get (route_by tt i o).cells k) own.1 ∙ slice_get-get_or (path own.0) k no_cell own.2 ∙ ap Some (sym own.3 ∙ ap (λ l. get_or l e no_cell) (sym h.are_cells))

  in_moves : (track : Track) (k : ℕ) → k + 1 < length (path track) → k < moves track
  in_moves track k less = (let long = length-path track.start track.later in omega (arith, less, long))

  of_moves : {X : Type 0} (f : ℕ → X) (k n : ℕ) → k < n → slice_get (map f (range_with_len 0 n)) k ≡ Some (f k)
  of_moves f k n less =
      let long = length-map-range_with_len f 0 n in
      slice_get-get_or (map f (range_with_len 0 n)) k (f k) (omega (arith, less, long)) ∙ ap Some (get_or-map-range_with_len f 0 n k k (f k) less (omega arith))

  -- one before a time that is not the start
  before_time : (track : Track) (k : ℕ) → arrival_time track (k + 1) ≡ step_of track k + 1
  before_time track k = (let next : k + 1 ≡ suc k = omega arith in ap (arrival_time track) next)

  entry_visit_at : (i k e : ℕ) → IsEntry ends i k e → (p : ℕ) × (p < length h.arrivals) × (entry_in ends h.arrivals p ≡ e)
  entry_visit_at i k e entry = position tt.tracks (all_entered tt.tracks) (all_times tt.tracks) ends h.arrivals (length h.step_ends) h.line.paths h.line.schedule h.line.within e
      (entry-within tt.tracks (all_entered tt.tracks) (all_times tt.tracks) ends h.line.paths i k e entry)

  -- the time of an entry past the first is one behind the step of the move
  pub kept_time : (i k e : ℕ) → IsEntry ends i (k + 1) e → (track : Track) × (track_of tt i ≡ Some track) × (k < moves track) × (get_or times e 0 ≡ step_of track k + 1)
  kept_time i k e entry =
      let own = entry_parts i (k + 1) e entry in
      (own.0, own.1, in_moves own.0 k own.2, ap (λ l. get_or l e 0) h.are_times ∙ own.4 ∙ before_time own.0 k)

  pub kept_step : (i k e : ℕ) → IsEntry ends i (k + 1) e → slice_get (route_in tt i).steps k ≡ Some (get_or times e 0 - 1)
  kept_step i k e entry =
      let own = kept_time i k e entry in
      let time = own.3 in
      ap (λ o. slice_get (route_by tt i o).steps k) own.1 ∙ of_moves (step_of own.0) k (moves own.0) own.2 ∙ ap Some (omega (arith, time))

  -- ---- the visit before

  abbrev pub arrives_at : ℕ → Visit
  arrives_at p = visit_at tt.number tt.tracks ends h.arrivals h.step_ends h.line p

  abbrev pub place_of : ℕ → Cell
  place_of p = cell_of tt.number tt.tracks ends h.arrivals h.step_ends h.line p

  pub rank-visit : (q : ℕ) → q < length h.arrivals → get_or visits (rank h.placing.listed q) no_visit ≡ arrives_at q
  rank-visit q less = visit-at_rank tt.number tt.tracks ends h.arrivals h.step_ends h.line visits visit_ends h.placing q less

  own_cell : (p : ℕ) → p < length h.arrivals → get_or cells (entry_in ends h.arrivals p) no_cell ≡ place_of p
  own_cell p less = ap (λ l. get_or l (entry_in ends h.arrivals p) no_cell) h.are_cells

  -- the cell of the visit of an arrival, by its agent's path
  visit_cell : (q : ℕ) → q < length h.arrivals → get_or cells (begin_in ends (arrives_at q).agent + (arrives_at q).index) no_cell ≡ place_of q
  visit_cell q less = own_cell q less

  -- the place of an arrival's visit, among those of its cell
  pub in_block : (p : ℕ) → p < length h.arrivals → (get_or h.placing.listed p 0 < length visit_ends) × (begin_in visit_ends (get_or h.placing.listed p 0) ≤ rank h.placing.listed p)
      × (rank h.placing.listed p < get_or visit_ends (get_or h.placing.listed p 0) 0)
  in_block p less =
      let listed = h.placing.listed in
      let n = get_or listed p 0 in
      let all = h.placing.all in
      let within = number-within tt.number tt.tracks ends h.arrivals h.step_ends h.line visits visit_ends h.placing p less in
      let count = h.placing.end_count in
      let begin = begin-below tt.number tt.tracks ends h.arrivals h.step_ends h.line visits visit_ends h.placing n within in
      let end = end-below tt.number tt.tracks ends h.arrivals h.step_ends h.line visits visit_ends h.placing n within in
      let least = rank-least listed p n refl in
      let most = rank-most listed p n (omega (arith, less, all)) refl in
      (omega (arith, within, count), omega (arith, begin, least), omega (arith, end, most))

  -- the visit before that of an arrival in its cell
  abbrev pub before_of : ℕ → Option Visit
  before_of p = before_at visits (begin_in visit_ends (get_or h.placing.listed p 0)) (rank h.placing.listed p)

  -- there was none, or it is that of the arrival just before
  pub before_is : (p : ℕ) → p < length h.arrivals
      → ((tally (take p h.placing.listed) (get_or h.placing.listed p 0) ≡ 0) × (before_of p ≡ None))
      ⊎ ((q : ℕ) × (q < length h.arrivals) × IsJustBefore tt.number tt.tracks ends h.arrivals h.step_ends h.line visits visit_ends h.placing h.graphed.conflict_free q p
      × (before_of p ≡ Some (arrives_at q)))
  before_is p less =
      let listed = h.placing.listed in
      let n = get_or listed p 0 in
      let r = tally (take p listed) n in
      let all = h.placing.all in
      let within = number-within tt.number tt.tracks ends h.arrivals h.step_ends h.line visits visit_ends h.placing p less in
      let begin = begin-below tt.number tt.tracks ends h.arrivals h.step_ends h.line visits visit_ends h.placing n within in
      let is = rank-is listed p n refl in
      elim (cases_lt 0 r) [
        | inl some ↦ (
            let counted = tally-within listed p n (omega (arith, less, all)) refl in
            let found = occurs listed n (r - 1) (omega (arith, some, counted)) in
            let q = found.0 in
            let inside = found.1.within in
            let in_q : q < length h.arrivals = omega (arith, inside, all) in
            let before = found.1.before in
            let same = sym (name-of tt.number tt.tracks ends h.arrivals h.step_ends h.line visits visit_ends h.placing q in_q) ∙ ap (λ m. get_or h.placing.names m no_cell) found.1.key
            ∙ name-of tt.number tt.tracks ends h.arrivals h.step_ends h.line visits visit_ends h.placing p less in
            let place = occurrence-rank listed n (r - 1) q found.1 in
            let side : rank listed p - 1 ≡ rank listed q = omega (arith, place, is, some) in
            inr (
              q,
              in_q,
              record {
                before = occurrences_rise h.placing.listed n (r - 1) r q p (omega (arith, some)) found.1
                    (record { within = omega (arith, less, all); key = refl; before = refl });
                key = found.1.key;
                cell = same;
                next = omega (arith, before, some);
              },
              later-is visits (begin_in visit_ends n) (rank listed p) (omega (arith, begin, is, some)) ∙ ap Some (ap (λ k. get_or visits k no_visit) side ∙ rank-visit q in_q),
            )
            )
        | inr none ↦ (
            let zero_before : r ≡ 0 = omega (arith, none) in
            inl (
              zero_before,
              cond-true (rank listed p == begin_in visit_ends n) None (Some (get_or visits (rank listed p - 1) no_visit))
                  (eq-eqb (rank listed p) (begin_in visit_ends n) (omega (arith, begin, is, zero_before))),
            )
            )
      ]

  -- what is noted for an arrival is what the visit before in the same cell says
  pub looked_up : (p : ℕ) → p < length h.arrivals → get_or needs (entry_in ends h.arrivals p) no_wait ≡ wait_of (arrives_at p).agent (before_of p)
  looked_up p less =
      let at = in_block p less in
      subst (λ v. get_or needs (entry_for ends v) no_wait ≡ wait_of v.agent (before_of p)) (rank-visit p less)
      (h.are_needs.each (get_or h.placing.listed p 0) (rank h.placing.listed p) at.0 at.1 at.2)

  -- ---- needs

  -- the same need, in the words of the graph and in those of its list
  same_asked : (i : ℕ) (o : Option Visit) → asked_by (Some (need_of i o)) ≡ asked_of (wait_of i o)
  same_asked i None = refl
  same_asked i (Some v) = elim (cases_Bool (v.agent == i)) [
    | inl own ↦
        ap (λ n. asked_by (Some n)) (cond-true (v.agent == i) None (Some (record { agent = v.agent; count = v.index + 1 })) own)
        ∙ sym (ap asked_of (cond-true (v.agent == i) no_wait (record { agent = v.agent; count = v.index + 1 }) own))
    | inr other ↦
        ap (λ n. asked_by (Some n)) (cond-false (v.agent == i) None (Some (record { agent = v.agent; count = v.index + 1 })) other)
        ∙ sym (cond-false (v.index + 1 == 0) None (Some (v.agent, v.index + 1)) (ne_eqb (v.index + 1) 0 (λ none. omega (arith, none))))
        ∙ sym (ap asked_of (cond-false (v.agent == i) no_wait (record { agent = v.agent; count = v.index + 1 }) other))
  ]

  pub kept_need : (i k e : ℕ) → IsEntry ends i (k + 1) e → asked_by (slice_get (route_in tt i).needs k) ≡ asked_of (get_or needs e no_wait)
  kept_need i k e entry =
      let parts = entry_parts i (k + 1) e entry in
      let track = parts.0 in
      let at = entry_visit_at i (k + 1) e entry in
      let p = at.0 in
      let less = at.1 in
      let s = step_of track k in
      let own = subst (IsEntry ends (arrives_at p).agent (arrives_at p).index) at.2 (h.line.schedule.entries p less) in
      let agent = (entry-one tt.tracks (all_entered tt.tracks) (all_times tt.tracks) ends h.line.paths (arrives_at p).agent i (arrives_at p).index (k + 1) e own entry).0 in
      let time : (arrives_at p).time ≡ s + 1 = ap (λ x. get_or (all_times tt.tracks) x 0) at.2 ∙ parts.4 ∙ before_time track k in
      let cell : place_of p ≡ cell_at track (s + 1) = ap (λ x. get_or (all_entered tt.tracks) x no_cell) at.2 ∙ parts.3
      ∙ arrival-cell track (k + 1) (s + 1) no_cell (subst (IsArrival track (k + 1)) (before_time track k) (arrives track (k + 1) parts.2)) in
      ap asked_by (ap (λ o. slice_get (route_by tt i o).needs k) parts.1 ∙ of_moves (need tt i track) k (moves track) (in_moves track k parts.2))
      ∙ (elim (before_is p less) [
        | inl none ↦
            ap (λ n. asked_by (Some n)) (need_none tt.number tt.tracks ends h.arrivals h.step_ends h.line visits visit_ends h.placing h.graphed.conflict_free p i k s track less refl time cell none.0)
            ∙ sym (ap asked_of (sym (ap (λ x. get_or needs x no_wait) at.2) ∙ looked_up p less ∙ ap (wait_of (arrives_at p).agent) none.1))
        | inr some ↦
            ap (λ n. asked_by (Some n)) (need_some tt.number tt.tracks ends h.arrivals h.step_ends h.line visits visit_ends h.placing h.graphed.conflict_free some.0 p i k s track some.1 less refl time
            cell some.2)
            ∙ same_asked i (Some (arrives_at some.0))
            ∙ sym (ap asked_of (sym (ap (λ x. get_or needs x no_wait) at.2) ∙ looked_up p less ∙ ap (wait_of (arrives_at p).agent) some.3 ∙ ap (λ j. wait_of j (Some (arrives_at some.0))) agent))
      ])

  -- ---- where there is no such entry

  pub no_cell_at : (i k : ℕ) → ((e : ℕ) → IsEntry ends i k e → ⊥) → slice_get (route_in tt i).cells k ≡ None
  no_cell_at i k none = by (track_of tt i) refl where
    by : (o : Option Track) → track_of tt i ≡ o → slice_get (route_in tt i).cells k ≡ None
    by None is = ap (λ o. slice_get (route_by tt i o).cells k) is
    by (Some track) is = ap (λ o. slice_get (route_by tt i o).cells k) is ∙ slice_get_past (path track) k (elim (cases_lt k (length (path track))) [
      | inl less ↦ absurd (none (begin_in ends i + k) (entry_at tt.tracks (all_entered tt.tracks) (all_times tt.tracks) ends h.line.paths i k track is less))
      | inr past ↦ past
    ])

  no_moves : (i k : ℕ) (track : Track) → track_of tt i ≡ Some track → ((e : ℕ) → IsEntry ends i (k + 1) e → ⊥) → moves track ≤ k
  no_moves i k track is none = elim (cases_lt k (moves track)) [
    | inl less ↦ (
        let long = length-path track.start track.later in
        absurd (none (begin_in ends i + (k + 1)) (entry_at tt.tracks (all_entered tt.tracks) (all_times tt.tracks) ends h.line.paths i (k + 1) track is (omega (arith, less, long))))
        )
    | inr past ↦ past
  ]

  past_moves : {X : Type 0} (f : ℕ → X) (k n : ℕ) → n ≤ k → slice_get (map f (range_with_len 0 n)) k ≡ None
  past_moves f k n past = (let long = length-map-range_with_len f 0 n in slice_get_past (map f (range_with_len 0 n)) k (omega (arith, past, long)))

  pub no_step_at : (i k : ℕ) → ((e : ℕ) → IsEntry ends i (k + 1) e → ⊥) → slice_get (route_in tt i).steps k ≡ None
  no_step_at i k none = by (track_of tt i) refl where
    by : (o : Option Track) → track_of tt i ≡ o → slice_get (route_in tt i).steps k ≡ None
    by None is = ap (λ o. slice_get (route_by tt i o).steps k) is
    by (Some track) is = ap (λ o. slice_get (route_by tt i o).steps k) is ∙ past_moves (step_of track) k (moves track) (no_moves i k track is none)

  pub no_need_at : (i k : ℕ) → ((e : ℕ) → IsEntry ends i (k + 1) e → ⊥) → slice_get (route_in tt i).needs k ≡ None
  no_need_at i k none = by (track_of tt i) refl where
    by : (o : Option Track) → track_of tt i ≡ o → slice_get (route_in tt i).needs k ≡ None
    by None is = ap (λ o. slice_get (route_by tt i o).needs k) is
    by (Some track) is = ap (λ o. slice_get (route_by tt i o).needs k) is ∙ past_moves (need tt i track) k (moves track) (no_moves i k track is none)

  -- ---- what is looked up is there

  pub begins_before : (i : ℕ) → i < length ends → begin_in ends i ≤ get_or ends i 0
  begins_before i less = begin_most tt.tracks (all_entered tt.tracks) (all_times tt.tracks) ends h.line.paths i less

  pub entry_inside : (i k e : ℕ) → IsEntry ends i k e → (e < length cells) × (e < length times) × (e < length needs)
  entry_inside i k e entry =
      let within = entry-within tt.tracks (all_entered tt.tracks) (all_times tt.tracks) ends h.line.paths i k e entry in
      let same = ap length h.are_cells in
      let timed = ap length h.are_times in
      let noted_all = h.are_needs.count in
      let count = h.placing.visit_count in
      let scheduled = h.line.schedule.count in
      let all = same_count tt.tracks (all_entered tt.tracks) (all_times tt.tracks) ends h.line.paths in
      (omega (arith, within, same), omega (arith, within, timed, all), omega (arith, within, noted_all, count, scheduled, all))

  -- ---- the agents

  pub ends_count : length ends ≡ length tt.tracks
  ends_count = h.line.paths.count

  pub kept_moves : (i : ℕ) → i < length ends → (begin_in ends i + 1 ≤ get_or ends i 0) × (track_of tt i ≡ Some (get_or tt.tracks i no_track)) ×
      (get_or ends i 0 - begin_in ends i - 1 ≡ moves (get_or tt.tracks i no_track))
  kept_moves i less =
      let count = ends_count in
      let within : i < length tt.tracks = omega (arith, less, count) in
      let track = get_or tt.tracks i no_track in
      let is = slice_get-get_or tt.tracks i no_track within in
      let begin = begin_is tt.tracks (all_entered tt.tracks) (all_times tt.tracks) ends h.line.paths i within in
      let end = end_is tt.tracks (all_entered tt.tracks) (all_times tt.tracks) ends h.line.paths i track is in
      let long = length-path track.start track.later in
      (omega (arith, begin, end, long), is, omega (arith, begin, end, long))

  pub few_moves : (i : ℕ) → i < length ends → get_or ends i 0 - begin_in ends i - 1 < 2 ^ 16
  few_moves i less =
      let some = (kept_moves i less).0 in
      h.line.few.own i (get_or ends i 0 - begin_in ends i - 1) (get_or ends i 0 - 1) (record { is_agent = less; place = omega (arith, some); within = omega (arith, some) })

  pub no_track_at : (i : ℕ) → length ends ≤ i → track_of tt i ≡ None
  no_track_at i past = (let count = ends_count in slice_get_past tt.tracks i (omega (arith, past, count)))

  pub kept_route : (i : ℕ) (track : Track) → track_of tt i ≡ Some track → IsRouteOf tt i track (route_in tt i)
  kept_route i track is = subst (λ o. IsRouteOf tt i track (route_by tt i o)) (sym is) (record {
    cells = refl;
    step_count = length-map-range_with_len (step_of track) 0 (moves track);
    steps = λ k less. of_moves (step_of track) k (moves track) less;
    need_count = length-map-range_with_len (need tt i track) 0 (moves track);
    needs = λ k less. of_moves (need tt i track) k (moves track) less;
  })

  -- ---- the visits

  -- the visits of a cell stand between two places
  kept_part : (n : ℕ) → n < length visit_ends → (begin_in visit_ends n < get_or visit_ends n 0) × (get_or visit_ends n 0 ≤ length visits)
  kept_part n less =
      let held = h.placing.end_count in
      let within : n < length h.placing.names = omega (arith, less, held) in
      let listed = h.placing.listed in
      let found = h.placing.numbered.occurs n within in
      let some = tally-within listed found.0 n found.1 found.2 in
      let begin = begin-below tt.number tt.tracks ends h.arrivals h.step_ends h.line visits visit_ends h.placing n within in
      let end = end-below tt.number tt.tracks ends h.arrivals h.step_ends h.line visits visit_ends h.placing n within in
      let next : below listed (suc n) ≡ below listed n + tally listed n = refl in
      let most = part-within tt.number tt.tracks ends h.arrivals h.step_ends h.line visits visit_ends h.placing n within in
      (omega (arith, begin, end, next, some), omega (arith, end, most))

  module _ (order : List ℕ) (first : IsOrder h.placing.listed order) where
    abbrev pub visited_cells : List Visited
    visited_cells = listing order h.placing.names visit_ends visits

    pub kept_visits : AreAllVisits tt visited_cells
    kept_visits = all_visits tt.number tt.tracks ends h.arrivals h.step_ends h.line visits visit_ends h.placing h.graphed.conflict_free order first

    pub kept_count : length order ≡ length visited_cells
    kept_count = sym (length-map order (visited h.placing.names visit_ends visits))

    pub few_visited : length order < 2 ^ 32
    few_visited =
        let few = first.few in
        let all = h.placing.all in
        let scheduled = h.line.schedule.count in
        let times = same_count tt.tracks (all_entered tt.tracks) (all_times tt.tracks) ends h.line.paths in
        let limit = h.line.few.all in
        omega (arith, few, all, scheduled, times, limit)

    -- Each number in the order is that of a cell, whose visits stand between two places.
    pub record IsNumber (m n : ℕ) : Type 0 where
      pub known : n < length visit_ends
      pub begin : begin_in visit_ends n ≤ get_or visit_ends n 0
      pub within : get_or visit_ends n 0 ≤ length visits
      pub listed : slice_get visited_cells m ≡ Some (record { cell = get_or h.placing.names n no_cell; visits = part_of visit_ends visits n })

    pub kept_number : (m n : ℕ) → slice_get order m ≡ Some n → IsNumber m n
    kept_number m n at =
        let less = slice_get_within order m n at in
        let found = first.sound m less in
        let known = h.placing.numbered.known found.0 found.1 in
        let is = found.2 ∙ get_or_from_slice_get order m n 0 at in
        let held = h.placing.end_count in
        let within : n < length visit_ends = omega (arith, known, is, held) in
        let part = kept_part n within in
        let some = part.0 in
        record { known = within; begin = omega (arith, some); within = part.1; listed = listing-get order h.placing.names visit_ends visits m n at }

    pub past_visits : (m : ℕ) → slice_get order m ≡ None → slice_get visited_cells m ≡ None
    past_visits m none = slice_get-map (visited h.placing.names visit_ends visits) order m ∙ ap (option_map (visited h.placing.names visit_ends visits)) none

    -- ---- the visits of one cell

    pub visits_of_cell : (m n : ℕ) (c : Cell) → slice_get order m ≡ Some n → get_or h.placing.names n no_cell ≡ c → AreVisitsTo tt c (part_of visit_ends visits n)
    visits_of_cell m n c at is =
        subst (λ x. AreVisitsTo tt x (part_of visit_ends visits n)) is
        (kept_visits.sound m (visited h.placing.names visit_ends visits n) (listing-get order h.placing.names visit_ends visits m n at))

    -- no visit leads to a cell that has no number in the order
    pub not_visited : (c : Cell) → ((m n : ℕ) → slice_get order m ≡ Some n → get_or h.placing.names n no_cell ≡ c → ⊥) → (v : Visit) → IsVisitTo tt c v → ⊥
    not_visited c none v is =
        let found = kept_visits.whole c v is in
        let inside = slice_get_within visited_cells found.0 found.1 found.2 in
        let count = kept_count in
        let at = slice_get-get_or order found.0 0 (omega (arith, inside, count)) in
        let listed = listing-get order h.placing.names visit_ends visits found.0 (get_or order found.0 0) at in
        let same = same_Some (visited h.placing.names visit_ends visits (get_or order found.0 0)) found.1 (sym listed ∙ found.2) in
        none found.0 (get_or order found.0 0) at (ap (λ x. x.cell) same ∙ found.3)
