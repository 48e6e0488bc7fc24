-- What a move waits for is told by the visit before its own in the same cell.
use Rattle.std.proofs.Common.{◌≡◌, ℕ, suc, ◌+◌, ◌<◌, ◌≤◌, List, length, get_or, take, Some, None, inl, inr, arith, refl, sym, ap, subst, ◌∙◌}
use Rattle.std.specs.Prelude.{Option, ◌==◌, if◌then◌else◌}
use Rattle.std.proofs.lemmas.Bool.{cases_lt}
use Rattle.std.proofs.lemmas.Option.{same_Some}
use Rattle.grid.specs.declared.cell.Cell.{Cell}
use Rattle.model.specs.declared.visit.Visit.{Visit}
use Rattle.model.specs.Timetable.{Track, Timetable, cell_at, moves_before, path, step_of, track_of, Stands, IsConflictFree}
use Rattle.model.specs.Dependency.{Stand, moves_in, moves_to, need_by, need, last_stand}
use Rattle.model.specs.Laws.Tracks.{cell-visit, moves-rise, moves-leave}
use Rattle.model.specs.Laws.Needs.{IsLastBelow, last_stand-is, stands-track, stands-from}
use Rattle.depgraph.specs.declared.placing.Arrival.{Arrival}
use Rattle.depgraph.specs.Visits.{IsVisitTo}
use Rattle.depgraph.specs.Code.Keeping.{need_of}
use Rattle.depgraph.specs.Code.Placing.{IsTimeline, IsPlacing}
use Rattle.depgraph.specs.Code.Ranks.{tally}
use Rattle.depgraph.proofs.BlockLemmas.{one_number}
use Rattle.depgraph.proofs.PositionLemmas.{table, visit_at, cell_of, arrival-visit, visit-arrival, one_arrival, times-rise}
use Rattle.depgraph.proofs.RankLemmas.{tally-same, tally-up_to}
use Rattle.depgraph.proofs.VisitLemmas.{arrival}

-- in the same cell as long as no move is made
pub same_place : (track : Track) (s t : ℕ) → moves_before track s ≡ moves_before track t → cell_at track s ≡ cell_at track t
same_place track s t same =
    sym (cell-visit track.start track.later s track.start) ∙ ap (λ n. get_or (path track) n track.start) same ∙ cell-visit track.start track.later t track.start

module _ (number : ℕ) (tracks : List Track) (ends : List ℕ) (arrivals : List Arrival) (step_ends : List ℕ) (line : IsTimeline tracks ends arrivals step_ends)
    (visits : List Visit) (visit_ends : List ℕ) (h : IsPlacing tracks ends arrivals visits visit_ends)
    (free : IsConflictFree (table number tracks ends arrivals step_ends line)) where
  abbrev pub tt : Timetable
  tt = table number tracks ends arrivals step_ends line

  abbrev pub visit_of : ℕ → Visit
  visit_of p = visit_at number tracks ends arrivals step_ends line p

  abbrev cell_in : ℕ → Cell
  cell_in p = cell_of number tracks ends arrivals step_ends line p

  visit_stands : (p : ℕ) → p < length arrivals → Stands tt (visit_of p).agent (visit_of p).time (cell_in p)
  visit_stands p less =
      let v = arrival-visit number tracks ends arrivals step_ends line p less in
      stands-from tt (visit_of p).agent (visit_of p).time (cell_in p) v.track v.is_track v.is_there

  -- who stands in a cell came into it by a visit
  stander-visit : (j t : ℕ) (c : Cell) → Stands tt j t c → (q : ℕ) × (q < length arrivals) × (cell_in q ≡ c) × ((visit_of q).agent ≡ j) × ((visit_of q).time ≤ t)
      × ((visit_of q).index ≡ moves_to tt j t)
  stander-visit j t c stands =
      let own = stands-track tt j t c stands in
      let track = own.0 in
      let came = arrival track t in
      let v : Visit = record { agent = j; index = moves_before track t; time = came.0 } in
      let is : IsVisitTo tt c v = record {
        track = track;
        is_track = own.1;
        is_index = came.2.0;
        is_there = came.3 ∙ own.2;
        comes = λ before e same. came.2.1 before e (same ∙ sym (came.3 ∙ own.2));
      } in
      let found = visit-arrival number tracks ends arrivals step_ends line v c is in
      let most = came.1 in
      let time = ap (λ x. x.time) found.2 in
      (found.0, found.1, found.3, ap (λ x. x.agent) found.2, omega (arith, most, time), ap (λ x. x.index) found.2 ∙ sym (ap (λ o. moves_in o t) own.1))

  -- of two arrivals in one cell the one at the earlier time is before the other
  earlier-before : (q p : ℕ) → q < length arrivals → p < length arrivals → cell_in q ≡ cell_in p → (visit_of q).time < (visit_of p).time → q < p
  earlier-before q p in_q in_p cell less = elim (cases_lt q p) [
    | inl before ↦ before
    | inr after ↦ elim (cases_lt p q) [
      | inl later ↦ (let wrong = times-rise number tracks ends arrivals step_ends line p q free later in_q (sym cell) in absurd (omega (arith, wrong, less)))
      | inr not_later ↦ (
          let one : p ≡ q = omega (arith, after, not_later) in
          let time = ap (λ x. (visit_of x).time) one in
          absurd (omega (arith, time, less))
          )
    ]
  ]

  -- ---- nobody before

  pub nobody-before : (p s : ℕ) (c : Cell) (o : Option Stand) → p < length arrivals → (visit_of p).time ≡ s + 1 → cell_in p ≡ c → IsLastBelow tt c (s + 1) o
      → tally (take p h.listed) (get_or h.listed p 0) ≡ 0 → o ≡ None
  nobody-before p s c None in_p time cell last none = refl
  nobody-before p s c (Some st) in_p time cell last none =
      let found = stander-visit st.agent st.time c last.0 in
      let q = found.0 in
      let most = found.4 in
      let below = last.1 in
      let same = found.2 ∙ sym cell in
      let before = earlier-before q p found.1 in_p same (omega (arith, most, below, time)) in
      let all = h.all in
      let key = one_number number tracks ends arrivals step_ends line visits visit_ends h q p found.1 in_p same in
      let more = tally-same h.listed q (get_or h.listed p 0) (omega (arith, before, in_p, all)) key in
      let rises = tally-up_to h.listed (q + 1) p (get_or h.listed p 0) (omega (arith, before)) (omega (arith, in_p, all)) in
      absurd (omega (arith, more, rises, none))

  -- ---- the visit before

  -- the arrival just before another in the same cell
  pub record IsJustBefore (q p : ℕ) : Type 0 where
    pub before : q < p
    pub key : get_or h.listed q 0 ≡ get_or h.listed p 0
    pub cell : cell_in q ≡ cell_in p
    pub next : tally (take q h.listed) (get_or h.listed p 0) + 1 ≡ tally (take p h.listed) (get_or h.listed p 0)

  -- nobody came between
  pub none_between : (q x p : ℕ) → p < length arrivals → IsJustBefore q p → q < x → x < p → get_or h.listed x 0 ≡ get_or h.listed p 0 → ⊥
  none_between q x p in_p just after before key =
      let n = get_or h.listed p 0 in
      let all = h.all in
      let first = tally-same h.listed q n (omega (arith, after, before, in_p, all)) just.key in
      let second = tally-same h.listed x n (omega (arith, before, in_p, all)) key in
      let to_x = tally-up_to h.listed (q + 1) x n (omega (arith, after)) (omega (arith, before, in_p, all)) in
      let to_p = tally-up_to h.listed (x + 1) p n (omega (arith, before)) (omega (arith, in_p, all)) in
      let next = just.next in
      omega (arith, first, second, to_x, to_p, next)

  -- who was last in the cell came into it by the visit before
  pub last-visit : (q p s : ℕ) (c : Cell) (st : Stand) → q < length arrivals → p < length arrivals → (visit_of p).time ≡ s + 1 → cell_in p ≡ c → IsLastBelow tt c (s + 1) (Some st)
      → IsJustBefore q p → ((visit_of q).agent ≡ st.agent) × ((visit_of q).index ≡ moves_to tt st.agent st.time)
  last-visit q p s c st in_q in_p time cell last just =
      let found = stander-visit st.agent st.time c last.0 in
      let x = found.0 in
      let most = found.4 in
      let below = last.1 in
      let same = found.2 ∙ sym cell in
      let before = earlier-before x p found.1 in_p same (omega (arith, most, below, time)) in
      let key = one_number number tracks ends arrivals step_ends line visits visit_ends h x p found.1 in_p same in
      let one : q ≡ x = (elim (cases_lt q x) [
        | inl after ↦ absurd (none_between q x p in_p just after before key)
        | inr not_after ↦ elim (cases_lt x q) [
          | inl sooner ↦ absurd (left found sooner)
          | inr not_sooner ↦ omega (arith, not_after, not_sooner)
        ]
      ]) in
      (ap (λ y. (visit_of y).agent) one ∙ found.3, ap (λ y. (visit_of y).index) one ∙ found.5)
    where
      left : (found : (y : ℕ) × (y < length arrivals) × (cell_in y ≡ c) × ((visit_of y).agent ≡ st.agent) × ((visit_of y).time ≤ st.time) × ((visit_of y).index ≡ moves_to tt st.agent st.time))
          → found.0 < q → ⊥
      left found sooner =
          let x = found.0 in
          let there = just.cell ∙ cell in
          let first = times-rise number tracks ends arrivals step_ends line x q free sooner in_q (found.2 ∙ sym there) in
          let second = times-rise number tracks ends arrivals step_ends line q p free just.before in_p just.cell in
          let stands_q = subst (Stands tt (visit_of q).agent (visit_of q).time) there (visit_stands q in_q) in
          let most : (visit_of q).time ≤ st.time = (elim (cases_lt st.time (visit_of q).time) [
            | inl later ↦ absurd (last.2 (visit_of q).time (visit_of q).agent later (omega (arith, second, time)) stands_q)
            | inr not_later ↦ not_later
          ]) in
          let own = stands-track tt st.agent st.time c last.0 in
          let track = own.0 in
          let v = arrival-visit number tracks ends arrivals step_ends line x found.1 in
          let is_track = same_Some v.track track (sym v.is_track ∙ ap (track_of tt) found.3 ∙ own.1) in
          let at_x = sym (ap (λ k. moves_before k (visit_of x).time) is_track) ∙ v.is_index in
          let at_st = found.5 ∙ ap (λ o. moves_in o st.time) own.1 in
          let rise = moves-rise track.start track.later (visit_of x).time (visit_of q).time (omega (arith, first)) in
          let rises = moves-rise track.start track.later (visit_of q).time st.time most in
          let count : moves_before track (visit_of q).time ≡ (visit_of x).index = omega (arith, at_x, at_st, rise, rises) in
          let place = same_place track (visit_of q).time st.time (count ∙ at_st) ∙ own.2 in
          let agent = free (visit_of q).agent st.agent (visit_of q).time c stands_q (stands-from tt st.agent (visit_of q).time c track own.1 place) in
          let w = arrival-visit number tracks ends arrivals step_ends line q in_q in
          let also_track = same_Some w.track track (sym w.is_track ∙ ap (track_of tt) agent ∙ own.1) in
          let index = sym w.is_index ∙ ap (λ k. moves_before k (visit_of q).time) also_track ∙ count in
          let one = one_arrival number tracks ends arrivals step_ends line x q found.1 in_q (found.3 ∙ sym agent) (sym index) in
          omega (arith, one, sooner)

  -- it leaves in the next step
  leaves-next : (p s : ℕ) (c : Cell) (st : Stand) → p < length arrivals → (visit_of p).time ≡ s + 1 → cell_in p ≡ c → IsLastBelow tt c (s + 1) (Some st)
      → moves_to tt st.agent (st.time + 1) ≡ moves_to tt st.agent st.time + 1
  leaves-next p s c st in_p time cell last =
      let own = stands-track tt st.agent st.time c last.0 in
      let track = own.0 in
      let next : st.time + 1 ≡ suc st.time = omega arith in
      let gone : cell_at track st.time ≡ cell_at track (suc st.time) → ⊥ = λ same. stays own (sym same ∙ own.2) in
      ap (λ o. moves_in o (st.time + 1)) own.1 ∙ ap (moves_before track) next ∙ moves-leave track.start track.later st.time gone
      ∙ ap (λ n. n + 1) (sym (ap (λ o. moves_in o st.time) own.1))
    where
      stays : (own : (track : Track) × (track_of tt st.agent ≡ Some track) × (cell_at track st.time ≡ c)) → cell_at own.0 (suc st.time) ≡ c → ⊥
      stays own same =
          let track = own.0 in
          let below = last.1 in
          let stands = stands-from tt st.agent (suc st.time) c track own.1 same in
          elim (cases_lt st.time s) [
            | inl earlier ↦ last.2 (suc st.time) st.agent (omega arith) (omega (arith, earlier)) stands
            | inr not_earlier ↦ (
                let at_s : st.time ≡ s = omega (arith, below, not_earlier) in
                let when : suc st.time ≡ (visit_of p).time = omega (arith, at_s, time) in
                let v = arrival-visit number tracks ends arrivals step_ends line p in_p in
                let mine = subst (Stands tt (visit_of p).agent (visit_of p).time) cell (visit_stands p in_p) in
                let agent = free (visit_of p).agent st.agent (visit_of p).time c mine (subst (λ t. Stands tt st.agent t c) when stands) in
                let is_track = same_Some v.track track (sym v.is_track ∙ ap (track_of tt) agent ∙ own.1) in
                v.comes st.time (omega (arith, when)) (ap (λ k. cell_at k st.time) is_track ∙ own.2 ∙ sym cell)
                )
          ]

  pub somebody-before : (q p s i : ℕ) (c : Cell) (o : Option Stand) → q < length arrivals → p < length arrivals → (visit_of p).time ≡ s + 1 → cell_in p ≡ c
      → IsLastBelow tt c (s + 1) o → IsJustBefore q p → need_by tt i o ≡ need_of i (Some (visit_of q))
  somebody-before q p s i c None in_q in_p time cell last just =
      let second = times-rise number tracks ends arrivals step_ends line q p free just.before in_p just.cell in
      absurd (last (visit_of q).time (visit_of q).agent (omega (arith, second, time)) (subst (Stands tt (visit_of q).agent (visit_of q).time) (just.cell ∙ cell) (visit_stands q in_q)))
  somebody-before q p s i c (Some st) in_q in_p time cell last just =
      let is = last-visit q p s c st in_q in_p time cell last just in
      let count = leaves-next p s c st in_p time cell last ∙ ap (λ n. n + 1) (sym is.1) in
      ap (λ n. if st.agent == i then None else Some (record { agent = st.agent; count = n })) count
      ∙ ap (λ a. if a == i then None else Some (record { agent = a; count = (visit_of q).index + 1 })) (sym is.0)

  -- ---- the need of a move

  pub need_none : (p i k s : ℕ) (track : Track) → p < length arrivals → step_of track k ≡ s → (visit_of p).time ≡ s + 1 → cell_in p ≡ cell_at track (s + 1)
      → tally (take p h.listed) (get_or h.listed p 0) ≡ 0 → need tt i track k ≡ None
  need_none p i k s track in_p step time cell none =
      ap (λ t. need_by tt i (last_stand tt (cell_at track (t + 1)) t)) step
      ∙ ap (need_by tt i) (nobody-before p s (cell_at track (s + 1)) (last_stand tt (cell_at track (s + 1)) s) in_p time cell (last_stand-is tt (cell_at track (s + 1)) s) none)

  pub need_some : (q p i k s : ℕ) (track : Track) → q < length arrivals → p < length arrivals → step_of track k ≡ s → (visit_of p).time ≡ s + 1 → cell_in p ≡ cell_at track (s + 1)
      → IsJustBefore q p → need tt i track k ≡ need_of i (Some (visit_of q))
  need_some q p i k s track in_q in_p step time cell just =
      ap (λ t. need_by tt i (last_stand tt (cell_at track (t + 1)) t)) step
      ∙ somebody-before q p s i (cell_at track (s + 1)) (last_stand tt (cell_at track (s + 1)) s) in_q in_p time cell (last_stand-is tt (cell_at track (s + 1)) s) just
