-- The visits of a cell stand together, by time, and the cells are listed in order of first visit.
use Rattle.std.proofs.Common.{◌≡◌, ℕ, zero, suc, ◌+◌, ◌-◌, ◌<◌, ◌≤◌, List, length, get_or, take, drop, Some, inl, inr, arith, refl, sym, ap, subst, ◌∙◌}
use Rattle.std.specs.Prelude.{slice_get, option_map}
use Rattle.std.proofs.lemmas.Bool.{cases_lt}
use Rattle.std.proofs.lemmas.List.{get_or-take, get_or-drop, length-take-le, length-drop, length-map}
use Rattle.std.proofs.lemmas.Option.{slice_get-get_or, slice_get-map, slice_get_within, get_or_from_slice_get, same_Some}
use Rattle.grid.specs.declared.cell.Cell.{Cell}
use Rattle.model.specs.declared.visit.Visit.{Visit}
use Rattle.model.specs.Timetable.{Track, IsConflictFree}
use Rattle.depgraph.specs.declared.placing.Arrival.{Arrival}
use Rattle.depgraph.specs.Visits.{IsVisitTo, AreVisitsTo, ComesBefore, Visited, AreAllVisits}
use Rattle.depgraph.specs.Code.Entries.{begin_in}
use Rattle.depgraph.specs.Code.Waits.{no_visit}
use Rattle.depgraph.specs.Code.Numbers.{no_cell}
use Rattle.depgraph.specs.Code.Orders.{IsOrder}
use Rattle.depgraph.specs.Code.Placing.{IsTimeline, IsPlacing, part_of, visited, listing}
use Rattle.depgraph.specs.Code.Ranks.{tally, below, rank}
use Rattle.depgraph.proofs.PositionLemmas.{table, visit_at, cell_of, arrival-visit, visit-arrival, arrivals-rise, times-rise}
use Rattle.depgraph.proofs.RankLemmas.{tally-same, tally-up_to, tally-within, rank-is, occurs, IsOccurrence, occurrences_rise, occurrence-first, ranked, below-all, below-up_to}

-- ---- a part of a list

pub part-long : {X : Type 0} (xs : List X) (begin count : ℕ) → begin + count ≤ length xs → length (take count (drop begin xs)) ≡ count
part-long xs begin count most = let left = length-drop begin xs in length-take-le count (drop begin xs) (omega (arith, left, most))

pub part-get : {X : Type 0} (xs : List X) (begin count k : ℕ) (d : X) → begin + count ≤ length xs → k < count → slice_get (take count (drop begin xs)) k ≡ slice_get xs (begin + k)
part-get xs begin count k d most less =
    let long = part-long xs begin count most in
    slice_get-get_or (take count (drop begin xs)) k d (omega (arith, less, long)) ∙ ap Some (get_or-take count (drop begin xs) k d less ∙ get_or-drop begin xs k d)
    ∙ sym (slice_get-get_or xs (begin + k) d (omega (arith, most, less)))

pub listing-get : (order : List ℕ) (names : List Cell) (ends : List ℕ) (visits : List Visit) (m n : ℕ) → slice_get order m ≡ Some n
    → slice_get (listing order names ends visits) m ≡ Some (visited names ends visits n)
listing-get order names ends visits m n at = slice_get-map (visited names ends visits) order m ∙ ap (option_map (visited names ends visits)) at

module _ (number : ℕ) (tracks : List Track) (ends : List ℕ) (arrivals : List Arrival) (step_ends : List ℕ) (line : IsTimeline tracks ends arrivals step_ends)
    (visits : List Visit) (visit_ends : List ℕ) (h : IsPlacing tracks ends arrivals visits visit_ends) where
  pub begin-below : (n : ℕ) → n < length h.names → begin_in visit_ends n ≡ below h.listed n
  begin-below zero less = refl
  begin-below (suc n) less = (let count = h.end_count in h.visit_end n (omega (arith, less, count)))

  pub end-below : (n : ℕ) → n < length h.names → get_or visit_ends n 0 ≡ below h.listed (suc n)
  end-below n less = (let count = h.end_count in h.visit_end n (omega (arith, less, count)))

  pub number-within : (p : ℕ) → p < length arrivals → get_or h.listed p 0 < length h.names
  number-within p less = (let all = h.all in h.numbered.known p (omega (arith, less, all)))

  pub name-of : (p : ℕ) → p < length arrivals → get_or h.names (get_or h.listed p 0) no_cell ≡ cell_of number tracks ends arrivals step_ends line p
  name-of p less = (let all = h.all in get_or_from_slice_get h.names (get_or h.listed p 0) (cell_of number tracks ends arrivals step_ends line p) no_cell
      (h.numbered.named p (omega (arith, less, all))))

  -- the visit at the place of an arrival by its cell's number
  pub visit-at_rank : (p : ℕ) → p < length arrivals → get_or visits (rank h.listed p) no_visit ≡ visit_at number tracks ends arrivals step_ends line p
  visit-at_rank p less = get_or_from_slice_get visits (rank h.listed p) (visit_at number tracks ends arrivals step_ends line p) no_visit (h.placed p less)

  -- the arrival of the visit at a place
  pub arrival-at : (k : ℕ) → k < length visits
      → (p : ℕ) × (p < length arrivals) × (rank h.listed p ≡ k) × (get_or visits k no_visit ≡ visit_at number tracks ends arrivals step_ends line p)
  arrival-at k less =
      let all = h.all in
      let count = h.visit_count in
      let whole = below-all h.listed (length h.names) h.numbered.known in
      let found = ranked h.listed (length h.names) k (omega (arith, less, count, all, whole)) in
      let inside = found.1 in
      let within : found.0 < length arrivals = omega (arith, inside, all) in
      (found.0, within, found.2, sym (ap (λ n. get_or visits n no_visit) found.2) ∙ visit-at_rank found.0 within)

  -- arrivals in one cell have one number
  pub one_number : (p q : ℕ) → p < length arrivals → q < length arrivals → cell_of number tracks ends arrivals step_ends line p ≡ cell_of number tracks ends arrivals step_ends line q
      → get_or h.listed p 0 ≡ get_or h.listed q 0
  one_number p q in_p in_q cell =
      let all = h.all in
      h.numbered.distinct (get_or h.listed p 0) (get_or h.listed q 0) (cell_of number tracks ends arrivals step_ends line q)
      (h.numbered.named p (omega (arith, in_p, all)) ∙ ap Some cell) (h.numbered.named q (omega (arith, in_q, all)))

  pub part-within : (n : ℕ) → n < length h.names → below h.listed (suc n) ≤ length visits
  part-within n less =
      let rises = below-up_to h.listed (suc n) (length h.names) (omega (arith, less)) in
      let whole = below-all h.listed (length h.names) h.numbered.known in
      let all = h.all in
      let long = h.visit_count in
      omega (arith, rises, whole, all, long)

  pub part-count : (n : ℕ) → n < length h.names → length (part_of visit_ends visits n) ≡ tally h.listed n
  part-count n less =
      let begin = begin-below n less in
      let end = end-below n less in
      let next : below h.listed (suc n) ≡ below h.listed n + tally h.listed n = refl in
      let most = part-within n less in
      part-long visits (begin_in visit_ends n) (get_or visit_ends n 0 - begin_in visit_ends n) (omega (arith, begin, end, next, most)) ∙ omega (arith, begin, end, next)

  -- the visit at a place of a cell's part is that of the arrival before which as many had the cell's number
  pub part-visit : (n k : ℕ) → n < length h.names → k < tally h.listed n → (p : ℕ) × IsOccurrence h.listed n k p × (p < length arrivals)
      × (slice_get (part_of visit_ends visits n) k ≡ Some (visit_at number tracks ends arrivals step_ends line p))
  part-visit n k less inside =
      let found = occurs h.listed n k inside in
      let p = found.0 in
      let begin = begin-below n less in
      let end = end-below n less in
      let next : below h.listed (suc n) ≡ below h.listed n + tally h.listed n = refl in
      let most = part-within n less in
      let all = h.all in
      let own = found.1.within in
      let within : p < length arrivals = omega (arith, own, all) in
      let before = found.1.before in
      let place : begin_in visit_ends n + k ≡ rank h.listed p = (let is = rank-is h.listed p n found.1.key in omega (arith, begin, is, before)) in (
        p,
        found.1,
        within,
        part-get visits (begin_in visit_ends n) (get_or visit_ends n 0 - begin_in visit_ends n) k no_visit (omega (arith, begin, end, next, most)) (omega (arith, begin, end, next, inside))
            ∙ ap (slice_get visits) place ∙ h.placed p within,
      )

  -- the same, from what stands there
  pub part-arrival : (n k : ℕ) (v : Visit) → n < length h.names → slice_get (part_of visit_ends visits n) k ≡ Some v → (p : ℕ) × IsOccurrence h.listed n k p × (p < length arrivals)
      × (visit_at number tracks ends arrivals step_ends line p ≡ v)
  part-arrival n k v less at =
      let long = part-count n less in
      let inside = slice_get_within (part_of visit_ends visits n) k v at in
      let found = part-visit n k less (omega (arith, inside, long)) in
      (found.0, found.1, found.2, same_Some (visit_at number tracks ends arrivals step_ends line found.0) v (sym found.3 ∙ at))

  pub at-cell : (n k p : ℕ) → p < length arrivals → IsOccurrence h.listed n k p → cell_of number tracks ends arrivals step_ends line p ≡ get_or h.names n no_cell
  at-cell n k p less occurs = sym (name-of p less) ∙ ap (λ m. get_or h.names m no_cell) occurs.key

  module _ (free : IsConflictFree (table number tracks ends arrivals step_ends line)) where
    pub part-visits : (n : ℕ) → n < length h.names → AreVisitsTo (table number tracks ends arrivals step_ends line) (get_or h.names n no_cell) (part_of visit_ends visits n)
    part-visits n less = record {
      some = (
          let found = h.numbered.occurs n less in
          let some = tally-within h.listed found.0 n found.1 found.2 in
          let long = part-count n less in
          omega (arith, some, long)
          );
      sound = λ k v at.
          let found = part-arrival n k v less at in
          subst (IsVisitTo (table number tracks ends arrivals step_ends line) (get_or h.names n no_cell)) found.3
          (subst (λ c. IsVisitTo (table number tracks ends arrivals step_ends line) c (visit_at number tracks ends arrivals step_ends line found.0)) (at-cell n k found.0 found.2 found.1)
          (arrival-visit number tracks ends arrivals step_ends line found.0 found.2));
      whole = λ v is.
          let found = visit-arrival number tracks ends arrivals step_ends line v (get_or h.names n no_cell) is in
          let p = found.0 in
          let all = h.all in
          let inside = found.1 in
          let key : get_or h.listed p 0 ≡ n = h.numbered.distinct (get_or h.listed p 0) n (get_or h.names n no_cell) (h.numbered.named p (omega (arith, inside, all)) ∙ ap Some found.3)
          (slice_get-get_or h.names n no_cell less) in
          let k = tally (take p h.listed) n in
          let few = tally-within h.listed p n (omega (arith, inside, all)) key in
          let own = part-visit n k less few in
          let same : own.0 ≡ p = one_occurrence n k own.0 p own.1 (record { within = omega (arith, inside, all); key = key; before = refl }) in
          (k, own.3 ∙ ap Some (ap (visit_at number tracks ends arrivals step_ends line) same ∙ found.2));
      rising = λ k l v w before at_k at_l.
          let first = part-arrival n k v less at_k in
          let second = part-arrival n l w less at_l in
          let rises = occurrences_rise h.listed n k l first.0 second.0 before first.1 second.1 in
          let cell = at-cell n k first.0 first.2 first.1 ∙ sym (at-cell n l second.0 second.2 second.1) in
          let times = times-rise number tracks ends arrivals step_ends line first.0 second.0 free rises second.2 cell in
          let a = ap (λ x. x.time) first.3 in
          let b = ap (λ x. x.time) second.3 in
          omega (arith, times, a, b);
    } where
      one_occurrence : (n k p q : ℕ) → IsOccurrence h.listed n k p → IsOccurrence h.listed n k q → p ≡ q
      one_occurrence n k p q first second = elim (cases_lt p q) [
        | inl less ↦ absurd (never n k p q less first second)
        | inr not_less ↦ elim (cases_lt q p) [
          | inl less ↦ absurd (never n k q p less second first)
          | inr not_more ↦ omega (arith, not_less, not_more)
        ]
      ] where
        never : (n k p q : ℕ) → p < q → IsOccurrence h.listed n k p → IsOccurrence h.listed n k q → ⊥
        never n k p q less first second =
            let more = tally-same h.listed p n first.within first.key in
            let inside = second.within in
            let rises = tally-up_to h.listed (p + 1) q n (omega (arith, less)) (omega (arith, inside)) in
            let a = first.before in
            let b = second.before in
            omega (arith, more, rises, a, b)

    module _ (order : List ℕ) (first : IsOrder h.listed order) where
      -- a listed cell's number
      number-at : (m : ℕ) (at : Visited) → slice_get (listing order h.names visit_ends visits) m ≡ Some at
          → (n : ℕ) × (slice_get order m ≡ Some n) × (n < length h.names) × (m < length order) × (at ≡ visited h.names visit_ends visits n)
      number-at m at there =
          let inside = slice_get_within (listing order h.names visit_ends visits) m at there in
          let long = length-map order (visited h.names visit_ends visits) in
          let less : m < length order = omega (arith, inside, long) in
          let is = slice_get-get_or order m 0 less in
          let found = first.sound m less in
          let known = h.numbered.known found.0 found.1 in (
            get_or order m 0,
            is,
            subst (λ k. k < length h.names) found.2 known,
            less,
            same_Some at (visited h.names visit_ends visits (get_or order m 0)) (sym there ∙ listing-get order h.names visit_ends visits m (get_or order m 0) is),
          )

      pub all_visits : AreAllVisits (table number tracks ends arrivals step_ends line) (listing order h.names visit_ends visits)
      all_visits = record {
        sound = λ m at there.
            let n = number-at m at there in
            subst (λ x. AreVisitsTo (table number tracks ends arrivals step_ends line) x.cell x.visits) (sym n.4) (part-visits n.0 n.2);
        whole = λ c v is.
            let found = visit-arrival number tracks ends arrivals step_ends line v c is in
            let all = h.all in
            let inside = found.1 in
            let at = first.whole found.0 (omega (arith, inside, all)) in (
              at.0,
              visited h.names visit_ends visits (get_or h.listed found.0 0),
              listing-get order h.names visit_ends visits at.0 (get_or h.listed found.0 0) at.1,
              name-of found.0 found.1 ∙ found.3,
            );
        rising = λ m l at later v w less at_m at_l at_v at_w.
            let a = number-at m at at_m in
            let b = number-at l later at_l in
            let p = part-arrival a.0 0 v a.2 (sym (ap (λ x. slice_get x.visits 0) a.4) ∙ at_v) in
            let q = part-arrival b.0 0 w b.2 (sym (ap (λ x. slice_get x.visits 0) b.4) ∙ at_w) in
            let all = h.all in
            let in_q = q.2 in
            let sooner = first.rising m l q.0 less b.3 (omega (arith, in_q, all)) (q.1.key ∙ sym (get_or_from_slice_get order l b.0 0 b.1)) in
            let earlier = sooner.1 in
            let before = occurrence-first h.listed a.0 p.0 sooner.0 p.1 (sooner.2 ∙ get_or_from_slice_get order m a.0 0 a.1) in
            subst (λ x. ComesBefore x w) p.3 (subst (ComesBefore (visit_at number tracks ends arrivals step_ends line p.0)) q.3
            (arrivals-rise number tracks ends arrivals step_ends line p.0 q.0 (omega (arith, earlier, before)) q.2));
      }
