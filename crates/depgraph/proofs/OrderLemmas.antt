-- The cells as their first visits go are in order, and what the visits have to be for that.
use Rattle.std.proofs.Common.{◌≡◌, ℕ, zero, suc, ◌+◌, ◌*◌, ◌<◌, ◌≤◌, ◌^◌, List, length, get_or, Some, inl, inr, arith, refl, sym, ap, subst, ◌∙◌}
use Rattle.std.specs.List.{AllByRecursion}
use Rattle.std.proofs.lemmas.Bool.{cases_lt}
use Rattle.std.proofs.lemmas.Option.{slice_get-get_or}
use Rattle.model.specs.declared.visit.Visit.{Visit}
use Rattle.model.specs.Timetable.{Track}
use Rattle.plan_text.specs.Limits.{most_acts}
use Rattle.depgraph.specs.declared.placing.Arrival.{Arrival}
use Rattle.depgraph.specs.Code.Entries.{begin_in}
use Rattle.depgraph.specs.Code.Orders.{IsOrder, AreByFirst}
use Rattle.depgraph.specs.Code.Paths.{all_entered, all_times}
use Rattle.depgraph.specs.Code.Placing.{IsTimeline, IsPlacing}
use Rattle.depgraph.specs.Code.Ranks.{tally, below, rank}
use Rattle.depgraph.specs.Code.Schedules.{entry_in}
use Rattle.depgraph.specs.Code.Waits.{no_visit}
use Rattle.depgraph.proofs.BlockLemmas.{begin-below, end-below, visit-at_rank, arrival-at, part-within}
use Rattle.depgraph.proofs.FewLemmas.{few_times}
use Rattle.depgraph.proofs.PositionLemmas.{visit_at, arrivals-rise}
use Rattle.depgraph.proofs.RankLemmas.{tally-within, occurs, IsOccurrence, occurrence-rank, occurrence-first, below-all}
use Rattle.depgraph.proofs.ScheduleLemmas.{same_count, arrival-within}

-- where each number is some element's, they are no more than the elements
below-each : (keys : List ℕ) (k : ℕ) → ((n : ℕ) → n < k → 0 < tally keys n) → k ≤ below keys k
below-each keys zero some = omega arith
below-each keys (suc k) some =
    let before = below-each keys k (λ n less. some n (omega (arith, less))) in
    let own = some k (omega arith) in
    let next : below keys (suc k) ≡ below keys k + tally keys k = refl in
    omega (arith, before, own, next)

module _ (number : ℕ) (tracks : List Track) (ends : List ℕ) (arrivals : List Arrival) (step_ends : List ℕ) (line : IsTimeline tracks ends arrivals step_ends)
    (visits : List Visit) (visit_ends : List ℕ) (h : IsPlacing tracks ends arrivals visits visit_ends) where
  abbrev came : ℕ → Visit
  came p = visit_at number tracks ends arrivals step_ends line p

  -- each number is that of some arrival's cell
  some_arrival : (n : ℕ) → n < length h.names → 0 < tally h.listed n
  some_arrival n less =
      let found = h.numbered.occurs n less in
      let own = tally-within h.listed found.0 n found.1 found.2 in
      omega (arith, own)

  few_names : length h.names ≤ length h.listed
  few_names =
      let each = below-each h.listed (length h.names) some_arrival in
      let whole = below-all h.listed (length h.names) h.numbered.known in
      omega (arith, each, whole)

  -- ---- what the visits are

  pub few_numbers : length visit_ends < 2 ^ 32
  few_numbers =
      let named = h.end_count in
      let few = few_names in
      let all = h.all in
      let scheduled = line.schedule.count in
      let same = same_count tracks (all_entered tracks) (all_times tracks) ends line.paths in
      let most = line.few.all in
      omega (arith, named, few, all, scheduled, same, most)

  pub some_visit : (n : ℕ) → n < length visit_ends → begin_in visit_ends n < get_or visit_ends n 0
  some_visit n less =
      let named = h.end_count in
      let within : n < length h.names = omega (arith, less, named) in
      let begin = begin-below number tracks ends arrivals step_ends line visits visit_ends h n within in
      let end = end-below number tracks ends arrivals step_ends line visits visit_ends h n within in
      let next : below h.listed (suc n) ≡ below h.listed n + tally h.listed n = refl in
      let some = some_arrival n within in
      omega (arith, begin, end, next, some)

  pub end_within_visits : (n : ℕ) → n < length visit_ends → get_or visit_ends n 0 ≤ length visits
  end_within_visits n less =
      let named = h.end_count in
      let within : n < length h.names = omega (arith, less, named) in
      let end = end-below number tracks ends arrivals step_ends line visits visit_ends h n within in
      let most = part-within number tracks ends arrivals step_ends line visits visit_ends h n within in
      omega (arith, end, most)

  pub few_visit_times : AllByRecursion (λ track. length track.later ≤ most_acts) tracks → (k : ℕ) → k < length visits → (get_or visits k no_visit).time < 2 ^ 16
  few_visit_times steps k less =
      let at = arrival-at number tracks ends arrivals step_ends line visits visit_ends h k less in
      let inside = arrival-within tracks (all_entered tracks) (all_times tracks) ends arrivals at.0 line.paths line.schedule at.1 in
      let same = same_count tracks (all_entered tracks) (all_times tracks) ends line.paths in
      let few = few_times tracks (entry_in ends arrivals at.0) steps (omega (arith, inside, same)) in
      subst (λ v. v.time < 2 ^ 16) (sym at.3) (omega (arith, few))

  -- ---- their order

  -- the first visit of a cell, and its arrival
  first_visit : (n : ℕ) → n < length visit_ends
      → (p : ℕ) × IsOccurrence h.listed n 0 p × (p < length arrivals) × (get_or visits (begin_in visit_ends n) no_visit ≡ came p)
  first_visit n less =
      let named = h.end_count in
      let within : n < length h.names = omega (arith, less, named) in
      let begin = begin-below number tracks ends arrivals step_ends line visits visit_ends h n within in
      let found = occurs h.listed n 0 (some_arrival n within) in
      let own = occurrence-rank h.listed n 0 found.0 found.1 in
      let place : rank h.listed found.0 ≡ begin_in visit_ends n = omega (arith, own, begin) in
      let inside = found.1.within in
      let all = h.all in
      let in_p : found.0 < length arrivals = omega (arith, inside, all) in
      (found.0, found.1, in_p, sym (ap (λ k. get_or visits k no_visit) place) ∙ visit-at_rank number tracks ends arrivals step_ends line visits visit_ends h found.0 in_p)

  -- who comes into a cell at a later place comes later, or is of a later agent
  not_before : (p q : ℕ) → p < q → q < length arrivals → (came q).time * 65536 + (came q).agent ≤ (came p).time * 65536 + (came p).agent → ⊥
  not_before p q less in_q most =
      let agent = (line.schedule.entries p (omega (arith, less, in_q))).is_agent in
      let few = line.few.agents in
      elim (arrivals-rise number tracks ends arrivals step_ends line p q less in_q) [
        | inl earlier ↦ omega (arith, earlier, agent, few, most)
        | inr both ↦ (
            let time = both.0 in
            let lesser = both.1 in
            omega (arith, time, lesser, most)
            )
      ]

  pub is_order : (order : List ℕ) → AreByFirst visits visit_ends order → IsOrder h.listed order
  is_order order by =
      let named = h.end_count in
      record {
        whole = λ p less. (let known = h.numbered.known p less in by.whole (get_or h.listed p 0) (omega (arith, known, named)));
        sound = λ m less. (let own = by.sound m less in h.numbered.occurs (get_or order m 0) (omega (arith, own, named)));
        rising = λ m l q before less inside key.
            let in_m : m < length order = omega (arith, before, less) in
            let a = first_visit (get_or order m 0) (by.sound m in_m) in
            let b = first_visit (get_or order l 0) (by.sound l less) in
            let rises = by.rising m l before less in
            let key_a = ap (λ v. v.time * 65536 + v.agent) a.3 in
            let key_b = ap (λ v. v.time * 65536 + v.agent) b.3 in
            let last = occurrence-first h.listed (get_or order l 0) b.0 q b.1 key in
            elim (cases_lt a.0 b.0) [
              | inl sooner ↦ (a.0, omega (arith, sooner, last), a.1.key)
              | inr not_sooner ↦ elim (cases_lt b.0 a.0) [
                | inl later ↦ absurd (not_before b.0 a.0 later a.2 (omega (arith, rises, key_a, key_b)))
                | inr not_later ↦ (
                    let one : b.0 ≡ a.0 = omega (arith, not_sooner, not_later) in
                    let number_is = sym b.1.key ∙ ap (λ p. get_or h.listed p 0) one ∙ a.1.key in
                    let same = by.different m l (get_or order m 0) (slice_get-get_or order m 0 in_m) (slice_get-get_or order l 0 less ∙ ap Some number_is) in
                    absurd (omega (arith, same, before))
                    )
              ]
            ];
        few = (let count = by.count in let few = few_names in omega (arith, count, named, few));
      }
