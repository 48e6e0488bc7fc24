-- The visits stand in blocks, a cell's after another's. Who comes into a cell after another comes after that one left.
use Rattle.std.proofs.Common.{◌≡◌, ℕ, suc, ◌+◌, ◌-◌, ◌<◌, ◌≤◌, List, length, get_or, take, Some, None, arith, refl, sym, ap, subst, ◌∙◌}
use Rattle.std.specs.Prelude.{◌==◌}
use Rattle.std.proofs.lemmas.Bool.{cond-false, ne_eqb}
use Rattle.model.specs.declared.visit.Visit.{Visit}
use Rattle.model.specs.Timetable.{Track, IsConflictFree}
use Rattle.depgraph.specs.declared.placing.Arrival.{Arrival}
use Rattle.depgraph.specs.Code.Entries.{begin_in, IsEntry}
use Rattle.depgraph.specs.Code.Paths.{all_entered, all_times}
use Rattle.depgraph.specs.Code.Placing.{IsTimeline, IsPlacing}
use Rattle.depgraph.specs.Code.Ranks.{tally, below, rank}
use Rattle.depgraph.specs.Code.Waits.{no_visit, entry_for, before_at, AreBlocks}
use Rattle.depgraph.proofs.BlockLemmas.{begin-below, end-below, visit-at_rank, arrival-at, part-within, at-cell}
use Rattle.depgraph.proofs.EntryLemmas.{left_entry}
use Rattle.depgraph.proofs.PositionLemmas.{table, visit_at, times-rise}
use Rattle.depgraph.proofs.RankLemmas.{occurrences_rise, occurs, IsOccurrence, occurrence-rank}
use Rattle.depgraph.proofs.ScheduleLemmas.{same_count, arrival-within}
use Rattle.depgraph.proofs.WaitLemmas.{IsJustBefore}

pub later-is : (visits : List Visit) (begin k : ℕ) → begin < k → before_at visits begin k ≡ Some (get_or visits (k - 1) no_visit)
later-is visits begin k less = cond-false (k == begin) None (Some (get_or visits (k - 1) no_visit)) (ne_eqb k begin (λ same. omega (arith, same, less)))

-- ---- the visits of a timetable

module _ (number : ℕ) (tracks : List Track) (ends : List ℕ) (arrivals : List Arrival) (step_ends : List ℕ) (line : IsTimeline tracks ends arrivals step_ends)
    (visits : List Visit) (visit_ends : List ℕ) (h : IsPlacing tracks ends arrivals visits visit_ends)
    (free : IsConflictFree (table number tracks ends arrivals step_ends line)) where
  abbrev came : ℕ → Visit
  came p = visit_at number tracks ends arrivals step_ends line p

  -- the arrival of the visit at a place
  at_place : (k : ℕ) → k < length visits → (p : ℕ) × (p < length arrivals) × (rank h.listed p ≡ k) × (get_or visits k no_visit ≡ came p)
  at_place k less = arrival-at number tracks ends arrivals step_ends line visits visit_ends h k less

  -- the same, by its place among those of its cell
  pub in_block : (n k : ℕ) → n < length visit_ends → begin_in visit_ends n ≤ k → k < get_or visit_ends n 0
      → (p : ℕ) × (p < length arrivals) × IsOccurrence h.listed n (k - begin_in visit_ends n) p × (get_or visits k no_visit ≡ came p)
  in_block n k less after before =
      let named = h.end_count in
      let within : n < length h.names = omega (arith, less, named) in
      let begin = begin-below number tracks ends arrivals step_ends line visits visit_ends h n within in
      let end = end-below number tracks ends arrivals step_ends line visits visit_ends h n within in
      let next : below h.listed (suc n) ≡ below h.listed n + tally h.listed n = refl in
      let found = occurs h.listed n (k - begin_in visit_ends n) (omega (arith, after, before, begin, end, next)) in
      let place = occurrence-rank h.listed n (k - begin_in visit_ends n) found.0 found.1 in
      let all = h.all in
      let inside = found.1.within in
      let in_p : found.0 < length arrivals = omega (arith, inside, all) in
      let is : rank h.listed found.0 ≡ k = omega (arith, place, begin, after) in
      (found.0, in_p, found.1, sym (ap (λ m. get_or visits m no_visit) is) ∙ visit-at_rank number tracks ends arrivals step_ends line visits visit_ends h found.0 in_p)

  -- the arrivals of two visits that stand side by side in a cell's block
  pub just_before : (n k p q : ℕ) → n < length visit_ends → begin_in visit_ends n < k → p < length arrivals → q < length arrivals
      → IsOccurrence h.listed n (k - 1 - begin_in visit_ends n) q → IsOccurrence h.listed n (k - begin_in visit_ends n) p
      → IsJustBefore number tracks ends arrivals step_ends line visits visit_ends h free q p
  just_before n k p q less begun in_p in_q first second =
      let a = first.before in
      let b = second.before in
      record {
        before = occurrences_rise h.listed n (k - 1 - begin_in visit_ends n) (k - begin_in visit_ends n) q p (omega (arith, begun)) first second;
        key = first.key ∙ sym second.key;
        cell = at-cell number tracks ends arrivals step_ends line visits visit_ends h n (k - 1 - begin_in visit_ends n) q in_q first
            ∙ sym (at-cell number tracks ends arrivals step_ends line visits visit_ends h n (k - begin_in visit_ends n) p in_p second);
        next = subst (λ m. tally (take q h.listed) m + 1 ≡ tally (take p h.listed) m) (sym second.key) (omega (arith, a, b, begun));
      }

  -- who was there before another has left by the next move of its path
  pub left_before : (q p : ℕ) → q < length arrivals → p < length arrivals → IsJustBefore number tracks ends arrivals step_ends line visits visit_ends h free q p
      → ((came q).agent ≡ (came p).agent → ⊥) → IsEntry ends (came q).agent ((came q).index + 1) (entry_for ends (came q) + 1)
  left_before q p in_q in_p just other =
      left_entry number tracks (all_entered tracks) (all_times tracks) ends line.paths free (came q).agent (came p).agent (came q).index (came p).index (entry_for ends (came q))
      (entry_for ends (came p)) (line.schedule.entries q in_q) (line.schedule.entries p in_p) just.cell
      (times-rise number tracks ends arrivals step_ends line q p free just.before in_p just.cell) other

  -- a visit has the time of its entry
  pub visit-time : (k : ℕ) → k < length visits → get_or (all_times tracks) (entry_for ends (get_or visits k no_visit)) 0 ≡ (get_or visits k no_visit).time
  visit-time k less = (let at = at_place k less in subst (λ v. get_or (all_times tracks) (entry_for ends v) 0 ≡ v.time) (sym at.3) refl)

  pub are_blocks : AreBlocks ends visits visit_ends
  are_blocks = record {
    within = λ n less. (
        let named = h.end_count in
        let within : n < length h.names = omega (arith, less, named) in
        let end = end-below number tracks ends arrivals step_ends line visits visit_ends h n within in
        let most = part-within number tracks ends arrivals step_ends line visits visit_ends h n within in
        omega (arith, end, most)
        );
    entries = λ k less. (
        let at = at_place k less in
        let inside = arrival-within tracks (all_entered tracks) (all_times tracks) ends arrivals at.0 line.paths line.schedule at.1 in
        let same = same_count tracks (all_entered tracks) (all_times tracks) ends line.paths in
        let scheduled = line.schedule.count in
        let count = h.visit_count in
        subst (λ v. entry_for ends v < length visits) (sym at.3) (omega (arith, inside, same, scheduled, count))
        );
  }
