-- What moves wait for by the times of all entries is what they wait for by the visits.
use Rattle.std.proofs.Common.{◌≡◌, ℕ, ◌+◌, ◌-◌, ◌<◌, List, length, get_or, Some, None, inl, inr, arith, refl, sym, ap, subst, ◌∙◌}
use Rattle.std.specs.Prelude.{◌==◌, Option}
use Rattle.std.proofs.lemmas.Bool.{cases_lt, cond-true, eq-eqb}
use Rattle.model.specs.declared.visit.Visit.{Visit}
use Rattle.model.specs.Timetable.{Track, IsConflictFree}
use Rattle.depgraph.specs.declared.placing.Arrival.{Arrival}
use Rattle.depgraph.specs.declared.waiting.Wait.{Wait}
use Rattle.depgraph.specs.Code.Entries.{begin_in, IsEntry}
use Rattle.depgraph.specs.Code.Following.{IsLastIn, wait_after, AreFollowed}
use Rattle.depgraph.specs.Code.Numbers.{no_cell, AreNumbered}
use Rattle.depgraph.specs.Code.Paths.{all_entered, all_times}
use Rattle.depgraph.specs.Code.Placing.{IsTimeline, IsPlacing}
use Rattle.depgraph.specs.Code.Schedules.{entry_of_arrival, entry_in}
use Rattle.depgraph.specs.Code.Waits.{no_visit, no_wait, entry_for, wait_of, before_at, AreWaits}
use Rattle.depgraph.proofs.BlockLemmas.{name-of}
use Rattle.depgraph.proofs.BeforeLemmas.{later-is, in_block, just_before}
use Rattle.depgraph.proofs.PositionLemmas.{table, visit_at, times-rise}
use Rattle.depgraph.proofs.RankLemmas.{IsOccurrence, occurrence-first, rank-less_key}
use Rattle.depgraph.proofs.ScheduleLemmas.{same_count, arrival-within, position}
use Rattle.depgraph.proofs.VisitLemmas.{entry-one, entry-within}
use Rattle.depgraph.proofs.WaitLemmas.{IsJustBefore, none_between}

module _ (number : ℕ) (tracks : List Track) (ends : List ℕ) (arrivals : List Arrival) (step_ends : List ℕ) (line : IsTimeline tracks ends arrivals step_ends)
    (visits : List Visit) (visit_ends : List ℕ) (h : IsPlacing tracks ends arrivals visits visit_ends)
    (free : IsConflictFree (table number tracks ends arrivals step_ends line)) (numbers : List ℕ) (numbered : AreNumbered (all_entered tracks) h.names numbers)
    (enough : length numbers ≡ length (all_entered tracks)) (waits : List Wait) (followed : AreFollowed (all_times tracks) ends numbers waits) where
  abbrev came : ℕ → Visit
  came p = visit_at number tracks ends arrivals step_ends line p

  -- an arrival's entry, and when and into which cell it leads
  abbrev entry_at : ℕ → ℕ
  entry_at p = entry_in ends arrivals p

  abbrev time_at : ℕ → ℕ
  time_at e = get_or (all_times tracks) e 0

  abbrev number_at : ℕ → ℕ
  number_at e = get_or numbers e 0

  is_entry : (p : ℕ) → p < length arrivals → IsEntry ends (came p).agent (came p).index (entry_at p)
  is_entry p less = line.schedule.entries p less

  -- the number by which an arrival's visit is placed is that of its entry
  listed-is : (p : ℕ) → p < length arrivals → get_or h.listed p 0 ≡ number_at (entry_at p)
  listed-is p less =
      let all = h.all in
      let inside = arrival-within tracks (all_entered tracks) (all_times tracks) ends arrivals p line.paths line.schedule less in
      numbered.distinct (get_or h.listed p 0) (number_at (entry_at p)) (get_or (all_entered tracks) (entry_at p) no_cell) (h.numbered.named p (omega (arith, less, all)))
      (numbered.named (entry_at p) (omega (arith, inside, enough)))

  -- the arrival of an entry into the same cell at an earlier time
  earlier : (p i k e : ℕ) → p < length arrivals → IsEntry ends i k e → number_at e ≡ number_at (entry_at p) → time_at e < time_at (entry_at p)
      → (x : ℕ) × (x < p) × (entry_at x ≡ e) × (get_or h.listed x 0 ≡ get_or h.listed p 0)
  earlier p i k e in_p entry same less =
      let times = all_times tracks in
      let inside = entry-within tracks (all_entered tracks) times ends line.paths i k e entry in
      let found = position tracks (all_entered tracks) times ends arrivals (length step_ends) line.paths line.schedule line.within e inside in
      let x = found.0 in
      let count = same_count tracks (all_entered tracks) times ends line.paths in
      let at = found.2 in
      let sooner = rank-less_key times (entry_at x) (entry_at p) (omega (arith, inside, count, at)) (let time = ap time_at at in omega (arith, time, less)) in
      let place_x = line.schedule.places x found.1 in
      let place_p = line.schedule.places p in_p in
      (x, omega (arith, sooner, place_x, place_p), at, listed-is x found.1 ∙ ap number_at at ∙ same ∙ sym (listed-is p in_p))

  -- the first into a cell finds nobody
  none_before : (n p : ℕ) (o : Option Arrival) → p < length arrivals → IsOccurrence h.listed n 0 p
      → IsLastIn (all_times tracks) ends numbers (number_at (entry_at p)) (time_at (entry_at p)) o → o ≡ None
  none_before n p None in_p first last = refl
  none_before n p (Some a) in_p first last =
      let x = earlier p a.agent a.index (entry_of_arrival ends a) in_p last.0 last.1 last.2 in
      let before = x.1 in
      let after = occurrence-first h.listed n p x.0 first (x.3 ∙ first.key) in
      absurd (omega (arith, before, after))

  -- any other finds who came just before
  one_before : (q p : ℕ) (o : Option Arrival) → q < length arrivals → p < length arrivals → IsJustBefore number tracks ends arrivals step_ends line visits visit_ends h free q p
      → IsLastIn (all_times tracks) ends numbers (number_at (entry_at p)) (time_at (entry_at p)) o → wait_after (came p).agent o ≡ wait_of (came p).agent (Some (came q))
  one_before q p None in_q in_p just last =
      absurd (last (came q).agent (came q).index (entry_at q) (is_entry q in_q) (sym (listed-is q in_q) ∙ just.key ∙ listed-is p in_p)
      (times-rise number tracks ends arrivals step_ends line q p free just.before in_p just.cell))
  one_before q p (Some a) in_q in_p just last =
      let x = earlier p a.agent a.index (entry_of_arrival ends a) in_p last.0 last.1 last.2 in
      let one : q ≡ x.0 = (elim (cases_lt q x.0) [
        | inl after ↦ absurd (none_between number tracks ends arrivals step_ends line visits visit_ends h free q x.0 p in_p just after x.1 x.3)
        | inr not_after ↦ elim (cases_lt x.0 q) [
          | inl sooner ↦ absurd (never x.0 sooner x.2 x.3)
          | inr not_sooner ↦ omega (arith, not_after, not_sooner)
        ]
      ]) in
      let own = subst (IsEntry ends (came q).agent (came q).index) (ap entry_at one ∙ x.2) (is_entry q in_q) in
      let same = entry-one tracks (all_entered tracks) (all_times tracks) ends line.paths a.agent (came q).agent a.index (came q).index (entry_of_arrival ends a) last.0 own in
      ap (λ j. wait_after (came p).agent (Some (record { agent = j; index = a.index }))) same.0
      ∙ ap (λ k. wait_after (came p).agent (Some (record { agent = (came q).agent; index = k }))) same.1
    where
      -- nobody who came before that one came last
      never : (x : ℕ) → x < q → entry_at x ≡ entry_of_arrival ends a → get_or h.listed x 0 ≡ get_or h.listed p 0 → ⊥
      never x sooner at key =
          let in_x : x < length arrivals = omega (arith, sooner, in_q) in
          let cell = sym (name-of number tracks ends arrivals step_ends line visits visit_ends h x in_x) ∙ ap (λ m. get_or h.names m no_cell) (key ∙ sym just.key)
          ∙ name-of number tracks ends arrivals step_ends line visits visit_ends h q in_q in
          let later = times-rise number tracks ends arrivals step_ends line x q free sooner in_q cell in
          let in_time = times-rise number tracks ends arrivals step_ends line q p free just.before in_p just.cell in
          let most = last.3 (came q).agent (came q).index (entry_at q) (is_entry q in_q) (sym (listed-is q in_q) ∙ just.key ∙ listed-is p in_p) in_time in
          let time = ap time_at at in
          omega (arith, later, most, time)

  after_nobody : (n p : ℕ) → p < length arrivals → IsOccurrence h.listed n 0 p → get_or waits (entry_at p) no_wait ≡ no_wait
  after_nobody n p in_p first = elim (followed.each (came p).agent (came p).index (entry_at p) (is_entry p in_p)) [
    | inl found ↦ found.2 ∙ ap (wait_after (came p).agent) (none_before n p found.0 in_p first found.1)
    | inr alone ↦ alone.1
  ]

  after_one : (q p : ℕ) → q < length arrivals → p < length arrivals → IsJustBefore number tracks ends arrivals step_ends line visits visit_ends h free q p
      → get_or waits (entry_at p) no_wait ≡ wait_of (came p).agent (Some (came q))
  after_one q p in_q in_p just = elim (followed.each (came p).agent (came p).index (entry_at p) (is_entry p in_p)) [
    | inl found ↦ found.2 ∙ one_before q p found.0 in_q in_p just found.1
    | inr alone ↦ (
        let in_time = times-rise number tracks ends arrivals step_ends line q p free just.before in_p just.cell in
        let own = alone.0 (came q).agent (came q).index (entry_at q) (is_entry q in_q) (sym (listed-is q in_q) ∙ just.key ∙ listed-is p in_p) in_time in
        alone.1 ∙ sym (cond-true ((came q).agent == (came p).agent) no_wait (record { agent = (came q).agent; count = (came q).index + 1 }) (eq-eqb (came q).agent (came p).agent own))
        )
  ]

  pub followed_waits : AreWaits ends visits visit_ends waits
  followed_waits = record {
    count = followed.count ∙ sym line.schedule.count ∙ sym h.visit_count;
    each = λ n k less after before.
        let begin = begin_in visit_ends n in
        let own = in_block number tracks ends arrivals step_ends line visits visit_ends h free n k less after before in
        let p = own.0 in
        let i = (came p).agent in
        subst (λ v. get_or waits (entry_for ends v) no_wait ≡ wait_of v.agent (before_at visits begin k)) (sym own.3) (elim (cases_lt begin k) [
          | inl begun ↦ (
              let other = in_block number tracks ends arrivals step_ends line visits visit_ends h free n (k - 1) less (omega (arith, begun)) (omega (arith, before)) in
              let just = just_before number tracks ends arrivals step_ends line visits visit_ends h free n k p other.0 less begun own.1 other.1 other.2 own.2 in
              after_one other.0 p other.1 own.1 just ∙ sym (ap (wait_of i) (later-is visits begin k begun ∙ ap Some other.3))
              )
          | inr not_begun ↦ (
              let first = subst (λ r. IsOccurrence h.listed n r p) (let none : k - begin ≡ 0 = omega (arith, not_begun) in none) own.2 in
              after_nobody n p own.1 first
              ∙ sym (ap (wait_of i) (cond-true (k == begin) None (Some (get_or visits (k - 1) no_visit)) (eq-eqb k begin (omega (arith, after, not_begun)))))
              )
        ]);
  }
