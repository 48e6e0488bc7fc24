-- The first of a rotation's moves to be begun would have to know that the next is finished.
use Rattle.std.proofs.Common.{◌≡◌, ℕ, ◌+◌, ◌<◌, ◌≤◌, suc, eqb, List, [], ◌∷◌, length}
use Rattle.std.proofs.Common.{get_or, Some, None, inl, inr, arith, refl, sym, ap, subst, ◌∙◌}
use Rattle.std.specs.Prelude.{Option, slice_get, nat_lt}
use Rattle.std.proofs.lemmas.Bool.{cases_lt, cond-true, cond-false, lt-ltb}
use Rattle.std.proofs.lemmas.Bool.{ltb-true, ne_eqb, cond_both}
use Rattle.std.proofs.lemmas.Option.{same_Some, slice_get-get_or, slice_get_within}
use Rattle.grid.specs.declared.cell.Cell.{Cell}
use Rattle.model.specs.declared.version.Version.{Version}
use Rattle.model.specs.Timetable.{Track, Timetable, cell_at, moves_before}
use Rattle.model.specs.Timetable.{step_of, track_of, Stands, IsConflictFree}
use Rattle.model.specs.Dependency.{Stand, Need, need_by, need, IsMet}
use Rattle.model.specs.Dependency.{last_stand, moves_in, MovesInto, following, IsRotation}
use Rattle.model.specs.History.{History, kept_starts, done, known}
use Rattle.model.specs.Rules.{IsRun}
use Rattle.model.specs.Laws.Tracks.{moves-leave, step-of_move}
use Rattle.model.specs.Laws.Needs.{stands-from, IsLastBelow, last_stand-is}
use Rattle.model.specs.Laws.Histories.{known-done}
use Rattle.model.specs.Laws.Runs.{progress, level, begun_now, is_met-rise}

-- someone else stands in the cell at the very step: the last stand is its own
last_by : (tab : Timetable) (s j : ℕ) (c : Cell) → IsConflictFree tab → Stands tab j s c
    → (o : Option Stand) → IsLastBelow tab c (s + 1) o
    → (time : ℕ) × (time ≡ s) × (o ≡ Some (record { agent = j; time = time }))
last_by tab s j c free there None last = absurd (last s j (omega arith) there)
last_by tab s j c free there (Some st) last =
    let now : st.time ≡ s = elim (cases_lt st.time s) [
      | inl less ↦ absurd (last.2 s j less (omega arith) there)
      | inr most ↦ omega (arith, most, last.1)
    ] in
    let who : st.agent ≡ j =
    free st.agent j s c (subst (λ n. Stands tab st.agent n c) now last.0) there in (
      st.time,
      now,
      ap {A = ℕ} {B = Option Stand}
          (λ n. Some (record { agent = n; time = st.time })) who,
    )

-- the need of a move into the cell of another that moves in the same step: that move, finished
need-next : (tab : Timetable) (s i j : ℕ) (most : ℕ → ℕ) → IsConflictFree tab
    → (into : MovesInto tab s i j)
    → (cell_at into.to s ≡ cell_at into.to (s + 1) → ⊥) → (i ≡ j → ⊥)
    → IsMet most (need tab i into.from (moves_before into.from s)) → moves_before into.to s < most j
need-next tab s i j most free into next apart met =
    let from = into.from in
    let to = into.to in
    let c = cell_at to s in
    let one : s + 1 ≡ suc s = omega arith in
    let moves_now : cell_at from s ≡ cell_at from (suc s) → ⊥ =
    λ e. into.moves (e ∙ ap (cell_at from) (sym one)) in
    let leaves_now : cell_at to s ≡ cell_at to (suc s) → ⊥ =
    λ e. next (e ∙ ap (cell_at to) (sym one)) in
    let step : step_of from (moves_before from s) ≡ s =
    step-of_move from.start from.later s moves_now in
    let last = last_by tab s j c free (stands-from tab j s c to into.is_to refl)
    (last_stand tab c s) (last_stand-is tab c s) in
    let at_step = subst
    (λ n. IsMet most (need_by tab i (last_stand tab (cell_at from (n + 1)) n))) step met in
    let at_cell = subst (λ x. IsMet most (need_by tab i (last_stand tab x s))) into.into at_step in
    let by_last = subst (λ (o : Option Stand). IsMet most (need_by tab i o)) last.2 at_cell in
    let counted = subst (λ (o : Option Need). IsMet most o)
    (cond-false (eqb j i) None _ (ne_eqb j i (λ e. apart (sym e)))) by_last in
    let own : moves_before to (last.0 + 1) ≤ most j =
    subst (λ o. moves_in o (last.0 + 1) ≤ most j) into.is_to counted in
    let time : last.0 + 1 ≡ suc s = omega (arith, last.1) in
    let ended = subst (λ n. moves_before to n ≤ most j) time own in
    let leaves = moves-leave to.start to.later s leaves_now in
    omega (arith, ended, leaves)

-- the agent after the one at a place, and its own place
pub after : (agents : List ℕ) (place : ℕ) → place < length agents → 3 ≤ length agents
    → (q : ℕ) × (j : ℕ) × (following agents place ≡ Some j) × (slice_get agents q ≡ Some j)
    × (q ≡ place → ⊥)
after agents place within three =
    elim (cases_lt (place + 1) (length agents)) [
      | inl less ↦
          let there = slice_get-get_or agents (place + 1) 0 less in (
            place + 1,
            get_or agents (place + 1) 0,
            cond-true (nat_lt (place + 1) (length agents)) _ _ (lt-ltb _ _ less) ∙ there,
            there,
            λ e. omega (arith, e),
          )
      | inr end ↦
          let there = slice_get-get_or agents 0 0 (omega (arith, three)) in (
            0,
            get_or agents 0 0,
            cond_both (nat_lt (place + 1) (length agents)) (slice_get agents (place + 1))
                (slice_get agents 0) (λ o. o ≡ Some (get_or agents 0 0))
                (λ e. absurd (let less = ltb-true (place + 1) (length agents) e in
                omega (arith, less, end))) (λ e. there),
            there,
            λ e. omega (arith, e, end, three),
          )
    ]

pub never : (v : Version) (tab : Timetable) (step : ℕ) (agents : List ℕ) → IsConflictFree tab
    → IsRotation tab step agents → (h : History) → IsRun v tab h
    → (place i : ℕ) (track : Track) → slice_get agents place ≡ Some i → track_of tab i ≡ Some track
    → kept_starts h i ≤ moves_before track step
never v tab step agents free turns [] run place i track member there = omega arith
never v tab step agents free turns (now ∷ h) run place i track member there =
    let so_far = never v tab step agents free turns h run.1 in
    let was = progress v tab h i track there run.1 in
    let most = so_far place i track member there in
    elim (begun_now v tab h i track there was now.event now.answer run.0) [
      | inl none ↦ omega (arith, none, most)
      | inr begun ↦
          let even = level h i was.low was.high begun.2 in
          elim (cases_lt (kept_starts h i) (moves_before track step)) [
            | inl less ↦ omega (arith, less, begun.0)
            | inr past ↦ absurd (
                let place_in = slice_get_within agents place i member in
                let next = after agents place place_in turns.three in
                let j = next.1 in
                let into = turns.cycle place i j member next.2 in
                let next_in = slice_get_within agents next.0 j next.3 in
                let far = after agents next.0 next_in turns.three in
                let onward = turns.cycle next.0 j far.1 next.3 far.2 in
                let mine : into.from ≡ track =
                same_Some into.from track (sym into.is_from ∙ there) in
                let its : onward.from ≡ into.to =
                same_Some onward.from into.to (sym onward.is_from ∙ into.is_to) in
                let leaves : cell_at into.to step ≡ cell_at into.to (step + 1) → ⊥
                = subst (λ k. cell_at k step ≡ cell_at k (step + 1) → ⊥) its onward.moves in
                let apart : i ≡ j → ⊥ =
                λ e. next.4 (turns.different next.0 place i
                (next.3 ∙ ap {A = ℕ} {B = Option ℕ} (λ n. Some n) (sym e)) member) in
                let number : done h i ≡ moves_before track step = omega (arith, most, past, even) in
                let met = subst (λ n. IsMet (done h) (need tab i track n)) number
                (is_met-rise (known v tab h i) (done h) (need tab i track (done h i))
                (known-done v tab h i) begun.4) in
                let from_met = subst (λ k. IsMet (done h) (need tab i k (moves_before k step)))
                (sym mine) met in
                let finished = need-next tab step i j (done h) free into leaves apart from_met in
                let its_most = so_far next.0 j into.to next.3 into.is_to in
                let low = (progress v tab h j into.to into.is_to run.1).low in
                omega (arith, finished, its_most, low))
          ]
    ]
