use Rattle.std.proofs.Common.{◌≡◌, ℕ, suc, ◌+◌, ◌≤◌, List, get_or, Some, inl, inr, arith, sym, ap, ◌∙◌}
use Rattle.std.specs.Prelude.{slice_get}
use Rattle.std.proofs.lemmas.Option.{slice_get-get_or}
use Rattle.model.specs.declared.version.Version.{Version}
use Rattle.model.specs.Timetable.{Track, Timetable, cell_at, moves_before, track_of, IsConflictFree}
use Rattle.model.specs.Dependency.{MovesInto, IsRotation}
use Rattle.model.specs.History.{History, done}
use Rattle.model.specs.Rules.{IsRun}
use Rattle.model.specs.Completion.{history_after}
use Rattle.model.specs.Laws.After.{run-more}
use Rattle.model.specs.Laws.Runs.{progress}
use Rattle.model.specs.Laws.Tracks.{moves-most, moves-leave}
use Rattle.model.proofs.CompletionLemmas.{turns_or_ends}
use Rattle.model.specs.Laws.Rotations.{never, after}
use Rattle.model.proofs.laws.every_run_ends_or_is_blocked.Goals as goal

-- no move of a rotation is finished in a run
unfinished : (v : Version) (tab : Timetable) (step : ℕ) (agents : List ℕ) (h : History) → IsConflictFree tab → IsRotation tab step agents → IsRun v tab h
    → (place i : ℕ) (track : Track) → slice_get agents place ≡ Some i → track_of tab i ≡ Some track → done h i ≤ moves_before track step
unfinished v tab step agents h free turns run place i track member there =
    let most = never v tab step agents free turns h run place i track member there in
    let low = (progress v tab h i track there run).low in
    omega (arith, most, low)

-- its first agent moves
first_moves : (tab : Timetable) (step : ℕ) (agents : List ℕ) → (turns : IsRotation tab step agents)
    → (i : ℕ) × (j : ℕ) × (slice_get agents 0 ≡ Some i) × MovesInto tab step i j
first_moves tab step agents turns =
    let three = turns.three in
    let first = slice_get-get_or agents 0 0 (omega (arith, three)) in
    let next = after agents 0 (omega (arith, three)) turns.three in
    (get_or agents 0 0, next.1, first, turns.cycle 0 (get_or agents 0 0) next.1 first next.2)

pub returns-clause-one : goal.returns-clause-one
returns-clause-one c = λ v tab h free unswapped run. elim (turns_or_ends v tab free unswapped h run) [
  | inl turns ↦
      let first = first_moves tab turns.0 turns.1 turns.2 in
      let into = first.3 in
      inl (
        turns.0,
        turns.1,
        turns.2,
        (
          0,
          first.0,
          into.from,
          first.2,
          into.is_from,
          unfinished v tab turns.0 turns.1 h free turns.2 run 0 first.0 into.from first.2 into.is_from,
        ),
      )
  | inr rest ↦ inr rest
]

pub returns-clause-not_both : goal.returns-clause-not_both
returns-clause-not_both c = λ v tab h events free run blocked rest.
    let turns = blocked.2 in
    let first = first_moves tab blocked.0 blocked.1 turns in
    let into = first.3 in
    let new = history_after v tab h events in
    let most = unfinished v tab blocked.0 blocked.1 new free turns (run-more v tab h events run) 0 first.0 into.from first.2 into.is_from in
    let all = (rest.arrived first.0 into.from into.is_from).all in
    let step = blocked.0 in
    let one : step + 1 ≡ suc step = omega arith in
    let leaves = moves-leave into.from.start into.from.later step (λ e. into.moves (e ∙ ap (cell_at into.from) (sym one))) in
    let within = moves-most into.from.start into.from.later (suc step) in
    omega (arith, most, all, leaves, within)
