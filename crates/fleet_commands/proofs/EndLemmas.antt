-- When moves have ended.
use Rattle.std.proofs.Common.{◌≡◌, ℕ, zero, suc, ◌+◌, ◌<◌, ◌≤◌, List, [], ◌∷◌, length, Some, inl, inr, arith, refl, ap, sym, subst, ◌∙◌}
use Rattle.std.specs.Prelude.{slice_get}
use Rattle.std.specs.List.{AllByRecursion}
use Rattle.std.proofs.lemmas.Bool.{cases_lt}
use Rattle.std.proofs.lemmas.Option.{none-some, same_Some}
use Rattle.grid.specs.declared.cell.Cell.{Cell}
use Rattle.depgraph.specs.Graphs.{IsGraphed}
use Rattle.model.specs.Timetable.{Track, Timetable, cell_after, moves_before, moves, step_of, track_of}
use Rattle.model.specs.Laws.Tracks.{moves-leave, moves-rise, step-of_move, moving_step}
use Rattle.fleet_commands.specs.Code.Ends.{IsEndOf}

pub none-end : (track : Track) → IsEndOf track 0 0
none-end track = record { has = omega arith; first = λ sooner has. omega arith }

-- a move has ended behind its step, and not before
pub move-end : (track : Track) (k : ℕ) → k < moves track → IsEndOf track (k + 1) (step_of track k + 1)
move-end track k less =
    let found = moving_step track.start track.later k less in
    let t = found.0 in
    let count : moves_before track t ≡ k = found.1 in
    let step : step_of track k ≡ t = ap (step_of track) (sym count) ∙ step-of_move track.start track.later t found.2 in
    let behind : step_of track k + 1 ≡ suc t = omega (arith, step) in
    let more : moves_before track (suc t) ≡ moves_before track t + 1 = moves-leave track.start track.later t found.2 in
    record {
      has = (let there = ap (moves_before track) behind in omega (arith, there, more, count));
      first = λ sooner has. elim (cases_lt t sooner) [
        | inl less ↦ omega (arith, step, less)
        | inr most ↦ (let few = moves-rise track.start track.later sooner t most in absurd (omega (arith, has, few, count)))
      ];
    }

-- an agent moves before the last of its cells
early-step : (c : Cell) (cells : List Cell) (t : ℕ) → (cell_after c cells t ≡ cell_after c cells (suc t) → ⊥) → t < length cells
early-step c [] t leaves = absurd (leaves refl)
early-step c (d ∷ cells) zero leaves = omega arith
early-step c (d ∷ cells) (suc t) leaves = (let rest = early-step d cells t leaves in omega (arith, rest))

few-steps : (tracks : List Track) (i : ℕ) (track : Track) → AllByRecursion (λ t. length t.later ≤ 65535) tracks → slice_get tracks i ≡ Some track → length track.later ≤ 65535
few-steps [] i track all there = absurd (none-some track there)
few-steps (first ∷ tracks) zero track all there = subst (λ t. length t.later ≤ 65535) (same_Some first track there) all.0
few-steps (first ∷ tracks) (suc i) track all there = few-steps tracks i track all.1 there

pub early-move : (tt : Timetable) (i k : ℕ) (track : Track) → IsGraphed tt → track_of tt i ≡ Some track → k < moves track → step_of track k < 65535
early-move tt i k track graphed there less =
    let found = moving_step track.start track.later k less in
    let step : step_of track k ≡ found.0 = ap (step_of track) (sym found.1) ∙ step-of_move track.start track.later found.0 found.2 in
    let early = early-step track.start track.later found.0 found.2 in
    let few = few-steps tt.tracks i track graphed.step_limit there in
    omega (arith, step, early, few)
