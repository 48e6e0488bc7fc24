-- A rotation that is listed has a move that isn't finished.
use Rattle.std.proofs.Common.{◌≡◌, ℕ, zero, suc, ◌+◌, ◌≤◌, true, false, List, [], ◌∷◌, length, get_or, Some, arith, refl, ◌∙◌}
use Rattle.std.specs.Prelude.{◌==◌, nat_lt, slice_get}
use Rattle.std.proofs.lemmas.Bool.{cond-true, lt-ltb, eqb-true, true≢false}
use Rattle.std.proofs.lemmas.Option.{slice_get-get_or, slice_get_within, none-some}
use Rattle.depgraph.specs.Rotations.{Turn, turns_of, AreRotations}
use Rattle.model.specs.declared.visit.Rotation.{Rotation}
use Rattle.model.specs.declared.version.Version.{Version}
use Rattle.model.specs.Completion.{IsUnfinished}
use Rattle.model.specs.Dependency.{MovesInto, IsRotation}
use Rattle.model.specs.History.{History, kept_starts, done}
use Rattle.model.specs.Rules.{IsRun}
use Rattle.model.specs.Timetable.{Track, Timetable, moves_before, track_of, IsConflictFree}
use Rattle.executor.specs.Endings.{IsBlockedBy}

-- the first of a rotation's agents moves
first_moves : (tab : Timetable) (step : ℕ) (agents : List ℕ) → IsRotation tab step agents
    → (i : ℕ) × (j : ℕ) × (slice_get agents 0 ≡ Some i) × MovesInto tab step i j
first_moves tab step agents turns =
    let three = turns.three in
    let first = slice_get-get_or agents 0 0 (omega (arith, three)) in
    let second = slice_get-get_or agents (0 + 1) 0 (omega (arith, three)) in
    let next = cond-true (nat_lt (0 + 1) (length agents)) (slice_get agents (0 + 1)) (slice_get agents 0) (lt-ltb (0 + 1) (length agents) (omega (arith, three))) ∙ second in
    (get_or agents 0 0, get_or agents (0 + 1) 0, first, turns.cycle 0 (get_or agents 0 0) (get_or agents (0 + 1) 0) first next)

module _
    (never : (v : Version) (tab : Timetable) (step : ℕ) (agents : List ℕ) (h : History) (place i : ℕ) (track : Track)
    → IsConflictFree tab → IsRotation tab step agents → IsRun v tab h → slice_get agents place ≡ Some i → track_of tab i ≡ Some track → kept_starts h i ≤ moves_before track step)
    (in_step : (v : Version) (tab : Timetable) (h : History) (i : ℕ) → IsRun v tab h → (done h i ≤ kept_starts h i) × (kept_starts h i ≤ done h i + 1))
    (v : Version) (tab : Timetable) (h : History) (free : IsConflictFree tab) (run : IsRun v tab h)
  where
    pub unfinished : (turns : List Turn) (n : ℕ) (turn : Turn) → AreRotations tab turns → slice_get turns n ≡ Some turn → IsUnfinished tab h turn.step turn.agents
    unfinished turns n turn all there =
        let first = first_moves tab turn.step turn.agents (all.sound n turn there) in
        let into = first.3 in
        let most = never v tab turn.step turn.agents h 0 first.0 into.from free (all.sound n turn there) run first.2 into.is_from in
        let low = (in_step v tab h first.0 run).0 in
        (0, first.0, into.from, first.2, into.is_from, omega (arith, most, low))

    pub blocked-first : (n : ℕ) → IsBlockedBy tab h n → n ≡ 0
    blocked-first zero by = refl
    blocked-first (suc n) by =
        let within = slice_get_within by.turns (suc n) by.turn by.is_turn in
        let none : Turn = record { step = 0; agents = [] } in
        let there = slice_get-get_or by.turns 0 none (omega (arith, within)) in
        absurd (by.least 0 (get_or by.turns 0 none) (omega arith) there (unfinished by.turns 0 (get_or by.turns 0 none) by.are_all there))

    -- where any rotation is listed, the first blocks the run
    pub first-blocks : (turns : List Turn) → AreRotations tab turns → (turn : Turn) → slice_get turns 0 ≡ Some turn → IsBlockedBy tab h 0
    first-blocks turns all turn there = record {
      turns = turns;
      are_all = all;
      turn = turn;
      is_turn = there;
      unfinished = unfinished turns 0 turn all there;
      least = λ before other less. absurd (omega (arith, less));
    }

-- of rotations that are listed there is a first, unless there is none
pub first-listed : (rotations : List Rotation) → (length rotations == 0) ≡ false → (turn : Turn) × (slice_get (turns_of rotations) 0 ≡ Some turn)
first-listed [] some = absurd (true≢false some)
first-listed (r ∷ rotations) some = (_, refl)

pub none-listed : (tab : Timetable) (rotations : List Rotation) → AreRotations tab (turns_of rotations) → (length rotations == 0) ≡ true
    → (step : ℕ) (agents : List ℕ) → IsRotation tab step agents → ⊥
none-listed tab [] all none step agents turns = (let there = all.whole (record { step = step; agents = agents }) turns in none-some (record { step = step; agents = agents }) there.1)
none-listed tab (r ∷ rotations) all none step agents turns = (let no_length = eqb-true (length (r ∷ rotations)) 0 none in omega (arith, no_length))
