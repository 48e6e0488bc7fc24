-- Where two courses part, and who of several parts first.
use Rattle.std.specs.Prelude.{◌≡◌, ◌≢◌, ℕ, ◌<◌, List, Option, Some, MatchOption, get_or, slice_get}
use Rattle.model.specs.declared.act.Act.{Act}
use Rattle.model.specs.declared.act.Act.TheVariants.{Wait}
use Rattle.model.specs.Plan.{Course, position_at}

-- an agent waits after its last act
abbrev pub act_in_step : List Act → ℕ → Act
act_in_step acts step = get_or acts step Wait

-- the first of so many steps in which the acts differ, if they do in any
abbrev pub IsFirstOther : List Act → List Act → ℕ → Option ℕ → Type 0
IsFirstOther old new steps o =
    MatchOption o ((t : ℕ) → t < steps → act_in_step new t ≡ act_in_step old t)
    (λ step. (step < steps) × (act_in_step new step ≢ act_in_step old step)
    × ((t : ℕ) → t < step → act_in_step new t ≡ act_in_step old t))

abbrev pub DifferAt : Course → Course → ℕ → Type 0
DifferAt old new t = position_at new t ≢ position_at old t

-- the first time before an end at which the courses are in different places, if there is one
abbrev pub IsFirstApart : Course → Course → ℕ → Option ℕ → Type 0
IsFirstApart old new end o =
    MatchOption o ((t : ℕ) → t < end → position_at new t ≡ position_at old t)
    (λ time. (time < end) × DifferAt old new time
    × ((t : ℕ) → t < time → position_at new t ≡ position_at old t))

-- by both lists of courses the agent is in one place, if it is there by both
abbrev pub IsTogether : List Course → List Course → ℕ → ℕ → Type 0
IsTogether old new i t =
    (a b : Course) → slice_get old i ≡ Some a → slice_get new i ≡ Some b
    → position_at b t ≡ position_at a t

-- Of the agents before a number, the one that is elsewhere first, and when; without one the time is
-- past the end.
abbrev pub IsFirstOf : List Course → List Course → (count past : ℕ) → Option ℕ → ℕ → Type 0
IsFirstOf old new count past o time =
    ((i t : ℕ) → i < count → t < time → IsTogether old new i t)
    × MatchOption o (time ≡ past)
    (λ agent. (agent < count) × (time < past) × (IsTogether old new agent time → ⊥)
    × ((i : ℕ) → i < agent → IsTogether old new i time))
