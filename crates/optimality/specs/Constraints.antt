-- What is asked of the agents' walks.
use Rattle.std.specs.Prelude.{◌≡◌, ℕ, ◌+◌, ◌<◌, ◌≤◌, ◌==◌, not}
use Rattle.std.specs.Prelude.{Bool, true, if◌then◌else◌, List, [], ◌∷◌, Some}
use Rattle.std.specs.List.{AllByRecursion}
use Rattle.model.specs.Costs.{cost}
use Rattle.model.specs.Timetable.{Timetable, Track, cell_at, track_of}
use Rattle.optimality.specs.declared.constraint.Constraint.{Constraint}
use Rattle.optimality.specs.declared.constraint.Constraint.TheVariants.{Away, AwayFrom, There}
use Rattle.optimality.specs.declared.constraint.Constraint.TheVariants.{NotTaken, Above, Within}
use Rattle.optimality.specs.declared.constraint.Demand.{Demand}
use Rattle.optimality.specs.declared.constraint.Whom.{Whom}
use Rattle.optimality.specs.declared.constraint.Whom.TheVariants.{Only, AllBut}

-- the walk is as it is asked
abbrev pub Meets : Track → Constraint → Type 0
Meets track (Away t c) = cell_at track t ≡ c → ⊥
Meets track (AwayFrom t c) = (later : ℕ) → t ≤ later → cell_at track later ≡ c → ⊥
Meets track (There t c) = cell_at track t ≡ c
Meets track (NotTaken t u v) = cell_at track t ≡ u → cell_at track (t + 1) ≡ v → ⊥
Meets track (Above n) = n < cost track
Meets track (Within n) = cost track ≤ n

abbrev pub MeetsAll : List Constraint → Track → Type 0
MeetsAll constraints track = AllByRecursion (Meets track) constraints

-- something is asked of the agent with this number
abbrev pub concerns : Whom → ℕ → Bool
concerns (Only i) k = k == i
concerns (AllBut i) k = not (k == i)

-- what is asked of that agent
abbrev pub constraints_of : List Demand → ℕ → List Constraint
constraints_of [] k = []
constraints_of (d ∷ demands) k =
    if concerns d.whom k then d.constraint ∷ constraints_of demands k else constraints_of demands k

-- each agent of the plan whom it concerns walks so
abbrev pub MeetsDemand : Timetable → Demand → Type 0
MeetsDemand tt d =
    (k : ℕ) (track : Track) → track_of tt k ≡ Some track → concerns d.whom k ≡ true
    → Meets track d.constraint

abbrev pub MeetsDemands : Timetable → List Demand → Type 0
MeetsDemands tt demands = AllByRecursion (MeetsDemand tt) demands
