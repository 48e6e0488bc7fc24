-- What is read for one agent.
use Rattle.std.specs.Prelude.{◌≡◌, ℕ, List, Option, None, MatchOption, Result, Ok, Err}
use Rattle.text_io.specs.declared.counted.Counted.{Counted}
use Rattle.model.specs.Timetable.{Timetable, track_of}
use Rattle.depgraph.specs.AgentParts.{AgentPart, IsPartOf}
use Rattle.planned.specs.Planned.{ReadsTimetable}
use Rattle.planned.specs.declared.planned_fault.PlannedFault.{PlannedFault}

-- there is no such agent, or this is what it needs of the timetable
abbrev pub IsPartFor : Timetable → ℕ → Option AgentPart → Type 0
IsPartFor tt i part = MatchOption part (track_of tt i ≡ None) (λ p. IsPartOf tt p × (p.agent ≡ i))

-- the map and the plan were read and the plan was checked, and where it is valid, the agent's part
-- was taken
abbrev pub ReadsPart
    : {M P : Type 0} → (M → Option (List ℕ)) → (P → Option (List ℕ)) → ℕ → Counted M → Counted M
    → Counted P → Counted P
    → Result (Option AgentPart) PlannedFault → Type 0
ReadsPart map_left plan_left i old_map new_map old_plan new_plan (Ok part) =
    (tt : Timetable) × ReadsTimetable map_left plan_left old_map new_map old_plan new_plan (Ok tt)
    × IsPartFor tt i part
ReadsPart map_left plan_left i old_map new_map old_plan new_plan (Err fault) =
    ReadsTimetable map_left plan_left old_map new_map old_plan new_plan (Err fault)
