-- What the plans beside the tapes of a fleet come to together: whether each goes on from another,
-- or two of them part.
use Rattle.std.specs.Prelude.{◌≡◌, ℕ, zero, suc, ◌⊎◌, List, [], ◌∷◌}
use Rattle.std.specs.Prelude.{◌++◌, Option, None, Some, Result, Ok, Err}
use Rattle.model.specs.Plan.{Plan}
use Rattle.continuing.specs.Continuing.{Continues}
use Rattle.continuing.specs.Departing.{IsContinueFault}
use Rattle.continuing.specs.declared.continue_fault.ContinueFault.{ContinueFault}
use Rattle.continuing.specs.declared.continue_fault.ContinueFault.TheVariants.{OtherNumber}
use Rattle.continuing.specs.declared.continue_fault.ContinueFault.TheVariants.{OtherCount}
use Rattle.continuing.specs.declared.continue_fault.ContinueFault.TheVariants.{Departs}
use Rattle.agent_commands.specs.FileDeeds.{FileDeed}
use Rattle.agent_commands.specs.KeptPlan.{IsFoundBeside}
use Rattle.agent_commands.specs.declared.agent_fault.AgentFault.{AgentFault}
use Rattle.fleet_commands.specs.declared.plans_beside.Foremost.{Foremost}
use Rattle.fleet_commands.specs.declared.status_line.StatusLine.{StatusLine}
use Rattle.fleet_commands.specs.declared.status_line.StatusLine.TheVariants.{BesideFault, Parted}

-- from which time on two plans differ: from the beginning where they have other numbers, or not as
-- many agents
abbrev pub parting_time : ContinueFault → ℕ
parting_time OtherNumber = 0
parting_time OtherCount = 0
parting_time (Departs agent time) = time

-- Of two plans, which goes on from the other: the next one where each does. Where neither does, the
-- first one is kept, and a line says from which time on they differ.
abbrev pub GoesFurther
    : (first next : Foremost) → (after : Foremost) → (earlier lines : List StatusLine) → Type 0
GoesFurther first next after earlier lines =
    (Continues first.plan next.plan × (after ≡ next) × (lines ≡ earlier))
    ⊎ (((fault : ContinueFault) × IsContinueFault first.plan next.plan fault
    × Continues next.plan first.plan × (after ≡ first) × (lines ≡ earlier))
    ⊎ ((fault : ContinueFault) × (back : ContinueFault) × IsContinueFault first.plan next.plan fault
    × IsContinueFault next.plan first.plan back
    × (after ≡ first)
    × (lines ≡ earlier ++ Parted first.agent next.agent (parting_time fault) ∷ [])))

-- one more agent: what its plan, if there is one, comes to beside the one that goes furthest so
-- far; or why it could not be read
abbrev pub ComparesNext : ℕ → Result (Option Plan) AgentFault → (before after : Option Foremost)
    → (earlier lines : List StatusLine) → Type 0
ComparesNext i (Err fault) before after earlier lines =
    (after ≡ before) × (lines ≡ earlier ++ BesideFault i fault ∷ [])
ComparesNext i (Ok None) before after earlier lines = (after ≡ before) × (lines ≡ earlier)
ComparesNext i (Ok (Some p)) None after earlier lines =
    (after ≡ Some (record { agent = i; plan = p })) × (lines ≡ earlier)
ComparesNext i (Ok (Some p)) (Some first) after earlier lines =
    (further : Foremost) × (after ≡ Some further)
    × GoesFurther first (record { agent = i; plan = p }) further earlier lines

-- the plans beside the tapes of so many agents were read, one after another, and these lines came
-- of it
abbrev pub AreCompared
    : (FileDeed → Type 0) → ℕ → Option Foremost → List StatusLine → Type 0
AreCompared WasDone zero foremost lines = (foremost ≡ None) × (lines ≡ [])
AreCompared WasDone (suc i) foremost lines =
    (before : Option Foremost) × (earlier : List StatusLine)
    × AreCompared WasDone i before earlier
    × ((found : Result (Option Plan) AgentFault) × IsFoundBeside WasDone found
    × ComparesNext i found before foremost earlier lines)
