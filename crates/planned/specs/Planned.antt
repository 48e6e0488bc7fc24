-- What is read of a map and a plan.
use Rattle.std.specs.Prelude.{◌≡◌, ℕ, List, Option, Result, Ok, Err}
use Rattle.text_io.specs.declared.counted.Counted.{Counted}
use Rattle.grid.specs.Map.{Grid}
use Rattle.grid.specs.MapFault.{ReadsMap}
use Rattle.model.specs.Plan.{Plan}
use Rattle.model.specs.Timetable.{Timetable}
use Rattle.plan_text.specs.PlanTextFault.{ReadsPlan, ReadsMapAndPlan}
use Rattle.checker.specs.Checking.{Checked, IsCheckOf, IsRefusedFor}
use Rattle.planned.specs.declared.planned_fault.PlannedFault.{PlannedFault}
use Rattle.planned.specs.declared.planned_fault.PlannedFault.TheVariants as planned_fault
use Rattle.planned.specs.declared.reading.PlanAtHand.{PlanAtHand}

-- The map was read, and then the plan, and then the plan was checked on the map: it is valid, and
-- this is its check, or it is refused for its least fault, or for want of memory. A text that could
-- not be read is answered, and what comes after it isn't touched.
abbrev pub ReadsChecked
    : {M P : Type 0} → (M → Option (List ℕ)) → (P → Option (List ℕ)) → Counted M → Counted M
    → Counted P → Counted P
    → Result Checked PlannedFault → Type 0
ReadsChecked map_left plan_left old_map new_map old_plan new_plan (Ok c) =
    (m : Grid) × (p : Plan) × ReadsMapAndPlan map_left plan_left old_map new_map old_plan new_plan m
    p × IsCheckOf m p c
ReadsChecked map_left plan_left old_map new_map old_plan new_plan (Err (planned_fault.Map fault)) =
    ReadsMap map_left old_map new_map (Err fault) × (new_plan ≡ old_plan)
ReadsChecked map_left plan_left old_map new_map old_plan new_plan
    (Err (planned_fault.PlanText fault)) =
    (m : Grid) × ReadsMap map_left old_map new_map (Ok m)
    × ReadsPlan plan_left old_plan new_plan (Err fault)
ReadsChecked map_left plan_left old_map new_map old_plan new_plan (Err (planned_fault.Plan fault)) =
    (m : Grid) × (p : Plan) × ReadsMapAndPlan map_left plan_left old_map new_map old_plan new_plan m
    p × IsRefusedFor m p fault
ReadsChecked map_left plan_left old_map new_map old_plan new_plan (Err planned_fault.OutOfMemory) =
    ⊥

-- The same, and where the plan is valid this is its timetable, or memory was refused for what its
-- moves wait for.
abbrev pub ReadsTimetable
    : {M P : Type 0} → (M → Option (List ℕ)) → (P → Option (List ℕ)) → Counted M → Counted M
    → Counted P → Counted P
    → Result Timetable PlannedFault → Type 0
ReadsTimetable map_left plan_left old_map new_map old_plan new_plan (Ok tt) =
    (c : Checked) × ReadsChecked map_left plan_left old_map new_map old_plan new_plan (Ok c)
    × (tt ≡ c.timetable)
ReadsTimetable map_left plan_left old_map new_map old_plan new_plan
    (Err planned_fault.OutOfMemory) =
    (c : Checked) × ReadsChecked map_left plan_left old_map new_map old_plan new_plan (Ok c)
ReadsTimetable map_left plan_left old_map new_map old_plan new_plan (Err fault) =
    ReadsChecked map_left plan_left old_map new_map old_plan new_plan (Err fault)

-- The map was read, and then the plan, which is valid, and has this timetable.
abbrev pub IsAtHand
    : {M P : Type 0} → (M → Option (List ℕ)) → (P → Option (List ℕ)) → Counted M → Counted M
    → Counted P → Counted P → PlanAtHand → Type 0
IsAtHand map_left plan_left old_map new_map old_plan new_plan it =
    ReadsMapAndPlan map_left plan_left old_map new_map old_plan new_plan it.map it.plan
    × ((c : Checked) × IsCheckOf it.map it.plan c × (it.dependencies ≡ c.timetable))

-- These are at hand, or there is a fault, as where the timetable alone is read.
abbrev pub ReadsAtHand
    : {M P : Type 0} → (M → Option (List ℕ)) → (P → Option (List ℕ)) → Counted M → Counted M
    → Counted P → Counted P
    → Result PlanAtHand PlannedFault → Type 0
ReadsAtHand map_left plan_left old_map new_map old_plan new_plan (Ok it) =
    IsAtHand map_left plan_left old_map new_map old_plan new_plan it
ReadsAtHand map_left plan_left old_map new_map old_plan new_plan (Err fault) =
    ReadsTimetable map_left plan_left old_map new_map old_plan new_plan (Err fault)
