-- A plan that was read and checked on its map.
use Rattle.std.specs.Prelude.{◌≡◌, ℕ, List, Option, Result, Ok, Err, MatchResult}
use Rattle.text_io.specs.declared.counted.Counted.{Counted}
use Rattle.model.specs.Plan.{Plan}
use Rattle.plan_text.specs.PlanTextFault.{ReadsMapAndPlan}
use Rattle.checker.specs.Checking.{IsCheckOf, IsRefusedFor}
use Rattle.check_commands.specs.declared.on_map.OnMap.{OnMap}

-- the map and the plan were read, and this is what came of the check
abbrev pub ReadsOn
    : {M P : Type 0} → (M → Option (List ℕ)) → (P → Option (List ℕ)) → Counted M → Counted M
    → Counted P → Counted P → OnMap → Type 0
ReadsOn map_left plan_left old_map new_map old_plan new_plan on =
    (p : Plan) × ReadsMapAndPlan map_left plan_left old_map new_map old_plan new_plan on.map p
    × MatchResult on.checked (IsCheckOf on.map p) (λ r. (r.plan ≡ p)
    × IsRefusedFor on.map p r.fault)
