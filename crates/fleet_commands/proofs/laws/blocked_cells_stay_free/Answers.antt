-- Each cell of a path is passable.
use Rattle.std.proofs.Common.{ℕ, arith, subst}
use Rattle.grid.specs.declared.cell.Cell.{Cell}
use Rattle.grid.specs.Map.{Grid, IsPassable}
use Rattle.model.specs.Laws.Tracks.{length-path}
use Rattle.model.specs.Plan.{Plan, IsTimetableOf, IsValid}
use Rattle.model.specs.Safety.{MayBeIn}
use Rattle.model.specs.Timetable.{Timetable}
use Rattle.fleet_commands.proofs.LeftIndexes.{course-of}
use Rattle.fleet_commands.proofs.PassableWays.{passable-path}
use Rattle.fleet_commands.proofs.laws.blocked_cells_stay_free.Goals as goal

stays-passable : (m : Grid) (p : Plan) (table : Timetable) (begun finished : ℕ → ℕ) (i : ℕ) (cell : Cell) → IsValid m p → IsTimetableOf p table
    → MayBeIn table begun finished i cell → IsPassable m cell
stays-passable m p table begun finished i cell valid is there =
    let track = there.0 in
    let n = there.1 in
    let within = there.3 in
    let long = length-path track.start track.later in
    let has = course-of p.courses table.tracks is.tracks i track there.2 in
    subst (IsPassable m) there.4 (passable-path m p valid i has.course track has.there has.is n (omega (arith, within, long)))

pub returns-clause-passable : goal.returns-clause-passable
returns-clause-passable c = stays-passable

pub returns-clause-blocked : goal.returns-clause-blocked
returns-clause-blocked c = λ m blocked p table begun finished i cell is_map is valid of there.
    c.blocked_cells.ensures.closed m blocked cell is_map is (stays-passable blocked p table begun finished i cell valid of there)
