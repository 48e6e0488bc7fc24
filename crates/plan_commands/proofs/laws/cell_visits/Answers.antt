-- A cell's visits stand in a strict order, and each line tells its visit.
use Rattle.std.proofs.Common.{◌≡◌, ◌<◌, List, [], ◌∷◌, refl, arith}
use Rattle.grid.specs.declared.cell.Cell.{Cell}
use Rattle.model.specs.declared.visit.Visit.{Visit}
use Rattle.model.specs.Timetable.{Timetable}
use Rattle.depgraph.specs.Visits.{AreVisitsTo}
use Rattle.depgraph.specs.Laws.Rising.{one_list}
use Rattle.plan_commands.specs.CellVisitsText.{AreCellVisits}
use Rattle.plan_commands.proofs.VisitLines.{one_reading}
use Rattle.plan_commands.proofs.laws.cell_visits.Goals as goal

abbrev IsEarlier : Visit → Visit → Type 0
IsEarlier v w = v.time < w.time

some_visits : (tt : Timetable) (cell : Cell) (visits others : List Visit) → AreVisitsTo tt cell visits → AreVisitsTo tt cell others → visits ≡ others
some_visits tt cell visits others h k =
    one_list IsEarlier visits others (λ v w in_v in_w less more. omega (arith, less, more)) (λ v w in_v in_w less more. omega (arith, less, more)) h.rising k.rising
    (λ v there. k.whole v (h.sound there.0 v there.1)) (λ v there. h.whole v (k.sound there.0 v there.1))

cell_list : (tt : Timetable) (cell : Cell) (visits others : List Visit) → AreCellVisits tt cell visits → AreCellVisits tt cell others → visits ≡ others
cell_list tt cell [] [] h k = refl
cell_list tt cell [] (w ∷ others) h k = absurd (h w (k.sound 0 w refl))
cell_list tt cell (v ∷ visits) [] h k = absurd (k v (h.sound 0 v refl))
cell_list tt cell (v ∷ visits) (w ∷ others) h k = some_visits tt cell (v ∷ visits) (w ∷ others) h k

pub returns-clause-one_list : goal.returns-clause-one_list
returns-clause-one_list c = cell_list

pub returns-clause-one_reading : goal.returns-clause-one_reading
returns-clause-one_reading c = one_reading
