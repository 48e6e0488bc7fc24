-- Places tell cells, and lines tell both.
use Rattle.plan_commands.proofs.PathLines.{one_reading}
use Rattle.plan_commands.proofs.RowLemmas.{cells_of_tracks, rows_one}
use Rattle.plan_commands.proofs.laws.positions.Goals as goal

pub returns-clause-one_list : goal.returns-clause-one_list
returns-clause-one_list c = rows_one

pub returns-clause-timetable : goal.returns-clause-timetable
returns-clause-timetable c = λ p table rows is are t cells there. cells_of_tracks p.courses table.tracks t cells is.tracks (are.each t cells there)

pub returns-clause-one_reading : goal.returns-clause-one_reading
returns-clause-one_reading c = one_reading
