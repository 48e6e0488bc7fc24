-- Each cell goes last, since no other has its name.
use Rattle.std.proofs.Common.{◌∙◌, ap}
use Rattle.std.proofs.lemmas.List.{get_or-map}
use Rattle.std.specs.Prelude.{get_or}
use Rattle.indexmap.specs.IndexMap.{insert_entry}
use Rattle.model.specs.Timetable.{same_cell}
use Rattle.model.specs.Laws.Tracks.{same_cell-same}
use Rattle.depgraph.specs.Code.Numbers.{no_cell}
use Rattle.depgraph.proofs.CellLemmas.{one_more}
use Rattle.depgraph.proofs.order.numbered_cells.Goals as goal

pub loop-m-preserved : goal.loop-m-preserved
loop-m-preserved c =
    c.in_ok-insert.ensures.entries
    ∙ ap (λ cell. insert_entry same_cell c.loop-m.cells.entries cell (get_or c.args.order.now c.loop-m.m 0))
    (ap (λ l. get_or l c.loop-m.m no_cell) (c.as_slice-listed.ensures.value ∙ c.in_ok-listed.ensures)
    ∙ get_or-map (λ n. get_or c.args.names.now n no_cell) c.args.order.now c.loop-m.m 0 no_cell c.loop-m-test.true)
    ∙ one_more same_cell same_cell-same c.args.names.now c.args.order.now c.requires.distinct c.requires.known c.requires.different c.loop-m.cells c.loop-m.m
    c.loop-m-test.true c.loop-m.invariant
