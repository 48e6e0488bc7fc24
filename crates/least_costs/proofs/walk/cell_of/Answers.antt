-- The cell at a time, or the last one.
use Rattle.std.proofs.Common.{◌≡◌, ◌+◌, ◌-◌, ◌<◌, length, arith, rules}
use Rattle.std.specs.Prelude.{slice_index_or}
use Rattle.std.proofs.lemmas.Option.{slice_get-get_or}
use Rattle.grid.specs.declared.cell.Cell.{Cell}
use Rattle.least_costs.proofs.AlongLemmas.{along_least}
use Rattle.least_costs.proofs.walk.cell_of.Goals as goal

pub returns : goal.returns
returns c =
    let cells = c.args.walk.now in
    let none : Cell = record { x = 0; y = 0 } in
    let some : 0 < length cells = search rules in
    let all : length cells ≡ length cells - 1 + 1 = omega (arith, some) in
    let within : c.min.result < length cells = omega (arith, some, c.min.ensures) in
    along_least cells (length cells - 1) c.args.time c.min.result (slice_index_or cells c.min.result none) all c.min.ensures
    (slice_get-get_or cells c.min.result none within)
