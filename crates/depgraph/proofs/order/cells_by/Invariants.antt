use Rattle.std.proofs.Common.{◌≡◌, take}
use Rattle.depgraph.specs.Code.Numbers.{cells_by}
use Rattle.depgraph.proofs.order.cells_by.Given as goal

abbrev pub invariant-loop-number : goal.invariant-loop-number
invariant-loop-number l = l.cells.items ≡ cells_by l.names (take l.number-index l.numbers)
