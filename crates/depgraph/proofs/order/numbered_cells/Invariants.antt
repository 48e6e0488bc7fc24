use Rattle.std.proofs.Common.{◌≡◌, take}
use Rattle.depgraph.specs.Code.Orders.{numbered}
use Rattle.depgraph.proofs.order.numbered_cells.Given as goal

abbrev pub invariant-loop-m : goal.invariant-loop-m
invariant-loop-m l = l.cells.entries ≡ numbered l.names (take l.m l.order)
