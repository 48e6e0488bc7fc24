-- The cells so far, and so many numbers.
use Rattle.std.proofs.Common.{◌≡◌, map, take}
use Rattle.std.specs.List.{range_with_len}
use Rattle.depgraph.specs.Code.Numbers.{cells_by}
use Rattle.depgraph.proofs.part.numbered_anew.Given as goal

abbrev pub invariant-loop-index : goal.invariant-loop-index
invariant-loop-index l = record {
  cells : l.cells.items ≡ take l.index (cells_by l.names l.numbers);
  numbers : l.own_numbers.items ≡ map (λ n. n) (range_with_len 0 l.index);
}
