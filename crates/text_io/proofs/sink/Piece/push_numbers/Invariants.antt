-- The numbers before are written.
use Rattle.std.proofs.Common.{◌≡◌, ◌+◌, ◌*◌, ◌≤◌, ◌++◌, take}
use Rattle.text_io.specs.Text.{separated}
use Rattle.text_io.proofs.sink.Piece.push_numbers.Given as goal

abbrev pub invariant-loop-number : goal.invariant-loop-number
invariant-loop-number l = record {
  room : l.at ≤ l.fn.self.len + 21 * l.number-index;
  bytes : take l.at l.self.bytes ≡ take l.fn.self.len l.fn.self.bytes ++ separated l.separator (take l.number-index l.numbers);
}
