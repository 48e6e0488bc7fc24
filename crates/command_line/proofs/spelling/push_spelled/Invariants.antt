-- What is left is spelled out behind what is there.
use Rattle.std.proofs.Common.{◌≡◌, ◌++◌, drop, map, string_bytes}
use Rattle.command_line.specs.Words.{with_all_spelled}
use Rattle.command_line.proofs.spelling.push_spelled.Given as goal

abbrev pub invariant-loop-at : goal.invariant-loop-at
invariant-loop-at l =
    map string_bytes l.spelled.items ++ with_all_spelled (map string_bytes (drop l.at l.words))
    ≡ map string_bytes l.fn.spelled.items ++ with_all_spelled (map string_bytes l.words)
