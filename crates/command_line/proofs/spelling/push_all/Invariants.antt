-- The words so far are behind those that were there.
use Rattle.std.proofs.Common.{◌≡◌, ◌++◌, map, string_bytes, take}
use Rattle.command_line.proofs.spelling.push_all.Given as goal

abbrev pub invariant-loop-word : goal.invariant-loop-word
invariant-loop-word l = map string_bytes l.spelled.items ≡ map string_bytes l.fn.spelled.items ++ map string_bytes (take l.word-index l.words)
