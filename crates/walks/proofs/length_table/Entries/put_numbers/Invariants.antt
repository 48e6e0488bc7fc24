use Rattle.std.proofs.Common.{◌≡◌, ℕ, ◌+◌, ◌<◌}
use Rattle.std.specs.Prelude.{slice_index}
use Rattle.walks.specs.Code.TableEntries.{number_on}
use Rattle.walks.proofs.length_table.Entries.put_numbers.Given as goal

-- the numbers of the cells before are told
abbrev pub invariant-loop-i : goal.invariant-loop-i
invariant-loop-i l = (k : ℕ) → k < l.i → slice_index l.numbers k ≡ number_on l.self l.width (l.x + k) l.y
