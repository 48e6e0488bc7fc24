use Rattle.std.proofs.Common.{◌≡◌, map, take}
use Rattle.walks.specs.Code.KeyParts.{number_of_entry}
use Rattle.walks.proofs.length_table.LengthTable.from_entries.Given as goal

-- the keys are those of the entries before
abbrev pub invariant-loop-entry : goal.invariant-loop-entry
invariant-loop-entry l = map (λ k. k.value) l.keys.items ≡ map number_of_entry (take l.entry-index l.entries)
