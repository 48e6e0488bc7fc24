-- Which entries notes name.
use Rattle.std.specs.Prelude.{◌+◌, ◌≤◌, List, length}
use Rattle.std.specs.List.{AllByRecursion}
use Rattle.model.specs.declared.entry.Entry.{Entry}
use Rattle.executor.specs.declared.said.Note.{Note}

-- each names entries that there are
abbrev pub AreNoted : List Entry → List Note → Type 0
AreNoted entries notes = AllByRecursion (λ note. note.first + note.count ≤ length entries) notes
