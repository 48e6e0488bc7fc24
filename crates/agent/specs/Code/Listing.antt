-- Entries as the code has them: as bytes spell them, or as a list.
use Rattle.std.specs.Prelude.{List}
use Rattle.model.specs.declared.entry.Entry as model
use Rattle.agent.specs.Decoding.{entries_in}
use Rattle.agent.specs.declared.entries.Entries.{Entries}
use Rattle.agent.specs.declared.entries.Entries.TheVariants.{Spelled, Listed}

abbrev pub entries_of : Entries → List model.Entry
entries_of (Spelled bytes) = entries_in bytes.now
entries_of (Listed entries) = entries.now
