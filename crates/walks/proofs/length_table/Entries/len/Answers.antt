use Rattle.std.proofs.Common.{length, sym, ap, ◌∙◌}
use Rattle.walks.specs.Code.TableEntries.{table_entries}
use Rattle.walks.proofs.TableLemmas.{found-length, listed-length}
use Rattle.walks.proofs.length_table.Entries.len.Goals as goal

pub returns-in-Listed : goal.returns-in-Listed
returns-in-Listed c = ap length c.as_slice.ensures.value ∙ sym (ap (λ e. length (table_entries e)) c.in-Listed.is ∙ listed-length c.in-Listed.keys)

pub returns-in-Found : goal.returns-in-Found
returns-in-Found c = c.len.ensures.value ∙ sym (ap (λ e. length (table_entries e)) c.in-Found.is ∙ found-length c.in-Found.tiles)
