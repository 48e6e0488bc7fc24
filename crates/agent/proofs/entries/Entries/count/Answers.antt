use Rattle.std.proofs.Common.{length, sym, ap, ◌∙◌}
use Rattle.agent.specs.Code.Listing.{entries_of}
use Rattle.agent.proofs.SpellingLemmas.{count-in}
use Rattle.agent.proofs.entries.Entries.count.Goals as goal

pub returns-in-Spelled : goal.returns-in-Spelled
returns-in-Spelled c = sym (count-in c.in-Spelled.bytes.now) ∙ ap (λ e. length (entries_of e)) (sym c.in-Spelled.is)
