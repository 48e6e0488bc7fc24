use Rattle.std.proofs.Common.{sym}
use Rattle.agent.proofs.SpellingLemmas.{rising-of}
use Rattle.agent.proofs.agent.Agent.hear_entries.Goals as goal

pub take_all-requires : goal.take_all-requires
take_all-requires g c = rising-of 0 0 c.args.entries.now (sym c.in-None.ensures)
