use Rattle.std.proofs.Common.{◌≡◌}
use Rattle.std.specs.Prelude.{is_some}
use Rattle.text_io.specs.Source.{source_reader, most_left}
use Rattle.model.specs.Timetable.{Timetable}
use Rattle.depgraph.specs.AgentParts.{IsPartOf, IsOfGraph}
use Rattle.robot.proofs.DialogueLemmas.{SoFar}
use Rattle.robot.proofs.talking.lead.Given as goal

-- the lines so far were read and answered
abbrev pub invariant-lines : goal.invariant-lines
invariant-lines g l = record {
  same_reader : l.source.reader.ghost_name ≡ l.fn.source.reader.ghost_name;
  heeded : l.talker.heeded ≡ l.fn.talker.heeded;
  part : l.talker.agent.part ≡ l.fn.talker.agent.part;
  of_graph : IsOfGraph l.fn.talker.agent.part;
  so_far : (table : Timetable) → IsPartOf table l.fn.talker.agent.part → SoFar g.R.Read.remaining g.W.Write.contents g.T.Tape.state (is_some l.fn.talker.heeded) table (source_reader l.fn.source)
      l.source l.fn.sink l.sink l.fn.talker.agent l.talker.agent;
}

abbrev pub decreases-lines : goal.decreases-lines
decreases-lines g l = most_left l.source
