use Rattle.std.proofs.Common.{◌≡◌, ◌-◌, ◌≤◌, [], get_or}
use Rattle.depgraph.specs.Code.Entries.{begin_in}
use Rattle.depgraph.specs.Code.Links.{links_in, AreLinksIn}
use Rattle.depgraph.specs.Rotations.{turns_of}
use Rattle.depgraph.proofs.TurnedLemmas.{AreTurned}
use Rattle.depgraph.proofs.rotations.rotations_by_agent.Given as goal

-- the entry is the first of the agent, and all before it are walked from
abbrev pub invariant-loop-agent : goal.invariant-loop-agent
invariant-loop-agent l = record {
  first : l.entry ≡ begin_in l.ends l.agent;
  whole : AreLinksIn l.links;
  trail : l.trail.items ≡ [];
  turned : AreTurned l.plan.timetable l.ends l.waits (links_in l.fn.links) (links_in l.links) l.entry (turns_of l.rotations.items);
}

-- the entry is one of the agent, or is past the last
abbrev pub invariant-loop-entry : goal.invariant-loop-entry
invariant-loop-entry l = record {
  from : begin_in l.ends l.agent ≤ l.entry;
  to : l.entry ≤ get_or l.ends l.agent 0;
  whole : AreLinksIn l.links;
  trail : l.trail.items ≡ [];
  turned : AreTurned l.plan.timetable l.ends l.waits (links_in l.fn.links) (links_in l.links) l.entry (turns_of l.rotations.items);
}

abbrev pub decreases-loop-entry : goal.decreases-loop-entry
decreases-loop-entry l = get_or l.ends l.agent 0 - l.entry
