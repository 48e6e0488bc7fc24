use Rattle.std.proofs.Common.{◌≡◌, take, map}
use Rattle.std.specs.Prelude.{reverse}
use Rattle.model.specs.History.{History}
use Rattle.model.specs.Replies.{answer_of}
use Rattle.executor.specs.Standing.{StandsAt}
use Rattle.executor.proofs.runs.run_with.Given as goal

-- the runner stands at the run of the events so far and their replies
abbrev pub invariant-events : goal.invariant-events
invariant-events l = record {
  same_graph : l.runner.timetable ≡ l.graph;
  same_version : l.runner.version ≡ l.fn.version;
  history : History;
  stands : StandsAt l.runner history;
  same_events : map (λ now. now.event) history ≡ reverse (take l.event-index l.events);
  same_answers : map (λ now. now.answer) history ≡ reverse (map answer_of l.replies.items);
}
