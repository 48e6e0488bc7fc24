-- An agent whose own tape was opened again.
use Rattle.std.specs.Prelude.{◌≡◌, false, [], None}
use Rattle.agent.specs.Agents.{AgentOn}
use Rattle.agent.specs.declared.counted_tape.CountedTape.{CountedTape}
use Rattle.agent.specs.CountedTape.{counted_state, counted_armed, CountsFor}

-- It has what it had on the tape; nothing is heard or armed, and it isn't broken.
pub record Reopens (old new : AgentOn CountedTape) : Type 0 where
  pub part : new.part ≡ old.part
  pub contents : (counted_state new.tape).contents ≡ (counted_state old.tape).contents
  pub heard : new.heard ≡ []
  pub broken : new.broken ≡ false
  pub whose : CountsFor old.tape.plan old.tape.agent new.tape
  pub armed : counted_armed new.tape ≡ None
