-- What an agent of a run tells.
use Rattle.std.specs.Prelude.{length}
use Rattle.model.specs.Messages.{Message, whole_message}
use Rattle.agent.specs.Agents.{AgentOn, state_of}
use Rattle.agent.specs.Counters.{known_in}
use Rattle.agent.specs.States.{finished_moves}
use Rattle.agent.specs.declared.counted_tape.CountedTape.{CountedTape}
use Rattle.agent.specs.CountedTape.{counted_state}

-- the message of version 2 with all that it knows
abbrev pub message_told : AgentOn CountedTape → Message
message_told a =
    whole_message (length a.part.moves) a.part.agent (finished_moves (state_of counted_state a))
    (known_in a.heard)
