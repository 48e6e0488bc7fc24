-- What bytes are read as.
use Rattle.std.specs.Prelude.{List, ℕ}
use Rattle.model.specs.Messages.{own_message, IsMessage, IsTold}
use Rattle.agent.specs.Tellings.{Telling}
use Rattle.agent.specs.declared.message.Message.{Message}
use Rattle.agent.specs.declared.message.Message.TheVariants.{One, Two}

-- what a message tells
abbrev pub telling_of : Message → Telling
telling_of (One f) = record { plan = f.plan; message = own_message f.from f.done }
telling_of (Two told) = told

-- the bytes spell the message, at its version
abbrev pub IsReadAs : Message → List ℕ → Type 0
IsReadAs (One f) bytes = IsMessage f.plan f.from f.done bytes
IsReadAs (Two told) bytes = IsTold told.plan told.message bytes
