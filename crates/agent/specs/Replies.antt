-- What an agent answers, as answers to events.
use Rattle.std.specs.Prelude.{ℕ, Option, None, Some, Result, Ok, Err}
use Rattle.grid.specs.declared.cell.Cell.{Cell}
use Rattle.model.specs.declared.held.Held.{Held}
use Rattle.model.specs.declared.held.Held.TheVariants.{At, Between}
use Rattle.model.specs.declared.why.Why.{Why}
use Rattle.model.specs.declared.why.Why.TheVariants as why
use Rattle.model.specs.History.{Answer, heard, at, between, refused}
use Rattle.model.specs.declared.msg_fault.MsgFault.TheVariants.{BadLength, BadMagic}
use Rattle.model.specs.declared.msg_fault.MsgFault.TheVariants.{BadVersion, BadEntry}
use Rattle.agent.specs.declared.refusal.HearFault.{HearFault}
use Rattle.agent.specs.declared.refusal.HearFault.TheVariants as fault
use Rattle.agent.specs.declared.refusal.Refusal.{Refusal}
use Rattle.agent.specs.declared.refusal.Refusal.TheVariants.{Broken, AlreadyMoving, AtEnd}
use Rattle.agent.specs.declared.refusal.Refusal.TheVariants.{Waits, NotMoving, StoreFailed}

abbrev pub why_of : Refusal → Why
why_of Broken = why.Broken
why_of AlreadyMoving = why.AlreadyMoving
why_of AtEnd = why.AtEnd
why_of (Waits agent count) = why.Waits agent count
why_of NotMoving = why.NotMoving
why_of StoreFailed = why.StoreFailed

-- the answer where nothing is refused, or the refusal
abbrev pub unless : Option Refusal → Answer → Answer
unless None answer = answer
unless (Some refusal) answer = refused (why_of refusal)

-- what a call of an agent that goes on gives, as an answer
abbrev pub answered : (Cell → Answer) → Result Cell Refusal → Answer
answered of (Ok c) = of c
answered of (Err why) = refused (why_of why)

-- what hearing a message gives, as an answer; none where memory was refused
abbrev pub delivered : Result (ℕ × ℕ) HearFault → Option Answer
delivered (Ok (sender, known)) = Some (heard sender known)
delivered (Err (fault.Message BadLength)) = Some (refused why.BadLength)
delivered (Err (fault.Message BadMagic)) = Some (refused why.BadMagic)
delivered (Err (fault.Message BadVersion)) = Some (refused why.BadVersion)
delivered (Err (fault.Message (BadEntry number))) = Some (refused (why.BadEntry number))
delivered (Err fault.WrongPlan) = Some (refused why.WrongPlan)
delivered (Err fault.NoSuchAgent) = Some (refused why.NoSuchAgent)
delivered (Err fault.TooMany) = Some (refused why.TooMany)
delivered (Err fault.Broken) = Some (refused why.Broken)
delivered (Err fault.OutOfMemory) = None

-- what an agent holds, and how many moves it has finished
abbrev pub stood : Held → ℕ → Answer
stood (At u) k = at u k
stood (Between u v) k = between u v k
