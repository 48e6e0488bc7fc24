use Rattle.std.proofs.Common.{inl, inr}
use Rattle.command_line.proofs.words.no_command.Goals as goal

pub returns : goal.returns
returns c = elim c.bad_command.ensures [
  | inl memory ↦ inl memory
  | inr bad ↦ inr (bad.0, bad.1)
]
