-- A bad command line is a refusal.
use Rattle.std.proofs.Common.{inl, inr}
use Rattle.command_line.proofs.words.tapes_word.Goals as goal

pub returns-else-is_pattern-clause-refusal : goal.returns-else-is_pattern-clause-refusal
returns-else-is_pattern-clause-refusal c = elim c.bad_command.ensures [
  | inl memory ↦ inl memory
  | inr bad ↦ inr (bad.0, bad.1)
]
