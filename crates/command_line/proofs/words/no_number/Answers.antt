use Rattle.std.proofs.Common.{inl, inr, refl}
use Rattle.command_line.proofs.words.no_number.Goals as goal

pub returns-in-Ok-format : goal.returns-in-Ok-format
returns-in-Ok-format c = inr (c.in-Ok-format.text, refl)

pub returns-in_default : goal.returns-in_default
returns-in_default c = inl refl

pub returns : goal.returns
returns c = inl refl
