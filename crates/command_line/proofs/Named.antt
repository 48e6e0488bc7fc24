-- What holds of a command's name holds of the word that is it.
use Rattle.std.proofs.Common.{◌≡◌, List, Result, subst, sym}
use Rattle.std.specs.Prelude.{IfErr}
use Rattle.clap.specs.Words.{Row, Text}
use Rattle.command_line.specs.Words.{HasValues}
use Rattle.command_line.specs.declared.command_line.LineFault.{LineFault}
use Rattle.command_line.specs.declared.command_line.LineFault.TheVariants.{OutOfMemory}
use Rattle.command_line.specs.declared.lines.Line.{Line}
use Rattle.command_line.specs.Code.Parts.{HasWords}

-- a fault of the command with this name, where it has its words and their values, is want of memory
abbrev pub IsWant : Text → List Row → LineFault → Type 0
IsWant name rows e = HasWords name rows → HasValues name rows → e ≡ OutOfMemory

pub named_want : {name known : Text} (rows : List Row) (read : Result Line LineFault) → name ≡ known → IfErr read (IsWant known rows) → IfErr read (IsWant name rows)
named_want rows read is wants = subst (λ word. IfErr read (IsWant word rows)) (sym is) wants
