-- The program has the commands so far.
use Rattle.std.proofs.Common.{◌≡◌, map, take}
use Rattle.std.specs.Prelude.{fold}
use Rattle.clap.specs.Words.{app_of, with_subcommand}
use Rattle.command_line.specs.Code.Parts.{shape_of_text}
use Rattle.command_line.proofs.words.with_commands.Given as goal

abbrev pub invariant-loop-text : goal.invariant-loop-text
invariant-loop-text l = app_of l.program ≡ fold with_subcommand (app_of l.fn.bare) (map shape_of_text (take l.text-index l.texts))
