-- The command has the words so far, and none of them is global.
use Rattle.std.proofs.Common.{◌≡◌, false, map, take}
use Rattle.clap.specs.Words.{app_of, new_app}
use Rattle.clap.specs.declared.builder.command.Command.TheViews.{out-Command}
use Rattle.command_line.specs.Code.Parts.{rule_of_word}
use Rattle.command_line.proofs.words.with_command.Given as goal

abbrev pub invariant-loop-word : goal.invariant-loop-word
invariant-loop-word l = record {
  shape : app_of l.command ≡ record (new_app l.text.name.now) { top = record (new_app l.text.name.now).top { rules = map rule_of_word (take l.word-index l.text.words.now) } };
  local : (out-Command l.command).has_globals ≡ false;
}
