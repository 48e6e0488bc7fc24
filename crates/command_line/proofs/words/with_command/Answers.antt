use Rattle.std.proofs.Common.{◌∙◌, ◌<◌, ap, ap₂, sym, length, rules}
use Rattle.std.proofs.lemmas.List.{map_more}
use Rattle.clap.specs.Words.{new_app, with_rule}
use Rattle.command_line.specs.Code.Parts.{rule_of_word}
use Rattle.command_line.proofs.words.with_command.Goals as goal

pub loop-word-preserved : goal.loop-word-preserved
loop-word-preserved c =
    let added = c.in_ok-command.ensures in
    let text = c.args.text.now in
    let here : c.loop-word.word-index < length text.words.now = search rules in
    let more = map_more rule_of_word text.words.now c.loop-word.word-index _ here in
    let is = added.shape c.argument.ensures.local ∙ ap₂ with_rule c.loop-word.invariant.shape c.argument.ensures.rule in
    record {
      shape = is ∙ ap (λ rules. record (new_app text.name.now) { top = record (new_app text.name.now).top { rules = rules } }) (sym more);
      local = search rules;
    }
