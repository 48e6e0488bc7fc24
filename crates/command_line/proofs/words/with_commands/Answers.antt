-- One command more is one more step of the fold.
use Rattle.std.proofs.Common.{◌≡◌, ◌∙◌, ℕ, ◌+◌, ◌<◌, List, ap, map, sym, length, take, rules}
use Rattle.std.specs.Prelude.{fold, get_or}
use Rattle.std.proofs.lemmas.List.{map_more}
use Rattle.std.proofs.lemmas.List.Sums.{fold_push}
use Rattle.clap.specs.Words.{App, with_subcommand}
use Rattle.command_line.specs.declared.help.CommandText.{CommandText}
use Rattle.command_line.specs.Code.Parts.{shape_of_text}
use Rattle.command_line.proofs.words.with_commands.Goals as goal

abbrev with_first : App → List CommandText → ℕ → App
with_first bare texts count = fold with_subcommand bare (map shape_of_text (take count texts))

one_more : (bare program next : App) (texts : List CommandText) (i : ℕ) (d : CommandText) → i < length texts → program ≡ with_first bare texts i
    → next ≡ with_subcommand program (shape_of_text (get_or texts i d)) → next ≡ with_first bare texts (i + 1)
one_more bare program next texts i d here so_far added =
    let shape = shape_of_text (get_or texts i d) in
    added ∙ ap (λ a. with_subcommand a shape) so_far ∙ sym (fold_push with_subcommand bare (map shape_of_text (take i texts)) shape)
    ∙ ap (fold with_subcommand bare) (sym (map_more shape_of_text texts i d here))

pub loop-text-preserved : goal.loop-text-preserved
loop-text-preserved c =
    let here : c.loop-text.text-index < length c.args.texts.now = search rules in
    one_more _ _ _ c.args.texts.now c.loop-text.text-index _ here c.loop-text.invariant c.in_ok-program.ensures
