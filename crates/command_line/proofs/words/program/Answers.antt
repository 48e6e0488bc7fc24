-- The commands are those of the three lists, one behind another.
use Rattle.std.proofs.Common.{◌≡◌, ◌∙◌, List, ap, ap₂, true}
use Rattle.std.specs.Prelude.{fold}
use Rattle.std.proofs.lemmas.Result.{IfOk-weaker}
use Rattle.clap.specs.Simple.{app_of_fields, on_top}
use Rattle.clap.specs.Words.{App, Shape, app_of, with_subcommand}
use Rattle.command_line.specs.Words.{bare_program, plan_usages, program_app, run_usages, text_usages}
use Rattle.command_line.specs.Code.Parts.{shapes_of}
use Rattle.command_line.proofs.words.program.Goals as goal

abbrev with_version : App → App
with_version = on_top (λ s. record s { has_version = true })

abbrev with_subcommand_required : App → App
with_subcommand_required = on_top (λ s. record s { subcommand_required = true })

abbrev with_all : App → List Shape → App
with_all app shapes = fold with_subcommand app shapes

all_lists : (bare first second third : App) (xs ys zs : List Shape) → bare ≡ bare_program → first ≡ with_all bare xs → second ≡ with_all first ys
    → third ≡ with_all second zs → xs ≡ shapes_of text_usages → ys ≡ shapes_of plan_usages → zs ≡ shapes_of run_usages
    → third ≡ program_app
all_lists bare first second third xs ys zs b f s t x y z = t ∙ ap₂ with_all (s ∙ ap₂ with_all (f ∙ ap₂ with_all b x) y) z

pub returns : goal.returns
returns c =
    let version : app_of c.version.result ≡ with_version (app_of c.new.result) = ap app_of_fields c.version.ensures in
    let about : app_of c.about.result ≡ app_of c.version.result = ap app_of_fields c.about.ensures in
    let after : app_of c.after_help.result ≡ app_of c.about.result = ap app_of_fields c.after_help.ensures in
    let required : app_of c.subcommand_required-program.result ≡ with_subcommand_required (app_of c.after_help.result)
    = ap app_of_fields c.subcommand_required-program.ensures in
    let bare : app_of c.subcommand_required-program.result ≡ bare_program
    = required ∙ ap with_subcommand_required (after ∙ about ∙ version ∙ ap with_version c.new.ensures.app) in
    IfOk-weaker c.with_commands-3.result _ _ (λ program is.
    all_lists _ _ _ _ _ _ _ bare c.in_ok-program.ensures c.in_ok-program-2.ensures is c.text_commands.ensures c.plan_commands.ensures c.run_commands.ensures) c.with_commands-3.ensures
