-- The words are three.
use Rattle.std.proofs.Common.{◌≡◌, ◌∙◌, ◌<◌, ◌≤◌, List, [], ◌∷◌, Option, Some, None, ap, arith, codes, get_or, length, map, string_bytes, subst, sym}
use Rattle.std.specs.Prelude.{IfSome, String}
use Rattle.std.specs.Global.{Global}
use Rattle.clap.specs.Words.{Text}
use Rattle.mapf_cmd.specs.Program.{AsksForFaultHelp}
use Rattle.mapf_cmd.proofs.unperformed.fault_help_of.Goals as goal

three_words : (words : List (String Global)) (second : String Global) → 3 ≤ length words → length words < 4 → second ≡ get_or words 1 second
    → string_bytes second ≡ codes "help"
    → (name : Text) × (topic : Text) × (map string_bytes words ≡ name ∷ codes "help" ∷ topic ∷ [])
three_words [] second least most is help = absurd (omega arith)
three_words (a ∷ []) second least most is help = absurd (omega arith)
three_words (a ∷ b ∷ []) second least most is help = absurd (omega arith)
three_words (a ∷ b ∷ d ∷ []) second least most is help =
    (string_bytes a, string_bytes d, ap (λ bytes. string_bytes a ∷ bytes ∷ string_bytes d ∷ []) (ap string_bytes (sym is) ∙ help))
three_words (a ∷ b ∷ d ∷ e ∷ rest) second least most is help = absurd (omega arith)

if_some : {A : Type 0} (o : Option A) (P : Type 0) → P → IfSome o (λ _. P)
if_some None P p = tt
if_some (Some x) P p = p

pub returns-in-help : goal.returns-in-help
returns-in-help c =
    let has = c.in-BadCommand-len3 in
    let help : string_bytes c.help-item.result ≡ codes "help" = sym c.as_str.ensures.value ∙ c.in-help.is in
    let asks = three_words c.args.words.now c.help-item.result has.len_at_least has.len_below c.help-item.is help in
    if_some c.fault_help.result _ (subst (AsksForFaultHelp (map string_bytes c.args.words.now)) (sym has.is-0) asks)
