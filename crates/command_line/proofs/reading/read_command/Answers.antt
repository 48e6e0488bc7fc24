-- A name that is none of the commands' requires no words that could be given.
use Rattle.std.proofs.Common.{◌≡◌, ◌∙◌, IsTrue, List, [], ◌∷◌, ◌++◌, None, MatchOption, inl, inr, refl, subst, sym}
use Rattle.std.specs.Prelude.{find, is_some}
use Rattle.std.specs.List.{AllByRecursion}
use Rattle.std.specs.Str.{bytes_eq}
use Rattle.std.proofs.lemmas.Bool.{cases_Bool, cond-false}
use Rattle.std.proofs.lemmas.Slice.Eq.{bytes_eq-Decides}
use Rattle.clap.specs.Words.{Row, Text, first_of}
use Rattle.command_line.specs.Words.{Usage, commands, plan_usages, run_usages, text_usages}
use Rattle.command_line.specs.Code.Parts.{HasWords, IsOther}
use Rattle.command_line.proofs.reading.read_command.Goals as goal

other_of_both : (name : Text) (xs ys : List Usage) → IsOther name xs → IsOther name ys → IsOther name (xs ++ ys)
other_of_both name [] ys other more = more
other_of_both name (u ∷ xs) ys other more = (other.0, other_of_both name xs ys other.1 more)

none_named : (name : Text) (usages : List Usage) → IsOther name usages → find (λ u. bytes_eq u.name name) usages ≡ None
none_named name [] other = refl
none_named name (u ∷ usages) other = elim (cases_Bool (bytes_eq u.name name)) [
  | inl same ↦ absurd (other.0 (sym ((bytes_eq-Decides u.name name).0 same)))
  | inr differs ↦ cond-false (bytes_eq u.name name) _ _ differs ∙ none_named name usages other.1
]

no_words : (name : Text) (rows : List Row) → IsOther name commands → HasWords name rows → ⊥
no_words name rows other has =
    subst (λ o. MatchOption o ⊥ (λ (u : Usage). AllByRecursion (λ word. IsTrue (is_some (first_of word rows))) u.required)) (none_named name commands other) has

pub returns-clause-err : goal.returns-clause-err
returns-clause-err c = λ words values.
    let name = c.args.name.now in
    let later = other_of_both name plan_usages run_usages c.in_default-read_plan_command.ensures.other c.in_default-read_run_command.ensures.other in
    absurd (no_words name _ (other_of_both name text_usages (plan_usages ++ run_usages) c.in_default.ensures.other later) words)
