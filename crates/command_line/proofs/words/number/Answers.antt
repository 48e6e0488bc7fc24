use Rattle.std.proofs.Common.{◌≡◌, ◌∙◌, ℕ, ◌^◌, ◌<◌, List, Option, Some, None, MatchOption, sym, subst, rules}
use Rattle.clap.specs.Words.{Row, Text, first_of, found_of, rows_of}
use Rattle.clap.proofs.WalkLemmas.{first_value-rows}
use Rattle.text_io.specs.Text.{SpellsNumber}
use Rattle.command_line.specs.Words.{GivesNumber, GivesNumberBelow}
use Rattle.command_line.proofs.words.number.Goals as goal

-- what is spelled by the digits that the rows give
given_number : (word : Text) (rows : List Row) (digits : Text) (o : Option ℕ) → first_of word rows ≡ Some digits
    → MatchOption o ((n : ℕ) → n < 2 ^ 32 → SpellsNumber n digits → ⊥) (λ n. SpellsNumber n digits)
    → MatchOption o (GivesNumberBelow (2 ^ 32) word rows → ⊥) (GivesNumber word rows)
given_number word rows digits (Some n) is spells = (digits, is, spells)
given_number word rows digits None is none =
    λ given. let same : given.2.0 ≡ digits = cc in none given.0 given.1 (subst (SpellsNumber given.0) same given.2.2)

pub returns : goal.returns
returns c =
    let word = c.args.name.now in
    let rows = rows_of (found_of c.args.given.now) in
    let same = first_value-rows (found_of c.args.given.now) word in
    let is : first_of word rows ≡ Some c.in_ok-get_str.field-0.now = sym same ∙ sym c.get_str.ensures ∙ search rules in
    given_number word rows c.in_ok-get_str.field-0.now c.spelled.result is c.spelled.ensures

pub returns-in_err-get_str : goal.returns-in_err-get_str
returns-in_err-get_str c =
    let word = c.args.name.now in
    let rows = rows_of (found_of c.args.given.now) in
    let none : None ≡ first_of word rows = c.in_err-get_str.ensures ∙ first_value-rows (found_of c.args.given.now) word in
    rw c.from_residual.ensures (λ given. let bad : None ≡ Some given.2.0 = none ∙ given.2.1 in cc)
