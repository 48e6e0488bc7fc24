use Rattle.std.proofs.Common.{ℕ, ◌^◌, ◌<◌, List, length, Result, Ok, Err, MatchOption, IsTrue, rules, sym, subst}
use Rattle.std.specs.Char.{is_ascii_digit}
use Rattle.std.specs.List.{list_all}
use Rattle.std.specs.Result.{result_ok, OkIff}
use Rattle.std.specs.Str.Parse.{digits_value}
use Rattle.std.proofs.lemmas.Str.Parse.{IsDigitsTest, IsNumeralModel, numerals_by_value, parse_digits}
use Rattle.text_io.specs.Text.{SpellsNumber}
use Rattle.command_line.proofs.words.spelled.Goals as goal

abbrev AreDigits : List ℕ → Type 0
AreDigits digits = IsTrue (list_all is_ascii_digit digits)

tells_digits : IsDigitsTest AreDigits
tells_digits = search rules

numerals : IsNumeralModel AreDigits (digits_value 10)
numerals = numerals_by_value AreDigits tells_digits

abbrev Fits : List ℕ → Type 0
Fits digits = (n : ℕ) → n < 2 ^ 32 → SpellsNumber n digits → ⊥

-- what `parse` makes of digits alone
parsed : {E : Type 0} (digits : List ℕ) (r : Result ℕ E) → AreDigits digits
    → OkIff r ((0 < length digits) × (digits_value 10 digits < 2 ^ 32)) (digits_value 10 digits)
    → MatchOption (result_ok r) (Fits digits) (λ n. SpellsNumber n digits)
parsed digits (Ok n) all is = (all, is.0.0, sym is.1)
parsed digits (Err e) all isnt = λ n fits spells. isnt (spells.1, subst (λ (m : ℕ). m < 2 ^ 32) (sym spells.2) fits)

pub returns-then-are_digits : goal.returns-then-are_digits
returns-then-are_digits c =
    let all : AreDigits c.args.digits.now = sym c.if-are_digits.ensures in
    rw c.ok.ensures.value (parsed c.args.digits.now c.parse.result all (parse_digits numerals 32 c.args.digits.now _ c.parse.ensures.value.0 all))
