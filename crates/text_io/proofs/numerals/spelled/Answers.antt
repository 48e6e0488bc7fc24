-- A number that is too large with some of its digits is so with all.
use Rattle.std.proofs.Common.{◌≡◌, ◌-◌, ◌^◌, ◌<◌, ◌≤◌, true, inr, length, get_or, sym, ◌∙◌, subst, arith}
use Rattle.std.specs.Char.{is_ascii_digit}
use Rattle.text_io.proofs.NumeralLemmas.{value_after-large}
use Rattle.text_io.proofs.numerals.spelled.Goals as goal

pub returns-in_err-checked_mul : goal.returns-in_err-checked_mul
returns-in_err-checked_mul c =
    let bytes = c.args.bytes.now in
    let i = c.loop-b.b-index in
    let within : i < length bytes = omega arith in
    let digit : is_ascii_digit (get_or bytes i 0) ≡ true = sym c.is_ascii_digit.ensures.value ∙ c.if-not-is_ascii_digit.false in
    let large = value_after-large bytes i c.loop-b.value (get_or bytes i 0 - 48) (2 ^ 64) within digit (omega arith) (omega (arith, c.in_err-checked_mul.ensures)) in
    rw c.from_residual.ensures (inr (subst (λ n. 2 ^ 64 ≤ n) c.loop-b.invariant.value large))

pub returns-in_err-value : goal.returns-in_err-value
returns-in_err-value c =
    let bytes = c.args.bytes.now in
    let i = c.loop-b.b-index in
    let within : i < length bytes = omega arith in
    let digit : is_ascii_digit (get_or bytes i 0) ≡ true = sym c.is_ascii_digit.ensures.value ∙ c.if-not-is_ascii_digit.false in
    let large = value_after-large bytes i c.loop-b.value (get_or bytes i 0 - 48) (2 ^ 64) within digit (omega arith)
    (omega (arith, c.in_err-value.ensures, c.in_ok-checked_mul.ensures, c.from.ensures)) in
    rw c.from_residual-in_err-value.ensures (inr (subst (λ n. 2 ^ 64 ≤ n) c.loop-b.invariant.value large))
