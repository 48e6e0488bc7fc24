-- Digits without a leading zero spell one number.
use Rattle.std.proofs.Common.{◌≡◌, sym, ◌∙◌, arith}
use Rattle.carrier_text.proofs.CoordinateLemmas.{number_found, number_says}
use Rattle.carrier_text.proofs.event_line.read_number.Goals as goal

pub returns-in_err-number : goal.returns-in_err-number
returns-in_err-number c =
    rw c.from_residual.ensures (λ n h. let found = c.in_err-number.ensures ∙ number_found c.args.digits.now n h in cc)

pub returns-then-number-gt-LARGEST_NUMBER : goal.returns-then-number-gt-LARGEST_NUMBER
returns-then-number-gt-LARGEST_NUMBER c n h =
    let found = c.in_ok-number.ensures ∙ number_found c.args.digits.now n h in
    let same : c.in_ok-number.number ≡ n = cc in
    absurd (omega (arith, h.0, same))

pub returns : goal.returns
returns c = (omega arith, number_says c.args.digits.now c.in_ok-number.number (sym c.in_ok-number.ensures))
