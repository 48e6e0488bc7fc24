-- One digit more, or the tab.
use Rattle.std.proofs.Common.{◌+◌, ◌-◌, ◌<◌, inl, inr, length, take, drop, length-drop, arith, sym, subst, ◌∙◌}
use Rattle.std.proofs.lemmas.Bool.{cases_lt}
use Rattle.std.proofs.lemmas.List.{take_all}
use Rattle.scenario.specs.Code.Parsing.{IsShortNumber}
use Rattle.scenario.proofs.ShortLemmas.{digits_more, short_number-is}
use Rattle.scenario.proofs.usual_fields.short_number.Goals as goal

pub loop-i-preserved : goal.loop-i-preserved
loop-i-preserved c =
    let was = c.loop-i.invariant in
    let more = digits_more c.args.bytes.now c.loop-i.i c.loop-i.value c.from.result c.loop-i-test.true (sym c.is_ascii_digit.ensures.value ∙ c.if-not-is_ascii_digit.false) c.from.ensures
    was.digits was.value in
    let less = c.if-value-ge-SHORT.false in
    let digit = more.2 in
    record { digits = more.0; value = more.1; short = omega (arith, less, digit) }

pub returns-then-b-eq9 : goal.returns-then-b-eq9
returns-then-b-eq9 c =
    let bytes = c.args.bytes.now in
    let was = c.loop-i.invariant in
    let other = c.if-i-eq0.false in
    let some : 0 < c.loop-i.i = (elim (cases_lt 0 c.loop-i.i) [ inl more ↦ more | inr none ↦ absurd (other (omega (arith, none))) ]) in
    let short = was.short in
    let rest = take_all (length bytes - (c.loop-i.i + 1)) (drop (c.loop-i.i + 1) bytes) (let left = length-drop (c.loop-i.i + 1) bytes in omega (arith, left)) in
    subst (IsShortNumber bytes (take c.loop-i.i bytes) c.loop-i.value) (sym rest)
    (short_number-is bytes c.loop-i.i c.loop-i.value c.loop-i-test.true c.if-b-eq9.true some was.digits was.value (omega (arith, short)))
