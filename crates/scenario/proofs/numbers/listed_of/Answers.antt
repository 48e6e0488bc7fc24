use Rattle.std.proofs.Common.{sym, ◌∙◌}
use Rattle.scenario.proofs.ListedLemmas.{is_read}
use Rattle.scenario.proofs.numbers.listed_of.Goals as goal

pub invariant_of-result : goal.invariant_of-result
invariant_of-result c =
    let read = is_read c.args.bytes.now c.around_point.result.0.now c.around_point.result.1.now c.in_ok-spelled_after.field-0 c.in_ok-value.value
    c.around_point.ensures.whole c.around_point.ensures.after (sym c.is_listed_form.ensures ∙ c.if-not-is_listed_form.false)
    (sym c.in_ok-spelled_after.was ∙ c.spelled_after.ensures) (sym c.in_ok-value.was ∙ c.spelled_after-2.ensures) in
    record { decimals_limit = read.decimals_limit; digits_limit = read.digits_limit }

pub returns : goal.returns
returns c =
    let read = is_read c.args.bytes.now c.around_point.result.0.now c.around_point.result.1.now c.in_ok-spelled_after.field-0 c.in_ok-value.value
    c.around_point.ensures.whole c.around_point.ensures.after (sym c.is_listed_form.ensures ∙ c.if-not-is_listed_form.false)
    (sym c.in_ok-spelled_after.was ∙ c.spelled_after.ensures) (sym c.in_ok-value.was ∙ c.spelled_after-2.ensures) in
    (read.listed, read.value_is, read.decimals)
