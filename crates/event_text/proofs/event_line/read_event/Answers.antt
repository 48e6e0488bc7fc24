-- What is told of a line by the word that it begins with.
use Rattle.std.proofs.Common.{◌^◌, Some, refl, sym, ap, ◌∙◌, codes}
use Rattle.model.specs.declared.event.Event.TheVariants.{Start, Finish, Say, Deliver, Restart, Tear}
use Rattle.text_io.specs.Numerals.{numeral_below}
use Rattle.event_text.specs.Code.EventLines.{with_agent, with_both, with_parts}
use Rattle.event_text.proofs.EventLemmas.{behind_word-missed, told_start, told_finish, told_say, told_deliver, told_restart, told_tear}
use Rattle.event_text.proofs.event_line.read_event.Goals as goal

pub returns-in_err-small_numeral : goal.returns-in_err-small_numeral
returns-in_err-small_numeral c =
    let told = told_start c.args.line.now c.in-Some.rest.now c.in-Some.ensures.cases.0 c.in-Some.ensures.cases.1 in
    rw c.from_residual.ensures (sym (told ∙ ap (with_agent Start) (sym c.in_err-small_numeral.ensures)))

pub returns-in-Some : goal.returns-in-Some
returns-in-Some c =
    let told = told_start c.args.line.now c.in-Some.rest.now c.in-Some.ensures.cases.0 c.in-Some.ensures.cases.1 in
    sym (told ∙ ap (with_agent Start) (sym c.in_ok-small_numeral.ensures))

pub returns-in_err-small_numeral-2 : goal.returns-in_err-small_numeral-2
returns-in_err-small_numeral-2 c =
    let told = told_finish c.args.line.now c.in-Some-strip_prefix.rest.now c.in-Some-strip_prefix.ensures.cases.0 c.in-Some-strip_prefix.ensures.cases.1 in
    rw c.from_residual-in_err-small_numeral-2.ensures (sym (told ∙ ap (with_agent Finish) (sym c.in_err-small_numeral-2.ensures)))

pub returns-in-Some-strip_prefix : goal.returns-in-Some-strip_prefix
returns-in-Some-strip_prefix c =
    let told = told_finish c.args.line.now c.in-Some-strip_prefix.rest.now c.in-Some-strip_prefix.ensures.cases.0 c.in-Some-strip_prefix.ensures.cases.1 in
    sym (told ∙ ap (with_agent Finish) (sym c.in_ok-small_numeral-2.ensures))

pub returns-in_err-small_numeral-3 : goal.returns-in_err-small_numeral-3
returns-in_err-small_numeral-3 c =
    let told = told_say c.args.line.now c.in-Some-strip_prefix-2.rest.now c.in-Some-strip_prefix-2.ensures.cases.0 c.in-Some-strip_prefix-2.ensures.cases.1 in
    rw c.from_residual-in_err-small_numeral-3.ensures (sym (told ∙ ap (with_agent Say) (sym c.in_err-small_numeral-3.ensures)))

pub returns-in-Some-strip_prefix-2 : goal.returns-in-Some-strip_prefix-2
returns-in-Some-strip_prefix-2 c =
    let told = told_say c.args.line.now c.in-Some-strip_prefix-2.rest.now c.in-Some-strip_prefix-2.ensures.cases.0 c.in-Some-strip_prefix-2.ensures.cases.1 in
    sym (told ∙ ap (with_agent Say) (sym c.in_ok-small_numeral-3.ensures))

pub returns-in_err-small_numeral-5 : goal.returns-in_err-small_numeral-5
returns-in_err-small_numeral-5 c =
    let told = told_restart c.args.line.now c.in-Some-strip_prefix-4.rest.now c.in-Some-strip_prefix-4.ensures.cases.0 c.in-Some-strip_prefix-4.ensures.cases.1 in
    rw c.from_residual-in_err-small_numeral-5.ensures (sym (told ∙ ap (with_agent Restart) (sym c.in_err-small_numeral-5.ensures)))

pub returns-in-Some-strip_prefix-4 : goal.returns-in-Some-strip_prefix-4
returns-in-Some-strip_prefix-4 c =
    let told = told_restart c.args.line.now c.in-Some-strip_prefix-4.rest.now c.in-Some-strip_prefix-4.ensures.cases.0 c.in-Some-strip_prefix-4.ensures.cases.1 in
    sym (told ∙ ap (with_agent Restart) (sym c.in_ok-small_numeral-5.ensures))

pub returns-in_err-small_numeral-4 : goal.returns-in_err-small_numeral-4
returns-in_err-small_numeral-4 c =
    let told = told_deliver c.args.line.now c.in-Some-strip_prefix-3.rest.now c.in-Some-strip_prefix-3.ensures.cases.0 c.in-Some-strip_prefix-3.ensures.cases.1 in
    let cut = ap (with_parts Deliver (2 ^ 64)) c.in_ok-agent.ensures in
    let agent = ap (λ r. with_both Deliver r (numeral_below (2 ^ 64) c.in_ok-agent.message.now)) (sym c.in_err-small_numeral-4.ensures) in
    rw c.from_residual-in_err-small_numeral-4.ensures (sym (told ∙ (cut ∙ agent)))

pub returns-in_err-numeral : goal.returns-in_err-numeral
returns-in_err-numeral c =
    let told = told_deliver c.args.line.now c.in-Some-strip_prefix-3.rest.now c.in-Some-strip_prefix-3.ensures.cases.0 c.in-Some-strip_prefix-3.ensures.cases.1 in
    let cut = ap (with_parts Deliver (2 ^ 64)) c.in_ok-agent.ensures in
    let agent = ap (λ r. with_both Deliver r (numeral_below (2 ^ 64) c.in_ok-agent.message.now)) (sym c.in_ok-small_numeral-4.ensures) in
    let message = ap (with_both Deliver (Some c.in_ok-small_numeral-4.field-0)) (sym c.in_err-numeral.ensures) in
    rw c.from_residual-in_err-numeral.ensures (sym (told ∙ (cut ∙ (agent ∙ message))))

pub returns-in-Some-strip_prefix-3 : goal.returns-in-Some-strip_prefix-3
returns-in-Some-strip_prefix-3 c =
    let told = told_deliver c.args.line.now c.in-Some-strip_prefix-3.rest.now c.in-Some-strip_prefix-3.ensures.cases.0 c.in-Some-strip_prefix-3.ensures.cases.1 in
    let cut = ap (with_parts Deliver (2 ^ 64)) c.in_ok-agent.ensures in
    let agent = ap (λ r. with_both Deliver r (numeral_below (2 ^ 64) c.in_ok-agent.message.now)) (sym c.in_ok-small_numeral-4.ensures) in
    let message = ap (with_both Deliver (Some c.in_ok-small_numeral-4.field-0)) (sym c.in_ok-numeral.ensures) in
    sym (told ∙ (cut ∙ (agent ∙ message)))

pub returns-in_err-strip_prefix : goal.returns-in_err-strip_prefix
returns-in_err-strip_prefix c =
    let line = c.args.line.now in
    let start = behind_word-missed (codes "start ") line c.in_default.ensures.cases in
    let finish = behind_word-missed (codes "finish ") line c.in_default-strip_prefix.ensures.cases in
    let say = behind_word-missed (codes "say ") line c.in_default-strip_prefix-2.ensures.cases in
    let deliver = behind_word-missed (codes "deliver ") line c.in_default-strip_prefix-3.ensures.cases in
    let restart = behind_word-missed (codes "restart ") line c.in_default-strip_prefix-4.ensures.cases in
    let tear = behind_word-missed (codes "tear ") line c.in_err-strip_prefix.ensures.cases in
    rw (c.from_residual-in_err-strip_prefix.ensures, start, finish, say, deliver, restart, tear) refl

pub returns-in_err-small_numeral-6 : goal.returns-in_err-small_numeral-6
returns-in_err-small_numeral-6 c =
    let told = told_tear c.args.line.now c.in_ok-strip_prefix.field-0.now c.in_ok-strip_prefix.ensures.cases.0 c.in_ok-strip_prefix.ensures.cases.1 in
    let cut = ap (with_parts Tear (2 ^ 32)) c.in_ok-agent-2.ensures in
    let agent = ap (λ r. with_both Tear r (numeral_below (2 ^ 32) c.in_ok-agent-2.count.now)) (sym c.in_err-small_numeral-6.ensures) in
    rw c.from_residual-in_err-small_numeral-6.ensures (sym (told ∙ (cut ∙ agent)))

pub returns-in_err-small_numeral-7 : goal.returns-in_err-small_numeral-7
returns-in_err-small_numeral-7 c =
    let told = told_tear c.args.line.now c.in_ok-strip_prefix.field-0.now c.in_ok-strip_prefix.ensures.cases.0 c.in_ok-strip_prefix.ensures.cases.1 in
    let cut = ap (with_parts Tear (2 ^ 32)) c.in_ok-agent-2.ensures in
    let agent = ap (λ r. with_both Tear r (numeral_below (2 ^ 32) c.in_ok-agent-2.count.now)) (sym c.in_ok-small_numeral-6.ensures) in
    let count = ap (with_both Tear (Some c.in_ok-small_numeral-6.field-0)) (sym c.in_err-small_numeral-7.ensures) in
    rw c.from_residual-in_err-small_numeral-7.ensures (sym (told ∙ (cut ∙ (agent ∙ count))))

pub returns : goal.returns
returns c =
    let told = told_tear c.args.line.now c.in_ok-strip_prefix.field-0.now c.in_ok-strip_prefix.ensures.cases.0 c.in_ok-strip_prefix.ensures.cases.1 in
    let cut = ap (with_parts Tear (2 ^ 32)) c.in_ok-agent-2.ensures in
    let agent = ap (λ r. with_both Tear r (numeral_below (2 ^ 32) c.in_ok-agent-2.count.now)) (sym c.in_ok-small_numeral-6.ensures) in
    let count = ap (with_both Tear (Some c.in_ok-small_numeral-6.field-0)) (sym c.in_ok-small_numeral-7.ensures) in
    sym (told ∙ (cut ∙ (agent ∙ count)))
