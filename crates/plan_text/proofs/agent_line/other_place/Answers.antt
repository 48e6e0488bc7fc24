use Rattle.std.proofs.Common.{◌≡◌, ◌<◌, ◌+◌, length, take, drop, get_or, false, sym, ap, ◌∙◌, arith}
use Rattle.std.specs.List.{list_all, prefix_len}
use Rattle.std.proofs.lemmas.List.{length-take-le}
use Rattle.plan_text.specs.PlanTextFault.{is_act}
use Rattle.plan_text.proofs.JudgedLines.{others_fail}
use Rattle.text_io.specs.Laws.Parts.{about}
use Rattle.plan_text.proofs.agent_line.other_place.Goals as goal

pub returns-then-not-is_act : goal.returns-then-not-is_act
returns-then-not-is_act c =
    let bytes = c.args.bytes.now in
    let i = c.loop-i.i in
    let below : i < length bytes = omega arith in
    let none : is_act (get_or bytes i 0) ≡ false = sym c.is_act.ensures ∙ c.if-not-is_act.true in
    let parts = about bytes i below in
    let fails = others_fail (take i bytes) (get_or bytes i 0) (drop (i + 1) bytes) c.loop-i.invariant none in (
      ap (list_all is_act) parts ∙ fails.0,
      sym (ap (prefix_len is_act) parts ∙ (fails.1 ∙ length-take-le i bytes (omega arith))),
      below,
    )
