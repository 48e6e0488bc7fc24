use Rattle.std.proofs.Common.{◌∙◌, arith, refl, sym}
use Rattle.std.proofs.lemmas.List.{take_all}
use Rattle.agent_commands.proofs.kept_plan.are_same.Goals as goal

pub returns : goal.returns
returns c =
    let end = c.loop-i-test.false in
    let count = c.if-one-other.false in
    let one = take_all c.loop-i.i c.args.one.now end in
    let other = take_all c.loop-i.i c.args.other.now (omega (arith, end, count)) in
    (λ true. sym one ∙ c.loop-i.invariant ∙ other, λ same. refl)
