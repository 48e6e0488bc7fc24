use Rattle.std.proofs.Common.{arith, subst}
use Rattle.std.specs.Io.KnownBytes.{Consumes}
use Rattle.std.proofs.lemmas.List.{length-take-le, take_all}
use Rattle.std.specs.Cmp.Lexicographic.{other_text}
use Rattle.agent_commands.proofs.PlanLemmas.{other_line, short_text}
use Rattle.agent_commands.proofs.plan_file.read_mark.Goals as goal

pub returns-then-len-lt14-clause-ok : goal.returns-then-len-lt14-clause-ok
returns-then-len-lt14-clause-ok g c =
    let told = c.in_ok-len.ensures in
    let count = length-take-le c.in_ok-len.len c.read_up_to.new.bytes told.within in
    let few = c.if-len-lt14.true in
    let long = c.read_up_to.auto.bytes in
    short_text _ _ _ told.bytes (told.end (omega (arith, few, long))) (omega (arith, count, few))

pub returns-else-eq-2-clause-ok : goal.returns-else-eq-2-clause-ok
returns-else-eq-2-clause-ok g c =
    let told = c.in_ok-len.ensures in
    let long = c.read_up_to.auto.bytes in
    let enough = c.if-len-lt14.false in
    let all = take_all c.in_ok-len.len c.read_up_to.new.bytes (omega (arith, long, enough)) in
    other_line _ _ c.read_up_to.new.bytes (subst (Consumes _ _) all told.bytes) (omega (arith, long)) (other_text _ _ c.if-eq.ensures) (other_text _ _ c.if-eq-2.ensures)
