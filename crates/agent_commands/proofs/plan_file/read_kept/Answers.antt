-- The first line was read, and then the plan.
use Rattle.std.proofs.Common.{subst, sym}
use Rattle.text_io.specs.Counted.{counted_inner}
use Rattle.agent_commands.specs.Code.Plans.{IsNotRead, ReadsMark}
use Rattle.agent_commands.proofs.PlanLemmas.{is_kept, no_line, no_plan}
use Rattle.agent_commands.proofs.plan_file.read_kept.Goals as goal

pub returns-in_default : goal.returns-in_default
returns-in_default g c = no_line _ (subst (ReadsMark _ _) c.in_default.is c.in_ok-is_marked.ensures.ok)

pub returns-in-Ok : goal.returns-in-Ok
returns-in-Ok g c =
    let read = c.in-Ok.ensures in
    is_kept (g.F.Read.remaining (counted_inner c.args.file.now)) _ _ c.in-Some.is_marked c.in-Ok.plan read.delivered
    (subst (ReadsMark _ _) c.in-Some.is c.in_ok-is_marked.ensures.ok) read.consumed read.answer.1 read.answer.0

pub returns-in-Err : goal.returns-in-Err
returns-in-Err g c =
    let read = c.in-Err.ensures in
    subst (IsNotRead (g.F.Read.remaining (counted_inner c.args.file.now))) (sym c.blame_of.ensures)
    (no_plan (g.F.Read.remaining (counted_inner c.args.file.now)) _ _ c.in-Some.is_marked read.delivered c.in-Err.fault c.one_reading.ensures.never_both
    (subst (ReadsMark _ _) c.in-Some.is c.in_ok-is_marked.ensures.ok) read.consumed read.answer)
