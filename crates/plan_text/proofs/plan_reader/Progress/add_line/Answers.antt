-- The agent is refused where the plan has no room for it, and added otherwise.
use Rattle.std.proofs.Common.{Err, sym, ap, ◌∙◌, arith}
use Rattle.model.specs.Plan.{Course}
use Rattle.plan_text.proofs.AgentAdded.{PassesLimit, agent_refused, agent_added}
use Rattle.plan_text.proofs.plan_reader.Progress.add_line.Goals as goal

pub returns-in-Err-TooMany : goal.returns-in-Err-TooMany
returns-in-Err-TooMany c lines read =
    let p = c.args.self.now.plan in
    let course : Course = record { start = c.in_ok-start-in-Agent.start; acts = c.in_ok-start-in-Agent.acts.items } in
    let limit : PassesLimit p course.acts = c.push.ensures.too_many.0 (c.in-Err-TooMany.is ∙ ap Err c.in-Err-TooMany.field-0-is) in
    agent_refused p lines c.args.line.now course (omega arith) (omega arith) c.in_ok-start-in-Agent.ensures c.args.self.now.due c.args.number
    c.in-Agent.left c.in-Agent.is c.requires.short read c.requires.due limit

pub returns-in-Ok : goal.returns-in-Ok
returns-in-Ok c lines read =
    let p = c.args.self.now.plan in
    let course : Course = record { start = c.in_ok-start-in-Agent.start; acts = c.in_ok-start-in-Agent.acts.items } in
    agent_added p lines c.args.line.now course (omega arith) (omega arith) c.in_ok-start-in-Agent.ensures c.args.self.now.due c.in-Agent.left
    c.push.new.self c.in-Agent.is c.requires.due (λ limit. let both = sym c.in-Ok.is ∙ c.push.ensures.too_many.1 limit in cc) c.in-Ok.ensures.ok
