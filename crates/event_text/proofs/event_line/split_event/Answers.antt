-- The word and its numbers are the line.
use Rattle.std.proofs.Common.{◌^◌, codes}
use Rattle.event_text.proofs.LeadingLemmas.{behind_one, behind_two}
use Rattle.event_text.proofs.event_line.split_event.Goals as goal

pub returns-in-Some : goal.returns-in-Some
returns-in-Some c =
    behind_one (codes "start") c.args.bytes.now c.in-Some.rest.now c.in_ok-agent.rest.now c.in_ok-agent.agent c.in-Some.ensures c.in_ok-agent.ensures

pub returns-in-Some-behind : goal.returns-in-Some-behind
returns-in-Some-behind c =
    behind_one (codes "finish") c.args.bytes.now c.in-Some-behind.rest.now c.in_ok-agent-2.rest.now c.in_ok-agent-2.agent c.in-Some-behind.ensures
    c.in_ok-agent-2.ensures

pub returns-in-Some-behind-2 : goal.returns-in-Some-behind-2
returns-in-Some-behind-2 c =
    behind_one (codes "say") c.args.bytes.now c.in-Some-behind-2.rest.now c.in_ok-agent-3.rest.now c.in_ok-agent-3.agent c.in-Some-behind-2.ensures
    c.in_ok-agent-3.ensures

pub returns-in-Some-behind-3 : goal.returns-in-Some-behind-3
returns-in-Some-behind-3 c =
    behind_two (codes "deliver") c.args.bytes.now c.in-Some-behind-3.rest.now c.in_ok-agent-4.rest.now c.in_ok-message.rest.now c.in_ok-agent-4.agent
    c.in_ok-message.message (2 ^ 64) c.in-Some-behind-3.ensures c.in_ok-agent-4.ensures c.in_ok-message.ensures

pub returns-in-Some-behind-4 : goal.returns-in-Some-behind-4
returns-in-Some-behind-4 c =
    behind_one (codes "restart") c.args.bytes.now c.in-Some-behind-4.rest.now c.in_ok-agent-5.rest.now c.in_ok-agent-5.agent c.in-Some-behind-4.ensures
    c.in_ok-agent-5.ensures

pub returns : goal.returns
returns c =
    behind_two (codes "tear") c.args.bytes.now c.in_ok-rest.rest.now c.in_ok-agent-6.rest.now c.in_ok-count.rest.now c.in_ok-agent-6.agent c.in_ok-count.count
    (2 ^ 32) c.in_ok-rest.ensures c.in_ok-agent-6.ensures c.in_ok-count.ensures
