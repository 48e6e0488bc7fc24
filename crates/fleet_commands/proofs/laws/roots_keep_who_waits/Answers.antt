-- Steps lead to the agent from just those that wait for it.
use Rattle.std.proofs.Common.{◌<◌, ◌∙◌, length, arith}
use Rattle.fleet_commands.specs.Standing.{waits_of}
use Rattle.fleet_commands.proofs.KeptLemmas.{count-those, those, those-all, those-lead, those-once}
use Rattle.fleet_commands.proofs.WaitLemmas.{count-waits, leads-waits, waited-within, waits-agent, waits-is, waits-leads}
use Rattle.fleet_commands.proofs.laws.roots_keep_who_waits.Goals as goal

pub returns : goal.returns
returns c = λ table found j free there alone.
    let waits = waits_of table found in
    let within = waited-within table found (λ i k track asked is less asks. c.needs.ensures.planned table i k track asked free is less asks) in
    let count = count-waits table found in
    let here : j < length waits = omega (arith, there, count) in
    let single = waits-is table found j ∙ alone in (
      those waits within j here single,
      record {
        wait = λ place i at. leads-waits table found j i (those-lead waits within j here single place i at);
        all = λ i through. those-all waits within j here single i (waits-agent table found j i through) (waits-leads table found j i through);
        once = λ place other i one two. those-once waits within j here single place other i one two;
      },
      count-those waits within j here single,
    )
