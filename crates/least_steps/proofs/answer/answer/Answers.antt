-- What waits is too far, so what was found is the least.
use Rattle.std.proofs.Common.{◌≡◌, ◌+◌, Some, subst, sym}
use Rattle.walks.specs.Walk.{IsOn}
use Rattle.least_steps.specs.Code.Estimate.{least_number}
use Rattle.least_steps.proofs.AnswerLemmas.{as_far, is_least, settled}
use Rattle.least_steps.proofs.answer.answer.Goals as goal

pub returns-then-are_all_behind : goal.returns-then-are_all_behind
returns-then-are_all_behind c =
    let e = c.args.reached.now in
    let search = c.requires.search in
    let start = subst (IsOn e.map) (sym c.requires.start) c.requires.on in
    is_least e c.args.goal start search.begins c.number-found.ensures.walks
    (settled e c.args.waiting.now c.args.goal search (c.are_all_behind.ensures c.if-are_all_behind.true))
    c.number-found.result c.requires.goal c.number-found.ensures.found

pub returns-then-is_shortest : goal.returns-then-is_shortest
returns-then-is_shortest c =
    let e = c.args.reached.now in
    let found = c.number-found.result in
    let shortest = subst (λ s. found ≡ Some (6625109 + least_number e.aslant c.args.goal s)) (sym c.requires.start) (c.is_shortest.ensures c.if-is_shortest.true) in
    as_far e c.args.goal found c.number-found.ensures.walks c.requires.goal c.number-found.ensures.found shortest
