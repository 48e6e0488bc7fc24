use Rattle.std.proofs.Common.{◌∙◌, ◌-◌, length, get_or, Some, sym, ap, arith}
use Rattle.std.proofs.lemmas.Option.{slice_get-get_or, same_Some}
use Rattle.model.specs.Timetable.{moves}
use Rattle.executor.specs.Code.Leading.{finished_in}
use Rattle.executor.specs.Code.Waiting.{last_of}
use Rattle.executor.proofs.ChainLemmas.{last-is, none-last}
use Rattle.executor.proofs.NeedLemmas.{finished-is}
use Rattle.executor.proofs.ending.Ending.up_next.Goals as goal

pub returns-in-Some-clause-next : goal.returns-in-Some-clause-next
returns-in-Some-clause-next c =
    (last-is c.args.agent c.args.waiting.now c.in-Some.last.now (sym c.in-Some.ensures.value), c.requires.chain.left (length c.args.waiting.now - 1) c.in-Some.last.now (sym c.in-Some.ensures.value))

pub returns-then-index-moves-clause-next : goal.returns-then-index-moves-clause-next
returns-then-index-moves-clause-next c =
    let empty = none-last c.args.waiting.now (sym c.in_default.ensures.value) in
    let x = c.index.result.now in
    let stand = ap (λ s. length s.standings) c.self.view_is in
    let inside = c.requires.there in
    let all = c.requires.all in
    let at = slice_get-get_or c.self.inside.standings.items c.args.agent x (omega (arith, inside, all, stand)) ∙ ap (λ s. Some s)
    (ap (λ n. get_or c.self.inside.standings.items n x) (sym c.from.ensures) ∙ sym c.index.ensures) in
    let so_far = ap (λ s. finished_in s.standings c.args.agent) (sym c.self.view_is) ∙ finished-is c.self.inside.standings.items c.args.agent x at in
    let less = c.if-index-moves.true in
    let count = c.moves.ensures.2 in
    (ap (last_of c.args.agent) (sym empty), (c.moves.ensures.0, c.moves.ensures.1, omega (arith, so_far, less, count)))

pub returns-else-index-moves-clause-none : goal.returns-else-index-moves-clause-none
returns-else-index-moves-clause-none c =
    let empty = none-last c.args.waiting.now (sym c.in_default.ensures.value) in
    let x = c.index.result.now in
    let stand = ap (λ s. length s.standings) c.self.view_is in
    let inside = c.requires.there in
    let all = c.requires.all in
    let at = slice_get-get_or c.self.inside.standings.items c.args.agent x (omega (arith, inside, all, stand)) ∙ ap (λ s. Some s)
    (ap (λ n. get_or c.self.inside.standings.items n x) (sym c.from.ensures) ∙ sym c.index.ensures) in
    let so_far = ap (λ s. finished_in s.standings c.args.agent) (sym c.self.view_is) ∙ finished-is c.self.inside.standings.items c.args.agent x at in
    let past = c.if-index-moves.false in
    let count = c.moves.ensures.2 in
    (empty, λ track there. (let same = ap moves (same_Some c.moves.ensures.0 track (sym c.moves.ensures.1 ∙ there)) in omega (arith, so_far, past, count, same)))
