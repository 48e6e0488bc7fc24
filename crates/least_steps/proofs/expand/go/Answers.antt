-- A place is put into the list, and then its cell has its number.
use Rattle.std.proofs.Common.{◌+◌, ap}
use Rattle.least_steps.specs.declared.open_list.Open.{Open}
use Rattle.least_steps.proofs.WaitingLemmas.{goes-lower, goes-on, goes-push, place-after}
use Rattle.least_steps.proofs.expand.go.Goals as goal

pub returns-in_err-push-clause-goes : goal.returns-in_err-push-clause-goes
returns-in_err-push-clause-goes c =
    let e = c.args.reached.now in
    let from = c.args.from in
    let number = from.number + c.weight_of.result in
    let place : Open = record { number = number; cell = c.cell_after-cell.result; by = c.args.step } in
    goes-push e c.args.waiting.now c.push.new.self place
    (place-after e from c.args.step c.cell_after-cell.result number c.requires.place c.requires.has c.requires.most c.requires.step c.requires.legal c.requires.kind
    c.cell_after-cell.ensures (ap (λ w. from.number + w) c.weight_of.ensures))
    c.push.ensures.keeps c.push.ensures.only

pub lower-requires-clause-comes : goal.lower-requires-clause-comes
lower-requires-clause-comes c =
    let e = c.args.reached.now in
    let from = c.args.from in
    let place = place-after e from c.args.step c.cell_after-cell.result (from.number + c.weight_of.result) c.requires.place c.requires.has c.requires.most c.requires.step
    c.requires.legal c.requires.kind c.cell_after-cell.ensures (ap (λ w. from.number + w) c.weight_of.ensures) in
    place.comes

pub returns-in_ok-push-clause-goes : goal.returns-in_ok-push-clause-goes
returns-in_ok-push-clause-goes c =
    let e = c.args.reached.now in
    let f = c.lower.new.self in
    let from = c.args.from in
    let number = from.number + c.weight_of.result in
    let place : Open = record { number = number; cell = c.cell_after-cell.result; by = c.args.step } in
    goes-on e e f c.args.waiting.now c.push.new.self c.push.new.self
    (goes-push e c.args.waiting.now c.push.new.self place
    (place-after e from c.args.step c.cell_after-cell.result number c.requires.place c.requires.has c.requires.most c.requires.step c.requires.legal c.requires.kind
    c.cell_after-cell.ensures (ap (λ w. from.number + w) c.weight_of.ensures))
    c.push.ensures.keeps c.push.ensures.only)
    (goes-lower e f c.push.new.self place c.lower.ensures c.in_ok-push.ensures.has)
