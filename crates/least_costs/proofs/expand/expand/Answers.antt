-- Each of the five steps is offered.
use Rattle.std.proofs.Common.{refl, true}
use Rattle.least_costs.specs.Code.Searching.{wanted}
use Rattle.least_costs.proofs.ExpandLemmas.{at_side, expanded}
use Rattle.least_costs.proofs.SearchLemmas.{leads_on, offered_still}
use Rattle.least_costs.proofs.expand.expand.Goals as goal

pub returns-clause-leads : goal.returns-clause-leads
returns-clause-leads c = λ none.
    let w = wanted c.args.goal.now c.args.query.now in
    let b = c.args.turn.budget in
    let f0 = c.args.front.now in
    let f1 = c.offer.new.front in
    let f2 = c.offer-2.new.front in
    let f3 = c.offer-3.new.front in
    let f4 = c.offer-4.new.front in
    let f5 = c.offer-5.new.front in
    leads_on w b f0 f1 f5 (c.in_ok-offer.ensures.leads c.if-branch.false)
    (leads_on w b f1 f2 f5 (c.in_ok-offer-2.ensures.leads c.if-branch-2.false)
    (leads_on w b f2 f3 f5 (c.in_ok-offer-3.ensures.leads c.if-branch-3.false)
    (leads_on w b f3 f4 f5 (c.in_ok-offer-4.ensures.leads c.if-branch-4.false) (c.in_ok-found.ensures.leads none))))

pub returns-clause-goes : goal.returns-clause-goes
returns-clause-goes c = λ none.
    let g = c.args.goal.now in
    let w = wanted g c.args.query.now in
    let b = c.args.turn.budget in
    let t = c.args.turn.time in
    let u = c.args.turn.cell in
    let f1 = c.offer.new.front in
    let f2 = c.offer-2.new.front in
    let f3 = c.offer-3.new.front in
    let f4 = c.offer-4.new.front in
    let f5 = c.offer-5.new.front in
    let l45 = c.in_ok-found.ensures.leads none in
    let l35 = leads_on w b f3 f4 f5 (c.in_ok-offer-4.ensures.leads c.if-branch-4.false) l45 in
    let l25 = leads_on w b f2 f3 f5 (c.in_ok-offer-3.ensures.leads c.if-branch-3.false) l35 in
    let l15 = leads_on w b f1 f2 f5 (c.in_ok-offer-2.ensures.leads c.if-branch-2.false) l25 in
    let sides = c.sides_of-sides.result in
    let ways = c.ways-ways.result in
    expanded w t u f5 sides ways
    (record {
      north = c.sides_of-sides.ensures.north;
      west = c.sides_of-sides.ensures.west;
      south = c.sides_of-sides.ensures.south;
      east = c.sides_of-sides.ensures.east;
    })
    c.ways-ways.ensures
    (at_side w f5 t u u c.look-own.result true c.look-own.ensures.cell c.look-own.ensures.steps
    (λ est. offered_still w b f1 f5 t u c.look-own.result.cell l15 (c.in_ok-offer.ensures.goes c.if-branch.false est)) refl)
    (at_side w f5 t u sides.north c.look-north.result ways.north c.look-north.ensures.cell c.look-north.ensures.steps
    (λ est. offered_still w b f2 f5 t u c.look-north.result.cell l25 (c.in_ok-offer-2.ensures.goes c.if-branch-2.false est)))
    (at_side w f5 t u sides.west c.look-west.result ways.west c.look-west.ensures.cell c.look-west.ensures.steps
    (λ est. offered_still w b f3 f5 t u c.look-west.result.cell l35 (c.in_ok-offer-3.ensures.goes c.if-branch-3.false est)))
    (at_side w f5 t u sides.east c.look-east.result ways.east c.look-east.ensures.cell c.look-east.ensures.steps
    (λ est. offered_still w b f4 f5 t u c.look-east.result.cell l45 (c.in_ok-offer-4.ensures.goes c.if-branch-4.false est)))
    (at_side w f5 t u sides.south c.look-south.result ways.south c.look-south.ensures.cell c.look-south.ensures.steps
    (c.in_ok-found.ensures.goes none))
