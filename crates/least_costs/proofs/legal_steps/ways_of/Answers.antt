-- Each step leads to a side, and each way is one.
use Rattle.least_costs.proofs.LegalLemmas.{are_ways}
use Rattle.least_costs.proofs.legal_steps.ways_of.Goals as goal

pub returns : goal.returns
returns c =
    let sides = c.sides_of-sides.result in
    are_ways c.args.map.now c.args.cell sides _
    (record {
      north = c.sides_of-sides.ensures.north;
      west = c.sides_of-sides.ensures.west;
      south = c.sides_of-sides.ensures.south;
      east = c.sides_of-sides.ensures.east;
    })
    c.height-height.ensures.map (c.step4.ensures.1, c.step4.ensures.0) (c.step4-2.ensures.1, c.step4-2.ensures.0) (c.step4-3.ensures.1, c.step4-3.ensures.0)
    (c.step4-4.ensures.1, c.step4-4.ensures.0)
