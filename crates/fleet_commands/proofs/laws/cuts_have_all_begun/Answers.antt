-- Up to the time the agents make the same moves by what is left.
use Rattle.std.proofs.Common.{◌≡◌, ◌+◌, ◌/◌, ap, arith}
use Rattle.std.specs.Prelude.{option_map, unwrap_or}
use Rattle.model.specs.Laws.Tracks.{moves-most}
use Rattle.fleet_commands.specs.FoundTapes.{begun_by, begun_in_tape}
use Rattle.fleet_commands.proofs.laws.cuts_have_all_begun.Goals as goal

pub returns-clause-begun : goal.returns-clause-begun
returns-clause-begun c = λ p tt kept found time i track is cut all there.
    let agrees = c.cuts.ensures.agrees p time kept tt cut is in
    let whole = c.moves_stay.ensures.cells time kept tt i track agrees there in
    let same = (whole.2 time (omega arith)).1 in
    let begun = all i whole.0 whole.1 in
    let most = moves-most track.start track.later time in
    omega (arith, same, begun, most)

pub returns-clause-within : goal.returns-clause-within
returns-clause-within c = λ p tt kept found time is cut all i records track there has.
    let agrees = c.cuts.ensures.agrees p time kept tt cut is in
    let whole = c.moves_stay.ensures.cells time kept tt i track agrees there in
    let same = (whole.2 time (omega arith)).1 in
    let begun = all i whole.0 whole.1 in
    let count : begun_by found i ≡ (records + 1) / 2 = ap (λ o. unwrap_or (option_map begun_in_tape o) 0) has in
    let most = moves-most track.start track.later time in
    omega (arith, same, begun, count, most)
