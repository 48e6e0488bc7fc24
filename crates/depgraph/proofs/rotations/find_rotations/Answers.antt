-- The sort keeps what was found.
use Rattle.std.proofs.Common.{rules, sym, subst}
use Rattle.std.proofs.lemmas.List.Sorted.{IsNonDecreasingBy-from_sort_by_key}
use Rattle.depgraph.specs.Code.Links.{all_links, AreBound}
use Rattle.depgraph.specs.Code.Turning.{key_by}
use Rattle.depgraph.proofs.KeyLemmas.{sorted-rotations}
use Rattle.depgraph.proofs.TurnLemmas.{bound}
use Rattle.depgraph.proofs.rotations.find_rotations.Goals as goal

pub new-requires : goal.new-requires
new-requires c =
    subst (λ l. AreBound l c.args.ends.now c.args.waits.now) (sym c.requires.times)
    (bound c.args.plan.now.timetable c.args.ends.now c.args.waits.now (all_links c.args.times.now c.args.ends.now c.args.waits.now) c.requires.laid)

pub returns : goal.returns
returns c =
    let did = c.sort_unstable_by_key.ensures in
    let new = c.sort_unstable_by_key.new.self.items in
    sorted-rotations c.args.plan.now.timetable c.requires.laid.graphed.agent_limit c.in_ok-rotations.rotations.items new c.in_ok-rotations.ensures did.permutation
    (IsNonDecreasingBy-from_sort_by_key (λ v. key_by v.step v.agents.items) new did.sorted (λ a r q k. search rules))
