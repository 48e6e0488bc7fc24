-- Each place that is taken is done, or too far, or its cell has another number.
use Rattle.std.proofs.Common.{◌∙◌, subst, sym}
use Rattle.std.proofs.lemmas.Bool.{true≢false}
use Rattle.walks.specs.Walk.{IsOn}
use Rattle.least_steps.specs.declared.open_list.OpenList.{OpenList}
use Rattle.least_steps.specs.Code.Exploring.{Advances, Exploration}
use Rattle.least_steps.specs.Code.Waiting.{IsSearch}
use Rattle.least_steps.specs.Laws.Ways.{end-on}
use Rattle.least_steps.proofs.ExplorationLemmas.{advances-on}
use Rattle.least_steps.proofs.WaitingLemmas.{same-search, search-expanded, search-same, search-without}
use Rattle.least_steps.proofs.step_search.approach.Goals as goal
use Rattle.least_steps.proofs.step_search.approach.Goals.{in-Some+else-not-has+else-is_far+in_ok-expand-in-Some, in-None+else-not-next_bucket+else-is_astray}

pub number-found-requires : goal.number-found-requires
number-found-requires c = subst (λ m. IsOn m c.args.goal) (sym c.loop.invariant.advances.map) c.requires.goal

pub has-requires-clause-on : goal.has-requires-clause-on
has-requires-clause-on c =
    let e = c.loop.reached in
    let place = c.in-Some.place in
    end-on e.map e.aslant e.start place.cell place.number (c.loop.invariant.search.sound place c.in-Some.ensures.some).comes

pub has-requires-clause-limit : goal.has-requires-clause-limit
has-requires-clause-limit c = (c.loop.invariant.search.sound c.in-Some.place c.in-Some.ensures.some).limit

pub loop-preserved-then-not-has : goal.loop-preserved-then-not-has
loop-preserved-then-not-has c = record {
  advances = c.loop.invariant.advances;
  search =
      search-without c.loop.reached c.loop.waiting c.pop.new.self c.args.goal c.pop.result c.in-Some.place c.in-Some.is c.loop.invariant.search
      c.pop.ensures.keeps c.pop.ensures.only (λ number. absurd (true≢false (sym (c.has.ensures.1 number) ∙ c.if-not-has.true)));
}

pub returns-then-is_shortest-clause-search : goal.returns-then-is_shortest-clause-search
returns-then-is_shortest-clause-search c =
    search-without c.loop.reached c.loop.waiting c.pop.new.self c.args.goal c.pop.result c.in-Some.place c.in-Some.is c.loop.invariant.search
    c.pop.ensures.keeps c.pop.ensures.only (λ _. c.is_far.ensures c.if-is_far.true)

pub loop-preserved-then-is_far : goal.loop-preserved-then-is_far
loop-preserved-then-is_far c = record {
  advances = c.loop.invariant.advances;
  search =
      search-without c.loop.reached c.loop.waiting c.pop.new.self c.args.goal c.pop.result c.in-Some.place c.in-Some.is c.loop.invariant.search
      c.pop.ensures.keeps c.pop.ensures.only (λ _. c.is_far.ensures c.if-is_far.true);
}

pub expand-requires-clause-place : goal.expand-requires-clause-place
expand-requires-clause-place c = c.loop.invariant.search.sound c.in-Some.place c.in-Some.ensures.some

pub returns-then-not-next_bucket-clause-search : goal.returns-then-not-next_bucket-clause-search
returns-then-not-next_bucket-clause-search c =
    same-search c.loop.reached c.pop.new.self c.next_bucket.new.self c.args.goal c.next_bucket.ensures
    (search-same c.loop.reached c.loop.waiting c.pop.new.self c.args.goal c.pop.result c.in-None.is c.loop.invariant.search c.pop.ensures.keeps c.pop.ensures.only)

pub returns-then-is_astray-clause-search : goal.returns-then-is_astray-clause-search
returns-then-is_astray-clause-search c =
    same-search c.loop.reached c.pop.new.self c.next_bucket.new.self c.args.goal c.next_bucket.ensures
    (search-same c.loop.reached c.loop.waiting c.pop.new.self c.args.goal c.pop.result c.in-None.is c.loop.invariant.search c.pop.ensures.keeps c.pop.ensures.only)

pub loop-preserved : goal.loop-preserved
loop-preserved c = elim c.match-pop.branch [
  | in-Some+else-not-has+else-is_far+in_ok-expand-in-Some w ↦ record {
    advances =
        subst (Advances c.args.reached.now) (sym w.reached-is)
        (advances-on c.args.reached.now c.loop.reached w.expand.new.reached c.loop.invariant.advances w.expand.ensures.goes.advances);
    search =
        subst (λ (e : Exploration). IsSearch e c.match-pop.waiting c.args.goal) (sym w.reached-is)
        (subst (λ (o : OpenList). IsSearch w.expand.new.reached o c.args.goal) (sym w.waiting-is)
        (search-expanded c.loop.reached w.expand.new.reached c.loop.waiting c.pop.new.self w.expand.new.waiting c.args.goal c.pop.result w.in-Some.place w.in-Some.is
        c.loop.invariant.search c.pop.ensures.keeps c.pop.ensures.only w.expand.ensures.goes w.in_ok-expand-in-Some.ensures.left));
  }
  | in-None+else-not-next_bucket+else-is_astray w ↦ record {
    advances = subst (Advances c.args.reached.now) (sym w.reached-is) c.loop.invariant.advances;
    search =
        subst (λ (e : Exploration). IsSearch e c.match-pop.waiting c.args.goal) (sym w.reached-is)
        (subst (λ (o : OpenList). IsSearch c.loop.reached o c.args.goal) (sym w.waiting-is)
        (same-search c.loop.reached c.pop.new.self w.next_bucket.new.self c.args.goal w.next_bucket.ensures
        (search-same c.loop.reached c.loop.waiting c.pop.new.self c.args.goal c.pop.result w.in-None.is c.loop.invariant.search c.pop.ensures.keeps c.pop.ensures.only)));
  }
]
