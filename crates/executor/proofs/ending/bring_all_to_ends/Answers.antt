use Rattle.std.proofs.Common.{◌+◌, length, refl, sym, ap, subst, ◌∙◌, arith}
use Rattle.std.proofs.lemmas.Option.{none-some}
use Rattle.std.specs.Prelude.{slice_get}
use Rattle.model.specs.Completion.{IsCompletion}
use Rattle.executor.specs.Endings.{IsEndedBy}
use Rattle.executor.specs.Code.Leading.{Begins}
use Rattle.executor.specs.Code.Waiting.{HasNoRotation}
use Rattle.executor.proofs.EndingLemmas.{leads-nowhere, leads-same, completes-on}
use Rattle.executor.proofs.ending.bring_all_to_ends.Goals as goal

pub rest-init : goal.rest-init
rest-init c = record {
  timetable = refl;
  agents = refl;
  count = ap length c.in_ok-with_capacity.ensures.items;
  none_heard = λ n x there. absurd (none-some x (sym (ap (λ l. slice_get l n) c.new-4.ensures.items) ∙ there));
  leads = λ v h begins said. leads-nowhere v h _ c.new-2.ensures.items c.in_ok-with_capacity.ensures.items c.new-4.ensures.items begins said;
}

pub rest-preserved : goal.rest-preserved
rest-preserved c =
    let was = c.rest.invariant in
    let first = c.in_ok-rest.ensures.same in
    let then_same = c.in_ok-add_places.ensures.same in record {
      timetable = then_same.same.timetable ∙ first.timetable ∙ was.timetable;
      agents = then_same.same.agents ∙ first.agents ∙ was.agents;
      count = ap length then_same.standings ∙ c.in_ok-rest.ensures.count ∙ ap (λ n. n + 1) was.count;
      none_heard = c.in_ok-add_places.ensures.none_heard;
      leads = λ v h begins said.
          let begins_then = subst (λ a. Begins v c.rest.ending.timetable a h) (sym was.agents) (subst (λ t. Begins v t c.args.agents.now h) (sym was.timetable) begins) in
          leads-same v h c.rest-in-rest.new.self c.add_places.new.self then_same c.in_ok-add_places.ensures.none_heard (c.in_ok-rest.ensures.leads v h begins_then (was.leads v h begins said));
    }

pub bring_to_end-requires-clause-still : goal.bring_to_end-requires-clause-still
bring_to_end-requires-clause-still c = subst HasNoRotation (sym c.ends.invariant.timetable) c.requires.still

-- Where all have arrived, no event is left to answer.
pub returns-then-have_arrived : goal.returns-then-have_arrived
returns-then-have_arrived c version h begins said =
    let arrived = c.have_arrived.ensures.all version h begins c.if-have_arrived.true in
    subst (IsEndedBy version c.args.graph.now h) (sym c.new.ensures.items) (record {
      completes = record { accepted = tt; arrived = arrived };
      none_needless = λ all. refl;
    })

pub returns : goal.returns
returns c version h begins said =
    let end = c.ends.invariant in
    let begins_then = subst (λ a. Begins version c.ends.ending.timetable a h) (sym end.agents) (subst (λ t. Begins version t c.args.agents.now h) (sym end.timetable) begins) in
    let crew = c.requires.count in
    let count = end.count in
    let table = ap (λ t. length t.tracks) end.timetable in
    let past = c.ends-test.false in
    let whole = completes-on version h c.ends.ending begins_then (omega (arith, crew, count, table)) (λ i less. end.done i (omega (arith, less, count, past))) (end.leads version h begins said) in
    record {
      completes = subst (λ t. IsCompletion version t h c.ending-2.inside.events.items) end.timetable
          (subst (IsCompletion version c.ends.ending.timetable h) (sym (ap (λ s. s.events) c.ending-2.view_is)) whole);
      none_needless = λ all. absurd (c.have_arrived.ensures.some version h begins c.if-have_arrived.false all);
    }
