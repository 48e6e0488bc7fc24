use Rattle.std.proofs.Common.{◌≡◌, length, inl, inr, arith, refl, sym, ap, subst, ◌∙◌}
use Rattle.std.specs.Prelude.{slice_get}
use Rattle.std.proofs.lemmas.Bool.{cases_lt, false≢true, true≢false}
use Rattle.std.proofs.lemmas.Option.{same_Some, slice_get_read, slice_get_within}
use Rattle.executor.specs.Code.Waiting.{HasStopped}
use Rattle.executor.proofs.ArrivalLemmas.{all-stopped, stopped-is}
use Rattle.executor.proofs.arrival.have_arrived.Goals as goal

pub loop-id-preserved : goal.loop-id-preserved
loop-id-preserved c = λ i a less there. elim (cases_lt i c.loop-id.id) [
  | inl before ↦ c.loop-id.invariant i a before there
  | inr after ↦ (
      let same : i ≡ c.loop-id.id = omega (arith, less, after) in
      let at = slice_get_read c.args.agents.now (length c.args.agents.now) c.loop-id.id c.index-agents-id.result refl c.loop-id-test.true c.index-agents-id.is in
      let one : c.index-agents-id.result ≡ a = same_Some c.index-agents-id.result a (sym at ∙ ap (slice_get c.args.agents.now) (sym same) ∙ there) in
      subst (λ n. HasStopped c.args.graph.now n a) (sym same) (subst (HasStopped c.args.graph.now c.loop-id.id) one (c.has_arrived.ensures.0 c.if-not-has_arrived.false))
      )
]

pub returns-then-not-has_arrived : goal.returns-then-not-has_arrived
returns-then-not-has_arrived c =
    let at = slice_get_read c.args.agents.now (length c.args.agents.now) c.loop-id.id c.index-agents-id.result refl c.loop-id-test.true c.index-agents-id.is in
    record {
      all = λ v h begins yes. absurd (false≢true yes);
      some = λ v h begins no arrived. false≢true (sym c.if-not-has_arrived.true
          ∙ c.has_arrived.ensures.1 (stopped-is v c.args.graph.now h c.args.agents.now c.loop-id.id c.index-agents-id.result begins at arrived));
    }

pub returns : goal.returns
returns c = record {
  all = λ v h begins yes. all-stopped v c.args.graph.now h c.args.agents.now begins c.requires.count (λ i a there. (
      let within = slice_get_within c.args.agents.now i a there in
      let past = c.loop-id-test.false in
      c.loop-id.invariant i a (omega (arith, within, past)) there
      ));
  some = λ v h begins no. absurd (true≢false no);
}
