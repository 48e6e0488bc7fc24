-- Each step of the set is taken in turn.
use Rattle.std.proofs.Common.{◌≡◌, ◌∙◌, ◌+◌, ◌<◌, inl, inr, arith, refl, subst, sym}
use Rattle.std.proofs.lemmas.Nat.Bits.{bit_at-zero}
use Rattle.least_steps.specs.Code.Steps.{AreLegal, HasStep, IsLegalStep, cell_behind, weight}
use Rattle.least_steps.specs.Code.Exploring.{Exploration, Has}
use Rattle.least_steps.specs.Code.Waiting.{Goes}
use Rattle.least_steps.specs.Laws.Ways.{end-on}
use Rattle.least_steps.proofs.OnwardLemmas.{left_behind, onward_kind, onward_legal}
use Rattle.least_steps.proofs.StepLemmas.{in_without, less_without, without_in}
use Rattle.least_steps.proofs.WaitingLemmas.{goes-nowhere, goes-on, place-still}
use Rattle.least_steps.proofs.expand.expand.Goals as goal

pub legal-legal-requires : goal.legal-legal-requires
legal-legal-requires c =
    let e = c.args.reached.now in
    end-on e.map e.aslant e.start c.args.place.cell c.args.place.number c.requires.place.comes

pub loop-steps-init : goal.loop-steps-init
loop-steps-init c = record {
  goes = subst (λ e. Goes c.args.reached.now c.args.waiting.now e c.args.waiting.now) (sym c.legal-legal.ensures.same) (goes-nowhere c.args.reached.now c.args.waiting.now);
  among = λ k few there. there;
  taken = λ k few there. inl there;
}

pub go-requires-clause-place : goal.go-requires-clause-place
go-requires-clause-place c = place-still c.args.reached.now c.loop-steps.reached c.args.place c.loop-steps.invariant.goes.advances c.requires.place

pub go-requires-clause-legal : goal.go-requires-clause-legal
go-requires-clause-legal c =
    let step = c.first_of-step.result in
    let few = c.first_of-step.ensures.few in
    let own = c.onward-steps.ensures in
    let there = onward_legal c.args.place.by c.legal-legal.result c.onward-steps.result c.is_aslant.result own.aslant own.straight step
    (c.loop-steps.invariant.among step few c.first_of-step.ensures.there) in
    subst (λ m. IsLegalStep m c.args.place.cell step) (sym c.loop-steps.invariant.goes.advances.map) ((c.legal-legal.ensures.legal step few).0 there)

pub go-requires-clause-kind : goal.go-requires-clause-kind
go-requires-clause-kind c = λ none.
    let step = c.first_of-step.result in
    let same : c.is_aslant.result ≡ c.loop-steps.reached.aslant =
    c.is_aslant.ensures ∙ subst (λ (e : Exploration). e.aslant ≡ c.args.reached.now.aslant) (sym c.legal-legal.ensures.same) refl
    ∙ sym c.loop-steps.invariant.goes.advances.aslant in
    onward_kind c.args.place.by c.legal-legal.result c.onward-steps.result c.is_aslant.result c.onward-steps.ensures.straight step
    (c.loop-steps.invariant.among step c.first_of-step.ensures.few c.first_of-step.ensures.there) (same ∙ none)

pub loop-steps-smaller : goal.loop-steps-smaller
loop-steps-smaller c =
    subst (λ n. n < c.loop-steps.steps) (sym c.without-steps.ensures) (less_without c.loop-steps.steps c.first_of-step.result c.first_of-step.ensures.there)

pub loop-steps-preserved : goal.loop-steps-preserved
loop-steps-preserved c =
    let e = c.loop-steps.reached in
    let f = c.go.new.reached in
    let steps = c.loop-steps.steps in
    let step = c.first_of-step.result in
    let all = c.loop-steps.invariant in
    record {
      goes = goes-on c.args.reached.now e f c.args.waiting.now c.loop-steps.waiting c.go.new.waiting all.goes c.go.ensures.goes;
      among = λ k few there. all.among k few (without_in steps step k c.first_of-step.ensures.there (subst (λ n. HasStep n k) c.without-steps.ensures there));
      taken = λ k few there. elim (all.taken k few there) [
        | inl still ↦ elim (in_without steps step k still) [
          | inl own ↦ inr (subst (λ j. Has f (cell_behind j c.args.place.cell) (c.args.place.number + weight j)) (sym own) c.in_ok-go.ensures.has)
          | inr other ↦ inl (subst (λ n. HasStep n k) (sym c.without-steps.ensures) other)
        ]
        | inr has ↦ inr (c.go.ensures.goes.advances.falls (cell_behind k c.args.place.cell) (c.args.place.number + weight k) has)
      ];
    }

pub returns-in_err-go-clause-goes : goal.returns-in_err-go-clause-goes
returns-in_err-go-clause-goes c =
    goes-on c.args.reached.now c.loop-steps.reached c.go.new.reached c.args.waiting.now c.loop-steps.waiting c.go.new.waiting c.loop-steps.invariant.goes
    c.go.ensures.goes

pub returns-clause-left : goal.returns-clause-left
returns-clause-left c =
    let e = c.loop-steps.reached in
    let all = c.loop-steps.invariant in
    let own = c.onward-steps.ensures in
    let place = place-still c.args.reached.now e c.args.place all.goes.advances c.requires.place in
    let same : e.aslant ≡ c.is_aslant.result =
    all.goes.advances.aslant ∙ sym (c.is_aslant.ensures ∙ subst (λ (d : Exploration). d.aslant ≡ c.args.reached.now.aslant) (sym c.legal-legal.ensures.same) refl) in
    left_behind e c.args.place.cell c.args.place.number c.args.place.by c.legal-legal.result c.onward-steps.result
    (subst (λ m. AreLegal m c.args.place.cell c.legal-legal.result) (sym all.goes.advances.map) c.legal-legal.ensures.legal)
    place.arrival (λ aslant. own.aslant (sym same ∙ aslant)) (λ none. own.straight (sym same ∙ none))
    (λ k few there. elim (all.taken k few there) [
      | inl still ↦
          let none = bit_at-zero k in
          let zero = subst (λ n. HasStep n k) c.loop-steps-test.false still in
          absurd (omega (arith, none, zero))
      | inr has ↦ has
    ])
