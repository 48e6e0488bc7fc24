-- Each bucket up to this one has places behind alone.
use Rattle.std.proofs.Common.{◌≡◌, ◌∙◌, Global, Vec, inl, inr, arith, sym, ap, subst}
use Rattle.std.specs.Prelude.{slice_get}
use Rattle.std.proofs.lemmas.Bool.{cases_lt}
use Rattle.std.proofs.lemmas.Option.{same_Some, slice_get_within}
use Rattle.least_steps.specs.declared.open_list.Open.{Open}
use Rattle.least_steps.specs.Code.Waiting.{AreBehind, IsPlaceAmong}
use Rattle.least_steps.proofs.ListLemmas.{read}
use Rattle.least_steps.proofs.answer.are_buckets_behind.Goals as goal

pub are_behind-requires-clause-sound : goal.are_behind-requires-clause-sound
are_behind-requires-clause-sound c = λ p there.
    let i = c.loop-bucket.bucket-index in
    let bucket = c.bucket-item.result in
    c.requires.sound p
    (i, bucket, read c.args.buckets.now i bucket bucket c.loop-bucket-test.true c.bucket-item.is, subst (λ l. IsPlaceAmong l p) c.deref.ensures.value there)

pub loop-bucket-preserved : goal.loop-bucket-preserved
loop-bucket-preserved c = λ k b less there.
    let i = c.loop-bucket.bucket-index in
    let buckets = c.args.buckets.now in
    let bucket = c.bucket-item.result in
    elim (cases_lt k i) [
      | inl before ↦ c.loop-bucket.invariant k b before there
      | inr past ↦
          let last : k ≡ i = omega (arith, less, past) in
          let here = read buckets i bucket bucket c.loop-bucket-test.true c.bucket-item.is in
          let own : bucket ≡ b = same_Some bucket b (sym here ∙ ap (slice_get buckets) (sym last) ∙ there) in
          subst (λ (v : Vec Open Global). AreBehind c.args.reached.now c.args.goal v.items) own
          (subst (AreBehind c.args.reached.now c.args.goal) c.deref.ensures.value (c.are_behind.ensures c.if-not-are_behind.false))
    ]

pub returns : goal.returns
returns c = λ _ p there.
    let within = slice_get_within c.args.buckets.now there.0 there.1 there.2 in
    let past = c.loop-bucket-test.false in
    c.loop-bucket.invariant there.0 there.1 (omega (arith, within, past)) there.2 p there.3
