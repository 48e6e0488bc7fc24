-- Each bucket up to this one is empty.
use Rattle.std.proofs.Common.{◌≡◌, ◌∙◌, ◌<◌, [], Global, Vec, inl, inr, arith, length, sym, ap, subst}
use Rattle.std.specs.Prelude.{slice_get, slice_set}
use Rattle.std.proofs.lemmas.Bool.{cases_lt}
use Rattle.std.proofs.lemmas.Option.{same_Some, slice_get_within}
use Rattle.least_steps.specs.declared.open_list.Open.{Open}
use Rattle.least_steps.proofs.ListLemmas.{get-set_other, get-set_same}
use Rattle.least_steps.proofs.WaitingLemmas.{among-none}
use Rattle.least_steps.proofs.open_list.clear.Goals as goal

pub loop-bucket-init : goal.loop-bucket-init
loop-bucket-init c = λ k b less is. absurd (omega (arith, less))

pub loop-bucket-preserved : goal.loop-bucket-preserved
loop-bucket-preserved c = λ k b less is.
    let i = c.loop-bucket.bucket-index in
    let buckets = c.loop-bucket.buckets in
    let all = c.loop-bucket.auto.buckets in
    let test = c.loop-bucket-test.true in
    let within : i < length buckets = omega (arith, all, test) in
    elim (cases_lt k i) [
      | inl below ↦
          c.loop-bucket.invariant k b below
          (sym (get-set_other buckets i k c.clear.new.self (λ same. omega (arith, below, same))) ∙ is)
      | inr past ↦
          let same : k ≡ i = omega (arith, less, past) in
          let own = sym (get-set_same buckets i c.clear.new.self within) ∙ ap (slice_get (slice_set buckets i c.clear.new.self)) (sym same) ∙ is in
          subst (λ (v : Vec Open Global). v.items ≡ []) (same_Some c.clear.new.self b own) c.clear.ensures.items
    ]

pub returns : goal.returns
returns c = λ p there.
    let within = slice_get_within c.loop-bucket.buckets there.0 there.1 there.2 in
    let all = c.loop-bucket.auto.buckets in
    let test = c.loop-bucket-test.false in
    among-none there.1.items p (c.loop-bucket.invariant there.0 there.1 (omega (arith, within, all, test)) there.2) there.3
