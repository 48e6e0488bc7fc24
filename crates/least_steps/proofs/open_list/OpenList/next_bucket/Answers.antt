-- The two lists are exchanged.
use Rattle.std.proofs.Common.{rules, ◌<◌, length, inl, inr, subst, sym}
use Rattle.least_steps.specs.Code.Waiting.{IsPlaceAmong}
use Rattle.least_steps.proofs.WaitingLemmas.{bucket-keeps, bucket-new, bucket-old, bucket-only}
use Rattle.least_steps.proofs.open_list.OpenList.next_bucket.Goals as goal

pub returns-then-not-is_empty : goal.returns-then-not-is_empty
returns-then-not-is_empty c =
    let buckets = c.args.self.now.buckets in
    let i = c.bucket_of.result in
    let within : i < length buckets = search rules in
    let other = c.index-self-bucket_of.result in
    record {
      keeps = λ p waits. elim waits [
        | inl h ↦ inr (inr (inr (bucket-new buckets i other c.swap.new.x within p (subst (λ v. IsPlaceAmong v.items p) (sym c.swap.ensures.x_after) h))))
        | inr rest ↦ elim rest [
          | inl h ↦ inr (inl h)
          | inr more ↦ elim more [
            | inl h ↦ inr (inr (inl h))
            | inr there ↦ elim (bucket-keeps buckets i other c.swap.new.x within p there) [
              | inl still ↦ inr (inr (inr still))
              | inr own ↦ inl (subst (λ v. IsPlaceAmong v.items p) (sym c.swap.ensures.y_after) own)
            ]
          ]
        ]
      ];
      only = λ p waits. elim waits [
        | inl h ↦ inr (inr (inr (bucket-old buckets i other c.swap.new.x within p (subst (λ v. IsPlaceAmong v.items p) c.swap.ensures.y_after h))))
        | inr rest ↦ elim rest [
          | inl h ↦ inr (inl h)
          | inr more ↦ elim more [
            | inl h ↦ inr (inr (inl h))
            | inr there ↦ elim (bucket-only buckets i other c.swap.new.x within p there) [
              | inl before ↦ inr (inr (inr before))
              | inr own ↦ inl (subst (λ v. IsPlaceAmong v.items p) c.swap.ensures.x_after own)
            ]
          ]
        ]
      ];
    }

pub returns-else-not-is_empty : goal.returns-else-not-is_empty
returns-else-not-is_empty c =
    let buckets = c.args.self.now.buckets in
    let i = c.bucket_of.result in
    let within : i < length buckets = search rules in
    let other = c.index-self-bucket_of.result in
    record {
      keeps = λ p waits. elim waits [
        | inl h ↦ inr (inr (inr (bucket-new buckets i other c.swap.new.x within p (subst (λ v. IsPlaceAmong v.items p) (sym c.swap.ensures.x_after) h))))
        | inr rest ↦ elim rest [
          | inl h ↦ inr (inl h)
          | inr more ↦ elim more [
            | inl h ↦ inr (inr (inl h))
            | inr there ↦ elim (bucket-keeps buckets i other c.swap.new.x within p there) [
              | inl still ↦ inr (inr (inr still))
              | inr own ↦ inl (subst (λ v. IsPlaceAmong v.items p) (sym c.swap.ensures.y_after) own)
            ]
          ]
        ]
      ];
      only = λ p waits. elim waits [
        | inl h ↦ inr (inr (inr (bucket-old buckets i other c.swap.new.x within p (subst (λ v. IsPlaceAmong v.items p) c.swap.ensures.y_after h))))
        | inr rest ↦ elim rest [
          | inl h ↦ inr (inl h)
          | inr more ↦ elim more [
            | inl h ↦ inr (inr (inl h))
            | inr there ↦ elim (bucket-only buckets i other c.swap.new.x within p there) [
              | inl before ↦ inr (inr (inr before))
              | inr own ↦ inl (subst (λ v. IsPlaceAmong v.items p) c.swap.ensures.x_after own)
            ]
          ]
        ]
      ];
    }

pub returns-else-not-is_past : goal.returns-else-not-is_past
returns-else-not-is_past c =
    let buckets = c.args.self.now.buckets in
    let i = c.bucket_of.result in
    let within : i < length buckets = search rules in
    let other = c.index-self-bucket_of.result in
    record {
      keeps = λ p waits. elim waits [
        | inl h ↦ inr (inr (inr (bucket-new buckets i other c.swap.new.x within p (subst (λ v. IsPlaceAmong v.items p) (sym c.swap.ensures.x_after) h))))
        | inr rest ↦ elim rest [
          | inl h ↦ inr (inl h)
          | inr more ↦ elim more [
            | inl h ↦ inr (inr (inl h))
            | inr there ↦ elim (bucket-keeps buckets i other c.swap.new.x within p there) [
              | inl still ↦ inr (inr (inr still))
              | inr own ↦ inl (subst (λ v. IsPlaceAmong v.items p) (sym c.swap.ensures.y_after) own)
            ]
          ]
        ]
      ];
      only = λ p waits. elim waits [
        | inl h ↦ inr (inr (inr (bucket-old buckets i other c.swap.new.x within p (subst (λ v. IsPlaceAmong v.items p) c.swap.ensures.y_after h))))
        | inr rest ↦ elim rest [
          | inl h ↦ inr (inl h)
          | inr more ↦ elim more [
            | inl h ↦ inr (inr (inl h))
            | inr there ↦ elim (bucket-only buckets i other c.swap.new.x within p there) [
              | inl before ↦ inr (inr (inr before))
              | inr own ↦ inl (subst (λ v. IsPlaceAmong v.items p) c.swap.ensures.x_after own)
            ]
          ]
        ]
      ];
    }
