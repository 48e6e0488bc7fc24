-- The place is put into one of the lists.
use Rattle.std.proofs.Common.{rules, ◌<◌, length, inl, inr, subst, sym}
use Rattle.std.specs.Prelude.{slice_index_or}
use Rattle.least_steps.specs.Code.Waiting.{IsPlaceAmong}
use Rattle.least_steps.proofs.WaitingLemmas.{among-own, bucket-keeps, bucket-new, bucket-old, bucket-only, if-ok, may-keeps, may-only, put-or-not}
use Rattle.least_steps.proofs.open_list.OpenList.push.Goals as goal

pub returns-then-bucket-self-clause-keeps : goal.returns-then-bucket-self-clause-keeps
returns-then-bucket-self-clause-keeps c = λ p waits. elim waits [
  | inl there ↦ inl (may-keeps c.args.self.now.now.items c.put_last.new.items.items c.args.place p
      (put-or-not c.put_last.result c.put_last.ensures.put c.put_last.ensures.none) there)
  | inr rest ↦ inr rest
]

pub returns-then-bucket-self-clause-only : goal.returns-then-bucket-self-clause-only
returns-then-bucket-self-clause-only c = λ p waits. elim waits [
  | inl there ↦ elim (may-only c.args.self.now.now.items c.put_last.new.items.items c.args.place p
      (put-or-not c.put_last.result c.put_last.ensures.put c.put_last.ensures.none) there) [ inl before ↦ inl (inl (before)) | inr own ↦ inr own ]
  | inr rest ↦ inl (inr rest)
]

pub returns-then-bucket-self-clause-has : goal.returns-then-bucket-self-clause-has
returns-then-bucket-self-clause-has c = if-ok c.put_last.result c.put_last.ensures.put (λ put. inl
    (subst (λ l. IsPlaceAmong l c.args.place) (sym put) (among-own c.args.self.now.now.items c.args.place)))

pub returns-else-bucket-self-clause-keeps : goal.returns-else-bucket-self-clause-keeps
returns-else-bucket-self-clause-keeps c = λ p waits. elim waits [
  | inl h ↦ inl h
  | inr rest ↦ elim rest [
    | inl h ↦ inr (inl h)
    | inr more ↦ elim more [
      | inl h ↦ inr (inr (inl h))
      | inr there ↦
          let within : c.bucket_of.result < length c.args.self.now.buckets = search rules in
          let other = c.index-self-bucket_of.result in
          let new = c.put_last-else-bucket-self.new.items in
          inr (inr (inr (elim (bucket-keeps c.args.self.now.buckets c.bucket_of.result other new within p there) [
            | inl still ↦ still
            | inr own ↦
                bucket-new c.args.self.now.buckets c.bucket_of.result other new within p
                (may-keeps (slice_index_or c.args.self.now.buckets c.bucket_of.result other).items new.items c.args.place p
                (put-or-not c.put_last-else-bucket-self.result c.put_last-else-bucket-self.ensures.put c.put_last-else-bucket-self.ensures.none) own)
          ])))
    ]
  ]
]

pub returns-else-bucket-self-clause-only : goal.returns-else-bucket-self-clause-only
returns-else-bucket-self-clause-only c = λ p waits. elim waits [
  | inl h ↦ inl (inl h)
  | inr rest ↦ elim rest [
    | inl h ↦ inl (inr (inl h))
    | inr more ↦ elim more [
      | inl h ↦ inl (inr (inr (inl h)))
      | inr there ↦
          let within : c.bucket_of.result < length c.args.self.now.buckets = search rules in
          let other = c.index-self-bucket_of.result in
          let new = c.put_last-else-bucket-self.new.items in
          elim (bucket-only c.args.self.now.buckets c.bucket_of.result other new within p there) [
            | inl before ↦ inl (inr (inr (inr before)))
            | inr own ↦ elim (may-only (slice_index_or c.args.self.now.buckets c.bucket_of.result other).items new.items c.args.place p
                (put-or-not c.put_last-else-bucket-self.result c.put_last-else-bucket-self.ensures.put c.put_last-else-bucket-self.ensures.none) own) [
                  | inl had ↦ inl (inr (inr (inr (bucket-old c.args.self.now.buckets c.bucket_of.result other new within p had))))
                  | inr is ↦ inr is
                ]
          ]
    ]
  ]
]

pub returns-else-bucket-self-clause-has : goal.returns-else-bucket-self-clause-has
returns-else-bucket-self-clause-has c =
    let within : c.bucket_of.result < length c.args.self.now.buckets = search rules in
    let other = c.index-self-bucket_of.result in
    let new = c.put_last-else-bucket-self.new.items in
    if-ok c.put_last-else-bucket-self.result c.put_last-else-bucket-self.ensures.put
    (λ put. inr (inr (inr (bucket-new c.args.self.now.buckets c.bucket_of.result other new within c.args.place
    (subst (λ l. IsPlaceAmong l c.args.place) (sym put) (among-own (slice_index_or c.args.self.now.buckets c.bucket_of.result other).items c.args.place))))))

pub returns-then-place-self-clause-keeps : goal.returns-then-place-self-clause-keeps
returns-then-place-self-clause-keeps c = λ p waits. elim waits [
  | inl h ↦ inl h
  | inr rest ↦ elim rest [
    | inl there ↦ inr (inl (may-keeps c.args.self.now.next.items c.put_last-then-place-self.new.items.items c.args.place p
        (put-or-not c.put_last-then-place-self.result c.put_last-then-place-self.ensures.put c.put_last-then-place-self.ensures.none) there))
    | inr more ↦ inr (inr more)
  ]
]

pub returns-then-place-self-clause-only : goal.returns-then-place-self-clause-only
returns-then-place-self-clause-only c = λ p waits. elim waits [
  | inl h ↦ inl (inl h)
  | inr rest ↦ elim rest [
    | inl there ↦ elim (may-only c.args.self.now.next.items c.put_last-then-place-self.new.items.items c.args.place p
        (put-or-not c.put_last-then-place-self.result c.put_last-then-place-self.ensures.put c.put_last-then-place-self.ensures.none) there) [ inl before ↦ inl (inr (inl (before))) | inr own ↦ inr own ]
    | inr more ↦ inl (inr (inr more))
  ]
]

pub returns-then-place-self-clause-has : goal.returns-then-place-self-clause-has
returns-then-place-self-clause-has c = if-ok c.put_last-then-place-self.result c.put_last-then-place-self.ensures.put
    (λ put. inr (inl (subst (λ l. IsPlaceAmong l c.args.place) (sym put) (among-own c.args.self.now.next.items c.args.place))))

pub returns-else-place-self-clause-keeps : goal.returns-else-place-self-clause-keeps
returns-else-place-self-clause-keeps c = λ p waits. elim waits [
  | inl h ↦ inl h
  | inr rest ↦ elim rest [
    | inl h ↦ inr (inl h)
    | inr more ↦ elim more [
      | inl there ↦ inr (inr (inl (may-keeps c.args.self.now.later.items c.put_last-else-place-self.new.items.items c.args.place p
          (put-or-not c.put_last-else-place-self.result c.put_last-else-place-self.ensures.put c.put_last-else-place-self.ensures.none) there)))
      | inr last ↦ inr (inr (inr last))
    ]
  ]
]

pub returns-else-place-self-clause-only : goal.returns-else-place-self-clause-only
returns-else-place-self-clause-only c = λ p waits. elim waits [
  | inl h ↦ inl (inl h)
  | inr rest ↦ elim rest [
    | inl h ↦ inl (inr (inl h))
    | inr more ↦ elim more [
      | inl there ↦ elim (may-only c.args.self.now.later.items c.put_last-else-place-self.new.items.items c.args.place p
          (put-or-not c.put_last-else-place-self.result c.put_last-else-place-self.ensures.put c.put_last-else-place-self.ensures.none) there)
          [ inl before ↦ inl (inr (inr (inl (before)))) | inr own ↦ inr own ]
      | inr last ↦ inl (inr (inr (inr last)))
    ]
  ]
]

pub returns-else-place-self-clause-has : goal.returns-else-place-self-clause-has
returns-else-place-self-clause-has c = if-ok c.put_last-else-place-self.result c.put_last-else-place-self.ensures.put
    (λ put. inr (inr (inl (subst (λ l. IsPlaceAmong l c.args.place) (sym put) (among-own c.args.self.now.later.items c.args.place)))))
