-- The places that wait are in one of the lists.
use Rattle.std.proofs.Common.{inl, inr, subst, sym}
use Rattle.least_steps.specs.Code.Waiting.{AreBehind, AreSound}
use Rattle.least_steps.proofs.answer.are_all_behind.Goals as goal

pub are_behind-requires-clause-sound : goal.are_behind-requires-clause-sound
are_behind-requires-clause-sound c = subst (AreSound c.args.reached.now) (sym c.deref.ensures.value) (λ p there. c.requires.sound p (inl there))

pub are_behind-requires-2-clause-sound : goal.are_behind-requires-2-clause-sound
are_behind-requires-2-clause-sound c = subst (AreSound c.args.reached.now) (sym c.deref-2.ensures.value) (λ p there. c.requires.sound p (inr (inl there)))

pub are_behind-requires-3-clause-sound : goal.are_behind-requires-3-clause-sound
are_behind-requires-3-clause-sound c = subst (AreSound c.args.reached.now) (sym c.deref-3.ensures.value) (λ p there. c.requires.sound p (inr (inr (inl there))))

pub are_buckets_behind-requires-clause-sound : goal.are_buckets_behind-requires-clause-sound
are_buckets_behind-requires-clause-sound c = λ p there. c.requires.sound p (inr (inr (inr there)))

pub returns : goal.returns
returns c = λ all p waits. elim waits [
  | inl there ↦ subst (AreBehind c.args.reached.now c.args.goal) c.deref.ensures.value (c.are_behind.ensures c.if-not-are_behind.false) p there
  | inr rest ↦ elim rest [
    | inl there ↦ subst (AreBehind c.args.reached.now c.args.goal) c.deref-2.ensures.value (c.are_behind-2.ensures c.if-not-are_behind-2.false) p there
    | inr more ↦ elim more [
      | inl there ↦ subst (AreBehind c.args.reached.now c.args.goal) c.deref-3.ensures.value (c.are_behind-3.ensures c.if-not-are_behind-3.false) p there
      | inr there ↦ c.are_buckets_behind.ensures all p there
    ]
  ]
]
