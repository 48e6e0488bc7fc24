use Rattle.std.proofs.Common.{◌≡◌, ℕ, ◌^◌, ◌<◌, inl, inr, None, refl, sym, ap, subst, ◌∙◌}
use Rattle.std.specs.List.{AllByRecursion}
use Rattle.model.specs.Messages.{Message, own_message, message_bytes}
use Rattle.agent.specs.Decoding.{any_fault}
use Rattle.agent.specs.Tellings.{Telling, IsInRange}
use Rattle.agent.proofs.ToldLemmas.{one-telling, no-fault}
use Rattle.agent.proofs.laws.tellings.Goals as goal

no-fault-one : (plan agent done : ℕ) → any_fault (message_bytes plan agent done) ≡ None
no-fault-one plan agent done = refl

-- the number of a message of version 1 is in its range
own-done : (t : Telling) (done : ℕ) → IsInRange t → t.message ≡ own_message t.message.sender done → done < 2 ^ 32
own-done t done in_range own = (subst (λ m. AllByRecursion (λ e. e.done < 2 ^ 32) m.entries) own in_range.numbers).0

-- two of version 1 with the same numbers are the same
same-one : (t u : Telling) (d e : ℕ) → t.message ≡ own_message t.message.sender d → u.message ≡ own_message u.message.sender e
    → t.plan ≡ u.plan → t.message.sender ≡ u.message.sender → d ≡ e → t ≡ u
same-one t u d e own_t own_u plan sender done =
    let message : t.message ≡ u.message =
    own_t ∙ ap (λ i. own_message i d) sender ∙ ap (own_message u.message.sender) done ∙ sym own_u in
    ap {A = ℕ} {B = Telling} (λ n. record { plan = n; message = t.message }) plan
    ∙ ap {A = Message} {B = Telling} (λ m. record { plan = u.plan; message = m }) message

pub returns-clause-fine : goal.returns-clause-fine
returns-clause-fine c bytes t tells = elim tells.spelled [
  | inl one ↦ ap any_fault one.2.spelled ∙ no-fault-one t.plan t.message.sender one.0
  | inr two ↦ no-fault t bytes tells.in_range two
]

pub returns-clause-one : goal.returns-clause-one
returns-clause-one c bytes t u first second = elim first.spelled [
  | inl a ↦ elim second.spelled [
    | inl b ↦ (
        let same = sym a.2.spelled ∙ b.2.spelled in
        same-one t u a.0 b.0 a.1 b.1
        (c.messages.ensures.plan t.plan t.message.sender a.0 u.plan u.message.sender b.0 first.in_range.plan second.in_range.plan same)
        (c.messages.ensures.from t.plan t.message.sender a.0 u.plan u.message.sender b.0 first.in_range.sender second.in_range.sender same)
        (c.messages.ensures.done t.plan t.message.sender a.0 u.plan u.message.sender b.0 (own-done t a.0 first.in_range a.1) (own-done u b.0 second.in_range b.1) same)
        )
    | inr b ↦ absurd (c.whole_messages.ensures.not_both t.plan t.message.sender a.0 u (sym a.2.spelled ∙ b.spelled))
  ]
  | inr a ↦ elim second.spelled [
    | inl b ↦ absurd (c.whole_messages.ensures.not_both u.plan u.message.sender b.0 t (sym b.2.spelled ∙ a.spelled))
    | inr b ↦ one-telling t u first.in_range second.in_range (sym a.spelled ∙ b.spelled)
  ]
]
