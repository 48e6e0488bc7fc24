-- At version 1 each message has one entry, its sender's own.
use Rattle.std.proofs.Common.{◌≡◌, ℕ, zero, suc, List, [], ◌∷◌, ◌++◌, Some, refl, subst}
use Rattle.std.specs.Prelude.{slice_get}
use Rattle.std.proofs.lemmas.Bool.{cond_both}
use Rattle.std.proofs.lemmas.Option.{same_Some, none-some}
use Rattle.model.specs.declared.event.Event.{Event}
use Rattle.model.specs.declared.event.Event.TheVariants.{Start, Finish, Say, Deliver, Restart, Tear}
use Rattle.model.specs.declared.version.Version.TheVariants.{One}
use Rattle.model.specs.Timetable.{Timetable}
use Rattle.model.specs.Messages.{Message, own_message}
use Rattle.model.specs.History.{Answer, History, done, is_said, messages_of, messages, known}
use Rattle.model.proofs.laws.first_version.Goals as goal

abbrev AreOwn : List Message → Type 0
AreOwn ms = (m : ℕ) (message : Message) → slice_get ms m ≡ Some message → (done : ℕ) × (message ≡ own_message message.sender done)

own_append : (xs ys : List Message) → AreOwn xs → AreOwn ys → AreOwn (xs ++ ys)
own_append [] ys h k = k
own_append (x ∷ xs) ys h k = each (own_append xs ys (λ m. h (suc m)) k) where
  each : AreOwn (xs ++ ys) → AreOwn ((x ∷ xs) ++ ys)
  each rest zero message there = h zero message there
  each rest (suc m) message there = rest m message there

none_own : AreOwn []
none_own m message there = absurd (none-some message there)

one_own : (i done : ℕ) → AreOwn (own_message i done ∷ [])
one_own i done zero message there = subst (λ x. (d : ℕ) × (x ≡ own_message x.sender d)) (same_Some (own_message i done) message there) (done, refl)
one_own i done (suc m) message there = none_own m message there

own_now : (tab : Timetable) (e : Event) (r : Answer) (h : History) → AreOwn (messages_of One tab e r h (known One tab h))
own_now tab (Say i) r h = cond_both (is_said r) (own_message i (done h i) ∷ []) [] AreOwn (λ e. one_own i (done h i)) (λ e. none_own)
own_now tab (Start i) r h = none_own
own_now tab (Finish i) r h = none_own
own_now tab (Deliver i n) r h = none_own
own_now tab (Restart i) r h = none_own
own_now tab (Tear i n) r h = none_own

all_own : (tab : Timetable) (h : History) → AreOwn (messages One tab h)
all_own tab [] = none_own
all_own tab (now ∷ h) = own_append (messages One tab h) (messages_of One tab now.event now.answer h (known One tab h)) (all_own tab h) (own_now tab now.event now.answer h)

pub returns-clause-own_entry : goal.returns-clause-own_entry
returns-clause-own_entry c = all_own
