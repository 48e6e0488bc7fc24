-- What holds of every history, whether it is a run or not.
use Rattle.std.proofs.Common.{ℕ, zero, suc, ◌+◌, ◌≤◌, eqb, List, []}
use Rattle.std.proofs.Common.{◌∷◌, ◌++◌, length, max, arith, sym, subst}
use Rattle.std.specs.Prelude.{slice_get, ◌&&◌}
use Rattle.std.proofs.lemmas.Bool.{cond_both, eqb-true}
use Rattle.model.specs.declared.event.Event.{Event}
use Rattle.model.specs.declared.event.Event.TheVariants.{Start, Finish, Say, Deliver, Restart, Tear}
use Rattle.model.specs.declared.version.Version.{Version}
use Rattle.model.specs.declared.version.Version.TheVariants.{One, Two}
use Rattle.model.specs.Messages.{Message, told_by, told, own_message}
use Rattle.model.specs.Messages.{entries_from, number_told, message_said}
use Rattle.model.specs.Timetable.{Timetable}
use Rattle.model.specs.History.{Answer, History, Happening, done, is_opened, is_said}
use Rattle.model.specs.History.{is_heard, messages_of, told_of, known_after, messages, known}

-- what has been finished stays so
pub done-next : (now : Happening) (h : History) (j : ℕ) → done h j ≤ done (now ∷ h) j
done-next now h j = omega arith

-- ---- no message tells more of an agent than that one has done

told_own : (i d j : ℕ) (most : ℕ → ℕ) → d ≤ most i → told (own_message i d) j ≤ most j
told_own i d j most h =
    cond_both (eqb i j) (max d 0) 0 (λ n. n ≤ most j)
    (λ e. subst (λ k. max d 0 ≤ most k) (eqb-true i j e) (omega (arith, h)))
    (λ e. omega arith)

told-entries_most : (number : ℕ → ℕ) (first count j : ℕ) (most : ℕ → ℕ)
    → ((k : ℕ) → number k ≤ most k) → told_by (entries_from number first count) j ≤ most j
told-entries_most number first zero j most within = omega arith
told-entries_most number first (suc count) j most within =
    let rest = entries_from number (first + 1) count in
    let others = told-entries_most number (first + 1) count j most within in
    cond_both (eqb (number first) 0) rest (record { agent = first; done = number first } ∷ rest)
    (λ es. told_by es j ≤ most j)
    (λ e. others)
    (λ e. cond_both (eqb first j) (max (number first) (told_by rest j)) (told_by rest j)
    (λ n. n ≤ most j)
    (λ own. let here = subst (λ k. number first ≤ most k) (eqb-true first j own) (within first) in
    omega (arith, here, others))
    (λ other. others))

pub number-within : (i d : ℕ) (knows most : ℕ → ℕ) → d ≤ most i → ((k : ℕ) → knows k ≤ most k)
    → (j : ℕ) → number_told i d knows j ≤ most j
number-within i d knows most own within j =
    cond_both (eqb j i) d (knows j) (λ n. n ≤ most j)
    (λ e. subst (λ k. d ≤ most k) (sym (eqb-true j i e)) own)
    (λ e. within j)

told_said : (v : Version) (agents i d : ℕ) (knows most : ℕ → ℕ) → d ≤ most i
    → ((k : ℕ) → knows k ≤ most k) → (j : ℕ)
    → told (message_said v agents i d knows) j ≤ most j
told_said One agents i d knows most own within j = told_own i d j most own
told_said Two agents i d knows most own within j =
    told-entries_most (number_told i d knows) 0 agents j most
    (number-within i d knows most own within)

abbrev ToldWithin : List Message → (ℕ → ℕ) → Type 0
ToldWithin ms most = (m j : ℕ) → told_of (slice_get ms m) j ≤ most j

told_append : (xs ys : List Message) (most : ℕ → ℕ) → ToldWithin xs most → ToldWithin ys most
    → ToldWithin (xs ++ ys) most
told_append [] ys most h k = k
told_append (x ∷ xs) ys most h k = each (told_append xs ys most (λ n. h (suc n)) k) where
  each : ToldWithin (xs ++ ys) most → ToldWithin ((x ∷ xs) ++ ys) most
  each rest zero j = h zero j
  each rest (suc m) j = rest m j

told_single : (message : Message) (most : ℕ → ℕ) → ((j : ℕ) → told message j ≤ most j)
    → ToldWithin (message ∷ []) most
told_single message most within zero j = within j
told_single message most within (suc m) j = omega arith

told_now : (v : Version) (tab : Timetable) (e : Event) (r : Answer) (h : History) (knows : ℕ → ℕ
    → ℕ) → ((i j : ℕ) → knows i j ≤ done h j)
    → ToldWithin (messages_of v tab e r h knows) (done h)
told_now v tab (Say i) r h knows within =
    cond_both (is_said r) (message_said v (length tab.tracks) i (done h i) (knows i) ∷ []) []
    (λ ms. ToldWithin ms (done h))
    (λ e. told_single _ (done h) (told_said v (length tab.tracks) i (done h i) (knows i) (done h)
    (omega arith) (within i))) (λ e m j. omega arith)
told_now v tab (Start i) r h knows within = λ m j. omega arith
told_now v tab (Finish i) r h knows within = λ m j. omega arith
told_now v tab (Deliver i n) r h knows within = λ m j. omega arith
told_now v tab (Restart i) r h knows within = λ m j. omega arith
told_now v tab (Tear i n) r h knows within = λ m j. omega arith

-- ---- nor is more known

known_next : (e : Event) (r : Answer) (ms : List Message) (i j before most : ℕ) → before ≤ most
    → ((m : ℕ) → told_of (slice_get ms m) j ≤ most)
    → known_after e r ms i j before ≤ most
known_next (Deliver k m) r ms i j before most p q =
    cond_both (eqb k i && is_heard r) (max before (told_of (slice_get ms m) j)) before
    (λ n. n ≤ most)
    (λ e. let t = q m in omega (arith, p, t)) (λ e. p)
known_next (Restart k) r ms i j before most p q =
    cond_both (eqb k i && is_opened r) 0 before (λ n. n ≤ most) (λ e. omega arith) (λ e. p)
known_next (Start k) r ms i j before most p q = p
known_next (Finish k) r ms i j before most p q = p
known_next (Say k) r ms i j before most p q = p
known_next (Tear k n) r ms i j before most p q = p

-- what was said and what is known hang on one another, and so do these
record Within (v : Version) (tab : Timetable) (h : History) : Type 0 where
  told : ToldWithin (messages v tab h) (done h)
  known : (i j : ℕ) → known v tab h i j ≤ done h j

within-done : (v : Version) (tab : Timetable) (h : History) → Within v tab h
within-done v tab [] = record { told = λ m j. omega arith; known = λ i j. omega arith }
within-done v tab (now ∷ h) =
    let before = within-done v tab h in
    let told = told_append (messages v tab h)
    (messages_of v tab now.event now.answer h (known v tab h)) (done h) before.told
    (told_now v tab now.event now.answer h (known v tab h) before.known) in
    record {
      told =
          λ m j. (let most = told m j in let later = done-next now h j in
          omega (arith, most, later));
      known = λ i j. (
          let most = known_next now.event now.answer (messages v tab h) i j (known v tab h i j)
          (done h j) (before.known i j) (λ m. before.told m j) in
          let later = done-next now h j in
          omega (arith, most, later)
          );
    }

-- what is known of an agent it has done
pub known-done
    : (v : Version) (tab : Timetable) (h : History) (i j : ℕ) → known v tab h i j ≤ done h j
known-done v tab h = (within-done v tab h).known
