-- What was refused, and whether somebody had said it.
use Rattle.std.proofs.Common.{◌≡◌, ℕ, zero, suc, List, [], ◌∷◌, ◌++◌, Some, None, Ok, Err, inl, inr, refl, sym, ap, ◌∙◌}
use Rattle.std.specs.Prelude.{◌⊎◌, Option, MatchOption, slice_get}
use Rattle.std.proofs.lemmas.Bool.{cases_eq}
use Rattle.std.proofs.lemmas.List.{append-nil}
use Rattle.std.proofs.lemmas.Option.{same_Some, none-some}
use Rattle.model.specs.Timetable.{Timetable}
use Rattle.agent.specs.States.{State, bytes_refusal, telling_refusal, Keeps, Refuses, IsTaken, IsHeard}
use Rattle.agent.specs.Tellings.{Telling, BytesTell}
use Rattle.agent.specs.declared.refusal.HearFault.{HearFault}
use Rattle.fleet.specs.Deeds.{Deed, opens, starts, finishes, says, tells, hears, holds, looks, ends, stops, ends_starting, ends_finishing}
use Rattle.fleet.specs.Fleets.{Log, bytes_of, spoken}
use Rattle.fleet.specs.Unsaid.{IsUnsaid, LeavesUnsaid}

-- ---- who had said it

same-or : (a b : List ℕ) → (a ≡ b) ⊎ (a ≡ b → ⊥)
same-or [] [] = inl refl
same-or [] (y ∷ ys) = inr (λ e. cc)
same-or (x ∷ xs) [] = inr (λ e. cc)
same-or (x ∷ xs) (y ∷ ys) = elim (cases_eq x y) [
  | inr apart ↦ inr (λ e. apart cc)
  | inl one ↦ elim (same-or xs ys) [
    | inl rest ↦ inl (ap (λ k. k ∷ xs) one ∙ ap (λ l. y ∷ l) rest)
    | inr other ↦ inr (λ e. other cc)
  ]
]

pub was_said-or : (before : List (List ℕ)) (bytes : List ℕ) → ((m : ℕ) × (slice_get before m ≡ Some bytes)) ⊎ ((m : ℕ) → slice_get before m ≡ Some bytes → ⊥)
was_said-or [] bytes = inr (λ m there. none-some bytes there)
was_said-or (first ∷ before) bytes = elim (same-or first bytes) [
  | inl same ↦ inl (zero, ap Some same)
  | inr apart ↦ elim (was_said-or before bytes) [
    | inl (m, there) ↦ inl (suc m, there)
    | inr none ↦ inr (λ m there. nowhere apart none m there)
  ]
] where
  nowhere : (first ≡ bytes → ⊥) → ((m : ℕ) → slice_get before m ≡ Some bytes → ⊥) → (m : ℕ) → slice_get (first ∷ before) m ≡ Some bytes → ⊥
  nowhere apart none zero there = apart (same_Some first bytes there)
  nowhere apart none (suc m) there = none m there

-- whether a deed refused what it heard
pub refused-or : (deed : Deed) → ((bytes : List ℕ) × (fault : HearFault) × (deed ≡ hears bytes (Err fault)))
    ⊎ ((bytes : List ℕ) (fault : HearFault) → deed ≡ hears bytes (Err fault) → ⊥)
refused-or (hears bytes (Err fault)) = inl (bytes, fault, refl)
refused-or (hears bytes (Ok answer)) = inr (λ b f e. cc)
refused-or (opens what count) = inr (λ b f e. cc)
refused-or (starts answer) = inr (λ b f e. cc)
refused-or (finishes answer) = inr (λ b f e. cc)
refused-or (says answer) = inr (λ b f e. cc)
refused-or (tells answer) = inr (λ b f e. cc)
refused-or (holds what count) = inr (λ b f e. cc)
refused-or (looks begun most count) = inr (λ b f e. cc)
refused-or ends = inr (λ b f e. cc)
refused-or stops = inr (λ b f e. cc)
refused-or ends_starting = inr (λ b f e. cc)
refused-or ends_finishing = inr (λ b f e. cc)

-- ---- what it leaves

-- who refuses what it hears stays as it is
pub refused-same : (table : Timetable) (old new : State) (bytes : List ℕ) (fault : HearFault) → IsHeard table old new bytes (Err fault) → new ≡ old
refused-same table old new bytes fault heard = by_bytes (bytes_refusal old bytes) heard where
  taken : (u : Telling) (o : Option HearFault) → MatchOption o (Keeps old new u.message (Err fault)) (Refuses old new (Err fault)) → new ≡ old
  taken u None keeps = keeps.2
  taken u (Some why) refuses = refuses.1

  by_bytes : (o : Option HearFault) → MatchOption o ((u : Telling) × BytesTell bytes u × IsTaken table old new u (Err fault)) (Refuses old new (Err fault)) → new ≡ old
  by_bytes None takes = taken takes.0 (telling_refusal table takes.0) takes.2
  by_bytes (Some why) refuses = refuses.1

-- ---- what is left out was said by nobody, and says nothing

pub silent-unsaid : (before : List (List ℕ)) (deed : Deed) → IsUnsaid before deed → bytes_of deed ≡ []
silent-unsaid before (opens what count) unsaid = refl
silent-unsaid before (starts answer) unsaid = refl
silent-unsaid before (finishes answer) unsaid = refl
silent-unsaid before (says answer) unsaid = absurd unsaid
silent-unsaid before (tells answer) unsaid = absurd unsaid
silent-unsaid before (hears bytes answer) unsaid = refl
silent-unsaid before (holds what count) unsaid = refl
silent-unsaid before (looks begun most count) unsaid = refl
silent-unsaid before ends unsaid = refl
silent-unsaid before stops unsaid = refl
silent-unsaid before ends_starting unsaid = refl
silent-unsaid before ends_finishing unsaid = refl

pub spoken-unsaid : (log kept : Log) → LeavesUnsaid log kept → spoken kept ≡ spoken log
spoken-unsaid [] kept leaves = ap spoken leaves
spoken-unsaid (now ∷ log) kept (inl left) =
    spoken-unsaid log kept left.1 ∙ sym (append-nil (spoken log)) ∙ ap (λ l. spoken log ++ l) (sym (silent-unsaid (spoken log) now.deed left.0))
spoken-unsaid (now ∷ log) kept (inr goes) = ap spoken goes.1 ∙ ap (λ l. l ++ bytes_of now.deed) (spoken-unsaid log goes.0 goes.2)
