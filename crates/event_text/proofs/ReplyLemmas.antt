-- The texts of messages and of refusals, part by part.
use Rattle.std.proofs.Common.{◌≡◌, ℕ, ◌/◌, ◌%◌, List, [], ◌∷◌, ◌++◌, refl, ap}
use Rattle.std.specs.Prelude.{slice_index}
use Rattle.hex.specs.Hex.{encode_with, encode_lower, lower_digits}
use Rattle.model.specs.declared.why.Why.{Why}
use Rattle.model.specs.declared.why.Why.TheVariants.{NoSuchAgent, NoSuchMessage, BadTear, Broken}
use Rattle.model.specs.declared.why.Why.TheVariants.{AlreadyMoving, AtEnd, Waits, NotMoving}
use Rattle.model.specs.declared.why.Why.TheVariants.{StoreFailed, BadLength, BadMagic, BadVersion}
use Rattle.model.specs.declared.why.Why.TheVariants.{BadEntry, WrongPlan, TooMany}
use Rattle.event_text.specs.ReplyText.{refusal_numbers}

-- the digits of both are those of the one and of the other
pub encode_lower-append : (xs ys : List ℕ) → encode_lower (xs ++ ys) ≡ encode_lower xs ++ encode_lower ys
unfolding encode_with
encode_lower-append [] ys = refl
encode_lower-append (x ∷ xs) ys =
    ap (λ ds. slice_index lower_digits (x / 16) ∷ slice_index lower_digits (x % 16) ∷ ds) (encode_lower-append xs ys)

pub encode_lower-none : encode_lower [] ≡ []
unfolding encode_with
encode_lower-none = refl

-- only a wait and an entry have numbers
pub numbers-none : (why : Why) → ((j n : ℕ) → why ≡ Waits j n → ⊥) → ((e : ℕ) → why ≡ BadEntry e → ⊥) → refusal_numbers why ≡ []
numbers-none NoSuchAgent wait entry = refl
numbers-none NoSuchMessage wait entry = refl
numbers-none BadTear wait entry = refl
numbers-none Broken wait entry = refl
numbers-none AlreadyMoving wait entry = refl
numbers-none AtEnd wait entry = refl
numbers-none (Waits j n) wait entry = absurd (wait j n refl)
numbers-none NotMoving wait entry = refl
numbers-none StoreFailed wait entry = refl
numbers-none BadLength wait entry = refl
numbers-none BadMagic wait entry = refl
numbers-none BadVersion wait entry = refl
numbers-none (BadEntry e) wait entry = absurd (entry e refl)
numbers-none WrongPlan wait entry = refl
numbers-none TooMany wait entry = refl
