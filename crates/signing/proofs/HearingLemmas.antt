-- What is taken of a sender rises, and its key and the run stay.
use Rattle.std.proofs.Common.{◌≡◌, ◌∙◌, ℕ, zero, suc, ◌<◌, ◌≤◌, List, [], ◌∷◌, length, Some, None, Ok, Err, inl, inr, arith, ap, sym, subst}
use Rattle.std.specs.Prelude.{Option, Result, slice_get, slice_index_or, slice_set}
use Rattle.std.proofs.lemmas.Bool.{cases_eq, cases_lt}
use Rattle.std.proofs.lemmas.List.{get_or_past, get_or-set_other, get_or-set_same, length-set}
use Rattle.std.proofs.lemmas.Option.{none-some, same_Some}
use Rattle.signing.specs.declared.letter.Head.{Head}
use Rattle.signing.specs.declared.verifier.Dropped.{Dropped}
use Rattle.signing.specs.Hearing.{Arrival, IsHearing}
use Rattle.signing.specs.Verifying.{behind, last_taken, IsNewer, IsSealed, IsAccepted, Judge, NamesSender, Opens}

-- a place of a list that has something
pub has-place : {A : Type 0} (xs : List (Option A)) (i : ℕ) (x : A) → slice_index_or xs i None ≡ Some x → i < length xs
has-place xs i x is = elim (cases_lt i (length xs)) [
  | inl less ↦ less
  | inr past ↦ absurd (none-some x (sym (get_or_past xs i None past) ∙ is))
]

-- each sender that has a key has a count
abbrev pub AreLevel : Judge → Type 0
AreLevel judge = length judge.taken ≡ length judge.keys

-- the same run and keys
pub record AreAkin (judge next : Judge) : Type 0 where
  pub run : next.run ≡ judge.run
  pub keys : next.keys ≡ judge.keys
  pub level : length next.taken ≡ length judge.taken

akin : (judge next : Judge) (letter : List ℕ) (answer : Result (List ℕ) Dropped) → Opens judge next letter answer → AreAkin judge next
akin judge next letter (Ok message) (h, taken, is) = record {
  run = ap (λ (j : Judge). j.run) is;
  keys = ap (λ (j : Judge). j.keys) is;
  level = ap (λ (j : Judge). length j.taken) is ∙ length-set judge.taken h.sender (Some h.count);
}
akin judge next letter (Err why) (dropped, is) = record {
  run = ap (λ (j : Judge). j.run) is;
  keys = ap (λ (j : Judge). j.keys) is;
  level = ap (λ (j : Judge). length j.taken) is;
}

still-sealed : (judge next : Judge) → AreAkin judge next → (h : Head) (message letter : List ℕ) → IsSealed next h message letter → IsSealed judge h message letter
still-sealed judge next same h message letter sealed = record {
  this_run = sealed.this_run ∙ same.run;
  key = sealed.key;
  has_key = ap (λ keys. slice_index_or keys h.sender None) (sym same.keys) ∙ sealed.has_key;
  is_sealed = sealed.is_sealed;
}

-- what is heard was taken
taken-of : (judge next : Judge) (now : Arrival) (message : List ℕ) → Opens judge next now.letter now.answer → now.answer ≡ Ok message
    → (h : Head) × IsAccepted judge h message now.letter × (next ≡ behind judge h)
taken-of judge next now message opens is = subst (Opens judge next now.letter) is opens

pub all-sealed : (arrivals : List Arrival) (judge : Judge) → IsHearing judge arrivals → (place : ℕ) (now : Arrival) (message : List ℕ)
    → slice_get arrivals place ≡ Some now → now.answer ≡ Ok message → (h : Head) × IsSealed judge h message now.letter × NamesSender message h.sender
all-sealed [] judge hearing place now message there is = absurd (none-some now there)
all-sealed (first ∷ later) judge (next, opens, rest) zero now message there is =
    let same = same_Some first now there in
    let taken = taken-of judge next now message (subst (λ (a : Arrival). Opens judge next a.letter a.answer) same opens) is in
    (taken.0, taken.1.is_sealed, taken.1.names)
all-sealed (first ∷ later) judge (next, opens, rest) (suc place) now message there is =
    let found = all-sealed later next rest place now message there is in
    (found.0, still-sealed judge next (akin judge next first.letter first.answer opens) found.0 message now.letter found.1, found.2)

-- the last count of a sender never falls
never-falls : (judge next : Judge) → AreLevel judge → (letter : List ℕ) (answer : Result (List ℕ) Dropped) → Opens judge next letter answer
    → (sender n : ℕ) → last_taken judge sender ≡ Some n → (m : ℕ) × (last_taken next sender ≡ Some m) × (n ≤ m)
never-falls judge next level letter (Err why) (dropped, is) sender n last = (n, ap (λ j. last_taken j sender) is ∙ last, omega arith)
never-falls judge next level letter (Ok message) (h, taken, is) sender n last = elim (cases_eq sender h.sender) [
  | inl same ↦
      (let place = has-place judge.keys h.sender taken.is_sealed.key taken.is_sealed.has_key in
      let within : h.sender < length judge.taken = omega (arith, place, level) in
      let newer : n < h.count = subst (λ o. IsNewer o h.count) (ap (last_taken judge) (sym same) ∙ last) taken.newer in (
        h.count,
        ap (λ j. last_taken j sender) is ∙ ap (λ s. slice_index_or (slice_set judge.taken h.sender (Some h.count)) s None) same
            ∙ get_or-set_same judge.taken h.sender (Some h.count) None within,
        omega (arith, newer),
      ))
  | inr other ↦
      (n, ap (λ j. last_taken j sender) is ∙ get_or-set_other judge.taken h.sender sender (Some h.count) None other ∙ last, omega arith)
]

-- what is heard behind a count has a greater one
later-newer : (arrivals : List Arrival) (judge : Judge) → AreLevel judge → IsHearing judge arrivals → (sender n : ℕ) → last_taken judge sender ≡ Some n
    → (place : ℕ) (now : Arrival) (message : List ℕ) → slice_get arrivals place ≡ Some now → now.answer ≡ Ok message
    → (h : Head) × IsSealed judge h message now.letter × (sender ≡ h.sender → n < h.count)
later-newer [] judge level hearing sender n last place now message there is = absurd (none-some now there)
later-newer (first ∷ later) judge level (next, opens, rest) sender n last zero now message there is =
    let same = same_Some first now there in
    let taken = taken-of judge next now message (subst (λ (a : Arrival). Opens judge next a.letter a.answer) same opens) is in (
      taken.0,
      taken.1.is_sealed,
      λ own. subst (λ o. IsNewer o taken.0.count) (ap (last_taken judge) (sym own) ∙ last) taken.1.newer,
    )
later-newer (first ∷ later) judge level (next, opens, rest) sender n last (suc place) now message there is =
    let kin = akin judge next first.letter first.answer opens in
    let risen = never-falls judge next level first.letter first.answer opens sender n last in
    let found = later-newer later next (kin.level ∙ level ∙ ap length (sym kin.keys)) rest sender risen.0 risen.1 place now message there is in
    let most = risen.2 in (
      found.0,
      still-sealed judge next kin found.0 message now.letter found.1,
      λ own. (let newer = found.2 own in omega (arith, newer, most)),
    )

pub rising : (arrivals : List Arrival) (judge : Judge) → AreLevel judge → IsHearing judge arrivals → (place other : ℕ) (now after : Arrival)
    (message next_message : List ℕ) → place < other → slice_get arrivals place ≡ Some now → now.answer ≡ Ok message
    → slice_get arrivals other ≡ Some after → after.answer ≡ Ok next_message
    → (h : Head) × (k : Head) × IsSealed judge h message now.letter × IsSealed judge k next_message after.letter × (h.sender ≡ k.sender → h.count < k.count)
rising [] judge level hearing place other now after message next_message less there is then_there then_is = absurd (none-some now there)
rising (first ∷ later) judge level hearing place zero now after message next_message less there is then_there then_is = absurd (omega (arith, less))
rising (first ∷ later) judge level (next, opens, rest) zero (suc other) now after message next_message less there is then_there then_is =
    let same = same_Some first now there in
    let taken = taken-of judge next now message (subst (λ (a : Arrival). Opens judge next a.letter a.answer) same opens) is in
    let h = taken.0 in
    let kin = akin judge next first.letter first.answer opens in
    let place = has-place judge.keys h.sender taken.1.is_sealed.key taken.1.is_sealed.has_key in
    let within : h.sender < length judge.taken = omega (arith, place, level) in
    let last : last_taken next h.sender ≡ Some h.count
    = ap (λ j. last_taken j h.sender) taken.2 ∙ get_or-set_same judge.taken h.sender (Some h.count) None within in
    let found = later-newer later next (kin.level ∙ level ∙ ap length (sym kin.keys)) rest h.sender h.count last other after next_message then_there then_is in (
      h,
      found.0,
      taken.1.is_sealed,
      still-sealed judge next kin found.0 next_message after.letter found.1,
      found.2,
    )
rising (first ∷ later) judge level (next, opens, rest) (suc place) (suc other) now after message next_message less there is then_there then_is =
    let kin = akin judge next first.letter first.answer opens in
    let found = rising later next (kin.level ∙ level ∙ ap length (sym kin.keys)) rest place other now after message next_message (omega (arith, less)) there is then_there then_is in (
      found.0,
      found.1,
      still-sealed judge next kin found.0 message now.letter found.2,
      still-sealed judge next kin found.1 next_message after.letter found.3,
      found.4,
    )
