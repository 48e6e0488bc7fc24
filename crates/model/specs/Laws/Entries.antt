-- The entries of agents one after another.
use Rattle.std.proofs.Common.{◌≡◌, ℕ, zero, suc, ◌+◌, ◌<◌, ◌≤◌, eqb, List, [], ◌∷◌}
use Rattle.std.proofs.Common.{length, max, Some, inl, inr, arith, refl, sym, ap, subst, ◌∙◌}
use Rattle.std.specs.Prelude.{slice_get}
use Rattle.std.proofs.lemmas.Bool.{cases_Bool, cases_lt, cond-true, cond-false, cond_both}
use Rattle.std.proofs.lemmas.Bool.{eq-eqb, ne_eqb, eqb-true, eqb-false}
use Rattle.std.proofs.lemmas.Option.{same_Some, none-some}
use Rattle.model.specs.declared.entry.Entry.{Entry}
use Rattle.model.specs.Messages.{told_by, entries_from, AreRising}

abbrev entry_made : (ℕ → ℕ) → ℕ → Entry
entry_made number j = record { agent = j; done = number j }

-- what rises from an agent rises from each before it
pub rising-lower
    : (least lower : ℕ) (es : List Entry) → lower ≤ least → AreRising least es → AreRising lower es
rising-lower least lower [] most rising = tt
rising-lower least lower (e ∷ es) most rising = (omega (arith, most, rising.0), rising.1, rising.2)

pub entries-rising
    : (number : ℕ → ℕ) (first count : ℕ) → AreRising first (entries_from number first count)
entries-rising number first zero = tt
entries-rising number first (suc count) =
    let rest = entries-rising number (first + 1) count in
    elim (cases_Bool (eqb (number first) 0)) [
      | inl none ↦ subst (AreRising first) (sym (cond-true (eqb (number first) 0) _ _ none))
          (rising-lower (first + 1) first _ (omega arith) rest)
      | inr some ↦ subst (AreRising first) (sym (cond-false (eqb (number first) 0) _ _ some))
          (omega arith, (let above = eqb-false (number first) 0 some in omega (arith, above)), rest)
    ]

abbrev IsOwnEntry : (ℕ → ℕ) → ℕ → ℕ → Entry → Type 0
IsOwnEntry number first count e =
    (first ≤ e.agent) × (e.agent < first + count) × (e.done ≡ number e.agent)

abbrev AreOwn : (ℕ → ℕ) → ℕ → ℕ → List Entry → Type 0
AreOwn number first count es =
    (n : ℕ) (e : Entry) → slice_get es n ≡ Some e → IsOwnEntry number first count e

own_later : (number : ℕ → ℕ) (first count : ℕ) (es : List Entry)
    → AreOwn number (first + 1) count es → AreOwn number first (suc count) es
own_later number first count es all n e there =
    let own = all n e there in (omega (arith, own.0), omega (arith, own.1), own.2)

own_first : (number : ℕ → ℕ) (first count : ℕ) (es : List Entry)
    → AreOwn number first (suc count) es
    → AreOwn number first (suc count) (entry_made number first ∷ es)
own_first number first count es all zero e there =
    subst (IsOwnEntry number first (suc count)) (same_Some (entry_made number first) e there)
    (omega arith, omega arith, refl)
own_first number first count es all (suc n) e there = all n e there

pub entries-own : (number : ℕ → ℕ) (first count : ℕ)
    → AreOwn number first count (entries_from number first count)
entries-own number first zero = λ n e there. absurd (none-some e there)
entries-own number first (suc count) = (
    let rest = own_later number first count (entries_from number (first + 1) count)
    (entries-own number (first + 1) count) in
    cond_both (eqb (number first) 0) (entries_from number (first + 1) count)
    (entry_made number first ∷ entries_from number (first + 1) count)
    (AreOwn number first (suc count)) (λ none. rest) (λ some. own_first number first count _ rest)
    )

-- of an agent before the first nothing is told
told-before : (number : ℕ → ℕ) (first count j : ℕ) → j < first
    → told_by (entries_from number first count) j ≡ 0
told-before number first zero j less = refl
told-before number first (suc count) j less =
    let rest = entries_from number (first + 1) count in
    let others = told-before number (first + 1) count j (omega (arith, less)) in
    cond_both (eqb (number first) 0) rest (entry_made number first ∷ rest) (λ es. told_by es j ≡ 0)
    (λ none. others)
    (λ some. cond-false (eqb first j) (max (number first) (told_by rest j)) (told_by rest j)
    (ne_eqb first j (λ e. omega (arith, e, less))) ∙ others)

pub entries-told : (number : ℕ → ℕ) (first count j : ℕ) → first ≤ j → j < first + count
    → told_by (entries_from number first count) j ≡ number j
entries-told number first zero j least most = absurd (omega (arith, least, most))
entries-told number first (suc count) j least most =
    let rest = entries_from number (first + 1) count in
    elim (cases_lt first j) [
      | inl less ↦ (
          let others = entries-told number (first + 1) count j (omega (arith, less))
          (omega (arith, most)) in
          cond_both (eqb (number first) 0) rest (entry_made number first ∷ rest)
          (λ es. told_by es j ≡ number j)
          (λ none. others)
          (λ some. cond-false (eqb first j) (max (number first) (told_by rest j)) (told_by rest j)
          (ne_eqb first j (λ e. omega (arith, e, less))) ∙ others)
          )
      | inr not_less ↦ (
          let here : first ≡ j = omega (arith, least, not_less) in
          let past = told-before number (first + 1) count j (omega (arith, here)) in
          cond_both (eqb (number first) 0) rest (entry_made number first ∷ rest)
          (λ es. told_by es j ≡ number j)
          (λ none. past ∙ sym (eqb-true (number first) 0 none) ∙ ap number here)
          (λ some. cond-true (eqb first j) (max (number first) (told_by rest j)) (told_by rest j)
          (eq-eqb first j here)
          ∙ (let same = ap number here in omega (arith, past, same)))
          )
    ]

pub entries-few
    : (number : ℕ → ℕ) (first count : ℕ) → length (entries_from number first count) ≤ count
entries-few number first zero = omega arith
entries-few number first (suc count) =
    let rest = entries-few number (first + 1) count in
    cond_both (eqb (number first) 0) (entries_from number (first + 1) count)
    (entry_made number first ∷ entries_from number (first + 1) count)
    (λ es. length es ≤ suc count) (λ none. omega (arith, rest)) (λ some. omega (arith, rest))
