-- The agents of entries, and what is ahead by the visit before.
use Rattle.std.proofs.Common.{◌≡◌, ℕ, suc, ◌+◌, List, [], ◌∷◌, length, get_or, map, Some, inl, inr, arith, refl, sym, ap, ◌∙◌}
use Rattle.std.specs.Prelude.{◌⊎◌, ◌==◌, if◌then◌else◌, slice_get}
use Rattle.std.proofs.lemmas.Bool.{cases_lt, cases_eq, cond-true, cond-false, eq-eqb, ne_eqb}
use Rattle.std.proofs.lemmas.List.{length-map}
use Rattle.model.specs.declared.visit.Visit.{Visit}
use Rattle.model.specs.Dependency.{following}
use Rattle.depgraph.specs.declared.waiting.Wait.{Wait}
use Rattle.depgraph.specs.Code.Turning.{agents_of}
use Rattle.depgraph.specs.Code.Waits.{no_wait, no_entry, entry_for, ahead_of}
use Rattle.depgraph.proofs.RingLemmas.{map-get, following-next, following-first}

-- what follows in a list of images
pub map-following : (f : ℕ → ℕ) (xs : List ℕ) (k y : ℕ) → following (map f xs) k ≡ Some y → (x : ℕ) × (following xs k ≡ Some x) × (f x ≡ y)
map-following f xs k y next =
    let long = length-map xs f in
    elim (cases_lt (k + 1) (length xs)) [
      | inl less ↦ (
          let found = map-get f xs (k + 1) y (sym (following-next (map f xs) k (omega (arith, less, long))) ∙ next) in
          (found.0, following-next xs k less ∙ found.1, found.2)
          )
      | inr past ↦ (
          let found = map-get f xs 0 y (sym (following-first (map f xs) k (omega (arith, past, long))) ∙ next) in
          (found.0, following-first xs k past ∙ found.1, found.2)
          )
    ]

-- where each waits for the agent of the next, those that are waited for are the agents of the entries
pub agents-map : (waits : List Wait) (owner : ℕ → ℕ) (i : ℕ) (entries : List ℕ) → ((first : ℕ) → slice_get entries 0 ≡ Some first → i ≡ owner first)
    → ((k e f : ℕ) → slice_get entries k ≡ Some e → slice_get entries (suc k) ≡ Some f → (get_or waits e no_wait).agent ≡ owner f) → agents_of waits i entries ≡ map owner entries
agents-map waits owner i [] begins waits_for = refl
agents-map waits owner i (e ∷ entries) begins waits_for =
    ap (λ j. j ∷ agents_of waits (get_or waits e no_wait).agent entries) (begins e refl)
    ∙ ap (λ l. owner e ∷ l) (agents-map waits owner (get_or waits e no_wait).agent entries (λ f there. waits_for 0 e f refl there) (λ k. waits_for (suc k)))

-- ---- what is ahead, by the visit before

pub ahead-there : (times ends : List ℕ) (own v : Visit) → (v.agent ≡ own.agent → ⊥) → get_or times (entry_for ends v + 1) 0 ≡ own.time → ahead_of times ends own (Some v) ≡ entry_for ends v + 1
ahead-there times ends own v other time =
    let next = entry_for ends v + 1 in
    cond-false (v.agent == own.agent) no_entry (if get_or times next 0 == own.time then next else no_entry) (ne_eqb v.agent own.agent other)
    ∙ cond-true (get_or times next 0 == own.time) next no_entry (eq-eqb (get_or times next 0) own.time time)

pub ahead-cases : (times ends : List ℕ) (own v : Visit)
    → (ahead_of times ends own (Some v) ≡ no_entry) ⊎ ((v.agent ≡ own.agent → ⊥) × (get_or times (entry_for ends v + 1) 0 ≡ own.time) × (ahead_of times ends own (Some v) ≡ entry_for ends v + 1))
ahead-cases times ends own v =
    let next = entry_for ends v + 1 in
    elim (cases_eq v.agent own.agent) [
      | inl same ↦ inl (cond-true (v.agent == own.agent) no_entry (if get_or times next 0 == own.time then next else no_entry) (eq-eqb v.agent own.agent same))
      | inr other ↦ elim (cases_eq (get_or times next 0) own.time) [
        | inl time ↦ inr (other, time, ahead-there times ends own v other time)
        | inr unlike ↦ inl (cond-false (v.agent == own.agent) no_entry (if get_or times next 0 == own.time then next else no_entry) (ne_eqb v.agent own.agent other)
            ∙ cond-false (get_or times next 0 == own.time) next no_entry (ne_eqb (get_or times next 0) own.time unlike))
      ]
    ]
