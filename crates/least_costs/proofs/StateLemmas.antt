-- Lists of states, and the slots of those that are closed.
use Rattle.std.proofs.Common.{◌≡◌, ◌≢◌, ◌∙◌, ℕ, ◌<◌, ◌≤◌, ◌⊎◌, ◌-◌, List, [], ◌∷◌, ◌++◌, reverse, length, get_or, Some, inl, inr, arith, refl, sym, ap, subst}
use Rattle.std.specs.Prelude.{slice_get, slice_set}
use Rattle.std.proofs.lemmas.Bool.{cases_order}
use Rattle.std.proofs.lemmas.List.{get_or-reverse, get_or-set_other, get_or-set_same, length-reverse, length-set}
use Rattle.std.proofs.lemmas.Option.{get_or_from_slice_get, none-some, slice_get-get_or, slice_get_read, slice_get_within}
use Rattle.grid.specs.declared.cell.Cell.{Cell}
use Rattle.least_costs.specs.declared.states.Slot.{Slot}
use Rattle.least_costs.specs.declared.states.State.{State}
use Rattle.least_costs.specs.Code.Slots.{AreSlots}
use Rattle.least_costs.specs.Code.States.{HasState}
use Rattle.least_costs.proofs.ListLemmas.{get-added, get-last, get-left}

pub none_has : (c : Cell) (t : ℕ) → HasState [] c t → ⊥
none_has c t is = none-some is.1 is.2

-- one more
pub has_more : (states : List State) (s : State) (c : Cell) (t : ℕ) → HasState states c t → HasState (states ++ s ∷ []) c t
has_more states s c t is = (is.0, is.1, get-left states s is.0 is.1 is.2, is.3, is.4)

pub has_last : (states : List State) (s : State) → HasState (states ++ s ∷ []) s.cell s.time
has_last states s = (length states, s, get-last states s, refl, refl)

-- each was there, or is in the last one
pub has_or_last : (states : List State) (s : State) (c : Cell) (t : ℕ) → HasState (states ++ s ∷ []) c t → HasState states c t ⊎ ((s.cell ≡ c) × (s.time ≡ t))
has_or_last states s c t is = elim (get-added states s is.0 is.1 is.2) [
  | inl same ↦ inr (ap (λ (it : State). it.cell) same ∙ is.3, ap (λ (it : State). it.time) same ∙ is.4)
  | inr old ↦ inl (is.0, is.1, old, is.3, is.4)
]

pub has_reversed : (states : List State) (c : Cell) (t : ℕ) → HasState states c t → HasState (reverse states) c t
has_reversed states c t is =
    let inside = slice_get_within states is.0 is.1 is.2 in
    let k = length states - 1 - is.0 in
    let less : k < length states = omega (arith, inside) in
    let back : length states - 1 - k ≡ is.0 = omega (arith, inside) in
    let count : k < length (reverse states) = subst (λ n. k < n) (sym (length-reverse states)) less in (
      k,
      is.1,
      slice_get-get_or (reverse states) k is.1 count
          ∙ ap Some (get_or-reverse states k is.1 less ∙ ap (λ j. get_or states j is.1) back ∙ get_or_from_slice_get states is.0 is.1 is.1 is.2),
      is.3,
      is.4,
    )

-- ---- slots

-- another turn begins
pub fresh_turn : (turn : ℕ) (slots : List Slot) → ((k : ℕ) (s : Slot) → slice_get slots k ≡ Some s → s.turn < turn) → AreSlots turn slots []
fresh_turn turn slots less = record {
  most = λ k s is. (let h = less k s is in omega (arith, h));
  held = λ k s is same. absurd (let h = less k s is in omega (arith, h, same));
}

pub slots_more : (turn : ℕ) (slots : List Slot) (states : List State) (s : State) → AreSlots turn slots states → AreSlots turn slots (states ++ s ∷ [])
slots_more turn slots states s are = record {
  most = are.most;
  held = λ k slot is same. has_more states s slot.cell slot.time (are.held k slot is same);
}

-- one slot is taken
slot_added : (slots : List Slot) (at : ℕ) (v : Slot) (k : ℕ) (s : Slot) → slice_get (slice_set slots at v) k ≡ Some s → (v ≡ s) ⊎ (slice_get slots k ≡ Some s)
slot_added slots at v k s is = elim (cases_order k at) [
  | inl same ↦ inl (sym (get_or-set_same slots at v s (subst (λ i. i < length slots) same within)) ∙ ap (λ i. get_or (slice_set slots at v) i s) (sym same) ∙ read)
  | inr other ↦ inr (slice_get_read slots (length slots) k s refl within (sym read ∙ get_or-set_other slots at k v s (differ k at other)))
]
  where
    within : k < length slots
    within = subst (λ n. k < n) (length-set slots at v) (slice_get_within (slice_set slots at v) k s is)

    read : get_or (slice_set slots at v) k s ≡ s
    read = get_or_from_slice_get (slice_set slots at v) k s s is

    differ : (i j : ℕ) → (i < j) ⊎ (j < i) → i ≢ j
    differ i j (inl less) same = omega (arith, less, same)
    differ i j (inr more) same = omega (arith, more, same)

pub slot_put : (turn : ℕ) (slots : List Slot) (states : List State) (at : ℕ) (v : Slot) → v.turn ≡ turn → HasState states v.cell v.time → AreSlots turn slots states
    → AreSlots turn (slice_set slots at v) states
slot_put turn slots states at v now has are = record {
  most = λ k s is. elim (slot_added slots at v k s is) [
    | inl same ↦ subst (λ (it : Slot). it.turn ≤ turn) same (let e = now in omega (arith, e))
    | inr old ↦ are.most k s old
  ];
  held = λ k s is same. elim (slot_added slots at v k s is) [
    | inl new ↦ subst (λ (it : Slot). HasState states it.cell it.time) new has
    | inr old ↦ are.held k s old same
  ];
}

-- none is taken yet
pub no_slots : (slots : List Slot) (states : List State) → ((k : ℕ) (s : Slot) → slice_get slots k ≡ Some s → s.turn ≡ 0) → AreSlots 1 slots states
no_slots slots states none = record {
  most = λ k s is. (let e = none k s is in omega (arith, e));
  held = λ k s is same. absurd (let e = none k s is in omega (arith, e, same));
}
