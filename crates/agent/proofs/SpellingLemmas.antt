-- Entries and the bytes that spell them.
use Rattle.std.proofs.Common.{◌≡◌, ℕ, zero, suc, ◌+◌, ◌*◌, ◌/◌, ◌-◌, ◌<◌, ◌≤◌, Bool, true, false, List, [], ◌∷◌, length, get_or, take, drop, Some, None, inl, inr, arith, refl, sym, ap, ◌∙◌}
use Rattle.std.specs.Prelude.{◌==◌, ◌||◌, nat_lt, Option, slice_get}
use Rattle.std.proofs.lemmas.List.{get_or-drop, get_or-take, drop_more, drop_all}
use Rattle.std.proofs.lemmas.Option.{get_or_from_slice_get, same_Some, none-some}
use Rattle.std.proofs.lemmas.Bool.{cases_Bool, cond-true, cond-false, ltb-false, true≢false}
use Rattle.std.proofs.lemmas.Bool.Decides.{nat_tests}
use Rattle.model.specs.declared.entry.Entry.{Entry}
use Rattle.model.specs.Messages.{AreRising}
use Rattle.agent.specs.Decoding.{pair_value, entries_in, wrong_entry}

-- ---- an entry in the bytes of many

pub count-in : (bytes : List ℕ) → length (entries_in bytes) ≡ length bytes / 6
count-in (a0 ∷ a1 ∷ d0 ∷ d1 ∷ d2 ∷ d3 ∷ bytes) = (let rest = count-in bytes in omega (arith, rest))
count-in _ = refl

-- what six bytes from a place on spell
abbrev pub entry_from : List ℕ → ℕ → Entry
entry_from bytes i = record {
  agent = pair_value (get_or bytes i 0) (get_or bytes (i + 1) 0);
  done = 65536 * pair_value (get_or bytes (i + 2) 0) (get_or bytes (i + 3) 0) + pair_value (get_or bytes (i + 4) 0) (get_or bytes (i + 5) 0);
}

-- six places on in a list with six bytes more in front
six_on : (front bytes : List ℕ) (k i : ℕ) → drop 6 front ≡ bytes → i ≡ 6 + k → get_or bytes k 0 ≡ get_or front i 0
six_on front bytes k i same place = ap (λ l. get_or l k 0) (sym same) ∙ get_or-drop 6 front k 0 ∙ ap (λ n. get_or front n 0) (sym place)

later_entry : (front bytes : List ℕ) (n : ℕ) → drop 6 front ≡ bytes → entry_from bytes (6 * n) ≡ entry_from front (6 * suc n)
later_entry front bytes n same =
    let e0 = six_on front bytes (6 * n) (6 * suc n) same (omega arith) in
    let e1 = six_on front bytes (6 * n + 1) (6 * suc n + 1) same (omega arith) in
    let e2 = six_on front bytes (6 * n + 2) (6 * suc n + 2) same (omega arith) in
    let e3 = six_on front bytes (6 * n + 3) (6 * suc n + 3) same (omega arith) in
    let e4 = six_on front bytes (6 * n + 4) (6 * suc n + 4) same (omega arith) in
    let e5 = six_on front bytes (6 * n + 5) (6 * suc n + 5) same (omega arith) in
    cc

pub entry-at : (bytes : List ℕ) (at : ℕ) → at < length (entries_in bytes) → slice_get (entries_in bytes) at ≡ Some (entry_from bytes (6 * at))
entry-at (a0 ∷ a1 ∷ d0 ∷ d1 ∷ d2 ∷ d3 ∷ bytes) zero less = refl
entry-at (a0 ∷ a1 ∷ d0 ∷ d1 ∷ d2 ∷ d3 ∷ bytes) (suc n) less =
    entry-at bytes n (omega (arith, less))
    ∙ ap {A = Entry} {B = Option Entry} (λ e. Some e) (later_entry (a0 ∷ a1 ∷ d0 ∷ d1 ∷ d2 ∷ d3 ∷ bytes) bytes n refl)
entry-at _ at less = absurd (omega (arith, less))

-- ---- the first wrong entry

-- where the entry at a place is right, what is wrong comes behind it
pub wrong-later : (es : List Entry) (at least : ℕ) (entry : Entry) → slice_get es at ≡ Some entry → at < length es → (entry.done ≡ 0 → ⊥) → least ≤ entry.agent
    → wrong_entry at least (drop at es) ≡ wrong_entry (at + 1) (entry.agent + 1) (drop (at + 1) es)
wrong-later es at least entry there less above most =
    ap (wrong_entry at least) (drop_more es at entry less ∙ ap (λ e. e ∷ drop (at + 1) es) (get_or_from_slice_get es at entry entry there))
    ∙ cond-false ((entry.done == 0) || nat_lt entry.agent least) (Some at) (wrong_entry (at + 1) (entry.agent + 1) (drop (at + 1) es)) (grind (arith, nat_tests, above, most))

-- where it isn't, it is the first
pub wrong-here : (es : List Entry) (at least : ℕ) (entry : Entry) → slice_get es at ≡ Some entry → at < length es → ((entry.done == 0) || nat_lt entry.agent least) ≡ true
    → wrong_entry at least (drop at es) ≡ Some at
wrong-here es at least entry there less wrong =
    ap (wrong_entry at least) (drop_more es at entry less ∙ ap (λ e. e ∷ drop (at + 1) es) (get_or_from_slice_get es at entry entry there))
    ∙ cond-true ((entry.done == 0) || nat_lt entry.agent least) (Some at) (wrong_entry (at + 1) (entry.agent + 1) (drop (at + 1) es)) wrong

pub none-wrong : (es : List Entry) (at least : ℕ) → length es ≤ at → wrong_entry at least (drop at es) ≡ None
none-wrong es at least past = ap (wrong_entry at least) (drop_all at es past)

right_agent : (agent least : ℕ) (b : Bool) → (b || nat_lt agent least) ≡ false → least ≤ agent
right_agent agent least true h = absurd (true≢false h)
right_agent agent least false h = ltb-false agent least h

right_number : (done : ℕ) (b : Bool) → ((done == 0) || b) ≡ false → 0 < done
right_number done b h = grind (arith, nat_tests)

right_test : (done agent least : ℕ) → 0 < done → least ≤ agent → ((done == 0) || nat_lt agent least) ≡ false
right_test done agent least above most = grind (arith, nat_tests)

-- entries of which none is wrong rise
pub rising-of : (number least : ℕ) (es : List Entry) → wrong_entry number least es ≡ None → AreRising least es
rising-of number least [] none = tt
rising-of number least (e ∷ es) none = elim (cases_Bool ((e.done == 0) || nat_lt e.agent least)) [
  | inl wrong ↦ absurd (none-some number (sym none ∙ cond-true ((e.done == 0) || nat_lt e.agent least) (Some number) (wrong_entry (number + 1) (e.agent + 1) es) wrong))
  | inr right ↦ (
    right_agent e.agent least (e.done == 0) right,
    right_number e.done (nat_lt e.agent least) right,
    rising-of (number + 1) (e.agent + 1) es (sym (cond-false ((e.done == 0) || nat_lt e.agent least) (Some number) (wrong_entry (number + 1) (e.agent + 1) es) right) ∙ none),
  )
]

-- and of those that rise none is wrong
pub none-of : (number least : ℕ) (es : List Entry) → AreRising least es → wrong_entry number least es ≡ None
none-of number least [] rising = refl
none-of number least (e ∷ es) rising =
    cond-false ((e.done == 0) || nat_lt e.agent least) (Some number) (wrong_entry (number + 1) (e.agent + 1) es) (right_test e.done e.agent least rising.1 rising.0)
    ∙ none-of (number + 1) (e.agent + 1) es rising.2

-- the first wrong one is the first with which they don't rise
abbrev pub FirstAt : ℕ → ℕ → List Entry → ℕ → Type 0
FirstAt number least es n = (e : ℕ) × (n ≡ number + e) × AreRising least (take e es) × (AreRising least (take (suc e) es) → ⊥)

pub first-of : (number least : ℕ) (es : List Entry) (n : ℕ) → wrong_entry number least es ≡ Some n → FirstAt number least es n
first-of number least [] n wrong = absurd (none-some n wrong)
first-of number least (e ∷ es) n found = elim (cases_Bool ((e.done == 0) || nat_lt e.agent least)) [
  | inl wrong ↦
      let same = same_Some number n (sym (cond-true ((e.done == 0) || nat_lt e.agent least) (Some number) (wrong_entry (number + 1) (e.agent + 1) es) wrong) ∙ found) in
      (0, omega (arith, same), tt, λ rising. true≢false (sym wrong ∙ right_test e.done e.agent least rising.1 rising.0))
  | inr right ↦
      let later = first-of (number + 1) (e.agent + 1) es n (sym (cond-false ((e.done == 0) || nat_lt e.agent least) (Some number) (wrong_entry (number + 1) (e.agent + 1) es) right) ∙ found) in
      let place = later.1 in (
        suc later.0,
        omega (arith, place),
        (right_agent e.agent least (e.done == 0) right, right_number e.done (nat_lt e.agent least) right, later.2),
        λ rising. later.3 rising.2,
      )
]

-- a byte of the part of a list that an entry takes
pub part-at : (bytes : List ℕ) (at k i : ℕ) → k < 6 → i ≡ 6 * at + k → get_or (take (6 * at + 6 - 6 * at) (drop (6 * at) bytes)) k 0 ≡ get_or bytes i 0
part-at bytes at k i less place =
    get_or-take (6 * at + 6 - 6 * at) (drop (6 * at) bytes) k 0 (omega (arith, less)) ∙ get_or-drop (6 * at) bytes k 0 ∙ ap (λ n. get_or bytes n 0) (sym place)
