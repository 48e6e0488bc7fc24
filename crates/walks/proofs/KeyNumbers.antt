-- The numbers of keys tell the lengths that they were made of.
use Rattle.std.proofs.Common.{◌≡◌, ℕ, ◌+◌, ◌-◌, ◌*◌, ◌/◌, ◌%◌, ◌^◌, ◌<◌, ◌≤◌, Bool, true, false, Some, None, inl, inr, arith, refl, sym, ap, subst, ◌∙◌}
use Rattle.std.specs.Prelude.{Option, ◌⊎◌, ◌&&◌, nat_lt, nat_le}
use Rattle.std.specs.Coded.{le_prop}
use Rattle.std.proofs.lemmas.Bool.{and_from, lt-ltb, leb-true, le-leb, cond-true}
use Rattle.std.proofs.lemmas.Nat.{mod-mul-add}
use Rattle.std.proofs.Math.Nat.{add-mul-mod_self_right}
use Rattle.scenario.specs.declared.length.Length.{Length}
use Rattle.walks.specs.Code.KeyParts.{diagonal_in, straight_in, IsKey, number_of_entry, tested_length, length_of_parts, length_of_number}

-- ---- the parts are read back

diagonal_read : (s d : ℕ) → d ≤ 4194304 → diagonal_in ((s + 1) * 6625109 + d * 9369319) ≡ d
unfolding diagonal_in
diagonal_read s d small =
    let v : ℕ = (s + 1) * 6625109 + d * 9369319 in
    let r : ℕ = v % 6625109 in
    let q : ℕ = v / 6625109 in
    let whole : r * 3880899 + q * 3880899 * 6625109 ≡ ((s + 1) * 3880899 + d * 5488420) * 6625109 + d = omega arith in
    sym (add-mul-mod_self_right (r * 3880899) (q * 3880899) 6625109)
    ∙ ap (λ n. n % 6625109) whole ∙ mod-mul-add ((s + 1) * 3880899 + d * 5488420) 6625109 d (omega (arith, small))

straight_read : (s d : ℕ) → d ≤ 4194304 → straight_in ((s + 1) * 6625109 + d * 9369319) ≡ s
unfolding straight_in
straight_read s d small =
    let e = diagonal_read s d small in
    let v : ℕ = (s + 1) * 6625109 + d * 9369319 in
    let rest : v - diagonal_in v * 9369319 ≡ (s + 1) * 6625109 = omega (arith, e) in
    ap (λ n. n / 6625109 - 1) rest ∙ omega arith

pub key_of_parts : (s d : ℕ) → s ≤ 4194304 → d ≤ 4194304 → IsKey ((s + 1) * 6625109 + d * 9369319)
key_of_parts s d across aslant =
    let e = straight_read s d aslant in
    let f = diagonal_read s d aslant in
    record {
      spelled = omega (arith, e, f);
      straight_limit = omega (arith, e, across);
      diagonal_limit = omega (arith, f, aslant);
    }

-- ---- a step more

pub straight_step : (v : ℕ) → IsKey v → v < 4194304 * 6625109 → IsKey (v + 6625109)
straight_step v is less =
    let e = is.spelled in
    subst IsKey (omega (arith, e)) (key_of_parts (straight_in v + 1) (diagonal_in v) (omega (arith, e, less)) is.diagonal_limit)

pub diagonal_step : (v : ℕ) → IsKey v → v < 4194304 * 6625109 → IsKey (v + 9369319)
diagonal_step v is less =
    let e = is.spelled in
    subst IsKey (omega (arith, e)) (key_of_parts (straight_in v) (diagonal_in v + 1) is.straight_limit (omega (arith, e, less)))

-- ---- entries and their numbers

pub number_of_length : (l : Length) → IsKey (number_of_entry (Some l))
number_of_length l = key_of_parts l.straight l.diagonal l.straight_limit l.diagonal_limit

parts_back : (s d : ℕ) (b c : Bool) (e : nat_le s 4194304 ≡ b) (f : nat_le d 4194304 ≡ c) → b ≡ true → c ≡ true
    → number_of_entry (tested_length s d b c e f) ≡ (s + 1) * 6625109 + d * 9369319
parts_back s d true true e f g h = refl
parts_back s d true false e f g h = cc
parts_back s d false c e f g h = cc

pub within_limits : (v : ℕ) → 0 < v → v < 2 ^ 62 → (nat_lt 0 v && nat_lt v (2 ^ 62)) ≡ true
within_limits v some small = and_from (nat_lt 0 v) (nat_lt v (2 ^ 62)) (lt-ltb 0 v some) (lt-ltb v (2 ^ 62) small)

pub number_back : (v : ℕ) → IsKey v → 0 < v → v < 2 ^ 62 → number_of_entry (length_of_number v) ≡ v
unfolding length_of_number length_of_parts
number_back v is some small =
    ap number_of_entry (cond-true (nat_lt 0 v && nat_lt v (2 ^ 62)) _ _ (within_limits v some small))
    ∙ parts_back (straight_in v) (diagonal_in v) (nat_le (straight_in v) 4194304) (nat_le (diagonal_in v) 4194304) refl refl
    (le-leb _ _ is.straight_limit) (le-leb _ _ is.diagonal_limit) ∙ sym is.spelled

-- two lengths of the same parts are one
pub same_length : (l m : Length) → l.straight ≡ m.straight → l.diagonal ≡ m.diagonal → l ≡ m
same_length l m e f =
    let Made : (s d : ℕ) → s ≤ 4194304 → d ≤ 4194304 → Length = λ s d a b. record { straight = s; diagonal = d; straight_limit = a; diagonal_limit = b } in
    let Across : ℕ → Type 0 = λ s. (a : s ≤ 4194304) → l ≡ Made s l.diagonal a l.diagonal_limit in
    let Aslant : ℕ → Type 0 = λ d. (b : d ≤ 4194304) → l ≡ Made m.straight d m.straight_limit b in
    subst Aslant f
    (λ b. subst Across e (λ a. ap (λ h. Made l.straight l.diagonal h l.diagonal_limit) (le_prop l.straight_limit a)) m.straight_limit
    ∙ ap (λ h. Made m.straight l.diagonal m.straight_limit h) (le_prop l.diagonal_limit b)) m.diagonal_limit

parts_as : (s d : ℕ) (b c : Bool) (e : nat_le s 4194304 ≡ b) (f : nat_le d 4194304 ≡ c) (l : Length) → b ≡ true → c ≡ true → l.straight ≡ s → l.diagonal ≡ d
    → tested_length s d b c e f ≡ Some l
parts_as s d true true e f l g h p q =
    ap Some (same_length (record { straight = s; diagonal = d; straight_limit = leb-true s 4194304 e; diagonal_limit = leb-true d 4194304 f }) l (sym p) (sym q))
parts_as s d true false e f l g h p q = cc
parts_as s d false c e f l g h p q = cc

pub parts_length : (s d : ℕ) (l : Length) → l.straight ≡ s → l.diagonal ≡ d → length_of_parts s d ≡ Some l
unfolding length_of_parts
parts_length s d l p q =
    let across = l.straight_limit in
    let aslant = l.diagonal_limit in
    parts_as s d (nat_le s 4194304) (nat_le d 4194304) refl refl l (le-leb s 4194304 (omega (arith, across, p))) (le-leb d 4194304 (omega (arith, aslant, q))) p q

pub length_of_none : (v : ℕ) → (v ≡ 0) ⊎ (v ≡ 2 ^ 62) → length_of_number v ≡ None
unfolding length_of_number
length_of_none v (inl e) = ap length_of_number e
length_of_none v (inr e) = ap length_of_number e

pub length_of_some : (v : ℕ) (l : Length) → 0 < v → v < 2 ^ 62 → l.straight ≡ straight_in v → l.diagonal ≡ diagonal_in v → length_of_number v ≡ Some l
unfolding length_of_number
length_of_some v l some small p q =
    cond-true (nat_lt 0 v && nat_lt v (2 ^ 62)) _ _ (within_limits v some small) ∙ parts_length (straight_in v) (diagonal_in v) l p q

-- the length of an entry's number is the entry
pub length_back : (e : Option Length) → length_of_number (number_of_entry e) ≡ e
length_back None = length_of_none (2 ^ 62) (inr refl)
length_back (Some l) =
    let across = l.straight_limit in
    let aslant = l.diagonal_limit in
    length_of_some ((l.straight + 1) * 6625109 + l.diagonal * 9369319) l (omega arith) (omega (arith, across, aslant))
    (sym (straight_read l.straight l.diagonal aslant)) (sym (diagonal_read l.straight l.diagonal aslant))

pub entry_most : (e : Option Length) → number_of_entry e ≤ 2 ^ 62
entry_most None = omega arith
entry_most (Some l) = let across = l.straight_limit in let aslant = l.diagonal_limit in omega (arith, across, aslant)

pub entry_key : (e : Option Length) → number_of_entry e < 2 ^ 62 → IsKey (number_of_entry e)
entry_key None less = absurd (omega (arith, less))
entry_key (Some l) less = number_of_length l
