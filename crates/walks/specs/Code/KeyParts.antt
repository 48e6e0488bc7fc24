-- Lengths as single numbers: 6625109 for a straight step, of which there is one more, and 9369319
-- for a diagonal one.
use Rattle.std.specs.Prelude.{◌≡◌, ℕ, ◌+◌, ◌-◌, ◌*◌, ◌/◌, ◌%◌}
use Rattle.std.specs.Prelude.{◌^◌, ◌≤◌, Bool, true, false, ◌&&◌, if◌then◌else◌}
use Rattle.std.specs.Prelude.{nat_lt, nat_le, Option, Some, None, refl}
use Rattle.std.proofs.lemmas.Bool.{leb-true}
use Rattle.scenario.specs.declared.length.Length.{Length}

-- the diagonal steps that a number tells of: 9369319 * 3880899 is 1 above a multiple of 6625109
unfoldable pub diagonal_in : ℕ → ℕ
diagonal_in v = v % 6625109 * 3880899 % 6625109

-- the straight steps that it tells of
unfoldable pub straight_in : ℕ → ℕ
straight_in v = (v - diagonal_in v * 9369319) / 6625109 - 1

-- it is the number of a length
pub record IsKey (v : ℕ) : Type 0 where
  pub spelled : v ≡ (straight_in v + 1) * 6625109 + diagonal_in v * 9369319
  pub straight_limit : straight_in v ≤ 4194304
  pub diagonal_limit : diagonal_in v ≤ 4194304

-- an entry as a number: those of lengths are ordered as the lengths are, and no length has one near
-- that of none
abbrev pub number_of_entry : Option Length → ℕ
number_of_entry None = 2 ^ 62
number_of_entry (Some l) = (l.straight + 1) * 6625109 + l.diagonal * 9369319

-- the length with these parts, by the tests of their limits
abbrev pub tested_length
    : (s d : ℕ) (b c : Bool) → nat_le s 4194304 ≡ b → nat_le d 4194304 ≡ c → Option Length
tested_length s d true true e f =
    Some (record {
      straight = s;
      diagonal = d;
      straight_limit = leb-true s 4194304 e;
      diagonal_limit = leb-true d 4194304 f;
    })
tested_length s d true false e f = None
tested_length s d false c e f = None

-- the length with these parts, if they are within the limits
unfoldable pub length_of_parts : (s d : ℕ) → Option Length
length_of_parts s d = tested_length s d (nat_le s 4194304) (nat_le d 4194304) refl refl

-- the length of a number
unfoldable pub length_of_number : ℕ → Option Length
length_of_number v =
    if nat_lt 0 v && nat_lt v (2 ^ 62) then length_of_parts (straight_in v)
    (diagonal_in v) else None

-- the lesser of two numbers, where the first is not that of a closed cell
abbrev pub number_within : (beyond v : ℕ) → ℕ
number_within beyond v = if nat_lt 0 v && nat_lt v beyond then v else beyond

-- the length of a number, if it is less than another one
abbrev pub entry_within : Option Length → ℕ → Option Length
entry_within beyond v =
    if nat_lt 0 v && nat_lt v (number_of_entry beyond) then length_of_number v else beyond
