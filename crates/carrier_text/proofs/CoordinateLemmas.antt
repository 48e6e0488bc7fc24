-- Numbers with a space behind each are read in one way.
use Rattle.std.proofs.Common.{◌≡◌, ◌≢◌, ℕ, zero, suc, ◌+◌, ◌^◌, ◌<◌, ◌≤◌, List, [], ◌∷◌, ◌++◌, length, take, drop, get_or, refl, sym, ap, subst, ◌∙◌, arith, length-append}
use Rattle.std.specs.Prelude.{decimal, not, ◌==◌, Some}
use Rattle.std.specs.List.{list_all}
use Rattle.std.proofs.lemmas.Bool.{and_parts, not-true, eqb-false, eqb-true, eq-eqb}
use Rattle.std.proofs.Math.Seq.{get_or-append_seam}
use Rattle.memchr.specs.Find.{Nowhere, NoneBefore, Passes, is_byte}
use Rattle.std.specs.Str.Parse.{digits_value}
use Rattle.text_io.specs.Text.{space, is_line_byte, is_part_byte, IsPart}
use Rattle.text_io.specs.Numerals.{numeral_below}
use Rattle.text_io.specs.Laws.Numerals.{decimal-IsNumeral, decimal-from_IsNumeral, below-found, below-says}
use Rattle.text_io.specs.Laws.Parts.{decimal-is_part, about}
use Rattle.carrier_text.specs.Code.Coordinates.{IsSmallNumber}

-- ---- bytes without a space

pub HasNoSpace : List ℕ → Type 0
HasNoSpace [] = Unit {0}
HasNoSpace (b ∷ bytes) = (b ≢ space) × HasNoSpace bytes

-- what stands before the first space, and what behind it
split_same : (x y a b : List ℕ) → HasNoSpace x → HasNoSpace y → x ++ space ∷ a ≡ y ++ space ∷ b → (x ≡ y) × (a ≡ b)
unfolding HasNoSpace
split_same [] [] a b h k e = (refl, cc)
split_same [] (d ∷ y) a b h k e = absurd (k.0 (cc))
split_same (c ∷ x) [] a b h k e = absurd (h.0 (cc))
split_same (c ∷ x) (d ∷ y) a b h k e =
    let first : c ≡ d = cc in
    let behind : x ++ space ∷ a ≡ y ++ space ∷ b = cc in
    let same = split_same x y a b h.1 k.1 behind in
    (ap (λ l. c ∷ l) same.0 ∙ ap (λ f. f ∷ y) first, same.1)

no_space-part : (bytes : List ℕ) → IsPart bytes → HasNoSpace bytes
unfolding HasNoSpace
no_space-part [] h = tt
no_space-part (b ∷ bytes) h =
    let parts = and_parts (is_part_byte b) (list_all is_part_byte bytes) h in
    let byte = and_parts (not (b == space)) (is_line_byte b) parts.0 in
    (eqb-false b space (not-true (b == space) byte.0), no_space-part bytes parts.1)

no_space-take : (bytes : List ℕ) (i : ℕ) → i ≤ length bytes → ((k : ℕ) → k < i → get_or bytes k 0 ≢ space) → HasNoSpace (take i bytes)
unfolding HasNoSpace
no_space-take bytes zero within none = tt
no_space-take [] (suc i) within none = absurd (omega arith)
no_space-take (b ∷ bytes) (suc i) within none = (none 0 (omega arith), no_space-take bytes i (omega arith) (λ k below. none (suc k) (omega arith)))

-- ---- numbers

pub decimal-same : (m n : ℕ) → m < 2 ^ 16 → n < 2 ^ 16 → decimal m ≡ decimal n → m ≡ n
decimal-same m n small little e =
    sym (decimal-IsNumeral m (omega arith)).spells.2 ∙ (ap (digits_value 10) e ∙ (decimal-IsNumeral n (omega arith)).spells.2)

no_space-decimal : (n : ℕ) → n < 2 ^ 16 → HasNoSpace (decimal n)
no_space-decimal n small = no_space-part (decimal n) (decimal-is_part n (omega arith))

pub number_split : (m n : ℕ) (a b : List ℕ) → m < 2 ^ 16 → n < 2 ^ 16 → decimal m ++ space ∷ a ≡ decimal n ++ space ∷ b → (m ≡ n) × (a ≡ b)
number_split m n a b small little e =
    let same = split_same (decimal m) (decimal n) a b (no_space-decimal m small) (no_space-decimal n little) e in
    (decimal-same m n small little same.0, same.1)

-- bytes without a space begin with no number that a space ends
pub no_number_leads : (bytes rest : List ℕ) (n : ℕ) → bytes ≡ decimal n ++ space ∷ rest → Nowhere (Passes (is_byte space) bytes) 0 (length bytes) → ⊥
no_number_leads bytes rest n is none =
    let stands : get_or bytes (length (decimal n)) 0 ≡ space
    = ap (λ bs. get_or bs (length (decimal n)) 0) is ∙ get_or-append_seam (decimal n) space rest 0 in
    let size = ap length is ∙ length-append (decimal n) (space ∷ rest) in
    none (length (decimal n)) (omega arith) (omega (arith, size)) (eq-eqb _ space stands)

-- a number that leads ends where the first space stands
pub number_before : (bytes rest : List ℕ) (n i : ℕ) → n < 2 ^ 16 → bytes ≡ decimal n ++ space ∷ rest
    → NoneBefore (Passes (is_byte space) bytes) 0 (length bytes) i → Passes (is_byte space) bytes i → take i bytes ≡ decimal n
number_before bytes rest n i small is none found =
    let byte : get_or bytes i 0 ≡ space = eqb-true (get_or bytes i 0) space found in
    let cut = about bytes i none.high ∙ ap (λ b. take i bytes ++ b ∷ drop (i + 1) bytes) byte in
    let front = no_space-take bytes i (omega (arith, none.high)) (λ k below e. none.before k (omega arith) below (eq-eqb (get_or bytes k 0) space e)) in
    (split_same (take i bytes) (decimal n) (drop (i + 1) bytes) rest front (no_space-decimal n small) (sym cut ∙ is)).0

-- ---- what is read

pub number_found : (digits : List ℕ) (n : ℕ) → IsSmallNumber n digits → numeral_below (2 ^ 32) digits ≡ Some n
number_found digits n (small, is) =
    subst (λ ds. numeral_below (2 ^ 32) ds ≡ Some n) (sym is) (below-found (2 ^ 32) n (decimal n) (decimal-IsNumeral n (omega arith)) (omega arith))

pub number_says : (digits : List ℕ) (n : ℕ) → numeral_below (2 ^ 32) digits ≡ Some n → digits ≡ decimal n
number_says digits n e =
    let says = below-says (2 ^ 32) n digits e in
    decimal-from_IsNumeral n digits says.0 (omega (arith, says.1))
