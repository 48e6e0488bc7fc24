-- Numerals, one after another.
use Rattle.std.proofs.Common.{◌≡◌, ℕ, zero, suc, ◌+◌, ◌≤◌, List, [], ◌∷◌, ◌++◌, length, take, Some, arith, ap, ap₂, sym, ◌∙◌, append-nil}
use Rattle.std.specs.Prelude.{slice_get}
use Rattle.std.proofs.lemmas.List.{take-append-le}
use Rattle.std.proofs.Math.Seq.{take-append-add}
use Rattle.text_io.specs.Text.{spaced_numbers}
use Rattle.plan_commands.specs.Code.Numerals.{AreFrom, AreNumerals, spaced}

-- one numeral more
from_push : (n : ℕ) (texts : List (List ℕ)) (text : List ℕ) → AreFrom n texts → text ≡ spaced (n + length texts) → AreFrom n (texts ++ text ∷ [])
from_push n [] text h is = (let none : n + 0 ≡ n = omega arith in is ∙ ap spaced none, tt)
from_push n (other ∷ texts) text h is =
    (h.0, from_push (n + 1) texts text h.1 (let at : n + suc (length texts) ≡ n + 1 + length texts = omega arith in is ∙ ap spaced at))

pub numerals_push : (texts : List (List ℕ)) (n : ℕ) (text : List ℕ) → AreNumerals texts → length texts ≡ n → text ≡ spaced n → AreNumerals (texts ++ text ∷ [])
numerals_push texts n text h count is = from_push 0 texts text h (let at : n ≡ 0 + length texts = omega (arith, count) in is ∙ ap spaced at)

from_get : (n k : ℕ) (texts : List (List ℕ)) (text : List ℕ) → AreFrom n texts → slice_get texts k ≡ Some text → text ≡ spaced (n + k)
from_get n k [] text h is = cc
from_get n zero (other ∷ texts) text h is =
    let same : other ≡ text = cc in
    let at : n ≡ n + 0 = omega arith in
    sym same ∙ h.0 ∙ ap spaced at
from_get n (suc k) (other ∷ texts) text h is =
    let at : n + 1 + k ≡ n + suc k = omega arith in
    from_get (n + 1) k texts text h.1 is ∙ ap spaced at

-- the first bytes after one is written behind the text before
pub written : (at n len : ℕ) (before inside rest bytes text : List ℕ) → length before ≡ at → n ≡ len → len ≤ length inside → inside ≡ bytes → take len bytes ≡ text
    → take (at + n) (before ++ (inside ++ rest)) ≡ before ++ text
written at n len before inside rest bytes text count is within same view =
    ap (λ k. take (k + n) (before ++ (inside ++ rest))) (sym count)
    ∙ take-append-add before (inside ++ rest) n
    ∙ ap (λ l. before ++ l) (take-append-le n inside rest (omega (arith, within, is)) ∙ ap (λ k. take k inside) is ∙ ap (take len) same ∙ view)

-- two of them are the numbers of a cell
pub both : (texts : List (List ℕ)) (x y : ℕ) (first second text : List ℕ) → AreNumerals texts → slice_get texts x ≡ Some first → slice_get texts y ≡ Some second
    → text ≡ first ++ second → text ≡ spaced_numbers (x ∷ y ∷ [])
both texts x y first second text h at_x at_y is =
    let one : 0 + x ≡ x = omega arith in
    let other : 0 + y ≡ y = omega arith in
    is ∙ ap₂ (λ a b. a ++ b) (from_get 0 x texts first h at_x ∙ ap spaced one) (from_get 0 y texts second h at_y ∙ ap spaced other)
    ∙ ap (λ ys. spaced x ++ ys) (sym (append-nil (spaced y)))
