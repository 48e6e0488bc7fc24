-- The marks of one step after another.
use Rattle.std.proofs.Common.{◌≡◌, ℕ, suc, ◌+◌, ◌%◌, ◌<◌, ◌⊎◌, cond, ◌==◌, List, inl, inr, arith, add-one, sym, ap, ◌∙◌}
use Rattle.std.proofs.Math.Nat.{suc-mod, mod-lt}
use Rattle.std.proofs.lemmas.Bool.{cases_eq}
use Rattle.checker.specs.declared.board.Square.{Square}
use Rattle.checker.specs.declared.crowd.Walker.{Walker}
use Rattle.checker.specs.Code.Squares.{AreUnmarked}
use Rattle.checker.specs.Code.Crowd.{first_mark, AreApart, AreMarksOf, AreOldMarks}

abbrev by_rest : ℕ → ℕ
by_rest rest = cond (rest == 0) 1 6

-- two steps one after another have the marks from 1 and from 6 on, in one order or the other
turn_about : (s : ℕ) → ((first_mark s ≡ 1) × (first_mark (s + 1) ≡ 6)) ⊎ ((first_mark s ≡ 6) × (first_mark (s + 1) ≡ 1))
turn_about s =
    let next : (s + 1) % 2 ≡ suc (s % 2) % 2 = ap (λ n. n % 2) (add-one s) ∙ suc-mod s 2 in
    let rest : s % 2 < 2 = mod-lt s (omega arith) in
    elim (cases_eq (s % 2) 0) [
      | inl even ↦ inl (ap by_rest even, ap by_rest (next ∙ ap (λ n. suc n % 2) even))
      | inr other ↦ (let odd : s % 2 ≡ 1 = omega (arith, rest, other) in inr (ap by_rest odd, ap by_rest (next ∙ ap (λ n. suc n % 2) odd)))
    ]

pub first_mark-again : (s : ℕ) → first_mark (s + 1 + 1) ≡ first_mark s
first_mark-again s = elim (turn_about s) [
  | inl (one, next) ↦ elim (turn_about (s + 1)) [ inl (same, after) ↦ absurd (omega (arith, next, same)) | inr (same, after) ↦ after ∙ sym one ]
  | inr (one, next) ↦ elim (turn_about (s + 1)) [ inl (same, after) ↦ after ∙ sym one | inr (same, after) ↦ absurd (omega (arith, next, same)) ]
]

first_mark-apart : (s : ℕ) → AreApart (first_mark (s + 1)) (first_mark s)
first_mark-apart s mark one two =
    let a = one.from in
    let b = one.to in
    let c = two.from in
    let d = two.to in
    elim (turn_about s) [ inl (this, next) ↦ omega (arith, a, b, c, d, this, next) | inr (this, next) ↦ omega (arith, a, b, c, d, this, next) ]

pub first_mark-some : (s : ℕ) → 0 < first_mark s
first_mark-some s = elim (turn_about s) [ inl (this, next) ↦ omega (arith, this) | inr (this, next) ↦ omega (arith, this) ]

pub first_mark-small : (s : ℕ) → first_mark s < 50
first_mark-small s = elim (turn_about s) [ inl (this, next) ↦ omega (arith, this) | inr (this, next) ↦ omega (arith, this) ]

-- the marks of the step before
pub old-before : (s : ℕ) (walkers : List Walker) (squares : List Square) → AreMarksOf (first_mark (s + 1)) walkers squares → AreOldMarks (first_mark s) walkers squares
old-before s walkers squares marks = record { before = first_mark (s + 1); small = first_mark-small (s + 1); apart = first_mark-apart s; marks = marks }

-- no marks at all
pub old-none : (s : ℕ) (walkers : List Walker) (squares : List Square) → AreUnmarked squares → AreOldMarks (first_mark s) walkers squares
old-none s walkers squares none = old-before s walkers squares (λ place. inl (none place))
