-- A band keeps exactly where each of its patches does.
use Rattle.std.proofs.Common.{◌*◌, refl, sym, arith, ◌∙◌, inl, inr}
use Rattle.std.proofs.lemmas.Bool.{false≢true, cases_lt}
use Rattle.walks.proofs.tightness.keeps_band.Goals as goal

pub returns-then-not-keeps_patch : goal.returns-then-not-keeps_patch
returns-then-not-keeps_patch c = (
  λ e. absurd (false≢true e),
  λ all. absurd (false≢true (sym c.if-not-keeps_patch.true ∙ c.keeps_patch.ensures.1
      (λ y first last row x least less. all y first last row x (omega (arith, less, c.min.ensures, c.width-width.ensures.width))))),
)

pub loop-strip-preserved : goal.loop-strip-preserved
loop-strip-preserved c y first last row x less inside = elim (cases_lt x (64 * c.loop-strip.strip)) [
  | inl earlier ↦ c.loop-strip.invariant y first last row x earlier inside
  | inr least ↦ c.keeps_patch.ensures.0 c.if-not-keeps_patch.false y first last row x (omega (arith, least)) (omega (arith, less, inside, c.min.ensures, c.width-width.ensures.width))
]

pub returns : goal.returns
returns c = (
  λ e y first last row x column. c.loop-strip.invariant y first last row x (omega (arith, column, c.loop-strip-test.false, c.div_ceil-strip-end.ensures, c.width-width.ensures.width)) column,
  λ all. refl,
)
