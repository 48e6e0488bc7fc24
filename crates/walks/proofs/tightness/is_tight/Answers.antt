-- The table is tight exactly where each band keeps.
use Rattle.std.proofs.Common.{◌*◌, refl, sym, arith, ◌∙◌, inl, inr}
use Rattle.std.proofs.lemmas.Bool.{false≢true, cases_lt}
use Rattle.walks.proofs.TableLemmas.{blocks_from_tight, tight_from_numbers}
use Rattle.walks.proofs.tightness.is_tight.Goals as goal

pub returns-then-not-keeps_band : goal.returns-then-not-keeps_band
returns-then-not-keeps_band c = (
  λ e. absurd (false≢true e),
  λ tight. absurd (false≢true (sym c.if-not-keeps_band.true ∙ c.keeps_band.ensures.1
      (λ y first last row x column. blocks_from_tight c.args.map.now c.args.entries.now c.requires.cells tight x y))),
)

pub loop-band-preserved : goal.loop-band-preserved
loop-band-preserved c y less row x column = elim (cases_lt y (64 * c.loop-band.band)) [
  | inl earlier ↦ c.loop-band.invariant y earlier row x column
  | inr least ↦ c.keeps_band.ensures.0 c.if-not-keeps_band.false y (omega (arith, least)) (omega (arith, less)) row x column
]

pub returns : goal.returns
returns c = (
  λ e. tight_from_numbers c.args.map.now c.args.entries.now c.requires.cells (λ y row x column. c.loop-band.invariant y
      (omega (arith, row, c.loop-band-test.false, c.div_ceil-band-end.ensures, c.height.ensures.height)) row x column),
  λ tight. refl,
)
