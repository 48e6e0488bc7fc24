-- Both ends of a legal step are cells that a map may have.
use Rattle.std.proofs.lemmas.Bool.{false≢true}
use Rattle.checker.specs.Code.Places.{as_position}
use Rattle.checker.proofs.LegalLemmas.{illegal-from, illegal-to}
use Rattle.checker.proofs.bad_move.is_legal.Goals as goal

pub returns-in_default : goal.returns-in_default
returns-in_default c = (
  λ e. absurd (false≢true e),
  λ h. absurd (illegal-from c.args.map.now (as_position c.args.step.from) (as_position c.args.step.to) c.width-width.ensures.map c.in_default.ensures h),
)

pub returns-in_default-cell : goal.returns-in_default-cell
returns-in_default-cell c = (
  λ e. absurd (false≢true e),
  λ h. absurd (illegal-to c.args.map.now (as_position c.args.step.from) (as_position c.args.step.to) c.width-width.ensures.map c.in_default-cell.ensures h),
)
