-- Each row is tested with the one above it, but for rows to which the search didn't come near.
use Rattle.std.proofs.Common.{ℕ, ◌<◌, ◌≤◌, sym, subst, arith, ◌∙◌}
use Rattle.std.proofs.lemmas.Bool.{false≢true}
use Rattle.walks.specs.Code.TableEntries.{number_on, IsBeyond}
use Rattle.walks.specs.Code.Tightness.{AreCorners, KeepsBlockAt}
use Rattle.walks.proofs.TightTables.{all_below_next, rows_from_held, held_from_rows, beyond_block}
use Rattle.walks.proofs.tightness.keeps_patch.Goals as goal
use Rattle.walks.proofs.tightness.keeps_patch.Goals.{After-keeps_row, then-not-is_held, else-not-is_held}

-- the upper row is told, whether it was held or is new
told : (c : After-keeps_row) → AreCorners c.args.map.now (number_on c.args.entries.now c.args.map.now.width) c.args.left c.args.right c.loop-y.y c.if-not-is_held.upper
told c =
    let m = c.args.map.now in
    let numbers = number_on c.args.entries.now m.width in
    elim c.if-not-is_held.branch [
      | then-not-is_held w ↦ subst (AreCorners m numbers c.args.left c.args.right c.loop-y.y) (sym w.upper-is) w.corners_of-upper.ensures
      | else-not-is_held w ↦ subst (AreCorners m numbers c.args.left c.args.right c.loop-y.y) (sym w.upper-is) (c.loop-y.invariant.corners w.if-not-is_held.false)
    ]

pub returns-then-not-keeps_row : goal.returns-then-not-keeps_row
returns-then-not-keeps_row c = (
  λ e. absurd (false≢true e),
  λ rows. absurd (false≢true (sym c.if-not-keeps_row.true ∙ c.keeps_row.ensures.1
      (held_from_rows c.args.map.now (number_on c.args.entries.now c.args.map.now.width) c.args.left c.args.right c.loop-y.y
      c.if-not-is_held.upper c.corners_of-lower.result (told (goal.at.returns-then-not-keeps_row c).After-keeps_row) c.corners_of-lower.ensures
      (rows c.loop-y.y c.loop-y.auto.y (omega (arith, c.loop-y-test.true, c.min-bottom.ensures))
      (omega (arith, c.loop-y-test.true, c.min-bottom.ensures, c.height.ensures.height)))))),
)

pub loop-y-preserved-then-is_beyond : goal.loop-y-preserved-then-is_beyond
loop-y-preserved-then-is_beyond c =
    let m = c.args.map.now in
    let entries = c.args.entries.now in
    let left = c.args.left in
    let right = c.args.right in
    let y = c.loop-y.y in
    let beyond : IsBeyond entries m.width left right y =
    subst (λ w. IsBeyond entries w left right y) c.width-width.ensures.width (c.is_beyond.ensures c.if-is_beyond.true) in
    record {
      corners = λ e. absurd (false≢true e);
      kept = all_below_next (λ k. c.args.top ≤ k → (x : ℕ) → left ≤ x → x < right → KeepsBlockAt m (number_on entries m.width) x k) y c.loop-y.invariant.kept
          (λ first x least less. beyond_block m entries left right x y beyond least less);
    }

pub loop-y-preserved : goal.loop-y-preserved
loop-y-preserved c =
    let m = c.args.map.now in
    let numbers = number_on c.args.entries.now m.width in
    let left = c.args.left in
    let right = c.args.right in
    record {
      corners = λ e. c.corners_of-lower.ensures;
      kept = all_below_next (λ k. c.args.top ≤ k → (x : ℕ) → left ≤ x → x < right → KeepsBlockAt m numbers x k) c.loop-y.y c.loop-y.invariant.kept
          (λ first. rows_from_held m numbers left right c.loop-y.y c.if-not-is_held.upper c.corners_of-lower.result (told (goal.at.loop-y-preserved c).After-keeps_row) c.corners_of-lower.ensures
          (c.keeps_row.ensures.0 c.if-not-keeps_row.false));
    }
