-- How many rows there are of each kind, as they are counted.
use Rattle.std.specs.Prelude.{◌≡◌, ℕ, ◌+◌, ◌==◌, ◌&&◌, Bool, false, true, if◌then◌else◌, List}
use Rattle.std.specs.Prelude.{[], ◌∷◌, ◌++◌, codes, count_by, length, map, max, sum_by}
use Rattle.text_io.specs.Text.{line_feed}
use Rattle.text_commands.specs.declared.row_line.RowLine.{RowLine}
use Rattle.ending.specs.declared.status.Status.{Status}
use Rattle.ending.specs.declared.status.Status.TheVariants.{Done, Fault}
use Rattle.text_commands.specs.declared.tally.Tally.{Tally}
use Rattle.ending.specs.Pieces.{pieces_text}
use Rattle.text_commands.specs.RowsCommand.{has_other_size, is_agreed, is_otherwise}
use Rattle.text_commands.specs.RowsCommand.{is_unreached, most_steps, steps_of}

-- 1 for yes
abbrev pub one_if : Bool → ℕ
one_if b = if b then 1 else 0

-- a row with this line is counted too
pub record IsTallyWith (old : Tally) (line : RowLine) (new : Tally) : Type 0 where
  pub rows : new.rows ≡ old.rows + 1
  pub agree : new.agree ≡ old.agree + one_if (is_agreed line)
  pub differ : new.differ ≡ old.differ + one_if (is_otherwise line)
  pub unreachable : new.unreachable ≡ old.unreachable + one_if (is_unreached line)
  pub size : new.size ≡ old.size + one_if (has_other_size line)
  pub total : new.sum ≡ old.sum + steps_of line
  pub greatest : new.greatest ≡ max old.greatest (steps_of line)

-- just these lines are counted
pub record IsTally (lines : List RowLine) (t : Tally) : Type 0 where
  pub rows : t.rows ≡ length lines
  pub agree : t.agree ≡ count_by is_agreed lines
  pub differ : t.differ ≡ count_by is_otherwise lines
  pub unreachable : t.unreachable ≡ count_by is_unreached lines
  pub size : t.size ≡ count_by has_other_size lines
  pub total : t.sum ≡ sum_by steps_of lines
  pub greatest : t.greatest ≡ most_steps lines

abbrev pub tally_status : Tally → Status
tally_status t = if (t.differ == 0) && ((t.unreachable == 0) && (t.size == 0)) then Done else Fault

-- the words of the last line with their numbers
abbrev pub tally_pieces : Bool → Tally → List (List ℕ × ℕ)
tally_pieces false t =
    (codes "rows ", t.rows) ∷ (codes " agree ", t.agree) ∷ (codes " differ ", t.differ)
    ∷ (codes " unreachable ", t.unreachable) ∷ (codes " size ", t.size) ∷ []
tally_pieces true t =
    (codes "rows ", t.rows) ∷ (codes " sum ", t.sum) ∷ (codes " greatest ", t.greatest)
    ∷ (codes " unreachable ", t.unreachable) ∷ (codes " size ", t.size) ∷ []

abbrev pub tally_line : Bool → Tally → List ℕ
tally_line straight t = pieces_text (tally_pieces straight t) ++ line_feed ∷ []
