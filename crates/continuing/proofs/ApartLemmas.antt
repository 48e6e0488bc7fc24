-- Where two courses part.
use Rattle.std.proofs.Common.{◌≡◌, ℕ, suc, ◌+◌, ◌-◌, true, false, not, List, Some, None, inl, inr, arith, sym, ap, subst, ◌∙◌}
use Rattle.std.specs.Prelude.{Option, option_map}
use Rattle.std.proofs.lemmas.Bool.{cases_Bool, false≢true}
use Rattle.grid.specs.declared.cell.Cell.{Cell}
use Rattle.model.specs.declared.act.Act.{Act}
use Rattle.model.specs.Plan.{position_of, Course}
use Rattle.model.specs.Timetable.{same_cell}
use Rattle.model.specs.Laws.Places.{same_place}
use Rattle.model.specs.Laws.Tracks.{same_cell-same, same_cell-true}
use Rattle.continuing.specs.Code.Apart.{DifferAt, IsFirstOther, IsFirstApart}
use Rattle.continuing.proofs.CourseLemmas.{position_at-start, same-places, other-places}

pub other-start : (old new : Course) (u v : Cell) → u ≡ old.start → v ≡ new.start → not (same_cell u v) ≡ true → DifferAt old new 0
other-start old new u v is_old is_new other e =
    let start : new.start ≡ old.start
    = same_place new.start old.start
    (sym (position_at-start (position_of new.start) new.acts) ∙ e ∙ position_at-start (position_of old.start) old.acts) in
    false≢true (sym (ap not (same_cell-true u v (is_old ∙ sym start ∙ sym is_new))) ∙ other)

pub same-start : (u v : Cell) → not (same_cell u v) ≡ false → v ≡ u
same-start u v same = elim (cases_Bool (same_cell u v)) [
  | inl e ↦ sym (same_cell-same u v e)
  | inr e ↦ absurd (false≢true (sym same ∙ ap not e))
]

pub apart-by : (old new : Course) (xs ys : List Act) (past : ℕ) (o : Option ℕ) → new.start ≡ old.start → xs ≡ old.acts → ys ≡ new.acts
    → IsFirstOther xs ys (past - 1) o → IsFirstApart old new past (option_map (λ step. step + 1) o)
apart-by old new xs ys past o start is_old is_new first =
    by_step o (subst (λ l. IsFirstOther old.acts l (past - 1) o) is_new (subst (λ l. IsFirstOther l ys (past - 1) o) is_old first)) where
      by_step : (o : Option ℕ) → IsFirstOther old.acts new.acts (past - 1) o → IsFirstApart old new past (option_map (λ step. step + 1) o)
      by_step None same = λ t less. same-places old new (past - 1) start same t (omega (arith, less))
      by_step (Some step) other =
          let one : suc step ≡ step + 1 = omega arith in
          let before = same-places old new step start other.2 in
          let within = other.0 in
          (omega (arith, within), subst (DifferAt old new) one (other-places old new step (before step (omega arith)) other.1), λ t less. before t (omega (arith, less)))
