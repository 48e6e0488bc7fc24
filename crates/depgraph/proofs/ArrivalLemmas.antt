-- What an agent enters is its path, and each move ends when the next cell is entered.
use Rattle.std.proofs.Common.{◌≡◌, ℕ, zero, suc, ◌+◌, ◌-◌, ◌<◌, true, false, cond, eqb, inl, inr, List, [], ◌∷◌, length, Some, None, arith, refl, sym, ap, subst, ◌∙◌}
use Rattle.std.specs.Prelude.{◌==◌, Option, not, if◌then◌else◌, slice_get}
use Rattle.std.proofs.lemmas.Bool.{cases_Bool, cond-true, cond-false, eqb-true}
use Rattle.grid.specs.declared.cell.Cell.{Cell}
use Rattle.model.specs.Timetable.{Track, same_cell, collapsed, path, moves_after, step_after}
use Rattle.model.specs.Laws.Tracks.{same_cell-same}
use Rattle.checker.specs.Checking.{cells_of}
use Rattle.depgraph.specs.Code.Arrivals.{is_new, entered, entry_times}

-- ---- by whether a cell is entered anew

pub entered-new : (here : Option Cell) (c : Cell) (cells : List Cell) → is_new here c ≡ true → entered here (c ∷ cells) ≡ c ∷ entered (Some c) cells
entered-new here c cells new = cond-true (is_new here c) (c ∷ entered (Some c) cells) (entered (Some c) cells) new

pub entered-old : (here : Option Cell) (c : Cell) (cells : List Cell) → is_new here c ≡ false → entered here (c ∷ cells) ≡ entered (Some c) cells
entered-old here c cells old = cond-false (is_new here c) (c ∷ entered (Some c) cells) (entered (Some c) cells) old

pub times-new : (here : Option Cell) (c : Cell) (cells : List Cell) (t : ℕ) → is_new here c ≡ true → entry_times here (c ∷ cells) t ≡ t ∷ entry_times (Some c) cells (t + 1)
times-new here c cells t new = cond-true (is_new here c) (t ∷ entry_times (Some c) cells (t + 1)) (entry_times (Some c) cells (t + 1)) new

pub times-old : (here : Option Cell) (c : Cell) (cells : List Cell) (t : ℕ) → is_new here c ≡ false → entry_times here (c ∷ cells) t ≡ entry_times (Some c) cells (t + 1)
times-old here c cells t old = cond-false (is_new here c) (t ∷ entry_times (Some c) cells (t + 1)) (entry_times (Some c) cells (t + 1)) old

pub entered-stays : (c d : Cell) (cells : List Cell) → same_cell c d ≡ true → entered (Some c) (d ∷ cells) ≡ entered (Some d) cells
entered-stays c d cells same = ap (λ b. cond (not b) (d ∷ entered (Some d) cells) (entered (Some d) cells)) same

pub entered-moves : (c d : Cell) (cells : List Cell) → same_cell c d ≡ false → entered (Some c) (d ∷ cells) ≡ d ∷ entered (Some d) cells
entered-moves c d cells other = ap (λ b. cond (not b) (d ∷ entered (Some d) cells) (entered (Some d) cells)) other

path-entered : (c : Cell) (cells : List Cell) → collapsed c cells ≡ c ∷ entered (Some c) cells
path-entered c [] = refl
path-entered c (d ∷ cells) = elim (cases_Bool (same_cell c d)) [
  | inl same ↦
      cond-true (same_cell c d) (collapsed d cells) (c ∷ collapsed d cells) same ∙ path-entered d cells
      ∙ ap (λ e. e ∷ entered (Some d) cells) (sym (same_cell-same c d same)) ∙ ap (λ l. c ∷ l) (sym (entered-stays c d cells same))
  | inr other ↦
      cond-false (same_cell c d) (collapsed d cells) (c ∷ collapsed d cells) other
      ∙ ap (λ l. c ∷ l) (path-entered d cells ∙ sym (entered-moves c d cells other))
]

pub entered_path : (track : Track) → entered None (cells_of track) ≡ path track
entered_path track = sym (path-entered track.start track.later)

-- ---- times

pub times-stays : (c d : Cell) (cells : List Cell) (t : ℕ) → same_cell c d ≡ true → entry_times (Some c) (d ∷ cells) t ≡ entry_times (Some d) cells (t + 1)
times-stays c d cells t same = ap (λ b. cond (not b) (t ∷ entry_times (Some d) cells (t + 1)) (entry_times (Some d) cells (t + 1))) same

pub times-moves : (c d : Cell) (cells : List Cell) (t : ℕ) → same_cell c d ≡ false → entry_times (Some c) (d ∷ cells) t ≡ t ∷ entry_times (Some d) cells (t + 1)
times-moves c d cells t other = ap (λ b. cond (not b) (t ∷ entry_times (Some d) cells (t + 1)) (entry_times (Some d) cells (t + 1))) other

pub count_entered : (c : Cell) (cells : List Cell) (t : ℕ) → length (entry_times (Some c) cells t) ≡ moves_after c cells (length cells)
count_entered c [] t = refl
count_entered c (d ∷ cells) t = elim (cases_Bool (same_cell c d)) [
  | inl same ↦ ap length (times-stays c d cells t same) ∙ count_entered d cells (t + 1)
      ∙ sym (cond-true (same_cell c d) (moves_after d cells (length cells)) (moves_after d cells (length cells) + 1) same)
  | inr other ↦ (
      let rest = count_entered d cells (t + 1) in
      ap length (times-moves c d cells t other) ∙ (let next : suc (length (entry_times (Some d) cells (t + 1))) ≡ moves_after d cells (length cells) + 1 = omega (arith, rest) in next)
      ∙ sym (cond-false (same_cell c d) (moves_after d cells (length cells)) (moves_after d cells (length cells) + 1) other)
      )
]

-- the step of a move begins one before the time at which it ends
pub step-entered : (c : Cell) (cells : List Cell) (t k : ℕ) → k < moves_after c cells (length cells)
    → slice_get (entry_times (Some c) cells t) k ≡ Some (t + step_after c cells k)
step-entered c [] t k less = absurd (omega (arith, less))
step-entered c (d ∷ cells) t k less = elim (cases_Bool (same_cell c d)) [
  | inl same ↦ (
      let fewer = subst (λ n. k < n) (cond-true (same_cell c d) (moves_after d cells (length cells)) (moves_after d cells (length cells) + 1) same) less in
      ap (λ l. slice_get l k) (times-stays c d cells t same) ∙ step-entered d cells (t + 1) k fewer
      ∙ ap Some (let step = cond-true (same_cell c d) (step_after d cells k + 1) (if k == 0 then 0 else step_after d cells (k - 1) + 1) same in omega (arith, step))
      )
  | inr other ↦ (
      let fewer = subst (λ n. k < n) (cond-false (same_cell c d) (moves_after d cells (length cells)) (moves_after d cells (length cells) + 1) other) less in
      ap (λ l. slice_get l k) (times-moves c d cells t other)
      ∙ moved (λ j few. step-entered d cells (t + 1) j few) k fewer ∙ ap Some (ap (λ n. t + n)
      (sym (cond-false (same_cell c d) (step_after d cells k + 1) (if k == 0 then 0 else step_after d cells (k - 1) + 1) other)))
      )
] where
  moved : ((j : ℕ) → j < moves_after d cells (length cells) → slice_get (entry_times (Some d) cells (t + 1)) j ≡ Some (t + 1 + step_after d cells j))
      → (k : ℕ) → k < moves_after d cells (length cells) + 1
      → slice_get (t ∷ entry_times (Some d) cells (t + 1)) k ≡ Some (t + (if k == 0 then 0 else step_after d cells (k - 1) + 1))
  moved rest zero fewer = ap Some (omega arith)
  moved rest (suc j) fewer =
      let before : suc j - 1 ≡ j = omega arith in
      let same = ap (step_after d cells) before in
      let positive : eqb (suc j) 0 ≡ false = elim (cases_Bool (eqb (suc j) 0)) [ inl is ↦ absurd (let e = eqb-true (suc j) 0 is in omega (arith, e)) | inr other ↦ other ] in
      let chosen = cond-false (eqb (suc j) 0) 0 (step_after d cells (suc j - 1) + 1) positive in
      rest j (omega (arith, fewer)) ∙ ap Some (omega (arith, same, chosen))
