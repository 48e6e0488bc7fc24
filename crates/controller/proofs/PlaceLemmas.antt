-- Places on a path.
use Rattle.std.proofs.Common.{◌≡◌, ℕ, zero, suc, ◌+◌, ◌<◌, ◌≤◌, false, List, [], ◌∷◌, length, Some, inl, inr, arith, refl, sym, ap, subst, ◌∙◌}
use Rattle.std.specs.Prelude.{slice_get}
use Rattle.std.proofs.lemmas.Bool.{cases_Bool, cases_lt, cond-true, cond-false, true≢false}
use Rattle.std.proofs.lemmas.Option.{same_Some, none-some}
use Rattle.grid.specs.declared.cell.Cell.{Cell}
use Rattle.model.specs.Timetable.{Track, same_cell, collapsed, moves, path}
use Rattle.model.specs.Laws.Tracks.{same_cell-same, same_cell-true, length-path}
use Rattle.controller.specs.Places.{FitsAt, IsNew}
use Rattle.carrier_text.specs.declared.report.Report.{Report}
use Rattle.carrier_text.specs.declared.report.Report.TheVariants.{Stands, Between, Unclear}

-- the first cell of what is left of a path
head-of : (d : Cell) (cells : List Cell) (u : Cell) → slice_get (collapsed d cells) 0 ≡ Some u → d ≡ u
head-of d [] u there = same_Some d u there
head-of d (e ∷ cells) u there =
    elim (cases_Bool (same_cell d e)) [
      | inl same ↦ same_cell-same d e same ∙ head-of e cells u (sym (ap (λ l. slice_get l 0) (cond-true (same_cell d e) _ _ same)) ∙ there)
      | inr other ↦ same_Some d u (sym (ap (λ l. slice_get l 0) (cond-false (same_cell d e) (collapsed e cells) (d ∷ collapsed e cells) other)) ∙ there)
    ]

-- behind a cell that differs from it
differ-behind : (c d : Cell) (cells : List Cell) (u : Cell) → same_cell c d ≡ false
    → ((n : ℕ) → slice_get (collapsed d cells) n ≡ Some u → slice_get (collapsed d cells) (suc n) ≡ Some u → ⊥)
    → (k : ℕ) → slice_get (c ∷ collapsed d cells) k ≡ Some u → slice_get (c ∷ collapsed d cells) (suc k) ≡ Some u → ⊥
differ-behind c d cells u apart later zero here next = true≢false (sym (same_cell-true c d (same_Some c u here ∙ sym (head-of d cells u next))) ∙ apart)
differ-behind c d cells u apart later (suc n) here next = later n here next

-- a path has no cell twice in a row
pub neighbours-differ : (c : Cell) (cells : List Cell) (k : ℕ) (u : Cell) → slice_get (collapsed c cells) k ≡ Some u → slice_get (collapsed c cells) (suc k) ≡ Some u → ⊥
neighbours-differ c [] zero u one other = none-some u other
neighbours-differ c [] (suc k) u one other = none-some u one
neighbours-differ c (d ∷ cells) k u one other =
    elim (cases_Bool (same_cell c d)) [
      | inl same ↦
          let is = cond-true (same_cell c d) (collapsed d cells) (c ∷ collapsed d cells) same in
          neighbours-differ d cells k u (sym (ap (λ l. slice_get l k) is) ∙ one) (sym (ap (λ l. slice_get l (suc k)) is) ∙ other)
      | inr apart ↦
          let is = cond-false (same_cell c d) (collapsed d cells) (c ∷ collapsed d cells) apart in
          differ-behind c d cells u apart (λ n. neighbours-differ d cells n u) k (sym (ap (λ l. slice_get l k) is) ∙ one) (sym (ap (λ l. slice_get l (suc k)) is) ∙ other)
    ]

-- of two places with the same cell the later one is not new
pub not-new : (cells : List Cell) (from one other : ℕ) (c : Cell) → from ≤ one → one < other → slice_get cells one ≡ Some c → slice_get cells other ≡ Some c → IsNew cells from other → ⊥
not-new cells from one other c behind less here there (d, has, before) = before one behind less (here ∙ ap Some (same_Some c d (sym there ∙ has)))

-- where each cell is new, it has one place
pub one-place : (cells : List Cell) (from to one other : ℕ) (c : Cell) → ((k : ℕ) → from < k → k ≤ to → IsNew cells from k)
    → from ≤ one → one ≤ to → from ≤ other → other ≤ to → slice_get cells one ≡ Some c → slice_get cells other ≡ Some c → one ≡ other
one-place cells from to one other c each_new behind within later last here there =
    elim (cases_lt one other) [
      | inl less ↦ absurd (not-new cells from one other c behind less here there (each_new other (omega (arith, behind, less)) last))
      | inr more ↦ elim (cases_lt other one) [
        | inl less ↦ absurd (not-new cells from other one c later less there here (each_new one (omega (arith, later, less)) within))
        | inr less ↦ omega (arith, more, less)
      ]
    ]

-- so a report fits one place alone
pub fits-one : (cells : List Cell) (from to : ℕ) → ((k : ℕ) → from < k → k ≤ to → IsNew cells from k) → (report : Report) (one other : ℕ)
    → FitsAt cells from to report one → FitsAt cells from to report other → one ≡ other
fits-one cells from to each_new (Stands c) one other fits too =
    one-place cells from to one other c each_new fits.behind fits.within too.behind too.within fits.is_at too.is_at
fits-one cells from to each_new (Between u v) one other fits too =
    let within = fits.within in
    let last = too.within in
    one-place cells from to one other u each_new fits.behind (omega (arith, within)) too.behind (omega (arith, last)) fits.is_at.0 too.is_at.0
fits-one cells from to each_new Unclear one other fits too = absurd fits.is_at

-- a report that fits a place fits it too where the drive may be in fewer places behind it, and in more before it
pub fits-still : (cells : List Cell) (from to later further : ℕ) (report : Report) (place : ℕ) → later ≤ place → to ≤ further
    → FitsAt cells from to report place → FitsAt cells later further report place
fits-still cells from to later further report place behind more fits =
    let within = fits.within in
    record { behind = behind; within = omega (arith, within, more); is_at = fits.is_at }

-- what is new behind a place is new behind a later one
pub new-behind : (cells : List Cell) (from later place : ℕ) → from ≤ later → IsNew cells from place → IsNew cells later place
new-behind cells from later place more (c, there, before) = (c, there, λ k behind less. before k (omega (arith, more, behind)) less)

-- the next cell of a path is new behind the one before it
pub next-new : (track : Track) (place : ℕ) → place < moves track → IsNew (path track) place (place + 1)
next-new track place less =
    let cells = path track in
    let few : place + 1 < length cells = omega (arith, less, length-path track.start track.later) in
    let there = get-there cells (place + 1) few in (
      there.0,
      there.1,
      λ before behind within has.
          let is : before ≡ place = omega (arith, behind, within) in
          neighbours-differ track.start track.later place there.0 (subst (λ k. slice_get cells k ≡ Some there.0) is has)
          (subst (λ k. slice_get cells k ≡ Some there.0) (omega arith) there.1),
    ) where
      get-there : (cells : List Cell) (k : ℕ) → k < length cells → (c : Cell) × (slice_get cells k ≡ Some c)
      get-there [] k few = absurd (omega (arith, few))
      get-there (c ∷ cells) zero few = (c, refl)
      get-there (c ∷ cells) (suc k) few = get-there cells k (omega (arith, few))
