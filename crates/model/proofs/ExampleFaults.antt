-- Which faults the plans of the examples have, and where their agents are.
use Rattle.std.proofs.Common.{◌≡◌, ℕ, zero, suc, ◌+◌, [], ◌∷◌, inl, inr, arith, refl, sym, ap, subst, ◌∙◌}
use Rattle.grid.specs.declared.cell.Cell.{Cell}
use Rattle.grid.specs.Map.{IsStraightStep}
use Rattle.model.specs.declared.act.Act.{Act}
use Rattle.model.specs.declared.act.Act.TheVariants.{E, W, Wait}
use Rattle.model.specs.declared.plan_fault.PlanFault.{PlanFault}
use Rattle.model.specs.declared.plan_fault.PlanFault.TheVariants.{BadStart, BadMove, Vertex, Swap, OutOfMemory}
use Rattle.model.specs.Timetable.{cell_at}
use Rattle.model.specs.Plan.{Position, position_of, moved, position_at, HasPlanFault, IsLegal, IsAt, IsTrackOf}
use Rattle.model.specs.Costs.{EndsAtRest}
use Rattle.model.specs.Examples.{cell, course, ground_of_row, swapping, following_plan, ground_of_square, turning_plan, turning, leader, follower}

pub across : {p q : Position} → p ≡ q → p.x ≡ q.x
across e = ap (λ p. p.x) e

pub no_meeting : (t : ℕ) (c : Cell) → HasPlanFault ground_of_row swapping (Vertex 0 1 t c) → ⊥
no_meeting zero c h = let apart = across (h.1 ∙ sym h.2) in cc
no_meeting (suc zero) c h = let apart = across (h.1 ∙ sym h.2) in cc
no_meeting (suc (suc t)) c h = let apart = across (h.1 ∙ sym h.2) in cc

pub off_the_row : IsLegal ground_of_row (position_of (cell 0 0)) (moved W (position_of (cell 0 0))) → ⊥
off_the_row h = let left = across h.is_to in cc

pub to_the_east : (x : ℕ) → IsStraightStep ground_of_row (cell x 0) (cell (x + 1) 0) → IsLegal ground_of_row (position_of (cell x 0)) (position_of (cell (x + 1) 0))
to_the_east x step = record { u = cell x 0; v = cell (x + 1) 0; is_from = refl; is_to = refl; step = step }

pub follows : (f : PlanFault) → HasPlanFault ground_of_row following_plan f → ⊥
follows (BadStart zero) h = h (λ e. cc)
follows (BadStart (suc zero)) h = h (λ e. cc)
follows (BadStart (suc (suc i))) h = h
follows (BadMove zero zero) h = h.1 (to_the_east 1 (record { side = inr (refl, inr refl); joined = refl }))
follows (BadMove zero (suc zero)) h = h.0 refl
follows (BadMove zero (suc (suc s))) h = h
follows (BadMove (suc zero) zero) h = h.1 (to_the_east 0 (record { side = inr (refl, inr refl); joined = refl }))
follows (BadMove (suc zero) (suc s)) h = h
follows (BadMove (suc (suc i)) s) h = h
follows (Vertex zero zero t c) h = omega (arith, h.0)
follows (Vertex zero (suc zero) zero c) h = let apart = across (h.1 ∙ sym h.2) in cc
follows (Vertex zero (suc zero) (suc zero) c) h = let apart = across (h.1 ∙ sym h.2) in cc
follows (Vertex zero (suc zero) (suc (suc t)) c) h = let apart = across (h.1 ∙ sym h.2) in cc
follows (Vertex zero (suc (suc j)) t c) h = h.2
follows (Vertex (suc zero) zero t c) h = omega (arith, h.0)
follows (Vertex (suc zero) (suc zero) t c) h = omega (arith, h.0)
follows (Vertex (suc zero) (suc (suc j)) t c) h = h.2
follows (Vertex (suc (suc i)) j t c) h = h.1
follows (Swap zero zero s) h = omega (arith, h.0)
follows (Swap zero (suc zero) zero) h = let apart = across (h.5 ∙ sym h.6) in cc
follows (Swap zero (suc zero) (suc zero)) h = h.3 (sym h.4 ∙ h.5)
follows (Swap zero (suc zero) (suc (suc s))) h =
    let one : suc (suc s) + 1 ≡ suc (suc (suc s)) = omega arith in
    h.3 (sym h.4 ∙ subst (λ n. IsAt following_plan 0 n h.2) one h.5)
follows (Swap zero (suc (suc j)) s) h = h.6
follows (Swap (suc zero) zero s) h = omega (arith, h.0)
follows (Swap (suc zero) (suc zero) s) h = omega (arith, h.0)
follows (Swap (suc zero) (suc (suc j)) s) h = h.6
follows (Swap (suc (suc i)) j s) h = h.4
follows OutOfMemory h = h

down : {p q : Position} → p ≡ q → p.y ≡ q.y
down e = ap (λ p. p.y) e

next : (s : ℕ) → suc s + 1 ≡ suc (suc s)
next s = omega arith

-- four agents turn round in a square, and nobody is in another's way
legal : (u v : Cell) → IsStraightStep ground_of_square u v → IsLegal ground_of_square (position_of u) (position_of v)
legal u v step = record { u = u; v = v; is_from = refl; is_to = refl; step = step }

pub turn_round : (f : PlanFault) → HasPlanFault ground_of_square turning_plan f → ⊥
turn_round (BadStart zero) h = h (λ e. cc)
turn_round (BadStart (suc zero)) h = h (λ e. cc)
turn_round (BadStart (suc (suc zero))) h = h (λ e. cc)
turn_round (BadStart (suc (suc (suc zero)))) h = h (λ e. cc)
turn_round (BadStart (suc (suc (suc (suc i))))) h = h
turn_round (BadMove zero zero) h = h.1 (legal (cell 0 0) (cell 1 0) (record { side = inr (refl, inr refl); joined = refl }))
turn_round (BadMove zero (suc s)) h = h
turn_round (BadMove (suc zero) zero) h = h.1 (legal (cell 1 0) (cell 1 1) (record { side = inl (refl, inr refl); joined = refl }))
turn_round (BadMove (suc zero) (suc s)) h = h
turn_round (BadMove (suc (suc zero)) zero) h = h.1 (legal (cell 1 1) (cell 0 1) (record { side = inr (refl, inl refl); joined = refl }))
turn_round (BadMove (suc (suc zero)) (suc s)) h = h
turn_round (BadMove (suc (suc (suc zero))) zero) h = h.1 (legal (cell 0 1) (cell 0 0) (record { side = inl (refl, inl refl); joined = refl }))
turn_round (BadMove (suc (suc (suc zero))) (suc s)) h = h
turn_round (BadMove (suc (suc (suc (suc i)))) s) h = h
turn_round (Vertex zero zero t c) h = omega (arith, h.0)
turn_round (Vertex zero (suc zero) zero c) h = (let apart = across (h.1 ∙ sym h.2) in cc)
turn_round (Vertex zero (suc zero) (suc t) c) h = (let apart = down (h.1 ∙ sym h.2) in cc)
turn_round (Vertex zero (suc (suc zero)) zero c) h = (let apart = across (h.1 ∙ sym h.2) in cc)
turn_round (Vertex zero (suc (suc zero)) (suc t) c) h = (let apart = across (h.1 ∙ sym h.2) in cc)
turn_round (Vertex zero (suc (suc (suc zero))) zero c) h = (let apart = down (h.1 ∙ sym h.2) in cc)
turn_round (Vertex zero (suc (suc (suc zero))) (suc t) c) h = (let apart = across (h.1 ∙ sym h.2) in cc)
turn_round (Vertex zero (suc (suc (suc (suc j)))) t c) h = h.2
turn_round (Vertex (suc zero) zero t c) h = omega (arith, h.0)
turn_round (Vertex (suc zero) (suc zero) t c) h = omega (arith, h.0)
turn_round (Vertex (suc zero) (suc (suc zero)) zero c) h = (let apart = down (h.1 ∙ sym h.2) in cc)
turn_round (Vertex (suc zero) (suc (suc zero)) (suc t) c) h = (let apart = across (h.1 ∙ sym h.2) in cc)
turn_round (Vertex (suc zero) (suc (suc (suc zero))) zero c) h = (let apart = across (h.1 ∙ sym h.2) in cc)
turn_round (Vertex (suc zero) (suc (suc (suc zero))) (suc t) c) h = (let apart = across (h.1 ∙ sym h.2) in cc)
turn_round (Vertex (suc zero) (suc (suc (suc (suc j)))) t c) h = h.2
turn_round (Vertex (suc (suc zero)) zero t c) h = omega (arith, h.0)
turn_round (Vertex (suc (suc zero)) (suc zero) t c) h = omega (arith, h.0)
turn_round (Vertex (suc (suc zero)) (suc (suc zero)) t c) h = omega (arith, h.0)
turn_round (Vertex (suc (suc zero)) (suc (suc (suc zero))) zero c) h = (let apart = across (h.1 ∙ sym h.2) in cc)
turn_round (Vertex (suc (suc zero)) (suc (suc (suc zero))) (suc t) c) h = (let apart = down (h.1 ∙ sym h.2) in cc)
turn_round (Vertex (suc (suc zero)) (suc (suc (suc (suc j)))) t c) h = h.2
turn_round (Vertex (suc (suc (suc zero))) zero t c) h = omega (arith, h.0)
turn_round (Vertex (suc (suc (suc zero))) (suc zero) t c) h = omega (arith, h.0)
turn_round (Vertex (suc (suc (suc zero))) (suc (suc zero)) t c) h = omega (arith, h.0)
turn_round (Vertex (suc (suc (suc zero))) (suc (suc (suc zero))) t c) h = omega (arith, h.0)
turn_round (Vertex (suc (suc (suc zero))) (suc (suc (suc (suc j)))) t c) h = h.2
turn_round (Vertex (suc (suc (suc (suc i)))) j t c) h = h.1
turn_round (Swap zero zero s) h = omega (arith, h.0)
turn_round (Swap zero (suc zero) zero) h = (let apart = across (h.7 ∙ sym h.4) in cc)
turn_round (Swap zero (suc zero) (suc s)) h = h.3 (sym h.4 ∙ subst (λ n. IsAt turning_plan 0 n h.2) (next s) h.5)
turn_round (Swap zero (suc (suc zero)) zero) h = (let apart = down (h.5 ∙ sym h.6) in cc)
turn_round (Swap zero (suc (suc zero)) (suc s)) h = h.3 (sym h.4 ∙ subst (λ n. IsAt turning_plan 0 n h.2) (next s) h.5)
turn_round (Swap zero (suc (suc (suc zero))) zero) h = (let apart = across (h.5 ∙ sym h.6) in cc)
turn_round (Swap zero (suc (suc (suc zero))) (suc s)) h = h.3 (sym h.4 ∙ subst (λ n. IsAt turning_plan 0 n h.2) (next s) h.5)
turn_round (Swap zero (suc (suc (suc (suc j)))) s) h = h.6
turn_round (Swap (suc zero) zero s) h = omega (arith, h.0)
turn_round (Swap (suc zero) (suc zero) s) h = omega (arith, h.0)
turn_round (Swap (suc zero) (suc (suc zero)) zero) h = (let apart = across (h.7 ∙ sym h.4) in cc)
turn_round (Swap (suc zero) (suc (suc zero)) (suc s)) h = h.3 (sym h.4 ∙ subst (λ n. IsAt turning_plan 1 n h.2) (next s) h.5)
turn_round (Swap (suc zero) (suc (suc (suc zero))) zero) h = (let apart = across (h.5 ∙ sym h.6) in cc)
turn_round (Swap (suc zero) (suc (suc (suc zero))) (suc s)) h = h.3 (sym h.4 ∙ subst (λ n. IsAt turning_plan 1 n h.2) (next s) h.5)
turn_round (Swap (suc zero) (suc (suc (suc (suc j)))) s) h = h.6
turn_round (Swap (suc (suc zero)) zero s) h = omega (arith, h.0)
turn_round (Swap (suc (suc zero)) (suc zero) s) h = omega (arith, h.0)
turn_round (Swap (suc (suc zero)) (suc (suc zero)) s) h = omega (arith, h.0)
turn_round (Swap (suc (suc zero)) (suc (suc (suc zero))) zero) h = (let apart = across (h.7 ∙ sym h.4) in cc)
turn_round (Swap (suc (suc zero)) (suc (suc (suc zero))) (suc s)) h = h.3 (sym h.4 ∙ subst (λ n. IsAt turning_plan 2 n h.2) (next s) h.5)
turn_round (Swap (suc (suc zero)) (suc (suc (suc (suc j)))) s) h = h.6
turn_round (Swap (suc (suc (suc zero))) zero s) h = omega (arith, h.0)
turn_round (Swap (suc (suc (suc zero))) (suc zero) s) h = omega (arith, h.0)
turn_round (Swap (suc (suc (suc zero))) (suc (suc zero)) s) h = omega (arith, h.0)
turn_round (Swap (suc (suc (suc zero))) (suc (suc (suc zero))) s) h = omega (arith, h.0)
turn_round (Swap (suc (suc (suc zero))) (suc (suc (suc (suc j)))) s) h = h.6
turn_round (Swap (suc (suc (suc (suc i)))) j s) h = h.4
turn_round OutOfMemory h = h

pub turns_by : (from to : Cell) (act : Act) → EndsAtRest (turning from to) → moved act (position_of from) ≡ position_of to → IsTrackOf (record { start = from; acts = act ∷ [] }) (turning from to)
turns_by from to act at_rest e = record { at_rest = at_rest; places = each } where
  each : (t : ℕ) → position_of (cell_at (turning from to) t) ≡ position_at (record { start = from; acts = act ∷ [] }) t
  each zero = refl
  each (suc t) = sym e

pub leads : (t : ℕ) → position_of (cell_at leader t) ≡ position_at (course 1 (E ∷ Wait ∷ [])) t
leads zero = refl
leads (suc zero) = refl
leads (suc (suc t)) = refl

pub comes_behind : (t : ℕ) → position_of (cell_at follower t) ≡ position_at (course 0 (E ∷ [])) t
comes_behind zero = refl
comes_behind (suc t) = refl
