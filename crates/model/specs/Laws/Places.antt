-- Cells and places.
use Rattle.std.proofs.Common.{◌≡◌, ℕ, zero, suc, ◌≤◌, List, [], ◌∷◌, length, arith, refl, ap, ◌∙◌}
use Rattle.std.specs.Prelude.{nat_abs}
use Rattle.grid.specs.declared.cell.Cell.{Cell}
use Rattle.model.specs.declared.act.Act.{Act}
use Rattle.model.specs.Plan.{Position, position_of, moved, position_after}

-- different cells are different places
pub same_place : (u v : Cell) → position_of u ≡ position_of v → u ≡ v
same_place u v e =
    let across : u.x ≡ v.x = ap (λ p. nat_abs p.x) e in
    let down : u.y ≡ v.y = ap (λ p. nat_abs p.y) e in
    ap {A = ℕ} {B = Cell} (λ x. record { x = x; y = u.y }) across
    ∙ ap {A = ℕ} {B = Cell} (λ y. record { x = v.x; y = y }) down

-- after the last act the agent stays
pub position_after-end : (p : Position) (acts : List Act) (t : ℕ) → length acts ≤ t
    → position_after p acts t ≡ position_after p acts (length acts)
position_after-end p [] t h = refl
position_after-end p (a ∷ acts) zero h = absurd (omega (arith, h))
position_after-end p (a ∷ acts) (suc t) h = position_after-end (moved a p) acts t (omega (arith, h))
