-- The ground of a cell, and which cells a step joins.
use Rattle.std.proofs.Common.{◌≡◌, ◌≢◌, ℕ, Some, true, arith, refl, sym, subst, inl, inr, ◌∙◌}
use Rattle.grid.specs.declared.cell.Cell.{Cell}
use Rattle.grid.specs.declared.terrain.Terrain.{Terrain}
use Rattle.grid.specs.declared.terrain.Terrain.TheVariants.{Floor, Grass, Void, OutOfBounds, Trees, Swamp, Water}
use Rattle.grid.specs.Terrain.{Class, land, swamp, water, blocked, character_of, class_of, joins}
use Rattle.grid.specs.Map.{Grid, terrain_at, AreJoined}
use Rattle.model.specs.Plan.{IsPassable}
use Rattle.model.specs.Laws.Options.{some-found}
use Rattle.checker.specs.Code.Squares.{ground_by, IsOpen, HasGround}

abbrev ground_of_class : Class → ℕ
ground_of_class land = 1
ground_of_class swamp = 1
ground_of_class water = 2
ground_of_class blocked = 0

ground-character : (t : Terrain) → ground_by (character_of t) ≡ ground_of_class (class_of t)
ground-character Floor = refl
ground-character Grass = refl
ground-character Void = refl
ground-character OutOfBounds = refl
ground-character Trees = refl
ground-character Swamp = refl
ground-character Water = refl

blocked_is_closed : IsOpen 0 → ⊥
blocked_is_closed (inl e) = omega (arith, e)
blocked_is_closed (inr e) = omega (arith, e)

joins_by_ground : (c d : Class) → IsOpen (ground_of_class c) → ground_of_class c ≡ ground_of_class d → joins c d ≡ true
joins_by_ground land land h e = refl
joins_by_ground land swamp h e = refl
joins_by_ground land water h e = absurd (omega (arith, e))
joins_by_ground land blocked h e = absurd (omega (arith, e))
joins_by_ground swamp land h e = refl
joins_by_ground swamp swamp h e = refl
joins_by_ground swamp water h e = absurd (omega (arith, e))
joins_by_ground swamp blocked h e = absurd (omega (arith, e))
joins_by_ground water land h e = absurd (omega (arith, e))
joins_by_ground water swamp h e = absurd (omega (arith, e))
joins_by_ground water water h e = refl
joins_by_ground water blocked h e = absurd (omega (arith, e))
joins_by_ground blocked d h e = absurd (blocked_is_closed h)

ground_by_joins : (c d : Class) → joins c d ≡ true → ground_of_class c ≡ ground_of_class d
ground_by_joins land land h = refl
ground_by_joins land swamp h = refl
ground_by_joins land water h = cc
ground_by_joins land blocked h = cc
ground_by_joins swamp land h = refl
ground_by_joins swamp swamp h = refl
ground_by_joins swamp water h = cc
ground_by_joins swamp blocked h = cc
ground_by_joins water land h = cc
ground_by_joins water swamp h = cc
ground_by_joins water water h = refl
ground_by_joins water blocked h = cc
ground_by_joins blocked land h = cc
ground_by_joins blocked swamp h = cc
ground_by_joins blocked water h = cc
ground_by_joins blocked blocked h = refl

pub joined_by : (m : Grid) (u v : Cell) (g : ℕ) → IsOpen g → HasGround m u g → HasGround m v g → AreJoined (terrain_at m u) (terrain_at m v)
joined_by m u v g may_go hu hv =
    let first : g ≡ ground_of_class (class_of hu.terrain) = hu.ground ∙ ground-character hu.terrain in
    let second : g ≡ ground_of_class (class_of hv.terrain) = hv.ground ∙ ground-character hv.terrain in
    subst (λ o. AreJoined o (terrain_at m v)) (sym hu.has)
    (subst (λ o. AreJoined (Some hu.terrain) o) (sym hv.has)
    (joins_by_ground (class_of hu.terrain) (class_of hv.terrain) (subst IsOpen first may_go) (sym first ∙ second)))

pub grounds_joined : (m : Grid) (u v : Cell) (g h : ℕ) → HasGround m u g → HasGround m v h → AreJoined (terrain_at m u) (terrain_at m v) → g ≡ h
grounds_joined m u v g h hu hv joined =
    let one = subst (λ o. AreJoined o (terrain_at m v)) hu.has joined in
    let both = subst (λ o. AreJoined (Some hu.terrain) o) hv.has one in
    hu.ground ∙ ground-character hu.terrain ∙ ground_by_joins (class_of hu.terrain) (class_of hv.terrain) both ∙ sym (ground-character hv.terrain) ∙ sym hv.ground

open_class : (c : Class) → c ≢ blocked → IsOpen (ground_of_class c)
open_class land h = inl refl
open_class swamp h = inl refl
open_class water h = inr refl
open_class blocked h = absurd (h refl)

pub may_start : (m : Grid) (start : Cell) (ground : ℕ) → IsPassable m start → HasGround m start ground → IsOpen ground
may_start m start ground passable has =
    let some = some-found (terrain_at m start) (λ terrain. class_of terrain ≢ blocked) passable in
    let same : some.0 ≡ has.terrain = (let a = some.1 in let b = has.has in cc) in
    subst IsOpen (sym (ground-character has.terrain) ∙ sym has.ground) (open_class (class_of has.terrain) (subst (λ t. class_of t ≢ blocked) same some.2))
