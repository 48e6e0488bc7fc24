-- An agent by itself, which keeps to its ground.
use Rattle.std.proofs.Common.{◌≡◌, ℕ, ◌+◌, ◌*◌, List, [], ◌∷◌, length, Some, refl, sym, ap, subst, ◌∙◌}
use Rattle.std.specs.Prelude.{slice_get}
use Rattle.grid.specs.Map.{Grid, IsSize}
use Rattle.model.specs.declared.act.Act.{Act}
use Rattle.model.specs.Plan.{Course, position_of, moved, position_at, IsPassable}
use Rattle.checker.specs.declared.board.Square.{Square}
use Rattle.checker.specs.declared.crowd.Turns.{Turns}
use Rattle.checker.specs.Code.Squares.{ground_in, square_at, wide_of, place_on, IsOpen, HasGround, IsSquareOf, IsBoard}
use Rattle.checker.specs.Code.Crowd.{led_to, AreActTurns, IsInside}
use Rattle.checker.specs.Code.UnderWay.{IsWalker}
use Rattle.checker.proofs.BoardLemmas.{from_place, inside}
use Rattle.checker.specs.Laws.Keeping.{HasKept, kept_next}
use Rattle.checker.specs.Laws.Walking.{moved-place}
use Rattle.checker.proofs.GroundLemmas.{may_start}
use Rattle.checker.proofs.UnderWayLemmas.{no_bad_move}
use Rattle.checker.proofs.UnderWayStarts.{starts_as}

-- ---- on a board

-- the agent's cell at the time is that of the place, with this ground
abbrev pub IsAlone : Grid → Course → ℕ → (place ground : ℕ) → Type 0
IsAlone m course t place ground = IsWalker m (course ∷ []) t (record { place = place; ground = ground; agent = 0 })

pub alone_at_start : (m : Grid) (course : Course) (place ground : ℕ) → IsPassable m course.start → place ≡ place_on m course.start
    → HasGround m course.start ground → IsAlone m course 0 place ground
alone_at_start m course place ground passable at has =
    starts_as m (course ∷ []) course (record { place = place; ground = ground; agent = 0 }) refl at has (may_start m course.start ground passable has)

pub alone_inside : (m : Grid) (course : Course) (t : ℕ) (turns : Turns) (squares : List Square) (place ground : ℕ) → IsSize m.width m.height
    → AreActTurns (wide_of m) turns → IsBoard m squares → IsAlone m course t place ground → IsInside turns (length squares) place
alone_inside m course t turns squares place ground size h board here =
    subst (λ n. IsInside turns n place) (sym board.size)
    (subst (IsInside turns ((m.height + 2) * wide_of m)) (sym here.place) (inside m turns here.cell size h here.ground.on_map))

at_cell : (m : Grid) (course : Course) (t place ground : ℕ) → (here : IsAlone m course t place ground) → position_of here.cell ≡ position_at course t
at_cell m course t place ground here =
    let same : here.course ≡ course = (let a = here.is_agent in cc) in
    here.at ∙ ap (λ k. position_at k t) same

-- an act that leads to the same ground
pub alone_next : (m : Grid) (course : Course) (step : ℕ) (turns : Turns) (squares : List Square) (act : Act) (place to ground : ℕ) → AreActTurns (wide_of m) turns
    → IsBoard m squares → slice_get course.acts step ≡ Some act → IsAlone m course step place ground → to ≡ led_to turns act place
    → ground_in (square_at squares to) ≡ ground → IsAlone m course (step + 1) to ground
alone_next m course step turns squares act place to ground h board acts here leads same =
    let there = subst (IsSquareOf m to) same (board.cells to (subst IsOpen (sym same) here.may_go)) in
    let moves : position_of there.cell ≡ moved act (position_of here.cell) =
    from_place m turns act here.cell there.cell h here.ground.on_map there.ground.on_map (sym there.at ∙ leads ∙ ap (led_to turns act) here.place) in
    record {
      course = course;
      is_agent = refl;
      cell = there.cell;
      at = moves ∙ moved-place course step here.cell act acts (at_cell m course step place ground here);
      place = there.at;
      ground = there.ground;
      may_go = here.may_go;
    }

-- so far the agent kept to its ground, if it is still there
pub kept_alone : (m : Grid) (course : Course) (step place to ground : ℕ) → HasKept m course step → IsAlone m course step place ground
    → IsAlone m course (step + 1) to ground → HasKept m course (step + 1)
kept_alone m course step place to ground kept here there =
    kept_next m course step there.cell kept (at_cell m course (step + 1) to ground there) there.ground.on_map
    (no_bad_move m (course ∷ []) step (record { place = place; ground = ground; agent = 0 }) (record { place = to; ground = ground; agent = 0 }) here there refl refl
    course refl)
