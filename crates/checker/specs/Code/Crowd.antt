-- What a step does to walkers, and to the squares among which they go.
use Rattle.std.specs.Prelude.{◌≡◌, ◌≢◌, ℕ, ◌+◌, ◌-◌, ◌%◌, ◌^◌, ◌<◌}
use Rattle.std.specs.Prelude.{◌≤◌, ◌⊎◌, List, length, get_or, cond, ◌==◌}
use Rattle.model.specs.declared.act.Act.{Act}
use Rattle.model.specs.declared.act.Act.TheVariants.{N, E, S, W, Wait}
use Rattle.checker.specs.declared.board.Square.{Square}
use Rattle.checker.specs.declared.crowd.Walker.{Walker}
use Rattle.checker.specs.declared.crowd.Turn.{Turn}
use Rattle.checker.specs.declared.crowd.Turns.{Turns}
use Rattle.checker.specs.Code.Squares.{ground_in, mark_in, square_at, IsOfStep}

-- ---- acts

abbrev pub number_of_act : Act → ℕ
number_of_act N = 0
number_of_act E = 1
number_of_act S = 2
number_of_act W = 3
number_of_act Wait = 4

-- the mark that an act in the opposite direction leaves, where the marks of the step begin with the
-- first; none does of a wait
abbrev pub against_of : ℕ → Act → ℕ
against_of first N = first + 2
against_of first E = first + 3
against_of first S = first
against_of first W = first + 1
against_of first Wait = 63

-- by how much the place grows, and by how much it falls
abbrev pub forward_of : ℕ → Act → ℕ
forward_of wide N = 0
forward_of wide E = 1
forward_of wide S = wide
forward_of wide W = 0
forward_of wide Wait = 0

abbrev pub back_of : ℕ → Act → ℕ
back_of wide N = wide
back_of wide E = 0
back_of wide S = 0
back_of wide W = 1
back_of wide Wait = 0

abbrev pub no_turn : Turn
no_turn = record { ahead = 0; back = 0; mark = 0; against = 0 }

abbrev pub turn_by : Turns → Act → Turn
turn_by turns act = get_or turns.by_act (number_of_act act) no_turn

pub record IsActTurn (wide first : ℕ) (act : Act) (turn : Turn) : Type 0 where
  pub ahead : turn.ahead ≡ forward_of wide act
  pub back : turn.back ≡ back_of wide act
  pub mark : turn.mark ≡ first + number_of_act act
  pub against : turn.against ≡ against_of first act

-- each act has its own mark, and looks for that of the act against it
pub record AreMarks (turns : Turns) : Type 0 where
  pub small : turns.first < 50
  pub each : (act : Act) → (turn_by turns act).mark ≡ turns.first + number_of_act act
  pub against : (act : Act) → (turn_by turns act).against ≡ against_of turns.first act

pub record AreActTurns (wide : ℕ) (turns : Turns) : Type 0 where
  pub marks : AreMarks turns
  pub each : (act : Act) → IsActTurn wide turns.first act (turn_by turns act)

-- ---- a walker and its act

abbrev pub walker_at : List Walker → ℕ → Walker
walker_at walkers k = get_or walkers k (record { place = 0; ground = 0; agent = 0 })

-- where the act leads
abbrev pub led_to : Turns → Act → ℕ → ℕ
led_to turns act place = (place + (turn_by turns act).ahead) - (turn_by turns act).back

-- wherever an act leads from there, there is a square
pub record IsInside (turns : Turns) (count place : ℕ) : Type 0 where
  pub here : place < count
  pub fits : (act : Act) → place + (turn_by turns act).ahead < 2 ^ 32
  pub back : (act : Act) → (turn_by turns act).back ≤ place + (turn_by turns act).ahead
  pub there : (act : Act) → led_to turns act place < count

abbrev pub AreInside : Turns → ℕ → List Walker → Type 0
AreInside turns count walkers =
    (k : ℕ) → k < length walkers → IsInside turns count (walker_at walkers k).place

-- the squares have the grounds that they had
pub record KeepGrounds (old new : List Square) : Type 0 where
  pub count : length new ≡ length old
  pub each : (place : ℕ) → ground_in (square_at new place) ≡ ground_in (square_at old place)

-- The act is allowed, as far as the squares tell: it leads to the walker's ground, where nobody
-- came in this step, and nobody came in this step from there.
pub record IsAllowed (turns : Turns) (act : Act) (walker : Walker)
    (squares : List Square) : Type 0 where
  pub ground : ground_in (square_at squares (led_to turns act walker.place)) ≡ walker.ground
  pub nobody
      : IsOfStep turns.first (mark_in (square_at squares (led_to turns act walker.place))) → ⊥
  pub against : mark_in (square_at squares walker.place) ≢ (turn_by turns act).against

-- the act is not allowed, for one of these reasons
abbrev pub IsActRefused : Turns → Act → Walker → List Square → Type 0
IsActRefused turns act walker squares =
    (ground_in (square_at squares (led_to turns act walker.place)) ≢ walker.ground)
    ⊎ IsOfStep turns.first (mark_in (square_at squares (led_to turns act walker.place)))
    ⊎ (mark_in (square_at squares walker.place) ≡ (turn_by turns act).against)

-- The act left its mark where it led; where the walker was, a mark of the step stays, and any other
-- is gone; all other marks stay.
pub record IsMarked (turns : Turns) (act : Act) (place : ℕ) (old new : List Square) : Type 0 where
  pub own : mark_in (square_at new (led_to turns act place)) ≡ (turn_by turns act).mark
  pub others : (other : ℕ) → other ≢ led_to turns act place
      → IsOfStep turns.first (mark_in (square_at old other))
      → mark_in (square_at new other) ≡ mark_in (square_at old other)
  pub left : place ≢ led_to turns act place
      → (IsOfStep turns.first (mark_in (square_at old place)) → ⊥)
      → mark_in (square_at new place) ≡ 0
  pub elsewhere : (other : ℕ) → other ≢ led_to turns act place → other ≢ place
      → mark_in (square_at new other) ≡ mark_in (square_at old other)

-- ---- a step of all walkers

-- past the last act anything may stand for it
abbrev pub act_at : List Act → ℕ → Act
act_at acts k = get_or acts k N

-- where a walker comes in the step
abbrev pub comes_to : Turns → List Act → List Walker → ℕ → ℕ
comes_to turns acts walkers k = led_to turns (act_at acts k) (walker_at walkers k).place

-- each walker is where its act led
pub record AreLed (turns : Turns) (acts : List Act) (old new : List Walker) : Type 0 where
  pub count : length new ≡ length old
  pub each : (k : ℕ) → k < length old
      → walker_at new k ≡ record (walker_at old k) { place = comes_to turns acts old k }

-- The first so many walkers come to their own ground, no two to one square, and none from where one
-- goes that came before it.
pub record AreAllowed (turns : Turns) (acts : List Act) (walkers : List Walker)
    (squares : List Square) (count : ℕ) : Type 0 where
  pub ground : (k : ℕ) → k < count → ground_in (square_at squares (comes_to turns acts walkers k))
      ≡ (walker_at walkers k).ground
  pub apart : (j k : ℕ) → j < k → k < count
      → comes_to turns acts walkers j ≢ comes_to turns acts walkers k
  pub against
      : (j k : ℕ) → j < k → k < count → comes_to turns acts walkers j ≡ (walker_at walkers k).place
      → (turn_by turns (act_at acts j)).mark ≢ (turn_by turns (act_at acts k)).against

-- the first so many walkers left their marks
abbrev pub AreMarked : Turns → List Act → List Walker → List Square → ℕ → Type 0
AreMarked turns acts walkers squares count =
    (k : ℕ) → k < count → mark_in (square_at squares (comes_to turns acts walkers k))
    ≡ (turn_by turns (act_at acts k)).mark

-- ---- what is suspected

-- A walker comes to ground that isn't its own, or two come to one square, or one goes against
-- another that came before it to where it was.
abbrev pub AreSuspect : Turns → List Act → List Walker → List Square → Type 0
AreSuspect turns acts walkers squares =
    ((k : ℕ) × (k < length walkers)
    × (ground_in (square_at squares (comes_to turns acts walkers k))
    ≢ (walker_at walkers k).ground))
    ⊎ ((j : ℕ) × (k : ℕ) × (j < k) × (k < length walkers)
    × (comes_to turns acts walkers j ≡ comes_to turns acts walkers k))
    ⊎ ((j : ℕ) × (k : ℕ) × (j < k) × (k < length walkers)
    × (comes_to turns acts walkers j ≡ (walker_at walkers k).place)
    × ((turn_by turns (act_at acts j)).mark ≡ (turn_by turns (act_at acts k)).against))

-- ---- the marks of one step after another

-- the least mark of a step
abbrev pub first_mark : ℕ → ℕ
first_mark step = cond (step % 2 == 0) 1 6

abbrev pub IsWalkerAt : List Walker → ℕ → Type 0
IsWalkerAt walkers place = (k : ℕ) × (k < length walkers) × ((walker_at walkers k).place ≡ place)

-- each mark is one of the step whose marks begin with the first, and a walker is there
abbrev pub AreMarksOf : ℕ → List Walker → List Square → Type 0
AreMarksOf first walkers squares =
    (place : ℕ) → (mark_in (square_at squares place) ≡ 0)
    ⊎ (IsOfStep first (mark_in (square_at squares place)) × IsWalkerAt walkers place)

-- no mark is one of both steps
abbrev pub AreApart : ℕ → ℕ → Type 0
AreApart first other = (mark : ℕ) → IsOfStep first mark → IsOfStep other mark → ⊥

-- All marks are those of a step before this one, none of which could be taken for one of this step.
pub record AreOldMarks (first : ℕ) (walkers : List Walker) (squares : List Square) : Type 0 where
  pub before : ℕ
  pub small : before < 50
  pub apart : AreApart before first
  pub marks : AreMarksOf before walkers squares
