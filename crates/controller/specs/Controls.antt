-- What a control loop keeps beside its agent, and what it does next.
use Rattle.std.specs.Prelude.{ℕ, ◌-◌, ◌==◌, ◌&&◌, ◌||◌, Bool, true, false, not, max}
use Rattle.std.specs.Prelude.{if◌then◌else◌, nat_lt, Option, None, Some}
use Rattle.controller.specs.declared.control.Control.{Control}
use Rattle.controller.specs.declared.control.Wants.{Wants}
use Rattle.controller.specs.declared.control.Due.{Due}
use Rattle.controller.specs.declared.control.Due.TheVariants.{Finish, Start, Go, Ask, Tell, Nothing}

-- ---- what is next

abbrev pub due_to_tell : Control → Due
due_to_tell c = if c.wants.tell then Tell else Nothing

abbrev pub due_to_ask : Control → Due
due_to_ask c = if c.wants.ask then Ask else due_to_tell c

-- the drive may be let go if the loop wants it, and has listened
abbrev pub due_to_go : Control → Due
due_to_go c = if c.wants.go && (c.listens == 0) then Go else due_to_ask c

-- A move may begin if the loop wants it. It has to have listened, and not to be stopped, unless the
-- drive is ahead of the tape: then the move has begun already.
abbrev pub may_start : Control → (place done : ℕ) → Bool
may_start c place done =
    c.wants.start && (nat_lt done place || ((c.listens == 0) && not c.is_stopped))

-- The drive is in a place, and the tape has a move that was begun: the one behind so many that are
-- finished.
abbrev pub due_on_the_way : Control → (place done : ℕ) → Due
due_on_the_way c place done = if nat_lt done place then Finish else due_to_go c

-- It is in a place, and the tape has none. A loop that was stopped has the drive stay.
abbrev pub due_standing : Control → (place done : ℕ) → Due
due_standing c place done =
    if may_start c place done then Start
    else (if c.is_stopped then due_to_go c else due_to_ask c)

-- it is in that place, if a report says so
abbrev pub due_by : Control → Option ℕ → (done : ℕ) → (is_moving : Bool) → Due
due_by c None done is_moving = due_to_ask c
due_by c (Some place) done true = due_on_the_way c place done
due_by c (Some place) done false = due_standing c place done

-- of an agent that isn't broken; a loop whose tape is an older one only tells
abbrev pub due_for : Control → (done : ℕ) → (is_moving : Bool) → Due
due_for c done is_moving =
    if c.is_stale then due_to_tell c else due_by c c.drive done is_moving

-- how many moves behind the one at hand the drive may be told of
abbrev pub most_ahead : Control → ℕ → ℕ
most_ahead c ahead = if c.is_stopped then 0 else ahead

-- ---- what changes

abbrev pub all_wanted : Wants
all_wanted = record { start = true; go = true; ask = true; tell = true }

-- a tape was just opened; nothing is known of the drive
abbrev pub opened : (far listens : ℕ) → Control
opened far listens = record {
  drive = None;
  is_misplaced = false;
  far = far;
  listens = listens;
  is_stopped = false;
  is_stale = false;
  wants = all_wanted;
}

abbrev pub starting : Wants → Wants
starting w = record w { start = true }

-- the drive reports that it is in a place, or what fits none
abbrev pub placed : Control → ℕ → Control
placed c place = record c { drive = Some place; is_misplaced = false; wants = starting c.wants }

abbrev pub misplaced : Control → Control
misplaced c = record c { drive = None; is_misplaced = true }

-- some time has passed
abbrev pub ticked : Control → Control
ticked c = record c { listens = c.listens - 1; wants = all_wanted }

-- something was heard
abbrev pub heard : Control → Control
heard c = record c { wants = starting c.wants }

-- a message showed that the tape is an older one
abbrev pub stale : Control → Control
stale c = record c { is_stale = true }

-- no move begins any more, and the drive is told so
abbrev pub stopped : Control → Control
stopped c = record c { is_stopped = true; wants = record c.wants { go = true } }

-- A move was begun, or couldn't be. So many are begun then, and the drive may be as far as that.
abbrev pub started : Control → (begun : ℕ) → Control
started c begun =
    record c { far = max c.far begun; wants = record c.wants { start = false; go = true } }

abbrev pub not_started : Control → (begun : ℕ) → Control
not_started c begun =
    record c { far = max c.far begun; wants = record c.wants { start = false } }

-- a move was finished
abbrev pub finished_move : Control → Control
finished_move c = record c { wants = record c.wants { start = true; tell = true } }

-- the drive was told to go on, up to a place; or it was asked where it is
abbrev pub gone : Control → ℕ → Control
gone c far = record c { far = max c.far far; wants = record c.wants { go = false } }

abbrev pub asked_drive : Control → Control
asked_drive c = record c { wants = record c.wants { ask = false } }

-- the others were told
abbrev pub told_others : Control → Control
told_others c = record c { wants = record c.wants { tell = false } }
