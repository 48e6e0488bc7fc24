-- When what is due.
use Rattle.std.proofs.Common.{◌≡◌, ℕ, ◌<◌, Bool, true, false, Some, None, refl}
use Rattle.std.specs.Prelude.{if◌then◌else◌, nat_lt, ◌==◌, ◌&&◌, Option}
use Rattle.std.proofs.lemmas.Bool.{ltb-true, eqb-true, and_parts}
use Rattle.agent.specs.States.{finished_moves, is_on_the_way}
use Rattle.controller.specs.declared.control.Control.{Control}
use Rattle.controller.specs.declared.control.Due.{Due}
use Rattle.controller.specs.declared.control.Due.TheVariants.{Finish, Start, Go, Ask, Tell, Nothing}
use Rattle.controller.specs.Controls.{due_by, may_start}
use Rattle.controller.specs.Robots.{Robot}
use Rattle.controller.specs.Steps.{due_in}

-- the last wish is to tell
abbrev wish : Bool → Due
wish b = if b then Tell else Nothing

wish-finish : (b : Bool) → wish b ≡ Finish → ⊥
wish-finish true e = cc
wish-finish false e = cc

wish-start : (b : Bool) → wish b ≡ Start → ⊥
wish-start true e = cc
wish-start false e = cc

wish-go : (b : Bool) → wish b ≡ Go → ⊥
wish-go true e = cc
wish-go false e = cc

-- the one before it is to ask
abbrev lost : (ask tell : Bool) → Due
lost ask tell = if ask then Ask else wish tell

lost-finish : (ask tell : Bool) → lost ask tell ≡ Finish → ⊥
lost-finish true tell e = cc
lost-finish false tell e = wish-finish tell e

lost-start : (ask tell : Bool) → lost ask tell ≡ Start → ⊥
lost-start true tell e = cc
lost-start false tell e = wish-start tell e

lost-go : (ask tell : Bool) → lost ask tell ≡ Go → ⊥
lost-go true tell e = cc
lost-go false tell e = wish-go tell e

-- and before that to go
abbrev going : (go ask tell : Bool) → Due
going go ask tell = if go then Go else lost ask tell

going-finish : (go ask tell : Bool) → going go ask tell ≡ Finish → ⊥
going-finish true ask tell e = cc
going-finish false ask tell e = lost-finish ask tell e

going-start : (go ask tell : Bool) → going go ask tell ≡ Start → ⊥
going-start true ask tell e = cc
going-start false ask tell e = lost-start ask tell e

going-go : (go ask tell : Bool) → going go ask tell ≡ Go → go ≡ true
going-go true ask tell e = refl
going-go false ask tell e = absurd (lost-go ask tell e)

-- ---- on the way

abbrev way : (ahead go ask tell : Bool) → Due
way ahead go ask tell = if ahead then Finish else going go ask tell

way-finish : (ahead go ask tell : Bool) → way ahead go ask tell ≡ Finish → ahead ≡ true
way-finish true go ask tell e = refl
way-finish false go ask tell e = absurd (going-finish go ask tell e)

way-start : (ahead go ask tell : Bool) → way ahead go ask tell ≡ Start → ⊥
way-start true go ask tell e = cc
way-start false go ask tell e = going-start go ask tell e

way-go : (ahead go ask tell : Bool) → way ahead go ask tell ≡ Go → go ≡ true
way-go true go ask tell e = cc
way-go false go ask tell e = going-go go ask tell e

-- ---- where the agent stands

abbrev standing : (may stopped go ask tell : Bool) → Due
standing may stopped go ask tell = if may then Start else (if stopped then going go ask tell else lost ask tell)

standing-finish : (may stopped go ask tell : Bool) → standing may stopped go ask tell ≡ Finish → ⊥
standing-finish true stopped go ask tell e = cc
standing-finish false true go ask tell e = going-finish go ask tell e
standing-finish false false go ask tell e = lost-finish ask tell e

standing-start : (may stopped go ask tell : Bool) → standing may stopped go ask tell ≡ Start → may ≡ true
standing-start true stopped go ask tell e = refl
standing-start false true go ask tell e = absurd (going-start go ask tell e)
standing-start false false go ask tell e = absurd (lost-start ask tell e)

standing-go : (may stopped go ask tell : Bool) → standing may stopped go ask tell ≡ Go → go ≡ true
standing-go true stopped go ask tell e = cc
standing-go false true go ask tell e = going-go go ask tell e
standing-go false false go ask tell e = absurd (lost-go ask tell e)

-- ---- by where the drive is

module _ (c : Control) (done : ℕ) where
  abbrev may_go : Bool
  may_go = c.wants.go && (c.listens == 0)

  by-finish : (drive : Option ℕ) (moving : Bool) → due_by c drive done moving ≡ Finish → (place : ℕ) × (drive ≡ Some place) × (done < place) × (moving ≡ true)
  by-finish None moving e = absurd (lost-finish c.wants.ask c.wants.tell e)
  by-finish (Some place) true e = (place, refl, ltb-true done place (way-finish (nat_lt done place) may_go c.wants.ask c.wants.tell e), refl)
  by-finish (Some place) false e = absurd (standing-finish (may_start c place done) c.is_stopped may_go c.wants.ask c.wants.tell e)

  by-start : (drive : Option ℕ) (moving : Bool) → due_by c drive done moving ≡ Start → (place : ℕ) × (drive ≡ Some place) × (may_start c place done ≡ true) × (moving ≡ false)
  by-start None moving e = absurd (lost-start c.wants.ask c.wants.tell e)
  by-start (Some place) true e = absurd (way-start (nat_lt done place) may_go c.wants.ask c.wants.tell e)
  by-start (Some place) false e = (place, refl, standing-start (may_start c place done) c.is_stopped may_go c.wants.ask c.wants.tell e, refl)

  by-go : (drive : Option ℕ) (moving : Bool) → due_by c drive done moving ≡ Go → (place : ℕ) × (drive ≡ Some place) × (c.listens ≡ 0)
  by-go None moving e = absurd (lost-go c.wants.ask c.wants.tell e)
  by-go (Some place) true e =
      (place, refl, eqb-true _ _ (and_parts c.wants.go (c.listens == 0) (way-go (nat_lt done place) may_go c.wants.ask c.wants.tell e)).1)
  by-go (Some place) false e =
      (place, refl, eqb-true _ _ (and_parts c.wants.go (c.listens == 0) (standing-go (may_start c place done) c.is_stopped may_go c.wants.ask c.wants.tell e)).1)

  of-finish : (broken stale moving : Bool) → (if broken then Nothing else (if stale then wish c.wants.tell else due_by c c.drive done moving)) ≡ Finish
      → (broken ≡ false) × (stale ≡ false) × ((place : ℕ) × (c.drive ≡ Some place) × (done < place) × (moving ≡ true))
  of-finish true stale moving e = cc
  of-finish false true moving e = absurd (wish-finish c.wants.tell e)
  of-finish false false moving e = (refl, refl, by-finish c.drive moving e)

  of-start : (broken stale moving : Bool) → (if broken then Nothing else (if stale then wish c.wants.tell else due_by c c.drive done moving)) ≡ Start
      → (broken ≡ false) × (stale ≡ false) × ((place : ℕ) × (c.drive ≡ Some place) × (may_start c place done ≡ true) × (moving ≡ false))
  of-start true stale moving e = cc
  of-start false true moving e = absurd (wish-start c.wants.tell e)
  of-start false false moving e = (refl, refl, by-start c.drive moving e)

  of-go : (broken stale moving : Bool) → (if broken then Nothing else (if stale then wish c.wants.tell else due_by c c.drive done moving)) ≡ Go
      → (broken ≡ false) × (stale ≡ false) × ((place : ℕ) × (c.drive ≡ Some place) × (c.listens ≡ 0))
  of-go true stale moving e = cc
  of-go false true moving e = absurd (wish-go c.wants.tell e)
  of-go false false moving e = (refl, refl, by-go c.drive moving e)

-- a move is to be finished: it was begun, and the drive has come to its end or further
pub due-finish : (r : Robot) → due_in r ≡ Finish
    → (r.state.broken ≡ false) × (r.control.is_stale ≡ false)
    × ((place : ℕ) × (r.control.drive ≡ Some place) × (finished_moves r.state < place) × (is_on_the_way r.state ≡ true))
due-finish r e = of-finish r.control (finished_moves r.state) r.state.broken r.control.is_stale (is_on_the_way r.state) e

-- one is to begin
pub due-start : (r : Robot) → due_in r ≡ Start
    → (r.state.broken ≡ false) × (r.control.is_stale ≡ false)
    × ((place : ℕ) × (r.control.drive ≡ Some place) × (may_start r.control place (finished_moves r.state) ≡ true) × (is_on_the_way r.state ≡ false))
due-start r e = of-start r.control (finished_moves r.state) r.state.broken r.control.is_stale (is_on_the_way r.state) e

-- the drive is to go on: it is in a place that is known, and the loop has listened
pub due-go : (r : Robot) → due_in r ≡ Go
    → (r.state.broken ≡ false) × (r.control.is_stale ≡ false)
    × ((place : ℕ) × (r.control.drive ≡ Some place) × (r.control.listens ≡ 0))
due-go r e = of-go r.control (finished_moves r.state) r.state.broken r.control.is_stale (is_on_the_way r.state) e
