-- What happens to one agent leaves the others as they are.
use Rattle.std.proofs.Common.{◌≡◌, ℕ, ◌+◌, eqb, Bool, true, false, cond, List}
use Rattle.std.proofs.Common.{[], ◌∷◌, ◌++◌, length, max, None, Some, refl, ap}
use Rattle.std.specs.Prelude.{Option, ◌&&◌, slice_get}
use Rattle.std.proofs.lemmas.Bool.{cond-false}
use Rattle.grid.specs.declared.cell.Cell.{Cell}
use Rattle.model.specs.declared.event.Event.{Event}
use Rattle.model.specs.declared.event.Event.TheVariants.{Start, Finish, Deliver, Restart, Tear}
use Rattle.model.specs.History.{Answer, moving, between, is_store_failed, is_opened}
use Rattle.model.specs.History.{is_armed, is_begun, is_ended, is_heard, armed_after}
use Rattle.model.specs.History.{broken_after, starts_of, finishes_of, told_of, known_after}
use Rattle.model.specs.Messages.{Message}
use Rattle.model.specs.Rules.{agent_of}
use Rattle.model.specs.Safety.{walk_after}

pub starts-other : (e : Event) (r : Answer) (i : ℕ) (tear : Option ℕ) → eqb (agent_of e) i ≡ false
    → starts_of e r i tear ≡ 0
starts-other (Start j) r i tear other = ap (λ b. cond (b && is_begun r tear) 1 0) other
starts-other e r i tear other = refl

pub finishes-other : (e : Event) (r : Answer) (i : ℕ) (tear : Option ℕ) → eqb (agent_of e) i ≡ false
    → finishes_of e r i tear ≡ 0
finishes-other (Finish j) r i tear other = ap (λ b. cond (b && is_ended r tear) 1 0) other
finishes-other e r i tear other = refl

pub armed-other : (e : Event) (r : Answer) (i : ℕ) (before : Option ℕ) → eqb (agent_of e) i ≡ false
    → armed_after e r i before ≡ before
armed-other (Start j) r i before other = ap (λ b. cond (b && is_store_failed r) None before) other
armed-other (Finish j) r i before other = ap (λ b. cond (b && is_store_failed r) None before) other
armed-other (Restart j) r i before other = ap (λ b. cond (b && is_opened r) None before) other
armed-other (Tear j n) r i before other = ap (λ b. cond (b && is_armed r) (Some n) before) other
armed-other e r i before other = refl

pub broken-other : (e : Event) (r : Answer) (i : ℕ) (before : Bool) → eqb (agent_of e) i ≡ false
    → broken_after e r i before ≡ before
broken-other (Start j) r i before other = ap (λ b. cond (b && is_store_failed r) true before) other
broken-other (Finish j) r i before other = ap (λ b. cond (b && is_store_failed r) true before) other
broken-other (Restart j) r i before other = ap (λ b. cond (b && is_opened r) false before) other
broken-other e r i before other = refl

pub known-other : (e : Event) (r : Answer) (ms : List Message) (i j before : ℕ)
    → eqb (agent_of e) i ≡ false → known_after e r ms i j before ≡ before
known-other (Deliver k m) r ms i j before other =
    ap (λ b. cond (b && is_heard r) (max before (told_of (slice_get ms m) j)) before) other
known-other (Restart k) r ms i j before other = ap (λ b. cond (b && is_opened r) 0 before) other
known-other e r ms i j before other = refl

pub walk-other : (e : Event) (r : Answer) (i : ℕ) (walked : List Cell) → eqb (agent_of e) i ≡ false
    → walk_after e r i walked ≡ walked
walk-other (Start j) (moving c) i walked other = cond-false (eqb j i) _ walked other
walk-other (Start j) r i walked other = refl
walk-other (Restart j) (between u c k) i walked other =
    ap (λ b. cond (b && eqb (length walked) (k + 1)) (walked ++ c ∷ []) walked) other
walk-other (Restart j) r i walked other = refl
walk-other e r i walked other = refl
