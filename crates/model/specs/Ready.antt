-- Agents that are ready to go on, and what brings them on: the words of laws by which a completion
-- is found.
use Rattle.std.specs.Prelude.{◌≡◌, ℕ, ◌+◌, ◌≤◌, Bool, false}
use Rattle.std.specs.Prelude.{if◌then◌else◌, List, [], ◌∷◌, ◌++◌, None}
use Rattle.model.specs.declared.event.Event.{Event}
use Rattle.model.specs.declared.event.Event.TheVariants.{Finish, Restart}
use Rattle.model.specs.declared.version.Version.{Version}
use Rattle.model.specs.Timetable.{Timetable}
use Rattle.model.specs.Messages.{Message, told}
use Rattle.model.specs.History.{History, armed_of, is_broken, kept_starts, done, messages, known}

-- The agent's last write didn't fail, its next one will not, and each move that it has begun is
-- finished.
pub record IsReady (h : History) (i : ℕ) : Type 0 where
  pub sound : is_broken h i ≡ false
  pub unarmed : armed_of h i ≡ None
  pub still : kept_starts h i ≡ done h i

-- who is ready stays so
abbrev pub StayReady : History → History → Type 0
StayReady h new = (k : ℕ) → IsReady h k → IsReady new k

-- Of all agents but one nothing changes.
pub record KeepsOthers (version : Version) (tt : Timetable) (i : ℕ) (h new : History) : Type 0 where
  pub broken : (k : ℕ) → (k ≡ i → ⊥) → is_broken new k ≡ is_broken h k
  pub armed : (k : ℕ) → (k ≡ i → ⊥) → armed_of new k ≡ armed_of h k
  pub begun : (k : ℕ) → (k ≡ i → ⊥) → kept_starts new k ≡ kept_starts h k
  pub finished : (k : ℕ) → (k ≡ i → ⊥) → done new k ≡ done h k
  pub known : (k j : ℕ) → (k ≡ i → ⊥) → known version tt new k j ≡ known version tt h k j

-- the agent finishes the move that it makes, if it makes one
abbrev pub finish_events : (moving : Bool) → ℕ → List Event
finish_events moving i = if moving then Finish i ∷ [] else []

-- it is opened anew before, if that is asked
abbrev pub rest_events : (opened moving : Bool) → ℕ → List Event
rest_events opened moving i =
    if opened then Restart i ∷ finish_events moving i else finish_events moving i

-- The agent comes to be ready, with all moves finished that it has begun. What it knew it still
-- knows, unless it was opened anew.
pub record ComesToRest (version : Version) (tt : Timetable) (opened : Bool) (i : ℕ)
    (h new : History) : Type 0 where
  pub ready : IsReady new i
  pub finished : done new i ≡ kept_starts h i
  pub messages : messages version tt new ≡ messages version tt h
  pub known : opened ≡ false → (j : ℕ) → known version tt new i j ≡ known version tt h i j
  pub others : KeepsOthers version tt i h new

-- The agent makes one move more.
pub record MovesOn (version : Version) (tt : Timetable) (i : ℕ) (h new : History) : Type 0 where
  pub ready : StayReady h new
  pub own : done new i ≡ done h i + 1
  pub others : (k : ℕ) → (k ≡ i → ⊥) → done new k ≡ done h k
  pub messages : messages version tt new ≡ messages version tt h
  pub known : (k j : ℕ) → known version tt new k j ≡ known version tt h k j

-- The agent says a message that tells all moves that it has finished.
pub record SpeaksUp (version : Version) (tt : Timetable) (i : ℕ) (h new : History)
    (message : Message) : Type 0 where
  pub ready : StayReady h new
  pub finished : (k : ℕ) → done new k ≡ done h k
  pub messages : messages version tt new ≡ messages version tt h ++ message ∷ []
  pub known : (k j : ℕ) → known version tt new k j ≡ known version tt h k j
  pub tells : done h i ≤ told message i

-- The agent comes to know what the message tells, and nobody knows less.
pub record Learns (version : Version) (tt : Timetable) (i : ℕ) (h new : History)
    (message : Message) : Type 0 where
  pub ready : StayReady h new
  pub finished : (k : ℕ) → done new k ≡ done h k
  pub messages : messages version tt new ≡ messages version tt h
  pub learns : (j : ℕ) → told message j ≤ known version tt new i j
  pub known : (k j : ℕ) → known version tt h k j ≤ known version tt new k j
