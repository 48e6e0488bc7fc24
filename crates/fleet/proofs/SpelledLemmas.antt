-- What a fleet said, beside the messages of its run.
use Rattle.std.proofs.Common.{◌≡◌, ℕ, zero, suc, ◌^◌, ◌<◌, List, [], ◌∷◌, ◌++◌, length, Some, refl, sym, ap, subst, arith}
use Rattle.std.specs.Prelude.{◌⊎◌, slice_get}
use Rattle.std.specs.List.{AllByRecursion}
use Rattle.std.proofs.lemmas.Option.{same_Some, none-some, slice_get_within}
use Rattle.model.specs.declared.entry.Entry.{Entry}
use Rattle.model.specs.declared.version.Version.{Version}
use Rattle.model.specs.declared.version.Version.TheVariants.{One, Two}
use Rattle.model.specs.History.{History, done, known}
use Rattle.model.specs.Messages.{Message, number_told, message_said}
use Rattle.model.specs.Speech.{WasSaid}
use Rattle.model.specs.Timetable.{Timetable}
use Rattle.model.specs.Laws.Entries.{entries-few}
use Rattle.agent.specs.Tellings.{Telling, IsInRange, IsOne, IsTwo, BytesTell}
use Rattle.fleet.specs.Fleets.{IsTellable}
use Rattle.fleet.specs.Laws.Telling.{sender-there}

-- what a message tells under the number of a timetable
abbrev pub telling_in : Timetable → Message → Telling
telling_in table message = record { plan = table.number; message = message }

-- the bytes spell the message, at one version or the other
abbrev pub Spells : Timetable → List ℕ → Message → Type 0
Spells table bytes message = IsOne bytes (telling_in table message) ⊎ IsTwo bytes (telling_in table message)

-- each of these spells the message of its place
abbrev pub AreSpelled : Timetable → List (List ℕ) → List Message → Type 0
AreSpelled table [] [] = Unit {0}
AreSpelled table (bytes ∷ all) (message ∷ messages) = Spells table bytes message × AreSpelled table all messages
AreSpelled table _ _ = ⊥

pub spelled-more : (table : Timetable) (all more : List (List ℕ)) (messages others : List Message) → AreSpelled table all messages → AreSpelled table more others
    → AreSpelled table (all ++ more) (messages ++ others)
spelled-more table [] more [] others are and = and
spelled-more table [] more (message ∷ messages) others are and = absurd are
spelled-more table (bytes ∷ all) more [] others are and = absurd are
spelled-more table (bytes ∷ all) more (message ∷ messages) others are and = (are.0, spelled-more table all more messages others are.1 and)

pub spelled-count : (table : Timetable) (all : List (List ℕ)) (messages : List Message) → AreSpelled table all messages → length all ≡ length messages
spelled-count table [] [] are = refl
spelled-count table [] (message ∷ messages) are = absurd are
spelled-count table (bytes ∷ all) [] are = absurd are
spelled-count table (bytes ∷ all) (message ∷ messages) are = ap suc (spelled-count table all messages are.1)

pub spelled-at : (table : Timetable) (all : List (List ℕ)) (messages : List Message) (m : ℕ) (bytes : List ℕ) → AreSpelled table all messages → slice_get all m ≡ Some bytes
    → (message : Message) × (slice_get messages m ≡ Some message) × Spells table bytes message
spelled-at table [] [] m bytes are there = absurd (none-some bytes there)
spelled-at table [] (message ∷ messages) m bytes are there = absurd are
spelled-at table (first ∷ all) [] m bytes are there = absurd are
spelled-at table (first ∷ all) (message ∷ messages) zero bytes are there = (message, refl, subst (λ b. Spells table b message) (same_Some first bytes there) are.0)
spelled-at table (first ∷ all) (message ∷ messages) (suc m) bytes are there = spelled-at table all messages m bytes are.1 there

-- ---- what was said is within the ranges of its numbers

pub all-of : (P : Entry → Type 0) (es : List Entry) → ((n : ℕ) (e : Entry) → slice_get es n ≡ Some e → P e) → AllByRecursion P es
all-of P [] each = tt
all-of P (e ∷ es) each = (each 0 e refl, all-of P es (λ n. each (suc n)))

few-said : (v : Version) (agents i d : ℕ) (knows : ℕ → ℕ) → agents < 2 ^ 16 → length (message_said v agents i d knows).entries < 2 ^ 16
few-said One agents i d knows few = omega arith
few-said Two agents i d knows few = (let most = entries-few (number_told i d knows) 0 agents in omega (arith, most, few))

pub said-in_range : (v : Version) (table : Timetable) (h : History) (m : ℕ) (message : Message) → IsTellable table → WasSaid v table h m message → IsInRange (telling_in table message)
said-in_range v table h m message tellable was = record {
  plan = tellable.number;
  sender = (let there = sender-there v table h m message was in let few = tellable.agents in omega (arith, there, few));
  count = subst (λ x. length x.entries < 2 ^ 16) (sym was.tells)
      (few-said v (length table.tracks) was.agent (done was.earlier was.agent) (known v table was.earlier was.agent) tellable.agents);
  agents = all-of (λ e. e.agent < 2 ^ 16) message.entries (λ n e there.
      let own = was.entries n e there in
      let within = slice_get_within table.tracks e.agent own.0 own.1 in
      let few = tellable.agents in
      omega (arith, within, few));
  numbers = all-of (λ e. e.done < 2 ^ 32) message.entries (λ n e there.
      let own = was.entries n e there in
      let finished = own.2 in
      let most = own.3 in
      let few = tellable.each_moves e.agent own.0 own.1 in
      omega (arith, finished, most, few));
}

-- so its bytes tell it
pub spelled-tells : (v : Version) (table : Timetable) (h : History) (m : ℕ) (bytes : List ℕ) (message : Message) → IsTellable table → WasSaid v table h m message
    → Spells table bytes message → BytesTell bytes (telling_in table message)
spelled-tells v table h m bytes message tellable was spelled = record { in_range = said-in_range v table h m message tellable was; spelled = spelled }
