-- What the lines of answers say of the messages that were said and heard.
use Rattle.std.proofs.Common.{◌≡◌, ℕ, zero, suc, ◌/◌, ◌%◌, ◌<◌, List, [], ◌∷◌, ◌++◌, length, get_or, drop, lit<, Ok, Err, refl, sym, ap, ◌∙◌, subst, arith}
use Rattle.std.specs.Prelude.{codes}
use Rattle.std.specs.List.{flat_map}
use Rattle.hex.specs.Hex.{IsBytes, encode_lower, decode_of}
use Rattle.hex.proofs.HexLemmas.{decode_of-encode_lower}
use Rattle.model.specs.declared.entry.Entry.{Entry}
use Rattle.model.specs.declared.held.Held.TheVariants.{At, Between}
use Rattle.model.specs.declared.msg_fault.MsgFault.TheVariants.{BadLength, BadMagic, BadVersion, BadEntry}
use Rattle.model.specs.Messages.{Message, big_endian, message_bytes, entry_bytes, told_bytes}
use Rattle.model.specs.Timetable.{Track, Timetable}
use Rattle.agent.specs.States.{State}
use Rattle.agent.specs.declared.refusal.HearFault.TheVariants as fault
use Rattle.agent.specs.declared.refusal.TellFault.TheVariants as tell_fault
use Rattle.fleet.specs.Deeds.{Deed, opens, starts, finishes, says, tells, hears, holds, looks, ends, stops, ends_starting, ends_finishing, Does}
use Rattle.fleet.specs.Fleets.{bytes_of, IsHonest}
use Rattle.robot.specs.Requests.{Request, start, finish, say, tell, held, may, hear, AsksFor}
use Rattle.robot.specs.Turns.{not_understood, stale_tape, deed_line, IsCallOf}
use Rattle.transcripts.specs.Transcripts.{IsSaidLine, IsHeardLine}

-- ---- bytes

bytes-append : (xs ys : List ℕ) → IsBytes xs → IsBytes ys → IsBytes (xs ++ ys)
bytes-append [] ys first second k = second k
bytes-append (x ∷ xs) ys first second zero = first 0
bytes-append (x ∷ xs) ys first second (suc k) = bytes-append xs ys (λ i. first (suc i)) second k

bytes-cons : (x : ℕ) (xs : List ℕ) → x < 256 → IsBytes xs → IsBytes (x ∷ xs)
bytes-cons x xs fits rest zero = fits
bytes-cons x xs fits rest (suc k) = rest k

bytes-none : IsBytes []
bytes-none k = omega arith

big_endian-bytes : (count n : ℕ) → IsBytes (big_endian count n)
big_endian-bytes zero n = bytes-none
big_endian-bytes (suc count) n =
    let low : n % 256 < 256 = omega arith in
    bytes-append (big_endian count (n / 256)) (n % 256 ∷ []) (big_endian-bytes count (n / 256)) (bytes-cons (n % 256) [] low bytes-none)

entries-bytes : (entries : List Entry) → IsBytes (flat_map entry_bytes entries)
entries-bytes [] = bytes-none
entries-bytes (entry ∷ entries) =
    bytes-append (entry_bytes entry) (flat_map entry_bytes entries)
    (bytes-append (big_endian 2 entry.agent) (big_endian 4 entry.done) (big_endian-bytes 2 entry.agent) (big_endian-bytes 4 entry.done))
    (entries-bytes entries)

two-bytes : (x y : ℕ) (rest : List ℕ) → x < 256 → y < 256 → IsBytes rest → IsBytes (x ∷ y ∷ rest)
two-bytes x y rest first second are = bytes-cons x (y ∷ rest) first (bytes-cons y rest second are)

pub message-bytes : (plan i done : ℕ) → IsBytes (message_bytes plan i done)
message-bytes plan i done =
    two-bytes 0x46 1 (big_endian 2 i ++ big_endian 4 plan ++ big_endian 4 done) (lit< tt) (lit< tt)
    (bytes-append (big_endian 2 i ++ big_endian 4 plan) (big_endian 4 done)
    (bytes-append (big_endian 2 i) (big_endian 4 plan) (big_endian-bytes 2 i) (big_endian-bytes 4 plan)) (big_endian-bytes 4 done))

pub told-bytes : (plan : ℕ) (message : Message) → IsBytes (told_bytes plan message)
told-bytes plan message =
    let sender = big_endian 2 message.sender in
    let number = big_endian 4 plan in
    let count = big_endian 2 (length message.entries) in
    let entries = flat_map entry_bytes message.entries in
    two-bytes 0x46 2 (sender ++ number ++ count ++ entries) (lit< tt) (lit< tt)
    (bytes-append (sender ++ number ++ count) entries
    (bytes-append (sender ++ number) count
    (bytes-append sender number (big_endian-bytes 2 message.sender) (big_endian-bytes 4 plan)) (big_endian-bytes 2 (length message.entries)))
    (entries-bytes message.entries))

-- ---- lines

-- what begins otherwise doesn't say anything
other-line : (text bytes : List ℕ) → (get_or text 0 0 ≡ 115 → ⊥) → IsSaidLine bytes text → ⊥
other-line text bytes other (digits, is, spells) = other (ap (λ l. get_or l 0 0) is)

pub not_understood-says-nothing : (bytes : List ℕ) → IsSaidLine bytes not_understood → ⊥
not_understood-says-nothing bytes = other-line not_understood bytes (λ e. omega (arith, e))

pub stale-says-nothing : (sender number : ℕ) (bytes : List ℕ) → IsSaidLine bytes (stale_tape sender number) → ⊥
stale-says-nothing sender number bytes = other-line (stale_tape sender number) bytes (λ e. omega (arith, e))

-- digits that spell bytes spell no others
said-bytes : (own bytes : List ℕ) → IsBytes own → IsSaidLine bytes (codes "said " ++ encode_lower own) → own ∷ [] ≡ bytes ∷ []
said-bytes own bytes are (digits, is, spells) =
    let same : encode_lower own ≡ digits = ap (drop 5) is in
    let both : Ok own ≡ Ok bytes = sym (decode_of-encode_lower own are) ∙ ap decode_of same ∙ spells in
    cc

module _ (table : Timetable) (i : ℕ) (track : Track) (old new : State) where
  -- whoever answers that it said something did
  pub says-them : (deed : Deed) (bytes : List ℕ) → Does table i track old deed new → IsSaidLine bytes (deed_line deed) → bytes_of deed ≡ bytes ∷ []
  says-them (says (Ok own)) bytes does said = said-bytes own bytes (subst IsBytes (sym does.0.1.spelled) (message-bytes _ _ _)) said
  says-them (tells (Ok own)) bytes does said = said-bytes own bytes (subst IsBytes (sym does.0.1.spelled) (told-bytes _ _)) said
  says-them (opens (At u) count) bytes does said = absurd (other-line _ bytes (λ e. omega (arith, e)) said)
  says-them (opens (Between u v) count) bytes does said = absurd (other-line _ bytes (λ e. omega (arith, e)) said)
  says-them (starts (Ok c)) bytes does said = absurd (other-line _ bytes (λ e. omega (arith, e)) said)
  says-them (starts (Err why)) bytes does said = absurd (other-line _ bytes (λ e. omega (arith, e)) said)
  says-them (finishes (Ok c)) bytes does said = absurd (other-line _ bytes (λ e. omega (arith, e)) said)
  says-them (finishes (Err why)) bytes does said = absurd (other-line _ bytes (λ e. omega (arith, e)) said)
  says-them (says (Err why)) bytes does said = absurd (other-line _ bytes (λ e. omega (arith, e)) said)
  says-them (tells (Err tell_fault.Broken)) bytes does said = absurd (other-line _ bytes (λ e. omega (arith, e)) said)
  says-them (tells (Err tell_fault.OutOfMemory)) bytes does said = absurd (other-line _ bytes (λ e. omega (arith, e)) said)
  says-them (hears given (Ok answer)) bytes does said = absurd (other-line _ bytes (λ e. omega (arith, e)) said)
  says-them (hears given (Err (fault.Message BadLength))) bytes does said = absurd (other-line _ bytes (λ e. omega (arith, e)) said)
  says-them (hears given (Err (fault.Message BadMagic))) bytes does said = absurd (other-line _ bytes (λ e. omega (arith, e)) said)
  says-them (hears given (Err (fault.Message BadVersion))) bytes does said = absurd (other-line _ bytes (λ e. omega (arith, e)) said)
  says-them (hears given (Err (fault.Message (BadEntry number)))) bytes does said = absurd (other-line _ bytes (λ e. omega (arith, e)) said)
  says-them (hears given (Err fault.WrongPlan)) bytes does said = absurd (other-line _ bytes (λ e. omega (arith, e)) said)
  says-them (hears given (Err fault.NoSuchAgent)) bytes does said = absurd (other-line _ bytes (λ e. omega (arith, e)) said)
  says-them (hears given (Err fault.TooMany)) bytes does said = absurd (other-line _ bytes (λ e. omega (arith, e)) said)
  says-them (hears given (Err fault.Broken)) bytes does said = absurd (other-line _ bytes (λ e. omega (arith, e)) said)
  says-them (hears given (Err fault.OutOfMemory)) bytes does said = absurd (other-line _ bytes (λ e. omega (arith, e)) said)
  says-them (holds (At u) count) bytes does said = absurd (other-line _ bytes (λ e. omega (arith, e)) said)
  says-them (holds (Between u v) count) bytes does said = absurd (other-line _ bytes (λ e. omega (arith, e)) said)
  says-them (looks begun most count) bytes does said = absurd (other-line _ bytes (λ e. omega (arith, e)) said)
  says-them ends bytes does said = absurd (other-line _ bytes (λ e. omega (arith, e)) said)
  says-them stops bytes does said = absurd (other-line _ bytes (λ e. omega (arith, e)) said)
  says-them ends_starting bytes does said = absurd (other-line _ bytes (λ e. omega (arith, e)) said)
  says-them ends_finishing bytes does said = absurd (other-line _ bytes (λ e. omega (arith, e)) said)

-- whoever is answered that it heard something was asked to
pub heard-them : (request : Request) (bytes : List ℕ) (answer : ℕ × ℕ) (line : List ℕ) → AsksFor request line → IsCallOf request (hears bytes (Ok answer)) → AsksFor (hear bytes) line
heard-them start bytes answer line asks call = absurd call
heard-them finish bytes answer line asks call = absurd call
heard-them say bytes answer line asks call = absurd call
heard-them tell bytes answer line asks call = absurd call
heard-them held bytes answer line asks call = absurd call
heard-them (may most) bytes answer line asks call = absurd call
heard-them (hear given) bytes answer line asks call = subst (λ b. AsksFor (hear b) line) (sym call) asks

pub heard-line : (bytes : List ℕ) (answer : ℕ × ℕ) → IsHeardLine (deed_line (hears bytes (Ok answer)))
heard-line bytes answer = (_, refl)

-- a deed that neither says nor hears anything
pub record IsPlain (deed : Deed) : Type 0 where
  pub silent : bytes_of deed ≡ []
  pub honest : (before : List (List ℕ)) → IsHonest before deed
