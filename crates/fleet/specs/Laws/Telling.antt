-- No message of a run is refused.
use Rattle.std.proofs.Common.{◌≡◌, ℕ, suc, ◌<◌, ◌≤◌, Bool, false, List, [], ◌∷◌, length}
use Rattle.std.proofs.Common.{nat_lt, Some, None, refl, sym, ap, subst, ◌∙◌, arith}
use Rattle.std.specs.Prelude.{◌==◌, ◌||◌, option_map, unwrap_or, nat_le, slice_get}
use Rattle.std.specs.List.{list_any}
use Rattle.std.proofs.lemmas.Bool.{cond-true, cond-false, eq-eqb}
use Rattle.std.proofs.lemmas.Bool.Decides.{nat_tests}
use Rattle.std.proofs.lemmas.Option.{slice_get_within}
use Rattle.model.specs.declared.entry.Entry.{Entry}
use Rattle.model.specs.declared.version.Version.{Version}
use Rattle.model.specs.declared.version.Version.TheVariants.{One, Two}
use Rattle.model.specs.History.{History, done, known}
use Rattle.model.specs.Messages.{Message, message_said}
use Rattle.model.specs.Speech.{WasSaid}
use Rattle.model.specs.Timetable.{Track, Timetable, moves, track_of}
use Rattle.agent.specs.States.{names_nobody, moves_of, tells_too_many}
use Rattle.agent.specs.States.{message_refusal, telling_refusal}
use Rattle.agent.specs.declared.refusal.HearFault.TheVariants as fault

none_any : (p : Entry → Bool) (es : List Entry)
    → ((n : ℕ) (e : Entry) → slice_get es n ≡ Some e → p e ≡ false) → list_any p es ≡ false
none_any p [] each = refl
none_any p (e ∷ es) each =
    ap (λ b. b || list_any p es) (each 0 e refl) ∙ none_any p es (λ n. each (suc n))

-- what an agent of the timetable says of no more moves than there are is refused by none
pub none-refused-of : (table : Timetable) (message : Message)
    → message.sender < length table.tracks
    → ((n : ℕ) (e : Entry) → slice_get message.entries n ≡ Some e → (own : Track)
    × (track_of table e.agent ≡ Some own) × (e.done ≤ moves own))
    → telling_refusal table (record { plan = table.number; message = message }) ≡ None
none-refused-of table message sender each =
    cond-true (table.number == table.number) (message_refusal table message) (Some fault.WrongPlan)
    (eq-eqb table.number table.number refl)
    ∙ cond-false (names_nobody table message) (Some fault.NoSuchAgent) _
    (known_all (length table.tracks) message.sender
    (list_any (λ e. nat_le (length table.tracks) e.agent) message.entries) sender named)
    ∙ cond-false (tells_too_many table message) (Some fault.TooMany) None few
  where
    known_all : (count i : ℕ) (others : Bool) → i < count → others ≡ false
        → (nat_le count i || others) ≡ false
    known_all count i others less none = grind (arith, nat_tests, less, none)

    named : list_any (λ e. nat_le (length table.tracks) e.agent) message.entries ≡ false
    named = none_any (λ e. nat_le (length table.tracks) e.agent) message.entries (λ n e there.
        let own = each n e there in
        let within = slice_get_within table.tracks e.agent own.0 own.1 in
        grind (arith, nat_tests, within))

    few : tells_too_many table message ≡ false
    few = none_any (λ e. nat_lt (moves_of table e.agent) e.done) message.entries (λ n e there.
        let own = each n e there in
        let count : moves_of table e.agent ≡ moves own.0 =
        ap (λ o. unwrap_or (option_map moves o) 0) own.1 in
        let done_within = own.2 in
        grind (arith, nat_tests, count, done_within))

-- the sender is one of the agents
pub sender-there : (v : Version) (table : Timetable) (h : History) (m : ℕ) (message : Message)
    → WasSaid v table h m message → message.sender < length table.tracks
sender-there v table h m message was =
    subst (λ i. i < length table.tracks) (sender v ∙ sym (ap (λ x. x.sender) was.tells))
    (slice_get_within table.tracks was.agent was.is_agent.0 was.is_agent.1)
  where
    sender : (w : Version)
        → was.agent ≡ (message_said w (length table.tracks) was.agent (done was.earlier was.agent)
        (known v table was.earlier was.agent)).sender
    sender One = refl
    sender Two = refl

-- nor with the plan's number
pub none-refused-by : (v : Version) (table : Timetable) (h : History) (m plan : ℕ)
    (message : Message) → plan ≡ table.number → WasSaid v table h m message
    → telling_refusal table (record { plan = plan; message = message }) ≡ None
none-refused-by v table h m plan message number was =
    ap (λ n. telling_refusal table (record { plan = n; message = message })) number
    ∙ none-refused-of table message (sender-there v table h m message was) (λ n e there.
    let own = was.entries n e there in
    let done_within = own.2 in
    let moves_within = own.3 in
    (own.0, own.1, omega (arith, done_within, moves_within)))
