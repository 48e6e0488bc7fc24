use Rattle.std.proofs.Common.{◌≡◌, ℕ, ◌+◌, ◌/◌, ◌%◌, nat_lt, Bool, true, false, List, [], ◌∷◌, Some, None, Result, Ok, inl, inr, refl, sym, ap, subst, ◌∙◌, arith}
use Rattle.std.specs.Prelude.{◌==◌, ◌||◌, if◌then◌else◌, Option, option_map, MatchBool, MatchOption}
use Rattle.std.proofs.lemmas.Bool.{eqb-false, ltb-false}
use Rattle.model.specs.declared.entry.Entry.{Entry}
use Rattle.model.specs.declared.msg_fault.MsgFault.TheVariants.{BadEntry}
use Rattle.model.specs.Messages.{own_message, message_bytes, told_bytes, AreRising}
use Rattle.agent.specs.Decoding.{wrong_entry, any_fault}
use Rattle.agent.specs.Tellings.{Telling, BytesTell}
use Rattle.agent.specs.declared.refusal.HearFault.{HearFault}
use Rattle.agent.specs.declared.refusal.HearFault.TheVariants.{Message as bad_message}
use Rattle.agent.specs.declared.refusal.HearFault.TheVariants.{Broken as broken_agent}
use Rattle.model.specs.declared.held.Held.{Held}
use Rattle.model.specs.declared.held.Held.TheVariants.{At, Between}
use Rattle.model.specs.Rules.{path_cell}
use Rattle.model.specs.Timetable.{Track, Timetable}
use Rattle.agent.specs.States.{State, Refuses, IsTaken, IsHeard}
use Rattle.agent.specs.Tape.{whole_records}
use Rattle.agent.specs.declared.counters.Counter.{Counter}
use Rattle.fleet.proofs.laws.calls_are_deeds.Goals as goal

-- what as many records hold
abbrev held_at : Track → ℕ → Held
held_at track n = if n % 2 == 1 then Between (path_cell track (n / 2)) (path_cell track (n / 2 + 1)) else At (path_cell track (n / 2))

pub returns-clause-opens : goal.returns-clause-opens
returns-clause-opens g c table i tape agent before opened same =
    let records : whole_records (g.T.Tape.state agent.tape) ≡ before.records
    = ap (λ l. whole_records (record { contents = l; room = 0; failures = 0 })) opened.contents ∙ sym same in (
      opened.track,
      opened.is_track,
      (
        ap (held_at opened.track) records,
        ap (λ n. n / 2) records,
        ap {A = ℕ} {B = State} (λ n. record { records = n; heard = agent.heard; broken = agent.broken }) records
            ∙ ap {A = List Counter} {B = State} (λ l. record { records = before.records; heard = l; broken = agent.broken }) opened.heard
            ∙ ap {B = State} (λ b. record { records = before.records; heard = []; broken = b }) opened.broken,
      ),
    )

pub returns-clause-starts : goal.returns-clause-starts
returns-clause-starts g c table old new answer does = (does.0, does.1.is_track, does.1.state)

pub returns-clause-finishes : goal.returns-clause-finishes
returns-clause-finishes g c table old new answer does = (does.0, does.1.is_track, does.1.state)

pub returns-clause-says : goal.returns-clause-says
returns-clause-says g c table a track answer says = (says, refl)

pub returns-clause-tells : goal.returns-clause-tells
returns-clause-tells g c table a track answer tells = (tells, refl)

pub returns-clause-hears : goal.returns-clause-hears
returns-clause-hears g c table old new track bytes answer hears = hears.state

pub returns-clause-holds : goal.returns-clause-holds
returns-clause-holds g c table a what holds = (holds.0, holds.1, (holds.2, refl, refl))

pub returns-clause-looks : goal.returns-clause-looks
returns-clause-looks g c table a most count looks = (looks.0, looks.1, (refl, looks.2, refl))

pub returns-clause-restarts : goal.returns-clause-restarts
returns-clause-restarts g c table old new track done restarts =
    let kept : whole_records (g.T.Tape.state new.tape) ≡ whole_records (g.T.Tape.state old.tape)
    = ap (λ l. whole_records (record { contents = l; room = 0; failures = 0 })) restarts.kept.contents in (
      refl,
      refl,
      ap {A = ℕ} {B = State} (λ n. record { records = n; heard = new.heard; broken = new.broken }) kept
          ∙ ap {A = List Counter} {B = State} (λ l. record { records = whole_records (g.T.Tape.state old.tape); heard = l; broken = new.broken }) restarts.outcome.1
          ∙ ap {B = State} (λ b. record { records = whole_records (g.T.Tape.state old.tape); heard = []; broken = b }) restarts.outcome.2,
    )

-- what is told of bytes that nothing is wrong with is heard of them
heard-of : (table : Timetable) (old new : State) (bytes : List ℕ) (t : Telling) (answer : Result (ℕ × ℕ) HearFault) → BytesTell bytes t → any_fault bytes ≡ None
    → MatchBool old.broken (Refuses old new answer broken_agent) (IsTaken table old new t answer) → IsHeard table old new bytes answer
heard-of table old new bytes t answer telling fine heard = by old.broken heard where
  by : (b : Bool) → MatchBool b (Refuses old new answer broken_agent) (IsTaken table old new t answer)
      → MatchOption (if b then Some broken_agent else option_map bad_message (any_fault bytes)) ((u : Telling) × BytesTell bytes u × IsTaken table old new u answer) (Refuses old new answer)
  by true refuses = refuses
  by false taken = subst (λ o. MatchOption (option_map bad_message o) ((u : Telling) × BytesTell bytes u × IsTaken table old new u answer) (Refuses old new answer)) (sym fine)
      (t, telling, taken)

pub returns-clause-hears_finished : goal.returns-clause-hears_finished
returns-clause-hears_finished g c table old new track f answer in_range hears =
    let t : Telling = record { plan = f.plan; message = own_message f.from f.done } in
    let telling : BytesTell (message_bytes f.plan f.from f.done) t = record { in_range = in_range; spelled = inl (f.done, refl, record { spelled = refl }) } in
    heard-of table _ _ (message_bytes f.plan f.from f.done) t answer telling (c.tellings.ensures.fine _ t telling) hears.state

-- entries of which none is wrong rise
rises : (number least : ℕ) (entries : List Entry) → wrong_entry number least entries ≡ None → AreRising least entries
rises number least [] none = tt
rises number least (entry ∷ entries) none =
    by ((entry.done == 0) || nat_lt entry.agent least) refl none (λ later. rises (number + 1) (entry.agent + 1) entries later) where
      parts : (a b : Bool) → (a || b) ≡ false → (a ≡ false) × (b ≡ false)
      parts true b e = absurd cc
      parts false b e = (refl, e)

      by : (b : Bool) → ((entry.done == 0) || nat_lt entry.agent least) ≡ b → (if b then Some number else wrong_entry (number + 1) (entry.agent + 1) entries) ≡ None
          → (wrong_entry (number + 1) (entry.agent + 1) entries ≡ None → AreRising (entry.agent + 1) entries) → AreRising least (entry ∷ entries)
      by true is e rest = absurd cc
      by false is e rest =
          let both = parts (entry.done == 0) (nat_lt entry.agent least) is in
          let some = eqb-false entry.done 0 both.0 in
          (ltb-false entry.agent least both.1, omega (arith, some), rest e)

pub returns-clause-hears_entries : goal.returns-clause-hears_entries
returns-clause-hears_entries g c table old new track message answer in_range hears = by old.broken (wrong_entry 0 0 message.entries) refl hears.state where
  t : Telling
  t = record { plan = table.number; message = message }

  before : State
  before = record { records = whole_records (g.T.Tape.state old.tape); heard = old.heard; broken = old.broken }

  after : State
  after = record { records = whole_records (g.T.Tape.state new.tape); heard = new.heard; broken = new.broken }

  by : (b : Bool) (o : Option ℕ) → wrong_entry 0 0 message.entries ≡ o
      → MatchOption (if b then Some broken_agent else option_map (λ number. bad_message (BadEntry number)) o) (IsTaken table before after t (Ok answer)) (Refuses before after (Ok answer))
      → MatchOption (if b then Some broken_agent else option_map bad_message (any_fault (told_bytes table.number message)))
      ((u : Telling) × BytesTell (told_bytes table.number message) u × IsTaken table before after u (Ok answer)) (Refuses before after (Ok answer))
  by true o is refuses = refuses
  by false (Some number) is refuses = absurd cc
  by false None is taken =
      let telling : BytesTell (told_bytes table.number message) t
      = record { in_range = in_range; spelled = inr (record { spelled = refl; rising = rises 0 0 message.entries is }) } in
      subst (λ o. MatchOption (option_map bad_message o) ((u : Telling) × BytesTell (told_bytes table.number message) u × IsTaken table before after u (Ok answer)) (Refuses before after (Ok answer)))
      (sym (c.tellings.ensures.fine _ t telling)) (t, telling, taken)
