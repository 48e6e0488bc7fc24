-- What an agent takes of a message.
use Rattle.std.proofs.Common.{◌≡◌, ℕ, zero, suc, ◌+◌, ◌<◌, ◌≤◌, eqb, Bool, true, false, cond, List, [], ◌∷◌, length, max, nat_lt, take, Some, None, Ok, inl, inr, arith, refl, sym, ap, subst, ◌∙◌}
use Rattle.std.specs.Prelude.{◌==◌, ◌||◌, nat_le, Option, option_map, unwrap_or, is_some, slice_get, MatchOption, Result}
use Rattle.std.specs.List.{list_any}
use Rattle.std.proofs.lemmas.Bool.{cases_Bool, true≢false, false≢true, cond-true, cond-false, eqb-true, eqb-false, eq-eqb}
use Rattle.std.proofs.lemmas.Bool.Decides.{nat_tests}
use Rattle.std.proofs.lemmas.List.Folds.{list_any_more}
use Rattle.std.proofs.lemmas.Option.{slice_get_within, slice_get-get_or, same_Some, none-some, get_or_from_slice_get}
use Rattle.model.specs.declared.entry.Entry.{Entry}
use Rattle.model.specs.Messages.{Message, told_by, own_message, IsTold}
use Rattle.model.specs.Timetable.{Track, Timetable, moves, track_of}
use Rattle.agent.specs.declared.counters.Counter.{Counter}
use Rattle.agent.specs.declared.refusal.HearFault.{HearFault}
use Rattle.agent.specs.declared.refusal.HearFault.TheVariants as fault
use Rattle.agent.specs.Agents.{AgentOn, state_of, Hears}
use Rattle.agent.specs.Counters.{heard_of, known_in, SetsOnly, tells_of, raised, Raises, AreWithin}
use Rattle.agent.specs.Decoding.{any_fault}
use Rattle.agent.specs.States.{Keeps, Refuses, names_nobody, moves_of, tells_too_many, message_refusal, telling_refusal, IsTaken}
use Rattle.agent.specs.Tape.{TapeState}
use Rattle.agent.specs.Tellings.{Telling, IsInRange, BytesTell}
use Rattle.agent.specs.Code.Taking.{TakesTelling}
use Rattle.agent.proofs.ToldLemmas.{no-fault}

-- ---- the entry of a sender of its own

pub own-raises : (old new : List Counter) (i done : ℕ) → SetsOnly old new i (max (known_in old i) done) → Raises old new (own_message i done).entries
own-raises old new i done sets j = elim (cases_Bool (eqb i j)) [
  | inl same ↦ (
      let more : done ≡ max done 0 = omega arith in
      subst (λ k. heard_of new k ≡ Some (max (known_in old k) (max done 0))) (eqb-true i j same) (sets.this_agent ∙ ap {A = ℕ} {B = Option ℕ} (λ n. Some (max (known_in old i) n)) more)
      ∙ sym (rule true same)
      )
  | inr other ↦ sets.other_agents j (λ e. eqb-false i j other (sym e)) ∙ sym (rule false other)
] where
  rule : (b : Bool) → eqb i j ≡ b → raised old (own_message i done).entries j ≡ cond (b || false) (Some (max (known_in old j) (cond b (max done 0) 0))) (heard_of old j)
  rule b is = ap (λ t. cond (t || false) (Some (max (known_in old j) (cond t (max done 0) 0))) (heard_of old j)) is

-- ---- what is not refused

passes : (tt : Timetable) (t : Telling) → t.plan ≡ tt.number → names_nobody tt t.message ≡ false → tells_too_many tt t.message ≡ false → telling_refusal tt t ≡ None
passes tt t plan known few =
    cond-true (t.plan == tt.number) (message_refusal tt t.message) (Some fault.WrongPlan) (eq-eqb t.plan tt.number plan)
    ∙ cond-false (names_nobody tt t.message) (Some fault.NoSuchAgent) _ known
    ∙ cond-false (tells_too_many tt t.message) (Some fault.TooMany) None few

-- how many moves there are, where they are told
pub told-agent : (tt : Timetable) (i count : ℕ) → Some count ≡ option_map moves (track_of tt i) → (i < length tt.tracks) × (moves_of tt i ≡ count)
told-agent tt i count told = by_track (track_of tt i) refl told where
  by_track : (o : Option Track) → track_of tt i ≡ o → Some count ≡ option_map moves o → (i < length tt.tracks) × (moves_of tt i ≡ count)
  by_track None none is = absurd (none-some count (sym is))
  by_track (Some track) there is = (
    slice_get_within tt.tracks i track there,
    ap (λ o. unwrap_or (option_map moves o) 0) there ∙ sym (same_Some count (moves track) is),
  )

-- an agent of which nothing is told is none of the plan's
pub no-agent : (tt : Timetable) (i : ℕ) → None ≡ option_map moves (track_of tt i) → nat_le (length tt.tracks) i ≡ true
no-agent tt i none = elim (cases_Bool (nat_le (length tt.tracks) i)) [
  | inl past ↦ past
  | inr within ↦ absurd (none-some _ (none ∙ ap (λ o. option_map moves o) (slice_get-get_or tt.tracks i (record { start = record { x = 0; y = 0 }; later = [] }) (grind (arith, nat_tests, within)))))
]

pub own-passes : (tt : Timetable) (plan i done count : ℕ) → plan ≡ tt.number → Some count ≡ option_map moves (track_of tt i) → done ≤ count
    → telling_refusal tt (record { plan = plan; message = own_message i done }) ≡ None
own-passes tt plan i done count same told few =
    let agent = told-agent tt i count told in
    passes tt (record { plan = plan; message = own_message i done }) same (known i (length tt.tracks) agent.0) (few_moves (moves_of tt i) done (omega (arith, few, agent.1)))
  where
    known : (i n : ℕ) → i < n → (nat_le n i || (nat_le n i || false)) ≡ false
    known i n less = grind (arith, nat_tests)

    few_moves : (most done : ℕ) → done ≤ most → (nat_lt most done || false) ≡ false
    few_moves most done within = grind (arith, nat_tests)

-- ---- entries one after another

-- a test of one entry more
pub any-more : (p : Entry → Bool) (es : List Entry) (at : ℕ) (entry : Entry) → slice_get es at ≡ Some entry → list_any p (take (at + 1) es) ≡ (list_any p (take at es) || p entry)
any-more p es at entry there =
    list_any_more p es at entry (slice_get_within es at entry there) ∙ ap (λ e. list_any p (take at es) || p e) (get_or_from_slice_get es at entry entry there)

-- a test that one entry passes
pub any-at : (p : Entry → Bool) (es : List Entry) (at : ℕ) (entry : Entry) → slice_get es at ≡ Some entry → p entry ≡ true → list_any p es ≡ true
any-at p [] at entry there passed = absurd (none-some entry there)
any-at p (e ∷ es) zero entry there passed = ap (λ b. b || list_any p es) (ap p (same_Some e entry there) ∙ passed)
any-at p (e ∷ es) (suc n) entry there passed = ap (λ b. p e || b) (any-at p es n entry there passed) ∙ or_true (p e) where
  or_true : (b : Bool) → (b || true) ≡ true
  or_true true = refl
  or_true false = refl

pub names-nobody : (tt : Timetable) (message : Message) (at : ℕ) (entry : Entry) → slice_get message.entries at ≡ Some entry → None ≡ option_map moves (track_of tt entry.agent)
    → message_refusal tt message ≡ Some fault.NoSuchAgent
names-nobody tt message at entry there none =
    cond-true (names_nobody tt message) (Some fault.NoSuchAgent) _
    (ap (λ b. nat_le (length tt.tracks) message.sender || b) (any-at (λ e. nat_le (length tt.tracks) e.agent) message.entries at entry there (no-agent tt entry.agent none))
    ∙ or_true (nat_le (length tt.tracks) message.sender))
  where
    or_true : (b : Bool) → (b || true) ≡ true
    or_true true = refl
    or_true false = refl

-- ---- what is taken

module _ {T : Type 0} (seen : T → TapeState) (tt : Timetable) (a : AgentOn T) (heard : List Counter) (t : Telling) (none : telling_refusal tt t ≡ None) where
  -- what raises the counters is kept
  pub taken : (known : ℕ) → known ≡ known_in heard t.message.sender → Raises a.heard heard t.message.entries → TakesTelling seen tt a (record a { heard = heard }) t (Ok (t.message.sender, known))
  taken known is raises = record {
    state = subst (λ o. MatchOption o (Keeps (state_of seen a) (state_of seen (record a { heard = heard })) t.message (Ok (t.message.sender, known)))
        (Refuses (state_of seen a) (state_of seen (record a { heard = heard })) (Ok (t.message.sender, known))))
        (sym none) (ap {A = ℕ} {B = ℕ × ℕ} (λ n. (t.message.sender, n)) is, raises, refl, refl);
    same = refl;
  }

told_within : (agents j : ℕ) (es : List Entry) → list_any (λ e. e.agent == j) es ≡ true → list_any (λ e. nat_le agents e.agent) es ≡ false → j < agents
told_within agents j [] told known = absurd (false≢true told)
told_within agents j (e ∷ es) told known = grind (arith, nat_tests, told, known, told_within agents j es)

-- counters that entries of agents of the plan raise are of such agents
pub raised-within : (agents : ℕ) (old new : List Counter) (entries : List Entry) → AreWithin agents old → Raises old new entries
    → list_any (λ e. nat_le agents e.agent) entries ≡ false → AreWithin agents new
raised-within agents old new entries within raises known j heard = elim (cases_Bool (tells_of entries j)) [
  | inl told ↦ told_within agents j entries told known
  | inr untold ↦ within j (sym (ap is_some (raises j ∙ cond-false (tells_of entries j) (Some (max (known_in old j) (told_by entries j))) (heard_of old j) untold)) ∙ heard)
]

-- what bytes of version 2 tell is heard as it is taken
pub hears-told : {T : Type 0} (seen : T → TapeState) (tt : Timetable) (a b : AgentOn T) (bytes : List ℕ) (t : Telling) (answer : Result (ℕ × ℕ) HearFault) → a.broken ≡ false → IsInRange t
    → IsTold t.plan t.message bytes → TakesTelling seen tt a b t answer → Hears seen tt a b bytes answer
hears-told seen tt a b bytes t answer whole in_range told takes = record {
  state = subst
      (λ o. MatchOption o ((u : Telling) × BytesTell bytes u × IsTaken tt (state_of seen a) (state_of seen b) u answer) (Refuses (state_of seen a) (state_of seen b) answer))
      (sym (ap (λ x. cond x (Some fault.Broken) (option_map (λ f. fault.Message f) (any_fault bytes))) whole ∙ ap (option_map (λ f. fault.Message f)) (no-fault t bytes in_range told)))
      (t, record { in_range = in_range; spelled = inr told }, takes.state);
  same = takes.same;
}

pub same-telling : (t : Telling) (plan from : ℕ) (entries : List Entry) → plan ≡ t.plan → from ≡ t.message.sender → entries ≡ t.message.entries
    → record { plan = plan; message = record { sender = from; entries = entries } } ≡ t
same-telling t plan from entries p f e =
    ap {A = ℕ} {B = Telling} (λ n. record { plan = n; message = record { sender = from; entries = entries } }) p
    ∙ ap {A = ℕ} {B = Telling} (λ n. record { plan = t.plan; message = record { sender = n; entries = entries } }) f
    ∙ ap {A = List Entry} {B = Telling} (λ l. record { plan = t.plan; message = record { sender = t.message.sender; entries = l } }) e

-- a message that isn't refused names agents of the plan alone
pub names-known : (tt : Timetable) (message : Message) → message_refusal tt message ≡ None → list_any (λ e. nat_le (length tt.tracks) e.agent) message.entries ≡ false
names-known tt message none = elim (cases_Bool (names_nobody tt message)) [
  | inl nobody ↦ absurd (none-some fault.NoSuchAgent (sym none ∙ cond-true (names_nobody tt message) (Some fault.NoSuchAgent) _ nobody))
  | inr known ↦ right (nat_le (length tt.tracks) message.sender) _ known
] where
  right : (a b : Bool) → (a || b) ≡ false → b ≡ false
  right true b h = absurd (true≢false h)
  right false b h = h
