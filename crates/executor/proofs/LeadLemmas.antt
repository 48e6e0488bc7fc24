-- What each of the events does to where all of them lead.
use Rattle.std.proofs.Common.{◌≡◌, ℕ, zero, suc, ◌+◌, ◌<◌, ◌≤◌, Bool, true, false, List, [], ◌∷◌, ◌++◌, length, set, Some, None, Result, Ok, Err, inl, inr, arith, refl, sym, ap, subst, ◌∙◌}
use Rattle.std.specs.Prelude.{OnOk, ◌⊎◌, ◌||◌, ◌==◌, if◌then◌else◌, Option, is_some, option_map, unwrap_or, slice_get}
use Rattle.std.proofs.lemmas.Bool.{cases_lt, cases_eq, eqb-true, eqb-false, true≢false}
use Rattle.std.proofs.lemmas.List.{length-append, length-set}
use Rattle.std.proofs.lemmas.Option.{same_Some, slice_get_within}
use Rattle.model.specs.declared.event.Event.{Event}
use Rattle.model.specs.declared.event.Event.TheVariants.{Start, Finish, Say, Deliver}
use Rattle.model.specs.declared.version.Version.{Version}
use Rattle.model.specs.Completion.{history_after, AreAccepted}
use Rattle.model.specs.Dependency.{IsMet, need}
use Rattle.model.specs.History.{History, armed_of, is_broken, kept_starts, done, is_moving, messages, known}
use Rattle.model.specs.Messages.{Message, told}
use Rattle.model.specs.Ready.{IsReady, rest_events, ComesToRest, MovesOn, SpeaksUp, Learns}
use Rattle.model.specs.Timetable.{Track, Timetable, moves, track_of}
use Rattle.agent.specs.Agents.{AgentOn, state_of}
use Rattle.agent.specs.States as states
use Rattle.executor.specs.declared.ending.Heard.{Heard}
use Rattle.executor.specs.declared.ending.Standing.{Standing}
use Rattle.agent.specs.declared.counted_tape.CountedTape.{CountedTape}
use Rattle.agent.specs.CountedTape.{counted_state, counted_armed}
use Rattle.executor.specs.Standing.{IsMember}
use Rattle.executor.specs.Code.Leading.{EndingState, finished_in, told_in, is_opened_anew, Begins}
use Rattle.executor.specs.Code.Leading.{HasTold, StandsThere, IsUntouched, LeadsThroughTo}
use Rattle.executor.specs.Code.Leading.{LeadsThrough, LeadsOn, IsOf, HasStayed, TeachesNeed}
use Rattle.executor.specs.Code.Leading.{LeadsOnceKnown, HasLeft, HasMoved, AreUnheard}
use Rattle.model.specs.Laws.After.{history-more, accepted-more}
use Rattle.model.specs.Laws.Ready.{others-ready, comes_to_rest, moves_on, message, speaks_up, learns}
use Rattle.model.specs.Laws.Runs.{in_step}
use Rattle.executor.proofs.CrewLemmas.{each-pushed}
use Rattle.executor.proofs.GoesLemmas.{set-at, set-other}
use Rattle.fleet.specs.Laws.Rules.{done-is, moving-is}
use Rattle.executor.proofs.NeedLemmas.{finished-is, told-is}

pub get-front : {X : Type 0} (xs ys : List X) (i : ℕ) → i < length xs → slice_get (xs ++ ys) i ≡ slice_get xs i
get-front [] ys i less = absurd (omega (arith, less))
get-front (x ∷ xs) ys zero less = refl
get-front (x ∷ xs) ys (suc i) less = get-front xs ys i (omega (arith, less))

pub get-last : {X : Type 0} (xs : List X) (y : X) → slice_get (xs ++ y ∷ []) (length xs) ≡ Some y
get-last [] y = refl
get-last (x ∷ xs) y = get-last xs y

-- ---- events behind those so far

-- where all the rest is so after them
pub leads-more : (v : Version) (old new : EndingState) (h : History) (more : List Event) → new.events ≡ old.events ++ more → new.timetable ≡ old.timetable → LeadsThrough v old h
    → AreAccepted v old.timetable (history_after v old.timetable h old.events) more
    → ((end : History) → end ≡ history_after v old.timetable (history_after v old.timetable h old.events) more → AreAccepted v new.timetable h new.events
    → end ≡ history_after v new.timetable h new.events → LeadsThroughTo v new h end)
    → LeadsThrough v new h
leads-more v old new h more events table was goes rest =
    let mid = history_after v old.timetable h old.events in
    let whole = history-more v old.timetable h old.events more in
    let after : history_after v new.timetable h new.events ≡ history_after v old.timetable mid more
    = ap (λ t. history_after v t h new.events) table ∙ ap (history_after v old.timetable h) events ∙ whole in
    let accepted = subst (λ t. AreAccepted v t h new.events) (sym table) (subst (AreAccepted v old.timetable h) (sym events)
    (accepted-more v old.timetable h old.events more was.accepted goes)) in
    subst (LeadsThroughTo v new h) (sym after) (rest (history_after v old.timetable mid more) refl accepted (sym after))

-- ---- coming to rest

-- one, where a test holds
abbrev pub one_if : Bool → ℕ
one_if b = if b then 1 else 0

or-parts : (x y : Bool) → (x || y) ≡ false → (x ≡ false) × (y ≡ false)
or-parts true y e = absurd (true≢false e)
or-parts false y e = (refl, e)

is_some-none : (o : Option ℕ) → is_some o ≡ false → o ≡ None
is_some-none None e = refl
is_some-none (Some n) e = absurd (true≢false e)

module _ (v : Version) (tab : Timetable) where
  -- a message that was said stays said
  told-stays : (said more : List Message) (i : ℕ) (x : Standing) → HasTold said i x → HasTold (said ++ more) i x
  told-stays said more i x was = elim was [
    | inl none ↦ inl none
    | inr has ↦ inr (has.0, get-front said more x.message (slice_get_within said x.message has.0 has.1) ∙ has.1, has.2)
  ]

  -- an agent stands there after events that leave it ready and say no message
  stands-on : (mid end : History) (i : ℕ) (x : Standing) → StandsThere v tab mid i x → IsReady end i → done end i ≡ done mid i → messages v tab end ≡ messages v tab mid
      → StandsThere v tab end i x
  stands-on mid end i x was ready same said = record {
    ready = ready;
    finished = same ∙ was.finished;
    told = subst (λ l. HasTold l i x) (sym said) was.told;
  }

-- an agent that is where the run left it comes to rest
pub rest-on : (v : Version) (h : History) (old new : EndingState) (i : ℕ) (a : AgentOn CountedTape) (track : Track) (x : Standing)
    → i ≡ length old.standings → slice_get old.agents i ≡ Some a → track_of old.timetable i ≡ Some track
    → new.timetable ≡ old.timetable → new.agents ≡ old.agents → new.messages ≡ old.messages → AreUnheard new.heard
    → new.events ≡ old.events ++ rest_events (is_opened_anew a) (states.is_on_the_way (state_of counted_state a)) i
    → new.standings ≡ old.standings ++ x ∷ [] → x.done ≡ states.finished_moves (state_of counted_state a) + one_if (states.is_on_the_way (state_of counted_state a)) → x.told ≡ 0
    → Begins v old.timetable old.agents h → LeadsThrough v old h → LeadsThrough v new h
rest-on v h old new i a track x at there its table crew same_messages none_heard events standings moved untold begins was =
    leads-more v old new h (rest_events (is_opened_anew a) (states.is_on_the_way (state_of counted_state a)) i) events table was rest.0 after
  where
    is : IsMember v old.timetable h i a
    is = begins.members i a there

    within : i < length old.agents
    within = slice_get_within old.agents i a there

    untouched : IsUntouched h (history_after v old.timetable h old.events) i
    untouched = was.others i (omega (arith, at)) within

    bounds : (done h i ≤ kept_starts h i) × (kept_starts h i ≤ done h i + 1)
    bounds = in_step v old.timetable h i begins.run

    goes_now : is_moving (history_after v old.timetable h old.events) i ≡ states.is_on_the_way (state_of counted_state a)
    goes_now =
        ap (λ n. n == done (history_after v old.timetable h old.events) i + 1) untouched.begun ∙ ap (λ n. kept_starts h i == n + 1) untouched.finished
        ∙ sym (moving-is v old.timetable h begins.run i track (state_of counted_state a) is.stands)

    sound : is_opened_anew a ≡ false → (is_broken (history_after v old.timetable h old.events) i ≡ false) × (armed_of (history_after v old.timetable h old.events) i ≡ None)
    sound none =
        let parts = or-parts a.broken (is_some (counted_armed a.tape)) none in
        (untouched.broken ∙ sym is.stands.broken ∙ parts.0, untouched.armed ∙ sym is.armed ∙ is_some-none (counted_armed a.tape) parts.1)

    rest : AreAccepted v old.timetable (history_after v old.timetable h old.events) (rest_events (is_opened_anew a) (states.is_on_the_way (state_of counted_state a)) i)
        × ComesToRest v old.timetable (is_opened_anew a) i (history_after v old.timetable h old.events)
        (history_after v old.timetable (history_after v old.timetable h old.events) (rest_events (is_opened_anew a) (states.is_on_the_way (state_of counted_state a)) i))
    rest =
        let begun = untouched.begun in
        let ended = untouched.finished in
        comes_to_rest v old.timetable (history_after v old.timetable h old.events) i track its
        (let low = bounds.0 in omega (arith, low, begun, ended)) (let high = bounds.1 in omega (arith, high, begun, ended))
        (is_opened_anew a) (states.is_on_the_way (state_of counted_state a)) goes_now sound

    -- so many moves are finished then
    moved-is : done h i + one_if (states.is_on_the_way (state_of counted_state a)) ≡ kept_starts h i
    moved-is = by_moving (states.is_on_the_way (state_of counted_state a)) (sym (moving-is v old.timetable h begins.run i track (state_of counted_state a) is.stands)) where
      by_moving : (b : Bool) → is_moving h i ≡ b → done h i + one_if b ≡ kept_starts h i
      by_moving true e = sym (eqb-true (kept_starts h i) (done h i + 1) e)
      by_moving false e = (
          let low = bounds.0 in
          let high = bounds.1 in
          let apart = eqb-false (kept_starts h i) (done h i + 1) e in
          elim (cases_lt (done h i) (kept_starts h i)) [
            | inl less ↦ absurd (apart (omega (arith, less, high)))
            | inr most ↦ omega (arith, most, low)
          ])

    after : (end : History) → end ≡ history_after v old.timetable (history_after v old.timetable h old.events) (rest_events (is_opened_anew a) (states.is_on_the_way (state_of counted_state a)) i)
        → AreAccepted v new.timetable h new.events → end ≡ history_after v new.timetable h new.events → LeadsThroughTo v new h end
    after end end_is accepted whole = record {
      accepted = accepted;
      said = ap (λ t. length (messages v t end)) table ∙ ap length comes.messages ∙ was.said ∙ sym same_messages;
      stand = subst (λ t. (k : ℕ) (y : Standing) → slice_get new.standings k ≡ Some y → StandsThere v t end k y) (sym table)
          (λ k y at_k. each-pushed (λ n z. StandsThere v old.timetable end n z) old.standings x
          (λ n z at_n. stands-on v old.timetable (history_after v old.timetable h old.events) end n z (was.stand n z at_n)
          (others-ready v old.timetable i (history_after v old.timetable h old.events) end comes.others comes.ready n (was.stand n z at_n).ready)
          (comes.others.finished n (λ e. (let less = slice_get_within old.standings n z at_n in omega (arith, e, less, at)))) comes.messages)
          (subst (λ n. StandsThere v old.timetable end n x) at own) k y (sym (ap (λ l. slice_get l k) standings) ∙ at_k));
      others = λ k past less.
          let apart : k ≡ i → ⊥ = λ e. (let count = ap length standings in let more = length-append old.standings (x ∷ []) in omega (arith, e, past, count, more, at)) in
          let before = was.others k (let count = ap length standings in let more = length-append old.standings (x ∷ []) in omega (arith, past, count, more)) (subst (λ l. k < length l) crew less) in
          record {
            broken = comes.others.broken k apart ∙ before.broken;
            armed = comes.others.armed k apart ∙ before.armed;
            begun = comes.others.begun k apart ∙ before.begun;
            finished = comes.others.finished k apart ∙ before.finished;
          };
      knows = λ k b at_k none j.
          let at_old = ap (λ l. slice_get l k) (sym crew) ∙ at_k in
          let before = was.knows k b at_old none j in
          let same : known v new.timetable end k j ≡ known v old.timetable (history_after v old.timetable h old.events) k j
          = ap (λ t. known v t end k j) table ∙ by_agent k b at_old none j in
          omega (arith, before, same);
      heard = λ n y at_n. (let zero_heard = none_heard n y at_n in omega (arith, zero_heard));
    } where
      comes : ComesToRest v old.timetable (is_opened_anew a) i (history_after v old.timetable h old.events) end
      comes = subst (ComesToRest v old.timetable (is_opened_anew a) i (history_after v old.timetable h old.events)) (sym end_is) rest.1

      own : StandsThere v old.timetable end i x
      own = record {
        ready = comes.ready;
        finished = comes.finished ∙ untouched.begun ∙ sym moved-is ∙ ap (λ n. n + one_if (states.is_on_the_way (state_of counted_state a)))
            (sym (done-is v old.timetable h begins.run i track (state_of counted_state a) is.stands)) ∙ sym moved;
        told = inl untold;
      }

      by_agent : (k : ℕ) (b : AgentOn CountedTape) → slice_get old.agents k ≡ Some b → is_opened_anew b ≡ false → (j : ℕ)
          → known v old.timetable end k j ≡ known v old.timetable (history_after v old.timetable h old.events) k j
      by_agent k b at_k none j = elim (cases_eq k i) [
        | inl same ↦
            let its_own : b ≡ a = same_Some b a (sym at_k ∙ ap (slice_get old.agents) same ∙ there) in
            subst (λ n. known v old.timetable end n j ≡ known v old.timetable (history_after v old.timetable h old.events) n j) (sym same)
            (comes.known (ap is_opened_anew (sym its_own) ∙ none) j)
        | inr apart ↦ comes.others.known k j apart
      ]

-- ---- one step after another

pub leads-then : (old mid new : EndingState) → LeadsOn old mid → IsOf old mid → LeadsOn mid new → LeadsOn old new
leads-then old mid new first same second v h begins was =
    second v h (subst (λ a. Begins v mid.timetable a h) (sym same.agents) (subst (λ t. Begins v t old.agents h) (sym same.timetable) begins)) (first v h begins was)

pub same-then : (old mid new : EndingState) → IsOf old mid → IsOf mid new → IsOf old new
same-then old mid new first second = record { timetable = second.timetable ∙ first.timetable; agents = second.agents ∙ first.agents }

pub stayed-then : (old mid new : EndingState) → HasStayed old mid → HasStayed mid new → HasStayed old new
stayed-then old mid new first second = record {
  same = same-then old mid new first.same second.same;
  count = second.count ∙ first.count;
  finished = λ k. second.finished k ∙ first.finished k;
}

-- of a list with another element at a place
pub each-set : {X : Type 0} (P : ℕ → X → Type 0) (l : List X) (i : ℕ) (y : X) → ((k : ℕ) (x : X) → (k ≡ i → ⊥) → slice_get l k ≡ Some x → P k x) → P i y
    → (k : ℕ) (x : X) → slice_get (set l i y) k ≡ Some x → P k x
each-set P l i y old new k x there = elim (cases_eq k i) [
  | inl same ↦
      let within = slice_get_within (set l i y) k x there in
      let count = length-set l i y in
      let at : slice_get (set l i y) i ≡ Some y = set-at l i y (omega (arith, within, count, same)) in
      let is : y ≡ x = same_Some y x (sym at ∙ ap (slice_get (set l i y)) (sym same) ∙ there) in
      subst (P k) is (subst (λ n. P n y) (sym same) new)
  | inr apart ↦ old k x apart (sym (set-other l i k y apart) ∙ there)
]

pub finished-set : (l : List Standing) (i : ℕ) (y : Standing) → i < length l → finished_in (set l i y) i ≡ y.done
finished-set l i y less = finished-is (set l i y) i y (set-at l i y less)

pub finished-other : (l : List Standing) (i k : ℕ) (y : Standing) → (k ≡ i → ⊥) → finished_in (set l i y) k ≡ finished_in l k
finished-other l i k y apart = ap (λ o. unwrap_or (option_map (λ s. s.done) o) 0) (set-other l i k y apart)

pub told-set : (l : List Standing) (i : ℕ) (y : Standing) → i < length l → told_in (set l i y) i ≡ y.told
told-set l i y less = told-is (set l i y) i y (set-at l i y less)

-- where one stands with as many moves finished as before
pub finished-same : (l : List Standing) (i : ℕ) (x y : Standing) → slice_get l i ≡ Some x → y.done ≡ x.done → (k : ℕ) → finished_in (set l i y) k ≡ finished_in l k
finished-same l i x y at same k = elim (cases_eq k i) [
  | inl here ↦ ap (finished_in (set l i y)) here ∙ finished-set l i y (slice_get_within l i x at) ∙ same ∙ sym (finished-is l i x at) ∙ ap (finished_in l) (sym here)
  | inr apart ↦ finished-other l i k y apart
]

-- ---- a message

module _ (v : Version) (h : History) (old new : EndingState) (i : ℕ) (x y : Standing) (track : Track)
    (at : slice_get old.standings i ≡ Some x) (its : track_of old.timetable i ≡ Some track) (all : length old.standings ≡ length old.agents)
    (same : IsOf old new) (heard : new.heard ≡ old.heard) (counts : new.messages ≡ old.messages + 1) (events : new.events ≡ old.events ++ Say i ∷ [])
    (standings : new.standings ≡ set old.standings i y) (done_same : y.done ≡ x.done) (number : y.message ≡ old.messages) (tells : y.told ≡ x.done)
    (was : LeadsThrough v old h) where
  abbrev mid : History
  mid = history_after v old.timetable h old.events

  abbrev text : Message
  text = message v old.timetable mid i track its (was.stand i x at).ready

  abbrev spoken : History
  spoken = history_after v old.timetable mid (Say i ∷ [])

  says : AreAccepted v old.timetable mid (Say i ∷ []) × SpeaksUp v old.timetable i mid spoken text
  says = speaks_up v old.timetable mid i track its (was.stand i x at).ready

  -- who stood there stands there, and the message of each is kept
  still-stands : (end : History) → end ≡ spoken → (k : ℕ) (z : Standing) → slice_get (set old.standings i y) k ≡ Some z → StandsThere v old.timetable end k z
  still-stands end end_is = subst (λ e. (k : ℕ) (z : Standing) → slice_get (set old.standings i y) k ≡ Some z → StandsThere v old.timetable e k z) (sym end_is)
      (each-set (λ k z. StandsThere v old.timetable spoken k z) old.standings i y
      (λ k z apart there. (let before = was.stand k z there in record {
        ready = says.1.ready k before.ready;
        finished = says.1.finished k ∙ before.finished;
        told = subst (λ l. HasTold l k z) (sym says.1.messages) (told-stays v old.timetable (messages v old.timetable mid) (text ∷ []) k z before.told);
      }))
      (let before = was.stand i x at in record {
        ready = says.1.ready i before.ready;
        finished = says.1.finished i ∙ before.finished ∙ sym done_same;
        told = inr (
          text,
          ap (λ n. slice_get (messages v old.timetable spoken) n) (number ∙ sym was.said) ∙ ap (λ l. slice_get l (length (messages v old.timetable mid))) says.1.messages
              ∙ get-last (messages v old.timetable mid) text,
          (let least = says.1.tells in let so_far = before.finished in omega (arith, tells, least, so_far)),
        );
      }))

  pub say-on : LeadsThrough v new h
  say-on = leads-more v old new h (Say i ∷ []) events same.timetable was says.0 (λ end end_is accepted whole. record {
    accepted = accepted;
    said = (
        let more = length-append (messages v old.timetable mid) (text ∷ []) in
        let now = ap length says.1.messages in
        let before = was.said in
        let count : length (messages v old.timetable spoken) ≡ new.messages = omega (arith, more, now, before, counts) in
        ap (λ t. length (messages v t end)) same.timetable ∙ ap (λ e. length (messages v old.timetable e)) end_is ∙ count);
    stand = λ k z there. subst (λ t. StandsThere v t end k z) (sym same.timetable) (still-stands end end_is k z (sym (ap (λ l. slice_get l k) standings) ∙ there));
    others = λ k past less. absurd (
        let count = ap length standings in
        let set_count = length-set old.standings i y in
        let crew = ap length same.agents in
        omega (arith, past, less, count, set_count, crew, all));
    knows = λ k b there none j. (
        let before = was.knows k b (ap (λ l. slice_get l k) (sym same.agents) ∙ there) none j in
        let now : known v new.timetable end k j ≡ known v old.timetable mid k j
        = ap (λ t. known v t end k j) same.timetable ∙ ap (λ e. known v old.timetable e k j) end_is ∙ says.1.known k j in
        omega (arith, before, now));
    heard = λ n z there. (
        let before = was.heard n z (ap (λ l. slice_get l n) (sym heard) ∙ there) in
        let now : known v new.timetable end z.agent z.of ≡ known v old.timetable mid z.agent z.of
        = ap (λ t. known v t end z.agent z.of) same.timetable ∙ ap (λ e. known v old.timetable e z.agent z.of) end_is ∙ says.1.known z.agent z.of in
        omega (arith, before, now));
  })

-- ---- a delivery

module _ (v : Version) (h : History) (old new : EndingState) (i j : ℕ) (x y : Standing) (track : Track)
    (at : slice_get old.standings i ≡ Some x) (from_at : slice_get old.standings j ≡ Some y) (its : track_of old.timetable i ≡ Some track)
    (all : length old.standings ≡ length old.agents) (same : IsOf old new) (standings : new.standings ≡ old.standings) (counts : new.messages ≡ old.messages)
    (events : new.events ≡ old.events ++ Deliver i y.message ∷ []) (some : 0 < y.told)
    (heard : (n : ℕ) (z : Heard) → slice_get new.heard n ≡ Some z → (slice_get old.heard n ≡ Some z) ⊎ ((z.agent ≡ i) × (z.of ≡ j) × (z.number ≡ y.told)))
    (was : LeadsThrough v old h) where
  abbrev before : History
  before = history_after v old.timetable h old.events

  has : (text : Message) × (slice_get (messages v old.timetable before) y.message ≡ Some text) × (y.told ≤ told text j)
  has = elim ((was.stand j y from_at).told) [
    | inl none ↦ absurd (omega (arith, none, some))
    | inr text ↦ text
  ]

  abbrev heard_then : History
  heard_then = history_after v old.timetable before (Deliver i y.message ∷ [])

  hears : AreAccepted v old.timetable before (Deliver i y.message ∷ []) × Learns v old.timetable i before heard_then has.0
  hears = learns v old.timetable before i track its (was.stand i x at).ready y.message has.0 has.1

  learns-it : y.told ≤ known v old.timetable heard_then i j
  learns-it = (let least = has.2 in let now = hears.1.learns j in omega (arith, least, now))

  pub deliver-on : LeadsThrough v new h
  deliver-on = leads-more v old new h (Deliver i y.message ∷ []) events same.timetable was hears.0 (λ end end_is accepted whole. record {
    accepted = accepted;
    said = ap (λ t. length (messages v t end)) same.timetable ∙ ap (λ e. length (messages v old.timetable e)) end_is ∙ ap length hears.1.messages ∙ was.said ∙ sym counts;
    stand = λ k z there. (
        let stood = was.stand k z (ap (λ l. slice_get l k) (sym standings) ∙ there) in
        subst (λ t. StandsThere v t end k z) (sym same.timetable) (subst (λ e. StandsThere v old.timetable e k z) (sym end_is)
        (stands-on v old.timetable before heard_then k z stood (hears.1.ready k stood.ready) (hears.1.finished k) hears.1.messages)));
    others = λ k past less. absurd (
        let count = ap length standings in
        let crew = ap length same.agents in
        omega (arith, past, less, count, crew, all));
    knows = λ k b there none l. (
        let first = was.knows k b (ap (λ m. slice_get m k) (sym same.agents) ∙ there) none l in
        let more = hears.1.known k l in
        let now : known v new.timetable end k l ≡ known v old.timetable heard_then k l
        = ap (λ t. known v t end k l) same.timetable ∙ ap (λ e. known v old.timetable e k l) end_is in
        omega (arith, first, more, now));
    heard = λ n z there. (
        let now : known v new.timetable end z.agent z.of ≡ known v old.timetable heard_then z.agent z.of
        = ap (λ t. known v t end z.agent z.of) same.timetable ∙ ap (λ e. known v old.timetable e z.agent z.of) end_is in
        elim (heard n z there) [
          | inl kept ↦ (let first = was.heard n z kept in let more = hears.1.known z.agent z.of in omega (arith, first, more, now))
          | inr put ↦ (
              let learned = learns-it in
              let at_z : known v old.timetable heard_then z.agent z.of ≡ known v old.timetable heard_then i j
              = ap (λ a. known v old.timetable heard_then a z.of) put.0 ∙ ap (known v old.timetable heard_then i) put.1 in
              let number = put.2 in
              omega (arith, learned, at_z, number, now))
        ]);
  })

  pub deliver-knows : y.told ≤ known v new.timetable (history_after v new.timetable h new.events) i j
  deliver-knows =
      let after : history_after v new.timetable h new.events ≡ heard_then
      = ap (λ t. history_after v t h new.events) same.timetable ∙ ap (history_after v old.timetable h) events ∙ history-more v old.timetable h old.events (Deliver i y.message ∷ []) in
      let now : known v new.timetable (history_after v new.timetable h new.events) i j ≡ known v old.timetable heard_then i j
      = ap (λ t. known v t (history_after v new.timetable h new.events) i j) same.timetable ∙ ap (λ e. known v old.timetable e i j) after in
      let learned = learns-it in
      omega (arith, learned, now)

-- ---- a move

module _ (v : Version) (h : History) (old new : EndingState) (i : ℕ) (x y : Standing) (track : Track)
    (at : slice_get old.standings i ≡ Some x) (its : track_of old.timetable i ≡ Some track) (all : length old.standings ≡ length old.agents)
    (less : x.done < moves track) (met : IsMet (known v old.timetable (history_after v old.timetable h old.events) i) (need old.timetable i track x.done))
    (same : IsOf old new) (heard : new.heard ≡ old.heard) (counts : new.messages ≡ old.messages) (events : new.events ≡ old.events ++ Start i ∷ Finish i ∷ [])
    (standings : new.standings ≡ set old.standings i y) (goes_on : y.done ≡ x.done + 1) (number : y.message ≡ x.message) (tells : y.told ≡ x.told)
    (was : LeadsThrough v old h) where
  abbrev first : History
  first = history_after v old.timetable h old.events

  abbrev moved : History
  moved = history_after v old.timetable first (Start i ∷ Finish i ∷ [])

  goes : AreAccepted v old.timetable first (Start i ∷ Finish i ∷ []) × MovesOn v old.timetable i first moved
  goes =
      let so_far = (was.stand i x at).finished in
      moves_on v old.timetable first i track its (was.stand i x at).ready (omega (arith, less, so_far))
      (subst (λ k. IsMet (known v old.timetable first i) (need old.timetable i track k)) (sym so_far) met)

  pub move-on : LeadsThrough v new h
  move-on = leads-more v old new h (Start i ∷ Finish i ∷ []) events same.timetable was goes.0 (λ end end_is accepted whole. record {
    accepted = accepted;
    said = ap (λ t. length (messages v t end)) same.timetable ∙ ap (λ e. length (messages v old.timetable e)) end_is ∙ ap length goes.1.messages ∙ was.said ∙ sym counts;
    stand = λ k z there. subst (λ t. StandsThere v t end k z) (sym same.timetable) (subst (λ e. StandsThere v old.timetable e k z) (sym end_is)
        (each-set (λ n s. StandsThere v old.timetable moved n s) old.standings i y
        (λ n s apart at_n. (let stood = was.stand n s at_n in stands-on v old.timetable first moved n s stood (goes.1.ready n stood.ready) (goes.1.others n apart) goes.1.messages))
        (let stood = was.stand i x at in record {
          ready = goes.1.ready i stood.ready;
          finished = goes.1.own ∙ ap (λ n. n + 1) stood.finished ∙ sym goes_on;
          told = subst (λ l. HasTold l i y) (sym goes.1.messages) (told-as (messages v old.timetable first) stood.told);
        })
        k z (sym (ap (λ l. slice_get l k) standings) ∙ there)));
    others = λ k past inside. absurd (
        let count = ap length standings in
        let set_count = length-set old.standings i y in
        let crew = ap length same.agents in
        omega (arith, past, inside, count, set_count, crew, all));
    knows = λ k b there none l. (
        let before_it = was.knows k b (ap (λ m. slice_get m k) (sym same.agents) ∙ there) none l in
        let now : known v new.timetable end k l ≡ known v old.timetable first k l
        = ap (λ t. known v t end k l) same.timetable ∙ ap (λ e. known v old.timetable e k l) end_is ∙ goes.1.known k l in
        omega (arith, before_it, now));
    heard = λ n z there. (
        let before_it = was.heard n z (ap (λ l. slice_get l n) (sym heard) ∙ there) in
        let now : known v new.timetable end z.agent z.of ≡ known v old.timetable first z.agent z.of
        = ap (λ t. known v t end z.agent z.of) same.timetable ∙ ap (λ e. known v old.timetable e z.agent z.of) end_is ∙ goes.1.known z.agent z.of in
        omega (arith, before_it, now));
  }) where
    told-as : (l : List Message) → HasTold l i x → HasTold l i y
    told-as l (inl none) = inl (tells ∙ none)
    told-as l (inr text) = inr (text.0, ap (slice_get l) number ∙ text.1, (let least = text.2 in omega (arith, least, tells)))

pub two-more : {X : Type 0} (xs : List X) (x y : X) → (xs ++ x ∷ []) ++ y ∷ [] ≡ xs ++ x ∷ y ∷ []
two-more [] x y = refl
two-more (z ∷ xs) x y = ap (λ l. z ∷ l) (two-more xs x y)

-- one more move of one that stands there
pub has-moved : (l : List Standing) (i : ℕ) (x y : Standing) → slice_get l i ≡ Some x → y.done ≡ x.done + 1 → HasMoved i l (set l i y)
has-moved l i x y at more = record {
  count = length-set l i y;
  own = finished-set l i y (slice_get_within l i x at) ∙ more ∙ ap (λ n. n + 1) (sym (finished-is l i x at));
  others = λ k apart. finished-other l i k y apart;
}

-- what holds of a success follows from what does
pub ok-map : {E P Q : Type 0} (r : Result Unit E) → (P → Q) → OnOk r P → OnOk r Q
ok-map (Ok u) f p = f p
ok-map (Err e) f p = tt

-- an agent that is told what its next move needs makes it
pub known-then : (old mid new : EndingState) (i : ℕ) → HasStayed old mid → LeadsOn old mid → TeachesNeed old mid i → HasLeft old i → LeadsOnceKnown mid new i → LeadsOn old new
known-then old mid new i stayed first teaches left onward v h begins was =
    let table = stayed.same.timetable in
    let begins_mid = subst (λ a. Begins v mid.timetable a h) (sym stayed.same.agents) (subst (λ t. Begins v t old.agents h) (sym table) begins) in
    let taught = teaches v h begins was left.0 left.1 in
    onward v h begins_mid (first v h begins was) left.0 (ap (λ t. track_of t i) table ∙ left.1)
    (subst (λ k. IsMet (known v mid.timetable (history_after v mid.timetable h mid.events) i) (need mid.timetable i left.0 k)) (sym (stayed.finished i))
    (subst (λ t. IsMet (known v mid.timetable (history_after v mid.timetable h mid.events) i) (need t i left.0 (finished_in old.standings i))) (sym table) taught))
