-- Every run can be completed, or a rotation keeps it from its end.
use Rattle.std.proofs.Common.{◌≡◌, ℕ, zero, suc, ◌+◌, ◌-◌, ◌<◌, ◌≤◌, true, false, List, [], ◌∷◌, ◌++◌, length, Some, None, inl, inr, arith, refl, sym, ap, subst, ◌∙◌}
use Rattle.std.specs.Prelude.{◌⊎◌, Option, nat_lt, slice_get}
use Rattle.std.proofs.lemmas.Bool.{cases_lt, ltb-true, ltb-false, ne_eqb, true≢false}
use Rattle.std.proofs.lemmas.Option.{same_Some, none-some, slice_get-get_or, slice_get_within}
use Rattle.model.specs.declared.event.Event.{Event}
use Rattle.model.specs.declared.event.Event.TheVariants.{Start, Finish, Say, Deliver}
use Rattle.model.specs.declared.version.Version.{Version}
use Rattle.model.specs.Timetable.{Track, Timetable, moves, track_of, IsConflictFree, IsSwapFree}
use Rattle.model.specs.Dependency.{Need, need, IsMet}
use Rattle.model.specs.Messages.{Message}
use Rattle.model.specs.History.{History, kept_starts, done, is_moving, messages, known}
use Rattle.model.specs.Rules.{IsRun}
use Rattle.model.specs.Completion.{history_after, AreAccepted, HasArrived, IsCompletion}
use Rattle.model.specs.Ready.{IsReady, StayReady, rest_events}
use Rattle.model.specs.Laws.After.{history-more, accepted-more, run-more}
use Rattle.model.specs.Laws.Needs.{awaits}
use Rattle.model.specs.Laws.Rounds.{first_that}
use Rattle.model.specs.Laws.Runs.{progress, in_step}
use Rattle.model.specs.Laws.Ready.{others-ready, comes_to_rest, moves_on, message, speaks_up, learns}
use Rattle.model.specs.Laws.Stuck.{CanMove, HasRotation, stuck}

-- ---- how many moves are left

abbrev remaining : List Track → ℕ → (ℕ → ℕ) → ℕ
remaining [] first finished = 0
remaining (track ∷ tracks) first finished = (moves track - finished first) + remaining tracks (first + 1) finished

remaining-same : (tracks : List Track) (first : ℕ) (old new : ℕ → ℕ) → ((k : ℕ) → first ≤ k → new k ≡ old k) → remaining tracks first new ≡ remaining tracks first old
remaining-same [] first old new same = refl
remaining-same (track ∷ tracks) first old new same =
    let rest = remaining-same tracks (first + 1) old new (λ k most. same k (omega (arith, most))) in
    let here = same first (omega arith) in
    omega (arith, rest, here)

remaining-less : (tracks : List Track) (first i at : ℕ) (track : Track) (old new : ℕ → ℕ) → at ≡ first + i → slice_get tracks i ≡ Some track
    → old at < moves track → new at ≡ old at + 1 → ((k : ℕ) → (k ≡ at → ⊥) → new k ≡ old k) → remaining tracks first new < remaining tracks first old
remaining-less [] first i at track old new place there less own others = absurd (none-some track there)
remaining-less (head ∷ tracks) first zero at track old new place there less own others =
    let rest = remaining-same tracks (first + 1) old new (λ k most. others k (λ e. omega (arith, e, most, place))) in
    let here : at ≡ first = omega (arith, place) in
    let grown = subst (λ n. new n ≡ old n + 1) here own in
    let left = subst (λ t. old first < moves t) (sym (same_Some head track there)) (subst (λ n. old n < moves track) here less) in
    omega (arith, rest, grown, left)
remaining-less (head ∷ tracks) first (suc i) at track old new place there less own others =
    let rest = remaining-less tracks (first + 1) i at track old new (omega (arith, place)) there less own others in
    let here = others first (λ e. omega (arith, e, place)) in
    omega (arith, rest, here)

-- the message that was said last
last_said : (l : List Message) (x : Message) → slice_get (l ++ x ∷ []) (length l) ≡ Some x
last_said [] x = refl
last_said (y ∷ l) x = last_said l x

module _ (v : Version) (tab : Timetable) where
  -- ---- everyone comes to rest

  abbrev FirstAreReady : ℕ → History → Type 0
  FirstAreReady n h = (i : ℕ) (track : Track) → i < n → track_of tab i ≡ Some track → IsReady h i

  abbrev RestFirst : ℕ → History → Type 0
  RestFirst n h = (events : List Event) × AreAccepted v tab h events × FirstAreReady n (history_after v tab h events)

  next_ready : (n : ℕ) (h : History) → IsRun v tab h → RestFirst n h → (o : Option Track) → track_of tab n ≡ o → RestFirst (suc n) h
  next_ready n h run before None none = (
    before.0,
    before.1,
    λ i track less there. elim (cases_lt i n) [
      | inl earlier ↦ before.2 i track earlier there
      | inr past ↦ absurd (let same : i ≡ n = omega (arith, less, past) in none-some track (sym none ∙ ap (track_of tab) (sym same) ∙ there))
    ],
  )
  next_ready n h run before (Some own) here =
      let mid = history_after v tab h before.0 in
      let bounds = in_step v tab mid n (run-more v tab h before.0 run) in
      let events = rest_events true (is_moving mid n) n in
      let rest = comes_to_rest v tab mid n own here bounds.0 bounds.1 true (is_moving mid n) refl (λ e. absurd (true≢false e)) in
      let new = history_after v tab mid events in (
        before.0 ++ events,
        accepted-more v tab h before.0 events before.1 rest.0,
        subst (FirstAreReady (suc n)) (sym (history-more v tab h before.0 events)) (λ i track less there. elim (cases_lt i n) [
          | inl earlier ↦ others-ready v tab n mid new rest.1.others rest.1.ready i (before.2 i track earlier there)
          | inr past ↦ (let same : n ≡ i = omega (arith, less, past) in subst (IsReady new) same rest.1.ready)
        ]),
      )

  first_ready : (n : ℕ) (h : History) → IsRun v tab h → RestFirst n h
  first_ready zero h run = ([], tt, λ i track less there. absurd (omega (arith, less)))
  first_ready (suc n) h run = next_ready n h run (first_ready n h run) (track_of tab n) refl

  abbrev AreReady : History → Type 0
  AreReady h = (i : ℕ) (track : Track) → track_of tab i ≡ Some track → IsReady h i

  -- ---- a move more

  -- one move more is finished, and all are ready again
  record Advances (h : History) : Type 0 where
    events : List Event
    accepted : AreAccepted v tab h events
    ready : AreReady (history_after v tab h events)
    fewer : remaining tab.tracks 0 (done (history_after v tab h events)) < remaining tab.tracks 0 (done h)

  module _ (h : History) (ready : AreReady h) (run : IsRun v tab h) where
    all-ready : (new : History) → StayReady h new → AreReady new
    all-ready new stay i track there = stay i (ready i track there)

    -- where an agent knows that its need is met, after events that finish nothing
    advance : (first : List Event) → AreAccepted v tab h first → StayReady h (history_after v tab h first)
        → ((k : ℕ) → done (history_after v tab h first) k ≡ done h k)
        → (i : ℕ) (track : Track) → track_of tab i ≡ Some track → done h i < moves track
        → IsMet (known v tab (history_after v tab h first) i) (need tab i track (done h i)) → Advances h
    advance first accepted stay same i track there less met =
        let mid = history_after v tab h first in
        let own = same i in
        let goes = moves_on v tab mid i track there (all-ready mid stay i track there) (omega (arith, less, own))
        (subst (λ k. IsMet (known v tab mid i) (need tab i track k)) (sym own) met) in
        let last = Start i ∷ Finish i ∷ [] in
        let new = history_after v tab mid last in
        let moved = goes.1.own in
        let whole = history-more v tab h first last in
        record {
          events = first ++ last;
          accepted = accepted-more v tab h first last accepted goes.0;
          ready = subst AreReady (sym whole) (λ k other at. goes.1.ready k (all-ready mid stay k other at));
          fewer = subst (λ l. remaining tab.tracks 0 (done l) < remaining tab.tracks 0 (done h)) (sym whole)
              (remaining-less tab.tracks 0 i i track (done h) (done new) (omega arith) there less (omega (arith, moved, own)) (λ k apart. goes.1.others k apart ∙ same k));
        }

    tell : (i : ℕ) (track : Track) → track_of tab i ≡ Some track → done h i < moves track → (n : Need) → need tab i track (done h i) ≡ Some n
        → n.count ≤ done h n.agent → (to : Track) → track_of tab n.agent ≡ Some to → Advances h
    tell i track there less n asks most to its =
        let j = n.agent in
        let says = speaks_up v tab h j to its (ready j to its) in
        let text = message v tab h j to its (ready j to its) in
        let one = history_after v tab h (Say j ∷ []) in
        let m = length (messages v tab h) in
        let kept : slice_get (messages v tab one) m ≡ Some text = ap (λ l. slice_get l m) says.1.messages ∙ last_said (messages v tab h) text in
        let hears = learns v tab one i track there (all-ready one says.1.ready i track there) m text kept in
        let two = history_after v tab one (Deliver i m ∷ []) in
        let told = says.1.tells in
        let learned = hears.1.learns j in
        advance (Say j ∷ Deliver i m ∷ []) (says.0.0, hears.0) (λ k was. hears.1.ready k (says.1.ready k was))
        (λ k. hears.1.finished k ∙ says.1.finished k) i track there less
        (subst (IsMet (known v tab two i)) (sym asks) (omega (arith, most, told, learned)))

    advances : IsConflictFree tab → CanMove tab (done h) → Advances h
    advances free can = by_need (need tab can.agent can.track (done h can.agent)) refl where
      by_need : (o : Option Need) → need tab can.agent can.track (done h can.agent) ≡ o → Advances h
      by_need None none =
          advance [] tt (λ k was. was) (λ k. refl) can.agent can.track can.there can.left (subst (IsMet (known v tab h can.agent)) (sym none) tt)
      by_need (Some n) asks =
          let a = awaits tab can.agent can.track (done h can.agent) n free can.there can.left asks in
          tell can.agent can.track can.there can.left n asks (subst (IsMet (done h)) asks can.met) a.to a.is_to

  -- ---- the end

  abbrev Completes : History → Type 0
  Completes h = (events : List Event) × IsCompletion v tab h events

  abbrev moves_of : Option Track → ℕ
  moves_of None = 0
  moves_of (Some track) = moves track

  -- nobody has a move left
  all_arrived : (h : History) → IsRun v tab h → AreReady h
      → ((k : ℕ) → k < length tab.tracks → nat_lt (done h k) (moves_of (track_of tab k)) ≡ false) → IsCompletion v tab h []
  all_arrived h run ready none = record {
    accepted = tt;
    arrived = λ i track there.
        let went = progress v tab h i track there run in
        let low = went.low in
        let limit = went.limit in
        let past = ltb-false (done h i) (moves track) (subst (λ o. nat_lt (done h i) (moves_of o) ≡ false) there (none i (slice_get_within tab.tracks i track there))) in
        let still = (ready i track there).still in
        record {
          all = omega (arith, low, limit, past);
          still = ne_eqb (kept_starts h i) (done h i + 1) (λ e. omega (arith, e, still));
        };
  }

  after_more : (h : History) (first more : List Event) → AreAccepted v tab h first → IsCompletion v tab (history_after v tab h first) more → IsCompletion v tab h (first ++ more)
  after_more h first more accepted rest = record {
    accepted = accepted-more v tab h first more accepted rest.accepted;
    arrived = λ i track there. subst (λ l. HasArrived l i track) (sym (history-more v tab h first more)) (rest.arrived i track there);
  }

  ends : IsConflictFree tab → IsSwapFree tab → (fuel : ℕ) (h : History) → IsRun v tab h → AreReady h → remaining tab.tracks 0 (done h) < fuel → HasRotation tab ⊎ Completes h
  ends free unswapped zero h run ready less = absurd (omega (arith, less))
  ends free unswapped (suc fuel) h run ready less = elim (first_that (length tab.tracks) (λ k. nat_lt (done h k) (moves_of (track_of tab k)))) [
    | inr none ↦ inr ([], all_arrived h run ready none)
    | inl found ↦
        let there = slice_get-get_or tab.tracks found.0 (record { start = record { x = 0; y = 0 }; later = [] }) found.1 in
        let left = subst (λ o. nat_lt (done h found.0) (moves_of o) ≡ true) there found.2 in
        elim (stuck tab (done h) free unswapped found.0 (_, there, ltb-true (done h found.0) _ left)) [
          | inr turns ↦ inl turns
          | inl can ↦
              let goes = advances h ready run free can in
              let fewer = goes.fewer in
              elim (ends free unswapped fuel (history_after v tab h goes.events) (run-more v tab h goes.events run) goes.ready (omega (arith, less, fewer))) [
                | inl turns ↦ inl turns
                | inr rest ↦ inr (goes.events ++ rest.0, after_more h goes.events rest.0 goes.accepted rest.1)
              ]
        ]
  ]

  pub turns_or_ends : IsConflictFree tab → IsSwapFree tab → (h : History) → IsRun v tab h → HasRotation tab ⊎ Completes h
  turns_or_ends free unswapped h run =
      let first = first_ready (length tab.tracks) h run in
      let mid = history_after v tab h first.0 in
      elim (ends free unswapped (suc (remaining tab.tracks 0 (done mid))) mid (run-more v tab h first.0 run)
      (λ i track there. first.2 i track (slice_get_within tab.tracks i track there) there) (omega arith)) [
        | inl turns ↦ inl turns
        | inr rest ↦ inr (first.0 ++ rest.0, after_more h first.0 rest.0 first.1 rest.1)
      ]
