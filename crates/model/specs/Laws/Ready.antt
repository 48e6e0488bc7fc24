-- What the events change that bring agents on.
use Rattle.std.proofs.Common.{◌≡◌, ℕ, ◌+◌, ◌<◌, ◌≤◌, eqb, Bool, true, false, cond, [], ◌∷◌, ◌++◌}
use Rattle.std.proofs.Common.{length, max, Some, None, inl, inr, arith, refl, sym, ap, subst, ◌∙◌}
use Rattle.std.specs.Prelude.{Option, ◌&&◌, nat_lt, slice_get}
use Rattle.std.proofs.lemmas.Bool.{cases_eq, cond-true, cond-false, cond_both, and_from, and_left}
use Rattle.std.proofs.lemmas.Bool.{and_right, eqb-true, eq-eqb, ne_eqb, le-ltb, false≢true}
use Rattle.std.proofs.lemmas.List.{append-nil}
use Rattle.std.proofs.lemmas.Option.{slice_get_within}
use Rattle.model.specs.declared.event.Event.{Event}
use Rattle.model.specs.declared.event.Event.TheVariants.{Start, Finish, Say, Deliver, Restart}
use Rattle.model.specs.declared.version.Version.{Version}
use Rattle.model.specs.declared.version.Version.TheVariants.{One, Two}
use Rattle.model.specs.declared.why.Why.TheVariants.{Broken, AlreadyMoving, AtEnd, Waits, NotMoving}
use Rattle.model.specs.Timetable.{Track, Timetable, moves, track_of}
use Rattle.model.specs.Dependency.{Need, need, IsMet}
use Rattle.model.specs.Messages.{Message, told, message_said, number_told}
use Rattle.model.specs.History.{Answer, moving, arrived, at, between, refused}
use Rattle.model.specs.History.{History, armed_of, is_broken, is_said, is_heard, is_opened}
use Rattle.model.specs.History.{is_begun, is_ended, is_store_failed, kept_starts, done, is_moving}
use Rattle.model.specs.History.{told_of, messages, known}
use Rattle.model.specs.Rules.{path_cell, stored, unless_waiting, deliver_answer, answer}
use Rattle.model.specs.Completion.{history_after, IsAnswerRefused, AreAccepted}
use Rattle.model.specs.Ready.{IsReady, StayReady, KeepsOthers, finish_events, rest_events}
use Rattle.model.specs.Ready.{ComesToRest, MovesOn, SpeaksUp, Learns}
use Rattle.model.specs.Laws.Entries.{entries-told}
use Rattle.model.specs.Laws.Runs.{answer-is, level}

-- ---- answers

abbrev is_refusal : Answer → Bool
is_refusal (refused why) = true
is_refusal _ = false

accepted_as : (r s : Answer) → r ≡ s → is_refusal s ≡ false → IsAnswerRefused r → ⊥
accepted_as r s same fine why = false≢true (sym fine ∙ ap is_refusal (sym same ∙ why.1))

-- a choice by two tests
both_hold : {X : Type 0} (x y : Bool) (p q : X) → x ≡ true → y ≡ true → cond (x && y) p q ≡ p
both_hold x y p q e f = cond-true (x && y) p q (and_from x y e f)

second_fails : {X : Type 0} (x y : Bool) (p q : X) → y ≡ false → cond (x && y) p q ≡ q
second_fails x y p q e = cond-false (x && y) p q (and_right x y e)

first_fails : {X : Type 0} (x y : Bool) (p q : X) → x ≡ false → cond (x && y) p q ≡ q
first_fails x y p q e = cond-false (x && y) p q (and_left x y e)

-- one, where a test holds
abbrev counted : Bool → ℕ
counted b = cond b 1 0

other : (k i : ℕ) → (k ≡ i → ⊥) → eqb i k ≡ false
other k i apart = ne_eqb i k (λ e. apart (sym e))

own : (i : ℕ) → eqb i i ≡ true
own i = eq-eqb i i refl

moving-from : (h : History) (i : ℕ) → kept_starts h i ≡ done h i + 1 → is_moving h i ≡ true
moving-from h i e = eq-eqb (kept_starts h i) (done h i + 1) e

still-from : (h : History) (i : ℕ) → kept_starts h i ≡ done h i → is_moving h i ≡ false
still-from h i e = ne_eqb (kept_starts h i) (done h i + 1) (λ f. omega (arith, e, f))

module _ (v : Version) (tab : Timetable) where
  -- the history with an event and its answer
  abbrev with_event : History → Event → History
  with_event h e = record { event = e; answer = answer v tab h e } ∷ h

  -- who is ready stays so where one is ready and nothing of the others changes
  pub others-ready
      : (i : ℕ) (h new : History) → KeepsOthers v tab i h new → IsReady new i → StayReady h new
  others-ready i h new others ready k was =
      elim (cases_eq k i) [
        | inl same ↦ subst (IsReady new) (sym same) ready
        | inr apart ↦ record {
          sound = others.broken k apart ∙ was.sound;
          unarmed = others.armed k apart ∙ was.unarmed;
          still = others.begun k apart ∙ was.still ∙ sym (others.finished k apart);
        }
      ]

  same-keeps : (i : ℕ) (h : History) → KeepsOthers v tab i h h
  same-keeps i h = record {
    broken = λ k apart. refl;
    armed = λ k apart. refl;
    begun = λ k apart. refl;
    finished = λ k apart. refl;
    known = λ k j apart. refl;
  }

  then-keeps : (i : ℕ) (h mid new : History) → KeepsOthers v tab i h mid
      → KeepsOthers v tab i mid new → KeepsOthers v tab i h new
  then-keeps i h mid new first second = record {
    broken = λ k apart. second.broken k apart ∙ first.broken k apart;
    armed = λ k apart. second.armed k apart ∙ first.armed k apart;
    begun = λ k apart. second.begun k apart ∙ first.begun k apart;
    finished = λ k apart. second.finished k apart ∙ first.finished k apart;
    known = λ k j apart. second.known k j apart ∙ first.known k j apart;
  }

  -- ---- a restart

  record Opens (i : ℕ) (h new : History) : Type 0 where
    sound : is_broken new i ≡ false
    unarmed : armed_of new i ≡ None
    begun : kept_starts new i ≡ kept_starts h i
    finished : done new i ≡ done h i
    messages : messages v tab new ≡ messages v tab h
    others : KeepsOthers v tab i h new

  module _ (h : History) (i : ℕ) (track : Track) (there : track_of tab i ≡ Some track) where
    opened : is_opened (answer v tab h (Restart i)) ≡ true
    opened =
        ap is_opened (answer-is v tab h (Restart i) track there)
        ∙ cond_both (is_moving h i)
        (between (path_cell track (done h i)) (path_cell track (done h i + 1)) (done h i))
        (at (path_cell track (done h i)) (done h i))
        (λ r. is_opened r ≡ true) (λ e. refl) (λ e. refl)

    restart-accepted : IsAnswerRefused (answer v tab h (Restart i)) → ⊥
    restart-accepted why = false≢true (ap is_opened (sym why.1) ∙ opened)

    opens : Opens i h (with_event h (Restart i))
    opens = record {
      sound = both_hold (eqb i i) _ false (is_broken h i) (own i) opened;
      unarmed = both_hold (eqb i i) _ None (armed_of h i) (own i) opened;
      begun = omega arith;
      finished = omega arith;
      messages = append-nil (messages v tab h);
      others = record {
        broken = λ k apart. first_fails (eqb i k) _ false (is_broken h k) (other k i apart);
        armed = λ k apart. first_fails (eqb i k) _ None (armed_of h k) (other k i apart);
        begun = λ k apart. omega arith;
        finished = λ k apart. omega arith;
        known = λ k j apart. first_fails (eqb i k) _ 0 (known v tab h k j) (other k i apart);
      };
    }

  -- ---- the end of a move

  -- the agent, whose writes succeed, has finished what it has begun
  record Settles (i : ℕ) (h new : History) : Type 0 where
    ready : IsReady new i
    finished : done new i ≡ kept_starts h i
    messages : messages v tab new ≡ messages v tab h
    known : (k j : ℕ) → known v tab new k j ≡ known v tab h k j
    others : KeepsOthers v tab i h new

  module _ (h : History) (i : ℕ) (track : Track) (there : track_of tab i ≡ Some track)
      (sound : is_broken h i ≡ false) (unarmed : armed_of h i ≡ None) where
    abbrev to : Answer
    to = arrived (path_cell track (done h i + 1))

    finishes : is_moving h i ≡ true → answer v tab h (Finish i) ≡ to
    finishes going =
        answer-is v tab h (Finish i) track there
        ∙ cond-false (is_broken h i) (refused Broken) _ sound
        ∙ cond-true (is_moving h i) (stored (armed_of h i) to) (refused NotMoving) going
        ∙ ap (λ a. stored a to) unarmed

    settled : kept_starts h i ≡ done h i + 1 → Settles i h (with_event h (Finish i))
    settled going =
        let r = finishes (moving-from h i going) in
        let unfailed : is_store_failed (answer v tab h (Finish i)) ≡ false = ap is_store_failed r in
        let ended : (a : Option ℕ) → is_ended (answer v tab h (Finish i)) a ≡ true =
        λ a. ap (λ x. is_ended x a) r in
        let one : counted (eqb i i && is_ended (answer v tab h (Finish i)) (armed_of h i)) ≡ 1 =
        both_hold (eqb i i) _ 1 0 (own i) (ended (armed_of h i)) in
        record {
          ready = record {
            sound = second_fails (eqb i i) _ true (is_broken h i) unfailed ∙ sound;
            unarmed = second_fails (eqb i i) _ None (armed_of h i) unfailed ∙ unarmed;
            still = omega (arith, going, one);
          };
          finished = omega (arith, going, one);
          messages = append-nil (messages v tab h);
          known = λ k j. refl;
          others = record {
            broken = λ k apart. first_fails (eqb i k) _ true (is_broken h k) (other k i apart);
            armed = λ k apart. first_fails (eqb i k) _ None (armed_of h k) (other k i apart);
            begun = λ k apart. omega arith;
            finished = λ k apart. (
                let none : counted (eqb i k && is_ended (answer v tab h (Finish i)) (armed_of h k))
                ≡ 0 = first_fails (eqb i k) _ 1 0 (other k i apart) in
                omega (arith, none));
            known = λ k j apart. refl;
          };
        }

    -- where it makes a move
    settles : (going : Bool) → is_moving h i ≡ going → done h i ≤ kept_starts h i
        → kept_starts h i ≤ done h i + 1
        → AreAccepted v tab h (finish_events going i)
        × Settles i h (history_after v tab h (finish_events going i))
    settles true going low high = (
      (accepted_as (answer v tab h (Finish i)) to (finishes going) refl, tt),
      settled (eqb-true (kept_starts h i) (done h i + 1) going),
    )
    settles false still low high =
        let level = level h i low high still in (
          tt,
          record {
            ready = record { sound = sound; unarmed = unarmed; still = level };
            finished = sym level;
            messages = refl;
            known = λ k j. refl;
            others = same-keeps i h;
          },
        )

  -- ---- coming to rest

  pub comes_to_rest : (h : History) (i : ℕ) (track : Track) → track_of tab i ≡ Some track
      → done h i ≤ kept_starts h i → kept_starts h i ≤ done h i + 1
      → (anew going : Bool) → is_moving h i ≡ going
      → (anew ≡ false → (is_broken h i ≡ false) × (armed_of h i ≡ None))
      → AreAccepted v tab h (rest_events anew going i)
      × ComesToRest v tab anew i h (history_after v tab h (rest_events anew going i))
  comes_to_rest h i track there low high true going e sound =
      let first = opens h i track there in
      let mid = with_event h (Restart i) in
      let begun_same = first.begun in
      let done_same = first.finished in
      let rest = settles mid i track there first.sound first.unarmed going
      (ap (λ n. eqb n (done mid i + 1)) first.begun ∙ ap (λ n. eqb (kept_starts h i) (n + 1))
      first.finished ∙ e)
      (omega (arith, low, begun_same, done_same)) (omega (arith, high, begun_same, done_same)) in (
        (restart-accepted h i track there, rest.0),
        record {
          ready = rest.1.ready;
          finished = rest.1.finished ∙ first.begun;
          messages = rest.1.messages ∙ first.messages;
          known = λ kept. absurd (false≢true (sym kept));
          others =
              then-keeps i h mid (history_after v tab mid (finish_events going i)) first.others
              rest.1.others;
        },
      )
  comes_to_rest h i track there low high false going e sound =
      let fine = sound refl in
      let rest = settles h i track there fine.0 fine.1 going e low high in (
        rest.0,
        record {
          ready = rest.1.ready;
          finished = rest.1.finished;
          messages = rest.1.messages;
          known = λ kept j. rest.1.known i j;
          others = rest.1.others;
        },
      )

  -- ---- a move

  unless-met : (known : ℕ → ℕ) (o : Option Need) (r : Answer) → IsMet known o
      → unless_waiting known o r ≡ r
  unless-met known None r met = refl
  unless-met known (Some n) r met =
      cond-false (nat_lt (known n.agent) n.count) (refused (Waits n.agent n.count)) r
      (le-ltb (known n.agent) n.count met)

  module _ (h : History) (i : ℕ) (track : Track) (there : track_of tab i ≡ Some track)
      (ready : IsReady h i) (less : done h i < moves track)
      (met : IsMet (known v tab h i) (need tab i track (done h i))) where
    abbrev onto : Answer
    onto = moving (path_cell track (done h i + 1))

    begins : answer v tab h (Start i) ≡ onto
    begins =
        answer-is v tab h (Start i) track there
        ∙ cond-false (is_broken h i) (refused Broken) _ ready.sound
        ∙ cond-false (is_moving h i) (refused AlreadyMoving) _ (still-from h i ready.still)
        ∙ cond-false (eqb (done h i) (moves track)) (refused AtEnd) _
        (ne_eqb (done h i) (moves track) (λ e. omega (arith, e, less)))
        ∙ unless-met (known v tab h i) (need tab i track (done h i))
        (stored (armed_of h i) onto) met
        ∙ ap (λ a. stored a onto) ready.unarmed

    abbrev begun : History
    begun = with_event h (Start i)

    begun-own : kept_starts begun i ≡ done h i + 1
    begun-own =
        let one : counted (eqb i i && is_begun (answer v tab h (Start i)) (armed_of h i)) ≡ 1
        = both_hold (eqb i i) _ 1 0 (own i) (ap (λ x. is_begun x (armed_of h i)) begins) in
        let still = ready.still in
        omega (arith, one, still)

    unfailed : is_store_failed (answer v tab h (Start i)) ≡ false
    unfailed = ap is_store_failed begins

    begin-keeps : KeepsOthers v tab i h begun
    begin-keeps = record {
      broken = λ k apart. first_fails (eqb i k) _ true (is_broken h k) (other k i apart);
      armed = λ k apart. first_fails (eqb i k) _ None (armed_of h k) (other k i apart);
      begun = λ k apart. (
          let none : counted (eqb i k && is_begun (answer v tab h (Start i)) (armed_of h k)) ≡ 0 =
          first_fails (eqb i k) _ 1 0 (other k i apart) in
          omega (arith, none));
      finished = λ k apart. omega arith;
      known = λ k j apart. refl;
    }

    pub moves_on : AreAccepted v tab h (Start i ∷ Finish i ∷ [])
        × MovesOn v tab i h (history_after v tab h (Start i ∷ Finish i ∷ []))
    moves_on =
        let sound : is_broken begun i ≡ false =
        second_fails (eqb i i) _ true (is_broken h i) unfailed ∙ ready.sound in
        let unarmed : armed_of begun i ≡ None =
        second_fails (eqb i i) _ None (armed_of h i) unfailed ∙ ready.unarmed in
        let done_same : done begun i ≡ done h i = omega arith in
        let begun_now = begun-own in
        let ended = settles begun i track there sound unarmed true
        (moving-from begun i (omega (arith, begun_now, done_same)))
        (omega (arith, begun_now, done_same)) (omega (arith, begun_now, done_same)) in
        let new = with_event begun (Finish i) in
        let keeps = then-keeps i h begun new begin-keeps ended.1.others in (
          (accepted_as (answer v tab h (Start i)) onto begins refl, ended.0),
          record {
            ready = others-ready i h new keeps ended.1.ready;
            own = ended.1.finished ∙ begun-own;
            others = keeps.finished;
            messages = ended.1.messages ∙ append-nil (messages v tab h);
            known = ended.1.known;
          },
        )

  -- ---- a message

  tells-own : (w : Version) (i d : ℕ) (knows : ℕ → ℕ) → i < length tab.tracks
      → d ≤ told (message_said w (length tab.tracks) i d knows) i
  tells-own One i d knows within =
      (let same = cond-true (eqb i i) (max d 0) 0 (own i) in omega (arith, same))
  tells-own Two i d knows within =
      let all = entries-told (number_told i d knows) 0 (length tab.tracks) i (omega arith)
      (omega (arith, within)) in
      let same = cond-true (eqb i i) d (knows i) (own i) in
      omega (arith, all, same)

  module _ (h : History) (i : ℕ) (track : Track) (there : track_of tab i ≡ Some track)
      (ready : IsReady h i) where
    speaks : is_said (answer v tab h (Say i)) ≡ true
    speaks =
        ap is_said (answer-is v tab h (Say i) track there)
        ∙ ap is_said (cond-false (is_broken h i) (refused Broken) _ ready.sound)

    abbrev pub message : Message
    message = message_said v (length tab.tracks) i (done h i) (known v tab h i)

    pub speaks_up : AreAccepted v tab h (Say i ∷ [])
        × SpeaksUp v tab i h (history_after v tab h (Say i ∷ [])) message
    speaks_up = (
      ((λ why. false≢true (ap is_said (sym why.1) ∙ speaks)), tt),
      record {
        ready =
            λ k was. record {
              sound = was.sound;
              unarmed = was.unarmed;
              still = (let still = was.still in omega (arith, still));
            };
        finished = λ k. omega arith;
        messages =
            ap (λ l. messages v tab h ++ l)
            (cond-true (is_said (answer v tab h (Say i))) (message ∷ []) [] speaks);
        known = λ k j. refl;
        tells =
            tells-own v i (done h i) (known v tab h i) (slice_get_within tab.tracks i track there);
      },
    )

    pub learns : (m : ℕ) (message : Message) → slice_get (messages v tab h) m ≡ Some message
        → AreAccepted v tab h (Deliver i m ∷ [])
        × Learns v tab i h (history_after v tab h (Deliver i m ∷ [])) message
    learns m message kept = (
      ((λ why. false≢true (ap is_heard (sym why.1) ∙ hears)), tt),
      record {
        ready =
            λ k was. record {
              sound = was.sound;
              unarmed = was.unarmed;
              still = (let still = was.still in omega (arith, still));
            };
        finished = λ k. omega arith;
        messages = append-nil (messages v tab h);
        known =
            λ k j. cond_both (eqb i k && is_heard (answer v tab h (Deliver i m)))
            (max (known v tab h k j) (told_of (slice_get (messages v tab h) m) j))
            (known v tab h k j)
            (λ n. known v tab h k j ≤ n) (λ e. omega arith) (λ e. omega arith);
        learns = λ j. (
            let raised = both_hold (eqb i i) (is_heard (answer v tab h (Deliver i m)))
            (max (known v tab h i j) (told_of (slice_get (messages v tab h) m) j))
            (known v tab h i j) (own i) hears in
            let told_is = ap (λ o. told_of o j) kept in
            omega (arith, raised, told_is));
      },
    ) where
      hears : is_heard (answer v tab h (Deliver i m)) ≡ true
      hears =
          ap is_heard (answer-is v tab h (Deliver i m) track there)
          ∙ ap (λ o. is_heard (deliver_answer v tab h i o)) kept
          ∙ ap is_heard (cond-false (is_broken h i) (refused Broken) _ ready.sound)
