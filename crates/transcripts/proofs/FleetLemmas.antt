-- What is seen of all agents, in one order in time, as what their fleet did.
use Rattle.std.proofs.Common.{◌≡◌, ◌≢◌, ℕ, zero, suc, ◌≤◌, eqb, List, [], ◌∷◌, ◌++◌, Some, Ok, Err, inl, inr, refl, sym, ap, subst, ◌∙◌, append_assoc, append-nil}
use Rattle.std.specs.List.{AllByRecursion}
use Rattle.std.specs.Prelude.{map, slice_get, length, if◌then◌else◌, ◌==◌}
use Rattle.std.proofs.Math.Path.{fun_ext}
use Rattle.std.proofs.lemmas.Bool.{cases_eq, cond-true, cond-false, eq-eqb, ne_eqb}
use Rattle.std.proofs.lemmas.Option.{same_Some, none-some}
use Rattle.agent.specs.States.{State, begun_moves}
use Rattle.fleet.specs.Deeds.{Deed, opens, starts, finishes, says, tells, hears, holds, looks, ends, stops, ends_starting, ends_finishing, Does, DoesAll}
use Rattle.fleet.specs.Fleets.{Logged, Log, deeds_of, fresh, bytes_of, spoken, IsHonest, IsFleet}
use Rattle.fleet.specs.OwnPlans.{DoneBy, Doings, logged, log_of, IsFleetBy}
use Rattle.fleet.specs.Laws.Leading.{leads-more}
use Rattle.model.specs.Timetable.{Track, Timetable, moves, track_of}
use Rattle.transcripts.specs.Transcripts.{Seen, state_told, line_answered, SeenOf, Transcript, seen_of, IsSaidLine, SaysIn, WasSaidIn, IsHeardLine, IsPassedOn, AreAllPassedOn, RunsBy}
use Rattle.transcripts.proofs.Spelling.{says-them, heard-them, heard-line}
use Rattle.transcripts.proofs.Stepping.{Did, deed_of, IsSilent, TellsOf, Tells, IsPlainDid, IsStep, AreSteps, AreSeen, SeenLast, seen-last}
use Rattle.transcripts.proofs.ProcessLemmas.{map-both}

-- ---- what is seen of one

pub seen-own : (now : SeenOf) (transcript : Transcript) (i : ℕ) → now.agent ≡ i → seen_of (now ∷ transcript) i ≡ seen_of transcript i ++ now.seen ∷ []
seen-own now transcript i own = cond-true (eqb now.agent i) _ _ (eq-eqb now.agent i own)

pub seen-other : (now : SeenOf) (transcript : Transcript) (i : ℕ) → (now.agent ≡ i → ⊥) → seen_of (now ∷ transcript) i ≡ seen_of transcript i
seen-other now transcript i other = cond-false (eqb now.agent i) _ _ (ne_eqb now.agent i other)

own-deeds : (now : Logged) (log : Log) (i : ℕ) → now.agent ≡ i → deeds_of (now ∷ log) i ≡ deeds_of log i ++ now.deed ∷ []
own-deeds now log i own = cond-true (eqb now.agent i) _ _ (eq-eqb now.agent i own)

other-deeds : (now : Logged) (log : Log) (i : ℕ) → (now.agent ≡ i → ⊥) → deeds_of (now ∷ log) i ≡ deeds_of log i
other-deeds now log i other = cond-false (eqb now.agent i) _ _ (ne_eqb now.agent i other)

-- a function but for its value at one place
abbrev pub with_at : {A : Type 0} → (ℕ → A) → ℕ → A → ℕ → A
with_at f i x k = if i == k then x else f k

at-own : {A : Type 0} (f : ℕ → A) (i : ℕ) (x : A) → with_at f i x i ≡ x
at-own f i x = cond-true (eqb i i) x (f i) (eq-eqb i i refl)

at-other : {A : Type 0} (f : ℕ → A) (i k : ℕ) (x : A) → (i ≡ k → ⊥) → with_at f i x k ≡ f k
at-other f i k x other = cond-false (eqb i k) x (f k) (ne_eqb i k other)

-- ---- honesty

-- what is told of a deed is honest, if what was heard was said
honest-deed : (transcript : Transcript) (before : List (List ℕ)) (seen : Seen) (deed : Deed)
    → ((bytes : List ℕ) → WasSaidIn bytes transcript → (m : ℕ) × (slice_get before m ≡ Some bytes)) → IsPassedOn transcript seen → TellsOf seen deed → IsHonest before deed
honest-deed transcript before (state_told text) deed said passed plain = plain.honest before
honest-deed transcript before (line_answered line text) (hears bytes (Ok answer)) said passed (request, asks, call, is) =
    said bytes (passed bytes (heard-them request bytes answer line asks call) (subst IsHeardLine (sym is) (heard-line bytes answer)))
honest-deed transcript before (line_answered line text) (hears bytes (Err why)) said passed tells_it = tt
honest-deed transcript before (line_answered line text) (opens what count) said passed tells_it = tt
honest-deed transcript before (line_answered line text) (starts answer) said passed tells_it = tt
honest-deed transcript before (line_answered line text) (finishes answer) said passed tells_it = tt
honest-deed transcript before (line_answered line text) (says answer) said passed tells_it = tt
honest-deed transcript before (line_answered line text) (tells answer) said passed tells_it = tt
honest-deed transcript before (line_answered line text) (holds what count) said passed tells_it = tt
honest-deed transcript before (line_answered line text) (looks begun most count) said passed tells_it = tt
honest-deed transcript before (line_answered line text) ends said passed tells_it = tt
honest-deed transcript before (line_answered line text) stops said passed tells_it = tt
honest-deed transcript before (line_answered line text) ends_starting said passed tells_it = tt
honest-deed transcript before (line_answered line text) ends_finishing said passed tells_it = tt

-- whatever was said before is among these
abbrev pub AllSaid : Transcript → List (List ℕ) → Type 0
AllSaid transcript before = (bytes : List ℕ) → WasSaidIn bytes transcript → (m : ℕ) × (slice_get before m ≡ Some bytes)

at-end : (before : List (List ℕ)) (bytes : List ℕ) → slice_get (before ++ bytes ∷ []) (length before) ≡ Some bytes
at-end [] bytes = refl
at-end (other ∷ before) bytes = at-end before bytes

at-start : (before more : List (List ℕ)) (m : ℕ) (bytes : List ℕ) → slice_get before m ≡ Some bytes → slice_get (before ++ more) m ≡ Some bytes
at-start [] more m bytes there = absurd (none-some bytes there)
at-start (other ∷ before) more zero bytes there = there
at-start (other ∷ before) more (suc m) bytes there = at-start before more m bytes there

said-silent : (now : SeenOf) (transcript : Transcript) (before : List (List ℕ)) → IsSilent now.seen → AllSaid transcript before → AllSaid (now ∷ transcript) before
said-silent now transcript before silent all bytes (inl here) = by now.seen silent here where
  by : (seen : Seen) → IsSilent seen → SaysIn bytes seen → (m : ℕ) × (slice_get before m ≡ Some bytes)
  by (line_answered line text) none said = absurd (none bytes said)
  by (state_told text) none said = absurd said
said-silent now transcript before silent all bytes (inr earlier) = all bytes earlier

said-deed : (table : Timetable) (i : ℕ) (track : Track) (old new : State) (now : SeenOf) (transcript : Transcript) (before : List (List ℕ)) (deed : Deed) → Does table i track old deed new
    → TellsOf now.seen deed → AllSaid transcript before → AllSaid (now ∷ transcript) (before ++ bytes_of deed)
said-deed table i track old new now transcript before deed does tells_it all bytes (inr earlier) =
    let there = all bytes earlier in
    (there.0, at-start before (bytes_of deed) there.0 bytes there.1)
said-deed table i track old new now transcript before deed does tells_it all bytes (inl here) = by now.seen tells_it here where
  by : (seen : Seen) → TellsOf seen deed → SaysIn bytes seen → (m : ℕ) × (slice_get (before ++ bytes_of deed) m ≡ Some bytes)
  by (line_answered line text) (request, asks, call, is) said =
      let own = says-them table i track old new deed bytes does (subst (IsSaidLine bytes) is said) in
      (length before, subst (λ l. slice_get (before ++ l) (length before) ≡ Some bytes) (sym own) (at-end before bytes))
  by (state_told text) tells_it said = absurd said

-- ---- the fleet

-- which timetables fit, and that their agents have so many moves
abbrev pub FitsWithin : (Timetable → ℕ → Track → ℕ → Type 0) → Timetable → ℕ → Track → ℕ → Type 0
FitsWithin Fits by i track count = Fits by i track count × (count ≤ moves track)

-- A fleet did what is seen.
pub record DidIt (Fits : Timetable → ℕ → Track → ℕ → Type 0) (transcript : Transcript) (dids : ℕ → List Did) (states : ℕ → State) : Type 0 where
  pub doings : Doings
  pub led : IsFleetBy (FitsWithin Fits) doings states
  pub own : (i : ℕ) → deeds_of (log_of doings) i ≡ map deed_of (dids i)
  pub said : AllSaid transcript (spoken (log_of doings))

-- Of one agent there are more deeds, and another state.
pub record GoesFrom (i : ℕ) (before after : ℕ → List Did) (mid states : ℕ → State) (more : List Did) : Type 0 where
  pub own : after i ≡ before i ++ more
  pub others : (k : ℕ) → k ≢ i → after k ≡ before k
  pub elsewhere : (k : ℕ) → k ≢ i → states k ≡ mid k

module _ (Fits : Timetable → ℕ → Track → ℕ → Type 0) where
  none-led : (dids : ℕ → List Did) (states : ℕ → State) → ((i : ℕ) → AreSeen Fits i fresh [] (dids i) (states i)) → DidIt Fits [] dids states
  none-led dids states own = record {
    doings = [];
    led = λ i. (own i).1;
    own = λ i. ap (map deed_of) (sym (own i).0);
    said = λ bytes none. absurd none;
  }

  -- one deed more
  one-more : (before_said : Transcript) (after_said : Transcript) (i : ℕ) (before after : ℕ → List Did) (mid states : ℕ → State) (did : Did) (was : DidIt Fits before_said before mid)
      → GoesFrom i before after mid states (did ∷ []) → IsHonest (spoken (log_of was.doings)) did.deed → IsStep Fits i did (mid i) (states i)
      → AllSaid after_said (spoken (log_of was.doings) ++ bytes_of did.deed) → DidIt Fits after_said after states
  one-more before_said after_said i before after mid states did was goes honest step said =
      let done : DoneBy = record { agent = i; deed = did.deed; by = did.by } in
      let log = log_of was.doings in
      record {
        doings = done ∷ was.doings;
        led = (
          mid,
          was.led,
          record {
            track = step.track;
            is_track = step.is_track;
            fits = (step.fits, step.has);
            honest = honest;
            does = step.does;
            others = goes.elsewhere;
          },
        );
        own = λ k. elim (cases_eq i k) [
          | inl own ↦
              subst (λ j. deeds_of (logged done ∷ log) j ≡ map deed_of (after j)) own
              (own-deeds (logged done) log i refl ∙ ap (λ l. l ++ did.deed ∷ []) (was.own i) ∙ sym (map-both (before i) (did ∷ [])) ∙ ap (map deed_of) (sym goes.own))
          | inr other ↦ other-deeds (logged done) log k other ∙ was.own k ∙ ap (map deed_of) (sym (goes.others k (λ e. other (sym e))))
        ];
        said = said;
      }

  -- no deed more
  none-more : (before_said : Transcript) (after_said : Transcript) (i : ℕ) (before after : ℕ → List Did) (mid states : ℕ → State) (was : DidIt Fits before_said before mid)
      → GoesFrom i before after mid states [] → states i ≡ mid i → AllSaid after_said (spoken (log_of was.doings)) → DidIt Fits after_said after states
  none-more before_said after_said i before after mid states was goes same said =
      let as_before : (k : ℕ) → before k ≡ after k = λ k. elim (cases_eq i k) [
        | inl own ↦ subst (λ j. before j ≡ after j) own (sym (goes.own ∙ append-nil (before i)))
        | inr other ↦ sym (goes.others k (λ e. other (sym e)))
      ] in
      let as_mid : (k : ℕ) → mid k ≡ states k = λ k. elim (cases_eq i k) [
        | inl own ↦ subst (λ j. mid j ≡ states j) own (sym same)
        | inr other ↦ sym (goes.elsewhere k (λ e. other (sym e)))
      ] in
      record {
        doings = was.doings;
        led = subst (IsFleetBy (FitsWithin Fits) was.doings) (fun_ext as_mid) was.led;
        own = λ k. was.own k ∙ ap (map deed_of) (as_before k);
        said = said;
      }

  -- deeds of which nothing is told
  plain-more : (transcript : Transcript) (i : ℕ) (others : List Did) (before after : ℕ → List Did) (mid states : ℕ → State) → AllByRecursion IsPlainDid others
      → DidIt Fits transcript before mid → GoesFrom i before after mid states others → AreSteps Fits i (mid i) others (states i) → DidIt Fits transcript after states
  plain-more transcript i [] before after mid states plain was goes same = none-more transcript transcript i before after mid states was goes same was.said
  plain-more transcript i (did ∷ others) before after mid states (plain, all) was goes (next, step, more) =
      let one = with_at before i (before i ++ did ∷ []) in
      let there = with_at mid i next in
      let first = one-more transcript transcript i before one mid there did was
      (record {
        own = at-own before i (before i ++ did ∷ []);
        others = λ k other. at-other before i k (before i ++ did ∷ []) (λ e. other (sym e));
        elsewhere = λ k other. at-other mid i k next (λ e. other (sym e));
      })
      (plain.honest (spoken (log_of was.doings))) (subst (IsStep Fits i did (mid i)) (sym (at-own mid i next)) step)
      (λ bytes said. (let at = was.said bytes said in (at.0, at-start (spoken (log_of was.doings)) (bytes_of did.deed) at.0 bytes at.1))) in
      plain-more transcript i others one after there states all first
      (record {
        own = goes.own ∙ sym (append_assoc (before i) (did ∷ []) others) ∙ ap (λ l. l ++ others) (sym (at-own before i (before i ++ did ∷ [])));
        others = λ k other. goes.others k other ∙ sym (at-other before i k (before i ++ did ∷ []) (λ e. other (sym e)));
        elsewhere = λ k other. goes.elsewhere k other ∙ sym (at-other mid i k next (λ e. other (sym e)));
      })
      (subst (λ s. AreSteps Fits i s others (states i)) (sym (at-own mid i next)) more)

  -- what is told
  told-more : (now : SeenOf) (transcript : Transcript) (own : List Did) (before after : ℕ → List Did) (mid states : ℕ → State) → Tells now.seen own → IsPassedOn transcript now.seen
      → DidIt Fits transcript before mid → GoesFrom now.agent before after mid states own → AreSteps Fits now.agent (mid now.agent) own (states now.agent) → DidIt Fits (now ∷ transcript) after states
  told-more now transcript [] before after mid states silent passed was goes same =
      none-more transcript (now ∷ transcript) now.agent before after mid states was goes same (said-silent now transcript (spoken (log_of was.doings)) silent was.said)
  told-more now transcript (did ∷ []) before after mid states tells_it passed was goes (next, step, same) =
      let log = log_of was.doings in
      one-more transcript (now ∷ transcript) now.agent before after mid states did was goes (honest-deed transcript (spoken log) now.seen did.deed was.said passed tells_it)
      (subst (IsStep Fits now.agent did (mid now.agent)) (sym same) step)
      (said-deed did.by now.agent step.track (mid now.agent) next now transcript (spoken log) did.deed step.does tells_it was.said)
  told-more now transcript (did ∷ more ∷ own) before after mid states never passed was goes steps = absurd never

  pub did-it : (transcript : Transcript) (dids : ℕ → List Did) (states : ℕ → State) → ((i : ℕ) → AreSeen Fits i fresh (seen_of transcript i) (dids i) (states i))
      → AreAllPassedOn transcript → DidIt Fits transcript dids states
  did-it [] dids states own passed = none-led dids states own
  did-it (now ∷ transcript) dids states own passed =
      let i = now.agent in
      let end = seen-last Fits i fresh (states i) (seen_of transcript i) now.seen (dids i)
      (subst (λ l. AreSeen Fits i fresh l (dids i) (states i)) (seen-own now transcript i refl) (own i)) in
      let is = end.is in
      let before = with_at dids i end.first in
      let mid = with_at states i end.mid in
      let between = with_at dids i (end.first ++ is.own) in
      let there = with_at states i is.mid in
      let was = did-it transcript before mid (λ k. earlier k end) passed.1 in
      let told = told-more now transcript is.own before between mid there is.tells passed.0 was
      (record {
        own = at-own dids i (end.first ++ is.own) ∙ ap (λ l. l ++ is.own) (sym (at-own dids i end.first));
        others = λ k other.
            (at-other dids i k (end.first ++ is.own) (λ e. other (sym e)) ∙ sym (at-other dids i k end.first (λ e. other (sym e))));
        elsewhere = λ k other. (at-other states i k is.mid (λ e. other (sym e)) ∙ sym (at-other states i k end.mid (λ e. other (sym e))));
      })
      (subst (λ s. AreSteps Fits i s is.own (there i)) (sym (at-own states i end.mid)) (subst (AreSteps Fits i end.mid is.own) (sym (at-own states i is.mid)) is.steps)) in
      plain-more (now ∷ transcript) i is.others between dids there states is.plain told
      (record {
        own = end.are ∙ ap (λ l. end.first ++ l) is.are ∙ sym (append_assoc end.first is.own is.others) ∙ ap (λ l. l ++ is.others) (sym (at-own dids i (end.first ++ is.own)));
        others = λ k other. sym (at-other dids i k (end.first ++ is.own) (λ e. other (sym e)));
        elsewhere = λ k other. sym (at-other states i k is.mid (λ e. other (sym e)));
      })
      (subst (λ s. AreSteps Fits i s is.others (states i)) (sym (at-own states i is.mid)) is.more)
    where
      earlier : (k : ℕ) (end : SeenLast Fits now.agent fresh (seen_of transcript now.agent) now.seen (dids now.agent) (states now.agent))
          → AreSeen Fits k fresh (seen_of transcript k) (with_at dids now.agent end.first k) (with_at states now.agent end.mid k)
      earlier k end = elim (cases_eq now.agent k) [
        | inl same ↦
            subst (λ j. AreSeen Fits j fresh (seen_of transcript j) (with_at dids now.agent end.first j) (with_at states now.agent end.mid j)) same
            (subst (λ l. AreSeen Fits now.agent fresh (seen_of transcript now.agent) l (with_at states now.agent end.mid now.agent)) (sym (at-own dids now.agent end.first))
            (subst (AreSeen Fits now.agent fresh (seen_of transcript now.agent) end.first) (sym (at-own states now.agent end.mid)) end.before))
        | inr other ↦
            subst (λ l. AreSeen Fits k fresh (seen_of transcript k) l (with_at states now.agent end.mid k)) (sym (at-other dids now.agent k end.first other))
            (subst (AreSeen Fits k fresh (seen_of transcript k) (dids k)) (sym (at-other states now.agent k end.mid other))
            (subst (λ l. AreSeen Fits k fresh l (dids k) (states k)) (seen-other now transcript k other) (own k)))
      ]

-- ---- which timetables fit

pub fits-as : (P Q : Timetable → ℕ → Track → ℕ → Type 0) → ((by : Timetable) (i : ℕ) (track : Track) (count : ℕ) → track_of by i ≡ Some track → P by i track count → Q by i track count)
    → (doings : Doings) (states : ℕ → State) → IsFleetBy P doings states → IsFleetBy Q doings states
fits-as P Q more [] states led = led
fits-as P Q more (now ∷ doings) states (mid, before, step) = (
  mid,
  fits-as P Q more doings mid before,
  record {
    track = step.track;
    is_track = step.is_track;
    fits = more now.by now.agent step.track (begun_moves (states now.agent)) step.is_track step.fits;
    honest = step.honest;
    does = step.does;
    others = step.others;
  },
)

-- where all processes run by one timetable, a fleet of it did this
pub by-one : (table : Timetable) (doings : Doings) (states : ℕ → State) → IsFleetBy (RunsBy table) doings states → IsFleet table (log_of doings) states
by-one table [] states led = record { own = λ i track there. led i; nobody_else = λ i none. refl; honest = tt }
by-one table (now ∷ doings) states (mid, before, step) =
    let fleet = by-one table doings mid before in
    let log = log_of doings in
    let i = now.agent in
    let there : track_of table i ≡ Some step.track = subst (λ t. track_of t i ≡ Some step.track) step.fits step.is_track in
    record {
      own = λ k track is. elim (cases_eq i k) [
        | inl same ↦ (
            let here = same_Some step.track track (sym there ∙ ap (track_of table) same ∙ is) in
            let does : Does table i step.track (mid i) now.deed (states i) = subst (λ t. Does t i step.track (mid i) now.deed (states i)) step.fits step.does in
            let own : DoesAll table i step.track fresh (deeds_of (logged now ∷ log) i) (states i) =
            subst (λ deeds. DoesAll table i step.track fresh deeds (states i)) (sym (own-deeds (logged now) log i refl))
            (leads-more table i step.track fresh (mid i) (states i) (deeds_of log i) now.deed (fleet.own i step.track there) does) in
            subst (λ x. DoesAll table k x fresh (deeds_of (logged now ∷ log) k) (states k)) here
            (subst (λ j. DoesAll table j step.track fresh (deeds_of (logged now ∷ log) j) (states j)) same own)
            )
        | inr other ↦
            subst (λ deeds. DoesAll table k track fresh deeds (states k)) (sym (other-deeds (logged now) log k other))
            (subst (DoesAll table k track fresh (deeds_of log k)) (sym (step.others k (λ e. other (sym e)))) (fleet.own k track is))
      ];
      nobody_else = λ k none. elim (cases_eq i k) [
        | inl same ↦ absurd (none-some step.track (sym (ap (track_of table) same ∙ none) ∙ there))
        | inr other ↦ other-deeds (logged now) log k other ∙ fleet.nobody_else k none
      ];
      honest = (step.honest, fleet.honest);
    }
