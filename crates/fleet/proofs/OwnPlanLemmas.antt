-- What a fleet did whose processes ran by plans of their own, as a fleet of the last one.
use Rattle.std.proofs.Common.{◌≡◌, ℕ, List, [], ◌∷◌, ◌++◌, Some, None, Result, Ok, Err, inl, inr, refl, sym, ap, subst, ◌∙◌, arith}
use Rattle.std.specs.Prelude.{Option, MatchOption, slice_get}
use Rattle.std.proofs.lemmas.Bool.{cases_eq}
use Rattle.std.proofs.lemmas.List.{append-nil}
use Rattle.grid.specs.declared.cell.Cell.{Cell}
use Rattle.model.specs.declared.held.Held.TheVariants.{Between}
use Rattle.model.specs.Dependency.{need}
use Rattle.model.specs.Safety.{IsIn, IsBeginningOf}
use Rattle.model.specs.Timetable.{Track, Timetable, path, track_of}
use Rattle.agent.specs.Counters.{known_in}
use Rattle.agent.specs.States.{State, begun_moves, held_by_tape}
use Rattle.agent.specs.Tellings.{Telling, BytesTell}
use Rattle.agent.specs.declared.refusal.HearFault.{HearFault}
use Rattle.agent.specs.declared.refusal.HearFault.TheVariants as fault
use Rattle.continuing.specs.Laws.Agreeing.{other-track}
use Rattle.fleet.specs.Deeds.{Deed, opens, starts, finishes, says, tells, hears, holds, looks, ends, stops, ends_starting, ends_finishing, Does}
use Rattle.fleet.specs.Fleets.{Log, deeds_of, fresh, bytes_of, spoken, IsHonest, with_state, IsTellable}
use Rattle.fleet.specs.FleetSafety.{HoldsBy, IsMovingBy, walked_on, walked, IsFleetSafe}
use Rattle.fleet.specs.OwnPlans.{DoneBy, Doings, logged, log_of, IsLedOn, IsFleetBy, end_of_moves, SharesMoves, MayBeLeftOut, LeavesOut, StandsAs}
use Rattle.fleet.specs.Laws.Leading.{walked-more}
use Rattle.fleet.proofs.FleetLemmas.{own-deeds, other-deeds, state-own, state-other, IsOf, goes-on}
use Rattle.fleet.proofs.KnowsLemmas.{met-more, Finished, Knows, tells-more, said-fine, fleet-knows}
use Rattle.fleet.proofs.SharedMoves.{IsFine, deed-by}
use Rattle.fleet.proofs.UnsaidLemmas.{was_said-or, refused-or, refused-same}

-- ---- what is left out

silent : (before : List (List ℕ)) (deed : Deed) → MayBeLeftOut before deed → bytes_of deed ≡ []
silent before (opens what count) may = refl
silent before (starts answer) may = refl
silent before (finishes answer) may = refl
silent before (says (Ok bytes)) may = absurd may
silent before (says (Err why)) may = refl
silent before (tells (Ok bytes)) may = absurd may
silent before (tells (Err why)) may = refl
silent before (hears bytes answer) may = refl
silent before (holds what count) may = refl
silent before (looks begun most count) may = refl
silent before ends may = refl
silent before stops may = refl
silent before ends_starting may = refl
silent before ends_finishing may = refl

still : (before : List (List ℕ)) (deed : Deed) (cells : List Cell) → MayBeLeftOut before deed → walked_on deed cells ≡ cells
still before (opens what count) cells may = absurd may
still before (starts (Ok c)) cells may = absurd may
still before (starts (Err why)) cells may = refl
still before (finishes answer) cells may = refl
still before (says answer) cells may = refl
still before (tells answer) cells may = refl
still before (hears bytes answer) cells may = refl
still before (holds what count) cells may = refl
still before (looks begun most count) cells may = refl
still before ends cells may = refl
still before stops cells may = refl
still before ends_starting cells may = refl
still before ends_finishing cells may = refl

-- what was said is kept
pub said-same : (log kept : Log) → LeavesOut log kept → spoken kept ≡ spoken log
said-same [] kept leaves = ap spoken leaves
said-same (now ∷ log) kept (inl left) = said-same log kept left.1 ∙ sym (append-nil (spoken log)) ∙ ap (λ l. spoken log ++ l) (sym (silent (spoken log) now.deed left.0))
said-same (now ∷ log) kept (inr goes) = ap spoken goes.1 ∙ ap (λ l. l ++ bytes_of now.deed) (said-same log goes.0 goes.2)

-- and so are the walks
walked-same : (track : Track) (i : ℕ) (log kept : Log) → LeavesOut log kept → walked track (deeds_of log i) ≡ walked track (deeds_of kept i)
walked-same track i [] kept leaves = sym (ap (λ l. walked track (deeds_of l i)) leaves)
walked-same track i (now ∷ log) kept leaves = elim (cases_eq now.agent i) [
  | inl own ↦ by_own own leaves (λ rest. walked-same track i log rest)
  | inr apart ↦ by_other apart leaves (λ rest. walked-same track i log rest)
] where
  last-walked : (l : Log) → now.agent ≡ i → walked track (deeds_of (now ∷ l) i) ≡ walked_on now.deed (walked track (deeds_of l i))
  last-walked l own = ap (walked track) (own-deeds now l i own) ∙ walked-more (deeds_of l i) now.deed (track.start ∷ [])

  by_own : now.agent ≡ i → LeavesOut (now ∷ log) kept → ((rest : Log) → LeavesOut log rest → walked track (deeds_of log i) ≡ walked track (deeds_of rest i)) → walked track (deeds_of (now ∷ log) i) ≡
      walked track (deeds_of kept i)
  by_own own (inl left) before = last-walked log own ∙ still (spoken log) now.deed (walked track (deeds_of log i)) left.0 ∙ before kept left.1
  by_own own (inr goes) before =
      last-walked log own ∙ ap (walked_on now.deed) (before goes.0 goes.2) ∙ sym (last-walked goes.0 own) ∙ sym (ap (λ l. walked track (deeds_of l i)) goes.1)

  by_other : (now.agent ≡ i → ⊥) → LeavesOut (now ∷ log) kept → ((rest : Log) → LeavesOut log rest → walked track (deeds_of log i) ≡ walked track (deeds_of rest i)) → walked track
      (deeds_of (now ∷ log) i) ≡ walked track (deeds_of kept i)
  by_other apart (inl left) before = ap (walked track) (other-deeds now log i apart) ∙ before kept left.1
  by_other apart (inr goes) before =
      ap (walked track) (other-deeds now log i apart) ∙ before goes.0 goes.2 ∙ sym (ap (walked track) (other-deeds now goes.0 i apart))
      ∙ sym (ap (λ l. walked track (deeds_of l i)) goes.1)

-- ---- the fleet of the last timetable

-- What a fleet of the last timetable did of it, in which everybody stands as he does.
pub record IsKept (last : Timetable) (log : Log) (states : ℕ → State) (kept : Log) (others : ℕ → State) : Type 0 where
  pub leaves : LeavesOut log kept
  pub fleet : IsOf IsHonest last kept others
  pub stand : (i : ℕ) → StandsAs (states i) (others i)

-- what is refused and nobody had said may be left out
left-unsaid : (before : List (List ℕ)) (bytes : List ℕ) (fault : HearFault) → ((m : ℕ) → slice_get before m ≡ Some bytes → ⊥) → MayBeLeftOut before (hears bytes (Err fault))
left-unsaid before bytes fault.TooMany none = tt
left-unsaid before bytes fault.Broken none = tt
left-unsaid before bytes (fault.Message m) none = none
left-unsaid before bytes fault.WrongPlan none = none
left-unsaid before bytes fault.NoSuchAgent none = none
left-unsaid before bytes fault.OutOfMemory none = none

module _ (last : Timetable) (tellable : IsTellable last) (one : (bytes : List ℕ) (t u : Telling) → BytesTell bytes t → BytesTell bytes u → t ≡ u) where
  -- what was said is refused by nobody
  all-fine : (kept : Log) (others : ℕ → State) → IsOf IsHonest last kept others → (deed : Deed)
      → ((bytes : List ℕ) (answer : Result (ℕ × ℕ) HearFault) → deed ≡ hears bytes answer → (m : ℕ) × (slice_get (spoken kept) m ≡ Some bytes)) → IsFine last deed
  all-fine kept others fleet (hears bytes answer) said =
      let there = said bytes answer refl in
      λ t telling. said-fine last tellable one (spoken kept) others there.0 bytes t (fleet-knows last tellable one kept others fleet) there.1 telling
  all-fine kept others fleet (opens what count) said = tt
  all-fine kept others fleet (starts answer) said = tt
  all-fine kept others fleet (finishes answer) said = tt
  all-fine kept others fleet (says answer) said = tt
  all-fine kept others fleet (tells answer) said = tt
  all-fine kept others fleet (holds what count) said = tt
  all-fine kept others fleet (looks begun most count) said = tt
  all-fine kept others fleet ends said = tt
  all-fine kept others fleet stops said = tt
  all-fine kept others fleet ends_starting said = tt
  all-fine kept others fleet ends_finishing said = tt

  -- whoever hears what was said
  heard-said : (before : List (List ℕ)) (deed : Deed) → IsHonest before deed
      → ((bytes : List ℕ) (fault : HearFault) → deed ≡ hears bytes (Err fault) → (m : ℕ) × (slice_get before m ≡ Some bytes))
      → (bytes : List ℕ) (answer : Result (ℕ × ℕ) HearFault) → deed ≡ hears bytes answer → (m : ℕ) × (slice_get before m ≡ Some bytes)
  heard-said before deed honest refused bytes (Ok answer) same = subst (IsHonest before) same honest
  heard-said before deed honest refused bytes (Err why) same = refused bytes why same

  abbrev pub Kept : Doings → (ℕ → State) → Type 0
  Kept doings states = (kept : Log) × (others : ℕ → State) × IsKept last (log_of doings) states kept others

  one-more : (now : DoneBy) (doings : Doings) (mid states : ℕ → State) → IsLedOn (SharesMoves last) (spoken (log_of doings)) now mid states → Kept doings mid → Kept (now ∷ doings) states
  one-more now doings mid states led (kept, others, is) =
      let i = now.agent in
      let there = other-track (end_of_moves led.track (begun_moves (states i))) now.by last led.fits.agrees i led.track led.is_track in
      let same_said = said-same (log_of doings) kept is.leaves in
      let honest = subst (λ l. IsHonest l now.deed) (sym same_said) led.honest in
      let leaves-it : MayBeLeftOut (spoken (log_of doings)) now.deed → StandsAs (states i) (others i) → Kept (now ∷ doings) states = λ left stands. (
        kept,
        others,
        record {
          leaves = inl (left, is.leaves);
          fleet = is.fleet;
          stand = λ k. elim (cases_eq k i) [
            | inl same ↦ subst (λ j. StandsAs (states j) (others j)) (sym same) stands
            | inr apart ↦ subst (λ s. StandsAs s (others k)) (sym (led.others k apart)) (is.stand k)
          ];
        },
      ) in
      let goes-by : ((bytes : List ℕ) (why : HearFault) → now.deed ≡ hears bytes (Err why) → (m : ℕ) × (slice_get (spoken kept) m ≡ Some bytes)) → Kept (now ∷ doings) states = λ said.
      elim (deed-by last now.by i led.track there.0 led.is_track there.1 (mid i) (others i) (is.stand i) (spoken (log_of doings)) now.deed (states i) led.fits
      (all-fine kept others is.fleet now.deed (heard-said (spoken kept) now.deed honest said)) led.does) [
        | inl goes ↦ (
          logged now ∷ kept,
          with_state others i goes.0,
          record {
            leaves = inr (kept, refl, is.leaves);
            fleet = goes-on IsHonest last kept others i there.0 now.deed goes.0 is.fleet there.1 honest goes.1;
            stand = λ k. elim (cases_eq k i) [
              | inl same ↦ subst (λ j. StandsAs (states j) (with_state others i goes.0 j)) (sym same) (subst (StandsAs (states i)) (sym (state-own others i goes.0)) goes.2)
              | inr apart ↦
                  subst (StandsAs (states k)) (sym (state-other others i k goes.0 (λ same. apart (sym same))))
                  (subst (λ s. StandsAs s (others k)) (sym (led.others k apart)) (is.stand k))
            ];
          },
        )
        | inr left ↦ leaves-it left.0 left.1
      ] in
      elim (refused-or now.deed) [
        | inr other ↦ goes-by (λ bytes why same. absurd (other bytes why same))
        | inl (bytes, why, is_refused) ↦ elim (was_said-or (spoken (log_of doings)) bytes) [
          | inl said ↦ goes-by (λ others_said why_said same. (
              let here = subst (λ l. (m : ℕ) × (slice_get l m ≡ Some bytes)) (sym same_said) said in
              subst (λ b. (m : ℕ) × (slice_get (spoken kept) m ≡ Some b)) (same_bytes (sym is_refused ∙ same)) here
              ))
          | inr none ↦
              leaves-it (subst (MayBeLeftOut (spoken (log_of doings))) (sym is_refused) (left-unsaid (spoken (log_of doings)) bytes why none))
              (subst (λ s. StandsAs s (others i)) (sym (refused-same now.by (mid i) (states i) bytes why
              (subst (λ d. Does now.by i led.track (mid i) d (states i)) is_refused led.does))) (is.stand i))
        ]
      ]
    where
      same_bytes : {b c : List ℕ} {f g : HearFault} → hears b (Err f) ≡ hears c (Err g) → b ≡ c
      same_bytes e = cc

  pub by-last : (doings : Doings) (states : ℕ → State) → IsFleetBy (SharesMoves last) doings states → Kept doings states
  by-last [] states led = (
    [],
    λ i. fresh,
    record {
      leaves = refl;
      fleet = record { own = λ i track there. refl; nobody_else = λ i none. refl; all = tt };
      stand = λ i. inl (led i);
    },
  )
  by-last (now ∷ doings) states (mid, before, led) = one-more now doings mid states led (by-last doings mid before)

  -- ---- what is known

  pub doings-know : (doings : Doings) (states : ℕ → State) → IsFleetBy (SharesMoves last) doings states → Knows last (spoken (log_of doings)) states
  doings-know doings states led =
      let kept = by-last doings states led in
      let others = kept.1 in
      let knows = fleet-knows last tellable one kept.0 others kept.2.fleet in
      let same = stood-same states others kept.2.stand in
      record {
        begun = λ i track k there less.
            met-more (Finished others) (Finished states) (need last i track k) (λ n asks. let e = (same n.agent).0 in omega (arith, e))
            (knows.begun i track k there (let e = (same i).0 in omega (arith, less, e)));
        known = λ i j track other there also.
            let most = knows.known i j track other there also in
            let heard = ap (λ l. known_in l j) (same i).1 in
            let e = (same j).0 in
            omega (arith, most, heard, e);
        said = λ m bytes at.
            tells-more last others states bytes (λ j. let e = (same j).0 in omega (arith, e))
            (knows.said m bytes (subst (λ l. slice_get l m ≡ Some bytes) (sym (said-same (log_of doings) kept.0 kept.2.leaves)) at));
        within = λ i track there. (let most = knows.within i track there in let e = (same i).0 in omega (arith, most, e));
      }
    where
      stood-same : (states others : ℕ → State) → ((i : ℕ) → StandsAs (states i) (others i)) → (i : ℕ) → ((states i).records ≡ (others i).records) × ((states i).heard ≡ (others i).heard)
      stood-same states others stand i = elim (stand i) [
        | inl same ↦ (ap (λ s. s.records) same, ap (λ s. s.heard) same)
        | inr same ↦ (ap (λ s. s.records) same, ap (λ s. s.heard) same)
      ]

-- ---- its safety

module _ (last : Timetable) (log kept : Log) (states others : ℕ → State) (is : IsKept last log states kept others) where
  held-same : (track : Track) (i : ℕ) → held_by_tape track (states i) ≡ held_by_tape track (others i)
  held-same track i = elim (is.stand i) [ inl same ↦ ap (held_by_tape track) same | inr same ↦ ap (held_by_tape track) same ]

  pub safe-too : IsFleetSafe last kept others → IsFleetSafe last log states
  safe-too safe = record {
    apart = λ i j c first second. safe.apart i j c (holds i c first) (holds j c second);
    no_exchange = λ i j u c first second. safe.no_exchange i j u c (is-moving i u c first) (is-moving j c u second);
    walks = λ i track there. subst (λ cells. IsBeginningOf cells (path track)) (sym (walked-same track i log kept is.leaves)) (safe.walks i track there);
  } where
    holds : (i : ℕ) (c : Cell) → HoldsBy last states i c → HoldsBy last others i c
    holds i c = by (track_of last i) where
      by : (o : Option Track) → MatchOption o ⊥ (λ track. IsIn c (held_by_tape track (states i))) → MatchOption o ⊥ (λ track. IsIn c (held_by_tape track (others i)))
      by None never = never
      by (Some track) inside = subst (IsIn c) (held-same track i) inside

    is-moving : (i : ℕ) (u c : Cell) → IsMovingBy last states i u c → IsMovingBy last others i u c
    is-moving i u c = by (track_of last i) where
      by : (o : Option Track) → MatchOption o ⊥ (λ track. held_by_tape track (states i) ≡ Between u c) → MatchOption o ⊥ (λ track. held_by_tape track (others i) ≡ Between u c)
      by None never = never
      by (Some track) between = sym (held-same track i) ∙ between
