-- What a process of a chain was told to be free lies within its plan, and so the last plan has it.
use Rattle.std.proofs.Common.{◌≡◌, ℕ, zero, suc, ◌+◌, ◌<◌, ◌≤◌, Bool, true, false, List, [], ◌∷◌, Some, None, inl, inr, refl, sym, subst, ◌∙◌, arith}
use Rattle.std.specs.Prelude.{Option, if◌then◌else◌, ◌==◌}
use Rattle.std.proofs.Math.Numerals.{add-one}
use Rattle.std.proofs.lemmas.Bool.{eqb-false}
use Rattle.std.proofs.lemmas.Option.{same_Some}
use Rattle.grid.specs.Map.{Grid}
use Rattle.model.specs.Plan.{Plan, IsValid, IsTimetableOf}
use Rattle.model.specs.Timetable.{Track, Timetable, moves, step_of, track_of}
use Rattle.agent.specs.Ahead.{gone_on, IsFreeAhead}
use Rattle.agent.specs.States.{State, begun_moves, finished_moves, is_on_the_way}
use Rattle.agent.specs.declared.refusal.Refusal.{Refusal}
use Rattle.agent.specs.declared.refusal.Refusal.TheVariants.{Broken, AlreadyMoving, AtEnd}
use Rattle.continuing.specs.Continuing.{IsChain, last_plan, AgreesUpTo}
use Rattle.fleet.specs.Ahead.{told_free, LooksWithin, AreLooksWithin}
use Rattle.fleet.specs.Deeds.{Deed, opens, starts, finishes, says, tells, hears, holds, looks, ends, stops, ends_starting, ends_finishing, Does}
use Rattle.fleet.specs.OwnPlans.{DoneBy, Doings, IsLedOn, IsFleetBy, end_of_moves, SharesMoves, IsPlanAmong, IsOfChain}

-- ---- within the plan

not-at-end : (broken moving end : Bool) (rest : Option Refusal) (finished all : ℕ) → (finished == all) ≡ end
    → (if broken then Some Broken else (if moving then Some AlreadyMoving else (if end then Some AtEnd else rest))) ≡ None → finished ≡ all → ⊥
not-at-end true moving end rest finished all last none same = absurd cc
not-at-end false true end rest finished all last none same = absurd cc
not-at-end false false true rest finished all last none same = absurd cc
not-at-end false false false rest finished all last none same = eqb-false finished all last same

module _ (table : Timetable) (i : ℕ) (track : Track) (s : State) (most count : ℕ) (has : begun_moves s ≤ moves track) (free : IsFreeAhead table i track s most count) where
  up-to : (n : ℕ) → n ≤ count → begun_moves s + n ≤ moves track
  up-to zero few = omega (arith, has)
  up-to (suc n) few =
      let before = up-to n (omega arith) in
      let gone : finished_moves (gone_on s n) ≡ begun_moves s + n = omega arith in
      let other = not-at-end (gone_on s n).broken (is_on_the_way (gone_on s n)) (finished_moves (gone_on s n) == moves track) _ (finished_moves (gone_on s n)) (moves track) refl
      (free.starts n (omega arith)) in
      omega (arith, before, gone, other)

  free-within : begun_moves s + count ≤ moves track
  free-within = up-to count (omega arith)

-- ---- by the last plan

-- what laws say of chains
abbrev pub ChainsAgree : Type 0
ChainsAgree =
    (map : Grid) (plan : Plan) (plans : List Plan) (before after : Timetable) (i k : ℕ) (track : Track) → IsChain plan plans → IsValid map (last_plan plan plans) → IsTimetableOf plan before
    → IsTimetableOf (last_plan plan plans) after → track_of before i ≡ Some track → k < moves track → AgreesUpTo (step_of track k + 1) before after

-- a plan among those of a chain begins one that comes to the same last plan
from-there : (own plan : Plan) (plans : List Plan) → IsPlanAmong own plan plans → IsChain plan plans → (rest : List Plan) × IsChain own rest × (last_plan own rest ≡ last_plan plan plans)
from-there own plan [] same chain = ([], tt, same)
from-there own plan (next ∷ plans) (inl same) chain =
    subst (λ p. (rest : List Plan) × IsChain p rest × (last_plan p rest ≡ last_plan next plans)) (sym same) (next ∷ plans, chain, refl)
from-there own plan (next ∷ plans) (inr further) chain = from-there own next plans further chain.1

module _
    (agree : ChainsAgree) (map : Grid) (plan : Plan) (plans : List Plan) (last : Timetable) (chain : IsChain plan plans) (valid : IsValid map (last_plan plan plans))
    (is : IsTimetableOf (last_plan plan plans) last)
  where
    shares : (by : Timetable) (i : ℕ) (track : Track) (begun k : ℕ) → track_of by i ≡ Some track → IsOfChain plan plans by i track begun → k < moves track → SharesMoves last by i track (k + 1)
    shares by i track begun k there of less =
        let rest = from-there of.own plan plans of.among chain in
        let will = subst (λ p. IsTimetableOf p last) (sym rest.2) is in
        let fine = subst (IsValid map) (sym rest.2) valid in
        record {
          has = omega (arith, less);
          agrees =
              subst (λ n. AgreesUpTo (end_of_moves track n) by last) (sym (add-one k)) (agree map of.own rest.0 by last i k track rest.1 fine of.is_its will there less);
        }

    looks-within : (now : DoneBy) (said : List (List ℕ)) (mid states : ℕ → State) → IsLedOn (IsOfChain plan plans) said now mid states → LooksWithin last now
    looks-within now said mid states step = by_deed now.deed refl step.does where
      by_deed : (deed : Deed) → now.deed ≡ deed → Does now.by now.agent step.track (mid now.agent) deed (states now.agent)
          → (k : ℕ) (track : Track) → k < told_free deed → track_of now.by now.agent ≡ Some track → SharesMoves last now.by now.agent track (k + 1)
      by_deed (looks begun most count) same does k track less there =
          let own = same_Some step.track track (sym step.is_track ∙ there) in
          let has = subst (λ s. begun_moves s ≤ moves step.track) does.2 step.fits.has in
          let free = free-within now.by now.agent step.track (mid now.agent) most count has does.1 in
          let begun_is = does.0 in
          subst (λ x. SharesMoves last now.by now.agent x (k + 1)) own
          (shares now.by now.agent step.track (begun_moves (states now.agent)) k step.is_track step.fits (omega (arith, free, begun_is, less)))
      by_deed (opens what count) same does k track less there = absurd (omega (arith, less))
      by_deed (starts answer) same does k track less there = absurd (omega (arith, less))
      by_deed (finishes answer) same does k track less there = absurd (omega (arith, less))
      by_deed (says answer) same does k track less there = absurd (omega (arith, less))
      by_deed (tells answer) same does k track less there = absurd (omega (arith, less))
      by_deed (hears bytes answer) same does k track less there = absurd (omega (arith, less))
      by_deed (holds what count) same does k track less there = absurd (omega (arith, less))
      by_deed ends same does k track less there = absurd (omega (arith, less))
      by_deed stops same does k track less there = absurd (omega (arith, less))
      by_deed ends_starting same does k track less there = absurd (omega (arith, less))
      by_deed ends_finishing same does k track less there = absurd (omega (arith, less))

    pub all-looks-within : (since doings : Doings) (states : ℕ → State) → IsFleetBy (IsOfChain plan plans) doings states → AreLooksWithin last since doings
    all-looks-within since [] states led = tt
    all-looks-within since (now ∷ doings) states (mid, before, step) = (λ goes. looks-within now _ mid states step, all-looks-within (now ∷ since) doings mid before)
