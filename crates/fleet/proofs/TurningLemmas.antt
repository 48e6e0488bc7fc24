-- The first agent to begin its move of a rotation would have to know that the next one has finished its own.
use Rattle.std.proofs.Common.{◌≡◌, ◌∙◌, ℕ, suc, ◌+◌, ◌*◌, ◌/◌, ◌<◌, ◌≤◌, eqb, List, [], ◌∷◌, Some, None, inl, inr, refl, sym, ap, subst, arith}
use Rattle.std.specs.Prelude.{Option, slice_get}
use Rattle.std.proofs.lemmas.Bool.{cases_eq, cases_lt, cond-false, ne_eqb}
use Rattle.std.proofs.lemmas.Option.{same_Some, slice_get_within}
use Rattle.model.specs.Dependency.{IsLastStand, IsMet, IsNeed, IsRotation, MovesInto, Need, Stand, following, moves_in, moves_to, need, need_by}
use Rattle.model.specs.Laws.Needs.{stands-from}
use Rattle.model.specs.Laws.Rotations.{after}
use Rattle.model.specs.Laws.Tracks.{moves-leave, moves-most, step-of_move}
use Rattle.model.specs.Timetable.{Track, Timetable, IsConflictFree, Stands, cell_at, moves, moves_before, step_of, track_of}
use Rattle.agent.specs.States.{State, begun_moves, finished_moves}
use Rattle.agent.specs.Tellings.{Telling, BytesTell}
use Rattle.fleet.specs.Fleets.{Log, IsHonest, IsTellable, spoken}
use Rattle.fleet.specs.OwnPlans.{StandsAs}
use Rattle.fleet.proofs.FleetLemmas.{IsOf, last-deed}
use Rattle.fleet.proofs.KnowsLemmas.{Finished, begun-after, fleet-knows}

abbrev AllNeeds : Timetable → Type 0
AllNeeds table = (i k : ℕ) (track : Track) → k < moves track → IsNeed table i track k (need table i track k)

-- a step has the number of the move that is made in it
one-step : (track : Track) (s t : ℕ) → (cell_at track s ≡ cell_at track (s + 1) → ⊥) → (cell_at track t ≡ cell_at track (t + 1) → ⊥) → moves_before track s ≡ moves_before track t → s ≡ t
one-step track s t leaves goes same =
    let after_s : s + 1 ≡ suc s = omega arith in
    let after_t : t + 1 ≡ suc t = omega arith in
    sym (step-of_move track.start track.later s (λ e. leaves (e ∙ ap (cell_at track) (sym after_s)))) ∙ ap (step_of track) same
    ∙ step-of_move track.start track.later t (λ e. goes (e ∙ ap (cell_at track) (sym after_t)))

module _ (table : Timetable) (free : IsConflictFree table) (needs : AllNeeds table) where
  -- a move into the cell of another that moves in the same step needs that move to be finished
  asks-next : (step i j : ℕ) (most : ℕ → ℕ) → (into : MovesInto table step i j) → (cell_at into.to step ≡ cell_at into.to (step + 1) → ⊥) → (i ≡ j → ⊥)
      → IsMet most (need table i into.from (moves_before into.from step)) → moves_before into.to step < most j
  asks-next step i j most into leaves apart met = by is.last last met_last
    where
      one : step + 1 ≡ suc step
      one = omega arith

      within : moves_before into.from step < moves into.from
      within =
          let next = moves-leave into.from.start into.from.later step (λ e. into.moves (e ∙ ap (cell_at into.from) (sym one))) in
          let top = moves-most into.from.start into.from.later (suc step) in
          omega (arith, next, top)

      is : IsNeed table i into.from (moves_before into.from step) (need table i into.from (moves_before into.from step))
      is = needs i (moves_before into.from step) into.from within

      here : is.step ≡ step
      here = one-step into.from is.step step is.leaves into.moves is.is_step

      last : IsLastStand table (cell_at into.to step) step is.last
      last = subst (λ c. IsLastStand table c step is.last) into.into (subst (λ t. IsLastStand table (cell_at into.from (t + 1)) t is.last) here is.is_last)

      met_last : IsMet most (need_by table i is.last)
      met_last = subst (IsMet most) is.asks met

      by : (o : Option Stand) → IsLastStand table (cell_at into.to step) step o → IsMet most (need_by table i o) → moves_before into.to step < most j
      by None nobody met_by = absurd (nobody step j (omega arith) (stands-from table j step (cell_at into.to step) into.to into.is_to refl))
      by (Some s) stand met_by =
          let now : s.time ≡ step = elim (cases_lt s.time step) [
            | inl less ↦ absurd (stand.2 step j less (omega arith) (stands-from table j step (cell_at into.to step) into.to into.is_to refl))
            | inr past ↦ (let most_time = stand.1 in omega (arith, past, most_time))
          ] in
          let who : s.agent ≡ j
          = free s.agent j step (cell_at into.to step) (subst (λ t. Stands table s.agent t (cell_at into.to step)) now stand.0) (stands-from table j step
          (cell_at into.to step) into.to into.is_to refl) in
          let other : s.agent ≡ i → ⊥ = λ e. apart (sym e ∙ who) in
          let counted = subst (IsMet most) (cond-false (eqb s.agent i) None (Some (record { agent = s.agent; count = moves_to table s.agent (s.time + 1) })) (ne_eqb s.agent i other)) met_by in
          let own : moves_to table j (step + 1) ≤ most j
          = subst (λ k. moves_to table k (step + 1) ≤ most k) who (subst (λ t. moves_to table s.agent (t + 1) ≤ most s.agent) now counted) in
          let is_its : moves_to table j (step + 1) ≡ moves_before into.to (step + 1) = ap (λ o. moves_in o (step + 1)) into.is_to in
          let further = ap (moves_before into.to) one in
          let next = moves-leave into.to.start into.to.later step (λ e. leaves (e ∙ ap (cell_at into.to) (sym one))) in
          omega (arith, own, is_its, further, next)

  module _ (tellable : IsTellable table) (told : (bytes : List ℕ) (t u : Telling) → BytesTell bytes t → BytesTell bytes u → t ≡ u) (step : ℕ) (agents : List ℕ)
      (turns : IsRotation table step agents) where
    pub stay-closed : (log : Log) (states : ℕ → State) → IsOf IsHonest table log states → (place i : ℕ) (track : Track) → slice_get agents place ≡ Some i → track_of table i ≡ Some track
        → begun_moves (states i) ≤ moves_before track step
    stay-closed [] states fleet place i track member there = let none = ap begun_moves (fleet.own i track there) in omega (arith, none)
    stay-closed (now ∷ log) states fleet place i track member there =
        let last = last-deed IsHonest table now log states fleet in
        let before = stay-closed log last.before last.fleet in
        elim (cases_eq i now.agent) [
          | inr other ↦ (let same = ap begun_moves (last.others i other) in let most = before place i track member there in omega (arith, same, most))
          | inl own ↦ elim (cases_lt (moves_before track step) (begun_moves (states i))) [
            | inr most ↦ most
            | inl late ↦ absurd (
                let knows = fleet-knows table tellable told log last.before last.fleet in
                let mine : last.track ≡ track = same_Some last.track track (sym last.is_track ∙ ap (track_of table) (sym own) ∙ there) in
                let met = begun-after table tellable told now.agent last.track last.is_track (spoken log) last.before states knows last.others now.deed (moves_before track step) last.does
                (subst (λ k. moves_before track step < begun_moves (states k)) own late) in
                let met_here : IsMet (Finished last.before) (need table i track (moves_before track step))
                = subst (λ x. IsMet (Finished last.before) (need table i x (moves_before track step))) mine
                (subst (λ k. IsMet (Finished last.before) (need table k last.track (moves_before track step))) (sym own) met) in
                let inside = slice_get_within agents place i member in
                let next = after agents place inside turns.three in
                let j = next.1 in
                let into = turns.cycle place i j member next.2 in
                let next_in = slice_get_within agents next.0 j next.3 in
                let far = after agents next.0 next_in turns.three in
                let onward = turns.cycle next.0 j far.1 next.3 far.2 in
                let from_is : into.from ≡ track = same_Some into.from track (sym into.is_from ∙ there) in
                let to_is : onward.from ≡ into.to = same_Some onward.from into.to (sym onward.is_from ∙ into.is_to) in
                let leaves = subst (λ k. cell_at k step ≡ cell_at k (step + 1) → ⊥) to_is onward.moves in
                let apart : i ≡ j → ⊥ = λ e. next.4 (turns.different next.0 place i (next.3 ∙ ap {A = ℕ} {B = Option ℕ} (λ n. Some n) (sym e)) member) in
                let finished = asks-next step i j (Finished last.before) into leaves apart
                (subst (λ k. IsMet (Finished last.before) (need table i k (moves_before k step))) (sym from_is) met_here) in
                let its = before next.0 j into.to next.3 into.is_to in
                let order : finished_moves (last.before j) ≤ begun_moves (last.before j) = grind arith in
                omega (arith, finished, its, order))
          ]
        ]

-- an agent that stands as another has begun as many moves
pub begun-as : (s other : State) → StandsAs s other → begun_moves s ≡ begun_moves other
begun-as s other (inl same) = ap begun_moves same
begun-as s other (inr same) = ap begun_moves same

-- who has no more records than two a move has begun no more moves
pub begun-within : (records most : ℕ) → records ≤ 2 * most → (records + 1) / 2 ≤ most
begun-within records most few = grind (arith, few)
