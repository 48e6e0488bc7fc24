-- Walks from all entries find all rotations.
use Rattle.std.proofs.Common.{◌≡◌, ℕ, ◌+◌, ◌-◌, ◌<◌, ◌≤◌, ◌^◌, List, [], ◌∷◌, ◌++◌, length, get_or, map, Some, arith, sym, ap, subst, ◌∙◌}
use Rattle.std.specs.Prelude.{All, slice_get}
use Rattle.std.proofs.lemmas.Option.{get_or_from_slice_get}
use Rattle.model.specs.Timetable.{Timetable}
use Rattle.model.specs.Dependency.{IsRotation}
use Rattle.depgraph.specs.Rotations.{Turn}
use Rattle.depgraph.specs.declared.waiting.Wait.{Wait}
use Rattle.depgraph.specs.Code.Cycles.{AreLinks, IsCycle, IsCycleWalked}
use Rattle.depgraph.specs.Code.Entries.{begin_in, IsEntry}
use Rattle.depgraph.specs.Code.Paths.{all_entered, all_times}
use Rattle.depgraph.specs.Code.Turning.{AreLaid, AreAllRotations, agents_of}
use Rattle.depgraph.proofs.CycleLemmas.{AreCycles, AreFound, cut-links, found-none, found-one, found-all, walked-cycle}
use Rattle.depgraph.proofs.RingLemmas.{map-get, map-from}
use Rattle.depgraph.proofs.ScheduleLemmas.{begin_most, begin_last}
use Rattle.depgraph.proofs.VisitLemmas.{entry-within}
use Rattle.depgraph.proofs.TurnLemmas.{owner, count, entry_count, owner-is, one_entry, are_links}
use Rattle.depgraph.proofs.TurnLemmas.{turn, same_time, inside, begun, trail_known, trail_agents}
use Rattle.depgraph.proofs.TurnLemmas.{cycle-rotation, round, rotation-cycle, same_turn}

module _ (tt : Timetable) (ends : List ℕ) (waits : List Wait) (ahead : List ℕ) (l : AreLaid tt ends waits ahead) where
  all-rotations : (cycles : List (List ℕ)) → AreCycles ahead cycles → AreAllRotations tt (map (turn tt ends waits ahead l) cycles)
  all-rotations cycles c = record {
    sound = λ n r there. (let found = map-get (turn tt ends waits ahead l) cycles n r there in subst (λ x. IsRotation tt x.step x.agents) found.2
        (cycle-rotation tt ends waits ahead l found.0 (c.sound n found.0 found.1)));
    whole = λ r is. (let found = c.whole (round tt ends waits ahead l r is) (rotation-cycle tt ends waits ahead l r is) in
        (found.0, map-from (turn tt ends waits ahead l) cycles found.0 (round tt ends waits ahead l r is) found.1 ∙ ap Some (same_turn tt ends waits ahead l r is)));
    different = λ n m i r s less at_n at_m step begins other_begins. (
        let a = map-get (turn tt ends waits ahead l) cycles n r at_n in
        let b = map-get (turn tt ends waits ahead l) cycles m s at_m in
        let one = c.sound n a.0 a.1 in
        let other = c.sound m b.0 b.1 in
        let e = map-get (owner tt ends waits ahead l) a.0 0 i (ap (λ x. slice_get x.agents 0) a.2 ∙ begins) in
        let f = map-get (owner tt ends waits ahead l) b.0 0 i (ap (λ x. slice_get x.agents 0) b.2 ∙ other_begins) in
        let steps = ap (λ x. x.step) a.2 ∙ step ∙ sym (ap (λ x. x.step) b.2) in
        let begun_a = begun tt ends waits ahead l a.0 one in
        let begun_b = begun tt ends waits ahead l b.0 other in
        let at_e = same_time tt ends waits ahead l a.0 one 0 e.0 e.1 in
        let at_f = same_time tt ends waits ahead l b.0 other 0 f.0 f.1 in
        let same = one_entry tt ends waits ahead l e.0 f.0 (inside tt ends waits ahead l a.0 one 0 e.0 e.1) (inside tt ends waits ahead l b.0 other 0 f.0 f.1) (e.2 ∙ sym f.2)
        (omega (arith, steps, begun_a, begun_b, at_e, at_f)) in
        let rises = c.rising n m e.0 f.0 a.0 b.0 less a.1 b.1 e.1 f.1 in
        omega (arith, same, rises)
        );
  }

  -- ---- the entries of an agent

  pub entry_here : (agent e : ℕ) → agent < length ends → begin_in ends agent ≤ e → e < get_or ends agent 0 → (e < length (all_times tt.tracks)) × (owner tt ends waits ahead l e ≡ agent)
  entry_here agent e known from to =
      let entry : IsEntry ends agent (e - begin_in ends agent) e = record { is_agent = known; place = omega (arith, from); within = to } in
      let all = count tt ends waits ahead l in
      let inside = entry-within tt.tracks (all_entered tt.tracks) (all_times tt.tracks) ends l.line.paths agent (e - begin_in ends agent) e entry in
      let less : e < length (all_times tt.tracks) = omega (arith, inside, all) in
      (less, owner-is tt ends waits ahead l agent (e - begin_in ends agent) e entry less)

  pub few_entries : length (all_times tt.tracks) < 2 ^ 32
  few_entries = (let few = l.line.few.all in let all = count tt ends waits ahead l in omega (arith, few, all))

  pub begin_up : (agent : ℕ) → agent < length ends → begin_in ends agent ≤ get_or ends agent 0
  begin_up agent known = begin_most tt.tracks (all_entered tt.tracks) (all_times tt.tracks) ends l.line.paths agent known

  last_entry : begin_in ends (length ends) ≡ length ahead
  last_entry = (let last = begin_last tt.tracks (all_entered tt.tracks) (all_times tt.tracks) ends l.line.paths in let all = count tt ends waits ahead l in let whole = entry_count tt ends waits ahead
      l in omega (arith, last, all, whole))

-- ---- one walk after another

-- The rotations whose least entry is before a place are found, and the links of the others are left.
pub record AreTurned (tt : Timetable) (ends : List ℕ) (waits : List Wait) (ahead now : List ℕ) (m : ℕ) (turns : List Turn) : Type 0 where
  pub laid : AreLaid tt ends waits ahead
  pub found : AreFound (turn tt ends waits ahead laid) ahead now m turns

module _ (tt : Timetable) (ends : List ℕ) (waits : List Wait) (ahead now : List ℕ) (m : ℕ) (turns : List Turn) (t : AreTurned tt ends waits ahead now m turns) where
  all_links : AreLinks ahead
  all_links = are_links tt ends waits ahead t.laid

  pub links_now : AreLinks now
  links_now = cut-links ahead now all_links t.found.is_cut

  pub now_count : length now ≡ length (all_times tt.tracks)
  now_count = t.found.is_cut.count ∙ entry_count tt ends waits ahead t.laid

  pub turned-all : begin_in ends (length ends) ≤ m → AreAllRotations tt turns
  turned-all past =
      let last = last_entry tt ends waits ahead t.laid in
      let all = found-all (turn tt ends waits ahead t.laid) ahead now m turns all_links t.found (omega (arith, past, last)) in
      subst (AreAllRotations tt) (sym all.2) (all-rotations tt ends waits ahead t.laid all.0 all.1)

  module _ (next trail : List ℕ) (is : Type 0) (walked : IsCycleWalked m now next trail is) where
    pub turned-none : (is → ⊥) → AreTurned tt ends waits ahead next (m + 1) turns
    turned-none not_found = record { laid = t.laid; found = found-none (turn tt ends waits ahead t.laid) ahead now next trail m turns is t.found walked not_found }

    cycle_here : is → IsCycle ahead trail × (slice_get trail 0 ≡ Some m)
    cycle_here is_found = walked-cycle (turn tt ends waits ahead t.laid) ahead now next trail m turns is all_links t.found walked is_found

    pub begun_here : is → 1 ≤ get_or (all_times tt.tracks) m 0
    begun_here is_found =
        let c = cycle_here is_found in
        subst (λ e. 1 ≤ get_or (all_times tt.tracks) e 0) (get_or_from_slice_get trail 0 m 0 c.1) (begun tt ends waits ahead t.laid trail c.0)

    pub known_here : is → All (λ e. e < length waits) trail
    known_here is_found = trail_known tt ends waits ahead t.laid trail (cycle_here is_found).0

    pub turned-one : is → (agent step : ℕ) (agents : List ℕ) → agent < length ends → begin_in ends agent ≤ m → m < get_or ends agent 0 → step ≡ get_or (all_times tt.tracks) m 0 - 1
        → agents ≡ agents_of waits agent trail → AreTurned tt ends waits ahead next (m + 1) (turns ++ record { step = step; agents = agents } ∷ [])
    turned-one is_found agent step agents known from to is_step are_agents =
        let c = cycle_here is_found in
        let begins = get_or_from_slice_get trail 0 m 0 c.1 in
        let owned = (entry_here tt ends waits ahead t.laid agent m known from to).1 in
        let same = are_agents ∙ trail_agents tt ends waits ahead t.laid trail c.0 agent (sym owned ∙ ap (owner tt ends waits ahead t.laid) (sym begins)) in
        let time = is_step ∙ ap (λ e. get_or (all_times tt.tracks) e 0 - 1) (sym begins) in
        let one : turn tt ends waits ahead t.laid trail ≡ record { step = step; agents = agents } =
        ap {A = ℕ} {B = Turn} (λ s. record { step = s; agents = map (owner tt ends waits ahead t.laid) trail }) (sym time)
        ∙ ap {A = List ℕ} {B = Turn} (λ a. record { step = step; agents = a }) (sym same) in
        subst (λ r. AreTurned tt ends waits ahead next (m + 1) (turns ++ r ∷ [])) one
        (record { laid = t.laid; found = found-one (turn tt ends waits ahead t.laid) ahead now next trail m turns is all_links t.found walked is_found })
