-- The cycles of the links are the rotations.
use Rattle.std.proofs.Common.{◌≡◌, ℕ, zero, suc, ◌+◌, ◌-◌, ◌<◌, ◌≤◌, List, length, get_or, map, Some, inl, inr, arith, refl, sym, ap, subst, ◌∙◌}
use Rattle.std.specs.Prelude.{◌==◌, All, slice_get}
use Rattle.std.proofs.lemmas.Bool.{cases_lt, cases_eq, cond-true, cond-false, eq-eqb, ne_eqb}
use Rattle.std.proofs.lemmas.List.{get_or_past, length-map}
use Rattle.std.proofs.lemmas.Option.{same_Some, slice_get-get_or, slice_get_within, get_or_from_slice_get}
use Rattle.model.specs.declared.visit.Visit.{Visit}
use Rattle.model.specs.Timetable.{Timetable, cell_at, moves_before, track_of}
use Rattle.model.specs.Dependency.{moves_in, moves_to, MovesInto, following, IsRotation}
use Rattle.model.specs.Laws.Needs.{stands-from}
use Rattle.model.specs.Laws.Tracks.{moves-leave}
use Rattle.depgraph.specs.Rotations.{Turn}
use Rattle.depgraph.specs.declared.waiting.Wait.{Wait}
use Rattle.depgraph.specs.Code.Cycles.{LinksTo, AreLinks, IsCycle}
use Rattle.depgraph.specs.Code.Entries.{begin_in, IsEntry}
use Rattle.depgraph.specs.Code.Keeping.{AreKeptVisits}
use Rattle.depgraph.specs.Code.Links.{entry_before, AreBound}
use Rattle.depgraph.specs.Code.Numbers.{no_cell}
use Rattle.depgraph.specs.Code.Paths.{all_entered, all_times}
use Rattle.depgraph.specs.Code.Ranks.{rank}
use Rattle.depgraph.specs.Code.Schedules.{entry_in}
use Rattle.depgraph.specs.Code.Turning.{AreLaid, agents_of}
use Rattle.depgraph.specs.Code.Waits.{no_wait, no_entry, entry_for, wait_of, ahead_of}
use Rattle.depgraph.proofs.BeforeLemmas.{left_before}
use Rattle.depgraph.proofs.KeptLemmas.{rank-visit, in_block, before_of, before_is, looked_up}
use Rattle.depgraph.proofs.PositionLemmas.{times-rise}
use Rattle.depgraph.proofs.RingLemmas.{map-get, map-from, one_at, same_at, following-next, following-first, follower, follower-within, same_by_places}
use Rattle.depgraph.proofs.RotationLemmas.{kept, visit_of, is_visit, mover-arrival, not_own, waits-for, into-after, after-into}
use Rattle.depgraph.proofs.ScheduleLemmas.{same_count, position}
use Rattle.depgraph.proofs.VisitLemmas.{entry_own, entry_track, entry-one, entry-before, entry-within}
use Rattle.depgraph.proofs.WalkLemmas.{cycle-leads}
use Rattle.depgraph.proofs.AheadLemmas.{map-following, agents-map, ahead-there, ahead-cases}

module _ (tt : Timetable) (ends : List ℕ) (waits : List Wait) (ahead : List ℕ) (l : AreLaid tt ends waits ahead) where
  abbrev times : List ℕ
  times = all_times tt.tracks

  abbrev h : AreKeptVisits tt (all_entered tt.tracks) (all_times tt.tracks) ends waits l.visits l.visit_ends
  h = kept tt ends waits ahead l

  -- the visit of an arrival
  abbrev came : ℕ → Visit
  came p = visit_of tt (all_entered tt.tracks) (all_times tt.tracks) ends waits l.visits l.visit_ends h p

  -- the visit of an entry, and its agent
  abbrev visit_for : ℕ → Visit
  visit_for e = came (rank times e)

  abbrev pub owner : ℕ → ℕ
  owner e = (visit_for e).agent

  -- ---- entries

  pub count : length (all_times tt.tracks) ≡ length (all_entered tt.tracks)
  count = same_count tt.tracks (all_entered tt.tracks) (all_times tt.tracks) ends l.line.paths

  pub entry_count : length ahead ≡ length (all_times tt.tracks)
  entry_count = l.are_ahead.count ∙ l.placing.visit_count ∙ l.line.schedule.count

  wait_count : length waits ≡ length (all_times tt.tracks)
  wait_count = l.are_waits.count ∙ l.placing.visit_count ∙ l.line.schedule.count

  arrival_of : (e : ℕ) → e < length times → (rank times e < length l.arrivals) × (entry_in ends l.arrivals (rank times e) ≡ e)
  arrival_of e less =
      let same = count in
      let found = position tt.tracks (all_entered tt.tracks) times ends l.arrivals (length l.step_ends) l.line.paths l.line.schedule l.line.within e (omega (arith, less, same)) in
      let place : rank times e ≡ found.0 = ap (rank times) (sym found.2) ∙ l.line.schedule.places found.0 found.1 in
      (subst (λ p. p < length l.arrivals) (sym place) found.1, ap (entry_in ends l.arrivals) place ∙ found.2)

  own_entry : (e : ℕ) → e < length times → IsEntry ends (owner e) (visit_for e).index e
  own_entry e less = let at = arrival_of e less in subst (IsEntry ends (owner e) (visit_for e).index) at.1 (l.line.schedule.entries (rank times e) at.0)

  own_time : (e : ℕ) → e < length times → (visit_for e).time ≡ get_or times e 0
  own_time e less = ap (λ x. get_or times x 0) (arrival_of e less).1

  -- who has an entry, by its place in the list of all
  pub owner-is : (i k e : ℕ) → IsEntry ends i k e → e < length (all_times tt.tracks) → owner e ≡ i
  owner-is i k e entry less = (entry-one tt.tracks (all_entered tt.tracks) times ends l.line.paths (owner e) i (visit_for e).index k e (own_entry e less) entry).0

  -- an agent has one entry of a time
  pub one_entry : (e f : ℕ) → e < length times → f < length times → owner e ≡ owner f → get_or times e 0 ≡ get_or times f 0 → e ≡ f
  one_entry e f in_e in_f agent time =
      let v = is_visit tt (all_entered tt.tracks) times ends waits l.visits l.visit_ends h (rank times e) (arrival_of e in_e).0 in
      let w = is_visit tt (all_entered tt.tracks) times ends waits l.visits l.visit_ends h (rank times f) (arrival_of f in_f).0 in
      let track = same_Some v.track w.track (sym v.is_track ∙ ap (track_of tt) agent ∙ w.is_track) in
      let same = own_time e in_e ∙ time ∙ sym (own_time f in_f) in
      let index = sym v.is_index ∙ ap (moves_before v.track) same ∙ ap (λ k. moves_before k (visit_for f).time) track ∙ w.is_index in
      (own_entry e in_e).place ∙ ap (λ i. begin_in ends i + (visit_for e).index) agent ∙ ap (λ k. begin_in ends (owner f) + k) index ∙ sym (own_entry f in_f).place

  -- no agent begins its path at a time that is not the start
  later_index : (i k e s : ℕ) → IsEntry ends i k e → get_or times e 0 ≡ s + 1 → 0 < k
  later_index i (suc k) e s entry time = omega arith
  later_index i zero e s entry time =
      let found = entry_track tt.tracks (all_entered tt.tracks) times ends l.line.paths i 0 e entry in
      let own = (entry_own tt.tracks (all_entered tt.tracks) times ends l.line.paths i 0 e found.0 no_cell found.1 entry).2 in
      absurd (omega (arith, own, time))

  -- the entry after an arrival's, where it is not the start of a path
  next_own : (q f s : ℕ) → q < length l.arrivals → f ≡ entry_in ends l.arrivals q + 1 → get_or times f 0 ≡ s + 1
      → (f < length times) × (owner f ≡ (came q).agent) × ((visit_for f).index ≡ (came q).index + 1)
  next_own q f s in_q next time = elim (cases_lt f (length times)) [
    | inr past ↦ absurd (let none = get_or_past times f 0 past in omega (arith, none, time))
    | inl less ↦ (
        let entry = own_entry f less in
        let place = entry.place in
        let within = entry.within in
        let later = later_index (owner f) (visit_for f).index f s entry time in
        let before : IsEntry ends (owner f) ((visit_for f).index - 1) (entry_in ends l.arrivals q) = record {
          is_agent = entry.is_agent;
          place = omega (arith, place, next, later);
          within = omega (arith, within, next);
        } in
        let one = entry-one tt.tracks (all_entered tt.tracks) times ends l.line.paths (owner f) (came q).agent ((visit_for f).index - 1) (came q).index (entry_in ends l.arrivals q) before
        (l.line.schedule.entries q in_q) in
        let index = one.1 in
        (less, one.0, omega (arith, index, later))
        )
  ]

  -- an entry of a time after a step is that of a move in the step
  moved_to : (e s : ℕ) → e < length times → get_or times e 0 ≡ s + 1 → moves_to tt (owner e) s + 1 ≡ (visit_for e).index
  moved_to e s less time =
      let v = is_visit tt (all_entered tt.tracks) times ends waits l.visits l.visit_ends h (rank times e) (arrival_of e less).0 in
      let at : (visit_for e).time ≡ s + 1 = own_time e less ∙ time in
      let next : s + 1 ≡ suc s = omega arith in
      let there = ap (cell_at v.track) (sym (at ∙ next)) ∙ v.is_there in
      let more = moves-leave v.track.start v.track.later s (λ same. v.comes s at (same ∙ there)) in
      let index = sym (ap (moves_before v.track) (at ∙ next)) ∙ v.is_index in
      let told = ap (λ o. moves_in o s) v.is_track in
      omega (arith, more, index, told)

  -- ---- links

  noted : (e : ℕ) → e < length times → get_or ahead e no_entry ≡ ahead_of times ends (visit_for e) (before_of tt (all_entered tt.tracks) times ends waits l.visits l.visit_ends h (rank times e))
  noted e less =
      let at = arrival_of e less in
      let p = rank times e in
      let block = in_block tt (all_entered tt.tracks) times ends waits l.visits l.visit_ends h p at.0 in
      let before = before_of tt (all_entered tt.tracks) times ends waits l.visits l.visit_ends h p in
      sym (ap (λ x. get_or ahead x no_entry) at.1)
      ∙ subst (λ v. get_or ahead (entry_for ends v) no_entry ≡ ahead_of times ends v before) (rank-visit tt (all_entered tt.tracks) times ends waits l.visits l.visit_ends h p at.0)
      (l.are_ahead.each (get_or l.placing.listed p 0) (rank l.placing.listed p) block.0 block.1 block.2)

  -- there is an entry for what an entry waits for
  bound_at : (e : ℕ) → 0 < (get_or waits e no_wait).count
      → ((get_or waits e no_wait).agent < length ends) × (entry_before ends (get_or waits e no_wait) < length (all_times tt.tracks))
  bound_at e some = elim (cases_lt e (length (all_times tt.tracks))) [
    | inr past ↦ absurd (let all = wait_count in let none = ap (λ w. w.count) (get_or_past waits e no_wait (omega (arith, past, all))) in omega (arith, none, some))
    | inl less ↦ (
        let at = arrival_of e less in
        let p = rank times e in
        let told : get_or waits e no_wait ≡ wait_of (came p).agent (before_of tt (all_entered tt.tracks) times ends waits l.visits l.visit_ends h p) =
        sym (ap (λ x. get_or waits x no_wait) at.1) ∙ looked_up tt (all_entered tt.tracks) times ends waits l.visits l.visit_ends h p at.0 in
        elim (before_is tt (all_entered tt.tracks) times ends waits l.visits l.visit_ends h p at.0) [
          | inl none ↦ absurd (let is = ap (λ w. w.count) (told ∙ ap (wait_of (came p).agent) none.1) in omega (arith, is, some))
          | inr before ↦ (
              let q = before.0 in
              let noted : Wait = record { agent = (came q).agent; count = (came q).index + 1 } in
              let told_of : get_or waits e no_wait ≡ wait_of (came p).agent (Some (came q)) = told ∙ ap (wait_of (came p).agent) before.3 in
              elim (cases_eq (came q).agent (came p).agent) [
                | inl same ↦ absurd (
                    let is = ap (λ w. w.count) (told_of ∙ cond-true ((came q).agent == (came p).agent) no_wait noted (eq-eqb (came q).agent (came p).agent same)) in
                    omega (arith, is, some)
                    )
                | inr other ↦ (
                    let is : get_or waits e no_wait ≡ noted = told_of ∙ cond-false ((came q).agent == (came p).agent) no_wait noted (ne_eqb (came q).agent (came p).agent other) in
                    let entry = left_before tt.number tt.tracks ends l.arrivals l.step_ends l.line l.visits l.visit_ends l.placing l.graphed.conflict_free q p before.1 at.0 before.2 other in
                    let within = entry-within tt.tracks (all_entered tt.tracks) times ends l.line.paths (came q).agent ((came q).index + 1) (entry_for ends (came q) + 1) entry in
                    let same = count in
                    subst (λ w. (w.agent < length ends) × (entry_before ends w < length (all_times tt.tracks))) (sym is) (entry.is_agent, omega (arith, within, same))
                    )
              ]
              )
        ]
        )
  ]

  pub bound : AreBound (all_times tt.tracks) ends waits
  bound = record {
    few = (let all = l.line.few.all in let same = count in omega (arith, all, same));
    count = wait_count;
    agent = λ e some. (bound_at e some).0;
    entry = λ e some. (bound_at e some).1;
  }

  -- Two entries of one time, by moves of one step: the first into the cell that the second leaves.
  record AreMoves (e f s : ℕ) : Type 0 where
    pub in_e : e < length times
    pub in_f : f < length times
    pub time_e : get_or times e 0 ≡ s + 1
    pub time_f : get_or times f 0 ≡ s + 1
    pub into : MovesInto tt s (owner e) (owner f)
    pub waits_for : (get_or waits e no_wait).agent ≡ owner f

  leads-moves : (e f : ℕ) → LinksTo ahead e f → (s : ℕ) × AreMoves e f s
  leads-moves e f leads =
      let all = entry_count in
      let inside = slice_get_within ahead e f leads.0 in
      let in_e : e < length times = omega (arith, all, inside) in
      let at = arrival_of e in_e in
      let p = rank times e in
      let told : f ≡ ahead_of times ends (visit_for e) (before_of tt (all_entered tt.tracks) times ends waits l.visits l.visit_ends h p) =
      sym (get_or_from_slice_get ahead e f no_entry leads.0) ∙ noted e in_e in
      elim (before_is tt (all_entered tt.tracks) times ends waits l.visits l.visit_ends h p at.0) [
        | inl none ↦ absurd (leads.1 (told ∙ ap (ahead_of times ends (visit_for e)) none.1))
        | inr some ↦ (
            let q = some.0 in
            elim (ahead-cases times ends (visit_for e) (came q)) [
              | inl nothing ↦ absurd (leads.1 (told ∙ ap (ahead_of times ends (visit_for e)) some.3 ∙ nothing))
              | inr is ↦ (
                  let next : f ≡ entry_in ends l.arrivals q + 1 = told ∙ ap (ahead_of times ends (visit_for e)) some.3 ∙ is.2 in
                  let later = times-rise tt.number tt.tracks ends l.arrivals l.step_ends l.line q p l.graphed.conflict_free some.2.before at.0 some.2.cell in
                  let s = (visit_for e).time - 1 in
                  let time : (visit_for e).time ≡ s + 1 = omega (arith, later) in
                  let time_f : get_or times f 0 ≡ s + 1 = ap (λ x. get_or times x 0) next ∙ is.1 ∙ time in
                  let own = next_own q f s some.1 next time_f in
                  let index = own.2 in
                  let moved = moved_to f s own.0 time_f in
                  let last : (came q).index ≡ moves_to tt (owner f) s = omega (arith, index, moved) in
                  let into = after-into tt (all_entered tt.tracks) times ends waits l.visits l.visit_ends h q p s some.1 at.0 time some.2.cell (last ∙ ap (λ j. moves_to tt j s) own.1) in
                  let wait = waits-for tt (all_entered tt.tracks) times ends waits l.visits l.visit_ends h q p at.0 some.3 is.0 in (
                    s,
                    record {
                      in_e = in_e;
                      in_f = own.0;
                      time_e = sym (own_time e in_e) ∙ time;
                      time_f = time_f;
                      into = subst (MovesInto tt s (owner e)) (sym own.1) into;
                      waits_for = sym (ap (λ x. (get_or waits x no_wait).agent) at.1) ∙ ap (λ w. w.agent) wait ∙ sym own.1;
                    },
                  )
                  )
            ]
            )
      ]

  -- the entry with which an agent's move in a step ends
  abbrev entry_after : ℕ → ℕ → ℕ
  entry_after s i = begin_in ends i + moves_to tt i (s + 1)

  -- who moves in a step has such an entry
  entry_of_move : (i s j : ℕ) → MovesInto tt s i j → (entry_after s i < length times) × (owner (entry_after s i) ≡ i) × (get_or times (entry_after s i) 0 ≡ s + 1)
  entry_of_move i s j into =
      let found = mover-arrival tt (all_entered tt.tracks) times ends waits l.visits l.visit_ends h i s into.from into.is_from into.moves in
      let p = found.0 in
      let e = entry_in ends l.arrivals p in
      let index : (came p).index ≡ moves_to tt i (s + 1) = found.5 ∙ sym (ap (λ o. moves_in o (s + 1)) into.is_from) in
      let same : e ≡ entry_after s i = ap (λ a. begin_in ends a + (came p).index) found.2 ∙ ap (λ k. begin_in ends i + k) index in
      let place = l.line.schedule.places p found.1 in
      let inside = entry-within tt.tracks (all_entered tt.tracks) times ends l.line.paths (came p).agent (came p).index e (l.line.schedule.entries p found.1) in
      let all = count in
      let within : e < length times = omega (arith, inside, all) in (
        subst (λ x. x < length times) same within,
        ap owner (sym same) ∙ ap (λ x. (came x).agent) place ∙ found.2,
        ap (λ x. get_or times x 0) (sym same) ∙ found.3,
      )

  into-leads : (i j k s : ℕ) → MovesInto tt s i j → MovesInto tt s j k → LinksTo ahead (entry_after s i) (entry_after s j)
  into-leads i j k s into on =
      let own = entry_of_move i s j into in
      let other = entry_of_move j s k on in
      let e = entry_after s i in
      let f = entry_after s j in
      let at = arrival_of e own.0 in
      let time : (visit_for e).time ≡ s + 1 = own_time e own.0 ∙ own.2 in
      let after = into-after tt (all_entered tt.tracks) times ends waits l.visits l.visit_ends h i j s (rank times e) at.0 own.1 time into in
      let q = after.0 in
      let moved = moved_to f s other.0 other.2 in
      let by_owner = ap (λ a. moves_to tt a s) other.1 in
      let place = (own_entry f other.0).place in
      let begin = ap (begin_in ends) other.1 in
      let index = after.3 in
      let begin_q = ap (begin_in ends) after.2 in
      let next : f ≡ entry_in ends l.arrivals q + 1 = omega (arith, moved, by_owner, place, begin, index, begin_q) in
      let apart : (came q).agent ≡ (visit_for e).agent → ⊥ = λ same. not_own tt (all_entered tt.tracks) times ends waits l.visits l.visit_ends h i s
      (subst (MovesInto tt s i) (sym after.2 ∙ same ∙ own.1) into) in
      let is = noted e own.0 ∙ ap (ahead_of times ends (visit_for e)) after.4
      ∙ ahead-there times ends (visit_for e) (came q) apart (sym (ap (λ x. get_or times x 0) next) ∙ other.2 ∙ sym time) ∙ sym next in
      let all = entry_count in
      let inside = own.0 in
      let within = other.0 in
      let few = l.line.few.all in
      let same = count in
      (slice_get-get_or ahead e no_entry (omega (arith, all, inside)) ∙ ap Some is, λ none. omega (arith, none, within, few, same))

  pub are_links : AreLinks ahead
  are_links = record {
    few = (let few = l.line.few.all in let same = count in let all = entry_count in omega (arith, few, same, all));
    within = λ i j leads. (let less = (leads-moves i j leads).1.in_f in let all = entry_count in omega (arith, less, all));
    injective = λ i k j one other. (
        let a = leads-moves i j one in
        let b = leads-moves k j other in
        let at = a.1.time_f in
        let also = b.1.time_f in
        let step : b.0 ≡ a.0 = omega (arith, at, also) in
        let one_into = a.1.into in
        let other_into = subst (λ s. MovesInto tt s (owner k) (owner j)) step b.1.into in
        let to = same_Some other_into.to one_into.to (sym other_into.is_to ∙ one_into.is_to) in
        let c = cell_at one_into.to a.0 in
        let agent = l.graphed.conflict_free (owner i) (owner k) (a.0 + 1) c (stands-from tt (owner i) (a.0 + 1) c one_into.from one_into.is_from one_into.into)
        (stands-from tt (owner k) (a.0 + 1) c other_into.from other_into.is_from (other_into.into ∙ ap (λ t. cell_at t a.0) to)) in
        let time_i = a.1.time_e in
        let time_k = b.1.time_e in
        one_entry i k a.1.in_e b.1.in_e agent (omega (arith, time_i, time_k, step))
        );
  }

  -- ---- the rotation of a cycle

  abbrev pub turn : List ℕ → Turn
  turn entries = record { step = get_or times (get_or entries 0 0) 0 - 1; agents = map owner entries }

  module _ (entries : List ℕ) (c : IsCycle ahead entries) where
    abbrev first : ℕ
    first = get_or entries 0 0

    abbrev step : ℕ
    step = get_or times (get_or entries 0 0) 0 - 1

    is_first : slice_get entries 0 ≡ Some first
    is_first = slice_get-get_or entries 0 0 c.some

    moves : (place i j : ℕ) → slice_get entries place ≡ Some i → following entries place ≡ Some j → (s : ℕ) × AreMoves i j s
    moves place i j there next = leads-moves i j (cycle-leads ahead entries place i j are_links c there next)

    -- all of them have one time
    pub same_time : (place i : ℕ) → slice_get entries place ≡ Some i → get_or times i 0 ≡ get_or times first 0
    same_time zero i there = ap (λ x. get_or times x 0) (same_at entries 0 i first there is_first)
    same_time (suc place) i there =
        let less = slice_get_within entries (suc place) i there in
        let before = one_at entries place (omega (arith, less)) in
        let next : place + 1 ≡ suc place = omega arith in
        let both = moves place before.0 i before.1 (following-next entries place (omega (arith, less)) ∙ ap (slice_get entries) next ∙ there) in
        let a = both.1.time_e in
        let b = both.1.time_f in
        let was = same_time place before.0 before.1 in
        omega (arith, a, b, was)

    moves_at : (place i j : ℕ) → slice_get entries place ≡ Some i → following entries place ≡ Some j → AreMoves i j step
    moves_at place i j there next =
        let both = moves place i j there next in
        let a = both.1.time_e in
        let b = same_time place i there in
        let is : both.0 ≡ step = omega (arith, a, b) in
        subst (AreMoves i j) is both.1

    pub inside : (place i : ℕ) → slice_get entries place ≡ Some i → i < length times
    inside place i there = (let next = follower entries place c.some in (moves_at place i next.0 there next.1).in_e)

    -- which is not the start
    pub begun : 1 ≤ get_or (all_times tt.tracks) (get_or entries 0 0) 0
    begun = (let next = follower entries 0 c.some in let time = (moves_at 0 first next.0 is_first next.1).time_e in omega (arith, time))

    pub trail_known : All (λ e. e < length waits) entries
    trail_known k d less = (let within = inside k (get_or entries k d) (slice_get-get_or entries k d less) in let all = wait_count in omega (arith, within, all))

    pub trail_agents : (i : ℕ) → i ≡ owner (get_or entries 0 0) → agents_of waits i entries ≡ map owner entries
    trail_agents i is = agents-map waits owner i entries (λ e there. is ∙ ap owner (same_at entries 0 first e is_first there)) (λ k e f there after.
        let less = slice_get_within entries (suc k) f after in
        let next : k + 1 ≡ suc k = omega arith in
        (moves_at k e f there (following-next entries k (omega (arith, less)) ∙ ap (slice_get entries) next ∙ after)).waits_for)

    not_swapped : (i j : ℕ) → MovesInto tt step i j → MovesInto tt step j i → ⊥
    not_swapped i j a b =
        let u = cell_at a.from step in
        let v = cell_at a.from (step + 1) in
        let one = same_Some b.to a.from (sym b.is_to ∙ a.is_from) in
        l.graphed.swap_free i j step u v a.moves (stands-from tt i step u a.from a.is_from refl) (stands-from tt i (step + 1) v a.from a.is_from refl)
        (stands-from tt j step v a.to a.is_to (sym a.into))
        (stands-from tt j (step + 1) u b.from b.is_from (b.into ∙ ap (λ t. cell_at t step) one))

    not_two : length entries < 3 → ⊥
    not_two few = elim (cases_lt 1 (length entries)) [
      | inl two ↦ (
          let second = one_at entries 1 two in
          not_swapped (owner first) (owner second.0) (moves_at 0 first second.0 is_first (following-next entries 0 two ∙ second.1)).into
          (moves_at 1 second.0 first second.1 (following-first entries 1 (omega (arith, few)) ∙ is_first)).into
          )
      | inr one ↦ not_own tt (all_entered tt.tracks) times ends waits l.visits l.visit_ends h (owner first) step
          (moves_at 0 first first is_first (following-first entries 0 (omega (arith, one)) ∙ is_first)).into
    ]

    pub cycle-rotation : IsRotation tt (get_or (all_times tt.tracks) (get_or entries 0 0) 0 - 1) (map owner entries)
    cycle-rotation = record {
      three = (let long = length-map entries owner in elim (cases_lt (length entries) 3) [ inl few ↦ absurd (not_two few) | inr enough ↦ omega (arith, enough, long) ]);
      different = λ place other i at_place at_other. (
          let a = map-get owner entries place i at_place in
          let b = map-get owner entries other i at_other in
          let same = one_entry a.0 b.0 (inside place a.0 a.1) (inside other b.0 b.1) (a.2 ∙ sym b.2) (same_time place a.0 a.1 ∙ sym (same_time other b.0 b.1)) in
          c.different place other a.0 a.1 (b.1 ∙ ap Some (sym same))
          );
      least = λ place start i at_first at_place. (
          let a = map-get owner entries 0 start at_first in
          let b = map-get owner entries place i at_place in
          let from = c.least place a.0 b.0 a.1 b.1 in
          let is_start = a.2 in
          let is_i = b.2 in
          elim (cases_lt (owner b.0) (owner a.0)) [
            | inl lesser ↦ (
                let before = entry-before tt.tracks (all_entered tt.tracks) times ends l.line.paths (owner b.0) (owner a.0) (visit_for b.0).index (visit_for a.0).index b.0 a.0 lesser
                (own_entry b.0 (inside place b.0 b.1)) (own_entry a.0 (inside 0 a.0 a.1)) in
                absurd (omega (arith, before, from))
                )
            | inr enough ↦ omega (arith, enough, is_start, is_i)
          ]
          );
      cycle = λ place i j there next. (
          let a = map-get owner entries place i there in
          let b = map-following owner entries place j next in
          subst (MovesInto tt step i) b.2 (subst (λ x. MovesInto tt step x (owner b.0)) a.2 (moves_at place a.0 b.0 a.1 b.1).into)
          );
    }

  -- ---- the cycle of a rotation

  module _ (r : Turn) (is : IsRotation tt r.step r.agents) where
    abbrev pub round : List ℕ
    round = map (entry_after r.step) r.agents

    some_agents : 0 < length r.agents
    some_agents = (let three = is.three in omega (arith, three))

    moved : (place i : ℕ) → slice_get r.agents place ≡ Some i
        → (entry_after r.step i < length times) × (owner (entry_after r.step i) ≡ i) × (get_or times (entry_after r.step i) 0 ≡ r.step + 1)
    moved place i there = (let next = follower r.agents place some_agents in entry_of_move i r.step next.0 (is.cycle place i next.0 there next.1))

    pub rotation-cycle : IsCycle ahead round
    rotation-cycle = record {
      some = (let long = length-map r.agents (entry_after r.step) in let some = some_agents in omega (arith, long, some));
      different = λ place other e at_place at_other. (
          let a = map-get (entry_after r.step) r.agents place e at_place in
          let b = map-get (entry_after r.step) r.agents other e at_other in
          let same : b.0 ≡ a.0 = sym (moved other b.0 b.1).1 ∙ ap owner (b.2 ∙ sym a.2) ∙ (moved place a.0 a.1).1 in
          is.different place other a.0 a.1 (b.1 ∙ ap Some same)
          );
      least = λ place start e at_first at_place. (
          let a = map-get (entry_after r.step) r.agents 0 start at_first in
          let b = map-get (entry_after r.step) r.agents place e at_place in
          let from = is.least place a.0 b.0 a.1 b.1 in
          let one = moved 0 a.0 a.1 in
          let other = moved place b.0 b.1 in
          let is_start = a.2 in
          let is_e = b.2 in
          elim (cases_lt a.0 b.0) [
            | inl lesser ↦ (
                let f = entry_after r.step a.0 in
                let g = entry_after r.step b.0 in
                let before = entry-before tt.tracks (all_entered tt.tracks) times ends l.line.paths a.0 b.0 (visit_for f).index (visit_for g).index f g lesser
                (subst (λ x. IsEntry ends x (visit_for f).index f) one.1 (own_entry f one.0)) (subst (λ x. IsEntry ends x (visit_for g).index g) other.1 (own_entry g other.0)) in
                omega (arith, before, is_start, is_e)
                )
            | inr enough ↦ (
                let same : a.0 ≡ b.0 = omega (arith, from, enough) in
                let also = ap (entry_after r.step) same in
                omega (arith, also, is_start, is_e)
                )
          ]
          );
      cycle = λ place e f there next. (
          let a = map-get (entry_after r.step) r.agents place e there in
          let b = map-following (entry_after r.step) r.agents place f next in
          let at = follower-within r.agents place b.0 b.1 in
          let on = follower r.agents at.0 some_agents in
          ap (slice_get ahead) (sym a.2) ∙ (into-leads a.0 b.0 on.0 r.step (is.cycle place a.0 b.0 a.1 b.1) (is.cycle at.0 b.0 on.0 at.1 on.1)).0 ∙ ap Some b.2
          );
    }

    pub same_turn : turn round ≡ r
    same_turn =
        let start = one_at r.agents 0 some_agents in
        let begins = get_or_from_slice_get round 0 (entry_after r.step start.0) 0 (map-from (entry_after r.step) r.agents 0 start.0 start.1) in
        let time = ap (λ x. get_or times x 0) begins ∙ (moved 0 start.0 start.1).2 in
        let step : get_or times (get_or round 0 0) 0 - 1 ≡ r.step = omega (arith, time) in
        let agents : map owner round ≡ r.agents = same_by_places (map owner round) r.agents (length-map round owner ∙ length-map r.agents (entry_after r.step)) (λ k less.
        let inner = length-map r.agents (entry_after r.step) in
        let outer = length-map round owner in
        let x = one_at r.agents k (omega (arith, less, inner, outer)) in
        map-from owner round k (entry_after r.step x.0) (map-from (entry_after r.step) r.agents k x.0 x.1) ∙ ap Some (moved k x.0 x.1).1 ∙ sym x.1) in
        ap {A = ℕ} {B = Turn} (λ s. record { step = s; agents = map owner round }) step ∙ ap {A = List ℕ} {B = Turn} (λ a. record { step = r.step; agents = a }) agents
