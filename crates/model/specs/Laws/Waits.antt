-- Agents that wait for one another in a circle turn in a rotation.
use Rattle.std.proofs.Common.{◌≡◌, ℕ, zero, suc, ◌+◌, ◌-◌, ◌<◌, ◌≤◌, eqb, false, List, length}
use Rattle.std.proofs.Common.{get_or, Some, None, inl, inr, arith, refl, sym, ap, subst, ◌∙◌}
use Rattle.std.specs.Prelude.{Option, nat_lt, slice_get}
use Rattle.std.proofs.lemmas.Bool.{cases_lt, cond-true, cond-false, eqb-true}
use Rattle.std.proofs.lemmas.Bool.{eqb-false, lt-ltb, le-ltb}
use Rattle.std.proofs.lemmas.Option.{same_Some, slice_get-get_or, slice_get_within}
use Rattle.model.specs.Timetable.{Track, Timetable, cell_at, moves_before, moves}
use Rattle.model.specs.Timetable.{step_of, track_of, IsConflictFree, IsSwapFree}
use Rattle.model.specs.Dependency.{Need, need, WaitsFor, MovesInto, following, IsRotation}
use Rattle.model.specs.Laws.Tracks.{moves-rise, moves-most, moves-leave, step-of_move, moving_step}
use Rattle.model.specs.Laws.Needs.{stands-from, AwaitsAnother, awaits}
use Rattle.model.specs.Laws.Rounds.{first_that, least_at, two_alike, turned, turned-more}
use Rattle.model.specs.Laws.Rounds.{comes_round, round, round-length, round-is}

-- the planned step of a move: the agent has made so many moves before it, and then moves
pub step-is : (track : Track) (step : ℕ) → (cell_at track step ≡ cell_at track (step + 1) → ⊥)
    → step_of track (moves_before track step) ≡ step
step-is track step leaves =
    let one : step + 1 ≡ suc step = omega arith in
    step-of_move track.start track.later step (λ e. leaves (e ∙ ap (cell_at track) (sym one)))

-- of a move that there is
pub moves-at : (track : Track) (k : ℕ) → k < moves track → moves_before track (step_of track k) ≡ k
moves-at track k less =
    let found = moving_step track.start track.later k less in
    let step : step_of track k ≡ found.0 = ap (step_of track) (sym found.1)
    ∙ step-of_move track.start track.later found.0 found.2 in
    ap (moves_before track) step ∙ found.1

-- moves are planned in their order
pub steps-rise
    : (track : Track) (k l : ℕ) → k ≤ l → l < moves track → step_of track k ≤ step_of track l
steps-rise track k l most less =
    elim (cases_lt (step_of track l) (step_of track k)) [
      | inl before ↦
          let rise = moves-rise track.start track.later (step_of track l) (step_of track k)
          (omega (arith, before)) in
          let at_k = moves-at track k (omega (arith, most, less)) in
          let at_l = moves-at track l less in
          let same : k ≡ l = omega (arith, most, rise, at_k, at_l) in
          absurd (let equal = ap (step_of track) same in omega (arith, equal, before))
      | inr past ↦ past
    ]

-- the last move of a need is planned no later than the move that waits
module _ (tt : Timetable) (i : ℕ) (track : Track) (k : ℕ) (n : Need)
    (a : AwaitsAnother tt i track k n) where
  pub last-planned : step_of a.to (moves_before a.to a.time) ≡ a.time
  last-planned = step-of_move a.to.start a.to.later a.time a.left

  pub last-within : moves_before a.to a.time < moves a.to
  last-within =
      let most = moves-most a.to.start a.to.later (suc a.time) in
      let leaves = moves-leave a.to.start a.to.later a.time a.left in
      omega (arith, most, leaves)

  pub last-in_time : step_of a.to (moves_before a.to a.time) ≤ step_of track k
  last-in_time =
      let own : step_of track k ≡ a.step = ap (step_of track) (sym a.is_step)
      ∙ step-is track a.step a.leaves in
      let its = last-planned in
      let in_time = a.in_time in
      omega (arith, its, own, in_time)

module _ (tt : Timetable) (finished : ℕ → ℕ) (free : IsConflictFree tt)
    (unswapped : IsSwapFree tt) where
  -- the planned step of an agent's next move
  abbrev step_by : Option Track → ℕ → ℕ
  step_by None k = 0
  step_by (Some track) k = step_of track k

  abbrev next_step : ℕ → ℕ
  next_step i = step_by (track_of tt i) (finished i)

  next-is : (i : ℕ) (track : Track) → track_of tt i ≡ Some track
      → next_step i ≡ step_of track (finished i)
  next-is i track there = ap (λ o. step_by o (finished i)) there

  awaited : (i j : ℕ) → (w : WaitsFor tt finished i j)
      → AwaitsAnother tt i w.track (finished i) (record { agent = j; count = w.count })
  awaited i j w =
      awaits tt i w.track (finished i) (record { agent = j; count = w.count }) free w.is_track
      w.left w.asks

  -- whom an agent waits for has a move left, planned no later than the one that it waits for
  module _ (i j : ℕ) (w : WaitsFor tt finished i j) where
    abbrev asked : Need
    asked = record { agent = j; count = w.count }

    abbrev to : Track
    to = (awaited i j w).to

    abbrev time : ℕ
    time = (awaited i j w).time

    its-step : step_of to (finished j) ≤ time
    its-step =
        let a = awaited i j w in
        let unmet = w.unmet in
        let count = a.count in
        let first = steps-rise to (finished j) (moves_before to time) (omega (arith, unmet, count))
        (last-within tt i w.track (finished i) asked a) in
        let last = last-planned tt i w.track (finished i) asked a in
        omega (arith, first, last)

    no_later : next_step j ≤ next_step i
    no_later =
        let a = awaited i j w in
        let first = its-step in
        let last = last-planned tt i w.track (finished i) asked a in
        let in_time = last-in_time tt i w.track (finished i) asked a in
        let own = next-is i w.track w.is_track in
        let its = next-is j to a.is_to in
        omega (arith, first, last, in_time, own, its)

    -- and if in the same step, the agent moves into its cell
    into-its : (s : ℕ) → next_step i ≡ s → next_step j ≡ s → MovesInto tt s i j
    into-its s own its =
        let a = awaited i j w in
        let step : a.step ≡ s = sym (step-is w.track a.step a.leaves)
        ∙ ap (step_of w.track) a.is_step ∙ sym (next-is i w.track w.is_track) ∙ own in
        let first = its-step in
        let at_j = next-is j to a.is_to in
        let in_time = a.in_time in
        let same : time ≡ s = omega (arith, first, at_j, its, in_time, step) in
        record {
          from = w.track;
          to = to;
          is_from = w.is_track;
          is_to = a.is_to;
          moves = subst (λ t. cell_at w.track t ≡ cell_at w.track (t + 1) → ⊥) step a.leaves;
          into = ap (λ t. cell_at w.track (t + 1)) (sym step) ∙ sym a.there ∙ ap (cell_at to) same;
        }

  not_itself : (i : ℕ) → WaitsFor tt finished i i → ⊥
  not_itself i w = (awaited i i w).other refl

  -- two agents don't move into one another's cells
  not_two : (i j s : ℕ) → (i ≡ j → ⊥) → MovesInto tt s i j → MovesInto tt s j i → ⊥
  not_two i j s apart first second =
      let from_i : second.to ≡ first.from =
      same_Some second.to first.from (sym second.is_to ∙ first.is_from) in
      let from_j : second.from ≡ first.to =
      same_Some second.from first.to (sym second.is_from ∙ first.is_to) in
      unswapped i j s (cell_at first.from s) (cell_at first.to s)
      (λ e. first.moves (e ∙ sym first.into))
      (stands-from tt i s (cell_at first.from s) first.from first.is_from refl)
      (stands-from tt i (s + 1) (cell_at first.to s) first.from first.is_from first.into)
      (stands-from tt j s (cell_at first.to s) first.to first.is_to refl)
      (stands-from tt j (s + 1) (cell_at first.from s) first.to first.is_to
      (ap (λ t. cell_at t (s + 1)) (sym from_j) ∙ second.into ∙ ap (λ t. cell_at t s) from_i))

  -- ---- a circle of agents each of whom waits for the next

  module _ (f : ℕ → ℕ) (x : ℕ) (n : ℕ) (back : turned f (suc n) x ≡ x) (each : (k : ℕ)
      → WaitsFor tt finished (turned f k x) (turned f (suc k) x)) where
    falls : (k l : ℕ) → next_step (turned f (k + l) x) ≤ next_step (turned f l x)
    falls zero l =
        (let same : zero + l ≡ l = omega arith in
        subst (λ m. next_step (turned f m x) ≤ next_step (turned f l x)) (sym same) (omega arith))
    falls (suc k) l =
        let before = falls k l in
        let later = no_later (turned f (k + l) x) (turned f (suc (k + l)) x) (each (k + l)) in
        let same : suc (k + l) ≡ suc k + l = omega arith in
        subst (λ m. next_step (turned f m x) ≤ next_step (turned f l x)) same
        (omega (arith, before, later))

    -- all their moves are planned in one step
    in_one_step : (k : ℕ) → k ≤ suc n → next_step (turned f k x) ≡ next_step x
    in_one_step k most =
        let down = falls k 0 in
        let rest = suc n - k in
        let up = falls rest k in
        let whole : rest + k ≡ suc n = omega (arith, most) in
        let first : k + 0 ≡ k = omega arith in
        let down_to = subst (λ m. next_step (turned f m x) ≤ next_step x) first down in
        let up_to = subst (λ m. next_step m ≤ next_step (turned f k x)) back
        (subst (λ m. next_step (turned f m x) ≤ next_step (turned f k x)) whole up) in
        omega (arith, down_to, up_to)

    into-next : (k : ℕ) → k < suc n → MovesInto tt (next_step x) (turned f k x) (turned f (suc k) x)
    into-next k less =
        into-its (turned f k x) (turned f (suc k) x) (each k) (next_step x)
        (in_one_step k (omega (arith, less))) (in_one_step (suc k) (omega (arith, less)))

    -- the first agent is the least, and none comes twice
    module _ (first : (k : ℕ) → x ≤ turned f k x) (once : (k : ℕ) → k < n
        → turned f (suc k) x ≡ x → ⊥) where
      at_least_three : 3 ≤ suc n
      at_least_three = by_size n refl where
        by_size : (m : ℕ) → n ≡ m → 3 ≤ suc n
        by_size zero none = (
            let same : suc n ≡ 1 = omega (arith, none) in
            absurd (not_itself x
            (subst (λ y. WaitsFor tt finished x y)
            (ap (λ m. turned f m x) (sym same) ∙ back) (each 0))))
        by_size (suc zero) one = (
            let same : suc n ≡ 2 = omega (arith, one) in
            let alone : turned f 1 x ≡ x → ⊥ = once 0 (omega (arith, one)) in
            absurd (not_two x (turned f 1 x) (next_step x) (λ e. alone (sym e))
            (into-next 0 (omega arith))
            (subst (MovesInto tt (next_step x) (turned f 1 x))
            (ap (λ m. turned f m x) (sym same) ∙ back) (into-next 1 (omega (arith, one))))))
        by_size (suc (suc m)) more = omega (arith, more)

      different : (k l : ℕ) → k < l → l < suc n → turned f k x ≡ turned f l x → ⊥
      different k l less within same =
          let rest = suc n - l in
          let there : rest + l ≡ suc n = omega (arith, within) in
          let gap = rest + k in
          let comes : turned f gap x ≡ x = sym (turned-more f rest k x) ∙ ap (turned f rest) same
          ∙ turned-more f rest l x ∙ ap (λ m. turned f m x) there ∙ back in
          let shorter = rest + k - 1 in
          let number : gap ≡ suc shorter = omega (arith, within) in
          once shorter (omega (arith, less, within)) (ap (λ m. turned f m x) (sym number) ∙ comes)

      turns : IsRotation tt (next_step x) (round f (suc n) x)
      turns = record {
        three =
            (let count = round-length f (suc n) x in let size = at_least_three in
            omega (arith, count, size));
        different = λ place other i one two.
            let here = round-is f (suc n) x place i one in
            let there = round-is f (suc n) x other i two in
            let same = sym here.1 ∙ there.1 in
            elim (cases_lt place other) [
              | inl before ↦ absurd (different place other before there.0 same)
              | inr past ↦ elim (cases_lt other place) [
                | inl behind ↦ absurd (different other place behind here.0 (sym same))
                | inr level ↦ omega (arith, past, level)
              ]
            ];
        least = λ place least i one two.
            let here = round-is f (suc n) x 0 least one in
            let there = round-is f (suc n) x place i two in
            subst (λ y. y ≤ i) (sym here.1) (subst (λ y. x ≤ y) (sym there.1) (first place));
        cycle = λ place i j one next.
            let here = round-is f (suc n) x place i one in
            let goes = follows place j here.0 next in
            subst (λ y. MovesInto tt (next_step x) y j) (sym here.1)
            (subst (MovesInto tt (next_step x) (turned f place x)) (sym goes)
            (into-next place here.0));
      } where
        follows : (place j : ℕ) → place < suc n → following (round f (suc n) x) place ≡ Some j
            → j ≡ turned f (suc place) x
        follows place j within next =
            elim (cases_lt (place + 1) (suc n)) [
              | inl less ↦
                  let count = round-length f (suc n) x in
                  let there = sym (cond-true (nat_lt (place + 1) (length (round f (suc n) x))) _ _
                  (lt-ltb _ _ (omega (arith, less, count)))) ∙ next in
                  let is = round-is f (suc n) x (place + 1) j there in
                  let one : place + 1 ≡ suc place = omega arith in
                  is.1 ∙ ap (λ m. turned f m x) one
              | inr past ↦
                  let count = round-length f (suc n) x in
                  let beyond : nat_lt (place + 1) (length (round f (suc n) x)) ≡ false =
                  le-ltb _ _ (omega (arith, past, count)) in
                  let there = sym (cond-false (nat_lt (place + 1) (length (round f (suc n) x))) _ _
                  beyond) ∙ next in
                  let last : suc n ≡ suc place = omega (arith, past, within) in
                  sym (same_Some x j there) ∙ sym back ∙ ap (λ m. turned f m x) last
            ]

  -- ---- a list of agents each of whom waits for the next

  abbrev pub asked_agent : ℕ → Option Need → ℕ
  asked_agent i None = i
  asked_agent i (Some n) = n.agent

  abbrev pub waited_by : ℕ → Option Track → ℕ
  waited_by i None = i
  waited_by i (Some track) = asked_agent i (need tt i track (finished i))

  -- for whom an agent's next move waits, else the agent itself
  abbrev pub waited : ℕ → ℕ
  waited i = waited_by i (track_of tt i)

  pub waited-is : (i j : ℕ) → WaitsFor tt finished i j → waited i ≡ j
  waited-is i j w = ap (waited_by i) w.is_track ∙ ap (asked_agent i) w.asks

  -- the agents have their next moves in that step
  abbrev pub AreNextIn : ℕ → List ℕ → Type 0
  AreNextIn step agents =
      (place i : ℕ) → slice_get agents place ≡ Some i
      → (track : Track) × (track_of tt i ≡ Some track) × (finished i < moves track)
      × (step_of track (finished i) ≡ step)

  -- agents that are about to turn
  pub record Turning : Type 0 where
    pub step : ℕ
    pub agents : List ℕ
    pub turns : IsRotation tt step agents
    pub next : AreNextIn step agents

  abbrev rotation_of : Turning → (step : ℕ) × (turning : List ℕ) × IsRotation tt step turning
  rotation_of t = (t.step, t.agents, t.turns)

  module _ (agents : List ℕ)
      (chain : (place i j : ℕ) → slice_get agents place ≡ Some i
      → slice_get agents (place + 1) ≡ Some j → WaitsFor tt finished i j) where
    abbrev head : ℕ
    head = get_or agents 0 0

    on_the_way : (p : ℕ) → p < length agents → slice_get agents p ≡ Some (turned waited p head)
    on_the_way zero less = slice_get-get_or agents 0 0 less
    on_the_way (suc p) less =
        let one : suc p ≡ p + 1 = omega arith in
        let before = on_the_way p (omega (arith, less)) in
        let here = slice_get-get_or agents (p + 1) 0 (omega (arith, less)) in
        let next = waited-is (turned waited p head) (get_or agents (p + 1) 0)
        (chain p (turned waited p head) (get_or agents (p + 1) 0) before here) in
        ap (slice_get agents) one ∙ here ∙ ap {A = ℕ} {B = Option ℕ} (λ y. Some y) (sym next)

    waits-on : (p : ℕ) → suc p < length agents
        → WaitsFor tt finished (turned waited p head) (turned waited (suc p) head)
    waits-on p less =
        let one : suc p ≡ p + 1 = omega arith in
        chain p (turned waited p head) (turned waited (suc p) head)
        (on_the_way p (omega (arith, less)))
        (ap (slice_get agents) (sym one) ∙ on_the_way (suc p) less)

    -- from one that comes again
    from_circle : (p n : ℕ) → suc n + p < length agents
        → turned waited (suc n) (turned waited p head) ≡ turned waited p head
        → Turning
    from_circle p n within back =
        let least = least_at n (λ k. turned waited k start) in
        let m = least.0 in
        let x = turned waited m start in
        let round_again : turned waited (suc n) x ≡ x
        =
        turned-more waited (suc n) m start ∙ (let flip : suc n + m ≡ m + suc n = omega arith in
        ap (λ k. turned waited k start) flip)
        ∙ sym (turned-more waited m (suc n) start) ∙ ap (turned waited m) back in
        let each : (k : ℕ) → WaitsFor tt finished (turned waited k x) (turned waited (suc k) x)
        =
        λ k. subst (λ y. WaitsFor tt finished y (waited y)) (sym (turned-more waited k m start))
        (waits (k + m)) in
        let first : (k : ℕ) → x ≤ turned waited k x
        = λ k. (let seen = comes_round waited n start back (k + m) in
        subst (λ y. x ≤ y) (sym (turned-more waited k m start ∙ seen.2)) (least.2 seen.0 seen.1)) in
        elim (first_that (suc n) (λ k. eqb (turned waited (suc k) x) x)) [
          | inl found ↦
              let back = eqb-true (turned waited (suc found.0) x) x found.2 in
              record {
                step = next_step x;
                agents = round waited (suc found.0) x;
                turns = turns waited x found.0 back each first
                    (λ k before. eqb-false (turned waited (suc k) x) x (found.3 k before));
                next = λ place i there.
                    let seen = round-is waited (suc found.0) x place i there in
                    let w = subst (λ y. WaitsFor tt finished y (turned waited (suc place) x))
                    (sym seen.1) (each place) in
                    let within = seen.0 in
                    let level = in_one_step waited x found.0 back each place
                    (omega (arith, within)) in (
                      w.track,
                      w.is_track,
                      w.left,
                      sym (next-is i w.track w.is_track) ∙ ap next_step seen.1 ∙ level,
                    );
              }
          | inr none ↦ absurd
              (eqb-false (turned waited (suc n) x) x (none n (omega arith)) round_again)
        ]
      where
        start : ℕ
        start = turned waited p head

        waits : (k : ℕ) → WaitsFor tt finished (turned waited k start)
            (waited (turned waited k start))
        waits k =
            let seen = comes_round waited n start back k in
            let before = seen.1 in
            subst (λ y. WaitsFor tt finished y (waited y))
            (sym (seen.2 ∙ turned-more waited seen.0 p head))
            (waits-on (seen.0 + p) (omega (arith, before, within)))

    -- agents in turn of whom one comes twice
    pub circle : (p q i : ℕ) → p < q → slice_get agents p ≡ Some i → slice_get agents q ≡ Some i
        → Turning
    circle p q i less first second =
        let within = slice_get_within agents q i second in
        let count : suc (q - p - 1) + p ≡ q = omega (arith, less) in
        let at_p = same_Some i (turned waited p head)
        (sym first ∙ on_the_way p (omega (arith, less, within))) in
        let at_q = same_Some i (turned waited q head) (sym second ∙ on_the_way q within) in
        from_circle p (q - p - 1) (omega (arith, less, within))
        (turned-more waited (suc (q - p - 1)) p head ∙ ap (λ m. turned waited m head) count
        ∙ sym at_q ∙ at_p)

    pub twice : (p q i : ℕ) → p < q → slice_get agents p ≡ Some i → slice_get agents q ≡ Some i
        → (step : ℕ) × (turning : List ℕ) × IsRotation tt step turning
    twice p q i less first second = rotation_of (circle p q i less first second)

    -- more agents than there are
    pub crowd : ((place i : ℕ) → slice_get agents place ≡ Some i → i < length tt.tracks)
        → length tt.tracks < length agents → Turning
    crowd there long =
        let alike = two_alike (length tt.tracks) (λ p. turned waited p head)
        (λ p most. there p (turned waited p head)
        (on_the_way p (omega (arith, most, long)))) in
        let less = alike.2 in
        let most = alike.3 in
        circle alike.0 alike.1 (turned waited alike.0 head) less
        (on_the_way alike.0 (omega (arith, less, most, long)))
        (on_the_way alike.1 (omega (arith, most, long)) ∙ ap {A = ℕ} {B = Option ℕ} (λ y. Some y)
        (sym alike.4))

    pub rotation : ((place i : ℕ) → slice_get agents place ≡ Some i → i < length tt.tracks)
        → length tt.tracks < length agents
        → (step : ℕ) × (turning : List ℕ) × IsRotation tt step turning
    rotation there long = rotation_of (crowd there long)
