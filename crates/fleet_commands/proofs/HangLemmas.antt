-- A fleet hangs in a rotation alone.
use Rattle.std.proofs.Common.{◌≡◌, ◌∙◌, ℕ, zero, suc, ◌+◌, ◌/◌, ◌%◌, ◌<◌, ◌≤◌, List, [], ◌∷◌, ◌++◌, length, map, true, false, Some, None, Ok, Err, inl, inr, refl, ap, sym, subst, arith, nat_lt}
use Rattle.std.specs.Prelude.{◌⊎◌, ◌==◌, ◌&&◌, not, if◌then◌else◌, is_ok, option_map, unwrap_or, Option, slice_get}
use Rattle.std.specs.List.{list_all, range_with_len}
use Rattle.std.proofs.lemmas.Bool.{and_from, cases_Bool, cases_lt, cond-true, cond-false, eq-eqb, eqb-false, le-ltb, lt-ltb, true≢false}
use Rattle.std.proofs.lemmas.Option.{same_Some, slice_get_cases, slice_get_within}
use Rattle.model.specs.Dependency.{IsMet, Need, need}
use Rattle.model.specs.Laws.Stuck.{HasMoveLeft, goes_or_turns}
use Rattle.model.specs.Timetable.{Track, Timetable, IsConflictFree, IsSwapFree, moves, step_of, track_of}
use Rattle.depgraph.specs.Rotations.{AreRotations, Turn}
use Rattle.fleet_commands.specs.FoundTapes.{Found, begun_by, begun_in_tape, finished_by, is_known, moves_in_tape}
use Rattle.fleet_commands.specs.HandoverCommand.{AreAllKnown}
use Rattle.fleet_commands.specs.Standing.{has_come, is_at_step, is_planned_in, keepers_of, kept_at, kept_by_need, kept_in, kept_now, stuck_count, waits_of}
use Rattle.fleet_commands.specs.StatusText.{agent_line, circle_line, circle_line_by, root_line, status_lines}
use Rattle.fleet_commands.specs.Turns.{in_turn}
use Rattle.fleet_commands.specs.declared.keeping.Keeping.{Keeping}
use Rattle.fleet_commands.specs.declared.keeping.Keeping.TheVariants.{OwnMove, OwnEnd, Nothing, Other}
use Rattle.fleet_commands.specs.declared.status_line.StatusLine.{StatusLine}
use Rattle.fleet_commands.specs.declared.status_line.StatusLine.TheVariants.{Circle}
use Rattle.fleet_commands.proofs.LeftIndexes.{turn-there}

-- what stands in the second of two lists
get-second : {A : Type 0} (xs ys : List A) (k : ℕ) (x : A) → slice_get ys k ≡ Some x → slice_get (xs ++ ys) (length xs + k) ≡ Some x
get-second [] ys k x there = let same : 0 + k ≡ k = omega arith in ap (slice_get ys) same ∙ there
get-second (y ∷ xs) ys k x there =
    let same : suc (length xs) + k ≡ suc (length xs + k) = omega arith in
    ap (slice_get (y ∷ xs ++ ys)) same ∙ get-second xs ys k x there

module _ (table : Timetable) (found : List Found) where
  -- ---- what an agent's tape has

  record HasTape (i : ℕ) : Type 0 where
    pub track : Track
    pub records : ℕ
    pub is_track : track_of table i ≡ Some track
    pub is_found : slice_get found i ≡ Some (Ok records)

  abbrev Moves : Type 0
  Moves = (i : ℕ) × (kept_now table found i ≡ OwnMove)

  abbrev IsReady : Type 0
  IsReady = (i : ℕ) × (kept_now table found i ≡ Nothing)

  module _ (i : ℕ) (tape : HasTape i) where
    finished-is : finished_by found i ≡ tape.records / 2
    finished-is = ap (λ o. unwrap_or (option_map moves_in_tape o) 0) tape.is_found

    begun-is : begun_by found i ≡ (tape.records + 1) / 2
    begun-is = ap (λ o. unwrap_or (option_map begun_in_tape o) 0) tape.is_found

    kept-is : kept_now table found i ≡ kept_at table (finished_by found) i tape.track tape.records
    kept-is = ap (λ o. kept_in table found i o (slice_get found i)) tape.is_track ∙ ap (kept_in table found i (Some tape.track)) tape.is_found

    -- it moves, or has arrived, or stands with a move left
    record Stands : Type 0 where
      pub left : finished_by found i < moves tape.track
      pub still : begun_by found i ≡ finished_by found i
      pub kept : kept_now table found i ≡ kept_by_need (finished_by found) (need table i tape.track (tape.records / 2))

    record HasArrived : Type 0 where
      pub none_left : moves tape.track ≤ finished_by found i
      pub kept : kept_now table found i ≡ OwnEnd

    abbrev by_moves : Keeping
    by_moves = if nat_lt (tape.records / 2) (moves tape.track) then kept_by_need (finished_by found) (need table i tape.track (tape.records / 2)) else OwnEnd

    cases : (kept_now table found i ≡ OwnMove) ⊎ (HasArrived ⊎ Stands)
    cases = elim (cases_Bool (tape.records % 2 == 1)) [
      | inl odd ↦ inl (kept-is ∙ cond-true (tape.records % 2 == 1) OwnMove by_moves odd)
      | inr even ↦
          (let standing = kept-is ∙ cond-false (tape.records % 2 == 1) OwnMove by_moves even in
          let other = eqb-false (tape.records % 2) 1 even in
          let halves : (tape.records + 1) / 2 ≡ tape.records / 2
          = elim (cases_lt (tape.records % 2) 1) [ inl none ↦ omega (arith, none) | inr one ↦ absurd (other (omega (arith, one))) ] in
          let done = finished-is in
          elim (cases_lt (tape.records / 2) (moves tape.track)) [
            | inl less ↦
                inr (inr (record {
                  left = omega (arith, less, done);
                  still = begun-is ∙ halves ∙ sym done;
                  kept = standing
                      ∙ cond-true (nat_lt (tape.records / 2) (moves tape.track)) (kept_by_need (finished_by found) (need table i tape.track (tape.records / 2))) OwnEnd
                      (lt-ltb (tape.records / 2) (moves tape.track) less);
                }))
            | inr past ↦
                inr (inl (record {
                  none_left = omega (arith, past, done);
                  kept = standing
                      ∙ cond-false (nat_lt (tape.records / 2) (moves tape.track)) (kept_by_need (finished_by found) (need table i tape.track (tape.records / 2))) OwnEnd
                      (le-ltb (tape.records / 2) (moves tape.track) past);
                }))
          ])
    ]

    met-nothing : (o : Option Need) → IsMet (finished_by found) o → kept_by_need (finished_by found) o ≡ Nothing
    met-nothing None met = refl
    met-nothing (Some n) met =
        cond-false (nat_lt (finished_by found n.agent) n.count) (Other n.agent n.count) Nothing (le-ltb (finished_by found n.agent) n.count met)

    -- whose need is met, it moves or is ready
    goes : (track : Track) → track_of table i ≡ Some track → finished_by found i < moves track → IsMet (finished_by found) (need table i track (finished_by found i))
        → Moves ⊎ IsReady
    goes track there left met =
        let same : track ≡ tape.track = same_Some track tape.track (sym there ∙ tape.is_track) in
        elim cases [
          | inl moving ↦ inl (i, moving)
          | inr rest ↦ elim rest [
            | inl arrived ↦ (let none = arrived.none_left in let count = ap moves same in absurd (omega (arith, left, none, count)))
            | inr stands ↦
                inr (
                  i,
                  stands.kept ∙ met-nothing (need table i tape.track (tape.records / 2)) (subst (λ k. IsMet (finished_by found) (need table i tape.track k)) finished-is
                      (subst (λ t. IsMet (finished_by found) (need table i t (finished_by found i))) same met)),
                )
          ]
        ]

    -- whose next move is planned in a step, it moves or has come to that step
    comes : (step : ℕ) (track : Track) → track_of table i ≡ Some track → finished_by found i < moves track → step_of track (finished_by found i) ≡ step
        → Moves ⊎ (is_at_step table found step i ≡ true)
    comes step track there left planned =
        let same : track ≡ tape.track = same_Some track tape.track (sym there ∙ tape.is_track) in
        elim cases [
          | inl moving ↦ inl (i, moving)
          | inr rest ↦ elim rest [
            | inl arrived ↦ (let none = arrived.none_left in let count = ap moves same in absurd (omega (arith, left, none, count)))
            | inr stands ↦
                (let is_here : is_planned_in step (track_of table i) (finished_by found i) ≡ true
                = ap (λ o. is_planned_in step o (finished_by found i)) there
                ∙ and_from (nat_lt (finished_by found i) (moves track)) (step_of track (finished_by found i) == step) (lt-ltb (finished_by found i) (moves track) left)
                (eq-eqb (step_of track (finished_by found i)) step planned) in
                let opened : is_known found i ≡ true = ap (λ o. unwrap_or (option_map is_ok o) false) tape.is_found in
                inr (and_from (is_known found i) ((begun_by found i == finished_by found i) && is_planned_in step (track_of table i) (finished_by found i)) opened
                (and_from (begun_by found i == finished_by found i) (is_planned_in step (track_of table i) (finished_by found i))
                (eq-eqb (begun_by found i) (finished_by found i) stands.still) is_here)))
          ]
        ]

  module _ (all : length found ≡ length table.tracks) (known : AreAllKnown None found) where
    tape-of : (i : ℕ) → i < length table.tracks → HasTape i
    tape-of i less = elim (slice_get_cases table.tracks i).1 [
      | inr past ↦ absurd (let late = past.0 in omega (arith, less, late))
      | inl there ↦ elim (slice_get_cases found i).1 [
        | inr past ↦ absurd (let late = past.0 in omega (arith, less, late, all))
        | inl tape ↦ by tape.0 tape.2 there.0 there.2
      ]
    ]
      where
        by : (f : Found) → slice_get found i ≡ Some f → (track : Track) → slice_get table.tracks i ≡ Some track → HasTape i
        by (Ok records) is track there = record { track = track; records = records; is_track = there; is_found = is }
        by (Err fault) is track there =
            absurd (true≢false (sym (ap (λ o. not (unwrap_or (option_map is_ok o) false)) is) ∙ known i (omega (arith, less, all))))

    agent-tape : (i : ℕ) (track : Track) → track_of table i ≡ Some track → HasTape i
    agent-tape i track there = tape-of i (slice_get_within table.tracks i track there)

    -- one of some agents moves, or one of them has a move left, or all have arrived
    look : (n : ℕ) → n ≤ length table.tracks
        → Moves ⊎ (((i : ℕ) × HasMoveLeft table (finished_by found) i) ⊎ ((i : ℕ) → i < n → kept_now table found i ≡ OwnEnd))
    look zero most = inr (inr (λ i less. absurd (omega (arith, less))))
    look (suc n) most = elim (look n (omega (arith, most))) [
      | inl moving ↦ inl moving
      | inr rest ↦ elim rest [
        | inl left ↦ inr (inl left)
        | inr before ↦
            (let tape = tape-of n (omega (arith, most)) in
            elim (cases n tape) [
              | inl moving ↦ inl (n, moving)
              | inr own ↦ elim own [
                | inr stands ↦ inr (inl (n, (tape.track, tape.is_track, stands.left)))
                | inl arrived ↦ inr (inr (λ i less. elim (cases_lt i n) [
                  | inl early ↦ before i early
                  | inr past ↦ subst (λ k. kept_now table found k ≡ OwnEnd) (omega (arith, less, past)) arrived.kept
                ]))
              ]
            ])
      ]
    ]

    -- one of those whose next moves are planned in a step moves, or all have come to it
    have-come : (step : ℕ) (agents : List ℕ) → ((place i : ℕ) → slice_get agents place ≡ Some i
        → (track : Track) × (track_of table i ≡ Some track) × (finished_by found i < moves track) × (step_of track (finished_by found i) ≡ step))
        → Moves ⊎ (list_all (is_at_step table found step) agents ≡ true)
    have-come step [] each = inr refl
    have-come step (x ∷ agents) each = elim (have-come step agents (λ place i there. each (suc place) i there)) [
      | inl moving ↦ inl moving
      | inr rest ↦
          (let next = each 0 x refl in
          elim (comes x (agent-tape x next.0 next.1) step next.0 next.1 next.2 next.3) [
            | inl moving ↦ inl moving
            | inr here ↦ inr (and_from (is_at_step table found step x) (list_all (is_at_step table found step) agents) here rest)
          ])
    ]

    module _ (turns : List Turn) (free : IsConflictFree table) (unswapped : IsSwapFree table) (rotations : AreRotations table turns)
        (untold : (place number keeps : ℕ) → slice_get (status_lines table turns found) place ≡ Some (Circle number keeps) → ⊥) where
      abbrev ends : List ℕ
      ends = keepers_of (waits_of table found)

      abbrev others : List StatusLine
      others = map (agent_line table found) (range_with_len 0 (length table.tracks)) ++ in_turn (root_line ends (waits_of table found)) (length table.tracks)

      -- a rotation to which all have come is told
      told : (turn : Turn) (number : ℕ) → slice_get turns number ≡ Some turn → has_come table found turn ≡ true → ⊥
      told turn number is come =
          let line : circle_line table found ends turns number ≡ Circle number (stuck_count ends turn) ∷ []
          = ap (circle_line_by table found ends number) is ∙ cond-true (has_come table found turn) (Circle number (stuck_count ends turn) ∷ []) [] come in
          let there = turn-there (circle_line table found ends turns) (length turns) number (Circle number (stuck_count ends turn)) (slice_get_within turns number turn is) line in
          untold _ number (stuck_count ends turn) (get-second others (in_turn (circle_line table found ends turns) (length turns)) _ _ there)

      pub somebody : Moves ⊎ (IsReady ⊎ ((i : ℕ) → i < length table.tracks → kept_now table found i ≡ OwnEnd))
      somebody = elim (look (length table.tracks) (omega arith)) [
        | inl moving ↦ inl moving
        | inr rest ↦ elim rest [
          | inr arrived ↦ inr (inr arrived)
          | inl left ↦ elim (goes_or_turns table (finished_by found) free unswapped left.0 left.1) [
            | inl can ↦
                elim (goes can.agent (agent-tape can.agent can.track can.there) can.track can.there can.left can.met) [
                  | inl moving ↦ inl moving
                  | inr ready ↦ inr (inl ready)
                ]
            | inr turning ↦ elim (have-come turning.step turning.agents turning.next) [
              | inl moving ↦ inl moving
              | inr come ↦
                  (let turn : Turn = record { step = turning.step; agents = turning.agents } in
                  let placed = rotations.whole turn turning.turns in
                  absurd (told turn placed.0 placed.1 come))
            ]
          ]
        ]
      ]
