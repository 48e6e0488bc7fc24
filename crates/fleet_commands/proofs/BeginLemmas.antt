-- A fleet that stopped may begin anew.
use Rattle.std.proofs.Common.{◌≡◌, ◌∙◌, ℕ, zero, suc, ◌+◌, ◌-◌, ◌<◌, ◌≤◌, Bool, List, [], ◌∷◌, ◌++◌, length, true, false, Some, None, inl, inr, refl, ap, sym, arith}
use Rattle.std.specs.Prelude.{◌&&◌, not, nat_le, nat_lt, Option, slice_get}
use Rattle.std.specs.List.{list_any}
use Rattle.std.proofs.lemmas.Bool.{cases_Bool, cond-true, cond-false, lt-leb, ltb-true, not-false}
use Rattle.std.proofs.lemmas.Option.{slice_get_within}
use Rattle.grid.specs.Map.{Grid}
use Rattle.grid.specs.declared.cell.Cell.{Cell}
use Rattle.model.specs.Dependency.{IsMet, IsRotation, Need, need}
use Rattle.model.specs.Plan.{IsTimetableOf, IsValid, Plan}
use Rattle.model.specs.Safety.{HaveNeedsMet, MayBeIn}
use Rattle.model.specs.Timetable.{Track, Timetable, IsSwapFree, moves, moves_before, step_of, track_of}
use Rattle.depgraph.specs.Rotations.{AreRotations, Turn}
use Rattle.agent.specs.States.{State, begun_moves, finished_moves}
use Rattle.fleet.specs.OwnPlans.{StandsAs}
use Rattle.fleet_commands.specs.FoundTapes.{Found, begun_by, finished_by, is_known}
use Rattle.fleet_commands.specs.HandoverCommand.{AreAllKnown}
use Rattle.fleet_commands.specs.LeftPlan.{first_step, is_left_out, left_course, left_plan}
use Rattle.fleet_commands.specs.LeftWays.{number_left}
use Rattle.fleet_commands.specs.LostPlaces.{AreTapesOf}
use Rattle.fleet_commands.specs.OneRun.{counts, first_unmet, has_begun_in, has_reached, is_turn_begun, unmet_by, unmet_in}
use Rattle.fleet_commands.specs.Standing.{kept_by_need}
use Rattle.fleet_commands.specs.StatusText.{begun_line, begun_line_by, run_lines, unmet_line, unmet_line_by}
use Rattle.fleet_commands.specs.Turns.{in_turn}
use Rattle.fleet_commands.specs.declared.one_run.Unmet.{Unmet}
use Rattle.fleet_commands.specs.declared.status_line.StatusLine.TheVariants.{Begun}
use Rattle.fleet_commands.proofs.LeftIndexes.{course-from, first-early, turn-suc}
use Rattle.fleet_commands.proofs.LeftValid.{left-valid, made-only}
use Rattle.fleet_commands.proofs.LostLemmas.{begun-as, counted, no-wait}
use Rattle.fleet_commands.proofs.RunLemmas.{none-more}

nothing-in-turn : {A : Type 0} (f : ℕ → List A) (n : ℕ) → ((i : ℕ) → f i ≡ []) → in_turn f n ≡ []
nothing-in-turn f zero none = refl
nothing-in-turn f (suc n) none = turn-suc f n ∙ ap (λ l. l ++ f n) (nothing-in-turn f n none) ∙ none n

first-none : (unmet : ℕ → Option Unmet) (n : ℕ) → ((k : ℕ) → k < n → unmet k ≡ None) → first_unmet unmet n ≡ None
first-none unmet zero none = refl
first-none unmet (suc n) none =
    let same : suc n ≡ n + 1 = omega arith in
    ap (first_unmet unmet) same ∙ none-more unmet n (first-none unmet n (λ k less. none k (omega (arith, less)))) (none n (omega arith))

none-any : (p : ℕ → Bool) (xs : List ℕ) → ((place x : ℕ) → slice_get xs place ≡ Some x → p x ≡ false) → list_any p xs ≡ false
none-any p [] none = refl
none-any p (x ∷ xs) none = grind (arith, none 0 x refl, none-any p xs (λ place. none (suc place)))

and-fails : (a b : Bool) → b ≡ false → (a && b) ≡ false
and-fails true b fails = fails
and-fails false b fails = refl

-- who has begun no move from a step on has not reached it
not-reached : (track : Track) (step begun : ℕ) → begun ≤ moves_before track step → has_reached step (Some track) begun ≡ false
not-reached track step begun few = elim (cases_Bool (nat_lt 0 begun)) [
  | inl some ↦
      (let more = ltb-true 0 begun some in
      let soon = made-only track (begun - 1) step (omega (arith, few, more)) in
      and-fails (nat_lt 0 begun) (nat_lt (begun - 1) (moves track) && nat_le step (step_of track (begun - 1)))
      (and-fails (nat_lt (begun - 1) (moves track)) (nat_le step (step_of track (begun - 1))) (lt-leb step (step_of track (begun - 1)) soon)))
  | inr none ↦ ap (λ b. b && (nat_lt (begun - 1) (moves track) && nat_le step (step_of track (begun - 1)))) none
]

module _ (table : Timetable) (without : Option ℕ) (found : List Found) (states : ℕ → State) (tapes : AreTapesOf without found states)
    (met : (i k : ℕ) (track : Track) → track_of table i ≡ Some track → k < begun_moves (states i) → IsMet (λ j. finished_moves (states j)) (need table i track k))
    (closed : (step : ℕ) (agents : List ℕ) (place i : ℕ) (track : Track) → IsRotation table step agents → slice_get agents place ≡ Some i → track_of table i ≡ Some track
    → begun_moves (states i) ≤ moves_before track step) where
  begun-counted : (i : ℕ) → counts without found i ≡ true → begun_by found i ≡ begun_moves (states i)
  begun-counted i count = let parts = counted without found i count in begun-as without found states i tapes parts.0 parts.1

  -- nobody has begun a move too early
  none-unmet : (i : ℕ) → unmet_line table without found i ≡ []
  none-unmet i = ap (unmet_line_by i) (by (track_of table i) refl)
    where
      by : (o : Option Track) → track_of table i ≡ o → unmet_in table without found i o ≡ None
      by None is = refl
      by (Some track) is =
          let all = first_unmet (λ k. unmet_by without found (kept_by_need (finished_by found) (need table i track k))) (begun_by found i) in
          elim (cases_Bool (counts without found i)) [
            | inl count ↦
                (let same = begun-counted i count in
                cond-true (counts without found i) all None count
                ∙ first-none (λ k. unmet_by without found (kept_by_need (finished_by found) (need table i track k))) (begun_by found i)
                (λ k less. no-wait without found states (need table i track k) tapes (met i k track is (omega (arith, less, same)))))
            | inr other ↦ cond-false (counts without found i) all None other
          ]

  not-begun-in : (step i : ℕ) → ((track : Track) → track_of table i ≡ Some track → begun_moves (states i) ≤ moves_before track step) → has_begun_in table without found step i ≡ false
  not-begun-in step i few = elim (cases_Bool (counts without found i)) [
    | inl count ↦ and-fails (counts without found i) (has_reached step (track_of table i) (begun_by found i)) (by count (track_of table i) refl)
    | inr other ↦ ap (λ b. b && has_reached step (track_of table i) (begun_by found i)) other
  ]
    where
      by : counts without found i ≡ true → (o : Option Track) → track_of table i ≡ o → has_reached step o (begun_by found i) ≡ false
      by count None is = refl
      by count (Some track) is = (let same = begun-counted i count in let most = few track is in not-reached track step (begun_by found i) (omega (arith, same, most)))

  -- nor one in a rotation
  none-turning : (turns : List Turn) → AreRotations table turns → (number : ℕ) → begun_line table without found turns number ≡ []
  none-turning turns are number = by (slice_get turns number) refl
    where
      by : (o : Option Turn) → slice_get turns number ≡ o → begun_line_by table without found number o ≡ []
      by None is = refl
      by (Some turn) is =
          cond-false (is_turn_begun table without found turn) (Begun number ∷ []) []
          (none-any (has_begun_in table without found turn.step) turn.agents
          (λ place i member. not-begun-in turn.step i (λ track there. closed turn.step turn.agents place i track (are.sound number turn is) member there)))

  pub none-shown : (turns : List Turn) → AreRotations table turns → run_lines table without turns found ≡ []
  none-shown turns are =
      ap (λ l. l ++ in_turn (begun_line table without found turns) (length turns)) (nothing-in-turn (unmet_line table without found) (length table.tracks) none-unmet)
      ∙ nothing-in-turn (begun_line table without found turns) (length turns) (none-turning turns are)

  -- what is left is valid
  module _ (m : Grid) (p : Plan) (valid : IsValid m p) (is : IsTimetableOf p table) (unswapped : IsSwapFree table)
      (most : (i : ℕ) (track : Track) → track_of table i ≡ Some track → begun_moves (states i) ≤ moves track)
      (apart : (begun finished : ℕ → ℕ) (i j : ℕ) (c : Cell) → HaveNeedsMet table begun finished → MayBeIn table begun finished i c → MayBeIn table begun finished j c → i ≡ j)
      (planned : (i k : ℕ) (track : Track) (asked : Need) → track_of table i ≡ Some track → k < moves track → need table i track k ≡ Some asked
      → (to : Track) × (last : ℕ) × (track_of table asked.agent ≡ Some to) × (asked.count ≡ last + 1) × (last < moves to) × (step_of to last ≤ step_of track k))
      (all : length found ≡ length table.tracks) (known : AreAllKnown without found) where
    abbrev first : ℕ
    first = first_step table found without

    have-met : HaveNeedsMet table (λ i. begun_moves (states i)) (λ i. finished_moves (states i))
    have-met = record { order = λ i track there. grind arith; met = λ i track k there less. met i k track there less }

    begun-kept : (i : ℕ) (track : Track) → is_left_out without i ≡ false → track_of table i ≡ Some track → begun_by found i ≡ begun_moves (states i)
    begun-kept i track kept there =
        let inside = slice_get_within table.tracks i track there in
        let unknown = known i (omega (arith, all, inside)) in
        let is_not : not (is_known found i) ≡ false = sym (ap (λ b. not b && not (is_known found i)) kept) ∙ unknown in
        begun-as without found states i tapes kept (not-false (is_known found i) is_not)

    pub left-is-valid : (number : ℕ) → IsValid m (left_plan p table found without number)
    left-is-valid number =
        left-valid m p table valid unswapped (λ i. begun_moves (states i)) (λ i. finished_moves (states i)) first have-met most apart planned (left_plan p table found without number)
        (number_left without)
        (λ j k there.
        let origin = course-from p table is.tracks found without number j k there in
        let i = origin.0 in
        let of = origin.1 in
        let same = begun-kept i of.track of.kept of.is_track in (
          i,
          record {
            course = of.course;
            track = of.track;
            is_course = of.is_course;
            is_track = of.is_track;
            tracked = of.tracked;
            left = of.left ∙ ap (λ n. left_course of.track n first of.course.acts) same;
            early = (let early = first-early table found without i of.track of.kept of.is_track in omega (arith, early, same));
          },
          origin.2,
        ))

-- who stands as another has as many records
pub records-of : (s other : State) → StandsAs s other → s.records ≡ other.records
records-of s other (inl same) = ap (λ x. x.records) same
records-of s other (inr same) = ap (λ x. x.records) same
