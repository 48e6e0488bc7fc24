-- Where a robot may be that is lost.
use Rattle.std.proofs.Common.{◌≡◌, ◌∙◌, ℕ, ◌<◌, ◌≤◌, Bool, List, length, true, false, Some, None, Ok, Err, inl, inr, refl, ap, sym, subst, arith, nat_lt}
use Rattle.std.specs.Prelude.{◌&&◌, not, Option, option_map, unwrap_or, slice_get, is_ok}
use Rattle.std.proofs.lemmas.Bool.{cases_Bool, cases_lt, cond-true, cond-false, false≢true, true≢false}
use Rattle.std.proofs.lemmas.Bool.Decides.{nat_tests}
use Rattle.std.proofs.lemmas.Option.{same_Some}
use Rattle.grid.specs.declared.cell.Cell.{Cell}
use Rattle.model.specs.Dependency.{Need, IsMet, need}
use Rattle.model.specs.Laws.Tracks.{length-path}
use Rattle.model.specs.Rules.{path_cell}
use Rattle.model.specs.Safety.{MayBeIn}
use Rattle.model.specs.Timetable.{Track, Timetable, path, track_of}
use Rattle.agent.specs.States.{State, begun_moves, finished_moves}
use Rattle.fleet_commands.specs.FoundTapes.{Found, begun_by, begun_in_tape, finished_by, is_known, moves_in_tape}
use Rattle.fleet_commands.specs.LeftPlan.{is_left_out}
use Rattle.fleet_commands.specs.LostPlaces.{AreTapesOf, IsFurthest}
use Rattle.fleet_commands.specs.OneRun.{counts, unmet_by}
use Rattle.fleet_commands.specs.Standing.{kept_by_need}
use Rattle.fleet_commands.specs.declared.keeping.Keeping.TheVariants.{Other, Nothing}

-- by a tape that is right as many records are found as its agent left
records-as : (without : Option ℕ) (found : List Found) (states : ℕ → State) (j : ℕ) → AreTapesOf without found states → is_left_out without j ≡ false → is_known found j ≡ true
    → slice_get found j ≡ Some (Ok (states j).records)
records-as without found states j tapes kept known = by (slice_get found j) refl known
  where
    by : (o : Option Found) → slice_get found j ≡ o → unwrap_or (option_map is_ok o) false ≡ true → slice_get found j ≡ Some (Ok (states j).records)
    by None is right = absurd (false≢true right)
    by (Some (Err fault)) is right = absurd (false≢true right)
    by (Some (Ok records)) is right = is ∙ ap (λ n. Some (Ok n)) (tapes j records kept is)

-- so as many moves are finished and begun
pub finished-as : (without : Option ℕ) (found : List Found) (states : ℕ → State) (j : ℕ) → AreTapesOf without found states → is_left_out without j ≡ false → is_known found j ≡ true
    → finished_by found j ≡ finished_moves (states j)
finished-as without found states j tapes kept known = ap (λ o. unwrap_or (option_map moves_in_tape o) 0) (records-as without found states j tapes kept known)

pub begun-as : (without : Option ℕ) (found : List Found) (states : ℕ → State) (j : ℕ) → AreTapesOf without found states → is_left_out without j ≡ false → is_known found j ≡ true
    → begun_by found j ≡ begun_moves (states j)
begun-as without found states j tapes kept known = ap (λ o. unwrap_or (option_map begun_in_tape o) 0) (records-as without found states j tapes kept known)

-- and by another none
none-finished : (o : Option Found) → unwrap_or (option_map is_ok o) false ≡ false → unwrap_or (option_map moves_in_tape o) 0 ≡ 0
none-finished None wrong = refl
none-finished (Some (Err fault)) wrong = refl
none-finished (Some (Ok records)) wrong = absurd (true≢false wrong)

-- so no more than the agent has finished
finished-most : (found : List Found) (states : ℕ → State) (j : ℕ) → AreTapesOf None found states → finished_by found j ≤ finished_moves (states j)
finished-most found states j tapes = elim (cases_Bool (is_known found j)) [
  | inl right ↦ (let same = finished-as None found states j tapes refl right in omega (arith, same))
  | inr wrong ↦ (let none = none-finished (slice_get found j) wrong in omega (arith, none))
]

-- a tape that counts is right, and not left out
pub counted : (without : Option ℕ) (found : List Found) (j : ℕ) → counts without found j ≡ true → (is_left_out without j ≡ false) × (is_known found j ≡ true)
counted without found j count = by (is_left_out without j) (is_known found j) count
  where
    by : (out known : Bool) → (not out && known) ≡ true → (out ≡ false) × (known ≡ true)
    by true known e = absurd (false≢true e)
    by false known e = (refl, e)

-- what is met waits for no tape that counts
pub no-wait : (without : Option ℕ) (found : List Found) (states : ℕ → State) (o : Option Need) → AreTapesOf without found states → IsMet (λ j. finished_moves (states j)) o
    → unmet_by without found (kept_by_need (finished_by found) o) ≡ None
no-wait without found states None tapes met = refl
no-wait without found states (Some n) tapes met = elim (cases_Bool (nat_lt (finished_by found n.agent) n.count)) [
  | inl less ↦
      (let kept = ap (unmet_by without found) (cond-true (nat_lt (finished_by found n.agent) n.count) (Other n.agent n.count) Nothing less) in
      elim (cases_Bool (counts without found n.agent)) [
        | inl right ↦
            (let parts = counted without found n.agent right in
            let same = finished-as without found states n.agent tapes parts.0 parts.1 in
            absurd (let bad : finished_by found n.agent < n.count = grind (arith, nat_tests, less) in omega (arith, same, bad, met)))
        | inr wrong ↦ kept ∙ cond-false (counts without found n.agent) (Some (record { agent = n.agent; count = n.count })) None wrong
      ])
  | inr enough ↦ ap (unmet_by without found) (cond-false (nat_lt (finished_by found n.agent) n.count) (Other n.agent n.count) Nothing enough)
]

-- where each move up to some one has its need met, the drive is among the places
pub near : (tt : Timetable) (found : List Found) (states : ℕ → State) (i last : ℕ) (track : Track) (c : Cell) (reached : ℕ → ℕ)
    → AreTapesOf None found states → track_of tt i ≡ Some track → IsFurthest tt found i track last
    → ((k : ℕ) → k < reached i → IsMet (λ j. finished_moves (states j)) (need tt i track k))
    → MayBeIn tt reached (λ j. finished_moves (states j)) i c
    → (n : ℕ) × (finished_by found i ≤ n) × (n ≤ last) × (path_cell track n ≡ c)
near tt found states i last track c reached tapes there furthest met may =
    let same : may.0 ≡ track = same_Some may.0 track (sym may.2 ∙ there) in
    let n = may.1 in
    let inside : n < length (path track) = subst (λ t. n < length (path t)) same may.3 in
    let long = length-path track.start track.later in
    let most = finished-most found states i tapes in
    let from = may.5 in
    let to = may.6 in
    let first : finished_by found i ≤ n = omega (arith, most, from) in
    let within : n ≤ last = elim (cases_lt last n) [
      | inl past ↦
          absurd (furthest.stops (omega (arith, past, inside, long)) (no-wait None found states (need tt i track last) tapes (met last (omega (arith, past, to)))))
      | inr before ↦ before
    ] in
    (n, first, within, subst (λ t. path_cell t n ≡ c) same may.4)
