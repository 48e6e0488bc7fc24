-- What holds of tapes where nothing shows that they are not those of one run.
use Rattle.std.proofs.Common.{◌≡◌, ◌∙◌, ℕ, zero, suc, ◌+◌, ◌*◌, ◌<◌, ◌≤◌, List, [], ◌∷◌, ◌++◌, length, true, false, Some, None, Ok, Err, inl, inr, refl, ap, sym, subst, arith, nat_lt}
use Rattle.std.specs.Prelude.{Option, option_map, unwrap_or, slice_get, is_some}
use Rattle.std.proofs.lemmas.Bool.{cases_Bool, cases_lt, cond-true, false≢true, not-false, true≢false}
use Rattle.std.proofs.lemmas.Bool.Decides.{nat_tests}
use Rattle.std.proofs.lemmas.Option.{none-some, slice_get_within}
use Rattle.model.specs.Dependency.{Need, IsMet, need}
use Rattle.model.specs.Safety.{HaveNeedsMet}
use Rattle.model.specs.Timetable.{Track, Timetable, moves, step_of, track_of}
use Rattle.depgraph.specs.Rotations.{Turn}
use Rattle.fleet_commands.specs.FoundTapes.{Found, AreWithinMoves, begun_by, begun_in_tape, finished_by, is_known, moves_in_tape}
use Rattle.fleet_commands.specs.HandoverCommand.{AreAllKnown}
use Rattle.fleet_commands.specs.OneRun.{counts, first_some, first_unmet, unmet_by, unmet_in}
use Rattle.fleet_commands.specs.Standing.{kept_by_need}
use Rattle.fleet_commands.specs.StatusText.{begun_line, run_lines, unmet_line, unmet_line_by}
use Rattle.fleet_commands.specs.Turns.{in_turn}
use Rattle.fleet_commands.specs.declared.keeping.Keeping.TheVariants.{Other}
use Rattle.fleet_commands.specs.declared.one_run.Unmet.{Unmet}
use Rattle.fleet_commands.proofs.LineLemmas.{turn-more}

pub both-empty : {A : Type 0} (xs ys : List A) → xs ++ ys ≡ [] → (xs ≡ []) × (ys ≡ [])
both-empty [] ys none = (refl, none)
both-empty (x ∷ xs) ys none = (let bad = ap length none in absurd (omega (arith, bad)))

-- what comes of all is nothing, so of each
none-in-turn : {A : Type 0} (f : ℕ → List A) (n k : ℕ) → k < n → in_turn f n ≡ [] → f k ≡ []
none-in-turn f zero k less none = absurd (omega (arith, less))
none-in-turn f (suc n) k less none =
    let same : n + 1 ≡ suc n = omega arith in
    let parts = both-empty (in_turn f n) (f n) (sym (turn-more f n) ∙ ap (in_turn f) same ∙ none) in
    elim (cases_lt k n) [
      | inl before ↦ none-in-turn f n k before parts.0
      | inr past ↦ subst (λ m. f m ≡ []) (omega (arith, less, past)) parts.1
    ]

both-none : (a b : Option Unmet) → first_some a b ≡ None → (a ≡ None) × (b ≡ None)
both-none None b none = (refl, none)
both-none (Some x) b none = absurd (none-some x (sym none))

none-first : (unmet : ℕ → Option Unmet) (n k : ℕ) → k < n → first_unmet unmet n ≡ None → unmet k ≡ None
none-first unmet zero k less none = absurd (omega (arith, less))
none-first unmet (suc n) k less none =
    let parts = both-none (first_unmet unmet n) (unmet n) none in
    elim (cases_lt k n) [
      | inl before ↦ none-first unmet n k before parts.0
      | inr past ↦ subst (λ m. unmet m ≡ None) (omega (arith, less, past)) parts.1
    ]

-- the first among more moves, where it is the last of these or there is none
pub none-more : (unmet : ℕ → Option Unmet) (n : ℕ) → first_unmet unmet n ≡ None → unmet n ≡ None → first_unmet unmet (n + 1) ≡ None
none-more unmet n before own =
    let same : n + 1 ≡ suc n = omega arith in
    ap (first_unmet unmet) same ∙ ap (λ o. first_some o (unmet n)) before ∙ own

some-first : (unmet : ℕ → Option Unmet) (n k : ℕ) (u : Unmet) → k < n → first_unmet unmet k ≡ None → unmet k ≡ Some u → first_unmet unmet n ≡ Some u
some-first unmet zero k u less none own = absurd (omega (arith, less))
some-first unmet (suc n) k u less none own = elim (cases_lt k n) [
  | inl before ↦ ap (λ o. first_some o (unmet n)) (some-first unmet n k u before none own)
  | inr past ↦
      (let here : k ≡ n = omega (arith, less, past) in
      ap (λ o. first_some o (unmet n)) (subst (λ m. first_unmet unmet m ≡ None) here none) ∙ subst (λ m. unmet m ≡ Some u) here own)
]

pub first-there : (unmet : ℕ → Option Unmet) (n k : ℕ) (o : Option Unmet) → k < n → first_unmet unmet k ≡ None → unmet k ≡ o → is_some o ≡ true → first_unmet unmet n ≡ o
first-there unmet n k None less none own some = absurd (false≢true some)
first-there unmet n k (Some u) less none own some = some-first unmet n k u less none own

pub none-there : (o : Option Unmet) → is_some o ≡ false → o ≡ None
none-there None none = refl
none-there (Some u) none = absurd (true≢false none)

no-line : (i : ℕ) (o : Option Unmet) → unmet_line_by i o ≡ [] → o ≡ None
no-line i None none = refl
no-line i (Some u) none = (let bad = ap length none in absurd (omega (arith, bad)))

-- a need is met of which nothing shows that it isn't, where the tape counts by which it would be
met-of : (found : List Found) (o : Option Need) → unmet_by None found (kept_by_need (finished_by found) o) ≡ None
    → ((n : Need) → o ≡ Some n → counts None found n.agent ≡ true) → IsMet (finished_by found) o
met-of found None none count = tt
met-of found (Some n) none count = elim (cases_Bool (nat_lt (finished_by found n.agent) n.count)) [
  | inl less ↦
      (let kept : kept_by_need (finished_by found) (Some n) ≡ Other n.agent n.count = cond-true _ _ _ less in
      let some = cond-true (counts None found n.agent) (Some (record { agent = n.agent; count = n.count })) None (count n refl) in
      absurd (none-some _ (sym none ∙ ap (unmet_by None found) kept ∙ some)))
  | inr enough ↦ grind (arith, nat_tests, enough)
]

begun-first : (o : Option Found) → unwrap_or (option_map moves_in_tape o) 0 ≤ unwrap_or (option_map begun_in_tape o) 0
begun-first None = omega arith
begun-first (Some (Ok records)) = omega arith
begun-first (Some (Err fault)) = omega arith

pub begun-within : (o : Option Found) (most : ℕ) → ((records : ℕ) → o ≡ Some (Ok records) → records ≤ 2 * most) → unwrap_or (option_map begun_in_tape o) 0 ≤ most
begun-within None most within = omega arith
begun-within (Some (Ok records)) most within = (let few = within records refl in omega (arith, few))
begun-within (Some (Err fault)) most within = omega arith

module _ (tt : Timetable) (turns : List Turn) (found : List Found) (all : length found ≡ length tt.tracks) (known : AreAllKnown None found) where
  all-count : (i : ℕ) (track : Track) → track_of tt i ≡ Some track → counts None found i ≡ true
  all-count i track there =
      let less = slice_get_within tt.tracks i track there in
      not-false (is_known found i) (known i (omega (arith, all, less)))

  pub needs-met : AreWithinMoves tt found → run_lines tt None turns found ≡ []
      → ((i k : ℕ) (track : Track) (asked : Need) → track_of tt i ≡ Some track → k < moves track → need tt i track k ≡ Some asked
      → (to : Track) × (last : ℕ) × (track_of tt asked.agent ≡ Some to) × (asked.count ≡ last + 1) × (last < moves to) × (step_of to last ≤ step_of track k))
      → HaveNeedsMet tt (begun_by found) (finished_by found)
  needs-met within none planned = record {
    order = λ i track there. begun-first (slice_get found i);
    met = λ i track k there less.
        let here = slice_get_within tt.tracks i track there in
        let lines = (both-empty (in_turn (unmet_line tt None found) (length tt.tracks)) (in_turn (begun_line tt None found turns) (length turns)) none).0 in
        let line = none-in-turn (unmet_line tt None found) (length tt.tracks) i here lines in
        let nothing : unmet_in tt None found i (Some track) ≡ None = ap (unmet_in tt None found i) (sym there) ∙ no-line i (unmet_in tt None found i (track_of tt i)) line in
        let first = sym (cond-true (counts None found i) (first_unmet (λ n. unmet_by None found (kept_by_need (finished_by found) (need tt i track n))) (begun_by found i)) None
        (all-count i track there)) ∙ nothing in
        let own = none-first (λ n. unmet_by None found (kept_by_need (finished_by found) (need tt i track n))) (begun_by found i) k less first in
        let few = begun-within (slice_get found i) (moves track) (λ records has. within i records track there has) in
        met-of found (need tt i track k) own (λ n is. (let to = planned i k track n there (omega (arith, less, few)) is in all-count n.agent to.0 to.2));
  }
