-- Bad moves of single agents, and plans without them.
use Rattle.std.proofs.Common.{◌≡◌, ℕ, ◌+◌, ◌<◌, ◌≤◌, ◌⊎◌, List, length, Option, None, Some, arith, sym, ap, subst, inl, inr, ◌∙◌}
use Rattle.std.specs.Prelude.{MatchOption, nat_lt, slice_get}
use Rattle.std.proofs.lemmas.Bool.{cases_lt, cond_both, ltb-true, ltb-false}
use Rattle.grid.specs.Map.{Grid, IsSize}
use Rattle.model.specs.Plan.{Course, IsBadMove}
use Rattle.model.specs.Timetable.{cell_after}
use Rattle.model.specs.Laws.Places.{same_place}
use Rattle.plan_text.specs.Limits.{most_acts}
use Rattle.checker.specs.Moving.{KeepsToGround, KeepToGround}
use Rattle.checker.specs.Code.Tracks.{cells_along}
use Rattle.checker.specs.Code.Walking.{HasBadMove, IsFirst}
use Rattle.checker.specs.Laws.Courses.{Stays, along-places}
use Rattle.checker.specs.Laws.Walking.{bad_at, course_from}
use Rattle.plan_commands.specs.Code.Straying.{AllHaveFewActs, GoesItsWay, IsFirstMove, IsLeastMove, sooner_of}
use Rattle.plan_commands.specs.declared.straying.BadMove.{BadMove}

-- ---- one agent

pub goes_its_way : (m : Grid) (course : Course) → IsSize m.width m.height → length course.acts ≤ most_acts → KeepsToGround m course → GoesItsWay m course
goes_its_way m course size few kept =
    let at = kept.cells in
    let stays : Stays course.start course.acts = λ t. ((at t).0, (at t).1) in
    let places = along-places course.start course.acts stays in
    let same : (t : ℕ) → cell_after course.start (cells_along course.start course.acts) t ≡ (at t).0
    = λ t. same_place (cell_after course.start (cells_along course.start course.acts) t) (at t).0 (places t ∙ sym (at t).1) in
    let width = size.width_limit in
    let height = size.height_limit in
    record {
      good = kept.good;
      walked = record {
        in_range = λ t. subst (λ c. (c.x < 65536) × (c.y < 65536)) (sym (same t))
            (let column = (at t).2.column in let row = (at t).2.row in (omega (arith, column, width), omega (arith, row, height)));
        places = places;
        few = few;
      };
    }

-- ---- all agents

-- agents that keep to their ground have no bad move
pub none_strays : (m : Grid) (courses : List Course) (agents : ℕ) → IsSize m.width m.height → AllHaveFewActs courses → KeepToGround m courses
    → IsLeastMove m courses agents None
none_strays m courses agents size few keep agent course less there = goes_its_way m course size (few agent course there) (keep agent course there)

not_sooner : (m : Grid) (course : Course) (s step : ℕ) → IsFirst (IsBadMove m course) s → IsBadMove m course step → s ≤ step
not_sooner m course s step first bad = elim (cases_lt step s) [
  | inl less ↦ absurd (first.first step less bad)
  | inr most ↦ most
]

-- an agent before, or the last one
before_or_last : (i agents : ℕ) → i < agents + 1 → (i < agents) ⊎ (i ≡ agents)
before_or_last i agents less = elim (cases_lt i agents) [ inl before ↦ inl before | inr last ↦ inr (omega (arith, less, last)) ]

-- the bad moves of the agent are those of its course
module _ (m : Grid) (courses : List Course) (agents : ℕ) (course : Course) (there : slice_get courses agents ≡ Some course) where
  own : (i step : ℕ) → i ≡ agents → HasBadMove m courses step i → IsBadMove m course step
  own i step same has =
      let k = course_from m courses step i has in
      let is : k.0 ≡ course = (let both : Some k.0 ≡ Some course = sym k.1 ∙ ap (slice_get courses) same ∙ there in cc) in
      subst (λ c. IsBadMove m c step) is k.2

  -- the first of its bad moves is the first of all, if those before have none or later ones
  is_new_first : (s : ℕ) → IsFirst (IsBadMove m course) s → ((i step : ℕ) → i < agents → HasBadMove m courses step i → s < step)
      → IsFirstMove m courses (agents + 1) (record { agent = agents; step = s })
  is_new_first s first later = record {
    is_one = bad_at m courses s agents course there first.is_one;
    before = omega arith;
    first = λ i step less has. elim (before_or_last i agents less) [
      | inl before ↦ inl (later i step before has)
      | inr last ↦ (let most = not_sooner m course s step first (own i step last has) in
          elim (cases_lt s step) [ inl sooner ↦ inl sooner | inr past ↦ inr (omega (arith, most, past), omega (arith, last)) ])
    ];
  }

  keeps_first : (bad : BadMove) → IsFirstMove m courses agents bad → ((step : ℕ) → IsBadMove m course step → bad.step ≤ step)
      → IsFirstMove m courses (agents + 1) bad
  keeps_first bad h own_later =
      let before = h.before in
      record {
        is_one = h.is_one;
        before = omega (arith, before);
        first = λ i step less has. elim (before_or_last i agents less) [
          | inl earlier ↦ h.first i step earlier has
          | inr last ↦ (let most = own_later step (own i step last has) in
              elim (cases_lt bad.step step) [ inl sooner ↦ inl sooner | inr past ↦ inr (omega (arith, most, past), omega (arith, last, before)) ])
        ];
      }

  pub least_more : (first : Option BadMove) (answer : Option ℕ) → IsLeastMove m courses agents first
      → MatchOption answer (GoesItsWay m course) (IsFirst (IsBadMove m course)) → IsLeastMove m courses (agents + 1) (sooner_of first agents answer)
  least_more None None h goes = λ i other less is. elim (before_or_last i agents less) [
    | inl before ↦ h i other before is
    | inr last ↦ (let same : course ≡ other = (let both : Some course ≡ Some other = sym there ∙ ap (slice_get courses) (sym last) ∙ is in cc) in
        subst (GoesItsWay m) same goes)
  ]
  least_more (Some bad) None h goes = keeps_first bad h (λ step is. absurd (goes.good step is))
  least_more None (Some s) h first = is_new_first s first (λ i step less has.
      let k = course_from m courses step i has in absurd ((h i k.0 less k.1).good step k.2))
  least_more (Some bad) (Some s) h first =
      cond_both (nat_lt s bad.step) (Some (record { agent = agents; step = s })) (Some bad) (IsLeastMove m courses (agents + 1))
      (λ e. let less = ltb-true s bad.step e in is_new_first s first (λ i step before has. elim (h.first i step before has) [
        | inl later ↦ omega (arith, less, later)
        | inr same ↦ (let at = same.0 in omega (arith, less, at))
      ]))
      (λ e. let most = ltb-false s bad.step e in keeps_first bad h (λ step is. let after = not_sooner m course s step first is in omega (arith, most, after)))
