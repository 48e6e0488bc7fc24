-- The agents under way from one block of steps to the next, until none is.
use Rattle.std.proofs.Common.{◌≡◌, ℕ, ◌+◌, ◌-◌, ◌<◌, ◌⊎◌, List, [], length, true, arith, sym, ap, subst, inl, inr, ◌∙◌}
use Rattle.std.specs.Prelude.{slice_get}
use Rattle.std.proofs.lemmas.Bool.{cases_Bool}
use Rattle.std.proofs.lemmas.Option.{slice_get_within}
use Rattle.grid.specs.Map.{Grid}
use Rattle.model.specs.Plan.{Course, Plan, position_at, IsValid}
use Rattle.checker.specs.declared.board.Square.{Square}
use Rattle.checker.specs.declared.crowd.Walker.{Walker}
use Rattle.checker.specs.Code.Walking.{has_act}
use Rattle.plan_text.specs.Limits.{IsPlan}
use Rattle.checker.specs.Code.Blocks.{block_steps, HoldsSquares, IsLinedUp}
use Rattle.checker.specs.Code.Squares.{ground_in, square_at, place_on, IsOpen, IsSquareOf}
use Rattle.checker.specs.Code.Crowd.{walker_at}
use Rattle.checker.specs.Code.UnderWay.{IsWalker, AreWalkers, AreUnderWay}
use Rattle.checker.specs.Code.Watching.{IsClean, AreSameAgents}
use Rattle.checker.specs.Laws.Walking.{has_act-over, step_limit}
use Rattle.checker.proofs.FaultLemmas.{valid_at_end}
use Rattle.checker.proofs.RowLemmas.{held_or_kept}

-- those without an act hold their squares, and the others are lined up
pub block-begun : (m : Grid) (courses : List Course) (step : ℕ) (old new : List Walker) (squares after : List Square) → AreUnderWay m courses step old squares
    → HoldsSquares courses step old squares after → IsLinedUp courses step old new → AreUnderWay m courses step new after
block-begun m courses step old new squares after now held lined = record {
  board = record {
    size = held.count ∙ now.board.size;
    cells = λ place may_go. elim (held_or_kept courses step old squares after held place) [
      | inl is ↦ absurd (elim may_go [ inl e ↦ omega (arith, is, e) | inr e ↦ omega (arith, is, e) ])
      | inr same ↦ subst (IsSquareOf m place) (sym same) (now.board.cells place (subst IsOpen same may_go))
    ];
  };
  walkers_are = λ k less. (let from = lined.each k less in subst (IsWalker m courses step) (sym from.2) (now.walkers_are from.0 from.1));
  agents = λ i course there. elim (now.agents i course there) [
    | inl (j, less, is) ↦ elim (cases_Bool (has_act courses step (walker_at old j).agent)) [
      | inl acts ↦ (let to = lined.all j less acts in inl (to.0, to.1, ap (λ w. w.agent) to.2 ∙ is))
      | inr none ↦ (
          let w = now.walkers_are j less in
          let same : w.course ≡ course = (let a = w.is_agent in let b = ap (slice_get courses) is in cc) in
          inr (record {
            over = has_act-over courses step (walker_at old j).agent course none (ap (slice_get courses) is ∙ there);
            cell = w.cell;
            at = w.at ∙ ap (λ c. position_at c step) same;
            held = ap (λ place. ground_in (square_at after place)) (sym w.place) ∙ (held.held j less none).ground;
          })
          )
    ]
    | inr rest ↦ inr (record {
      over = rest.over;
      cell = rest.cell;
      at = rest.at;
      held = elim (held_or_kept courses step old squares after held (place_on m rest.cell)) [ inl is ↦ is | inr same ↦ same ∙ rest.held ];
    })
  ];
}

-- ---- all acts are over

pub none_under_way : (m : Grid) (p : Plan) (step : ℕ) (squares : List Square) → AreUnderWay m p.courses step [] squares → IsClean m p (step + 1) → IsValid m p
none_under_way m p step squares now clean = valid_at_end m p step
    (λ i course there. elim (now.agents i course there) [
      | inl among ↦ (let less = among.1 in absurd (omega (arith, less)))
      | inr rest ↦ rest.over
    ]) clean

-- ---- one block after another

-- those under way had an act when the block before began
abbrev pub AreRecent : List Course → ℕ → List Walker → Type 0
AreRecent courses step walkers =
    (k : ℕ) → k < length walkers → (step ≡ 0) ⊎ (has_act courses (step - block_steps) (walker_at walkers k).agent ≡ true)

-- where some agent is under way, the step is one that a plan may have, or one of the block after
pub step_bound : (m : Grid) (p : Plan) (step : ℕ) (walkers : List Walker) → IsPlan p → AreWalkers m p.courses step walkers → AreRecent p.courses step walkers
    → 0 < length walkers → step < 65536 + block_steps
step_bound m p step walkers within are recent some = elim (recent 0 some) [
  | inl first ↦ omega (arith, first)
  | inr acts ↦ (
      let w = are 0 some in
      let less = step_limit p (step - block_steps) (walker_at walkers 0).agent w.course within acts w.is_agent in
      omega (arith, less)
      )
]

pub recent-after : (courses : List Course) (step : ℕ) (old lined new : List Walker) → IsLinedUp courses step old lined → AreSameAgents lined new
    → AreRecent courses (step + block_steps) new
recent-after courses step old lined new h same k less =
    let count = same.count in
    let before : k < length lined = omega (arith, less, count) in
    let from = h.each k before in
    inr (subst (λ t. has_act courses t (walker_at new k).agent ≡ true) (omega arith)
    (ap (has_act courses step) (same.each k before) ∙ from.3))

pub are_agents : (m : Grid) (courses : List Course) (step : ℕ) (old lined : List Walker) → AreWalkers m courses step old → IsLinedUp courses step old lined
    → (k : ℕ) → k < length lined → (walker_at lined k).agent < length courses
are_agents m courses step old lined are h k less =
    let from = h.each k less in
    let w = are from.0 from.1 in
    let is_agent = slice_get_within courses (walker_at old from.0).agent w.course w.is_agent in
    let same = ap (λ w. w.agent) from.2 in
    omega (arith, is_agent, same)
