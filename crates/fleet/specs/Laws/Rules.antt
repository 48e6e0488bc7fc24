-- What an agent refuses is what the rules refuse, where the agent stands at a run.
use Rattle.std.proofs.Common.{◌≡◌, ℕ, ◌+◌, ◌*◌, ◌/◌, ◌%◌, ◌≤◌, nat_lt, Bool, true}
use Rattle.std.proofs.Common.{false, Some, None, inl, inr, refl, sym, ap, ◌∙◌, arith}
use Rattle.std.specs.Prelude.{◌==◌, Option, if◌then◌else◌}
use Rattle.std.proofs.Math.Nat.{mul-div_cancel_left, mul-add-mod_self_left}
use Rattle.std.proofs.lemmas.Nat.{div-mul-add}
use Rattle.std.proofs.lemmas.Bool.{cases_lt, eq-eqb, ne_eqb}
use Rattle.model.specs.declared.held.Held.{Held}
use Rattle.model.specs.declared.held.Held.TheVariants.{At, Between}
use Rattle.model.specs.declared.version.Version.{Version}
use Rattle.model.specs.Dependency.{Need, need}
use Rattle.model.specs.History as history
use Rattle.model.specs.History.{Answer, History, refused, moving, arrived}
use Rattle.model.specs.History.{armed_of, kept_starts, done, is_moving, known}
use Rattle.model.specs.Rules.{path_cell, stored, unless_waiting, start_answer}
use Rattle.model.specs.Rules.{finish_answer, restart_answer, IsRun}
use Rattle.model.specs.Safety.{held}
use Rattle.model.specs.Timetable.{Track, Timetable, moves}
use Rattle.model.specs.Laws.Runs.{in_step}
use Rattle.agent.specs.Counters.{known_in}
use Rattle.agent.specs.States as states
use Rattle.agent.specs.States.{State, waits_for, start_refusal}
use Rattle.agent.specs.States.{finish_refusal, next_cell, held_by_tape}
use Rattle.agent.specs.declared.refusal.Refusal.{Refusal}
use Rattle.agent.specs.declared.refusal.Refusal.TheVariants.{Broken, AlreadyMoving, AtEnd}
use Rattle.agent.specs.declared.refusal.Refusal.TheVariants.{Waits, NotMoving}
use Rattle.agent.specs.Replies.{why_of, unless, stood}
use Rattle.fleet.specs.Members.{IsLeftBy}

-- ---- records as moves

-- of as many begun moves as finished ones, or one more, the half is what is finished
half : (k d : ℕ) → d ≤ k → k ≤ d + 1 → (k + d) / 2 ≡ d
half k d low high = elim (cases_lt d k) [
  | inl more ↦ (let odd : k + d ≡ d * 2 + 1 = omega (arith, more, high) in
      ap (λ n. n / 2) odd ∙ div-mul-add d 2 1 (omega arith))
  | inr level ↦ (let even : k + d ≡ 2 * d = omega (arith, level, low) in
      ap (λ n. n / 2) even ∙ mul-div_cancel_left d (omega arith))
]

odd-is : (k d : ℕ) → d ≤ k → k ≤ d + 1 → ((k + d) % 2 == 1) ≡ (k == d + 1)
odd-is k d low high = elim (cases_lt d k) [
  | inl more ↦ (
      let odd : k + d ≡ 2 * d + 1 = omega (arith, more, high) in
      let next : k ≡ d + 1 = omega (arith, more, high) in
      ap (λ n. n % 2 == 1) odd ∙ ap (λ n. n == 1) (mul-add-mod_self_left 2 d 1)
      ∙ sym (eq-eqb k (d + 1) next)
      )
  | inr level ↦ (
      let even : k + d ≡ 2 * d + 0 = omega (arith, level, low) in
      ap (λ n. n % 2 == 1) even ∙ ap (λ n. n == 1) (mul-add-mod_self_left 2 d 0)
      ∙ sym (ne_eqb k (d + 1) (λ same. omega (arith, level, same)))
      )
]

-- ---- refusals

-- a test that refuses
by_test : (b : Bool) (w : Refusal) (o : Option Refusal) (r rest : Answer) → rest ≡ unless o r
    → (if b then refused (why_of w) else rest) ≡ unless (if b then Some w else o) r
by_test true w o r rest same = refl
by_test false w o r rest same = same

unless_test : (m : Bool) (w : Refusal) (r : Answer) → (if m then r else refused (why_of w))
    ≡ unless (if m then None else Some w) r
unless_test true w r = refl
unless_test false w r = refl

-- the rules by what they test
abbrev start_by : Version → Timetable → History → ℕ → Track → Bool → Bool → ℕ → Answer
start_by v table h i track b m k =
    if b then refused (why_of Broken)
    else (if m then refused (why_of AlreadyMoving)
    else (if k == moves track then refused (why_of AtEnd)
    else unless_waiting (known v table h i) (need table i track k)
    (stored (armed_of h i) (moving (path_cell track (k + 1))))))

abbrev finish_by : History → ℕ → Track → Bool → Bool → ℕ → Answer
finish_by h i track b m k =
    if b then refused (why_of Broken) else
    (if m then stored (armed_of h i) (arrived (path_cell track (k + 1))) else refused
    (why_of NotMoving))

module _ (v : Version) (table : Timetable) (h : History) (run : IsRun v table h) (i : ℕ)
    (track : Track) (s : State) (is : IsLeftBy v table h i s) where
  step : (done h i ≤ kept_starts h i) × (kept_starts h i ≤ done h i + 1)
  step = in_step v table h i run

  pub done-is : states.finished_moves s ≡ done h i
  done-is = ap (λ n. n / 2) is.records ∙ half (kept_starts h i) (done h i) step.0 step.1

  pub moving-is : states.is_on_the_way s ≡ is_moving h i
  moving-is = ap (λ n. n % 2 == 1) is.records ∙ odd-is (kept_starts h i) (done h i) step.0 step.1

  waits-is : (o : Option Need) (r : Answer) → unless_waiting (known v table h i) o r
      ≡ unless (waits_for s.heard o) r
  waits-is None r = refl
  waits-is (Some n) r =
      ap (λ k. if nat_lt k n.count then refused (why_of (Waits n.agent n.count)) else r)
      (sym (is.heard n.agent))
      ∙ by_test (nat_lt (known_in s.heard n.agent) n.count) (Waits n.agent n.count) None r r refl

  -- what the rules answer to a start
  pub start-rule : start_answer v table h i track ≡ unless (start_refusal table i track s)
      (stored (armed_of h i) (moving (next_cell track s)))
  start-rule =
      ap (λ b. start_by v table h i track b (is_moving h i) (done h i)) (sym is.broken)
      ∙ ap (λ m. start_by v table h i track s.broken m (done h i)) (sym moving-is)
      ∙ ap (λ k. start_by v table h i track s.broken (states.is_on_the_way s) k) (sym done-is)
      ∙ by_test s.broken Broken _ _ _
      (by_test (states.is_on_the_way s) AlreadyMoving _ _ _
      (by_test (states.finished_moves s == moves track) AtEnd _ _ _
      (waits-is (need table i track (states.finished_moves s)) _)))

  -- what they answer to a finish
  pub finish-rule : finish_answer h i track ≡ unless (finish_refusal s)
      (stored (armed_of h i) (arrived (next_cell track s)))
  finish-rule =
      ap (λ b. finish_by h i track b (is_moving h i) (done h i)) (sym is.broken)
      ∙ ap (λ m. finish_by h i track s.broken m (done h i)) (sym moving-is)
      ∙ ap (λ k. finish_by h i track s.broken (states.is_on_the_way s) k) (sym done-is)
      ∙ by_test s.broken Broken _ _ _ (unless_test (states.is_on_the_way s) NotMoving _)

  -- ---- what the agent holds

  pub held-is : held_by_tape track s ≡ held track h i
  held-is =
      sym (ap (λ m. held_by m (done h i)) (sym moving-is) ∙ ap (held_by (states.is_on_the_way s))
      (sym done-is))
    where
      held_by : Bool → ℕ → Held
      held_by m k =
          if m then Between (path_cell track k) (path_cell track (k + 1)) else At
          (path_cell track k)

  -- what the rules answer to a restart
  pub restart-rule : restart_answer h i track ≡ stood (held_by_tape track s)
      (states.finished_moves s)
  restart-rule =
      ap (λ m. restart_by m (done h i)) (sym moving-is) ∙ ap (restart_by (states.is_on_the_way s))
      (sym done-is) ∙ by_moving (states.is_on_the_way s)
    where
      restart_by : Bool → ℕ → Answer
      restart_by m k =
          if m then history.between (path_cell track k) (path_cell track (k + 1)) k else history.at
          (path_cell track k) k

      by_moving : (m : Bool) → restart_by m (states.finished_moves s)
          ≡ stood (if m then Between (path_cell track (states.finished_moves s))
          (path_cell track (states.finished_moves s + 1)) else At
          (path_cell track (states.finished_moves s))) (states.finished_moves s)
      by_moving true = refl
      by_moving false = refl
