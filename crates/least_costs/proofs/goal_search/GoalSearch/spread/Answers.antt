-- Each step to the cell comes from a side that was reached.
use Rattle.std.proofs.Common.{◌≡◌, ◌∙◌, ℕ, ◌+◌, ◌≤◌, inl, inr, arith, sym, subst}
use Rattle.grid.specs.declared.cell.Cell.{Cell}
use Rattle.least_costs.specs.Code.Marks.{mark_at}
use Rattle.least_costs.proofs.LegalLemmas.{step_back, way_of}
use Rattle.least_costs.proofs.GoalSearchLemmas.{beyond_on, lowers_on}
use Rattle.least_costs.proofs.goal_search.GoalSearch.spread.Goals as goal

at_most : (i j k : ℕ) → i ≤ j → j ≤ k → i ≤ k
at_most i j k h l = omega (arith, h, l)

pub returns-in_err-reach-clause-search : goal.returns-in_err-reach-clause-search
returns-in_err-reach-clause-search c = c.reach.ensures.search c.args.legal.now c.requires.search

pub returns-in_err-reach-2-clause-search : goal.returns-in_err-reach-2-clause-search
returns-in_err-reach-2-clause-search c = c.reach-2.ensures.search c.args.legal.now (c.reach.ensures.search c.args.legal.now c.requires.search)

pub returns-in_err-reach-2-clause-beyond : goal.returns-in_err-reach-2-clause-beyond
returns-in_err-reach-2-clause-beyond c = beyond_on c.args.self.now c.reach.new.self c.reach-2.new.self c.reach.ensures.beyond c.reach-2.ensures.beyond

pub returns-in_err-reach-3-clause-search : goal.returns-in_err-reach-3-clause-search
returns-in_err-reach-3-clause-search c =
    let m = c.args.legal.now in
    c.reach-3.ensures.search m (c.reach-2.ensures.search m (c.reach.ensures.search m c.requires.search))

pub returns-in_err-reach-3-clause-beyond : goal.returns-in_err-reach-3-clause-beyond
returns-in_err-reach-3-clause-beyond c =
    let s0 = c.args.self.now in
    let s3 = c.reach-3.new.self in
    beyond_on s0 c.reach.new.self s3 c.reach.ensures.beyond (beyond_on c.reach.new.self c.reach-2.new.self s3 c.reach-2.ensures.beyond c.reach-3.ensures.beyond)

pub returns-in_err-reach-4-clause-search : goal.returns-in_err-reach-4-clause-search
returns-in_err-reach-4-clause-search c =
    let m = c.args.legal.now in
    c.reach-4.ensures.search m (c.reach-3.ensures.search m (c.reach-2.ensures.search m (c.reach.ensures.search m c.requires.search)))

pub returns-in_err-reach-4-clause-beyond : goal.returns-in_err-reach-4-clause-beyond
returns-in_err-reach-4-clause-beyond c =
    let s0 = c.args.self.now in
    let s4 = c.reach-4.new.self in
    beyond_on s0 c.reach.new.self s4 c.reach.ensures.beyond
    (beyond_on c.reach.new.self c.reach-2.new.self s4 c.reach-2.ensures.beyond (beyond_on c.reach-2.new.self c.reach-3.new.self s4 c.reach-3.ensures.beyond c.reach-4.ensures.beyond))

pub returns-clause-search : goal.returns-clause-search
returns-clause-search c =
    let m = c.args.legal.now in
    c.reach-4.ensures.search m (c.reach-3.ensures.search m (c.reach-2.ensures.search m (c.reach.ensures.search m c.requires.search)))

pub returns-clause-beyond : goal.returns-clause-beyond
returns-clause-beyond c =
    let s0 = c.args.self.now in
    let s4 = c.reach-4.new.self in
    beyond_on s0 c.reach.new.self s4 c.reach.ensures.beyond
    (beyond_on c.reach.new.self c.reach-2.new.self s4 c.reach-2.ensures.beyond (beyond_on c.reach-2.new.self c.reach-3.new.self s4 c.reach-3.ensures.beyond c.reach-4.ensures.beyond))

pub returns-clause-spread : goal.returns-clause-spread
returns-clause-spread c = λ v step.
    let m = c.args.legal.now in
    let cell = c.args.waiting.cell in
    let steps = c.args.waiting.steps in
    let more = c.saturating_add-steps.result in
    let m0 = c.args.self.now.marks in
    let m1 = c.reach.new.self.marks in
    let m2 = c.reach-2.new.self.marks in
    let m3 = c.reach-3.new.self.marks in
    let m4 = c.reach-4.new.self.marks in
    let sides = c.sides_of-sides.result in
    let from3 = c.reach-4.ensures.lowers in
    let from2 = lowers_on more m2 m3 m4 c.reach-3.ensures.lowers from3 in
    let from1 = lowers_on more m1 m2 m4 c.reach-2.ensures.lowers from2 in
    let from0 = lowers_on more m0 m1 m4 c.reach.ensures.lowers from1 in
    let less : steps ≤ more = omega (arith, c.saturating_add-steps.ensures) in
    let one : more ≤ steps + 1 = omega (arith, c.saturating_add-steps.ensures) in
    let few : mark_at m0 cell ≤ more = subst (λ k. k ≤ more) (sym c.requires.mark) less in
    let was : mark_at m4 cell ≡ steps = from0.same cell few ∙ c.requires.mark in
    let within : (u : Cell) (k : ℕ) → mark_at m4 u ≤ k → k ≤ more → mark_at m4 u ≤ mark_at m4 cell + 1 =
    λ u k first second. subst (λ n. mark_at m4 u ≤ n + 1) (sym was) (at_most (mark_at m4 u) more (steps + 1) (at_most (mark_at m4 u) k more first second) one) in
    elim (way_of m cell sides c.from-ways.result
    (record {
      north = c.sides_of-sides.ensures.north;
      west = c.sides_of-sides.ensures.west;
      south = c.sides_of-sides.ensures.south;
      east = c.sides_of-sides.ensures.east;
    })
    c.from-ways.ensures v (step_back m v cell step)) [
      | inl north ↦ subst (λ w. mark_at m4 w ≤ mark_at m4 cell + 1) (sym north.0)
          (within sides.north (mark_at m1 sides.north) (from1.less sides.north) (c.in_ok-reach.ensures.reached north.1))
      | inr (inl south) ↦ subst (λ w. mark_at m4 w ≤ mark_at m4 cell + 1) (sym south.0)
          (within sides.south (mark_at m2 sides.south) (from2.less sides.south) (c.in_ok-reach-2.ensures.reached south.1))
      | inr (inr (inl west)) ↦ subst (λ w. mark_at m4 w ≤ mark_at m4 cell + 1) (sym west.0)
          (within sides.west (mark_at m3 sides.west) (from3.less sides.west) (c.in_ok-reach-3.ensures.reached west.1))
      | inr (inr (inr east)) ↦ subst (λ w. mark_at m4 w ≤ mark_at m4 cell + 1) (sym east.0)
          (within sides.east (mark_at m4 sides.east) (omega arith) (c.in_ok-reach-4.ensures.reached east.1))
    ]
