-- The cells that are left stay within those that a map may have.
use Rattle.std.proofs.Common.{sym, subst}
use Rattle.checker.specs.Code.Tracks.{StaysInRange, MayGoOn}
use Rattle.checker.proofs.KeptLemmas.{first_in_range, in_range-next}
use Rattle.checker.proofs.cells.CellsIterator.next.Goals as goal

pub next_cell-requires-clause-column : goal.next_cell-requires-clause-column
next_cell-requires-clause-column c =
    (first_in_range c.in_ok-cell.cell c.in-Some.act.now c.in-Some.others.now
    (subst (StaysInRange c.in_ok-cell.cell) c.in-Some.ensures.cases.0 (subst (λ o. MayGoOn o c.self.inside.acts.now) c.in_ok-cell.was c.self.invariant))).0

pub next_cell-requires-clause-row : goal.next_cell-requires-clause-row
next_cell-requires-clause-row c =
    (first_in_range c.in_ok-cell.cell c.in-Some.act.now c.in-Some.others.now
    (subst (StaysInRange c.in_ok-cell.cell) c.in-Some.ensures.cases.0 (subst (λ o. MayGoOn o c.self.inside.acts.now) c.in_ok-cell.was c.self.invariant))).1

pub invariant_of-self : goal.invariant_of-self
invariant_of-self c =
    subst (λ d. StaysInRange d c.in-Some.others.now) (sym c.next_cell.ensures)
    (in_range-next c.in_ok-cell.cell c.in-Some.act.now c.in-Some.others.now
    (subst (StaysInRange c.in_ok-cell.cell) c.in-Some.ensures.cases.0 (subst (λ o. MayGoOn o c.self.inside.acts.now) c.in_ok-cell.was c.self.invariant)))
