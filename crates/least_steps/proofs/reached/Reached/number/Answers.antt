-- A mark that is so much greater than the base is of no walk.
use Rattle.std.proofs.Common.{◌∙◌, ℕ, ◌+◌, ◌<◌, length, arith, ap, subst, sym}
use Rattle.std.specs.Prelude.{None, slice_index_or}
use Rattle.std.proofs.lemmas.Option.{same_Some}
use Rattle.grid.specs.declared.cell.Cell.{Cell}
use Rattle.walks.specs.Walk.{IsOn}
use Rattle.least_steps.specs.Code.Exploring.{Comes, Exploration, IsNumberOf}
use Rattle.least_steps.specs.Code.Reaching.{IsFound, number_in}
use Rattle.least_steps.specs.Laws.Ways.{number-inside}
use Rattle.least_steps.proofs.ListLemmas.{read}
use Rattle.least_steps.proofs.reached.Reached.number.Goals as goal

pub returns-then-number-lt-NUMBER_LIMIT-clause-walks : goal.returns-then-number-lt-NUMBER_LIMIT-clause-walks
returns-then-number-lt-NUMBER_LIMIT-clause-walks c =
    subst (λ (e : Exploration). (d : Cell) (n : ℕ) → IsOn e.map d → IsNumberOf e d n → Comes e d n) c.self.view_is c.self.invariant.reached

pub returns-else-number-lt-NUMBER_LIMIT-clause-walks : goal.returns-else-number-lt-NUMBER_LIMIT-clause-walks
returns-else-number-lt-NUMBER_LIMIT-clause-walks c =
    subst (λ (e : Exploration). (d : Cell) (n : ℕ) → IsOn e.map d → IsNumberOf e d n → Comes e d n) c.self.view_is c.self.invariant.reached

pub returns-else-number-lt-NUMBER_LIMIT-clause-found : goal.returns-else-number-lt-NUMBER_LIMIT-clause-found
returns-else-number-lt-NUMBER_LIMIT-clause-found c =
    let r = c.self.inside in
    let m = r.map.now in
    let cell = c.args.cell in
    let mark = c.index.result.now in
    let on = subst (λ (e : Exploration). IsOn e.map cell) (sym c.self.view_is) c.requires in
    let within : number_in m cell < length r.marks.items = subst (λ n. number_in m cell < n) (sym c.self.invariant.cells) (number-inside m cell on) in
    let there = read r.marks.items (number_in m cell) mark mark within
    (c.index.ensures ∙ ap (λ i. slice_index_or r.marks.items i mark) c.number_of.ensures.number) in
    let past = c.if-number-lt-NUMBER_LIMIT.false in
    subst (λ (e : Exploration). IsFound e.map e.base e.marks cell None) c.self.view_is
    (λ n is. let same = same_Some mark (r.base + n) (sym there ∙ is.0) in let limit = is.1 in omega (arith, past, same, limit))
