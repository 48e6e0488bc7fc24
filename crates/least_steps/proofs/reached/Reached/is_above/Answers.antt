-- The mark is no greater, so a walk is known.
use Rattle.std.proofs.Common.{◌≡◌, ◌∙◌, ◌<◌, length, ap, subst, sym}
use Rattle.std.specs.Prelude.{slice_index_or}
use Rattle.walks.specs.Walk.{IsOn}
use Rattle.least_steps.specs.Code.Exploring.{Exploration, Has}
use Rattle.least_steps.specs.Code.Reaching.{number_in}
use Rattle.least_steps.specs.Laws.Ways.{number-inside}
use Rattle.least_steps.proofs.ExplorationLemmas.{not-above}
use Rattle.least_steps.proofs.ListLemmas.{read}
use Rattle.least_steps.proofs.reached.Reached.is_above.Goals as goal

pub returns-clause-no : goal.returns-clause-no
returns-clause-no c =
    let r = c.self.inside in
    let m = r.map.now in
    let cell = c.args.cell in
    let mark = c.index.result.now in
    let on = subst (λ (e : Exploration). IsOn e.map cell) (sym c.self.view_is) c.requires.on in
    let at = subst (λ (e : Exploration). c.args.at ≡ number_in e.map cell) (sym c.self.view_is) c.requires.at in
    let within : number_in m cell < length r.marks.items = subst (λ n. number_in m cell < n) (sym c.self.invariant.cells) (number-inside m cell on) in
    let there = read r.marks.items (number_in m cell) mark mark within
    (c.index.ensures ∙ ap (λ i. slice_index_or r.marks.items i mark) at) in
    λ no. subst (λ (e : Exploration). Has e cell c.args.number) c.self.view_is
    (not-above m r.base r.marks.items cell c.args.number mark c.requires.limit there (c.self.invariant.least (number_in m cell) mark there) no)
