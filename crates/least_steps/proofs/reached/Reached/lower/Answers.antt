-- The cell has a lesser number, and no other cell another.
use Rattle.std.proofs.Common.{◌≡◌, ◌+◌, subst, sym}
use Rattle.std.specs.Prelude.{slice_set}
use Rattle.least_steps.specs.Code.Exploring.{Comes, Exploration, IsExploration, Lowers}
use Rattle.least_steps.specs.Code.Reaching.{IsAbove, number_in}
use Rattle.least_steps.specs.Laws.Ways.{end-on}
use Rattle.least_steps.proofs.ExplorationLemmas.{lowered, lowers}
use Rattle.least_steps.proofs.reached.Reached.lower.Goals as goal

pub invariant_of-self : goal.invariant_of-self
invariant_of-self c =
    let r = c.self.inside in
    let m = r.map.now in
    let cell = c.args.cell in
    let n = c.args.number in
    let comes = subst (λ (e : Exploration). Comes e cell n) (sym c.self.view_is) c.requires.comes in
    let at = subst (λ (e : Exploration). c.args.at ≡ number_in e.map cell) (sym c.self.view_is) c.requires.at in
    let above = subst (λ (e : Exploration). IsAbove e.map e.base e.marks cell n) (sym c.self.view_is) c.requires.above in
    subst (λ i. IsExploration m r.aslant r.start r.base (slice_set r.marks.items i (r.base + n)) r.legal.items) (sym at)
    (lowered m r.aslant r.start r.base r.marks.items r.legal.items c.self.invariant cell n (end-on m r.aslant r.start cell n comes) comes c.requires.limit above)

pub returns : goal.returns
returns c =
    let r = c.self.inside in
    let m = r.map.now in
    let cell = c.args.cell in
    let n = c.args.number in
    let comes = subst (λ (e : Exploration). Comes e cell n) (sym c.self.view_is) c.requires.comes in
    let at = subst (λ (e : Exploration). c.args.at ≡ number_in e.map cell) (sym c.self.view_is) c.requires.at in
    let above = subst (λ (e : Exploration). IsAbove e.map e.base e.marks cell n) (sym c.self.view_is) c.requires.above in
    subst (λ e. Lowers e (record { map = m; aslant = r.aslant; start = r.start; base = r.base; marks = slice_set r.marks.items c.args.at (r.base + n) }) cell n)
    c.self.view_is
    (subst (λ i. Lowers (record { map = m; aslant = r.aslant; start = r.start; base = r.base; marks = r.marks.items })
    (record { map = m; aslant = r.aslant; start = r.start; base = r.base; marks = slice_set r.marks.items i (r.base + n) }) cell n) (sym at)
    (lowers m r.aslant r.start r.base r.marks.items r.legal.items c.self.invariant cell n (end-on m r.aslant r.start cell n comes) comes c.requires.limit above))
