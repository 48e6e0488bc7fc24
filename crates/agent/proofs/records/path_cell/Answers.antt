use Rattle.std.proofs.Common.{sym, subst, ◌∙◌, refl, arith}
use Rattle.std.specs.Option.{IsSome}
use Rattle.std.proofs.lemmas.Option.{same_Some}
use Rattle.depgraph.specs.Laws.AgentParts.{cell-there}
use Rattle.agent.proofs.records.path_cell.Goals as goal

pub unwrap-requires : goal.unwrap-requires
unwrap-requires c =
    let of = c.cell.ensures.within in
    let within = c.requires in
    let count = of.2.need_count in
    subst IsSome (sym (c.cell.ensures.cell ∙ cell-there of.2.track _ c.args.index of.2.cells (omega (arith, within, count)))) refl

pub returns : goal.returns
returns c tt is =
    let within = c.requires in
    let count = is.need_count in
    same_Some _ _ (sym c.unwrap.ensures ∙ c.cell.ensures.cell ∙ cell-there is.track _ c.args.index is.cells (omega (arith, within, count)))
