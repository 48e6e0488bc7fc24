-- The cell is that of the path.
use Rattle.std.proofs.Common.{◌∙◌, ap, arith, refl, subst, sym}
use Rattle.std.specs.Option.{IsSome}
use Rattle.std.proofs.lemmas.Option.{same_Some}
use Rattle.model.specs.History.{at}
use Rattle.depgraph.specs.Laws.AgentParts.{cell-there}
use Rattle.fleet_commands.proofs.lost_command.place.Goals as goal

pub unwrap-requires : goal.unwrap-requires
unwrap-requires c =
    let is = c.cell.ensures.within.2 in
    let count = is.need_count in
    let within = c.requires in
    subst IsSome (sym (c.cell.ensures.cell ∙ cell-there is.track _ c.args.number is.cells (omega (arith, within, count)))) refl

pub returns : goal.returns
returns c = λ table is.
    let count = is.need_count in
    let within = c.requires in
    let cell = same_Some _ _ (sym c.unwrap.ensures ∙ c.cell.ensures.cell ∙ cell-there is.track _ c.args.number is.cells (omega (arith, within, count))) in
    ap (λ cell. at cell c.args.number) cell
