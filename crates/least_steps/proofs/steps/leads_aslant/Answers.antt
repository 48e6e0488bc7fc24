-- The straight steps beside it and its corner make a diagonal step.
use Rattle.least_steps.specs.Laws.Ways.{on_map}
use Rattle.least_steps.proofs.DiagonalLemmas.{aslant_step, corner_joined}
use Rattle.least_steps.proofs.steps.leads_aslant.Goals as goal

pub returns-then-column : goal.returns-then-column
returns-then-column c =
    let m = c.args.map.now in
    let both = c.if-column.true in (
      λ joined. aslant_step m c.args.from c.args.to (c.requires.row.0 both.0) (c.requires.column.0 both.1) (c.are_joined.ensures.0 joined),
      λ step. c.are_joined.ensures.1 (corner_joined m c.args.from c.args.to step),
    )

pub are_joined-requires : goal.are_joined-requires
are_joined-requires c = on_map c.args.map.now c.args.from c.requires.on
