-- Where the terrain doesn't join, only a wait leads on.
use Rattle.std.proofs.Common.{sym, ◌∙◌}
use Rattle.std.proofs.lemmas.Bool.{false≢true}
use Rattle.checker.specs.Laws.Walking.{leads-joined, leads-waiting, no_step}
use Rattle.checker.proofs.moving.moved.Goals as goal

pub returns-then-are_joined : goal.returns-then-are_joined
returns-then-are_joined c =
    leads-joined c.args.map.now c.args.from c.beside-to.result c.args.act c.width-width.ensures.map.size c.beside-to.ensures
    (c.are_joined.ensures.0 c.if-are_joined.true)

pub returns-in-Wait : goal.returns-in-Wait
returns-in-Wait c = leads-waiting c.args.map.now c.args.from c.beside-to.result c.args.act c.requires c.in-Wait.is c.beside-to.ensures

pub returns-in_default : goal.returns-in_default
returns-in_default c = (
  c.in_default.not-Wait,
  no_step c.args.map.now c.args.from c.beside-to.result c.args.act c.beside-to.ensures
      (λ joined. false≢true (sym c.if-are_joined.false ∙ c.are_joined.ensures.1 joined)),
)
