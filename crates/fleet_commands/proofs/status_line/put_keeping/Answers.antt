-- What is put says what keeps the agent.
use Rattle.std.proofs.Common.{◌∙◌, ◌++◌, ℕ, List, ap, ap₂, sym}
use Rattle.ending.specs.Laws.Pieces.{breaks_as, puts_as}
use Rattle.fleet_commands.specs.StatusText.{keeping_text}
use Rattle.fleet_commands.proofs.PieceLemmas.{made, two-pieces}
use Rattle.fleet_commands.proofs.status_line.put_keeping.Goals as goal

pub returns-in-OwnMove-clause-ok : goal.returns-in-OwnMove-clause-ok
returns-in-OwnMove-clause-ok g c =
    puts_as g.W.Write.contents _ _ c.put-in-OwnMove.result _ _ (c.said-in-OwnMove.ensures ∙ ap (keeping_text c.args.json) (sym c.in-OwnMove.is)) c.put-in-OwnMove.ensures.ok

pub returns-in-OwnMove-clause-err : goal.returns-in-OwnMove-clause-err
returns-in-OwnMove-clause-err g c =
    breaks_as g.W.Write.contents _ _ c.put-in-OwnMove.result _ _ (c.said-in-OwnMove.ensures ∙ ap (keeping_text c.args.json) (sym c.in-OwnMove.is)) c.put-in-OwnMove.ensures.err

pub returns-in-Nothing-clause-ok : goal.returns-in-Nothing-clause-ok
returns-in-Nothing-clause-ok g c =
    puts_as g.W.Write.contents _ _ c.put-in-Nothing.result _ _ (c.said-in-Nothing.ensures ∙ ap (keeping_text c.args.json) (sym c.in-Nothing.is)) c.put-in-Nothing.ensures.ok

pub returns-in-Nothing-clause-err : goal.returns-in-Nothing-clause-err
returns-in-Nothing-clause-err g c =
    breaks_as g.W.Write.contents _ _ c.put-in-Nothing.result _ _ (c.said-in-Nothing.ensures ∙ ap (keeping_text c.args.json) (sym c.in-Nothing.is)) c.put-in-Nothing.ensures.err

pub returns-in-Other-clause-ok : goal.returns-in-Other-clause-ok
returns-in-Other-clause-ok g c =
    let agent = made c.new-agent.result _ _ _ c.in-Other.agent c.new-agent.ensures c.said-head.ensures c.from.ensures in
    let until = made c.new.result _ _ _ c.in-Other.count c.new.ensures c.said-until.ensures c.from-in-Other.ensures in
    let is = ap₂ (λ (pieces end : List ℕ). pieces ++ end) (two-pieces c.new-agent.result c.new.result _ _ _ _ agent until) c.said-in-Other.ensures ∙ ap (keeping_text c.args.json) (sym c.in-Other.is)
    in
    puts_as g.W.Write.contents _ _ c.put_ended.result _ _ is c.put_ended.ensures.ok

pub returns-in-Other-clause-err : goal.returns-in-Other-clause-err
returns-in-Other-clause-err g c =
    let agent = made c.new-agent.result _ _ _ c.in-Other.agent c.new-agent.ensures c.said-head.ensures c.from.ensures in
    let until = made c.new.result _ _ _ c.in-Other.count c.new.ensures c.said-until.ensures c.from-in-Other.ensures in
    let is = ap₂ (λ (pieces end : List ℕ). pieces ++ end) (two-pieces c.new-agent.result c.new.result _ _ _ _ agent until) c.said-in-Other.ensures ∙ ap (keeping_text c.args.json) (sym c.in-Other.is)
    in
    breaks_as g.W.Write.contents _ _ c.put_ended.result _ _ is c.put_ended.ensures.err
