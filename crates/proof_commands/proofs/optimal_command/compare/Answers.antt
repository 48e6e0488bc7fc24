-- The line says what the plan costs.
use Rattle.std.proofs.Common.{ℕ, subst}
use Rattle.ending.specs.Ending.{End, end_of}
use Rattle.ending.specs.Rewriting.{EndsByLine}
use Rattle.proof_commands.specs.ShownText.{claim_line}
use Rattle.proof_commands.proofs.optimal_command.compare.Goals as goal

pub returns : goal.returns
returns g c =
    let Ends : End → ℕ → Type 0 = λ success value. EndsByLine g.W.Write.contents c.args.out.now c.tell.new.out success (end_of c.tell.result)
    (claim_line c.args.json c.args.claim.objective value c.args.claim.bound c.args.claim.nodes) in
    let Success : End → Type 0 = λ success. Ends success c.value_of.result in
    let Value : ℕ → Type 0 = λ value. Ends _ value in
    subst Value c.value_of.ensures (subst Success c.answered_with-success.ensures c.tell.ensures)
