-- The proof is read by where the agents go.
use Rattle.std.proofs.Common.{List, IfOk, subst}
use Rattle.optimality.specs.Judging.{BoundHolds}
use Rattle.optimality.specs.declared.constraint.Ends.{Ends}
use Rattle.proof_text.specs.ProofFault.{ProofFaultAt, proof_outcome}
use Rattle.proof_text.specs.ProofText.{ProofText}
use Rattle.ending.specs.Rewriting.{Reads}
use Rattle.proof_commands.proofs.optimal_command.read_claim.Goals as goal

pub returns-clause-reads : goal.returns-clause-reads
returns-clause-reads g c =
    let ReadsBy : List Ends → Type 0 = λ ends. Reads (ProofText c.args.on_map.now.map ends) (ProofFaultAt c.args.on_map.now.map ends) g.F.Read.remaining c.args.proof.now c.read_proof.new.reader
    (proof_outcome c.read_proof.result) in
    subst ReadsBy c.in_ok-ends.ensures c.read_proof.ensures.reads

pub returns-clause-holds : goal.returns-clause-holds
returns-clause-holds g c =
    let Holds : List Ends → Type 0 = λ ends. IfOk c.read_proof.result (λ claim. BoundHolds c.args.on_map.now.map ends claim.objective claim.bound) in
    subst Holds c.in_ok-ends.ensures c.read_proof.ensures.holds
