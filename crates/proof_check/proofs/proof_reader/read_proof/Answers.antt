use Rattle.proof_check.proofs.ReadingLemmas.{bound_read}
use Rattle.proof_check.proofs.proof_reader.read_proof.Goals as goal

pub returns-clause-holds : goal.returns-clause-holds
returns-clause-holds g c = bound_read c.proofs_hold.ensures c.args.map.now c.args.ends.items _ _ _ _ c.read_lines.result c.read_lines.ensures.reads
