use Rattle.std.proofs.Common.{refl, arith}
use Rattle.proof_text.proofs.PartLemmas.{read_number, read_other}
use Rattle.proof_text.proofs.numbers.Numbers.add.Goals as goal

pub returns-in-Some : goal.returns-in-Some
returns-in-Some c = λ parts read.
    read_number c.args.self.now _ parts c.in-Some.value c.args.part.now read c.requires.some (omega arith) c.in-Some.ensures.0 c.in-Some.ensures.1 refl refl refl

pub returns-in-None : goal.returns-in-None
returns-in-None c = λ parts read. read_other c.args.self.now _ parts c.args.part.now read c.requires.some c.in-None.ensures refl refl
