use Rattle.std.proofs.Common.{get_or, Ok, Err, ◌∙◌, arith}
use Rattle.std.specs.Prelude.{◌==◌, ◌&&◌}
use Rattle.std.proofs.lemmas.Bool.{cond-true}
use Rattle.std.proofs.lemmas.Bool.Decides.{nat_tests}
use Rattle.agent.specs.declared.message.Message.TheVariants.{Two}
use Rattle.agent.proofs.ToldLemmas.{read-as}
use Rattle.agent.proofs.message.read_message.Goals as goal

pub returns-in-Ok-clause-each_two : goal.returns-in-Ok-clause-each_two
returns-in-Ok-clause-each_two c t in_range is = read-as t c.args.bytes.now in_range is (Ok (Two c.in-Ok.told)) c.in-Ok.ensures.reads c.in-Ok.ensures.in_range

pub returns-in-Err-clause-each_two : goal.returns-in-Err-clause-each_two
returns-in-Err-clause-each_two c t in_range is = read-as t c.args.bytes.now in_range is (Err c.in-Err.fault)
    (cond-true ((get_or c.args.bytes.now 0 0 == 0x46) && (get_or c.args.bytes.now 1 0 == 2)) _ _
    (let magic = c.if-bytes-eq-MAGIC.true in let version = c.if-bytes-eq-VERSION_TWO.true in grind (arith, nat_tests, magic, version)) ∙ c.in-Err.ensures.reads) tt
