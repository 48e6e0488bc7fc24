use Rattle.check_commands.proofs.faults_text.put_head.Goals as goal

pub returns-then-json-clause-ok : goal.returns-then-json-clause-ok
returns-then-json-clause-ok g c = rw c.if-json.true c.put.ensures.ok

pub returns-then-json-clause-err : goal.returns-then-json-clause-err
returns-then-json-clause-err g c = rw c.if-json.true c.put.ensures.err
