-- Two answers have no more than a word.
use Rattle.robot.proofs.line_answer.put_answer.Goals as goal

pub returns-in-OutOfMemory-clause-ok : goal.returns-in-OutOfMemory-clause-ok
returns-in-OutOfMemory-clause-ok g c = rw c.in-OutOfMemory.is c.put.ensures.ok

pub returns-in-OutOfMemory-clause-err : goal.returns-in-OutOfMemory-clause-err
returns-in-OutOfMemory-clause-err g c = rw c.in-OutOfMemory.is c.put.ensures.err
