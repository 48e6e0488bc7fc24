-- Each alarm has its words, and one has numbers.
use Rattle.carrier_text.proofs.answer_lines.put_alarm.Goals as goal

pub returns-in-BadLine-clause-ok : goal.returns-in-BadLine-clause-ok
returns-in-BadLine-clause-ok g c = rw c.in-BadLine.is c.put.ensures.ok

pub returns-in-BadLine-clause-err : goal.returns-in-BadLine-clause-err
returns-in-BadLine-clause-err g c = rw c.in-BadLine.is c.put.ensures.err

pub returns-in-StoreFailed-clause-ok : goal.returns-in-StoreFailed-clause-ok
returns-in-StoreFailed-clause-ok g c = rw c.in-StoreFailed.is c.put-in-StoreFailed.ensures.ok

pub returns-in-StoreFailed-clause-err : goal.returns-in-StoreFailed-clause-err
returns-in-StoreFailed-clause-err g c = rw c.in-StoreFailed.is c.put-in-StoreFailed.ensures.err

pub returns-in-OutOfMemory-clause-ok : goal.returns-in-OutOfMemory-clause-ok
returns-in-OutOfMemory-clause-ok g c = rw c.in-OutOfMemory.is c.put-in-OutOfMemory.ensures.ok

pub returns-in-OutOfMemory-clause-err : goal.returns-in-OutOfMemory-clause-err
returns-in-OutOfMemory-clause-err g c = rw c.in-OutOfMemory.is c.put-in-OutOfMemory.ensures.err

pub returns-in-StaleTape-clause-ok : goal.returns-in-StaleTape-clause-ok
returns-in-StaleTape-clause-ok g c = rw c.in-StaleTape.is (rw (c.from.ensures, c.from-in-StaleTape.ensures) at c.put_numbers.ensures.ok)

pub returns-in-StaleTape-clause-err : goal.returns-in-StaleTape-clause-err
returns-in-StaleTape-clause-err g c = rw c.in-StaleTape.is (rw (c.from.ensures, c.from-in-StaleTape.ensures) at c.put_numbers.ensures.err)
