-- Where no agent may stray, none has a bad move.
use Rattle.std.proofs.Common.{length}
use Rattle.plan_commands.proofs.StrayLemmas.{none_strays}
use Rattle.plan_commands.proofs.straying.find_bad_move.Goals as goal

pub returns-in-Ok-false : goal.returns-in-Ok-false
returns-in-Ok-false c =
    none_strays c.args.map.now c.args.courses.now (length c.args.courses.now) c.requires.size c.requires.acts (c.in-Ok-false.ensures c.in-Ok-false.field-0-test)
