-- Nothing more is put.
use Rattle.std.proofs.Common.{[], append-nil}
use Rattle.std.specs.List.{flat_map}
use Rattle.text_io.specs.Laws.Putting.{Breaks-then, Puts-then}
use Rattle.fleet_commands.specs.StatusText.{status_line}
use Rattle.fleet_commands.proofs.status_line.put_lines.Goals as goal

pub returns-clause-ok : goal.returns-clause-ok
returns-clause-ok g c =
    let text = flat_map (status_line c.args.json) c.args.lines.now in
    Puts-then g.W.Write.contents _ _ _ text [] _ c.hand_on.result (append-nil text) c.in_ok-put_all.ensures.ok c.hand_on.ensures.ok

pub returns-clause-err : goal.returns-clause-err
returns-clause-err g c =
    let text = flat_map (status_line c.args.json) c.args.lines.now in
    Breaks-then g.W.Write.contents _ _ _ text [] _ c.hand_on.result (append-nil text) c.in_ok-put_all.ensures.ok c.hand_on.ensures.err
