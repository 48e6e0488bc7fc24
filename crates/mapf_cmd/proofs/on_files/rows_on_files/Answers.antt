use Rattle.std.proofs.Common.{subst}
use Rattle.text_commands.specs.RowsCommand.{ShowsProgress}
use Rattle.mapf_cmd.proofs.on_files.rows_on_files.Goals as goal

pub returns : goal.returns
returns g c =
    let shows = subst (λ is_shown. ShowsProgress g.E.Write.contents is_shown c.args.err.now c.perform.new.err) c.is_shown.ensures c.perform.ensures.progress in
    ((c.in_ok-map.map, c.perform.new.map, c.in_ok-scen.scen, c.perform.new.scen, c.in_ok-map.ensures, c.in_ok-scen.ensures, c.perform.ensures.answers), shows)
