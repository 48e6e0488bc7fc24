-- The file is the agent's tape, or says why nothing is shown of it.
use Rattle.std.proofs.Common.{◌∙◌, ap, sym}
use Rattle.std.specs.Prelude.{Some, option_map}
use Rattle.std.proofs.lemmas.Result.{err_from_is_err_and}
use Rattle.model.specs.Timetable.{moves}
use Rattle.agent_commands.proofs.ReportLemmas.{is_shown, not_opened, not_taken}
use Rattle.agent_commands.proofs.tape_report.read_report.Goals as goal

pub returns-in_err-image-clause-reports : goal.returns-in_err-image-clause-reports
returns-in_err-image-clause-reports g c table is =
    let own_moves = ap Some (c.own_moves.ensures.moves table is) ∙ sym (ap (option_map moves) is.is_track) in
    let p = err_from_is_err_and c.from_residual.result c.from_residual.ensures.1 in
    rw (p.1, p.2) (not_taken g.T.Read.remaining table c.args.part.agent c.own_moves.result c.args.file.now c.read_image.new.file c.in_err-image.field-0.0 own_moves
    c.in_err-image.ensures)

pub returns-in-Ok-clause-reports : goal.returns-in-Ok-clause-reports
returns-in-Ok-clause-reports g c table is =
    let own_moves = ap Some (c.own_moves.ensures.moves table is) ∙ sym (ap (option_map moves) is.is_track) in
    is_shown g.T.Read.remaining table c.args.part.agent c.own_moves.result c.args.file.now c.read_image.new.file c.in_ok-image.image c.in-Ok.agent c.report_of.result
    own_moves c.in_ok-image.ensures (c.in-Ok.ensures.opened table is) (c.report_of.ensures.reports table (c.in-Ok.ensures.opened table is).part)

pub returns-clause-reports : goal.returns-clause-reports
returns-clause-reports g c table is =
    let own_moves = ap Some (c.own_moves.ensures.moves table is) ∙ sym (ap (option_map moves) is.is_track) in
    not_opened g.T.Read.remaining table c.args.part.agent c.own_moves.result c.args.file.now c.read_image.new.file c.in_ok-image.image c.in-Err.field-0-1 c.in-Err.fault
    own_moves c.in_ok-image.ensures (c.in-Err.ensures.refused table is)
