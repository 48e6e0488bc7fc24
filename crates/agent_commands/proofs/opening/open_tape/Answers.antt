use Rattle.std.proofs.Common.{◌∙◌, ap, subst, sym}
use Rattle.std.specs.Prelude.{Ok, Err, Some, option_map}
use Rattle.model.specs.Timetable.{moves}
use Rattle.std.proofs.lemmas.Result.{err_from_is_err_and}
use Rattle.agent_commands.specs.AgentCommand.{IsClaimed, IsTapeOf}
use Rattle.agent_commands.specs.Code.Plans.{claim_of}
use Rattle.agent_commands.proofs.TapeLemmas.{no_tape, not_made, of_file, take_ends}
use Rattle.agent_commands.proofs.opening.open_tape.Goals as goal

pub returns-in_err-look_before_making-clause-opened : goal.returns-in_err-look_before_making-clause-opened
returns-in_err-look_before_making-clause-opened g c p on table is =
    let q = err_from_is_err_and c.from_residual.result c.from_residual.ensures.1 in
    rw (q.1, q.2) (not_made g.R.Tape.Read.remaining g.R.ReadFiles.was_done (claim_of c.args.terms.now) p table c.args.part.now.agent _ (is.track, is.is_track) c.in_err-look_before_making.ensures.new
    c.in_err-look_before_making.ensures.beside)

pub returns-in_err-opened-clause-opened : goal.returns-in_err-opened-clause-opened
returns-in_err-opened-clause-opened g c p on table is =
    let q = err_from_is_err_and c.from_residual-in_err-opened.result c.from_residual-in_err-opened.ensures.1 in
    let own_moves = ap Some (c.own_moves-moves.ensures.moves table is) ∙ sym (ap (option_map moves) is.is_track) in
    rw (q.1, q.2) (no_tape g.R.Tape.Read.remaining g.R.ReadFiles.was_done (claim_of c.args.terms.now) p table c.args.part.now.agent c.own_moves-moves.result c.in_ok-file.field-0.file
    c.in_err-opened.field-0.0 c.in_ok-file.ensures own_moves (λ same. c.in_err-opened.ensures.too_long (ap Err same)))

pub returns-in_err-tape-clause-opened : goal.returns-in_err-tape-clause-opened
returns-in_err-tape-clause-opened g c p on table is =
    let q = err_from_is_err_and c.from_residual-in_err-tape.result c.from_residual-in_err-tape.ensures.1 in
    let own_moves = ap Some (c.own_moves-moves.ensures.moves table is) ∙ sym (ap (option_map moves) is.is_track) in
    let of = of_file g.R.Tape.Read.remaining g.R.ReadFiles.was_done table c.args.part.now.agent c.own_moves-moves.result c.in_ok-file.field-0.file c.in_ok-opened.opened c.in_ok-file.ensures own_moves
    c.in_ok-opened.ensures.image in
    rw (q.1, q.2) (take_ends g.R.Tape.Read.remaining g.R.ReadFiles.was_done (claim_of c.args.terms.now) p table c.args.part.now.agent c.in_ok-opened.opened (Err c.in_err-tape.field-0.0) of
    (c.in_err-tape.ensures.taken p on))

pub returns-in_err-unmarked-clause-opened : goal.returns-in_err-unmarked-clause-opened
returns-in_err-unmarked-clause-opened g c p on table is =
    let q = err_from_is_err_and c.from_residual-in_err-unmarked.result c.from_residual-in_err-unmarked.ensures.1 in
    rw (q.1, q.2) (is.track, is.is_track)

pub returns-clause-opened : goal.returns-clause-opened
returns-clause-opened g c p on table is =
    let i = c.args.part.now.agent in
    let own_moves = ap Some (c.own_moves-moves.ensures.moves table is) ∙ sym (ap (option_map moves) is.is_track) in
    let of = of_file g.R.Tape.Read.remaining g.R.ReadFiles.was_done table i c.own_moves-moves.result c.in_ok-file.field-0.file c.in_ok-opened.opened c.in_ok-file.ensures own_moves
    c.in_ok-opened.ensures.image in
    let taken = take_ends g.R.Tape.Read.remaining g.R.ReadFiles.was_done (claim_of c.args.terms.now) p table i c.in_ok-opened.opened (Ok c.in_ok-tape.field-0) of (c.in_ok-tape.ensures.taken p on) in
    subst (λ t. IsTapeOf g.R.Tape.Read.remaining g.R.ReadFiles.was_done table i t × IsClaimed g.R.ReadFiles.was_done (claim_of c.args.terms.now) p t) (sym c.new.ensures.tape) taken
