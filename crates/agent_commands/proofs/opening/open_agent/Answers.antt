use Rattle.std.proofs.Common.{◌∙◌, ap, inl, inr, length, refl}
use Rattle.std.proofs.lemmas.Result.{err_from_is_err_and}
use Rattle.agent_commands.specs.Code.Plans.{claim_of}
use Rattle.agent_commands.proofs.GuardLemmas.{unguard_opened, unguard_refused}
use Rattle.robot.specs.GuardedTape.{guarded_state}
use Rattle.agent_commands.proofs.PlanLemmas.{has_enough, plan_kept}
use Rattle.agent_commands.proofs.TapeLemmas.{lost}
use Rattle.agent_commands.proofs.opening.open_agent.Goals as goal

pub returns-clause-opened : goal.returns-clause-opened
returns-clause-opened g c p on table is =
    let tape = c.in_ok-tape.ensures.opened p on table is in
    inr (
      c.in-Err.fault,
      refl,
      record {
        tape = c.in_ok-tape.field-0.tape.tape;
        is_tape = tape.0;
        claimed = tape.1;
        after = c.in-Err.field-0-1.tape;
        refused = unguard_refused table _ c.in_ok-tape.field-0.tape c.in-Err.field-0-1 c.in-Err.fault (c.in-Err.ensures.refused table is);
        kept = c.in-Err.ensures.kept;
      },
    )

pub returns-in_err-tape-clause-opened : goal.returns-in_err-tape-clause-opened
returns-in_err-tape-clause-opened g c p on table is =
    let q = err_from_is_err_and c.from_residual.result c.from_residual.ensures.1 in
    rw (q.1, q.2) (inl (c.in_err-tape.ensures.opened p on table is))

pub returns-in_err-keep_plan-in-Ok-clause-opened : goal.returns-in_err-keep_plan-in-Ok-clause-opened
returns-in_err-keep_plan-in-Ok-clause-opened g c p on table is =
    let q = err_from_is_err_and c.from_residual-in_err-keep_plan-in-Ok.result c.from_residual-in_err-keep_plan-in-Ok.ensures.1 in
    rw (q.1, q.2) (inl (lost g.R.Tape.Read.remaining g.R.ReadFiles.was_done (claim_of c.args.terms) p table _ _ (is.track, is.is_track) c.in_err-keep_plan-in-Ok.ensures))

pub returns-in-Ok-clause-opened : goal.returns-in-Ok-clause-opened
returns-in-Ok-clause-opened g c p on table is =
    let tape = c.in_ok-tape.ensures.opened p on table is in
    let same = c.len-has_record.ensures ∙ ap (λ t. length (guarded_state t).contents) c.tape.ensures ∙ ap length (c.in-Ok.ensures.opened table is).contents in
    let kept = plan_kept g.R.ReadFiles.was_done (claim_of c.args.terms) c.args.terms p c.in_ok-tape.field-0.tape.tape _ _ (has_enough _ _ same) on (c.in_ok-tape.ensures.due p on)
    c.in_ok-keep_plan-in-Ok.ensures in
    (c.in_ok-tape.field-0.tape.tape, tape.0, tape.1, unguard_opened table _ c.in_ok-tape.field-0.tape c.in-Ok.agent (c.in-Ok.ensures.opened table is), kept)
