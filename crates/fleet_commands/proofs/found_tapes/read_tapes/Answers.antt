-- One tape more.
use Rattle.std.proofs.Common.{◌≤◌, ◌*◌, ℕ, [], ◌∷◌, length, Ok, inl, inr, sym, ap, subst, ◌∙◌, arith}
use Rattle.std.specs.Prelude.{slice_get}
use Rattle.std.specs.Result.{IfOk}
use Rattle.std.proofs.lemmas.List.{length-append}
use Rattle.model.specs.Timetable.{moves, track_of}
use Rattle.fleet_commands.specs.FoundTapes.{IsFoundIn}
use Rattle.fleet_commands.proofs.FoundLemmas.{at-last}
use Rattle.fleet_commands.proofs.found_tapes.read_tapes.Goals as goal

pub loop-agent-preserved : goal.loop-agent-preserved
loop-agent-preserved g c =
    let tt = c.args.dependencies.now in
    let before = c.loop-agent.found.items in
    let more = c.in_ok-push.ensures.items in
    let now = c.in_ok-read_tape.field-0 in
    let counted = c.loop-agent.invariant.count in
    record {
      count = ap length more ∙ length-append before (now ∷ []) ∙ omega (arith, counted);
      each = λ i f there. elim (at-last before now i f (ap (λ l. slice_get l i) (sym more) ∙ there)) [
        | inl earlier ↦ c.loop-agent.invariant.each i f earlier
        | inr last ↦ subst (λ n. IsFoundIn g.R.ReadFiles.was_done tt n f) (sym (last.0 ∙ counted))
            (subst (IsFoundIn g.R.ReadFiles.was_done tt c.loop-agent.agent) last.1 c.in_ok-read_tape.ensures.found)
      ];
      within = λ i records track is there. elim (at-last before now i (Ok records) (ap (λ l. slice_get l i) (sym more) ∙ there)) [
        | inl earlier ↦ c.loop-agent.invariant.within i records track is earlier
        | inr last ↦ subst (λ r. IfOk r (λ (n : ℕ). n ≤ 2 * moves track)) last.1 (c.in_ok-read_tape.ensures.within track (ap (track_of tt) (sym (last.0 ∙ counted)) ∙ is))
      ];
    }
