use Rattle.std.proofs.Common.{inl, inr, refl, subst, sym}
use Rattle.agent_commands.specs.FileDeeds.FileDeed.{opens_file}
use Rattle.mapf_cmd.proofs.on_files.tape_on_files.Goals as goal

pub returns-in-Ok : goal.returns-in-Ok
returns-in-Ok g c =
    let opened = subst (λ f. g.R.ReadFiles.was_done (opens_file (g.R.Reader.Read.remaining f))) (sym c.new-tape.ensures.inner) c.in-Ok.ensures in
    inl (
      c.in_ok-map.map,
      c.perform.new.map,
      c.in_ok-plan.plan,
      c.perform.new.plan,
      c.new-tape.result,
      c.perform.new.tape,
      c.in_ok-map.ensures,
      c.in_ok-plan.ensures,
      opened,
      c.perform.ensures,
    )

pub returns-in-Err-NoTape : goal.returns-in-Err-NoTape
returns-in-Err-NoTape g c = inr (c.without_tape.ensures, refl)
