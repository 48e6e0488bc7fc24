-- The first faults are those that were found.
use Rattle.std.proofs.Common.{◌∙◌, ap, inl, map, refl}
use Rattle.ending.specs.Ending.{rejected}
use Rattle.model.specs.FaultWords.{plan_fault_words}
use Rattle.check_commands.specs.FaultsText.{faults_text, of_plan}
use Rattle.check_commands.proofs.EndingLemmas.{ended}
use Rattle.check_commands.proofs.verdicts.list.Goals as goal

pub returns-in-Ok : goal.returns-in-Ok
returns-in-Ok g c =
    let faults = c.in-Ok.faults in
    let wrote = ended g.W.Write.contents c.args.out.now c.write_faults-written.new.writer c.finish.new.out (faults_text c.args.listing.json (map of_plan faults.listed.items) faults.agents faults.more)
    _ _ _
    (rejected (plan_fault_words c.args.rejected.now.fault)) _ (c.rejected.ensures ∙ ap rejected c.words.ensures) refl c.write_faults-written.ensures c.finish.ensures in
    inl (faults.listed.items, faults.more, faults.agents, c.in-Ok.ensures, wrote)
