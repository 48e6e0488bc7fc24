-- What was read is what was found.
use Rattle.std.proofs.Common.{◌≡◌, None, sym, subst}
use Rattle.std.specs.Prelude.{MatchOption, MatchResult}
use Rattle.std.proofs.lemmas.Result.{IfOk-weaker}
use Rattle.depgraph.specs.AgentParts.{AgentPart, IsPartOf}
use Rattle.model.specs.Timetable.{track_of}
use Rattle.agent_commands.specs.FileDeeds.FileDeed.{opens_file}
use Rattle.agent_commands.specs.TapeCommand.{HasRecords, IsNotShown, IsReadWhole}
use Rattle.fleet_commands.specs.FoundTapes.{IsFoundIn}
use Rattle.fleet_commands.proofs.FoundLemmas.{found-in}
use Rattle.fleet_commands.proofs.found_tapes.read_tape.Goals as goal

pub returns-clause-found : goal.returns-clause-found
returns-clause-found g c =
    let tt = c.args.dependencies.now in
    let part = subst (λ o. MatchOption o (track_of tt c.args.agent ≡ None) (λ (p : AgentPart). IsPartOf tt p × (p.agent ≡ c.args.agent))) c.unwrap-part.ensures c.part.ensures in
    let opened = subst (λ f. g.R.ReadFiles.was_done (opens_file (g.R.Reader.Read.remaining f))) (sym c.new-file.ensures.inner) c.in-Ok.ensures in
    IfOk-weaker c.unless_refused.result _ _ (λ it same. subst (IsFoundIn g.R.ReadFiles.was_done tt c.args.agent) (sym same)
    (found-in g.R.Reader.Read.remaining g.R.ReadFiles.was_done tt c.args.agent _ _ c.read_records.result opened (subst (λ i. MatchResult c.read_records.result
    (HasRecords (IsReadWhole g.R.Reader.Read.remaining c.new-file.result c.read_records.new.file) tt i) (IsNotShown g.R.Reader.Read.remaining tt i c.new-file.result c.read_records.new.file)) part.1
    (c.read_records.ensures.has tt part.0)))) c.unless_refused.ensures
