-- The tapes are those that were read.
use Rattle.std.proofs.Common.{◌∙◌, Ok, None, ap, subst, sym}
use Rattle.std.proofs.lemmas.Option.{same_Some}
use Rattle.fleet_commands.specs.FoundTapes.{finished_by}
use Rattle.fleet_commands.specs.LostPlaces.{IsFurthest}
use Rattle.fleet_commands.specs.Code.Reading.{IsHeldToOneRun}
use Rattle.fleet_commands.proofs.lost_command.lost_places.Goals as goal

pub returns : goal.returns
returns g c = λ track is.
    let table = c.args.dependencies.now in
    let agent = c.args.part.now.agent in
    let found = c.in_ok-found.found.items in
    let held = subst (λ f. IsHeldToOneRun table None f (Ok c.in_ok-hold_one_run.field-0)) c.deref.ensures.value c.in_ok-hold_one_run.ensures in
    let own = same_Some c.requires.track track (sym c.requires.is_track ∙ is) in
    let first = c.finished_by.ensures ∙ ap (finished_by c.deref-2.result.now) c.agent.ensures.agent ∙ ap (λ f. finished_by f agent) c.deref-2.ensures.value in
    let last = subst (λ f. IsFurthest table f agent c.requires.track c.furthest.result) c.deref-3.ensures.value (c.furthest.ensures table c.requires) in
    (found, held.0, c.in_ok-found.ensures.found, held.1, held.2, first, subst (λ t. IsFurthest table found agent t c.furthest.result) own last)
