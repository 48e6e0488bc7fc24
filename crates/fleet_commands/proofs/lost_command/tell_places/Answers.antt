-- The ending is that with which writing ended.
use Rattle.std.proofs.Common.{Ok, subst, sym}
use Rattle.std.specs.Prelude.{Option, is_ok}
use Rattle.ending.specs.Ending.{end_of}
use Rattle.ending.specs.Finishing.{FinishesWriting}
use Rattle.ending.specs.Laws.Ending.{ends_writing}
use Rattle.model.specs.Timetable.{Track}
use Rattle.fleet_commands.specs.LostCommand.{EndsByTrack}
use Rattle.fleet_commands.specs.LostPlaces.{places_text}
use Rattle.fleet_commands.proofs.lost_command.tell_places.Goals as goal

pub returns-in-Ok : goal.returns-in-Ok
returns-in-Ok g c =
    let table = c.args.dependencies.now in
    let is = c.requires in
    let Ends : Option Track → Type 0 = λ t. EndsByTrack g.R.ReadFiles.was_done g.W.Write.contents table c.args.part.now.agent c.args.out.now c.finish.new.out (end_of c.finish.result) t in
    let places = c.in-Ok.places in
    let text = places_text is.track places.first places.last in
    let finished = subst (λ end. FinishesWriting g.W.Write.contents (is_ok c.write_places-written.result) end c.write_places-written.new.writer c.finish.new.out
    (end_of c.finish.result)) c.answered_with.ensures c.finish.ensures in
    subst Ends (sym is.is_track) (
      Ok places,
      c.in-Ok.ensures is.track is.is_track,
      ends_writing g.W.Write.contents c.args.out.now c.write_places-written.new.writer c.finish.new.out text (is_ok c.write_places-written.result) _ _
          (c.write_places-written.ensures table is) finished,
    )
