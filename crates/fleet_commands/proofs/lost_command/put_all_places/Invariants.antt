-- The lines of the places that follow are left.
use Rattle.model.specs.Timetable.{Timetable}
use Rattle.depgraph.specs.AgentParts.{IsPartOf}
use Rattle.text_io.specs.Sink.{Leaves}
use Rattle.fleet_commands.specs.LostPlaces.{places_text}
use Rattle.fleet_commands.proofs.lost_command.put_all_places.Given as goal

abbrev pub invariant-loop-number : goal.invariant-loop-number
invariant-loop-number g l = (tt : Timetable) (is : IsPartOf tt l.part)
    → Leaves g.W.Write.contents l.fn.sink l.sink (places_text is.track l.fn.places.first l.fn.places.last) (places_text is.track l.number l.fn.places.last)
