-- The agent has a place in the new plan, and its course leads along the rest of its way.
use Rattle.std.proofs.Common.{◌∙◌, subst, sym}
use Rattle.std.specs.Prelude.{slice_get}
use Rattle.std.proofs.lemmas.Option.{same_Some}
use Rattle.model.specs.Plan.{IsTrackOf}
use Rattle.model.specs.Timetable.{Track, moves}
use Rattle.fleet_commands.specs.FoundTapes.{begun_by}
use Rattle.fleet_commands.specs.LeftPlan.{first_step, left_plan}
use Rattle.fleet_commands.specs.LeftWays.{IsRestOf, number_left}
use Rattle.fleet_commands.proofs.LeftIndexes.{course-left, first-early, track-of}
use Rattle.fleet_commands.proofs.RestLemmas.{rest-of}
use Rattle.fleet_commands.proofs.RunLemmas.{begun-within}
use Rattle.fleet_commands.proofs.laws.what_is_left_is_the_rest.Goals as goal

pub returns : goal.returns
returns c = λ p table new found without number i track is within is_new kept there.
    let left = course-left p table is.tracks found without number i track kept there in
    let of = left.2 in
    let begun = begun_by found i in
    let first = first_step table found without in
    let after = track-of (left_plan p table found without number).courses new.tracks is_new.tracks (number_left without i) left.0 left.1 in
    let mine = same_Some of.track track (sym of.is_track ∙ there) in
    let few = begun-within (slice_get found i) (moves of.track) (λ records has. within i records of.track of.is_track has) in
    let rest = rest-of of.course of.track of.tracked begun first few (first-early table found without i of.track kept of.is_track) after.track
    (subst (λ k. IsTrackOf k after.track) of.left after.is) in
    (after.track, after.there, subst (λ (t : Track). IsRestOf begun first t after.track) mine rest)
