use Rattle.std.proofs.Common.{◌≤◌, ◌/◌, subst}
use Rattle.model.specs.Messages.{told}
use Rattle.transcripts.proofs.laws.no_line_is_ahead.Goals as goal

pub returns-clause-one_plan : goal.returns-clause-one_plan
returns-clause-one_plan c table processes transcript deeds tapes i track bytes t tellable is there said telling =
    let fleet = c.transcripts_are_fleets.ensures.one_plan table processes transcript deeds tapes is in
    let at = fleet.5 bytes said in
    let least = c.no_tape_is_behind.ensures.fleet table fleet.0 fleet.1 i track at.0 bytes t tellable fleet.2 there at.1 telling in
    subst (λ n. told t.message i ≤ n / 2) (fleet.4 i) least

pub returns-clause-of_plans : goal.returns-clause-of_plans
returns-clause-of_plans c last processes transcript deeds tapes i track bytes t tellable is there said telling =
    let fleet = c.transcripts_are_fleets.ensures.of_plans last processes transcript deeds tapes is in
    let at = fleet.5 bytes said in
    let least = c.no_tape_is_behind.ensures.of_plans last fleet.0 fleet.1 i track at.0 bytes t tellable fleet.2 there at.1 telling in
    subst (λ n. told t.message i ≤ n / 2) (fleet.4 i) least

pub returns-clause-of_chain : goal.returns-clause-of_chain
returns-clause-of_chain c map plan plans last processes transcript deeds tapes i track bytes t tellable chain valid is_its is there said telling =
    let fleet = c.transcripts_are_fleets.ensures.of_chain plan plans processes transcript deeds tapes is in
    let led = c.extending.ensures map plan plans last fleet.0 fleet.1 chain valid is_its fleet.2 in
    let at = fleet.5 bytes said in
    let least = c.no_tape_is_behind.ensures.of_plans last fleet.0 fleet.1 i track at.0 bytes t tellable led there at.1 telling in
    subst (λ n. told t.message i ≤ n / 2) (fleet.4 i) least
