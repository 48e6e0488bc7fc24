-- What differs first is the answer.
use Rattle.std.proofs.Common.{Some, refl, sym, ap, ◌∙◌}
use Rattle.std.proofs.lemmas.Bool.{false≢true}
use Rattle.std.proofs.lemmas.Option.{same_Some}
use Rattle.model.specs.Costs.{cost}
use Rattle.model.specs.Timetable.{cell_at}
use Rattle.fitting.proofs.FitLemmas.{some_track, read_track, at_first}
use Rattle.fitting.proofs.fitting.fits_row.Goals as goal

pub returns-then-not-has_size : goal.returns-then-not-has_size
returns-then-not-has_size c =
    let track = some_track c.args.plan.now.timetable c.args.agent c.requires in
    (track.0, track.1, refl, λ size. false≢true (sym c.if-not-has_size.true ∙ c.has_size.ensures.1 size))

pub returns-then-not-is_at : goal.returns-then-not-is_at
returns-then-not-is_at c =
    let track = some_track c.args.plan.now.timetable c.args.agent c.requires in
    let first = read_track c.args.plan.now.timetable c.args.agent track.0 (λ k. cell_at k 0) c.position.result track.1 c.position.ensures in (
      track.0,
      track.1,
      refl,
      c.has_size.ensures.0 c.if-not-has_size.false,
      λ same. false≢true (sym c.if-not-is_at.true ∙ c.is_at.ensures.1 (first ∙ ap (λ d. Some d) (at_first track.0 ∙ same ∙ sym c.start.ensures))),
    )

pub returns-then-not-is_at-2 : goal.returns-then-not-is_at-2
returns-then-not-is_at-2 c =
    let track = some_track c.args.plan.now.timetable c.args.agent c.requires in
    let first = read_track c.args.plan.now.timetable c.args.agent track.0 (λ k. cell_at k 0) c.position.result track.1 c.position.ensures in
    let last = read_track c.args.plan.now.timetable c.args.agent track.0 (λ k. cell_at k (cost k)) c.rest.result track.1 c.rest.ensures in
    let started = c.is_at.ensures.0 c.if-not-is_at.false in (
      track.0,
      track.1,
      refl,
      c.has_size.ensures.0 c.if-not-has_size.false,
      sym (at_first track.0) ∙ same_Some (cell_at track.0 0) c.start.result (sym first ∙ started) ∙ c.start.ensures,
      λ same. false≢true (sym c.if-not-is_at-2.true ∙ c.is_at-2.ensures.1 (last ∙ ap (λ d. Some d) (same ∙ sym c.goal.ensures))),
    )

pub returns : goal.returns
returns c =
    let track = some_track c.args.plan.now.timetable c.args.agent c.requires in
    let first = read_track c.args.plan.now.timetable c.args.agent track.0 (λ k. cell_at k 0) c.position.result track.1 c.position.ensures in
    let last = read_track c.args.plan.now.timetable c.args.agent track.0 (λ k. cell_at k (cost k)) c.rest.result track.1 c.rest.ensures in
    let started = c.is_at.ensures.0 c.if-not-is_at.false in
    let ended = c.is_at-2.ensures.0 c.if-not-is_at-2.false in
    let size = c.has_size.ensures.0 c.if-not-has_size.false in (
      track.0,
      track.1,
      record {
        same_width = size.0;
        same_height = size.1;
        from_start = sym (at_first track.0) ∙ same_Some (cell_at track.0 0) c.start.result (sym first ∙ started) ∙ c.start.ensures;
        to_goal = same_Some (cell_at track.0 (cost track.0)) c.goal.result (sym last ∙ ended) ∙ c.goal.ensures;
      },
    )
