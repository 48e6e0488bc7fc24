-- Each event is answered at the end of the run so far, and its reply is put behind those before it.
use Rattle.std.proofs.Common.{◌∙◌, [], ◌∷◌, ◌++◌, None, Some, Ok, refl, sym, ap, subst}
use Rattle.std.proofs.lemmas.Result.{err_from_is_err_and}
use Rattle.text_io.specs.Source.{source_reader}
use Rattle.text_io.specs.Sink.{Puts}
use Rattle.text_io.specs.Laws.Putting.{Puts-same}
use Rattle.event_text.specs.declared.header.Headers.TheVariants.{Either}
use Rattle.event_text.specs.FirstEvents.{BeginsWithEvents}
use Rattle.event_text.specs.Taking.{EventTaken}
use Rattle.event_text.specs.Laws.Stopping.{stopped_as}
use Rattle.runner.proofs.AnswerLemmas.{SoFar, answered-by, answered-so-far, break-more, fewer, none-answered, none-so-far, put-more}
use Rattle.runner.proofs.replaying.run_events.Goals as goal

pub returns-in_err-version-clause-answers : goal.returns-in_err-version-clause-answers
returns-in_err-version-clause-answers g c =
    let p = err_from_is_err_and c.from_residual.result c.from_residual.ensures.1 in
    let first = source_reader c.args.source.now in
    let start = c.none_read.ensures Either first c.args.source.now c.any-reader.result c.requires c.any-reader.ensures in
    rw (p.1, p.2) (record {
      version = None;
      events = [];
      read = (c.in_err-version.ensures.taken Either first [] start).0;
      replies = (refl, Puts-same g.W.Write.contents c.args.sink.now);
    })

pub returns-in_err-runner-clause-answers : goal.returns-in_err-runner-clause-answers
returns-in_err-runner-clause-answers g c =
    let p = err_from_is_err_and c.from_residual-in_err-runner.result c.from_residual-in_err-runner.ensures.1 in
    let first = source_reader c.args.source.now in
    let start = c.none_read.ensures Either first c.args.source.now c.any-reader.result c.requires c.any-reader.ensures in
    let read = c.in_ok-version.ensures.taken Either first [] start in
    let version = c.in_ok-version.version in
    rw (p.1, p.2) (record {
      version = Some version;
      events = [];
      delivered = read.0.taken.delivered;
      consumed = read.0.taken.consumed;
      begins = subst (λ v. BeginsWithEvents Either v [] read.0.taken.delivered) read.1 read.0.begins;
      replies =
          none-answered version _ c.args.graph.now (Puts g.W.Write.contents c.args.sink.now c.args.sink.now) c.in_err-runner.ensures.safe
          (Puts-same g.W.Write.contents c.args.sink.now);
    })

pub events-init : goal.events-init
events-init g c =
    let first = source_reader c.args.source.now in
    let start = c.none_read.ensures Either first c.args.source.now c.any-reader.result c.requires c.any-reader.ensures in
    let read = c.in_ok-version.ensures.taken Either first [] start in
    record {
      same_reader = c.in_ok-version.ensures.same_reader;
      same_writer = refl;
      events = [];
      read = read.0;
      same_version = read.1 ∙ ap Some (sym c.in_ok-runner.ensures.version);
      so_far =
          none-so-far c.args.graph.now c.in_ok-runner.runner _ c.in_ok-runner.ensures.timetable
          c.in_ok-runner.ensures.stands (Puts-same g.W.Write.contents c.args.sink.now);
    }

pub returns-in_err-event-clause-answers : goal.returns-in_err-event-clause-answers
returns-in_err-event-clause-answers g c =
    let p = err_from_is_err_and c.from_residual-in_err-event.result c.from_residual-in_err-event.ensures.1 in
    let before = c.events.invariant in
    let first = source_reader c.args.source.now in
    rw (p.1, p.2) (record {
      version = Some c.events.runner.version;
      events = before.events;
      read =
          stopped_as g.E.Read.remaining first _ Either _ _ before.events _ (sym (c.in_err-event.ensures.same_version _ before.same_version))
          (c.in_err-event.ensures.next Either first before.events before.read);
      replies =
          answered-so-far c.every_run_is_safe.ensures c.rotations_never_begin.ensures c.args.graph.now c.events.runner before.events _
          before.so_far;
    })

pub returns-in_err-reply-clause-answers : goal.returns-in_err-reply-clause-answers
returns-in_err-reply-clause-answers g c =
    let p = err_from_is_err_and c.from_residual-in_err-reply.result c.from_residual-in_err-reply.ensures.1 in
    let before = c.events.invariant in
    let first = source_reader c.args.source.now in
    let read = subst (λ r. EventTaken Either g.E.Read.remaining first c.next_event.new.source c.next_event.new.self before.events (Ok r)) c.in-Some.is
    (c.in_ok-event.ensures.next Either first before.events before.read) in
    rw (p.1, p.2) (record {
      version = Some c.events.runner.version;
      events = before.events;
      delivered = read.taken.delivered;
      consumed = read.taken.consumed;
      begins =
          fewer Either (Some c.events.runner.version) before.events c.in-Some.event read.taken.delivered
          (subst (λ v. BeginsWithEvents Either v (before.events ++ c.in-Some.event ∷ []) read.taken.delivered)
          (c.in_ok-event.ensures.same_version _ before.same_version) read.begins);
      replies =
          answered-so-far c.every_run_is_safe.ensures c.rotations_never_begin.ensures c.args.graph.now c.events.runner before.events _ before.so_far;
    })

pub returns-in_err-put_reply-clause-answers : goal.returns-in_err-put_reply-clause-answers
returns-in_err-put_reply-clause-answers g c =
    let p = err_from_is_err_and c.from_residual-in_err-put_reply.result c.from_residual-in_err-put_reply.ensures.1 in
    let before = c.events.invariant in
    let first = source_reader c.args.source.now in
    let read = subst (λ r. EventTaken Either g.E.Read.remaining first c.next_event.new.source c.next_event.new.self before.events (Ok r)) c.in-Some.is
    (c.in_ok-event.ensures.next Either first before.events before.read) in
    let now = break-more g.W.Write.contents c.args.sink.now c.events.sink c.put_reply.new.sink c.args.graph.now c.events.runner c.step.new.self before.events
    c.in-Some.event _ before.so_far c.in_ok-reply.ensures.answered c.in_ok-reply.ensures.same_graph c.in_err-put_reply.ensures.err in
    rw (p.1, p.2) (record {
      version = Some c.step.new.self.version;
      events = before.events ++ c.in-Some.event ∷ [];
      delivered = read.taken.delivered;
      consumed = read.taken.consumed;
      begins =
          subst (λ v. BeginsWithEvents Either v (before.events ++ c.in-Some.event ∷ []) read.taken.delivered)
          (c.in_ok-event.ensures.same_version _ before.same_version ∙ ap Some (sym c.in_ok-reply.ensures.same_version)) read.begins;
      replies = answered-so-far c.every_run_is_safe.ensures c.rotations_never_begin.ensures c.args.graph.now c.step.new.self _ _ now;
    })

pub events-preserved : goal.events-preserved
events-preserved g c =
    let before = c.events.invariant in
    let first = source_reader c.args.source.now in
    record {
      same_reader = c.in_ok-event.ensures.same_reader ∙ before.same_reader;
      same_writer = c.in_ok-put_reply.ensures.ok.same_writer ∙ before.same_writer;
      events = before.events ++ c.in-Some.event ∷ [];
      read =
          subst (λ r. EventTaken Either g.E.Read.remaining first c.next_event.new.source c.next_event.new.self before.events (Ok r)) c.in-Some.is
          (c.in_ok-event.ensures.next Either first before.events before.read);
      same_version = c.in_ok-event.ensures.same_version _ before.same_version ∙ ap Some (sym c.in_ok-reply.ensures.same_version)
          ∙ ap (λ r. Some r.version) (sym c.take_back.ensures);
      so_far =
          subst (λ r. SoFar c.args.graph.now r (before.events ++ c.in-Some.event ∷ []) (Puts g.W.Write.contents c.args.sink.now c.put_reply.new.sink))
          (sym c.take_back.ensures)
          (put-more g.W.Write.contents c.args.sink.now c.events.sink c.put_reply.new.sink c.args.graph.now c.events.runner c.step.new.self before.events
          c.in-Some.event _ before.so_far c.in_ok-reply.ensures.answered c.in_ok-reply.ensures.same_graph c.in_ok-put_reply.ensures.ok);
    }

pub returns-clause-answers : goal.returns-clause-answers
returns-clause-answers g c =
    let before = c.events.invariant in
    let first = source_reader c.args.source.now in
    record {
      events = before.events;
      read =
          stopped_as g.E.Read.remaining first _ Either _ _ before.events _ (sym (c.in_ok-event.ensures.same_version _ before.same_version))
          (subst (λ r. EventTaken Either g.E.Read.remaining first c.next_event.new.source c.next_event.new.self before.events (Ok r)) c.in_default.is
          (c.in_ok-event.ensures.next Either first before.events before.read));
      replies = answered-by c.every_run_is_safe.ensures c.rotations_never_begin.ensures c.args.graph.now c.events.runner before.events _ before.so_far;
    }
