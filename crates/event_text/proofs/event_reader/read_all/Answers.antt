-- The answer of the last call, or that memory was refused.
use Rattle.std.proofs.Common.{◌++◌, ◌∷◌, [], Ok, sym, subst}
use Rattle.std.proofs.lemmas.Result.{err_from_is_err_and}
use Rattle.text_io.specs.Reading.{is_value}
use Rattle.text_io.specs.Source.{source_reader}
use Rattle.event_text.specs.Taking.{HasReadEvents, NoMoreEvents, EventTaken}
use Rattle.event_text.proofs.EventsRead.{all_read, none_read, refused, nothing_read}
use Rattle.event_text.proofs.event_reader.read_all.Goals as goal

pub returns-in_err-version-clause-reads : goal.returns-in_err-version-clause-reads
returns-in_err-version-clause-reads g c =
    let p = err_from_is_err_and c.from_residual.result c.from_residual.ensures.1 in
    let first = source_reader c.args.source.now in
    let read = nothing_read g.R.Read.remaining first c.args.source.now c.args.headers [] c.taking-reader.result c.requires c.taking-reader.ensures in
    rw (p.1, p.2) (none_read g.R.Read.remaining first c.version.new.source c.args.headers [] _ _
    (c.in_err-version.ensures.taken c.args.headers first [] read).0)

pub returns-in_err-event-clause-reads : goal.returns-in_err-event-clause-reads
returns-in_err-event-clause-reads g c =
    let p = err_from_is_err_and c.from_residual-in_err-event.result c.from_residual-in_err-event.ensures.1 in
    let first = source_reader c.args.source.now in
    let items = c.loop-events.events.items in
    rw (p.1, p.2) (none_read g.R.Read.remaining first c.next_event.new.source c.args.headers items _ _
    (c.in_err-event.ensures.next c.args.headers first items c.loop-events.invariant.read))

pub returns-in_err-map_err-clause-reads : goal.returns-in_err-map_err-clause-reads
returns-in_err-map_err-clause-reads g c =
    let p = err_from_is_err_and c.from_residual-in_err-map_err.result c.from_residual-in_err-map_err.ensures.1 in
    let first = source_reader c.args.source.now in
    let items = c.loop-events.events.items in
    let now = c.next_event.new.source in
    let taken = subst (λ r. EventTaken c.args.headers g.R.Read.remaining first now c.next_event.new.self items (Ok r)) c.in-Some.is
    (c.in_ok-event.ensures.next c.args.headers first items c.loop-events.invariant.read) in
    rw (p.1, p.2) (refused g.R.Read.remaining first now c.args.headers (items ++ c.in-Some.event ∷ []) c.next_event.new.self taken)

pub returns-clause-reads : goal.returns-clause-reads
returns-clause-reads g c =
    let first = source_reader c.args.source.now in
    let items = c.loop-events.events.items in
    let now = c.next_event.new.source in
    let taken = subst (λ r. EventTaken c.args.headers g.R.Read.remaining first now c.next_event.new.self items (Ok r)) c.in_default.is
    (c.in_ok-event.ensures.next c.args.headers first items c.loop-events.invariant.read) in
    all_read g.R.Read.remaining first now c.args.headers items c.in_ok-version.version
    (subst (λ v. NoMoreEvents c.args.headers g.R.Read.remaining first (source_reader now) v items (is_value items))
    (c.in_ok-event.ensures.same_version _ c.loop-events.invariant.same_version) taken)

pub loop-events-init : goal.loop-events-init
loop-events-init g c =
    let first = source_reader c.args.source.now in
    let read = nothing_read g.R.Read.remaining first c.args.source.now c.args.headers [] c.taking-reader.result c.requires c.taking-reader.ensures in
    record {
      read =
          subst (HasReadEvents c.args.headers g.R.Read.remaining first c.version.new.source c.version.new.self) (sym c.new-events.ensures.items)
          (c.in_ok-version.ensures.taken c.args.headers first [] read).0;
      same_version = c.in_ok-version.ensures.kept;
      same_reader = c.in_ok-version.ensures.same_reader;
    }
