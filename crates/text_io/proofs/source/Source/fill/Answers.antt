-- Where the reader fails, nothing is at hand and nothing was lost.
use Rattle.std.proofs.Common.{refl}
use Rattle.text_io.specs.Laws.Taking.{slice_range-empty, Takes-same, stays_stopped, Takes-failure}
use Rattle.text_io.proofs.source.Source.fill.Goals as goal

pub returns-then-self-clause-takes : goal.returns-then-self-clause-takes
returns-then-self-clause-takes g c = Takes-same g.R.Read.remaining _

pub returns-then-is_some-clause-cases : goal.returns-then-is_some-clause-cases
returns-then-is_some-clause-cases g c =
    let s = c.args.self.now in
    let empty = slice_range-empty s.piece s.start s.end c.if-self.false in
    stays_stopped g.R.Read.remaining s (record { reader = s.reader; piece = s.piece; start = s.start; end = s.end; stop = s.stop; reads_some = _; few = _; ordered = _; in_piece = _; stops_empty = _ })
    refl refl empty empty c.if-is_some.ensures

pub returns-in-Err-clause-takes : goal.returns-in-Err-clause-takes
returns-in-Err-clause-takes g c = Takes-failure g.R.Read.remaining c.args.self.now _ refl c.if-self.false c.if-is_some.ensures refl refl
    c.in-Err.ensures.bytes c.in-Err.ensures.failures c.in-Err.ensures.calls

pub returns-in-Err-clause-cases : goal.returns-in-Err-clause-cases
returns-in-Err-clause-cases g c = (returns-in-Err-clause-takes g c, refl, refl)
