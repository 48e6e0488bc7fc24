-- What calls on a sink leave of what was written before them.
use Rattle.std.proofs.Common.{ℕ, List, ◌++◌, Option, Result, Ok, Err, OnOk, OnErr}
use Rattle.std.proofs.KnownBytes.{Appends-trans}
use Rattle.text_io.specs.declared.sink.Sink.{Sink}
use Rattle.text_io.specs.Counted.{counted_inner}
use Rattle.text_io.specs.Sink.{sink_writer, Puts, Breaks}
use Rattle.explain.specs.Explaining.{AddsMore}

module _ {E W : Type 0} (contents : W → Option (List ℕ)) where
  -- a call on a sink
  pub goes_on : (old new : Sink W) (text : List ℕ) (r : Result Unit E) → OnOk r (Puts contents old new text) → OnErr r (Breaks contents old new text)
      → AddsMore (contents (counted_inner (sink_writer old))) (contents (counted_inner (sink_writer new)))
  goes_on old new text (Ok u) puts breaks = (puts.sent, puts.appended)
  goes_on old new text (Err e) puts breaks = (breaks.sent, breaks.appended)

-- one after another
pub goes_on_twice : (a b c : Option (List ℕ)) → AddsMore a b → AddsMore b c → AddsMore a c
goes_on_twice a b c first second = (first.0 ++ second.0, Appends-trans a b c first.0 second.0 first.1 second.1)
