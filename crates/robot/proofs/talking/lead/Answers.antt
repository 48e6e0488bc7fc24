-- Each line is answered behind those before it; then comes what ends the dialogue.
use Rattle.std.proofs.Common.{[], Ok, Err, ap, refl, sym, subst, ◌∙◌, append-nil}
use Rattle.std.specs.Prelude.{is_some}
use Rattle.std.proofs.lemmas.Result.{err_from_is_err_and}
use Rattle.text_io.specs.Sink.{Puts}
use Rattle.text_io.specs.Source.{source_reader}
use Rattle.robot.proofs.DialogueLemmas.{far_more, led_by_last, led_to_end, led_to_failure, led_to_fault, read_first, read_last, replied, same_writer, state_not_said}
use Rattle.robot.proofs.InputLemmas.{kept_within}
use Rattle.robot.proofs.talking.lead.Goals as goal

pub returns-in_err-say_state-clause-leads : goal.returns-in_err-say_state-clause-leads
returns-in_err-say_state-clause-leads g c table is =
    let p = err_from_is_err_and c.from_residual.result c.from_residual.ensures.1 in
    let said = c.in_err-say_state.ensures.says table is in
    rw (p.1, p.2)
    (state_not_said g.R.Read.remaining g.W.Write.contents g.T.Tape.state (is_some c.args.talker.now.heeded) table (source_reader c.args.source.now) c.args.sink.now c.requires.none_held
    c.args.talker.now.agent c.args.source.now c.say_state.new.sink said.0 said.1 c.requires.none_taken said.2)

pub reply-requires-clause-within : goal.reply-requires-clause-within
reply-requires-clause-within g c =
    let of = c.lines.invariant.of_graph in
    let table = of.0 in
    let is = of.2 in
    let far = c.lines.invariant.so_far table is in
    let came = c.in-Line.ensures.came (source_reader c.args.source.now) far.lines far.taken in
    kept_within c.in-Line.kept came.0 c.next_line.new.room came.1

pub lines-preserved : goal.lines-preserved
lines-preserved g c = record {
  same_reader = c.next_line.ensures.same_reader ∙ c.lines.invariant.same_reader;
  heeded = c.reply.ensures.heeded ∙ c.lines.invariant.heeded;
  part = c.reply.ensures.same.part ∙ c.lines.invariant.part;
  of_graph = c.lines.invariant.of_graph;
  so_far = λ table is. (
      let far = c.lines.invariant.so_far table is in
      let came = c.in-Line.ensures.came (source_reader c.args.source.now) far.lines far.taken in
      far_more g.R.Read.remaining g.W.Write.contents g.T.Tape.state (is_some c.args.talker.now.heeded) table (source_reader c.args.source.now) c.args.sink.now c.requires.none_held
      c.args.talker.now.agent c.lines.source c.lines.sink c.lines.talker.agent far came.0 c.next_line.new.source c.reply.new.sink c.reply.new.talker.agent c.reply.ensures.same
      came.2
      c.in_ok-reply-in-Line.ensures.blames
      (replied g.R.Read.remaining g.W.Write.contents g.T.Tape.state (is_some c.args.talker.now.heeded) table (source_reader c.args.source.now) c.args.sink.now c.requires.none_held
      c.args.talker.now.agent c.lines.source c.lines.sink c.lines.talker.agent far came.0 c.next_line.new.source c.reply.new.sink c.reply.new.talker.agent c.reply.ensures.same
      (is_some c.lines.talker.heeded) (ap is_some c.lines.invariant.heeded) c.next_line.new.room c.in-Line.kept (Ok tt) c.in_ok-reply-in-Line.ensures.replies is came.1)
      );
}

pub returns-in_err-reply-in-Line-clause-same_writer : goal.returns-in_err-reply-in-Line-clause-same_writer
returns-in_err-reply-in-Line-clause-same_writer g c =
    let of = c.lines.invariant.of_graph in
    let table = of.0 in
    let is = of.2 in
    let far = c.lines.invariant.so_far table is in
    let came = c.in-Line.ensures.came (source_reader c.args.source.now) far.lines far.taken in
    same_writer g.R.Read.remaining g.W.Write.contents g.T.Tape.state (is_some c.args.talker.now.heeded) table (source_reader c.args.source.now) c.args.sink.now c.requires.none_held
    c.args.talker.now.agent c.lines.source c.lines.sink c.lines.talker.agent far came.0 c.next_line.new.source c.reply.new.sink c.reply.new.talker.agent
    c.reply.ensures.same (Err c.in_err-reply-in-Line.field-0.0)
    (replied g.R.Read.remaining g.W.Write.contents g.T.Tape.state (is_some c.args.talker.now.heeded) table (source_reader c.args.source.now) c.args.sink.now c.requires.none_held
    c.args.talker.now.agent c.lines.source c.lines.sink c.lines.talker.agent far came.0 c.next_line.new.source c.reply.new.sink c.reply.new.talker.agent
    c.reply.ensures.same (is_some c.lines.talker.heeded) (ap is_some c.lines.invariant.heeded) c.next_line.new.room c.in-Line.kept (Err c.in_err-reply-in-Line.field-0.0)
    c.in_err-reply-in-Line.ensures.replies is came.1)

pub returns-in_err-reply-in-Line-clause-leads : goal.returns-in_err-reply-in-Line-clause-leads
returns-in_err-reply-in-Line-clause-leads g c table is =
    let p = err_from_is_err_and c.from_residual-in_err-reply-in-Line.result c.from_residual-in_err-reply-in-Line.ensures.1 in
    let far = c.lines.invariant.so_far table is in
    let came = c.in-Line.ensures.came (source_reader c.args.source.now) far.lines far.taken in
    rw (p.1, p.2)
    (led_to_fault g.R.Read.remaining g.W.Write.contents g.T.Tape.state (is_some c.args.talker.now.heeded) table (source_reader c.args.source.now) c.args.sink.now c.requires.none_held
    c.args.talker.now.agent c.lines.source c.lines.sink c.lines.talker.agent far came.0 c.next_line.new.source c.reply.new.sink c.reply.new.talker.agent
    c.reply.ensures.same c.in_err-reply-in-Line.field-0.0 (read_first g.R.Read.remaining (source_reader c.args.source.now) c.next_line.new.source _ came.2)
    c.in_err-reply-in-Line.ensures.blames
    (replied g.R.Read.remaining g.W.Write.contents g.T.Tape.state (is_some c.args.talker.now.heeded) table (source_reader c.args.source.now) c.args.sink.now c.requires.none_held
    c.args.talker.now.agent c.lines.source c.lines.sink c.lines.talker.agent far came.0 c.next_line.new.source c.reply.new.sink c.reply.new.talker.agent
    c.reply.ensures.same (is_some c.lines.talker.heeded) (ap is_some c.lines.invariant.heeded) c.next_line.new.room c.in-Line.kept (Err c.in_err-reply-in-Line.field-0.0)
    c.in_err-reply-in-Line.ensures.replies is came.1))

pub reply-requires-in-LastLine-clause-within : goal.reply-requires-in-LastLine-clause-within
reply-requires-in-LastLine-clause-within g c =
    let of = c.lines.invariant.of_graph in
    let table = of.0 in
    let is = of.2 in
    let far = c.lines.invariant.so_far table is in
    let came = c.in-LastLine.ensures.came (source_reader c.args.source.now) far.lines far.taken in
    kept_within c.in-LastLine.kept came.0 c.next_line.new.room came.1

pub returns-in-LastLine-clause-same_writer : goal.returns-in-LastLine-clause-same_writer
returns-in-LastLine-clause-same_writer g c =
    let of = c.lines.invariant.of_graph in
    let table = of.0 in
    let is = of.2 in
    let far = c.lines.invariant.so_far table is in
    let came = c.in-LastLine.ensures.came (source_reader c.args.source.now) far.lines far.taken in
    same_writer g.R.Read.remaining g.W.Write.contents g.T.Tape.state (is_some c.args.talker.now.heeded) table (source_reader c.args.source.now) c.args.sink.now c.requires.none_held
    c.args.talker.now.agent c.lines.source c.lines.sink c.lines.talker.agent far came.0 c.next_line.new.source c.reply-in-LastLine.new.sink
    c.reply-in-LastLine.new.talker.agent c.reply-in-LastLine.ensures.same c.reply-in-LastLine.result
    (replied g.R.Read.remaining g.W.Write.contents g.T.Tape.state (is_some c.args.talker.now.heeded) table (source_reader c.args.source.now) c.args.sink.now c.requires.none_held
    c.args.talker.now.agent c.lines.source c.lines.sink c.lines.talker.agent far came.0 c.next_line.new.source c.reply-in-LastLine.new.sink c.reply-in-LastLine.new.talker.agent
    c.reply-in-LastLine.ensures.same (is_some c.lines.talker.heeded) (ap is_some c.lines.invariant.heeded) c.next_line.new.room c.in-LastLine.kept c.reply-in-LastLine.result
    c.reply-in-LastLine.ensures.replies is came.1)

pub returns-in-LastLine-clause-leads : goal.returns-in-LastLine-clause-leads
returns-in-LastLine-clause-leads g c table is =
    let far = c.lines.invariant.so_far table is in
    let came = c.in-LastLine.ensures.came (source_reader c.args.source.now) far.lines far.taken in
    led_by_last g.R.Read.remaining g.W.Write.contents g.T.Tape.state (is_some c.args.talker.now.heeded) table (source_reader c.args.source.now) c.args.sink.now c.requires.none_held
    c.args.talker.now.agent c.lines.source c.lines.sink c.lines.talker.agent far came.0 c.next_line.new.source c.reply-in-LastLine.new.sink
    c.reply-in-LastLine.new.talker.agent c.reply-in-LastLine.ensures.same c.reply-in-LastLine.result
    (read_last g.R.Read.remaining (source_reader c.args.source.now) c.next_line.new.source far.lines came.0 came.2 came.3)
    c.reply-in-LastLine.ensures.blames
    (replied g.R.Read.remaining g.W.Write.contents g.T.Tape.state (is_some c.args.talker.now.heeded) table (source_reader c.args.source.now) c.args.sink.now c.requires.none_held
    c.args.talker.now.agent c.lines.source c.lines.sink c.lines.talker.agent far came.0 c.next_line.new.source c.reply-in-LastLine.new.sink c.reply-in-LastLine.new.talker.agent
    c.reply-in-LastLine.ensures.same (is_some c.lines.talker.heeded) (ap is_some c.lines.invariant.heeded) c.next_line.new.room c.in-LastLine.kept c.reply-in-LastLine.result
    c.reply-in-LastLine.ensures.replies is came.1)

pub returns-in-End-clause-leads : goal.returns-in-End-clause-leads
returns-in-End-clause-leads g c table is =
    let far = c.lines.invariant.so_far table is in
    led_to_end g.R.Read.remaining g.W.Write.contents g.T.Tape.state (is_some c.args.talker.now.heeded) table (source_reader c.args.source.now) c.args.sink.now c.requires.none_held
    c.args.talker.now.agent
    c.lines.source c.lines.sink c.lines.talker.agent far c.next_line.new.source (c.in-End.ensures.came (source_reader c.args.source.now) far.lines far.taken)

pub returns-in-Failed-clause-leads : goal.returns-in-Failed-clause-leads
returns-in-Failed-clause-leads g c table is =
    let far = c.lines.invariant.so_far table is in
    let came = c.in-Failed.ensures.came (source_reader c.args.source.now) far.lines far.taken in
    led_to_failure g.R.Read.remaining g.W.Write.contents g.T.Tape.state (is_some c.args.talker.now.heeded) table (source_reader c.args.source.now) c.args.sink.now c.requires.none_held
    c.args.talker.now.agent c.lines.source c.lines.sink c.lines.talker.agent far c.next_line.new.source came.0 came.1 came.2

pub returns-in_err-say_state-clause-same_writer : goal.returns-in_err-say_state-clause-same_writer
returns-in_err-say_state-clause-same_writer g c =
    let of = c.say_state.ensures.within in
    (c.in_err-say_state.ensures.says of.0 of.2).2.same_writer

pub lines-init : goal.lines-init
lines-init g c =
    record {
      same_reader = refl;
      heeded = refl;
      part = refl;
      of_graph = c.say_state.ensures.within;
      so_far = λ table is. (
          let said = c.in_ok-say_state.ensures.says table is in
          record {
            track = said.0;
            is_track = said.1;
            part = refl;
            lines = [];
            texts = [];
            turns = refl;
            failures = refl;
            well = tt;
            taken = c.requires.none_taken;
            put = subst (Puts g.W.Write.contents c.args.sink.now c.say_state.new.sink) (sym (append-nil _)) said.2.puts;
            none_held = said.2.none_held;
          }
          );
    }

pub returns-in-End-clause-same_writer : goal.returns-in-End-clause-same_writer
returns-in-End-clause-same_writer g c =
    let of = c.lines.invariant.of_graph in
    (c.lines.invariant.so_far of.0 of.2).put.same_writer

pub returns-in-Failed-clause-same_writer : goal.returns-in-Failed-clause-same_writer
returns-in-Failed-clause-same_writer g c =
    let of = c.lines.invariant.of_graph in
    (c.lines.invariant.so_far of.0 of.2).put.same_writer
