use Rattle.std.proofs.Common.{subst}
use Rattle.std.specs.Prelude.{is_ok}
use Rattle.ending.specs.Ending.{End, end_of}
use Rattle.ending.specs.Finishing.{FinishesWriting}
use Rattle.ending.specs.Laws.Ending.{ends_writing}
use Rattle.mapf_cmd.proofs.unperformed.show.Goals as goal

pub returns : goal.returns
returns g c =
    let Finished : End → Type 0 = λ success. FinishesWriting g.W.Write.contents (is_ok c.write_text-written.result) success c.write_text-written.new.writer c.finish.new.out (end_of c.finish.result) in
    record {
      end = end_of c.finish.result;
      ends = ends_writing g.W.Write.contents c.args.out.now c.write_text-written.new.writer c.finish.new.out c.args.text.now (is_ok c.write_text-written.result) _ _ c.write_text-written.ensures
          (subst Finished c.answered_with.ensures c.finish.ensures);
      concludes = c.conclude.ensures;
    }
