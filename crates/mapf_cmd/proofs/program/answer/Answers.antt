-- The command was performed, told, and explained where that is asked for.
use Rattle.std.proofs.Common.{◌≡◌, ◌∙◌, Option, None, Some, ap, refl, subst, sym}
use Rattle.std.specs.Prelude.{option_map}
use Rattle.text_io.specs.FaultWords.{Words, words_of}
use Rattle.ending.specs.Ending.{end_of}
use Rattle.mapf_cmd.specs.Program.{Explains, explained_of}
use Rattle.mapf_cmd.proofs.program.answer.Goals as goal

pub returns-in-Some : goal.returns-in-Some
returns-in-Some g c =
    let end = end_of c.perform-ending.result in
    let shown : explained_of c.args.asked.now.explain end ≡ Some (words_of c.in-Some.words) = ap (λ e. explained_of e end) c.if-asked.true ∙ ap (option_map words_of) c.in-Some.is in
    let Shows : Option Words → Type 0 = λ words. Explains g.E.Write.contents words c.conclude-status.new.err c.explain_fault.new.err in
    record {
      end = end;
      performs = c.perform-ending.ensures.performs;
      shown = c.perform-ending.new.err;
      shows = c.perform-ending.ensures.shows;
      so_far = c.conclude-status.new.err;
      concludes = c.conclude-status.ensures;
      explains = subst Shows (sym shown) c.explain_fault.ensures;
    }

pub returns-in_default : goal.returns-in_default
returns-in_default g c =
    let end = end_of c.perform-ending.result in
    let none : explained_of c.args.asked.now.explain end ≡ None = ap (λ e. explained_of e end) c.if-asked.true ∙ ap (option_map words_of) c.in_default.is in
    let Shows : Option Words → Type 0 = λ words. Explains g.E.Write.contents words c.conclude-status.new.err c.conclude-status.new.err in
    record {
      end = end;
      performs = c.perform-ending.ensures.performs;
      shown = c.perform-ending.new.err;
      shows = c.perform-ending.ensures.shows;
      so_far = c.conclude-status.new.err;
      concludes = c.conclude-status.ensures;
      explains = subst Shows (sym none) refl;
    }

pub returns-else-asked : goal.returns-else-asked
returns-else-asked g c =
    let end = end_of c.perform-ending.result in
    let none : explained_of c.args.asked.now.explain end ≡ None = ap (λ e. explained_of e end) c.if-asked.false in
    let Shows : Option Words → Type 0 = λ words. Explains g.E.Write.contents words c.conclude-status.new.err c.conclude-status.new.err in
    record {
      end = end;
      performs = c.perform-ending.ensures.performs;
      shown = c.perform-ending.new.err;
      shows = c.perform-ending.ensures.shows;
      so_far = c.conclude-status.new.err;
      concludes = c.conclude-status.ensures;
      explains = subst Shows (sym none) refl;
    }
