use Rattle.std.proofs.Common.{◌∙◌, List, ℕ, ap, refl, subst, sym}
use Rattle.command_line.specs.declared.command_line.LineFault.{LineFault}
use Rattle.ending.specs.Ending.{EndsAndTells, answered_with, end_of, gave_up}
use Rattle.ending.specs.Rewriting.{EndsWriting}
use Rattle.ending.specs.declared.status.Status.TheVariants.{Done}
use Rattle.mapf_cmd.specs.Program.{EndsRefused}
use Rattle.mapf_cmd.proofs.unperformed.refuse.Goals as goal

pub returns-in-Help : goal.returns-in-Help
returns-in-Help g c =
    let Ends : LineFault → Type 0 = λ fault. EndsRefused g.W.Write.contents g.E.Write.contents fault c.args.out.now c.show.new.out c.args.err.now c.show.new.err c.show.result in
    let Shown : List ℕ → Type 0 = λ bytes. EndsAndTells (λ end. EndsWriting g.W.Write.contents c.args.out.now c.show.new.out (answered_with Done) end bytes) g.E.Write.contents c.args.err.now
    c.show.new.err c.show.result in
    subst Ends (sym c.in-Help.is) (subst Shown c.as_bytes.ensures.value c.show.ensures)

pub returns-in-OutOfMemory : goal.returns-in-OutOfMemory
returns-in-OutOfMemory g c =
    rw c.in-OutOfMemory.is (record { end = end_of c.gave_up.result; ends = (c.gave_up.ensures ∙ ap gave_up c.words.ensures, refl); concludes = c.conclude.ensures })
