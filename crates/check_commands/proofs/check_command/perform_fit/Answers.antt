-- What the check comes to, by how each call ended.
use Rattle.std.proofs.Common.{◌≡◌, ◌∙◌, ap, refl, subst}
use Rattle.std.specs.Prelude.{MatchResult}
use Rattle.ending.specs.Ending.{end_of, gave_up}
use Rattle.checker.specs.Checking.{IsCheckOf, IsRefusedFor}
use Rattle.check_commands.specs.CheckCommand.{EndsByRefusal, ReadsAndFits}
use Rattle.check_commands.specs.CheckCommand.Came.{differing, refused, unread, valid}
use Rattle.check_commands.specs.declared.check_fault.CheckFault.TheVariants as check_fault
use Rattle.check_commands.proofs.check_command.perform_fit.Goals as goal

pub returns-in-Err : goal.returns-in-Err
returns-in-Err g c = record {
  came = unread (check_fault.Planned c.in-Err.fault);
  comes = (c.in-Err.ensures, refl);
  ends = (c.gave_up.ensures ∙ ap gave_up c.words.ensures, refl);
}

pub returns-in-Err-checked : goal.returns-in-Err-checked
returns-in-Err-checked g c =
    let on = c.in-Ok.on_map in
    let read = c.in-Ok.ensures in
    let r = c.in-Err-checked.rejected in
    let told = subst (λ checked. MatchResult checked (IsCheckOf on.map read.0) (λ r. (r.plan ≡ read.0) × IsRefusedFor on.map read.0 r.fault)) c.in-Err-checked.is read.2 in
    record {
      came = refused on.map read.0 r.fault;
      comes = (read.1, told.1, refl);
      ends = subst (λ plan. EndsByRefusal g.W.Write.contents c.args.terms.now.all c.args.terms.now.json on.map plan r.fault c.args.out.now c.refuse.new.out (end_of c.refuse.result)) told.0
          c.refuse.ensures;
    }

pub returns-in-Ok-Ok : goal.returns-in-Ok-Ok
returns-in-Ok-Ok g c =
    let on = c.in-Ok.on_map in
    let read = c.in-Ok.ensures in
    let told = subst (λ checked. MatchResult checked (IsCheckOf on.map read.0) (λ r. (r.plan ≡ read.0) × IsRefusedFor on.map read.0 r.fault)) c.in-Ok-checked.is read.2 in
    record {
      came = valid on.map c.in-Ok-checked.plan;
      comes = ((read.0, read.1, told), subst (ReadsAndFits g.S.Read.remaining c.args.scen.now c.fit.new.scen c.in-Ok-checked.plan c.args.terms.now.due) c.in-Ok-Ok.field-0-is c.in-Ok-Ok.ensures);
      ends = c.accept.ensures;
    }

pub returns-in-Ok-Err : goal.returns-in-Ok-Err
returns-in-Ok-Err g c =
    let on = c.in-Ok.on_map in
    let read = c.in-Ok.ensures in
    let told = subst (λ checked. MatchResult checked (IsCheckOf on.map read.0) (λ r. (r.plan ≡ read.0) × IsRefusedFor on.map read.0 r.fault)) c.in-Ok-checked.is read.2 in
    record {
      came = differing c.in-Ok-Err.fault;
      comes = (
        on.map,
        c.in-Ok-checked.plan,
        (read.0, read.1, told),
        subst (ReadsAndFits g.S.Read.remaining c.args.scen.now c.fit.new.scen c.in-Ok-checked.plan c.args.terms.now.due)
            c.in-Ok-Err.field-0-is c.in-Ok-Err.ensures,
      );
      ends = c.differ.ensures;
    }

pub returns : goal.returns
returns g c =
    let on = c.in-Ok.on_map in
    let read = c.in-Ok.ensures in
    let told = subst (λ checked. MatchResult checked (IsCheckOf on.map read.0) (λ r. (r.plan ≡ read.0) × IsRefusedFor on.map read.0 r.fault)) c.in-Ok-checked.is read.2 in
    record {
      came = unread (check_fault.Scen c.in-Err-fit.fault);
      comes = (on.map, c.in-Ok-checked.plan, (read.0, read.1, told), c.in-Err-fit.ensures);
      ends = (c.gave_up-in-Err-fit.ensures ∙ ap gave_up c.words-in-Err-fit.ensures, refl);
    }
