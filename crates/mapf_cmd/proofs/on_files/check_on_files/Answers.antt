use Rattle.std.proofs.Common.{Option, subst, sym}
use Rattle.std.specs.Prelude.{String}
use Rattle.std.specs.Global.{Global}
use Rattle.ending.specs.Ending.{end_of}
use Rattle.mapf_cmd.specs.Program.{CheckOn, terms_of}
use Rattle.mapf_cmd.proofs.on_files.check_on_files.Goals as goal

pub returns-in-None : goal.returns-in-None
returns-in-None g c =
    let Ends : Option (String Global) → Type 0 = λ scen. CheckOn g.R.Reader.Read.remaining g.R.ReadFiles.was_done g.W.Write.contents scen
    (terms_of c.args.line.now) c.args.out.now c.perform.new.out (end_of c.perform.result)
    in
    subst Ends (sym c.in-None.is) (c.in_ok-map.map, c.perform.new.map, c.in_ok-plan.plan, c.perform.new.plan, c.in_ok-map.ensures, c.in_ok-plan.ensures, c.perform.ensures)

pub returns : goal.returns
returns g c =
    let Ends : Option (String Global) → Type 0 = λ scen. CheckOn g.R.Reader.Read.remaining g.R.ReadFiles.was_done g.W.Write.contents scen
    (terms_of c.args.line.now) c.args.out.now c.perform_fit.new.out
    (end_of c.perform_fit.result) in
    subst Ends (sym c.in-Some.is) (
      c.in_ok-map.map,
      c.perform_fit.new.map,
      c.in_ok-plan.plan,
      c.perform_fit.new.plan,
      c.in_ok-scen-in-Some.scen,
      c.perform_fit.new.scen,
      c.in_ok-map.ensures,
      c.in_ok-plan.ensures,
      c.in_ok-scen-in-Some.ensures,
      c.perform_fit.ensures,
    )
