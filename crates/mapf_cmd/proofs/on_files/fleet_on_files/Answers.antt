-- What was answered is what was asked.
use Rattle.std.proofs.Common.{subst, sym}
use Rattle.command_line.specs.declared.run_words.FleetQuery.{FleetQuery}
use Rattle.ending.specs.Ending.{end_of}
use Rattle.mapf_cmd.specs.Program.{AnswersFleet, IsJustOpened, OnTwoFiles}
use Rattle.mapf_cmd.proofs.on_files.fleet_on_files.Goals as goal

pub returns-in-Status : goal.returns-in-Status
returns-in-Status g c =
    let Answers : FleetQuery → Type 0 = λ query. OnTwoFiles (IsJustOpened g.R.Reader.Read.remaining g.R.ReadFiles.was_done)
    (λ p q r s. AnswersFleet g.R.Reader.Read.remaining g.R.Reader.Read.remaining g.R.ReadFiles.was_done g.W.Write.contents query p q r s
    c.args.out.now c.perform-ending.new.out (end_of c.perform-ending.result)) in
    subst Answers (sym c.in-Status.is) (
      c.in_ok-map.map,
      c.perform-ending.new.map,
      c.in_ok-plan.plan,
      c.perform-ending.new.plan,
      c.in_ok-map.ensures,
      c.in_ok-plan.ensures,
      c.perform-ending.ensures,
    )

pub returns-in-Lost : goal.returns-in-Lost
returns-in-Lost g c =
    let Answers : FleetQuery → Type 0 = λ query. OnTwoFiles (IsJustOpened g.R.Reader.Read.remaining g.R.ReadFiles.was_done)
    (λ p q r s. AnswersFleet g.R.Reader.Read.remaining g.R.Reader.Read.remaining g.R.ReadFiles.was_done g.W.Write.contents query p q r s
    c.args.out.now c.perform-ending-in-Lost.new.out (end_of c.perform-ending-in-Lost.result)) in
    subst Answers (sym c.in-Lost.is) (
      c.in_ok-map.map,
      c.perform-ending-in-Lost.new.map,
      c.in_ok-plan.plan,
      c.perform-ending-in-Lost.new.plan,
      c.in_ok-map.ensures,
      c.in_ok-plan.ensures,
      c.perform-ending-in-Lost.ensures,
    )

pub returns-in-Handover : goal.returns-in-Handover
returns-in-Handover g c =
    let Answers : FleetQuery → Type 0 = λ query. OnTwoFiles (IsJustOpened g.R.Reader.Read.remaining g.R.ReadFiles.was_done)
    (λ p q r s. AnswersFleet g.R.Reader.Read.remaining g.R.Reader.Read.remaining g.R.ReadFiles.was_done g.W.Write.contents query p q r s
    c.args.out.now c.perform-ending-in-Handover.new.out (end_of c.perform-ending-in-Handover.result)) in
    subst Answers (sym c.in-Handover.is) (
      c.in_ok-map.map,
      c.perform-ending-in-Handover.new.map,
      c.in_ok-plan.plan,
      c.perform-ending-in-Handover.new.plan,
      c.in_ok-map.ensures,
      c.in_ok-plan.ensures,
      c.perform-ending-in-Handover.ensures,
    )

pub returns : goal.returns
returns g c =
    let Answers : FleetQuery → Type 0 = λ query. OnTwoFiles (IsJustOpened g.R.Reader.Read.remaining g.R.ReadFiles.was_done)
    (λ p q r s. AnswersFleet g.R.Reader.Read.remaining g.R.Reader.Read.remaining g.R.ReadFiles.was_done g.W.Write.contents query p q r s
    c.args.out.now c.perform-ending-in-Anew.new.out (end_of c.perform-ending-in-Anew.result)) in
    subst Answers (sym c.in-Anew.is) (
      c.in_ok-map.map,
      c.perform-ending-in-Anew.new.map,
      c.in_ok-plan.plan,
      c.perform-ending-in-Anew.new.plan,
      c.in_ok-map.ensures,
      c.in_ok-plan.ensures,
      c.perform-ending-in-Anew.ensures,
    )
