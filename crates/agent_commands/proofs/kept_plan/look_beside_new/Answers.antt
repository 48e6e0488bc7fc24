-- The file beside the tape is the one that was opened.
use Rattle.std.proofs.Common.{ap, false, inr, subst, true}
use Rattle.agent_commands.specs.KeptPlan.{HasMark, HasNoPlan}
use Rattle.agent_commands.specs.Code.Plans.{ReadsMark}
use Rattle.agent_commands.proofs.PlanLemmas.{marked_first, no_line}
use Rattle.agent_commands.proofs.kept_plan.look_beside_new.Goals as goal

pub returns-in-Some-true : goal.returns-in-Some-true
returns-in-Some-true g c = (
  g.R.Reader.Read.remaining c.in-Ok.file,
  c.in-Ok.ensures,
  subst (HasMark true) (ap g.R.Reader.Read.remaining c.new.ensures.inner)
      (marked_first _ _ _ _ true c.in_ok-read_mark-in-Ok.ensures.ok c.in-Some-true.is c.in-Some-true.field-0-test),
)

pub returns-in-Some-false : goal.returns-in-Some-false
returns-in-Some-false g c = inr (
  g.R.Reader.Read.remaining c.in-Ok.file,
  c.in-Ok.ensures,
  subst (HasMark false) (ap g.R.Reader.Read.remaining c.new.ensures.inner)
      (marked_first _ _ _ _ false c.in_ok-read_mark-in-Ok.ensures.ok c.in-Some-false.is c.in-Some-false.field-0-test),
)

pub returns-in-Ok : goal.returns-in-Ok
returns-in-Ok g c = (
  g.R.Reader.Read.remaining c.in-Ok.file,
  c.in-Ok.ensures,
  subst HasNoPlan (ap g.R.Reader.Read.remaining c.new.ensures.inner) (no_line _ (subst (ReadsMark _ _) c.in-None.is c.in_ok-read_mark-in-Ok.ensures.ok)),
)
