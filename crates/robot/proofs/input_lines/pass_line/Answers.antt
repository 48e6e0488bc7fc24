-- The front of the line and what was passed is the line.
use Rattle.std.proofs.Common.{◌++◌, Err, subst}
use Rattle.text_io.specs.Lines.{LinePassed}
use Rattle.robot.proofs.InputLemmas.{has_rest, is_over, longer, not_empty}
use Rattle.robot.proofs.input_lines.pass_line.Goals as goal

pub returns-in-Ok-clause-came : goal.returns-in-Ok-clause-came
returns-in-Ok-clause-came g c = λ first before room h.
    let passed = c.in-Ok.ensures.passed first before h.line h.begun in
    (h.line ++ passed.0, longer room h.line passed.0 h.length_is, passed.1)

pub returns-in-Err-End-clause-came : goal.returns-in-Err-End-clause-came
returns-in-Err-End-clause-came g c = λ first before room h.
    let passed = subst (λ stop. LinePassed g.R.Read.remaining first c.pass_line.new.self before h.line (Err stop)) c.in-Err-End.field-0-is
    (c.in-Err-End.ensures.passed first before h.line h.begun) in
    let long = longer room h.line passed.0 h.length_is in (
      h.line ++ passed.0,
      long,
      not_empty room (h.line ++ passed.0) long,
      is_over g.R.Read.remaining first _ before (h.line ++ passed.0) passed.1 passed.2 passed.3,
    )

pub returns-in-Err-Failure-clause-came : goal.returns-in-Err-Failure-clause-came
returns-in-Err-Failure-clause-came g c = λ first before room h.
    let passed = subst (λ stop. LinePassed g.R.Read.remaining first c.pass_line.new.self before h.line (Err stop)) c.in-Err-Failure.field-0-is
    (c.in-Err-Failure.ensures.passed first before h.line h.begun) in
    (h.line ++ passed.0, has_rest g.R.Read.remaining first _ before (h.line ++ passed.0) passed.1, passed.2)
