use Rattle.std.proofs.Common.{sym, ◌∙◌, arith}
use Rattle.scenario.proofs.TrimLemmas.{without_trailing-front, without_trailing-whole}
use Rattle.scenario.proofs.fields.trim_end.Goals as goal

pub returns-then-not-is_blank : goal.returns-then-not-is_blank
returns-then-not-is_blank c =
    sym (without_trailing-whole c.loop-rest.rest.now (omega arith) (sym c.is_blank.ensures ∙ c.if-not-is_blank.true)) ∙ c.loop-rest.invariant

pub loop-rest-preserved : goal.loop-rest-preserved
loop-rest-preserved c =
    without_trailing-front c.loop-rest.rest.now (omega arith) (sym c.is_blank.ensures ∙ c.if-not-is_blank.false) ∙ c.loop-rest.invariant
