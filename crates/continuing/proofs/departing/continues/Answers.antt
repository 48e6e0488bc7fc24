-- Nobody is elsewhere, or somebody is first.
use Rattle.std.proofs.Common.{◌+◌, length, Some, None, arith, sym, ap, subst, ◌∙◌}
use Rattle.model.specs.Plan.{longest_of}
use Rattle.continuing.specs.Code.Apart.{IsFirstOf}
use Rattle.continuing.proofs.ElsewhereLemmas.{few-acts, first-of, none-elsewhere, first-elsewhere}
use Rattle.continuing.proofs.departing.continues.Goals as goal

pub overflow_add-past : goal.overflow_add-past
overflow_add-past c =
    let few = few-acts c.args.old.now c.number-2.ensures.within in
    let end = c.longest-past.ensures ∙ ap longest_of c.courses.ensures.courses in
    omega (arith, few, end)

pub overflow_cast-result-in-Some-default : goal.overflow_cast-result-in-Some-default
overflow_cast-result-in-Some-default c =
    let few = few-acts c.args.old.now c.number-2.ensures.within in
    let end = c.longest-past.ensures ∙ ap longest_of c.courses.ensures.courses in
    let first
    = first-of c.courses-2.result.now c.courses-3.result.now c.args.old.now c.args.new.now (c.longest-past.result + 1) (Some c.in-Some-default.agent)
    c.first_elsewhere.result.1 c.courses-2.ensures.courses c.courses-3.ensures.courses
    (subst (λ o. IsFirstOf c.courses-2.result.now c.courses-3.result.now (length c.courses-2.result.now) (c.longest-past.result + 1) o c.first_elsewhere.result.1)
    c.in-Some-default.is-0 c.first_elsewhere.ensures) in
    let early = first.1.1 in
    omega (arith, few, end, early)

pub returns-in-Some-default : goal.returns-in-Some-default
returns-in-Some-default c =
    let number = sym c.number.ensures.number ∙ c.if-number.false ∙ c.number-2.ensures.number in
    let count = sym c.agents.ensures.agents ∙ c.if-agents.false ∙ c.agents-2.ensures.agents in
    let end = c.longest-past.ensures ∙ ap longest_of c.courses.ensures.courses in
    let first
    = first-of c.courses-2.result.now c.courses-3.result.now c.args.old.now c.args.new.now (c.longest-past.result + 1) (Some c.in-Some-default.agent)
    c.first_elsewhere.result.1 c.courses-2.ensures.courses c.courses-3.ensures.courses
    (subst (λ o. IsFirstOf c.courses-2.result.now c.courses-3.result.now (length c.courses-2.result.now) (c.longest-past.result + 1) o c.first_elsewhere.result.1)
    c.in-Some-default.is-0 c.first_elsewhere.ensures) in (
      number,
      count,
      first-elsewhere c.args.old.now c.args.new.now count (c.longest-past.result + 1) c.in-Some-default.agent c.first_elsewhere.result.1
          (ap (λ n. n + 1) end) first,
    )

pub returns-in-None-default : goal.returns-in-None-default
returns-in-None-default c =
    let number = sym c.number.ensures.number ∙ c.if-number.false ∙ c.number-2.ensures.number in
    let count = sym c.agents.ensures.agents ∙ c.if-agents.false ∙ c.agents-2.ensures.agents in
    let end = c.longest-past.ensures ∙ ap longest_of c.courses.ensures.courses in
    none-elsewhere c.args.old.now c.args.new.now count (c.longest-past.result + 1) c.first_elsewhere.result.1 number (ap (λ n. n + 1) end)
    (first-of c.courses-2.result.now c.courses-3.result.now c.args.old.now c.args.new.now (c.longest-past.result + 1) None
    c.first_elsewhere.result.1 c.courses-2.ensures.courses c.courses-3.ensures.courses
    (subst (λ o. IsFirstOf c.courses-2.result.now c.courses-3.result.now (length c.courses-2.result.now) (c.longest-past.result + 1) o c.first_elsewhere.result.1)
    c.in-None-default.is-0 c.first_elsewhere.ensures))
