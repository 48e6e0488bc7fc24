-- At the end each act is that of its character.
use Rattle.std.proofs.Common.{get_or, set, map, inl, inr, arith, sym, ap, ◌∙◌}
use Rattle.std.proofs.lemmas.Bool.{cases_eq}
use Rattle.std.proofs.lemmas.List.{length-set, length-map, get_or-set_same, get_or-set_other, get_or-map, ext_get_or}
use Rattle.model.specs.declared.act.Act.TheVariants.{Wait}
use Rattle.plan_text.specs.Code.PlanLines.{act_by}
use Rattle.plan_text.proofs.agent_line.acts_of.Goals as goal

pub loop-i-preserved : goal.loop-i-preserved
loop-i-preserved c =
    let now = c.loop-i.invariant in
    let acts = c.loop-i.acts.items in
    let i = c.loop-i.i in
    let own = c.act_by.result in
    let count = now.count in
    record {
      count = length-set acts i own ∙ count;
      each = λ k less. elim (cases_eq k i) [
        | inl same ↦
            ap (λ j. get_or (set acts i own) j Wait) same ∙ get_or-set_same acts i own Wait (omega (arith, count)) ∙ c.act_by.ensures
            ∙ ap (λ j. act_by (get_or c.args.characters.now j 0)) (sym same)
        | inr apart ↦ get_or-set_other acts i k own Wait apart ∙ now.each k (omega (arith, less, apart))
      ];
    }

pub returns : goal.returns
returns c =
    let now = c.loop-i.invariant in
    let count = now.count in
    let past = c.loop-i-test.false in
    let characters = c.args.characters.now in
    ext_get_or Wait c.loop-i.acts.items (map act_by characters) (count ∙ sym (length-map characters act_by))
    (λ k less. now.each k (omega (arith, less, past, count)) ∙ sym (get_or-map act_by characters k 0 Wait (omega (arith, less, count))))
