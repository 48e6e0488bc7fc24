-- An agent that was read is added to the plan, or is one too many, or has too many acts.
use Rattle.std.proofs.Common.{◌≡◌, ℕ, zero, suc, ◌+◌, ◌-◌, ◌<◌, ◌≤◌, ◌⊎◌, inl, inr, List, [], ◌∷◌, ◌++◌, length, refl, sym, ap, ◌∙◌, subst, arith}
use Rattle.std.proofs.lemmas.Bool.{cases_lt}
use Rattle.std.proofs.lemmas.List.{length-map}
use Rattle.model.specs.declared.act.Act.{Act}
use Rattle.model.specs.Plan.{Course, Plan}
use Rattle.plan_text.specs.declared.plan_reader.Due.{Due}
use Rattle.plan_text.specs.declared.plan_reader.Due.TheVariants.{Agent}
use Rattle.plan_text.specs.declared.plan_text_fault.PlanTextFault.TheVariants.{TooMany}
use Rattle.plan_text.specs.Limits.{most_agents, most_acts, most_acts_in_all, acts_in}
use Rattle.plan_text.specs.PlanText.{act_character, acts_text, SpellsCourse}
use Rattle.plan_text.specs.PlanTextFault.{agent_due, IsLineDue, longest_plan_line, HasParts, HasStart}
use Rattle.plan_text.specs.Code.PlanLines.{due_seen, PlanAdds, PlanRefuses, HasReadPlan}
use Rattle.plan_text.proofs.LimitLemmas.{acts_in-push}
use Rattle.plan_text.proofs.SpellingLemmas.{HasParts-course, acts-pass}

-- the plan's limits, past which an agent is not added
abbrev pub PassesLimit : Plan → List Act → Type 0
PassesLimit p acts =
    (length p.courses ≡ most_agents) ⊎ ((most_acts < length acts) ⊎ (most_acts_in_all < acts_in p.courses + length acts))

module _ (p : Plan) (lines : List (List ℕ)) (line : List ℕ) (course : Course) (column : course.start.x < 65536) (row : course.start.y < 65536) (spells : SpellsCourse course line) where
  start_of : (acts : List Act) → acts ≡ course.acts → HasStart (acts_text acts) line
  start_of acts e = record {
    x = spells.x;
    y = spells.y;
    parts = subst (λ list. HasParts spells.x spells.y (acts_text list) line) (sym e) (HasParts-course course line spells);
    is_x = (course.start.x, spells.is_x, column);
    is_y = (course.start.y, spells.is_y, row);
  }

  -- too many acts are some
  many_acts : (number left : ℕ) → length line ≤ longest_plan_line → acts_in p.courses ≤ most_acts_in_all → (acts : List Act) → acts ≡ course.acts
      → (most_acts < length acts) ⊎ (most_acts_in_all < acts_in p.courses + length acts)
      → PlanRefuses (agent_due (suc left) (acts_in p.courses)) number line (TooMany number)
  many_acts number left short fits [] e (inl many) = absurd (omega arith)
  many_acts number left short fits [] e (inr many) = absurd (omega arith)
  many_acts number left short fits (act ∷ acts) e many =
      let same = length-map (act ∷ acts) act_character in
      inr (refl, inr (record { ended = refl; short = short }, (acts_text (act ∷ acts), start_of (act ∷ acts) e, acts-pass (act ∷ acts), counts same many)))
    where
      counts : length (acts_text (act ∷ acts)) ≡ length (act ∷ acts)
          → (most_acts < length (act ∷ acts)) ⊎ (most_acts_in_all < acts_in p.courses + length (act ∷ acts))
          → (most_acts < length (acts_text (act ∷ acts))) ⊎ (most_acts_in_all < acts_in p.courses + length (acts_text (act ∷ acts)))
      counts same (inl h) = inl (omega arith)
      counts same (inr h) = inr (omega arith)

  refused : (number left : ℕ) → length line ≤ longest_plan_line → HasReadPlan (agent_due left (acts_in p.courses)) p lines
      → IsLineDue (agent_due left (acts_in p.courses)) → PassesLimit p course.acts
      → PlanRefuses (agent_due left (acts_in p.courses)) number line (TooMany number)
  refused number zero short read due limit = absurd due
  refused number (suc left) short read due (inl full) = absurd (omega (arith, read.said.6, full))
  refused number (suc left) short read due (inr many) = many_acts number left short read.within.acts_limit course.acts refl many

  -- one that the plan has no room for is refused
  pub agent_refused : (due : Due) (number left : ℕ) → due ≡ Agent left → length line ≤ longest_plan_line → HasReadPlan (due_seen due p) p lines
      → IsLineDue (due_seen due p) → PassesLimit p course.acts → PlanRefuses (due_seen due p) number line (TooMany number)
  agent_refused due number left is short read is_due limit =
      subst (λ d. PlanRefuses (due_seen d p) number line (TooMany number)) (sym is)
      (refused number left short (subst (λ d. HasReadPlan (due_seen d p) p lines) is read) (subst (λ d. IsLineDue (due_seen d p)) is is_due) limit)

  added : (left : ℕ) (q : Plan) → IsLineDue (agent_due left (acts_in p.courses)) → (PassesLimit p course.acts → ⊥)
      → q ≡ record p { courses = p.courses ++ course ∷ [] }
      → PlanAdds (agent_due left (acts_in p.courses)) p line (agent_due (left - 1) (acts_in q.courses)) q
  added zero q due within is = absurd due
  added (suc left) q due within is =
      let few : length course.acts ≤ most_acts = elim (cases_lt most_acts (length course.acts)) [ inl many ↦ absurd (within (inr (inl many))) | inr most ↦ most ] in
      let fits : acts_in p.courses + length course.acts ≤ most_acts_in_all =
      elim (cases_lt most_acts_in_all (acts_in p.courses + length course.acts)) [ inl many ↦ absurd (within (inr (inr many))) | inr most ↦ most ] in
      let count : acts_in q.courses ≡ acts_in p.courses + length course.acts = ap (λ r. acts_in r.courses) is ∙ acts_in-push p.courses course in
      let one : suc left - 1 ≡ left = omega arith in (
        course,
        spells,
        record { column = column; row = row; acts_limit = few },
        fits,
        ap (λ k. agent_due k (acts_in q.courses)) one ∙ ap (agent_due left) count,
        is,
      )

  -- another one is added
  pub agent_added : (due : Due) (left : ℕ) (q : Plan) → due ≡ Agent left → IsLineDue (due_seen due p) → (PassesLimit p course.acts → ⊥)
      → q ≡ record p { courses = p.courses ++ course ∷ [] } → PlanAdds (due_seen due p) p line (agent_due (left - 1) (acts_in q.courses)) q
  agent_added due left q is is_due within more =
      subst (λ d. PlanAdds (due_seen d p) p line (agent_due (left - 1) (acts_in q.courses)) q) (sym is)
      (added left q (subst (λ d. IsLineDue (due_seen d p)) is is_due) within more)
