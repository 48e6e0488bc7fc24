-- No act, a byte that is none, or acts.
use Rattle.std.proofs.Common.{◌≡◌, ◌≢◌, ℕ, ◌+◌, ◌-◌, List, false, IsTrue, ◌∷◌, [], length, inr, refl, sym, ap, ◌∙◌, arith}
use Rattle.std.specs.List.{list_all}
use Rattle.std.specs.Str.{bytes_eq}
use Rattle.std.specs.Cmp.Lexicographic.{same_text, bytes_decides}
use Rattle.std.proofs.lemmas.Bool.{both_ways}
use Rattle.plan_text.specs.PlanText.{no_act, acts_text}
use Rattle.plan_text.specs.PlanTextFault.{is_act}
use Rattle.plan_text.proofs.LineSays.{acts-le-line, acts_text-by, SpellsCourse-from_parts, HasOtherAct-from_parts}
use Rattle.plan_text.proofs.agent_line.read_agent.Goals as goal

pub returns-then-eq : goal.returns-then-eq
returns-then-eq c =
    let acts = c.in-Some.parts.acts.now in
    let none : acts ≡ no_act ∷ [] = same_text acts (no_act ∷ []) (c.if-eq.ensures ∙ ap (bytes_eq acts) c.as_slice.ensures) in
    SpellsCourse-from_parts (record { start = c.in-Some-start.start; acts = c.new.result.items }) c.in-Some.parts.x.now c.in-Some.parts.y.now acts
    c.args.line.now c.in-Some.ensures c.in-Some-start.ensures.0 c.in-Some-start.ensures.1 (none ∙ ap acts_text (sym c.new.ensures.items))

pub overflow_sub-column : goal.overflow_sub-column
overflow_sub-column c = acts-le-line c.in-Some.parts.x.now c.in-Some.parts.y.now c.in-Some.parts.acts.now c.args.line.now c.in-Some.ensures

pub overflow_cast-result : goal.overflow_cast-result
overflow_cast-result c =
    let fits = acts-le-line c.in-Some.parts.x.now c.in-Some.parts.y.now c.in-Some.parts.acts.now c.args.line.now c.in-Some.ensures in
    omega (arith, fits, c.in-Some-other_place.ensures.2, c.requires)

-- the acts are not those of none
some_acts : (acts given : List ℕ) → given ≡ no_act ∷ [] → false ≡ bytes_eq acts given → acts ≢ no_act ∷ []
some_acts acts given is differ e =
    both_ways (bytes_eq acts (no_act ∷ [])) (ap (bytes_eq acts) (sym is) ∙ sym differ) ((bytes_decides acts (no_act ∷ [])).1 e)

pub returns-in-Some-other_place : goal.returns-in-Some-other_place
returns-in-Some-other_place c =
    let x = c.in-Some.parts.x.now in
    let y = c.in-Some.parts.y.now in
    let acts = c.in-Some.parts.acts.now in
    let start = c.in-Some-start.start in
    let place = c.in-Some-other_place.ensures in
    inr (λ left before. (
      refl,
      record { ended = refl; short = c.requires },
      left,
      before,
      refl,
      HasOtherAct-from_parts x y acts c.args.line.now _ c.in-Some.ensures (start.x, c.in-Some-start.ensures.0, omega arith)
          (start.y, c.in-Some-start.ensures.1, omega arith) (some_acts acts c.as_slice.result.now c.as_slice.ensures c.if-eq.ensures) place.0
          (ap (λ n. length c.args.line.now - length acts + n + 1) place.1),
    ))

pub returns : goal.returns
returns c =
    let acts = c.in-Some.parts.acts.now in
    let pass : IsTrue (list_all is_act acts) = c.in_default-other_place.ensures in
    SpellsCourse-from_parts (record { start = c.in-Some-start.start; acts = c.in_ok-acts_of.field-0.items }) c.in-Some.parts.x.now
    c.in-Some.parts.y.now acts c.args.line.now c.in-Some.ensures c.in-Some-start.ensures.0 c.in-Some-start.ensures.1
    (acts_text-by acts c.in-Some.ensures.some_acts pass ∙ ap acts_text (sym c.in_ok-acts_of.ensures))
