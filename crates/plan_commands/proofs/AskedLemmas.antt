-- The courses that are asked for.
use Rattle.std.proofs.Common.{◌≡◌, ℕ, zero, suc, ◌+◌, ◌-◌, ◌<◌, List, [], ◌∷◌, length, get_or, take, drop, Option, None, Some, arith, sym, ap, subst, ◌∙◌}
use Rattle.std.specs.Prelude.{slice_get}
use Rattle.std.proofs.lemmas.List.{drop_more}
use Rattle.std.proofs.lemmas.Option.{slice_get-get_or}
use Rattle.model.specs.Plan.{Course, Plan}
use Rattle.checker.specs.Laws.Walking.{no_course}
use Rattle.plan_commands.specs.PathText.{AreAsked}
use Rattle.plan_commands.specs.Code.Rows.{AllWalked}

-- the one course from a place on is that of the agent
pub asked_one : (p : Plan) (agent : Option ℕ) (i at : ℕ) (courses : List Course) → agent ≡ Some i → at ≡ i → courses ≡ p.courses → at < length courses
    → AreAsked p agent (take (at + 1 - at) (drop at courses))
asked_one p agent i at courses is same all less =
    let one : at + 1 - at ≡ suc zero = omega arith in
    subst (λ o. AreAsked p o (take (at + 1 - at) (drop at courses))) (sym is) (
      get_or courses at no_course,
      ap (λ n. slice_get p.courses n) (sym same) ∙ ap (λ l. slice_get l at) (sym all) ∙ slice_get-get_or courses at no_course less,
      ap (λ n. take n (drop at courses)) one ∙ ap (take (suc zero)) (drop_more courses at no_course less),
    )

-- what is asked for of a plan whose agents all go their ways
pub asked_walked : (p : Plan) (agent : Option ℕ) (courses : List Course) → AllWalked p.courses → AreAsked p agent courses → AllWalked courses
asked_walked p None courses walked same = subst AllWalked (sym same) walked
asked_walked p (Some agent) courses walked asked = subst AllWalked (sym asked.2) one where
  one : AllWalked (asked.0 ∷ [])
  one zero course there = walked agent course (asked.1 ∙ there)
  one (suc i) course there = cc
