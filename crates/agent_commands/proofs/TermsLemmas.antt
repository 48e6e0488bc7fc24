-- Terms are those of one claim, and come with an agent's part.
use Rattle.std.proofs.Common.{◌≡◌, ℕ, Some, None, ap, subst, sym}
use Rattle.std.specs.Prelude.{Option}
use Rattle.model.specs.Plan.{Plan}
use Rattle.depgraph.specs.AgentParts.{AgentPart}
use Rattle.planned.specs.declared.reading.PlanAtHand.{PlanAtHand}
use Rattle.tape_claim.specs.declared.TapeClaim.{TapeClaim}
use Rattle.tape_claim.specs.declared.TapeClaim.TheVariants.{Any, New, Kept}
use Rattle.agent_commands.specs.Code.Plans.{IsOnTerms, IsPartOnTerms, IsTermsFor, claim_of}
use Rattle.agent_commands.specs.Code.Reading.{IsPartFor}
use Rattle.agent_commands.specs.declared.agent_part.PartAndTerms.{PartAndTerms}
use Rattle.agent_commands.specs.declared.terms.Terms.{Terms}

pub claim_of-terms : (claim : TapeClaim) (p : Plan) (t : Terms) → IsTermsFor claim p t → claim_of t ≡ claim
claim_of-terms Any p t is = ap claim_of is
claim_of-terms New p t is = ap claim_of is
claim_of-terms Kept p t is = ap claim_of is

pub part-on-terms
    : (claim : TapeClaim) (it : PlanAtHand) (i : ℕ) (own : Option AgentPart) (t : Terms) (result : Option PartAndTerms)
    → IsPartFor it.dependencies i own → IsTermsFor claim it.plan t → IsOnTerms own t result → IsPartOnTerms claim it i result
part-on-terms claim it i own t None part terms on = subst (IsPartFor it.dependencies i) on part
part-on-terms claim it i own t (Some result) part terms on =
    let its = subst (IsPartFor it.dependencies i) on.0 part in (its.0, its.1, subst (IsTermsFor claim it.plan) (sym on.1) terms)
