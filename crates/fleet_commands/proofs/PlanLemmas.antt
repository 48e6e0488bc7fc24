-- Lines of plans behind lines of another kind.
use Rattle.std.proofs.Common.{◌≡◌, ◌∙◌, ℕ, List, [], ◌∷◌, ◌++◌, Some, None, Ok, Err, inl, inr, refl, append_assoc}
use Rattle.std.specs.Prelude.{Option, Result}
use Rattle.model.specs.Plan.{Plan}
use Rattle.agent_commands.specs.declared.agent_fault.AgentFault.{AgentFault}
use Rattle.fleet_commands.specs.PlansBeside.{ComparesNext, parting_time}
use Rattle.fleet_commands.specs.declared.plans_beside.Foremost.{Foremost}
use Rattle.fleet_commands.specs.declared.status_line.StatusLine.{StatusLine}
use Rattle.fleet_commands.specs.declared.status_line.StatusLine.TheVariants.{BesideFault, Parted}

-- what stands before them stays
pub behind-front : (front : List StatusLine) (i : ℕ) (found : Result (Option Plan) AgentFault) (before after : Option Foremost) (earlier lines : List StatusLine)
    → ComparesNext i found before after (front ++ earlier) lines → (more : List StatusLine) × ComparesNext i found before after earlier more × (lines ≡ front ++ more)
behind-front front i (Err fault) before after earlier lines comes =
    (earlier ++ BesideFault i fault ∷ [], (comes.0, refl), comes.1 ∙ append_assoc front earlier (BesideFault i fault ∷ []))
behind-front front i (Ok None) before after earlier lines comes = (earlier, (comes.0, refl), comes.1)
behind-front front i (Ok (Some p)) None after earlier lines comes = (earlier, (comes.0, refl), comes.1)
behind-front front i (Ok (Some p)) (Some first) after earlier lines comes = elim comes.2 [
  | inl goes ↦ (earlier, (comes.0, comes.1, inl (goes.0, goes.1, refl)), goes.2)
  | inr other ↦ (elim other [
    | inl stays ↦ (earlier, (comes.0, comes.1, inr (inl (stays.0, stays.1, stays.2, stays.3, refl))), stays.4)
    | inr parts ↦
        (let line = Parted first.agent i (parting_time parts.0) ∷ [] in
        (earlier ++ line, (comes.0, comes.1, inr (inr (parts.0, parts.1, parts.2, parts.3, parts.4, refl))), parts.5 ∙ append_assoc front earlier line))
  ])
]
