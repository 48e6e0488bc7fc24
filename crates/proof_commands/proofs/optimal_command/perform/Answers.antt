-- The proof is read where the plan is valid.
use Rattle.std.proofs.Common.{◌∙◌, ap, inl, inr, refl}
use Rattle.ending.specs.Ending.{gave_up}
use Rattle.proof_commands.proofs.optimal_command.perform.Goals as goal

pub returns-in-Ok : goal.returns-in-Ok
returns-in-Ok g c = inr (c.in-Ok.on_map.map, c.in-Ok.on_map.plan, c.in-Ok.ensures, c.answer.ensures)

pub returns-in-Err : goal.returns-in-Err
returns-in-Err g c = inl (c.in-Err.fault, c.in-Err.ensures, refl, c.gave_up.ensures ∙ ap gave_up c.words.ensures, refl)
