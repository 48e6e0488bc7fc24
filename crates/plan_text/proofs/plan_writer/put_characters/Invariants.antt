-- The piece begins with the characters of the acts so far.
use Rattle.std.proofs.Common.{◌≡◌, length, take, map}
use Rattle.plan_text.specs.PlanText.{act_character}
use Rattle.plan_text.proofs.plan_writer.put_characters.Given as goal

abbrev pub invariant-loop-i : goal.invariant-loop-i
invariant-loop-i g l = record { room : length l.piece ≡ 4096; characters : take l.i l.piece ≡ map act_character (take l.i l.acts) }
