-- How commands end that have written.
use Rattle.std.proofs.Common.{◌≡◌, ℕ, Bool, List, Option, None, refl, subst, sym}
use Rattle.text_io.specs.declared.counted.Counted.{Counted}
use Rattle.text_io.specs.Counted.{counted_inner, failures_of}
use Rattle.text_io.specs.FaultWords.{words_text}
use Rattle.text_io.specs.Writing.{WritesText}
use Rattle.grid.specs.Map.{Grid}
use Rattle.model.specs.FaultWords.{plan_fault_words}
use Rattle.model.specs.Plan.{Plan}
use Rattle.model.specs.declared.plan_fault.PlanFault.{PlanFault}
use Rattle.model.specs.declared.plan_fault.PlanFault.TheVariants.{BadStart, BadMove, Vertex, Swap, OutOfMemory}
use Rattle.ending.specs.Ending.{End, rejected}
use Rattle.ending.specs.Finishing.{FinishesWriting}
use Rattle.ending.specs.Rewriting.{EndsByLine, EndsWriting}
use Rattle.ending.specs.Laws.Ending.{ends_writing}
use Rattle.check_commands.specs.CheckCommand.{EndsByRefusal}
use Rattle.check_commands.specs.VerdictText.{rejected_line}

module _ {W : Type 0} (contents : W → Option (List ℕ)) where
  -- the text was written, and success is what was due
  pub ended : (old mid new : Counted W) (given text : List ℕ) (written : Bool) (success due end : End) → success ≡ due → given ≡ text
      → WritesText written (contents (counted_inner old)) (contents (counted_inner mid)) (failures_of old) (failures_of mid) given
      → FinishesWriting contents written success mid new end → EndsWriting contents old new due end text
  ended old mid new given text written success due end succeeds is wrote finished =
      subst (λ (line : List ℕ). EndsWriting contents old new due end line) is
      (subst (λ (e : End). EndsWriting contents old new e end given) succeeds (ends_writing contents old mid new given written success end wrote finished))

  -- what was written, by other names of the writer and of whether it took it
  pub wrote_as : (old mid now : Counted W) (text : List ℕ) (given written : Bool) → now ≡ mid → written ≡ given
      → WritesText given (contents (counted_inner old)) (contents (counted_inner mid)) (failures_of old) (failures_of mid) text
      → WritesText written (contents (counted_inner old)) (contents (counted_inner now)) (failures_of old) (failures_of now) text
  wrote_as old mid now text given written is answers wrote =
      subst (λ (b : Bool). WritesText b (contents (counted_inner old)) (contents (counted_inner now)) (failures_of old) (failures_of now) text) (sym answers)
      (subst (λ (w : Counted W). WritesText given (contents (counted_inner old)) (contents (counted_inner w)) (failures_of old) (failures_of w) text) (sym is) wrote)

  -- a plan is refused by a line, for what isn't want of memory
  pub refused_by_line : (json : Bool) (m : Grid) (p : Plan) (fault : PlanFault) (old new : Counted W) (end : End) → (fault ≡ OutOfMemory → ⊥)
      → EndsByLine contents old new (rejected (plan_fault_words fault)) end (rejected_line json (words_text (plan_fault_words fault)))
      → EndsByRefusal contents None json m p fault old new end
  refused_by_line json m p (BadStart i) old new end not by = by
  refused_by_line json m p (BadMove i n) old new end not by = by
  refused_by_line json m p (Vertex i j n cell) old new end not by = by
  refused_by_line json m p (Swap i j n) old new end not by = by
  refused_by_line json m p OutOfMemory old new end not by = absurd (not refl)
