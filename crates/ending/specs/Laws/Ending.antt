-- A command that reads a text, writes it and flushes the output.
use Rattle.std.proofs.Common.{◌≡◌, ◌∙◌, ℕ, inl, inr, true, false, Bool}
use Rattle.std.proofs.Common.{List, [], Option, Some, None, sym, subst}
use Rattle.std.proofs.lemmas.List.{append-nil}
use Rattle.std.specs.Io.KnownBytes.{Appends, Keeps}
use Rattle.text_io.specs.declared.counted.Counted.{Counted}
use Rattle.text_io.specs.Counted.{counted_inner, failures_of, Rises}
use Rattle.text_io.specs.FaultWords.{Words}
use Rattle.text_io.specs.Reading.{Place, is_value, ReadsText}
use Rattle.text_io.specs.Writing.{WritesText}
use Rattle.ending.specs.declared.status.Status.TheVariants.{Done}
use Rattle.ending.specs.Ending.{End, answered_with}
use Rattle.ending.specs.Rewriting.{EndsWriting, RewritesText}
use Rattle.ending.specs.Finishing.{FinishesWriting}

keeps_appended : (old mid new : Option (List ℕ)) (text : List ℕ) → Appends old mid text
    → Keeps mid new → Appends old new text
keeps_appended None mid new text a k = tt
keeps_appended (Some xs) None new text a k = absurd a
keeps_appended (Some xs) (Some ys) None text a k = absurd k
keeps_appended (Some xs) (Some ys) (Some zs) text a k = k ∙ a

-- a command that writes a text and finishes
pub ends_writing : {W : Type 0} (contents : W → Option (List ℕ)) (old mid new : Counted W)
    (text : List ℕ) (written : Bool) (success end : End)
    → WritesText written (contents (counted_inner old)) (contents (counted_inner mid))
    (failures_of old) (failures_of mid) text
    → FinishesWriting contents written success mid new end
    → EndsWriting contents old new success end text
ends_writing contents old mid new text true success end wrote finished =
    let appended = keeps_appended (contents (counted_inner old)) (contents (counted_inner mid))
    (contents (counted_inner new)) text wrote.0 finished.0 in
    elim finished.2 [
      | inl passed ↦ inl (passed.0, (appended, passed.1 ∙ wrote.1))
      | inr failed ↦ inr (
        failed.0,
        (
          text,
          [],
          sym (append-nil text),
          appended,
          subst (λ (before : ℕ). Rises before (failures_of new)) wrote.1 failed.1,
        ),
      )
    ]
ends_writing {W = W} contents old mid new text false success end wrote finished =
    let Wrote : Counted W → Type 0 =
    λ now. WritesText false (contents (counted_inner old)) (contents (counted_inner now))
    (failures_of old) (failures_of now) text in
    inr (finished.0, subst Wrote (sym finished.1) wrote)

-- a command that reads a value, writes its text and finishes
pub rewrites : {V F R W : Type 0} (Spells : V → List ℕ → Type 0) (FaultAt : F → Place → List ℕ
    → Type 0) (canonical : V → List ℕ) (words : F → Words)
    (remaining : R → Option (List ℕ)) (contents : W → Option (List ℕ)) (old_in new_in : Counted R)
    (old mid new : Counted W)
    (v : V) (written : Bool) (success end : End) → success ≡ answered_with Done
    → ReadsText Spells FaultAt (remaining (counted_inner old_in)) (remaining (counted_inner new_in))
    (failures_of old_in) (failures_of new_in) (is_value v)
    → WritesText written (contents (counted_inner old)) (contents (counted_inner mid))
    (failures_of old) (failures_of mid) (canonical v)
    → FinishesWriting contents written success mid new end
    → RewritesText Spells FaultAt canonical words remaining contents old_in new_in old new end
rewrites Spells FaultAt canonical words remaining contents old_in new_in old mid new v written
    success end is reads wrote finished =
    let Finished : End → Type 0 = λ e. FinishesWriting contents written e mid new end in
    record {
      outcome = is_value v;
      reads = reads;
      ends =
          ends_writing contents old mid new (canonical v) written (answered_with Done) end wrote
          (subst Finished is finished);
    }
