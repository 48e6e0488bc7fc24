-- What was put is written once it is handed on.
use Rattle.std.proofs.Common.{◌≡◌, ℕ, Bool, true, false, List, [], inl, inr, Option, Result, Err, refl, sym, subst, append-nil}
use Rattle.text_io.specs.declared.sink.Sink.{Sink}
use Rattle.text_io.specs.Sink.{held_back, Puts, Breaks}
use Rattle.text_io.specs.Laws.Putting.{Puts-trans, Breaks-after}
use Rattle.runner.specs.Replaying.{was_written}
use Rattle.runner.specs.declared.run_fault.RunFault.{RunFault}
use Rattle.runner.specs.declared.run_fault.RunFault.TheVariants.{WriteFailed}
use Rattle.runner.specs.Code.HandingOn.{IsHandedOn}
use Rattle.runner.proofs.ReplyLemmas.{Wrote, put_whole, put_broken}

-- An answer comes to something by what came of the text: all of it was put, or it was broken off.
module _
    {V W : Type 0} (contents : W → Option (List ℕ)) (first mid last : Sink W)
    (Comes : (List ℕ → Type 0) → (List ℕ → Type 0) → Result V RunFault → Type 0)
  where
    abbrev Whole : List ℕ → Type 0
    Whole = Puts contents first mid

    abbrev Broken : List ℕ → Type 0
    Broken = Breaks contents first mid

    abbrev All : List ℕ → Type 0
    All text = Wrote contents first last text true

    abbrev Part : List ℕ → Type 0
    Part text = Wrote contents first last text false

    pub written : held_back first ≡ []
        → ((answer : Result V RunFault) → was_written answer ≡ true → Comes Whole Broken answer → ((text : List ℕ) → Whole text → All text) → Comes All Part answer)
        → ((answer : Result V RunFault) → was_written answer ≡ true → Comes Whole Broken answer → ((text : List ℕ) → Whole text → Part text)
        → Comes All Part (Err WriteFailed))
        → ((answer : Result V RunFault) → was_written answer ≡ false → Comes Whole Broken answer → ((text : List ℕ) → Broken text → Part text)
        → Comes All Part answer)
        → (answer handed : Result V RunFault) → Comes Whole Broken answer → IsHandedOn contents (was_written answer) mid last answer handed
        → Comes All Part handed
    written none passed failed before answer handed comes is = go (was_written answer) refl is
      where
        go : (well : Bool) → was_written answer ≡ well → IsHandedOn contents well mid last answer handed → Comes All Part handed
        go true well (inl (puts, nothing_held, same)) =
            subst (Comes All Part) (sym same)
            (passed answer well comes (λ text whole. put_whole contents first last text none nothing_held
            (subst (Puts contents first last) (append-nil text) (Puts-trans contents first mid last text [] whole puts))))
        go true well (inr (breaks, failing)) =
            subst (Comes All Part) (sym failing)
            (failed answer well comes (λ text whole. put_broken contents first last text none
            (subst (Breaks contents first last) (append-nil text) (Breaks-after contents first mid last text [] whole breaks))))
        go false off (still, same) =
            subst (Comes All Part) (sym same)
            (before answer off comes (λ text broken. put_broken contents first last text none
            (subst (λ s. Breaks contents first s text) (sym still) broken)))
