-- How what was put is handed on.
use Rattle.std.specs.Prelude.{◌≡◌, ℕ, ◌⊎◌, Bool, true, false, List, [], Option, Result, Err}
use Rattle.text_io.specs.declared.sink.Sink.{Sink}
use Rattle.text_io.specs.Sink.{held_back, Puts, Breaks}
use Rattle.runner.specs.declared.run_fault.RunFault.{RunFault}
use Rattle.runner.specs.declared.run_fault.RunFault.TheVariants.{WriteFailed}

-- what was put was handed on, if it was written so far, and the second answer is the first, or that
-- this failed
abbrev pub IsHandedOn : {V W : Type 0} → (W → Option (List ℕ)) → Bool → Sink W → Sink W
    → Result V RunFault → Result V RunFault → Type 0
IsHandedOn contents true old new answer handed =
    (Puts contents old new [] × (held_back new ≡ []) × (handed ≡ answer))
    ⊎ (Breaks contents old new [] × (handed ≡ Err WriteFailed))
IsHandedOn contents false old new answer handed = (new ≡ old) × (handed ≡ answer)
