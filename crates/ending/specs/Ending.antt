-- How a command ends, and what of that is told.
use Rattle.std.specs.Prelude.{◌≡◌, ℕ, List, Option, None, Some, option_map}
use Rattle.text_io.specs.FaultWords.{Words, words_of}
use Rattle.text_io.specs.declared.counted.Counted.{Counted}
use Rattle.ending.specs.declared.ending.Ending.{Ending}
use Rattle.ending.specs.declared.status.Status.{Status}
use Rattle.ending.specs.declared.status.Status.TheVariants.{Fault}
use Rattle.ending.specs.Status.{code_of, status_of}
use Rattle.ending.specs.Telling.{Tells}

-- How a command ended, in what is told of it: the status, the fault of the line on the error
-- output, and the fault that is explained where that is asked for.
pub record End : Type 0 where
  pub status : Status
  pub told : Option Words
  pub explained : Option Words

-- the output has the answer, which goes with this status
abbrev pub answered_with : Status → End
answered_with status = record { status = status; told = None; explained = None }

-- the output has the verdict that a plan is rejected, for the fault with these words
abbrev pub rejected : Words → End
rejected words = record { status = Fault; told = None; explained = Some words }

-- the command gave up for the fault with these words, which the output doesn't name
abbrev pub gave_up : Words → End
gave_up words = record { status = status_of words; told = Some words; explained = Some words }

-- what the ending of the code tells
abbrev pub end_of : Ending → End
end_of e =
    record {
      status = e.status;
      told = option_map words_of e.told;
      explained = option_map words_of e.explained;
    }

-- the exit status and what the error output got, by how the command ended
pub record Concludes {E : Type 0} (contents : E → Option (List ℕ)) (old new : Counted E) (code : ℕ)
    (end : End) : Type 0 where
  pub is_code : code ≡ code_of end.status
  pub tells : Tells contents old new end.told

-- the command ended so, and the exit status and what the error output got are by that
pub record EndsAndTells
    {E : Type 0} (Ends : End → Type 0) (contents : E → Option (List ℕ)) (old new : Counted E)
    (code : ℕ) : Type 0 where
  pub end : End
  pub ends : Ends end
  pub concludes : Concludes contents old new code end
