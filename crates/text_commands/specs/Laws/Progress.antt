-- Progress that says nothing.
use Rattle.std.proofs.Common.{ℕ, Bool, true, false, List, [], Option, refl}
use Rattle.std.proofs.KnownBytes.{Appends-nil}
use Rattle.text_io.specs.declared.counted.Counted.{Counted}
use Rattle.text_commands.specs.RowsCommand.{ShowsProgress}

-- an error output that is left alone shows nothing
pub shows_nothing : {E : Type 0} (contents : E → Option (List ℕ)) (shown : Bool) (now : Counted E)
    → ShowsProgress contents shown now now
shows_nothing contents false now = refl
shows_nothing contents true now = ([], Appends-nil _)
