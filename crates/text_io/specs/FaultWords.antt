-- The words in which a fault is told.
use Rattle.std.specs.Prelude.{ℕ, Bool, true, false, List, [], ◌∷◌, map, take, codes, decimal}
use Rattle.std.specs.List.{join_with_byte}
use Rattle.text_io.specs.FaultName.{fault_name}
use Rattle.text_io.specs.Text.{space}
use Rattle.text_io.specs.declared.failure.Failure.{Failure}
use Rattle.text_io.specs.declared.failure.Failure.TheVariants as failure
use Rattle.text_io.specs.declared.fault_words.FaultWords.{FaultWords}
use Rattle.text_io.specs.declared.sink.WriteFault.{WriteFault}
use Rattle.text_io.specs.declared.sink.WriteFault.TheVariants.{WriteFailed}

-- What is told of a fault: its words, and whether a device failed, or memory. Else a text is
-- faulty, or an answer is no.
pub record Words : Type 0 where
  pub parts : List (List ℕ)
  pub is_failure : Bool

-- one space between each two
abbrev pub words_text : Words → List ℕ
words_text words = join_with_byte space words.parts

-- the fault of a text: its name, and then numbers
abbrev pub text_fault : List ℕ → List ℕ → Words
text_fault name numbers = record { parts = name ∷ map decimal numbers; is_failure = false }

abbrev pub failure_name : Failure → List ℕ
failure_name failure.ReadFailed = codes "ReadFailed"
failure_name failure.WriteFailed = codes "WriteFailed"
failure_name failure.OutOfMemory = codes "OutOfMemory"
failure_name failure.OpenFailed = codes "OpenFailed"
failure_name failure.TapeFailed = codes "TapeFailed"
failure_name failure.TapeInUse = codes "TapeInUse"
failure_name failure.StoreFailed = codes "StoreFailed"

-- what failed is told by its name alone
abbrev pub failed : Failure → Words
failed what = record { parts = failure_name what ∷ []; is_failure = true }

-- what the words of the code tell
abbrev pub words_of : FaultWords → Words
words_of words =
    record {
      parts = fault_name words.name ∷ map decimal (take words.count words.numbers);
      is_failure = words.is_failure;
    }

abbrev pub write_fault_words : WriteFault → Words
write_fault_words WriteFailed = failed failure.WriteFailed
