-- What a command says of a fault on its error output.
use Rattle.std.specs.Prelude.{◌≡◌, ℕ, Bool, List, [], ◌∷◌, ◌++◌, Option, None, Some, codes}
use Rattle.text_io.specs.FaultWords.{Words, words_text}
use Rattle.text_io.specs.declared.counted.Counted.{Counted}
use Rattle.text_io.specs.Counted.{counted_inner, failures_of}
use Rattle.text_io.specs.Text.{line_feed}
use Rattle.text_io.specs.Writing.{WritesText}

-- the words of a fault between two texts
abbrev pub enclosed_words : List ℕ → Words → List ℕ → List ℕ
enclosed_words head words end = head ++ words_text words ++ end

-- the line of a fault with these words, behind what stands at its head
abbrev pub headed_line : List ℕ → Words → List ℕ
headed_line head words = enclosed_words head words (line_feed ∷ [])

-- as `mapf: ShortRow 6`
abbrev pub fault_line : Words → List ℕ
fault_line words = headed_line (codes "mapf: ") words

-- Nothing was said and the error output was not touched, or the line of the fault with these words
-- was written, or a beginning of it where the error output failed.
abbrev pub Tells
    : {E : Type 0} → (E → Option (List ℕ)) → Counted E → Counted E → Option Words → Type 0
Tells contents old new None = new ≡ old
Tells contents old new (Some words) =
    (ok : Bool) × WritesText ok (contents (counted_inner old)) (contents (counted_inner new))
    (failures_of old) (failures_of new) (fault_line words)
