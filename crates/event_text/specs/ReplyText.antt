-- The text that is written for replies.
use Rattle.std.specs.Prelude.{ℕ, List, [], ◌∷◌, ◌++◌, map, codes}
use Rattle.hex.specs.Hex.{encode_lower}
use Rattle.text_io.specs.Text.{space, ended, spaced_numbers}
use Rattle.model.specs.declared.why.Why.{Why}
use Rattle.model.specs.declared.why.Why.TheVariants.{NoSuchAgent, NoSuchMessage, BadTear, Broken}
use Rattle.model.specs.declared.why.Why.TheVariants.{AlreadyMoving, AtEnd, Waits, NotMoving}
use Rattle.model.specs.declared.why.Why.TheVariants.{StoreFailed, BadLength, BadMagic, BadVersion}
use Rattle.model.specs.declared.why.Why.TheVariants.{BadEntry, WrongPlan, TooMany}
use Rattle.model.specs.History.{Answer, moving, arrived, said, heard, at, between, armed, refused}

-- the name of a refusal
abbrev pub refusal_name : Why → List ℕ
refusal_name NoSuchAgent = codes "NoSuchAgent"
refusal_name NoSuchMessage = codes "NoSuchMessage"
refusal_name BadTear = codes "BadTear"
refusal_name Broken = codes "Broken"
refusal_name AlreadyMoving = codes "AlreadyMoving"
refusal_name AtEnd = codes "AtEnd"
refusal_name (Waits j count) = codes "Waits"
refusal_name NotMoving = codes "NotMoving"
refusal_name StoreFailed = codes "StoreFailed"
refusal_name BadLength = codes "BadLength"
refusal_name BadMagic = codes "BadMagic"
refusal_name BadVersion = codes "BadVersion"
refusal_name (BadEntry entry) = codes "BadEntry"
refusal_name WrongPlan = codes "WrongPlan"
refusal_name TooMany = codes "TooMany"

-- the agent and the number of moves that are waited for, or the entry
abbrev pub refusal_numbers : Why → List ℕ
refusal_numbers (Waits j count) = j ∷ count ∷ []
refusal_numbers (BadEntry entry) = entry ∷ []
refusal_numbers _ = []

-- where an agent stands after a restart, and how many moves it has finished
abbrev pub standing_line : List ℕ → List ℕ → ℕ → List ℕ
standing_line word places k =
    word ++ spaced_numbers places ++ codes " done" ++ spaced_numbers (k ∷ [])

-- the line of an answer, without its LF
abbrev pub reply_line : Answer → List ℕ
reply_line (moving c) = codes "moving" ++ spaced_numbers (c.x ∷ c.y ∷ [])
reply_line (arrived c) = codes "arrived" ++ spaced_numbers (c.x ∷ c.y ∷ [])
reply_line (said m bytes) = codes "said" ++ spaced_numbers (m ∷ []) ++ space ∷ encode_lower bytes
reply_line (heard j n) = codes "heard" ++ spaced_numbers (j ∷ n ∷ [])
reply_line (at c k) = standing_line (codes "at") (c.x ∷ c.y ∷ []) k
reply_line (between u v k) = standing_line (codes "between") (u.x ∷ u.y ∷ v.x ∷ v.y ∷ []) k
reply_line armed = codes "armed"
reply_line (refused why) =
    codes "refused " ++ refusal_name why ++ spaced_numbers (refusal_numbers why)

-- the text that is written for answers
abbrev pub replies_text : List Answer → List ℕ
replies_text answers = ended (map reply_line answers)
