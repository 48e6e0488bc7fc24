-- What an input line asks of an agent.
use Rattle.std.specs.Prelude.{◌≡◌, ℕ, ◌^◌, ◌≤◌, List, ◌++◌, length, codes, Some, Ok}
use Rattle.text_io.specs.Numerals.{numeral_below}
use Rattle.hex.specs.Hex.{decode_of}

-- a line that is understood has no more bytes before its LF
abbrev pub longest_request : ℕ
longest_request = 131072

pub data Request : Type 0 where
  start : Request
  finish : Request
  say : Request
  -- to say all that it knows
  tell : Request
  -- what the agent holds
  held : Request
  -- how far ahead its way is free, so many moves at the most
  may : ℕ → Request
  -- to hear a message of these bytes
  hear : List ℕ → Request

-- the line asks for this; a number has no leading zeros, and the bytes of a message are spelled by
-- two hexadecimal digits each, in either case
abbrev pub AsksFor : Request → List ℕ → Type 0
AsksFor start line = line ≡ codes "start"
AsksFor finish line = line ≡ codes "finish"
AsksFor say line = line ≡ codes "say"
AsksFor tell line = line ≡ codes "tell"
AsksFor held line = line ≡ codes "held"
AsksFor (may most) line =
    (digits : List ℕ) × (line ≡ codes "may " ++ digits)
    × (numeral_below (2 ^ 32) digits ≡ Some most) × (length line ≤ longest_request)
AsksFor (hear bytes) line =
    (digits : List ℕ) × (line ≡ codes "hear " ++ digits) × (decode_of digits ≡ Ok bytes)
    × (length line ≤ longest_request)

-- the line is none that is understood
abbrev pub AsksNothing : List ℕ → Type 0
AsksNothing line = (request : Request) → AsksFor request line → ⊥
