-- What an input line says. The carrier of a robot writes a line for each event.
use Rattle.std.specs.Prelude.{◌≡◌, ℕ, ◌^◌, ◌<◌, ◌≤◌, List, [], ◌∷◌, ◌++◌, length, take, codes}
use Rattle.std.specs.Prelude.{Ok, ⊤}
use Rattle.hex.specs.Hex.{decode_of}
use Rattle.text_io.specs.Text.{spaced_numbers}
use Rattle.grid.specs.declared.cell.Cell.{Cell}
use Rattle.carrier_text.specs.declared.report.Report.{Report}
use Rattle.carrier_text.specs.declared.report.Report.TheVariants.{Stands, Between, Unclear}
use Rattle.carrier_text.specs.declared.event_line.CarrierLine.{CarrierLine}
use Rattle.carrier_text.specs.declared.event_line.CarrierLine.TheVariants.{Drive, Hear, Tick}
use Rattle.carrier_text.specs.declared.event_line.CarrierLine.TheVariants.{Plan, Stop, End}

-- a line that says something has no more bytes before its LF
abbrev pub longest_carrier_line : ℕ
longest_carrier_line = 131072

-- what has happened
pub data CarrierEvent : Type 0 where
  -- the drive reports this
  drive : Report → CarrierEvent
  -- these bytes came from the network
  hear : List ℕ → CarrierEvent
  -- some time has passed
  tick : CarrierEvent
  -- the file of the plan was replaced
  plan : CarrierEvent
  -- from now on the robot begins no move
  stop : CarrierEvent
  -- the robot is to end
  end : CarrierEvent

-- ---- what the drive reports

-- the column and the row are below 2^16
abbrev pub IsSmallCell : Cell → Type 0
IsSmallCell c = (c.x < 2 ^ 16) × (c.y < 2 ^ 16)

-- The words say that the drive stands in this cell. A number has no leading zeros, and one space
-- stands before it.
abbrev pub SpellsStanding : Cell → List ℕ → Type 0
SpellsStanding c words = IsSmallCell c × (words ≡ codes "stands" ++ spaced_numbers (c.x ∷ c.y ∷ []))

-- they say that the drive is between these two cells
abbrev pub SpellsBetween : Cell → Cell → List ℕ → Type 0
SpellsBetween u v words =
    IsSmallCell u × IsSmallCell v
    × (words ≡ codes "between" ++ spaced_numbers (u.x ∷ u.y ∷ v.x ∷ v.y ∷ []))

-- they say neither
abbrev pub IsUnclear : List ℕ → Type 0
IsUnclear words =
    ((c : Cell) → SpellsStanding c words → ⊥) × ((u v : Cell) → SpellsBetween u v words → ⊥)

-- the words report this
abbrev pub SpellsReport : Report → List ℕ → Type 0
SpellsReport (Stands c) words = SpellsStanding c words
SpellsReport (Between u v) words = SpellsBetween u v words
SpellsReport Unclear words = IsUnclear words

-- ---- lines

-- The line, without its LF, is that of the event. Two hexadecimal digits, in either case, spell
-- each byte of a message.
abbrev pub SpellsCarrierEvent : CarrierEvent → List ℕ → Type 0
SpellsCarrierEvent (drive report) line =
    (words : List ℕ) × (line ≡ codes "drive " ++ words) × SpellsReport report words
    × (length line ≤ longest_carrier_line)
SpellsCarrierEvent (hear bytes) line =
    (digits : List ℕ) × (line ≡ codes "hear " ++ digits) × (decode_of digits ≡ Ok bytes)
    × (length line ≤ longest_carrier_line)
SpellsCarrierEvent tick line = line ≡ codes "tick"
SpellsCarrierEvent plan line = line ≡ codes "plan"
SpellsCarrierEvent stop line = line ≡ codes "stop"
SpellsCarrierEvent end line = line ≡ codes "end"

-- the line is that of no event
abbrev pub SpellsNoEvent : List ℕ → Type 0
SpellsNoEvent line = (event : CarrierEvent) → SpellsCarrierEvent event line → ⊥

-- ---- what is read of a line

-- the event, where a message stands at the front of a room
abbrev pub event_in : List ℕ → CarrierLine → CarrierEvent
event_in room (Drive report) = drive report
event_in room (Hear count) = hear (take count room)
event_in room Tick = tick
event_in room Plan = plan
event_in room Stop = stop
event_in room End = end

-- the message lies in the room
abbrev pub LiesIn : List ℕ → CarrierLine → Type 0
LiesIn room (Hear count) = count ≤ length room
LiesIn room _ = ⊤
