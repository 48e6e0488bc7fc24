-- The text that is written for events.
use Rattle.std.specs.Prelude.{ℕ, ◌^◌, ◌<◌, List, [], ◌∷◌, ◌++◌, map, codes}
use Rattle.text_io.specs.Text.{ended, spaced_numbers}
use Rattle.model.specs.declared.event.Event.{Event}
use Rattle.model.specs.declared.event.Event.TheVariants.{Start, Finish, Say, Deliver, Restart, Tear}

-- the line of an event, without its LF
abbrev pub event_line : Event → List ℕ
event_line (Start i) = codes "start" ++ spaced_numbers (i ∷ [])
event_line (Finish i) = codes "finish" ++ spaced_numbers (i ∷ [])
event_line (Say i) = codes "say" ++ spaced_numbers (i ∷ [])
event_line (Deliver i m) = codes "deliver" ++ spaced_numbers (i ∷ m ∷ [])
event_line (Restart i) = codes "restart" ++ spaced_numbers (i ∷ [])
event_line (Tear i n) = codes "tear" ++ spaced_numbers (i ∷ n ∷ [])

-- the text that is written for events: a line each, and no header
abbrev pub event_lines_text : List Event → List ℕ
event_lines_text events = ended (map event_line events)

-- the numbers of the event are within their widths
abbrev pub IsWithinWidths : Event → Type 0
IsWithinWidths (Start i) = i < 2 ^ 32
IsWithinWidths (Finish i) = i < 2 ^ 32
IsWithinWidths (Say i) = i < 2 ^ 32
IsWithinWidths (Deliver i m) = (i < 2 ^ 32) × (m < 2 ^ 64)
IsWithinWidths (Restart i) = i < 2 ^ 32
IsWithinWidths (Tear i n) = (i < 2 ^ 32) × (n < 2 ^ 32)
