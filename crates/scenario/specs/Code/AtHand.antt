-- A line of a scenario that is at hand of its source.
use Rattle.std.specs.Prelude.{◌≡◌, ℕ, Bool, true, false, List, []}
use Rattle.std.specs.Prelude.{◌∷◌, ◌++◌, Option, Result, Ok, Err}
use Rattle.text_io.specs.declared.source.Source.{Source}
use Rattle.text_io.specs.Source.{at_hand, is_stopped, Takes}
use Rattle.text_io.specs.Text.{line_feed, IsLine}
use Rattle.scenario.specs.declared.scen_fault.ScenFault.{ScenFault}
use Rattle.scenario.specs.declared.scen_reader.Progress.{Progress}
use Rattle.scenario.specs.Code.Parsing.{due_after, Adds, RefusesLine}

-- the bytes begin with the line and its LF
abbrev pub BeginsWithLine : List ℕ → List ℕ → Type 0
BeginsWithLine line bytes = (rest : List ℕ) × (bytes ≡ line ++ line_feed ∷ rest) × IsLine line

-- What came of the line at hand: it was added and taken, or there is none, or it was refused and is
-- there yet.
abbrev pub AddsAtHand
    : {R : Type 0} {ahead : ℕ} → (R → Option (List ℕ)) → Source R ahead → Source R ahead → Progress
    → Progress → ℕ → Result Bool ScenFault → Type 0
AddsAtHand remaining old new before now number (Ok true) =
    (line : List ℕ) × Takes remaining old new (line ++ line_feed ∷ [])
    × (is_stopped new ≡ is_stopped old) × IsLine line
    × Adds before.has_version now.has_version before.rows.items now.rows.items line
AddsAtHand remaining old new before now number (Ok false) = (new ≡ old) × (now ≡ before)
AddsAtHand remaining old new before now number (Err fault) =
    (new ≡ old) × ((line : List ℕ) × BeginsWithLine line (at_hand old)
    × RefusesLine (due_after before.has_version) number line fault)
