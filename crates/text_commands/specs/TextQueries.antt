-- What `mapf map` and `mapf scen` do and answer.
use Rattle.std.specs.Prelude.{◌≡◌, ℕ, List, [], ◌∷◌, codes, Option, Some, None, Result, Ok, Err}
use Rattle.text_io.specs.declared.counted.Counted.{Counted}
use Rattle.text_io.specs.FaultWords.{text_fault}
use Rattle.grid.specs.declared.cell.Cell.{Cell}
use Rattle.grid.specs.declared.map_fault.MapFault.{MapFault}
use Rattle.grid.specs.Map.{Grid, with_blocked}
use Rattle.grid.specs.MapFault.{map_fault_words, MapFaultAt, ReadsMap}
use Rattle.grid.specs.MapText.{MapText, canonical_map_text}
use Rattle.scenario.specs.FaultWords.{scen_fault_words}
use Rattle.scenario.specs.Query.{canonical_scen_text}
use Rattle.scenario.specs.ScenText.{ScenText}
use Rattle.scenario.specs.ScenFault.{ScenFaultAt}
use Rattle.ending.specs.declared.status.Status.TheVariants.{Done}
use Rattle.ending.specs.Ending.{End, answered_with, gave_up}
use Rattle.ending.specs.Rewriting.{EndsWriting, RewritesText}

-- the map was read as `read_map` reads it, and the command ended by that
abbrev pub RewritesMap
    : {R W : Type 0} → (R → Option (List ℕ)) → (W → Option (List ℕ)) → Counted R → Counted R
    → Counted W → Counted W → End → Type 0
RewritesMap remaining contents =
    RewritesText MapText MapFaultAt canonical_map_text map_fault_words remaining contents

-- What the output got and how the command ended, by the map with the cell out of bounds: its
-- canonical text; or there is no such cell.
abbrev pub EndsByBlocked : {W : Type 0} → (W → Option (List ℕ)) → Cell → Counted W → Counted W
    → End → Option Grid → Type 0
EndsByBlocked contents cell old new end (Some blocked) =
    EndsWriting contents old new (answered_with Done) end (canonical_map_text blocked)
EndsByBlocked contents cell old new end None =
    (end ≡ gave_up (text_fault (codes "NoSuchCell") (cell.x ∷ cell.y ∷ []))) × (new ≡ old)

abbrev pub EndsBlocked : {W : Type 0} → (W → Option (List ℕ)) → Cell → Grid → Counted W
    → Counted W → End → Type 0
EndsBlocked contents cell m old new end =
    EndsByBlocked contents cell old new end (with_blocked m cell)

-- the same by what reading the map came to
abbrev pub EndsByRead : {W : Type 0} → (W → Option (List ℕ)) → Cell → Counted W → Counted W → End
    → Result Grid MapFault → Type 0
EndsByRead contents cell old new end (Ok m) = EndsBlocked contents cell m old new end
EndsByRead contents cell old new end (Err fault) =
    (end ≡ gave_up (map_fault_words fault)) × (new ≡ old)

-- The map was read as `read_map` reads it, and the command ended by that, for the cell.
pub record BlocksCell
    {R W : Type 0} (remaining : R → Option (List ℕ)) (contents : W → Option (List ℕ))
    (cell : Cell) (old_in new_in : Counted R) (old_out new_out : Counted W)
    (end : End) : Type 0 where
  pub answer : Result Grid MapFault
  pub reads : ReadsMap remaining old_in new_in answer
  pub ends : EndsByRead contents cell old_out new_out end answer

-- the scenario was read as `read_scen` reads it, and the command ended by that
abbrev pub RewritesScen
    : {R W : Type 0} → (R → Option (List ℕ)) → (W → Option (List ℕ)) → Counted R → Counted R
    → Counted W → Counted W → End → Type 0
RewritesScen remaining contents =
    RewritesText ScenText ScenFaultAt canonical_scen_text scen_fault_words remaining contents
