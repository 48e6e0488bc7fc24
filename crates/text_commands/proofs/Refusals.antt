-- A command that reads no value ends by the fault of its text.
use Rattle.std.proofs.Common.{◌≡◌, ℕ, List, Option, Err, refl}
use Rattle.grid.specs.MapFault.{map_fault_words, map_outcome}
use Rattle.grid.specs.MapText.{canonical_map_text}
use Rattle.text_io.specs.declared.counted.Counted.{Counted}
use Rattle.grid.specs.declared.map_fault.MapFault.{MapFault}
use Rattle.grid.specs.declared.map_fault.MapFault.TheVariants as map_fault
use Rattle.scenario.specs.FaultWords.{scen_fault_words}
use Rattle.scenario.specs.Query.{canonical_scen_text}
use Rattle.scenario.specs.ScenFault.{scen_outcome}
use Rattle.scenario.specs.declared.scen_fault.ScenFault.{ScenFault}
use Rattle.scenario.specs.declared.scen_fault.ScenFault.TheVariants as scen_fault
use Rattle.ending.specs.Ending.{End, gave_up}
use Rattle.ending.specs.Rewriting.{EndsBy}

pub map_refused : {W : Type 0} (contents : W → Option (List ℕ)) (now : Counted W) (end : End) (fault : MapFault)
    → end ≡ gave_up (map_fault_words fault) → EndsBy canonical_map_text map_fault_words contents now now end (map_outcome (Err fault))
map_refused contents now end (map_fault.BadHeader line) is = (is, refl)
map_refused contents now end (map_fault.BadNumber line) is = (is, refl)
map_refused contents now end (map_fault.TooLarge line) is = (is, refl)
map_refused contents now end (map_fault.BadTerrain line column) is = (is, refl)
map_refused contents now end (map_fault.ShortRow line) is = (is, refl)
map_refused contents now end (map_fault.LongRow line) is = (is, refl)
map_refused contents now end (map_fault.MissingRows line) is = (is, refl)
map_refused contents now end (map_fault.TextAfter line) is = (is, refl)
map_refused contents now end map_fault.ReadFailed is = (is, refl)
map_refused contents now end map_fault.OutOfMemory is = (is, refl)

pub scen_refused : {W : Type 0} (contents : W → Option (List ℕ)) (now : Counted W) (end : End) (fault : ScenFault)
    → end ≡ gave_up (scen_fault_words fault) → EndsBy canonical_scen_text scen_fault_words contents now now end (scen_outcome (Err fault))
scen_refused contents now end scen_fault.NoVersion is = (is, refl)
scen_refused contents now end (scen_fault.FieldCount line) is = (is, refl)
scen_refused contents now end (scen_fault.BadNumber line field) is = (is, refl)
scen_refused contents now end (scen_fault.OutOfGrid line) is = (is, refl)
scen_refused contents now end (scen_fault.BadLength line) is = (is, refl)
scen_refused contents now end (scen_fault.LineTooLong line) is = (is, refl)
scen_refused contents now end scen_fault.ReadFailed is = (is, refl)
scen_refused contents now end scen_fault.OutOfMemory is = (is, refl)
