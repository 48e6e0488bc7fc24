-- What is found line by line is the one reading.
use Rattle.std.proofs.Common.{◌≡◌, ◌⊎◌, List, inl, inr, None, Some, refl, sym, ◌∙◌}
use Rattle.std.specs.Prelude.{Option}
use Rattle.text_io.specs.Text.{lines_of}
use Rattle.text_io.specs.Reading.{by_input, IsFirstFault}
use Rattle.scenario.specs.declared.scen_fault.ScenFault.{ScenFault}
use Rattle.scenario.specs.Query.{Query}
use Rattle.scenario.specs.ScenText.{ScenText}
use Rattle.scenario.specs.ScenFault.{version_due, ScenFaultAt}
use Rattle.scenario.proofs.TextScanned.{first_fault, rows_in, scanned-from_ScenText, ScenText-from_none}
use Rattle.scenario.proofs.TextFaults.{found-from_IsFirstFault, IsFirstFault-from_found}
use Rattle.scenario.proofs.laws.one_reading.Goals as goal

pub returns-clause-some : goal.returns-clause-some
returns-clause-some c text = go (first_fault version_due 0 (lines_of text)) refl
  where
    go : (found : Option ScenFault) → first_fault version_due 0 (lines_of text) ≡ found
        → ((rows : List Query) × ScenText rows text) ⊎ ((f : ScenFault) × IsFirstFault ScenFaultAt f text)
    go None e = inl (rows_in version_due (lines_of text), ScenText-from_none text (c.places.ensures.are_lines text) e)
    go (Some fault) e = inr (fault, IsFirstFault-from_found (c.places.ensures.found by_input) fault text (c.places.ensures.are_lines text) e)

pub returns-clause-one_scenario : goal.returns-clause-one_scenario
returns-clause-one_scenario c text m n p q = (scanned-from_ScenText m text p).1 ∙ sym (scanned-from_ScenText n text q).1

pub returns-clause-one_fault : goal.returns-clause-one_fault
returns-clause-one_fault c text f g p q =
    let first = found-from_IsFirstFault (c.places.ensures.stands by_input) f text p in
    let second = found-from_IsFirstFault (c.places.ensures.stands by_input) g text q in
    cc

pub returns-clause-never_both : goal.returns-clause-never_both
returns-clause-never_both c text rows f p q =
    let none = scanned-from_ScenText rows text p in
    let some = found-from_IsFirstFault (c.places.ensures.stands by_input) f text q in
    let bad = sym none.0 ∙ some in
    cc
