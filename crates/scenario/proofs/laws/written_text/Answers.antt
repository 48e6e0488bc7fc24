-- What is written has the lines that were meant, and one reading.
use Rattle.std.proofs.Common.{[], ◌∷◌, sym, ◌∙◌, codes, map}
use Rattle.scenario.specs.Query.{row_line, canonical_scen_text}
use Rattle.scenario.specs.ScenText.{ScenText}
use Rattle.scenario.proofs.TextScanned.{scanned-from_ScenText}
use Rattle.scenario.proofs.WrittenLemmas.{version_line-spells, version_line-is_line, written-rows, written-are_lines}
use Rattle.scenario.proofs.laws.written_text.Goals as goal

pub returns-clause-spells : goal.returns-clause-spells
returns-clause-spells c rows within = record {
  before = [];
  version = codes "version 1";
  rest = map row_line rows;
  lines = c.places.ensures.written (codes "version 1" ∷ map row_line rows) (version_line-is_line, written-are_lines rows within);
  are_skipped = tt;
  is_version = version_line-spells;
  are_rows = written-rows rows within;
}

pub returns-clause-only : goal.returns-clause-only
returns-clause-only c rows others within spells =
    let meant : ScenText rows (canonical_scen_text rows) = record {
      before = [];
      version = codes "version 1";
      rest = map row_line rows;
      lines = c.places.ensures.written (codes "version 1" ∷ map row_line rows) (version_line-is_line, written-are_lines rows within);
      are_skipped = tt;
      is_version = version_line-spells;
      are_rows = written-rows rows within;
    } in
    (scanned-from_ScenText others (canonical_scen_text rows) spells).1 ∙ sym (scanned-from_ScenText rows (canonical_scen_text rows) meant).1
