-- What is said of a search: what it proposes is judged by its certificate, so nothing but when it
-- refuses.
use Rattle.std.specs.Prelude.{◌≡◌, ◌↔◌, Result, Err}
use Rattle.grid.specs.declared.cell.Cell.{Cell}
use Rattle.grid.specs.Map.{Grid}
use Rattle.walks.specs.declared.certificate.Proposal.{Proposal}
use Rattle.walks.specs.declared.search_fault.SearchFault.{SearchFault}
use Rattle.walks.specs.declared.search_fault.SearchFault.TheVariants.{OutOfRange}
use Rattle.walks.specs.Certificate.{AreOn}

-- a search refuses cells for being off the map exactly where one is
abbrev pub FailsSearch : Grid → Cell → Cell → Result Proposal SearchFault → Type 0
FailsSearch m start goal result = result ≡ Err OutOfRange ↔ (AreOn m start goal → ⊥)
