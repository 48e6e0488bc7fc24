-- The words of a certificate's fault, and of a search's.
use Rattle.std.specs.Prelude.{[], codes}
use Rattle.text_io.specs.declared.failure.Failure.TheVariants as failure
use Rattle.text_io.specs.FaultWords.{Words, text_fault, failed}
use Rattle.walks.specs.declared.certificate.CertFault.{CertFault}
use Rattle.walks.specs.declared.certificate.CertFault.TheVariants as cert_fault
use Rattle.walks.specs.declared.search_fault.SearchFault.{SearchFault}
use Rattle.walks.specs.declared.search_fault.SearchFault.TheVariants as search_fault

-- the words of why a proposal proves nothing
abbrev pub cert_fault_words : CertFault → Words
cert_fault_words cert_fault.BadWalk = text_fault (codes "BadWalk") []
cert_fault_words cert_fault.BadTable = text_fault (codes "BadTable") []
cert_fault_words cert_fault.NotTight = text_fault (codes "NotTight") []
cert_fault_words cert_fault.OutOfRange = text_fault (codes "OutOfRange") []

abbrev pub search_fault_words : SearchFault → Words
search_fault_words search_fault.OutOfRange = text_fault (codes "OutOfRange") []
search_fault_words search_fault.OutOfMemory = failed failure.OutOfMemory
