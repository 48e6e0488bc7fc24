-- Of each sender that has a key the last count is kept.
use Rattle.std.proofs.Common.{None, length}
use Rattle.std.proofs.lemmas.List.{length-replicate}
use Rattle.signing.specs.Hearing.{first_judge}
use Rattle.signing.proofs.HearingLemmas.{all-sealed, rising}
use Rattle.signing.proofs.laws.heard_letters.Goals as goal

pub returns-clause-sealed : goal.returns-clause-sealed
returns-clause-sealed c = λ run keys arrivals place now message hearing there is. all-sealed arrivals (first_judge run keys) hearing place now message there is

pub returns-clause-rising : goal.returns-clause-rising
returns-clause-rising c = λ run keys arrivals place other now later message next hearing less there is then_there then_is.
    rising arrivals (first_judge run keys) (length-replicate (length keys) None) hearing place other now later message next less there is then_there then_is
