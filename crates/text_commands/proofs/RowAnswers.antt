-- What `mapf row` writes and answers.
use Rattle.std.proofs.Common.{◌≡◌, ℕ, Bool, List, Option, Result, Ok, Err, IsErrAnd, MatchResult, sym, subst}
use Rattle.text_io.specs.declared.counted.Counted.{Counted}
use Rattle.text_io.specs.Counted.{counted_inner, failures_of}
use Rattle.grid.specs.Map.{Grid}
use Rattle.text_io.specs.Writing.{WritesText}
use Rattle.walks.specs.Certificate.{Certifies}
use Rattle.scenario.specs.Query.{Query}
use Rattle.walks.specs.declared.certificate.CertFault.{CertFault}
use Rattle.text_commands.specs.declared.row_fault.RowFault.{RowFault}
use Rattle.text_commands.specs.declared.row_fault.RowFault.TheVariants.{Certificate, Map, NoSuchRow, OutOfMemory, Scen, SizeDiffers}
use Rattle.text_commands.specs.declared.row_verdict.RowVerdict.{RowVerdict}
use Rattle.text_commands.specs.RowCommand.{EndsByRowVerdict, IsAsked, IsUncertified, IsVerdictOn, JudgesRow, row_verdict_text}
use Rattle.ending.specs.Finishing.{FinishesWriting}
use Rattle.ending.specs.Ending.{End, answered_with}
use Rattle.text_commands.specs.RowStatus.{row_verdict_status}
use Rattle.ending.specs.Laws.Ending.{ends_writing}
use Rattle.walks.specs.declared.certificate.Proposal.{Proposal}

-- a verdict's line was written, and the command ended by the verdict
pub row_verdict_ends : {W : Type 0} (contents : W → Option (List ℕ)) (old mid new : Counted W) (verdict : RowVerdict) (written : Bool) (success end : End)
    → success ≡ answered_with (row_verdict_status verdict)
    → WritesText written (contents (counted_inner old)) (contents (counted_inner mid)) (failures_of old) (failures_of mid) (row_verdict_text verdict)
    → FinishesWriting contents written success mid new end → EndsByRowVerdict contents old new end (Ok verdict)
row_verdict_ends contents old mid new verdict written success end is wrote finished =
    let Finished : End → Type 0 = λ e. FinishesWriting contents written e mid new end in
    ends_writing contents old mid new (row_verdict_text verdict) written (answered_with (row_verdict_status verdict)) end wrote (subst Finished is finished)

-- a certificate that was refused is passed up
pub refusal_judged : (m : Grid) (q : Query) (r : Result RowVerdict RowFault) (fault : CertFault) → IsErrAnd r (λ f. f ≡ Certificate fault)
    → ((proposal : Proposal) × Certifies m q.start q.goal proposal (Err fault)) → MatchResult r (IsVerdictOn m q) (IsUncertified m q)
refusal_judged m q (Ok v) fault is judged = absurd is
refusal_judged m q (Err f) fault is judged = subst (IsUncertified m q) (sym is) judged

-- what a row comes to that is asked for
pub row_judged : (m : Grid) (rows : List Query) (number : ℕ) (q : Query) (r : Result RowVerdict RowFault) → IsAsked m rows number q
    → MatchResult r (IsVerdictOn m q) (IsUncertified m q) → JudgesRow m rows number r
row_judged m rows number q (Ok v) asked judged = (q, asked, judged)
row_judged m rows number q (Err NoSuchRow) asked judged = absurd judged
row_judged m rows number q (Err (SizeDiffers at)) asked judged = absurd judged
row_judged m rows number q (Err OutOfMemory) asked judged = (q, asked, judged)
row_judged m rows number q (Err (Certificate fault)) asked judged = (q, asked, judged)
row_judged m rows number q (Err (Map fault)) asked judged = absurd judged
row_judged m rows number q (Err (Scen fault)) asked judged = absurd judged
