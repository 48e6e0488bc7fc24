use Rattle.fleet.specs.OwnPlans.{SharesMoves}
use Rattle.transcripts.specs.Transcripts.{RunsBy, RunsByChain}
use Rattle.transcripts.proofs.MomentLemmas.{moment, transcript-at}
use Rattle.transcripts.proofs.laws.moments_are_transcripts.Goals as goal

pub returns-clause-one_plan : goal.returns-clause-one_plan
returns-clause-one_plan c table processes later earlier deeds tapes is =
    let at = moment (RunsBy table) processes later earlier deeds tapes is in
    (λ i. (at i).before, λ i. (at i).after, λ i. ((at i).rises, (at i).less), transcript-at (RunsBy table) processes later earlier deeds tapes is)

pub returns-clause-of_plans : goal.returns-clause-of_plans
returns-clause-of_plans c last processes later earlier deeds tapes is =
    let at = moment (SharesMoves last) processes later earlier deeds tapes is in
    (λ i. (at i).before, λ i. (at i).after, λ i. ((at i).rises, (at i).less), transcript-at (SharesMoves last) processes later earlier deeds tapes is)

pub returns-clause-of_chain : goal.returns-clause-of_chain
returns-clause-of_chain c plan plans processes later earlier deeds tapes is =
    let at = moment (RunsByChain plan plans) processes later earlier deeds tapes is in
    (λ i. (at i).before, λ i. (at i).after, λ i. ((at i).rises, (at i).less), transcript-at (RunsByChain plan plans) processes later earlier deeds tapes is)
