use Rattle.fleet.proofs.RunLemmas.{heeded, runs-as}
use Rattle.fleet.proofs.laws.fleets_are_runs.Goals as goal

pub returns : goal.returns
returns c v table log states tellable of fleet =
    let kept = heeded v table log states of fleet in
    let is = runs-as v table tellable (λ h m message run there. c.messages_of_runs.ensures v table h m message run there) c.tellings.ensures.fine c.tellings.ensures.one
    kept.0 states kept.1.fleet in
    (kept.0, kept.1.leaves, is.0, is.1.run, is.1.retells, is.1.stand)
