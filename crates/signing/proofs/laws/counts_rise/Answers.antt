-- What is counted next never falls, whatever is done.
use Rattle.signing.proofs.CountLemmas.{rise}
use Rattle.signing.proofs.laws.counts_rise.Goals as goal

pub returns : goal.returns
returns c = λ counting deeds place other n m is done less there then. rise deeds counting is done place other n m less there then
