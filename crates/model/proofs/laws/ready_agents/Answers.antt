use Rattle.std.proofs.Common.{refl}
use Rattle.model.specs.History.{is_moving}
use Rattle.model.specs.Laws.Runs.{in_step}
use Rattle.model.specs.Laws.Ready.{comes_to_rest, moves_on, message, speaks_up, learns}
use Rattle.model.proofs.laws.ready_agents.Goals as goal

pub returns-clause-rest : goal.returns-clause-rest
returns-clause-rest c = λ v tab h i track opened run there sound.
    let bounds = in_step v tab h i run in
    comes_to_rest v tab h i track there bounds.0 bounds.1 opened (is_moving h i) refl sound

pub returns-clause-moves : goal.returns-clause-moves
returns-clause-moves c = moves_on

pub returns-clause-speaks : goal.returns-clause-speaks
returns-clause-speaks c = λ v tab h i track there ready. let said = speaks_up v tab h i track there ready in (said.0, (message v tab h i track there ready, said.1))

pub returns-clause-learns : goal.returns-clause-learns
returns-clause-learns c = λ v tab h i m track message there ready kept. learns v tab h i track there ready m message kept
