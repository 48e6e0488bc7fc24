-- A robot: its agent, and what its control loop keeps beside it.
use Rattle.std.specs.Prelude.{◌≡◌}
use Rattle.agent.specs.Agents.{AgentOn, state_of}
use Rattle.agent.specs.States.{State}
use Rattle.agent.specs.Tape.{TapeState}
use Rattle.controller.specs.declared.control.Control.{Control}
use Rattle.controller.specs.declared.controller.Settings.{Settings}

pub record RobotOn (T : Type 0) : Type 0 where
  pub agent : AgentOn T
  pub settings : Settings
  pub control : Control

-- the same as plain data
pub record Robot : Type 0 where
  pub state : State
  pub control : Control

abbrev pub robot_of : {T : Type 0} → (T → TapeState) → RobotOn T → Robot
robot_of seen r = record { state = state_of seen r.agent; control = r.control }

-- it is still the same agent of the same plan, and has the same settings
pub record IsSameRobot {T : Type 0} (old new : RobotOn T) : Type 0 where
  pub part : new.agent.part ≡ old.agent.part
  pub settings : new.settings ≡ old.settings

-- only what the loop keeps beside the agent has changed
abbrev pub with_control : Robot → Control → Robot
with_control r c = record { state = r.state; control = c }
