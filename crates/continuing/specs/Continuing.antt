-- When a plan goes on from another: it begins as that one, and may add to its end.
use Rattle.std.specs.Prelude.{◌≡◌, ℕ, ◌≤◌, List, [], ◌∷◌, length, map, take}
use Rattle.grid.specs.declared.cell.Cell.{Cell}
use Rattle.model.specs.Plan.{Position, Course, Plan, IsAt, longest_of}
use Rattle.model.specs.Timetable.{Timetable, Stands}

-- The plans have one number and as many agents, and up to the end of the longest course of the old
-- one every agent is where that has it. By then the agents of the old plan rest, so that what the
-- new one has them do afterwards comes behind it. Waits at the end of a course count.
pub record Continues (old new : Plan) : Type 0 where
  pub number : new.number ≡ old.number
  pub agents : length new.courses ≡ length old.courses
  pub same : (i t : ℕ) (place : Position) → t ≤ longest_of old.courses → IsAt old i t place
      → IsAt new i t place

-- Each of the plans continues the one before it, and the first of them this one.
abbrev pub IsChain : Plan → List Plan → Type 0
IsChain plan [] = Unit {0}
IsChain plan (next ∷ plans) = Continues plan next × IsChain next plans

-- the last of a plan and those that follow it
abbrev pub last_plan : Plan → List Plan → Plan
last_plan plan [] = plan
last_plan plan (next ∷ plans) = last_plan next plans

-- the course, and the plan, with what is done from a time on left out
abbrev pub cut_course : ℕ → Course → Course
cut_course time course = record { start = course.start; acts = take time course.acts }

abbrev pub cut_at : ℕ → Plan → Plan
cut_at time plan = record { number = plan.number; courses = map (cut_course time) plan.courses }

-- up to the time all agents stand where the first timetable has them
pub record AgreesUpTo (time : ℕ) (old new : Timetable) : Type 0 where
  pub number : new.number ≡ old.number
  pub agents : length new.tracks ≡ length old.tracks
  pub same : (i t : ℕ) (c : Cell) → t ≤ time → Stands old i t c → Stands new i t c
