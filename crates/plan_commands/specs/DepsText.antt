-- What is written of a timetable's dependencies.
use Rattle.std.specs.Prelude.{ℕ, ◌+◌, List, [], ◌∷◌, ◌++◌, Option}
use Rattle.std.specs.Prelude.{None, Some, length, map, sum_by, codes, decimal}
use Rattle.std.specs.List.{join_with_byte, range_with_len}
use Rattle.text_io.specs.Text.{space, ended}
use Rattle.model.specs.Timetable.{Track, Timetable, moves}
use Rattle.model.specs.Dependency.{Need, need}
use Rattle.depgraph.specs.Rotations.{Turn}

-- what each move of an agent waits for, move 0 first
abbrev pub needs_of : Timetable → ℕ → Track → List (Option Need)
needs_of tt i track = map (need tt i track) (range_with_len 0 (moves track))

-- the line of a need: the agent and the number of its move, and the other agent and how many moves
-- that one must have finished
abbrev pub need_line : (agent move : ℕ) → Need → List ℕ
need_line agent move n =
    join_with_byte space
    (codes "need" ∷ decimal agent ∷ decimal move ∷ decimal n.agent ∷ decimal n.count ∷ [])

-- the lines of those of an agent's moves that have a need, if these are what its moves from this
-- one on wait for
abbrev pub need_lines : (agent move : ℕ) → List (Option Need) → List (List ℕ)
need_lines agent move [] = []
need_lines agent move (None ∷ needs) = need_lines agent (move + 1) needs
need_lines agent move (Some n ∷ needs) = need_line agent move n ∷ need_lines agent (move + 1) needs

-- those of all agents, if these are the tracks from this agent's on
abbrev pub all_need_lines : Timetable → ℕ → List Track → List (List ℕ)
all_need_lines tt i [] = []
all_need_lines tt i (track ∷ tracks) =
    need_lines i 0 (needs_of tt i track) ++ all_need_lines tt (i + 1) tracks

-- the line of a rotation: its step and its agents, the least first
abbrev pub rotation_line : Turn → List ℕ
rotation_line turn =
    join_with_byte space (codes "rotation" ∷ decimal turn.step ∷ map decimal turn.agents)

-- the first line, of how many agents, moves, needs and rotations there are
abbrev pub counts_line : (agents moves needs rotations : ℕ) → List ℕ
counts_line agents moves needs rotations =
    join_with_byte space
    (codes "agents" ∷ decimal agents ∷ codes "moves" ∷ decimal moves ∷ codes "needs" ∷ decimal
    needs ∷ codes "rotations" ∷ decimal rotations ∷ [])

-- the text that is written for a timetable with these rotations: the counts, a line for each need,
-- by agent and then by move, and a line for each rotation
abbrev pub deps_text : Timetable → List Turn → List ℕ
deps_text tt turns =
    ended (counts_line (length tt.tracks) (sum_by moves tt.tracks)
    (length (all_need_lines tt 0 tt.tracks)) (length turns)
    ∷ (all_need_lines tt 0 tt.tracks ++ map rotation_line turns))
