-- Where one agent stands at a run: what is on its tape, what it has heard, and whether it is
-- broken.
use Rattle.std.specs.Prelude.{◌≡◌, ℕ, ◌+◌}
use Rattle.model.specs.declared.version.Version.{Version}
use Rattle.model.specs.History.{History, is_broken, kept_starts, done, known}
use Rattle.model.specs.Timetable.{Timetable}
use Rattle.agent.specs.Counters.{known_in}
use Rattle.agent.specs.States.{State}

-- There is a record for each begun and each finished move, and it knows what it heard since it was
-- opened.
pub record IsLeftBy (version : Version) (tt : Timetable) (h : History) (i : ℕ)
    (s : State) : Type 0 where
  pub records : s.records ≡ kept_starts h i + done h i
  pub heard : (j : ℕ) → known_in s.heard j ≡ known version tt h i j
  pub broken : s.broken ≡ is_broken h i
