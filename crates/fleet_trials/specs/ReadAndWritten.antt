-- What the processes of a small fleet read and wrote.
use Rattle.std.specs.Prelude.{ℕ, ◌==◌, if◌then◌else◌, List, [], ◌∷◌, codes, None, Some, Ok, Err}
use Rattle.grid.specs.declared.cell.Cell.{Cell}
use Rattle.model.specs.declared.held.Held.TheVariants.{At, Between}
use Rattle.model.specs.Examples.{row}
use Rattle.model.specs.Messages.{message_bytes}
use Rattle.agent.specs.declared.refusal.Refusal.TheVariants.{Waits}
use Rattle.fleet.specs.Deeds.{Deed, opens, starts, finishes, says, hears, ends, ends_starting}
use Rattle.transcripts.specs.Processes.{Process}
use Rattle.transcripts.specs.Transcripts.{Seen, state_told, line_answered}
use Rattle.transcripts.specs.Transcripts.{SeenOf, Transcript}

abbrev pub cell_in_row : ℕ → Cell
cell_in_row x = record { x = x; y = 0 }

-- the leader of two that stand in a row is killed while it answers its first `start`
abbrev pub leader_killed : Process
leader_killed =
    record {
      by = row;
      lines = [];
      texts = codes "at 1 0 done 0" ∷ [];
      begun = Some (codes "start");
    }

-- its next process finds the record of that start on the tape, and goes on
abbrev pub leader_again : Process
leader_again =
    record {
      by = row;
      lines = codes "finish" ∷ codes "say" ∷ [];
      texts =
          codes "between 1 0 2 0 done 0" ∷ codes "arrived 2 0"
          ∷ codes "said 460100000000000700000001" ∷ [];
      begun = None;
    }

-- the follower has to wait until it hears so
abbrev pub follower_waiting : Process
follower_waiting =
    record {
      by = row;
      lines = codes "start" ∷ codes "hear 460100000000000700000001" ∷ codes "start" ∷ [];
      texts =
          codes "at 0 0 done 0" ∷ codes "refused Waits 0 1" ∷ codes "heard 0 1"
          ∷ codes "moving 1 0" ∷ [];
      begun = None;
    }

-- of the leader, of the follower, and of anybody else
abbrev pub of_row : {A : Type 0} → A → A → A → ℕ → A
of_row leaders followers others i =
    if i == 0 then leaders else (if i == 1 then followers else others)

abbrev pub row_processes : ℕ → List Process
row_processes = of_row (leader_killed ∷ leader_again ∷ []) (follower_waiting ∷ []) []

abbrev seen_from : ℕ → Seen → SeenOf
seen_from i seen = record { agent = i; seen = seen }

-- the newest first
abbrev pub row_transcript : Transcript
row_transcript =
    seen_from 1 (line_answered (codes "start") (codes "moving 1 0"))
    ∷ seen_from 1 (line_answered (codes "hear 460100000000000700000001") (codes "heard 0 1"))
    ∷ seen_from 0 (line_answered (codes "say") (codes "said 460100000000000700000001"))
    ∷ seen_from 0 (line_answered (codes "finish") (codes "arrived 2 0"))
    ∷ seen_from 0 (state_told (codes "between 1 0 2 0 done 0"))
    ∷ seen_from 1 (line_answered (codes "start") (codes "refused Waits 0 1"))
    ∷ seen_from 1 (state_told (codes "at 0 0 done 0"))
    ∷ seen_from 0 (state_told (codes "at 1 0 done 0"))
    ∷ []

abbrev pub leaders_deeds : List Deed
leaders_deeds =
    opens (At (cell_in_row 1)) 0 ∷ ends_starting
    ∷ opens (Between (cell_in_row 1) (cell_in_row 2)) 0 ∷ finishes (Ok (cell_in_row 2))
    ∷ says (Ok (message_bytes 7 0 1)) ∷ ends ∷ []

abbrev pub followers_deeds : List Deed
followers_deeds =
    opens (At (cell_in_row 0)) 0 ∷ starts (Err (Waits 0 1))
    ∷ hears (message_bytes 7 0 1) (Ok (0, 1)) ∷ starts (Ok (cell_in_row 1)) ∷ ends ∷ []

abbrev pub row_deeds : ℕ → List Deed
row_deeds = of_row leaders_deeds followers_deeds []

-- how many records each tape has at last
abbrev pub row_tapes : ℕ → ℕ
row_tapes = of_row 2 1 0
