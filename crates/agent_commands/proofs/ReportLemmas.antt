-- What the file of a tape keeps.
use Rattle.std.proofs.Common.{◌≡◌, ◌∙◌, ℕ, ◌+◌, ◌-◌, ◌*◌, ◌≤◌, List, [], ◌∷◌, ◌++◌, length, Some, None, refl, sym, ap, ap₂, subst, append-nil}
use Rattle.std.specs.Prelude.{Option, option_map, MatchResult, Result, Ok, Err}
use Rattle.std.proofs.lemmas.Option.{same_Some}
use Rattle.text_io.specs.declared.counted.Counted.{Counted}
use Rattle.text_io.specs.Text.{line_feed}
use Rattle.model.specs.History.{record_length}
use Rattle.model.specs.Timetable.{Timetable, moves, track_of}
use Rattle.agent.specs.declared.mem_tape.MemTape.{MemTape}
use Rattle.agent.specs.declared.mem_tape.TapeMakeFault.{TapeMakeFault}
use Rattle.agent.specs.declared.mem_tape.TapeMakeFault.TheVariants.{TooLong as made_too_long, OutOfMemory as made_out_of_memory}
use Rattle.agent.specs.declared.refusal.OpenFault.{OpenFault}
use Rattle.agent.specs.declared.refusal.OpenFault.TheVariants.{NoSuchAgent}
use Rattle.agent.specs.Agents.{AgentOn, state_of}
use Rattle.agent.specs.MemTape.{mem_state, mem_reads}
use Rattle.agent.specs.Opening.{IsOpened, IsRefused}
use Rattle.agent.specs.Replies.{stood}
use Rattle.agent.specs.States.{finished_moves, held_by_tape}
use Rattle.event_text.specs.ReplyText.{reply_line}
use Rattle.robot.specs.FileTape.{file_fault_of}
use Rattle.robot.specs.declared.file_tape.FileTapeFault.{FileTapeFault}
use Rattle.robot.specs.declared.file_tape.FileTapeFault.TheVariants as file_fault
use Rattle.agent_commands.specs.TapeCommand.{IsNotShown, IsOpenedOn, IsReadWhole, IsShown, records_line, tape_of_bytes}
use Rattle.agent_commands.specs.Code.Reports.{IsImageOf, IsNoImage, IsReported, IsReportOf, outcome_of, standing_of}
use Rattle.agent_commands.specs.declared.agent_fault.AgentFault.{AgentFault}
use Rattle.agent_commands.specs.declared.agent_fault.AgentFault.TheVariants.{File, Tape}
use Rattle.agent_commands.specs.declared.tape_report.TapeImage.{TapeImage}
use Rattle.agent_commands.specs.declared.tape_report.TapeReport.{TapeReport}
use Rattle.agent_commands.proofs.TapeLemmas.{has_track}

-- why an image of the front of a file is refused: there is room for it
pub not_made : {T : Type 0} (remaining : T → Option (List ℕ)) (room : ℕ) (old new : Counted T) (f : TapeMakeFault) → (f ≡ made_too_long → ⊥)
    → IsNoImage remaining room old new (file_fault_of f)
not_made remaining room old new made_too_long fits = absurd (fits refl)
not_made remaining room old new made_out_of_memory fits = tt

-- a file that is no tape shows nothing of an agent of the timetable
pub not_taken : {T : Type 0} (remaining : T → Option (List ℕ)) (table : Timetable) (i n : ℕ) (old new : Counted T) (f : FileTapeFault)
    → Some n ≡ option_map moves (track_of table i) → IsNoImage remaining (20 * n) old new f → IsNotShown remaining table i old new (File f)
not_taken remaining table i n old new file_fault.TooLong is why =
    let t = has_track (track_of table i) n is in
    record { track = t.0; is_track = t.1; bytes = why.0; front = why.1; longer = subst (λ (m : ℕ). 20 * m + 10 ≤ length why.0) t.2 why.2 }
not_taken remaining table i n old new file_fault.TapeFailed is why = let t = has_track (track_of table i) n is in ((t.0, t.1), why)
not_taken remaining table i n old new file_fault.OutOfMemory is why = let t = has_track (track_of table i) n is in (t.0, t.1)
not_taken remaining table i n old new file_fault.InUse is why = absurd why

-- an image of which no agent is opened
pub not_opened : {T : Type 0} (remaining : T → Option (List ℕ)) (table : Timetable) (i n : ℕ) (old new : Counted T) (image : TapeImage) (after : MemTape) (f : OpenFault)
    → Some n ≡ option_map moves (track_of table i) → IsImageOf remaining (20 * n) old new image → IsRefused mem_state mem_reads table i image.tape after f
    → IsNotShown remaining table i old new (Tape f)
not_opened remaining table i n old new image after NoSuchAgent is of refused =
    let t = has_track (track_of table i) n is in
    let bad : None ≡ Some t.0 = sym refused.0 ∙ t.1 in
    cc
not_opened remaining table i n old new image after f is of refused =
    let t = has_track (track_of table i) n is in
    record {
      track = t.0;
      is_track = t.1;
      bytes = of.bytes;
      whole = of.whole;
      image = image.tape;
      is_image = of.is_tape ∙ ap (λ (m : ℕ). tape_of_bytes (20 * m) of.bytes) t.2;
      after = after;
      refused = refused;
    }

-- the text of a report is that of its agent and its file
pub is_shown : {T : Type 0} (remaining : T → Option (List ℕ)) (table : Timetable) (i n : ℕ) (old new : Counted T) (image : TapeImage) (a : AgentOn MemTape) (r : TapeReport)
    → Some n ≡ option_map moves (track_of table i) → IsImageOf remaining (20 * n) old new image → IsOpened mem_state mem_reads table i image.tape a
    → IsReportOf table a image.len r → IsReported remaining table i old new r
is_shown remaining table i n old new image a r is of opened report =
    let t = has_track (track_of table i) n is in
    let s = state_of mem_state a in
    let own : track_of table a.part.agent ≡ Some t.0 = ap (track_of table) opened.id ∙ t.1 in
    let same : report.holds.0 ≡ t.0 = same_Some _ _ (sym report.holds.1 ∙ own) in
    let stands : standing_of r ≡ reply_line (stood (held_by_tape t.0 s) (finished_moves s))
    = ap₂ (λ h d. reply_line (stood h d)) (report.holds.2 ∙ ap (λ track. held_by_tape track s) same) report.is_done in
    let torn : r.torn ≡ length of.bytes - record_length * s.records = report.torn ∙ ap (λ (m : ℕ). m - record_length * s.records) of.count in
    let opened_on : IsOpenedOn (IsReadWhole remaining old new) table i of.bytes t.0 s = record {
      is_track = t.1;
      whole = of.whole;
      image = image.tape;
      is_image = of.is_tape ∙ ap (λ (m : ℕ). tape_of_bytes (20 * m) of.bytes) t.2;
      agent = a;
      opened = opened;
      is_state = refl;
    } in
    let is_text = ap₂ (λ x y. (x ++ line_feed ∷ []) ++ (y ++ line_feed ∷ [])) stands (ap₂ records_line report.records torn)
    ∙ ap (λ l. (reply_line (stood (held_by_tape t.0 s) (finished_moves s)) ++ line_feed ∷ []) ++ l)
    (sym (append-nil (records_line s.records (length of.bytes - record_length * s.records) ++ line_feed ∷ []))) in
    ((of.bytes, t.0, s, opened_on, is_text), (of.bytes, t.0, s, opened_on, report.records))

-- what was found, as its text
pub as_text : {T : Type 0} (remaining : T → Option (List ℕ)) (table : Timetable) (i : ℕ) (old new : Counted T) (r : Result TapeReport AgentFault)
    → MatchResult r (IsReported remaining table i old new) (IsNotShown remaining table i old new)
    → MatchResult (outcome_of r) (IsShown remaining table i old new) (IsNotShown remaining table i old new)
as_text remaining table i old new (Ok report) shown = shown.0
as_text remaining table i old new (Err fault) not = not
