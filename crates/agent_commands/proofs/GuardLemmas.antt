-- A tape that is guarded is opened, refused and talked over as one that isn't.
use Rattle.std.proofs.Common.{ℕ, zero, suc, Bool, List, Option, Result, Ok, Err, ap}
use Rattle.text_io.specs.declared.counted.Counted.{Counted}
use Rattle.model.specs.Timetable.{Timetable}
use Rattle.agent.specs.declared.refusal.OpenFault.{OpenFault}
use Rattle.agent.specs.declared.refusal.OpenFault.TheVariants.{NoSuchAgent, Damaged, WrongPlan, TooLong, TapeFailed, WrongAgent, NoRoom}
use Rattle.agent.specs.Agents.{AgentOn}
use Rattle.agent.specs.Opening.{HasRead, IsOpened, IsRecordFault, IsRefused, IsStopped}
use Rattle.agent.specs.Records.{due_record, record_at}
use Rattle.robot.specs.Dialogue.{Leads, Talks}
use Rattle.robot.specs.FileTape.{IsFileRead, file_state}
use Rattle.robot.specs.GuardedTape.{IsGuardedRead, guarded_state}
use Rattle.robot.specs.declared.guarded_tape.GuardedTape.{GuardedTape}
use Rattle.robot.specs.declared.talk_fault.TalkFault.{TalkFault}
use Rattle.robot.specs.declared.talk_fault.TalkFault.TheVariants.{ReadFailed, WriteFailed, StoreFailed, StaleTape, OutOfMemory}
use Rattle.agent_commands.specs.Code.Parts.{unguarded}

reads : {F G : Type 0} (t u : GuardedTape F G) (n : ℕ) → HasRead IsGuardedRead t n u → HasRead IsFileRead t.tape n u.tape
reads t u zero h = ap (λ g. g.tape) h
reads t u (suc n) h = (h.0.tape, reads t h.0 n h.1, h.2)

pub unguard_opened : {F G : Type 0} (tt : Timetable) (i : ℕ) (t : GuardedTape F G) (a : AgentOn (GuardedTape F G)) → IsOpened guarded_state IsGuardedRead tt i t a
    → IsOpened file_state IsFileRead tt i t.tape (unguarded a)
unguard_opened tt i t a h = record {
  track = h.track;
  is_track = h.is_track;
  size = h.size;
  due = h.due;
  reads = reads t a.tape _ h.reads;
  contents = h.contents;
  part = h.part;
  id = h.id;
  heard = h.heard;
  broken = h.broken;
}

stop : {F G : Type 0} (due bytes : List ℕ) (n : ℕ) (t u : GuardedTape F G) (fault : OpenFault) → IsRecordFault IsGuardedRead due bytes n t u fault
    → IsRecordFault IsFileRead due bytes n t.tape u.tape fault
stop due bytes n t u TapeFailed h = h
stop due bytes n t u (Damaged m) h = h
stop due bytes n t u (WrongPlan m) h = h
stop due bytes n t u (WrongAgent m) h = h
stop due bytes n t u NoSuchAgent h = h
stop due bytes n t u TooLong h = h
stop due bytes n t u NoRoom h = h

stopped : {F G : Type 0} (tt : Timetable) (i : ℕ) (t u : GuardedTape F G) (fault : OpenFault) → IsStopped guarded_state IsGuardedRead tt i t u fault
    → IsStopped file_state IsFileRead tt i t.tape u.tape fault
stopped tt i t u fault h =
    let at = h.1.1 in (
      h.0,
      (
        h.1.0,
        record {
          within = at.within;
          due = at.due;
          before = at.before.tape;
          reads = reads t at.before _ at.reads;
          stops = stop (due_record tt.number i h.1.0) (record_at (guarded_state t).contents h.1.0) h.1.0 at.before u fault at.stops;
        },
      ),
    )

pub unguard_refused : {F G : Type 0} (tt : Timetable) (i : ℕ) (t u : GuardedTape F G) (fault : OpenFault) → IsRefused guarded_state IsGuardedRead tt i t u fault
    → IsRefused file_state IsFileRead tt i t.tape u.tape fault
unguard_refused tt i t u NoSuchAgent h = (h.0, ap (λ g. g.tape) h.1)
unguard_refused tt i t u NoRoom h = (h.0, h.1, h.2, ap (λ g. g.tape) h.3)
unguard_refused tt i t u TooLong h = (h.0, h.1, h.2, h.3, ap (λ g. g.tape) h.4)
unguard_refused tt i t u TapeFailed h = stopped tt i t u TapeFailed h
unguard_refused tt i t u (Damaged m) h = stopped tt i t u (Damaged m) h
unguard_refused tt i t u (WrongPlan m) h = stopped tt i t u (WrongPlan m) h
unguard_refused tt i t u (WrongAgent m) h = stopped tt i t u (WrongAgent m) h

module _
    {F G I W : Type 0} (input_left : I → Option (List ℕ)) (contents : W → Option (List ℕ)) (heeds : Bool) (tt : Timetable) (old_in new_in : Counted I)
    (old_out new_out : Counted W) (a b : AgentOn (GuardedTape F G))
  where
    led : (r : Result Unit TalkFault) → Leads input_left contents guarded_state heeds tt old_in new_in old_out new_out a b r
        → Leads input_left contents file_state heeds tt old_in new_in old_out new_out (unguarded a) (unguarded b) r
    led r h = record {
      track = h.track;
      is_track = h.is_track;
      part = h.part;
      lines = h.lines;
      texts = h.texts;
      deeds = h.deeds;
      does = h.does;
      heedful = h.heedful;
      answers = h.answers;
      input = h.input;
      consumed = h.consumed;
      reads = h.reads;
      blames = h.blames;
      written = h.written;
    }

    pub unguard_talks : (r : Result Unit TalkFault) → Talks input_left contents guarded_state heeds tt old_in new_in old_out new_out a b r
        → Talks input_left contents file_state heeds tt old_in new_in old_out new_out (unguarded a) (unguarded b) r
    unguard_talks (Ok done) h = led (Ok done) h
    unguard_talks (Err ReadFailed) h = led (Err ReadFailed) h
    unguard_talks (Err WriteFailed) h = led (Err WriteFailed) h
    unguard_talks (Err StoreFailed) h = led (Err StoreFailed) h
    unguard_talks (Err StaleTape) h = led (Err StaleTape) h
    unguard_talks (Err OutOfMemory) h = (h.0, h.1, ap unguarded h.2)
