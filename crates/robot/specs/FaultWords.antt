-- The words of why a file is not opened as a tape, and of why a dialogue ended early.
use Rattle.std.specs.Prelude.{[], codes}
use Rattle.text_io.specs.declared.failure.Failure.TheVariants as failure
use Rattle.text_io.specs.FaultWords.{Words, text_fault, failed}
use Rattle.robot.specs.declared.file_tape.FileTapeFault.{FileTapeFault}
use Rattle.robot.specs.declared.file_tape.FileTapeFault.TheVariants as file_tape_fault
use Rattle.robot.specs.declared.talk_fault.TalkFault.{TalkFault}
use Rattle.robot.specs.declared.talk_fault.TalkFault.TheVariants as talk_fault

abbrev pub file_tape_fault_words : FileTapeFault → Words
file_tape_fault_words file_tape_fault.TooLong = text_fault (codes "TooLong") []
file_tape_fault_words file_tape_fault.InUse = failed failure.TapeInUse
file_tape_fault_words file_tape_fault.TapeFailed = failed failure.TapeFailed
file_tape_fault_words file_tape_fault.OutOfMemory = failed failure.OutOfMemory

abbrev pub talk_fault_words : TalkFault → Words
talk_fault_words talk_fault.ReadFailed = failed failure.ReadFailed
talk_fault_words talk_fault.WriteFailed = failed failure.WriteFailed
talk_fault_words talk_fault.StoreFailed = failed failure.StoreFailed
talk_fault_words talk_fault.StaleTape = text_fault (codes "StaleTape") []
talk_fault_words talk_fault.OutOfMemory = failed failure.OutOfMemory
