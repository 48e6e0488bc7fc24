use Rattle.std.proofs.Common.{inr, refl}
use Rattle.mapf_cmd.proofs.on_files.text_on_file.Goals as goal

pub returns-in_ok-text-in_default : goal.returns-in_ok-text-in_default
returns-in_ok-text-in_default g c =
    inr (c.in_default.not-text, (c.in_ok-text-in_default.text, c.answer_text-in_default.new.text, c.in_ok-text-in_default.ensures, c.answer_text-in_default.ensures), refl)
