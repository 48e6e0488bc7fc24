-- A file that could not be opened is told, and nothing was shown.
use Rattle.std.proofs.Common.{◌∙◌, ◌||◌, ℕ, Bool, List, Option, inr, ap, refl, subst, sym}
use Rattle.text_io.specs.declared.counted.Counted.{Counted}
use Rattle.command_line.specs.declared.lines.Line.{Line}
use Rattle.command_line.specs.declared.lines.Line.TheVariants as line
use Rattle.ending.specs.Ending.{gave_up}
use Rattle.text_commands.specs.Laws.Progress.{shows_nothing}
use Rattle.mapf_cmd.specs.Program.{ShowsOn}
use Rattle.mapf_cmd.proofs.program.perform.Goals as goal

shows_none : {E : Type 0} (told : E → Option (List ℕ)) (is_watched : Bool) (l : Line) (now : Counted E) → ShowsOn told is_watched l now now
shows_none told is_watched (line.Rows l) now = shows_nothing told (l.progress || is_watched) now
shows_none told is_watched (line.Text file query) now = refl
shows_none told is_watched (line.Row a b c) now = refl
shows_none told is_watched (line.Check l) now = refl
shows_none told is_watched (line.Query a b c) now = refl
shows_none told is_watched (line.Optimal l) now = refl
shows_none told is_watched (line.Continues a b c) now = refl
shows_none told is_watched (line.Run a b c d) now = refl
shows_none told is_watched (line.Agent a b c d e) now = refl
shows_none told is_watched (line.Tape a b c d) now = refl
shows_none told is_watched (line.Fleet l) now = refl

pub returns-in-Err-clause-performs : goal.returns-in-Err-clause-performs
returns-in-Err-clause-performs g c = inr (c.gave_up.ensures ∙ ap gave_up (c.of.ensures ∙ c.words.ensures), c.in-Err.ensures.0, c.in-Err.ensures.1)

pub returns-in-Err-clause-shows : goal.returns-in-Err-clause-shows
returns-in-Err-clause-shows g c =
    subst (λ now. ShowsOn g.E.Write.contents c.args.is_watched c.args.line.now c.args.err.now now) (sym c.in-Err.ensures.2)
    (shows_none g.E.Write.contents c.args.is_watched c.args.line.now c.args.err.now)
