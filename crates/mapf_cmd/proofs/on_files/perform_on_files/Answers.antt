-- The command ends as its files say, for the line that it is.
use Rattle.std.proofs.Common.{◌≡◌, MatchResult, refl, subst, sym}
use Rattle.std.proofs.lemmas.Result.{MatchResult-weaker}
use Rattle.command_line.specs.declared.lines.Line.{Line}
use Rattle.clap.specs.Words.{Text}
use Rattle.ending.specs.Ending.{End, end_of}
use Rattle.mapf_cmd.specs.Program.{AnswersText, IsJustOpened, OnFileOrInput, PerformsOn, ShowsOn}
use Rattle.mapf_cmd.proofs.on_files.perform_on_files.Goals as goal

pub returns-in-Row : goal.returns-in-Row
returns-in-Row g c =
    let done = c.row_on_files in
    let Ends : Line → Type 0 = λ line. MatchResult done.result (λ ending. PerformsOn g.R.Reader.Read.remaining g.R.Tape.Read.remaining g.R.ReadFiles.was_done g.I.Read.remaining
    g.W.Write.contents line c.args.input.now c.args.input.now c.args.out.now
    done.new.out (end_of ending) × ShowsOn g.E.Write.contents c.args.is_watched line c.args.err.now c.args.err.now)
    (λ _. (c.args.input.now ≡ c.args.input.now) × (done.new.out ≡ c.args.out.now) × (c.args.err.now ≡ c.args.err.now)) in
    subst Ends (sym c.in-Row.is) (MatchResult-weaker done.result done.ensures (λ _ on. ((on, refl), refl)) (λ _ kept. (refl, kept, refl)))

pub returns-in-Query : goal.returns-in-Query
returns-in-Query g c =
    let done = c.query_on_files in
    let Ends : Line → Type 0 = λ line. MatchResult done.result (λ ending. PerformsOn g.R.Reader.Read.remaining g.R.Tape.Read.remaining g.R.ReadFiles.was_done g.I.Read.remaining
    g.W.Write.contents line c.args.input.now c.args.input.now c.args.out.now
    done.new.out (end_of ending) × ShowsOn g.E.Write.contents c.args.is_watched line c.args.err.now c.args.err.now)
    (λ _. (c.args.input.now ≡ c.args.input.now) × (done.new.out ≡ c.args.out.now) × (c.args.err.now ≡ c.args.err.now)) in
    subst Ends (sym c.in-Query.is) (MatchResult-weaker done.result done.ensures (λ _ on. ((on, refl), refl)) (λ _ kept. (refl, kept, refl)))

pub returns-in-Continues : goal.returns-in-Continues
returns-in-Continues g c =
    let done = c.continues_on_files in
    let Ends : Line → Type 0 = λ line. MatchResult done.result (λ ending. PerformsOn g.R.Reader.Read.remaining g.R.Tape.Read.remaining g.R.ReadFiles.was_done g.I.Read.remaining
    g.W.Write.contents line c.args.input.now c.args.input.now c.args.out.now
    done.new.out (end_of ending) × ShowsOn g.E.Write.contents c.args.is_watched line c.args.err.now c.args.err.now)
    (λ _. (c.args.input.now ≡ c.args.input.now) × (done.new.out ≡ c.args.out.now) × (c.args.err.now ≡ c.args.err.now)) in
    subst Ends (sym c.in-Continues.is) (MatchResult-weaker done.result done.ensures (λ _ on. ((on, refl), refl)) (λ _ kept. (refl, kept, refl)))

pub returns-in-Optimal : goal.returns-in-Optimal
returns-in-Optimal g c =
    let done = c.optimal_on_files in
    let Ends : Line → Type 0 = λ line. MatchResult done.result (λ ending. PerformsOn g.R.Reader.Read.remaining g.R.Tape.Read.remaining g.R.ReadFiles.was_done g.I.Read.remaining
    g.W.Write.contents line c.args.input.now c.args.input.now c.args.out.now
    done.new.out (end_of ending) × ShowsOn g.E.Write.contents c.args.is_watched line c.args.err.now c.args.err.now)
    (λ _. (c.args.input.now ≡ c.args.input.now) × (done.new.out ≡ c.args.out.now) × (c.args.err.now ≡ c.args.err.now)) in
    subst Ends (sym c.in-Optimal.is) (MatchResult-weaker done.result done.ensures (λ _ on. ((on, refl), refl)) (λ _ kept. (refl, kept, refl)))

pub returns-in-Run : goal.returns-in-Run
returns-in-Run g c =
    let done = c.run_on_files in
    let Ends : Line → Type 0 = λ line. MatchResult done.result (λ ending. PerformsOn g.R.Reader.Read.remaining g.R.Tape.Read.remaining g.R.ReadFiles.was_done g.I.Read.remaining
    g.W.Write.contents line c.args.input.now c.args.input.now c.args.out.now
    done.new.out (end_of ending) × ShowsOn g.E.Write.contents c.args.is_watched line c.args.err.now c.args.err.now)
    (λ _. (c.args.input.now ≡ c.args.input.now) × (done.new.out ≡ c.args.out.now) × (c.args.err.now ≡ c.args.err.now)) in
    subst Ends (sym c.in-Run.is) (MatchResult-weaker done.result done.ensures (λ _ on. ((on, refl), refl)) (λ _ kept. (refl, kept, refl)))

pub returns-in-Tape : goal.returns-in-Tape
returns-in-Tape g c =
    let done = c.tape_on_files in
    let Ends : Line → Type 0 = λ line. MatchResult done.result (λ ending. PerformsOn g.R.Reader.Read.remaining g.R.Tape.Read.remaining g.R.ReadFiles.was_done g.I.Read.remaining
    g.W.Write.contents line c.args.input.now c.args.input.now c.args.out.now
    done.new.out (end_of ending) × ShowsOn g.E.Write.contents c.args.is_watched line c.args.err.now c.args.err.now)
    (λ _. (c.args.input.now ≡ c.args.input.now) × (done.new.out ≡ c.args.out.now) × (c.args.err.now ≡ c.args.err.now)) in
    subst Ends (sym c.in-Tape.is) (MatchResult-weaker done.result done.ensures (λ _ on. ((on, refl), refl)) (λ _ kept. (refl, kept, refl)))

pub returns-in-Fleet : goal.returns-in-Fleet
returns-in-Fleet g c =
    let done = c.fleet_on_files in
    let Ends : Line → Type 0 = λ line. MatchResult done.result (λ ending. PerformsOn g.R.Reader.Read.remaining g.R.Tape.Read.remaining g.R.ReadFiles.was_done g.I.Read.remaining
    g.W.Write.contents line c.args.input.now c.args.input.now c.args.out.now
    done.new.out (end_of ending) × ShowsOn g.E.Write.contents c.args.is_watched line c.args.err.now c.args.err.now)
    (λ _. (c.args.input.now ≡ c.args.input.now) × (done.new.out ≡ c.args.out.now) × (c.args.err.now ≡ c.args.err.now)) in
    subst Ends (sym c.in-Fleet.is) (MatchResult-weaker done.result done.ensures (λ _ on. ((on, refl), refl)) (λ _ kept. (refl, kept, refl)))

pub returns-in-Text : goal.returns-in-Text
returns-in-Text g c =
    let done = c.text_on_file in
    let Ends : Line → Type 0 = λ line. MatchResult done.result (λ ending. PerformsOn g.R.Reader.Read.remaining g.R.Tape.Read.remaining g.R.ReadFiles.was_done g.I.Read.remaining
    g.W.Write.contents line c.args.input.now done.new.input c.args.out.now
    done.new.out (end_of ending) × ShowsOn g.E.Write.contents c.args.is_watched line c.args.err.now c.args.err.now)
    (λ _. (done.new.input ≡ c.args.input.now) × (done.new.out ≡ c.args.out.now) × (c.args.err.now ≡ c.args.err.now)) in
    let Answers : Text → End → Type 0 = λ file end. OnFileOrInput (IsJustOpened g.R.Reader.Read.remaining g.R.ReadFiles.was_done) file
    (λ p q. AnswersText g.I.Read.remaining g.W.Write.contents c.in-Text.query p q c.args.out.now done.new.out end)
    (λ p q. AnswersText g.R.Reader.Read.remaining g.W.Write.contents c.in-Text.query p q c.args.out.now done.new.out end) c.args.input.now done.new.input in
    subst Ends (sym c.in-Text.is)
    (MatchResult-weaker done.result done.ensures (λ ending on. (subst (λ file. Answers file (end_of ending)) c.deref.ensures on, refl)) (λ _ kept. (kept.0, kept.1, refl)))

pub returns-in-Agent : goal.returns-in-Agent
returns-in-Agent g c =
    let done = c.agent_on_files in
    let Ends : Line → Type 0 = λ line. MatchResult done.result (λ ending. PerformsOn g.R.Reader.Read.remaining g.R.Tape.Read.remaining g.R.ReadFiles.was_done g.I.Read.remaining
    g.W.Write.contents line c.args.input.now done.new.input c.args.out.now
    done.new.out (end_of ending) × ShowsOn g.E.Write.contents c.args.is_watched line c.args.err.now c.args.err.now)
    (λ _. (done.new.input ≡ c.args.input.now) × (done.new.out ≡ c.args.out.now) × (c.args.err.now ≡ c.args.err.now)) in
    subst Ends (sym c.in-Agent.is) (MatchResult-weaker done.result done.ensures (λ _ on. (on, refl)) (λ _ kept. (kept.0, kept.1, refl)))

pub returns-in-Check : goal.returns-in-Check
returns-in-Check g c =
    let done = c.check_on_files in
    let Ends : Line → Type 0 = λ line. MatchResult done.result (λ ending. PerformsOn g.R.Reader.Read.remaining g.R.Tape.Read.remaining g.R.ReadFiles.was_done g.I.Read.remaining
    g.W.Write.contents line c.args.input.now c.args.input.now c.args.out.now
    done.new.out (end_of ending) × ShowsOn g.E.Write.contents c.args.is_watched line c.args.err.now c.args.err.now)
    (λ _. (c.args.input.now ≡ c.args.input.now) × (done.new.out ≡ c.args.out.now) × (c.args.err.now ≡ c.args.err.now)) in
    subst Ends (sym c.in-Check.is) (MatchResult-weaker done.result done.ensures (λ _ on. ((on, refl), refl)) (λ _ kept. (refl, kept, refl)))

pub returns-in-Rows : goal.returns-in-Rows
returns-in-Rows g c =
    let done = c.rows_on_files in
    let Ends : Line → Type 0 = λ line. MatchResult done.result (λ ending. PerformsOn g.R.Reader.Read.remaining g.R.Tape.Read.remaining g.R.ReadFiles.was_done g.I.Read.remaining
    g.W.Write.contents line c.args.input.now c.args.input.now c.args.out.now
    done.new.out (end_of ending) × ShowsOn g.E.Write.contents c.args.is_watched line c.args.err.now done.new.err)
    (λ _. (c.args.input.now ≡ c.args.input.now) × (done.new.out ≡ c.args.out.now) × (done.new.err ≡ c.args.err.now)) in
    subst Ends (sym c.in-Rows.is) (MatchResult-weaker done.result done.ensures (λ _ on. ((on.0, refl), on.1)) (λ _ kept. (refl, kept.0, kept.1)))
