-- Where the agent is, and then what its file has.
use Rattle.std.proofs.Common.{[], ◌∷◌, ◌++◌, ap, append-nil, refl}
use Rattle.std.proofs.lemmas.Result.{err_from_is_err_and}
use Rattle.text_io.specs.Text.{line_feed}
use Rattle.event_text.specs.ReplyText.{reply_line}
use Rattle.text_io.specs.Laws.Putting.{Leaves-all, Leaves-less, Leaves-broken, Puts-last, Breaks-last}
use Rattle.agent_commands.specs.Code.Reports.{standing_of}
use Rattle.agent_commands.specs.TapeCommand.{records_line}
use Rattle.agent_commands.proofs.tape_report.put_report.Goals as goal

pub returns-in_err-put_reply-clause-err : goal.returns-in_err-put_reply-clause-err
returns-in_err-put_reply-clause-err g c =
    let p = err_from_is_err_and c.from_residual.result c.from_residual.ensures.1 in
    let first = standing_of c.args.report ++ line_feed ∷ [] in
    let left = records_line c.args.report.records c.args.report.torn ++ line_feed ∷ [] in
    let is = ap (λ a. reply_line a ++ line_feed ∷ []) c.reply_to_restart.ensures in
    let all = Leaves-all g.W.Write.contents _ _ (first ++ left) refl in
    rw p.1 (Leaves-broken g.W.Write.contents _ _ _ _ first left _ all is c.in_err-put_reply.ensures.err)

pub returns-in_err-put_records-clause-err : goal.returns-in_err-put_records-clause-err
returns-in_err-put_records-clause-err g c =
    let p = err_from_is_err_and c.from_residual-in_err-put_records.result c.from_residual-in_err-put_records.ensures.1 in
    let first = standing_of c.args.report ++ line_feed ∷ [] in
    let left = records_line c.args.report.records c.args.report.torn ++ line_feed ∷ [] in
    let is = ap (λ a. reply_line a ++ line_feed ∷ []) c.reply_to_restart.ensures in
    let all = Leaves-all g.W.Write.contents _ _ (first ++ (left ++ [])) (ap (λ l. first ++ l) (append-nil left)) in
    let less = Leaves-less g.W.Write.contents _ _ _ _ first (left ++ []) _ all is c.in_ok-put_reply.ensures.ok in
    rw p.1 (Leaves-broken g.W.Write.contents _ _ _ _ left [] _ less refl c.in_err-put_records.ensures.err)

pub returns-clause-ok : goal.returns-clause-ok
returns-clause-ok g c =
    let first = standing_of c.args.report ++ line_feed ∷ [] in
    let left = records_line c.args.report.records c.args.report.torn ++ line_feed ∷ [] in
    let is = ap (λ a. reply_line a ++ line_feed ∷ []) c.reply_to_restart.ensures in
    let all = Leaves-all g.W.Write.contents _ _ (first ++ (left ++ [])) (ap (λ l. first ++ l) (append-nil left)) in
    let less = Leaves-less g.W.Write.contents _ _ _ _ first (left ++ []) _ all is c.in_ok-put_reply.ensures.ok in
    let last = Leaves-less g.W.Write.contents _ _ _ _ left [] _ less refl c.in_ok-put_records.ensures.ok in
    Puts-last g.W.Write.contents _ _ _ _ [] _ c.hand_on.result last refl c.hand_on.ensures.ok

pub returns-clause-err : goal.returns-clause-err
returns-clause-err g c =
    let first = standing_of c.args.report ++ line_feed ∷ [] in
    let left = records_line c.args.report.records c.args.report.torn ++ line_feed ∷ [] in
    let is = ap (λ a. reply_line a ++ line_feed ∷ []) c.reply_to_restart.ensures in
    let all = Leaves-all g.W.Write.contents _ _ (first ++ (left ++ [])) (ap (λ l. first ++ l) (append-nil left)) in
    let less = Leaves-less g.W.Write.contents _ _ _ _ first (left ++ []) _ all is c.in_ok-put_reply.ensures.ok in
    let last = Leaves-less g.W.Write.contents _ _ _ _ left [] _ less refl c.in_ok-put_records.ensures.ok in
    Breaks-last g.W.Write.contents _ _ _ _ [] _ c.hand_on.result last refl c.hand_on.ensures.err
