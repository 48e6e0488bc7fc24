-- The keys are those of the entries.
use Rattle.std.proofs.Common.{◌≡◌, map, take, None, arith, ap, ◌∙◌}
use Rattle.std.proofs.Math.Seq.{take-length}
use Rattle.std.proofs.lemmas.List.{get_or_default}
use Rattle.walks.specs.Code.KeyParts.{number_of_entry}
use Rattle.walks.proofs.TableLemmas.{entries_back}
use Rattle.walks.proofs.TileLemmas.{values_more}
use Rattle.walks.proofs.length_table.LengthTable.from_entries.Goals as goal

pub loop-entry-preserved : goal.loop-entry-preserved
loop-entry-preserved c =
    let es = c.args.entries.now in
    let i = c.loop-entry.entry-index in
    ap (map (λ k. k.value)) c.in_ok-push.ensures.items
    ∙ values_more c.loop-entry.keys.items c.of.result es i c.loop-entry.invariant (c.of.ensures ∙ ap number_of_entry (c.entry-item.is ∙ get_or_default es i c.entry-item.result None (omega arith)))
    (omega arith)

pub returns : goal.returns
returns c =
    let es = c.args.entries.now in
    let i = c.loop-entry.entry-index in
    let all : map (λ k. k.value) c.loop-entry.keys.items ≡ map number_of_entry es =
    c.loop-entry.invariant ∙ ap (λ n. map number_of_entry (take n es)) (omega arith) ∙ ap (map number_of_entry) (take-length es) in
    entries_back c.loop-entry.keys es all
