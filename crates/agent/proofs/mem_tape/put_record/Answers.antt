-- Each turn puts the next byte.
use Rattle.std.proofs.Common.{◌≡◌, ◌+◌, ◌<◌, ◌++◌, ◌∷◌, [], length, take, get_or, sym, ap, ◌∙◌, arith, append_assoc, append-nil}
use Rattle.std.specs.Prelude.{slice_set}
use Rattle.std.proofs.lemmas.List.{take_more, take_more_set}
use Rattle.agent.proofs.mem_tape.put_record.Goals as goal

pub loop-i-init : goal.loop-i-init
loop-i-init c =
    let none : c.args.at + 0 ≡ c.args.at = omega arith in
    ap (λ n. take n c.args.all.now) none ∙ sym (append-nil (take c.args.at c.args.all.now))

pub loop-i-preserved : goal.loop-i-preserved
loop-i-preserved c =
    let at = c.args.at in
    let i = c.loop-i.i in
    let record_bytes = c.args.record.now in
    let byte = get_or record_bytes i 0 in
    let inside : at + i < length c.loop-i.all = omega arith in
    let own : i < length record_bytes = omega arith in
    let next : at + (i + 1) ≡ (at + i) + 1 = omega arith in
    ap (λ n. take n (slice_set c.loop-i.all (at + i) byte)) next
    ∙ (take_more_set c.loop-i.all (at + i) byte inside ∙ (ap (λ l. l ++ byte ∷ []) c.loop-i.invariant
    ∙ (append_assoc (take at c.args.all.now) (take i record_bytes) (byte ∷ [])
    ∙ ap (λ l. take at c.args.all.now ++ l) (sym (take_more record_bytes i 0 own)))))
