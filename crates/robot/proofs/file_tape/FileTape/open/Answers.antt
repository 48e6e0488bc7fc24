use Rattle.std.proofs.Common.{◌≡◌, ◌<◌, List, ℕ, [], take, drop, length, refl, ap, ◌∙◌, rules, arith}
use Rattle.std.proofs.KnownBytes.{Consumes-all}
use Rattle.std.proofs.lemmas.List.{length-take-le}
use Rattle.robot.proofs.ReadLemmas.{read_front, made_of}
use Rattle.robot.proofs.file_tape.FileTape.open.Goals.{then-has_record+in_ok-sync, else-has_record}
use Rattle.robot.proofs.file_tape.FileTape.open.Goals as goal

pub returns-clause-image : goal.returns-clause-image
returns-clause-image g c =
    let read = c.in_ok-len.ensures in
    let buffer = c.read_up_to.new.bytes in
    let len = c.in_ok-len.len in
    let bytes : List ℕ = take len buffer in
    let short = c.if-len-room_len.false in
    let same_size = c.read_up_to.auto.bytes in
    let size = c.deref_mut.ensures.len in
    let made = c.in_ok-bytes.ensures.len in
    let more : len < length buffer = omega (arith, same_size, size, made, short) in
    let whole : c.in_ok-bytes.bytes.len ≡ length buffer = omega (arith, same_size, size) in
    let front : take c.min.result c.deref.result.now ≡ take c.args.room bytes
    = ap (λ n. take n c.deref.result.now) c.min.ensures
    ∙ ap (take _) c.deref.ensures.value
    ∙ read_front c.args.room len c.in_ok-bytes.bytes.len buffer (drop (length buffer) c.in_ok-bytes.bytes.items) read.within whole in
    record {
      bytes = bytes;
      whole = Consumes-all _ _ bytes [] bytes read.bytes (read.end more) refl;
      no_longer = let count = length-take-le len buffer read.within in omega (arith, short, count);
      state = made_of _ _ bytes c.args.room c.in_ok-image.ensures.ok front;
      synced = λ whole. elim c.if-has_record.branch [
        | then-has_record+in_ok-sync w ↦ let is = w.disk-is in let synced = w.in_ok-sync.ensures.ok in search rules
        | else-has_record w ↦ let short = w.if-has_record in let len = c.len-has_record.ensures in let count = whole in absurd (omega (arith, short, len, count))
      ];
    }
