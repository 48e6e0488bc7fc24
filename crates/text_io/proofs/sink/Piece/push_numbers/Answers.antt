-- Each turn writes the byte and the next number.
use Rattle.std.proofs.Common.{◌<◌, ◌++◌, ◌∷◌, [], length, take, get_or, sym, ap, ◌∙◌, arith, append_assoc, append-nil, rules}
use Rattle.std.specs.Prelude.{decimal}
use Rattle.std.proofs.lemmas.List.{take_all, take_more_set}
use Rattle.text_io.specs.Text.{separated}
use Rattle.text_io.proofs.SinkLemmas.{separated_more}
use Rattle.text_io.proofs.sink.Piece.push_numbers.Goals as goal

pub loop-number-init : goal.loop-number-init
loop-number-init c = record {
  room = omega arith;
  bytes = sym (append-nil (take c.args.self.now.len c.args.self.now.bytes));
}

pub loop-number-preserved : goal.loop-number-preserved
loop-number-preserved c =
    let old = c.args.self.now in
    let numbers = c.args.numbers.now in
    let i = c.loop-number.number-index in
    let sep = c.args.separator in
    let number = get_or numbers i 0 in
    let front = separated sep (take i numbers) in
    let inside : c.loop-number.at < length c.loop-number.self.bytes = search rules in
    let byte = take_more_set c.loop-number.self.bytes c.loop-number.at sep inside in
    record {
      room = omega (arith, c.write_number-at.ensures.within, c.loop-number.invariant.room);
      bytes =
          c.write_number-at.ensures.written ∙ (ap (λ l. l ++ decimal number) (byte ∙ ap (λ l. l ++ sep ∷ []) c.loop-number.invariant.bytes)
          ∙ (append_assoc (take old.len old.bytes ++ front) (sep ∷ []) (decimal number)
          ∙ (append_assoc (take old.len old.bytes) front (sep ∷ decimal number)
          ∙ ap (λ l. take old.len old.bytes ++ l) (sym (separated_more sep numbers i c.loop-number-test.true)))));
    }

pub returns : goal.returns
returns c =
    let old = c.args.self.now in
    let numbers = c.args.numbers.now in
    c.loop-number.invariant.bytes
    ∙ ap (λ ns. take old.len old.bytes ++ separated c.args.separator ns) (take_all c.loop-number.number-index numbers (omega arith))
