-- The tests are the parts of a table.
use Rattle.std.proofs.Common.{◌*◌, sym, ap, ◌∙◌}
use Rattle.std.proofs.lemmas.Option.{same_Some}
use Rattle.walks.proofs.certificate.is_table.Goals as goal

pub returns-then-len-count : goal.returns-then-len-count
returns-then-len-count c =
    let m = c.args.map.now in
    let found = sym c.entry.ensures ∙ c.in-Some.is in (
      λ e.
          let h = c.is_of.ensures.0 e in
          record {
            cells = sym c.len.ensures ∙ c.if-len-count.true ∙ ap (λ w. w * c.height.result) c.width.ensures.width ∙ ap (λ h. m.width * h) c.height.ensures.height;
            origin = (c.in-Some.length, found, sym h.0, sym h.1);
          },
      λ t.
          let zero_length = t.origin in
          let same = same_Some zero_length.0 c.in-Some.length (sym zero_length.1 ∙ found) in
          c.is_of.ensures.1 (sym zero_length.2 ∙ ap (λ l. l.straight) same, sym zero_length.3 ∙ ap (λ l. l.diagonal) same),
    )
