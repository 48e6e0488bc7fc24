-- The entry is that of the key at the place, or of the cell.
use Rattle.std.proofs.Common.{◌<◌, ◌≤◌, length, get_or, None, arith, sym, ap, subst, ◌∙◌}
use Rattle.std.proofs.lemmas.Bool.{ltb-false}
use Rattle.walks.specs.Code.TableEntries.{table_entries}
use Rattle.walks.proofs.TableLemmas.{listed_here, listed_past, found_here, found_past}
use Rattle.walks.proofs.length_table.Entries.entry.Goals as goal

pub returns-in-Some : goal.returns-in-Some
returns-in-Some c =
    let place = c.args.place in
    let keys = c.in-Listed.keys in
    let key = c.in-Some.key.now in
    let found = c.in-Some.ensures.lookup in
    let value = c.deref.ensures.value in
    c.length.ensures ∙ sym (ap (λ e. get_or (table_entries e) place None) c.in-Listed.is
    ∙ listed_here keys place key (subst (λ l. place < length l) value found.3.0) (found.1 ∙ ap (λ l. get_or l place key) value))

pub returns-in-None : goal.returns-in-None
returns-in-None c =
    let place = c.args.place in
    let past = ltb-false place (length c.deref.result.now) (sym c.in-None.ensures.lookup.0) in
    sym (ap (λ e. get_or (table_entries e) place None) c.in-Listed.is ∙ listed_past c.in-Listed.keys place (subst (λ l. length l ≤ place) c.deref.ensures.value past))

pub returns-then-place-len : goal.returns-then-place-len
returns-then-place-len c =
    let e = c.len.ensures.value in
    c.entry.ensures ∙ sym (ap (λ e. get_or (table_entries e) c.args.place None) c.in-Found.is ∙ found_here c.in-Found.tiles c.args.place (omega (arith, e, c.if-place-len.true)))

pub returns-else-place-len : goal.returns-else-place-len
returns-else-place-len c =
    let e = c.len.ensures.value in
    sym (ap (λ e. get_or (table_entries e) c.args.place None) c.in-Found.is ∙ found_past c.in-Found.tiles c.args.place (omega (arith, e, c.if-place-len.false)))
