-- The number is that of the key at the place, where there is one.
use Rattle.std.proofs.Common.{◌<◌, ◌≤◌, length, get_or, None, sym, ap, subst, ◌∙◌}
use Rattle.std.proofs.lemmas.Bool.{ltb-false}
use Rattle.walks.specs.Code.KeyParts.{number_of_entry}
use Rattle.walks.specs.Code.TableEntries.{table_entries}
use Rattle.walks.proofs.TableLemmas.{listed_here, listed_past, number_kept}
use Rattle.walks.proofs.length_table.Entries.number.Goals as goal

pub returns-in-Some : goal.returns-in-Some
returns-in-Some c =
    let place = c.args.place in
    let keys = c.in-Listed.keys in
    let key = c.in-Some.key.now in
    let found = c.in-Some.ensures.lookup in
    let value = c.deref.ensures.value in
    c.number_within.ensures ∙ sym (number_kept key) ∙ sym (ap number_of_entry (ap (λ e. get_or (table_entries e) place None) c.in-Listed.is
    ∙ listed_here keys place key (subst (λ l. place < length l) value found.3.0) (found.1 ∙ ap (λ l. get_or l place key) value)))

pub returns-in-None : goal.returns-in-None
returns-in-None c =
    let place = c.args.place in
    let past = ltb-false place (length c.deref.result.now) (sym c.in-None.ensures.lookup.0) in
    sym (ap number_of_entry (ap (λ e. get_or (table_entries e) place None) c.in-Listed.is
    ∙ listed_past c.in-Listed.keys place (subst (λ l. length l ≤ place) c.deref.ensures.value past)))
