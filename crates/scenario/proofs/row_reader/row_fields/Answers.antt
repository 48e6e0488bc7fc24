-- What is wrong with a line's fields, whatever else the line is.
use Rattle.std.proofs.Common.{inr, length, refl, sym, ap, ◌∙◌}
use Rattle.scenario.specs.Fields.{fields_in_content}
use Rattle.scenario.specs.Code.Parsing.{fields_seen}
use Rattle.scenario.proofs.ReadRowLemmas.{faults-number}
use Rattle.scenario.proofs.row_reader.row_fields.Goals as goal

pub returns-in_default-nine_fields : goal.returns-in_default-nine_fields
returns-in_default-nine_fields c = λ line is_line short is some.
    inr (λ place over. (refl, (over, refl, short, some), λ nine. c.in_default-nine_fields.ensures (ap (λ l. length (fields_in_content l)) (sym is) ∙ nine)))

pub returns-in-Err : goal.returns-in-Err
returns-in-Err c = λ line is_line short is some.
    faults-number c.args.number line (fields_seen c.in-Some-nine_fields.fields) c.in-Err.field
    (record { is_line = is_line; short = short; some = some; has = ap fields_in_content is ∙ c.in-Some-nine_fields.ensures }) c.in-Err.ensures
