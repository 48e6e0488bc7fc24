-- Line by line.
use Rattle.std.proofs.Common.{◌∷◌, map, refl, ap, ◌∙◌}
use Rattle.text_io.specs.Text.{ended}
use Rattle.event_text.specs.EventText.{event_header}
use Rattle.event_text.specs.EventLine.{event_line}
use Rattle.event_text.proofs.OneText.{lines-are, lines-within, lines-spell}
use Rattle.event_text.proofs.laws.one_text.Goals as goal

pub returns-clause-one : goal.returns-clause-one
returns-clause-one c version es text h = h.lines ∙ ap (λ ls. ended (event_header version ∷ ls)) (lines-are es h.event_lines h.are_events)

pub returns-clause-some : goal.returns-clause-some
returns-clause-some c version es h = record { event_lines = map event_line es; lines = refl; are_events = lines-spell es h }

pub returns-clause-within : goal.returns-clause-within
returns-clause-within c version es text h = lines-within es h.event_lines h.are_events
