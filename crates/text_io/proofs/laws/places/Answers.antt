use Rattle.text_io.proofs.laws.places.Goals as goal
use Rattle.text_io.specs.Laws.Lines.{lines_of-all, ends_in_line_feed-ended}
use Rattle.text_io.specs.Laws.Places.{stands, found, last, cut, one_cut, are_lines}

pub returns-clause-stands : goal.returns-clause-stands
returns-clause-stands c = stands

pub returns-clause-found : goal.returns-clause-found
returns-clause-found c = found

pub returns-clause-last : goal.returns-clause-last
returns-clause-last c = last

pub returns-clause-cut : goal.returns-clause-cut
returns-clause-cut c = cut

pub returns-clause-one_cut : goal.returns-clause-one_cut
returns-clause-one_cut c = one_cut

pub returns-clause-are_lines : goal.returns-clause-are_lines
returns-clause-are_lines c = are_lines

pub returns-clause-written : goal.returns-clause-written
returns-clause-written c = lines_of-all

pub returns-clause-written_end : goal.returns-clause-written_end
returns-clause-written_end c = ends_in_line_feed-ended
