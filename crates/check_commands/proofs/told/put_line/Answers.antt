use Rattle.std.proofs.Common.{ap, sym}
use Rattle.check_commands.specs.Code.Listing.{told_against}
use Rattle.check_commands.specs.FaultsText.{line_of_told}
use Rattle.ending.specs.Laws.Pieces.{breaks_as, puts_as}
use Rattle.check_commands.proofs.told.put_line.Goals as goal

pub returns-in-Turn-clause-ok : goal.returns-in-Turn-clause-ok
returns-in-Turn-clause-ok g c =
    puts_as g.W.Write.contents _ _ c.put_turn.result _ _ (ap (λ told. line_of_told (told_against told)) (sym c.in-Turn.is)) c.put_turn.ensures.ok

pub returns-in-Turn-clause-err : goal.returns-in-Turn-clause-err
returns-in-Turn-clause-err g c =
    breaks_as g.W.Write.contents _ _ c.put_turn.result _ _ (ap (λ told. line_of_told (told_against told)) (sym c.in-Turn.is)) c.put_turn.ensures.err
