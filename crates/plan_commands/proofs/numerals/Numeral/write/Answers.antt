-- What stood before is followed by the numeral.
use Rattle.std.proofs.Common.{length, take, ap, arith}
use Rattle.std.proofs.lemmas.List.{length-take-le}
use Rattle.plan_commands.proofs.NumeralLemmas.{written}
use Rattle.plan_commands.proofs.numerals.Numeral.write.Goals as goal

pub returns-clause-text : goal.returns-clause-text
returns-clause-text c =
    let room = c.requires in
    let short = c.self.invariant in
    let same = c.copy_from_slice.ensures.after in
    let long = c.copy_from_slice.ensures.len in
    let count = length-take-le c.args.at c.args.bytes.now (omega (arith, room)) in
    written c.args.at c.from.result c.self.inside.len (take c.args.at c.args.bytes.now) c.copy_from_slice.new.self _ c.self.inside.bytes c.args.self.now count
    c.from.ensures (omega (arith, short, long, room, ap length same)) same c.self.view_is
