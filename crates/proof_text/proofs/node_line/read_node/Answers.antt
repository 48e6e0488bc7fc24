-- Why a line is no node's.
use Rattle.std.proofs.Common.{◌≢◌, refl, sym, ap, ◌∙◌, inl, inr, codes}
use Rattle.std.specs.Str.{bytes_eq}
use Rattle.std.specs.Cmp.Lexicographic.{bytes_decides}
use Rattle.std.proofs.lemmas.Bool.{both_ways, not-false}
use Rattle.proof_text.proofs.PartLemmas.{SpellsNode-from_parts}
use Rattle.proof_text.proofs.node_line.read_node.Goals as goal

pub returns-in_default : goal.returns-in_default
returns-in_default c = λ m ends objective bound count here due.
    let line = c.args.line.now in
    let other : line ≢ codes "leaf" = λ e.
    both_ways (bytes_eq line (codes "leaf")) (ap (bytes_eq line) (sym c.as_slice.ensures) ∙ sym c.if-eq.ensures) ((bytes_decides line (codes "leaf")).1 e) in
    (refl, record { ended = refl; short = c.requires }, tt, inl (c.in_default.ensures other))

pub returns-then-not-is_node : goal.returns-then-not-is_node
returns-then-not-is_node c = λ m ends objective bound count here due.
    let node = c.node-node.result in
    let spells = SpellsNode-from_parts c.in-Some.form c.in-Some.numbers c.args.line.now node c.in-Some.ensures (not-false c.in-Some.numbers.are_numbers c.if-not-numbers.false)
    c.node-node.ensures.word c.node-node.ensures.numbers in
    (refl, record { ended = refl; short = c.requires }, tt, inr (node, spells, λ is. both_ways c.is_node.result c.if-not-is_node.true (c.is_node.ensures.1 is)))
