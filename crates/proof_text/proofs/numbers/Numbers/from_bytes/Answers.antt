-- An empty part, or one too many.
use Rattle.std.proofs.Common.{◌≡◌, ◌++◌, ◌∷◌, length, sym, ap, ◌∙◌, arith}
use Rattle.std.proofs.lemmas.Bool.{eqb-true}
use Rattle.proof_text.proofs.PartLemmas.{split, first_cut, empty_part, many_parts}
use Rattle.proof_text.proofs.numbers.Numbers.from_bytes.Goals as goal
use Rattle.proof_text.proofs.numbers.Numbers.from_bytes.Goals.{then-is_empty-via-then-is_empty, then-is_empty-via-else-is_empty+then-numbers-eq-MOST_NUMBERS}

pub returns-then-is_empty : goal.returns-then-is_empty
returns-then-is_empty c = λ all few.
    let inv = c.parts.invariant in
    let part = c.first_part.result.0.now in
    let first = first_cut c.first_part.result.1 (λ r. split r.now) part (split c.parts.rest.now) c.first_part.ensures in
    let whole : split c.args.bytes.now ≡ inv.0 ++ part ∷ first.0 = inv.2 ∙ ap (λ ps. inv.0 ++ ps) first.1 in
    elim c.then-is_empty.branch [
      | then-is_empty-via-then-is_empty w ↦ empty_part _ inv.0 first.0 part whole (eqb-true (length part) 0 (sym w.if-is_empty.ensures)) all
      | then-is_empty-via-else-is_empty+then-numbers-eq-MOST_NUMBERS w ↦
          many_parts _ inv.0 first.0 part whole (omega (arith, inv.1.count, w.if-numbers-eq-MOST_NUMBERS.true)) few
    ]
