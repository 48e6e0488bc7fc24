-- The first byte at hand is taken.
use Rattle.std.proofs.Common.{◌≡◌, ◌<◌, ℕ, List, [], ◌∷◌, length, take, get_or, refl, sym, ap, subst, ◌∙◌, arith}
use Rattle.text_io.specs.Source.{at_hand, Takes}
use Rattle.text_io.specs.Laws.Taking.{Takes-trans}
use Rattle.text_io.proofs.source.Source.next_byte.Goals as goal

take-one : (xs : List ℕ) → 0 < length xs → take 1 xs ≡ get_or xs 0 0 ∷ []
take-one [] h = absurd (omega arith)
take-one (x ∷ xs) h = refl

pub returns-in-None : goal.returns-in-None
returns-in-None g c =
    let some : 0 < length (at_hand c.fill.new.self) = c.in-None.ensures.cases.0 in
    let byte = take-one (at_hand c.fill.new.self) some ∙ ap (λ l. get_or l 0 0 ∷ []) (sym c.at_hand.ensures) in
    let P : List ℕ → Type 0 = λ l. Takes g.R.Read.remaining c.args.self.now c.take.new.self l in
    (subst P byte (Takes-trans g.R.Read.remaining _ _ _ [] _ c.fill.ensures.takes c.take.ensures.takes), c.take.ensures.stop ∙ c.in-None.ensures.cases.1)
