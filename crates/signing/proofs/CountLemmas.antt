-- What is counted next never falls.
use Rattle.std.proofs.Common.{◌≡◌, ℕ, zero, suc, ◌<◌, ◌≤◌, List, [], ◌∷◌, Some, inl, inr, arith, subst}
use Rattle.std.specs.Prelude.{slice_get}
use Rattle.std.proofs.lemmas.Option.{none-some, same_Some}
use Rattle.signing.specs.Counting.{CountDeed, Counting, DoesNext, HaveDone, IsCounting, MayKeep, CountsOn}
use Rattle.signing.specs.Counting.CountDeed.{takes, takes_none, begins}

behind-end : (c : Counting) (kept : ℕ) → IsCounting c → MayKeep c kept → c.next ≤ kept
behind-end c kept counting (inl same) = let reserved = counting.reserved in let stored = counting.stored in omega (arith, same, reserved, stored)
behind-end c kept counting (inr more) = let reserved = counting.reserved in omega (arith, more, reserved)

next-rises : (c next : Counting) (deed : CountDeed) → IsCounting c → DoesNext deed c next → c.next ≤ next.next
next-rises c next (takes count) counting did = let own = did.is_next in let then = did.next in omega (arith, own, then)
next-rises c next takes_none counting did = let same = did.next in omega (arith, same)
next-rises c next begins counting did = let far = behind-end c next.kept counting did.kept in let then = did.next in omega (arith, far, then)

taken-from : (deeds : List CountDeed) (c : Counting) → IsCounting c → HaveDone c deeds → (place m : ℕ) → slice_get deeds place ≡ Some (takes m) → c.next ≤ m
taken-from [] c counting done place m there = absurd (none-some (takes m) there)
taken-from (deed ∷ later) c counting (next, still, did, rest) zero m there =
    let taken : CountsOn c next m = subst (λ d. DoesNext d c next) (same_Some deed (takes m) there) did in
    let own = taken.is_next in
    omega (arith, own)
taken-from (deed ∷ later) c counting (next, still, did, rest) (suc place) m there =
    let far = taken-from later next still rest place m there in
    let rise = next-rises c next deed counting did in
    omega (arith, far, rise)

pub rise : (deeds : List CountDeed) (c : Counting) → IsCounting c → HaveDone c deeds → (place other n m : ℕ) → place < other
    → slice_get deeds place ≡ Some (takes n) → slice_get deeds other ≡ Some (takes m) → n < m
rise [] c counting done place other n m less there then = absurd (none-some (takes n) there)
rise (deed ∷ later) c counting done place zero n m less there then = absurd (omega (arith, less))
rise (deed ∷ later) c counting (next, still, did, rest) zero (suc other) n m less there then =
    let taken : CountsOn c next n = subst (λ d. DoesNext d c next) (same_Some deed (takes n) there) did in
    let far = taken-from later next still rest other m then in
    let behind = taken.next in
    omega (arith, far, behind)
rise (deed ∷ later) c counting (next, still, did, rest) (suc place) (suc other) n m less there then =
    rise later next still rest place other n m (omega (arith, less)) there then
