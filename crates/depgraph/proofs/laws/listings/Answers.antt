-- Each list is in a strict order, and has just the visits or the rotations that there are.
use Rattle.std.proofs.Common.{◌≡◌, ◌<◌, List, get_or, Some, inl, inr, arith, ap, subst, ◌∙◌}
use Rattle.std.specs.Prelude.{slice_get}
use Rattle.std.proofs.lemmas.Option.{slice_get-get_or}
use Rattle.grid.specs.declared.cell.Cell.{Cell}
use Rattle.model.specs.declared.visit.Visit.{Visit}
use Rattle.model.specs.Timetable.{Timetable}
use Rattle.depgraph.specs.Rotations.{Turn, TurnsBefore, AreRotations}
use Rattle.depgraph.specs.Visits.{AreVisitsTo, ComesBefore, Visited, AreAllVisits}
use Rattle.depgraph.specs.Laws.Rising.{StandsAmong, IsStrict, one_list}
use Rattle.depgraph.proofs.laws.listings.Goals as goal

-- ---- rotations

strict_turns : (tt : Timetable) (turns : List Turn) → AreRotations tt turns → IsStrict TurnsBefore turns
strict_turns tt turns h r s in_r in_s (inl less) (inl more) = omega (arith, less, more)
strict_turns tt turns h r s in_r in_s (inl less) (inr same) = let e = same.0 in omega (arith, less, e)
strict_turns tt turns h r s in_r in_s (inr same) (inl less) = let e = same.0 in omega (arith, less, e)
strict_turns tt turns h r s in_r in_s (inr first) (inr second) =
    let here = (h.sound in_r.0 r in_r.1).three in
    let there = (h.sound in_s.0 s in_s.1).three in
    let i = slice_get-get_or r.agents 0 0 (omega (arith, here)) in
    let j = slice_get-get_or s.agents 0 0 (omega (arith, there)) in
    let less = first.1 (get_or r.agents 0 0) (get_or s.agents 0 0) i j in
    let more = second.1 (get_or s.agents 0 0) (get_or r.agents 0 0) j i in
    omega (arith, less, more)

pub returns-clause-rotations : goal.returns-clause-rotations
returns-clause-rotations c = λ tt turns others h k.
    one_list TurnsBefore turns others (strict_turns tt turns h) (strict_turns tt others k) h.rising k.rising
    (λ r there. k.whole r (h.sound there.0 r there.1)) (λ r there. h.whole r (k.sound there.0 r there.1))

-- ---- visits

abbrev IsEarlier : Visit → Visit → Type 0
IsEarlier v w = v.time < w.time

one_cell : (tt : Timetable) (cell : Cell) (visits others : List Visit) → AreVisitsTo tt cell visits → AreVisitsTo tt cell others → visits ≡ others
one_cell tt cell visits others h k =
    one_list IsEarlier visits others (λ v w in_v in_w less more. omega (arith, less, more)) (λ v w in_v in_w less more. omega (arith, less, more)) h.rising k.rising
    (λ v there. k.whole v (h.sound there.0 v there.1)) (λ v there. h.whole v (k.sound there.0 v there.1))

-- the first visits of the one cell come before those of the other
abbrev IsFirst : Visited → Visited → Type 0
IsFirst at other = (v w : Visit) → slice_get at.visits 0 ≡ Some v → slice_get other.visits 0 ≡ Some w → ComesBefore v w

first : (tt : Timetable) (at : Visited) → AreVisitsTo tt at.cell at.visits → (v : Visit) × (slice_get at.visits 0 ≡ Some v)
first tt at h = (get_or at.visits 0 (record { agent = 0; index = 0; time = 0 }), slice_get-get_or at.visits 0 (record { agent = 0; index = 0; time = 0 }) h.some)

never_both : (v w : Visit) → ComesBefore v w → ComesBefore w v → ⊥
never_both v w (inl less) (inl more) = omega (arith, less, more)
never_both v w (inl less) (inr same) = let e = same.0 in omega (arith, less, e)
never_both v w (inr same) (inl less) = let e = same.0 in omega (arith, less, e)
never_both v w (inr less) (inr more) = let a = less.1 in let b = more.1 in omega (arith, a, b)

strict_cells : (tt : Timetable) (cells : List Visited) → AreAllVisits tt cells → IsStrict IsFirst cells
strict_cells tt cells h at other in_at in_other before after =
    let v = first tt at (h.sound in_at.0 at in_at.1) in
    let w = first tt other (h.sound in_other.0 other in_other.1) in
    never_both v.0 w.0 (before v.0 w.0 v.1 w.1) (after w.0 v.0 w.1 v.1)

same_visited : (at other : Visited) → at.cell ≡ other.cell → at.visits ≡ other.visits → at ≡ other
same_visited at other cell visits =
    ap {A = Cell} {B = Visited} (λ c. record { cell = c; visits = at.visits }) cell ∙ ap {A = List Visit} {B = Visited} (λ l. record { cell = other.cell; visits = l }) visits

stands_too : (tt : Timetable) (cells others : List Visited) → AreAllVisits tt cells → AreAllVisits tt others → (at : Visited) → StandsAmong cells at → StandsAmong others at
stands_too tt cells others h k at there =
    let own = h.sound there.0 at there.1 in
    let v = first tt at own in
    let found = k.whole at.cell v.0 (own.sound 0 v.0 v.1) in
    let other = found.1 in
    let theirs = subst (λ c. AreVisitsTo tt c other.visits) found.3 (k.sound found.0 other found.2) in
    let same = same_visited other at found.3 (one_cell tt at.cell other.visits at.visits theirs own) in
    (found.0, found.2 ∙ ap Some same)

pub returns-clause-visits : goal.returns-clause-visits
returns-clause-visits c = λ tt cells others h k.
    one_list IsFirst cells others (strict_cells tt cells h) (strict_cells tt others k)
    (λ n m at other less at_n at_m v w. h.rising n m at other v w less at_n at_m) (λ n m at other less at_n at_m v w. k.rising n m at other v w less at_n at_m)
    (stands_too tt cells others h k) (stands_too tt others cells k h)
