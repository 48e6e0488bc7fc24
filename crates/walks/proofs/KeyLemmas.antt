-- Entries whose numbers are within a step of one another are bound by it, and the other way round.
use Rattle.std.proofs.Common.{ℕ, ◌+◌, ◌*◌, ◌^◌, ◌≤◌, Some, None, arith}
use Rattle.std.specs.Prelude.{Option}
use Rattle.scenario.specs.declared.length.Length.{Length}
use Rattle.walks.specs.Certificate.{Bounds}
use Rattle.walks.specs.Code.KeyParts.{number_of_entry}
use Rattle.walks.specs.Code.Tightness.{AreWithinStep}
use Rattle.walks.specs.Laws.KeyOrder.{at_most_key, at_most_from_key}

-- a step between the two improves neither entry
abbrev pub BoundEachOther : (straight diagonal : ℕ) → Option Length → Option Length → Type 0
BoundEachOther straight diagonal p q = Bounds straight diagonal p q × Bounds straight diagonal q p

-- the key of a step
abbrev key_of_step : (straight diagonal : ℕ) → ℕ
key_of_step straight diagonal = straight * 6625109 + diagonal * 9369319

pub within_from : (s d : ℕ) (p q : Option Length) → d ≤ 1 → BoundEachOther s d p q → AreWithinStep (key_of_step s d) (number_of_entry p) (number_of_entry q)
within_from s d None None small h = (omega arith, omega arith)
within_from s d None (Some n) small h = absurd h.1
within_from s d (Some l) None small h = absurd h.0
within_from s d (Some l) (Some n) small h =
    let l_small = l.diagonal_limit in
    let n_small = n.diagonal_limit in
    let k = at_most_key n.straight n.diagonal (l.straight + s) (l.diagonal + d) (omega (arith, small, l_small)) h.0 in
    let m = at_most_key l.straight l.diagonal (n.straight + s) (n.diagonal + d) (omega (arith, small, n_small)) h.1 in
    (omega (arith, m), omega (arith, k))

far : (s d : ℕ) (l : Length) → s ≤ 1 → d ≤ 1 → 2 ^ 62 ≤ (l.straight + 1) * 6625109 + l.diagonal * 9369319 + key_of_step s d → ⊥
far s d l one small h = let across = l.straight_limit in let aslant = l.diagonal_limit in omega (arith, across, aslant, h)

pub from_within : (s d : ℕ) (p q : Option Length) → s ≤ 1 → d ≤ 1 → AreWithinStep (key_of_step s d) (number_of_entry p) (number_of_entry q) → BoundEachOther s d p q
from_within s d None None one small h = (tt, tt)
from_within s d None (Some n) one small h = absurd (far s d n one small h.0)
from_within s d (Some l) None one small h = absurd (far s d l one small h.1)
from_within s d (Some l) (Some n) one small h =
    let l_small = l.diagonal_limit in
    let n_small = n.diagonal_limit in (
      at_most_from_key n.straight n.diagonal (l.straight + s) (l.diagonal + d) (omega (arith, n_small)) (omega (arith, h.1)),
      at_most_from_key l.straight l.diagonal (n.straight + s) (n.diagonal + d) (omega (arith, l_small)) (omega (arith, h.0)),
    )
