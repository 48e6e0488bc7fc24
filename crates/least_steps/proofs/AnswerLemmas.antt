-- What a search has found is the least, when nothing less is to be expected of what it has not left.
use Rattle.std.proofs.Common.{◌≡◌, ◌∙◌, ℕ, ◌+◌, ◌<◌, ◌≤◌, ◌⊎◌, zero, suc, List, [], ◌∷◌, Some, None, inl, inr, arith, refl, sym, subst}
use Rattle.std.specs.Prelude.{Option}
use Rattle.std.proofs.lemmas.Bool.{cases_lt}
use Rattle.std.proofs.lemmas.Option.{same_Some, slice_get_within}
use Rattle.grid.specs.declared.cell.Cell.{Cell}
use Rattle.walks.specs.Walk.{IsOn}
use Rattle.least_steps.specs.declared.open_list.OpenList.{OpenList}
use Rattle.least_steps.specs.declared.open_list.Open.{Open}
use Rattle.least_steps.specs.Code.Estimate.{least_number}
use Rattle.least_steps.specs.Code.Exploring.{Comes, Exploration, Has, IsLeft, IsNumberOf, IsTurned}
use Rattle.least_steps.specs.Code.Reaching.{IsFound, IsLeastNumber, IsMove, IsWay}
use Rattle.least_steps.specs.Code.Waiting.{IsBehind, IsFar, IsSearch, IsOpenPlace}
use Rattle.least_steps.specs.Laws.Ways.{comes-on, comes_at_once, distance-least, end-on, first_move, least-next, least-none, move-on}
use Rattle.least_steps.proofs.ExplorationLemmas.{has-more, same-number}

-- ---- the last step of a walk

-- the cell is the start, or a step leads there from a cell to which a lesser number leads
abbrev HasLast : Exploration → Cell → ℕ → Type 0
HasLast e x n = (x ≡ e.start) ⊎ ((w : Cell) × (k : ℕ) × (step : ℕ) × Comes e w k × IsMove e.map e.aslant w x step × (k + step ≤ n))

last_more : (e : Exploration) (x : Cell) (n k : ℕ) → n ≤ k → HasLast e x n → HasLast e x k
last_more e x n k more (inl start) = inl start
last_more e x n k more (inr h) = let most = h.5 in inr (h.0, h.1, h.2, h.3, h.4, omega (arith, most, more))

last_on : (e : Exploration) (u x : Cell) (n : ℕ) → Comes e u n → HasLast e u n → (cells : List Cell) (k : ℕ) → IsWay e.map e.aslant u x cells k → HasLast e x (n + k)
last_on e u x n comes last [] k way = absurd way.is_walk
last_on e u x n comes last (c ∷ []) k way =
    last_more e x n (n + k) (omega arith) (subst (λ v. HasLast e v n) (sym way.is_walk.0 ∙ way.is_walk.1) last)
last_on e u x n comes last (c ∷ w ∷ cells) k way =
    let first = first_move e.map e.aslant u x c w cells k way in
    let one_more = first.4 in
    last_more e x (n + first.1 + first.0) (n + k) (omega (arith, one_more))
    (last_on e w x (n + first.1) (comes-on e.map e.aslant e.start u w n first.1 comes first.2) (inr (u, n, first.1, comes, first.2, omega arith)) (w ∷ cells) first.0 first.3)

last_step : (e : Exploration) (x : Cell) (n : ℕ) → IsOn e.map e.start → Comes e x n → HasLast e x n
last_step e x n on comes =
    let number = comes.3 in
    last_more e x (6625109 + comes.1) n (omega (arith, number))
    (last_on e e.start x 6625109 (comes_at_once e.map e.aslant e.start on) (inl refl) comes.0 comes.1 comes.2)

-- ---- no cell within reach of a lesser number is missed

-- a number to the cell is less than what was found, by more than the rest takes at least
abbrev IsNear : Exploration → Cell → Cell → ℕ → Type 0
IsNear e goal x n = (f : ℕ) → Has e goal f → n + least_number e.aslant goal x < f

some_weight : (e : Exploration) (u v : Cell) (step : ℕ) → IsMove e.map e.aslant u v step → 0 < step
some_weight e u v step (inl h) = let is = h.1 in omega (arith, is)
some_weight e u v step (inr h) = let is = h.2 in omega (arith, is)

near_less : (e : Exploration) (goal x : Cell) (n k : ℕ) → k ≤ n → IsNear e goal x n → IsNear e goal x k
near_less e goal x n k less near f has = let far = near f has in omega (arith, less, far)

near_before : (e : Exploration) (goal w x : Cell) (k step n : ℕ) → IsMove e.map e.aslant w x step → k + step ≤ n → IsNear e goal x n → IsNear e goal w k
near_before e goal w x k step n move most near f has =
    let far = near f has in
    let rest = least-next e.map e.aslant goal w x step move in
    omega (arith, far, rest, most)

module _
    (e : Exploration) (goal : Cell) (start_on : IsOn e.map e.start) (begins : Has e e.start 6625109)
    (walks : (c : Cell) (n : ℕ) → IsOn e.map c → IsNumberOf e c n → Comes e c n)
    (settled : (c : Cell) (n : ℕ) → IsOn e.map c → IsNumberOf e c n → IsLeft e c n ⊎ IsFar e goal c n)
  where
    abbrev AreAll : ℕ → Type 0
    AreAll b = (x : Cell) (n : ℕ) → n < b → Comes e x n → IsNear e goal x n → Has e x n

    left_of : (w : Cell) (k : ℕ) (has : Has e w k) → IsOn e.map w → IsNear e goal w k → IsLeft e w has.number
    left_of w k has on near = elim (settled w has.number on has.is_number) [
      | inl left ↦ left
      | inr far ↦ (let close = near far.0 far.1 in let past = far.2 in let most = has.most in absurd (omega (arith, close, past, most)))
    ]

    -- by one step from a cell where none is missed, but for a diagonal one that was left to another
    by_step : (b : ℕ) → AreAll b → (x : Cell) (n : ℕ) → n < suc b → IsNear e goal x n → (w : Cell) (k step : ℕ) → Comes e w k → IsMove e.map e.aslant w x step
        → k + step ≤ n → Has e x n ⊎ (IsTurned e x n × (step ≡ 9369319))
    by_step b all x n less near w k step comes move most =
        let some = some_weight e w x step move in
        let near_w = near_before e goal w x k step n move most near in
        let on = end-on e.map e.aslant e.start w k comes in
        let has = all w k (omega (arith, less, most, some)) comes near_w in
        let at_most = has.most in
        elim (left_of w k has on near_w x step move) [
          | inl there ↦ inl (has-more e x (has.number + step) n (omega (arith, at_most, most)) there)
          | inr round ↦ elim round [
            | inl way ↦
                let before = way.has in
                let fewer = before.most in
                let shorter = way.less in
                let comes_x = way.leads before.number (walks way.before before.number way.on before.is_number) in
                let below : before.number + way.rest < n = omega (arith, fewer, shorter, at_most, most) in
                inl (has-more e x (before.number + way.rest) n (omega (arith, below))
                (all x (before.number + way.rest) (omega (arith, below, less)) comes_x (near_less e goal x n (before.number + way.rest) (omega (arith, below)) near)))
            | inr way ↦
                let total = way.0.most in
                inr (
                  record {
                    before = way.0.before;
                    between = way.0.between;
                    number = way.0.number;
                    has = way.0.has;
                    aslant = way.0.aslant;
                    straight = way.0.straight;
                    most = omega (arith, total, at_most, most);
                  },
                  way.1,
                )
          ]
        ]

    step_on : (b : ℕ) → AreAll b → AreAll (suc b)
    step_on b all x n less comes near = elim (last_step e x n start_on comes) [
      | inl start ↦
          let number = comes.3 in
          has-more e x 6625109 n (omega (arith, number)) (subst (λ v. Has e v 6625109) (sym start) begins)
      | inr h ↦ elim (by_step b all x n less near h.0 h.1 h.2 h.3 h.4 h.5) [
        | inl there ↦ there
        | inr round ↦
            let way = round.0 in
            let before = way.has in
            let fewer = before.most in
            let total = way.most in
            let p_on = (move-on e.map e.aslant way.before way.between 9369319 way.aslant).0 in
            let comes_u = comes-on e.map e.aslant e.start way.before way.between before.number 9369319 (walks way.before before.number p_on before.is_number) way.aslant in
            elim (by_step b all x n less near way.between (before.number + 9369319) 6625109 comes_u way.straight (omega (arith, fewer, total))) [
              | inl there ↦ there
              | inr again ↦ (let is = again.1 in absurd (omega (arith, is)))
            ]
      ]
    ]

    all : (b : ℕ) → AreAll b
    all zero = λ x n less comes near. absurd (omega (arith, less))
    all (suc b) = step_on b (all b)

    pub is_least : (found : Option ℕ) → IsOn e.map goal → IsFound e.map e.base e.marks goal found → IsLeastNumber e.map e.aslant e.start goal found
    is_least None on none = (
      λ n is. absurd (no_none n is),
      λ cells k way.
          let has = all (k + 6625109 + 1) goal (k + 6625109) (omega arith) (cells, k, way, refl) (λ f there. absurd (none there.number there.is_number)) in
          none has.number has.is_number,
    ) where
      no_none : (n : ℕ) → None ≡ Some n → ⊥
      no_none n h = cc
    is_least (Some found) on number = (
      λ n is. subst (Comes e goal) (same_Some found n is) (walks goal found on number),
      λ cells k way. elim (cases_lt (k + 6625109) found) [
        | inl less ↦
            let has = all (k + 6625109 + 1) goal (k + 6625109) (omega arith) (cells, k, way, refl) (near k less) in
            let most = has.most in
            let same = same-number e.map e.base e.marks goal has.number found has.is_number number in
            absurd (omega (arith, less, most, same))
        | inr past ↦ past
      ],
    ) where
      near : (k : ℕ) → k + 6625109 < found → IsNear e goal goal (k + 6625109)
      near k less f there =
          let most = there.most in
          let same = same-number e.map e.base e.marks goal there.number found there.is_number number in
          let none = least-none e.aslant goal goal refl refl in
          omega (arith, less, most, same, none)

-- a walk as long as on a map without obstacles
pub as_far : (e : Exploration) (goal : Cell) (found : Option ℕ) → ((c : Cell) (n : ℕ) → IsOn e.map c → IsNumberOf e c n → Comes e c n) → IsOn e.map goal
    → IsFound e.map e.base e.marks goal found → found ≡ Some (6625109 + least_number e.aslant goal e.start)
    → IsLeastNumber e.map e.aslant e.start goal found
as_far e goal None walks on number is = absurd (no_none (6625109 + least_number e.aslant goal e.start) is) where
  no_none : (n : ℕ) → None ≡ Some n → ⊥
  no_none n h = cc
as_far e goal (Some found) walks on number is = (
  λ n same. subst (Comes e goal) (same_Some found n same) (walks goal found on number),
  λ cells k way.
      let least = distance-least e.map e.aslant e.start goal cells k way in
      let same = same_Some found (6625109 + least_number e.aslant goal e.start) is in
      omega (arith, least, same),
)

-- ---- what waits is too far

pub settled : (e : Exploration) (o : OpenList) (goal : Cell) → IsSearch e o goal → ((p : Open) → IsOpenPlace o p → IsBehind e goal p)
    → (c : Cell) (n : ℕ) → IsOn e.map c → IsNumberOf e c n → IsLeft e c n ⊎ IsFar e goal c n
settled e o goal search behind c n on number = elim (search.kept c n on number) [
  | inl left ↦ inl left
  | inr rest ↦ elim rest [
    | inl far ↦ inr far
    | inr waits ↦ elim waits.1 [
      | inl here ↦ inr (behind (record { number = n; cell = c; by = waits.0 }) here number)
      | inr there ↦ (let past = slice_get_within [] there.0 (record { number = n; cell = c; by = waits.0 }) there.2 in absurd (omega (arith, past)))
    ]
  ]
]
