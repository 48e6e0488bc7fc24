-- What a search knows, as it goes on.
use Rattle.std.proofs.Common.{◌≡◌, ◌∙◌, ℕ, ◌+◌, ◌-◌, ◌/◌, ◌%◌, ◌^◌, ◌<◌, ◌≤◌, ◌⊎◌, Bool, false, List, get_or, length, Some, inl, inr, arith, refl, sym, ap, ap₂, subst}
use Rattle.std.specs.Prelude.{nat_lt, slice_get, slice_set}
use Rattle.std.proofs.lemmas.Bool.{cases_order, ltb-false}
use Rattle.std.proofs.lemmas.List.{length-set}
use Rattle.std.proofs.lemmas.Nat.{div-mul-add, mod-mul-add}
use Rattle.std.proofs.lemmas.Option.{same_Some, slice_get-get_or, slice_get_within}
use Rattle.grid.specs.declared.cell.Cell.{Cell}
use Rattle.grid.specs.Map.{Grid}
use Rattle.walks.specs.Walk.{IsOn}
use Rattle.least_steps.specs.Code.Reaching.{HasAtMost, IsAbove, IsMove, IsNumber, WalksTo, number_in}
use Rattle.least_steps.specs.Code.Exploring.{Advances, Comes, Exploration, Has, IsArrival, IsExploration, IsLeft, Lowers}
use Rattle.least_steps.specs.Code.Steps.{AreLegal, weight}
use Rattle.least_steps.specs.Laws.Ways.{number-inside, on_map}
use Rattle.least_steps.proofs.ListLemmas.{differs, get-set, get-set_other, get-set_same}

-- ---- one search, as it goes on

pub stays : (e : Exploration) → Advances e e
stays e = record { map = refl; aslant = refl; start = refl; base = refl; falls = λ c n h. h }

pub advances-on : (a b c : Exploration) → Advances a b → Advances b c → Advances a c
advances-on a b c first second = record {
  map = second.map ∙ first.map;
  aslant = second.aslant ∙ first.aslant;
  start = second.start ∙ first.start;
  base = second.base ∙ first.base;
  falls = λ cell n h. second.falls cell n (first.falls cell n h);
}

walks-as : (m o : Grid) (a b : Bool) (s t c : Cell) (n : ℕ) → o ≡ m → b ≡ a → t ≡ s → WalksTo m a s c n → WalksTo o b t c n
walks-as m o a b s t c n map aslant start comes =
    subst (λ k. WalksTo k b t c n) (sym map) (subst (λ k. WalksTo m k t c n) (sym aslant) (subst (λ k. WalksTo m a k c n) (sym start) comes))

pub comes-still : (a b : Exploration) (c : Cell) (n : ℕ) → Advances a b → Comes a c n → Comes b c n
comes-still a b c n on = walks-as a.map b.map a.aslant b.aslant a.start b.start c n on.map on.aslant on.start

comes-before : (a b : Exploration) (c : Cell) (n : ℕ) → Advances a b → Comes b c n → Comes a c n
comes-before a b c n on = walks-as b.map a.map b.aslant a.aslant b.start a.start c n (sym on.map) (sym on.aslant) (sym on.start)

move-as : (m o : Grid) (a b : Bool) (u v : Cell) (n : ℕ) → o ≡ m → b ≡ a → IsMove m a u v n → IsMove o b u v n
move-as m o a b u v n map aslant move = subst (λ k. IsMove k b u v n) (sym map) (subst (λ k. IsMove m k u v n) (sym aslant) move)

pub move-still : (a b : Exploration) (u v : Cell) (n : ℕ) → Advances a b → IsMove a.map a.aslant u v n → IsMove b.map b.aslant u v n
move-still a b u v n on = move-as a.map b.map a.aslant b.aslant u v n on.map on.aslant

move-before : (a b : Exploration) (u v : Cell) (n : ℕ) → Advances a b → IsMove b.map b.aslant u v n → IsMove a.map a.aslant u v n
move-before a b u v n on = move-as b.map a.map b.aslant a.aslant u v n (sym on.map) (sym on.aslant)

-- a cell that is left stays so
pub left-still : (a b : Exploration) (c : Cell) (n : ℕ) → Advances a b → IsLeft a c n → IsLeft b c n
left-still a b c n on left = λ v step move. elim (left v step (move-before a b c v step on move)) [
  | inl has ↦ inl (on.falls v (n + step) has)
  | inr round ↦ elim round [
    | inl way ↦ inr (inl (record {
      before = way.before;
      number = way.number;
      rest = way.rest;
      on = subst (λ m. IsOn m way.before) (sym on.map) way.on;
      has = on.falls way.before way.number way.has;
      leads = λ k comes. comes-still a b v (k + way.rest) on (way.leads k (comes-before a b way.before k on comes));
      less = way.less;
    }))
    | inr way ↦ inr (inr (
      record {
        before = way.0.before;
        between = way.0.between;
        number = way.0.number;
        has = on.falls way.0.before way.0.number way.0.has;
        aslant = move-still a b way.0.before way.0.between 9369319 on way.0.aslant;
        straight = move-still a b way.0.between v 6625109 on way.0.straight;
        most = way.0.most;
      },
      way.1,
    ))
  ]
]

pub arrival-still : (a b : Exploration) (c : Cell) (n by : ℕ) → Advances a b → IsArrival a c n by → IsArrival b c n by
arrival-still a b c n by on (inl none) = inl none
arrival-still a b c n by on (inr h) = inr (h.0, h.1, h.2, h.3, move-still a b h.1 c (weight by) on h.4, on.falls h.1 h.2 h.5, h.6)

-- ---- the numbers of cells

-- two cells of a map don't have one number
pub one_number : (m : Grid) (u v : Cell) → IsOn m u → IsOn m v → number_in m u ≡ number_in m v → u ≡ v
one_number m u v u_on v_on same =
    let first = on_map m u u_on in
    let second = on_map m v v_on in
    ap₂ (λ x y. record { x = x; y = y })
    (sym (mod-mul-add u.y m.width u.x first.0) ∙ ap (λ n. n % m.width) same ∙ mod-mul-add v.y m.width v.x second.0)
    (sym (div-mul-add u.y m.width u.x first.0) ∙ ap (λ n. n / m.width) same ∙ div-mul-add v.y m.width v.x second.0)

pub same-number : (m : Grid) (base : ℕ) (marks : List ℕ) (c : Cell) (n k : ℕ) → IsNumber m base marks c n → IsNumber m base marks c k → n ≡ k
same-number m base marks c n k is other =
    let same = same_Some (base + n) (base + k) (sym is.0 ∙ other.0) in
    omega (arith, same)

pub has-number : (m : Grid) (base : ℕ) (marks : List ℕ) (c : Cell) (n : ℕ) → IsNumber m base marks c n → HasAtMost m base marks c n
has-number m base marks c n is = record { number = n; is_number = is; most = omega arith }

pub has-more : (e : Exploration) (c : Cell) (n k : ℕ) → n ≤ k → Has e c n → Has e c k
has-more e c n k more has = let most = has.most in record { number = has.number; is_number = has.is_number; most = omega (arith, most, more) }

-- ---- a mark is lowered

module _
    (m : Grid) (aslant : Bool) (start : Cell) (base : ℕ) (marks legal : List ℕ) (e : IsExploration m aslant start base marks legal)
    (c : Cell) (n : ℕ) (on : IsOn m c) (comes : WalksTo m aslant start c n) (limit : n < 2 ^ 45) (above : IsAbove m base marks c n)
  where
    within : number_in m c < length marks
    within = slice_get_within marks (number_in m c) above.0 above.1

    abbrev new : List ℕ
    new = slice_set marks (number_in m c) (base + n)

    own : IsNumber m base new c n
    own = (get-set_same marks (number_in m c) (base + n) within, limit)

    only : (v : Cell) (k : ℕ) → IsOn m v → IsNumber m base new v k → IsNumber m base marks v k ⊎ ((v ≡ c) × (k ≡ n))
    only v k v_on is = elim (get-set marks (number_in m c) (number_in m v) (base + n) (base + k) within is.0) [
      | inl here ↦ (let sum = here.1 in inr (one_number m v c v_on on here.0, omega (arith, sum)))
      | inr before ↦ inl (before, is.1)
    ]

    falls : (v : Cell) (k : ℕ) → HasAtMost m base marks v k → HasAtMost m base new v k
    falls v k has = elim (cases_order (number_in m v) (number_in m c)) [
      | inl same ↦
          let mark : base + has.number ≡ above.0 = same_Some (base + has.number) above.0 (sym has.is_number.0 ∙ ap (slice_get marks) same ∙ above.1) in
          let greater = above.2 in
          let most = has.most in
          record { number = n; is_number = (ap (slice_get new) same ∙ own.0, limit); most = omega (arith, mark, greater, most) }
      | inr other ↦ record {
        number = has.number;
        is_number = (get-set_other marks (number_in m c) (number_in m v) (base + n) (differs (number_in m v) (number_in m c) other) ∙ has.is_number.0, has.is_number.1);
        most = has.most;
      }
    ]

    pub lowered : IsExploration m aslant start base new legal
    lowered = record {
      is_map = e.is_map;
      cells = length-set marks (number_in m c) (base + n) ∙ e.cells;
      sets = e.sets;
      limit = e.limit;
      least = λ i mark is. elim (get-set marks (number_in m c) i (base + n) mark within is) [
        | inl here ↦ (let sum = here.1 in omega (arith, sum))
        | inr before ↦ e.least i mark before
      ];
      reached = λ v k v_on is. elim (only v k v_on is) [
        | inl before ↦ e.reached v k v_on before
        | inr here ↦ subst (λ d. WalksTo m aslant start d k) (sym here.0) (subst (λ l. WalksTo m aslant start c l) (sym here.1) comes)
      ];
      known = e.known;
    }

    pub lowers : Lowers (record { map = m; aslant = aslant; start = start; base = base; marks = marks })
        (record { map = m; aslant = aslant; start = start; base = base; marks = new }) c n
    lowers = record {
      advances = record { map = refl; aslant = refl; start = refl; base = refl; falls = falls };
      has = has-number m base new c n own;
      only = only;
    }

-- ---- the legal steps of a cell are learned

pub learned : (m : Grid) (aslant : Bool) (start : Cell) (base : ℕ) (marks legal : List ℕ) → IsExploration m aslant start base marks legal
    → (c : Cell) (steps : ℕ) → IsOn m c → number_in m c < length legal → AreLegal m c steps
    → IsExploration m aslant start base marks (slice_set legal (number_in m c) steps)
learned m aslant start base marks legal e c steps on within are = record {
  is_map = e.is_map;
  cells = e.cells;
  sets = length-set legal (number_in m c) steps ∙ e.sets;
  limit = e.limit;
  least = e.least;
  reached = e.reached;
  known = λ v others v_on is some. elim (get-set legal (number_in m c) (number_in m v) steps others within is) [
    | inl here ↦ subst (λ d. AreLegal m d others) (sym (one_number m v c v_on on here.0)) (subst (AreLegal m c) here.1 are)
    | inr before ↦ e.known v others v_on before some
  ];
}

-- ---- all is forgotten

pub none-left : (m : Grid) (base lower : ℕ) (marks : List ℕ) → ((i mark : ℕ) → slice_get marks i ≡ Some mark → base ≤ mark) → base ≡ lower + 2 ^ 45
    → (c : Cell) (n : ℕ) → IsNumber m lower marks c n → ⊥
none-left m base lower marks least is c n there =
    let most = least (number_in m c) (lower + n) there.0 in
    let limit = there.1 in
    omega (arith, most, limit, is)

pub all-above : (m : Grid) (aslant : Bool) (start : Cell) (base lower : ℕ) (marks legal : List ℕ) → IsExploration m aslant start base marks legal
    → base ≡ lower + 2 ^ 45 → (c : Cell) (n : ℕ) → IsOn m c → n < 2 ^ 45 → IsAbove m lower marks c n
all-above m aslant start base lower marks legal e is c n on limit =
    let within : number_in m c < length marks = subst (λ k. number_in m c < k) (sym e.cells) (number-inside m c on) in
    let there = slice_get-get_or marks (number_in m c) 0 within in
    let least = e.least (number_in m c) (get_or marks (number_in m c) 0) there in
    (get_or marks (number_in m c) 0, there, omega (arith, least, is, limit))

pub forgotten : (m : Grid) (aslant other : Bool) (start before : Cell) (base lower : ℕ) (marks legal : List ℕ)
    → IsExploration m other before base marks legal → base ≡ lower + 2 ^ 45 → IsExploration m aslant start lower marks legal
forgotten m aslant other start before base lower marks legal e is = record {
  is_map = e.is_map;
  cells = e.cells;
  sets = e.sets;
  limit = let most = e.limit in omega (arith, most, is);
  least = λ i mark there. let least = e.least i mark there in omega (arith, least, is);
  reached = λ c n on there. absurd (none-left m base lower marks e.least is c n there);
  known = e.known;
}

-- ---- a mark that is no greater

pub not-above : (m : Grid) (base : ℕ) (marks : List ℕ) (c : Cell) (n mark : ℕ) → n < 2 ^ 45 → slice_get marks (number_in m c) ≡ Some mark → base ≤ mark
    → nat_lt (base + n) mark ≡ false → HasAtMost m base marks c n
not-above m base marks c n mark limit there least test =
    let most : mark ≤ base + n = ltb-false (base + n) mark test in
    record {
      number = mark - base;
      is_number = (there ∙ ap Some (omega (arith, least)), omega (arith, most, limit));
      most = omega (arith, most);
    }
