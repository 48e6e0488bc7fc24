-- The places that wait, as a search goes on.
use Rattle.std.proofs.Common.{◌≡◌, ◌∙◌, ℕ, ◌+◌, ◌*◌, ◌<◌, ◌≤◌, ◌⊎◌, List, [], ◌∷◌, ◌++◌, length, get_or, Some, false, inl, inr, arith, sym, ap, subst}
use Rattle.std.specs.Prelude.{IfErr, IfOk, Err, None, Ok, Option, Result, Vec, slice_get, slice_set}
use Rattle.std.proofs.lemmas.Bool.{cases_order}
use Rattle.std.proofs.lemmas.Option.{same_Some, slice_get-get_or, slice_get_within}
use Rattle.grid.specs.declared.cell.Cell.{Cell}
use Rattle.walks.specs.Walk.{IsOn}
use Rattle.least_steps.specs.declared.open_list.Open.{Open}
use Rattle.least_steps.specs.declared.open_list.OpenList.{OpenList}
use Rattle.least_steps.specs.Code.Estimate.{least_number}
use Rattle.least_steps.specs.Code.Reaching.{IsMove}
use Rattle.least_steps.specs.Code.Steps.{IsLegalStep, cell_behind, weight}
use Rattle.least_steps.specs.Laws.Ways.{comes-on}
use Rattle.least_steps.proofs.StepLemmas.{own_move, weight_most}
use Rattle.least_steps.specs.Code.Exploring.{Advances, Comes, Exploration, Has, IsLeft, IsNumberOf, Lowers}
use Rattle.least_steps.specs.Code.Waiting.{AreMinded, AreMindedBut, AreSound, Goes, IsPlaceAmong, IsFar, IsInBucket, IsMinded, IsPlace, IsSame, IsSearch, IsSearchFrom, IsOpenPlace}
use Rattle.least_steps.proofs.ListLemmas.{differs, get-added, get-last, get-left, get-set, get-set_other, get-set_same}
use Rattle.least_steps.proofs.ExplorationLemmas.{advances-on, arrival-still, comes-still, left-still, stays}

-- ---- lists of places, as one is put there or they are exchanged

pub among-put : (places : List Open) (place p : Open) → IsPlaceAmong places p → IsPlaceAmong (places ++ place ∷ []) p
among-put places place p there = (there.0, get-left places place there.0 p there.1)

pub among-own : (places : List Open) (place : Open) → IsPlaceAmong (places ++ place ∷ []) place
among-own places place = (length places, get-last places place)

pub among-only : (places : List Open) (place p : Open) → IsPlaceAmong (places ++ place ∷ []) p → IsPlaceAmong places p ⊎ (p ≡ place)
among-only places place p there = elim (get-added places place there.0 p there.1) [
  | inl own ↦ inr (sym own.1)
  | inr before ↦ inl (there.0, before)
]

-- what a call that may fail did
pub put-or-not : {T E P Q : Type 0} (r : Result T E) → IfOk r (λ _. P) → IfErr r (λ _. Q) → P ⊎ Q
put-or-not (Ok x) put none = inl put
put-or-not (Err x) put none = inr none

pub if-ok : {T E P Q : Type 0} (r : Result T E) → IfOk r (λ _. P) → (P → Q) → IfOk r (λ _. Q)
if-ok (Ok x) put h = h put
if-ok (Err x) put h = put

abbrev pub MayPut : List Open → Open → List Open → Type 0
MayPut old place new = (new ≡ old ++ place ∷ []) ⊎ (new ≡ old)

pub may-keeps : (old new : List Open) (place p : Open) → MayPut old place new → IsPlaceAmong old p → IsPlaceAmong new p
may-keeps old new place p (inl put) there = subst (λ l. IsPlaceAmong l p) (sym put) (among-put old place p there)
may-keeps old new place p (inr same) there = subst (λ l. IsPlaceAmong l p) (sym same) there

pub may-only : (old new : List Open) (place p : Open) → MayPut old place new → IsPlaceAmong new p → IsPlaceAmong old p ⊎ (p ≡ place)
may-only old new place p (inl put) there = among-only old place p (subst (λ l. IsPlaceAmong l p) put there)
may-only old new place p (inr same) there = inl (subst (λ l. IsPlaceAmong l p) same there)

pub among-none : (places : List Open) (p : Open) → places ≡ [] → IsPlaceAmong places p → ⊥
among-none places p none there =
    let past = slice_get_within [] there.0 p (subst (λ l. slice_get l there.0 ≡ Some p) none there.1) in
    omega (arith, past)

module _ {Z : Type 0} (buckets : List (Vec Open Z)) (i : ℕ) (other new : Vec Open Z) (within : i < length buckets) where
  abbrev before_it : Vec Open Z
  before_it = get_or buckets i other

  here : slice_get buckets i ≡ Some before_it
  here = slice_get-get_or buckets i other within

  -- each of the others, and what the new one has
  pub bucket-keeps : (p : Open) → IsInBucket buckets p → IsInBucket (slice_set buckets i new) p ⊎ IsPlaceAmong before_it.items p
  bucket-keeps p there = elim (cases_order there.0 i) [
    | inl same ↦
        let own : there.1 ≡ before_it = same_Some there.1 before_it (sym there.2 ∙ ap (slice_get buckets) same ∙ here) in
        inr (subst (λ (b : Vec Open Z). IsPlaceAmong b.items p) own there.3)
    | inr apart ↦ inl (there.0, there.1, get-set_other buckets i there.0 new (differs there.0 i apart) ∙ there.2, there.3)
  ]

  pub bucket-new : (p : Open) → IsPlaceAmong new.items p → IsInBucket (slice_set buckets i new) p
  bucket-new p there = (i, new, get-set_same buckets i new within, there)

  pub bucket-only : (p : Open) → IsInBucket (slice_set buckets i new) p → IsInBucket buckets p ⊎ IsPlaceAmong new.items p
  bucket-only p there = elim (get-set buckets i there.0 new there.1 within there.2) [
    | inl own ↦ inr (subst (λ (b : Vec Open Z). IsPlaceAmong b.items p) (sym own.1) there.3)
    | inr before ↦ inl (there.0, there.1, before, there.3)
  ]

  pub bucket-old : (p : Open) → IsPlaceAmong before_it.items p → IsInBucket buckets p
  bucket-old p there = (i, before_it, here, there)

-- ---- a place, and a cell that is done or waits, stay what they are

pub place-still : (e f : Exploration) (p : Open) → Advances e f → IsPlace e p → IsPlace f p
place-still e f p on place = record {
  comes = comes-still e f p.cell p.number on place.comes;
  arrival = arrival-still e f p.cell p.number p.by on place.arrival;
  limit = place.limit;
}

-- where a step leads
pub place-after : (e : Exploration) (from : Open) (step : ℕ) (cell : Cell) (number : ℕ) → IsPlace e from → Has e from.cell from.number
    → from.number ≤ 4194304 * 6625109 → step < 8 → IsLegalStep e.map from.cell step → (e.aslant ≡ false → step < 4) → cell ≡ cell_behind step from.cell
    → number ≡ from.number + weight step → IsPlace e (record { number = number; cell = cell; by = step })
place-after e from step cell number place has most few legal kind is sum =
    let move = subst (λ v. IsMove e.map e.aslant from.cell v (weight step)) (sym is) (own_move e.map e.aslant from.cell (cell_behind step from.cell) step few kind legal) in
    let longest = weight_most step in
    record {
      comes =
          subst (Comes e cell) (sym sum)
          (comes-on e.map e.aslant e.start from.cell cell from.number (weight step) place.comes move);
      arrival = inr (few, from.cell, from.number, is, move, has, omega (arith, sum));
      limit = omega (arith, most, longest, sum);
    }

far-still : (e f : Exploration) (goal c : Cell) (n : ℕ) → Advances e f → IsFar e goal c n → IsFar f goal c n
far-still e f goal c n on far = (far.0, on.falls goal far.0 far.1, subst (λ b. far.0 ≤ n + least_number b goal c) (sym on.aslant) far.2)

kept-still : (e f : Exploration) (old new : OpenList) (i : ℕ) (others : List Open) (goal c : Cell) (n : ℕ) → Advances e f
    → ((p : Open) → IsOpenPlace old p → IsOpenPlace new p) → IsMinded e old i others goal c n → IsMinded f new i others goal c n
kept-still e f old new i others goal c n on keeps kept = elim kept [
  | inl left ↦ inl (left-still e f c n on left)
  | inr rest ↦ elim rest [
    | inl far ↦ inr (inl (far-still e f goal c n on far))
    | inr waits ↦ elim waits.1 [
      | inl here ↦ inr (inr (waits.0, inl (keeps (record { number = n; cell = c; by = waits.0 }) here)))
      | inr there ↦ inr (inr (waits.0, inr there))
    ]
  ]
]

-- ---- from one state to the next

pub goes-nowhere : (e : Exploration) (o : OpenList) → Goes e o e o
goes-nowhere e o = record { advances = stays e; sound = λ h. h; kept = λ i others goal c n h. h }

pub goes-on : (e f g : Exploration) (o p q : OpenList) → Goes e o f p → Goes f p g q → Goes e o g q
goes-on e f g o p q first second = record {
  advances = advances-on e f g first.advances second.advances;
  sound = λ h. second.sound (first.sound h);
  kept = λ i others goal c n h. second.kept i others goal c n (first.kept i others goal c n h);
}

-- a place is put there
pub goes-push : (e : Exploration) (old new : OpenList) (place : Open) → IsPlace e place → ((p : Open) → IsOpenPlace old p → IsOpenPlace new p)
    → ((p : Open) → IsOpenPlace new p → IsOpenPlace old p ⊎ (p ≡ place)) → Goes e old e new
goes-push e old new place is keeps only = record {
  advances = stays e;
  sound = λ sound p waits. elim (only p waits) [ inl before ↦ sound p before | inr own ↦ subst (IsPlace e) (sym own) is ];
  kept = λ i others goal d k kept c n on number. elim (kept c n on number) [
    | inl h ↦ inl (kept-still e e old new i others goal c n (stays e) keeps h)
    | inr own ↦ inr own
  ];
}

-- and its cell has its number
pub goes-lower : (e f : Exploration) (o : OpenList) (place : Open) → Lowers e f place.cell place.number → IsOpenPlace o place → Goes e o f o
goes-lower e f o place lowers waits = record {
  advances = lowers.advances;
  sound = λ sound p there. place-still e f p lowers.advances (sound p there);
  kept = λ i others goal d k kept c n on number. elim (lowers.only c n on number) [
    | inl before ↦ elim (kept c n (subst (λ m. IsOn m c) lowers.advances.map on) before) [
      | inl h ↦ inl (kept-still e f o o i others goal c n lowers.advances (λ p h. h) h)
      | inr own ↦ inr own
    ]
    | inr own ↦
        inl (inr (inr (
          place.by,
          inl (subst (λ v. IsOpenPlace o (record { number = n; cell = v; by = place.by })) (sym own.0)
              (subst (λ l. IsOpenPlace o (record { number = l; cell = place.cell; by = place.by })) (sym own.1) waits)),
        )))
  ];
}

-- ---- a place is taken

-- all but its cell are kept still
pub taken : (e : Exploration) (old new : OpenList) (goal : Cell) (r : Option Open) (place : Open) → r ≡ Some place → AreMinded e old 0 [] goal
    → ((p : Open) → IsOpenPlace old p → IsOpenPlace new p ⊎ (r ≡ Some p)) → AreMindedBut e new 0 [] goal place.cell place.number
taken e old new goal r place is_place kept keeps c n on number = elim (kept c n on number) [
  | inl left ↦ inl (inl left)
  | inr rest ↦ elim rest [
    | inl far ↦ inl (inr (inl far))
    | inr waits ↦ elim waits.1 [
      | inl here ↦ elim (keeps (record { number = n; cell = c; by = waits.0 }) here) [
        | inl still ↦ inl (inr (inr (waits.0, inl still)))
        | inr own ↦
            let same : place ≡ record { number = n; cell = c; by = waits.0 } = same_Some place (record { number = n; cell = c; by = waits.0 }) (sym is_place ∙ own) in
            inr (sym (ap (λ (p : Open). p.cell) same), sym (ap (λ (p : Open). p.number) same))
      ]
      | inr there ↦ inl (inr (inr (waits.0, inr there)))
    ]
  ]
]

-- and it, once it is done
pub all-kept : (e : Exploration) (o : OpenList) (i : ℕ) (others : List Open) (goal d : Cell) (k : ℕ) → AreMindedBut e o i others goal d k
    → (IsNumberOf e d k → IsMinded e o i others goal d k) → AreMinded e o i others goal
all-kept e o i others goal d k kept own c n on number = elim (kept c n on number) [
  | inl h ↦ h
  | inr is ↦
      subst (λ v. IsMinded e o i others goal v n) (sym is.0) (subst (λ l. IsMinded e o i others goal d l) (sym is.1)
      (own (subst (IsNumberOf e d) is.1 (subst (λ v. IsNumberOf e v n) is.0 number))))
]

pub same-search : (e : Exploration) (old new : OpenList) (goal : Cell) → IsSame old new → IsSearch e old goal → IsSearch e new goal
same-search e old new goal same search = record {
  begins = search.begins;
  sound = λ p waits. search.sound p (same.only p waits);
  kept = λ c n on number. kept-still e e old new 0 [] goal c n (stays e) same.keeps (search.kept c n on number);
}

begins-still : (e f : Exploration) → Advances e f → Has e e.start 6625109 → Has f f.start 6625109
begins-still e f on begins = on.falls f.start 6625109 (subst (λ s. Has e s 6625109) (sym on.start) begins)

-- the place has another number by now, or is too far
pub search-without : (e : Exploration) (old new : OpenList) (goal : Cell) (r : Option Open) (place : Open) → r ≡ Some place → IsSearch e old goal
    → ((p : Open) → IsOpenPlace old p → IsOpenPlace new p ⊎ (r ≡ Some p)) → ((p : Open) → IsOpenPlace new p → IsOpenPlace old p)
    → (IsNumberOf e place.cell place.number → IsFar e goal place.cell place.number) → IsSearch e new goal
search-without e old new goal r place is search keeps only far = record {
  begins = search.begins;
  sound = λ p waits. search.sound p (only p waits);
  kept = all-kept e new 0 [] goal place.cell place.number (taken e old new goal r place is search.kept keeps) (λ number. inr (inl (far number)));
}

-- each step from it was taken
pub search-expanded : (e f : Exploration) (old new newer : OpenList) (goal : Cell) (r : Option Open) (place : Open) → r ≡ Some place → IsSearch e old goal
    → ((p : Open) → IsOpenPlace old p → IsOpenPlace new p ⊎ (r ≡ Some p)) → ((p : Open) → IsOpenPlace new p → IsOpenPlace old p)
    → Goes e new f newer → IsLeft f place.cell place.number → IsSearch f newer goal
search-expanded e f old new newer goal r place is search keeps only goes left = record {
  begins = begins-still e f goes.advances search.begins;
  sound = goes.sound (λ p waits. search.sound p (only p waits));
  kept =
      all-kept f newer 0 [] goal place.cell place.number
      (goes.kept 0 [] goal place.cell place.number (taken e old new goal r place is search.kept keeps)) (λ _. inl left);
}

-- none was there
pub search-same : (e : Exploration) (old new : OpenList) (goal : Cell) (r : Option Open) → r ≡ None → IsSearch e old goal
    → ((p : Open) → IsOpenPlace old p → IsOpenPlace new p ⊎ (r ≡ Some p)) → ((p : Open) → IsOpenPlace new p → IsOpenPlace old p) → IsSearch e new goal
search-same e old new goal r none search keeps only =
    same-search e old new goal
    (record { keeps = λ p waits. elim (keeps p waits) [ inl still ↦ still | inr own ↦ absurd (no_none p (sym none ∙ own)) ]; only = only })
    search where
      no_none : (p : Open) → None ≡ Some p → ⊥
      no_none p h = cc

-- ---- a wave is taken

pub with-wave : (e : Exploration) (old new : OpenList) (wave : List Open) (goal : Cell) → IsSearch e old goal
    → ((p : Open) → IsOpenPlace old p → IsOpenPlace new p ⊎ IsPlaceAmong wave p) → ((p : Open) → IsOpenPlace new p → IsOpenPlace old p) → IsSearchFrom e new 0 wave goal
with-wave e old new wave goal search keeps only = record {
  begins = search.begins;
  sound = λ p waits. search.sound p (only p waits);
  kept = λ c n on number. elim (search.kept c n on number) [
    | inl left ↦ inl left
    | inr rest ↦ elim rest [
      | inl far ↦ inr (inl far)
      | inr waits ↦ elim waits.1 [
        | inl here ↦ elim (keeps (record { number = n; cell = c; by = waits.0 }) here) [
          | inl still ↦ inr (inr (waits.0, inl still))
          | inr there ↦ inr (inr (waits.0, inr (there.0, omega arith, there.1)))
        ]
        | inr there ↦ (let past = slice_get_within [] there.0 (record { number = n; cell = c; by = waits.0 }) there.2 in absurd (omega (arith, past)))
      ]
    ]
  ];
}

-- the next place of a wave
pub next-taken : (e : Exploration) (o : OpenList) (i : ℕ) (wave : List Open) (goal : Cell) (place : Open) → slice_get wave i ≡ Some place
    → AreMinded e o i wave goal → AreMindedBut e o (i + 1) wave goal place.cell place.number
next-taken e o i wave goal place here kept c n on number = elim (kept c n on number) [
  | inl left ↦ inl (inl left)
  | inr rest ↦ elim rest [
    | inl far ↦ inl (inr (inl far))
    | inr waits ↦ elim waits.1 [
      | inl still ↦ inl (inr (inr (waits.0, inl still)))
      | inr there ↦ elim (cases_order there.0 i) [
        | inl same ↦
            let own : place ≡ record { number = n; cell = c; by = waits.0 } =
            same_Some place (record { number = n; cell = c; by = waits.0 }) (sym here ∙ ap (slice_get wave) (sym same) ∙ there.2) in
            inr (sym (ap (λ (p : Open). p.cell) own), sym (ap (λ (p : Open). p.number) own))
        | inr other ↦ elim other [
          | inl less ↦ (let from = there.1 in absurd (omega (arith, less, from)))
          | inr more ↦ inl (inr (inr (waits.0, inr (there.0, omega (arith, more), there.2))))
        ]
      ]
    ]
  ]
]

-- no place of a wave is left
pub wave-done : (e : Exploration) (o : OpenList) (i : ℕ) (wave : List Open) (goal : Cell) → length wave ≤ i → AreMinded e o i wave goal → AreMinded e o 0 [] goal
wave-done e o i wave goal past kept c n on number = elim (kept c n on number) [
  | inl left ↦ inl left
  | inr rest ↦ elim rest [
    | inl far ↦ inr (inl far)
    | inr waits ↦ elim waits.1 [
      | inl still ↦ inr (inr (waits.0, inl still))
      | inr there ↦
          let within = slice_get_within wave there.0 (record { number = n; cell = c; by = waits.0 }) there.2 in
          let from = there.1 in
          absurd (omega (arith, past, within, from))
    ]
  ]
]

-- a place of a wave has another number by now, or each step from it was taken
pub wave-without : (e : Exploration) (o : OpenList) (i : ℕ) (wave : List Open) (goal : Cell) (place : Open) → slice_get wave i ≡ Some place
    → IsSearchFrom e o i wave goal → (IsNumberOf e place.cell place.number → ⊥) → IsSearchFrom e o (i + 1) wave goal
wave-without e o i wave goal place here search other = record {
  begins = search.begins;
  sound = search.sound;
  kept = all-kept e o (i + 1) wave goal place.cell place.number (next-taken e o i wave goal place here search.kept) (λ number. absurd (other number));
}

pub wave-expanded : (e f : Exploration) (o p : OpenList) (i : ℕ) (wave : List Open) (goal : Cell) (place : Open) → slice_get wave i ≡ Some place
    → IsSearchFrom e o i wave goal → Goes e o f p → IsLeft f place.cell place.number → IsSearchFrom f p (i + 1) wave goal
wave-expanded e f o p i wave goal place here search goes left = record {
  begins = begins-still e f goes.advances search.begins;
  sound = goes.sound search.sound;
  kept =
      all-kept f p (i + 1) wave goal place.cell place.number
      (goes.kept (i + 1) wave goal place.cell place.number (next-taken e o i wave goal place here search.kept)) (λ _. inl left);
}

pub wave-over : (e : Exploration) (o : OpenList) (i : ℕ) (wave : List Open) (goal : Cell) → length wave ≤ i → IsSearchFrom e o i wave goal → IsSearch e o goal
wave-over e o i wave goal past search = record { begins = search.begins; sound = search.sound; kept = wave-done e o i wave goal past search.kept }

pub sound-still : (e f : Exploration) (wave : List Open) → Advances e f → AreSound e wave → AreSound f wave
sound-still e f wave on sound p there = place-still e f p on (sound p there)
