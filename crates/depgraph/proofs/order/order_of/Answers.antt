-- What is sorted begins with the first visits, and ends with the numbers of the cells.
use Rattle.std.proofs.Common.{◌≡◌, ℕ, suc, [], ◌∷◌, ◌++◌, ◌+◌, ◌*◌, ◌%◌, ◌<◌, ◌≤◌, List, length, get_or, Some, inl, inr, cond, arith, rules, refl, sym, ap, subst, ◌∙◌}
use Rattle.std.specs.List.Sorted.{IsPermutation, IsNonDecreasingBy}
use Rattle.std.specs.Prelude.{◌==◌}
use Rattle.std.proofs.lemmas.Bool.{cases_lt}
use Rattle.std.proofs.lemmas.List.{get_or_default, length-append, get_or_append_left, get_or_push}
use Rattle.std.proofs.lemmas.List.Elements.{Contains-get_or}
use Rattle.std.proofs.lemmas.List.Sorted.{Contains-permutation, IsPermutation-sym, IsNonDecreasingBy-from_sort, sum_by-IsPermutation, length_permutation}
use Rattle.std.proofs.lemmas.Nat.{mod-mul-add}
use Rattle.std.proofs.lemmas.Option.{slice_get-get_or, slice_get_within, get_or_from_slice_get}
use Rattle.model.specs.declared.visit.Visit.{Visit}
use Rattle.depgraph.specs.Code.Entries.{begin_in}
use Rattle.depgraph.specs.Code.Orders.{first_of, AreByFirst}
use Rattle.depgraph.specs.Code.Ranks.{tally}
use Rattle.depgraph.specs.Code.Waits.{no_visit}
use Rattle.depgraph.proofs.RankLemmas.{tally-same, tally-up_to, tally-within, occurs, occurrences_rise}
use Rattle.depgraph.proofs.order.order_of.Goals as goal

-- ---- numbers that differ still do when they change places

abbrev DifferAll : List ℕ → Type 0
DifferAll xs = (i j : ℕ) → i < length xs → j < length xs → get_or xs i 0 ≡ get_or xs j 0 → i ≡ j

once : (xs : List ℕ) (x : ℕ) → DifferAll xs → tally xs x ≤ 1
once xs x differ = elim (cases_lt 1 (tally xs x)) [
  | inl more ↦ (
      let a = occurs xs x 0 (omega (arith, more)) in
      let b = occurs xs x 1 more in
      let before = occurrences_rise xs x 0 1 a.0 b.0 (omega arith) a.1 b.1 in
      let same = differ a.0 b.0 a.1.within b.1.within (a.1.key ∙ sym b.1.key) in
      absurd (omega (arith, before, same))
      )
  | inr few ↦ few
]

never_twice : (xs ys : List ℕ) (i j : ℕ) → IsPermutation xs ys → DifferAll xs → i < j → j < length ys → get_or ys i 0 ≡ get_or ys j 0 → ⊥
never_twice xs ys i j moved differ before less same =
    let x = get_or ys i 0 in
    let own = tally-same ys i x (omega (arith, before, less)) refl in
    let rises = tally-up_to ys (i + 1) j x (omega (arith, before)) (omega (arith, less)) in
    let other = tally-within ys j x less (sym same) in
    let few = once xs x differ in
    let all : tally ys x ≡ tally xs x = sum_by-IsPermutation (λ y. cond (y == x) 1 0) xs ys moved in
    omega (arith, own, rises, other, few, all)

differ_moved : (xs ys : List ℕ) → IsPermutation xs ys → DifferAll xs → DifferAll ys
differ_moved xs ys moved differ i j in_i in_j same = elim (cases_lt i j) [
  | inl before ↦ absurd (never_twice xs ys i j moved differ before in_j same)
  | inr not_before ↦ elim (cases_lt j i) [
    | inl after ↦ absurd (never_twice xs ys j i moved differ after in_i (sym same))
    | inr not_after ↦ omega (arith, not_before, not_after)
  ]
]

-- ---- the sorted numbers

abbrev key_of : List Visit → List ℕ → ℕ → ℕ
key_of visits ends n = first_of visits ends n * 4294967296 + n

module _ (visits : List Visit) (ends firsts sorted order : List ℕ) (few : length ends < 4294967296)
    (count : length firsts ≡ length ends) (keys : (n : ℕ) → n < length ends → get_or firsts n 0 ≡ key_of visits ends n)
    (moved : IsPermutation firsts sorted) (same_count : length sorted ≡ length firsts) (up : IsNonDecreasingBy (λ k. k) sorted)
    (long : length order ≡ length sorted) (numbers : (m : ℕ) → m < length sorted → get_or order m 0 ≡ get_or sorted m 0 % 4294967296) where
  -- the number in a key
  number_is : (k n : ℕ) → n < length ends → k ≡ key_of visits ends n → k % 4294967296 ≡ n
  number_is k n less is = ap (λ x. x % 4294967296) is ∙ mod-mul-add (first_of visits ends n) 4294967296 n (omega (arith, less, few))

  differ : DifferAll firsts
  differ i j in_i in_j same =
      let less : i < length ends = omega (arith, in_i, count) in
      let also : j < length ends = omega (arith, in_j, count) in
      sym (number_is (get_or firsts i 0) i less (keys i less)) ∙ ap (λ x. x % 4294967296) same ∙ number_is (get_or firsts j 0) j also (keys j also)

  at_place : (m : ℕ) → m < length sorted → (get_or order m 0 < length ends) × (get_or sorted m 0 ≡ key_of visits ends (get_or order m 0))
  at_place m less =
      let found = Contains-permutation sorted firsts (get_or sorted m 0) (IsPermutation-sym firsts sorted moved) (Contains-get_or sorted m 0 less) in
      let n = found.0 in
      let inside = found.1 in
      let within : n < length ends = omega (arith, inside, count) in
      let key = sym (get_or_default firsts n 0 (get_or sorted m 0) inside ∙ found.2) ∙ keys n within in
      let number = numbers m less ∙ number_is (get_or sorted m 0) n within key in
      (subst (λ x. x < length ends) (sym number) within, key ∙ ap (key_of visits ends) (sym number))

  by_first : AreByFirst visits ends order
  by_first = record {
    count = long ∙ same_count ∙ count;
    sound = λ m less. (at_place m (omega (arith, less, long))).0;
    whole = λ n less.
        let found = Contains-permutation firsts sorted (get_or firsts n 0) moved (Contains-get_or firsts n 0 (omega (arith, less, count))) in
        let m = found.0 in
        let inside = found.1 in
        let key = get_or_default sorted m 0 (get_or firsts n 0) inside ∙ found.2 ∙ keys n less in
        (m, slice_get-get_or order m 0 (omega (arith, inside, long)) ∙ ap Some (numbers m inside ∙ number_is (get_or sorted m 0) n less key));
    different = λ m l n at_m at_l.
        let in_m = slice_get_within order m n at_m in
        let in_l = slice_get_within order l n at_l in
        let less : m < length sorted = omega (arith, in_m, long) in
        let also : l < length sorted = omega (arith, in_l, long) in
        let number = get_or_from_slice_get order m n 0 at_m ∙ sym (get_or_from_slice_get order l n 0 at_l) in
        differ_moved firsts sorted moved differ m l less also ((at_place m less).1 ∙ ap (key_of visits ends) number ∙ sym (at_place l also).1);
    rising = λ m l before less.
        let in_l : l < length sorted = omega (arith, less, long) in
        let a = at_place m (omega (arith, before, in_l)) in
        let b = at_place l in_l in
        let up_to = up m l 0 (omega (arith, before)) in_l in
        let few_a = a.0 in
        let few_b = b.0 in
        let is_a = a.1 in
        let is_b = b.1 in
        omega (arith, up_to, few_a, few_b, is_a, is_b, few);
  }

pub offset_bounds-visits-begin : goal.offset_bounds-visits-begin
offset_bounds-visits-begin c =
    let begin = c.loop-n.invariant.begin in
    let some = c.requires.some c.loop-n.n c.loop-n-test.true in
    let within = c.requires.within c.loop-n.n c.loop-n-test.true in
    let inside : c.loop-n.begin < length c.args.visits.now = omega (arith, begin, some, within) in
    search rules

-- one number more at the end
pushed : (xs new : List ℕ) (x n : ℕ) (f : ℕ → ℕ) → new ≡ xs ++ x ∷ [] → length xs ≡ n → x ≡ f n → ((k : ℕ) → k < n → get_or xs k 0 ≡ f k)
    → (length new ≡ n + 1) × ((k : ℕ) → k < n + 1 → get_or new k 0 ≡ f k)
pushed xs new x n f is count own before =
    let longer = length-append xs (x ∷ []) in
    let long = ap length is in (
      omega (arith, longer, long, count),
      λ k less. ap (λ l. get_or l k 0) is ∙ elim (cases_lt k n) [
        | inl earlier ↦ get_or_append_left xs (x ∷ []) 0 k (omega (arith, earlier, count)) ∙ before k earlier
        | inr last ↦ (
            let one : n ≡ k = omega (arith, less, last) in
            get_or_push xs x 0 k (omega (arith, one, count)) ∙ own ∙ ap f one
            )
      ],
    )

pub loop-n-preserved : goal.loop-n-preserved
loop-n-preserved c =
    let visits = c.args.visits.now in
    let visit_ends = c.args.visit_ends.now in
    let n = c.loop-n.n in
    let was = c.loop-n.invariant in
    let next : suc n ≡ n + 1 = omega arith in
    let key = c.first_key.ensures ∙ ap (λ b. ((get_or visits b no_visit).time * 65536 + (get_or visits b no_visit).agent) * 4294967296 + n) was.begin in
    let more = pushed c.loop-n.firsts.items c.push.new.self.items c.first_key.result n (key_of visits visit_ends) c.in_ok-push.ensures.items was.count key was.keys in
    record { begin = ap (begin_in visit_ends) next; count = more.0; keys = more.1 }

pub loop-first-preserved : goal.loop-first-preserved
loop-first-preserved c =
    let sorted = c.deref-first-items.result.now in
    let m = c.loop-first.first-index in
    let was = c.loop-first.invariant in
    let more = pushed c.loop-first.order.items c.push-in-loop-first.new.self.items c.number_of.result m (λ k. get_or sorted k 0 % 4294967296) c.in_ok-push-2.ensures.items was.count
    c.number_of.ensures was.numbers in
    record { count = more.0; numbers = more.1 }

pub returns : goal.returns
returns c =
    let items = c.deref-first-items.ensures.value in
    let firsts = c.loop-n.firsts.items in
    let sorted = c.sort_unstable.new.self.items in
    let did = c.sort_unstable.ensures in
    let past = c.loop-first-test.false in
    let most = c.loop-first.auto.first-index-end in
    let first = c.loop-n.invariant in
    let first_count = first.count in
    let end = c.loop-n.auto.n-end in
    let over = c.loop-n-test.false in
    let last = c.loop-first.invariant in
    let last_count = last.count in
    let moved = length_permutation firsts sorted did.permutation in
    let whole = ap length items in
    by_first c.args.visits.now c.args.visit_ends.now firsts sorted c.loop-first.order.items c.requires.few (omega (arith, first_count, end, over))
    (λ n less. first.keys n (omega (arith, less, over))) did.permutation moved (IsNonDecreasingBy-from_sort (λ k. k) sorted did.sorted) (omega (arith, last_count, past, most, whole))
    (λ m less. last.numbers m (omega (arith, less, past, whole)) ∙ ap (λ l. get_or l m 0 % 4294967296) items)
