-- Links of entries, and what they are by the visits.
use Rattle.std.proofs.Common.{◌≡◌, ℕ, ◌+◌, ◌<◌, List, length, get_or, set, true, false, replicate, Some, None, inl, inr, arith, refl, sym, ap, ◌∙◌}
use Rattle.std.specs.Prelude.{◌==◌, Bool, Option, if◌then◌else◌}
use Rattle.std.proofs.lemmas.Bool.{cases_eq, cases_Bool, cond-true, cond-false, eq-eqb, ne_eqb}
use Rattle.std.proofs.lemmas.List.{get_or-set_same, get_or-set_other, get_or-replicate, length-set, length-replicate, same_lists}
use Rattle.std.proofs.lemmas.List.FromFn.{get_or-map-range_with_len, length-map-range_with_len}
use Rattle.model.specs.declared.visit.Visit.{Visit}
use Rattle.depgraph.specs.declared.waiting.Wait.{Wait}
use Rattle.depgraph.specs.Code.Entries.{begin_in}
use Rattle.depgraph.specs.Code.Links.{link_to, link_of, links_by, all_links}
use Rattle.depgraph.specs.Code.Waits.{no_visit, no_wait, no_entry, entry_for, wait_of, ahead_of, before_at, AreWaits, AreAhead, AreBlocks}

module _ (times ends : List ℕ) (waits : List Wait) where
  abbrev at : List Bool → ℕ → ℕ
  at taken e = if get_or taken e true then no_entry else link_of times ends waits e

  pub length-links : (taken : List Bool) → length (links_by times ends waits taken) ≡ length taken
  length-links taken = length-map-range_with_len (at taken) 0 (length taken)

  pub link-at : (taken : List Bool) (e d : ℕ) → e < length taken → get_or (links_by times ends waits taken) e d ≡ at taken e
  link-at taken e d less = get_or-map-range_with_len (at taken) 0 (length taken) e e d less (omega arith)

  pub link-taken_away : (taken : List Bool) (e : ℕ) → e < length taken → get_or taken e true ≡ true → get_or (links_by times ends waits taken) e 0 ≡ no_entry
  link-taken_away taken e less is = link-at taken e 0 less ∙ cond-true (get_or taken e true) no_entry (link_of times ends waits e) is

  pub link-there : (taken : List Bool) (e d : ℕ) → e < length taken → get_or taken e true ≡ false → get_or (links_by times ends waits taken) e d ≡ link_of times ends waits e
  link-there taken e d less is = link-at taken e d less ∙ cond-false (get_or taken e true) no_entry (link_of times ends waits e) is

  -- who waits for nobody has no link
  pub link-none : (taken : List Bool) (e : ℕ) → e < length taken → (get_or waits e no_wait).count ≡ 0 → get_or (links_by times ends waits taken) e 0 ≡ no_entry
  link-none taken e less none = elim (cases_Bool (get_or taken e true)) [
    | inl gone ↦ link-taken_away taken e less gone
    | inr there ↦ link-there taken e 0 less there ∙ cond-true ((get_or waits e no_wait).count == 0) no_entry _ (eq-eqb (get_or waits e no_wait).count 0 none)
  ]

  -- one link less
  pub links-set : (taken : List Bool) (i : ℕ) → i < length taken → links_by times ends waits (set taken i true) ≡ set (links_by times ends waits taken) i no_entry
  links-set taken i inside =
      let size = length-set taken i true in
      let new = length-links (set taken i true) in
      let old = length-links taken in
      let both = length-set (links_by times ends waits taken) i no_entry in
      same_lists (links_by times ends waits (set taken i true)) (set (links_by times ends waits taken) i no_entry) (omega (arith, size, new, old, both)) (λ k d less.
      let there : k < length taken = omega (arith, less, new, size) in
      link-at (set taken i true) k d (omega (arith, there, size)) ∙ elim (cases_eq k i) [
        | inl own ↦
            ap (λ j. at (set taken i true) j) own
            ∙ cond-true (get_or (set taken i true) i true) no_entry (link_of times ends waits i) (get_or-set_same taken i true true inside)
            ∙ sym (get_or-set_same (links_by times ends waits taken) i no_entry d (omega (arith, inside, old)))
            ∙ ap (λ j. get_or (set (links_by times ends waits taken) i no_entry) j d) (sym own)
        | inr other ↦
            ap (λ (b : Bool). if b then no_entry else link_of times ends waits k) (get_or-set_other taken i k true true other)
            ∙ sym (link-at taken k d there)
            ∙ sym (get_or-set_other (links_by times ends waits taken) i k no_entry d other)
      ])

  -- where no link was taken away
  pub all-there : (e : ℕ) → e < length waits → get_or (all_links times ends waits) e no_entry ≡ link_of times ends waits e
  all-there e less =
      let long = length-replicate {A = Bool} (length waits) false in
      link-there (replicate (length waits) false) e no_entry (omega (arith, less, long)) (get_or-replicate (length waits) e false true less)

  pub length-all : length (all_links times ends waits) ≡ length waits
  length-all = length-links (replicate (length waits) false) ∙ length-replicate (length waits) false

-- what leads on from a visit, by the one before it in its cell
link-ahead : (times ends : List ℕ) (own : Visit) (o : Option Visit) → link_to times ends (wait_of own.agent o) own.time ≡ ahead_of times ends own o
link-ahead times ends own None = refl
link-ahead times ends own (Some v) =
    let next = entry_for ends v + 1 in
    let noted : Wait = record { agent = v.agent; count = v.index + 1 } in
    let there = if get_or times next 0 == own.time then next else no_entry in
    elim (cases_eq v.agent own.agent) [
      | inl same ↦ (
          let is = eq-eqb v.agent own.agent same in
          ap (λ w. link_to times ends w own.time) (cond-true (v.agent == own.agent) no_wait noted is) ∙ sym (cond-true (v.agent == own.agent) no_entry there is)
          )
      | inr other ↦ (
          let is = ne_eqb v.agent own.agent other in
          let place : begin_in ends v.agent + (v.index + 1) ≡ next = omega arith in
          ap (λ w. link_to times ends w own.time) (cond-false (v.agent == own.agent) no_wait noted is)
          ∙ cond-false (v.index + 1 == 0) no_entry (if get_or times (begin_in ends v.agent + (v.index + 1)) 0 == own.time then begin_in ends v.agent + (v.index + 1) else no_entry)
          (ne_eqb (v.index + 1) 0 (λ none. omega (arith, none)))
          ∙ ap (λ e. if get_or times e 0 == own.time then e else no_entry) place
          ∙ sym (cond-false (v.agent == own.agent) no_entry there is)
          )
    ]

-- the links lead to what is ahead, where each visit has the time of its entry
pub are_ahead : (times ends : List ℕ) (visits : List Visit) (visit_ends : List ℕ) (waits : List Wait) → AreBlocks ends visits visit_ends → AreWaits ends visits visit_ends waits
    → ((k : ℕ) → k < length visits → get_or times (entry_for ends (get_or visits k no_visit)) 0 ≡ (get_or visits k no_visit).time)
    → AreAhead times ends visits visit_ends (all_links times ends waits)
are_ahead times ends visits visit_ends waits blocks are time = record {
  count = length-all times ends waits ∙ are.count;
  each = λ n k less after before.
      let own = get_or visits k no_visit in
      let e = entry_for ends own in
      let most = blocks.within n less in
      let inside : k < length visits = omega (arith, before, most) in
      let entry = blocks.entries k inside in
      let count = are.count in
      all-there times ends waits e (omega (arith, entry, count))
      ∙ ap (λ w. link_to times ends w (get_or times e 0)) (are.each n k less after before)
      ∙ ap (λ t. link_to times ends (wait_of own.agent (before_at visits (begin_in visit_ends n) k)) t) (time k inside)
      ∙ link-ahead times ends own (before_at visits (begin_in visit_ends n) k);
}
