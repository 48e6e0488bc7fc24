-- A line has the event that is told of it, and no other.
use Rattle.std.proofs.Common.{◌≡◌, ◌≢◌, ℕ, suc, ◌+◌, ◌^◌, ◌<◌, ◌⊎◌, inl, inr, Bool, true, false}
use Rattle.std.proofs.Common.{List, [], ◌∷◌, ◌++◌, length, take, drop, get_or, Some, None, refl}
use Rattle.std.proofs.Common.{sym, ap, ◌∙◌, subst, arith, IsTrue, codes}
use Rattle.std.specs.Prelude.{Option, not, ◌==◌}
use Rattle.std.specs.List.{list_all}
use Rattle.std.specs.Char.{is_ascii_digit}
use Rattle.std.proofs.lemmas.Bool.{cond-true, cond-false, and_parts, eqb-true, false_from_ne_true, not-true}
use Rattle.std.specs.Str.{bytes_eq}
use Rattle.std.proofs.lemmas.Bool.Decides.{not_from_Decides}
use Rattle.std.proofs.lemmas.Slice.Eq.{bytes_eq-Decides}
use Rattle.std.proofs.lemmas.List.{get_or-take, length-take}
use Rattle.std.proofs.Math.Seq.{take-append_seam}
use Rattle.text_io.specs.Text.{space}
use Rattle.text_io.specs.Laws.Lines.{differs}
use Rattle.memchr.specs.Find.{Nowhere, NoneBefore, Passes, is_byte}
use Rattle.model.specs.declared.event.Event.{Event}
use Rattle.model.specs.declared.event.Event.TheVariants.{Start, Finish, Say, Deliver, Restart, Tear}
use Rattle.text_io.specs.Laws.Parts.{about, prefixed}
use Rattle.event_text.specs.EventText.{NamesAgent, NamesAgentAnd, SpellsEvent}
use Rattle.text_io.specs.Numerals.{numeral_below}
use Rattle.event_text.specs.Code.EventLines.{behind_word, with_front, cut_at_space, with_agent, with_both, with_parts, told_or, one_number, two_numbers, event_of}
use Rattle.text_io.specs.Laws.Numerals.{below-found, below-says}

-- ---- the first space

-- bytes without a space are not cut
pub cut-none : (bytes : List ℕ) → ((i : ℕ) → i < length bytes → (get_or bytes i 0 == space) ≡ false) → cut_at_space bytes ≡ None
cut-none [] none = refl
cut-none (b ∷ bytes) none =
    cond-false (b == space) (Some ([], bytes)) (with_front b (cut_at_space bytes)) (none 0 (omega arith))
    ∙ ap (with_front b) (cut-none bytes (λ i below. none (suc i) (omega arith)))

-- a space behind bytes without one
pub cut-first : (front rest : List ℕ) → ((i : ℕ) → i < length front → (get_or front i 0 == space) ≡ false)
    → cut_at_space (front ++ space ∷ rest) ≡ Some (front, rest)
cut-first [] rest none = refl
cut-first (b ∷ front) rest none =
    cond-false (b == space) (Some ([], front ++ space ∷ rest)) (with_front b (cut_at_space (front ++ space ∷ rest))) (none 0 (omega arith))
    ∙ ap (with_front b) (cut-first front rest (λ i below. none (suc i) (omega arith)))

-- digits are no spaces
digits-cut : (x y : List ℕ) → IsTrue (list_all is_ascii_digit x) → cut_at_space (x ++ space ∷ y) ≡ Some (x, y)
digits-cut [] y h = refl
digits-cut (b ∷ x) y h =
    let parts = and_parts (is_ascii_digit b) (list_all is_ascii_digit x) h in
    cond-false (b == space) (Some ([], x ++ space ∷ y)) (with_front b (cut_at_space (x ++ space ∷ y))) (differs is_ascii_digit space b refl parts.0)
    ∙ ap (with_front b) (digits-cut x y parts.1)

same_parts : (p q : List ℕ × List ℕ) → Some p ≡ Some q → p ≡ q
same_parts p q e = cc

-- what is cut was joined by a space
cut-says : (bytes : List ℕ) (x y : List ℕ) → cut_at_space bytes ≡ Some (x, y) → bytes ≡ x ++ space ∷ y
cut-says [] x y e = absurd (cc)
cut-says (b ∷ bytes) x y e = go (b == space) refl (cut_at_space bytes) refl (cut-says bytes)
  where
    go : (t : Bool) → (b == space) ≡ t → (r : Option (List ℕ × List ℕ)) → cut_at_space bytes ≡ r
        → ((u v : List ℕ) → cut_at_space bytes ≡ Some (u, v) → bytes ≡ u ++ space ∷ v) → b ∷ bytes ≡ x ++ space ∷ y
    go true is r k later =
        let both = sym (cond-true (b == space) (Some ([], bytes)) (with_front b (cut_at_space bytes)) is) ∙ e in
        let parts = same_parts ([], bytes) (x, y) both in
        let front : [] ≡ x = ap (λ p. p.0) parts in
        let rest : bytes ≡ y = ap (λ p. p.1) parts in
        ap (λ c. c ∷ bytes) (eqb-true b space is) ∙ (ap (λ l. space ∷ l) rest ∙ ap (λ l. l ++ space ∷ y) front)
    go false is None k later =
        let both = sym (cond-false (b == space) (Some ([], bytes)) (with_front b (cut_at_space bytes)) is ∙ ap (with_front b) k) ∙ e in
        absurd (cc)
    go false is (Some (u, v)) k later =
        let both = sym (cond-false (b == space) (Some ([], bytes)) (with_front b (cut_at_space bytes)) is ∙ ap (with_front b) k) ∙ e in
        let parts = same_parts (b ∷ u, v) (x, y) both in
        let front : b ∷ u ≡ x = ap (λ p. p.0) parts in
        let rest : v ≡ y = ap (λ p. p.1) parts in
        ap (λ l. b ∷ l) (later u v k) ∙ (ap (λ l. (b ∷ u) ++ space ∷ l) rest ∙ ap (λ l. l ++ space ∷ y) front)

-- no space was found
pub cut-nowhere : (bytes : List ℕ) → Nowhere (Passes (is_byte space) bytes) 0 (length bytes) → cut_at_space bytes ≡ None
cut-nowhere bytes none = cut-none bytes (λ i below. false_from_ne_true (get_or bytes i 0 == space) (none i (omega arith) below))

-- the first space was found
pub cut-found : (bytes : List ℕ) (i : ℕ) → NoneBefore (Passes (is_byte space) bytes) 0 (length bytes) i → Passes (is_byte space) bytes i
    → cut_at_space bytes ≡ Some (take i bytes, drop (i + 1) bytes)
cut-found bytes i none found =
    let byte : get_or bytes i 0 ≡ space = eqb-true (get_or bytes i 0) space found in
    ap cut_at_space (about bytes i none.high ∙ ap (λ b. take i bytes ++ b ∷ drop (i + 1) bytes) byte)
    ∙ cut-first (take i bytes) (drop (i + 1) bytes)
    (λ k below. let before : k < i = omega (arith, below, length-take i bytes) in
    ap (λ b. b == space) (get_or-take i bytes k 0 before) ∙ false_from_ne_true (get_or bytes k 0 == space) (none.before k (omega arith) before))

-- ---- a word

-- what stands behind a word
behind_word-says : (word line rest : List ℕ) → behind_word word line ≡ Some rest → line ≡ word ++ rest
behind_word-says [] line rest e = cc
behind_word-says (w ∷ word) [] rest e = absurd (cc)
behind_word-says (w ∷ word) (b ∷ line) rest e = go (b == w) refl (behind_word-says word line rest)
  where
    go : (t : Bool) → (b == w) ≡ t → (behind_word word line ≡ Some rest → line ≡ word ++ rest) → b ∷ line ≡ w ∷ (word ++ rest)
    go true is later =
        ap (λ c. c ∷ line) (eqb-true b w is)
        ∙ ap (λ l. w ∷ l) (later (sym (cond-true (b == w) (behind_word word line) None is) ∙ e))
    go false is later = let both = sym (cond-false (b == w) (behind_word word line) None is) ∙ e in absurd (cc)

-- a line that does not begin with the word
behind_word-none : (word line : List ℕ) → ((rest : List ℕ) → line ≡ word ++ rest → ⊥) → behind_word word line ≡ None
behind_word-none word line none = go (behind_word word line) refl
  where
    go : (r : Option (List ℕ)) → behind_word word line ≡ r → r ≡ None
    go None e = refl
    go (Some rest) e = absurd (none rest (behind_word-says word line rest e))

-- a line that a prefix was not found in
pub behind_word-missed : (word line : List ℕ) → bytes_eq (take (length word) line) word ≡ false → behind_word word line ≡ None
behind_word-missed word line other =
    behind_word-none word line
    (λ rest is. not_from_Decides (bytes_eq (take (length word) line) word) (bytes_eq-Decides (take (length word) line) word) other
    (ap (take (length word)) is ∙ take-append_seam word rest))

-- what a comparison of bytes says
pub other_bytes : (xs ys : List ℕ) → true ≡ not (bytes_eq xs ys) → xs ≢ ys
other_bytes xs ys e = not_from_Decides (bytes_eq xs ys) (bytes_eq-Decides xs ys) (not-true (bytes_eq xs ys) (sym e))

pub same_bytes : (xs ys : List ℕ) → false ≡ not (bytes_eq xs ys) → xs ≡ ys
same_bytes xs ys e = go (bytes_eq xs ys) refl
  where
    go : (t : Bool) → bytes_eq xs ys ≡ t → xs ≡ ys
    go true is = (bytes_eq-Decides xs ys).0 is
    go false is = let both = e ∙ ap not is in absurd (cc)

-- ---- an event

-- the event that a line spells is told of it
pub event_of-spells : (event : Event) (line : List ℕ) → SpellsEvent event line → event_of line ≡ Some event
event_of-spells (Start i) line (x, is, numeral, small) = ap event_of is ∙ ap (with_agent Start) (below-found (2 ^ 32) i x numeral small)
event_of-spells (Finish i) line (x, is, numeral, small) = ap event_of is ∙ ap (with_agent Finish) (below-found (2 ^ 32) i x numeral small)
event_of-spells (Say i) line (x, is, numeral, small) = ap event_of is ∙ ap (with_agent Say) (below-found (2 ^ 32) i x numeral small)
event_of-spells (Deliver i m) line (x, y, is, first, small, second, below) =
    ap event_of is ∙ (ap (with_parts Deliver (2 ^ 64)) (digits-cut x y first.spells.0)
    ∙ (ap (λ r. with_both Deliver r (numeral_below (2 ^ 64) y)) (below-found (2 ^ 32) i x first small)
    ∙ ap (with_both Deliver (Some i)) (below-found (2 ^ 64) m y second below)))
event_of-spells (Restart i) line (x, is, numeral, small) = ap event_of is ∙ ap (with_agent Restart) (below-found (2 ^ 32) i x numeral small)
event_of-spells (Tear i n) line (x, y, is, first, small, second, below) =
    ap event_of is ∙ (ap (with_parts Tear (2 ^ 32)) (digits-cut x y first.spells.0)
    ∙ (ap (λ r. with_both Tear r (numeral_below (2 ^ 32) y)) (below-found (2 ^ 32) i x first small)
    ∙ ap (with_both Tear (Some i)) (below-found (2 ^ 32) n y second below)))

-- what is told of a line that begins with each word
pub told_start : (line rest : List ℕ) → bytes_eq (take (length (codes "start ")) line) (codes "start ") ≡ true → rest ≡ drop (length (codes "start ")) line
    → event_of line ≡ one_number Start rest
told_start line rest begins is = ap event_of (prefixed (codes "start ") line rest begins is)

pub told_finish : (line rest : List ℕ) → bytes_eq (take (length (codes "finish ")) line) (codes "finish ") ≡ true → rest ≡ drop (length (codes "finish ")) line
    → event_of line ≡ one_number Finish rest
told_finish line rest begins is = ap event_of (prefixed (codes "finish ") line rest begins is)

pub told_say : (line rest : List ℕ) → bytes_eq (take (length (codes "say ")) line) (codes "say ") ≡ true → rest ≡ drop (length (codes "say ")) line
    → event_of line ≡ one_number Say rest
told_say line rest begins is = ap event_of (prefixed (codes "say ") line rest begins is)

pub told_deliver : (line rest : List ℕ) → bytes_eq (take (length (codes "deliver ")) line) (codes "deliver ") ≡ true → rest ≡ drop (length (codes "deliver ")) line
    → event_of line ≡ two_numbers Deliver (2 ^ 64) rest
told_deliver line rest begins is = ap event_of (prefixed (codes "deliver ") line rest begins is)

pub told_restart : (line rest : List ℕ) → bytes_eq (take (length (codes "restart ")) line) (codes "restart ") ≡ true → rest ≡ drop (length (codes "restart ")) line
    → event_of line ≡ one_number Restart rest
told_restart line rest begins is = ap event_of (prefixed (codes "restart ") line rest begins is)

pub told_tear : (line rest : List ℕ) → bytes_eq (take (length (codes "tear ")) line) (codes "tear ") ≡ true → rest ≡ drop (length (codes "tear ")) line
    → event_of line ≡ two_numbers Tear (2 ^ 32) rest
told_tear line rest begins is = ap event_of (prefixed (codes "tear ") line rest begins is)

-- what is told by a number
pub record ToldByOne (word : List ℕ) (event : ℕ → Event) (line : List ℕ) (told : Event) : Type 0 where
  pub number : ℕ
  pub names : NamesAgent word number line
  pub is : told ≡ event number

pub record ToldByTwo (word : List ℕ) (event : ℕ → ℕ → Event) (limit : ℕ) (line : List ℕ) (told : Event) : Type 0 where
  pub number : ℕ
  pub other : ℕ
  pub names : NamesAgentAnd word number other limit line
  pub is : told ≡ event number other

one-says : (word rest line : List ℕ) (event : ℕ → Event) (told : Event) → line ≡ word ++ space ∷ rest → one_number event rest ≡ Some told
    → ToldByOne word event line told
one-says word rest line event told is e = go (numeral_below (2 ^ 32) rest) refl
  where
    go : (r : Option ℕ) → numeral_below (2 ^ 32) rest ≡ r → ToldByOne word event line told
    go None k = let both = sym (ap (with_agent event) k) ∙ e in absurd (cc)
    go (Some i) k =
        let both = sym (ap (with_agent event) k) ∙ e in
        let says = below-says (2 ^ 32) i rest k in
        record { number = i; names = (rest, is, says.0, says.1); is = cc }

two-says : (word rest line : List ℕ) (event : ℕ → ℕ → Event) (limit : ℕ) (told : Event) → line ≡ word ++ space ∷ rest
    → two_numbers event limit rest ≡ Some told → ToldByTwo word event limit line told
two-says word rest line event limit told is e = go (cut_at_space rest) refl
  where
    both_numbers : (x y : List ℕ) → rest ≡ x ++ space ∷ y → (r s : Option ℕ) → numeral_below (2 ^ 32) x ≡ r → numeral_below limit y ≡ s
        → with_both event r s ≡ Some told → ToldByTwo word event limit line told
    both_numbers x y parts None s k l h = absurd (cc)
    both_numbers x y parts (Some i) None k l h = absurd (cc)
    both_numbers x y parts (Some i) (Some n) k l h =
        let first = below-says (2 ^ 32) i x k in
        let second = below-says limit n y l in
        record {
          number = i;
          other = n;
          names = (x, y, is ∙ ap (λ bytes. word ++ space ∷ bytes) parts, first.0, first.1, second.0, second.1);
          is = cc;
        }

    go : (r : Option (List ℕ × List ℕ)) → cut_at_space rest ≡ r → ToldByTwo word event limit line told
    go None k = let both = sym (ap (with_parts event limit) k) ∙ e in absurd (cc)
    go (Some (x, y)) k =
        both_numbers x y (cut-says rest x y k) (numeral_below (2 ^ 32) x) (numeral_below limit y) refl refl
        (sym (ap (with_parts event limit) k) ∙ e)

-- a word was found, or something else was told
told-says : (word line : List ℕ) (tell : List ℕ → Option Event) (other : Option Event) (told : Event)
    → told_or tell (behind_word word line) other ≡ Some told
    → ((rest : List ℕ) × (line ≡ word ++ rest) × (tell rest ≡ Some told)) ⊎ (other ≡ Some told)
told-says word line tell other told e = go (behind_word word line) refl
  where
    go : (r : Option (List ℕ)) → behind_word word line ≡ r
        → ((rest : List ℕ) × (line ≡ word ++ rest) × (tell rest ≡ Some told)) ⊎ (other ≡ Some told)
    go None k = inr (sym (ap (λ r. told_or tell r other) k) ∙ e)
    go (Some rest) k = inl (rest, behind_word-says word line rest k, sym (ap (λ r. told_or tell r other) k) ∙ e)

-- the event that is told of a line is spelled by it
module _ (event : Event) (line : List ℕ) where
  abbrev from_tear : Option Event
  from_tear = told_or (two_numbers Tear (2 ^ 32)) (behind_word (codes "tear ") line) None

  abbrev from_restart : Option Event
  from_restart = told_or (one_number Restart) (behind_word (codes "restart ") line) from_tear

  abbrev from_deliver : Option Event
  from_deliver = told_or (two_numbers Deliver (2 ^ 64)) (behind_word (codes "deliver ") line) from_restart

  abbrev from_say : Option Event
  from_say = told_or (one_number Say) (behind_word (codes "say ") line) from_deliver

  abbrev from_finish : Option Event
  from_finish = told_or (one_number Finish) (behind_word (codes "finish ") line) from_say

  tear_says : from_tear ≡ Some event → SpellsEvent event line
  tear_says e = elim (told-says (codes "tear ") line (two_numbers Tear (2 ^ 32)) None event e) [
    | inl h ↦
        let told = two-says (codes "tear") h.0 line Tear (2 ^ 32) event h.1 h.2 in
        subst (λ k. SpellsEvent k line) (sym told.is) told.names
    | inr h ↦ absurd (cc)
  ]

  restart_says : from_restart ≡ Some event → SpellsEvent event line
  restart_says e = elim (told-says (codes "restart ") line (one_number Restart) from_tear event e) [
    | inl h ↦
        let told = one-says (codes "restart") h.0 line Restart event h.1 h.2 in
        subst (λ k. SpellsEvent k line) (sym told.is) told.names
    | inr h ↦ tear_says h
  ]

  deliver_says : from_deliver ≡ Some event → SpellsEvent event line
  deliver_says e = elim (told-says (codes "deliver ") line (two_numbers Deliver (2 ^ 64)) from_restart event e) [
    | inl h ↦
        let told = two-says (codes "deliver") h.0 line Deliver (2 ^ 64) event h.1 h.2 in
        subst (λ k. SpellsEvent k line) (sym told.is) told.names
    | inr h ↦ restart_says h
  ]

  say_says : from_say ≡ Some event → SpellsEvent event line
  say_says e = elim (told-says (codes "say ") line (one_number Say) from_deliver event e) [
    | inl h ↦
        let told = one-says (codes "say") h.0 line Say event h.1 h.2 in
        subst (λ k. SpellsEvent k line) (sym told.is) told.names
    | inr h ↦ deliver_says h
  ]

  finish_says : from_finish ≡ Some event → SpellsEvent event line
  finish_says e = elim (told-says (codes "finish ") line (one_number Finish) from_say event e) [
    | inl h ↦
        let told = one-says (codes "finish") h.0 line Finish event h.1 h.2 in
        subst (λ k. SpellsEvent k line) (sym told.is) told.names
    | inr h ↦ say_says h
  ]

  pub event_of-says : event_of line ≡ Some event → SpellsEvent event line
  event_of-says e = elim (told-says (codes "start ") line (one_number Start) from_finish event e) [
    | inl h ↦
        let told = one-says (codes "start") h.0 line Start event h.1 h.2 in
        subst (λ k. SpellsEvent k line) (sym told.is) told.names
    | inr h ↦ finish_says h
  ]

-- a line spells one event
pub SpellsEvent-same : (d e : Event) (line : List ℕ) → SpellsEvent d line → SpellsEvent e line → d ≡ e
SpellsEvent-same d e line h k = let both = sym (event_of-spells d line h) ∙ event_of-spells e line k in cc

-- where none is told, none is spelled
pub none-spells : (line : List ℕ) → event_of line ≡ None → (event : Event) → SpellsEvent event line → ⊥
none-spells line none event h = let both = sym none ∙ event_of-spells event line h in cc
