-- What is written in its place, and what a sink hands on.
use Rattle.std.proofs.Common.{◌≡◌, ℕ, ◌+◌, ◌-◌, ◌<◌, ◌≤◌, Bool, true, false, eqb, List, [], ◌∷◌}
use Rattle.std.proofs.Common.{◌++◌, length, take, drop, get_or, Result, Ok, Err, OnOk, OnErr, is_ok}
use Rattle.std.proofs.Common.{refl, sym, ap, subst, ◌∙◌, append_assoc, append-nil, take-append-drop}
use Rattle.std.proofs.Common.{arith, length-append, length-drop}
use Rattle.std.proofs.lemmas.Bool.{ne_eqb}
use Rattle.std.proofs.lemmas.List.{nil_from_length, take_all, take_more}
use Rattle.std.proofs.lemmas.List.Concat.{flat_map-append}
use Rattle.std.proofs.lemmas.Slice.{take-put_mid}
use Rattle.std.specs.Prelude.{Option, ◌&&◌, decimal}
use Rattle.std.specs.List.{flat_map}
use borrow.Rule.Slice.PartMut.{put_mid}
use Rattle.text_io.specs.declared.sink.Sink.{Sink}
use Rattle.text_io.specs.Sink.{held_back, sink_writer, Puts, Breaks}
use Rattle.text_io.specs.Text.{separated}
use Rattle.text_io.specs.Writing.{WritesText}
use Rattle.text_io.specs.Laws.Putting.{Puts-trans, Breaks-after}

-- a part of a slice that ends where the slice does
pub take-drop-all : (xs : List ℕ) (n : ℕ) → take (length xs - n) (drop n xs) ≡ drop n xs
take-drop-all xs n = take_all (length xs - n) (drop n xs) (omega (arith, length-drop n xs))

-- all that a write did not take is what follows
pub rest_after : (all sent rest : List ℕ) (n : ℕ) → all ≡ sent ++ rest → all ≡ (sent ++ take n rest) ++ drop n rest
rest_after all sent rest n e = e ∙ ap (λ l. sent ++ l) (sym (take-append-drop n rest)) ∙ sym (append_assoc sent (take n rest) (drop n rest))

-- what was written in its place follows what stood before
pub written_in_place : (at n from k : ℕ) (old inside text rest : List ℕ) → at ≤ length old → n ≡ length text → from + length text ≡ n
    → drop from inside ≡ text ++ rest → length inside ≡ n → take (at + n) (put_mid at k old inside) ≡ take at old ++ text
written_in_place at n from k old inside text rest there count start written long =
    let none : from ≡ 0 = omega (arith, count, start) in
    let all : inside ≡ text ++ rest = ap (λ f. drop f inside) (sym none) ∙ written in
    let empty : length rest ≡ 0 = omega (arith, long, count, ap length all, length-append text rest) in
    take-put_mid at k old inside (at + n) (ap (λ m. at + m) (sym long)) there
    ∙ ap (λ l. take at old ++ l) (all ∙ ap (λ l. text ++ l) (nil_from_length rest empty) ∙ append-nil text)

-- ---- numbers with a byte before each

-- one more
pub separated_more : (separator : ℕ) (numbers : List ℕ) (i : ℕ) → i < length numbers
    → separated separator (take (i + 1) numbers) ≡ separated separator (take i numbers) ++ separator ∷ decimal (get_or numbers i 0)
separated_more separator numbers i within =
    let f : ℕ → List ℕ = λ n. separator ∷ decimal n in
    ap (flat_map f) (take_more numbers i 0 within)
    ∙ (flat_map-append f (take i numbers) (get_or numbers i 0 ∷ [])
    ∙ ap (λ l. flat_map f (take i numbers) ++ l) (append-nil (f (get_or numbers i 0))))

-- one of them, those before and those behind
pub separated_parts : (separator : ℕ) (numbers : List ℕ) (i : ℕ) → i < length numbers
    → separated separator numbers
    ≡ (separated separator (take i numbers) ++ separator ∷ decimal (get_or numbers i 0)) ++ separated separator (drop (i + 1) numbers)
separated_parts separator numbers i within =
    let f : ℕ → List ℕ = λ n. separator ∷ decimal n in
    ap (flat_map f) (sym (take-append-drop (i + 1) numbers))
    ∙ (flat_map-append f (take (i + 1) numbers) (drop (i + 1) numbers)
    ∙ ap (λ l. l ++ flat_map f (drop (i + 1) numbers)) (separated_more separator numbers i within))

-- a count that is not 0 fails a test for 0
pub not_zero_and : (n : ℕ) (b : Bool) → (n ≡ 0 → ⊥) → (eqb n 0 && b) ≡ false
not_zero_and n b some = ap (λ t. t && b) (ne_eqb n 0 some)

-- a clause on `Ok` or on `Err`, from the test
pub OnOk-from : {T E P : Type 0} (r : Result T E) → (is_ok r ≡ true → P) → OnOk r P
OnOk-from (Ok x) h = h refl
OnOk-from (Err e) h = tt

pub OnErr-from : {T E P : Type 0} (r : Result T E) → (is_ok r ≡ false → P) → OnErr r P
OnErr-from (Ok x) h = tt
OnErr-from (Err e) h = h refl

module _ {W : Type 0} (contents : W → Option (List ℕ)) where
  -- a writer that was given what is held back and the bytes, where nothing else is held back
  pub Puts-sent : (old new : Sink W) (bytes : List ℕ) → new.writer.ghost_name ≡ old.writer.ghost_name → held_back new ≡ []
      → WritesText true (contents (sink_writer old).inner) (contents (sink_writer new).inner) (sink_writer old).failures (sink_writer new).failures (held_back old ++ bytes)
      → Puts contents old new bytes
  Puts-sent old new bytes name none w = record {
    same_writer = name;
    sent = held_back old ++ bytes;
    appended = w.0;
    in_order = sym (append-nil _) ∙ ap (λ l. (held_back old ++ bytes) ++ l) (sym none);
    failures = w.1;
  }

  pub Breaks-sent : (old new : Sink W) (bytes : List ℕ) → new.writer.ghost_name ≡ old.writer.ghost_name
      → WritesText false (contents (sink_writer old).inner) (contents (sink_writer new).inner) (sink_writer old).failures (sink_writer new).failures (held_back old ++ bytes)
      → Breaks contents old new bytes
  Breaks-sent old new bytes name w = record {
    same_writer = name;
    sent = w.0;
    appended = w.3;
    rest = w.1;
    begins = w.2;
    failures = w.4;
  }

  -- bytes that were sent behind others that were handed on
  pub Puts-send : {E : Type 0} (old mid new : Sink W) (bytes : List ℕ) (r : Result Unit E) → Puts contents old mid [] → held_back mid ≡ []
      → new.writer.ghost_name ≡ mid.writer.ghost_name → held_back new ≡ held_back mid
      → WritesText (is_ok r) (contents (sink_writer mid).inner) (contents (sink_writer new).inner) (sink_writer mid).failures (sink_writer new).failures bytes
      → OnOk r (Puts contents old new bytes)
  Puts-send old mid new bytes r p none name held w = OnOk-from r (λ ok.
      let all : WritesText true (contents (sink_writer mid).inner) (contents (sink_writer new).inner) (sink_writer mid).failures (sink_writer new).failures (held_back mid ++ bytes)
      = subst (λ l. WritesText true (contents (sink_writer mid).inner) (contents (sink_writer new).inner) (sink_writer mid).failures (sink_writer new).failures (l ++ bytes)) (sym none)
      (subst (λ b. WritesText b (contents (sink_writer mid).inner) (contents (sink_writer new).inner) (sink_writer mid).failures (sink_writer new).failures bytes) ok w) in
      Puts-trans contents old mid new [] bytes p (Puts-sent mid new bytes name (held ∙ none) all))

  pub Breaks-send : {E : Type 0} (old mid new : Sink W) (bytes : List ℕ) (r : Result Unit E) → Puts contents old mid [] → held_back mid ≡ []
      → new.writer.ghost_name ≡ mid.writer.ghost_name
      → WritesText (is_ok r) (contents (sink_writer mid).inner) (contents (sink_writer new).inner) (sink_writer mid).failures (sink_writer new).failures bytes
      → OnErr r (Breaks contents old new bytes)
  Breaks-send old mid new bytes r p none name w = OnErr-from r (λ err.
      let all : WritesText false (contents (sink_writer mid).inner) (contents (sink_writer new).inner) (sink_writer mid).failures (sink_writer new).failures (held_back mid ++ bytes)
      = subst (λ l. WritesText false (contents (sink_writer mid).inner) (contents (sink_writer new).inner) (sink_writer mid).failures (sink_writer new).failures (l ++ bytes)) (sym none)
      (subst (λ b. WritesText b (contents (sink_writer mid).inner) (contents (sink_writer new).inner) (sink_writer mid).failures (sink_writer new).failures bytes) err w) in
      Breaks-after contents old mid new [] bytes p (Breaks-sent mid new bytes name all))
