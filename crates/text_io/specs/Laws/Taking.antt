-- What calls on a source take, one after another.
use Rattle.std.proofs.Common.{◌≡◌, ℕ, suc, ◌+◌, ◌-◌, ◌*◌, ◌<◌, ◌≤◌, Bool}
use Rattle.std.proofs.Common.{true, false, List, [], ◌++◌, length, take, drop, slice_range}
use Rattle.std.proofs.Common.{Some, None, refl, sym, ap, subst, ◌∙◌, inl, inr}
use Rattle.std.proofs.Common.{◌⊎◌, arith, append_assoc, append-nil, length-append, drop-drop, ◌∷◌}
use Rattle.std.proofs.Math.Nat.{mul-le-mul_right, suc-mul}
use Rattle.std.proofs.lemmas.Bool.{false≢true, ne_eqb}
use Rattle.std.proofs.lemmas.List.{drop-take}
use Rattle.std.proofs.KnownBytes.{Consumes-nil, Consumes-trans}
use Rattle.std.specs.Io.KnownBytes.{Consumes, Keeps, IsAtEnd as IsSpent}
use Rattle.std.specs.Prelude.{Option, is_some, IsTrue, MatchOption, ◌&&◌}
use Rattle.text_io.specs.declared.counted.Counted.{Counted}
use Rattle.text_io.specs.declared.source.Source.{Source}
use Rattle.text_io.specs.declared.source.Stop.{Stop}
use Rattle.text_io.specs.declared.source.Stop.TheVariants.{Failure, End}
use Rattle.text_io.specs.Counted.{greatest, one_more, Rises}
use Rattle.text_io.specs.Source.{at_hand, is_stopped, has_ended, has_failed, is_end, is_failure}
use Rattle.text_io.specs.Source.{EndsAt, FailsOnce, Takes, GoesOn, StopsBy, IsAtEnd}
use Rattle.std.proofs.lemmas.List.Folds.{list_all-append}
use Rattle.text_io.specs.Text.{line_feed, is_line_byte, IsLine, ended}
use Rattle.text_io.specs.Lines.{HasTaken}
use Rattle.text_io.specs.Laws.Lines.{is_line_byte-from, ended_push, AllByRecursion_push}

-- a part of a slice that begins n later is without its first n
pub slice_range-later : (xs : List ℕ) (from to n : ℕ) → from + n ≤ to
    → slice_range xs (from + n) to ≡ drop n (slice_range xs from to)
slice_range-later xs from to n h =
    let whole : n + (to - (from + n)) ≡ to - from = omega arith in
    ap (take (to - (from + n))) (sym (drop-drop n from xs))
    ∙ sym (drop-take n (to - (from + n)) (drop from xs))
    ∙ ap (λ k. drop n (take k (drop from xs))) whole

-- where the part of a slice ends before it starts, it is empty
pub slice_range-empty : (xs : List ℕ) (from to : ℕ) → to ≤ from → slice_range xs from to ≡ []
slice_range-empty xs from to h =
    let none : to - from ≡ 0 = omega arith in ap (λ n. take n (drop from xs)) none

-- no stop is there
none_there : (stop : Option Stop) → false ≡ is_some stop → stop ≡ None
none_there None h = refl
none_there (Some s) h = absurd (false≢true h)

-- bytes that stay are none that were taken
Consumes-from_Keeps : (old new : Option (List ℕ)) → Keeps old new → Consumes old new []
Consumes-from_Keeps None new h = tt
Consumes-from_Keeps (Some xs) None h = absurd h
Consumes-from_Keeps (Some xs) (Some ys) h = sym h

-- an end stays where it is
EndsAt-same : (b : Bool) (known : Option (List ℕ)) → EndsAt b b known known
EndsAt-same true known = λ h. h
EndsAt-same false known = tt

EndsAt-trans : (a b c : Bool) (old mid new : Option (List ℕ)) → EndsAt a b old mid
    → EndsAt b c mid new → EndsAt a c old new
EndsAt-trans false false false old mid new p q = tt
EndsAt-trans false false true old mid new p q = q
EndsAt-trans false true false old mid new p q = absurd q
EndsAt-trans false true true old mid new p q = q p
EndsAt-trans true false c old mid new p q = absurd p
EndsAt-trans true true false old mid new p q = absurd q
EndsAt-trans true true true old mid new p q = λ h. q (p h)

FailsOnce-same : (b : Bool) (n : ℕ) → FailsOnce b b n n
FailsOnce-same true n = refl
FailsOnce-same false n = refl

FailsOnce-trans : (a b c : Bool) (old mid new : ℕ) → FailsOnce a b old mid → FailsOnce b c mid new
    → FailsOnce a c old new
FailsOnce-trans false false false old mid new p q = q ∙ p
FailsOnce-trans false false true old mid new p q = subst (λ n. Rises n new) p q
FailsOnce-trans false true false old mid new p q = absurd q
FailsOnce-trans false true true old mid new p q = subst (λ n. Rises old n) (sym q) p
FailsOnce-trans true false c old mid new p q = absurd p
FailsOnce-trans true true false old mid new p q = absurd q
FailsOnce-trans true true true old mid new p q = q ∙ p

-- a stop that is none is no end
pub not_ended : (stop : Option Stop) → is_some stop ≡ false → is_end stop ≡ false
not_ended None h = refl
not_ended (Some stop) h = absurd (false≢true (sym h))

-- a failure is a stop
pub failed_is_stopped : (stop : Option Stop) → is_failure stop ≡ true → is_some stop ≡ true
failed_is_stopped None h = absurd (false≢true h)
failed_is_stopped (Some stop) h = refl

-- where a reader that went on ended, all its bytes came
pub spent : (a b : Bool) (old new : Option (List ℕ)) → a ≡ false → b ≡ true → EndsAt a b old new
    → IsSpent new
spent false true old new ea eb h = h
spent false false old new ea eb h = absurd (false≢true eb)
spent true b old new ea eb h = absurd (false≢true (sym ea))

-- where a reader did not fail, its failures stay
pub same_failures
    : (a b : Bool) (old new : ℕ) → a ≡ false → b ≡ false → FailsOnce a b old new → new ≡ old
same_failures false false old new ea eb h = h
same_failures false true old new ea eb h = absurd (false≢true (sym eb))
same_failures true b old new ea eb h = absurd (false≢true (sym ea))

-- where it failed, they rise
pub more_failures
    : (a b : Bool) (old new : ℕ) → a ≡ false → b ≡ true → FailsOnce a b old new → Rises old new
more_failures false true old new ea eb h = h
more_failures false false old new ea eb h = absurd (false≢true eb)
more_failures true b old new ea eb h = absurd (false≢true (sym ea))

module _ {R : Type 0} {ahead : ℕ} (remaining : R → Option (List ℕ)) where
  -- bytes that were at hand are taken with no call of the reader
  pub Takes-at_hand : (old new : Source R ahead) (taken : List ℕ) → new.reader ≡ old.reader
      → new.stop ≡ old.stop → at_hand old ≡ taken ++ at_hand new
      → Takes remaining old new taken
  Takes-at_hand old new taken reader stop bytes = record {
    same_reader = ap (λ r. r.ghost_name) reader;
    read = [];
    in_order = append-nil (at_hand old) ∙ bytes;
    delivered =
        subst (λ r. Consumes (remaining old.reader.now.inner) (remaining r.now.inner) [])
        (sym reader) (Consumes-nil _);
    ends =
        subst (λ s. EndsAt (has_ended old) (is_end s) (remaining old.reader.now.inner)
        (remaining new.reader.now.inner)) (sym stop)
        (subst (λ r. EndsAt (has_ended old) (has_ended old) (remaining old.reader.now.inner)
        (remaining r.now.inner)) (sym reader) (EndsAt-same (has_ended old) _));
    fails =
        subst (λ s. FailsOnce (has_failed old) (is_failure s) old.reader.now.failures
        new.reader.now.failures) (sym stop)
        (subst (λ r. FailsOnce (has_failed old) (has_failed old) old.reader.now.failures
        r.now.failures) (sym reader) (FailsOnce-same (has_failed old) _));
    stays = λ _. (refl, stop, ap (λ r. r.now) reader);
    less_left =
        let calls : (greatest - new.reader.now.calls) * (ahead + 1)
        ≡ (greatest - old.reader.now.calls) * (ahead + 1)
        = ap (λ r. (greatest - r.now.calls) * (ahead + 1)) reader in
        let len : length (at_hand old) ≡ length taken + length (at_hand new) =
        ap length bytes ∙ length-append taken (at_hand new) in
        omega (arith, calls, len);
  }

  -- nothing happens where nothing is taken
  pub Takes-same : (s : Source R ahead) → Takes remaining s s []
  Takes-same s = Takes-at_hand s s [] refl refl refl

  -- nor where a source has stopped that has nothing at hand
  pub stays_stopped : (old new : Source R ahead) → new.reader ≡ old.reader → new.stop ≡ old.stop
      → at_hand old ≡ [] → at_hand new ≡ []
      → true ≡ is_stopped old → MatchOption old.stop ((0 < length (at_hand new)) × GoesOn new)
      (StopsBy remaining old new)
  stays_stopped old new reader stop none empty some = go old.stop refl
    where
      go : (o : Option Stop) → old.stop ≡ o
          → MatchOption o ((0 < length (at_hand new)) × GoesOn new) (StopsBy remaining old new)
      go None e = absurd (false≢true (sym (ap is_some e) ∙ sym some))
      go (Some why) e = (Takes-at_hand old new [] reader stop (none ∙ sym empty), stop ∙ e, empty)

  -- one call after another takes the bytes of both
  pub Takes-trans : (old mid new : Source R ahead) (first second : List ℕ)
      → Takes remaining old mid first → Takes remaining mid new second
      → Takes remaining old new (first ++ second)
  Takes-trans old mid new first second p q = record {
    same_reader = q.same_reader ∙ p.same_reader;
    read = p.read ++ q.read;
    in_order =
        sym (append_assoc (at_hand old) p.read q.read) ∙ ap (λ l. l ++ q.read) p.in_order
        ∙ append_assoc first (at_hand mid) q.read
        ∙ ap (λ l. first ++ l) q.in_order ∙ sym (append_assoc first second (at_hand new));
    delivered = Consumes-trans _ _ _ p.read q.read p.delivered q.delivered;
    ends = EndsAt-trans (has_ended old) (has_ended mid) (has_ended new) _ _ _ p.ends q.ends;
    fails =
        FailsOnce-trans (has_failed old) (has_failed mid) (has_failed new) _ _ _ p.fails q.fails;
    stays = λ h.
        let a = p.stays h in
        let b = q.stays (ap is_some a.1 ∙ h) in
        (ap (λ l. l ++ q.read) a.0 ∙ b.0, b.1 ∙ a.1, b.2 ∙ a.2);
    less_left = omega (arith, length-append first second, p.less_left, q.less_left);
  }

  -- nothing more was taken
  pub Takes-then_none : (old mid new : Source R ahead) (taken : List ℕ)
      → Takes remaining old mid taken → Takes remaining mid new [] → Takes remaining old new taken
  Takes-then_none old mid new taken p q =
      subst (Takes remaining old new) (append-nil taken) (Takes-trans old mid new taken [] p q)

  -- a call of the reader gave the bytes that are at hand now
  pub Takes-read : (old new : Source R ahead) (bytes : List ℕ)
      → new.reader.ghost_name ≡ old.reader.ghost_name → at_hand old ≡ [] → old.stop ≡ None
      → at_hand new ≡ bytes
      → Consumes (remaining old.reader.now.inner) (remaining new.reader.now.inner) bytes
      → EndsAt false (has_ended new) (remaining old.reader.now.inner)
      (remaining new.reader.now.inner)
      → FailsOnce false (has_failed new) old.reader.now.failures new.reader.now.failures
      → new.reader.now.calls ≡ one_more old.reader.now.calls
      → (bytes ≡ []) ⊎ ((old.reader.now.calls < greatest) × (length bytes ≤ ahead))
      → Takes remaining old new []
  Takes-read old new bytes name empty stop at_hand_is delivered ends fails calls bound = record {
    same_reader = name;
    read = bytes;
    in_order = ap (λ l. l ++ bytes) empty ∙ sym at_hand_is;
    delivered = delivered;
    ends =
        subst (λ s. EndsAt (is_end s) (has_ended new) (remaining old.reader.now.inner)
        (remaining new.reader.now.inner)) (sym stop) ends;
    fails =
        subst (λ s. FailsOnce (is_failure s) (has_failed new) old.reader.now.failures
        new.reader.now.failures) (sym stop) fails;
    stays = λ h. let bad : false ≡ true = ap is_some (sym stop) ∙ h in absurd (false≢true bad);
    less_left =
        let none : length (at_hand old) ≡ 0 = ap length empty in
        let now : length (at_hand new) ≡ length bytes = ap length at_hand_is in
        elim bound [
          | inl nothing ↦
              let zero_now : length bytes ≡ 0 = ap length nothing in
              let fewer : (greatest - new.reader.now.calls) * (ahead + 1)
              ≤ (greatest - old.reader.now.calls) * (ahead + 1)
              = mul-le-mul_right (ahead + 1) (omega (arith, calls)) in
              omega (arith, fewer, none, now, zero_now)
          | inr some ↦
              let one_more_left : greatest - old.reader.now.calls
              ≡ suc (greatest - new.reader.now.calls) = omega (arith, calls, some.0) in
              let fewer : (greatest - old.reader.now.calls) * (ahead + 1)
              ≡ (greatest - new.reader.now.calls) * (ahead + 1) + (ahead + 1)
              =
              ap (λ n. n * (ahead + 1)) one_more_left
              ∙ suc-mul (greatest - new.reader.now.calls) (ahead + 1) in
              omega (arith, fewer, none, now, some.1)
        ];
  }

  -- the reader failed where no byte was at hand
  pub Takes-failure : (old new : Source R ahead) → new.reader.ghost_name ≡ old.reader.ghost_name
      → old.end ≤ old.start → false ≡ is_some old.stop
      → at_hand new ≡ [] → new.stop ≡ Some Failure
      → Keeps (remaining old.reader.now.inner) (remaining new.reader.now.inner)
      → Rises old.reader.now.failures new.reader.now.failures
      → new.reader.now.calls ≡ one_more old.reader.now.calls
      → Takes remaining old new []
  Takes-failure old new name empty going nothing failed kept rises calls =
      Takes-read old new [] name
      (slice_range-empty old.piece old.start old.end empty) (none_there old.stop going) nothing
      (Consumes-from_Keeps _ _ kept)
      (subst (λ s. EndsAt false (is_end s) (remaining old.reader.now.inner)
      (remaining new.reader.now.inner)) (sym failed) tt)
      (subst (λ s. FailsOnce false (is_failure s) old.reader.now.failures new.reader.now.failures)
      (sym failed) rises)
      calls (inl refl)

-- a byte that is no LF
pub is_line_byte-other : (b : ℕ) → (b ≡ line_feed → ⊥) → IsTrue (is_line_byte b)
is_line_byte-other b other = is_line_byte-from b (ne_eqb b line_feed other)

-- the case of none
pub none_matched
    : {T P : Type 0} (Q : T → Type 0) (o : Option T) → is_some o ≡ false → MatchOption o P Q → P
none_matched Q None h p = p
none_matched Q (Some x) h p = absurd (false≢true (sym h))

-- a stop that is none is neither the end nor a failure
no_failure : (stop : Option Stop) → is_some stop ≡ false → is_failure stop ≡ false
no_failure None h = refl
no_failure (Some stop) h = absurd (false≢true (sym h))

end_no_failure : (stop : Option Stop) → is_end stop ≡ true → is_failure stop ≡ false
end_no_failure None h = refl
end_no_failure (Some End) h = refl
end_no_failure (Some Failure) h = absurd (false≢true h)

-- one byte more in a line
pub IsLine-push
    : (bytes : List ℕ) (b : ℕ) → IsLine bytes → (b ≡ line_feed → ⊥) → IsLine (bytes ++ b ∷ [])
IsLine-push bytes b line other =
    list_all-append is_line_byte bytes (b ∷ []) ∙ ap (λ t. t && (is_line_byte b && true)) line
    ∙ ap (λ t. t && true) (is_line_byte-other b other)

module _ {R : Type 0} {ahead : ℕ} (remaining : R → Option (List ℕ)) where
  -- where the end came, all was taken
  pub IsAtEnd-from : (old new : Source R ahead) (stop : Stop) → stop ≡ End
      → StopsBy remaining old new stop → IsAtEnd new
  IsAtEnd-from old new stop e h = (ap is_end (h.1 ∙ ap Some e), h.2)

  pub has_failed-from : (old new : Source R ahead) (stop : Stop) → stop ≡ Failure
      → StopsBy remaining old new stop → has_failed new ≡ true
  has_failed-from old new stop e h = ap is_failure (h.1 ∙ ap Some e)

  -- a byte that was read out as another name for it
  pub Takes-byte : (old new : Source R ahead) (b c : ℕ) → b ≡ c → Takes remaining old new (b ∷ [])
      → Takes remaining old new (c ∷ [])
  Takes-byte old new b c e = subst (λ x. Takes remaining old new (x ∷ [])) e

  pub has_failed-goes_on : (s : Source R ahead) → GoesOn s → has_failed s ≡ false
  has_failed-goes_on s h = no_failure s.stop h

  pub has_failed-at_end : (s : Source R ahead) → IsAtEnd s → has_failed s ≡ false
  has_failed-at_end s h = end_no_failure s.stop h.0

-- ---- lines

-- one more line was taken, and its LF
pub HasTaken-more : {R : Type 0} {ahead : ℕ} (remaining : R → Option (List ℕ)) (first : Counted R)
    (old new : Source R ahead) (before : List (List ℕ)) (line : List ℕ)
    → HasTaken remaining first old before → Takes remaining old new (line ++ line_feed ∷ [])
    → GoesOn new → IsLine line
    → HasTaken remaining first new (before ++ line ∷ [])
HasTaken-more remaining first old new before line h p goes_on is = record {
  delivered = h.delivered ++ p.read;
  consumed = Consumes-trans _ _ _ h.delivered p.read h.consumed p.delivered;
  in_order =
      ap (λ l. l ++ p.read) h.in_order ∙ append_assoc (ended before) (at_hand old) p.read
      ∙ ap (λ l. ended before ++ l) p.in_order
      ∙ sym (append_assoc (ended before) (line ++ line_feed ∷ []) (at_hand new))
      ∙ ap (λ l. l ++ at_hand new) (sym (ended_push before line));
  are_lines = AllByRecursion_push IsLine before line h.are_lines is;
  failures =
      same_failures (has_failed old) (has_failed new) _ _
      (has_failed-goes_on remaining old h.goes_on)
      (has_failed-goes_on remaining new goes_on) p.fails
      ∙ h.failures;
  goes_on = goes_on;
}
