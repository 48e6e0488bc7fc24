-- How far the calls on a sink have come with a text.
use Rattle.std.proofs.Common.{◌≡◌, ℕ, true, false, List, [], ◌++◌}
use Rattle.std.proofs.Common.{Result, Ok, Err, OnOk, OnErr, is_ok, refl}
use Rattle.std.proofs.Common.{sym, ap, subst, ◌∙◌, append_assoc, append-nil}
use Rattle.std.specs.Prelude.{Option}
use Rattle.std.proofs.lemmas.Result.{on_ok_weaker, on_err_weaker}
use Rattle.std.specs.Io.KnownBytes.{Appends}
use Rattle.std.proofs.KnownBytes.{Appends-nil, Appends-trans}
use Rattle.text_io.specs.declared.counted.Counted.{Counted}
use Rattle.text_io.specs.declared.sink.Sink.{Sink}
use Rattle.text_io.specs.Counted.{counted_inner, failures_of, Rises}
use Rattle.text_io.specs.Sink.{held_back, sink_writer, Puts, Breaks, Leaves}
use Rattle.text_io.specs.Writing.{WritesText}

module _ {W : Type 0} (contents : W → Option (List ℕ)) where
  -- nothing happens where nothing is put
  pub Puts-same : (s : Sink W) → Puts contents s s []
  Puts-same s =
      record {
        same_writer = refl;
        sent = [];
        appended = Appends-nil _;
        in_order = append-nil (held_back s);
        failures = refl;
      }

  -- one call after another puts the bytes of both
  pub Puts-trans : (old mid new : Sink W) (first second : List ℕ) → Puts contents old mid first
      → Puts contents mid new second
      → Puts contents old new (first ++ second)
  Puts-trans old mid new first second p q = record {
    same_writer = q.same_writer ∙ p.same_writer;
    sent = p.sent ++ q.sent;
    appended = Appends-trans _ _ _ p.sent q.sent p.appended q.appended;
    in_order =
        sym (append_assoc (held_back old) first second) ∙ ap (λ l. l ++ second) p.in_order
        ∙ append_assoc p.sent (held_back mid) second
        ∙ ap (λ l. p.sent ++ l) q.in_order ∙ sym (append_assoc p.sent q.sent (held_back new));
    failures = q.failures ∙ p.failures;
  }

  -- the writer failed in a later call
  pub Breaks-after : (old mid new : Sink W) (first second : List ℕ) → Puts contents old mid first
      → Breaks contents mid new second
      → Breaks contents old new (first ++ second)
  Breaks-after old mid new first second p q = record {
    same_writer = q.same_writer ∙ p.same_writer;
    sent = p.sent ++ q.sent;
    appended = Appends-trans _ _ _ p.sent q.sent p.appended q.appended;
    rest = q.rest;
    begins =
        sym (append_assoc (held_back old) first second) ∙ ap (λ l. l ++ second) p.in_order
        ∙ append_assoc p.sent (held_back mid) second
        ∙ ap (λ l. p.sent ++ l) q.begins ∙ sym (append_assoc p.sent q.sent q.rest);
    failures = subst (λ n. Rises n (sink_writer new).failures) p.failures q.failures;
  }

  -- what the writer took is also a beginning of more
  pub Breaks-more : (old new : Sink W) (first second : List ℕ) → Breaks contents old new first
      → Breaks contents old new (first ++ second)
  Breaks-more old new first second p = record {
    same_writer = p.same_writer;
    sent = p.sent;
    appended = p.appended;
    rest = p.rest ++ second;
    begins =
        sym (append_assoc (held_back old) first second) ∙ ap (λ l. l ++ second) p.begins
        ∙ append_assoc p.sent p.rest second;
    failures = p.failures;
  }

  -- a call after another, where the bytes of both are the text
  pub Puts-then : {E : Type 0} (old mid new : Sink W) (first second text : List ℕ)
      (r : Result Unit E) → first ++ second ≡ text
      → Puts contents old mid first → OnOk r (Puts contents mid new second)
      → OnOk r (Puts contents old new text)
  Puts-then old mid new first second text r e p =
      on_ok_weaker r (λ q. subst (Puts contents old new) e
      (Puts-trans old mid new first second p q))

  pub Breaks-then : {E : Type 0} (old mid new : Sink W) (first second text : List ℕ)
      (r : Result Unit E) → first ++ second ≡ text
      → Puts contents old mid first → OnErr r (Breaks contents mid new second)
      → OnErr r (Breaks contents old new text)
  Breaks-then old mid new first second text r e p =
      on_err_weaker r (λ q. subst (Breaks contents old new) e
      (Breaks-after old mid new first second p q))

  -- a call that failed, where its bytes begin the text
  pub Breaks-text : (old new : Sink W) (first second text : List ℕ) → first ++ second ≡ text
      → Breaks contents old new first → Breaks contents old new text
  Breaks-text old new first second text e p =
      subst (Breaks contents old new) e (Breaks-more old new first second p)

  -- a call that failed after another
  pub Breaks-text-after : (old mid new : Sink W) (first second third text : List ℕ)
      → (first ++ second) ++ third ≡ text
      → Puts contents old mid first → Breaks contents mid new second → Breaks contents old new text
  Breaks-text-after old mid new first second third text e p q =
      Breaks-text old new (first ++ second) third text e (Breaks-after old mid new first second p q)

  -- at first all is left
  pub Leaves-all : (s : Sink W) (text left : List ℕ) → left ≡ text → Leaves contents s s text left
  Leaves-all s text left e = record { done = []; puts = Puts-same s; whole = e }

  -- a call puts the next bytes
  pub Leaves-less : (first mid now : Sink W) (text bytes left given : List ℕ)
      → Leaves contents first mid text (bytes ++ left)
      → given ≡ bytes → Puts contents mid now given → Leaves contents first now text left
  Leaves-less first mid now text bytes left given p e q = record {
    done = p.done ++ given;
    puts = Puts-trans first mid now p.done given p.puts q;
    whole = append_assoc p.done given left ∙ ap (λ l. p.done ++ (l ++ left)) e ∙ p.whole;
  }

  -- nothing is left
  pub Leaves-none : (first now : Sink W) (text : List ℕ) → Leaves contents first now text []
      → Puts contents first now text
  Leaves-none first now text p =
      subst (Puts contents first now) (sym (append-nil p.done) ∙ p.whole) p.puts

  -- the writer failed in a later call
  pub Leaves-broken : (first mid now : Sink W) (text bytes left given : List ℕ)
      → Leaves contents first mid text (bytes ++ left)
      → given ≡ bytes → Breaks contents mid now given → Breaks contents first now text
  Leaves-broken first mid now text bytes left given p e q =
      Breaks-text first now (p.done ++ given) left text
      (append_assoc p.done given left ∙ ap (λ l. p.done ++ (l ++ left)) e ∙ p.whole)
      (Breaks-after first mid now p.done given p.puts q)

  -- what a last call answers
  pub Puts-last : {E : Type 0} (first mid now : Sink W) (text bytes given : List ℕ)
      (r : Result Unit E) → Leaves contents first mid text bytes
      → given ≡ bytes → OnOk r (Puts contents mid now given) → OnOk r (Puts contents first now text)
  Puts-last first mid now text bytes given r p e =
      on_ok_weaker r (λ q. Leaves-none first now text
      (Leaves-less first mid now text bytes [] given
      (subst (Leaves contents first mid text) (sym (append-nil bytes)) p) e q))

  pub Breaks-last : {E : Type 0} (first mid now : Sink W) (text bytes given : List ℕ)
      (r : Result Unit E) → Leaves contents first mid text bytes
      → given ≡ bytes → OnErr r (Breaks contents mid now given)
      → OnErr r (Breaks contents first now text)
  Breaks-last first mid now text bytes given r p e =
      on_err_weaker r (λ q. Leaves-broken first mid now text bytes [] given
      (subst (Leaves contents first mid text) (sym (append-nil bytes)) p) e q)

-- ---- what was put on a sink of its own is written

-- what was put on a new sink, and handed on, was written
pub sink_written : {E W : Type 0} (contents : W → Option (List ℕ)) (first last : Sink W)
    (old new : Counted W) (text : List ℕ) (r : Result Unit E)
    → sink_writer first ≡ old → held_back first ≡ [] → new ≡ sink_writer last
    → OnOk r (Puts contents first last text) → OnOk r (held_back last ≡ [])
    → OnErr r (Breaks contents first last text)
    → WritesText (is_ok r) (contents (counted_inner old)) (contents (counted_inner new))
    (failures_of old) (failures_of new) text
sink_written {W = W} contents first last old new text (Ok u) begun none ended puts handed breaks =
    let all : text ≡ puts.sent = ap (λ xs. xs ++ text) (sym none) ∙ puts.in_order
    ∙ ap (λ xs. puts.sent ++ xs) handed ∙ append-nil puts.sent in
    let Wrote : Counted W → Counted W → Type 0 =
    λ a b. WritesText true (contents (counted_inner a)) (contents (counted_inner b)) (failures_of a)
    (failures_of b) text in
    let wrote : Wrote (sink_writer first) (sink_writer last) = (
      subst (Appends (contents (sink_writer first).inner) (contents (sink_writer last).inner))
          (sym all) puts.appended,
      puts.failures,
    ) in
    subst (λ (a : Counted W). Wrote a new) begun
    (subst (λ (b : Counted W). Wrote (sink_writer first) b) (sym ended) wrote)
sink_written {W = W} contents first last old new text (Err e) begun none ended puts handed breaks =
    let all : text ≡ breaks.sent ++ breaks.rest = ap (λ xs. xs ++ text) (sym none)
    ∙ breaks.begins in
    let Wrote : Counted W → Counted W → Type 0 =
    λ a b. WritesText false (contents (counted_inner a)) (contents (counted_inner b))
    (failures_of a) (failures_of b) text in
    let wrote : Wrote (sink_writer first) (sink_writer last) =
    (breaks.sent, breaks.rest, all, breaks.appended, breaks.failures) in
    subst (λ (a : Counted W). Wrote a new) begun
    (subst (λ (b : Counted W). Wrote (sink_writer first) b) (sym ended) wrote)

-- calls on a sink keep its writer
pub same_writer : {E W : Type 0} (contents : W → Option (List ℕ)) (first last : Sink W)
    (text : List ℕ) (r : Result Unit E)
    → OnOk r (Puts contents first last text) → OnErr r (Breaks contents first last text)
    → last.writer.ghost_name ≡ first.writer.ghost_name
same_writer contents first last text (Ok u) puts breaks = puts.same_writer
same_writer contents first last text (Err e) puts breaks = breaks.same_writer
