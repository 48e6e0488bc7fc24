-- How a line is taken part by part, and what its end leaves.
use Rattle.std.proofs.Common.{◌≡◌, ℕ, ◌+◌, ◌-◌, ◌<◌, ◌≤◌, false, List, [], ◌∷◌, ◌++◌, length, take}
use Rattle.std.proofs.Common.{drop, refl, sym, ap, subst, ◌∙◌, inl, inr, arith, append_assoc}
use Rattle.std.proofs.Common.{append-nil, length-append, length-take, length-take-le}
use Rattle.std.specs.Prelude.{Option, Err, slice_set, ◌&&◌}
use Rattle.std.specs.List.{list_all, prefix_len, AllByRecursion}
use Rattle.std.specs.Io.KnownBytes.{Consumes}
use Rattle.std.proofs.KnownBytes.{Consumes-nil, Consumes-trans}
use Rattle.std.proofs.lemmas.Grind.{take-set_at}
use Rattle.std.proofs.lemmas.List.{length-set}
use Rattle.std.proofs.lemmas.List.Sums.{prefix_len-le-length}
use Rattle.std.proofs.lemmas.List.Folds.{list_all-append}
use borrow.Rule.Slice.PartMut.{put_mid, mid_of, same_len_mid}
use Rattle.text_io.specs.declared.counted.Counted.{Counted}
use Rattle.text_io.specs.declared.source.Source.{Source}
use Rattle.text_io.specs.declared.source.Stop.{Stop}
use Rattle.text_io.specs.declared.source.Stop.TheVariants.{End, Failure}
use Rattle.text_io.specs.Counted.{counted_inner, failures_of, Rises}
use Rattle.text_io.specs.Text.{line_feed, is_line_byte, IsLine, lines_of, ended}
use Rattle.text_io.specs.Source.{at_hand, source_reader, has_ended, has_failed, GoesOn, Takes, StopsBy}
use Rattle.text_io.specs.Reading.{LineEnds, by_input, by_line_feed, at_end, JudgedAt}
use Rattle.text_io.specs.Lines.{HasTaken, HasBegun, HasCome, LineEnded, InputEnded, LineTooLong, ReaderFailed, LinePassed}
use Rattle.text_io.specs.Laws.Lines.{lines_of-whole, lines_of-open, lines_of-all, ends_in_line_feed-whole, ends_in_line_feed-open, ended_push, AllByRecursion_push}
use Rattle.text_io.specs.Laws.Taking.{Takes-same, Takes-trans, Takes-then_none, spent}
use Rattle.text_io.specs.Laws.Taking.{same_failures, more_failures, not_ended, IsLine-push}
use Rattle.text_io.specs.Laws.Taking.{IsAtEnd-from, has_failed-from, has_failed-goes_on}
use Rattle.text_io.specs.Laws.Taking.{has_failed-at_end}
use Rattle.text_io.specs.Laws.Runs.{take-front, take-part, run_passes}

-- ---- the room

-- what precedes an LF is of one line
before_line_feed : (size more : ℕ) (bytes : List ℕ) → more ≡ prefix_len is_line_byte (take size bytes) → (more ≤ size) × IsLine (take more bytes)
before_line_feed size more bytes e =
    let inside : more ≤ size = omega (arith, e, prefix_len-le-length is_line_byte (take size bytes), length-take size bytes) in (
      inside,
      ap (list_all is_line_byte) (sym (take-front more size bytes inside)) ∙ ap (λ n. list_all is_line_byte (take n (take size bytes))) e
          ∙ run_passes is_line_byte (take size bytes),
    )

IsLine-append : (line more : List ℕ) → IsLine line → IsLine more → IsLine (line ++ more)
IsLine-append line more h k = list_all-append is_line_byte line more ∙ ap (λ t. t && list_all is_line_byte more) h ∙ k

-- ---- the parts of a line

-- So many bytes of a line were taken, and stand at the front of the room.
pub record HasPart {R : Type 0} {ahead : ℕ} (remaining : R → Option (List ℕ)) (old new : Source R ahead) (room : List ℕ) (count : ℕ) : Type 0 where
  pub in_room : count ≤ length room
  pub is_line : IsLine (take count room)
  pub taken : Takes remaining old new (take count room)

-- Bytes of one line were taken.
pub record HasPassed {R : Type 0} {ahead : ℕ} (remaining : R → Option (List ℕ)) (old new : Source R ahead) : Type 0 where
  pub bytes : List ℕ
  pub is_line : IsLine bytes
  pub taken : Takes remaining old new bytes

-- where no more came after lines and the beginning of one
judged_at_end : (before : List (List ℕ)) (line : List ℕ) → AllByRecursion IsLine before → IsLine line
    → (ends : LineEnds) → JudgedAt ends at_end before line (ended before ++ line)
judged_at_end before line all is by_line_feed = (refl, all, is)
judged_at_end before [] all is by_input = inr (ap lines_of (append-nil (ended before)) ∙ lines_of-all before all, refl)
judged_at_end before (b ∷ line) all is by_input =
    inl (lines_of-open before (b ∷ line) all is (omega arith), ends_in_line_feed-open (ended before) (b ∷ line) is (omega arith))

module _ {R : Type 0} {ahead : ℕ} (remaining : R → Option (List ℕ)) where
  -- nothing was taken of a new source
  pub HasTaken-none : (first : Counted R) (s : Source R ahead) → source_reader s ≡ first → at_hand s ≡ [] → GoesOn s → HasTaken remaining first s []
  HasTaken-none first s same none goes_on = record {
    delivered = [];
    consumed = subst (λ r. Consumes (remaining (counted_inner first)) (remaining (counted_inner r)) []) (sym same) (Consumes-nil _);
    in_order = sym none;
    are_lines = tt;
    failures = ap failures_of same;
    goes_on = goes_on;
  }

  pub HasPart-none : (s : Source R ahead) (room : List ℕ) → HasPart remaining s s room 0
  HasPart-none s room = record { in_room = omega arith; is_line = refl; taken = Takes-same remaining s }

  -- one more part, as far as it was at hand
  pub HasPart-more : (old mid new : Source R ahead) (room part : List ℕ) (count more : ℕ) → HasPart remaining old mid room count
      → length part ≡ length (mid_of count (length room - count) room)
      → more ≡ prefix_len is_line_byte (take (length (mid_of count (length room - count) room)) (at_hand mid))
      → take more part ≡ take more (at_hand mid) → Takes remaining mid new (take more (at_hand mid))
      → HasPart remaining old new (put_mid count (length room - count) room part) (count + more)
  HasPart-more old mid new room part count more p size more_is copied taken =
      let run = before_line_feed (length (mid_of count (length room - count) room)) more (at_hand mid) more_is in
      let fits : more ≤ length part = omega (arith, size, run.0) in
      let front = take-part count more room part p.in_room fits ∙ ap (λ l. take count room ++ l) copied in
      let whole = same_len_mid count (length room - count) room part size in
      let left : length (mid_of count (length room - count) room) ≤ length room - count =
      omega (arith, length-take (length room - count) (drop count room)) in
      let room_is = p.in_room in
      record {
        in_room = omega (arith, whole, left, size);
        is_line = ap (list_all is_line_byte) front ∙ IsLine-append (take count room) (take more (at_hand mid)) p.is_line run.1;
        taken = subst (Takes remaining old new) (sym front) (Takes-trans remaining old mid new _ _ p.taken taken);
      }

  -- one more byte
  pub HasPart-byte : (old mid new : Source R ahead) (room : List ℕ) (count b : ℕ) → HasPart remaining old mid room count → count < length room
      → (b ≡ line_feed → ⊥) → Takes remaining mid new (b ∷ []) → HasPart remaining old new (slice_set room count b) (count + 1)
  HasPart-byte old mid new room count b p some other taken =
      let front = take-set_at room count (count + 1) b refl some in
      record {
        in_room = omega (arith, length-set room count b);
        is_line = ap (list_all is_line_byte) front ∙ IsLine-push (take count room) b p.is_line other;
        taken = subst (Takes remaining old new) (sym front) (Takes-trans remaining old mid new _ _ p.taken taken);
      }

  -- what was delivered since first
  delivered_since : (first : Counted R) (old new : Source R ahead) (before : List (List ℕ)) (taken : List ℕ) → HasTaken remaining first old before
      → Takes remaining old new taken
      → (delivered : List ℕ) × Consumes (remaining (counted_inner first)) (remaining (counted_inner (source_reader new))) delivered
      × (delivered ≡ (ended before ++ taken) ++ at_hand new)
  delivered_since first old new before taken h p = (
    h.delivered ++ p.read,
    Consumes-trans _ _ _ h.delivered p.read h.consumed p.delivered,
    ap (λ l. l ++ p.read) h.in_order ∙ append_assoc (ended before) (at_hand old) p.read ∙ ap (λ l. ended before ++ l) p.in_order
        ∙ sym (append_assoc (ended before) taken (at_hand new)),
  )

  failures_stay : (first : Counted R) (old new : Source R ahead) (before : List (List ℕ)) (taken : List ℕ) → HasTaken remaining first old before
      → Takes remaining old new taken → has_failed new ≡ false → failures_of (source_reader new) ≡ failures_of first
  failures_stay first old new before taken h p well =
      same_failures (has_failed old) (has_failed new) _ _ (has_failed-goes_on remaining old h.goes_on) well p.fails ∙ h.failures

  -- the LF of the line came
  pub line_ended : (first : Counted R) (old mid new : Source R ahead) (before : List (List ℕ)) (room : List ℕ) (count : ℕ) → HasPart remaining old mid room count
      → Takes remaining mid new (line_feed ∷ []) → GoesOn new → HasTaken remaining first old before → LineEnded remaining first new before room count
  line_ended first old mid new before room count p feed goes_on h =
      let line = take count room in
      let taken = Takes-trans remaining old mid new line (line_feed ∷ []) p.taken feed in
      let since = delivered_since first old new before (line ++ line_feed ∷ []) h taken in
      let failures = failures_stay first old new before (line ++ line_feed ∷ []) h taken (has_failed-goes_on remaining new goes_on) in
      record {
        in_room = p.in_room;
        taken = record {
          delivered = since.0;
          consumed = since.1;
          in_order = since.2 ∙ ap (λ l. l ++ at_hand new) (sym (ended_push before line));
          are_lines = AllByRecursion_push IsLine before line h.are_lines p.is_line;
          failures = failures;
          goes_on = goes_on;
        };
        come = record {
          delivered = since.0;
          consumed = since.1;
          front = ended before ++ (line ++ line_feed ∷ []);
          rest = at_hand new;
          bytes = since.2;
          judged = λ ends. (lines_of-whole before line h.are_lines p.is_line, ends_in_line_feed-whole (ended before) line);
          whole = λ e. absurd (cc);
        };
        failures = failures;
      }

  -- all of a line that is not ended was taken
  come_to_end : (first : Counted R) (old new : Source R ahead) (before : List (List ℕ)) (line : List ℕ) → Takes remaining old new line → IsLine line
      → at_hand new ≡ [] → HasTaken remaining first old before → HasCome remaining first new at_end before line
  come_to_end first old new before line taken is_line none h =
      let since = delivered_since first old new before line h taken in
      record {
        delivered = since.0;
        consumed = since.1;
        front = ended before ++ line;
        rest = at_hand new;
        bytes = since.2;
        judged = judged_at_end before line h.are_lines is_line;
        whole = λ e. none;
      }

  -- the end of the input came
  pub input_ended : (first : Counted R) (old mid new : Source R ahead) (before : List (List ℕ)) (room : List ℕ) (count : ℕ) (stop : Stop)
      → HasPart remaining old mid room count → stop ≡ End → StopsBy remaining mid new stop → HasTaken remaining first old before
      → InputEnded remaining first new before room count
  input_ended first old mid new before room count stop p is_end stopped h =
      let line = take count room in
      let taken = Takes-then_none remaining old mid new line p.taken stopped.0 in
      let end = IsAtEnd-from remaining mid new stop is_end stopped in
      record {
        in_room = p.in_room;
        come = come_to_end first old new before line taken p.is_line stopped.2 h;
        spent = spent (has_ended old) (has_ended new) _ _ (not_ended old.stop h.goes_on) end.0 taken.ends;
        failures = failures_stay first old new before line h taken (has_failed-at_end remaining new end);
      }

  -- a byte came for which there is no room
  pub line_too_long : (first : Counted R) (old mid new : Source R ahead) (before : List (List ℕ)) (room : List ℕ) (count b : ℕ) → HasPart remaining old mid room count
      → count ≡ length room → (b ≡ line_feed → ⊥) → Takes remaining mid new (b ∷ []) → GoesOn new → HasTaken remaining first old before
      → LineTooLong remaining first new before room
  line_too_long first old mid new before room count b p full other byte goes_on h =
      let line = take count room ++ b ∷ [] in
      let is_line = IsLine-push (take count room) b p.is_line other in
      let long : length line ≡ length room + 1 =
      length-append (take count room) (b ∷ []) ∙ ap (λ n. n + 1) (length-take-le count room p.in_room ∙ full) in
      let some : 0 < length line = omega (arith, long) in
      let taken = Takes-trans remaining old mid new (take count room) (b ∷ []) p.taken byte in
      let since = delivered_since first old new before line h taken in
      let failures = failures_stay first old new before line h taken (has_failed-goes_on remaining new goes_on) in
      record {
        line = line;
        length_is = long;
        begun = record {
          delivered = since.0;
          consumed = since.1;
          in_order = since.2;
          are_lines = h.are_lines;
          is_line = is_line;
          failures = failures;
          goes_on = goes_on;
        };
        come = record {
          delivered = since.0;
          consumed = since.1;
          front = ended before ++ line;
          rest = at_hand new;
          bytes = since.2;
          judged = λ ends. (lines_of-open before line h.are_lines is_line some, ends_in_line_feed-open (ended before) line is_line some);
          whole = λ e. absurd (cc);
        };
        failures = failures;
      }

  -- the reader failed
  pub reader_failed : (first : Counted R) (old mid new : Source R ahead) (before : List (List ℕ)) (room : List ℕ) (count : ℕ) (stop : Stop)
      → HasPart remaining old mid room count → stop ≡ Failure → StopsBy remaining mid new stop → HasTaken remaining first old before
      → ReaderFailed remaining first new before room
  reader_failed first old mid new before room count stop p is_failure stopped h =
      let line = take count room in
      let taken = Takes-then_none remaining old mid new line p.taken stopped.0 in
      let failed = has_failed-from remaining mid new stop is_failure stopped in
      record {
        line = line;
        in_room = omega (arith, length-take count room);
        come = come_to_end first old new before line taken p.is_line stopped.2 h;
        failures =
            let rises = more_failures (has_failed old) (has_failed new) _ _ (has_failed-goes_on remaining old h.goes_on) failed taken.fails in
            subst (λ n. Rises n (failures_of (source_reader new))) h.failures rises;
      }

  -- ---- passing over a line

  -- nothing is passed yet
  pub HasPassed-none : (s : Source R ahead) → HasPassed remaining s s
  HasPassed-none s = record { bytes = []; is_line = refl; taken = Takes-same remaining s }

  -- what is at hand before an LF
  pub HasPassed-part : (old mid new : Source R ahead) (count : ℕ) → HasPassed remaining old mid → count ≡ prefix_len is_line_byte (at_hand mid)
      → Takes remaining mid new (take count (at_hand mid)) → HasPassed remaining old new
  HasPassed-part old mid new count p count_is taken =
      let part = ap (λ n. list_all is_line_byte (take n (at_hand mid))) count_is ∙ run_passes is_line_byte (at_hand mid) in
      record {
        bytes = p.bytes ++ take count (at_hand mid);
        is_line = IsLine-append p.bytes (take count (at_hand mid)) p.is_line part;
        taken = Takes-trans remaining old mid new _ _ p.taken taken;
      }

  -- one more byte
  pub HasPassed-byte : (old mid new : Source R ahead) (b : ℕ) → HasPassed remaining old mid → (b ≡ line_feed → ⊥) → Takes remaining mid new (b ∷ [])
      → HasPassed remaining old new
  HasPassed-byte old mid new b p other taken = record {
    bytes = p.bytes ++ b ∷ [];
    is_line = IsLine-push p.bytes b p.is_line other;
    taken = Takes-trans remaining old mid new _ _ p.taken taken;
  }

  -- what was delivered since first, behind the front of a line
  begun_since : (first : Counted R) (old new : Source R ahead) (before : List (List ℕ)) (front taken : List ℕ) → HasBegun remaining first old before front
      → Takes remaining old new taken
      → (delivered : List ℕ) × Consumes (remaining (counted_inner first)) (remaining (counted_inner (source_reader new))) delivered
      × (delivered ≡ (ended before ++ (front ++ taken)) ++ at_hand new)
  begun_since first old new before front taken h p = (
    h.delivered ++ p.read,
    Consumes-trans _ _ _ h.delivered p.read h.consumed p.delivered,
    ap (λ l. l ++ p.read) h.in_order ∙ append_assoc (ended before ++ front) (at_hand old) p.read ∙ ap (λ l. (ended before ++ front) ++ l) p.in_order
        ∙ sym (append_assoc (ended before ++ front) taken (at_hand new)) ∙ ap (λ l. l ++ at_hand new) (append_assoc (ended before) front taken),
  )

  begun_failures : (first : Counted R) (old new : Source R ahead) (before : List (List ℕ)) (front taken : List ℕ) → HasBegun remaining first old before front
      → Takes remaining old new taken → has_failed new ≡ false → failures_of (source_reader new) ≡ failures_of first
  begun_failures first old new before front taken h p well =
      same_failures (has_failed old) (has_failed new) _ _ (has_failed-goes_on remaining old h.goes_on) well p.fails ∙ h.failures

  -- the LF came
  pub line_passed : (first : Counted R) (old mid new : Source R ahead) (before : List (List ℕ)) (front : List ℕ) → HasPassed remaining old mid
      → Takes remaining mid new (line_feed ∷ []) → GoesOn new → HasBegun remaining first old before front
      → (more : List ℕ) × HasTaken remaining first new (before ++ (front ++ more) ∷ [])
  line_passed first old mid new before front p feed goes_on h =
      let more = p.bytes in
      let taken = Takes-trans remaining old mid new more (line_feed ∷ []) p.taken feed in
      let since = begun_since first old new before front (more ++ line_feed ∷ []) h taken in (
        more,
        record {
          delivered = since.0;
          consumed = since.1;
          in_order = since.2 ∙ ap (λ l. (ended before ++ l) ++ at_hand new) (sym (append_assoc front more (line_feed ∷ [])))
              ∙ ap (λ l. l ++ at_hand new) (sym (ended_push before (front ++ more)));
          are_lines = AllByRecursion_push IsLine before (front ++ more) h.are_lines (IsLine-append front more h.is_line p.is_line);
          failures = begun_failures first old new before front (more ++ line_feed ∷ []) h taken (has_failed-goes_on remaining new goes_on);
          goes_on = goes_on;
        },
      )

  -- no more came
  passed_to_end : (first : Counted R) (old new : Source R ahead) (before : List (List ℕ)) (front more : List ℕ) → Takes remaining old new more → IsLine more
      → at_hand new ≡ [] → HasBegun remaining first old before front → HasCome remaining first new at_end before (front ++ more)
  passed_to_end first old new before front more taken is_line none h =
      let since = begun_since first old new before front more h taken in
      record {
        delivered = since.0;
        consumed = since.1;
        front = ended before ++ (front ++ more);
        rest = at_hand new;
        bytes = since.2;
        judged = judged_at_end before (front ++ more) h.are_lines (IsLine-append front more h.is_line is_line);
        whole = λ e. none;
      }

  -- the LF did not come
  pub line_not_passed : (first : Counted R) (old mid new : Source R ahead) (before : List (List ℕ)) (front : List ℕ) (stop : Stop) → HasPassed remaining old mid
      → StopsBy remaining mid new stop → HasBegun remaining first old before front → LinePassed remaining first new before front (Err stop)
  line_not_passed first old mid new before front End p stopped h =
      let taken = Takes-then_none remaining old mid new p.bytes p.taken stopped.0 in
      let end = IsAtEnd-from remaining mid new End refl stopped in (
        p.bytes,
        passed_to_end first old new before front p.bytes taken p.is_line stopped.2 h,
        spent (has_ended old) (has_ended new) _ _ (not_ended old.stop h.goes_on) end.0 taken.ends,
        begun_failures first old new before front p.bytes h taken (has_failed-at_end remaining new end),
      )
  line_not_passed first old mid new before front Failure p stopped h =
      let taken = Takes-then_none remaining old mid new p.bytes p.taken stopped.0 in
      let failed = has_failed-from remaining mid new Failure refl stopped in
      let rises = more_failures (has_failed old) (has_failed new) _ _ (has_failed-goes_on remaining old h.goes_on) failed taken.fails in (
        p.bytes,
        passed_to_end first old new before front p.bytes taken p.is_line stopped.2 h,
        subst (λ n. Rises n (failures_of (source_reader new))) h.failures rises,
      )
