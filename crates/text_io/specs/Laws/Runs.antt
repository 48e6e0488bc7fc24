-- The run of terrain characters at the front of some bytes.
use Rattle.std.proofs.Common.{◌≡◌, ℕ, zero, suc, ◌+◌, ◌-◌, ◌<◌, ◌≤◌, Bool}
use Rattle.std.proofs.Common.{true, false, cond, List, [], ◌∷◌, ◌++◌, length, take}
use Rattle.std.proofs.Common.{drop, refl, sym, ap, ◌∙◌, arith, length-take}
use Rattle.std.specs.Prelude.{IsTrue, ◌&&◌, min}
use Rattle.std.specs.List.{list_all, prefix_len}
use Rattle.std.proofs.Math.Seq.{take-append-add}
use Rattle.std.proofs.lemmas.List.{length-take-le, take-append-le}
use Rattle.std.proofs.lemmas.List.Sums.{prefix_len-le-length}
use borrow.Rule.Slice.PartMut.{put_mid}

-- the bytes of the run pass
pub run_passes
    : (test : ℕ → Bool) (bytes : List ℕ) → list_all test (take (prefix_len test bytes) bytes) ≡ true
run_passes test [] = refl
run_passes test (b ∷ bytes) = on (test b) refl (run_passes test bytes)
  where
    on : (t : Bool) → test b ≡ t → list_all test (take (prefix_len test bytes) bytes) ≡ true
        → list_all test (take (cond t (1 + prefix_len test bytes) 0) (b ∷ bytes)) ≡ true
    on true e rest =
        let next : 1 + prefix_len test bytes ≡ suc (prefix_len test bytes) = omega arith in
        ap (λ n. list_all test (take n (b ∷ bytes))) next
        ∙ ap (λ t. t && list_all test (take (prefix_len test bytes) bytes)) e ∙ rest
    on false e rest = refl

-- a front of a front
pub take-front : (n m : ℕ) (bytes : List ℕ) → n ≤ m → take n (take m bytes) ≡ take n bytes
take-front zero m bytes h = refl
take-front (suc n) zero bytes h = absurd (omega arith)
take-front (suc n) (suc m) [] h = refl
take-front (suc n) (suc m) (b ∷ bytes) h = ap (λ l. b ∷ l) (take-front n m bytes (omega arith))

-- where the run is empty the first byte fails
pub no_run : (test : ℕ → Bool) (n : ℕ) (bytes : List ℕ) → 0 < n → 0 < length bytes
    → prefix_len test (take n bytes) ≡ 0
    → (b : ℕ) × (rest : List ℕ) × (bytes ≡ b ∷ rest) × (test b ≡ false)
no_run test n [] some none e = absurd (omega arith)
no_run test zero (b ∷ bytes) none some e = absurd (omega arith)
no_run test (suc n) (b ∷ bytes) h k e = (b, bytes, refl, on (test b) e)
  where
    on : (t : Bool) → cond t (1 + prefix_len test (take n bytes)) 0 ≡ 0 → t ≡ false
    on true e = absurd (omega (arith, e))
    on false e = refl

module _ (test : ℕ → Bool) (bytes : List ℕ) (most room run : ℕ)
    (room_is : room ≡ min (length bytes) most)
    (run_is : run ≡ prefix_len test (take room bytes)) where
  -- the run lies in the room, and the room in the bytes
  pub run_in_room : run ≤ room
  run_in_room =
      omega (arith, run_is, prefix_len-le-length test (take room bytes), length-take room bytes)

  pub run_in_bytes : run ≤ length bytes
  run_in_bytes = let inside = run_in_room in omega (arith, room_is)

  pub run_at_most : run ≤ most
  run_at_most = let inside = run_in_room in omega (arith, room_is)

  pub run_is_all : IsTrue (list_all test (take run bytes))
  run_is_all = ap (list_all test) (sym (take-front run room bytes run_in_room))
      ∙ ap (λ n. list_all test (take n (take room bytes))) run_is
      ∙ run_passes test (take room bytes)

-- the front of a room of which a later part was written
pub take-part : (count more : ℕ) (room part : List ℕ) → count ≤ length room → more ≤ length part
    → take (count + more) (put_mid count (length room - count) room part) ≡ take count room
    ++ take more part
take-part count more room part in_room fits =
    let rest = drop (length room - count) (drop count room) in
    ap (λ n. take (n + more) (take count room ++ (part ++ rest)))
    (sym (length-take-le count room in_room))
    ∙ take-append-add (take count room) (part ++ rest) more ∙ ap (λ l. take count room ++ l)
    (take-append-le more part rest fits)
