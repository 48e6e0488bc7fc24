-- How a file is read piece by piece.
use Rattle.std.proofs.Common.{◌≡◌, ℕ, ◌≤◌, List, ◌++◌, length, take, sym, ap, ◌∙◌, arith}
use Rattle.std.specs.Prelude.{min}
use Rattle.std.proofs.Math.Seq.{take-append_seam}
use Rattle.std.proofs.lemmas.List.{length-take-le, take-take, take_min}
use Rattle.agent.specs.Tape.{TapeState}

-- the part of what was read that there is room for, in a buffer that has its vector's length
pub read_front : (room len size : ℕ) (bytes rest : List ℕ) → len ≤ length bytes → size ≡ length bytes
    → take (min room len) (take size (bytes ++ rest)) ≡ take room (take len bytes)
read_front room len size bytes rest within whole =
    let some : min room len ≤ len = omega arith in
    ap (take (min room len)) (ap (λ n. take n (bytes ++ rest)) whole ∙ take-append_seam bytes rest)
    ∙ sym (take-take (min room len) len bytes some)
    ∙ ap (λ n. take (min room n) (take len bytes)) (sym (length-take-le len bytes within))
    ∙ take_min room (take len bytes)

-- a tape that was made of the front of the bytes
pub made_of : (made : TapeState) (front bytes : List ℕ) (room : ℕ) → made ≡ record { contents = front; room = room; failures = 0 } → front ≡ take room bytes
    → record made { failures = 0 } ≡ record { contents = take room bytes; room = room; failures = 0 }
made_of made front bytes room is same =
    let without : TapeState → TapeState = λ s. record s { failures = 0 } in
    let of : List ℕ → TapeState = λ l. record { contents = l; room = room; failures = 0 } in
    ap without is ∙ ap of same
