-- What is read piece by piece stands in the buffer, one piece behind another.
use Rattle.std.proofs.Common.{ℕ, ◌+◌, ◌-◌, ◌≤◌, List, ◌++◌}
use Rattle.std.proofs.Common.{length, take, sym, subst, arith, length-append}
use Rattle.std.specs.Prelude.{Option}
use Rattle.std.specs.Io.KnownBytes.{Consumes}
use Rattle.std.proofs.KnownBytes.{Consumes-trans}
use Rattle.std.proofs.lemmas.List.{length-take-le}
use Rattle.text_io.specs.Laws.Runs.{take-part}
use borrow.Rule.Slice.PartMut.{put_mid, post_of}

-- a piece is read behind those before it
pub reads_more : (old mid new : Option (List ℕ)) (count more : ℕ) (room part : List ℕ)
    → count ≤ length room → more ≤ length part
    → Consumes old mid (take count room) → Consumes mid new (take more part)
    → Consumes old new (take (count + more) (put_mid count (length room - count) room part))
reads_more old mid new count more room part in_room fits before now =
    subst (Consumes old new) (sym (take-part count more room part in_room fits))
    (Consumes-trans old mid new _ _ before now)

-- so many bytes are in the buffer
pub within_more : (count more : ℕ) (room part : List ℕ) → count ≤ length room → more ≤ length part
    → count + more ≤ length (put_mid count (length room - count) room part)
within_more count more room part in_room fits =
    let rest = post_of count (length room - count) room in
    omega (
      arith,
      length-append (take count room) (part ++ rest),
      length-append part rest,
      length-take-le count room in_room,
      fits,
    )
