-- Behind the bytes the zeros are left.
use Rattle.std.proofs.Common.{ℕ, List, ◌++◌, ◌∙◌, length, drop, ap}
use Rattle.std.specs.Prelude.{replicate}
use Rattle.std.proofs.lemmas.List.{drop-replicate}
use Rattle.signing.proofs.hmac.padded.Goals as goal

pub returns : goal.returns
returns c =
    let bytes = c.args.bytes.now in
    let zeros : List ℕ = drop (length bytes) (replicate 64 0) in
    ap (λ front. front ++ zeros) c.copy_from_slice.ensures.after ∙ ap (λ rest. bytes ++ rest) (drop-replicate (length bytes) 64 0)
