-- HMAC-SHA-256 (RFC 2104): the tag of a text by a key.
use Rattle.std.specs.Prelude.{ℕ, ◌-◌, if◌then◌else◌, nat_lt, List, ◌++◌, length, map, replicate}
use Rattle.std.specs.Prelude.{bit_xor}
use Rattle.sha2.specs.Sha256.{sha256}

-- bytes with zeros behind them, as many as a block of the hash has
abbrev pub padded : List ℕ → List ℕ
padded bytes = bytes ++ replicate (64 - length bytes) 0

-- a key as a block: of one that is longer, its digest
abbrev pub block_of : List ℕ → List ℕ
block_of key = padded (if nat_lt 64 (length key) then sha256 key else key)

-- each byte of them with this one, bit by bit
abbrev pub masked : ℕ → List ℕ → List ℕ
masked mask bytes = map (λ b. bit_xor b mask) bytes

abbrev pub hmac : (key text : List ℕ) → List ℕ
hmac key text = sha256 (masked 92 (block_of key) ++ sha256 (masked 54 (block_of key) ++ text))
