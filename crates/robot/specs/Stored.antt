-- What a file takes, where it says where it stands and what it holds.
use Rattle.std.specs.Prelude.{◌≡◌, ℕ, List, Option, Some, IfSome}
use Rattle.std.specs.Io.KnownBytes.{Appends, Keeps}

-- The file was sought at a place, before which nothing was written to it, and there it took the
-- bytes, and no others.
pub record TakesAt {F : Type 0} (position : F → Option ℕ) (held contents : F → Option (List ℕ))
    (old : F) (at : ℕ) (bytes : List ℕ) (new : F) : Type 0 where
  pub sought : F
  pub place : IfSome (position old) (λ _. position sought ≡ Some at)
  pub untouched : Keeps (held old) (held sought)
  pub appends : Appends (contents sought) (contents new) bytes

-- it took the bytes at a place, and then it was synced
pub record StoresAt {F : Type 0} (position : F → Option ℕ) (held contents : F → Option (List ℕ))
    (IsSynced : F → F → Type 0) (old : F) (at : ℕ) (bytes : List ℕ) (new : F) : Type 0 where
  pub taken : F
  pub takes : TakesAt position held contents old at bytes taken
  pub synced : IsSynced taken new
