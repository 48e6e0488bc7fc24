-- How far the calls that put a row have come with its line, and those that put its listed length.
use Rattle.std.proofs.Common.{◌≡◌, ℕ, ◌^◌, ◌/◌, ◌<◌, List, [], ◌∷◌, ◌++◌, refl, ap, ◌∙◌, append_assoc}
use Rattle.std.specs.Prelude.{Option, decimal}
use Rattle.std.specs.List.{flat_map}
use Rattle.text_io.specs.declared.sink.Sink.{Sink}
use Rattle.text_io.specs.Sink.{Puts, Leaves}
use Rattle.text_io.specs.Text.{tab, line_feed}
use Rattle.scenario.specs.Query.{Query, point, last_digits, listed_text, row_line}
use Rattle.scenario.proofs.DigitLemmas.{listed_text-some}
use Rattle.text_io.specs.Laws.Putting.{Leaves-all, Leaves-less}

-- numbers as fields, each behind a tab
abbrev pub number_fields : List ℕ → List ℕ
number_fields numbers = flat_map (λ n. tab ∷ decimal n) numbers

-- the numbers behind the name
abbrev pub sizes_and_cells : Query → List ℕ
sizes_and_cells q = q.width ∷ q.height ∷ q.start.x ∷ q.start.y ∷ q.goal.x ∷ q.goal.y ∷ []

-- a row's line with its LF, and what it is from a field on
abbrev pub ended_line : Query → List ℕ
ended_line q = row_line q ++ line_feed ∷ []

abbrev pub from_listed : Query → List ℕ
from_listed q = listed_text q.listed q.decimals ++ line_feed ∷ []

abbrev pub from_last_tab : Query → List ℕ
from_last_tab q = (tab ∷ []) ++ from_listed q

abbrev pub from_sizes : Query → List ℕ
from_sizes q = number_fields (sizes_and_cells q) ++ from_last_tab q

abbrev pub from_name : Query → List ℕ
from_name q = (tab ∷ q.name) ++ from_sizes q

-- the same, number by number
abbrev numbers_before : List ℕ → List ℕ → List ℕ
numbers_before [] rest = rest
numbers_before (n ∷ numbers) rest = tab ∷ (decimal n ++ numbers_before numbers rest)

by_number : (numbers rest : List ℕ) → number_fields numbers ++ rest ≡ numbers_before numbers rest
by_number [] rest = refl
by_number (n ∷ numbers) rest =
    ap (λ xs. tab ∷ xs) (append_assoc (decimal n) (number_fields numbers) rest ∙ ap (λ xs. decimal n ++ xs) (by_number numbers rest))

ended_line-parts : (q : Query) → decimal q.bucket ++ from_name q ≡ ended_line q
ended_line-parts q = ap (λ xs. decimal q.bucket ++ ((tab ∷ q.name) ++ xs)) (by_number (sizes_and_cells q) (from_last_tab q)) ∙ simp append_assoc

module _ {W : Type 0} (contents : W → Option (List ℕ)) (q : Query) where
  -- nothing is put yet
  pub row-begins : (first : Sink W) → Leaves contents first first (ended_line q) (decimal q.bucket ++ from_name q)
  row-begins first = Leaves-all contents first (ended_line q) _ (ended_line-parts q)

  -- the bucket is put
  pub bucket-put : (first now : Sink W) (bucket : List ℕ) → bucket ≡ decimal q.bucket → Puts contents first now bucket → Leaves contents first now (ended_line q) (from_name q)
  bucket-put first now bucket e p = Leaves-less contents first first now (ended_line q) (decimal q.bucket) (from_name q) _ (row-begins first) e p

  -- and the name
  pub name-put : (first mid now : Sink W) (name : List ℕ) → Leaves contents first mid (ended_line q) (from_name q) → name ≡ q.name
      → Puts contents mid now (tab ∷ name) → Leaves contents first now (ended_line q) (from_sizes q)
  name-put first mid now name h e p =
      Leaves-less contents first mid now (ended_line q) (tab ∷ q.name) (from_sizes q) _ h (ap (λ xs. tab ∷ xs) e) p

  -- and the size and both cells
  pub sizes-put : (first mid now : Sink W) (numbers : List ℕ) → Leaves contents first mid (ended_line q) (from_sizes q)
      → numbers ≡ sizes_and_cells q → Puts contents mid now (number_fields numbers) → Leaves contents first now (ended_line q) (from_last_tab q)
  sizes-put first mid now numbers h e p =
      Leaves-less contents first mid now (ended_line q) (number_fields (sizes_and_cells q)) (from_last_tab q) _ h (ap number_fields e) p

  -- and the last tab
  pub tab-put : (first mid now : Sink W) → Leaves contents first mid (ended_line q) (from_last_tab q) → Puts contents mid now (tab ∷ [])
      → Leaves contents first now (ended_line q) (from_listed q)
  tab-put first mid now h p = Leaves-less contents first mid now (ended_line q) (tab ∷ []) (from_listed q) _ h refl p

  -- and the listed length
  pub listed-put : (first mid now : Sink W) (n d : ℕ) → Leaves contents first mid (ended_line q) (from_listed q) → n ≡ q.listed → d ≡ q.decimals
      → Puts contents mid now (listed_text n d) → Leaves contents first now (ended_line q) (line_feed ∷ [])
  listed-put first mid now n d h e k p =
      Leaves-less contents first mid now (ended_line q) (listed_text q.listed q.decimals) (line_feed ∷ []) _ h
      (ap (λ m. listed_text m d) e ∙ ap (listed_text q.listed) k) p

-- the point, and the decimals behind it
abbrev pub from_point : ℕ → ℕ → List ℕ
from_point n d = (point ∷ []) ++ last_digits d n

module _ {W : Type 0} (contents : W → Option (List ℕ)) (n d : ℕ) where
  -- the whole part is put, and decimals are left
  pub whole-put : (first now : Sink W) (bytes : List ℕ) → bytes ≡ decimal (n / 10 ^ d) → 0 < d → Puts contents first now bytes
      → Leaves contents first now (listed_text n d) (from_point n d)
  whole-put first now bytes e some p =
      Leaves-less contents first first now (listed_text n d) (decimal (n / 10 ^ d)) (from_point n d) bytes
      (Leaves-all contents first (listed_text n d) _ (listed_text-some n d some)) e p
