-- The rows that the reader of a map takes, one after another.
use Rattle.std.proofs.Common.{◌≡◌, ℕ, zero, suc, ◌+◌, ◌-◌, ◌<◌, false, List, [], ◌∷◌, ◌++◌, length, refl, sym, ap, ◌∙◌, arith, append_assoc, append-nil}
use Rattle.std.specs.Prelude.{Option, IsTrue}
use Rattle.std.specs.List.{list_all, AllByRecursion}
use Rattle.text_io.specs.declared.source.Source.{Source}
use Rattle.grid.specs.declared.map_fault.MapFault.{MapFault}
use Rattle.grid.specs.Terrain.{is_terrain}
use Rattle.text_io.specs.Source.{has_failed}
use Rattle.grid.specs.MapText.{IsRowOf}
use Rattle.grid.specs.MapFault.{rows_due}
use Rattle.text_io.specs.Text.{IsLine}
use Rattle.grid.specs.Code.Following.{TakesLines, StopsReading, TakesRow, HaveRows, MapLeads}
use Rattle.grid.proofs.TakenLines.{TakesLines-append, StopsReading-after, all-append}

-- one row more
pub HaveRows-push : (width : ℕ) (characters : List ℕ) (lines : List (List ℕ)) (row line : List ℕ) → HaveRows width characters lines → length row ≡ width
    → IsTrue (list_all is_terrain row) → IsRowOf row line → HaveRows width (characters ++ row) (lines ++ line ∷ [])
HaveRows-push width characters [] row line none count terrain bytes =
    (row, [], ap (λ l. l ++ row) none ∙ sym (append-nil row), count, terrain, bytes, refl)
HaveRows-push width characters (first ∷ lines) row line (front, rest, e, p, q, r, others) count terrain bytes =
    (front, rest ++ row, ap (λ l. l ++ row) e ∙ append_assoc front rest row, p, q, r, HaveRows-push width rest lines row line others count terrain bytes)

-- rows that were taken are those that were due
pub MapLeads-rows : (width : ℕ) (characters : List ℕ) (lines : List (List ℕ)) (count left : ℕ) → HaveRows width characters lines → count ≡ length lines + left
    → MapLeads (rows_due width count) lines (rows_due width left)
MapLeads-rows width characters [] count left none e = let same : left ≡ count = omega (arith, e) in ap (rows_due width) same
MapLeads-rows width characters (line ∷ lines) zero left rows e = absurd (omega (arith, e))
MapLeads-rows width characters (line ∷ lines) (suc count) left (row, rest, is, p, q, r, others) e =
    (rows_due width count, (record { characters = row; bytes = r; count = p; terrain = q }, refl), MapLeads-rows width rest lines count left others (omega (arith, e)))

module _ {R : Type 0} {ahead : ℕ} (remaining : R → Option (List ℕ)) where
  -- rows and then one row more
  pub TakesRows-push : (old mid new : Source R ahead) (width : ℕ) (characters row : List ℕ) (lines : List (List ℕ)) → AllByRecursion IsLine lines
      → HaveRows width characters lines → TakesLines remaining old mid lines → (next : TakesRow remaining mid new width row)
      → AllByRecursion IsLine (lines ++ next.line ∷ []) × HaveRows width (characters ++ row) (lines ++ next.line ∷ [])
      × TakesLines remaining old new (lines ++ next.line ∷ [])
  TakesRows-push old mid new width characters row lines are_lines rows taken next = (
    all-append IsLine lines (next.line ∷ []) are_lines (next.is_line, tt),
    HaveRows-push width characters lines row next.line rows next.count next.terrain next.bytes,
    TakesLines-append remaining old mid new lines (next.line ∷ []) taken next.taken,
  )

  -- a stop in a row after others
  pub rows_stop : (old mid new : Source R ahead) (width height i skipped passed : ℕ) (characters : List ℕ) (lines : List (List ℕ)) (fault : MapFault)
      → AllByRecursion IsLine lines → HaveRows width characters lines → TakesLines remaining old mid lines → has_failed mid ≡ false
      → length lines ≡ i → i < height → passed ≡ skipped + i
      → ((rows : ℕ) → StopsReading remaining mid new (rows_due width (suc rows)) passed fault)
      → StopsReading remaining old new (rows_due width height) skipped fault
  rows_stop old mid new width height i skipped passed characters lines fault are_lines rows taken well count more e stop =
      let left = height - suc i in
      let whole : height ≡ length lines + suc left = omega (arith, count, more) in
      StopsReading-after remaining old mid new (rows_due width height) (rows_due width (suc left)) lines skipped passed fault (omega (arith, e, count))
      (record { are_lines = are_lines; right = MapLeads-rows width characters lines height (suc left) rows whole; taken = taken; well = well })
      (stop left)
