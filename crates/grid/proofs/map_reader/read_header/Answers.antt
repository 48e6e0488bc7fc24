-- The four lines of the header, one after another.
use Rattle.std.proofs.Common.{◌≤◌, [], ◌∷◌, refl, subst}
use Rattle.std.proofs.lemmas.Result.{err_from_is_err_and}
use Rattle.grid.specs.declared.header_line.HeaderLine.TheVariants.{TypeLine, HeightLine, WidthLine, MapLine}
use Rattle.grid.specs.MapFault.{type_due, height_due, width_due, map_due, rows_due}
use Rattle.grid.specs.Code.Following.{SaysNoSize}
use Rattle.grid.proofs.TakenLines.{StopsReading-after, TakesRight-line, TakesRight-append}
use Rattle.grid.proofs.HeaderJudged.{height_fault, width_fault, says_size, height_follows, width_size, width_follows}
use Rattle.grid.proofs.HeaderTaken.{type_fault, map_fault, words_stop, size_stop, type_right, map_right}
use Rattle.grid.proofs.map_reader.read_header.Goals as goal

pub returns-in_err-read_words : goal.returns-in_err-read_words
returns-in_err-read_words g c =
    let p = err_from_is_err_and c.from_residual.result c.from_residual.ensures.1 in
    rw (p.1, p.2) (words_stop g.R.Read.remaining _ _ type_due TypeLine 0 1 c.in_err-read_words.field-0.0 (λ line is_line. is_line) (λ line. type_fault line 1) refl
    c.in_err-read_words.ensures)

pub returns-in_err-height : goal.returns-in_err-height
returns-in_err-height g c =
    let p = err_from_is_err_and c.from_residual-in_err-height.result c.from_residual-in_err-height.ensures.1 in
    let first = type_right g.R.Read.remaining _ _ c.in_ok-read_words.ensures.0 c.in_ok-read_words.ensures.1 c.in_ok-read_words.ensures.2 in
    rw (p.1, p.2) (StopsReading-after g.R.Read.remaining _ _ _ type_due height_due (c.in_ok-read_words.ensures.0 ∷ []) 0 1 c.in_err-height.field-0.0 refl first
    (size_stop g.R.Read.remaining _ _ height_due HeightLine 65535 1 2 (λ line is_line. is_line) (λ line f. height_fault line 2 f) refl c.in_err-height.field-0.0
    c.in_err-height.ensures))

pub returns-in_err-width : goal.returns-in_err-width
returns-in_err-width g c =
    let p = err_from_is_err_and c.from_residual-in_err-width.result c.from_residual-in_err-width.ensures.1 in
    let first = type_right g.R.Read.remaining _ _ c.in_ok-read_words.ensures.0 c.in_ok-read_words.ensures.1 c.in_ok-read_words.ensures.2 in
    let h = c.in_ok-height.height in
    let second = TakesRight-line g.R.Read.remaining _ _ height_due (width_due h) c.in_ok-height.ensures.2 c.in_ok-height.ensures.3
    (height_follows c.in_ok-height.ensures.2 h c.in_ok-height.ensures.4 c.in_ok-height.ensures.0 c.in_ok-height.ensures.1)
    (says_size HeightLine c.in_ok-height.ensures.2 h c.in_ok-height.ensures.4) in
    let two = TakesRight-append g.R.Read.remaining _ _ _ type_due height_due (width_due h) (c.in_ok-read_words.ensures.0 ∷ []) (c.in_ok-height.ensures.2 ∷ []) first second in
    rw (p.1, p.2) (StopsReading-after g.R.Read.remaining _ _ _ type_due (width_due h) (c.in_ok-read_words.ensures.0 ∷ c.in_ok-height.ensures.2 ∷ []) 0 2
    c.in_err-width.field-0.0 refl two
    (size_stop g.R.Read.remaining _ _ (width_due h) WidthLine c.min.result 2 3 (λ line is_line. is_line)
    (λ line f place over says. width_fault line h 3 f place over c.in_ok-height.ensures.0 (subst (λ most. SaysNoSize WidthLine most 3 line f) c.min.ensures says))
    refl c.in_err-width.field-0.0 c.in_err-width.ensures))

pub returns-in_err-read_words-2 : goal.returns-in_err-read_words-2
returns-in_err-read_words-2 g c =
    let p = err_from_is_err_and c.from_residual-in_err-read_words-2.result c.from_residual-in_err-read_words-2.ensures.1 in
    let first = type_right g.R.Read.remaining _ _ c.in_ok-read_words.ensures.0 c.in_ok-read_words.ensures.1 c.in_ok-read_words.ensures.2 in
    let h = c.in_ok-height.height in
    let second = TakesRight-line g.R.Read.remaining _ _ height_due (width_due h) c.in_ok-height.ensures.2 c.in_ok-height.ensures.3
    (height_follows c.in_ok-height.ensures.2 h c.in_ok-height.ensures.4 c.in_ok-height.ensures.0 c.in_ok-height.ensures.1)
    (says_size HeightLine c.in_ok-height.ensures.2 h c.in_ok-height.ensures.4) in
    let two = TakesRight-append g.R.Read.remaining _ _ _ type_due height_due (width_due h) (c.in_ok-read_words.ensures.0 ∷ []) (c.in_ok-height.ensures.2 ∷ []) first second in
    let w = c.in_ok-width.width in
    let size = width_size w h c.in_ok-width.ensures.0 (subst (λ most. w ≤ most) c.min.ensures c.in_ok-width.ensures.1) c.in_ok-height.ensures.0 c.in_ok-height.ensures.1 in
    let follows = width_follows c.in_ok-width.ensures.2 w h c.in_ok-width.ensures.4 size in
    let third = TakesRight-line g.R.Read.remaining _ _ (width_due h) (map_due w h) c.in_ok-width.ensures.2 c.in_ok-width.ensures.3 follows
    (says_size WidthLine c.in_ok-width.ensures.2 w c.in_ok-width.ensures.4) in
    let three = TakesRight-append g.R.Read.remaining _ _ _ type_due (width_due h) (map_due w h) (c.in_ok-read_words.ensures.0 ∷ c.in_ok-height.ensures.2 ∷ [])
    (c.in_ok-width.ensures.2 ∷ []) two third in
    rw (p.1, p.2) (StopsReading-after g.R.Read.remaining _ _ _ type_due (map_due w h)
    (c.in_ok-read_words.ensures.0 ∷ c.in_ok-height.ensures.2 ∷ c.in_ok-width.ensures.2 ∷ []) 0 3 c.in_err-read_words-2.field-0.0 refl three
    (words_stop g.R.Read.remaining _ _ (map_due w h) MapLine 3 4 c.in_err-read_words-2.field-0.0 (λ line is_line. is_line) (λ line. map_fault w h line 4) refl
    c.in_err-read_words-2.ensures))

pub returns : goal.returns
returns g c =
    let first = type_right g.R.Read.remaining _ _ c.in_ok-read_words.ensures.0 c.in_ok-read_words.ensures.1 c.in_ok-read_words.ensures.2 in
    let h = c.in_ok-height.height in
    let second = TakesRight-line g.R.Read.remaining _ _ height_due (width_due h) c.in_ok-height.ensures.2 c.in_ok-height.ensures.3
    (height_follows c.in_ok-height.ensures.2 h c.in_ok-height.ensures.4 c.in_ok-height.ensures.0 c.in_ok-height.ensures.1)
    (says_size HeightLine c.in_ok-height.ensures.2 h c.in_ok-height.ensures.4) in
    let two = TakesRight-append g.R.Read.remaining _ _ _ type_due height_due (width_due h) (c.in_ok-read_words.ensures.0 ∷ []) (c.in_ok-height.ensures.2 ∷ []) first second in
    let w = c.in_ok-width.width in
    let size = width_size w h c.in_ok-width.ensures.0 (subst (λ most. w ≤ most) c.min.ensures c.in_ok-width.ensures.1) c.in_ok-height.ensures.0 c.in_ok-height.ensures.1 in
    let follows = width_follows c.in_ok-width.ensures.2 w h c.in_ok-width.ensures.4 size in
    let third = TakesRight-line g.R.Read.remaining _ _ (width_due h) (map_due w h) c.in_ok-width.ensures.2 c.in_ok-width.ensures.3 follows
    (says_size WidthLine c.in_ok-width.ensures.2 w c.in_ok-width.ensures.4) in
    let three = TakesRight-append g.R.Read.remaining _ _ _ type_due (width_due h) (map_due w h) (c.in_ok-read_words.ensures.0 ∷ c.in_ok-height.ensures.2 ∷ [])
    (c.in_ok-width.ensures.2 ∷ []) two third in
    let fourth = map_right g.R.Read.remaining _ _ w h c.in_ok-read_words-2.ensures.0 c.in_ok-read_words-2.ensures.1 c.in_ok-read_words-2.ensures.2 in (
      size,
      c.in_ok-read_words.ensures.0 ∷ c.in_ok-height.ensures.2 ∷ c.in_ok-width.ensures.2 ∷ c.in_ok-read_words-2.ensures.0 ∷ [],
      refl,
      TakesRight-append g.R.Read.remaining _ _ _ type_due (map_due w h) (rows_due w h) (c.in_ok-read_words.ensures.0 ∷ c.in_ok-height.ensures.2 ∷ c.in_ok-width.ensures.2 ∷ [])
          (c.in_ok-read_words-2.ensures.0 ∷ []) three fourth,
    )
