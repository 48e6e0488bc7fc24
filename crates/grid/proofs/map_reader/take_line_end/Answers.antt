-- After a CR comes the LF or the end, or a byte that makes the CR none of a line end.
use Rattle.std.proofs.Common.{[], ◌∷◌, refl, inl, inr, arith}
use Rattle.text_io.specs.Text.{line_feed, carriage_return}
use Rattle.text_io.specs.Laws.Taking.{Takes-trans, is_line_byte-other, IsAtEnd-from, has_failed-from, Takes-byte}
use Rattle.grid.proofs.map_reader.take_line_end.Goals as goal

pub returns-in-Ok-eq10-next_byte : goal.returns-in-Ok-eq10-next_byte
returns-in-Ok-eq10-next_byte g c =
    let first = Takes-byte g.R.Read.remaining _ _ _ carriage_return c.in-Ok-eq13.field-0-test c.in-Ok-eq13.ensures.0 in
    let second = Takes-byte g.R.Read.remaining _ _ _ line_feed c.in-Ok-eq10-next_byte.field-0-test c.in-Ok-eq10-next_byte.ensures.0 in
    (carriage_return ∷ [], inr refl, inl (Takes-trans g.R.Read.remaining _ _ _ _ _ first second, c.in-Ok-eq10-next_byte.ensures.1))

pub returns-in-Ok-next_byte : goal.returns-in-Ok-next_byte
returns-in-Ok-next_byte g c =
    let first = Takes-byte g.R.Read.remaining _ _ _ carriage_return c.in-Ok-eq13.field-0-test c.in-Ok-eq13.ensures.0 in (
      c.in-Ok-next_byte.field-0,
      is_line_byte-other _ c.in-Ok-next_byte.field-0-test.1,
      c.in-Ok-next_byte.ensures.1,
      inr (Takes-trans g.R.Read.remaining _ _ _ _ _ first c.in-Ok-next_byte.ensures.0),
    )

pub returns-in-Err-End-next_byte : goal.returns-in-Err-End-next_byte
returns-in-Err-End-next_byte g c =
    let first = Takes-byte g.R.Read.remaining _ _ _ carriage_return c.in-Ok-eq13.field-0-test c.in-Ok-eq13.ensures.0 in (
      carriage_return ∷ [],
      inr refl,
      inr (
        Takes-trans g.R.Read.remaining _ _ _ _ [] first c.in-Err-End-next_byte.ensures.0,
        omega arith,
        IsAtEnd-from g.R.Read.remaining _ _ _ c.in-Err-End-next_byte.field-0-is
            c.in-Err-End-next_byte.ensures,
      ),
    )

pub returns-in-Err-Failure-next_byte : goal.returns-in-Err-Failure-next_byte
returns-in-Err-Failure-next_byte g c =
    let first = Takes-byte g.R.Read.remaining _ _ _ carriage_return c.in-Ok-eq13.field-0-test c.in-Ok-eq13.ensures.0 in (
      carriage_return ∷ [],
      inr refl,
      Takes-trans g.R.Read.remaining _ _ _ _ [] first c.in-Err-Failure-next_byte.ensures.0,
      has_failed-from g.R.Read.remaining _ _ _ c.in-Err-Failure-next_byte.field-0-is c.in-Err-Failure-next_byte.ensures,
    )
