-- What was put of rows is written, and how the command ends by that.
use Rattle.std.proofs.Common.{◌≡◌, ◌∙◌, ℕ, Bool, true, false, List, [], ◌++◌, length, take, Option, Result, Ok, Err, ap, arith, inl, inr, refl, sym, subst}
use Rattle.std.proofs.KnownBytes.{Appends-nil}
use Rattle.std.proofs.Math.Seq.{take-length}
use Rattle.text_io.specs.Laws.Putting.{Breaks-after, Puts-trans, sink_written}
use Rattle.text_io.specs.Sink.{Breaks, Puts, held_back, sink_writer}
use Rattle.text_io.specs.declared.counted.Counted.{Counted}
use Rattle.text_io.specs.declared.sink.Sink.{Sink}
use Rattle.scenario.specs.Query.{Query}
use Rattle.text_commands.specs.declared.row_line.RowLine.{RowLine}
use Rattle.text_commands.specs.declared.rows_fault.RowsFault.{RowsFault}
use Rattle.text_commands.specs.declared.rows_fault.RowsFault.TheVariants.{Row, WriteFailed}
use Rattle.text_commands.specs.declared.tally.Tally.{Tally}
use Rattle.text_commands.specs.Code.Judging.{HavePut, Judgement, PutsAllRows}
use Rattle.text_commands.specs.Code.RowsEnding.{EndsAsTold, WritesRows}
use Rattle.text_commands.specs.Code.Tallies.{IsTally, tally_line, tally_status}
use Rattle.ending.specs.Ending.{End, answered_with}
use Rattle.text_commands.specs.RowsCommand.{AreRowLines, EndsByJudging, ShowsProgress, numbered_lines, rows_last_line, rows_status, rows_text}

-- ---- the last line

last_line_is : (straight : Bool) (lines : List RowLine) (t : Tally) → IsTally lines t → tally_line straight t ≡ rows_last_line straight lines
last_line_is true lines t is = rw (is.rows, is.total, is.greatest, is.unreachable, is.size) refl
last_line_is false lines t is = rw (is.rows, is.agree, is.differ, is.unreachable, is.size) refl

status_is : (straight : Bool) (lines : List RowLine) (t : Tally) → IsTally lines t → tally_status t ≡ rows_status straight lines
status_is straight lines t is = rw (is.differ, is.unreachable, is.size) refl

module _ {W : Type 0} (contents : W → Option (List ℕ)) (j : Judgement) (queries : List Query) (number : ℕ) where
  whole_text : (straight : Bool) (lines : List RowLine) (t : Tally) → j.straight ≡ straight → IsTally lines t
      → numbered_lines number lines ++ tally_line straight t ≡ rows_text j.straight number lines
  whole_text straight lines t same is =
      ap (λ last. numbered_lines number lines ++ last) (last_line_is straight lines t is ∙ ap (λ s. rows_last_line s lines) (sym same))

  pub all_put : (straight : Bool) (old mid new : Sink W) (t : Tally) → j.straight ≡ straight → HavePut contents j queries number old mid t
      → Puts contents mid new (tally_line straight t) → held_back new ≡ [] → PutsAllRows contents j queries number old new (Ok t)
  all_put straight old mid new t same put last handed = (
    put.lines,
    put.are_lines,
    put.is_tally,
    subst (Puts contents old new) (whole_text straight put.lines t same put.is_tally) (Puts-trans contents old mid new _ _ put.puts last),
    handed,
  )

  pub last_broken : (straight : Bool) (old mid new : Sink W) (t : Tally) → j.straight ≡ straight → HavePut contents j queries number old mid t
      → Breaks contents mid new (tally_line straight t) → PutsAllRows contents j queries number old new (Err WriteFailed)
  last_broken straight old mid new t same put breaks = inr (
    put.lines,
    put.are_lines,
    subst (Breaks contents old new) (whole_text straight put.lines t same put.is_tally) (Breaks-after contents old mid new _ _ put.puts breaks),
  )

  -- ---- what was put on a sink of its own is written

  pub rows_same_writer : (first last : Sink W) (r : Result Tally RowsFault) → PutsAllRows contents j queries number first last r
      → last.writer.ghost_name ≡ first.writer.ghost_name
  rows_same_writer first last (Ok t) put = put.3.same_writer
  rows_same_writer first last (Err (Row fault)) put = put.3.puts.same_writer
  rows_same_writer first last (Err WriteFailed) (inl broken) = broken.3.same_writer
  rows_same_writer first last (Err WriteFailed) (inr broken) = broken.2.same_writer

  module _ (first last : Sink W) (old new : Counted W) (begun : sink_writer first ≡ old) (none : held_back first ≡ []) (ended : new ≡ sink_writer last) where
    pub rows_written : (r : Result Tally RowsFault) → PutsAllRows contents j queries number first last r → WritesRows contents j queries number old new r
    rows_written (Ok t) put = (put.0, put.1, put.2, sink_written {E = RowsFault} contents first last old new _ (Ok tt) begun none ended put.3 put.4 tt)
    rows_written (Err (Row fault)) put =
        (put.0, put.3.lines, put.2, put.3.are_lines, put.4, put.5, sink_written {E = RowsFault} contents first last old new _ (Ok tt) begun none ended put.3.puts put.3.none_held tt)
    rows_written (Err WriteFailed) (inl broken) =
        inl (broken.0, broken.1, broken.2, sink_written {E = RowsFault} contents first last old new _ (Err WriteFailed) begun none ended tt tt broken.3)
    rows_written (Err WriteFailed) (inr broken) =
        inr (broken.0, broken.1, sink_written {E = RowsFault} contents first last old new _ (Err WriteFailed) begun none ended tt tt broken.2)

  -- ---- how the command ends

  all_taken : (lines : List RowLine) → AreRowLines j.straight j.map queries lines → AreRowLines j.straight j.map (take (length queries) queries) lines
  all_taken lines are = subst (λ qs. AreRowLines j.straight j.map qs lines) (sym (take-length queries)) are

  pub rows_end : (old new : Counted W) (r : Result Tally RowsFault) (end : End) → WritesRows contents j queries number old new r → EndsAsTold r end
      → EndsByJudging contents j.straight j.map queries number old new end
  rows_end old new (Ok t) end wrote is = record {
    done = length queries;
    lines = wrote.0;
    are_lines = all_taken wrote.0 wrote.1;
    ends = inl (omega arith, inl (is ∙ ap answered_with (status_is j.straight wrote.0 t wrote.2), wrote.3));
  }
  rows_end old new (Err (Row fault)) end wrote is = record {
    done = wrote.0;
    lines = wrote.1;
    are_lines = wrote.3;
    ends = inr (inr (wrote.2, fault, wrote.4, wrote.5, is, wrote.6));
  }
  rows_end old new (Err WriteFailed) end (inl wrote) is = record {
    done = wrote.0;
    lines = wrote.1;
    are_lines = wrote.2;
    ends = inr (inl (is, wrote.3));
  }
  rows_end old new (Err WriteFailed) end (inr wrote) is = record {
    done = length queries;
    lines = wrote.0;
    are_lines = all_taken wrote.0 wrote.1;
    ends = inl (omega arith, inr (is, wrote.2));
  }
