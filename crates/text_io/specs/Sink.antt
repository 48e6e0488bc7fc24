-- What a sink of bytes holds back, and what a call on it hands on.
use Rattle.std.specs.Prelude.{◌≡◌, ℕ, List, ◌++◌, take, Option}
use Rattle.std.specs.Io.KnownBytes.{Appends}
use Rattle.text_io.specs.declared.counted.Counted.{Counted}
use Rattle.text_io.specs.declared.sink.Sink.{Sink}
use Rattle.text_io.specs.Counted.{Rises}

-- the bytes that were put and not yet handed on
abbrev pub held_back : {W : Type 0} → Sink W → List ℕ
held_back s = take s.piece.len s.piece.bytes

-- the counted writer behind the sink
abbrev pub sink_writer : {W : Type 0} → Sink W → Counted W
sink_writer s = s.writer.now

-- From old to new the bytes were put behind those held back, and none was lost.
pub record Puts {W : Type 0} (contents : W → Option (List ℕ)) (old new : Sink W)
    (bytes : List ℕ) : Type 0 where
  pub same_writer : new.writer.ghost_name ≡ old.writer.ghost_name
  pub sent : List ℕ
  pub appended : Appends (contents (sink_writer old).inner) (contents (sink_writer new).inner) sent
  pub in_order : held_back old ++ bytes ≡ sent ++ held_back new
  pub failures : (sink_writer new).failures ≡ (sink_writer old).failures

-- From old to new the writer failed, and took a beginning of what was held back and these bytes.
pub record Breaks {W : Type 0} (contents : W → Option (List ℕ)) (old new : Sink W)
    (bytes : List ℕ) : Type 0 where
  pub same_writer : new.writer.ghost_name ≡ old.writer.ghost_name
  pub sent : List ℕ
  pub appended : Appends (contents (sink_writer old).inner) (contents (sink_writer new).inner) sent
  pub rest : List ℕ
  pub begins : held_back old ++ bytes ≡ sent ++ rest
  pub failures : Rises (sink_writer old).failures (sink_writer new).failures

-- From first to now a beginning of the text was put, and this is left of it.
pub record Leaves {W : Type 0} (contents : W → Option (List ℕ)) (first now : Sink W)
    (text left : List ℕ) : Type 0 where
  pub done : List ℕ
  pub puts : Puts contents first now done
  pub whole : done ++ left ≡ text
