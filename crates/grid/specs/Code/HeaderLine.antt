-- How the reader of a map follows a line of the header, a byte at a time.
use Rattle.std.specs.Prelude.{ℕ, ◌+◌, ◌-◌, ◌*◌, min, ◌==◌, if◌then◌else◌, nat_lt}
use Rattle.std.specs.Prelude.{List, length, slice_index, codes, fold, Option, Some, None}
use Rattle.std.specs.Char.{is_ascii_digit}
use Rattle.grid.specs.declared.header_line.HeaderLine.{HeaderLine}
use Rattle.grid.specs.declared.header_line.HeaderLine.TheVariants.{TypeLine, HeightLine}
use Rattle.grid.specs.declared.header_line.HeaderLine.TheVariants.{WidthLine, MapLine}
use Rattle.grid.specs.declared.header_line.Progress.{Progress}
use Rattle.grid.specs.declared.header_line.Progress.TheVariants.{Word, Gap, GapReturn}
use Rattle.grid.specs.declared.header_line.Progress.TheVariants.{Octile, Number, Tail}
use Rattle.grid.specs.declared.header_line.Progress.TheVariants.{Return, OtherValue, OtherForm}
use Rattle.grid.specs.declared.header_line.Saying.{Saying}
use Rattle.grid.specs.declared.header_line.Saying.TheVariants.{Whole, Size, NoSize, NoForm}
use Rattle.text_io.specs.Text.{carriage_return, is_blank}

-- the word that the line begins with
abbrev pub word_of : HeaderLine → List ℕ
word_of TypeLine = codes "type"
word_of HeightLine = codes "height"
word_of WidthLine = codes "width"
word_of MapLine = codes "map"

-- past what the line says comes a byte that is neither blank nor CR
abbrev pub broken : Option ℕ → Progress
broken None = OtherForm
broken (Some n) = OtherValue

abbrev pub tail_step : Option ℕ → ℕ → Progress
tail_step n b = if is_blank b then Tail n else (if b == carriage_return then Return n else broken n)

abbrev pub octile_step : ℕ → ℕ → Progress
octile_step i b =
    if nat_lt i 6 then
    (if slice_index (codes "octile") i == b then Octile (i + 1) else OtherForm) else
    tail_step None b

-- the number with one more digit; past the greatest size it stays one past it
abbrev pub with_digit : ℕ → ℕ → ℕ
with_digit n b = min (n * 10 + (b - 48)) 65536

abbrev pub size_step : ℕ → Progress
size_step b =
    if is_ascii_digit b then Number (with_digit 0 b) else
    (if b == carriage_return then GapReturn else OtherValue)

abbrev pub after_gap : HeaderLine → ℕ → Progress
after_gap TypeLine b = octile_step 0 b
after_gap HeightLine b = size_step b
after_gap WidthLine b = size_step b
after_gap MapLine b = OtherForm

abbrev pub after_word : HeaderLine → ℕ → Progress
after_word TypeLine b = if is_blank b then Gap else OtherForm
after_word HeightLine b = if is_blank b then Gap else OtherForm
after_word WidthLine b = if is_blank b then Gap else OtherForm
after_word MapLine b = tail_step None b

-- how far the line has come with one more byte
abbrev pub header_step : HeaderLine → Progress → ℕ → Progress
header_step line (Word i) b =
    if nat_lt i (length (word_of line))
    then (if slice_index (word_of line) i == b then Word (i + 1) else OtherForm)
    else after_word line b
header_step line Gap b = if is_blank b then Gap else after_gap line b
header_step line GapReturn b = OtherValue
header_step line (Octile i) b = octile_step i b
header_step line (Number n) b =
    if is_ascii_digit b then Number (with_digit n b) else tail_step (Some n) b
header_step line (Tail n) b = tail_step n b
header_step line (Return n) b = broken n
header_step line OtherValue b = OtherValue
header_step line OtherForm b = OtherForm

abbrev pub tail_saying : Option ℕ → Saying
tail_saying None = Whole
tail_saying (Some n) = Size n

abbrev pub word_saying : HeaderLine → ℕ → Saying
word_saying TypeLine i = NoForm
word_saying HeightLine i = NoForm
word_saying WidthLine i = NoForm
word_saying MapLine i = if i == 3 then Whole else NoForm

-- what the line says where it ends so
abbrev pub saying_at : HeaderLine → Progress → Saying
saying_at line (Word i) = word_saying line i
saying_at line Gap = NoForm
saying_at line GapReturn = NoForm
saying_at line (Octile i) = if i == 6 then Whole else NoForm
saying_at line (Number n) = Size n
saying_at line (Tail n) = tail_saying n
saying_at line (Return n) = tail_saying n
saying_at line OtherValue = NoSize
saying_at line OtherForm = NoForm

-- what the bytes of a line say
abbrev pub saying_of : HeaderLine → List ℕ → Saying
saying_of line bytes = saying_at line (fold (header_step line) (Word 0) bytes)
