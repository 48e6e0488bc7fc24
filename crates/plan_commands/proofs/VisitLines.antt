-- The line of a visit tells the visit, and the text of visits tells their list.
use Rattle.std.proofs.Common.{◌≡◌, ℕ, ◌^◌, ◌<◌, true, false, not, List, [], ◌∷◌, ◌++◌, map, refl, sym, ap, ◌∙◌, arith, codes}
use Rattle.std.specs.Prelude.{decimal, ◌==◌}
use Rattle.std.specs.List.{All, AllByRecursion, list_all, slice_split}
use Rattle.std.specs.Str.Parse.{digits_value}
use Rattle.std.proofs.lemmas.Bool.{and_from, and_parts, eq-eqb, not-true}
use Rattle.std.proofs.lemmas.List.Elements.{All-head, All-tail, All-weaker}
use Rattle.std.proofs.lemmas.List.Folds.{list_all-append}
use Rattle.std.proofs.lemmas.List.Splits.{slice_split_at, slice_split_none}
use Rattle.std.proofs.lemmas.List.Sums.{AllPass-from_list_all}
use Rattle.text_io.specs.Text.{space, is_line_byte, lines_of, IsLine, is_part_byte, IsPart}
use Rattle.text_io.specs.Laws.Lines.{lines_of-all}
use Rattle.model.specs.declared.visit.Visit.{Visit}
use Rattle.text_io.specs.Laws.Numerals.{decimal-IsNumeral}
use Rattle.text_io.specs.Laws.Parts.{decimal-is_part, IsLine-part}
use Rattle.plan_commands.specs.CellVisitsText.{IsVisitWithinWidths, visit_line, visits_text}

-- ---- one line

no_space : (bytes : List ℕ) → IsPart bytes → All (λ b. (b == space) ≡ false) bytes
no_space bytes h =
    All-weaker (λ b. is_part_byte b ≡ true) (λ b. (b == space) ≡ false)
    (λ b k. not-true (b == space) (and_parts (not (b == space)) (is_line_byte b) k).0) bytes
    (AllPass-from_list_all is_part_byte bytes h)

-- a number of 32 bits fits one of 64
abbrev Fits : ℕ → Type 0
Fits n = n < 2 ^ 64

record AreFitting (v : Visit) : Type 0 where
  agent : Fits v.agent
  index : Fits v.index
  time : Fits v.time

fitting : (v : Visit) → IsVisitWithinWidths v → AreFitting v
fitting v h =
    let agent = h.agent in
    let index = h.index in
    let time = h.time in
    record { agent = omega (arith, agent); index = omega (arith, index); time = omega (arith, time) }

-- the line, cut at its spaces
parts : (v : Visit) → AreFitting v → slice_split (λ b. b == space) (visit_line v) ≡ codes "visit" ∷ decimal v.agent ∷ decimal v.index ∷ decimal v.time ∷ []
parts v h =
    let same : (space == space) ≡ true = eq-eqb space space refl in
    slice_split_at (λ b. b == space) (codes "visit") space (decimal v.agent ++ (space ∷ (decimal v.index ++ (space ∷ decimal v.time)))) (no_space (codes "visit") refl) same
    ∙ ap (λ xs. codes "visit" ∷ xs) (slice_split_at (λ b. b == space) (decimal v.agent) space (decimal v.index ++ (space ∷ decimal v.time))
    (no_space (decimal v.agent) (decimal-is_part v.agent h.agent)) same
    ∙ ap (λ xs. decimal v.agent ∷ xs) (slice_split_at (λ b. b == space) (decimal v.index) space (decimal v.time) (no_space (decimal v.index) (decimal-is_part v.index h.index)) same
    ∙ ap (λ xs. decimal v.index ∷ xs) (slice_split_none (λ b. b == space) (decimal v.time) (no_space (decimal v.time) (decimal-is_part v.time h.time)))))

same_number : (m n : ℕ) → Fits m → Fits n → decimal m ≡ decimal n → m ≡ n
same_number m n fits also same = sym (decimal-IsNumeral m fits).spells.2 ∙ (ap (λ ds. digits_value 10 ds) same ∙ (decimal-IsNumeral n also).spells.2)

same_visit : (v w : Visit) → AreFitting v → AreFitting w → visit_line v ≡ visit_line w → v ≡ w
same_visit v w h k e =
    let both : codes "visit" ∷ decimal v.agent ∷ decimal v.index ∷ decimal v.time ∷ [] ≡ codes "visit" ∷ decimal w.agent ∷ decimal w.index ∷ decimal w.time ∷ []
    = sym (parts v h) ∙ (ap (slice_split (λ b. b == space)) e ∙ parts w k) in
    let agent : decimal v.agent ≡ decimal w.agent = cc in
    let index : decimal v.index ≡ decimal w.index = cc in
    let time : decimal v.time ≡ decimal w.time = cc in
    ap {A = ℕ} {B = Visit} (λ n. record { agent = n; index = v.index; time = v.time }) (same_number v.agent w.agent h.agent k.agent agent)
    ∙ (ap {A = ℕ} {B = Visit} (λ n. record { agent = w.agent; index = n; time = v.time }) (same_number v.index w.index h.index k.index index)
    ∙ ap {A = ℕ} {B = Visit} (λ n. record { agent = w.agent; index = w.index; time = n }) (same_number v.time w.time h.time k.time time))

IsLine-append : (xs ys : List ℕ) → IsLine xs → IsLine ys → IsLine (xs ++ ys)
IsLine-append xs ys h k = list_all-append is_line_byte xs ys ∙ and_from (list_all is_line_byte xs) _ h k

number-is_line : (n : ℕ) → Fits n → IsLine (decimal n)
number-is_line n fits = IsLine-part (decimal n) (decimal-is_part n fits)

visit_line-is_line : (v : Visit) → AreFitting v → IsLine (visit_line v)
visit_line-is_line v h =
    IsLine-append (codes "visit") (space ∷ (decimal v.agent ++ (space ∷ (decimal v.index ++ (space ∷ decimal v.time))))) refl
    (IsLine-append (decimal v.agent) (space ∷ (decimal v.index ++ (space ∷ decimal v.time))) (number-is_line v.agent h.agent)
    (IsLine-append (decimal v.index) (space ∷ decimal v.time) (number-is_line v.index h.index) (number-is_line v.time h.time)))

-- ---- all lines

are_lines : (visits : List Visit) → All IsVisitWithinWidths visits → AllByRecursion IsLine (map visit_line visits)
are_lines [] h = tt
are_lines (v ∷ visits) h = (visit_line-is_line v (fitting v (All-head IsVisitWithinWidths v visits h)), are_lines visits (All-tail IsVisitWithinWidths v visits h))

same_visits : (visits others : List Visit) → All IsVisitWithinWidths visits → All IsVisitWithinWidths others → map visit_line visits ≡ map visit_line others → visits ≡ others
same_visits [] [] h k e = refl
same_visits [] (w ∷ others) h k e = cc
same_visits (v ∷ visits) [] h k e = cc
same_visits (v ∷ visits) (w ∷ others) h k e =
    let line : visit_line v ≡ visit_line w = cc in
    let rest : map visit_line visits ≡ map visit_line others = cc in
    let first = same_visit v w (fitting v (All-head IsVisitWithinWidths v visits h)) (fitting w (All-head IsVisitWithinWidths w others k)) line in
    ap (λ x. x ∷ visits) first ∙ ap (λ xs. w ∷ xs) (same_visits visits others (All-tail IsVisitWithinWidths v visits h) (All-tail IsVisitWithinWidths w others k) rest)

pub one_reading : (visits others : List Visit) → All IsVisitWithinWidths visits → All IsVisitWithinWidths others → visits_text visits ≡ visits_text others → visits ≡ others
one_reading visits others h k e =
    same_visits visits others h k
    (sym (lines_of-all (map visit_line visits) (are_lines visits h)) ∙ (ap lines_of e ∙ lines_of-all (map visit_line others) (are_lines others k)))
