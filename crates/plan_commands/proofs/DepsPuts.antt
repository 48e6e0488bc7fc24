-- How far the calls that put the text of a plan's dependencies have come with it.
use Rattle.std.proofs.Common.{◌≡◌, ◌∙◌, ℕ, List, [], ◌∷◌, ◌++◌, length, map, Result, OnOk, OnErr, refl, sym, ap, append_assoc, append-nil}
use Rattle.std.specs.Prelude.{Option, codes, decimal, sum_by}
use Rattle.text_io.specs.declared.sink.Sink.{Sink}
use Rattle.text_io.specs.Sink.{Puts, Breaks, Leaves}
use Rattle.text_io.specs.Text.{space, line_feed, ended, spaced_numbers, separated}
use Rattle.model.specs.declared.visit.Visit.{Visit}
use Rattle.model.specs.Timetable.{Timetable, moves}
use Rattle.depgraph.specs.Rotations.{Turn}
use Rattle.model.specs.Dependency.{Need}
use Rattle.text_io.specs.Laws.Putting.{Leaves-all, Leaves-less, Leaves-broken, Puts-last, Breaks-last}
use Rattle.plan_commands.specs.CellVisitsText.{visit_line}
use Rattle.plan_commands.specs.DepsText.{all_need_lines, counts_line, deps_text, need_line, rotation_line}
use Rattle.text_io.specs.Laws.Words.{joined}
use Rattle.plan_commands.proofs.DepsLemmas.{ended-append}

-- four parts and an LF
abbrev pub four_parts : (a b c d : List ℕ) → List ℕ
four_parts a b c d = a ++ (b ++ (c ++ (d ++ line_feed ∷ [])))

-- a word and a number
abbrev pub said : List ℕ → ℕ → List ℕ
said word n = word ++ decimal n

pub counts-parts : (agents moves needs rotations : ℕ)
    → four_parts (said (codes "agents ") agents) (said (codes " moves ") moves) (said (codes " needs ") needs) (said (codes " rotations ") rotations)
    ≡ counts_line agents moves needs rotations ++ line_feed ∷ []
counts-parts agents moves needs rotations = simp append_assoc

pub need-parts : (agent move : ℕ) (n : Need)
    → codes "need" ++ separated space (agent ∷ move ∷ n.agent ∷ n.count ∷ []) ≡ need_line agent move n
need-parts agent move n = sym (joined (codes "need") (agent ∷ move ∷ n.agent ∷ n.count ∷ []))

pub visit-parts : (v : Visit) → codes "visit" ++ separated space (v.agent ∷ v.index ∷ v.time ∷ []) ≡ visit_line v
visit-parts v = sym (joined (codes "visit") (v.agent ∷ v.index ∷ v.time ∷ []))

-- the same counts
pub counts-same : (agents moves needs rotations a m n r : ℕ) → agents ≡ a → moves ≡ m → needs ≡ n → rotations ≡ r
    → counts_line agents moves needs rotations ++ line_feed ∷ [] ≡ counts_line a m n r ++ line_feed ∷ []
counts-same agents moves needs rotations a m n r e f g h =
    ap (λ x. counts_line x moves needs rotations ++ line_feed ∷ []) e
    ∙ (ap (λ x. counts_line a x needs rotations ++ line_feed ∷ []) f
    ∙ (ap (λ x. counts_line a m x rotations ++ line_feed ∷ []) g ∙ ap (λ x. counts_line a m n x ++ line_feed ∷ []) h))

pub rotation-parts : (turn : Turn)
    → said (codes "rotation ") turn.step ++ (spaced_numbers turn.agents ++ line_feed ∷ []) ≡ rotation_line turn ++ line_feed ∷ []
rotation-parts turn =
    ap (λ xs. codes "rotation " ++ xs)
    (sym (append_assoc (decimal turn.step) (spaced_numbers turn.agents) (line_feed ∷ []))
    ∙ ap (λ xs. xs ++ line_feed ∷ []) (sym (joined (decimal turn.step) turn.agents)))

-- the three parts of the text
abbrev pub first_part : Timetable → List Turn → List ℕ
first_part tt turns =
    counts_line (length tt.tracks) (sum_by moves tt.tracks) (length (all_need_lines tt 0 tt.tracks)) (length turns) ++ line_feed ∷ []

abbrev pub needs_part : Timetable → List ℕ
needs_part tt = ended (all_need_lines tt 0 tt.tracks)

abbrev pub rotations_part : List Turn → List ℕ
rotations_part turns = ended (map rotation_line turns)

pub deps-parts : (tt : Timetable) (turns : List Turn) → first_part tt turns ++ (needs_part tt ++ (rotations_part turns ++ [])) ≡ deps_text tt turns
deps-parts tt turns =
    ap (λ xs. first_part tt turns ++ xs)
    (ap (λ xs. needs_part tt ++ xs) (append-nil (rotations_part turns)) ∙ sym (ended-append (all_need_lines tt 0 tt.tracks) (map rotation_line turns)))

module _ {W : Type 0} (contents : W → Option (List ℕ)) (a b c d text : List ℕ) (whole : four_parts a b c d ≡ text) where
  -- what is left at first, and after each part
  none-put : (s : Sink W) → Leaves contents s s text (four_parts a b c d)
  none-put s = Leaves-all contents s text (four_parts a b c d) whole

  one-put : (s one : Sink W) → Puts contents s one a → Leaves contents s one text (b ++ (c ++ (d ++ line_feed ∷ [])))
  one-put s one p = Leaves-less contents s s one text a (b ++ (c ++ (d ++ line_feed ∷ []))) a (none-put s) refl p

  two-put : (s one two : Sink W) → Puts contents s one a → Puts contents one two b → Leaves contents s two text (c ++ (d ++ line_feed ∷ []))
  two-put s one two p q = Leaves-less contents s one two text b (c ++ (d ++ line_feed ∷ [])) b (one-put s one p) refl q

  three-put : (s one two three : Sink W) → Puts contents s one a → Puts contents one two b → Puts contents two three c
      → Leaves contents s three text (d ++ line_feed ∷ [])
  three-put s one two three p q r = Leaves-less contents s two three text c (d ++ line_feed ∷ []) c (two-put s one two p q) refl r

  four-put : (s one two three four : Sink W) → Puts contents s one a → Puts contents one two b → Puts contents two three c
      → Puts contents three four d → Leaves contents s four text (line_feed ∷ [])
  four-put s one two three four p q r t =
      Leaves-less contents s three four text d (line_feed ∷ []) d (three-put s one two three p q r) refl t

  -- the writer failed at a part
  pub first-broken : (s one : Sink W) → Breaks contents s one a → Breaks contents s one text
  first-broken s one p = Leaves-broken contents s s one text a (b ++ (c ++ (d ++ line_feed ∷ []))) a (none-put s) refl p

  pub second-broken : (s one two : Sink W) → Puts contents s one a → Breaks contents one two b → Breaks contents s two text
  second-broken s one two p q = Leaves-broken contents s one two text b (c ++ (d ++ line_feed ∷ [])) b (one-put s one p) refl q

  pub third-broken : (s one two three : Sink W) → Puts contents s one a → Puts contents one two b → Breaks contents two three c
      → Breaks contents s three text
  third-broken s one two three p q r = Leaves-broken contents s two three text c (d ++ line_feed ∷ []) c (two-put s one two p q) refl r

  pub fourth-broken : (s one two three four : Sink W) → Puts contents s one a → Puts contents one two b → Puts contents two three c
      → Breaks contents three four d → Breaks contents s four text
  fourth-broken s one two three four p q r t =
      Leaves-broken contents s three four text d (line_feed ∷ []) d (three-put s one two three p q r) refl t

  -- what putting the LF answers
  pub line-put : {E : Type 0} (s one two three four last : Sink W) (answer : Result Unit E) → Puts contents s one a → Puts contents one two b
      → Puts contents two three c → Puts contents three four d → OnOk answer (Puts contents four last (line_feed ∷ [])) → OnOk answer (Puts contents s last text)
  line-put s one two three four last answer p q r t =
      Puts-last contents s four last text (line_feed ∷ []) (line_feed ∷ []) answer (four-put s one two three four p q r t) refl

  pub line-broken : {E : Type 0} (s one two three four last : Sink W) (answer : Result Unit E) → Puts contents s one a → Puts contents one two b
      → Puts contents two three c → Puts contents three four d → OnErr answer (Breaks contents four last (line_feed ∷ [])) → OnErr answer (Breaks contents s last text)
  line-broken s one two three four last answer p q r t =
      Breaks-last contents s four last text (line_feed ∷ []) (line_feed ∷ []) answer (four-put s one two three four p q r t) refl

-- a line at once, and then its LF
module _ {W : Type 0} (contents : W → Option (List ℕ)) (line given : List ℕ) (same : given ≡ line) where
  all_left : (s : Sink W) → Leaves contents s s (line ++ line_feed ∷ []) (line ++ line_feed ∷ [])
  all_left s = Leaves-all contents s (line ++ line_feed ∷ []) (line ++ line_feed ∷ []) refl

  pub words-broken : (s one : Sink W) → Breaks contents s one given → Breaks contents s one (line ++ line_feed ∷ [])
  words-broken s one p = Leaves-broken contents s s one (line ++ line_feed ∷ []) line (line_feed ∷ []) given (all_left s) same p

  feed_left : (s one : Sink W) → Puts contents s one given → Leaves contents s one (line ++ line_feed ∷ []) (line_feed ∷ [])
  feed_left s one p = Leaves-less contents s s one (line ++ line_feed ∷ []) line (line_feed ∷ []) given (all_left s) same p

  pub words-put : {E : Type 0} (s one last : Sink W) (answer : Result Unit E) → Puts contents s one given
      → OnOk answer (Puts contents one last (line_feed ∷ [])) → OnOk answer (Puts contents s last (line ++ line_feed ∷ []))
  words-put s one last answer p = Puts-last contents s one last (line ++ line_feed ∷ []) (line_feed ∷ []) (line_feed ∷ []) answer (feed_left s one p) refl

  pub feed-broken : {E : Type 0} (s one last : Sink W) (answer : Result Unit E) → Puts contents s one given
      → OnErr answer (Breaks contents one last (line_feed ∷ [])) → OnErr answer (Breaks contents s last (line ++ line_feed ∷ []))
  feed-broken s one last answer p = Breaks-last contents s one last (line ++ line_feed ∷ []) (line_feed ∷ []) (line_feed ∷ []) answer (feed_left s one p) refl
