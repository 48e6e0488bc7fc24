-- Words that clap's definition takes stop at a subcommand other than `help`.
use Rattle.std.proofs.Common.{◌≡◌, ◌∙◌, true, false, Bool, List, [], ◌∷◌, Option, Some, None, sym, refl, codes, cond, option_map}
use Rattle.std.specs.Prelude.{if◌then◌else◌, is_some, ◌||◌, ◌&&◌, fold, find, not}
use Rattle.std.specs.List.{AllByRecursion}
use Rattle.std.specs.Str.{bytes_eq}
use Rattle.clap.specs.Lexer.{long_of, short_of}
use Rattle.clap.specs.Simple.{Shape}
use Rattle.clap.specs.Takes.{other_passes, walk_passes, word_passes}
use Rattle.clap.specs.Walk.{Held, Names, Outcome, done, waits, plain, refused, Rule, Text, Waiting}
use Rattle.clap.specs.Walk.{idle, option, positional, Walk, after_flag, after_step, answers_to}
use Rattle.clap.specs.Walk.{arg_by_index, arg_by_long, bundle, long_met, long_or_other, plain_word}
use Rattle.clap.specs.Walk.{short_or_plain, subcommand_met, subcommand_or_other, to_positional}
use Rattle.clap.specs.Walk.{trailing, walked, walked_from, word_met}
use Rattle.clap.proofs.WalkLemmas.{both}

-- a walk that stopped did so at a name with P
abbrev pub StopsAt : (Text → Type 0) → Option (Text × List Text) → Type 0
StopsAt P None = Unit {0}
StopsAt P (Some p) = P p.0

-- each subcommand but `help` has a name with P
abbrev pub AreNamed : (Text → Type 0) → Names → Type 0
AreNamed P labels = AllByRecursion (λ label. bytes_eq label.0 (codes "help") ≡ false → P label.0) labels

value_stays : (P : Text → Type 0) (c : List Rule) (found : Option Rule) (word : Text) (w : Walk) (h : Held) → StopsAt P w.stopped
    → StopsAt P (to_positional c found word w h).stopped
value_stays P c None word w h a = a
value_stays P c (Some rule) word w h a = tt

plain_stays : (P : Text → Type 0) (c : List Rule) (waiting : Waiting) (word : Text) (w : Walk) (h : Held) → StopsAt P w.stopped
    → StopsAt P (after_step c word w (plain_word c waiting word h).0 (plain_word c waiting word h).1).stopped
plain_stays P c idle word w h a = value_stays P c (arg_by_index c w.position) word w h a
plain_stays P c (option id) word w h a = a
plain_stays P c positional word w h a = value_stays P c (arg_by_index c w.position) word w h a

flag_stays : (P : Text → Type 0) (c : List Rule) (waiting : Waiting) (word : Text) (w : Walk) (h : Held) (o : Outcome) → StopsAt P w.stopped
    → StopsAt P (after_step c word w (after_flag c waiting word h o).0 (after_flag c waiting word h o).1).stopped
flag_stays P c waiting word w h done a = a
flag_stays P c waiting word w h (waits id) a = a
flag_stays P c waiting word w h plain a = plain_stays P c waiting word w h a
flag_stays P c waiting word w h refused a = plain_stays P c waiting word w h a

short_stays : (P : Text → Type 0) (c : List Rule) (waiting : Waiting) (word : Text) (w : Walk) (flags : Option Text) (h : Held) → StopsAt P w.stopped
    → StopsAt P (after_step c word w (short_or_plain c waiting word flags h).0 (short_or_plain c waiting word flags h).1).stopped
short_stays P c waiting word w None h a = plain_stays P c waiting word w h a
short_stays P c waiting word w (Some flags) h a = flag_stays P c waiting word w (bundle c flags h).0 (bundle c flags h).1 a

long_stays : (P : Text → Type 0) (c : List Rule) (waiting : Waiting) (word : Text) (w : Walk) (long : Option (Text × Option Text)) (h : Held) → StopsAt P w.stopped
    → StopsAt P (after_step c word w (long_or_other c waiting word long h).0 (long_or_other c waiting word long h).1).stopped
long_stays P c waiting word w None h a = short_stays P c waiting word w (short_of word) h a
long_stays P c waiting word w (Some p) h a =
    flag_stays P c waiting word w (long_met c (arg_by_long c p.0) p.1 h).0 (long_met c (arg_by_long c p.0) p.1 h).1 a

other_stays : (P : Text → Type 0) (c : List Rule) (waiting : Waiting) (word : Text) (w : Walk) (h : Held) (dashes : Bool) → StopsAt P w.stopped
    → StopsAt P (after_step c word w (if dashes then (h, trailing w.position) else long_or_other c waiting word (long_of word) h).0
    (if dashes then (h, trailing w.position) else long_or_other c waiting word (long_of word) h).1).stopped
other_stays P c waiting word w h true a = a
other_stays P c waiting word w h false a = long_stays P c waiting word w (long_of word) h a

-- the subcommand that a word names has P, unless it is `help`
abbrev IsNamed : (Text → Type 0) → Option Text → Type 0
IsNamed P None = Unit {0}
IsNamed P (Some name) = bytes_eq name (codes "help") ≡ false → P name

found_named : (P : Text → Type 0) (label : Text × List Text) (rest : Option (Text × List Text)) (here : Bool) → (bytes_eq label.0 (codes "help") ≡ false → P label.0)
    → IsNamed P (option_map (λ s. s.0) rest) → IsNamed P (option_map (λ (s : Text × List Text). s.0) (cond here (Some label) rest))
found_named P label rest true first later = first
found_named P label rest false first later = later

label_named : (P : Text → Type 0) (labels : Names) (word : Text) → AreNamed P labels
    → IsNamed P (option_map (λ (s : Text × List Text). s.0) (find (answers_to word) labels))
label_named P [] word all = tt
label_named P (label ∷ rest) word all =
    found_named P label (find (answers_to word) rest) (answers_to word label) all.0 (label_named P rest word all.1)

met_named : (P : Text → Type 0) (labels : Names) (waiting : Waiting) (word : Text) → AreNamed P labels → IsNamed P (subcommand_met labels waiting word)
met_named P labels idle word all = label_named P labels word all
met_named P labels (option id) word all = tt
met_named P labels positional word all = tt

not_help : (is_help disabled : Bool) → disabled ≡ false → (not is_help || disabled) ≡ true → is_help ≡ false
not_help true disabled off passes = let bad : false ≡ true = sym off ∙ passes in cc
not_help false disabled off passes = refl

met_stays : (P : Text → Type 0) (s : Shape) (waiting : Waiting) (word : Text) (w : Walk) (met : Option Text) → s.disable_help_subcommand ≡ false → IsNamed P met → StopsAt P w.stopped
    → other_passes s met word w.held ≡ true
    → StopsAt P (after_step s.rules word w (subcommand_or_other s.rules met waiting w.position word w.held).0
    (subcommand_or_other s.rules met waiting w.position word w.held).1).stopped
met_stays P s waiting word w None on named a p = other_stays P s.rules waiting word w w.held (bytes_eq word (45 ∷ 45 ∷ [])) a
met_stays P s waiting word w (Some name) on named a p = named (not_help (bytes_eq name (codes "help")) s.disable_help_subcommand on p)

trailing_stays : (P : Text → Type 0) (s : Shape) (labels : Names) (word : Text) (w : Walk) (is_trailing : Bool) → s.disable_help_subcommand ≡ false → AreNamed P labels
    → StopsAt P w.stopped → word_passes s labels is_trailing w.waiting word w.held ≡ true
    → StopsAt P (after_step s.rules word w (word_met s.rules labels is_trailing w.waiting w.position word w.held).0
    (word_met s.rules labels is_trailing w.waiting w.position word w.held).1).stopped
trailing_stays P s labels word w true on all a p = value_stays P s.rules (arg_by_index s.rules w.position) word w w.held a
trailing_stays P s labels word w false on all a p =
    met_stays P s w.waiting word w (subcommand_met labels w.waiting word) on (met_named P labels w.waiting word all) a p

turn_stays : (P : Text → Type 0) (s : Shape) (labels : Names) (word : Text) (w : Walk) (stopped : Option (Text × List Text)) (step : Bool)
    → s.disable_help_subcommand ≡ false → AreNamed P labels → StopsAt P stopped → StopsAt P w.stopped
    → (is_some stopped || (word_passes s labels w.is_trailing w.waiting word w.held && step)) ≡ true
    → StopsAt P (walked_from s.rules labels stopped w word).stopped
turn_stays P s labels word w (Some at) step on all b a p = b
turn_stays P s labels word w None step on all b a p = trailing_stays P s labels word w w.is_trailing on all a (both _ _ p).0

pub walk_stays : (P : Text → Type 0) (s : Shape) (labels : Names) (words : List Text) (w : Walk) → s.disable_help_subcommand ≡ false → AreNamed P labels
    → StopsAt P w.stopped → walk_passes s labels w words ≡ true → StopsAt P (fold (walked s.rules labels) w words).stopped
unfolding walk_passes walked
walk_stays P s labels [] w on all a p = a
walk_stays P s labels (word ∷ rest) w on all a p =
    walk_stays P s labels rest (walked s.rules labels w word) on all (turn_stays P s labels word w w.stopped _ on all a a (both _ _ p).0) (both _ _ p).1
