-- What a command holds of one of its words, where it has no subcommand: each row of that word has a value.
use Rattle.std.proofs.Common.{◌≡◌, ◌∙◌, ℕ, ◌<◌, true, false, Bool, List, [], ◌∷◌, ◌++◌, length, zero, suc, Option, Some, None, refl, sym, subst, arith, drop, rules, cond}
use Rattle.std.specs.Prelude.{if◌then◌else◌, is_some, not, IfSome, fold, slice_get, encode_utf8, ◌&&◌, find, option_and_then}
use Rattle.std.specs.List.{AllByRecursion}
use Rattle.std.specs.Option.{option_map_or}
use Rattle.std.specs.Str.{bytes_eq, chars}
use Rattle.std.proofs.lemmas.Slice.Eq.{bytes_eq-Decides}
use Rattle.clap.specs.Facts.{explicit_source}
use Rattle.clap.specs.Lexer.{long_of, short_of}
use Rattle.clap.specs.Takes.{is_given}
use Rattle.clap.specs.Words.{Row, Rule, Text}
use Rattle.clap.specs.declared.builder.value_parser.Reading.{Reading}
use Rattle.clap.specs.declared.parser.matches.ValueSource.{ValueSource}
use Rattle.clap.specs.Walk.{at_row, first_of, more_values, nothing_held, rows_after, started, walk}
use Rattle.clap.specs.Walk.{walk_from, with_default, with_values, without, Held, Outcome, done}
use Rattle.clap.specs.Walk.{waits, plain, refused, Step, next, trailing, subcommand, value, Waiting}
use Rattle.clap.specs.Walk.{idle, option, positional, Walk, after_flag, after_step, arg_by_id}
use Rattle.clap.specs.Walk.{arg_by_index, arg_by_long, arg_by_short, bundle, bundle_met}
use Rattle.clap.specs.Walk.{bundle_step, flag_met, has_long, has_short, is_pending, long_met}
use Rattle.clap.specs.Walk.{long_or_other, option_met, option_word, plain_word, pushed, reacted}
use Rattle.clap.specs.Walk.{attached_value, settled, settled_rows, short_met, short_or_plain}
use Rattle.clap.specs.Walk.{takes_values, subcommand_met, subcommand_or_other, takes_several}
use Rattle.clap.specs.Walk.{to_positional, used, used_by_id, walked, walked_from, word_met}
use Rattle.clap.proofs.SimpleLemmas.{is_false}
use Rattle.clap.proofs.WalkLemmas.{both}

found_case : (P : Rule → Type 0) (a : Rule) (rest : Option Rule) (here : Bool) → (here ≡ true → P a) → IfSome rest P → IfSome (cond here (Some a) rest) P
found_case P a rest true first later = first refl
found_case P a rest false first later = later

longer : (xs ys : List Text) → 0 < length xs → 0 < length (xs ++ ys)
longer [] ys lt = absurd (omega arith)
longer (x ∷ xs) ys lt = search rules

one_more_value : (values : List Text) (word : Text) → 0 < length (values ++ word ∷ [])
one_more_value [] word = search rules
one_more_value (v ∷ vs) word = search rules

-- the argument that an id names has that id
abbrev Answers : Text → Rule → Type 0
Answers id a = bytes_eq a.id id ≡ true

module _ (wanted : Text) where
  -- there is a value, if the id is that of the wanted word
  abbrev pub HasValue : Text → List Text → Type 0
  HasValue id values = bytes_eq id wanted ≡ true → 0 < length values

  abbrev pub AreFilled : List Row → Type 0
  AreFilled [] = Unit {0}
  AreFilled (r ∷ rs) = HasValue r.id r.values × AreFilled rs

  -- Uses of the argument leave a value in each row of the wanted word, which has a place. An option may have no value where the words
  -- end too soon.
  pub record Fills (a : Rule) : Type 0 where
    pub use_fills : (values : List Text) (rows : List Row) → HasValue a.id values → AreFilled rows → AreFilled (used a values rows)
    pub default_fills : (rows : List Row) → AreFilled rows → AreFilled (with_default rows a)
    pub is_other : is_some a.index ≡ false → bytes_eq a.id wanted ≡ false

  abbrev pub AllFill : List Rule → Type 0
  AllFill c = AllByRecursion Fills c

  abbrev IsOther : Rule → Type 0
  IsOther a = Fills a × (bytes_eq a.id wanted ≡ false)

  abbrev IsWaitingFilled : Option (Text × List Text) → Type 0
  IsWaitingFilled None = Unit {0}
  IsWaitingFilled (Some p) = HasValue p.0 p.1

  abbrev IsFilled : Held → Type 0
  IsFilled h = AreFilled h.rows × IsWaitingFilled h.pending

  other_value : (id : Text) (values : List Text) → bytes_eq id wanted ≡ false → HasValue id values
  other_value id values other same = let bad : false ≡ true = sym other ∙ same in cc

  -- ---- rows

  filled_append : (xs ys : List Row) → AreFilled xs → AreFilled ys → AreFilled (xs ++ ys)
  filled_append [] ys a b = b
  filled_append (x ∷ xs) ys a b = (a.0, filled_append xs ys a.1 b)

  pub either_fills : (here : Bool) (xs ys : List Row) → AreFilled xs → AreFilled ys → AreFilled (if here then xs else ys)
  either_fills true xs ys a b = a
  either_fills false xs ys a b = b

  filled_at_row : (id : Text) (change : Row → List Row) (missing rows : List Row) → ((r : Row) → HasValue r.id r.values → AreFilled (change r))
      → AreFilled missing → AreFilled rows → AreFilled (at_row id change missing rows)
  filled_at_row id change missing [] keeps some all = some
  filled_at_row id change missing (r ∷ rs) keeps some all =
      either_fills (bytes_eq r.id id) _ _ (filled_append (change r) rs (keeps r all.0) all.1) (all.0, filled_at_row id change missing rs keeps some all.1)

  -- more values of an argument
  pub values_fill : (id : Text) (how : Reading) (s : ValueSource) (values : List Text) (rows : List Row) → HasValue id values → AreFilled rows
      → AreFilled (with_values id how s values rows)
  values_fill id how s values rows some all =
      filled_at_row id (more_values s values) _ rows (λ r has. ((λ same. longer r.values values (has same)), tt)) (some, tt) all

  -- the values of an argument in the place of earlier ones
  pub new_values_fill : (id : Text) (how : Reading) (s : ValueSource) (values : List Text) (rows : List Row) → HasValue id values → AreFilled rows
      → AreFilled (with_values id how s values (without id rows))
  new_values_fill id how s values rows some all =
      values_fill id how s values _ some (filled_at_row id (λ _. []) [] rows (λ _ _. tt) tt all)

  -- ---- the argument that a word names

  named_found : (id : Text) (c : List Rule) → AllFill c → IfSome (arg_by_id c id) (λ a. Fills a × Answers id a)
  named_found id [] all = tt
  named_found id (a ∷ rest) all =
      found_case (λ b. Fills b × Answers id b) a (arg_by_id rest id) (bytes_eq a.id id) (λ e. (all.0, e)) (named_found id rest all.1)

  other_found : (p : Rule → Bool) (c : List Rule) → AllFill c → IfSome (find (λ a. not (is_some a.index) && p a) c) IsOther
  other_found p [] all = tt
  other_found p (a ∷ rest) all =
      found_case IsOther a (find (λ b. not (is_some b.index) && p b) rest) (not (is_some a.index) && p a)
      (λ e. (all.0, all.0.is_other (is_false (is_some a.index) (both (not (is_some a.index)) (p a) e).0))) (other_found p rest all.1)

  used_case : (id : Text) (found : Option Rule) (values : List Text) (rows : List Row) → IfSome found (λ a. Fills a × Answers id a) → HasValue id values
      → AreFilled rows → AreFilled (used_by_id found values rows)
  used_case id None values rows fills some all = all
  used_case id (Some a) values rows fills some all =
      fills.0.use_fills values rows (subst (λ (name : Text). HasValue name values) (sym ((bytes_eq-Decides a.id id).0 fills.1)) some) all

  rows_settled : (c : List Rule) (p : Option (Text × List Text)) (rows : List Row) → AllFill c → IsWaitingFilled p → AreFilled rows → AreFilled (settled_rows c p rows)
  rows_settled c None rows fill w all = all
  rows_settled c (Some p) rows fill w all = used_case p.0 (arg_by_id c p.0) p.1 rows (named_found p.0 c fill) w all

  -- ---- steps

  pushed_filled : (id word : Text) (h : Held) → AreFilled h.rows → IsFilled (pushed id word h)
  pushed_filled id word h all = (all, λ _. one_more_value (started id h.pending).1 word)

  other_reacted : (c : List Rule) (a : Rule) (values : List Text) (h : Held) → AllFill c → IsOther a → IsFilled h → IsFilled (reacted c a values h)
  other_reacted c a values h fill other f =
      (other.0.use_fills values (settled c h).rows (other_value a.id values other.1) (rows_settled c h.pending h.rows fill f.1 f.0), tt)

  -- ---- words

  option_case : (found : Option Rule) (id word : Text) (h : Held) → IsFilled h → IsFilled (option_word found id word h).0
  option_case None id word h f = f
  option_case (Some a) id word h f = pushed_filled id word h f.0

  plain_filled : (c : List Rule) (waiting : Waiting) (word : Text) (h : Held) → IsFilled h → IsFilled (plain_word c waiting word h).0
  plain_filled c idle word h f = f
  plain_filled c (option id) word h f = option_case (arg_by_id c id) id word h f
  plain_filled c positional word h f = f

  flag_filled : (c : List Rule) (waiting : Waiting) (word : Text) (h : Held) (o : Outcome) → IsFilled h → IsFilled (after_flag c waiting word h o).0
  flag_filled c waiting word h done f = f
  flag_filled c waiting word h (waits id) f = f
  flag_filled c waiting word h plain f = plain_filled c waiting word h f
  flag_filled c waiting word h refused f = plain_filled c waiting word h f

  met_option : (c : List Rule) (a : Rule) (v : Option Text) (h : Held) → AllFill c → IsOther a → IsFilled h → IsFilled (option_met c a v h).0
  met_option c a (Some v) h fill other f = other_reacted c a (v ∷ []) h fill other f
  met_option c a None h fill other f = (rows_settled c h.pending h.rows fill f.1 f.0, other_value a.id [] other.1)

  met_flag : (c : List Rule) (a : Rule) (v : Option Text) (h : Held) → AllFill c → IsOther a → IsFilled h → IsFilled (flag_met c a v h).0
  met_flag c a (Some v) h fill other f = f
  met_flag c a None h fill other f = other_reacted c a [] h fill other f

  met_case : (takes : Bool) (x y : Held × Outcome) → IsFilled x.0 → IsFilled y.0 → IsFilled (if takes then x else y).0
  met_case true x y a b = a
  met_case false x y a b = b

  long_case : (c : List Rule) (found : Option Rule) (v : Option Text) (h : Held) → AllFill c → IfSome found IsOther → IsFilled h → IsFilled (long_met c found v h).0
  long_case c None v h fill other f = f
  long_case c (Some a) v h fill other f =
      met_case (takes_values a) (option_met c a v h) (flag_met c a v h) (met_option c a v h fill other f) (met_flag c a v h fill other f)

  abbrev KeepsFilled : (Text → ℕ → Outcome → Held → Held × Outcome) → Type 0
  KeepsFilled go_on = (flags : Text) (skip : ℕ) (so_far : Outcome) (h : Held) → IsFilled h → IsFilled (go_on flags skip so_far h).0

  short_case : (c : List Rule) (found : Option Rule) (rest : Text) (h : Held) (go_on : Text → ℕ → Outcome → Held → Held × Outcome) → AllFill c
      → IfSome found IsOther → IsFilled h → KeepsFilled go_on → IsFilled (short_met c found rest h (go_on rest 0 done)).0
  short_case c None rest h go_on fill other f keeps = f
  short_case c (Some a) rest h go_on fill other f keeps =
      met_case (takes_values a) (option_met c a (attached_value rest) h) (go_on rest 0 done (reacted c a [] h))
      (met_option c a (attached_value rest) h fill other f) (keeps rest 0 done (reacted c a [] h) (other_reacted c a [] h fill other f))

  bundle_case : (c : List Rule) (x : Option ℕ) (flags : Text) (skip : ℕ) (so_far : Outcome) (h : Held) (go_on : Text → ℕ → Outcome → Held → Held × Outcome)
      → AllFill c → IsFilled h → KeepsFilled go_on → IsFilled (bundle_step c x flags skip so_far h go_on).0
  bundle_case c None flags skip so_far h go_on fill f keeps = f
  bundle_case c (Some x) flags zero so_far h go_on fill f keeps =
      short_case c (arg_by_short c x) (drop (length (encode_utf8 x)) flags) h go_on fill (other_found (λ a. has_short a x) c fill) f keeps
  bundle_case c (Some x) flags (suc skip) so_far h go_on fill f keeps = keeps (drop (length (encode_utf8 x)) flags) skip so_far h f

  bundle_filled : (c : List Rule) (k : ℕ) → AllFill c → KeepsFilled (bundle_met c k)
  unfolding bundle_met
  bundle_filled c zero fill flags skip so_far h f = f
  bundle_filled c (suc k) fill flags skip so_far h f =
      bundle_case c (slice_get (chars flags) 0) flags skip so_far h (bundle_met c k) fill f (bundle_filled c k fill)

  short_filled : (c : List Rule) (waiting : Waiting) (word : Text) (flags : Option Text) (h : Held) → AllFill c → IsFilled h
      → IsFilled (short_or_plain c waiting word flags h).0
  short_filled c waiting word None h fill f = plain_filled c waiting word h f
  short_filled c waiting word (Some flags) h fill f =
      flag_filled c waiting word (bundle c flags h).0 (bundle c flags h).1 (bundle_filled c (length flags) fill flags h.skip plain (record h { skip = 0 }) f)

  long_filled : (c : List Rule) (waiting : Waiting) (word : Text) (long : Option (Text × Option Text)) (h : Held) → AllFill c → IsFilled h
      → IsFilled (long_or_other c waiting word long h).0
  long_filled c waiting word None h fill f = short_filled c waiting word (short_of word) h fill f
  long_filled c waiting word (Some p) h fill f =
      flag_filled c waiting word (long_met c (arg_by_long c p.0) p.1 h).0 (long_met c (arg_by_long c p.0) p.1 h).1
      (long_case c (arg_by_long c p.0) p.1 h fill (other_found (λ a. has_long a p.0) c fill) f)

  -- ---- the walk

  positional_filled : (c : List Rule) (h : Held) (goes_on : Bool) → AllFill c → IsFilled h → AreFilled (if goes_on then h else settled c h).rows
  positional_filled c h true fill f = f.0
  positional_filled c h false fill f = rows_settled c h.pending h.rows fill f.1 f.0

  value_filled : (c : List Rule) (found : Option Rule) (word : Text) (w : Walk) (h : Held) → AllFill c → IsFilled h → IsFilled (to_positional c found word w h).held
  value_filled c None word w h fill f = f
  value_filled c (Some a) word w h fill f =
      pushed_filled a.id word (if is_pending a h.pending && takes_several a then h else settled c h)
      (positional_filled c h (is_pending a h.pending && takes_several a) fill f)

  step_filled : (c : List Rule) (word : Text) (w : Walk) (h : Held) (step : Step) → AllFill c → IsFilled h → IsFilled (after_step c word w h step).held
  step_filled c word w h (next waiting) fill f = f
  step_filled c word w h (trailing position) fill f = f
  step_filled c word w h (subcommand name) fill f = f
  step_filled c word w h value fill f = value_filled c (arg_by_index c w.position) word w h fill f

  other_filled : (c : List Rule) (dashes : Bool) (waiting : Waiting) (position : ℕ) (word : Text) (h : Held) → AllFill c → IsFilled h
      → IsFilled (if dashes then (h, trailing position) else long_or_other c waiting word (long_of word) h).0
  other_filled c true waiting position word h fill f = f
  other_filled c false waiting position word h fill f = long_filled c waiting word (long_of word) h fill f

  met_filled : (c : List Rule) (met : Option Text) (waiting : Waiting) (position : ℕ) (word : Text) (h : Held) → AllFill c → IsFilled h
      → IsFilled (subcommand_or_other c met waiting position word h).0
  met_filled c None waiting position word h fill f = other_filled c (bytes_eq word (45 ∷ 45 ∷ [])) waiting position word h fill f
  met_filled c (Some name) waiting position word h fill f = f

  word_filled : (c : List Rule) (is_trailing : Bool) (waiting : Waiting) (position : ℕ) (word : Text) (h : Held) → AllFill c → IsFilled h
      → IsFilled (word_met c [] is_trailing waiting position word h).0
  word_filled c true waiting position word h fill f = f
  word_filled c false waiting position word h fill f = met_filled c (subcommand_met [] waiting word) waiting position word h fill f

  turn_filled : (c : List Rule) (stopped : Option (Text × List Text)) (w : Walk) (word : Text) → AllFill c → IsFilled w.held
      → IsFilled (walked_from c [] stopped w word).held
  turn_filled c None w word fill f =
      step_filled c word w (word_met c [] w.is_trailing w.waiting w.position word w.held).0 (word_met c [] w.is_trailing w.waiting w.position word w.held).1 fill
      (word_filled c w.is_trailing w.waiting w.position word w.held fill f)
  turn_filled c (Some p) w word fill f = f

  walk_filled : (c : List Rule) (words : List Text) (w : Walk) → AllFill c → IsFilled w.held → IsFilled (fold (walked c []) w words).held
  unfolding walked
  walk_filled c [] w fill f = f
  walk_filled c (word ∷ rest) w fill f = walk_filled c rest (walked c [] w word) fill (turn_filled c w.stopped w word fill f)

  -- ---- the rows at the end

  defaults_filled : (c : List Rule) (rows : List Row) → AllFill c → AreFilled rows → AreFilled (fold with_default rows c)
  defaults_filled [] rows fill all = all
  defaults_filled (a ∷ rest) rows fill all = defaults_filled rest (with_default rows a) fill.1 (fill.0.default_fills rows all)

  pub rows_filled : (c : List Rule) (words : List Text) → AllFill c → AreFilled (rows_after c [] words)
  rows_filled c words fill =
      let end = (walk c [] nothing_held words).held in
      let f = walk_filled c words (walk_from nothing_held) fill (tt, tt) in
      defaults_filled c (settled c end).rows fill (rows_settled c end.pending end.rows fill f.1 f.0)

  first_value : (values : List Text) → 0 < length values → is_some (slice_get values 0) ≡ true
  first_value [] lt = absurd (omega arith)
  first_value (v ∷ vs) lt = refl

  given_case : (here : Bool) (r : Row) (rs : List Row) → (here ≡ true → 0 < length r.values)
      → (option_map_or (λ (r : Row). explicit_source r.source) (find (λ r. bytes_eq r.id wanted) rs) false ≡ true
      → is_some (option_and_then (λ (r : Row). slice_get r.values 0) (find (λ r. bytes_eq r.id wanted) rs)) ≡ true)
      → option_map_or (λ (r : Row). explicit_source r.source) (if here then Some r else find (λ r. bytes_eq r.id wanted) rs) false ≡ true
      → is_some (option_and_then (λ (r : Row). slice_get r.values 0) (if here then Some r else find (λ r. bytes_eq r.id wanted) rs)) ≡ true
  given_case true r rs some later given = first_value r.values (some refl)
  given_case false r rs some later given = later given

  -- the wanted word has a value where it is given
  pub first_given : (rows : List Row) → AreFilled rows → is_given wanted rows ≡ true → is_some (first_of wanted rows) ≡ true
  first_given [] all given = let bad : false ≡ true = given in cc
  first_given (r ∷ rs) all given = given_case (bytes_eq r.id wanted) r rs all.0 (first_given rs all.1) given
