-- What a message tells its hearer of the hearer's own moves.
use Rattle.std.proofs.Common.{◌≡◌, ◌≢◌, ℕ, zero, suc, ◌+◌, ◌<◌, ◌≤◌, Bool, true, false, cond, List}
use Rattle.std.proofs.Common.{[], ◌∷◌, length, max, nat_lt, take, Some, None, Ok, Err, inl, inr}
use Rattle.std.proofs.Common.{arith, refl, sym, ap, subst, ◌∙◌, add-one}
use Rattle.std.specs.Prelude.{◌==◌, ◌||◌, ◌^◌, nat_le, if◌then◌else◌, Option, option_map, unwrap_or, slice_get, MatchOption, Result}
use Rattle.std.specs.List.{AllByRecursion, list_any}
use Rattle.std.proofs.lemmas.Bool.{cases_Bool, true≢false, false≢true, cond-true, cond-false, eq-eqb, ne_eqb}
use Rattle.std.proofs.lemmas.Bool.Decides.{nat_tests}
use Rattle.std.proofs.lemmas.List.Folds.{list_any_more}
use Rattle.std.proofs.lemmas.Option.{slice_get_within, slice_get-get_or, same_Some, none-some, get_or_from_slice_get}
use Rattle.model.specs.declared.entry.Entry.{Entry}
use Rattle.model.specs.Messages as a_message
use Rattle.model.specs.declared.msg_fault.MsgFault.{MsgFault}
use Rattle.model.specs.Messages.{told_by, told, own_message, IsMessage, IsTold}
use Rattle.model.specs.Timetable.{Track, Timetable, moves, track_of}
use Rattle.agent.specs.declared.finished.Finished.{Finished}
use Rattle.agent.specs.declared.refusal.HearFault.TheVariants as fault
use Rattle.agent.specs.States.{State, finished_moves, moves_of, names_nobody, tells_too_many, telling_refusal}
use Rattle.agent.specs.Reading.{telling_of, IsReadAs}
use Rattle.agent.specs.Tellings.{Telling, IsInRange, BytesTell}
use Rattle.agent.specs.declared.message.Message.{Message}
use Rattle.agent.specs.declared.message.Message.TheVariants.{One, Two}
use Rattle.agent.specs.declared.refusal.HearFault.{HearFault}
use Rattle.robot.specs.Stale.{more_told, stale_number, IsFresh, IsHeeded}
use Rattle.robot.specs.Code.Answering.{IsStaleWord}
use Rattle.robot.specs.Code.Telling.{IsMoreIn, IsNoMoreIn, if_more, number_taken, stale_word_of, telling_one, unless_refused}
use Rattle.robot.specs.declared.stale.StaleWord.{StaleWord}

-- ---- the tests of a message, one after another

abbrev judged : (plan nobody many : Bool) → ℕ → Option ℕ
judged plan nobody many number =
    unless_refused (if plan then (if nobody then Some fault.NoSuchAgent else (if many then Some fault.TooMany else None)) else Some fault.WrongPlan) number

off-plan : (p n m : Bool) (k : ℕ) → p ≡ false → judged p n m k ≡ None
off-plan true n m k e = absurd (true≢false e)
off-plan false n m k e = refl

nobody : (p n m : Bool) (k : ℕ) → n ≡ true → judged p n m k ≡ None
nobody true true m k e = refl
nobody true false m k e = absurd (false≢true e)
nobody false n m k e = refl

too-many : (p n m : Bool) (k : ℕ) → m ≡ true → judged p n m k ≡ None
too-many true true m k e = refl
too-many true false true k e = refl
too-many true false false k e = absurd (false≢true e)
too-many false n m k e = refl

right : (p n m : Bool) (k : ℕ) → p ≡ true → n ≡ false → m ≡ false → judged p n m k ≡ Some k
right true false false k p n m = refl
right true false true k p n m = absurd (true≢false m)
right true true m k p n f = absurd (true≢false n)
right false n m k p f g = absurd (false≢true p)

module _ (tt : Timetable) (i : ℕ) (t : Telling) where
  pub of-other-plan : t.plan ≢ tt.number → number_taken tt i t ≡ None
  of-other-plan other = off-plan (t.plan == tt.number) (names_nobody tt t.message) (tells_too_many tt t.message) (told t.message i) (ne_eqb t.plan tt.number other)

  pub of-nobody : names_nobody tt t.message ≡ true → number_taken tt i t ≡ None
  of-nobody is = nobody (t.plan == tt.number) (names_nobody tt t.message) (tells_too_many tt t.message) (told t.message i) is

  pub of-too_many : tells_too_many tt t.message ≡ true → number_taken tt i t ≡ None
  of-too_many is = too-many (t.plan == tt.number) (names_nobody tt t.message) (tells_too_many tt t.message) (told t.message i) is

  pub of-taken : t.plan ≡ tt.number → names_nobody tt t.message ≡ false → tells_too_many tt t.message ≡ false → number_taken tt i t ≡ Some (told t.message i)
  of-taken plan known few = right (t.plan == tt.number) (names_nobody tt t.message) (tells_too_many tt t.message) (told t.message i) (eq-eqb t.plan tt.number plan) known few

-- how many moves there are, where they are told
pub told-agent : (tt : Timetable) (i count : ℕ) → Some count ≡ option_map moves (track_of tt i) → (i < length tt.tracks) × (moves_of tt i ≡ count)
told-agent tt i count told = by_track (track_of tt i) refl told where
  by_track : (o : Option Track) → track_of tt i ≡ o → Some count ≡ option_map moves o → (i < length tt.tracks) × (moves_of tt i ≡ count)
  by_track None none is = absurd (none-some count (sym is))
  by_track (Some track) there is = (
    slice_get_within tt.tracks i track there,
    ap (λ o. unwrap_or (option_map moves o) 0) there ∙ sym (same_Some count (moves track) is),
  )

-- an agent of which nothing is told is none of the plan's
pub no-agent : (tt : Timetable) (i : ℕ) → None ≡ option_map moves (track_of tt i) → nat_le (length tt.tracks) i ≡ true
no-agent tt i none = elim (cases_Bool (nat_le (length tt.tracks) i)) [
  | inl past ↦ past
  | inr within ↦ absurd (none-some _ (none ∙ ap (λ o. option_map moves o) (slice_get-get_or tt.tracks i (record { start = record { x = 0; y = 0 }; later = [] }) (grind (arith, nat_tests, within)))))
]

or_true : (b : Bool) → (b || true) ≡ true
or_true true = refl
or_true false = refl

-- ---- version 1

module _ (tt : Timetable) (i : ℕ) (f : Finished) where
  pub said-nobody : None ≡ option_map moves (track_of tt f.from) → number_taken tt i (telling_one f) ≡ None
  said-nobody none = of-nobody tt i (telling_one f) (ap (λ b. b || (b || false)) (no-agent tt f.from none))

  pub said-many : (count : ℕ) → Some count ≡ option_map moves (track_of tt f.from) → count < f.done → number_taken tt i (telling_one f) ≡ None
  said-many count is more =
      let agent = told-agent tt f.from count is in
      of-too_many tt i (telling_one f) (over (moves_of tt f.from) f.done (omega (arith, more, agent.1)))
    where
      over : (most done : ℕ) → most < done → (nat_lt most done || false) ≡ true
      over most done past = grind (arith, nat_tests)

  pub said-taken : (count : ℕ) → Some count ≡ option_map moves (track_of tt f.from) → f.plan ≡ tt.number → f.done ≤ count
      → number_taken tt i (telling_one f) ≡ Some (told (own_message f.from f.done) i)
  said-taken count is plan within =
      let agent = told-agent tt f.from count is in
      of-taken tt i (telling_one f) plan (known f.from (length tt.tracks) agent.0) (few (moves_of tt f.from) f.done (omega (arith, within, agent.1)))
    where
      known : (i n : ℕ) → i < n → (nat_le n i || (nat_le n i || false)) ≡ false
      known i n less = grind (arith, nat_tests)

      few : (most done : ℕ) → done ≤ most → (nat_lt most done || false) ≡ false
      few most done within = grind (arith, nat_tests)

  pub said-own : f.from ≡ i → told (own_message f.from f.done) i ≡ f.done
  said-own same = cond-true (f.from == i) (max f.done 0) 0 (eq-eqb f.from i same) ∙ omega arith

  pub said-other : f.from ≢ i → told (own_message f.from f.done) i ≡ 0
  said-other other = cond-false (f.from == i) (max f.done 0) 0 (ne_eqb f.from i other)

-- ---- version 2, entry by entry

-- a test of one entry more
pub any-more : (p : Entry → Bool) (es : List Entry) (at : ℕ) (entry : Entry) → slice_get es at ≡ Some entry → list_any p (take (at + 1) es) ≡ (list_any p (take at es) || p entry)
any-more p es at entry there =
    list_any_more p es at entry (slice_get_within es at entry there) ∙ ap (λ e. list_any p (take at es) || p e) (get_or_from_slice_get es at entry entry there)

-- a test that one entry passes
pub any-at : (p : Entry → Bool) (es : List Entry) (at : ℕ) (entry : Entry) → slice_get es at ≡ Some entry → p entry ≡ true → list_any p es ≡ true
any-at p [] at entry there passed = absurd (none-some entry there)
any-at p (e ∷ es) zero entry there passed = ap (λ b. b || list_any p es) (ap p (same_Some e entry there) ∙ passed)
any-at p (e ∷ es) (suc n) entry there passed = ap (λ b. p e || b) (any-at p es n entry there passed) ∙ or_true (p e)

abbrev told_pair : Entry → ℕ × ℕ
told_pair e = (e.agent, e.done)

abbrev entry_of : ℕ × ℕ → Entry
entry_of p = record { agent = p.0; done = p.1 }

-- what is told of an entry, as the entry
pub entry-told : (o : Option Entry) (p : ℕ × ℕ) → Some p ≡ option_map told_pair o → o ≡ Some (record { agent = p.0; done = p.1 })
entry-told None p is = absurd (none-some p (sym is))
entry-told (Some e) p is = let same : p ≡ told_pair e = same_Some p (told_pair e) is in ap {A = Entry} {B = Option Entry} (λ x. Some x) (ap entry_of (sym same))

-- an agent of the plan, and a number that it may have
pub within_known : (n j : ℕ) → j < n → (false || nat_le n j) ≡ false
within_known n j less = grind (arith, nat_tests)

pub within_few : (most done : ℕ) → done ≤ most → (false || nat_lt most done) ≡ false
within_few most done within = grind (arith, nat_tests)

greater : (b c : Bool) (m n x y : ℕ) → y ≡ cond c (max n x) x → cond b (max m y) y ≡ cond c (max n (cond b (max m x) x)) (cond b (max m x) x)
greater true true m n x y e = omega (arith, e)
greater true false m n x y e = omega (arith, e)
greater false true m n x y e = omega (arith, e)
greater false false m n x y e = omega (arith, e)

told_suc : (es : List Entry) (at j : ℕ) (entry : Entry) → slice_get es at ≡ Some entry
    → told_by (take (suc at) es) j ≡ cond (entry.agent == j) (max entry.done (told_by (take at es) j)) (told_by (take at es) j)
told_suc [] at j entry there = absurd (none-some entry there)
told_suc (e ∷ es) zero j entry there = ap (λ (x : Entry). cond (x.agent == j) (max x.done 0) 0) (same_Some e entry there)
told_suc (e ∷ es) (suc n) j entry there =
    greater (e.agent == j) (entry.agent == j) e.done entry.done (told_by (take n es) j) (told_by (take (suc n) es) j) (told_suc es n j entry there)

-- what one entry more tells
pub told-more : (es : List Entry) (at j : ℕ) (entry : Entry) → slice_get es at ≡ Some entry
    → told_by (take (at + 1) es) j ≡ cond (entry.agent == j) (max entry.done (told_by (take at es) j)) (told_by (take at es) j)
told-more es at j entry there = ap (λ n. told_by (take n es) j) (add-one at) ∙ told_suc es at j entry there

module _ (tt : Timetable) (i : ℕ) (t : Telling) (at : ℕ) (entry : Entry) (there : slice_get t.message.entries at ≡ Some entry) where
  pub told-nobody : None ≡ option_map moves (track_of tt entry.agent) → number_taken tt i t ≡ None
  told-nobody none =
      of-nobody tt i t (ap (λ b. nat_le (length tt.tracks) t.message.sender || b)
      (any-at (λ e. nat_le (length tt.tracks) e.agent) t.message.entries at entry there (no-agent tt entry.agent none)) ∙ or_true (nat_le (length tt.tracks) t.message.sender))

  pub told-many : (count : ℕ) → Some count ≡ option_map moves (track_of tt entry.agent) → count < entry.done → number_taken tt i t ≡ None
  told-many count is more =
      let agent = told-agent tt entry.agent count is in
      of-too_many tt i t (any-at (λ e. nat_lt (moves_of tt e.agent) e.done) t.message.entries at entry there (over (moves_of tt entry.agent) entry.done (omega (arith, more, agent.1))))
    where
      over : (most done : ℕ) → most < done → nat_lt most done ≡ true
      over most done past = grind (arith, nat_tests)

-- the sender is none of the plan's
pub sender-nobody : (tt : Timetable) (i : ℕ) (t : Telling) → length tt.tracks ≤ t.message.sender → number_taken tt i t ≡ None
sender-nobody tt i t past = of-nobody tt i t (first (length tt.tracks) t.message.sender _ past) where
  first : (n j : ℕ) (b : Bool) → n ≤ j → (nat_le n j || b) ≡ true
  first n j b past = ap (λ a. a || b) (le n j past) where
    le : (n j : ℕ) → n ≤ j → nat_le n j ≡ true
    le n j past = grind (arith, nat_tests)

-- all entries were seen, and none is refused
pub told-taken : (tt : Timetable) (i : ℕ) (t : Telling) → t.plan ≡ tt.number → t.message.sender < length tt.tracks
    → list_any (λ e. nat_le (length tt.tracks) e.agent) t.message.entries ≡ false → list_any (λ e. nat_lt (moves_of tt e.agent) e.done) t.message.entries ≡ false
    → number_taken tt i t ≡ Some (told t.message i)
told-taken tt i t plan known all few = of-taken tt i t plan (both (length tt.tracks) t.message.sender _ known all) few where
  both : (n j : ℕ) (b : Bool) → j < n → b ≡ false → (nat_le n j || b) ≡ false
  both n j b less none = ap (λ a. nat_le n j || a) none ∙ le n j less where
    le : (n j : ℕ) → j < n → (nat_le n j || false) ≡ false
    le n j less = grind (arith, nat_tests)

-- ---- more than was finished

more-told : (r : Option HearFault) (done n : ℕ) (o : Option ℕ) → o ≡ unless_refused r n → more_told r done n ≡ if_more done o
more-told (Some f) done n o is = sym (ap (if_more done) is)
more-told None done n o is = sym (ap (if_more done) is)

-- the bytes tell this alone
abbrev pub TellsAlone : List ℕ → Telling → Type 0
TellsAlone bytes t = BytesTell bytes t × ((u : Telling) → BytesTell bytes u → u ≡ t)

module _ (tt : Timetable) (i done : ℕ) (bytes : List ℕ) (t : Telling) (alone : TellsAlone bytes t) where
  by_number : (sender : ℕ) (x : Option ℕ) → t.message.sender ≡ sender → stale_number tt i done t ≡ x
      → MatchOption (option_map (stale_word_of sender) x) (IsNoMoreIn tt i done bytes) (IsMoreIn tt i done bytes)
  by_number sender None from is = λ u tell. ap (stale_number tt i done) (alone.1 u tell) ∙ is
  by_number sender (Some n) from is = (t, alone.0, from, is)

  -- what is said of the agent, by what is taken of it
  pub word_is : (sender : ℕ) (o : Option ℕ) (r : Option StaleWord) → t.message.sender ≡ sender → o ≡ number_taken tt i t → r ≡ option_map (stale_word_of sender) (if_more done o)
      → MatchOption r (IsNoMoreIn tt i done bytes) (IsMoreIn tt i done bytes)
  word_is sender o r from taken is =
      let word = by_number sender (if_more done o) from (more-told (telling_refusal tt t) done (told t.message i) o taken) in
      subst (λ w. MatchOption w (IsNoMoreIn tt i done bytes) (IsMoreIn tt i done bytes)) (sym is) word

-- what reading answers for bytes that tell something
abbrev pub ReadsOne : List ℕ → Result Message MsgFault → Type 0
ReadsOne bytes r = (plan from done : ℕ) → plan < 2 ^ 32 → from < 2 ^ 16 → done < 2 ^ 32 → IsMessage plan from done bytes → r ≡ Ok (One (record { from = from; plan = plan; done = done }))

abbrev pub ReadsTwo : List ℕ → Result Message MsgFault → Type 0
ReadsTwo bytes r = (t : Telling) → IsInRange t → IsTold t.plan t.message bytes → r ≡ Ok (Two t)

module _ (bytes : List ℕ) (r : Result Message MsgFault) (each_one : ReadsOne bytes r) (each_two : ReadsTwo bytes r) where
  -- it is read, and tells this
  pub read-told : (u : Telling) → BytesTell bytes u → (m : Message) × (r ≡ Ok m) × (telling_of m ≡ u)
  read-told u tell = elim tell.spelled [
    | inl one ↦ (
        let entry : Entry = record { agent = u.message.sender; done = one.0 } in
        let within = subst (λ (m : a_message.Message). AllByRecursion (λ (e : Entry). e.done < 2 ^ 32) m.entries) one.1 tell.in_range.numbers in
        let f : Finished = record { from = u.message.sender; plan = u.plan; done = one.0 } in
        (One f, each_one u.plan u.message.sender one.0 tell.in_range.plan tell.in_range.sender within.0 one.2, ap (λ (m : a_message.Message). telling_by u.plan m) (sym one.1))
        )
    | inr two ↦ (Two u, each_two u tell.in_range two, refl)
  ] where
    telling_by : ℕ → a_message.Message → Telling
    telling_by plan m = record { plan = plan; message = m }

  -- nothing else is
  pub read-alone : (m : Message) → r ≡ Ok m → BytesTell bytes (telling_of m) → TellsAlone bytes (telling_of m)
  read-alone m is tell = (tell, λ u told. (let read = read-told u told in let same : m ≡ read.0 = (let e = sym is ∙ read.1 in cc) in sym read.2 ∙ sym (ap telling_of same)))

  -- bytes that are no message tell nothing
  pub none-read : (f : MsgFault) → r ≡ Err f → (u : Telling) → BytesTell bytes u → ⊥
  none-read f is u told = let read = read-told u told in let e = sym is ∙ read.1 in cc

-- ---- what is read of the bytes

told_of : (bytes : List ℕ) (m : Message) → IsReadAs m bytes → IsInRange (telling_of m) → BytesTell bytes (telling_of m)
told_of bytes (One f) reads in_range = record { in_range = in_range; spelled = inl (f.done, refl, reads) }
told_of bytes (Two t) reads in_range = record { in_range = in_range; spelled = inr reads }

pub word_of : (tt : Timetable) (i done : ℕ) (bytes : List ℕ) (m n : Message) → ReadsOne bytes (Ok m) → ReadsTwo bytes (Ok m) → IsReadAs m bytes → IsInRange (telling_of m) → m ≡ n
    → (sender : ℕ) (o : Option ℕ) (r : Option StaleWord) → (telling_of n).message.sender ≡ sender → o ≡ number_taken tt i (telling_of n)
    → r ≡ option_map (stale_word_of sender) (if_more done o) → MatchOption r (IsNoMoreIn tt i done bytes) (IsMoreIn tt i done bytes)
word_of tt i done bytes m n each_one each_two reads in_range same sender o r from taken is =
    let alone = read-alone bytes (Ok m) each_one each_two m refl (told_of bytes m reads in_range) in
    word_is tt i done bytes (telling_of n) (subst (λ k. TellsAlone bytes (telling_of k)) same alone) sender o r from taken is

-- ---- what is heeded

-- what is told of the moves of an agent that is not broken
pub older-word : (tt : Timetable) (i : ℕ) (s : State) (bytes : List ℕ) (r : Option StaleWord) → s.broken ≡ false
    → MatchOption r (IsNoMoreIn tt i (finished_moves s) bytes) (IsMoreIn tt i (finished_moves s) bytes) → MatchOption r (IsFresh tt i s bytes) (IsStaleWord tt i s bytes)
older-word tt i s bytes None sound none = λ unbroken t tell. none t tell
older-word tt i s bytes (Some w) sound more = record { sound = sound; telling = more.0; tell = more.1; is_sender = more.2; more = more.3 }

-- it is heeded, where that is so
pub heeds_word : (tt : Timetable) (i : ℕ) (s : State) (bytes : List ℕ) (heeds : Bool) (r : Option StaleWord) → heeds ≡ true
    → MatchOption r (IsFresh tt i s bytes) (IsStaleWord tt i s bytes) → MatchOption r (IsHeeded heeds tt i s bytes) (IsStaleWord tt i s bytes)
heeds_word tt i s bytes heeds None heeded fresh = subst (λ b. IsHeeded b tt i s bytes) (sym heeded) fresh
heeds_word tt i s bytes heeds (Some w) heeded stale = stale
