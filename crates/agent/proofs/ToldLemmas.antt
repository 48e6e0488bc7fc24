-- The bytes of messages of version 2, and what they tell.
use Rattle.std.proofs.Common.{◌≡◌, ℕ, zero, suc, ◌+◌, ◌*◌, ◌/◌, ◌%◌, ◌^◌, ◌<◌, ◌≤◌, List, [], ◌∷◌, ◌++◌, length, get_or, drop, Some, None, arith, refl, sym, ap, subst, ◌∙◌}
use Rattle.std.specs.Prelude.{◌==◌, nat_lt, flat_map, option_map, Result, Ok, Err, MatchResult, IfOk}
use Rattle.std.specs.List.{AllByRecursion}
use Rattle.std.proofs.lemmas.Bool.{cond-true, cond-false, eq-eqb}
use Rattle.std.proofs.lemmas.Bool.Decides.{nat_tests}
use Rattle.std.proofs.lemmas.List.{get_or-drop}
use Rattle.std.proofs.lemmas.Option.{none-some}
use Rattle.model.specs.declared.entry.Entry.{Entry}
use Rattle.model.specs.declared.msg_fault.MsgFault.{MsgFault}
use Rattle.model.specs.declared.msg_fault.MsgFault.TheVariants.{BadLength, BadEntry}
use Rattle.model.specs.Messages.{big_endian, entry_bytes, told_bytes, IsTold}
use Rattle.agent.specs.declared.message.Message.{Message}
use Rattle.agent.specs.declared.message.Message.TheVariants.{One, Two}
use Rattle.agent.specs.Decoding.{pair_value, entries_in, count_told, wrong_entry, any_fault}
use Rattle.agent.specs.Reading.{telling_of, IsReadAs}
use Rattle.agent.specs.Tellings.{Telling, IsInRange, IsWhole}
use Rattle.agent.proofs.SpellingLemmas.{count-in, rising-of, none-of}

-- ---- numbers and their bytes

two_bytes : (b0 b1 : ℕ) → b0 < 256 → b1 < 256 → big_endian 2 (pair_value b0 b1) ≡ b0 ∷ b1 ∷ []
two_bytes b0 b1 low high =
    let first : pair_value b0 b1 / 256 % 256 ≡ b0 = omega (arith, low, high) in
    let second : pair_value b0 b1 % 256 ≡ b1 = omega (arith, low, high) in
    ap {A = ℕ} {B = List ℕ} (λ n. n ∷ (pair_value b0 b1 % 256) ∷ []) first ∙ ap {A = ℕ} {B = List ℕ} (λ n. b0 ∷ n ∷ []) second

four_bytes : (b0 b1 b2 b3 n : ℕ) → b0 < 256 → b1 < 256 → b2 < 256 → b3 < 256 → n ≡ 65536 * pair_value b0 b1 + pair_value b2 b3
    → big_endian 4 n ≡ b0 ∷ b1 ∷ b2 ∷ b3 ∷ []
four_bytes b0 b1 b2 b3 n s0 s1 s2 s3 is =
    let first : n / 256 / 256 / 256 % 256 ≡ b0 = omega (arith, is, s0, s1, s2, s3) in
    let second : n / 256 / 256 % 256 ≡ b1 = omega (arith, is, s0, s1, s2, s3) in
    let third : n / 256 % 256 ≡ b2 = omega (arith, is, s0, s1, s2, s3) in
    let fourth : n % 256 ≡ b3 = omega (arith, is, s0, s1, s2, s3) in
    cc

pair-of : (n : ℕ) → n < 2 ^ 16 → pair_value (n / 256 % 256) (n % 256) ≡ n
pair-of n small = omega (arith, small)

four-of : (n : ℕ) → n < 2 ^ 32 → 65536 * pair_value (n / 256 / 256 / 256 % 256) (n / 256 / 256 % 256) + pair_value (n / 256 % 256) (n % 256) ≡ n
four-of n small = omega (arith, small)

-- ---- entries and their bytes

-- entries that bytes spell are spelled by them
pub spelled-again : (bytes : List ℕ) (count : ℕ) → length bytes ≡ 6 * count → ((i : ℕ) → get_or bytes i 0 < 256) → flat_map entry_bytes (entries_in bytes) ≡ bytes
spelled-again (a0 ∷ a1 ∷ d0 ∷ d1 ∷ d2 ∷ d3 ∷ bytes) zero same small = absurd (omega (arith, same))
spelled-again (a0 ∷ a1 ∷ d0 ∷ d1 ∷ d2 ∷ d3 ∷ bytes) (suc count) same small =
    let all = a0 ∷ a1 ∷ d0 ∷ d1 ∷ d2 ∷ d3 ∷ bytes in
    let rest = spelled-again bytes count (omega (arith, same)) (λ i. subst (λ n. n < 256) (sym (get_or-drop 6 all i 0)) (small (6 + i))) in
    ap (λ l. l ++ (big_endian 4 (65536 * pair_value d0 d1 + pair_value d2 d3)) ++ flat_map entry_bytes (entries_in bytes)) (two_bytes a0 a1 (small 0) (small 1))
    ∙ ap (λ l. (a0 ∷ a1 ∷ []) ++ l ++ flat_map entry_bytes (entries_in bytes)) (four_bytes d0 d1 d2 d3 _ (small 2) (small 3) (small 4) (small 5) refl)
    ∙ ap (λ l. a0 ∷ a1 ∷ d0 ∷ d1 ∷ d2 ∷ d3 ∷ l) rest
spelled-again [] count same small = refl
spelled-again (a ∷ []) count same small = absurd (omega (arith, same))
spelled-again (a ∷ b ∷ []) count same small = absurd (omega (arith, same))
spelled-again (a ∷ b ∷ c ∷ []) count same small = absurd (omega (arith, same))
spelled-again (a ∷ b ∷ c ∷ d ∷ []) count same small = absurd (omega (arith, same))
spelled-again (a ∷ b ∷ c ∷ d ∷ e ∷ []) count same small = absurd (omega (arith, same))

-- what entries are spelled by is read as them
pub read-again : (es : List Entry) → AllByRecursion (λ e. e.agent < 2 ^ 16) es → AllByRecursion (λ e. e.done < 2 ^ 32) es → entries_in (flat_map entry_bytes es) ≡ es
read-again [] agents numbers = refl
read-again (e ∷ es) agents numbers =
    ap {A = ℕ} {B = List Entry} (λ n. record { agent = n; done = 65536 * pair_value (e.done / 256 / 256 / 256 % 256) (e.done / 256 / 256 % 256) + pair_value (e.done / 256 % 256) (e.done % 256) } ∷
    entries_in (flat_map entry_bytes es)) (pair-of e.agent agents.0)
    ∙ ap {A = ℕ} {B = List Entry} (λ n. record { agent = e.agent; done = n } ∷ entries_in (flat_map entry_bytes es)) (four-of e.done numbers.0)
    ∙ ap {A = List Entry} {B = List Entry} (λ l. e ∷ l) (read-again es agents.1 numbers.1)

pub length-spelled : (es : List Entry) → length (flat_map entry_bytes es) ≡ 6 * length es
length-spelled [] = refl
length-spelled (e ∷ es) = (let rest = length-spelled es in omega (arith, rest))

-- ---- whole messages

-- two that have the same bytes are the same
pub one-telling : (t u : Telling) → IsInRange t → IsInRange u → told_bytes t.plan t.message ≡ told_bytes u.plan u.message → t ≡ u
one-telling t u in_range other same =
    let byte = λ (i : ℕ). ap (λ (l : List ℕ). get_or l i 0) same in
    let b2 = byte 2 in
    let b3 = byte 3 in
    let b4 = byte 4 in
    let b5 = byte 5 in
    let b6 = byte 6 in
    let b7 = byte 7 in
    let fits = in_range.sender in
    let fits_too = other.sender in
    let sender : t.message.sender ≡ u.message.sender = omega (arith, b2, b3, fits, fits_too) in
    let plan_fits = in_range.plan in
    let plan_fits_too = other.plan in
    let plan : t.plan ≡ u.plan = omega (arith, b4, b5, b6, b7, plan_fits, plan_fits_too) in
    let entries : t.message.entries ≡ u.message.entries =
    sym (read-again t.message.entries in_range.agents in_range.numbers) ∙ ap entries_in (ap (λ (l : List ℕ). drop 10 l) same) ∙ read-again u.message.entries other.agents other.numbers in
    ap {A = ℕ} {B = Telling} (λ n. record { plan = n; message = t.message }) plan
    ∙ ap {A = ℕ} {B = Telling} (λ n. record { plan = u.plan; message = record { sender = n; entries = t.message.entries } }) sender
    ∙ ap {A = List Entry} {B = Telling} (λ l. record { plan = u.plan; message = record { sender = u.message.sender; entries = l } }) entries

-- the numbers of entries that bytes spell are in range
pub agents-in : (bytes : List ℕ) → ((i : ℕ) → get_or bytes i 0 < 256) → AllByRecursion (λ e. e.agent < 2 ^ 16) (entries_in bytes)
agents-in (a0 ∷ a1 ∷ d0 ∷ d1 ∷ d2 ∷ d3 ∷ bytes) small =
    let all = a0 ∷ a1 ∷ d0 ∷ d1 ∷ d2 ∷ d3 ∷ bytes in (
      (let first = small 0 in let second = small 1 in omega (arith, first, second)),
      agents-in bytes (λ i. subst (λ n. n < 256) (sym (get_or-drop 6 all i 0)) (small (6 + i))),
    )
agents-in _ small = tt

pub numbers-in : (bytes : List ℕ) → ((i : ℕ) → get_or bytes i 0 < 256) → AllByRecursion (λ e. e.done < 2 ^ 32) (entries_in bytes)
numbers-in (a0 ∷ a1 ∷ d0 ∷ d1 ∷ d2 ∷ d3 ∷ bytes) small =
    let all = a0 ∷ a1 ∷ d0 ∷ d1 ∷ d2 ∷ d3 ∷ bytes in (
      (let third = small 2 in let fourth = small 3 in let fifth = small 4 in let sixth = small 5 in omega (arith, third, fourth, fifth, sixth)),
      numbers-in bytes (λ i. subst (λ n. n < 256) (sym (get_or-drop 6 all i 0)) (small (6 + i))),
    )
numbers-in _ small = tt

-- bytes that begin as a message of version 2 and have as many bytes as they say spell what they tell
pub told-spelled : (bytes : List ℕ) (plan from count : ℕ) → get_or bytes 0 0 ≡ 0x46 → get_or bytes 1 0 ≡ 2 → ((i : ℕ) → get_or bytes i 0 < 256)
    → 10 ≤ length bytes → length (drop 10 bytes) ≡ 6 * count → count ≡ pair_value (get_or bytes 8 0) (get_or bytes 9 0) → from ≡ pair_value (get_or bytes 2 0) (get_or bytes 3 0)
    → plan ≡ 65536 * pair_value (get_or bytes 4 0) (get_or bytes 5 0) + pair_value (get_or bytes 6 0) (get_or bytes 7 0)
    → bytes ≡ told_bytes plan (record { sender = from; entries = entries_in (drop 10 bytes) })
told-spelled (b0 ∷ b1 ∷ b2 ∷ b3 ∷ b4 ∷ b5 ∷ b6 ∷ b7 ∷ b8 ∷ b9 ∷ rest) plan from count magic version small enough length_is count_is from_is plan_is =
    let all = b0 ∷ b1 ∷ b2 ∷ b3 ∷ b4 ∷ b5 ∷ b6 ∷ b7 ∷ b8 ∷ b9 ∷ rest in
    let spelled = spelled-again rest count length_is (λ i. subst (λ n. n < 256) (sym (get_or-drop 10 all i 0)) (small (10 + i))) in
    let number : length (entries_in rest) ≡ pair_value b8 b9 = (let whole = count-in rest in omega (arith, whole, length_is, count_is)) in
    sym (
    ap (λ n. 0x46 ∷ 2 ∷ (big_endian 2 n ++ big_endian 4 plan ++ big_endian 2 (length (entries_in rest)) ++ flat_map entry_bytes (entries_in rest))) from_is
    ∙ ap (λ l. 0x46 ∷ 2 ∷ (l ++ big_endian 4 plan ++ big_endian 2 (length (entries_in rest)) ++ flat_map entry_bytes (entries_in rest))) (two_bytes b2 b3 (small 2) (small 3))
    ∙ ap (λ l. 0x46 ∷ 2 ∷ b2 ∷ b3 ∷ (l ++ big_endian 2 (length (entries_in rest)) ++ flat_map entry_bytes (entries_in rest)))
    (four_bytes b4 b5 b6 b7 plan (small 4) (small 5) (small 6) (small 7) plan_is)
    ∙ ap (λ n. 0x46 ∷ 2 ∷ b2 ∷ b3 ∷ b4 ∷ b5 ∷ b6 ∷ b7 ∷ (big_endian 2 n ++ flat_map entry_bytes (entries_in rest))) number
    ∙ ap (λ l. 0x46 ∷ 2 ∷ b2 ∷ b3 ∷ b4 ∷ b5 ∷ b6 ∷ b7 ∷ (l ++ flat_map entry_bytes (entries_in rest))) (two_bytes b8 b9 (small 8) (small 9))
    ∙ ap (λ l. 0x46 ∷ 2 ∷ b2 ∷ b3 ∷ b4 ∷ b5 ∷ b6 ∷ b7 ∷ b8 ∷ b9 ∷ l) spelled
    ∙ ap (λ n. n ∷ 2 ∷ b2 ∷ b3 ∷ b4 ∷ b5 ∷ b6 ∷ b7 ∷ b8 ∷ b9 ∷ rest) (sym magic)
    ∙ ap (λ n. b0 ∷ n ∷ b2 ∷ b3 ∷ b4 ∷ b5 ∷ b6 ∷ b7 ∷ b8 ∷ b9 ∷ rest) (sym version)
    )
told-spelled _ plan from count magic version small enough length_is count_is from_is plan_is = absurd (omega (arith, enough))

-- ---- what is read of bytes that a message spells

-- they have no fault
pub no-fault : (t : Telling) (bytes : List ℕ) → IsInRange t → IsTold t.plan t.message bytes → any_fault bytes ≡ None
no-fault t bytes in_range told =
    let entries = t.message.entries in
    let spelled = told.spelled in
    let few = in_range.count in
    let long : length (told_bytes t.plan t.message) ≡ 10 + 6 * length entries = (let more = length-spelled entries in omega (arith, more)) in
    let count : count_told (told_bytes t.plan t.message) ≡ length entries = pair-of (length entries) few in
    let right : wrong_entry 0 0 (entries_in (flat_map entry_bytes entries)) ≡ None =
    ap (wrong_entry 0 0) (read-again entries in_range.agents in_range.numbers) ∙ none-of 0 0 entries told.rising in
    ap any_fault spelled
    ∙ cond-false (nat_lt (length (told_bytes t.plan t.message)) 10) (Some BadLength) _ (grind (arith, nat_tests, long))
    ∙ cond-true (length (told_bytes t.plan t.message) == 10 + 6 * count_told (told_bytes t.plan t.message)) _ (Some BadLength) (eq-eqb _ _ (omega (arith, long, count)))
    ∙ ap (option_map (λ number. BadEntry number)) right

-- and are read as it
pub read-as : (t : Telling) (bytes : List ℕ) → IsInRange t → IsTold t.plan t.message bytes → (result : Result Message MsgFault)
    → MatchResult result (λ m. IsReadAs m bytes) (λ fault. any_fault bytes ≡ Some fault) → IfOk result (λ m. IsInRange (telling_of m)) → result ≡ Ok (Two t)
read-as t bytes in_range told (Err fault) is fits = absurd (none-some fault (sym (no-fault t bytes in_range told) ∙ is))
read-as t bytes in_range told (Ok (One f)) is fits =
    let version = ap (λ (l : List ℕ). get_or l 1 0) (sym told.spelled ∙ is.spelled) in absurd (omega (arith, version))
read-as t bytes in_range told (Ok (Two u)) is fits =
    ap {A = Telling} {B = Result Message MsgFault} (λ x. Ok (Two x)) (one-telling u t fits in_range (sym is.spelled ∙ told.spelled))

-- what bytes tell that begin as a message of version 2, have as many as they say and no wrong entry
abbrev pub read_of : (bytes : List ℕ) (plan from : ℕ) → Telling
read_of bytes plan from = record { plan = plan; message = record { sender = from; entries = entries_in (drop 10 bytes) } }

pub read-whole : (bytes : List ℕ) (plan from count : ℕ) → ((i : ℕ) → get_or bytes i 0 < 256) → plan < 2 ^ 32 → from < 2 ^ 16 → count < 2 ^ 16
    → length (drop 10 bytes) ≡ 6 * count → wrong_entry 0 0 (entries_in (drop 10 bytes)) ≡ None → IsWhole (read_of bytes plan from)
read-whole bytes plan from count small plan_fits from_fits few length_is none =
    let behind : (i : ℕ) → get_or (drop 10 bytes) i 0 < 256 = λ i. subst (λ n. n < 256) (sym (get_or-drop 10 bytes i 0)) (small (10 + i)) in
    record {
      in_range = record {
        plan = plan_fits;
        sender = from_fits;
        count = (let whole = count-in (drop 10 bytes) in omega (arith, whole, length_is, few));
        agents = agents-in (drop 10 bytes) behind;
        numbers = numbers-in (drop 10 bytes) behind;
      };
      rising = rising-of 0 0 (entries_in (drop 10 bytes)) none;
    }
