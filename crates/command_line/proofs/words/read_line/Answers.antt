use Rattle.std.proofs.Common.{◌≡◌, ◌∙◌, ◌⊎◌, ap, ap₂, sym, refl, subst, true, map, string_bytes, List, [], inl, inr, Option, Some, None, option_map, unwrap_or}
use Rattle.std.proofs.lemmas.Result.{IfErr-weaker, IfOk-weaker}
use Rattle.clap.specs.Matches.{subcommand_name_of}
use Rattle.clap.specs.Kinds.{HasKind, IsAmong, Kinds}
use Rattle.clap.specs.Words.{App, kind_of, HasMatchesOf, Row, Text, takes, fault_of, is_simple, is_simple_and_free, subcommand_of, subcommand_rows_of}
use Rattle.clap.specs.declared.parser.matches.ArgMatches.{ArgMatches}
use Rattle.clap.specs.declared.parser.matches.ArgMatches.TheViews.{out-ArgMatches}
use Rattle.clap.proofs.OnLiterals.{clap_on_literals}
use Rattle.command_line.specs.declared.command_line.LineFault.{LineFault}
use Rattle.clap.specs.declared.error.Error.{Error as ClapError}
use Rattle.clap.specs.declared.error.kind.ErrorKind.TheVariants as kind
use Rattle.command_line.specs.declared.command_line.LineFault.TheVariants.{OutOfMemory}
use Rattle.command_line.specs.Words.{program_app, ComesTo, IsFaultBy}
use Rattle.command_line.specs.Code.Parts.{IsRefusal}
use Rattle.command_line.proofs.Taken.{taken_gives, IsGiven}
use Rattle.command_line.proofs.words.read_line.Goals as goal

is_simple_program : is_simple program_app ≡ true
unfolding clap_on_literals
is_simple_program = refl

is_free_program : is_simple_and_free program_app ≡ true
unfolding clap_on_literals
is_free_program = refl

option_map-twice : {A B C : Type 0} (f : B → C) (g : A → B) (o : Option A) → option_map f (option_map g o) ≡ option_map (λ x. f (g x)) o
option_map-twice f g None = refl
option_map-twice f g (Some x) = refl

name_and_rows : (given : Option (Text × List Row)) (name : Text) (rows : List Row) → Some name ≡ option_map (λ p. p.0) given → Some rows ≡ option_map (λ p. p.1) given
    → given ≡ Some (name, rows)
name_and_rows None name rows n r = cc
name_and_rows (Some p) name rows n r =
    let first : name ≡ p.0 = ap (λ o. unwrap_or o name) n in
    let second : rows ≡ p.1 = ap (λ o. unwrap_or o rows) r in
    ap₂ (λ a b. Some (a, b)) (sym first) (sym second)

-- the subcommand that the matches hold is the one that the words give
subcommand_found : (app : App) (words : List Text) (m : ArgMatches) (name : Text) (rows : List Row) → app ≡ program_app → HasMatchesOf app words m
    → Some name ≡ subcommand_name_of m → Some rows ≡ option_map (λ p. p.1) (subcommand_rows_of m) → subcommand_of program_app words ≡ Some (name, rows)
subcommand_found app words m name rows e matches n r =
    let same : subcommand_rows_of m ≡ subcommand_of program_app words
    = (matches (ap is_simple e ∙ is_simple_program)).1 ∙ ap (λ a. subcommand_of a words) e in
    let named = option_map-twice (λ (p : Text × List Row). p.0) _ (out-ArgMatches m).subcommand in
    sym same ∙ name_and_rows (subcommand_rows_of m) name rows (n ∙ sym named) r

-- what an error of clap comes to
fault-from_kind : (words : List Text) (kinds : Kinds) (e : ClapError) (fault : LineFault) → kinds ≡ fault_of program_app words → HasKind kinds e
    → (fault ≡ OutOfMemory) ⊎ ComesTo (kind_of e) fault → IsFaultBy words fault
fault-from_kind words kinds e fault is has (inl memory) = inl memory
fault-from_kind words kinds e fault is (inl memory) (inr comes) = inl (subst (λ k. ComesTo k fault) memory comes)
fault-from_kind words kinds e fault is (inr among) (inr comes) = inr (inl (kind_of e, subst (IsAmong (kind_of e)) is among, comes))

-- where memory was refused, the fault says so
memory-from_kind : (e : ClapError) (fault : LineFault) → kind_of e ≡ kind.OutOfMemory → (fault ≡ OutOfMemory) ⊎ ComesTo (kind_of e) fault → fault ≡ OutOfMemory
memory-from_kind e fault memory (inl is) = is
memory-from_kind e fault memory (inr comes) = subst (λ k. ComesTo k fault) memory comes

-- words that clap takes are refused for memory or a number
fault-from_refusal : (words : List Text) (fault : LineFault) → fault_of program_app words ≡ [] → IsRefusal fault → IsFaultBy words fault
fault-from_refusal words fault taken (inl memory) = inl memory
fault-from_refusal words fault taken (inr number) = inr (inr (taken, number))

pub returns-in-Some-clause-command : goal.returns-in-Some-clause-command
returns-in-Some-clause-command c =
    let found = subcommand_found _ _ _ _ _ c.in_ok-program.ensures c.in-Ok.ensures.matches c.in-Some.ensures.name c.in-Some.ensures.rows in
    IfOk-weaker c.read_asked.result _ _ (λ line is. (_, _, found, is)) c.read_asked.ensures.ok

pub returns-in-Some-clause-taken : goal.returns-in-Some-clause-taken
returns-in-Some-clause-taken c =
    let e = c.in_ok-program.ensures in
    let taken = sym (ap (λ a. fault_of a (map string_bytes c.args.words.now)) e)
    ∙ c.in-Ok.ensures.kinds (ap is_simple_and_free e ∙ is_free_program) in
    IfOk-weaker c.read_asked.result _ _ (λ line is. taken) c.read_asked.ensures.ok

pub returns-in-Some-clause-fault : goal.returns-in-Some-clause-fault
returns-in-Some-clause-fault c =
    let e = c.in_ok-program.ensures in
    let taken = sym (ap (λ a. fault_of a (map string_bytes c.args.words.now)) e)
    ∙ c.in-Ok.ensures.kinds (ap is_simple_and_free e ∙ is_free_program) in
    IfErr-weaker c.read_asked.result _ _ (λ fault refusal. fault-from_refusal (map string_bytes c.args.words.now) fault taken refusal) c.read_asked.ensures.refusal

pub returns-in-Some-clause-refused : goal.returns-in-Some-clause-refused
returns-in-Some-clause-refused c =
    let found = subcommand_found _ _ _ _ _ c.in_ok-program.ensures c.in-Ok.ensures.matches c.in-Some.ensures.name c.in-Some.ensures.rows in
    IfErr-weaker c.read_asked.result _ _ (λ fault only t spelled. only (subst IsGiven found (taken_gives (map string_bytes c.args.words.now) t)) (spelled _ _ found)) c.read_asked.ensures.err

pub returns-in-Err-clause-fault : goal.returns-in-Err-clause-fault
returns-in-Err-clause-fault c =
    let e = c.in_ok-program.ensures in
    let words = map string_bytes c.args.words.now in
    fault-from_kind words _ c.in-Err.error c.refused.result (ap (λ a. fault_of a words) e)
    (c.in-Err.ensures.kinds (ap is_simple_and_free e ∙ is_free_program)) c.refused.ensures

pub returns-in-Err-clause-refused : goal.returns-in-Err-clause-refused
returns-in-Err-clause-refused c =
    let e = c.in_ok-program.ensures in
    let words = map string_bytes c.args.words.now in
    λ t spelled. memory-from_kind c.in-Err.error c.refused.result (c.in-Err.ensures.passes (ap (λ a. takes a words) e ∙ t)) c.refused.ensures
