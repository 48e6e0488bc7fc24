-- The file beside a tape: what it has, and what comes of comparing it.
use Rattle.std.proofs.Common.{◌≡◌, ◌≢◌, ◌∙◌, ℕ, ◌<◌, ◌≤◌, Bool, true, false, List, [], ◌++◌, length, drop, take, Some, None, inl, inr, refl, sym, ap, subst, append_assoc, append-nil, arith, leb}
use Rattle.std.specs.Prelude.{Option, IfSome, Err, ◌⊎◌, ◌↔◌}
use Rattle.std.proofs.Math.Seq.{take-append_seam}
use Rattle.std.proofs.lemmas.Bool.{le-leb, leb-true}
use Rattle.std.proofs.lemmas.List.{length-append}
use Rattle.std.specs.Io.KnownBytes.{Consumes, IsAtEnd}
use Rattle.std.proofs.KnownBytes.{Consumes-all, Consumes-trans}
use Rattle.text_io.specs.Reading.{IsFirstFault, OutcomeSays, at_end, Decides}
use Rattle.text_io.specs.Text.{BeginsWith}
use Rattle.model.specs.History.{record_length}
use Rattle.model.specs.Plan.{Plan}
use Rattle.plan_text.specs.declared.plan_text_fault.PlanTextFault.{PlanTextFault}
use Rattle.plan_text.specs.declared.plan_text_fault.PlanTextFault.TheVariants.{BadHeader, BadNumber, TooMany, BadAgent, BadAct, Unfinished, TextAfter, ReadFailed, OutOfMemory}
use Rattle.plan_text.specs.PlanText.{PlanText}
use Rattle.plan_text.specs.PlanTextFault.{PlanTextFaultAt, plan_outcome}
use Rattle.agent_commands.specs.FileDeeds.{FileDeed}
use Rattle.agent_commands.specs.FileDeeds.FileDeed.{opens_file}
use Rattle.agent_commands.specs.KeptPlan.{HasMark, IsKeptIn, KeptText, mark_line}
use Rattle.robot.specs.FileTape.{file_state}
use Rattle.robot.specs.declared.file_tape.FileTape.{FileTape}
use Rattle.tape_claim.specs.declared.TapeClaim.{TapeClaim}
use Rattle.tape_claim.specs.declared.TapeClaim.TheVariants.{Any, New, Kept}
use Rattle.agent_commands.specs.AgentCommand.{IsLeftBeside, IsPlanKept}
use Rattle.agent_commands.specs.Code.Plans.{IsDueTask, IsKeptTask, IsNoTaskFor, IsNotLetBy, IsNotRead, IsTaskDone, IsTermsFor, ReadsMark, blame_of, claim_of}
use Rattle.agent_commands.specs.declared.kept_plan.PlanTask.{PlanTask}
use Rattle.agent_commands.specs.declared.kept_plan.PlanTask.TheVariants.{Nothing, Sync, Mark, Write}
use Rattle.agent_commands.specs.declared.terms.Terms.{Terms}
use Rattle.agent_commands.specs.declared.terms.Terms.TheVariants.{Any as Any_terms, New as New_terms, Kept as Kept_terms}
use Rattle.agent_commands.specs.declared.agent_fault.AgentFault.{AgentFault}
use Rattle.agent_commands.specs.declared.agent_fault.AgentFault.TheVariants.{Planned, OpenFailed, TapeExists, NoTape, PlanDamaged, TapeEmptied, OtherPlan, File, Tape, Dialogue}
use Rattle.agent_commands.specs.declared.plan_file.KeptPlan.{KeptPlan}

-- what stands behind the first line
rest_of : (marked : Bool) (rest : List ℕ) → drop 14 (mark_line marked ++ rest) ≡ rest
rest_of true rest = refl
rest_of false rest = refl

first_of : (marked : Bool) (rest : List ℕ) → take 14 (mark_line marked ++ rest) ≡ mark_line marked
first_of true rest = refl
first_of false rest = refl

line_length : (marked : Bool) → length (mark_line marked) ≡ 14
line_length true = refl
line_length false = refl

neither : (bytes : List ℕ) (marked : Bool) → bytes ≢ mark_line true → bytes ≢ mark_line false → bytes ≢ mark_line marked
neither bytes true marks unmarks is = marks is
neither bytes false marks unmarks is = unmarks is

begun : (old new : Option (List ℕ)) (word : List ℕ) → Consumes old new word → IfSome old (BeginsWith word)
begun None new word read = tt
begun (Some all) None word read = absurd read
begun (Some all) (Some left) word read = (left, read)

-- the line was read, and then the plan, up to the end
pub is_kept : (all mid new : Option (List ℕ)) (marked : Bool) (p : Plan) (rest : List ℕ)
    → Consumes all mid (mark_line marked) → Consumes mid new rest → IsAtEnd new → PlanText p rest → IsKeptIn all marked p
is_kept all mid new marked p rest line taken over spells = record {
  text = mark_line marked ++ rest;
  whole = Consumes-all all new (mark_line marked ++ rest) [] (mark_line marked ++ rest)
      (Consumes-trans all mid new (mark_line marked) rest line taken) over refl;
  says = (rest, refl, spells);
}

-- what was read stands at the beginning
pub marked_first : (old new : Option (List ℕ)) (answer : Option Bool) (marked so : Bool) → ReadsMark old new answer → answer ≡ Some marked → marked ≡ so
    → HasMark so old
marked_first old new answer marked so reads is same = begun old new (mark_line so) (subst (λ m. Consumes old new (mark_line m)) same (subst (ReadsMark old new) is reads))

-- a text that is shorter than a first line has none
pub short_text : (old new : Option (List ℕ)) (bytes : List ℕ) → Consumes old new bytes → IsAtEnd new → length bytes < 14
    → IfSome old (λ all. (marked : Bool) → BeginsWith (mark_line marked) all → ⊥)
short_text None new bytes read end few = tt
short_text (Some all) None bytes read end few = absurd read
short_text (Some all) (Some left) bytes read end few = λ marked begins.
    let told = ap length (read ∙ ap (λ l. bytes ++ l) end) ∙ length-append bytes [] in
    let line = ap length begins.1 ∙ length-append (mark_line marked) begins.0 in
    let long = line_length marked in
    omega (arith, few, told, line, long)

-- nor has one that begins otherwise
pub other_line : (old new : Option (List ℕ)) (bytes : List ℕ) → Consumes old new bytes → length bytes ≡ 14 → bytes ≢ mark_line true → bytes ≢ mark_line false
    → IfSome old (λ all. (marked : Bool) → BeginsWith (mark_line marked) all → ⊥)
other_line None new bytes read long marks unmarks = tt
other_line (Some all) None bytes read long marks unmarks = absurd read
other_line (Some all) (Some left) bytes read long marks unmarks = λ marked begins.
    let front = subst (λ n. take n (bytes ++ left) ≡ bytes) long (take-append_seam bytes left) in
    neither bytes marked marks unmarks (sym front ∙ ap (take 14) (sym read ∙ begins.1) ∙ first_of marked begins.0)

-- where there is no such line there is no plan
pub no_line : (o : Option (List ℕ)) → IfSome o (λ all. (marked : Bool) → BeginsWith (mark_line marked) all → ⊥)
    → IfSome o (λ all. (marked : Bool) (p : Plan) → KeptText marked p all → ⊥)
no_line None never = tt
no_line (Some all) never = λ marked p kept. never marked (kept.0, kept.1)

-- a fault that the beginning decides is the first of the whole text
first_fault : (fault : PlanTextFault) (delivered left : List ℕ)
    → (Decides PlanTextFaultAt fault delivered) ⊎ (PlanTextFaultAt fault at_end delivered × (left ≡ [])) → IsFirstFault PlanTextFaultAt fault (delivered ++ left)
first_fault fault delivered left (inl early) = inl (
  early.0,
  early.1 ++ left,
  early.2,
  ap (λ l. l ++ left) early.3 ∙ append_assoc early.0 early.1 left,
  early.4,
  early.5,
)
first_fault fault delivered left (inr last) =
    inr (subst (PlanTextFaultAt fault at_end) (sym (ap (λ l. delivered ++ l) last.1 ∙ append-nil delivered)) last.0)

-- nor where the text behind it has a fault
pub no_text : (old mid new : Option (List ℕ)) (marked : Bool) (delivered : List ℕ) (fault : PlanTextFault)
    → ((text : List ℕ) (p : Plan) (f : PlanTextFault) → PlanText p text → IsFirstFault PlanTextFaultAt f text → ⊥)
    → Consumes old mid (mark_line marked) → Consumes mid new delivered
    → (Decides PlanTextFaultAt fault delivered) ⊎ (PlanTextFaultAt fault at_end delivered × IsAtEnd new)
    → IfSome old (λ all. (other : Bool) (p : Plan) → KeptText other p all → ⊥)
no_text None mid new marked delivered fault never line taken bad = tt
no_text (Some all) None new marked delivered fault never line taken bad = absurd line
no_text (Some all) (Some text) None marked delivered fault never line taken bad = absurd taken
no_text (Some all) (Some text) (Some left) marked delivered fault never line taken bad = λ other p kept.
    let same : kept.0 ≡ text = sym (rest_of other kept.0) ∙ ap (drop 14) (sym kept.1 ∙ line) ∙ rest_of marked text in
    never text p fault (subst (PlanText p) same kept.2) (subst (IsFirstFault PlanTextFaultAt fault) (sym taken) (first_fault fault delivered left bad))

-- why a plan behind the first line wasn't read
pub no_plan : (all mid new : Option (List ℕ)) (marked : Bool) (delivered : List ℕ) (fault : PlanTextFault)
    → ((text : List ℕ) (p : Plan) (f : PlanTextFault) → PlanText p text → IsFirstFault PlanTextFaultAt f text → ⊥)
    → Consumes all mid (mark_line marked) → Consumes mid new delivered
    → OutcomeSays PlanText PlanTextFaultAt delivered new (plan_outcome (Err fault)) → IsNotRead all (blame_of fault)
no_plan all mid new marked delivered (BadHeader line) never read taken says = no_text all mid new marked delivered _ never read taken says
no_plan all mid new marked delivered (BadNumber line) never read taken says = no_text all mid new marked delivered _ never read taken says
no_plan all mid new marked delivered (TooMany line) never read taken says = no_text all mid new marked delivered _ never read taken says
no_plan all mid new marked delivered (BadAgent line) never read taken says = no_text all mid new marked delivered _ never read taken says
no_plan all mid new marked delivered (BadAct line column) never read taken says = no_text all mid new marked delivered _ never read taken says
no_plan all mid new marked delivered (Unfinished line) never read taken says = no_text all mid new marked delivered _ never read taken says
no_plan all mid new marked delivered (TextAfter line) never read taken says = no_text all mid new marked delivered _ never read taken says
no_plan all mid new marked delivered ReadFailed never read taken says = tt
no_plan all mid new marked delivered OutOfMemory never read taken says = tt

marked_in : (o : Option (List ℕ)) (text : List ℕ) → IfSome o (λ all. text ≡ all) → BeginsWith (mark_line true) text → IfSome o (BeginsWith (mark_line true))
marked_in None text whole begins = tt
marked_in (Some all) text whole begins = subst (BeginsWith (mark_line true)) whole begins

-- a text with the mark begins with it
pub has_mark : (all : Option (List ℕ)) (marked : Bool) (p : Plan) → marked ≡ true → IsKeptIn all marked p → HasMark true all
has_mark all marked p is kept =
    let as_marked = subst (λ m. IsKeptIn all m p) is kept in
    marked_in all as_marked.text as_marked.whole (as_marked.says.0, as_marked.says.1)

-- why a kept plan doesn't let the plan at hand by
pub not_let_by : (WasDone : FileDeed → Type 0) (all : Option (List ℕ)) (kept : KeptPlan) (p : Plan) (has_record : Bool) (fault : AgentFault)
    → WasDone (opens_file all) → IsKeptIn all kept.is_marked kept.plan → IsNoTaskFor kept p has_record fault → IsNotLetBy WasDone p has_record fault
not_let_by WasDone all kept p has_record TapeEmptied done is why = (why.1, (all, done, has_mark all kept.is_marked kept.plan why.0 is))
not_let_by WasDone all kept p has_record (OtherPlan apart) done is why =
    record { all = all; found = done; marked = kept.is_marked; kept = kept.plan; is_kept = is; is_other = why }
not_let_by WasDone all kept p has_record PlanDamaged done is why = absurd why
not_let_by WasDone all kept p has_record NoTape done is why = absurd why
not_let_by WasDone all kept p has_record OpenFailed done is why = absurd why
not_let_by WasDone all kept p has_record TapeExists done is why = absurd why
not_let_by WasDone all kept p has_record (File fault) done is why = absurd why
not_let_by WasDone all kept p has_record (Planned fault) done is why = absurd why
not_let_by WasDone all kept p has_record (Tape fault) done is why = absurd why
not_let_by WasDone all kept p has_record (Dialogue fault) done is why = absurd why

-- and why nothing was read of it
pub not_read : (WasDone : FileDeed → Type 0) (all : Option (List ℕ)) (p : Plan) (has_record : Bool) (fault : AgentFault)
    → WasDone (opens_file all) → IsNotRead all fault → IsNotLetBy WasDone p has_record fault
not_read WasDone all p has_record PlanDamaged done why = (all, done, why)
not_read WasDone all p has_record (File fault) done why = why
not_read WasDone all p has_record TapeEmptied done why = absurd why
not_read WasDone all p has_record (OtherPlan apart) done why = absurd why
not_read WasDone all p has_record NoTape done why = absurd why
not_read WasDone all p has_record OpenFailed done why = absurd why
not_read WasDone all p has_record TapeExists done why = absurd why
not_read WasDone all p has_record (Planned fault) done why = absurd why
not_read WasDone all p has_record (Tape fault) done why = absurd why
not_read WasDone all p has_record (Dialogue fault) done why = absurd why

-- a test of how long a tape is tells whether it has a record
pub has_enough : (n m : ℕ) → n ≡ m → (leb 10 n ≡ true ↔ 10 ≤ m)
has_enough n m same = (λ yes. subst (λ k. 10 ≤ k) same (leb-true 10 n yes), λ enough. le-leb 10 n (subst (λ k. 10 ≤ k) (sym same) enough))

few_of : (b : Bool) (n m : ℕ) → (b ≡ true ↔ m ≤ n) → b ≡ false → n < m
few_of b n m is bare = let yes = is.1 in grind arith

-- what is still to be done where a plan is kept that is the one at hand, or not
pub due_of
    : {F : Type 0} (WasDone : FileDeed → Type 0) (p : Plan) (t : FileTape F) (has_record : Bool) (task : PlanTask)
    → (has_record ≡ true ↔ record_length ≤ length (file_state t).contents) → IsKeptTask WasDone p has_record task → IsDueTask WasDone Kept p t task
due_of WasDone p t has_record task is h = λ other. (
  h.0,
  h.1,
  (
    h.2.0.is_marked,
    subst (λ q. IsKeptIn h.0 h.2.0.is_marked q) (sym (h.2.2.same other)) h.2.1,
    h.2.2.marked,
    λ nothing. few_of has_record _ _ is (h.2.2.bare nothing),
  ),
)

-- a file that was found has the plan at hand, and a mark where the tape has a record
left_beside
    : {F : Type 0} (WasDone : FileDeed → Type 0) (t : Terms) (p : Plan) (tape : FileTape F) (has_record : Bool) (task : PlanTask)
    → task ≢ Write → IsDueTask WasDone Kept p tape task → IsTaskDone WasDone t has_record task → IsLeftBeside WasDone p tape
left_beside WasDone t p tape has_record Write other due done = absurd (other refl)
left_beside WasDone t p tape has_record Nothing other due done =
    let d = due other in (d.0, d.1, (d.2.0, d.2.1, λ has. let few = d.2.3 refl in absurd (omega (arith, has, few))))
left_beside WasDone t p tape has_record Sync other due done = let d = due other in (d.0, d.1, (d.2.0, d.2.1, λ has. inl (d.2.2 refl)))
left_beside WasDone t p tape has_record Mark other due done = let d = due other in (d.0, d.1, (d.2.0, d.2.1, λ has. inr done.0))

-- where that is done, the plan at hand is kept
put_or_there
    : {F : Type 0} (WasDone : FileDeed → Type 0) (t : Terms) (p : Plan) (tape : FileTape F) (has_record : Bool) (task : PlanTask)
    → (has_record ≡ true ↔ record_length ≤ length (file_state tape).contents) → t ≡ Kept_terms p → IsDueTask WasDone Kept p tape task
    → IsTaskDone WasDone t has_record task → IsPlanKept WasDone Kept p tape
put_or_there WasDone t p tape has_record Write has is due done = inl (has_record, has, subst (λ k. IsTaskDone WasDone k has_record Write) is done)
put_or_there WasDone t p tape has_record Nothing has is due done = inr (left_beside WasDone t p tape has_record Nothing (λ same. cc) due done)
put_or_there WasDone t p tape has_record Sync has is due done = inr (left_beside WasDone t p tape has_record Sync (λ same. cc) due done)
put_or_there WasDone t p tape has_record Mark has is due done = inr (left_beside WasDone t p tape has_record Mark (λ same. cc) due done)

pub plan_kept
    : {F : Type 0} (WasDone : FileDeed → Type 0) (claim : TapeClaim) (t : Terms) (p : Plan) (tape : FileTape F) (has_record : Bool) (task : PlanTask)
    → (has_record ≡ true ↔ record_length ≤ length (file_state tape).contents) → IsTermsFor claim p t → IsDueTask WasDone claim p tape task
    → IsTaskDone WasDone t has_record task → IsPlanKept WasDone claim p tape
plan_kept WasDone Any t p tape has_record task has is due done = tt
plan_kept WasDone New t p tape has_record task has is due done =
    inl (has_record, has, subst (λ k. IsTaskDone WasDone k has_record Write) is (subst (IsTaskDone WasDone t has_record) due done))
plan_kept WasDone Kept t p tape has_record task has is due done = put_or_there WasDone t p tape has_record task has is due done

kept_of : Plan → Terms → Plan
kept_of other (Kept_terms p) = p
kept_of other t = other

-- and where the terms are to keep a plan
pub due_on
    : {F : Type 0} (WasDone : FileDeed → Type 0) (t : Terms) (q p : Plan) (tape : FileTape F) (task : PlanTask) → t ≡ Kept_terms q → IsTermsFor (claim_of t) p t
    → IsDueTask WasDone Kept q tape task → IsDueTask WasDone (claim_of t) p tape task
unfolding kept_of
due_on WasDone Any_terms q p tape task is on due = cc
due_on WasDone (New_terms r) q p tape task is on due = cc
due_on WasDone (Kept_terms r) q p tape task is on due = subst (λ x. IsDueTask WasDone Kept x tape task) (ap (kept_of q) (sym is ∙ on)) due
