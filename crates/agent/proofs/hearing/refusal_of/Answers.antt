use Rattle.std.proofs.Common.{◌||◌, length, nat_lt, sym, ap, ◌∙◌, arith}
use Rattle.std.specs.Prelude.{nat_le, slice_get}
use Rattle.std.proofs.lemmas.Bool.Decides.{nat_tests}
use Rattle.agent.specs.Code.Listing.{entries_of}
use Rattle.agent.specs.States.{moves_of}
use Rattle.agent.proofs.TakingLemmas.{told-agent, any-more, names-nobody}
use Rattle.agent.proofs.hearing.refusal_of.Goals as goal
use Rattle.agent.proofs.hearing.refusal_of.Goals.{then-too_many, else-too_many}
use Rattle.depgraph.specs.Laws.AgentParts.{moves-told}

pub returns-in_default : goal.returns-in_default
returns-in_default c tt is =
    let entry = c.entry-entry.result in
    sym (names-nobody tt (record { sender = c.args.from; entries = entries_of c.args.entries }) c.entries.at entry c.entry-entry.ensures
    (c.in_default.ensures.moves ∙ ap (slice_get c.args.part.now.moves) c.from-in-entries.ensures ∙ moves-told tt c.args.part.now is entry.agent))

pub entries-preserved : goal.entries-preserved
entries-preserved c =
    let entry = c.entry-entry.result in
    let es = entries_of c.args.entries in
    record {
      known = λ tt is. (
          let told = told-agent tt entry.agent c.in-Some.moves
          (c.in-Some.ensures.moves ∙ ap (slice_get c.args.part.now.moves) c.from-in-entries.ensures ∙ moves-told tt c.args.part.now is entry.agent) in
          let within = told.0 in
          let known = any-more (λ e. nat_le (length tt.tracks) e.agent) es c.entries.at entry c.entry-entry.ensures in
          known ∙ ap (λ b. b || nat_le (length tt.tracks) entry.agent) (c.entries.invariant.known tt is) ∙ grind (arith, nat_tests, within)
          );
      many = λ tt is. (
          let told = told-agent tt entry.agent c.in-Some.moves
          (c.in-Some.ensures.moves ∙ ap (slice_get c.args.part.now.moves) c.from-in-entries.ensures ∙ moves-told tt c.args.part.now is entry.agent) in
          let many = any-more (λ e. nat_lt (moves_of tt e.agent) e.done) es c.entries.at entry c.entry-entry.ensures in
          elim c.if-too_many.branch [
            | then-too_many w ↦ w.too_many-is ∙ w.if-too_many.true ∙ sym (many ∙ ap (λ b. b || nat_lt (moves_of tt entry.agent) entry.done) (sym (c.entries.invariant.many tt is) ∙ w.if-too_many.true))
            | else-too_many w ↦ w.too_many-is ∙ ap (λ n. nat_lt n entry.done) (sym told.1)
                ∙ sym (many ∙ ap (λ b. b || nat_lt (moves_of tt entry.agent) entry.done) (sym (c.entries.invariant.many tt is) ∙ w.if-too_many.false))
          ]
          );
    }
