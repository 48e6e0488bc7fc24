-- Entry by entry: one that is refused decides, and else the number is the greatest so far.
use Rattle.std.proofs.Common.{◌≡◌, Some, length, max, nat_lt, rules, sym, ap, ◌∙◌, arith}
use Rattle.std.specs.Prelude.{◌==◌, ◌||◌, nat_le, slice_get}
use Rattle.std.proofs.lemmas.Bool.{cond-true, cond-false, eq-eqb, ne_eqb}
use Rattle.model.specs.declared.entry.Entry.{Entry}
use Rattle.agent.specs.States.{moves_of}
use Rattle.depgraph.specs.Laws.AgentParts.{moves-told}
use Rattle.robot.proofs.StaleLemmas.{any-more, entry-told, told-agent, told-many, told-more, told-nobody, within_few, within_known}
use Rattle.robot.proofs.stale.number_told.Goals.{then-agent, else-agent}
use Rattle.robot.proofs.stale.number_told.Goals as goal

pub returns-in_err-moves : goal.returns-in_err-moves
returns-in_err-moves c tt is =
    let entry : Entry = record { agent = c.unwrap-agent.result.0; done = c.unwrap-agent.result.1 } in
    let there = entry-told _ c.unwrap-agent.result (sym c.unwrap-agent.ensures ∙ c.entry.ensures) in
    let none = told-nobody tt c.args.part.now.agent c.args.told.now c.entries.at entry there
    (c.in_err-moves.ensures.moves ∙ ap (slice_get c.args.part.now.moves) c.from-in-entries.ensures ∙ moves-told tt c.args.part.now is entry.agent) in
    search rules

pub returns-then-branch : goal.returns-then-branch
returns-then-branch c tt is =
    let entry : Entry = record { agent = c.unwrap-agent.result.0; done = c.unwrap-agent.result.1 } in
    let there = entry-told _ c.unwrap-agent.result (sym c.unwrap-agent.ensures ∙ c.entry.ensures) in
    sym (told-many tt c.args.part.now.agent c.args.told.now c.entries.at entry there c.in_ok-moves.field-0
    (c.in_ok-moves.ensures.moves ∙ ap (slice_get c.args.part.now.moves) c.from-in-entries.ensures ∙ moves-told tt c.args.part.now is entry.agent) c.if-branch.true)

pub entries-preserved : goal.entries-preserved
entries-preserved c =
    let entry : Entry = record { agent = c.unwrap-agent.result.0; done = c.unwrap-agent.result.1 } in
    let es = c.args.told.now.message.entries in
    let there : slice_get es c.entries.at ≡ Some entry = entry-told _ c.unwrap-agent.result (sym c.unwrap-agent.ensures ∙ c.entry.ensures) in
    let more = told-more es c.entries.at c.args.part.now.agent entry there in
    let before = c.entries.invariant.number in
    record {
      known = λ tt is. (
          let told = told-agent tt entry.agent c.in_ok-moves.field-0
          (c.in_ok-moves.ensures.moves ∙ ap (slice_get c.args.part.now.moves) c.from-in-entries.ensures ∙ moves-told tt c.args.part.now is entry.agent) in
          any-more (λ e. nat_le (length tt.tracks) e.agent) es c.entries.at entry there
          ∙ ap (λ b. b || nat_le (length tt.tracks) entry.agent) (c.entries.invariant.known tt is) ∙ within_known (length tt.tracks) entry.agent told.0
          );
      few = λ tt is. (
          let told = told-agent tt entry.agent c.in_ok-moves.field-0
          (c.in_ok-moves.ensures.moves ∙ ap (slice_get c.args.part.now.moves) c.from-in-entries.ensures ∙ moves-told tt c.args.part.now is entry.agent) in
          any-more (λ e. nat_lt (moves_of tt e.agent) e.done) es c.entries.at entry there
          ∙ ap (λ b. b || nat_lt (moves_of tt entry.agent) entry.done) (c.entries.invariant.few tt is)
          ∙ within_few (moves_of tt entry.agent) entry.done (let few = c.if-branch.false in omega (arith, few, told.1))
          );
      number = elim c.if-agent.branch [
        | then-agent w ↦ w.number-is ∙ w.max-number.ensures ∙ ap (max entry.done) before
            ∙ sym (more ∙ cond-true (entry.agent == c.args.part.now.agent) _ _ (eq-eqb _ _ (w.if-agent.true ∙ c.agent.ensures.agent)))
        | else-agent w ↦ w.number-is ∙ before
            ∙ sym (more ∙ cond-false (entry.agent == c.args.part.now.agent) _ _ (ne_eqb _ _ (λ e. w.if-agent.false (e ∙ sym c.agent.ensures.agent))))
      ];
    }
