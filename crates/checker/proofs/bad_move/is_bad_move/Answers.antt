-- A wait is no bad move; any other act is one unless its step is legal.
use Rattle.std.proofs.Common.{sym, ◌∙◌}
use Rattle.std.proofs.lemmas.Bool.{false≢true, not-true, not_from_false, false_from_ne_true}
use Rattle.checker.specs.Code.Places.{as_position}
use Rattle.checker.proofs.LegalLemmas.{bad-move-parts, bad-move-from}
use Rattle.checker.proofs.bad_move.is_bad_move.Goals as goal

pub returns-then-not-is_move : goal.returns-then-not-is_move
returns-then-not-is_move c = (
  λ e. absurd (false≢true e),
  λ bad. absurd (
      let parts = bad-move-parts c.args.map.now c.args.course.now c.args.number (as_position c.args.step.from) (as_position c.args.step.to) c.act_in.result
      c.acts.result.now c.acts.ensures c.act_in.ensures c.requires.from c.requires.to bad in
      false≢true (sym c.if-not-is_move.true ∙ c.is_move.ensures.1 parts.0)),
)

pub returns : goal.returns
returns c = (
  λ e. bad-move-from c.args.map.now c.args.course.now c.args.number (as_position c.args.step.from) (as_position c.args.step.to) c.act_in.result
      c.acts.result.now c.acts.ensures c.act_in.ensures c.requires.from c.requires.to (c.is_move.ensures.0 c.if-not-is_move.false)
      (λ legal. false≢true (sym (not-true c.is_legal.result e) ∙ c.is_legal.ensures.1 legal)),
  λ bad. (
      let parts = bad-move-parts c.args.map.now c.args.course.now c.args.number (as_position c.args.step.from) (as_position c.args.step.to) c.act_in.result
      c.acts.result.now c.acts.ensures c.act_in.ensures c.requires.from c.requires.to bad in
      not_from_false c.is_legal.result (false_from_ne_true c.is_legal.result (λ e. parts.1 (c.is_legal.ensures.0 e)))
      ),
)
