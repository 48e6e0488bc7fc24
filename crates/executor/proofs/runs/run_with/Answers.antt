use Rattle.std.proofs.Common.{◌≡◌, ℕ, ◌+◌, ◌<◌, List, [], ◌∷◌, length, take, get_or, map, sym, ap, subst, ◌∙◌}
use Rattle.std.specs.Prelude.{reverse}
use Rattle.std.proofs.lemmas.List.{take_all, take_more, map-append, reverse-append}
use Rattle.model.specs.Replies.{answer_of}
use Rattle.executor.specs.SafeRuns.{IsSafeRun}
use Rattle.executor.specs.Laws.Safe.{safe-run}
use Rattle.executor.proofs.runs.run_with.Goals as goal

-- the next of a list is the newest
one_more : {X : Type 0} (xs newest : List X) (i : ℕ) (d : X) → i < length xs → newest ≡ reverse (take i xs) → get_or xs i d ∷ newest ≡ reverse (take (i + 1) xs)
one_more xs newest i d within same =
    ap (λ l. get_or xs i d ∷ l) same ∙ (sym (reverse-append (take i xs) (get_or xs i d ∷ [])) ∙ ap reverse (sym (take_more xs i d within)))

pub events-preserved : goal.events-preserved
events-preserved c =
    let before = c.events.invariant in
    let goes = c.in_ok-reply.ensures.answered before.history before.stands in
    record {
      same_graph = c.in_ok-reply.ensures.same_graph ∙ before.same_graph;
      same_version = c.in_ok-reply.ensures.same_version ∙ before.same_version;
      history = record { event = _; answer = answer_of c.in_ok-reply.reply } ∷ before.history;
      stands = goes.1;
      same_events = one_more c.args.events.now _ c.events.event-index _ c.events-test.true before.same_events;
      same_answers = ap (λ l. answer_of c.in_ok-reply.reply ∷ l) before.same_answers
          ∙ (sym (reverse-append (map answer_of c.events.replies.items) (answer_of c.in_ok-reply.reply ∷ []))
          ∙ ap reverse (sym (map-append answer_of c.events.replies.items (c.in_ok-reply.reply ∷ [])) ∙ ap (map answer_of) (sym c.in-Ok.ensures.items)));
    }

pub returns : goal.returns
returns c =
    let kept = c.events.invariant in record {
      history = kept.history;
      same_events = kept.same_events ∙ ap reverse (take_all c.events.event-index c.args.events.now c.events-test.false);
      same_answers = kept.same_answers;
      safe = subst (λ table. IsSafeRun c.args.version table kept.history) kept.same_graph
          (subst (λ v. IsSafeRun v c.events.runner.timetable kept.history) kept.same_version (safe-run c.every_run_is_safe.ensures c.rotations_never_begin.ensures _ kept.history kept.stands));
    }
