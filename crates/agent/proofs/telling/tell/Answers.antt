use Rattle.std.proofs.Common.{◌≤◌, ◌++◌, length, drop, sym, ap, subst, ◌∙◌}
use Rattle.agent.proofs.TellLemmas.{has_head, count_small, all_told, spelled, blank}
use Rattle.agent.proofs.telling.tell.Goals as goal

pub overflow_cast-count : goal.overflow_cast-count
overflow_cast-count c =
    let starts = c.in_ok-extend_from_slice.ensures.items ∙ ap (λ front. front ++ blank) c.in_ok-bytes.ensures.items in
    let puts = c.in_ok-put_around.ensures ∙ ap (λ front. front ++ spelled c.args.from c.args.done c.around.result.0.now c.around.result.1.now) starts in
    record { fits = count_small _ _ _ _ _ c.around.ensures _ _ puts (c.len.ensures ∙ c.put_around.new.bytes.ok.0) c.requires.own c.requires.few }

pub put_head-requires : goal.put_head-requires
put_head-requires c =
    let starts = c.in_ok-extend_from_slice.ensures.items ∙ ap (λ front. front ++ blank) c.in_ok-bytes.ensures.items in
    let puts = c.in_ok-put_around.ensures ∙ ap (λ front. front ++ spelled c.args.from c.args.done c.around.result.0.now c.around.result.1.now) starts in
    subst (λ items. 10 ≤ length items) (sym c.deref_mut.ensures.value) (has_head _ _ _ _ _ c.around.ensures _ _ puts (c.len.ensures ∙ c.put_around.new.bytes.ok.0))

pub returns : goal.returns
returns c agents less within =
    let starts = c.in_ok-extend_from_slice.ensures.items ∙ ap (λ front. front ++ blank) c.in_ok-bytes.ensures.items in
    let puts = c.in_ok-put_around.ensures ∙ ap (λ front. front ++ spelled c.args.from c.args.done c.around.result.0.now c.around.result.1.now) starts in
    let writes = c.put_head.ensures ∙ ap (λ items. c.head.result ++ drop 10 items) c.deref_mut.ensures.value in
    all_told _ _ _ _ _ c.around.ensures _ _ puts (c.len.ensures ∙ c.put_around.new.bytes.ok.0) c.args.plan agents _ _ _ (sym c.len.ensures) less within c.head.ensures writes
