-- Each turn puts the first of the agents that are left.
use Rattle.std.proofs.Common.{◌∙◌, ℕ, ◌+◌, ap, drop, length, nat_lt, refl, subst, sym, true}
use Rattle.std.proofs.lemmas.Bool.{ltb-false}
use Rattle.std.proofs.lemmas.Option.{slice_get_read}
use Rattle.std.proofs.lemmas.Result.{err_from_is_err_and}
use Rattle.text_io.specs.Sink.{Leaves}
use Rattle.text_io.specs.Laws.Putting.{Leaves-less, Leaves-broken, Leaves-none}
use Rattle.check_commands.specs.BoundCommand.{costs_and_bounds}
use Rattle.check_commands.specs.Code.Bounds.{object_text, objects_left}
use Rattle.check_commands.proofs.BoundLemmas.{is_behind, none_left, object_more, pairs_more, past_bounds}
use Rattle.check_commands.proofs.bound_text.put_objects.Goals as goal

pub returns-in_default-get-clause-ok : goal.returns-in_default-get-clause-ok
returns-in_default-get-clause-ok g c =
    let i = c.loop-agent.agent in
    let past = ltb-false i (length c.args.bounds.now) (sym c.in_default-get.ensures.lookup.0) in
    let none = past_bounds c.args.plan.now.timetable.tracks c.args.bounds.now i past in
    Leaves-none g.W.Write.contents _ _ _ (subst (Leaves g.W.Write.contents _ _ _) (ap (objects_left (nat_lt 0 i)) none ∙ none_left (nat_lt 0 i)) c.loop-agent.invariant)

pub returns-in_err-put_object-clause-err : goal.returns-in_err-put_object-clause-err
returns-in_err-put_object-clause-err g c =
    let p = err_from_is_err_and c.from_residual.result c.from_residual.ensures.1 in
    let i = c.loop-agent.agent in
    let tracks = c.args.plan.now.timetable.tracks in
    let bounds = c.args.bounds.now in
    let pair : ℕ × ℕ = (c.in-Some.cost, c.in-Some-get.bound.now) in
    let found = c.in-Some-get.ensures.lookup in
    let bound_at = slice_get_read bounds _ i c.in-Some-get.bound.now refl found.3.0 found.1 in
    let pairs = pairs_more tracks bounds i c.in-Some.cost c.in-Some-get.bound.now (sym c.in-Some.is ∙ c.cost.ensures) bound_at in
    let others = costs_and_bounds (drop (i + 1) tracks) (drop (i + 1) bounds) in
    let follows = nat_lt 0 i in
    let next = subst (Leaves g.W.Write.contents _ _ _) (ap (objects_left follows) pairs ∙ object_more follows pair others) c.loop-agent.invariant in
    rw p.1 (Leaves-broken g.W.Write.contents _ _ _ _ (object_text follows pair) (objects_left true others) _ next refl c.in_err-put_object.ensures.err)

pub loop-agent-preserved : goal.loop-agent-preserved
loop-agent-preserved g c =
    let i = c.loop-agent.agent in
    let tracks = c.args.plan.now.timetable.tracks in
    let bounds = c.args.bounds.now in
    let pair : ℕ × ℕ = (c.in-Some.cost, c.in-Some-get.bound.now) in
    let found = c.in-Some-get.ensures.lookup in
    let bound_at = slice_get_read bounds _ i c.in-Some-get.bound.now refl found.3.0 found.1 in
    let pairs = pairs_more tracks bounds i c.in-Some.cost c.in-Some-get.bound.now (sym c.in-Some.is ∙ c.cost.ensures) bound_at in
    let others = costs_and_bounds (drop (i + 1) tracks) (drop (i + 1) bounds) in
    let follows = nat_lt 0 i in
    let next = subst (Leaves g.W.Write.contents _ _ _) (ap (objects_left follows) pairs ∙ object_more follows pair others) c.loop-agent.invariant in
    let less = Leaves-less g.W.Write.contents _ _ _ _ (object_text follows pair) (objects_left true others) _ next refl c.in_ok-put_object.ensures.ok in
    subst (Leaves g.W.Write.contents _ _ _) (ap (λ behind. objects_left behind others) (sym (is_behind i))) less
