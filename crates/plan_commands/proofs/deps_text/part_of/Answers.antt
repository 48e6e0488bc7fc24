-- The needs of a part, one for each move, are those of the agent.
use Rattle.std.proofs.Common.{◌≡◌, ℕ, ◌<◌, Some, None, arith, sym, ap, subst, ◌∙◌}
use Rattle.std.specs.Prelude.{Option, MatchOption}
use Rattle.std.proofs.lemmas.List.{ext_get_or}
use Rattle.std.proofs.lemmas.List.FromFn.{get_or-map-range_with_len, length-map-range_with_len}
use Rattle.std.proofs.lemmas.Option.{get_or_from_slice_get}
use Rattle.model.specs.Timetable.{Track, Timetable, moves, track_of}
use Rattle.model.specs.Dependency.{Need, need}
use Rattle.depgraph.specs.AgentParts.{AgentPart, IsPartOf}
use Rattle.plan_commands.specs.DepsText.{needs_of}
use Rattle.plan_commands.proofs.deps_text.part_of.Goals as goal

no_need : Option Need
no_need = None

same_some : {A : Type 0} (x y : A) → Some x ≡ Some y → x ≡ y
same_some x y e = cc

all_needs : (tt : Timetable) (agent : ℕ) (track : Track) (part : AgentPart) → part.agent ≡ agent → track_of tt agent ≡ Some track → IsPartOf tt part
    → part.needs ≡ needs_of tt agent track
all_needs tt agent track part own there h =
    let same : h.track ≡ track = same_some h.track track (sym h.is_track ∙ ap (track_of tt) own ∙ there) in
    let long = length-map-range_with_len (need tt agent track) 0 (moves track) in
    let count = h.need_count ∙ ap moves same in
    ext_get_or no_need part.needs (needs_of tt agent track) (omega (arith, count, long)) (λ k less.
    let within : k < moves track = omega (arith, less, count) in
    let inside : k < moves h.track = omega (arith, less, h.need_count) in
    let is = ap (λ i. Some (need tt i h.track k)) own ∙ ap (λ t. Some (need tt agent t k)) same in
    get_or_from_slice_get part.needs k (need tt agent track k) no_need (h.needs k inside ∙ is)
    ∙ sym (get_or-map-range_with_len (need tt agent track) 0 (moves track) k k no_need within (omega arith)))

pub returns : goal.returns
returns c = λ track there.
    let own = subst (λ o. MatchOption o (track_of c.args.graph.now c.args.agent ≡ None) (λ part. IsPartOf c.args.graph.now part × (part.agent ≡ c.args.agent))) c.unwrap.ensures c.part.ensures in
    all_needs c.args.graph.now c.args.agent track c.unwrap.result own.1 there own.0
