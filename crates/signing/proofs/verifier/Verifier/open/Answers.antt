-- A sender that has a key has a place among the counts.
use Rattle.std.proofs.Common.{◌≡◌, ◌∙◌, length, Some, arith, ap}
use Rattle.std.specs.Prelude.{slice_set}
use Rattle.signing.specs.Verifying.{behind, Judge, IsAccepted}
use Rattle.signing.proofs.HearingLemmas.{has-place}
use Rattle.signing.proofs.verifier.Verifier.open.Goals as goal

pub index_mut-requires : goal.index_mut-requires
index_mut-requires c =
    let head = c.in-Some.parts.head in
    let taken : IsAccepted c.args.self.now head c.in-Some.parts.message.now c.args.letter.now = c.in-None.ensures c.args.letter.now c.in-Some.ensures.0 in
    let there = has-place c.args.self.now.keys head.sender taken.is_sealed.key taken.is_sealed.has_key in
    let keys : length c.self.inside.keys.items ≡ length c.args.self.now.keys = ap (λ (v : Judge). length v.keys) c.self.view_is in
    let level = c.self.invariant in
    let from = c.from.ensures in
    omega (arith, there, keys, level, from)

pub returns-in-None : goal.returns-in-None
returns-in-None c =
    let head = c.in-Some.parts.head in
    let taken : IsAccepted c.args.self.now head c.in-Some.parts.message.now c.args.letter.now = c.in-None.ensures c.args.letter.now c.in-Some.ensures.0 in (
      head,
      taken,
      ap (λ i. record {
        run = c.self.inside.run;
        keys = c.self.inside.keys.items;
        taken = slice_set c.self.inside.taken.items i (Some head.count);
      }) c.from.ensures ∙ ap (λ v. behind v head) c.self.view_is,
    )
