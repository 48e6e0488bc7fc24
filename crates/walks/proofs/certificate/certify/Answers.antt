-- Each answer is the first of the tests that fails, and what passes them all is least.
use Rattle.std.proofs.Common.{◌≡◌, false, sym, subst, ◌∙◌}
use Rattle.std.specs.Prelude.{Bool, IsTrue, ◌↔◌}
use Rattle.std.proofs.lemmas.Bool.{false≢true}
use Rattle.walks.specs.Certificate.{IsProof}
use Rattle.walks.proofs.WalkLemmas.{least}
use Rattle.walks.proofs.certificate.certify.Goals as goal

-- a test that fails says that it doesn't hold
refuted : {P : Type 0} (test : Bool) → (IsTrue test ↔ P) → test ≡ false → P → ⊥
refuted test decides failed p = false≢true (sym failed ∙ decides.1 p)

pub returns-then-not-is_table-clause-answer : goal.returns-then-not-is_table-clause-answer
returns-then-not-is_table-clause-answer c = (
  (c.is_on.ensures.0 c.if-not-is_on.false, c.is_on-else-not-is_on.ensures.0 c.if-not-is_on-2.false),
  refuted c.is_table.result c.is_table.ensures c.if-not-is_table.true,
)

pub returns-then-not-is_tight-clause-answer : goal.returns-then-not-is_tight-clause-answer
returns-then-not-is_tight-clause-answer c = (
  (c.is_on.ensures.0 c.if-not-is_on.false, c.is_on-else-not-is_on.ensures.0 c.if-not-is_on-2.false),
  c.is_table.ensures.0 c.if-not-is_table.false,
  refuted c.is_tight.result c.is_tight.ensures c.if-not-is_tight.true,
)

pub returns-then-is_proof-clause-answer : goal.returns-then-is_proof-clause-answer
returns-then-is_proof-clause-answer c =
    let m = c.args.map.now in (
      (c.is_on.ensures.0 c.if-not-is_on.false, c.is_on-else-not-is_on.ensures.0 c.if-not-is_on-2.false),
      c.is_table.ensures.0 c.if-not-is_table.false,
      c.is_tight.ensures.0 c.if-not-is_tight.false,
      c.entry-length.ensures,
      subst (λ walk. IsProof m c.args.start c.args.goal walk c.entry-length.result) c.as_slice.ensures.value (c.is_proof.ensures.0 c.if-is_proof.true),
    )

pub returns-then-is_proof-clause-least : goal.returns-then-is_proof-clause-least
returns-then-is_proof-clause-least c =
    least c.args.map.now c.args.proposal.now.table c.args.start c.args.goal c.as_slice.result.now c.entry-length.result
    (c.is_table.ensures.0 c.if-not-is_table.false) (c.is_tight.ensures.0 c.if-not-is_tight.false) c.entry-length.ensures (c.is_proof.ensures.0 c.if-is_proof.true)

pub returns-else-is_proof-clause-answer : goal.returns-else-is_proof-clause-answer
returns-else-is_proof-clause-answer c =
    let m = c.args.map.now in (
      (c.is_on.ensures.0 c.if-not-is_on.false, c.is_on-else-not-is_on.ensures.0 c.if-not-is_on-2.false),
      c.is_table.ensures.0 c.if-not-is_table.false,
      c.is_tight.ensures.0 c.if-not-is_tight.false,
      subst (λ entry. IsProof m c.args.start c.args.goal c.args.proposal.now.walk.items entry → ⊥)
          c.entry-length.ensures
          (subst (λ walk. IsProof m c.args.start c.args.goal walk c.entry-length.result → ⊥) c.as_slice.ensures.value
          (refuted c.is_proof.result c.is_proof.ensures c.if-is_proof.false)),
    )
