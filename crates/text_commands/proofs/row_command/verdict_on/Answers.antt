use Rattle.std.proofs.Common.{◌≡◌, ℕ, Option, Ok, Err, subst}
use Rattle.grid.specs.declared.cell.Cell.{Cell}
use Rattle.grid.specs.Map.{Grid}
use Rattle.walks.specs.Certificate.{Certifies, IsLeast}
use Rattle.scenario.specs.Query.{Query}
use Rattle.walks.specs.declared.certificate.Proposal.{Proposal}
use Rattle.scenario.specs.declared.length.Length.{Length}
use Rattle.text_commands.specs.declared.row_verdict.RowVerdict.{RowVerdict}
use Rattle.text_commands.specs.RowCommand.{IsCertified, IsRowVerdictOn}
use Rattle.text_commands.proofs.RowAnswers.{refusal_judged}
use Rattle.text_commands.proofs.row_command.verdict_on.Goals as goal

-- the certificate is on the cells of the query
certified : (m : Grid) (q : Query) (start finish : Cell) (proposal : Proposal) (shortest : Option Length) → start ≡ q.start → finish ≡ q.goal
    → Certifies m start finish proposal (Ok shortest) → IsLeast m start finish shortest → IsCertified m q shortest
certified m q start finish proposal shortest s f answer least =
    let Answer : Cell → Cell → Type 0 = λ a b. Certifies m a b proposal (Ok shortest) in
    let Least : Cell → Cell → Type 0 = λ a b. IsLeast m a b shortest in
    record {
      proposal = proposal;
      certifies = subst (λ (a : Cell). Answer a q.goal) s (subst (λ (b : Cell). Answer start b) f answer);
      least = subst (λ (a : Cell). Least a q.goal) s (subst (λ (b : Cell). Least start b) f least);
    }

-- the verdict is on the listed length of the query
on_query : (q : Query) (n decimals : ℕ) (shortest : Option Length) (verdict : RowVerdict) → n ≡ q.listed → decimals ≡ q.decimals
    → IsRowVerdictOn n decimals shortest verdict → IsRowVerdictOn q.listed q.decimals shortest verdict
on_query q n decimals shortest verdict e f is =
    subst (λ (a : ℕ). IsRowVerdictOn a q.decimals shortest verdict) e (subst (λ (b : ℕ). IsRowVerdictOn n b shortest verdict) f is)

pub returns-in_err-shortest : goal.returns-in_err-shortest
returns-in_err-shortest c =
    let q = c.args.row.now in
    let fault = c.in_err-shortest.field-0.0 in
    let Refused : Cell → Cell → Type 0 = λ a b. Certifies c.args.map.now a b c.in_ok-proposal.proposal (Err fault) in
    let refused : Refused q.start q.goal = subst (λ (a : Cell). Refused a q.goal) c.start-start.ensures
    (subst (λ (b : Cell). Refused c.start-start.result b) c.goal-goal.ensures c.in_err-shortest.ensures.answer) in
    refusal_judged _ q _ fault c.from_residual-in_err-shortest.ensures.1 (c.in_ok-proposal.proposal, refused)

pub returns : goal.returns
returns c =
    let q = c.args.row.now in (
      c.in_ok-shortest.shortest,
      certified _ q c.start-start.result c.goal-goal.result c.in_ok-proposal.proposal c.in_ok-shortest.shortest c.start-start.ensures c.goal-goal.ensures c.in_ok-shortest.ensures.answer
          c.in_ok-shortest.ensures.least,
      on_query q _ _ _ _ c.listed.ensures.number c.listed.ensures.decimals c.new.ensures,
    )
