use Rattle.proof_check.proofs.StackLemmas.{due_decided, nodes_or_none}
use Rattle.proof_check.proofs.progress.Progress.is_line_due.Goals as goal

pub returns-in-Nodes : goal.returns-in-Nodes
returns-in-Nodes c =
    let p = c.args.self.now in
    due_decided _ c.is_empty.result _ _ c.is_empty.ensures p.due.ok.0
    (nodes_or_none p.judge.ends.items p.judge.trail.demands.items p.stage c.in-Nodes.field-0 p.nodes p.due.items c.in-Nodes.is)
