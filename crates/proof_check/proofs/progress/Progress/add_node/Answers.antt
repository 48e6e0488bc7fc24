-- The line is right, or has the first fault of its kind.
use Rattle.std.proofs.Common.{inl, inr, subst}
use Rattle.std.proofs.lemmas.Result.{err_from_is_err_and}
use Rattle.proof_text.specs.ProofLines.{IsNodeOrLeaf, SpellsNodeLine}
use Rattle.proof_check.specs.Code.Progressing.{due_of}
use Rattle.proof_check.specs.Code.Stack.{subtree_of, subtrees}
use Rattle.proof_check.proofs.LineLemmas.{leaf_follows, node_follows, refused_by_leaf, refused_by_limits, refused_by_place}
use Rattle.proof_check.proofs.PushLemmas.{either_way}
use Rattle.proof_check.proofs.StackLemmas.{next_of}
use Rattle.proof_check.proofs.progress.Progress.add_node.Goals as goal

pub returns-in_err-check_limits : goal.returns-in_err-check_limits
returns-in_err-check_limits c = λ m ends progress.
    let p = err_from_is_err_and c.from_residual-in_err-check_limits.result c.from_residual-in_err-check_limits.ensures.1 in
    let old = c.args.self.now in
    let aim = c.args.aim in
    let it = next_of m ends aim old progress c.requires.stage c.requires.due in
    rw (p.1, p.2) (refused_by_limits m ends aim.objective aim.bound old.nodes c.args.number (subtree_of ends old.judge.trail.demands.items it.next)
    (subtrees ends old.judge.trail.demands.items it.others) c.args.line.now (due_of old) it.is_due c.requires.short c.in_err-check_limits.field-0.0
    (c.in_ok-node.node, c.in_ok-node.ensures.0, c.in_ok-node.ensures.1) (c.in_err-check_limits.ensures it.others it.next it.items))

pub returns-in-None : goal.returns-in-None
returns-in-None c = λ m ends progress.
    let old = c.args.self.now in
    let aim = c.args.aim in
    let it = next_of m ends aim old progress c.requires.stage c.requires.due in
    let here = subtree_of ends old.judge.trail.demands.items it.next in
    let rest = subtrees ends old.judge.trail.demands.items it.others in
    let within = c.in_ok-check_limits.ensures it.others it.next it.items in
    let leaf = subst (λ n. SpellsNodeLine n c.args.line.now) c.in-None.is c.in_ok-node.ensures.0 in
    either_way c.add_leaf.result _ _ _ _
    (λ u h. (
      h.0,
      leaf_follows m ends aim.objective aim.bound old.nodes c.args.number here rest c.args.line.now (due_of old) it.is_due c.requires.short
          (due_of c.add_leaf.new.self) leaf within h.1 h.2,
    ))
    (λ f h. refused_by_leaf m ends aim.objective aim.bound old.nodes c.args.number here rest c.args.line.now (due_of old) it.is_due c.requires.short f leaf within h)
    (c.add_leaf.ensures m ends it.others it.next progress c.requires.stage it.items within)

pub returns-in-Some : goal.returns-in-Some
returns-in-Some c = λ m ends progress.
    let old = c.args.self.now in
    let aim = c.args.aim in
    let node = c.in-Some.node in
    let it = next_of m ends aim old progress c.requires.stage c.requires.due in
    let here = subtree_of ends old.judge.trail.demands.items it.next in
    let rest = subtrees ends old.judge.trail.demands.items it.others in
    let within = c.in_ok-check_limits.ensures it.others it.next it.items in
    let spells = subst (λ n. SpellsNodeLine n c.args.line.now) c.in-Some.is c.in_ok-node.ensures.0 in
    let is_node = subst IsNodeOrLeaf c.in-Some.is c.in_ok-node.ensures.1 in
    either_way c.add_split.result _ _ _ _
    (λ u h. (
      h.0,
      node_follows m ends aim.objective aim.bound old.nodes c.args.number here rest c.args.line.now (due_of old) it.is_due c.requires.short
          (due_of c.add_split.new.self) node spells is_node within h.1 h.2,
    ))
    (λ f h. elim h [
      | inl unjudged ↦ inl (unjudged)
      | inr misplaced ↦ refused_by_place m ends aim.objective aim.bound old.nodes c.args.number here rest c.args.line.now (due_of old) it.is_due c.requires.short f
          node spells is_node within misplaced
    ])
    (c.add_split.ensures m ends it.others it.next progress c.requires.stage it.items within)
