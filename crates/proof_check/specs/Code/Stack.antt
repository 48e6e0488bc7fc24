-- The nodes that are due, the next one last.
use Rattle.std.specs.Prelude.{ℕ, List, [], ◌∷◌, ◌++◌, map, take}
use Rattle.optimality.specs.declared.constraint.Demand.{Demand}
use Rattle.optimality.specs.declared.constraint.Ends.{Ends}
use Rattle.optimality.specs.Judging.{Subtree}
use Rattle.proof_check.specs.declared.due.DueNode.{DueNode}
use Rattle.proof_check.specs.Code.Trails.{child_demands}

-- what is asked at a node that is due: what its parent was asked, and what the child asks beside
abbrev pub subtree_of : List Ends → List Demand → DueNode → Subtree
subtree_of ends demands node =
    record {
      demands = take node.asked demands ++ child_demands ends node.child;
      above = node.above;
    }

-- the next one first
abbrev pub subtrees : List Ends → List Demand → List DueNode → List Subtree
subtrees ends demands [] = []
subtrees ends demands (node ∷ nodes) =
    subtrees ends demands nodes ++ subtree_of ends demands node ∷ []

abbrev pub parents_asked : List DueNode → List ℕ
parents_asked nodes = map (λ (node : DueNode). node.asked) nodes
