-- What is written of a proof.
use Rattle.std.specs.Prelude.{ℕ, Bool, ◌==◌, if◌then◌else◌, List, ◌++◌, codes, decimal}
use Rattle.optimality.specs.declared.constraint.Objective.{Objective}
use Rattle.optimality.specs.declared.constraint.Objective.TheVariants.{Cost, Makespan}

-- the word of what is to be small
abbrev pub objective_word : Objective → List ℕ
objective_word Cost = codes "cost"
objective_word Makespan = codes "makespan"

-- The line of a bound that holds, beside what the plan costs: as `optimal cost 5 nodes 3`, where
-- that is the bound, and else as
-- `bound 4 cost 5 nodes 3`.
abbrev pub claim_words : Objective → (value bound nodes : ℕ) → List ℕ
claim_words objective value bound nodes =
    if value == bound
    then codes "optimal "
    ++ (objective_word objective
    ++ (codes " " ++ (decimal value ++ (codes " nodes " ++ (decimal nodes ++ codes "\n")))))
    else codes "bound "
    ++ (decimal bound
    ++ (codes " " ++ (objective_word objective
    ++ (codes " " ++ (decimal value ++ (codes " nodes " ++ (decimal nodes ++ codes "\n")))))))

-- as `{"optimal":true,"cost":5,"bound":5,"nodes":3}`
abbrev pub claim_json : Objective → (value bound nodes : ℕ) → List ℕ
claim_json objective value bound nodes =
    codes "{\"optimal\":"
    ++ ((if value == bound then codes "true" else codes "false")
    ++ (codes ",\"" ++ (objective_word objective
    ++ (codes "\":" ++ (decimal value
    ++ (codes ",\"bound\":"
    ++ (decimal bound ++ (codes ",\"nodes\":" ++ (decimal nodes ++ codes "}\n")))))))))

abbrev pub claim_line : (json : Bool) → Objective → (value bound nodes : ℕ) → List ℕ
claim_line json objective value bound nodes =
    if json then claim_json objective value bound nodes else claim_words objective value bound nodes

-- the line of a proof that proves nothing, by its fault's text: as `refused LeafTooLow 17 23` or
-- `{"refused":"LeafTooLow 17 23"}`
abbrev pub refused_line : (json : Bool) → (text : List ℕ) → List ℕ
refused_line json text =
    if json then codes "{\"refused\":\"" ++ (text ++ codes "\"}\n") else codes "refused "
    ++ (text ++ codes "\n")
