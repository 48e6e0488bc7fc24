-- A course without what the agent waits at its end.
use Rattle.std.specs.Prelude.{List, [], ◌∷◌}
use Rattle.model.specs.declared.act.Act.{Act}
use Rattle.model.specs.declared.act.Act.TheVariants.{N, E, S, W, Wait}
use Rattle.model.specs.Plan.{Course}

-- acts with one before them; a wait before none is left out
abbrev pub after_act : List Act → Act → List Act
after_act (other ∷ acts) act = act ∷ other ∷ acts
after_act [] Wait = []
after_act [] N = N ∷ []
after_act [] E = E ∷ []
after_act [] S = S ∷ []
after_act [] W = W ∷ []

abbrev pub rested_acts : List Act → List Act
rested_acts [] = []
rested_acts (act ∷ acts) = after_act (rested_acts acts) act

abbrev pub rested : Course → Course
rested course = record { start = course.start; acts = rested_acts course.acts }
