use Rattle.std.proofs.Common.{ℕ, ◌≤◌, [], ◌∷◌, ◌++◌, arith}
use Rattle.model.specs.History.{History, kept_starts, done}
use Rattle.model.specs.Laws.Histories.{done-next, known-done}
use Rattle.model.specs.Laws.Runs.{level, in_step}
use Rattle.model.proofs.laws.counters.Goals as goal

done-later : (later earlier : History) (i : ℕ) → done earlier i ≤ done (later ++ earlier) i
done-later [] earlier i = omega arith
done-later (now ∷ later) earlier i =
    let first = done-later later earlier i in
    let next = done-next now (later ++ earlier) i in
    omega (arith, first, next)

starts-later : (later earlier : History) (i : ℕ) → kept_starts earlier i ≤ kept_starts (later ++ earlier) i
starts-later [] earlier i = omega arith
starts-later (now ∷ later) earlier i = (let first = starts-later later earlier i in omega (arith, first))

pub returns-clause-starts_never_fall : goal.returns-clause-starts_never_fall
returns-clause-starts_never_fall c = starts-later

pub returns-clause-never_falls : goal.returns-clause-never_falls
returns-clause-never_falls c = done-later

pub returns-clause-known : goal.returns-clause-known
returns-clause-known c = known-done

pub returns-clause-in_step : goal.returns-clause-in_step
returns-clause-in_step c = in_step

pub returns-clause-still : goal.returns-clause-still
returns-clause-still c = λ v tab h i run rests. let bounds = in_step v tab h i run in level h i bounds.0 bounds.1 rests
