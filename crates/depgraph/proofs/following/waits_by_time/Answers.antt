-- All times are gone through.
use Rattle.std.proofs.Common.{◌≡◌, ℕ, List, None, length, replicate, rules, refl, sym, subst}
use Rattle.std.specs.Prelude.{Bool}
use Rattle.depgraph.specs.Code.Following.{AreEntries, AreShared}
use Rattle.depgraph.specs.Code.Waits.{no_wait}
use Rattle.depgraph.proofs.PassLemmas.{done-start, all-followed}
use Rattle.depgraph.proofs.following.waits_by_time.Goals as goal

-- there are as many numbers as it is said whether their cells are shared
shared_entries : (times ends numbers : List ℕ) (limit : ℕ) (shared : List Bool) → AreEntries times ends numbers limit → AreShared ends numbers limit shared
    → AreEntries times ends numbers (length shared) × AreShared ends numbers (length shared) shared
shared_entries times ends numbers limit shared h own = (subst (AreEntries times ends numbers) (sym own.count) h, subst (λ l. AreShared ends numbers l shared) (sym own.count) own)

pub follow-requires-clause-meetings : goal.follow-requires-clause-meetings
follow-requires-clause-meetings c =
    let both = shared_entries c.args.times.now c.args.ends.now c.args.numbers.now c.args.limit c.in_ok-shared_cells.field-0.items c.requires c.in_ok-shared_cells.ensures in
    record { entries = both.0; shared = both.1 }

pub follow-requires-clause-done : goal.follow-requires-clause-done
follow-requires-clause-done c =
    let both = shared_entries c.args.times.now c.args.ends.now c.args.numbers.now c.args.limit c.in_ok-shared_cells.field-0.items c.requires c.in_ok-shared_cells.ensures in
    let last : c.in_ok-vec.field-0.items ≡ replicate c.args.limit None = c.in_ok-vec.ensures.items_if_clones_equal (search rules) in
    let waits : c.in_ok-vec-2.field-0.items ≡ replicate (length c.args.times.now) no_wait = c.in_ok-vec-2.ensures.items_if_clones_equal (search rules) in
    done-start (record { times = c.args.times; ends = c.args.ends; numbers = c.args.numbers; shared = c.in_ok-shared_cells.field-0 }) (record { entries = both.0; shared = both.1 })
    (record { time = 0; last = c.in_ok-vec.field-0; waits = c.in_ok-vec-2.field-0 }) c.args.limit (length c.args.times.now) refl last waits (sym c.in_ok-shared_cells.ensures.count) refl

pub returns : goal.returns
returns c =
    let both = shared_entries c.args.times.now c.args.ends.now c.args.numbers.now c.args.limit c.in_ok-shared_cells.field-0.items c.requires c.in_ok-shared_cells.ensures in
    all-followed (record { times = c.args.times; ends = c.args.ends; numbers = c.args.numbers; shared = c.in_ok-shared_cells.field-0 }) (record { entries = both.0; shared = both.1 })
    c.follow.new.pass c.in_ok-follow.ensures.done c.in_ok-follow.ensures.end
