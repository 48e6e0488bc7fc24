-- The entries that counters tell.
use Rattle.std.specs.Prelude.{◌==◌, if◌then◌else◌, List, [], ◌∷◌}
use Rattle.model.specs.declared.entry.Entry.{Entry}
use Rattle.agent.specs.declared.counters.Counter.{Counter}

-- of each agent that has a number above 0
abbrev pub told_entries : List Counter → List Entry
told_entries [] = []
told_entries (c ∷ counters) =
    if c.done == 0 then told_entries counters else record { agent = c.agent; done = c.done }
    ∷ told_entries counters
