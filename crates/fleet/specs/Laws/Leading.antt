-- What deeds one behind the other come to.
use Rattle.std.proofs.Common.{◌≡◌, ℕ, List, [], ◌∷◌, ◌++◌, refl, sym, subst}
use Rattle.grid.specs.declared.cell.Cell.{Cell}
use Rattle.model.specs.Timetable.{Track, Timetable}
use Rattle.agent.specs.States.{State}
use Rattle.fleet.specs.Deeds.{Deed, Does, DoesAll}
use Rattle.fleet.specs.FleetSafety.{walked_on, walked_through}

module _ (table : Timetable) (i : ℕ) (track : Track) where
  -- deeds go on where those before them ended
  pub leads-on : (old mid new : State) (first second : List Deed)
      → DoesAll table i track old first mid → DoesAll table i track mid second new
      → DoesAll table i track old (first ++ second) new
  leads-on old mid new [] second leads more =
      subst (λ s. DoesAll table i track s second new) leads more
  leads-on old mid new (deed ∷ first) second leads more =
      (leads.0, leads.1, leads-on leads.0 mid new first second leads.2 more)

  -- so each end of them has a state from which it leads
  pub leads-apart : (old new : State) (first second : List Deed)
      → DoesAll table i track old (first ++ second) new
      → (mid : State) × DoesAll table i track old first mid × DoesAll table i track mid second new
  leads-apart old new [] second leads = (old, refl, leads)
  leads-apart old new (deed ∷ first) second leads =
      let rest = leads-apart leads.0 new first second leads.2 in
      (rest.0, (leads.0, leads.1, rest.1), rest.2)

  -- one deed more
  pub leads-more : (old mid new : State) (deeds : List Deed) (deed : Deed)
      → DoesAll table i track old deeds mid → Does table i track mid deed new
      → DoesAll table i track old (deeds ++ deed ∷ []) new
  leads-more old mid new deeds deed leads does =
      leads-on old mid new deeds (deed ∷ []) leads (new, does, refl)

  -- the last deed
  pub leads-last : (old new : State) (deeds : List Deed) (deed : Deed)
      → DoesAll table i track old (deeds ++ deed ∷ []) new
      → (mid : State) × DoesAll table i track old deeds mid × Does table i track mid deed new
  leads-last old new deeds deed leads =
      let parts = leads-apart old new deeds (deed ∷ []) leads in
      let last = parts.2 in
      (parts.0, parts.1, subst (Does table i track parts.0 deed) (sym last.2) last.1)

pub walked-more : (deeds : List Deed) (deed : Deed) (cells : List Cell)
    → walked_through (deeds ++ deed ∷ []) cells ≡ walked_on deed (walked_through deeds cells)
walked-more [] deed cells = refl
walked-more (first ∷ deeds) deed cells = walked-more deeds deed (walked_on first cells)
