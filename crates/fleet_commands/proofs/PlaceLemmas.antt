-- The lines of the places from one on, by the line of that one.
use Rattle.std.proofs.Common.{◌≡◌, ℕ, ◌+◌, ◌-◌, ◌<◌, ◌≤◌, suc, [], ◌∷◌, ◌++◌, map, ap, arith}
use Rattle.std.specs.List.{range_with_len}
use Rattle.text_io.specs.Text.{ended, line_feed}
use Rattle.model.specs.Timetable.{Track}
use Rattle.fleet_commands.specs.LostPlaces.{place_line, places_text}

pub places-next : (track : Track) (from to : ℕ) → from ≤ to
    → places_text track from to ≡ (place_line track from ++ line_feed ∷ []) ++ places_text track (from + 1) to
places-next track from to within =
    let more : to + 1 - from ≡ suc (to + 1 - (from + 1)) = omega (arith, within) in
    ap (λ n. ended (map (place_line track) (range_with_len from n))) more

-- behind the last none is left
pub places-end : (track : Track) (from to : ℕ) → to < from → places_text track from to ≡ []
places-end track from to past =
    let none : to + 1 - from ≡ 0 = omega (arith, past) in
    ap (λ n. ended (map (place_line track) (range_with_len from n))) none
