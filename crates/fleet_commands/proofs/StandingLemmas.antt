-- What is known of one agent, and whom steps lead to.
use Rattle.std.proofs.Common.{◌≡◌, ℕ, zero, suc, ◌+◌, ◌<◌, List, [], get_or, length, Some, None, Ok, refl, ap, ◌∙◌, arith}
use Rattle.std.specs.Option.{IsSome}
use Rattle.std.specs.Prelude.{Option, MatchOption, unwrap_or, slice_get, slice_index_or}
use Rattle.std.proofs.lemmas.Option.{slice_get-get_or}
use Rattle.model.specs.Timetable.{Track, Timetable, track_of}
use Rattle.fleet_commands.specs.FoundTapes.{Found, finished_by}
use Rattle.fleet_commands.specs.Standing.{kept_at, kept_in, kept_now, step_from, keeper_after}

pub kept-by : (tt : Timetable) (found : List Found) (i : ℕ) (track : Track) (records : ℕ) → track_of tt i ≡ Some track → slice_get found i ≡ Some (Ok records)
    → kept_now tt found i ≡ kept_at tt (finished_by found) i track records
kept-by tt found i track records there has = ap (λ o. kept_in tt found i o (slice_get found i)) there ∙ ap (kept_in tt found i (Some track)) has

-- who waits for nobody is led no further
pub led-no-further : (waits : List (Option ℕ)) (i n : ℕ) → slice_index_or waits (keeper_after waits i n) None ≡ None → (k : ℕ) → keeper_after waits i (n + k) ≡ keeper_after waits i n
led-no-further waits i n none zero = (let same : n + 0 ≡ n = omega arith in ap (keeper_after waits i) same)
led-no-further waits i n none (suc k) =
    let before = led-no-further waits i n none k in
    let same : n + suc k ≡ suc (n + k) = omega arith in
    ap (keeper_after waits i) same ∙ ap (step_from waits) before ∙ ap (λ o. unwrap_or o (keeper_after waits i n)) none

-- the track of an agent that there is
pub track-there : (tt : Timetable) (i : ℕ) → i < length tt.tracks → (track : Track) × (track_of tt i ≡ Some track)
track-there tt i less = (get_or tt.tracks i (record { start = record { x = 0; y = 0 }; later = [] }), slice_get-get_or tt.tracks i _ less)

-- what is there where it can't be that nothing is
pub some-unless : {X : Type 0} (o : Option X) (A : Type 0) (B : X → Type 0) → MatchOption o A B → (A → ⊥) → IsSome o
some-unless None A B is cannot = absurd (cannot is)
some-unless (Some x) A B is cannot = refl
