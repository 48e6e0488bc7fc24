use Rattle.std.proofs.Common.{◌≡◌, ◌≢◌, ℕ, zero, suc, ◌≤◌, Bool, true, false, [], ◌∷◌, ◌++◌, Some, None, Err, max, eqb, inl, inr, refl, ap, subst, lit<, arith}
use Rattle.std.specs.Prelude.{◌||◌, if◌then◌else◌}
use Rattle.std.specs.List.{AllByRecursion}
use Rattle.std.proofs.lemmas.Bool.{cond-false, ne_eqb}
use Rattle.std.proofs.lemmas.Option.{same_Some, none-some}
use Rattle.model.specs.Examples.{leader, follower, row}
use Rattle.model.specs.Messages.{own_message}
use Rattle.model.specs.Timetable.{Track, track_of, Stands}
use Rattle.agent.specs.States.{State}
use Rattle.grid.specs.declared.cell.Cell.{Cell}
use Rattle.continuing.specs.Laws.Agreeing.{agrees-itself}
use Rattle.agent.specs.declared.refusal.Refusal.TheVariants.{Waits}
use Rattle.fleet.specs.Deeds.{starts, DoesAll}
use Rattle.fleet.specs.Rounds.{is_calm}
use Rattle.fleet.specs.Fleets.{deeds_of, fresh}
use Rattle.fleet.specs.OwnPlans.{SharesMoves}
use Rattle.fleet_trials.specs.Examples.{led, led_states, unheard_leader, unheard_round, bare_row, extended_states, other_row}
use Rattle.fleet_trials.proofs.examples.Goals as goal

unheard-led : (i : ℕ) (track : Track) → track_of row i ≡ Some track → DoesAll row i track (unheard_leader i) (deeds_of unheard_round i) (unheard_leader i)
unheard-led zero track is = refl
unheard-led (suc zero) track is = subst (λ x. DoesAll row 1 x (unheard_leader 1) (deeds_of unheard_round 1) (unheard_leader 1)) (same_Some follower track is)
    (unheard_leader 1, (refl, refl), refl)
unheard-led (suc (suc i)) track is = absurd (none-some track is)

all-calm : (b : Bool) → AllByRecursion (λ deed. is_calm deed ≡ true) (if b then [] ++ starts (Err (Waits 0 1)) ∷ [] else [])
all-calm true = (refl, tt)
all-calm false = tt

pub returns-clause-unheard : goal.returns-clause-unheard
returns-clause-unheard c = (unheard-led, λ i. all-calm (eqb 1 i), refl, λ arrived. (let e = arrived 1 follower refl in omega (arith, e)))

-- ---- the fleet

abbrev state : ℕ → Bool → State
state records broken = record { records = records; heard = []; broken = broken }

leader-does : DoesAll row 0 leader fresh (deeds_of led 0) (led_states 0)
leader-does = (
  state 0 false,
  (refl, refl, refl),
  (
    state 1 false,
    record { heard = refl; outcome = inl (refl, refl, refl) },
    (
      state 2 true,
      record { heard = refl; outcome = inr (refl, inr refl, refl) },
      (state 2 false, (refl, refl, refl), (state 2 false, ((refl, record { spelled = refl }), refl), refl)),
    ),
  ),
)

-- the counter of the leader is raised, and no other
raised : (b : Bool) → (if b then Some 1 else None) ≡ (if b || false then Some (max 0 (if b then max 1 0 else 0)) else None)
raised true = refl
raised false = refl

abbrev told : State
told = record { records = 0; heard = record { agent = 0; done = 1 } ∷ []; broken = false }

follower-does : DoesAll row 1 follower fresh (deeds_of led 1) (led_states 1)
follower-does = (
  state 0 false,
  (refl, refl, refl),
  (
    state 0 false,
    (refl, refl),
    (
      state 0 false,
      (refl, refl),
      (
        told,
        (
          record { plan = 7; message = own_message 0 1 },
          record {
            in_range = record { plan = lit< tt; sender = lit< tt; count = lit< tt; agents = (lit< tt, tt); numbers = (lit< tt, tt) };
            spelled = inl (1, refl, record { spelled = refl });
          },
          (refl, λ j. raised (eqb 0 j), refl, refl),
        ),
        (
          led_states 1,
          record { heard = refl; outcome = inl (refl, refl, refl) },
          (led_states 1, ((refl, record { spelled = refl; rising = (omega arith, omega arith, tt) }), refl), refl),
        ),
      ),
    ),
  ),
)

own : (i : ℕ) (track : Track) → track_of row i ≡ Some track → DoesAll row i track fresh (deeds_of led i) (led_states i)
own zero track is = subst (λ x. DoesAll row 0 x fresh (deeds_of led 0) (led_states 0)) (same_Some leader track is) leader-does
own (suc zero) track is = subst (λ x. DoesAll row 1 x fresh (deeds_of led 1) (led_states 1)) (same_Some follower track is) follower-does
own (suc (suc i)) track is = absurd (none-some track is)

nobody : (i : ℕ) → track_of row i ≡ None → deeds_of led i ≡ []
nobody zero none = absurd (cc)
nobody (suc zero) none = absurd (cc)
nobody (suc (suc i)) none =
    let first = ne_eqb 0 (suc (suc i)) (λ e. omega (arith, e)) in
    let second = ne_eqb 1 (suc (suc i)) (λ e. omega (arith, e)) in
    simp (first, second)

pub returns-clause-led : goal.returns-clause-led
returns-clause-led c = record {
  own = own;
  nobody_else = nobody;
  honest = (tt, (tt, ((0, refl), (tt, (tt, (tt, (tt, (tt, (tt, (tt, (tt, tt)))))))))));
}

-- ---- plans of their own

begun-there : (i t : ℕ) (c : Cell) → t ≤ 0 → Stands bare_row i t c → Stands row i t c
begun-there zero zero c most stands = stands
begun-there (suc zero) zero c most stands = stands
begun-there (suc (suc i)) zero c most stands = stands
begun-there i (suc t) c most stands = absurd (omega (arith, most))

abbrev at_first : ℕ → State
at_first i = state 0 false

only_leader : (k : ℕ) → k ≢ 0 → extended_states k ≡ at_first k
only_leader zero other = absurd (other refl)
only_leader (suc k) other = ap (λ n. state n false) (cond-false (eqb (suc k) 0) 1 0 (ne_eqb (suc k) 0 (λ e. omega (arith, e))))

pub returns-clause-extended : goal.returns-clause-extended
returns-clause-extended c = (
  at_first,
  (
    at_first,
    (
      at_first,
      (
        at_first,
        λ i. refl,
        record { track = _; is_track = refl; fits = bare; honest = tt; does = (refl, refl, refl); others = λ k other. refl },
      ),
      record { track = _; is_track = refl; fits = bare; honest = tt; does = (refl, refl); others = λ k other. refl },
    ),
    record { track = leader; is_track = refl; fits = record { has = omega arith; agrees = agrees-itself 0 row }; honest = tt; does = (refl, refl, refl); others = λ k other. refl },
  ),
  record {
    track = leader;
    is_track = refl;
    fits = record { has = omega arith; agrees = agrees-itself 1 row };
    honest = tt;
    does = record { heard = refl; outcome = inl (refl, refl, refl) };
    others = only_leader;
  },
) where
  bare : SharesMoves row bare_row 1 (record { start = record { x = 0; y = 0 }; later = [] }) 0
  bare = record { has = omega arith; agrees = record { number = refl; agents = refl; same = begun-there } }

others-begin : (i t : ℕ) (c : Cell) → t ≤ 0 → Stands other_row i t c → Stands row i t c
others-begin zero zero c most stands = stands
others-begin (suc zero) zero c most stands = stands
others-begin (suc (suc i)) zero c most stands = stands
others-begin i (suc t) c most stands = absurd (omega (arith, most))

pub returns-clause-other_ways : goal.returns-clause-other_ways
returns-clause-other_ways c = (
  λ shares. apart (shares.agrees.same 0 1 (record { x = 1; y = 1 }) (omega arith) refl),
  record { has = omega arith; agrees = record { number = refl; agents = refl; same = others-begin } },
) where
  apart : Stands row 0 1 (record { x = 1; y = 1 }) → ⊥
  apart same = (let e = ap (λ c. c.x) same in omega (arith, e))
