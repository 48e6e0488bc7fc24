use Rattle.std.proofs.Common.{◌≡◌, ℕ, ◌+◌, ◌/◌, [], ap, sym, subst}
use Rattle.std.specs.Prelude.{max}
use Rattle.std.proofs.Math.Path.{fun_ext}
use Rattle.model.specs.Timetable.{Timetable}
use Rattle.agent.specs.States.{State, finished_moves}
use Rattle.fleet.specs.Ahead.{most_free, reach, IsSafeAhead}
use Rattle.fleet.specs.Fleets.{Log, deeds_of}
use Rattle.model.specs.Safety.{MayBeIn}
use Rattle.continuing.specs.Continuing.{last_plan}
use Rattle.fleet.specs.OwnPlans.{log_of}
use Rattle.transcripts.specs.Transcripts.{states_on}
use Rattle.transcripts.proofs.FreeLemmas.{all-looks-within}
use Rattle.transcripts.proofs.laws.drives_ahead_are_safe.Goals as goal

-- how far drives may be is told by the tapes alone
safe-ahead : (table : Timetable) (log : Log) (states : ℕ → State) (tapes : ℕ → ℕ) → ((i : ℕ) → (states i).records ≡ tapes i) → IsSafeAhead table log states
    → IsSafeAhead table log (states_on tapes)
safe-ahead table log states tapes same safe i j c first second = safe i j c (back i first) (back j second) where
  begun : reach log (states_on tapes) ≡ reach log states
  begun = fun_ext (λ k. ap (λ n. max ((n + 1) / 2) (most_free (deeds_of log k))) (sym (same k)))

  finished : ◌≡◌ {A = ℕ → ℕ} (λ k. finished_moves (states_on tapes k)) (λ k. finished_moves (states k))
  finished = fun_ext (λ k. ap (λ n. n / 2) (sym (same k)))

  back : (k : ℕ) → MayBeIn table (reach log (states_on tapes)) (λ k. finished_moves (states_on tapes k)) k c → MayBeIn table (reach log states) (λ k. finished_moves (states k)) k c
  back k may =
      subst (λ f. MayBeIn table (reach log states) f k c) finished (subst (λ f. MayBeIn table f (λ k. finished_moves (states_on tapes k)) k c) begun may)

pub returns-clause-one_plan : goal.returns-clause-one_plan
returns-clause-one_plan c map plan table processes transcript deeds tapes limits valid is_its is =
    let fleet = c.transcripts_are_fleets.ensures.one_plan table processes transcript deeds tapes is in
    let safe = c.ahead_of_tapes.ensures.fleet map plan table fleet.0 fleet.1 limits valid is_its fleet.2 in
    (fleet.0, fleet.3, safe-ahead table fleet.0 fleet.1 tapes fleet.4 safe)

pub returns-clause-of_chain : goal.returns-clause-of_chain
returns-clause-of_chain c map plan plans last processes transcript deeds tapes chain limits valid is_its is =
    let fleet = c.transcripts_are_fleets.ensures.of_chain plan plans processes transcript deeds tapes is in
    let led = c.extending.ensures map plan plans last fleet.0 fleet.1 chain valid is_its fleet.2 in
    let looks = all-looks-within c.chains_of_plans.ensures.agrees map plan plans last chain valid is_its [] fleet.0 fleet.1 fleet.2 in
    let safe = c.ahead_of_tapes.ensures.of_plans map (last_plan plan plans) last fleet.0 fleet.1 limits valid is_its led looks in
    (log_of fleet.0, fleet.3, safe-ahead last (log_of fleet.0) fleet.1 tapes fleet.4 safe)
