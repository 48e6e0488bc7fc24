use Rattle.std.proofs.Common.{◌≡◌, ℕ, zero, suc, List, [], ◌∷◌, ◌++◌, Bool, true, false, get_or, drop, Some, None, Ok, Err, max, eqb, inl, inr, refl, ap, lit<, lit≤, arith}
use Rattle.std.specs.Prelude.{◌||◌, if◌then◌else◌, codes}
use Rattle.std.specs.Fmt.{digits}
use Rattle.std.specs.List.{flat_map}
use Rattle.std.proofs.lemmas.Bool.{ne_eqb}
use Rattle.hex.specs.Hex.{encode_with, decode_pairs}
use Rattle.model.specs.declared.held.Held.TheVariants.{At, Between}
use Rattle.model.specs.Examples.{leader, follower, row}
use Rattle.model.specs.Messages.{own_message, message_bytes}
use Rattle.agent.specs.States.{State}
use Rattle.agent.specs.declared.refusal.Refusal.TheVariants.{Waits}
use Rattle.fleet.specs.Deeds.{Deed, opens, starts, finishes, says, hears, ends, ends_starting}
use Rattle.robot.specs.Requests.{start, finish, say, hear, AsksFor}
use Rattle.transcripts.specs.Processes.{Process, AreProcesses, IsProcess, FitsProcess}
use Rattle.transcripts.specs.Transcripts.{seen_in, seen_of, RunsBy, AreAllPassedOn}
use Rattle.fleet_trials.specs.ReadAndWritten.{cell_in_row, row_processes, row_transcript, leader_killed, leader_again, follower_waiting, followers_deeds, row_deeds, row_tapes}
use Rattle.fleet_trials.proofs.read_and_written.Goals as goal

abbrev state : ℕ → Bool → State
state records broken = record { records = records; heard = []; broken = broken }

-- ---- the leader

-- what its two processes did
abbrev first_deeds : List Deed
first_deeds = opens (At (cell_in_row 1)) 0 ∷ ends_starting ∷ []

abbrev second_deeds : List Deed
second_deeds = opens (Between (cell_in_row 1) (cell_in_row 2)) 0 ∷ finishes (Ok (cell_in_row 2)) ∷ says (Ok (message_bytes 7 0 1)) ∷ ends ∷ []

first-leader : IsProcess 0 0 leader_killed first_deeds 1
unfolding digits
first-leader = record {
  track = leader;
  is_track = refl;
  within = omega arith;
  is_first = refl;
  done = [];
  last = state 0 false;
  are_answered = (refl, refl);
  ending = ends_starting;
  is_ending = inr (inl (refl, refl));
  end = state 1 true;
  leaves = record { heard = refl; outcome = inr (refl, inr refl, refl) };
  is_new = refl;
  are_deeds = refl;
}

second-leader : IsProcess 0 1 leader_again second_deeds 2
unfolding digits encode_with
second-leader = record {
  track = leader;
  is_track = refl;
  within = omega arith;
  is_first = refl;
  done = finishes (Ok (cell_in_row 2)) ∷ says (Ok (message_bytes 7 0 1)) ∷ [];
  last = state 2 false;
  are_answered = (
    state 2 false,
    finishes (Ok (cell_in_row 2)) ∷ [],
    says (Ok (message_bytes 7 0 1)) ∷ [],
    inl (inl (finish, finishes (Ok (cell_in_row 2)), refl, tt, refl, refl), (state 2 false, record { heard = refl; outcome = inl (refl, refl, refl) }, refl)),
    (
      state 2 false,
      says (Ok (message_bytes 7 0 1)) ∷ [],
      [],
      inl (inl (say, says (Ok (message_bytes 7 0 1)), refl, tt, refl, refl), (state 2 false, ((refl, record { spelled = refl }), refl), refl)),
      (refl, refl),
      refl,
    ),
    refl,
  );
  ending = ends;
  is_ending = refl;
  end = state 2 false;
  leaves = refl;
  is_new = refl;
  are_deeds = refl;
}

-- ---- the follower

-- the counter of the leader is raised, and no other
raised : (b : Bool) → (if b then Some 1 else None) ≡ (if b || false then Some (max 0 (if b then max 1 0 else 0)) else None)
raised true = refl
raised false = refl

abbrev told : ℕ → State
told records = record { records = records; heard = record { agent = 0; done = 1 } ∷ []; broken = false }

asks-to-hear : AsksFor (hear (message_bytes 7 0 1)) (codes "hear 460100000000000700000001")
unfolding decode_pairs
asks-to-hear = (codes "460100000000000700000001", refl, refl, lit≤ tt)

only-follower : IsProcess 1 0 follower_waiting followers_deeds 1
unfolding digits
only-follower = record {
  track = follower;
  is_track = refl;
  within = omega arith;
  is_first = refl;
  done = starts (Err (Waits 0 1)) ∷ hears (message_bytes 7 0 1) (Ok (0, 1)) ∷ starts (Ok (cell_in_row 1)) ∷ [];
  last = record { records = 1; heard = record { agent = 0; done = 1 } ∷ []; broken = false };
  are_answered = (
    state 0 false,
    starts (Err (Waits 0 1)) ∷ [],
    hears (message_bytes 7 0 1) (Ok (0, 1)) ∷ starts (Ok (cell_in_row 1)) ∷ [],
    inl (inl (start, starts (Err (Waits 0 1)), refl, tt, refl, refl), (state 0 false, (refl, refl), refl)),
    (
      told 0,
      hears (message_bytes 7 0 1) (Ok (0, 1)) ∷ [],
      starts (Ok (cell_in_row 1)) ∷ [],
      inl (
        inl (hear (message_bytes 7 0 1), hears (message_bytes 7 0 1) (Ok (0, 1)), asks-to-hear, refl, refl, refl),
        (
          told 0,
          (
            record { plan = 7; message = own_message 0 1 },
            record {
              in_range = record { plan = lit< tt; sender = lit< tt; count = lit< tt; agents = (lit< tt, tt); numbers = (lit< tt, tt) };
              spelled = inl (1, refl, record { spelled = refl });
            },
            (refl, λ j. raised (eqb 0 j), refl, refl),
          ),
          refl,
        ),
      ),
      (
        told 1,
        starts (Ok (cell_in_row 1)) ∷ [],
        [],
        inl (inl (start, starts (Ok (cell_in_row 1)), refl, tt, refl, refl), (told 1, record { heard = refl; outcome = inl (refl, refl, refl) }, refl)),
        (refl, refl),
        refl,
      ),
      refl,
    ),
    refl,
  );
  ending = ends;
  is_ending = refl;
  end = told 1;
  leaves = refl;
  is_new = refl;
  are_deeds = refl;
}

-- ---- all of it

fits : (i : ℕ) (process : Process) (new : ℕ) → process.by ≡ row → FitsProcess (RunsBy row) i process new
fits i process new same = inr (λ track count there less. same)

own : (i : ℕ) → AreProcesses (RunsBy row) i 0 (row_processes i) (row_deeds i) (row_tapes i)
own zero = (1, first_deeds, second_deeds, first-leader, fits 0 leader_killed 1 refl, (2, second_deeds, [], second-leader, fits 0 leader_again 2 refl, (refl, refl), refl), refl)
own (suc zero) = (1, followers_deeds, [], only-follower, fits 1 follower_waiting 1 refl, (refl, refl), refl)
own (suc (suc i)) =
    let first = ne_eqb (suc (suc i)) 0 (λ e. omega (arith, e)) in
    let second = ne_eqb (suc (suc i)) 1 (λ e. omega (arith, e)) in
    simp (first, second) (refl, refl)

in-order : (i : ℕ) → seen_of row_transcript i ≡ flat_map seen_in (row_processes i)
in-order zero = refl
in-order (suc zero) = refl
in-order (suc (suc i)) =
    let first = ne_eqb 0 (suc (suc i)) (λ e. omega (arith, e)) in
    let second = ne_eqb 1 (suc (suc i)) (λ e. omega (arith, e)) in
    let third = ne_eqb (suc (suc i)) 0 (λ e. omega (arith, e)) in
    let fourth = ne_eqb (suc (suc i)) 1 (λ e. omega (arith, e)) in
    simp (first, second, third, fourth)

-- a line that begins otherwise asks to hear nothing
other-line : (bytes line : List ℕ) → (get_or line 0 0 ≡ 104 → ⊥) → AsksFor (hear bytes) line → ⊥
other-line bytes line other (digits, is, decodes, short) = other (ap (λ l. get_or l 0 0) is)

passed-on : AreAllPassedOn row_transcript
passed-on = (
  λ bytes asks heard. absurd (other-line bytes (codes "start") (λ e. omega (arith, e)) asks),
  (
    λ bytes asks heard. inl (asks.0, ap (λ l. codes "said " ++ drop 5 l) asks.1, asks.2),
    (
      λ bytes asks heard. absurd (other-line bytes (codes "say") (λ e. omega (arith, e)) asks),
      (
        λ bytes asks heard. absurd (other-line bytes (codes "finish") (λ e. omega (arith, e)) asks),
        (tt, (λ bytes asks heard. absurd (other-line bytes (codes "start") (λ e. omega (arith, e)) asks), (tt, (tt, tt)))),
      ),
    ),
  ),
)

pub returns : goal.returns
returns c = record { own = own; in_order = in-order; passed_on = passed-on }
