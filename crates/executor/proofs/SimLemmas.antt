-- What a write of a tape leaves that was armed.
use Rattle.std.proofs.Common.{◌≡◌, ℕ, ◌+◌, ◌≤◌, ◌++◌, false, List, length, take, Some, None, refl, sym, ap, subst, ◌∙◌}
use Rattle.std.proofs.Math.Seq.{take-append-add}
use Rattle.std.proofs.lemmas.Bool.{true≢false}
use Rattle.std.proofs.lemmas.List.{length-take-le}
use Rattle.agent.specs.Tape.{HasFailed, IsTorn}
use Rattle.executor.specs.declared.sim_tape.SimTape.{SimTape}
use Rattle.executor.specs.SimTape.{sim_state, sim_armed, IsSimWrite}

pub torn : (t u : SimTape) (at n : ℕ) (bytes : List ℕ) → at ≤ length (sim_state t).contents → sim_armed t ≡ Some n → sim_armed u ≡ None
    → (sim_state u).room ≡ (sim_state t).room → (sim_state u).contents ≡ take (at + n) (take at (sim_state t).contents ++ bytes)
    → HasFailed (sim_state t).failures (sim_state u).failures → IsSimWrite t at bytes false u
torn t u at n bytes within armed disarmed room contents failed =
    let old = (sim_state t).contents in
    let kept = contents ∙ ap (λ k. take (k + n) (take at old ++ bytes)) (sym (length-take-le at old within)) ∙ take-append-add (take at old) bytes n in
    record {
      torn = subst (λ o. IsTorn o (sim_armed u) (sim_state t) (sim_state u) at bytes false) (sym armed) (refl, disarmed, kept);
      room = room;
      stores = λ good. absurd (true≢false (sym good));
      counts = λ good. absurd (true≢false (sym good));
      fails = λ bad. failed;
    }
