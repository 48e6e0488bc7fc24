-- One entry more.
use Rattle.std.proofs.Common.{◌≡◌, ◌+◌, ◌-◌, ◌<◌, ◌≤◌, ℕ, List, suc, Some, None, true, false, length, get_or, inl, inr, arith, sym, ap, subst, ◌∙◌}
use Rattle.std.proofs.lemmas.Bool.{cases_lt}
use Rattle.std.proofs.lemmas.Option.{same_Some}
use Rattle.depgraph.specs.declared.sharing.Owners.{Owners}
use Rattle.depgraph.specs.Code.Entries.{begin_in, IsEntry}
use Rattle.depgraph.specs.Code.Following.{AreEntries}
use Rattle.depgraph.specs.Code.Meetings.{IsOwnerSeen}
use Rattle.depgraph.proofs.sharing.shared_cells.Goals as goal

-- the entry at hand is among those of its agent
at_hand : (times ends numbers : List ℕ) (limit agent entry : ℕ) → AreEntries times ends numbers limit → agent < length ends → begin_in ends agent ≤ entry → entry < get_or ends agent 0
    → (entry < length numbers) × (get_or numbers entry 0 < limit) × (length numbers < 4294967296)
at_hand times ends numbers limit agent entry h is_agent after within =
    let inside = h.inside agent (entry - begin_in ends agent) entry (record { is_agent = is_agent; place = omega (arith, after); within = within }) in
    let count = h.count in
    let all = h.all in
    let less : entry < length numbers = omega (arith, inside, count) in
    (less, h.known entry less, omega (arith, count, all))

-- who was seen before is still the owner of a cell that isn't shared
still : (n agent m i : ℕ) (old new : Owners) → IsOwnerSeen n agent old new → (get_or old.shared.items m true ≡ false → get_or old.owners.items m None ≡ Some i)
    → get_or new.shared.items m true ≡ false → get_or new.owners.items m None ≡ Some i
still n agent m i old new seen was alone = seen.kept m i alone (was (seen.shared m alone))

pub offset_bounds-numbers-entry : goal.offset_bounds-numbers-entry
offset_bounds-numbers-entry c =
    let here = at_hand c.args.times.now c.args.ends.now c.args.numbers.now c.args.limit c.loop-agent.agent c.loop-entry.entry c.requires c.loop-agent-test.true c.loop-entry.invariant.after
    c.loop-entry-test.true in
    let less = here.0 in
    let all = here.2 in
    omega (arith, less, all)

pub bounds-numbers-entry : goal.bounds-numbers-entry
bounds-numbers-entry c =
    (at_hand c.args.times.now c.args.ends.now c.args.numbers.now c.args.limit c.loop-agent.agent c.loop-entry.entry c.requires c.loop-agent-test.true c.loop-entry.invariant.after
    c.loop-entry-test.true).0

pub see-requires-clause-owner : goal.see-requires-clause-owner
see-requires-clause-owner c =
    let known = (at_hand c.args.times.now c.args.ends.now c.args.numbers.now c.args.limit c.loop-agent.agent c.loop-entry.entry c.requires c.loop-agent-test.true c.loop-entry.invariant.after
    c.loop-entry-test.true).1 in
    let count = c.loop-entry.invariant.owner_count in
    omega (arith, known, count)

pub see-requires-clause-shared : goal.see-requires-clause-shared
see-requires-clause-shared c =
    let known = (at_hand c.args.times.now c.args.ends.now c.args.numbers.now c.args.limit c.loop-agent.agent c.loop-entry.entry c.requires c.loop-agent-test.true c.loop-entry.invariant.after
    c.loop-entry-test.true).1 in
    let count = c.loop-entry.invariant.shared_count in
    omega (arith, known, count)

pub loop-entry-init : goal.loop-entry-init
loop-entry-init c =
    let was = c.loop-agent.invariant in
    let begin = was.begin in
    let up = c.requires.begins c.loop-agent.agent c.loop-agent-test.true in
    record {
      after = omega (arith, begin);
      most = omega (arith, begin, up);
      owner_count = was.owner_count;
      shared_count = was.shared_count;
      past = was.past;
      own = λ k e entry before alone. (let at = entry.place in absurd (omega (arith, at, before, begin)));
    }

pub loop-entry-preserved : goal.loop-entry-preserved
loop-entry-preserved c =
    let was = c.loop-entry.invariant in
    let did = c.see.ensures in
    let numbers = c.args.numbers.now in
    let after = was.after in
    let entry = c.loop-entry.entry in
    let less = c.loop-entry-test.true in
    let old = c.loop-entry.owners in
    let new = c.see.new.self in
    record {
      after = omega (arith, after);
      most = omega (arith, less);
      owner_count = did.owner_count ∙ was.owner_count;
      shared_count = did.shared_count ∙ was.shared_count;
      past = λ i k e own earlier alone. still (get_or numbers entry 0) c.loop-agent.agent (get_or numbers e 0) i old new did (was.past i k e own earlier) alone;
      own = λ k e own sooner alone. elim (cases_lt e entry) [
        | inl before ↦ still (get_or numbers entry 0) c.loop-agent.agent (get_or numbers e 0) c.loop-agent.agent old new did (was.own k e own before) alone
        | inr end ↦ (
            let same : entry ≡ e = omega (arith, sooner, end) in
            subst (λ d. get_or new.shared.items (get_or numbers d 0) true ≡ false → get_or new.owners.items (get_or numbers d 0) None ≡ Some c.loop-agent.agent) same did.own alone
            )
      ];
    }

pub loop-agent-preserved : goal.loop-agent-preserved
loop-agent-preserved c =
    let was = c.loop-entry.invariant in
    let most = was.most in
    let past = c.loop-entry-test.false in
    let end : c.loop-entry.entry ≡ get_or c.args.ends.now c.loop-agent.agent 0 = omega (arith, most, past) in
    let next : suc c.loop-agent.agent ≡ c.loop-agent.agent + 1 = omega arith in
    record {
      begin = end ∙ ap (begin_in c.args.ends.now) next;
      owner_count = was.owner_count;
      shared_count = was.shared_count;
      past = λ i k e entry sooner alone. elim (cases_lt i c.loop-agent.agent) [
        | inl before ↦ was.past i k e entry before alone
        | inr not_before ↦ (
            let same : i ≡ c.loop-agent.agent = omega (arith, sooner, not_before) in
            let own = subst (λ j. IsEntry c.args.ends.now j k e) same entry in
            let within = own.within in
            was.own k e own (omega (arith, within, end)) alone ∙ ap Some (sym same)
            )
      ];
    }

pub returns : goal.returns
returns c =
    let was = c.loop-agent.invariant in
    let past = c.loop-agent-test.false in
    record {
      count = was.shared_count;
      own = λ i j k l d e own other same alone. (
          let is_agent = own.is_agent in
          let is_other = other.is_agent in
          let first = was.past i k d own (omega (arith, is_agent, past)) alone in
          let second = was.past j l e other (omega (arith, is_other, past)) (ap (λ n. get_or c.loop-agent.owners.shared.items n true) (sym same) ∙ alone) in
          same_Some i j (sym first ∙ ap (λ n. get_or c.loop-agent.owners.owners.items n None) same ∙ second)
          );
    }
