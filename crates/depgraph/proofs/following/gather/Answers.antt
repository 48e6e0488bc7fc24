-- One agent more.
use Rattle.std.proofs.Common.{◌≡◌, ◌≢◌, ℕ, ◌+◌, ◌<◌, length, set, inl, inr, arith, refl, sym, ap, subst, ◌∙◌}
use Rattle.std.proofs.lemmas.Bool.{cases_lt, cases_eq}
use Rattle.std.proofs.lemmas.List.{get_or-set_same, get_or-set_other}
use Rattle.depgraph.specs.Code.Entries.{IsEntry}
use Rattle.depgraph.specs.Code.Meetings.{ComesNextAt, IsInComings, block_times, coming_by, follower_at, list_at, no_follower}
use Rattle.depgraph.proofs.following.gather.Goals as goal

before : (b at : ℕ) → b < at + 1 → (b ≡ at → ⊥) → b < at
before b at sooner other = elim (cases_lt b at) [ inl less ↦ less | inr past ↦ absurd (other (omega (arith, sooner, past))) ]

pub look_ahead-requires-clause-at : goal.look_ahead-requires-clause-at
look_ahead-requires-clause-at c =
    let was = c.loop-at.invariant in
    let less = c.loop-at-test.true in
    subst (ComesNextAt c.args.meetings.now c.args.time) (sym (was.rest c.loop-at.at (omega arith))) (c.requires.all.at c.loop-at.at less)

pub loop-at-init : goal.loop-at-init
loop-at-init c =
    let was = c.loop-step.invariant in
    let past = c.loop-step-test.false in
    record {
      count = was.count;
      agents = λ b. refl;
      past = λ b less. absurd (omega (arith, less));
      rest = λ b after. refl;
      sound = λ s less p inside. (let none = ap length (was.none s (omega (arith, less, past))) in absurd (omega (arith, inside, none)));
      whole = λ b less k e s within entry meets is. absurd (omega (arith, less));
    }

pub loop-at-preserved : goal.loop-at-preserved
loop-at-preserved c =
    let was = c.loop-at.invariant in
    let m = c.args.meetings.now in
    let at = c.loop-at.at in
    let followers = c.loop-at.followers in
    let less = c.loop-at-test.true in
    let did = c.in_ok-look_ahead.ensures in
    let new = c.look_ahead.new.follower in
    let long = c.loop-at.auto.followers in
    let here : follower_at (set followers at new) at ≡ new = get_or-set_same followers at new no_follower (omega (arith, less, long)) in
    let there = λ (b : ℕ) (other : b ≢ at). get_or-set_other followers at b new no_follower other in
    let own : (follower_at followers at).agent ≡ (follower_at c.args.followers.now at).agent = was.agents at in
    record {
      count = did.added.count ∙ was.count;
      agents = λ b. elim (cases_eq b at) [
        | inl same ↦ ap (λ q. (follower_at (set followers at new) q).agent) same ∙ ap (λ f. f.agent) here ∙ did.agent ∙ own ∙ ap (λ q. (follower_at c.args.followers.now q).agent) (sym same)
        | inr other ↦ ap (λ f. f.agent) (there b other) ∙ was.agents b
      ];
      past = λ b sooner. elim (cases_eq b at) [
        | inl same ↦ subst (λ q. ComesNextAt m (c.args.time + block_times) (follower_at (set followers at new) q)) (sym same) (subst (ComesNextAt m (c.args.time + block_times)) (sym here) did.at)
        | inr other ↦ subst (ComesNextAt m (c.args.time + block_times)) (sym (there b other)) (was.past b (before b at sooner other))
      ];
      rest = λ b after. there b (λ same. omega (arith, same, after)) ∙ was.rest b (omega (arith, after));
      sound = λ s within. did.added.sound s within (was.sound s within);
      whole = λ b sooner k e s within entry meets is. elim (cases_eq b at) [
        | inl same ↦ (
            let agent : (follower_at followers at).agent ≡ (follower_at c.args.followers.now b).agent = own ∙ ap (λ q. (follower_at c.args.followers.now q).agent) (sym same) in
            subst (λ i. IsInComings (list_at c.look_ahead.new.block s) (coming_by m i k e)) agent (did.added.own k e s within (subst (λ i. IsEntry m.ends.now i k e) (sym agent) entry) meets is)
            )
        | inr other ↦ did.added.kept s (coming_by m (follower_at c.args.followers.now b).agent k e) within (was.whole b (before b at sooner other) k e s within entry meets is)
      ];
    }

pub returns-clause-all : goal.returns-clause-all
returns-clause-all c =
    let was = c.loop-at.invariant in
    let past = c.loop-at-test.false in
    let long = c.loop-at.auto.followers in
    record {
      at = λ b less. was.past b (omega (arith, less, past, long));
      all = λ i k e entry meets after. (
          let found = c.requires.all.all i k e entry meets (omega (arith, after)) in
          let inside = found.1 in
          (found.0, omega (arith, inside, long), was.agents found.0 ∙ found.2)
          );
    }

pub returns-clause-block : goal.returns-clause-block
returns-clause-block c =
    let was = c.loop-at.invariant in
    let m = c.args.meetings.now in
    let past = c.loop-at-test.false in
    record {
      count = was.count;
      sound = was.sound;
      whole = λ s within i k e entry meets is. (
          let found = c.requires.all.all i k e entry meets (omega (arith, is)) in
          let inside = found.1 in
          subst (λ j. IsInComings (list_at c.loop-at.block s) (coming_by m j k e)) found.2
          (was.whole found.0 (omega (arith, inside, past)) k e s within (subst (λ j. IsEntry m.ends.now j k e) (sym found.2) entry) meets is)
          );
    }
