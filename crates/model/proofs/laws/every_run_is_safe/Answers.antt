-- Each agent is inside the cells that it holds, by visits that it has begun and not left; so no two hold one.
use Rattle.std.proofs.Common.{◌≡◌, ℕ, ◌+◌, [], ◌∷◌, ◌++◌, Some, None, inl, inr, arith, refl, sym, subst}
use Rattle.std.specs.Prelude.{Option, MatchOption}
use Rattle.std.proofs.lemmas.Bool.{eqb-true, cond_both}
use Rattle.grid.specs.declared.cell.Cell.{Cell}
use Rattle.model.specs.declared.version.Version.{Version}
use Rattle.model.specs.declared.held.Held.TheVariants.{At, Between}
use Rattle.model.specs.Timetable.{Track, Timetable, track_of, IsConflictFree}
use Rattle.model.specs.History.{History, kept_starts, done, is_moving}
use Rattle.model.specs.Rules.{path_cell, IsRun}
use Rattle.model.specs.Safety.{held, IsIn, Holds, HaveNeedsMet, MayBeIn}
use Rattle.model.specs.Laws.Options.{some-found}
use Rattle.model.specs.Laws.Tracks.{length-path}
use Rattle.model.proofs.Visited.{inside-apart}
use Rattle.model.specs.Laws.Runs.{Progress, progress}
use Rattle.model.proofs.WalkedLemmas.{walk-beginning}
use Rattle.model.proofs.laws.every_run_is_safe.Goals as goal

earlier_run : (v : Version) (tab : Timetable) (later earlier : History) → IsRun v tab (later ++ earlier) → IsRun v tab earlier
earlier_run v tab [] earlier run = run
earlier_run v tab (now ∷ later) earlier run = earlier_run v tab later earlier run.1

kept : (v : Version) (tab : Timetable) (h : History) → IsRun v tab h → HaveNeedsMet tab (kept_starts h) (done h)
kept v tab h run = record {
  order = λ i track there. (progress v tab h i track there run).low;
  met = λ i track k there less. (progress v tab h i track there run).met k less;
}

-- what it holds are cells of its path that it has begun and not left
held_inside : (tab : Timetable) (h : History) (i : ℕ) (track : Track) (c : Cell) → track_of tab i ≡ Some track → Progress tab h i track
    → IsIn c (held track h i) → MayBeIn tab (kept_starts h) (done h) i c
held_inside tab h i track c there went =
    let k = done h i in
    let low = went.low in
    let limit = went.limit in
    let count = length-path track.start track.later in
    cond_both (is_moving h i) (Between (path_cell track k) (path_cell track (k + 1))) (At (path_cell track k))
    (λ x. IsIn c x → MayBeIn tab (kept_starts h) (done h) i c)
    (λ going inside.
    let begun = eqb-true (kept_starts h i) (k + 1) going in
    elim inside [
      | inl first ↦ (track, k, there, omega (arith, low, limit, count), first, omega arith, low)
      | inr second ↦ (track, k + 1, there, omega (arith, begun, limit, count), second, omega arith, omega (arith, begun))
    ])
    (λ still inside. (track, k, there, omega (arith, low, limit, count), inside, omega arith, low))

inside : (v : Version) (tab : Timetable) (h : History) → IsRun v tab h → (i : ℕ) (c : Cell) → Holds tab h i c → MayBeIn tab (kept_starts h) (done h) i c
inside v tab h run i c holds =
    let known = some-found (track_of tab i) _ holds in
    held_inside tab h i known.0 c known.1 (progress v tab h i known.0 known.1 run) known.2

apart : (v : Version) (tab : Timetable) (h : History) → IsConflictFree tab → IsRun v tab h → (i j : ℕ) (c : Cell) → Holds tab h i c → Holds tab h j c → i ≡ j
apart v tab h free run i j c p q = inside-apart tab (kept_starts h) (done h) free (kept v tab h run) i j c (inside v tab h run i c p) (inside v tab h run j c q)

holds_first : (o : Option Track) (h : History) (i : ℕ) (u v : Cell)
    → MatchOption o ⊥ (λ track. held track h i ≡ Between u v) → MatchOption o ⊥ (λ track. IsIn u (held track h i))
holds_first None h i u v b = b
holds_first (Some track) h i u v b = subst (IsIn u) (sym b) (inl refl)

holds_second : (o : Option Track) (h : History) (i : ℕ) (u v : Cell)
    → MatchOption o ⊥ (λ track. held track h i ≡ Between u v) → MatchOption o ⊥ (λ track. IsIn v (held track h i))
holds_second None h i u v b = b
holds_second (Some track) h i u v b = subst (IsIn v) (sym b) (inr refl)

pub returns : goal.returns
returns c = λ version tab later earlier free whole.
    let run = earlier_run version tab later earlier whole in
    record {
      apart = apart version tab earlier free run;
      no_exchange = λ i j u v p q.
          apart version tab earlier free run i j u (holds_first (track_of tab i) earlier i u v p) (holds_second (track_of tab j) earlier j v u q);
      walks = λ i track there. walk-beginning version tab earlier i track there run;
    }
