-- Where the events lead at the beginning and at the end.
use Rattle.std.proofs.Common.{◌≡◌, ℕ, ◌+◌, ◌<◌, ◌≤◌, List, [], ◌∷◌, ◌++◌, length, get_or, Some, arith, refl, sym, ap, subst, ◌∙◌}
use Rattle.std.specs.Prelude.{slice_get}
use Rattle.std.proofs.lemmas.Bool.{ne_eqb}
use Rattle.std.proofs.lemmas.Option.{none-some, slice_get-get_or, slice_get_within}
use Rattle.model.specs.declared.version.Version.{Version}
use Rattle.model.specs.Completion.{history_after, AreAccepted, IsCompletion}
use Rattle.model.specs.History.{History, kept_starts, done, messages, known}
use Rattle.model.specs.Timetable.{Track, moves, track_of}
use Rattle.executor.specs.declared.ending.Heard.{Heard}
use Rattle.executor.specs.declared.ending.Standing.{Standing}
use Rattle.executor.specs.Code.Leading.{EndingState, finished_in, Begins, StandsThere, LeadsThroughTo, LeadsThrough, AreUnheard, HasSameStandings}
use Rattle.model.specs.Laws.After.{run-more}
use Rattle.model.specs.Laws.Runs.{progress}
use Rattle.executor.proofs.CrewLemmas.{each-pushed}
use Rattle.executor.proofs.NeedLemmas.{finished-is}

-- no event leads anywhere else
pub leads-nowhere : (v : Version) (h : History) (s : EndingState) → s.events ≡ [] → s.standings ≡ [] → s.heard ≡ [] → Begins v s.timetable s.agents h
    → length (messages v s.timetable h) ≡ s.messages → LeadsThrough v s h
leads-nowhere v h s no_events nobody nothing begins said =
    subst (LeadsThroughTo v s h) (sym (ap (history_after v s.timetable h) no_events)) (record {
      accepted = subst (AreAccepted v s.timetable h) (sym no_events) tt;
      said = said;
      stand = λ i x there. absurd (none-some x (sym (ap (λ l. slice_get l i) nobody) ∙ there));
      others = λ i past less. record { broken = refl; armed = refl; begun = refl; finished = refl };
      knows = λ i a there none j. (let same = (begins.members i a there).stands.heard j in omega (arith, same));
      heard = λ n x there. absurd (none-some x (sym (ap (λ l. slice_get l n) nothing) ∙ there));
    })

-- other places change nothing of where the events lead
pub leads-same : (v : Version) (h : History) (old new : EndingState) → HasSameStandings old new → AreUnheard new.heard → LeadsThrough v old h → LeadsThrough v new h
leads-same v h old new same none_heard was =
    let table = same.same.timetable in
    let after : history_after v new.timetable h new.events ≡ history_after v old.timetable h old.events
    = ap (λ t. history_after v t h new.events) table ∙ ap (history_after v old.timetable h) same.events in
    subst (LeadsThroughTo v new h) (sym after) (record {
      accepted = subst (λ t. AreAccepted v t h new.events) (sym table) (subst (AreAccepted v old.timetable h) (sym same.events) was.accepted);
      said = ap (λ t. length (messages v t (history_after v old.timetable h old.events))) table ∙ was.said ∙ sym same.messages;
      stand = λ i x there. subst (λ t. StandsThere v t (history_after v old.timetable h old.events) i x) (sym table) (was.stand i x (ap (λ l. slice_get l i) (sym same.standings) ∙ there));
      others = λ i past less. was.others i (subst (λ l. length l ≤ i) same.standings past) (subst (λ l. i < length l) same.same.agents less);
      knows = λ i a there none j. (
          let before = was.knows i a (ap (λ l. slice_get l i) (sym same.same.agents) ∙ there) none j in
          let now = ap (λ t. known v t (history_after v old.timetable h old.events) i j) table in
          omega (arith, before, now));
      heard = λ n x there. (let zero_heard = none_heard n x there in omega (arith, zero_heard));
    })

-- where everybody has made all its moves, the events complete the run
pub completes-on : (v : Version) (h : History) (s : EndingState) → Begins v s.timetable s.agents h → length s.standings ≡ length s.timetable.tracks
    → ((i : ℕ) → i < length s.standings → (track : Track) → track_of s.timetable i ≡ Some track → moves track ≤ finished_in s.standings i)
    → LeadsThrough v s h → IsCompletion v s.timetable h s.events
completes-on v h s begins count all was = record {
  accepted = was.accepted;
  arrived = λ i track there.
      let within = slice_get_within s.timetable.tracks i track there in
      let none : Standing = record { done = 0; message = 0; told = 0; next = 0 } in
      let at = slice_get-get_or s.standings i none (omega (arith, within, count)) in
      let stands = was.stand i (get_or s.standings i none) at in
      let so_far = stands.finished in
      let number = finished-is s.standings i (get_or s.standings i none) at in
      let most = all i (omega (arith, within, count)) track there in
      let went = progress v s.timetable (history_after v s.timetable h s.events) i track there (run-more v s.timetable h s.events begins.run) in
      let low = went.low in
      let limit = went.limit in
      let still = stands.ready.still in
      record {
        all = omega (arith, so_far, number, most, low, limit);
        still = ne_eqb (kept_starts (history_after v s.timetable h s.events) i) (done (history_after v s.timetable h s.events) i + 1) (λ e. omega (arith, e, still));
      };
}

pub unheard-more : (l : List Heard) (x : Heard) → AreUnheard l → x.number ≡ 0 → AreUnheard (l ++ x ∷ [])
unheard-more l x was none = each-pushed (λ n z. z.number ≡ 0) l x was none
