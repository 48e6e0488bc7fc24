-- A fleet before its last deed, and after one more.
use Rattle.std.proofs.Common.{◌≡◌, ℕ, eqb, List, [], ◌∷◌, ◌++◌, Some, None, inl, inr, refl, sym, ap, subst, ◌∙◌}
use Rattle.std.specs.Prelude.{Option}
use Rattle.std.proofs.lemmas.Bool.{cases_eq, cond-true, cond-false, eq-eqb, ne_eqb}
use Rattle.std.proofs.lemmas.Option.{same_Some, none-some}
use Rattle.model.specs.Timetable.{Track, Timetable, track_of}
use Rattle.agent.specs.States.{State}
use Rattle.fleet.specs.Deeds.{Deed, Does, DoesAll}
use Rattle.fleet.specs.Fleets.{Logged, Log, deeds_of, fresh, spoken, IsHonest, AreAll, IsFleet, with_state}
use Rattle.fleet.specs.Laws.Leading.{leads-more, leads-last}

-- ---- a fleet before its last deed

pub own-deeds : (now : Logged) (log : Log) (i : ℕ) → now.agent ≡ i → deeds_of (now ∷ log) i ≡ deeds_of log i ++ now.deed ∷ []
own-deeds now log i own = cond-true (eqb now.agent i) _ _ (eq-eqb now.agent i own)

pub other-deeds : (now : Logged) (log : Log) (i : ℕ) → (now.agent ≡ i → ⊥) → deeds_of (now ∷ log) i ≡ deeds_of log i
other-deeds now log i other = cond-false (eqb now.agent i) _ _ (ne_eqb now.agent i other)

pub state-own : (states : ℕ → State) (i : ℕ) (s : State) → with_state states i s i ≡ s
state-own states i s = cond-true (eqb i i) s (states i) (eq-eqb i i refl)

pub state-other : (states : ℕ → State) (i k : ℕ) (s : State) → (i ≡ k → ⊥) → with_state states i s k ≡ states k
state-other states i k s other = cond-false (eqb i k) s (states k) (ne_eqb i k other)

-- A fleet whose deeds are so, beside what was said before each.
pub record IsOf (Is : List (List ℕ) → Deed → Type 0) (table : Timetable) (log : Log) (states : ℕ → State) : Type 0 where
  pub own : (i : ℕ) (track : Track) → track_of table i ≡ Some track → DoesAll table i track fresh (deeds_of log i) (states i)
  pub nobody_else : (i : ℕ) → track_of table i ≡ None → deeds_of log i ≡ []
  pub all : AreAll Is log

pub of-fleet : (table : Timetable) (log : Log) (states : ℕ → State) → IsFleet table log states → IsOf IsHonest table log states
of-fleet table log states fleet = record { own = fleet.own; nobody_else = fleet.nobody_else; all = fleet.honest }

pub fleet-of : (table : Timetable) (log : Log) (states : ℕ → State) → IsOf IsHonest table log states → IsFleet table log states
fleet-of table log states fleet = record { own = fleet.own; nobody_else = fleet.nobody_else; honest = fleet.all }

-- nobody stands elsewhere
pub same-of : (Is : List (List ℕ) → Deed → Type 0) (table : Timetable) (log : Log) (states others : ℕ → State) → ((i : ℕ) → states i ≡ others i) → IsOf Is table log states
    → IsOf Is table log others
same-of Is table log states others same fleet = record {
  own = λ i track there. subst (DoesAll table i track fresh (deeds_of log i)) (same i) (fleet.own i track there);
  nobody_else = fleet.nobody_else;
  all = fleet.all;
}

module _ (Is : List (List ℕ) → Deed → Type 0) (table : Timetable) where
  -- The last deed is that of an agent that there is, and the fleet was one before it.
  pub record LastDeed (now : Logged) (log : Log) (states : ℕ → State) : Type 0 where
    pub track : Track
    pub is_track : track_of table now.agent ≡ Some track
    pub before : ℕ → State
    pub does : Does table now.agent track (before now.agent) now.deed (states now.agent)
    pub others : (k : ℕ) → (k ≡ now.agent → ⊥) → states k ≡ before k
    pub is : Is (spoken log) now.deed
    pub fleet : IsOf Is table log before

  pub last-deed : (now : Logged) (log : Log) (states : ℕ → State) → IsOf Is table (now ∷ log) states → LastDeed now log states
  last-deed now log states fleet = by_track (track_of table now.agent) refl where
    by_track : (o : Option Track) → track_of table now.agent ≡ o → LastDeed now log states
    by_track None none = absurd (something (deeds_of log now.agent) (sym (own-deeds now log now.agent refl) ∙ fleet.nobody_else now.agent none)) where
      something : (deeds : List Deed) → deeds ++ now.deed ∷ [] ≡ [] → ⊥
      something [] same = cc
      something (deed ∷ deeds) same = cc
    by_track (Some track) there =
        let leads = leads-last table now.agent track fresh (states now.agent) (deeds_of log now.agent) now.deed
        (subst (λ deeds. DoesAll table now.agent track fresh deeds (states now.agent)) (own-deeds now log now.agent refl) (fleet.own now.agent track there)) in
        let before = with_state states now.agent leads.0 in
        record {
          track = track;
          is_track = there;
          before = before;
          does = subst (λ s. Does table now.agent track s now.deed (states now.agent)) (sym (state-own states now.agent leads.0)) leads.2;
          others = λ k other. sym (state-other states now.agent k leads.0 (λ same. other (sym same)));
          is = fleet.all.0;
          fleet = record {
            own = λ i other is_other. elim (cases_eq now.agent i) [
              | inl same ↦ (
                  let here = same_Some track other (sym there ∙ ap (track_of table) same ∙ is_other) in
                  subst (λ x. DoesAll table i x fresh (deeds_of log i) (before i)) here
                  (subst (λ k. DoesAll table k track fresh (deeds_of log k) (before k)) same
                  (subst (DoesAll table now.agent track fresh (deeds_of log now.agent)) (sym (state-own states now.agent leads.0)) leads.1))
                  )
              | inr apart ↦
                  subst (DoesAll table i other fresh (deeds_of log i)) (sym (state-other states now.agent i leads.0 apart))
                  (subst (λ deeds. DoesAll table i other fresh deeds (states i)) (other-deeds now log i apart) (fleet.own i other is_other))
            ];
            nobody_else = λ i none. elim (cases_eq now.agent i) [
              | inl same ↦ absurd (none-some track (sym (ap (track_of table) same ∙ none) ∙ there))
              | inr apart ↦ sym (other-deeds now log i apart) ∙ fleet.nobody_else i none
            ];
            all = fleet.all.1;
          };
        }

  -- ---- and after one more

  pub goes-on : (log : Log) (states : ℕ → State) (i : ℕ) (track : Track) (deed : Deed) (new : State) → IsOf Is table log states → track_of table i ≡ Some track
      → Is (spoken log) deed → Does table i track (states i) deed new → IsOf Is table (record { agent = i; deed = deed } ∷ log) (with_state states i new)
  goes-on log states i track deed new fleet there is does =
      let now : Logged = record { agent = i; deed = deed } in
      record {
        own = λ k other is_other. elim (cases_eq i k) [
          | inl same ↦ (
              let here = same_Some track other (sym there ∙ ap (track_of table) same ∙ is_other) in
              let own : DoesAll table i track fresh (deeds_of (now ∷ log) i) (with_state states i new i) =
              subst (λ deeds. DoesAll table i track fresh deeds (with_state states i new i)) (sym (own-deeds now log i refl))
              (subst (DoesAll table i track fresh (deeds_of log i ++ deed ∷ [])) (sym (state-own states i new))
              (leads-more table i track fresh (states i) new (deeds_of log i) deed (fleet.own i track there) does)) in
              subst (λ x. DoesAll table k x fresh (deeds_of (now ∷ log) k) (with_state states i new k)) here
              (subst (λ j. DoesAll table j track fresh (deeds_of (now ∷ log) j) (with_state states i new j)) same own)
              )
          | inr apart ↦
              subst (λ deeds. DoesAll table k other fresh deeds (with_state states i new k)) (sym (other-deeds now log k apart))
              (subst (DoesAll table k other fresh (deeds_of log k)) (sym (state-other states i k new apart)) (fleet.own k other is_other))
        ];
        nobody_else = λ k none. elim (cases_eq i k) [
          | inl same ↦ absurd (none-some track (sym (ap (track_of table) same ∙ none) ∙ there))
          | inr apart ↦ other-deeds now log k apart ∙ fleet.nobody_else k none
        ];
        all = (is, fleet.all);
      }
