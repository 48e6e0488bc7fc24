-- What is seen of an agent as steps.
use Rattle.std.proofs.Common.{◌≡◌, ℕ, ◌≤◌, List, [], ◌∷◌, ◌++◌, Some, refl, sym, ap, subst, ◌∙◌, append_assoc, append-nil}
use Rattle.std.specs.List.{AllByRecursion}
use Rattle.model.specs.Timetable.{Track, Timetable, moves, track_of}
use Rattle.agent.specs.States.{State, begun_moves}
use Rattle.fleet.specs.Deeds.{Deed, Does}
use Rattle.robot.specs.Requests.{Request, AsksFor}
use Rattle.robot.specs.Turns.{deed_line, IsCallOf}
use Rattle.transcripts.specs.Transcripts.{Seen, line_answered, IsSaidLine}
use Rattle.transcripts.proofs.Spelling.{IsPlain}

-- a deed, and the timetable by which its process ran
pub record Did : Type 0 where
  pub deed : Deed
  pub by : Timetable

abbrev pub deed_of : Did → Deed
deed_of did = did.deed

abbrev pub did_by : Timetable → Deed → Did
did_by by deed = record { deed = deed; by = by }

-- what is seen says nothing
abbrev pub IsSilent : Seen → Type 0
IsSilent (line_answered line text) = (bytes : List ℕ) → IsSaidLine bytes text → ⊥
IsSilent _ = Unit {0}

-- what is seen tells of this deed
abbrev pub TellsOf : Seen → Deed → Type 0
TellsOf (line_answered line text) deed = (request : Request) × AsksFor request line × IsCallOf request deed × (text ≡ deed_line deed)
TellsOf _ deed = IsPlain deed

abbrev pub IsPlainDid : Did → Type 0
IsPlainDid did = IsPlain did.deed

-- or of none, and never of two
abbrev pub Tells : Seen → List Did → Type 0
Tells seen [] = IsSilent seen
Tells seen (did ∷ []) = TellsOf seen did.deed
Tells seen (did ∷ next ∷ dids) = ⊥

module _ (Fits : Timetable → ℕ → Track → ℕ → Type 0) (i : ℕ) where
  -- One deed led the agent on.
  pub record IsStep (did : Did) (old new : State) : Type 0 where
    pub track : Track
    pub is_track : track_of did.by i ≡ Some track
    pub fits : Fits did.by i track (begun_moves new)
    pub has : begun_moves new ≤ moves track
    pub does : Does did.by i track old did.deed new

  abbrev pub AreSteps : State → List Did → State → Type 0
  AreSteps old [] new = new ≡ old
  AreSteps old (did ∷ dids) new = (mid : State) × IsStep did old mid × AreSteps mid dids new

  -- What is seen tells of these deeds, and behind them came others of which nothing is told.
  pub record IsSeen (old : State) (seen : Seen) (dids : List Did) (new : State) : Type 0 where
    pub mid : State
    pub own : List Did
    pub others : List Did
    pub tells : Tells seen own
    pub plain : AllByRecursion IsPlainDid others
    pub steps : AreSteps old own mid
    pub more : AreSteps mid others new
    pub are : dids ≡ own ++ others

  -- what is seen in turn, by these deeds
  abbrev pub AreSeen : State → List Seen → List Did → State → Type 0
  AreSeen old [] dids new = (dids ≡ []) × (new ≡ old)
  AreSeen old (seen ∷ later) dids new =
      (mid : State) × (first : List Did) × (rest : List Did) × IsSeen old seen first mid × AreSeen mid later rest new × (dids ≡ first ++ rest)

  steps-on : (old mid new : State) (first second : List Did) → AreSteps old first mid → AreSteps mid second new → AreSteps old (first ++ second) new
  steps-on old mid new [] second same more = subst (λ s. AreSteps s second new) same more
  steps-on old mid new (did ∷ first) second (next, step, rest) more = (next, step, steps-on next mid new first second rest more)

  plain-more : (dids : List Did) (did : Did) → AllByRecursion IsPlainDid dids → IsPlainDid did → AllByRecursion IsPlainDid (dids ++ did ∷ [])
  plain-more [] did all is = (is, tt)
  plain-more (first ∷ dids) did (here, all) is = (here, plain-more dids did all is)

  -- one more deed behind the last of it, of which nothing is told
  pub seen-more : (seen : Seen) (later : List Seen) (dids : List Did) (did : Did) (old mid new : State) → AreSeen old (seen ∷ later) dids mid → IsPlainDid did → IsStep did mid new
      → AreSeen old (seen ∷ later) (dids ++ did ∷ []) new
  seen-more seen [] dids did old mid new (next, first, rest, is, (none, same), are) plain step =
      let last : AreSteps next (did ∷ []) new = (new, subst (λ s. IsStep did s new) same step, refl) in (
        new,
        first ++ did ∷ [],
        [],
        record {
          mid = is.mid;
          own = is.own;
          others = is.others ++ did ∷ [];
          tells = is.tells;
          plain = plain-more is.others did is.plain plain;
          steps = is.steps;
          more = steps-on is.mid next new is.others (did ∷ []) is.more last;
          are = ap (λ l. l ++ did ∷ []) is.are ∙ append_assoc is.own is.others (did ∷ []);
        },
        (refl, refl),
        ap (λ l. l ++ did ∷ []) (are ∙ ap (λ l. first ++ l) none) ∙ append_assoc first [] (did ∷ []) ∙ sym (append-nil (first ++ did ∷ [])),
      )
  seen-more seen (other ∷ later) dids did old mid new (next, first, rest, is, further, are) plain step = (
    next,
    first,
    rest ++ did ∷ [],
    is,
    seen-more other later rest did next mid new further plain step,
    ap (λ l. l ++ did ∷ []) are ∙ append_assoc first rest (did ∷ []),
  )

  pub seen-on : (old mid new : State) (earlier later : List Seen) (first second : List Did) → AreSeen old earlier first mid → AreSeen mid later second new
      → AreSeen old (earlier ++ later) (first ++ second) new
  seen-on old mid new [] later first second (none, same) more =
      subst (λ l. AreSeen old later (l ++ second) new) (sym none) (subst (λ s. AreSeen s later second new) same more)
  seen-on old mid new (seen ∷ earlier) later first second (between, own, rest, is, further, are) more = (
    between,
    own,
    rest ++ second,
    is,
    seen-on between mid new earlier later rest second further more,
    ap (λ l. l ++ second) are ∙ append_assoc own rest second,
  )

  -- the last of it
  pub record SeenLast (old : State) (earlier : List Seen) (seen : Seen) (dids : List Did) (new : State) : Type 0 where
    pub mid : State
    pub first : List Did
    pub last : List Did
    pub before : AreSeen old earlier first mid
    pub is : IsSeen mid seen last new
    pub are : dids ≡ first ++ last

  pub seen-last : (old new : State) (earlier : List Seen) (seen : Seen) (dids : List Did) → AreSeen old (earlier ++ seen ∷ []) dids new → SeenLast old earlier seen dids new
  seen-last old new [] seen dids (mid, own, rest, is, (none, same), are) = record {
    mid = old;
    first = [];
    last = own;
    before = (refl, refl);
    is = subst (IsSeen old seen own) (sym same) is;
    are = are ∙ ap (λ l. own ++ l) none ∙ append-nil own;
  }
  seen-last old new (other ∷ earlier) seen dids (mid, own, rest, is, further, are) =
      let end = seen-last mid new earlier seen rest further in
      record {
        mid = end.mid;
        first = own ++ end.first;
        last = end.last;
        before = (mid, own, end.first, is, end.before, refl);
        is = end.is;
        are = are ∙ ap (λ l. own ++ l) end.are ∙ sym (append_assoc own end.first end.last);
      }
