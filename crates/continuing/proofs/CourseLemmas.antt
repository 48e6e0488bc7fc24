-- Courses, step by step.
use Rattle.std.proofs.Common.{◌≡◌, ℕ, ℤ, pos, negsuc, ◌-ℤ◌, zero, suc, ◌<◌, ◌≤◌, List, [], ◌∷◌, length, Some, arith, refl, sym, ap, ◌∙◌}
use Rattle.std.specs.Prelude.{◌+ℤ◌, slice_get, ◌≢◌}
use Rattle.std.proofs.Math.IntN.{+ℤ-neg_ℤ_cancel, +ℤ_comm, +ℤ_idr}
use Rattle.std.proofs.lemmas.Option.{none-some, same_Some}
use Rattle.model.specs.declared.act.Act.{Act}
use Rattle.model.specs.declared.act.Act.TheVariants.{N, E, S, W, Wait}
use Rattle.model.specs.Plan.{Position, position_of, moved, Course, position_after, position_at, longest_of}
use Rattle.continuing.specs.Code.Apart.{act_in_step}

pub longest-most : (courses : List Course) (i : ℕ) (course : Course) → slice_get courses i ≡ Some course → length course.acts ≤ longest_of courses
longest-most [] i course there = absurd (none-some course there)
longest-most (first ∷ courses) zero course there =
    let e = ap (λ k. length k.acts) (same_Some first course there) in
    omega (arith, e)
longest-most (first ∷ courses) (suc i) course there =
    let rest = longest-most courses i course there in
    omega (arith, rest)

pub position_at-start : (p : Position) (acts : List Act) → position_after p acts 0 ≡ p
position_at-start p [] = refl
position_at-start p (a ∷ acts) = refl

-- each step is that of its act; after the last the agent waits
pub next-place : (p : Position) (acts : List Act) (t : ℕ) → position_after p acts (suc t) ≡ moved (act_in_step acts t) (position_after p acts t)
next-place p [] t = refl
next-place p (a ∷ acts) zero = position_at-start (moved a p) acts
next-place p (a ∷ acts) (suc t) = next-place (moved a p) acts t

-- ---- acts lead to different places

abbrev across : Act → ℤ
across E = pos 1
across W = negsuc 0
across N = pos 0
across S = pos 0
across Wait = pos 0

abbrev down : Act → ℤ
down S = pos 1
down N = negsuc 0
down E = pos 0
down W = pos 0
down Wait = pos 0

goes-across : (a : Act) (p : Position) → (moved a p).x ≡ p.x +ℤ across a
goes-across N p = sym (+ℤ_idr p.x)
goes-across E p = refl
goes-across S p = sym (+ℤ_idr p.x)
goes-across W p = refl
goes-across Wait p = sym (+ℤ_idr p.x)

goes-down : (a : Act) (p : Position) → (moved a p).y ≡ p.y +ℤ down a
goes-down N p = refl
goes-down E p = sym (+ℤ_idr p.y)
goes-down S p = refl
goes-down W p = sym (+ℤ_idr p.y)
goes-down Wait p = sym (+ℤ_idr p.y)

same_summand : (n a b : ℤ) → n +ℤ a ≡ n +ℤ b → a ≡ b
same_summand n a b e = sym (alone a) ∙ ap (λ k. k -ℤ n) e ∙ alone b where
  alone : (k : ℤ) → n +ℤ k -ℤ n ≡ k
  alone k = ap (λ m. m -ℤ n) (+ℤ_comm n k) ∙ +ℤ-neg_ℤ_cancel k n

same_act : (a b : Act) → across a ≡ across b → down a ≡ down b → a ≡ b
same_act N N h k = refl
same_act E E h k = refl
same_act S S h k = refl
same_act W W h k = refl
same_act Wait Wait h k = refl
same_act N E h k = absurd cc
same_act N S h k = absurd cc
same_act N W h k = absurd cc
same_act N Wait h k = absurd cc
same_act E N h k = absurd cc
same_act E S h k = absurd cc
same_act E W h k = absurd cc
same_act E Wait h k = absurd cc
same_act S N h k = absurd cc
same_act S E h k = absurd cc
same_act S W h k = absurd cc
same_act S Wait h k = absurd cc
same_act W N h k = absurd cc
same_act W E h k = absurd cc
same_act W S h k = absurd cc
same_act W Wait h k = absurd cc
same_act Wait N h k = absurd cc
same_act Wait E h k = absurd cc
same_act Wait S h k = absurd cc
same_act Wait W h k = absurd cc

pub same-act : (a b : Act) (p : Position) → moved a p ≡ moved b p → a ≡ b
same-act a b p e =
    same_act a b (same_summand p.x (across a) (across b) (sym (goes-across a p) ∙ ap (λ q. q.x) e ∙ goes-across b p))
    (same_summand p.y (down a) (down b) (sym (goes-down a p) ∙ ap (λ q. q.y) e ∙ goes-down b p))

-- ---- two courses

pub same-places : (old new : Course) (n : ℕ) → new.start ≡ old.start → ((t : ℕ) → t < n → act_in_step new.acts t ≡ act_in_step old.acts t)
    → (t : ℕ) → t ≤ n → position_at new t ≡ position_at old t
same-places old new n start acts zero most =
    position_at-start (position_of new.start) new.acts ∙ ap position_of start ∙ sym (position_at-start (position_of old.start) old.acts)
same-places old new n start acts (suc t) most =
    next-place (position_of new.start) new.acts t
    ∙ ap (λ a. moved a (position_at new t)) (acts t (omega (arith, most)))
    ∙ ap (moved (act_in_step old.acts t)) (same-places old new n start acts t (omega (arith, most)))
    ∙ sym (next-place (position_of old.start) old.acts t)

pub other-places : (old new : Course) (n : ℕ) → position_at new n ≡ position_at old n → act_in_step new.acts n ≢ act_in_step old.acts n
    → position_at new (suc n) ≢ position_at old (suc n)
other-places old new n same other e =
    other (same-act (act_in_step new.acts n) (act_in_step old.acts n) (position_at old n)
    (sym (ap (moved (act_in_step new.acts n)) same) ∙ sym (next-place (position_of new.start) new.acts n) ∙ e ∙ next-place (position_of old.start) old.acts n))
