-- What an agent waits at its end.
use Rattle.std.proofs.Common.{◌≡◌, ◌≢◌, ℕ, ◌+◌, ◌-◌, ◌<◌, ◌≤◌, List, [], ◌∷◌, ◌++◌, length, take, get_or, refl, ap, arith, sym, ◌∙◌}
use Rattle.std.proofs.lemmas.List.{take_more}
use Rattle.model.specs.declared.act.Act.{Act}
use Rattle.model.specs.declared.act.Act.TheVariants.{N, E, S, W, Wait}
use Rattle.checker.specs.Code.Resting.{after_act, rested_acts}

after-some : (act : Act) (acts : List Act) (last : Act) → after_act (acts ++ last ∷ []) act ≡ act ∷ (acts ++ last ∷ [])
after-some act [] last = refl
after-some act (other ∷ acts) last = refl

pub rested-wait : (acts : List Act) → rested_acts (acts ++ Wait ∷ []) ≡ rested_acts acts
rested-wait [] = refl
rested-wait (act ∷ acts) = ap (λ l. after_act l act) (rested-wait acts)

after-none : (act : Act) → act ≢ Wait → after_act [] act ≡ act ∷ []
after-none N h = refl
after-none E h = refl
after-none S h = refl
after-none W h = refl
after-none Wait h = absurd (h refl)

pub rested-act : (acts : List Act) (last : Act) → last ≢ Wait → rested_acts (acts ++ last ∷ []) ≡ acts ++ last ∷ []
rested-act [] last h = after-none last h
rested-act (act ∷ acts) last h = ap (λ l. after_act l act) (rested-act acts last h) ∙ after-some act acts last

take-last : (acts : List Act) (kept : ℕ) (last : Act) → 0 < kept → kept ≤ length acts → last ≡ get_or acts (kept - 1) last
    → take kept acts ≡ take (kept - 1) acts ++ last ∷ []
take-last acts kept last some within is =
    let whole : kept ≡ kept - 1 + 1 = omega (arith, some) in
    ap (λ n. take n acts) whole ∙ take_more acts (kept - 1) last (omega (arith, some, within)) ∙ ap (λ a. take (kept - 1) acts ++ a ∷ []) (sym is)

pub rested-take_wait : (acts : List Act) (kept : ℕ) (last : Act) → 0 < kept → kept ≤ length acts → last ≡ get_or acts (kept - 1) last → last ≡ Wait
    → rested_acts (take (kept - 1) acts) ≡ rested_acts (take kept acts)
rested-take_wait acts kept last some within is waits =
    sym (ap rested_acts (take-last acts kept last some within is ∙ ap (λ a. take (kept - 1) acts ++ a ∷ []) waits) ∙ rested-wait (take (kept - 1) acts))

pub rested-take_act : (acts : List Act) (kept : ℕ) (last : Act) → 0 < kept → kept ≤ length acts → last ≡ get_or acts (kept - 1) last → last ≢ Wait
    → rested_acts (take kept acts) ≡ take kept acts
rested-take_act acts kept last some within is other =
    let end = take-last acts kept last some within is in
    ap rested_acts end ∙ rested-act (take (kept - 1) acts) last other ∙ sym end
