-- An agent's acts in a block, with waits behind its last.
use Rattle.std.proofs.Common.{◌≡◌, ℕ, ◌+◌, ◌-◌, ◌<◌, List, ◌++◌, length, get_or, take, drop, replicate, min, arith, sym, ap, inl, inr, ◌∙◌}
use Rattle.std.proofs.lemmas.Bool.{cases_lt}
use Rattle.std.proofs.lemmas.List.{length-append, length-take-le, length-drop, length-replicate, get_or-take, get_or-drop, get_or_append_left, get_or-append_right, get_or-replicate, get_or_past}
use Rattle.model.specs.declared.act.Act.{Act}
use Rattle.model.specs.declared.act.Act.TheVariants.{Wait}
use Rattle.checker.specs.Code.Blocks.{block_steps, IsStretch}

abbrev pub waits : List Act
waits = replicate block_steps Wait

pub stretch_of : (acts : List Act) (step begin end : ℕ) → begin ≡ min step (length acts) → end ≡ min (length acts) (step + block_steps)
    → IsStretch acts step (take (end - begin) (drop begin acts) ++ drop (end - begin) waits)
stretch_of acts step begin end is_begin is_end = record { count = count; each = each } where
  n : ℕ
  n = end - begin

  front : length (take (end - begin) (drop begin acts)) ≡ end - begin
  front = length-take-le (end - begin) (drop begin acts) (let long = length-drop begin acts in omega (arith, long, is_begin, is_end))

  count : length (take (end - begin) (drop begin acts) ++ drop (end - begin) waits) ≡ block_steps
  count =
      let both = length-append (take (end - begin) (drop begin acts)) (drop (end - begin) waits) in
      let behind = length-drop (end - begin) waits in
      let all : length waits ≡ block_steps = length-replicate block_steps Wait in
      omega (arith, both, behind, all, front, is_begin, is_end)

  each : (k : ℕ) → k < block_steps → get_or (take (end - begin) (drop begin acts) ++ drop (end - begin) waits) k Wait ≡ get_or acts (step + k) Wait
  each k less = elim (cases_lt k (end - begin)) [
    | inl before ↦
        get_or_append_left (take (end - begin) (drop begin acts)) (drop (end - begin) waits) Wait k (omega (arith, before, front))
        ∙ get_or-take (end - begin) (drop begin acts) k Wait before ∙ get_or-drop begin acts k Wait
        ∙ ap (λ at. get_or acts at Wait) (omega (arith, before, is_begin, is_end))
    | inr past ↦
        get_or-append_right (take (end - begin) (drop begin acts)) (drop (end - begin) waits) (end - begin) k Wait front past
        ∙ get_or-drop (end - begin) waits (k - (end - begin)) Wait
        ∙ get_or-replicate block_steps (end - begin + (k - (end - begin))) Wait Wait (omega (arith, past, less))
        ∙ sym (get_or_past acts (step + k) Wait (omega (arith, past, less, is_begin, is_end)))
  ]
