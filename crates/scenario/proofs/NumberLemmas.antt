-- Numbers, and what digits spell.
use Rattle.std.proofs.Common.{◌≡◌, ◌-◌, Bool, true, false, cond, Some, None, refl, ◌∙◌}
use Rattle.std.proofs.lemmas.Bool.{cond-true}
use Rattle.scenario.specs.ScenFault.{Fields, is_number, is_bucket, is_size, wrong_number}

-- a test passed, and what it then gives
pub some_from_test : {X : Type 0} (test : Bool) (x y : X) → Some x ≡ cond test (Some y) None → (test ≡ true) × (x ≡ y)
some_from_test true x y e = (refl, (cc))
some_from_test false x y e = absurd (cc)

-- where each test passes, no field is wrong
pub no_wrong_number : (f : Fields) → is_bucket f.bucket ≡ true → is_size f.width ≡ true → is_size f.height ≡ true
    → is_number f.start_x ≡ true → is_number f.start_y ≡ true → is_number f.goal_x ≡ true → is_number f.goal_y ≡ true
    → wrong_number f ≡ None
no_wrong_number f bucket width height start_x start_y goal_x goal_y =
    cond-true _ _ _ bucket ∙ (cond-true _ _ _ width ∙ (cond-true _ _ _ height ∙ (cond-true _ _ _ start_x
    ∙ (cond-true _ _ _ start_y ∙ (cond-true _ _ _ goal_x ∙ cond-true _ _ _ goal_y)))))
