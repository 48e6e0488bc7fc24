use Rattle.std.proofs.Common.{◌≡◌, ◌∙◌, ap, sym, refl, true, false, Bool, Option, Some, None, codes, unwrap_or}
use Rattle.std.specs.Prelude.{◌↔◌}
use Rattle.std.specs.Str.Parse.{ParsesBool}
use Rattle.clap.specs.Words.{ReadsOne, Text, found_of}
use Rattle.clap.proofs.WalkLemmas.{one_text-rows}
use Rattle.command_line.proofs.words.has_flag.Goals as goal

-- what is read of a text, or of none, is true where the text is `true`
read_true : (E : Type 0) (text : Option Text) (got : Option Bool) → (text ≡ None → got ≡ None)
    → ((t : Text) → text ≡ Some t → ReadsOne {E = E} ParsesBool t got) → unwrap_or got false ≡ true ↔ text ≡ Some (codes "true")
read_true E None got none value = (λ is. let bad : false ≡ true = sym (ap (λ o. unwrap_or o false) (none refl)) ∙ is in cc, λ is. cc)
read_true E (Some t) (Some true) none value = (λ is. ap Some (value t refl), λ is. refl)
read_true E (Some t) (Some false) none value = (λ is. cc, λ is. let other : t ≡ codes "false" = value t refl in cc)
read_true E (Some t) None none value = (λ is. cc, λ is. let same : t ≡ codes "true" = cc in absurd ((value t refl).1.0 same))

pub returns : goal.returns
returns c =
    let same = one_text-rows (found_of c.args.given.now) c.args.name.now in
    rw (c.unwrap_or.ensures, ← same) (read_true _ _ c.get_one.result c.get_one.ensures.none c.get_one.ensures.value)
