-- One character more.
use Rattle.std.proofs.Common.{◌<◌, ◌++◌, ◌∷◌, [], length, take, map, sym, ap, ◌∙◌, arith}
use Rattle.std.proofs.lemmas.List.{length-set, take_more_set, map_more}
use Rattle.model.specs.declared.act.Act.TheVariants.{N}
use Rattle.plan_text.specs.PlanText.{act_character}
use Rattle.plan_text.proofs.plan_writer.put_characters.Goals as goal

pub loop-i-preserved : goal.loop-i-preserved
loop-i-preserved g c =
    let i = c.loop-i.i in
    let acts = c.args.acts.now in
    let within : i < length acts = omega arith in
    let inside : i < length c.loop-i.piece = omega (arith, c.loop-i.invariant.room) in
    record {
      room = length-set c.loop-i.piece i c.act_character.result ∙ c.loop-i.invariant.room;
      characters =
          take_more_set c.loop-i.piece i c.act_character.result inside
          ∙ (ap (λ xs. xs ++ c.act_character.result ∷ []) c.loop-i.invariant.characters
          ∙ (ap (λ b. map act_character (take i acts) ++ b ∷ []) c.act_character.ensures ∙ sym (map_more act_character acts i N within)));
    }
