-- Each place of the wave up to this one is done, or its cell has another number.
use Rattle.std.proofs.Common.{◌∙◌, ◌+◌, subst, sym}
use Rattle.std.specs.Prelude.{slice_index_or}
use Rattle.std.proofs.lemmas.Bool.{true≢false}
use Rattle.std.proofs.lemmas.Option.{slice_get-get_or}
use Rattle.least_steps.specs.declared.open_list.Open.{Open}
use Rattle.least_steps.specs.declared.open_list.OpenList.{OpenList}
use Rattle.least_steps.specs.Code.Exploring.{Advances, Exploration}
use Rattle.least_steps.specs.Code.Waiting.{IsSearchFrom}
use Rattle.least_steps.specs.Laws.Ways.{end-on}
use Rattle.least_steps.proofs.ExplorationLemmas.{advances-on}
use Rattle.least_steps.proofs.WaitingLemmas.{sound-still, wave-expanded, wave-over, wave-without}
use Rattle.least_steps.proofs.step_search.settle.Goals as goal
use Rattle.least_steps.proofs.step_search.settle.Goals.{then-has+in_ok-expand, else-has}

abbrev none : Open
none = record { number = 0; cell = record { x = 0; y = 0 }; by = 0 }

pub has-requires-clause-on : goal.has-requires-clause-on
has-requires-clause-on c =
    let e = c.loop-place.reached in
    let wave = c.args.wave.now in
    let i = c.loop-place.place-index in
    let place = slice_index_or wave i none in
    end-on e.map e.aslant e.start place.cell place.number
    (sound-still c.args.reached.now e wave c.loop-place.invariant.advances c.requires.sound place (i, slice_get-get_or wave i none c.loop-place-test.true)).comes

pub has-requires-clause-limit : goal.has-requires-clause-limit
has-requires-clause-limit c =
    let wave = c.args.wave.now in
    let i = c.loop-place.place-index in
    (c.requires.sound (slice_index_or wave i none) (i, slice_get-get_or wave i none c.loop-place-test.true)).limit

pub expand-requires-clause-place : goal.expand-requires-clause-place
expand-requires-clause-place c =
    let wave = c.args.wave.now in
    let i = c.loop-place.place-index in
    sound-still c.args.reached.now c.loop-place.reached wave c.loop-place.invariant.advances c.requires.sound (slice_index_or wave i none)
    (i, slice_get-get_or wave i none c.loop-place-test.true)

pub loop-place-preserved : goal.loop-place-preserved
loop-place-preserved c =
    let e = c.loop-place.reached in
    let wave = c.args.wave.now in
    let i = c.loop-place.place-index in
    let place = slice_index_or wave i none in
    let here = slice_get-get_or wave i none c.loop-place-test.true in
    elim c.if-has.branch [
      | then-has+in_ok-expand w ↦ record {
        advances =
            subst (Advances c.args.reached.now) (sym w.reached-is)
            (advances-on c.args.reached.now e w.expand.new.reached c.loop-place.invariant.advances w.expand.ensures.goes.advances);
        search =
            subst (λ (f : Exploration). IsSearchFrom f c.if-has.waiting (i + 1) wave c.args.goal) (sym w.reached-is)
            (subst (λ (o : OpenList). IsSearchFrom w.expand.new.reached o (i + 1) wave c.args.goal) (sym w.waiting-is)
            (wave-expanded e w.expand.new.reached c.loop-place.waiting w.expand.new.waiting i wave c.args.goal place here c.loop-place.invariant.search
            w.expand.ensures.goes w.in_ok-expand.ensures.left));
      }
      | else-has w ↦ record {
        advances = subst (Advances c.args.reached.now) (sym w.reached-is) c.loop-place.invariant.advances;
        search =
            subst (λ (f : Exploration). IsSearchFrom f c.if-has.waiting (i + 1) wave c.args.goal) (sym w.reached-is)
            (subst (λ (o : OpenList). IsSearchFrom e o (i + 1) wave c.args.goal) (sym w.waiting-is)
            (wave-without e c.loop-place.waiting i wave c.args.goal place here c.loop-place.invariant.search
            (λ number. true≢false (sym (c.has.ensures.1 number) ∙ w.if-has.false))));
      }
    ]

pub returns-clause-search : goal.returns-clause-search
returns-clause-search c =
    wave-over c.loop-place.reached c.loop-place.waiting c.loop-place.place-index c.args.wave.now c.args.goal c.loop-place-test.false c.loop-place.invariant.search
