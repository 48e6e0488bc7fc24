use Rattle.std.proofs.Common.{◌≡◌, ◌-◌, length, take, sym, ap, subst, ◌∙◌, arith}
use Rattle.model.specs.Dependency.{WaitsFor}
use Rattle.model.specs.Timetable.{IsConflictFree, IsSwapFree}
use Rattle.executor.specs.Code.Leading.{finished_in, HasLeft, HasMoved}
use Rattle.executor.specs.Code.Waiting.{GoesNearer}
use Rattle.executor.proofs.ChainLemmas.{waits-nearer, moves-nearer}
use Rattle.executor.proofs.ending.Ending.go_on.Goals as goal

pub returns-in_ok-push-in-Some : goal.returns-in_ok-push-in-Some
returns-in_ok-push-in-Some c =
    let s = c.args.self.now in
    let free = subst (λ t. IsConflictFree t.timetable) c.self.view_is c.agents.ensures.within.conflict_free in
    let unswapped = subst (λ t. IsSwapFree t.timetable) c.self.view_is c.agents.ensures.within.swap_free in
    let count = subst (λ t. length t.agents ≡ length t.timetable.tracks) c.self.view_is c.self.invariant.0 in
    let inside = c.requires.there in
    subst (GoesNearer c.args.agent s s c.args.waiting.now.items) (sym c.in_ok-push-in-Some.ensures.items)
    (waits-nearer s free unswapped c.requires.still c.args.agent c.args.waiting.now.items c.requires.chain (omega (arith, inside, count)) c.in-Some.other
    (subst (λ n. WaitsFor s.timetable (finished_in s.standings) n c.in-Some.other) c.requires.next c.in-Some.ensures))

pub returns-in_ok-move_on-in-None : goal.returns-in_ok-move_on-in-None
returns-in_ok-move_on-in-None c =
    let s = c.args.self.now in
    let free = subst (λ t. IsConflictFree t.timetable) c.self.view_is c.agents.ensures.within.conflict_free in
    let unswapped = subst (λ t. IsSwapFree t.timetable) c.self.view_is c.agents.ensures.within.swap_free in
    let count = subst (λ t. length t.agents ≡ length t.timetable.tracks) c.self.view_is c.self.invariant.0 in
    let inside = c.requires.there in
    subst (GoesNearer c.args.agent s c.move_on.new.self c.args.waiting.now.items) (sym (c.pop-last.ensures.rest ∙ ap (λ n. take (n - 1) c.args.waiting.now.items) c.args.waiting.now.ok.0))
    (moves-nearer s c.move_on.new.self free unswapped c.requires.still c.args.agent c.args.waiting.now.items c.requires.chain (omega (arith, inside, count))
    (subst (HasLeft s) c.requires.next c.requires.left) c.in_ok-move_on-in-None.ensures.same c.in_ok-move_on-in-None.ensures.leads
    (subst (λ n. HasMoved n s.standings c.move_on.new.self.standings) c.requires.next c.in_ok-move_on-in-None.ensures.moved))
