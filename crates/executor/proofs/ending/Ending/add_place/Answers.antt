use Rattle.std.proofs.Common.{sym, subst}
use Rattle.executor.specs.Code.Leading.{AreUnheard}
use Rattle.executor.proofs.ending.Ending.add_place.Goals as goal

pub returns-in_ok-push-in-Some-clause-none_heard : goal.returns-in_ok-push-in-Some-clause-none_heard
returns-in_ok-push-in-Some-clause-none_heard c = subst (λ s. AreUnheard s.heard) (sym c.self.view_is) c.in_ok-place-in-Some.ensures.none_heard

pub returns-in_ok-push-in-None-clause-none_heard : goal.returns-in_ok-push-in-None-clause-none_heard
returns-in_ok-push-in-None-clause-none_heard c = subst (λ s. AreUnheard s.heard) (sym c.self-in-None.view_is) c.requires.none_heard
