use Rattle.std.proofs.Common.{refl, sym, subst}
use Rattle.executor.specs.Code.Leading.{AreUnheard}
use Rattle.executor.proofs.EndingLemmas.{unheard-more}
use Rattle.executor.proofs.ending.Ending.place_of.Goals as goal

pub returns-then-index-seen-2-clause-none_heard : goal.returns-then-index-seen-2-clause-none_heard
returns-then-index-seen-2-clause-none_heard c =
    subst AreUnheard (sym c.in_ok-push.ensures.items) (unheard-more c.self.inside.heard.items _ (subst (λ s. AreUnheard s.heard) (sym c.self.view_is) c.requires.none_heard) refl)

pub returns-else-index-seen-2-clause-none_heard : goal.returns-else-index-seen-2-clause-none_heard
returns-else-index-seen-2-clause-none_heard c =
    subst AreUnheard (sym c.in_ok-push.ensures.items) (unheard-more c.self.inside.heard.items _ (subst (λ s. AreUnheard s.heard) (sym c.self.view_is) c.requires.none_heard) refl)
