-- The sender is the same, and took one count.
use Rattle.std.proofs.Common.{◌∙◌, ap, subst}
use Rattle.signing.specs.Counting.{CountsOn}
use Rattle.signing.specs.Letters.{sealed}
use Rattle.signing.specs.Sealing.{Sender}
use Rattle.signing.proofs.sealer.Sealer.seal.Goals as goal

pub returns : goal.returns
returns g c =
    let view = c.self.view_is in
    let count = c.in-Ok.count in record {
      still = record {
        number = ap (λ (s : Sender). s.number) view;
        key = ap (λ (s : Sender). s.key) view;
        run = ap (λ (s : Sender). s.run) view;
      };
      count = count;
      takes = subst (λ (s : Sender). CountsOn s.counting c.take.new.self count) view c.in-Ok.ensures;
      is_sealed = c.in_ok-letter.ensures
          ∙ ap (λ (s : Sender). sealed s.key (record { sender = s.number; run = s.run; count = count }) c.args.message.now) view;
    }
