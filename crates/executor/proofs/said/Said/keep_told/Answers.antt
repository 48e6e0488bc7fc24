use Rattle.std.proofs.Common.{◌≡◌, ◌-◌, List, [], ◌∷◌, ◌++◌, length, ap, ◌∙◌, length-append, arith}
use Rattle.model.specs.declared.version.Version.TheVariants.{Two}
use Rattle.model.specs.Messages.{Message}
use Rattle.executor.specs.declared.said.Note.{Note}
use Rattle.executor.specs.SaidMessages.{SaidMessages, messages_in}
use Rattle.executor.specs.Code.Telling.{message_told}
use Rattle.executor.proofs.SaidLemmas.{told-more}
use Rattle.executor.proofs.said.Said.keep_told.Goals as goal

pub returns-in-Ok-clause-ok : goal.returns-in-Ok-clause-ok
returns-in-Ok-clause-ok c =
    let version = c.self.inside.version in
    let entries = c.self.inside.entries.items in
    let notes = c.self.inside.notes.items in
    let more = (message_told c.args.teller.now).entries in
    let put = c.in_ok-put_entries.ensures.put in
    let two : version ≡ Two = ap (λ s. s.version) c.self.view_is ∙ c.requires in
    let first = c.len-first.ensures in
    let all = c.len.ensures in
    let longer = ap length put ∙ length-append entries more in
    let note : Note = record { first = c.len-first.result; count = c.len.result - c.len-first.result; sender = c.id-sender.result } in
    let same = told-more version entries more notes note c.args.teller.now.part.agent two c.self.invariant (omega (arith, first)) (omega (arith, first, all, longer)) c.id-sender.ensures in
    ap {A = List Message} {B = SaidMessages} (λ l. record { version = version; messages = l })
    (ap (λ l. messages_in version l c.push.new.self.items) put ∙ ap (messages_in version (entries ++ more)) c.in-Ok.ensures.items ∙ same)
    ∙ ap (λ s. record { version = s.version; messages = s.messages ++ message_told c.args.teller.now ∷ [] }) c.self.view_is
