-- Messages that are kept, and one more.
use Rattle.std.proofs.Common.{◌≡◌, ℕ, ◌+◌, ◌≤◌, List, [], ◌∷◌, ◌++◌, length, map, take, drop, refl, sym, ap, ◌∙◌, arith}
use Rattle.std.proofs.Math.Seq.{drop-append_seam}
use Rattle.std.proofs.lemmas.List.{take-append-le, drop-append-le, length-drop, length-append, take_all, map-append}
use Rattle.model.specs.declared.entry.Entry.{Entry}
use Rattle.model.specs.declared.version.Version.{Version}
use Rattle.model.specs.declared.version.Version.TheVariants.{Two}
use Rattle.model.specs.Messages.{Message}
use Rattle.executor.specs.declared.said.Note.{Note}
use Rattle.executor.specs.SaidMessages.{message_in, messages_in}
use Rattle.executor.specs.Code.Notes.{AreNoted}

-- a message stays where entries come behind it
stays : (entries more : List Entry) (note : Note) → note.first + note.count ≤ length entries → message_in (entries ++ more) note ≡ message_in entries note
stays entries more note within =
    let count = length-drop note.first entries in
    ap {A = List Entry} {B = Message} (λ l. record { sender = note.sender; entries = l })
    (ap (take note.count) (drop-append-le note.first entries more (omega (arith, within))) ∙ take-append-le note.count (drop note.first entries) more (omega (arith, within, count)))

all_stay : (entries more : List Entry) (notes : List Note) → AreNoted entries notes → map (message_in (entries ++ more)) notes ≡ map (message_in entries) notes
all_stay entries more [] kept = refl
all_stay entries more (note ∷ notes) kept =
    ap (λ m. m ∷ map (message_in (entries ++ more)) notes) (stays entries more note kept.0)
    ∙ ap (λ l. message_in entries note ∷ l) (all_stay entries more notes kept.1)

pub kept-more : (entries more : List Entry) (notes : List Note) → AreNoted entries notes → AreNoted (entries ++ more) notes
kept-more entries more [] kept = tt
kept-more entries more (note ∷ notes) kept = ((let count = length-append entries more in let within = kept.0 in omega (arith, count, within)), kept-more entries more notes kept.1)

pub kept-append : (entries : List Entry) (notes : List Note) (note : Note) → AreNoted entries notes → note.first + note.count ≤ length entries → AreNoted entries (notes ++ note ∷ [])
kept-append entries [] note kept within = (within, tt)
kept-append entries (first ∷ notes) note kept within = (kept.0, kept-append entries notes note kept.1 within)

-- the message of the entries that came
pub told-more : (version : Version) (entries more : List Entry) (notes : List Note) (note : Note) (sender : ℕ) → version ≡ Two → AreNoted entries notes → note.first ≡ length entries
    → note.count ≡ length more → note.sender ≡ sender
    → messages_in version (entries ++ more) (notes ++ note ∷ []) ≡ messages_in version entries notes ++ record { sender = sender; entries = more } ∷ []
told-more version entries more notes note sender two kept first count own =
    ap (λ v. messages_in v (entries ++ more) (notes ++ note ∷ [])) two
    ∙ map-append (message_in (entries ++ more)) notes (note ∷ [])
    ∙ ap (λ l. l ++ message_in (entries ++ more) note ∷ []) (all_stay entries more notes kept)
    ∙ ap (λ m. map (message_in entries) notes ++ m ∷ []) message
    ∙ ap (λ v. messages_in v entries notes ++ record { sender = sender; entries = more } ∷ []) (sym two)
  where
    message : message_in (entries ++ more) note ≡ record { sender = sender; entries = more }
    message =
        ap {A = ℕ} {B = Message} (λ n. record { sender = n; entries = take note.count (drop note.first (entries ++ more)) }) own
        ∙ ap {A = List Entry} {B = Message} (λ l. record { sender = sender; entries = l })
        (ap (λ n. take note.count (drop n (entries ++ more))) first ∙ ap (take note.count) (drop-append_seam entries more) ∙ take_all note.count more (omega (arith, count)))
