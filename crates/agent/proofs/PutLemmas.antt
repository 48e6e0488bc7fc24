-- Entries that are put behind others.
use Rattle.std.proofs.Common.{◌≡◌, ℕ, ◌+◌, ◌≤◌, List, [], ◌∷◌, ◌++◌, length, sym, ap, ◌∙◌, append_assoc, length-append, arith}
use Rattle.model.specs.declared.entry.Entry.{Entry}
use Rattle.agent.specs.declared.counters.Counter.{Counter}
use Rattle.agent.specs.Code.Told.{told_entries}
use Rattle.agent.proofs.TellLemmas.{told-append}

-- the entries of counters that are put one behind another
pub put_parts : (front a b c : List Entry) (own : Counter) (below above : List Counter) → a ≡ front ++ told_entries below → b ≡ a ++ told_entries (own ∷ []) → c ≡ b ++ told_entries above
    → c ≡ front ++ told_entries (below ++ own ∷ above)
put_parts front a b c own below above puts_below puts_own puts_above =
    let told = told-append below (own ∷ above) ∙ ap (λ r. told_entries below ++ r) (told-append (own ∷ []) above) in
    puts_above ∙ ap (λ l. l ++ told_entries above) (puts_own ∙ ap (λ l. l ++ told_entries (own ∷ [])) puts_below)
    ∙ append_assoc (front ++ told_entries below) (told_entries (own ∷ [])) (told_entries above)
    ∙ append_assoc front (told_entries below) (told_entries (own ∷ []) ++ told_entries above)
    ∙ ap (λ r. front ++ r) (sym told)

-- there are no more of them than agents
pub few-more : (old new es : List Entry) (agents : ℕ) → new ≡ old ++ es → length es ≤ agents → agents ≤ 10000 → length new ≤ length old + 10000
few-more old new es agents is few most = (let count = ap length is ∙ length-append old es in omega (arith, count, few, most))
