-- What the agent knew before all events, if it isn't opened anew, and what they told it.
use Rattle.std.proofs.Common.{◌≡◌, ℕ, ◌<◌, ◌≤◌, length, get_or, Some, None, sym, ap, subst, ◌∙◌, arith}
use Rattle.std.specs.Prelude.{Option, option_map, unwrap_or, slice_get}
use Rattle.std.proofs.lemmas.Option.{slice_get-get_or}
use Rattle.model.specs.Completion.{history_after}
use Rattle.model.specs.History.{known}
use Rattle.model.specs.Timetable.{Track, track_of}
use Rattle.agent.specs.Counters.{known_in}
use Rattle.executor.proofs.ending.Ending.known.Goals as goal
use Rattle.executor.proofs.ending.Ending.known.Goals.{then-is_opened_anew, else-is_opened_anew}

at_most : (n : ℕ) (o : Option Track) → unwrap_or (option_map (λ _. n) o) 0 ≤ n
at_most n None = omega arith
at_most n (Some track) = omega arith

pub returns : goal.returns
returns c version h begins leads =
    let i = c.from.result in
    let j = c.args.other in
    let tab = c.args.self.now.timetable in
    let a = get_or c.self.inside.agents.now i c.index-self-from.result in
    let knows : ℕ → ℕ = λ n. known version tab (history_after version tab h c.args.self.now.events) n j in
    let since = c.heard_since.ensures version h begins leads in
    let from = c.from.ensures in
    let within : i < length c.self.inside.agents.now = (let less = c.requires.there in let same = ap (λ s. length s.agents) c.self.view_is in omega (arith, less, same, from)) in
    let there : slice_get c.args.self.now.agents i ≡ Some a = ap (λ s. slice_get s.agents i) (sym c.self.view_is) ∙ slice_get-get_or c.self.inside.agents.now i c.index-self-from.result within in
    let before : c.if-is_opened_anew.before ≤ knows c.args.agent =
    elim c.if-is_opened_anew.branch [
      | then-is_opened_anew w ↦ (let is = w.before-is in omega (arith, is))
      | else-is_opened_anew w ↦ (
          let told = w.known.ensures.known tab (begins.members i a there).part in
          let most = at_most (known_in a.heard j) (track_of tab j) in
          let had : known_in a.heard j ≤ knows c.args.agent = subst (λ n. known_in a.heard j ≤ knows n) from (leads.knows i a there (sym w.if-is_opened_anew.ensures) j) in
          let value = w.before-is ∙ w.unwrap_or-before.ensures ∙ ap (λ o. unwrap_or o 0) told in
          omega (arith, value, most, had)
          )
    ] in
    let is = c.max.ensures in
    omega (arith, is, since, before)
