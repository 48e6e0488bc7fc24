use Rattle.std.proofs.Common.{true, inr, refl, sym, ap, ◌∙◌, subst}
use Rattle.scenario.specs.declared.scen_fault.ScenFault.TheVariants.{NoVersion}
use Rattle.scenario.specs.ScenText.{IsVersion}
use Rattle.scenario.specs.Code.Parsing.{due_after, Adds, RefusesLine, is_version}
use Rattle.scenario.proofs.VersionLemmas.{IsVersion-from_test, refuses-other}
use Rattle.scenario.proofs.scen_reader.Progress.add_line.Goals as goal

pub returns-then-not-is_version : goal.returns-then-not-is_version
returns-then-not-is_version c =
    subst (λ has. RefusesLine (due_after has) c.args.number c.args.line.now NoVersion) (sym c.if-self.false)
    (refuses-other c.args.number c.args.line.now c.content_of-content.result.now c.is_empty.result c.is_version.result c.requires.short
    c.content_of-content.ensures c.is_empty.ensures c.if-not-is_empty.true c.is_version.ensures c.if-not-is_version.true)

pub returns-else-not-is_version : goal.returns-else-not-is_version
returns-else-not-is_version c =
    let version : IsVersion c.args.line.now =
    IsVersion-from_test c.args.line.now c.requires.short
    (ap is_version (sym c.content_of-content.ensures) ∙ (sym c.is_version.ensures ∙ c.if-not-is_version.false)) in
    subst (λ has. Adds has true c.args.self.now.rows.items c.args.self.now.rows.items c.args.line.now) (sym c.if-self.false)
    (inr (version, refl), refl)
