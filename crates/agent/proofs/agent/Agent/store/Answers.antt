use Rattle.std.proofs.Common.{◌≡◌, ◌<◌, ◌*◌, ◌+◌, ◌/◌, length, true, Ok, rules, inl, sym, ap, subst, ◌∙◌, arith}
use Rattle.model.specs.History.{record_length}
use Rattle.model.specs.Rules.{path_cell}
use Rattle.depgraph.specs.AgentParts.{IsPartOf}
use Rattle.agent.specs.Records.{due_record}
use Rattle.agent.specs.Tape.{whole_records}
use Rattle.agent.proofs.OwnLemmas.{few_records, own-written, record-more}
use Rattle.agent.proofs.agent.Agent.store.Goals as goal

pub due_record-record-requires : goal.due_record-record-requires
due_record-record-requires g c =
    let less = subst (λ a. whole_records (g.T.Tape.state a.tape) < 2 * length a.part.needs) (sym c.self.view_is) c.requires in
    let number = c.records-records.ensures.records ∙ sym (ap (λ a. whole_records (g.T.Tape.state a.tape)) c.self.view_is) in
    few_records _ c.records-records.result.count c.number.ensures.within (omega (arith, less, number))

pub overflow_mul-number : goal.overflow_mul-number
overflow_mul-number g c =
    let less = subst (λ a. whole_records (g.T.Tape.state a.tape) < 2 * length a.part.needs) (sym c.self.view_is) c.requires in
    let number = c.records-records.ensures.records ∙ sym (ap (λ a. whole_records (g.T.Tape.state a.tape)) c.self.view_is) in
    let few = few_records _ c.records-records.result.count c.number.ensures.within (omega (arith, less, number)) in
    omega (arith, few)

pub invariant_of-self : goal.invariant_of-self
invariant_of-self g c =
    let less = subst (λ a. whole_records (g.T.Tape.state a.tape) < 2 * length a.part.needs) (sym c.self.view_is) c.requires in
    let number = c.records-records.ensures.records ∙ sym (ap (λ a. whole_records (g.T.Tape.state a.tape)) c.self.view_is) in
    record {
      of_graph = c.self.invariant.of_graph;
      own = own-written g.T.Tape.state g.T.Tape.may_write g.met.T.Tape.writes c.self.inside.part _ _ c.self.invariant.own less _ _ _ _ _ c.number.ensures.number
          (c.id.ensures ∙ sym (ap (λ a. a.part.agent) c.self.view_is)) number c.due_record-record.ensures c.write_at.ensures;
      within = c.self.invariant.within;
    }

pub invariant_of-self-else-is_err : goal.invariant_of-self-else-is_err
invariant_of-self-else-is_err g c =
    let less = subst (λ a. whole_records (g.T.Tape.state a.tape) < 2 * length a.part.needs) (sym c.self.view_is) c.requires in
    let number = c.records-records.ensures.records ∙ sym (ap (λ a. whole_records (g.T.Tape.state a.tape)) c.self.view_is) in
    record {
      of_graph = c.self.invariant.of_graph;
      own = own-written g.T.Tape.state g.T.Tape.may_write g.met.T.Tape.writes c.self.inside.part _ _ c.self.invariant.own less _ _ _ _ _ c.number.ensures.number
          (c.id.ensures ∙ sym (ap (λ a. a.part.agent) c.self.view_is)) number c.due_record-record.ensures c.write_at.ensures;
      within = c.self.invariant.within;
    }

pub returns : goal.returns
returns g c tt is =
    let a = c.args.self.now in
    let cell = subst (λ b. (is : IsPartOf tt b.part) → c.next_cell-cell.result ≡ path_cell is.track (c.records-records.result.count / 2 + 1)) c.self.view_is (c.next_cell-cell.ensures tt) is in
    let wrote : g.T.Tape.may_write a.tape (record_length * whole_records (g.T.Tape.state a.tape)) (due_record a.part.number a.part.agent (whole_records (g.T.Tape.state a.tape))) true
    c.write_at.new.self =
    search rules in record {
      is_track = is.is_track;
      part = ap (λ b. b.part) c.self.view_is;
      state = record {
        heard = ap (λ b. b.heard) c.self.view_is;
        outcome = inl (
          ap Ok (cell ∙ ap (λ n. path_cell is.track (n / 2 + 1)) c.records-records.ensures.records),
          record-more g.T.Tape.state g.T.Tape.may_write g.met.T.Tape.writes a.part a.tape c.write_at.new.self c.records-records.ensures.within c.requires wrote,
          ap (λ b. b.broken) c.self.view_is,
        );
      };
      tape = wrote;
      failure = search rules;
      no_failure = search rules;
    }
