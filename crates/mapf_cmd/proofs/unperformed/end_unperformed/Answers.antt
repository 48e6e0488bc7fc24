use Rattle.std.proofs.Common.{inl}
use Rattle.mapf_cmd.proofs.unperformed.end_unperformed.Goals as goal

pub returns-in-Some : goal.returns-in-Some
returns-in-Some g c = inl (c.in-Some.ensures, (c.as_bytes.result.now, c.show.ensures))
