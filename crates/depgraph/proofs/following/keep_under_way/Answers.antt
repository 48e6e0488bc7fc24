-- Who comes into no shared cell any more is left out.
use Rattle.std.proofs.Common.{rules}
use Rattle.std.proofs.lemmas.Fn.{filter_same}
use Rattle.depgraph.specs.declared.following.Follower.{Follower}
use Rattle.depgraph.specs.Code.Meetings.{is_under_way}
use Rattle.depgraph.proofs.FollowerLemmas.{under-way-kept}
use Rattle.depgraph.proofs.following.keep_under_way.Goals as goal

pub returns : goal.returns
returns c =
    under-way-kept c.args.meetings.now c.requires.meetings c.args.time c.args.followers.now.items c.retain.new.self.items
    (filter_same _ (λ (f : Follower). is_under_way c.args.meetings.now.ends.now f) _ (λ x b f' k. search rules) _ _ c.retain.ensures.filtered) c.requires.all
