use Rattle.std.proofs.Common.{◌≡◌, ◌++◌, length, map}
use Rattle.std.specs.Vec.Iter.{into_iter_items, into_iter_len}
use Rattle.lu_spec_run.specs.Scenarios.{posted}
use Rattle.lu_run_wire.proofs.wires.Wire.post.Given as goal

-- what is posted, and what will be, are the messages before and all that are sent
abbrev pub invariant-loop-post : goal.invariant-loop-post
invariant-loop-post l = record {
  can_next : (goal.iterator-loop-post).can_next l.post-iterator;
  is_finite : (goal.iterator-loop-post).is_finite l.post-iterator;
  left : into_iter_len l.post-iterator ≡ length (into_iter_items l.post-iterator);
  posts : l.self.links ++ map (posted l.at) (into_iter_items l.post-iterator) ≡ l.initial.self.links
      ++ map (posted l.at) (into_iter_items l.initial.post-iterator);
  entries : l.self.entries ≡ l.initial.self.entries;
  turns : l.self.turns ≡ l.initial.self.turns;
  messages : l.self.messages ≡ l.initial.self.messages;
}
