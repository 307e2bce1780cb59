use Rattle.std.proofs.Common.{◌≡◌, ◌+◌, ◌^◌, ◌<◌, ◌++◌, length}
use Rattle.std.specs.Vec.Iter.{into_iter_items, into_iter_len}
use Rattle.lu_proof_run.specs.Numbering.{last_after_all, numbered_sends}
use Rattle.lu_run_wire.proofs.wires.Wire.write.Given as goal

-- what is written, and what will be of the lines that are left, are the lines before and all lines
abbrev pub invariant-loop-line : goal.invariant-loop-line
invariant-loop-line l = record {
  can_next : (goal.iterator-loop-line).can_next l.line-iterator;
  is_finite : (goal.iterator-loop-line).is_finite l.line-iterator;
  left : into_iter_len l.line-iterator ≡ length (into_iter_items l.line-iterator);
  room : l.self.messages + length (into_iter_items l.line-iterator) < 2 ^ 64;
  lines : l.self.entries ++ numbered_sends l.self.messages (into_iter_items l.line-iterator) ≡ l.initial.self.entries
      ++ numbered_sends l.initial.self.messages (into_iter_items l.initial.line-iterator);
  messages : last_after_all l.self.messages (into_iter_items l.line-iterator)
      ≡ last_after_all l.initial.self.messages (into_iter_items l.initial.line-iterator);
  links : l.self.links ≡ l.initial.self.links;
  turns : l.self.turns ≡ l.initial.self.turns;
}
