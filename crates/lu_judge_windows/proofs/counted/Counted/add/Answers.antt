use Rattle.std.proofs.Common.{◌≡◌, ◌+◌, ◌≤◌, not, sym, ap, ◌∙◌, arith, hash_set_len}
use Rattle.std.specs.Prelude.{◌==◌, ◌&&◌}
use Rattle.std.specs.HashMap.{get_by}
use Rattle.lu_spec_machine.specs.Tree.{same_life}
use Rattle.lu_judge_windows.specs.Counted.{has_member, count_of}
use Rattle.lu_judge_windows.proofs.Tests.{put_test}
use Rattle.lu_judge_windows.proofs.Counts.{count_comes, still_bounded, one_added, by_result}
use Rattle.lu_judge_windows.proofs.counted.Counted.add.Goals as goal

pub invariant_of-self-2 : goal.invariant_of-self-2
invariant_of-self-2 c =
    let all = hash_set_len c.args.self.now.members in
    let more = hash_set_len c.insert.new.self in
    let absent = sym c.contains.ensures ∙ c.if-contains.false in
    let is : more ≡ all + 1 = one_added all more _ c.in_ok-insert.ensures.len (c.in_ok-insert.ensures.added ∙ ap not absent) in
    let bound : c.min-count.result ≤ all = omega (arith, c.min-count.ensures, c.len.ensures.len) in
    record {
      bounded = λ client life.
          by_result c.insert-2.result c.insert-2.ensures.updates c.insert-2.ensures.err
          (λ updates. still_bounded (c.args.who.client == client && c.args.who.life == life) c.min-count.result all more _ _
          (updates.0 (client, life)) bound (c.args.self.now.bounded client life) is)
          (λ same. rw same (omega (arith, is, c.args.self.now.bounded client life)));
    }

pub returns-clause-members : goal.returns-clause-members
returns-clause-members c = λ w n. c.in_ok-insert.ensures.updates.0 ((w.client, w.life), n)
    ∙ put_test (same_life c.args.who w && c.args.number == n) (has_member c.args.self.now w n)

pub returns-clause-counts : goal.returns-clause-counts
returns-clause-counts c =
    let is : c.min-count.result ≡ count_of c.args.self.now c.args.who =
    omega (
      arith,
      c.min-count.ensures,
      c.len.ensures.len,
      c.count.ensures.count,
      c.args.self.now.bounded c.args.who.client c.args.who.life,
    ) in
    count_comes c.args.who c.min-count.result (λ w. get_by (λ k. w.client == k.0 && w.life == k.1) c.args.self.now.counts)
    (λ w. get_by (λ k. w.client == k.0 && w.life == k.1) c.insert-2.new.self)
    (λ w. c.in_ok-insert-2.ensures.updates.0 (w.client, w.life)) is
