use Rattle.std.proofs.Common.{refl}
use Rattle.std.specs.Prelude.{◌==◌, ◌&&◌, if◌then◌else◌}
use Rattle.std.specs.Option.{option_map}
use Rattle.std.specs.HashMap.{get_by}
use Rattle.lu_spec_machine.specs.Tree.{same_life}
use Rattle.lu_judge_pass.proofs.Shown.{put}
use Rattle.lu_judge_silent.specs.Readings.{rebound_by}
use Rattle.lu_judge_silent.specs.Tables.{stamp, same_of, stood_of, marks_of}
use Rattle.lu_judge_silent.proofs.Moves.{rebound_none, rebound_some, stood}
use Rattle.lu_judge_silent.proofs.known.Known.begin.Goals as goal

pub returns-in_ok-set-in-Some-clause-moves : goal.returns-in_ok-set-in-Some-clause-moves
returns-in_ok-set-in-Some-clause-moves c = λ w. record {
  disturbed = refl;
  rebound = λ h. rebound_some (same_life c.args.who w) (rebound_by c.args.call.now) c.in-Some.handle h c.args.self.now.clock
      ((marks_of c.args.self.now w).rebound h)
      (stamp (same_of ◌==◌) c.set.new.self (w, h)) c.in-Some.ensures (c.in_ok-set-in-Some.ensures.set (w, h));
  standing = λ s. stood (same_life c.args.who w && c.args.slot == s) c.args.call.now c.since-since.result
      (if c.args.is_ready then c.args.self.now.clock else 0)
      (option_map stood_of (get_by (λ k. same_life w k.0 && s == k.1) c.insert.new.self)) ((marks_of c.args.self.now w).standing s)
      c.since-since.ensures
      (put stood_of (same_life c.args.who w && c.args.slot == s) _ (get_by (λ k. same_life w k.0 && s == k.1) c.args.self.now.standing)
      (get_by (λ k. same_life w k.0 && s == k.1) c.insert.new.self)
      ((marks_of c.args.self.now w).standing s) (c.in_ok-insert.ensures.updates.0 (w, s)) refl);
  told = λ q. refl;
}

pub returns-in-None-clause-moves : goal.returns-in-None-clause-moves
returns-in-None-clause-moves c = λ w. record {
  disturbed = refl;
  rebound = λ h. rebound_none (same_life c.args.who w) (rebound_by c.args.call.now) h c.args.self.now.clock
      ((marks_of c.args.self.now w).rebound h) c.in-None.ensures;
  standing = λ s. stood (same_life c.args.who w && c.args.slot == s) c.args.call.now c.since-since.result
      (if c.args.is_ready then c.args.self.now.clock else 0)
      (option_map stood_of (get_by (λ k. same_life w k.0 && s == k.1) c.insert.new.self)) ((marks_of c.args.self.now w).standing s)
      c.since-since.ensures
      (put stood_of (same_life c.args.who w && c.args.slot == s) _ (get_by (λ k. same_life w k.0 && s == k.1) c.args.self.now.standing)
      (get_by (λ k. same_life w k.0 && s == k.1) c.insert.new.self)
      ((marks_of c.args.self.now w).standing s) (c.in_ok-insert.ensures.updates.0 (w, s)) refl);
  told = λ q. refl;
}
