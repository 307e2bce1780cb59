use Rattle.std.proofs.Common.{◌≡◌, ℕ, take}
use Rattle.std.specs.Prelude.{◌&&◌, ◌||◌, map}
use Rattle.std.specs.List.{list_any}
use Rattle.lu_base.specs.declared.ids.Who.{Who}
use Rattle.lu_spec_laws.specs.Words.Learned.{is_reply_to, carries, names}
use Rattle.lu_judge_pass.specs.Tables.{sending_of}
use Rattle.lu_judge_windows.specs.Learned.{is_of, heard_in, saw_in}
use Rattle.lu_judge_windows.proofs.learned.Learned.hear.Given as goal

abbrev pub invariant-loop-sending : goal.invariant-loop-sending
invariant-loop-sending l = record {
  heard : (t : ℕ) (w : Who) (n : ℕ) → heard_in l.self t w n ≡ ((is_of l.target l.who t w
      && list_any (is_reply_to (carries n) l.target l.who l.xid.0) (map sending_of (take l.sending-index l.taken)))
      || heard_in l.initial.self t w n);
  saw : (t : ℕ) (w : Who) (n : ℕ) → saw_in l.self t w n ≡ ((is_of l.target l.who t w
      && list_any (is_reply_to (names n) l.target l.who l.xid.0) (map sending_of (take l.sending-index l.taken)))
      || saw_in l.initial.self t w n);
}
