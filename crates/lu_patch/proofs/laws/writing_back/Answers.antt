use Rattle.lu_patch.proofs.WriteBack.{flush_is_unseen}
use Rattle.lu_patch.proofs.Ends.{flush_lowers_left, flushes_end, flushes_write_what_is_seen}
use Rattle.lu_patch.proofs.laws.writing_back.Goals as goal

pub returns-clause-unseen : goal.returns-clause-unseen
returns-clause-unseen c = flush_is_unseen

pub returns-clause-lowers : goal.returns-clause-lowers
returns-clause-lowers c = flush_lowers_left

pub returns-clause-end : goal.returns-clause-end
returns-clause-end c = flushes_end

pub returns-clause-seen : goal.returns-clause-seen
returns-clause-seen c = flushes_write_what_is_seen
