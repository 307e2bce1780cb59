use Rattle.lu_patch.proofs.Seen.{reads_what_is_seen, reads_what_is_known, size_is_seen}
use Rattle.lu_patch.proofs.Own.{writes_what_is_seen, cuts_what_is_seen}
use Rattle.lu_patch.proofs.laws.seeing.Goals as goal

pub returns-clause-reads : goal.returns-clause-reads
returns-clause-reads c = reads_what_is_seen

pub returns-clause-known : goal.returns-clause-known
returns-clause-known c = reads_what_is_known

pub returns-clause-size : goal.returns-clause-size
returns-clause-size c = size_is_seen

pub returns-clause-writes : goal.returns-clause-writes
returns-clause-writes c = writes_what_is_seen

pub returns-clause-cuts : goal.returns-clause-cuts
returns-clause-cuts c = cuts_what_is_seen
