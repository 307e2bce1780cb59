use Rattle.lu_spec_machine.proofs.Seen.{trimmed_removal_by_seen}
use Rattle.lu_spec_machine.proofs.Trim.{unseen, trimmed_removal, named_have_links}
use Rattle.lu_spec_machine.proofs.theorems.trimming.Goals as goal

pub returns : goal.returns
returns c = record { unseen = unseen; removal = trimmed_removal; seen = trimmed_removal_by_seen; links = named_have_links }
