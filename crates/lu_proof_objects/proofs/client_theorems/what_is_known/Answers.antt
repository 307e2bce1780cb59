use Rattle.lu_proof_objects.proofs.client_theorems.what_is_known.Goals as goal
use Rattle.lu_proof_objects.proofs.Known.{drop_forgets, show_stands, bytes_must_go}
use Rattle.lu_proof_objects.proofs.Others.{others_keep}

pub returns-clause-drops : goal.returns-clause-drops
returns-clause-drops c = drop_forgets

pub returns-clause-shows : goal.returns-clause-shows
returns-clause-shows c = show_stands

pub returns-clause-must : goal.returns-clause-must
returns-clause-must c = bytes_must_go

pub returns-clause-others : goal.returns-clause-others
returns-clause-others c = others_keep
