use Rattle.lu_layout.proofs.Sizes.{IsFileSize-file_size_of, IsFileSize-one}
use Rattle.lu_layout.proofs.laws.sizes.Goals as goal

pub returns : goal.returns
returns c = record { size = IsFileSize-file_size_of; one = IsFileSize-one }
