-- Where the bytes of a put come from, at positions of the file: a told write of that life put the byte there, or it is the
-- zero of a told cut; each told before the request is first sent (this project's profile; POSIX.1, write and ftruncate, for
-- what they put).
use Rattle.std.specs.Prelude.{◌≡◌, ◌⊎◌, ℕ, suc, true, List, [], ◌∷◌, Some, None}
use Rattle.lu_proof_bytes.specs.Object.Words.{Change, Write, Cut, Flush, Request, Txn, overlay}
use Rattle.lu_proof_bytes.specs.Objects.Words.{Ask, Flies, Serve}
use Rattle.lu_proof_bytes.specs.Objects.Folds.{Sent}
use Rattle.lu_proof_bytes.specs.Files.File.{Places, Step, Own, Changes, lines}

-- a write was told to life c that puts byte b at the position that offset q of stripe i has in its layout
abbrev pub FileWrite : List Step → ℕ → ℕ → ℕ → ℕ → Type 0
FileWrite [] c i q b = ⊥
FileWrite (Changes y d locks (Write at bs) ∷ h) c i q b = ((d ≡ c) × (y.has i q ≡ true) × (overlay at bs (y.position i q) None ≡ Some b))
    ⊎ FileWrite h c i q b
FileWrite (_ ∷ h) c i q b = FileWrite h c i q b

-- a cut was told to life c below which m of the offsets of stripe i lie, in its layout
abbrev pub FileCut : List Step → ℕ → ℕ → ℕ → Type 0
FileCut [] c i m = ⊥
FileCut (Changes y d locks (Cut n) ∷ h) c i m = ((d ≡ c) × (y.below i n ≡ m)) ⊎ FileCut h c i m
FileCut (_ ∷ h) c i m = FileCut h c i m

-- of what a change does to stripe i: each byte that it puts is that of a told write there, or a zero at the last offset
-- below a told cut; and a cut to m offsets is the part of a told cut
abbrev pub FileOrigin : List Step → ℕ → ℕ → Change → Type 0
FileOrigin h c i (Write at bs) = (q b : ℕ) → overlay at bs q None ≡ Some b → FileWrite h c i q b ⊎ ((b ≡ 0) × FileCut h c i (suc q))
FileOrigin h c i (Cut m) = FileCut h c i m

-- where the request begins to fly, the change has its origin in what was told before, and the request was never sent till
-- then
abbrev pub FileOriginOf : Places → List Step → ℕ → Request → Change → Type 0
FileOriginOf w [] i r ch = ⊥
FileOriginOf w (Own (Flies t o g q) ∷ h) i r ch = ((q ≡ r) × ((b k : ℕ) → Sent (lines w h) (w.target i) (Ask b k (w.object i) r) → ⊥)
    × FileOrigin h r.life i ch) ⊎ FileOriginOf w h i r ch
FileOriginOf w (_ ∷ h) i r ch = FileOriginOf w h i r ch

-- each transaction on a stripe of the file that is a put or a cut has its origin in what its life was told
abbrev pub PutAt : Places → List Step → Step → Type 0
PutAt w h (Own (Serve t o g r (Txn n q))) = (i k : ℕ) (ch : Change) → t ≡ w.target i → o ≡ w.object i → q.op ≡ Flush k ch
    → FileOriginOf w h i q ch
PutAt w h _ = Unit {0}

-- each step so, over those before it
abbrev pub FilePuts : Places → List Step → Type 0
FilePuts w [] = Unit {0}
FilePuts w (s ∷ h) = PutAt w h s × FilePuts w h
