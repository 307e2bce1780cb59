-- The laws of a story. Its one history has the calls that were told to lives which aren't evicted, and of the others the changes that the
-- target executed; a plain map of bytes, which knows no lock, life or target, says what each read gets there.
use Rattle.std.specs.Prelude.{◌≡◌, ◌⊎◌, ℕ, zero, suc, ◌≤◌, Bool, true, false, not, ◌&&◌, if◌then◌else◌, List, [], ◌∷◌, ◌-◌, min, Option}
use Rattle.std.specs.Prelude.{Some, None}
use Rattle.lu_proof_bytes.specs.Object.Words.{Lock, Change, Write, Cut, Op, Flush, Request, Ask, Call, Did, Saw, Entry, Flies, Tells, Txn}
use Rattle.lu_proof_bytes.specs.Object.Words.{Close, overlay, after_at, value, conflict, end_after}
use Rattle.lu_proof_bytes.specs.Object.Folds.{Was, evicted, HeldBy, also, nothing_lost}

-- ---- the history

-- `Made` and `Read` are told calls of lives that aren't out; a `Piece` is an executed change of one that is
pub data Item : Type 0 where
  Made : (life : ℕ) (change : Change) → Item
  Read : (life : ℕ) (at : ℕ) (count : ℕ) (bytes : List ℕ) → Item
  Piece : (life : ℕ) (change : Change) → Item

-- the item of a told call, before those of older entries
abbrev pub told_item : ℕ → Call → List Item → List Item
told_item c (Did k ch) is = Made c ch ∷ is
told_item c (Saw at n vs) is = Read c at n vs ∷ is

-- the item of an executed request, if that is a write-back
abbrev pub piece_item : ℕ → Op → List Item → List Item
piece_item c (Flush k ch) is = Piece c ch ∷ is
piece_item c _ is = is

-- the newest item first. `out` says which lives are gone, `lost` which transactions, beside those that a close of the story lost
abbrev pub history : (ℕ → Bool) → (ℕ → Bool) → List Entry → List Item
history out lost [] = []
history out lost (Tells c call ∷ h) = if out c then history out lost h else told_item c call (history out lost h)
history out lost (Txn n r ∷ h) = if out r.life && not (lost n) then piece_item r.life r.op (history out lost h) else history out lost h
history out lost (Close b l gone ∷ h) = history out (also lost l) h
history out lost (_ ∷ h) = history out lost h

-- ---- the plain map

-- the plain map's byte at a position (POSIX.1, write, ftruncate)
abbrev pub plain : List Item → ℕ → Option ℕ
plain [] p = None
plain (Made c ch ∷ is) p = after_at ch p (plain is p)
plain (Piece c ch ∷ is) p = after_at ch p (plain is p)
plain (Read c at n vs ∷ is) p = plain is p

-- the bytes of the plain map that are read from `at` on, absent ones as 0 (POSIX.1, read)
abbrev pub read_of : List Item → ℕ → ℕ → List ℕ
read_of is at zero = []
read_of is at (suc n) = value (plain is at) ∷ read_of is (suc at) n

-- the size of the plain map, change by change; `size_is` of `proofs/Object/Views` shows that it is one more than the last position with a byte,
-- or 0
abbrev pub size_of : List Item → ℕ
size_of [] = 0
size_of (Made c ch ∷ is) = end_after ch (size_of is)
size_of (Piece c ch ∷ is) = end_after ch (size_of is)
size_of (Read c at n vs ∷ is) = size_of is

-- ---- the laws of reads and of locks

-- each read got what the plain map has at its place in the history, up to its size
abbrev pub Right : List Item → Type 0
Right [] = Unit {0}
Right (Read c at n vs ∷ is) = (vs ≡ read_of is at (min n (size_of is - at))) × Right is
Right (_ ∷ is) = Right is

-- the law of the history, with the lives out that are evicted by the end of the story, and nothing lost but by its closes
abbrev pub History : List Entry → Type 0
History h = Right (history (λ c. evicted c h) nothing_lost h)

-- no two different locks conflict that are held by lives which aren't evicted (Wang et al., Understanding Lustre Filesystem Internals, the
-- lock manager: extent locks)
abbrev pub LocksAt : List Entry → Type 0
LocksAt h = (l m : Lock) → HeldBy h l → HeldBy h m → evicted l.life h ≡ false → evicted m.life h ≡ false → conflict l m ≡ true → l ≡ m

-- the law of locks: so it is after each entry
abbrev pub Locks : List Entry → Type 0
Locks [] = Unit {0}
Locks (e ∷ h) = LocksAt (e ∷ h) × Locks h

-- the number is one more than the greatest position with a byte, or 0 if there is none
abbrev pub IsSize : (ℕ → Option ℕ) → ℕ → Type 0
IsSize m z = ((p : ℕ) → z ≤ p → m p ≡ None) × ((p : ℕ) → suc p ≡ z → m p ≡ None → ⊥)

-- ---- the law of puts

-- the life was told a write that has this byte for this position
abbrev pub ToldWrite : List Entry → ℕ → ℕ → ℕ → Type 0
ToldWrite [] c p b = ⊥
ToldWrite (Tells d (Did k (Write at bs)) ∷ h) c p b = ((d ≡ c) × (overlay at bs p None ≡ Some b)) ⊎ ToldWrite h c p b
ToldWrite (_ ∷ h) c p b = ToldWrite h c p b

-- the life was told a cut to this size
abbrev pub ToldCut : List Entry → ℕ → ℕ → Type 0
ToldCut [] c n = ⊥
ToldCut (Tells d (Did k (Cut m)) ∷ h) c n = ((d ≡ c) × (m ≡ n)) ⊎ ToldCut h c n
ToldCut (_ ∷ h) c n = ToldCut h c n

-- where the bytes of a change come from: a told write of that life, or they are 0 right before the end of a told cut; and a cut was told
abbrev pub Origin : List Entry → ℕ → Change → Type 0
Origin h c (Write at bs) = (p b : ℕ) → overlay at bs p None ≡ Some b → ToldWrite h c p b ⊎ ((b ≡ 0) × ToldCut h c (suc p))
Origin h c (Cut n) = ToldCut h c n

-- this is so where the request begins to fly, before it is ever sent
abbrev pub OriginOf : List Entry → Request → Change → Type 0
OriginOf [] r ch = ⊥
OriginOf (Flies q ∷ h) r ch = ((q ≡ r) × ((b : ℕ) → Was h (Ask b r) → ⊥) × Origin h r.life ch) ⊎ OriginOf h r ch
OriginOf (_ ∷ h) r ch = OriginOf h r ch

-- an executed write-back comes from what was told before its request was first sent
abbrev pub PutsAt : List Entry → Entry → Type 0
PutsAt h (Txn n r) = (k : ℕ) (ch : Change) → r.op ≡ Flush k ch → OriginOf h r ch
PutsAt h _ = Unit {0}

-- the law of puts: so it is of each entry
abbrev pub Puts : List Entry → Type 0
Puts [] = Unit {0}
Puts (e ∷ h) = PutsAt h e × Puts h
