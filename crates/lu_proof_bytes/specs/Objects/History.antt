-- The history of one object in a whole past, read from its own lines: what lives that are not out were told, and the standing
-- transactions of the others (POSIX.1, write and read, for one order of what was told; this project's profile, for what an
-- eviction leaves). And the law of locks over all targets (Wang et al., Understanding Lustre Filesystem Internals, the lock
-- manager).
use Rattle.std.specs.Prelude.{◌≡◌, ℕ, Bool, true, false, not, ◌&&◌, ◌||◌, nat_eq, if◌then◌else◌, List, [], ◌∷◌, Option, Some, None}
use Rattle.lu_proof_bytes.specs.Object.Words.{Lock, Call, Entry, Txn, conflict}
use Rattle.lu_proof_bytes.specs.Object.Folds.{also, HeldBy}
use Rattle.lu_proof_bytes.specs.Object.History.{Item, told_item, piece_item}
use Rattle.lu_proof_bytes.specs.Objects.Words.{Line, Tells, Serve, Evict, Close}
use Rattle.lu_proof_bytes.specs.Objects.Only.{only}

-- some target evicted the life, of itself or at a close: reads Evict and Close
abbrev pub gone : ℕ → List Line → Bool
gone c [] = false
gone c (Evict t d ∷ past) = nat_eq c d || gone c past
gone c (Close t lost out ∷ past) = out c || gone c past
gone c (_ ∷ past) = gone c past

-- the items, and before them what a told call did to the object, if it did anything there
abbrev pub told_items : ℕ → Option Call → List Item → List Item
told_items c None is = is
told_items c (Some call) is = told_item c call is

-- the items, and before them the piece of a transaction of a life that is out, unless it is lost
abbrev pub served_items : (ℕ → Bool) → (ℕ → Bool) → Entry → List Item → List Item
served_items out lost (Txn n r) is = if out r.life && not (lost n) then piece_item r.life r.op is else is
served_items out lost _ is = is

-- the history of object o of target t, the newest item first: `out` says which lives are out, `lost` which transactions of
-- the target are lost, besides those that a close after them lost. A life that isn't out counts with what it was told, one
-- that is out with its transactions that stand
abbrev pub items : (ℕ → Bool) → (ℕ → Bool) → ℕ → ℕ → List Line → List Item
items out lost t o [] = []
items out lost t o (Tells c does ∷ past) = if out c then items out lost t o past else told_items c (does t o) (items out lost t o past)
items out lost t o (Serve u q g r e ∷ past) = if nat_eq t u && nat_eq o q then served_items out lost e (items out lost t o past)
    else items out lost t o past
items out lost t o (Close u l out' ∷ past) = items out (if nat_eq t u then also lost l else lost) t o past
items out lost t o (_ ∷ past) = items out lost t o past

-- two locks on one object that lives hold which no target evicted don't conflict, but for a lock and itself
abbrev pub WholeLocks : List Line → Type 0
WholeLocks past =
    (t o : ℕ) (l m : Lock)
    → HeldBy (only t o past) l → HeldBy (only t o past) m
    → gone l.life past ≡ false → gone m.life past ≡ false
    → conflict l m ≡ true → l ≡ m
