-- What the story so far says, its newest entry first. First what it says of the target, then of the lives: what a life holds, has in
-- flight, has changed and not yet written back (its patch), and knows of the object.
use Rattle.std.specs.Prelude.{◌≡◌, ◌⊎◌, ℕ, suc, ◌+◌, max, Bool, true, false, ◌&&◌, ◌||◌, nat_eq, nat_lt, if◌then◌else◌, List, [], ◌∷◌}
use Rattle.std.specs.Prelude.{length, Option, Some, None, not}
use Rattle.lu_proof_bytes.specs.Object.Words.{Lock, Change, Write, Cut, Op, Get, Flush, Request, Answer, Granted, Waiting, Content, Done}
use Rattle.lu_proof_bytes.specs.Object.Words.{Message, Did, Entry, Takes, Flies, Heard, Hold, Drop, Forgets, Tells, Grant, Wait, Promote}
use Rattle.lu_proof_bytes.specs.Object.Words.{Acts, Txn, Release, Evict, Commit, Close, Send, covers, overlay, within, value, cut_at}
use Rattle.lu_proof_bytes.specs.Object.Words.{after_at, end_after, changes}

-- ---- of the target

-- the message was sent
abbrev pub Was : List Entry → Message → Type 0
Was [] m = ⊥
Was (Send k ∷ h) m = (k ≡ m) ⊎ Was h m
Was (_ ∷ h) m = Was h m

-- the boot of the last close, 1 before the first. Requests, answers and `Give`s go out with this boot, and the target takes up no request
-- that came with another (this project's profile).
abbrev pub closed : List Entry → ℕ
closed [] = 1
closed (Close b lost gone ∷ h) = b
closed (_ ∷ h) = closed h

-- the life was evicted, alone or by a close
abbrev pub evicted : ℕ → List Entry → Bool
evicted c [] = false
evicted c (Evict d ∷ h) = nat_eq c d || evicted c h
evicted c (Close b lost gone ∷ h) = gone c || evicted c h
evicted c (_ ∷ h) = evicted c h

-- the number of the last commit, 0 before the first
abbrev pub committed : List Entry → ℕ
committed [] = 0
committed (Commit n ∷ h) = n
committed (_ ∷ h) = committed h

-- the greatest cookie given so far, 0 before the first
abbrev pub top : List Entry → ℕ
top [] = 0
top (Grant r l s sn ∷ h) = max l.cookie (top h)
top (Wait r l ∷ h) = max l.cookie (top h)
top (_ ∷ h) = top h

-- the life's request of that number got that answer: since the last close, or, if it made a transaction, one that no close since has
-- lost. So after a close a target knows the transactions that stand and no other answers (this project's profile; Lustre Operations
-- Manual, recovery: replay).
abbrev pub Answered : List Entry → ℕ → ℕ → Answer → Type 0
Answered [] c x a = ⊥
Answered (Close b lost gone ∷ h) c x a = Answered h c x a × ((n : ℕ) × (a ≡ Done n) × (lost n ≡ false))
Answered (Grant r l s sn ∷ h) c x a = ((r.life ≡ c) × (r.xid ≡ x) × (Granted l s sn ≡ a)) ⊎ Answered h c x a
Answered (Wait r l ∷ h) c x a = ((r.life ≡ c) × (r.xid ≡ x) × (Waiting l.cookie ≡ a)) ⊎ Answered h c x a
Answered (Acts r b ∷ h) c x a = ((r.life ≡ c) × (r.xid ≡ x) × (b ≡ a)) ⊎ Answered h c x a
Answered (Txn n r ∷ h) c x a = ((r.life ≡ c) × (r.xid ≡ x) × (Done n ≡ a)) ⊎ Answered h c x a
Answered (_ ∷ h) c x a = Answered h c x a

-- ---- locks

-- the two have different cookies
abbrev pub Apart : Lock → Lock → Type 0
Apart l m = l.cookie ≡ m.cookie → ⊥

-- the lock was granted, at any time
abbrev pub WasGranted : List Entry → Lock → Type 0
WasGranted [] m = ⊥
WasGranted (Grant r l s sn ∷ h) m = (l ≡ m) ⊎ WasGranted h m
WasGranted (Promote l ∷ h) m = (l ≡ m) ⊎ WasGranted h m
WasGranted (_ ∷ h) m = WasGranted h m

-- the lock is held, by the life that stands in it: from its `Hold` until a lock of its cookie is dropped
abbrev pub HeldBy : List Entry → Lock → Type 0
HeldBy [] m = ⊥
HeldBy (Hold l s sn ∷ h) m = (l ≡ m) ⊎ HeldBy h m
HeldBy (Drop l ∷ h) m = Apart l m × HeldBy h m
HeldBy (_ ∷ h) m = HeldBy h m

-- the lock is granted at the target: from its `Grant` or `Promote` until its cookie is released; and by a close just those locks are
-- granted that are held by lives which stay (Lustre Operations Manual, recovery: replay).
abbrev pub IsGranted : List Entry → Lock → Type 0
IsGranted [] m = ⊥
IsGranted (Close b lost gone ∷ h) m = HeldBy h m × ((gone m.life || evicted m.life h) ≡ false)
IsGranted (Grant r l s sn ∷ h) m = (l ≡ m) ⊎ IsGranted h m
IsGranted (Promote l ∷ h) m = (l ≡ m) ⊎ IsGranted h m
IsGranted (Release k ∷ h) m = (k ≡ m.cookie → ⊥) × IsGranted h m
IsGranted (_ ∷ h) m = IsGranted h m

-- the lock waits at the target: from its `Wait` until a lock of its cookie is promoted, its life is evicted, or a window closes
abbrev pub IsWaiting : List Entry → Lock → Type 0
IsWaiting [] m = ⊥
IsWaiting (Close b lost gone ∷ h) m = ⊥
IsWaiting (Wait r l ∷ h) m = (l ≡ m) ⊎ IsWaiting h m
IsWaiting (Promote l ∷ h) m = Apart l m × IsWaiting h m
IsWaiting (Evict c ∷ h) m = (c ≡ m.life → ⊥) × IsWaiting h m
IsWaiting (_ ∷ h) m = IsWaiting h m

-- ---- the object

-- what an executed request makes of a position; only a write-back changes any
abbrev pub after_op : Op → ℕ → Option ℕ → Option ℕ
after_op (Flush k ch) p x = after_at ch p x
after_op _ p x = x

-- what is in one of two sets of transactions: what is lost, with what an earlier close lost
abbrev pub also : (ℕ → Bool) → (ℕ → Bool) → ℕ → Bool
also a b n = a n || b n

-- no transaction
abbrev pub nothing_lost : ℕ → Bool
nothing_lost n = false

-- the byte that the target has at a position: the changes of all transactions in their order, but for those of `lost` and those that a
-- close lost
abbrev pub object : (ℕ → Bool) → List Entry → ℕ → Option ℕ
object lost [] p = None
object lost (Txn n r ∷ h) p = if lost n then object lost h p else after_op r.op p (object lost h p)
object lost (Close b l gone ∷ h) p = object (also lost l) h p
object lost (_ ∷ h) p = object lost h p

-- the positions that an executed request may change
abbrev pub op_changes : Op → ℕ → Bool
op_changes (Flush k ch) p = changes ch p
op_changes _ p = false

-- the transaction of that number may have changed the position, and no close has lost it
abbrev pub Changed : List Entry → ℕ → ℕ → Type 0
Changed [] n p = ⊥
Changed (Txn m r ∷ h) n p = ((n ≡ m) × (op_changes r.op p ≡ true)) ⊎ Changed h n p
Changed (Close b l gone ∷ h) n p = (l n ≡ false) × Changed h n p
Changed (_ ∷ h) n p = Changed h n p

-- ---- of a life: requests and locks

-- the number of the last request of a life, 0 before the first
abbrev pub asked : ℕ → List Entry → ℕ
asked c [] = 0
asked c (Flies r ∷ h) = if nat_eq c r.life then r.xid else asked c h
asked c (_ ∷ h) = asked c h

-- the request that a life has in flight: the last one, until its answer is heard
abbrev pub flight : ℕ → List Entry → Option Request
flight c [] = None
flight c (Flies r ∷ h) = if nat_eq c r.life then Some r else flight c h
flight c (Heard r a ∷ h) = if nat_eq c r.life then None else flight c h
flight c (_ ∷ h) = flight c h

-- the answer brings the lock of this cookie, now or, if that waits, later
abbrev pub brings : Answer → ℕ → Bool
brings (Granted l s sn) k = nat_eq l.cookie k
brings (Waiting j) k = nat_eq j k
brings _ k = false

-- the life awaits the lock of this cookie: an answer that brings it was heard, the lock wasn't held since, and no new boot was heard of
abbrev pub awaits : ℕ → ℕ → List Entry → Bool
awaits c k [] = false
awaits c k (Heard r a ∷ h) = (nat_eq c r.life && brings a k) || awaits c k h
awaits c k (Hold l s sn ∷ h) = if nat_eq c l.life && nat_eq k l.cookie then false else awaits c k h
awaits c k (Forgets d ∷ h) = if nat_eq c d then false else awaits c k h
awaits c k (_ ∷ h) = awaits c k h

-- the lock was dropped, at any time
abbrev pub WasDropped : List Entry → Lock → Type 0
WasDropped [] m = ⊥
WasDropped (Drop l ∷ h) m = (l ≡ m) ⊎ WasDropped h m
WasDropped (_ ∷ h) m = WasDropped h m

-- ---- of a life: its patch

-- there is a byte
abbrev pub is_some : Option ℕ → Bool
is_some None = false
is_some (Some x) = true

-- the pending cut, once a change is told: the lowest one counts
abbrev pub cut_by : Change → Option ℕ → Option ℕ
cut_by (Write at bs) q = q
cut_by (Cut n) None = Some n
cut_by (Cut n) (Some q) = if nat_lt n q then Some n else Some q

-- a dirty byte once a cut to `n` is told, where `q` is pending: nothing at `n` or later; and position n - 1, if a lower cut is pending,
-- has a byte of its own, 0 if it had none
abbrev pub dirty_cut : ℕ → Option ℕ → ℕ → Option ℕ → Option ℕ
dirty_cut n None p d = if nat_lt p n then d else None
dirty_cut n (Some q) p d = if nat_lt p n then (if nat_eq (suc p) n && nat_lt q n then Some (value d) else d) else None

-- a dirty byte once a change is told
abbrev pub dirty_by : Change → Option ℕ → ℕ → Option ℕ → Option ℕ
dirty_by (Write at bs) q p d = overlay at bs p d
dirty_by (Cut n) q p d = dirty_cut n q p d

-- whether a byte is under way, and unchanged since, once a change is told: not if a write has it, or a cut drops it
abbrev pub flying_by : Change → ℕ → Bool → Bool
flying_by (Write at bs) p f = not (within at bs p) && f
flying_by (Cut n) p f = nat_lt p n && f

-- the pending cut once an answer is heard: gone if this cut was written back and no lower one told since
abbrev pub cut_acked : Op → Answer → Option ℕ → Option ℕ
cut_acked (Flush k (Cut n)) (Done m) (Some q) = if nat_eq q n then None else Some q
cut_acked _ _ q = q

-- a dirty byte once an answer is heard: gone if it was under way and not changed since it was taken, else it stays
abbrev pub dirty_acked : Op → Answer → Bool → Option ℕ → Option ℕ
dirty_acked (Flush k (Write at bs)) (Done m) f d = if f then None else d
dirty_acked _ _ f d = d

-- a change that is taken to be written back has a byte for this position
abbrev pub taken_by : Change → ℕ → Bool
taken_by (Write at bs) p = within at bs p
taken_by (Cut n) p = false

-- whether a byte was taken and not changed since, once an answer is heard: not if that answers a write-back
abbrev pub flying_heard : Op → Bool → Bool
flying_heard (Flush k ch) f = false
flying_heard _ f = f

-- the size of the cut that a life has told and not yet written back, if there is one: of several the lowest
abbrev pub pending : ℕ → List Entry → Option ℕ
pending c [] = None
pending c (Tells d (Did k ch) ∷ h) = if nat_eq c d then cut_by ch (pending c h) else pending c h
pending c (Heard r a ∷ h) = if nat_eq c r.life then cut_acked r.op a (pending c h) else pending c h
pending c (_ ∷ h) = pending c h

-- What a life writes back: a change, under the lock of that cookie
pub record WriteBack : Type 0 where
  pub lock : ℕ
  pub change : Change

-- what is under way of a write-back, once an answer is heard: nothing, if that answers one
abbrev pub taken_heard : Op → Option WriteBack → Option WriteBack
taken_heard (Flush k ch) w = None
taken_heard _ w = w

-- the write-back that is under way: taken from the patch, and its answer isn't heard. It may wait to be sent
abbrev pub taken : ℕ → List Entry → Option WriteBack
taken c [] = None
taken c (Takes d k ch ∷ h) = if nat_eq c d then Some (record { lock = k; change = ch }) else taken c h
taken c (Heard r a ∷ h) = if nat_eq c r.life then taken_heard r.op (taken c h) else taken c h
taken c (_ ∷ h) = taken c h

-- a life's byte at this position is under way to the target, and wasn't changed since it was taken
abbrev pub flying : ℕ → List Entry → ℕ → Bool
flying c [] p = false
flying c (Tells d (Did k ch) ∷ h) p = if nat_eq c d then flying_by ch p (flying c h p) else flying c h p
flying c (Heard r a ∷ h) p = if nat_eq c r.life then flying_heard r.op (flying c h p) else flying c h p
flying c (Takes d k ch ∷ h) p = if nat_eq c d then taken_by ch p else flying c h p
flying c (_ ∷ h) p = flying c h p

-- the byte of its own that a life has at this position, told and not yet written back
abbrev pub dirty : ℕ → List Entry → ℕ → Option ℕ
dirty c [] p = None
dirty c (Tells d (Did k ch) ∷ h) p = if nat_eq c d then dirty_by ch (pending c h) p (dirty c h p) else dirty c h p
dirty c (Heard r a ∷ h) p = if nat_eq c r.life then dirty_acked r.op a (flying c h p) (dirty c h p) else dirty c h p
dirty c (_ ∷ h) p = dirty c h p

-- ---- a patch over the object

-- a pending cut over a byte of the object
abbrev pub cut_over : Option ℕ → ℕ → Option ℕ → Option ℕ
cut_over None p x = x
cut_over (Some q) p x = cut_at q p x

-- a patch, its cut and its dirty byte, over a byte of the object: what the object has there once all of it is written back
abbrev pub over : Option ℕ → Option ℕ → ℕ → Option ℕ → Option ℕ
over q (Some b) p x = Some b
over q None p x = cut_over q p x

-- a cut to this position or a lower one is pending
abbrev pub cut_below : Option ℕ → ℕ → Bool
cut_below None p = false
cut_below (Some q) p = nat_lt q (suc p)

-- the patch hides what the object has there
abbrev pub masked : Option ℕ → Option ℕ → ℕ → Bool
masked q d p = is_some d || cut_below q p

-- the patch may change what the object has there: it hides it, or a pending cut to the next position may put a 0 there
abbrev pub touched : Option ℕ → Option ℕ → ℕ → Bool
touched q d p = is_some d || cut_below q (suc p)

-- ---- of a life: what it knows of bytes

-- what was known, if anything, is 0 now
abbrev pub zeroed : Option ℕ → Option ℕ
zeroed None = None
zeroed (Some v) = Some 0

-- what an answer makes of a known byte: the content that was asked for is known, and so is what was written back; where a cut was
-- written back, what was known from its size on is 0
abbrev pub learn : Op → Answer → ℕ → Option ℕ → Option ℕ
learn (Get k at n) (Content vs t sn) p v = overlay at vs p v
learn (Flush k (Write at bs)) (Done m) p v = overlay at bs p v
learn (Flush k (Cut n)) (Done m) p v = if nat_lt p n then v else zeroed v
learn _ _ p v = v

-- the byte of the object that a life knows at this position, as the target has it: from answers, until a lock over it is dropped. An
-- absent byte is known as 0.
abbrev pub known : ℕ → List Entry → ℕ → Option ℕ
known c [] p = None
known c (Heard r a ∷ h) p = if nat_eq c r.life then learn r.op a p (known c h p) else known c h p
known c (Drop l ∷ h) p = if nat_eq c l.life && covers l p then None else known c h p
known c (_ ∷ h) p = known c h p

-- what a life takes the byte at a position for: its own dirty one; 0 at or behind its pending cut; else what it knows
abbrev pub reads_at : Option ℕ → Option ℕ → Option ℕ → ℕ → Option ℕ
reads_at q (Some b) v p = Some b
reads_at q None v p = if cut_below q p then Some 0 else v

-- ---- of a life: what it knows of the end

-- the known end of the object once an answer is heard: a change that was written back has its effect
abbrev pub end_acked : Op → Answer → Option ℕ → Option ℕ
end_acked (Flush k ch) (Done m) (Some e) = Some (end_after ch e)
end_acked _ _ e = e

-- the size of the object as a life knows it under the lock of this cookie: as it was told with the lock, with each own change since that
-- was written back
abbrev pub ends : ℕ → ℕ → List Entry → Option ℕ
ends c k [] = None
ends c k (Hold l s sn ∷ h) = if nat_eq c l.life && nat_eq k l.cookie then Some s else ends c k h
ends c k (Heard r a ∷ h) = if nat_eq c r.life then end_acked r.op a (ends c k h) else ends c k h
ends c k (_ ∷ h) = ends c k h

-- the greater of a position and what was shown so far
abbrev pub most : ℕ → Option ℕ → Option ℕ
most s None = Some s
most s (Some t) = Some (max s t)

-- what is shown by an answer to a get under the lock of this cookie: the position that has a byte, if it tells one
abbrev pub shown_get : Op → Answer → ℕ → Option ℕ → Option ℕ
shown_get (Get j at n) (Content vs (Some s) sn) k x = if nat_eq j k then most s x else x
shown_get _ _ k x = x

-- what is shown by a told write: the position of its last byte
abbrev pub shown_write : Change → Option ℕ → Option ℕ
shown_write (Write at (b ∷ bs)) x = most (at + length bs) x
shown_write _ x = x

-- the greatest position that was shown to have a byte under the lock of this cookie, since it is held: told by an answer to a get under
-- it, or the last of a told write under it
abbrev pub shown : ℕ → ℕ → List Entry → Option ℕ
shown c k [] = None
shown c k (Hold l s sn ∷ h) = if nat_eq c l.life && nat_eq k l.cookie then None else shown c k h
shown c k (Heard r a ∷ h) = if nat_eq c r.life then shown_get r.op a k (shown c k h) else shown c k h
shown c k (Tells d (Did j ch) ∷ h) = if nat_eq c d && nat_eq k j then shown_write ch (shown c k h) else shown c k h
shown c k (_ ∷ h) = shown c k h

-- where an object that ends at `e` ends under a pending cut: at the cut, if there is one
abbrev pub base : Option ℕ → ℕ → ℕ
base None e = e
base (Some q) e = q
