-- The story of one object of one target: its own lines, what a call did to it, and what concerns the whole target (this
-- project's profile). A life's lines after its eviction there, or after its end, are left out; what the target does goes on.
use Rattle.std.specs.Prelude.{ℕ, Bool, false, not, ◌&&◌, nat_eq, if◌then◌else◌, List, [], ◌∷◌, Option, Some, None}
use Rattle.lu_proof_bytes.specs.Object.Words.{Entry, Call, Flies as Flew, Forgets, Tells as Told, Evict as Evicted, Commit as Committed}
use Rattle.lu_proof_bytes.specs.Object.Words.{Close as Closed, Send as Sends, Ask as Asks, Reply as Replies, Give as Gives, Block as Blocks}
use Rattle.lu_proof_bytes.specs.Object.Words.{Cancel as Cancels}
use Rattle.lu_proof_bytes.specs.Objects.Words.{Message, Ask, Reply, Give, Block, Cancel, Line, Knows, Flies, Lives, Tells, Serve, Works}
use Rattle.lu_proof_bytes.specs.Objects.Words.{Evict, Commit, Close, Send, Place}
use Rattle.lu_proof_bytes.specs.Objects.Folds.{boot, evicted, over, place, object_of}

-- the target hasn't evicted the life, and the life isn't over
abbrev pub live : ℕ → ℕ → List Line → Bool
live t c past = not (evicted t c past) && not (over c past)

-- the entry where the test says so
abbrev pub keep : Bool → Entry → Option Entry
keep b e = if b then Some e else None

-- what a call that is told did to the object
abbrev pub told : ℕ → Option Call → Option Entry
told c None = None
told c (Some call) = Some (Told c call)

-- the place is of the object
abbrev pub is_at : Option Place → ℕ → Bool
is_at None o = false
is_at (Some p) o = nat_eq p.object o

-- the object is this one
abbrev pub is_object : Option ℕ → ℕ → Bool
is_object None o = false
is_object (Some q) o = nat_eq q o

-- a message of the object: a request names it, a reply is to a request for it, and the others have a cookie that was given for
-- it. What a life sends that isn't live there is left out; a join and a `Ready` are of no object
abbrev pub sent : ℕ → ℕ → List Line → Message → Option Entry
sent t o past (Ask b g q r) = keep (nat_eq o q && live t r.life past) (Sends (Asks b r))
sent t o past (Reply b c x a) = keep (is_at (place t c x past) o) (Sends (Replies b c x a))
sent t o past (Give b l s sn) = keep (is_object (object_of t l.cookie past) o) (Sends (Gives b l s sn))
sent t o past (Block b c k) = keep (is_object (object_of t k past) o) (Sends (Blocks b c k))
sent t o past (Cancel b c k) = keep (is_object (object_of t k past) o && live t c past) (Sends (Cancels b c k))
sent t o past _ = None

-- the entry that a line is in the story of object o of target t, if any, over the lines before it: a life that learns of a boot
-- forgets what it awaited, and a close comes with the boot that the target has then
abbrev pub step : ℕ → ℕ → List Line → Line → Option Entry
step t o past (Knows u c b) = keep (nat_eq t u && live t c past) (Forgets c)
step t o past (Flies u q g r) = keep (nat_eq t u && nat_eq o q && live t r.life past) (Flew r)
step t o past (Lives u q c e) = keep (nat_eq t u && nat_eq o q && live t c past) e
step t o past (Tells c does) = if live t c past then told c (does t o) else None
step t o past (Serve u q g r e) = keep (nat_eq t u && nat_eq o q) e
step t o past (Works u q e) = keep (nat_eq t u && nat_eq o q) e
step t o past (Evict u c) = keep (nat_eq t u) (Evicted c)
step t o past (Commit u n) = keep (nat_eq t u) (Committed n)
step t o past (Close u lost gone) = keep (nat_eq t u) (Closed (boot t past) lost gone)
step t o past (Send u m) = if nat_eq t u then sent t o past m else None
step t o past _ = None

-- the story, and before it the entry, if there is one
abbrev pub put : Option Entry → List Entry → List Entry
put None h = h
put (Some e) h = e ∷ h

-- the story of object o of target t in the past, the newest entry first
abbrev pub only : ℕ → ℕ → List Line → List Entry
only t o [] = []
only t o (l ∷ past) = put (step t o past l) (only t o past)
