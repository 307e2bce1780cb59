-- What was done and said, over a line that leaves most of it: what only grows, and what stays of slots, messages and requests that wait.
use Rattle.std.proofs.Common.{◌≡◌, ℕ, ◌≤◌, true, false, List, [], ◌∷◌, inl, inr, ⊎_elim, ap, ◌∙◌, arith}
use Rattle.lu_base.specs.declared.ids.Node.{Node}
use Rattle.lu_base.specs.declared.ids.Node.TheVariants.{Client, Target}
use Rattle.lu_base.specs.declared.ids.Who.{Who}
use Rattle.lu_msg.specs.declared.messages.GrantNotice.{GrantNotice}
use Rattle.lu_msg.specs.declared.messages.Message.{Message}
use Rattle.lu_msg.specs.declared.messages.Message.TheVariants as message
use Rattle.lu_msg.specs.declared.messages.Reply.{Reply as ReplyTo}
use Rattle.lu_msg.specs.declared.messages.Request.{Request as RequestOf}
use Rattle.lu_spec_entries.specs.Carried.{Deed, Flight}
use Rattle.lu_spec_entries.specs.Words.{Entry, Heard, Grant, Wait, Answers, Act, Txn as Made, Line, line}
use Rattle.lu_proof_lawful.specs.Covered.TargetStates.{server_of, slot_of, closed_of}
use Rattle.lu_proof_lawful.specs.Covered.TargetCloses.{is_lost}
use Rattle.lu_proof_lawful.specs.Covered.ClientStates.{life_of, is_own}
use Rattle.lu_proof_lawful.proofs.Preconditions.Guards.{Was, Did}
use Rattle.lu_proof_lawful.proofs.Invariants.Groups.{HeardAs}
use Rattle.lu_proof_lawful.proofs.Invariants.TargetGroups.{Flew, Acted, Hears, IsAsking, RepliesTo, FlewAs, IsSeen, Notifies, Meant, Counts}
use Rattle.lu_proof_lawful.proofs.Invariants.TargetGroups.{Rebuilt, KeptFor, Newest}

-- ---- slots

pub slot_same : (past : List Line) (who other : Who) (tag of_tag : ℕ) → who ≡ other → tag ≡ of_tag → slot_of who tag past
    ≡ slot_of other of_tag past
slot_same past who other tag of_tag w t = ap (λ (v : Who). slot_of v tag past) w ∙ ap (λ v. slot_of other v past) t

-- ---- what only grows

-- a reply so far that is of the boot that serves stays one to what counts
pub record Grows (osts : ℕ) (past new : List Line) : Type 0 where
  pub flew : (who : Who) (f : Flight) → Flew past who f → Flew new who f
  pub acted : (d : Deed) → Acted past d → Acted new d
  pub lives : (c : ℕ) → (life_of c past).life ≤ (life_of c new).life
  pub closed : closed_of past ≤ closed_of new
  pub committed : (server_of osts past).committed.0 ≤ (server_of osts new).committed.0
  pub counts : (boot : ℕ) → boot ≤ closed_of past → closed_of new ≤ boot → (d : Deed) → Counts osts past d → Counts osts new d
  pub stays : closed_of new ≤ closed_of past → (n : ℕ) → is_lost osts past n ≡ false → is_lost osts new n ≡ false

pub asking_more : (osts : ℕ) (past new : List Line) → Grows osts past new → (r : RequestOf) → IsAsking past r → IsAsking new r
asking_more osts past new g r a = let low = a.3 in let more = g.closed in (a.0, g.flew r.who a.0 a.1, a.2, omega arith)

replies_more : (osts : ℕ) (past new : List Line) → Grows osts past new → (c : ℕ) (k : ReplyTo) → RepliesTo osts past c k
    → RepliesTo osts new c k
replies_more osts past new g c k h =
    let closed = g.closed in
    let committed = g.committed in
    let boot = h.boot in
    let upto = h.committed in
    record {
      deed = h.deed;
      acted = g.acted h.deed h.acted;
      is = h.is;
      to = h.to;
      boot = omega arith;
      committed = omega arith;
      own = h.own;
      counts = λ le. g.counts k.boot h.boot le h.deed (h.counts (omega arith));
    }

-- what was seen stays so
pub seen_more : (osts : ℕ) (past new : List Line) → Grows osts past new → (n : ℕ) → IsSeen osts past n → IsSeen osts new n
seen_more osts past new g n (inl le) = let more = g.committed in inl (omega arith)
seen_more osts past new g n (inr e) = inr (e.0, g.acted e.0 e.1, e.2, e.3)

notifies_more : (osts : ℕ) (past new : List Line) → Grows osts past new → (c : ℕ) (m : GrantNotice) → Notifies osts past c m
    → Notifies osts new c m
notifies_more osts past new g c m h =
    let closed = g.closed in
    let committed = g.committed in
    let boot = h.boot in
    let upto = h.committed in
    record {
      to = h.to;
      boot = omega arith;
      committed = omega arith;
      saw = λ n i. seen_more osts past new g n (h.saw n i);
      fresh = λ le n i. g.stays (omega arith) n (h.fresh (omega arith) n i);
    }

flew_as_more : (osts : ℕ) (past new : List Line) → Grows osts past new → (who : Who) (x : ℕ) → FlewAs past who x → FlewAs new who x
flew_as_more osts past new g who x h = (h.0, g.flew who h.0 h.1, h.2)

pub meant_more : (osts : ℕ) (past new : List Line) → Grows osts past new → (to : Node) (m : Message) → Meant osts past to m
    → Meant osts new to m
meant_more osts past new g (Target t) (message.Request r) h = asking_more osts past new g r h
meant_more osts past new g (Client c) (message.Reply k) h = replies_more osts past new g c k h
meant_more osts past new g (Client c) (message.Block who boot cookie) h = tt
meant_more osts past new g (Target t) (message.Cancel who boot cookie) h = tt
meant_more osts past new g (Target t) (message.Join who boot) h = let rises = g.lives who.client in omega arith
meant_more osts past new g (Target t) (message.Replay r) h = tt
meant_more osts past new g (Target t) (message.Lock r) h = tt
meant_more osts past new g (Target t) (message.Word who boot replays locks seen) h = tt
meant_more osts past new g (Client c) (message.Ready who boot committed) h =
    let closed = g.closed in let low = h.0 in let more = g.committed in let upto = h.2 in (omega arith, h.1, omega arith)
meant_more osts past new g (Client c) (message.Evicted who boot) h = h
meant_more osts past new g (Client c) (message.Up boot) h = tt
meant_more osts past new g (Client c) (message.Grant m) h = notifies_more osts past new g c m h
meant_more osts past new g (Target t) (message.Where who boot cookie) h = tt
meant_more osts past new g (Client c) (message.Ask who boot cookie for_who xid) h =
    (h.0, (h.1.0, g.flew who h.1.0 h.1.1), flew_as_more osts past new g for_who xid.0 h.2)
meant_more osts past new g (Target t) (message.Size m) h = flew_as_more osts past new g m.for_who m.xid.0 h
meant_more osts past new g (Target t) _ h = absurd h
meant_more osts past new g (Client c) _ h = absurd h

-- a reply that a close made anew stays one, where no request of its number was sent since
pub rebuilt_more : (past new : List Line) (who : Who) (k : ReplyTo) → (Hears past who k.xid.0 → Hears new who k.xid.0)
    → ((from : Node) (t : ℕ) (r : RequestOf) → Was new from (Target t) (message.Request r) → r.who ≡ who → r.xid ≡ k.xid
    → Was past from (Target t) (message.Request r)) → closed_of past ≤ closed_of new
    → Rebuilt past who k → Rebuilt new who k
rebuilt_more past new who k hears was closed h = (
  hears h.0,
  λ from t r w q x. let lt = h.1 from t r (was from t r w q x) q x
      in omega arith,
)

pub kept_more : (osts : ℕ) (past new : List Line) (who : Who) (tag : ℕ) (k : ReplyTo) → ((d : Deed) → Acted past d → Acted new d)
    → ((d : Deed) → Acted past d → Counts osts past d → Counts osts new d) → (Rebuilt past who k → Rebuilt new who k)
    → KeptFor osts past who tag k → KeptFor osts new who tag k
kept_more osts past new who tag k acted counts rebuilt (inl g) = inl (g.0, acted g.0 g.1, g.2, g.3, counts g.0 g.1 g.4)
kept_more osts past new who tag k acted counts rebuilt (inr r) = inr (rebuilt r)

-- what was just done is the newest
pub did_newest : (past : List Line) (d : Deed) → Did past d → Newest past d
did_newest [] d i = absurd i
did_newest (l ∷ past) d i = by l.entry i
  where
    by : (e : Entry) → Did (line l.at e ∷ past) d → Newest (line l.at e ∷ past) d
    by (Act e) i = i
    by (Made e) i = i
    by (Grant lock asked) i = i
    by (Wait lock asked) i = i
    by (Answers e) i = i
    by _ i = absurd i

pub did_acted : (past : List Line) (d : Deed) → Did past d → Acted past d
did_acted [] d i = absurd i
did_acted (l ∷ past) d i = by l.entry i
  where
    by : (e : Entry) → Did (line l.at e ∷ past) d → Acted (line l.at e ∷ past) d
    by (Act e) i = inl i
    by (Made e) i = inl i
    by (Grant lock asked) i = inl i
    by (Wait lock asked) i = inl i
    by (Answers e) i = inl i
    by _ i = absurd i

-- what was heard as that reply was heard
pub heard_hears : (past : List Line) (who : Who) (f : Flight) (r : ReplyTo) → HeardAs past who f r → Hears past who f.xid
heard_hears [] who f r i = absurd i
heard_hears (l ∷ past) who f r i = by l.entry i (heard_hears past who f r)
  where
    by : (e : Entry) → HeardAs (line l.at e ∷ past) who f r → (HeardAs past who f r → Hears past who f.xid)
        → Hears (line l.at e ∷ past) who f.xid
    by (Heard t g k) i ih = ⊎_elim (λ (o : (is_own who past l.at.node ≡ true) × (g ≡ f) × (k ≡ r)). inl
        (o.0, ap (λ (v : Flight). v.xid) o.1)) (λ (o : HeardAs past who f r). inr (ih o)) i
    by _ i ih = ih i
