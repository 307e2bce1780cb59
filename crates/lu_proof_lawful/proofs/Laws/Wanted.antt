-- The locks that an act grants are those that its request asks for: over the contents at the act, one on each inode of its path, with
-- the bits of its row. And an object storage target grants the one that the request of this turn asks for, grown beside the others.
use Rattle.std.proofs.Common.{◌≤◌, ◌≡◌, ℕ, zero, suc, ◌+◌, ◌*◌, ◌<◌, Bool, true, false, List, [], ◌∷◌, ◌++◌, ◌⊎◌, inl, inr, ⊎_elim, Option}
use Rattle.std.proofs.Common.{Some, None, refl, sym, subst, ap, ◌∙◌, arith}
use Rattle.std.specs.Prelude.{nat_eq, ◌&&◌, if◌then◌else◌, map, find}
use Rattle.std.proofs.lemmas.Bool.Decides.{nat_tests}
use Rattle.lu_base.specs.declared.ids.At.{At}
use Rattle.lu_base.specs.declared.ids.Cookie.{Cookie}
use Rattle.lu_base.specs.declared.ids.Fid.{Fid}
use Rattle.lu_base.specs.declared.ids.Node.{Node}
use Rattle.lu_base.specs.declared.ids.Node.TheVariants.{Client, Target}
use Rattle.lu_base.specs.declared.ids.Stamp.{Stamp}
use Rattle.lu_base.specs.declared.ids.Who.{Who}
use Rattle.lu_base.specs.declared.ids.Xid.{Xid}
use Rattle.lu_base.specs.declared.locks.Ask.{Ask}
use Rattle.lu_base.specs.declared.locks.Extent.{Extent}
use Rattle.lu_base.specs.declared.locks.Lock.{Lock}
use Rattle.lu_base.specs.declared.locks.Mode.{Mode}
use Rattle.lu_base.specs.declared.locks.Mode.TheVariants.{PR}
use Rattle.lu_base.specs.declared.locks.Policy.{Policy}
use Rattle.lu_base.specs.declared.locks.Policy.TheVariants.{Bits, Range}
use Rattle.lu_base.specs.declared.locks.Resource.{Resource}
use Rattle.lu_lock.specs.Growth.{granted_ask, grown_policy, opposing}
use Rattle.lu_lock.specs.Overlap.{IsOrdered}
use Rattle.lu_msg.specs.declared.messages.Message.TheVariants as message
use Rattle.lu_msg.specs.declared.messages.Request.{Request as RequestOf}
use Rattle.lu_msg.specs.declared.operations.Op.{Op}
use Rattle.lu_msg.specs.declared.operations.Op.TheVariants as op
use Rattle.lu_part.specs.declared.parts.Part.TheVariants as part
use Rattle.lu_part.specs.declared.parts.Want.{Want}
use Rattle.lu_spec_machine.specs.Tree.{Tree, child, same_life}
use Rattle.lu_spec_machine.specs.Footprint.{Operation, empty, after, forget, grants}
use Rattle.lu_spec_machine.specs.Removal.{contents}
use Rattle.lu_spec_machine.proofs.Made.{Named, named_empty, named_wide}
use Rattle.lu_spec_entries.specs.Carried.{Deed}
use Rattle.lu_spec_entries.specs.Words.{Entry, Act, Txn as Made, Grant, Wait, Answers as Responds, Enters, Line, line}
use Rattle.lu_spec_entries.specs.Concerns.{only}
use Rattle.lu_spec_entries.specs.Printed.{printed}
use Rattle.lu_spec_target.specs.Names.{locks_from}
use Rattle.lu_spec_target.specs.Replies.{asks_of, locks_on}
use Rattle.lu_proof_lawful.specs.Covered.Deeds.{lock_asked, in_the_way}
use Rattle.lu_proof_lawful.specs.Covered.Makes.{Path}
use Rattle.lu_proof_lawful.specs.Covered.TargetStates.{Server, none, tree_at, server_of}
use Rattle.lu_proof_lawful.specs.Covered.Heads.{Head}
use Rattle.lu_spec_laws.specs.Words.Pasts.{or_else, same_turn}
use Rattle.lu_spec_laws.specs.Words.Requests.{asked, same_resource}
use Rattle.lu_spec_laws.specs.Words.Sends.{Sending, taken}
use Rattle.lu_spec_laws.specs.Words.Asked.{Acting, acting, wanted, wanted_lock, wanted_by, enqueued_by, enqueued, requested, is_for}
use Rattle.lu_proof_lawful.proofs.Preconditions.Guards.{In, Did, EntersFor, EntryOk}
use Rattle.lu_proof_lawful.proofs.Preconditions.StoryGuards.{RangeOk}
use Rattle.lu_proof_lawful.proofs.Preconditions.ClientStoryGuards.{AsksInOrder}
use Rattle.lu_proof_lawful.proofs.Preconditions.Acts.{acts_names, acts_sized, sized_bare, wait_bare, responded, made}
use Rattle.lu_proof_lawful.proofs.Preconditions.Grown.{Allowed, Grown}
use Rattle.lu_proof_lawful.proofs.Preconditions.Lists.{self, life_self}
use Rattle.lu_proof_lawful.proofs.Preconditions.Parts.{server_is, boot_is, count_is, tree_is as tree_there}
use Rattle.lu_proof_lawful.proofs.Invariants.Groups.{turn, items_of, HoldsAt}
use Rattle.lu_proof_lawful.proofs.Invariants.TargetGroups.{Acted, FlewFor}
use Rattle.lu_proof_lawful.proofs.Invariants.DoneGrows.{did_acted}
use Rattle.lu_proof_lawful.proofs.Invariants.Asked.{acted_on_names}
use Rattle.lu_proof_lawful.proofs.Invariants.LockLists.{IsBitsKind, from_bits}
use Rattle.lu_proof_lawful.proofs.Invariants.Inodes.{Kinds, kinds_empty, kinds_after, EachOnce, grants_once}
use Rattle.lu_proof_lawful.proofs.Invariants.All.{holds}
use Rattle.lu_proof_lawful.proofs.Invariants.Finds.{numbers_at}
use Rattle.lu_proof_lawful.proofs.Invariants.Grafts.{named_fewer}
use Rattle.lu_proof_lawful.proofs.Invariants.OnNames.{IsOnNames}
use Rattle.lu_proof_lawful.proofs.Invariants.OverItems.{over_now}
use Rattle.lu_proof_lawful.proofs.Invariants.Named.{named_after}
use Rattle.lu_proof_lawful.proofs.Laws.Turns.{same_turn_self}
use Rattle.lu_proof_lawful.proofs.Laws.Facts.{AskedAt, AllAsked}
use Rattle.lu_proof_lawful.proofs.Laws.Contents.{contents_alike}
use Rattle.lu_proof_lawful.proofs.Laws.Once.{all_asked, asked_is, acted_sent}
use Rattle.lu_proof_lawful.proofs.Laws.Given.{ranged, gave_only}
use Rattle.lu_proof_lawful.proofs.Laws.Notices.{on_way, takes_it}

-- ---- the metadata target's tree

-- whatever paths were made
abbrev Any : Path → Type 0
Any path = Unit {0}

-- its numbers, and that no inode is a directory and a file
abbrev pub IsTree : ℕ → Tree → Type 0
IsTree high t = Named Any high t × Kinds t

tree_act : (osts : ℕ) (t : Tree) (a : Operation) (n : ℕ) → IsOnNames a.op → n < a.number.0 → IsTree n t → IsTree a.number.0 (after osts t a)
tree_act osts t a n on_names lt h = (
  named_wide _ Any a.number.0 a.number.0 (after osts t a) (λ path m. tt) (omega arith)
      (named_after osts t a.number a.who Any n h.0 lt a.op on_names),
  kinds_after osts t a n h.0.low lt h.1,
)

-- one that holds the same names
tree_same : (n : ℕ) (t u : Tree) → ((d : Fid) (m : List ℕ) → child t d m ≡ child u d m) → IsTree n t → IsTree n u
tree_same n t u same h = (
  named_fewer Any n t u (λ d m c is. same d m ∙ is) h.0,
  λ d e m k x a b. h.1 d e m k x (same d m ∙ a) (same e k ∙ b),
)

tree_wide : (low high : ℕ) (t : Tree) → low ≤ high → IsTree low t → IsTree high t
tree_wide low high t le h = (named_wide Any Any low high t (λ path m. m) le h.0, h.1)

-- the transactions that stand are on names
pub tree_is : (head : Head) (past : List Line) → Grown head past → IsTree (numbers_at past) (tree_at head.osts 0 past)
tree_is head past g =
    subst (λ (t : Tree). IsTree (numbers_at past) t) (sym (tree_there head.osts 0 past))
    (tree_wide bound (numbers_at past) v.tree (let b = boot_is head.osts 0 past in let c = count_is head.osts 0 past in omega (arith, b, c))
    (tree_same bound (contents head.osts empty (items_of head.osts story)) v.tree (λ d m. at.history.tree (part.Name d m)) left))
  where
    story : List Line
    story = only 0 past

    at : HoldsAt head story
    at = (holds head past g).at 0

    v : Server
    v = server_of head.osts story

    bound : ℕ
    bound = v.boot * 4294967296 + v.count

    left : IsTree bound (contents head.osts empty (items_of head.osts story))
    left =
        over_now head story (λ n t. IsTree n t) (λ n le. (named_empty Any n le, kinds_empty))
        (λ is a n ok lt h. tree_act head.osts (contents head.osts empty is) a n
        (subst (λ (x : Operation). IsOnNames x.op) ok.operates (acted_on_names head past ok.deed g ok.acted)) lt h)
        (λ n t who h. tree_same n t (forget t who) (λ d m. refl) h)
        (λ n m t le h. tree_wide n m t le h) at

-- ---- the locks of an act

abbrev pub asks : Who → Op → Operation
asks who o = record { number = record { 0 = 0 }; who = who; op = o }

-- what was just done is a transaction, or is done at an object storage target, and gives no lock on names; or it is an act of this turn on
-- what was asked for
pub record IsAct (head : Head) (past : List Line) (d : Deed) : Type 0 where
  pub cookie : ℕ
  pub acting : acting d.reply.at (printed past) ≡ Some (record { who = d.reply.who; xid = d.reply.xid.0 })
  pub asked : AskedAt 0 past d
  pub locks : d.reply.locks ≡ locks_from cookie d.reply.who (grants head.osts (tree_at head.osts 0 past) (asks d.reply.who d.op))

act_here : (head : Head) (past : List Line) (stamp : Stamp) (d : Deed) → Allowed head past (turn stamp (Target 0)) (Act d) → Grown head past
    → AskedAt 0 past d → IsAct head (line (turn stamp (Target 0)) (Act d) ∷ past) d
act_here head past stamp d a g asked =
    let ok = acts_names head.osts (only 0 past) (turn stamp (Target 0)) d (a.of 0 refl) in
    let at : d.reply.at ≡ turn stamp (Target 0) = ap (λ (v : Deed). v.reply.at) ok.is in
    let who : d.reply.who ≡ ok.request.who = ap (λ (v : Deed). v.reply.who) ok.is in
    let op : d.op ≡ ok.request.op = ap (λ (v : Deed). v.op) ok.is in
    record {
      cookie = (server_of head.osts (only 0 past)).cookie;
      acting = ap (λ (b : Bool). or_else (if b then Some (record { who = d.reply.who; xid = d.reply.xid.0 }) else None)
          (acting d.reply.at (printed past)))
          (subst (λ (v : At). same_turn (turn stamp (Target 0)) v ≡ true) (sym at) (same_turn_self (turn stamp (Target 0))));
      asked = asked;
      locks = ap (λ (v : Deed). v.reply.locks) ok.is
          ∙ ap (λ (v : Server). locks_from (server_of head.osts (only 0 past)).cookie ok.request.who
          (grants head.osts v.tree (asks ok.request.who ok.request.op))) (sym (server_is head.osts 0 past))
          ∙ ap (λ (v : Who). locks_from (server_of head.osts (only 0 past)).cookie v
          (grants head.osts (tree_at head.osts 0 past) (asks v ok.request.op))) (sym who)
          ∙ ap (λ (v : Op). locks_from (server_of head.osts (only 0 past)).cookie d.reply.who
          (grants head.osts (tree_at head.osts 0 past) (asks d.reply.who v))) (sym op);
    }

did_is : (head : Head) (past : List Line) (d : Deed) → Grown head past → AllAsked past → Did past d → (d.reply.locks ≡ [])
    ⊎ IsAct head past d
did_is head [] d g asked i = absurd i
did_is head (l ∷ past) d g asked i = by l.at.node l.entry g.0 asked i (did_is head past d g.1)
  where
    by : (node : Node) (e : Entry) → Allowed head past (turn l.at.stamp node) e → AllAsked (line (turn l.at.stamp node) e ∷ past)
        → Did (line (turn l.at.stamp node) e ∷ past) d
        → (AllAsked past → Did past d → (d.reply.locks ≡ []) ⊎ IsAct head past d) → (d.reply.locks ≡ [])
        ⊎ IsAct head (line (turn l.at.stamp node) e ∷ past) d
    by (Client c) (Act f) a asked i h = absurd a.ok
    by (Target zero) (Act f) a asked i h = inr (subst (λ (v : Deed). IsAct head (line (turn l.at.stamp (Target 0)) (Act f) ∷ past) v) i
        (act_here head past l.at.stamp f a g.1 (asked.0 0 refl)))
    by (Target (suc t)) (Act f) a asked i h =
        inl (ap (λ (v : Deed). v.reply.locks) (sym i) ∙ sized_bare head.osts (only (suc t) past) (turn l.at.stamp (Target (suc t))) f
        (acts_sized head.osts (only (suc t) past) (turn l.at.stamp (Target (suc t))) (suc t) f (omega arith) (a.of (suc t) (self (suc t)))))
    by (Client c) (Made f) a asked i h = absurd a.ok
    by (Target t) (Made f) a asked i h = inl (ap (λ (v : Deed). v.reply.locks) (sym i)
        ∙ (made head.osts (only t past) (turn l.at.stamp (Target t)) t f (a.of t (self t))).bare)
    by (Client c) (Wait lock f) a asked i h = absurd a.ok
    by (Target t) (Wait lock f) a asked i h = inl (ap (λ (v : Deed). v.reply.locks) (sym i)
        ∙ wait_bare head.osts (only t past) (turn l.at.stamp (Target t)) lock f (a.of t (self t)).1)
    by (Client c) (Responds f) a asked i h = absurd a.ok
    by (Target t) (Responds f) a asked i h = inl (ap (λ (v : Deed). v.reply.locks) (sym i)
        ∙ ap (λ (v : Deed). v.reply.locks) (responded head.osts (only t past) (turn l.at.stamp (Target t)) t f (a.of t (self t)).1).is)
    by (Client c) (Grant lock asks) a asked i h = absurd a.ok
    by (Target t) (Grant lock None) a asked i h = absurd (cc)
    by (Target t) (Grant lock (Some f)) a asked i h = shown a.ok
      where
        same : f ≡ d
        same = cc

        shown : EntryOk past (turn l.at.stamp (Target t)) (Target t) (Grant lock (Some f)) → (d.reply.locks ≡ [])
            ⊎ IsAct head (line (turn l.at.stamp (Target t)) (Grant lock (Some f)) ∷ past) d
        shown (inl ok) = ⊎_elim (λ (q : d.reply.locks ≡ []). inl q)
            (λ (q : IsAct head past d). inr (record { cookie = q.cookie; acting = q.acting; asked = q.asked; locks = q.locks }))
            (h asked (subst (λ (v : Deed). Did past v) same ok.1))
        shown (inr ok) = inl (ap (λ (v : Deed). v.reply.locks) (sym same)
            ∙ ap (λ (v : Deed). v.reply.locks) (ranged head.osts (only t past) (turn l.at.stamp (Target t)) t lock f ok.0
            (a.of t (self t))).is)
    by node e a asked i h = absurd i

-- ---- the lock as it was asked for

module _ (who : Who) where
  -- on which inode it is, and that it is on bits
  lock_of : (k : ℕ) (ws : List Want) (l : Lock) → In l (locks_from k who ws) → (w : Want) × In w ws
      × (l ≡ record {
        cookie = l.cookie;
        resource = record { fid = w.fid; stripe = 0 };
        ask =
            record { who = who; mode = PR; policy = Bits w.bits };
      })
  lock_of k [] l i = absurd i
  lock_of k (w ∷ ws) l (inl e) = (
    w,
    inl refl,
    subst (λ (v : Lock). v ≡ record {
      cookie = v.cookie;
      resource = record { fid = w.fid; stripe = 0 };
      ask =
          record { who = who; mode = PR; policy = Bits w.bits };
    }) e refl,
  )
  lock_of k (w ∷ ws) l (inr i) = let r = lock_of (k + 1) ws l i in (r.0, inr r.1, r.2)

  -- it is the first one asked for on that inode
  found : (k : ℕ) (ws : List Want) (l : Lock) → EachOnce ws → In l (locks_from k who ws)
      → find (is_for l) (map (wanted_lock l.cookie who) ws) ≡ Some l
  found k [] l once i = absurd i
  found k (w ∷ ws) l once (inl e) = subst (λ (v : Lock). find (is_for v) (map (wanted_lock v.cookie who) (w ∷ ws)) ≡ Some v) e
      (rw (self w.fid.0, life_self who) refl)
  found k (w ∷ ws) l once (inr i) =
      let r = lock_of (k + 1) ws l i in
      let fid : l.resource.fid.0 ≡ r.0.fid.0 = ap (λ (v : Lock). v.resource.fid.0) r.2 in
      let other : nat_eq w.fid.0 l.resource.fid.0 ≡ false = apart w.fid.0 l.resource.fid.0 (λ q. once.0 r.0 r.1 (sym fid ∙ sym q)) in
      rw other (found (k + 1) ws l once.1 i)
    where
      apart : (a b : ℕ) → (a ≡ b → ⊥) → nat_eq a b ≡ false
      apart a b n = grind (arith, nat_tests, n)

-- a lock on bits doesn't grow
grown_same : (a : Ask) (bits : ℕ) (granted waiting : List Ask) → a.policy ≡ Bits bits → a ≡ granted_ask a granted waiting
grown_same a bits granted waiting e = ap (λ (p : Policy). record { who = a.who; mode = a.mode; policy = p }) (by a.policy e)
  where
    by : (p : Policy) → p ≡ Bits bits → p ≡ grown_policy p (opposing a.mode granted) (opposing a.mode waiting)
    by (Bits b) e = refl
    by (Range x) e = absurd (cc)

-- ---- what was just done asked for each lock that it grants

pub asked_as : (head : Head) (past : List Line) (at : At) (d : Deed) (l : Lock) → Grown head past → Did past d → d.reply.at ≡ at
    → In l d.reply.locks
    → (find (is_for l) (requested head.osts 0 (printed past) at l.cookie) ≡ Some l)
    × ((granted waiting : List Ask) → l.ask ≡ granted_ask l.ask granted waiting) × IsBitsKind l.ask.mode l.ask.policy
asked_as head past at d l g did turn i = ⊎_elim
    (λ (q : d.reply.locks ≡ []). absurd (subst (λ (ls : List Lock). In l ls) q i))
    (λ (q : IsAct head past d).
    let ws = grants head.osts (tree_at head.osts 0 past) (asks d.reply.who d.op) in
    let j = subst (λ (ls : List Lock). In l ls) q.locks i in
    let tree = tree_is head past g in
    let once : EachOnce ws = grants_once head.osts (tree_at head.osts 0 past) none d.reply.who tree.0.one tree.1 d.op
    (acted_on_names head past d g (gave_only head past d l g (did_acted past d did) i)) in
    let r = lock_of d.reply.who q.cookie ws l j in (
      ap (λ (o : Option Acting). find (is_for l) (wanted_by head.osts (printed past) l.cookie o))
          (subst (λ (v : At). acting v (printed past) ≡ Some (record { who = d.reply.who; xid = d.reply.xid.0 })) turn q.acting)
          ∙ ap (λ (o : Option Op). find (is_for l) (map (wanted_lock l.cookie d.reply.who) (wanted head.osts (printed past) d.reply.who o)))
          q.asked
          ∙ ap (λ (ws : List Want). find (is_for l) (map (wanted_lock l.cookie d.reply.who) ws))
          (contents_alike head past g (all_asked head past g) (asks d.reply.who d.op)).grants
          ∙ found d.reply.who q.cookie ws l once j,
      λ granted waiting. grown_same l.ask r.0.bits granted waiting (ap (λ (v : Lock). v.ask.policy) r.2),
      from_bits q.cookie d.reply.who ws l j,
    ))
    (did_is head past d g (all_asked head past g) did)

-- ---- at an object storage target

-- the request that it grants a lock to was taken in this turn
taken_for : (head : Head) (past : List Line) (at : At) (d : Deed) → Grown head past → EntersFor past at d
    → (from : Node) × (r : RequestOf) × (r.who ≡ d.reply.who) × (r.xid ≡ d.reply.xid)
    × ((rest : List Sending) × (taken (printed past) at ≡ on_way from at.node (message.Request r) ∷ rest))
taken_for head [] at d g i = absurd i
taken_for head (l ∷ past) at d g i = by l.at.node l.entry g.0 i
  where
    by : (node : Node) (e : Entry) → Allowed head past (turn l.at.stamp node) e → EntersFor (line (turn l.at.stamp node) e ∷ past) at d
        → (from : Node) × (r : RequestOf) × (r.who ≡ d.reply.who) × (r.xid ≡ d.reply.xid)
        × ((rest : List Sending) × (taken (printed (line (turn l.at.stamp node) e ∷ past)) at ≡ on_way from at.node (message.Request r)
        ∷ rest))
    by (Client c) (Enters r) a i = absurd a.ok
    by (Target t) (Enters r) a i =
        let took = takes_it head past (turn l.at.stamp (Target t)) a.ok.0 (message.Request r) g.1 a.ok.1 in (
          a.ok.0,
          r,
          i.1,
          i.2,
          (
            took.0,
            subst (λ (v : At). taken (printed past) v ≡ on_way a.ok.0 v.node (message.Request r) ∷ took.0) i.0
                took.1,
          ),
        )
    by _ e a i = absurd i

-- it asks for this lock, under that cookie
abbrev pub lock_as : Cookie → Who → Resource → Mode → Extent → Lock
lock_as cookie who resource mode extent = record {
  cookie = cookie;
  resource = resource;
  ask =
      record { who = who; mode = mode; policy = Range extent };
}

pub enqueued_now : (head : Head) (past : List Line) (at : At) (t : ℕ) (d : Deed) (cookie : Cookie) (resource : Resource) (mode : Mode)
    (extent : Extent) → Grown head past → AskedAt t past d → EntersFor past at d → d.op ≡ op.Enqueue resource mode extent
    → (rest : List Lock) × (enqueued t (printed past) cookie (taken (printed past) at) ≡ lock_as cookie d.reply.who resource mode extent
    ∷ rest)
enqueued_now head past at t d cookie resource mode extent g told enters of_op =
    let took = taken_for head past at d g enters in
    let rest = enqueued t (printed past) cookie took.4.0 in (
      rest,
      ap (λ (ss : List Sending). enqueued t (printed past) cookie ss) took.4.1
          ∙ ap (λ (w : Who). enqueued_by cookie w (asked (printed past) t w took.1.xid.0) ++ rest) took.2
          ∙ ap (λ (x : Xid). enqueued_by cookie d.reply.who (asked (printed past) t d.reply.who x.0) ++ rest) took.3
          ∙ ap (λ (o : Option Op). enqueued_by cookie d.reply.who o ++ rest) (told ∙ ap (λ (o : Op). Some o) of_op),
    )

-- the lock as it was asked for, which grows beside those that are granted there and those that wait
pub record AskedFor (osts : ℕ) (past : List Line) (at : At) (t : ℕ) (lock : Lock) : Type 0 where
  pub asked : Lock
  pub found : find (is_for lock) (requested osts t (printed past) at lock.cookie) ≡ Some asked
  pub resource : lock.resource ≡ asked.resource
  pub grown : lock.ask ≡ granted_ask asked.ask (asks_of (locks_on lock.resource (server_of osts (only t past)).granted))
      (asks_of (locks_on lock.resource (server_of osts (only t past)).queued))
  pub ordered : IsOrdered asked.ask.policy
  pub free : in_the_way (server_of osts (only t past)) lock.resource (locks_on lock.resource (server_of osts (only t past)).queued)
      asked.ask ≡ false

pub asked_object : (head : Head) (past : List Line) (stamp : Stamp) (t : ℕ) (lock : Lock) (d : Deed)
    → Allowed head past (turn stamp (Target t)) (Grant lock (Some d)) → Grown head past → 0 < t → EntersFor past (turn stamp (Target t)) d
    → AskedFor head.osts past (turn stamp (Target t)) t lock
asked_object head past stamp zero lock d a g high enters = absurd (omega (arith, high))
asked_object head past stamp (suc u) lock d a g high enters =
    record {
      asked = want;
      found = subst (λ (ls : List Lock). find (is_for lock) ls ≡ Some want) (sym taken_up.1) (rw fits refl);
      resource = place;
      grown =
          ap (λ (l : Lock). l.ask) ok.of_lock
          ∙ ap (λ (r : Resource). granted_ask one.ask (asks_of (locks_on ok.resource v.granted)) (asks_of (locks_on r v.queued)))
          (sym place)
          ∙ ap (λ (r : Resource). granted_ask one.ask (asks_of (locks_on r v.granted)) (asks_of (locks_on lock.resource v.queued)))
          (sym place)
          ∙ ap (λ (l : Lock). granted_ask l.ask (asks_of (locks_on lock.resource v.granted)) (asks_of (locks_on lock.resource v.queued)))
          (sym same);
      ordered = (subst (λ (o : Op). AsksInOrder o) (flew.3 ∙ op_is)
          (((holds head new (a, g)).at t).ranges.flew d.reply.who flew.0 flew.1)).0;
      free = subst (λ (r : Resource). in_the_way v r (locks_on r v.queued) want.ask ≡ false) (sym place)
          (subst (λ (l : Lock). in_the_way v ok.resource (locks_on ok.resource v.queued) l.ask ≡ false) (sym same) ok.free);
    }
  where
    t : ℕ
    t = suc u

    at : At
    at = turn stamp (Target t)

    v : Server
    v = server_of head.osts (only t past)

    new : List Line
    new = line at (Grant lock (Some d)) ∷ past

    ok : RangeOk head.osts (only t past) at lock d
    ok = ranged head.osts (only t past) at t lock d high (a.of t (self t))

    whose : d.reply.who ≡ ok.request.who
    whose = ap (λ (e : Deed). e.reply.who) ok.is

    place : lock.resource ≡ ok.resource
    place = ap (λ (l : Lock). l.resource) ok.of_lock

    -- as the guards have it, and as it is printed
    one : Lock
    one = lock_asked v ok.request ok.resource ok.mode ok.extent

    want : Lock
    want = lock_as lock.cookie d.reply.who ok.resource ok.mode ok.extent

    same : want ≡ one
    same =
        ap (λ (c : Cookie). lock_as c d.reply.who ok.resource ok.mode ok.extent) (ap (λ (l : Lock). l.cookie) ok.of_lock)
        ∙ ap (λ (w : Who). lock_as one.cookie w ok.resource ok.mode ok.extent) whose

    op_is : d.op ≡ op.Enqueue ok.resource ok.mode ok.extent
    op_is = ap (λ (e : Deed). e.op) ok.is ∙ ok.of_op

    acted : Acted (only t new) d
    acted = subst (λ (b : Bool). Acted (if b then line at (Grant lock (Some d)) ∷ only t past else only t past) d) (sym (self t)) (inl refl)

    flew : FlewFor (only t new) d
    flew = ((holds head new (a, g)).at t).done.flew d acted

    told : AskedAt t past d
    told = asked_is head new t d (a, g) (acted_sent head new t d (a, g) acted)

    taken_up : (rest : List Lock) × (enqueued t (printed past) lock.cookie (taken (printed past) at) ≡ want ∷ rest)
    taken_up = enqueued_now head past at t d lock.cookie ok.resource ok.mode ok.extent g told enters op_is

    fits : is_for lock want ≡ true
    fits =
        subst (λ (l : Lock). is_for l want ≡ true) (sym ok.of_lock)
        (subst (λ (w : Who). (same_resource (Some ok.resource) (Some ok.resource) && same_life w ok.request.who) ≡ true) (sym whose)
        (rw (self ok.resource.fid.0, self ok.resource.stripe, life_self ok.request.who) refl))
