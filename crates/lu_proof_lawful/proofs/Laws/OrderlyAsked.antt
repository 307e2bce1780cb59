-- What every covered run keeps of requests: what acts was asked for since its target serves, and isn't answered yet.
use Rattle.std.proofs.Common.{◌≡◌, ℕ, Bool, true, false, List, [], ◌∷◌, ◌++◌, Option, Some, None, inl, inr, ⊎_elim, refl, sym, subst, ap}
use Rattle.std.proofs.Common.{◌∙◌, arith}
use Rattle.std.specs.Prelude.{nat_eq, not, ◌||◌, if◌then◌else◌, filter}
use Rattle.std.specs.Option.{option_map}
use Rattle.std.proofs.lemmas.Bool.{and_parts, cond_both, cond-true, eqb-true}
use Rattle.lu_base.specs.declared.ids.At.{At}
use Rattle.lu_base.specs.declared.ids.Node.{Node}
use Rattle.lu_base.specs.declared.ids.Node.TheVariants.{Client, Target}
use Rattle.lu_base.specs.declared.ids.Stamp.{Stamp}
use Rattle.lu_base.specs.declared.ids.Who.{Who}
use Rattle.lu_base.specs.declared.ids.Xid.{Xid}
use Rattle.lu_msg.specs.declared.messages.Message.{Message}
use Rattle.lu_msg.specs.declared.messages.Message.TheVariants as message
use Rattle.lu_msg.specs.declared.messages.Reply.{Reply as ReplyTo}
use Rattle.lu_msg.specs.declared.messages.Request.{Request as RequestOf}
use Rattle.lu_trace.specs.declared.entries.Line.{Line as PrintedLine}
use Rattle.lu_spec_machine.specs.Tree.{same_life}
use Rattle.lu_spec_entries.specs.Carried.{Deed, Disk, Outcome}
use Rattle.lu_spec_entries.specs.Words.{Entry, Send, Take, Act, Txn as Made, Grant, Wait, Answers, Crash, Boot, Close, Evict, Enters, Line}
use Rattle.lu_spec_entries.specs.Words.{line}
use Rattle.lu_spec_entries.specs.Concerns.{concerns, only}
use Rattle.lu_spec_entries.specs.Printed.{printed}
use Rattle.lu_spec_target.specs.Lives.{is_life}
use Rattle.lu_proof_lawful.specs.Covered.TargetParts.{is_request_of, without_request}
use Rattle.lu_proof_lawful.specs.Covered.TargetStates.{waiting_at, server_of}
use Rattle.lu_proof_lawful.specs.Covered.Heads.{Head}
use Rattle.lu_spec_laws.specs.Holds.{Holds}
use Rattle.lu_spec_laws.specs.Words.Pasts.{is_target}
use Rattle.lu_spec_laws.specs.Words.Sends.{Sending, message_of}
use Rattle.lu_spec_laws.specs.Words.Boots.{boot}
use Rattle.lu_spec_laws.specs.Order.Handed.{comes_to}
use Rattle.lu_spec_laws.specs.Order.Requests.{is_request, with_request, without_answered, without_life, unanswered, has_request, Requests}
use Rattle.lu_spec_laws.proofs.Tests.{settled}
use Rattle.lu_proof_lawful.proofs.Preconditions.Guards.{In, TookNow}
use Rattle.lu_proof_lawful.proofs.Preconditions.StoryGuards.{IsServing, ReplyOk, BootOk}
use Rattle.lu_proof_lawful.proofs.Preconditions.Grown.{Allowed, Grown}
use Rattle.lu_proof_lawful.proofs.Preconditions.Lists.{self, in_append, in_filter, in_filtered, life_is, life_self}
use Rattle.lu_proof_lawful.proofs.Preconditions.Parts.{waiting_is}
use Rattle.lu_proof_lawful.proofs.Invariants.Groups.{turn}
use Rattle.lu_proof_lawful.proofs.Invariants.TargetGroups.{Phase}
use Rattle.lu_proof_lawful.proofs.Invariants.All.{holds}
use Rattle.lu_proof_lawful.proofs.Laws.Deeds.{act_for, txn_for}
use Rattle.lu_proof_lawful.proofs.Laws.Lines.{Keeps, holds_before}
use Rattle.lu_proof_lawful.proofs.Laws.KeptReplies.{replied_acted}
use Rattle.lu_proof_lawful.proofs.Laws.Printed.{flip, sending_is}
use Rattle.lu_proof_lawful.proofs.Laws.Taking.{boot_of}
use Rattle.lu_proof_lawful.proofs.Laws.OrderlyQuiet.{Says}
use Rattle.lu_proof_lawful.proofs.Preconditions.ClientLocks.{any_passes}
use Rattle.lu_proof_lawful.proofs.Preconditions.Turns.{IsNoClose}

-- a target that has just booted doesn't serve
boot_unserved : (head : Head) (past : List Line) (stamp : Stamp) (t b : ℕ) (disk : Disk) → BootOk head past b disk → Phase head.osts past
    → IsServing head.osts (line (turn stamp (Target t)) (Boot b disk) ∷ past) → ⊥
boot_unserved head past stamp t b disk ok p s = let closed = s.closed in let under = p.under in let next = ok.next
    in omega (arith, closed, under, next)

its_own : (r : RequestOf) → is_request r.who r.xid.0 r ≡ true
its_own r = rw (life_self r.who, self r.xid.0) refl

-- with a message that is taken
with_more : (r : RequestOf) (o : Option Message) (b : ℕ) (rs : List RequestOf) → In r rs → In r (with_request o b rs)
with_more r (Some (message.Request q)) b rs h = cond_both (nat_eq q.boot b) (q ∷ rs) rs (λ (v : List RequestOf). In r v) (λ t. inr h)
    (λ t. h)
with_more r _ b rs h = h

with_it : (r : RequestOf) (b : ℕ) (rs : List RequestOf) → r.boot ≡ b → In r (with_request (Some (message.Request r)) b rs)
with_it r b rs e = subst (λ (v : List RequestOf). In r v) (sym (cond-true (nat_eq r.boot b) (r ∷ rs) rs
    (subst (λ (v : ℕ). nat_eq r.boot v ≡ true) e (self r.boot)))) (inl refl)

-- ---- at one target

module _ (u : ℕ) where
  -- a request is taken and not answered
  abbrev Unanswered : List Line → RequestOf → Type 0
  Unanswered past r = In r (unanswered u (printed past))

  -- what waits is
  abbrev pub AllUnanswered : List Line → Type 0
  AllUnanswered past = (r : RequestOf) → In r (waiting_at u past) → Unanswered past r

  -- ---- the target serves before a line after which it does

  served_before : (head : Head) (past : List Line) (stamp : Stamp) (node : Node) (e : Entry) → IsNoClose e
      → Allowed head past (turn stamp node) e → Grown head past
      → IsServing head.osts (only u (line (turn stamp node) e ∷ past)) → IsServing head.osts (only u past)
  served_before head past stamp node e n a g s =
      cond_both (concerns u node e) (line (turn stamp node) e ∷ only u past) (only u past)
      (λ (p : List Line). IsServing head.osts p → IsServing head.osts (only u past))
      (λ q v. by node e n a q v) (λ q v. v) s
    where
      by : (node : Node) (e : Entry) → IsNoClose e → Allowed head past (turn stamp node) e → concerns u node e ≡ true
          → IsServing head.osts (line (turn stamp node) e ∷ only u past) → IsServing head.osts (only u past)
      by (Target t) Crash n a q v = let up = v.up in absurd (cc)
      by (Target t) (Boot b disk) n a q v = absurd (boot_unserved head (only u past) stamp t b disk (a.of u q)
          ((holds head past g).at u).phase v)
      by node (Close o) n a q v = absurd n
      by (Client c) Crash n a q v = absurd a.ok
      by (Client c) (Boot b disk) n a q v = absurd a.ok
      by _ _ n a q v = v

  -- ---- a message is taken

  -- the request that the newest line took
  took_it : (head : Head) (past : List Line) (at : At) (from : Node) (r : RequestOf) → Grown head past → at.node ≡ Target u → r.boot
      ≡ boot u (printed past) → TookNow past at from (message.Request r) → Unanswered past r
  took_it head [] at from r g n b t = absurd t
  took_it head (l ∷ past) at from r g n b t = by l.entry g.0 b t
    where
      by : (e : Entry) → Allowed head past l.at e → r.boot ≡ boot u (printed (line l.at e ∷ past))
          → TookNow (line l.at e ∷ past) at from (message.Request r) → Unanswered (line l.at e ∷ past) r
      by (Take k sender m) a b t =
          let here : l.at.node ≡ Target u = ap (λ (v : At). v.node) t.0 ∙ n in
          let is : message_of (printed past) k ≡ Some m = ap (λ (o : Option Sending). option_map (λ (s : Sending). s.message) o)
          (sending_is past k sender l.at.node m a.ok.sent) in
          let comes : comes_to u (printed past) l.at.node k ≡ Some (message.Request r) =
          ap (λ (v : Node). comes_to u (printed past) v k) here
          ∙ ap (λ (b : Bool). if b then message_of (printed past) k else None) (self u) ∙ is ∙ ap (λ (v : Message). Some v) t.2
          in
          subst (λ (o : Option Message). In r (with_request o (boot u (printed past)) (unanswered u (printed past)))) (sym comes)
          (with_it r (boot u (printed past)) (unanswered u (printed past)) b)
      by _ a b t = absurd t

  -- ---- a reply is sent

  -- what waits isn't what is answered
  stays : (head : Head) (past : List Line) (t c : ℕ) (k : ReplyTo) (r : RequestOf) → Grown head past → ReplyOk head (only u past) t c k
      → In r (waiting_at u past) → not (is_request k.who k.xid.0 r) ≡ true
  stays head past t c k r g ok i = settled (is_request k.who k.xid.0 r) (never (is_request k.who k.xid.0 r) other)
    where
      never : (b : Bool) → (b ≡ true → ⊥) → b ≡ false
      never true n = absurd (n refl)
      never false n = refl

      numbered : ℕ → Xid
      numbered n = record { 0 = n }

      other : is_request k.who k.xid.0 r ≡ true → ⊥
      other f =
          let h = ((holds head past g).at u).done in
          let d = replied_acted head u past g t c k ok in
          let waits = h.waits r (subst (λ (v : List RequestOf). In r v) (waiting_is head.osts u past) i) in
          let its = and_parts (same_life r.who k.who) (nat_eq r.xid.0 k.xid.0) f in
          let who : d.0.reply.who ≡ r.who = ap (λ (v : ReplyTo). v.who) d.2 ∙ sym (ap (λ (v : ReplyTo). v.who) ok.is)
          ∙ sym (life_is r.who k.who its.0) in
          let xid : d.0.reply.xid ≡ r.xid = ap (λ (v : ReplyTo). v.xid) d.2 ∙ sym (ap (λ (v : ReplyTo). v.xid) ok.is)
          ∙ ap numbered (sym (eqb-true r.xid.0 k.xid.0 its.1)) in
          waits.new d.0 d.1 d.3 who xid

  -- ---- each line keeps it

  acted_fewer : (past : List Line) (at : At) (e : Entry) (d : Deed) (own : Bool) (r : RequestOf)
      → ((r : RequestOf) → In r (waiting_at u past) → Unanswered past r)
      → In r (if own then without_request d (waiting_at u past) else waiting_at u past) → Unanswered past r
  acted_fewer past at e d true r h i = h r (in_filter (λ (q : RequestOf). not (is_request_of d q)) r (waiting_at u past) i).0
  acted_fewer past at e d false r h i = h r i

  entered : (head : Head) (past : List Line) (stamp : Stamp) (t : ℕ) (q : RequestOf) → nat_eq u t ≡ true
      → Allowed head past (turn stamp (Target t)) (Enters q) → Grown head past → Unanswered past q
  entered head past stamp t q own a g =
      let ok = a.of u own in
      let high = (((holds head past g).at u).boots (Client ok.from) (Target t) (message.Request q) ok.was).1 in
      let low = ok.current in
      let is = boot_of head u past g in
      took_it head past (turn stamp (Target t)) a.ok.0 q g (ap Target (sym (eqb-true u t own))) (omega (arith, high, low, is)) a.ok.1

  -- a close leaves nothing that waits
  closes_unanswered : (head : Head) (past : List Line) (stamp : Stamp) (t : ℕ) (o : Outcome)
      → (IsServing head.osts (only u past) → AllUnanswered past)
      → IsServing head.osts (only u (line (turn stamp (Target t)) (Close o) ∷ past))
      → AllUnanswered (line (turn stamp (Target t)) (Close o) ∷ past)
  closes_unanswered head past stamp t o h s r i = by (nat_eq u t) refl s i
    where
      by : (v : Bool) → nat_eq u t ≡ v → IsServing head.osts (if v then line (turn stamp (Target t)) (Close o) ∷ only u past
          else only u past) → In r (if v then [] else waiting_at u past)
          → In r (if nat_eq t u then [] else unanswered u (printed past))
      by true e s i = absurd i
      by false e s i = subst (λ (x : Bool). In r (if x then [] else unanswered u (printed past))) (sym (flip t u ∙ e)) (h s r i)

  keeps_unanswered : (head : Head) (past : List Line) (stamp : Stamp) (node : Node) (e : Entry) → Allowed head past (turn stamp node) e
      → Grown head past
      → IsServing head.osts (only u (line (turn stamp node) e ∷ past)) → AllUnanswered past
      → AllUnanswered (line (turn stamp node) e ∷ past)
  keeps_unanswered head past stamp node (Take n from m) a g s h r i =
      with_more r (comes_to u (printed past) node n) (boot u (printed past)) (unanswered u (printed past)) (h r i)
  keeps_unanswered head past stamp (Client c) (Send to m) a g s h r i = h r i
  keeps_unanswered head past stamp (Target t) (Send (Client c) (message.Reply k)) a g s h r i =
      cond_both (is_target u (Target t)) (without_answered (message.Reply k) (unanswered u (printed past))) (unanswered u (printed past))
      (λ (v : List RequestOf). In r v)
      (λ e. in_filtered (λ (q : RequestOf). not (is_request k.who k.xid.0 q)) r (unanswered u (printed past)) (h r i)
      (stays head past t c k r g (a.of u (flip u t ∙ e)) i))
      (λ e. h r i)
  keeps_unanswered head past stamp (Target t) (Send (Client c) (message.Block who b cookie)) a g s h r i =
      cond_both (is_target u (Target t)) (unanswered u (printed past)) (unanswered u (printed past)) (λ (v : List RequestOf). In r v)
      (λ e. h r i) (λ e. h r i)
  keeps_unanswered head past stamp (Target t) (Send (Client c) (message.Ready who b number)) a g s h r i =
      cond_both (is_target u (Target t)) (unanswered u (printed past)) (unanswered u (printed past)) (λ (v : List RequestOf). In r v)
      (λ e. h r i) (λ e. h r i)
  keeps_unanswered head past stamp (Target t) (Send (Client c) (message.Evicted who b)) a g s h r i =
      cond_both (is_target u (Target t)) (unanswered u (printed past)) (unanswered u (printed past)) (λ (v : List RequestOf). In r v)
      (λ e. h r i) (λ e. h r i)
  keeps_unanswered head past stamp (Target t) (Send (Client c) (message.Up b)) a g s h r i =
      cond_both (is_target u (Target t)) (unanswered u (printed past)) (unanswered u (printed past)) (λ (v : List RequestOf). In r v)
      (λ e. h r i) (λ e. h r i)
  keeps_unanswered head past stamp (Target t) (Send (Client c) (message.Grant n)) a g s h r i =
      cond_both (is_target u (Target t)) (unanswered u (printed past)) (unanswered u (printed past)) (λ (v : List RequestOf). In r v)
      (λ e. h r i) (λ e. h r i)
  keeps_unanswered head past stamp (Target t) (Send (Client c) (message.Ask who b cookie for_who x)) a g s h r i =
      cond_both (is_target u (Target t)) (unanswered u (printed past)) (unanswered u (printed past)) (λ (v : List RequestOf). In r v)
      (λ e. h r i) (λ e. h r i)
  keeps_unanswered head past stamp (Target t) (Send to m) a g s h r i = absurd a.ok
  keeps_unanswered head past stamp (Client c) (Enters q) a g s h r i = absurd a.ok
  keeps_unanswered head past stamp (Target t) (Enters q) a g s h r i =
      cond_both (nat_eq u t) (waiting_at u past ++ q ∷ []) (waiting_at u past) (λ (v : List RequestOf). In r v → Unanswered past r)
      (λ e j. ⊎_elim
      (λ (w : In r (waiting_at u past)). h r w)
      (λ (w : In r (q ∷ [])). ⊎_elim (λ (o : q ≡ r). subst (λ (v : RequestOf). Unanswered past v) o (entered head past stamp t q e a g))
      (λ (v : ⊥). absurd v) w)
      (in_append r (waiting_at u past) (q ∷ []) j))
      (λ e j. h r j)
      i
  keeps_unanswered head past stamp (Client c) (Act d) a g s h r i = absurd a.ok
  keeps_unanswered head past stamp (Client c) (Made d) a g s h r i = absurd a.ok
  keeps_unanswered head past stamp (Target t) (Act d) a g s h r i = acted_fewer past (turn stamp (Target t)) (Act d) d (nat_eq u t) r h i
  keeps_unanswered head past stamp (Target t) (Made d) a g s h r i = acted_fewer past (turn stamp (Target t)) (Made d) d (nat_eq u t) r h i
  keeps_unanswered head past stamp (Client c) (Grant lock asked) a g s h r i = absurd a.ok
  keeps_unanswered head past stamp (Target t) (Grant lock None) a g s h r i =
      cond_both (nat_eq u t) (waiting_at u past) (waiting_at u past) (λ (v : List RequestOf). In r v → Unanswered past r) (λ e j. h r j)
      (λ e j. h r j) i
  keeps_unanswered head past stamp (Target t) (Grant lock (Some d)) a g s h r i =
      acted_fewer past (turn stamp (Target t)) (Grant lock (Some d)) d (nat_eq u t) r h i
  keeps_unanswered head past stamp (Client c) (Wait lock d) a g s h r i = absurd a.ok
  keeps_unanswered head past stamp (Target t) (Wait lock d) a g s h r i =
      acted_fewer past (turn stamp (Target t)) (Wait lock d) d (nat_eq u t) r h i
  keeps_unanswered head past stamp (Client c) (Answers d) a g s h r i = absurd a.ok
  keeps_unanswered head past stamp (Target t) (Answers d) a g s h r i =
      acted_fewer past (turn stamp (Target t)) (Answers d) d (nat_eq u t) r h i
  keeps_unanswered head past stamp (Client c) (Boot b disk) a g s h r i = absurd a.ok
  keeps_unanswered head past stamp (Target t) (Boot b disk) a g s h r i = booted (nat_eq u t) refl s
    where
      booted : (v : Bool) → nat_eq u t ≡ v → IsServing head.osts
          (if v then line (turn stamp (Target t)) (Boot b disk) ∷ only u past else only u past)
          → In r (if nat_eq t u then [] else unanswered u (printed past))
      booted true e v = absurd (boot_unserved head (only u past) stamp t b disk (a.of u e) ((holds head past g).at u).phase v)
      booted false e v = subst (λ (x : Bool). In r (if x then [] else unanswered u (printed past))) (sym (flip t u ∙ e)) (h r i)
  keeps_unanswered head past stamp (Client c) (Close o) a g s h r i = absurd a.ok
  keeps_unanswered head past stamp (Target t) (Close o) a g s h r i = closes_unanswered head past stamp t o (λ q. h) s r i
  keeps_unanswered head past stamp (Client c) (Evict who cause) a g s h r i = absurd a.ok
  keeps_unanswered head past stamp (Target t) (Evict who cause) a g s h r i =
      cond_both (nat_eq u t) (filter (λ (q : RequestOf). not (is_life q.who (who ∷ []))) (waiting_at u past)) (waiting_at u past)
      (λ (v : List RequestOf). In r v → Unanswered (line (turn stamp (Target t)) (Evict who cause) ∷ past) r)
      (λ e j. let k = in_filter (λ (q : RequestOf). not (is_life q.who (who ∷ []))) r (waiting_at u past) j in without k.0 (other k.1))
      (λ e j. apart e (h r j))
      i
    where
      -- it is another life's
      other : not (is_life r.who (who ∷ [])) ≡ true → not (same_life r.who who) ≡ true
      other e = settled (same_life r.who who) (by (same_life r.who who) e)
        where
          by : (b : Bool) → not (b || false) ≡ true → b ≡ false
          by true e = absurd (cc)
          by false e = refl

      without : In r (waiting_at u past) → not (same_life r.who who) ≡ true
          → Unanswered (line (turn stamp (Target t)) (Evict who cause) ∷ past) r
      without w differs =
          cond_both (is_target u (Target t)) (without_life who (unanswered u (printed past))) (unanswered u (printed past))
          (λ (v : List RequestOf). In r v)
          (λ e. in_filtered (λ (q : RequestOf). not (same_life q.who who)) r (unanswered u (printed past)) (h r w) differs)
          (λ e. h r w)

      apart : nat_eq u t ≡ false → Unanswered past r → Unanswered (line (turn stamp (Target t)) (Evict who cause) ∷ past) r
      apart e w = subst (λ (b : Bool). In r (if b then without_life who (unanswered u (printed past)) else unanswered u (printed past)))
          (sym (flip t u ∙ e)) w
  keeps_unanswered head past stamp _ _ a g s h r i = h r i

  -- while the target serves
  pub all_unanswered : (head : Head) (past : List Line) → Grown head past → IsServing head.osts (only u past) → AllUnanswered past
  all_unanswered head [] g s r i = absurd i
  all_unanswered head (l ∷ past) g s r i = by l.at.node l.entry g.0 s (all_unanswered head past g.1) r i
    where
      by : (node : Node) (e : Entry) → Allowed head past (turn l.at.stamp node) e
          → IsServing head.osts (only u (line (turn l.at.stamp node) e ∷ past)) → (IsServing head.osts (only u past) → AllUnanswered past)
          → AllUnanswered (line (turn l.at.stamp node) e ∷ past)
      by (Client c) (Close o) a s h = absurd a.ok
      by (Target t) (Close o) a s h = closes_unanswered head past l.at.stamp t o h s
      by node e a s h = keeps_unanswered head past l.at.stamp node e a g.1 s (h (served_before head past l.at.stamp node e tt a g.1 s))

  -- ---- the condition

  acts_asked : (head : Head) (past : List Line) (d : Deed) (r : RequestOf) → Grown head past → IsServing head.osts (only u past)
      → In r (server_of head.osts (only u past)).waiting → r.who ≡ d.reply.who → r.xid ≡ d.reply.xid
      → has_request (printed past) (Target u) d.reply.who d.reply.xid.0 ≡ true
  acts_asked head past d r g serves i w x =
      subst (λ (v : Who). has_request (printed past) (Target u) v d.reply.xid.0 ≡ true) w
      (subst (λ (v : Xid). has_request (printed past) (Target u) r.who v.0 ≡ true) x
      (any_passes (is_request r.who r.xid.0) r (unanswered u (printed past))
      (all_unanswered head past g serves r (subst (λ (v : List RequestOf). In r v) (sym (waiting_is head.osts u past)) i)) (its_own r)))

requests_at : (head : Head) (past : List Line) (l : Line) (later : List PrintedLine) → Allowed head past l.at l.entry → Grown head past
    → Keeps Requests past l later
requests_at head past l later a g = by l.at.node l.entry a
  where
    by : (node : Node) (e : Entry) → Allowed head past (turn l.at.stamp node) e → Says Requests past (turn l.at.stamp node) later e
    by (Client c) (Act d) k = absurd k.ok
    by (Client c) (Made d) k = absurd k.ok
    by (Target t) (Act d) k =
        let ok = act_for head past l.at.stamp t d k in
        acts_asked t head past d ok.request g ok.serves ok.waits (sym ok.who) (sym ok.xid)
    by (Target t) (Made d) k =
        let ok = txn_for head past l.at.stamp t d k in
        acts_asked t head past d ok.request g ok.serves ok.waits (sym ok.who) (sym ok.xid)
    by _ _ k = tt

pub requests : (head : Head) (past : List Line) → Grown head past → Holds Requests (printed past)
requests head past g = holds_before head Requests (λ past. Unit {0}) (λ l past k. k)
    (λ past l later a g k. requests_at head past l later a g) past [] g tt
