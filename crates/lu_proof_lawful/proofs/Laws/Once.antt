-- What acts was asked for, and nothing that counts was done for the same request; nor anything in the same turn. And the operation of a
-- number.
use Rattle.std.proofs.Common.{◌≡◌, ◌⊎◌, ℕ, ◌<◌, Bool, true, false, List, [], ◌∷◌, ◌++◌, Option, Some, None, inl, inr, ⊎_elim, refl, sym}
use Rattle.std.proofs.Common.{subst, ap, ◌∙◌, arith}
use Rattle.std.specs.Prelude.{nat_eq, not, if◌then◌else◌}
use Rattle.std.specs.Option.{option_map}
use Rattle.std.proofs.lemmas.Bool.{cond_both, eqb-true}
use Rattle.lu_base.specs.declared.ids.At.{At}
use Rattle.lu_base.specs.declared.ids.Node.{Node}
use Rattle.lu_base.specs.declared.ids.Node.TheVariants.{Client, Target}
use Rattle.lu_base.specs.declared.ids.Stamp.{Stamp}
use Rattle.lu_base.specs.declared.ids.Who.{Who}
use Rattle.lu_base.specs.declared.ids.Xid.{Xid}
use Rattle.lu_base.specs.declared.locks.Lock.{Lock}
use Rattle.lu_msg.specs.declared.messages.Message.TheVariants as message
use Rattle.lu_msg.specs.declared.messages.Request.{Request as RequestOf}
use Rattle.lu_msg.specs.declared.operations.Op.{Op}
use Rattle.lu_spec_entries.specs.Carried.{Deed, Flight}
use Rattle.lu_spec_entries.specs.Words.{Entry, Act, Txn as Made, Grant, Wait, Answers as Responds, Boot, Close, Evict, Enters, Line, line}
use Rattle.lu_spec_entries.specs.Words.{turn_before}
use Rattle.lu_spec_entries.specs.Concerns.{concerns, only}
use Rattle.lu_spec_entries.specs.Printed.{printed}
use Rattle.lu_spec_target.specs.Lives.{is_life}
use Rattle.lu_proof_lawful.specs.Covered.TargetParts.{is_request_of, without_request, waiting_after}
use Rattle.lu_proof_lawful.specs.Covered.TargetStates.{server_of, closed_of, boot_at, waiting_at}
use Rattle.lu_proof_lawful.specs.Covered.Heads.{Head}
use Rattle.lu_spec_laws.specs.Words.Requests.{first_request, asked}
use Rattle.lu_proof_lawful.proofs.Preconditions.Guards.{In, Was, Later, Steps, IsTurnOf}
use Rattle.lu_proof_lawful.proofs.Preconditions.StoryGuards.{IsServing, GrantOk, RangeOk, ReportedOk}
use Rattle.lu_proof_lawful.proofs.Preconditions.Acts.{Acted as ActedSo, range_acted, wait_acted, responded, responds_acted, Made as MadeSo}
use Rattle.lu_proof_lawful.proofs.Preconditions.ClientLines.{some_is}
use Rattle.lu_proof_lawful.proofs.Preconditions.Grown.{Allowed, Grown}
use Rattle.lu_proof_lawful.proofs.Preconditions.Lists.{self, in_append, in_filter, turn_trans, turn_irreflexive}
use Rattle.lu_proof_lawful.proofs.Preconditions.Only.{was_back, was_more}
use Rattle.lu_proof_lawful.proofs.Preconditions.Parts.{waiting_is, boot_is}
use Rattle.lu_proof_lawful.proofs.Invariants.Groups.{turn, Reached}
use Rattle.lu_proof_lawful.proofs.Invariants.TargetGroups.{Acted, Flew, Counts}
use Rattle.lu_proof_lawful.proofs.Invariants.All.{holds}
use Rattle.lu_proof_lawful.proofs.Invariants.DoneGrows.{did_acted}
use Rattle.lu_proof_lawful.proofs.Invariants.GrantLines.{grant_either}
use Rattle.lu_proof_lawful.proofs.Invariants.Lines.{DoneBy, acted_line, done_here}
use Rattle.lu_proof_lawful.proofs.Invariants.Sides.{IsReported, reported, acted_only}
use Rattle.lu_proof_lawful.proofs.Laws.Story.{was_to, target_is}
use Rattle.lu_proof_lawful.proofs.Laws.Deeds.{act_for, txn_for}
use Rattle.lu_proof_lawful.proofs.Laws.Printed.{first_sent, sent_first}
use Rattle.lu_proof_lawful.proofs.Laws.Facts.{AskedAt, AllAsked}

-- ---- what waits was sent

abbrev WasAsked : List Line → ℕ → RequestOf → Type 0
WasAsked past t r = (from : Node) × Was past from (Target t) (message.Request r)

asked_more : (l : Line) (past : List Line) (t : ℕ) (r : RequestOf) → WasAsked past t r → WasAsked (l ∷ past) t r
asked_more l past t r w = (w.0, was_more l past w.0 (Target t) (message.Request r) w.1)

waits_asked : (head : Head) (past : List Line) (t : ℕ) (r : RequestOf) → Grown head past → In r (waiting_at t past) → WasAsked past t r
waits_asked head [] t r g i = absurd i
waits_asked head (l ∷ past) t r g i = by l.at.node l.entry g.0 i (waits_asked head past t r g.1)
  where
    acted : (node : Node) (e : Entry) (d : Deed) (own : Bool) → (In r (waiting_at t past) → WasAsked past t r)
        → In r (if own then without_request d (waiting_at t past) else waiting_at t past)
        → WasAsked (line (turn l.at.stamp node) e ∷ past) t r
    acted node e d true h i = asked_more (line (turn l.at.stamp node) e) past t r
        (h (in_filter (λ q. not (is_request_of d q)) r (waiting_at t past) i).0)
    acted node e d false h i = asked_more (line (turn l.at.stamp node) e) past t r (h i)

    by : (node : Node) (e : Entry) → Allowed head past (turn l.at.stamp node) e → In r (waiting_at t (line (turn l.at.stamp node) e ∷ past))
        → (In r (waiting_at t past) → WasAsked past t r)
        → WasAsked (line (turn l.at.stamp node) e ∷ past) t r
    by (Client c) (Enters q) k i h = absurd k.ok
    by (Client c) (Act d) k i h = absurd k.ok
    by (Client c) (Made d) k i h = absurd k.ok
    by (Client c) (Evict who cause) k i h = absurd k.ok
    by (Client c) (Close o) k i h = absurd k.ok
    by (Target u) (Close o) k i h =
        cond_both (nat_eq t u) [] (waiting_at t past) (λ (v : List RequestOf). In r v
        → WasAsked (line (turn l.at.stamp (Target u)) (Close o) ∷ past) t r) (λ e j. absurd j)
        (λ e j. asked_more (line (turn l.at.stamp (Target u)) (Close o)) past t r (h j)) i
    by (Target u) (Evict who cause) k i h =
        let at = line (turn l.at.stamp (Target u)) (Evict who cause) in
        cond_both (nat_eq t u) (waiting_after (waiting_at t past) (Evict who cause)) (waiting_at t past)
        (λ (v : List RequestOf). In r v → WasAsked (at ∷ past) t r)
        (λ e j. asked_more at past t r (h (in_filter (λ (q : RequestOf). not (is_life q.who (who ∷ []))) r (waiting_at t past) j).0))
        (λ e j. asked_more at past t r (h j))
        i
    by (Target u) (Enters q) k i h =
        let ok = k.of u (self u) in
        let was : Was past (Client ok.from) (Target u) (message.Request q) =
        was_back u past (Client ok.from) (Target u) (message.Request q) ok.was in
        let at = line (turn l.at.stamp (Target u)) (Enters q) in
        cond_both (nat_eq t u) (waiting_at t past ++ q ∷ []) (waiting_at t past) (λ (v : List RequestOf). In r v → WasAsked (at ∷ past) t r)
        (λ e j. ⊎_elim
        (λ (m : In r (waiting_at t past)). asked_more at past t r (h m))
        (λ (m : In r (q ∷ [])). ⊎_elim (λ (w : q ≡ r). asked_more at past t r (subst (λ (v : RequestOf). WasAsked past t v) w
        (Client ok.from, subst (λ (v : ℕ). Was past (Client ok.from) (Target v) (message.Request q)) (sym (eqb-true t u e)) was)))
        (λ (v : ⊥). absurd v) m)
        (in_append r (waiting_at t past) (q ∷ []) j))
        (λ e j. asked_more at past t r (h j))
        i
    by (Target u) (Act d) k i h = acted (Target u) (Act d) d (nat_eq t u) h i
    by (Target u) (Made d) k i h = acted (Target u) (Made d) d (nat_eq t u) h i
    by (Target u) (Grant lock (Some d)) k i h = acted (Target u) (Grant lock (Some d)) d (nat_eq t u) h i
    by (Target u) (Grant lock None) k i h = asked_more (line (turn l.at.stamp (Target u)) (Grant lock None)) past t r
        (h (cond_both (nat_eq t u) (waiting_at t past) (waiting_at t past) (λ (v : List RequestOf). In r v → In r (waiting_at t past))
        (λ e j. j) (λ e j. j) i))
    by (Target u) (Wait lock d) k i h = acted (Target u) (Wait lock d) d (nat_eq t u) h i
    by (Target u) (Responds d) k i h = acted (Target u) (Responds d) d (nat_eq t u) h i
    by (Client c) (Grant lock asked) k i h = absurd k.ok
    by (Client c) (Wait lock d) k i h = absurd k.ok
    by (Client c) (Responds d) k i h = absurd k.ok
    by node e k i h = asked_more (line (turn l.at.stamp node) e) past t r (h i)

-- ---- what is answered without a printed line

-- in this turn, or it is a size that a holder said
responds_turn : (head : Head) (past : List Line) (stamp : Stamp) (t : ℕ) (d : Deed) → Allowed head past (turn stamp (Target t)) (Responds d)
    → (d.reply.at ≡ turn stamp (Target t)) ⊎ IsReported d
responds_turn head past stamp t d k =
    let r = responded head.osts (only t past) (turn stamp (Target t)) t d (k.of t (self t)).1 in
    ⊎_elim (λ (w : r.when ≡ turn stamp (Target t)). inl (ap (λ (v : Deed). v.reply.at) r.is ∙ w))
    (λ (q : ReportedOk head.osts (only t past) (turn stamp (Target t)) t d). inr
    (reported head.osts (only t past) (turn stamp (Target t)) t d q)) r.turn

responds_boot : (head : Head) (past : List Line) (stamp : Stamp) (t : ℕ) (d : Deed) → Allowed head past (turn stamp (Target t)) (Responds d)
    → d.reply.boot ≡ (server_of head.osts (only t past)).boot
responds_boot head past stamp t d k = ap (λ (v : Deed). v.reply.boot)
    (responded head.osts (only t past) (turn stamp (Target t)) t d (k.of t (self t)).1).is

-- ---- a turn is of one boot

-- what was done in the newest turn was done in the present boot
turn_boot : (head : Head) (past : List Line) (t : ℕ) (d : Deed) → Grown head past → d.reply.at.node ≡ Target t → Acted past d
    → IsTurnOf past d.reply.at → d.reply.boot ≡ boot_at t past
turn_boot head [] t d g here a now = absurd a
turn_boot head (l ∷ past) t d g here a now = by l.at.node l.entry g.0 a now (λ b. turn_boot head past t d g.1 here b (before b))
  where
    -- nor is the newest line before it of an earlier turn
    stands : (p : List Line) → Steps p l.at → Reached p d.reply.at → IsTurnOf p d.reply.at
    stands [] steps r = absurd r
    stands (k ∷ p) (inl same) r = same ∙ now
    stands (k ∷ p) (inr lt) (inl same) = sym same
    stands (k ∷ p) (inr lt) (inr le) = absurd (turn_irreflexive l.at
        (turn_trans l.at k.at l.at (subst (λ (v : At). turn_before v k.at ≡ true) (sym now) le) lt))

    before : Acted past d → IsTurnOf past d.reply.at
    before b = stands past g.0.steps ((holds head past g.1).reaches.acted d b)

    of_done : (u : ℕ) (e : Deed) → e.reply.at.node ≡ Target u → e.reply.boot ≡ (server_of head.osts (only u past)).boot → e ≡ d
        → d.reply.boot ≡ boot_at t past
    of_done u e at is same =
        let is_here : u ≡ t = target_is u t (sym at ∙ ap (λ (v : Deed). v.reply.at.node) same ∙ here) in
        ap (λ (v : Deed). v.reply.boot) (sym same) ∙ is ∙ sym (boot_is head.osts u past) ∙ ap (λ (v : ℕ). boot_at v past) is_here

    -- no boot comes in the middle of a turn
    boots : (p : List Line) (at : At) (u boot : ℕ) → at ≡ d.reply.at → Later p at → IsTurnOf p d.reply.at → d.reply.boot
        ≡ (if nat_eq t u then boot else boot_at t past)
    boots [] at u boot n later i = absurd i
    boots (k ∷ p) at u boot n later i = absurd (turn_irreflexive at (subst (λ (v : At). turn_before v at ≡ true) (i ∙ sym n) later))

    by : (node : Node) (e : Entry) → Allowed head past (turn l.at.stamp node) e → Acted (line (turn l.at.stamp node) e ∷ past) d
        → IsTurnOf (line (turn l.at.stamp node) e ∷ past) d.reply.at
        → (Acted past d → d.reply.boot ≡ boot_at t past) → d.reply.boot ≡ boot_at t (line (turn l.at.stamp node) e ∷ past)
    by (Client c) (Act e) k a n ih = absurd k.ok
    by (Target u) (Act e) k (inl same) n ih = let is = act_for head past l.at.stamp u e k
        in of_done u e (ap (λ (v : At). v.node) is.turn) is.boot same
    by (Target u) (Act e) k (inr b) n ih = ih b
    by (Client c) (Made e) k a n ih = absurd k.ok
    by (Target u) (Made e) k (inl same) n ih = let is = txn_for head past l.at.stamp u e k
        in of_done u e (ap (λ (v : At). v.node) is.turn) is.boot same
    by (Target u) (Made e) k (inr b) n ih = ih b
    by (Client c) (Grant lock asked) k a n ih = absurd k.ok
    by (Target u) (Grant lock asked) k (inl q) n ih = ⊎_elim ih
        (λ p. let is = range_acted head.osts (only u past) (turn l.at.stamp (Target u)) lock d p.1
        in of_done u d (ap (λ (v : At). v.node) is.turn) is.boot refl)
        (grant_either head past l.at.stamp u lock asked d k q)
    by (Target u) (Grant lock asked) k (inr b) n ih = ih b
    by (Client c) (Wait lock e) k a n ih = absurd k.ok
    by (Target u) (Wait lock e) k (inl same) n ih =
        let is = wait_acted head.osts (only u past) (turn l.at.stamp (Target u)) lock e (k.of u (self u)).1
        in of_done u e (ap (λ (v : At). v.node) is.turn) is.boot same
    by (Target u) (Wait lock e) k (inr b) n ih = ih b
    by (Client c) (Responds e) k a n ih = absurd k.ok
    by (Target u) (Responds e) k (inl same) n ih =
        ⊎_elim
        (λ (w : e.reply.at ≡ turn l.at.stamp (Target u)). of_done u e (ap (λ (v : At). v.node) w) (responds_boot head past l.at.stamp u e k)
        same)
        (λ (r : IsReported e). absurd (let q : Client r.client ≡ Target t = sym r.node ∙ ap (λ (v : Deed). v.reply.at.node) same ∙ here
        in cc))
        (responds_turn head past l.at.stamp u e k)
    by (Target u) (Responds e) k (inr b) n ih = ih b
    by (Client c) (Boot boot disk) k a n ih = absurd k.ok
    by (Target u) (Boot boot disk) k a n ih = boots past (turn l.at.stamp (Target u)) u boot n k.ok (before a)
    by node e k a n ih = ih a

-- ---- what is done now

-- a request of that life and number was sent to the target
abbrev pub SentFor : List Line → ℕ → Deed → Type 0
SentFor past t d = (r : RequestOf) × WasAsked past t r × (r.who ≡ d.reply.who) × (r.xid ≡ d.reply.xid) × (r.op ≡ d.op) × (r.tag ≡ d.tag)

-- nothing that counts was done there for that request
abbrev pub NoneFor : Head → List Line → ℕ → Who → ℕ → Type 0
NoneFor head past t who x = (d : Deed) → Acted (only t past) d → Counts head.osts (only t past) d → d.reply.who ≡ who → d.reply.xid.0 ≡ x
    → ⊥

-- nor anything in this turn
abbrev pub NoneNow : Head → List Line → At → Who → ℕ → Type 0
NoneNow head past at who x = (d : Deed) → Acted past d → d.reply.at ≡ at → d.reply.who ≡ who → d.reply.xid.0 ≡ x → ⊥

-- a target does it, which was asked for it, and nothing that counts was done there for the same request
pub record DoesNow (head : Head) (past : List Line) (at : At) (d : Deed) : Type 0 where
  pub target : ℕ
  pub here : at.node ≡ Target target
  pub turn : d.reply.at ≡ at
  pub sent : SentFor past target d
  pub new : NoneFor head past target d.reply.who d.reply.xid.0
  pub now : NoneNow head past at d.reply.who d.reply.xid.0

pub does : (head : Head) (past : List Line) (at : At) (t : ℕ) (d : Deed) (r : RequestOf) → Grown head past → Steps past at → at.node
    ≡ Target t → d.reply.at ≡ at → IsServing head.osts (only t past)
    → In r (server_of head.osts (only t past)).waiting
    → r.who ≡ d.reply.who → r.xid ≡ d.reply.xid → r.op ≡ d.op → r.tag ≡ d.tag → DoesNow head past at d
does head past at t d r g steps here when serves i w x o k =
    record {
      target = t;
      here = here;
      turn = when;
      sent = (r, waits_asked head past t r g (subst (λ (v : List RequestOf). In r v) (sym (waiting_is head.osts t past)) i), w, x, o, k);
      new = new;
      now = λ e a now p q. new e (acted_only head past e t g a (ap (λ (v : At). v.node) now ∙ here)) (inl (present e a now)) p q;
    }
  where
    xid : ℕ → Xid
    xid n = record { 0 = n }

    new : NoneFor head past t d.reply.who d.reply.xid.0
    new e a counts p q = (((holds head past g).at t).done.waits r i).new e a counts (p ∙ sym w) (ap (λ (n : ℕ). xid n) q ∙ sym x)

    newest : (p : List Line) → Steps p at → (e : Deed) → Reached p e.reply.at → e.reply.at ≡ at → IsTurnOf p e.reply.at
    newest [] steps e r now = absurd r
    newest (k ∷ p) (inl same) e r now = same ∙ sym now
    newest (k ∷ p) (inr lt) e (inl same) now = sym same
    newest (k ∷ p) (inr lt) e (inr le) now = absurd (turn_irreflexive at
        (turn_trans at k.at at (subst (λ (v : At). turn_before v k.at ≡ true) now le) lt))

    -- what was done in this turn was done in the boot that serves
    present : (e : Deed) → Acted past e → e.reply.at ≡ at → e.reply.boot ≡ closed_of (only t past)
    present e a now = turn_boot head past t e g (ap (λ (v : At). v.node) now ∙ here) a
        (newest past steps e ((holds head past g).reaches.acted e a) now) ∙ boot_is head.osts t past ∙ sym serves.closed

pub act_now : (head : Head) (past : List Line) (stamp : Stamp) (node : Node) (d : Deed) → Allowed head past (turn stamp node) (Act d)
    → Grown head past → DoesNow head past (turn stamp node) d
act_now head past stamp (Client c) d k g = absurd k.ok
act_now head past stamp (Target t) d k g =
    let ok = act_for head past stamp t d k in
    does head past (turn stamp (Target t)) t d ok.request g k.steps refl ok.turn ok.serves ok.waits (sym ok.who) (sym ok.xid) (sym ok.of_op)
    (sym ok.tag)

pub txn_now : (head : Head) (past : List Line) (stamp : Stamp) (node : Node) (d : Deed) → Allowed head past (turn stamp node) (Made d)
    → Grown head past → DoesNow head past (turn stamp node) d
txn_now head past stamp (Client c) d k g = absurd k.ok
txn_now head past stamp (Target t) d k g =
    let ok = txn_for head past stamp t d k in
    does head past (turn stamp (Target t)) t d ok.request g k.steps refl ok.turn ok.serves ok.waits (sym ok.who) (sym ok.xid) (sym ok.of_op)
    (sym ok.tag)

-- what a lock that is shown is of was done before, or now, at an object storage target
pub grant_now : (head : Head) (past : List Line) (stamp : Stamp) (node : Node) (lock : Lock) (asked : Option Deed) (d : Deed)
    → Allowed head past (turn stamp node) (Grant lock asked) → asked ≡ Some d → Grown head past
    → Acted past d ⊎ (((t : ℕ) × (node ≡ Target t) × (0 < t)) × DoesNow head past (turn stamp node) d)
grant_now head past stamp (Client c) lock asked d k q g = absurd k.ok
grant_now head past stamp (Target t) lock asked d k q g = ⊎_elim (λ (a : Acted past d). inl a)
    (λ (p : (0 < t) × RangeOk head.osts (only t past) (turn stamp (Target t)) lock d).
    let ok = range_acted head.osts (only t past) (turn stamp (Target t)) lock d p.1 in
    inr (
      (t, refl, p.0),
      does head past (turn stamp (Target t)) t d ok.request g k.steps refl ok.turn ok.serves ok.waits (sym ok.who)
          (sym ok.xid) (sym ok.of_op) (sym ok.tag),
    ))
    (grant_either head past stamp t lock asked d k q)

-- what the metadata target did was done before
pub granted_first : (head : Head) (past : List Line) (stamp : Stamp) (node : Node) (lock : Lock) (asked : Option Deed) (d : Deed)
    → Allowed head past (turn stamp node) (Grant lock asked) → asked ≡ Some d → Grown head past
    → d.reply.at.node ≡ Target 0 → Acted past d
granted_first head past stamp node lock asked d k q g first = ⊎_elim (λ (a : Acted past d). a)
    (λ p. absurd (apart p.0.0 (sym p.0.1 ∙ ap (λ (v : At). v.node) (sym p.1.turn) ∙ first) p.0.2))
    (grant_now head past stamp node lock asked d k q g)
  where
    apart : (t : ℕ) → Target t ≡ Target 0 → 0 < t → ⊥
    apart t e high = let zero = target_is t 0 e in omega (arith, zero, high)

-- who asks for a lock is told to wait
pub wait_now : (head : Head) (past : List Line) (stamp : Stamp) (node : Node) (lock : Lock) (d : Deed)
    → Allowed head past (turn stamp node) (Wait lock d) → Grown head past → DoesNow head past (turn stamp node) d
wait_now head past stamp (Client c) lock d k g = absurd k.ok
wait_now head past stamp (Target t) lock d k g =
    let ok = wait_acted head.osts (only t past) (turn stamp (Target t)) lock d (k.of t (self t)).1 in
    does head past (turn stamp (Target t)) t d ok.request g k.steps refl ok.turn ok.serves ok.waits (sym ok.who) (sym ok.xid) (sym ok.of_op)
    (sym ok.tag)

-- what is answered without a printed line, but for a size that a holder said
pub responds_now : (head : Head) (past : List Line) (stamp : Stamp) (node : Node) (d : Deed)
    → Allowed head past (turn stamp node) (Responds d) → Grown head past → DoesNow head past (turn stamp node) d ⊎ IsReported d
responds_now head past stamp (Client c) d k g = absurd k.ok
responds_now head past stamp (Target t) d k g =
    let r = responded head.osts (only t past) (turn stamp (Target t)) t d (k.of t (self t)).1 in
    let ok = responds_acted head.osts (only t past) (turn stamp (Target t)) t d r in
    ⊎_elim
    (λ (w : d.reply.at ≡ turn stamp (Target t)). inl (does head past (turn stamp (Target t)) t d ok.request g k.steps refl w ok.serves
    ok.waits (sym ok.who) (sym ok.xid) (sym ok.of_op) (sym ok.tag)))
    (λ (q : IsReported d). inr q)
    (responds_turn head past stamp t d k)

-- neither is done by the metadata target
pub wait_high : (head : Head) (past : List Line) (stamp : Stamp) (node : Node) (lock : Lock) (d : Deed)
    → Allowed head past (turn stamp node) (Wait lock d) → Grown head past → d.reply.at.node ≡ Target 0 → ⊥
wait_high head past stamp (Client c) lock d k g first = absurd k.ok
wait_high head past stamp (Target t) lock d k g first =
    let high = k.ok.0 in
    let zero = target_is t 0 (ap (λ (v : At). v.node) (sym (wait_now head past stamp (Target t) lock d k g).turn) ∙ first) in
    absurd (omega (arith, high, zero))

pub responds_high : (head : Head) (past : List Line) (stamp : Stamp) (node : Node) (d : Deed)
    → Allowed head past (turn stamp node) (Responds d) → Grown head past → d.reply.at.node ≡ Target 0 → ⊥
responds_high head past stamp (Client c) d k g first = absurd k.ok
responds_high head past stamp (Target t) d k g first = ⊎_elim
    (λ (now : DoesNow head past (turn stamp (Target t)) d).
    let high = k.ok.0 in
    let zero = target_is t 0 (ap (λ (v : At). v.node) (sym now.turn) ∙ first) in
    absurd (omega (arith, high, zero)))
    (λ (r : IsReported d). absurd (let other : Client r.client ≡ Target 0 = sym r.node ∙ first in cc))
    (responds_now head past stamp (Target t) d k g)

-- whatever is done in that turn
pub done_now : (head : Head) (past : List Line) (stamp : Stamp) (node : Node) (e : Entry) (d : Deed) → Allowed head past (turn stamp node) e
    → Grown head past → DoneBy e d → Acted past d ⊎ DoesNow head past (turn stamp node) d ⊎ IsReported d
done_now head past stamp node (Act x) d k g p = inr (inl (subst (DoesNow head past (turn stamp node)) p
    (act_now head past stamp node x k g)))
done_now head past stamp node (Made x) d k g p = inr (inl (subst (DoesNow head past (turn stamp node)) p
    (txn_now head past stamp node x k g)))
done_now head past stamp node (Grant lock asked) d k g p = ⊎_elim (λ (a : Acted past d). inl a) (λ q. inr (inl q.1))
    (grant_now head past stamp node lock asked d k p g)
done_now head past stamp node (Wait lock x) d k g p = inr (inl (subst (DoesNow head past (turn stamp node)) p
    (wait_now head past stamp node lock x k g)))
done_now head past stamp node (Responds x) d k g p = inr (subst (λ (v : Deed). DoesNow head past (turn stamp node) v ⊎ IsReported v) p
    (responds_now head past stamp node x k g))
done_now head past stamp node e d k g p = absurd p

-- it was asked for
done_sent : (head : Head) (past : List Line) (stamp : Stamp) (t : ℕ) (e : Entry) (d : Deed) → Allowed head past (turn stamp (Target t)) e
    → Grown head past → DoneBy e d → Acted (only t past) d ⊎ SentFor past t d
done_sent head past stamp t e d k g p = by e k p
  where
    now : (r : RequestOf) → In r (server_of head.osts (only t past)).waiting → d.reply.who ≡ r.who → d.reply.xid ≡ r.xid → d.op ≡ r.op
        → d.tag ≡ r.tag → SentFor past t d
    now r i w x o n = (
      r,
      waits_asked head past t r g (subst (λ (v : List RequestOf). In r v) (sym (waiting_is head.osts t past)) i),
      sym w,
      sym x,
      sym o,
      sym n,
    )

    acts : {at : At} (x : Deed) → x ≡ d → ActedSo head.osts (only t past) at x → SentFor past t d
    acts x q ok = let k = subst (ActedSo head.osts (only t past) _) q ok in now k.request k.waits k.who k.xid k.of_op k.tag

    by : (e : Entry) → Allowed head past (turn stamp (Target t)) e → DoneBy e d → Acted (only t past) d ⊎ SentFor past t d
    by (Act x) k p = inr (acts x p (act_for head past stamp t x k))
    by (Made x) k p = inr (let ok = subst (MadeSo head.osts (only t past) (turn stamp (Target t))) p (txn_for head past stamp t x k)
        in now ok.request ok.waits ok.who ok.xid ok.of_op ok.tag)
    by (Grant lock (Some x)) k p = ⊎_elim
        (λ (q : (t ≡ 0) × GrantOk head.osts (only t past) lock x). inl
        (subst (Acted (only t past)) (some_is x d p) (did_acted (only t past) x q.1.did)))
        (λ (q : (0 < t) × RangeOk head.osts (only t past) (turn stamp (Target t)) lock x). inr
        (acts x (some_is x d p) (range_acted head.osts (only t past) (turn stamp (Target t)) lock x q.1)))
        (k.of t (self t))
    by (Grant lock None) k p = absurd (cc)
    by (Wait lock x) k p = inr (acts x p (wait_acted head.osts (only t past) (turn stamp (Target t)) lock x (k.of t (self t)).1))
    by (Responds x) k p = inr (acts x p (responds_acted head.osts (only t past) (turn stamp (Target t)) t x
        (responded head.osts (only t past) (turn stamp (Target t)) t x (k.of t (self t)).1)))
    by e k p = absurd p

-- ---- the operation of a number

first_is : (head : Head) (past : List Line) (t : ℕ) (d : Deed) → Grown head past → SentFor past t d → (k : RequestOf)
    × (first_request (printed past) t d.reply.who d.reply.xid.0 ≡ Some k) × (k.op ≡ d.op)
first_is head past t d g s =
    let h = (holds head past g).at t in
    let r = s.0 in
    let y : r.xid.0 ≡ d.reply.xid.0 = ap (λ (v : Xid). v.0) s.3 in
    let first = sent_first past t s.1.0 r s.1.1 in
    let is : first_request (printed past) t d.reply.who d.reply.xid.0 ≡ Some first.0 =
    subst (λ (v : Who). first_request (printed past) t v d.reply.xid.0 ≡ Some first.0) s.2
    (subst (λ v. first_request (printed past) t r.who v ≡ Some first.0) y first.1) in
    let k = first_sent past t d.reply.who d.reply.xid.0 first.0 is in
    let m = h.done.sent k.0 (Target t) (message.Request first.0) (was_to head past t k.0 (message.Request first.0) g k.1) in
    let n = h.done.sent s.1.0 (Target t) (message.Request r) (was_to head past t s.1.0 (message.Request r) g s.1.1) in
    let mx : m.0.xid ≡ first.0.xid.0 = ap (λ (j : RequestOf). j.xid.0) (sym m.2) in
    let nx : n.0.xid ≡ r.xid.0 = ap (λ (j : RequestOf). j.xid.0) (sym n.2) in
    let same : m.0 ≡ n.0 = h.numbers.one d.reply.who m.0 n.0 (subst (λ (j : Who). Flew (only t past) j m.0) k.2 m.1)
    (subst (λ (j : Who). Flew (only t past) j n.0) s.2 n.1) (mx ∙ k.3 ∙ sym y ∙ sym nx) in
    (first.0, is, ap (λ (j : RequestOf). j.op) m.2 ∙ ap (λ (j : Flight). j.op) same ∙ ap (λ (j : RequestOf). j.op) (sym n.2) ∙ s.4)

pub asked_is : (head : Head) (past : List Line) (t : ℕ) (d : Deed) → Grown head past → SentFor past t d
    → asked (printed past) t d.reply.who d.reply.xid.0 ≡ Some d.op
asked_is head past t d g s = let k = first_is head past t d g s in ap (λ (v : Option RequestOf). option_map (λ (r : RequestOf). r.op) v) k.1
    ∙ ap (λ (v : Op). Some v) k.2

-- ---- what was done was asked for

sent_more : (l : Line) (past : List Line) (t : ℕ) (d : Deed) → SentFor past t d → SentFor (l ∷ past) t d
sent_more l past t d s = (s.0, asked_more l past t s.0 s.1, s.2, s.3, s.4, s.5)

pub acted_sent : (head : Head) (past : List Line) (t : ℕ) (d : Deed) → Grown head past → Acted (only t past) d → SentFor past t d
acted_sent head [] t d g a = absurd a
acted_sent head (l ∷ past) t d g a =
    sent_more l past t d
    (cond_both (concerns t l.at.node l.entry) (l ∷ only t past) (only t past) (λ (p : List Line). Acted p d → SentFor past t d)
    (λ o b. by l.at.node l.entry g.0 o b (acted_sent head past t d g.1))
    (λ o b. acted_sent head past t d g.1 b)
    a)
  where
    by : (node : Node) (e : Entry) → Allowed head past (turn l.at.stamp node) e → concerns t node e ≡ true
        → Acted (line (turn l.at.stamp node) e ∷ only t past) d → (Acted (only t past) d → SentFor past t d) → SentFor past t d
    by node e k o a ih = ⊎_elim
        (λ (p : DoneBy e d).
        let here = done_here head past l.at.stamp node e k.ok k.of k.owes d p in
        let same = of_target here.0 (subst (λ (n : Node). concerns t n e ≡ true) here.1 o) e p in
        ⊎_elim ih (λ (s : SentFor past t d). s)
        (subst (λ (u : ℕ). Acted (only u past) d ⊎ SentFor past u d) (sym same)
        (done_sent head past l.at.stamp here.0 e d (subst (λ (n : Node). Allowed head past (turn l.at.stamp n) e) here.1 k) g.1 p)))
        ih
        (acted_line (turn l.at.stamp node) e (only t past) d a)
      where
        of_target : (u : ℕ) → concerns t (Target u) e ≡ true → (x : Entry) → DoneBy x d → t ≡ u
        of_target u o x p = eqb-true t u o

-- the operation of its number is its own
pub asked_of : (head : Head) (past : List Line) (t : ℕ) (d : Deed) → Grown head past → Acted (only t past) d → AskedAt t past d
asked_of head past t d g a = asked_is head past t d g (acted_sent head past t d g a)

-- what a target does now
pub asked_there : (head : Head) (past : List Line) (at : At) (t : ℕ) (d : Deed) → Grown head past → DoesNow head past at d → at.node
    ≡ Target t → AskedAt t past d
asked_there head past at t d g does here = asked_is head past t d g
    (subst (λ (v : ℕ). SentFor past v d) (target_is does.target t (sym does.here ∙ here)) does.sent)

pub all_asked : (head : Head) (past : List Line) → Grown head past → AllAsked past
all_asked head [] g = tt
all_asked head (l ∷ past) g = by l.entry g.0 (all_asked head past g.1)
  where
    by : (e : Entry) → Allowed head past l.at e → AllAsked past → AllAsked (line l.at e ∷ past)
    by (Act d) k h = (λ t here. asked_there head past l.at t d g.1 (act_now head past l.at.stamp l.at.node d k g.1) here, h)
    by (Made d) k h = (λ t here. asked_there head past l.at t d g.1 (txn_now head past l.at.stamp l.at.node d k g.1) here, h)
    by _ k h = h
