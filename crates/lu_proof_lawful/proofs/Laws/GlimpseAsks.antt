-- What a target asks the holder of a lock is how long the object is that this lock is on, on behalf of a request that asked just that; and
-- the
-- laws find the lock by its cookie.
use Rattle.std.proofs.Common.{◌≡◌, ℕ, Bool, true, false, List, [], ◌∷◌, Option, Some, None, ◌⊎◌, inl, inr, ⊎_elim, refl, sym, subst, ap}
use Rattle.std.proofs.Common.{◌∙◌}
use Rattle.std.specs.Prelude.{◌==◌, if◌then◌else◌}
use Rattle.std.specs.Bool.{then_some}
use Rattle.std.proofs.lemmas.Bool.{eqb-true}
use Rattle.lu_base.specs.declared.ids.Cookie.{Cookie}
use Rattle.lu_base.specs.declared.ids.Node.{Node}
use Rattle.lu_base.specs.declared.ids.Node.TheVariants.{Client, Target}
use Rattle.lu_base.specs.declared.ids.Who.{Who}
use Rattle.lu_base.specs.declared.ids.Xid.{Xid}
use Rattle.lu_base.specs.declared.locks.Lock.{Lock}
use Rattle.lu_msg.specs.declared.messages.Message.{Message}
use Rattle.lu_msg.specs.declared.messages.Message.TheVariants as message
use Rattle.lu_msg.specs.declared.messages.Request.{Request as RequestOf}
use Rattle.lu_msg.specs.declared.operations.Op.TheVariants as op
use Rattle.lu_spec_entries.specs.Carried.{Deed, Flight}
use Rattle.lu_spec_entries.specs.Words.{Entry, Send, Grant, Restore, Line, line}
use Rattle.lu_spec_entries.specs.Printed.{printed}
use Rattle.lu_spec_laws.specs.Words.Pasts.{is_target, or_else}
use Rattle.lu_spec_laws.specs.Words.Scopes.{only_here}
use Rattle.lu_spec_laws.proofs.Tests.{target_is}
use Rattle.lu_spec_laws.specs.Words.Seen.{lock_with}
use Rattle.lu_spec_entries.specs.Concerns.{concerns, only}
use Rattle.lu_proof_lawful.specs.Covered.Heads.{Head}
use Rattle.lu_proof_lawful.proofs.Preconditions.Guards.{Was}
use Rattle.lu_proof_lawful.proofs.Preconditions.Grown.{Allowed, Grown}
use Rattle.lu_proof_lawful.proofs.Preconditions.Lists.{self}
use Rattle.lu_proof_lawful.proofs.Preconditions.Only.{grown_of}
use Rattle.lu_proof_lawful.proofs.Preconditions.ObjectGuards.{AskHolderOk}
use Rattle.lu_proof_lawful.proofs.Preconditions.StoryGuards.{SendOf, EntryOf}
use Rattle.lu_proof_lawful.proofs.Preconditions.Sound.{sound_of}
use Rattle.lu_proof_lawful.proofs.Invariants.Groups.{turn}
use Rattle.lu_proof_lawful.proofs.Invariants.TargetGroups.{Flew, Gave}
use Rattle.lu_proof_lawful.proofs.Invariants.All.{holds}
use Rattle.lu_proof_lawful.proofs.Refinement.WordLine.{only_gave, only_flew}
use Rattle.lu_proof_lawful.proofs.Laws.Given.{Showed, showed_more}
use Rattle.lu_proof_lawful.proofs.Laws.Granted.{restored_showed}

-- ---- a holder is asked

pub record AskedOf (past : List Line) (t : ℕ) (lock : Lock) (cookie : Cookie) (for_who : Who) (xid : Xid) : Type 0 where
  pub deed : Deed
  pub gave : Gave (only t past) deed lock
  pub of_cookie : lock.cookie ≡ cookie
  pub flight : Flight
  pub flew : Flew (only t past) for_who flight
  pub of_xid : flight.xid ≡ xid.0
  pub of_op : flight.op ≡ op.Size lock.resource

pub asked_more : (l : Line) (past : List Line) (t : ℕ) (lock : Lock) (cookie : Cookie) (for_who : Who) (xid : Xid)
    → AskedOf past t lock cookie for_who xid → AskedOf (l ∷ past) t lock cookie for_who xid
asked_more l past t lock cookie for_who xid k =
    record {
      deed = k.deed;
      gave = only_gave t l past k.deed lock k.gave;
      of_cookie = k.of_cookie;
      flight = k.flight;
      flew =
          only_flew t l past for_who k.flight k.flew;
      of_xid = k.of_xid;
      of_op = k.of_op;
    }

pub asked_of : (head : Head) (past : List Line) → Grown head past
    → (t c : ℕ) (who : Who) (boot : ℕ) (cookie : Cookie) (for_who : Who) (xid : Xid)
    → Was (only t past) (Target t) (Client c) (message.Ask who boot cookie for_who xid)
    → (lock : Lock) × AskedOf past t lock cookie for_who xid
asked_of head [] g t c who boot cookie for_who xid was = absurd was
asked_of head (l ∷ past) g t c who boot cookie for_who xid was =
    of_line (concerns t l.at.node l.entry) refl was (λ w. more (asked_of head past g.1 t c who boot cookie for_who xid w))
  where
    m : Message
    m = message.Ask who boot cookie for_who xid

    more : (lock : Lock) × AskedOf past t lock cookie for_who xid → (lock : Lock) × AskedOf (l ∷ past) t lock cookie for_who xid
    more k = (k.0, asked_more l past t k.0 cookie for_who xid k.1)

    P : List Line
    P = only t past

    now : AskHolderOk head.osts P c who boot cookie for_who xid → (lock : Lock) × AskedOf (l ∷ past) t lock cookie for_who xid
    now ok =
        let story = (sound_of head P (grown_of head t past g.1)).story in
        let asks = story.waits_so.asks ok.glimpse ok.waits in
        let facts = (holds head past g.1).at t in
        let gave = facts.locks.granted ok.lock ok.granted in
        let flew = (facts.done.waits ok.glimpse.request asks.0).asks in
        more (
          ok.lock,
          record {
            deed = gave.0;
            gave = gave.1;
            of_cookie = sym ok.of_cookie;
            flight = flew.0;
            flew = subst (λ (w : Who). Flew P w flew.0) (sym ok.for_life) flew.1;
            of_xid = ap (λ (r : RequestOf). r.xid.0) (sym flew.2) ∙ ap (λ (x : Xid). x.0) (sym ok.for_xid);
            of_op = ap (λ (r : RequestOf). r.op) (sym flew.2) ∙ asks.1 ∙ ap (λ r. op.Size r) (sym ok.on);
          },
        )

    of_line : (b : Bool) → concerns t l.at.node l.entry ≡ b → Was (if b then l ∷ P else P) (Target t) (Client c) m
        → (Was P (Target t) (Client c) m → (lock : Lock) × AskedOf (l ∷ past) t lock cookie for_who xid) → (lock : Lock)
        × AskedOf (l ∷ past) t lock cookie for_who xid
    of_line false q w old = old w
    of_line true q w old = of_entry l.at.node l.entry (g.0.of t q) w
      where
        of_entry : (node : Node) (e : Entry) → EntryOf head P (turn l.at.stamp node) node e
            → Was (line (turn l.at.stamp node) e ∷ P) (Target t) (Client c) m → (lock : Lock) × AskedOf (l ∷ past) t lock cookie for_who xid
        of_entry (Target u) (Send (Client d) k) ok (inl same) = at_send same
          where
            at_send : ((Target u ≡ Target t) × (Client d ≡ Client c) × (k ≡ m)) → (lock : Lock)
                × AskedOf (l ∷ past) t lock cookie for_who xid
            at_send s =
                let to : d ≡ c = let e = s.1 in cc in
                now (subst (λ (v : ℕ). AskHolderOk head.osts P v who boot cookie for_who xid) to
                (subst (λ (x : Message). SendOf head P (Target u) (Client d) x) s.2 ok))
        of_entry (Target u) (Send (Target v) k) ok (inl same) = absurd (let e = same.1 in cc)
        of_entry (Client d) (Send to k) ok (inl same) = absurd (let e = same.0 in cc)
        of_entry node (Send to k) ok (inr w) = old w
        of_entry node e ok w = old w

-- ---- the laws find a lock by its cookie

-- as it stands in its last grant, or where it was restored: which gives the same lock
pub lock_found : (head : Head) (t : ℕ) (k : Lock) (past : List Line) → Grown head past
    → ((x : Lock) → Showed t past x → x.cookie.0 ≡ k.cookie.0 → x ≡ k) → Showed t past k
    → lock_with t k.cookie.0 (printed past) ≡ Some k
lock_found head t k [] g same shown = absurd shown
lock_found head t k (l ∷ past) g same shown = by l.at.node l.entry g.0 same shown
    (λ s. lock_found head t k past g.1 (λ x q. same x (showed_more t l past x q)) s)
  where
    Older : Type 0
    Older = Showed t past k → lock_with t k.cookie.0 (printed past) ≡ Some k

    rest : Option Lock
    rest = lock_with t k.cookie.0 (printed past)

    -- a line at that target tells of a lock: of this one, or of one of another cookie
    at_grant : (x : Lock) (hit own : Bool) → (hit ≡ true → own ≡ true → x ≡ k)
        → ((hit ≡ true → own ≡ true → ⊥) → lock_with t k.cookie.0 (printed past) ≡ Some k)
        → or_else (only_here (or_else (then_some hit x) None) own) (lock_with t k.cookie.0 (printed past)) ≡ Some k
    at_grant x true true is other = ap (λ (y : Lock). Some y) (is refl refl)
    at_grant x true false is other = other (λ a b. absurd (let q : false ≡ true = b in cc))
    at_grant x false own is other = other (λ a b. absurd (let q : false ≡ true = a in cc))

    at_restore : (x : Lock) (hit own : Bool) → (hit ≡ true → own ≡ true → x ≡ k)
        → ((hit ≡ true → own ≡ true → ⊥) → lock_with t k.cookie.0 (printed past) ≡ Some k)
        → or_else (only_here (then_some hit x) own) (lock_with t k.cookie.0 (printed past)) ≡ Some k
    at_restore x true true is other = ap (λ (y : Lock). Some y) (is refl refl)
    at_restore x true false is other = other (λ a b. absurd (let q : false ≡ true = b in cc))
    at_restore x false own is other = other (λ a b. absurd (let q : false ≡ true = a in cc))

    by : (node : Node) (e : Entry) → Allowed head past (turn l.at.stamp node) e
        → ((x : Lock) → Showed t (line (turn l.at.stamp node) e ∷ past) x → x.cookie.0 ≡ k.cookie.0 → x ≡ k)
        → Showed t (line (turn l.at.stamp node) e ∷ past) k → Older
        → lock_with t k.cookie.0 (printed (line (turn l.at.stamp node) e ∷ past)) ≡ Some k
    by node (Grant lock asked) ok same shown old =
        at_grant lock (lock.cookie.0 == k.cookie.0) (is_target t node)
        (λ hit own. same lock (inl (target_is t node own, refl)) (eqb-true lock.cookie.0 k.cookie.0 hit))
        (λ none. ⊎_elim
        (λ (q : (node ≡ Target t) × (lock ≡ k)). absurd (none (rw q.1 (self k.cookie.0)) (ap (is_target t) q.0 ∙ self t)))
        (λ (q : Showed t past k). old q)
        shown)
    by (Target u) (Restore lock) ok same shown old =
        at_restore lock (lock.cookie.0 == k.cookie.0) (is_target t (Target u))
        (λ hit own.
        let there : Target u ≡ Target t = target_is t (Target u) own in
        let u_is : u ≡ t = cc in
        same lock (subst (λ (v : ℕ). Showed v past lock) u_is (restored_showed head past l.at.stamp u lock ok g.1))
        (eqb-true lock.cookie.0 k.cookie.0 hit))
        (λ none. old shown)
    by (Client c) (Restore lock) ok same shown old = absurd ok.ok
    by node e ok same shown old = old shown
