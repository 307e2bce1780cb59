-- Of which kind the locks of a target are, granted, brought back or held by clients: on names at the metadata target, on ranges of bytes at
-- another one. So at the former no answer grants one or lets it wait, and at the latter none comes beside the answer.
use Rattle.std.proofs.Common.{◌≡◌, ℕ, ◌<◌, Bool, true, false, List, [], ◌∷◌, Some, None, ◌⊎◌, inl, inr, refl, sym, subst, ◌∙◌, arith}
use Rattle.std.specs.Prelude.{if◌then◌else◌}
use Rattle.std.proofs.lemmas.Bool.{eqb-true}
use Rattle.lu_base.specs.declared.ids.Node.{Node}
use Rattle.lu_base.specs.declared.ids.Node.TheVariants.{Client, Target}
use Rattle.lu_base.specs.declared.locks.Lock.{Lock}
use Rattle.lu_msg.specs.declared.messages.Message.TheVariants as message
use Rattle.lu_msg.specs.declared.messages.Reply.{Reply as ReplyTo}
use Rattle.lu_held.specs.declared.locks.HeldLock.{HeldLock}
use Rattle.lu_spec_entries.specs.Carried.{Deed}
use Rattle.lu_spec_entries.specs.Words.{Entry, Act, Grant, Wait, Answers, Line, line}
use Rattle.lu_spec_entries.specs.Concerns.{concerns, only}
use Rattle.lu_spec_client.specs.Caches.{held_at}
use Rattle.lu_proof_lawful.specs.Covered.Heads.{Head}
use Rattle.lu_proof_lawful.specs.Covered.TargetStates.{server_of, brought_of}
use Rattle.lu_proof_lawful.proofs.Preconditions.Guards.{In, Was}
use Rattle.lu_proof_lawful.proofs.Preconditions.StoryGuards.{ActsOk, EntryOf}
use Rattle.lu_proof_lawful.proofs.Preconditions.Acts.{acted, sized_bare, RangeLock, KindOf, kind_names, kind_ranges, bits_range, from_names}
use Rattle.lu_proof_lawful.proofs.Preconditions.Acts.{range_kind}
use Rattle.lu_proof_lawful.proofs.Preconditions.Grown.{Grown}
use Rattle.lu_proof_lawful.proofs.Preconditions.Only.{grown_of}
use Rattle.lu_proof_lawful.proofs.Preconditions.Lists.{turn, empty_list}
use Rattle.lu_proof_lawful.proofs.Preconditions.LockLists.{in_put}
use Rattle.lu_proof_lawful.proofs.Preconditions.NamesGrant.{Ungranted}
use Rattle.lu_proof_lawful.proofs.Preconditions.Given.{Gave, Waited, Answered, Grants, Given, promoted_is}
use Rattle.lu_proof_lawful.proofs.Preconditions.Sound.{sound_of}

pub given_of : (head : Head) (t : ℕ) (past : List Line) → Grown head past → Given head (only t past)
given_of head t past g = (sound_of head (only t past) (grown_of head t past g)).given

pub gave_kind : (head : Head) (t : ℕ) (past : List Line) → Grown head past → (l : Lock) → Gave (only t past) l → KindOf t l
gave_kind head t [] g l k = absurd k
gave_kind head t (x ∷ past) g l k = by (concerns t x.at.node x.entry) refl k (gave_kind head t past g.1 l)
  where
    P : List Line
    P = only t past

    act : (u : ℕ) (d : Deed) → t ≡ u → ActsOk head.osts P (turn x.at.stamp (Target u)) u d → In l d.reply.locks → KindOf t l
    act u d same (inl ok) i =
        let a = acted head.osts P (turn x.at.stamp (Target u)) u d (inl ok) in
        inl (same ∙ ok.0, from_names _ _ _ l (subst (λ (ls : List Lock). In l ls) a.locks i))
    act u d same (inr ok) i = absurd (subst (λ (ls : List Lock). In l ls) (sized_bare head.osts P (turn x.at.stamp (Target u)) d ok.1) i)

    of_line : (node : Node) (e : Entry) → concerns t node e ≡ true → EntryOf head P (turn x.at.stamp node) node e
        → Gave (line (turn x.at.stamp node) e ∷ P) l → (Gave P l → KindOf t l) → KindOf t l
    of_line (Target u) (Act d) q ok (inl i) more = act u d (eqb-true t u q) ok i
    of_line (Target u) (Act d) q ok (inr k) more = more k
    of_line (Target u) (Grant lock None) q ok (inr k) more = more k
    of_line (Target u) (Grant lock None) q ok (inl e) more =
        inr (
          subst (λ (n : ℕ). 0 < n) (sym (eqb-true t u q)) ok.0,
          subst RangeLock e (promoted_is head P (given_of head t past g.1) lock ok.1).range,
        )
    of_line (Target u) (Grant lock (Some d)) q ok (inr k) more = more k
    of_line (Target u) (Grant lock (Some d)) q (inl ok) (inl e) more =
        more (subst (Gave P) e ((given_of head t past g.1).has.granted lock
        (subst (λ (ls : List Lock). In lock ls) ok.1.granted (in_put lock (server_of head.osts P).granted))))
    of_line (Target u) (Grant lock (Some d)) q (inr ok) (inl e) more =
        inr (
          subst (λ (n : ℕ). 0 < n) (sym (eqb-true t u q)) ok.0,
          subst RangeLock e (range_kind head.osts P (turn x.at.stamp (Target u)) lock d ok.1),
        )
    of_line (Client c) (Act d) q ok k more = absurd ok
    of_line (Client c) (Grant lock asked) q ok k more = absurd ok
    of_line node e q ok k more = more k

    by : (b : Bool) → concerns t x.at.node x.entry ≡ b → Gave (if b then x ∷ P else P) l → (Gave P l → KindOf t l) → KindOf t l
    by true q k more = of_line x.at.node x.entry q (g.0.of t q) k more
    by false q k more = more k

pub granted_kind : (head : Head) (t : ℕ) (past : List Line) → Grown head past → (l : Lock)
    → In l (server_of head.osts (only t past)).granted → KindOf t l
granted_kind head t past g l i = gave_kind head t past g l ((given_of head t past g).has.granted l i)

pub brought_kind : (head : Head) (t : ℕ) (past : List Line) → Grown head past → (l : Lock) → In l (brought_of (only t past)) → KindOf t l
brought_kind head t past g l i = gave_kind head t past g l ((given_of head t past g).has.brought l i)

pub held_kind : (head : Head) (t : ℕ) (past : List Line) → Grown head past → (c : ℕ) (h : HeldLock) → In h (held_at c (only t past))
    → KindOf t h.lock
held_kind head t past g c h i = gave_kind head t past g h.lock ((given_of head t past g).has.held c h i).0

-- ---- what is told

pub reply_bare : (head : Head) (t : ℕ) (past : List Line) → Grown head past → 0 < t → (from to : Node) (k : ReplyTo)
    → Was (only t past) from to (message.Reply k) → k.locks ≡ []
reply_bare head t past g high from to k was =
    empty_list k.locks (λ l i.
    let f = ((given_of head t past g).has.sent from to k was).locks l i in
    bits_range l.ask.policy f.2 (kind_ranges t l high (gave_kind head t past g l f.0)))

pub reply_grants : (head : Head) (t : ℕ) (past : List Line) → Grown head past → (from to : Node) (k : ReplyTo)
    → Was (only t past) from to (message.Reply k) → Ungranted k.answer ⊎ Grants (only t past) k.who k.xid.0 k.answer
reply_grants head t past g from to k was = ((given_of head t past g).has.sent from to k was).answer

-- another target alone lets locks wait, and answers without a printed line
waited_high : (head : Head) (t : ℕ) (past : List Line) → Grown head past → (l : Lock) → Waited (only t past) l → 0 < t
waited_high head t [] g l k = absurd k
waited_high head t (x ∷ past) g l k = by (concerns t x.at.node x.entry) refl k (waited_high head t past g.1 l)
  where
    P : List Line
    P = only t past

    of_line : (node : Node) (e : Entry) → concerns t node e ≡ true → EntryOf head P (turn x.at.stamp node) node e
        → Waited (line (turn x.at.stamp node) e ∷ P) l → (Waited P l → 0 < t) → 0 < t
    of_line (Target u) (Wait lock d) q ok k more = subst (λ (n : ℕ). 0 < n) (sym (eqb-true t u q)) ok.0
    of_line (Client c) (Wait lock d) q ok k more = absurd ok
    of_line node e q ok k more = more k

    by : (b : Bool) → concerns t x.at.node x.entry ≡ b → Waited (if b then x ∷ P else P) l → (Waited P l → 0 < t) → 0 < t
    by true q k more = of_line x.at.node x.entry q (g.0.of t q) k more
    by false q k more = more k

answered_high : (head : Head) (t : ℕ) (past : List Line) → Grown head past → Answered (only t past) → 0 < t
answered_high head t [] g k = absurd k
answered_high head t (x ∷ past) g k = by (concerns t x.at.node x.entry) refl k (answered_high head t past g.1)
  where
    P : List Line
    P = only t past

    of_line : (node : Node) (e : Entry) → concerns t node e ≡ true → EntryOf head P (turn x.at.stamp node) node e
        → Answered (line (turn x.at.stamp node) e ∷ P) → (Answered P → 0 < t) → 0 < t
    of_line (Target u) (Answers d) q ok k more = subst (λ (n : ℕ). 0 < n) (sym (eqb-true t u q)) ok.0
    of_line (Client c) (Answers d) q ok k more = absurd ok
    of_line node e q ok k more = more k

    by : (b : Bool) → concerns t x.at.node x.entry ≡ b → Answered (if b then x ∷ P else P) → (Answered P → 0 < t) → 0 < t
    by true q k more = of_line x.at.node x.entry q (g.0.of t q) k more
    by false q k more = more k

pub reply_names : (head : Head) (past : List Line) → Grown head past → (from to : Node) (k : ReplyTo)
    → Was (only 0 past) from to (message.Reply k) → Ungranted k.answer
reply_names head past g from to k was = by (reply_grants head 0 past g from to k was)
  where
    none : 0 < 0 → ⊥
    none lt = omega (arith, lt)

    by : Ungranted k.answer ⊎ Grants (only 0 past) k.who k.xid.0 k.answer → Ungranted k.answer
    by (inl u) = u
    by (inr (inl a)) = absurd (bits_range a.lock.ask.policy (kind_names a.lock (gave_kind head 0 past g a.lock a.gave)).1 a.kind)
    by (inr (inr (inl a))) = absurd (none (waited_high head 0 past g a.lock a.waited))
    by (inr (inr (inr a))) = absurd (none (answered_high head 0 past g a.1))
