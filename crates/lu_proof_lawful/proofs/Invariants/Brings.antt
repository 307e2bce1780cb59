-- Which locks what is done brings, and which it names: an operation on names those of its reply; who asks for a lock gets that, or is told
-- to wait for
-- it; and anything else none.
use Rattle.std.proofs.Common.{◌≡◌, ℕ, false, List, [], ◌∷◌, inl, inr, refl, sym, subst, ap, ◌∙◌}
use Rattle.std.specs.Prelude.{◌++◌, ◌==◌}
use Rattle.lu_base.specs.declared.ids.At.{At}
use Rattle.lu_base.specs.declared.ids.Txn.{Txn as TxnOf}
use Rattle.lu_base.specs.declared.ids.Who.{Who}
use Rattle.lu_base.specs.declared.locks.Lock.{Lock}
use Rattle.lu_msg.specs.declared.answers.Answer.{Answer}
use Rattle.lu_msg.specs.declared.answers.Answer.TheVariants as told
use Rattle.lu_msg.specs.declared.messages.Reply.{Reply as ReplyTo}
use Rattle.lu_msg.specs.declared.operations.Op.{Op}
use Rattle.lu_msg.specs.declared.operations.Op.TheVariants as op
use Rattle.lu_spec_machine.specs.Tree.{Tree}
use Rattle.lu_spec_machine.specs.Footprint.{answer}
use Rattle.lu_spec_entries.specs.Carried.{Deed}
use Rattle.lu_spec_entries.specs.Words.{Line}
use Rattle.lu_spec_target.specs.Queues.{extent_of}
use Rattle.lu_spec_target.specs.Replies.{locks_on}
use Rattle.lu_spec_client.specs.Caches.{granted_lock, brought}
use Rattle.lu_proof_lawful.specs.Covered.ClientStates.{brings_cookie}
use Rattle.lu_proof_lawful.specs.Covered.TargetStates.{none, server_of, next_number}
use Rattle.lu_proof_lawful.specs.Covered.Deeds.{size_at, told_on, deed, locks_of, lock_asked, grown_by}
use Rattle.lu_proof_lawful.proofs.Preconditions.Acts.{IsNoGrant, responded, range_op, range_answer, wait_op, wait_answer, wait_bare}
use Rattle.lu_proof_lawful.proofs.Preconditions.Acts.{sized_answer, sized_bare}
use Rattle.lu_proof_lawful.proofs.Preconditions.Guards.{In}
use Rattle.lu_proof_lawful.proofs.Preconditions.Lists.{in_left}
use Rattle.lu_proof_lawful.proofs.Preconditions.StoryGuards.{ActsOk, TxnOk, TxnsOk, RangeOk, WaitOk, AnswersOk}
use Rattle.lu_proof_lawful.proofs.Invariants.TargetGroups.{tells_wait}
use Rattle.lu_proof_lawful.proofs.Invariants.ObjectDeeds.{write_op, write_brings, write_plain}

-- ---- answers that neither grant a lock nor let it wait

pub plain_lock : (o : Op) (r : ReplyTo) (a : Answer) → IsNoGrant a → granted_lock o r a ≡ []
plain_lock (op.Enqueue resource mode extent) r (told.Granted cookie given size) n = absurd n
plain_lock (op.Enqueue resource mode extent) r a n = refl
plain_lock o r a n = refl

pub plain_cookie : (o : Op) (a : Answer) (k : ℕ) → IsNoGrant a → brings_cookie o a k ≡ false
plain_cookie (op.Enqueue resource mode extent) (told.Granted cookie given size) k n = absurd n
plain_cookie (op.Enqueue resource mode extent) (told.Waiting cookie) k n = absurd n
plain_cookie (op.Enqueue resource mode extent) a k n = refl
plain_cookie o a k n = refl

-- the metadata target grants no lock of an object
pub no_lock : (osts : ℕ) (t : Tree) (number : TxnOf) (who : Who) (o : Op) (r : ReplyTo)
    → granted_lock o r (answer osts t (record { number = number; who = who; op = o })) ≡ []
no_lock osts t number who (op.Enqueue resource mode extent) r = refl
no_lock osts t number who o r = refl

pub no_cookie : (osts : ℕ) (t : Tree) (number : TxnOf) (who : Who) (o : Op) (k : ℕ)
    → brings_cookie o (answer osts t (record { number = number; who = who; op = o })) k ≡ false
no_cookie osts t number who (op.Enqueue resource mode extent) k = refl
no_cookie osts t number who o k = refl

pub alone : (ls more : List Lock) → more ≡ [] → ls ++ more ≡ ls
alone [] more e = e
alone (l ∷ ls) more e = ap (λ (ks : List Lock). l ∷ ks) (alone ls more e)

-- a reply without locks of its own, of a plain answer, brings none
pub brings_none : (o : Op) (r : ReplyTo) (a : Answer) → r.locks ≡ [] → r.answer ≡ a → IsNoGrant a → brought o r ≡ []
brings_none o r a e q n = alone r.locks (granted_lock o r r.answer) (ap (granted_lock o r) q ∙ plain_lock o r a n) ∙ e

-- ---- so what an act brings are the locks of its reply

pub act_brings : (osts : ℕ) (past : List Line) (at : At) (t : ℕ) (d : Deed) → ActsOk osts past at t d → brought d.op d.reply ≡ d.reply.locks
act_brings osts past at t d (inr a) = brings_none d.op d.reply (told.Size (size_at (server_of osts past) a.1.resource))
    (sized_bare osts past at d a.1) (sized_answer osts past at d a.1) tt ∙ sym (sized_bare osts past at d a.1)
act_brings osts past at t d (inl a) =
    let v = server_of osts past in
    let r = a.1.request in
    let locks = locks_of osts v r in
    let reply = (deed osts v at r none locks).reply in
    subst (λ (e : Deed). brought e.op e.reply ≡ e.reply.locks) (sym a.1.is)
    (alone locks (granted_lock r.op reply reply.answer) (no_lock osts v.tree none r.who r.op reply))

pub act_plain : (osts : ℕ) (past : List Line) (at : At) (t : ℕ) (d : Deed) (k : ℕ) → ActsOk osts past at t d
    → brings_cookie d.op d.reply.answer k ≡ false
act_plain osts past at t d k (inr a) = ap (λ (x : Answer). brings_cookie d.op x k) (sized_answer osts past at d a.1)
    ∙ plain_cookie d.op (told.Size (size_at (server_of osts past) a.1.resource)) k tt
act_plain osts past at t d k (inl a) =
    let v = server_of osts past in
    let r = a.1.request in
    subst (λ (e : Deed). brings_cookie e.op e.reply.answer k ≡ false) (sym a.1.is) (no_cookie osts v.tree none r.who r.op k)

-- ---- a transaction brings none

pub txn_brings : (osts : ℕ) (past : List Line) (at : At) (d : Deed) → TxnOk osts past at d → brought d.op d.reply ≡ []
txn_brings osts past at d ok =
    let v = server_of osts past in
    let r = ok.request in
    let reply = (deed osts v at r (next_number v) []).reply in
    subst (λ (e : Deed). brought e.op e.reply ≡ []) (sym ok.is) (no_lock osts v.tree (next_number v) r.who r.op reply)

pub txn_plain : (osts : ℕ) (past : List Line) (at : At) (d : Deed) (k : ℕ) → TxnOk osts past at d → brings_cookie d.op d.reply.answer k
    ≡ false
txn_plain osts past at d k ok =
    let v = server_of osts past in
    let r = ok.request in
    subst (λ (e : Deed). brings_cookie e.op e.reply.answer k ≡ false) (sym ok.is) (no_cookie osts v.tree (next_number v) r.who r.op k)

pub txns_brings : (osts : ℕ) (past : List Line) (at : At) (t : ℕ) (d : Deed) → TxnsOk osts past at t d → brought d.op d.reply ≡ []
txns_brings osts past at t d (inl ok) = txn_brings osts past at d ok.1
txns_brings osts past at t d (inr ok) = write_brings d.op d.reply (write_op osts past at d ok.1) (ap (λ (e : Deed). e.reply.locks) ok.1.is)

pub txns_plain : (osts : ℕ) (past : List Line) (at : At) (t : ℕ) (d : Deed) (k : ℕ) → TxnsOk osts past at t d
    → brings_cookie d.op d.reply.answer k ≡ false
txns_plain osts past at t d k (inl ok) = txn_plain osts past at d k ok.1
txns_plain osts past at t d k (inr ok) = write_plain d.op d.reply.answer k (write_op osts past at d ok.1)

-- ---- nor does what is answered without a printed line

pub answers_brings : (osts : ℕ) (past : List Line) (at : At) (t : ℕ) (d : Deed) → AnswersOk osts past at t d → brought d.op d.reply ≡ []
answers_brings osts past at t d ok = let k = responded osts past at t d ok
    in brings_none d.op d.reply k.answer (ap (λ (e : Deed). e.reply.locks) k.is) (ap (λ (e : Deed). e.reply.answer) k.is) k.no_grant

pub answers_plain : (osts : ℕ) (past : List Line) (at : At) (t : ℕ) (d : Deed) (k : ℕ) → AnswersOk osts past at t d
    → brings_cookie d.op d.reply.answer k ≡ false
answers_plain osts past at t d k ok = let r = responded osts past at t d ok
    in ap (λ (a : Answer). brings_cookie d.op a k) (ap (λ (e : Deed). e.reply.answer) r.is) ∙ plain_cookie d.op r.answer k r.no_grant

-- ---- who asks for a lock gets that one

pub range_brings : (osts : ℕ) (past : List Line) (at : At) (lock : Lock) (d : Deed) → RangeOk osts past at lock d → brought d.op d.reply
    ≡ lock ∷ []
range_brings osts past at lock d ok =
    let v = server_of osts past in
    let r = ok.request in
    let k = grown_by v (locks_on ok.resource v.queued) (lock_asked v r ok.resource ok.mode ok.extent) in
    let reply = (told_on v at r none [] (told.Granted k.cookie (extent_of k) (size_at v ok.resource))).reply in
    ap (λ (e : Deed). brought e.op e.reply) (ok.is ∙ ap (λ (l : Lock). told_on v at r none []
    (told.Granted l.cookie (extent_of l) (size_at v ok.resource))) ok.of_lock)
    ∙ ap (λ (o : Op). granted_lock o reply reply.answer) ok.of_op ∙ ap (λ (l : Lock). l ∷ []) (sym ok.of_lock)

pub range_names : (osts : ℕ) (past : List Line) (at : At) (lock : Lock) (d : Deed) (k : ℕ) → RangeOk osts past at lock d
    → brings_cookie d.op d.reply.answer k ≡ (lock.cookie.0 == k)
range_names osts past at lock d k ok = ap (λ (o : Op). brings_cookie o d.reply.answer k) (range_op osts past at lock d ok)
    ∙ ap (λ (a : Answer). brings_cookie (op.Enqueue ok.resource ok.mode ok.extent) a k) (range_answer osts past at lock d ok)

pub range_tells : (osts : ℕ) (past : List Line) (at : At) (lock : Lock) (d : Deed) (k : ℕ) → RangeOk osts past at lock d
    → tells_wait d.op d.reply.answer k ≡ false
range_tells osts past at lock d k ok = ap (λ (o : Op). tells_wait o d.reply.answer k) (range_op osts past at lock d ok)
    ∙ ap (λ (a : Answer). tells_wait (op.Enqueue ok.resource ok.mode ok.extent) a k) (range_answer osts past at lock d ok)

-- ---- or waits, and gets none yet

pub wait_brings : (osts : ℕ) (past : List Line) (at : At) (lock : Lock) (d : Deed) → WaitOk osts past at lock d → brought d.op d.reply ≡ []
wait_brings osts past at lock d ok =
    alone d.reply.locks (granted_lock d.op d.reply d.reply.answer)
    (ap (λ (o : Op). granted_lock o d.reply d.reply.answer) (wait_op osts past at lock d ok)
    ∙ ap (λ (a : Answer). granted_lock (op.Enqueue ok.resource ok.mode ok.extent) d.reply a) (wait_answer osts past at lock d ok))
    ∙ wait_bare osts past at lock d ok

pub wait_tells : (osts : ℕ) (past : List Line) (at : At) (lock : Lock) (d : Deed) (k : ℕ) → WaitOk osts past at lock d
    → tells_wait d.op d.reply.answer k ≡ (lock.cookie.0 == k)
wait_tells osts past at lock d k ok = ap (λ (o : Op). tells_wait o d.reply.answer k) (wait_op osts past at lock d ok)
    ∙ ap (λ (a : Answer). tells_wait (op.Enqueue ok.resource ok.mode ok.extent) a k) (wait_answer osts past at lock d ok)

pub wait_names : (osts : ℕ) (past : List Line) (at : At) (lock : Lock) (d : Deed) (k : ℕ) → WaitOk osts past at lock d
    → brings_cookie d.op d.reply.answer k ≡ (lock.cookie.0 == k)
wait_names osts past at lock d k ok = ap (λ (o : Op). brings_cookie o d.reply.answer k) (wait_op osts past at lock d ok)
    ∙ ap (λ (a : Answer). brings_cookie (op.Enqueue ok.resource ok.mode ok.extent) a k) (wait_answer osts past at lock d ok)

-- ---- the locks of a reply are among those that it brings

pub of_reply : (o : Op) (r : ReplyTo) (l : Lock) → In l r.locks → In l (brought o r)
of_reply o r l i = in_left l r.locks (granted_lock o r r.answer) i

pub none_of_reply : (o : Op) (r : ReplyTo) → brought o r ≡ [] → r.locks ≡ []
none_of_reply o r e = by r.locks e
  where
    by : (ls : List Lock) → ls ++ granted_lock o r r.answer ≡ [] → ls ≡ []
    by [] q = refl
    by (l ∷ ls) q = absurd (cc)
