-- What a reply brings: no answer about names grants a lock of an object, and what comes from what the target did.
use Rattle.std.proofs.Common.{◌≡◌, ℕ, ◌≤◌, Bool, true, false, List, [], ◌∷◌, ◌⊎◌, inl, inr, ⊎_elim, refl, sym, ap}
use Rattle.std.specs.Prelude.{nat_eq, nat_lt, if◌then◌else◌}
use Rattle.lu_base.specs.declared.ids.Txn.{Txn as TxnOf}
use Rattle.lu_base.specs.declared.ids.Who.{Who}
use Rattle.lu_base.specs.declared.locks.Lock.{Lock}
use Rattle.lu_msg.specs.declared.answers.Answer.{Answer}
use Rattle.lu_msg.specs.declared.answers.Answer.TheVariants as told
use Rattle.lu_msg.specs.declared.messages.GrantNotice.{GrantNotice}
use Rattle.lu_msg.specs.declared.messages.Reply.{Reply as ReplyTo}
use Rattle.lu_msg.specs.declared.operations.Op.{Op}
use Rattle.lu_msg.specs.declared.operations.Op.TheVariants as op
use Rattle.lu_spec_machine.specs.Fits.{answer_fits}
use Rattle.lu_spec_machine.specs.Footprint.{answer}
use Rattle.lu_spec_machine.specs.Tree.{Tree}
use Rattle.lu_spec_machine.proofs.Fits.{answers_fit}
use Rattle.lu_spec_entries.specs.Words.{Entry}
use Rattle.lu_spec_client.specs.Caches.{granted_lock}
use Rattle.lu_spec_client.specs.Imports.{Replay, with_replay}
use Rattle.lu_spec_target.specs.Queues.{extent_of}
use Rattle.lu_proof_lawful.specs.Covered.TargetCloses.{but_first}
use Rattle.lu_proof_lawful.proofs.Preconditions.Guards.{In}
use Rattle.lu_proof_lawful.proofs.Preconditions.Acts.{IsBits}

-- ---- no answer about names grants a lock of an object, lets its asker wait for one, or leaves its size to one

abbrev pub Ungranted : Answer → Type 0
Ungranted (told.Granted cookie extent size) = ⊥
Ungranted (told.Waiting cookie) = ⊥
Ungranted told.Lock = ⊥
Ungranted _ = Unit {0}

pub none_granted : (o : Op) (r : ReplyTo) (a : Answer) → Ungranted a → granted_lock o r a ≡ []
none_granted (op.Enqueue resource mode extent) r (told.Granted cookie size k) u = absurd u
none_granted o r a u = refl

abbrev IsOther : Op → Type 0
IsOther (op.Enqueue resource mode extent) = ⊥
IsOther (op.Size resource) = ⊥
IsOther _ = Unit {0}

fits_ungranted : (o : Op) (a : Answer) → IsOther o → answer_fits o a ≡ true → Ungranted a
fits_ungranted (op.Enqueue resource mode extent) a other fits = absurd other
fits_ungranted (op.Size resource) a other fits = absurd other
fits_ungranted o (told.Granted cookie extent size) other fits = absurd (cc)
fits_ungranted o (told.Waiting cookie) other fits = absurd (cc)
fits_ungranted o told.Lock other fits = absurd (cc)
fits_ungranted o a other fits = tt

pub ungranted : (osts : ℕ) (t : Tree) (number : TxnOf) (who : Who) (o : Op)
    → Ungranted (answer osts t (record { number = number; who = who; op = o }))
ungranted osts t number who (op.Enqueue resource mode extent) = tt
ungranted osts t number who (op.Size resource) = tt
ungranted osts t number who o = fits_ungranted o (answer osts t (record { number = number; who = who; op = o })) tt
    (answers_fit osts t (record { number = number; who = who; op = o }))

-- one that is granted is of the life that is told
pub granted_who : (o : Op) (r : ReplyTo) (a : Answer) (l : Lock) → In l (granted_lock o r a) → l.ask.who ≡ r.who
granted_who (op.Enqueue resource mode extent) r (told.Granted cookie size k) l (inl e) = ap (λ (x : Lock). x.ask.who) (sym e)
granted_who (op.Enqueue resource mode extent) r (told.Granted cookie size k) l (inr i) = absurd i
granted_who o r a l i = absurd i

-- ---- a reply that comes from what the target did: of numbers up to n, with locks on names that G has; what answer to which request of a
-- life grants a lock of an object, lets it wait for one, or says to take one, T says

abbrev pub Fine : (n : ℕ) (G : Lock → Type 0) (T : Who → ℕ → Answer → Type 0) → ReplyTo → Type 0
Fine n G T k =
    record {
      number : k.txn.0 ≤ n;
      locks : (l : Lock) → In l k.locks → G l × (l.ask.who ≡ k.who) × IsBits l.ask.policy;
      answer : Ungranted k.answer ⊎ T k.who k.xid.0 k.answer;
    }

-- what a target tells of a lock that had waited is of one that G has
abbrev pub Noticed : (G : Lock → Type 0) → GrantNotice → Type 0
Noticed G g = (l : Lock) × G l × (g.who ≡ l.ask.who) × (g.cookie ≡ l.cookie) × (g.extent ≡ extent_of l)

pub in_but : (e : Entry) (es : List Entry) → In e (but_first es) → In e es
in_but e [] i = i
in_but e (x ∷ es) i = inr i

pub in_with_replay : (r q : Replay) (rs : List Replay) → In q (with_replay r rs) → (r ≡ q) ⊎ In q rs
in_with_replay r q [] i = i
in_with_replay r q (x ∷ rs) i = by (nat_lt x.txn.0 r.txn.0) (nat_eq x.txn.0 r.txn.0) i (in_with_replay r q rs)
  where
    by : (below same : Bool) → In q (if below then x ∷ with_replay r rs else if same then r ∷ rs else r ∷ x ∷ rs)
        → (In q (with_replay r rs) → (r ≡ q) ⊎ In q rs) → (r ≡ q) ⊎ In q (x ∷ rs)
    by true same (inl e) more = inr (inl e)
    by true same (inr j) more = ⊎_elim (λ (e : r ≡ q). inl e) (λ (k : In q rs). inr (inr k)) (more j)
    by false true (inl e) more = inl e
    by false true (inr j) more = inr (inr j)
    by false false i more = i
