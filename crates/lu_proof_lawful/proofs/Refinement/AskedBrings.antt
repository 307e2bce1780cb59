-- What a client has asked, as a reply is heard, a lock comes or goes, and a new boot is heard of: of locks that it awaits.
use Rattle.std.proofs.Common.{◌≡◌, ℕ, Bool, true, false, List, Option, Some, None, refl, subst}
use Rattle.std.specs.Prelude.{if◌then◌else◌}
use Rattle.lu_base.specs.declared.locks.Extent.{Extent}
use Rattle.lu_base.specs.declared.locks.Mode.{Mode}
use Rattle.lu_base.specs.declared.locks.Resource.{Resource}
use Rattle.lu_msg.specs.declared.answers.Answer.{Answer as TableAnswer}
use Rattle.lu_msg.specs.declared.answers.Answer.TheVariants as told
use Rattle.lu_msg.specs.declared.messages.Reply.{Reply as ReplyTo}
use Rattle.lu_msg.specs.declared.operations.Op.{Op}
use Rattle.lu_msg.specs.declared.operations.Op.TheVariants as op
use Rattle.lu_proof_bytes.specs.Object.Words as words
use Rattle.lu_proof_bytes.specs.Object.Words.{Lock, Entry}
use Rattle.lu_proof_bytes.specs.Object.Folds.{brings}
use Rattle.lu_proof_lawful.specs.Covered.ClientStates.{brings_cookie}
use Rattle.lu_proof_objects.specs.Points.{is_write, last_of}
use Rattle.lu_proof_lawful.specs.Projection.Locks.{given}
use Rattle.lu_proof_lawful.specs.Projection.Requests.{op_of, op_on, get_under, answer_by, answer_of}
use Rattle.lu_proof_lawful.specs.Projection.Messages.{request_as}
use Rattle.lu_held.specs.Locks.{same_resource}

op_was : (r q : Resource) (x y : words.Op) → op_on r q x ≡ Some y → x ≡ y
op_was r q x y e = by (same_resource q r) e
  where
    by : (b : Bool) → ◌≡◌ {A = Option words.Op} (if b then Some x else None) (Some y) → x ≡ y
    by true f = cc
    by false f = absurd (cc)

-- what is no lock brings none
abbrev NoLock : words.Op → Type 0
NoLock (words.Enqueue write first last) = ⊥
NoLock _ = Unit {0}

no_brings : (w : ℕ) (p : ReplyTo) (y : words.Op) (a : TableAnswer) (j : ℕ) → NoLock y → brings (answer_by w p y a) j ≡ false
no_brings w p (words.Enqueue write first last) a j n = absurd n
no_brings w p (words.Get k at count) (told.Content bytes) j n = refl
no_brings w p (words.Get k at count) a j n = refl
no_brings w p (words.Flush k change) told.Done j n = refl
no_brings w p (words.Flush k change) a j n = refl
no_brings w p words.Size (told.Size size) j n = refl
no_brings w p words.Size told.Lock j n = refl
no_brings w p words.Size a j n = refl

get_none : (k page : ℕ) (l : Option Lock) → NoLock (get_under k page l)
get_none k page None = tt
get_none k page (Some l) = tt

asked_brings : (w : ℕ) (write : Bool) (first : ℕ) (last : Option ℕ) (q : Resource) (mode : Mode) (extent : Extent) (p : ReplyTo)
    (a : TableAnswer) (j : ℕ)
    → brings (answer_by w p (words.Enqueue write first last) a) j ≡ brings_cookie (op.Enqueue q mode extent) a j
asked_brings w write first last q mode extent p (told.Granted cookie given size) j = refl
asked_brings w write first last q mode extent p (told.Waiting cookie) j = refl
asked_brings w write first last q mode extent p a j = refl

-- an answer brings in the story what it brings in the table
pub brings_same : (r : Resource) (h : List Entry) (o : Op) (x : words.Op) (w xid : ℕ) (p : ReplyTo) (j : ℕ) → op_of r h o ≡ Some x
    → brings (answer_of (request_as w xid x) p) j ≡ brings_cookie o p.answer j
brings_same r h (op.Enqueue q mode extent) x w xid p j e =
    subst (λ (y : words.Op). brings (answer_by w p y p.answer) j ≡ brings_cookie (op.Enqueue q mode extent) p.answer j) (op_was r q _ x e)
    (asked_brings w (is_write mode) extent.first (last_of extent.last) q mode extent p p.answer j)
brings_same r h (op.Get q cookie page) x w xid p j e = no_brings w p x p.answer j
    (subst NoLock (op_was r q (get_under cookie.0 page (given cookie.0 h)) x e) (get_none cookie.0 page (given cookie.0 h)))
brings_same r h (op.Put q cookie at bytes) x w xid p j e = no_brings w p x p.answer j (subst NoLock (op_was r q _ x e) tt)
brings_same r h (op.Cut q cookie n) x w xid p j e = no_brings w p x p.answer j (subst NoLock (op_was r q _ x e) tt)
brings_same r h (op.Size q) x w xid p j e = no_brings w p x p.answer j (subst NoLock (op_was r q _ x e) tt)
brings_same r h o x w xid p j e = absurd (cc)
