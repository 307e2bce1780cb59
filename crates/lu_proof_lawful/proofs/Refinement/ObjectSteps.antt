-- What is lost of a log over an object, and what the rest of it leaves there: once a transaction is made, once the first of the log go to
-- the
-- disk, and at a close, which loses all that it doesn't do again.
use Rattle.std.proofs.Common.{◌≡◌, ℕ, ◌+◌, ◌≤◌, ◌<◌, Bool, true, false, List, [], ◌∷◌, ◌++◌, Option, Some, None, inl, inr, refl, sym, subst}
use Rattle.std.proofs.Common.{ap, ◌∙◌, arith}
use Rattle.std.specs.Prelude.{filter, if◌then◌else◌, ◌||◌, nat_lt, not, option_map}
use Rattle.std.proofs.lemmas.Bool.{lt-ltb, ltb-true, ltb-false}
use Rattle.lu_base.specs.declared.locks.Resource.{Resource}
use Rattle.lu_held.specs.Locks.{same_resource}
use Rattle.lu_spec_machine.specs.Objects.{Object, put_bytes, cut_bytes}
use Rattle.lu_spec_machine.specs.Places.{found_at}
use Rattle.lu_msg.specs.declared.operations.Op.{Op}
use Rattle.lu_msg.specs.declared.operations.Op.TheVariants as op
use Rattle.lu_spec_entries.specs.Carried.{Deed}
use Rattle.lu_proof_lawful.proofs.Preconditions.Guards.{In}
use Rattle.lu_proof_lawful.proofs.Preconditions.LifeLists.{filter_all}
use Rattle.lu_proof_lawful.proofs.Invariants.Groups.{DeedsRise}
use Rattle.lu_proof_bytes.specs.Object.Words as words
use Rattle.lu_proof_bytes.specs.Object.Words.{Write, Cut, Flush, Entry, Txn, Close}
use Rattle.lu_proof_bytes.specs.Object.Folds as says
use Rattle.lu_proof_bytes.specs.Object.Folds.{after_op, also}
use Rattle.lu_proof_objects.specs.Points.{is_write, last_of}
use Rattle.lu_proof_objects.proofs.Objects.{object_changed}
use Rattle.lu_proof_lawful.specs.Projection.Lives.{number_of}
use Rattle.lu_proof_lawful.specs.Projection.Locks.{given}
use Rattle.lu_proof_lawful.specs.Projection.Requests.{op_of, get_under}
use Rattle.lu_proof_lawful.specs.Projection.Messages.{request_as}
use Rattle.lu_proof_lawful.specs.Projection.Stories.{with_entry, served}
use Rattle.lu_proof_lawful.proofs.Refinement.Written.{after_one, written, ops_of, written_more}
use Rattle.lu_proof_lawful.proofs.Refinement.TiedObject.{Spares, left_of, Objects}

-- what an operation makes of a position, as the story says it
abbrev pub op_after : Option words.Op → ℕ → Option ℕ → Option ℕ
op_after None p x = x
op_after (Some o) p x = after_op o p x

pub one_after : (r : Resource) (h : List Entry) (o : Op) (object : Object) (p : ℕ) → found_at (after_one r o object) p
    ≡ op_after (op_of r h o) p (found_at object p)
one_after r h (op.Put q cookie offset bytes) object p = by (same_resource q r)
  where
    by : (b : Bool) → found_at (if b then put_bytes offset bytes object else object) p
        ≡ op_after (if b then Some (Flush cookie.0 (Write offset bytes)) else None) p (found_at object p)
    by true = (object_changed object p).put offset bytes
    by false = refl
one_after r h (op.Cut q cookie size) object p = by (same_resource q r)
  where
    by : (b : Bool) → found_at (if b then cut_bytes size object else object) p
        ≡ op_after (if b then Some (Flush cookie.0 (Cut size)) else None) p (found_at object p)
    by true = (object_changed object p).cut size
    by false = refl
one_after r h (op.Enqueue q mode extent) object p = by (same_resource q r)
  where
    by : (b : Bool) → found_at object p ≡ op_after (if b then Some (words.Enqueue (is_write mode) extent.first (last_of extent.last))
        else None) p (found_at object p)
    by true = refl
    by false = refl
one_after r h (op.Get q cookie page) object p = by (same_resource q r)
  where
    by : (b : Bool) → found_at object p ≡ op_after (if b then Some (get_under cookie.0 page (given cookie.0 h)) else None) p
        (found_at object p)
    by true = page_after (given cookie.0 h)
      where
        page_after : (l : Option words.Lock) → found_at object p ≡ after_op (get_under cookie.0 page l) p (found_at object p)
        page_after None = refl
        page_after (Some l) = refl
    by false = refl
one_after r h (op.Size q) object p = by (same_resource q r)
  where
    by : (b : Bool) → found_at object p ≡ op_after (if b then Some words.Size else None) p (found_at object p)
    by true = refl
    by false = refl
one_after r h (op.Lookup path) object p = refl
one_after r h (op.Stat path) object p = refl
one_after r h (op.List path) object p = refl
one_after r h (op.Layout path) object p = refl
one_after r h (op.Mkdir path) object p = refl
one_after r h (op.Create path size count) object p = refl
one_after r h (op.Link old new) object p = refl
one_after r h (op.Unlink path) object p = refl
one_after r h (op.Rmdir path) object p = refl
one_after r h (op.Rename old new) object p = refl
one_after r h (op.Chmod path mode) object p = refl
one_after r h (op.Open path) object p = refl
one_after r h (op.Close opened fid) object p = refl

module _ (r : Resource) (h : List Entry) where
  -- lines that change no object
  pub objects_same : (k : List Entry) (to new : ℕ) (log : List Deed) (object : Object)
      → ((lost : ℕ → Bool) (p : ℕ) → says.object lost k p ≡ says.object lost h p) → new ≡ to → Objects r h to log object
      → Objects r k new log object
  objects_same k to new log object same e o lost spares p = same lost p ∙ o lost (subst (λ (n : ℕ). Spares n lost) e spares) p

  -- ---- a transaction

  left_last : (lost : ℕ → Bool) (log : List Deed) (d : Deed) → left_of lost (log ++ d ∷ []) ≡ left_of lost log ++ left_of lost (d ∷ [])
  left_last lost [] d = refl
  left_last lost (e ∷ log) d = by (lost e.reply.txn.0) (left_last lost log d)
    where
      by : (b : Bool) → left_of lost (log ++ d ∷ []) ≡ left_of lost log ++ left_of lost (d ∷ [])
          → (if not b then e ∷ left_of lost (log ++ d ∷ []) else left_of lost (log ++ d ∷ []))
          ≡ (if not b then e ∷ left_of lost log else left_of lost log) ++ left_of lost (d ∷ [])
      by true ih = ih
      by false ih = ap (λ (x : List Deed). e ∷ x) ih

  ops_more : (xs ys : List Deed) → ops_of (xs ++ ys) ≡ ops_of xs ++ ops_of ys
  ops_more [] ys = refl
  ops_more (x ∷ xs) ys = ap (λ (os : List Op). x.op ∷ os) (ops_more xs ys)

  written_last : (lost : ℕ → Bool) (log : List Deed) (d : Deed) (object : Object) → written r (ops_of (left_of lost (log ++ d ∷ []))) object
      ≡ written r (ops_of (left_of lost (d ∷ []))) (written r (ops_of (left_of lost log)) object)
  written_last lost log d object =
      ap (λ (ds : List Deed). written r (ops_of ds) object) (left_last lost log d)
      ∙ ap (λ (os : List Op). written r os object) (ops_more (left_of lost log) (left_of lost (d ∷ [])))
      ∙ written_more r (ops_of (left_of lost log)) (ops_of (left_of lost (d ∷ []))) object

  pub objects_made : (to : ℕ) (log : List Deed) (object : Object) (d : Deed) → Objects r h to log object
      → Objects r (with_entry (served r d h (Txn d.reply.txn.0)) h) to (log ++ d ∷ []) object
  objects_made to log object d o lost spares p =
      by (lost d.reply.txn.0) (op_of r h d.op) refl refl
      ∙ sym (ap (λ (x : Object). found_at x p) (written_last lost log d object))
    where
      before : Object
      before = written r (ops_of (left_of lost log)) object

      entry : Option words.Op → Option Entry
      entry x = option_map (λ y. Txn d.reply.txn.0 (request_as (number_of d.reply.who) d.reply.xid.0 y)) x

      done_at : (x : Option words.Op) → op_of r h d.op ≡ x → found_at (after_one r d.op before) p ≡ op_after x p (found_at before p)
      done_at x f = one_after r h d.op before p ∙ ap (λ (z : Option words.Op). op_after z p (found_at before p)) f

      by : (b : Bool) (x : Option words.Op) → op_of r h d.op ≡ x → lost d.reply.txn.0 ≡ b → says.object lost (with_entry (entry x) h) p
          ≡ found_at (written r (ops_of (if not (lost d.reply.txn.0) then d ∷ [] else [])) before) p
      by true None f e = rw e (o lost spares p)
      by true (Some y) f e = rw e (o lost spares p)
      by false None f e = rw e (o lost spares p ∙ sym (done_at None f))
      by false (Some y) f e = rw e (ap (λ (v : Option ℕ). after_op y p v) (o lost spares p) ∙ sym (done_at (Some y) f))

  -- ---- the first of the log go to the disk

  abbrev pub under : ℕ → List Deed → List Deed
  under to log = filter (λ (d : Deed). not (nat_lt to d.reply.txn.0)) log

  abbrev pub above : ℕ → List Deed → List Deed
  above to log = filter (λ (d : Deed). nat_lt to d.reply.txn.0) log

  no_under : (to : ℕ) (log : List Deed) → ((d : Deed) → In d log → to < d.reply.txn.0) → under to log ≡ []
  no_under to [] h = refl
  no_under to (d ∷ log) h = rw (lt-ltb to d.reply.txn.0 (h d (inl refl))) (no_under to log (λ e i. h e (inr i)))

  all_above : (to : ℕ) (log : List Deed) → ((d : Deed) → In d log → to < d.reply.txn.0) → above to log ≡ log
  all_above to log h = filter_all (λ (d : Deed). nat_lt to d.reply.txn.0) log (λ d i. lt-ltb to d.reply.txn.0 (h d i))

  -- they come first
  split_left : (lost : ℕ → Bool) (to : ℕ) (log : List Deed) → DeedsRise log → Spares to lost → left_of lost log ≡ under to log
      ++ left_of lost (above to log)
  split_left lost to [] rise spares = refl
  split_left lost to (d ∷ log) rise spares = by (nat_lt to d.reply.txn.0) refl (split_left lost to log rise.1 spares)
    where
      by : (b : Bool) → nat_lt to d.reply.txn.0 ≡ b → left_of lost log ≡ under to log ++ left_of lost (above to log)
          → left_of lost (d ∷ log) ≡ (if not b then d ∷ under to log else under to log)
          ++ left_of lost (if b then d ∷ above to log else above to log)
      by true e ih =
          let lt = ltb-true to d.reply.txn.0 e in
          let more : (x : Deed) → In x log → to < x.reply.txn.0 = λ x i. (let le = rise.0 x i in omega arith) in
          sym (ap (λ (ds : List Deed). ds ++ left_of lost (d ∷ above to log)) (no_under to log more)
          ∙ ap (λ (ds : List Deed). left_of lost (d ∷ ds)) (all_above to log more))
      by false e ih = rw (spares d.reply.txn.0 (ltb-false to d.reply.txn.0 e)) (ap (λ (ds : List Deed). d ∷ ds) ih)

  pub objects_commit : (to new : ℕ) (log : List Deed) (object : Object) → to ≤ new → DeedsRise log → Objects r h to log object
      → Objects r h new (above new log) (written r (ops_of (under new log)) object)
  objects_commit to new log object le rise o lost spares p =
      o lost (λ n low. spares n (omega arith)) p
      ∙ ap (λ (x : Object). found_at x p)
      (ap (λ (ds : List Deed). written r (ops_of ds) object) (split_left lost new log rise spares)
      ∙ ap (λ (os : List Op). written r os object) (ops_more (under new log) (left_of lost (above new log)))
      ∙ written_more r (ops_of (under new log)) (ops_of (left_of lost (above new log))) object)

  -- ---- a close: what it loses beside, and what is left of the log is what it does again

  pub objects_close : (to new : ℕ) (log : List Deed) (object : Object) (b : ℕ) (loss gone : ℕ → Bool) (again : List Op) → to ≤ new
      → Spares to loss → ((lost : ℕ → Bool) → Spares new lost → ops_of (left_of (also lost loss) log) ≡ again) → Objects r h to log object
      → Objects r (Close b loss gone ∷ h) new [] (written r again object)
  objects_close to new log object b loss gone again le low same o lost spares p =
      o (also lost loss) (λ n under. both (lost n) (loss n) (spares n (omega arith)) (low n under)) p
      ∙ ap (λ (os : List Op). found_at (written r os object) p) (same lost spares)
    where
      both : (a c : Bool) → a ≡ false → c ≡ false → (a || c) ≡ false
      both false c e f = f
      both true c e f = absurd (cc)
