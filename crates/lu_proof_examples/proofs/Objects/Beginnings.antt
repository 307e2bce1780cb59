-- The beginnings that several stories share are allowed: the evidence entry by entry, the oldest first.
use Rattle.std.proofs.Common.{◌≡◌, inl, inr, ℕ, suc, ◌≤◌, Bool, true, false, List, [], ◌∷◌, Option, Some, None, refl, sym, subst, arith}
use Rattle.std.specs.Prelude.{zero, drop, length, nat_eq, if◌then◌else◌}
use Rattle.lu_spec_client.specs.Messages.{padded}
use Rattle.std.proofs.lemmas.Bool.Decides.{nat_tests}
use Rattle.lu_proof_bytes.specs.Object.Words.{Entry, covers, overlay, value}
use Rattle.lu_proof_bytes.specs.Object.Folds.{HeldBy, IsGranted, is_some, touched, pending, dirty}
use Rattle.lu_proof_bytes.specs.Object.Guards.{AllAllowed, UnderNumber, GrantedNumber}
use Rattle.lu_proof_lawful.specs.Projection.Requests.{among}
use Rattle.lu_proof_examples.proofs.Objects.Checks.{no_answer, free_is, seen_is}
use Rattle.lu_proof_examples.proofs.Objects.Words.{lock, first, writer, reader, bytes, hi, written, waits, read, has_lock, wrote}
use Rattle.lu_proof_examples.proofs.Objects.Words.{called_back, given_back}

-- a lock from the first position to the end covers each
pub whole : (k c : ℕ) (write : Bool) (p : ℕ) → covers (lock k c write 0 None) p ≡ true
whole k c write p = grind (arith, nat_tests)

-- so what is under it lies under it
pub to_write : {h : List Entry} {at : ℕ → Bool} → (k c : ℕ) → HeldBy h (lock k c true 0 None) → UnderNumber h c k true at
to_write k c i = record {
  lock = lock k c true 0 None;
  held = i;
  life = refl;
  cookie = refl;
  mode = λ e. refl;
  covered =
      λ p e. whole k c true p;
}

pub to_read : {h : List Entry} {at : ℕ → Bool} → (k c : ℕ) (write : Bool) → HeldBy h (lock k c write 0 None) → UnderNumber h c k false at
to_read k c write i = record {
  lock = lock k c write 0 None;
  held = i;
  life = refl;
  cookie = refl;
  mode = λ e. absurd (cc);
  covered =
      λ p e. whole k c write p;
}

pub granted_to_write : {h : List Entry} {at : ℕ → Bool} → (k c : ℕ) → IsGranted h (lock k c true 0 None) → GrantedNumber h c k true at
granted_to_write k c i = record {
  lock = lock k c true 0 None;
  granted = i;
  life = refl;
  cookie = refl;
  mode = λ e. refl;
  covered =
      λ p e. whole k c true p;
}

pub granted_to_read : {h : List Entry} {at : ℕ → Bool} → (k c : ℕ) (write : Bool) → IsGranted h (lock k c write 0 None)
    → GrantedNumber h c k false at
granted_to_read k c write i =
    record {
      lock = lock k c write 0 None;
      granted = i;
      life = refl;
      cookie = refl;
      mode = λ e. absurd (cc);
      covered =
          λ p e. whole k c write p;
    }

pub has_lock_allowed : (at : ℕ) (last : Option ℕ) → AllAllowed (has_lock at last)
has_lock_allowed at last =
    let flies : AllAllowed (drop 5 (has_lock at last)) = (record { idle = refl; next = omega arith; op = tt }, tt) in
    let asks : AllAllowed (drop 4 (has_lock at last)) = ((refl, refl), flies) in
    let grant : AllAllowed (drop 3 (has_lock at last)) = (
      record {
        fresh = record { was = inl refl; first = λ a i. i };
        life = refl;
        new = omega arith;
        asks = (refl, λ p e. whole (first 1) writer true p);
        free = λ m i. absurd i;
        size = (λ p i. refl, λ p e. absurd (omega arith));
        sees = λ n p a i low. absurd i;
      },
      asks,
    ) in
    let replies : AllAllowed (drop 2 (has_lock at last)) = ((inl (refl, refl, refl), refl), grant) in
    let heard : AllAllowed (drop 1 (has_lock at last)) = ((refl, inl refl), replies) in
    ((refl, inl (1, inl refl)), heard)

pub wrote_allowed : AllAllowed wrote
wrote_allowed = (to_write (first 1) writer (inl refl), has_lock_allowed 0 (Some 1))

pub called_back_allowed : AllAllowed called_back
called_back_allowed =
    let flies : AllAllowed (drop 4 called_back) = (record { idle = refl; next = omega arith; op = tt }, wrote_allowed) in
    let asks : AllAllowed (drop 3 called_back) = ((refl, refl), flies) in
    let waits : AllAllowed (drop 2 called_back) = (
      record {
        fresh = record { was = inl refl; first = no_answer (drop 3 called_back) reader 1 refl };
        life = refl;
        new = omega arith;
        asks = (refl, λ p e. e);
      },
      asks,
    ) in
    let replies : AllAllowed (drop 1 called_back) = ((inl (refl, refl, refl), refl), waits) in
    ((written, inl refl, refl, refl), replies)

-- what the object has, once the bytes are written back
pub past_two : (p : ℕ) → 2 ≤ p → overlay 0 bytes p None ≡ None
past_two p i = grind (arith, nat_tests)

pub last_two : (p : ℕ) → suc p ≡ 2 → is_some (overlay 0 bytes p None) ≡ true
last_two p e = let q : p ≡ 1 = omega arith in subst (λ (k : ℕ). is_some (overlay 0 bytes k None) ≡ true) (sym q) refl

-- and of the writer's patch nothing is left
clean : (p : ℕ) → touched (pending writer (drop 5 given_back)) (dirty writer (drop 5 given_back) p) p ≡ false
clean p = grind (arith, nat_tests)

pub given_back_allowed : AllAllowed given_back
given_back_allowed =
    let waiting : AllAllowed (drop 11 given_back) = ((refl, inr (inl refl)), called_back_allowed) in
    let takes : AllAllowed (drop 10 given_back) = (
      record {
        alone = refl;
        under = to_write (first 1) writer (inl refl);
        change = (λ p e. refl, λ p b e. e);
      },
      waiting,
    ) in
    let flies : AllAllowed (drop 9 given_back) = (record { idle = refl; next = omega arith; op = refl }, takes) in
    let asks : AllAllowed (drop 8 given_back) = ((refl, refl), flies) in
    let txn : AllAllowed (drop 7 given_back) = (
      (
        first 1,
        hi,
        record {
          number = omega arith;
          fresh = record { was = inl refl; first = no_answer (drop 8 given_back) writer 2 refl };
          op = refl;
          under = granted_to_write (first 1) writer (inl refl);
        },
      ),
      asks,
    ) in
    let replies : AllAllowed (drop 6 given_back) = ((inl (refl, refl, refl), refl), txn) in
    let heard : AllAllowed (drop 5 given_back) = ((refl, inl refl), replies) in
    let drops : AllAllowed (drop 4 given_back) = (record { held = inl refl; clean = λ p e. clean p; free = refl; untaken = refl }, heard) in
    let cancels : AllAllowed (drop 3 given_back) = (inl (written, inl refl, refl, refl), drops) in
    let release : AllAllowed (drop 2 given_back) = (inl (1, writer, inl refl, omega arith), cancels) in
    let promote : AllAllowed (drop 1 given_back) = (
      record {
        ahead = waits;
        waits = inl refl;
        life = refl;
        cookie = refl;
        write = refl;
        covered = λ p e. whole (first 2) reader false p;
        free = free_is read (drop 2 given_back) refl;
      },
      release,
    ) in
    ((inl refl, (past_two, last_two), (λ n p a i low. seen_is (among (first 1 ∷ [])) (drop 1 given_back) 0 refl n p i low), refl), promote)

-- ---- pages

-- what a page tells of a position is what the object has there, absent bytes as 0
pub padded_reads : (at n : ℕ) (bs : List ℕ) (p v : ℕ) → overlay at (padded bs n) p None ≡ Some v → value (overlay at bs p None) ≡ v
padded_reads at zero bs p v e = absurd (cc)
padded_reads at (suc n) [] p v e = by (nat_eq at p) (λ g. padded_reads (suc at) n [] p v g) e
  where
    by : (w : Bool) → (overlay (suc at) (padded [] n) p None ≡ Some v → 0 ≡ v)
        → (if w then Some 0 else overlay (suc at) (padded [] n) p None) ≡ Some v → 0 ≡ v
    by true more g = cc
    by false more g = more g
padded_reads at (suc n) (b ∷ bs) p v e = by (nat_eq at p) (λ g. padded_reads (suc at) n bs p v g) e
  where
    by : (w : Bool) → (overlay (suc at) (padded bs n) p None ≡ Some v → value (overlay (suc at) bs p None) ≡ v)
        → (if w then Some b else overlay (suc at) (padded bs n) p None) ≡ Some v → value (if w then Some b else overlay (suc at) bs p None)
        ≡ v
    by true more g = cc
    by false more g = more g

-- and each byte of the object is told
pub padded_has : (at n : ℕ) (bs : List ℕ) (p v : ℕ) → length bs ≤ n → overlay at bs p None ≡ Some v → overlay at (padded bs n) p None
    ≡ Some v
padded_has at n [] p v i e = absurd (cc)
padded_has at zero (b ∷ bs) p v i e = absurd (omega arith)
padded_has at (suc n) (b ∷ bs) p v i e = by (nat_eq at p) (λ g. padded_has (suc at) n bs p v (omega arith) g) e
  where
    by : (w : Bool) → (overlay (suc at) bs p None ≡ Some v → overlay (suc at) (padded bs n) p None ≡ Some v)
        → (if w then Some b else overlay (suc at) bs p None) ≡ Some v → (if w then Some b else overlay (suc at) (padded bs n) p None)
        ≡ Some v
    by true more g = g
    by false more g = more g
