-- How many numbers a target has given out by so many turns: each request that came brings at most one transaction, and at most one lock for
-- each name of a path and one more, or one on an object. One that waits brings them when it goes on, or none, where its life leaves or the
-- target recovers; a lock that waits has its cookie. A boot counts anew, and each is a turn.
use Rattle.std.proofs.Common.{◌≡◌, ℕ, zero, suc, ◌+◌, ◌*◌, ◌≤◌, Bool, false, List, [], ◌∷◌, ◌++◌, inl, inr, refl, sym, subst, ap, ◌∙◌}
use Rattle.std.proofs.Common.{arith}
use Rattle.std.specs.Prelude.{max, not, if◌then◌else◌, length}
use Rattle.std.specs.List.{filter}
use Rattle.std.proofs.lemmas.Bool.{cond_both}
use Rattle.std.proofs.Math.Nat.{max-le, le-max_left}
use Rattle.lu_base.specs.declared.ids.Txn.{Txn as TxnOf}
use Rattle.lu_base.specs.declared.ids.Who.{Who}
use Rattle.lu_base.specs.declared.locks.Lock.{Lock}
use Rattle.lu_msg.specs.declared.answers.Errno.{Errno}
use Rattle.lu_msg.specs.declared.answers.Answer.TheVariants.{Refused}
use Rattle.lu_msg.specs.declared.messages.Request.{Request as RequestOf}
use Rattle.lu_msg.specs.declared.operations.Op.{Op}
use Rattle.lu_msg.specs.declared.operations.Op.TheVariants as op
use Rattle.lu_spec_machine.specs.declared.child.Child.{Child}
use Rattle.lu_spec_machine.specs.declared.child.Child.TheVariants.{Dir, File}
use Rattle.lu_spec_machine.specs.Footprint.{Operation, grants}
use Rattle.lu_spec_machine.specs.Laws.{IsReading}
use Rattle.lu_spec_machine.specs.Plan.{Plan, Outcome, outcome}
use Rattle.lu_spec_machine.specs.Table.{root, last_of, walk, wants, row_lookup, row_stat, row_list, row_layout}
use Rattle.lu_spec_machine.specs.Tree.{Tree}
use Rattle.lu_spec_machine.proofs.Paths.{Steps, walk_steps}
use Rattle.lu_part.specs.declared.bits.TheConstants.{UPDATE, LAYOUT}
use Rattle.lu_part.specs.declared.parts.Want.{Want}
use Rattle.lu_spec_entries.specs.Words.{Entry, Act, Txn, Grant, Wait, Answers, Commit, Boot, Close, Enters}
use Rattle.lu_spec_target.specs.Locks.{is_request_of}
use Rattle.lu_spec_target.specs.Names.{asked, locks_from}
use Rattle.lu_spec_target.specs.Phase.{first_of, greatest_cookie}
use Rattle.lu_spec_target.specs.States.{Target, after, turn, follow}
use Rattle.lu_proof_lawful.proofs.Preconditions.Guards.{In}
use Rattle.lu_proof_lawful.proofs.Invariants.OnNames.{IsOnNames}
use Rattle.lu_proof_lawful.proofs.Invariants.Readings.{changing_free}
use Rattle.lu_proof_scenes.proofs.Every.{Every, every_filter, every_so}

-- ---- how many locks an operation is granted

-- its path has at most so many names as paths have
abbrev pub IsShort : Op → Type 0
IsShort (op.Lookup path) = length path ≤ 32
IsShort (op.Stat path) = length path ≤ 32
IsShort (op.List path) = length path ≤ 32
IsShort (op.Layout path) = length path ≤ 32
IsShort (op.Size resource) = Unit {0}
IsShort (op.Enqueue resource mode extent) = Unit {0}
IsShort (op.Get resource cookie page) = Unit {0}
IsShort (op.Put resource cookie offset bytes) = Unit {0}
IsShort (op.Cut resource cookie size) = Unit {0}
IsShort o = IsOnNames o

steps_length : (t : Tree) (at : Child) (path : List (List ℕ)) (cs : List Child) → Steps t at path cs → length cs ≡ length path
steps_length t at [] [] s = refl
steps_length t at [] (c ∷ cs) s = absurd s
steps_length t (Dir d) (n ∷ ns) [] s = absurd s
steps_length t (Dir d) (n ∷ ns) (c ∷ cs) s = ap suc (steps_length t c ns cs s.1)
steps_length t (File f) (n ∷ ns) cs s = absurd s

wants_few : (more : ℕ) (cs : List Child) → length (wants more cs) ≤ length cs + 1
wants_few zero [] = omega arith
wants_few (suc more) [] = omega arith
wants_few more (c ∷ []) = omega arith
wants_few more (c ∷ d ∷ cs) = let few = wants_few more (d ∷ cs) in omega (arith, few)

module _ (osts : ℕ) (t : Tree) (number : TxnOf) (who : Who) where
  abbrev act : Op → Operation
  act o = record { number = number; who = who; op = o }

  abbrev IsFew : Outcome → Type 0
  IsFew o = length o.grants ≤ 33

  refused : (e : Errno) → IsFew (record { answer = Refused e; grants = []; changes = [] })
  refused e = omega arith

  walks_few : (path : List (List ℕ)) (next : List Child → Plan) → length path ≤ 32
      → ((cs : List Child) → length cs ≤ 32 → IsFew (outcome t (next cs))) → IsFew (outcome t (walk root path next))
  walks_few path next short few = walk_steps t IsFew refused root path next
      (λ cs s. few cs (let same = steps_length t root path cs s in omega (arith, same, short)))

  so_few : (more : ℕ) (cs : List Child) → length cs ≤ 32 → length (wants more cs) ≤ 33
  so_few more cs short = let few = wants_few more cs in omega (arith, few, short)

  stat_few : (cs : List Child) (c : Child) → length cs ≤ 32 → IsFew (outcome t (row_stat cs c))
  stat_few cs (Dir d) short = so_few UPDATE cs short
  stat_few cs (File f) short = so_few (UPDATE + LAYOUT) cs short

  list_few : (cs : List Child) (c : Child) → length cs ≤ 32 → IsFew (outcome t (row_list cs c))
  list_few cs (Dir d) short = so_few UPDATE cs short
  list_few cs (File f) short = omega arith

  layout_few : (cs : List Child) (c : Child) → length cs ≤ 32 → IsFew (outcome t (row_layout cs c))
  layout_few cs (Dir d) short = omega arith
  layout_few cs (File f) short = so_few LAYOUT cs short

  free_few : (o : Op) → IsOnNames o → (IsReading o → ⊥) → length (grants osts t (act o)) ≤ 33
  free_few o is changes = subst (λ (ws : List Want). length ws ≤ 33) (sym (changing_free osts t number who o is changes)) (omega arith)

  pub grants_few : (o : Op) → IsShort o → length (grants osts t (act o)) ≤ 33
  grants_few (op.Lookup path) short = walks_few path (λ cs. row_lookup cs (last_of root cs)) short (λ cs few. so_few 0 cs few)
  grants_few (op.Stat path) short = walks_few path (λ cs. row_stat cs (last_of root cs)) short (λ cs few. stat_few cs (last_of root cs) few)
  grants_few (op.List path) short = walks_few path (λ cs. row_list cs (last_of root cs)) short (λ cs few. list_few cs (last_of root cs) few)
  grants_few (op.Layout path) short = walks_few path (λ cs. row_layout cs (last_of root cs)) short
      (λ cs few. layout_few cs (last_of root cs) few)
  grants_few (op.Mkdir path) short = free_few (op.Mkdir path) tt (λ r. r)
  grants_few (op.Create path size count) short = free_few (op.Create path size count) tt (λ r. r)
  grants_few (op.Link old new) short = free_few (op.Link old new) tt (λ r. r)
  grants_few (op.Unlink path) short = free_few (op.Unlink path) tt (λ r. r)
  grants_few (op.Rmdir path) short = free_few (op.Rmdir path) tt (λ r. r)
  grants_few (op.Rename old new) short = free_few (op.Rename old new) tt (λ r. r)
  grants_few (op.Chmod path mode) short = free_few (op.Chmod path mode) tt (λ r. r)
  grants_few (op.Open path) short = free_few (op.Open path) tt (λ r. r)
  grants_few (op.Close number fid) short = free_few (op.Close number fid) tt (λ r. r)
  grants_few (op.Size resource) short = omega arith
  grants_few (op.Enqueue resource mode extent) short = omega arith
  grants_few (op.Get resource cookie page) short = omega arith
  grants_few (op.Put resource cookie offset bytes) short = omega arith
  grants_few (op.Cut resource cookie size) short = omega arith

-- ---- lists

pub filter_le : {A : Type 0} (f : A → Bool) (xs : List A) → length (filter f xs) ≤ length xs
filter_le f [] = omega arith
filter_le {A} f (x ∷ xs) =
    let less = filter_le f xs in
    cond_both (f x) (x ∷ filter f xs) (filter f xs) (λ (ys : List A). length ys ≤ length (x ∷ xs)) (λ t. omega (arith, less))
    (λ t. omega (arith, less))

pub filter_out : {A : Type 0} (f : A → Bool) (x : A) (xs : List A) → In x xs → f x ≡ false → length (filter f xs) + 1 ≤ length xs
filter_out f x [] i out = absurd i
filter_out f x (y ∷ xs) (inl e) out =
    let less = filter_le f xs in
    let gone : (if f y then y ∷ filter f xs else filter f xs) ≡ filter f xs =
    ap (λ (b : Bool). if b then y ∷ filter f xs else filter f xs) (ap f e ∙ out) in
    subst (λ (ys : List _). length ys + 1 ≤ length (y ∷ xs)) (sym gone) (omega (arith, less))
filter_out {A} f x (y ∷ xs) (inr i) out =
    let less = filter_out f x xs i out in
    cond_both (f y) (y ∷ filter f xs) (filter f xs) (λ (ys : List A). length ys + 1 ≤ length (y ∷ xs)) (λ t. omega (arith, less))
    (λ t. omega (arith, less))

pub all_in : {A : Type 0} (xs : List A) → Every (λ (x : A). In x xs) xs
all_in {A} xs = within xs (λ x i. i)
  where
    within : (ys : List A) → ((x : A) → In x ys → In x xs) → Every (λ (x : A). In x xs) ys
    within [] more = tt
    within (y ∷ ys) more = (more y (inl refl), within ys (λ x i. more x (inr i)))

-- ---- cookies

abbrev pub AllUpto : ℕ → List Lock → Type 0
AllUpto m locks = Every (λ (l : Lock). l.cookie.0 ≤ m) locks

pub max_upto : (a b m : ℕ) → a ≤ m → b ≤ m → max a b ≤ m
max_upto a b m p q = max-le p q

pub greatest_upto : (n m : ℕ) (locks : List Lock) → n ≤ m → AllUpto m locks → greatest_cookie n locks ≤ m
greatest_upto n m [] p all = p
greatest_upto n m (l ∷ locks) p all = greatest_upto (max n l.cookie.0) m locks (max_upto n l.cookie.0 m p all.0) all.1

-- it is as great as before
pub greatest_least : (n : ℕ) (locks : List Lock) → n ≤ greatest_cookie n locks
greatest_least n [] = omega arith
greatest_least n (l ∷ locks) =
    let first = le-max_left n l.cookie.0 in
    let more = greatest_least (max n l.cookie.0) locks in
    omega (arith, first, more)

-- up to a greater one
pub upto_more : (k m : ℕ) (locks : List Lock) → k ≤ m → AllUpto k locks → AllUpto m locks
upto_more k m locks less all = every_so (λ (l : Lock). l.cookie.0 ≤ k) (λ (l : Lock). l.cookie.0 ≤ m) locks
    (λ l low. omega (arith, less, low)) all

pub locks_upto : (cookie : ℕ) (who : Who) (ws : List Want) (m : ℕ) → cookie + length ws ≤ m → AllUpto m (locks_from cookie who ws)
locks_upto cookie who [] m p = tt
locks_upto cookie who (w ∷ ws) m p = (omega (arith, p), locks_upto (cookie + 1) who ws m (omega (arith, p)))

-- ---- a target that so many requests have come to

abbrev pub RequestFits : RequestOf → Type 0
RequestFits r = IsShort r.op

-- each that waits may bring a number and so many cookies of this boot yet, also one that waits since before it; there were at most so many
-- boots;
-- and a lock that waits has its cookie
pub record Below (n : ℕ) (v : Target) : Type 0 where
  pub queue : Every RequestFits v.queue
  pub few : length v.queue ≤ n
  pub number : v.number + length v.queue ≤ first_of v.boot + n
  pub cookie : v.cookie + 33 * length v.queue ≤ first_of v.boot + 33 * n
  pub boot : v.boot ≤ n + 1
  pub disk : v.disk.boot ≡ v.boot
  pub waiting : AllUpto v.cookie v.waiting

-- the boot stays
abbrev pub OfBoot : Target → Target → Type 0
OfBoot v w = record { boot : w.boot ≡ v.boot; disk : w.disk.boot ≡ v.disk.boot }

-- one of them acts
pub acts_below : (n : ℕ) (v w : Target) → Every RequestFits w.queue → w.number ≤ v.number + 1 → w.cookie ≤ v.cookie + 33
    → length w.queue + 1 ≤ length v.queue → OfBoot v w → AllUpto w.cookie w.waiting → Below n v → Below n w
acts_below n v w fit number cookie queue same waits h =
    let before = h.number in
    let held = h.cookie in
    let few = h.few in
    let boots = h.boot in
    let boot = same.boot in
    record {
      queue = fit;
      few = omega (arith, queue, few);
      number = omega (arith, number, queue, before, boot);
      cookie = omega (arith, cookie, queue, held, boot);
      boot = omega (arith, boots, boot);
      disk = same.disk ∙ h.disk ∙ sym boot;
      waiting = waits;
    }

-- nothing of these changes, but that some that wait may go
abbrev pub Fewer : Target → Target → Type 0
Fewer v w =
    record {
      number : w.number ≡ v.number;
      cookie : w.cookie ≡ v.cookie;
      queue : length w.queue ≤ length v.queue;
      fits : Every RequestFits v.queue → Every RequestFits w.queue;
      boot : w.boot ≡ v.boot;
      disk : w.disk.boot ≡ v.disk.boot;
      waiting : AllUpto v.cookie v.waiting → AllUpto v.cookie w.waiting;
    }

pub fewer_below : (n : ℕ) (v w : Target) → Fewer v w → Below n v → Below n w
fewer_below n v w s h =
    let few = h.few in
    let boots = h.boot in
    let before = h.number in
    let held = h.cookie in
    let number = s.number in
    let cookie = s.cookie in
    let queue = s.queue in
    let boot = s.boot in
    record {
      queue = s.fits h.queue;
      few = omega (arith, few, queue);
      number = omega (arith, number, queue, before, boot);
      cookie = omega (arith, cookie, queue, held, boot);
      boot = omega (arith, boots, boot);
      disk = s.disk ∙ h.disk ∙ sym boot;
      waiting = subst (λ (k : ℕ). AllUpto k w.waiting) (sym cookie) (s.waiting h.waiting);
    }

-- nothing of these changes
abbrev pub Same : Target → Target → Type 0
Same v w =
    record {
      number : w.number ≡ v.number;
      cookie : w.cookie ≡ v.cookie;
      queue : w.queue ≡ v.queue;
      boot : w.boot ≡ v.boot;
      disk : w.disk.boot ≡ v.disk.boot;
      waiting : w.waiting ≡ v.waiting;
    }

pub same_below : (n : ℕ) (v w : Target) → Same v w → Below n v → Below n w
same_below n v w s h =
    fewer_below n v w (record {
      number = s.number;
      cookie = s.cookie;
      queue = let same = ap length s.queue in omega (arith, same);
      fits =
          λ f. subst (Every RequestFits) (sym s.queue) f;
      boot = s.boot;
      disk = s.disk;
      waiting =
          λ all. subst (AllUpto v.cookie) (sym s.waiting) all;
    }) h

pub more_below : (n : ℕ) (v : Target) → Below n v → Below (suc n) v
more_below n v h =
    let few = h.few in
    let number = h.number in
    let cookie = h.cookie in
    let boot = h.boot in
    record {
      queue = h.queue;
      few = omega (arith, few);
      number = omega (arith, number);
      cookie = omega (arith, cookie);
      boot =
          omega (arith, boot);
      disk = h.disk;
      waiting = h.waiting;
    }

-- ---- lines that bring no number, and after which no more waits

abbrev pub IsStill : Entry → Type 0
IsStill (Enters r) = ⊥
IsStill (Act d) = ⊥
IsStill (Txn d) = ⊥
IsStill (Grant lock asked) = ⊥
IsStill (Wait lock asked) = ⊥
IsStill (Commit to batch) = ⊥
IsStill (Boot boot disk) = ⊥
IsStill (Close o) = ⊥
IsStill _ = Unit {0}

abbrev pub AllStill : List Entry → Type 0
AllStill es = Every IsStill es

still_line : (v : Target) (e : Entry) → IsStill e → Fewer v (after v e)
still_line v (Answers d) s =
    record {
      number = refl;
      cookie = refl;
      queue = filter_le (λ q. not (is_request_of d q)) v.queue;
      fits =
          λ f. every_filter RequestFits (λ q. not (is_request_of d q)) v.queue f;
      boot = refl;
      disk = refl;
      waiting = λ all. all;
    }
still_line v (Enters r) s = absurd s
still_line v (Act d) s = absurd s
still_line v (Txn d) s = absurd s
still_line v (Grant lock asked) s = absurd s
still_line v (Wait lock asked) s = absurd s
still_line v (Commit to batch) s = absurd s
still_line v (Boot boot disk) s = absurd s
still_line v (Close o) s = absurd s
still_line v e s = record {
  number = refl;
  cookie = refl;
  queue = omega arith;
  fits = λ f. f;
  boot = refl;
  disk = refl;
  waiting =
      λ all. all;
}

pub still_below : (n : ℕ) (v : Target) (es : List Entry) → AllStill es → Below n v → Below n (turn v es)
still_below n v [] s h = h
still_below n v (e ∷ es) s h = still_below n (after v e) es s.1 (fewer_below n v (after v e) (still_line v e s.0) h)

pub turn_more : (v : Target) (es fs : List Entry) → turn v (es ++ fs) ≡ turn (turn v es) fs
turn_more v [] fs = refl
turn_more v (e ∷ es) fs = turn_more (after v e) es fs

pub follow_below : (n : ℕ) (v : Target) (es : List Entry) (next : Target → List Entry) → Below n (turn (turn v es) (next (turn v es)))
    → Below n (turn v (follow v es next))
follow_below n v es next h = subst (Below n) (sym (turn_more v es (next (turn v es)))) h
