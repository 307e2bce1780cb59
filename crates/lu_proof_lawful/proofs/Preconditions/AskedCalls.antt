-- The calls of a client that asked, by where they stand; one that stands elsewhere, of the same file, leaves the others as they are.
use Rattle.std.proofs.Common.{◌≡◌, ℕ, ◌<◌, ◌≤◌, Bool, true, false, List, ◌∷◌, ◌⊎◌, inl, inr, ⊎_elim, Option, Some, None, refl, sym, subst}
use Rattle.std.proofs.Common.{ap, ◌∙◌, arith}
use Rattle.std.specs.Prelude.{nat_eq, ◌&&◌, if◌then◌else◌}
use Rattle.std.proofs.lemmas.Bool.{eqb-true}
use Rattle.std.proofs.lemmas.Bool.Decides.{nat_tests}
use Rattle.lu_base.specs.declared.ids.At.{At}
use Rattle.lu_base.specs.declared.ids.Cookie.{Cookie}
use Rattle.lu_base.specs.declared.ids.Node.TheVariants.{Client}
use Rattle.lu_base.specs.declared.ids.Stamp.{Stamp}
use Rattle.lu_base.specs.declared.ids.Who.{Who}
use Rattle.lu_base.specs.declared.locks.Extent.{Extent}
use Rattle.lu_base.specs.declared.locks.Mode.{Mode}
use Rattle.lu_base.specs.declared.locks.Policy.{Policy}
use Rattle.lu_base.specs.declared.locks.Policy.TheVariants.{Bits, Range}
use Rattle.lu_base.specs.declared.locks.Resource.{Resource}
use Rattle.lu_msg.specs.declared.operations.Op.{Op}
use Rattle.lu_msg.specs.declared.operations.Op.TheVariants as op
use Rattle.lu_held.specs.declared.locks.Use.{Use}
use Rattle.lu_spec_entries.specs.Carried.{HandleFile, Work, Unasked, Asked, Plain, Bad, Enqueued, Gets, Sizes, Running}
use Rattle.lu_spec_entries.specs.Words.{Stands, Line, line}
use Rattle.lu_spec_entries.specs.declared.changes.Flush.TheVariants.{Cut, Put}
use Rattle.lu_spec_client.specs.Advances.{enqueue_of}
use Rattle.lu_spec_client.specs.Caches.{patches_at}
use Rattle.lu_spec_client.specs.Calls.{calls_at}
use Rattle.lu_spec_client.specs.Messages.{waits_for, is_waiter}
use Rattle.lu_spec_client.specs.Patches.{Patch}
use Rattle.lu_spec_client.specs.Starts.{is_on, count_on}
use Rattle.lu_proof_lawful.specs.Covered.Calls.{call_at, life_at}
use Rattle.lu_proof_lawful.specs.Covered.Runs.{IsOnObjects}
use Rattle.lu_spec_run.specs.Heads as table
use Rattle.lu_proof_lawful.proofs.Preconditions.Guards.{In, StandsOk}
use Rattle.lu_proof_lawful.proofs.Preconditions.Lists.{self, turn}
use Rattle.lu_proof_lawful.proofs.Preconditions.Turns.{Settled, owes_nothing}
use Rattle.lu_proof_lawful.proofs.Preconditions.CallStands.{IdleAt, OnBytes, OnSizes, Works, Wanting, Naming, AwaitsSize, Locking, Getting}
use Rattle.lu_proof_lawful.proofs.Preconditions.CallStands.{Idle}
use Rattle.lu_proof_lawful.proofs.Preconditions.ClientHandles.{count_more}
use Rattle.lu_proof_lawful.proofs.Preconditions.ClientLines.{IsNames, IsLock, becomes_names}
use Rattle.lu_proof_lawful.proofs.Preconditions.Asks.{GetsUnder, AsksFor, IsBack, plain_errand, sizes_errand, LocksFirst, locks_errand}
use Rattle.lu_proof_lawful.proofs.Preconditions.Asks.{stages_errand}
use Rattle.lu_proof_lawful.proofs.Preconditions.CallMoves.{apart}
use Rattle.lu_proof_lawful.proofs.Preconditions.ClientGood.{Good, adds, call_line}
use Rattle.lu_proof_lawful.proofs.Preconditions.ClientCalls.{idle_more}
use Rattle.lu_proof_lawful.proofs.Preconditions.ClientTakes.{reads_as, changes_as}
use Rattle.lu_proof_lawful.proofs.Preconditions.Awaits.{lock_named}
use Rattle.lu_proof_lawful.proofs.Preconditions.ClientHears.{first}

-- ---- a call that stands alike

abbrev pub bytes_as : (r q : Running) (w : Work) → q.call ≡ r.call → q.file ≡ r.file → (q.stage ≡ Bad → ⊥) → q.pins ≡ r.pins → OnBytes r w
    → OnBytes q w
bytes_as r q w same file good pins b =
    record {
      does =
          ⊎_elim (λ d. inl (reads_as r q w w same file good refl refl refl d))
          (λ k. ⊎_elim (λ d. inr (inl (record {
            path = d.path;
            stats = same ∙ d.stats;
            good = good;
            mode = d.mode;
            links = d.links;
            kind =
                d.kind;
          }))) (λ d. inr (inr (changes_as r q w w same file good refl refl refl d))) k) b.does;
      order = b.order;
      mine = λ u i. subst (In _) (sym pins) (b.mine u i);
      objects = b.objects;
    }

abbrev pub sizes_as : (r q : Running) (w : Work) → q.call ≡ r.call → q.file ≡ r.file → q.pins ≡ r.pins → OnSizes r w → OnSizes q w
sizes_as r q w same file pins z =
    record {
      handle = z.handle;
      glimpses = same ∙ z.glimpses;
      file = z.file;
      of_file = file ∙ z.of_file;
      sizes = z.sizes;
      kind = z.kind;
      fid = z.fid;
      layout = z.layout;
      before = z.before;
      all = z.all;
      each = z.each;
      nothing = pins ∙ z.nothing;
    }

abbrev pub works_as : (r q : Running) (w : Work) → q.call ≡ r.call → q.file ≡ r.file → (q.stage ≡ Bad → ⊥) → q.pins ≡ r.pins → Works r w
    → Works q w
works_as r q w same file good pins (inl b) = inl (bytes_as r q w same file good pins b)
works_as r q w same file good pins (inr z) = inr (sizes_as r q w same file pins z)

abbrev pub wanting_as : (r q : Running) (w : Work) → q.call ≡ r.call → q.file ≡ r.file → (q.stage ≡ Bad → ⊥) → q.pins ≡ r.pins → Wanting r w
    → Wanting q w
wanting_as r q w same file good pins g = record {
  works = works_as r q w same file good pins g.works;
  wanted = g.wanted;
  left = g.left;
  first = g.first;
}

-- ---- what a call that asked does, by what it asked

-- one that waits for a reply
abbrev pub AsksNow : Running → Type 0
AsksNow r = Naming r ⊎ AwaitsSize r ⊎ Locking r ⊎ Getting r

pub who_asks : (who : Who) (patches : List (Resource × Patch)) (calls : List (Option Running)) (r : Running)
    → Idle who patches calls (Some r) → r.asking ≡ Asked → AsksNow r
who_asks who patches calls r (inl (inl (inl n))) a = inl n
who_asks who patches calls r (inl (inl (inr (inl z)))) a = inr (inl z)
who_asks who patches calls r (inl (inl (inr (inr (inl l))))) a = inr (inr (inl l))
who_asks who patches calls r (inl (inl (inr (inr (inr (inl w)))))) a = absurd (w.still a)
who_asks who patches calls r (inl (inl (inr (inr (inr (inr (inl g))))))) a = absurd (g.still a)
who_asks who patches calls r (inl (inl (inr (inr (inr (inr (inr g))))))) a = inr (inr (inr g))
who_asks who patches calls r (inl (inr f)) a = absurd (let q : Unasked ≡ Asked = sym f.new ∙ a in cc)
who_asks who patches calls r (inr w) a = absurd (let q : Unasked ≡ Asked = sym w.closing.new ∙ a in cc)

-- the lock on the first of the objects that are left
pub locks_of : (r : Running) (t : ℕ) (o : Op) → IsLock o → AsksFor r t o → (w : Work) × (r.stage ≡ Enqueued w) × LocksFirst w t o
locks_of r t o lock (inr g) = absurd (subst IsLock g.of_op lock)
locks_of r t o lock (inl e) = by (stages_errand r (record { target = t; op = o }) e)
  where
    names_not : (o : Op) → IsNames o → IsLock o → ⊥
    names_not (op.Enqueue resource mode extent) n k = n
    names_not o n k = k

    by : (r.stage ≡ Plain) ⊎ ((w : Work) × (r.stage ≡ Sizes w)) ⊎ ((w : Work) × (r.stage ≡ Enqueued w)) → (w : Work)
        × (r.stage ≡ Enqueued w) × LocksFirst w t o
    by (inl plain) = absurd (names_not o (becomes_names r.file r.call o (plain_errand r t o plain e).1) lock)
    by (inr (inl z)) = absurd (subst IsLock (sizes_errand r z.0 t o z.1 e).of_op lock)
    by (inr (inr w)) = (w.0, w.1, locks_errand r w.0 t o w.1 e)

pub locking_of : (r : Running) (w : Work) → r.stage ≡ Enqueued w → AsksNow r → Locking r
locking_of r w e (inl n) = absurd (let q : Plain ≡ Enqueued w = sym n.plain ∙ e in cc)
locking_of r w e (inr (inl z)) = absurd (let q : Sizes z.sizing.work ≡ Enqueued w = sym z.sizing.stage ∙ e in cc)
locking_of r w e (inr (inr (inl l))) = l
locking_of r w e (inr (inr (inr g))) = absurd (let q : Gets g.work ≡ Enqueued w = sym g.stage ∙ e in cc)

-- the page of a read
pub getting_of : (r : Running) (w : Work) → r.stage ≡ Gets w → AsksNow r → Getting r
getting_of r w e (inl n) = absurd (let q : Plain ≡ Gets w = sym n.plain ∙ e in cc)
getting_of r w e (inr (inl z)) = absurd (let q : Sizes z.sizing.work ≡ Gets w = sym z.sizing.stage ∙ e in cc)
getting_of r w e (inr (inr (inl l))) = absurd (let q : Enqueued l.work ≡ Gets w = sym l.stage ∙ e in cc)
getting_of r w e (inr (inr (inr g))) = g

get_policy : (p : Policy) (wanted : Use) (resource : Resource) (cookie : Cookie) (page : ℕ)
    → ◌≡◌ {A = Op} (op.Get resource cookie page) (elim p [
      | Range x ↦ op.Enqueue wanted.resource wanted.mode x
      | Bits bits
          ↦ op.Size wanted.resource
    ]) → ⊥
get_policy (Range x) wanted resource cookie page e = absurd (cc)
get_policy (Bits bits) wanted resource cookie page e = absurd (cc)

back_policy : (p : Policy) (wanted : Use) (o : Op) → IsBack o → ◌≡◌ {A = Op} o
    (elim p [ Range x ↦ op.Enqueue wanted.resource wanted.mode x | Bits bits ↦ op.Size wanted.resource ]) → ⊥
back_policy (Range x) wanted o b e = subst IsBack e b
back_policy (Bits bits) wanted o b e = subst IsBack e b

pub gets_of : (r : Running) (t : ℕ) (resource : Resource) (cookie : Cookie) (page : ℕ) → AsksFor r t (op.Get resource cookie page)
    → GetsUnder r t (op.Get resource cookie page)
gets_of r t resource cookie page (inr g) = g
gets_of r t resource cookie page (inl e) = absurd (by (stages_errand r (record { target = t; op = op.Get resource cookie page }) e))
  where
    by : (r.stage ≡ Plain) ⊎ ((w : Work) × (r.stage ≡ Sizes w)) ⊎ ((w : Work) × (r.stage ≡ Enqueued w)) → ⊥
    by (inl plain) = becomes_names r.file r.call (op.Get resource cookie page) (plain_errand r t (op.Get resource cookie page) plain e).1
    by (inr (inl z)) = let q = (sizes_errand r z.0 t (op.Get resource cookie page) z.1 e).of_op in absurd (cc)
    by (inr (inr w)) = let l = locks_errand r w.0 t (op.Get resource cookie page) w.1 e
        in get_policy l.wanted.policy l.wanted resource cookie page l.of_op

-- no call asks to write a change back
pub not_back : (r : Running) (t : ℕ) (o : Op) → IsBack o → AsksFor r t o → ⊥
not_back r t o back (inr g) = subst IsBack g.of_op back
not_back r t o back (inl e) = by (stages_errand r (record { target = t; op = o }) e)
  where
    names_not : (o : Op) → IsNames o → IsBack o → ⊥
    names_not (op.Put resource cookie offset bytes) n k = n
    names_not (op.Cut resource cookie size) n k = n
    names_not o n k = k

    by : (r.stage ≡ Plain) ⊎ ((w : Work) × (r.stage ≡ Sizes w)) ⊎ ((w : Work) × (r.stage ≡ Enqueued w)) → ⊥
    by (inl plain) = names_not o (becomes_names r.file r.call o (plain_errand r t o plain e).1) back
    by (inr (inl z)) = subst IsBack (sizes_errand r z.0 t o z.1 e).of_op back
    by (inr (inr w)) = let l = locks_errand r w.0 t o w.1 e in back_policy l.wanted.policy l.wanted o back l.of_op

-- none waits for a lock of the metadata target
pub none_low : (who : Who) (patches : List (Resource × Patch)) (calls : List (Option Running)) (x : Option Running) (k : ℕ)
    → Idle who patches calls x → is_waiter (lock_named 0 k) x ≡ false
none_low who patches calls None k i = refl
none_low who patches calls (Some r) k i = by i
  where
    low : (n : ℕ) → 0 < n → nat_eq n 0 ≡ false
    low n lt = grind (arith, nat_tests, lt)

    by : Idle who patches calls (Some r) → waits_for (lock_named 0 k) r.stage ≡ false
    by (inl (inl (inl n))) = ap (waits_for (lock_named 0 k)) n.plain
    by (inl (inl (inr (inl z)))) = ap (waits_for (lock_named 0 k)) z.sizing.stage
    by (inl (inl (inr (inr (inl l))))) = ap (waits_for (lock_named 0 k)) l.stage
    by (inl (inl (inr (inr (inr (inl w)))))) = ap (waits_for (lock_named 0 k)) w.stage
        ∙ ap (λ (b : Bool). b && nat_eq w.lock.cookie.0 k) (low w.target.0 w.object)
    by (inl (inl (inr (inr (inr (inr (inl g))))))) = ap (waits_for (lock_named 0 k)) g.stage
    by (inl (inl (inr (inr (inr (inr (inr g))))))) = ap (waits_for (lock_named 0 k)) g.stage
    by (inl (inr f)) = ap (waits_for (lock_named 0 k)) f.stage
    by (inr w) = ap (waits_for (lock_named 0 k)) w.closing.plain

-- it is on a range of bytes
pub range_of : (wanted : Use) (resource : Resource) (mode : Mode) (extent : Extent) → op.Enqueue resource mode extent ≡ enqueue_of wanted
    → (wanted.policy ≡ Range extent) × (resource ≡ wanted.resource) × (mode ≡ wanted.mode)
range_of wanted resource mode extent e = by wanted.policy refl e
  where
    by : (p : Policy) → wanted.policy ≡ p → ◌≡◌ {A = Op} (op.Enqueue resource mode extent)
        (elim p [ Range x ↦ op.Enqueue wanted.resource wanted.mode x | Bits bits ↦ op.Size wanted.resource ])
        → (wanted.policy ≡ Range extent) × (resource ≡ wanted.resource) × (mode ≡ wanted.mode)
    by (Range x) q k =
        let same : x ≡ extent = cc in
        (q ∙ ap Range same, cc, cc)
    by (Bits bits) q k = absurd (cc)

pub lock_is : (o : Op) → IsLock o → (resource : Resource) × (mode : Mode) × (extent : Extent) × (o ≡ op.Enqueue resource mode extent)
lock_is (op.Enqueue resource mode extent) l = (resource, mode, extent, refl)
lock_is o l = absurd l

module _ (head : table.Head) (c : ℕ) (stamp : Stamp) where
  abbrev at : At
  at = turn stamp (Client c)

  -- those on other slots
  pub others_of : (slot : ℕ) (P : ℕ → Type 0) → P slot → ((s : ℕ) → (s ≡ slot → ⊥) → P s) → (s : ℕ) → P s
  others_of slot P own other s = by (nat_eq s slot) refl
    where
      by : (b : Bool) → nat_eq s slot ≡ b → P s
      by true e = subst P (sym (eqb-true s slot e)) own
      by false e = other s (λ k. let t : nat_eq s slot ≡ true = ap (λ (u : ℕ). nat_eq u slot) k ∙ self slot in absurd (cc))

  -- ---- a call stands elsewhere

  pub record Stood (slot : ℕ) (now : Running) (p : List Line) : Type 0 where
    pub good : Good head c at (line at (Stands slot now) ∷ p)
    pub call : call_at c slot (line at (Stands slot now) ∷ p) ≡ Some now
    pub others : (s : ℕ) → (s ≡ slot → ⊥) → call_at c s (line at (Stands slot now) ∷ p) ≡ call_at c s p

  pub stood : (slot : ℕ) (now : Running) (p : List Line) → Good head c at p → Settled p → StandsOk p at c slot now → IsOnObjects now.stage
      → Stood slot now p
  stood slot now p good settled ok objects =
      record {
        good = adds head c stamp p (Stands slot now) good (owes_nothing p at (Stands slot now) settled) ok (λ u q. tt) objects refl;
        call = call_line head c stamp slot p (Stands slot now) ∙ ap (λ (b : Bool). if b then Some now else call_at c slot p) (self slot);
        others = λ s n. call_line head c stamp s p (Stands slot now)
            ∙ ap (λ (b : Bool). if b then Some now else call_at c s p) (apart head c stamp slot s n);
      }

  -- the others are idle still
  stood_more : (slot : ℕ) (r now : Running) (p : List Line) → call_at c slot p ≡ Some r → now.file ≡ r.file → Stood slot now p → (n : ℕ)
      → count_on n (calls_at c p) ≤ count_on n (calls_at c (line at (Stands slot now) ∷ p))
  stood_more slot r now p is file z n = count_more c n p q (λ u e. on u (nat_eq u slot) refl e)
    where
      q : List Line
      q = line at (Stands slot now) ∷ p

      on : (u : ℕ) (b : Bool) → nat_eq u slot ≡ b → is_on n (call_at c u p) ≡ true → is_on n (call_at c u q) ≡ true
      on u true k e =
          let same = eqb-true u slot k in
          ap (λ (v : ℕ). is_on n (call_at c v q)) same
          ∙ ap (is_on n) z.call
          ∙ ap (λ (f : Option HandleFile). elim f [ None ↦ false | Some g ↦ nat_eq g.number.0 n ]) file
          ∙ sym (ap (is_on n) is)
          ∙ ap (λ (v : ℕ). is_on n (call_at c v p)) (sym same)
          ∙ e
      on u false k e = ap (is_on n) (z.others u (λ w. let t : nat_eq u slot ≡ true = ap (λ (v : ℕ). nat_eq v slot) w ∙ self slot
          in absurd (cc))) ∙ e

  pub stood_idle : (slot : ℕ) (r now : Running) (p : List Line) → call_at c slot p ≡ Some r → now.file ≡ r.file → Stood slot now p → (u : ℕ)
      → (u ≡ slot → ⊥) → IdleAt c p u → IdleAt c (line at (Stands slot now) ∷ p) u
  stood_idle slot r now p is file z u other i =
      let q = line at (Stands slot now) ∷ p in
      subst (Idle (life_at c p) (patches_at c p) (calls_at c q)) (sym (z.others u other))
      (idle_more (life_at c p) (patches_at c p) (calls_at c p) (calls_at c q) (stood_more slot r now p is file z) (call_at c u p) i)
