-- How a call on bytes looks for its locks, by the rows: what it wants of each object, which is a range in order, and which held lock serves
-- it.
use Rattle.std.proofs.Common.{◌≡◌, ℕ, zero, suc, ◌+◌, ◌-◌, ◌*◌, ◌/◌, ◌%◌, ◌<◌, ◌≤◌, Bool, true, false, List, [], ◌∷◌, ◌⊎◌, inl, inr, ⊎_elim}
use Rattle.std.proofs.Common.{Option, Some, None, refl, sym, subst, ap, ◌∙◌, arith}
use Rattle.std.specs.Prelude.{nat_eq, nat_lt, ◌&&◌, not, if◌then◌else◌, length, map, slice_get}
use Rattle.std.proofs.Math.Nat.{mul-le-mul_right, le-mul_of_pos_right, div-zero, div-le_self}
use Rattle.std.proofs.lemmas.Nat.{div-add-mod'}
use Rattle.std.proofs.lemmas.Bool.{and_parts, eqb-true, not-true}
use Rattle.std.proofs.lemmas.Bool.Decides.{nat_tests}
use Rattle.lu_base.specs.declared.ids.Fid.{Fid}
use Rattle.lu_base.specs.declared.locks.Extent.{Extent}
use Rattle.lu_base.specs.declared.locks.Mode.{Mode}
use Rattle.lu_base.specs.declared.locks.Mode.TheVariants.{PR, PW}
use Rattle.lu_base.specs.declared.locks.Policy.{Policy}
use Rattle.lu_base.specs.declared.locks.Policy.TheVariants.{Bits, Range}
use Rattle.lu_base.specs.declared.locks.Resource.{Resource}
use Rattle.lu_layout.specs.Raid0.{Raid0, stripe_of, offset_of}
use Rattle.lu_lock.specs.Growth.{the_end}
use Rattle.lu_lock.specs.Modes.{serves}
use Rattle.lu_lock.specs.Overlap.{covers}
use Rattle.lu_msg.specs.declared.operations.Op.TheVariants as op
use Rattle.lu_held.specs.declared.locks.HeldLock.{HeldLock}
use Rattle.lu_held.specs.declared.locks.Use.{Use}
use Rattle.lu_held.specs.declared.locks.Wanted.TheVariants.{Serving, ServingToTheEnd}
use Rattle.lu_held.specs.Locks.{same_resource, reaches_end, is_for, serves_use, matches}
use Rattle.lu_held.specs.Held.{in_order, those, serving}
use Rattle.lu_spec_entries.specs.declared.uses.Using.{Using}
use Rattle.lu_spec_entries.specs.Carried.{Kind, Narrow, Wide, Writes, Cuts, Stats, Glimpses, Work}
use Rattle.lu_spec_entries.specs.Words.{Entry, Line}
use Rattle.lu_spec_client.specs.Advances.{enqueue_of}
use Rattle.lu_spec_client.specs.States.{Client as ClientState, store_turn, after, turn as turn_of}
use Rattle.lu_spec_client.specs.Patches.{to_end, cut_extent}
use Rattle.lu_spec_client.specs.Stripes.{below_on, stripes}
use Rattle.lu_spec_client.specs.Wants.{want, wants_run, wants_rest, wants_cut, wants_of}
use Rattle.lu_proof_lawful.proofs.Preconditions.Guards.{HasRange, In, InOrder, LacksOf, LockDoes}
use Rattle.lu_proof_lawful.proofs.Preconditions.Lists.{in_append, in_right, in_filter, in_filtered}
use Rattle.lu_proof_lawful.proofs.Preconditions.ClientLocks.{in_map, in_ordered, ordered_in}

-- ---- how far offsets of an object go

raised : (q u size : ℕ) → q + 1 ≤ u → q * size + size ≤ u * size
raised q u size le = let m : (q + 1) * size ≤ u * size = mul-le-mul_right size le in let e : (q + 1) * size ≡ q * size + size = omega arith
    in omega (arith, m, e)

-- one that lies past the first stripe is of a later round
later_round : (u k : ℕ) → 0 < u % k → u / k + 1 ≤ u
later_round u zero more = let d : u / 0 ≡ 0 = div-zero u in let m : u / 0 * 0 + u % 0 ≡ u = div-add-mod' u 0 in omega (arith, d, m, more)
later_round u (suc k) more =
    let m : u / suc k * suc k + u % suc k ≡ u = div-add-mod' u (suc k) in
    let e : u / suc k ≤ u / suc k * suc k = le-mul_of_pos_right (u / suc k) (omega arith) in
    omega (arith, m, e, more)

-- no more offsets of a stripe than positions lie below one
pub below_low : (l : Raid0) (i n : ℕ) → below_on l i n ≤ n
unfolding stripe_of offset_of
below_low l i n = by (nat_lt i (n / l.size % length l.targets)) (nat_eq i (n / l.size % length l.targets)) refl
  where
    u : ℕ
    u = n / l.size

    k : ℕ
    k = length l.targets

    parts : u * l.size + n % l.size ≡ n
    parts = div-add-mod' n l.size

    low : u / k * l.size ≤ u * l.size
    low = mul-le-mul_right l.size (div-le_self u k)

    some : (a b : ℕ) → nat_lt a b ≡ true → 0 < b
    some a b e = grind (arith, nat_tests, e)

    by : (v w : Bool) → nat_lt i (u % k) ≡ v
        → (if v then u / k * l.size + n % l.size - n % l.size + l.size else if w then u / k * l.size + n % l.size
        else u / k * l.size + n % l.size - n % l.size) ≤ n
    by true w e = let r : u / k * l.size + l.size ≤ u * l.size = raised (u / k) u l.size (later_round u k (some i (u % k) e))
        in omega (arith, r, parts)
    by false true e = omega (arith, low, parts)
    by false false e = omega (arith, low, parts)

-- ---- what a call wants

-- a lock on a range of bytes in order, to read under or, where it changes bytes, to write under
pub record ByteUse (x : Use) : Type 0 where
  pub extent : Extent
  pub policy : x.policy ≡ Range extent
  pub first : extent.first ≤ extent.last
  pub last : extent.last ≤ the_end

-- the mode in which a call of that kind uses locks
abbrev pub mode_of : Kind → Mode
mode_of (Writes offset bytes) = PW
mode_of (Cuts size) = PW
mode_of kind = PR

-- its positions are those of a file
abbrev pub IsShort : Kind → Type 0
IsShort (Narrow p n) = p + n ≤ the_end
IsShort (Wide p n) = p + n ≤ the_end
IsShort (Writes p bytes) = p + length bytes ≤ the_end
IsShort (Cuts n) = n ≤ the_end
IsShort _ = Unit {0}

abbrev pub WantsOk : Mode → Use → Type 0
WantsOk mode x = ByteUse x × (x.mode ≡ mode)

want_ok : (l : Raid0) (fid : Fid) (mode : Mode) (i : ℕ) (extent : Extent) (x : Use) → extent.first ≤ extent.last → extent.last ≤ the_end
    → want l fid mode i extent ≡ x → WantsOk mode x
want_ok l fid mode i extent x first last e = (
  record {
    extent = extent;
    policy = ap (λ (u : Use). u.policy) (sym e);
    first = first;
    last =
        last;
  },
  ap (λ (u : Use). u.mode) (sym e),
)

run_ok : (l : Raid0) (fid : Fid) (mode : Mode) (p end : ℕ) (is : List ℕ) (x : Use) → end ≤ the_end → In x (wants_run l fid mode p end is)
    → WantsOk mode x
run_ok l fid mode p end [] x short i = absurd i
run_ok l fid mode p end (s ∷ is) x short i = by (nat_lt (below_on l s p) (below_on l s end)) refl i (run_ok l fid mode p end is x short)
  where
    in_order : (a b : ℕ) → nat_lt a b ≡ true → a ≤ b - 1
    in_order a b e = grind (arith, nat_tests, e)

    under : (b e : ℕ) → b ≤ e → e ≤ the_end → b - 1 ≤ the_end
    under b e low short = omega (arith, low, short)

    by : (b : Bool) → nat_lt (below_on l s p) (below_on l s end) ≡ b
        → In x (if b then want l fid mode s (record { first = below_on l s p; last = below_on l s end - 1 }) ∷ wants_run l fid mode p end is
        else wants_run l fid mode p end is)
        → (In x (wants_run l fid mode p end is) → WantsOk mode x) → WantsOk mode x
    by true q (inl e) more =
        want_ok l fid mode s (record { first = below_on l s p; last = below_on l s end - 1 }) x
        (in_order (below_on l s p) (below_on l s end) q) (under (below_on l s end) end (below_low l s end) short) e
    by true q (inr j) more = more j
    by false q j more = more j

low_end : (l : Raid0) (s p : ℕ) → p ≤ the_end → below_on l s p ≤ the_end
low_end l s p short = let low = below_low l s p in omega (arith, low, short)

rest_ok : (l : Raid0) (fid : Fid) (p : ℕ) (is : List ℕ) (x : Use) → p ≤ the_end → In x (wants_rest l fid p is) → WantsOk PR x
rest_ok l fid p [] x short i = absurd i
rest_ok l fid p (s ∷ is) x short (inl e) = want_ok l fid PR s (to_end (below_on l s p)) x (low_end l s p short) (omega arith) e
rest_ok l fid p (s ∷ is) x short (inr i) = rest_ok l fid p is x short i

cut_ok : (l : Raid0) (fid : Fid) (n : ℕ) (is : List ℕ) (x : Use) → n ≤ the_end → In x (wants_cut l fid n is) → WantsOk PW x
cut_ok l fid n [] x short i = absurd i
cut_ok l fid n (s ∷ is) x short (inl e) = want_ok l fid PW s (cut_extent (below_on l s n)) x
    (let low = low_end l s n short in omega (arith, low)) (omega arith) e
cut_ok l fid n (s ∷ is) x short (inr i) = cut_ok l fid n is x short i

pub wants_ok : (l : Raid0) (fid : Fid) (kind : Kind) → IsShort kind → (x : Use) → In x (wants_of l fid kind) → WantsOk (mode_of kind) x
wants_ok l fid (Narrow p n) k x i = run_ok l fid PR p (p + n) (stripes l) x k i
wants_ok l fid (Wide p n) k x i = rest_ok l fid p (stripes l) x (omega (arith, k)) i
wants_ok l fid (Writes p bytes) k x i = run_ok l fid PW p (p + length bytes) (stripes l) x k i
wants_ok l fid (Cuts n) k x i = cut_ok l fid n (stripes l) x k i
wants_ok l fid (Stats mode links) k x i = rest_ok l fid 0 (stripes l) x (omega arith) i
wants_ok l fid (Glimpses sizes) k x i = rest_ok l fid 0 (stripes l) x (omega arith) i

-- each object that is left is one of those, and each of those has its lock in use, or is left
pub wanted_in : (all : List Use) (w : Work) → InOrder all w → (x : Use) → In x w.left → In x all
wanted_in all w order x i = subst (λ (us : List Use). In x us) (sym order) (in_right x (map (λ (u : Using). u.want) w.used) w.left i)

pub lacks_in : (past : List Line) (c : ℕ) (all : List Use) (w : Work) (k : LacksOf past c all w) → In k.wanted all
lacks_in past c all w k = wanted_in all w k.order k.wanted (subst (λ (us : List Use). In k.wanted us) (sym k.first) (inl refl))

pub used_or_left : (all : List Use) (w : Work) → InOrder all w → (x : Use) → In x all → ((u : Using) × In u w.used × (u.want ≡ x))
    ⊎ In x w.left
used_or_left all w order x i =
    ⊎_elim (λ (j : In x (map (λ (u : Using). u.want) w.used)). inl (in_map (λ (u : Using). u.want) x w.used j)) (λ (j : In x w.left). inr j)
    (in_append x (map (λ (u : Using). u.want) w.used) w.left (subst (λ (us : List Use). In x us) order i))

-- it asks for that lock
pub enqueues : (x : Use) (b : ByteUse x) → enqueue_of x ≡ op.Enqueue x.resource x.mode b.extent
enqueues x b = ap (λ (q : Policy). elim q [ Range extent ↦ op.Enqueue x.resource x.mode extent | Bits bits ↦ op.Size x.resource ]) b.policy

-- ---- a held lock that serves

first_in : (hs : List HeldLock) (h : HeldLock) → slice_get hs 0 ≡ Some h → In h hs
first_in [] h e = absurd (cc)
first_in (g ∷ hs) h e = inl (let q : g ≡ h = cc in q)

those_serve : (wanted : Use) (held : List HeldLock) (h : HeldLock) → slice_get (those (Serving wanted) held) 0 ≡ Some h → In h held
    × (serves_use wanted h ≡ true)
those_serve wanted held h e = let r = in_filter (matches (Serving wanted)) h (in_order held) (first_in (those (Serving wanted) held) h e)
    in (in_ordered h held r.0, r.1)

pub serving_is : (wanted : Use) (held : List HeldLock) (h : HeldLock) → serving wanted held ≡ Some h → In h held
    × (serves_use wanted h ≡ true)
serving_is wanted held h e = by (slice_get (those (ServingToTheEnd wanted) held) 0) refl
  where
    by : (o : Option HeldLock) → slice_get (those (ServingToTheEnd wanted) held) 0 ≡ o → In h held × (serves_use wanted h ≡ true)
    by None q = those_serve wanted held h (let s : serving wanted held ≡ slice_get (those (Serving wanted) held) 0 = rw q refl in sym s ∙ e)
    by (Some g) q =
        let s : serving wanted held ≡ Some g = rw q refl in
        let same : Some g ≡ Some h = sym s ∙ e in
        let is : g ≡ h = cc in
        let r = in_filter (matches (ServingToTheEnd wanted)) h (in_order held) (first_in (those (ServingToTheEnd wanted) held) h (q ∙ same))
        in
        (in_ordered h held r.0, (and_parts (serves_use wanted h) (reaches_end h.lock.ask.policy) r.1).0)

-- where one reaches the end, this one does
pub serving_end : (wanted : Use) (held : List HeldLock) (h : HeldLock) → serving wanted held ≡ Some h → (x : HeldLock) → In x held
    → matches (ServingToTheEnd wanted) x ≡ true → reaches_end h.lock.ask.policy ≡ true
serving_end wanted held h e x i fits = by (those (ServingToTheEnd wanted) held) refl
    (in_filtered (matches (ServingToTheEnd wanted)) x (in_order held) (ordered_in x held i) fits)
  where
    by : (xs : List HeldLock) → those (ServingToTheEnd wanted) held ≡ xs → In x xs → reaches_end h.lock.ask.policy ≡ true
    by [] q j = absurd j
    by (g ∷ xs) q j =
        let s : serving wanted held ≡ Some g = rw q refl in
        let same : Some g ≡ Some h = sym s ∙ e in
        let is : g ≡ h = cc in
        let r = in_filter (matches (ServingToTheEnd wanted)) h (in_order held) (subst (λ (ys : List HeldLock). In h ys) (sym q) (inl is)) in
        (and_parts (serves_use wanted h) (reaches_end h.lock.ask.policy) r.1).1

pub resource_is : (a b : Resource) → same_resource a b ≡ true → a ≡ b
resource_is a b e =
    let q = and_parts (nat_eq a.fid.0 b.fid.0) (nat_eq a.stripe b.stripe) e in
    ap (λ (n : ℕ). record { fid = record { 0 = n }; stripe = a.stripe }) (eqb-true a.fid.0 b.fid.0 q.0)
    ∙ ap (λ (n : ℕ). record { fid = b.fid; stripe = n }) (eqb-true a.stripe b.stripe q.1)

covers_range : (p q : Policy) → HasRange q → covers p q ≡ true → HasRange p
covers_range (Range a) q r e = tt
covers_range (Bits a) (Range b) r e = absurd (cc)
covers_range (Bits a) (Bits b) r e = absurd r

-- it is of that target, on that object, and not marked
pub record Serves (wanted : Use) (h : HeldLock) : Type 0 where
  pub of_target : h.target.0 ≡ wanted.target.0
  pub of_object : h.lock.resource ≡ wanted.resource
  pub unmarked : h.marked ≡ false
  pub ranged : HasRange h.lock.ask.policy

pub serves_so : (wanted : Use) (h : HeldLock) → HasRange wanted.policy → serves_use wanted h ≡ true → Serves wanted h
serves_so wanted h range e =
    let a = and_parts (is_for wanted.target wanted.resource h && serves h.lock.ask.mode wanted.mode)
    (covers h.lock.ask.policy wanted.policy) e in
    let f = and_parts (is_for wanted.target wanted.resource h) (serves h.lock.ask.mode wanted.mode) a.0 in
    let b = and_parts (nat_eq h.target.0 wanted.target.0 && same_resource h.lock.resource wanted.resource) (not h.marked) f.0 in
    let d = and_parts (nat_eq h.target.0 wanted.target.0) (same_resource h.lock.resource wanted.resource) b.0 in
    record {
      of_target = eqb-true h.target.0 wanted.target.0 d.0;
      of_object = resource_is h.lock.resource wanted.resource d.1;
      unmarked = not-true h.marked b.1;
      ranged = covers_range h.lock.ask.policy wanted.policy range a.1;
    }

pub does_so : (wanted : Use) (h : HeldLock) → serves_use wanted h ≡ true → LockDoes (record { want = wanted; lock = h.lock })
does_so wanted h e =
    let a = and_parts (is_for wanted.target wanted.resource h && serves h.lock.ask.mode wanted.mode)
    (covers h.lock.ask.policy wanted.policy) e in
    ((and_parts (is_for wanted.target wanted.resource h) (serves h.lock.ask.mode wanted.mode) a.0).1, a.1)

-- ---- what is left of the store by entries is left of the client

pub store_so : (es : List Entry) (k : ClientState) → store_turn k.store es ≡ (turn_of k es).store
store_so [] k = refl
store_so (e ∷ es) k = store_so es (after k e)
