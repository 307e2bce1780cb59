-- The bytes of the plain machine, offset by offset of an object: what a piece, a write and a cut make there, and that nothing else changes
-- any.
use Rattle.std.proofs.Common.{◌≡◌, ℕ, zero, suc, ◌+◌, ◌<◌, ◌≤◌, Bool, true, false, List, [], ◌∷◌, length, Option, Some, None, ◌⊎◌, inl, inr}
use Rattle.std.proofs.Common.{refl, sym, subst, ap, ◌∙◌, arith, add-one}
use Rattle.std.specs.Prelude.{◌≢◌, nat_eq, nat_lt, ◌==◌, ◌&&◌, is_some, if◌then◌else◌}
use Rattle.std.specs.Map.{lookup}
use Rattle.std.specs.Option.{unwrap_or}
use Rattle.std.proofs.lemmas.Bool.{eqb-true, eqb-false, ltb-true, cond_both}
use Rattle.std.proofs.lemmas.Bool.Decides.{nat_tests}
use Rattle.lu_base.specs.declared.ids.Fid.{Fid}
use Rattle.lu_base.specs.declared.ids.Txn.{Txn as TxnOf}
use Rattle.lu_base.specs.declared.ids.Who.{Who}
use Rattle.lu_base.specs.declared.locks.Resource.{Resource}
use Rattle.lu_layout.specs.Raid0.{Raid0, stripe_of, offset_of, below_of}
use Rattle.lu_layout.specs.Sound.{IsLayout}
use Rattle.lu_layout.proofs.Below.{IsCount-is, at_reached}
use Rattle.lu_held.specs.Locks.{same_resource}
use Rattle.lu_msg.specs.declared.calls.Call.{Call}
use Rattle.lu_msg.specs.declared.calls.Call.TheVariants as call
use Rattle.lu_msg.specs.declared.operations.Op.{Op}
use Rattle.lu_msg.specs.declared.operations.Op.TheVariants as op
use Rattle.lu_spec_machine.specs.declared.acts.Act.{Act as ActOf}
use Rattle.lu_spec_machine.specs.declared.acts.Deed.TheVariants.{Data}
use Rattle.lu_spec_machine.specs.Bytes.{FileBytes, object_at, on_object, put_piece, write, cut}
use Rattle.lu_spec_machine.specs.Machine.{Machine, bytes_of, with_bytes, was_file, data_change, piece_next, next, object_of}
use Rattle.lu_spec_machine.specs.Objects.{Object, put_bytes, cut_bytes}
use Rattle.lu_spec_machine.specs.Places.{found_at}
use Rattle.lu_spec_machine.specs.Tree.{Inode, no_file, same_fid, fid_cmp, layout}
use Rattle.lu_spec_machine.proofs.Bytes.{write_puts, cut_ends}
use Rattle.lu_spec_machine.proofs.Keys.{fid_tells, find-put}
use Rattle.lu_spec_machine.proofs.Transactions.{flushes_stay, pieces_reach}
use Rattle.lu_spec_client.specs.Stripes.{below_on, bytes_on}
use Rattle.lu_proof_objects.proofs.Pieces.{below_is}
use Rattle.lu_proof_objects.proofs.Tables.{object_is}
use Rattle.lu_proof_lawful.proofs.Preconditions.Guards.{IsChange}
use Rattle.lu_proof_bytes.specs.Object.Words.{Write, Cut, overlay, after_at}
use Rattle.lu_proof_objects.proofs.Objects.{object_changed}
use Rattle.lu_spec_laws.specs.Words.Histories.{none, names_act, after_item}

-- ---- one object of a file

on_own : (f : Object → Object) (i : ℕ) (m : FileBytes) → object_at (on_object f i m) i ≡ f (object_at m i)
on_own f zero [] = refl
on_own f zero (o ∷ os) = refl
on_own f (suc i) [] = on_own f i []
on_own f (suc i) (o ∷ os) = on_own f i os

on_other : (f : Object → Object) (j i : ℕ) (m : FileBytes) → (j ≡ i → ⊥) → object_at (on_object f j m) i ≡ object_at m i
on_other f zero zero m n = absurd (n refl)
on_other f zero (suc i) [] n = refl
on_other f zero (suc i) (o ∷ os) n = refl
on_other f (suc j) zero [] n = refl
on_other f (suc j) zero (o ∷ os) n = refl
on_other f (suc j) (suc i) [] n = on_other f j i [] (λ e. n (ap suc e))
on_other f (suc j) (suc i) (o ∷ os) n = on_other f j i os (λ e. n (ap suc e))

-- ---- a write

before_run : (at : ℕ) (bs : List ℕ) (q : ℕ) (x : Option ℕ) → q < at → overlay at bs q x ≡ x
before_run at [] q x lt = refl
before_run at (b ∷ bs) q x lt = let off : nat_eq at q ≡ false = grind (arith, nat_tests, lt)
    in rw off (before_run (suc at) bs q x (omega (arith, lt)))

below_step : (l : Raid0) (i n : ℕ) → below_of l i (suc n) ≡ below_of l i n + (if stripe_of l n == i then 1 else 0)
unfolding below_of
below_step l i n = refl

written_from : (l : Raid0) (i p : ℕ) (bs : List ℕ) (m : FileBytes) (q : ℕ) → IsLayout l → i < length l.targets
    → found_at (object_at (write l p bs m) i) q ≡ overlay (below_of l i p) (bytes_on l i p bs) q (found_at (object_at m i) q)
written_from l i p [] m q good here = refl
written_from l i p (b ∷ bs) m q good here = by (stripe_of l p == i) refl
    (written_from l i (p + 1) bs (put_piece (stripe_of l p) (offset_of l p) (b ∷ []) m) q good here)
  where
    new : FileBytes
    new = put_piece (stripe_of l p) (offset_of l p) (b ∷ []) m

    next : below_of l i (p + 1) ≡ below_of l i (suc p)
    next = ap (below_of l i) (add-one p)

    by : (v : Bool) → (stripe_of l p == i) ≡ v → found_at (object_at (write l (p + 1) bs new) i) q
        ≡ overlay (below_of l i (p + 1)) (bytes_on l i (p + 1) bs) q (found_at (object_at new i) q)
        → found_at (object_at (write l (p + 1) bs new) i) q ≡ overlay (below_of l i p)
        (if v then b ∷ bytes_on l i (p + 1) bs else bytes_on l i (p + 1) bs) q (found_at (object_at m i) q)
    by false e ih =
        let s : below_of l i (p + 1) ≡ below_of l i p = next ∙ below_step l i p ∙ ap (λ (v : Bool). below_of l i p + (if v then 1 else 0)) e
        ∙ omega arith in
        let other : object_at new i ≡ object_at m i = on_other (put_bytes (offset_of l p) (b ∷ [])) (stripe_of l p) i m
        (eqb-false (stripe_of l p) i e) in
        ih ∙ ap (λ (n : ℕ). overlay n (bytes_on l i (p + 1) bs) q (found_at (object_at new i) q)) s
        ∙ ap (λ (o : Object). overlay (below_of l i p) (bytes_on l i (p + 1) bs) q (found_at o q)) other
    by true e ih =
        let same : stripe_of l p ≡ i = eqb-true (stripe_of l p) i e in
        let at : offset_of l p ≡ below_of l i p = IsCount-is l i p (offset_of l p) good here
        (at_reached l i p (stripe_of l p) (offset_of l p) good refl refl (sym same)) in
        let s : below_of l i (p + 1) ≡ suc (below_of l i p) = next ∙ below_step l i p
        ∙ ap (λ (v : Bool). below_of l i p + (if v then 1 else 0)) e ∙ add-one (below_of l i p) in
        let own : object_at new i ≡ put_bytes (below_of l i p) (b ∷ []) (object_at m i) =
        ap (λ (j : ℕ). object_at (put_piece j (offset_of l p) (b ∷ []) m) i) same ∙ on_own (put_bytes (offset_of l p) (b ∷ [])) i m
        ∙ ap (λ (o : ℕ). put_bytes o (b ∷ []) (object_at m i)) at in
        ih
        ∙ ap (λ (n : ℕ). overlay n (bytes_on l i (p + 1) bs) q (found_at (object_at new i) q)) s
        ∙ ap (λ (o : Object). overlay (suc (below_of l i p)) (bytes_on l i (p + 1) bs) q (found_at o q)) own
        ∙ ap (λ (x : Option ℕ). overlay (suc (below_of l i p)) (bytes_on l i (p + 1) bs) q x)
        ((object_changed (object_at m i) q).put (below_of l i p) (b ∷ []))
        ∙ first (nat_eq (below_of l i p) q) refl
      where
        first : (v : Bool) → nat_eq (below_of l i p) q ≡ v
            → overlay (suc (below_of l i p)) (bytes_on l i (p + 1) bs) q (if v then Some b else found_at (object_at m i) q)
            ≡ (if v then Some b else overlay (suc (below_of l i p)) (bytes_on l i (p + 1) bs) q (found_at (object_at m i) q))
        first true f = before_run (suc (below_of l i p)) (bytes_on l i (p + 1) bs) q (Some b)
            (let is = eqb-true (below_of l i p) q f in omega (arith, is))
        first false f = refl

-- of the bytes of a write those that lie on the stripe are put to its object
pub write_on : (l : Raid0) (i p : ℕ) (bs : List ℕ) (m : FileBytes) (q : ℕ) → IsLayout l → i < length l.targets
    → found_at (object_at (write l p bs m) i) q ≡ overlay (below_on l i p) (bytes_on l i p bs) q (found_at (object_at m i) q)
write_on l i p bs m q good here = written_from l i p bs m q good here
    ∙ ap (λ (n : ℕ). overlay n (bytes_on l i p bs) q (found_at (object_at m i) q)) (below_is l i p good here)

-- and the object is cut where the stripe ends below the new size
pub cut_on : (l : Raid0) (i n : ℕ) (m : FileBytes) (q : ℕ) → IsLayout l → i < length l.targets → found_at (object_at (cut l n m) i) q
    ≡ after_at (Cut (below_on l i n)) q (found_at (object_at m i) q)
cut_on l i n m q good here =
    ap (λ (o : Object). found_at o q) ((cut_ends l n m good).objects i here
    ∙ ap (λ (k : ℕ). cut_bytes k (object_at m i)) (below_is l i n good here))
    ∙ (object_changed (object_at m i) q).cut (below_on l i n)

-- ---- the machine

-- the byte at an offset of an object
abbrev pub byte_in : Machine → Resource → ℕ → Option ℕ
byte_in m r q = found_at (object_of m r.fid r.stripe) q

-- an operation on names leaves all bytes
pub names_leave : (osts : ℕ) (m : Machine) (who : Who) (number : TxnOf) (o : Option Op) (r : Resource) (q : ℕ)
    → byte_in (after_item osts m (names_act who number o)) r q ≡ byte_in m r q
names_leave osts m who number None r q = refl
names_leave osts m who number (Some o) r q = refl

-- what a put or a cut does to an offset of an object
abbrev pub piece_at : Resource → Op → ℕ → Option ℕ → Option ℕ
piece_at r (op.Put resource cookie at bytes) q x = if same_resource resource r then after_at (Write at bytes) q x else x
piece_at r (op.Cut resource cookie n) q x = if same_resource resource r then after_at (Cut n) q x else x
piece_at r o q x = x

apart_from : (a b : Resource) → same_resource a b ≡ false → (b.fid ≢ a.fid) ⊎ (b.stripe ≢ a.stripe)
apart_from a b e = by (nat_eq a.fid.0 b.fid.0) refl (nat_eq a.stripe b.stripe) refl e
  where
    by : (u : Bool) → nat_eq a.fid.0 b.fid.0 ≡ u → (v : Bool) → nat_eq a.stripe b.stripe ≡ v → (u && v) ≡ false → (b.fid ≢ a.fid)
        ⊎ (b.stripe ≢ a.stripe)
    by false f v g e = inl (λ same. eqb-false a.fid.0 b.fid.0 f (ap (λ (x : Fid). x.0) (sym same)))
    by true f false g e = inr (λ same. eqb-false a.stripe b.stripe g (sym same))
    by true f true g e = absurd (cc)

pub piece_reaches : (m : Machine) (o : Op) (r : Resource) (q : ℕ) → byte_in (piece_next m o) r q ≡ piece_at r o q (byte_in m r q)
piece_reaches m (op.Put resource cookie at bytes) r q = by (same_resource resource r) refl
  where
    by : (v : Bool) → same_resource resource r ≡ v → byte_in (piece_next m (op.Put resource cookie at bytes)) r q
        ≡ (if v then after_at (Write at bytes) q (byte_in m r q) else byte_in m r q)
    by true e =
        subst (λ (x : Resource). byte_in (piece_next m (op.Put resource cookie at bytes)) x q ≡ after_at (Write at bytes) q (byte_in m x q))
        (object_is resource r e)
        (ap (λ (o : Object). found_at o q) ((pieces_reach m resource cookie).put at bytes).own
        ∙ (object_changed (object_of m resource.fid resource.stripe) q).put at bytes)
    by false e = ap (λ (o : Object). found_at o q) (((pieces_reach m resource cookie).put at bytes).others r.fid r.stripe
        (apart_from resource r e))
piece_reaches m (op.Cut resource cookie n) r q = by (same_resource resource r) refl
  where
    by : (v : Bool) → same_resource resource r ≡ v → byte_in (piece_next m (op.Cut resource cookie n)) r q
        ≡ (if v then after_at (Cut n) q (byte_in m r q) else byte_in m r q)
    by true e =
        subst (λ (x : Resource). byte_in (piece_next m (op.Cut resource cookie n)) x q ≡ after_at (Cut n) q (byte_in m x q))
        (object_is resource r e)
        (ap (λ (o : Object). found_at o q) ((pieces_reach m resource cookie).cut n).own
        ∙ (object_changed (object_of m resource.fid resource.stripe) q).cut n)
    by false e = ap (λ (o : Object). found_at o q) (((pieces_reach m resource cookie).cut n).others r.fid r.stripe
        (apart_from resource r e))
piece_reaches m o r q = refl

-- it leaves the names and the numbers
pub piece_leaves : (m : Machine) (o : Op) → ((piece_next m o).tree ≡ m.tree) × ((piece_next m o).last ≡ m.last)
piece_leaves m (op.Put resource cookie at bytes) = (refl, refl)
piece_leaves m (op.Cut resource cookie n) = (refl, refl)
piece_leaves m o = (refl, refl)

-- ---- calls on bytes

abbrev pub on_file : Who → Fid → Call → ActOf
on_file who file x = record { who = who; number = none; deed = Data file x }

pub data_leaves : (osts : ℕ) (m : Machine) (who : Who) (f : Fid) (k : Call) → ((next osts m (on_file who f k)).tree ≡ m.tree)
    × ((next osts m (on_file who f k)).last ≡ m.last)
data_leaves osts m who f k = (
  cond_both (was_file m f) (with_bytes m f (data_change m f k (bytes_of m f))) m (λ (x : Machine). x.tree ≡ m.tree) (λ _. refl) (λ _. refl),
  cond_both (was_file m f) (with_bytes m f (data_change m f k (bytes_of m f))) m (λ (x : Machine). x.last ≡ m.last) (λ _. refl) (λ _. refl),
)

-- a read and a flush change nothing
abbrev pub IsStill : Call → Type 0
IsStill (call.Read h offset count) = Unit {0}
IsStill (call.Flush h) = Unit {0}
IsStill x = ⊥

pub still_leaves : (osts : ℕ) (m : Machine) (who : Who) (f : Fid) (k : Call) (r : Resource) (q : ℕ) → IsStill k
    → byte_in (next osts m (on_file who f k)) r q ≡ byte_in m r q
still_leaves osts m who f (call.Read h offset count) r q still =
    ap (λ (b : FileBytes). found_at (object_at b r.stripe) q) ((flushes_stay osts m (on_file who f (call.Flush h)) f h).bytes r.fid)
still_leaves osts m who f (call.Flush h) r q still = ap (λ (b : FileBytes). found_at (object_at b r.stripe) q)
    ((flushes_stay osts m (on_file who f (call.Flush h)) f h).bytes r.fid)
still_leaves osts m who f k r q still = absurd still

-- what a write or a cut of a file does to an offset of an object, through a layout
abbrev pub here : Raid0 → Fid → Resource → Bool
here l f r = nat_eq f.0 r.fid.0 && nat_lt r.stripe (length l.targets)

abbrev pub changes_at : Raid0 → Fid → Call → Resource → ℕ → Option ℕ → Option ℕ
changes_at l f (call.Write h p bs) r q x = if here l f r then overlay (below_on l r.stripe p) (bytes_on l r.stripe p bs) q x else x
changes_at l f (call.Cut h n) r q x = if here l f r then after_at (Cut (below_on l r.stripe n)) q x else x
changes_at l f k r q x = x

-- a file that has a layout was one
pub is_file : (m : Machine) (f : Fid) → IsLayout (layout m.tree f) → was_file m f ≡ true
is_file m f good = by (lookup (same_fid f) m.tree.files) good
  where
    by : (o : Option Inode) → IsLayout (unwrap_or o no_file).layout → is_some o ≡ true
    by (Some x) good = refl
    by None good = absurd (let some = good.targets.0 in omega (arith, some))

put_in : (m : Machine) (f : Fid) (b : FileBytes) (r : Resource) (q : ℕ) (x : Option ℕ)
    → (same_fid f r.fid ≡ true → found_at (object_at b r.stripe) q ≡ x) → (same_fid f r.fid ≡ false → byte_in m r q ≡ x)
    → byte_in (with_bytes m f b) r q ≡ x
put_in m f b r q x own other = ap (λ (o : Option FileBytes). found_at (object_at (unwrap_or o []) r.stripe) q)
    (find-put same_fid fid_tells fid_cmp f b r.fid m.bytes) ∙ by (same_fid f r.fid) refl
  where
    by : (v : Bool) → same_fid f r.fid ≡ v → found_at (object_at (unwrap_or (if v then Some b else lookup (same_fid r.fid) m.bytes) [])
        r.stripe) q ≡ x
    by true e = own e
    by false e = other e

fid_one : (f g : Fid) → same_fid f g ≡ true → f ≡ g
fid_one f g e = ap (λ (n : ℕ). record { 0 = n }) (eqb-true f.0 g.0 e)

pub data_reaches : (osts : ℕ) (m : Machine) (who : Who) (f : Fid) (k : Call) (l : Raid0) (r : Resource) (q : ℕ) → IsLayout l
    → layout m.tree f ≡ l → IsChange k → byte_in (next osts m (on_file who f k)) r q ≡ changes_at l f k r q (byte_in m r q)
data_reaches osts m who f k l r q good is changes =
    ap (λ (b : Bool). byte_in (if b then with_bytes m f (data_change m f k (bytes_of m f)) else m) r q)
    (is_file m f (subst IsLayout (sym is) good)) ∙ by k changes
  where
    with_test : (a b : Bool) (x y z : Option ℕ) → (a ≡ true → b ≡ true → z ≡ x) → (a ≡ true → b ≡ false → z ≡ y) → (a ≡ true) → z
        ≡ (if a && b then x else y)
    with_test true true x y z f g e = f refl refl
    with_test true false x y z f g e = g refl refl
    with_test false b x y z f g e = absurd (cc)

    another : (a b : Bool) (x y : Option ℕ) → a ≡ false → y ≡ (if a && b then x else y)
    another false b x y e = refl
    another true b x y e = absurd (cc)

    lacks : nat_lt r.stripe (length l.targets) ≡ false → length l.targets ≤ r.stripe
    lacks e = grind (arith, nat_tests, e)

    low : nat_lt r.stripe (length l.targets) ≡ true → r.stripe < length l.targets
    low e = ltb-true r.stripe (length l.targets) e

    old : FileBytes
    old = bytes_of m f

    -- of the file that is changed
    moved : (e : same_fid f r.fid ≡ true) → found_at (object_at old r.stripe) q ≡ byte_in m r q
    moved e = ap (λ (g : Fid). found_at (object_of m g r.stripe) q) (fid_one f r.fid e)

    by : (k : Call) → IsChange k → byte_in (with_bytes m f (data_change m f k old)) r q ≡ changes_at l f k r q (byte_in m r q)
    by (call.Write h p bs) c =
        put_in m f (write (layout m.tree f) p bs old) r q (changes_at l f (call.Write h p bs) r q (byte_in m r q))
        (λ e. ap (λ (y : Raid0). found_at (object_at (write y p bs old) r.stripe) q) is
        ∙ with_test (nat_eq f.0 r.fid.0) (nat_lt r.stripe (length l.targets))
        (overlay (below_on l r.stripe p) (bytes_on l r.stripe p bs) q (byte_in m r q)) (byte_in m r q)
        (found_at (object_at (write l p bs old) r.stripe) q)
        (λ a b. write_on l r.stripe p bs old q good (low b) ∙ ap
        (λ (x : Option ℕ). overlay (below_on l r.stripe p) (bytes_on l r.stripe p bs) q x) (moved e))
        (λ a b. ap (λ (o : Object). found_at o q) ((write_puts l p bs old good).lacks r.stripe (lacks b)) ∙ moved e) e)
        (λ e. another (nat_eq f.0 r.fid.0) (nat_lt r.stripe (length l.targets))
        (overlay (below_on l r.stripe p) (bytes_on l r.stripe p bs) q (byte_in m r q)) (byte_in m r q) e)
    by (call.Cut h n) c =
        put_in m f (cut (layout m.tree f) n old) r q (changes_at l f (call.Cut h n) r q (byte_in m r q))
        (λ e. ap (λ (y : Raid0). found_at (object_at (cut y n old) r.stripe) q) is
        ∙ with_test (nat_eq f.0 r.fid.0) (nat_lt r.stripe (length l.targets)) (after_at (Cut (below_on l r.stripe n)) q (byte_in m r q))
        (byte_in m r q) (found_at (object_at (cut l n old) r.stripe) q)
        (λ a b. cut_on l r.stripe n old q good (low b) ∙ ap (λ (x : Option ℕ). after_at (Cut (below_on l r.stripe n)) q x) (moved e))
        (λ a b. ap (λ (o : Object). found_at o q) ((cut_ends l n old good).lacks r.stripe (lacks b)) ∙ moved e) e)
        (λ e. another (nat_eq f.0 r.fid.0) (nat_lt r.stripe (length l.targets)) (after_at (Cut (below_on l r.stripe n)) q (byte_in m r q))
        (byte_in m r q) e)
    by k c = absurd c
