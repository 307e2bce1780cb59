-- The end of an object and the offsets of it that were shown, as a client that owes nothing has them under a lock that it holds, are what
-- the
-- story says that it knows; and each byte that it has there is the one that it takes the offset for.
use Rattle.std.proofs.Common.{◌≡◌, ℕ, suc, ◌-◌, ◌<◌, ◌≤◌, Bool, true, false, List, [], ◌∷◌, Option, Some, None, ◌⊎◌, inl, inr, refl, sym}
use Rattle.std.proofs.Common.{subst, ap, ◌∙◌, arith}
use Rattle.std.specs.Prelude.{nat_eq, nat_lt, ◌&&◌, if◌then◌else◌}
use Rattle.std.specs.Option.{unwrap_or}
use Rattle.std.proofs.lemmas.Bool.Decides.{nat_tests}
use Rattle.lu_base.specs.declared.locks.Lock.{Lock as TableLock}
use Rattle.lu_base.specs.declared.locks.Resource.{Resource}
use Rattle.lu_spec_machine.specs.Places.{found_at, end_of}
use Rattle.lu_spec_machine.proofs.Places.{end_past, end_last}
use Rattle.lu_spec_entries.specs.declared.changes.Dirty.{Dirty}
use Rattle.lu_spec_entries.specs.Words.{Line}
use Rattle.lu_spec_client.specs.Caches.{noted, patch_at}
use Rattle.lu_spec_client.specs.Looks.{size_under}
use Rattle.lu_spec_client.specs.Patches as rows
use Rattle.lu_spec_client.specs.Patches.{Patch, size_over}
use Rattle.lu_spec_client.specs.States.{Store, store_at, store_turn}
use Rattle.lu_proof_lawful.proofs.Preconditions.HeedMarks.{owed_of}
use Rattle.lu_proof_lawful.proofs.Preconditions.Lists.{self}
use Rattle.lu_proof_bytes.specs.Object.Words.{Lock, Op, Flush, Answer, Done, Entry, Heard, Hold, Drop}
use Rattle.lu_proof_bytes.specs.Object.Folds.{HeldBy, pending, dirty, known, ends, end_acked, is_some, base}
use Rattle.lu_proof_bytes.specs.Object.Guards.{EndAt, IsOver}
use Rattle.lu_proof_objects.specs.Points.{byte_of}
use Rattle.lu_proof_lawful.specs.Projection.Locks.{lock_of}
use Rattle.lu_proof_lawful.proofs.Refinement.TiedStore.{StoreBy, PatchTied, life_number, store_owed}

-- ---- under a held lock an end is known

acked_some : (op : Op) (a : Answer) (x : Option ℕ) → is_some x ≡ true → is_some (end_acked op a x) ≡ true
acked_some (Flush k ch) (Done m) (Some e) s = refl
acked_some (Flush k ch) (Done m) None s = s
acked_some op a x s = s

held_ends : (h : List Entry) (l : Lock) → HeldBy h l → is_some (ends l.life l.cookie h) ≡ true
held_ends [] l i = absurd i
held_ends (Hold m s sn ∷ h) l i = by (nat_eq l.life m.life && nat_eq l.cookie m.cookie) refl i (λ j. held_ends h l j)
  where
    by : (b : Bool) → (nat_eq l.life m.life && nat_eq l.cookie m.cookie) ≡ b → (m ≡ l) ⊎ HeldBy h l
        → (HeldBy h l → is_some (ends l.life l.cookie h) ≡ true) → is_some (if b then Some s else ends l.life l.cookie h) ≡ true
    by true e j ih = refl
    by false e (inr j) ih = ih j
    by false e (inl j) ih = absurd (let z : (nat_eq l.life l.life && nat_eq l.cookie l.cookie) ≡ false =
        ap (λ (x : Lock). nat_eq l.life x.life && nat_eq l.cookie x.cookie) (sym j) ∙ e
        in let y : (nat_eq l.life l.life && nat_eq l.cookie l.cookie) ≡ true = rw (self l.life, self l.cookie) refl in let x : true
        ≡ false = sym y ∙ z in cc)
held_ends (Drop m ∷ h) l i = held_ends h l i.1
held_ends (Heard r a ∷ h) l i = by (nat_eq l.life r.life) (held_ends h l i)
  where
    by : (b : Bool) → is_some (ends l.life l.cookie h) ≡ true → is_some
        (if b then end_acked r.op a (ends l.life l.cookie h) else ends l.life l.cookie h) ≡ true
    by true s = acked_some r.op a (ends l.life l.cookie h) s
    by false s = s
held_ends (_ ∷ h) l i = held_ends h l i

its_end : (h : List Entry) (l : Lock) → HeldBy h l → (e : ℕ) × (ends l.life l.cookie h ≡ Some e)
its_end h l i = by (ends l.life l.cookie h) refl (held_ends h l i)
  where
    by : (x : Option ℕ) → ends l.life l.cookie h ≡ x → is_some x ≡ true → (e : ℕ) × (ends l.life l.cookie h ≡ Some e)
    by None q s = absurd (cc)
    by (Some e) q s = (e, q)

-- ---- the object's end with the client's own changes

base_is : (o : Option ℕ) (e : ℕ) → rows.base o e ≡ base o e
base_is None e = refl
base_is (Some q) e = refl

none_dirty : (o : Option Dirty) → o ≡ None → byte_of o ≡ None
none_dirty o e = ap byte_of e

some_dirty : (o : Option Dirty) → (o ≡ None → ⊥) → is_some (byte_of o) ≡ true
some_dirty None n = absurd (n refl)
some_dirty (Some d) n = refl

pub over_is : (patch : Patch) (w : ℕ) (h : List Entry) (e : ℕ) → PatchTied patch w h → IsOver h w e (size_over e patch)
over_is patch w h e tie = (
  omega (arith, same),
  λ p le. sym (tie.dirty p) ∙ none_dirty (found_at patch.dirty p) (end_past patch.dirty p (omega (arith, le))),
  by (nat_lt (base (pending w h) e) (end_of patch.dirty)) refl,
)
  where
    same : rows.base patch.pending e ≡ base (pending w h) e
    same = base_is patch.pending e ∙ ap (λ (o : Option ℕ). base o e) tie.pending

    by : (b : Bool) → nat_lt (base (pending w h) e) (end_of patch.dirty) ≡ b
        → (size_over e patch ≡ base (pending w h) e) ⊎ ((p : ℕ) × (suc p ≡ size_over e patch) × (is_some (dirty w h p) ≡ true))
    by false f = let low : end_of patch.dirty ≤ base (pending w h) e = grind (arith, nat_tests, f) in inl (omega (arith, same, low))
    by true f =
        let low : base (pending w h) e < end_of patch.dirty = grind (arith, nat_tests, f) in
        inr (
          end_of patch.dirty - 1,
          omega (arith, same, low),
          ap is_some (sym (tie.dirty (end_of patch.dirty - 1)))
              ∙ some_dirty (found_at patch.dirty (end_of patch.dirty - 1)) (end_last patch.dirty (omega (arith, low))),
        )

-- under a lock to the end
pub end_at : (t : ℕ) (r : Resource) (past : List Line) (h : List Entry) (c : ℕ) → owed_of c past ≡ [] → StoreBy t r past h c
    → (m : TableLock) → m.resource ≡ r → HeldBy h (lock_of m) → (lock_of m).life ≡ life_number c past
    → (lock_of m).last ≡ None → (at : ℕ) → (lock_of m).first ≤ at → EndAt h (life_number c past) at (size_under m (store_at c past))
end_at t r past h c none by m on i life last at low =
    record {
      lock = lock_of m;
      held = i;
      life = life;
      last = last;
      first = low;
      end = its.0;
      known = its.1;
      over = subst (λ (z : ℕ). IsOver h (life_number c past) its.0 z) sized
          (over_is (patch_at r (store_owed c past).patches) (life_number c past) h its.0 by.patch);
    }
  where
    its : (e : ℕ) × (ends (lock_of m).life (lock_of m).cookie h ≡ Some e)
    its = its_end h (lock_of m) i

    now : store_owed c past ≡ store_at c past
    now = ap (store_turn (store_at c past)) none

    noted_is : noted r m.cookie (store_owed c past).sizes ≡ Some its.0
    noted_is = by.ends (lock_of m) i life last ∙ ap (λ (w : ℕ). ends w (lock_of m).cookie h) (sym life) ∙ its.1

    under : size_under m (store_owed c past) ≡ size_over its.0 (patch_at r (store_owed c past).patches)
    under =
        ap (λ (q : Resource). size_over (unwrap_or (noted q m.cookie (store_owed c past).sizes) 0) (patch_at q (store_owed c past).patches))
        on
        ∙ ap (λ (o : Option ℕ). size_over (unwrap_or o 0) (patch_at r (store_owed c past).patches)) noted_is

    sized : size_over its.0 (patch_at r (store_owed c past).patches) ≡ size_under m (store_at c past)
    sized = sym under ∙ ap (λ (s : Store). size_under m s) now
