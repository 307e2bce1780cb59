-- A lock that is held anew: no lock of its name was held, so it comes in front, and can be taken back.
use Rattle.std.proofs.Common.{◌≡◌, Bool, true, false, cond, List, [], ◌∷◌, ◌||◌, not, refl, sym, ap, ◌∙◌, arith}
use Rattle.std.proofs.lemmas.Bool.Decides.{nat_tests}
use Rattle.lu_base.specs.declared.ids.TargetId.{TargetId}
use Rattle.lu_base.specs.declared.locks.Lock.{Lock}
use Rattle.lu_held.specs.declared.names.LockName.{LockName}
use Rattle.lu_held.specs.declared.locks.HeldLock.{HeldLock}
use Rattle.lu_held.specs.declared.locks.Change.{Change}
use Rattle.lu_held.specs.declared.locks.Change.TheVariants.{Mark}
use Rattle.lu_held.specs.Names.{same_name}
use Rattle.lu_held.specs.Locks.{named, is_named, after}
use Rattle.lu_held.specs.Held.{HeldState, granted, is_held, changed, with_change, without}
use Rattle.lu_held.proofs.Lists.{filter_all, none_pass, turned}
use Rattle.lu_spec_client.specs.Caches.{held_as, with_held}

itself : (name : LockName) → same_name name name ≡ true
itself name = grind (arith, nat_tests)

others_stay : (name : LockName) (locks : List HeldLock) → is_held name locks ≡ false → without name locks ≡ locks
others_stay name locks none = filter_all (λ held. not (is_named name held)) locks
    (turned (is_named name) locks (none_pass (is_named name) locks none))

others_same : (name : LockName) (change : Change) (locks : List HeldLock) → is_held name locks ≡ false → changed name change locks ≡ locks
others_same name change [] none = refl
others_same name change (x ∷ locks) none = by (is_named name x) none (others_same name change locks) where
  by : (here : Bool) → (here || is_held name locks) ≡ false → (is_held name locks ≡ false → changed name change locks ≡ locks)
      → cond here (after change x) x ∷ changed name change locks ≡ x ∷ locks
  by true e rest = absurd (cc)
  by false e rest = ap (λ more. x ∷ more) (rest e)

-- it is marked at once
pub granted_marked : (t : TargetId) (l : Lock) (marked : Bool) (old added now : HeldState) → is_held (named t l.cookie) old.locks ≡ false
    → added ≡ record old { locks = granted t l ∷ old.locks } → now ≡ with_change (named t l.cookie) Mark added → marked ≡ true → now
    ≡ record old { locks = held_as t.0 l marked ∷ old.locks }
granted_marked t l marked old added now none add mark is =
    let own : same_name (named t l.cookie) (named t l.cookie) ≡ true = itself (named t l.cookie) in
    mark
    ∙ ap (λ (h : HeldState). with_change (named t l.cookie) Mark h) add
    ∙ ap (λ (here : Bool). record old {
      locks = cond here (after Mark (granted t l)) (granted t l)
          ∷ changed (named t l.cookie) Mark old.locks;
    }) own
    ∙ ap (λ (locks : List HeldLock). record old { locks = held_as t.0 l true ∷ locks }) (others_same (named t l.cookie) Mark old.locks none)
    ∙ ap (λ (m : Bool). record old { locks = held_as t.0 l m ∷ old.locks }) (sym is)

pub granted_plain : (t : TargetId) (l : Lock) (marked : Bool) (old added : HeldState) → added
    ≡ record old { locks = granted t l ∷ old.locks } → marked ≡ false → added ≡ record old { locks = held_as t.0 l marked ∷ old.locks }
granted_plain t l marked old added add is = add ∙ ap (λ (m : Bool). record old { locks = held_as t.0 l m ∷ old.locks }) (sym is)

-- it comes in front
pub held_anew : (t : TargetId) (l : Lock) (marked : Bool) (locks : List HeldLock) → is_held (named t l.cookie) locks ≡ false
    → held_as t.0 l marked ∷ locks ≡ with_held (held_as t.0 l marked) locks
held_anew t l marked locks none = rw none refl

-- and goes again
pub taken_back : (t : TargetId) (l : Lock) (marked : Bool) (old added now : HeldState) → is_held (named t l.cookie) old.locks ≡ false
    → added ≡ record old { locks = held_as t.0 l marked ∷ old.locks } → now
    ≡ record added { locks = without (named t l.cookie) added.locks } → now ≡ old
taken_back t l marked old added now none add gone =
    let own : same_name (named t l.cookie) (named t l.cookie) ≡ true = itself (named t l.cookie) in
    gone
    ∙ ap (λ (h : HeldState). record h { locks = without (named t l.cookie) h.locks }) add
    ∙ ap (λ (here : Bool). record old {
      locks = cond (not here) (held_as t.0 l marked ∷ without (named t l.cookie) old.locks)
          (without (named t l.cookie) old.locks);
    }) own
    ∙ ap (λ (locks : List HeldLock). record old { locks = locks }) (others_stay (named t l.cookie) old.locks none)
