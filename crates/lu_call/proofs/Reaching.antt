-- How far a call has come that looks for its locks, one after another.
use Rattle.std.proofs.Common.{◌≡◌, ℕ, ◌<◌, List, [], ◌∷◌, ◌++◌, length, drop, Option, Some, None, refl, sym, ap, subst, ◌∙◌, append_assoc}
use Rattle.std.proofs.Common.{arith, false, true}
use Rattle.std.specs.Prelude.{option_map, All, slice_index_or}
use Rattle.std.specs.Option.{option_copied}
use Rattle.std.specs.Slice.{IsItemAt}
use Rattle.std.specs.Borrow.{Bor}
use Rattle.std.proofs.lemmas.List.{append-nil}
use Rattle.std.proofs.lemmas.List.Elements.{All-head, All-tail, All-push}
use Rattle.lu_base.specs.declared.locks.Lock.{Lock}
use Rattle.lu_held.specs.declared.locks.HeldLock.{HeldLock}
use Rattle.lu_held.specs.declared.locks.Use.{Use}
use Rattle.lu_held.specs.declared.names.LockName.{LockName}
use Rattle.lu_held.specs.Locks.{lock_of}
use Rattle.lu_held.specs.Held.{serving}
use Rattle.lu_spec_entries.specs.Carried.{Work, Running}
use Rattle.lu_spec_entries.specs.Words.{Entry, Pins}
use Rattle.lu_spec_client.specs.States.{Store}
use Rattle.lu_spec_client.specs.Starts.{pins}
use Rattle.lu_spec_client.specs.Advances.{Next, name_under, pinned, using, asks_lock, takes_up, looks, looks_on, comes}
use Rattle.lu_client_store.specs.Stored.{StoreState, stored_after, stored_turn}
use Rattle.lu_call.specs.Looked.{Looked, first_left}
use Rattle.lu_call.specs.Ranges.{IsWant, IsUsing, IsWork}
use Rattle.lu_call.specs.declared.nexts.Next.{Next as NextOf}
use Rattle.lu_call.specs.Going.{GoesBy}
use Rattle.lu_call.proofs.Going.{stored_more, goes_as, goes_follow}

-- It pinned locks, and looks on for what is left.
pub record Reached (old new : Running) (from to : Work) (before after : StoreState) : Type 0 where
  pub names : List LockName
  pub pinned : new ≡ record old { pins = old.pins ++ names }
  pub store : after ≡ stored_turn before (pins names)
  pub same : to ≡ record from { used = to.used; left = to.left }
  pub looks : (slot : ℕ) (next : Next) → looks slot next from.left old from before.store ≡ pins names
      ++ looks slot next to.left new to after.store

pub reached_first : (r : Running) (w : Work) (s : StoreState) → Reached r r w w s s
reached_first r w s = record {
  names = [];
  pinned = ap (λ (names : List LockName). record r { pins = names }) (sym (append-nil r.pins));
  store = refl;
  same = refl;
  looks = λ slot next. refl;
}

pins_more : (names more : List LockName) → pins (names ++ more) ≡ pins names ++ pins more
pins_more [] more = refl
pins_more (name ∷ names) more = ap (λ (es : List Entry). Pins name ∷ es) (pins_more names more)

-- the first want, as it was read
pub first_is : (xs : List Use) (x : Use) → 0 < length xs → x ≡ slice_index_or xs 0 x → xs ≡ x ∷ drop 1 xs
first_is [] x some is = absurd (omega arith)
first_is (y ∷ xs) x some is = ap (λ (z : Use). z ∷ xs) (sym is)

pub front_is : (xs : List Use) (front : Option (Bor Use)) (wanted : Use) → IsItemAt xs 0 front → option_copied front ≡ Some wanted → xs
    ≡ wanted ∷ drop 1 xs
front_is [] None wanted item copied = absurd (cc)
front_is (x ∷ xs) None wanted item copied = absurd (cc)
front_is [] (Some b) wanted item copied = absurd (let less : 0 < 0 = item.3.0 in omega arith)
front_is (x ∷ xs) (Some b) wanted item copied = let here : b.now ≡ x = item.1 in let is : b.now ≡ wanted = cc
    in ap (λ (y : Use). y ∷ xs) (sym here ∙ is)

pub front_none : (xs : List Use) (front : Option (Bor Use)) → IsItemAt xs 0 front → option_copied front ≡ None → xs ≡ []
front_none [] front item copied = refl
front_none (x ∷ xs) None item copied = absurd (let some : false ≡ true = item.2 (omega arith) in cc)
front_none (x ∷ xs) (Some b) item copied = absurd (cc)

-- a held lock does for it
looks_up : (slot : ℕ) (next : Next) (wanted : Use) (lock : Lock) (left : List Use) (r : Running) (w : Work) (s : Store)
    → option_map lock_of (serving wanted s.held) ≡ Some lock → looks slot next (wanted ∷ left) r w s
    ≡ takes_up slot wanted lock left (looks slot next left) r w s
looks_up slot next wanted lock left r w s serves = by (serving wanted s.held) serves
  where
    by : (o : Option HeldLock) → option_map lock_of o ≡ Some lock
        → looks_on slot (λ h. takes_up slot wanted h.lock left (looks slot next left) r w s) wanted left r w o
        ≡ takes_up slot wanted lock left (looks slot next left) r w s
    by None serves = absurd (cc)
    by (Some h) serves = ap (λ (l : Lock). takes_up slot wanted l left (looks slot next left) r w s) (cc)

-- no held lock does for it
looks_none : (slot : ℕ) (next : Next) (wanted : Use) (left : List Use) (r : Running) (w : Work) (s : Store)
    → option_map lock_of (serving wanted s.held) ≡ None → looks slot next (wanted ∷ left) r w s
    ≡ asks_lock slot wanted r (record w { left = wanted ∷ left })
looks_none slot next wanted left r w s serves = by (serving wanted s.held) serves
  where
    by : (o : Option HeldLock) → option_map lock_of o ≡ None → looks_on slot
        (λ h. takes_up slot wanted h.lock left (looks slot next left) r w s) wanted left r w o
        ≡ asks_lock slot wanted r (record w { left = wanted ∷ left })
    by None serves = refl
    by (Some h) serves = absurd (cc)

-- one more lock is in use
reached_up : (old new : Running) (from to : Work) (before after : StoreState) (wanted : Use) (lock : Lock) (left : List Use)
    → Reached old new from to before after → to.left ≡ wanted ∷ left → option_map lock_of (serving wanted after.store.held) ≡ Some lock
    → Reached old (pinned (name_under wanted lock) new) from (using wanted lock left to) before
    (stored_after after (Pins (name_under wanted lock)))
reached_up old new from to before after wanted lock left reached first serves =
    record {
      names = reached.names ++ name ∷ [];
      pinned = ap (pinned name) reached.pinned ∙ ap (λ (names : List LockName). record old { pins = names })
          (append_assoc old.pins reached.names (name ∷ []));
      store = ap (λ (s : StoreState). stored_after s (Pins name)) reached.store
          ∙ sym (stored_more before (pins reached.names) (Pins name ∷ []))
          ∙ ap (stored_turn before) (sym (pins_more reached.names (name ∷ [])));
      same = ap (λ (w : Work). record w { used = to.used ++ record { want = wanted; lock = lock } ∷ []; left = left }) reached.same;
      looks = λ slot next.
          reached.looks slot next
          ∙ ap (λ (us : List Use). pins reached.names ++ looks slot next us new to after.store) first
          ∙ ap (λ (es : List Entry). pins reached.names ++ es) (looks_up slot next wanted lock left new to after.store serves)
          ∙ sym (append_assoc (pins reached.names) (Pins name ∷ []) (rest slot next))
          ∙ ap (λ (es : List Entry). es ++ rest slot next) (sym (pins_more reached.names (name ∷ [])));
    }
  where
    name : LockName
    name = name_under wanted lock

    rest : ℕ → Next → List Entry
    rest slot next = looks slot next left (pinned name new) (using wanted lock left to) (stored_after after (Pins name)).store

pub reached_more : {old new new2 : Running} {from to to2 : Work} {before after after2 : StoreState} (wanted : Use) (lock : Lock)
    → Reached old new from to before after → to.left ≡ wanted ∷ drop 1 to.left → option_map lock_of (serving wanted after.store.held)
    ≡ Some lock → new2 ≡ pinned (name_under wanted lock) new → to2 ≡ using wanted lock (drop 1 to.left) to → after2
    ≡ stored_after after (Pins (name_under wanted lock)) → Reached old new2 from to2 before after2
reached_more {old = old} {new = new} {new2 = new2} {from = from} {to = to} {to2 = to2} {before = before} {after = after} {after2 = after2}
    wanted lock reached first serves stands works stored =
    subst (λ (s : StoreState). Reached old new2 from to2 before s) (sym stored)
    (subst (λ (w : Work). Reached old new2 from w before (stored_after after (Pins (name_under wanted lock)))) (sym works)
    (subst (λ (r : Running). Reached old r from (using wanted lock (drop 1 to.left) to) before
    (stored_after after (Pins (name_under wanted lock)))) (sym stands)
    (reached_up old new from to before after wanted lock (drop 1 to.left) reached first serves)))

-- all are in use
pub reached_all : {old new : Running} {from to : Work} {before after : StoreState} → Reached old new from to before after → to.left ≡ []
    → Looked None old new from to before after
reached_all {new = new} {to = to} {after = after} reached none =
    record {
      names = reached.names;
      pinned = reached.pinned;
      store = reached.store;
      same = reached.same;
      first = ap first_left (sym none);
      looks = λ slot next. reached.looks slot next ∙ ap (λ (us : List Use). pins reached.names ++ looks slot next us new to after.store)
          none;
    }

-- no held lock does for the next
pub reached_none : {old new : Running} {from to : Work} {before after : StoreState} (wanted : Use) → Reached old new from to before after
    → to.left ≡ wanted ∷ drop 1 to.left → option_map lock_of (serving wanted after.store.held) ≡ None
    → Looked (Some wanted) old new from to before after
reached_none {new = new} {to = to} {after = after} wanted reached left serves =
    record {
      names = reached.names;
      pinned = reached.pinned;
      store = reached.store;
      same = reached.same;
      first = ap first_left (sym left);
      looks = λ slot next.
          reached.looks slot next
          ∙ ap (λ (us : List Use). pins reached.names ++ looks slot next us new to after.store) left
          ∙ ap (λ (es : List Entry). pins reached.names ++ es) (looks_none slot next wanted (drop 1 to.left) new to after.store serves)
          ∙ ap (λ (us : List Use). pins reached.names ++ asks_lock slot wanted new (record to { left = us })) (sym left);
    }

-- ---- what always holds of it

-- a want that is served is one of the locks in use
pub using_sound : (wanted : Use) (lock : Lock) (left : List Use) (w : Work) → w.left ≡ wanted ∷ left → IsWork w
    → IsWork (using wanted lock left w)
using_sound wanted lock left w first sound =
    let all : All (IsWant w.fid w.layout) (wanted ∷ left) = subst (λ (us : List Use). All (IsWant w.fid w.layout) us) first sound.left in
    record {
      kind = sound.kind;
      layout = sound.layout;
      used = All-push (IsUsing w.fid w.layout) w.used (record { want = wanted; lock = lock }) sound.used
          (All-head (IsWant w.fid w.layout) wanted left all);
      left = All-tail (IsWant w.fid w.layout) wanted left all;
    }

-- ---- a lock that came

-- it is used for the first want, and the others are looked for
pub goes_come : {slot : ℕ} {new last : Running} {to : Work} {middle after : StoreState} {out : NextOf} (old : Running) (from : Work)
    (before : StoreState) (next : Next) (wanted : Use) (lock : Lock) → from.left ≡ wanted ∷ drop 1 from.left → new
    ≡ pinned (name_under wanted lock) old → to ≡ using wanted lock (drop 1 from.left) from → middle
    ≡ stored_after before (Pins (name_under wanted lock)) → GoesBy (looks slot next to.left new to middle.store) slot last middle after out
    → GoesBy (comes slot next lock from.left old from before.store) slot last before after out
goes_come {slot = slot} {new = new} {last = last} {to = to} {middle = middle} {after = after} {out = out} old from before next wanted lock
    first stands works stored goes =
    goes_as (ap (λ (us : List Use). comes slot next lock us old from before.store) first)
    (goes_follow (Pins name ∷ []) (looks slot next (drop 1 from.left) (pinned name old) (using wanted lock (drop 1 from.left) from)) refl
    stored
    (subst (λ (r : Running). GoesBy (looks slot next (drop 1 from.left) r (using wanted lock (drop 1 from.left) from) middle.store) slot
    last middle after out) stands
    (subst (λ (w : Work). GoesBy (looks slot next w.left new w middle.store) slot last middle after out) works goes)))
  where
    name : LockName
    name = name_under wanted lock
