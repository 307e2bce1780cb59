-- Marks on unused locks, one by one: marking the least recently used one as long as there is one puts the marks that the
-- client's rows say, in their order.
use Rattle.std.proofs.Common.{◌≡◌, ℕ, zero, suc, ◌-◌, ◌<◌, ◌≤◌, ◌==◌, ◌&&◌, nat_le, Bool, true, false, cond, List, [], ◌∷◌, ◌++◌, length}
use Rattle.std.proofs.Common.{map, filter, drop, reverse, get_or, Option, Some, None, refl, sym, ap, subst, ◌∙◌, arith}
use Rattle.std.specs.Prelude.{slice_get, option_map}
use Rattle.std.proofs.lemmas.List.{drop_all, drop-append-le, reverse-append, get_or-map, length-map}
use Rattle.std.proofs.lemmas.List.Kept.{AllPairs-filter}
use Rattle.std.proofs.lemmas.Option.{slice_get_within, slice_get-get_or, get_or_from_slice_get}
use Rattle.std.proofs.lemmas.Bool.Decides.{nat_tests}
use Rattle.lu_base.specs.declared.ids.Cookie.{Cookie}
use Rattle.lu_base.specs.declared.ids.TargetId.{TargetId}
use Rattle.lu_held.specs.declared.names.LockName.{LockName}
use Rattle.lu_held.specs.declared.locks.HeldLock.{HeldLock}
use Rattle.lu_held.specs.declared.locks.Change.{Change}
use Rattle.lu_held.specs.declared.locks.Change.TheVariants.{Mark, Unmark, Pin, Unpin}
use Rattle.lu_held.specs.Names.{same_name}
use Rattle.lu_held.specs.Locks.{named, name_of, pair_of, is_named, is_free, after}
use Rattle.lu_held.specs.Held.{HeldState, changed, with_change, without, last_of, to_trim, trimmed, IsOnce}
use Rattle.lu_held.proofs.Lists.{some_is, rest_pairs, first_pairs}
use Rattle.lu_spec_entries.specs.Words.{Entry, Marks}
use Rattle.lu_spec_client.specs.Locks.{marks_of}
use Rattle.lu_client_store.specs.Stored.{StoreState, stored_after, locks_held, trims_left}

abbrev Others : HeldLock → HeldLock → Type 0
Others one other = is_named (name_of one) other ≡ false

itself : (name : LockName) → same_name name name ≡ true
itself name = grind (arith, nat_tests)

turned : (one other : LockName) → same_name one other ≡ false → same_name other one ≡ false
turned one other = grind (arith, nat_tests)

-- ---- the last of some locks, and those before it

last_alone : (h x : HeldLock) → x ≡ h → x ∷ [] ≡ without (name_of h) (x ∷ []) ++ h ∷ []
last_alone h x same = subst (λ y. y ∷ [] ≡ without (name_of h) (y ∷ []) ++ h ∷ []) (sym same)
    (let e : is_named (name_of h) h ≡ true = itself (name_of h) in rw e refl)

last_behind : (h x : HeldLock) (rest : List HeldLock) → is_named (name_of h) x ≡ false → rest ≡ without (name_of h) rest ++ h ∷ [] → x
    ∷ rest ≡ without (name_of h) (x ∷ rest) ++ h ∷ []
last_behind h x rest other parts = rw other (ap (λ more. x ∷ more) parts)

last_parts : (k : ℕ) (h : HeldLock) (locks : List HeldLock) → suc k ≡ length locks → slice_get locks k ≡ Some h → IsOnce locks → locks
    ≡ without (name_of h) locks ++ h ∷ []
last_parts k h [] size there once = absurd (omega (arith, size))
last_parts zero h (x ∷ []) size there once = last_alone h x (some_is x h there)
last_parts zero h (x ∷ y ∷ rest) size there once = absurd (omega (arith, size))
last_parts (suc k) h (x ∷ rest) size there once =
    let at : get_or rest k h ≡ h = get_or_from_slice_get rest k h h there in
    let apart : is_named (name_of x) (get_or rest k h) ≡ false = first_pairs Others x rest once k h (slice_get_within rest k h there) in
    let other : is_named (name_of x) h ≡ false = subst (λ g. is_named (name_of x) g ≡ false) at apart in
    last_behind h x rest (turned (name_of x) (name_of h) other)
    (last_parts k h rest (omega (arith, size)) there (rest_pairs Others x rest once))

-- ---- a mark

no_more : (b : Bool) → (b && false) ≡ false
no_more true = refl
no_more false = refl

-- those that are free once one is marked
free_after : (name : LockName) (locks : List HeldLock) → filter is_free (changed name Mark locks) ≡ without name (filter is_free locks)
free_after name [] = refl
free_after name (x ∷ locks) = by (is_named name x) (is_free x) refl refl (free_after name locks) where
  by : (here free : Bool) → is_named name x ≡ here → is_free x ≡ free → filter is_free (changed name Mark locks)
      ≡ without name (filter is_free locks) → filter is_free (cond here (after Mark x) x ∷ changed name Mark locks)
      ≡ without name (cond free (x ∷ filter is_free locks) (filter is_free locks))
  by true true e f rest = let g : (x.pins == 0 && false) ≡ false = no_more (x.pins == 0) in rw (g, e) rest
  by true false e f rest = let g : (x.pins == 0 && false) ≡ false = no_more (x.pins == 0) in rw g rest
  by false true e f rest = rw (f, e) (ap (λ more. x ∷ more) rest)
  by false false e f rest = rw f rest

-- ---- which is marked next

some_of : (enough : Bool) (last : Option HeldLock) (h : HeldLock) → cond enough None last ≡ Some h → (enough ≡ false) × (last ≡ Some h)
some_of true last h e = absurd (cc)
some_of false last h e = (refl, e)

dropped : (n : ℕ) (h : HeldLock) (locks : List HeldLock) → n ≤ length locks → marks_of (reverse (drop n (locks ++ h ∷ [])))
    ≡ Marks (name_of h) ∷ marks_of (reverse (drop n locks))
dropped n h locks within = ap (λ more. marks_of (reverse more)) (drop-append-le n locks (h ∷ []) within)
    ∙ ap marks_of (reverse-append (drop n locks) (h ∷ []))

above : (n k : ℕ) → nat_le k n ≡ false → n < k
above n k = grind (arith, nat_tests)

below_last : (n : ℕ) (locks : List HeldLock) (h : HeldLock) → n < length (locks ++ h ∷ []) → n ≤ length locks
below_last zero locks h less = omega arith
below_last (suc n) [] h less = absurd (omega (arith, less))
below_last (suc n) (x ∷ locks) h less = let below : n ≤ length locks = below_last n locks h (omega (arith, less)) in omega (arith, below)

pub trims_some : (s : StoreState) (h : HeldLock) → to_trim (locks_held s) ≡ Some h → IsOnce s.store.held → trims_left s ≡ Marks (name_of h)
    ∷ trims_left (stored_after s (Marks (name_of h)))
trims_some s h next once =
    let free = filter is_free s.store.held in
    let two = some_of (nat_le (length free) s.unused) (last_of free) h next in
    let more : s.unused < length free = above s.unused (length free) two.0 in
    let parts : free ≡ without (name_of h) free ++ h ∷ [] = last_parts (length free - 1) h free (omega (arith, more)) two.1
    (AllPairs-filter Others is_free s.store.held once) in
    let within : s.unused ≤ length (without (name_of h) free) =
    below_last s.unused (without (name_of h) free) h (subst (λ locks. s.unused < length locks) parts more) in
    ap (λ locks. marks_of (reverse (drop s.unused locks))) parts
    ∙ dropped s.unused h (without (name_of h) free) within
    ∙ ap (λ locks. Marks (name_of h) ∷ marks_of (reverse (drop s.unused locks))) (sym (free_after (name_of h) s.store.held))

-- ---- and when none is

none_left : (n : ℕ) (free : List HeldLock) → length free ≤ n → marks_of (reverse (drop n free)) ≡ []
none_left n free few = ap (λ locks. marks_of (reverse locks)) (drop_all n free few)

pub trims_none : (s : StoreState) → length (filter is_free s.store.held) ≤ s.unused → trims_left s ≡ []
trims_none s few = none_left s.unused (filter is_free s.store.held) few

-- ---- as the code marks

abbrev step : LockName → Change → HeldLock → HeldLock
step name change x = cond (is_named name x) (after change x) x

same_named : (name : LockName) (change : Change) (x : HeldLock) → name_of (step name change x) ≡ name_of x
same_named name change x = by (is_named name x) where
  kept : (some : Change) → name_of (after some x) ≡ name_of x
  kept Mark = refl
  kept Unmark = refl
  kept Pin = refl
  kept Unpin = refl

  by : (here : Bool) → name_of (cond here (after change x) x) ≡ name_of x
  by true = kept change
  by false = refl

-- names stay, so what is held once now was held once
once_before : (name : LockName) (change : Change) (locks : List HeldLock) → IsOnce (changed name change locks) → IsOnce locks
once_before name change locks once = λ i j d less within.
    let f = step name change in
    let one : get_or (map f locks) i (f d) ≡ f (get_or locks i d) = get_or-map f locks i d (f d) (omega (arith, less, within)) in
    let two : get_or (map f locks) j (f d) ≡ f (get_or locks j d) = get_or-map f locks j d (f d) within in
    let apart : is_named (name_of (get_or (map f locks) i (f d))) (get_or (map f locks) j (f d)) ≡ false =
    once i j (f d) less (subst (λ n. j < n) (sym (length-map locks f)) within) in
    sym (ap (λ (n : LockName). same_name n (name_of (get_or locks j d))) (same_named name change (get_or locks i d)))
    ∙ sym (ap (λ (n : LockName). same_name (name_of (f (get_or locks i d))) n) (same_named name change (get_or locks j d)))
    ∙ sym (ap (λ (h : HeldLock). is_named (name_of h) (f (get_or locks j d))) one)
    ∙ sym (ap (λ (h : HeldLock). is_named (name_of (get_or (map f locks) i (f d))) h) two)
    ∙ apart

mark_is : (held : HeldState) (h : HeldLock) → to_trim held ≡ Some h → trimmed held ≡ with_change (name_of h) Mark held
mark_is held h next = rw next refl

pair_name : (h : HeldLock) (t : TargetId) (k : Cookie) → Some (pair_of h) ≡ Some (t, k) → name_of h ≡ named t k
pair_name h t k e = ap (λ (p : TargetId × Cookie). named p.0 p.1) (some_is (pair_of h) (t, k) e)

-- the marks that are left once the code has marked one
pub trims_next : (s : StoreState) (now : HeldState) (t : TargetId) (k : Cookie) → option_map pair_of (to_trim (locks_held s)) ≡ Some (t, k)
    → now ≡ trimmed (locks_held s) → IsOnce now.locks → trims_left s ≡ Marks (named t k)
    ∷ marks_of (reverse (drop now.unused (filter is_free now.locks)))
trims_next s now t k next is once = by (to_trim (locks_held s)) refl next where
  by : (o : Option HeldLock) → to_trim (locks_held s) ≡ o → option_map pair_of o ≡ Some (t, k) → trims_left s ≡ Marks (named t k)
      ∷ marks_of (reverse (drop now.unused (filter is_free now.locks)))
  by None e pair = absurd (cc)
  by (Some h) e pair =
      let name : name_of h ≡ named t k = pair_name h t k pair in
      let made : now ≡ with_change (name_of h) Mark (locks_held s) = is ∙ mark_is (locks_held s) h e in
      let before : IsOnce s.store.held = once_before (name_of h) Mark s.store.held (subst (λ (m : HeldState). IsOnce m.locks) made once) in
      trims_some s h e before
      ∙ ap (λ (n : LockName). Marks n ∷ trims_left (stored_after s (Marks (name_of h)))) name
      ∙ ap (λ (m : HeldState). Marks (named t k) ∷ marks_of (reverse (drop m.unused (filter is_free m.locks)))) (sym made)

-- ---- one after another

-- the marks that are put, at most so many, each on the lock that is marked next
abbrev pub marks_with : (StoreState → List Entry) → Option HeldLock → StoreState → List Entry
marks_with more None s = []
marks_with more (Some h) s = Marks (name_of h) ∷ more (stored_after s (Marks (name_of h)))

abbrev pub marks_by : ℕ → StoreState → List Entry
marks_by zero s = []
marks_by (suc k) s = marks_with (marks_by k) (to_trim (locks_held s)) s

once_after : (name : LockName) (change : Change) (locks : List HeldLock) → IsOnce locks → IsOnce (changed name change locks)
once_after name change locks once = λ i j d less within.
    let f = step name change in
    let below : j < length locks = subst (λ n. j < n) (length-map locks f) within in
    let one : get_or (map f locks) i d ≡ f (get_or locks i d) = get_or-map f locks i d d (omega (arith, less, below)) in
    let two : get_or (map f locks) j d ≡ f (get_or locks j d) = get_or-map f locks j d d below in
    ap (λ (h : HeldLock). is_named (name_of h) (get_or (map f locks) j d)) one
    ∙ ap (λ (h : HeldLock). is_named (name_of (f (get_or locks i d))) h) two
    ∙ ap (λ (n : LockName). same_name n (name_of (f (get_or locks j d)))) (same_named name change (get_or locks i d))
    ∙ ap (λ (n : LockName). same_name (name_of (get_or locks i d)) n) (same_named name change (get_or locks j d))
    ∙ once i j d less below

no_last : (locks : List HeldLock) → 0 < length locks → last_of locks ≡ None → ⊥
no_last [] some none = omega (arith, some)
no_last (x ∷ locks) some none =
    let there : slice_get (x ∷ locks) (length (x ∷ locks) - 1) ≡ Some (get_or (x ∷ locks) (length (x ∷ locks) - 1) x) =
    slice_get-get_or (x ∷ locks) (length (x ∷ locks) - 1) x (omega arith) in
    cc

none_of_next : (s : StoreState) → to_trim (locks_held s) ≡ None → trims_left s ≡ []
none_of_next s none = by (nat_le (length (filter is_free s.store.held)) s.unused) refl none where
  by : (enough : Bool) → nat_le (length (filter is_free s.store.held)) s.unused ≡ enough
      → cond enough None (last_of (filter is_free s.store.held)) ≡ None → trims_left s ≡ []
  by true few e = trims_none s (grind (arith, nat_tests))
  by false more e = absurd (no_last (filter is_free s.store.held) (grind (arith, nat_tests)) e)

-- they are those that the client's rows put
pub all_marks : (k : ℕ) (s : StoreState) → IsOnce s.store.held → length (trims_left s) ≤ k → marks_by k s ≡ trims_left s
all_marks zero s once few = sym (nothing (trims_left s) few) where
  nothing : (es : List Entry) → length es ≤ 0 → es ≡ []
  nothing [] few = refl
  nothing (e ∷ es) few = absurd (omega (arith, few))
all_marks (suc k) s once few = by (to_trim (locks_held s)) refl (all_marks k) where
  by : (o : Option HeldLock) → to_trim (locks_held s) ≡ o → ((t : StoreState) → IsOnce t.store.held → length (trims_left t) ≤ k
      → marks_by k t ≡ trims_left t) → marks_with (marks_by k) o s ≡ trims_left s
  by None e rest = sym (none_of_next s e)
  by (Some h) e rest =
      let next = trims_some s h e once in
      let fewer : length (trims_left (stored_after s (Marks (name_of h)))) ≤ k = omega (arith, few, ap length next) in
      ap (λ es. Marks (name_of h) ∷ es) (rest (stored_after s (Marks (name_of h))) (once_after (name_of h) Mark s.store.held once) fewer)
      ∙ sym next
