-- What is known stays under held locks where a message told of it: bytes that come, zeroes and new sizes, locks that are held and marks
-- that go.
use Rattle.std.proofs.Common.{◌≡◌, ◌⊎◌, inl, inr, ⊎_elim, ℕ, suc, ◌+◌, Bool, true, false, List, [], ◌∷◌, Option, Some, None, refl, sym, ap}
use Rattle.std.proofs.Common.{subst, ◌∙◌, arith}
use Rattle.std.specs.Prelude.{nat_eq, nat_lt, ◌||◌, not, if◌then◌else◌, map}
use Rattle.std.specs.List.{list_any}
use Rattle.std.proofs.lemmas.Bool.Decides.{nat_tests}
use Rattle.lu_base.specs.declared.locks.Lock.{Lock}
use Rattle.lu_base.specs.declared.locks.Policy.{Policy}
use Rattle.lu_base.specs.declared.locks.Policy.TheVariants.{Bits, Range}
use Rattle.lu_base.specs.declared.locks.Resource.{Resource}
use Rattle.lu_held.specs.declared.locks.Change.TheVariants as lock
use Rattle.lu_held.specs.declared.locks.HeldLock.{HeldLock}
use Rattle.lu_held.specs.declared.names.LockName.{LockName}
use Rattle.lu_held.specs.Locks.{named, name_of, is_named, same_resource, reaches_end, after}
use Rattle.lu_held.specs.Held.{is_held}
use Rattle.lu_spec_machine.specs.Places.{found_at, laid, is_in}
use Rattle.lu_spec_machine.proofs.Places.{overlay, found_laid}
use Rattle.lu_spec_entries.specs.declared.changes.Flush.{Flush}
use Rattle.lu_spec_client.specs.Bytes.{Bytes, zeroed}
use Rattle.lu_spec_client.specs.Caches.{Note, with_object, on_object, bytes_at, held_as, with_held, brought, with_brought, is_note}
use Rattle.lu_spec_client.specs.Caches.{with_note, without_note, size_kept, grown, grown_note, grown_notes}
use Rattle.lu_proof_bytes.specs.Object.Words.{within}
use Rattle.lu_proof_objects.specs.Sound.{In, Holder, AreBytesHeld, AreSizesHeld}
use Rattle.lu_proof_objects.specs.Known.{AreOver, IsNew, AreNew, OthersKeep}
use Rattle.lu_proof_objects.proofs.Lists.{in_filter, in_map, in_mapped, names_same}
use Rattle.lu_proof_objects.proofs.Tables.{object_is}
use Rattle.lu_proof_objects.proofs.Known.{AreStill, known_still, still_map}

-- ---- bytes come

out_of : (at : ℕ) (bs : List ℕ) (p : ℕ) (d : Option ℕ) → within at bs p ≡ false → overlay at bs p d ≡ d
out_of at [] p d e = refl
out_of at (b ∷ bs) p d e = by (nat_eq at p) refl e (out_of (suc at) bs p d)
  where
    by : (v : Bool) → nat_eq at p ≡ v → (v || within (suc at) bs p) ≡ false → (within (suc at) bs p ≡ false → overlay (suc at) bs p d ≡ d)
        → (if nat_eq p at then Some b else overlay (at + 1) bs p d) ≡ d
    by true t e more = absurd (cc)
    by false t e more =
        let f : nat_eq p at ≡ false = grind (arith, nat_tests, t) in
        let next : at + 1 ≡ suc at = omega arith in
        rw f (ap (λ (n : ℕ). overlay n bs p d) next ∙ more e)

bytes_with : (r s : Resource) (x : Bytes) (m : List (Resource × Bytes)) → (bytes_at s (with_object r x m) ≡ bytes_at s m)
    ⊎ ((r ≡ s) × (bytes_at s (with_object r x m) ≡ x))
bytes_with r s x [] = by (same_resource r s) refl
  where
    by : (v : Bool) → same_resource r s ≡ v → ((if v then x else bytes_at s []) ≡ bytes_at s [])
        ⊎ ((r ≡ s) × ((if v then x else bytes_at s []) ≡ x))
    by true e = inr (object_is r s e, refl)
    by false e = inl refl
bytes_with r s x (e ∷ m) = by (same_resource e.0 r) refl (same_resource e.0 s) refl (bytes_with r s x m)
  where
    by : (u : Bool) → same_resource e.0 r ≡ u → (v : Bool) → same_resource e.0 s ≡ v
        → (bytes_at s (with_object r x m) ≡ bytes_at s m) ⊎ ((r ≡ s) × (bytes_at s (with_object r x m) ≡ x))
        → (bytes_at s (if u then (e.0, x) ∷ m else e ∷ with_object r x m) ≡ (if v then e.1 else bytes_at s m))
        ⊎ ((r ≡ s) × (bytes_at s (if u then (e.0, x) ∷ m else e ∷ with_object r x m) ≡ x))
    by true p true q more = inr (sym (object_is e.0 r p) ∙ object_is e.0 s q, rw q refl)
    by true p false q more = inl (rw q refl)
    by false p true q more = inl (rw q refl)
    by false p false q more = rw q more

fills_keep : (locks : List HeldLock) (m : List (Resource × Bytes)) (r : Resource) (first : ℕ) (bs : List ℕ) → AreBytesHeld locks m
    → AreOver locks r first bs → AreBytesHeld locks (with_object r (laid first bs (bytes_at r m)) m)
fills_keep locks m r first bs known over s p b e =
    ⊎_elim (λ (q : bytes_at s (with_object r x m) ≡ bytes_at s m). known s p b (ap (λ (n : Bytes). found_at n p) (sym q) ∙ e))
    (λ (q : (r ≡ s) × (bytes_at s (with_object r x m) ≡ x)). subst (λ (z : Resource). Holder locks z (λ l y. is_in y p ≡ true)) q.0
    (here (ap (λ (n : Bytes). found_at n p) (sym q.1) ∙ e))) (bytes_with r s x m)
  where
    x : Bytes
    x = laid first bs (bytes_at r m)

    here : found_at x p ≡ Some b → Holder locks r (λ l y. is_in y p ≡ true)
    here f = by (within first bs p) refl
      where
        by : (v : Bool) → within first bs p ≡ v → Holder locks r (λ l y. is_in y p ≡ true)
        by true w = over p w
        by false w = known r p b (sym (out_of first bs p (found_at (bytes_at r m) p) w) ∙ sym (found_laid first bs (bytes_at r m) p) ∙ f)

-- ---- bytes become 0

zeroed_is : (n : ℕ) (m : Bytes) (p b : ℕ) → found_at (zeroed n m) p ≡ Some b → (c : ℕ) × (found_at m p ≡ Some c)
zeroed_is n [] p b e = absurd (cc)
zeroed_is n (a ∷ m) p b e = by (nat_eq p a.0) e (zeroed_is n m p b)
  where
    by : (v : Bool) → (if v then Some (if nat_lt a.0 n then a.1 else 0) else found_at (zeroed n m) p) ≡ Some b
        → (found_at (zeroed n m) p ≡ Some b → (c : ℕ) × (found_at m p ≡ Some c))
        → (c : ℕ) × ((if v then Some a.1 else found_at m p) ≡ Some c)
    by true e more = (a.1, refl)
    by false e more = more e

zeroed_at : (r s : Resource) (n : ℕ) (m : List (Resource × Bytes)) (p b : ℕ) → found_at (bytes_at s (on_object r (zeroed n) m)) p ≡ Some b
    → (c : ℕ) × (found_at (bytes_at s m) p ≡ Some c)
zeroed_at r s n [] p b e = absurd (cc)
zeroed_at r s n (a ∷ m) p b e = by (same_resource a.0 r) e (zeroed_at r s n m p b)
  where
    More : Type 0
    More = found_at (bytes_at s (on_object r (zeroed n) m)) p ≡ Some b → (c : ℕ) × (found_at (bytes_at s m) p ≡ Some c)

    here : (v : Bool) → found_at (if v then zeroed n a.1 else bytes_at s m) p ≡ Some b → (c : ℕ)
        × (found_at (if v then a.1 else bytes_at s m) p ≡ Some c)
    here true e = zeroed_is n a.1 p b e
    here false e = (b, e)

    there : (v : Bool) → found_at (if v then a.1 else bytes_at s (on_object r (zeroed n) m)) p ≡ Some b → More → (c : ℕ)
        × (found_at (if v then a.1 else bytes_at s m) p ≡ Some c)
    there true e more = (b, e)
    there false e more = more e

    by : (u : Bool) → found_at (bytes_at s (if u then (a.0, zeroed n a.1) ∷ m else a ∷ on_object r (zeroed n) m)) p ≡ Some b → More
        → (c : ℕ) × (found_at (bytes_at s (a ∷ m)) p ≡ Some c)
    by true e more = here (same_resource a.0 s) e
    by false e more = there (same_resource a.0 s) e more

-- ---- sizes grow

abbrev AtEnd : List HeldLock → Note → Type 0
AtEnd locks n = Holder locks n.resource (λ l x. (l.cookie ≡ n.cookie) × (reaches_end l.ask.policy ≡ true))

grown_keep : (locks : List HeldLock) (sizes : List Note) (r : Resource) (change : Flush) → AreSizesHeld locks sizes
    → AreSizesHeld locks (grown_notes r change sizes)
grown_keep locks sizes r change known n i = let o = in_map (grown_note r change) n sizes i
    in subst (AtEnd locks) o.2 (same o.0 (known o.0 o.1))
  where
    same : (m : Note) → AtEnd locks m → AtEnd locks (grown_note r change m)
    same m g = by (same_resource m.resource r)
      where
        by : (v : Bool) → AtEnd locks (if v then record m { number = grown change m.number } else m)
        by true = record { lock = g.lock; held = g.held; object = g.object; extent = g.extent; range = g.range; such = g.such }
        by false = g

-- ---- a lock is held

any_is : {A : Type 0} (f : A → Bool) (xs : List A) → list_any f xs ≡ true → (x : A) × In x xs × (f x ≡ true)
any_is f [] e = absurd (cc)
any_is {A} f (x ∷ xs) e = by (f x) refl e (any_is f xs)
  where
    by : (b : Bool) → f x ≡ b → (b || list_any f xs) ≡ true → (list_any f xs ≡ true → (y : A) × In y xs × (f y ≡ true)) → (y : A)
        × In y (x ∷ xs) × (f y ≡ true)
    by true t e more = (x, inl refl, t)
    by false t e more = let r = more e in (r.0, inr r.1, r.2)

module _ (locks : List HeldLock) (t : ℕ) (l : Lock) (marked : Bool) (new : IsNew locks t l) where
  abbrev it : HeldLock
  it = held_as t l marked

  abbrev placed : HeldLock → HeldLock
  placed g = if is_named (name_of it) g then it else g

  still_held : AreStill locks (with_held it locks)
  still_held h i = by (is_held (name_of it) locks)
    where
      same : (v : Bool) → is_named (name_of it) h ≡ v → (if v then it else h).lock ≡ h.lock
      same true e = sym (new h i e)
      same false e = refl

      by : (v : Bool) → (g : HeldLock) × In g (if v then map placed locks else it ∷ locks) × (g.lock ≡ h.lock)
      by true = (placed h, in_mapped placed h locks i, same (is_named (name_of it) h) refl)
      by false = (h, inr i, refl)

  is_there : In it (with_held it locks)
  is_there = by (is_held (name_of it) locks) refl
    where
      by : (v : Bool) → is_held (name_of it) locks ≡ v → In it (if v then map placed locks else it ∷ locks)
      by true e = let g = any_is (is_named (name_of it)) locks e in let same : placed g.0 ≡ it = rw g.2 refl
          in subst (λ (h : HeldLock). In h (map placed locks)) same (in_mapped placed g.0 locks g.1)
      by false e = inl refl

  to_end : (policy : Policy) → l.ask.policy ≡ policy → reaches_end policy ≡ true → (number : ℕ)
      → AtEnd (with_held it locks) (record { resource = l.resource; cookie = l.cookie; number = number })
  to_end (Bits bits) is e number = absurd (cc)
  to_end (Range x) is e number = record {
    lock = it;
    held = is_there;
    object = refl;
    extent = x;
    range = is;
    such =
        (refl, ap reaches_end is ∙ e);
  }

  size_keep : (sizes : List Note) (size : Option ℕ) → AreSizesHeld (with_held it locks) sizes
      → AreSizesHeld (with_held it locks) (size_kept l size sizes)
  size_keep sizes None known = known
  size_keep sizes (Some number) known = by (reaches_end l.ask.policy) refl
    where
      note : Note
      note = record { resource = l.resource; cookie = l.cookie; number = number }

      kept : (others : List Note) → ((n : Note) → In n others → In n sizes) → reaches_end l.ask.policy ≡ true
          → AreSizesHeld (with_held it locks) (note ∷ others)
      kept others back e n (inl q) = subst (AtEnd (with_held it locks)) q (to_end l.ask.policy refl e number)
      kept others back e n (inr j) = known n (back n j)

      by : (v : Bool) → reaches_end l.ask.policy ≡ v → AreSizesHeld (with_held it locks)
          (if v then with_note l.resource l.cookie number sizes else sizes)
      by true e = kept (without_note l.resource l.cookie sizes)
          (λ n j. (in_filter (λ (m : Note). not (is_note l.resource l.cookie m)) n sizes j).0) e
      by false e = known

-- ---- a reply brings locks

still_on : (one two three : List HeldLock) → AreStill one two → AreStill two three → AreStill one three
still_on one two three a b h i = let f = a h i in let g = b f.0 f.1 in (g.0, g.1, g.2 ∙ f.2)

-- what is held after a lock came was held, or is that lock
with_only : (it g : HeldLock) (locks : List HeldLock) → In g (with_held it locks) → (it ≡ g) ⊎ In g locks
with_only it g locks i = by (is_held (name_of it) locks) i
  where
    changed : (f : HeldLock) → In f locks → (v : Bool) → (if v then it else f) ≡ g → (it ≡ g) ⊎ In g locks
    changed f j true e = inl e
    changed f j false e = inr (subst (λ (h : HeldLock). In h locks) e j)

    by : (v : Bool) → In g (if v then map (λ f. if is_named (name_of it) f then it else f) locks else it ∷ locks) → (it ≡ g) ⊎ In g locks
    by true i = let o = in_map (λ f. if is_named (name_of it) f then it else f) g locks i in changed o.0 o.1 (is_named (name_of it) o.0) o.2
    by false i = i

brought_still : (t : ℕ) (ls : List Lock) (locks : List HeldLock) → AreNew locks t ls → AreStill locks (with_brought t ls locks)
brought_still t [] locks new = λ h i. (h, i, refl)
brought_still t (l ∷ ls) locks new =
    still_on locks (with_held it locks) (with_brought t ls (with_held it locks)) (still_held locks t l false (new.new l (inl refl)))
    (brought_still t ls (with_held it locks) (record { new = others; once = λ m n i j. new.once m n (inr i) (inr j) }))
  where
    it : HeldLock
    it = held_as t l false

    its : (m : Lock) → In m ls → (g : HeldLock) → it ≡ g → is_named (named (record { 0 = t }) m.cookie) g ≡ true → g.lock ≡ m
    its m j g q e =
        let is : name_of g ≡ named (record { 0 = t }) m.cookie = sym (names_same (named (record { 0 = t }) m.cookie) (name_of g) e) in
        let cookie : l.cookie ≡ m.cookie = ap (λ (f : HeldLock). f.lock.cookie) q ∙ ap (λ (n : LockName). n.cookie) is in
        sym (ap (λ (f : HeldLock). f.lock) q) ∙ new.once l m (inl refl) (inr j) cookie

    others : (m : Lock) → In m ls → IsNew (with_held it locks) t m
    others m j g i e = ⊎_elim (λ (q : it ≡ g). its m j g q e) (λ (k : In g locks). new.new m (inr j) g k e) (with_only it g locks i)

-- ---- all of them

abbrev unmark : ℕ → HeldLock → HeldLock
unmark t g = if nat_eq g.target.0 t then after lock.Unmark g else g

unmark_same : (t : ℕ) (g : HeldLock) → (unmark t g).lock ≡ g.lock
unmark_same t g = by (nat_eq g.target.0 t)
  where
    by : (v : Bool) → (if v then after lock.Unmark g else g).lock ≡ g.lock
    by true = refl
    by false = refl

pub others_keep : OthersKeep
others_keep =
    record {
      fills = λ k r first bs s over. fills_keep k.store.held k.store.bytes r first bs s.known.bytes over;
      zeroes = λ k r n s z p b e. let f = zeroed_at r z n k.store.bytes p b e in s.known.bytes z p f.0 f.1;
      grown = λ k r change s. grown_keep k.store.held k.store.sizes r change s.known.sizes;
      holds = λ k t l marked size seen s new.
          let now = known_still k.store.held (with_held (held_as t l marked) k.store.held) k.store.bytes k.store.sizes k.store.shown
          (still_held k.store.held t l marked new) s.known in
          record { bytes = now.bytes; sizes = size_keep k.store.held t l marked new k.store.sizes size now.sizes; shown = now.shown };
      unmarks = λ k t s. known_still k.store.held (map (unmark t) k.store.held) k.store.bytes k.store.sizes k.store.shown
          (still_map (unmark t) (unmark_same t) k.store.held) s.known;
      heard = λ k t f r s new.
          known_still k.store.held (with_brought t (brought f.op r) k.store.held) k.store.bytes k.store.sizes k.store.shown
          (brought_still t (brought f.op r) k.store.held new) s.known;
      life = λ k who. record { bytes = λ r p b e. absurd (none p b e); sizes = λ n i. absurd i; shown = λ n i. absurd i };
    }
  where
    none : (p b : ℕ) → found_at {A = ℕ} [] p ≡ Some b → ⊥
    none p b e = cc
