-- What the look-ups find: the lock over a change is held, by that life, for writing, and covers the change; the lock of a cookie was
-- granted.
use Rattle.std.proofs.Common.{◌≡◌, ◌∙◌, ◌⊎◌, ◌≤◌, ◌<◌, inl, inr, ℕ, suc, Bool, true, false, List, [], ◌∷◌, Option, Some, None, refl, sym}
use Rattle.std.proofs.Common.{ap, subst, arith}
use Rattle.std.specs.Prelude.{nat_eq, nat_lt, ◌&&◌, ◌||◌, ◌+◌, ◌-◌, not, if◌then◌else◌, filter, length}
use Rattle.std.proofs.lemmas.Bool.{and_parts, eqb-true}
use Rattle.std.proofs.lemmas.Bool.Decides.{nat_tests}
use Rattle.lu_spec_entries.specs.declared.changes.Flush.{Flush}
use Rattle.lu_proof_bytes.specs.Object.Words.{Lock, Change, Write, Cut, Did, Entry, Hold, Drop, Tells, Grant, Promote, covers, changes}
use Rattle.lu_proof_bytes.specs.Object.Words.{within, not_above, conflict}
use Rattle.lu_proof_bytes.specs.Object.Folds.{HeldBy, WasGranted, evicted}
use Rattle.lu_proof_bytes.specs.Object.Guards.{Covers, UnderNumber, AllAllowed, Allowed}
use Rattle.lu_proof_bytes.specs.Object.History.{LocksAt}
use Rattle.lu_proof_bytes.proofs.Object.World.{allowed_lawful}
use Rattle.lu_proof_objects.specs.Points.{change_of}
use Rattle.lu_proof_lawful.specs.Projection.Locks.{given, held, is_to_end, spans, lock_over}
use Rattle.lu_proof_lawful.specs.Projection.Calls.{did, did_under}

-- ---- a cookie

pub given_was : (k : ℕ) (h : List Entry) (l : Lock) → given k h ≡ Some l → WasGranted h l × (l.cookie ≡ k)
given_was k [] l e = absurd (cc)
given_was k (Grant r g s seen ∷ h) l e = by (nat_eq g.cookie k) refl (λ f. given_was k h l f) e
  where
    by : (v : Bool) → nat_eq g.cookie k ≡ v → (given k h ≡ Some l → WasGranted h l × (l.cookie ≡ k)) → (if v then Some g else given k h)
        ≡ Some l
        → ((g ≡ l) ⊎ WasGranted h l) × (l.cookie ≡ k)
    by true t more f = let same : g ≡ l = cc in (inl same, subst (λ (x : Lock). x.cookie ≡ k) same (eqb-true g.cookie k t))
    by false t more f = (inr (more f).0, (more f).1)
given_was k (Promote g ∷ h) l e = by (nat_eq g.cookie k) refl (λ f. given_was k h l f) e
  where
    by : (v : Bool) → nat_eq g.cookie k ≡ v → (given k h ≡ Some l → WasGranted h l × (l.cookie ≡ k)) → (if v then Some g else given k h)
        ≡ Some l
        → ((g ≡ l) ⊎ WasGranted h l) × (l.cookie ≡ k)
    by true t more f = let same : g ≡ l = cc in (inl same, subst (λ (x : Lock). x.cookie ≡ k) same (eqb-true g.cookie k t))
    by false t more f = (inr (more f).0, (more f).1)
given_was k (_ ∷ h) l e = given_was k h l e

pub given_granted : (k : ℕ) (h : List Entry) (l : Lock) → given k h ≡ Some l → WasGranted h l
given_granted k h l e = (given_was k h l e).0

pub given_cookie : (k : ℕ) (h : List Entry) (l : Lock) → given k h ≡ Some l → l.cookie ≡ k
given_cookie k h l e = (given_was k h l e).1

-- ---- held locks

abbrev pub In : Lock → List Lock → Type 0
In l [] = ⊥
In l (m ∷ ms) = (m ≡ l) ⊎ In l ms

in_filter : (f : Lock → Bool) (l : Lock) (ms : List Lock) → In l (filter f ms) → In l ms × (f l ≡ true)
in_filter f l [] i = absurd i
in_filter f l (m ∷ ms) i = by (f m) refl (λ j. in_filter f l ms j) i
  where
    by : (v : Bool) → f m ≡ v → (In l (filter f ms) → In l ms × (f l ≡ true)) → In l (if v then m ∷ filter f ms else filter f ms)
        → ((m ≡ l) ⊎ In l ms) × (f l ≡ true)
    by true t more (inl e) = (inl e, subst (λ (x : Lock). f x ≡ true) e t)
    by true t more (inr j) = (inr (more j).0, (more j).1)
    by false t more j = (inr (more j).0, (more j).1)

not_equal : (j k : ℕ) → not (nat_eq j k) ≡ true → j ≡ k → ⊥
not_equal j k t e = absurd (grind (arith, nat_tests))

pub held_is : (h : List Entry) (l : Lock) → In l (held h) → HeldBy h l
held_is [] l i = i
held_is (Hold m s seen ∷ h) l (inl e) = inl e
held_is (Hold m s seen ∷ h) l (inr i) = inr (held_is h l i)
held_is (Drop m ∷ h) l i =
    let parts = in_filter (λ (n : Lock). not (nat_eq m.cookie n.cookie)) l (held h) i in
    (not_equal m.cookie l.cookie parts.1, held_is h l parts.0)
held_is (_ ∷ h) l i = held_is h l i

-- ---- the lock over a change

within_from : (at : ℕ) (bytes : List ℕ) (p : ℕ) → within at bytes p ≡ true → (at ≤ p) × (p < at + length bytes)
within_from at [] p e = absurd (cc)
within_from at (b ∷ bytes) p e = by (nat_eq at p) refl (λ f. within_from (suc at) bytes p f) e
  where
    by : (v : Bool) → nat_eq at p ≡ v → (within (suc at) bytes p ≡ true → (suc at ≤ p) × (p < suc at + length bytes))
        → (v || within (suc at) bytes p) ≡ true
        → (at ≤ p) × (p < at + suc (length bytes))
    by true t more f = let same : at ≡ p = eqb-true at p t in (omega arith, omega arith)
    by false t more f = let rest = more f in (omega arith, omega arith)

between : (l : Lock) (at to p : ℕ) → covers l at ≡ true → covers l to ≡ true → at ≤ p → p ≤ to → covers l p ≡ true
between l at to p e f i j = by l.last e f
  where
    by : (last : Option ℕ) → (nat_lt l.first (suc at) && not_above at last) ≡ true → (nat_lt l.first (suc to) && not_above to last) ≡ true
        → (nat_lt l.first (suc p) && not_above p last) ≡ true
    by None g h = grind (arith, nat_tests)
    by (Some q) g h = grind (arith, nat_tests)

from : (l : Lock) (at p : ℕ) → covers l at ≡ true → is_to_end l.last ≡ true → at ≤ p → covers l p ≡ true
from l at p e f i = by l.last e f
  where
    by : (last : Option ℕ) → (nat_lt l.first (suc at) && not_above at last) ≡ true → is_to_end last ≡ true
        → (nat_lt l.first (suc p) && not_above p last) ≡ true
    by None g h = grind (arith, nat_tests)
    by (Some q) g h = absurd (cc)

pub spans_covers : (l : Lock) (change : Change) → spans l change ≡ true → Covers l (changes change)
spans_covers l (Write at bytes) t p e =
    let parts = and_parts (covers l at) (covers l (at + (length bytes - 1))) t in
    let run = within_from at bytes p e in
    between l at (at + (length bytes - 1)) p parts.0 parts.1 run.0 (omega arith)
spans_covers l (Cut n) t p e =
    let parts = and_parts (covers l (n - 1)) (is_to_end l.last) t in
    from l (n - 1) p parts.0 parts.1 (grind (arith, nat_tests))

pub record Found (c : ℕ) (change : Change) (ls : List Lock) (k : ℕ) : Type 0 where
  pub lock : Lock
  pub among : In lock ls
  pub life : lock.life ≡ c
  pub cookie : lock.cookie ≡ k
  pub write : lock.write ≡ true
  pub spans : spans lock change ≡ true

found_later : (c : ℕ) (change : Change) (m : Lock) (ls : List Lock) (k : ℕ) → Found c change ls k → Found c change (m ∷ ls) k
found_later c change m ls k f = record {
  lock = f.lock;
  among = inr f.among;
  life = f.life;
  cookie = f.cookie;
  write = f.write;
  spans =
      f.spans;
}

pub found : (c : ℕ) (change : Change) (ls : List Lock) (k : ℕ) → lock_over c change ls ≡ Some k → Found c change ls k
found c change [] k e = absurd (cc)
found c change (m ∷ ls) k e = by (nat_eq c m.life && m.write && spans m change) refl (λ f. found c change ls k f) e
  where
    by : (v : Bool) → (nat_eq c m.life && m.write && spans m change) ≡ v → (lock_over c change ls ≡ Some k → Found c change ls k)
        → (if v then Some m.cookie else lock_over c change ls) ≡ Some k → Found c change (m ∷ ls) k
    by true t more f =
        let outer = and_parts (nat_eq c m.life && m.write) (spans m change) t in
        let inner = and_parts (nat_eq c m.life) m.write outer.0 in
        record { lock = m; among = inl refl; life = sym (eqb-true c m.life inner.0); cookie = cc; write = inner.1; spans = outer.1 }
    by false t more f = found_later c change m ls k (more f)

-- what is found holds all that the theory asks of the lock under which a change is told, or taken to be written back
pub lies_under : (h : List Entry) (c k : ℕ) (change : Change) → lock_over c change (held h) ≡ Some k
    → UnderNumber h c k true (changes change)
lies_under h c k change e =
    let f = found c change (held h) k e in
    record {
      lock = f.lock;
      held = held_is h f.lock f.among;
      life = f.life;
      cookie = f.cookie;
      mode = λ t. f.write;
      covered =
          spans_covers f.lock change f.spans;
    }

pub did_ok : (h : List Entry) (c : ℕ) (flush : Flush) (e : Entry) → did c flush h ≡ Some e → Allowed h e
did_ok h c flush e d = by (lock_over c (change_of flush) (held h)) refl d
  where
    by : (k : Option ℕ) → lock_over c (change_of flush) (held h) ≡ k → did_under c (change_of flush) k ≡ Some e → Allowed h e
    by None t f = absurd (cc)
    by (Some k) t f = let same : Tells c (Did k (change_of flush)) ≡ e = cc
        in subst (λ (x : Entry). Allowed h x) same (lies_under h c k (change_of flush) t)

-- ---- the lock that a call uses is the one that is found

in_which : (f : Lock → Bool) (l : Lock) (ms : List Lock) → In l ms → f l ≡ true → In l (filter f ms)
in_which f l [] i t = absurd i
in_which f l (m ∷ ms) (inl e) t = by (f m) refl
  where
    by : (v : Bool) → f m ≡ v → In l (if v then m ∷ filter f ms else filter f ms)
    by true s = inl e
    by false s = let s2 : f l ≡ false = subst (λ (x : Lock). f x ≡ false) e s in absurd (cc)
in_which f l (m ∷ ms) (inr i) t = by (f m) (in_which f l ms i t)
  where
    by : (v : Bool) → In l (filter f ms) → In l (if v then m ∷ filter f ms else filter f ms)
    by true j = inr j
    by false j = j

apart_is : (j k : ℕ) → (j ≡ k → ⊥) → not (nat_eq j k) ≡ true
apart_is j k other = by (nat_eq j k) refl
  where
    by : (v : Bool) → nat_eq j k ≡ v → not v ≡ true
    by true e = absurd (other (eqb-true j k e))
    by false e = refl

pub in_held : (h : List Entry) (l : Lock) → HeldBy h l → In l (held h)
in_held [] l i = absurd i
in_held (Hold m s seen ∷ h) l (inl e) = inl e
in_held (Hold m s seen ∷ h) l (inr i) = inr (in_held h l i)
in_held (Drop m ∷ h) l i = in_which (λ (n : Lock). not (nat_eq m.cookie n.cookie)) l (held h) (in_held h l i.1)
    (apart_is m.cookie l.cookie i.0)
in_held (_ ∷ h) l i = in_held h l i

abbrev serves : ℕ → Change → Lock → Bool
serves c change l = nat_eq c l.life && l.write && spans l change

some_found : (c : ℕ) (change : Change) (ls : List Lock) (l : Lock) → In l ls → serves c change l ≡ true → (k : ℕ)
    × (lock_over c change ls ≡ Some k)
some_found c change [] l i t = absurd i
some_found c change (m ∷ ms) l (inl e) t = by (serves c change m) refl
  where
    by : (v : Bool) → serves c change m ≡ v → (k : ℕ) × ((if v then Some m.cookie else lock_over c change ms) ≡ Some k)
    by true s = (m.cookie, refl)
    by false s = let s2 : serves c change l ≡ false = subst (λ (x : Lock). serves c change x ≡ false) e s in absurd (cc)
some_found c change (m ∷ ms) l (inr i) t = by (serves c change m) (some_found c change ms l i t)
  where
    by : (v : Bool) → (k : ℕ) × (lock_over c change ms ≡ Some k) → (k : ℕ) × ((if v then Some m.cookie else lock_over c change ms) ≡ Some k)
    by true j = (m.cookie, refl)
    by false j = j

-- two that cover a position meet
pub meet : (l m : Lock) (p : ℕ) → l.write ≡ true → covers l p ≡ true → covers m p ≡ true → conflict l m ≡ true
meet l m p w e f = by l.write l.last m.last w e f
  where
    by : (write : Bool) (a b : Option ℕ) → write ≡ true → (nat_lt l.first (suc p) && not_above p a) ≡ true
        → (nat_lt m.first (suc p) && not_above p b) ≡ true
        → ((write || m.write) && (not_above l.first a && not_above m.first b && not_above l.first b && not_above m.first a)) ≡ true
    by false a b t g h = absurd (cc)
    by true None None t g h = refl
    by true None (Some q) t g h = grind (arith, nat_tests)
    by true (Some q) None t g h = grind (arith, nat_tests)
    by true (Some q) (Some r) t g h = grind (arith, nat_tests)

abbrev place : Change → ℕ
place (Write at bytes) = at
place (Cut n) = n - 1

at_place : (l : Lock) (change : Change) → spans l change ≡ true → covers l (place change) ≡ true
at_place l (Write at bytes) t = (and_parts (covers l at) (covers l (at + (length bytes - 1))) t).0
at_place l (Cut n) t = (and_parts (covers l (n - 1)) (is_to_end l.last) t).0

locks_at : (h : List Entry) → AllAllowed h → LocksAt h
locks_at [] all = λ l m i j e f c. absurd i
locks_at (e ∷ h) all = (allowed_lawful (e ∷ h) all).0.0

-- in an allowed story a lock that a life which isn't evicted holds for writing over a change is the one that is found
pub right_lock : (h : List Entry) (l : Lock) (change : Change) → AllAllowed h → HeldBy h l → l.write ≡ true → evicted l.life h ≡ false
    → spans l change ≡ true
    → lock_over l.life change (held h) ≡ Some l.cookie
right_lock h l change all i w stays t =
    let some = some_found l.life change (held h) l (in_held h l i) (grind (arith, nat_tests, w, t)) in
    let f = found l.life change (held h) some.0 some.1 in
    let clash = meet l f.lock (place change) w (at_place l change t) (at_place f.lock change f.spans) in
    let same = locks_at h all l f.lock i (held_is h f.lock f.among) stays (subst (λ (c : ℕ). evicted c h ≡ false) (sym f.life) stays) clash
    in
    some.1 ∙ ap Some (sym f.cookie ∙ ap (λ (x : Lock). x.cookie) (sym same))
