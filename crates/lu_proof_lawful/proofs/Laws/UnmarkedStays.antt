-- A held lock that isn't called back, or that no call uses, stays so over a line, while the client gives up no lock and no life, and marks
-- no lock
-- that is pinned; and one that isn't marked didn't come marked.
use Rattle.std.proofs.Common.{◌≡◌, ℕ, Bool, true, false, List, [], ◌∷◌, Option, ◌⊎◌, inl, inr, ⊎_elim, refl, sym, subst, ap, ◌∙◌}
use Rattle.std.specs.Prelude.{nat_eq, ◌&&◌, if◌then◌else◌}
use Rattle.std.proofs.lemmas.Bool.{cond_both, and_parts, eqb-true}
use Rattle.lu_base.specs.declared.ids.Cookie.{Cookie}
use Rattle.lu_base.specs.declared.ids.Node.{Node}
use Rattle.lu_base.specs.declared.ids.Node.TheVariants.{Client, Target}
use Rattle.lu_base.specs.declared.ids.Stamp.{Stamp}
use Rattle.lu_base.specs.declared.ids.TargetId.{TargetId}
use Rattle.lu_base.specs.declared.ids.Who.{Who}
use Rattle.lu_base.specs.declared.locks.Lock.{Lock}
use Rattle.lu_held.specs.declared.locks.Change.{Change}
use Rattle.lu_held.specs.declared.locks.Change.TheVariants.{Mark, Pin, Unpin, Unmark}
use Rattle.lu_held.specs.declared.locks.HeldLock.{HeldLock}
use Rattle.lu_held.specs.declared.names.LockName.{LockName}
use Rattle.lu_held.specs.Locks.{named, name_of, is_named, after}
use Rattle.lu_held.specs.Held.{changed, used, without, unmarked}
use Rattle.lu_spec_entries.specs.Concerns.{only}
use Rattle.lu_spec_entries.specs.Words.{Entry, Heard, Hold, Drop, Pins, Unpins, Marks, Unmarks, Line, line}
use Rattle.lu_spec_client.specs.Caches.{held_as, with_held, with_brought, brought, held_at}
use Rattle.lu_proof_lawful.specs.Covered.ClientStates.{life_of}
use Rattle.lu_proof_lawful.specs.Covered.Heads.{Head}
use Rattle.lu_proof_lawful.proofs.Preconditions.Guards.{In, CamePins, IsUnmarked, came_marked}
use Rattle.lu_proof_lawful.proofs.Preconditions.StoryGuards.{GivenOf}
use Rattle.lu_proof_lawful.proofs.Preconditions.Grown.{Allowed, Grown}
use Rattle.lu_proof_lawful.proofs.Preconditions.PinsFit.{HasName}
use Rattle.lu_proof_lawful.proofs.Preconditions.Held.{held_into}
use Rattle.lu_proof_lawful.proofs.Preconditions.Lists.{self}
use Rattle.lu_proof_lawful.proofs.Preconditions.ClientLines.{held_once, once_same}
use Rattle.lu_proof_lawful.proofs.Preconditions.ClientLocks.{Once, names_same, own_name, with_self, with_only, brought_only, changed_only}
use Rattle.lu_proof_lawful.proofs.Preconditions.ClientLocks.{used_only, without_only, unmarked_only}
use Rattle.lu_proof_lawful.proofs.Invariants.Groups.{turn}
use Rattle.lu_proof_lawful.proofs.Invariants.TargetGroups.{hopes_of}
use Rattle.lu_proof_lawful.proofs.Invariants.All.{holds}
use Rattle.lu_proof_lawful.proofs.Invariants.LocksHeard.{numbered, hoped}
use Rattle.lu_proof_lawful.proofs.Laws.HeldLists.{Has}
use Rattle.lu_proof_lawful.proofs.Laws.HeldStays.{GivesItUp, has_stays}
use Rattle.lu_proof_lawful.proofs.Laws.SilentHeld.{Lasts, Stays, gives_up, pin_lasts, unpin_lasts, mark_lasts}

-- one of that name is held, each of them lasts, and it didn't come marked
pub record Good (c : ℕ) (n : LockName) (past : List Line) : Type 0 where
  pub has : HasName n (held_at c past)
  pub each : (h : HeldLock) → In h (held_at c past) → is_named n h ≡ true → Lasts h
  pub came : came_marked c n past ≡ false

-- a lock that waited isn't held when it is granted
given_fresh : (head : Head) (past : List Line) (stamp : Stamp) (c t : ℕ) (l : Lock) (marked : Bool) (size : Option ℕ) (seen : List ℕ)
    → Grown head past → GivenOf (only t past) c t l seen
    → (h : HeldLock) → In h (held_at c past) → h.target.0 ≡ t → h.lock.cookie ≡ l.cookie → ⊥
given_fresh head past stamp c t l marked size seen g ok h j e same =
    let all = (holds head past g).at t in
    let own = all.locks.held c h (held_into c t past h e j) in
    let yes = hoped head (only t past) stamp c t l marked size seen ok all in
    let no : hopes_of ok.notice.who l.cookie.0 (only t past) ≡ false =
    ap (λ (w : Who). hopes_of w l.cookie.0 (only t past)) ok.who
    ∙ ap (λ (k : Cookie). hopes_of (life_of c (only t past)) k.0 (only t past)) (sym same) ∙ own.came in
    absurd (cc)

-- ---- of a name

module _ (n : LockName) where
  abbrev EachLasts : List HeldLock → Type 0
  EachLasts hs = (h : HeldLock) → In h hs → is_named n h ≡ true → Lasts h

  changed_lasts : (name : LockName) (k : Change) (hs : List HeldLock) → ((x : HeldLock) → is_named n (after k x) ≡ is_named n x)
      → EachLasts hs
      → ((x : HeldLock) → In x hs → is_named name x ≡ true → is_named n x ≡ true → Lasts x → Lasts (after k x))
      → EachLasts (changed name k hs)
  changed_lasts name k hs same each more h i e =
      let r = changed_only name k h hs i in
      cond_both (is_named name r.0) (after k r.0) r.0 (λ (v : HeldLock). v ≡ h → Lasts h)
      (λ t q. let is : is_named n r.0 ≡ true = sym (same r.0) ∙ ap (λ (v : HeldLock). is_named n v) q ∙ e
      in subst Lasts q (more r.0 r.1 t is (each r.0 r.1 is)))
      (λ t q. subst Lasts q (each r.0 r.1 (ap (λ (v : HeldLock). is_named n v) q ∙ e))) r.2

  unmarked_lasts : (t : ℕ) (hs : List HeldLock) → EachLasts hs → EachLasts (unmarked (record { 0 = t }) hs)
  unmarked_lasts t hs each h i e =
      let r = unmarked_only t h hs i in
      cond_both (nat_eq r.0.target.0 t) (after Unmark r.0) r.0 (λ (v : HeldLock). v ≡ h → Lasts h)
      (λ o q. inl (ap (λ (v : HeldLock). v.marked) (sym q)))
      (λ o q. subst Lasts q (each r.0 r.1 (ap (λ (v : HeldLock). is_named n v) q ∙ e))) r.2

  brought_lasts : (t : ℕ) (ls : List Lock) (hs : List HeldLock) → EachLasts hs → EachLasts (with_brought t ls hs)
  brought_lasts t ls hs each h i e =
      ⊎_elim (λ (x : (k : Lock) × (held_as t k false ≡ h)). inl (ap (λ (v : HeldLock). v.marked) (sym x.1))) (λ (j : In h hs). each h j e)
      (brought_only t h ls hs i)

  held_lasts : (t : ℕ) (k : Lock) (m : Bool) (hs : List HeldLock) → EachLasts hs → EachLasts (with_held (held_as t k m) hs)
  held_lasts t k m hs each h i e =
      ⊎_elim (λ (x : held_as t k m ≡ h). inr (ap (λ (v : HeldLock). v.pins) (sym x))) (λ (j : In h hs). each h j e)
      (with_only (held_as t k m) h hs i)

module _ (head : Head) (c : ℕ) (l : Line) (past : List Line) (g : Grown head (l ∷ past)) (stays : Stays c past l.at.node l.entry) where
  abbrev H : List HeldLock
  H = held_at c past

  -- the lock is held on
  pub held_on : (h : HeldLock) → In h (held_at c past) → Has h.target.0 h.lock (held_at c (l ∷ past))
  held_on h i =
      ⊎_elim (λ (m : Has h.target.0 h.lock (held_at c (l ∷ past))). m)
      (λ (x : GivesItUp c h.target.0 h.lock l). absurd (never x))
      (has_stays head l past g c h.target.0 h.lock (h, i, refl, refl))
    where
      never : GivesItUp c h.target.0 h.lock l → ⊥
      never x =
          let no : gives_up c (Client c) (Drop h.target.0 h.lock) ≡ false =
          subst (λ (v : Node). gives_up c v (Drop h.target.0 h.lock) ≡ false) x.0
          (subst (λ (v : Entry). gives_up c l.at.node v ≡ false) x.1 stays.0) in
          let yes : true ≡ false = sym (self c) ∙ no in
          absurd (cc)

  named_on : (n : LockName) → HasName n (held_at c past) → HasName n (held_at c (l ∷ past))
  named_on n (h, i, e) =
      let m = held_on h i in (
        m.0,
        m.1,
        ap (λ (v : ℕ). nat_eq n.target.0 v && nat_eq n.cookie.0 m.0.lock.cookie.0) m.2
            ∙ ap (λ (k : Lock). nat_eq n.target.0 h.target.0 && nat_eq n.cookie.0 k.cookie.0) m.3 ∙ e,
      )

  -- and each of its name lasts on
  pub good_stays : (n : LockName) → Good c n past → Good c n (l ∷ past)
  good_stays n good = let r = by l.at.node l.entry g.0 stays in record { has = named_on n good.has; each = r.0; came = r.1 }
    where
      New : Node → Entry → Type 0
      New node e = EachLasts n (held_at c (line (turn l.at.stamp node) e ∷ past))
          × (came_marked c n (line (turn l.at.stamp node) e ∷ past) ≡ false)

      own : (d : ℕ) (new : List HeldLock) → (nat_eq c d ≡ true → EachLasts n new) → EachLasts n (if nat_eq c d then new else H)
      own d new more = cond_both (nat_eq c d) new H (λ (v : List HeldLock). EachLasts n v) more (λ o. good.each)

      -- a lock of that name is held: it comes without a mark
      comes : (d t : ℕ) (k : Lock) (marked : Bool) (size : Option ℕ) (seen : List ℕ)
          → Allowed head past (turn l.at.stamp (Client d)) (Hold t k marked size seen)
          → (nat_eq c d && (nat_eq t n.target.0 && nat_eq k.cookie.0 n.cookie.0)) ≡ true → marked ≡ false
      comes d t k marked size seen a o =
          let p = and_parts (nat_eq c d) (nat_eq t n.target.0 && nat_eq k.cookie.0 n.cookie.0) o in
          let q = and_parts (nat_eq t n.target.0) (nat_eq k.cookie.0 n.cookie.0) p.1 in
          let h = good.has in
          let r = and_parts (nat_eq n.target.0 h.0.target.0) (nat_eq n.cookie.0 h.0.lock.cookie.0) h.2 in
          let target : h.0.target.0 ≡ t = sym (eqb-true n.target.0 h.0.target.0 r.0) ∙ sym (eqb-true t n.target.0 q.0) in
          let cookie : h.0.lock.cookie.0 ≡ k.cookie.0 = sym (eqb-true n.cookie.0 h.0.lock.cookie.0 r.1)
          ∙ sym (eqb-true k.cookie.0 n.cookie.0 q.1) in
          ⊎_elim (λ (x : (marked ≡ false) × _). x.0)
          (λ (ok : GivenOf (only t past) d t k seen).
          absurd (given_fresh head past l.at.stamp d t k marked size seen g.1 ok h.0
          (subst (λ (v : ℕ). In h.0 (held_at v past)) (eqb-true c d p.0) h.1) target (ap numbered cookie)))
          (a.of t (self t))

      pinned : (d : ℕ) (name : LockName) → IsUnmarked past d name ⊎ CamePins past d name → nat_eq c d ≡ true → (x : HeldLock) → In x H
          → is_named name x ≡ true → is_named n x ≡ true → Lasts (after Pin x)
      pinned d name (inl clean) o x i t is = pin_lasts x (clean x (subst (λ (v : ℕ). In x (held_at v past)) (eqb-true c d o) i) t)
      pinned d name (inr comes) o x i t is =
          let same : name ≡ n = names_same name (name_of x) t ∙ sym (names_same n (name_of x) is) in
          let yes : came_marked c n past ≡ true = ap (λ (v : LockName). came_marked c v past) (sym same)
          ∙ ap (λ (v : ℕ). came_marked v name past) (eqb-true c d o) ∙ comes.marked in
          let no = good.came in
          let clash : true ≡ false = sym yes ∙ no in
          absurd (cc)

      by : (node : Node) (e : Entry) → Allowed head past (turn l.at.stamp node) e → Stays c past node e → New node e
      by (Client d) (Heard t f r) a s = (
        own d (with_brought t (brought f.op r) H) (λ o. brought_lasts n t (brought f.op r) H good.each),
        cond_both (nat_eq c d && nat_eq t n.target.0) false (came_marked c n past) (λ (v : Bool). v ≡ false) (λ o. refl) (λ o. good.came),
      )
      by (Client d) (Hold t k marked size seen) a s = (
        own d (with_held (held_as t k marked) H) (λ o. held_lasts n t k marked H good.each),
        cond_both (nat_eq c d && (nat_eq t n.target.0 && nat_eq k.cookie.0 n.cookie.0)) marked (came_marked c n past)
            (λ (v : Bool). v ≡ false) (comes d t k marked size seen a) (λ o. good.came),
      )
      by (Client d) (Drop t k) a s = (
        own d (without (named (record { 0 = t }) k.cookie) H)
            (λ o h i e. good.each h (without_only (named (record { 0 = t }) k.cookie) h H i).0 e),
        good.came,
      )
      by (Client d) (Pins name) a s = (
        own d (changed name Pin H)
            (λ o. changed_lasts n name Pin H (λ x. refl) good.each (λ x i t is w. pinned d name a.ok o x i t is)),
        good.came,
      )
      by (Client d) (Unpins name) a s = (
        own d (used name (changed name Unpin H)) (λ o h i e. changed_lasts n name Unpin H (λ x. refl) good.each
            (λ x j t is w. unpin_lasts x w) h (used_only name h (changed name Unpin H) i) e),
        good.came,
      )
      by (Client d) (Marks name) a s = (
        own d (changed name Mark H)
            (λ o. changed_lasts n name Mark H (λ x. refl) good.each (λ x i t is w. mark_lasts x (s.1 o x i t))),
        good.came,
      )
      by (Client d) (Unmarks t) a s = (
        own d (unmarked (record { 0 = t }) H) (λ o. unmarked_lasts n t H good.each),
        cond_both (nat_eq c d && nat_eq t n.target.0) false (came_marked c n past) (λ (v : Bool). v ≡ false) (λ o. refl) (λ o. good.came),
      )
      by (Target u) (Heard t f r) a s = absurd a.ok
      by (Target u) (Hold t k marked size seen) a s = absurd a.ok
      by (Target u) (Drop t k) a s = absurd a.ok
      by (Target u) (Pins name) a s = absurd a.ok
      by (Target u) (Unpins name) a s = absurd a.ok
      by (Target u) (Marks name) a s = absurd a.ok
      by (Target u) (Unmarks t) a s = absurd a.ok
      by node e a s = (good.each, good.came)

-- ---- one that isn't marked didn't come marked

module _ (head : Head) (c : ℕ) (l : Line) (past : List Line) (g : Grown head (l ∷ past))
    (ih : (x : HeldLock) → In x (held_at c past) → x.marked ≡ false → came_marked c (name_of x) past ≡ false) where
  abbrev K : List HeldLock
  K = held_at c past

  clean_line : (h : HeldLock) → In h (held_at c (l ∷ past)) → h.marked ≡ false → came_marked c (name_of h) (l ∷ past) ≡ false
  clean_line h i e = by l.at.node l.entry g.0 (held_once head c (l ∷ past) g) i
    where
      Old : Type 0
      Old = came_marked c (name_of h) past ≡ false

      own : (d : ℕ) (new : List HeldLock) → (In h new → Old) → In h (if nat_eq c d then new else K) → Old
      own d new more = cond_both (nat_eq c d) new K (λ (v : List HeldLock). In h v → Old) (λ o. more) (λ o j. ih h j e)

      change : (name : LockName) (k : Change) → ((x : HeldLock) → name_of (after k x) ≡ name_of x)
          → ((x : HeldLock) → (after k x).marked ≡ false → x.marked ≡ false) → In h (changed name k K) → Old
      change name k same clean j =
          let r = changed_only name k h K j in
          cond_both (is_named name r.0) (after k r.0) r.0 (λ (v : HeldLock). v ≡ h → Old)
          (λ t q.
          let mark : r.0.marked ≡ false = clean r.0 (ap (λ (v : HeldLock). v.marked) q ∙ e) in
          ap (λ (v : LockName). came_marked c v past) (ap (λ (v : HeldLock). name_of v) (sym q) ∙ same r.0) ∙ ih r.0 r.1 mark)
          (λ t q. ih h (subst (λ (v : HeldLock). In v K) q r.1) e) r.2

      heard : (t : ℕ) (ls : List Lock) (b : Bool) → (b && nat_eq t h.target.0) ≡ false → In h (if b then with_brought t ls K else K)
          → In h K
      heard t ls false o j = j
      heard t ls true o j =
          ⊎_elim
          (λ (x : (k : Lock) × (held_as t k false ≡ h)).
          let yes : nat_eq t h.target.0 ≡ true = ap (λ (v : HeldLock). nat_eq t v.target.0) (sym x.1) ∙ self t in
          let clash : true ≡ false = sym yes ∙ o in
          absurd (cc))
          (λ (k : In h K). k)
          (brought_only t h ls K j)

      held : (t : ℕ) (k : Lock) (m b : Bool) → (b && (nat_eq t h.target.0 && nat_eq k.cookie.0 h.lock.cookie.0)) ≡ false
          → In h (if b then with_held (held_as t k m) K else K) → In h K
      held t k m false o j = j
      held t k m true o j =
          ⊎_elim
          (λ (x : held_as t k m ≡ h).
          let yes : (nat_eq t h.target.0 && nat_eq k.cookie.0 h.lock.cookie.0) ≡ true =
          ap (λ (v : HeldLock). nat_eq t v.target.0 && nat_eq k.cookie.0 v.lock.cookie.0) (sym x)
          ∙ own_name (named (record { 0 = t }) k.cookie) in
          let clash : true ≡ false = sym yes ∙ o in
          absurd (cc))
          (λ (i : In h K). i)
          (with_only (held_as t k m) h K j)

      shown : (t : ℕ) (k : Lock) (m b : Bool) → Once (if b then with_held (held_as t k m) K else K)
          → In h (if b then with_held (held_as t k m) K else K)
          → (b && (nat_eq t h.target.0 && nat_eq k.cookie.0 h.lock.cookie.0)) ≡ true → m ≡ false
      shown t k m false once j o = absurd (cc)
      shown t k m true once j o = ap (λ (v : HeldLock). v.marked)
          (once_same (with_held (held_as t k m) K) (held_as t k m) h once (with_self (held_as t k m) K) j o) ∙ e

      unmarks : (t : ℕ) (b : Bool) → (b && nat_eq t h.target.0) ≡ false → In h (if b then unmarked (record { 0 = t }) K else K) → In h K
      unmarks t false o j = j
      unmarks t true o j =
          let r = unmarked_only t h K j in
          cond_both (nat_eq r.0.target.0 t) (after Unmark r.0) r.0 (λ (v : HeldLock). v ≡ h → In h K)
          (λ q s.
          let yes : nat_eq t h.target.0 ≡ true = ap (λ (v : HeldLock). nat_eq t v.target.0) (sym s)
          ∙ ap (nat_eq t) (eqb-true r.0.target.0 t q) ∙ self t in
          let clash : true ≡ false = sym yes ∙ o in
          absurd (cc))
          (λ q s. subst (λ (v : HeldLock). In v K) s r.1) r.2

      by : (node : Node) (x : Entry) → Allowed head past (turn l.at.stamp node) x → Once (held_at c (line (turn l.at.stamp node) x ∷ past))
          → In h (held_at c (line (turn l.at.stamp node) x ∷ past))
          → came_marked c (name_of h) (line (turn l.at.stamp node) x ∷ past) ≡ false
      by (Client d) (Heard t f r) a once j =
          cond_both (nat_eq c d && nat_eq t h.target.0) false (came_marked c (name_of h) past) (λ (v : Bool). v ≡ false) (λ o. refl)
          (λ o. ih h (heard t (brought f.op r) (nat_eq c d) o j) e)
      by (Client d) (Hold t k marked size seen) a once j =
          cond_both (nat_eq c d && (nat_eq t h.target.0 && nat_eq k.cookie.0 h.lock.cookie.0)) marked (came_marked c (name_of h) past)
          (λ (v : Bool). v ≡ false)
          (shown t k marked (nat_eq c d) once j) (λ o. ih h (held t k marked (nat_eq c d) o j) e)
      by (Client d) (Drop t k) a once j = own d (without (named (record { 0 = t }) k.cookie) K)
          (λ i. ih h (without_only (named (record { 0 = t }) k.cookie) h K i).0 e) j
      by (Client d) (Pins name) a once j = own d (changed name Pin K) (change name Pin (λ x. refl) (λ x q. q)) j
      by (Client d) (Unpins name) a once j = own d (used name (changed name Unpin K))
          (λ i. change name Unpin (λ x. refl) (λ x q. q) (used_only name h (changed name Unpin K) i)) j
      by (Client d) (Marks name) a once j = own d (changed name Mark K) (change name Mark (λ x. refl) (λ x q. absurd (cc))) j
      by (Client d) (Unmarks t) a once j =
          cond_both (nat_eq c d && nat_eq t h.target.0) false (came_marked c (name_of h) past) (λ (v : Bool). v ≡ false) (λ o. refl)
          (λ o. ih h (unmarks t (nat_eq c d) o j) e)
      by (Target u) (Heard t f r) a once j = absurd a.ok
      by (Target u) (Hold t k marked size seen) a once j = absurd a.ok
      by (Target u) (Drop t k) a once j = absurd a.ok
      by (Target u) (Pins name) a once j = absurd a.ok
      by (Target u) (Unpins name) a once j = absurd a.ok
      by (Target u) (Marks name) a once j = absurd a.ok
      by (Target u) (Unmarks t) a once j = absurd a.ok
      by node x a once j = ih h j e

pub clean_came : (head : Head) (c : ℕ) (past : List Line) → Grown head past → (h : HeldLock) → In h (held_at c past) → h.marked ≡ false
    → came_marked c (name_of h) past ≡ false
clean_came head c [] g h i e = refl
clean_came head c (l ∷ past) g h i e = clean_line head c l past g (λ x j q. clean_came head c past g.1 x j q) h i e

-- ---- a held lock

abbrev pub NotMarked : ℕ → List Line → HeldLock → Type 0
NotMarked c past h = Lasts h × (came_marked c (name_of h) past ≡ false)

pub good_of : (head : Head) (c : ℕ) (past : List Line) → Grown head past → (h : HeldLock) → In h (held_at c past) → NotMarked c past h
    → Good c (name_of h) past
good_of head c past g h i is =
    record {
      has = (h, i, own_name (name_of h));
      each = λ x j e. subst Lasts (once_same (held_at c past) h x (held_once head c past g) i j e) is.0;
      came = is.1;
    }

pub on_held : (head : Head) (c : ℕ) (l : Line) (past : List Line) → Grown head (l ∷ past) → Stays c past l.at.node l.entry → (h : HeldLock)
    → In h (held_at c past) → NotMarked c past h
    → (m : HeldLock) × In m (held_at c (l ∷ past)) × NotMarked c (l ∷ past) m × (m.target ≡ h.target) × (m.lock ≡ h.lock)
on_held head c l past g stays h i is =
    let good = good_stays head c l past g stays (name_of h) (good_of head c past g.1 h i is) in
    let m = held_on head c l past g stays h i in
    let target : m.0.target ≡ h.target = ap (λ (v : ℕ). of v) m.2 in
    let same : name_of h ≡ name_of m.0 = ap (λ (v : TargetId). named v h.lock.cookie) (sym target)
    ∙ ap (λ (v : Lock). named m.0.target v.cookie) (sym m.3) in (
      m.0,
      m.1,
      (
        good.each m.0 m.1 (ap (λ (v : LockName). is_named v m.0) same ∙ own_name (name_of m.0)),
        ap (λ (v : LockName). came_marked c v (l ∷ past)) (sym same) ∙ good.came,
      ),
      target,
      m.3,
    )
  where
    of : ℕ → TargetId
    of v = record { 0 = v }
