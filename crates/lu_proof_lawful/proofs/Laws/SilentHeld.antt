-- What a client holds that lasts (a lock that is called back while it is pinned goes later) and knows under that only grows, until it gives
-- up
-- a lock, or marks one that is pinned, or begins a new life.
use Rattle.std.proofs.Common.{◌≡◌, ℕ, ◌-◌, Bool, true, false, List, [], ◌∷◌, ◌++◌, ◌⊎◌, inl, inr, ⊎_elim, refl, sym, subst, ap, ◌∙◌, arith}
use Rattle.std.specs.Prelude.{nat_eq, not, ◌==◌, ◌&&◌, if◌then◌else◌, map}
use Rattle.std.proofs.lemmas.Bool.{cond_both, eqb-true}
use Rattle.lu_base.specs.declared.ids.Cookie.{Cookie}
use Rattle.lu_base.specs.declared.ids.Node.{Node}
use Rattle.lu_base.specs.declared.ids.Node.TheVariants.{Client, Target}
use Rattle.lu_base.specs.declared.ids.Stamp.{Stamp}
use Rattle.lu_held.specs.declared.locks.Change.TheVariants as lock
use Rattle.lu_held.specs.declared.locks.HeldLock.{HeldLock}
use Rattle.lu_held.specs.declared.names.LockName.{LockName}
use Rattle.lu_held.specs.Locks.{named, is_named, after}
use Rattle.lu_held.specs.Held.{changed, used, without, unmarked}
use Rattle.lu_spec_entries.specs.Words.{Entry, Heard, Hold, Drop, Life, Pins, Unpins, Marks, Unmarks, Learns, Line, line, is_client}
use Rattle.lu_spec_client.specs.Caches.{held_as, with_held, brought, with_brought, held_at}
use Rattle.lu_spec_client.specs.Facts.{Fact, taught, without_facts, facts_at}
use Rattle.lu_spec_client.specs.Known.{Notes, is_usable}
use Rattle.lu_proof_lawful.specs.Covered.Known.{notes_at}
use Rattle.lu_proof_lawful.proofs.Preconditions.Guards.{In, IsFree, EntryOk, IsUnmarked, CamePins}
use Rattle.lu_proof_lawful.proofs.Preconditions.Lists.{in_right}
use Rattle.lu_proof_lawful.proofs.Invariants.Groups.{turn}
use Rattle.lu_proof_lawful.proofs.Invariants.HeldThere.{There, IsClear, IsIt, in_map, map_in, usable_clear, clear_usable, changed_there}
use Rattle.lu_proof_lawful.proofs.Invariants.HeldThere.{unmarked_there, used_there, with_there, brought_there}
use Rattle.lu_proof_lawful.proofs.Laws.OneWord.{named_target}
use Rattle.lu_proof_lawful.proofs.Laws.SilentKnown.{Grows}

-- ---- a lock that lasts

-- it isn't marked, or isn't pinned: then no call waits with it for its end
abbrev pub Lasts : HeldLock → Type 0
Lasts h = (h.marked ≡ false) ⊎ (h.pins ≡ 0)

abbrev pub Present : (t k : ℕ) → List HeldLock → Type 0
Present t k held = There Lasts t k held

-- one that lasts has its mark taken away
abbrev pub bare : HeldLock → HeldLock
bare h = record h { marked = h.marked && not (h.pins == 0) }

bare_lasts : (h : HeldLock) → (bare h).marked ≡ false → Lasts h
bare_lasts h e = by h.marked (h.pins == 0) refl refl e
  where
    by : (m z : Bool) → h.marked ≡ m → (h.pins == 0) ≡ z → (m && not z) ≡ false → Lasts h
    by false z p q e = inl p
    by true true p q e = inr (eqb-true h.pins 0 q)
    by true false p q e = absurd (cc)

lasts_bare : (h : HeldLock) → Lasts h → (bare h).marked ≡ false
lasts_bare h (inl e) = ap (λ (b : Bool). b && not (h.pins == 0)) e
lasts_bare h (inr e) = ap (λ (n : ℕ). h.marked && not (n == 0)) e ∙ none h.marked
  where
    none : (b : Bool) → (b && false) ≡ false
    none true = refl
    none false = refl

abbrev pub bare_notes : List Fact → List HeldLock → Notes
bare_notes facts held = record { facts = facts; held = map bare held }

-- the client's facts after a past, and its held locks as if those that last had no marks
abbrev pub bare_at : ℕ → List Line → Notes
bare_at c past = bare_notes (facts_at c past) (held_at c past)

pub present_bare : (c : Cookie) (held : List HeldLock) → Present 0 c.0 held → is_usable c (map bare held) ≡ true
present_bare c held p = clear_usable c (map bare held) (bare p.0, (in_map bare p.0 held p.1.0, (p.1.1.0, lasts_bare p.0 p.1.1.1)))

pub bare_present : (c : Cookie) (held : List HeldLock) → is_usable c (map bare held) ≡ true → Present 0 c.0 held
bare_present c held e =
    let p = usable_clear c (map bare held) e in
    let q = map_in bare p.0 held p.1.0 in
    (q.0, (q.1.0, (subst (λ (v : HeldLock). IsIt 0 c.0 v) (sym q.1.1) p.1.1.0, bare_lasts q.0 (subst IsClear (sym q.1.1) p.1.1.1))))

-- no lock is marked that isn't pinned
abbrev pub Unmarked : List HeldLock → Type 0
Unmarked held = (h : HeldLock) → In h held → h.pins ≡ 0 → h.marked ≡ false

pub lasts_clear : (held : List HeldLock) → Unmarked held → (h : HeldLock) → In h held → Lasts h → IsClear h
lasts_clear held calm h i (inl e) = e
lasts_clear held calm h i (inr e) = calm h i e

-- ---- notes

pub grows_bare : (facts more : List Fact) (held holds : List HeldLock) → ((f : Fact) → In f facts → In f more)
    → ((k : ℕ) → Present 0 k held → Present 0 k holds) → Grows (bare_notes facts held) (bare_notes more holds)
grows_bare facts more held holds f h x u = (f x u.0, present_bare x.cookie holds (h x.cookie.0 (bare_present x.cookie held u.1)))

-- what can be used lasts, and where no lock is marked that isn't pinned what lasts can be used
pub grows_to_bare : (facts : List Fact) (held : List HeldLock) → Grows (record { facts = facts; held = held }) (bare_notes facts held)
grows_to_bare facts held x u = let p = usable_clear x.cookie held u.1
    in (u.0, present_bare x.cookie held (p.0, (p.1.0, (p.1.1.0, inl p.1.1.1))))

pub grows_from_bare : (facts : List Fact) (held : List HeldLock) → Unmarked held
    → Grows (bare_notes facts held) (record { facts = facts; held = held })
grows_from_bare facts held calm x u =
    let p = bare_present x.cookie held u.1 in
    (u.0, clear_usable x.cookie held (p.0, (p.1.0, (p.1.1.0, lasts_clear held calm p.0 p.1.0 p.1.1.1))))

-- ---- what an entry makes of the held locks

-- a change keeps what lasts: one that is pinned isn't marked
pub pin_lasts : (h : HeldLock) → h.marked ≡ false → Lasts (after lock.Pin h)
pin_lasts h e = inl e

pub unpin_lasts : (h : HeldLock) → Lasts h → Lasts (after lock.Unpin h)
unpin_lasts h (inl e) = inl e
unpin_lasts h (inr e) = inr (ap (λ (n : ℕ). n - 1) e)

pub mark_lasts : (h : HeldLock) → h.pins ≡ 0 → Lasts (after lock.Mark h)
mark_lasts h e = inr e

-- ---- what a line makes of them

-- the client gives up a lock, or its life
abbrev pub gives_up : ℕ → Node → Entry → Bool
gives_up c node e = elim e [ Drop t l ↦ is_client c node | Life who ↦ is_client c node | _ ↦ false ]

-- nor does it mark a lock that is pinned
abbrev pub MarksFree : ℕ → List Line → Node → Entry → Type 0
MarksFree c past (Client d) (Marks name) = nat_eq c d ≡ true → IsFree past c name
MarksFree c past node e = Unit {0}

abbrev pub Stays : ℕ → List Line → Node → Entry → Type 0
Stays c past node e = (gives_up c node e ≡ false) × MarksFree c past node e

-- on names
abbrev OfNames : HeldLock → Type 0
OfNames h = (h.target.0 ≡ 0) × Lasts h

module _ (c : ℕ) (past : List Line) (stamp : Stamp) where
  abbrev H : List HeldLock
  H = held_at c past

  pub held_stays : (k : ℕ) (node : Node) (e : Entry) → EntryOk past (turn stamp node) node e → Stays c past node e
      → Present 0 k (held_at c past) → Present 0 k (held_at c (line (turn stamp node) e ∷ past))
  held_stays k (Client d) (Heard t f r) ok stays p =
      cond_both (nat_eq c d) (with_brought t (brought f.op r) H) H (λ (v : List HeldLock). Present 0 k v)
      (λ o. brought_there Lasts 0 k (λ u l. inl refl) t (brought f.op r) H p) (λ o. p)
  held_stays k (Client d) (Hold t l marked size seen) ok stays p =
      cond_both (nat_eq c d) (with_held (held_as t l marked) H) H (λ (v : List HeldLock). Present 0 k v)
      (λ o. with_there Lasts 0 k (held_as t l marked) H (inr refl) p) (λ o. p)
  held_stays k (Client d) (Drop t l) ok stays p = subst (λ (b : Bool). Present 0 k
      (if b then without (named (record { 0 = t }) l.cookie) H else H)) (sym stays.0) p
  held_stays k (Client d) (Pins name) ok stays p = cond_both (nat_eq c d) (changed name lock.Pin H) H (λ (v : List HeldLock). Present 0 k v)
      (λ o. of_names (changed_there OfNames 0 k name lock.Pin H
      (λ h i t w. (w.0, pin_lasts h (unmarked_name h (subst (λ (v : ℕ). In h (held_at v past)) (eqb-true c d o) i) t w.0)))
      (p.0, (p.1.0, (p.1.1.0, (p.1.1.0.0, p.1.1.1)))))) (λ o. p)
    where
      of_names : There OfNames 0 k (changed name lock.Pin H) → Present 0 k (changed name lock.Pin H)
      of_names q = (q.0, (q.1.0, (q.1.1.0, q.1.1.1.1)))

      -- a lock that came called back is on an object
      unmarked_name : (h : HeldLock) → In h (held_at d past) → is_named name h ≡ true → h.target.0 ≡ 0 → h.marked ≡ false
      unmarked_name h i t z = ⊎_elim (λ (u : IsUnmarked past d name). u h i t)
          (λ (came : CamePins past d name).
          let same : name.target.0 ≡ came.wanted.target.0 = ap (λ (n : LockName). n.target.0) came.is in
          let is = named_target name h t in
          let object = came.object in
          absurd (omega (arith, same, is, z, object)))
          ok
  held_stays k (Client d) (Unpins name) ok stays p = cond_both (nat_eq c d) (used name (changed name lock.Unpin H)) H
      (λ (v : List HeldLock). Present 0 k v)
      (λ o. used_there Lasts 0 k name (changed name lock.Unpin H)
      (changed_there Lasts 0 k name lock.Unpin H (λ h i t w. unpin_lasts h w) p)) (λ o. p)
  held_stays k (Client d) (Marks name) ok stays p = cond_both (nat_eq c d) (changed name lock.Mark H) H
      (λ (v : List HeldLock). Present 0 k v)
      (λ o. changed_there Lasts 0 k name lock.Mark H (λ h i t w. mark_lasts h (stays.1 o h i t)) p) (λ o. p)
  held_stays k (Client d) (Unmarks t) ok stays p = cond_both (nat_eq c d) (unmarked (record { 0 = t }) H) H
      (λ (v : List HeldLock). Present 0 k v) (λ o. unmarked_there Lasts 0 k t H (λ h w. inl refl) p) (λ o. p)
  held_stays k (Target t) (Heard u f r) ok stays p = absurd ok
  held_stays k (Target t) (Hold u l marked size seen) ok stays p = absurd ok
  held_stays k (Target t) (Drop u l) ok stays p = absurd ok
  held_stays k (Target t) (Pins name) ok stays p = absurd ok
  held_stays k (Target t) (Unpins name) ok stays p = absurd ok
  held_stays k (Target t) (Marks name) ok stays p = absurd ok
  held_stays k (Target t) (Unmarks u) ok stays p = absurd ok
  held_stays k _ _ ok stays p = p

  facts_stay : (x : Fact) (node : Node) (e : Entry) → EntryOk past (turn stamp node) node e → gives_up c node e ≡ false
      → In x (facts_at c past) → In x (facts_at c (line (turn stamp node) e ∷ past))
  facts_stay x (Client d) (Learns t o a locks) ok stays i =
      cond_both (nat_eq c d) (taught o a locks ++ facts_at c past) (facts_at c past) (λ (v : List Fact). In x v)
      (λ q. in_right x (taught o a locks) (facts_at c past) i) (λ q. i)
  facts_stay x (Client d) (Drop t l) ok stays i = subst (λ (b : Bool). In x
      (if b then without_facts t l (facts_at c past) else facts_at c past)) (sym stays) i
  facts_stay x (Client d) (Life who) ok stays i = subst (λ (b : Bool). In x (if b then [] else facts_at c past)) (sym stays) i
  facts_stay x (Target t) (Learns u o a locks) ok stays i = absurd ok
  facts_stay x (Target t) (Drop u l) ok stays i = absurd ok
  facts_stay x (Target t) (Life who) ok stays i = absurd ok
  facts_stay x _ _ ok stays i = i

  -- a line gives a client more, unless a lock or the life is given up, or a pinned lock marked
  pub notes_grow : (node : Node) (e : Entry) → EntryOk past (turn stamp node) node e → Stays c past node e
      → Grows (bare_at c past) (bare_at c (line (turn stamp node) e ∷ past))
  notes_grow node e ok stays =
      grows_bare (facts_at c past) (facts_at c (line (turn stamp node) e ∷ past)) (held_at c past)
      (held_at c (line (turn stamp node) e ∷ past))
      (λ x i. facts_stay x node e ok stays.0 i) (λ k p. held_stays k node e ok stays p)

  -- pins and unpins leave what can be used as it is
  pub pins_grow : (d : ℕ) (name : LockName) → Grows (notes_at c past) (notes_at c (line (turn stamp (Client d)) (Pins name) ∷ past))
  pins_grow d name x u = (
    u.0,
    clear_usable x.cookie _ (cond_both (nat_eq c d) (changed name lock.Pin H) H (λ (v : List HeldLock). There IsClear 0 x.cookie.0 v)
        (λ o. changed_there IsClear 0 x.cookie.0 name lock.Pin H (λ h i t w. w) (usable_clear x.cookie H u.1))
        (λ o. usable_clear x.cookie H u.1)),
  )

  pub unpins_grow : (d : ℕ) (name : LockName) → Grows (notes_at c past) (notes_at c (line (turn stamp (Client d)) (Unpins name) ∷ past))
  unpins_grow d name x u = (
    u.0,
    clear_usable x.cookie _ (cond_both (nat_eq c d) (used name (changed name lock.Unpin H)) H
        (λ (v : List HeldLock). There IsClear 0 x.cookie.0 v)
        (λ o. used_there IsClear 0 x.cookie.0 name (changed name lock.Unpin H)
        (changed_there IsClear 0 x.cookie.0 name lock.Unpin H (λ h i t w. w) (usable_clear x.cookie H u.1)))
        (λ o. usable_clear x.cookie H u.1)),
  )
