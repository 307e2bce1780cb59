-- A lock that a client holds it holds after a further line, but for that which gives it up.
use Rattle.std.proofs.Common.{◌≡◌, ℕ, Bool, true, false, List, ◌∷◌, ◌⊎◌, inl, inr, refl, sym, subst, ap, ◌∙◌}
use Rattle.std.specs.Prelude.{nat_eq, not, if◌then◌else◌}
use Rattle.std.proofs.lemmas.Bool.{cond_both, and_parts, eqb-true}
use Rattle.lu_base.specs.declared.ids.Node.{Node}
use Rattle.lu_base.specs.declared.ids.Node.TheVariants.{Client, Target}
use Rattle.lu_base.specs.declared.locks.Lock.{Lock}
use Rattle.lu_held.specs.declared.locks.Change.TheVariants.{Mark, Pin, Unpin}
use Rattle.lu_held.specs.declared.locks.HeldLock.{HeldLock}
use Rattle.lu_held.specs.Locks.{named, is_named}
use Rattle.lu_held.specs.Held.{changed, used, without, unmarked}
use Rattle.lu_spec_entries.specs.Carried.{Deed}
use Rattle.lu_spec_entries.specs.Concerns.{only}
use Rattle.lu_spec_entries.specs.Words.{Entry, Heard, Hold, Drop, Pins, Unpins, Marks, Unmarks, Line, line}
use Rattle.lu_spec_client.specs.Caches.{held_as, with_held, brought, with_brought, held_at}
use Rattle.lu_proof_lawful.specs.Covered.Heads.{Head}
use Rattle.lu_proof_lawful.proofs.Preconditions.Guards.{In}
use Rattle.lu_proof_lawful.proofs.Preconditions.StoryGuards.{DropOk}
use Rattle.lu_proof_lawful.proofs.Preconditions.Grown.{Allowed, Grown}
use Rattle.lu_proof_lawful.proofs.Preconditions.Held.{held_back}
use Rattle.lu_proof_lawful.proofs.Preconditions.Lists.{self, turn, in_filtered}
use Rattle.lu_proof_lawful.proofs.Invariants.TargetGroups.{Gave}
use Rattle.lu_proof_lawful.proofs.Laws.HeldLists.{Has, has_held, has_brought, has_changed, has_unmarked, has_used}
use Rattle.lu_proof_lawful.proofs.Laws.Holding.{reply_is_heard, gave_one, has_gave, reply_gave, given_now}

-- the line gives up that lock of the client
abbrev pub GivesItUp : ℕ → ℕ → Lock → Line → Type 0
GivesItUp c t k l = (l.at.node ≡ Client c) × (l.entry ≡ Drop t k)

module _ (head : Head) (past : List Line) (g : Grown head past) (c : ℕ) (t : ℕ) (k : Lock) where
  -- one with the cookie of a lock that is held there is that lock
  same_held : (u : ℕ) (e : Deed) (l : Lock) → Gave (only u past) e l → Has t k (held_at c past) → u ≡ t → l.cookie.0 ≡ k.cookie.0 → l ≡ k
  same_held u e l i m same q = let r = has_gave head past g c t k m
      in gave_one head t past g e r.0 l k (subst (λ (v : ℕ). Gave (only v past) e l) same i) r.1 q

  of_own : (d : ℕ) (new : List HeldLock → List HeldLock) → (c ≡ d → Has t k (held_at c past) → Has t k (new (held_at c past)))
      → Has t k (held_at c past) → Has t k (if nat_eq c d then new (held_at c past) else held_at c past)
  of_own d new more m = cond_both (nat_eq c d) (new (held_at c past)) (held_at c past) (λ (v : List HeldLock). Has t k v)
      (λ e. more (eqb-true c d e) m) (λ e. m)

pub has_stays : (head : Head) (l : Line) (past : List Line) → Grown head (l ∷ past) → (c t : ℕ) (k : Lock) → Has t k (held_at c past)
    → Has t k (held_at c (l ∷ past)) ⊎ GivesItUp c t k l
has_stays head l past g c t k h = by l.at.node l.entry g.0 h
  where
    New : Node → Entry → Type 0
    New node e = Has t k (held_at c (line (turn l.at.stamp node) e ∷ past)) ⊎ GivesItUp c t k (line (turn l.at.stamp node) e)

    -- the lock that is given up was held there
    drops : (d u : ℕ) (x : Lock) → DropOk (only u past) d u x → Has t k (held_at c past) → (b : Bool) → nat_eq c d ≡ b
        → Has t k (if b then without (named (record { 0 = u }) x.cookie) (held_at c past) else held_at c past)
        ⊎ GivesItUp c t k (line (turn l.at.stamp (Client d)) (Drop u x))
    drops d u x ok h false q = inl h
    drops d u x ok h true q = of (is_named (named (record { 0 = u }) x.cookie) h.0) refl
      where
        client : c ≡ d
        client = eqb-true c d q

        of : (v : Bool) → is_named (named (record { 0 = u }) x.cookie) h.0 ≡ v
            → Has t k (without (named (record { 0 = u }) x.cookie) (held_at c past))
            ⊎ GivesItUp c t k (line (turn l.at.stamp (Client d)) (Drop u x))
        of false n = inl (
          h.0,
          in_filtered (λ y. not (is_named (named (record { 0 = u }) x.cookie) y)) h.0 (held_at c past) h.1 (ap not n),
          h.2,
          h.3,
        )
        of true n =
            let p = and_parts (nat_eq u h.0.target.0) (nat_eq x.cookie.0 h.0.lock.cookie.0) n in
            let there : u ≡ t = eqb-true u h.0.target.0 p.0 ∙ h.2 in
            let cookie : x.cookie.0 ≡ k.cookie.0 = eqb-true x.cookie.0 h.0.lock.cookie.0 p.1 ∙ ap (λ (y : Lock). y.cookie.0) h.3 in
            let back = held_back d u past ok.holding ok.held in
            let mine : Has u x (held_at c past) = (
              ok.holding,
              subst (λ (v : ℕ). In ok.holding (held_at v past)) (sym client) back.0,
              back.1,
              ok.is,
            ) in
            let e = has_gave head past g.1 c u x mine in
            let same : x ≡ k = same_held head past g.1 c t k u e.0 x e.1 h there cookie in
            inr (ap Client (sym client), ap (λ (v : ℕ). Drop v x) there ∙ ap (Drop t) same)

    by : (node : Node) (e : Entry) → Allowed head past (turn l.at.stamp node) e → Has t k (held_at c past) → New node e
    by (Client d) (Heard u f r) a h =
        let heard = reply_is_heard head past l.at.stamp d u f r a g.1 in
        inl (of_own head past g.1 c t k d (with_brought u (brought f.op r))
        (λ e m. has_brought u t (brought f.op r) k (held_at c past)
        (λ x j same q. same_held head past g.1 c t k u heard.deed x (reply_gave head past d u f r x heard j) m same q) m) h)
    by (Client d) (Hold u x marked size seen) a h =
        let now = (given_now head past l.at.stamp d u x marked size seen a g.1).1 in
        inl (of_own head past g.1 c t k d (with_held (held_as u x marked))
        (λ e m. has_held u t x marked k (held_at c past) (same_held head past g.1 c t k u now.0 x now.1 m) m) h)
    by (Client d) (Drop u x) a h = drops d u x (a.of u (self u)) h (nat_eq c d) refl
    by (Client d) (Pins name) a h = inl (of_own head past g.1 c t k d (changed name Pin)
        (λ e m. has_changed name Pin t k (held_at c past) m) h)
    by (Client d) (Unpins name) a h = inl (of_own head past g.1 c t k d (λ hs. used name (changed name Unpin hs))
        (λ e m. has_used name t k (changed name Unpin (held_at c past)) (has_changed name Unpin t k (held_at c past) m)) h)
    by (Client d) (Marks name) a h = inl (of_own head past g.1 c t k d (changed name Mark)
        (λ e m. has_changed name Mark t k (held_at c past) m) h)
    by (Client d) (Unmarks u) a h = inl (of_own head past g.1 c t k d (unmarked (record { 0 = u }))
        (λ e m. has_unmarked (record { 0 = u }) t k (held_at c past) m) h)
    by (Target u) (Heard v f r) a h = absurd a.ok
    by (Target u) (Hold v x marked size seen) a h = absurd a.ok
    by (Target u) (Drop v x) a h = absurd a.ok
    by (Target u) (Pins name) a h = absurd a.ok
    by (Target u) (Unpins name) a h = absurd a.ok
    by (Target u) (Marks name) a h = absurd a.ok
    by (Target u) (Unmarks v) a h = absurd a.ok
    by node e a h = inl h
