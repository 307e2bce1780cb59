-- A life tells a target one thing in a boot: while it recovers there, it neither hears nor gives up anything of that target, and one that
-- joins
-- tells nothing. So of the life's words in a boot all count the same replays and locks.
use Rattle.std.proofs.Common.{◌≡◌, ℕ, suc, ◌+◌, ◌<◌, ◌≤◌, Bool, true, false, List, [], ◌∷◌, ◌++◌, Option, ◌⊎◌, inl, inr, ⊎_elim, refl, sym}
use Rattle.std.proofs.Common.{subst, ap, ◌∙◌, arith}
use Rattle.std.specs.Prelude.{nat_eq, not, if◌then◌else◌, length, map, filter}
use Rattle.std.proofs.lemmas.Bool.{and_parts, cond_both, eqb-true, eqb-false}
use Rattle.lu_base.specs.declared.ids.At.{At}
use Rattle.lu_base.specs.declared.ids.Node.{Node}
use Rattle.lu_base.specs.declared.ids.Node.TheVariants.{Client, Target}
use Rattle.lu_base.specs.declared.ids.Stamp.{Stamp}
use Rattle.lu_base.specs.declared.ids.TargetId.{TargetId}
use Rattle.lu_base.specs.declared.ids.Who.{Who}
use Rattle.lu_base.specs.declared.locks.Lock.{Lock}
use Rattle.lu_msg.specs.declared.messages.GrantNotice.{GrantNotice}
use Rattle.lu_msg.specs.declared.messages.Message.{Message}
use Rattle.lu_msg.specs.declared.messages.Message.TheVariants as message
use Rattle.lu_msg.specs.declared.messages.Reply.{Reply as ReplyTo}
use Rattle.lu_held.specs.declared.names.LockName.{LockName}
use Rattle.lu_held.specs.declared.locks.HeldLock.{HeldLock}
use Rattle.lu_held.specs.declared.locks.Change.{Change}
use Rattle.lu_held.specs.declared.locks.Change.TheVariants.{Mark, Unmark, Pin, Unpin}
use Rattle.lu_held.specs.Locks.{name_of, is_named, after}
use Rattle.lu_held.specs.Held.{is_held, changed, used, unmarked, without}
use Rattle.lu_spec_entries.specs.Carried.{Flight, Said, Outcome}
use Rattle.lu_spec_entries.specs.Words.{Entry, Send, Heard, Hold, Drop, Life, Knows, Serves, Settles, Pins, Unpins, Marks, Unmarks, Close}
use Rattle.lu_spec_entries.specs.Words.{Line, line}
use Rattle.lu_spec_entries.specs.Concerns.{concerns, only}
use Rattle.lu_spec_client.specs.Caches.{held_as, with_held, with_brought, brought, held_at}
use Rattle.lu_proof_lawful.specs.Covered.Calls.{life_at}
use Rattle.lu_proof_lawful.specs.Covered.ClientStates.{known_of, standing_of, life_of}
use Rattle.lu_proof_lawful.specs.Covered.Imports.{Joining, Recovering, Serving, kept_at, known_at, standing_at}
use Rattle.lu_proof_lawful.specs.Covered.TargetStates.{server_of, closed_of}
use Rattle.lu_proof_lawful.specs.Covered.Heads.{Head}
use Rattle.lu_proof_lawful.proofs.Preconditions.Guards.{Was, Noticed, Ending, Closes, MarkedOk}
use Rattle.lu_proof_lawful.proofs.Preconditions.StoryGuards.{HeardOk, HeldOk, GivenOf, SettlesOk, EntryOf}
use Rattle.lu_proof_lawful.proofs.Preconditions.Grown.{Allowed, Grown}
use Rattle.lu_proof_lawful.proofs.Preconditions.Lists.{self}
use Rattle.lu_proof_lawful.proofs.Preconditions.Parts.{known_is, standing_is, life_is_of}
use Rattle.lu_proof_lawful.proofs.Invariants.Groups.{turn}
use Rattle.lu_proof_lawful.proofs.Preconditions.Endings.{noticed_more}
use Rattle.lu_proof_lawful.proofs.Invariants.All.{holds}
use Rattle.lu_proof_lawful.proofs.Laws.Printed.{flip, its_client}
use Rattle.lu_proof_lawful.proofs.Laws.Handed.{IsWord}
use Rattle.lu_proof_lawful.proofs.Laws.Backs.{OneTold, taken_was}

-- ---- how many locks are held of a target

abbrev count : ℕ → List HeldLock → ℕ
count t hs = length (filter (λ (h : HeldLock). nat_eq h.target.0 t) hs)

count_map : (t : ℕ) (f : HeldLock → HeldLock) (hs : List HeldLock) → ((h : HeldLock) → nat_eq (f h).target.0 t ≡ nat_eq h.target.0 t)
    → count t (map f hs) ≡ count t hs
count_map t f [] same = refl
count_map t f (h ∷ hs) same = by (nat_eq (f h).target.0 t) (nat_eq h.target.0 t) (same h) (count_map t f hs same)
  where
    by : (a b : Bool) → a ≡ b → count t (map f hs) ≡ count t hs
        → length (if a then f h ∷ filter (λ (h : HeldLock). nat_eq h.target.0 t) (map f hs)
        else filter (λ (h : HeldLock). nat_eq h.target.0 t) (map f hs))
        ≡ length (if b then h ∷ filter (λ (h : HeldLock). nat_eq h.target.0 t) hs
        else filter (λ (h : HeldLock). nat_eq h.target.0 t) hs)
    by true true e q = ap (λ (n : ℕ). suc n) q
    by false false e q = q
    by true false e q = absurd (cc)
    by false true e q = absurd (cc)

count_append : (t : ℕ) (xs ys : List HeldLock) → count t (xs ++ ys) ≡ count t xs + count t ys
count_append t [] ys = omega arith
count_append t (x ∷ xs) ys = by (nat_eq x.target.0 t) (count_append t xs ys)
  where
    by : (b : Bool) → count t (xs ++ ys) ≡ count t xs + count t ys
        → length (if b then x ∷ filter (λ (h : HeldLock). nat_eq h.target.0 t) (xs ++ ys)
        else filter (λ (h : HeldLock). nat_eq h.target.0 t) (xs ++ ys))
        ≡ length (if b then x ∷ filter (λ (h : HeldLock). nat_eq h.target.0 t) xs
        else filter (λ (h : HeldLock). nat_eq h.target.0 t) xs) + count t ys
    by true q = omega (arith, q)
    by false q = q

-- those with something and those without
count_parts : (t : ℕ) (p : HeldLock → Bool) (hs : List HeldLock) → count t (filter p hs) + count t (filter (λ h. not (p h)) hs) ≡ count t hs
count_parts t p [] = refl
count_parts t p (h ∷ hs) = by (p h) (nat_eq h.target.0 t) refl (count_parts t p hs)
  where
    with_one : Bool → List HeldLock → List HeldLock
    with_one b xs = if b then h ∷ xs else xs

    one : (b : Bool) → nat_eq h.target.0 t ≡ b → (xs : List HeldLock) → count t (h ∷ xs) ≡ (if b then suc (count t xs) else count t xs)
    one true e xs = ap (λ (b : Bool). length (if b then h ∷ filter (λ (h : HeldLock). nat_eq h.target.0 t) xs
        else filter (λ (h : HeldLock). nat_eq h.target.0 t) xs)) e
    one false e xs = ap (λ (b : Bool). length (if b then h ∷ filter (λ (h : HeldLock). nat_eq h.target.0 t) xs
        else filter (λ (h : HeldLock). nat_eq h.target.0 t) xs)) e

    by : (a b : Bool) → nat_eq h.target.0 t ≡ b → count t (filter p hs) + count t (filter (λ h. not (p h)) hs) ≡ count t hs
        → count t (if a then h ∷ filter p hs else filter p hs) + count t
        (if not a then h ∷ filter (λ h. not (p h)) hs else filter (λ h. not (p h)) hs) ≡ count t (h ∷ hs)
    by true true e q = let x = one true e (filter p hs) in let y = one true e hs in omega (arith, q, x, y)
    by true false e q = let x = one false e (filter p hs) in let y = one false e hs in omega (arith, q, x, y)
    by false true e q = let x = one true e (filter (λ h. not (p h)) hs) in let y = one true e hs in omega (arith, q, x, y)
    by false false e q = let x = one false e (filter (λ h. not (p h)) hs) in let y = one false e hs in omega (arith, q, x, y)

-- a change of one is none of its target
after_same : (change : Change) (h : HeldLock) → (after change h).target ≡ h.target
after_same Mark h = refl
after_same Unmark h = refl
after_same Pin h = refl
after_same Unpin h = refl

count_changed : (t : ℕ) (name : LockName) (change : Change) (hs : List HeldLock) → count t (changed name change hs) ≡ count t hs
count_changed t name change hs = count_map t f hs (λ h. cond_both (is_named name h) (after change h) h
    (λ (x : HeldLock). nat_eq x.target.0 t ≡ nat_eq h.target.0 t) (λ e. ap (λ (v : TargetId). nat_eq v.0 t) (after_same change h))
    (λ e. refl))
  where
    f : HeldLock → HeldLock
    f h = if is_named name h then after change h else h

count_unmarked : (t : ℕ) (target : TargetId) (hs : List HeldLock) → count t (unmarked target hs) ≡ count t hs
count_unmarked t target hs = count_map t f hs (λ h. cond_both (nat_eq h.target.0 target.0) (after Unmark h) h
    (λ (x : HeldLock). nat_eq x.target.0 t ≡ nat_eq h.target.0 t) (λ e. ap (λ (v : TargetId). nat_eq v.0 t) (after_same Unmark h))
    (λ e. refl))
  where
    f : HeldLock → HeldLock
    f h = if nat_eq h.target.0 target.0 then after Unmark h else h

count_used : (t : ℕ) (name : LockName) (hs : List HeldLock) → count t (used name hs) ≡ count t hs
count_used t name hs = count_append t (filter (is_named name) hs) (without name hs) ∙ count_parts t (is_named name) hs

-- a lock of another target
pub named_target : (name : LockName) (g : HeldLock) → is_named name g ≡ true → name.target.0 ≡ g.target.0
named_target name g e = eqb-true name.target.0 g.target.0 (and_parts (nat_eq name.target.0 g.target.0) _ e).0

count_with : (t : ℕ) (h : HeldLock) (hs : List HeldLock) → nat_eq h.target.0 t ≡ false → count t (with_held h hs) ≡ count t hs
count_with t h hs other = cond_both (is_held (name_of h) hs) (map f hs) (h ∷ hs) (λ (xs : List HeldLock). count t xs ≡ count t hs)
    (λ e. count_map t f hs (λ g. cond_both (is_named (name_of h) g) h g (λ (x : HeldLock). nat_eq x.target.0 t ≡ nat_eq g.target.0 t)
    (λ q. ap (λ (n : ℕ). nat_eq n t) (named_target (name_of h) g q)) (λ q. refl)))
    (λ e. ap (λ (b : Bool). length (if b then h ∷ filter (λ (h : HeldLock). nat_eq h.target.0 t) hs
    else filter (λ (h : HeldLock). nat_eq h.target.0 t) hs)) other)
  where
    f : HeldLock → HeldLock
    f g = if is_named (name_of h) g then h else g

count_brought : (t u : ℕ) (ls : List Lock) (hs : List HeldLock) → nat_eq u t ≡ false → count t (with_brought u ls hs) ≡ count t hs
count_brought t u [] hs other = refl
count_brought t u (l ∷ ls) hs other = count_brought t u ls (with_held (held_as u l false) hs) other
    ∙ count_with t (held_as u l false) hs other

count_without : (t : ℕ) (name : LockName) (hs : List HeldLock) → nat_eq name.target.0 t ≡ false → count t (without name hs) ≡ count t hs
count_without t name [] other = refl
count_without t name (h ∷ hs) other = by (is_named name h) refl (nat_eq h.target.0 t) refl (count_without t name hs other)
  where
    one : (b : Bool) → nat_eq h.target.0 t ≡ b → (xs : List HeldLock) → count t (h ∷ xs) ≡ (if b then suc (count t xs) else count t xs)
    one true e xs = ap (λ (b : Bool). length (if b then h ∷ filter (λ (h : HeldLock). nat_eq h.target.0 t) xs
        else filter (λ (h : HeldLock). nat_eq h.target.0 t) xs)) e
    one false e xs = ap (λ (b : Bool). length (if b then h ∷ filter (λ (h : HeldLock). nat_eq h.target.0 t) xs
        else filter (λ (h : HeldLock). nat_eq h.target.0 t) xs)) e

    by : (a : Bool) → is_named name h ≡ a → (b : Bool) → nat_eq h.target.0 t ≡ b → count t (without name hs) ≡ count t hs
        → count t (if not a then h ∷ without name hs else without name hs) ≡ count t (h ∷ hs)
    by true e true q s = absurd (let n : nat_eq h.target.0 t ≡ false = subst (λ (n : ℕ). nat_eq n t ≡ false) (named_target name h e) other
        in cc)
    by true e false q s = s ∙ sym (one false q hs)
    by false e true q s = one true q (without name hs) ∙ ap (λ (n : ℕ). suc n) s ∙ sym (one true q hs)
    by false e false q s = one false q (without name hs) ∙ s ∙ sym (one false q hs)

-- ---- what a line makes of what a client has to tell

abbrev replayed : ℕ → ℕ → List Line → ℕ
replayed c t past = length (kept_at c t past).replays

record Still (c t : ℕ) (past new : List Line) : Type 0 where
  life : life_at c new ≡ life_at c past
  known : known_at c t new ≡ known_at c t past
  standing : standing_at c t new ≡ standing_at c t past
  replays : replayed c t new ≡ replayed c t past
  locks : count t (held_at c new) ≡ count t (held_at c past)

-- the life, or the boot that it knows, is new
abbrev Anew : ℕ → ℕ → List Line → List Line → Type 0
Anew c t past new = ((life_at c past).life < (life_at c new).life)
    ⊎ ((life_at c new ≡ life_at c past) × (known_at c t past < known_at c t new))

-- the boot that it knows was served
record Served (c t : ℕ) (past new : List Line) : Type 0 where
  life : life_at c new ≡ life_at c past
  known : known_at c t new ≡ known_at c t past
  low : known_at c t past ≤ closed_of (only t past)

-- the life is over
record Over (c t : ℕ) (past new : List Line) : Type 0 where
  life : life_at c new ≡ life_at c past
  known : known_at c t new ≡ known_at c t past
  standing : standing_at c t new ≡ standing_at c t past
  ending : Ending new c

abbrev Moves : ℕ → ℕ → List Line → List Line → Type 0
Moves c t past new = Still c t past new ⊎ Anew c t past new ⊎ Served c t past new ⊎ Over c t past new

-- a boot of which a client hears was served
hears_served : (head : Head) (t : ℕ) (past : List Line) (c : ℕ) (f : Flight) (r : ReplyTo) → Grown head past → HeardOk (only t past) c f r
    → known_of c (only t past) ≤ closed_of (only t past)
hears_served head t past c f r g ok = subst (λ (n : ℕ). n ≤ closed_of (only t past)) ok.boot
    (((holds head past g).at t).done.sent (Target ok.from) (Client c) (message.Reply r) ok.was).boot

at_most : (a b n : ℕ) → a ≡ b → b ≤ n → a ≤ n
at_most a b n e le = omega (arith, e, le)

-- the boot that served last rises
closed_up : (head : Head) (t : ℕ) (l : Line) (past : List Line) → Grown head (l ∷ past)
    → closed_of (only t past) ≤ closed_of (only t (l ∷ past))
closed_up head t l past g = by (concerns t l.at.node l.entry) refl
  where
    P : List Line
    P = only t past

    own : (node : Node) (e : Entry) → EntryOf head P (turn l.at.stamp node) node e
        → closed_of P ≤ closed_of (line (turn l.at.stamp node) e ∷ P)
    own (Target u) (Close o) ok = subst (λ (v : Outcome). closed_of P ≤ v.boot) (sym ok.is) ((holds head past g.1).at t).phase.under
    own (Client c) e ok = omega arith
    own (Target u) e ok = omega arith

    by : (b : Bool) → concerns t l.at.node l.entry ≡ b → closed_of P ≤ closed_of (if b then l ∷ P else P)
    by true e = own l.at.node l.entry (g.0.of t e)
    by false e = omega arith

-- a line of the client, about the target or not
still_other : (c t : ℕ) (l : Line) (past : List Line) → life_at c (l ∷ past) ≡ life_at c past → known_at c t (l ∷ past) ≡ known_at c t past
    → standing_at c t (l ∷ past) ≡ standing_at c t past → kept_at c t (l ∷ past) ≡ kept_at c t past
    → count t (held_at c (l ∷ past)) ≡ count t (held_at c past) → Moves c t past (l ∷ past)
still_other c t l past life known standing kept locks = inl (record
    { life = life; known = known; standing = standing; replays = ap (λ v. length v.replays) kept; locks = locks })

-- by whether the line is of the client, and about the target
module _ (head : Head) (t c : ℕ) (past : List Line) (stamp : Stamp) (d u : ℕ) (g : Grown head past) where
  known_same : c ≡ d → known_at c t past ≡ known_of d (only t past)
  known_same e = known_is c t past ∙ ap (λ (v : ℕ). known_of v (only t past)) e

  -- nor of a boot in which no lock was granted
  granted_served : (n : GrantNotice) → Was (only t past) (Target u) (Client d) (message.Grant n) → n.boot ≡ known_of d (only t past)
      → known_of d (only t past) ≤ closed_of (only t past)
  granted_served n was e = subst (λ (b : ℕ). b ≤ closed_of (only t past)) e
      (((holds head past g).at t).done.sent (Target u) (Client d) (message.Grant n) was).boot

  moves_knows : (b : ℕ) → Allowed head past (turn stamp (Client d)) (Knows u b)
      → Moves c t past (line (turn stamp (Client d)) (Knows u b) ∷ past)
  moves_knows b a = by (nat_eq c d) (nat_eq t u) refl refl
    where
      l : Line
      l = line (turn stamp (Client d)) (Knows u b)

      by : (x y : Bool) → nat_eq c d ≡ x → nat_eq t u ≡ y → Moves c t past (l ∷ past)
      by true true p q =
          let up = (a.of t q).newer in
          let same = known_same (eqb-true c d p) in
          let now : known_at c t (l ∷ past) ≡ b = rw (p, q) refl in
          inr (inl (inr (refl, omega (arith, up, same, now))))
      by true false p q = still_other c t l past refl (rw (p, q) refl) (rw (p, q) refl) refl refl
      by false y p q = still_other c t l past refl (rw p refl) (rw p refl) refl refl

  moves_serves : (b : ℕ) → Allowed head past (turn stamp (Client d)) (Serves u b)
      → Moves c t past (line (turn stamp (Client d)) (Serves u b) ∷ past)
  moves_serves b a = by (nat_eq c d) (nat_eq t u) refl refl
    where
      l : Line
      l = line (turn stamp (Client d)) (Serves u b)

      by : (x y : Bool) → nat_eq c d ≡ x → nat_eq t u ≡ y → Moves c t past (l ∷ past)
      by true true p q =
          let ok = a.of t q in
          let low = (((holds head past g).at t).done.sent (Target u) (Client d) (message.Ready (life_of d (only t past)) b ok.committed)
          ok.was).0 in
          inr (inr (inl (record { life = refl; known = refl; low = at_most _ _ _ (known_same (eqb-true c d p) ∙ sym ok.of_boot) low })))
      by true false p q = still_other c t l past refl refl (rw (p, q) refl) refl refl
      by false y p q = still_other c t l past refl refl (rw p refl) refl refl

  moves_settles : (b : ℕ) → Allowed head past (turn stamp (Client d)) (Settles u b)
      → Moves c t past (line (turn stamp (Client d)) (Settles u b) ∷ past)
  moves_settles b a = by (nat_eq c d) (nat_eq t u) refl refl
    where
      l : Line
      l = line (turn stamp (Client d)) (Settles u b)

      low : SettlesOk (only t past) d u b → known_of d (only t past) ≤ closed_of (only t past)
      low (inl k) = ((holds head past g).at t).phase.served d k.serves
      low (inr k) = granted_served k.notice k.was k.boot

      by : (x y : Bool) → nat_eq c d ≡ x → nat_eq t u ≡ y → Moves c t past (l ∷ past)
      by true true p q = inr (inr (inl (record {
        life = refl;
        known = refl;
        low =
            at_most _ _ _ (known_same (eqb-true c d p)) (low (a.of t q));
      })))
      by true false p q = still_other c t l past refl refl refl (rw (p, q) refl) refl
      by false y p q = still_other c t l past refl refl refl (rw p refl) refl

  moves_life : (w : Who) → Allowed head past (turn stamp (Client d)) (Life w)
      → Moves c t past (line (turn stamp (Client d)) (Life w) ∷ past)
  moves_life w a = by (nat_eq c d) refl
    where
      l : Line
      l = line (turn stamp (Client d)) (Life w)

      by : (x : Bool) → nat_eq c d ≡ x → Moves c t past (l ∷ past)
      by true p =
          let same : (life_at c past).life ≡ (life_at d past).life = ap (λ (v : ℕ). (life_at v past).life) (eqb-true c d p) in
          let next : w.life ≡ (life_at d past).life + 1 = ap (λ (v : Who). v.life) a.ok.next in
          let now : (life_at c (l ∷ past)).life ≡ w.life = rw p refl in
          inr (inl (inl (omega (arith, same, next, now))))
      by false p = still_other c t l past (rw p refl) refl (rw p refl) (rw p refl) refl

  moves_heard : (f : Flight) (r : ReplyTo) → Allowed head past (turn stamp (Client d)) (Heard u f r)
      → Moves c t past (line (turn stamp (Client d)) (Heard u f r) ∷ past)
  moves_heard f r a = by (nat_eq c d) (nat_eq t u) refl refl
    where
      l : Line
      l = line (turn stamp (Client d)) (Heard u f r)

      by : (x y : Bool) → nat_eq c d ≡ x → nat_eq t u ≡ y → Moves c t past (l ∷ past)
      by true true p q = inr (inr (inl (record {
        life = refl;
        known = refl;
        low =
            at_most _ _ _ (known_same (eqb-true c d p)) (hears_served head t past d f r g (a.of t q));
      })))
      by true false p q = still_other c t l past refl refl refl (rw (p, q) refl)
          (rw p (count_brought t u (brought f.op r) (held_at c past) (flip u t ∙ q)))
      by false y p q = still_other c t l past refl refl refl (rw p refl) (rw p refl)

  moves_hold : (lock : Lock) (marked : Bool) (size : Option ℕ) (seen : List ℕ)
      → Allowed head past (turn stamp (Client d)) (Hold u lock marked size seen)
      → Moves c t past (line (turn stamp (Client d)) (Hold u lock marked size seen) ∷ past)
  moves_hold lock marked size seen a = by (nat_eq c d) (nat_eq t u) refl refl
    where
      l : Line
      l = line (turn stamp (Client d)) (Hold u lock marked size seen)

      low : ((marked ≡ false) × HeldOk (only t past) d u lock seen) ⊎ GivenOf (only t past) d u lock seen
          → known_of d (only t past) ≤ closed_of (only t past)
      low (inl k) = ((holds head past g).at t).recovers.hears k.1.at d u k.1.flight k.1.reply k.1.here k.1.heard
      low (inr k) = granted_served k.notice k.was k.boot

      by : (x y : Bool) → nat_eq c d ≡ x → nat_eq t u ≡ y → Moves c t past (l ∷ past)
      by true true p q = inr (inr (inl (record {
        life = refl;
        known = refl;
        low =
            at_most _ _ _ (known_same (eqb-true c d p)) (low (a.of t q));
      })))
      by true false p q = still_other c t l past refl refl refl (rw (p, q) refl)
          (rw p (count_with t (held_as u lock marked) (held_at c past) (flip u t ∙ q)))
      by false y p q = still_other c t l past refl refl refl (rw p refl) (rw p refl)

  moves_drop : (lock : Lock) → Allowed head past (turn stamp (Client d)) (Drop u lock)
      → Moves c t past (line (turn stamp (Client d)) (Drop u lock) ∷ past)
  moves_drop lock a = by (nat_eq c d) (nat_eq t u) refl refl
    where
      l : Line
      l = line (turn stamp (Client d)) (Drop u lock)

      served : c ≡ d → t ≡ u → standing_at d u past ≡ Serving → known_at c t past ≤ closed_of (only t past)
      served e q s =
          let st : standing_of d (only t past) ≡ Serving = ap (λ (v : ℕ). standing_of d (only v past)) q ∙ sym (standing_is d u past) ∙ s in
          at_most _ _ _ (known_same e) (((holds head past g).at t).phase.served d st)

      by : (x y : Bool) → nat_eq c d ≡ x → nat_eq t u ≡ y → Moves c t past (l ∷ past)
      by true true p q = ⊎_elim
          (λ (k : MarkedOk past d u lock). inr (inr (inl (record
          { life = refl; known = refl; low = served (eqb-true c d p) (eqb-true t u q) k.serves }))))
          (λ (k : Noticed past (turn stamp (Client d)) (life_at d past)). inr (inr (inr (record {
            life = refl;
            known = refl;
            standing = refl;
            ending = (
              ap Client (sym (eqb-true c d p)),
              noticed_more l past (turn stamp (Client d)) (life_at c past)
                  (subst (λ (v : ℕ). Noticed past (turn stamp (Client d)) (life_at v past)) (sym (eqb-true c d p)) k),
            );
          }))))
          a.ok
      by true false p q = still_other c t l past refl refl refl refl
          (rw p (count_without t (record { target = record { 0 = u }; cookie = lock.cookie }) (held_at c past) (flip u t ∙ q)))
      by false y p q = still_other c t l past refl refl refl refl (rw p refl)

-- what changes the held locks, and none of their targets
moves_held : (t c : ℕ) (past : List Line) (stamp : Stamp) (d : ℕ) (e : Entry) (f : List HeldLock → List HeldLock) → let l =
    line (turn stamp (Client d)) e in ((hs : List HeldLock) → count t (f hs) ≡ count t hs)
    → life_at c (l ∷ past) ≡ life_at c past → known_at c t (l ∷ past) ≡ known_at c t past → standing_at c t (l ∷ past)
    ≡ standing_at c t past → kept_at c t (l ∷ past) ≡ kept_at c t past
    → held_at c (l ∷ past) ≡ (if nat_eq c d then f (held_at c past) else held_at c past) → Moves c t past (l ∷ past)
moves_held t c past stamp d e f same life known standing kept held =
    still_other c t (line (turn stamp (Client d)) e) past life known standing kept
    (ap (count t) held ∙ cond_both (nat_eq c d) (f (held_at c past)) (held_at c past)
    (λ (hs : List HeldLock). count t hs ≡ count t (held_at c past)) (λ p. same (held_at c past)) (λ p. refl))

moves : (head : Head) (t c : ℕ) (past : List Line) (stamp : Stamp) (node : Node) (e : Entry) → Allowed head past (turn stamp node) e
    → Grown head past → Moves c t past (line (turn stamp node) e ∷ past)
moves head t c past stamp (Client d) (Knows u b) a g = moves_knows head t c past stamp d u g b a
moves head t c past stamp (Client d) (Serves u b) a g = moves_serves head t c past stamp d u g b a
moves head t c past stamp (Client d) (Settles u b) a g = moves_settles head t c past stamp d u g b a
moves head t c past stamp (Client d) (Life w) a g = moves_life head t c past stamp d 0 g w a
moves head t c past stamp (Client d) (Heard u f r) a g = moves_heard head t c past stamp d u g f r a
moves head t c past stamp (Client d) (Hold u lock marked size seen) a g = moves_hold head t c past stamp d u g lock marked size seen a
moves head t c past stamp (Client d) (Drop u lock) a g = moves_drop head t c past stamp d u g lock a
moves head t c past stamp (Client d) (Pins name) a g = moves_held t c past stamp d (Pins name) (changed name Pin)
    (λ hs. count_changed t name Pin hs) refl refl refl refl refl
moves head t c past stamp (Client d) (Unpins name) a g = moves_held t c past stamp d (Unpins name) (λ hs. used name (changed name Unpin hs))
    (λ hs. count_used t name (changed name Unpin hs) ∙ count_changed t name Unpin hs) refl refl refl refl refl
moves head t c past stamp (Client d) (Marks name) a g = moves_held t c past stamp d (Marks name) (changed name Mark)
    (λ hs. count_changed t name Mark hs) refl refl refl refl refl
moves head t c past stamp (Client d) (Unmarks u) a g = moves_held t c past stamp d (Unmarks u) (unmarked (record { 0 = u }))
    (λ hs. count_unmarked t (record { 0 = u }) hs) refl refl refl refl refl
moves head t c past stamp (Client d) e a g = still_other c t (line (turn stamp (Client d)) e) past refl refl refl refl refl
moves head t c past stamp (Target u) (Life w) a g = absurd a.ok
moves head t c past stamp (Target u) e a g = still_other c t (line (turn stamp (Target u)) e) past refl refl refl refl refl

-- ---- what a life told

-- what it said in its present boot: what it has to tell, or its life is over
abbrev Fits : List Line → (c t : ℕ) → Message → Said → Type 0
Fits past c t (message.Word other boot replays locks seen) s = (standing_at c t past ≡ Recovering)
    × (((s.replays ≡ replayed c t past) × (s.locks ≡ count t (held_at c past))) ⊎ Ending past c)
Fits past c t (message.Join other boot) s = standing_at c t past ≡ Joining
Fits past c t m s = Unit {0}

abbrev Older : List Line → ℕ → Who → ℕ → Type 0
Older past t who b = (who.life < (life_at who.client past).life) ⊎ ((who ≡ life_at who.client past) × (b ≤ known_at who.client t past))

record Tells (t : ℕ) (past : List Line) : Type 0 where
  bound : (from : Node) (m : Message) (who : Who) (b : ℕ) (s : Said) → Was past from (Target t) m → IsWord b who m s
      → (from ≡ Client who.client) × Older past t who b
  now : (c : ℕ) (m : Message) (s : Said) → closed_of (only t past) < known_at c t past → Was past (Client c) (Target t) m
      → IsWord (known_at c t past) (life_at c past) m s → Fits past c t m s
  one : (who : Who) (b : ℕ) (from into : Node) (m k : Message) (s u : Said) → closed_of (only t past) < b → Was past from (Target t) m
      → Was past into (Target t) k → IsWord b who m s → IsWord b who k u → (s.replays ≡ u.replays) × (s.locks ≡ u.locks)

older_up : (t : ℕ) (who : Who) (b : ℕ) (past new : List Line) → Moves who.client t past new → Older past t who b → Older new t who b
older_up t who b past new (inl m) (inl lt) = inl (let e = ap (λ (v : Who). v.life) m.life in omega (arith, lt, e))
older_up t who b past new (inl m) (inr k) = inr (k.0 ∙ sym m.life, let e = m.known in let le = k.1 in omega (arith, e, le))
older_up t who b past new (inr (inl (inl up))) (inl lt) = inl (omega (arith, lt, up))
older_up t who b past new (inr (inl (inl up))) (inr k) = inl (let e = ap (λ (v : Who). v.life) k.0 in omega (arith, e, up))
older_up t who b past new (inr (inl (inr up))) (inl lt) = inl (let e = ap (λ (v : Who). v.life) up.0 in omega (arith, lt, e))
older_up t who b past new (inr (inl (inr up))) (inr k) = inr (k.0 ∙ sym up.0, let lt = up.1 in let le = k.1 in omega (arith, lt, le))
older_up t who b past new (inr (inr (inl m))) (inl lt) = inl (let e = ap (λ (v : Who). v.life) m.life in omega (arith, lt, e))
older_up t who b past new (inr (inr (inl m))) (inr k) = inr (k.0 ∙ sym m.life, let e = m.known in let le = k.1 in omega (arith, e, le))
older_up t who b past new (inr (inr (inr m))) (inl lt) = inl (let e = ap (λ (v : Who). v.life) m.life in omega (arith, lt, e))
older_up t who b past new (inr (inr (inr m))) (inr k) = inr (k.0 ∙ sym m.life, let e = m.known in let le = k.1 in omega (arith, e, le))

-- a turn that ends a life goes on, while it has that life
ending_on : (c : ℕ) (l : Line) (past : List Line) → Closes past l.at → life_at c (l ∷ past) ≡ life_at c past → Ending past c
    → Ending (l ∷ past) c
ending_on c l [] closes life e = absurd e
ending_on c l (x ∷ past) closes life e = ⊎_elim
    (λ (q : x.at ≡ l.at). (
      ap (λ (v : At). v.node) (sym q) ∙ e.0,
      subst (λ (w : Who). Noticed (l ∷ x ∷ past) l.at w) (sym life)
          (noticed_more l (x ∷ past) l.at (life_at c (x ∷ past)) (subst (λ (v : At). Noticed (x ∷ past) v (life_at c (x ∷ past))) q e.1)),
    ))
    (λ (n : (c : ℕ) → Ending (x ∷ past) c → ⊥). absurd (n c e))
    closes

fits_on : (t c : ℕ) (l : Line) (past : List Line) (m : Message) (s : Said) → Closes past l.at → Still c t past (l ∷ past)
    ⊎ Over c t past (l ∷ past) → Fits past c t m s → Fits (l ∷ past) c t m s
fits_on t c l past (message.Word other boot replays locks seen) s closes (inl k) f = (
  k.standing ∙ f.0,
  ⊎_elim
      (λ (q : (s.replays ≡ replayed c t past) × (s.locks ≡ count t (held_at c past))). inl (q.0 ∙ sym k.replays, q.1 ∙ sym k.locks))
      (λ (q : Ending past c). inr (ending_on c l past closes k.life q))
      f.1,
)
fits_on t c l past (message.Word other boot replays locks seen) s closes (inr k) f = (k.standing ∙ f.0, inr k.ending)
fits_on t c l past (message.Join other boot) s closes (inl k) f = k.standing ∙ f
fits_on t c l past (message.Join other boot) s closes (inr k) f = k.standing ∙ f
fits_on t c l past m s closes k f = tt

-- the present boot and life were told so before
module _ (head : Head) (t : ℕ) (l : Line) (past : List Line) (g : Grown head (l ∷ past)) (h : Tells t past) where
  up : closed_of (only t past) ≤ closed_of (only t (l ∷ past))
  up = closed_up head t l past g

  stays : (c : ℕ) → Moves c t past (l ∷ past) → (m : Message) (s : Said) → closed_of (only t (l ∷ past)) < known_at c t (l ∷ past)
      → Was past (Client c) (Target t) m → IsWord (known_at c t (l ∷ past)) (life_at c (l ∷ past)) m s → Fits (l ∷ past) c t m s
  stays c v m s le was word = by v
    where
      W : Who
      W = life_at c (l ∷ past)

      B : ℕ
      B = known_at c t (l ∷ past)

      before : life_at c (l ∷ past) ≡ life_at c past → known_at c t (l ∷ past) ≡ known_at c t past → Fits past c t m s
      before e q = h.now c m s (let more = up in omega (arith, q, le, more)) was
          (subst (λ (w : Who). IsWord (known_at c t past) w m s) e (subst (λ (n : ℕ). IsWord n W m s) q word))

      older : Older past t W B
      older = (h.bound (Client c) m W B s was word).1

      whose : W.client ≡ c
      whose = its_client head c (l ∷ past) g

      new : Anew c t past (l ∷ past) → Older past t W B → ⊥
      new (inl up) (inl lt) = let e = ap (λ (n : ℕ). (life_at n past).life) whose in absurd (omega (arith, up, lt, e))
      new (inl up) (inr k) = let e = ap (λ (n : ℕ). (life_at n past).life) whose in let q = ap (λ (w : Who). w.life) k.0
          in absurd (omega (arith, up, e, q))
      new (inr up) (inl lt) = let e = ap (λ (n : ℕ). (life_at n past).life) whose in let q = ap (λ (w : Who). w.life) up.0
          in absurd (omega (arith, lt, e, q))
      new (inr up) (inr k) = let e = ap (λ (n : ℕ). known_at n t past) whose in let lt = up.1 in let most = k.1
          in absurd (omega (arith, lt, most, e))

      by : Moves c t past (l ∷ past) → Fits (l ∷ past) c t m s
      by (inl k) = fits_on t c l past m s g.0.closes (inl k) (before k.life k.known)
      by (inr (inl k)) = absurd (new k older)
      by (inr (inr (inl k))) = absurd (let e = k.known in let low = k.low in let more = up in omega (arith, le, e, low, more))
      by (inr (inr (inr k))) = fits_on t c l past m s g.0.closes (inr k) (before k.life k.known)

  -- a line that sends nothing
  quiet : ((c : ℕ) → Moves c t past (l ∷ past)) → ((from to : Node) (m : Message) → Was (l ∷ past) from to m → Was past from to m)
      → Tells t (l ∷ past)
  quiet v old =
      record {
        bound = λ from m who b s was word. let k = h.bound from m who b s (old from (Target t) m was) word
            in (k.0, older_up t who b past (l ∷ past) (v who.client) k.1);
        now = λ c m s le was word. stays c (v c) m s le (old (Client c) (Target t) m was) word;
        one = λ who b from into m k s u le x y. h.one who b from into m k s u (let more = up in omega (arith, le, more))
            (old from (Target t) m x) (old into (Target t) k y);
      }

-- ---- a word is sent

abbrev Fresh : List Line → (c t : ℕ) → Message → Said → Type 0
Fresh past c t (message.Word other boot replays locks seen) s = (standing_at c t past ≡ Recovering) × (s.replays ≡ replayed c t past)
    × (s.locks ≡ count t (held_at c past)) × (Ending past c → ⊥)
Fresh past c t (message.Join other boot) s = (standing_at c t past ≡ Joining) × (s.replays ≡ 0) × (s.locks ≡ 0)
Fresh past c t m s = ⊥

agree : (past : List Line) (c t b : ℕ) (who : Who) (m k : Message) (s u : Said) → Fresh past c t m s → Fits past c t k u → IsWord b who k u
    → (s.replays ≡ u.replays) × (s.locks ≡ u.locks)
agree past c t b who (message.Word other boot replays locks seen) (message.Word more old rs ls seen2) s u f q w = ⊎_elim
    (λ (e : (u.replays ≡ replayed c t past) × (u.locks ≡ count t (held_at c past))). (f.1 ∙ sym e.0, f.2 ∙ sym e.1))
    (λ (e : Ending past c). absurd (f.3 e))
    q.1
agree past c t b who (message.Word other boot replays locks seen) (message.Join more old) s u f q w =
    absurd (let e : Recovering ≡ Joining = sym f.0 ∙ q in cc)
agree past c t b who (message.Join other boot) (message.Word more old rs ls seen2) s u f q w =
    absurd (let e : Joining ≡ Recovering = sym f.0 ∙ q.0 in cc)
agree past c t b who (message.Join other boot) (message.Join more old) s u f q w = (f.1 ∙ sym w.2, f.2 ∙ sym w.3)
agree past c t b who (message.Word other boot replays locks seen) k s u f q w = absurd w
agree past c t b who (message.Join other boot) k s u f q w = absurd w
agree past c t b who m k s u f q w = absurd f

same_word : (b : ℕ) (who : Who) (m : Message) (s u : Said) → IsWord b who m s → IsWord b who m u → (s.replays ≡ u.replays)
    × (s.locks ≡ u.locks)
same_word b who (message.Word other boot replays locks seen) s u v w = (v.2 ∙ sym w.2, v.3 ∙ sym w.3)
same_word b who (message.Join other boot) s u v w = (v.2 ∙ sym w.2, v.3 ∙ sym w.3)
same_word b who m s u v w = absurd v

record SentWord (t : ℕ) (past : List Line) (node : Node) (m : Message) (b : ℕ) (who : Who) (s : Said) (c : ℕ) : Type 0 where
  from : node ≡ Client c
  life : who ≡ life_at c past
  known : b ≡ known_at c t past
  fresh : Fresh past c t m s

not_ending : (past : List Line) (at : At) (c : ℕ) → Closes past at → (Noticed past at (life_at c past) → ⊥) → Ending past c → ⊥
not_ending [] at c closes alive e = e
not_ending (x ∷ past) at c closes alive e = ⊎_elim
    (λ (q : x.at ≡ at). alive (subst (λ (v : At). Noticed (x ∷ past) v (life_at c (x ∷ past))) q e.1))
    (λ (n : (c : ℕ) → Ending (x ∷ past) c → ⊥). n c e)
    closes

sent_word : (head : Head) (t : ℕ) (past : List Line) (stamp : Stamp) (node : Node) (m : Message)
    → Allowed head past (turn stamp node) (Send (Target t) m) → Grown head past → (b : ℕ) (who : Who) (s : Said) → IsWord b who m s
    → SentWord t past node m b who s who.client
sent_word head t past stamp (Client c) (message.Word other boot replays locks seen) a g b who s w =
    let ok = a.of t (self t) in
    let life : who ≡ life_at c past = sym w.0 ∙ ok.tells.of_life ∙ sym (life_is_of c t past) in
    let client : who.client ≡ c = ap (λ (v : Who). v.client) life ∙ its_client head c past g in
    subst (λ (v : ℕ). SentWord t past (Client c) (message.Word other boot replays locks seen) b who s v) (sym client) (record {
      from = refl;
      life = life;
      known = sym w.1 ∙ ok.tells.of_boot ∙ sym (known_is c t past);
      fresh = (
        standing_is c t past ∙ ok.tells.recovers,
        w.2 ∙ a.ok.replays,
        w.3 ∙ a.ok.locks,
        not_ending past (turn stamp (Client c)) c a.closes a.ok.alive,
      );
    })
sent_word head t past stamp (Client c) (message.Join other boot) a g b who s w =
    let ok = a.of t (self t) in
    let life : who ≡ life_at c past = sym w.0 ∙ ok.of_life ∙ sym (life_is_of c t past) in
    let client : who.client ≡ c = ap (λ (v : Who). v.client) life ∙ its_client head c past g in
    subst (λ (v : ℕ). SentWord t past (Client c) (message.Join other boot) b who s v) (sym client) (record {
      from = refl;
      life = life;
      known = sym w.1 ∙ ok.of_boot ∙ sym (known_is c t past);
      fresh = (standing_is c t past ∙ ok.joins, w.2, w.3);
    })
sent_word head t past stamp (Target u) (message.Word other boot replays locks seen) a g b who s w = absurd a.ok
sent_word head t past stamp (Target u) (message.Join other boot) a g b who s w = absurd a.ok
sent_word head t past stamp node m a g b who s w = absurd w

module _ (head : Head) (t : ℕ) (past : List Line) (stamp : Stamp) (node to : Node) (m : Message)
    (g : Grown head (line (turn stamp node) (Send to m) ∷ past)) (h : Tells t past) where
  fresh_fits : (c : ℕ) (k : Message) (s : Said) → Fresh past c t k s → Fits (line (turn stamp node) (Send to m) ∷ past) c t k s
  fresh_fits c (message.Word other boot replays locks seen) s f = (f.0, inl (f.1, f.2))
  fresh_fits c (message.Join other boot) s f = f.0
  fresh_fits c k s f = absurd f

  sent : (k : Message) → to ≡ Target t → m ≡ k → (b : ℕ) (who : Who) (s : Said) → IsWord b who k s
      → SentWord t past node k b who s who.client
  sent k e q b who s w = sent_word head t past stamp node k (subst (λ (v : Node). Allowed head past (turn stamp node) (Send v k)) e
      (subst (λ (v : Message). Allowed head past (turn stamp node) (Send to v)) q g.0)) g.1 b who s w

  -- one before, by the same life of the same boot
  told : (b : ℕ) (who : Who) (s : Said) (k : Message) → SentWord t past node k b who s who.client → closed_of (only t past) < b
      → (into : Node) (j : Message) (u : Said) → Was past into (Target t) j → IsWord b who j u → (s.replays ≡ u.replays)
      × (s.locks ≡ u.locks)
  told b who s k n le into j u was word =
      let from = (h.bound into j who b u was word).0 in
      let fits = h.now who.client j u (subst (λ (n : ℕ). closed_of (only t past) < n) n.known le)
      (subst (λ (v : Node). Was past v (Target t) j) from was)
      (subst (λ (x : ℕ). IsWord x (life_at who.client past) j u) n.known (subst (λ (w : Who). IsWord b w j u) n.life word)) in
      agree past who.client t b who k j s u n.fresh fits word

  now_low : (b : ℕ) → closed_of (only t (line (turn stamp node) (Send to m) ∷ past)) < b → closed_of (only t past) < b
  now_low b le = let more = closed_up head t (line (turn stamp node) (Send to m)) past g in omega (arith, le, more)

  sends : Tells t (line (turn stamp node) (Send to m) ∷ past)
  sends =
      record {
        bound = λ from k who b s was word. ⊎_elim
            (λ (p : (node ≡ from) × (to ≡ Target t) × (m ≡ k)). let n = sent k p.1 p.2 b who s word
            in (sym p.0 ∙ n.from, inr (n.life, let e = n.known in omega (arith, e))))
            (λ (p : Was past from (Target t) k). h.bound from k who b s p word)
            was;
        now = λ c k s le was word. ⊎_elim
            (λ (p : (node ≡ Client c) × (to ≡ Target t) × (m ≡ k)).
            let n = sent k p.1 p.2 (known_at c t past) (life_at c past) s word in
            subst (λ (v : ℕ). Fits (line (turn stamp node) (Send to m) ∷ past) v t k s) (its_client head c past g.1)
            (fresh_fits (life_at c past).client k s n.fresh))
            (λ (p : Was past (Client c) (Target t) k). stays head t (line (turn stamp node) (Send to m)) past g h c
            (moves head t c past stamp node (Send to m) g.0 g.1) k s le p word)
            was;
        one = λ who b from into k j s u le x y v w. ⊎_elim
            (λ (p : (node ≡ from) × (to ≡ Target t) × (m ≡ k)). ⊎_elim
            (λ (q : (node ≡ into) × (to ≡ Target t) × (m ≡ j)). same_word b who j s u
            (subst (λ (z : Message). IsWord b who z s) (sym p.2 ∙ q.2) v) w)
            (λ (q : Was past into (Target t) j). told b who s k (sent k p.1 p.2 b who s v) (now_low b le) into j u q w)
            y)
            (λ (p : Was past from (Target t) k). ⊎_elim
            (λ (q : (node ≡ into) × (to ≡ Target t) × (m ≡ j)). let r =
            told b who u j (sent j q.1 q.2 b who u w) (now_low b le) from k s p v in (sym r.0, sym r.1))
            (λ (q : Was past into (Target t) j). h.one who b from into k j s u (now_low b le) p q v w)
            y)
            x;
      }

tells : (head : Head) (t : ℕ) (past : List Line) → Grown head past → Tells t past
tells head t [] g = record {
  bound = λ from m who b s was word. absurd was;
  now = λ c m s le was word. absurd was;
  one =
      λ who b from into m k s u le x y v w. absurd x;
}
tells head t (l ∷ past) g = by l.at.node l.entry g (tells head t past g.1)
  where
    by : (node : Node) (e : Entry) → Grown head (line (turn l.at.stamp node) e ∷ past) → Tells t past
        → Tells t (line (turn l.at.stamp node) e ∷ past)
    by node (Send to m) g h = sends head t past l.at.stamp node to m g h
    by node e g h = quiet head t (line (turn l.at.stamp node) e) past g h (λ c. moves head t c past l.at.stamp node e g.0 g.1)
        (λ from to m was. was)

-- of what a target that recovers took since its boot
pub one_told : (head : Head) (t : ℕ) (past : List Line) → Grown head past → OneTold head t past
one_told head t past g r who m k s u i j v w =
    let under = ((holds head past g).at t).phase.under in
    let apart = eqb-false (closed_of (only t past)) (server_of head.osts (only t past)).boot r in
    let again : closed_of (only t past) < (server_of head.osts (only t past)).boot =
    above (closed_of (only t past)) (server_of head.osts (only t past)).boot under apart in
    let x = taken_was head t past m g i in
    let y = taken_was head t past k g j in
    (tells head t past g).one who (server_of head.osts (only t past)).boot x.0 y.0 m k s u again x.1 y.1 v w
  where
    above : (k n : ℕ) → k ≤ n → (k ≡ n → ⊥) → k < n
    above k n le ne = grind (arith, ne)
