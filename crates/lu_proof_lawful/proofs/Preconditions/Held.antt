-- What a client holds of a target stands in that target's story, and what it knows of names in that of the metadata target: each line that
-- changes it is about it.
use Rattle.std.proofs.Common.{◌≡◌, ℕ, zero, suc, Bool, true, false, List, [], ◌∷◌, ◌++◌, ◌⊎◌, inl, inr, ⊎_elim, refl, sym, subst, ap, ◌∙◌}
use Rattle.std.proofs.Common.{arith}
use Rattle.std.specs.Prelude.{nat_eq, not, ◌&&◌, ◌||◌, filter, map, if◌then◌else◌}
use Rattle.std.proofs.lemmas.Bool.{cond-true, cond-false, eqb-true}
use Rattle.std.proofs.lemmas.Bool.Decides.{nat_tests}
use Rattle.std.proofs.lemmas.List.Elements.{filter-append}
use Rattle.lu_base.specs.declared.ids.At.{At}
use Rattle.lu_base.specs.declared.ids.Node.{Node}
use Rattle.lu_base.specs.declared.ids.Node.TheVariants.{Client, Target}
use Rattle.lu_base.specs.declared.locks.Lock.{Lock}
use Rattle.lu_held.specs.declared.locks.Change.{Change}
use Rattle.lu_held.specs.declared.locks.Change.TheVariants as change
use Rattle.lu_held.specs.declared.locks.HeldLock.{HeldLock}
use Rattle.lu_held.specs.declared.names.LockName.{LockName}
use Rattle.lu_held.specs.Locks.{named, name_of, is_named, after}
use Rattle.lu_held.specs.Held.{is_held, changed, without, used, unmarked}
use Rattle.lu_spec_entries.specs.Words.{Entry, Heard, Hold, Drop, Life, Pins, Unpins, Marks, Unmarks, Learns, Line, line, is_client}
use Rattle.lu_spec_entries.specs.Concerns.{is_about, concerns, only}
use Rattle.lu_spec_entries.specs.Fields.{on, at_client}
use Rattle.lu_spec_client.specs.Caches.{held_as, brought, with_held, with_brought, reads_held, held_after, held_at}
use Rattle.lu_spec_client.specs.Facts.{Fact, reads_facts, facts_after, facts_at}
use Rattle.lu_proof_lawful.specs.Covered.Heads.{Head}
use Rattle.lu_proof_lawful.proofs.Preconditions.Guards.{In, EntryOk}
use Rattle.lu_proof_lawful.proofs.Preconditions.Grown.{Grown}
use Rattle.lu_proof_lawful.proofs.Preconditions.Lists.{self, turn, in_filter, in_filtered, empty_list, filter_none}
use Rattle.lu_proof_lawful.proofs.Preconditions.ClientLocks.{in_place, names_same}
use Rattle.lu_proof_lawful.proofs.Preconditions.LifeLists.{filter_all, filter_swap}

-- ---- what each line of the client keeps

pub is_own : (c : ℕ) (n : Node) → is_client c n ≡ true → n ≡ Client c
is_own c (Client d) mine = ap Client (sym (eqb-true c d mine))
is_own c (Target t) mine = absurd (cc)

pub client_keeps : {A : Type 0} (P : A → Type 0) (reads : Entry → Bool) (after : A → Entry → A) (start : A) (head : Head) (c : ℕ) → P start
    → ((past : List Line) (at : At) (e : Entry) (x : A) → EntryOk past at (Client c) e → P x → P (after x e))
    → (past : List Line) → Grown head past → P (at_client reads after start c past)
client_keeps P reads after start head c p f [] g = p
client_keeps {A} P reads after start head c p f (l ∷ past) g = by (reads l.entry) (is_client c l.at.node) refl
    (client_keeps P reads after start head c p f past g.1)
  where
    X : A
    X = at_client reads after start c past

    by : (r b : Bool) → is_client c l.at.node ≡ b → P X → P (on r b (after X l.entry) X)
    by false b e q = q
    by true false e q = q
    by true true e q = f past l.at l.entry X (subst (λ (n : Node). EntryOk past l.at n l.entry) (is_own c l.at.node e) g.0.ok) q

-- ---- the locks of one target

abbrev pub of_target : ℕ → HeldLock → Bool
of_target t h = nat_eq h.target.0 t

abbrev pub locks_of : ℕ → List HeldLock → List HeldLock
locks_of t hs = filter (of_target t) hs

turned : (a b : ℕ) (v : Bool) → nat_eq a b ≡ v → nat_eq b a ≡ v
turned a b v e = grind (arith, nat_tests)

mapped : {A : Type 0} (f : A → A) (xs : List A) → ((x : A) → In x xs → f x ≡ x) → map f xs ≡ xs
mapped f [] all = refl
mapped f (x ∷ xs) all = ap (λ y. y ∷ map f xs) (all x (inl refl)) ∙ ap (λ ys. x ∷ ys) (mapped f xs (λ y i. all y (inr i)))

-- what changes no target
map_of : (t : ℕ) (f : HeldLock → HeldLock) → ((h : HeldLock) → (f h).target.0 ≡ h.target.0) → (hs : List HeldLock) → locks_of t (map f hs)
    ≡ map f (locks_of t hs)
map_of t f same [] = refl
map_of t f same (h ∷ hs) = by (of_target t h) (ap (λ (u : ℕ). nat_eq u t) (same h)) (map_of t f same hs)
  where
    by : (b : Bool) → of_target t (f h) ≡ b → locks_of t (map f hs) ≡ map f (locks_of t hs) → locks_of t (f h ∷ map f hs)
        ≡ map f (if b then h ∷ locks_of t hs else locks_of t hs)
    by true e ih = cond-true (of_target t (f h)) (f h ∷ locks_of t (map f hs)) (locks_of t (map f hs)) e ∙ ap (λ ys. f h ∷ ys) ih
    by false e ih = cond-false (of_target t (f h)) (f h ∷ locks_of t (map f hs)) (locks_of t (map f hs)) e ∙ ih

-- none of them has a name of another target
none_named : (t : ℕ) (n : LockName) (hs : List HeldLock) → nat_eq t n.target.0 ≡ false → (h : HeldLock) → In h (locks_of t hs)
    → is_named n h ≡ false
none_named t n hs e h i = ap (λ (b : Bool). b && nat_eq n.cookie.0 h.lock.cookie.0)
    (ap (nat_eq n.target.0) (eqb-true h.target.0 t (in_filter (of_target t) h hs i).1) ∙ turned t n.target.0 false e)

-- ---- a lock that comes

held_same : (n : LockName) (hs : List HeldLock) → is_held n (locks_of n.target.0 hs) ≡ is_held n hs
held_same n [] = refl
held_same n (h ∷ hs) = by (of_target n.target.0 h) refl (held_same n hs)
  where
    by : (b : Bool) → of_target n.target.0 h ≡ b → is_held n (locks_of n.target.0 hs) ≡ is_held n hs
        → is_held n (if b then h ∷ locks_of n.target.0 hs else locks_of n.target.0 hs) ≡ is_held n (h ∷ hs)
    by true e ih = ap (λ (x : Bool). is_named n h || x) ih
    by false e ih = ih ∙ sym (ap (λ (x : Bool). (x && nat_eq n.cookie.0 h.lock.cookie.0) || is_held n hs)
        (turned h.target.0 n.target.0 false e))

placed : (h g : HeldLock) → (in_place h g).target.0 ≡ g.target.0
placed h g = by (is_named (name_of h) g) refl
  where
    by : (b : Bool) → is_named (name_of h) g ≡ b → (if b then h else g).target.0 ≡ g.target.0
    by true e = ap (λ (n : LockName). n.target.0) (names_same (name_of h) (name_of g) e)
    by false e = refl

with_own : (t : ℕ) (h : HeldLock) (hs : List HeldLock) → nat_eq t h.target.0 ≡ true → locks_of t (with_held h hs)
    ≡ with_held h (locks_of t hs)
with_own t h hs e = by (is_held (name_of h) hs) ∙ ap (λ (b : Bool). if b then map (in_place h) (locks_of t hs) else h ∷ locks_of t hs)
    (sym same)
  where
    same : is_held (name_of h) (locks_of t hs) ≡ is_held (name_of h) hs
    same = ap (λ (u : ℕ). is_held (name_of h) (locks_of u hs)) (eqb-true t h.target.0 e) ∙ held_same (name_of h) hs

    by : (b : Bool) → locks_of t (if b then map (in_place h) hs else h ∷ hs)
        ≡ (if b then map (in_place h) (locks_of t hs) else h ∷ locks_of t hs)
    by true = map_of t (in_place h) (placed h) hs
    by false = cond-true (of_target t h) (h ∷ locks_of t hs) (locks_of t hs) (turned t h.target.0 true e)

with_apart : (t : ℕ) (h : HeldLock) (hs : List HeldLock) → nat_eq t h.target.0 ≡ false → locks_of t (with_held h hs) ≡ locks_of t hs
with_apart t h hs e = by (is_held (name_of h) hs)
  where
    by : (b : Bool) → locks_of t (if b then map (in_place h) hs else h ∷ hs) ≡ locks_of t hs
    by true = map_of t (in_place h) (placed h) hs ∙ mapped (in_place h) (locks_of t hs)
        (λ g i. cond-false (is_named (name_of h) g) h g (none_named t (name_of h) hs e g i))
    by false = cond-false (of_target t h) (h ∷ locks_of t hs) (locks_of t hs) (turned t h.target.0 false e)

brought_of : (t u : ℕ) (ls : List Lock) (b : Bool) → nat_eq t u ≡ b → (hs : List HeldLock) → locks_of t (with_brought u ls hs)
    ≡ (if b then with_brought u ls (locks_of t hs) else locks_of t hs)
brought_of t u [] true e hs = refl
brought_of t u [] false e hs = refl
brought_of t u (l ∷ ls) true e hs = brought_of t u ls true e (with_held (held_as u l false) hs)
    ∙ ap (with_brought u ls) (with_own t (held_as u l false) hs e)
brought_of t u (l ∷ ls) false e hs = brought_of t u ls false e (with_held (held_as u l false) hs) ∙ with_apart t (held_as u l false) hs e

-- ---- one that changes, is used, or goes

changes : (n : LockName) (ch : Change) (h : HeldLock) → (if is_named n h then after ch h else h).target.0 ≡ h.target.0
changes n ch h = by (is_named n h) ch
  where
    by : (b : Bool) (ch : Change) → (if b then after ch h else h).target.0 ≡ h.target.0
    by true change.Mark = refl
    by true change.Unmark = refl
    by true change.Pin = refl
    by true change.Unpin = refl
    by false ch = refl

changed_own : (t : ℕ) (n : LockName) (ch : Change) (hs : List HeldLock) → locks_of t (changed n ch hs) ≡ changed n ch (locks_of t hs)
changed_own t n ch hs = map_of t (λ h. if is_named n h then after ch h else h) (changes n ch) hs

changed_none : (t : ℕ) (n : LockName) (ch : Change) (hs : List HeldLock) → nat_eq t n.target.0 ≡ false → changed n ch (locks_of t hs)
    ≡ locks_of t hs
changed_none t n ch hs e = mapped (λ h. if is_named n h then after ch h else h) (locks_of t hs)
    (λ h i. cond-false (is_named n h) (after ch h) h (none_named t n hs e h i))

changed_of : (t : ℕ) (n : LockName) (ch : Change) (hs : List HeldLock) (b : Bool) → nat_eq t n.target.0 ≡ b → locks_of t (changed n ch hs)
    ≡ (if b then changed n ch (locks_of t hs) else locks_of t hs)
changed_of t n ch hs true e = changed_own t n ch hs
changed_of t n ch hs false e = changed_own t n ch hs ∙ changed_none t n ch hs e

without_own : (t : ℕ) (n : LockName) (hs : List HeldLock) → locks_of t (without n hs) ≡ without n (locks_of t hs)
without_own t n hs = filter_swap (of_target t) (λ h. not (is_named n h)) hs

without_none : (t : ℕ) (n : LockName) (hs : List HeldLock) → nat_eq t n.target.0 ≡ false → without n (locks_of t hs) ≡ locks_of t hs
without_none t n hs e = filter_all (λ h. not (is_named n h)) (locks_of t hs) (λ h i. ap not (none_named t n hs e h i))

without_of : (t : ℕ) (n : LockName) (hs : List HeldLock) (b : Bool) → nat_eq t n.target.0 ≡ b → locks_of t (without n hs)
    ≡ (if b then without n (locks_of t hs) else locks_of t hs)
without_of t n hs true e = without_own t n hs
without_of t n hs false e = without_own t n hs ∙ without_none t n hs e

used_own : (t : ℕ) (n : LockName) (hs : List HeldLock) → locks_of t (used n hs) ≡ used n (locks_of t hs)
used_own t n hs =
    filter-append (of_target t) (filter (is_named n) hs) (without n hs)
    ∙ ap (λ (xs : List HeldLock). xs ++ locks_of t (without n hs)) (filter_swap (of_target t) (is_named n) hs)
    ∙ ap (λ (xs : List HeldLock). filter (is_named n) (locks_of t hs) ++ xs) (without_own t n hs)

used_none : (t : ℕ) (n : LockName) (hs : List HeldLock) → nat_eq t n.target.0 ≡ false → used n (locks_of t hs) ≡ locks_of t hs
used_none t n hs e = ap (λ (xs : List HeldLock). xs ++ without n (locks_of t hs))
    (filter_none (is_named n) (locks_of t hs) (none_named t n hs e)) ∙ without_none t n hs e

unpinned_of : (t : ℕ) (n : LockName) (hs : List HeldLock) (b : Bool) → nat_eq t n.target.0 ≡ b
    → locks_of t (used n (changed n change.Unpin hs)) ≡ (if b then used n (changed n change.Unpin (locks_of t hs)) else locks_of t hs)
unpinned_of t n hs true e = used_own t n (changed n change.Unpin hs) ∙ ap (used n) (changed_own t n change.Unpin hs)
unpinned_of t n hs false e = used_own t n (changed n change.Unpin hs) ∙ ap (used n) (changed_of t n change.Unpin hs false e)
    ∙ used_none t n hs e

unmarked_own : (t u : ℕ) (hs : List HeldLock) → locks_of t (unmarked (record { 0 = u }) hs) ≡ unmarked (record { 0 = u }) (locks_of t hs)
unmarked_own t u hs = map_of t (λ h. if nat_eq h.target.0 u then after change.Unmark h else h) same hs
  where
    by : (b : Bool) (h : HeldLock) → (if b then after change.Unmark h else h).target.0 ≡ h.target.0
    by true h = refl
    by false h = refl

    same : (h : HeldLock) → (if nat_eq h.target.0 u then after change.Unmark h else h).target.0 ≡ h.target.0
    same h = by (nat_eq h.target.0 u) h

unmarked_of : (t u : ℕ) (hs : List HeldLock) (b : Bool) → nat_eq t u ≡ b → locks_of t (unmarked (record { 0 = u }) hs)
    ≡ (if b then unmarked (record { 0 = u }) (locks_of t hs) else locks_of t hs)
unmarked_of t u hs true e = unmarked_own t u hs
unmarked_of t u hs false e =
    unmarked_own t u hs
    ∙ mapped (λ h. if nat_eq h.target.0 u then after change.Unmark h else h) (locks_of t hs)
    (λ h i. cond-false (nat_eq h.target.0 u) (after change.Unmark h) h
    (ap (λ (v : ℕ). nat_eq v u) (eqb-true h.target.0 t (in_filter (of_target t) h hs i).1) ∙ e))

-- ---- so what it holds of a target is what the target's story shows

held_step : (t : ℕ) (e : Entry) (hs : List HeldLock) → reads_held e ≡ true → locks_of t (held_after hs e)
    ≡ (if is_about t e then held_after (locks_of t hs) e else locks_of t hs)
held_step t (Heard u f r) hs q = brought_of t u (brought f.op r) (nat_eq t u) refl hs
held_step t (Hold u l marked size seen) hs q = by (nat_eq t u) refl
  where
    by : (b : Bool) → nat_eq t u ≡ b → locks_of t (with_held (held_as u l marked) hs)
        ≡ (if b then with_held (held_as u l marked) (locks_of t hs) else locks_of t hs)
    by true e = with_own t (held_as u l marked) hs e
    by false e = with_apart t (held_as u l marked) hs e
held_step t (Drop u l) hs q = without_of t (named (record { 0 = u }) l.cookie) hs (nat_eq t u) refl
held_step t (Pins n) hs q = changed_of t n change.Pin hs (nat_eq t n.target.0) refl
held_step t (Unpins n) hs q = unpinned_of t n hs (nat_eq t n.target.0) refl
held_step t (Marks n) hs q = changed_of t n change.Mark hs (nat_eq t n.target.0) refl
held_step t (Unmarks u) hs q = unmarked_of t u hs (nat_eq t u) refl
held_step t e hs q = absurd (cc)

pub held_there : (c t : ℕ) (past : List Line) → locks_of t (held_at c past) ≡ held_at c (only t past)
held_there c t [] = refl
held_there c t (l ∷ past) = by l.at.node (held_there c t past)
  where
    P : List Line
    P = only t past

    G : List HeldLock
    G = held_at c past

    W : List HeldLock
    W = held_at c P

    step : (node : Node) (r own b : Bool) → reads_held l.entry ≡ r → is_client c node ≡ own
        → (own ≡ true → r ≡ true → locks_of t (held_after G l.entry) ≡ (if b then held_after (locks_of t G) l.entry else locks_of t G))
        → locks_of t G ≡ W
        → locks_of t (on r own (held_after G l.entry) G) ≡ held_at c (if b then line (turn l.at.stamp node) l.entry ∷ P else P)
    step node false own true q o f ih = ih ∙ sym (ap (λ (x : Bool). on x (is_client c node) (held_after W l.entry) W) q)
    step node true false true q o f ih = ih ∙ sym (ap (λ (x : Bool). on x (is_client c node) (held_after W l.entry) W) q
        ∙ ap (λ (y : Bool). on true y (held_after W l.entry) W) o)
    step node true true true q o f ih =
        f refl refl ∙ ap (λ (v : List HeldLock). held_after v l.entry) ih
        ∙ sym (ap (λ (x : Bool). on x (is_client c node) (held_after W l.entry) W) q
        ∙ ap (λ (y : Bool). on true y (held_after W l.entry) W) o)
    step node true true false q o f ih = f refl refl ∙ ih
    step node true false false q o f ih = ih
    step node false own false q o f ih = ih

    by : (node : Node) → locks_of t G ≡ W → locks_of t (on (reads_held l.entry) (is_client c node) (held_after G l.entry) G)
        ≡ held_at c (if concerns t node l.entry then line (turn l.at.stamp node) l.entry ∷ P else P)
    by (Client d) ih = step (Client d) (reads_held l.entry) (nat_eq c d) (is_about t l.entry) refl refl (λ o r. held_step t l.entry G r) ih
    by (Target u) ih = step (Target u) (reads_held l.entry) false (nat_eq t u) refl refl (λ o r. absurd (cc)) ih

pub held_in : (c : ℕ) (past : List Line) (h : HeldLock) → In h (held_at c past) → In h (held_at c (only h.target.0 past))
held_in c past h i = subst (λ (hs : List HeldLock). In h hs) (held_there c h.target.0 past)
    (in_filtered (of_target h.target.0) h (held_at c past) i (self h.target.0))

-- the same at a target that is known by another name
pub held_into : (c t : ℕ) (past : List Line) (h : HeldLock) → h.target.0 ≡ t → In h (held_at c past) → In h (held_at c (only t past))
held_into c t past h e i = subst (λ (u : ℕ). In h (held_at c (only u past))) e (held_in c past h i)

pub held_back : (c t : ℕ) (past : List Line) (h : HeldLock) → In h (held_at c (only t past)) → In h (held_at c past) × (h.target.0 ≡ t)
held_back c t past h i =
    let r = in_filter (of_target t) h (held_at c past) (subst (λ (hs : List HeldLock). In h hs) (sym (held_there c t past)) i) in
    (r.0, eqb-true h.target.0 t r.1)

pub held_target : (c t : ℕ) (past : List Line) (h : HeldLock) → In h (held_at c (only t past)) → h.target.0 ≡ t
held_target c t past h i = (held_back c t past h i).1

-- a lock of that name
pub held_name : (c : ℕ) (past : List Line) (n : LockName) → is_held n (held_at c (only n.target.0 past)) ≡ is_held n (held_at c past)
held_name c past n = ap (is_held n) (sym (held_there c n.target.0 past)) ∙ held_same n (held_at c past)

-- where nothing is held, nothing is of any target; and back
pub none_there : (c t : ℕ) (past : List Line) → held_at c past ≡ [] → held_at c (only t past) ≡ []
none_there c t past e = sym (held_there c t past) ∙ ap (locks_of t) e

pub nowhere_held : (c : ℕ) (past : List Line) → ((t : ℕ) → held_at c (only t past) ≡ []) → held_at c past ≡ []
nowhere_held c past none = empty_list (held_at c past) (λ h i. subst (λ (hs : List HeldLock). In h hs) (none h.target.0)
    (held_in c past h i))

-- ---- a field of a client that only lines about one target change

-- the client's lines that the field reads are about that target, or leave it as it is
abbrev AllAbout : {A : Type 0} → (Entry → Bool) → (A → Entry → A) → A → (c t : ℕ) → List Line → Type 0
AllAbout reads after start c t [] = Unit {0}
AllAbout reads after start c t (l ∷ past) =
    (is_client c l.at.node ≡ true → reads l.entry ≡ true → (is_about t l.entry ≡ true)
    ⊎ (after (at_client reads after start c past) l.entry ≡ at_client reads after start c past))
    × AllAbout reads after start c t past

client_is : {A : Type 0} (reads : Entry → Bool) (after : A → Entry → A) (start : A) (c t : ℕ) (past : List Line)
    → AllAbout reads after start c t past → at_client reads after start c past ≡ at_client reads after start c (only t past)
client_is reads after start c t [] a = refl
client_is {A} reads after start c t (l ∷ past) a = by l.at.node a.0 (client_is reads after start c t past a.1)
  where
    P : List Line
    P = only t past

    G : A
    G = at_client reads after start c past

    W : A
    W = at_client reads after start c P

    step : (node : Node) (r a b : Bool) → reads l.entry ≡ r → is_client c node ≡ a
        → (a ≡ true → r ≡ true → (b ≡ true) ⊎ (after G l.entry ≡ G)) → G ≡ W
        → on r a (after G l.entry) G ≡ at_client reads after start c (if b then line (turn l.at.stamp node) l.entry ∷ P else P)
    step node r a true q o f ih =
        ap (λ (v : A). on r a (after v l.entry) v) ih
        ∙ sym (ap (λ (x : Bool). on x (is_client c node) (after W l.entry) W) q ∙ ap (λ (y : Bool). on r y (after W l.entry) W) o)
    step node true true false q o f ih = ⊎_elim (λ (e : false ≡ true). absurd (cc)) (λ (e : after G l.entry ≡ G). e ∙ ih) (f refl refl)
    step node true false false q o f ih = ih
    step node false a false q o f ih = ih

    by : (node : Node) → (is_client c node ≡ true → reads l.entry ≡ true → (is_about t l.entry ≡ true) ⊎ (after G l.entry ≡ G)) → G ≡ W
        → on (reads l.entry) (is_client c node) (after G l.entry) G
        ≡ at_client reads after start c (if concerns t node l.entry then line (turn l.at.stamp node) l.entry ∷ P else P)
    by (Client d) f ih = step (Client d) (reads l.entry) (nat_eq c d) (is_about t l.entry) refl refl f ih
    by (Target u) f ih = step (Target u) (reads l.entry) false (nat_eq t u) refl refl (λ o r. absurd (cc)) ih

-- ---- the facts

facts_line : (facts : List Fact) (past : List Line) (at : At) (c : ℕ) (node : Node) (e : Entry) → EntryOk past at node e → is_client c node
    ≡ true → reads_facts e ≡ true
    → (is_about 0 e ≡ true) ⊎ (facts_after facts e ≡ facts)
facts_line facts past at c (Client d) (Learns t op answer locks) ok own q = inl (ap (nat_eq 0) ok.names)
facts_line facts past at c (Client d) (Drop zero lock) ok own q = inl refl
facts_line facts past at c (Client d) (Drop (suc t) lock) ok own q = inr refl
facts_line facts past at c (Client d) (Life who) ok own q = inl refl
facts_line facts past at c (Target t) e ok own q = absurd (cc)
facts_line facts past at c node e ok own q = absurd (cc)

all_facts : (head : Head) (c : ℕ) (past : List Line) → Grown head past → AllAbout reads_facts facts_after [] c 0 past
all_facts head c [] g = tt
all_facts head c (l ∷ past) g = (facts_line (facts_at c past) past l.at c l.at.node l.entry g.0.ok, all_facts head c past g.1)

pub facts_is : (head : Head) (c : ℕ) (past : List Line) → Grown head past → facts_at c past ≡ facts_at c (only 0 past)
facts_is head c past g = client_is reads_facts facts_after [] c 0 past (all_facts head c past g)
