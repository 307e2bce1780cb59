-- Each lock that a client holds is printed as held by its present life, once its line came: so who is printed to hold no lock to write
-- holds none.
use Rattle.std.proofs.Common.{◌≡◌, ℕ, Bool, true, false, List, [], ◌∷◌, ◌⊎◌, inl, inr, ⊎_elim, Option, Some, None, refl, sym, subst, ap}
use Rattle.std.proofs.Common.{◌∙◌, arith}
use Rattle.std.specs.Prelude.{nat_eq, not, ◌&&◌, if◌then◌else◌}
use Rattle.std.proofs.lemmas.Bool.{and_parts, cond-true, cond-false, eqb-true, eqb-false}
use Rattle.std.proofs.lemmas.Bool.Decides.{nat_tests}
use Rattle.lu_base.specs.declared.ids.At.{At}
use Rattle.lu_base.specs.declared.ids.Node.{Node}
use Rattle.lu_base.specs.declared.ids.Node.TheVariants.{Client, Target}
use Rattle.lu_base.specs.declared.ids.Stamp.{Stamp}
use Rattle.lu_base.specs.declared.ids.TargetId.{TargetId}
use Rattle.lu_base.specs.declared.ids.Who.{Who}
use Rattle.lu_base.specs.declared.locks.Lock.{Lock}
use Rattle.lu_base.specs.declared.locks.Mode.{Mode}
use Rattle.lu_base.specs.declared.locks.Mode.TheVariants.{PW}
use Rattle.lu_lock.specs.Modes.{under}
use Rattle.lu_held.specs.declared.locks.HeldLock.{HeldLock}
use Rattle.lu_held.specs.Locks.{named}
use Rattle.lu_held.specs.Held.{without}
use Rattle.lu_spec_machine.specs.Tree.{same_life}
use Rattle.lu_spec_entries.specs.Carried.{Deed, Flight}
use Rattle.lu_spec_entries.specs.Words.{Entry, Heard, Hold, Drop, Life, Pins, Unpins, Marks, Unmarks, Learns, Acks, Fills, Zeroes}
use Rattle.lu_spec_entries.specs.Words.{Grown as GrownMark, Shows, Line, line, is_client}
use Rattle.lu_spec_entries.specs.Concerns.{only}
use Rattle.lu_spec_entries.specs.Printed.{printed}
use Rattle.lu_msg.specs.declared.messages.Reply.{Reply as ReplyTo}
use Rattle.lu_spec_client.specs.Caches.{held_as, with_held, with_brought, brought, held_at}
use Rattle.lu_spec_client.specs.Messages.{holds as holds_of, size_with}
use Rattle.lu_proof_lawful.specs.Covered.Calls.{life_at}
use Rattle.lu_proof_lawful.specs.Covered.Heads.{Head}
use Rattle.lu_spec_laws.specs.Words.Lives.{who_is}
use Rattle.lu_spec_laws.specs.Words.Held.{Held, held, given, is_held_by, all_but, with_lock, has_write_lock}
use Rattle.lu_proof_lawful.proofs.Preconditions.Guards.{In}
use Rattle.lu_proof_lawful.proofs.Preconditions.ClientLocks.{any_false, with_only, without_only}
use Rattle.lu_proof_lawful.proofs.Preconditions.Grown.{Allowed, Grown}
use Rattle.lu_proof_lawful.proofs.Preconditions.Held.{nowhere_held}
use Rattle.lu_proof_lawful.proofs.Preconditions.HeedMarks.{marks_left, owes, owed_of}
use Rattle.lu_proof_lawful.proofs.Preconditions.Heeds.{IsOwed, HeedsNext, AllHeed, none_owed, owed_other}
use Rattle.lu_proof_lawful.proofs.Preconditions.Lists.{self, turn, in_left, in_filtered, life_self, life_is}
use Rattle.lu_proof_lawful.proofs.Invariants.TargetGroups.{Gave}
use Rattle.lu_proof_lawful.proofs.Invariants.LockLists.{Kept, brought_in}
use Rattle.lu_proof_lawful.proofs.Invariants.LocksHeld.{pins_held, unpins_held, marks_held, unmarks_held}
use Rattle.lu_proof_lawful.proofs.Laws.HeldLists.{Has}
use Rattle.lu_proof_lawful.proofs.Laws.Holding.{gave_one, has_gave, given_now}
use Rattle.lu_proof_lawful.proofs.Laws.Printed.{present_is, its_client}

-- ---- what is shown of a held lock

-- its line is owed yet
abbrev pub Owing : ℕ → List Line → ℕ → Lock → Type 0
Owing c past t l = (marked : Bool) × (size : Option ℕ) × (seen : List ℕ) × In (Hold t l marked size seen) (owed_of c past)

-- or it is printed as held
abbrev pub IsShown : ℕ → List Line → ℕ → Lock → Type 0
IsShown c past t l = In (record { who = life_at c past; target = t; lock = l }) (held (printed past))

abbrev pub ShownAs : ℕ → List Line → HeldLock → Type 0
ShownAs c past h = Owing c past h.target.0 h.lock ⊎ IsShown c past h.target.0 h.lock

abbrev pub AllShown : List Line → Type 0
AllShown past = (c : ℕ) (h : HeldLock) → In h (held_at c past) → ShownAs c past h

-- ---- lists of what is printed

and_false : (a b : Bool) → b ≡ false → (a && b) ≡ false
and_false true b e = e
and_false false b e = refl

in_all_but : (who : Who) (t cookie : ℕ) (x : Held) (hs : List Held) → is_held_by who t cookie x ≡ false → In x hs
    → In x (all_but who t cookie hs)
in_all_but who t cookie x hs other i = in_filtered (λ h. not (is_held_by who t cookie h)) x hs i (ap not other)

in_with : (who : Who) (t : ℕ) (o : Option Lock) (x : Held) (hs : List Held)
    → ((l : Lock) → o ≡ Some l → is_held_by who t l.cookie.0 x ≡ false) → In x hs → In x (with_lock who t o hs)
in_with who t None x hs other i = i
in_with who t (Some l) x hs other i = inr (in_all_but who t l.cookie.0 x hs (other l refl) i)

turned : (a b c d : ℕ) (s : Bool) → (nat_eq a b && nat_eq c d) ≡ false → ((nat_eq b a && nat_eq d c) && s) ≡ false
turned a b c d s e = by (nat_eq b a && nat_eq d c) refl
  where
    by : (v : Bool) → (nat_eq b a && nat_eq d c) ≡ v → (v && s) ≡ false
    by false f = refl
    by true f = absurd (grind (arith, nat_tests, e, f))

others_not : (c d : ℕ) (v w : Who) → v.client ≡ c → w.client ≡ d → nat_eq c d ≡ false → same_life v w ≡ false
others_not c d v w p q other = by (same_life v w) refl
  where
    by : (b : Bool) → same_life v w ≡ b → b ≡ false
    by false e = refl
    by true e = let same = ap (λ (x : Who). x.client) (life_is v w e) in absurd (eqb-false c d other (sym p ∙ same ∙ q))

-- ---- another client's line, or a target's

module _ (head : Head) (past : List Line) (stamp : Stamp) (c : ℕ) (g : Grown head past) where
  mine : (life_at c past).client ≡ c
  mine = its_client head c past g

  shown_other : (node : Node) (e : Entry) → is_client c node ≡ false → (t : ℕ) (l : Lock) → IsShown c past t l
      → IsShown c (line (turn stamp node) e ∷ past) t l
  shown_other (Client d) (Hold u k marked size seen) other t l i =
      in_with (who_is d (printed past)) u (given u (who_is d (printed past)) k.cookie.0 (printed past))
      (record { who = life_at c past; target = t; lock = l }) (held (printed past))
      (λ j e. and_false _ _ (others_not c d (life_at c past) (who_is d (printed past)) mine
      (ap (λ (w : Who). w.client) (present_is head d past g) ∙ its_client head d past g) other)) i
  shown_other (Client d) (Drop u k) other t l i =
      in_all_but (who_is d (printed past)) u k.cookie.0 (record { who = life_at c past; target = t; lock = l }) (held (printed past))
      (and_false _ _ (others_not c d (life_at c past) (who_is d (printed past)) mine
      (ap (λ (w : Who). w.client) (present_is head d past g) ∙ its_client head d past g) other)) i
  shown_other (Client d) (Life w) other t l i = subst (λ (v : Who). In (record { who = v; target = t; lock = l }) (held (printed past)))
      (sym (cond-false (nat_eq c d) w (life_at c past) other)) i
  shown_other (Target v) (Hold u k marked size seen) other t l i = i
  shown_other node e other t l i = i

  as_other : (node : Node) (e : Entry) → is_client c node ≡ false → (h : HeldLock) → ShownAs c past h
      → ShownAs c (line (turn stamp node) e ∷ past) h
  as_other node e other h (inl o) = inl (
    o.0,
    o.1,
    o.2,
    subst (λ (es : List Entry). In (Hold h.target.0 h.lock o.0 o.1 o.2) es)
        (sym (owed_other c (turn stamp node) e past other)) o.3,
  )
  as_other node e other h (inr i) = inr (shown_other node e other h.target.0 h.lock i)

-- ---- the client's own lines

-- what is owed but isn't shown by this line is owed still
owed_later : (e x : Entry) (es : List Entry) → ((y : Entry) (more : List Entry) → es ≡ y ∷ more → x ≡ y) → (x ≡ e → ⊥) → In e es
    → In e (marks_left es)
owed_later e x [] next other i = absurd i
owed_later e x (y ∷ es) next other (inl same) = absurd (other (next y es refl ∙ same))
owed_later e x (y ∷ es) next other (inr i) = i

first_or : (e x : Entry) (es : List Entry) → ((y : Entry) (more : List Entry) → es ≡ y ∷ more → x ≡ y) → In e es → In e (marks_left es)
    ⊎ (x ≡ e)
first_or e x [] next i = absurd i
first_or e x (y ∷ es) next (inl same) = inr (next y es refl ∙ same)
first_or e x (y ∷ es) next (inr i) = inl i

in_holds : (t : ℕ) (size : Option ℕ) (seen : List ℕ) (l : Lock) (ls : List Lock) → In l ls
    → In (Hold t l false size seen) (holds_of t size seen ls)
in_holds t size seen l (k ∷ ls) (inl e) = inl (ap (λ (x : Lock). Hold t x false size seen) e)
in_holds t size seen l (k ∷ ls) (inr i) = inr (in_holds t size seen l ls i)
in_holds t size seen l [] i = absurd i

shown_kept : (c : ℕ) (past : List Line) (h : HeldLock) → ((k : HeldLock) → In k (held_at c past) → ShownAs c past k)
    → Kept (held_at c past) h → ShownAs c past h
shown_kept c past h old k = by (old k.0 k.1)
  where
    by : ShownAs c past k.0 → ShownAs c past h
    by s = subst (λ (t : TargetId). Owing c past t.0 h.lock ⊎ IsShown c past t.0 h.lock) k.2
        (subst (λ (l : Lock). Owing c past k.0.target.0 l ⊎ IsShown c past k.0.target.0 l) k.3 s)

module _ (head : Head) (past : List Line) (stamp : Stamp) (c : ℕ) (g : Grown head past)
    (old : (h : HeldLock) → In h (held_at c past) → ShownAs c past h) where
  abbrev own : At
  own = turn stamp (Client c)

  own_is : is_client c (Client c) ≡ true
  own_is = self c

  -- of the client's own line the field is the new one
  own_field : {A : Type 0} (new was : A) → (if nat_eq c c then new else was) ≡ new
  own_field new was = cond-true (nat_eq c c) new was (self c)

  -- a line that isn't owed finds nothing owed
  shown_all : (l : Line) → HeedsNext c past l → (IsOwed l.entry → ⊥) → (h : HeldLock) → In h (held_at c past)
      → IsShown c past h.target.0 h.lock
  shown_all l next other h i = ⊎_elim
      (λ (o : Owing c past h.target.0 h.lock). absurd (subst (λ (es : List Entry). In (Hold h.target.0 h.lock o.0 o.1 o.2) es)
      (none_owed c past l next other) o.3))
      (λ (s : IsShown c past h.target.0 h.lock). s)
      (old h i)

  hears_own : (t : ℕ) (f : Flight) (r : ReplyTo) → HeedsNext c past (line own (Heard t f r)) → (h : HeldLock)
      → In h (held_at c (line own (Heard t f r) ∷ past)) → ShownAs c (line own (Heard t f r) ∷ past) h
  hears_own t f r next h i = ⊎_elim
      (λ (j : In h (held_at c past)). inr (shown_all (line own (Heard t f r)) next (λ o. o) h j))
      (λ (k : (l : Lock) × In l (brought f.op r) × (held_as t l false ≡ h)).
      subst (λ (x : HeldLock). ShownAs c (line own (Heard t f r) ∷ past) x) k.2
      (inl (
        false,
        size_with r.answer,
        r.seen,
        subst (λ (es : List Entry). In (Hold t k.0 false (size_with r.answer) r.seen) es)
            (sym (own_field (owes t f r (held_at c past)) (owed_of c past)))
            (in_left (Hold t k.0 false (size_with r.answer) r.seen) _ _
            (in_left (Hold t k.0 false (size_with r.answer) r.seen) (holds_of t (size_with r.answer) r.seen (brought f.op r)) _
            (in_holds t (size_with r.answer) r.seen k.0 (brought f.op r) k.1))),
      )))
      (brought_in t (brought f.op r) (held_at c past) h (subst (λ (hs : List HeldLock). In h hs)
      (own_field (with_brought t (brought f.op r) (held_at c past)) (held_at c past)) i))

  holds_own : (t : ℕ) (lock : Lock) (marked : Bool) (size : Option ℕ) (seen : List ℕ) → Allowed head past own (Hold t lock marked size seen)
      → HeedsNext c past (line own (Hold t lock marked size seen)) → (h : HeldLock)
      → In h (held_at c (line own (Hold t lock marked size seen) ∷ past)) → ShownAs c (line own (Hold t lock marked size seen) ∷ past) h
  holds_own t lock marked size seen a next h i = ⊎_elim
      (λ (e : held_as t lock marked ≡ h). subst (λ (x : HeldLock). ShownAs c new x) e (inr mine_now))
      (λ (j : In h (held_at c past)). by j (old h j))
      (with_only (held_as t lock marked) h (held_at c past) (subst (λ (hs : List HeldLock). In h hs)
      (own_field (with_held (held_as t lock marked) (held_at c past)) (held_at c past)) i))
    where
      new : List Line
      new = line own (Hold t lock marked size seen) ∷ past

      W : Who
      W = who_is c (printed past)

      now : (given t (who_is c (printed past)) lock.cookie.0 (printed past) ≡ Some lock) × ((e : Deed) × Gave (only t past) e lock)
      now = given_now head past stamp c t lock marked size seen a g

      here : W ≡ life_at c past
      here = present_is head c past g

      list_is : with_lock W t (given t W lock.cookie.0 (printed past)) (held (printed past)) ≡ record { who = W; target = t; lock = lock }
          ∷ all_but W t lock.cookie.0 (held (printed past))
      list_is = ap (λ (o : Option Lock). with_lock W t o (held (printed past))) now.0

      mine_now : IsShown c new t lock
      mine_now =
          subst (λ (hs : List Held). In (record { who = life_at c past; target = t; lock = lock }) hs) (sym list_is)
          (inl (ap (λ (w : Who). record { who = w; target = t; lock = lock }) here))

      -- one of that name is this one
      named_one : Has h.target.0 h.lock (held_at c past) → is_held_by W t lock.cookie.0
          (record { who = life_at c past; target = h.target.0; lock = h.lock }) ≡ true → IsShown c new h.target.0 h.lock
      named_one has e =
          let p = and_parts (nat_eq h.target.0 t && nat_eq h.lock.cookie.0 lock.cookie.0) _ e in
          let q = and_parts (nat_eq h.target.0 t) (nat_eq h.lock.cookie.0 lock.cookie.0) p.0 in
          let target = eqb-true h.target.0 t q.0 in
          let was = has_gave head past g c h.target.0 h.lock has in
          let same = gave_one head t past g now.1.0 was.0 lock h.lock now.1.1
          (subst (λ (n : ℕ). Gave (only n past) was.0 h.lock) target was.1) (sym (eqb-true h.lock.cookie.0 lock.cookie.0 q.1)) in
          subst (λ (n : ℕ). IsShown c new n h.lock) (sym target) (subst (λ (l : Lock). IsShown c new t l) same mine_now)

      by : In h (held_at c past) → ShownAs c past h → ShownAs c new h
      by j (inl o) = ⊎_elim
          (λ (later : In (Hold h.target.0 h.lock o.0 o.1 o.2) (marks_left (owed_of c past))). inl (
            o.0,
            o.1,
            o.2,
            subst (λ (es : List Entry). In (Hold h.target.0 h.lock o.0 o.1 o.2) es)
                (sym (own_field (marks_left (owed_of c past)) (owed_of c past))) later,
          ))
          (λ (this : Hold t lock marked size seen ≡ Hold h.target.0 h.lock o.0 o.1 o.2).
          let target : t ≡ h.target.0 = cc in
          let same : lock ≡ h.lock = cc in
          inr (subst (λ (n : ℕ). IsShown c new n h.lock) target (subst (λ (l : Lock). IsShown c new t l) same mine_now)))
          (first_or (Hold h.target.0 h.lock o.0 o.1 o.2) (Hold t lock marked size seen) (owed_of c past) (λ y more q. (next y more q).1)
          o.3)
      by j (inr s) = named (is_held_by W t lock.cookie.0 (record { who = life_at c past; target = h.target.0; lock = h.lock })) refl
        where
          named : (v : Bool) → is_held_by W t lock.cookie.0 (record { who = life_at c past; target = h.target.0; lock = h.lock }) ≡ v
              → ShownAs c new h
          named true e = inr (named_one (h, j, refl, refl) e)
          named false e = inr (subst (λ (hs : List Held). In (record { who = life_at c past; target = h.target.0; lock = h.lock }) hs)
              (sym list_is) (inr (in_all_but W t lock.cookie.0 (record { who = life_at c past; target = h.target.0; lock = h.lock })
              (held (printed past)) e s)))

  drops_own : (t : ℕ) (lock : Lock) → HeedsNext c past (line own (Drop t lock)) → (h : HeldLock)
      → In h (held_at c (line own (Drop t lock) ∷ past)) → ShownAs c (line own (Drop t lock) ∷ past) h
  drops_own t lock next h i =
      let left = without_only (named (record { 0 = t }) lock.cookie) h (held_at c past)
      (subst (λ (hs : List HeldLock). In h hs) (own_field (without (named (record { 0 = t }) lock.cookie) (held_at c past))
      (held_at c past)) i) in
      inr (in_all_but (who_is c (printed past)) t lock.cookie.0 (record { who = life_at c past; target = h.target.0; lock = h.lock })
      (held (printed past)) (other left.1) (shown_all (line own (Drop t lock)) next (λ o. o) h left.0))
    where
      other : (nat_eq t h.target.0 && nat_eq lock.cookie.0 h.lock.cookie.0) ≡ false
          → is_held_by (who_is c (printed past)) t lock.cookie.0 (record { who = life_at c past; target = h.target.0; lock = h.lock })
          ≡ false
      other e = turned t h.target.0 lock.cookie.0 h.lock.cookie.0 (same_life (life_at c past) (who_is c (printed past))) e

  -- marks that are owed come in order, and no lock comes with them
  marks_own : (e : Entry) → HeedsNext c past (line own e) → ((t : ℕ) (l : Lock) (marked : Bool) (size : Option ℕ) (seen : List ℕ) → e
      ≡ Hold t l marked size seen → ⊥) → (h : HeldLock) → Owing c past h.target.0 h.lock
      → (marked : Bool) × (size : Option ℕ) × (seen : List ℕ) × In (Hold h.target.0 h.lock marked size seen)
      (if nat_eq c c then marks_left (owed_of c past) else owed_of c past)
  marks_own e next other h o = (
    o.0,
    o.1,
    o.2,
    subst (λ (es : List Entry). In (Hold h.target.0 h.lock o.0 o.1 o.2) es) (sym (own_field (marks_left (owed_of c past)) (owed_of c past)))
        (owed_later (Hold h.target.0 h.lock o.0 o.1 o.2) e (owed_of c past) (λ y more q. (next y more q).1)
        (λ q. other h.target.0 h.lock o.0 o.1 o.2 q) o.3),
  )

-- ---- each line keeps it

module _ (head : Head) (past : List Line) (stamp : Stamp) (g : Grown head past) (old : AllShown past) where
  -- where the node is the client, by its own line; else by another's
  of_client : (d : ℕ) (e : Entry) → ((c : ℕ) → d ≡ c → (h : HeldLock) → In h (held_at c (line (turn stamp (Client c)) e ∷ past))
      → ShownAs c (line (turn stamp (Client c)) e ∷ past) h)
      → ((c : ℕ) → nat_eq c d ≡ false → held_at c (line (turn stamp (Client d)) e ∷ past) ≡ held_at c past)
      → AllShown (line (turn stamp (Client d)) e ∷ past)
  of_client d e mine apart c h i = by (nat_eq c d) refl
    where
      by : (b : Bool) → nat_eq c d ≡ b → ShownAs c (line (turn stamp (Client d)) e ∷ past) h
      by true q =
          let same : d ≡ c = sym (eqb-true c d q) in
          subst (λ (n : ℕ). In h (held_at c (line (turn stamp (Client n)) e ∷ past)) → ShownAs c (line (turn stamp (Client n)) e ∷ past) h)
          (sym same) (mine c same h) i
      by false q = as_other head past stamp c g (Client d) e q h (old c h (subst (λ (hs : List HeldLock). In h hs) (apart c q) i))

  keeps_shown : (node : Node) (e : Entry) → Allowed head past (turn stamp node) e → ((c : ℕ) → HeedsNext c past (line (turn stamp node) e))
      → AllShown (line (turn stamp node) e ∷ past)
  keeps_shown (Client d) (Heard t f r) a next = of_client d (Heard t f r)
      (λ c q h i. hears_own head past stamp c g (old c) t f r (subst
      (λ (n : ℕ). HeedsNext c past (line (turn stamp (Client n)) (Heard t f r))) q (next c)) h i) (λ c q. cond-false (nat_eq c d) _ _ q)
  keeps_shown (Client d) (Hold t lock marked size seen) a next =
      of_client d (Hold t lock marked size seen)
      (λ c q h i. holds_own head past stamp c g (old c) t lock marked size seen
      (subst (λ (n : ℕ). Allowed head past (turn stamp (Client n)) (Hold t lock marked size seen)) q a)
      (subst (λ (n : ℕ). HeedsNext c past (line (turn stamp (Client n)) (Hold t lock marked size seen))) q (next c)) h i)
      (λ c q. cond-false (nat_eq c d) _ _ q)
  keeps_shown (Client d) (Drop t lock) a next = of_client d (Drop t lock)
      (λ c q h i. drops_own head past stamp c g (old c) t lock (subst
      (λ (n : ℕ). HeedsNext c past (line (turn stamp (Client n)) (Drop t lock))) q (next c)) h i) (λ c q. cond-false (nat_eq c d) _ _ q)
  keeps_shown (Client d) (Pins name) a next = λ c h i. shown_kept c past h (old c) (pins_held past stamp d name c h i)
  keeps_shown (Client d) (Unpins name) a next = λ c h i. shown_kept c past h (old c) (unpins_held past stamp d name c h i)
  keeps_shown (Client d) (Marks name) a next = λ c h i. shown_kept c past h (old c) (marks_held past stamp d name c h i)
  keeps_shown (Client d) (Unmarks t) a next = λ c h i. shown_kept c past h (old c) (unmarks_held past stamp d t c h i)
  keeps_shown (Client d) (Life w) a next =
      of_client d (Life w)
      (λ c q h i. absurd (subst (λ (hs : List HeldLock). In h hs)
      (ap (λ (n : ℕ). held_at n past) (sym q) ∙ nowhere_held d past (λ t. (a.of t refl).empty)) i))
      (λ c q. refl)
  keeps_shown (Client d) (Learns t o b locks) a next = of_client d (Learns t o b locks)
      (λ c q h i. ⊎_elim (λ (s : Owing c past h.target.0 h.lock). inl
      (marks_own head past stamp c g (old c) (Learns t o b locks)
      (subst (λ (n : ℕ). HeedsNext c past (line (turn stamp (Client n)) (Learns t o b locks))) q (next c)) (λ u l m z n x. absurd (cc)) h
      s)) (λ (s : IsShown c past h.target.0 h.lock). inr s) (old c h i)) (λ c q. refl)
  keeps_shown (Client d) (Acks r) a next = of_client d (Acks r)
      (λ c q h i. ⊎_elim (λ (s : Owing c past h.target.0 h.lock). inl
      (marks_own head past stamp c g (old c) (Acks r) (subst (λ (n : ℕ). HeedsNext c past (line (turn stamp (Client n)) (Acks r))) q
      (next c)) (λ u l m z n x. absurd (cc)) h s)) (λ (s : IsShown c past h.target.0 h.lock). inr s) (old c h i)) (λ c q. refl)
  keeps_shown (Client d) (Fills r b bs) a next = of_client d (Fills r b bs)
      (λ c q h i. ⊎_elim (λ (s : Owing c past h.target.0 h.lock). inl
      (marks_own head past stamp c g (old c) (Fills r b bs) (subst
      (λ (n : ℕ). HeedsNext c past (line (turn stamp (Client n)) (Fills r b bs))) q (next c)) (λ u l m z n x. absurd (cc)) h s))
      (λ (s : IsShown c past h.target.0 h.lock). inr s) (old c h i)) (λ c q. refl)
  keeps_shown (Client d) (Zeroes r b) a next = of_client d (Zeroes r b)
      (λ c q h i. ⊎_elim (λ (s : Owing c past h.target.0 h.lock). inl
      (marks_own head past stamp c g (old c) (Zeroes r b) (subst (λ (n : ℕ). HeedsNext c past (line (turn stamp (Client n)) (Zeroes r b))) q
      (next c)) (λ u l m z n x. absurd (cc)) h s)) (λ (s : IsShown c past h.target.0 h.lock). inr s) (old c h i)) (λ c q. refl)
  keeps_shown (Client d) (GrownMark r b) a next = of_client d (GrownMark r b)
      (λ c q h i. ⊎_elim (λ (s : Owing c past h.target.0 h.lock). inl
      (marks_own head past stamp c g (old c) (GrownMark r b) (subst
      (λ (n : ℕ). HeedsNext c past (line (turn stamp (Client n)) (GrownMark r b))) q (next c)) (λ u l m z n x. absurd (cc)) h s))
      (λ (s : IsShown c past h.target.0 h.lock). inr s) (old c h i)) (λ c q. refl)
  keeps_shown (Client d) (Shows r k b) a next = of_client d (Shows r k b)
      (λ c q h i. ⊎_elim (λ (s : Owing c past h.target.0 h.lock). inl
      (marks_own head past stamp c g (old c) (Shows r k b) (subst (λ (n : ℕ). HeedsNext c past (line (turn stamp (Client n)) (Shows r k b)))
      q (next c)) (λ u l m z n x. absurd (cc)) h s)) (λ (s : IsShown c past h.target.0 h.lock). inr s) (old c h i)) (λ c q. refl)
  keeps_shown (Client d) e a next = of_client d e (λ c q h i. old c h i) (λ c q. refl)
  keeps_shown (Target t) (Hold u lock marked size seen) a next = absurd a.ok
  keeps_shown (Target t) e a next = λ c h i. as_other head past stamp c g (Target t) e refl h (old c h i)

-- each held lock's line is owed yet, or it is printed as held
pub all_shown : (head : Head) (past : List Line) → Grown head past → AllHeed past → AllShown past
all_shown head [] g heeds = λ c h i. absurd i
all_shown head (l ∷ past) g heeds = keeps_shown head past l.at.stamp g.1 (all_shown head past g.1 heeds.1) l.at.node l.entry g.0 heeds.0

-- once nothing is owed, who is printed to hold no lock to write holds none
pub no_writes : (head : Head) (past : List Line) → Grown head past → AllHeed past → (c : ℕ) → owed_of c past ≡ []
    → has_write_lock (who_is c (printed past)) (held (printed past)) ≡ false → (h : HeldLock) → In h (held_at c past) → h.lock.ask.mode ≡ PW
    → ⊥
no_writes head past g heeds c none never h i mode = ⊎_elim
    (λ (o : Owing c past h.target.0 h.lock). subst (λ (es : List Entry). In (Hold h.target.0 h.lock o.0 o.1 o.2) es) none o.3)
    (λ (s : IsShown c past h.target.0 h.lock).
    let is = any_false (λ (x : Held). under x.lock.ask.mode false true false false false false && same_life x.who (who_is c (printed past)))
    (held (printed past)) never (record { who = life_at c past; target = h.target.0; lock = h.lock }) s in
    let yes : (under h.lock.ask.mode false true false false false false && same_life (life_at c past) (who_is c (printed past))) ≡ true =
    ap (λ (m : Mode). under m false true false false false false && same_life (life_at c past) (who_is c (printed past))) mode
    ∙ ap (λ (w : Who). same_life (life_at c past) w) (present_is head c past g) ∙ life_self (life_at c past) in
    absurd (let z : true ≡ false = sym yes ∙ is in cc))
    (all_shown head past g heeds c h i)
