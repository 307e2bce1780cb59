-- The call in a slot is the same in a past and in its print, and so is each call that stands calm for a client's present life; it
-- stood calm before each line of its turn. For a new life nothing stands calm or is known yet.
use Rattle.std.proofs.Common.{◌≡◌, ℕ, ◌<◌, Bool, true, false, List, [], ◌∷◌, ◌++◌, ◌⊎◌, Option, Some, None, inl, inr, ⊎_elim, refl, sym}
use Rattle.std.proofs.Common.{subst, ap, ◌∙◌, arith}
use Rattle.std.specs.Prelude.{nat_eq, not, ◌&&◌, if◌then◌else◌, filter}
use Rattle.std.specs.Option.{option_map}
use Rattle.std.proofs.lemmas.Bool.{cond_both, cond-true, and_parts, eqb-true}
use Rattle.std.proofs.lemmas.Bool.Decides.{nat_tests}
use Rattle.lu_base.specs.declared.ids.At.{At}
use Rattle.lu_base.specs.declared.ids.Node.{Node}
use Rattle.lu_base.specs.declared.ids.Node.TheVariants.{Client, Target}
use Rattle.lu_base.specs.declared.ids.Stamp.{Stamp}
use Rattle.lu_base.specs.declared.ids.Who.{Who}
use Rattle.lu_msg.specs.declared.calls.Call.{Call}
use Rattle.lu_msg.specs.declared.calls.Call.TheVariants as call
use Rattle.lu_msg.specs.declared.messages.Message.{Message}
use Rattle.lu_msg.specs.declared.messages.Message.TheVariants as message
use Rattle.lu_spec_machine.specs.Footprint.{Every}
use Rattle.lu_spec_entries.specs.Carried.{Asking, Running}
use Rattle.lu_held.specs.declared.names.LockName.{LockName}
use Rattle.lu_spec_entries.specs.Words.{Entry, Begin, Heard, Told, Take, Drop, Life, Marks, Queues, Stands, Line, line, is_client}
use Rattle.lu_spec_entries.specs.Printed.{printed}
use Rattle.lu_proof_lawful.specs.Covered.Calls.{call_at, asks, asks_for}
use Rattle.lu_proof_lawful.specs.Covered.Heads.{Head}
use Rattle.lu_spec_laws.specs.Words.Pasts.{Past}
use Rattle.lu_spec_laws.specs.Words.Sends.{Sending, sending, message_of}
use Rattle.lu_spec_laws.specs.Words.Lives.{life, who_is, is_by}
use Rattle.lu_spec_laws.specs.Words.Calls.{call_in}
use Rattle.lu_spec_laws.specs.Words.Repeats.{disturbs, rebinds, is_ready, in_other_slot, begun_calm, calm, known}
use Rattle.lu_proof_lawful.proofs.Preconditions.Lists.{self, in_append, in_filter}
use Rattle.lu_proof_lawful.proofs.Preconditions.Guards.{In, TookNow, IsFree, CallsBack, EntryOk, LifeOk}
use Rattle.lu_proof_lawful.proofs.Preconditions.Grown.{Allowed, Grown}
use Rattle.lu_proof_lawful.proofs.Invariants.Groups.{turn}
use Rattle.lu_proof_lawful.proofs.Laws.Printed.{flip, sending_is}
use Rattle.lu_proof_lawful.proofs.Laws.SilentHeld.{MarksFree, Stays}
use Rattle.lu_proof_lawful.proofs.Laws.SilentOpens.{KeepsHandles}
use Rattle.lu_proof_lawful.proofs.Laws.Handles.{rises, and_true}

-- ---- the call in a slot is the same

abbrev pub called : Option Running → Option Call
called o = option_map (λ (r : Running). r.call) o

asks_stays : (served : Option ℕ) (slot : ℕ) (asking : Asking) (o : Option Running) → called (asks_for served slot asking o) ≡ called o
asks_stays None slot asking o = refl
asks_stays (Some s) slot asking o = cond_both (nat_eq s slot) (asks asking o) o (λ v. called v ≡ called o) (λ t. by o) (λ f. refl)
  where
    by : (o : Option Running) → called (asks asking o) ≡ called o
    by None = refl
    by (Some r) = refl

began_same : (running : Running) (a : Option Running) (b : Option Call) (t u : Bool) → b ≡ called a
    → (if t && u then Some running.call else b) ≡ called (if t then (if u then Some running else a) else a)
began_same running a b true true h = refl
began_same running a b true false h = h
began_same running a b false u h = h

told_same : (a : Option Running) (b : Option Call) (t u : Bool) → b ≡ called a → (if t && u then None else b)
    ≡ called (if t then (if u then None else a) else a)
told_same a b true true h = refl
told_same a b true false h = h
told_same a b false u h = h

pub call_is : (head : Head) (c slot : ℕ) (past : List Line) → Grown head past → call_in c slot (printed past) ≡ called (call_at c slot past)
call_is head c slot [] g = refl
call_is head c slot (l ∷ past) g = by l.at.node l.entry g.0.ok (call_is head c slot past g.1)
  where
    by : (node : Node) (e : Entry) → EntryOk past (turn l.at.stamp node) node e → call_in c slot (printed past)
        ≡ called (call_at c slot past)
        → call_in c slot (printed (line (turn l.at.stamp node) e ∷ past)) ≡ called (call_at c slot (line (turn l.at.stamp node) e ∷ past))
    by (Client d) (Begin s running) ok h = rw (flip d c) (began_same running (call_at c slot past) (call_in c slot (printed past))
        (nat_eq c d) (nat_eq s slot) h)
    by (Client d) (Told s named given work) ok h = rw (flip d c)
        (told_same (call_at c slot past) (call_in c slot (printed past)) (nat_eq c d) (nat_eq s slot) h)
    by (Client d) (Queues t q) ok h =
        cond_both (nat_eq c d) (asks_for q.slot slot _ (call_at c slot past)) (call_at c slot past)
        (λ (o : Option Running). call_in c slot (printed past) ≡ called o)
        (λ b. h ∙ sym (asks_stays q.slot slot _ (call_at c slot past))) (λ b. h)
    by (Client d) (Heard t f r) ok h =
        cond_both (nat_eq c d) (asks_for f.slot slot _ (call_at c slot past)) (call_at c slot past)
        (λ (o : Option Running). call_in c slot (printed past) ≡ called o)
        (λ b. h ∙ sym (asks_stays f.slot slot _ (call_at c slot past))) (λ b. h)
    by (Client d) (Stands s running) ok h =
        cond_both (nat_eq c d) (if nat_eq s slot then Some running else call_at c slot past) (call_at c slot past)
        (λ (o : Option Running). call_in c slot (printed past) ≡ called o)
        (λ t. cond_both (nat_eq s slot) (Some running) (call_at c slot past)
        (λ (o : Option Running). call_in c slot (printed past) ≡ called o)
        (λ u. h ∙ ap called (before t u) ∙ ap (λ (v : Running). Some v.call) (sym ok.is)) (λ u. h))
        (λ t. h)
      where
        before : nat_eq c d ≡ true → nat_eq s slot ≡ true → call_at c slot past ≡ Some ok.running
        before t u = ap (λ (v : ℕ). call_at v slot past) (eqb-true c d t) ∙ ap (λ (v : ℕ). call_at d v past) (sym (eqb-true s slot u))
            ∙ ok.call
    by (Target t) (Begin s running) ok h = absurd ok
    by (Target t) (Told s named given work) ok h = absurd ok
    by (Target t) (Queues u q) ok h = absurd ok
    by (Target t) (Heard u f r) ok h = absurd ok
    by (Target t) (Stands s running) ok h = absurd ok
    by _ _ ok h = h

-- ---- lists

module _ {A : Type 0} {P Q : A → Type 0} (test : A → Bool) (gives : (x : A) → test x ≡ true → P x → Q x) where
  pub every_filter : (xs : List A) → Every P xs → Every Q (filter test xs)
  every_filter [] h = tt
  every_filter (x ∷ xs) h = cond_both (test x) (x ∷ filter test xs) (filter test xs) (λ v. Every Q v)
      (λ t. (gives x t h.0, every_filter xs h.1)) (λ f. every_filter xs h.1)

module _ {A : Type 0} (P : A → Type 0) where
  pub every_both : (xs ys : List A) → Every P xs → Every P ys → Every P (xs ++ ys)
  every_both [] ys h k = k
  every_both (x ∷ xs) ys h k = (h.0, every_both xs ys h.1 k)

  pub cleared : (b : Bool) (old : List A) → Every P old → Every P (if b then [] else old)
  cleared true old h = tt
  cleared false old h = h

  pub every_in : (x : A) (xs : List A) → Every P xs → In x xs → P x
  every_in x [] h i = absurd i
  every_in x (y ∷ xs) h (inl e) = subst P e h.0
  every_in x (y ∷ xs) h (inr i) = every_in x xs h.1 i

  pub in_every : (xs : List A) → ((x : A) → In x xs → P x) → Every P xs
  in_every [] h = tt
  in_every (x ∷ xs) h = (h x (inl refl), in_every xs (λ y i. h y (inr i)))

pub every_map : {A : Type 0} (P Q : A → Type 0) (xs : List A) → ((x : A) → P x → Q x) → Every P xs → Every Q xs
every_map P Q [] f h = tt
every_map P Q (x ∷ xs) f h = (f x h.0, every_map P Q xs f h.1)

-- ---- a life that is newer than the present one has no lines yet

module _ (head : Head) (who : Who) where
  abbrev IsNew : List Line → Type 0
  IsNew past = (calm who (printed past) ≡ []) × (known who (printed past) ≡ [])

  other : {A : Type 0} (past : List Line) (b : Bool) (more old : List A) → life who.client (printed past) < who.life → old ≡ []
      → (if b && nat_eq (life who.client (printed past)) who.life then more else old) ≡ []
  other past b more old lt h =
      let off : nat_eq (life who.client (printed past)) who.life ≡ false = grind (arith, nat_tests, lt) in
      by b (nat_eq (life who.client (printed past)) who.life) off
    where
      by : (b v : Bool) → v ≡ false → (if b && v then more else old) ≡ []
      by true v e = ap (λ (x : Bool). if x then more else old) e ∙ h
      by false v e = h

  cleared_too : {A : Type 0} (b : Bool) (old : List A) → old ≡ [] → (if b then [] else old) ≡ []
  cleared_too true old h = refl
  cleared_too false old h = h

  pub nothing_yet : (past : List Line) → Grown head past → life who.client (printed past) < who.life → IsNew past
  nothing_yet [] g lt = (refl, refl)
  nothing_yet (l ∷ past) g lt = by l.at.node l.entry g.0.ok lt (λ less. nothing_yet past g.1 less)
    where
      by : (node : Node) (e : Entry) → EntryOk past (turn l.at.stamp node) node e
          → life who.client (printed (line (turn l.at.stamp node) e ∷ past)) < who.life
          → (life who.client (printed past) < who.life → IsNew past) → IsNew (line (turn l.at.stamp node) e ∷ past)
      by (Client d) (Life w) ok lt ih =
          cond_both (nat_eq d who.client) w.life (life who.client (printed past)) (λ (v : ℕ). v < who.life → IsNew past)
          (λ t less. let up = rises who.client d w past (turn l.at.stamp (Client d)) ok t in ih (omega arith))
          (λ t less. ih less) lt
      by (Client d) (Begin s running) ok lt ih = let h = ih lt in
          (other past (nat_eq d who.client) _ _ lt h.0, other past (nat_eq d who.client) _ _ lt h.1)
      by (Client d) (Told s named given work) ok lt ih = let h = ih lt
          in (other past (nat_eq d who.client) _ _ lt h.0, other past (nat_eq d who.client) _ _ lt h.1)
      by (Client d) (Drop t lock) ok lt ih = let h = ih lt in (cleared_too _ _ h.0, cleared_too _ _ h.1)
      by (Client d) (Take n from m) ok lt ih = let h = ih lt in (cleared_too _ _ h.0, cleared_too _ _ h.1)
      by (Target t) (Life w) ok lt ih = absurd ok
      by (Target t) (Begin s running) ok lt ih = absurd ok
      by (Target t) (Told s named given work) ok lt ih = absurd ok
      by (Target t) (Drop u lock) ok lt ih = absurd ok
      by (Target t) (Take n from m) ok lt ih = ih lt
      by _ _ ok lt ih = ih lt

-- the life that a client begins is
pub begun_anew : (head : Head) (c d : ℕ) (w : Who) (past : List Line) (at : At) → Grown head past → LifeOk past at d w → nat_eq d c ≡ true
    → (calm (record { client = c; life = w.life }) (printed past) ≡ []) × (known (record { client = c; life = w.life }) (printed past) ≡ [])
begun_anew head c d w past at g ok own = nothing_yet head (record { client = c; life = w.life }) past g (rises c d w past at ok own)

-- ---- each call that stands calm stands in its slot

abbrev pub StandsIn : (ℕ → Option Call) → ℕ × Call → Type 0
StandsIn in_slot x = in_slot x.0 ≡ Some x.1

other_slot : (a b : ℕ) → not (nat_eq a b) ≡ true → nat_eq b a ≡ false
other_slot a b e = by (nat_eq a b) (flip b a) e
  where
    by : (v : Bool) → nat_eq b a ≡ v → not v ≡ true → nat_eq b a ≡ false
    by true f e = absurd (cc)
    by false f e = f

begin_stands : (t ready : Bool) (slot : ℕ) (new : Call) (in_slot : ℕ → Option Call) (old : List (ℕ × Call)) → Every (StandsIn in_slot) old
    → Every (StandsIn (λ k. if t && nat_eq slot k then Some new else in_slot k)) (if t then begun_calm slot new ready old else old)
begin_stands false ready slot new in_slot old h = h
begin_stands true ready slot new in_slot old h =
    every_both (StandsIn (λ k. if nat_eq slot k then Some new else in_slot k)) (if ready then (slot, new) ∷ [] else []) _ (first ready)
    (every_filter (λ x. in_other_slot slot x && not (rebinds new x.1))
    (λ x is s. let p = and_parts (in_other_slot slot x) _ is in let other = other_slot x.0 slot p.0
    in ap (λ (b : Bool). if b then Some new else in_slot x.0) other ∙ s) old h)
  where
    first : (ready : Bool) → Every (StandsIn (λ k. if nat_eq slot k then Some new else in_slot k)) (if ready then (slot, new) ∷ [] else [])
    first true = (ap (λ (b : Bool). if b then Some new else in_slot slot) (self slot), tt)
    first false = tt

told_stands : (t : Bool) (slot : ℕ) (in_slot : ℕ → Option Call) (old : List (ℕ × Call)) → Every (StandsIn in_slot) old
    → Every (StandsIn (λ k. if t && nat_eq slot k then None else in_slot k)) (if t then filter (in_other_slot slot) old else old)
told_stands false slot in_slot old h = h
told_stands true slot in_slot old h = every_filter (in_other_slot slot)
    (λ x is s. let other = other_slot x.0 slot is in ap (λ (b : Bool). if b then None else in_slot x.0) other ∙ s) old h

pub calm_stands : (head : Head) (c : ℕ) (past : List Line) → Grown head past
    → Every (StandsIn (λ k. call_in c k (printed past))) (calm (who_is c (printed past)) (printed past))
calm_stands head c [] g = tt
calm_stands head c (l ∷ past) g = by l.at.node l.entry g.0.ok (calm_stands head c past g.1)
  where
    own : nat_eq (life c (printed past)) (life c (printed past)) ≡ true
    own = self (life c (printed past))

    by : (node : Node) (e : Entry) → EntryOk past (turn l.at.stamp node) node e
        → Every (StandsIn (λ k. call_in c k (printed past))) (calm (who_is c (printed past)) (printed past))
        → Every (StandsIn (λ k. call_in c k (printed (line (turn l.at.stamp node) e ∷ past))))
        (calm (who_is c (printed (line (turn l.at.stamp node) e ∷ past))) (printed (line (turn l.at.stamp node) e ∷ past)))
    by (Client d) (Begin s running) ok h =
        rw (own, and_true (nat_eq d c))
        (begin_stands (nat_eq d c) (is_ready (who_is c (printed past)) (printed past)) s running.call (λ k. call_in c k (printed past))
        (calm (who_is c (printed past)) (printed past)) h)
    by (Client d) (Told s named given work) ok h = rw (own, and_true (nat_eq d c))
        (told_stands (nat_eq d c) s (λ k. call_in c k (printed past)) (calm (who_is c (printed past)) (printed past)) h)
    by (Client d) (Life w) ok h =
        cond_both (nat_eq d c) w.life (life c (printed past)) (λ (v : ℕ). Every (StandsIn (λ k. call_in c k (printed past)))
        (calm (record { client = c; life = v }) (printed past)))
        (λ t. subst (λ (v : List (ℕ × Call)). Every (StandsIn (λ k. call_in c k (printed past))) v)
        (sym (begun_anew head c d w past (turn l.at.stamp (Client d)) g.1 ok t).0) tt)
        (λ t. h)
    by (Target t) (Life w) ok h = absurd ok
    by (Client d) (Drop t lock) ok h = cleared (StandsIn (λ k. call_in c k (printed past))) _
        (calm (who_is c (printed past)) (printed past)) h
    by (Target t) (Begin s running) ok h = absurd ok
    by (Target t) (Told s named given work) ok h = absurd ok
    by (Target t) (Drop u lock) ok h = absurd ok
    by (Client d) (Take n from m) ok h = cleared (StandsIn (λ k. call_in c k (printed past))) _
        (calm (who_is c (printed past)) (printed past)) h
    by (Target t) (Take n from m) ok h = h
    by _ _ ok h = h

-- ---- what stands calm in a slot after a line stood calm before it, where the slot had its call, and no lock or life was given up

module _ {A : Type 0} (x : A) where
  not_cleared : (b : Bool) (old : List A) → In x (if b then [] else old) → (b ≡ false) × In x old
  not_cleared true old i = absurd i
  not_cleared false old i = (refl, i)

-- the line doesn't begin the call in that slot
abbrev pub NotBegun : (c slot : ℕ) → Node → Entry → Type 0
NotBegun c slot node (Begin s running) = (is_client c node && nat_eq s slot) ≡ false
NotBegun c slot node _ = Unit {0}

-- what stands calm once a call begins: that call, or another one whose handle it neither opens nor closes
in_begun : (x : ℕ × Call) (s : ℕ) (new : Call) (ready : Bool) (old : List (ℕ × Call)) → In x (begun_calm s new ready old) → ((s, new) ≡ x)
    ⊎ (In x old × (rebinds new x.1 ≡ false))
in_begun x s new ready old i =
    ⊎_elim
    (λ (j : In x (if ready then (s, new) ∷ [] else [])). inl (first ready j))
    (λ (j : In x (filter (λ y. in_other_slot s y && not (rebinds new y.1)) old)).
    let f = in_filter (λ y. in_other_slot s y && not (rebinds new y.1)) x old j in
    inr (f.0, no (rebinds new x.1) (and_parts (in_other_slot s x) _ f.1).1))
    (in_append x (if ready then (s, new) ∷ [] else []) _ i)
  where
    no : (b : Bool) → not b ≡ true → b ≡ false
    no true e = absurd (cc)
    no false e = refl

    first : (ready : Bool) → In x (if ready then (s, new) ∷ [] else []) → (s, new) ≡ x
    first true (inl q) = q
    first true (inr i) = absurd i
    first false i = absurd i

pub calm_line : (head : Head) (c slot : ℕ) (l : Line) (past : List Line) → Grown head (l ∷ past) → NotBegun c slot l.at.node l.entry
    → (x : ℕ × Call) → x.0 ≡ slot
    → In x (calm (who_is c (printed (l ∷ past))) (printed (l ∷ past))) → In x (calm (who_is c (printed past)) (printed past))
calm_line head c slot l past g other x at = by l.at.node l.entry g.0.ok other
  where
    own : nat_eq (life c (printed past)) (life c (printed past)) ≡ true
    own = self (life c (printed past))

    P : List (ℕ × Call)
    P = calm (who_is c (printed past)) (printed past)

    began : (d s : ℕ) (new : Call) (ready t : Bool) → nat_eq d c ≡ t → (nat_eq c d && nat_eq s slot) ≡ false
        → In x (if t then begun_calm s new ready P else P) → In x P
    began d s new ready false e apart i = i
    began d s new ready true e apart i = ⊎_elim (λ (q : (s, new) ≡ x). absurd (clash q)) (λ (j : In x P × (rebinds new x.1 ≡ false)). j.0)
        (in_begun x s new ready P i)
      where
        -- the slot is another one
        clash : (s, new) ≡ x → ⊥
        clash q =
            let same : s ≡ slot = ap (λ (v : ℕ × Call). v.0) q ∙ at in
            let both : (nat_eq c d && nat_eq s slot) ≡ true = ap (λ (v : Bool). v && nat_eq s slot) (flip c d ∙ e)
            ∙ ap (λ (v : ℕ). nat_eq v slot) same ∙ self slot in
            let none : true ≡ false = sym both ∙ apart in
            cc

    told : (t : Bool) (s : ℕ) → In x (if t then filter (in_other_slot s) P else P) → In x P
    told true s i = (in_filter (in_other_slot s) x P i).0
    told false s i = i

    by : (node : Node) (e : Entry) → EntryOk past (turn l.at.stamp node) node e → NotBegun c slot node e
        → In x (calm (who_is c (printed (line (turn l.at.stamp node) e ∷ past))) (printed (line (turn l.at.stamp node) e ∷ past))) → In x P
    by (Client d) (Begin s new) ok apart i =
        began d s new.call (is_ready (who_is c (printed past)) (printed past)) (nat_eq d c) refl apart
        (subst (λ (b : Bool). In x (if b then begun_calm s new.call (is_ready (who_is c (printed past)) (printed past)) P else P))
        (ap (λ (v : Bool). nat_eq d c && v) own ∙ and_true (nat_eq d c)) i)
    by (Client d) (Told s named given work) ok apart i = told _ s i
    by (Client d) (Life w) ok apart i =
        cond_both (nat_eq d c) w.life (life c (printed past)) (λ (v : ℕ). In x (calm (record { client = c; life = v }) (printed past))
        → In x P)
        (λ t j. absurd (subst (λ (v : List (ℕ × Call)). In x v) (begun_anew head c d w past (turn l.at.stamp (Client d)) g.1 ok t).0 j))
        (λ t j. j) i
    by (Target t) (Life w) ok apart i = absurd ok
    by (Client d) (Drop t lock) ok apart i = (not_cleared x _ P i).1
    by (Client d) (Take n from m) ok apart i = (not_cleared x _ P i).1
    by (Target t) (Begin s new) ok apart i = absurd ok
    by (Target t) (Told s named given work) ok apart i = absurd ok
    by (Target t) (Drop u lock) ok apart i = absurd ok
    by (Target t) (Take n from m) ok apart i = i
    by _ _ ok apart i = i

pub calm_before : (head : Head) (c slot : ℕ) (running : Running) (l : Line) (past : List Line) → Grown head (l ∷ past) → call_at c slot past
    ≡ Some running → (x : ℕ × Call) → x.0 ≡ slot
    → In x (calm (who_is c (printed (l ∷ past))) (printed (l ∷ past))) → In x (calm (who_is c (printed past)) (printed past))
calm_before head c slot running l past g has = calm_line head c slot l past g (by l.at.node l.entry g.0.ok)
  where
    by : (node : Node) (e : Entry) → EntryOk past (turn l.at.stamp node) node e → NotBegun c slot node e
    by (Client d) (Begin s new) ok = of (nat_eq c d) (nat_eq s slot) refl refl
      where
        of : (a b : Bool) → nat_eq c d ≡ a → nat_eq s slot ≡ b → (a && b) ≡ false
        of true true e f =
            -- the slot isn't free
            let free : call_at c slot past ≡ None = ap (λ (v : ℕ). call_at v slot past) (eqb-true c d e)
            ∙ ap (λ (v : ℕ). call_at d v past) (sym (eqb-true s slot f)) ∙ ok.free in
            absurd (cc)
        of true false e f = refl
        of false b e f = refl
    by (Target t) (Begin s new) ok = refl
    by node e ok = tt

-- nor does the line open or close the handle of a read that stands calm after it
pub calm_keeps : (head : Head) (c : ℕ) (l : Line) (past : List Line) → Grown head (l ∷ past) → (x : ℕ × Call)
    → In x (calm (who_is c (printed (l ∷ past))) (printed (l ∷ past)))
    → (h offset count : ℕ) → x.1 ≡ call.Read h offset count → KeepsHandles c l.at.node l.entry (call.Read h offset count)
calm_keeps head c l past g x i h offset count reads = by l.at.node l.entry i
  where
    P : List (ℕ × Call)
    P = calm (who_is c (printed past)) (printed past)

    read_keeps : (k : Call) → k ≡ call.Read h offset count → rebinds k (call.Read h offset count) ≡ false
    read_keeps k e = ap (λ (v : Call). rebinds v (call.Read h offset count)) e

    by : (node : Node) (e : Entry) → In x (calm (who_is c (printed (line (turn l.at.stamp node) e ∷ past)))
        (printed (line (turn l.at.stamp node) e ∷ past))) → KeepsHandles c node e (call.Read h offset count)
    by (Client d) (Begin s new) i = λ t.
        let own : (nat_eq d c && nat_eq (life c (printed past)) (life c (printed past))) ≡ true =
        rw (flip d c, t, self (life c (printed past))) refl in
        let j = subst (λ (b : Bool). In x (if b then begun_calm s new.call (is_ready (who_is c (printed past)) (printed past)) P else P))
        own i in
        ⊎_elim
        (λ (q : (s, new.call) ≡ x). read_keeps new.call (ap (λ (v : ℕ × Call). v.1) q ∙ reads))
        (λ (k : In x P × (rebinds new.call x.1 ≡ false)). ap (rebinds new.call) (sym reads) ∙ k.1)
        (in_begun x s new.call (is_ready (who_is c (printed past)) (printed past)) P j)
    by (Target u) (Begin s new) i = tt
    by node e i = tt

-- ---- what was just taken may change what the client knows: then nothing stands calm, and nothing is known

pub disturbed : (head : Head) (c : ℕ) (past : List Line) (at : At) (from : Node) (m : Message) → Grown head past → at.node ≡ Client c
    → TookNow past at from m → disturbs (Some m) ≡ true
    → (calm (who_is c (printed past)) (printed past) ≡ []) × (known (who_is c (printed past)) (printed past) ≡ [])
disturbed head c [] at from m g own took d = absurd took
disturbed head c (l ∷ past) at from m g own took d = by l.entry g.0 took
  where
    P : Past
    P = printed past

    W : Who
    W = who_is c P

    its : is_by W P (Client c) ≡ true
    its = rw (self c, self (life c P)) refl

    by : (e : Entry) → Allowed head past l.at e → TookNow (line l.at e ∷ past) at from m
        → (calm (who_is c (printed (line l.at e ∷ past))) (printed (line l.at e ∷ past)) ≡ [])
        × (known (who_is c (printed (line l.at e ∷ past))) (printed (line l.at e ∷ past)) ≡ [])
    by (Take k sender x) a took =
        let mine : is_by W P l.at.node ≡ true = ap (is_by W P) (ap (λ (v : At). v.node) took.0 ∙ own) ∙ its in
        let sent : sending P k ≡ on_way from m = sending_is past k sender l.at.node x a.ok.sent ∙ ap (λ (v : Node). on_way v x) took.1
        ∙ ap (λ (v : Message). on_way from v) took.2 in
        let says : disturbs (message_of P k) ≡ true = ap (λ (o : Option Sending). disturbs (option_map (λ (s : Sending). s.message) o)) sent
        ∙ d in
        let test : (is_by W P l.at.node && disturbs (message_of P k)) ≡ true = rw (mine, says) refl in (
          cond-true (is_by W P l.at.node && disturbs (message_of P k)) [] (calm W P) test,
          cond-true (is_by W P l.at.node && disturbs (message_of P k)) [] (known W P) test,
        )
      where
        on_way : Node → Message → Option Sending
        on_way from m = Some (record { from = from; to = l.at.node; message = m })
    by _ a took = absurd took

-- so a lock of its own that is marked is free, or nothing is known, nor stands calm
pub marks_free : (head : Head) (c : ℕ) (past : List Line) (stamp : Stamp) (d : ℕ) (name : LockName) → Grown head past
    → EntryOk past (turn stamp (Client d)) (Client d) (Marks name)
    → MarksFree c past (Client d) (Marks name) ⊎ ((calm (who_is c (printed past)) (printed past) ≡ [])
    × (known (who_is c (printed past)) (printed past) ≡ []))
marks_free head c past stamp d name g ok = of (nat_eq c d) refl ok
  where
    of : (b : Bool) → nat_eq c d ≡ b → IsFree past d name ⊎ CallsBack past (turn stamp (Client d)) name
        → MarksFree c past (Client d) (Marks name) ⊎ ((calm (who_is c (printed past)) (printed past) ≡ [])
        × (known (who_is c (printed past)) (printed past) ≡ []))
    of false e k = inl (λ t. let both : true ≡ false = sym t ∙ e in absurd (cc))
    of true e (inl free) = inl (λ t. subst (λ (v : ℕ). IsFree past v name) (sym (eqb-true c d e)) free)
    of true e (inr called) =
        inr (disturbed head c past (turn stamp (Client d)) (Target name.target.0) (message.Block called.0 called.1 name.cookie) g
        (ap Client (sym (eqb-true c d e))) called.2 refl)

-- and where a call stands calm after a line, no lock or life was given up, nor was a pinned lock marked
pub calm_stays : (head : Head) (c : ℕ) (l : Line) (past : List Line) → Grown head (l ∷ past) → (x : ℕ × Call)
    → In x (calm (who_is c (printed (l ∷ past))) (printed (l ∷ past))) → Stays c past l.at.node l.entry
calm_stays head c l past g x = by l.at.node l.entry g.0.ok
  where
    own : nat_eq (life c (printed past)) (life c (printed past)) ≡ true
    own = self (life c (printed past))

    by : (node : Node) (e : Entry) → EntryOk past (turn l.at.stamp node) node e
        → In x (calm (who_is c (printed (line (turn l.at.stamp node) e ∷ past))) (printed (line (turn l.at.stamp node) e ∷ past)))
        → Stays c past node e
    by (Client d) (Drop t lock) ok i = (
      flip c d ∙ sym (and_true (nat_eq d c)) ∙ ap (λ (v : Bool). nat_eq d c && v) (sym own)
          ∙ (not_cleared x _ (calm (who_is c (printed past)) (printed past)) i).0,
      tt,
    )
    by (Client d) (Life w) ok i = (
      cond_both (nat_eq d c) w.life (life c (printed past)) (λ (v : ℕ). In x (calm (record { client = c; life = v }) (printed past))
          → nat_eq c d ≡ false)
          (λ t j. absurd (subst (λ (v : List (ℕ × Call)). In x v) (begun_anew head c d w past (turn l.at.stamp (Client d)) g.1 ok t).0 j))
          (λ t j. flip c d ∙ t) i,
      tt,
    )
    by (Client d) (Marks name) ok i = (
      refl,
      ⊎_elim (λ (free : MarksFree c past (Client d) (Marks name)). free)
          (λ (none : (calm (who_is c (printed past)) (printed past) ≡ []) × (known (who_is c (printed past)) (printed past) ≡ [])). absurd
          (subst (λ (v : List (ℕ × Call)). In x v) none.0 i))
          (marks_free head c past l.at.stamp d name g.1 ok),
    )
    by (Target t) (Drop u lock) ok i = (refl, tt)
    by (Target t) (Life w) ok i = (refl, tt)
    by _ _ ok i = (refl, tt)
