-- A client that recovers has given up no lock of the target since it was last told a boot of it, but in a turn that ends its life.
use Rattle.std.proofs.Common.{◌≡◌, ℕ, suc, ◌≤◌, Bool, true, false, List, [], ◌∷◌, ◌++◌, ◌⊎◌, inl, inr, ⊎_elim, refl, sym, subst, ap, ◌∙◌}
use Rattle.std.proofs.Common.{arith}
use Rattle.std.specs.Prelude.{nat_eq, not, if◌then◌else◌, length, map, filter}
use Rattle.std.proofs.lemmas.Bool.{eqb-true}
use Rattle.std.proofs.lemmas.List.{length-map}
use Rattle.lu_base.specs.declared.ids.At.{At}
use Rattle.lu_base.specs.declared.ids.Node.{Node}
use Rattle.lu_base.specs.declared.ids.Node.TheVariants.{Client, Target}
use Rattle.lu_base.specs.declared.ids.Stamp.{Stamp}
use Rattle.lu_base.specs.declared.ids.Who.{Who}
use Rattle.lu_base.specs.declared.locks.Lock.{Lock}
use Rattle.lu_msg.specs.declared.messages.Message.TheVariants as message
use Rattle.lu_held.specs.declared.locks.Change.{Change}
use Rattle.lu_held.specs.declared.locks.Change.TheVariants as change
use Rattle.lu_held.specs.declared.locks.HeldLock.{HeldLock}
use Rattle.lu_held.specs.declared.names.LockName.{LockName}
use Rattle.lu_held.specs.Locks.{name_of, is_named, after}
use Rattle.lu_held.specs.Held.{is_held, changed, used, unmarked}
use Rattle.lu_spec_entries.specs.Words.{Entry, Heard, Hold, Drop, Life, Knows, Serves, Pins, Unpins, Marks, Unmarks, Line, line, is_client}
use Rattle.lu_spec_entries.specs.Concerns.{is_about, concerns, only}
use Rattle.lu_spec_entries.specs.Fields.{on}
use Rattle.lu_spec_client.specs.Caches.{held_as, with_held, with_brought, brought, reads_held, held_after, held_at}
use Rattle.lu_proof_lawful.specs.Covered.Calls.{life_at}
use Rattle.lu_proof_lawful.specs.Covered.ClientStates.{standing_of}
use Rattle.lu_proof_lawful.specs.Covered.Heads.{Head}
use Rattle.lu_proof_lawful.specs.Covered.Imports.{Joining, Recovering, Serving, interrupted, standing_at}
use Rattle.lu_proof_lawful.proofs.Preconditions.Guards.{Noticed, Ending, Closes, EntryOk, GivesUp}
use Rattle.lu_proof_lawful.proofs.Preconditions.StoryGuards.{locks_told}
use Rattle.lu_proof_lawful.proofs.Preconditions.Grown.{Grown}
use Rattle.lu_proof_lawful.proofs.Preconditions.Lists.{self, turn}
use Rattle.lu_proof_lawful.proofs.Preconditions.Parts.{standing_is}
use Rattle.lu_proof_lawful.proofs.Preconditions.Ends.{took_more}
use Rattle.lu_proof_lawful.proofs.Preconditions.ClientLines.{on_other}

-- ---- what a line of a client but a drop leaves of the locks is as many or more

held_more : (h : HeldLock) (hs : List HeldLock) → length hs ≤ length (with_held h hs)
held_more h hs = by (is_held (name_of h) hs)
  where
    by : (b : Bool) → length hs ≤ length (if b then map (λ g. if is_named (name_of h) g then h else g) hs else h ∷ hs)
    by true = let e = length-map hs (λ (g : HeldLock). if is_named (name_of h) g then h else g) in omega arith
    by false = omega arith

brought_more : (t : ℕ) (locks : List Lock) (hs : List HeldLock) → length hs ≤ length (with_brought t locks hs)
brought_more t [] hs = omega arith
brought_more t (l ∷ locks) hs =
    let a = held_more (held_as t l false) hs in
    let b = brought_more t locks (with_held (held_as t l false) hs) in
    omega arith

sorted : (f : HeldLock → Bool) (hs : List HeldLock) → length (filter f hs ++ filter (λ h. not (f h)) hs) ≡ length hs
sorted f [] = refl
sorted f (h ∷ hs) = by (f h) (sorted f hs)
  where
    after_one : (xs ys : List HeldLock) → length (xs ++ h ∷ ys) ≡ suc (length (xs ++ ys))
    after_one [] ys = refl
    after_one (x ∷ xs) ys = ap (λ (n : ℕ). suc n) (after_one xs ys)

    by : (b : Bool) → length (filter f hs ++ filter (λ h. not (f h)) hs) ≡ length hs
        → length ((if b then h ∷ filter f hs else filter f hs) ++ (if not b then h ∷ filter (λ h. not (f h)) hs
        else filter (λ h. not (f h)) hs)) ≡ suc (length hs)
    by true e = ap (λ (n : ℕ). suc n) e
    by false e = after_one (filter f hs) (filter (λ h. not (f h)) hs) ∙ ap (λ (n : ℕ). suc n) e

changed_more : (name : LockName) (ch : Change) (hs : List HeldLock) → length hs ≤ length (changed name ch hs)
changed_more name ch hs = let e = length-map hs (λ (h : HeldLock). if is_named name h then after ch h else h) in omega arith

used_more : (name : LockName) (hs : List HeldLock) → length hs ≤ length (used name (changed name change.Unpin hs))
used_more name hs = let a = sorted (is_named name) (changed name change.Unpin hs) in let b = changed_more name change.Unpin hs
    in omega arith

unmarked_more : (t : ℕ) (hs : List HeldLock) → length hs ≤ length (unmarked (record { 0 = t }) hs)
unmarked_more t hs = let e = length-map hs (λ (h : HeldLock). if nat_eq h.target.0 t then after change.Unmark h else h) in omega arith

-- ---- the newest turn still ends the life

still_ending : (c : ℕ) (past : List Line) (l : Line) → Closes past l.at → life_at c (l ∷ past) ≡ life_at c past → Ending past c
    → Ending (l ∷ past) c
still_ending c [] l closes same k = absurd k
still_ending c (x ∷ past) l (inr none) same k = absurd (none c k)
still_ending c (x ∷ past) l (inl e) same k =
    let here : Noticed (x ∷ past) l.at (life_at c (x ∷ past)) = subst (λ (a : At). Noticed (x ∷ past) a (life_at c (x ∷ past))) e k.1 in (
      ap (λ (a : At). a.node) (sym e) ∙ k.0,
      subst (λ (w : Who). Noticed (l ∷ x ∷ past) l.at w) (sym same)
          (record {
            target = here.target;
            boot = here.boot;
            took =
                took_more l (x ∷ past) l.at (Target here.target) (message.Evicted (life_at c (x ∷ past)) here.boot) here.took;
          }),
    )

-- where a line may come next, that turn is its own
pub ending_now : (c : ℕ) (past : List Line) (at : At) → Closes past at → Ending past c → Noticed past at (life_at c past)
ending_now c [] at closes k = absurd k
ending_now c (x ∷ past) at (inr none) k = absurd (none c k)
ending_now c (x ∷ past) at (inl e) k = subst (λ (a : At). Noticed (x ∷ past) a (life_at c (x ∷ past))) e k.1

-- a line of another node isn't of such a turn
not_ending : (c : ℕ) (past : List Line) (at : At) → Closes past at → is_client c at.node ≡ false → Ending past c → ⊥
not_ending c [] at closes other k = k
not_ending c (x ∷ past) at (inr none) other k = none c k
not_ending c (x ∷ past) at (inl e) other k =
    let q : is_client c at.node ≡ true = ap (is_client c) (ap (λ (a : At). a.node) (sym e) ∙ k.0) ∙ self c in
    absurd (cc)

-- ---- while it recovers

module _ (c : ℕ) where
  -- of a target's story
  abbrev pub Whole : List Line → Type 0
  Whole p = length (locks_told c p) ≤ length (held_at c p)

  -- a line of another node says nothing of it
  told_other : (at : At) (e : Entry) (p : List Line) → is_client c at.node ≡ false → locks_told c (line at e ∷ p) ≡ locks_told c p
  told_other at (Knows t boot) p o = ap (λ (b : Bool). if b then map {A = HeldLock} {B = Lock} (λ h. h.lock) (held_at c p)
      else locks_told c p) o
  told_other at (Life who) p o = ap (λ (b : Bool). if b then [] else locks_told c p) o
  told_other at e p o = refl

  held_other : (at : At) (e : Entry) (p : List Line) → is_client c at.node ≡ false → held_at c (line at e ∷ p) ≡ held_at c p
  held_other at e p o = ap (λ (b : Bool). on (reads_held e) b (held_after (held_at c p) e) (held_at c p)) o
      ∙ on_other (reads_held e) (held_after (held_at c p) e) (held_at c p)

  standing_other : (at : At) (e : Entry) (p : List Line) → is_client c at.node ≡ false → standing_of c (line at e ∷ p) ≡ standing_of c p
  standing_other at (Knows t boot) p o = ap (λ (b : Bool). if b then interrupted (standing_of c p) else standing_of c p) o
  standing_other at (Serves t boot) p o = ap (λ (b : Bool). if b then Serving else standing_of c p) o
  standing_other at (Life who) p o = ap (λ (b : Bool). if b then Joining else standing_of c p) o
  standing_other at e p o = refl

  -- of its own, one that holds more
  held_own : (stamp : Stamp) (e : Entry) (p : List Line) → reads_held e ≡ true → length (held_at c p) ≤ length (held_after (held_at c p) e)
      → length (held_at c p) ≤ length (held_at c (line (turn stamp (Client c)) e ∷ p))
  held_own stamp e p r more =
      subst (λ (hs : List HeldLock). length (held_at c p) ≤ length hs)
      (sym (ap (λ (b : Bool). on b (nat_eq c c) (held_after (held_at c p) e) (held_at c p)) r
      ∙ ap (λ (b : Bool). if b then held_after (held_at c p) e else held_at c p) (self c))) more

  -- or the newest turn ends the life
  abbrev pub Fine : List Line → List Line → Type 0
  Fine past p = standing_of c p ≡ Recovering → Ending past c ⊎ Whole p

  module _ (head : Head) (t : ℕ) where
    pub whole_at : (past : List Line) → Grown head past → Fine past (only t past)
    whole_at [] g = λ v. absurd (cc)
    whole_at (l ∷ past) g = by l.at.node l.entry g.0.ok g.0.closes (whole_at past g.1)
      where
        P : List Line
        P = only t past

        X : Node → Entry → Line
        X node e = line (turn l.at.stamp node) e

        Goal : Node → Entry → Type 0
        Goal node e = Fine (X node e ∷ past) (if concerns t node e then X node e ∷ P else P)

        other : (node : Node) (e : Entry) → is_client c node ≡ false → Closes past (turn l.at.stamp node) → Fine past P → Goal node e
        other node e o closes ih = cases (concerns t node e)
          where
            low : standing_of c P ≡ Recovering → Whole P
            low v = ⊎_elim (λ (k : Ending past c). absurd (not_ending c past (turn l.at.stamp node) closes o k)) (λ (w : Whole P). w) (ih v)

            cases : (b : Bool) → Fine (X node e ∷ past) (if b then X node e ∷ P else P)
            cases false v = inr (low v)
            cases true v =
                inr (subst (λ (hs : List HeldLock). length (locks_told c (X node e ∷ P)) ≤ length hs)
                (sym (held_other (turn l.at.stamp node) e P o))
                (subst (λ (ls : List Lock). length ls ≤ length (held_at c P)) (sym (told_other (turn l.at.stamp node) e P o))
                (low (sym (standing_other (turn l.at.stamp node) e P o) ∙ v))))

        at : At
        at = turn l.at.stamp (Client c)

        -- a line that isn't about the target
        apart : (e : Entry) → Closes past at → life_at c (X (Client c) e ∷ past) ≡ life_at c past → Fine past P
            → Fine (X (Client c) e ∷ past) P
        apart e closes same ih v = ⊎_elim (λ (k : Ending past c). inl (still_ending c past (X (Client c) e) closes same k))
            (λ (w : Whole P). inr w) (ih v)

        -- its own, that leaves standing, life and what it was told
        own : (e : Entry) → Closes past at → life_at c (X (Client c) e ∷ past) ≡ life_at c past → standing_of c (X (Client c) e ∷ P)
            ≡ standing_of c P → (Whole P → Whole (X (Client c) e ∷ P)) → Fine past P → Goal (Client c) e
        own e closes same stands more ih = cases (is_about t e)
          where
            cases : (b : Bool) → Fine (X (Client c) e ∷ past) (if b then X (Client c) e ∷ P else P)
            cases false v = apart e closes same ih v
            cases true v = ⊎_elim (λ (k : Ending past c). inl (still_ending c past (X (Client c) e) closes same k))
                (λ (w : Whole P). inr (more w)) (ih (sym stands ∙ v))

        grow : (e : Entry) → reads_held e ≡ true → length (held_at c P) ≤ length (held_after (held_at c P) e)
            → length (locks_told c (X (Client c) e ∷ P)) ≤ length (locks_told c P) → Whole P → Whole (X (Client c) e ∷ P)
        grow e r more low w = let a = held_own l.at.stamp e P r more in omega arith

        -- a lock is given up where the target serves the life, or the life ends
        dropped : (u : ℕ) (lock : Lock) → GivesUp past at c u lock → Closes past at → Fine past P → (b : Bool) → nat_eq t u ≡ b
            → Fine (X (Client c) (Drop u lock) ∷ past) (if b then X (Client c) (Drop u lock) ∷ P else P)
        dropped u lock gives closes ih false q v = apart (Drop u lock) closes refl ih v
        dropped u lock (inl m) closes ih true q v =
            absurd (let s : Serving ≡ Recovering = sym m.serves ∙ ap (λ (x : ℕ). standing_at c x past) (sym (eqb-true t u q))
            ∙ standing_is c t past ∙ v in cc)
        dropped u lock (inr n) closes ih true q v =
            inl (
              refl,
              record {
                target = n.target;
                boot = n.boot;
                took =
                    took_more (X (Client c) (Drop u lock)) past at (Target n.target) (message.Evicted (life_at c past) n.boot) n.took;
              },
            )

        -- a boot is told, and now that is what it holds
        knows : (u boot : ℕ) → Closes past at → Fine past P → (b : Bool)
            → Fine (X (Client c) (Knows u boot) ∷ past) (if b then X (Client c) (Knows u boot) ∷ P else P)
        knows u boot closes ih false v = apart (Knows u boot) closes refl ih v
        knows u boot closes ih true v =
            let told : List Lock = map {A = HeldLock} {B = Lock} (λ h. h.lock) (held_at c P) in
            let n = length-map (held_at c P) (λ (h : HeldLock). h.lock) in
            inr (subst (λ (ls : List Lock). length ls ≤ length (held_at c P))
            (sym (ap (λ (b : Bool). if b then told else locks_told c P) (self c))) (omega arith))

        serves : (u boot : ℕ) → Closes past at → Fine past P → (b : Bool)
            → Fine (X (Client c) (Serves u boot) ∷ past) (if b then X (Client c) (Serves u boot) ∷ P else P)
        serves u boot closes ih false v = apart (Serves u boot) closes refl ih v
        serves u boot closes ih true v = absurd (let s : Serving ≡ Recovering =
            sym (ap (λ (b : Bool). if b then Serving else standing_of c P) (self c)) ∙ v in cc)

        mine : (e : Entry) → EntryOk past at (Client c) e → Closes past at → Fine past P → Goal (Client c) e
        mine (Life who) ok closes ih v = absurd (let s : Joining ≡ Recovering =
            sym (ap (λ (b : Bool). if b then Joining else standing_of c P) (self c)) ∙ v in cc)
        mine (Knows u boot) ok closes ih v = knows u boot closes ih (nat_eq t u) v
        mine (Serves u boot) ok closes ih v = serves u boot closes ih (nat_eq t u) v
        mine (Heard u f r) ok closes ih v = own (Heard u f r) closes refl refl
            (grow (Heard u f r) refl (brought_more u (brought f.op r) (held_at c P)) (omega arith)) ih v
        mine (Hold u lock marked size seen) ok closes ih v = own (Hold u lock marked size seen) closes refl refl
            (grow (Hold u lock marked size seen) refl (held_more (held_as u lock marked) (held_at c P)) (omega arith)) ih v
        mine (Pins name) ok closes ih v = own (Pins name) closes refl refl
            (grow (Pins name) refl (changed_more name change.Pin (held_at c P)) (omega arith)) ih v
        mine (Unpins name) ok closes ih v = own (Unpins name) closes refl refl
            (grow (Unpins name) refl (used_more name (held_at c P)) (omega arith)) ih v
        mine (Marks name) ok closes ih v = own (Marks name) closes refl refl
            (grow (Marks name) refl (changed_more name change.Mark (held_at c P)) (omega arith)) ih v
        mine (Unmarks u) ok closes ih v = own (Unmarks u) closes refl refl
            (grow (Unmarks u) refl (unmarked_more u (held_at c P)) (omega arith)) ih v
        mine (Drop u lock) ok closes ih v = dropped u lock ok closes ih (nat_eq t u) refl v
        mine e ok closes ih v = own e closes refl refl (λ w. w) ih v

        by : (node : Node) (e : Entry) → EntryOk past (turn l.at.stamp node) node e → Closes past (turn l.at.stamp node) → Fine past P
            → Goal node e
        by (Target u) e ok closes ih = other (Target u) e refl closes ih
        by (Client d) e ok closes ih = one (nat_eq c d) refl
          where
            one : (b : Bool) → nat_eq c d ≡ b → Goal (Client d) e
            one true q =
                subst (λ (u : ℕ). EntryOk past (turn l.at.stamp (Client u)) (Client u) e → Closes past (turn l.at.stamp (Client u))
                → Goal (Client u) e) (eqb-true c d q)
                (λ (o : EntryOk past at (Client c) e) (x : Closes past at). mine e o x ih) ok closes
            one false q = other (Client d) e q closes ih
