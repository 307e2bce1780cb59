-- What concerns one target: its part of a turn, what was sent, and that each line of its story is allowed there.
use Rattle.std.proofs.Common.{◌≡◌, ℕ, zero, suc, ◌<◌, ◌≤◌, Bool, true, false, List, [], ◌∷◌, ◌++◌, ◌⊎◌, inl, inr, refl, sym, subst, ap, ◌∙◌}
use Rattle.std.proofs.Common.{arith}
use Rattle.std.specs.Prelude.{nat_eq, if◌then◌else◌}
use Rattle.std.proofs.lemmas.Bool.{cond-true, cond-false, eqb-true, eqb-false}
use Rattle.lu_base.specs.declared.ids.At.{At}
use Rattle.lu_base.specs.declared.ids.Node.{Node}
use Rattle.lu_base.specs.declared.ids.Node.TheVariants.{Client, Target}
use Rattle.lu_msg.specs.declared.messages.Message.{Message}
use Rattle.lu_spec_entries.specs.Words.{Entry, Send, Heard, Line, line, with_turn}
use Rattle.lu_spec_entries.specs.Concerns.{concerns, only, about}
use Rattle.lu_spec_entries.specs.Sent.{Sent}
use Rattle.lu_proof_lawful.specs.Covered.Heads.{Head}
use Rattle.lu_proof_lawful.proofs.Preconditions.Guards.{Was, EntryOk}
use Rattle.lu_proof_lawful.proofs.Preconditions.Grown.{LivesAt, Grown, IsOfFirst, IsOneOf, GrownOf}
use Rattle.lu_proof_lawful.proofs.Preconditions.Lists.{self}

-- ---- a turn

pub turn_only : (t : ℕ) (at : At) (es : List Entry) (past : List Line) → only t (with_turn at es past)
    ≡ with_turn at (about t at.node es) (only t past)
turn_only t at [] past = refl
turn_only t at (e ∷ es) past = turn_only t at es (line at e ∷ past) ∙ by (concerns t at.node e)
  where
    by : (b : Bool) → with_turn at (about t at.node es) (if b then line at e ∷ only t past else only t past)
        ≡ with_turn at (if b then e ∷ about t at.node es else about t at.node es) (only t past)
    by true = refl
    by false = refl

-- a turn of a target is its own story's whole, and nothing of another's
pub about_own : (t : ℕ) (es : List Entry) → about t (Target t) es ≡ es
about_own t [] = refl
about_own t (e ∷ es) = cond-true (nat_eq t t) (e ∷ about t (Target t) es) (about t (Target t) es) (self t)
    ∙ ap (λ (fs : List Entry). e ∷ fs) (about_own t es)

pub about_other : (t u : ℕ) (es : List Entry) → nat_eq t u ≡ false → about t (Target u) es ≡ []
about_other t u [] n = refl
about_other t u (e ∷ es) n = cond-false (nat_eq t u) (e ∷ about t (Target u) es) (about t (Target u) es) n ∙ about_other t u es n

pub about_more : (t : ℕ) (node : Node) (es fs : List Entry) → about t node (es ++ fs) ≡ about t node es ++ about t node fs
about_more t node [] fs = refl
about_more t node (e ∷ es) fs = by (concerns t node e) (about_more t node es fs)
  where
    by : (b : Bool) → about t node (es ++ fs) ≡ about t node es ++ about t node fs
        → (if b then e ∷ about t node (es ++ fs) else about t node (es ++ fs)) ≡ (if b then e ∷ about t node es else about t node es)
        ++ about t node fs
    by true h = ap (λ (gs : List Entry). e ∷ gs) h
    by false h = h

-- ---- a client's entries about one target

abbrev pub Abouts : ℕ → ℕ → List Entry → Type 0
Abouts c u [] = Unit {0}
Abouts c u (e ∷ es) = ((t : ℕ) → concerns t (Client c) e ≡ nat_eq t u) × Abouts c u es

pub abouts_more : (c u : ℕ) (es fs : List Entry) → Abouts c u es → Abouts c u fs → Abouts c u (es ++ fs)
abouts_more c u [] fs a b = b
abouts_more c u (e ∷ es) fs a b = (a.0, abouts_more c u es fs a.1 b)

pub about_one : (t c u : ℕ) (es : List Entry) → Abouts c u es → about t (Client c) es ≡ (if nat_eq t u then es else [])
about_one t c u [] a = by (nat_eq t u)
  where
    by : (b : Bool) → ◌≡◌ {A = List Entry} [] (if b then [] else [])
    by true = refl
    by false = refl
about_one t c u (e ∷ es) a = ap (λ (b : Bool). if b then e ∷ about t (Client c) es else about t (Client c) es) (a.0 t)
    ∙ by (nat_eq t u) (about_one t c u es a.1)
  where
    by : (b : Bool) → about t (Client c) es ≡ (if b then es else []) → (if b then e ∷ about t (Client c) es else about t (Client c) es)
        ≡ (if b then e ∷ es else [])
    by true h = ap (λ (gs : List Entry). e ∷ gs) h
    by false h = h

-- ---- a client's turn that goes through all targets is, at each, what it does there

-- for each target in order, what it gives there
abbrev pub each : ℕ → (ℕ → List Entry) → List Entry
each zero f = []
each (suc u) f = each u f ++ f u

pub about_each : (t c n : ℕ) (f : ℕ → List Entry) → ((u : ℕ) → Abouts c u (f u)) → ((t < n) × (about t (Client c) (each n f) ≡ f t))
    ⊎ ((n ≤ t) × (about t (Client c) (each n f) ≡ []))
about_each t c zero f a = inr (omega arith, refl)
about_each t c (suc n) f a = by (nat_eq t n) refl (about_each t c n f a)
  where
    here : about t (Client c) (each (suc n) f) ≡ about t (Client c) (each n f) ++ (if nat_eq t n then f n else [])
    here = about_more t (Client c) (each n f) (f n) ∙ ap (λ (es : List Entry). about t (Client c) (each n f) ++ es)
        (about_one t c n (f n) (a n))

    ends : (es : List Entry) → es ++ [] ≡ es
    ends [] = refl
    ends (e ∷ es) = ap (λ (fs : List Entry). e ∷ fs) (ends es)

    apart : (n t : ℕ) → n ≤ t → (t ≡ n → ⊥) → suc n ≤ t
    apart n t le ne = grind (arith, ne)

    by : (b : Bool) → nat_eq t n ≡ b → ((t < n) × (about t (Client c) (each n f) ≡ f t)) ⊎ ((n ≤ t) × (about t (Client c) (each n f) ≡ []))
        → ((t < suc n) × (about t (Client c) (each (suc n) f) ≡ f t)) ⊎ ((suc n ≤ t) × (about t (Client c) (each (suc n) f) ≡ []))
    by true e (inl r) = absurd (let q = eqb-true t n e in let lt = r.0 in omega arith)
    by true e (inr r) = inl (
      let q = eqb-true t n e in omega arith,
      here
          ∙ ap (λ (es : List Entry). es ++ (if nat_eq t n then f n else [])) r.1 ∙ cond-true (nat_eq t n) (f n) [] e
          ∙ ap f (sym (eqb-true t n e)),
    )
    by false e (inl r) = inl (
      let lt = r.0 in omega arith,
      here
          ∙ ap (λ (es : List Entry). about t (Client c) (each n f) ++ es) (cond-false (nat_eq t n) (f n) [] e)
          ∙ ends (about t (Client c) (each n f)) ∙ r.1,
    )
    by false e (inr r) = inr (
      apart n t r.0 (eqb-false t n e),
      here
          ∙ ap (λ (es : List Entry). about t (Client c) (each n f) ++ es) (cond-false (nat_eq t n) (f n) [] e)
          ∙ ends (about t (Client c) (each n f)) ∙ r.1,
    )

-- ---- what was sent

pub sent_was : (past : List Line) (n : ℕ) (from to : Node) (m : Message) → Sent past n from to m → Was past from to m
sent_was [] n from to m s = absurd s
sent_was (l ∷ past) n from to m s = by l.entry s (λ r. sent_was past n from to m r)
  where
    by : (e : Entry) → Sent (line l.at e ∷ past) n from to m → (Sent past n from to m → Was past from to m)
        → Was (line l.at e ∷ past) from to m
    by (Send node message) (inl r) f = inl (r.1, r.2, r.3)
    by (Send node message) (inr r) f = inr (f r)
    by e r f = f r

-- what was sent is in the story of each target that it concerns
pub was_only : (t : ℕ) (past : List Line) (from to : Node) (m : Message) → concerns t from (Send to m) ≡ true → Was past from to m
    → Was (only t past) from to m
was_only t [] from to m q w = absurd w
was_only t (l ∷ past) from to m q w = by l.entry w (λ v. was_only t past from to m q v)
  where
    P : List Line
    P = only t past

    -- a line before it, that has its own test
    older : (e : Entry) (b : Bool) → (Was P from to m → Was (line l.at e ∷ P) from to m) → Was P from to m
        → Was (if b then line l.at e ∷ P else P) from to m
    older e true f r = f r
    older e false f r = r

    by : (e : Entry) → Was (line l.at e ∷ past) from to m → (Was past from to m → Was P from to m)
        → Was (if concerns t l.at.node e then line l.at e ∷ P else P) from to m
    by (Send node message) (inl r) f =
        subst (λ (b : Bool). Was (if b then line l.at (Send node message) ∷ P else P) from to m)
        (sym (ap (λ (k : Node). concerns t k (Send node message)) r.0 ∙ ap (λ (k : Node). concerns t from (Send k message)) r.1
        ∙ ap (λ (k : Message). concerns t from (Send to k)) r.2 ∙ q))
        (inl r)
    by (Send node message) (inr r) f = older (Send node message) (concerns t l.at.node (Send node message)) (λ s. inr s) (f r)
    by e r f = older e (concerns t l.at.node e) (λ s. s) (f r)

-- it was sent, whatever comes
pub was_more : (l : Line) (past : List Line) (from to : Node) (m : Message) → Was past from to m → Was (l ∷ past) from to m
was_more l past from to m r = by l.entry
  where
    by : (e : Entry) → Was (line l.at e ∷ past) from to m
    by (Send k x) = inr r
    by e = r

pub was_back : (t : ℕ) (past : List Line) (from to : Node) (m : Message) → Was (only t past) from to m → Was past from to m
was_back t [] from to m w = absurd w
was_back t (l ∷ past) from to m w = by l.entry (concerns t l.at.node l.entry) w (λ v. was_back t past from to m v)
  where
    P : List Line
    P = only t past

    by : (e : Entry) (b : Bool) → Was (if b then line l.at e ∷ P else P) from to m → (Was P from to m → Was past from to m)
        → Was (line l.at e ∷ past) from to m
    by (Send node message) true (inl r) f = inl r
    by (Send node message) true (inr r) f = inr (f r)
    by (Send node message) false r f = inr (f r)
    by e true r f = f r
    by e false r f = f r

-- what a client sent to a target
pub asked_target : (past : List Line) (n c t : ℕ) (m : Message) → Sent past n (Client c) (Target t) m
    → Was (only t past) (Client c) (Target t) m
asked_target past n c t m s = was_only t past (Client c) (Target t) m (self t) (sent_was past n (Client c) (Target t) m s)

-- what a target sent
pub told_by_target : (past : List Line) (n t : ℕ) (to : Node) (m : Message) → Sent past n (Target t) to m
    → Was (only t past) (Target t) to m
told_by_target past n t to m s = was_only t past (Target t) to m (self t) (sent_was past n (Target t) to m s)

-- ---- each line of one target's story is allowed there

of_first : (past : List Line) (at : At) (node : Node) (e : Entry) → EntryOk past at node e → IsOfFirst e
of_first past at (Client c) (Heard t f r) ok = ok.0
of_first past at (Target u) (Heard t f r) ok = absurd ok
of_first past at node e ok = tt

one_of : (head : Head) (past : List Line) (node : Node) → LivesAt head past node → IsOneOf head node
one_of head past (Client c) alive = alive.one
one_of head past (Target u) alive = tt

pub grown_of : (head : Head) (t : ℕ) (past : List Line) → Grown head past → GrownOf head (only t past)
grown_of head t [] g = tt
grown_of head t (l ∷ past) g = by (concerns t l.at.node l.entry) refl (grown_of head t past g.1)
  where
    by : (b : Bool) → concerns t l.at.node l.entry ≡ b → GrownOf head (only t past)
        → GrownOf head (if b then l ∷ only t past else only t past)
    by true q h = (
      g.0.of t q,
      of_first past l.at l.at.node l.entry g.0.ok,
      record { one = one_of head past l.at.node g.0.lives; shows = g.0.shows t q },
      h,
    )
    by false q h = h
