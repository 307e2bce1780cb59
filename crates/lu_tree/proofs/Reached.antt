-- What a plan that walks comes to, by where its walks come to.
use Rattle.std.proofs.Common.{◌≡◌, ℕ, Bool, true, false, List, [], ◌∷◌, ◌++◌, inl, inr, Option, Some, None, Result, if◌then◌else◌, refl}
use Rattle.std.proofs.Common.{sym, ap, subst, ◌∙◌}
use Rattle.std.specs.declared.result.Result.TheVariants.{Ok, Err}
use Rattle.lu_base.specs.declared.ids.Fid.{Fid}
use Rattle.lu_msg.specs.declared.answers.Answer.TheVariants as told
use Rattle.lu_msg.specs.declared.answers.Errno.{Errno}
use Rattle.lu_msg.specs.declared.answers.Errno.TheVariants.{ENAMETOOLONG}
use Rattle.lu_part.specs.declared.parts.Part.{Part}
use Rattle.lu_spec_machine.specs.declared.child.Child.{Child}
use Rattle.lu_spec_machine.specs.declared.child.Child.TheVariants.{Dir, File}
use Rattle.lu_spec_machine.specs.Name.{is_too_long}
use Rattle.lu_spec_machine.specs.Tree.{Tree, child}
use Rattle.lu_spec_machine.specs.Plan.{Plan, Refuse, Outcome, outcome, looked}
use Rattle.lu_spec_machine.specs.Table.{root, look_in, look, there, walk, onward, walk_up, to_last, last_of}
use Rattle.lu_tree.specs.declared.walks.Found.{Found}
use Rattle.lu_tree.specs.Walks.{find_in, find, if_there, if_found, reach, find_after, find_last, trail, look_of, looks}
use Rattle.lu_tree.specs.Ends.{IsReached}

abbrev pub refused : Errno → Outcome
refused e = record { answer = told.Refused e; grants = []; changes = [] }

-- a walk that is refused comes to that, and else on to what follows
abbrev pub from : {A : Type 0} → Result A Errno → (A → Outcome) → Outcome
from (Err e) next = refused e
from (Ok x) next = next x

abbrev pub seen_from : {A : Type 0} → Result A Errno → (A → List Part) → List Part
seen_from (Err e) next = []
seen_from (Ok x) next = next x

module _ (t : Tree) where
  look_ends : (at : Child) (n : List ℕ) (k : Fid → Option Child → Plan) → outcome t (look at n k)
      ≡ from (find t at n) (λ x. outcome t (k x.dir x.child))
  look_ends at n k = by (is_too_long n) at
    where
      by : (b : Bool) (at : Child) → outcome t (if b then Refuse ENAMETOOLONG else look_in at n k)
          ≡ from (if b then Err ENAMETOOLONG else find_in t at n) (λ x. outcome t (k x.dir x.child))
      by true at = refl
      by false (Dir d) = refl
      by false (File f) = refl

  look_looks : (at : Child) (n : List ℕ) (k : Fid → Option Child → Plan) → looked t (look at n k) ≡ look_of n (find t at n)
      ++ seen_from (find t at n) (λ x. looked t (k x.dir x.child))
  look_looks at n k = by (is_too_long n) at
    where
      by : (b : Bool) (at : Child) → looked t (if b then Refuse ENAMETOOLONG else look_in at n k)
          ≡ look_of n (if b then Err ENAMETOOLONG else find_in t at n)
          ++ seen_from (if b then Err ENAMETOOLONG else find_in t at n) (λ x. looked t (k x.dir x.child))
      by true at = refl
      by false (Dir d) = refl
      by false (File f) = refl

  -- ---- whole paths

  pub walk_ends : (at : Child) (ns : List (List ℕ)) (next : List Child → Plan) → outcome t (walk at ns next)
      ≡ from (reach t at ns) (λ c. outcome t (next (trail t at ns)))
  walk_ends at [] next = refl
  walk_ends at (n ∷ ns) next = look_ends at n (λ d. there (λ c. walk c ns (λ cs. next (c ∷ cs))))
      ∙ by (find t at n) (λ c. walk_ends c ns (λ cs. next (c ∷ cs)))
    where
      Here : Type 0
      Here = (c : Child) → outcome t (walk c ns (λ cs. next (c ∷ cs))) ≡ from (reach t c ns) (λ b. outcome t (next (c ∷ trail t c ns)))

      on : Here → (o : Option Child) → outcome t (there (λ c. walk c ns (λ cs. next (c ∷ cs))) o)
          ≡ from (if_there (λ c. reach t c ns) Err o) (λ c. outcome t (next (if_there (λ c. c ∷ trail t c ns) (λ e. []) o)))
      on ih None = refl
      on ih (Some c) = ih c

      by : (r : Result Found Errno) → Here
          → from r (λ x. outcome t (there (λ c. walk c ns (λ cs. next (c ∷ cs))) x.child))
          ≡ from (if_found (λ c. reach t c ns) Err r) (λ c. outcome t (next (if_found (λ c. c ∷ trail t c ns) (λ e. []) r)))
      by (Err e) ih = refl
      by (Ok x) ih = on ih x.child

  pub last_trail : (at : Child) (ns : List (List ℕ)) (c : Child) → reach t at ns ≡ Ok c → last_of at (trail t at ns) ≡ c
  last_trail at [] c h = cc
  last_trail at (n ∷ ns) c h = by (find t at n) (λ b. last_trail b ns c) h
    where
      Here : Type 0
      Here = (b : Child) → reach t b ns ≡ Ok c → last_of b (trail t b ns) ≡ c

      on : Here → (o : Option Child) → if_there (λ c. reach t c ns) Err o ≡ Ok c → last_of at (if_there (λ c. c ∷ trail t c ns) (λ e. []) o)
          ≡ c
      on ih None h = absurd (cc)
      on ih (Some b) h = ih b h

      by : (r : Result Found Errno) → Here → if_found (λ c. reach t c ns) Err r ≡ Ok c
          → last_of at (if_found (λ c. c ∷ trail t c ns) (λ e. []) r) ≡ c
      by (Err e) ih h = absurd (cc)
      by (Ok x) ih h = on ih x.child h

  pub walk_looks : (at : Child) (ns : List (List ℕ)) (next : List Child → Plan) → looked t (walk at ns next) ≡ looks t at ns
      ++ seen_from (reach t at ns) (λ c. looked t (next (trail t at ns)))
  walk_looks at [] next = refl
  walk_looks at (n ∷ ns) next = look_looks at n (λ d. there (λ c. walk c ns (λ cs. next (c ∷ cs))))
      ∙ by (find t at n) (λ c. walk_looks c ns (λ cs. next (c ∷ cs)))
    where
      Here : Type 0
      Here = (c : Child) → looked t (walk c ns (λ cs. next (c ∷ cs))) ≡ looks t c ns
          ++ seen_from (reach t c ns) (λ b. looked t (next (c ∷ trail t c ns)))

      on : Here → (o : Option Child) → looked t (there (λ c. walk c ns (λ cs. next (c ∷ cs))) o) ≡ if_there (λ c. looks t c ns) (λ e. []) o
          ++ seen_from (if_there (λ c. reach t c ns) Err o) (λ c. looked t (next (if_there (λ c. c ∷ trail t c ns) (λ e. []) o)))
      on ih None = refl
      on ih (Some c) = ih c

      by : (r : Result Found Errno) → Here
          → look_of n r ++ seen_from r (λ x. looked t (there (λ c. walk c ns (λ cs. next (c ∷ cs))) x.child))
          ≡ (look_of n r ++ if_found (λ c. looks t c ns) (λ e. []) r)
          ++ seen_from (if_found (λ c. reach t c ns) Err r) (λ c. looked t (next (if_found (λ c. c ∷ trail t c ns) (λ e. []) r)))
      by (Err e) ih = refl
      by (Ok x) ih = ap (λ ps. look_of n (Ok x) ++ ps) (on ih x.child)

  -- ---- all names but the last, and the last one

  -- with what is answered where there are no names
  up : Errno → Child → List (List ℕ) → (List Child → Fid → List ℕ → Option Child → Plan) → Plan
  up e at [] next = Refuse e
  up e at (n ∷ ns) next = walk_up at n ns next

  onward_up : (e : Errno) (f : List ℕ) (front : List (List ℕ)) (m : List ℕ) (next : List Child → Fid → List ℕ → Option Child → Plan)
      (d : Fid) (o : Option Child)
      → onward (front ++ m ∷ []) next d f o ≡ there (λ c. up e c (front ++ m ∷ []) (λ cs. next (c ∷ cs))) o
  unfolding up
  onward_up e f [] m next d o = refl
  onward_up e f (g ∷ front) m next d o = refl

  up_ends : (e : Errno) (at : Child) (front : List (List ℕ)) (m : List ℕ) (next : List Child → Fid → List ℕ → Option Child → Plan)
      → outcome t (up e at (front ++ m ∷ []) next) ≡ from (find_last t at front m)
      (λ x. outcome t (next (trail t at front) x.dir m x.child))
  unfolding up
  up_ends e at [] m next = look_ends at m (λ d. onward [] next d m)
  up_ends e at (f ∷ front) m next = look_ends at f (λ d. onward (front ++ m ∷ []) next d f)
      ∙ by (find t at f) (λ c. up_ends e c front m (λ cs. next (c ∷ cs)))
    where
      Here : Type 0
      Here = (c : Child) → outcome t (up e c (front ++ m ∷ []) (λ cs. next (c ∷ cs)))
          ≡ from (find_last t c front m) (λ x. outcome t (next (c ∷ trail t c front) x.dir m x.child))

      on : Here → (o : Option Child) → outcome t (there (λ c. up e c (front ++ m ∷ []) (λ cs. next (c ∷ cs))) o)
          ≡ from (find_after t m (if_there (λ c. reach t c front) Err o))
          (λ x. outcome t (next (if_there (λ c. c ∷ trail t c front) (λ e. []) o) x.dir m x.child))
      on ih None = refl
      on ih (Some c) = ih c

      by : (r : Result Found Errno) → Here → from r (λ x. outcome t (onward (front ++ m ∷ []) next x.dir f x.child))
          ≡ from (find_after t m (if_found (λ c. reach t c front) Err r))
          (λ x. outcome t (next (if_found (λ c. c ∷ trail t c front) (λ e. []) r) x.dir m x.child))
      by (Err e) ih = refl
      by (Ok x) ih = ap (outcome t) (onward_up e f front m next x.dir x.child) ∙ on ih x.child

  up_looks : (e : Errno) (at : Child) (front : List (List ℕ)) (m : List ℕ) (next : List Child → Fid → List ℕ → Option Child → Plan)
      → looked t (up e at (front ++ m ∷ []) next) ≡ looks t at (front ++ m ∷ [])
      ++ seen_from (find_last t at front m) (λ x. looked t (next (trail t at front) x.dir m x.child))
  unfolding up
  up_looks e at [] m next = look_looks at m (λ d. onward [] next d m) ∙ by (find t at m)
    where
      on : (o : Option Child) → [] ≡ if_there (λ c. looks t c []) (λ e. []) o
      on None = refl
      on (Some c) = refl

      by : (r : Result Found Errno) → look_of m r ++ seen_from r (λ x. looked t (next [] x.dir m x.child))
          ≡ (look_of m r ++ if_found (λ c. looks t c []) (λ e. []) r) ++ seen_from r (λ x. looked t (next [] x.dir m x.child))
      by (Err e) = refl
      by (Ok x) = ap (λ ps. look_of m (Ok x) ++ (ps ++ looked t (next [] x.dir m x.child))) (on x.child)
  up_looks e at (f ∷ front) m next = look_looks at f (λ d. onward (front ++ m ∷ []) next d f)
      ∙ by (find t at f) (λ c. up_looks e c front m (λ cs. next (c ∷ cs)))
    where
      Here : Type 0
      Here = (c : Child) → looked t (up e c (front ++ m ∷ []) (λ cs. next (c ∷ cs))) ≡ looks t c (front ++ m ∷ [])
          ++ seen_from (find_last t c front m) (λ x. looked t (next (c ∷ trail t c front) x.dir m x.child))

      on : Here → (o : Option Child) → looked t (there (λ c. up e c (front ++ m ∷ []) (λ cs. next (c ∷ cs))) o)
          ≡ if_there (λ c. looks t c (front ++ m ∷ [])) (λ e. []) o
          ++ seen_from (find_after t m (if_there (λ c. reach t c front) Err o))
          (λ x. looked t (next (if_there (λ c. c ∷ trail t c front) (λ e. []) o) x.dir m x.child))
      on ih None = refl
      on ih (Some c) = ih c

      by : (r : Result Found Errno) → Here → look_of f r ++ seen_from r (λ x. looked t (onward (front ++ m ∷ []) next x.dir f x.child))
          ≡ (look_of f r ++ if_found (λ c. looks t c (front ++ m ∷ [])) (λ e. []) r)
          ++ seen_from (find_after t m (if_found (λ c. reach t c front) Err r))
          (λ x. looked t (next (if_found (λ c. c ∷ trail t c front) (λ e. []) r) x.dir m x.child))
      by (Err e) ih = refl
      by (Ok x) ih = ap (λ p. look_of f (Ok x) ++ looked t p) (onward_up e f front m next x.dir x.child)
          ∙ ap (λ ps. look_of f (Ok x) ++ ps) (on ih x.child)

  pub last_ends : (e : Errno) (front : List (List ℕ)) (m : List ℕ) (next : List Child → Fid → List ℕ → Option Child → Plan)
      → outcome t (to_last e (front ++ m ∷ []) next) ≡ from (find_last t root front m)
      (λ x. outcome t (next (trail t root front) x.dir m x.child))
  unfolding up
  last_ends e [] m next = up_ends e root [] m next
  last_ends e (f ∷ front) m next = up_ends e root (f ∷ front) m next

  pub last_looks : (e : Errno) (front : List (List ℕ)) (m : List ℕ) (next : List Child → Fid → List ℕ → Option Child → Plan)
      → looked t (to_last e (front ++ m ∷ []) next) ≡ looks t root (front ++ m ∷ [])
      ++ seen_from (find_last t root front m) (λ x. looked t (next (trail t root front) x.dir m x.child))
  unfolding up
  last_looks e [] m next = up_looks e root [] m next
  last_looks e (f ∷ front) m next = up_looks e root (f ∷ front) m next

  -- ---- what a walk comes to is the root or has a name

  pub find_is : (at : Child) (n : List ℕ) (x : Found) → find t at n ≡ Ok x → (at ≡ Dir x.dir) × (x.child ≡ child t x.dir n)
  find_is at n x h = by (is_too_long n) at h
    where
      by : (b : Bool) (at : Child) → (if b then Err ENAMETOOLONG else find_in t at n) ≡ Ok x → (at ≡ Dir x.dir)
          × (x.child ≡ child t x.dir n)
      by true at h = absurd (cc)
      by false (File f) h = absurd (cc)
      by false (Dir d) h = let is : record { dir = d; child = child t d n } ≡ x = cc
          in subst (λ (y : Found). (Dir d ≡ Dir y.dir) × (y.child ≡ child t y.dir n)) is (refl, refl)

  pub reach_is : (at : Child) (ns : List (List ℕ)) (c : Child) → IsReached t at → reach t at ns ≡ Ok c → IsReached t c
  reach_is at [] c r h = let is : at ≡ c = cc in subst (IsReached t) is r
  reach_is at (n ∷ ns) c r h = by (find t at n) (λ b. reach_is b ns c) refl h
    where
      Here : Type 0
      Here = (b : Child) → IsReached t b → reach t b ns ≡ Ok c → IsReached t c

      on : Here → (x : Found) (o : Option Child) → child t x.dir n ≡ o → if_there (λ c. reach t c ns) Err o ≡ Ok c → IsReached t c
      on ih x None is h = absurd (cc)
      on ih x (Some b) is h = ih b (inr (x.dir, n, is)) h

      by : (r : Result Found Errno) → Here → find t at n ≡ r → if_found (λ c. reach t c ns) Err r ≡ Ok c → IsReached t c
      by (Err e) ih is h = absurd (cc)
      by (Ok x) ih is h = on ih x x.child (sym (find_is at n x is).1) h

  pub last_is : (front : List (List ℕ)) (m : List ℕ) (x : Found) → find_last t root front m ≡ Ok x → IsReached t (Dir x.dir)
      × (x.child ≡ child t x.dir m)
  last_is front m x h = by (reach t root front) refl h
    where
      by : (r : Result Child Errno) → reach t root front ≡ r → find_after t m r ≡ Ok x → IsReached t (Dir x.dir)
          × (x.child ≡ child t x.dir m)
      by (Err e) is h = absurd (cc)
      by (Ok at) is h = let f = find_is at m x h in (subst (IsReached t) f.0 (reach_is root front at (inl refl) is), f.1)
