-- What holds at the ends of all walks, and of each refusal that can come there, holds of an operation.
use Rattle.std.proofs.Common.{◌≡◌, ℕ, Bool, true, List, [], ◌∷◌, Option, Some, None, refl}
use Rattle.std.proofs.lemmas.Bool.{cond_both}
use Rattle.lu_base.specs.declared.ids.Fid.{Fid}
use Rattle.lu_msg.specs.declared.answers.Answer.TheVariants.{Refused}
use Rattle.lu_msg.specs.declared.answers.Errno.{Errno}
use Rattle.lu_msg.specs.declared.answers.Errno.TheVariants.{ENOENT, EEXIST, ENOTDIR, ENOTEMPTY, ENAMETOOLONG}
use Rattle.lu_spec_machine.specs.declared.child.Child.{Child}
use Rattle.lu_spec_machine.specs.declared.child.Child.TheVariants.{Dir, File}
use Rattle.lu_spec_machine.specs.Name.{is_too_long}
use Rattle.lu_spec_machine.specs.Tree.{Tree, child}
use Rattle.lu_spec_machine.specs.Plan.{Plan, Refuse, Outcome, outcome}
use Rattle.lu_spec_machine.specs.Table.{root, look_in, look, there, absent, walk, onward, walk_up, to_last, if_empty}
use Rattle.lu_spec_machine.specs.Footprint.{Every}

-- a name leads to it
abbrev pub IsNamed : Tree → Child → Type 0
IsNamed t c = (d : Fid) × ((n : List ℕ) × (child t d n ≡ Some c))

module _ (t : Tree) (Q : Outcome → Type 0) (can : Errno → Bool)
    (refused : (e : Errno) → can e ≡ true → Q (record { answer = Refused e; grants = []; changes = [] })) where
  abbrev pub Within : Plan → Type 0
  Within p = Q (outcome t p)

  pub there_within : can ENOENT ≡ true → (next : Child → Plan) (o : Option Child) → ((c : Child) → o ≡ Some c → Within (next c))
      → Within (there next o)
  there_within can_be next None h = refused _ can_be
  there_within can_be next (Some c) h = h c refl

  pub absent_within : can EEXIST ≡ true → (next : Plan) (o : Option Child) → (o ≡ None → Within next) → Within (absent next o)
  absent_within can_be next None h = h refl
  absent_within can_be next (Some c) h = refused _ can_be

  pub if_empty_within : can ENOTEMPTY ≡ true → (names : List (List ℕ)) (next : Plan) → (names ≡ [] → Within next)
      → Within (if_empty names next)
  if_empty_within can_be [] next h = h refl
  if_empty_within can_be (n ∷ ns) next h = refused _ can_be

  module _ (none : can ENOENT ≡ true) (file : can ENOTDIR ≡ true) (long : can ENAMETOOLONG ≡ true) where
    look_in_within : (at : Child) (n : List ℕ) (next : Fid → Option Child → Plan) → ((d : Fid) → Within (next d (child t d n)))
        → Within (look_in at n next)
    look_in_within (File f) n next h = refused _ file
    look_in_within (Dir d) n next h = h d

    look_within : (at : Child) (n : List ℕ) (next : Fid → Option Child → Plan) → ((d : Fid) → Within (next d (child t d n)))
        → Within (look at n next)
    look_within at n next h = cond_both (is_too_long n) (Refuse ENAMETOOLONG) (look_in at n next) Within (λ _. refused _ long)
        (λ _. look_in_within at n next h)

    pub walk_within : (at : Child) (ns : List (List ℕ)) (next : List Child → Plan)
        → ((cs : List Child) → Every (IsNamed t) cs → Within (next cs)) → Within (walk at ns next)
    walk_within at [] next h = h [] tt
    walk_within at (n ∷ ns) next h =
        look_within at n (λ d. there (λ c. walk c ns (λ cs. next (c ∷ cs))))
        (λ d. there_within none (λ c. walk c ns (λ cs. next (c ∷ cs))) (child t d n)
        (λ c is. walk_within c ns (λ cs. next (c ∷ cs)) (λ cs named. h (c ∷ cs) ((d, (n, is)), named))))

    onward_within : (ns : List (List ℕ)) (next : List Child → Fid → List ℕ → Option Child → Plan) (d : Fid) (n : List ℕ)
        → ((cs : List Child) (d : Fid) (m : List ℕ) → Within (next cs d m (child t d m))) → Within (onward ns next d n (child t d n))
    onward_within [] next d n h = h [] d n
    onward_within (m ∷ ns) next d n h =
        there_within none (λ c. look c m (λ e. onward ns (λ cs. next (c ∷ cs)) e m)) (child t d n)
        (λ c is. look_within c m (λ e. onward ns (λ cs. next (c ∷ cs)) e m)
        (λ e. onward_within ns (λ cs. next (c ∷ cs)) e m (λ cs. h (c ∷ cs))))

    pub walk_up_within : (at : Child) (n : List ℕ) (ns : List (List ℕ)) (next : List Child → Fid → List ℕ → Option Child → Plan)
        → ((cs : List Child) (d : Fid) (m : List ℕ) → Within (next cs d m (child t d m))) → Within (walk_up at n ns next)
    walk_up_within at n ns next h = look_within at n (λ d. onward ns next d n) (λ d. onward_within ns next d n h)

    pub to_last_within : (e : Errno) → can e ≡ true → (ns : List (List ℕ)) (next : List Child → Fid → List ℕ → Option Child → Plan)
        → ((cs : List Child) (d : Fid) (m : List ℕ) → Within (next cs d m (child t d m))) → Within (to_last e ns next)
    to_last_within e ok [] next h = refused _ ok
    to_last_within e ok (n ∷ ns) next h = walk_up_within root n ns next h

-- ---- where each refusal will do

abbrev any : Errno → Bool
any e = true

module _ (t : Tree) (Q : Outcome → Type 0) (refused : (e : Errno) → Q (record { answer = Refused e; grants = []; changes = [] })) where
  abbrev pub Holds : Plan → Type 0
  Holds p = Q (outcome t p)

  pub there_ends : (next : Child → Plan) (o : Option Child) → ((c : Child) → o ≡ Some c → Holds (next c)) → Holds (there next o)
  there_ends next o h = there_within t Q any (λ e _. refused e) refl next o h

  pub absent_ends : (next : Plan) (o : Option Child) → (o ≡ None → Holds next) → Holds (absent next o)
  absent_ends next o h = absent_within t Q any (λ e _. refused e) refl next o h

  pub if_empty_ends : (names : List (List ℕ)) (next : Plan) → (names ≡ [] → Holds next) → Holds (if_empty names next)
  if_empty_ends names next h = if_empty_within t Q any (λ e _. refused e) refl names next h

  pub walk_ends : (at : Child) (ns : List (List ℕ)) (next : List Child → Plan)
      → ((cs : List Child) → Every (IsNamed t) cs → Holds (next cs)) → Holds (walk at ns next)
  walk_ends at ns next h = walk_within t Q any (λ e _. refused e) refl refl refl at ns next h

  pub walk_up_ends : (at : Child) (n : List ℕ) (ns : List (List ℕ)) (next : List Child → Fid → List ℕ → Option Child → Plan)
      → ((cs : List Child) (d : Fid) (m : List ℕ) → Holds (next cs d m (child t d m))) → Holds (walk_up at n ns next)
  walk_up_ends at n ns next h = walk_up_within t Q any (λ e _. refused e) refl refl refl at n ns next h

  pub to_last_ends : (e : Errno) (ns : List (List ℕ)) (next : List Child → Fid → List ℕ → Option Child → Plan)
      → ((cs : List Child) (d : Fid) (m : List ℕ) → Holds (next cs d m (child t d m))) → Holds (to_last e ns next)
  to_last_ends e ns next h = to_last_within t Q any (λ e _. refused e) refl refl refl e refl ns next h
