-- A rename as two walks to last names.
use Rattle.std.proofs.Common.{◌≡◌, ℕ, List, [], ◌∷◌, ◌++◌, Option, Some, None, Result, Bool, false, length, refl, sym, ap, subst, ◌∙◌}
use Rattle.std.specs.Prelude.{◌==◌, ◌||◌}
use Rattle.std.specs.declared.result.Result.TheVariants.{Ok, Err}
use Rattle.lu_msg.specs.declared.answers.Errno.{Errno}
use Rattle.lu_msg.specs.declared.answers.Errno.TheVariants.{EBUSY}
use Rattle.lu_spec_machine.specs.declared.child.Child.{Child}
use Rattle.lu_spec_machine.specs.declared.child.Child.TheVariants.{Dir}
use Rattle.lu_spec_machine.specs.Table.{root, there, to_last, passes, row_rename, rename}
use Rattle.lu_spec_machine.specs.Tree.{Tree, fid_of, same_fid}
use Rattle.lu_base.specs.declared.ids.Fid.{Fid}
use Rattle.lu_tree.specs.declared.walks.Found.{Found}
use Rattle.lu_tree.specs.Ends.{names_if_there, rename_names}
use Rattle.lu_tree.specs.Walks.{find, if_there, if_found, reach, find_after, find_last, looks, trail}

-- what a name leads to, if it leads anywhere
abbrev pub next_of : Result Found Errno → Option Child
next_of r = if_found Some (λ e. None) r

there_is : (o : Option Child) → o ≡ if_there Some (λ e. None) o
there_is None = refl
there_is (Some c) = refl

pub snoc_some : (front : List (List ℕ)) (n : List ℕ) → front ++ n ∷ [] ≡ [] → ⊥
snoc_some [] n h = absurd (cc)
snoc_some (f ∷ front) n h = absurd (cc)

-- what the test of a list says
pub not_empty : (b : Bool) (ns : List (List ℕ)) → b ≡ (length ns == 0) → b ≡ false → ns ≡ [] → ⊥
not_empty b [] is off e = absurd (cc (sym off ∙ is))
not_empty b (n ∷ ns) is off e = absurd (cc e)

pub rename_is : (old new : List (List ℕ)) → (new ≡ [] → ⊥) → rename old new
    ≡ to_last EBUSY old (λ cs d n. there (λ c. to_last EBUSY new (row_rename d n c)))
rename_is old [] some = absurd (some refl)
rename_is old (m ∷ ms) some = refl

pub names_is : (t : Tree) (old new : List (List ℕ)) → (old ≡ [] → ⊥) → (new ≡ [] → ⊥) → rename_names t old new ≡ looks t root old
    ++ names_if_there t new (reach t root old)
names_is t [] new some more = absurd (some refl)
names_is t (n ∷ ns) [] some more = absurd (more refl)
names_is t (n ∷ ns) (m ∷ ms) some more = refl

-- a step of a walk to an inode that isn't the directory passes what the rest does
pub passes_step : (t : Tree) (at : Child) (n : List ℕ) (ns : List (List ℕ)) (d : Fid) (next : Child) → next_of (find t at n) ≡ Some next
    → same_fid (fid_of next) d ≡ false → passes (Dir d) (trail t at (n ∷ ns)) ≡ passes (Dir d) (trail t next ns)
passes_step t at n ns d next is apart = by (find t at n) is
  where
    on : (o : Option Child) → o ≡ Some next → passes (Dir d) (if_there (λ c. c ∷ trail t c ns) (λ e. []) o)
        ≡ passes (Dir d) (trail t next ns)
    on None p = absurd (cc)
    on (Some c) p =
        let k : next ≡ c = cc in
        subst (λ b. passes (Dir d) (b ∷ trail t b ns) ≡ passes (Dir d) (trail t next ns)) k
        (ap (λ v. v || passes (Dir d) (trail t next ns)) apart)

    by : (r : Result Found Errno) → next_of r ≡ Some next → passes (Dir d) (if_found (λ c. c ∷ trail t c ns) (λ e. []) r)
        ≡ passes (Dir d) (trail t next ns)
    by (Err e) p = absurd (cc)
    by (Ok x) p = on x.child (there_is x.child ∙ p)

-- a whole walk is one to its last name
pub reach_last : (t : Tree) (at : Child) (front : List (List ℕ)) (n : List ℕ) → reach t at (front ++ n ∷ [])
    ≡ if_found Ok Err (find_last t at front n)
reach_last t at [] n = refl
reach_last t at (f ∷ front) n = by (find t at f) (λ c. reach_last t c front n)
  where
    Here : Type 0
    Here = (c : Child) → reach t c (front ++ n ∷ []) ≡ if_found Ok Err (find_last t c front n)

    on : Here → (o : Option Child) → if_there (λ c. reach t c (front ++ n ∷ [])) Err o
        ≡ if_found Ok Err (find_after t n (if_there (λ c. reach t c front) Err o))
    on ih None = refl
    on ih (Some c) = ih c

    by : (r : Result Found Errno) → Here → if_found (λ c. reach t c (front ++ n ∷ [])) Err r
        ≡ if_found Ok Err (find_after t n (if_found (λ c. reach t c front) Err r))
    by (Err e) ih = refl
    by (Ok x) ih = on ih x.child
