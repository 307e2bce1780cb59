-- What an inode that loses a name is like once the name is gone, or leads elsewhere.
use Rattle.std.proofs.Common.{◌≡◌, ℕ, false, List, [], ◌∷◌, inl, inr, Some, None, refl, ap, ◌∙◌}
use Rattle.std.specs.Prelude.{if◌then◌else◌}
use Rattle.std.specs.Map.{lookup}
use Rattle.lu_base.specs.declared.ids.Fid.{Fid}
use Rattle.lu_spec_machine.specs.declared.child.Child.{Child}
use Rattle.lu_spec_machine.specs.declared.child.Child.TheVariants.{Dir, File}
use Rattle.lu_spec_machine.specs.Name.{same_name}
use Rattle.lu_spec_machine.specs.Tree.{Tree, Directory, same_fid, child, directory, listing}
use Rattle.lu_spec_machine.specs.Change.{Drops, Leads, change, changed}
use Rattle.lu_spec_machine.specs.Effect.{place_name, without_name}
use Rattle.lu_spec_machine.proofs.Effects.{listing_after}
use Rattle.lu_spec_machine.proofs.Keys.{Told, fid_tells}
use Rattle.lu_tree.specs.Ends.{MayLeave, leaving}
use Rattle.lu_tree.specs.Lives.{IsThere}
use Rattle.lu_tree.proofs.Dirs.{no_keys, still_empty, with_dirs}

pub there_with : (t : Tree) (ds : List (Fid × Directory)) (g : Child) → IsThere t g → IsThere (with_dirs t ds) g
there_with t ds (Dir g) h = h
there_with t ds (File g) h = h

pub leaving_with : (t : Tree) (ds : List (Fid × Directory)) (g : Child) → leaving (with_dirs t ds) g ≡ leaving t g
leaving_with t ds (Dir g) = refl
leaving_with t ds (File g) = refl

-- a directory that has a name isn't empty
not_own : (t : Tree) (e : Fid) (m : List ℕ) (g : Fid) → child t e m ≡ Some (Dir g) → listing t g ≡ [] → same_fid e g ≡ false
not_own t e m g named empty = by (fid_tells e g)
  where
    by : Told same_fid e g → same_fid e g ≡ false
    by (inl h) =
        let none : child t e m ≡ None = ap (λ f. child t f m) h.1 ∙ ap (lookup (same_name m)) (no_keys (directory t g).entries empty) in
        absurd (cc (none, named))
    by (inr h) = h.0

-- what may leave may so once its name is gone
pub may_leave_dropped : (t : Tree) (d : Fid) (n : List ℕ) (g : Child) → MayLeave t g → MayLeave (change t (Drops d n)) g
may_leave_dropped t d n (Dir g) h = still_empty t d n g h
may_leave_dropped t d n (File g) h = tt

pub may_leave_still : (t : Tree) (d : Fid) (n : List ℕ) (e : Fid) (m : List ℕ) (c g : Child) → child t e m ≡ Some g → MayLeave t g
    → MayLeave (changed t (Drops d n ∷ Leads e m c ∷ [])) g
may_leave_still t d n e m c (File g) named h = tt
may_leave_still t d n e m c (Dir g) named h =
    listing_after (change t (Drops d n)) (Leads e m c) g
    ∙ ap (λ v. if v then place_name m (without_name m (listing (change t (Drops d n)) g)) else listing (change t (Drops d n)) g)
    (not_own t e m g named h)
    ∙ still_empty t d n g h
