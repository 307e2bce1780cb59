-- What a change makes of what stood at a part: nothing else of the tree decides it.
use Rattle.std.specs.Prelude.{ℕ, not, List, [], ◌∷◌, Option, Some, None, ◌&&◌, if◌then◌else◌}
use Rattle.std.specs.List.{filter}
use Rattle.std.specs.Ordering.{is_lt}
use Rattle.lu_base.specs.declared.ids.Fid.{Fid}
use Rattle.lu_layout.specs.Raid0.{Raid0}
use Rattle.lu_spec_machine.specs.declared.child.Child.{Child}
use Rattle.lu_spec_machine.specs.declared.child.Child.TheVariants.{Dir, File}
use Rattle.lu_spec_machine.specs.Name.{same_name, name_cmp}
use Rattle.lu_spec_machine.specs.Tree.{Attributes, same_fid}
use Rattle.lu_spec_machine.specs.Change.{Change, Leads, Drops, MakesDir, MakesFile, SetMode, SetLinks, Leaves}

abbrev pub without_name : List ℕ → List (List ℕ) → List (List ℕ)
without_name n names = filter (λ m. not (same_name n m)) names

abbrev pub place_name : List ℕ → List (List ℕ) → List (List ℕ)
place_name n [] = n ∷ []
place_name n (m ∷ ms) = if is_lt (name_cmp n m) then n ∷ m ∷ ms else m ∷ place_name n ms

abbrev pub on_name : Change → Fid → List ℕ → Option Child → Option Child
on_name (Leads d n c) e m o = if same_fid d e && same_name n m then Some c else o
on_name (Drops d n) e m o = if same_fid d e && same_name n m then None else o
on_name (MakesDir d) e m o = if same_fid d e then None else o
on_name _ e m o = o

abbrev pub on_listing : Change → Fid → List (List ℕ) → List (List ℕ)
on_listing (Leads d n c) e names = if same_fid d e then place_name n (without_name n names) else names
on_listing (Drops d n) e names = if same_fid d e then without_name n names else names
on_listing (MakesDir d) e names = if same_fid d e then [] else names
on_listing _ e names = names

abbrev pub on_attributes : Change → Child → Attributes → Attributes
on_attributes (MakesDir d) (Dir e) a = if same_fid d e then record { mode = 493; links = 0 } else a
on_attributes (MakesFile f l) (File g) a = if same_fid f g then record { mode = 420; links = 1 } else a
on_attributes (SetMode (Dir d) m) (Dir e) a = if same_fid d e then record { mode = m; links = a.links } else a
on_attributes (SetMode (File f) m) (File g) a = if same_fid f g then record { mode = m; links = a.links } else a
on_attributes (SetLinks f k) (File g) a = if same_fid f g then record { mode = a.mode; links = k } else a
on_attributes (Leaves d) (Dir e) a = if same_fid d e then record { mode = 0; links = 0 } else a
on_attributes _ c a = a

abbrev pub on_layout : Change → Fid → Raid0 → Raid0
on_layout (MakesFile f l) g x = if same_fid f g then l else x
on_layout _ g x = x
