-- Where two parts of a target's contents meet: where they are of one kind and equal; bytes of one object where
-- their ranges meet; and the list of a directory meets each name in it (this project's profile).
use Rattle.std.specs.Prelude.{◌≡◌, Bool, false, ◌&&◌, ◌==◌}
use Rattle.std.specs.Str.{bytes_eq}
use Rattle.lu_part.specs.declared.parts.Part.{Part}
use Rattle.lu_part.specs.declared.parts.Part.TheVariants.{Name, List, Attr, Layout, Parent, Bytes}
use Rattle.lu_lock.specs.Overlap.{extents_meet, ExtentsMeet}

-- Whether they meet.
abbrev pub meets : Part → Part → Bool
meets (Name d n) (Name e m) = d.0 == e.0 && bytes_eq n m
meets (Name d _) (List e) = d.0 == e.0
meets (List d) (Name e _) = d.0 == e.0
meets (List d) (List e) = d.0 == e.0
meets (Attr f) (Attr g) = f.0 == g.0
meets (Layout f) (Layout g) = f.0 == g.0
meets (Parent f) (Parent g) = f.0 == g.0
meets (Bytes f s range) (Bytes g t other) = f.0 == g.0 && s == t && extents_meet range other
meets _ _ = false

-- The same as a fact.
abbrev pub Meets : Part → Part → Type 0
Meets (Name d n) (Name e m) = (d ≡ e) × (n ≡ m)
Meets (Name d _) (List e) = d ≡ e
Meets (List d) (Name e _) = d ≡ e
Meets (List d) (List e) = d ≡ e
Meets (Attr f) (Attr g) = f ≡ g
Meets (Layout f) (Layout g) = f ≡ g
Meets (Parent f) (Parent g) = f ≡ g
Meets (Bytes f s range) (Bytes g t other) = (f ≡ g) × (s ≡ t) × ExtentsMeet range other
Meets _ _ = ⊥
