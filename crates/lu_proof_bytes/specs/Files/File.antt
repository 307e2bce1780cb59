-- A file in stripes, each an object of a target for good (Lustre Operations Manual, striping). Its bytes are kept by stripe
-- and offset, and each call looks at them through the layout that it uses, which may be another at each call: a layout may
-- lack stripes, and have only the first offsets of one (Lustre Operations Manual, composite layouts). Positions of the
-- file, offsets of a stripe's object and sizes are bytes, from 0; stripes are counted from 0. What a write, a cut, a read
-- and a stat mean is that of POSIX.1 (write, ftruncate, read, fstat); but of a change of a life that is evicted some
-- stripes may have their part and others not (this project's profile).
use Rattle.std.specs.Prelude.{◌≡◌, ◌⊎◌, ℕ, zero, suc, ◌+◌, ◌-◌, min, length, Bool, true, false, not, ◌&&◌, nat_eq, nat_lt, if◌then◌else◌}
use Rattle.std.specs.Prelude.{List, [], ◌∷◌, Option, Some, None}
use Rattle.lu_proof_bytes.specs.Object.Words.{Change, Write, Cut, Op, Flush, Call, Did, Entry, Txn, after_at}
use Rattle.lu_proof_bytes.specs.Object.Folds.{also}
use Rattle.lu_proof_bytes.specs.Objects.Words.{Line, Tells, Serve, Close}
use Rattle.lu_proof_bytes.specs.Objects.Only.{only, live}
use Rattle.lu_proof_bytes.specs.Objects.Guards.{LineOk}
use Rattle.lu_proof_bytes.specs.Objects.History.{gone}
use Rattle.lu_proof_bytes.specs.Files.Layouts.{Layout, read_on, IsSizeOn, WideOn, NarrowOn, StatOn}

-- where each stripe of the file lies, whatever the layout: its target and its object; and which stripe an object is, so no
-- two stripes share one
pub record Places : Type 0 where
  pub target : ℕ → ℕ
  pub object : ℕ → ℕ
  pub at : ℕ → ℕ → Option ℕ
  pub at_is : (i : ℕ) → at (target i) (object i) ≡ Some i

-- the byte at this place of a list, from 0; 0 behind its end
abbrev pub nth : List ℕ → ℕ → ℕ
nth [] k = 0
nth (b ∷ bs) zero = b
nth (b ∷ bs) (suc k) = nth bs k

-- of bytes that begin at position `at`, those of m offsets of stripe i from offset q on
abbrev pub run_bytes : Layout → ℕ → ℕ → List ℕ → ℕ → ℕ → List ℕ
run_bytes y i at bs q zero = []
run_bytes y i at bs q (suc m) = nth bs (y.position i q - at) ∷ run_bytes y i at bs (suc q) m

-- of bytes that begin at position `at`, those on stripe i: of its offsets whose positions lie among them, each with the
-- byte there
abbrev pub run : Layout → ℕ → ℕ → List ℕ → List ℕ
run y i at bs = run_bytes y i at bs (y.below i at) (y.below i (at + length bs) - y.below i at)

-- a write of these bytes, or nothing where there are none
abbrev pub written : ℕ → List ℕ → Option Change
written at [] = None
written at (b ∷ bs) = Some (Write at (b ∷ bs))

-- what a change does to a stripe: a write nothing where it doesn't touch it, a cut nothing to one that the layout lacks,
-- and to others a cut to the number of its offsets below the size
abbrev pub part : Layout → ℕ → Change → Option Change
part y i (Write at bs) = written (y.below i at) (run y i at bs)
part y i (Cut n) = if nat_lt i y.stripes then Some (Cut (y.below i n)) else None

-- a change of an object as the call that does it, under the lock of this cookie
abbrev pub did : ℕ → Option Change → Option Call
did k None = None
did k (Some ch) = Some (Did k ch)

-- what a change of the file does to an object, where it is a stripe of the file: its part, under the lock that the call
-- uses there
abbrev pub does_at : Layout → (ℕ → ℕ) → Change → Option ℕ → Option Call
does_at y locks ch None = None
does_at y locks ch (Some i) = did (locks i) (part y i ch)

-- what a change of the file does to object o of target t
abbrev pub does : Places → Layout → (ℕ → ℕ) → Change → ℕ → ℕ → Option Call
does w y locks ch t o = does_at y locks ch (w.at t o)

-- any line of the whole past, or a call on the file through a layout, when it is told to its life: a change, with the
-- cookie of the lock that it uses on each stripe; a read of `count` bytes from position `at`, with what it is told; or a
-- stat, with the size that it is told
pub data Step : Type 0 where
  Own : (line : Line) → Step
  Changes : (layout : Layout) (life : ℕ) (locks : ℕ → ℕ) (change : Change) → Step
  Reads : (layout : Layout) (life : ℕ) (at : ℕ) (count : ℕ) (bytes : List ℕ) → Step
  Stats : (layout : Layout) (life : ℕ) (size : ℕ) → Step

-- the whole past that the steps make: a change is told at once of all stripes, a read and a stat leave no line there
abbrev pub lines : Places → List Step → List Line
lines w [] = []
lines w (Own l ∷ h) = l ∷ lines w h
lines w (Changes y c locks ch ∷ h) = Tells c (does w y locks ch) ∷ lines w h
lines w (Reads y c at n vs ∷ h) = lines w h
lines w (Stats y c z ∷ h) = lines w h

-- the story of a stripe, as that of its object
abbrev pub story : Places → ℕ → List Step → List Entry
story w i h = only (w.target i) (w.object i) (lines w h)

-- an item of the file's history: a change that was told to a life; a piece, what a transaction did to an object; a read,
-- and a stat, with what they were told
pub data Item : Type 0 where
  Made : (layout : Layout) (life : ℕ) (change : Change) → Item
  Piece : (target : ℕ) (object : ℕ) (life : ℕ) (change : Change) → Item
  Read : (layout : Layout) (life : ℕ) (at : ℕ) (count : ℕ) (bytes : List ℕ) → Item
  Stat : (layout : Layout) (life : ℕ) (size : ℕ) → Item

-- what is lost at target t, with what a close of target u lost
abbrev pub lose : (ℕ → ℕ → Bool) → ℕ → (ℕ → Bool) → ℕ → ℕ → Bool
lose lost u l t = if nat_eq t u then also (lost t) l else lost t

-- the items, and before them the piece of a put or a cut
abbrev pub piece : ℕ → ℕ → ℕ → Op → List Item → List Item
piece u q c (Flush k ch) is = Piece u q c ch ∷ is
piece u q c _ is = is

-- the items, and before them the piece of a transaction of a life that is out, unless it is lost
abbrev pub served : (ℕ → Bool) → (ℕ → ℕ → Bool) → ℕ → ℕ → Entry → List Item → List Item
served out lost u q (Txn n r) is = if out r.life && not (lost u n) then piece u q r.life r.op is else is
served out lost u q _ is = is

-- what is lost for the lines before a line, with what it lost if it is a close
abbrev pub lost_at : (ℕ → ℕ → Bool) → Line → ℕ → ℕ → Bool
lost_at lost (Close u l out) = lose lost u l
lost_at lost _ = lost

-- the items, and before them the piece that a line of the past adds
abbrev pub own_items : (ℕ → Bool) → (ℕ → ℕ → Bool) → Line → List Item → List Item
own_items out lost (Serve u q g r e) is = served out lost u q e is
own_items out lost _ is = is

-- the history of the file, the newest item first: `out` says which lives are out, `lost` which transactions of each target
-- are lost, besides those that a close after them lost. A life that isn't out counts with what it was told, one that is out
-- with its transactions that stand
abbrev pub items : (ℕ → Bool) → (ℕ → ℕ → Bool) → List Step → List Item
items out lost [] = []
items out lost (Own l ∷ h) = own_items out lost l (items out (lost_at lost l) h)
items out lost (Changes y c locks ch ∷ h) = if out c then items out lost h else Made y c ch ∷ items out lost h
items out lost (Reads y c at n vs ∷ h) = if out c then items out lost h else Read y c at n vs ∷ items out lost h
items out lost (Stats y c z ∷ h) = if out c then items out lost h else Stat y c z ∷ items out lost h

-- what an object has at an offset after a change of it, if there is one
abbrev pub changed : Option Change → ℕ → Option ℕ → Option ℕ
changed None q x = x
changed (Some ch) q x = after_at ch q x

-- the plain bytes, by stripe and offset: nothing, at first; what was told does to each stripe its part through its own
-- layout, and a piece what it is to the stripe that its object is
abbrev pub bytes : Places → List Item → ℕ → ℕ → Option ℕ
bytes w [] i q = None
bytes w (Made y c ch ∷ is) i q = changed (part y i ch) q (bytes w is i q)
bytes w (Piece t o c ch ∷ is) i q = if nat_eq (w.target i) t && nat_eq (w.object i) o then after_at ch q (bytes w is i q)
    else bytes w is i q
bytes w (Read y c at n vs ∷ is) i q = bytes w is i q
bytes w (Stat y c z ∷ is) i q = bytes w is i q

-- the byte at a position, seen through a layout
abbrev pub seen : Places → Layout → List Item → ℕ → Option ℕ
seen w y is p = bytes w is (y.stripe p) (y.offset p)

-- n bytes from position `at` on through a layout, absent ones as 0
abbrev pub file_read : Places → Layout → List Item → ℕ → ℕ → List ℕ
file_read w y is at n = read_on y (bytes w is) at n

-- the size of the file through a layout, by the sizes of its objects
abbrev pub IsFileSize : Places → Layout → List Item → ℕ → Type 0
IsFileSize w y is z = IsSizeOn y (bytes w is) z

-- each read is told the file's bytes where it stands in the history, up to the file's size, and each stat the size
-- (POSIX.1, read and fstat)
abbrev pub Right : Places → List Item → Type 0
Right w [] = Unit {0}
Right w (Read y c at n vs ∷ is) = ((z : ℕ) × IsFileSize w y is z × (vs ≡ file_read w y is at (min n (z - at)))) × Right w is
Right w (Stat y c z ∷ is) = IsFileSize w y is z × Right w is
Right w (_ ∷ is) = Right w is

-- nothing more is lost than what closes lost
abbrev pub none_lost : ℕ → ℕ → Bool
none_lost t n = false

-- the history of the file is right, where those are out that some target evicted
abbrev pub FileHistory : Places → List Step → Type 0
FileHistory w h = Right w (items (λ c. gone c (lines w h)) none_lost h)

-- what a read and a stat rest on: on what the life knows of each stripe by the story of its object
abbrev pub WideOk : Places → Layout → List Step → (c at n : ℕ) → List ℕ → Type 0
WideOk w y h c at n vs = WideOn (λ i. story w i h) y c at n vs

abbrev pub NarrowOk : Places → Layout → List Step → (c at n : ℕ) → List ℕ → Type 0
NarrowOk w y h c at n vs = NarrowOn (λ i. story w i h) y c at n vs

abbrev pub StatOk : Places → Layout → List Step → (c z : ℕ) → Type 0
StatOk w y h c z = StatOn (λ i. story w i h) y c z

-- a line that tells a call tells of no stripe of this file: calls on the file are steps of their own
abbrev pub Elsewhere : Places → Line → Type 0
Elsewhere w (Tells c d) = (i : ℕ) → d (w.target i) (w.object i) ≡ None
Elsewhere w _ = Unit {0}

-- what each step may rest on, over those before it: a line on what lines rest on; a change as the call that it is, so on a
-- lock for writing over its part on each stripe; a read and a stat, if their life is live at the target of each stripe, on
-- what it knows under its locks
abbrev pub StepOk : Places → List Step → Step → Type 0
StepOk w h (Own l) = LineOk (lines w h) l × Elsewhere w l
StepOk w h (Changes y c locks ch) = LineOk (lines w h) (Tells c (does w y locks ch))
StepOk w h (Reads y c at n vs) = ((i : ℕ) → live (w.target i) c (lines w h) ≡ true) → WideOk w y h c at n vs ⊎ NarrowOk w y h c at n vs
StepOk w h (Stats y c z) = ((i : ℕ) → live (w.target i) c (lines w h) ≡ true) → StatOk w y h c z

-- the steps are allowed: each over those before it
abbrev pub StepsOk : Places → List Step → Type 0
StepsOk w [] = Unit {0}
StepsOk w (s ∷ h) = StepOk w h s × StepsOk w h
