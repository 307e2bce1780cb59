-- What a reply taught is known, over facts and held locks of which those on one name agree: where each lock of the reply is held, a walk
-- along
-- its path comes to the inode that it told of. Each fact that a reply teaches is known under one of its locks.
use Rattle.std.proofs.Common.{◌≡◌, ℕ, Bool, true, false, List, [], ◌∷◌, ◌++◌, ◌⊎◌, inl, inr, ⊎_elim, Option, Some, None, refl, sym, subst}
use Rattle.std.proofs.Common.{ap, ◌∙◌}
use Rattle.std.specs.Prelude.{nat_eq, nat_lt, ◌&&◌, if◌then◌else◌, filter}
use Rattle.std.proofs.lemmas.Bool.{cond_both, and_parts}
use Rattle.lu_base.specs.declared.ids.Fid.{Fid}
use Rattle.lu_base.specs.declared.locks.Lock.{Lock}
use Rattle.lu_part.specs.declared.parts.Part.{Part}
use Rattle.lu_part.specs.declared.parts.Part.TheVariants as part
use Rattle.lu_msg.specs.declared.answers.Answer.{Answer}
use Rattle.lu_msg.specs.declared.answers.Answer.TheVariants as told
use Rattle.lu_msg.specs.declared.operations.Op.{Op}
use Rattle.lu_msg.specs.declared.operations.Op.TheVariants as op
use Rattle.lu_spec_machine.specs.Name.{same_name}
use Rattle.lu_spec_machine.proofs.Keys.{name_tells}
use Rattle.lu_spec_client.specs.Facts.{Fact, fact, root, is_one_for_each, name_facts, names_taught, last_of, inode_taught, stat_facts}
use Rattle.lu_spec_client.specs.Facts.{taught}
use Rattle.lu_spec_client.specs.Known.{Notes, same_part, is_usable, lesser, of_least_cookie, fact_on, walked, found_at_path}
use Rattle.lu_proof_lawful.specs.Covered.Makes.{Path}
use Rattle.lu_proof_lawful.proofs.Preconditions.Guards.{In}
use Rattle.lu_proof_lawful.proofs.Preconditions.Lists.{self, in_append, in_left, in_right, in_filter, in_filtered}
use Rattle.lu_proof_lawful.proofs.Invariants.KnownPaths.{Usable, after_name}

-- ---- facts that can be used

-- of one name all that can be used tell the same
abbrev pub Agrees : Notes → Type 0
Agrees n = (d : Fid) (m : List ℕ) (f g : Fact) → Usable n f → Usable n g → same_part (part.Name d m) f.part ≡ true
    → same_part (part.Name d m) g.part ≡ true → f.answer ≡ g.answer

pub least_in : (f : Fact) (facts : List Fact) → of_least_cookie facts ≡ Some f → In f facts
least_in f [] e = absurd (cc)
least_in f (x ∷ facts) e = by (of_least_cookie facts) refl (least_in f facts) e
  where
    by : (o : Option Fact) → of_least_cookie facts ≡ o → (of_least_cookie facts ≡ Some f → In f facts) → Some (lesser x o) ≡ Some f
        → In f (x ∷ facts)
    by None is more e = inl (cc)
    by (Some g) is more e =
        cond_both (nat_lt g.cookie.0 x.cookie.0) g x (λ (v : Fact). Some v ≡ Some f → In f (x ∷ facts))
        (λ t q. let same : g ≡ f = cc in inr (more (is ∙ ap Some same)))
        (λ t q. inl (cc))
        e

pub least_some : (f : Fact) (facts : List Fact) → In f facts → (g : Fact) × (of_least_cookie facts ≡ Some g)
least_some f [] i = absurd i
least_some f (x ∷ facts) i = (lesser x (of_least_cookie facts), refl)

abbrev pub test_on : Part → Notes → Fact → Bool
test_on p n f = same_part p f.part && is_usable f.cookie n.held

-- the fact on a part can be used
pub fact_found : (p : Part) (n : Notes) (f : Fact) → fact_on p n ≡ Some f → Usable n f × (same_part p f.part ≡ true)
fact_found p n f e =
    let i = in_filter (test_on p n) f n.facts (least_in f (filter (test_on p n) n.facts) e) in
    let b = and_parts (same_part p f.part) (is_usable f.cookie n.held) i.1 in
    ((i.0, b.1), b.0)

-- and there is one, where one can be used
pub fact_there : (p : Part) (n : Notes) (f : Fact) → Usable n f → same_part p f.part ≡ true → (g : Fact) × (fact_on p n ≡ Some g)
fact_there p n f u s = least_some f (filter (test_on p n) n.facts)
    (in_filtered (test_on p n) f n.facts u.0 (both (same_part p f.part) (is_usable f.cookie n.held) s u.1))
  where
    both : (a b : Bool) → a ≡ true → b ≡ true → (a && b) ≡ true
    both true true e f = refl
    both true false e f = absurd (cc)
    both false b e f = absurd (cc)

-- a name that is known is known to lead to one inode
pub name_there : (n : Notes) → Agrees n → (d : Fid) (m : List ℕ) (f : Fact) → Usable n f → same_part (part.Name d m) f.part ≡ true
    → (g : Fact) × ((fact_on (part.Name d m) n ≡ Some g) × (g.answer ≡ f.answer))
name_there n a d m f u s =
    let g = fact_there (part.Name d m) n f u s in
    let is = fact_found (part.Name d m) n g.0 g.1 in
    (g.0, (g.1, a d m g.0 f is.0 u is.1 s))

-- ---- a path

abbrev pub LeadsTo : Notes → Path → Answer → Type 0
LeadsTo n path a = (found_at_path n path).inode ≡ Some a

-- ---- what a reply taught is known

abbrev pub AllUsable : Notes → List Fact → Type 0
AllUsable n facts = (f : Fact) → In f facts → Usable n f

pub same_self : (m : List ℕ) → same_name m m ≡ true
same_self m = by (name_tells m m)
  where
    by : ((same_name m m ≡ true) × (m ≡ m)) ⊎ ((same_name m m ≡ false) × (m ≡ m → ⊥)) → same_name m m ≡ true
    by (inl e) = e.0
    by (inr e) = absurd (e.1 refl)

pub same_inode : (d e : Fid) → d ≡ e → nat_eq d.0 e.0 ≡ true
same_inode d e is = ap (λ (v : Fid). nat_eq d.0 v.0) (sym is) ∙ self d.0

pub one_name : (d : Fid) (m : List ℕ) → same_part (part.Name d m) (part.Name d m) ≡ true
one_name d m = ap (λ (b : Bool). b && same_name m m) (self d.0) ∙ same_self m

pub taught_walk : (n : Notes) → Agrees n → (kind : Fid → Answer) (d : Fid) (names : Path) (locks : List Lock) → is_one_for_each names locks
    ≡ true → AllUsable n (name_facts kind d names locks) → (l : Lock) → last_of locks ≡ Some l
    → (walked n names (told.Dir d)).inode ≡ Some (kind l.resource.fid)
taught_walk n agrees kind d [] [] one u l last = absurd (cc)
taught_walk n agrees kind d [] (k ∷ locks) one u l last = absurd (cc)
taught_walk n agrees kind d (m ∷ names) [] one u l last = absurd (cc)
taught_walk n agrees kind d (m ∷ []) (k ∷ []) one u l last =
    let same : k ≡ l = cc in
    let g = name_there n agrees d m (fact (part.Name d m) k (kind k.resource.fid)) (u _ (inl refl)) (one_name d m) in
    subst (λ (o : Option Fact). (after_name n [] o).inode ≡ Some (kind l.resource.fid)) (sym g.1.0)
    (ap Some (g.1.1 ∙ ap (λ (v : Lock). kind v.resource.fid) same))
taught_walk n agrees kind d (m ∷ []) (k ∷ j ∷ locks) one u l last = absurd (cc)
taught_walk n agrees kind d (m ∷ o ∷ names) (k ∷ []) one u l last = absurd (cc)
taught_walk n agrees kind d (m ∷ o ∷ names) (k ∷ j ∷ locks) one u l last =
    let g = name_there n agrees d m (fact (part.Name d m) k (told.Dir k.resource.fid)) (u _ (inl refl)) (one_name d m) in
    let rest = taught_walk n agrees kind k.resource.fid (o ∷ names) (j ∷ locks) one (λ f i. u f (inr i)) l last in
    subst (λ (v : Option Fact). (after_name n (o ∷ names) v).inode ≡ Some (kind l.resource.fid)) (sym g.1.0)
    (subst (λ (v : Answer). (walked n (o ∷ names) v).inode ≡ Some (kind l.resource.fid)) (sym g.1.1) rest)

-- the last lock is on that inode, and each name of the path has one; `/` has one on the root
abbrev pub Led : Path → List Lock → Fid → Type 0
Led [] locks fid = (l : Lock) × ((last_of locks ≡ Some l) × ((l.resource.fid ≡ fid) × (fid ≡ root)))
Led (m ∷ names) locks fid = (l : Lock) × ((last_of locks ≡ Some l) × ((l.resource.fid ≡ fid) × (is_one_for_each (m ∷ names) locks ≡ true)))

-- the locks that come with the answer to a reading
abbrev pub Comes : Op → Answer → List Lock → Type 0
Comes (op.Lookup []) a locks = Unit {0}
Comes (op.Lookup (m ∷ names)) (told.Dir fid) locks = Led (m ∷ names) locks fid
Comes (op.Lookup (m ∷ names)) (told.File fid) locks = Led (m ∷ names) locks fid
Comes (op.Stat path) (told.DirStat fid mode) locks = Led path locks fid
Comes (op.Stat []) (told.FileStat fid mode links layout) locks = ⊥
Comes (op.Stat (m ∷ names)) (told.FileStat fid mode links layout) locks = Led (m ∷ names) locks fid
Comes (op.List path) (told.Names names) locks = (fid : Fid) × Led path locks fid
Comes (op.Layout (m ∷ names)) (told.Layout layout) locks = (fid : Fid) × Led (m ∷ names) locks fid
Comes _ _ _ = ⊥

module _ (n : Notes) (agrees : Agrees n) where
  pub led : (kind : Fid → Answer) (m : List ℕ) (names : Path) (locks : List Lock) (fid : Fid) → Led (m ∷ names) locks fid
      → AllUsable n (names_taught kind (m ∷ names) locks) → LeadsTo n (m ∷ names) (kind fid)
  led kind m names locks fid h u =
      taught_walk n agrees kind root (m ∷ names) locks h.1.1.1
      (subst (λ (b : Bool). AllUsable n (if b then name_facts kind root (m ∷ names) locks else [])) h.1.1.1 u)
      h.0 h.1.0
      ∙ ap (λ (v : Fid). Some (kind v)) h.1.1.0

  pub led_to_directory : (path : Path) (locks : List Lock) (fid : Fid) → Led path locks fid → AllUsable n (names_taught told.Dir path locks)
      → LeadsTo n path (told.Dir fid)
  led_to_directory [] locks fid h u = ap (λ (v : Fid). Some (told.Dir v)) (sym h.1.1.1)
  led_to_directory (m ∷ names) locks fid h u = led told.Dir m names locks fid h u

  pub last_lock : (path : Path) (locks : List Lock) (fid : Fid) → Led path locks fid → (l : Lock)
      × ((last_of locks ≡ Some l) × (l.resource.fid ≡ fid))
  last_lock [] locks fid h = (h.0, (h.1.0, h.1.1.0))
  last_lock (m ∷ names) locks fid h = (h.0, (h.1.0, h.1.1.0))

  -- what is taught of names, and of the last inode
  module _ (names facts : List Fact) (u : AllUsable n (names ++ facts)) where
    pub of_names : AllUsable n names
    of_names f i = u f (in_left f names facts i)

    pub of_last : AllUsable n facts
    of_last f i = u f (in_right f names facts i)

  pub inode_fact : (facts : Lock → List Fact) (locks : List Lock) (l : Lock) → last_of locks ≡ Some l
      → AllUsable n (inode_taught facts (last_of locks)) → AllUsable n (facts l)
  inode_fact facts locks l last u = subst (λ (o : Option Lock). AllUsable n (inode_taught facts o)) last u

-- ---- what an answer teaches is known under its locks

abbrev pub Under : List Lock → List Fact → Type 0
Under locks facts = (f : Fact) → In f facts → (l : Lock) × (In l locks × (f.cookie.0 ≡ l.cookie.0))

pub under_more : (l : Lock) (locks : List Lock) (facts : List Fact) → Under locks facts → Under (l ∷ locks) facts
under_more l locks facts h f i = let r = h f i in (r.0, (inr r.1.0, r.1.1))

pub under_both : (locks : List Lock) (xs ys : List Fact) → Under locks xs → Under locks ys → Under locks (xs ++ ys)
under_both locks xs ys h k f i = ⊎_elim (λ (j : In f xs). h f j) (λ (j : In f ys). k f j) (in_append f xs ys i)

pub under_one : (locks : List Lock) (l : Lock) (x : Fact) (facts : List Fact) → In l locks → x.cookie.0 ≡ l.cookie.0 → Under locks facts
    → Under locks (x ∷ facts)
under_one locks l x facts among is h f (inl e) = (l, (among, ap (λ (v : Fact). v.cookie.0) (sym e) ∙ is))
under_one locks l x facts among is h f (inr i) = h f i

pub names_under : (kind : Fid → Answer) (d : Fid) (names : List (List ℕ)) (locks : List Lock) → Under locks (name_facts kind d names locks)
names_under kind d [] locks f i = absurd i
names_under kind d (m ∷ []) [] f i = absurd i
names_under kind d (m ∷ []) (l ∷ locks) f i = under_one (l ∷ locks) l _ [] (inl refl) refl (λ g j. absurd j) f i
names_under kind d (m ∷ n ∷ names) [] f i = absurd i
names_under kind d (m ∷ n ∷ names) (l ∷ locks) f i =
    under_one (l ∷ locks) l _ (name_facts kind l.resource.fid (n ∷ names) locks) (inl refl) refl
    (under_more l locks (name_facts kind l.resource.fid (n ∷ names) locks) (names_under kind l.resource.fid (n ∷ names) locks)) f i

pub path_under : (kind : Fid → Answer) (path : List (List ℕ)) (locks : List Lock) → Under locks (names_taught kind path locks)
path_under kind path locks = cond_both (is_one_for_each path locks) (name_facts kind root path locks) [] (λ (v : List Fact). Under locks v)
    (λ t. names_under kind root path locks) (λ t f i. absurd i)

pub last_in : (l : Lock) (locks : List Lock) → last_of locks ≡ Some l → In l locks
last_in l [] e = absurd (cc)
last_in l (k ∷ []) e = inl (cc)
last_in l (k ∷ j ∷ locks) e = inr (last_in l (j ∷ locks) e)

pub inode_under : (facts : Lock → List Fact) (locks : List Lock) → ((l : Lock) → In l locks → Under locks (facts l))
    → Under locks (inode_taught facts (last_of locks))
inode_under facts locks h = by (last_of locks) refl
  where
    by : (o : Option Lock) → last_of locks ≡ o → Under locks (inode_taught facts o)
    by None e = λ f i. absurd i
    by (Some l) e = h l (last_in l locks e)

abbrev pub one_fact : (Lock → Fact) → Lock → List Fact
one_fact make l = make l ∷ []

pub one_under : (make : Lock → Fact) (locks : List Lock) → ((l : Lock) → (make l).cookie.0 ≡ l.cookie.0)
    → Under locks (inode_taught (one_fact make) (last_of locks))
one_under make locks is = inode_under (one_fact make) locks (λ l i. under_one locks l (make l) [] i (is l) (λ g j. absurd j))

pub taught_under : (o : Op) (a : Answer) (locks : List Lock) → Under locks (taught o a locks)
taught_under (op.Lookup path) (told.Dir fid) locks = path_under told.Dir path locks
taught_under (op.Lookup path) (told.File fid) locks = path_under told.File path locks
taught_under (op.Stat path) (told.DirStat fid mode) locks =
    under_both locks (names_taught told.Dir path locks) _ (path_under told.Dir path locks) (one_under _ locks (λ l. refl))
taught_under (op.Stat path) (told.FileStat fid mode links layout) locks =
    under_both locks (names_taught told.File path locks) _ (path_under told.File path locks)
    (inode_under (stat_facts fid (told.FileStat fid mode links layout) layout) locks
    (λ l i. under_one locks l _ (_ ∷ []) i refl (under_one locks l _ [] i refl (λ g j. absurd j))))
taught_under (op.List path) (told.Names names) locks =
    under_both locks (names_taught told.Dir path locks) _ (path_under told.Dir path locks) (one_under _ locks (λ l. refl))
taught_under (op.Layout path) (told.Layout layout) locks =
    under_both locks (names_taught told.File path locks) _ (path_under told.File path locks) (one_under _ locks (λ l. refl))
taught_under o a locks = λ f i. absurd i
