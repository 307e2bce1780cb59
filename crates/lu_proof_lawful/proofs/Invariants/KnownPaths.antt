-- What a fact that a client knows says of a tree; and that where the facts are true, a call that is told by them is told what
-- the table answers, and they are of all that the call's operation looks at.
use Rattle.std.proofs.Common.{◌≡◌, ℕ, Bool, true, false, List, [], ◌∷◌, ◌++◌, ◌⊎◌, inl, inr, ⊎_elim, ◌≤◌, Option, Some, None, refl, sym, ap}
use Rattle.std.proofs.Common.{subst, ◌∙◌}
use Rattle.std.specs.Prelude.{◌&&◌, ◌==◌, if◌then◌else◌, filter}
use Rattle.std.proofs.lemmas.Bool.{and_parts, eqb-true}
use Rattle.lu_base.specs.declared.ids.Cookie.{Cookie}
use Rattle.lu_base.specs.declared.ids.Fid.{Fid}
use Rattle.lu_base.specs.declared.ids.Txn.{Txn}
use Rattle.lu_base.specs.declared.ids.Who.{Who}
use Rattle.lu_layout.specs.Raid0.{Raid0}
use Rattle.lu_part.specs.declared.parts.Part.{Part}
use Rattle.lu_part.specs.declared.parts.Part.TheVariants as part
use Rattle.lu_msg.specs.declared.answers.Answer.{Answer}
use Rattle.lu_msg.specs.declared.answers.Answer.TheVariants as told
use Rattle.lu_msg.specs.declared.answers.Errno.TheVariants.{ENAMETOOLONG}
use Rattle.lu_msg.specs.declared.calls.Call.{Call}
use Rattle.lu_msg.specs.declared.calls.Call.TheVariants as call
use Rattle.lu_msg.specs.declared.operations.Op.{Op}
use Rattle.lu_msg.specs.declared.operations.Op.TheVariants as op
use Rattle.lu_spec_machine.specs.declared.child.Child.{Child}
use Rattle.lu_spec_machine.specs.declared.child.Child.TheVariants.{Dir, File}
use Rattle.lu_spec_machine.specs.Name.{same_name, is_too_long}
use Rattle.lu_spec_machine.specs.Tree.{Tree, fid_of, child, listing, attributes, layout}
use Rattle.lu_spec_machine.specs.Plan.{Plan, Refuse, Outcome, outcome, looked}
use Rattle.lu_spec_machine.specs.Table.{root, look_in, there, walk, last_of, found, row_lookup, row_stat, row_list, row_layout}
use Rattle.lu_spec_machine.specs.Footprint.{answer, touches, inode_of}
use Rattle.lu_spec_machine.specs.Laws.{IsReading}
use Rattle.lu_spec_machine.proofs.Keys.{Told, name_tells}
use Rattle.lu_spec_machine.proofs.Outcomes.{IsReached}
use Rattle.lu_spec_client.specs.Facts as facts
use Rattle.lu_spec_client.specs.Facts.{Fact}
use Rattle.lu_spec_client.specs.Known.{Notes, KnownFile, Found, same_part, is_usable, fact_on, nothing_found, with_cookie, walked}
use Rattle.lu_spec_client.specs.Known.{found_at_path, known_of, known_with, list_at, layout_at, directory_at, file_with, file_facts}
use Rattle.lu_spec_client.specs.Known.{file_at, file_known}
use Rattle.lu_spec_entries.specs.Carried.{HandleFile}
use Rattle.lu_proof_lawful.specs.Covered.Calls.{operation_of}
use Rattle.lu_proof_lawful.specs.Covered.Known.{told_of, known_answer}
use Rattle.lu_proof_lawful.proofs.Preconditions.Guards.{In}
use Rattle.lu_proof_lawful.proofs.Preconditions.Lists.{in_filter, in_left, in_right}
use Rattle.lu_proof_lawful.proofs.Preconditions.ClientLines.{some_is}
use Rattle.lu_proof_lawful.proofs.Preconditions.ClientKnown.{least_in}
use Rattle.lu_proof_lawful.proofs.Invariants.OnNames.{IsPlain}

-- ---- what a fact says

-- it is the root, or a name leads to it in a directory of a number up to the bound
abbrev pub IsPlaced : Tree → ℕ → Child → Type 0
IsPlaced t bound c = (c ≡ root) ⊎ ((d : Fid) × (n : List ℕ) × (child t d n ≡ Some c) × (d.0 ≤ bound))

-- the name leads there; a known name was looked up once, so it isn't too long
abbrev pub TellsName : Tree → Fid → List ℕ → Answer → Type 0
TellsName t d n a = record { to : Child; leads : child t d n ≡ Some to; is : a ≡ found to; short : is_too_long n ≡ false }

-- of a directory that is reached, or of a file
abbrev pub TellsAttr : Tree → ℕ → Fid → Answer → Type 0
TellsAttr t bound f a =
    ((a ≡ told.DirStat f (attributes t (Dir f)).mode) × IsPlaced t bound (Dir f))
    ⊎ ((l : Raid0) × (a ≡ told.FileStat f (attributes t (File f)).mode (attributes t (File f)).links l) × IsPlaced t bound (File f))

-- what stands at the part is what was told
abbrev pub TellsOf : Tree → ℕ → Part → Answer → Type 0
TellsOf t bound (part.Name d n) a = TellsName t d n a
TellsOf t bound (part.List d) a = a ≡ told.Names (listing t d)
TellsOf t bound (part.Attr f) a = TellsAttr t bound f a
TellsOf t bound (part.Layout f) a = a ≡ told.Layout (layout t f)
TellsOf t bound _ a = ⊥

-- and the part is of an inode of a number up to the bound
abbrev pub Tells : Tree → ℕ → Fact → Type 0
Tells t bound f = record { low : (inode_of f.part).0 ≤ bound; is : TellsOf t bound f.part f.answer }

-- what is reached is a directory or a file by its number
abbrev pub OneKind : Tree → Type 0
OneKind t = (c b : Child) → IsReached t c → IsReached t b → fid_of c ≡ fid_of b → c ≡ b

pub placed_reached : (t : Tree) (bound : ℕ) (c : Child) → IsPlaced t bound c → IsReached t c
placed_reached t bound c (inl e) = inl e
placed_reached t bound c (inr p) = inr (p.0, (p.1, p.2))

-- a fact whose lock is held and isn't called back
abbrev pub Usable : Notes → Fact → Type 0
Usable n f = In f n.facts × (is_usable f.cookie n.held ≡ true)

-- a part that such a fact is on
abbrev pub KnownPart : (Fact → Type 0) → Part → Type 0
KnownPart K p = (f : Fact) × K f × (p ≡ f.part)

-- such facts lead by names from one inode to another
abbrev pub LedBy : (Fact → Type 0) → List (List ℕ) → Answer → Answer → Type 0
LedBy K [] a b = a ≡ b
LedBy K (m ∷ ms) (told.Dir d) b = (f : Fact) × K f × (part.Name d m ≡ f.part) × LedBy K ms f.answer b
LedBy K (m ∷ ms) _ b = ⊥

pub led_more : (K L : Fact → Type 0) → ((f : Fact) → K f → L f) → (path : List (List ℕ)) (a b : Answer) → LedBy K path a b
    → LedBy L path a b
led_more K L more [] a b e = e
led_more K L more (m ∷ ms) (told.Dir d) b e = (e.0, more e.0 e.1, e.2, led_more K L more ms e.0.answer b e.3)
led_more K L more (m ∷ ms) a b e = absurd e

-- they lead to a file, and tell its attributes and its layout
pub record FileBy (K : Fact → Type 0) (path : List (List ℕ)) (fid : Fid) (mode links : ℕ) (layout : Raid0) : Type 0 where
  pub inode : Fid
  pub leads : LedBy K path (told.Dir facts.root) (told.File inode)
  pub attr : Fact
  pub attr_is : K attr
  pub attr_part : part.Attr inode ≡ attr.part
  pub old : Raid0
  pub attr_tells : attr.answer ≡ told.FileStat fid mode links old
  pub laid : Fact
  pub laid_is : K laid
  pub laid_part : part.Layout inode ≡ laid.part
  pub laid_tells : laid.answer ≡ told.Layout layout

pub file_more : (K L : Fact → Type 0) → ((f : Fact) → K f → L f) → (path : List (List ℕ)) (fid : Fid) (mode links : ℕ) (layout : Raid0)
    → FileBy K path fid mode links layout → FileBy L path fid mode links layout
file_more K L more path fid mode links layout h =
    record {
      inode = h.inode;
      leads = led_more K L more path (told.Dir facts.root) (told.File h.inode) h.leads;
      attr = h.attr;
      attr_is = more h.attr h.attr_is;
      attr_part = h.attr_part;
      old = h.old;
      attr_tells = h.attr_tells;
      laid = h.laid;
      laid_is = more h.laid h.laid_is;
      laid_part = h.laid_part;
      laid_tells = h.laid_tells;
    }

-- ---- the fact on a part

same_number : (a b : Fid) → (a.0 == b.0) ≡ true → a ≡ b
same_number a b e = ap (λ (n : ℕ). record { 0 = n }) (eqb-true a.0 b.0 e)

name_is : (a b : List ℕ) → same_name a b ≡ true → a ≡ b
name_is a b e = by (name_tells a b)
  where
    by : Told same_name a b → a ≡ b
    by (inl t) = t.1
    by (inr t) = let f = t.0 in absurd (cc)

pub part_is : (p q : Part) → same_part p q ≡ true → p ≡ q
part_is (part.Name d n) (part.Name e m) h =
    let k = and_parts (d.0 == e.0) (same_name n m) h in
    ap (λ (f : Fid). part.Name f n) (same_number d e k.0) ∙ ap (λ (x : List ℕ). part.Name e x) (name_is n m k.1)
part_is (part.List d) (part.List e) h = ap part.List (same_number d e h)
part_is (part.Attr f) (part.Attr g) h = ap part.Attr (same_number f g h)
part_is (part.Layout f) (part.Layout g) h = ap part.Layout (same_number f g h)
part_is p q h = absurd (cc)

pub fact_is : (p : Part) (n : Notes) (f : Fact) → fact_on p n ≡ Some f → Usable n f × (p ≡ f.part)
fact_is p n f e =
    let r = in_filter (λ (g : Fact). same_part p g.part && is_usable g.cookie n.held) f n.facts
    (least_in (filter (λ (g : Fact). same_part p g.part && is_usable g.cookie n.held) n.facts) f e) in
    let b = and_parts (same_part p f.part) (is_usable f.cookie n.held) r.1 in
    ((r.0, b.1), part_is p f.part b.0)

looked_first : {B : Type 0} (K : Fact → Type 0) (name : Part) (f : Fact) → K f → name ≡ f.part → (p : Part) (ps : List Part)
    → In p (name ∷ ps) → (In p ps → KnownPart K p ⊎ B) → KnownPart K p ⊎ B
looked_first K name f u q p ps (inl e) more = inl (f, u, sym e ∙ q)
looked_first K name f u q p ps (inr j) more = more j

-- what comes of the names after one
abbrev pub after_name : Notes → List (List ℕ) → Option Fact → Found
after_name n names o = elim o [ None ↦ nothing_found | Some f ↦ with_cookie f.cookie (walked n names f.answer) ]

-- an answer is what the table gives, and told at once; and each part that the operation looks at is known
abbrev pub Right : Tree → Notes → ℕ → Txn → Who → Op → Answer → Type 0
Right t n osts number who o a =
    record {
      reads : IsReading o;
      plain : IsPlain a;
      same : a ≡ answer osts t (record { number = number; who = who; op = o });
      looks : (p : Part) → In p (touches osts t (record { number = number; who = who; op = o })) → KnownPart (Usable n) p;
    }

found_dir : (d : Fid) (c : Child) → told.Dir d ≡ found c → Dir d ≡ c
found_dir d (Dir e) h = cc
found_dir d (File f) h = absurd (cc)

found_file : (d : Fid) (c : Child) → told.File d ≡ found c → File d ≡ c
found_file d (File e) h = cc
found_file d (Dir f) h = absurd (cc)

found_plain : (c : Child) → IsPlain (found c)
found_plain (Dir d) = tt
found_plain (File f) = tt

-- ---- a path

module _ (t : Tree) (bound : ℕ) (K : Fact → Type 0) (true_all : (f : Fact) → K f → Tells t bound f) where
  fact_tells : (p : Part) (f : Fact) → K f → p ≡ f.part → TellsOf t bound p f.answer
  fact_tells p f k e = subst (λ (q : Part). TellsOf t bound q f.answer) (sym e) (true_all f k).is

  -- the walk comes to what is known, by names that are known
  abbrev pub Comes_to : Child → List (List ℕ) → Answer → Type 0
  Comes_to at path a =
      record {
        to : Child;
        is : a ≡ found to;
        cs : List Child;
        last : last_of at cs ≡ to;
        reached : IsReached t to;
        ends : (next : List Child → Plan) → outcome t (walk at path next) ≡ outcome t (next cs);
        looks : (next : List Child → Plan) (p : Part) → In p (looked t (walk at path next)) → KnownPart K p ⊎ In p (looked t (next cs));
      }

  pub walk_led : (at : Child) (path : List (List ℕ)) (a : Answer) → IsReached t at → LedBy K path (found at) a → Comes_to at path a
  walk_led at [] a r e = record { to = at; is = sym e; cs = []; last = refl; reached = r; ends = λ next. refl; looks = λ next p i. inr i }
  walk_led (File f) (m ∷ ms) a r e = absurd e
  walk_led (Dir d) (m ∷ ms) a r e =
      let f = e.0 in
      let k = fact_tells (part.Name d m) f e.1 e.2 in
      let w = walk_led k.to ms a (inr (d, (m, k.leads))) (subst (λ (x : Answer). LedBy K ms x a) k.is e.3) in
      record {
        to = w.to;
        is = w.is;
        cs = k.to ∷ w.cs;
        last = w.last;
        reached = w.reached;
        ends = λ next.
            ap (λ (b : Bool). outcome t (if b then Refuse ENAMETOOLONG
            else look_in (Dir d) m (λ d. there (λ c. walk c ms (λ cs. next (c ∷ cs)))))) k.short
            ∙ ap (λ (o : Option Child). outcome t (there (λ c. walk c ms (λ cs. next (c ∷ cs))) o)) k.leads
            ∙ w.ends (λ cs. next (k.to ∷ cs));
        looks = λ next p i.
            looked_first K (part.Name d m) f e.1 e.2 p (looked t (walk k.to ms (λ cs. next (k.to ∷ cs))))
            (subst (λ (o : Option Child). In p (part.Name d m ∷ looked t (there (λ c. walk c ms (λ cs. next (c ∷ cs))) o))) k.leads
            (subst (λ (b : Bool). In p (looked t (if b then Refuse ENAMETOOLONG
            else look_in (Dir d) m (λ d. there (λ c. walk c ms (λ cs. next (c ∷ cs))))))) k.short i))
            (λ j. w.looks (λ cs. next (k.to ∷ cs)) p j);
      }

  -- where the row at the end of the path answers that, and looks at what is known
  abbrev pub RightAt : (Answer → Type 0) → Plan → Answer → Type 0
  RightAt P p a = record { plain : P a; same : a ≡ (outcome t p).answer; looks : (q : Part) → In q (looked t p) → KnownPart K q }

  ends_right : (P : Answer → Type 0) (row : List Child → Child → Plan) (path : List (List ℕ)) (b a : Answer) (w : Comes_to root path b)
      → ((cs : List Child) → RightAt P (row cs w.to) a)
      → RightAt P (walk root path (λ cs. row cs (last_of root cs))) a
  ends_right P row path b a w h =
      let r = subst (λ (c : Child). RightAt P (row w.cs c) a) (sym w.last) (h w.cs) in
      record {
        plain = r.plain;
        same = r.same ∙ ap (λ (o : Outcome). o.answer) (sym (w.ends (λ cs. row cs (last_of root cs))));
        looks = λ q i. ⊎_elim (λ (k : KnownPart K q). k) (λ (j : In q (looked t (row w.cs (last_of root w.cs)))). r.looks q j)
            (w.looks (λ cs. row cs (last_of root cs)) q i);
      }

  -- one part is looked at
  one_part : (p : Part) (f : Fact) → K f → p ≡ f.part → (q : Part) → In q (p ∷ []) → KnownPart K q
  one_part p f k e q (inl s) = (f, k, sym s ∙ e)
  one_part p f k e q (inr i) = absurd i

  -- attributes of a directory that is reached are those of a directory, and those of a file are those of a file
  module _ (kinds : OneKind t) where
    of_directory : (d : Fid) (c : Child) (a : Answer) → IsReached t c → Dir d ≡ c → TellsAttr t bound d a → a
        ≡ told.DirStat d (attributes t (Dir d)).mode
    of_directory d c a r s (inl k) = k.0
    of_directory d c a r s (inr k) =
        let b : c ≡ File d = kinds c (File d) r (placed_reached t bound (File d) k.2) (ap fid_of (sym s)) in
        absurd (let x : Dir d ≡ File d = s ∙ b in cc)

    -- where a file's attributes and layout are known, that is what a stat of it is answered
    pub file_right : (path : List (List ℕ)) (fid : Fid) (mode links : ℕ) (laid : Raid0) → FileBy K path fid mode links laid
        → RightAt (λ a. Unit {0}) (walk root path (λ cs. row_stat cs (last_of root cs))) (told.FileStat fid mode links laid)
    file_right path fid mode links laid h =
        let w = walk_led root path (told.File h.inode) (inl refl) h.leads in
        let s = found_file h.inode w.to w.is in
        ends_right (λ a. Unit {0}) row_stat path (told.File h.inode) (told.FileStat fid mode links laid) w
        (λ cs. subst (λ (c : Child). RightAt (λ a. Unit {0}) (row_stat cs c) (told.FileStat fid mode links laid)) s
        (record {
          plain = tt;
          same = stat_is (fact_tells (part.Attr h.inode) h.attr h.attr_is h.attr_part)
              (fact_tells (part.Layout h.inode) h.laid h.laid_is h.laid_part);
          looks = two_parts;
        }))
      where
        two_parts : (q : Part) → In q (part.Attr h.inode ∷ part.Layout h.inode ∷ []) → KnownPart K q
        two_parts q (inl e) = (h.attr, h.attr_is, sym e ∙ h.attr_part)
        two_parts q (inr (inl e)) = (h.laid, h.laid_is, sym e ∙ h.laid_part)
        two_parts q (inr (inr i)) = absurd i

        stat_is : TellsAttr t bound h.inode h.attr.answer → h.laid.answer ≡ told.Layout (layout t h.inode)
            → told.FileStat fid mode links laid ≡ told.FileStat h.inode (attributes t (File h.inode)).mode
            (attributes t (File h.inode)).links (layout t h.inode)
        stat_is (inl k) l = let x = sym h.attr_tells ∙ k.0 in absurd (cc)
        stat_is (inr k) l =
            let x : told.FileStat fid mode links h.old ≡ told.FileStat h.inode (attributes t (File h.inode)).mode
            (attributes t (File h.inode)).links k.0 = sym h.attr_tells ∙ k.1 in
            let y : told.Layout laid ≡ told.Layout (layout t h.inode) = sym h.laid_tells ∙ l in
            cc

-- ---- what a client notes leads by names

module _ (n : Notes) where
  -- by facts that can be used, under these locks
  abbrev pub UsedBy : List Cookie → Fact → Type 0
  UsedBy cookies f = Usable n f × In f.cookie cookies

  pub led_used : (path : List (List ℕ)) (a b : Answer) → (walked n path a).inode ≡ Some b
      → LedBy (UsedBy (walked n path a).cookies) path a b
  led_used [] a b e = some_is a b e
  led_used (m ∷ ms) (told.Dir d) b e = by (fact_on (part.Name d m) n) refl e (λ v. led_used ms v b)
    where
      by : (o : Option Fact) → fact_on (part.Name d m) n ≡ o → (after_name n ms o).inode ≡ Some b
          → ((v : Answer) → (walked n ms v).inode ≡ Some b → LedBy (UsedBy (walked n ms v).cookies) ms v b)
          → LedBy (UsedBy (after_name n ms o).cookies) (m ∷ ms) (told.Dir d) b
      by None q h rest = absurd (cc)
      by (Some f) q h rest =
          let k = fact_is (part.Name d m) n f q in (
            f,
            (k.0, inl refl),
            k.1,
            led_more (UsedBy (walked n ms f.answer).cookies) (UsedBy (f.cookie ∷ (walked n ms f.answer).cookies))
                (λ g u. (u.0, inr u.1)) ms f.answer b (rest f.answer h),
          )
  led_used (m ∷ ms) a b e = absurd (cc)

  led : (path : List (List ℕ)) (a b : Answer) → (walked n path a).inode ≡ Some b → LedBy (Usable n) path a b
  led path a b e = led_more (UsedBy (walked n path a).cookies) (Usable n) (λ f u. u.0) path a b (led_used path a b e)

  -- a file that is known is known under its locks
  pub file_used : (path : List (List ℕ)) (file : KnownFile) → file_known n (found_at_path n path) ≡ Some file
      → FileBy (UsedBy file.cookies) path file.fid file.mode file.links file.layout
  file_used path file e = by (found_at_path n path).inode refl e
    where
      facts_file : (x : Fid) (o u : Option Fact) → fact_on (part.Attr x) n ≡ o → fact_on (part.Layout x) n ≡ u
          → (found_at_path n path).inode ≡ Some (told.File x) → file_facts (found_at_path n path) o u ≡ Some file
          → FileBy (UsedBy file.cookies) path file.fid file.mode file.links file.layout
      facts_file x None u p q i h = absurd (cc)
      facts_file x (Some f) None p q i h = absurd (cc)
      facts_file x (Some f) (Some g) p q i h = told_file f.answer g.answer refl refl h
        where
          told_file : (a l : Answer) → f.answer ≡ a → g.answer ≡ l → file_with (found_at_path n path) f.cookie g.cookie a l ≡ Some file
              → FileBy (UsedBy file.cookies) path file.fid file.mode file.links file.layout
          told_file (told.FileStat fid mode links old) (told.Layout layout) v w h =
              subst (λ (k : KnownFile). FileBy (UsedBy k.cookies) path k.fid k.mode k.links k.layout)
              (some_is (record {
                fid = fid;
                mode = mode;
                links = links;
                layout = layout;
                cookies = (found_at_path n path).cookies
                    ++ f.cookie ∷ g.cookie ∷ [];
              }) file h)
              (let a = fact_is (part.Attr x) n f p in
              let l = fact_is (part.Layout x) n g q in
              let cookies = (found_at_path n path).cookies in
              record {
                inode = x;
                leads = led_more (UsedBy cookies) (UsedBy (cookies ++ f.cookie ∷ g.cookie ∷ []))
                    (λ y u. (u.0, in_left y.cookie cookies (f.cookie ∷ g.cookie ∷ []) u.1))
                    path (told.Dir facts.root) (told.File x) (led_used path (told.Dir facts.root) (told.File x) i);
                attr = f;
                attr_is = (a.0, in_right f.cookie cookies (f.cookie ∷ g.cookie ∷ []) (inl refl));
                attr_part = a.1;
                old = old;
                attr_tells = v;
                laid = g;
                laid_is = (l.0, in_right g.cookie cookies (f.cookie ∷ g.cookie ∷ []) (inr (inl refl)));
                laid_part = l.1;
                laid_tells = w;
              })
          told_file a l v w h = absurd (cc)

      by : (o : Option Answer) → (found_at_path n path).inode ≡ o → file_at n (found_at_path n path) o ≡ Some file
          → FileBy (UsedBy file.cookies) path file.fid file.mode file.links file.layout
      by (Some (told.File x)) i h = facts_file x (fact_on (part.Attr x) n) (fact_on (part.Layout x) n) refl refl i h
      by o i h = absurd (cc)

-- ---- what a call is told

module _ (t : Tree) (bound : ℕ) (n : Notes) (true_all : (f : Fact) → Usable n f → Tells t bound f) where
  abbrev Goes : List (List ℕ) → Answer → Type 0
  Goes path b = Comes_to t bound (Usable n) true_all root path b

  goes : (path : List (List ℕ)) (b : Answer) → (found_at_path n path).inode ≡ Some b → Goes path b
  goes path b e = walk_led t bound (Usable n) true_all root path b (inl refl) (led n path (told.Dir facts.root) b e)

  abbrev RightNow : (List Child → Child → Plan) → List (List ℕ) → Answer → Type 0
  RightNow row path a = RightAt t bound (Usable n) true_all IsPlain (walk root path (λ cs. row cs (last_of root cs))) a

  -- a fact's answer is told
  with_fact : (x : Found) (p : Part) (a : Answer) → told_of (known_with x (fact_on p n)) ≡ Some a → (f : Fact) × (Usable n f × (p ≡ f.part))
      × (f.answer ≡ a)
  with_fact x p a e = by (fact_on p n) refl e
    where
      by : (o : Option Fact) → fact_on p n ≡ o → told_of (known_with x o) ≡ Some a → (f : Fact) × (Usable n f × (p ≡ f.part))
          × (f.answer ≡ a)
      by None q h = absurd (cc)
      by (Some f) q h = (f, fact_is p n f q, some_is f.answer a h)

  lookup_right : (path : List (List ℕ)) (a : Answer) → known_answer n (call.Lookup path) ≡ Some a → RightNow row_lookup path a
  lookup_right path a e = by (found_at_path n path).inode refl e
    where
      by : (o : Option Answer) → (found_at_path n path).inode ≡ o → told_of (known_of (found_at_path n path) o) ≡ Some a
          → RightNow row_lookup path a
      by None q h = absurd (cc)
      by (Some b) q h =
          let w = goes path b q in
          ends_right t bound (Usable n) true_all IsPlain row_lookup path b a w
          (λ cs. record {
            plain = subst IsPlain (sym w.is ∙ some_is b a h) (found_plain w.to);
            same = sym (some_is b a h) ∙ w.is;
            looks = λ p i. absurd i;
          })

  list_right : (path : List (List ℕ)) (a : Answer) → known_answer n (call.List path) ≡ Some a → RightNow row_list path a
  list_right path a e = by (found_at_path n path).inode refl e
    where
      by : (o : Option Answer) → (found_at_path n path).inode ≡ o → told_of (list_at n (found_at_path n path) o) ≡ Some a
          → RightNow row_list path a
      by (Some (told.Dir d)) q h =
          let w = goes path (told.Dir d) q in
          let f = with_fact (found_at_path n path) (part.List d) a h in
          let k = fact_tells t bound (Usable n) true_all (part.List d) f.0 f.1.0 f.1.1 in
          ends_right t bound (Usable n) true_all IsPlain row_list path (told.Dir d) a w
          (λ cs. subst (λ (c : Child). RightAt t bound (Usable n) true_all IsPlain (row_list cs c) a) (found_dir d w.to w.is)
          (record {
            plain = subst IsPlain (sym k ∙ f.2) tt;
            same = sym f.2 ∙ k;
            looks =
                one_part t bound (Usable n) true_all (part.List d) f.0 f.1.0 f.1.1;
          }))
      by o q h = absurd (cc)

  layout_right : (path : List (List ℕ)) (a : Answer) → known_answer n (call.Layout path) ≡ Some a → RightNow row_layout path a
  layout_right path a e = by (found_at_path n path).inode refl e
    where
      by : (o : Option Answer) → (found_at_path n path).inode ≡ o → told_of (layout_at n (found_at_path n path) o) ≡ Some a
          → RightNow row_layout path a
      by (Some (told.File x)) q h =
          let w = goes path (told.File x) q in
          let f = with_fact (found_at_path n path) (part.Layout x) a h in
          let k = fact_tells t bound (Usable n) true_all (part.Layout x) f.0 f.1.0 f.1.1 in
          ends_right t bound (Usable n) true_all IsPlain row_layout path (told.File x) a w
          (λ cs. subst (λ (c : Child). RightAt t bound (Usable n) true_all IsPlain (row_layout cs c) a) (found_file x w.to w.is)
          (record {
            plain = subst IsPlain (sym k ∙ f.2) tt;
            same = sym f.2 ∙ k;
            looks =
                one_part t bound (Usable n) true_all (part.Layout x) f.0 f.1.0 f.1.1;
          }))
      by o q h = absurd (cc)

  module _ (kinds : OneKind t) where
    stat_right : (path : List (List ℕ)) (a : Answer) → known_answer n (call.Stat path) ≡ Some a → RightNow row_stat path a
    stat_right path a e = by (found_at_path n path).inode refl e
      where
        by : (o : Option Answer) → (found_at_path n path).inode ≡ o → told_of (directory_at n (found_at_path n path) o) ≡ Some a
            → RightNow row_stat path a
        by (Some (told.Dir d)) q h =
            let w = goes path (told.Dir d) q in
            let f = with_fact (found_at_path n path) (part.Attr d) a h in
            let s = found_dir d w.to w.is in
            let k = of_directory t bound (Usable n) true_all kinds d w.to f.0.answer w.reached s
            (fact_tells t bound (Usable n) true_all (part.Attr d) f.0 f.1.0 f.1.1) in
            ends_right t bound (Usable n) true_all IsPlain row_stat path (told.Dir d) a w
            (λ cs. subst (λ (c : Child). RightAt t bound (Usable n) true_all IsPlain (row_stat cs c) a) s
            (record {
              plain = subst IsPlain (sym k ∙ f.2) tt;
              same = sym f.2 ∙ k;
              looks =
                  one_part t bound (Usable n) true_all (part.Attr d) f.0 f.1.0 f.1.1;
            }))
        by o q h = absurd (cc)

    pub known_is_right : (osts : ℕ) (number : Txn) (who : Who) (file : Option HandleFile) (k : Call) (o : Op) (a : Answer)
        → known_answer n k ≡ Some a → operation_of file k ≡ Some o → Right t n osts number who o a
    known_is_right osts number who file (call.Lookup path) o a e becomes =
        subst (λ (x : Op). Right t n osts number who x a) (some_is (op.Lookup path) o becomes)
        (let r = lookup_right path a e in record { reads = tt; plain = r.plain; same = r.same; looks = r.looks })
    known_is_right osts number who file (call.List path) o a e becomes =
        subst (λ (x : Op). Right t n osts number who x a) (some_is (op.List path) o becomes)
        (let r = list_right path a e in record { reads = tt; plain = r.plain; same = r.same; looks = r.looks })
    known_is_right osts number who file (call.Layout path) o a e becomes =
        subst (λ (x : Op). Right t n osts number who x a) (some_is (op.Layout path) o becomes)
        (let r = layout_right path a e in record { reads = tt; plain = r.plain; same = r.same; looks = r.looks })
    known_is_right osts number who file (call.Stat path) o a e becomes =
        subst (λ (x : Op). Right t n osts number who x a) (some_is (op.Stat path) o becomes)
        (let r = stat_right path a e in record { reads = tt; plain = r.plain; same = r.same; looks = r.looks })
    known_is_right osts number who file k o a e becomes = absurd (cc)
