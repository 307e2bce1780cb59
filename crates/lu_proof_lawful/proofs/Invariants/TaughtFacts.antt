-- What a reply to a reading teaches is true of the tree that it was answered in, and each fact lies under the lock that it
-- belongs to; it is of a part that the operation looked at.
use Rattle.std.proofs.Common.{◌≡◌, ℕ, suc, ◌+◌, ◌≤◌, Bool, true, false, List, [], ◌∷◌, ◌++◌, ◌⊎◌, inl, inr, ⊎_elim, Option, Some, None}
use Rattle.std.proofs.Common.{refl, sym, ap, subst, ◌∙◌}
use Rattle.std.specs.Prelude.{if◌then◌else◌}
use Rattle.std.proofs.lemmas.Bool.{cond_both}
use Rattle.lu_base.specs.declared.ids.Fid.{Fid}
use Rattle.lu_base.specs.declared.ids.Txn.{Txn}
use Rattle.lu_base.specs.declared.ids.Who.{Who}
use Rattle.lu_base.specs.declared.locks.Lock.{Lock}
use Rattle.lu_base.specs.declared.locks.Resource.{Resource}
use Rattle.lu_base.specs.declared.locks.Mode.TheVariants.{PR}
use Rattle.lu_base.specs.declared.locks.Policy.TheVariants.{Bits}
use Rattle.lu_lock.specs.Overlap.{bits_meet}
use Rattle.lu_part.specs.declared.bits.TheConstants.{LOOKUP, UPDATE, LAYOUT}
use Rattle.lu_part.specs.declared.parts.Part.{Part}
use Rattle.lu_part.specs.declared.parts.Part.TheVariants as part
use Rattle.lu_msg.specs.declared.answers.Answer.{Answer}
use Rattle.lu_msg.specs.declared.answers.Answer.TheVariants as told
use Rattle.lu_msg.specs.declared.answers.Errno.{Errno}
use Rattle.lu_msg.specs.declared.answers.Errno.TheVariants.{ENAMETOOLONG, ENOTDIR, ENOENT}
use Rattle.lu_msg.specs.declared.operations.Op.{Op}
use Rattle.lu_msg.specs.declared.operations.Op.TheVariants as op
use Rattle.lu_spec_machine.specs.declared.child.Child.{Child}
use Rattle.lu_spec_machine.specs.declared.child.Child.TheVariants.{Dir, File}
use Rattle.lu_spec_machine.specs.Name.{is_too_long}
use Rattle.lu_spec_machine.specs.Tree.{Tree, fid_of, child, listing, attributes, layout}
use Rattle.lu_spec_machine.specs.Plan.{Plan, Refuse, Outcome, outcome, looked}
use Rattle.lu_spec_machine.specs.Table.{root, look_in, there, walk, last_of, wants, found, row_lookup, row_stat, row_list, row_layout}
use Rattle.lu_spec_machine.specs.Footprint.{Operation, touches, outcome_of, inode_of, Every}
use Rattle.lu_spec_machine.proofs.Paths.{Steps}
use Rattle.lu_spec_client.specs.Facts as facts
use Rattle.lu_spec_client.specs.Facts.{Fact, fact, is_one_for_each, name_facts, names_taught, inode_taught, taught}
use Rattle.lu_spec_target.specs.Names.{locks_from}
use Rattle.lu_proof_lawful.proofs.Preconditions.Guards.{In}
use Rattle.lu_proof_lawful.proofs.Preconditions.Lists.{in_append, in_left, in_right}
use Rattle.lu_proof_lawful.proofs.Preconditions.ClientLines.{some_is}
use Rattle.lu_proof_lawful.proofs.Invariants.KnownPaths.{IsPlaced, Tells, TellsOf}

-- ---- the lock that a fact lies under

-- a lock on names of that inode, with that bit
abbrev pub Guards : Lock → Fid → ℕ → Type 0
Guards l f bit = record {
  resource : l.resource ≡ record { fid = f; stripe = 0 };
  bits : ℕ;
  policy : l.ask.policy ≡ Bits bits;
  has : bits_meet bits bit ≡ true;
}

-- of a name, the inode that it leads to; of attributes, that inode, and where it stands: the root stands for good
abbrev pub LiesOn : Lock → Part → Answer → Type 0
LiesOn l (part.Name d n) a = (c : Child) × (a ≡ found c) × Guards l (fid_of c) LOOKUP
LiesOn l (part.List d) a = Guards l d UPDATE
LiesOn l (part.Attr f) a = Guards l f UPDATE × ((f ≡ fid_of root) ⊎ Guards l f LOOKUP)
LiesOn l (part.Layout f) a = Guards l f LAYOUT
LiesOn l _ a = ⊥

abbrev pub Lies : Lock → Fact → Type 0
Lies l f = LiesOn l f.part f.answer

-- ---- a walk that isn't refused

abbrev pub NotRefused : Outcome → Type 0
NotRefused o = (e : Errno) → o.answer ≡ told.Refused e → ⊥

-- the names that it looks at
abbrev pub parts_on : List (List ℕ) → List Child → Child → List Part
parts_on [] cs at = []
parts_on (n ∷ ns) [] at = []
parts_on (n ∷ ns) (c ∷ cs) at = part.Name (fid_of at) n ∷ parts_on ns cs c

module _ (t : Tree) where
  abbrev pub Walked : Child → List (List ℕ) → (List Child → Plan) → Type 0
  Walked at path next =
      record {
        cs : List Child;
        steps : Steps t at path cs;
        short : Every (λ n. is_too_long n ≡ false) path;
        ends : outcome t (walk at path next) ≡ outcome t (next cs);
        looks : looked t (walk at path next) ≡ parts_on path cs at ++ looked t (next cs);
      }

  pub walked : (at : Child) (path : List (List ℕ)) (next : List Child → Plan) → NotRefused (outcome t (walk at path next))
      → Walked at path next
  walked at [] next h = record { cs = []; steps = tt; short = tt; ends = refl; looks = refl }
  walked (File f) (n ∷ ns) next h = long (is_too_long n) h
    where
      long : (b : Bool) → NotRefused (outcome t (if b then Refuse ENAMETOOLONG else Refuse ENOTDIR)) → Walked (File f) (n ∷ ns) next
      long true h = absurd (h ENAMETOOLONG refl)
      long false h = absurd (h ENOTDIR refl)
  walked (Dir d) (n ∷ ns) next h = long (is_too_long n) refl h (λ c. walked c ns (λ cs. next (c ∷ cs)))
    where
      on : (o : Option Child) → child t d n ≡ o → is_too_long n ≡ false
          → NotRefused (outcome t (there (λ c. walk c ns (λ cs. next (c ∷ cs))) o))
          → ((c : Child) → NotRefused (outcome t (walk c ns (λ cs. next (c ∷ cs)))) → Walked c ns (λ cs. next (c ∷ cs)))
          → Walked (Dir d) (n ∷ ns) next
      on None e l h ih = absurd (h ENOENT refl)
      on (Some c) e l h ih =
          let w = ih c h in
          record {
            cs = c ∷ w.cs;
            steps = (e, w.steps);
            short = (l, w.short);
            ends =
                ap (λ (b : Bool). outcome t (if b then Refuse ENAMETOOLONG
                else look_in (Dir d) n (λ d. there (λ c. walk c ns (λ cs. next (c ∷ cs)))))) l
                ∙ ap (λ (o : Option Child). outcome t (there (λ c. walk c ns (λ cs. next (c ∷ cs))) o)) e ∙ w.ends;
            looks =
                ap (λ (b : Bool). looked t (if b then Refuse ENAMETOOLONG
                else look_in (Dir d) n (λ d. there (λ c. walk c ns (λ cs. next (c ∷ cs)))))) l
                ∙ ap (λ (o : Option Child). part.Name d n ∷ looked t (there (λ c. walk c ns (λ cs. next (c ∷ cs))) o)) e
                ∙ ap (λ (ps : List Part). part.Name d n ∷ ps) w.looks;
          }

      long : (b : Bool) → is_too_long n ≡ b → NotRefused (outcome t
          (if b then Refuse ENAMETOOLONG else look_in (Dir d) n (λ d. there (λ c. walk c ns (λ cs. next (c ∷ cs))))))
          → ((c : Child) → NotRefused (outcome t (walk c ns (λ cs. next (c ∷ cs)))) → Walked c ns (λ cs. next (c ∷ cs)))
          → Walked (Dir d) (n ∷ ns) next
      long true e h ih = absurd (h ENAMETOOLONG refl)
      long false e h ih = on (child t d n) refl e h ih

-- ---- what is taught

-- a lock of the list that it lies under
abbrev pub UnderOne : List Lock → Fact → Type 0
UnderOne locks f = record { lock : Lock; among : In lock locks; cookie : lock.cookie ≡ f.cookie; lies : Lies lock f }

module _ (t : Tree) (bound : ℕ) (least : 1 ≤ bound) (low : (d : Fid) (n : List ℕ) (c : Child) → child t d n ≡ Some c → (fid_of c).0 ≤ bound)
    (who : Who) where
  -- what stands there: the root, or what a name leads to that was looked at
  abbrev pub SeenPlace : List Part → Child → Type 0
  SeenPlace parts c = (c ≡ root) ⊎ ((d : Fid) × (n : List ℕ) × (child t d n ≡ Some c) × (d.0 ≤ bound) × In (part.Name d n) parts)

  -- what attributes are of is seen in its place
  abbrev pub PlaceOf : List Part → Part → Type 0
  PlaceOf parts (part.Attr f) = (c : Child) × (fid_of c ≡ f) × SeenPlace parts c
  PlaceOf parts _ = Unit {0}

  abbrev pub IsTaught : List Part → List Lock → Fact → Type 0
  IsTaught parts locks f = record {
    tells : Tells t bound f;
    under : UnderOne locks f;
    touched : In f.part parts;
    place : PlaceOf parts f.part;
  }

  seen_place_more : (parts more : List Part) → ((q : Part) → In q parts → In q more) → (c : Child) → SeenPlace parts c → SeenPlace more c
  seen_place_more parts more up c (inl e) = inl e
  seen_place_more parts more up c (inr p) = inr (p.0, p.1, p.2, p.3, up (part.Name p.0 p.1) p.4)

  place_more : (parts more : List Part) → ((q : Part) → In q parts → In q more) → (p : Part) → PlaceOf parts p → PlaceOf more p
  place_more parts more up (part.Attr f) k = (k.0, k.1, seen_place_more parts more up k.0 k.2)
  place_more parts more up (part.Name d n) k = tt
  place_more parts more up (part.List d) k = tt
  place_more parts more up (part.Layout f) k = tt
  place_more parts more up (part.Parent f) k = tt
  place_more parts more up (part.Bytes f stripe extent) k = tt

  taught_more : (p : Part) (parts : List Part) (l : Lock) (locks : List Lock) (f : Fact) → IsTaught parts locks f
      → IsTaught (p ∷ parts) (l ∷ locks) f
  taught_more p parts l locks f k = record {
    tells = k.tells;
    under =
        record { lock = k.under.lock; among = inr k.under.among; cookie = k.under.cookie; lies = k.under.lies };
    touched = inr k.touched;
    place = place_more parts (p ∷ parts) (λ q i. inr i) f.part k.place;
  }

  -- of the first name of a path
  name_taught : (more cookie : ℕ) (d : Fid) (n : List ℕ) (c : Child) (bits : ℕ) (a : Answer) (parts : List Part) (locks : List Lock)
      (f : Fact) → bits_meet bits LOOKUP ≡ true → d.0 ≤ bound → child t d n ≡ Some c → is_too_long n ≡ false
      → a ≡ found c → fact (part.Name d n) (record {
        cookie = record { 0 = cookie + 1 };
        resource = record { fid = fid_of c; stripe = 0 };
        ask = record { who = who; mode = PR; policy = Bits bits };
      }) a ≡ f
      → IsTaught (part.Name d n ∷ parts) (record {
        cookie = record { 0 = cookie + 1 };
        resource = record { fid = fid_of c; stripe = 0 };
        ask = record { who = who; mode = PR; policy = Bits bits };
      } ∷ locks) f
  name_taught more cookie d n c bits a parts locks f has le leads short is e =
      let l : Lock = record {
        cookie = record { 0 = cookie + 1 };
        resource = record { fid = fid_of c; stripe = 0 };
        ask =
            record { who = who; mode = PR; policy = Bits bits };
      } in
      subst (IsTaught (part.Name d n ∷ parts) (l ∷ locks)) e
      (record {
        tells = record { low = le; is = record { to = c; leads = leads; is = is; short = short } };
        under = record {
          lock = l;
          among = inl refl;
          cookie = refl;
          lies =
              (c, is, record { resource = refl; bits = bits; policy = refl; has = has });
        };
        touched = inl refl;
        place = tt;
      })

  names_right : (kind : Fid → Answer) (more : ℕ) → bits_meet (LOOKUP + more) LOOKUP ≡ true
      → (path : List (List ℕ)) (cookie : ℕ) (d : Fid) (cs : List Child) → d.0 ≤ bound → Steps t (Dir d) path cs
      → Every (λ n. is_too_long n ≡ false) path
      → kind (fid_of (last_of (Dir d) cs)) ≡ found (last_of (Dir d) cs)
      → (f : Fact) → In f (name_facts kind d path (locks_from cookie who (wants more cs)))
      → IsTaught (parts_on path cs (Dir d)) (locks_from cookie who (wants more cs)) f
  names_right kind more has [] cookie d cs le s short k f i = absurd i
  names_right kind more has (n ∷ []) cookie d [] le s short k f i = absurd s
  names_right kind more has (n ∷ []) cookie d (c ∷ []) le s short k f (inl e) =
      name_taught more cookie d n c (LOOKUP + more) (kind (fid_of c)) [] [] f has le s.0 short.0 k e
  names_right kind more has (n ∷ []) cookie d (c ∷ []) le s short k f (inr i) = absurd i
  names_right kind more has (n ∷ []) cookie d (c ∷ b ∷ cs) le s short k f i = absurd s.1
  names_right kind more has (n ∷ m ∷ ms) cookie d [] le s short k f i = absurd s
  names_right kind more has (n ∷ m ∷ ms) cookie d (Dir x ∷ []) le s short k f i = absurd s.1
  names_right kind more has (n ∷ m ∷ ms) cookie d (File x ∷ []) le s short k f i = absurd s.1
  names_right kind more has (n ∷ m ∷ ms) cookie d (File x ∷ b ∷ cs) le s short k f i = absurd s.1
  names_right kind more has (n ∷ m ∷ ms) cookie d (Dir x ∷ b ∷ cs) le s short k f (inl e) =
      name_taught more cookie d n (Dir x) LOOKUP (told.Dir x) (parts_on (m ∷ ms) (b ∷ cs) (Dir x))
      (locks_from (cookie + 1) who (wants more (b ∷ cs))) f refl le s.0 short.0 refl e
  names_right kind more has (n ∷ m ∷ ms) cookie d (Dir x ∷ b ∷ cs) le s short k f (inr i) =
      taught_more (part.Name d n) (parts_on (m ∷ ms) (b ∷ cs) (Dir x)) _ (locks_from (cookie + 1) who (wants more (b ∷ cs))) f
      (names_right kind more has (m ∷ ms) (cookie + 1) x (b ∷ cs) (low d n (Dir x) s.0) s.1 short.1 k f i)

  -- ---- under the last lock

  -- the lock on the inode that a path leads to: with LOOKUP, or on the root
  abbrev Last : List Lock → Fid → ℕ → Type 0
  Last locks f bit = record {
    lock : Lock;
    is : facts.last_of locks ≡ Some lock;
    among : In lock locks;
    has : Guards lock f bit;
    place : (f ≡ fid_of root) ⊎ Guards lock f LOOKUP;
  }

  last_more : (l : Lock) (k : Lock) (locks : List Lock) (f : Fid) (bit : ℕ) → Last (k ∷ locks) f bit → Last (l ∷ k ∷ locks) f bit
  last_more l k locks f bit h = record { lock = h.lock; is = h.is; among = inr h.among; has = h.has; place = h.place }

  last_lock : (m bit : ℕ) → bits_meet (suc m) bit ≡ true → bits_meet (LOOKUP + suc m) bit ≡ true → bits_meet (LOOKUP + suc m) LOOKUP ≡ true
      → (cookie : ℕ) (cs : List Child) → Last (locks_from cookie who (wants (suc m) cs)) (fid_of (last_of root cs)) bit
  last_lock m bit x y z cookie [] =
      record {
        lock = record {
          cookie = record { 0 = cookie + 1 };
          resource = record { fid = fid_of root; stripe = 0 };
          ask =
              record { who = who; mode = PR; policy = Bits (suc m) };
        };
        is = refl;
        among = inl refl;
        has = record { resource = refl; bits = suc m; policy = refl; has = x };
        place = inl refl;
      }
  last_lock m bit x y z cookie (c ∷ cs) = go cookie c cs
    where
      go : (cookie : ℕ) (c : Child) (cs : List Child) → Last (locks_from cookie who (wants (suc m) (c ∷ cs))) (fid_of (last_of c cs)) bit
      go cookie c [] =
          record {
            lock = record {
              cookie = record { 0 = cookie + 1 };
              resource = record { fid = fid_of c; stripe = 0 };
              ask =
                  record { who = who; mode = PR; policy = Bits (LOOKUP + suc m) };
            };
            is = refl;
            among = inl refl;
            has = record { resource = refl; bits = LOOKUP + suc m; policy = refl; has = y };
            place = inr (record { resource = refl; bits = LOOKUP + suc m; policy = refl; has = z });
          }
      go cookie c (b ∷ []) = let k = go (cookie + 1) b [] in record
          { lock = k.lock; is = k.is; among = inr k.among; has = k.has; place = k.place }
      go cookie c (b ∷ a ∷ cs) = let k = go (cookie + 1) b (a ∷ cs)
          in record { lock = k.lock; is = k.is; among = inr k.among; has = k.has; place = k.place }

  -- ---- each reading

  placed : (at : Child) (path : List (List ℕ)) (cs : List Child) → (fid_of at).0 ≤ bound → IsPlaced t bound at → Steps t at path cs
      → IsPlaced t bound (last_of at cs) × ((fid_of (last_of at cs)).0 ≤ bound)
  placed at [] [] le p s = (p, le)
  placed at [] (c ∷ cs) le p s = absurd s
  placed (Dir d) (n ∷ ns) [] le p s = absurd s
  placed (Dir d) (n ∷ ns) (c ∷ cs) le p s = placed c ns cs (low d n c s.0) (inr (d, n, s.0, le)) s.1
  placed (File f) (n ∷ ns) cs le p s = absurd s

  -- the end of a path is seen in its place
  place_seen : (parts : List Part) (at : Child) (path : List (List ℕ)) (cs : List Child) → (fid_of at).0 ≤ bound
      → ((q : Part) → In q (parts_on path cs at) → In q parts) → SeenPlace parts at → Steps t at path cs → SeenPlace parts (last_of at cs)
  place_seen parts at [] [] le up p s = p
  place_seen parts at [] (c ∷ cs) le up p s = absurd s
  place_seen parts (Dir d) (n ∷ ns) [] le up p s = absurd s
  place_seen parts (Dir d) (n ∷ ns) (c ∷ cs) le up p s = place_seen parts c ns cs (low d n c s.0) (λ q i. up q (inr i))
      (inr (d, n, s.0, le, up (part.Name d n) (inl refl))) s.1
  place_seen parts (File f) (n ∷ ns) cs le up p s = absurd s

  -- what an outcome teaches
  abbrev pub Teaches : Op → List Part → Outcome → Type 0
  Teaches o parts r = (cookie : ℕ) (f : Fact) → In f (taught o r.answer (locks_from cookie who r.grants))
      → IsTaught parts (locks_from cookie who r.grants) f

  -- by names, or of the inode at the end of the path
  either : (kind : Fid → Answer) (path : List (List ℕ)) (locks : List Lock) (more : Lock → List Fact) (l : Lock) (parts : List Part)
      (f : Fact) → facts.last_of locks ≡ Some l → ((f : Fact) → In f (name_facts kind facts.root path locks) → IsTaught parts locks f)
      → ((f : Fact) → In f (more l) → IsTaught parts locks f) → In f
      (names_taught kind path locks ++ inode_taught more (facts.last_of locks)) → IsTaught parts locks f
  either kind path locks more l parts f is names own i =
      ⊎_elim
      (λ (j : In f (names_taught kind path locks)). cond_both (is_one_for_each path locks) (name_facts kind facts.root path locks) []
      (λ (fs : List Fact). In f fs → IsTaught parts locks f) (λ _ k. names f k) (λ _ k. absurd k) j)
      (λ (j : In f (inode_taught more (facts.last_of locks))). own f (subst (λ (o : Option Lock). In f (inode_taught more o)) is j))
      (in_append f (names_taught kind path locks) (inode_taught more (facts.last_of locks)) i)

  one : {A : Type 0} {x y : Fact} → (x ≡ y → A) → In y (x ∷ []) → A
  one h (inl e) = h e
  one h (inr i) = absurd i

  two : {A : Type 0} {x z y : Fact} → (x ≡ y → A) → (z ≡ y → A) → In y (x ∷ z ∷ []) → A
  two h k (inl e) = h e
  two h k (inr (inl e)) = k e
  two h k (inr (inr i)) = absurd i

  module _ (osts : ℕ) (number : Txn) where
    abbrev act : Op → Operation
    act o = record { number = number; who = who; op = o }

    -- a row whose answer teaches: the walk comes to its end
    of_row : (o : Op) (row : List Child → Child → Plan) (path : List (List ℕ))
        → ((e : Errno) (locks : List Lock) (f : Fact) → In f (taught o (told.Refused e) locks) → ⊥)
        → ((cs : List Child) (c : Child) → last_of root cs ≡ c → Steps t root path cs → Every (λ n. is_too_long n ≡ false) path
        → Teaches o (parts_on path cs root ++ looked t (row cs c)) (outcome t (row cs c)))
        → Teaches o (looked t (walk root path (λ cs. row cs (last_of root cs))))
        (outcome t (walk root path (λ cs. row cs (last_of root cs))))
    of_row o row path never h cookie f i =
        let w = walked t root path (λ cs. row cs (last_of root cs))
        (λ e q. never e _ f (subst (λ (a : Answer). In f (taught o a
        (locks_from cookie who (outcome t (walk root path (λ cs. row cs (last_of root cs)))).grants))) q i)) in
        subst (λ (ps : List Part). IsTaught ps (locks_from cookie who (outcome t (walk root path (λ cs. row cs (last_of root cs)))).grants)
        f) (sym w.looks)
        (subst (λ (r : Outcome). In f (taught o r.answer (locks_from cookie who r.grants))
        → IsTaught (parts_on path w.cs root ++ looked t (row w.cs (last_of root w.cs))) (locks_from cookie who r.grants) f) (sym w.ends)
        (λ j. h w.cs (last_of root w.cs) refl w.steps w.short cookie f j) i)

    -- the names of a path that leads there
    names_of : (kind : Fid → Answer) (more : ℕ) → bits_meet (LOOKUP + more) LOOKUP ≡ true
        → (path : List (List ℕ)) (cs : List Child) (c : Child) (parts : List Part) → last_of root cs ≡ c → Steps t root path cs
        → Every (λ n. is_too_long n ≡ false) path → kind (fid_of c) ≡ found c
        → (cookie : ℕ) (f : Fact) → In f (name_facts kind facts.root path (locks_from cookie who (wants more cs)))
        → IsTaught (parts_on path cs root ++ parts) (locks_from cookie who (wants more cs)) f
    names_of kind more has path cs c parts is s short k cookie f i =
        let r = names_right kind more has path cookie facts.root cs least s short
        (subst (λ (b : Child). kind (fid_of b) ≡ found b) (sym is) k) f i in
        record {
          tells = r.tells;
          under = r.under;
          touched = in_left f.part (parts_on path cs root) parts r.touched;
          place =
              place_more (parts_on path cs root) (parts_on path cs root ++ parts) (λ q j. in_left q (parts_on path cs root) parts j) f.part
              r.place;
        }

    lookup_teaches : (path : List (List ℕ)) (cs : List Child) (c : Child) → last_of root cs ≡ c → Steps t root path cs
        → Every (λ n. is_too_long n ≡ false) path → Teaches (op.Lookup path) (parts_on path cs root ++ []) (outcome t (row_lookup cs c))
    lookup_teaches path cs (Dir d) is s short cookie f i =
        cond_both (is_one_for_each path (locks_from cookie who (wants 0 cs)))
        (name_facts told.Dir facts.root path (locks_from cookie who (wants 0 cs))) []
        (λ (fs : List Fact). In f fs → IsTaught (parts_on path cs root ++ []) (locks_from cookie who (wants 0 cs)) f)
        (λ _ k. names_of told.Dir 0 refl path cs (Dir d) [] is s short refl cookie f k) (λ _ k. absurd k) i
    lookup_teaches path cs (File d) is s short cookie f i =
        cond_both (is_one_for_each path (locks_from cookie who (wants 0 cs)))
        (name_facts told.File facts.root path (locks_from cookie who (wants 0 cs))) []
        (λ (fs : List Fact). In f fs → IsTaught (parts_on path cs root ++ []) (locks_from cookie who (wants 0 cs)) f)
        (λ _ k. names_of told.File 0 refl path cs (File d) [] is s short refl cookie f k) (λ _ k. absurd k) i

    -- a fact under the last lock
    own_taught : (p : Part) (a : Answer) (parts : List Part) (locks : List Lock) (x : Fid) (bit : ℕ) (l : Last locks x bit) (f : Fact)
        → (inode_of p).0 ≤ bound → TellsOf t bound p a → LiesOn l.lock p a → In p parts → PlaceOf parts p → fact p l.lock a ≡ f
        → IsTaught parts locks f
    own_taught p a parts locks x bit l f le tells lies i seen e =
        subst (IsTaught parts locks) e (record {
          tells = record { low = le; is = tells };
          under =
              record { lock = l.lock; among = l.among; cookie = refl; lies = lies };
          touched = i;
          place = seen;
        })

    -- the end of the path
    end_placed : (path : List (List ℕ)) (cs : List Child) (c : Child) → last_of root cs ≡ c → Steps t root path cs → IsPlaced t bound c
        × ((fid_of c).0 ≤ bound)
    end_placed path cs c is s = subst (λ (b : Child). IsPlaced t bound b × ((fid_of b).0 ≤ bound)) is
        (placed root path cs least (inl refl) s)

    end_seen : (path : List (List ℕ)) (cs : List Child) (c : Child) (parts : List Part) → last_of root cs ≡ c → Steps t root path cs
        → SeenPlace (parts_on path cs root ++ parts) c
    end_seen path cs c parts is s = subst (SeenPlace (parts_on path cs root ++ parts)) is
        (place_seen (parts_on path cs root ++ parts) root path cs least (λ q i. in_left q (parts_on path cs root) parts i) (inl refl) s)

    stat_teaches : (path : List (List ℕ)) (cs : List Child) (c : Child) → last_of root cs ≡ c → Steps t root path cs
        → Every (λ n. is_too_long n ≡ false) path → Teaches (op.Stat path) (parts_on path cs root ++ looked t (row_stat cs c))
        (outcome t (row_stat cs c))
    stat_teaches path cs (Dir d) is s short cookie f i =
        let locks = locks_from cookie who (wants UPDATE cs) in
        let l : Last locks d UPDATE = subst (λ (c : Child). Last (locks_from cookie who (wants UPDATE cs)) (fid_of c) UPDATE) is
        (last_lock 1 UPDATE refl refl refl cookie cs) in
        let at = end_placed path cs (Dir d) is s in
        either told.Dir path locks (λ l. fact (part.Attr d) l (told.DirStat d (attributes t (Dir d)).mode) ∷ []) l.lock
        (parts_on path cs root ++ part.Attr d ∷ []) f l.is (names_of told.Dir UPDATE refl path cs (Dir d) (part.Attr d ∷ []) is s short
        refl cookie)
        (λ g j. one (λ e. own_taught (part.Attr d) (told.DirStat d (attributes t (Dir d)).mode) (parts_on path cs root ++ part.Attr d ∷ [])
        locks d UPDATE l g at.1 (inl (refl, at.0)) (l.has, l.place)
        (in_right (part.Attr d) (parts_on path cs root) (part.Attr d ∷ []) (inl refl))
        (Dir d, refl, end_seen path cs (Dir d) (part.Attr d ∷ []) is s) e) j) i
    stat_teaches path cs (File d) is s short cookie f i =
        let locks = locks_from cookie who (wants (UPDATE + LAYOUT) cs) in
        let a = told.FileStat d (attributes t (File d)).mode (attributes t (File d)).links (layout t d) in
        let parts : List Part = parts_on path cs root ++ part.Attr d ∷ part.Layout d ∷ [] in
        let l : Last locks d UPDATE = subst (λ (c : Child). Last (locks_from cookie who (wants (UPDATE + LAYOUT) cs)) (fid_of c) UPDATE) is
        (last_lock 5 UPDATE refl refl refl cookie cs) in
        let k : Last locks d LAYOUT = subst (λ (c : Child). Last (locks_from cookie who (wants (UPDATE + LAYOUT) cs)) (fid_of c) LAYOUT) is
        (last_lock 5 LAYOUT refl refl refl cookie cs) in
        let same : l.lock ≡ k.lock = some_is l.lock k.lock (sym l.is ∙ k.is) in
        let at = end_placed path cs (File d) is s in
        either told.File path locks (facts.stat_facts d a (layout t d)) l.lock parts f l.is
        (names_of told.File (UPDATE + LAYOUT) refl path cs (File d) (part.Attr d ∷ part.Layout d ∷ []) is s short refl cookie)
        (λ g j. two
        (λ e. own_taught (part.Attr d) a parts locks d UPDATE l g at.1 (inr (layout t d, refl, at.0)) (l.has, l.place)
        (in_right (part.Attr d) (parts_on path cs root) (part.Attr d ∷ part.Layout d ∷ []) (inl refl))
        (File d, refl, end_seen path cs (File d) (part.Attr d ∷ part.Layout d ∷ []) is s) e)
        (λ e. own_taught (part.Layout d) (told.Layout (layout t d)) parts locks d LAYOUT k g at.1 refl k.has
        (in_right (part.Layout d) (parts_on path cs root) (part.Attr d ∷ part.Layout d ∷ []) (inr (inl refl))) tt
        (ap (λ (m : Lock). fact (part.Layout d) m (told.Layout (layout t d))) (sym same) ∙ e)) j) i

    list_teaches : (path : List (List ℕ)) (cs : List Child) (c : Child) → last_of root cs ≡ c → Steps t root path cs
        → Every (λ n. is_too_long n ≡ false) path → Teaches (op.List path) (parts_on path cs root ++ looked t (row_list cs c))
        (outcome t (row_list cs c))
    list_teaches path cs (File d) is s short cookie f i = absurd i
    list_teaches path cs (Dir d) is s short cookie f i =
        let locks = locks_from cookie who (wants UPDATE cs) in
        let parts : List Part = parts_on path cs root ++ part.List d ∷ [] in
        let l : Last locks d UPDATE = subst (λ (c : Child). Last (locks_from cookie who (wants UPDATE cs)) (fid_of c) UPDATE) is
        (last_lock 1 UPDATE refl refl refl cookie cs) in
        let at = end_placed path cs (Dir d) is s in
        either told.Dir path locks (λ l. fact (part.List l.resource.fid) l (told.Names (listing t d)) ∷ []) l.lock parts f l.is
        (names_of told.Dir UPDATE refl path cs (Dir d) (part.List d ∷ []) is s short refl cookie)
        (λ g j. one (λ e. own_taught (part.List d) (told.Names (listing t d)) parts locks d UPDATE l g at.1 refl l.has
        (in_right (part.List d) (parts_on path cs root) (part.List d ∷ []) (inl refl)) tt
        (ap (λ (x : Fid). fact (part.List x) l.lock (told.Names (listing t d))) (ap (λ (r : Resource). r.fid) (sym l.has.resource)) ∙ e)) j)
        i

    layout_teaches : (path : List (List ℕ)) (cs : List Child) (c : Child) → last_of root cs ≡ c → Steps t root path cs
        → Every (λ n. is_too_long n ≡ false) path → Teaches (op.Layout path) (parts_on path cs root ++ looked t (row_layout cs c))
        (outcome t (row_layout cs c))
    layout_teaches path cs (Dir d) is s short cookie f i = absurd i
    layout_teaches path cs (File d) is s short cookie f i =
        let locks = locks_from cookie who (wants LAYOUT cs) in
        let parts : List Part = parts_on path cs root ++ part.Layout d ∷ [] in
        let l : Last locks d LAYOUT = subst (λ (c : Child). Last (locks_from cookie who (wants LAYOUT cs)) (fid_of c) LAYOUT) is
        (last_lock 3 LAYOUT refl refl refl cookie cs) in
        let at = end_placed path cs (File d) is s in
        either told.File path locks (λ l. fact (part.Layout l.resource.fid) l (told.Layout (layout t d)) ∷ []) l.lock parts f l.is
        (names_of told.File LAYOUT refl path cs (File d) (part.Layout d ∷ []) is s short refl cookie)
        (λ g j. one (λ e. own_taught (part.Layout d) (told.Layout (layout t d)) parts locks d LAYOUT l g at.1 refl l.has
        (in_right (part.Layout d) (parts_on path cs root) (part.Layout d ∷ []) (inl refl)) tt
        (ap (λ (x : Fid). fact (part.Layout x) l.lock (told.Layout (layout t d))) (ap (λ (r : Resource). r.fid) (sym l.has.resource)) ∙ e))
        j) i

    -- each operation: what changes names teaches nothing
    pub taught_right : (o : Op) → Teaches o (touches osts t (act o)) (outcome_of osts t (act o))
    taught_right (op.Lookup path) = of_row (op.Lookup path) row_lookup path (λ e locks f i. i) (lookup_teaches path)
    taught_right (op.Stat path) = of_row (op.Stat path) row_stat path (λ e locks f i. i) (stat_teaches path)
    taught_right (op.List path) = of_row (op.List path) row_list path (λ e locks f i. i) (list_teaches path)
    taught_right (op.Layout path) = of_row (op.Layout path) row_layout path (λ e locks f i. i) (layout_teaches path)
    taught_right (op.Mkdir path) = λ cookie f i. absurd i
    taught_right (op.Create path size count) = λ cookie f i. absurd i
    taught_right (op.Link old new) = λ cookie f i. absurd i
    taught_right (op.Unlink path) = λ cookie f i. absurd i
    taught_right (op.Rmdir path) = λ cookie f i. absurd i
    taught_right (op.Rename old new) = λ cookie f i. absurd i
    taught_right (op.Chmod path mode) = λ cookie f i. absurd i
    taught_right (op.Open path) = λ cookie f i. absurd i
    taught_right (op.Close opened fid) = λ cookie f i. absurd i
    taught_right (op.Enqueue resource mode extent) = λ cookie f i. absurd i
    taught_right (op.Get resource cookie page) = λ cookie f i. absurd i
    taught_right (op.Put resource cookie offset bytes) = λ cookie f i. absurd i
    taught_right (op.Cut resource cookie size) = λ cookie f i. absurd i
    taught_right (op.Size resource) = λ cookie f i. absurd i
