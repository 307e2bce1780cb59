-- Where paths lead once an operation is done, and which chmod and rename change something.
use Rattle.std.proofs.Common.{◌≡◌, ◌≢◌, ℕ, ◌+◌, ◌-◌, Bool, true, false, List, [], ◌∷◌, ◌++◌, ◌⊎◌, inl, inr, Option, Some, None, refl, sym}
use Rattle.std.proofs.Common.{ap, subst, ◌∙◌, arith, is_some}
use Rattle.std.specs.Prelude.{not, ◌==◌, ◌&&◌, ◌||◌, if◌then◌else◌}
use Rattle.std.specs.List.{list_any}
use Rattle.std.specs.Option.{option_and_then}
use Rattle.std.proofs.lemmas.Bool.{cond_both, eq-eqb}
use Rattle.std.proofs.lemmas.Bool.Decides.{nat_tests}
use Rattle.lu_base.specs.declared.ids.Fid.{Fid}
use Rattle.lu_base.specs.declared.ids.Txn.{Txn}
use Rattle.lu_base.specs.declared.ids.Who.{Who}
use Rattle.lu_layout.specs.Raid0.{Raid0}
use Rattle.lu_msg.specs.declared.answers.Answer.TheVariants as told
use Rattle.lu_msg.specs.declared.answers.Answer.TheVariants.{Refused}
use Rattle.lu_msg.specs.declared.answers.Errno.{Errno}
use Rattle.lu_msg.specs.declared.answers.Errno.TheVariants.{EEXIST, EISDIR, EINVAL, EBUSY, ENAMETOOLONG, ENOTDIR, EPERM}
use Rattle.lu_spec_machine.specs.declared.child.Child.{Child}
use Rattle.lu_spec_machine.specs.declared.child.Child.TheVariants.{Dir, File}
use Rattle.lu_spec_machine.specs.Name.{same_name, is_too_long}
use Rattle.lu_spec_machine.specs.Tree.{Tree, Attributes, same_fid, fid_of, child, listing, attributes, layout}
use Rattle.lu_spec_machine.specs.Change.{Leads, Drops, Parted, MakesDir, MakesFile, SetMode, SetLinks, Leaves, change, changed}
use Rattle.lu_spec_machine.specs.Striping.{new_layout}
use Rattle.lu_spec_machine.specs.Plan.{Plan, Refuse, LookAttr, Outcome, outcome}
use Rattle.lu_spec_machine.specs.Table.{root, made_by, look_in, look, there, absent, walk, onward, walk_up, to_last, last_of, tells, does}
use Rattle.lu_spec_machine.specs.Table.{found, row_lookup, row_mkdir, row_create, row_link, row_unlink, row_rmdir, passes, moves}
use Rattle.lu_spec_machine.specs.Table.{row_replace, row_rename, rename, row_chmod, row_open}
use Rattle.lu_spec_machine.specs.Footprint.{Every, is_some_change}
use Rattle.lu_spec_machine.specs.Covered.{IsNew}
use Rattle.lu_spec_machine.specs.Paths.{leads_to, at_path, is_one, has_mode, LookupsTell, PathsFollow, ChmodsChange, RenamesChange}
use Rattle.lu_spec_machine.proofs.Keys.{name_tells}
use Rattle.lu_spec_machine.proofs.Effects.{name_after, dir_mode_after, file_mode_after}
use Rattle.lu_spec_machine.proofs.Leads.{here, at_same, empty_other, led, stays}
use Rattle.lu_spec_machine.proofs.Outcomes.{mkdir, create}
use Rattle.lu_spec_machine.proofs.Ordered.{lists_names}
use Rattle.lu_spec_machine.proofs.Walks.{there_ends, absent_ends, if_empty_ends}

-- ---- steps: the inodes that a path comes to, one after another

abbrev pub Steps : Tree → Child → List (List ℕ) → List Child → Type 0
Steps t at [] [] = Unit {0}
Steps t (Dir d) (n ∷ ns) (c ∷ cs) = (child t d n ≡ Some c) × Steps t c ns cs
Steps t _ _ _ = ⊥

pub steps_lead : (t : Tree) (at : Child) (ns : List (List ℕ)) (cs : List Child) → Steps t at ns cs → leads_to t at ns ≡ Some (last_of at cs)
steps_lead t at [] [] s = refl
steps_lead t at [] (c ∷ cs) s = absurd s
steps_lead t (Dir d) (n ∷ ns) [] s = absurd s
steps_lead t (Dir d) (n ∷ ns) (c ∷ cs) s = ap (option_and_then (λ c. leads_to t c ns)) s.0 ∙ steps_lead t c ns cs s.1
steps_lead t (File f) (n ∷ ns) cs s = absurd s

option_same : (o : Option Child) → option_and_then (λ c. Some c) o ≡ o
option_same None = refl
option_same (Some c) = refl

-- one name more
steps_more : (t : Tree) (at : Child) (ns : List (List ℕ)) (cs : List Child) (d : Fid) (m : List ℕ) → Steps t at ns cs → last_of at cs
    ≡ Dir d → leads_to t at (ns ++ m ∷ []) ≡ child t d m
steps_more t (Dir e) [] [] d m s is = option_same (child t e m) ∙ ap (λ c. child t (fid_of c) m) is
steps_more t (File e) [] [] d m s is = absurd (cc)
steps_more t at [] (c ∷ cs) d m s is = absurd s
steps_more t (Dir e) (n ∷ ns) [] d m s is = absurd s
steps_more t (Dir e) (n ∷ ns) (c ∷ cs) d m s is = ap (option_and_then (λ c. leads_to t c (ns ++ m ∷ []))) s.0
    ∙ steps_more t c ns cs d m s.1 is
steps_more t (File f) (n ∷ ns) cs d m s is = absurd s

-- ---- what holds at the end of a walk, with the steps that it took

module _ (t : Tree) (Q : Outcome → Type 0) (refused : (e : Errno) → Q (record { answer = Refused e; grants = []; changes = [] })) where
  abbrev pub Holds : Plan → Type 0
  Holds p = Q (outcome t p)

  abbrev pub Goes : Type 0
  Goes = List Child → Fid → List ℕ → Option Child → Plan

  look_steps : (d : Fid) (n : List ℕ) (next : Fid → Option Child → Plan) → Holds (next d (child t d n)) → Holds (look (Dir d) n next)
  look_steps d n next h = cond_both (is_too_long n) (Refuse ENAMETOOLONG) (look_in (Dir d) n next) Holds (λ _. refused _) (λ _. h)

  file_refuses : (f : Fid) (n : List ℕ) (next : Fid → Option Child → Plan) → Holds (look (File f) n next)
  file_refuses f n next = cond_both (is_too_long n) (Refuse ENAMETOOLONG) (Refuse ENOTDIR) Holds (λ _. refused _) (λ _. refused _)

  pub walk_steps : (at : Child) (ns : List (List ℕ)) (next : List Child → Plan) → ((cs : List Child) → Steps t at ns cs → Holds (next cs))
      → Holds (walk at ns next)
  walk_steps at [] next h = h [] tt
  walk_steps (File f) (n ∷ ns) next h = file_refuses f n (λ d. there (λ c. walk c ns (λ cs. next (c ∷ cs))))
  walk_steps (Dir d) (n ∷ ns) next h =
      look_steps d n (λ d. there (λ c. walk c ns (λ cs. next (c ∷ cs))))
      (there_ends t Q refused (λ c. walk c ns (λ cs. next (c ∷ cs))) (child t d n)
      (λ c is. walk_steps c ns (λ cs. next (c ∷ cs)) (λ cs s. h (c ∷ cs) (is, s))))

  -- the path up to its last name, the inodes on it, the directory and the last name
  abbrev pub Ends : Child → List (List ℕ) → Goes → Type 0
  Ends at path next = (front : List (List ℕ)) (cs : List Child) (d : Fid) (m : List ℕ) → path ≡ front ++ m ∷ [] → Steps t at front cs
      → last_of at cs ≡ Dir d → Holds (next cs d m (child t d m))

  onward_steps : (ns : List (List ℕ)) (next : Goes) (d : Fid) (n : List ℕ) → Ends (Dir d) (n ∷ ns) next
      → Holds (onward ns next d n (child t d n))
  onward_steps [] next d n h = h [] [] d n refl tt refl
  onward_steps (m ∷ ns) next d n h = there_ends t Q refused (λ c. look c m (λ e. onward ns (λ cs. next (c ∷ cs)) e m)) (child t d n)
      (λ c is. by c is (λ e. onward_steps ns (λ cs. next (Dir e ∷ cs)) e m))
    where
      by : (c : Child) → child t d n ≡ Some c → ((e : Fid) → Ends (Dir e) (m ∷ ns) (λ cs. next (Dir e ∷ cs))
          → Holds (onward ns (λ cs. next (Dir e ∷ cs)) e m (child t e m))) → Holds (look c m (λ e. onward ns (λ cs. next (c ∷ cs)) e m))
      by (File f) is ih = file_refuses f m (λ e. onward ns (λ cs. next (File f ∷ cs)) e m)
      by (Dir e) is ih = look_steps e m (λ e'. onward ns (λ cs. next (Dir e ∷ cs)) e' m)
          (ih e (λ front cs d' k p s l. h (n ∷ front) (Dir e ∷ cs) d' k (ap (λ z. n ∷ z) p) (is, s) l))

  up_steps : (ns : List (List ℕ)) (n : List ℕ) (next : Goes) → Ends root (n ∷ ns) next → Holds (walk_up root n ns next)
  up_steps ns n next h = look_steps (fid_of root) n (λ d. onward ns next d n) (onward_steps ns next (fid_of root) n h)

  pub last_steps : (e : Errno) (path : List (List ℕ)) (next : Goes) → Ends root path next → Holds (to_last e path next)
  last_steps e [] next h = refused e
  last_steps e (n ∷ ns) next h = up_steps ns n next h

-- ---- look-ups

every_last : (c b : Child) → found c ≡ found b → c ≡ b
every_last (Dir d) (Dir e) h = cc
every_last (File d) (File e) h = cc
every_last (Dir d) (File e) h = absurd (cc)
every_last (File d) (Dir e) h = absurd (cc)

not_found : (c : Child) (e : Errno) → Refused e ≡ found c → ⊥
not_found (Dir d) e h = absurd (cc)
not_found (File f) e h = absurd (cc)

look_short : (t : Tree) (d : Fid) (n : List ℕ) (next : Fid → Option Child → Plan) → is_too_long n ≡ false → outcome t (look (Dir d) n next)
    ≡ outcome t (next d (child t d n))
look_short t d n next h = ap (λ v. outcome t (if v then Refuse ENAMETOOLONG else look_in (Dir d) n next)) h

walk_short : (t : Tree) (at : Child) (ns : List (List ℕ)) (c : Child) (next : List Child → Plan) → Every (λ n. is_too_long n ≡ false) ns
    → leads_to t at ns ≡ Some c → (cs : List Child) × ((last_of at cs ≡ c) × (outcome t (walk at ns next) ≡ outcome t (next cs)))
walk_short t at [] c next e h = ([], (cc, refl))
walk_short t (File f) (n ∷ ns) c next e h = absurd (cc)
walk_short t (Dir d) (n ∷ ns) c next e h = by (child t d n) refl h (λ b. walk_short t b ns c (λ cs. next (b ∷ cs)) e.1)
  where
    by : (o : Option Child) → child t d n ≡ o → option_and_then (λ c. leads_to t c ns) o ≡ Some c
        → ((b : Child) → leads_to t b ns ≡ Some c → (cs : List Child)
        × ((last_of b cs ≡ c) × (outcome t (walk b ns (λ cs. next (b ∷ cs))) ≡ outcome t (next (b ∷ cs)))))
        → (cs : List Child) × ((last_of (Dir d) cs ≡ c) × (outcome t (walk (Dir d) (n ∷ ns) next) ≡ outcome t (next cs)))
    by None q g ih = absurd (cc)
    by (Some b) q g ih =
        let r = ih b g in (
          b ∷ r.0,
          (
            r.1.0,
            look_short t d n (λ d. there (λ c. walk c ns (λ cs. next (c ∷ cs)))) e.0
                ∙ ap (λ o. outcome t (there (λ c. walk c ns (λ cs. next (c ∷ cs))) o)) q ∙ r.1.1,
          ),
        )

pub lookups_tell : LookupsTell
lookups_tell osts t number who path c =
    record {
      right =
          walk_steps t (λ o. o.answer ≡ found c → at_path t path ≡ Some c) (λ e h. absurd (not_found c e h)) root path
          (λ cs. row_lookup cs (last_of root cs))
          (λ cs s h. steps_lead t root path cs s ∙ ap Some (every_last (last_of root cs) c h));
      whole = λ e h.
          let r = walk_short t root path c (λ cs. row_lookup cs (last_of root cs)) e h in
          ap (λ (o : Outcome). o.answer) r.1.1 ∙ ap found r.1.0;
    }

-- ---- a path in the tree after

module _ (t u : Tree) (number : Txn) (new : IsNew t number) where
  -- names that lead there still do
  abbrev Good : Child → Type 0
  Good c = (e : Fid) (k : List ℕ) → (number.0 ≡ e.0 → ⊥) → child t e k ≡ Some c → child u e k ≡ Some c

  steps_stay : (at : Child) (ns : List (List ℕ)) (cs : List Child) → (number.0 ≡ (fid_of at).0 → ⊥) → Steps t at ns cs → Every Good cs
      → Steps u at ns cs
  steps_stay at [] [] ne s g = tt
  steps_stay at [] (c ∷ cs) ne s g = absurd s
  steps_stay (Dir d) (n ∷ ns) [] ne s g = absurd s
  steps_stay (Dir d) (n ∷ ns) (c ∷ cs) ne s g = (g.0 d n ne s.0, steps_stay c ns cs (new.1 d n c s.0) s.1 g.1)
  steps_stay (File f) (n ∷ ns) cs ne s g = absurd s

  path_after : (path front : List (List ℕ)) (cs : List Child) (d : Fid) (m : List ℕ) → path ≡ front ++ m ∷ [] → Steps t root front cs
      → last_of root cs ≡ Dir d → Every Good cs → at_path u path ≡ child u d m
  path_after path front cs d m p s is g = ap (at_path u) p ∙ steps_more u root front cs d m (steps_stay root front cs new.0 s g) is

path_before : (t : Tree) (path front : List (List ℕ)) (cs : List Child) (d : Fid) (m : List ℕ) → path ≡ front ++ m ∷ []
    → Steps t root front cs → last_of root cs ≡ Dir d → at_path t path ≡ child t d m
path_before t path front cs d m p s is = ap (at_path t) p ∙ steps_more t root front cs d m s is

-- ---- whether a chmod or a rename changes something, if it isn't refused

abbrev Says : Bool → Outcome → Type 0
Says v o = ((e : Errno) → o.answer ≡ Refused e → ⊥) → is_some_change o.changes ≡ v

says_refused : (v : Bool) (e : Errno) → Says v (record { answer = Refused e; grants = []; changes = [] })
says_refused v e h = absurd (h e refl)

pub chmods_change : ChmodsChange
chmods_change osts t number who path mode =
    walk_steps t (Says (not (has_mode t mode (at_path t path)))) (says_refused _) root path (λ cs. row_chmod mode (last_of root cs))
    (λ cs s. subst (λ o. Says (not (has_mode t mode o)) (outcome t (row_chmod mode (last_of root cs)))) (sym (steps_lead t root path cs s))
    (set (last_of root cs) ((attributes t (last_of root cs)).mode == mode)))
  where
    set : (c : Child) (v : Bool) → Says (not v) (outcome t (if v then tells told.Done [] else does told.Done (SetMode c mode ∷ [])))
    set c true h = refl
    set c false h = refl

module _ (t : Tree) (d : Fid) (n : List ℕ) where
  replaced : (c : Child) (e : Fid) (k : List ℕ) (g : Child) → Says true (outcome t (row_replace d n c e k g))
  replaced (Dir f) e k (File g) = says_refused true ENOTDIR
  replaced (File f) e k (Dir g) = says_refused true EISDIR
  replaced (Dir f) e k (Dir g) = if_empty_ends t (Says true) (says_refused true) (listing t g)
      (moves d n (Dir f) e k (Parted g ∷ Leaves g ∷ [])) (λ _ h. refl)
  replaced (File f) e k (File g) = λ h. refl

  renamed : (c : Child) (cs : List Child) (e : Fid) (k : List ℕ) (o : Option Child)
      → Says (not (is_one (Some c) o)) (outcome t (row_rename d n c cs e k o))
  renamed c cs e k None = cond_both (passes c cs) (Refuse EINVAL) (moves d n c e k []) (λ x. Says true (outcome t x))
      (λ _. says_refused true EINVAL) (λ _ h. refl)
  renamed c cs e k (Some g) = one (same_fid (fid_of g) (fid_of c))
    where
      one : (v : Bool) → Says (not v) (outcome t (if v then tells told.Done []
          else (if passes c cs then Refuse EINVAL else row_replace d n c e k g)))
      one true = λ h. refl
      one false = cond_both (passes c cs) (Refuse EINVAL) (row_replace d n c e k g) (λ x. Says true (outcome t x))
          (λ _. says_refused true EINVAL) (λ _. replaced c e k g)

pub renames_change : RenamesChange
renames_change osts t number who old [] = says_refused _ EBUSY
renames_change osts t number who old (m ∷ ms) =
    last_steps t (Says v) (says_refused v) EBUSY old (λ cs d n. there (λ c. walk_up root m ms (λ cs e m. row_rename d n c cs e m)))
    (λ front cs d n p s is. there_ends t (Says v) (says_refused v) (λ c. walk_up root m ms (λ cs e m. row_rename d n c cs e m))
    (child t d n)
    (λ c at. up_steps t (Says v) (says_refused v) ms m (λ cs e m. row_rename d n c cs e m)
    (λ front' cs' e k p' s' is'. both d n c cs' e k (path_before t old front cs d n p s is ∙ at)
    (path_before t (m ∷ ms) front' cs' e k p' s' is'))))
  where
    v : Bool
    v = not (is_one (at_path t old) (at_path t (m ∷ ms)))

    both : (d : Fid) (n : List ℕ) (c : Child) (cs : List Child) (e : Fid) (k : List ℕ) → at_path t old ≡ Some c → at_path t (m ∷ ms)
        ≡ child t e k → Says v (outcome t (row_rename d n c cs e k (child t e k)))
    both d n c cs e k one two =
        subst (λ w. Says w (outcome t (row_rename d n c cs e k (child t e k))))
        (sym (ap (λ o. not (is_one o (at_path t (m ∷ ms)))) one ∙ ap (λ o. not (is_one (Some c) o)) two))
        (renamed t d n c cs e k (child t e k))

every_good : (P Q : Child → Type 0) (cs : List Child) → ((c : Child) → P c → Q c) → Every P cs → Every Q cs
every_good P Q [] f h = tt
every_good P Q (c ∷ cs) f h = (f c h.0, every_good P Q cs f h.1)

every_all : (P : Child → Type 0) (cs : List Child) → ((c : Child) → P c) → Every P cs
every_all P [] f = tt
every_all P (c ∷ cs) f = (f c, every_all P cs f)

every_both : (P Q : Child → Type 0) (cs : List Child) → Every P cs → Every Q cs → Every (λ c. P c × Q c) cs
every_both P Q [] h k = tt
every_both P Q (c ∷ cs) h k = ((h.0, k.0), every_both P Q cs h.1 k.1)

-- the inodes on the way to a name are directories, each with a name in it
abbrev IsDir : Child → Type 0
IsDir c = (x : Fid) × (c ≡ Dir x)

abbrev IsParent : Tree → Child → Type 0
IsParent t c = (x : Fid) × ((c ≡ Dir x) × ((j : List ℕ) × ((g : Child) × (child t x j ≡ Some g))))

dirs : (t : Tree) (at : Child) (ns : List (List ℕ)) (cs : List Child) (d : Fid) → Steps t at ns cs → last_of at cs ≡ Dir d → Every IsDir cs
dirs t at ns [] d s is = tt
dirs t at [] (c ∷ cs) d s is = absurd s
dirs t (File f) (n ∷ ns) (c ∷ cs) d s is = absurd s
dirs t (Dir e) (n ∷ ns) (Dir x ∷ cs) d s is = ((x, refl), dirs t (Dir x) ns cs d s.1 is)
dirs t (Dir e) (n ∷ []) (File f ∷ []) d s is = absurd (cc)
dirs t (Dir e) (n ∷ []) (File f ∷ c ∷ cs) d s is = absurd s.1
dirs t (Dir e) (n ∷ k ∷ ns) (File f ∷ cs) d s is = absurd s.1

parents : (t : Tree) (at : Child) (ns : List (List ℕ)) (cs : List Child) (d : Fid) (m : List ℕ) (b : Child) → Steps t at ns cs
    → last_of at cs ≡ Dir d → child t d m ≡ Some b → Every (IsParent t) cs
parents t at ns [] d m b s is there = tt
parents t at [] (c ∷ cs) d m b s is there = absurd s
parents t (File f) (n ∷ ns) (c ∷ cs) d m b s is there = absurd s
parents t (Dir e) (n ∷ []) (c ∷ []) d m b s is there = ((d, (is, (m, (b, there)))), tt)
parents t (Dir e) (n ∷ []) (c ∷ x ∷ cs) d m b s is there = absurd s.1
parents t (Dir e) (n ∷ k ∷ ns) (Dir y ∷ []) d m b s is there = absurd s.1
parents t (Dir e) (n ∷ k ∷ ns) (Dir y ∷ x ∷ cs) d m b s is there =
    ((y, (refl, (k, (x, s.1.0)))), parents t (Dir y) (k ∷ ns) (x ∷ cs) d m b s.1 is there)
parents t (Dir e) (n ∷ k ∷ ns) (File f ∷ cs) d m b s is there = absurd s.1

-- ---- places

differs : (t : Tree) (d : Fid) (m : List ℕ) (e : Fid) (k : List ℕ) (o p : Option Child) → child t d m ≡ o → child t e k ≡ p → (o ≡ p → ⊥)
    → here d m e k ≡ false
differs t d m e k o p a b ne = by (here d m e k) refl
  where
    by : (v : Bool) → here d m e k ≡ v → v ≡ false
    by false h = refl
    by true h = let s = at_same d m e k h in absurd (ne (sym a ∙ ap (λ f. child t f m) s.0 ∙ ap (child t e) s.1 ∙ b))

itself : (d : Fid) (m : List ℕ) → here d m d m ≡ true
itself d m = ap (λ v. v && same_name m m) (eq-eqb d.0 d.0 refl) ∙ own (name_tells m m)
  where
    own : ((same_name m m ≡ true) × (m ≡ m)) ⊎ ((same_name m m ≡ false) × (m ≢ m)) → same_name m m ≡ true
    own (inl h) = h.0
    own (inr h) = absurd (h.1 refl)

some_same : (a b : Child) → Some a ≡ Some b → a ≡ b
some_same a b h = cc

-- a path has one last name
one_front : (a b : List (List ℕ)) (n m : List ℕ) → a ++ n ∷ [] ≡ b ++ m ∷ [] → (a ≡ b) × (n ≡ m)
one_front [] [] n m h = (refl, cc)
one_front [] (y ∷ []) n m h = absurd (cc)
one_front [] (y ∷ z ∷ b) n m h = absurd (cc)
one_front (x ∷ []) [] n m h = absurd (cc)
one_front (x ∷ z ∷ a) [] n m h = absurd (cc)
one_front (x ∷ a) (y ∷ b) n m h =
    let tails : a ++ n ∷ [] ≡ b ++ m ∷ [] = cc in
    let heads : x ≡ y = cc in
    let r = one_front a b n m tails in
    (ap (λ z. z ∷ a) heads ∙ ap (λ zs. y ∷ zs) r.0, r.1)

empty_none : (t : Tree) (e : Fid) (j : List ℕ) (g : Child) → listing t e ≡ [] → child t e j ≡ Some g → ⊥
empty_none t e j g none is = let h = lists_names t e j in absurd (cc (ap (list_any (same_name j)) none, h, ap is_some is))

module _ (t : Tree) (number : Txn) (who : Who) (new : IsNew t number) where
  not_made : (e : Errno) (f : Fid) → Refused e ≡ told.Made f → ⊥
  not_made e f h = absurd (cc)

  not_done : (e : Errno) → Refused e ≡ told.Done → ⊥
  not_done e h = absurd (cc)

  -- ---- mkdir and create

  abbrev MadeAt : (Fid → Child) → List (List ℕ) → Outcome → Type 0
  MadeAt kind path o = (f : Fid) → o.answer ≡ told.Made f → at_path (changed t o.changes) path ≡ Some (kind f)

  mkdir_at : (path : List (List ℕ)) → MadeAt Dir path (outcome t (to_last EEXIST path (λ cs d n. absent (row_mkdir number d n))))
  mkdir_at path =
      last_steps t (MadeAt Dir path) (λ e f h. absurd (not_made e f h)) EEXIST path (λ cs d n. absent (row_mkdir number d n))
      (λ front cs d m p s is. absent_ends t (MadeAt Dir path) (λ e f h. absurd (not_made e f h)) (row_mkdir number d m) (child t d m)
      (λ free f h. path_after t (after d m) number new path front cs d m p s is
      (every_all (Good t (after d m) number new) cs (λ c e k ne at. stays t number who _ (mkdir d m free) e k c at ne (refl, tt)))
      ∙ name_after (change t (MakesDir (made_by number))) (Leads d m (Dir (made_by number))) d m
      ∙ ap (λ v. if v then Some (Dir (made_by number)) else child (change t (MakesDir (made_by number))) d m) (itself d m)
      ∙ ap (λ g. Some (Dir g)) (made_same (made_by number) f h)))
    where
      after : Fid → List ℕ → Tree
      after d m = changed t (MakesDir (made_by number) ∷ Leads d m (Dir (made_by number)) ∷ [])

      made_same : (g f : Fid) → told.Made g ≡ told.Made f → g ≡ f
      made_same g f h = cc

  create_at : (path : List (List ℕ)) (o : Option Raid0) → MadeAt File path
      (outcome t (to_last EEXIST path (λ cs d n. absent (row_create number d n o))))
  create_at path None = last_steps t (MadeAt File path) (λ e f h. absurd (not_made e f h)) EEXIST path
      (λ cs d n. absent (row_create number d n None))
      (λ front cs d m p s is. absent_ends t (MadeAt File path) (λ e f h. absurd (not_made e f h)) (row_create number d m None) (child t d m)
      (λ free f h. absurd (not_made EINVAL f h)))
  create_at path (Some l) =
      last_steps t (MadeAt File path) (λ e f h. absurd (not_made e f h)) EEXIST path (λ cs d n. absent (row_create number d n (Some l)))
      (λ front cs d m p s is. absent_ends t (MadeAt File path) (λ e f h. absurd (not_made e f h)) (row_create number d m (Some l))
      (child t d m)
      (λ free f h. path_after t (after d m) number new path front cs d m p s is
      (every_all (Good t (after d m) number new) cs (λ c e k ne at. stays t number who _ (create d m l free) e k c at ne (refl, tt)))
      ∙ name_after (change t (MakesFile (made_by number) l)) (Leads d m (File (made_by number))) d m
      ∙ ap (λ v. if v then Some (File (made_by number)) else child (change t (MakesFile (made_by number) l)) d m) (itself d m)
      ∙ ap (λ g. Some (File g)) (made_same (made_by number) f h)))
    where
      after : Fid → List ℕ → Tree
      after d m = changed t (MakesFile (made_by number) l ∷ Leads d m (File (made_by number)) ∷ [])

      made_same : (g f : Fid) → told.Made g ≡ told.Made f → g ≡ f
      made_same g f h = cc

  -- ---- link, unlink and rmdir

  abbrev LinkedAt : List (List ℕ) → Child → Outcome → Type 0
  LinkedAt path c o = o.answer ≡ told.Done → at_path (changed t o.changes) path ≡ Some c

  link_at : (path : List (List ℕ)) (c : Child) → LinkedAt path c (outcome t (row_link path c))
  link_at path (Dir d) = λ h. absurd (not_done EPERM h)
  link_at path (File f) =
      last_steps t (LinkedAt path (File f)) (λ e h. absurd (not_done e h)) EEXIST path
      (λ cs d n. absent (LookAttr (File f) (λ a. does told.Done (Leads d n (File f) ∷ SetLinks f (a.links + 1) ∷ []))))
      (λ front cs d m p s is. absent_ends t (LinkedAt path (File f)) (λ e h. absurd (not_done e h))
      (LookAttr (File f) (λ a. does told.Done (Leads d m (File f) ∷ SetLinks f (a.links + 1) ∷ []))) (child t d m)
      (λ free h. path_after t (after d m) number new path front cs d m p s is
      (every_all (Good t (after d m) number new) cs (λ c e k ne at. led t d m (File f) e k c at (empty_other t d m e k c free at)))
      ∙ name_after t (Leads d m (File f)) d m ∙ ap (λ v. if v then Some (File f) else child t d m) (itself d m)))
    where
      after : Fid → List ℕ → Tree
      after d m = changed t (Leads d m (File f) ∷ SetLinks f ((attributes t (File f)).links + 1) ∷ [])

  abbrev GoneAt : List (List ℕ) → Outcome → Type 0
  GoneAt path o = o.answer ≡ told.Done → at_path (changed t o.changes) path ≡ None

  dropped : (d : Fid) (m : List ℕ) (e : Fid) (k : List ℕ) (c : Child) → child t e k ≡ Some c → here d m e k ≡ false
      → child (change t (Drops d m)) e k ≡ Some c
  dropped d m e k c at apart = name_after t (Drops d m) e k ∙ ap (λ v. if v then None else child t e k) apart ∙ at

  nothing : (d : Fid) (m : List ℕ) → child (change t (Drops d m)) d m ≡ None
  nothing d m = name_after t (Drops d m) d m ∙ ap (λ v. if v then None else child t d m) (itself d m)

  unlink_end : (path front : List (List ℕ)) (cs : List Child) (d : Fid) (m : List ℕ) (c : Child) → path ≡ front ++ m ∷ []
      → Steps t root front cs → last_of root cs ≡ Dir d → child t d m ≡ Some c → GoneAt path (outcome t (row_unlink d m c))
  unlink_end path front cs d m (Dir e) p s is at h = absurd (not_done EISDIR h)
  unlink_end path front cs d m (File f) p s is at h =
      path_after t after number new path front cs d m p s is
      (every_good IsDir (Good t after number new) cs (λ c w e k ne there. dropped d m e k c there
      (differs t d m e k (Some (File f)) (Some c) at there (λ q. kinds w.0 (some_same (File f) c q ∙ w.1))))
      (dirs t root front cs d s is))
      ∙ nothing d m
    where
      after : Tree
      after = changed t (Drops d m ∷ Parted f ∷ SetLinks f ((attributes t (File f)).links - 1) ∷ [])

      kinds : (x : Fid) → File f ≡ Dir x → ⊥
      kinds x q = absurd (cc)

  unlink_at : (path : List (List ℕ)) → GoneAt path (outcome t (to_last EISDIR path (λ cs d n. there (row_unlink d n))))
  unlink_at path =
      last_steps t (GoneAt path) (λ e h. absurd (not_done e h)) EISDIR path (λ cs d n. there (row_unlink d n))
      (λ front cs d m p s is. there_ends t (GoneAt path) (λ e h. absurd (not_done e h)) (row_unlink d m) (child t d m)
      (λ c at. unlink_end path front cs d m c p s is at))

  rmdir_end : (path front : List (List ℕ)) (cs : List Child) (d : Fid) (m : List ℕ) (c : Child) → path ≡ front ++ m ∷ []
      → Steps t root front cs → last_of root cs ≡ Dir d → child t d m ≡ Some c → GoneAt path (outcome t (row_rmdir d m c))
  rmdir_end path front cs d m (File f) p s is at = λ h. absurd (not_done ENOTDIR h)
  rmdir_end path front cs d m (Dir e) p s is at =
      if_empty_ends t (GoneAt path) (λ e h. absurd (not_done e h)) (listing t e) (does told.Done (Drops d m ∷ Parted e ∷ Leaves e ∷ []))
      (λ none h. path_after t after number new path front cs d m p s is
      (every_good (IsParent t) (Good t after number new) cs (λ c w f k ne there. name_after (change t (Drops d m)) (Leaves e) f k
      ∙ dropped d m f k c there (differs t d m f k (Some (Dir e)) (Some c) at there
      (λ q. full none w.0 w.1.1.0 w.1.1.1.0 w.1.1.1.1 (some_same (Dir e) c q ∙ w.1.0)))) (parents t root front cs d m (Dir e) s is at))
      ∙ name_after (change t (Drops d m)) (Leaves e) d m ∙ nothing d m)
    where
      after : Tree
      after = changed t (Drops d m ∷ Parted e ∷ Leaves e ∷ [])

      dir_same : (x : Fid) → Dir e ≡ Dir x → e ≡ x
      dir_same x q = cc

      full : listing t e ≡ [] → (x : Fid) (j : List ℕ) (g : Child) → child t x j ≡ Some g → Dir e ≡ Dir x → ⊥
      full none x j g b q = empty_none t e j g none (ap (λ f. child t f j) (dir_same x q) ∙ b)

  rmdir_at : (path : List (List ℕ)) → GoneAt path (outcome t (to_last EBUSY path (λ cs d n. there (row_rmdir d n))))
  rmdir_at path =
      last_steps t (GoneAt path) (λ e h. absurd (not_done e h)) EBUSY path (λ cs d n. there (row_rmdir d n))
      (λ front cs d m p s is. there_ends t (GoneAt path) (λ e h. absurd (not_done e h)) (row_rmdir d m) (child t d m)
      (λ c at. rmdir_end path front cs d m c p s is at))

  -- ---- rename

  abbrev MovedTo : List (List ℕ) → Child → Outcome → Type 0
  MovedTo path c o = is_some_change o.changes ≡ true → at_path (changed t o.changes) path ≡ Some c

  moved_refused : (path : List (List ℕ)) (c : Child) (e : Errno) → MovedTo path c (record { answer = Refused e; grants = []; changes = [] })
  moved_refused path c e h = absurd (cc)

  -- the tree with the new name, before what stood there is dealt with
  led_tree : Fid → List ℕ → Child → Fid → List ℕ → Tree
  led_tree d n c e k = change (change t (Drops d n)) (Leads e k c)

  led_here : (d : Fid) (n : List ℕ) (c : Child) (e : Fid) (k : List ℕ) → child (led_tree d n c e k) e k ≡ Some c
  unfolding led_tree
  led_here d n c e k = name_after (change t (Drops d n)) (Leads e k c) e k
      ∙ ap (λ v. if v then Some c else child (change t (Drops d n)) e k) (itself e k)

  led_there : (d : Fid) (n : List ℕ) (c : Child) (e : Fid) (k : List ℕ) (a : Fid) (j : List ℕ) (b : Child) → child t a j ≡ Some b
      → here d n a j ≡ false → here e k a j ≡ false → child (led_tree d n c e k) a j ≡ Some b
  unfolding led_tree
  led_there d n c e k a j b at one two = led (change t (Drops d n)) e k c a j b (dropped d n a j b at one) two

  -- the moved inode is not on the way
  Apart : Child → Child → Type 0
  Apart c b = (c ≡ b → ⊥)

  apart_dirs : (f : Fid) (cs : List Child) → passes (Dir f) cs ≡ false → Every (Apart (Dir f)) cs
  unfolding Apart
  apart_dirs f [] h = tt
  apart_dirs f (b ∷ cs) h = (
    λ q. absurd (hit (same_fid (fid_of b) f) (passes (Dir f) cs) (self b q) h),
    apart_dirs f cs (rest (same_fid (fid_of b) f) (passes (Dir f) cs) h),
  )
    where
      hit : (v w : Bool) → v ≡ true → (v || w) ≡ false → ⊥
      hit true w e h = absurd (cc)
      hit false w e h = absurd (cc)

      rest : (v w : Bool) → (v || w) ≡ false → w ≡ false
      rest true w h = absurd (cc)
      rest false w h = h

      self : (b : Child) → Dir f ≡ b → same_fid (fid_of b) f ≡ true
      self b q = ap (λ c. same_fid (fid_of c) f) (sym q) ∙ eq-eqb f.0 f.0 refl

  apart_files : (f : Fid) (cs : List Child) → Every IsDir cs → Every (Apart (File f)) cs
  unfolding Apart
  apart_files f [] h = tt
  apart_files f (b ∷ cs) h = (λ q. absurd (kinds h.0.0 (q ∙ h.0.1)), apart_files f cs h.1)
    where
      kinds : (x : Fid) → File f ≡ Dir x → ⊥
      kinds x q = absurd (cc)

  -- what the new name led to before is not on the way either
  Clear : Fid → List ℕ → Child → Type 0
  Clear e k b = (child t e k ≡ Some b → ⊥)

  -- where u has the names of the tree with the new name
  end_moved : (u : Tree) (path front : List (List ℕ)) (cs : List Child) (d : Fid) (n : List ℕ) (c : Child) (e : Fid) (k : List ℕ)
      → ((a : Fid) (j : List ℕ) → child u a j ≡ child (led_tree d n c e k) a j)
      → path ≡ front ++ k ∷ [] → Steps t root front cs → last_of root cs ≡ Dir e → child t d n ≡ Some c → Every (Apart c) cs
      → Every (Clear e k) cs → at_path u path ≡ Some c
  unfolding Apart Clear
  end_moved u path front cs d n c e k same p s is at one two =
      path_after t u number new path front cs e k p s is
      (every_good (λ b. Apart c b × Clear e k b) (Good t u number new) cs
      (λ b w a j ne there. same a j ∙ led_there d n c e k a j b there
      (differs t d n a j (Some c) (Some b) at there (λ q. w.0 (some_same c b q))) (elsewhere e k a j b there w.1))
      (every_both (Apart c) (Clear e k) cs one two))
      ∙ same e k ∙ led_here d n c e k
    where
      elsewhere : (e : Fid) (k : List ℕ) (a : Fid) (j : List ℕ) (b : Child) → child t a j ≡ Some b → (child t e k ≡ Some b → ⊥)
          → here e k a j ≡ false
      elsewhere e k a j b at apart = differs t e k a j (child t e k) (Some b) refl at apart

  clear_free : (e : Fid) (k : List ℕ) (cs : List Child) → child t e k ≡ None → Every (Clear e k) cs
  unfolding Clear
  clear_free e k cs free = every_all (Clear e k) cs (λ b q. absurd (cc (q, free)))

  clear_file : (e : Fid) (k : List ℕ) (g : Fid) (cs : List Child) → child t e k ≡ Some (File g) → Every IsDir cs → Every (Clear e k) cs
  unfolding Clear
  clear_file e k g cs at h = every_good IsDir (Clear e k) cs (λ b w q. absurd (kinds w.0 (some_same (File g) b (sym at ∙ q) ∙ w.1))) h
    where
      kinds : (x : Fid) → File g ≡ Dir x → ⊥
      kinds x q = absurd (cc)

  clear_dir : (e : Fid) (k : List ℕ) (g : Fid) (cs : List Child) → child t e k ≡ Some (Dir g) → listing t g ≡ [] → Every (IsParent t) cs
      → Every (Clear e k) cs
  unfolding Clear
  clear_dir e k g cs at none h = every_good (IsParent t) (Clear e k) cs
      (λ b w q. absurd (full w.0 w.1.1.0 w.1.1.1.0 w.1.1.1.1 (some_same (Dir g) b (sym at ∙ q) ∙ w.1.0))) h
    where
      dir_same : (x : Fid) → Dir g ≡ Dir x → g ≡ x
      dir_same x q = cc

      full : (x : Fid) (j : List ℕ) (b : Child) → child t x j ≡ Some b → Dir g ≡ Dir x → ⊥
      full x j b there q = empty_none t g j b none (ap (λ f. child t f j) (dir_same x q) ∙ there)

  apart_all : (c : Child) (cs : List Child) → passes c cs ≡ false → Every IsDir cs → Every (Apart c) cs
  apart_all (Dir f) cs p h = apart_dirs f cs p
  apart_all (File f) cs p h = apart_files f cs h

  replace_end : (path front : List (List ℕ)) (cs : List Child) (d : Fid) (n : List ℕ) (c : Child) (e : Fid) (k : List ℕ) (g : Child) → path
      ≡ front ++ k ∷ [] → Steps t root front cs → last_of root cs ≡ Dir e
      → child t d n ≡ Some c → child t e k ≡ Some g → passes c cs ≡ false → MovedTo path c (outcome t (row_replace d n c e k g))
  unfolding led_tree
  replace_end path front cs d n (Dir f) e k (File g) p s is at there ps = moved_refused path (Dir f) ENOTDIR
  replace_end path front cs d n (File f) e k (Dir g) p s is at there ps = moved_refused path (File f) EISDIR
  replace_end path front cs d n (Dir f) e k (Dir g) p s is at there ps =
      if_empty_ends t (MovedTo path (Dir f)) (moved_refused path (Dir f)) (listing t g) (moves d n (Dir f) e k (Parted g ∷ Leaves g ∷ []))
      (λ none h. end_moved (changed t (Drops d n ∷ Leads e k (Dir f) ∷ Parted f ∷ Parted g ∷ Leaves g ∷ [])) path front cs d n (Dir f) e k
      (λ a j. name_after (change (change t (Drops d n)) (Leads e k (Dir f))) (Leaves g) a j) p s is at
      (apart_all (Dir f) cs ps (dirs t root front cs e s is)) (clear_dir e k g cs there none
      (parents t root front cs e k (Dir g) s is there)))
  replace_end path front cs d n (File f) e k (File g) p s is at there ps =
      λ h. end_moved (changed t (Drops d n ∷ Leads e k (File f) ∷ Parted f ∷ Parted g ∷ SetLinks g ((attributes t (File g)).links - 1)
      ∷ [])) path front cs d n (File f) e k (λ a j. refl) p s is at
      (apart_all (File f) cs ps (dirs t root front cs e s is)) (clear_file e k g cs there (dirs t root front cs e s is))

  rename_end : (path front : List (List ℕ)) (cs : List Child) (d : Fid) (n : List ℕ) (c : Child) (e : Fid) (k : List ℕ) (o : Option Child)
      → path ≡ front ++ k ∷ [] → Steps t root front cs → last_of root cs ≡ Dir e
      → child t d n ≡ Some c → child t e k ≡ o → MovedTo path c (outcome t (row_rename d n c cs e k o))
  unfolding led_tree
  rename_end path front cs d n c e k None p s is at there =
      cond_both (passes c cs) (Refuse EINVAL) (moves d n c e k []) (λ x. MovedTo path c (outcome t x)) (λ _. moved_refused path c EINVAL)
      (λ ps h. end_moved (changed t (Drops d n ∷ Leads e k c ∷ Parted (fid_of c) ∷ [])) path front cs d n c e k (λ a j. refl) p s is at
      (apart_all c cs ps (dirs t root front cs e s is)) (clear_free e k cs there))
  rename_end path front cs d n c e k (Some g) p s is at there =
      cond_both (same_fid (fid_of g) (fid_of c)) (tells told.Done []) (if passes c cs then Refuse EINVAL else row_replace d n c e k g)
      (λ x. MovedTo path c (outcome t x)) (λ _ h. absurd (cc))
      (λ _. cond_both (passes c cs) (Refuse EINVAL) (row_replace d n c e k g) (λ x. MovedTo path c (outcome t x))
      (λ _. moved_refused path c EINVAL)
      (λ ps. replace_end path front cs d n c e k g p s is at there ps))

  abbrev MovedAt : List (List ℕ) → List (List ℕ) → Outcome → Type 0
  MovedAt old new o = is_some_change o.changes ≡ true → at_path (changed t o.changes) new ≡ at_path t old

  moved_none : (old new : List (List ℕ)) (e : Errno) → MovedAt old new (record { answer = Refused e; grants = []; changes = [] })
  moved_none old new e h = absurd (cc)

  rename_at : (old new : List (List ℕ)) → MovedAt old new (outcome t (rename old new))
  rename_at old [] = moved_none old [] EBUSY
  rename_at old (m ∷ ms) =
      last_steps t (MovedAt old (m ∷ ms)) (moved_none old (m ∷ ms)) EBUSY old
      (λ cs d n. there (λ c. walk_up root m ms (λ cs e m. row_rename d n c cs e m)))
      (λ front cs d n p s is. there_ends t (MovedAt old (m ∷ ms)) (moved_none old (m ∷ ms))
      (λ c. walk_up root m ms (λ cs e m. row_rename d n c cs e m)) (child t d n)
      (λ c at. up_steps t (MovedAt old (m ∷ ms)) (moved_none old (m ∷ ms)) ms m (λ cs e m. row_rename d n c cs e m)
      (λ front' cs' e k p' s' is' h. rename_end (m ∷ ms) front' cs' d n c e k (child t e k) p' s' is' at refl h
      ∙ sym (path_before t old front cs d n p s is ∙ at))))

  -- the old name leads nowhere then
  LeftAt : Fid → List ℕ → Outcome → Type 0
  LeftAt d n o = is_some_change o.changes ≡ true → child (changed t o.changes) d n ≡ None

  left_refused : (d : Fid) (n : List ℕ) (e : Errno) → LeftAt d n (record { answer = Refused e; grants = []; changes = [] })
  unfolding LeftAt
  left_refused d n e h = absurd (cc)

  left_names : (u : Tree) (d : Fid) (n : List ℕ) (c : Child) (e : Fid) (k : List ℕ) → child u d n ≡ child (led_tree d n c e k) d n
      → here e k d n ≡ false → child u d n ≡ None
  unfolding led_tree
  left_names u d n c e k same apart = same ∙ name_after (change t (Drops d n)) (Leads e k c) d n
      ∙ ap (λ v. if v then Some c else child (change t (Drops d n)) d n) apart ∙ nothing d n

  left_replace : (d : Fid) (n : List ℕ) (c : Child) (e : Fid) (k : List ℕ) (g : Child) → here e k d n ≡ false
      → LeftAt d n (outcome t (row_replace d n c e k g))
  unfolding LeftAt led_tree
  left_replace d n (Dir f) e k (File g) apart = left_refused d n ENOTDIR
  left_replace d n (File f) e k (Dir g) apart = left_refused d n EISDIR
  left_replace d n (Dir f) e k (Dir g) apart =
      if_empty_ends t (LeftAt d n) (left_refused d n) (listing t g) (moves d n (Dir f) e k (Parted g ∷ Leaves g ∷ []))
      (λ none h. left_names (changed t (Drops d n ∷ Leads e k (Dir f) ∷ Parted f ∷ Parted g ∷ Leaves g ∷ [])) d n (Dir f) e k
      (name_after (change (change t (Drops d n)) (Leads e k (Dir f))) (Leaves g) d n) apart)
  left_replace d n (File f) e k (File g) apart = λ h. left_names
      (changed t (Drops d n ∷ Leads e k (File f) ∷ Parted f ∷ Parted g ∷ SetLinks g ((attributes t (File g)).links - 1) ∷ [])) d n (File f)
      e k refl apart

  left_end : (d : Fid) (n : List ℕ) (c : Child) (cs : List Child) (e : Fid) (k : List ℕ) (o : Option Child) → child t d n ≡ Some c
      → child t e k ≡ o → LeftAt d n (outcome t (row_rename d n c cs e k o))
  unfolding LeftAt led_tree
  left_end d n c cs e k None at there =
      cond_both (passes c cs) (Refuse EINVAL) (moves d n c e k []) (λ x. LeftAt d n (outcome t x)) (λ _. left_refused d n EINVAL)
      (λ _ h. left_names (changed t (Drops d n ∷ Leads e k c ∷ Parted (fid_of c) ∷ [])) d n c e k refl
      (differs t e k d n None (Some c) there at (λ q. absurd (cc))))
  left_end d n c cs e k (Some g) at there =
      cond_both (same_fid (fid_of g) (fid_of c)) (tells told.Done []) (if passes c cs then Refuse EINVAL else row_replace d n c e k g)
      (λ x. LeftAt d n (outcome t x)) (λ _ h. absurd (cc))
      (λ ne. cond_both (passes c cs) (Refuse EINVAL) (row_replace d n c e k g) (λ x. LeftAt d n (outcome t x))
      (λ _. left_refused d n EINVAL)
      (λ _. left_replace d n c e k g (differs t e k d n (Some g) (Some c) there at (λ q. unequal ne (some_same g c q)))))
    where
      unequal : same_fid (fid_of g) (fid_of c) ≡ false → g ≡ c → ⊥
      unequal ne q = let h : same_fid (fid_of g) (fid_of c) ≡ true = ap (λ x. same_fid (fid_of g) (fid_of x)) (sym q)
          ∙ eq-eqb (fid_of g).0 (fid_of g).0 refl in absurd (cc (h, ne))

  -- for the directory and the name that the walk of the old path came to
  LeftOf : List (List ℕ) → Outcome → Type 0
  LeftOf old o = is_some_change o.changes ≡ true → (front : List (List ℕ)) (n : List ℕ) (d : Fid) → old ≡ front ++ n ∷ [] → at_path t front
      ≡ Some (Dir d) → child (changed t o.changes) d n ≡ None

  rename_left : (old to : List (List ℕ)) → LeftOf old (outcome t (rename old to))
  unfolding LeftOf LeftAt
  rename_left old [] = λ h. absurd (cc)
  rename_left old (m ∷ ms) =
      last_steps t (LeftOf old) none EBUSY old (λ cs d n. there (λ c. walk_up root m ms (λ cs e m. row_rename d n c cs e m)))
      (λ front cs d n p s is. there_ends t (LeftOf old) none (λ c. walk_up root m ms (λ cs e m. row_rename d n c cs e m)) (child t d n)
      (λ c at. up_steps t (LeftOf old) none ms m (λ cs e m. row_rename d n c cs e m)
      (λ front' cs' e k p' s' is' h front2 n2 d2 p2 leads2. at_one front cs d n c cs' e k front2 n2 d2 s is
      (one_front front front2 n n2 (sym p ∙ p2)) leads2 (left_end d n c cs' e k (child t e k) at refl h))))
    where
      none : (e : Errno) → LeftOf old (record { answer = Refused e; grants = []; changes = [] })
      none e h = absurd (cc)

      one_dir : (d d2 : Fid) → Dir d ≡ Dir d2 → d ≡ d2
      one_dir d d2 q = cc

      at_one : (front : List (List ℕ)) (cs : List Child) (d : Fid) (n : List ℕ) (c : Child) (cs' : List Child) (e : Fid) (k : List ℕ)
          (front2 : List (List ℕ)) (n2 : List ℕ) (d2 : Fid) → Steps t root front cs → last_of root cs ≡ Dir d → (front ≡ front2) × (n ≡ n2)
          → at_path t front2 ≡ Some (Dir d2)
          → child (changed t (outcome t (row_rename d n c cs' e k (child t e k))).changes) d n ≡ None
          → child (changed t (outcome t (row_rename d n c cs' e k (child t e k))).changes) d2 n2 ≡ None
      at_one front cs d n c cs' e k front2 n2 d2 s is same leads h =
          let q = one_dir d d2 (some_same (Dir d) (Dir d2) (sym (steps_lead t root front cs s ∙ ap Some is) ∙ ap (at_path t) same.0
          ∙ leads)) in
          subst (λ x. child (changed t (outcome t (row_rename d n c cs' e k (child t e k))).changes) x n2 ≡ None) q
          (subst (λ x. child (changed t (outcome t (row_rename d n c cs' e k (child t e k))).changes) d x ≡ None) same.1 h)

  -- ---- chmod and open

  abbrev ModeAt : List (List ℕ) → ℕ → Outcome → Type 0
  ModeAt path mode o = (c : Child) → o.answer ≡ told.Done → at_path t path ≡ Some c → (attributes (changed t o.changes) c).mode ≡ mode

  set_mode : (c : Child) (mode : ℕ) → (attributes (change t (SetMode c mode)) c).mode ≡ mode
  set_mode (Dir d) mode =
      ap (λ (a : Attributes). a.mode) (dir_mode_after t (SetMode (Dir d) mode) d)
      ∙ ap (λ v. (if v then record { mode = mode; links = 0 } else attributes t (Dir d)).mode) (eq-eqb d.0 d.0 refl)
  set_mode (File f) mode =
      ap (λ (a : Attributes). a.mode) (file_mode_after t (SetMode (File f) mode) f)
      ∙ ap (λ v. (if v then record { mode = mode; links = (attributes t (File f)).links } else attributes t (File f)).mode)
      (eq-eqb f.0 f.0 refl)

  chmod_at : (path : List (List ℕ)) (mode : ℕ) → ModeAt path mode (outcome t (walk root path (λ cs. row_chmod mode (last_of root cs))))
  chmod_at path mode =
      walk_steps t (ModeAt path mode) (λ e c h. absurd (not_done e h)) root path (λ cs. row_chmod mode (last_of root cs))
      (λ cs s. cond_both ((attributes t (last_of root cs)).mode == mode) (tells told.Done [])
      (does told.Done (SetMode (last_of root cs) mode ∷ [])) (λ x. ModeAt path mode (outcome t x))
      (λ b c h leads. ap (λ x. (attributes t x).mode) (same cs c s leads) ∙ stands (attributes t (last_of root cs)).mode mode b)
      (λ b c h leads. ap (λ x. (attributes (change t (SetMode (last_of root cs) mode)) x).mode) (same cs c s leads)
      ∙ set_mode (last_of root cs) mode))
    where
      same : (cs : List Child) (c : Child) → Steps t root path cs → at_path t path ≡ Some c → c ≡ last_of root cs
      same cs c s leads = some_same c (last_of root cs) (sym leads ∙ steps_lead t root path cs s)

      stands : (a b : ℕ) → (a == b) ≡ true → a ≡ b
      stands a b h = grind (arith, nat_tests, h)

  abbrev OpenAt : List (List ℕ) → Outcome → Type 0
  OpenAt path o = (f : Fid) (n : Txn) (l : Raid0) → o.answer ≡ told.OpenFile f n l → (at_path t path ≡ Some (File f)) × (l ≡ layout t f)
      × ((changed t o.changes).opens ≡ t.opens ++ record { number = number; life = who; fid = f } ∷ [])

  open_end : (path : List (List ℕ)) (c : Child) → at_path t path ≡ Some c → OpenAt path (outcome t (row_open number who c))
  open_end path (Dir d) leads f n l h = absurd (cc)
  open_end path (File g) leads f n l h =
      let e = same g f n l h in (
        leads ∙ ap (λ x. Some (File x)) e,
        sym (its g f n l h) ∙ ap (layout t) e,
        ap (λ x. t.opens ++ record { number = number; life = who; fid = x } ∷ []) e,
      )
    where
      same : (g f : Fid) (n : Txn) (l : Raid0) → told.OpenFile g number (layout t g) ≡ told.OpenFile f n l → g ≡ f
      same g f n l h = cc

      its : (g f : Fid) (n : Txn) (l : Raid0) → told.OpenFile g number (layout t g) ≡ told.OpenFile f n l → layout t g ≡ l
      its g f n l h = cc

  open_at : (path : List (List ℕ)) → OpenAt path (outcome t (walk root path (λ cs. row_open number who (last_of root cs))))
  open_at path = walk_steps t (OpenAt path) (λ e f n l h. absurd (cc)) root path (λ cs. row_open number who (last_of root cs))
      (λ cs s. open_end path (last_of root cs) (steps_lead t root path cs s))

pub paths_follow : PathsFollow
unfolding LeftOf
paths_follow osts t number who new =
    record {
      mkdir = λ path f h. mkdir_at t number who new path f h;
      create = λ path size count f h. create_at t number who new path (new_layout osts number size count) f h;
      link = λ old to h. linked old to h;
      unlink = λ path h. unlink_at t number who new path h;
      rmdir = λ path h. rmdir_at t number who new path h;
      rename = λ old to h. rename_at t number who new old to h;
      left = λ old to front n d p leads h. rename_left t number who new old to h front n d p leads;
      chmod = λ path mode c h leads. chmod_at t number who new path mode c h leads;
      opened = λ path f n l h. open_at t number who new path f n l h;
    }
  where
    linked : (old to : List (List ℕ)) → (outcome t (walk root old (λ cs. row_link to (last_of root cs)))).answer ≡ told.Done
        → at_path (changed t (outcome t (walk root old (λ cs. row_link to (last_of root cs)))).changes) to ≡ at_path t old
    linked old to =
        walk_steps t (λ o. o.answer ≡ told.Done → at_path (changed t o.changes) to ≡ at_path t old)
        (λ e h. absurd (not_done t number who new e h)) root old (λ cs. row_link to (last_of root cs))
        (λ cs s h. link_at t number who new to (last_of root cs) h ∙ sym (steps_lead t root old cs s))
