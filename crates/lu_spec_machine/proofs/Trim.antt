-- Taking out the files that have left changes no answer.
use Rattle.std.proofs.Common.{◌≡◌, ℕ, ◌<◌, ◌⊎◌, inl, inr, Bool, true, false, not, List, [], ◌∷◌, ◌++◌, Some, refl, sym, ap, subst, ◌∙◌}
use Rattle.std.proofs.Common.{⊎_elim, arith}
use Rattle.std.specs.Prelude.{◌||◌, nat_lt, if◌then◌else◌}
use Rattle.std.specs.List.{filter}
use Rattle.std.specs.Option.{unwrap_or}
use Rattle.std.specs.Map.{keys_of, lookup}
use Rattle.std.proofs.lemmas.Bool.{cond_both, lt-ltb}
use Rattle.lu_base.specs.declared.ids.Fid.{Fid}
use Rattle.lu_base.specs.declared.ids.Txn.{Txn}
use Rattle.lu_part.specs.declared.parts.Part.{Part}
use Rattle.lu_spec_machine.specs.declared.child.Child.{Child}
use Rattle.lu_spec_machine.specs.declared.child.Child.TheVariants.{Dir, File}
use Rattle.lu_spec_machine.specs.Name.{same_name}
use Rattle.lu_spec_machine.specs.Entries.{without}
use Rattle.lu_spec_machine.specs.Tree.{Tree, Directory, Inode, Opened, no_directory, no_file, same_fid, same_life, file, attributes}
use Rattle.lu_spec_machine.specs.Change.{Change, Leads, Drops, Parted, MakesDir, MakesFile, SetMode, SetLinks, Leaves, Opens, Closes}
use Rattle.lu_spec_machine.specs.Change.{new_directory, new_file, put_dir, put_file, put_name, leave, closed, change, changed}
use Rattle.lu_spec_machine.specs.Plan.{Outcome}
use Rattle.lu_spec_machine.specs.Table.{plan}
use Rattle.lu_spec_machine.specs.Footprint.{Operation, empty, after, outcome_of, touches, forget, Every, Apart}
use Rattle.lu_spec_machine.specs.Removal.{Item, Acts, Forgets, pick, contents, Clear, ClearOf, Untouched, UntouchedOf, Free, FreeOf}
use Rattle.lu_spec_machine.specs.Trim.{is_open, living, trim, trimmed, Above, Rising, Unseen, TrimmedRemoval, NamedHaveLinks}
use Rattle.lu_spec_machine.proofs.Effects.{file_put}
use Rattle.lu_spec_machine.proofs.Footprints.{every_map, every_one}
use Rattle.lu_spec_machine.proofs.Knows.{Bound, bound, plan_knows}
use Rattle.lu_spec_machine.proofs.Removal.{Views, same_known, removal_law, empty_older}
use Rattle.lu_spec_machine.proofs.Sound.{Sound, links, IsAlive, alive, sound_after}
use Rattle.lu_spec_machine.proofs.Stated.{comes, alike}

-- the contents are sound
last : List Item → ℕ
last [] = 1
last (Acts a ∷ past) = a.number.0
last (Forgets who ∷ past) = last past

above_last : (past : List Item) (n : ℕ) → Above past n → last past < n
unfolding last
above_last [] n h = h
above_last (Acts a ∷ past) n h = h.0
above_last (Forgets who ∷ past) n h = above_last past n h

sound : (osts : ℕ) (past : List Item) → Rising past → Sound (contents osts empty past) (last past)
unfolding last
sound osts [] r = record { counted = λ f. omega arith; fresh = λ f lt. refl }
sound osts (Acts a ∷ past) r =
    let t = contents osts empty past in
    sound_after t (last past) a.number a.who (sound osts past r.1) (above_last past a.number.0 r.0) (outcome_of osts t a) (comes osts t a)
sound osts (Forgets who ∷ past) r = let s = sound osts past r in record { counted = s.counted; fresh = s.fresh }

-- u has of t all but files that no name leads to
record Trims (t u : Tree) : Type 0 where
  dirs : u.dirs ≡ t.dirs
  opens : u.opens ≡ t.opens
  files : (f : Fid) → 0 < links t f → file u f ≡ file t f

-- the same while changes are made, for what was alive before them or is now
record During (start t u : Tree) : Type 0 where
  dirs : u.dirs ≡ t.dirs
  opens : u.opens ≡ t.opens
  files : (f : Fid) → (0 < links start f) ⊎ (0 < links t f) → file u f ≡ file t f

put_both : (start t u : Tree) (g : Fid) (x y : Inode) → y ≡ x → During start t u → (f : Fid) → (0 < links start f)
    ⊎ (0 < links (record t { files = put_file g x t.files }) f)
    → unwrap_or (lookup (same_fid f) (put_file g y u.files)) no_file ≡ unwrap_or (lookup (same_fid f) (put_file g x t.files)) no_file
put_both start t u g x y e d f a = file_put g y f u.files ∙ by (same_fid g f) refl ∙ sym (file_put g x f t.files)
  where
    by : (b : Bool) → same_fid g f ≡ b → (if b then y else file u f) ≡ (if b then x else file t f)
    by true q = e
    by false q =
        let i : unwrap_or (lookup (same_fid f) (put_file g x t.files)) no_file ≡ file t f = file_put g x f t.files
        ∙ ap (λ b. if b then x else file t f) q in
        d.files f (⊎_elim (λ (l : 0 < links start f). inl l) (λ (l : 0 < links (record t { files = put_file g x t.files }) f). inr
        (subst (λ (n : Inode). 0 < n.links) i l)) a)

with_files : (start t u : Tree) (g : Fid) (x y : Inode) → y ≡ x → During start t u
    → During start (record t { files = put_file g x t.files }) (record u { files = put_file g y u.files })
with_files start t u g x y e d = record { dirs = d.dirs; opens = d.opens; files = put_both start t u g x y e d }

with_dirs : (start t u : Tree) (f : List (Fid × Directory) → List (Fid × Directory)) → During start t u
    → During start (record t { dirs = f t.dirs }) (record u { dirs = f u.dirs })
with_dirs start t u f d = record { dirs = ap f d.dirs; opens = d.opens; files = d.files }

with_opens : (start t u : Tree) (f : List Opened → List Opened) → During start t u
    → During start (record t { opens = f t.opens }) (record u { opens = f u.opens })
with_opens start t u f d = record { dirs = d.dirs; opens = ap f d.opens; files = d.files }

step : (start t u : Tree) (number : Txn) (x : Change) → Bound (IsAlive start) number x → During start t u
    → During start (change t x) (change u x)
step start t u number (Leads d n c) b h = with_dirs start t u (λ ds. put_dir d
    (record {
      mode = (unwrap_or (lookup (same_fid d) ds) no_directory).mode;
      entries =
          put_name n c (unwrap_or (lookup (same_fid d) ds) no_directory).entries;
    }) ds) h
step start t u number (Drops d n) b h = with_dirs start t u (λ ds. put_dir d
    (record {
      mode = (unwrap_or (lookup (same_fid d) ds) no_directory).mode;
      entries =
          without (same_name n) (unwrap_or (lookup (same_fid d) ds) no_directory).entries;
    }) ds) h
step start t u number (Parted f) b h = h
step start t u number (MakesDir f) b h = with_dirs start t u (put_dir f new_directory) h
step start t u number (MakesFile f l) b h = with_files start t u f (new_file l) (new_file l) refl h
step start t u number (SetMode (Dir d) m) b h = with_dirs start t u
    (λ ds. put_dir d (record { mode = m; entries = (unwrap_or (lookup (same_fid d) ds) no_directory).entries }) ds) h
step start t u number (SetMode (File f) m) b h =
    let e = h.files f (inl b) in
    with_files start t u f (record { mode = m; links = (file t f).links; layout = (file t f).layout })
    (record { mode = m; links = (file u f).links; layout = (file u f).layout })
    (ap (λ (i : Inode). record { mode = m; links = i.links; layout = i.layout }) e) h
step start t u number (SetLinks f n) b h =
    let e = h.files f (inl b) in
    with_files start t u f (record { mode = (file t f).mode; links = n; layout = (file t f).layout })
    (record { mode = (file u f).mode; links = n; layout = (file u f).layout })
    (ap (λ (i : Inode). record { mode = i.mode; links = n; layout = i.layout }) e) h
step start t u number (Leaves d) b h = with_dirs start t u (λ ds. leave d (unwrap_or (lookup (same_fid d) ds) no_directory).entries ds) h
step start t u number (Opens k l f) b h = with_opens start t u (λ os. os ++ record { number = k; life = l; fid = f } ∷ []) h
step start t u number (Closes k l) b h = with_opens start t u (closed k l) h

steps : (start t u : Tree) (number : Txn) (xs : List Change) → Every (Bound (IsAlive start) number) xs → During start t u
    → During start (changed t xs) (changed u xs)
steps start t u number [] b h = h
steps start t u number (x ∷ xs) b h = steps start (change t x) (change u x) number xs b.1 (step start t u number x b.0 h)

living_found : (os : List Opened) (f : Fid) (es : List (Fid × Inode)) → 0 < (unwrap_or (lookup (same_fid f) es) no_file).links
    → unwrap_or (lookup (same_fid f) (living os es)) no_file ≡ unwrap_or (lookup (same_fid f) es) no_file
living_found os f [] a = refl
living_found os f (e ∷ es) a = by (same_fid f e.0) refl (nat_lt 0 e.1.links || is_open e.0 os) refl a (living_found os f es)
  where
    by : (b : Bool) → same_fid f e.0 ≡ b → (v : Bool) → (nat_lt 0 e.1.links || is_open e.0 os) ≡ v
        → 0 < (unwrap_or (if b then Some e.1 else lookup (same_fid f) es) no_file).links
        → (0 < (unwrap_or (lookup (same_fid f) es) no_file).links → unwrap_or (lookup (same_fid f) (living os es)) no_file
        ≡ unwrap_or (lookup (same_fid f) es) no_file)
        → unwrap_or (lookup (same_fid f) (if v then e ∷ living os es else living os es)) no_file
        ≡ unwrap_or (if b then Some e.1 else lookup (same_fid f) es) no_file
    by true p true q h ih = ap (λ b. unwrap_or (if b then Some e.1 else lookup (same_fid f) (living os es)) no_file) p
    by true p false q h ih = let l : nat_lt 0 e.1.links ≡ true = lt-ltb 0 e.1.links h
        in absurd (cc (subst (λ b. (b || is_open e.0 os) ≡ false) l q))
    by false p true q h ih = ap (λ b. unwrap_or (if b then Some e.1 else lookup (same_fid f) (living os es)) no_file) p ∙ ih h
    by false p false q h ih = ih h

trim_end : (start t u : Tree) → During start t u → Trims t (trim u)
trim_end start t u d =
    record {
      dirs = d.dirs;
      opens = d.opens;
      files = λ f a. let e = d.files f (inr a) in living_found u.opens f u.files (subst (λ (i : Inode). 0 < i.links) (sym e) a) ∙ e;
    }

views : (t u : Tree) (k : ℕ) → Sound t k → Trims t u → Views (IsAlive t) (λ p. Unit {0}) t u
views t u k s h =
    record {
      name = λ d n _ _. ap (λ ds. lookup (same_name n) (unwrap_or (lookup (same_fid d) ds) no_directory).entries) (sym h.dirs);
      list = λ d _ _. ap (λ ds. keys_of (unwrap_or (lookup (same_fid d) ds) no_directory).entries) (sym h.dirs);
      attr = λ c _ a. attr c a;
      layout = λ f _ a. ap (λ (i : Inode). i.layout) (sym (h.files f a));
      older = λ d n c is. alive t k s d n c (ap (λ ds. lookup (same_name n) (unwrap_or (lookup (same_fid d) ds) no_directory).entries)
          (sym h.dirs) ∙ is);
    }
  where
    attr : (c : Child) → IsAlive t c → attributes t c ≡ attributes u c
    attr (Dir d) a = ap (λ ds. record { mode = (unwrap_or (lookup (same_fid d) ds) no_directory).mode; links = 0 }) (sym h.dirs)
    attr (File f) a = ap (λ (i : Inode). record { mode = i.mode; links = i.links }) (sym (h.files f a))

same_outcome : (osts : ℕ) (t u : Tree) (k : ℕ) (a : Operation) → Sound t k → Trims t u → (outcome_of osts t a ≡ outcome_of osts u a)
    × (touches osts t a ≡ touches osts u a)
same_outcome osts t u k a s h = same_known (IsAlive t) (λ p. Unit {0}) t u (views t u k s h) (plan osts a.number a.who a.op)
    (plan_knows (IsAlive t) tt osts a.number a.who a.op) (every_one (λ p. Unit {0}) (touches osts t a) (λ p. tt))

begins : (t u : Tree) → Trims t u → During t t u
begins t u h = record {
  dirs = h.dirs;
  opens = h.opens;
  files =
      λ f a. h.files f (⊎_elim (λ (l : 0 < links t f). l) (λ (l : 0 < links t f). l) a);
}

trims : (osts : ℕ) (past : List Item) → Rising past → Trims (contents osts empty past) (trimmed osts past)
trims osts [] r = record { dirs = refl; opens = refl; files = λ f a. refl }
trims osts (Acts a ∷ past) r =
    let t = contents osts empty past in
    let u = trimmed osts past in
    let h = trims osts past r.1 in
    let s = sound osts past r.1 in
    let e = (same_outcome osts t u (last past) a s h).0 in
    let b = bound (IsAlive t) a.number t a.who tt (alive t (last past) s) (outcome_of osts t a) (comes osts t a) in
    subst (λ (x : Outcome). Trims (after osts t a) (trim (changed u x.changes))) e
    (trim_end t (after osts t a) (changed u (outcome_of osts t a).changes)
    (steps t t u a.number (outcome_of osts t a).changes b (begins t u h)))
trims osts (Forgets who ∷ past) r =
    let t = contents osts empty past in
    let u = trimmed osts past in
    trim_end t (forget t who) (forget u who) (with_opens t t u (λ os. filter (λ o. not (same_life o.life who)) os)
    (begins t u (trims osts past r)))

pub unseen : Unseen
unseen osts past r a =
    let s = same_outcome osts (contents osts empty past) (trimmed osts past) (last past) a (sound osts past r) (trims osts past r) in
    alike osts (contents osts empty past) (trimmed osts past) a s.0 s.1

-- ---- the removal law of the trimmed tree

above_pick : (keep : ℕ → Bool) (past : List Item) (n : ℕ) → Above past n → Above (pick keep past) n
above_pick keep [] n h = h
above_pick keep (Acts a ∷ past) n h = cond_both (keep a.number.0) (Acts a ∷ pick keep past) (pick keep past) (λ is. Above is n)
    (λ _. (h.0, above_pick keep past n h.1)) (λ _. above_pick keep past n h.1)
above_pick keep (Forgets who ∷ past) n h = above_pick keep past n h

rising_pick : (keep : ℕ → Bool) (past : List Item) → Rising past → Rising (pick keep past)
rising_pick keep [] r = r
rising_pick keep (Acts a ∷ past) r = cond_both (keep a.number.0) (Acts a ∷ pick keep past) (pick keep past) Rising
    (λ _. (above_pick keep past a.number.0 r.0, rising_pick keep past r.1)) (λ _. rising_pick keep past r.1)
rising_pick keep (Forgets who ∷ past) r = rising_pick keep past r

clear_kept : (osts : ℕ) (keep : ℕ → Bool) (past : List Item) (p : Part) → Rising past → ClearOf osts keep (trimmed osts) past p
    → Clear osts empty keep past p
clear_kept osts keep [] p r c = c
clear_kept osts keep (Acts a ∷ past) p r c = (
  λ gone. subst (λ ws. Apart ws p) (sym (unseen osts past r.1 a).writes) (c.0 gone),
  clear_kept osts keep past p r.1 c.1,
)
clear_kept osts keep (Forgets who ∷ past) p r c = clear_kept osts keep past p r c

untouched_kept : (osts : ℕ) (keep : ℕ → Bool) (past : List Item) (a : Operation) → Rising past → UntouchedOf osts keep (trimmed osts) past a
    → Untouched osts empty keep past a
untouched_kept osts keep past a r h =
    every_map (ClearOf osts keep (trimmed osts) past) (Clear osts empty keep past) (touches osts (contents osts empty past) a)
    (λ p. clear_kept osts keep past p r)
    (subst (λ ps. Every (ClearOf osts keep (trimmed osts) past) ps) (sym (unseen osts past r a).touches) h)

free_kept : (osts : ℕ) (keep : ℕ → Bool) (past : List Item) → Rising past → FreeOf osts keep (trimmed osts) past → Free osts empty keep past
free_kept osts keep [] r f = f
free_kept osts keep (Acts a ∷ past) r f = (λ k. untouched_kept osts keep past a r.1 (f.0 k), free_kept osts keep past r.1 f.1)
free_kept osts keep (Forgets who ∷ past) r f = free_kept osts keep past r f

pub trimmed_removal : TrimmedRemoval
trimmed_removal osts keep root past r f a h =
    let one = unseen osts past r a in
    let two = removal_law osts empty keep root (empty_older keep) past (free_kept osts keep past r f) a
    (untouched_kept osts keep past a r h) in
    let three = unseen osts (pick keep past) (rising_pick keep past r) a in
    record {
      answer = sym one.answer ∙ two.answer ∙ three.answer;
      touches = sym one.touches ∙ two.touches ∙ three.touches;
      writes = sym one.writes ∙ two.writes ∙ three.writes;
      grants = sym one.grants ∙ two.grants ∙ three.grants;
      changes = sym one.changes ∙ two.changes ∙ three.changes;
    }

pub named_have_links : NamedHaveLinks
named_have_links osts past r d n f is = alive (contents osts empty past) (last past) (sound osts past r) d n (File f) is
