-- What is known of a call stays known while facts and held locks only grow, and what a reply taught is known: over facts and
-- held locks alone, of which those on one name agree.
use Rattle.std.proofs.Common.{◌≡◌, true, List, [], ◌∷◌, inl, Option, Some, None, refl, sym, subst}
use Rattle.lu_base.specs.declared.ids.Fid.{Fid}
use Rattle.lu_base.specs.declared.locks.Lock.{Lock}
use Rattle.lu_part.specs.declared.parts.Part.TheVariants as part
use Rattle.lu_msg.specs.declared.answers.Answer.{Answer}
use Rattle.lu_msg.specs.declared.answers.Answer.TheVariants as told
use Rattle.lu_msg.specs.declared.calls.Call.{Call}
use Rattle.lu_msg.specs.declared.calls.Call.TheVariants as call
use Rattle.lu_msg.specs.declared.operations.Op.{Op}
use Rattle.lu_msg.specs.declared.operations.Op.TheVariants as op
use Rattle.lu_spec_client.specs.Facts.{Fact, fact, root, names_taught, last_of, inode_taught, taught}
use Rattle.lu_spec_client.specs.Known.{Notes, same_part, fact_on, walked, found_at_path, Found, known_of, known_with, list_at, layout_at}
use Rattle.lu_spec_client.specs.Known.{directory_at}
use Rattle.lu_spec_machine.specs.Laws.{IsReading}
use Rattle.lu_spec_entries.specs.Carried.{HandleFile}
use Rattle.lu_proof_lawful.specs.Covered.Calls.{operation_of, told_as}
use Rattle.lu_proof_lawful.specs.Covered.Makes.{Path}
use Rattle.lu_proof_lawful.specs.Covered.Known.{told_of, known_answer}
use Rattle.lu_proof_lawful.proofs.Invariants.KnownPaths.{Usable, after_name}
use Rattle.lu_proof_lawful.proofs.Invariants.TaughtKnown.{Agrees, LeadsTo, AllUsable, Comes, fact_found, fact_there, name_there, same_inode}
use Rattle.lu_proof_lawful.proofs.Invariants.TaughtKnown.{led, led_to_directory, last_lock, of_names, of_last, inode_fact}
use Rattle.lu_proof_lawful.proofs.Preconditions.Guards.{IsToldAsIs}
use Rattle.lu_proof_lawful.proofs.Preconditions.Lists.{self}

-- ---- facts that can be used

-- what can be used in the one can be used in the other
abbrev pub Grows : Notes → Notes → Type 0
Grows n k = (f : Fact) → Usable n f → Usable k f

-- ---- a path

walked_more : (n k : Notes) → Grows n k → Agrees k → (names : Path) (a b : Answer) → (walked n names a).inode ≡ Some b
    → (walked k names a).inode ≡ Some b
walked_more n k more agrees [] a b e = e
walked_more n k more agrees (m ∷ names) (told.Dir d) b e = by (fact_on (part.Name d m) n) refl (λ v. walked_more n k more agrees names v b)
    e
  where
    by : (o : Option Fact) → fact_on (part.Name d m) n ≡ o → ((v : Answer) → (walked n names v).inode ≡ Some b → (walked k names v).inode
        ≡ Some b) → (after_name n names o).inode ≡ Some b
        → (after_name k names (fact_on (part.Name d m) k)).inode ≡ Some b
    by None is rest e = absurd (cc)
    by (Some f) is rest e =
        let u = fact_found (part.Name d m) n f is in
        let g = name_there k agrees d m f (more f u.0) u.1 in
        subst (λ (o : Option Fact). (after_name k names o).inode ≡ Some b) (sym g.1.0)
        (subst (λ (v : Answer). (walked k names v).inode ≡ Some b) (sym g.1.1) (rest f.answer e))
walked_more n k more agrees (m ∷ names) a b e = absurd (cc)

-- ---- a call

-- what it asks can be told from what is known
abbrev pub IsKnown : Notes → Call → Type 0
IsKnown n (call.Lookup path) = (a : Answer) × LeadsTo n path a
IsKnown n (call.List path) = (d : Fid) × (LeadsTo n path (told.Dir d)
    × ((f : Fact) × (Usable n f × (same_part (part.List d) f.part ≡ true))))
IsKnown n (call.Layout path) = (d : Fid) × (LeadsTo n path (told.File d)
    × ((f : Fact) × (Usable n f × (same_part (part.Layout d) f.part ≡ true))))
IsKnown n (call.Stat path) = (d : Fid) × (LeadsTo n path (told.Dir d)
    × ((f : Fact) × (Usable n f × (same_part (part.Attr d) f.part ≡ true))))
IsKnown n _ = Unit {0}

pub known_more : (n k : Notes) → Grows n k → Agrees k → (c : Call) → IsKnown n c → IsKnown k c
known_more n k more agrees (call.Lookup path) h = (h.0, walked_more n k more agrees path (told.Dir root) h.0 h.1)
known_more n k more agrees (call.List path) h = (
  h.0,
  (
    walked_more n k more agrees path (told.Dir root) (told.Dir h.0) h.1.0,
    (h.1.1.0, (more h.1.1.0 h.1.1.1.0, h.1.1.1.1)),
  ),
)
known_more n k more agrees (call.Layout path) h = (
  h.0,
  (
    walked_more n k more agrees path (told.Dir root) (told.File h.0) h.1.0,
    (h.1.1.0, (more h.1.1.0 h.1.1.1.0, h.1.1.1.1)),
  ),
)
known_more n k more agrees (call.Stat path) h = (
  h.0,
  (
    walked_more n k more agrees path (told.Dir root) (told.Dir h.0) h.1.0,
    (h.1.1.0, (more h.1.1.0 h.1.1.1.0, h.1.1.1.1)),
  ),
)
known_more n k more agrees _ h = tt

-- ---- a call that is known is told

abbrev pub IsReadingCall : Call → Type 0
IsReadingCall (call.Lookup path) = Unit {0}
IsReadingCall (call.List path) = Unit {0}
IsReadingCall (call.Layout path) = Unit {0}
IsReadingCall (call.Stat path) = Unit {0}
IsReadingCall _ = ⊥

told_inode : (found : Found) (o : Option Answer) (a : Answer) → o ≡ Some a → told_of (known_of found o) ≡ None → ⊥
told_inode found None a e n = absurd (cc)
told_inode found (Some b) a e n = absurd (cc)

told_fact : (found : Found) (o : Option Fact) (f : Fact) → o ≡ Some f → told_of (known_with found o) ≡ None → ⊥
told_fact found None f e n = absurd (cc)
told_fact found (Some b) f e n = absurd (cc)

module _ (n : Notes) where
  told_list : (found : Found) (o : Option Answer) (d : Fid) (f : Fact) → o ≡ Some (told.Dir d) → Usable n f → same_part (part.List d) f.part
      ≡ true → told_of (list_at n found o) ≡ None → ⊥
  told_list found o d f e u s none =
      let g = fact_there (part.List d) n f u s in
      told_fact found (fact_on (part.List d) n) g.0 g.1 (subst (λ (v : Option Answer). told_of (list_at n found v) ≡ None) e none)

  told_layout : (found : Found) (o : Option Answer) (d : Fid) (f : Fact) → o ≡ Some (told.File d) → Usable n f
      → same_part (part.Layout d) f.part ≡ true → told_of (layout_at n found o) ≡ None → ⊥
  told_layout found o d f e u s none =
      let g = fact_there (part.Layout d) n f u s in
      told_fact found (fact_on (part.Layout d) n) g.0 g.1 (subst (λ (v : Option Answer). told_of (layout_at n found v) ≡ None) e none)

  told_directory : (found : Found) (o : Option Answer) (d : Fid) (f : Fact) → o ≡ Some (told.Dir d) → Usable n f
      → same_part (part.Attr d) f.part ≡ true → told_of (directory_at n found o) ≡ None → ⊥
  told_directory found o d f e u s none =
      let g = fact_there (part.Attr d) n f u s in
      told_fact found (fact_on (part.Attr d) n) g.0 g.1 (subst (λ (v : Option Answer). told_of (directory_at n found v) ≡ None) e none)

  pub known_told : (c : Call) → IsReadingCall c → IsKnown n c → known_answer n c ≡ None → ⊥
  known_told (call.Lookup path) r h none = told_inode (found_at_path n path) (found_at_path n path).inode h.0 h.1 none
  known_told (call.List path) r h none = told_list (found_at_path n path) (found_at_path n path).inode h.0 h.1.1.0 h.1.0 h.1.1.1.0 h.1.1.1.1
      none
  known_told (call.Layout path) r h none = told_layout (found_at_path n path) (found_at_path n path).inode h.0 h.1.1.0 h.1.0 h.1.1.1.0
      h.1.1.1.1 none
  known_told (call.Stat path) r h none = told_directory (found_at_path n path) (found_at_path n path).inode h.0 h.1.1.0 h.1.0 h.1.1.1.0
      h.1.1.1.1 none
  known_told _ r h none = r

-- and what is told from what is known is known
module _ (n : Notes) (a : Answer) where
  of_inode : (found : Found) (o : Option Answer) → told_of (known_of found o) ≡ Some a → (b : Answer) × (o ≡ Some b)
  of_inode found None e = absurd (cc)
  of_inode found (Some b) e = (b, refl)

  of_fact : (found : Found) (o : Option Fact) → told_of (known_with found o) ≡ Some a → (f : Fact) × (o ≡ Some f)
  of_fact found None e = absurd (cc)
  of_fact found (Some f) e = (f, refl)

  of_list : (found : Found) (o : Option Answer) → told_of (list_at n found o) ≡ Some a → (d : Fid)
      × ((o ≡ Some (told.Dir d)) × ((f : Fact) × (Usable n f × (same_part (part.List d) f.part ≡ true))))
  of_list found None e = absurd (cc)
  of_list found (Some (told.Dir d)) e = let f = of_fact found (fact_on (part.List d) n) e
      in (d, (refl, (f.0, fact_found (part.List d) n f.0 f.1)))
  of_list found (Some _) e = absurd (cc)

  of_layout : (found : Found) (o : Option Answer) → told_of (layout_at n found o) ≡ Some a → (d : Fid)
      × ((o ≡ Some (told.File d)) × ((f : Fact) × (Usable n f × (same_part (part.Layout d) f.part ≡ true))))
  of_layout found None e = absurd (cc)
  of_layout found (Some (told.File d)) e = let f = of_fact found (fact_on (part.Layout d) n) e
      in (d, (refl, (f.0, fact_found (part.Layout d) n f.0 f.1)))
  of_layout found (Some _) e = absurd (cc)

  of_directory : (found : Found) (o : Option Answer) → told_of (directory_at n found o) ≡ Some a → (d : Fid)
      × ((o ≡ Some (told.Dir d)) × ((f : Fact) × (Usable n f × (same_part (part.Attr d) f.part ≡ true))))
  of_directory found None e = absurd (cc)
  of_directory found (Some (told.Dir d)) e = let f = of_fact found (fact_on (part.Attr d) n) e
      in (d, (refl, (f.0, fact_found (part.Attr d) n f.0 f.1)))
  of_directory found (Some _) e = absurd (cc)

  pub told_known : (c : Call) → known_answer n c ≡ Some a → IsKnown n c
  told_known (call.Lookup path) e = of_inode (found_at_path n path) (found_at_path n path).inode e
  told_known (call.List path) e = of_list (found_at_path n path) (found_at_path n path).inode e
  told_known (call.Layout path) e = of_layout (found_at_path n path) (found_at_path n path).inode e
  told_known (call.Stat path) e = of_directory (found_at_path n path) (found_at_path n path).inode e
  told_known _ e = tt

-- ---- what a reply taught is known

module _ (n : Notes) (agrees : Agrees n) where
  taught_lookup : (path : Path) (a : Answer) (locks : List Lock) → Comes (op.Lookup path) a locks
      → AllUsable n (taught (op.Lookup path) a locks) → IsKnown n (call.Lookup path)
  taught_lookup [] a locks h u = (told.Dir root, refl)
  taught_lookup (m ∷ names) (told.Dir fid) locks h u = (told.Dir fid, led n agrees told.Dir m names locks fid h u)
  taught_lookup (m ∷ names) (told.File fid) locks h u = (told.File fid, led n agrees told.File m names locks fid h u)
  taught_lookup (m ∷ names) a locks h u = absurd h

  taught_stat : (path : Path) (a : Answer) (locks : List Lock) → Comes (op.Stat path) a locks → IsToldAsIs (call.Stat path) a
      → AllUsable n (taught (op.Stat path) a locks) → IsKnown n (call.Stat path)
  taught_stat path (told.DirStat fid mode) locks h as_is u =
      let facts = λ (l : Lock). fact (part.Attr fid) l (told.DirStat fid mode) ∷ [] in
      let names = names_taught told.Dir path locks in
      let l = last_lock n agrees path locks fid h in
      let f = inode_fact n agrees facts locks l.0 l.1.0 (of_last n agrees names (inode_taught facts (last_of locks)) u)
      (fact (part.Attr fid) l.0 (told.DirStat fid mode)) (inl refl) in (
        fid,
        (
          led_to_directory n agrees path locks fid h (of_names n agrees names (inode_taught facts (last_of locks)) u),
          (fact (part.Attr fid) l.0 (told.DirStat fid mode), (f, self fid.0)),
        ),
      )
  taught_stat path (told.FileStat fid mode links layout) locks h as_is u = absurd as_is
  taught_stat path a locks h as_is u = absurd h

  taught_list : (path : Path) (a : Answer) (locks : List Lock) → Comes (op.List path) a locks → AllUsable n (taught (op.List path) a locks)
      → IsKnown n (call.List path)
  taught_list path (told.Names list) locks h u =
      let facts = λ (l : Lock). fact (part.List l.resource.fid) l (told.Names list) ∷ [] in
      let names = names_taught told.Dir path locks in
      let l = last_lock n agrees path locks h.0 h.1 in
      let f = inode_fact n agrees facts locks l.0 l.1.0 (of_last n agrees names (inode_taught facts (last_of locks)) u)
      (fact (part.List l.0.resource.fid) l.0 (told.Names list)) (inl refl) in (
        h.0,
        (
          led_to_directory n agrees path locks h.0 h.1 (of_names n agrees names (inode_taught facts (last_of locks)) u),
          (fact (part.List l.0.resource.fid) l.0 (told.Names list), (f, same_inode h.0 l.0.resource.fid (sym l.1.1))),
        ),
      )
  taught_list path a locks h u = absurd h

  taught_layout : (path : Path) (a : Answer) (locks : List Lock) → Comes (op.Layout path) a locks
      → AllUsable n (taught (op.Layout path) a locks) → IsKnown n (call.Layout path)
  taught_layout [] a locks h u = absurd h
  taught_layout (m ∷ path) (told.Layout layout) locks h u =
      let facts = λ (l : Lock). fact (part.Layout l.resource.fid) l (told.Layout layout) ∷ [] in
      let names = names_taught told.File (m ∷ path) locks in
      let l = last_lock n agrees (m ∷ path) locks h.0 h.1 in
      let f = inode_fact n agrees facts locks l.0 l.1.0 (of_last n agrees names (inode_taught facts (last_of locks)) u)
      (fact (part.Layout l.0.resource.fid) l.0 (told.Layout layout)) (inl refl) in (
        h.0,
        (
          led n agrees told.File m path locks h.0 h.1 (of_names n agrees names (inode_taught facts (last_of locks)) u),
          (fact (part.Layout l.0.resource.fid) l.0 (told.Layout layout), (f, same_inode h.0 l.0.resource.fid (sym l.1.1))),
        ),
      )
  taught_layout (m ∷ path) a locks h u = absurd h

  -- the call that asked it
  pub taught_known : (file : Option HandleFile) (c : Call) (o : Op) → operation_of file c ≡ Some o → (a : Answer) (locks : List Lock)
      → (IsReading o → Comes o a locks) → IsToldAsIs c (told_as c a) → AllUsable n (taught o a locks)
      → IsKnown n c
  taught_known file (call.Lookup path) o e a locks h as_is u =
      let same : op.Lookup path ≡ o = cc in
      taught_lookup path a locks (subst (λ (v : Op). IsReading v → Comes v a locks) (sym same) h tt)
      (subst (λ (v : Op). AllUsable n (taught v a locks)) (sym same) u)
  taught_known file (call.Stat path) o e a locks h as_is u =
      let same : op.Stat path ≡ o = cc in
      taught_stat path a locks (subst (λ (v : Op). IsReading v → Comes v a locks) (sym same) h tt) as_is
      (subst (λ (v : Op). AllUsable n (taught v a locks)) (sym same) u)
  taught_known file (call.List path) o e a locks h as_is u =
      let same : op.List path ≡ o = cc in
      taught_list path a locks (subst (λ (v : Op). IsReading v → Comes v a locks) (sym same) h tt)
      (subst (λ (v : Op). AllUsable n (taught v a locks)) (sym same) u)
  taught_known file (call.Layout path) o e a locks h as_is u =
      let same : op.Layout path ≡ o = cc in
      taught_layout path a locks (subst (λ (v : Op). IsReading v → Comes v a locks) (sym same) h tt)
      (subst (λ (v : Op). AllUsable n (taught v a locks)) (sym same) u)
  taught_known file _ o e a locks h as_is u = tt
