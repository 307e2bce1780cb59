-- Locks cover the answers that they came with.
use Rattle.std.proofs.Common.{◌≡◌, ℕ, suc, ◌+◌, ◌<◌, Bool, true, false, List, [], ◌∷◌, Option, Some, None, refl, sym, ap, subst, ◌∙◌, arith}
use Rattle.std.specs.Prelude.{◌==◌, ◌&&◌, nat_lt, if◌then◌else◌}
use Rattle.std.proofs.lemmas.Bool.{eq-eqb, lt-ltb}
use Rattle.std.proofs.lemmas.Bool.Decides.{nat_tests}
use Rattle.lu_base.specs.declared.ids.Fid.{Fid}
use Rattle.lu_base.specs.declared.ids.Txn.{Txn}
use Rattle.lu_base.specs.declared.ids.Who.{Who}
use Rattle.lu_base.specs.declared.locks.Policy.TheVariants.{Bits}
use Rattle.lu_lock.specs.Overlap.{bits_meet, policies_meet}
use Rattle.lu_msg.specs.declared.answers.Answer.TheVariants as told
use Rattle.lu_msg.specs.declared.answers.Answer.TheVariants.{Refused}
use Rattle.lu_msg.specs.declared.answers.Errno.{Errno}
use Rattle.lu_msg.specs.declared.answers.Errno.TheVariants.{ENAMETOOLONG, ENOTDIR, ENOENT, EISDIR}
use Rattle.lu_msg.specs.declared.operations.Op.{Op}
use Rattle.lu_msg.specs.declared.operations.Op.TheVariants as op
use Rattle.lu_part.specs.Guards.{guard}
use Rattle.lu_part.specs.Meets.{meets}
use Rattle.lu_part.specs.declared.bits.TheConstants.{LOOKUP, UPDATE, LAYOUT}
use Rattle.lu_part.specs.declared.parts.Part.{Part}
use Rattle.lu_part.specs.declared.parts.Part.TheVariants as part
use Rattle.lu_part.specs.declared.parts.Want.{Want}
use Rattle.lu_spec_machine.specs.declared.child.Child.{Child}
use Rattle.lu_spec_machine.specs.declared.child.Child.TheVariants.{Dir, File}
use Rattle.lu_spec_machine.specs.Name.{is_too_long}
use Rattle.lu_spec_machine.specs.Tree.{Tree, Attributes, same_fid, fid_of, child, listing, attributes, layout}
use Rattle.lu_spec_machine.specs.Plan.{Plan, Refuse, Outcome, outcome}
use Rattle.lu_spec_machine.specs.Table.{root, look_in, there, walk, last_of, wants, tells, row_lookup, row_stat, row_list, row_layout, plan}
use Rattle.lu_spec_machine.specs.Footprint.{Operation, writes, after, Same, Every, Apart, inode_of}
use Rattle.lu_spec_machine.specs.Laws.{IsReading}
use Rattle.lu_spec_machine.specs.Removal.{Item, Acts, Forgets}
use Rattle.lu_spec_machine.specs.Trim.{Above}
use Rattle.lu_spec_machine.specs.Laws.{AllKept}
use Rattle.lu_spec_machine.specs.Covered.{cuts, Uncut, IsNew, LocksCover, AboveIsNew}
use Rattle.lu_spec_machine.proofs.Keys.{fid_tells}
use Rattle.lu_spec_machine.proofs.Leads.{leads_stay}
use Rattle.lu_spec_machine.proofs.Removal.{earlier_are_older}
use Rattle.lu_spec_machine.proofs.Stated.{others_stay, made_has_number}

-- parts of an inode that meet have one guard
abbrev IsOfInode : Part → Type 0
IsOfInode (part.Bytes f stripe extent) = ⊥
IsOfInode _ = Unit {0}

same_inode : (f g : Fid) → same_fid f g ≡ true → f ≡ g
same_inode f g h = let t = fid_tells f g in grind (arith, t, h)

first_true : (a b : Bool) → (a && b) ≡ true → a ≡ true
first_true true b h = refl
first_true false b h = h

same_guard : (w p : Part) → IsOfInode p → meets w p ≡ true → guard w ≡ guard p
same_guard (part.Name d n) (part.Name e m) i h = ap (λ f. guard (part.Attr f)) (same_inode d e (first_true (same_fid d e) _ h))
same_guard (part.Name d n) (part.List e) i h = ap (λ f. guard (part.Attr f)) (same_inode d e h)
same_guard (part.List d) (part.Name e m) i h = ap (λ f. guard (part.Attr f)) (same_inode d e h)
same_guard (part.List d) (part.List e) i h = ap (λ f. guard (part.Attr f)) (same_inode d e h)
same_guard (part.Attr d) (part.Attr e) i h = ap (λ f. guard (part.Attr f)) (same_inode d e h)
same_guard (part.Layout d) (part.Layout e) i h = ap (λ f. guard (part.Layout f)) (same_inode d e h)
same_guard (part.Parent d) (part.Parent e) i h = ap (λ f. guard (part.Parent f)) (same_inode d e h)
same_guard (part.Bytes f s x) (part.Bytes g r y) i h = absurd i
same_guard _ _ i h = absurd (cc)

-- a lock on a part's guard that nothing cuts keeps the part
kept_apart : (ws : List Part) (k : Want) (p : Part) → IsOfInode p → cuts p k ≡ true → Every (λ w. cuts w k ≡ false) ws → Apart ws p
kept_apart [] k p i h u = tt
kept_apart (w ∷ ws) k p i h u = (by (meets w p) refl, kept_apart ws k p i h u.1)
  where
    by : (b : Bool) → meets w p ≡ b → b ≡ false
    by false e = refl
    by true e =
        let g = same_guard w p i e in
        let z : cuts w k ≡ true = ap (λ x. same_fid x.0.fid k.fid && (x.0.stripe == 0 && policies_meet x.1 (Bits k.bits))) g ∙ h in
        absurd (cc (z, u.0))

-- a lock of the inode with the bit that guards the part
hit : (f g : Fid) (bit bits : ℕ) → f ≡ g → bits_meet bit bits ≡ true → (same_fid f g && (0 == 0 && bits_meet bit bits)) ≡ true
hit f g bit bits e h = ap (λ b. b && bits_meet bit bits) (eq-eqb f.0 g.0 (ap (λ (i : Fid). i.0) e)) ∙ h

-- each inode of the path has its LOOKUP, and the last its bits
parents : (ws : List Part) (more : ℕ) → bits_meet LOOKUP (LOOKUP + more) ≡ true → (cs : List Child) → Uncut ws (wants more cs)
    → Every (λ c. Apart ws (part.Parent (fid_of c))) cs
parents ws more h [] u = tt
parents ws more h (c ∷ []) u = (
  kept_apart ws (record { fid = fid_of c; bits = LOOKUP + more }) (part.Parent (fid_of c)) tt
      (hit (fid_of c) (fid_of c) LOOKUP (LOOKUP + more) refl h) u.0,
  tt,
)
parents ws more h (c ∷ d ∷ cs) u = (
  kept_apart ws (record { fid = fid_of c; bits = LOOKUP }) (part.Parent (fid_of c)) tt
      (hit (fid_of c) (fid_of c) LOOKUP LOOKUP refl refl) u.0,
  parents ws more h (d ∷ cs) u.1,
)

-- a part of an inode, and the bit that guards it
abbrev IsGuarded : Part → Fid → ℕ → Type 0
IsGuarded p f bit = (guard p).0 ≡ record { fid = f; stripe = 0 } × ((guard p).1 ≡ Bits bit) × IsOfInode p

guarded_hit : (p : Part) (f : Fid) (bit bits : ℕ) → IsGuarded p f bit → bits_meet bit bits ≡ true → cuts p (record { fid = f; bits = bits })
    ≡ true
guarded_hit p f bit bits g h =
    ap (λ r. same_fid r.fid f && (r.stripe == 0 && policies_meet (guard p).1 (Bits bits))) g.0
    ∙ ap (λ x. same_fid f f && policies_meet x (Bits bits)) g.1 ∙ ap (λ b. b && bits_meet bit bits) (eq-eqb f.0 f.0 refl) ∙ h

last_kept : (ws : List Part) (m bit : ℕ) (cs : List Child) (p : Part) → IsGuarded p (fid_of (last_of root cs)) bit → bits_meet bit (suc m)
    ≡ true → bits_meet bit (LOOKUP + suc m) ≡ true → Uncut ws (wants (suc m) cs) → Apart ws p
last_kept ws m bit [] p g h k u = kept_apart ws (record { fid = fid_of root; bits = suc m }) p g.2
    (guarded_hit p (fid_of root) bit (suc m) g h) u.0
last_kept ws m bit (c ∷ cs) p g h k u = go c cs g u
  where
    go : (c : Child) (cs : List Child) → IsGuarded p (fid_of (last_of c cs)) bit → Uncut ws (wants (suc m) (c ∷ cs)) → Apart ws p
    go c [] g u = kept_apart ws (record { fid = fid_of c; bits = LOOKUP + suc m }) p g.2 (guarded_hit p (fid_of c) bit (LOOKUP + suc m) g k)
        u.0
    go c (d ∷ cs) g u = go d cs g u.1

abbrev NotRefused : Outcome → Type 0
NotRefused o = (e : Errno) → o.answer ≡ Refused e → ⊥

module _ (osts : ℕ) (t : Tree) (a : Operation) (new : IsNew t a.number) where
  abbrev Other : Child → Type 0
  Other c = a.number.0 ≡ (fid_of c).0 → ⊥

  abbrev Stands : Child → Type 0
  Stands c = Apart (writes osts t a) (part.Parent (fid_of c))

  abbrev Walked : Child → List (List ℕ) → (List Child → Plan) → Type 0
  Walked at ns next =
      (cs : List Child) × (outcome t (walk at ns next) ≡ outcome t (next cs)) × Every Other cs
      × (Every Stands cs → outcome (after osts t a) (walk at ns next) ≡ outcome (after osts t a) (next cs))

  walked : (at : Child) (ns : List (List ℕ)) (next : List Child → Plan) → Other at → NotRefused (outcome t (walk at ns next))
      → Walked at ns next
  walked at [] next ne h = ([], refl, tt, λ _. refl)
  walked (File f) (n ∷ ns) next ne h = long (is_too_long n) h
    where
      long : (b : Bool) → NotRefused (outcome t (if b then Refuse ENAMETOOLONG else Refuse ENOTDIR)) → Walked (File f) (n ∷ ns) next
      long true h = absurd (h ENAMETOOLONG refl)
      long false h = absurd (h ENOTDIR refl)
  walked (Dir d) (n ∷ ns) next ne h = long (is_too_long n) refl h (λ c. walked c ns (λ cs. next (c ∷ cs)))
    where
      on : Child → Plan
      on c = walk c ns (λ cs. next (c ∷ cs))

      found : (o : Option Child) → child t d n ≡ o → is_too_long n ≡ false
          → NotRefused (outcome t (there (λ c. walk c ns (λ cs. next (c ∷ cs))) o))
          → ((c : Child) → Other c → NotRefused (outcome t (walk c ns (λ cs. next (c ∷ cs)))) → Walked c ns (λ cs. next (c ∷ cs)))
          → Walked (Dir d) (n ∷ ns) next
      found None e l h ih = absurd (h ENOENT refl)
      found (Some c) e l h ih =
          let w = ih c (new.1 d n c e) h in
          let look_t : outcome t (walk (Dir d) (n ∷ ns) next) ≡ outcome t (walk c ns (λ cs. next (c ∷ cs))) =
          ap (λ b. outcome t (if b then Refuse ENAMETOOLONG else look_in (Dir d) n (λ d. there (λ c. walk c ns (λ cs. next (c ∷ cs)))))) l
          ∙ ap (λ o. outcome t (there (λ c. walk c ns (λ cs. next (c ∷ cs))) o)) e in (
            c ∷ w.0,
            look_t ∙ w.1,
            (new.1 d n c e, w.2),
            λ apart.
                let e' : child (after osts t a) d n ≡ Some c = leads_stay osts t a d n c e ne apart.0 in
                ap (λ b. outcome (after osts t a) (if b then Refuse ENAMETOOLONG
                else look_in (Dir d) n (λ d. there (λ c. walk c ns (λ cs. next (c ∷ cs)))))) l
                ∙ ap (λ o. outcome (after osts t a) (there (λ c. walk c ns (λ cs. next (c ∷ cs))) o)) e' ∙ w.3 apart.1,
          )

      long : (b : Bool) → is_too_long n ≡ b → NotRefused (outcome t
          (if b then Refuse ENAMETOOLONG else look_in (Dir d) n (λ d. there (λ c. walk c ns (λ cs. next (c ∷ cs))))))
          → ((c : Child) → Other c → NotRefused (outcome t (walk c ns (λ cs. next (c ∷ cs)))) → Walked c ns (λ cs. next (c ∷ cs)))
          → Walked (Dir d) (n ∷ ns) next
      long true e h ih = absurd (h ENAMETOOLONG refl)
      long false e h ih = found (child t d n) refl e h ih

  last_other : (c : Child) (cs : List Child) → Other c → Every Other cs → Other (last_of c cs)
  last_other c [] k h = k
  last_other c (d ∷ ds) k h = last_other d ds h.0 h.1

  -- ---- the rows: a row's locks cover what it looks at

  abbrev Row : (List Child → Child → Plan) → Type 0
  Row row =
      (cs : List Child) (c : Child) → last_of root cs ≡ c → Every Other cs → NotRefused (outcome t (row cs c))
      → Uncut (writes osts t a) (outcome t (row cs c)).grants
      → Every Stands cs × (outcome (after osts t a) (row cs c) ≡ outcome t (row cs c))

  -- what stands at a part of the last inode
  at_last : (m bit : ℕ) (cs : List Child) (c : Child) (p : Part) → last_of root cs ≡ c → Every Other cs → inode_of p ≡ fid_of c
      → IsGuarded p (fid_of c) bit → bits_meet bit (suc m) ≡ true → bits_meet bit (LOOKUP + suc m) ≡ true
      → Uncut (writes osts t a) (wants (suc m) cs) → Same t (after osts t a) p
  at_last m bit cs c p is n i g h k u =
      others_stay osts t a p (last_kept (writes osts t a) m bit cs p (subst (λ x. IsGuarded p (fid_of x) bit) (sym is) g) h k u)
      (λ q. last_other root cs new.0 n (sym (made_has_number osts t a (inode_of p) q) ∙ ap (λ (f : Fid). f.0) (i ∙ ap fid_of (sym is))))

  lookup_row : Row row_lookup
  lookup_row cs c is n h u = (parents (writes osts t a) 0 refl cs u, refl)

  stat_row : Row row_stat
  stat_row cs (Dir f) is n h u =
      let s = at_last 1 UPDATE cs (Dir f) (part.Attr f) is n refl (refl, refl, tt) refl refl u in (
        parents (writes osts t a) UPDATE refl cs u,
        ap (λ (x : Attributes). outcome t (tells (told.DirStat f x.mode) (wants UPDATE cs)))
            (sym s.0),
      )
  stat_row cs (File f) is n h u =
      let s = at_last 5 UPDATE cs (File f) (part.Attr f) is n refl (refl, refl, tt) refl refl u in
      let l : layout t f ≡ layout (after osts t a) f = at_last 5 LAYOUT cs (File f) (part.Layout f) is n refl (refl, refl, tt) refl refl u
      in (
        parents (writes osts t a) (UPDATE + LAYOUT) refl cs u,
        sym
            (ap (λ (x : Attributes). outcome t (tells (told.FileStat f x.mode x.links (layout t f)) (wants (UPDATE + LAYOUT) cs))) s.1
            ∙ ap (λ y. outcome t (tells (told.FileStat f (attributes (after osts t a) (File f)).mode
            (attributes (after osts t a) (File f)).links y) (wants (UPDATE + LAYOUT) cs))) l),
      )

  list_row : Row row_list
  list_row cs (File f) is n h u = absurd (h ENOTDIR refl)
  list_row cs (Dir f) is n h u =
      let s : listing t f ≡ listing (after osts t a) f = at_last 1 UPDATE cs (Dir f) (part.List f) is n refl (refl, refl, tt) refl refl u in
      (parents (writes osts t a) UPDATE refl cs u, ap (λ names. outcome t (tells (told.Names names) (wants UPDATE cs))) (sym s))

  layout_row : Row row_layout
  layout_row cs (Dir f) is n h u = absurd (h EISDIR refl)
  layout_row cs (File f) is n h u =
      let s : layout t f ≡ layout (after osts t a) f = at_last 3 LAYOUT cs (File f) (part.Layout f) is n refl (refl, refl, tt) refl refl u
      in
      (parents (writes osts t a) LAYOUT refl cs u, ap (λ l. outcome t (tells (told.Layout l) (wants LAYOUT cs))) (sym s))

  read : (row : List Child → Child → Plan) (path : List (List ℕ)) → Row row
      → NotRefused (outcome t (walk root path (λ cs. row cs (last_of root cs))))
      → Uncut (writes osts t a) (outcome t (walk root path (λ cs. row cs (last_of root cs)))).grants
      → outcome (after osts t a) (walk root path (λ cs. row cs (last_of root cs)))
      ≡ outcome t (walk root path (λ cs. row cs (last_of root cs)))
  read row path r h u =
      let w = walked root path (λ cs. row cs (last_of root cs)) new.0 h in
      let k : NotRefused (outcome t (row w.0 (last_of root w.0))) = subst NotRefused w.1 h in
      let v : Uncut (writes osts t a) (outcome t (row w.0 (last_of root w.0))).grants =
      subst (λ (x : Outcome). Uncut (writes osts t a) x.grants) w.1 u in
      let d = r w.0 (last_of root w.0) refl w.2 k v in
      w.3 d.0 ∙ d.1 ∙ sym w.1

  covers : (number : Txn) (who : Who) (o : Op) → IsReading o → NotRefused (outcome t (plan osts number who o))
      → Uncut (writes osts t a) (outcome t (plan osts number who o)).grants
      → outcome (after osts t a) (plan osts number who o) ≡ outcome t (plan osts number who o)
  covers number who (op.Lookup path) r h u = read row_lookup path lookup_row h u
  covers number who (op.Stat path) r h u = read row_stat path stat_row h u
  covers number who (op.List path) r h u = read row_list path list_row h u
  covers number who (op.Layout path) r h u = read row_layout path layout_row h u
  covers number who _ r h u = absurd r

pub locks_cover : LocksCover
locks_cover osts t a b new r h u = let e = covers osts t a new b.number b.who b.op r h u
    in (ap (λ (x : Outcome). x.answer) e, ap (λ (x : Outcome). x.grants) e)

-- ---- a number above all of a past is new there

kept_below : (past : List Item) (n : ℕ) → Above past n → AllKept (λ m. nat_lt m n) past
kept_below [] n h = tt
kept_below (Acts a ∷ past) n h = (lt-ltb a.number.0 n h.0, kept_below past n h.1)
kept_below (Forgets who ∷ past) n h = kept_below past n h

root_below : (past : List Item) (n : ℕ) → Above past n → 1 < n
root_below [] n h = h
root_below (Acts a ∷ past) n h = root_below past n h.1
root_below (Forgets who ∷ past) n h = root_below past n h

pub above_is_new : AboveIsNew
above_is_new osts past number h = (
  λ e. absurd (omega (arith, root_below past number.0 h)),
  λ d n c is. differs (fid_of c).0 (earlier_are_older osts (λ m. nat_lt m number.0) (lt-ltb 1 number.0 (root_below past number.0 h)) past
      (kept_below past number.0 h) d n c is),
)
  where
    differs : (f : ℕ) → nat_lt f number.0 ≡ true → number.0 ≡ f → ⊥
    differs f l e = grind (arith, nat_tests, l, e)
