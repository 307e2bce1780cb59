-- A client's own lines that change objects, requests or locks keep its changes under the locks that it holds.
use Rattle.std.proofs.Common.{◌≡◌, ℕ, ◌≤◌, Bool, true, false, List, ◌∷◌, ◌⊎◌, inl, inr, ⊎_elim, Option, Some, refl, sym, subst, ap, ◌∙◌}
use Rattle.std.proofs.Common.{arith}
use Rattle.std.specs.Prelude.{is_some}
use Rattle.lu_base.specs.declared.ids.Cookie.{Cookie}
use Rattle.lu_base.specs.declared.ids.Node.TheVariants.{Client}
use Rattle.lu_base.specs.declared.ids.Stamp.{Stamp}
use Rattle.lu_base.specs.declared.locks.Extent.{Extent}
use Rattle.lu_base.specs.declared.locks.Mode.{Mode}
use Rattle.lu_base.specs.declared.locks.Mode.TheVariants.{PW}
use Rattle.lu_base.specs.declared.locks.Policy.{Policy}
use Rattle.lu_base.specs.declared.locks.Policy.TheVariants.{Range, Bits}
use Rattle.lu_base.specs.declared.locks.Resource.{Resource}
use Rattle.lu_lock.specs.Overlap.{extents_meet}
use Rattle.lu_msg.specs.declared.operations.Op.{Op}
use Rattle.lu_msg.specs.declared.operations.Op.TheVariants as op
use Rattle.lu_held.specs.declared.locks.HeldLock.{HeldLock}
use Rattle.lu_spec_entries.specs.declared.changes.Flush.{Flush}
use Rattle.lu_spec_entries.specs.Words.{Entry, Changes, WritesBack, Acks, Line}
use Rattle.lu_spec_client.specs.Caches.{patch_at, patches_at, held_at, on_object, with_object, made}
use Rattle.lu_spec_client.specs.Imports.{Import}
use Rattle.lu_spec_client.specs.Patches.{Patch, clean, flown, in_flight, has_change, next_flush, cut_extent, holds_extent}
use Rattle.lu_spec_client.specs.WriteBack.{flush_under}
use Rattle.lu_proof_lawful.specs.Covered.Heads.{Head, IsHead}
use Rattle.lu_proof_objects.specs.Alike.{Carries}
use Rattle.lu_proof_objects.proofs.Patches.{patch_taken}
use Rattle.lu_proof_bytes.specs.Object.Folds as folds
use Rattle.lu_proof_objects.specs.Sound.{Writer, IsUnder, IsBacked, IsAsked, IsSoundOf, one_if, backs_to}
use Rattle.lu_proof_objects.proofs.Changes.{taken_changes, flown_rises, flown_flies, next_changes, none_next, next_flushes, meet_cut}
use Rattle.lu_proof_objects.proofs.Made.{patch_with, made_flight, sound_made}
use Rattle.lu_proof_objects.proofs.Steps.{same_writer}
use Rattle.lu_proof_objects.proofs.Tables.{patch_on, patch_on_there}
use Rattle.lu_proof_lawful.proofs.Preconditions.Guards.{marks_of, ChangesOk, WritesBackOk}
use Rattle.lu_proof_lawful.proofs.Preconditions.Grown.{Grown}
use Rattle.lu_proof_lawful.proofs.Preconditions.Lists.{turn}
use Rattle.lu_proof_lawful.proofs.Preconditions.PinsFit.{PinsFit}
use Rattle.lu_proof_lawful.proofs.Laws.SoundChanges.{change_under}
use Rattle.lu_proof_lawful.proofs.Laws.SoundLocks.{to_client, held_ranges}
use Rattle.lu_proof_lawful.proofs.Laws.Sounds.{imports_of, Backed, whole_sound, backed_of}
use Rattle.lu_proof_lawful.proofs.Laws.SoundLines.{SoundAt, Answered, none_more, quiet_backed, after_line, imports_is, patches_is}
use Rattle.lu_proof_lawful.proofs.Laws.SoundLines.{still_answered, quiet_line}

-- a change is taken under a range
pub flush_range : (p : Patch) (m : Mode) (q : Policy) (change : Flush) → m ≡ PW → flush_under p m q ≡ Some change → (x : Extent)
    × (q ≡ Range x) × (next_flush x p ≡ Some change)
flush_range p m q change mode e = by q (sym (ap (λ (n : Mode). flush_under p n q) mode) ∙ e)
  where
    by : (q : Policy) → flush_under p PW q ≡ Some change → (x : Extent) × (q ≡ Range x) × (next_flush x p ≡ Some change)
    by (Range x) e = (x, refl, e)
    by (Bits b) e = absurd (cc)

one_range : (x y : Extent) → Range x ≡ Range y → x ≡ y
one_range x y e = cc

module _ (head : Head) (past : List Line) (stamp : Stamp) (c : ℕ) (g : Grown head past) (fit : PinsFit past) (s : SoundAt head c past) where
  abbrev H : List HeldLock
  H = held_at c past

  abbrev P : List (Resource × Patch)
  P = patches_at c past

  abbrev I : List Import
  I = imports_of head c past

  abbrev whole : IsSoundOf (held_at c past) (patches_at c past) (imports_of head c past)
  whole = whole_sound head past g fit c (imports_of head c past) s.now

  -- ---- a change is made

  pub changes_line : IsHead head → (r : Resource) (change : Flush) → ChangesOk past (turn stamp (Client c)) c r change
      → SoundAt head c (after_line head past stamp c (Changes r change))
  changes_line ranges r change ok =
      quiet_line head past stamp c (Changes r change) (λ i. (refl, refl)) flight refl (λ z d e. absurd (cc))
      (subst (λ (ps : List (Resource × Patch)). Backed (held_at c past) ps (imports_of head c past))
      (sym (patches_is head past stamp c (Changes r change)))
      (backed_of (held_at c past) (with_object r (made change (patch_at r P)) P) (imports_of head c past)
      (sound_made (held_at c past) (patches_at c past) (imports_of head c past) whole r change
      (change_under head ranges past g fit (turn stamp (Client c)) c r change ok))))
      s
    where
      flight : (z : Resource) → in_flight (patch_at z (patches_at c (after_line head past stamp c (Changes r change))))
          ≡ in_flight (patch_at z P)
      flight z =
          ap (λ (ps : List (Resource × Patch)). in_flight (patch_at z ps)) (patches_is head past stamp c (Changes r change))
          ∙ ⊎_elim (λ (e : patch_at z (with_object r (made change (patch_at r P)) P) ≡ patch_at z P). ap in_flight e)
          (λ (e : (r ≡ z) × (patch_at z (with_object r (made change (patch_at r P)) P) ≡ made change (patch_at r P))).
          ap in_flight e.1 ∙ ap (λ f. is_some f) (made_flight change (patch_at r P)) ∙ ap (λ (y : Resource). in_flight (patch_at y P)) e.0)
          (patch_with r z (made change (patch_at r P)) P)

  -- ---- a change is taken to be written back

  module _ (r : Resource) (change : Flush) (ok : WritesBackOk past c r change) where
    abbrev taking : List (Resource × Patch)
    taking = on_object r (flown change) (patches_at c past)

    abbrev new : List Line
    new = after_line head past stamp c (WritesBack r change)

    under : (x : Extent) × (ok.holding.lock.ask.policy ≡ Range x) × (next_flush x (patch_at r P) ≡ Some change)
    under = flush_range (patch_at r P) ok.holding.lock.ask.mode ok.holding.lock.ask.policy change ok.mode ok.next

    abbrev x : Extent
    x = under.0

    meets : (size : ℕ) → (patch_at r P).pending ≡ Some size → (holds_extent x (cut_extent size) ≡ true)
        ⊎ (extents_meet x (cut_extent size) ≡ false)
    meets size e = by (extents_meet x (cut_extent size)) refl
      where
        w : Writer (held_at c past) r (λ y. holds_extent y (cut_extent size) ≡ true)
        w = (s.now.objects r).cut size e

        by : (b : Bool) → extents_meet x (cut_extent size) ≡ b → (holds_extent x (cut_extent size) ≡ true)
            ⊎ (extents_meet x (cut_extent size) ≡ false)
        by false m = inr m
        by true m =
            let v : Writer (held_at c past) ok.holding.lock.resource (λ y. holds_extent y (cut_extent size) ≡ true) =
            record {
              lock = w.lock;
              held = w.held;
              object = w.object ∙ sym ok.of_object;
              mode = w.mode;
              extent = w.extent;
              range = w.range;
              over = w.over;
            }
            in
            let same : w.lock ≡ ok.holding = same_writer (held_at c past) (patches_at c past) (imports_of head c past) whole ok.holding x
            (to_client ok.holding (held_at c past) ok.held) under.1 v (meet_cut x w.extent size w.over m) in
            let ext : w.extent ≡ x = one_range w.extent x (sym w.range ∙ ap (λ (h : HeldLock). h.lock.ask.policy) same ∙ under.1) in
            inl (ap (λ (y : Extent). holds_extent y (cut_extent size)) (sym ext) ∙ w.over)

    carried : Carries (patch_at r P) change
    carried = (next_flushes x (patch_at r P) change (held_ranges head past g c ok.holding x ok.held under.1) (s.now.objects r).rises under.2
        meets).1

    carried_at : (z : Resource) → r ≡ z → Carries (patch_at z P) change
    carried_at z e = subst (λ (y : Resource). Carries (patch_at y P) change) e carried

    on_taking : (z : Resource) (Q : Patch → Type 0) → Q (patch_at z P) → (r ≡ z → Q (flown change (patch_at z P))) → Q (patch_at z taking)
    on_taking z Q old now =
        ⊎_elim (λ (e : patch_at z taking ≡ patch_at z P). subst Q (sym e) old)
        (λ (e : (r ≡ z) × (patch_at z taking ≡ flown change (patch_at z P))). subst Q (sym e.1) (now e.0))
        (patch_on r z (flown change) P)

    under_flown : (z : Resource) → IsUnder (held_at c past) z (patch_at z P) → Carries (patch_at z P) change
        → IsUnder (held_at c past) z (flown change (patch_at z P))
    under_flown z u k =
        record {
          rises = flown_rises change (patch_at z P) u.rises;
          dirty = λ p b. u.dirty p (ap (λ (o : Option ℕ). folds.is_some o) (sym (patch_taken change (patch_at z P) p k).dirty) ∙ b);
          cut = λ size e. u.cut size (sym (patch_taken change (patch_at z P) 0 k).pending ∙ e);
        }

    still_backed : (t : ℕ) (d : Cookie) (z : Resource) → IsBacked (held_at c past) (patch_at z P) t d z
        → IsBacked (held_at c past) (patch_at z taking) t d z
    still_backed t d z b =
        let w = b.under in
        record {
          under = record {
            lock = w.lock;
            held = w.held;
            object = w.object;
            mode = w.mode;
            extent = w.extent;
            range = w.range;
            over =
                on_taking z (λ p. has_change w.extent p ≡ true) w.over
                (λ e. taken_changes change w.extent (patch_at z P) (carried_at z e) w.over);
          };
          target = b.target;
          cookie = b.cookie;
        }

    still_asked : (t : ℕ) (o : Op) → IsAsked (held_at c past) (patches_at c past) t o
        → IsAsked (held_at c past) (on_object r (flown change) (patches_at c past)) t o
    still_asked t (op.Put z d at bytes) b = still_backed t d z b
    still_asked t (op.Cut z d size) b = still_backed t d z b
    still_asked t _ b = tt

    none : backs_to r I ≡ 0
    none = let le = s.now.single r in let z = ap one_if ok.alone in omega (arith, le, z)

    flies : in_flight (flown change (patch_at r P)) ≡ true
    flies = ap (λ f. is_some f) (flown_flies change (patch_at r P))

    is_taken : patch_at r taking ≡ flown change (patch_at r P)
    is_taken =
        ⊎_elim (λ (e : patch_at r P ≡ clean). absurd (none_next x change (ap (next_flush x) (sym e) ∙ under.2)))
        (λ (e : patch_at r taking ≡ flown change (patch_at r P)). e) (patch_on_there r (flown change) P)

    taken_backed : Backed (held_at c past) (on_object r (flown change) (patches_at c past)) (imports_of head c past)
    taken_backed =
        record {
          objects = λ z. on_taking z (IsUnder (held_at c past) z) (s.now.objects z) (λ e. under_flown z (s.now.objects z) (carried_at z e));
          asked = λ t o a. still_asked t o (s.now.asked t o a);
          single = λ z. on_taking z (λ p. backs_to z I ≤ one_if (in_flight p)) (s.now.single z)
              (λ e. let zero_ : backs_to z I ≡ 0 = ap (λ (y : Resource). backs_to y I) (sym e) ∙ none in omega (arith, zero_));
        }

    -- none is answered meanwhile
    unanswered : (z : Resource) → Answered head c past z → r ≡ z → ⊥
    unanswered z a e = let q : true ≡ false = sym a.1 ∙ ap (λ (y : Resource). in_flight (patch_at y P)) (sym e) ∙ ok.alone in cc

    pub takes_line : SoundAt head c (after_line head past stamp c (WritesBack r change))
    takes_line =
        record {
          now = subst (Backed (held_at c past) (patches_at c new)) (sym (imports_is head past stamp c (WritesBack r change)))
              (quiet_backed (held_at c past) (patches_at c new) (imports_of head c past) (WritesBack r change) (λ i. (refl, refl))
              (subst (λ (ps : List (Resource × Patch)). Backed (held_at c past) ps (imports_of head c past))
              (sym (patches_is head past stamp c (WritesBack r change))) taken_backed));
          first = s.first;
          acks = λ z more m.
              let a = s.acks z more m in
              still_answered head past stamp c (WritesBack r change) (λ i. (refl, refl)) z
              (ap (λ (ps : List (Resource × Patch)). in_flight (patch_at z ps)) (patches_is head past stamp c (WritesBack r change))
              ∙ on_taking z (λ p. in_flight p ≡ in_flight (patch_at z P)) refl (λ e. absurd (unanswered z a e))) a;
          took = λ z d n e. of z d e;
        }
      where
        first : (z : Resource) (d : Flush) → WritesBack r change ≡ WritesBack z d → r ≡ z
        first z d e = cc

        second : (z : Resource) (d : Flush) → WritesBack r change ≡ WritesBack z d → change ≡ d
        second z d e = cc

        here : Answered head c new r
        here =
            let le = none_more r (WritesBack r change) I (λ i. (refl, refl)) in
            let is = ap (backs_to r) (imports_is head past stamp c (WritesBack r change)) in
            let z = none in (
              omega (arith, le, is, z),
              ap (λ (ps : List (Resource × Patch)). in_flight (patch_at r ps))
                  (patches_is head past stamp c (WritesBack r change)) ∙ ap in_flight is_taken ∙ flies,
            )

        keeps : (y : Extent) → next_flush y (patch_at r P) ≡ Some change → has_change y (patch_at r (patches_at c new)) ≡ true
        keeps y e =
            ap (λ (ps : List (Resource × Patch)). has_change y (patch_at r ps)) (patches_is head past stamp c (WritesBack r change))
            ∙ ap (has_change y) is_taken
            ∙ taken_changes change y (patch_at r P) carried (next_changes y (patch_at r P) change e)

        of : (z : Resource) (d : Flush) → WritesBack r change ≡ WritesBack z d
            → Answered head c new z × ((y : Extent) → next_flush y (patch_at z P) ≡ Some d → has_change y (patch_at z (patches_at c new))
            ≡ true) × ((more : List Entry) → marks_of c past ≡ Acks z ∷ more → ⊥)
        of z d e =
            subst (λ (y : Resource). Answered head c new y × ((u : Extent) → next_flush u (patch_at y P) ≡ Some d
            → has_change u (patch_at y (patches_at c new)) ≡ true) × ((more : List Entry) → marks_of c past ≡ Acks y ∷ more → ⊥))
            (first z d e)
            (subst (λ (b : Flush). Answered head c new r × ((u : Extent) → next_flush u (patch_at r P) ≡ Some b
            → has_change u (patch_at r (patches_at c new)) ≡ true) × ((more : List Entry) → marks_of c past ≡ Acks r ∷ more → ⊥))
            (second z d e)
            (here, keeps, λ more m. unanswered r (s.acks r more m) refl))
