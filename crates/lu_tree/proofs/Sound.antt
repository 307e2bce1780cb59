-- What holds of every tree holds after an operation.
use Rattle.std.proofs.Common.{◌≡◌, ℕ, ◌<◌, Bool, true, false, List, [], ◌∷◌, refl, sym, ap, subst, ◌∙◌, arith}
use Rattle.std.specs.Prelude.{if◌then◌else◌}
use Rattle.std.specs.Option.{unwrap_or}
use Rattle.lu_base.specs.declared.ids.Txn.{Txn}
use Rattle.lu_base.specs.declared.ids.Who.{Who}
use Rattle.lu_msg.specs.declared.operations.Op.{Op}
use Rattle.lu_spec_machine.specs.declared.child.Child.{Child}
use Rattle.lu_spec_machine.specs.Change.{Change, changed}
use Rattle.lu_spec_machine.specs.Footprint.{forget, is_some_change, outcome_of}
use Rattle.lu_spec_machine.specs.Table.{made_by}
use Rattle.lu_spec_machine.specs.Tree.{Tree, no_file}
use Rattle.lu_spec_machine.specs.Trim.{trim}
use Rattle.lu_spec_machine.proofs.Ordered.{changes_ordered}
use Rattle.lu_spec_machine.proofs.Outcomes.{Comes}
use Rattle.lu_spec_machine.proofs.Sound.{Sound, sound_after as machine_sound_after}
use Rattle.lu_spec_machine.proofs.Stated.{comes}
use Rattle.lu_tree.specs.declared.ends.End.{End}
use Rattle.lu_tree.specs.Ends.{changes_of, ended, IsFresh, Seen}
use Rattle.lu_tree.specs.State.{TreeState, IsCounted, IsUsed, IsSound, asked}
use Rattle.lu_tree.proofs.Lean.{lean_twice, trim_links, trim_ordered}
use Rattle.lu_tree.proofs.Used.{end_fits, links_below, none_above, used_changes, used_more, used_trim}

-- a number above all is fresh
pub above_fresh : (last : ℕ) (t : Tree) (number : Txn) → IsUsed last t → last < number.0 → IsFresh t number
above_fresh last t number u lt =
    record {
      dirs = u.dirs (made_by number) lt;
      files = none_above last (made_by number) t.files u.files lt;
      links = λ f. let h = links_below last f t.files u.files in omega arith;
    }

trim_counted : (t : Tree) → IsCounted t → IsCounted (trim t)
trim_counted t h = λ f. omega (arith, h f, trim_links t f)

-- by the law of the plain machine
still_counted : (s : TreeState) (number : Txn) (who : Who) (op : Op) (passed : List Child) (end : End) → IsSound s → s.last < number.0
    → outcome_of s.osts s.tree (asked number who op) ≡ ended s.osts s.tree number who passed end
    → IsCounted (changed s.tree (changes_of s.osts s.tree number who end))
still_counted s number who op passed end h lt is =
    let before : Sound s.tree s.last = record {
      counted = h.counted;
      fresh =
          λ f above. ap (λ o. (unwrap_or o no_file).links) (none_above s.last f s.tree.files h.used.files above);
    } in
    (machine_sound_after s.tree s.last number who before lt (ended s.osts s.tree number who passed end)
    (subst (Comes s.tree number who) is (comes s.osts s.tree (asked number who op)))).counted

sound_end : (s : TreeState) (number : Txn) (who : Who) (op : Op) (passed : List Child) (end : End) → IsSound s → s.last < number.0
    → Seen s.osts s.tree end
    → outcome_of s.osts s.tree (asked number who op) ≡ ended s.osts s.tree number who passed end
    → IsSound (record { osts = s.osts; last = number.0; tree = trim (changed s.tree (changes_of s.osts s.tree number who end)) })
sound_end s number who op passed end h lt seen is =
    let xs = changes_of s.osts s.tree number who end in
    record {
      some = h.some;
      most = h.most;
      ordered = trim_ordered (changed s.tree xs) (changes_ordered s.tree xs h.ordered);
      used = used_trim number.0 (changed s.tree xs) (used_changes number.0 s.tree xs
          (end_fits s.last s.osts number who s.tree end lt h.used seen) (used_more s.last number.0 s.tree (omega arith) h.used));
      counted = trim_counted (changed s.tree xs) (still_counted s number who op passed end h lt is);
      lean = lean_twice (changed s.tree xs);
    }

pub sound_forget : (s : TreeState) (who : Who) → IsSound s → IsSound (record s { tree = trim (forget s.tree who) })
sound_forget s who h =
    let t = forget s.tree who in
    record {
      some = h.some;
      most = h.most;
      ordered = trim_ordered t (record { dirs = h.ordered.dirs; files = h.ordered.files; names = h.ordered.names });
      used = used_trim s.last t (record { root = h.used.root; dirs = h.used.dirs; files = h.used.files; names = h.used.names });
      counted = trim_counted t h.counted;
      lean = lean_twice t;
    }

no_change : (xs : List Change) → is_some_change xs ≡ false → xs ≡ []
no_change [] h = refl
no_change (x ∷ xs) h = absurd (cc)

pub sound_after : (s : TreeState) (number : Txn) (who : Who) (op : Op) (passed : List Child) (end : End) → IsSound s
    → (is_some_change (changes_of s.osts s.tree number who end) ≡ true → s.last < number.0)
    → Seen s.osts s.tree end → outcome_of s.osts s.tree (asked number who op) ≡ ended s.osts s.tree number who passed end
    → IsSound (record {
      osts = s.osts;
      last = if is_some_change (changes_of s.osts s.tree number who end) then number.0 else s.last;
      tree =
          trim (changed s.tree (changes_of s.osts s.tree number who end));
    })
sound_after s number who op passed end h above seen is = by (is_some_change xs) refl
  where
    xs : List Change
    xs = changes_of s.osts s.tree number who end

    by : (v : Bool) → is_some_change xs ≡ v → IsSound (record {
      osts = s.osts;
      last = if v then number.0 else s.last;
      tree =
          trim (changed s.tree xs);
    })
    by true q = sound_end s number who op passed end h (above q) seen is
    by false q =
        let e : s.tree ≡ trim (changed s.tree xs) = sym h.lean ∙ ap (λ xs. trim (changed s.tree xs)) (sym (no_change xs q)) in
        subst (λ (t : Tree). IsSound (record { osts = s.osts; last = s.last; tree = t })) e h
