-- A loop that tells the lines of its items one after another, or makes a list of them.
use Rattle.std.proofs.Common.{◌≡◌, ℕ, ◌+◌, ◌<◌, ◌≤◌, Bool, true, false, List, [], ◌∷◌, ◌++◌, length, map, take, drop, get_or, refl, sym, ap}
use Rattle.std.proofs.Common.{◌∙◌}
use Rattle.std.specs.Prelude.{if◌then◌else◌}
use Rattle.std.proofs.lemmas.List.{drop_more, drop_all, take_more, take_all}
use Rattle.lu_base.specs.declared.ids.Txn.{Txn}
use Rattle.lu_base.specs.declared.ids.Who.{Who}
use Rattle.lu_base.specs.declared.locks.Lock.{Lock}
use Rattle.lu_trace.specs.Turns.{Making}
use Rattle.lu_spec_entries.specs.Words.{Entry}
use Rattle.lu_spec_target.specs.Lives.{is_life}
use Rattle.lu_spec_target.specs.Outcomes.{restored}
use Rattle.lu_target_redo.specs.declared.deeds.Deed.{Deed}
use Rattle.lu_target_redo.specs.Shown.{deed_of}
use Rattle.lu_window.specs.declared.outcomes.Eviction.{Eviction}
use Rattle.lu_spec_entries.specs.Given.{giving}
use Rattle.lu_target_server.specs.Closing.{lines, restore_line, evict_line, ready_line, stays_line, joined_line, close_lines, gone_in}
use Rattle.lu_target_server.specs.Closing.{numbers_of}
use Rattle.lu_target_server.proofs.Composing.{giving_none, giving_more}
use Rattle.lu_target_server.proofs.Lines.{one_line_more}

-- ---- lines: what is left of them comes to what all come to

module _ {A : Type 0} (f : A → List Entry) where
  -- one item more
  pub lines_more : (xs : List A) (k : ℕ) (d : A) → k < length xs → (first so_far now : Making) → now ≡ giving so_far (f (get_or xs k d))
      → giving so_far (lines f (drop k xs)) ≡ giving first (lines f xs) → giving now (lines f (drop (k + 1) xs)) ≡ giving first (lines f xs)
  lines_more xs k d within first so_far now is left =
      one_line_more f so_far now (get_or xs k d) (drop (k + 1) xs) is
      ∙ ap (λ (ys : List A). giving so_far (lines f ys)) (sym (drop_more xs k d within)) ∙ left

  -- past the last
  pub lines_all : (xs ys : List A) (k : ℕ) → xs ≡ ys → length xs ≤ k → (first last : Making) → giving last (lines f (drop k xs))
      ≡ giving first (lines f xs) → last ≡ giving first (lines f ys)
  lines_all xs ys k same past first last left =
      sym (giving_none last) ∙ ap (λ (zs : List A). giving last (lines f zs)) (sym (drop_all k xs past)) ∙ left
      ∙ ap (λ (zs : List A). giving first (lines f zs)) same

-- ---- a list that is made item by item

module _ {A B : Type 0} (F : List A → List B) (g : A → B) (push : (xs : List A) (x : A) → F (xs ++ x ∷ []) ≡ F xs ++ g x ∷ []) where
  pub made_more : (xs : List A) (k : ℕ) (d : A) → k < length xs → (made now : List B) → made ≡ F (take k xs) → now ≡ made
      ++ g (get_or xs k d) ∷ [] → now ≡ F (take (k + 1) xs)
  made_more xs k d within made now is more =
      more ∙ ap (λ (ys : List B). ys ++ g (get_or xs k d) ∷ []) is ∙ sym (push (take k xs) (get_or xs k d))
      ∙ ap F (sym (take_more xs k d within))

  pub made_all : (xs ys : List A) (k : ℕ) → xs ≡ ys → length xs ≤ k → (made : List B) → made ≡ F (take k xs) → made ≡ F ys
  made_all xs ys k same past made is = is ∙ ap F (take_all k xs past) ∙ ap F same

pub gone_more : (them : List Eviction) (e : Eviction) → gone_in (them ++ e ∷ []) ≡ gone_in them ++ e.who ∷ []
gone_more [] e = refl
gone_more (x ∷ them) e = ap (λ (more : List Who). x.who ∷ more) (gone_more them e)

pub numbers_more : (deeds : List Deed) (d : Deed) → numbers_of (map deed_of (deeds ++ d ∷ [])) ≡ numbers_of (map deed_of deeds)
    ++ d.reply.txn ∷ []
numbers_more [] d = refl
numbers_more (x ∷ deeds) d = ap (λ (more : List Txn). x.reply.txn ∷ more) (numbers_more deeds d)

-- ---- a life that stays, or not

module _ (gone : List Who) (boot committed : ℕ) (who : Who) where
  pub says_nothing : (making : Making) → is_life who gone ≡ true → making ≡ giving making (stays_line gone boot committed who)
  says_nothing making out = sym (giving_none making) ∙ ap (λ (left : Bool). giving making
      (if left then [] else ready_line boot committed who ∷ [])) (sym out)

  pub says_ready : (before now : Making) → is_life who gone ≡ false → now ≡ giving before (ready_line boot committed who ∷ []) → now
      ≡ giving before (stays_line gone boot committed who)
  says_ready before now stays is = is ∙ ap (λ (left : Bool). giving before (if left then [] else ready_line boot committed who ∷ []))
      (sym stays)

-- ---- four lists of lines after one another

module _ (boot number : ℕ) (lives left : List Who) (them : List Eviction) (standing : List Lock) (joins : List Who) where
  pub four_lines : (committed : ℕ) (before one two three four : Making) → committed ≡ number → one
      ≡ giving before (lines restore_line standing) → two ≡ giving one (lines (evict_line boot) them)
      → three ≡ giving two (lines (stays_line left boot committed) lives) → four ≡ giving three (lines (joined_line boot committed) joins)
      → four ≡ giving before (lines restore_line standing ++ (lines (evict_line boot) them
      ++ (lines (stays_line left boot number) lives ++ lines (joined_line boot number) joins)))
  four_lines committed before one two three four is a b c d =
      let j : List Entry = lines (joined_line boot committed) joins in
      let s : List Entry = lines (stays_line left boot committed) lives in
      let e : List Entry = lines (evict_line boot) them in
      d ∙ ap (λ (m : Making). giving m j) c ∙ giving_more two s j
      ∙ ap (λ (m : Making). giving m (s ++ j)) b ∙ giving_more one e (s ++ j)
      ∙ ap (λ (m : Making). giving m (e ++ (s ++ j))) a ∙ giving_more before (lines restore_line standing) (e ++ (s ++ j))
      ∙ ap (λ (n : ℕ). giving before (lines restore_line standing
      ++ (lines (evict_line boot) them ++ (lines (stays_line left boot n) lives ++ lines (joined_line boot n) joins)))) is

  -- the locks are those of the close
  pub close_told : (own : ℕ) (locks : List Lock) (before now : Making) → boot ≡ own → standing ≡ restored [] locks
      → now ≡ giving before (lines restore_line standing ++ (lines (evict_line boot) them
      ++ (lines (stays_line left boot number) lives ++ lines (joined_line boot number) joins)))
      → now ≡ giving before (close_lines own number lives left them locks joins)
  close_told own locks before now same stand told =
      told ∙ ap (λ (ls : List Lock). giving before (lines restore_line ls
      ++ (lines (evict_line boot) them ++ (lines (stays_line left boot number) lives ++ lines (joined_line boot number) joins)))) stand
      ∙ ap (λ (n : ℕ). giving before (close_lines n number lives left them locks joins)) same
