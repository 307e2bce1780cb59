-- What acts at the metadata target is answered neither EBADF nor EIO nor sizes: no operation on names is. Nor is a call whose answer is
-- known: no reply teaches these.
use Rattle.std.proofs.Common.{◌≡◌, ℕ, zero, suc, Bool, true, false, List, [], ◌∷◌, ◌++◌, Option, Some, None, inl, inr, ⊎_elim, refl, subst}
use Rattle.std.specs.Prelude.{nat_eq, not}
use Rattle.std.proofs.lemmas.Bool.{cond_both}
use Rattle.lu_base.specs.declared.ids.Fid.{Fid}
use Rattle.lu_base.specs.declared.locks.Lock.{Lock}
use Rattle.lu_part.specs.declared.parts.Part.{Part}
use Rattle.lu_part.specs.declared.parts.Part.TheVariants as part
use Rattle.lu_msg.specs.declared.answers.Answer.{Answer}
use Rattle.lu_msg.specs.declared.answers.Answer.TheVariants as told
use Rattle.lu_msg.specs.declared.answers.Errno.TheVariants.{EBADF, EIO}
use Rattle.lu_msg.specs.declared.calls.Call.{Call}
use Rattle.lu_msg.specs.declared.calls.Call.TheVariants as call
use Rattle.lu_msg.specs.declared.operations.Op.{Op}
use Rattle.lu_msg.specs.declared.operations.Op.TheVariants as op
use Rattle.lu_spec_machine.specs.Fits.{answer_fits}
use Rattle.lu_spec_entries.specs.Carried.{Deed, HandleFile}
use Rattle.lu_spec_entries.specs.Words.{Entry, Drop, Life, Learns, Line, line, is_client}
use Rattle.lu_spec_entries.specs.Concerns.{only}
use Rattle.lu_spec_client.specs.Facts.{Fact, fact, root, is_one_for_each, name_facts, names_taught, last_of, inode_taught, stat_facts}
use Rattle.lu_spec_client.specs.Facts.{taught, without_facts, facts_at}
use Rattle.lu_spec_client.specs.Known.{fact_on, Found, walked, found_at_path, known_of, known_with, lookup_known, list_at, layout_at}
use Rattle.lu_spec_client.specs.Known.{directory_at, Notes}
use Rattle.lu_proof_lawful.specs.Covered.Calls.{operation_of}
use Rattle.lu_proof_lawful.specs.Covered.Known.{notes_at, told_of, known_answer}
use Rattle.lu_proof_lawful.specs.Covered.Heads.{Head}
use Rattle.lu_spec_laws.specs.Laws.Acts.{is_bad_handle, is_end_of_life}
use Rattle.lu_proof_lawful.proofs.Preconditions.Guards.{In}
use Rattle.lu_proof_lawful.proofs.Preconditions.Grown.{Grown}
use Rattle.lu_proof_lawful.proofs.Preconditions.Lists.{in_append, in_filter}
use Rattle.lu_proof_lawful.proofs.Preconditions.ClientLines.{some_is}
use Rattle.lu_proof_lawful.proofs.Invariants.TargetGroups.{Acted}
use Rattle.lu_proof_lawful.proofs.Invariants.KnownPaths.{fact_is, after_name}
use Rattle.lu_proof_lawful.proofs.Invariants.OnNames.{IsOnNames, told_so}
use Rattle.lu_proof_lawful.proofs.Invariants.Asked.{acted_on_names}
use Rattle.lu_proof_lawful.proofs.Invariants.Lines.{acted_whole}
use Rattle.lu_proof_lawful.proofs.Invariants.Refused.{acted_answered}

abbrev pub are_sizes : Answer → Bool
are_sizes (told.Sizes sizes) = true
are_sizes _ = false

abbrev pub IsFine : Answer → Type 0
IsFine a = (is_bad_handle a ≡ false) × (is_end_of_life a ≡ false) × (are_sizes a ≡ false)

-- an answer that no operation on names has
abbrev IsNone : Answer → Type 0
IsNone a = (o : Op) → IsOnNames o → answer_fits o a ≡ false

no_sizes : (sizes : List ℕ) → IsNone (told.Sizes sizes)
no_sizes sizes (op.Lookup path) is = refl
no_sizes sizes (op.Stat path) is = refl
no_sizes sizes (op.List path) is = refl
no_sizes sizes (op.Layout path) is = refl
no_sizes sizes (op.Mkdir path) is = refl
no_sizes sizes (op.Create path size count) is = refl
no_sizes sizes (op.Link old new) is = refl
no_sizes sizes (op.Unlink path) is = refl
no_sizes sizes (op.Rmdir path) is = refl
no_sizes sizes (op.Rename old new) is = refl
no_sizes sizes (op.Chmod path mode) is = refl
no_sizes sizes (op.Open path) is = refl
no_sizes sizes (op.Close number fid) is = refl
no_sizes sizes _ is = absurd is

no_bad_handle : IsNone (told.Refused EBADF)
no_bad_handle (op.Lookup path) is = refl
no_bad_handle (op.Stat path) is = refl
no_bad_handle (op.List path) is = refl
no_bad_handle (op.Layout path) is = refl
no_bad_handle (op.Mkdir path) is = refl
no_bad_handle (op.Create path size count) is = refl
no_bad_handle (op.Link old new) is = refl
no_bad_handle (op.Unlink path) is = refl
no_bad_handle (op.Rmdir path) is = refl
no_bad_handle (op.Rename old new) is = refl
no_bad_handle (op.Chmod path mode) is = refl
no_bad_handle (op.Open path) is = refl
no_bad_handle (op.Close number fid) is = refl
no_bad_handle _ is = absurd is

no_end : IsNone (told.Refused EIO)
no_end (op.Lookup path) is = refl
no_end (op.Stat path) is = refl
no_end (op.List path) is = refl
no_end (op.Layout path) is = refl
no_end (op.Mkdir path) is = refl
no_end (op.Create path size count) is = refl
no_end (op.Link old new) is = refl
no_end (op.Unlink path) is = refl
no_end (op.Rmdir path) is = refl
no_end (op.Rename old new) is = refl
no_end (op.Chmod path mode) is = refl
no_end (op.Open path) is = refl
no_end (op.Close number fid) is = refl
no_end _ is = absurd is

is_fine : (o : Op) (a : Answer) → IsOnNames o → answer_fits o a ≡ true → IsFine a
is_fine o (told.Sizes sizes) is fits = let none = no_sizes sizes o is in absurd (cc)
is_fine o (told.Refused EBADF) is fits = let none = no_bad_handle o is in absurd (cc)
is_fine o (told.Refused EIO) is fits = let none = no_end o is in absurd (cc)
is_fine o _ is fits = (refl, refl, refl)

pub deed_fine : (head : Head) (past : List Line) (d : Deed) → Grown head past → Acted (only 0 past) d → IsFine d.reply.answer
deed_fine head past d g a = is_fine d.op d.reply.answer (acted_on_names head past d g a)
    (acted_answered head past d g (acted_whole 0 past d a)).0

-- nor is what is told of it
pub so_fine : (a : Answer) → IsFine a → IsFine (told_so a)
so_fine (told.OpenFile fid number layout) is = (refl, refl, refl)
so_fine a is = is

-- ---- a call whose answer is known

-- it is one that reads names
pub known_operation : (n : Notes) (file : Option HandleFile) (k : Call) (a : Answer) → known_answer n k ≡ Some a → (o : Op)
    × (operation_of file k ≡ Some o)
known_operation n file (call.Lookup path) a e = (op.Lookup path, refl)
known_operation n file (call.Stat path) a e = (op.Stat path, refl)
known_operation n file (call.List path) a e = (op.List path, refl)
known_operation n file (call.Layout path) a e = (op.Layout path, refl)
known_operation n file k a e = absurd (cc)

-- whatever a reply teaches is a name, attributes, a list or a layout
abbrev AllFine : List Fact → Type 0
AllFine fs = (f : Fact) → In f fs → IsFine f.answer

fine_more : (fs gs : List Fact) → AllFine fs → AllFine gs → AllFine (fs ++ gs)
fine_more fs gs a b f i = ⊎_elim (λ (j : In f fs). a f j) (λ (j : In f gs). b f j) (in_append f fs gs i)

fine_one : (f : Fact) → IsFine f.answer → AllFine (f ∷ [])
fine_one f is g (inl e) = subst (λ (v : Fact). IsFine v.answer) e is
fine_one f is g (inr i) = absurd i

fine_two : (f g : Fact) → IsFine f.answer → IsFine g.answer → AllFine (f ∷ g ∷ [])
fine_two f g is also h (inl e) = subst (λ (v : Fact). IsFine v.answer) e is
fine_two f g is also h (inr i) = fine_one g also h i

module _ (kind : Fid → Answer) (fine : (fid : Fid) → IsFine (kind fid)) where
  names_fine : (d : Fid) (path : List (List ℕ)) (locks : List Lock) → AllFine (name_facts kind d path locks)
  names_fine d [] locks f i = absurd i
  names_fine d (n ∷ path) [] f i = by path i
    where
      by : (path : List (List ℕ)) → In f (name_facts kind d (n ∷ path) []) → IsFine f.answer
      by [] i = absurd i
      by (m ∷ path) i = absurd i
  names_fine d (n ∷ []) (l ∷ locks) f i = fine_one (fact (part.Name d n) l (kind l.resource.fid)) (fine l.resource.fid) f i
  names_fine d (n ∷ m ∷ path) (l ∷ locks) f (inl e) = subst (λ (v : Fact). IsFine v.answer) e (refl, refl, refl)
  names_fine d (n ∷ m ∷ path) (l ∷ locks) f (inr i) = names_fine l.resource.fid (m ∷ path) locks f i

  taught_names : (path : List (List ℕ)) (locks : List Lock) → AllFine (names_taught kind path locks)
  taught_names path locks = cond_both (is_one_for_each path locks) (name_facts kind root path locks) [] AllFine
      (λ t. names_fine root path locks) (λ t f i. absurd i)

inode_fine : (of : Lock → List Fact) → ((l : Lock) → AllFine (of l)) → (o : Option Lock) → AllFine (inode_taught of o)
inode_fine of fine None f i = absurd i
inode_fine of fine (Some l) f i = fine l f i

taught_fine : (o : Op) (a : Answer) (locks : List Lock) → AllFine (taught o a locks)
taught_fine (op.Lookup path) (told.Dir fid) locks = taught_names told.Dir (λ f. (refl, refl, refl)) path locks
taught_fine (op.Lookup path) (told.File fid) locks = taught_names told.File (λ f. (refl, refl, refl)) path locks
taught_fine (op.Stat path) (told.DirStat fid mode) locks =
    fine_more (names_taught told.Dir path locks) (inode_taught (λ l. fact (part.Attr fid) l (told.DirStat fid mode) ∷ []) (last_of locks))
    (taught_names told.Dir (λ f. (refl, refl, refl)) path locks)
    (inode_fine (λ l. fact (part.Attr fid) l (told.DirStat fid mode) ∷ [])
    (λ l. fine_one (fact (part.Attr fid) l (told.DirStat fid mode)) (refl, refl, refl)) (last_of locks))
taught_fine (op.Stat path) (told.FileStat fid mode links layout) locks =
    fine_more (names_taught told.File path locks) (inode_taught (stat_facts fid (told.FileStat fid mode links layout) layout)
    (last_of locks)) (taught_names told.File (λ f. (refl, refl, refl)) path locks)
    (inode_fine (stat_facts fid (told.FileStat fid mode links layout) layout)
    (λ l. fine_two (fact (part.Attr fid) l (told.FileStat fid mode links layout)) (fact (part.Layout fid) l (told.Layout layout))
    (refl, refl, refl) (refl, refl, refl)) (last_of locks))
taught_fine (op.List path) (told.Names names) locks =
    fine_more (names_taught told.Dir path locks) (inode_taught (λ l. fact (part.List l.resource.fid) l (told.Names names) ∷ [])
    (last_of locks)) (taught_names told.Dir (λ f. (refl, refl, refl)) path locks)
    (inode_fine (λ l. fact (part.List l.resource.fid) l (told.Names names) ∷ [])
    (λ l. fine_one (fact (part.List l.resource.fid) l (told.Names names)) (refl, refl, refl)) (last_of locks))
taught_fine (op.Layout path) (told.Layout layout) locks =
    fine_more (names_taught told.File path locks) (inode_taught (λ l. fact (part.Layout l.resource.fid) l (told.Layout layout) ∷ [])
    (last_of locks)) (taught_names told.File (λ f. (refl, refl, refl)) path locks)
    (inode_fine (λ l. fact (part.Layout l.resource.fid) l (told.Layout layout) ∷ [])
    (λ l. fine_one (fact (part.Layout l.resource.fid) l (told.Layout layout)) (refl, refl, refl)) (last_of locks))
taught_fine o a locks = λ f i. absurd i

facts_fine : (c : ℕ) (past : List Line) → AllFine (facts_at c past)
facts_fine c [] = λ f i. absurd i
facts_fine c (l ∷ past) = by l.entry (facts_fine c past)
  where
    fewer : (t : ℕ) (lock : Lock) → AllFine (facts_at c past) → AllFine (without_facts t lock (facts_at c past))
    fewer zero lock h f i = h f (in_filter (λ (x : Fact). not (nat_eq x.cookie.0 lock.cookie.0)) f (facts_at c past) i).0
    fewer (suc t) lock h f i = h f i

    by : (e : Entry) → AllFine (facts_at c past) → AllFine (facts_at c (line l.at e ∷ past))
    by (Learns t o a locks) h = cond_both (is_client c l.at.node) (taught o a locks ++ facts_at c past) (facts_at c past) AllFine
        (λ b. fine_more (taught o a locks) (facts_at c past) (taught_fine o a locks) h) (λ b. h)
    by (Drop t lock) h = cond_both (is_client c l.at.node) (without_facts t lock (facts_at c past)) (facts_at c past) AllFine
        (λ b. fewer t lock h) (λ b. h)
    by (Life who) h = cond_both (is_client c l.at.node) [] (facts_at c past) AllFine (λ b f i. absurd i) (λ b. h)
    by _ h = h

module _ (n : Notes) (fine : AllFine n.facts) where
  on_fine : (p : Part) (f : Fact) → fact_on p n ≡ Some f → IsFine f.answer
  on_fine p f e = fine f (fact_is p n f e).0.0

  walked_fine : (path : List (List ℕ)) (from a : Answer) → IsFine from → (walked n path from).inode ≡ Some a → IsFine a
  walked_fine [] from a is e = subst IsFine (some_is from a e) is
  walked_fine (name ∷ path) (told.Dir d) a is e = by (fact_on (part.Name d name) n) (λ f q. on_fine (part.Name d name) f q)
      (λ b k q. walked_fine path b a k q) e
    where
      by : (o : Option Fact) → ((f : Fact) → o ≡ Some f → IsFine f.answer)
          → ((b : Answer) → IsFine b → (walked n path b).inode ≡ Some a → IsFine a)
          → (after_name n path o).inode ≡ Some a → IsFine a
      by None each more e = absurd (cc)
      by (Some f) each more e = more f.answer (each f refl) e
  walked_fine (name ∷ path) _ a is e = absurd (cc)

  with_fine : (found : Found) (o : Option Fact) (a : Answer) → ((f : Fact) → o ≡ Some f → IsFine f.answer) → told_of (known_with found o)
      ≡ Some a → IsFine a
  with_fine found None a each e = absurd (cc)
  with_fine found (Some f) a each e = subst IsFine (some_is f.answer a e) (each f refl)

  lookup_fine : (found : Found) (a : Answer) → ((b : Answer) → found.inode ≡ Some b → IsFine b) → told_of (lookup_known found) ≡ Some a
      → IsFine a
  lookup_fine found a each e = by found.inode refl e
    where
      by : (o : Option Answer) → found.inode ≡ o → told_of (known_of found o) ≡ Some a → IsFine a
      by None q e = absurd (cc)
      by (Some b) q e = subst IsFine (some_is b a e) (each b q)

  list_fine : (found : Found) (o : Option Answer) (a : Answer) → told_of (list_at n found o) ≡ Some a → IsFine a
  list_fine found (Some (told.Dir d)) a e = with_fine found (fact_on (part.List d) n) a (λ f q. on_fine (part.List d) f q) e
  list_fine found _ a e = absurd (cc)

  layout_fine : (found : Found) (o : Option Answer) (a : Answer) → told_of (layout_at n found o) ≡ Some a → IsFine a
  layout_fine found (Some (told.File d)) a e = with_fine found (fact_on (part.Layout d) n) a (λ f q. on_fine (part.Layout d) f q) e
  layout_fine found _ a e = absurd (cc)

  directory_fine : (found : Found) (o : Option Answer) (a : Answer) → told_of (directory_at n found o) ≡ Some a → IsFine a
  directory_fine found (Some (told.Dir d)) a e = with_fine found (fact_on (part.Attr d) n) a (λ f q. on_fine (part.Attr d) f q) e
  directory_fine found _ a e = absurd (cc)

  answer_fine : (k : Call) (a : Answer) → known_answer n k ≡ Some a → IsFine a
  answer_fine (call.Lookup path) a e = lookup_fine (found_at_path n path) a (λ b q. walked_fine path (told.Dir root) b (refl, refl, refl) q)
      e
  answer_fine (call.List path) a e = list_fine (found_at_path n path) (found_at_path n path).inode a e
  answer_fine (call.Layout path) a e = layout_fine (found_at_path n path) (found_at_path n path).inode a e
  answer_fine (call.Stat path) a e = directory_fine (found_at_path n path) (found_at_path n path).inode a e
  answer_fine k a e = absurd (cc)

-- also of a life that is over
pub known_fine : (head : Head) (past : List Line) (c : ℕ) (k : Call) (a : Answer) → Grown head past → known_answer (notes_at c past) k
    ≡ Some a → IsFine a
known_fine head past c k a g known = answer_fine (notes_at c past) (facts_fine c past) k a known
