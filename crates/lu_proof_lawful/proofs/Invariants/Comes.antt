-- The locks that come with the answer to a reading that isn't refused: one for each name of its path, the last on the inode
-- that it tells of; for `/` one on the root, but to a lookup.
use Rattle.std.proofs.Common.{◌≡◌, ℕ, zero, suc, ◌+◌, true, List, [], ◌∷◌, inl, inr, Some, None, refl, sym, subst}
use Rattle.lu_base.specs.declared.ids.At.{At}
use Rattle.lu_base.specs.declared.ids.Node.{Node}
use Rattle.lu_base.specs.declared.ids.Node.TheVariants.{Client, Target}
use Rattle.lu_base.specs.declared.ids.Txn.{Txn}
use Rattle.lu_base.specs.declared.ids.Who.{Who}
use Rattle.lu_base.specs.declared.locks.Lock.{Lock}
use Rattle.lu_msg.specs.declared.answers.Answer.{Answer}
use Rattle.lu_msg.specs.declared.answers.Answer.TheVariants as told
use Rattle.lu_msg.specs.declared.answers.Errno.{Errno}
use Rattle.lu_msg.specs.declared.operations.Op.{Op}
use Rattle.lu_msg.specs.declared.operations.Op.TheVariants as op
use Rattle.lu_part.specs.declared.bits.TheConstants.{UPDATE, LAYOUT}
use Rattle.lu_spec_machine.specs.declared.child.Child.{Child}
use Rattle.lu_spec_machine.specs.declared.child.Child.TheVariants.{Dir, File}
use Rattle.lu_spec_machine.specs.Tree.{Tree, fid_of}
use Rattle.lu_spec_machine.specs.Plan.{Outcome, outcome}
use Rattle.lu_spec_machine.specs.Table.{root, last_of, wants, row_lookup, row_stat, row_list, row_layout}
use Rattle.lu_spec_machine.specs.Footprint.{answer, grants}
use Rattle.lu_spec_machine.specs.Laws.{IsReading}
use Rattle.lu_spec_machine.proofs.Paths.{Steps, walk_steps}
use Rattle.lu_spec_machine.proofs.Transactions.{readings_change_nothing}
use Rattle.lu_spec_target.specs.Names.{locks_from}
use Rattle.lu_spec_entries.specs.Carried.{Deed}
use Rattle.lu_spec_entries.specs.Words.{Entry, Act, Txn as Made, Grant, Wait, Answers, Line, line}
use Rattle.lu_spec_client.specs.Facts as facts
use Rattle.lu_spec_client.specs.Facts.{is_one_for_each}
use Rattle.lu_proof_lawful.specs.Covered.Makes.{Path}
use Rattle.lu_proof_lawful.specs.Covered.Deeds.{asked}
use Rattle.lu_proof_lawful.specs.Covered.Heads.{Head}
use Rattle.lu_proof_lawful.specs.Covered.TargetStates.{none, server_of}
use Rattle.lu_proof_lawful.proofs.Preconditions.StoryGuards.{ActOk, ActsOk, TxnOk, TxnsOk, GrantsOk, EntryOf}
use Rattle.lu_proof_lawful.proofs.Preconditions.Grown.{GrownOf}
use Rattle.lu_proof_lawful.proofs.Invariants.Groups.{turn}
use Rattle.lu_proof_lawful.proofs.Invariants.TargetGroups.{Acted}
use Rattle.lu_proof_lawful.proofs.Invariants.DoneGrows.{did_acted}
use Rattle.lu_proof_lawful.proofs.Invariants.ObjectAnswers.{OfObject, object_reads, sized_object, range_object, wait_object, answers_object}
use Rattle.lu_proof_lawful.proofs.Invariants.ObjectAnswers.{write_object}
use Rattle.lu_proof_lawful.proofs.Invariants.TaughtKnown.{Led, Comes}

abbrev pub NoRefusal : Answer → Type 0
NoRefusal a = (e : Errno) → a ≡ told.Refused e → ⊥

-- ---- the locks of a path

module _ (who : Who) where
  ends : (more cookie : ℕ) (c : Child) (cs : List Child) → (l : Lock)
      × ((facts.last_of (locks_from cookie who (wants more (c ∷ cs))) ≡ Some l) × (l.resource.fid ≡ fid_of (last_of c cs)))
  ends zero cookie c [] = (_, (refl, refl))
  ends (suc k) cookie c [] = (_, (refl, refl))
  ends zero cookie c (d ∷ []) = ends zero (cookie + 1) d []
  ends (suc k) cookie c (d ∷ []) = ends (suc k) (cookie + 1) d []
  ends zero cookie c (d ∷ e ∷ cs) = ends zero (cookie + 1) d (e ∷ cs)
  ends (suc k) cookie c (d ∷ e ∷ cs) = ends (suc k) (cookie + 1) d (e ∷ cs)

  one_each : (more cookie : ℕ) (m : List ℕ) (names : Path) (c : Child) (cs : List Child) → is_one_for_each names cs ≡ true
      → is_one_for_each (m ∷ names) (locks_from cookie who (wants more (c ∷ cs))) ≡ true
  one_each zero cookie m [] c [] e = refl
  one_each (suc k) cookie m [] c [] e = refl
  one_each more cookie m [] c (d ∷ cs) e = absurd (cc)
  one_each more cookie m (n ∷ names) c [] e = absurd (cc)
  one_each zero cookie m (n ∷ names) c (d ∷ cs) e = one_each zero (cookie + 1) n names d cs e
  one_each (suc k) cookie m (n ∷ names) c (d ∷ cs) e = one_each (suc k) (cookie + 1) n names d cs e

  module _ (t : Tree) where
    steps_one : (at : Child) (ns : Path) (cs : List Child) → Steps t at ns cs → is_one_for_each ns cs ≡ true
    steps_one at [] [] s = refl
    steps_one at [] (c ∷ cs) s = absurd s
    steps_one (Dir d) (n ∷ ns) [] s = absurd s
    steps_one (Dir d) (n ∷ ns) (c ∷ cs) s = steps_one c ns cs s.1
    steps_one (File f) (n ∷ ns) cs s = absurd s

    -- of a path with names
    named : (more cookie : ℕ) (m : List ℕ) (names : Path) (cs : List Child) → Steps t root (m ∷ names) cs
        → Led (m ∷ names) (locks_from cookie who (wants more cs)) (fid_of (last_of root cs))
    named more cookie m names [] s = absurd s
    named more cookie m names (c ∷ cs) s = let l = ends more cookie c cs
        in (l.0, (l.1.0, (l.1.1, one_each more cookie m names c cs (steps_one c names cs s.1))))

    -- of any, where some bits of the last are asked for
    all : (k cookie : ℕ) (path : Path) (cs : List Child) → Steps t root path cs
        → Led path (locks_from cookie who (wants (suc k) cs)) (fid_of (last_of root cs))
    all k cookie [] [] s = (_, (refl, (refl, refl)))
    all k cookie [] (c ∷ cs) s = absurd s
    all k cookie (m ∷ names) cs s = named (suc k) cookie m names cs s

    -- ---- the answers

    module _ (cookie : ℕ) where
      abbrev Brings : Op → Outcome → Type 0
      Brings o out = NoRefusal out.answer → Comes o out.answer (locks_from cookie who out.grants)

      lookup_brings : (path : Path) (cs : List Child) (c : Child) → Steps t root path cs → last_of root cs ≡ c
          → Brings (op.Lookup path) (outcome t (row_lookup cs c))
      lookup_brings [] cs c s e fine = tt
      lookup_brings (m ∷ names) cs (Dir d) s e fine = subst (λ (v : Child). Led (m ∷ names) (locks_from cookie who (wants 0 cs)) (fid_of v))
          e (named 0 cookie m names cs s)
      lookup_brings (m ∷ names) cs (File f) s e fine = subst (λ (v : Child). Led (m ∷ names) (locks_from cookie who (wants 0 cs))
          (fid_of v)) e (named 0 cookie m names cs s)

      stat_brings : (path : Path) (cs : List Child) (c : Child) → Steps t root path cs → last_of root cs ≡ c
          → Brings (op.Stat path) (outcome t (row_stat cs c))
      stat_brings path cs (Dir d) s e fine = subst (λ (v : Child). Led path (locks_from cookie who (wants UPDATE cs)) (fid_of v)) e
          (all 1 cookie path cs s)
      stat_brings [] [] (File f) s e fine = absurd (cc)
      stat_brings [] (c ∷ cs) (File f) s e fine = absurd s
      stat_brings (m ∷ names) cs (File f) s e fine = subst (λ (v : Child). Led (m ∷ names)
          (locks_from cookie who (wants (UPDATE + LAYOUT) cs)) (fid_of v)) e (all 5 cookie (m ∷ names) cs s)

      list_brings : (path : Path) (cs : List Child) (c : Child) → Steps t root path cs → Brings (op.List path) (outcome t (row_list cs c))
      list_brings path cs (Dir d) s fine = (fid_of (last_of root cs), all _ cookie path cs s)
      list_brings path cs (File f) s fine = absurd (fine _ refl)

      layout_brings : (path : Path) (cs : List Child) (c : Child) → Steps t root path cs → last_of root cs ≡ c
          → Brings (op.Layout path) (outcome t (row_layout cs c))
      layout_brings path cs (Dir d) s e fine = absurd (fine _ refl)
      layout_brings [] [] (File f) s e fine = absurd (cc)
      layout_brings [] (c ∷ cs) (File f) s e fine = absurd s
      layout_brings (m ∷ names) cs (File f) s e fine = (fid_of (last_of root cs), all _ cookie (m ∷ names) cs s)

      refuses : (o : Op) (e : Errno) → Brings o (record { answer = told.Refused e; grants = []; changes = [] })
      refuses o e fine = absurd (fine e refl)

      module _ (osts : ℕ) (number : Txn) (asker : Who) where
        pub reading_comes : (o : Op) → IsReading o
            → Brings o (record {
              answer = answer osts t (record { number = number; who = asker; op = o });
              grants =
                  grants osts t (record { number = number; who = asker; op = o });
              changes = [];
            })
        reading_comes (op.Lookup path) r = walk_steps t (Brings (op.Lookup path)) (refuses (op.Lookup path)) root path
            (λ cs. row_lookup cs (last_of root cs)) (λ cs s. lookup_brings path cs (last_of root cs) s refl)
        reading_comes (op.Stat path) r = walk_steps t (Brings (op.Stat path)) (refuses (op.Stat path)) root path
            (λ cs. row_stat cs (last_of root cs)) (λ cs s. stat_brings path cs (last_of root cs) s refl)
        reading_comes (op.List path) r = walk_steps t (Brings (op.List path)) (refuses (op.List path)) root path
            (λ cs. row_list cs (last_of root cs)) (λ cs s. list_brings path cs (last_of root cs) s)
        reading_comes (op.Layout path) r = walk_steps t (Brings (op.Layout path)) (refuses (op.Layout path)) root path
            (λ cs. row_layout cs (last_of root cs)) (λ cs s. layout_brings path cs (last_of root cs) s refl)
        reading_comes _ r = absurd r

-- ---- the locks of what was done

abbrev pub ComesOf : Deed → Type 0
ComesOf d = IsReading d.op → NoRefusal d.reply.answer → Comes d.op d.reply.answer d.reply.locks

module _ (osts : ℕ) (past : List Line) (at : At) where
  act_comes : (d : Deed) → ActOk osts past at d → ComesOf d
  act_comes d ok =
      let v = server_of osts past in
      let r = ok.request in
      subst ComesOf (sym ok.is) (λ reads fine. reading_comes r.who v.tree v.cookie osts none r.who r.op reads fine)

  txn_comes : (d : Deed) → TxnOk osts past at d → ComesOf d
  txn_comes d ok =
      let v = server_of osts past in
      let r = ok.request in
      subst ComesOf (sym ok.is) (λ reads fine. let moves = ok.moves in let still = readings_change_nothing osts v.tree (asked r none) reads
      in absurd (cc))

-- what is done on an object reads no names
object_comes : (d : Deed) → OfObject d → ComesOf d
object_comes d k = λ reads fine. absurd (object_reads d.op k.of_op reads)

-- in the story of a target
pub acted_comes : (head : Head) (past : List Line) (d : Deed) → GrownOf head past → Acted past d → ComesOf d
acted_comes head [] d g a = absurd a
acted_comes head (l ∷ past) d g a = by l.at.node l.entry g.0 a (acted_comes head past d g.3)
  where
    acts_come : (t : ℕ) (x : Deed) → ActsOk head.osts past (turn l.at.stamp (Target t)) t x → ComesOf x
    acts_come t x (inl a) = act_comes head.osts past (turn l.at.stamp (Target t)) x a.1
    acts_come t x (inr a) = object_comes x (sized_object head.osts past (turn l.at.stamp (Target t)) x a.1)

    txns_come : (t : ℕ) (x : Deed) → TxnsOk head.osts past (turn l.at.stamp (Target t)) t x → ComesOf x
    txns_come t x (inl a) = txn_comes head.osts past (turn l.at.stamp (Target t)) x a.1
    txns_come t x (inr a) = object_comes x (write_object head.osts past (turn l.at.stamp (Target t)) x a.1)

    grants_come : (t : ℕ) (lock : Lock) (x : Deed) → GrantsOk head.osts past (turn l.at.stamp (Target t)) t lock x
        → (Acted past x → ComesOf x) → ComesOf x
    grants_come t lock x (inl a) h = h (did_acted past x a.1.did)
    grants_come t lock x (inr a) h = object_comes x (range_object head.osts past (turn l.at.stamp (Target t)) lock x a.1)

    some_is : (x : Deed) → Some x ≡ Some d → x ≡ d
    some_is x e = cc

    by : (node : Node) (e : Entry) → EntryOf head past (turn l.at.stamp node) node e → Acted (line (turn l.at.stamp node) e ∷ past) d
        → (Acted past d → ComesOf d) → ComesOf d
    by (Client c) (Act x) ok a h = absurd ok
    by (Client c) (Made x) ok a h = absurd ok
    by (Client c) (Grant lock given) ok a h = absurd ok
    by (Target t) (Act x) ok (inl e) h = subst ComesOf e (acts_come t x ok)
    by (Target t) (Act x) ok (inr a) h = h a
    by (Target t) (Made x) ok (inl e) h = subst ComesOf e (txns_come t x ok)
    by (Target t) (Made x) ok (inr a) h = h a
    by (Target t) (Grant lock None) ok (inl e) h = absurd (cc)
    by (Target t) (Grant lock None) ok (inr a) h = h a
    by (Client c) (Wait lock x) ok a h = absurd ok
    by (Client c) (Answers x) ok a h = absurd ok
    by (Target t) (Wait lock x) ok (inl e) h = subst ComesOf e (object_comes x
        (wait_object head.osts past (turn l.at.stamp (Target t)) lock x ok.1))
    by (Target t) (Wait lock x) ok (inr a) h = h a
    by (Target t) (Answers x) ok (inl e) h = subst ComesOf e (object_comes x
        (answers_object head.osts past (turn l.at.stamp (Target t)) t x ok.1))
    by (Target t) (Answers x) ok (inr a) h = h a
    by (Target t) (Grant lock (Some x)) ok (inl e) h = subst (λ (y : Deed). (Acted past y → ComesOf y) → ComesOf y) (some_is x e)
        (grants_come t lock x ok) h
    by (Target t) (Grant lock (Some x)) ok (inr a) h = h a
    by node e ok a h = h a
