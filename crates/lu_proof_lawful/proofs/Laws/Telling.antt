-- What is told as an item of the history: nothing, an operation on names that reads, or a call on the bytes of a file. None of these
-- changes
-- names, and only a write and a cut change bytes.
use Rattle.std.proofs.Common.{◌≡◌, ℕ, suc, Bool, true, false, List, Option, Some, None, ◌⊎◌, inl, inr, ⊎_elim, refl, sym, subst, ap, ◌∙◌}
use Rattle.std.specs.Prelude.{not, ◌&&◌, if◌then◌else◌}
use Rattle.std.specs.Option.{option_map}
use Rattle.std.proofs.lemmas.Bool.{cond_both}
use Rattle.lu_base.specs.declared.ids.At.{At}
use Rattle.lu_base.specs.declared.ids.Fid.{Fid}
use Rattle.lu_base.specs.declared.ids.Node.TheVariants.{Client}
use Rattle.lu_base.specs.declared.ids.Stamp.{Stamp}
use Rattle.lu_base.specs.declared.ids.Txn.{Txn as TxnOf}
use Rattle.lu_base.specs.declared.ids.Who.{Who}
use Rattle.lu_msg.specs.declared.answers.Answer.{Answer}
use Rattle.lu_msg.specs.declared.calls.Call.{Call}
use Rattle.lu_msg.specs.declared.calls.Call.TheVariants as call
use Rattle.lu_msg.specs.declared.operations.Op.{Op}
use Rattle.lu_msg.specs.declared.operations.Op.TheVariants as op
use Rattle.lu_spec_machine.specs.declared.acts.Act.{Act as ActOf}
use Rattle.lu_spec_machine.specs.declared.acts.Deed.{Deed as DeedOf}
use Rattle.lu_spec_machine.specs.declared.acts.Deed.TheVariants.{Names, Data}
use Rattle.lu_spec_machine.specs.Machine.{Machine}
use Rattle.lu_spec_entries.specs.Carried.{HandleFile, Plain, Bad, Flushing, Work, Running}
use Rattle.lu_spec_entries.specs.Words.{Line}
use Rattle.lu_spec_entries.specs.Printed.{printed}
use Rattle.lu_proof_lawful.specs.Covered.Calls.{call_at, operation_of, becomes}
use Rattle.lu_proof_lawful.specs.Covered.Runs.{IsOnBytes}
use Rattle.lu_proof_lawful.specs.Covered.Heads.{Head}
use Rattle.lu_proof_lawful.specs.Covered.Known.{notes_at}
use Rattle.lu_spec_laws.specs.Words.Pasts.{same_turn}
use Rattle.lu_spec_laws.specs.Words.Lives.{who_is}
use Rattle.lu_spec_laws.specs.Words.Calls.{Begun, file_of}
use Rattle.lu_spec_laws.specs.Words.Calls.{operation as operation_in}
use Rattle.lu_spec_laws.specs.Words.Histories.{none, data_deed, deed_on, deed_of, act_of, call_act, is_answer, told_item, standing_item}
use Rattle.lu_spec_laws.specs.Words.Histories.{after_item}
use Rattle.lu_spec_laws.proofs.Leaves.{acts_leave}
use Rattle.lu_proof_lawful.proofs.Preconditions.Guards.{Steps, IsChange, ChangesOn, FlushFrom, WroteOk, TellsOk}
use Rattle.lu_proof_lawful.proofs.Preconditions.Grown.{Grown}
use Rattle.lu_proof_lawful.proofs.Invariants.Groups.{turn}
use Rattle.lu_proof_lawful.proofs.Invariants.Sides.{first_at}
use Rattle.lu_proof_lawful.proofs.Laws.Fine.{known_operation}
use Rattle.lu_proof_lawful.proofs.Laws.Handles.{meant_is}
use Rattle.lu_proof_lawful.proofs.Laws.MachineBytes.{on_file, IsStill, data_leaves, piece_leaves}
use Rattle.lu_proof_lawful.proofs.Laws.OpenedFiles.{file_meant}
use Rattle.lu_proof_lawful.proofs.Laws.Printed.{open_is}
use Rattle.lu_proof_lawful.proofs.Laws.ToldLaw.{Tells, told_tells}
use Rattle.lu_proof_lawful.proofs.Laws.Turns.{same_turn_self, other_node}

-- ---- turns

pub own_turn : (named at : At) → named ≡ at → same_turn named at ≡ true
own_turn named at e = subst (λ (v : At). same_turn v at ≡ true) (sym e) (same_turn_self at)

-- what acted at the metadata target is told in another turn
pub told_elsewhere : (head : Head) (past : List Line) (stamp : Stamp) (c slot : ℕ) (named : At) (given : Answer) → Grown head past
    → Tells past (turn stamp (Client c)) c slot named given → same_turn named (turn stamp (Client c)) ≡ false
told_elsewhere head past stamp c slot named given g t = subst (λ (v : At). same_turn v (turn stamp (Client c)) ≡ false) t.turn_is
    (other_node t.deed.reply.at (turn stamp (Client c)) 0 c (first_at head past t.deed g t.acted) refl)

-- ---- calls as acts

-- a glimpse asks nothing of the machine
glimpse_act : (head : Head) (past : List Line) (c slot : ℕ) (r : Running) (handle : ℕ) → Grown head past → call_at c slot past ≡ Some r
    → r.call ≡ call.Glimpse handle → call_act (printed past) c slot ≡ None
glimpse_act head past c slot r handle g is glimpses =
    let b = open_is head c slot past r g is in
    ap (λ (v : Option Begun). act_of (who_is c (printed past)) none (deed_of v)) b.1
    ∙ ap (λ (v : Call). act_of (who_is c (printed past)) none (deed_on b.0 v)) (b.3 ∙ glimpses)

-- what a call on names asks of the machine, whose answer is known
names_deed : (b : Begun) (file : Option HandleFile) (o : Op) → operation_of file b.call ≡ Some o → operation_in b ≡ Some o
    → deed_on b b.call ≡ Some (Names o)
names_deed b file o e q = by b.call e (ap (option_map Names) q)
  where
    by : (k : Call) → operation_of file k ≡ Some o → option_map Names (operation_in b) ≡ Some (Names o) → deed_on b k ≡ Some (Names o)
    by (call.Read h offset count) e q = absurd (cc)
    by (call.Write h offset bytes) e q = absurd (cc)
    by (call.Cut h size) e q = absurd (cc)
    by (call.Flush h) e q = absurd (cc)
    by (call.Glimpse h) e q = absurd (cc)
    by _ e q = q

pub known_act : (head : Head) (past : List Line) (c slot : ℕ) (r : Running) (o : Op) → Grown head past → call_at c slot past ≡ Some r
    → becomes r ≡ Some o
    → call_act (printed past) c slot ≡ Some (record { who = who_is c (printed past); number = none; deed = Names o })
known_act head past c slot r o g call is =
    let b = meant_is head c slot past r g call in
    ap (λ (v : Option Begun). act_of (who_is c (printed past)) none (deed_of v)) b.1
    ∙ ap (λ (v : Option DeedOf). act_of (who_is c (printed past)) none v)
    (names_deed b.0 r.file o (ap (operation_of r.file) b.3 ∙ is) (sym b.4 ∙ is))

-- a read, a write, a cut or a flush
abbrev pub IsOnFile : Call → Type 0
IsOnFile k = IsStill k ⊎ IsChange k

on_bytes : (k : Call) → IsOnFile k → IsOnBytes k
on_bytes (call.Read h offset count) on = tt
on_bytes (call.Write h offset bytes) on = tt
on_bytes (call.Cut h size) on = tt
on_bytes (call.Flush h) on = tt
on_bytes k (inl on) = absurd on
on_bytes k (inr on) = absurd on

deed_there : (b : Begun) (file : Fid) (k : Call) → IsOnFile k → file_of b ≡ Some file → b.call ≡ k → deed_on b b.call ≡ Some (Data file k)
deed_there b file k on of is = ap (deed_on b) is ∙ by k on ∙ ap (data_deed b.call) of ∙ ap (λ (v : Call). Some (Data file v)) is
  where
    by : (k : Call) → IsOnFile k → deed_on b k ≡ data_deed b.call (file_of b)
    by (call.Read h offset count) on = refl
    by (call.Write h offset bytes) on = refl
    by (call.Cut h size) on = refl
    by (call.Flush h) on = refl
    by k (inl on) = absurd on
    by k (inr on) = absurd on

-- such a call asks of the file of its handle
pub file_act : (head : Head) (past : List Line) (c slot : ℕ) (r : Running) (file : HandleFile) → Grown head past → call_at c slot past
    ≡ Some r → IsOnFile r.call → (r.stage ≡ Bad → ⊥) → r.file ≡ Some file
    → call_act (printed past) c slot ≡ Some (on_file (who_is c (printed past)) file.fid r.call)
file_act head past c slot r file g is on good of_file =
    let m = file_meant head c slot past r file g is (on_bytes r.call on) good of_file in
    ap (λ (v : Option Begun). act_of (who_is c (printed past)) none (deed_of v)) m.1
    ∙ ap (act_of (who_is c (printed past)) none) (deed_there m.0 file.fid r.call on m.3 m.2)

-- ---- what is told

-- it adds nothing, or an operation on names that reads, or a read or a flush of a file
abbrev pub StillAdds : Who → Option ActOf → Type 0
StillAdds who i = (i ≡ None) ⊎ ((o : Op) × (i ≡ Some (record { who = who; number = none; deed = Names o })))
    ⊎ ((file : Fid) × (k : Call) × IsStill k × (i ≡ Some (on_file who file k)))

-- or a write or a cut of one
abbrev pub ToldAdds : Who → Option ActOf → Type 0
ToldAdds who i = StillAdds who i ⊎ ((file : Fid) × (k : Call) × (i ≡ Some (on_file who file k)))

-- a flush is on a good handle
pub flush_good : (at : At) (r : Running) (from : ℕ) → FlushFrom at r from → r.stage ≡ Bad → ⊥
flush_good at r from (inl p) bad = let x : Plain ≡ Bad = sym p.0 ∙ bad in absurd (cc)
flush_good at r from (inr p) bad = let x : Flushing from ≡ Bad = sym p ∙ bad in absurd (cc)

-- that of a call that changes bytes
pub changed_call : (r : Running) (done : Work) → (does : ChangesOn r done) → (file : HandleFile) × (r.file ≡ Some file)
    × (done.fid ≡ file.fid) × (done.layout ≡ file.layout) × (r.stage ≡ Bad → ⊥) × IsChange r.call
changed_call r done (inl w) = (w.file, w.of_file, w.fid, w.layout, w.good, subst IsChange (sym w.writes) tt)
changed_call r done (inr w) = (w.file, w.of_file, w.fid, w.layout, w.good, subst IsChange (sym w.cuts) tt)

module _ (head : Head) (out : Who → Bool) (past : List Line) (stamp : Stamp) (c slot : ℕ) (named : At) (given : Answer) (work : Option Work)
    (g : Grown head past) (steps : Steps past (turn stamp (Client c))) where
  none_counts : (b : Bool) → (b && false) ≡ false
  none_counts true = refl
  none_counts false = refl

  -- where it is an item at all
  adds : StillAdds (who_is c (printed past)) (call_act (printed past) c slot)
      → StillAdds (who_is c (printed past)) (told_item out (printed past) (turn stamp (Client c)) (Client c) slot named given)
  adds a = cond_both (same_turn named (turn stamp (Client c)) && is_answer given && not (out (who_is c (printed past))))
      (call_act (printed past) c slot) None (λ (i : Option ActOf). StillAdds (who_is c (printed past)) i) (λ _. a) (λ _. inl refl)

  uncounted : is_answer given ≡ false → told_item out (printed past) (turn stamp (Client c)) (Client c) slot named given ≡ None
  uncounted e =
      ap (λ (b : Bool). if same_turn named (turn stamp (Client c)) && b && not (out (who_is c (printed past)))
      then call_act (printed past) c slot else None) e
      ∙ ap (λ (b : Bool). if b && not (out (who_is c (printed past))) then call_act (printed past) c slot else None)
      (none_counts (same_turn named (turn stamp (Client c))))

  -- a call that changes bytes counts where its life isn't out
  pub wrote_adds : (k : WroteOk past (turn stamp (Client c)) c slot named given work)
      → told_item out (printed past) (turn stamp (Client c)) (Client c) slot named given
      ≡ (if not (out (who_is c (printed past))) then Some (on_file (who_is c (printed past)) (changed_call k.running k.done k.does).0.fid
      k.running.call) else None)
  wrote_adds k =
      let m = changed_call k.running k.done k.does in
      ap (λ (b : Bool). if b && is_answer given && not (out (who_is c (printed past))) then call_act (printed past) c slot else None)
      (own_turn named (turn stamp (Client c)) k.of_turn)
      ∙ ap (λ (a : Answer). if is_answer a && not (out (who_is c (printed past))) then call_act (printed past) c slot else None) k.of_answer
      ∙ ap (λ (i : Option ActOf). if not (out (who_is c (printed past))) then i else None)
      (file_act head past c slot k.running m.0 g k.call (inr m.5) m.4 m.1)

  -- another call adds nothing that changes bytes
  pub still_adds : TellsOk past (turn stamp (Client c)) c slot named given work
      → StillAdds (who_is c (printed past)) (told_item out (printed past) (turn stamp (Client c)) (Client c) slot named given)
      ⊎ WroteOk past (turn stamp (Client c)) c slot named given work
  still_adds (inl k) = inl (inl (ap (λ (b : Bool). if b && is_answer given && not (out (who_is c (printed past)))
      then call_act (printed past) c slot else None)
      (told_elsewhere head past stamp c slot named given g (told_tells head past stamp c slot named given work steps k g))))
  still_adds (inr (inl k)) = let o = known_operation (notes_at c past) k.running.file k.running.call given k.known
      in inl (adds (inr (inl (o.0, known_act head past c slot k.running o.0 g k.call o.1))))
  still_adds (inr (inr (inl k))) = inl (inl (uncounted (ap is_answer k.of_answer)))
  still_adds (inr (inr (inr (inl k)))) = inl (inl (uncounted (ap is_answer k.of_answer)))
  still_adds (inr (inr (inr (inr (inl k))))) = inl (adds (inl (glimpse_act head past c slot k.running k.has.handle g k.call
      k.has.glimpses)))
  still_adds (inr (inr (inr (inr (inr (inl k)))))) =
      let still : IsStill k.running.call = subst IsStill (sym k.flushes) tt in
      inl (adds (inr (inr (
        k.file.fid,
        k.running.call,
        still,
        file_act head past c slot k.running k.file g k.call (inl still)
            (flush_good (turn stamp (Client c)) k.running k.from k.goes) k.of_file,
      ))))
  still_adds (inr (inr (inr (inr (inr (inr (inl k))))))) =
      let still : IsStill k.running.call = subst IsStill (sym k.does.read.reads) tt in
      inl (adds (inr (inr (
        k.does.read.file.fid,
        k.running.call,
        still,
        file_act head past c slot k.running k.does.read.file g k.call (inl still) k.does.read.good k.does.read.of_file,
      ))))
  still_adds (inr (inr (inr (inr (inr (inr (inr (inl k)))))))) =
      inl (adds (inr (inl (
        op.Stat k.stat.path,
        known_act head past c slot k.running (op.Stat k.stat.path) g k.call
            (ap (operation_of k.running.file) k.stat.stats),
      ))))
  still_adds (inr (inr (inr (inr (inr (inr (inr (inr k)))))))) = inr k

  pub told_adds : TellsOk past (turn stamp (Client c)) c slot named given work
      → ToldAdds (who_is c (printed past)) (told_item out (printed past) (turn stamp (Client c)) (Client c) slot named given)
  told_adds k = ⊎_elim (λ (a : StillAdds (who_is c (printed past))
      (told_item out (printed past) (turn stamp (Client c)) (Client c) slot named given)). inl a)
      (λ (w : WroteOk past (turn stamp (Client c)) c slot named given work).
      subst (ToldAdds (who_is c (printed past))) (sym (wrote_adds w))
      (cond_both (not (out (who_is c (printed past)))) (Some (on_file (who_is c (printed past)) (changed_call w.running w.done w.does).0.fid
      w.running.call)) None (λ (i : Option ActOf). ToldAdds (who_is c (printed past)) i)
      (λ _. inr ((changed_call w.running w.done w.does).0.fid, w.running.call, refl)) (λ _. inl (inl refl))))
      (still_adds k)

-- ---- names and numbers stay

pub told_leaves : (osts : ℕ) (m : Machine) (who : Who) (i : Option ActOf) → ToldAdds who i → ((after_item osts m i).tree ≡ m.tree)
    × ((after_item osts m i).last ≡ m.last)
told_leaves osts m who i (inl (inl e)) = (
  ap (λ (x : Option ActOf). (after_item osts m x).tree) e,
  ap (λ (x : Option ActOf). (after_item osts m x).last) e,
)
told_leaves osts m who i (inl (inr (inl k))) =
    let same = ap (after_item osts m) k.1 ∙ acts_leave osts m who k.0 in
    (ap (λ (n : Machine). n.tree) same, ap (λ (n : Machine). n.last) same)
told_leaves osts m who i (inl (inr (inr f))) =
    let stay = data_leaves osts m who f.0 f.1 in
    (ap (λ (x : Option ActOf). (after_item osts m x).tree) f.3 ∙ stay.0, ap (λ (x : Option ActOf). (after_item osts m x).last) f.3 ∙ stay.1)
told_leaves osts m who i (inr f) =
    let stay = data_leaves osts m who f.0 f.1 in
    (ap (λ (x : Option ActOf). (after_item osts m x).tree) f.2 ∙ stay.0, ap (λ (x : Option ActOf). (after_item osts m x).last) f.2 ∙ stay.1)

-- what reaches an object
pub object_leaves : (osts : ℕ) (m : Machine) (out : Who → Bool) (lost : ℕ → ℕ → Bool) (u : ℕ) (number : TxnOf) (who : Who)
    (asked : Option Op)
    → ((after_item osts m (if lost (suc u) number.0 then None else standing_item (out who) (suc u) number who asked)).tree ≡ m.tree)
    × ((after_item osts m (if lost (suc u) number.0 then None else standing_item (out who) (suc u) number who asked)).last ≡ m.last)
object_leaves osts m out lost u number who asked =
    cond_both (lost (suc u) number.0) None (standing_item (out who) (suc u) number who asked) Leaves (λ _. (refl, refl))
    (λ _. by (out who) asked)
  where
    Leaves : Option ActOf → Type 0
    Leaves i = ((after_item osts m i).tree ≡ m.tree) × ((after_item osts m i).last ≡ m.last)

    by : (b : Bool) (o : Option Op) → Leaves (standing_item b (suc u) number who o)
    by false o = (refl, refl)
    by true None = (refl, refl)
    by true (Some o) = piece_leaves m o
