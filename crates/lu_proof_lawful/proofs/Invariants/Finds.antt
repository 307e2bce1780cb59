-- A reading whose path no call makes finds nothing: what acts was asked by a call that began, and a path leads somewhere only
-- once a call made it. So a run in which no call makes what another looks for needs no lock.
use Rattle.std.proofs.Common.{◌≡◌, ◌<◌, ◌≤◌, ℕ, Bool, true, false, ◌+◌, ◌*◌, List, [], ◌∷◌, Option, Some, None, ◌⊎◌, ⊎_elim, refl, sym}
use Rattle.std.proofs.Common.{subst, ap, ◌∙◌, arith, pos}
use Rattle.std.specs.Prelude.{nat_eq, if◌then◌else◌}
use Rattle.lu_base.specs.declared.ids.At.{At}
use Rattle.lu_base.specs.declared.ids.Node.{Node}
use Rattle.lu_base.specs.declared.ids.Node.TheVariants.{Client, Target}
use Rattle.lu_base.specs.declared.ids.Who.{Who}
use Rattle.lu_msg.specs.declared.calls.Call.{Call}
use Rattle.lu_msg.specs.declared.calls.Call.TheVariants as call
use Rattle.lu_msg.specs.declared.operations.Op.{Op}
use Rattle.lu_msg.specs.declared.operations.Op.TheVariants as op
use Rattle.lu_part.specs.declared.parts.Part.TheVariants as part
use Rattle.lu_spec_machine.specs.Tree.{Tree}
use Rattle.lu_spec_machine.specs.Footprint.{Operation, empty, grants, after, forget}
use Rattle.lu_spec_machine.specs.Removal.{contents}
use Rattle.lu_spec_machine.proofs.Made.{Named, named_wide, named_empty}
use Rattle.lu_spec_entries.specs.Carried.{Deed, HandleFile, Disk}
use Rattle.lu_spec_entries.specs.Words.{Entry, Tick, Txn as Made, Boot, Line, line}
use Rattle.lu_spec_entries.specs.Concerns.{only}
use Rattle.lu_proof_lawful.specs.Covered.TargetStates.{Server, none, boot_at, count_at, tree_at, server_of}
use Rattle.lu_proof_lawful.specs.Covered.Calls.{operation_of}
use Rattle.lu_proof_lawful.specs.Covered.Makes.{Path, CallMakes, Misses}
use Rattle.lu_proof_lawful.specs.Covered.Heads.{Head}
use Rattle.lu_proof_lawful.proofs.Preconditions.StoryGuards.{TxnOk, BootOk}
use Rattle.lu_proof_lawful.proofs.Preconditions.Grown.{Allowed, Grown}
use Rattle.lu_proof_lawful.proofs.Preconditions.Parts.{boot_is, count_is, tree_is}
use Rattle.lu_proof_lawful.proofs.Invariants.Groups.{turn, items_of, HoldsAt}
use Rattle.lu_proof_lawful.proofs.Invariants.All.{holds}
use Rattle.lu_proof_lawful.proofs.Invariants.OverItems.{over_now}
use Rattle.lu_proof_lawful.proofs.Invariants.OnNames.{op_is, becomes_on_names}
use Rattle.lu_proof_lawful.proofs.Invariants.Asked.{Began, began_more, AskedBy, acted_asked}
use Rattle.lu_proof_lawful.proofs.Invariants.Grafts.{named_fewer}
use Rattle.lu_proof_lawful.proofs.Invariants.Named.{Makes, named_after}
use Rattle.lu_proof_lawful.proofs.Invariants.Readings.{lookup_misses, stat_misses, list_misses, layout_misses, changing_free}

-- ---- the tree

-- a call that makes the path began
abbrev pub Made_in : List Line → Path → Type 0
Made_in past path = (k : Call) × Began past k × CallMakes k path

made_more : (l : Line) (past : List Line) (path : Path) → Made_in past path → Made_in (l ∷ past) path
made_more l past path m = (m.0, began_more l past m.0 m.1, m.2)

-- what a call's operation makes the call makes
call_makes : (file : Option HandleFile) (k : Call) (o : Op) (path : Path) → operation_of file k ≡ Some o → Makes o path → CallMakes k path
call_makes file (call.Mkdir made) o path e m = subst (λ (x : Op). Makes x path) (sym (op_is (op.Mkdir made) o e)) m
call_makes file (call.Create made None) o path e m = subst (λ (x : Op). Makes x path) (sym (op_is (op.Create made 1048576 (pos 1)) o e)) m
call_makes file (call.Create made (Some stripes)) o path e m = subst (λ (x : Op). Makes x path)
    (sym (op_is (op.Create made stripes.0 stripes.1) o e)) m
call_makes file (call.Link old new) o path e m = subst (λ (x : Op). Makes x path) (sym (op_is (op.Link old new) o e)) m
call_makes file (call.Rename old new) o path e m = subst (λ (x : Op). Makes x path) (sym (op_is (op.Rename old new) o e)) m
call_makes file (call.Lookup made) o path e m = subst (λ (x : Op). Makes x path) (sym (op_is (op.Lookup made) o e)) m
call_makes file (call.Stat made) o path e m = subst (λ (x : Op). Makes x path) (sym (op_is (op.Stat made) o e)) m
call_makes file (call.List made) o path e m = subst (λ (x : Op). Makes x path) (sym (op_is (op.List made) o e)) m
call_makes file (call.Layout made) o path e m = subst (λ (x : Op). Makes x path) (sym (op_is (op.Layout made) o e)) m
call_makes file (call.Unlink made) o path e m = subst (λ (x : Op). Makes x path) (sym (op_is (op.Unlink made) o e)) m
call_makes file (call.Rmdir made) o path e m = subst (λ (x : Op). Makes x path) (sym (op_is (op.Rmdir made) o e)) m
call_makes file (call.Chmod made mode) o path e m = subst (λ (x : Op). Makes x path) (sym (op_is (op.Chmod made mode) o e)) m
call_makes file (call.Open h made) o path e m = subst (λ (x : Op). Makes x path) (sym (op_is (op.Open made) o e)) m
call_makes (Some f) (call.Close h) o path e m = subst (λ (x : Op). Makes x path) (sym (op_is (op.Close f.number f.fid) o e)) m
call_makes file k o path e m = absurd (cc)

makes_asked : (past : List Line) (o : Op) (path : Path) → AskedBy past o → Makes o path → Made_in past path
makes_asked past o path a m = (a.0, a.1, call_makes a.2 a.0 o path a.3 m)

-- the highest number so far, and the first of a boot where there is none
abbrev pub numbers_at : List Line → ℕ
numbers_at past = boot_at 0 past * 4294967296 + count_at 0 past

-- a transaction has the next one
pub number_next : (head : Head) (past : List Line) → Grown head past → (at : At) (d : Deed) → TxnOk head.osts (only 0 past) at d
    → d.reply.txn.0 ≡ numbers_at past + 1
number_next head past g at d ok =
    let n : d.reply.txn.0 ≡ (server_of head.osts (only 0 past)).boot * 4294967296 + ((server_of head.osts (only 0 past)).count + 1) =
    ap (λ (e : Deed). e.reply.txn.0) ok.is in
    let b = boot_is head.osts 0 past in
    let c = count_is head.osts 0 past in
    omega (arith, n, b, c)

-- a boot begins above all numbers of the one before
boots_up : (head : Head) (past : List Line) (boot : ℕ) (disk : Disk) → Grown head past → BootOk head (only 0 past) boot disk
    → numbers_at past ≤ boot * 4294967296
boots_up head past boot disk g ok =
    let n = ok.next in
    let b = boot_is head.osts 0 past in
    let c = count_is head.osts 0 past in
    let le = ((holds head past g).at 0).phase.count in
    omega (arith, n, b, c, le)

-- they rise
pub numbers_up : (head : Head) (l : Line) (past : List Line) → Grown head past → Allowed head past l.at l.entry
    → numbers_at past ≤ numbers_at (l ∷ past)
numbers_up head l past g a = by l.at.node l.entry a
  where
    by : (node : Node) (e : Entry) → Allowed head past (turn l.at.stamp node) e
        → numbers_at past ≤ numbers_at (line (turn l.at.stamp node) e ∷ past)
    by (Target t) (Made d) k = own (nat_eq 0 t)
      where
        own : (b : Bool) → numbers_at past ≤ boot_at 0 past * 4294967296 + (if b then count_at 0 past + 1 else count_at 0 past)
        own true = omega arith
        own false = omega arith
    by (Target t) (Boot boot disk) k = own (nat_eq 0 t) refl
      where
        own : (b : Bool) → nat_eq 0 t ≡ b → numbers_at past ≤ (if b then boot else boot_at 0 past) * 4294967296 +
            (if b then 0 else count_at 0 past)
        own true e = let up = boots_up head past boot disk g (k.of 0 e) in omega (arith, up)
        own false e = omega arith
    by (Client c) (Made d) k = omega arith
    by (Target t) Tick k = omega arith
    by node e k = omega arith

-- paths that were made before a transaction that was asked are made after it
pub named_act : (osts : ℕ) (past : List Line) (t : Tree) (a : Operation) (n : ℕ) → AskedBy past a.op → n < a.number.0
    → Named (Made_in past) n t → Named (Made_in past) a.number.0 (after osts t a)
named_act osts past t a n b lt h =
    named_wide (λ path. Made_in past path ⊎ Makes a.op path) (Made_in past) a.number.0 a.number.0 (after osts t a)
    (λ path m. ⊎_elim (λ (x : Made_in past path). x) (λ (x : Makes a.op path). makes_asked past a.op path b x) m) (omega arith)
    (named_after osts t a.number a.who (Made_in past) n h lt a.op (becomes_on_names b.2 b.0 a.op b.3))

-- the paths of the tree were made: each transaction that stands was asked by a call
pub named : (head : Head) (past : List Line) → Grown head past → Named (Made_in past) (numbers_at past) (tree_at head.osts 0 past)
named head past g =
    subst (λ (t : Tree). Named (Made_in past) (numbers_at past) t) (sym (tree_is head.osts 0 past))
    (named_wide (Made_in past) (Made_in past) bound (numbers_at past) v.tree (λ path m. m)
    (let b = boot_is head.osts 0 past in let c = count_is head.osts 0 past in omega (arith, b, c))
    (named_fewer (Made_in past) bound (contents head.osts empty (items_of head.osts story)) v.tree
    (λ d n c is. at.history.tree (part.Name d n) ∙ is) left))
  where
    story : List Line
    story = only 0 past

    at : HoldsAt head story
    at = (holds head past g).at 0

    v : Server
    v = server_of head.osts story

    bound : ℕ
    bound = v.boot * 4294967296 + v.count

    left : Named (Made_in past) bound (contents head.osts empty (items_of head.osts story))
    left =
        over_now head story (λ n t. Named (Made_in past) n t) (λ n le. named_empty (Made_in past) n le)
        (λ is a n ok lt h. named_act head.osts past (contents head.osts empty is) a n
        (subst (AskedBy past) (ap (λ (x : Operation). x.op) ok.operates) (acted_asked head past ok.deed g ok.acted)) lt h)
        (λ n t who h. named_fewer (Made_in past) n t (forget t who) (λ d m c is. is) h)
        (λ n m t le h. named_wide (Made_in past) (Made_in past) n m t (λ path x. x) le h) at

-- ---- what was asked is granted no lock

-- where each call that reads misses what calls make
pub granted_none : (head : Head) (past : List Line) → Grown head past → (who : Who) (o : Op) → AskedBy past o
    → ((k : Call) → Began past k → Misses (Made_in past) k)
    → grants head.osts (tree_at head.osts 0 past) (record { number = none; who = who; op = o }) ≡ []
granted_none head past g who o a misses = by a.2 a.0 o a.3 (misses a.0 a.1)
  where
    bound : ℕ
    bound = numbers_at past

    Free : Op → Type 0
    Free o = grants head.osts (tree_at head.osts 0 past) (record { number = none; who = who; op = o }) ≡ []

    by : (file : Option HandleFile) (k : Call) (o : Op) → operation_of file k ≡ Some o → Misses (Made_in past) k → Free o
    by file (call.Lookup path) o e k = subst Free (op_is (op.Lookup path) o e)
        (lookup_misses head.osts (tree_at head.osts 0 past) none who (Made_in past) bound (named head past g) path k.0 k.1)
    by file (call.Stat path) o e k = subst Free (op_is (op.Stat path) o e)
        (stat_misses head.osts (tree_at head.osts 0 past) none who (Made_in past) bound (named head past g) path k.0 k.1)
    by file (call.List path) o e k = subst Free (op_is (op.List path) o e)
        (list_misses head.osts (tree_at head.osts 0 past) none who (Made_in past) bound (named head past g) path k.0 k.1)
    by file (call.Layout path) o e k = subst Free (op_is (op.Layout path) o e)
        (layout_misses head.osts (tree_at head.osts 0 past) none who (Made_in past) bound (named head past g) path k)
    by file (call.Mkdir path) o e k = subst Free (op_is (op.Mkdir path) o e)
        (changing_free head.osts (tree_at head.osts 0 past) none who (op.Mkdir path) tt (λ is. is))
    by file (call.Create path None) o e k = subst Free (op_is (op.Create path 1048576 (pos 1)) o e)
        (changing_free head.osts (tree_at head.osts 0 past) none who (op.Create path 1048576 (pos 1)) tt (λ is. is))
    by file (call.Create path (Some stripes)) o e k = subst Free (op_is (op.Create path stripes.0 stripes.1) o e)
        (changing_free head.osts (tree_at head.osts 0 past) none who (op.Create path stripes.0 stripes.1) tt (λ is. is))
    by file (call.Link old new) o e k = subst Free (op_is (op.Link old new) o e)
        (changing_free head.osts (tree_at head.osts 0 past) none who (op.Link old new) tt (λ is. is))
    by file (call.Unlink path) o e k = subst Free (op_is (op.Unlink path) o e)
        (changing_free head.osts (tree_at head.osts 0 past) none who (op.Unlink path) tt (λ is. is))
    by file (call.Rmdir path) o e k = subst Free (op_is (op.Rmdir path) o e)
        (changing_free head.osts (tree_at head.osts 0 past) none who (op.Rmdir path) tt (λ is. is))
    by file (call.Rename old new) o e k = subst Free (op_is (op.Rename old new) o e)
        (changing_free head.osts (tree_at head.osts 0 past) none who (op.Rename old new) tt (λ is. is))
    by file (call.Chmod path mode) o e k = subst Free (op_is (op.Chmod path mode) o e)
        (changing_free head.osts (tree_at head.osts 0 past) none who (op.Chmod path mode) tt (λ is. is))
    by file (call.Open h path) o e k = subst Free (op_is (op.Open path) o e)
        (changing_free head.osts (tree_at head.osts 0 past) none who (op.Open path) tt (λ is. is))
    by (Some f) (call.Close h) o e k = subst Free (op_is (op.Close f.number f.fid) o e)
        (changing_free head.osts (tree_at head.osts 0 past) none who (op.Close f.number f.fid) tt (λ is. is))
    by file k o e misses = absurd (cc)
