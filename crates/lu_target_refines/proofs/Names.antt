-- What a service of names answers, touches, writes and grants is what the rows have of their tree; and what it holds after
-- each call is what the rows' contents become.
use Rattle.std.proofs.Common.{◌≡◌, ℕ, ◌+◌, ◌<◌, ◌≤◌, Bool, true, false, cond, List, [], ◌∷◌, ◌++◌, refl, sym, ap, subst, ◌∙◌, arith}
use Rattle.std.specs.Prelude.{if◌then◌else◌}
use Rattle.lu_base.specs.declared.ids.At.{At}
use Rattle.lu_base.specs.declared.ids.Fid.{Fid}
use Rattle.lu_base.specs.declared.ids.Txn.{Txn}
use Rattle.lu_base.specs.declared.ids.Who.{Who}
use Rattle.lu_base.specs.declared.locks.Lock.{Lock}
use Rattle.lu_msg.specs.declared.answers.Answer.{Answer}
use Rattle.lu_msg.specs.declared.commits.Transaction.{Transaction}
use Rattle.lu_msg.specs.declared.messages.Request.{Request as RequestOf}
use Rattle.lu_msg.specs.declared.operations.Op.{Op}
use Rattle.lu_msg.specs.declared.operations.Op.TheVariants as op
use Rattle.lu_part.specs.declared.parts.Part.{Part}
use Rattle.lu_part.specs.declared.parts.Want.{Want}
use Rattle.lu_spec_machine.specs.Change.{Change, changed}
use Rattle.lu_spec_machine.specs.Footprint.{Operation, empty, is_some_change, outcome_of, answer, touches, writes, grants, changes, after}
use Rattle.lu_spec_machine.specs.Footprint.{forget}
use Rattle.lu_spec_machine.specs.Laws.{Alike}
use Rattle.lu_spec_machine.specs.Removal.{Item, Acts as Performed, Forgets, contents}
use Rattle.lu_spec_machine.specs.Tree.{Tree, Inode, Opened}
use Rattle.lu_spec_machine.specs.Trim.{Above, trimmed, trim, living, is_alive}
use Rattle.lu_spec_machine.proofs.Trim.{unseen}
use Rattle.lu_service.specs.Acts.{Acts}
use Rattle.lu_service.specs.Contents.{Contents, asked}
use Rattle.lu_service.specs.Names as service
use Rattle.lu_service.specs.Names.{names, fresh}
use Rattle.lu_service.specs.Takes.{IsNamed}
use Rattle.lu_spec_entries.specs.Carried.{Contents as Read, Deed}
use Rattle.lu_spec_entries.specs.Words.{Txn as Transacts}
use Rattle.lu_spec_target.specs.Stored.{transaction_of, operation_of, done, done_by, forgotten}
use Rattle.lu_spec_target.specs.States.{Target, no_contents, after as after_entry}
use Rattle.lu_spec_target.specs.Replies.{seen_in, none, next_number, reply_to, deed_of}
use Rattle.lu_spec_target.specs.Names.{does_change, written_by, locks_from, locks_for, names_deed}
use Rattle.lu_spec_target.specs.Outcomes.{answer_of, writes_of, deed_again, redone}
use Rattle.lu_spec_target.specs.Windows.{Replayed}
use Rattle.lu_target_refines.specs.Contents.{ShowsNames, all_forgotten, transaction_again}

-- ---- no operation can tell the two trees apart

alike : (osts below : ℕ) (s : Contents) (read : Read) → ShowsNames osts below s read → (a : Operation) → Alike osts read.tree s.tree a
alike osts below s read shows a =
    subst (λ (t : Tree). Alike osts t s.tree a) (sym shows.rows)
    (subst (λ (u : Tree). Alike osts (contents osts empty shows.past) u a) (sym shows.tree) (unseen osts shows.past shows.rising a))

pub answer_is : (acts : Acts) → acts ≡ names → (osts below : ℕ) (s : Contents) (read : Read) → ShowsNames osts below s read
    → (a : Operation) → acts.answer s a ≡ answer osts read.tree a
answer_is acts is osts below s read shows a =
    ap (λ (x : Acts). x.answer s a) is ∙ ap (λ n. answer n s.tree a) shows.targets ∙ sym (alike osts below s read shows a).answer

pub touches_are : (acts : Acts) → acts ≡ names → (osts below : ℕ) (s : Contents) (read : Read) → ShowsNames osts below s read
    → (a : Operation) → acts.touches s a ≡ touches osts read.tree a
touches_are acts is osts below s read shows a =
    ap (λ (x : Acts). x.touches s a) is ∙ ap (λ n. touches n s.tree a) shows.targets ∙ sym (alike osts below s read shows a).touches

pub writes_are : (acts : Acts) → acts ≡ names → (osts below : ℕ) (s : Contents) (read : Read) → ShowsNames osts below s read
    → (a : Operation) → acts.writes s a ≡ writes osts read.tree a
writes_are acts is osts below s read shows a =
    ap (λ (x : Acts). x.writes s a) is ∙ ap (λ n. writes n s.tree a) shows.targets ∙ sym (alike osts below s read shows a).writes

pub grants_are : (acts : Acts) → acts ≡ names → (osts below : ℕ) (s : Contents) (read : Read) → ShowsNames osts below s read
    → (a : Operation) → acts.grants s a ≡ grants osts read.tree a
grants_are acts is osts below s read shows a =
    ap (λ (x : Acts). x.grants s a) is ∙ ap (λ n. grants n s.tree a) shows.targets ∙ sym (alike osts below s read shows a).grants

pub changes_is : (acts : Acts) → acts ≡ names → (osts below : ℕ) (s : Contents) (read : Read) → ShowsNames osts below s read
    → (a : Operation) → acts.changes s a ≡ changes osts read.tree a
changes_is acts is osts below s read shows a =
    ap (λ (x : Acts). x.changes s a) is ∙ ap (λ n. changes n s.tree a) shows.targets ∙ sym (alike osts below s read shows a).changes

-- ---- a request in the rows

pub does_change_is : (acts : Acts) → acts ≡ names → (below : ℕ) (s : Contents) (v : Target) → ShowsNames v.setting.osts below s v.contents
    → (r : RequestOf) (would : Bool)
    → would ≡ acts.changes s (asked none r.who r.op) → would ≡ does_change v r
does_change_is acts is below s v shows r would e = e ∙ changes_is acts is v.setting.osts below s v.contents shows (asked none r.who r.op)

pub written_by_is : (acts : Acts) → acts ≡ names → (below : ℕ) (s : Contents) (v : Target) → ShowsNames v.setting.osts below s v.contents
    → (r : RequestOf) (parts : List Part)
    → parts ≡ acts.writes s (asked (next_number v) r.who r.op) → parts ≡ written_by v r
written_by_is acts is below s v shows r parts e = e ∙ writes_are acts is v.setting.osts below s v.contents shows
    (asked (next_number v) r.who r.op)

pub locks_for_are : (acts : Acts) → acts ≡ names → (below : ℕ) (s : Contents) (v : Target) → ShowsNames v.setting.osts below s v.contents
    → (r : RequestOf) (wants : List Want)
    → wants ≡ acts.grants s (asked none r.who r.op) → locks_from v.cookie r.who wants ≡ locks_for v r
locks_for_are acts is below s v shows r wants e =
    ap (locks_from v.cookie r.who) (e ∙ grants_are acts is v.setting.osts below s v.contents shows (asked none r.who r.op))

pub names_deed_is : (acts : Acts) → acts ≡ names → (below : ℕ) (s : Contents) (v : Target) → ShowsNames v.setting.osts below s v.contents
    → (at : At) (r : RequestOf) (number : Txn) (locks : List Lock) (told : Answer) (touched written : List Part)
    → told ≡ acts.answer s (asked number r.who r.op) → touched ≡ acts.touches s (asked number r.who r.op) → written
    ≡ acts.writes s (asked number r.who r.op)
    → names_deed v at r number locks ≡ deed_of r written (reply_to v r number (seen_in touched v.log) at locks told)
names_deed_is acts is below s v shows at r number locks told touched written t u w =
    let a : Operation = asked number r.who r.op in
    let one : told ≡ answer v.setting.osts v.contents.tree a = t ∙ answer_is acts is v.setting.osts below s v.contents shows a in
    let two : touched ≡ touches v.setting.osts v.contents.tree a = u ∙ touches_are acts is v.setting.osts below s v.contents shows a in
    let three : written ≡ writes v.setting.osts v.contents.tree a = w ∙ writes_are acts is v.setting.osts below s v.contents shows a in
    sym (ap (λ (parts : List Part). deed_of r parts (reply_to v r number (seen_in touched v.log) at locks told)) three
    ∙ ap (λ (parts : List Part). deed_of r (writes v.setting.osts v.contents.tree a)
    (reply_to v r number (seen_in parts v.log) at locks told)) two
    ∙ ap (λ (x : Answer). deed_of r (writes v.setting.osts v.contents.tree a)
    (reply_to v r number (seen_in (touches v.setting.osts v.contents.tree a) v.log) at locks x)) one)

-- ---- what the service holds: at the start, after a transaction, after what makes none, and after lives that go

above_more : (past : List Item) (n m : ℕ) → n ≤ m → Above past n → Above past m
above_more [] n m le above = omega (arith, le, above)
above_more (Performed a ∷ past) n m le above = (omega (arith, le, above.0), above_more past n m le above.1)
above_more (Forgets who ∷ past) n m le above = above_more past n m le above

pub fresh_shows : (osts : ℕ) → ShowsNames osts 2 (fresh osts) no_contents
fresh_shows osts = record { past = []; rising = tt; above = omega arith; last = omega arith; targets = refl; tree = refl; rows = refl }

pub shows_below : (osts below more : ℕ) (s : Contents) (read : Read) → below ≤ more → ShowsNames osts below s read
    → ShowsNames osts more s read
shows_below osts below more s read le shows =
    record {
      past = shows.past;
      rising = shows.rising;
      above = above_more shows.past below more le shows.above;
      last = omega (arith, le, shows.last);
      targets = shows.targets;
      tree = shows.tree;
      rows = shows.rows;
    }

-- an operation on names changes the tree, and is answered by it
record Plain (osts : ℕ) (t : Transaction) (c : Read) (r : Replayed) (o : Op) : Type 0 where
  done : done_by osts t c o ≡ record c { tree = after osts c.tree (operation_of t) }
  told : answer_of osts c r o ≡ answer osts c.tree (redone r)
  written : writes_of osts c r o ≡ writes osts c.tree (redone r)

plain : (osts : ℕ) (t : Transaction) (c : Read) (r : Replayed) (o : Op) → IsNamed o → Plain osts t c r o
plain osts t c r (op.Lookup path) named = record { done = refl; told = refl; written = refl }
plain osts t c r (op.Stat path) named = record { done = refl; told = refl; written = refl }
plain osts t c r (op.List path) named = record { done = refl; told = refl; written = refl }
plain osts t c r (op.Layout path) named = record { done = refl; told = refl; written = refl }
plain osts t c r (op.Mkdir path) named = record { done = refl; told = refl; written = refl }
plain osts t c r (op.Create path size count) named = record { done = refl; told = refl; written = refl }
plain osts t c r (op.Link old new) named = record { done = refl; told = refl; written = refl }
plain osts t c r (op.Unlink path) named = record { done = refl; told = refl; written = refl }
plain osts t c r (op.Rmdir path) named = record { done = refl; told = refl; written = refl }
plain osts t c r (op.Rename old new) named = record { done = refl; told = refl; written = refl }
plain osts t c r (op.Chmod path mode) named = record { done = refl; told = refl; written = refl }
plain osts t c r (op.Open path) named = record { done = refl; told = refl; written = refl }
plain osts t c r (op.Close opened fid) named = record { done = refl; told = refl; written = refl }
plain osts t c r (op.Enqueue resource mode extent) named = absurd named
plain osts t c r (op.Get resource cookie page) named = absurd named
plain osts t c r (op.Put resource cookie offset bytes) named = absurd named
plain osts t c r (op.Cut resource cookie size) named = absurd named
plain osts t c r (op.Size resource) named = absurd named

no_replay : Transaction → Replayed
no_replay t = record { who = t.who; number = 0; xid = 0; tag = 0; seen = []; op = t.op }

last_below : (would : Bool) (n last below : ℕ) → below ≤ n → last < below → (if would then n else last) < n + 1
last_below true n last below le less = omega arith
last_below false n last below le less = omega (arith, le, less)

pub performs : (acts : Acts) → acts ≡ names → (osts below : ℕ) (s new : Contents) (read : Read) → ShowsNames osts below s read
    → (t : Transaction) → below ≤ t.txn.0 → IsNamed t.op → new ≡ acts.after s (asked t.txn t.who t.op)
    → ShowsNames osts (t.txn.0 + 1) new (done osts read t)
performs acts is osts below s new read shows t le named e =
    let a : Operation = operation_of t in
    let own : new ≡ service.after s a = e ∙ ap (λ (x : Acts). x.after s a) is in
    let above : Above shows.past t.txn.0 = above_more shows.past below t.txn.0 le shows.above in
    let done : done_by osts t read t.op ≡ record read { tree = after osts read.tree a } =
    Plain.done (plain osts t read (no_replay t) t.op named) in
    record {
      past = Performed a ∷ shows.past;
      rising = (above, shows.rising);
      above = (omega arith, above_more shows.past t.txn.0 (t.txn.0 + 1) (omega arith) above);
      last = subst (λ (x : Contents). x.last < t.txn.0 + 1) (sym own)
          (last_below (changes s.osts s.tree a) t.txn.0 s.last below le shows.last);
      targets = ap (λ (x : Contents). x.osts) own ∙ shows.targets;
      tree = ap (λ (x : Contents). x.tree) own ∙ ap (λ n. trim (after n s.tree a)) shows.targets
          ∙ ap (λ (u : Tree). trim (after osts u a)) shows.tree;
      rows = ap (λ (x : Read). x.tree) done ∙ ap (λ (u : Tree). after osts u a) shows.rows;
    }

-- the target's next transaction: the numbers are those of its state
pub transacts : (acts : Acts) → acts ≡ names → (s new : Contents) (v : Target) → ShowsNames v.setting.osts (v.number + 1) s v.contents
    → (d : Deed) → d.reply.txn ≡ next_number v → IsNamed d.op → new ≡ acts.after s (asked d.reply.txn d.reply.who d.op)
    → ShowsNames v.setting.osts ((after_entry v (Transacts d)).number + 1) new (after_entry v (Transacts d)).contents
transacts acts is s new v shows d number named e =
    let le : v.number + 1 ≤ v.number + 1 = omega arith in
    performs acts is v.setting.osts (v.number + 1) s new v.contents shows (transaction_of d)
    (subst (λ (x : Txn). v.number + 1 ≤ x.0) (sym number) le) named e

-- what makes no transaction leaves all as it is
living_again : (opens : List Opened) (files : List (Fid × Inode)) → living opens (living opens files) ≡ living opens files
living_again opens [] = refl
living_again opens (e ∷ files) = by (is_alive opens e) refl (living_again opens files) where
  by : (alive : Bool) → is_alive opens e ≡ alive → living opens (living opens files) ≡ living opens files
      → living opens (cond alive (e ∷ living opens files) (living opens files)) ≡ cond alive (e ∷ living opens files) (living opens files)
  by true h rest = ap (λ b. cond b (e ∷ living opens (living opens files)) (living opens (living opens files))) h
      ∙ ap (λ (more : List (Fid × Inode)). e ∷ more) rest
  by false h rest = rest

trim_again : (osts : ℕ) (past : List Item) → trim (trimmed osts past) ≡ trimmed osts past
trim_again osts [] = refl
trim_again osts (Performed a ∷ past) =
    let t : Tree = after osts (trimmed osts past) a in
    ap (λ (files : List (Fid × Inode)). record t { files = files }) (living_again t.opens t.files)
trim_again osts (Forgets who ∷ past) =
    let t : Tree = forget (trimmed osts past) who in
    ap (λ (files : List (Fid × Inode)). record t { files = files }) (living_again t.opens t.files)

no_changes : (t : Tree) (xs : List Change) → is_some_change xs ≡ false → changed t xs ≡ t
no_changes t [] none = refl
no_changes t (x ∷ xs) none = absurd (cc)

pub acts_only : (acts : Acts) → acts ≡ names → (osts below : ℕ) (s new : Contents) (read : Read) → ShowsNames osts below s read
    → (a : Operation) → acts.changes s a ≡ false → new ≡ acts.after s a → ShowsNames osts below new read
acts_only acts is osts below s new read shows a unchanged e =
    let own : new ≡ service.after s a = e ∙ ap (λ (x : Acts). x.after s a) is in
    let none : changes s.osts s.tree a ≡ false = sym (ap (λ (x : Acts). x.changes s a) is) ∙ unchanged in
    let same : after s.osts s.tree a ≡ s.tree = no_changes s.tree (outcome_of s.osts s.tree a).changes none in
    record {
      past = shows.past;
      rising = shows.rising;
      above = shows.above;
      last = subst (λ (x : Contents). x.last < below) (sym own)
          (subst (λ b. (if b then a.number.0 else s.last) < below) (sym none) shows.last);
      targets = ap (λ (x : Contents). x.osts) own ∙ shows.targets;
      tree = ap (λ (x : Contents). x.tree) own ∙ ap trim (same ∙ shows.tree) ∙ trim_again osts shows.past;
      rows = shows.rows;
    }

pub forgets : (acts : Acts) → acts ≡ names → (osts below : ℕ) (s new : Contents) (read : Read) → ShowsNames osts below s read
    → (who : Who) → new ≡ acts.forgotten s who → ShowsNames osts below new (record read { tree = forget read.tree who })
forgets acts is osts below s new read shows who e =
    let own : new ≡ service.forgotten s who = e ∙ ap (λ (x : Acts). x.forgotten s who) is in
    record {
      past = Forgets who ∷ shows.past;
      rising = shows.rising;
      above = shows.above;
      last = subst (λ (x : Contents). x.last < below) (sym own) shows.last;
      targets = ap (λ (x : Contents). x.osts) own ∙ shows.targets;
      tree = ap (λ (x : Contents). x.tree) own ∙ ap (λ (u : Tree). trim (forget u who)) shows.tree;
      rows = ap (λ (u : Tree). forget u who) shows.rows;
    }

pub forgets_all : (acts : Acts) → acts ≡ names → (osts below : ℕ) (s : Contents) (read : Read) → ShowsNames osts below s read
    → (gone : List Who) → ShowsNames osts below (all_forgotten acts gone s) (forgotten gone read)
forgets_all acts is osts below s read shows [] = shows
forgets_all acts is osts below s read shows (who ∷ gone) =
    forgets_all acts is osts below (acts.forgotten s who) (record read { tree = forget read.tree who })
    (forgets acts is osts below s (acts.forgotten s who) read shows who refl) gone

-- ---- one after another, as a loop goes

pub all_forgotten_more : (acts : Acts) (gone : List Who) (who : Who) (s : Contents) → all_forgotten acts (gone ++ who ∷ []) s
    ≡ acts.forgotten (all_forgotten acts gone s) who
all_forgotten_more acts [] who s = refl
all_forgotten_more acts (w ∷ gone) who s = all_forgotten_more acts gone who (acts.forgotten s w)

pub forgotten_more : (gone : List Who) (who : Who) (c : Read) → forgotten (gone ++ who ∷ []) c
    ≡ record (forgotten gone c) { tree = forget (forgotten gone c).tree who }
forgotten_more [] who c = refl
forgotten_more (w ∷ gone) who c = forgotten_more gone who (record c { tree = forget c.tree w })

-- ---- a kept replay, done again over what those before it leave

pub deed_again_is : (acts : Acts) → acts ≡ names → (below : ℕ) (s : Contents) (c : Read) (v : Target) → ShowsNames v.setting.osts below s c
    → (at : At) (r : Replayed) (told : Answer) (written : List Part) → IsNamed r.op
    → told ≡ acts.answer s (redone r) → written ≡ acts.writes s (redone r)
    → deed_again v at c r ≡ record (deed_again v at c r) { writes = written; reply = record (deed_again v at c r).reply { answer = told } }
deed_again_is acts is below s c v shows at r told written named t w =
    let osts : ℕ = v.setting.osts in
    let one : answer_of osts c r r.op ≡ told = Plain.told (plain osts (transaction_again r) c r r.op named)
    ∙ sym (t ∙ answer_is acts is osts below s c shows (redone r)) in
    let two : writes_of osts c r r.op ≡ written = Plain.written (plain osts (transaction_again r) c r r.op named)
    ∙ sym (w ∙ writes_are acts is osts below s c shows (redone r)) in
    ap (λ (parts : List Part). record (deed_again v at c r) { writes = parts }) two
    ∙ ap (λ (x : Answer). record (deed_again v at c r) { writes = written; reply = record (deed_again v at c r).reply { answer = x } }) one

pub performs_again : (acts : Acts) → acts ≡ names → (osts below : ℕ) (s new : Contents) (c : Read) → ShowsNames osts below s c
    → (r : Replayed) → below ≤ r.number → IsNamed r.op → new ≡ acts.after s (redone r)
    → ShowsNames osts (r.number + 1) new (done osts c (transaction_again r))
performs_again acts is osts below s new c shows r le named e = performs acts is osts below s new c shows (transaction_again r) le named e
