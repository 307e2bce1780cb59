-- Whether two values are the same, as deciders: of numbers of all kinds, nodes, lives and turns, of locks, layouts,
-- answers and operations, and of options, pairs and lists of what is decided.
use Rattle.std.proofs.Common.{◌≡◌, ℕ, ℤ, Bool, true, false, Option, Some, None, List, [], ◌∷◌, eqb, int_eq, refl, ap}
use Rattle.std.specs.Bool.{Decides}
use Rattle.std.proofs.lemmas.Bool.Decides.{Decides-int_eq, Decides-like, Decides-eqb}
use Rattle.lu_base.specs.declared.ids.At.{At}
use Rattle.lu_base.specs.declared.ids.Node.{Node}
use Rattle.lu_base.specs.declared.ids.Node.TheVariants.{Client, Target}
use Rattle.lu_base.specs.declared.ids.Who.{Who}
use Rattle.lu_base.specs.declared.ids.Txn.{Txn}
use Rattle.lu_base.specs.declared.ids.Xid.{Xid}
use Rattle.lu_base.specs.declared.ids.Fid.{Fid}
use Rattle.lu_base.specs.declared.ids.Cookie.{Cookie}
use Rattle.lu_base.specs.declared.ids.TargetId.{TargetId}
use Rattle.lu_base.specs.declared.locks.Mode.{Mode}
use Rattle.lu_base.specs.declared.locks.Mode.TheVariants as mode
use Rattle.lu_base.specs.declared.locks.Cause.{Cause}
use Rattle.lu_base.specs.declared.locks.Cause.TheVariants as cause
use Rattle.lu_base.specs.declared.locks.Extent.{Extent}
use Rattle.lu_base.specs.declared.locks.Policy.{Policy}
use Rattle.lu_base.specs.declared.locks.Policy.TheVariants.{Bits, Range}
use Rattle.lu_base.specs.declared.locks.Resource.{Resource}
use Rattle.lu_base.specs.declared.locks.Ask.{Ask}
use Rattle.lu_base.specs.declared.locks.Lock.{Lock}
use Rattle.lu_layout.specs.Raid0.{Raid0}
use Rattle.lu_msg.specs.declared.answers.Answer.{Answer}
use Rattle.lu_msg.specs.declared.answers.Answer.TheVariants as told
use Rattle.lu_msg.specs.declared.answers.Errno.{Errno}
use Rattle.lu_msg.specs.declared.answers.Errno.TheVariants as errno
use Rattle.lu_msg.specs.declared.operations.Op.{Op}
use Rattle.lu_msg.specs.declared.operations.Op.TheVariants as op
use Rattle.lu_spec_laws.proofs.Decides.{Decided, Decides-yes, Decides-wrong, Decides-both, and_then, like, both, three, four, five, numbers}

-- ---- one from others

module _ {A B : Type 0} (part : A → B) (back : B → A) (given : (a : A) → back (part a) ≡ a) where
  pub Decides-part : (r : Bool) (a b : A) → Decides r (part a ≡ part b) → Decides r (a ≡ b)
  Decides-part r a b d =
      Decides-like r (λ e. let x = given a in let y = given b in let z = ap back e in cc) (λ e. ap part e) d

  -- values that a part of them gives back are the same where their parts are
  abbrev pub by_part : (a b : A) → Decided (part a ≡ part b) → Decided (a ≡ b)
  by_part a b d = record { answer = d.answer; decides = Decides-part d.answer a b d.decides }

module _ {A B : Type 0} where
  abbrev pub Alike : A × B → A × B → Type 0
  Alike p q = ◌≡◌ {A = A × B} p q

  pub Decides-pair :
      (r s : Bool) (p q : A × B) → Decides r (p.0 ≡ q.0) → Decides s (p.1 ≡ q.1) → Decides (and_then r s) (Alike p q)
  Decides-pair r s p q h k =
      Decides-like (and_then r s) (λ e i. (e.0 i, e.1 i)) (λ e. (λ i. (e i).0, λ i. (e i).1)) (Decides-both r s h k)

  abbrev pub pairs : ((a b : A) → Decided (a ≡ b)) → ((a b : B) → Decided (a ≡ b)) → (p q : A × B) → Decided (Alike p q)
  pairs d e p q =
      record {
        answer = and_then (d p.0 q.0).answer (e p.1 q.1).answer;
        decides = Decides-pair (d p.0 q.0).answer (e p.1 q.1).answer p q (d p.0 q.0).decides (e p.1 q.1).decides;
      }

module _ {A : Type 0} (d : (a b : A) → Decided (a ≡ b)) where
  abbrev pub option_test : (a b : Option A) → Bool
  option_test None None = true
  option_test (Some a) (Some b) = (d a b).answer
  option_test _ _ = false

  pub Decides-option : (a b : Option A) → Decides (option_test a b) (a ≡ b)
  Decides-option None None = Decides-yes refl
  Decides-option (Some a) (Some b) = Decides-like (d a b).answer (λ e. cc) (λ e. cc) (d a b).decides
  Decides-option _ _ = Decides-wrong (λ e. absurd (cc))

  abbrev pub options : (a b : Option A) → Decided (a ≡ b)
  options a b = record { answer = option_test a b; decides = Decides-option a b }

  abbrev pub list_test : (xs ys : List A) → Bool
  list_test [] [] = true
  list_test (x ∷ xs) (y ∷ ys) = and_then (d x y).answer (list_test xs ys)
  list_test _ _ = false

  pub Decides-list : (xs ys : List A) → Decides (list_test xs ys) (xs ≡ ys)
  Decides-list [] [] = Decides-yes refl
  Decides-list (x ∷ xs) (y ∷ ys) =
      Decides-like (and_then (d x y).answer (list_test xs ys)) (λ e i. e.0 i ∷ e.1 i) (λ e. (cc, cc))
      (Decides-both (d x y).answer (list_test xs ys) (d x y).decides (Decides-list xs ys))
  Decides-list _ _ = Decides-wrong (λ e. absurd (cc))

  abbrev pub lists : (xs ys : List A) → Decided (xs ≡ ys)
  lists xs ys = record { answer = list_test xs ys; decides = Decides-list xs ys }

-- ---- numbers

abbrev pub whole_numbers : (a b : ℤ) → Decided (a ≡ b)
whole_numbers a b = record { answer = int_eq a b; decides = Decides-int_eq a b }

abbrev pub number_lists : (a b : List ℕ) → Decided (a ≡ b)
number_lists = lists numbers

abbrev pub paths : (a b : List (List ℕ)) → Decided (a ≡ b)
paths = lists number_lists

abbrev pub txns : (a b : Txn) → Decided (a ≡ b)
txns a b = by_part (λ n. n.0) (λ n. record { 0 = n }) (λ n. refl) a b (numbers a.0 b.0)

abbrev pub xids : (a b : Xid) → Decided (a ≡ b)
xids a b = by_part (λ n. n.0) (λ n. record { 0 = n }) (λ n. refl) a b (numbers a.0 b.0)

abbrev pub fids : (a b : Fid) → Decided (a ≡ b)
fids a b = by_part (λ n. n.0) (λ n. record { 0 = n }) (λ n. refl) a b (numbers a.0 b.0)

abbrev pub cookies : (a b : Cookie) → Decided (a ≡ b)
cookies a b = by_part (λ n. n.0) (λ n. record { 0 = n }) (λ n. refl) a b (numbers a.0 b.0)

abbrev pub targets : (a b : TargetId) → Decided (a ≡ b)
targets a b = by_part (λ n. n.0) (λ n. record { 0 = n }) (λ n. refl) a b (numbers a.0 b.0)

-- ---- nodes, lives and turns

abbrev pub node_test : Node → Node → Bool
node_test (Client c) (Client d) = eqb c d
node_test (Target t) (Target u) = eqb t u
node_test _ _ = false

pub Decides-node : (a b : Node) → Decides (node_test a b) (a ≡ b)
Decides-node (Client c) (Client d) = Decides-like (eqb c d) (λ e. ap Client e) (λ e. cc) (Decides-eqb c d)
Decides-node (Target t) (Target u) = Decides-like (eqb t u) (λ e. ap Target e) (λ e. cc) (Decides-eqb t u)
Decides-node _ _ = Decides-wrong (λ e. absurd (cc))

abbrev pub nodes : (a b : Node) → Decided (a ≡ b)
nodes a b = record { answer = node_test a b; decides = Decides-node a b }

abbrev pub lives : (a b : Who) → Decided (a ≡ b)
lives a b =
    by_part (λ a. (a.client, a.life)) (λ p. record { client = p.0; life = p.1 }) (λ a. refl) a b
    (pairs numbers numbers (a.client, a.life) (b.client, b.life))

abbrev pub turns : (a b : At) → Decided (a ≡ b)
turns a b =
    by_part (λ a. (a.stamp.0, a.node)) (λ p. record { stamp = record { 0 = p.0 }; node = p.1 }) (λ a. refl) a b
    (pairs numbers nodes (a.stamp.0, a.node) (b.stamp.0, b.node))

-- ---- locks and layouts

abbrev pub mode_test : Mode → Mode → Bool
mode_test mode.EX mode.EX = true
mode_test mode.PW mode.PW = true
mode_test mode.PR mode.PR = true
mode_test mode.CW mode.CW = true
mode_test mode.CR mode.CR = true
mode_test mode.NL mode.NL = true
mode_test _ _ = false

pub Decides-mode : (a b : Mode) → Decides (mode_test a b) (a ≡ b)
Decides-mode mode.EX mode.EX = Decides-yes refl
Decides-mode mode.PW mode.PW = Decides-yes refl
Decides-mode mode.PR mode.PR = Decides-yes refl
Decides-mode mode.CW mode.CW = Decides-yes refl
Decides-mode mode.CR mode.CR = Decides-yes refl
Decides-mode mode.NL mode.NL = Decides-yes refl
Decides-mode _ _ = Decides-wrong (λ e. absurd (cc))

abbrev pub modes : (a b : Mode) → Decided (a ≡ b)
modes a b = record { answer = mode_test a b; decides = Decides-mode a b }

abbrev pub extents : (a b : Extent) → Decided (a ≡ b)
extents a b =
    by_part (λ a. (a.first, a.last)) (λ p. record { first = p.0; last = p.1 }) (λ a. refl) a b
    (pairs numbers numbers (a.first, a.last) (b.first, b.last))

abbrev pub resources : (a b : Resource) → Decided (a ≡ b)
resources a b =
    by_part (λ a. (a.fid.0, a.stripe)) (λ p. record { fid = record { 0 = p.0 }; stripe = p.1 }) (λ a. refl) a b
    (pairs numbers numbers (a.fid.0, a.stripe) (b.fid.0, b.stripe))

abbrev pub policy_test : Policy → Policy → Bool
policy_test (Bits a) (Bits b) = eqb a b
policy_test (Range a) (Range b) = (extents a b).answer
policy_test _ _ = false

pub Decides-policy : (a b : Policy) → Decides (policy_test a b) (a ≡ b)
Decides-policy (Bits a) (Bits b) = Decides-like (eqb a b) (λ e. ap Bits e) (λ e. cc) (Decides-eqb a b)
Decides-policy (Range a) (Range b) = Decides-like (extents a b).answer (λ e. ap Range e) (λ e. cc) (extents a b).decides
Decides-policy _ _ = Decides-wrong (λ e. absurd (cc))

abbrev pub policies : (a b : Policy) → Decided (a ≡ b)
policies a b = record { answer = policy_test a b; decides = Decides-policy a b }

abbrev pub locks : (a b : Lock) → Decided (a ≡ b)
locks a b =
    like
    (λ e i. record { cookie = e.0 i; resource = e.1 i; ask = record { who = e.2 i; mode = e.3 i; policy = e.4 i } })
    (λ e. (λ i. (e i).cookie, λ i. (e i).resource, λ i. (e i).ask.who, λ i. (e i).ask.mode, λ i. (e i).ask.policy))
    (five (cookies a.cookie b.cookie) (resources a.resource b.resource)
    (lives a.ask.who b.ask.who) (modes a.ask.mode b.ask.mode) (policies a.ask.policy b.ask.policy))

abbrev pub layouts : (a b : Raid0) → Decided (a ≡ b)
layouts a b =
    like (λ e i. record { size = e.0 i; targets = e.1 i }) (λ e. (λ i. (e i).size, λ i. (e i).targets))
    (both (numbers a.size b.size) (number_lists a.targets b.targets))

-- ---- answers

abbrev pub errno_test : Errno → Errno → Bool
errno_test errno.ENOENT errno.ENOENT = true
errno_test errno.EEXIST errno.EEXIST = true
errno_test errno.ENOTDIR errno.ENOTDIR = true
errno_test errno.EISDIR errno.EISDIR = true
errno_test errno.ENOTEMPTY errno.ENOTEMPTY = true
errno_test errno.EPERM errno.EPERM = true
errno_test errno.EINVAL errno.EINVAL = true
errno_test errno.EBUSY errno.EBUSY = true
errno_test errno.EBADF errno.EBADF = true
errno_test errno.ENAMETOOLONG errno.ENAMETOOLONG = true
errno_test errno.EIO errno.EIO = true
errno_test _ _ = false

pub Decides-errno : (a b : Errno) → Decides (errno_test a b) (a ≡ b)
Decides-errno errno.ENOENT errno.ENOENT = Decides-yes refl
Decides-errno errno.EEXIST errno.EEXIST = Decides-yes refl
Decides-errno errno.ENOTDIR errno.ENOTDIR = Decides-yes refl
Decides-errno errno.EISDIR errno.EISDIR = Decides-yes refl
Decides-errno errno.ENOTEMPTY errno.ENOTEMPTY = Decides-yes refl
Decides-errno errno.EPERM errno.EPERM = Decides-yes refl
Decides-errno errno.EINVAL errno.EINVAL = Decides-yes refl
Decides-errno errno.EBUSY errno.EBUSY = Decides-yes refl
Decides-errno errno.EBADF errno.EBADF = Decides-yes refl
Decides-errno errno.ENAMETOOLONG errno.ENAMETOOLONG = Decides-yes refl
Decides-errno errno.EIO errno.EIO = Decides-yes refl
Decides-errno _ _ = Decides-wrong (λ e. absurd (cc))

abbrev pub errnos : (a b : Errno) → Decided (a ≡ b)
errnos a b = record { answer = errno_test a b; decides = Decides-errno a b }

abbrev pub answer_test : Answer → Answer → Bool
answer_test told.Done told.Done = true
answer_test (told.Made a) (told.Made p) = (fids a p).answer
answer_test (told.Dir a) (told.Dir p) = (fids a p).answer
answer_test (told.File a) (told.File p) = (fids a p).answer
answer_test (told.DirStat a b) (told.DirStat p q) = (both (fids a p) (numbers b q)).answer
answer_test (told.FileStat a b c d) (told.FileStat p q r s) =
    (four (fids a p) (numbers b q) (numbers c r) (layouts d s)).answer
answer_test (told.FileSize a b c d) (told.FileSize p q r s) =
    (four (fids a p) (numbers b q) (numbers c r) (numbers d s)).answer
answer_test (told.Names a) (told.Names p) = (paths a p).answer
answer_test (told.Layout a) (told.Layout p) = (layouts a p).answer
answer_test (told.OpenFile a b c) (told.OpenFile p q r) = (three (fids a p) (txns b q) (layouts c r)).answer
answer_test (told.Granted a b c) (told.Granted p q r) = (three (cookies a p) (extents b q) (numbers c r)).answer
answer_test (told.Waiting a) (told.Waiting p) = (cookies a p).answer
answer_test (told.Content a) (told.Content p) = (number_lists a p).answer
answer_test (told.Size a) (told.Size p) = (numbers a p).answer
answer_test told.Lock told.Lock = true
answer_test (told.Sizes a) (told.Sizes p) = (number_lists a p).answer
answer_test told.Uncovered told.Uncovered = true
answer_test (told.Refused a) (told.Refused p) = (errnos a p).answer
answer_test _ _ = false

pub Decides-answer : (a b : Answer) → Decides (answer_test a b) (a ≡ b)
Decides-answer told.Done told.Done = Decides-yes refl
Decides-answer (told.Made a) (told.Made p) =
    Decides-like (fids a p).answer (λ e. ap told.Made e) (λ e. cc) (fids a p).decides
Decides-answer (told.Dir a) (told.Dir p) =
    Decides-like (fids a p).answer (λ e. ap told.Dir e) (λ e. cc) (fids a p).decides
Decides-answer (told.File a) (told.File p) =
    Decides-like (fids a p).answer (λ e. ap told.File e) (λ e. cc) (fids a p).decides
Decides-answer (told.DirStat a b) (told.DirStat p q) =
    let same = both (fids a p) (numbers b q) in
    Decides-like same.answer (λ e i. told.DirStat (e.0 i) (e.1 i)) (λ e. (cc, cc)) same.decides
Decides-answer (told.FileStat a b c d) (told.FileStat p q r s) =
    let same = four (fids a p) (numbers b q) (numbers c r) (layouts d s) in
    Decides-like same.answer (λ e i. told.FileStat (e.0 i) (e.1 i) (e.2 i) (e.3 i)) (λ e. (cc, cc, cc, cc)) same.decides
Decides-answer (told.FileSize a b c d) (told.FileSize p q r s) =
    let same = four (fids a p) (numbers b q) (numbers c r) (numbers d s) in
    Decides-like same.answer (λ e i. told.FileSize (e.0 i) (e.1 i) (e.2 i) (e.3 i)) (λ e. (cc, cc, cc, cc)) same.decides
Decides-answer (told.Names a) (told.Names p) =
    Decides-like (paths a p).answer (λ e. ap told.Names e) (λ e. cc) (paths a p).decides
Decides-answer (told.Layout a) (told.Layout p) =
    Decides-like (layouts a p).answer (λ e. ap told.Layout e) (λ e. cc) (layouts a p).decides
Decides-answer (told.OpenFile a b c) (told.OpenFile p q r) =
    let same = three (fids a p) (txns b q) (layouts c r) in
    Decides-like same.answer (λ e i. told.OpenFile (e.0 i) (e.1 i) (e.2 i)) (λ e. (cc, cc, cc)) same.decides
Decides-answer (told.Granted a b c) (told.Granted p q r) =
    let same = three (cookies a p) (extents b q) (numbers c r) in
    Decides-like same.answer (λ e i. told.Granted (e.0 i) (e.1 i) (e.2 i)) (λ e. (cc, cc, cc)) same.decides
Decides-answer (told.Waiting a) (told.Waiting p) =
    Decides-like (cookies a p).answer (λ e. ap told.Waiting e) (λ e. cc) (cookies a p).decides
Decides-answer (told.Content a) (told.Content p) =
    Decides-like (number_lists a p).answer (λ e. ap told.Content e) (λ e. cc) (number_lists a p).decides
Decides-answer (told.Size a) (told.Size p) =
    Decides-like (numbers a p).answer (λ e. ap told.Size e) (λ e. cc) (numbers a p).decides
Decides-answer told.Lock told.Lock = Decides-yes refl
Decides-answer (told.Sizes a) (told.Sizes p) =
    Decides-like (number_lists a p).answer (λ e. ap told.Sizes e) (λ e. cc) (number_lists a p).decides
Decides-answer told.Uncovered told.Uncovered = Decides-yes refl
Decides-answer (told.Refused a) (told.Refused p) =
    Decides-like (errnos a p).answer (λ e. ap told.Refused e) (λ e. cc) (errnos a p).decides
Decides-answer _ _ = Decides-wrong (λ e. absurd (cc))

abbrev pub answers : (a b : Answer) → Decided (a ≡ b)
answers a b = record { answer = answer_test a b; decides = Decides-answer a b }

-- ---- operations

abbrev pub op_test : Op → Op → Bool
op_test (op.Lookup a) (op.Lookup p) = (paths a p).answer
op_test (op.Stat a) (op.Stat p) = (paths a p).answer
op_test (op.List a) (op.List p) = (paths a p).answer
op_test (op.Layout a) (op.Layout p) = (paths a p).answer
op_test (op.Mkdir a) (op.Mkdir p) = (paths a p).answer
op_test (op.Create a b c) (op.Create p q r) = (three (paths a p) (numbers b q) (whole_numbers c r)).answer
op_test (op.Link a b) (op.Link p q) = (both (paths a p) (paths b q)).answer
op_test (op.Unlink a) (op.Unlink p) = (paths a p).answer
op_test (op.Rmdir a) (op.Rmdir p) = (paths a p).answer
op_test (op.Rename a b) (op.Rename p q) = (both (paths a p) (paths b q)).answer
op_test (op.Chmod a b) (op.Chmod p q) = (both (paths a p) (numbers b q)).answer
op_test (op.Open a) (op.Open p) = (paths a p).answer
op_test (op.Close a b) (op.Close p q) = (both (txns a p) (fids b q)).answer
op_test (op.Enqueue a b c) (op.Enqueue p q r) = (three (resources a p) (modes b q) (extents c r)).answer
op_test (op.Get a b c) (op.Get p q r) = (three (resources a p) (cookies b q) (numbers c r)).answer
op_test (op.Put a b c d) (op.Put p q r s) = (four (resources a p) (cookies b q) (numbers c r) (number_lists d s)).answer
op_test (op.Cut a b c) (op.Cut p q r) = (three (resources a p) (cookies b q) (numbers c r)).answer
op_test (op.Size a) (op.Size p) = (resources a p).answer
op_test _ _ = false

pub Decides-op : (a b : Op) → Decides (op_test a b) (a ≡ b)
Decides-op (op.Lookup a) (op.Lookup p) =
    Decides-like (paths a p).answer (λ e. ap op.Lookup e) (λ e. cc) (paths a p).decides
Decides-op (op.Stat a) (op.Stat p) = Decides-like (paths a p).answer (λ e. ap op.Stat e) (λ e. cc) (paths a p).decides
Decides-op (op.List a) (op.List p) = Decides-like (paths a p).answer (λ e. ap op.List e) (λ e. cc) (paths a p).decides
Decides-op (op.Layout a) (op.Layout p) =
    Decides-like (paths a p).answer (λ e. ap op.Layout e) (λ e. cc) (paths a p).decides
Decides-op (op.Mkdir a) (op.Mkdir p) =
    Decides-like (paths a p).answer (λ e. ap op.Mkdir e) (λ e. cc) (paths a p).decides
Decides-op (op.Create a b c) (op.Create p q r) =
    let same = three (paths a p) (numbers b q) (whole_numbers c r) in
    Decides-like same.answer (λ e i. op.Create (e.0 i) (e.1 i) (e.2 i)) (λ e. (cc, cc, cc)) same.decides
Decides-op (op.Link a b) (op.Link p q) =
    let same = both (paths a p) (paths b q) in
    Decides-like same.answer (λ e i. op.Link (e.0 i) (e.1 i)) (λ e. (cc, cc)) same.decides
Decides-op (op.Unlink a) (op.Unlink p) =
    Decides-like (paths a p).answer (λ e. ap op.Unlink e) (λ e. cc) (paths a p).decides
Decides-op (op.Rmdir a) (op.Rmdir p) =
    Decides-like (paths a p).answer (λ e. ap op.Rmdir e) (λ e. cc) (paths a p).decides
Decides-op (op.Rename a b) (op.Rename p q) =
    let same = both (paths a p) (paths b q) in
    Decides-like same.answer (λ e i. op.Rename (e.0 i) (e.1 i)) (λ e. (cc, cc)) same.decides
Decides-op (op.Chmod a b) (op.Chmod p q) =
    let same = both (paths a p) (numbers b q) in
    Decides-like same.answer (λ e i. op.Chmod (e.0 i) (e.1 i)) (λ e. (cc, cc)) same.decides
Decides-op (op.Open a) (op.Open p) = Decides-like (paths a p).answer (λ e. ap op.Open e) (λ e. cc) (paths a p).decides
Decides-op (op.Close a b) (op.Close p q) =
    let same = both (txns a p) (fids b q) in
    Decides-like same.answer (λ e i. op.Close (e.0 i) (e.1 i)) (λ e. (cc, cc)) same.decides
Decides-op (op.Enqueue a b c) (op.Enqueue p q r) =
    let same = three (resources a p) (modes b q) (extents c r) in
    Decides-like same.answer (λ e i. op.Enqueue (e.0 i) (e.1 i) (e.2 i)) (λ e. (cc, cc, cc)) same.decides
Decides-op (op.Get a b c) (op.Get p q r) =
    let same = three (resources a p) (cookies b q) (numbers c r) in
    Decides-like same.answer (λ e i. op.Get (e.0 i) (e.1 i) (e.2 i)) (λ e. (cc, cc, cc)) same.decides
Decides-op (op.Put a b c d) (op.Put p q r s) =
    let same = four (resources a p) (cookies b q) (numbers c r) (number_lists d s) in
    Decides-like same.answer (λ e i. op.Put (e.0 i) (e.1 i) (e.2 i) (e.3 i)) (λ e. (cc, cc, cc, cc)) same.decides
Decides-op (op.Cut a b c) (op.Cut p q r) =
    let same = three (resources a p) (cookies b q) (numbers c r) in
    Decides-like same.answer (λ e i. op.Cut (e.0 i) (e.1 i) (e.2 i)) (λ e. (cc, cc, cc)) same.decides
Decides-op (op.Size a) (op.Size p) =
    Decides-like (resources a p).answer (λ e. ap op.Size e) (λ e. cc) (resources a p).decides
Decides-op _ _ = Decides-wrong (λ e. absurd (cc))

abbrev pub operations : (a b : Op) → Decided (a ≡ b)
operations a b = record { answer = op_test a b; decides = Decides-op a b }
