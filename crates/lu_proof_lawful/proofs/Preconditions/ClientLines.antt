-- What holds of a client after every line: what it asks of the metadata target is on names, and of another target on an object; targets
-- alone
-- send it messages; what it holds is of a target that there is, and no two held locks have one name.
use Rattle.std.proofs.Common.{◌≡◌, ℕ, ◌+◌, ◌<◌, ◌≤◌, Bool, true, false, List, [], ◌∷◌, ◌++◌, ◌⊎◌, inl, inr, ⊎_elim, Option, Some, None}
use Rattle.std.proofs.Common.{refl, sym, subst, ap, ◌∙◌, arith, pos}
use Rattle.std.specs.Prelude.{nat_eq, ◌&&◌, if◌then◌else◌}
use Rattle.std.proofs.lemmas.Bool.{eqb-true, and_parts}
use Rattle.std.proofs.lemmas.Bool.Decides.{nat_tests}
use Rattle.lu_base.specs.declared.ids.At.{At}
use Rattle.lu_base.specs.declared.ids.Node.{Node}
use Rattle.lu_base.specs.declared.ids.Node.TheVariants.{Client, Target}
use Rattle.lu_base.specs.declared.ids.Who.{Who}
use Rattle.lu_base.specs.declared.locks.Lock.{Lock}
use Rattle.lu_part.specs.declared.parts.Want.{Want}
use Rattle.lu_msg.specs.declared.answers.Answer.{Answer}
use Rattle.lu_msg.specs.declared.answers.Answer.TheVariants as answer
use Rattle.lu_msg.specs.declared.calls.Call.{Call}
use Rattle.lu_msg.specs.declared.calls.Call.TheVariants as call
use Rattle.lu_msg.specs.declared.messages.Message.{Message}
use Rattle.lu_msg.specs.declared.messages.Message.TheVariants as message
use Rattle.lu_msg.specs.declared.messages.Reply.{Reply as ReplyTo}
use Rattle.lu_msg.specs.declared.operations.Op.{Op}
use Rattle.lu_msg.specs.declared.operations.Op.TheVariants as op
use Rattle.lu_held.specs.declared.locks.Change.{Change}
use Rattle.lu_held.specs.declared.locks.Change.TheVariants as change
use Rattle.lu_held.specs.declared.locks.HeldLock.{HeldLock}
use Rattle.lu_held.specs.declared.names.LockName.{LockName}
use Rattle.lu_held.specs.Names.{same_name}
use Rattle.lu_held.specs.Locks.{name_of, is_named, after}
use Rattle.lu_held.specs.Held.{changed}
use Rattle.lu_spec_machine.specs.Fits.{answer_fits}
use Rattle.lu_spec_entries.specs.declared.changes.Flush.{Flush}
use Rattle.lu_spec_entries.specs.declared.changes.Flush.TheVariants.{Cut, Put}
use Rattle.lu_spec_entries.specs.Carried.{Deed, HandleFile, Outcome, Slot, Queued, Flight, Asking, Asked, Answered, Running}
use Rattle.lu_spec_entries.specs.Words.{Entry, Send, Begin, Heard, Hold, Drop, Told, Life, Queues, Flies, Stands, Pins, Unpins, Marks}
use Rattle.lu_spec_entries.specs.Words.{Unmarks, Act, Txn, Grant, Wait, Answers, Close, Enters, Take, Line, line, with_turn, is_client}
use Rattle.lu_spec_entries.specs.Concerns.{is_about, concerns, only}
use Rattle.lu_spec_entries.specs.Fields.{on, at_import}
use Rattle.lu_spec_entries.specs.Sent.{Sent}
use Rattle.lu_spec_target.specs.Lives.{slot_in}
use Rattle.lu_spec_target.specs.Names.{locks_from}
use Rattle.lu_spec_client.specs.Caches.{held_as, brought, granted_lock, reads_held, held_after, held_at}
use Rattle.lu_spec_client.specs.Messages.{size_with, heeds}
use Rattle.lu_spec_client.specs.States.{Client as ClientState}
use Rattle.lu_spec_client.specs.WriteBack.{operation}
use Rattle.lu_proof_lawful.specs.Covered.Calls.{asks, asks_for, reads_call, call_after, call_at, operation_of}
use Rattle.lu_proof_lawful.specs.Covered.Heads.{Head}
use Rattle.lu_proof_lawful.specs.Covered.Imports.{rest, without_flight, reads_queue, queue_after, queue_at, reads_flights, flights_after}
use Rattle.lu_proof_lawful.specs.Covered.Imports.{flights_at}
use Rattle.lu_proof_lawful.specs.Covered.TargetCloses.{outcome_of}
use Rattle.lu_proof_lawful.specs.Covered.TargetParts.{is_slot_of, entered, answered}
use Rattle.lu_proof_lawful.specs.Covered.TargetStates.{slot_of}
use Rattle.lu_proof_lawful.proofs.Preconditions.Guards.{In, Was, TookNow, NamesAskOk, SizeAskOk, LockAskOk, GetAskOk, QueuesOk, EntryOk}
use Rattle.lu_proof_lawful.proofs.Preconditions.StoryGuards.{HeldOk, GivenOf, ActsOk, TxnsOk, GrantsOk, AnswersOk, EntryOf, SendOf}
use Rattle.lu_proof_lawful.proofs.Preconditions.Grown.{Grown, GrownOf}
use Rattle.lu_proof_lawful.proofs.Preconditions.Lists.{self, in_append, in_filter}
use Rattle.lu_proof_lawful.proofs.Preconditions.Parts.{queue_now}
use Rattle.lu_proof_lawful.proofs.Preconditions.Held.{is_own, client_keeps, held_back}
use Rattle.lu_proof_lawful.proofs.Preconditions.ClientDisks.{bare_in, bare_outcome}
use Rattle.lu_proof_lawful.proofs.Preconditions.Only.{sent_was, was_back}
use Rattle.lu_proof_lawful.proofs.Preconditions.ClientLocks.{names_same, own_name, with_only, brought_only, changed_only, used_only}
use Rattle.lu_proof_lawful.proofs.Preconditions.ClientLocks.{without_only, unmarked_only, Once, Differ, once_filter, once_changed}
use Rattle.lu_proof_lawful.proofs.Preconditions.ClientLocks.{once_used, once_unmarked, once_with, once_brought}

-- ---- operations on names

abbrev pub IsNames : Op → Type 0
IsNames (op.Enqueue resource mode extent) = ⊥
IsNames (op.Get resource cookie page) = ⊥
IsNames (op.Put resource cookie offset bytes) = ⊥
IsNames (op.Cut resource cookie size) = ⊥
IsNames (op.Size resource) = ⊥
IsNames _ = Unit {0}

-- or on an object
abbrev pub IsOnObject : Op → Type 0
IsOnObject (op.Enqueue resource mode extent) = Unit {0}
IsOnObject (op.Get resource cookie page) = Unit {0}
IsOnObject (op.Put resource cookie offset bytes) = Unit {0}
IsOnObject (op.Cut resource cookie size) = Unit {0}
IsOnObject (op.Size resource) = Unit {0}
IsOnObject _ = ⊥

-- how long an object is
abbrev pub IsSize : Op → Type 0
IsSize (op.Size resource) = Unit {0}
IsSize _ = ⊥

-- a lock on it
abbrev pub IsLock : Op → Type 0
IsLock (op.Enqueue resource mode extent) = Unit {0}
IsLock _ = ⊥

-- its bytes, or a change of them
abbrev pub IsBytes : Op → Type 0
IsBytes (op.Get resource cookie page) = Unit {0}
IsBytes (op.Put resource cookie offset bytes) = Unit {0}
IsBytes (op.Cut resource cookie size) = Unit {0}
IsBytes _ = ⊥

-- an operation of which nothing comes but its answer, and the locks of that
abbrev pub IsSimple : Op → Type 0
IsSimple (op.Enqueue resource mode extent) = ⊥
IsSimple (op.Get resource cookie page) = ⊥
IsSimple (op.Put resource cookie offset bytes) = ⊥
IsSimple (op.Cut resource cookie size) = ⊥
IsSimple _ = Unit {0}

-- what may be asked of a target
abbrev pub IsAskedOf : ℕ → Op → Type 0
IsAskedOf t o = ((t ≡ 0) × IsNames o) ⊎ ((0 < t) × IsOnObject o)

names_simple : (o : Op) → IsNames o → IsSimple o
names_simple (op.Enqueue resource mode extent) n = n
names_simple (op.Get resource cookie page) n = n
names_simple (op.Put resource cookie offset bytes) n = n
names_simple (op.Cut resource cookie size) n = n
names_simple (op.Size resource) n = tt
names_simple o n = tt

-- which of them
pub object_parts : (o : Op) → IsOnObject o → IsSimple o ⊎ IsLock o ⊎ IsBytes o
object_parts (op.Enqueue resource mode extent) n = inr (inl tt)
object_parts (op.Get resource cookie page) n = inr (inr tt)
object_parts (op.Put resource cookie offset bytes) n = inr (inr tt)
object_parts (op.Cut resource cookie size) n = inr (inr tt)
object_parts (op.Size resource) n = inl tt
object_parts o n = absurd n

pub asked_parts : (t : ℕ) (o : Op) → IsAskedOf t o → IsSimple o ⊎ ((0 < t) × (IsLock o ⊎ IsBytes o))
asked_parts t o (inl a) = inl (names_simple o a.1)
asked_parts t o (inr a) = ⊎_elim (λ (s : IsSimple o). inl s) (λ (l : IsLock o ⊎ IsBytes o). inr (a.0, l)) (object_parts o a.1)

pub asked_names : (o : Op) → IsAskedOf 0 o → IsNames o
asked_names o (inl a) = a.1
asked_names o (inr a) = absurd (omega (arith, a.0))

pub some_is : {A : Type 0} (a b : A) → Some a ≡ Some b → a ≡ b
some_is a b e = cc

pub becomes_names : (file : Option HandleFile) (c : Call) (o : Op) → operation_of file c ≡ Some o → IsNames o
becomes_names file (call.Lookup path) o e = subst IsNames (some_is (op.Lookup path) o e) tt
becomes_names file (call.Stat path) o e = subst IsNames (some_is (op.Stat path) o e) tt
becomes_names file (call.List path) o e = subst IsNames (some_is (op.List path) o e) tt
becomes_names file (call.Layout path) o e = subst IsNames (some_is (op.Layout path) o e) tt
becomes_names file (call.Mkdir path) o e = subst IsNames (some_is (op.Mkdir path) o e) tt
becomes_names file (call.Create path None) o e = subst IsNames (some_is (op.Create path 1048576 (pos 1)) o e) tt
becomes_names file (call.Create path (Some stripes)) o e = subst IsNames (some_is (op.Create path stripes.0 stripes.1) o e) tt
becomes_names file (call.Link old new) o e = subst IsNames (some_is (op.Link old new) o e) tt
becomes_names file (call.Unlink path) o e = subst IsNames (some_is (op.Unlink path) o e) tt
becomes_names file (call.Rmdir path) o e = subst IsNames (some_is (op.Rmdir path) o e) tt
becomes_names file (call.Rename old new) o e = subst IsNames (some_is (op.Rename old new) o e) tt
becomes_names file (call.Chmod path mode) o e = subst IsNames (some_is (op.Chmod path mode) o e) tt
becomes_names file (call.Open h path) o e = subst IsNames (some_is (op.Open path) o e) tt
becomes_names (Some f) (call.Close h) o e = subst IsNames (some_is (op.Close f.number f.fid) o e) tt
becomes_names file c o e = absurd (cc)

pub ends : {A : Type 0} (xs : List A) → xs ++ [] ≡ xs
ends [] = refl
ends (x ∷ xs) = ap (λ ys. x ∷ ys) (ends xs)

-- a reply to one brings its own locks alone, without a size, and nothing else comes of it
pub brings_its : (o : Op) (r : ReplyTo) → IsSimple o → brought o r ≡ r.locks
brings_its o r n = ap (λ (ls : List Lock). r.locks ++ ls) (none o n) ∙ ends r.locks
  where
    none : (o : Op) → IsSimple o → granted_lock o r r.answer ≡ []
    none (op.Enqueue resource mode extent) n = absurd n
    none o n = refl

pub no_size : (o : Op) (a : Answer) → IsSimple o → answer_fits o a ≡ true → size_with a ≡ None
no_size o (answer.Granted cookie extent size) n fits = absurd (by o n fits)
  where
    by : (o : Op) → IsSimple o → answer_fits o (answer.Granted cookie extent size) ≡ true → ⊥
    by (op.Enqueue resource mode asked) n fits = absurd n
    by o n fits = cc
no_size o a n fits = refl

pub heeds_nothing : (t : ℕ) (f : Flight) (o : Op) (r : ReplyTo) (a : Answer) (k : ClientState) → IsSimple o → heeds t f o r a k ≡ []
heeds_nothing t f (op.Enqueue resource mode extent) r a k n = absurd n
heeds_nothing t f (op.Get resource cookie page) r a k n = absurd n
heeds_nothing t f (op.Put resource cookie offset bytes) r a k n = absurd n
heeds_nothing t f (op.Cut resource cookie size) r a k n = absurd n
heeds_nothing t f o r a k n = refl

pub on_other : {A : Type 0} (r : Bool) (new old : A) → on r false new old ≡ old
on_other true new old = refl
on_other false new old = refl

-- ---- what each line of the client keeps

import_keeps : {A : Type 0} (P : A → Type 0) (reads : Entry → Bool) (after : A → Entry → A) (start : A) (head : Head) (c t : ℕ) → P start
    → ((past : List Line) (at : At) (e : Entry) (x : A) → Grown head past → EntryOk past at (Client c) e
    → EntryOf head (only t past) at (Client c) e → is_about t e ≡ true → P x → P (after x e))
    → (past : List Line) → Grown head past → P (at_import reads after start c t past)
import_keeps P reads after start head c t p f [] g = p
import_keeps {A} P reads after start head c t p f (l ∷ past) g =
    by (reads l.entry) (is_client c l.at.node && is_about t l.entry) refl (import_keeps P reads after start head c t p f past g.1)
  where
    X : A
    X = at_import reads after start c t past

    by : (r b : Bool) → (is_client c l.at.node && is_about t l.entry) ≡ b → P X → P (on r b (after X l.entry) X)
    by false b e q = q
    by true false e q = q
    by true true e q =
        let own = and_parts (is_client c l.at.node) (is_about t l.entry) e in
        let node = is_own c l.at.node own.0 in
        f past l.at l.entry X g.1
        (subst (λ (n : Node). EntryOk past l.at n l.entry) node g.0.ok)
        (subst (λ (n : Node). EntryOf head (only t past) l.at n l.entry) node (g.0.of t (rw node own.1)))
        own.1 q

-- what is asked of a target
pub in_rest : (q : Queued) (qs : List Queued) → In q (rest qs) → In q qs
in_rest q [] i = i
in_rest q (x ∷ qs) i = inr i

-- the entry says of which target it is
pub of_target : (P : ℕ → Type 0) (t u : ℕ) → nat_eq t u ≡ true → P u → P t
of_target P t u e p = subst P (sym (eqb-true t u e)) p

queues_asked : (past : List Line) (c u : ℕ) (q : Queued) → QueuesOk past c u q → IsAskedOf u q.op
queues_asked past c u q ok = by ok
  where
    call : (r : Running) → NamesAskOk past c u r q.op ⊎ SizeAskOk u r q.op ⊎ LockAskOk u r q.op ⊎ GetAskOk past c u r q.op
        → IsAskedOf u q.op
    call r (inl a) = inl (a.names, becomes_names r.file r.call q.op a.becomes)
    call r (inr (inl a)) = inr (a.object, subst IsOnObject (sym a.of_op) tt)
    call r (inr (inr (inl a))) = inr (a.object, subst IsOnObject (sym a.of_op) tt)
    call r (inr (inr (inr a))) = inr (a.object, subst IsOnObject (sym a.of_op) tt)

    back : (h : HeldLock) (change : Flush) → IsOnObject (operation h.lock.resource h.lock.cookie change)
    back h (Put offset bytes) = tt
    back h (Cut size) = tt

    by : QueuesOk past c u q → IsAskedOf u q.op
    by (inl a) = call a.running a.asks
    by (inr a) = inr (a.object, subst IsOnObject (sym a.of_op) (back a.holding a.change))

pub queue_asked : (head : Head) (c t : ℕ) (past : List Line) → Grown head past → (q : Queued) → In q (queue_at c t past) → IsAskedOf t q.op
queue_asked head c t past g =
    import_keeps (λ (qs : List Queued). (q : Queued) → In q qs → IsAskedOf t q.op) reads_queue queue_after [] head c t (λ q i. absurd i)
    (λ p at e x h ok of about k. by p at e x ok about k) past g
  where
    by : (p : List Line) (at : At) (e : Entry) (x : List Queued) → EntryOk p at (Client c) e → is_about t e ≡ true
        → ((q : Queued) → In q x → IsAskedOf t q.op) → (q : Queued) → In q (queue_after x e) → IsAskedOf t q.op
    by p at (Queues u o) x ok about k q i =
        ⊎_elim (λ (j : In q x). k q j)
        (λ (j : In q (o ∷ [])). ⊎_elim (λ (e : o ≡ q). subst (λ (y : Queued). IsAskedOf t y.op) e
        (of_target (λ (v : ℕ). IsAskedOf v o.op) t u about (queues_asked p c u o ok))) (λ (n : ⊥). absurd n) j)
        (in_append q x (o ∷ []) i)
    by p at (Flies u f) x ok about k q i = k q (in_rest q x i)
    by p at (Life who) x ok about k q i = absurd i
    by p at e x ok about k q i = k q i

pub flights_asked : (head : Head) (c t : ℕ) (past : List Line) → Grown head past → (f : Flight) → In f (flights_at c t past)
    → IsAskedOf t f.op
flights_asked head c t past g =
    import_keeps (λ (fs : List Flight). (f : Flight) → In f fs → IsAskedOf t f.op) reads_flights flights_after [] head c t (λ f i. absurd i)
    (λ p at e x h ok of about k. by p at e x h of k) past g
  where
    by : (p : List Line) (at : At) (e : Entry) (x : List Flight) → Grown head p → EntryOf head (only t p) at (Client c) e
        → ((f : Flight) → In f x → IsAskedOf t f.op) → (f : Flight) → In f (flights_after x e) → IsAskedOf t f.op
    by p at (Flies u o) x h of k f i =
        let front : IsAskedOf t of.front.op = queue_asked head c t p h of.front
        (subst (λ (qs : List Queued). In of.front qs) (sym (queue_now head c t p h ∙ of.queue)) (inl refl)) in
        let flies : IsAskedOf t o.op = subst (λ (y : Flight). IsAskedOf t y.op) (sym of.is) front in
        ⊎_elim (λ (j : In f x). k f j) (λ (j : In f (o ∷ [])). ⊎_elim (λ (e : o ≡ f). subst (λ (y : Flight). IsAskedOf t y.op) e flies)
        (λ (n : ⊥). absurd n) j) (in_append f x (o ∷ []) i)
    by p at (Heard u o r) x h of k f i = k f (without o.xid x i)
      where
        without : (xid : ℕ) (fs : List Flight) → In f (without_flight xid fs) → In f fs
        without xid fs j = (in_filter _ f fs j).0
    by p at (Life who) x h of k f i = absurd i
    by p at e x h of k f i = k f i

-- calls stand on four slots
abbrev pub SmallOn : ℕ → Option Running → Type 0
SmallOn slot None = Unit {0}
SmallOn slot (Some r) = slot < 4

pub small_on : (head : Head) (c slot : ℕ) (past : List Line) → Grown head past → SmallOn slot (call_at c slot past)
small_on head c slot past g = client_keeps (SmallOn slot) reads_call (call_after slot) None head c tt step past g
  where
    chosen : (b : Bool) (x y : Option Running) → (b ≡ true → SmallOn slot x) → SmallOn slot y → SmallOn slot (if b then x else y)
    chosen true x y p q = p refl
    chosen false x y p q = q

    asked : (a : Asking) (x : Option Running) → SmallOn slot x → SmallOn slot (asks a x)
    asked a None p = tt
    asked a (Some r) p = p

    for : (s : Option ℕ) (a : Asking) (x : Option Running) → SmallOn slot x → SmallOn slot (asks_for s slot a x)
    for None a x p = p
    for (Some s) a x p = chosen (nat_eq s slot) (asks a x) x (λ e. asked a x p) p

    step : (p : List Line) (at : At) (e : Entry) (x : Option Running) → EntryOk p at (Client c) e → SmallOn slot x
        → SmallOn slot (call_after slot x e)
    step p at (Begin s r) x k q = chosen (nat_eq s slot) (Some r) x (λ e. subst (λ (u : ℕ). u < 4) (eqb-true s slot e) k.small) q
    step p at (Queues t o) x k q = for o.slot Asked x q
    step p at (Heard t f r) x k q = for f.slot (Answered t r) x q
    step p at (Told s turn a w) x k q = chosen (nat_eq s slot) None x (λ e. tt) q
    step p at (Stands s r) x k q = chosen (nat_eq s slot) (Some r) x (λ e. subst (λ (u : ℕ). u < 4) (eqb-true s slot e) k.small) q
    step p at e x k q = q

-- ---- held locks

pub held_once : (head : Head) (c : ℕ) (past : List Line) → Grown head past → Once (held_at c past)
held_once head c past g = client_keeps Once reads_held held_after [] head c tt step past g
  where
    step : (p : List Line) (at : At) (e : Entry) (x : List HeldLock) → EntryOk p at (Client c) e → Once x → Once (held_after x e)
    step p at (Heard t f r) x ok k = once_brought t (brought f.op r) x k
    step p at (Hold t l marked size seen) x ok k = once_with (held_as t l marked) x k
    step p at (Drop t l) x ok k = once_filter _ x k
    step p at (Pins n) x ok k = once_changed n change.Pin x k
    step p at (Unpins n) x ok k = once_used n (changed n change.Unpin x) (once_changed n change.Unpin x k)
    step p at (Marks n) x ok k = once_changed n change.Mark x k
    step p at (Unmarks t) x ok k = once_unmarked t x k
    step p at e x ok k = k

-- one that has the name of another one is that one
pub once_same : (hs : List HeldLock) (h x : HeldLock) → Once hs → In h hs → In x hs → is_named (name_of h) x ≡ true → h ≡ x
once_same [] h x o i j n = absurd i
once_same (y ∷ hs) h x o (inl e) (inl q) n = sym e ∙ q
once_same (y ∷ hs) h x o (inl e) (inr j) n = let t : true ≡ false = sym n ∙ ap (λ (g : HeldLock). is_named (name_of g) x) (sym e) ∙ o.0 x j
    in absurd (cc)
once_same (y ∷ hs) h x o (inr i) (inl q) n =
    let same : name_of h ≡ name_of y = names_same (name_of h) (name_of y) (ap (is_named (name_of h)) q ∙ n) in
    let own : is_named (name_of y) h ≡ true = ap (λ (m : LockName). same_name m (name_of h)) (sym same) ∙ own_name (name_of h) in
    let t : true ≡ false = sym own ∙ o.0 h i in
    absurd (cc)
once_same (y ∷ hs) h x o (inr i) (inr j) n = once_same hs h x o.1 i j n

-- ---- targets that there are

abbrev pub IsThere : ℕ → Node → Type 0
IsThere osts (Client c) = Unit {0}
IsThere osts (Target t) = t ≤ osts

-- no line is of a target that isn't there
abbrev pub AllThere : ℕ → List Line → Type 0
AllThere osts [] = Unit {0}
AllThere osts (l ∷ past) = IsThere osts l.at.node × AllThere osts past

pub there_turn : (osts : ℕ) (at : At) (es : List Entry) (past : List Line) → IsThere osts at.node → AllThere osts past
    → AllThere osts (with_turn at es past)
there_turn osts at [] past h a = a
there_turn osts at (e ∷ es) past h a = there_turn osts at es (line at e ∷ past) h (h, a)

pub was_there : (osts t : ℕ) (to : Node) (m : Message) (past : List Line) → AllThere osts past → Was past (Target t) to m → t ≤ osts
was_there osts t to m [] a w = absurd w
was_there osts t to m (l ∷ past) a w = by l.entry w (λ v. was_there osts t to m past a.1 v)
  where
    by : (e : Entry) → Was (line l.at e ∷ past) (Target t) to m → (Was past (Target t) to m → t ≤ osts) → t ≤ osts
    by (Send node x) (inl r) more = subst (IsThere osts) r.0 a.0
    by (Send node x) (inr r) more = more r
    by e w more = more w

-- so what is taken comes from one that is there
took_there : (osts : ℕ) (head : Head) (past : List Line) (at : At) (t : ℕ) (m : Message) → Grown head past → AllThere osts past
    → TookNow past at (Target t) m → t ≤ osts
took_there osts head [] at t m g a k = absurd k
took_there osts head (l ∷ past) at t m g a k = by l.entry g.0.ok k
  where
    by : (e : Entry) → EntryOk past l.at l.at.node e → TookNow (line l.at e ∷ past) at (Target t) m → t ≤ osts
    by (Take n from x) ok k = was_there osts t l.at.node x past a.1
        (sent_was past n (Target t) l.at.node x (subst (λ (f : Node). Sent past n f l.at.node x) k.1 ok.sent))
    by e ok k = absurd k

-- and what is held
pub held_limited : (osts : ℕ) (head : Head) (c : ℕ) (past : List Line) → Grown head past → AllThere osts past → (h : HeldLock)
    → In h (held_at c past) → h.target.0 ≤ osts
held_limited osts head c [] g a h i = absurd i
held_limited osts head c (l ∷ past) g a h i = by (reads_held l.entry) (is_client c l.at.node) refl (held_limited osts head c past g.1 a.1) i
  where
    X : List HeldLock
    X = held_at c past

    Low : List HeldLock → Type 0
    Low hs = (x : HeldLock) → In x hs → x.target.0 ≤ osts

    changes : (n : LockName) (ch : Change) → Low X → Low (changed n ch X)
    changes n ch k x i = let r = changed_only n ch x X i in subst (λ (y : HeldLock). y.target.0 ≤ osts) r.2
        (same ch r.0 (is_named n r.0) (k r.0 r.1))
      where
        same : (ch : Change) (y : HeldLock) (b : Bool) → y.target.0 ≤ osts → (if b then after ch y else y).target.0 ≤ osts
        same change.Mark y true low = low
        same change.Unmark y true low = low
        same change.Pin y true low = low
        same change.Unpin y true low = low
        same ch y false low = low

    step : (e : Entry) → EntryOk past l.at (Client c) e → ((t : ℕ) → is_about t e ≡ true → EntryOf head (only t past) l.at (Client c) e)
        → Low X → Low (held_after X e)
    step (Heard t f r) ok of k x i =
        ⊎_elim (λ (s : (m : Lock) × (held_as t m false ≡ x)). subst (λ (y : HeldLock). y.target.0 ≤ osts) s.1
        (took_there osts head past l.at t (message.Reply r) g.1 a.1 ok.1)) (λ (j : In x X). k x j)
        (brought_only t x (brought f.op r) X i)
    step (Hold t m marked size seen) ok of k x i =
        ⊎_elim (λ (s : held_as t m marked ≡ x). subst (λ (y : HeldLock). y.target.0 ≤ osts) s (low (of t (self t)))) (λ (j : In x X). k x j)
        (with_only (held_as t m marked) x X i)
      where
        low : ((marked ≡ false) × HeldOk (only t past) c t m seen) ⊎ GivenOf (only t past) c t m seen → t ≤ osts
        low (inl h) = k (held_as t m false) (held_back c t past (held_as t m false) h.1.held).0
        low (inr h) = was_there osts t (Client c) (message.Grant h.notice) past a.1
            (was_back t past (Target t) (Client c) (message.Grant h.notice) h.was)
    step (Drop t m) ok of k x i = k x (without_only _ x X i).0
    step (Pins n) ok of k x i = changes n change.Pin k x i
    step (Unpins n) ok of k x i = changes n change.Unpin k x (used_only n x (changed n change.Unpin X) i)
    step (Marks n) ok of k x i = changes n change.Mark k x i
    step (Unmarks t) ok of k x i = let r = unmarked_only t x X i
        in subst (λ (y : HeldLock). y.target.0 ≤ osts) r.2 (same r.0 (nat_eq r.0.target.0 t) (k r.0 r.1))
      where
        same : (y : HeldLock) (b : Bool) → y.target.0 ≤ osts → (if b then after change.Unmark y else y).target.0 ≤ osts
        same y true low = low
        same y false low = low
    step e ok of k x i = k x i

    by : (r b : Bool) → is_client c l.at.node ≡ b → Low X → In h (on r b (held_after X l.entry) X) → h.target.0 ≤ osts
    by false b e k i = k h i
    by true false e k i = k h i
    by true true e k i =
        let node = is_own c l.at.node e in
        step l.entry (subst (λ (n : Node). EntryOk past l.at n l.entry) node g.0.ok)
        (λ t q. subst (λ (n : Node). EntryOf head (only t past) l.at n l.entry) node
        (g.0.of t (subst (λ (n : Node). concerns t n l.entry ≡ true) (sym node) q))) k h i

-- ---- what comes to it

-- messages for clients come from targets
abbrev pub ComesTo : Node → Message → Type 0
ComesTo (Target t) (message.Reply r) = Unit {0}
ComesTo (Target t) (message.Grant g) = Unit {0}
ComesTo (Target t) (message.Block who boot cookie) = Unit {0}
ComesTo (Target t) (message.Ask who boot cookie for_who xid) = Unit {0}
ComesTo (Target t) (message.Ready who boot committed) = Unit {0}
ComesTo (Target t) (message.Evicted who boot) = Unit {0}
ComesTo (Target t) (message.Up boot) = Unit {0}
ComesTo _ _ = ⊥

pub comes_to : (head : Head) (past : List Line) (from : Node) (c : ℕ) (m : Message) → Grown head past → Was past from (Client c) m
    → ComesTo from m
comes_to head [] from c m g w = absurd w
comes_to head (l ∷ past) from c m g w = by l.entry w g.0.ok (λ v. comes_to head past from c m g.1 v)
  where
    sends : (node : Node) (m : Message) → EntryOk past l.at node (Send (Client c) m) → ComesTo node m
    sends (Target t) (message.Reply r) ok = tt
    sends (Target t) (message.Grant g) ok = tt
    sends (Target t) (message.Block who boot cookie) ok = tt
    sends (Target t) (message.Ask who boot cookie for_who xid) ok = tt
    sends (Target t) (message.Ready who boot committed) ok = tt
    sends (Target t) (message.Evicted who boot) ok = tt
    sends (Target t) (message.Up boot) ok = tt
    sends node m ok = absurd ok

    by : (e : Entry) → Was (line l.at e ∷ past) from (Client c) m → EntryOk past l.at l.at.node e
        → (Was past from (Client c) m → ComesTo from m) → ComesTo from m
    by (Send to x) (inl r) ok more =
        subst (λ (n : Node). ComesTo n m) r.0
        (sends l.at.node m (subst (λ (y : Message). EntryOk past l.at l.at.node (Send (Client c) y)) r.2
        (subst (λ (n : Node). EntryOk past l.at l.at.node (Send n x)) r.1 ok)))
    by (Send to x) (inr r) ok more = more r
    by e r ok more = more r

-- the locks of a reply have different cookies
pub from_high : (n : ℕ) (who : Who) (wants : List Want) (m : Lock) → In m (locks_from n who wants) → n < m.cookie.0
from_high n who [] m i = absurd i
from_high n who (w ∷ wants) m (inl e) = subst (λ (k : Lock). n < k.cookie.0) e (omega arith)
from_high n who (w ∷ wants) m (inr i) = let a = from_high (n + 1) who wants m i in omega (arith, a)

apart : (a b : ℕ) → a < b → nat_eq a b ≡ false
apart a b lt = grind (arith, nat_tests)

from_differ : (n : ℕ) (who : Who) (wants : List Want) → Differ (locks_from n who wants)
from_differ n who [] = tt
from_differ n who (w ∷ wants) = (λ m i. apart (n + 1) m.cookie.0 (from_high (n + 1) who wants m i), from_differ (n + 1) who wants)

kept_differ : (head : Head) (who : Who) (tag : ℕ) (past : List Line) → GrownOf head past → (k : ReplyTo) → (slot_of who tag past).reply
    ≡ Some k → Differ k.locks
kept_differ head who tag [] g = λ k e. absurd (cc)
kept_differ head who tag (l ∷ past) g = by (λ w u k e. kept_differ head w u past g.3 k e) l.at.node l.entry g.0
    (kept_differ head who tag past g.3)
  where
    S : Slot
    S = slot_of who tag past

    Fine : Slot → Type 0
    Fine s = (k : ReplyTo) → s.reply ≡ Some k → Differ k.locks

    Others : Type 0
    Others = (w : Who) (u : ℕ) (k : ReplyTo) → (slot_of w u past).reply ≡ Some k → Differ k.locks

    chosen : (b : Bool) (s : Slot) → Fine s → Fine S → Fine (if b then s else S)
    chosen true s p q = p
    chosen false s p q = q

    acted : (t : ℕ) (d : Deed) → ActsOk head.osts past l.at t d → Differ d.reply.locks
    acted t d (inl a) = subst (λ (x : Deed). Differ x.reply.locks) (sym a.1.is) (from_differ _ _ _)
    acted t d (inr a) = subst (λ (x : Deed). Differ x.reply.locks) (sym a.1.is) tt

    bare : (d e : Deed) → d ≡ e → e.reply.locks ≡ [] → Differ d.reply.locks
    bare d e is none = subst (λ (x : Deed). Differ x.reply.locks) (sym is) (subst Differ (sym none) tt)

    made : (t : ℕ) (d : Deed) → TxnsOk head.osts past l.at t d → Differ d.reply.locks
    made t d (inl a) = bare d _ a.1.is refl
    made t d (inr a) = bare d _ a.1.is refl

    answers : (t : ℕ) (d : Deed) → AnswersOk head.osts past l.at t d → Differ d.reply.locks
    answers t d (inl a) = bare d _ a.is refl
    answers t d (inr (inl a)) = bare d _ a.is refl
    answers t d (inr (inr (inl a))) = bare d _ a.is refl
    answers t d (inr (inr (inr (inl a)))) = bare d _ a.is refl
    answers t d (inr (inr (inr (inr a)))) = bare d _ a.is refl

    -- of what was done just before, whose reply is in its slot; or of an object
    granted : Others → (t : ℕ) (lock : Lock) (d : Deed) → GrantsOk head.osts past l.at t lock d → Differ d.reply.locks
    granted other t lock d (inl k) = other d.reply.who d.tag d.reply k.1.slot
    granted other t lock d (inr k) = subst (λ (x : Deed). Differ x.reply.locks) (sym k.1.is) tt

    by : Others → (n : Node) (e : Entry) → EntryOf head past l.at n e → Fine S
        → Fine (slot_of who tag (line (record { stamp = l.at.stamp; node = n }) e ∷ past))
    by other (Target t) (Enters r) ok f = chosen (is_slot_of who tag r.who r.tag) (entered r) (λ k e. absurd (cc)) f
    by other (Target t) (Act d) ok f =
        chosen (is_slot_of who tag d.reply.who d.tag) (answered d S)
        (λ k e. subst (λ (r : ReplyTo). Differ r.locks) (some_is d.reply k e) (acted t d ok)) f
    by other (Target t) (Txn d) ok f = chosen (is_slot_of who tag d.reply.who d.tag) (answered d S)
        (λ k e. subst (λ (r : ReplyTo). Differ r.locks) (some_is d.reply k e) (made t d ok)) f
    by other (Target t) (Wait lock d) ok f = chosen (is_slot_of who tag d.reply.who d.tag) (answered d S)
        (λ k e. subst (λ (r : ReplyTo). Differ r.locks) (some_is d.reply k e) (bare d _ ok.1.is refl)) f
    by other (Target t) (Answers d) ok f = chosen (is_slot_of who tag d.reply.who d.tag) (answered d S)
        (λ k e. subst (λ (r : ReplyTo). Differ r.locks) (some_is d.reply k e) (answers t d ok.1)) f
    by other (Target t) (Grant lock (Some d)) ok f =
        chosen (is_slot_of who tag d.reply.who d.tag) (answered d S)
        (λ k e. subst (λ (r : ReplyTo). Differ r.locks) (some_is d.reply k e) (granted other t lock d ok)) f
    by other (Target t) (Close o) ok f = λ k e. subst Differ (sym
        (bare_in (outcome_of head.osts head.clients l.at past).disk.slots who tag k (bare_outcome head l.at past g.3)
        (ap (λ (x : Outcome). (slot_in x.disk.slots who tag).reply) (sym ok.is) ∙ e))) tt
    by other (Client c) e ok f = f
    by other (Target t) e ok f = f

pub reply_differs : (head : Head) (past : List Line) (from : Node) (c : ℕ) (r : ReplyTo) → GrownOf head past
    → Was past from (Client c) (message.Reply r) → Differ r.locks
reply_differs head [] from c r g w = absurd w
reply_differs head (l ∷ past) from c r g w = by l.entry w g.0 (λ v. reply_differs head past from c r g.3 v)
  where
    sends : (node : Node) → SendOf head past node (Client c) (message.Reply r) → Differ r.locks
    sends (Target t) ok = subst (λ (k : ReplyTo). Differ k.locks) (sym ok.is) (kept_differ head ok.who ok.tag past g.3 ok.kept ok.slot)
    sends (Client d) ok = absurd ok

    by : (e : Entry) → Was (line l.at e ∷ past) from (Client c) (message.Reply r) → EntryOf head past l.at l.at.node e
        → (Was past from (Client c) (message.Reply r) → Differ r.locks) → Differ r.locks
    by (Send to x) (inl q) ok more = sends l.at.node (subst (λ (y : Message). SendOf head past l.at.node (Client c) y) q.2
        (subst (λ (n : Node). SendOf head past l.at.node n x) q.1 ok))
    by (Send to x) (inr q) ok more = more q
    by e q ok more = more q
