-- An object storage target in a run that changes no bytes, over its story: it is asked how long objects are, and for locks to read under,
-- alone. Each
-- object is empty; each lock that it grants it grants at once, to read, on the whole object; none waits, no holder is asked, and no
-- transaction is made.
use Rattle.std.proofs.Common.{◌≡◌, ℕ, ◌+◌, ◌<◌, ◌≤◌, Bool, true, false, List, [], ◌∷◌, ◌++◌, Some, None, ◌⊎◌, inl, inr, ⊎_elim, refl, sym}
use Rattle.std.proofs.Common.{subst, ap, ◌∙◌, arith}
use Rattle.std.specs.Prelude.{nat_lt, filter, map, not, ◌&&◌, ◌||◌}
use Rattle.std.specs.List.{filter_map}
use Rattle.std.proofs.lemmas.Bool.Decides.{nat_tests}
use Rattle.lu_base.specs.declared.ids.At.{At}
use Rattle.lu_base.specs.declared.ids.Cookie.{Cookie}
use Rattle.lu_base.specs.declared.ids.Node.{Node}
use Rattle.lu_base.specs.declared.ids.Node.TheVariants.{Client, Target}
use Rattle.lu_base.specs.declared.ids.Stamp.{Stamp}
use Rattle.lu_base.specs.declared.ids.Txn.{Txn as TxnOf}
use Rattle.lu_base.specs.declared.ids.Who.{Who}
use Rattle.lu_base.specs.declared.locks.Ask.{Ask}
use Rattle.lu_base.specs.declared.locks.Extent.{Extent}
use Rattle.lu_base.specs.declared.locks.Lock.{Lock}
use Rattle.lu_base.specs.declared.locks.Mode.{Mode}
use Rattle.lu_base.specs.declared.locks.Mode.TheVariants.{PR}
use Rattle.lu_base.specs.declared.locks.Policy.TheVariants.{Range}
use Rattle.lu_base.specs.declared.locks.Resource.{Resource}
use Rattle.lu_lock.specs.Conflict.{conflict, conflicts_with_any}
use Rattle.lu_lock.specs.Growth.{extent_of, opposing, grown_policy, granted_ask}
use Rattle.lu_lock.specs.Modes.{compatible}
use Rattle.lu_lock.specs.Overlap.{policies_meet}
use Rattle.lu_msg.specs.declared.answers.Answer.{Answer}
use Rattle.lu_msg.specs.declared.answers.Answer.TheVariants as told
use Rattle.lu_msg.specs.declared.commits.Batch.{Batch}
use Rattle.lu_msg.specs.declared.commits.Transaction.{Transaction}
use Rattle.lu_msg.specs.declared.messages.Request.{Request as RequestOf}
use Rattle.lu_msg.specs.declared.operations.Op.{Op}
use Rattle.lu_msg.specs.declared.operations.Op.TheVariants as op
use Rattle.lu_spec_machine.specs.Objects.{Object}
use Rattle.lu_spec_entries.specs.Carried.{Deed, Contents, Disk, Glimpse, Outcome}
use Rattle.lu_spec_entries.specs.Words.{Entry, Act, Txn as Made, Grant, Wait, Answers as Responds, Asks, Ends, Evict, Commit, Boot, Close}
use Rattle.lu_spec_entries.specs.Words.{Line, line}
use Rattle.lu_spec_target.specs.Glimpses.{highest}
use Rattle.lu_spec_target.specs.Lives.{is_life, lives_of as lives_in}
use Rattle.lu_spec_target.specs.Locks.{without_lock, locks_without}
use Rattle.lu_spec_target.specs.Queues as rows
use Rattle.lu_spec_target.specs.Replies.{asks_of, locks_on}
use Rattle.lu_spec_target.specs.Stored.{transaction_of, all_done, forgotten, batch_of, news, stored}
use Rattle.lu_spec_client.specs.Caches.{brought}
use Rattle.lu_proof_lawful.specs.Covered.Deeds.{size_at, told_on, whole, lock_asked, grown_by}
use Rattle.lu_proof_lawful.specs.Covered.Heads.{Head}
use Rattle.lu_proof_lawful.specs.Covered.TargetCloses.{disk_of, outcome_of, but_first, closing_of}
use Rattle.lu_proof_lawful.specs.Covered.TargetStates.{Server, none, server_of, lives_of}
use Rattle.lu_proof_lawful.proofs.Preconditions.Guards.{In}
use Rattle.lu_proof_lawful.proofs.Preconditions.StoryGuards.{Due, IsRecovering, RangeOk, WaitOk, PromoteOk, WritesUnder, WriteOk}
use Rattle.lu_proof_lawful.proofs.Preconditions.StoryGuards.{IsUncovered, SizedOk, EndedBy, AnswersOk, GlimpseEndsOk, ActsOk, TxnsOk}
use Rattle.lu_proof_lawful.proofs.Preconditions.StoryGuards.{GrantsOk, EntryOf}
use Rattle.lu_proof_lawful.proofs.Preconditions.Lists.{turn, in_filter, filter_none, empty_list}
use Rattle.lu_proof_lawful.proofs.Preconditions.ClientLocks.{in_map, in_mapped, none_any}
use Rattle.lu_proof_lawful.proofs.Preconditions.Has.{shown_commit}
use Rattle.lu_proof_lawful.proofs.Preconditions.NamesGrant.{in_but}
use Rattle.lu_proof_lawful.proofs.Invariants.Exact as exact
use Rattle.lu_proof_lawful.proofs.Invariants.ExactLists.{in_has}
use Rattle.lu_proof_lawful.proofs.Invariants.Groups.{HoldsAt}
use Rattle.lu_proof_lawful.proofs.Invariants.TargetGroups.{Acted, Gave, Promoted, IsMade}

-- ---- what is asked for in such a run

-- nothing that changes bytes, or reads them, and of locks those to read under
abbrev pub IsBareOp : Op → Type 0
IsBareOp (op.Enqueue resource mode extent) = mode ≡ PR
IsBareOp (op.Get resource cookie page) = ⊥
IsBareOp (op.Put resource cookie offset bytes) = ⊥
IsBareOp (op.Cut resource cookie size) = ⊥
IsBareOp _ = Unit {0}

-- ---- what such a target does

-- it tells of an object that it has no bytes
pub record ToldSize (d : Deed) : Type 0 where
  pub resource : Resource
  pub of_op : d.op ≡ op.Size resource
  pub answer : d.reply.answer ≡ told.Size 0

-- or it grants a lock to read under, on the whole object, with that size
pub record GotLock (d : Deed) : Type 0 where
  pub resource : Resource
  pub extent : Extent
  pub cookie : Cookie
  pub of_op : d.op ≡ op.Enqueue resource PR extent
  pub answer : d.reply.answer ≡ told.Granted cookie whole 0

-- so does a target that isn't the metadata target
pub record OnObject (d : Deed) : Type 0 where
  pub locks : d.reply.locks ≡ []
  pub number : d.reply.txn ≡ none
  pub how : ToldSize d ⊎ GotLock d

-- no entry of the list is a transaction of a number
abbrev pub Low : List Transaction → Type 0
Low ts = (x : Transaction) → In x ts → x.txn.0 ≤ 0

-- no glimpse ended in the newest line
abbrev pub IsUnended : List Line → Type 0
IsUnended [] = Unit {0}
IsUnended (l ∷ past) = elim l.entry [ Ends g ↦ ⊥ | _ ↦ Unit {0} ]

none_ended : (P : List Line → Glimpse → Type 0) (past : List Line) (at : At) → IsUnended past → EndedBy P past at → ⊥
none_ended P [] at u e = e
none_ended P (l ∷ past) at u e = by l.entry u e
  where
    by : (x : Entry) → IsUnended (line l.at x ∷ past) → EndedBy P (line l.at x ∷ past) at → ⊥
    by (Ends g) u e = u
    by x u e = e

pub record BareTarget (head : Head) (past : List Line) : Type 0 where
  pub deeds : (d : Deed) → Acted past d → OnObject d
  pub promoted : (l : Lock) → Promoted past l → ⊥
  pub queued : (server_of head.osts past).queued ≡ []
  pub glimpses : (server_of head.osts past).glimpses ≡ []
  pub ended : IsUnended past
  pub objects : (server_of head.osts past).objects ≡ []
  pub closing : (to : ℕ) (batch : Batch) → In (Commit to batch) (closing_of head.clients past) → Low batch.transactions
  pub disk : (disk_of head.osts head.clients past).contents.objects ≡ []

-- ---- locks to read under

-- the lock of the next cookie, on the whole object
abbrev pub read_lock : Server → RequestOf → Resource → Lock
read_lock v r resource = record {
  cookie = record { 0 = v.cookie + 1 };
  resource = resource;
  ask =
      record { who = r.who; mode = PR; policy = Range whole };
}

-- they don't conflict
pub readers_agree : (a b : Ask) → a.mode ≡ PR → b.mode ≡ PR → conflict a b ≡ false
readers_agree a b p q = ap (λ (m : Mode). not (compatible m b.mode) && policies_meet a.policy b.policy) p
    ∙ ap (λ (m : Mode). not (compatible PR m) && policies_meet a.policy b.policy) q

-- none is in the way of another one
pub none_opposing : (asks : List Ask) → ((a : Ask) → In a asks → a.mode ≡ PR) → opposing PR asks ≡ []
none_opposing asks readers =
    ap (λ (ls : List Ask). filter_map (λ (lock : Ask). extent_of lock.policy) ls)
    (filter_none (λ (lock : Ask). not (compatible PR lock.mode)) asks (λ a i. ap (λ (m : Mode). not (compatible PR m)) (readers a i)))

-- so it grows to the whole object
pub grown_whole : (who : Who) (extent : Extent) (granted : List Ask) → ((a : Ask) → In a granted → a.mode ≡ PR)
    → record { who = who; mode = PR; policy = Range whole } ≡ granted_ask (record { who = who; mode = PR; policy = Range extent }) granted
    []
grown_whole who extent granted readers = ap (λ (others : List Extent). record
    { who = who; mode = PR; policy = grown_policy (Range extent) others [] }) (sym (none_opposing granted readers))

-- and no holder of one is asked for a size
no_highest : (locks : List Lock) → ((l : Lock) → In l locks → l.ask.mode ≡ PR) → highest locks ≡ None
no_highest [] reads = refl
no_highest (l ∷ locks) reads = rw (reads l (inl refl)) (no_highest locks (λ k i. reads k (inr i)))

-- ---- a batch whose transactions have no number changes no object

low_deeds : (ds : List Deed) → ((d : Deed) → In d ds → d.reply.txn.0 ≤ 0) → Low (map {A = Deed} {B = Transaction} transaction_of ds)
low_deeds ds each x i = let r = in_map transaction_of x ds i in subst (λ (y : Transaction). y.txn.0 ≤ 0) r.2 (each r.0 r.1)

none_new : (n : ℕ) (ts : List Transaction) → Low ts → filter (λ (x : Transaction). nat_lt n x.txn.0) ts ≡ []
none_new n ts low = filter_none (λ (x : Transaction). nat_lt n x.txn.0) ts (λ x i. let zero = low x i in grind (arith, nat_tests, zero))

forgotten_objects : (gone : List Who) (c : Contents) → (forgotten gone c).objects ≡ c.objects
forgotten_objects [] c = refl
forgotten_objects (who ∷ gone) c = forgotten_objects gone _

stored_objects : (osts : ℕ) (batch : Batch) (disk : Disk) → Low batch.transactions → (stored osts batch disk).contents.objects
    ≡ disk.contents.objects
stored_objects osts batch disk low =
    forgotten_objects batch.removed (all_done osts (news disk batch) disk.contents)
    ∙ ap (λ (ts : List Transaction). (all_done osts ts disk.contents).objects) (none_new disk.committed batch.transactions low)

-- ---- line by line

pub bare_target : (head : Head) → BareTarget head []
bare_target head =
    record {
      deeds = λ d a. absurd a;
      promoted = λ l p. p;
      queued = refl;
      glimpses = refl;
      ended = tt;
      objects = refl;
      closing = λ to batch i. absurd i;
      disk = refl;
    }

-- what such a target gave
pub gave_by : (head : Head) (past : List Line) (d : Deed) (l : Lock) → (Acted past d → OnObject d) → (Promoted past l → ⊥) → Gave past d l
    → (l.ask.mode ≡ PR) × (l.ask.policy ≡ Range whole)
gave_by head past d l deeds promoted g = ⊎_elim
    (λ (i : In l (brought d.op d.reply)). of_deed (deeds g.0) i)
    (λ (p : Promoted past l × _). absurd (promoted p.0))
    g.1
  where
    got : (k : GotLock d) → d.reply.locks ≡ [] → In l (brought d.op d.reply) → (l.ask.mode ≡ PR) × (l.ask.policy ≡ Range whole)
    got k none i = by d.op d.reply.answer d.reply.locks k.of_op k.answer none i
      where
        by : (o : Op) (a : Answer) (ls : List Lock) → o ≡ op.Enqueue k.resource PR k.extent → a ≡ told.Granted k.cookie whole 0 → ls ≡ []
            → In l (brought o (record d.reply { answer = a; locks = ls })) → (l.ask.mode ≡ PR) × (l.ask.policy ≡ Range whole)
        by o a ls e f n i =
            ⊎_elim (λ (q : record {
              cookie = k.cookie;
              resource = k.resource;
              ask =
                  record { who = d.reply.who; mode = PR; policy = Range whole };
            } ≡ l).
            (ap (λ (v : Lock). v.ask.mode) (sym q), ap (λ (v : Lock). v.ask.policy) (sym q))) (λ (z : ⊥). absurd z)
            (subst (λ (p : Op). In l (brought p (record d.reply { answer = told.Granted k.cookie whole 0; locks = [] }))) e
            (subst (λ (v : Answer). In l (brought o (record d.reply { answer = v; locks = [] }))) f
            (subst (λ (vs : List Lock). In l (brought o (record d.reply { answer = a; locks = vs }))) n i)))

    sized : (k : ToldSize d) → d.reply.locks ≡ [] → In l (brought d.op d.reply) → ⊥
    sized k none i = by d.op d.reply.answer d.reply.locks k.of_op k.answer none i
      where
        by : (o : Op) (a : Answer) (ls : List Lock) → o ≡ op.Size k.resource → a ≡ told.Size 0 → ls ≡ []
            → In l (brought o (record d.reply { answer = a; locks = ls })) → ⊥
        by o a ls e f n i =
            subst (λ (p : Op). In l (brought p (record d.reply { answer = told.Size 0; locks = [] }))) e
            (subst (λ (v : Answer). In l (brought o (record d.reply { answer = v; locks = [] }))) f
            (subst (λ (vs : List Lock). In l (brought o (record d.reply { answer = a; locks = vs }))) n i))

    of_deed : OnObject d → In l (brought d.op d.reply) → (l.ask.mode ≡ PR) × (l.ask.policy ≡ Range whole)
    of_deed k i = ⊎_elim (λ (s : ToldSize d). absurd (sized s k.locks i)) (λ (s : GotLock d). got s k.locks i) k.how

pub gave_read : (head : Head) (past : List Line) (d : Deed) (l : Lock) → BareTarget head past → Gave past d l → (l.ask.mode ≡ PR)
    × (l.ask.policy ≡ Range whole)
gave_read head past d l b = gave_by head past d l (b.deeds d) (b.promoted l)

module _ (head : Head) (past : List Line) (h : HoldsAt head past) (b : BareTarget head past)
    (asked : (r : RequestOf) → In r (server_of head.osts past).waiting → IsBareOp r.op) where
  abbrev pub v : Server
  v = server_of head.osts past

  reads : (l : Lock) → In l v.granted → l.ask.mode ≡ PR
  reads l i = let d = h.locks.granted l i in (gave_read head past d.0 l b d.1).0

  reads_on : (r : Resource) (l : Lock) → In l (locks_on r v.granted) → l.ask.mode ≡ PR
  reads_on r l i = reads l (in_filter _ l v.granted i).0

  asks_on : (r : Resource) (a : Ask) → In a (asks_of (locks_on r v.granted)) → a.mode ≡ PR
  asks_on r a i = let k = in_map (λ (l : Lock). l.ask) a (locks_on r v.granted) i
      in subst (λ (x : Ask). x.mode ≡ PR) k.2 (reads_on r k.0 k.1)

  none_waits : (r : Resource) → locks_on r v.queued ≡ []
  none_waits r = ap (locks_on r) b.queued

  -- an object is empty
  pub empty : (r : Resource) → size_at v r ≡ 0
  empty r = ap (λ (os : List (Resource × Object)). size_at (record v { objects = os }) r) b.objects

  -- an operation that isn't asked for
  not_asked : (o : Op) (r : RequestOf) → In r v.waiting → r.op ≡ o → (IsBareOp o → ⊥) → ⊥
  not_asked o r i e n = n (subst IsBareOp e (asked r i))

  sized : (at : At) (d : Deed) → SizedOk head.osts past at d → OnObject d
  sized at d ok =
      record {
        locks = ap (λ (x : Deed). x.reply.locks) ok.is;
        number = ap (λ (x : Deed). x.reply.txn) ok.is;
        how = inl (record {
          resource = ok.resource;
          of_op = ap (λ (x : Deed). x.op) ok.is ∙ ok.of_op;
          answer =
              ap (λ (x : Deed). x.reply.answer) ok.is ∙ ap (λ (n : ℕ). told.Size n) (empty ok.resource);
        });
      }

  -- who asks for a lock asks to read
  to_read : (request : RequestOf) (resource : Resource) (mode : Mode) (extent : Extent) → In request v.waiting → request.op
      ≡ op.Enqueue resource mode extent → mode ≡ PR
  to_read request resource mode extent i e = subst IsBareOp e (asked request i)

  -- and gets it on the whole object
  pub range_read : (at : At) (lock : Lock) (d : Deed) (ok : RangeOk head.osts past at lock d) → lock ≡ read_lock v ok.request ok.resource
  range_read at lock d ok =
      let mode = to_read ok.request ok.resource ok.mode ok.extent ok.waits ok.of_op in
      ok.of_lock
      ∙ ap (λ (ls : List Lock). grown_by v ls (lock_asked v ok.request ok.resource ok.mode ok.extent)) (none_waits ok.resource)
      ∙ ap (λ (m : Mode). grown_by v [] (lock_asked v ok.request ok.resource m ok.extent)) mode
      ∙ ap (λ (a : Ask). record { cookie = record { 0 = v.cookie + 1 }; resource = ok.resource; ask = a })
      (sym (grown_whole ok.request.who ok.extent (asks_of (locks_on ok.resource v.granted)) (asks_on ok.resource)))

  pub range_told : (at : At) (lock : Lock) (d : Deed) (ok : RangeOk head.osts past at lock d) → d
      ≡ told_on v at ok.request none [] (told.Granted lock.cookie whole 0)
  range_told at lock d ok =
      ok.is
      ∙ ap (λ (n : ℕ). told_on v at ok.request none [] (told.Granted lock.cookie (rows.extent_of lock) n)) (empty ok.resource)
      ∙ ap (λ (l : Lock). told_on v at ok.request none [] (told.Granted lock.cookie (rows.extent_of l) 0)) (range_read at lock d ok)

  got : (at : At) (lock : Lock) (d : Deed) → RangeOk head.osts past at lock d → OnObject d
  got at lock d ok =
      let is = range_told at lock d ok in
      record {
        locks = ap (λ (x : Deed). x.reply.locks) is;
        number = ap (λ (x : Deed). x.reply.txn) is;
        how = inr (record {
          resource = ok.resource;
          extent = ok.extent;
          cookie = lock.cookie;
          of_op = ap (λ (x : Deed). x.op) is ∙ ok.of_op ∙ ap (λ (m : Mode). op.Enqueue ok.resource m ok.extent)
              (to_read ok.request ok.resource ok.mode ok.extent ok.waits ok.of_op);
          answer = ap (λ (x : Deed). x.reply.answer) is;
        });
      }

  -- what doesn't happen
  pub no_write : (at : At) (d : Deed) → WriteOk head.osts past at d → ⊥
  no_write at d ok = by ok.request.op ok.under (asked ok.request ok.waits)
    where
      by : (o : Op) → WritesUnder v ok.request.who o ok.holder → IsBareOp o → ⊥
      by (op.Put resource cookie offset bytes) u a = a
      by (op.Cut resource cookie size) u a = a
      by o u a = u

  pub no_wait : (at : At) (lock : Lock) (d : Deed) → WaitOk head.osts past at lock d → ⊥
  no_wait at lock d ok =
      let mode = to_read ok.request ok.resource ok.mode ok.extent ok.waits ok.of_op in
      let ask : Ask = (lock_asked v ok.request ok.resource ok.mode ok.extent).ask in
      let granted : conflicts_with_any ask (asks_of (locks_on ok.resource v.granted)) ≡ false =
      none_any (conflict ask) (asks_of (locks_on ok.resource v.granted)) (λ a i. readers_agree ask a mode (asks_on ok.resource a i)) in
      let waiting : conflicts_with_any ask (asks_of (locks_on ok.resource v.queued)) ≡ false =
      ap (λ (ls : List Lock). conflicts_with_any ask (asks_of ls)) (none_waits ok.resource) in
      let busy = ok.busy in
      both (conflicts_with_any ask (asks_of (locks_on ok.resource v.granted)))
      (conflicts_with_any ask (asks_of (locks_on ok.resource v.queued))) granted waiting busy
    where
      both : (x y : Bool) → x ≡ false → y ≡ false → (x || y) ≡ true → ⊥
      both true y p q e = cc
      both false true p q e = cc
      both false false p q e = cc

  pub no_promotion : (lock : Lock) → PromoteOk head.osts past lock → ⊥
  no_promotion lock ok = none (ok.ahead) (sym ok.queue ∙ none_waits lock.resource)
    where
      none : (ahead : List Lock) → ahead ++ ok.asked ∷ ok.later ≡ [] → ⊥
      none [] e = cc
      none (x ∷ xs) e = cc

  pub no_question : (at : At) (r : Resource) (holder : Lock) → highest (locks_on r v.granted) ≡ Some holder → ⊥
  no_question at r holder e = let none = no_highest (locks_on r v.granted) (reads_on r) in absurd (cc)

  pub no_answer : (at : At) (t : ℕ) (d : Deed) → AnswersOk head.osts past at t d → ⊥
  no_answer at t d (inl ok) = not_asked (op.Get ok.resource ok.cookie ok.page) ok.request ok.waits ok.of_op (λ z. z)
  no_answer at t d (inr (inl ok)) = by ok.request.op ok.uncovered (asked ok.request ok.waits)
    where
      by : (o : Op) → IsUncovered v ok.request.who o → IsBareOp o → ⊥
      by (op.Get resource cookie page) u a = a
      by (op.Put resource cookie offset bytes) u a = a
      by (op.Cut resource cookie size) u a = a
      by o u a = u
  no_answer at t d (inr (inr (inl ok))) = no_question at ok.resource ok.holder ok.of_holder
  no_answer at t d (inr (inr (inr (inl ok)))) = none_ended _ past at b.ended ok.ended
  no_answer at t d (inr (inr (inr (inr ok)))) = none_ended _ past at b.ended ok.ended

  pub no_end : (at : At) (t : ℕ) (g : Glimpse) → GlimpseEndsOk head.osts past at t g → ⊥
  no_end at t g ok = subst (λ (gs : List Glimpse). In g gs) b.glimpses ok.waits

  -- no transaction is there to be committed or kept
  none_made : (d : Deed) → Acted past d → IsMade d → ⊥
  none_made d a made = let zero = ap (λ (n : TxnOf). n.0) (b.deeds d a).number in omega (arith, zero, made)

  none_logged : v.log ≡ []
  none_logged = empty_list v.log (λ d i. let k = h.history.log d i in none_made d k.0 k.1)

  none_kept : (at : At) → IsRecovering head.osts past → (d : Deed) → In d (outcome_of head.osts head.clients at past).kept
      → d.reply.txn.0 ≤ 0
  none_kept at recovers d i =
      let here = in_has d.reply.txn.0 (map {A = Deed} {B = ℕ} (λ (x : Deed). x.reply.txn.0)
      (outcome_of head.osts head.clients at past).kept) (in_mapped (λ (x : Deed). x.reply.txn.0) d
      (outcome_of head.osts head.clients at past).kept i) in
      let k = exact.kept_made head past recovers h d.reply.txn.0 (sym (exact.kept_same head past recovers h at d.reply.txn.0) ∙ here) in
      absurd (none_made k.0 k.1.acted k.1.made)

  -- a line that does nothing, and changes nothing of this
  quiet : (x : Line) → ((d : Deed) → Acted (x ∷ past) d → Acted past d) → ((l : Lock) → Promoted (x ∷ past) l → Promoted past l)
      → IsUnended (x ∷ past)
      → (server_of head.osts (x ∷ past)).queued ≡ v.queued → (server_of head.osts (x ∷ past)).glimpses ≡ v.glimpses
      → (server_of head.osts (x ∷ past)).objects ≡ v.objects
      → ((e : Entry) → In e (closing_of head.clients (x ∷ past)) → In e (closing_of head.clients past))
      → (disk_of head.osts head.clients (x ∷ past)).contents.objects ≡ (disk_of head.osts head.clients past).contents.objects
      → BareTarget head (x ∷ past)
  quiet x acted promoted ended queued glimpses objects closing disk =
      record {
        deeds = λ d a. b.deeds d (acted d a);
        promoted = λ l p. b.promoted l (promoted l p);
        queued = queued ∙ b.queued;
        glimpses = glimpses ∙ b.glimpses;
        ended = ended;
        objects = objects ∙ b.objects;
        closing = λ to batch i. b.closing to batch (closing (Commit to batch) i);
        disk = disk ∙ b.disk;
      }

  -- with something done there
  does : (x : Line) (d : Deed) → OnObject d → ((e : Deed) → Acted (x ∷ past) e → (d ≡ e) ⊎ Acted past e)
      → ((l : Lock) → Promoted (x ∷ past) l → Promoted past l) → IsUnended (x ∷ past)
      → (server_of head.osts (x ∷ past)).queued ≡ [] → (server_of head.osts (x ∷ past)).glimpses ≡ v.glimpses
      → (server_of head.osts (x ∷ past)).objects ≡ v.objects
      → ((e : Entry) → In e (closing_of head.clients (x ∷ past)) → In e (closing_of head.clients past))
      → (disk_of head.osts head.clients (x ∷ past)).contents.objects ≡ (disk_of head.osts head.clients past).contents.objects
      → BareTarget head (x ∷ past)
  does x d on acted promoted ended queued glimpses objects closing disk =
      record {
        deeds = λ e a. ⊎_elim (λ (q : d ≡ e). subst OnObject q on) (λ (c : Acted past e). b.deeds e c) (acted e a);
        promoted = λ l p. b.promoted l (promoted l p);
        queued = queued;
        glimpses = glimpses ∙ b.glimpses;
        ended = ended;
        objects = objects ∙ b.objects;
        closing = λ to batch i. b.closing to batch (closing (Commit to batch) i);
        disk = disk ∙ b.disk;
      }

  left : (e : Entry) → In e (but_first (closing_of head.clients past)) → In e (closing_of head.clients past)
  left e i = in_but e (closing_of head.clients past) i

  pub bare_line : (stamp : Stamp) (node : Node) (e : Entry) → ((t : ℕ) → node ≡ Target t → 0 < t)
      → EntryOf head past (turn stamp node) node e → BareTarget head (line (turn stamp node) e ∷ past)
  bare_line stamp (Client c) e high ok = quiet (line (turn stamp (Client c)) e) (acts e ok) (proms e ok) (ends e ok) refl refl refl
      (λ x i. i) refl
    where
      acts : (x : Entry) → EntryOf head past (turn stamp (Client c)) (Client c) x → (d : Deed)
          → Acted (line (turn stamp (Client c)) x ∷ past) d → Acted past d
      acts (Act y) ok d a = absurd ok
      acts (Made y) ok d a = absurd ok
      acts (Grant lock y) ok d a = absurd ok
      acts (Wait lock y) ok d a = absurd ok
      acts (Responds y) ok d a = absurd ok
      acts x ok d a = a

      proms : (x : Entry) → EntryOf head past (turn stamp (Client c)) (Client c) x → (l : Lock)
          → Promoted (line (turn stamp (Client c)) x ∷ past) l → Promoted past l
      proms (Grant lock y) ok l p = absurd ok
      proms x ok l p = p

      ends : (x : Entry) → EntryOf head past (turn stamp (Client c)) (Client c) x → IsUnended (line (turn stamp (Client c)) x ∷ past)
      ends (Ends g) ok = ok
      ends x ok = tt
  bare_line stamp (Target t) (Act d) high ok =
      does (line (turn stamp (Target t)) (Act d)) d (of ok) (λ e a. a) (λ l p. p) tt b.queued refl refl left refl
    where
      of : ActsOk head.osts past (turn stamp (Target t)) t d → OnObject d
      of (inl k) = absurd (let up = high t refl in let zero = k.0 in omega (arith, up, zero))
      of (inr k) = sized (turn stamp (Target t)) d k.1
  bare_line stamp (Target t) (Made d) high ok = absurd (by ok)
    where
      by : TxnsOk head.osts past (turn stamp (Target t)) t d → ⊥
      by (inl k) = let up = high t refl in let zero = k.0 in omega (arith, up, zero)
      by (inr k) = no_write (turn stamp (Target t)) d k.1
  bare_line stamp (Target t) (Grant lock None) high ok = absurd (no_promotion lock ok.1)
  bare_line stamp (Target t) (Grant lock (Some d)) high ok =
      does (line (turn stamp (Target t)) (Grant lock (Some d))) d (of ok)
      (λ e a. ⊎_elim (λ (q : Some d ≡ Some e). inl (cc)) (λ (c : Acted past e). inr c) a)
      (λ l p. ⊎_elim (λ q. absurd (let none = q.0 in cc)) (λ (q : Promoted past l). q) p)
      tt (ap (λ (ls : List Lock). without_lock lock ls) b.queued) refl refl left refl
    where
      of : GrantsOk head.osts past (turn stamp (Target t)) t lock d → OnObject d
      of (inl k) = absurd (let up = high t refl in let zero = k.0 in omega (arith, up, zero))
      of (inr k) = got (turn stamp (Target t)) lock d k.1
  bare_line stamp (Target t) (Wait lock d) high ok = absurd (no_wait (turn stamp (Target t)) lock d ok.1)
  bare_line stamp (Target t) (Responds d) high ok = absurd (no_answer (turn stamp (Target t)) t d ok.1)
  bare_line stamp (Target t) (Asks g) high ok = absurd (no_question (turn stamp (Target t)) g.resource ok.1.holder ok.1.of_holder)
  bare_line stamp (Target t) (Ends g) high ok = absurd (no_end (turn stamp (Target t)) t g ok.1)
  bare_line stamp (Target t) (Evict who cause) high ok =
      quiet (line (turn stamp (Target t)) (Evict who cause)) (λ d a. a) (λ l p. p) tt
      (ap (λ (ls : List Lock). locks_without (who ∷ []) ls) b.queued ∙ sym b.queued)
      (ap (λ (gs : List Glimpse). filter (λ (x : Glimpse). not (is_life x.request.who (who ∷ []))) gs) b.glimpses ∙ sym b.glimpses) refl
      left refl
  bare_line stamp (Target t) (Commit to batch) high ok =
      quiet (line (turn stamp (Target t)) (Commit to batch)) (λ d a. a) (λ l p. p) tt refl refl refl left
      (stored_objects head.osts batch (disk_of head.osts head.clients past) (low ok.of_batch))
    where
      upto : List Deed
      upto = filter (λ (d : Deed). not (nat_lt to d.reply.txn.0)) v.log

      low : (batch ≡ batch_of upto batch.removed batch.added) ⊎ Due head past (turn stamp (Target t)) (Commit to batch)
          → Low batch.transactions
      low (inl is) = subst (λ (x : Batch). Low x.transactions) (sym is)
          (low_deeds upto (λ d i. absurd (subst (λ (ds : List Deed). In d ds) none_logged
          (in_filter (λ (x : Deed). not (nat_lt to x.reply.txn.0)) d v.log i).0)))
      low (inr due) = b.closing to batch (subst (λ (es : List Entry). In (Commit to batch) es) (sym due.1) (inl refl))
  bare_line stamp (Target t) (Boot boot disk) high ok =
      quiet (line (turn stamp (Target t)) (Boot boot disk)) (λ d a. a) (λ l p. p) tt refl refl refl left
      (ap (λ (x : Disk). x.contents.objects) ok.of_disk)
  bare_line stamp (Target t) (Close o) high ok =
      record {
        deeds = b.deeds;
        promoted = b.promoted;
        queued = refl;
        glimpses = refl;
        ended = tt;
        objects = ap (λ (x : Outcome). x.disk.contents.objects) ok.is
            ∙ stored_objects head.osts (batch_of x.kept (lives_in x.gone) x.joins) (disk_of head.osts head.clients past) kept_low ∙ b.disk;
        closing = λ to batch i. shown to batch (subst (λ (y : Outcome). In (Commit to batch)
            (closing_of head.clients (line at (Close y) ∷ past))) ok.is i);
        disk = b.disk;
      }
    where
      at : At
      at = turn stamp (Target t)

      x : Outcome
      x = outcome_of head.osts head.clients at past

      kept_low : Low (map {A = Deed} {B = Transaction} transaction_of x.kept)
      kept_low = low_deeds x.kept (none_kept at ok.recovers)

      shown : (n : ℕ) (batch : Batch) → In (Commit n batch) (closing_of head.clients (line at (Close x) ∷ past)) → Low batch.transactions
      shown n batch i = subst (λ (y : Batch). Low y.transactions)
          (sym (shown_commit 0 (λ (l : Lock). Unit {0}) (λ (who : Who) (n : ℕ) (a : Answer). Unit {0}) head x (lives_of head.clients past) n
          batch i)) kept_low
  bare_line stamp (Target t) e high ok = quiet (line (turn stamp (Target t)) e) (λ d a. a) (λ l p. p) tt refl refl refl left refl
