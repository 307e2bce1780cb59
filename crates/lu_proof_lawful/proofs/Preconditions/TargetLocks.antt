-- Locks on the objects of an object storage target: who asks for one gets it, or waits behind what is in its way; what waits is granted in
-- order once nothing is in its way, and what still is in the way of a lock that waits is called back. All these lines are allowed.
use Rattle.std.proofs.Common.{◌≡◌, ℕ, ◌+◌, ◌*◌, ◌<◌, ◌≤◌, Bool, true, false, List, [], ◌∷◌, ◌++◌, Some, None, inl, inr, refl, sym, subst}
use Rattle.std.proofs.Common.{ap, ◌∙◌, arith}
use Rattle.std.specs.Prelude.{◌||◌, if◌then◌else◌}
use Rattle.std.proofs.lemmas.Bool.{cond_both}
use Rattle.std.proofs.lemmas.List.{append_assoc}
use Rattle.lu_base.specs.declared.ids.At.{At}
use Rattle.lu_base.specs.declared.ids.Node.TheVariants as node
use Rattle.lu_base.specs.declared.ids.Stamp.{Stamp}
use Rattle.lu_base.specs.declared.locks.Extent.{Extent}
use Rattle.lu_base.specs.declared.locks.Lock.{Lock}
use Rattle.lu_base.specs.declared.locks.Mode.{Mode}
use Rattle.lu_base.specs.declared.locks.Policy.TheVariants.{Range}
use Rattle.lu_base.specs.declared.locks.Resource.{Resource}
use Rattle.lu_lock.specs.Conflict.{conflict, conflicts_with_any}
use Rattle.lu_spec_machine.specs.Objects.{Object, object_size}
use Rattle.lu_msg.specs.declared.answers.Answer.{Answer}
use Rattle.lu_msg.specs.declared.answers.Answer.TheVariants as told
use Rattle.lu_msg.specs.declared.messages.Message.TheVariants as message
use Rattle.lu_msg.specs.declared.messages.Request.{Request as RequestOf}
use Rattle.lu_msg.specs.declared.operations.Op.TheVariants as op
use Rattle.lu_spec_entries.specs.Carried.{Deed, Called}
use Rattle.lu_spec_entries.specs.Words.{Entry, Grant, Wait, Block, Line, line, with_turn}
use Rattle.lu_spec_entries.specs.Concerns.{only}
use Rattle.lu_spec_target.specs.Glimpses.{answered}
use Rattle.lu_spec_target.specs.Locks.{without_lock}
use Rattle.lu_spec_target.specs.Objects.{lock_for, row_granted, row_waiting, row_enqueue}
use Rattle.lu_spec_target.specs.Queues.{size_of, extent_of, conflicting, blocks_go, grant_message, has_to_wait, grown, grant_entries}
use Rattle.lu_spec_target.specs.Queues.{grants_go, queue_goes, resources_of, queues_go, all_queues_go}
use Rattle.lu_spec_target.specs.Replies.{locks_on, asks_of, is_called, called, block_of, blocks, replies, to_life}
use Rattle.lu_spec_target.specs.States.{Target, after, follow, turn as turned}
use Rattle.lu_spec_target.specs.Stored.{object_in}
use Rattle.lu_held.specs.Locks.{same_resource}
use Rattle.lu_proof_lawful.specs.Covered.Deeds.{size_at, told_on, lock_asked, in_the_way, grown_by, notice, again}
use Rattle.lu_proof_lawful.specs.Covered.Heads.{Head}
use Rattle.lu_proof_lawful.specs.Covered.TargetStates.{Server, none, server_of, slot_of}
use Rattle.lu_proof_lawful.proofs.Preconditions.Guards.{In, Did, EntersFor, Owes}
use Rattle.lu_proof_lawful.proofs.Preconditions.StoryGuards.{IsServing, PromoteOk}
use Rattle.lu_proof_lawful.proofs.Preconditions.Lists.{turn, in_filter, in_right}
use Rattle.lu_proof_lawful.proofs.Preconditions.LockLists.{Rises, in_above, in_put, rises_filter, called_beside, called_now}
use Rattle.lu_proof_lawful.proofs.Preconditions.QueueLists.{on_resource, without_middle, on_without}
use Rattle.lu_proof_lawful.proofs.Preconditions.TargetAlike.{Alike, Serving, IsPlain, serving_is}
use Rattle.lu_proof_lawful.proofs.Preconditions.TargetGood.{GoodAt, LineAt, Reaches, serves_lines, story_turn, reaches_more, turned_more}
use Rattle.lu_proof_lawful.proofs.Preconditions.TargetPass.{HighAt, High, NotTaken, Leaves, slot_answered, answer_good, blocks_leave}
use Rattle.lu_proof_lawful.proofs.Preconditions.TargetPass.{plain_blocks}
use Rattle.lu_proof_lawful.proofs.Preconditions.Turns.{Settled, owes_nothing}

-- ---- what the whole state reads is what the guards speak of

module _ (osts t : ℕ) (v : Target) (s : Server) (h : Alike osts t v s) where
  pub size_same : (resource : Resource) → size_of v resource ≡ size_at s resource
  size_same resource = ap (λ (os : List (Resource × Object)). object_size (object_in os resource)) h.objects

  pub answered_same : (at : At) (r : RequestOf) (a : Answer) → answered v at r a ≡ told_on s at r none [] a
  answered_same at r a = rw (h.log, h.boot, h.committed) refl

  asked_same : (r : RequestOf) (resource : Resource) (mode : Mode) (extent : Extent) → lock_for v r resource mode extent
      ≡ lock_asked s r resource mode extent
  asked_same r resource mode extent = ap (λ (n : ℕ). record {
    cookie = record { 0 = n + 1 };
    resource = resource;
    ask =
        record { who = r.who; mode = mode; policy = Range extent };
  }) h.cookie

  way_same : (ahead : List Lock) (l : Lock) → has_to_wait v ahead l ≡ in_the_way s l.resource ahead l.ask
  way_same ahead l = ap (λ (gs : List Lock). conflicts_with_any l.ask (asks_of (locks_on l.resource gs))
      || conflicts_with_any l.ask (asks_of ahead)) h.granted

  grown_same : (others : List Lock) (l : Lock) → grown v others l ≡ grown_by s others l
  grown_same others l = rw h.granted refl

  pub notice_same : (l : Lock) → grant_message v l ≡ to_life l.ask.who (message.Grant (notice s l))
  notice_same l = rw (h.boot, h.objects, h.committed, h.log) refl

  -- the lock that is asked for waits, or is granted, as the guards say
  asks_way : (r : RequestOf) (resource : Resource) (mode : Mode) (extent : Extent) (b : Bool)
      → has_to_wait v (locks_on resource v.waiting) (lock_for v r resource mode extent) ≡ b
      → in_the_way s resource (locks_on resource s.queued) (lock_asked s r resource mode extent).ask ≡ b
  asks_way r resource mode extent b e =
      ap (λ (ws : List Lock). in_the_way s resource (locks_on resource ws) (lock_asked s r resource mode extent).ask) (sym h.waiting)
      ∙ sym (way_same (locks_on resource v.waiting) (lock_for v r resource mode extent)) ∙ e

  -- all of it
  granted_same : (at : At) (r : RequestOf) (resource : Resource) (mode : Mode) (extent : Extent)
      → row_granted v at r (grown v (locks_on resource v.waiting) (lock_for v r resource mode extent))
      ≡ (let l = grown_by s (locks_on resource s.queued) (lock_asked s r resource mode extent) in
      let d = told_on s at r none [] (told.Granted l.cookie (extent_of l) (size_at s resource)) in
      Grant l (Some d) ∷ replies d ∷ [])
  granted_same at r resource mode extent =
      let l : Lock = grown_by s (locks_on resource s.queued) (lock_asked s r resource mode extent) in
      let given : grown v (locks_on resource v.waiting) (lock_for v r resource mode extent) ≡ l =
      ap (λ (ws : List Lock). grown v (locks_on resource ws) (lock_for v r resource mode extent)) h.waiting
      ∙ ap (grown v (locks_on resource s.queued)) (asked_same r resource mode extent)
      ∙ grown_same (locks_on resource s.queued) (lock_asked s r resource mode extent) in
      let lines : Deed → List Entry = λ (d : Deed). Grant l (Some d) ∷ replies d ∷ [] in
      ap (row_granted v at r) given
      ∙ ap (λ (n : ℕ). lines (answered v at r (told.Granted l.cookie (extent_of l) n))) (size_same resource)
      ∙ ap lines (answered_same at r (told.Granted l.cookie (extent_of l) (size_at s resource)))

  waits_same : (at : At) (r : RequestOf) (resource : Resource) (mode : Mode) (extent : Extent)
      → row_waiting v at r (lock_for v r resource mode extent)
      ≡ (let l = lock_asked s r resource mode extent in
      let d = told_on s at r none [] (told.Waiting l.cookie) in
      follow v (Wait l d ∷ replies d ∷ []) (λ (w : Target). blocks_go (locks_on resource w.waiting) w))
  waits_same at r resource mode extent =
      let l : Lock = lock_asked s r resource mode extent in
      let lines : Deed → List Entry = λ (d : Deed). follow v (Wait l d ∷ replies d ∷ [])
      (λ (w : Target). blocks_go (locks_on resource w.waiting) w) in
      ap (row_waiting v at r) (asked_same r resource mode extent) ∙ ap lines (answered_same at r (told.Waiting l.cookie))

-- ---- what is called back leaves all but that

blocks_wait : (v : Target) (locks : List Lock) (w : Target) → (turned w (blocks v locks)).waiting ≡ w.waiting
blocks_wait v [] w = refl
blocks_wait v (l ∷ locks) w =
    cond_both (is_called l.cookie v.called) (blocks v locks) (Block (called v l) ∷ block_of v l ∷ blocks v locks)
    (λ (es : List Entry). (turned w es).waiting ≡ w.waiting)
    (λ e. blocks_wait v locks w)
    (λ e. blocks_wait v locks (after w (Block (called v l))))

leaves_all : (u v w : Target) → Leaves u v → Leaves v w → Leaves u w
leaves_all u v w a b = (b.0 ∙ a.0, b.1 ∙ a.1, b.2 ∙ a.2, b.3 ∙ a.3)

blocks_go_leave : (ls : List Lock) (v : Target) → Leaves v (turned v (blocks_go ls v))
blocks_go_leave [] v = (refl, refl, refl, refl)
blocks_go_leave (l ∷ ls) v =
    let es = blocks v (conflicting v l) in
    subst (Leaves v) (sym (turned_more es (blocks_go ls (turned v es)) v))
    (leaves_all v (turned v es) (turned (turned v es) (blocks_go ls (turned v es))) (blocks_leave v (conflicting v l) v)
    (blocks_go_leave ls (turned v es)))

-- ---- lines of a turn of an object storage target

module _ (head : Head) (stamp : Stamp) (t : ℕ) where
  abbrev here : At
  here = turn stamp (node.Target t)

  abbrev pub Leads : List Line → List Line → Target → List Entry → Type 0
  Leads past story v es = Reaches head stamp t past story v es (Serving head t)

  -- what is done is answered next, where it brings no lock of names
  pub deed_lead : (past story : List Line) (v : Target) (e : Entry) (d : Deed) → story ≡ only t past → Serving head t v story → IsPlain e
      → LineAt head stamp t past story e
      → Owes (line here e ∷ past) here (replies d) → Did (line here e ∷ past) d → Did (line here e ∷ story) d
      → ((x : Deed) → Did (line here e ∷ past) x → x ≡ d) → NotTaken (line here e ∷ past)
      → d.reply.locks ≡ [] → (slot_of d.reply.who d.tag (line here e ∷ story)).reply ≡ Some d.reply
      → IsServing head.osts (line here e ∷ story) → d.reply ≡ again (server_of head.osts (line here e ∷ story)) d.reply
      → Leads past story v (e ∷ replies d ∷ [])
  deed_lead past story v e d of_target h plain ok owes did own only_it new bare slot serves is =
      let good : GoodAt head stamp t past story (e ∷ replies d ∷ []) = (
        ok,
        answer_good head stamp t (line here e ∷ past) (line here e ∷ story) d (story_turn head stamp t (e ∷ []) past story of_target) serves
            owes did own new
            (λ x done k i. absurd (subst (λ (ls : List Lock). In k ls) (ap (λ (y : Deed). y.reply.locks) (only_it x done) ∙ bare) i))
            slot is,
      ) in
      (good, serves_lines head stamp t (e ∷ replies d ∷ []) past story v (plain, (tt, tt)) good h)

-- ---- calling back

module _ (head : Head) (stamp : Stamp) (t : ℕ) (above : 0 < t) where
  abbrev there : At
  there = turn stamp (node.Target t)

  -- of the state that the row reads, while some of them are called back already
  blocks_good : (v : Target) (l : Lock) (locks : List Lock) (past story : List Line) → IsServing head.osts story → Settled past → v.boot
      ≡ (server_of head.osts story).boot → Rises locks
      → ((k : Lock) → In k locks → In k (server_of head.osts story).granted)
      → ((k : Lock) → In k locks → is_called k.cookie v.called ≡ is_called k.cookie (server_of head.osts story).called)
      → In l (server_of head.osts story).queued → ((k : Lock) → In k locks → (l.resource ≡ k.resource) × (conflict l.ask k.ask ≡ true))
      → GoodAt head stamp t past story (blocks v locks)
  blocks_good v l [] past story serves settled boot rises granted same queued way = settled
  blocks_good v l (k ∷ locks) past story serves settled boot rises granted same queued way =
      cond_both (is_called k.cookie v.called) (blocks v locks) (Block c ∷ block_of v k ∷ blocks v locks)
      (λ (es : List Entry). GoodAt head stamp t past story es)
      (λ e. blocks_good v l locks past story serves settled boot rises.1 (λ m i. granted m (inr i)) (λ m i. same m (inr i)) queued
      (λ m i. way m (inr i)))
      (λ e. (
        (
          owes_nothing past there (Block c) settled,
          tt,
          inr (
            above,
            record {
              serves = serves;
              lock = k;
              granted = granted k (inl refl);
              of_cookie = refl;
              of_life = refl;
              new = sym (same k (inl refl)) ∙ e;
              waiting = l;
              queued = queued;
              on = (way k (inl refl)).0;
              conflicts = (way k (inl refl)).1;
            },
          ),
        ),
        (
          (
            tt,
            tt,
            record {
              serves = serves;
              lock = k;
              granted = granted k (inl refl);
              of_life = refl;
              of_boot = boot;
              of_cookie = refl;
              to = refl;
              called = called_now k.cookie (server_of head.osts story).called c refl;
            },
          ),
          blocks_good v l locks (line there (block_of v k) ∷ line there (Block c) ∷ past)
              (line there (block_of v k) ∷ line there (Block c) ∷ story) serves tt boot rises.1 (λ m i. granted m (inr i))
              (λ m i. same m (inr i) ∙ sym (called_beside m.cookie (server_of head.osts story).called c
              (in_above k.cookie.0 locks m rises.0 i)))
              queued (λ m i. way m (inr i)),
        ),
      ))
    where
      c : Called
      c = called v k

  block_lead : (past story : List Line) (v : Target) (l : Lock) → story ≡ only t past → Settled past → Serving head t v story
      → In l v.waiting → Leads head stamp t past story v (blocks v (conflicting v l))
  block_lead past story v l of_target settled h queued =
      let good = blocks_good v l (conflicting v l) past story (serving_is head t v story h) settled a.boot
      (rises_filter way (locks_on l.resource v.granted) (rises_filter (λ (k : Lock). same_resource k.resource l.resource) v.granted
      (subst Rises (sym a.granted) a.rises)))
      (λ k i. subst (λ (ls : List Lock). In k ls) a.granted (among k i).0) (λ k i. ap (is_called k.cookie) a.called)
      (subst (λ (ls : List Lock). In l ls) a.waiting queued)
      (λ k i. (sym (among k i).1, (in_filter way k (locks_on l.resource v.granted) i).1)) in
      (good, serves_lines head stamp t (blocks v (conflicting v l)) past story v (plain_blocks v (conflicting v l)) good h)
    where
      a : Alike head.osts t v (server_of head.osts story)
      a = h.alike

      way : Lock → Bool
      way k = conflict l.ask k.ask

      among : (k : Lock) → In k (conflicting v l) → In k v.granted × (k.resource ≡ l.resource)
      among k i = on_resource l.resource k v.granted (in_filter way k (locks_on l.resource v.granted) i).0

  blocks_go_lead : (ls : List Lock) (past story : List Line) (v : Target) → story ≡ only t past → Settled past → Serving head t v story
      → ((l : Lock) → In l ls → In l v.waiting) → Leads head stamp t past story v (blocks_go ls v)
  blocks_go_lead [] past story v of_target settled h wait = (settled, h)
  blocks_go_lead (l ∷ ls) past story v of_target settled h wait =
      reaches_more head stamp t (Serving head t) (Serving head t) (blocks v (conflicting v l)) (blocks_go ls) past story v of_target
      (block_lead past story v l of_target settled h (wait l (inl refl)))
      (λ e s k. blocks_go_lead ls (with_turn there (blocks v (conflicting v l)) past) (with_turn there (blocks v (conflicting v l)) story)
      (turned v (blocks v (conflicting v l))) e s k
      (λ m i. subst (λ (ws : List Lock). In m ws) (sym (blocks_wait v (conflicting v l) v)) (wait m (inr i))))

  -- all that wait on an object call back what is in their way
  call_lead : (resource : Resource) (past story : List Line) (v : Target) → story ≡ only t past → Settled past → Serving head t v story
      → Leads head stamp t past story v (blocks_go (locks_on resource v.waiting) v)
  call_lead resource past story v of_target settled h = blocks_go_lead (locks_on resource v.waiting) past story v of_target settled h
      (λ l i. (on_resource resource l v.waiting i).0)

  -- ---- granting what waits

  -- one of them: it is granted, and its life told so
  promote_lead : (resource : Resource) (ahead : List Lock) (l : Lock) (later : List Lock) (past story : List Line) (v : Target) → story
      ≡ only t past → Settled past → Serving head t v story
      → locks_on resource v.waiting ≡ ahead ++ l ∷ later → l.resource ≡ resource → has_to_wait v ahead l ≡ false
      → Leads head stamp t past story v (grant_entries v (grown v (ahead ++ later) l))
  promote_lead resource ahead l later past story v of_target settled h queue on free =
      subst (λ (e : Entry). Leads head stamp t past story v (Grant g None ∷ e ∷ [])) (sym (notice_same head.osts t v s a g)) (
        good,
        serves_lines head stamp t (Grant g None ∷ to_life g.ask.who (message.Grant (notice s g)) ∷ []) past story v (tt, (tt, tt)) good h,
      )
    where
      s : Server
      s = server_of head.osts story

      a : Alike head.osts t v s
      a = h.alike

      g : Lock
      g = grown v (ahead ++ later) l

      promotes : PromoteOk head.osts story g
      promotes =
          record {
            serves = serving_is head t v story h;
            shown = h.shown;
            ahead = ahead;
            asked = l;
            later = later;
            queue = ap (λ (r : Resource). locks_on r s.queued) on ∙ ap (locks_on resource) (sym a.waiting) ∙ queue;
            free = sym (way_same head.osts t v s a ahead l) ∙ free;
            of_lock = grown_same head.osts t v s a (ahead ++ later) l;
          }

      good : GoodAt head stamp t past story (Grant g None ∷ to_life g.ask.who (message.Grant (notice s g)) ∷ [])
      good = (
        (owes_nothing past there (Grant g None) settled, above, (above, promotes)),
        (
          (
            (refl, (refl, refl)),
            inl (refl, refl, refl),
            record { serves = serving_is head t v story h; lock = g; granted = in_put g s.granted; is = refl; to = refl; cause = inl refl },
          ),
          tt,
        ),
      )

  grants_lead : (resource : Resource) (later ahead : List Lock) (past story : List Line) (v : Target) → story ≡ only t past → Settled past
      → Serving head t v story → locks_on resource v.waiting ≡ ahead ++ later
      → Leads head stamp t past story v (grants_go ahead later v)
  grants_lead resource [] ahead past story v of_target settled h queue = (settled, h)
  grants_lead resource (l ∷ later) ahead past story v of_target settled h queue =
      by (has_to_wait v ahead l) refl
      (grants_lead resource later (ahead ++ l ∷ []) past story v of_target settled h (queue ∙ sym (append_assoc ahead (l ∷ []) later)))
      (λ e s k. grants_lead resource later ahead (with_turn there es past) (with_turn there es story) (turned v es) e s k left)
    where
      g : Lock
      g = grown v (ahead ++ later) l

      es : List Entry
      es = grant_entries v g

      on : l.resource ≡ resource
      on = (on_resource resource l v.waiting (subst (λ (ls : List Lock). In l ls) (sym queue) (in_right l ahead (l ∷ later) (inl refl)))).1

      rises : Rises (ahead ++ l ∷ later)
      rises = subst Rises queue (rises_filter (λ (k : Lock). same_resource k.resource resource) v.waiting
          (subst Rises (sym h.alike.waiting) h.story.waits_so.rises))

      left : locks_on resource (turned v es).waiting ≡ ahead ++ later
      left = on_without resource g v.waiting ∙ ap (without_lock g) queue ∙ without_middle g ahead l later refl rises

      by : (b : Bool) → has_to_wait v ahead l ≡ b → Leads head stamp t past story v (grants_go (ahead ++ l ∷ []) later v)
          → (with_turn there es story ≡ only t (with_turn there es past) → Settled (with_turn there es past)
          → Serving head t (turned v es) (with_turn there es story)
          → Leads head stamp t (with_turn there es past) (with_turn there es story) (turned v es) (grants_go ahead later (turned v es)))
          → Leads head stamp t past story v (if b then grants_go (ahead ++ l ∷ []) later v else follow v es (grants_go ahead later))
      by true e wait go = wait
      by false e wait go = reaches_more head stamp t (Serving head t) (Serving head t) es (grants_go ahead later) past story v of_target
          (promote_lead resource ahead l later past story v of_target settled h queue on e) go

  -- ---- queues

  pub queue_lead : (resource : Resource) (past story : List Line) (v : Target) → story ≡ only t past → Settled past → Serving head t v story
      → Leads head stamp t past story v (queue_goes resource v)
  queue_lead resource past story v of_target settled h =
      let es = grants_go [] (locks_on resource v.waiting) v in
      reaches_more head stamp t (Serving head t) (Serving head t) es (λ (w : Target). blocks_go (locks_on resource w.waiting) w) past story
      v of_target
      (grants_lead resource (locks_on resource v.waiting) [] past story v of_target settled h refl)
      (λ e s k. call_lead resource (with_turn there es past) (with_turn there es story) (turned v es) e s k)

  queues_go_lead : (rs : List Resource) (past story : List Line) (v : Target) → story ≡ only t past → Settled past → Serving head t v story
      → Leads head stamp t past story v (queues_go rs v)
  queues_go_lead [] past story v of_target settled h = (settled, h)
  queues_go_lead (r ∷ rs) past story v of_target settled h =
      reaches_more head stamp t (Serving head t) (Serving head t) (queue_goes r v) (queues_go rs) past story v of_target
      (queue_lead r past story v of_target settled h)
      (λ e s k. queues_go_lead rs (with_turn there (queue_goes r v) past) (with_turn there (queue_goes r v) story)
      (turned v (queue_goes r v)) e s k)

  pub queues_lead : (past story : List Line) (v : Target) → story ≡ only t past → Settled past → Serving head t v story
      → Leads head stamp t past story v (all_queues_go v)
  queues_lead past story v of_target settled h = queues_go_lead (resources_of v.waiting) past story v of_target settled h

  -- ---- a lock is asked for

  module _ (past story : List Line) (v : Target) (r : RequestOf) (resource : Resource) (mode : Mode) (extent : Extent)
      (of_target : story ≡ only t past) (settled : Settled past) (h : Serving head t v story)
      (waits : In r (server_of head.osts story).waiting) (of_op : r.op ≡ op.Enqueue resource mode extent)
      (entered : (d : Deed) → r.who ≡ d.reply.who → r.xid ≡ d.reply.xid → EntersFor past there d) where
    abbrev server : Server
    server = server_of head.osts story

    abbrev asked_lock : Lock
    asked_lock = lock_asked server r resource mode extent

    abbrev Room : Type 0
    Room = server.cookie + 1 ≤ server.boot * 4294967296 + 4294967295

    some_deed : (d x : Deed) → Some d ≡ Some x → x ≡ d
    some_deed d x e = cc

    given_lead : has_to_wait v (locks_on resource v.waiting) (lock_for v r resource mode extent) ≡ false → Room
        → Leads head stamp t past story v (row_granted v there r
        (grown v (locks_on resource v.waiting) (lock_for v r resource mode extent)))
    given_lead free room =
        subst (Leads head stamp t past story v) (sym (granted_same head.osts t v server h.alike there r resource mode extent)) (
        deed_lead head stamp t past story v e d of_target h tt (
          owes_nothing past there e settled,
          inr (above, entered d refl refl),
          inr (
            above,
            record {
              serves = serving_is head t v story h;
              shown = h.shown;
              room = room;
              request = r;
              waits = waits;
              resource = resource;
              mode = mode;
              extent = extent;
              of_op = of_op;
              free = asks_way head.osts t v server h.alike r resource mode extent false free;
              of_lock = refl;
              is = refl;
            },
          ),
        )
        (refl, refl) refl refl (λ x did. some_deed d x did) tt refl (slot_answered d (slot_of r.who r.tag story))
        (serving_is head t v story h) refl
        )
      where
        l : Lock
        l = grown_by server (locks_on resource server.queued) asked_lock

        d : Deed
        d = told_on server there r none [] (told.Granted l.cookie (extent_of l) (size_at server resource))

        e : Entry
        e = Grant l (Some d)

    waits_lead : has_to_wait v (locks_on resource v.waiting) (lock_for v r resource mode extent) ≡ true → Room
        → Leads head stamp t past story v (row_waiting v there r (lock_for v r resource mode extent))
    waits_lead busy room =
        subst (Leads head stamp t past story v) (sym (waits_same head.osts t v server h.alike there r resource mode extent)) (
        reaches_more head stamp t (Serving head t) (Serving head t) (e ∷ replies d ∷ [])
        (λ (w : Target). blocks_go (locks_on resource w.waiting) w) past story v of_target
        (deed_lead head stamp t past story v e d of_target h tt (
          owes_nothing past there e settled,
          (above, entered d refl refl),
          (
            above,
            record {
              serves = serving_is head t v story h;
              shown = h.shown;
              room = room;
              request = r;
              waits = waits;
              resource = resource;
              mode = mode;
              extent = extent;
              of_op = of_op;
              busy = asks_way head.osts t v server h.alike r resource mode extent true busy;
              of_lock = refl;
              is = refl;
            },
          ),
        )
        (refl, refl) refl refl (λ x did. sym did) tt refl (slot_answered d (slot_of r.who r.tag story)) (serving_is head t v story h) refl)
        (λ f q k. call_lead resource (with_turn there (e ∷ replies d ∷ []) past) (with_turn there (e ∷ replies d ∷ []) story)
        (turned v (e ∷ replies d ∷ [])) f q k)
        )
      where
        d : Deed
        d = told_on server there r none [] (told.Waiting asked_lock.cookie)

        e : Entry
        e = Wait asked_lock d

    -- the numbers at the end of the turn leave room for its cookie
    given_room : High v (row_granted v there r (grown v (locks_on resource v.waiting) (lock_for v r resource mode extent))) → Room
    given_room high = let top = high.1 in let boot = h.alike.boot in let cookie = h.alike.cookie in omega (arith, top, boot, cookie)

    waits_room : High v (row_waiting v there r (lock_for v r resource mode extent)) → Room
    waits_room high =
        let l = lock_for v r resource mode extent in
        let d = answered v there r (told.Waiting l.cookie) in
        let es = Wait l d ∷ replies d ∷ [] in
        let w = turned v es in
        let end : HighAt (turned w (blocks_go (locks_on resource w.waiting) w)) =
        subst HighAt (turned_more es (blocks_go (locks_on resource w.waiting) w) v) high in
        let leaves = blocks_go_leave (locks_on resource w.waiting) w in
        let top = end.1 in
        let same = leaves.3 in
        let still = leaves.2 in
        let boot = h.alike.boot in
        let cookie = h.alike.cookie in
        omega (arith, top, same, still, boot, cookie)

    pub enqueue_lead : High v (row_enqueue v there r (lock_for v r resource mode extent))
        → Leads head stamp t past story v (row_enqueue v there r (lock_for v r resource mode extent))
    enqueue_lead = by (has_to_wait v (locks_on resource v.waiting) (lock_for v r resource mode extent)) refl
      where
        waiting : List Entry
        waiting = row_waiting v there r (lock_for v r resource mode extent)

        granted : List Entry
        granted = row_granted v there r (grown v (locks_on resource v.waiting) (lock_for v r resource mode extent))

        by : (b : Bool) → has_to_wait v (locks_on resource v.waiting) (lock_for v r resource mode extent) ≡ b
            → High v (if b then waiting else granted) → Leads head stamp t past story v (if b then waiting else granted)
        by true e high = waits_lead e (waits_room high)
        by false e high = given_lead e (given_room high)
