-- A target of the whole table that serves, and what the guards speak of: both stay alike by each entry of its own.
use Rattle.std.proofs.Common.{◌≡◌, ℕ, ◌<◌, true, List, [], ◌∷◌, ◌++◌, Some, None, refl, sym, ap, ◌∙◌, arith}
use Rattle.std.specs.Prelude.{nat_eq, max, filter, not}
use Rattle.lu_base.specs.declared.ids.Txn.{Txn as TxnOf}
use Rattle.lu_base.specs.declared.locks.Lock.{Lock}
use Rattle.lu_base.specs.declared.locks.Resource.{Resource}
use Rattle.lu_msg.specs.declared.operations.Op.{Op}
use Rattle.lu_msg.specs.declared.operations.Op.TheVariants as op
use Rattle.lu_msg.specs.declared.commits.Transaction.{Transaction}
use Rattle.lu_msg.specs.declared.messages.Request.{Request as RequestOf}
use Rattle.lu_spec_machine.specs.Footprint.{empty, after as tree_after}
use Rattle.lu_spec_machine.specs.Objects.{Object}
use Rattle.lu_spec_entries.specs.Carried.{Deed, Contents, Called, Glimpse}
use Rattle.lu_spec_entries.specs.Words.{Act, Txn, Grant, Wait, Answers, Asks, Ends, Block, Release, Enters}
use Rattle.lu_spec_target.specs.Locks.{with_lock, without_lock, called_without, without_request, same_glimpse}
use Rattle.lu_spec_target.specs.States.{Target, after}
use Rattle.lu_spec_target.specs.Stored.{done_by, operation_of, transaction_of}
use Rattle.lu_proof_lawful.specs.Covered.TargetStates.{Server, next_number, server_after}
use Rattle.lu_proof_lawful.proofs.Preconditions.LockLists.{Rises, rises_with, rises_all, rises_filter}
use Rattle.lu_proof_lawful.proofs.Preconditions.TargetStory.{numbered}

-- at the metadata target no lock waits, and no glimpse for a holder
abbrev pub IsIdle : ℕ → Server → Type 0
IsIdle t s = t ≡ 0 → (s.queued ≡ []) × (s.glimpses ≡ [])

-- one of the whole table, and what the guards speak of
abbrev pub Alike : (osts t : ℕ) → Target → Server → Type 0
Alike osts t v s =
    record {
      id : v.setting.id ≡ t;
      osts : v.setting.osts ≡ osts;
      up : v.up ≡ true;
      boot : v.boot ≡ s.boot;
      closed : v.closed ≡ v.boot;
      number : v.number ≡ numbered s;
      cookie : v.cookie ≡ s.cookie;
      tree : v.contents.tree ≡ s.tree;
      log : v.log ≡ s.log;
      committed : v.committed ≡ s.committed.0;
      granted : v.granted ≡ s.granted;
      waiting : v.waiting ≡ s.queued;
      called : v.called ≡ s.called;
      queue : v.queue ≡ s.waiting;
      glimpses : v.glimpses ≡ s.glimpses;
      objects : v.contents.objects ≡ s.objects;
      names : IsIdle t s;
      rises : Rises s.granted;
    }

-- ---- one entry of its own

-- an operation on an object changes no tree
done_tree : (osts : ℕ) (c : Contents) (d : Deed) (o : Op) → d.op ≡ o → (done_by osts (transaction_of d) c o).tree
    ≡ tree_after osts c.tree (operation_of (transaction_of d))
done_tree osts c d (op.Put r cookie at bytes) is = ap (λ (x : Op). tree_after osts c.tree
    (record { number = d.reply.txn; who = d.reply.who; op = x })) (sym is)
done_tree osts c d (op.Cut r cookie size) is = ap (λ (x : Op). tree_after osts c.tree
    (record { number = d.reply.txn; who = d.reply.who; op = x })) (sym is)
done_tree osts c d o is = refl

-- nor one on names an object
done_objects : (osts : ℕ) (c : Contents) (t : Transaction) (o : Op) → (done_by osts t c o).objects
    ≡ (done_by 0 t (record { tree = empty; objects = c.objects }) o).objects
done_objects osts c t (op.Put r cookie at bytes) = refl
done_objects osts c t (op.Cut r cookie size) = refl
done_objects osts c t o = refl

module _ (osts t : ℕ) (v : Target) (s : Server) (h : Alike osts t v s) where
  pub alike_enters : (r : RequestOf) → Alike osts t (after v (Enters r)) (server_after osts s (Enters r))
  alike_enters r =
      record {
        id = h.id;
        osts = h.osts;
        up = h.up;
        boot = h.boot;
        closed = h.closed;
        number = h.number;
        cookie = h.cookie;
        tree = h.tree;
        log = h.log;
        committed = h.committed;
        granted = h.granted;
        waiting = h.waiting;
        called = h.called;
        queue = ap (λ (rs : List RequestOf). rs ++ r ∷ []) h.queue;
        glimpses = h.glimpses;
        objects = h.objects;
        names = h.names;
        rises = h.rises;
      }

  pub alike_act : (d : Deed) → Alike osts t (after v (Act d)) (server_after osts s (Act d))
  alike_act d =
      record {
        id = h.id;
        osts = h.osts;
        up = h.up;
        boot = h.boot;
        closed = h.closed;
        number = h.number;
        cookie = rw h.cookie refl;
        tree = h.tree;
        log = h.log;
        committed = h.committed;
        granted = rw h.granted refl;
        waiting = h.waiting;
        called = h.called;
        queue = ap (without_request d) h.queue;
        glimpses = h.glimpses;
        objects = h.objects;
        names = h.names;
        rises = rises_all d.reply.locks s.granted h.rises;
      }

  pub alike_txn : (d : Deed) → d.reply.txn ≡ next_number s → Alike osts t (after v (Txn d)) (server_after osts s (Txn d))
  alike_txn d number =
      record {
        id = h.id;
        osts = h.osts;
        up = h.up;
        boot = h.boot;
        closed = h.closed;
        number = ap (λ (x : TxnOf). x.0) number;
        cookie = h.cookie;
        tree = done_tree v.setting.osts v.contents d d.op refl ∙ rw (h.osts, h.tree) refl;
        log = ap (λ (g : List Deed). g ++ d ∷ []) h.log;
        committed = h.committed;
        granted = h.granted;
        waiting = h.waiting;
        called = h.called;
        queue = ap (without_request d) h.queue;
        glimpses = h.glimpses;
        objects = done_objects v.setting.osts v.contents (transaction_of d) d.op
            ∙ ap (λ (os : List (Resource × Object)). (done_by 0 (transaction_of d) (record { tree = empty; objects = os }) d.op).objects)
            h.objects;
        names = h.names;
        rises = h.rises;
      }

  pub alike_grant : (lock : Lock) (d : Deed) → Alike osts t (after v (Grant lock (Some d))) (server_after osts s (Grant lock (Some d)))
  alike_grant lock d =
      record {
        id = h.id;
        osts = h.osts;
        up = h.up;
        boot = h.boot;
        closed = h.closed;
        number = h.number;
        cookie = ap (λ (n : ℕ). max n lock.cookie.0) h.cookie;
        tree = h.tree;
        log = h.log;
        committed = h.committed;
        granted = ap (with_lock lock) h.granted;
        waiting = ap (without_lock lock) h.waiting;
        called = h.called;
        queue = ap (without_request d) h.queue;
        glimpses = h.glimpses;
        objects = h.objects;
        names = λ z. (ap (without_lock lock) (h.names z).0, (h.names z).1);
        rises = rises_with lock s.granted h.rises;
      }

  pub alike_promote : (lock : Lock) → Alike osts t (after v (Grant lock None)) (server_after osts s (Grant lock None))
  alike_promote lock =
      record {
        id = h.id;
        osts = h.osts;
        up = h.up;
        boot = h.boot;
        closed = h.closed;
        number = h.number;
        cookie = ap (λ (n : ℕ). max n lock.cookie.0) h.cookie;
        tree = h.tree;
        log = h.log;
        committed = h.committed;
        granted = ap (with_lock lock) h.granted;
        waiting = ap (without_lock lock) h.waiting;
        called = h.called;
        queue = h.queue;
        glimpses = h.glimpses;
        objects = h.objects;
        names = λ z. (ap (without_lock lock) (h.names z).0, (h.names z).1);
        rises = rises_with lock s.granted h.rises;
      }

  pub alike_wait : 0 < t → (lock : Lock) (d : Deed) → Alike osts t (after v (Wait lock d)) (server_after osts s (Wait lock d))
  alike_wait high lock d =
      record {
        id = h.id;
        osts = h.osts;
        up = h.up;
        boot = h.boot;
        closed = h.closed;
        number = h.number;
        cookie = ap (λ (n : ℕ). max n lock.cookie.0) h.cookie;
        tree = h.tree;
        log = h.log;
        committed = h.committed;
        granted = h.granted;
        waiting = ap (λ (ls : List Lock). ls ++ lock ∷ []) h.waiting;
        called = h.called;
        queue = ap (without_request d) h.queue;
        glimpses = h.glimpses;
        objects = h.objects;
        names = λ z. absurd (omega (arith, high, z));
        rises = h.rises;
      }

  pub alike_answers : (d : Deed) → Alike osts t (after v (Answers d)) (server_after osts s (Answers d))
  alike_answers d =
      record {
        id = h.id;
        osts = h.osts;
        up = h.up;
        boot = h.boot;
        closed = h.closed;
        number = h.number;
        cookie = h.cookie;
        tree = h.tree;
        log = h.log;
        committed = h.committed;
        granted = h.granted;
        waiting = h.waiting;
        called = h.called;
        queue = ap (without_request d) h.queue;
        glimpses = h.glimpses;
        objects = h.objects;
        names = h.names;
        rises = h.rises;
      }

  pub alike_asks : 0 < t → (g : Glimpse) → Alike osts t (after v (Asks g)) (server_after osts s (Asks g))
  alike_asks high g =
      record {
        id = h.id;
        osts = h.osts;
        up = h.up;
        boot = h.boot;
        closed = h.closed;
        number = h.number;
        cookie = h.cookie;
        tree = h.tree;
        log = h.log;
        committed = h.committed;
        granted = h.granted;
        waiting = h.waiting;
        called = h.called;
        queue = h.queue;
        glimpses = ap (λ (gs : List Glimpse). gs ++ g ∷ []) h.glimpses;
        objects = h.objects;
        names = λ z. absurd (omega (arith, high, z));
        rises = h.rises;
      }

  pub alike_ends : (g : Glimpse) → Alike osts t (after v (Ends g)) (server_after osts s (Ends g))
  alike_ends g =
      record {
        id = h.id;
        osts = h.osts;
        up = h.up;
        boot = h.boot;
        closed = h.closed;
        number = h.number;
        cookie = h.cookie;
        tree = h.tree;
        log = h.log;
        committed = h.committed;
        granted = h.granted;
        waiting = h.waiting;
        called = h.called;
        queue = h.queue;
        glimpses = ap (filter (λ (x : Glimpse). not (same_glimpse g x))) h.glimpses;
        objects = h.objects;
        names = λ z. ((h.names z).0, ap (filter (λ (x : Glimpse). not (same_glimpse g x))) (h.names z).1);
        rises = h.rises;
      }

  pub alike_block : (called : Called) → Alike osts t (after v (Block called)) (server_after osts s (Block called))
  alike_block called =
      record {
        id = h.id;
        osts = h.osts;
        up = h.up;
        boot = h.boot;
        closed = h.closed;
        number = h.number;
        cookie = h.cookie;
        tree = h.tree;
        log = h.log;
        committed = h.committed;
        granted = h.granted;
        waiting = h.waiting;
        called = ap (λ (cs : List Called). cs ++ called ∷ []) h.called;
        queue = h.queue;
        glimpses = h.glimpses;
        objects = h.objects;
        names = h.names;
        rises = h.rises;
      }

  pub alike_release : (lock : Lock) → Alike osts t (after v (Release lock)) (server_after osts s (Release lock))
  alike_release lock =
      record {
        id = h.id;
        osts = h.osts;
        up = h.up;
        boot = h.boot;
        closed = h.closed;
        number = h.number;
        cookie = h.cookie;
        tree = h.tree;
        log = h.log;
        committed = h.committed;
        granted = ap (without_lock lock) h.granted;
        waiting = h.waiting;
        called = ap (called_without lock) h.called;
        queue = h.queue;
        glimpses = h.glimpses;
        objects = h.objects;
        names = h.names;
        rises = rises_filter (λ k. not (nat_eq k.cookie.0 lock.cookie.0)) s.granted h.rises;
      }
