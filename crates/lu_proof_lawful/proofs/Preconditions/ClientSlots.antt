-- The calls of a client in a covered run that began or were answered in a turn, or got the lock that they waited for: one asks, or is told
-- what it
-- asked, what is known, or that nothing is left to write back; a call on bytes looks for its locks, and a glimpse asks of one object after
-- another. Each line is allowed.
use Rattle.std.proofs.Common.{◌≡◌, ℕ, ◌<◌, List, [], ◌∷◌, ◌⊎◌, inl, inr, ⊎_elim, Option, Some, None, refl, sym, subst, ap, ◌∙◌, Bool, true}
use Rattle.std.proofs.Common.{false}
use Rattle.std.specs.Prelude.{nat_eq}
use Rattle.lu_base.specs.declared.ids.At.{At}
use Rattle.lu_base.specs.declared.ids.Node.TheVariants.{Client}
use Rattle.lu_base.specs.declared.ids.Stamp.{Stamp}
use Rattle.lu_msg.specs.declared.calls.Call.{Call}
use Rattle.lu_msg.specs.declared.calls.Call.TheVariants as call
use Rattle.lu_msg.specs.declared.operations.Op.{Op}
use Rattle.lu_msg.specs.declared.operations.Op.TheVariants as op
use Rattle.lu_held.specs.declared.names.LockName.{LockName}
use Rattle.lu_spec_entries.specs.Carried.{HandleFile, Kind, Narrow, Stats, Glimpses, Asked, Work, Plain, Running, Writes, Cuts}
use Rattle.lu_spec_entries.specs.Words.{Entry, Told, Queues, Stands, Pins, Unpins, Line, line, with_turn, WritesBack}
use Rattle.lu_spec_client.specs.Advances.{queued_for, unpins}
use Rattle.lu_spec_client.specs.Caches.{held_at, patches_at}
use Rattle.lu_spec_client.specs.Calls.{calls_at}
use Rattle.lu_spec_client.specs.Glimpses.{glimpses}
use Rattle.lu_spec_client.specs.Known.{Known, KnownFile, names_of}
use Rattle.lu_spec_client.specs.Slots.{goes, goes_on, slots_go}
use Rattle.lu_spec_client.specs.Starts.{looks_at, starts_bytes, work_on, pins, tells_known, stats, starts_flush, starts_glimpse, starts}
use Rattle.lu_spec_client.specs.States.{Client as ClientState, store_at}
use Rattle.lu_spec_client.specs.Stripes.{stripes}
use Rattle.lu_spec_client.specs.Wants.{wants_of}
use Rattle.lu_proof_lawful.specs.Covered.Calls.{begun, call_at, operation_of, becomes, life_at}
use Rattle.lu_proof_lawful.specs.Covered.Known.{notes_at, known_answer, known_file}
use Rattle.lu_spec_run.specs.Heads as table
use Rattle.lu_spec_run.specs.Runs.{client_of}
use Rattle.lu_proof_lawful.proofs.Preconditions.Lists.{self, turn, turn_more}
use Rattle.lu_proof_lawful.proofs.Preconditions.Covers.{EntriesCovered}
use Rattle.lu_proof_lawful.proofs.Preconditions.ClientLines.{held_once, IsNames, becomes_names}
use Rattle.lu_proof_lawful.proofs.Preconditions.ClientKnown.{AllUsable, usable_unmarked}
use Rattle.std.proofs.lemmas.Bool.{eqb-true}
use Rattle.lu_spec_client.specs.WriteBack.{flush_from}
use Rattle.lu_proof_lawful.specs.Covered.Runs.{IsOnBytes}
use Rattle.lu_proof_lawful.proofs.Preconditions.Guards.{IsAlone, OfFlush, OwesQueued, OwesBegun, Owes, StartsRead, StartsStat, Starts}
use Rattle.lu_proof_lawful.proofs.Preconditions.Turns.{BeginQuiet, Settled}
use Rattle.lu_proof_lawful.proofs.Preconditions.ClientHandles.{Tied, told_tied}
use Rattle.lu_proof_lawful.proofs.Preconditions.CallStands.{IdleAt, Movable, idle_moves}
use Rattle.lu_proof_lawful.proofs.Preconditions.ClientGood.{Good, Rested, the_head, adds, call_line, Keeps}
use Rattle.lu_proof_lawful.proofs.Preconditions.CallMoves.{kept_start, kept_asks, Ready, Left, left_told}
use Rattle.lu_proof_lawful.proofs.Preconditions.ClientCalls.{on_small, Starting, IsNoClose, starts_so}
use Rattle.lu_proof_lawful.proofs.Preconditions.ClientPasses.{Visited, visited_left, visited_went, ComesToRest, moves_go}
use Rattle.lu_proof_lawful.proofs.Preconditions.ClientFlushes.{FlushLine, stood_by, flush_settled, flush_good}
use Rattle.lu_proof_lawful.proofs.Preconditions.ClientFresh.{Pending, slots_moved}
use Rattle.lu_proof_lawful.proofs.Preconditions.ClientTakes.{Seeks, ReadOf, StatFor, ChangeOf}
use Rattle.lu_proof_lawful.proofs.Preconditions.ClientWorks.{bytes_begin}
use Rattle.lu_proof_lawful.proofs.Preconditions.ClientSizes.{glimpse_begins}
use Rattle.lu_proof_lawful.proofs.Preconditions.ClientStats.{known_pins, pins_ready, pins_due, stat_goes}
use Rattle.lu_proof_lawful.proofs.Preconditions.ClientStoryGuards.{AsksInOrder}
use Rattle.lu_proof_lawful.proofs.Preconditions.ClientReads.{IsOnBytes as IsOnBytesKind}

-- one on bytes has a file
on_file : {R : Type 0} (wanted : Call) (file : Option HandleFile) → ((f : Option HandleFile) → operation_of f wanted ≡ None)
    → ((o : Op) × (operation_of file wanted ≡ Some o)) ⊎ (IsOnBytes wanted × ((f : HandleFile) × (file ≡ Some f)))
    → ((f : HandleFile) → file ≡ Some f → R) → R
on_file wanted file none (inl q) more = absurd (let e : None ≡ Some q.0 = sym (none file) ∙ q.1 in cc)
on_file wanted file none (inr q) more = more q.1.0 q.1.1

-- what is asked on names is no lock on a range
names_order : (o : Op) → IsNames o → AsksInOrder o
names_order (op.Enqueue resource mode extent) n = absurd n
names_order o n = tt

module _ (head : table.Head) (c : ℕ) (stamp : Stamp) where
  abbrev at : At
  at = turn stamp (Client c)

  -- ---- lines of flushes that wait leave what is owed

  pub of_flush : (slot : ℕ) (e : Entry) → FlushLine slot e → OfFlush e
  of_flush slot (Stands s r) k = k.1
  of_flush slot (WritesBack resource change) k = tt
  of_flush slot (Queues t q) k = k
  of_flush slot e k = absurd k

  pub flush_owes : (slot : ℕ) (p : List Line) (e x : Entry) → FlushLine slot e → Owes p at x → Owes (line at e ∷ p) at x
  flush_owes slot p (Stands s r) x k owes = stood_by r.stage (Owes p at x) (at ≡ at) s x k.1 owes
  flush_owes slot p (WritesBack resource change) x k owes = owes
  flush_owes slot p (Queues t q) x k owes = subst (λ (o : Option ℕ). OwesQueued o (Owes p at x)) (sym k) owes
  flush_owes slot p e x k owes = absurd k

  flush_due : (wanted : Call) (slot : ℕ) (e : Entry) → OfFlush e → OwesBegun (at ≡ at) slot Plain wanted e
  flush_due (call.Close h) slot e k = tt
  flush_due (call.Read h o n) slot e k = (refl, inr k)
  flush_due (call.Write h o bs) slot e k = tt
  flush_due (call.Cut h n) slot e k = tt
  flush_due (call.Stat path) slot e k = (refl, inr k)
  flush_due (call.Flush h) slot e k = tt
  flush_due (call.Glimpse h) slot e k = tt
  flush_due x slot e k = (refl, inr k)

  abbrev pub IdleBut : ℕ → List Line → Type 0
  IdleBut slot p = (s : ℕ) → (s ≡ slot → ⊥) → IdleAt c p s

  -- ---- a call that has begun

  -- it has asked nothing yet, and what it does next is due
  record Begun (slot : ℕ) (wanted : Call) (file : Option HandleFile) (p : List Line) : Type 0 where
    call : call_at c slot p ≡ Some (begun at wanted file Plain)
    due : (e : Entry) → OwesBegun (at ≡ at) slot Plain wanted e → Owes p at e
    quiet : BeginQuiet Plain wanted → Settled p

  -- it is on names, or on the bytes of a file; one that may wait, or changes bytes, owes nothing
  pub record HasBegun (slot : ℕ) (wanted : Call) (file : Option HandleFile) (p : List Line) : Type 0 where
    pub good : Good head c at p
    pub small : slot < 4
    pub call : call_at c slot p ≡ Some (begun at wanted file Plain)
    pub others : (s : ℕ) → (s ≡ slot → ⊥) → IdleAt c p s
    pub handles : Tied c p
    pub due : (e : Entry) → OwesBegun (at ≡ at) slot Plain wanted e → Owes p at e
    pub quiet : BeginQuiet Plain wanted → Settled p
    pub does : ((o : Op) × (operation_of file wanted ≡ Some o)) ⊎ (IsOnBytes wanted × ((f : HandleFile) × (file ≡ Some f)))

  -- what one on names does next is due
  stat_due : (slot : ℕ) (e : Entry) → Starts slot Plain e → StartsStat slot e
  stat_due slot (Stands t r) s = absurd s
  stat_due slot e s = s

  due_names : (slot : ℕ) (x : Call) (file : Option HandleFile) (o : Op) (e : Entry) → operation_of file x ≡ Some o → Starts slot Plain e
      → OwesBegun (at ≡ at) slot Plain x e
  due_names slot (call.Close h) file o e becomes s = tt
  due_names slot (call.Read h offset count) file o e becomes s = absurd (cc)
  due_names slot (call.Write h offset bytes) file o e becomes s = tt
  due_names slot (call.Cut h size) file o e becomes s = tt
  due_names slot (call.Stat path) file o e becomes s = (refl, inl (stat_due slot e s))
  due_names slot (call.Flush h) file o e becomes s = tt
  due_names slot (call.Glimpse h) file o e becomes s = tt
  due_names slot x file o e becomes s = (refl, inl s)

  alone : (x : Call) (file : Option HandleFile) (p : List Line) → IsNoClose x → IsAlone p c x file
  alone (call.Close h) file p n = absurd n
  alone x file p n = tt

  module _ (slot : ℕ) (wanted : Call) (file : Option HandleFile) (small : slot < 4) where
    abbrev r : Running
    r = begun at wanted file Plain

    abbrev Wait : List Line → Type 0
    Wait p = Begun slot wanted file p

    keeps : (s : ℕ) → (s ≡ slot → ⊥) → (p : List Line) (e : Entry) → FlushLine s e → call_at c slot (line at e ∷ p) ≡ call_at c slot p
        → Wait p → Wait (line at e ∷ p)
    keeps s n p e k same b = record {
      call = same ∙ b.call;
      due = λ x w. flush_owes s p e x k (b.due x w);
      quiet =
          λ q. flush_settled head c stamp s p e k (b.quiet q);
    }

    pays : (s : ℕ) → (s ≡ slot → ⊥) → (p : List Line) (e : Entry) → FlushLine s e → Wait p → Owes p at e
    pays s n p e k b = b.due e (flush_due wanted slot e (of_flush s e k))

    abbrev Stood : List Line → Type 0
    Stood p = Pending head c stamp slot Wait keeps pays p

    ready : (p : List Line) → Stood p → Ready head c stamp slot r p p
    ready p h = record {
      good = h.good;
      small = small;
      call = h.holds.call;
      handles = h.handles;
      still = λ q. absurd (cc);
      kept =
          kept_start head c stamp slot p;
    }

    goes_here : (p : List Line) → Stood p → goes at slot (client_of head c p) ≡ starts at slot wanted r (client_of head c p)
    goes_here p h = ap (λ (x : Option Running). goes_on at slot (client_of head c p) x) (on_small c slot p small ∙ h.holds.call)

    abbrev Moved : List Line → List Entry → Type 0
    Moved p es = EntriesCovered es → Visited head c stamp slot p (with_turn at es p)

    -- where these are its lines
    begun_so : ((p : List Line) → Stood p → Moved p (starts at slot wanted r (client_of head c p))) → (p : List Line)
        → HasBegun slot wanted file p → ComesToRest head c stamp p
    begun_so moves p b =
        slots_moved head c stamp slot Wait keeps pays (λ q h. subst (Moved q) (sym (goes_here q h)) (moves q h)) p small
        (record { good = b.good; others = b.others; handles = b.handles; holds = record { call = b.call; due = b.due; quiet = b.quiet } })

    -- ---- one on names

    module _ (o : Op) (becomes_it : operation_of file wanted ≡ Some o) (no_close : IsNoClose wanted) where
      owes_names : (p : List Line) → Stood p → (e : Entry) → Starts slot Plain e → Owes p at e
      owes_names p h e s = h.holds.due e (due_names slot wanted file o e becomes_it s)

      -- it asks
      queue_good : (p : List Line) → Stood p → known_answer (notes_at c p) wanted ≡ None → known_file (notes_at c p) wanted ≡ None
          → Moved p (Queues 0 (queued_for slot o) ∷ [])
      queue_good p h unknown unknown_file covered =
          visited_went head c stamp slot r p p1 h.holds.call no_close (record {
            good =
                adds head c stamp p e h.good (owes_names p h e refl)
                (inl (record {
                  slot = slot;
                  serves = refl;
                  running = r;
                  call = h.holds.call;
                  asks = inl (record {
                    good = refl;
                    new = refl;
                    names = refl;
                    becomes = becomes_it;
                    unknown = unknown;
                    unknown_file =
                        unknown_file;
                    alone = alone wanted file p no_close;
                  });
                })) (λ t q. order) tt refl;
            settled = tt;
            handles = h.handles;
            kept = kept_asks head c stamp slot 0 o p;
            own = inr (record {
              now = record r { asking = Asked };
              call = call_line head c stamp slot p e ∙ rw (self slot, h.holds.call) refl;
              same = refl;
              file = refl;
              rests = inl (inl (record { nothing = refl; asked = refl; plain = refl; names = (o, becomes_it) }));
            });
          })
        where
          e : Entry
          e = Queues 0 (queued_for slot o)

          p1 : List Line
          p1 = line at e ∷ p

          order : AsksInOrder o
          order = names_order o (becomes_names file wanted o becomes_it)

      -- or it pins the locks under which it knows, and is told that
      tell_good : (known : Known) (p : List Line) → Stood p → AllUsable (held_at c p) known.cookies → known_answer (notes_at c p) wanted
          ≡ Some known.answer → Moved p (tells_known at slot r known)
      tell_good known p h usable is covered =
          visited_left head c stamp slot p (with_turn at (tells_known at slot r known) p)
          (subst (Left head c stamp slot p) (sym (turn_more at (pins names) (e ∷ unpins names) p))
          (left_told head c stamp slot at known.answer None names p p1 y.good y.kept
          (pins_due head c stamp (Starts slot Plain) names p (owes_names p h) e refl)
          (inr (inl (record {
            running = r;
            call = y.call;
            new = refl;
            begun = refl;
            known = known_pins head c stamp names p wanted ∙ is;
            of_turn = refl;
            plain = refl;
          })))
          (told_tied c stamp p1 slot at known.answer None r y.call refl y.handles)))
        where
          names : List LockName
          names = names_of known.cookies

          e : Entry
          e = Told slot at known.answer None

          p1 : List Line
          p1 = with_turn at (pins names) p

          y : Ready head c stamp slot r p p1
          y = pins_ready head c stamp (Starts slot Plain) (λ n. tt) slot r names p p (ready p h) (owes_names p h)
              (usable_unmarked (held_at c p) (held_once (the_head head c stamp) c p h.good.grown) known.cookies usable)

      -- a stat that knows all but the size of its file goes on for that
      stat_good : (path : List (List ℕ)) (f : KnownFile) (p : List Line) → wanted ≡ call.Stat path → Stood p
          → known_file (notes_at c p) wanted ≡ Some f → AllUsable (held_at c p) f.cookies
          → Moved p (stats at slot f.fid f.layout (Stats f.mode f.links) (names_of f.cookies) r (store_at c p))
      stat_good path f p is h known usable covered =
          visited_went head c stamp slot r p (with_turn at (stats at slot f.fid f.layout (Stats f.mode f.links) (names_of f.cookies) r
          (store_at c p)) p) h.holds.call no_close
          (stat_goes head c stamp slot r f.fid f.layout f.mode f.links (names_of f.cookies) p p (ready p h)
          (λ e s. h.holds.due e (seeks_stat path is e s))
          (usable_unmarked (held_at c p) (held_once (the_head head c stamp) c p h.good.grown) f.cookies usable) (record {
            stat = record {
              path = path;
              stats = is;
              good = λ q. absurd (cc);
              fid = f.fid;
              mode = f.mode;
              links = f.links;
              layout = f.layout;
              from = inl (record {
                plain = refl;
                new = refl;
                begun = refl;
                file = f;
                known = known;
                of_fid = refl;
                of_mode = refl;
                of_links = refl;
                of_layout = refl;
                pinned = λ m i. i;
              });
            };
            is_kind = refl;
            fid = refl;
            layout = refl;
          }) covered)
        where
          seeks_stat : (path : List (List ℕ)) → wanted ≡ call.Stat path → (e : Entry) → Seeks slot e
              → OwesBegun (at ≡ at) slot Plain wanted e
          seeks_stat path is e s = subst (λ (x : Call). OwesBegun (at ≡ at) slot Plain x e) (sym is) (refl, inl (by e s))
            where
              by : (e : Entry) → Seeks slot e → StartsStat slot e
              by (Pins name) s = tt
              by (Stands t r) s = s
              by (Told t turn answer work) s = s
              by e s = absurd s

      begun_names : (p : List Line) → HasBegun slot wanted file p → ComesToRest head c stamp p
      begun_names = begun_so (λ p h. by p h (starts at slot wanted r (client_of head c p))
          (starts_so at slot wanted r (client_of head c p) o refl becomes_it no_close))
        where
          by : (p : List Line) → Stood p → (es : List Entry) → Starting at slot wanted r (client_of head c p) o es → Moved p es
          by p h es (inl s) = subst (Moved p) (sym s.is) (queue_good p h s.unknown s.unknown_file)
          by p h es (inr (inl s)) = subst (Moved p) (sym s.is) (tell_good s.known p h s.usable s.told)
          by p h es (inr (inr s)) = subst (Moved p) (sym s.is) (stat_good s.path s.file p s.stats h s.known s.usable)

    -- ---- one on the bytes of a file

    seeks_read : (e : Entry) → Seeks slot e → StartsRead slot e
    seeks_read (Pins name) s = tt
    seeks_read (Stands t x) s = s
    seeks_read (Told t turn answer work) s = s
    seeks_read e s = absurd s

  -- it looks for its locks
  module _ (slot : ℕ) (wanted : Call) (file : Option HandleFile) (small : slot < 4) (no_close : IsNoClose wanted) (kind : Kind)
      (f : HandleFile) (bytes : IsOnBytesKind kind)
      (rows : (k : ClientState) → starts at slot wanted (begun at wanted file Plain) k
      ≡ looks_at at slot kind (begun at wanted file Plain) (work_on f.fid f.layout kind) k.store) where
    abbrev call_of : Running
    call_of = begun at wanted file Plain

    begun_bytes : ((p : List Line) → Stood slot wanted file small p → (e : Entry) → Seeks slot e → Owes p at e)
        → ((p : List Line) → Stood slot wanted file small p → ReadOf head c stamp call_of (work_on f.fid f.layout kind) p
        ⊎ StatFor head c stamp call_of [] (work_on f.fid f.layout kind) p
        ⊎ ChangeOf head c stamp call_of (work_on f.fid f.layout kind) p)
        → (p : List Line) → HasBegun slot wanted file p → ComesToRest head c stamp p
    begun_bytes due does =
        begun_so slot wanted file small (λ p h. subst (Moved slot wanted file small p) (sym (rows (client_of head c p)))
        (λ cov.
        visited_went head c stamp slot call_of p (with_turn at (looks_at at slot kind call_of (work_on f.fid f.layout kind) (store_at c p))
        p) h.holds.call no_close
        (bytes_begin head c stamp slot call_of kind f.fid f.layout p p bytes (ready slot wanted file small p h) (due p h) (does p h) cov)))

  begun_read : (slot h offset count : ℕ) (file : Option HandleFile) (p : List Line) → HasBegun slot (call.Read h offset count) file p
      → (f : HandleFile) → file ≡ Some f → ComesToRest head c stamp p
  begun_read slot h offset count file p b f is =
      begun_bytes slot (call.Read h offset count) file b.small tt (Narrow offset count) f tt
      (λ k. ap (starts_bytes at slot (Narrow offset count) (begun at (call.Read h offset count) file Plain) k.store) is)
      (λ q w e s. w.holds.due e (refl, inl (seeks_read slot (call.Read h offset count) file b.small e s)))
      (λ q w. inl (record {
        on = record {
          read = record {
            handle = h;
            offset = offset;
            count = count;
            reads = refl;
            good = λ e. absurd (cc);
            file = f;
            of_file =
                is;
          };
          kind = inl refl;
          fid = refl;
          layout = refl;
        };
        wider = λ o n e. absurd (cc);
        frees = λ n. w.holds.due (Unpins n) (refl, inl tt);
      })) p b

  begun_write : (slot h offset : ℕ) (bytes : List ℕ) (file : Option HandleFile) (p : List Line)
      → HasBegun slot (call.Write h offset bytes) file p → (f : HandleFile) → file ≡ Some f → ComesToRest head c stamp p
  begun_write slot h offset bytes file p b f is =
      begun_bytes slot (call.Write h offset bytes) file b.small tt (Writes offset bytes) f tt
      (λ k. ap (starts_bytes at slot (Writes offset bytes) (begun at (call.Write h offset bytes) file Plain) k.store) is)
      (λ q w e s. w.holds.due e tt)
      (λ q w. inr (inr (record {
        on = inl (record {
          handle = h;
          offset = offset;
          bytes = bytes;
          writes = refl;
          good = λ e. absurd (cc);
          file = f;
          of_file = is;
          kind = refl;
          fid = refl;
          layout = refl;
        });
        pays = λ e. w.holds.due e tt;
      }))) p b

  begun_cut : (slot h size : ℕ) (file : Option HandleFile) (p : List Line) → HasBegun slot (call.Cut h size) file p → (f : HandleFile)
      → file ≡ Some f → ComesToRest head c stamp p
  begun_cut slot h size file p b f is =
      begun_bytes slot (call.Cut h size) file b.small tt (Cuts size) f tt
      (λ k. ap (starts_bytes at slot (Cuts size) (begun at (call.Cut h size) file Plain) k.store) is)
      (λ q w e s. w.holds.due e tt)
      (λ q w. inr (inr (record {
        on = inr (record {
          handle = h;
          size = size;
          cuts = refl;
          good = λ e. absurd (cc);
          file = f;
          of_file = is;
          kind = refl;
          fid = refl;
          layout = refl;
        });
        pays = λ e. w.holds.due e tt;
      }))) p b

  -- a flush goes stripe by stripe
  begun_flush : (slot h : ℕ) (file : Option HandleFile) (p : List Line) → HasBegun slot (call.Flush h) file p → (f : HandleFile) → file
      ≡ Some f → ComesToRest head c stamp p
  begun_flush slot h file p b f is =
      begun_so slot (call.Flush h) file b.small (λ q w. subst (Moved slot (call.Flush h) file b.small q)
      (sym (ap (starts_flush at slot r0 (store_at c q)) is))
      (λ cov.
      visited_went head c stamp slot r0 q (with_turn at (flush_from at slot r0 f (stripes f.layout) (store_at c q)) q) w.holds.call tt
      (flush_good head c stamp slot r0 f h 0 q q (ready slot (call.Flush h) file b.small q w) (w.holds.quiet tt) refl is (λ e. absurd (cc))
      refl refl (inl (refl, refl, refl, refl)) (stripes f.layout) [] refl (λ i j. absurd j) cov))) p b
    where
      r0 : Running
      r0 = begun at (call.Flush h) file Plain

  -- a glimpse asks of one object after another
  begun_glimpse : (slot h : ℕ) (file : Option HandleFile) (p : List Line) → HasBegun slot (call.Glimpse h) file p → (f : HandleFile) → file
      ≡ Some f → ComesToRest head c stamp p
  begun_glimpse slot h file p b f is =
      begun_so slot (call.Glimpse h) file b.small (λ q w. subst (Moved slot (call.Glimpse h) file b.small q)
      (sym (ap (starts_glimpse at slot r0 (store_at c q)) is))
      (λ cov.
      visited_went head c stamp slot r0 q (with_turn at (glimpses at slot (wants_of f.layout f.fid (Glimpses [])) [] r0 w0 (store_at c q))
      q) w.holds.call tt
      (glimpse_begins head c stamp slot r0 f h w0 q q (ready slot (call.Glimpse h) file b.small q w) (w.holds.quiet tt) refl is refl refl
      refl refl refl refl refl cov))) p b
    where
      r0 : Running
      r0 = begun at (call.Glimpse h) file Plain

      w0 : Work
      w0 = work_on f.fid f.layout (Glimpses [])

  -- a close may have to wait
  begun_close : (slot h : ℕ) (file : Option HandleFile) (p : List Line) → HasBegun slot (call.Close h) file p → (f : HandleFile) → file
      ≡ Some f → ComesToRest head c stamp p
  begun_close slot h file p b f is covered = moves_go head c stamp p
      (record { good = b.good; settled = b.quiet tt; moves = moves; handles = b.handles }) covered
    where
      moves : (s : ℕ) → Movable (life_at c p) (call_at c s p)
      moves s = by (nat_eq s slot) refl
        where
          by : (e : Bool) → nat_eq s slot ≡ e → Movable (life_at c p) (call_at c s p)
          by true e =
              subst (λ (u : ℕ). Movable (life_at c p) (call_at c u p)) (sym (eqb-true s slot e))
              (subst (Movable (life_at c p)) (sym b.call) (inr (inr
              (inl (record { handle = h; closes = refl; file = f; of_file = is; plain = refl; new = refl; pins = refl })))))
          by false e =
              idle_moves (life_at c p) (patches_at c p) (calls_at c p) (call_at c s p)
              (b.others s (λ k. let t : nat_eq s slot ≡ true = ap (λ (u : ℕ). nat_eq u slot) k ∙ self slot in absurd (cc)))

  pub has_begun : (slot : ℕ) (wanted : Call) (file : Option HandleFile)
      → Keeps head c stamp (HasBegun slot wanted file) (Rested head c at) (slots_go 5 at)
  has_begun slot (call.Close h) file p b covered = by file refl b.does
    where
      by : (f : Option HandleFile) → file ≡ f → ((o : Op) × (operation_of f (call.Close h) ≡ Some o))
          ⊎ (IsOnBytes (call.Close h) × ((g : HandleFile) × (f ≡ Some g)))
          → Rested head c at (with_turn at (slots_go 5 at (client_of head c p)) p)
      by None is (inl q) = absurd (let e = q.1 in cc)
      by (Some f) is (inl q) = begun_close slot h file p b f is covered
      by f is (inr q) = absurd q.0
  has_begun slot (call.Read h offset count) file p b covered = on_file (call.Read h offset count) file (λ f. refl) b.does
      (λ f is. begun_read slot h offset count file p b f is covered)
  has_begun slot (call.Write h offset bytes) file p b covered =
      on_file (call.Write h offset bytes) file (λ f. refl) b.does (λ f is. begun_write slot h offset bytes file p b f is covered)
  has_begun slot (call.Cut h size) file p b covered = on_file (call.Cut h size) file (λ f. refl) b.does
      (λ f is. begun_cut slot h size file p b f is covered)
  has_begun slot (call.Flush h) file p b covered = on_file (call.Flush h) file (λ f. refl) b.does
      (λ f is. begun_flush slot h file p b f is covered)
  has_begun slot (call.Glimpse h) file p b covered = on_file (call.Glimpse h) file (λ f. refl) b.does
      (λ f is. begun_glimpse slot h file p b f is covered)
  has_begun slot wanted file p b covered =
      ⊎_elim (λ (q : (o : Op) × (operation_of file wanted ≡ Some o)). begun_names slot wanted file b.small q.0 q.1 tt p b covered)
      (λ (q : IsOnBytes wanted × ((f : HandleFile) × (file ≡ Some f))). absurd q.0) b.does
