-- A call on bytes moves: one that begins looks for all that it wants, one whose lock came uses it and looks for the others, and one that
-- looks
-- anew goes on from the locks that it has in use. A glimpse isn't told of here.
use Rattle.std.proofs.Common.{◌≡◌, ℕ, ◌+◌, true, false, List, ◌∷◌, ◌++◌, ◌⊎◌, inl, inr, ⊎_elim, Option, Some, refl, sym, subst, ap, ◌∙◌}
use Rattle.lu_base.specs.declared.ids.Fid.{Fid}
use Rattle.std.specs.Prelude.{map}
use Rattle.lu_base.specs.declared.ids.At.{At}
use Rattle.lu_base.specs.declared.ids.Node.TheVariants.{Client}
use Rattle.lu_base.specs.declared.ids.Stamp.{Stamp}
use Rattle.lu_held.specs.declared.locks.HeldLock.{HeldLock}
use Rattle.lu_held.specs.declared.locks.Use.{Use}
use Rattle.lu_held.specs.declared.names.LockName.{LockName}
use Rattle.lu_held.specs.Locks.{named, name_of, is_named}
use Rattle.lu_spec_entries.specs.declared.uses.Using.{Using}
use Rattle.lu_spec_entries.specs.Carried.{Kind, Narrow, Wide, Writes, Cuts, Stats, Work, Running, Glimpses, Bad, Looks, Came}
use Rattle.lu_spec_entries.specs.Words.{Entry, Unpins, Line}
use Rattle.lu_spec_client.specs.Advances.{name_under, looks, acts, comes}
use Rattle.lu_spec_client.specs.Caches.{held_at}
use Rattle.lu_spec_client.specs.States.{Store, store_at}
use Rattle.lu_spec_run.specs.Heads as table
use Rattle.lu_proof_lawful.proofs.Preconditions.Guards.{In, ReadsOn, ChangesOn, Owes, HasRange, used_in, work_in, used_of, came_marked}
use Rattle.lu_proof_lawful.proofs.Preconditions.Lists.{turn}
use Rattle.lu_proof_lawful.proofs.Preconditions.ClientLines.{held_once, once_same}
use Rattle.lu_proof_lawful.proofs.Preconditions.CallMoves.{Ready}
use Rattle.lu_proof_lawful.proofs.Preconditions.ClientTakes.{Seeks, ReadOf, StatFor, ChangeOf, Seeking, Going, looks_good, takes_on}
use Rattle.lu_layout.specs.Raid0.{Raid0}
use Rattle.lu_base.specs.declared.locks.Lock.{Lock}
use Rattle.lu_proof_lawful.proofs.Preconditions.Calls.{had_all}
use Rattle.lu_proof_lawful.proofs.Preconditions.CallStands.{StatsOn, OnBytes, Looking, Coming}
use Rattle.lu_proof_lawful.proofs.Preconditions.ClientGood.{the_head}
use Rattle.lu_spec_client.specs.Starts.{looks_at, comes_at, work_on, stats}
use Rattle.lu_proof_lawful.proofs.Preconditions.Turns.{Settled, owes_nothing}
use Rattle.lu_proof_lawful.proofs.Preconditions.ClientReads.{IsOnBytes, acts_good}

-- it looks for what is left
looks_so : (at : At) (slot : ℕ) (kind : Kind) (r : Running) (w : Work) (s : Store) → IsOnBytes kind → looks_at at slot kind r w s
    ≡ looks slot (acts at slot kind) w.left r w s
looks_so at slot (Glimpses sizes) r w s b = absurd b
looks_so at slot (Narrow o n) r w s b = refl
looks_so at slot (Wide o n) r w s b = refl
looks_so at slot (Writes o bs) r w s b = refl
looks_so at slot (Cuts n) r w s b = refl
looks_so at slot (Stats mode links) r w s b = refl

-- or uses the lock that came first
comes_so : (at : At) (slot : ℕ) (kind : Kind) (r : Running) (w : Work) (s : Store) (l : Lock) → IsOnBytes kind
    → comes_at at slot kind r w s l ≡ comes slot (acts at slot kind) l w.left r w s
comes_so at slot (Glimpses sizes) r w s l b = absurd b
comes_so at slot (Narrow o n) r w s l b = refl
comes_so at slot (Wide o n) r w s l b = refl
comes_so at slot (Writes o bs) r w s l b = refl
comes_so at slot (Cuts n) r w s l b = refl
comes_so at slot (Stats mode links) r w s l b = refl

-- the work is one on bytes
works_bytes : (r : Running) (w : Work) → ReadsOn r w ⊎ StatsOn r w ⊎ ChangesOn r w → IsOnBytes w.kind
works_bytes r w (inl d) = ⊎_elim (λ (e : w.kind ≡ Narrow d.read.offset d.read.count). subst IsOnBytes (sym e) tt)
    (λ (e : w.kind ≡ Wide d.read.offset d.read.count). subst IsOnBytes (sym e) tt) d.kind
works_bytes r w (inr (inl d)) = subst IsOnBytes (sym d.kind) tt
works_bytes r w (inr (inr (inl d))) = subst IsOnBytes (sym d.kind) tt
works_bytes r w (inr (inr (inr d))) = subst IsOnBytes (sym d.kind) tt

module _ (head : table.Head) (c : ℕ) (stamp : Stamp) where
  abbrev at : At
  at = turn stamp (Client c)

  -- ---- a call that has just begun

  -- it has no lock in use yet
  pub bytes_begin : (slot : ℕ) (r : Running) (kind : Kind) (fid : Fid) (layout : Raid0) (before p : List Line) → IsOnBytes kind
      → Ready head c stamp slot r before p → ((e : Entry) → Seeks slot e → Owes p at e)
      → ReadOf head c stamp r (work_on fid layout kind) p ⊎ StatFor head c stamp r r.pins (work_on fid layout kind) p
      ⊎ ChangeOf head c stamp r (work_on fid layout kind) p
      → Going head c stamp slot r before (looks_at at slot kind r (work_on fid layout kind) (store_at c p)) p
  bytes_begin slot r kind fid layout before p b y due does =
      let w = work_on fid layout kind in
      subst (λ (es : List Entry). Going head c stamp slot r before es p) (sym (looks_so at slot kind r w (store_at c p) b))
      (looks_good head c stamp slot r kind (acts at slot kind) before (acts_good head c stamp slot r kind before b) w.left r.pins w p
      (record {
        ready = y;
        due = due;
        of_kind = refl;
        does = does;
        rest = refl;
        order = refl;
        mine = λ u i. absurd i;
        objects = λ u i. absurd i;
        had = λ u i. absurd i;
        uses = λ u i. absurd i;
      }))

  -- ---- a call that goes on with its work

  seeks_on : (slot : ℕ) (r : Running) (w : Work) (left : List Use) (before p : List Line) → Ready head c stamp slot r before p → Settled p
      → work_in r.stage ≡ Some w → (r.stage ≡ Bad → ⊥) → OnBytes r w → w.left ≡ left
      → Seeking head c stamp slot r w.kind r.pins w left before p
  seeks_on slot r w left before p y settled works good on rest =
      record {
        ready = y;
        due = λ e s. owes_nothing p at e settled;
        of_kind = refl;
        does = does on.does;
        rest = rest;
        order = on.order ∙ ap (λ (us : List Use). map (λ (u : Using). u.want) w.used ++ us) rest;
        mine = on.mine;
        objects = on.objects;
        had = λ u i. had_all (the_head head c stamp) p y.good.grown c slot r y.call u (in_use u i);
        uses = λ u i. inl (in_use u i);
      }
    where
      in_use : (u : Using) → In u w.used → In u (used_in r.stage)
      in_use u i = subst (λ (o : Option Work). In u (used_of o)) (sym works) i

      does : ReadsOn r w ⊎ StatsOn r w ⊎ ChangesOn r w → ReadOf head c stamp r w p ⊎ StatFor head c stamp r r.pins w p
          ⊎ ChangeOf head c stamp r w p
      does (inl d) = inl (record { on = d; wider = λ o n e. inl (w, works, e); frees = λ n. owes_nothing p at (Unpins n) settled })
      does (inr (inl d)) =
          inr (inl (record {
            stat = record {
              path = d.path;
              stats = d.stats;
              good = good;
              fid = w.fid;
              mode = d.mode;
              links = d.links;
              layout = w.layout;
              from = inr (inr (record { work = w; stage = works; kind = d.kind; of_fid = refl; of_layout = refl; pinned = λ n i. i }));
            };
            is_kind = d.kind;
            fid = refl;
            layout = refl;
          }))
      does (inr (inr d)) = inr (inr (record { on = d; pays = λ e. owes_nothing p at e settled }))

  -- it looks anew
  pub bytes_anew : (slot : ℕ) (r : Running) (before p : List Line) → Ready head c stamp slot r before p → Settled p → (l : Looking r)
      → OnBytes r l.work
      → Going head c stamp slot r before (looks_at at slot l.work.kind r l.work (store_at c p)) p
  bytes_anew slot r before p y settled l on =
      let w = l.work in
      let b = works_bytes r w on.does in
      subst (λ (es : List Entry). Going head c stamp slot r before es p) (sym (looks_so at slot w.kind r w (store_at c p) b))
      (looks_good head c stamp slot r w.kind (acts at slot w.kind) before (acts_good head c stamp slot r w.kind before b) w.left r.pins w p
      (seeks_on slot r w w.left before p y settled (ap work_in l.stage) (λ e. let q : Looks w ≡ Bad = sym l.stage ∙ e in cc) on refl))

  -- it uses the lock that came
  pub bytes_come : (slot : ℕ) (r : Running) (before p : List Line) → Ready head c stamp slot r before p → Settled p → (m : Coming c p r)
      → OnBytes r m.work
      → Going head c stamp slot r before (comes_at at slot m.work.kind r m.work (store_at c p) m.lock) p
  bytes_come slot r before p y settled m on =
      subst (λ (es : List Entry). Going head c stamp slot r before es p)
      (sym (comes_so at slot w.kind r w (store_at c p) m.lock b
      ∙ ap (λ (us : List Use). comes slot (acts at slot w.kind) m.lock us r w (store_at c p)) m.wanting.first))
      (takes_on head c stamp slot r w.kind (acts at slot w.kind) r.pins w wanted left m.lock before p
      (seeks_on slot r w (wanted ∷ left) before p y settled (ap work_in m.stage) (λ e. let q : Came w m.lock ≡ Bad = sym m.stage ∙ e in cc)
      on m.wanting.first)
      (record {
        locked = record {
          holding = m.holding;
          held = m.held;
          of_target = m.of_target;
          of_object = ap (λ (l : Lock). l.resource) m.is
              ∙ m.of_object;
          ranged = subst (λ (l : Lock). HasRange l.ask.policy) (sym m.is) m.ranged;
        };
        is = m.is;
        does = inr (w, left, m.stage, m.wanting.first);
        apart = inr (w, left, m.stage, m.wanting.first);
        object = m.object;
        ok = ⊎_elim (λ (free : m.holding.marked ≡ false). inl (λ x i n. ap (λ (h : HeldLock). h.marked)
            (sym (once_same (held_at c p) m.holding x (held_once (the_head head c stamp) c p y.good.grown) m.held i (own x n))) ∙ free))
            (λ (came : came_marked c (name_under wanted m.lock) p ≡ true). inr
            (record {
              slot = slot;
              running = r;
              call = y.call;
              work = w;
              lock = m.lock;
              stage = m.stage;
              wanted = wanted;
              left = left;
              first = m.wanting.first;
              is = refl;
              object = m.object;
              marked = came;
            })) m.how;
      })
      (λ ps v q. looks_good head c stamp slot r w.kind (acts at slot w.kind) before (acts_good head c stamp slot r w.kind before b) left ps
      v q))
    where
      w : Work
      w = m.work

      b : IsOnBytes w.kind
      b = works_bytes r w on.does

      wanted : Use
      wanted = m.wanting.wanted

      left : List Use
      left = m.wanting.left

      own : (x : HeldLock) → is_named (name_under wanted m.lock) x ≡ true → is_named (name_of m.holding) x ≡ true
      own x = subst (λ (n : LockName). is_named n x ≡ true) (ap (λ (n : ℕ). named (record { 0 = n }) m.lock.cookie) (sym m.of_target)
          ∙ ap (λ (l : Lock). named m.holding.target l.cookie) (sym m.is))
