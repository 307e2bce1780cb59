-- A call of a client whose reply was heard, or that got the lock that it waited for: one on names is told, or goes on for the size of its
-- file; a
-- glimpse goes on by what it heard; a call on bytes uses the lock that came. Each line is allowed.
use Rattle.lu_proof_lawful.proofs.Preconditions.Guards.{came_marked}
use Rattle.lu_held.specs.declared.locks.HeldLock.{HeldLock}
use Rattle.std.proofs.Common.{◌≡◌, ℕ, ◌+◌, ◌<◌, List, [], ◌∷◌, ◌++◌, ◌⊎◌, inl, inr, ⊎_elim, Option, Some, None, refl, sym, subst, ap, ◌∙◌}
use Rattle.std.proofs.Common.{false, true}
use Rattle.lu_base.specs.declared.ids.At.{At}
use Rattle.lu_base.specs.declared.ids.Node.TheVariants.{Client}
use Rattle.lu_base.specs.declared.ids.Stamp.{Stamp}
use Rattle.lu_msg.specs.declared.answers.Answer.{Answer}
use Rattle.lu_msg.specs.declared.answers.Answer.TheVariants as answer
use Rattle.lu_msg.specs.declared.calls.Call.{Call}
use Rattle.lu_msg.specs.declared.calls.Call.TheVariants as call
use Rattle.lu_msg.specs.declared.messages.Reply.{Reply as ReplyTo}
use Rattle.lu_msg.specs.declared.operations.Op.{Op}
use Rattle.lu_held.specs.declared.names.LockName.{LockName}
use Rattle.lu_spec_entries.specs.Carried.{Flight, Stats, Asking, Asked, Answered, Stage, Plain, Bad, Running}
use Rattle.lu_spec_entries.specs.Words.{Entry, Told, Queues, Stands, Binds, Line, line, with_turn, WritesBack}
use Rattle.lu_spec_client.specs.Advances.{unpins, name_under}
use Rattle.lu_spec_client.specs.Caches.{held_at}
use Rattle.lu_spec_client.specs.Known.{cookies_of_file, names_of}
use Rattle.lu_spec_client.specs.Slots.{goes_at, goes, goes_on, slots_go}
use Rattle.lu_spec_client.specs.Starts.{comes_at, sizes_heard, stats, answers, goes_plain}
use Rattle.lu_spec_client.specs.States.{store_at}
use Rattle.lu_proof_lawful.specs.Covered.Calls.{call_at, becomes, told_as, opened}
use Rattle.lu_proof_lawful.specs.Covered.Known.{notes_at}
use Rattle.lu_spec_run.specs.Heads as table
use Rattle.lu_spec_run.specs.Runs.{client_of}
use Rattle.lu_proof_lawful.proofs.Preconditions.Lists.{in_right, turn}
use Rattle.lu_proof_lawful.proofs.Preconditions.Covers.{EntriesCovered}
use Rattle.lu_proof_lawful.proofs.Preconditions.ClientLines.{held_once}
use Rattle.lu_proof_lawful.proofs.Preconditions.ClientKnown.{cookies_usable, usable_unmarked}
use Rattle.lu_proof_lawful.proofs.Preconditions.Guards.{In, Owes, JustHeard, Learned, IsToldAsIs}
use Rattle.lu_proof_lawful.proofs.Preconditions.Turns.{Settled, owes_nothing}
use Rattle.lu_proof_lawful.proofs.Preconditions.ClientHandles.{Tied, binding, heard_tied}
use Rattle.lu_proof_lawful.proofs.Preconditions.CallStands.{Works, Sizing, Coming, IdleAt}
use Rattle.lu_proof_lawful.proofs.Preconditions.ClientGood.{Good, Rested, the_head, adds, Keeps}
use Rattle.lu_proof_lawful.proofs.Preconditions.CallMoves.{Kept, kept_start, Ready, Left, left_told, Went}
use Rattle.lu_proof_lawful.proofs.Preconditions.ClientCalls.{OnNames, on_small, IsNoClose, ToldSo, StatsTold, answers_so}
use Rattle.lu_proof_lawful.proofs.Preconditions.Closings.{works_close}
use Rattle.lu_proof_lawful.proofs.Preconditions.ClientPasses.{Visited, visited_left, visited_went}
use Rattle.lu_proof_lawful.proofs.Preconditions.ClientFlushes.{FlushLine, flush_settled}
use Rattle.lu_proof_lawful.proofs.Preconditions.ClientFresh.{Pending, slots_moved}
use Rattle.lu_proof_lawful.proofs.Preconditions.ClientWorks.{bytes_come}
use Rattle.lu_proof_lawful.proofs.Preconditions.ClientSizes.{glimpse_heard, glimpse_came}
use Rattle.lu_proof_lawful.proofs.Preconditions.ClientStats.{stat_goes}

module _ (head : table.Head) (c : ℕ) (stamp : Stamp) where
  abbrev at : At
  at = turn stamp (Client c)

  -- ---- lines of flushes that wait leave what was heard

  flush_heard : (slot : ℕ) (p : List Line) (e : Entry) (t : ℕ) (reply : ReplyTo) → FlushLine slot e → JustHeard p at t reply
      → JustHeard (line at e ∷ p) at t reply
  flush_heard slot p (Stands s r) t reply k h = h
  flush_heard slot p (WritesBack resource change) t reply k h = h
  flush_heard slot p (Queues u q) t reply k h = h
  flush_heard slot p e t reply k h = absurd k

  flush_learned : (slot : ℕ) (p : List Line) (e : Entry) (t : ℕ) (f : Flight) (reply : ReplyTo) → FlushLine slot e → Learned p at t f reply
      → Learned (line at e ∷ p) at t f reply
  flush_learned slot p (Stands s r) t f reply k h = h
  flush_learned slot p (WritesBack resource change) t f reply k h = h
  flush_learned slot p (Queues u q) t f reply k h = h
  flush_learned slot p e t f reply k h = absurd k

  flush_held : (slot : ℕ) (p : List Line) (e : Entry) → FlushLine slot e → held_at c (line at e ∷ p) ≡ held_at c p
  flush_held slot p (Stands s r) k = refl
  flush_held slot p (WritesBack resource change) k = refl
  flush_held slot p (Queues t q) k = refl
  flush_held slot p e k = absurd k

  flush_came : (slot : ℕ) (p : List Line) (name : LockName) (e : Entry) → FlushLine slot e → came_marked c name (line at e ∷ p)
      ≡ came_marked c name p
  flush_came slot p name (Stands s r) k = refl
  flush_came slot p name (WritesBack resource change) k = refl
  flush_came slot p name (Queues t q) k = refl
  flush_came slot p name e k = absurd k

  abbrev Moved : ℕ → List Line → List Entry → Type 0
  Moved slot p es = EntriesCovered es → Visited head c stamp slot p (with_turn at es p)

  -- ---- a call whose reply was heard

  -- one on names, or a glimpse that asked how long an object is
  pub record HasHeard (slot target : ℕ) (r : Running) (f : Flight) (reply : ReplyTo) (p : List Line) : Type 0 where
    pub good : Good head c at p
    pub settled : Settled p
    pub small : slot < 4
    pub call : call_at c slot p ≡ Some r
    pub others : (s : ℕ) → (s ≡ slot → ⊥) → IdleAt c p s
    pub handles : Tied c p
    pub answered : r.asking ≡ Answered target reply
    pub does : ((r.pins ≡ []) × OnNames r) ⊎ Sizing r
    pub serves : f.slot ≡ Some slot
    pub heard : JustHeard p at target reply
    pub learned : Learned p at target f reply

  record Heard (slot target : ℕ) (r : Running) (f : Flight) (reply : ReplyTo) (p : List Line) : Type 0 where
    settled : Settled p
    call : call_at c slot p ≡ Some r
    heard : JustHeard p at target reply
    learned : Learned p at target f reply

  module _ (slot target : ℕ) (r : Running) (f : Flight) (reply : ReplyTo) (small : slot < 4) (answered : r.asking ≡ Answered target reply)
      (serves : f.slot ≡ Some slot) where
    keeps : (s : ℕ) → (s ≡ slot → ⊥) → (p : List Line) (e : Entry) → FlushLine s e → call_at c slot (line at e ∷ p) ≡ call_at c slot p
        → Heard slot target r f reply p → Heard slot target r f reply (line at e ∷ p)
    keeps s n p e k same h =
        record {
          settled = flush_settled head c stamp s p e k h.settled;
          call = same ∙ h.call;
          heard =
              flush_heard s p e target reply k h.heard;
          learned = flush_learned s p e target f reply k h.learned;
        }

    pays : (s : ℕ) → (s ≡ slot → ⊥) → (p : List Line) (e : Entry) → FlushLine s e → Heard slot target r f reply p → Owes p at e
    pays s n p e k h = owes_nothing p at e h.settled

    abbrev Stood : List Line → Type 0
    Stood p = Pending head c stamp slot (Heard slot target r f reply) keeps pays p

    not_asked : r.asking ≡ Asked → ⊥
    not_asked q = let e : Answered target reply ≡ Asked = sym answered ∙ q in cc

    ready : (p : List Line) → Stood p → Ready head c stamp slot r p p
    ready p h = record {
      good = h.good;
      small = small;
      call = h.holds.call;
      handles = h.handles;
      still = not_asked;
      kept =
          kept_start head c stamp slot p;
    }

    goes_here : (p : List Line) → Stood p → goes at slot (client_of head c p) ≡ goes_at at slot r.stage r (client_of head c p)
    goes_here p h = ap (λ (x : Option Running). goes_on at slot (client_of head c p) x) (on_small c slot p small ∙ h.holds.call)

    -- one on names
    module _ (nothing : r.pins ≡ []) (plain : r.stage ≡ Plain) (o : Op) (becomes_it : becomes r ≡ Some o) where
      abbrev told_answer : Answer
      told_answer = told_as r.call reply.answer

      abbrev e : Entry
      e = Told slot reply.at told_answer None

      told : (p q : List Line) → Good head c at q → Settled q → call_at c slot q ≡ Some r → Kept head c stamp slot p q
          → JustHeard q at target reply → Learned q at target f reply → IsToldAsIs r.call told_answer → Tied c (line at e ∷ q)
          → Left head c stamp slot p (line at e ∷ q)
      told p q good settled call kept heard learned as_is tied =
          left_told head c stamp slot reply.at told_answer None [] p q good kept (owes_nothing q at e settled)
          (inl (record {
            running = r;
            call = call;
            good = plain;
            names = (o, becomes_it);
            target = target;
            reply = reply;
            answered = answered;
            heard = heard;
            flight = f;
            serves = serves;
            learned = learned;
            of_turn = refl;
            of_answer = refl;
            as_is = as_is;
            plain = refl;
          })) tied

      bound : (p : List Line) → Stood p → (x : Call) (a : Answer) → IsToldAsIs r.call told_answer
          → Tied c (line at e ∷ with_turn at (binding x a) p) → Left head c stamp slot p (with_turn at (binding x a ++ e ∷ []) p)
      bound p h (call.Open g path) (answer.OpenFile fid number layout) as_is tied =
          let x = Binds g (record { fid = fid; number = number; layout = layout }) in
          told p (line at x ∷ p) (adds head c stamp p x h.good (owes_nothing p at x h.holds.settled) tt (λ t q. tt) tt refl) tt h.holds.call
          (record { same = λ s n. refl; life = refl; lasts = λ y z. z }) h.holds.heard h.holds.learned as_is tied
      bound p h x a as_is tied = told p p h.good h.holds.settled h.holds.call (kept_start head c stamp slot p) h.holds.heard h.holds.learned
          as_is tied

      -- a stat that was told of a file goes on for its size
      stat_on : (p : List Line) → Stood p → (es : List Entry) (g : StatsTold at slot reply.answer r.call r (client_of head c p) es)
          → Moved slot p (stats at slot g.fid g.layout (Stats g.mode g.links) (names_of (cookies_of_file (notes_at c p) g.path g.fid)) r
          (store_at c p))
      stat_on p h es g covered =
          let cookies = cookies_of_file (notes_at c p) g.path g.fid in
          visited_went head c stamp slot r p (with_turn at (stats at slot g.fid g.layout (Stats g.mode g.links) (names_of cookies) r
          (store_at c p)) p) h.holds.call (subst IsNoClose (sym g.stats) tt)
          (stat_goes head c stamp slot r g.fid g.layout g.mode g.links (names_of cookies) p p (ready p h)
          (λ x s. owes_nothing p at x h.holds.settled)
          (usable_unmarked (held_at c p) (held_once (the_head head c stamp) c p h.good.grown) cookies
          (cookies_usable (notes_at c p) g.path g.fid)) (record {
            stat = record {
              path = g.path;
              stats = g.stats;
              good = λ q. let w : Plain ≡ Bad = sym plain ∙ q in cc;
              fid = g.fid;
              mode = g.mode;
              links = g.links;
              layout = g.layout;
              from = inr (inl (record {
                plain = plain;
                target = target;
                reply = reply;
                answered = answered;
                heard = h.holds.heard;
                flight = f;
                learned = h.holds.learned;
                tells = g.tells;
                pinned = λ m i. in_right m r.pins (names_of cookies) i;
              }));
            };
            is_kind = refl;
            fid = refl;
            layout = refl;
          }) covered)

      heard_names : (p : List Line) → Stood p → Moved slot p (goes at slot (client_of head c p))
      heard_names p h = subst (Moved slot p) (sym so) (by (answers at slot reply.at reply.answer r.call r (client_of head c p))
          (answers_so at slot reply.at reply.answer r.call r (client_of head c p)))
        where
          so : goes at slot (client_of head c p) ≡ answers at slot reply.at reply.answer r.call r (client_of head c p)
          so = goes_here p h ∙ ap (λ (s : Stage). goes_at at slot s r (client_of head c p)) plain
              ∙ ap (λ (x : Asking). goes_plain at slot x r (client_of head c p)) answered

          by : (es : List Entry) → ToldSo slot reply.at reply.answer r.call r es
              ⊎ StatsTold at slot reply.answer r.call r (client_of head c p) es → Moved slot p es
          by es (inl t) =
              subst (Moved slot p) (sym (t.is ∙ ap (λ (names : List LockName). binding r.call reply.answer ++ e ∷ unpins names) nothing))
              (λ cov.
              visited_left head c stamp slot p (with_turn at (binding r.call reply.answer ++ e ∷ []) p)
              (bound p h r.call reply.answer t.as_is (heard_tied c stamp p slot reply.at told_answer None r r.call reply.answer h.holds.call
              refl (ap opened answered) h.handles)))
          by es (inr g) = subst (Moved slot p) (sym g.is) (stat_on p h es g)

    -- a glimpse goes on by what it heard
    heard_sizes : Sizing r → (p : List Line) → Stood p → Moved slot p (goes at slot (client_of head c p))
    heard_sizes g p h =
        subst (Moved slot p) (sym (goes_here p h ∙ ap (λ (s : Stage). goes_at at slot s r (client_of head c p)) g.stage))
        (λ cov.
        visited_went head c stamp slot r p (with_turn at (sizes_heard at slot r.asking g.work.kind r g.work (store_at c p)) p) h.holds.call
        (subst IsNoClose (sym g.sized.glimpses) tt)
        (glimpse_heard head c stamp slot r p p (ready p h) h.holds.settled g target reply answered h.holds.heard cov))

  pub has_heard : (slot target : ℕ) (r : Running) (f : Flight) (reply : ReplyTo)
      → Keeps head c stamp (HasHeard slot target r f reply) (Rested head c at) (slots_go 5 at)
  has_heard slot target r f reply p b covered =
      slots_moved head c stamp slot (Heard slot target r f reply) (keeps slot target r f reply b.small b.answered b.serves)
      (pays slot target r f reply b.small b.answered b.serves) (by b.does) p b.small
      (record {
        good = b.good;
        others = b.others;
        handles = b.handles;
        holds =
            record { settled = b.settled; call = b.call; heard = b.heard; learned = b.learned };
      }) covered
    where
      by : ((r.pins ≡ []) × OnNames r) ⊎ Sizing r → (q : List Line) → Stood slot target r f reply b.small b.answered b.serves q
          → Moved slot q (goes at slot (client_of head c q))
      by (inl n) = heard_names slot target r f reply b.small b.answered b.serves n.0 n.1.0 n.1.1.0 n.1.1.1
      by (inr g) = heard_sizes slot target r f reply b.small b.answered b.serves g

  -- ---- a call to which its lock came

  pub record HasCome (slot : ℕ) (r : Running) (p : List Line) : Type 0 where
    pub good : Good head c at p
    pub settled : Settled p
    pub small : slot < 4
    pub call : call_at c slot p ≡ Some r
    pub others : (s : ℕ) → (s ≡ slot → ⊥) → IdleAt c p s
    pub handles : Tied c p
    pub coming : Coming c p r

  record Came_in (slot : ℕ) (r : Running) (p : List Line) : Type 0 where
    settled : Settled p
    call : call_at c slot p ≡ Some r
    coming : Coming c p r

  pub has_come : (slot : ℕ) (r : Running) → Keeps head c stamp (HasCome slot r) (Rested head c at) (slots_go 5 at)
  has_come slot r p b covered =
      slots_moved head c stamp slot (Came_in slot r) lasts owes moves p b.small
      (record {
        good = b.good;
        others = b.others;
        handles = b.handles;
        holds =
            record { settled = b.settled; call = b.call; coming = b.coming };
      }) covered
    where
      coming_on : (s : ℕ) (q : List Line) (e : Entry) → FlushLine s e → Coming c q r → Coming c (line at e ∷ q) r
      coming_on s q e k m =
          record {
            work = m.work;
            lock = m.lock;
            stage = m.stage;
            still = m.still;
            wanting = m.wanting;
            object = m.object;
            holding = m.holding;
            held = subst (λ (hs : List HeldLock). In m.holding hs) (sym (flush_held s q e k)) m.held;
            of_target = m.of_target;
            is = m.is;
            of_object = m.of_object;
            ranged = m.ranged;
            how = ⊎_elim (λ (u : m.holding.marked ≡ false). inl u)
                (λ (g : came_marked c (name_under m.wanting.wanted m.lock) q ≡ true). inr
                (flush_came s q (name_under m.wanting.wanted m.lock) e k ∙ g)) m.how;
          }

      lasts : (s : ℕ) → (s ≡ slot → ⊥) → (q : List Line) (e : Entry) → FlushLine s e → call_at c slot (line at e ∷ q) ≡ call_at c slot q
          → Came_in slot r q → Came_in slot r (line at e ∷ q)
      lasts s n q e k same h = record {
        settled = flush_settled head c stamp s q e k h.settled;
        call = same ∙ h.call;
        coming =
            coming_on s q e k h.coming;
      }

      owes : (s : ℕ) → (s ≡ slot → ⊥) → (q : List Line) (e : Entry) → FlushLine s e → Came_in slot r q → Owes q at e
      owes s n q e k h = owes_nothing q at e h.settled

      moves : (q : List Line) → Pending head c stamp slot (Came_in slot r) lasts owes q → EntriesCovered (goes at slot (client_of head c q))
          → Visited head c stamp slot q (with_turn at (goes at slot (client_of head c q)) q)
      moves q h = subst (Moved slot q) (sym so) (λ cov. visited_went head c stamp slot r q (with_turn at lines q) h.holds.call
          (works_close r m.work m.wanting.works) (went m.wanting.works cov))
        where
          m : Coming c q r
          m = h.holds.coming

          y : Ready head c stamp slot r q q
          y = record {
            good = h.good;
            small = b.small;
            call = h.holds.call;
            handles = h.handles;
            still = m.still;
            kept =
                kept_start head c stamp slot q;
          }

          lines : List Entry
          lines = comes_at at slot m.work.kind r m.work (store_at c q) m.lock

          so : goes at slot (client_of head c q) ≡ lines
          so = ap (λ (x : Option Running). goes_on at slot (client_of head c q) x) (on_small c slot q b.small ∙ h.holds.call)
              ∙ ap (λ (s : Stage). goes_at at slot s r (client_of head c q)) m.stage

          went : Works r m.work → EntriesCovered lines → Went head c stamp slot r q (with_turn at lines q)
          went (inl on) = bytes_come head c stamp slot r q q y h.holds.settled m on
          went (inr z) = glimpse_came head c stamp slot r q q y h.holds.settled m z
