-- A flush goes stripe by stripe: of an object without a change it goes on, of the first with one it writes back what is next, where nothing
-- is
-- under way and a held lock has it, and waits there; with none it is told. What it does while it waits leaves all that was owed before.
use Rattle.std.proofs.Common.{◌≡◌, ℕ, zero, suc, ◌+◌, ◌<◌, Bool, true, false, List, [], ◌∷◌, ◌++◌, ◌⊎◌, inl, inr, ⊎_elim, Option, Some}
use Rattle.std.proofs.Common.{None, refl, sym, subst, ap, ◌∙◌, arith}
use Rattle.std.specs.Prelude.{drop, length, if◌then◌else◌, take}
use Rattle.std.specs.List.{range_with_len}
use Rattle.std.proofs.Math.Seq.{drop-append_seam}
use Rattle.std.proofs.lemmas.List.{append_assoc, take-append-drop}
use Rattle.lu_base.specs.declared.ids.At.{At}
use Rattle.lu_base.specs.declared.ids.Cookie.{Cookie}
use Rattle.lu_base.specs.declared.ids.Node.TheVariants.{Client}
use Rattle.lu_base.specs.declared.ids.Stamp.{Stamp}
use Rattle.lu_base.specs.declared.locks.Mode.{Mode}
use Rattle.lu_base.specs.declared.locks.Mode.TheVariants.{PW}
use Rattle.lu_base.specs.declared.locks.Policy.{Policy}
use Rattle.lu_base.specs.declared.locks.Policy.TheVariants.{Range}
use Rattle.lu_base.specs.declared.locks.Resource.{Resource}
use Rattle.lu_msg.specs.declared.answers.Answer.TheVariants as answer
use Rattle.lu_held.specs.declared.locks.HeldLock.{HeldLock}
use Rattle.lu_held.specs.Locks.{same_resource}
use Rattle.lu_held.specs.Held.{in_order}
use Rattle.lu_spec_entries.specs.declared.changes.Flush.{Flush}
use Rattle.lu_spec_entries.specs.declared.changes.Flush.TheVariants.{Cut, Put}
use Rattle.lu_spec_entries.specs.Carried.{HandleFile, Queued, Unasked, Asked, Stage, Bad, Flushing, Running}
use Rattle.lu_spec_entries.specs.Words.{Entry, Told, Queues, Stands, WritesBack, Line, line, with_turn}
use Rattle.lu_spec_entries.specs.Concerns.{is_about, only}
use Rattle.lu_spec_client.specs.Advances.{at_stage}
use Rattle.lu_spec_client.specs.Caches.{patch_at, held_at, patches_at}
use Rattle.lu_spec_client.specs.Calls.{reads_death}
use Rattle.lu_spec_client.specs.Patches.{Patch, in_flight}
use Rattle.lu_spec_client.specs.States.{Store, store_at}
use Rattle.lu_spec_client.specs.Stripes.{stripes, object}
use Rattle.lu_spec_client.specs.WriteBack.{operation, writes_back, flush_under, flushes, is_clean, flush_from}
use Rattle.lu_proof_lawful.specs.Covered.Calls.{call_at}
use Rattle.lu_proof_lawful.specs.Covered.Runs.{IsCovered}
use Rattle.lu_spec_run.specs.Heads as table
use Rattle.lu_proof_lawful.proofs.Preconditions.Guards.{HasRange, In, IsFlush, IsFlushing, HasChange, AllClean, FlushFrom, OwesStood, Owes}
use Rattle.lu_proof_lawful.proofs.Preconditions.Guards.{EntryOk}
use Rattle.lu_proof_lawful.proofs.Preconditions.StoryGuards.{EntryOf}
use Rattle.lu_proof_lawful.proofs.Preconditions.ClientStoryGuards.{AsksInOrder}
use Rattle.lu_proof_lawful.proofs.Preconditions.Lists.{self, in_append, turn}
use Rattle.lu_proof_lawful.proofs.Preconditions.Turns.{StoodQuiet, Settled, owes_nothing}
use Rattle.lu_proof_lawful.proofs.Preconditions.ClientHandles.{Tied, IsNoOpen, other_tied}
use Rattle.lu_proof_lawful.proofs.Preconditions.ClientLines.{ends}
use Rattle.lu_proof_lawful.proofs.Preconditions.ClientLocks.{in_ordered}
use Rattle.lu_proof_lawful.proofs.Preconditions.CallStands.{Lasts}
use Rattle.lu_proof_lawful.proofs.Preconditions.Patched.{lasts_taken}
use Rattle.lu_proof_lawful.proofs.Preconditions.ClientGood.{Good, the_head, adds, call_line}
use Rattle.lu_proof_lawful.proofs.Preconditions.CallMoves.{Kept, kept_more, kept_stands, Ready, Went, went_told}
use Rattle.lu_proof_lawful.proofs.Preconditions.ClientLooks.{resource_is}
use Rattle.lu_proof_lawful.proofs.Preconditions.ClientTakes.{held_range, Going}

-- ---- the stripes

-- a stripe stands at its own place
stripe_at : (a n : ℕ) (xs : List ℕ) (i : ℕ) (ys : List ℕ) → range_with_len a n ≡ xs ++ i ∷ ys → i ≡ a + length xs
stripe_at a zero [] i ys e = absurd (cc)
stripe_at a zero (x ∷ xs) i ys e = absurd (cc)
stripe_at a (suc n) [] i ys e = let q : a ≡ i = cc in omega (arith, q)
stripe_at a (suc n) (x ∷ xs) i ys e = let q : range_with_len (a + 1) n ≡ xs ++ i ∷ ys = cc in let r = stripe_at (a + 1) n xs i ys q
    in omega (arith, r)

-- those from it on
from_stripe : (n from : ℕ) (done : List ℕ) (i : ℕ) (is : List ℕ) → drop from (range_with_len 0 n) ≡ done ++ i ∷ is
    → drop i (range_with_len 0 n) ≡ i ∷ is
from_stripe n from done i is e =
    ap (λ (k : ℕ). drop k all) place ∙ ap (drop (length (before ++ done))) parts ∙ drop-append_seam (before ++ done) (i ∷ is)
  where
    all : List ℕ
    all = range_with_len 0 n

    before : List ℕ
    before = take from all

    parts : all ≡ (before ++ done) ++ i ∷ is
    parts = sym (take-append-drop from all) ∙ ap (λ (xs : List ℕ). before ++ xs) e ∙ sym (append_assoc before done (i ∷ is))

    place : i ≡ length (before ++ done)
    place = let q = stripe_at 0 n (before ++ done) i is parts in omega (arith, q)

-- ---- what is written back

flush_mode : (p : Patch) (m : Mode) (q : Policy) (f : Flush) → flush_under p m q ≡ Some f → (m ≡ PW) × HasRange q
flush_mode p PW (Range extent) f e = (refl, tt)
flush_mode p m q f e = absurd (cc)

back_order : (r : Resource) (k : Cookie) (f : Flush) → AsksInOrder (operation r k f)
back_order r k (Cut n) = tt
back_order r k (Put at bs) = tt

-- under one of these locks, which is one to write under
record Under (resource : Resource) (patch : Patch) (held : List HeldLock) (es : List Entry) : Type 0 where
  holding : HeldLock
  among : In holding held
  of_object : holding.lock.resource ≡ resource
  mode : holding.lock.ask.mode ≡ PW
  ranged : HasRange holding.lock.ask.policy
  change : Flush
  next : flush_under patch holding.lock.ask.mode holding.lock.ask.policy ≡ Some change
  is : es ≡ writes_back holding.target holding.lock change

under_more : (resource : Resource) (patch : Patch) (h : HeldLock) (held : List HeldLock) (es : List Entry) → (es ≡ [])
    ⊎ Under resource patch held es → (es ≡ []) ⊎ Under resource patch (h ∷ held) es
under_more resource patch h held es (inl e) = inl e
under_more resource patch h held es (inr u) =
    inr (record {
      holding = u.holding;
      among = inr u.among;
      of_object = u.of_object;
      mode = u.mode;
      ranged = u.ranged;
      change = u.change;
      next = u.next;
      is = u.is;
    })

flushes_so : (resource : Resource) (patch : Patch) (held : List HeldLock) → (flushes resource patch held ≡ [])
    ⊎ Under resource patch held (flushes resource patch held)
flushes_so resource patch [] = inl refl
flushes_so resource patch (h ∷ held) = by (same_resource h.lock.resource resource) refl
    (flush_under patch h.lock.ask.mode h.lock.ask.policy) refl (flushes_so resource patch held)
  where
    more : List Entry
    more = flushes resource patch held

    Of : Bool → Option Flush → List Entry
    Of b o = if b then elim o [ None ↦ more | Some flush ↦ writes_back h.target h.lock flush ] else more

    by : (b : Bool) → same_resource h.lock.resource resource ≡ b → (o : Option Flush) → flush_under patch h.lock.ask.mode h.lock.ask.policy
        ≡ o → (more ≡ []) ⊎ Under resource patch held more
        → (Of b o ≡ []) ⊎ Under resource patch (h ∷ held) (Of b o)
    by false q o e n = under_more resource patch h held more n
    by true q None e n = under_more resource patch h held more n
    by true q (Some change) e n =
        let m = flush_mode patch h.lock.ask.mode h.lock.ask.policy change e in
        inr (record {
          holding = h;
          among = inl refl;
          of_object = resource_is h.lock.resource resource q;
          mode = m.0;
          ranged = m.1;
          change =
              change;
          next = e;
          is = refl;
        })

-- ---- the lines of a flush that waits

abbrev pub FlushLine : ℕ → Entry → Type 0
FlushLine slot (Stands s r) = (s ≡ slot) × IsFlushing r.stage
FlushLine slot (WritesBack resource change) = Unit {0}
FlushLine slot (Queues t q) = q.slot ≡ None
FlushLine slot _ = ⊥

-- for an object with a change
abbrev pub stays_lines : ℕ → Running → HandleFile → ℕ → Store → List Entry
stays_lines slot r f i s =
    if in_flight (patch_at (object f.fid i) s.patches) then Stands slot (at_stage r (Flushing i)) ∷ []
    else flushes (object f.fid i) (patch_at (object f.fid i) s.patches) (in_order s.held) ++ Stands slot (at_stage r (Flushing i)) ∷ []

-- these are all that it makes
pub dirty_lines : (at : At) (slot : ℕ) (r : Running) (f : HandleFile) (i : ℕ) (more : List ℕ) (s : Store)
    → HasChange (patch_at (object f.fid i) s.patches) → flush_from at slot r f (i ∷ more) s ≡ stays_lines slot r f i s
dirty_lines at slot r f i more s h = by (in_flight patch) (is_clean patch) h
  where
    patch : Patch
    patch = patch_at (object f.fid i) s.patches

    stays : List Entry
    stays = Stands slot (at_stage r (Flushing i)) ∷ []

    back : List Entry
    back = flushes (object f.fid i) patch (in_order s.held) ++ stays

    by : (a b : Bool) → (a ≡ true) ⊎ (b ≡ false) → (if a then stays else if b then flush_from at slot r f more s else back)
        ≡ (if a then stays else back)
    by true b h = refl
    by false false h = refl
    by false true (inl e) = absurd (cc)
    by false true (inr e) = absurd (cc)

-- what was owed is owed still
pub stood_by : (stage : Stage) (X S : Type 0) (slot : ℕ) (e : Entry) → IsFlushing stage → X → OwesStood S slot stage X e
stood_by (Flushing i) X S slot e k x = x
stood_by stage X S slot e k x = absurd k

stood_quiet : (stage : Stage) (X : Type 0) → IsFlushing stage → X → StoodQuiet stage X
stood_quiet (Flushing i) X k x = x
stood_quiet stage X k x = absurd k

module _ (head : table.Head) (c : ℕ) (stamp : Stamp) where
  abbrev at : At
  at = turn stamp (Client c)

  pub flush_settled : (slot : ℕ) (p : List Line) (e : Entry) → FlushLine slot e → Settled p → Settled (line at e ∷ p)
  flush_settled slot p (Stands s r) k settled = stood_quiet r.stage (Settled p) k.1 settled
  flush_settled slot p (WritesBack resource change) k settled = settled
  flush_settled slot p (Queues t q) k settled = subst (λ (o : Option ℕ). Settled (line at (Queues t (record { slot = o; op = q.op })) ∷ p))
      (sym k) settled
  flush_settled slot p e k settled = absurd k

  pub flush_tied : (slot : ℕ) (p : List Line) (e : Entry) → FlushLine slot e → Tied c p → Tied c (line at e ∷ p)
  flush_tied slot p (Stands s r) k tied = tied
  flush_tied slot p (WritesBack resource change) k tied = tied
  flush_tied slot p (Queues t q) k tied = tied
  flush_tied slot p e k tied = absurd k

  -- whatever holds through such lines: it is a past that is allowed, which owes none of them anything
  module _ (slot : ℕ) (P : List Line → Type 0) (fine : (p : List Line) → P p → Good head c at p)
      (pays : (p : List Line) (e : Entry) → FlushLine slot e → P p → Owes p at e)
      (next : (p : List Line) (e : Entry) → FlushLine slot e → P p → Good head c at (line at e ∷ p) → P (line at e ∷ p)) where
    more : (p : List Line) (e : Entry) → FlushLine slot e → P p → EntryOk p at (Client c) e
        → ((t : ℕ) → is_about t e ≡ true → EntryOf (the_head head c stamp) (only t p) at (Client c) e) → IsCovered e → reads_death e ≡ false
        → P (line at e ∷ p)
    more p e k holds ok of covered lives = next p e k holds (adds head c stamp p e (fine p holds) (pays p e k holds) ok of covered lives)

    -- it waits
    pub record Stayed (r : Running) (f : HandleFile) (i : ℕ) (p q : List Line) : Type 0 where
      pub holds : P q
      pub kept : Kept head c stamp slot p q
      pub call : call_at c slot q ≡ Some (at_stage r (Flushing i))
      pub dirty : HasChange (patch_at (object f.fid i) (patches_at c q))

    module _ (r : Running) (f : HandleFile) (i handle : ℕ) (small : slot < 4) (flushing : IsFlush r handle) (of_file : r.file ≡ Some f)
        (good : r.stage ≡ Bad → ⊥) (still : r.asking ≡ Asked → ⊥) where
      stands : (p : List Line) → P p → call_at c slot p ≡ Some r → HasChange (patch_at (object f.fid i) (patches_at c p))
          → Stayed r f i p (line at (Stands slot (at_stage r (Flushing i))) ∷ p)
      stands p holds call dirty =
          record {
            holds =
                more p (Stands slot (at_stage r (Flushing i))) (refl, tt) holds
                (record {
                  running = r;
                  call = call;
                  small = small;
                  still = still;
                  stage = Flushing i;
                  pins = r.pins;
                  is = refl;
                  how = inr (inr (inr (inr (inl (record {
                    handle = handle;
                    flushes = flushing;
                    good = good;
                    file = f;
                    of_file = of_file;
                    same = refl;
                    stripe = i;
                    is = refl;
                    dirty = dirty;
                  })))));
                  had = λ u j. absurd j;
                  uses = λ u j. absurd j;
                  mine = λ u j. absurd j;
                }) (λ t q. tt) tt refl;
            kept = kept_stands head c stamp slot (at_stage r (Flushing i)) p;
            call = call_line head c stamp slot p (Stands slot (at_stage r (Flushing i))) ∙ rw (self slot) refl;
            dirty = dirty;
          }

      -- it writes back first
      backs : (p : List Line) → P p → call_at c slot p ≡ Some r → HasChange (patch_at (object f.fid i) (patches_at c p))
          → in_flight (patch_at (object f.fid i) (patches_at c p)) ≡ false → (es : List Entry)
          → (es ≡ []) ⊎ Under (object f.fid i) (patch_at (object f.fid i) (patches_at c p)) (in_order (held_at c p)) es
          → Stayed r f i p (with_turn at (es ++ Stands slot (at_stage r (Flushing i)) ∷ []) p)
      backs p holds call dirty alone es (inl e) = subst (λ (xs : List Entry). Stayed r f i p
          (with_turn at (xs ++ Stands slot (at_stage r (Flushing i)) ∷ []) p)) (sym e) (stands p holds call dirty)
      backs p holds call dirty alone es (inr u) = subst (λ (xs : List Entry). Stayed r f i p
          (with_turn at (xs ++ Stands slot (at_stage r (Flushing i)) ∷ []) p)) (sym u.is) whole
        where
          h : HeldLock
          h = u.holding

          held : In h (held_at c p)
          held = in_ordered h (held_at c p) u.among

          takes : Entry
          takes = WritesBack h.lock.resource u.change

          p1 : List Line
          p1 = line at takes ∷ p

          queued : Queued
          queued = record { slot = None; op = operation h.lock.resource h.lock.cookie u.change }

          p2 : List Line
          p2 = line at (Queues h.target.0 queued) ∷ p1

          one : P p1
          one =
              more p takes tt holds
              (record {
                holding = h;
                held = held;
                mode = u.mode;
                of_object = refl;
                next = ap (λ (x : Resource). flush_under (patch_at x (patches_at c p)) h.lock.ask.mode h.lock.ask.policy) u.of_object
                    ∙ u.next;
                alone = ap (λ (x : Resource). in_flight (patch_at x (patches_at c p))) u.of_object ∙ alone;
              }) (λ t q. tt) tt refl

          two : P p2
          two =
              more p1 (Queues h.target.0 queued) refl one
              (inr (record {
                serves = refl;
                holding = h;
                held = held;
                of_target = refl;
                object = held_range head c stamp p (fine p holds) h held u.ranged;
                mode = u.mode;
                change = u.change;
                takes = (
                  refl,
                  refl,
                  ap (λ (x : Resource). flush_under (patch_at x (patches_at c p)) h.lock.ask.mode h.lock.ask.policy)
                      u.of_object ∙ u.next,
                );
                of_op = refl;
              })) (λ t q. back_order h.lock.resource h.lock.cookie u.change) tt refl

          same : (s : ℕ) → call_at c s p2 ≡ call_at c s p
          same s = call_line head c stamp s p1 (Queues h.target.0 queued)

          lasts : Lasts (patches_at c p) (patches_at c p2)
          lasts = lasts_taken c stamp p h.lock.resource u.change

          last : Stayed r f i p2 (line at (Stands slot (at_stage r (Flushing i))) ∷ p2)
          last = stands p2 two (same slot ∙ call) (lasts (object f.fid i) dirty)

          whole : Stayed r f i p (line at (Stands slot (at_stage r (Flushing i))) ∷ p2)
          whole =
              record {
                holds = last.holds;
                kept = kept_more head c stamp slot p p2 (line at (Stands slot (at_stage r (Flushing i))) ∷ p2)
                    (record { same = λ s n. same s; life = refl; lasts = lasts }) last.kept;
                call = last.call;
                dirty = last.dirty;
              }

      pub stays_good : (p : List Line) → P p → call_at c slot p ≡ Some r → HasChange (patch_at (object f.fid i) (patches_at c p))
          → Stayed r f i p (with_turn at (stays_lines slot r f i (store_at c p)) p)
      stays_good p holds call dirty = by (in_flight patch) refl
        where
          patch : Patch
          patch = patch_at (object f.fid i) (patches_at c p)

          by : (b : Bool) → in_flight patch ≡ b
              → Stayed r f i p (with_turn at (if b then Stands slot (at_stage r (Flushing i)) ∷ []
              else flushes (object f.fid i) patch (in_order (held_at c p)) ++ Stands slot (at_stage r (Flushing i)) ∷ []) p)
          by true e = stands p holds call dirty
          by false e = backs p holds call dirty e (flushes (object f.fid i) patch (in_order (held_at c p)))
              (flushes_so (object f.fid i) patch (in_order (held_at c p)))

  -- ---- it goes on, where nothing is owed

  record Rests (p : List Line) : Type 0 where
    good : Good head c at p
    settled : Settled p
    handles : Tied c p

  module _ (slot : ℕ) (r : Running) (f : HandleFile) (handle from : ℕ) (before p : List Line) (y : Ready head c stamp slot r before p)
      (settled : Settled p) (flushing : IsFlush r handle) (of_file : r.file ≡ Some f) (good : r.stage ≡ Bad → ⊥)
      (new : r.asking ≡ Unasked) (nothing : r.pins ≡ []) (goes : FlushFrom at r from) where
    waits : (i : ℕ) (is done : List ℕ) → drop from (stripes f.layout) ≡ done ++ i ∷ is
        → HasChange (patch_at (object f.fid i) (patches_at c p))
        → Went head c stamp slot r before (with_turn at (stays_lines slot r f i (store_at c p)) p)
    waits i is done parts dirty =
        let q = with_turn at (stays_lines slot r f i (store_at c p)) p in
        let s =
        stays_good slot Rests (λ q h. h.good) (λ q e k h. owes_nothing q at e h.settled)
        (λ q e k h g. record { good = g; settled = flush_settled slot q e k h.settled; handles = flush_tied slot q e k h.handles }) r f
        i handle y.small
        flushing of_file good y.still p (record { good = y.good; settled = settled; handles = y.handles }) y.call dirty in
        record {
          good = s.holds.good;
          settled = s.holds.settled;
          handles = s.holds.handles;
          kept = kept_more head c stamp slot before p q y.kept s.kept;
          own = inr (record {
            now = at_stage r (Flushing i);
            call = s.call;
            same = refl;
            file = refl;
            rests = inr (record {
              handle = handle;
              flushes = flushing;
              file = f;
              of_file = of_file;
              new = new;
              nothing = nothing;
              stripe = i;
              stage = refl;
              more = is;
              rest = from_stripe (length f.layout.targets) from done i is parts;
              dirty = s.dirty;
            });
          });
        }

    pub flush_good : (is done : List ℕ) → drop from (stripes f.layout) ≡ done ++ is → AllClean f.fid done (patches_at c p)
        → Going head c stamp slot r before (flush_from at slot r f is (store_at c p)) p
    flush_good [] done parts clean covered =
        went_told head c stamp slot r at answer.Done None r.pins before p y (owes_nothing p at (Told slot at answer.Done None) settled)
        (inr (inr (inr (inr (inr (inl (record {
          running = r;
          call = y.call;
          still = y.still;
          handle = handle;
          flushes = flushing;
          file = f;
          of_file = of_file;
          from = from;
          goes = goes;
          clean = subst (λ (xs : List ℕ). AllClean f.fid xs (patches_at c p)) (sym (parts ∙ ends done)) clean;
          of_turn = refl;
          of_answer = refl;
          plain = refl;
        }))))))) (other_tied c stamp p slot at answer.Done None r y.call (subst IsNoOpen (sym flushing) tt) y.handles)
    flush_good (i ∷ is) done parts clean covered = by (in_flight patch) (is_clean patch) refl refl
        (λ k. flush_good is (done ++ i ∷ []) (parts ∙ sym (append_assoc done (i ∷ []) is)) (both k)) covered
      where
        patch : Patch
        patch = patch_at (object f.fid i) (patches_at c p)

        both : (in_flight patch ≡ false) × (is_clean patch ≡ true) → AllClean f.fid (done ++ i ∷ []) (patches_at c p)
        both k j m =
            ⊎_elim (λ (x : In j done). clean j x)
            (λ (x : In j (i ∷ [])). ⊎_elim (λ (e : i ≡ j). subst
            (λ (n : ℕ). (in_flight (patch_at (object f.fid n) (patches_at c p)) ≡ false)
            × (is_clean (patch_at (object f.fid n) (patches_at c p)) ≡ true)) e k) (λ (n : ⊥). absurd n) x)
            (in_append j done (i ∷ []) m)

        stays : List Entry
        stays = Stands slot (at_stage r (Flushing i)) ∷ []

        back : List Entry
        back = flushes (object f.fid i) patch (in_order (held_at c p)) ++ stays

        on : List Entry
        on = flush_from at slot r f is (store_at c p)

        by : (a b : Bool) → in_flight patch ≡ a → is_clean patch ≡ b
            → ((in_flight patch ≡ false) × (is_clean patch ≡ true) → Going head c stamp slot r before on p)
            → Going head c stamp slot r before (if a then stays else if b then on else back) p
        by true b e q next covered = subst (λ (x : Bool). Went head c stamp slot r before (with_turn at (if x then stays else back) p)) e
            (waits i is done parts (inl e))
        by false true e q next covered = next (e, q) covered
        by false false e q next covered = subst (λ (x : Bool). Went head c stamp slot r before (with_turn at (if x then stays else back) p))
            e (waits i is done parts (inr q))
