-- The rows that write changes back and give locks up, entry by entry.
use Rattle.std.proofs.Common.{◌≡◌, ◌⊎◌, inl, inr, ⊎_elim, ℕ, ◌<◌, Bool, true, false, List, [], ◌∷◌, ◌++◌, map, Option, Some, None, refl}
use Rattle.std.proofs.Common.{sym, ap, subst, ◌∙◌, arith}
use Rattle.std.specs.Prelude.{nat_eq, nat_lt, ◌&&◌, ◌||◌, if◌then◌else◌, drop, reverse, filter}
use Rattle.std.proofs.lemmas.Bool.{and_parts, eqb-true}
use Rattle.lu_base.specs.declared.ids.At.{At}
use Rattle.lu_base.specs.declared.ids.Node.TheVariants.{Target}
use Rattle.lu_base.specs.declared.locks.Extent.{Extent}
use Rattle.lu_base.specs.declared.locks.Mode.{Mode}
use Rattle.lu_base.specs.declared.locks.Mode.TheVariants.{EX, PW, PR, CW, CR, NL}
use Rattle.lu_base.specs.declared.locks.Policy.{Policy}
use Rattle.lu_base.specs.declared.locks.Policy.TheVariants.{Bits, Range}
use Rattle.lu_base.specs.declared.locks.Resource.{Resource}
use Rattle.lu_lock.specs.Overlap.{extents_meet}
use Rattle.lu_msg.specs.declared.answers.Answer.TheVariants as answer
use Rattle.lu_msg.specs.declared.messages.Message.TheVariants as message
use Rattle.lu_msg.specs.declared.operations.Op.{Op}
use Rattle.lu_held.specs.declared.locks.Change.TheVariants as lock
use Rattle.lu_held.specs.declared.locks.HeldLock.{HeldLock}
use Rattle.lu_held.specs.declared.names.LockName.{LockName}
use Rattle.lu_held.specs.Locks.{name_of, is_named, is_free, same_resource, after as changed_by}
use Rattle.lu_held.specs.Held.{in_order, without}
use Rattle.lu_spec_entries.specs.declared.changes.Flush.{Flush}
use Rattle.lu_spec_entries.specs.declared.changes.Flush.TheVariants as flush
use Rattle.lu_spec_entries.specs.Carried.{HandleFile, Flushing, Running}
use Rattle.lu_spec_entries.specs.Words.{Entry, Send, Drop, Told, Queues, Stands, Marks, WritesBack}
use Rattle.lu_spec_client.specs.Imports.{Import, imports_after, import_of, is_serving}
use Rattle.lu_spec_client.specs.Patches.{Patch, clean, flown, next_flush, has_change, in_flight, cut_extent, holds_extent, dirty_in}
use Rattle.lu_spec_client.specs.Stripes.{stripes, object}
use Rattle.lu_spec_client.specs.Caches.{on_object, patch_at}
use Rattle.lu_spec_client.specs.States.{Client, after, turn}
use Rattle.lu_spec_client.specs.Advances.{at_stage, tells, unpins}
use Rattle.lu_spec_client.specs.WriteBack.{operation, writes_back, flush_under, flushes, is_clean, flush_from, flushing}
use Rattle.lu_spec_client.specs.Locks.{marks_of, dirty_total, is_called, must_write, writes_next, writes_under, gives_up, visits}
use Rattle.lu_spec_client.specs.Locks.{visits_all}
use Rattle.lu_proof_objects.specs.Points.{is_write}
use Rattle.lu_proof_objects.specs.Alike.{Carries}
use Rattle.lu_proof_objects.proofs.Patches.{patch_taken}
use Rattle.lu_proof_objects.specs.Sound.{In, IsOnce, Writer, Asked, names, writes_to, one_if, IsSoundOf, AreGetsPinned, IsSound}
use Rattle.lu_proof_objects.specs.Oks.{DropOk, CancelOk, IsFlush, IsBack, BackOk, QueueOk, QueuesAfter, Each, Goes}
use Rattle.lu_proof_objects.specs.Rows.{TrimsGo, LocksGo, FlushGoes, FlushingGoes}
use Rattle.lu_proof_objects.proofs.Lists.{self, in_ordered, once_ordered, without_only, without_other}
use Rattle.lu_proof_objects.proofs.Tables.{object_is, imports_still, none_asked, patch_on_there}
use Rattle.lu_proof_objects.proofs.Changes.{flown_flies, next_flushes, next_covered, none_next, meet_cut}
use Rattle.lu_proof_objects.proofs.Steps.{writes_is, same_writer, reader_clean, clean_touched, none_names, sound_without, sound_back}
use Rattle.lu_proof_objects.proofs.Steps.{sound_map, gets_without, gets_map, gets_back}
use Rattle.lu_proof_objects.proofs.Known.{known_still, still_map, known_without}

-- ---- entries in two parts

pub turn_more : (k : Client) (es fs : List Entry) → turn k (es ++ fs) ≡ turn (turn k es) fs
turn_more k [] fs = refl
turn_more k (e ∷ es) fs = turn_more (after k e) es fs

pub each_append : (at : At) (before : Option Entry) (k : Client) (es fs : List Entry) → Each at before k es
    → ((b : Option Entry) → Each at b (turn k es) fs) → Each at before k (es ++ fs)
each_append at before k [] fs each more = more before
each_append at before k (e ∷ es) fs each more = (each.0, each.1, each_append at (Some e) (after k e) es fs each.2 more)

goes_append : (at : At) (before : Option Entry) (k : Client) (es fs : List Entry) → Goes at before k es
    → ((b : Option Entry) → Goes at b (turn k es) fs) → Goes at before k (es ++ fs)
goes_append at before k es fs g more =
    record {
      each = each_append at before k es fs g.each (λ b. (more b).each);
      sound =
          subst IsSound (sym (turn_more k es fs)) (more None).sound;
    }

none_goes : (at : At) (before : Option Entry) (k : Client) → IsSound k → Goes at before k []
none_goes at before k s = record { each = tt; sound = s }

-- an entry that leaves the imports leaves the state sound
still : (k : Client) (e : Entry) (held : List HeldLock) (patches : List (Resource × Patch)) → imports_after k.imports e ≡ k.imports
    → IsSoundOf held patches k.imports × AreGetsPinned held k.imports
    → IsSoundOf held patches (imports_after k.imports e) × AreGetsPinned held (imports_after k.imports e)
still k e held patches same s = subst (λ (is : List Import). IsSoundOf held patches is × AreGetsPinned held is) (sym same) s

-- ---- a change is written back

some_range : (a b : Extent) → Range a ≡ Range b → a ≡ b
some_range a b e = cc

module _ (at : At) (before : Option Entry) (k : Client) (s : IsSound k) (h : HeldLock) (x : Extent) (change : Flush) (i : In h k.store.held)
    (mode : h.lock.ask.mode ≡ PW) (range : h.lock.ask.policy ≡ Range x)
    (next : next_flush x (patch_at h.lock.resource k.store.patches) ≡ Some change)
    (idle : in_flight (patch_at h.lock.resource k.store.patches) ≡ false) where
  abbrev patch : Patch
  patch = patch_at h.lock.resource k.store.patches

  abbrev taken : Entry
  taken = WritesBack h.lock.resource change

  -- a pending cut is under this lock, or apart from it
  over_cut : (size : ℕ) → patch.pending ≡ Some size → (holds_extent x (cut_extent size) ≡ true) ⊎ (extents_meet x (cut_extent size) ≡ false)
  over_cut size e = by (extents_meet x (cut_extent size)) refl
    where
      w : Writer k.store.held h.lock.resource (λ y. holds_extent y (cut_extent size) ≡ true)
      w = (s.bytes.objects h.lock.resource).cut size e

      by : (v : Bool) → extents_meet x (cut_extent size) ≡ v → (holds_extent x (cut_extent size) ≡ true) ⊎ (v ≡ false)
      by false m = inr refl
      by true m =
          let is : w.lock ≡ h = same_writer k.store.held k.store.patches k.imports s.bytes h x i range w (meet_cut x w.extent size w.over m)
          in
          let same : w.extent ≡ x = some_range w.extent x (sym w.range ∙ ap (λ (g : HeldLock). g.lock.ask.policy) is ∙ range) in
          inl (ap (λ (y : Extent). holds_extent y (cut_extent size)) (sym same) ∙ w.over)

  flush_is : IsFlush patch change × Carries patch change
  flush_is = next_flushes x patch change (s.bytes.ranges h x i range) (s.bytes.objects h.lock.resource).rises next over_cut

  none_else : (t : ℕ) (o : Op) → Asked k.imports t o → writes_to h.lock.resource o ≡ false
  none_else t o a = none_asked h.lock.resource k.imports (let few = s.bytes.single h.lock.resource in let none : one_if (in_flight patch)
      ≡ 0 = ap one_if idle in omega (arith, few, none)) t o a

  back_is : IsBack k h x change
  back_is =
      record {
        held = i;
        mode = mode;
        range = range;
        covered = λ life p w. next_covered h.lock.cookie.0 life h.lock.ask.mode x patch change (s.bytes.ranges h x i range)
            (s.bytes.objects h.lock.resource).rises next p w;
        flush = flush_is.0;
        none = none_else;
      }

  there : patch_at h.lock.resource (after k taken).store.patches ≡ flown change patch
  there = ⊎_elim (λ (e : patch ≡ clean). absurd (none_next x change (ap (next_flush x) (sym e) ∙ next)))
      (λ (e : patch_at h.lock.resource (after k taken).store.patches ≡ flown change patch). e)
      (patch_on_there h.lock.resource (flown change) k.store.patches)

  same : imports_after k.imports taken ≡ k.imports
  same = imports_still taken (λ j. refl) 0 k.imports

  flush_flown : (c : Flush) (p : Patch) → Carries p c → IsFlush p c → IsFlush (flown c p) c
  flush_flown (flush.Put first bytes) p carries f = (f.0, λ q b e. (patch_taken (flush.Put first bytes) p q carries).dirty ∙ carries q b e)
  flush_flown (flush.Cut size) p carries f = f

  queued_is : BackOk (after k taken) h.target.0 h.lock.cookie h.lock.resource change
  queued_is =
      record {
        lock = h;
        extent = x;
        target = refl;
        cookie = refl;
        object = refl;
        back = record {
          held = i;
          mode = mode;
          range = range;
          covered = back_is.covered;
          flush = subst (λ (p : Patch). IsFlush p change) (sym there) (flush_flown change patch flush_is.1 flush_is.0);
          none = λ t o a. none_else t o (subst (λ (is : List Import). Asked is t o) same a);
        };
        flies = ap (λ (p : Patch). p.flight) there ∙ flown_flies change patch;
      }

  queues : (c : Flush) → BackOk (after k taken) h.target.0 h.lock.cookie h.lock.resource c
      → QueueOk (after k taken) h.target.0 (operation h.lock.resource h.lock.cookie c)
      × QueuesAfter (Some (WritesBack h.lock.resource c)) (operation h.lock.resource h.lock.cookie c)
  queues (flush.Put first bytes) b = (b, refl)
  queues (flush.Cut size) b = (b, refl)

  abbrev queues_it : Entry
  queues_it = Queues h.target.0 (record { slot = None; op = operation h.lock.resource h.lock.cookie change })

  back_goes : Goes at before k (writes_back h.target h.lock change)
  back_goes =
      record {
        each = (
          record { lock = h; extent = x; object = refl; back = back_is; next = next; alone = idle },
          tt,
          ((queues change queued_is).0, (queues change queued_is).1, tt),
        );
        sound = record {
          bytes = subst (λ (is : List Import). IsSoundOf k.store.held (on_object h.lock.resource (flown change) k.store.patches)
              (imports_after is queues_it)) (sym same)
              (sound_back k.store.held k.store.patches k.imports s.bytes h x change i mode range next flush_is.1 idle);
          known = s.known;
          gets = subst (λ (is : List Import). AreGetsPinned k.store.held (imports_after is queues_it)) (sym same)
              (gets_back k.store.held k.imports h.target.0 h.lock.resource h.lock.cookie change s.gets);
        };
      }

-- ---- a lock is given up

module _ (at : At) (before : Option Entry) (k : Client) (s : IsSound k) (h : HeldLock) (i : In h k.store.held) (free : h.pins ≡ 0)
    (called : h.marked ≡ true)
    (serves : is_serving (import_of h.target.0 k.imports).standing ≡ true)
    (none : (x : Extent) → h.lock.ask.policy ≡ Range x → has_change x (patch_at h.lock.resource k.store.patches) ≡ false) where
  abbrev gone : Entry
  gone = Drop h.target.0 h.lock

  unused : (o : Op) → Asked k.imports h.target.0 o → names o h.lock.cookie ≡ false
  unused o a = none_names k.store.held k.store.patches k.imports s.bytes h i free none s.gets o a

  drop_is : DropOk k h.target.0 h.lock
  drop_is =
      record {
        lock = h;
        held = i;
        target = refl;
        same = refl;
        called = called;
        unpinned = free;
        serves = serves;
        unused = unused;
        clean = λ x e. record { changes = none x e; touched = clean_touched k.store.held k.store.patches k.imports s.bytes h x i e none };
      }

  same_imports : imports_after k.imports gone ≡ k.imports
  same_imports = imports_still gone (λ j. refl) 0 k.imports

  cancel_is : CancelOk (after k gone) h.target.0 k.who (import_of h.target.0 k.imports).boot h.lock.cookie
  cancel_is =
      record {
        who = refl;
        boot = ap (λ (is : List Import). (import_of h.target.0 is).boot) (sym same_imports);
        gone = λ g j t c.
            let apart : is_named (name_of h) g ≡ false = (without_only (name_of h) g k.store.held j).1 in
            let one : nat_eq h.target.0 g.target.0 ≡ true = ap (λ (n : ℕ). nat_eq h.target.0 n) t ∙ self h.target.0 in
            let two : nat_eq h.lock.cookie.0 g.lock.cookie.0 ≡ true = ap (λ (n : ℕ). nat_eq h.lock.cookie.0 n) c ∙ self h.lock.cookie.0 in
            let named : is_named (name_of h) g ≡ true = rw (one, two) refl in
            let q : true ≡ false = sym named ∙ apart in
            cc;
        unused = λ o a. unused o (subst (λ (is : List Import). Asked is h.target.0 o) same_imports a);
      }

  sent_imports : imports_after (imports_after k.imports gone) (Send (Target h.target.0)
      (message.Cancel k.who (import_of h.target.0 k.imports).boot h.lock.cookie)) ≡ k.imports
  sent_imports = imports_still (Send (Target h.target.0) (message.Cancel k.who (import_of h.target.0 k.imports).boot h.lock.cookie))
      (λ j. refl) 0 (imports_after k.imports gone) ∙ same_imports

  gives_goes : Goes at before k (Drop h.target.0 h.lock ∷ Send (Target h.target.0)
      (message.Cancel k.who (import_of h.target.0 k.imports).boot h.lock.cookie) ∷ [])
  gives_goes =
      record {
        each = (drop_is, tt, (cancel_is, (h.lock, refl, refl), tt));
        sound = record {
          bytes = subst (IsSoundOf (without (name_of h) k.store.held) k.store.patches) (sym sent_imports)
              (sound_without k.store.held k.store.patches k.imports s.bytes h i free none);
          known = known_without k.store.held h s.bytes.once i k.store.bytes k.store.sizes k.store.shown s.known;
          gets = subst (AreGetsPinned (without (name_of h) k.store.held)) (sym sent_imports)
              (gets_without k.store.held k.imports h s.bytes.once i free s.gets);
        };
      }

-- ---- a visit

-- and the locks of other names are still held after it
record Visit (at : At) (before : Option Entry) (k : Client) (h : HeldLock) (es : List Entry) : Type 0 where
  goes : Goes at before k es
  stays : (g : HeldLock) → In g k.store.held → is_named (name_of h) g ≡ false → In g (turn k es).store.held

flush_under_is : (p : Patch) (mode : Mode) (policy : Policy) (change : Flush) → flush_under p mode policy ≡ Some change → (x : Extent)
    × (mode ≡ PW) × (policy ≡ Range x) × (next_flush x p ≡ Some change)
flush_under_is p PW (Range x) change e = (x, refl, refl, e)
flush_under_is p PW (Bits bits) change e = absurd (cc)
flush_under_is p EX policy change e = absurd (cc)
flush_under_is p PR policy change e = absurd (cc)
flush_under_is p CW policy change e = absurd (cc)
flush_under_is p CR policy change e = absurd (cc)
flush_under_is p NL policy change e = absurd (cc)

-- what is called back and isn't written back has no change
must_clean : (over : Bool) (h : HeldLock) (mode : Mode) (policy : Policy) (x : Extent) (p : Patch) → mode ≡ PW → policy ≡ Range x
    → is_called h ≡ true → must_write over h mode policy p ≡ false → has_change x p ≡ false
must_clean over h mode policy x p m r called e =
    by (is_called h) (has_change x p) (over && nat_lt 0 (dirty_in x p)) called
    (ap (λ (q : Policy). must_write over h PW q p) (sym r) ∙ ap (λ (n : Mode). must_write over h n policy p) (sym m) ∙ e)
  where
    by : (a b c : Bool) → a ≡ true → ((a && b) || c) ≡ false → b ≡ false
    by true false c t e = refl
    by true true c t e = e
    by false b c t e = absurd (cc)

clean_under : (over : Bool) (k : Client) → IsSound k → (h : HeldLock) → In h k.store.held → is_called h ≡ true
    → must_write over h h.lock.ask.mode h.lock.ask.policy (patch_at h.lock.resource k.store.patches) ≡ false
    → (x : Extent) → h.lock.ask.policy ≡ Range x → has_change x (patch_at h.lock.resource k.store.patches) ≡ false
clean_under over k s h i called must x e = by (is_write h.lock.ask.mode) refl
  where
    by : (v : Bool) → is_write h.lock.ask.mode ≡ v → has_change x (patch_at h.lock.resource k.store.patches) ≡ false
    by true w = must_clean over h h.lock.ask.mode h.lock.ask.policy x (patch_at h.lock.resource k.store.patches)
        (writes_is h.lock.ask.mode w) e called must
    by false w = reader_clean k.store.held k.store.patches k.imports s.bytes h x i e w

writes_visit : (at : At) (before : Option Entry) (k : Client) → IsSound k → (h : HeldLock) → In h k.store.held
    → Visit at before k h (writes_under h (patch_at h.lock.resource k.store.patches))
writes_visit at before k s h i = by (in_flight patch) refl
  where
    patch : Patch
    patch = patch_at h.lock.resource k.store.patches

    on_next : in_flight patch ≡ false → (o : Option Flush) → flush_under patch h.lock.ask.mode h.lock.ask.policy ≡ o
        → Visit at before k h (writes_next h o)
    on_next idle None e = record { goes = none_goes at before k s; stays = λ g j a. j }
    on_next idle (Some change) e =
        let f = flush_under_is patch h.lock.ask.mode h.lock.ask.policy change e in
        record { goes = back_goes at before k s h f.0 change i f.1 f.2 f.3 idle; stays = λ g j a. j }

    by : (v : Bool) → in_flight patch ≡ v → Visit at before k h
        (if v then [] else writes_next h (flush_under patch h.lock.ask.mode h.lock.ask.policy))
    by true e = record { goes = none_goes at before k s; stays = λ g j a. j }
    by false e = on_next e (flush_under patch h.lock.ask.mode h.lock.ask.policy) refl

gives_visit : (at : At) (before : Option Entry) (over : Bool) (k : Client) → IsSound k → (h : HeldLock) → In h k.store.held
    → must_write over h h.lock.ask.mode h.lock.ask.policy (patch_at h.lock.resource k.store.patches) ≡ false
    → Visit at before k h (gives_up k.who h (import_of h.target.0 k.imports))
gives_visit at before over k s h i must = by (is_called h) refl (is_serving (import_of h.target.0 k.imports).standing) refl
  where
    by : (u : Bool) → is_called h ≡ u → (v : Bool) → is_serving (import_of h.target.0 k.imports).standing ≡ v
        → Visit at before k h (if u && v then Drop h.target.0 h.lock
        ∷ Send (Target h.target.0) (message.Cancel k.who (import_of h.target.0 k.imports).boot h.lock.cookie) ∷ [] else [])
    by true c true v =
        let parts = and_parts h.marked (nat_eq h.pins 0) c in
        record {
          goes = gives_goes at before k s h i (eqb-true h.pins 0 parts.1) parts.0 v (clean_under over k s h i c must);
          stays = λ g j a. without_other (name_of h) g k.store.held j a;
        }
    by true c false v = record { goes = none_goes at before k s; stays = λ g j a. j }
    by false c v e = record { goes = none_goes at before k s; stays = λ g j a. j }

visit_goes : (at : At) (before : Option Entry) (over : Bool) (k : Client) → IsSound k → (h : HeldLock) → In h k.store.held
    → Visit at before k h (visits over h k)
visit_goes at before over k s h i = by (must_write over h h.lock.ask.mode h.lock.ask.policy (patch_at h.lock.resource k.store.patches)) refl
  where
    by : (v : Bool) → must_write over h h.lock.ask.mode h.lock.ask.policy (patch_at h.lock.resource k.store.patches) ≡ v
        → Visit at before k h (if v then writes_under h (patch_at h.lock.resource k.store.patches)
        else gives_up k.who h (import_of h.target.0 k.imports))
    by true e = writes_visit at before k s h i
    by false e = gives_visit at before over k s h i e

-- ---- the pass

visits_go : (at : At) (before : Option Entry) (over : Bool) (held : List HeldLock) (k : Client) → IsSound k → IsOnce held
    → ((h : HeldLock) → In h held → In h k.store.held) → Goes at before k (visits_all over held k)
visits_go at before over [] k s once all = none_goes at before k s
visits_go at before over (h ∷ held) k s once all =
    let v = visit_goes at before over k s h (all h (inl refl)) in
    goes_append at before k (visits over h k) (visits_all over held (turn k (visits over h k))) v.goes
    (λ b. visits_go at b over held (turn k (visits over h k)) v.goes.sound once.1 (λ g j. v.stays g (all g (inr j)) (once.0 g j)))

pub locks_go_on : LocksGo
locks_go_on limits at before k s =
    visits_go at before (nat_lt limits.dirty (dirty_total k.store.patches)) (in_order k.store.held) k s
    (once_ordered k.store.held s.bytes.once) (λ h i. in_ordered h k.store.held i)

-- ---- the call that writes back

flushes_go : (at : At) (before : Option Entry) (k : Client) → IsSound k → (r : Resource) → in_flight (patch_at r k.store.patches) ≡ false
    → (held : List HeldLock) → ((h : HeldLock) → In h held → In h k.store.held)
    → Goes at before k (flushes r (patch_at r k.store.patches) held)
flushes_go at before k s r idle [] all = none_goes at before k s
flushes_go at before k s r idle (h ∷ held) all = by (same_resource h.lock.resource r) refl
    (flushes_go at before k s r idle held (λ g j. all g (inr j)))
  where
    patch : Patch
    patch = patch_at r k.store.patches

    next : h.lock.resource ≡ r → (o : Option Flush) → flush_under patch h.lock.ask.mode h.lock.ask.policy ≡ o
        → Goes at before k (flushes r patch held)
        → Goes at before k (elim o [ None ↦ flushes r patch held | Some change ↦ writes_back h.target h.lock change ])
    next is None e more = more
    next is (Some change) e more =
        let f = flush_under_is patch h.lock.ask.mode h.lock.ask.policy change e in
        back_goes at before k s h f.0 change (all h (inl refl)) f.1 f.2
        (subst (λ (z : Resource). next_flush f.0 (patch_at z k.store.patches) ≡ Some change) (sym is) f.3)
        (subst (λ (z : Resource). in_flight (patch_at z k.store.patches) ≡ false) (sym is) idle)

    by : (v : Bool) → same_resource h.lock.resource r ≡ v → Goes at before k (flushes r patch held)
        → Goes at before k (if v then elim (flush_under patch h.lock.ask.mode h.lock.ask.policy)
        [ None ↦ flushes r patch held | Some change ↦ writes_back h.target h.lock change ] else flushes r patch held)
    by true e more = next (object_is h.lock.resource r e) (flush_under patch h.lock.ask.mode h.lock.ask.policy) refl more
    by false e more = more

stands_go : (at : At) (before : Option Entry) (slot n : ℕ) (r : Running) (k : Client) → IsSound k
    → Goes at before k (Stands slot (at_stage r (Flushing n)) ∷ [])
stands_go at before slot n r k s =
    record {
      each = (tt, tt, tt);
      sound = let t = still k stands k.store.held k.store.patches (imports_still stands (λ j. refl) 0 k.imports) (s.bytes, s.gets)
          in record { bytes = t.0; known = s.known; gets = t.1 };
    }
  where
    stands : Entry
    stands = Stands slot (at_stage r (Flushing n))

told_goes : (at : At) (before : Option Entry) (slot : ℕ) (r : Running) (k : Client) → r.pins ≡ [] → IsSound k
    → Goes at before k (tells slot r at answer.Done None)
told_goes at before slot r k bare s =
    subst (λ (names : List LockName). Goes at before k (Told slot at answer.Done None ∷ unpins names)) (sym bare)
    (record {
      each = (tt, tt, tt);
      sound = let t = still k told k.store.held k.store.patches (imports_still told (λ j. refl) 0 k.imports)
          (s.bytes, s.gets) in record { bytes = t.0; known = s.known; gets = t.1 };
    })
  where
    told : Entry
    told = Told slot at answer.Done None

pub flush_goes : FlushGoes
flush_goes at before slot r f [] k bare s = told_goes at before slot r k bare s
flush_goes at before slot r f (n ∷ ns) k bare s = by (in_flight patch) refl (is_clean patch) (flush_goes at before slot r f ns k bare s)
  where
    patch : Patch
    patch = patch_at (object f.fid n) k.store.patches

    stands : List Entry
    stands = Stands slot (at_stage r (Flushing n)) ∷ []

    writes : List Entry
    writes = flushes (object f.fid n) patch (in_order k.store.held)

    waits : (b : Option Entry) (j : Client) → IsSound j → Goes at b j stands
    waits b j t = stands_go at b slot n r j t

    by : (u : Bool) → in_flight patch ≡ u → (v : Bool) → Goes at before k (flush_from at slot r f ns k.store)
        → Goes at before k (if u then stands else if v then flush_from at slot r f ns k.store else writes ++ stands)
    by true e v more = waits before k s
    by false e true more = more
    by false e false more =
        let g = flushes_go at before k s (object f.fid n) e (in_order k.store.held) (λ h i. in_ordered h k.store.held i) in
        goes_append at before k writes stands g (λ b. waits b (turn k writes) g.sound)

pub flushing_goes : FlushingGoes
flushing_goes at before slot stripe r k bare s = by r.file
  where
    by : (o : Option HandleFile) → Goes at before k (flushing at slot stripe r o k.store)
    by None = none_goes at before k s
    by (Some f) = flush_goes at before slot r f (drop stripe (stripes f.layout)) k bare s

-- ---- unused locks are marked

marks_go : (at : At) (before : Option Entry) (locks : List HeldLock) (k : Client) → IsSound k → Goes at before k (marks_of locks)
marks_go at before [] k s = none_goes at before k s
marks_go at before (h ∷ locks) k s = goes_append at before k (Marks (name_of h) ∷ []) (marks_of locks) one
    (λ b. marks_go at b locks (after k (Marks (name_of h))) one.sound)
  where
    mark : HeldLock → HeldLock
    mark g = if is_named (name_of h) g then changed_by lock.Mark g else g

    keeps : {A : Type 0} (f : HeldLock → A) → ((g : HeldLock) → f (changed_by lock.Mark g) ≡ f g) → (g : HeldLock) → f (mark g) ≡ f g
    keeps f same g = by (is_named (name_of h) g)
      where
        by : (v : Bool) → f (if v then changed_by lock.Mark g else g) ≡ f g
        by true = same g
        by false = refl

    one : Goes at before k (Marks (name_of h) ∷ [])
    one =
        record {
          each = (tt, tt, tt);
          sound =
              let t = still k (Marks (name_of h)) (after k (Marks (name_of h))).store.held k.store.patches
              (imports_still (Marks (name_of h)) (λ j. refl) 0 k.imports) (
                sound_map k.store.held k.store.patches k.imports s.bytes mark (keeps (λ g. g.lock) (λ g. refl))
                    (keeps (λ g. g.target) (λ g. refl)),
                gets_map k.store.held k.imports mark (keeps (λ g. g.lock) (λ g. refl)) (keeps (λ g. g.target) (λ g. refl))
                    (λ g p. subst (λ (n : ℕ). 0 < n) (sym (keeps (λ g. g.pins) (λ g. refl) g)) p) s.gets,
              )
              in record {
                bytes = t.0;
                known = known_still k.store.held (map mark k.store.held) k.store.bytes k.store.sizes k.store.shown
                    (still_map mark (keeps (λ g. g.lock) (λ g. refl)) k.store.held) s.known;
                gets = t.1;
              };
        }

pub trims_go : TrimsGo
trims_go limits at before k s = marks_go at before (reverse (drop limits.unused (filter is_free k.store.held))) k s
