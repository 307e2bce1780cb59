-- The pins of calls, entry by entry.
use Rattle.std.proofs.Common.{◌≡◌, inl, inr, ℕ, zero, suc, ◌+◌, ◌-◌, ◌<◌, ◌≤◌, Bool, true, false, List, [], ◌∷◌, ◌++◌, length, Option, Some}
use Rattle.std.proofs.Common.{None, refl, sym, ap, subst, ◌∙◌, arith}
use Rattle.std.specs.Prelude.{nat_eq, nat_lt, min, ◌&&◌, if◌then◌else◌, drop, reverse, filter}
use Rattle.std.proofs.lemmas.List.{append-nil}
use Rattle.std.proofs.lemmas.Bool.Decides.{nat_tests}
use Rattle.lu_base.specs.declared.ids.At.{At}
use Rattle.lu_base.specs.declared.locks.Lock.{Lock}
use Rattle.lu_base.specs.declared.ids.Node.TheVariants.{Target}
use Rattle.lu_base.specs.declared.locks.Resource.{Resource}
use Rattle.lu_msg.specs.declared.messages.Message.TheVariants as message
use Rattle.lu_spec_entries.specs.declared.changes.Flush.{Flush}
use Rattle.lu_msg.specs.declared.answers.Answer.{Answer}
use Rattle.lu_msg.specs.declared.answers.Answer.TheVariants as answer
use Rattle.lu_layout.specs.Raid0.{Raid0}
use Rattle.lu_held.specs.declared.locks.Change.TheVariants as lock
use Rattle.lu_held.specs.declared.locks.HeldLock.{HeldLock}
use Rattle.lu_held.specs.declared.locks.Use.{Use}
use Rattle.lu_held.specs.declared.names.LockName.{LockName}
use Rattle.lu_held.specs.Names.{same_name}
use Rattle.lu_held.specs.Locks.{name_of, named, is_named, is_free, same_resource, most_pins, after as changed_by}
use Rattle.lu_held.specs.Held.{changed, serving, in_order}
use Rattle.lu_spec_entries.specs.declared.uses.Using.{Using}
use Rattle.lu_spec_entries.specs.Carried.{HandleFile, Asking, Asked, Flushing, Kind, Narrow, Wide, Writes, Cuts, Stats, Glimpses, Work}
use Rattle.lu_spec_entries.specs.Carried.{Running}
use Rattle.lu_spec_entries.specs.Words.{Entry, Send, Drop, Told, Queues, Stands, Pins, Unpins, Marks, Changes, WritesBack, Shows}
use Rattle.lu_spec_client.specs.Calls.{asks, asks_for, call_after, calls_from, call_on}
use Rattle.lu_spec_client.specs.States.{Client, Store, store_turn, after, turn}
use Rattle.lu_spec_client.specs.Stripes.{stripes, object}
use Rattle.lu_spec_client.specs.Imports.{import_of, is_serving}
use Rattle.lu_spec_client.specs.Patches.{Patch, in_flight}
use Rattle.lu_spec_client.specs.Caches.{patch_at}
use Rattle.lu_spec_client.specs.WriteBack.{writes_back, flush_under, flushes, is_clean, flush_from, flushing}
use Rattle.lu_spec_client.specs.Locks.{marks_of, dirty_total, is_called, must_write, writes_next, writes_under, gives_up, visits}
use Rattle.lu_spec_client.specs.Locks.{visits_all}
use Rattle.lu_spec_client.specs.Looks.{Page, missing, content, file_size, has_reached}
use Rattle.lu_spec_client.specs.Advances.{at_stage, pinned, unpins, tells, name_under, using, Next, takes_up, looks_on, looks, comes, gets}
use Rattle.lu_spec_client.specs.Advances.{reads_wide, widened, widens, reads_narrow, writes, cuts, acts}
use Rattle.lu_spec_client.specs.Starts.{looks_at, comes_at, work_on, pins, with_pins}
use Rattle.lu_proof_objects.specs.Sound.{In, one_if}
use Rattle.lu_proof_objects.specs.Uses.{IsOnBytes}
use Rattle.lu_proof_objects.specs.Pins.{count_of, names_on, pins_of, others, IsCounted, Balanced, pinned_in, CallsBalanced, LocksBalanced}
use Rattle.lu_proof_objects.specs.Pins.{CountsStay, CountedPinned}
use Rattle.lu_proof_objects.proofs.Lists.{in_map, names_same, own_name, without_only}
use Rattle.lu_proof_objects.proofs.Using.{done, done_same, used_only}

-- ---- the rows

abbrev NextBalanced : ℕ → Next → Type 0
NextBalanced slot next = (standing : List LockName) (r : Running) (w : Work) (s : Store) → Balanced slot standing r.pins (next r w s)

unpins_balanced : (slot : ℕ) (standing names : List LockName) (es : List Entry) → Balanced slot standing [] es
    → Balanced slot standing names (unpins names ++ es)
unpins_balanced slot standing [] es b = b
unpins_balanced slot standing (n ∷ names) es b = (names, refl, unpins_balanced slot standing names es b)

told_balanced : (at : At) (slot : ℕ) (a : Answer) (work : Option Work) (standing : List LockName) (r : Running)
    → Balanced slot standing r.pins (tells slot r at a work)
told_balanced at slot a work standing r = (
  refl,
  subst (Balanced slot [] r.pins) (append-nil (unpins r.pins))
      (unpins_balanced slot [] r.pins [] refl),
)

looks_balanced : (slot : ℕ) (next : Next) → NextBalanced slot next → (left : List Use) → NextBalanced slot (looks slot next left)
looks_balanced slot next b [] standing r w s = b standing r w s
looks_balanced slot next b (wanted ∷ left) standing r w s = by (serving wanted s.held) (looks_balanced slot next b left)
  where
    by : (o : Option HeldLock) → NextBalanced slot (looks slot next left)
        → Balanced slot standing r.pins (looks_on slot (λ h. takes_up slot wanted h.lock left (looks slot next left) r w s) wanted left r w
        o)
    by None more = (refl, refl, refl)
    by (Some h) more = more standing (pinned (name_under wanted h.lock) r) (using wanted h.lock left w)
        (store_turn s (Pins (name_under wanted h.lock) ∷ []))

-- what comes does, or nothing is left
comes_balanced : (slot : ℕ) (next : Next) → NextBalanced slot next → (l : Lock) (left : List Use) (r : Running) (w : Work) (s : Store)
    → Balanced slot r.pins r.pins (comes slot next l left r w s)
comes_balanced slot next b l [] r w s = refl
comes_balanced slot next b l (wanted ∷ left) r w s = looks_balanced slot next b left r.pins (pinned (name_under wanted l) r)
    (using wanted l left w) (store_turn s (Pins (name_under wanted l) ∷ []))

wide_balanced : (at : At) (slot p n : ℕ) → NextBalanced slot (reads_wide at slot p n)
wide_balanced at slot p n standing r w s = by (missing w.layout p (p + n) s w.used)
  where
    bytes : List ℕ
    bytes = content w.layout w.fid s p (min n (file_size w.layout (stripes w.layout) w.used s - p))

    by : (o : Option Page) → Balanced slot standing r.pins (elim o
        [ Some g ↦ gets slot g r w | None ↦ tells slot r at (answer.Content bytes) (Some w) ])
    by (Some g) = (refl, refl, refl)
    by None = told_balanced at slot (answer.Content bytes) (Some w) standing r

widens_balanced : (at : At) (slot p n : ℕ) → NextBalanced slot (widens at slot p n)
widens_balanced at slot p n standing r w s =
    unpins_balanced slot standing r.pins (looks slot (reads_wide at slot p n) (widened p n w).left (record r { pins = [] }) (widened p n w)
    (store_turn s (unpins r.pins)))
    (looks_balanced slot (reads_wide at slot p n) (wide_balanced at slot p n) (widened p n w).left standing (record r { pins = [] })
    (widened p n w) (store_turn s (unpins r.pins)))

narrow_balanced : (at : At) (slot p n : ℕ) → NextBalanced slot (reads_narrow at slot p n)
narrow_balanced at slot p n standing r w s = by (missing w.layout p (p + n) s w.used)
  where
    told : Answer
    told = answer.Content (content w.layout w.fid s p n)

    reach : (v : Bool) → Balanced slot standing r.pins (if v then tells slot r at told (Some w) else widens at slot p n r w s)
    reach true = told_balanced at slot told (Some w) standing r
    reach false = widens_balanced at slot p n standing r w s

    by : (o : Option Page) → Balanced slot standing r.pins (elim o [
      | Some g ↦ gets slot g r w
      | None ↦ if has_reached w.layout (p + n - 1) w.used s then tells slot r at told (Some w)
          else widens at slot p n r w s
    ])
    by (Some g) = (refl, refl, refl)
    by None = reach (has_reached w.layout (p + n - 1) w.used s)

writes_balanced : (slot : ℕ) (standing names : List LockName) (l : Raid0) (p : ℕ) (bs : List ℕ) (us : List Using) (es : List Entry)
    → Balanced slot standing names es → Balanced slot standing names (writes l p bs us ++ es)
writes_balanced slot standing names l p bs [] es b = b
writes_balanced slot standing names l p bs (u ∷ us) es b = writes_balanced slot standing names l p bs us es b

cuts_balanced : (slot : ℕ) (standing names : List LockName) (l : Raid0) (n : ℕ) (us : List Using) (es : List Entry)
    → Balanced slot standing names es → Balanced slot standing names (cuts l n us ++ es)
cuts_balanced slot standing names l n [] es b = b
cuts_balanced slot standing names l n (u ∷ us) es b = cuts_balanced slot standing names l n us es b

acts_balanced : (at : At) (slot : ℕ) (kind : Kind) → IsOnBytes kind → NextBalanced slot (acts at slot kind)
acts_balanced at slot (Narrow p n) b standing r w s = narrow_balanced at slot p n standing r w s
acts_balanced at slot (Wide p n) b standing r w s = wide_balanced at slot p n standing r w s
acts_balanced at slot (Writes p bs) b standing r w s = writes_balanced slot standing r.pins w.layout p bs w.used
    (tells slot r at answer.Done (Some w)) (told_balanced at slot answer.Done (Some w) standing r)
acts_balanced at slot (Cuts n) b standing r w s = cuts_balanced slot standing r.pins w.layout n w.used
    (tells slot r at answer.Done (Some w)) (told_balanced at slot answer.Done (Some w) standing r)
acts_balanced at slot (Stats mode links) b standing r w s = told_balanced at slot
    (answer.FileSize w.fid mode links (file_size w.layout (stripes w.layout) w.used s)) (Some w) standing r
acts_balanced at slot (Glimpses sizes) b standing r w s = absurd b

-- ---- in each stage

looks_at_balanced : (at : At) (slot : ℕ) (kind : Kind) (r : Running) (w : Work) (s : Store) (standing : List LockName) → IsOnBytes kind
    → Balanced slot standing r.pins (looks_at at slot kind r w s)
looks_at_balanced at slot (Narrow p n) r w s standing b = looks_balanced slot (acts at slot (Narrow p n))
    (acts_balanced at slot (Narrow p n) b) w.left standing r w s
looks_at_balanced at slot (Wide p n) r w s standing b = looks_balanced slot (acts at slot (Wide p n)) (acts_balanced at slot (Wide p n) b)
    w.left standing r w s
looks_at_balanced at slot (Writes p bs) r w s standing b = looks_balanced slot (acts at slot (Writes p bs))
    (acts_balanced at slot (Writes p bs) b) w.left standing r w s
looks_at_balanced at slot (Cuts n) r w s standing b = looks_balanced slot (acts at slot (Cuts n)) (acts_balanced at slot (Cuts n) b) w.left
    standing r w s
looks_at_balanced at slot (Stats mode links) r w s standing b =
    looks_balanced slot (acts at slot (Stats mode links)) (acts_balanced at slot (Stats mode links) b) w.left standing r w s
looks_at_balanced at slot (Glimpses sizes) r w s standing b = absurd b

comes_at_balanced : (at : At) (slot : ℕ) (kind : Kind) (r : Running) (w : Work) (s : Store) (l : Lock) → IsOnBytes kind
    → Balanced slot r.pins r.pins (comes_at at slot kind r w s l)
comes_at_balanced at slot (Narrow p n) r w s l b = comes_balanced slot (acts at slot (Narrow p n)) (acts_balanced at slot (Narrow p n) b) l
    w.left r w s
comes_at_balanced at slot (Wide p n) r w s l b = comes_balanced slot (acts at slot (Wide p n)) (acts_balanced at slot (Wide p n) b) l w.left
    r w s
comes_at_balanced at slot (Writes p bs) r w s l b = comes_balanced slot (acts at slot (Writes p bs)) (acts_balanced at slot (Writes p bs) b)
    l w.left r w s
comes_at_balanced at slot (Cuts n) r w s l b = comes_balanced slot (acts at slot (Cuts n)) (acts_balanced at slot (Cuts n) b) l w.left r w s
comes_at_balanced at slot (Stats mode links) r w s l b = comes_balanced slot (acts at slot (Stats mode links))
    (acts_balanced at slot (Stats mode links) b) l w.left r w s
comes_at_balanced at slot (Glimpses sizes) r w s l b = absurd b

pins_balanced : (slot : ℕ) (standing before names : List LockName) (es : List Entry) → Balanced slot standing (before ++ names) es
    → Balanced slot standing before (pins names ++ es)
pins_balanced slot standing before [] es b = subst (λ (ns : List LockName). Balanced slot standing ns es) (append-nil before) b
pins_balanced slot standing before (n ∷ names) es b = pins_balanced slot standing (before ++ n ∷ []) names es
    (subst (λ (ns : List LockName). Balanced slot standing ns es) (joined before) b)
  where
    joined : (xs : List LockName) → xs ++ n ∷ names ≡ (xs ++ n ∷ []) ++ names
    joined [] = refl
    joined (x ∷ xs) = ap (λ (ys : List LockName). x ∷ ys) (joined xs)

pub calls_balanced : CallsBalanced
calls_balanced =
    record {
      looks = λ at slot r w k b. looks_at_balanced at slot w.kind r w k.store r.pins b;
      comes = λ at slot r w l k b. comes_at_balanced at slot w.kind r w k.store l b;
      stats = λ at slot fid layout kind names r k b.
          pins_balanced slot r.pins r.pins names (looks_at at slot kind (with_pins names r) (work_on fid layout kind)
          (store_turn k.store (pins names)))
          (looks_at_balanced at slot kind (with_pins names r) (work_on fid layout kind) (store_turn k.store (pins names)) r.pins b);
    }

-- ---- the count

pins_split : (slot : ℕ) (name : LockName) (calls : List (Option Running)) → pins_of name calls
    ≡ count_of name (names_on (call_on slot calls)) + others slot name calls
pins_split slot name [] = refl
pins_split zero name (c ∷ calls) = refl
pins_split (suc slot) name (c ∷ calls) = let e = pins_split slot name calls in omega (arith, e)

count_more : (name n : LockName) (names : List LockName) → count_of name (names ++ n ∷ []) ≡ count_of name names + one_if (same_name name n)
count_more name n [] = omega arith
count_more name n (m ∷ names) = let e = count_more name n names in omega (arith, e)

-- ---- calls on other slots

rest_stay : (e : Entry) (base : ℕ) (name : LockName) (calls : List (Option Running))
    → ((s : ℕ) (c : Option Running) → base ≤ s → names_on (call_after s c e) ≡ names_on c)
    → pins_of name (calls_from base calls e) ≡ pins_of name calls
rest_stay e base name [] same = refl
rest_stay e base name (c ∷ calls) same =
    let a = ap (count_of name) (same base c (omega arith)) in
    let b = rest_stay e (suc base) name calls (λ s d h. same s d (omega (arith, h))) in
    omega (arith, a, b)

others_stay : (e : Entry) (slot base : ℕ) (name : LockName) (calls : List (Option Running))
    → ((s : ℕ) (c : Option Running) → nat_eq (base + slot) s ≡ false → names_on (call_after s c e) ≡ names_on c)
    → others slot name (calls_from base calls e) ≡ others slot name calls
others_stay e slot base name [] same = refl
others_stay e zero base name (c ∷ calls) same = rest_stay e (suc base) name calls (λ s d h. same s d (grind (arith, nat_tests, h)))
others_stay e (suc slot) base name (c ∷ calls) same =
    let a = ap (count_of name) (same base c (grind (arith, nat_tests))) in
    let b = others_stay e slot (suc base) name calls (λ s d h. same s d (grind (arith, nat_tests, h))) in
    omega (arith, a, b)

call_there : (e : Entry) (slot base : ℕ) (calls : List (Option Running)) → slot < length calls → call_on slot (calls_from base calls e)
    ≡ call_after (base + slot) (call_on slot calls) e
call_there e slot base [] less = absurd (omega (arith, less))
call_there e zero base (c ∷ calls) less = ap (λ (n : ℕ). call_after n c e) (let same : base ≡ base + 0 = omega arith in same)
call_there e (suc slot) base (c ∷ calls) less = call_there e slot (suc base) calls (omega (arith, less))
    ∙ ap (λ (n : ℕ). call_after n (call_on slot calls) e) (let same : suc base + slot ≡ base + suc slot = omega arith in same)

as_many : (e : Entry) (base : ℕ) (calls : List (Option Running)) → length (calls_from base calls e) ≡ length calls
as_many e base [] = refl
as_many e base (c ∷ calls) = ap suc (as_many e (suc base) calls)

asked_names : (served : Option ℕ) (s : ℕ) (a : Asking) (c : Option Running) → names_on (asks_for served s a c) ≡ names_on c
asked_names None s a c = refl
asked_names (Some n) s a c = by (nat_eq n s) c
  where
    by : (v : Bool) (c : Option Running) → names_on (if v then asks a c else c) ≡ names_on c
    by true None = refl
    by true (Some r) = refl
    by false c = refl

-- ---- one entry

-- the call on the slot, with the pins that it has so far
record Counts (k : Client) (slot : ℕ) (standing names : List LockName) (more : ℕ) : Type 0 where
  there : slot < length k.calls
  stands : standing ≡ names_on (call_on slot k.calls)
  few : (name : LockName) → count_of name names + others slot name k.calls + more ≤ most_pins
  counted : (h : HeldLock) → In h k.store.held → count_of (name_of h) names + others slot (name_of h) k.calls ≤ h.pins

-- an entry that leaves the calls of other slots
module _ (k : Client) (slot more : ℕ) (standing names : List LockName) (c : Counts k slot standing names more) (e : Entry)
    (keeps : (s : ℕ) (d : Option Running) → nat_eq slot s ≡ false → names_on (call_after s d e) ≡ names_on d) where
  others_same : (name : LockName) → others slot name (after k e).calls ≡ others slot name k.calls
  others_same name = others_stay e slot 0 name k.calls (λ s d h. keeps s d
      (ap (λ (n : ℕ). nat_eq n s) (let same : slot ≡ 0 + slot = omega arith in same) ∙ h))

  call_is : call_on slot (after k e).calls ≡ call_after slot (call_on slot k.calls) e
  call_is = call_there e slot 0 k.calls c.there ∙ ap (λ (n : ℕ). call_after n (call_on slot k.calls) e)
      (let same : 0 + slot ≡ slot = omega arith in same)

  still_there : slot < length (after k e).calls
  still_there = subst (λ (n : ℕ). slot < n) (sym (as_many e 0 k.calls)) c.there

  -- what stands on the slot, where the held locks stay
  steps_by : (now : List LockName) → now ≡ names_on (call_after slot (call_on slot k.calls) e)
      → ((h : HeldLock) → In h (after k e).store.held → (g : HeldLock) × In g k.store.held × (name_of g ≡ name_of h) × (g.pins ≡ h.pins))
      → Counts (after k e) slot now names more
  steps_by now is held =
      record {
        there = still_there;
        stands = is ∙ ap names_on (sym call_is);
        few = λ name. let o = others_same name in let f = c.few name in omega (arith, o, f);
        counted = λ h i.
            let g = held h i in
            let o = others_same (name_of h) in
            let f = subst (λ (name : LockName). count_of name names + others slot name k.calls ≤ g.0.pins) g.2 (c.counted g.0 g.1) in
            let p = g.3 in
            omega (arith, o, f, p);
      }

  steps : (now : List LockName) → now ≡ names_on (call_after slot (call_on slot k.calls) e) → (after k e).store.held ≡ k.store.held
      → Counts (after k e) slot now names more
  steps now is held = steps_by now is (λ h i. (h, subst (λ (locks : List HeldLock). In h locks) held i, refl, refl))

named_back : (n m : LockName) (v : Bool) → same_name n m ≡ v → same_name m n ≡ v
named_back n m true e = let is = names_same n m e in ap (λ (x : LockName). same_name m x) is ∙ own_name m
named_back n m false e = by (same_name m n) refl
  where
    by : (w : Bool) → same_name m n ≡ w → w ≡ false
    by false f = refl
    by true f = absurd (let is = names_same m n f in let t : same_name n m ≡ true = ap (λ (x : LockName). same_name n x) is ∙ own_name n
        in let q : true ≡ false = sym t ∙ e in cc)

pin_step : (k : Client) (slot more : ℕ) (standing names : List LockName) (n : LockName) → Counts k slot standing names (1 + more)
    → Counts (after k (Pins n)) slot standing (names ++ n ∷ []) more
pin_step k slot more standing names n c =
    record {
      there = still_there k slot (1 + more) standing names c (Pins n) (λ s d h. refl);
      stands = c.stands ∙ ap names_on (sym (call_is k slot (1 + more) standing names c (Pins n) (λ s d h. refl)));
      few = λ name.
          let o = others_same k slot (1 + more) standing names c (Pins n) (λ s d h. refl) name in
          let f = c.few name in
          let m = count_more name n names in
          let one = most_one (same_name name n) in
          omega (arith, o, f, m, one);
      counted = λ h i. let r = in_map (done lock.Pin n) h k.store.held i in each r.0 r.1 h r.2;
    }
  where
    most_one : (v : Bool) → one_if v ≤ 1
    most_one true = omega arith
    most_one false = omega arith

    HasPins : HeldLock → Type 0
    HasPins h = count_of (name_of h) (names ++ n ∷ []) + others slot (name_of h) (after k (Pins n)).calls ≤ h.pins

    each : (g : HeldLock) → In g k.store.held → (h : HeldLock) → done lock.Pin n g ≡ h → HasPins h
    each g i h is = subst HasPins is (by (is_named n g) refl)
      where
        old : count_of (name_of g) names + others slot (name_of g) k.calls ≤ g.pins
        old = c.counted g i

        room : count_of (name_of g) names + others slot (name_of g) k.calls + (1 + more) ≤ most_pins
        room = c.few (name_of g)

        added : count_of (name_of g) (names ++ n ∷ []) ≡ count_of (name_of g) names + one_if (same_name (name_of g) n)
        added = count_more (name_of g) n names

        same : others slot (name_of g) (after k (Pins n)).calls ≡ others slot (name_of g) k.calls
        same = others_same k slot (1 + more) standing names c (Pins n) (λ s d h. refl) (name_of g)

        by : (v : Bool) → is_named n g ≡ v → HasPins (if v then changed_by lock.Pin g else g)
        by true e = let one : one_if (same_name (name_of g) n) ≡ 1 = ap one_if (named_back n (name_of g) true e)
            in omega (arith, old, room, added, same, one)
        by false e = let one : one_if (same_name (name_of g) n) ≡ 0 = ap one_if (named_back n (name_of g) false e)
            in omega (arith, old, room, added, same, one)

unpin_step : (k : Client) (slot more : ℕ) (standing rest : List LockName) (n : LockName) → Counts k slot standing (n ∷ rest) more
    → Counts (after k (Unpins n)) slot standing rest more
unpin_step k slot more standing rest n c =
    record {
      there = still_there k slot more standing (n ∷ rest) c (Unpins n) (λ s d h. refl);
      stands = c.stands ∙ ap names_on (sym (call_is k slot more standing (n ∷ rest) c (Unpins n) (λ s d h. refl)));
      few = λ name. let o = others_same k slot more standing (n ∷ rest) c (Unpins n) (λ s d h. refl) name in let f = c.few name
          in omega (arith, o, f);
      counted = λ h i. let r = in_map (done lock.Unpin n) h k.store.held (used_only n h (changed n lock.Unpin k.store.held) i)
          in each r.0 r.1 h r.2;
    }
  where
    HasPins : HeldLock → Type 0
    HasPins h = count_of (name_of h) rest + others slot (name_of h) (after k (Unpins n)).calls ≤ h.pins

    each : (g : HeldLock) → In g k.store.held → (h : HeldLock) → done lock.Unpin n g ≡ h → HasPins h
    each g i h is = subst HasPins is (by (is_named n g) refl)
      where
        old : one_if (same_name (name_of g) n) + count_of (name_of g) rest + others slot (name_of g) k.calls ≤ g.pins
        old = c.counted g i

        same : others slot (name_of g) (after k (Unpins n)).calls ≡ others slot (name_of g) k.calls
        same = others_same k slot more standing (n ∷ rest) c (Unpins n) (λ s d h. refl) (name_of g)

        by : (v : Bool) → is_named n g ≡ v → HasPins (if v then changed_by lock.Unpin g else g)
        by true e = let one : one_if (same_name (name_of g) n) ≡ 1 = ap one_if (named_back n (name_of g) true e)
            in omega (arith, old, same, one)
        by false e = omega (arith, old, same)

-- ---- all entries of a row

on_slot : {A : Type 0} (n s : ℕ) (x y : A) → nat_eq n s ≡ false → (if nat_eq n s then x else y) ≡ y
on_slot n s x y e = rw e refl

here : {A : Type 0} (n s : ℕ) (x y : A) → n ≡ s → x ≡ (if nat_eq n s then x else y)
here n s x y e = let t : nat_eq n s ≡ true = grind (arith, nat_tests, e) in rw t refl

stay : (slot : ℕ) (standing names : List LockName) (es : List Entry) (k : Client) → Balanced slot standing names es
    → Counts k slot standing names (pinned_in es) → IsCounted (turn k es)
stay slot standing names [] k b c = λ h i.
    let s = pins_split slot (name_of h) k.calls in
    let same : count_of (name_of h) (names_on (call_on slot k.calls)) ≡ count_of (name_of h) names =
    ap (count_of (name_of h)) (sym c.stands ∙ b) in
    let f = c.counted h i in
    omega (arith, s, same, f)
stay slot standing names (Pins n ∷ es) k b c = stay slot standing (names ++ n ∷ []) es (after k (Pins n)) b
    (pin_step k slot (pinned_in es) standing names n c)
stay slot standing names (Unpins n ∷ es) k b c = stay slot standing b.0 es (after k (Unpins n)) b.2
    (unpin_step k slot (pinned_in es) standing b.0 n (subst (λ (ns : List LockName). Counts k slot standing ns (pinned_in es)) b.1 c))
stay slot standing names (Stands n r ∷ es) k b c =
    stay slot names names es (after k (Stands n r)) b.2
    (steps k slot (pinned_in es) standing names c (Stands n r) (λ s d h. ap names_on
    (on_slot n s (Some r) d (ap (λ (m : ℕ). nat_eq m s) b.0 ∙ h))) names
    (sym b.1 ∙ ap names_on (here n slot (Some r) (call_on slot k.calls) b.0)) refl)
stay slot standing names (Told n at a work ∷ es) k b c =
    stay slot [] names es (after k (Told n at a work)) b.1
    (steps k slot (pinned_in es) standing names c (Told n at a work)
    (λ s d h. ap names_on (on_slot n s None d (ap (λ (m : ℕ). nat_eq m s) b.0 ∙ h))) []
    (ap names_on (here n slot None (call_on slot k.calls) b.0)) refl)
stay slot standing names (Queues t q ∷ es) k b c =
    stay slot standing names es (after k (Queues t q)) b
    (steps k slot (pinned_in es) standing names c (Queues t q) (λ s d h. asked_names q.slot s Asked d) standing
    (c.stands ∙ sym (asked_names q.slot slot Asked (call_on slot k.calls))) refl)
stay slot standing names (Changes r change ∷ es) k b c = stay slot standing names es (after k (Changes r change)) b
    (steps k slot (pinned_in es) standing names c (Changes r change) (λ s d h. refl) standing c.stands refl)
stay slot standing names (Shows r cookie last ∷ es) k b c = stay slot standing names es (after k (Shows r cookie last)) b
    (steps k slot (pinned_in es) standing names c (Shows r cookie last) (λ s d h. refl) standing c.stands refl)
stay slot standing names (WritesBack r change ∷ es) k b c = stay slot standing names es (after k (WritesBack r change)) b
    (steps k slot (pinned_in es) standing names c (WritesBack r change) (λ s d h. refl) standing c.stands refl)
stay slot standing names (Send to m ∷ es) k b c = stay slot standing names es (after k (Send to m)) b
    (steps k slot (pinned_in es) standing names c (Send to m) (λ s d h. refl) standing c.stands refl)
stay slot standing names (Drop t l ∷ es) k b c =
    stay slot standing names es (after k (Drop t l)) b
    (steps_by k slot (pinned_in es) standing names c (Drop t l) (λ s d h. refl) standing c.stands
    (λ h i. (h, (without_only (named (record { 0 = t }) l.cookie) h k.store.held i).0, refl, refl)))
stay slot standing names (Marks n ∷ es) k b c =
    stay slot standing names es (after k (Marks n)) b
    (steps_by k slot (pinned_in es) standing names c (Marks n) (λ s d h. refl) standing c.stands
    (λ h i. let r = in_map (done lock.Mark n) h k.store.held i in (
      r.0,
      r.1,
      sym (done_same name_of lock.Mark n (λ g. refl) r.0) ∙ ap name_of r.2,
      sym (done_same (λ g. g.pins) lock.Mark n (λ g. refl) r.0) ∙ ap (λ (g : HeldLock). g.pins) r.2,
    )))
stay slot standing names (_ ∷ es) k b c = absurd b

there_if : (slot : ℕ) (calls : List (Option Running)) (r : Running) → call_on slot calls ≡ Some r → slot < length calls
there_if slot [] r e = absurd (cc)
there_if zero (c ∷ calls) r e = omega arith
there_if (suc slot) (c ∷ calls) r e = let h = there_if slot calls r e in omega (arith, h)

pub counts_stay : CountsStay
counts_stay slot r es k on b few counted =
    stay slot r.pins r.pins es k b
    (record {
      there = there_if slot k.calls r on;
      stands = ap names_on (sym on);
      few = λ name. let s = split name in let f = few name in omega (arith, s, f);
      counted = λ h i. let s = split (name_of h) in let f = counted h i in omega (arith, s, f);
    })
  where
    split : (name : LockName) → pins_of name k.calls ≡ count_of name r.pins + others slot name k.calls
    split name = pins_split slot name k.calls ∙ ap (λ (c : Option Running). count_of name (names_on c) + others slot name k.calls) on

-- ---- a lock among the pins of a call

one_count : (name : LockName) (names : List LockName) → In name names → 0 < count_of name names
one_count name [] i = absurd i
one_count name (n ∷ names) (inl e) = let t : one_if (same_name name n) ≡ 1 =
    ap one_if (ap (λ (m : LockName). same_name name m) e ∙ own_name name) in omega (arith, t)
one_count name (n ∷ names) (inr i) = let h = one_count name names i in omega (arith, h)

pub counted_pinned : CountedPinned
counted_pinned slot r h k on i held counted =
    let s = pins_split slot (name_of h) k.calls in
    let same : count_of (name_of h) (names_on (call_on slot k.calls)) ≡ count_of (name_of h) r.pins =
    ap (λ (c : Option Running). count_of (name_of h) (names_on c)) on in
    let one = one_count (name_of h) r.pins i in
    let f = counted h held in
    omega (arith, s, same, one, f)

-- ---- the rows that write back

module _ (slot : ℕ) (standing names : List LockName) where
  marks_balanced : (locks : List HeldLock) → standing ≡ names → Balanced slot standing names (marks_of locks)
  marks_balanced [] e = e
  marks_balanced (h ∷ locks) e = marks_balanced locks e

  visit_balanced : (over : Bool) (h : HeldLock) (k : Client) (es : List Entry) → Balanced slot standing names es
      → Balanced slot standing names (visits over h k ++ es)
  visit_balanced over h k es b = by (must_write over h h.lock.ask.mode h.lock.ask.policy patch)
    where
      patch : Patch
      patch = patch_at h.lock.resource k.store.patches

      next : (o : Option Flush) → Balanced slot standing names (writes_next h o ++ es)
      next None = b
      next (Some change) = b

      writes_it : (v : Bool) → Balanced slot standing names ((if v then []
          else writes_next h (flush_under patch h.lock.ask.mode h.lock.ask.policy)) ++ es)
      writes_it true = b
      writes_it false = next (flush_under patch h.lock.ask.mode h.lock.ask.policy)

      gives : (v : Bool) → Balanced slot standing names ((if v then Drop h.target.0 h.lock
          ∷ Send (Target h.target.0) (message.Cancel k.who (import_of h.target.0 k.imports).boot h.lock.cookie) ∷ [] else []) ++ es)
      gives true = b
      gives false = b

      by : (v : Bool) → Balanced slot standing names ((if v then writes_under h patch
          else gives_up k.who h (import_of h.target.0 k.imports)) ++ es)
      by true = writes_it (in_flight patch)
      by false = gives (is_called h && is_serving (import_of h.target.0 k.imports).standing)

  visits_balanced : (over : Bool) (locks : List HeldLock) (k : Client) → standing ≡ names
      → Balanced slot standing names (visits_all over locks k)
  visits_balanced over [] k e = e
  visits_balanced over (h ∷ locks) k e = visit_balanced over h k (visits_all over locks (turn k (visits over h k)))
      (visits_balanced over locks (turn k (visits over h k)) e)

  flushes_balanced : (r : Resource) (p : Patch) (locks : List HeldLock) (es : List Entry) → Balanced slot standing names es
      → Balanced slot standing names (flushes r p locks ++ es)
  flushes_balanced r p [] es b = b
  flushes_balanced r p (h ∷ locks) es b = by (same_resource h.lock.resource r) (flushes_balanced r p locks es b)
    where
      next : (o : Option Flush) → Balanced slot standing names (flushes r p locks ++ es)
          → Balanced slot standing names ((elim o [ None ↦ flushes r p locks | Some change ↦ writes_back h.target h.lock change ]) ++ es)
      next None more = more
      next (Some change) more = b

      by : (v : Bool) → Balanced slot standing names (flushes r p locks ++ es)
          → Balanced slot standing names ((if v then elim (flush_under p h.lock.ask.mode h.lock.ask.policy)
          [ None ↦ flushes r p locks | Some change ↦ writes_back h.target h.lock change ] else flushes r p locks) ++ es)
      by true more = next (flush_under p h.lock.ask.mode h.lock.ask.policy) more
      by false more = more

flush_balanced : (at : At) (slot : ℕ) (r : Running) (f : HandleFile) (ns : List ℕ) (s : Store)
    → Balanced slot r.pins r.pins (flush_from at slot r f ns s)
flush_balanced at slot r f [] s = told_balanced at slot answer.Done None r.pins r
flush_balanced at slot r f (n ∷ ns) s = by (in_flight patch) (is_clean patch) (flush_balanced at slot r f ns s)
  where
    patch : Patch
    patch = patch_at (object f.fid n) s.patches

    stands : List Entry
    stands = Stands slot (at_stage r (Flushing n)) ∷ []

    by : (u v : Bool) → Balanced slot r.pins r.pins (flush_from at slot r f ns s)
        → Balanced slot r.pins r.pins (if u then stands else if v then flush_from at slot r f ns s
        else flushes (object f.fid n) patch (in_order s.held) ++ stands)
    by true v more = (refl, refl, refl)
    by false true more = more
    by false false more = flushes_balanced slot r.pins r.pins (object f.fid n) patch (in_order s.held) stands (refl, refl, refl)

pub locks_balanced : LocksBalanced
locks_balanced =
    record {
      trims = λ limits slot names k. marks_balanced slot names names (reverse (drop limits.unused (filter is_free k.store.held))) refl;
      locks = λ limits slot names k. visits_balanced slot names names (nat_lt limits.dirty (dirty_total k.store.patches))
          (in_order k.store.held) k refl;
      flushing = λ at slot stripe r k. by at slot stripe r k r.file;
    }
  where
    by : (at : At) (slot stripe : ℕ) (r : Running) (k : Client) (o : Option HandleFile)
        → Balanced slot r.pins r.pins (flushing at slot stripe r o k.store)
    by at slot stripe r k None = refl
    by at slot stripe r k (Some f) = flush_balanced at slot r f (drop stripe (stripes f.layout)) k.store
