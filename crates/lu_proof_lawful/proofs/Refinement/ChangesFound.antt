-- A lock that a live client has in use on an object is held in the story; and one under which it changes the object is the one that is held
-- over the
-- change there, for writing.
use Rattle.std.proofs.Common.{◌≡◌, ℕ, suc, ◌+◌, ◌-◌, ◌<◌, ◌≤◌, Bool, true, false, List, [], ◌∷◌, ◌++◌, length, Some, None, ◌⊎◌, inl, inr}
use Rattle.std.proofs.Common.{⊎_elim, refl, sym, subst, ap, ◌∙◌, arith}
use Rattle.std.specs.Prelude.{nat_eq, nat_lt, nat_le, ◌&&◌, if◌then◌else◌, map}
use Rattle.std.proofs.lemmas.Bool.{and_parts}
use Rattle.std.proofs.lemmas.Bool.Decides.{nat_tests}
use Rattle.lu_base.specs.declared.ids.Fid.{Fid}
use Rattle.lu_base.specs.declared.ids.Node.TheVariants.{Client}
use Rattle.lu_base.specs.declared.ids.Stamp.{Stamp}
use Rattle.lu_base.specs.declared.locks.Extent.{Extent}
use Rattle.lu_base.specs.declared.locks.Lock.{Lock as TableLock}
use Rattle.lu_base.specs.declared.locks.Mode.{Mode}
use Rattle.lu_base.specs.declared.locks.Mode.TheVariants.{PW}
use Rattle.lu_base.specs.declared.locks.Policy.{Policy}
use Rattle.lu_base.specs.declared.locks.Policy.TheVariants.{Bits, Range}
use Rattle.lu_base.specs.declared.locks.Resource.{Resource}
use Rattle.lu_layout.specs.Raid0.{Raid0}
use Rattle.lu_layout.specs.Sound.{IsLayout}
use Rattle.lu_lock.specs.Growth.{the_end}
use Rattle.lu_lock.specs.Modes.{serves}
use Rattle.lu_lock.specs.Overlap.{covers as covers_policy}
use Rattle.lu_held.specs.declared.locks.HeldLock.{HeldLock}
use Rattle.lu_held.specs.declared.locks.Use.{Use}
use Rattle.lu_spec_machine.specs.Tree.{no_file}
use Rattle.lu_spec_machine.proofs.Layouts.{new_layouts}
use Rattle.lu_spec_entries.specs.declared.changes.Flush.{Flush}
use Rattle.lu_spec_entries.specs.declared.changes.Flush.TheVariants as flush
use Rattle.lu_spec_entries.specs.declared.uses.Using.{Using}
use Rattle.lu_spec_entries.specs.Carried.{Kind, Narrow, Wide, Writes, Cuts, Stats, Glimpses, Work, Running}
use Rattle.lu_spec_entries.specs.Words as word
use Rattle.lu_spec_entries.specs.Words.{Line, line}
use Rattle.lu_spec_client.specs.Caches.{held_at}
use Rattle.lu_spec_client.specs.Calls.{life_at}
use Rattle.lu_spec_client.specs.Patches.{cut_extent}
use Rattle.lu_spec_client.specs.Stripes.{below_on, stripes, bytes_on}
use Rattle.lu_spec_client.specs.Wants.{wants_run, wants_cut, wants_of}
use Rattle.lu_proof_lawful.specs.Covered.Calls.{call_at}
use Rattle.lu_proof_lawful.specs.Covered.Heads.{Head, IsHead}
use Rattle.lu_proof_lawful.proofs.Preconditions.Acts.{kind_ranges}
use Rattle.lu_proof_lawful.proofs.Preconditions.CallGuards.{ChangesOn, wanted_by, piece_on}
use Rattle.lu_proof_lawful.proofs.Preconditions.Grown.{Grown}
use Rattle.lu_proof_lawful.proofs.Preconditions.Heard.{In, HasRange}
use Rattle.lu_proof_lawful.proofs.Preconditions.Held.{held_into}
use Rattle.lu_proof_lawful.proofs.Preconditions.HeedMarks.{owed_of}
use Rattle.lu_proof_lawful.proofs.Preconditions.Heeds.{none_owed}
use Rattle.lu_proof_lawful.proofs.Preconditions.Lists.{turn}
use Rattle.lu_proof_lawful.proofs.Preconditions.LockKinds.{held_kind}
use Rattle.lu_proof_lawful.proofs.Preconditions.PinsFit.{PinsFit}
use Rattle.lu_proof_lawful.proofs.Preconditions.Parts.{life_is_of}
use Rattle.lu_proof_lawful.proofs.Invariants.All.{holds}
use Rattle.lu_proof_lawful.proofs.Invariants.TargetGroups.{IsKind}
use Rattle.lu_proof_objects.specs.Sound as client
use Rattle.lu_proof_objects.proofs.Pieces.{stripe_there, on_length, run_wanted, cut_wanted}
use Rattle.lu_proof_objects.proofs.Using.{writes_only}
use Rattle.lu_proof_bytes.specs.Object.Words as words
use Rattle.lu_proof_bytes.specs.Object.Words.{Lock, Write, Cut, covers, not_above}
use Rattle.lu_proof_bytes.specs.Object.Folds.{HeldBy, evicted}
use Rattle.lu_proof_bytes.specs.Object.Guards.{AllAllowed}
use Rattle.lu_proof_objects.specs.Points.{change_of, lock_at}
use Rattle.lu_proof_lawful.specs.Projection.Lives.{number_of, is_live}
use Rattle.lu_proof_lawful.specs.Projection.Locks.{lock_of, held, lock_over, spans, is_to_end}
use Rattle.lu_proof_lawful.specs.Projection.Stories.{story}
use Rattle.lu_proof_lawful.proofs.Projection.Lookups.{right_lock}
use Rattle.lu_proof_lawful.proofs.Refinement.Place.{place}
use Rattle.lu_proof_lawful.proofs.Refinement.Laying.{LaidIn, works_laid}
use Rattle.lu_proof_lawful.proofs.Refinement.Placed.{held_place}
use Rattle.lu_proof_lawful.proofs.Refinement.Tied.{Here}
use Rattle.lu_proof_lawful.proofs.Refinement.TiedAsked.{AskedBy, IsOwed}
use Rattle.lu_proof_lawful.proofs.Refinement.TiedStore.{life_number}
use Rattle.lu_proof_lawful.proofs.Refinement.OverLives.{live_parts}
use Rattle.lu_proof_lawful.proofs.Refinement.Uses.{InUse, uses_held}

-- ---- lists

pub in_client : {A : Type 0} (x : A) (xs : List A) → In x xs → client.In x xs
in_client x [] i = absurd i
in_client x (y ∷ ys) (inl e) = inl e
in_client x (y ∷ ys) (inr i) = inr (in_client x ys i)

pub in_wants : (u : Using) (us : List Using) → In u us → In u.want (map (λ (v : Using). v.want) us)
in_wants u [] i = absurd i
in_wants u (v ∷ us) (inl e) = inl (ap (λ (x : Using). x.want) e)
in_wants u (v ∷ us) (inr i) = inr (in_wants u us i)

pub in_middle : {A : Type 0} (x : A) (xs ys : List A) → In x (xs ++ x ∷ ys)
in_middle x [] ys = inl refl
in_middle x (z ∷ xs) ys = inr (in_middle x xs ys)

-- ---- a layout of a work

pub good_layout : (head : Head) → IsHead head → (f : Fid) (l : Raid0) → LaidIn head.osts f l → (l ≡ no_file.layout) ⊎ IsLayout l
good_layout head ranges f l (inl e) = inl e
good_layout head ranges f l (inr n) = inr ((new_layouts head.osts n.0 n.1 n.2 l n.4).sound ranges.osts ranges.most_osts)

-- ---- a range that holds what is wanted

pub covers_in : (cookie life : ℕ) (mode : Mode) (x : Extent) (p : ℕ) → x.first ≤ p → p ≤ x.last → covers (lock_at cookie life mode x) p
    ≡ true
covers_in cookie life mode x p low high = by (nat_eq x.last the_end)
  where
    by : (v : Bool) → (nat_lt x.first (suc p) && not_above p (if v then None else Some x.last)) ≡ true
    by true = grind (arith, nat_tests, low)
    by false = grind (arith, nat_tests, low, high)

-- the range of a policy that covers another's
pub range_covers : (p : Policy) (y : Extent) → covers_policy p (Range y) ≡ true → (x : Extent) × (p ≡ Range x) × (x.first ≤ y.first)
    × (y.last ≤ x.last)
range_covers (Bits b) y e = absurd (cc)
range_covers (Range x) y e = let parts = and_parts (nat_le x.first y.first) (nat_le y.last x.last) e in let a = parts.0 in let b = parts.1
    in (x, refl, grind (arith, nat_tests, a), grind (arith, nat_tests, b))

-- ---- in the story

module _ (head : Head) (t : ℕ) (r : Resource) (past : List Line) (lies : t ≡ place head.osts r) (grown : Grown head past)
    (fit : PinsFit past) (c : ℕ) (asked : AskedBy t r past c) (owed : owed_of c past ≡ []) where
  -- a range on the object that the client holds is held there, by its life, of that target
  pub held_there : (k : HeldLock) → In k (held_at c past) → k.lock.resource ≡ r → HasRange k.lock.ask.policy
      → HeldBy (story t r past) (lock_of k.lock) × ((lock_of k.lock).life ≡ life_number c past) × (k.target.0 ≡ t)
  held_there k i on range =
      let at : k.target.0 ≡ t = held_place head past grown fit c k r i on range ∙ sym lies in
      let j = held_into c t past k at i in
      let holding = ((holds head past grown).at t).locks.held c k j in
      let life = ap number_of (((holds head past grown).at t).locks.whose holding.deed k.lock holding.gave ∙ holding.who
      ∙ sym (life_is_of c t past)) in (
        ⊎_elim (λ (h : HeldBy (story t r past) (lock_of k.lock)). h)
            (λ (o : IsOwed t k.lock (owed_of c past)). absurd (let x : [] ≡ word.Hold t k.lock false o.0 o.1 ∷ o.2 = sym owed ∙ o.3 in cc))
            (asked.locks.holds k j on),
        life,
        at,
      )

  -- so a lock in use there
  pub use_held : (u : Using) → InUse c past u → u.want.resource ≡ r → HeldBy (story t r past) (lock_of u.lock)
      × ((lock_of u.lock).life ≡ life_number c past) × IsKind u.lock.ask.mode u.lock.ask.policy
  use_held u uses on =
      let on_lock : uses.holding.lock.resource ≡ r = ap (λ (l : TableLock). l.resource) uses.is ∙ uses.of_object ∙ on in
      let j = held_into c uses.holding.target.0 past uses.holding refl uses.held in
      let high : 0 < uses.holding.target.0 = let a = uses.high in let b = uses.of_target in omega (arith, a, b) in
      let kind = kind_ranges uses.holding.target.0 uses.holding.lock high (held_kind head uses.holding.target.0 past grown c uses.holding j)
      in
      let f = held_there uses.holding uses.held on_lock kind in
      let holding = ((holds head past grown).at uses.holding.target.0).locks.held c uses.holding j in
      let shape = ((holds head past grown).at uses.holding.target.0).locks.kinds holding.deed uses.holding.lock holding.gave in
      subst (λ (l : TableLock). HeldBy (story t r past) (lock_of l) × ((lock_of l).life ≡ life_number c past)
      × IsKind l.ask.mode l.ask.policy) uses.is (f.0, f.1, shape)

-- ---- it is over the piece of a call that changes bytes

-- its lock, for writing, is over that change, which has a byte, if it writes any
abbrev HasSome : Flush → Type 0
HasSome (flush.Put at bytes) = 0 < length bytes
HasSome (flush.Cut size) = Unit {0}

pub lock_is : (l : TableLock) (x : Extent) → l.ask.mode ≡ PW → l.ask.policy ≡ Range x → lock_of l
    ≡ lock_at l.cookie.0 (number_of l.ask.who) PW x
lock_is l x m p = rw (m, p) refl

pub spans_put : (k w : ℕ) (x : Extent) (at : ℕ) (bs : List ℕ) → 0 < length bs → x.first ≤ at → at + length bs - 1 ≤ x.last
    → spans (lock_at k w PW x) (Write at bs) ≡ true
spans_put k w x at bs some low high = rw (
  covers_in k w PW x at low (omega (arith, some, high)),
  covers_in k w PW x (at + (length bs - 1)) (omega (arith, low)) (omega (arith, some, high)),
) refl

pub spans_cut : (k w : ℕ) (x : Extent) (n : ℕ) → x.first ≤ n - 1 → x.last ≡ the_end → spans (lock_at k w PW x) (Cut n) ≡ true
spans_cut k w x n low is = by (nat_eq x.last the_end) (grind (arith, nat_tests, is)) (grind (arith, nat_tests, low))
  where
    by : (v : Bool) → v ≡ true → nat_lt x.first (suc (n - 1)) ≡ true
        → ((nat_lt x.first (suc (n - 1)) && not_above (n - 1) (if v then None else Some x.last))
        && is_to_end (if v then None else Some x.last)) ≡ true
    by true e f = rw f refl
    by false e f = absurd (cc)

piece_over : (l : Raid0) (fid : Fid) (kind : Kind) (u : Using) (change : Flush) → IsLayout l → In u.want (wants_of l fid kind)
    → piece_on l kind u.want.resource.stripe ≡ Some change
    → serves u.lock.ask.mode u.want.mode ≡ true → covers_policy u.lock.ask.policy u.want.policy ≡ true
    → IsKind u.lock.ask.mode u.lock.ask.policy
    → (spans (lock_of u.lock) (change_of change) ≡ true) × ((lock_of u.lock).write ≡ true) × HasSome change
piece_over l fid (Writes p bs) u change good i piece serve cover kind =
    let r = run_wanted l fid PW p (p + length bs) (stripes l) u.want (in_client u.want (wants_run l fid PW p (p + length bs) (stripes l)) i)
    in
    let first = below_on l r.0 p in
    let end = below_on l r.0 (p + length bs) in
    let mode = writes_only u.lock.ask.mode (ap (λ (m : Mode). serves u.lock.ask.mode m) (ap (λ (w : Use). w.mode) r.3) ∙ serve) in
    let x = range_covers u.lock.ask.policy (record { first = first; last = end - 1 })
    (ap (λ (w : Use). covers_policy u.lock.ask.policy w.policy) r.3 ∙ cover) in
    let is : flush.Put (below_on l r.0 p) (bytes_on l r.0 p bs) ≡ change =
    (let s = ap (λ (w : Use). w.resource.stripe) r.3 in let q : Some (flush.Put (below_on l r.0 p) (bytes_on l r.0 p bs))
    ≡ Some change = ap (λ (n : ℕ). Some (flush.Put (below_on l n p) (bytes_on l n p bs))) s ∙ piece in cc) in
    let count = on_length l r.0 p bs good (stripe_there l r.0 r.1) in
    let low = x.2 in
    let high = x.3 in
    let less = r.2 in
    subst (λ (ch : Flush). (spans (lock_of u.lock) (change_of ch) ≡ true) × ((lock_of u.lock).write ≡ true) × HasSome ch) is (
      ap (λ (m : Lock). spans m (Write first (bytes_on l r.0 p bs))) (lock_is u.lock x.0 mode x.1)
          ∙ spans_put u.lock.cookie.0 (number_of u.lock.ask.who) x.0 first (bytes_on l r.0 p bs) (omega (arith, count, less)) low
          (omega (arith, count, less, high)),
      ap (λ (m : Lock). m.write) (lock_is u.lock x.0 mode x.1),
      omega (arith, count, less),
    )
piece_over l fid (Cuts n) u change good i piece serve cover kind =
    let r = cut_wanted l fid n (stripes l) u.want (in_client u.want (wants_cut l fid n (stripes l)) i) in
    let mode = writes_only u.lock.ask.mode (ap (λ (m : Mode). serves u.lock.ask.mode m) (ap (λ (w : Use). w.mode) r.2) ∙ serve) in
    let x = range_covers u.lock.ask.policy (cut_extent (below_on l r.0 n))
    (ap (λ (w : Use). covers_policy u.lock.ask.policy w.policy) r.2 ∙ cover) in
    let is : flush.Cut (below_on l r.0 n) ≡ change = (let s = ap (λ (w : Use). w.resource.stripe) r.2
    in let q : Some (flush.Cut (below_on l r.0 n)) ≡ Some change = ap (λ (k : ℕ). Some (flush.Cut (below_on l k n))) s ∙ piece in cc) in
    let ranged : IsKind u.lock.ask.mode (Range x.0) = subst (IsKind u.lock.ask.mode) x.1 kind in
    let most = ranged.1 in
    let low = x.2 in
    let high = x.3 in
    subst (λ (ch : Flush). (spans (lock_of u.lock) (change_of ch) ≡ true) × ((lock_of u.lock).write ≡ true) × HasSome ch) is (
      ap (λ (m : Lock). spans m (Cut (below_on l r.0 n))) (lock_is u.lock x.0 mode x.1)
          ∙ spans_cut u.lock.cookie.0 (number_of u.lock.ask.who) x.0 (below_on l r.0 n) low (omega (arith, most, high)),
      ap (λ (m : Lock). m.write) (lock_is u.lock x.0 mode x.1),
      tt,
    )
piece_over l fid (Narrow p n) u change good i piece serve cover kind = absurd (cc)
piece_over l fid (Wide p n) u change good i piece serve cover kind = absurd (cc)
piece_over l fid (Stats mode links) u change good i piece serve cover kind = absurd (cc)
piece_over l fid (Glimpses sizes) u change good i piece serve cover kind = absurd (cc)

-- without stripes nothing is wanted
nothing_wanted : (fid : Fid) (kind : Kind) (w : Use) → In w (wants_of no_file.layout fid kind) → ⊥
nothing_wanted fid (Writes p bs) w i = i
nothing_wanted fid (Cuts n) w i = i
nothing_wanted fid (Narrow p n) w i = i
nothing_wanted fid (Wide p n) w i = i
nothing_wanted fid (Stats mode links) w i = i
nothing_wanted fid (Glimpses sizes) w i = i

-- the lock that a call which changes bytes has in use on the object is the one over its change there
pub record Over (h : List words.Entry) (w : ℕ) (u : Using) (change : Flush) : Type 0 where
  pub over : lock_over w (change_of change) (held h) ≡ Some u.lock.cookie.0
  pub lock : HeldBy h (lock_of u.lock)
  pub life : (lock_of u.lock).life ≡ w
  pub some : HasSome change

pub used_over : (head : Head) → IsHead head → (t : ℕ) (r : Resource) (past : List Line) → t ≡ place head.osts r → Grown head past
    → PinsFit past → AllAllowed (story t r past) → (c : ℕ) → AskedBy t r past c → owed_of c past ≡ [] → is_live c past (story t r past)
    ≡ true
    → (slot : ℕ) (running : Running) → call_at c slot past ≡ Some running → (work : Work) → ChangesOn running work → wanted_by work
    ≡ map (λ (u : Using). u.want) work.used → (u : Using) → In u work.used → InUse c past u
    → u.want.resource ≡ r → (change : Flush) → piece_on work.layout work.kind u.want.resource.stripe ≡ Some change
    → Over (story t r past) (life_number c past) u change
used_over head ranges t r past lies grown fit all c asked owed live slot running call work does wants u i uses on change piece =
    let f = use_held head t r past lies grown fit c asked owed u uses on in
    let wanted : In u.want (wanted_by work) = subst (λ (ws : List Use). In u.want ws) (sym wants) (in_wants u work.used i) in
    let good = ⊎_elim
    (λ (e : work.layout ≡ no_file.layout). absurd (nothing_wanted work.fid work.kind u.want
    (subst (λ (l : Raid0). In u.want (wants_of l work.fid work.kind)) e wanted)))
    (λ (g : IsLayout work.layout). g)
    (good_layout head ranges work.fid work.layout (works_laid head past grown c slot running call work (inr does))) in
    let over = piece_over work.layout work.fid work.kind u change good wanted piece uses.serves uses.covers f.2 in
    record {
      over = ap (λ (w : ℕ). lock_over w (change_of change) (held (story t r past))) (sym f.1)
          ∙ right_lock (story t r past) (lock_of u.lock) (change_of change) all f.0 over.1
          (ap (λ (w : ℕ). evicted w (story t r past)) f.1 ∙ (live_parts c past (story t r past) live).0) over.0;
      lock = f.0;
      life = f.1;
      some = over.2;
    }

module _ (head : Head) (t : ℕ) (r : Resource) (stamp : Stamp) (c : ℕ) (past : List Line) where
  -- so where a client changes the object
  pub changes_over : (change : Flush) (here : Here head t r (line (turn stamp (Client c)) (word.Changes r change)) past)
      → is_live c past (story t r past) ≡ true
      → (u : Using) × Over (story t r past) (life_number c past) u change
  changes_over change here live =
      let ok = here.stood.ok.ok in
      let i : In ok.next ok.work.used = subst (λ (us : List Using). In ok.next us) (sym ok.parts) (in_middle ok.next ok.done ok.more) in
      let owed = none_owed c past (line (turn stamp (Client c)) (word.Changes r change)) (here.stood.heeds.0 c) (λ x. x) in
      let uses = uses_held head past here.stood.grown here.stood.pins.1 c ok.slot ok.running ok.work.used ok.call ok.uses ok.next i in (
        ok.next,
        used_over head here.ranges t r past here.place here.stood.grown here.stood.pins.1 here.all c (here.tied.asked.of c live)
            owed live ok.slot ok.running ok.call ok.work ok.does ok.wants ok.next i uses (sym ok.of_object) change ok.is,
      )

  pub changes_found : (change : Flush) → Here head t r (line (turn stamp (Client c)) (word.Changes r change)) past
      → is_live c past (story t r past) ≡ true
      → (k : ℕ) × (lock_over (number_of (life_at c past)) (change_of change) (held (story t r past)) ≡ Some k)
  changes_found change here live = let f = changes_over change here live in (f.0.lock.cookie.0, f.1.over)
