-- The sizes that a glimpse has, stripe by stripe: those that it had, one more that it was told or has under the lock that came, and those
-- under the
-- locks that its client holds. Each the object measures over one of the cuts.
use Rattle.std.proofs.Common.{◌≡◌, ℕ, zero, suc, ◌+◌, ◌≤◌, true, false, List, [], ◌∷◌, ◌++◌, length, drop, Some, ◌⊎◌, inl, inr, ⊎_elim}
use Rattle.std.proofs.Common.{refl, sym, subst, ap, ◌∙◌, arith, add-one}
use Rattle.std.specs.Prelude.{nat_le}
use Rattle.std.specs.List.{range_with_len}
use Rattle.std.proofs.Math.Seq.{drop-append_seam}
use Rattle.std.proofs.lemmas.Bool.{and_parts}
use Rattle.std.proofs.lemmas.Bool.Decides.{nat_tests}
use Rattle.lu_base.specs.declared.ids.At.{At}
use Rattle.lu_base.specs.declared.ids.Fid.{Fid}
use Rattle.lu_base.specs.declared.ids.Node.{Node}
use Rattle.lu_base.specs.declared.ids.Node.TheVariants.{Client}
use Rattle.lu_base.specs.declared.locks.Extent.{Extent}
use Rattle.lu_base.specs.declared.locks.Lock.{Lock}
use Rattle.lu_base.specs.declared.locks.Policy.{Policy}
use Rattle.lu_base.specs.declared.locks.Policy.TheVariants.{Bits, Range}
use Rattle.lu_base.specs.declared.locks.Resource.{Resource}
use Rattle.lu_layout.specs.Raid0.{Raid0}
use Rattle.lu_lock.specs.Growth.{the_end}
use Rattle.lu_lock.specs.Overlap.{covers}
use Rattle.lu_msg.specs.declared.answers.Answer.TheVariants as told
use Rattle.lu_msg.specs.declared.messages.Reply.{Reply as ReplyTo}
use Rattle.lu_held.specs.declared.locks.HeldLock.{HeldLock}
use Rattle.lu_held.specs.declared.locks.Use.{Use}
use Rattle.lu_spec_entries.specs.declared.uses.Using.{Using}
use Rattle.lu_spec_entries.specs.Carried.{HandleFile, Glimpses, Answered, Stage, Sizes, Work, Running}
use Rattle.lu_spec_entries.specs.Words.{Entry, Stands, Line, line}
use Rattle.lu_spec_entries.specs.Printed.{printed}
use Rattle.lu_spec_client.specs.Caches.{held_at}
use Rattle.lu_spec_client.specs.Looks.{size_under}
use Rattle.lu_spec_client.specs.States.{store_at}
use Rattle.lu_spec_client.specs.Stripes.{below_on, object}
use Rattle.lu_spec_client.specs.Wants.{wants_rest, wants_of}
use Rattle.lu_proof_lawful.specs.Covered.Calls.{call_at, life_at}
use Rattle.lu_proof_lawful.specs.Covered.Heads.{Head}
use Rattle.lu_spec_laws.specs.Words.Lives.{is_gone}
use Rattle.lu_proof_lawful.proofs.Preconditions.Guards.{In, HasRange, Steps, NotChanging, work_in, held_by, store_by, AllSized, HasSizes}
use Rattle.lu_proof_lawful.proofs.Preconditions.Guards.{SizesSoFar, heard_sizes, HeldFor, used_in, IsQueuedFor, OwesStood, Owes}
use Rattle.lu_proof_lawful.proofs.Preconditions.Lists.{self}
use Rattle.lu_proof_lawful.proofs.Preconditions.HeedMarks.{owed_of}
use Rattle.lu_proof_lawful.proofs.Preconditions.ClientLooks.{below_low, serving_is, serves_so, does_so}
use Rattle.lu_proof_lawful.proofs.Invariants.All.{holds}
use Rattle.lu_proof_lawful.proofs.Invariants.Groups.{turn}
use Rattle.lu_proof_lawful.proofs.Refinement.AllowedBase.{ranged}
use Rattle.lu_proof_lawful.proofs.Refinement.Uses.{InUse, uses_held, held_gave}
use Rattle.lu_proof_lawful.proofs.Laws.GlimpseCuts.{Known, From, from_known}
use Rattle.lu_proof_lawful.proofs.Laws.GlimpseRun.{Run, before, client_ready, client_from}
use Rattle.lu_proof_lawful.proofs.Laws.GlimpseStory.{Ready, end_now}

-- ---- the objects that are wanted

-- the whole of that stripe's object
pub record IsWhole (f : Fid) (i : ℕ) (u : Use) : Type 0 where
  pub on : u.resource ≡ object f i
  pub extent : Extent
  pub policy : u.policy ≡ Range extent
  pub first : extent.first ≡ 0
  pub last : extent.last ≡ the_end

abbrev pub ObjectsFrom : Fid → ℕ → List Use → Type 0
ObjectsFrom f i [] = Unit {0}
ObjectsFrom f i (u ∷ us) = IsWhole f i u × ObjectsFrom f (suc i) us

rest_whole : (l : Raid0) (f : Fid) (from n : ℕ) → ObjectsFrom f from (wants_rest l f 0 (range_with_len from n))
rest_whole l f from zero = tt
rest_whole l f from (suc n) = (
  record {
    on = refl;
    extent = record { first = below_on l from 0; last = the_end };
    policy = refl;
    first = let low = below_low l from 0
        in omega (arith, low);
    last = refl;
  },
  subst (λ (k : ℕ). ObjectsFrom f k (wants_rest l f 0 (range_with_len (from + 1) n))) (add-one from) (rest_whole l f (from + 1) n),
)

pub wants_whole : (l : Raid0) (f : Fid) → ObjectsFrom f 0 (wants_of l f (Glimpses []))
wants_whole l f = rest_whole l f 0 (length l.targets)

first_whole : (f : Fid) (i : ℕ) (us vs : List Use) → ObjectsFrom f i (us ++ vs) → ObjectsFrom f i us
first_whole f i [] vs o = tt
first_whole f i (u ∷ us) vs o = (o.0, first_whole f (suc i) us vs o.1)

pub left_whole : (f : Fid) (i k : ℕ) (us vs : List Use) → ObjectsFrom f i (us ++ vs) → i + length us ≡ k → ObjectsFrom f k vs
left_whole f i k [] vs o e = subst (λ (n : ℕ). ObjectsFrom f n vs) (let q : i ≡ k = omega (arith, e) in q) o
left_whole f i k (u ∷ us) vs o e = left_whole f (suc i) k us vs o.1 (omega (arith, e))

drop_whole : (f : Fid) (i n : ℕ) (us : List Use) → ObjectsFrom f i us → ObjectsFrom f (i + n) (drop n us)
drop_whole f i zero us o = subst (λ (k : ℕ). ObjectsFrom f k us) (let q : i ≡ i + 0 = omega arith in q) o
drop_whole f i (suc n) [] o = tt
drop_whole f i (suc n) (u ∷ us) o = subst (λ (k : ℕ). ObjectsFrom f k (drop n us)) (let q : suc i + n ≡ i + suc n = omega arith in q)
    (drop_whole f (suc i) n us o.1)

drop_one : (ns : List ℕ) (n : ℕ) (ms : List ℕ) → drop (suc (length ns)) (ns ++ n ∷ ms) ≡ ms
drop_one [] n ms = refl
drop_one (k ∷ ns) n ms = drop_one ns n ms

-- ---- sizes of stripes, one after another

-- from the next line on, whatever it is
abbrev pub AllKnown : ℕ → List Line → (c slot : ℕ) → Fid → ℕ → List ℕ → Type 0
AllKnown osts past c slot f i [] = Unit {0}
AllKnown osts past c slot f i (n ∷ ns) = Known osts past c slot f i n × AllKnown osts past c slot f (suc i) ns

-- from that turn on
abbrev pub AllFrom : ℕ → List Line → At → (c slot : ℕ) → Fid → ℕ → List ℕ → Type 0
AllFrom osts past at c slot f i [] = Unit {0}
AllFrom osts past at c slot f i (n ∷ ns) = From osts past at c slot f i n × AllFrom osts past at c slot f (suc i) ns

all_from : (osts : ℕ) (past : List Line) (at : At) (c slot : ℕ) (f : Fid) (i : ℕ) (ns : List ℕ) → Steps past at
    → AllKnown osts past c slot f i ns → AllFrom osts past at c slot f i ns
all_from osts past at c slot f i [] s k = tt
all_from osts past at c slot f i (n ∷ ns) s k = (
  from_known osts past at c slot f i n s k.0,
  all_from osts past at c slot f (suc i) ns s k.1,
)

from_both : (osts : ℕ) (past : List Line) (at : At) (c slot : ℕ) (f : Fid) (i k : ℕ) (ns ms : List ℕ) → i + length ns ≡ k
    → AllFrom osts past at c slot f i ns → AllFrom osts past at c slot f k ms → AllFrom osts past at c slot f i (ns ++ ms)
from_both osts past at c slot f i k [] ms e a b = subst (λ (n : ℕ). AllFrom osts past at c slot f n ms)
    (let q : k ≡ i = omega (arith, e) in q) b
from_both osts past at c slot f i k (n ∷ ns) ms e a b = (a.0, from_both osts past at c slot f (suc i) k ns ms (omega (arith, e)) a.1 b)

-- ---- a call has just gone on

-- the newest line says where the call in that slot stands
abbrev pub JustStood : List Line → (c slot : ℕ) → Type 0
JustStood [] c slot = ⊥
JustStood (l ∷ past) c slot = elim l.entry [ Stands s running ↦ (l.at.node ≡ Client c) × (s ≡ slot) | _ ↦ ⊥ ]

pub stood_is : (at : At) (c s slot : ℕ) (running : Running) (past : List Line) → at.node ≡ Client c → s ≡ slot
    → call_at c slot (line at (Stands s running) ∷ past) ≡ Some running
stood_is at c s slot running past mine here =
    subst (λ (v : Node). call_at c slot (line (turn at.stamp v) (Stands s running) ∷ past) ≡ Some running) (sym mine)
    (subst (λ (v : ℕ). call_at c slot (line (turn at.stamp (Client c)) (Stands v running) ∷ past) ≡ Some running) (sym here)
    (rw (self c, self slot) refl))

-- ---- what a call has of sizes

pub record GoodWork (osts : ℕ) (past : List Line) (c slot : ℕ) (r : Running) (file : HandleFile) (w : Work) (sizes : List ℕ) : Type 0 where
  pub known : AllKnown osts past c slot file.fid 0 sizes
  pub passed : List Use
  pub all : wants_of file.layout file.fid (Glimpses []) ≡ passed ++ w.left
  pub each : length passed ≡ length sizes
  pub answer : (JustStood past c slot → ⊥) → (t : ℕ) (reply : ReplyTo) (n : ℕ) → r.asking ≡ Answered t reply → r.stage ≡ Sizes w
      → reply.answer ≡ told.Size n → Known osts past c slot file.fid (length sizes) n

-- of each glimpse whose life isn't gone
abbrev pub CallsSized : Head → List Line → Type 0
CallsSized head past =
    (c slot : ℕ) (r : Running) → call_at c slot past ≡ Some r → is_gone (printed past) (life_at c past) ≡ false
    → (file : HandleFile) (w : Work) (sizes : List ℕ) → r.file ≡ Some file → work_in r.stage ≡ Some w → w.kind ≡ Glimpses sizes
    → GoodWork head.osts past c slot r file w sizes

-- ---- before a line of the client that is no part of a change

module _ (head : Head) (l : Line) (past : List Line) (c slot : ℕ) (y : Run head (l ∷ past)) (own : l.at.node ≡ Client c)
    (still : NotChanging past) (owed : owed_of c past ≡ []) (stays : is_gone (printed past) (life_at c past) ≡ false) (r : Running)
    (is : call_at c slot past ≡ Some r) where
  prior : Run head past
  prior = before head l past y

  now : Ready head past
  now = client_ready head l past c y own still

  -- under a held lock on the whole of an object
  under : (k : HeldLock) (u : Use) (f : Fid) (i : ℕ) → In k (held_at c past) → k.lock.resource ≡ u.resource
      → covers k.lock.ask.policy u.policy ≡ true → IsWhole f i u → From head.osts past l.at c slot f i (size_under k.lock (store_at c past))
  under k u f i held on cover whole = by k.lock.ask.policy refl (ap (λ (p : Policy). covers k.lock.ask.policy p) (sym whole.policy) ∙ cover)
    where
      there : k.lock.resource ≡ object f i
      there = on ∙ whole.on

      range : (x : Extent) → k.lock.ask.policy ≡ Range x → covers (Range x) (Range whole.extent) ≡ true
          → From head.osts past l.at c slot f i (size_under k.lock (store_at c past))
      range x e c1 =
          let p = and_parts (nat_le x.first whole.extent.first) (nat_le whole.extent.last x.last) c1 in
          let gave = held_gave head past prior.grown c k k.target.0 refl held in
          let kinds = ((holds head past prior.grown).at k.target.0).locks.kinds gave.0 k.lock gave.1 in
          let of_range = ranged k.lock (subst HasRange (sym e) tt) kinds in
          let one : Range of_range.extent ≡ Range x = sym of_range.is ∙ e in
          let same : of_range.extent ≡ x = cc in
          let low : x.last ≤ the_end = subst (λ (v : Extent). v.last ≤ the_end) same of_range.low in
          let zero_first = whole.first in
          let end_last = whole.last in
          let a = p.0 in
          let b = p.1 in
          let first : x.first ≡ 0 = grind (arith, nat_tests, a, zero_first) in
          let last : x.last ≡ the_end = grind (arith, nat_tests, b, low, end_last) in
          subst (λ (v : Resource). From head.osts past l.at c slot v.fid v.stripe (size_under k.lock (store_at c past))) there
          (client_from head past l.at c c slot r k.lock.resource.fid k.lock.resource.stripe (size_under k.lock (store_at c past))
          prior.grown y.grown.0.steps own is (end_now head past now c k x owed stays held e last first))

      by : (p : Policy) → k.lock.ask.policy ≡ p → covers k.lock.ask.policy (Range whole.extent) ≡ true
          → From head.osts past l.at c slot f i (size_under k.lock (store_at c past))
      by (Range x) e q = range x e (ap (λ (v : Policy). covers v (Range whole.extent)) (sym e) ∙ q)
      by (Bits x) e q = absurd (let no_range : false ≡ true = ap (λ (v : Policy). covers v (Range whole.extent)) (sym e) ∙ q in cc)

  -- of those on which held locks serve
  served : (us : List Use) (ns : List ℕ) (f : Fid) (i : ℕ) → ObjectsFrom f i us → AllSized (held_at c past) (store_at c past) us ns
      → AllFrom head.osts past l.at c slot f i ns
  served [] [] f i o s = tt
  served [] (n ∷ ns) f i o s = absurd s
  served (u ∷ us) [] f i o s = absurd s
  served (u ∷ us) (n ∷ ns) f i o s =
      let k = s.0.0 in
      let found = serving_is u (held_at c past) k s.0.1 in
      let so = serves_so u k (subst HasRange (sym o.0.policy) tt) found.1 in
      let does = does_so u k found.1 in (
        subst (λ (m : ℕ). From head.osts past l.at c slot f i m) (sym s.0.2) (under k u f i found.0 so.of_object does.1 o.0),
        served us ns f (suc i) o.1 s.1,
      )

  -- ---- all that it has

  abbrev Held : List Use → List ℕ → Type 0
  Held us ns = AllSized (held_at c past) (store_at c past) us ns

  module _ (calls : CallsSized head past) (off : IsQueuedFor slot l.entry → ⊥) where
    -- what it has before this line
    had : (file : HandleFile) (w : Work) (sizes : List ℕ) → r.file ≡ Some file → work_in r.stage ≡ Some w → w.kind ≡ Glimpses sizes
        → GoodWork head.osts past c slot r file w sizes
    had file w sizes of_file stage kind = calls c slot r is stays file w sizes of_file stage kind

    -- after a line by which it is to ask a size it asks
    not_stood : (w : Work) → r.stage ≡ Sizes w → JustStood past c slot → ⊥
    not_stood w stage j = by past j is y.grown.0.owes
      where
        by : (p : List Line) → JustStood p c slot → call_at c slot p ≡ Some r → Owes p l.at l.entry → ⊥
        by [] j k o = j
        by (x ∷ p) j k o = of x.entry j k o
          where
            of : (e : Entry) → JustStood (line x.at e ∷ p) c slot → call_at c slot (line x.at e ∷ p) ≡ Some r
                → Owes (line x.at e ∷ p) l.at l.entry → ⊥
            of (Stands s running) (mine, at_slot) k o =
                let some : Some running ≡ Some r = sym (stood_is x.at c s slot running p mine at_slot) ∙ k in
                let one : running ≡ r = cc in
                let asks : (x.at ≡ l.at) × IsQueuedFor s l.entry =
                subst (λ (v : Stage). OwesStood (x.at ≡ l.at) s v (Owes p l.at l.entry) l.entry)
                (ap (λ (v : Running). v.stage) one ∙ stage) o in
                off (subst (λ (v : ℕ). IsQueuedFor v l.entry) at_slot asks.1)
            of e j k o = j

    pub has_known : (sizes : List ℕ) (passed left : List Use) (has : HasSizes past l.at r sizes passed left)
        → AllFrom head.osts past l.at c slot has.file.fid 0 sizes
    has_known sizes passed left has = by has.so_far (subst (λ (v : Node). AllSized (held_by v past) (store_by v past)
        (drop (heard_sizes has.so_far) passed) (drop (heard_sizes has.so_far) sizes)) own has.served)
      where
        f : Fid
        f = has.file.fid

        all : ObjectsFrom has.file.fid 0 passed
        all = first_whole has.file.fid 0 passed left (subst (λ (us : List Use). ObjectsFrom has.file.fid 0 us) has.all
            (wants_whole has.file.layout has.file.fid))

        from_drop : (n : ℕ) → ObjectsFrom has.file.fid n (drop n passed)
        from_drop n = subst (λ (k : ℕ). ObjectsFrom has.file.fid k (drop n passed)) (let q : 0 + n ≡ n = omega arith in q)
            (drop_whole has.file.fid 0 n passed all)

        -- those that it had, and those under held locks
        two : (w : Work) (old held : List ℕ) → work_in r.stage ≡ Some w → w.kind ≡ Glimpses old → sizes ≡ old ++ held
            → AllFrom head.osts past l.at c slot has.file.fid (length old) held → AllFrom head.osts past l.at c slot has.file.fid 0 sizes
        two w old held stage kind more rest =
            subst (λ (ns : List ℕ). AllFrom head.osts past l.at c slot has.file.fid 0 ns) (sym more)
            (from_both head.osts past l.at c slot has.file.fid 0 (length old) old held
            (let q : 0 + length old ≡ length old = omega arith in q)
            (all_from head.osts past l.at c slot has.file.fid 0 old y.grown.0.steps (had has.file w old has.of_file stage kind).known)
            rest)

        after_old : (old held : List ℕ) → sizes ≡ old ++ held → Held (drop (length old) passed) (drop (length old) sizes)
            → AllFrom head.osts past l.at c slot has.file.fid (length old) held
        after_old old held more s = served (drop (length old) passed) held has.file.fid (length old) (from_drop (length old))
            (subst (λ (ns : List ℕ). Held (drop (length old) passed) ns) (ap (drop (length old)) more ∙ drop-append_seam old held) s)

        after_one : (old : List ℕ) (n : ℕ) (held : List ℕ) → sizes ≡ old ++ n ∷ held
            → Held (drop (suc (length old)) passed) (drop (suc (length old)) sizes)
            → From head.osts past l.at c slot has.file.fid (length old) n
            → AllFrom head.osts past l.at c slot has.file.fid (length old) (n ∷ held)
        after_one old n held more s one = (
          one,
          served (drop (suc (length old)) passed) held has.file.fid (suc (length old))
              (from_drop (suc (length old))) (subst (λ (ns : List ℕ). Held (drop (suc (length old)) passed) ns)
              (ap (drop (suc (length old))) more ∙ drop_one old n held) s),
        )

        by : (so : SizesSoFar past l.at r sizes) → Held (drop (heard_sizes so) passed) (drop (heard_sizes so) sizes)
            → AllFrom head.osts past l.at c slot has.file.fid 0 sizes
        by (inl none) s = served passed sizes has.file.fid 0 all s
        by (inr (inl h)) s =
            let good = had has.file h.work h.before has.of_file (ap work_in h.stage) h.kind in
            two h.work h.before (h.size ∷ h.held) (ap work_in h.stage) h.kind h.more
            (after_one h.before h.size h.held h.more s
            (from_known head.osts past l.at c slot has.file.fid (length h.before) h.size y.grown.0.steps
            (good.answer (not_stood h.work h.stage) h.target h.reply h.size h.answered h.stage h.tells)))
        by (inr (inr (inl h))) s =
            let stage : work_in r.stage ≡ Some h.work = ⊎_elim (λ k. ap work_in k.0) (λ k. ap work_in k) h.stage in
            two h.work h.before h.held stage h.kind h.more (after_old h.before h.held h.more s)
        by (inr (inr (inr h))) s = two h.work h.before (size_under h.lock (store_by l.at.node past) ∷ h.held) (ap work_in h.stage) h.kind
            h.more
            (after_one h.before (size_under h.lock (store_by l.at.node past)) h.held h.more s
            (subst (λ (v : Node). From head.osts past l.at c slot has.file.fid (length h.before) (size_under h.lock (store_by v past)))
            (sym own) came))
          where
            good : GoodWork head.osts past c slot r has.file h.work h.before
            good = had has.file h.work h.before has.of_file (ap work_in h.stage) h.kind

            whole : IsWhole has.file.fid (length h.before) h.wanted
            whole = (subst (λ (us : List Use). ObjectsFrom has.file.fid (length h.before) us) h.first
                (left_whole has.file.fid 0 (length h.before) good.passed h.work.left
                (subst (λ (us : List Use). ObjectsFrom has.file.fid 0 us) good.all (wants_whole has.file.layout has.file.fid))
                (let n = good.each in omega (arith, n)))).0

            using_it : Using
            using_it = record { want = h.wanted; lock = h.lock }

            holds_it : In h.holding (held_at c past)
            holds_it = subst (λ (v : Node). In h.holding (held_by v past)) own h.holds

            in_use : InUse c past using_it
            in_use =
                uses_held head past prior.grown prior.pins c slot r (using_it ∷ []) is
                (λ u i. ⊎_elim
                (λ (q : using_it ≡ u). subst (λ (v : Using). In v (used_in r.stage) ⊎ HeldFor c past r v) q (inr (record {
                  locked = record {
                    holding = h.holding;
                    held = holds_it;
                    of_target = h.of_target;
                    of_object =
                        ap (λ (v : Lock). v.resource) h.is ∙ h.of_object;
                    ranged =
                        subst (λ (v : Lock). HasRange v.ask.policy) (sym h.is) h.ranged;
                  };
                  is = h.is;
                  does = inr (h.work, h.left, h.stage, h.first);
                  apart = inr (h.work, h.left, h.stage, h.first);
                })))
                (λ (q : ⊥). absurd q)
                i)
                using_it (inl refl)

            came : From head.osts past l.at c slot has.file.fid (length h.before) (size_under h.lock (store_at c past))
            came =
                subst (λ (v : Lock). From head.osts past l.at c slot has.file.fid (length h.before) (size_under v (store_at c past)))
                in_use.is
                (under in_use.holding h.wanted has.file.fid (length h.before) in_use.held
                (ap (λ (v : Lock). v.resource) in_use.is ∙ in_use.of_object)
                (subst (λ (v : Lock). covers v.ask.policy h.wanted.policy ≡ true) (sym in_use.is) in_use.covers) whole)
