-- How long an object is by what its client noted under a lock to read to the end: it was told so with that lock, but for what its own
-- write-backs made
-- of it below the lock's first position.
use Rattle.std.proofs.Common.{◌≡◌, ℕ, ◌+◌, ◌%◌, ◌<◌, ◌≤◌, Bool, true, false, List, [], ◌∷◌, ◌++◌, length, Option, Some, None, ◌⊎◌, inl, inr}
use Rattle.std.proofs.Common.{⊎_elim, refl, sym, subst, ap, ◌∙◌, arith}
use Rattle.std.specs.Prelude.{nat_eq, nat_lt, ◌||◌, if◌then◌else◌, option_map}
use Rattle.std.proofs.lemmas.Bool.{cond_both, cond-true, cond-false, and_parts, and_from, eqb-true, eq-eqb}
use Rattle.std.proofs.lemmas.Nat.{mod_below}
use Rattle.lu_base.specs.declared.ids.At.{At}
use Rattle.lu_base.specs.declared.ids.Cookie.{Cookie}
use Rattle.lu_base.specs.declared.ids.Node.{Node}
use Rattle.lu_base.specs.declared.ids.Node.TheVariants.{Client, Target}
use Rattle.lu_base.specs.declared.ids.Stamp.{Stamp}
use Rattle.lu_base.specs.declared.ids.TargetId.{TargetId}
use Rattle.lu_base.specs.declared.ids.Who.{Who}
use Rattle.lu_base.specs.declared.locks.Extent.{Extent}
use Rattle.lu_base.specs.declared.locks.Lock.{Lock}
use Rattle.lu_base.specs.declared.locks.Mode.TheVariants.{PR, PW}
use Rattle.lu_base.specs.declared.locks.Policy.{Policy}
use Rattle.lu_base.specs.declared.locks.Policy.TheVariants.{Bits, Range}
use Rattle.lu_base.specs.declared.locks.Resource.{Resource}
use Rattle.lu_lock.specs.Growth.{the_end}
use Rattle.lu_lock.specs.Overlap.{extents_meet}
use Rattle.lu_held.specs.declared.locks.Change.TheVariants.{Mark, Pin, Unpin}
use Rattle.lu_held.specs.declared.locks.HeldLock.{HeldLock}
use Rattle.lu_held.specs.Held.{changed}
use Rattle.lu_held.specs.Locks.{is_named, named, same_resource, reaches_end}
use Rattle.lu_msg.specs.declared.answers.Answer.{Answer}
use Rattle.lu_msg.specs.declared.answers.Answer.TheVariants as told
use Rattle.lu_msg.specs.declared.messages.Message.{Message}
use Rattle.lu_msg.specs.declared.messages.Message.TheVariants as message
use Rattle.lu_msg.specs.declared.messages.Reply.{Reply as ReplyTo}
use Rattle.lu_msg.specs.declared.operations.Op.{Op}
use Rattle.lu_msg.specs.declared.operations.Op.TheVariants as op
use Rattle.lu_spec_entries.specs.declared.changes.Flush.{Flush}
use Rattle.lu_spec_entries.specs.declared.changes.Flush.TheVariants as flush
use Rattle.lu_spec_entries.specs.Carried.{Deed, Flight}
use Rattle.lu_spec_entries.specs.Concerns.{concerns, only}
use Rattle.lu_spec_entries.specs.Words.{Entry, Take, Heard, Hold, Drop, Life, Pins, Unpins, Marks, Unmarks, Grown as GrownTo, Line, line}
use Rattle.lu_spec_client.specs.Caches.{Note as NoteOf, noted, size_kept, forgotten_notes, with_note, grown, sizes_after, sizes_at, held_at}
use Rattle.lu_spec_client.specs.Caches.{held_after, held_as, brought, granted_lock, patch_at, patches_at}
use Rattle.lu_proof_lawful.specs.Covered.Calls.{life_at}
use Rattle.lu_spec_client.specs.Messages.{size_with, holds as locks_shown, learns, shows, fills, page_heard, page_under}
use Rattle.lu_spec_client.specs.Messages.{held_as as held_under}
use Rattle.lu_proof_objects.specs.Sound as client
use Rattle.lu_proof_objects.specs.Sound.{Writer, Asked, IsAsked, IsBacked}
use Rattle.lu_spec_client.specs.Imports.{Import}
use Rattle.lu_spec_client.specs.Sending.{object_of}
use Rattle.lu_spec_target.specs.Objects.{lies_in, put_extent, cut_extent}
use Rattle.lu_spec_target.specs.Queues.{extent_in, extent_of}
use Rattle.lu_proof_lawful.specs.Covered.ClientStates.{life_of, flights_of}
use Rattle.lu_proof_lawful.specs.Covered.Heads.{Head, IsHead}
use Rattle.lu_proof_lawful.proofs.Preconditions.Guards.{In, Was, TookNow, HoldsOk, GivenOk, EntryOk}
use Rattle.lu_proof_lawful.proofs.Preconditions.HeedMarks.{heeds_marks, owes, owed_of}
use Rattle.lu_proof_lawful.proofs.Preconditions.Heeds.{AllHeed, HeedsNext, IsOwed, none_owed}
use Rattle.lu_proof_lawful.proofs.Preconditions.Grown.{Allowed, Grown}
use Rattle.lu_proof_lawful.proofs.Preconditions.Lists.{self, turn, in_append, in_left}
use Rattle.lu_proof_lawful.proofs.Preconditions.Held.{held_into, held_back}
use Rattle.lu_proof_lawful.proofs.Preconditions.StoryGuards.{DropOk, HeardOk, EntryOf}
use Rattle.lu_proof_objects.specs.Points.{is_write}
use Rattle.lu_proof_lawful.proofs.Refinement.MarksOwed.{none_marked}
use Rattle.lu_proof_lawful.proofs.Preconditions.Parts.{life_is_of, flights_now}
use Rattle.lu_proof_lawful.proofs.Preconditions.Only.{sent_was, was_more, was_only}
use Rattle.lu_proof_lawful.proofs.Preconditions.ClientLines.{held_once, once_same}
use Rattle.lu_proof_lawful.proofs.Preconditions.ClientLocks.{with_only, with_self, without_only}
use Rattle.lu_proof_lawful.proofs.Preconditions.Heard.{HasRange}
use Rattle.lu_proof_lawful.proofs.Preconditions.QueueLists.{resource_of, resource_itself}
use Rattle.lu_proof_lawful.proofs.Preconditions.PinsFit.{PinsFit}
use Rattle.lu_proof_lawful.proofs.Refinement.Place.{place}
use Rattle.lu_proof_lawful.proofs.Refinement.Placed.{held_place, flew_place}
use Rattle.lu_proof_lawful.proofs.Refinement.TargetCloses.{acted_done}
use Rattle.lu_proof_lawful.proofs.Invariants.ObjectDeeds.{IsWrite}
use Rattle.lu_proof_lawful.proofs.Invariants.TargetGroups.{Flew, Gave, IsMade}
use Rattle.lu_proof_lawful.proofs.Invariants.All.{holds}
use Rattle.lu_proof_lawful.proofs.Invariants.Lines.{only_more}
use Rattle.lu_proof_lawful.proofs.Refinement.TellsAgree.{TellsSize}
use Rattle.lu_proof_lawful.proofs.Refinement.PointsTables.{same_lock, noted_with, noted_without, noted_grown}
use Rattle.lu_proof_lawful.proofs.Invariants.ObjectAnswers.{acted_object}
use Rattle.lu_proof_lawful.proofs.Invariants.LockLists.{Kept, kept_same, changed_kept, used_in, unmarked_kept, brought_in}
use Rattle.lu_proof_lawful.proofs.Laws.HeldLists.{Has, brought_as}
use Rattle.lu_proof_lawful.proofs.Laws.HeldStays.{has_stays}
use Rattle.lu_proof_lawful.proofs.Laws.Holding.{IsHeard, reply_is_heard, heard_now, has_gave, gave_one}
use Rattle.lu_proof_lawful.proofs.Laws.Sounds.{imports_of}
use Rattle.lu_proof_lawful.proofs.Laws.SoundAsks.{imports_long, import_there}
use Rattle.lu_proof_lawful.proofs.Laws.WroteUnder.{LiesUnder, UnderGiven, wrote_under}
use Rattle.lu_proof_lawful.proofs.Laws.SoundLocks.{to_client, of_client, held_ranges, held_apart}
use Rattle.lu_proof_lawful.proofs.Laws.SizesOwed.{held_is, sizes_is, owed_or, owed_keep, owed_back, IsHeard as IsAnswer, Lies, below_same}

-- ---- how a held lock stands

pub record NotedAs (c : ℕ) (past : List Line) (t : ℕ) (l : Lock) (x : Extent) : Type 0 where
  pub number : ℕ
  pub is_noted : noted l.resource l.cookie (sizes_at c past) ≡ Some number
  pub size : ℕ
  pub tells : TellsSize (only t past) l size
  pub same : (p : ℕ) → x.first ≤ p → nat_lt p number ≡ nat_lt p size

-- it is to be shown yet, with its size
pub record OwedAs (c : ℕ) (past : List Line) (t : ℕ) (l : Lock) : Type 0 where
  pub size : ℕ
  pub seen : List ℕ
  pub owed : In (Hold t l false (Some size) seen) (owed_of c past)
  pub tells : TellsSize (only t past) l size

abbrev pub StandsAs : ℕ → List Line → ℕ → Lock → Extent → Type 0
StandsAs c past t l x = NotedAs c past t l x ⊎ OwedAs c past t l

abbrev pub AllNoted : ℕ → List Line → Type 0
AllNoted c past = (h : HeldLock) → In h (held_at c past) → h.lock.ask.mode ≡ PR → (x : Extent) → h.lock.ask.policy ≡ Range x → x.last
    ≡ the_end → StandsAs c past h.target.0 h.lock x

-- a change whose size is to be marked lies under a held lock to write
abbrev pub AllUnder : ℕ → List Line → Type 0
AllUnder c past = (r : Resource) (change : Flush) → In (GrownTo r change) (owed_of c past) → Writer (held_at c past) r (λ y. Lies change y)

abbrev pub Sized : ℕ → List Line → Type 0
Sized c past = AllNoted c past × AllUnder c past

-- ---- a line more

pub tells_more : (t : ℕ) (l : Line) (past : List Line) (k : Lock) (n : ℕ) → TellsSize (only t past) k n → TellsSize (only t (l ∷ past)) k n
tells_more t l past k n (inl d) = inl (d.0, only_more t l past d.0 d.1, d.2, d.3)
tells_more t l past k n (inr g) =
    inr (
      g.0,
      g.1,
      g.2,
      cond_both (concerns t l.at.node l.entry) (l ∷ only t past) (only t past)
          (λ (p : List Line). Was p (Target g.0) (Client g.1) (message.Grant g.2))
          (λ q. was_more l (only t past) (Target g.0) (Client g.1) (message.Grant g.2) g.3) (λ q. g.3),
      g.4,
      g.5,
      g.6,
    )

-- ---- what comes with a lock

granted_tells : (o : Op) (r : ReplyTo) (a : Answer) (l : Lock) → In l (granted_lock o r a) → (x : Extent) × (n : ℕ)
    × (a ≡ told.Granted l.cookie x n)
granted_tells (op.Enqueue resource mode asked) r (told.Granted cookie x n) l (inl e) =
    (x, n, ap (λ (k : Lock). told.Granted k.cookie x n) e)
granted_tells (op.Enqueue resource mode asked) r (told.Granted cookie x n) l (inr i) = absurd i
granted_tells o r a l i = absurd i

-- with a lock on an object its size
reply_sized : (head : Head) (past : List Line) (c t : ℕ) (f : Flight) (r : ReplyTo) (l : Lock) → Grown head past → 0 < t
    → IsHeard past c t f r → In l (brought f.op r) → (n : ℕ) × (size_with r.answer ≡ Some n) × TellsSize (only t past) l n
reply_sized head past c t f r l g high i j =
    let none : r.locks ≡ [] = ap (λ (v : ReplyTo). v.locks) i.is ∙ (acted_object head past t i.deed high g i.acted).bare in
    let k = granted_tells f.op r r.answer l (subst (λ (ls : List Lock). In l (ls ++ granted_lock f.op r r.answer)) none j) in (
      k.1,
      ap size_with k.2,
      inl (
        i.deed,
        i.acted,
        subst (λ (ls : List Lock). In l ls)
            (ap (λ (o : Op). brought o r) i.of_op ∙ brought_as i.deed.op r i.deed.reply i.is) j,
        (k.0, ap (λ (v : ReplyTo). v.answer) (sym i.is) ∙ k.2),
      ),
    )

now_was : (head : Head) (past : List Line) (stamp : Stamp) (c t : ℕ) (m : Message) → Grown head past
    → TookNow past (turn stamp (Client c)) (Target t) m → Was past (Target t) (Client c) m
now_was head [] stamp c t m g k = absurd k
now_was head (l ∷ past) stamp c t m g k = by l.entry g.0.ok k
  where
    by : (e : Entry) → EntryOk past l.at l.at.node e → TookNow (line l.at e ∷ past) (turn stamp (Client c)) (Target t) m
        → Was (line l.at e ∷ past) (Target t) (Client c) m
    by (Take n from p) ok k =
        was_more (line l.at (Take n from p)) past (Target t) (Client c) m
        (subst (λ (v : Message). Was past (Target t) (Client c) v) k.2
        (subst (λ (v : Node). Was past v (Client c) p) k.1 (subst (λ (v : At). Was past from v.node p) k.0
        (sent_was past n from l.at.node p ok.sent))))
    by e ok k = absurd k

-- two held locks on ranges of one object and cookie are one
one_name : (head : Head) (past : List Line) (c : ℕ) → Grown head past → PinsFit past → (h f : HeldLock) (x y : Extent)
    → In h (held_at c past) → In f (held_at c past) → h.lock.ask.policy ≡ Range x → f.lock.ask.policy ≡ Range y → h.lock.resource
    ≡ f.lock.resource
    → h.lock.cookie.0 ≡ f.lock.cookie.0 → h ≡ f
one_name head past c g fit h f x y i j range_h range_f on cookie =
    let ranged : (q : Lock) (z : Extent) → q.ask.policy ≡ Range z → HasRange q.ask.policy = λ q z e. subst HasRange (sym e) tt in
    let there : h.target.0 ≡ f.target.0 = held_place head past g fit c h h.lock.resource i refl (ranged h.lock x range_h)
    ∙ sym (held_place head past g fit c f h.lock.resource j (sym on) (ranged f.lock y range_f)) in
    once_same (held_at c past) h f (held_once head c past g) i j
    (and_from (nat_eq h.target.0 f.target.0) (nat_eq h.lock.cookie.0 f.lock.cookie.0) (eq-eqb h.target.0 f.target.0 there)
    (eq-eqb h.lock.cookie.0 f.lock.cookie.0 cookie))

is_same_lock : (r s : Resource) (j m : Cookie) → same_lock r s j m ≡ true → (r ≡ s) × (j.0 ≡ m.0)
is_same_lock r s j m t = let p = and_parts (same_resource r s) (nat_eq j.0 m.0) t in (resource_of r s p.0, eqb-true j.0 m.0 p.1)

-- what is owed of an answer: its locks, and the size that a write-back made
holds_in : (t : ℕ) (size : Option ℕ) (seen : List ℕ) (q : Lock) (ls : List Lock) → In q ls
    → In (Hold t q false size seen) (locks_shown t size seen ls)
holds_in t size seen q [] i = absurd i
holds_in t size seen q (k ∷ ls) (inl e) = inl (ap (λ (y : Lock). Hold t y false size seen) e)
holds_in t size seen q (k ∷ ls) (inr i) = inr (holds_in t size seen q ls i)

-- a change whose size is to be marked was written back
record GrownFrom (o : Op) (a : Answer) (r : Resource) (change : Flush) : Type 0 where
  done : a ≡ told.Done
  cookie : Cookie
  is : ((at : ℕ) × (bs : List ℕ) × (o ≡ op.Put r cookie at bs) × (change ≡ flush.Put at bs))
      ⊎ ((n : ℕ) × (o ≡ op.Cut r cookie n) × (change ≡ flush.Cut n))

no_shown : (t : ℕ) (size : Option ℕ) (seen : List ℕ) (r : Resource) (change : Flush) (ls : List Lock)
    → In (GrownTo r change) (locks_shown t size seen ls) → ⊥
no_shown t size seen r change [] i = i
no_shown t size seen r change (k ∷ ls) (inl e) = absurd (cc)
no_shown t size seen r change (k ∷ ls) (inr i) = no_shown t size seen r change ls i

no_learns : (t : ℕ) (o : Op) (a : Answer) (r : Resource) (change : Flush) (ls : List Lock) → In (GrownTo r change) (learns t o a ls) → ⊥
no_learns t o a r change [] i = i
no_learns t o a r change (k ∷ ls) (inl e) = absurd (cc)
no_learns t o a r change (k ∷ ls) (inr i) = i

no_page : (resource : Resource) (cookie : Cookie) (page : ℕ) (bs : List ℕ) (o : Option Lock) (r : Resource) (change : Flush)
    → In (GrownTo r change) (page_heard resource cookie page bs o) → ⊥
no_page resource cookie page bs None r change i = i
no_page resource cookie page bs (Some k) r change i = by k.ask.policy i
  where
    by : (p : Policy) → In (GrownTo r change) (page_under resource cookie page bs p) → ⊥
    by (Bits b) i = i
    by (Range x) i = of bs i
      where
        of : (vs : List ℕ) → In (GrownTo r change) (shows resource cookie page vs ++ fills resource page bs x ∷ []) → ⊥
        of [] (inl e) = absurd (cc)
        of [] (inr i) = i
        of (v ∷ vs) (inl e) = absurd (cc)
        of (v ∷ vs) (inr (inl e)) = absurd (cc)
        of (v ∷ vs) (inr (inr i)) = i

grown_marks : (t : ℕ) (o : Op) (a : Answer) (held : List HeldLock) (r : Resource) (change : Flush)
    → In (GrownTo r change) (heeds_marks t o a held) → GrownFrom o a r change
grown_marks t (op.Get resource cookie page) (told.Content bs) held r change i =
    absurd (no_page resource cookie page bs (held_under (named (record { 0 = t }) cookie) held) r change i)
grown_marks t (op.Put resource cookie at bs) told.Done held r change (inl e) = absurd (cc)
grown_marks t (op.Put resource cookie at bs) told.Done held r change (inr (inl e)) = absurd (cc)
grown_marks t (op.Put resource cookie at bs) told.Done held r change (inr (inr (inl e))) =
    record { done = refl; cookie = cookie; is = inl (at, bs, ap (λ (q : Resource). op.Put q cookie at bs) (cc), cc) }
grown_marks t (op.Put resource cookie at bs) told.Done held r change (inr (inr (inr i))) = absurd i
grown_marks t (op.Cut resource cookie n) told.Done held r change (inl e) = absurd (cc)
grown_marks t (op.Cut resource cookie n) told.Done held r change (inr (inl e)) = absurd (cc)
grown_marks t (op.Cut resource cookie n) told.Done held r change (inr (inr (inl e))) =
    record { done = refl; cookie = cookie; is = inr (n, ap (λ (q : Resource). op.Cut q cookie n) (cc), cc) }
grown_marks t (op.Cut resource cookie n) told.Done held r change (inr (inr (inr i))) = absurd i
grown_marks t o a held r change i = absurd i

grown_owed : (t : ℕ) (f : Flight) (r : ReplyTo) (held : List HeldLock) (q : Resource) (change : Flush)
    → In (GrownTo q change) (owes t f r held) → GrownFrom f.op r.answer q change
grown_owed t f r held q change i =
    ⊎_elim
    (λ (j : In (GrownTo q change) (locks_shown t (size_with r.answer) r.seen (brought f.op r) ++ learns t f.op r.answer r.locks)).
    absurd (⊎_elim (no_shown t (size_with r.answer) r.seen q change (brought f.op r)) (no_learns t f.op r.answer q change r.locks)
    (in_append (GrownTo q change) (locks_shown t (size_with r.answer) r.seen (brought f.op r)) (learns t f.op r.answer r.locks) j)))
    (λ (j : In (GrownTo q change) (heeds_marks t f.op r.answer held)). grown_marks t f.op r.answer held q change j)
    (in_append (GrownTo q change) (locks_shown t (size_with r.answer) r.seen (brought f.op r) ++ learns t f.op r.answer r.locks)
    (heeds_marks t f.op r.answer held) i)

-- ---- an own line

module _ (head : Head) (ranges : IsHead head) (past : List Line) (stamp : Stamp) (c : ℕ) (e : Entry)
    (k : Allowed head past (turn stamp (Client c)) e) (g : Grown head past) (fit : PinsFit (line (turn stamp (Client c)) e ∷ past))
    (heeds : HeedsNext c past (line (turn stamp (Client c)) e))
    (before : AllHeed past) (ih : Sized c past) where
  abbrev l : Line
  l = line (turn stamp (Client c)) e

  abbrev now : List Line
  now = l ∷ past

  -- a held lock's size stands as it did, where no size changes
  stands_same : sizes_at c now ≡ sizes_at c past → (t : ℕ) (q : Lock) (x : Extent)
      → ((size : ℕ) (seen : List ℕ) → e ≡ Hold t q false (Some size) seen → ⊥) → StandsAs c past t q x → StandsAs c now t q x
  stands_same same t q x other (inl n) =
      inl (record {
        number = n.number;
        is_noted = ap (λ ns. noted q.resource q.cookie ns) same ∙ n.is_noted;
        size = n.size;
        tells =
            tells_more t l past q n.size n.tells;
        same = n.same;
      })
  stands_same same t q x other (inr o) =
      inr (record {
        size = o.size;
        seen = o.seen;
        owed = owed_keep head past stamp c e heeds (Hold t q false (Some o.size) o.seen)
            (other o.size o.seen) o.owed;
        tells = tells_more t l past q o.size o.tells;
      })

  -- a writer stays where no lock is given up
  writer_stays : {r : Resource} {P : Extent → Type 0} → ((t : ℕ) (q : Lock) → e ≡ Drop t q → ⊥) → Writer (held_at c past) r P
      → Writer (held_at c now) r P
  writer_stays none w =
      let h = ⊎_elim (λ (x : Has w.lock.target.0 w.lock.lock (held_at c now)). x) (λ x. absurd (none w.lock.target.0 w.lock.lock x.1))
      (has_stays head l past (k, g) c w.lock.target.0 w.lock.lock (w.lock, of_client w.lock (held_at c past) w.held, refl, refl)) in
      record {
        lock = h.0;
        held = to_client h.0 (held_at c now) h.1;
        object = ap (λ (q : Lock). q.resource) h.3 ∙ w.object;
        mode = ap (λ (q : Lock). q.ask.mode) h.3 ∙ w.mode;
        extent = w.extent;
        range = ap (λ (q : Lock). q.ask.policy) h.3 ∙ w.range;
        over = w.over;
      }

  under_stays : (IsAnswer e → ⊥) → ((t : ℕ) (q : Lock) → e ≡ Drop t q → ⊥) → AllUnder c now
  under_stays other none r change i = writer_stays none (ih.1 r change (owed_back past stamp c e other (GrownTo r change) i))

  -- with other pins and marks
  by_kept : ((h : HeldLock) → In h (held_at c now) → Kept (held_at c past) h) → sizes_at c now ≡ sizes_at c past
      → ((t : ℕ) (q : Lock) (size : ℕ) (seen : List ℕ) → e ≡ Hold t q false (Some size) seen → ⊥) → AllNoted c now
  by_kept kept same other h i mode x range ends =
      let p = kept h i in
      subst (λ (q : Lock). StandsAs c now h.target.0 q x) p.3
      (subst (λ (t : TargetId). StandsAs c now t.0 p.0.lock x) p.2
      (stands_same same p.0.target.0 p.0.lock x (other p.0.target.0 p.0.lock)
      (ih.0 p.0 p.1 (ap (λ (q : Lock). q.ask.mode) p.3 ∙ mode) x (ap (λ (q : Lock). q.ask.policy) p.3 ∙ range) ends)))

  -- ---- which lock a note is of

  -- a lock on a range is of an object storage target
  high : (h : HeldLock) (x : Extent) → In h (held_at c now) → h.lock.ask.policy ≡ Range x → 0 < h.target.0
  high h x i range = let p = held_place head now (k, g) fit c h h.lock.resource i refl (subst HasRange (sym range) tt) in omega (arith, p)

  -- ---- a lock is shown

  -- with it the size of its object
  shown_size : (h : HeldLock) (x : Extent) (t : ℕ) (lock : Lock) (marked : Bool) (size : Option ℕ) (seen : List ℕ) → e
      ≡ Hold t lock marked size seen → In h (held_at c now) → h.target.0 ≡ t → h.lock ≡ lock → h.lock.ask.policy ≡ Range x → (n : ℕ)
      × (size ≡ Some n) × TellsSize (only t now) lock n
  shown_size h x t lock marked size seen is i there same range =
      by (subst (λ (y : Entry). EntryOk past (turn stamp (Client c)) (Client c) y) is k.ok)
    where
      by : HoldsOk past (turn stamp (Client c)) t lock marked size seen ⊎ GivenOk past (turn stamp (Client c)) c t lock marked size seen
          → (n : ℕ) × (size ≡ Some n) × TellsSize (only t (line (turn stamp (Client c)) e ∷ past)) lock n
      by (inl ok) =
          let heard = (heard_now head past (turn stamp (Client c)) c t ok.flight ok.reply g refl ok.heard).0 in
          let r = reply_sized head past c t ok.flight ok.reply lock g (subst (λ n. 0 < n) there (high h x i range)) heard ok.among in
          (r.0, ok.sized ∙ r.1, tells_more t l past lock r.0 r.2)
      by (inr ok) =
          let own : lock.ask.who ≡ ok.notice.who =
          ap (λ (q : Lock). q.ask.who) (sym same)
          ∙ (let m = ((holds head now (k, g)).at h.target.0).locks.held c h (held_into c h.target.0 now h refl i)
          in ((holds head now (k, g)).at h.target.0).locks.whose m.deed h.lock m.gave ∙ m.who)
          ∙ sym (life_is_of c h.target.0 now) ∙ life ∙ sym ok.who
          in (
            ok.notice.size,
            ok.sized,
            tells_more t l past lock ok.notice.size
                (inr (
                  t,
                  c,
                  ok.notice,
                  was_only t past (Target t) (Client c) (message.Grant ok.notice) (self t)
                      (now_was head past stamp c t (message.Grant ok.notice) g ok.took),
                  sym ok.of_cookie
                      ∙ sym (ap (λ (q : Lock). q.cookie) ok.is),
                  sym own,
                  refl,
                )),
          )
        where
          life : life_at c (line (turn stamp (Client c)) e ∷ past) ≡ life_at c past
          life = subst (λ (y : Entry). life_at c (line (turn stamp (Client c)) y ∷ past) ≡ life_at c past) (sym is) refl

  -- so it is noted
  shown_noted : (h : HeldLock) (x : Extent) (t : ℕ) (lock : Lock) (marked : Bool) (size : Option ℕ) (seen : List ℕ) → e
      ≡ Hold t lock marked size seen → In h (held_at c now) → h.target.0 ≡ t → h.lock ≡ lock → h.lock.ask.policy ≡ Range x → x.last
      ≡ the_end
      → NotedAs c now h.target.0 h.lock x
  shown_noted h x t lock marked size seen is i there same range ends =
      let s = shown_size h x t lock marked size seen is i there same range in
      record {
        number = s.0;
        is_noted = ap (λ ns. noted h.lock.resource h.lock.cookie ns)
            (sizes_is head past stamp c e ∙ ap (sizes_after (sizes_at c past)) is
            ∙ ap (λ (o : Option ℕ). size_kept lock o (sizes_at c past)) s.1 ∙ reaches s.0)
            ∙ ap (λ (q : Lock). noted q.resource q.cookie (with_note lock.resource lock.cookie s.0 (sizes_at c past))) same
            ∙ noted_with lock.resource lock.resource lock.cookie lock.cookie s.0 (sizes_at c past)
            ∙ cond-true (same_lock lock.resource lock.resource lock.cookie lock.cookie) (Some s.0) _
            (and_from (same_resource lock.resource lock.resource) (nat_eq lock.cookie.0 lock.cookie.0) (resource_itself lock.resource)
            (self lock.cookie.0));
        size = s.0;
        tells = subst (λ (q : Lock). TellsSize (only h.target.0 now) q s.0) (sym same)
            (subst (λ n. TellsSize (only n now) lock s.0) (sym there) s.2);
        same = λ p le. refl;
      }
    where
      reaches : (n : ℕ) → size_kept lock (Some n) (sizes_at c past) ≡ with_note lock.resource lock.cookie n (sizes_at c past)
      reaches n = cond-true (reaches_end lock.ask.policy) (with_note lock.resource lock.cookie n (sizes_at c past)) (sizes_at c past)
          (ap reaches_end (sym (ap (λ (q : Lock). q.ask.policy) same) ∙ range) ∙ to_end)
        where
          to_end : reaches_end (Range x) ≡ true
          to_end = eq-eqb x.last the_end ends

  -- ---- each kind of line

  -- a lock that isn't the one of that key has its note still
  noted_apart : (t : ℕ) (q : Lock) (x : Extent) (r : Resource) (j : Cookie) (ns : List NoteOf) → sizes_at c now ≡ ns
      → noted q.resource q.cookie ns ≡ noted q.resource q.cookie (sizes_at c past) → NotedAs c past t q x → NotedAs c now t q x
  noted_apart t q x r j ns is same n =
      record {
        number = n.number;
        is_noted = ap (λ ms. noted q.resource q.cookie ms) is ∙ same ∙ n.is_noted;
        size = n.size;
        tells =
            tells_more t l past q n.size n.tells;
        same = n.same;
      }

  hold_line : (t : ℕ) (lock : Lock) (marked : Bool) (size : Option ℕ) (seen : List ℕ) → e ≡ Hold t lock marked size seen → AllNoted c now
  hold_line t lock marked size seen is h i mode x range ends =
      ⊎_elim
      (λ (q : held_as t lock marked ≡ h). inl (shown_noted h x t lock marked size seen is i (sym (ap (λ (y : HeldLock). y.target.0) q))
      (sym (ap (λ (y : HeldLock). y.lock) q)) range ends))
      (λ (j : In h (held_at c past)). old j (ih.0 h j mode x range ends))
      (with_only (held_as t lock marked) h (held_at c past) (subst (λ (hs : List HeldLock). In h hs)
      (held_is head past stamp c e ∙ ap (held_after (held_at c past)) is) i))
    where
      here : In (held_as t lock marked) (held_at c (line (turn stamp (Client c)) e ∷ past))
      here = subst (λ (hs : List HeldLock). In (held_as t lock marked) hs)
          (sym (held_is head past stamp c e ∙ ap (held_after (held_at c past)) is)) (with_self (held_as t lock marked) (held_at c past))

      -- its key isn't that of the lock, unless it is the lock
      apart : (p : Policy) → lock.ask.policy ≡ p → (o : Option ℕ) → noted h.lock.resource h.lock.cookie (size_kept lock o (sizes_at c past))
          ≡ noted h.lock.resource h.lock.cookie (sizes_at c past) ⊎ (held_as t lock marked ≡ h)
      apart (Bits b) policy None = inl refl
      apart (Bits b) policy (Some n) = inl (ap (λ ns. noted h.lock.resource h.lock.cookie ns)
          (cond-false (reaches_end lock.ask.policy) (with_note lock.resource lock.cookie n (sizes_at c past)) (sizes_at c past)
          (ap reaches_end policy)))
      apart (Range y) policy None = inl refl
      apart (Range y) policy (Some n) = key (same_lock lock.resource h.lock.resource lock.cookie h.lock.cookie) refl
        where
          key : (b : Bool) → same_lock lock.resource h.lock.resource lock.cookie h.lock.cookie ≡ b
              → (noted h.lock.resource h.lock.cookie (size_kept lock (Some n) (sizes_at c past))
              ≡ noted h.lock.resource h.lock.cookie (sizes_at c past)) ⊎ (held_as t lock marked ≡ h)
          key true q = let s = is_same_lock lock.resource h.lock.resource lock.cookie h.lock.cookie q
              in inr (one_name head now c (k, g) fit (held_as t lock marked) h y x here i policy range s.0 s.1)
          key false q =
              inl (cond_both (reaches_end lock.ask.policy) (with_note lock.resource lock.cookie n (sizes_at c past)) (sizes_at c past)
              (λ ns. noted h.lock.resource h.lock.cookie ns ≡ noted h.lock.resource h.lock.cookie (sizes_at c past))
              (λ v. noted_with lock.resource h.lock.resource lock.cookie h.lock.cookie n (sizes_at c past)
              ∙ cond-false (same_lock lock.resource h.lock.resource lock.cookie h.lock.cookie) (Some n)
              (noted h.lock.resource h.lock.cookie (sizes_at c past)) q)
              (λ v. refl))

      old : In h (held_at c past) → StandsAs c past h.target.0 h.lock x
          → StandsAs c (line (turn stamp (Client c)) e ∷ past) h.target.0 h.lock x
      old j (inl n) =
          ⊎_elim
          (λ (s : noted h.lock.resource h.lock.cookie (size_kept lock size (sizes_at c past))
          ≡ noted h.lock.resource h.lock.cookie (sizes_at c past)).
          inl (noted_apart h.target.0 h.lock x lock.resource lock.cookie (size_kept lock size (sizes_at c past))
          (sizes_is head past stamp c e ∙ ap (sizes_after (sizes_at c past)) is) s n))
          (λ (q : held_as t lock marked ≡ h). inl (shown_noted h x t lock marked size seen is i (sym (ap (λ (y : HeldLock). y.target.0) q))
          (sym (ap (λ (y : HeldLock). y.lock) q)) range ends))
          (apart lock.ask.policy refl size)
      old j (inr o) =
          ⊎_elim
          (λ (q : e ≡ Hold h.target.0 h.lock false (Some o.size) o.seen). inl
          (shown_noted h x h.target.0 h.lock false (Some o.size) o.seen q i refl refl range ends))
          (λ (q : In (Hold h.target.0 h.lock false (Some o.size) o.seen) (owed_of c now)). inr
          (record { size = o.size; seen = o.seen; owed = q; tells = tells_more h.target.0 l past h.lock o.size o.tells }))
          (owed_or head past stamp c e heeds (Hold h.target.0 h.lock false (Some o.size) o.seen) o.owed)

  drop_line : (t : ℕ) (lock : Lock) → e ≡ Drop t lock → AllNoted c now
  drop_line t lock is h i mode x range ends = by (ih.0 h left.0 mode x range ends)
    where
      left : In h (held_at c past) × (is_named (named (record { 0 = t }) lock.cookie) h ≡ false)
      left = without_only (named (record { 0 = t }) lock.cookie) h (held_at c past)
          (subst (λ (hs : List HeldLock). In h hs) (held_is head past stamp c e ∙ ap (held_after (held_at c past)) is) i)

      none : owed_of c past ≡ []
      none = none_owed c past (line (turn stamp (Client c)) e) heeds (λ o. subst IsOwed is o)

      ok : DropOk (only t past) c t lock
      ok = (subst (λ (y : Entry). concerns t (Client c) y ≡ true → EntryOf head (only t past) (turn stamp (Client c)) (Client c) y) is
          (k.of t)) (self t)

      other : (y : Extent) → lock.ask.policy ≡ Range y → (b : Bool) → same_lock lock.resource h.lock.resource lock.cookie h.lock.cookie ≡ b
          → b ≡ false
      other y policy true q =
          let s = is_same_lock lock.resource h.lock.resource lock.cookie h.lock.cookie q in
          let back = held_back c t past ok.holding ok.held in
          let same : ok.holding ≡ h = one_name head past c g fit.1 ok.holding h y x back.0 left.0
          (ap (λ (z : Lock). z.ask.policy) ok.is ∙ policy) range (ap (λ (z : Lock). z.resource) ok.is ∙ s.0)
          (ap (λ (z : Lock). z.cookie.0) ok.is ∙ s.1) in
          let yes : is_named (named (record { 0 = t }) lock.cookie) h ≡ true =
          and_from (nat_eq t h.target.0) (nat_eq lock.cookie.0 h.lock.cookie.0)
          (eq-eqb t h.target.0 (sym back.1 ∙ ap (λ (z : HeldLock). z.target.0) same)) (eq-eqb lock.cookie.0 h.lock.cookie.0 s.1) in
          let no = left.1 in
          absurd (cc)
      other y policy false q = refl

      kept : (p : Policy) → lock.ask.policy ≡ p → noted h.lock.resource h.lock.cookie (forgotten_notes p lock (sizes_at c past))
          ≡ noted h.lock.resource h.lock.cookie (sizes_at c past)
      kept (Bits b) policy = refl
      kept (Range y) policy =
          noted_without lock.resource h.lock.resource lock.cookie h.lock.cookie (sizes_at c past)
          ∙ cond-false (same_lock lock.resource h.lock.resource lock.cookie h.lock.cookie) None
          (noted h.lock.resource h.lock.cookie (sizes_at c past))
          (other y policy (same_lock lock.resource h.lock.resource lock.cookie h.lock.cookie) refl)

      by : StandsAs c past h.target.0 h.lock x → StandsAs c (line (turn stamp (Client c)) e ∷ past) h.target.0 h.lock x
      by (inl n) = inl (noted_apart h.target.0 h.lock x lock.resource lock.cookie (forgotten_notes lock.ask.policy lock (sizes_at c past))
          (sizes_is head past stamp c e ∙ ap (sizes_after (sizes_at c past)) is) (kept lock.ask.policy refl) n)
      by (inr o) = absurd (subst (λ (es : List Entry). In (Hold h.target.0 h.lock false (Some o.size) o.seen) es) none o.owed)

  grown_line : (r : Resource) (change : Flush) → e ≡ GrownTo r change → AllNoted c now
  grown_line r change is h i mode x range ends = by (ih.0 h j mode x range ends)
    where
      j : In h (held_at c past)
      j = subst (λ (hs : List HeldLock). In h hs) (held_is head past stamp c e ∙ ap (held_after (held_at c past)) is) i

      -- it was owed
      owed : In (GrownTo r change) (owed_of c past)
      owed = first (owed_of c past) refl
        where
          first : (es : List Entry) → owed_of c past ≡ es → In (GrownTo r change) es
          first [] q = absurd (let m = subst (λ (y : Entry). EntryOk past (turn stamp (Client c)) (Client c) y) is k.ok in let none =
              none_marked c past before q in let some = m.1 in cc)
          first (y ∷ more) q = inl (sym (heeds y more q).1 ∙ is)

      -- the lock that it lies under doesn't meet this one
      same : h.lock.resource ≡ r → (p m : ℕ) → x.first ≤ p → nat_lt p (grown change m) ≡ nat_lt p m
      same on p m le =
          let w = ih.1 r change owed in
          let wi = of_client w.lock (held_at c past) w.held in
          below_same change x w.extent w.over (held_ranges head past g c h x j range) (held_ranges head past g c w.lock w.extent wi w.range)
          ends (apart w wi (extents_meet w.extent x) refl) p m le
        where
          apart : (w : Writer (held_at c past) r (λ y. Lies change y)) → In w.lock (held_at c past) → (b : Bool) → extents_meet w.extent x
              ≡ b → b ≡ false
          apart w wi true q =
              let one : w.lock ≡ h = held_apart head past g c fit.1 w.lock h w.extent x w.held (to_client h (held_at c past) j)
              (w.object ∙ sym on) w.range range (ap (λ v. is_write v || is_write h.lock.ask.mode) w.mode) q in
              let two : PW ≡ PR = sym w.mode ∙ ap (λ (z : HeldLock). z.lock.ask.mode) one ∙ mode in
              absurd (cc)
          apart w wi false q = refl

      by : StandsAs c past h.target.0 h.lock x → StandsAs c (line (turn stamp (Client c)) e ∷ past) h.target.0 h.lock x
      by (inl n) = of (same_resource r h.lock.resource) refl
        where
          notes : noted h.lock.resource h.lock.cookie (sizes_at c (line (turn stamp (Client c)) e ∷ past))
              ≡ (if same_resource r h.lock.resource then option_map (grown change) (noted h.lock.resource h.lock.cookie (sizes_at c past))
              else noted h.lock.resource h.lock.cookie (sizes_at c past))
          notes = ap (λ ns. noted h.lock.resource h.lock.cookie ns) (sizes_is head past stamp c e ∙ ap (sizes_after (sizes_at c past)) is)
              ∙ noted_grown r h.lock.resource h.lock.cookie change (sizes_at c past)

          of : (b : Bool) → same_resource r h.lock.resource ≡ b → StandsAs c (line (turn stamp (Client c)) e ∷ past) h.target.0 h.lock x
          of true q =
              inl (record {
                number = grown change n.number;
                is_noted = notes ∙ ap (λ (b : Bool). if b then option_map (grown change)
                    (noted h.lock.resource h.lock.cookie (sizes_at c past)) else noted h.lock.resource h.lock.cookie (sizes_at c past)) q
                    ∙ ap (option_map (grown change)) n.is_noted;
                size = n.size;
                tells = tells_more h.target.0 l past h.lock n.size n.tells;
                same = λ p le. same (sym (resource_of r h.lock.resource q)) p n.number le ∙ n.same p le;
              })
          of false q =
              inl (record {
                number = n.number;
                is_noted = notes ∙ ap (λ (b : Bool). if b then option_map (grown change)
                    (noted h.lock.resource h.lock.cookie (sizes_at c past)) else noted h.lock.resource h.lock.cookie (sizes_at c past)) q
                    ∙ n.is_noted;
                size = n.size;
                tells = tells_more h.target.0 l past h.lock n.size n.tells;
                same = n.same;
              })
      by (inr o) =
          inr (record {
            size = o.size;
            seen = o.seen;
            owed = owed_keep head past stamp c e heeds
                (Hold h.target.0 h.lock false (Some o.size) o.seen)
                (λ q. let z : GrownTo r change ≡ Hold h.target.0 h.lock false (Some o.size) o.seen = sym is ∙ q in absurd (cc)) o.owed;
            tells = tells_more h.target.0 l past h.lock o.size o.tells;
          })

  -- what is asked is backed by a held lock
  abbrev AsksBacked : Type 0
  AsksBacked = (t : ℕ) (o : Op) → Asked (imports_of head c past) t o → IsAsked (held_at c past) (patches_at c past) t o

  heard_under : (t : ℕ) (f : Flight) (r : ReplyTo) → e ≡ Heard t f r → AsksBacked → (q : Resource) (change : Flush)
      → GrownFrom f.op r.answer q change → Writer (held_at c past) q (λ y. Lies change y)
  heard_under t f r is backed q change from = by from.is
    where
      k_now : Allowed head past (turn stamp (Client c)) (Heard t f r)
      k_now = subst (λ (y : Entry). Allowed head past (turn stamp (Client c)) y) is k

      ok : HeardOk (only t past) c f r
      ok = k_now.of t (self t)

      heard : IsHeard past c t f r
      heard = reply_is_heard head past stamp c t f r k_now g

      flew : Flew (only t past) (life_of c (only t past)) f
      flew = ((holds head past g).at t).numbers.flying (life_of c (only t past)) f ok.flying

      there : object_of f.op ≡ Some q → t ≡ place head.osts q
      there on = flew_place head past t (life_of c (only t past)) f q g fit.1 flew on

      asked : object_of f.op ≡ Some q → Asked (imports_of head c past) t f.op
      asked on =
          let low : t ≤ head.osts = let m = mod_below (q.fid.0 % 4294967296 + q.stripe) head.osts ranges.osts in let e = there on
          in omega (arith, m, e) in
          let lt : t < length (imports_of head c past) = let long = imports_long c past (head.osts + 1) 0 in omega (arith, low, long) in
          inr (
            f,
            subst (λ (fs : List Flight). client.In f fs) (sym (ap (λ (i : Import). i.flights) (import_there head c past t lt)
                ∙ flights_now head c t past g)) (to_client f (flights_of (life_of c (only t past)) (only t past)) ok.flying),
            refl,
          )

      -- what was done wrote under a lock of that cookie
      under : object_of f.op ≡ Some q → UnderGiven (only t past) heard.deed
      under on =
          let high : 0 < t = let e = there on in omega (arith, e) in
          ⊎_elim
          (λ (m : IsMade heard.deed × IsWrite heard.deed.op × (heard.deed.reply.answer ≡ told.Done)). wrote_under head past t heard.deed
          high g heard.acted m.0)
          (λ (m : (heard.deed.reply.txn.0 ≡ 0) × (heard.deed.reply.answer ≡ told.Done → ⊥)). absurd
          (m.1 (ap (λ (v : ReplyTo). v.answer) (sym heard.is) ∙ from.done)))
          (acted_done head past t heard.deed high g heard.acted)

      -- that lock is the one that is held
      writer : (cookie : Cookie) (x : Extent) → IsBacked (held_at c past) (patch_at q (patches_at c past)) t cookie q
          → (w : Lock) (d : Deed) → Gave (only t past) d w → w.cookie ≡ cookie → lies_in x (extent_of w) ≡ true
          → ((y : Extent) → lies_in x y ≡ true → Lies change y)
          → Writer (held_at c past) q (λ y. Lies change y)
      writer cookie x b w d gave same lies make =
          let h = of_client b.under.lock (held_at c past) b.under.held in
          let mine = has_gave head past g c t b.under.lock.lock (b.under.lock, h, b.target, refl) in
          let one : w ≡ b.under.lock.lock = gave_one head t past g d mine.0 w b.under.lock.lock gave mine.1
          (ap (λ (v : Cookie). v.0) (same ∙ sym b.cookie)) in
          record {
            lock = b.under.lock;
            held = b.under.held;
            object = b.under.object;
            mode = b.under.mode;
            extent = b.under.extent;
            range = b.under.range;
            over = make b.under.extent (subst (λ (p : Policy). lies_in x (extent_in p) ≡ true) b.under.range
                (subst (λ (v : Lock). lies_in x (extent_of v) ≡ true) one lies));
          }

      by : ((at : ℕ) × (bs : List ℕ) × (f.op ≡ op.Put q from.cookie at bs) × (change ≡ flush.Put at bs))
          ⊎ ((n : ℕ) × (f.op ≡ op.Cut q from.cookie n) × (change ≡ flush.Cut n)) → Writer (held_at c past) q (λ y. Lies change y)
      by (inl p) =
          let on : object_of f.op ≡ Some q = ap object_of p.2 in
          let u = under on in
          let lies = subst (λ (o : Op). LiesUnder o u.0) (sym heard.of_op ∙ p.2) u.3 in
          writer from.cookie (put_extent p.0 p.1) (subst (λ (o : Op). IsAsked (held_at c past) (patches_at c past) t o) p.2
          (backed t f.op (asked on))) u.0 u.1 u.2 lies.0 lies.2 (λ y z. subst (λ (v : Flush). Lies v y) (sym p.3) z)
      by (inr p) =
          let on : object_of f.op ≡ Some q = ap object_of p.1 in
          let u = under on in
          let lies = subst (λ (o : Op). LiesUnder o u.0) (sym heard.of_op ∙ p.1) u.3 in
          writer from.cookie (cut_extent p.0) (subst (λ (o : Op). IsAsked (held_at c past) (patches_at c past) t o) p.1
          (backed t f.op (asked on))) u.0 u.1 u.2 lies.0 lies.2 (λ y z. subst (λ (v : Flush). Lies v y) (sym p.2) z)

  heard_line : (t : ℕ) (f : Flight) (r : ReplyTo) → e ≡ Heard t f r → AsksBacked → Sized c now
  heard_line t f r is backed = (noted_all, under_all)
    where
      none : owed_of c past ≡ []
      none = none_owed c past (line (turn stamp (Client c)) e) heeds (λ o. subst IsOwed is o)

      owed : owed_of c (line (turn stamp (Client c)) e ∷ past) ≡ owes t f r (held_at c past)
      owed = subst (λ (y : Entry). owed_of c (line (turn stamp (Client c)) y ∷ past) ≡ owes t f r (held_at c past)) (sym is)
          (cond-true (nat_eq c c) (owes t f r (held_at c past)) (owed_of c past) (self c))

      k_now : Allowed head past (turn stamp (Client c)) (Heard t f r)
      k_now = subst (λ (y : Entry). Allowed head past (turn stamp (Client c)) y) is k

      noted_all : AllNoted c (line (turn stamp (Client c)) e ∷ past)
      noted_all h i mode x range ends =
          ⊎_elim
          (λ (j : In h (held_at c past)). old (ih.0 h j mode x range ends))
          (λ (j : (q : Lock) × In q (brought f.op r) × (held_as t q false ≡ h)). new j.0 j.1 j.2)
          (brought_in t (brought f.op r) (held_at c past) h (subst (λ (hs : List HeldLock). In h hs)
          (held_is head past stamp c e ∙ ap (held_after (held_at c past)) is) i))
        where
          old : StandsAs c past h.target.0 h.lock x → StandsAs c (line (turn stamp (Client c)) e ∷ past) h.target.0 h.lock x
          old (inl n) = inl (noted_apart h.target.0 h.lock x h.lock.resource h.lock.cookie (sizes_at c past)
              (sizes_is head past stamp c e ∙ ap (sizes_after (sizes_at c past)) is) refl n)
          old (inr o) = absurd (subst (λ (es : List Entry). In (Hold h.target.0 h.lock false (Some o.size) o.seen) es) none o.owed)

          new : (q : Lock) → In q (brought f.op r) → held_as t q false ≡ h
              → StandsAs c (line (turn stamp (Client c)) e ∷ past) h.target.0 h.lock x
          new q j same =
              let high_t : 0 < t = subst (λ n. 0 < n) (sym (ap (λ (y : HeldLock). y.target.0) same)) (high h x i range) in
              let s = reply_sized head past c t f r q g high_t (reply_is_heard head past stamp c t f r k_now g) j in
              let first : In (Hold t q false (Some s.0) r.seen) (locks_shown t (size_with r.answer) r.seen (brought f.op r)) =
              subst (λ (o : Option ℕ). In (Hold t q false o r.seen) (locks_shown t (size_with r.answer) r.seen (brought f.op r))) s.1
              (holds_in t (size_with r.answer) r.seen q (brought f.op r) j) in
              inr
              (subst (λ (y : HeldLock). OwedAs c (line (turn stamp (Client c)) e ∷ past) y.target.0 y.lock) same
              (record {
                size = s.0;
                seen = r.seen;
                owed = subst (λ (es : List Entry). In (Hold t q false (Some s.0) r.seen) es) (sym owed)
                    (in_left (Hold t q false (Some s.0) r.seen)
                    (locks_shown t (size_with r.answer) r.seen (brought f.op r) ++ learns t f.op r.answer r.locks)
                    (heeds_marks t f.op r.answer (held_at c past))
                    (in_left (Hold t q false (Some s.0) r.seen) (locks_shown t (size_with r.answer) r.seen (brought f.op r))
                    (learns t f.op r.answer r.locks) first));
                tells = tells_more t l past q s.0 s.2;
              }))

      under_all : AllUnder c (line (turn stamp (Client c)) e ∷ past)
      under_all q change i =
          writer_stays (λ u m z. let a : Heard t f r ≡ Drop u m = sym is ∙ z in absurd (cc))
          (heard_under t f r is backed q change (grown_owed t f r (held_at c past) q change
          (subst (λ (es : List Entry). In (GrownTo q change) es) owed i)))

  -- with other pins and marks at most
  other_kind : (x : Entry) → e ≡ x → ((h : HeldLock) → In h (held_after (held_at c past) x) → Kept (held_at c past) h)
      → sizes_after (sizes_at c past) x ≡ sizes_at c past → (IsAnswer x → ⊥) → ((t : ℕ) (q : Lock) → x ≡ Drop t q → ⊥)
      → ((t : ℕ) (q : Lock) (size : ℕ) (seen : List ℕ) → x ≡ Hold t q false (Some size) seen → ⊥) → Sized c now
  other_kind x is kept same answer drop hold = (
    by_kept (λ h i. kept h (subst (λ (hs : List HeldLock). In h hs) (held_is head past stamp c e ∙ ap (held_after (held_at c past)) is) i))
        (sizes_is head past stamp c e ∙ ap (sizes_after (sizes_at c past)) is ∙ same)
        (λ t q size seen z. hold t q size seen (sym is ∙ z)),
    under_stays (λ a. answer (subst IsAnswer is a)) (λ t q z. drop t q (sym is ∙ z)),
  )

  pub own : (x : Entry) → e ≡ x → ((who : Who) → x ≡ Life who → ⊥) → AsksBacked → Sized c now
  own (Heard t f r) is not_new backed = heard_line t f r is backed
  own (Hold t lock marked size seen) is not_new backed = (
    hold_line t lock marked size seen is,
    under_stays (λ a. subst IsAnswer is a) (λ u q z. let y : Hold t lock marked size seen ≡ Drop u q = sym is ∙ z in absurd (cc)),
  )
  own (Drop t lock) is not_new backed = (
    drop_line t lock is,
    λ r change i. absurd
        (subst (λ (es : List Entry). In (GrownTo r change) es) none
        (owed_back past stamp c e (λ a. subst IsAnswer is a) (GrownTo r change) i)),
  )
    where
      none : owed_of c past ≡ []
      none = none_owed c past (line (turn stamp (Client c)) e) heeds (λ o. subst IsOwed is o)
  own (GrownTo r change) is not_new backed = (
    grown_line r change is,
    under_stays (λ a. subst IsAnswer is a) (λ u q z. let y : GrownTo r change ≡ Drop u q = sym is ∙ z in absurd (cc)),
  )
  own (Life who) is not_new backed = absurd (not_new who refl)
  own (Pins name) is not_new backed = other_kind (Pins name) is (λ h i. changed_kept name Pin (held_at c past) h i) refl (λ a. a)
      (λ t q z. absurd (cc)) (λ t q n v z. absurd (cc))
  own (Unpins name) is not_new backed = other_kind (Unpins name) is
      (λ h i. changed_kept name Unpin (held_at c past) h (used_in name (changed name Unpin (held_at c past)) h i)) refl (λ a. a)
      (λ t q z. absurd (cc)) (λ t q n v z. absurd (cc))
  own (Marks name) is not_new backed = other_kind (Marks name) is (λ h i. changed_kept name Mark (held_at c past) h i) refl (λ a. a)
      (λ t q z. absurd (cc)) (λ t q n v z. absurd (cc))
  own (Unmarks t) is not_new backed = other_kind (Unmarks t) is (λ h i. unmarked_kept (record { 0 = t }) (held_at c past) h i) refl (λ a. a)
      (λ u q z. absurd (cc)) (λ u q n v z. absurd (cc))
  own x is not_new backed = other_kind x is (λ h i. kept_same (held_at c past) h i) refl (λ a. a) (λ t q z. absurd (cc))
      (λ t q n v z. absurd (cc))
