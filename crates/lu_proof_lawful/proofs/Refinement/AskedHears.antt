-- A client hears a reply: its request flies no more, a lock may be to come or is shown next, and what was written back isn't under way.
use Rattle.std.proofs.Common.{◌≡◌, ℕ, Bool, ◌+◌, ◌<◌, true, false, List, [], ◌∷◌, ◌++◌, Option, Some, None, ◌⊎◌, inl, inr, ⊎_elim, refl}
use Rattle.std.proofs.Common.{sym, subst, ap, ◌∙◌, arith}
use Rattle.std.specs.Prelude.{nat_eq, not, ◌&&◌, ◌||◌, option_map, if◌then◌else◌}
use Rattle.std.specs.Option.{unwrap_or}
use Rattle.std.proofs.lemmas.Bool.{eqb-true, eqb-false, both_ways}
use Rattle.lu_base.specs.declared.ids.Cookie.{Cookie}
use Rattle.lu_base.specs.declared.ids.Node.TheVariants.{Client}
use Rattle.lu_base.specs.declared.ids.Stamp.{Stamp}
use Rattle.lu_base.specs.declared.ids.Who.{Who}
use Rattle.lu_base.specs.declared.locks.Extent.{Extent}
use Rattle.lu_base.specs.declared.locks.Lock.{Lock as TableLock}
use Rattle.lu_base.specs.declared.locks.Mode.{Mode}
use Rattle.lu_base.specs.declared.locks.Policy.TheVariants.{Range}
use Rattle.lu_base.specs.declared.locks.Resource.{Resource}
use Rattle.lu_held.specs.declared.locks.HeldLock.{HeldLock}
use Rattle.lu_held.specs.Locks.{name_of, is_named, same_resource}
use Rattle.lu_msg.specs.declared.answers.Answer.{Answer}
use Rattle.lu_msg.specs.declared.answers.Answer.TheVariants as answer
use Rattle.lu_msg.specs.declared.messages.Reply.{Reply as ReplyTo}
use Rattle.lu_msg.specs.declared.operations.Op.{Op}
use Rattle.lu_msg.specs.declared.operations.Op.TheVariants as op
use Rattle.lu_spec_entries.specs.declared.changes.Flush.{Flush}
use Rattle.lu_spec_entries.specs.Carried.{Deed, Queued, Flight}
use Rattle.lu_spec_entries.specs.Words as word
use Rattle.lu_spec_entries.specs.Words.{Line, line}
use Rattle.lu_spec_entries.specs.Concerns.{only}
use Rattle.lu_spec_client.specs.Caches.{held_as, held_at, patch_at, granted_lock, brought, with_held, with_brought}
use Rattle.lu_spec_client.specs.Calls.{life_at}
use Rattle.lu_spec_client.specs.Messages.{size_with, learns}
use Rattle.lu_spec_client.specs.Patches.{Flying}
use Rattle.lu_spec_client.specs.States.{Store, store_at, store_after, store_turn}
use Rattle.lu_proof_lawful.specs.Covered.Imports.{without_flight}
use Rattle.lu_proof_lawful.specs.Covered.ClientStates.{is_own, life_of, queue_of, flights_of, brings_cookie, awaits_of}
use Rattle.lu_proof_lawful.specs.Covered.Heads.{Head}
use Rattle.lu_proof_lawful.proofs.Preconditions.ClientLocks.{with_only, with_self, with_other}
use Rattle.lu_proof_lawful.proofs.Preconditions.Heard.{In}
use Rattle.lu_proof_lawful.proofs.Preconditions.HeedMarks.{heeds_marks, owed_of, owes}
use Rattle.lu_proof_lawful.proofs.Preconditions.Heeds.{none_owed, owed_heard, store_line}
use Rattle.lu_proof_lawful.proofs.Preconditions.Lists.{self, turn, own_self}
use Rattle.lu_proof_lawful.proofs.Preconditions.QueueLists.{resource_of}
use Rattle.lu_proof_lawful.proofs.Preconditions.StoryGuards.{HeardOk}
use Rattle.lu_proof_lawful.proofs.Invariants.Groups.{HeardAs}
use Rattle.lu_proof_lawful.proofs.Invariants.TargetGroups.{Acted, Gave, Gone}
use Rattle.lu_proof_lawful.proofs.Invariants.Lines.{only_more}
use Rattle.lu_proof_bytes.specs.Object.Words as words
use Rattle.lu_proof_bytes.specs.Object.Words.{Lock, Entry, Heard}
use Rattle.lu_proof_bytes.specs.Object.Folds.{HeldBy, WasDropped, WriteBack, taken_heard, brings}
use Rattle.lu_proof_bytes.specs.Object.Folds as says
use Rattle.lu_proof_bytes.specs.Object.Guards.{HoldOk}
use Rattle.lu_proof_objects.specs.Points.{is_write, last_of, lock_at}
use Rattle.lu_proof_lawful.specs.Projection.Lives.{number_of, is_live}
use Rattle.lu_proof_lawful.specs.Projection.Locks.{lock_of, given}
use Rattle.lu_proof_lawful.specs.Projection.Requests.{op_of, op_on, get_under, among, answer_by, answer_of}
use Rattle.lu_proof_lawful.specs.Projection.Messages.{request_as}
use Rattle.lu_proof_lawful.specs.Projection.Stories.{hears, with_entry, of_life, story}
use Rattle.lu_proof_lawful.proofs.Refinement.Covering.{given_line}
use Rattle.lu_proof_lawful.proofs.Refinement.NeverRefused.{put_done}
use Rattle.lu_proof_lawful.proofs.Refinement.Placed.{flew_place}
use Rattle.lu_proof_lawful.proofs.Refinement.TargetDeeds.{on_of}
use Rattle.lu_proof_lawful.proofs.Refinement.Tied.{Here}
use Rattle.lu_proof_lawful.proofs.Refinement.TiedStore.{store_owed}
use Rattle.lu_proof_lawful.proofs.Refinement.TiedAsked.{IsOn, BroughtOn, TakenAs, is_back, queued_backs, flying_backs, backs_of, JustTaken}
use Rattle.lu_proof_lawful.proofs.Refinement.TiedAsked.{FlightsAs, LocksAs, AwaitsAs, BacksAs, AskedOf, AskedBy}
use Rattle.lu_proof_lawful.proofs.Refinement.AskedFolds.{only_stays, queue_stays}
use Rattle.lu_proof_lawful.proofs.Refinement.AskedKept.{ShowsNone, LocksStay, backs_kept}
use Rattle.lu_proof_lawful.proofs.Refinement.AskedFlights.{flights_heard, flights_passed, op_off}
use Rattle.lu_proof_lawful.proofs.Refinement.AskedBacks.{heard_back, heard_other}
use Rattle.lu_proof_lawful.proofs.Refinement.AskedBrings.{brings_same}
use Rattle.lu_proof_lawful.proofs.Refinement.AskedElse.{asked_else}
use Rattle.lu_proof_lawful.proofs.Refinement.AskedLocks.{name_parts}
use Rattle.lu_proof_lawful.proofs.Refinement.AskedOther.{brought_before, gave_before, gone_only, own_life}
use Rattle.lu_proof_lawful.proofs.Refinement.AskedOwed.{owes_else, owes_none, owes_one, one_brought}
use Rattle.lu_proof_lawful.proofs.Refinement.AskedOwn.{shows_none}
use Rattle.lu_proof_lawful.proofs.Refinement.AskedPatch.{heard_done, heard_still}
use Rattle.lu_proof_lawful.proofs.Refinement.MayBase.{tie, life_eq, at_live, held_there}
use Rattle.lu_proof_lawful.proofs.Refinement.AskedSends.{turned}
use Rattle.lu_proof_lawful.proofs.Refinement.MayHear.{flying, replies_who, may_hear}

-- ---- what an answer makes of what was taken

back_taken : (r : Resource) (h : List Entry) (o : Op) (x : words.Op) (y : Option WriteBack) → op_of r h o ≡ Some x → is_back r o ≡ true
    → taken_heard x y ≡ None
back_taken r h (op.Put q cookie at bytes) x y e b = subst (λ (z : words.Op). taken_heard z y ≡ None) (cut_some e b) refl
  where
    cut_some : op_on r q (words.Flush cookie.0 (words.Write at bytes)) ≡ Some x → same_resource q r ≡ true
        → words.Flush cookie.0 (words.Write at bytes) ≡ x
    cut_some f g = let s : Some (words.Flush cookie.0 (words.Write at bytes)) ≡ Some x =
        sym (ap (λ (v : Bool). if v then Some (words.Flush cookie.0 (words.Write at bytes)) else None) g) ∙ f in cc
back_taken r h (op.Cut q cookie n) x y e b = subst (λ (z : words.Op). taken_heard z y ≡ None) (cut_some e b) refl
  where
    cut_some : op_on r q (words.Flush cookie.0 (words.Cut n)) ≡ Some x → same_resource q r ≡ true → words.Flush cookie.0 (words.Cut n) ≡ x
    cut_some f g = let s : Some (words.Flush cookie.0 (words.Cut n)) ≡ Some x =
        sym (ap (λ (v : Bool). if v then Some (words.Flush cookie.0 (words.Cut n)) else None) g) ∙ f in cc
back_taken r h o x y e b = absurd (cc)

abbrev NoFlush : words.Op → Type 0
NoFlush (words.Flush k ch) = ⊥
NoFlush _ = Unit {0}

no_flush : (x : words.Op) (y : Option WriteBack) → NoFlush x → taken_heard x y ≡ y
no_flush (words.Flush k ch) y n = absurd n
no_flush _ y n = refl

on_is : (r q : Resource) (z x : words.Op) → op_on r q z ≡ Some x → (same_resource q r ≡ true) × (z ≡ x)
on_is r q z x e = by (same_resource q r) e
  where
    by : (v : Bool) → ◌≡◌ {A = Option words.Op} (if v then Some z else None) (Some x) → (v ≡ true) × (z ≡ x)
    by true f = (refl, cc)
    by false f = absurd (cc)

get_flush : (k page : ℕ) (l : Option Lock) → NoFlush (get_under k page l)
get_flush k page None = tt
get_flush k page (Some l) = tt

other_taken : (r : Resource) (h : List Entry) (o : Op) (x : words.Op) (y : Option WriteBack) → op_of r h o ≡ Some x → is_back r o ≡ false
    → taken_heard x y ≡ y
other_taken r h (op.Put q cookie at bytes) x y e b = absurd (both_ways (same_resource q r) b (on_is r q _ x e).0)
other_taken r h (op.Cut q cookie n) x y e b = absurd (both_ways (same_resource q r) b (on_is r q _ x e).0)
other_taken r h (op.Get q cookie page) x y e b = no_flush x y (subst NoFlush (on_is r q (get_under cookie.0 page (given cookie.0 h)) x e).1
    (get_flush cookie.0 page (given cookie.0 h)))
other_taken r h (op.Enqueue q mode extent) x y e b = no_flush x y (subst NoFlush (on_is r q _ x e).1 tt)
other_taken r h (op.Size q) x y e b = no_flush x y (subst NoFlush (on_is r q _ x e).1 tt)
other_taken r h o x y e b = absurd (cc)

back_is : (r : Resource) (o : Op) → is_back r o ≡ true → IsOn r o
back_is r (op.Put q cookie at bytes) b = ap Some (resource_of q r b)
back_is r (op.Cut q cookie n) b = ap Some (resource_of q r b)
back_is r o b = absurd (cc)

-- a write-back to the object is on it
back_on : (r : Resource) (h : List Entry) (o : Op) → is_back r o ≡ true → op_of r h o ≡ None → ⊥
back_on r h (op.Put q cookie at bytes) b e = absurd (let z : Some (words.Flush cookie.0 (words.Write at bytes)) ≡ None =
    sym (ap (λ (v : Bool). if v then Some (words.Flush cookie.0 (words.Write at bytes)) else None) b) ∙ e in cc)
back_on r h (op.Cut q cookie n) b e = absurd (let z : Some (words.Flush cookie.0 (words.Cut n)) ≡ None =
    sym (ap (λ (v : Bool). if v then Some (words.Flush cookie.0 (words.Cut n)) else None) b) ∙ e in cc)
back_on r h o b e = absurd (cc)

module _ (head : Head) (t : ℕ) (r : Resource) (stamp : Stamp) (c : ℕ) (past : List Line) where
  abbrev P : List Line
  P = only t past

  abbrev who : Who
  who = life_at c past

  abbrev h : List Entry
  h = story t r past

  abbrev w : ℕ
  w = number_of who

  module _ (f : Flight) (p : ReplyTo) (here : Here head t r (line (turn stamp (Client c)) (word.Heard t f p)) past)
      (live : is_live c past (story t r past) ≡ true) where
    abbrev e : word.Entry
    e = word.Heard t f p

    abbrev l : Line
    l = line (turn stamp (Client c)) e

    abbrev Q : List Line
    Q = only t (l ∷ past)

    abbrev k : List Entry
    k = story t r (l ∷ past)

    a : AskedBy t r past c
    a = tie head t r l past here c live

    own : is_own who P (Client c) ≡ true
    own = subst (λ (v : Who). is_own v P (Client c) ≡ true) (sym (life_eq head t r l past here c live)) (own_self P c)

    only_here : Q ≡ l ∷ P
    only_here = ap (λ (b : Bool). if b then l ∷ P else P) (self t)

    flies : In f (flights_of who P)
    flies = flying head t r stamp c past f p here live

    story_now : k ≡ with_entry (hears r f p h w) h
    story_now = at_live t c past h (hears r f p h) live

    flights_now : flights_of who Q ≡ without_flight f.xid (flights_of who P)
    flights_now = ap (flights_of who) only_here ∙ ap (λ (b : Bool). if b then without_flight f.xid (flights_of who P) else flights_of who P)
        own

    queue_now : queue_of who Q ≡ queue_of who P
    queue_now = only_stays (queue_of who) t l past (λ m. queue_stays who P (turn stamp (Client c)) e (inr refl))

    one : (g : Flight) → In g (flights_of who P) → g.xid ≡ f.xid → g ≡ f
    one g i z = let n = (here.stood.before.at t).numbers in n.one who g f (n.flying who g i) (n.flying who f flies) z

    -- ---- locks that are to come

    abbrev B : ℕ → Bool
    B j = brings_cookie f.op p.answer j

    awaits_now : (j : ℕ) → awaits_of who j Q ≡ (if B j then awaits_of who j P + 1 else awaits_of who j P)
    awaits_now j = ap (awaits_of who j) only_here ∙ ap (λ (b : Bool). if b && B j then awaits_of who j P + 1 else awaits_of who j P) own

    -- the deed that the reply is to
    answered : (d : Deed) × Acted Q d × (p ≡ record d.reply { boot = p.boot; committed = p.committed }) × (p.who ≡ who)
        × (f.xid ≡ d.reply.xid.0) × (f.op ≡ d.op) × (f.tag ≡ d.tag)
    answered = (here.stood.after.at t).done.answered who f p (subst (λ (q : List Line). HeardAs q who f p) (sym only_here)
        (inl (own, refl, refl)))

    its_brings : (j : ℕ) → B j ≡ true → brings_cookie answered.0.op answered.0.reply.answer j ≡ true
    its_brings j b = ap (λ (o : Op). brings_cookie o answered.0.reply.answer j) (sym answered.5)
        ∙ ap (λ (y : ReplyTo). brings_cookie f.op y.answer j) (sym answered.2) ∙ b

    brought_now : (j : ℕ) → B j ≡ true → IsOn r f.op → BroughtOn r Q j
    brought_now j b on = (answered.0, answered.1, its_brings j b, subst (λ (o : Op). IsOn r o) answered.5 on)

    on_by : (j : ℕ) → B j ≡ true → BroughtOn r Q j → IsOn r f.op
    on_by j b z =
        let same = (here.stood.after.at t).locks.named answered.0 z.0 j answered.1 z.1 (inr (its_brings j b)) (inr z.2) in
        subst (λ (o : Op). IsOn r o) (sym (answered.5 ∙ ap (λ (d : Deed). d.op) same)) z.3

    low_more : (j : ℕ) → 0 < awaits_of who j P → 0 < awaits_of who j Q
    low_more j low = subst (λ (n : ℕ). 0 < n) (sym (awaits_now j)) (by (B j))
      where
        by : (b : Bool) → 0 < (if b then awaits_of who j P + 1 else awaits_of who j P)
        by true = omega (arith, low)
        by false = low

    low_back : (j : ℕ) → B j ≡ false → 0 < awaits_of who j Q → 0 < awaits_of who j P
    low_back j b low = subst (λ (n : ℕ). 0 < n) (awaits_now j ∙ ap (λ (v : Bool). if v then awaits_of who j P + 1 else awaits_of who j P) b)
        low

    more_brought : (j : ℕ) → BroughtOn r P j → BroughtOn r Q j
    more_brought j b = (b.0, only_more t l past b.0 b.1, b.2, b.3)

    awaits_off : (IsOn r f.op → ⊥) → AwaitsAs r h who Q
    awaits_off off = record {
      awaits = λ j z. let x = a.awaits.awaits j z in (low_more j x.0, more_brought j x.1);
      awaited = λ j low b. by j (B j) refl low b;
    }
      where
        by : (j : ℕ) (v : Bool) → B j ≡ v → 0 < awaits_of who j Q → BroughtOn r Q j → says.awaits w j h ≡ true
        by j true z low b = absurd (off (on_by j z b))
        by j false z low b = let was = low_back j z low in a.awaits.awaited j was (brought_before head t r l past here.stood who j was b)

    module _ (x : words.Op) (is : op_of r h f.op ≡ Some x) where
      abbrev q : words.Request
      q = request_as w f.xid x

      abbrev k2 : List Entry
      k2 = Heard q (answer_of q p) ∷ h

      awaits_same : (j : ℕ) → says.awaits w j k2 ≡ (B j || says.awaits w j h)
      awaits_same j = ap (λ (v : Bool). (v && brings (answer_of q p) j) || says.awaits w j h) (self w)
          ∙ ap (λ (v : Bool). v || says.awaits w j h) (brings_same r h f.op x w f.xid p j is)

      awaits_on : AwaitsAs r k2 who Q
      awaits_on = record {
        awaits = λ j z. by j (B j) refl (sym (awaits_same j) ∙ z);
        awaited = λ j low b. awaits_same j ∙ back j (B j) refl low b;
      }
        where
          by : (j : ℕ) (v : Bool) → B j ≡ v → (v || says.awaits w j h) ≡ true → (0 < awaits_of who j Q) × BroughtOn r Q j
          by j true z y = (
            subst (λ (n : ℕ). 0 < n) (sym (awaits_now j
                ∙ ap (λ (v : Bool). if v then awaits_of who j P + 1 else awaits_of who j P) z)) (omega arith),
            brought_now j z (on_of r h f.op x is),
          )
          by j false z y = let b = a.awaits.awaits j y in (low_more j b.0, more_brought j b.1)

          back : (j : ℕ) (v : Bool) → B j ≡ v → 0 < awaits_of who j Q → BroughtOn r Q j → (v || says.awaits w j h) ≡ true
          back j true z low b = refl
          back j false z low b = let was = low_back j z low in a.awaits.awaited j was
              (brought_before head t r l past here.stood who j was b)

      -- a lock that is shown next was brought by this reply
      shown_next : (lock : TableLock) → granted_lock f.op p p.answer ≡ lock ∷ [] → lock.resource ≡ r
          → HoldOk k2 (lock_of lock) (unwrap_or (size_with p.answer) 0) (among p.seen)
      shown_next lock one on = by f.op p.answer refl refl one
        where
          ok : says.Was h (words.Reply (says.closed h) w f.xid (answer_of q p))
          ok = (may_hear head t r stamp c past f p here live x is).1

          of : (z : Resource) (mode : Mode) (asked : Extent) (cookie : Cookie) (extent : Extent) (size : ℕ) → f.op ≡ op.Enqueue z mode asked
              → p.answer ≡ answer.Granted cookie extent size
              → lock ≡ record { cookie = cookie; resource = z; ask = record { who = p.who; mode = mode; policy = Range extent } }
              → HoldOk k2 (lock_of lock) (unwrap_or (size_with p.answer) 0) (among p.seen)
          of z mode asked cookie extent size of_op of_answer same =
              subst (λ (m : Lock). HoldOk k2 m (unwrap_or (size_with p.answer) 0) (among p.seen))
              (sym (ap lock_of same ∙ ap (λ (n : ℕ). lock_at cookie.0 n mode extent)
              (ap number_of (replies_who head t r stamp c past f p here live))))
              (subst (λ (n : ℕ). HoldOk k2 (lock_at cookie.0 w mode extent) n (among p.seen))
              (sym (ap (λ (y : Answer). unwrap_or (size_with y) 0) of_answer))
              (waits, inl (f.xid, subst (λ (y : words.Answer). says.Was h (words.Reply (says.closed h) w f.xid y)) answers ok)))
            where
              asks : x ≡ words.Enqueue (is_write mode) asked.first (last_of asked.last)
              asks = let y = on_is r z (words.Enqueue (is_write mode) asked.first (last_of asked.last)) x (sym (ap (op_of r h) of_op) ∙ is)
                  in sym y.1

              answers : answer_of q p ≡ words.Granted (lock_at cookie.0 w mode extent) size (among p.seen)
              answers = ap (λ (y : words.Op). answer_by w p y p.answer) asks
                  ∙ ap (answer_by w p (words.Enqueue (is_write mode) asked.first (last_of asked.last))) of_answer

              brings_it : B cookie.0 ≡ true
              brings_it = ap (λ (o : Op). brings_cookie o p.answer cookie.0) of_op
                  ∙ ap (λ (y : Answer). brings_cookie (op.Enqueue z mode asked) y cookie.0) of_answer ∙ self cookie.0

              waits : says.awaits w cookie.0 k2 ≡ true
              waits = awaits_same cookie.0 ∙ ap (λ (v : Bool). v || says.awaits w cookie.0 h) brings_it

          by : (o : Op) (y : Answer) → f.op ≡ o → p.answer ≡ y → granted_lock o p y ≡ lock ∷ []
              → HoldOk k2 (lock_of lock) (unwrap_or (size_with p.answer) 0) (among p.seen)
          by (op.Enqueue z mode asked) (answer.Granted cookie extent size) of_op of_answer z1 =
              of z mode asked cookie extent size of_op of_answer (cc)
          by o y of_op of_answer z1 = absurd (cc)

    -- ---- locks

    bare : (t ≡ 0) ⊎ (p.locks ≡ [])
    bare = here.stood.ok.ok.0

    held_now : held_at c Q ≡ with_brought t (brought f.op p) (held_at c P)
    held_now = ap (held_at c) only_here ∙ ap (λ (s : Store). s.held) (store_line c stamp P e)

    owed_now : owed_of c (l ∷ past) ≡ owes t f p (held_at c past)
    owed_now = owed_heard c stamp past t f p

    dropped_now : (x : List Entry) → LocksAs t r h c who P (owed_of c past) → ((m : Lock) → WasDropped h m → WasDropped x m)
        → (d : Deed) (m : TableLock) → Gave Q d m → m.resource ≡ r → Gone Q who m.cookie → WasDropped x (lock_of m)
    dropped_now x b up d m gave on gone =
        let was = gone_only t who l past m.cookie (λ g. g) gone in
        up (lock_of m) (b.dropped d m (gave_before head t l past here.stood who d m gave was) on was)

    old : (x : List Entry) → LocksStay w h x → (y : HeldLock) → In y (held_at c P) → y.lock.resource ≡ r → HeldBy x (lock_of y.lock)
    old x s y i on = s.kept (lock_of y.lock) (held_there head t r stamp c past e here live tt y i on)
        (own_life head t l past here.stood c y i)

    -- where no lock came
    locks_none : (x : List Entry) → LocksStay w h x → brought f.op p ≡ [] → LocksAs t r x c who Q (owed_of c (l ∷ past))
    locks_none x s none =
        let same : held_at c Q ≡ held_at c P = held_now ∙ ap (λ (ls : List TableLock). with_brought t ls (held_at c P)) none in
        record {
          held = λ m i v. let y = a.locks.held m (s.back m i v) v
              in (y.0, subst (λ (hs : List HeldLock). In y.0 hs) (sym same) y.1, y.2, y.3);
          holds = λ y i on. inl (old x s y (subst (λ (hs : List HeldLock). In y hs) same i) on);
          owed = λ lock marked size seen more z on. absurd (owes_none t f p (held_at c past) none lock marked size seen more
              (sym owed_now ∙ z));
          dropped = dropped_now x a.locks s.dropped;
        }

    -- where one came
    locks_one : (x : List Entry) → LocksStay w h x → (lock : TableLock) → brought f.op p ≡ lock ∷ []
        → (lock.resource ≡ r → HoldOk x (lock_of lock) (unwrap_or (size_with p.answer) 0) (among p.seen))
        → LocksAs t r x c who Q (owed_of c (l ∷ past))
    locks_one x s lock one ok =
        record {
          held = λ m i v. let y = a.locks.held m (s.back m i v) v in let z = stays y.0 y.1
              in (z.0, z.1, ap (λ (n : TableLock). n.resource) z.2 ∙ y.2, ap lock_of z.2 ∙ y.3);
          holds = λ y i on.
              ⊎_elim (λ (z : held_as t lock false ≡ y). inr (
                size_with p.answer,
                p.seen,
                rest,
                subst (λ (g : HeldLock). owed_of c (l ∷ past) ≡ word.Hold t g.lock false (size_with p.answer) p.seen ∷ rest) z owed_is,
              ))
              (λ (j : In y (held_at c P)). inl (old x s y j on))
              (with_only (held_as t lock false) y (held_at c P) (subst (λ (hs : List HeldLock). In y hs) one_now i));
          owed = λ other marked size seen more z on.
              let q = sym owed_is ∙ z in
              let its : lock ≡ other = cc in
              let sized : size_with p.answer ≡ size = cc in
              let saw : p.seen ≡ seen = cc in
              subst (λ (b : List ℕ). HoldOk x (lock_of other) (unwrap_or size 0) (among b)) saw
              (subst (λ (b : Option ℕ). HoldOk x (lock_of other) (unwrap_or b 0) (among p.seen)) sized
              (subst (λ (m : TableLock). HoldOk x (lock_of m) (unwrap_or (size_with p.answer) 0) (among p.seen)) its
              (ok (ap (λ (m : TableLock). m.resource) its ∙ on))));
          dropped = dropped_now x a.locks s.dropped;
        }
      where
        rest : List word.Entry
        rest = learns t f.op p.answer p.locks ++ heeds_marks t f.op p.answer (held_at c past)

        owed_is : owed_of c (l ∷ past) ≡ word.Hold t lock false (size_with p.answer) p.seen
            ∷ (learns t f.op p.answer p.locks ++ heeds_marks t f.op p.answer (held_at c past))
        owed_is = owed_now ∙ owes_one t f p (held_at c past) lock one

        one_now : held_at c Q ≡ with_held (held_as t lock false) (held_at c P)
        one_now = held_now ∙ ap (λ (ls : List TableLock). with_brought t ls (held_at c P)) one

        in_now : In (held_as t lock false) (held_at c Q)
        in_now = subst (λ (hs : List HeldLock). In (held_as t lock false) hs) (sym one_now) (with_self (held_as t lock false) (held_at c P))

        stays : (y : HeldLock) → In y (held_at c P) → (z : HeldLock) × In z (held_at c Q) × (z.lock ≡ y.lock)
        stays y i = by (is_named (name_of (held_as t lock false)) y) refl
          where
            by : (b : Bool) → is_named (name_of (held_as t lock false)) y ≡ b → (z : HeldLock) × In z (held_at c Q) × (z.lock ≡ y.lock)
            by false n = (
              y,
              subst (λ (hs : List HeldLock). In y hs) (sym one_now) (with_other (held_as t lock false) y (held_at c P) n i),
              refl,
            )
            by true n =
                let now = (here.stood.after.at t).locks.held c (held_as t lock false) in_now in
                let was = (here.stood.before.at t).locks.held c y i in
                let its = (here.stood.after.at t).locks.once now.deed was.deed lock y.lock now.gave
                (given_line t l past was.deed y.lock was.gave) (cookie_is (sym (name_parts t lock y n).1)) in
                (held_as t lock false, in_now, its.1)
              where
                cookie_is : lock.cookie.0 ≡ y.lock.cookie.0 → lock.cookie ≡ y.lock.cookie
                cookie_is z = λ i. record { 0 = z i }

    locks_now : (x : List Entry) → LocksStay w h x → ((lock : TableLock) → granted_lock f.op p p.answer ≡ lock ∷ [] → lock.resource ≡ r
        → HoldOk x (lock_of lock) (unwrap_or (size_with p.answer) 0) (among p.seen)) → LocksAs t r x c who Q (owed_of c (l ∷ past))
    locks_now x s ok = ⊎_elim (λ none. locks_none x s none) (λ one. locks_one x s one.0 one.1 (ok one.0 one.2))
        (one_brought t f p here.some bare)

    -- ---- write-backs

    store_was : store_owed c past ≡ store_at c past
    store_was = ap (λ (es : List word.Entry). store_turn (store_at c past) es) (none_owed c past l (here.stood.heeds.0 c) (λ z. z))

    store_now : store_owed c (l ∷ past) ≡ store_turn (store_after (store_at c past) e) (owes t f p (held_at c past))
    store_now = ap (λ (es : List word.Entry). store_turn (store_at c (l ∷ past)) es) owed_now
        ∙ ap (λ (s : Store). store_turn s (owes t f p (held_at c past))) (store_line c stamp past e)

    none_just : (change : Flush) → JustTaken (l ∷ past) c r change → ⊥
    none_just change j = absurd (let z : word.Heard t f p ≡ word.WritesBack r change = j.1 in cc)

    backs_is : backs_of r who Q ≡ queued_backs r (queue_of who P) ++ flying_backs r (without_flight f.xid (flights_of who P))
    backs_is = ap (λ (qs : List Queued). queued_backs r qs ++ flying_backs r (flights_of who Q)) queue_now
        ∙ ap (λ (fs : List Flight). queued_backs r (queue_of who P) ++ flying_backs r fs) flights_now

    few : (xs : List Op) × ((xs ≡ []) ⊎ ((o : Op) × (xs ≡ o ∷ []))) × (backs_of r who P ≡ xs)
    few = ⊎_elim (λ z. ([], inl refl, z)) (λ z. (z.0 ∷ [], inr (z.0, refl), z.1)) a.backs.backs

    -- it answers no write-back to the object: what is under way stays
    still_taken : is_back r f.op ≡ false → (x : List Entry) → says.taken w x ≡ says.taken w h
        → TakenAs (says.taken w x) (patch_at r (store_owed c (l ∷ past)).patches).flight
    still_taken n x same =
        let flight : (patch_at r (store_owed c (l ∷ past)).patches).flight ≡ (patch_at r (store_owed c past).patches).flight =
        ap (λ (s : Store). (patch_at r s.patches).flight) store_now ∙ heard_still r t f p (held_at c past) (store_at c past) n
        ∙ ap (λ (s : Store). (patch_at r s.patches).flight) (sym store_was) in
        subst (λ (z : Option Flying). TakenAs (says.taken w x) z) (sym flight)
        (subst (λ (b : Option WriteBack). TakenAs b (patch_at r (store_owed c past).patches).flight) (sym same) a.taken)

    still_backs : is_back r f.op ≡ false → (x : List Entry) → says.taken w x ≡ says.taken w h
        → BacksAs r x w (backs_of r who Q) (JustTaken (l ∷ past) c r)
    still_backs n x same =
        backs_kept r h x w (backs_of r who P) (backs_of r who Q) (JustTaken past c r) (JustTaken (l ∷ past) c r)
        (backs_is ∙ ap (λ (ys : List Op). queued_backs r (queue_of who P) ++ ys)
        (heard_other r (λ (g : Flight). not (nat_eq g.xid f.xid)) (flights_of who P) gone)) same none_just a.backs
      where
        gone : (g : Flight) → In g (flights_of who P) → not (nat_eq g.xid f.xid) ≡ false → is_back r g.op ≡ false
        gone g i z = by (nat_eq g.xid f.xid) refl z
          where
            by : (b : Bool) → nat_eq g.xid f.xid ≡ b → not b ≡ false → is_back r g.op ≡ false
            by true y m = ap (λ (d : Flight). is_back r d.op) (one g i (eqb-true g.xid f.xid y)) ∙ n
            by false y m = absurd (cc)

    pub hears_here : AskedOf t r (l ∷ past) c who
    hears_here = by (op_of r h f.op) refl
      where
        stay : (q : words.Request) (b : words.Answer) → LocksStay w h (Heard q b ∷ h)
        stay q b = record { back = λ m i v. i; kept = λ m i v. i; dropped = λ m d. d }

        moved : (x : List Entry) → k ≡ x → FlightsAs r x w (without_flight f.xid (flights_of who P))
            → LocksAs t r x c who Q (owed_of c (l ∷ past)) → AwaitsAs r x who Q
            → TakenAs (says.taken w x) (patch_at r (store_owed c (l ∷ past)).patches).flight
            → BacksAs r x w (backs_of r who Q) (JustTaken (l ∷ past) c r) → AskedOf t r (l ∷ past) c who
        moved x is fs ls ws ts bs = record {
          flights = subst (λ (z : List Entry). FlightsAs r z w (flights_of who Q)) (sym is)
              (subst (λ (gs : List Flight). FlightsAs r x w gs) (sym flights_now) fs);
          locks = subst (λ (z : List Entry). LocksAs t r z c who Q (owed_of c (l ∷ past))) (sym is) ls;
          awaits = subst (λ (z : List Entry). AwaitsAs r z who Q) (sym is) ws;
          taken = subst (λ (z : List Entry). TakenAs (says.taken w z) (patch_at r (store_owed c (l ∷ past)).patches).flight) (sym is) ts;
          backs = subst (λ (z : List Entry). BacksAs r z w (backs_of r who Q) (JustTaken (l ∷ past) c r)) (sym is) bs;
        }

        by : (o : Option words.Op) → op_of r h f.op ≡ o → AskedOf t r (l ∷ past) c who
        by None none =
            let off = op_off r h f.op none in
            let no_back : is_back r f.op ≡ false = flag (is_back r f.op) refl in
            moved h (story_now ∙ ap (λ (o : Option words.Op). with_entry
            (option_map (λ x. Heard (request_as w f.xid x) (answer_of (request_as w f.xid x) p)) o) h) none)
            (flights_passed r h w (flights_of who P) a.flights f one off)
            (locks_now h (record { back = λ m i v. i; kept = λ m i v. i; dropped = λ m d. d })
            (λ lock g on. absurd (off (lock_on lock g on)))) (awaits_off off) (still_taken no_back h refl) (still_backs no_back h refl)
          where
            flag : (b : Bool) → is_back r f.op ≡ b → is_back r f.op ≡ false
            flag false z = z
            flag true z = absurd (back_on r h f.op z none)

            lock_on : (lock : TableLock) → granted_lock f.op p p.answer ≡ lock ∷ [] → lock.resource ≡ r → IsOn r f.op
            lock_on lock g on = asked f.op p.answer g
              where
                asked : (o : Op) (y : Answer) → granted_lock o p y ≡ lock ∷ [] → IsOn r o
                asked (op.Enqueue z mode extent) (answer.Granted cookie given_on size) z1 =
                    ap Some ((let q : z ≡ lock.resource = ap (λ (m : TableLock). m.resource) (first_is z1) in q) ∙ on)
                  where
                    first_is : {x : TableLock} → x ∷ [] ≡ lock ∷ [] → x ≡ lock
                    first_is z2 = cc
                asked o y z1 = absurd (cc)
        by (Some x) some =
            let q = request_as w f.xid x in
            let b = answer_of q p in
            moved (Heard q b ∷ h) (story_now ∙ ap (λ (o : Option words.Op). with_entry
            (option_map (λ x. Heard (request_as w f.xid x) (answer_of (request_as w f.xid x) p)) o) h) some)
            (flights_heard r h w (flights_of who P) a.flights f q b refl flies (on_of r h f.op x some))
            (locks_now (Heard q b ∷ h) (stay q b) (shown_next x some)) (awaits_on x some) (both (is_back r f.op) refl).0
            (both (is_back r f.op) refl).1
          where
            taken_is : says.taken w (Heard (request_as w f.xid x) (answer_of (request_as w f.xid x) p) ∷ h) ≡ taken_heard x (says.taken w h)
            taken_is = ap (λ (v : Bool). if v then taken_heard x (says.taken w h) else says.taken w h) (self w)

            both : (v : Bool) → is_back r f.op ≡ v
                → TakenAs (says.taken w (Heard (request_as w f.xid x) (answer_of (request_as w f.xid x) p) ∷ h))
                (patch_at r (store_owed c (l ∷ past)).patches).flight
                × BacksAs r (Heard (request_as w f.xid x) (answer_of (request_as w f.xid x) p) ∷ h) w (backs_of r who Q)
                (JustTaken (l ∷ past) c r)
            both false n = let same = taken_is ∙ other_taken r h f.op x (says.taken w h) some n
                in (
                  still_taken n (Heard (request_as w f.xid x) (answer_of (request_as w f.xid x) p) ∷ h) same,
                  still_backs n (Heard (request_as w f.xid x) (answer_of (request_as w f.xid x) p) ∷ h) same,
                )
            both true n = (
              subst (λ (z : Option Flying). TakenAs (says.taken w (Heard (request_as w f.xid x) (answer_of (request_as w f.xid x) p) ∷ h))
                  z)
                  (sym (ap (λ (s : Store). (patch_at r s.patches).flight) store_now
                  ∙ heard_done r t f p (held_at c past) (store_at c past) n (put_done head t r stamp c f p past here live n)))
                  (subst (λ (z : Option WriteBack). TakenAs z None) (sym (taken_is ∙ back_taken r h f.op x (says.taken w h) some n)) tt),
              record {
                backs = inl (backs_is ∙ heard_back r (queue_of who P) (flights_of who P) f flies n few.0 few.1 few.2);
                took =
                    λ change j. absurd (none_just change j);
              },
            )

  -- from any target
  pub own_heard : (u : ℕ) (f : Flight) (p : ReplyTo) → Here head t r (line (turn stamp (Client c)) (word.Heard u f p)) past
      → is_live c past (story t r past) ≡ true → AskedOf t r (line (turn stamp (Client c)) (word.Heard u f p) ∷ past) c who
  own_heard u f p here live = by (nat_eq u t) refl
    where
      none : (change : Flush) → word.Heard u f p ≡ word.WritesBack r change → ⊥
      none change z = absurd (cc)

      by : (b : Bool) → nat_eq u t ≡ b → AskedOf t r (line (turn stamp (Client c)) (word.Heard u f p) ∷ past) c who
      by true same = let s = eqb-true u t same in subst (λ (v : ℕ). AskedOf t r (line (turn stamp (Client c)) (word.Heard v f p) ∷ past) c
          who) (sym s) (hears_here f p (subst (λ (v : ℕ). Here head t r (line (turn stamp (Client c)) (word.Heard v f p)) past) s here)
          live)
      by false other =
          asked_else head t r stamp c past (word.Heard u f p) here (turned u t other)
          (ap (λ (b : Bool). if b then of_life (Client c) past (hears r f p h) h else h) other) refl
          (shows_none head t r stamp c past (word.Heard u f p) here tt)
          (subst (ShowsNone t) (sym (owed_heard c stamp past u f p)) (owes_else t u f p (held_at c past) (eqb-false u t other))) flight
          (λ change j. none change j.1) (here.tied.asked.of c live)
        where
          ok : HeardOk (only u past) c f p
          ok = here.stood.ok.of u (self u)

          off : IsOn r f.op → ⊥
          off on =
              let flew = (here.stood.before.at u).numbers.flying (life_of c (only u past)) f ok.flying in
              let at = flew_place head past u (life_of c (only u past)) f r here.stood.grown here.stood.pins.1 flew on in
              eqb-false u t other (at ∙ sym here.place)

          no_back : is_back r f.op ≡ false
          no_back = flag (is_back r f.op) refl
            where
              flag : (b : Bool) → is_back r f.op ≡ b → is_back r f.op ≡ false
              flag false z = z
              flag true z = absurd (off (back_is r f.op z))

          flight : (patch_at r (store_owed c (line (turn stamp (Client c)) (word.Heard u f p) ∷ past)).patches).flight
              ≡ (patch_at r (store_owed c past).patches).flight
          flight =
              ap (λ (es : List word.Entry). (patch_at r (store_turn (store_at c (line (turn stamp (Client c)) (word.Heard u f p) ∷ past))
              es).patches).flight) (owed_heard c stamp past u f p)
              ∙ ap (λ (s : Store). (patch_at r (store_turn s (owes u f p (held_at c past))).patches).flight)
              (store_line c stamp past (word.Heard u f p))
              ∙ heard_still r u f p (held_at c past) (store_at c past) no_back
              ∙ ap (λ (es : List word.Entry). (patch_at r (store_turn (store_at c past) es).patches).flight)
              (sym (none_owed c past (line (turn stamp (Client c)) (word.Heard u f p)) (here.stood.heeds.0 c) (λ z. z)))
