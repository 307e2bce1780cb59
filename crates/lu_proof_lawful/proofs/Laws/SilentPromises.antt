-- Each call whose answer its client knows is known by facts under held locks, or by what is known of the bytes of a file: from the line
-- that told it
-- on, while no lock to write is held and the life isn't over.
use Rattle.std.proofs.Common.{◌≡◌, ℕ, ◌+◌, ◌-◌, Bool, true, false, List, [], ◌∷◌, ◌++◌, ◌⊎◌, Option, Some, inl, inr, ⊎_elim, refl, sym}
use Rattle.std.proofs.Common.{subst, ap, ◌∙◌}
use Rattle.std.specs.Prelude.{nat_eq, not, ◌==◌, if◌then◌else◌, map, filter}
use Rattle.std.proofs.lemmas.Bool.{cond_both, eqb-true}
use Rattle.lu_base.specs.declared.ids.At.{At}
use Rattle.lu_base.specs.declared.ids.Node.{Node}
use Rattle.lu_base.specs.declared.ids.Node.TheVariants.{Client, Target}
use Rattle.lu_base.specs.declared.ids.Stamp.{Stamp}
use Rattle.lu_base.specs.declared.ids.TargetId.{TargetId}
use Rattle.lu_base.specs.declared.ids.Who.{Who}
use Rattle.lu_base.specs.declared.locks.Lock.{Lock}
use Rattle.lu_msg.specs.declared.answers.Answer.{Answer}
use Rattle.lu_msg.specs.declared.answers.Answer.TheVariants as told
use Rattle.lu_msg.specs.declared.answers.Errno.{Errno}
use Rattle.lu_msg.specs.declared.answers.Errno.TheVariants.{EBADF, EIO}
use Rattle.lu_msg.specs.declared.calls.Call.{Call}
use Rattle.lu_msg.specs.declared.calls.Call.TheVariants as call
use Rattle.lu_msg.specs.declared.operations.Op.{Op}
use Rattle.lu_spec_machine.specs.Footprint.{Every}
use Rattle.lu_spec_entries.specs.Carried.{Work, Running, HandleFile}
use Rattle.lu_spec_entries.specs.Words.{Entry, Begin, Told, Take, Drop, Life, Marks, Line, line}
use Rattle.lu_spec_entries.specs.Printed.{printed}
use Rattle.lu_spec_client.specs.Caches.{held_at}
use Rattle.lu_spec_client.specs.Facts.{facts_at}
use Rattle.lu_spec_client.specs.Known.{Notes}
use Rattle.lu_proof_lawful.specs.Covered.Calls.{call_at, operation_of, life_at}
use Rattle.lu_proof_lawful.specs.Covered.Heads.{Head, IsHead}
use Rattle.lu_proof_lawful.specs.Covered.Known.{notes_at, known_answer}
use Rattle.lu_spec_laws.specs.Words.Calls.{call_in}
use Rattle.lu_spec_laws.specs.Words.Lives.{life, who_is}
use Rattle.lu_spec_laws.specs.Words.Repeats.{rebinds, is_error, calm, told_calm, known}
use Rattle.lu_proof_lawful.proofs.Preconditions.Guards.{In, ChangesOn, TellsOk}
use Rattle.lu_proof_lawful.proofs.Preconditions.Grown.{Grown}
use Rattle.lu_proof_lawful.proofs.Preconditions.HeedMarks.{owed_of}
use Rattle.lu_proof_lawful.proofs.Preconditions.Heeds.{AllHeed, none_owed}
use Rattle.lu_proof_lawful.proofs.Preconditions.Lists.{self, in_filter}
use Rattle.lu_proof_lawful.proofs.Preconditions.PinsFit.{PinsFit}
use Rattle.lu_proof_lawful.proofs.Preconditions.Speaks.{AllSpeak}
use Rattle.lu_proof_lawful.proofs.Invariants.Groups.{turn}
use Rattle.lu_proof_lawful.proofs.Invariants.HeldThere.{map_in}
use Rattle.lu_proof_lawful.specs.Projection.Lives.{is_over}
use Rattle.lu_proof_lawful.proofs.Laws.Printed.{flip}
use Rattle.lu_proof_lawful.proofs.Laws.Handles.{and_true}
use Rattle.lu_proof_lawful.proofs.Laws.SoundRuns.{over_before}
use Rattle.lu_proof_lawful.proofs.Laws.KnownPlaces.{ServedOf, served_stay}
use Rattle.lu_proof_lawful.proofs.Laws.UnmarkedStays.{held_on, on_held}
use Rattle.lu_proof_lawful.proofs.Laws.ToldKnown.{read_known, stat_known}
use Rattle.lu_proof_lawful.proofs.Laws.SilentWorlds.{NoWrites, Lasting, KnownRead, read_stays}
use Rattle.lu_proof_lawful.proofs.Laws.SilentKnown.{IsKnown, known_more, told_known}
use Rattle.lu_proof_lawful.proofs.Laws.SilentHeld.{bare_at, gives_up, MarksFree, Stays, grows_to_bare, notes_grow}
use Rattle.lu_proof_lawful.proofs.Laws.SilentOpens.{KeepsHandles, file_still}
use Rattle.lu_proof_lawful.proofs.Laws.SilentCalm.{called, call_is, begun_anew, marks_free, calm_stands, StandsIn, every_filter, every_both}
use Rattle.lu_proof_lawful.proofs.Laws.SilentCalm.{every_in, in_every, every_map}
use Rattle.lu_proof_lawful.proofs.Laws.SilentReading.{calm_file}
use Rattle.lu_proof_lawful.proofs.Laws.SilentTaught.{told_is_known}
use Rattle.lu_proof_lawful.proofs.Laws.SilentAgrees.{agrees}
use Rattle.lu_proof_lawful.proofs.Laws.SilentStats.{KnownBy, by_more, stat_told}

-- ---- each call whose answer is known is known by facts, or by what is known of bytes

-- under locks that last
abbrev pub KnownAt : ℕ → List Line → Call → Type 0
KnownAt c past k = KnownBy (bare_at c past) (KnownRead (Lasting c past) c past) (ServedOf (Lasting c past)) k

-- while the client holds no lock to write under, and its life isn't over
abbrev pub Promise : ℕ → List Line → Call → Type 0
Promise c past k = NoWrites c past → is_over c (life_at c past) past ≡ false → KnownAt c past k

abbrev ReadAt : ℕ → List Line → Call → Type 0
ReadAt c past k = KnownRead (Lasting c past) c past k

-- a call on names is no read
names_read : (c : ℕ) (past : List Line) (file : Option HandleFile) (k : Call) (o : Op) → operation_of file k ≡ Some o → ReadAt c past k
names_read c past file (call.Read h offset count) o e = absurd (cc)
names_read c past file k o e = tt

known_read : (c : ℕ) (past : List Line) (n : Notes) (k : Call) (a : Answer) → known_answer n k ≡ Some a → ReadAt c past k
known_read c past n (call.Read h offset count) a e = absurd (cc)
known_read c past n k a e = tt

no_refusal : (given : Answer) → is_error given ≡ false → (e : Errno) → given ≡ told.Refused e → ⊥
no_refusal given fine e is = let error : is_error given ≡ true = ap is_error is in absurd (cc)

-- a past of a run
pub record Run (head : Head) (past : List Line) : Type 0 where
  pub ranges : IsHead head
  pub grown : Grown head past
  pub pins : PinsFit past
  pub heeds : AllHeed past
  pub speaks : AllSpeak past

pub before : (head : Head) (l : Line) (past : List Line) → Run head (l ∷ past) → Run head past
before head l past y = record { ranges = y.ranges; grown = y.grown.1; pins = y.pins.1; heeds = y.heeds.1; speaks = y.speaks.1 }

-- the life goes on over a line that gives up none
life_same : (c : ℕ) (l : Line) (past : List Line) → gives_up c l.at.node l.entry ≡ false → life_at c (l ∷ past) ≡ life_at c past
life_same c l past = by l.at.node l.entry
  where
    by : (node : Node) (e : Entry) → gives_up c node e ≡ false → life_at c (line (turn l.at.stamp node) e ∷ past) ≡ life_at c past
    by (Client d) (Life who) e = ap (λ (b : Bool). if b then who else life_at c past) e
    by (Target t) (Life who) e = refl
    by node e q = refl

alive_before : (c : ℕ) (l : Line) (past : List Line) → gives_up c l.at.node l.entry ≡ false → is_over c (life_at c (l ∷ past)) (l ∷ past)
    ≡ false → is_over c (life_at c past) past ≡ false
alive_before c l past stays alive = over_before c (life_at c past) l past
    (subst (λ (w : Who). is_over c w (l ∷ past) ≡ false) (life_same c l past stays) alive)

module _ (head : Head) (c : ℕ) where
  -- a line that gives up no lock and no life, and marks no pinned lock, keeps it, where it doesn't begin a call that opens or closes its
  -- handle
  lasting_stays : (past : List Line) (l : Line) → Grown head (l ∷ past) → Stays c past l.at.node l.entry → (t : ℕ) (k : Lock)
      → Lasting c past t k → Lasting c (l ∷ past) t k
  lasting_stays past l g stays t k (h, i, target, lock, is) =
      let m = on_held head c l past g stays h i is in
      (m.0, m.1, ap (λ (v : TargetId). v.0) m.3 ∙ target, m.4 ∙ lock, m.2)

  writes_before : (past : List Line) (l : Line) → Grown head (l ∷ past) → Stays c past l.at.node l.entry → NoWrites c (l ∷ past)
      → NoWrites c past
  writes_before past l g stays none h i mode =
      let m = held_on head c l past g stays h i in
      none m.0 m.1 (ap (λ (v : Lock). v.ask.mode) m.3 ∙ mode)

  pub known_still : (past : List Line) (l : Line) → Grown head (l ∷ past) → Stays c past l.at.node l.entry → (k : Call)
      → KeepsHandles c l.at.node l.entry k → KnownAt c past k → KnownAt c (l ∷ past) k
  known_still past l g stays k keeps =
      by_more (bare_at c past) (bare_at c (l ∷ past)) (ReadAt c past) (ReadAt c (l ∷ past)) (ServedOf (Lasting c past))
      (ServedOf (Lasting c (l ∷ past))) k (notes_grow c past l.at.stamp l.at.node l.entry g.0.ok stays) (agrees head c (l ∷ past) g)
      (read_stays (Lasting c past) (Lasting c (l ∷ past)) c l past (lasting_stays past l g stays) stays.0 k
      (λ h offset count f is bound. file_still head c h offset count l past f g stays.0
      (subst (λ (v : Call). KeepsHandles c l.at.node l.entry v) is keeps) bound))
      (λ u locked. served_stay (Lasting c past) (Lasting c (l ∷ past)) u (lasting_stays past l g stays) locked)

  pub still : (past : List Line) (l : Line) → Grown head (l ∷ past) → Stays c past l.at.node l.entry → (k : Call)
      → KeepsHandles c l.at.node l.entry k → Promise c past k → Promise c (l ∷ past) k
  still past l g stays k keeps p none alive = known_still past l g stays k keeps
      (p (writes_before past l g stays none) (alive_before c l past stays.0 alive))

  -- the call that is told
  told_one : (past : List Line) (at : At) (slot : ℕ) (named : At) (given : Answer) (work : Option Work) → Run head past → owed_of c past
      ≡ [] → at.node ≡ Client c → TellsOk past at c slot named given work → is_error given ≡ false
      → (x : ℕ × Call) → In x (calm (who_is c (printed past)) (printed past)) → x.0 ≡ slot → Promise c past x.1
  told_one past at slot named given work y owed own ok fine x i is none alive = by ok
    where
      g : Grown head past
      g = y.grown

      -- it is the call in the slot
      the_call : (r : Running) → call_at c slot past ≡ Some r → r.call ≡ x.1
      the_call r e =
          let stands : call_in c x.0 (printed past) ≡ Some x.1 =
          every_in (StandsIn (λ k. call_in c k (printed past))) x (calm (who_is c (printed past)) (printed past))
          (calm_stands head c past g) i in
          let here : call_in c slot (printed past) ≡ Some r.call = call_is head c slot past g ∙ ap called e in
          let there : call_in c slot (printed past) ≡ Some x.1 = subst (λ (v : ℕ). call_in c v (printed past) ≡ Some x.1) is stands in
          cc

      -- a call that is no stat of a file
      other : (r : Running) → call_at c slot past ≡ Some r → IsKnown (bare_at c past) r.call → ReadAt c past r.call → KnownAt c past x.1
      other r e knows read = subst (λ (v : Call). KnownAt c past v) (the_call r e) (inl (knows, read))

      by : TellsOk past at c slot named given work → KnownAt c past x.1
      by (inl a) = other a.running a.call (told_is_known head c slot past at named given work g (agrees head c past g) own a
          (no_refusal given fine) x i is) (names_read c past a.running.file a.running.call a.names.0 a.names.1)
      by (inr (inl a)) =
          other a.running a.call (known_more (notes_at c past) (bare_at c past) (grows_to_bare (facts_at c past) (held_at c past))
          (agrees head c past g) a.running.call (told_known (notes_at c past) given a.running.call a.known))
          (known_read c past (notes_at c past) a.running.call given a.known)
      by (inr (inr (inl a))) = absurd (no_refusal given fine EIO a.of_answer)
      by (inr (inr (inr (inl a)))) = absurd (no_refusal given fine EBADF a.of_answer)
      -- a glimpse, a flush, a write or a cut is no reading
      by (inr (inr (inr (inr (inl a))))) = subst (λ (v : Call). KnownAt c past v) (the_call a.running a.call)
          (subst (λ (v : Call). KnownAt c past v) (sym a.has.glimpses) (inl (tt, tt)))
      by (inr (inr (inr (inr (inr (inl a)))))) = subst (λ (v : Call). KnownAt c past v) (the_call a.running a.call)
          (subst (λ (v : Call). KnownAt c past v) (sym a.flushes) (inl (tt, tt)))
      by (inr (inr (inr (inr (inr (inr (inl a))))))) =
          other a.running a.call (subst (λ (v : Call). IsKnown (bare_at c past) v) (sym a.does.read.reads) tt)
          (subst (λ (v : Call). ReadAt c past v) (sym a.does.read.reads)
          (read_known head y.ranges past g y.pins y.heeds y.speaks c alive owed none at own slot named given work x i is a
          (calm_file head c past g x i a.running (subst (λ (v : ℕ). call_at c v past ≡ Some a.running) (sym is) a.call) a.does.read.file
          a.does.read.of_file a.does.read.handle a.does.read.offset a.does.read.count
          (sym (the_call a.running a.call) ∙ a.does.read.reads))))
      by (inr (inr (inr (inr (inr (inr (inr (inl a)))))))) =
          subst (λ (v : Call). KnownAt c past v) (the_call a.running a.call)
          (inr (stat_told head c slot past at named given work g own a x i is (ServedOf (Lasting c past))
          (stat_known head y.ranges past g y.pins y.heeds y.speaks c alive owed none at own slot named given work x i is a)))
      by (inr (inr (inr (inr (inr (inr (inr (inr a)))))))) = subst (λ (v : Call). KnownAt c past v) (the_call a.running a.call)
          (wrote a.running a.done a.does)
        where
          wrote : (r : Running) (w : Work) → ChangesOn r w → KnownAt c past r.call
          wrote r w (inl d) = subst (λ (v : Call). KnownAt c past v) (sym d.writes) (inl (tt, tt))
          wrote r w (inr d) = subst (λ (v : Call). KnownAt c past v) (sym d.cuts) (inl (tt, tt))

  -- all that is told calm in the slot
  told_all : (past : List Line) (at : At) (slot : ℕ) (named : At) (given : Answer) (work : Option Work) → Run head past → owed_of c past
      ≡ [] → at.node ≡ Client c → TellsOk past at c slot named given work
      → Every (Promise c past) (told_calm slot given (calm (who_is c (printed past)) (printed past)))
  told_all past at slot named given work y owed own ok = by (is_error given) refl
    where
      P : List (ℕ × Call)
      P = calm (who_is c (printed past)) (printed past)

      by : (b : Bool) → is_error given ≡ b → Every (Promise c past) (if b then [] else map (λ s. s.1) (filter (λ s. s.0 == slot) P))
      by true e = tt
      by false e =
          in_every (Promise c past) (map (λ s. s.1) (filter (λ s. s.0 == slot) P))
          (λ k i.
          let m = map_in (λ (s : ℕ × Call). s.1) k (filter (λ s. s.0 == slot) P) i in
          let f = in_filter (λ (s : ℕ × Call). s.0 == slot) m.0 P m.1.0 in
          subst (λ (v : Call). Promise c past v) m.1.1 (told_one past at slot named given work y owed own ok e m.0 f.0
          (eqb-true m.0.0 slot f.1)))

  -- a call that begins: those that stay known are on other handles than it opens or closes
  begun_known : (past : List Line) (stamp : Stamp) (d s : ℕ) (running : Running)
      → Grown head (line (turn stamp (Client d)) (Begin s running) ∷ past) → (t : Bool) → nat_eq d c ≡ t → (old : List Call)
      → Every (Promise c past) old
      → Every (Promise c (line (turn stamp (Client d)) (Begin s running) ∷ past))
      (if t then filter (λ known. not (rebinds running.call known)) old else old)
  begun_known past stamp d s running g true e old h =
      every_filter (λ known. not (rebinds running.call known)) (λ k is q. still past (line (turn stamp (Client d)) (Begin s running)) g
      (refl, tt) k (λ t. no (rebinds running.call k) is) q) old h
    where
      no : (b : Bool) → not b ≡ true → b ≡ false
      no true e = absurd (cc)
      no false e = refl
  begun_known past stamp d s running g false e old h =
      every_map (Promise c past) (Promise c (line (turn stamp (Client d)) (Begin s running) ∷ past)) old
      (λ k q. still past (line (turn stamp (Client d)) (Begin s running)) g (refl, tt) k
      (λ t. let both : true ≡ false = sym t ∙ flip c d ∙ e in absurd (cc)) q) h

  gone : (past : List Line) (t : Bool) (old : List Call) → (t ≡ false → Every (Promise c past) old)
      → Every (Promise c past) (if t then [] else old)
  gone past true old h = tt
  gone past false old h = h refl

  more_known : (past : List Line) (t : Bool) (more old : List Call) → (t ≡ true → Every (Promise c past) more) → Every (Promise c past) old
      → Every (Promise c past) (if t then more ++ old else old)
  more_known past true more old h k = every_both (Promise c past) more old (h refl) k
  more_known past false more old h k = k

  pub known_is_known : (past : List Line) → Run head past → Every (Promise c past) (known (who_is c (printed past)) (printed past))
  known_is_known [] y = tt
  known_is_known (l ∷ past) y = by l.at.node l.entry y (known_is_known past (before head l past y))
    where
      own : nat_eq (life c (printed past)) (life c (printed past)) ≡ true
      own = self (life c (printed past))

      P : List Call
      P = known (who_is c (printed past)) (printed past)

      after_line : (node : Node) (e : Entry) → Grown head (line (turn l.at.stamp node) e ∷ past) → Stays c past node e
          → ((k : Call) → KeepsHandles c node e k) → (xs : List Call)
          → Every (Promise c past) xs → Every (Promise c (line (turn l.at.stamp node) e ∷ past)) xs
      after_line node e g stays keeps xs h = every_map (Promise c past) (Promise c (line (turn l.at.stamp node) e ∷ past)) xs
          (λ k q. still past (line (turn l.at.stamp node) e) g stays k (keeps k) q) h

      by : (node : Node) (e : Entry) → Run head (line (turn l.at.stamp node) e ∷ past) → Every (Promise c past) P
          → Every (Promise c (line (turn l.at.stamp node) e ∷ past))
          (known (who_is c (printed (line (turn l.at.stamp node) e ∷ past))) (printed (line (turn l.at.stamp node) e ∷ past)))
      by (Client d) (Begin s running) y h = rw (own, and_true (nat_eq d c))
          (begun_known past l.at.stamp d s running y.grown (nat_eq d c) refl P h)
      by (Client d) (Told s named given work) y h =
          rw (own, and_true (nat_eq d c))
          (more_known (line (turn l.at.stamp (Client d)) (Told s named given work) ∷ past) (nat_eq d c)
          (told_calm s given (calm (who_is c (printed past)) (printed past))) P
          (λ t.
          let same : d ≡ c = eqb-true d c t in
          after_line (Client d) (Told s named given work) y.grown (refl, tt) (λ k. tt)
          (told_calm s given (calm (who_is c (printed past)) (printed past)))
          (told_all past (turn l.at.stamp (Client d)) s named given work
          (before head (line (turn l.at.stamp (Client d)) (Told s named given work)) past y)
          (none_owed c past (line (turn l.at.stamp (Client d)) (Told s named given work)) (y.heeds.0 c) (λ z. z)) (ap Client same)
          (subst (λ (v : ℕ). TellsOk past (turn l.at.stamp (Client d)) v s named given work) same y.grown.0.ok)))
          (after_line (Client d) (Told s named given work) y.grown (refl, tt) (λ k. tt) P h))
      by (Client d) (Drop t x) y h =
          rw (own, and_true (nat_eq d c))
          (gone (line (turn l.at.stamp (Client d)) (Drop t x) ∷ past) (nat_eq d c) P
          (λ f. after_line (Client d) (Drop t x) y.grown (flip c d ∙ f, tt) (λ k. tt) P h))
      by (Client d) (Take n from m) y h = gone (line (turn l.at.stamp (Client d)) (Take n from m) ∷ past) _ P
          (λ f. after_line (Client d) (Take n from m) y.grown (refl, tt) (λ k. tt) P h)
      by (Client d) (Life w) y h =
          cond_both (nat_eq d c) w.life (life c (printed past))
          (λ (v : ℕ). Every (Promise c (line (turn l.at.stamp (Client d)) (Life w) ∷ past))
          (known (record { client = c; life = v }) (printed past)))
          (λ t. subst (λ (v : List Call). Every (Promise c (line (turn l.at.stamp (Client d)) (Life w) ∷ past)) v)
          (sym (begun_anew head c d w past (turn l.at.stamp (Client d)) y.grown.1 y.grown.0.ok t).1) tt)
          (λ f. after_line (Client d) (Life w) y.grown (flip c d ∙ f, tt) (λ k. tt) P h)
      by (Client d) (Marks name) y h = ⊎_elim
          (λ (free : MarksFree c past (Client d) (Marks name)). after_line (Client d) (Marks name) y.grown (refl, free) (λ k. tt) P h)
          (λ (none : (calm (who_is c (printed past)) (printed past) ≡ []) × (P ≡ [])). subst
          (λ (v : List Call). Every (Promise c (line (turn l.at.stamp (Client d)) (Marks name) ∷ past)) v) (sym none.1) tt)
          (marks_free head c past l.at.stamp d name y.grown.1 y.grown.0.ok)
      by (Target u) (Begin s running) y h = absurd y.grown.0.ok
      by (Target u) (Told s named given work) y h = absurd y.grown.0.ok
      by (Target u) (Drop v x) y h = absurd y.grown.0.ok
      by (Target u) (Life w) y h = absurd y.grown.0.ok
      by (Target u) (Take n from m) y h = after_line (Target u) (Take n from m) y.grown (refl, tt) (λ k. tt) P h
      by node e y h = after_line node e y.grown (refl, tt) (λ k. tt) P h
