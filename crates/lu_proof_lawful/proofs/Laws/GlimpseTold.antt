-- What a target answers of an object's size, or its holder says of it, the object measures over one of the cuts since the call began that
-- it is
-- said for; or a life said so that was gone.
use Rattle.std.proofs.Common.{◌≡◌, ℕ, ◌<◌, Bool, true, false, List, [], ◌∷◌, Some, None, ◌⊎◌, inl, inr, ⊎_elim, refl, sym, subst, ap, ◌∙◌}
use Rattle.std.proofs.Common.{arith}
use Rattle.std.specs.Prelude.{nat_eq, ◌&&◌, map, if◌then◌else◌}
use Rattle.std.specs.List.{list_any}
use Rattle.std.proofs.lemmas.Bool.{cond_both, eqb-true}
use Rattle.lu_base.specs.declared.ids.At.{At}
use Rattle.lu_base.specs.declared.ids.Cookie.{Cookie}
use Rattle.lu_base.specs.declared.ids.Fid.{Fid}
use Rattle.lu_base.specs.declared.ids.Node.{Node}
use Rattle.lu_base.specs.declared.ids.Node.TheVariants.{Client, Target}
use Rattle.lu_base.specs.declared.ids.Stamp.{Stamp}
use Rattle.lu_base.specs.declared.ids.Who.{Who}
use Rattle.lu_base.specs.declared.ids.Xid.{Xid}
use Rattle.lu_base.specs.declared.locks.Lock.{Lock}
use Rattle.lu_base.specs.declared.locks.Resource.{Resource}
use Rattle.lu_msg.specs.declared.answers.Answer.{Answer}
use Rattle.lu_msg.specs.declared.answers.Answer.TheVariants as told
use Rattle.lu_msg.specs.declared.messages.Message.{Message}
use Rattle.lu_msg.specs.declared.messages.Message.TheVariants as message
use Rattle.lu_msg.specs.declared.messages.Request.{Request as RequestOf}
use Rattle.lu_msg.specs.declared.messages.SizeReport.{SizeReport}
use Rattle.lu_msg.specs.declared.operations.Op.TheVariants as op
use Rattle.lu_lock.specs.Growth.{the_end}
use Rattle.lu_held.specs.Locks.{reaches_end}
use Rattle.lu_spec_entries.specs.Carried.{Deed, Flight, Running}
use Rattle.lu_spec_entries.specs.Words.{Entry, Send, Take, Peek, Act, Txn, Grant, Wait, Answers, Enters, Ends, Line, line}
use Rattle.lu_spec_entries.specs.Sent.{Sent}
use Rattle.lu_spec_entries.specs.Concerns.{concerns, only}
use Rattle.lu_spec_entries.specs.Printed.{printed}
use Rattle.lu_spec_target.specs.Glimpses.{by_holder}
use Rattle.lu_spec_client.specs.Sending.{object_of}
use Rattle.lu_proof_lawful.specs.Covered.Calls.{call_at, life_at}
use Rattle.lu_proof_lawful.specs.Covered.Deeds.{size_at}
use Rattle.lu_proof_lawful.specs.Covered.Heads.{Head}
use Rattle.lu_proof_lawful.specs.Covered.TargetCloses.{closing_of}
use Rattle.lu_proof_lawful.specs.Covered.TargetStates.{server_of}
use Rattle.lu_spec_laws.specs.Words.Lives.{who_is, is_gone}
use Rattle.lu_spec_laws.specs.Words.Seen.{lock_with}
use Rattle.lu_spec_laws.specs.Words.Glimpses.{cuts, machine_cut, has_size, locks_object, with_size, peeked}
use Rattle.lu_proof_lawful.proofs.Preconditions.Guards.{Was, Later, Did, EntryOk, EntersFor, ActsAsEnters, SizeOk, PeekOk, PeekedNow}
use Rattle.lu_proof_lawful.proofs.Preconditions.Guards.{TookAsk, TookNow}
use Rattle.lu_proof_lawful.proofs.Preconditions.Acts.{acts_sized, sized_op, sized_answer}
use Rattle.lu_proof_lawful.proofs.Preconditions.ObjectGuards.{SizedOk, TookReport, EndedBy, ReportedOk, AnswersOk}
use Rattle.lu_proof_lawful.proofs.Preconditions.StoryGuards.{ActsOk, EntryOf}
use Rattle.lu_proof_lawful.proofs.Preconditions.Turns.{IsNoClose, closing_quiet}
use Rattle.lu_proof_lawful.proofs.Preconditions.Grown.{Grown}
use Rattle.lu_proof_lawful.proofs.Preconditions.HeedMarks.{owed_of}
use Rattle.lu_proof_lawful.proofs.Preconditions.Heeds.{none_owed}
use Rattle.lu_proof_lawful.proofs.Preconditions.Lists.{self}
use Rattle.lu_proof_lawful.proofs.Preconditions.Only.{was_more, was_back, told_by_target}
use Rattle.lu_proof_lawful.proofs.Invariants.Groups.{turn, Upto, Reached}
use Rattle.lu_proof_lawful.proofs.Invariants.TargetGroups.{Flew, FlewAs, FlewFor, Acted, Gave}
use Rattle.lu_proof_lawful.proofs.Invariants.All.{holds}
use Rattle.lu_proof_lawful.proofs.Preconditions.Calls.{Came, call_cases}
use Rattle.lu_proof_lawful.proofs.Invariants.Lines.{DoneBy, acted_line, acted_whole}
use Rattle.lu_proof_lawful.proofs.Invariants.Times.{was_only_more}
use Rattle.lu_proof_lawful.proofs.Refinement.Place.{place}
use Rattle.lu_proof_lawful.proofs.Refinement.Placed.{flew_place}
use Rattle.lu_proof_lawful.proofs.Refinement.Uses.{held_gave}
use Rattle.lu_proof_lawful.proofs.Refinement.WordLine.{only_flew}
use Rattle.lu_proof_lawful.proofs.Refinement.ClosedCommits.{line_is}
use Rattle.lu_proof_lawful.proofs.Laws.FitsNow.{AllShown, shown_there}
use Rattle.lu_proof_lawful.proofs.Laws.Given.{Showed, showed_gave, all_given}
use Rattle.lu_proof_lawful.proofs.Laws.GlimpseAsks.{AskedOf, asked_more, asked_of, lock_found}
use Rattle.lu_proof_lawful.proofs.Laws.GlimpseCuts.{SizeNow, SizeOver, Known, From, from_more, known_more, or_right, Calm, later_calm}
use Rattle.lu_proof_lawful.proofs.Laws.GlimpseRun.{Run, before, ready, not_yet, calm_from, client_from}
use Rattle.lu_proof_lawful.proofs.Laws.GlimpseStory.{sized_now, peek_now}
use Rattle.lu_proof_lawful.proofs.Laws.Holding.{gave_one}
use Rattle.lu_proof_lawful.proofs.Laws.Printed.{present_is}

-- ---- what is said

-- of a holder, for a request that asked how long that object is
abbrev pub HoldersSaid : Head → List Line → Type 0
HoldersSaid head past =
    (t from : ℕ) (m : SizeReport) (n : ℕ) (f : Flight) (q : Resource) → Was (only t past) (Client from) (Target t) (message.Size m) → m.size
    ≡ Some n → Flew (only t past) m.for_who f → f.xid ≡ m.xid.0 → f.op ≡ op.Size q
    → (c slot : ℕ) (r : Running) → call_at c slot past ≡ Some r → Upto r.at (by_holder m) → Known head.osts past c slot q.fid q.stripe n

-- of a target
abbrev pub TargetsTold : Head → List Line → Type 0
TargetsTold head past =
    (t : ℕ) (d : Deed) (n : ℕ) (q : Resource) → Acted (only t past) d → d.op ≡ op.Size q → d.reply.answer ≡ told.Size n
    → (c slot : ℕ) (r : Running) → call_at c slot past ≡ Some r → Upto r.at d.reply.at → Known head.osts past c slot q.fid q.stripe n

-- ---- a holder tells its user what it says

module _ (head : Head) (t d : ℕ) (stamp : Stamp) (m : SizeReport) where
  abbrev at : At
  at = turn stamp (Client d)

  -- what it says of a lock that it holds, in whatever it was asked about
  abbrev Says : List Line → (c slot n : ℕ) → Type 0
  Says past c slot n = (k : Lock) × AskedOf past t k m.cookie m.for_who m.xid
      × Known head.osts past c slot k.resource.fid k.resource.stripe n

  says_more : (l : Line) (past : List Line) (c slot n : ℕ) (r : Running) → Run head (l ∷ past) → call_at c slot past ≡ Some r
      → Says past c slot n → Says (l ∷ past) c slot n
  says_more l past c slot n r y is k = (
    k.0,
    asked_more l past t k.0 m.cookie m.for_who m.xid k.1,
    known_more head l past c slot r k.0.resource.fid k.0.resource.stripe n y.grown.0 is k.2,
  )

  -- it took the question in the line before
  after_take : (number : ℕ) (from : Node) (k : Message) (p : List Line) (size c slot : ℕ) (r : Running) (boot : ℕ)
      → Run head (line at (Peek t m.cookie size) ∷ line at (Take number from k) ∷ p) → from ≡ Target t → k
      ≡ message.Ask m.who boot m.cookie m.for_who m.xid
      → call_at c slot p ≡ Some r → Says (line at (Peek t m.cookie size) ∷ line at (Take number from k) ∷ p) c slot size
  after_take number from k p size c slot r boot y from_is k_is is =
      (asked.0, asked_more l1 p1 t asked.0 m.cookie m.for_who m.xid asked.1, known)
    where
      p1 : List Line
      p1 = line at (Take number from k) ∷ p

      l1 : Line
      l1 = line at (Peek t m.cookie size)

      g : Grown head p1
      g = y.grown.1

      asked : (k : Lock) × AskedOf p1 t k m.cookie m.for_who m.xid
      asked =
          let sent = subst (λ (x : Message). Sent p number (Target t) (Client d) x) k_is
          (subst (λ (v : Node). Sent p number v (Client d) k) from_is g.0.ok.sent) in
          let old = asked_of head p g.1 t d m.who boot m.cookie m.for_who m.xid
          (told_by_target p number t (Client d) (message.Ask m.who boot m.cookie m.for_who m.xid) sent) in
          (old.0, asked_more (line at (Take number from k)) p t old.0 m.cookie m.for_who m.xid old.1)

      ok : PeekOk p1 at d t m.cookie size
      ok = y.grown.0.ok

      gave : (e : Deed) × Gave (only t p1) e ok.holding.lock
      gave = held_gave head p1 g d ok.holding t ok.of_target ok.held

      -- that is the lock that it was asked about
      one : ok.holding.lock ≡ asked.0
      one = gave_one head t p1 g gave.0 asked.1.deed ok.holding.lock asked.0 gave.1 asked.1.gave
          (ap (λ (x : Cookie). x.0) (ok.of_lock ∙ sym asked.1.of_cookie))

      owed : owed_of d p1 ≡ []
      owed = none_owed d p1 l1 (y.heeds.0 d) (λ o. o)

      all : AllShown head p1
      all = shown_there head l1 p1 d y.grown y.shown refl

      last : ok.extent.last ≡ the_end
      last = eqb-true ok.extent.last the_end (ap reaches_end (sym ok.range) ∙ ok.ends)

      -- while its life isn't gone
      now : is_gone (printed p1) (life_at d p1) ≡ false → SizeNow head.osts p1 ok.holding.lock.resource.fid ok.holding.lock.resource.stripe
          size
      now stays =
          subst (λ (n : ℕ). SizeNow head.osts p1 ok.holding.lock.resource.fid ok.holding.lock.resource.stripe n) (sym ok.is)
          (peek_now head p1 (ready head p1 (before head l1 p1 y) all tt) d ok.holding ok.extent owed stays ok.held ok.range last
          (subst (λ (n : ℕ). ok.extent.first < n) ok.is ok.above))

      -- once it is
      gone_said : is_gone (printed p1) (life_at d p1) ≡ true → (next : At)
          → SizeOver head.osts (printed (l1 ∷ p1)) c slot ok.holding.lock.resource.fid ok.holding.lock.resource.stripe size next
      gone_said gone next =
          let k = ok.holding.lock in
          let same = λ (x : Lock) (s : Showed t p1 x) (e : x.cookie.0 ≡ k.cookie.0). let a = showed_gave head t p1 x g s
          in gave_one head t p1 g a.0 gave.0 x k a.1 gave.1 e in
          let shown : Showed t p1 k = ⊎_elim (λ (z : Did p1 gave.0). absurd z) (λ (z : Showed t p1 k). z)
          (all_given head p1 g t gave.0 k gave.1) in
          let found : lock_with t m.cookie.0 (printed p1) ≡ Some k = ap (λ (x : Cookie). lock_with t x.0 (printed p1)) (sym ok.of_lock)
          ∙ lock_found head t k p1 g same shown in
          let on : locks_object (Some k.resource.fid) k.resource.stripe (lock_with t m.cookie.0 (printed p1)) ≡ true =
          ap (locks_object (Some k.resource.fid) k.resource.stripe) found ∙ rw (self k.resource.fid.0, self k.resource.stripe) refl in
          let over : is_gone (printed p1) (who_is d (printed p1)) ≡ true = ap (is_gone (printed p1)) (present_is head d p1 g) ∙ gone in
          let both : (is_gone (printed p1) (who_is d (printed p1))
          && locks_object (Some k.resource.fid) k.resource.stripe (lock_with t m.cookie.0 (printed p1))) ≡ true = rw (over, on) refl in
          let mine : list_any (nat_eq size) (with_size true size (peeked c slot (Some k.resource.fid) k.resource.stripe (printed p1)))
          ≡ true = rw (self size) refl in
          let old = peeked c slot (Some k.resource.fid) k.resource.stripe (printed p1) in
          or_right (list_any (has_size (Some k.resource.fid) k.resource.stripe size)
          (map (machine_cut head.osts) (cuts c slot next (printed (l1 ∷ p1)))))
          (list_any (nat_eq size) (with_size (is_gone (printed p1) (who_is d (printed p1))
          && locks_object (Some k.resource.fid) k.resource.stripe (lock_with t m.cookie.0 (printed p1))) size old))
          (ap (λ (b : Bool). list_any (nat_eq size) (with_size b size old)) both ∙ mine)

      known : Known head.osts (l1 ∷ p1) c slot asked.0.resource.fid asked.0.resource.stripe size
      known = subst (λ (x : Lock). Known head.osts (l1 ∷ p1) c slot x.resource.fid x.resource.stripe size) one
          (by (is_gone (printed p1) (life_at d p1)) refl)
        where
          by : (b : Bool) → is_gone (printed p1) (life_at d p1) ≡ b
              → Known head.osts (l1 ∷ p1) c slot ok.holding.lock.resource.fid ok.holding.lock.resource.stripe size
          by true e = λ next steps. gone_said e next
          by false e =
              known_more head l1 p1 c slot r ok.holding.lock.resource.fid ok.holding.lock.resource.stripe size y.grown.0 is
              (client_from head p1 at d c slot r ok.holding.lock.resource.fid ok.holding.lock.resource.stripe size g (inl refl) refl is
              (now e))

  after_peek : (a : At) (e : Entry) (p : List Line) (n c slot : ℕ) (r : Running) → Run head (line a e ∷ p)
      → PeekedNow (line a e ∷ p) at t m n → call_at c slot (line a e ∷ p) ≡ Some r → Says (line a e ∷ p) c slot n
  after_peek a (Peek u cookie size) [] n c slot r y (here, there, same, is_size, took) is = absurd took.1
  after_peek a (Peek u cookie size) (l ∷ p) n c slot r y (here, there, same, is_size, took) is =
      subst (λ (v : At). Says (line v (Peek u cookie size) ∷ l ∷ p) c slot n) (sym here)
      (subst (λ (v : ℕ). Says (line at (Peek v cookie size) ∷ l ∷ p) c slot n) (sym there)
      (subst (λ (v : Cookie). Says (line at (Peek t v size) ∷ l ∷ p) c slot n) (sym same)
      (subst (λ (v : ℕ). Says (line at (Peek t m.cookie size) ∷ l ∷ p) c slot v) is_size
      (by l.at l.entry took.1 is
      (subst (λ (v : Cookie). Run head (line at (Peek t v size) ∷ l ∷ p)) same
      (subst (λ (v : ℕ). Run head (line at (Peek v cookie size) ∷ l ∷ p)) there
      (subst (λ (v : At). Run head (line v (Peek u cookie size) ∷ l ∷ p)) here y)))))))
    where
      by : (b : At) (x : Entry) → TookNow (line b x ∷ p) at (Target t) (message.Ask m.who took.0 m.cookie m.for_who m.xid)
          → call_at c slot (line b x ∷ p) ≡ Some r → Run head (line at (Peek t m.cookie size) ∷ line b x ∷ p)
          → Says (line at (Peek t m.cookie size) ∷ line b x ∷ p) c slot size
      by b (Take number from k) (b_is, from_is, k_is) is y =
          subst (λ (v : At). Says (line at (Peek t m.cookie size) ∷ line v (Take number from k) ∷ p) c slot size) (sym b_is)
          (after_take number from k p size c slot r took.0 (subst
          (λ (v : At). Run head (line at (Peek t m.cookie size) ∷ line v (Take number from k) ∷ p)) b_is y) from_is k_is is)
      by b x took is y = absurd took
  after_peek a e p n c slot r y peeked is = absurd peeked

-- ---- a target answers as it takes the request

module _ (head : Head) (t : ℕ) (stamp : Stamp) (d : Deed) (some : 0 < t) where
  abbrev there : At
  there = turn stamp (Target t)

  -- what it tells itself, right after the line of the request
  abbrev Sizes : List Line → (c slot : ℕ) → Type 0
  Sizes past c slot = (ok : SizedOk head.osts (only t past) there d) → t ≡ place head.osts ok.resource
      → From head.osts past there c slot ok.resource.fid ok.resource.stripe (size_at (server_of head.osts (only t past)) ok.resource)

  shown_more : (l : Line) (past : List Line) → IsNoClose l.entry → AllShown head past → AllShown head (l ∷ past)
  shown_more l past quiet all u = cond_both (concerns u l.at.node l.entry) (l ∷ only u past) (only u past)
      (λ (p : List Line). closing_of head.clients p ≡ []) (λ q. closing_quiet head.clients (only u past) l.at l.entry quiet (all u))
      (λ q. all u)

  at_take : (number : ℕ) (from : Node) (k : Message) (q : RequestOf) (p : List Line) (c slot : ℕ) (r : Running)
      → Run head (line there (Act d) ∷ line there (Enters q) ∷ line there (Take number from k) ∷ p) → call_at c slot p ≡ Some r
      → Sizes (line there (Enters q) ∷ line there (Take number from k) ∷ p) c slot
  at_take number from k q p c slot r y is ok lies =
      let l2 = line there (Take number from k) in
      let l1 = line there (Enters q) in
      let past = l1 ∷ l2 ∷ p in
      let g = y.grown.1 in
      let later : Later p there = g.1.0.ok.later in
      let all : AllShown head past = shown_more l1 (l2 ∷ p) tt (shown_more l2 p tt (y.shown.1.1.0 later)) in
      let calm : Calm there past = ((λ same. tt), ((λ same. tt), later_calm head p there g.1.1 later)) in
      let size = size_at (server_of head.osts (only t past)) ok.resource in
      calm_from head past there c slot r ok.resource.fid ok.resource.stripe size g (inl refl) calm is
      (sized_now head past (ready head past (before head (line there (Act d)) past y) all tt) t there d some ok lies)

  at_enters : (a : At) (e : Entry) (p : List Line) (c slot : ℕ) (r : Running) → Run head (line there (Act d) ∷ line a e ∷ p)
      → EntersFor (line a e ∷ p) there d → call_at c slot (line a e ∷ p) ≡ Some r → Sizes (line a e ∷ p) c slot
  at_enters a (Enters q) p c slot r y (here, of_who, of_xid) is =
      subst (λ (v : At). Sizes (line v (Enters q) ∷ p) c slot) (sym here)
      (by p is (subst (λ (v : At). Run head (line there (Act d) ∷ line v (Enters q) ∷ p)) here y))
    where
      take : (b : At) (x : Entry) (p0 : List Line) (from : Node) → TookNow (line b x ∷ p0) there from (message.Request q)
          → call_at c slot (line b x ∷ p0) ≡ Some r → Run head (line there (Act d) ∷ line there (Enters q) ∷ line b x ∷ p0)
          → Sizes (line there (Enters q) ∷ line b x ∷ p0) c slot
      take b (Take number sender k) p0 from (b_is, from_is, k_is) is y =
          subst (λ (v : At). Sizes (line there (Enters q) ∷ line v (Take number sender k) ∷ p0) c slot) (sym b_is)
          (at_take number sender k q p0 c slot r (subst (λ (v : At). Run head
          (line there (Act d) ∷ line there (Enters q) ∷ line v (Take number sender k) ∷ p0)) b_is y) is)
      take b x p0 from took is y = absurd took

      by : (p0 : List Line) → call_at c slot p0 ≡ Some r → Run head (line there (Act d) ∷ line there (Enters q) ∷ p0)
          → Sizes (line there (Enters q) ∷ p0) c slot
      by [] is y = absurd (let none : None ≡ Some r = is in cc)
      by (x ∷ p0) is y = let took = y.grown.1.0.ok in take x.at x.entry p0 took.0 took.1 is y
  at_enters a e p c slot r y enters is = absurd enters

-- of a glimpse that ended as its holder said so, what it said was sent
record SaidFor (past : List Line) (t : ℕ) (ask : RequestOf) (m : SizeReport) : Type 0 where
  from : ℕ
  was : Was past (Client from) (Target t) (message.Size m)
  who : m.for_who ≡ ask.who
  xid : m.xid ≡ ask.xid

said_for : (osts : ℕ) (past : List Line) (at : At) (t : ℕ) (ask : RequestOf) (m : SizeReport)
    → EndedBy (λ before g. (g.request ≡ ask) × TookReport osts before at t g m) past at → SaidFor past t ask m
said_for osts [] at t ask m ended = absurd ended
said_for osts (l ∷ past) at t ask m ended = by l.entry ended
  where
    by : (e : Entry) → EndedBy (λ before g. (g.request ≡ ask) × TookReport osts before at t g m) (line l.at e ∷ past) at
        → SaidFor (l ∷ past) t ask m
    by (Ends g) (here, (same, took)) =
        record {
          from = took.from;
          was = was_more l past (Client took.from) (Target t) (message.Size m) took.was;
          who = took.on.1 ∙ ap (λ (r : RequestOf). r.who) same;
          xid = took.on.2 ∙ ap (λ (r : RequestOf). r.xid) same;
        }
    by e ended = absurd ended

-- ---- of a call that stood before

-- what was known of it is known still, unless it has just begun, before which nothing can be
module _ (head : Head) (l : Line) (past : List Line) (y : Run head (l ∷ past)) where
  lasts : (c slot : ℕ) (r : Running) (a : At) (f : Fid) (i n : ℕ) → call_at c slot (l ∷ past) ≡ Some r → Upto r.at a → Reached past a
      → ((q : Running) → call_at c slot past ≡ Some q → Upto q.at a → Known head.osts past c slot f i n)
      → Known head.osts (l ∷ past) c slot f i n
  lasts c slot r a f i n is up reached old = by (call_cases past l.at.stamp l.at.node l.entry y.grown.0.ok c slot r is)
    where
      more : (q : Running) → call_at c slot past ≡ Some q → q.at ≡ r.at → Known head.osts (l ∷ past) c slot f i n
      more q k same = known_more head l past c slot q f i n y.grown.0 k (old q k (subst (λ (v : At). Upto v a) (sym same) up))

      by : Came past l.at l.at.node l.entry c slot r → Known head.osts (l ∷ past) c slot f i n
      by (inl same) = more r same refl
      by (inr (inl began)) = absurd (not_yet past l.at a began.later reached (subst (λ (v : At). Upto v a) began.at up))
      by (inr (inr (inl touched))) = more touched.before touched.call touched.at
      by (inr (inr (inr stood))) = more stood.before stood.call stood.at

  -- ---- what a holder says

  holders_old : HoldersSaid head past → (t from : ℕ) (m : SizeReport) (n : ℕ) (f : Flight) (q : Resource)
      → Was (only t past) (Client from) (Target t) (message.Size m) → m.size ≡ Some n → Flew (only t (l ∷ past)) m.for_who f → f.xid
      ≡ m.xid.0 → f.op ≡ op.Size q
      → (c slot : ℕ) (r : Running) → call_at c slot (l ∷ past) ≡ Some r → Upto r.at (by_holder m)
      → Known head.osts (l ∷ past) c slot q.fid q.stripe n
  holders_old said t from m n f q was sized flew xid of_op c slot r is up =
      let facts = holds head past y.grown.1 in
      let asked : FlewAs (only t past) m.for_who m.xid.0 = (facts.at t).done.sent (Client from) (Target t) (message.Size m) was in
      let later = (holds head (l ∷ past) y.grown).at t in
      let same : asked.0 ≡ f = later.numbers.one m.for_who asked.0 f (only_flew t l past m.for_who asked.0 asked.1) flew (asked.2 ∙ sym xid)
      in
      lasts c slot r (by_holder m) q.fid q.stripe n is up (facts.reaches.said (Client from) (Target t) m
      (was_back t past (Client from) (Target t) (message.Size m) was))
      (λ p k u. said t from m n asked.0 q was sized asked.1 asked.2 (ap (λ (v : Flight). v.op) same ∙ of_op) c slot p k u)

  holders_now : (t d : ℕ) (stamp : Stamp) (m : SizeReport) (n : ℕ) (f : Flight) (q : Resource) → l
      ≡ line (turn stamp (Client d)) (Send (Target t) (message.Size m)) → m.size ≡ Some n → Flew (only t (l ∷ past)) m.for_who f → f.xid
      ≡ m.xid.0 → f.op ≡ op.Size q
      → (c slot : ℕ) (r : Running) → call_at c slot (l ∷ past) ≡ Some r → Known head.osts (l ∷ past) c slot q.fid q.stripe n
  holders_now t d stamp m n f q is sized flew xid of_op c slot r call = by ok.took
    where
      ok : SizeOk past (turn stamp (Client d)) d t m
      ok = subst (λ (x : Line). EntryOk past x.at x.at.node x.entry) is y.grown.0.ok

      stands : call_at c slot past ≡ Some r
      stands = subst (λ (x : Line). call_at c slot (x ∷ past) ≡ Some r) is call

      peeked : (p : List Line) → Run head p → PeekedNow p (turn stamp (Client d)) t m n → call_at c slot p ≡ Some r
          → Says head t d stamp m p c slot n
      peeked [] z k i = absurd k
      peeked (x ∷ p) z k i = after_peek head t d stamp m x.at x.entry p n c slot r z k i

      of_lock : Says head t d stamp m (l ∷ past) c slot n → Known head.osts (l ∷ past) c slot q.fid q.stripe n
      of_lock (k, asked, known) =
          let later = (holds head (l ∷ past) y.grown).at t in
          let one : f ≡ asked.flight = later.numbers.one m.for_who f asked.flight flew asked.flew (xid ∙ sym asked.of_xid) in
          let ops : op.Size q ≡ op.Size k.resource = sym of_op ∙ ap (λ (v : Flight). v.op) one ∙ asked.of_op in
          let same : k.resource ≡ q = cc in
          subst (λ (v : Resource). Known head.osts (l ∷ past) c slot v.fid v.stripe n) same known

      by : ((m.size ≡ None) × TookAsk past (turn stamp (Client d)) t m)
          ⊎ ((v : ℕ) × (m.size ≡ Some v) × PeekedNow past (turn stamp (Client d)) t m v)
          → Known head.osts (l ∷ past) c slot q.fid q.stripe n
      by (inl k) = absurd (let none : None ≡ Some n = sym k.0 ∙ sized in cc)
      by (inr k) =
          let some : Some k.0 ≡ Some n = sym k.1 ∙ sized in
          let same : k.0 ≡ n = cc in
          of_lock (says_more head t d stamp m l past c slot n r y stands
          (peeked past (before head l past y) (subst (λ (v : ℕ). PeekedNow past (turn stamp (Client d)) t m v) same k.2) stands))

  pub holders_said : HoldersSaid head past → HoldersSaid head (l ∷ past)
  holders_said said t from m n f q was sized flew xid of_op c slot r is up = of (concerns t l.at.node l.entry) was
    where
      old : Was (only t past) (Client from) (Target t) (message.Size m) → Known head.osts (l ∷ past) c slot q.fid q.stripe n
      old w = holders_old said t from m n f q w sized flew xid of_op c slot r is up

      by : (e : Entry) → l.entry ≡ e → Was (line l.at e ∷ only t past) (Client from) (Target t) (message.Size m)
          → Known head.osts (l ∷ past) c slot q.fid q.stripe n
      by (Send to k) e (inl same) = holders_now t from l.at.stamp m n f q
          (line_is l (Client from) (Send (Target t) (message.Size m)) same.0
          (e ∙ ap (λ (v : Node). Send v k) same.1 ∙ ap (λ (v : Message). Send (Target t) v) same.2)) sized flew xid of_op c slot r is
      by (Send to k) e (inr w) = old w
      by x e w = old w

      of : (b : Bool) → Was (if b then l ∷ only t past else only t past) (Client from) (Target t) (message.Size m)
          → Known head.osts (l ∷ past) c slot q.fid q.stripe n
      of true w = by l.entry refl w
      of false w = old w

  -- ---- what a target tells

  pub targets_told : HoldersSaid head (l ∷ past) → TargetsTold head past → TargetsTold head (l ∷ past)
  targets_told said tells t d n q acted of_op answer c slot r is up = of (concerns t l.at.node l.entry) refl acted
    where
      flown : FlewFor (only t (l ∷ past)) d
      flown = ((holds head (l ∷ past) y.grown).at t).done.flew d acted

      lies : t ≡ place head.osts q
      lies = flew_place head (l ∷ past) t d.reply.who flown.0 q y.grown y.pins flown.1 (ap object_of (flown.3 ∙ of_op))

      some : 0 < t
      some = subst (λ (n : ℕ). 0 < n) (sym lies) (omega arith)

      old : Acted (only t past) d → Known head.osts (l ∷ past) c slot q.fid q.stripe n
      old a = lasts c slot r d.reply.at q.fid q.stripe n is up ((holds head past y.grown.1).reaches.acted d (acted_whole t past d a))
          (λ p k u. tells t d n q a of_op answer c slot p k u)

      other : (a : Answer) → d.reply.answer ≡ a → (a ≡ told.Size n → ⊥) → Known head.osts (l ∷ past) c slot q.fid q.stripe n
      other a e off = absurd (off (sym e ∙ answer))

      -- it tells itself
      sized : (stamp : Stamp) → l ≡ line (turn stamp (Target t)) (Act d) → SizedOk head.osts (only t past) (turn stamp (Target t)) d
          → EntersFor past (turn stamp (Target t)) d → Known head.osts (l ∷ past) c slot q.fid q.stripe n
      sized stamp here ok enters =
          let stands : call_at c slot past ≡ Some r = subst (λ (x : Line). call_at c slot (x ∷ past) ≡ Some r) here is in
          let ops : op.Size ok.resource ≡ op.Size q = sym (sized_op head.osts (only t past) (turn stamp (Target t)) d ok) ∙ of_op in
          let same : ok.resource ≡ q = cc in
          let sizes : told.Size (size_at (server_of head.osts (only t past)) ok.resource) ≡ told.Size n =
          sym (sized_answer head.osts (only t past) (turn stamp (Target t)) d ok) ∙ answer in
          let size : size_at (server_of head.osts (only t past)) ok.resource ≡ n = cc in
          from_more head l past c slot r q.fid q.stripe n y.grown.0 stands
          (subst (λ (v : At). From head.osts past v c slot q.fid q.stripe n) (sym (ap (λ (x : Line). x.at) here))
          (subst (λ (v : ℕ). From head.osts past (turn stamp (Target t)) c slot q.fid q.stripe v) size
          (subst (λ (v : Resource). From head.osts past (turn stamp (Target t)) c slot v.fid v.stripe
          (size_at (server_of head.osts (only t past)) ok.resource)) same
          (by_enters past (subst (λ (x : Line). Run head (x ∷ past)) here y) enters stands ok (lies ∙ ap (place head.osts) (sym same))))))
        where
          by_enters : (p : List Line) → Run head (line (turn stamp (Target t)) (Act d) ∷ p) → EntersFor p (turn stamp (Target t)) d
              → call_at c slot p ≡ Some r → Sizes head t stamp d some p c slot
          by_enters [] z e k = absurd e
          by_enters (x ∷ p) z e k = at_enters head t stamp d some x.at x.entry p c slot r z e k

      -- or as the holder said
      reported : (ok : ReportedOk head.osts (only t past) l.at t d) → Known head.osts (l ∷ past) c slot q.fid q.stripe n
      reported ok =
          let m = ok.report in
          let s = said_for head.osts (only t past) l.at t ok.request m ok.ended in
          let sizes : told.Size ok.size ≡ told.Size n = ap (λ (e : Deed). e.reply.answer) (sym ok.is) ∙ answer in
          let size : ok.size ≡ n = cc in
          let who : d.reply.who ≡ m.for_who = ap (λ (e : Deed). e.reply.who) ok.is ∙ sym s.who in
          let xid : d.reply.xid ≡ m.xid = ap (λ (e : Deed). e.reply.xid) ok.is ∙ sym s.xid in
          said t s.from m n flown.0 q (was_only_more t l past (Client s.from) (Target t) (message.Size m) s.was)
          (ok.sized ∙ ap (λ (v : ℕ). Some v) size)
          (subst (λ (w : Who). Flew (only t (l ∷ past)) w flown.0) who flown.1) (flown.2 ∙ ap (λ (x : Xid). x.0) xid) (flown.3 ∙ of_op) c
          slot r is
          (subst (λ (v : At). Upto r.at v) (ap (λ (e : Deed). e.reply.at) ok.is) up)

      answers : AnswersOk head.osts (only t past) l.at t d → Known head.osts (l ∷ past) c slot q.fid q.stripe n
      answers (inl ok) = other _ (ap (λ (e : Deed). e.reply.answer) ok.is) (λ e. absurd (cc))
      answers (inr (inl ok)) = other _ (ap (λ (e : Deed). e.reply.answer) ok.is) (λ e. absurd (cc))
      answers (inr (inr (inl ok))) = other _ (ap (λ (e : Deed). e.reply.answer) ok.is) (λ e. absurd (cc))
      answers (inr (inr (inr (inl ok)))) = other _ (ap (λ (e : Deed). e.reply.answer) ok.is) (λ e. absurd (cc))
      answers (inr (inr (inr (inr ok)))) = reported ok

      by : (node : Node) (e : Entry) → l.at.node ≡ node → l.entry ≡ e → concerns t node e ≡ true
          → EntryOk past (turn l.at.stamp node) node e → EntryOf head (only t past) (turn l.at.stamp node) node e → DoneBy e d
          → Known head.osts (l ∷ past) c slot q.fid q.stripe n
      by (Target u) (Act e) at_node entry there ok of same =
          let u_is : t ≡ u = eqb-true t u there in
          act u e (sym u_is) same ok of at_node entry
        where
          act : (u : ℕ) (e : Deed) → u ≡ t → e ≡ d → ActsAsEnters past (turn l.at.stamp (Target u)) u e
              → ActsOk head.osts (only t past) (turn l.at.stamp (Target u)) u e → l.at.node ≡ Target u → l.entry ≡ Act e
              → Known head.osts (l ∷ past) c slot q.fid q.stripe n
          act u e u_is same (inl zero) of at_node entry = absurd (omega (arith, zero, u_is, some))
          act u e u_is same (inr (high, enters)) of at_node entry =
              let at_t = λ (v : ℕ). turn l.at.stamp (Target v) in
              let here = line_is l (Target t) (Act d) (at_node ∙ ap Target u_is) (entry ∙ ap Act same) in
              let ok = acts_sized head.osts (only t past) (at_t t) t d some
              (subst (λ (x : Deed). ActsOk head.osts (only t past) (at_t t) t x) same
              (subst (λ (v : ℕ). ActsOk head.osts (only t past) (at_t v) v e) u_is of)) in
              sized l.at.stamp here ok (subst (λ (x : Deed). EntersFor past (at_t t) x) same
              (subst (λ (v : ℕ). EntersFor past (at_t v) e) u_is enters))
      by (Target u) (Txn e) at_node entry there ok (inl of) same =
          absurd (let zero = of.0 in let u_is = eqb-true t u there in omega (arith, zero, u_is, some))
      by (Target u) (Txn e) at_node entry there ok (inr of) same =
          other _ (ap (λ (x : Deed). x.reply.answer) (sym same ∙ of.1.is)) (λ e. absurd (cc))
      by (Target u) (Grant lock (Some e)) at_node entry there ok (inl of) same =
          absurd (let zero = of.0 in let u_is = eqb-true t u there in omega (arith, zero, u_is, some))
      by (Target u) (Grant lock (Some e)) at_node entry there ok (inr of) same =
          let is_d : e ≡ d = cc in
          other _ (ap (λ (x : Deed). x.reply.answer) (sym is_d ∙ of.1.is)) (λ e. absurd (cc))
      by (Target u) (Grant lock None) at_node entry there ok of same = absurd (let none : None ≡ Some d = same in cc)
      by (Target u) (Wait lock e) at_node entry there ok of same =
          other _ (ap (λ (x : Deed). x.reply.answer) (sym same ∙ of.1.is)) (λ e. absurd (cc))
      by (Target u) (Answers e) at_node entry there ok of same =
          let u_is : t ≡ u = eqb-true t u there in
          let at_is : turn l.at.stamp (Target u) ≡ l.at = ap (turn l.at.stamp) (sym at_node) in
          answers (subst (λ (v : At). AnswersOk head.osts (only t past) v t d) at_is
          (subst (λ (v : ℕ). AnswersOk head.osts (only t past) (turn l.at.stamp (Target u)) v d) (sym u_is)
          (subst (λ (x : Deed). AnswersOk head.osts (only t past) (turn l.at.stamp (Target u)) u x) same of.1)))
      by (Client v) (Act e) at_node entry there ok of same = absurd ok
      by (Client v) (Txn e) at_node entry there ok of same = absurd ok
      by (Client v) (Grant lock asked) at_node entry there ok of same = absurd ok
      by (Client v) (Wait lock e) at_node entry there ok of same = absurd ok
      by (Client v) (Answers e) at_node entry there ok of same = absurd ok
      by node e at_node entry there ok of same = absurd same

      of : (b : Bool) → concerns t l.at.node l.entry ≡ b → Acted (if b then l ∷ only t past else only t past) d
          → Known head.osts (l ∷ past) c slot q.fid q.stripe n
      of false e a = old a
      of true e a = ⊎_elim (λ (k : DoneBy l.entry d). by l.at.node l.entry refl refl e y.grown.0.ok (y.grown.0.of t e) k)
          (λ (k : Acted (only t past) d). old k) (acted_line l.at l.entry (only t past) d a)
