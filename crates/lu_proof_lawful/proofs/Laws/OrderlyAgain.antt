-- What every covered run keeps of replies that are sent again: they answer a request that was taken again, and are as the
-- last reply to it was.
use Rattle.std.proofs.Common.{◌≡◌, ℕ, Bool, true, false, List, [], ◌∷◌, Option, Some, None, ◌⊎◌, inl, inr, ⊎_elim, refl, sym, subst, ap}
use Rattle.std.proofs.Common.{◌∙◌, arith}
use Rattle.std.specs.Prelude.{nat_eq, ◌&&◌, ◌||◌, if◌then◌else◌}
use Rattle.std.specs.List.{list_any}
use Rattle.std.proofs.lemmas.Bool.{and_parts, cond_both, eqb-true, eq-eqb, true≢false}
use Rattle.lu_base.specs.declared.ids.At.{At}
use Rattle.lu_base.specs.declared.ids.Node.{Node}
use Rattle.lu_base.specs.declared.ids.Node.TheVariants.{Client, Target}
use Rattle.lu_base.specs.declared.ids.Stamp.{Stamp}
use Rattle.lu_base.specs.declared.ids.Who.{Who}
use Rattle.lu_base.specs.declared.ids.Xid.{Xid}
use Rattle.lu_base.specs.declared.locks.Lock.{Lock}
use Rattle.lu_msg.specs.declared.messages.Message.{Message}
use Rattle.lu_msg.specs.declared.messages.Message.TheVariants as message
use Rattle.lu_msg.specs.declared.messages.Reply.{Reply as ReplyTo}
use Rattle.lu_msg.specs.declared.messages.Request.{Request as RequestOf}
use Rattle.lu_msg.specs.declared.messages.SizeReport.{SizeReport}
use Rattle.lu_trace.specs.declared.entries.Line.{Line as PrintedLine}
use Rattle.lu_spec_machine.specs.Tree.{same_life}
use Rattle.lu_spec_entries.specs.Carried.{Deed, Outcome}
use Rattle.lu_spec_entries.specs.Words.{Entry, Send, Take, Act, Txn as Made, Grant, Wait, Answers as Responds, Ends, Close, Line, line}
use Rattle.lu_spec_entries.specs.Concerns.{concerns, only}
use Rattle.lu_spec_entries.specs.Printed.{printed}
use Rattle.lu_proof_lawful.specs.Covered.TargetStates.{server_of, closed_of}
use Rattle.lu_proof_lawful.specs.Covered.TargetCloses.{is_lost}
use Rattle.lu_proof_lawful.specs.Covered.Heads.{Head}
use Rattle.lu_spec_laws.specs.Holds.{Holds}
use Rattle.lu_spec_laws.specs.Words.Pasts.{same_turn, or_else}
use Rattle.lu_spec_laws.specs.Words.Sends.{Sending, as_reply, taken}
use Rattle.lu_spec_laws.specs.Laws.Recovery.{answers_size, is_size_for, is_executed}
use Rattle.lu_spec_laws.specs.Order.Repeated.{last_reply, asks, SameReply, Repeats, RepeatedAt, RepeatedBy, Repeated}
use Rattle.lu_spec_laws.proofs.Tests.{either_left, either_right, both}
use Rattle.lu_proof_lawful.proofs.Preconditions.Guards.{In, Did, TookNow, Took, Taken, RepliesAgain, OwesAsked, Owes, EntryOk}
use Rattle.lu_proof_lawful.proofs.Preconditions.StoryGuards.{ReplyOk, EndedBy, TookReport, ReportedOk, EntryOf}
use Rattle.lu_proof_lawful.proofs.Preconditions.Acts.{responded}
use Rattle.lu_proof_lawful.proofs.Preconditions.ClientLines.{some_is}
use Rattle.lu_proof_lawful.proofs.Preconditions.ClientLocks.{any_passes}
use Rattle.lu_proof_lawful.proofs.Preconditions.Grown.{Allowed, Grown}
use Rattle.lu_proof_lawful.proofs.Preconditions.Lists.{self, life_is, life_self}
use Rattle.lu_proof_lawful.proofs.Invariants.Groups.{turn, HoldsAt}
use Rattle.lu_proof_lawful.proofs.Invariants.TargetGroups.{Acted, Counts}
use Rattle.lu_proof_lawful.proofs.Invariants.All.{holds}
use Rattle.lu_proof_lawful.proofs.Invariants.Sides.{IsReported, story_turn}
use Rattle.lu_proof_lawful.proofs.Laws.Turns.{same_turn_self}
use Rattle.lu_proof_lawful.proofs.Laws.Story.{target_is}
use Rattle.lu_proof_lawful.proofs.Laws.Printed.{flip, took_whole, took_taken}
use Rattle.lu_proof_lawful.proofs.Laws.Lines.{Keeps, holds_before}
use Rattle.lu_proof_lawful.proofs.Laws.KeptReplies.{replied_acted}
use Rattle.lu_proof_lawful.proofs.Laws.OrderlyQuiet.{Says}
use Rattle.lu_proof_lawful.proofs.Laws.Notices.{takes_it}
use Rattle.lu_proof_lawful.proofs.Invariants.Lines.{DoneBy, acted_line}
use Rattle.lu_proof_lawful.proofs.Laws.Given.{NewestOf, locks_first, owed, did_one, entered_not_did, done_did, done_target}

took_not_did : (past : List Line) (at : At) (from : Node) (m : Message) (d : Deed) → TookNow past at from m → Did past d → ⊥
took_not_did [] at from m d t i = t
took_not_did (l ∷ past) at from m d t i = by l.entry t i
  where
    by : (e : Entry) → TookNow (line l.at e ∷ past) at from m → Did (line l.at e ∷ past) d → ⊥
    by (Take n sender msg) t i = i
    by _ t i = t

-- ---- at one target

module _ (u : ℕ) where
  -- ---- the last reply to each request

  -- it is the reply to what was done, but for boot and committed number
  abbrev IsLast : List Line → Deed → Type 0
  IsLast past d = (k : ReplyTo) × (last_reply u d.reply.who d.reply.xid.0 (printed past) ≡ Some k) × SameReply d.reply k

  -- it was answered, or was just done there
  abbrev pub IsAnswered : List Line → Deed → Type 0
  IsAnswered past d = (NewestOf u past × Did past d) ⊎ IsLast past d

  -- what was done counts before a line after which it counts
  counts_before : (head : Head) (l : Line) (past : List Line) (d : Deed) → Grown head (l ∷ past) → Acted (only u past) d
      → Counts head.osts (only u (l ∷ past)) d → Counts head.osts (only u past) d
  counts_before head l past d g i n = by (concerns u l.at.node l.entry) refl n
    where
      P : List Line
      P = only u past

      h : HoldsAt head P
      h = (holds head past g.1).at u

      lost_left : (a b : Bool) → (a || b) ≡ false → a ≡ false
      lost_left false b e = refl
      lost_left true b e = absurd (cc)

      on : (node : Node) (e : Entry) → EntryOf head P (turn l.at.stamp node) node e → Counts head.osts (line (turn l.at.stamp node) e ∷ P) d
          → Counts head.osts P d
      on (Target t) (Close o) ok (inl q) =
          let le = (h.done.boots d i).1 in
          let under = h.phase.under in
          let same : o.boot ≡ (server_of head.osts P).boot = ap (λ (v : Outcome). v.boot) ok.is in
          absurd (true≢false (sym (eq-eqb (closed_of P) (server_of head.osts P).boot (omega (arith, q, le, under, same))) ∙ ok.recovers))
      on (Target t) (Close o) ok (inr m) = inr (m.0, lost_left (is_lost head.osts P d.reply.txn.0) _ m.1)
      on (Client c) e ok n = n
      on (Target t) e ok n = n

      by : (b : Bool) → concerns u l.at.node l.entry ≡ b → Counts head.osts (if b then l ∷ P else P) d → Counts head.osts P d
      by true q n = on l.at.node l.entry (g.0.of u q) n
      by false q n = n

  -- a reply to that request, or to another one
  replied : (past : List Line) (d : Deed) (k : ReplyTo) (b : Bool) → (b ≡ true → SameReply d.reply k) → IsLast past d
      → (j : ReplyTo) × (or_else (if b then Some k else None) (last_reply u d.reply.who d.reply.xid.0 (printed past)) ≡ Some j)
      × SameReply d.reply j
  replied past d k true same last = (k, refl, same refl)
  replied past d k false same last = last

  -- the reply to what was just done
  replied_now : (past : List Line) (d : Deed) (k : ReplyTo) (b : Bool) → b ≡ true → k ≡ d.reply
      → (j : ReplyTo) × (or_else (if b then Some k else None) (last_reply u d.reply.who d.reply.xid.0 (printed past)) ≡ Some j)
      × SameReply d.reply j
  replied_now past d k true e is = (
    k,
    refl,
    subst (λ (v : ReplyTo). SameReply v k) is
        (record { number = refl; seen = refl; turn = refl; locks = refl; answer = refl }),
  )
  replied_now past d k false e is = absurd (cc)

  -- a kept reply to the request of a deed is that deed's
  same_deed : (head : Head) (past : List Line) (t c : ℕ) (k : ReplyTo) (d : Deed) → Grown head past → ReplyOk head (only u past) t c k
      → Acted (only u past) d → Counts head.osts (only u past) d
      → (same_life k.who d.reply.who && nat_eq k.xid.0 d.reply.xid.0) ≡ true → SameReply d.reply k
  same_deed head past t c k d g ok a n e =
      let h = ((holds head past g).at u).done in
      let f = replied_acted head u past g t c k ok in
      let p = and_parts (same_life k.who d.reply.who) (nat_eq k.xid.0 d.reply.xid.0) e in
      let who : f.0.reply.who ≡ d.reply.who = ap (λ (v : ReplyTo). v.who) f.2 ∙ sym (ap (λ (v : ReplyTo). v.who) ok.is)
      ∙ life_is k.who d.reply.who p.0 in
      let xid : f.0.reply.xid ≡ d.reply.xid = ap (λ (v : ReplyTo). v.xid) f.2 ∙ sym (ap (λ (v : ReplyTo). v.xid) ok.is)
      ∙ ap numbered (eqb-true k.xid.0 d.reply.xid.0 p.1) in
      let same : f.0 ≡ d = h.once f.0 d f.1 a f.3 n who xid in
      let kept : d.reply ≡ ok.kept = ap (λ (v : Deed). v.reply) (sym same) ∙ f.2 in
      record {
        number = ap (λ (v : ReplyTo). v.txn) kept ∙ sym (ap (λ (v : ReplyTo). v.txn) ok.is);
        seen = ap (λ (v : ReplyTo). v.seen) kept ∙ sym (ap (λ (v : ReplyTo). v.seen) ok.is);
        turn = ap (λ (v : ReplyTo). v.at) kept ∙ sym (ap (λ (v : ReplyTo). v.at) ok.is);
        locks = ap (λ (v : ReplyTo). v.locks) kept ∙ sym (ap (λ (v : ReplyTo). v.locks) ok.is);
        answer = ap (λ (v : ReplyTo). v.answer) kept ∙ sym (ap (λ (v : ReplyTo). v.answer) ok.is);
      }
    where
      numbered : ℕ → Xid
      numbered n = record { 0 = n }

  -- what was just done there is answered there
  sent_here : (head : Head) (past : List Line) (stamp : Stamp) (t c : ℕ) (k : ReplyTo) (d : Deed) → Grown head past → NewestOf u past
      → Did past d → Acted (only u past) d → Owes past (turn stamp (Target t)) (Send (Client c) (message.Reply k)) → t ≡ u
  sent_here head [] stamp t c k d g new did i o = absurd new
  sent_here head (l ∷ past) stamp t c k d g new did i o = by l.entry did o
    where
      at : At
      at = turn stamp (Target t)

      -- it names its own turn
      named : (f : Deed) → f ≡ d → f.reply.at ≡ at → t ≡ u
      named f same q =
          let n : d.reply.at.node ≡ Target t = ap (λ (v : Deed). v.reply.at.node) (sym same) ∙ ap (λ (v : At). v.node) q in
          ⊎_elim (λ (e : d.reply.at.node ≡ Target u). target_is t u (sym n ∙ e))
          (λ (r : IsReported d). absurd (let e : Client r.client ≡ Target t = sym r.node ∙ n in cc))
          (story_turn head (l ∷ past) u d g i)

      asked : (f : Option Deed) (lock : Lock) → f ≡ Some d → OwesAsked (l.at ≡ at) at lock f (Send (Client c) (message.Reply k)) → t ≡ u
      asked None lock q o = absurd (cc)
      asked (Some f) lock q o = named f (some_is f d q) o.1

      by : (e : Entry) → Did (line l.at e ∷ past) d → Owes (line l.at e ∷ past) at (Send (Client c) (message.Reply k)) → t ≡ u
      by (Act f) q o = named f q o.1
      by (Made f) q o = named f q o.1
      by (Wait lock f) q o = named f q o.1
      by (Responds f) q o = target_is t u (sym (ap (λ (v : At). v.node) o.0) ∙ new)
      by (Grant lock f) q o = asked f lock q o
      by _ q o = absurd q

  sends_reply : (head : Head) (past : List Line) (stamp : Stamp) (t c : ℕ) (k : ReplyTo)
      → Allowed head past (turn stamp (Target t)) (Send (Client c) (message.Reply k)) → Grown head past → (d : Deed)
      → IsAnswered past d → Acted (only u past) d → Counts head.osts (only u past) d
      → IsLast (line (turn stamp (Target t)) (Send (Client c) (message.Reply k)) ∷ past) d
  sends_reply head past stamp t c k a g d h i n = ⊎_elim
      (λ (did : NewestOf u past × Did past d).
      let pays = owed past (turn stamp (Target t)) d (Send (Client c) (message.Reply k)) did.1 a.owes in
      let mine : (same_life k.who d.reply.who && nat_eq k.xid.0 d.reply.xid.0) ≡ true =
      subst (λ (v : ReplyTo). (same_life k.who v.who && nat_eq k.xid.0 v.xid.0) ≡ true) pays (its_own k) in
      let there = sent_here head past stamp t c k d g did.0 did.1 i a.owes in
      replied_now past d k (nat_eq t u && (same_life k.who d.reply.who && nat_eq k.xid.0 d.reply.xid.0))
      (both (subst (λ (v : ℕ). nat_eq t v ≡ true) there (self t)) mine) pays)
      (λ (last : IsLast past d). replied past d k (nat_eq t u && (same_life k.who d.reply.who && nat_eq k.xid.0 d.reply.xid.0))
      (λ e. let p = and_parts (nat_eq t u) (same_life k.who d.reply.who && nat_eq k.xid.0 d.reply.xid.0) e
      in same_deed head past t c k d g (a.of u (flip u t ∙ p.0)) i n p.1) last)
      h
    where
      its_own : (k : ReplyTo) → (same_life k.who k.who && nat_eq k.xid.0 k.xid.0) ≡ true
      its_own k = rw (life_self k.who, self k.xid.0) refl

  -- a client sends no reply
  client_none : (who : Who) (x c : ℕ) (m : Message) → as_reply u who x (Client c) m ≡ None
  client_none who x c (message.Reply r) = refl
  client_none who x c m = refl

  -- what was done before a line is answered after it
  keeps_old : (head : Head) (past : List Line) (stamp : Stamp) (node : Node) (e : Entry) → Allowed head past (turn stamp node) e
      → Grown head past → (d : Deed) → IsAnswered past d → Counts head.osts (only u past) d → Acted (only u past) d
      → IsAnswered (line (turn stamp node) e ∷ past) d
  keeps_old head past stamp (Target t) (Send (Client c) (message.Reply k)) a g d h n i = inr (sends_reply head past stamp t c k a g d h i n)
  keeps_old head past stamp (Target t) (Send (Client c) (message.Block who boot cookie)) a g d h n i =
      ⊎_elim (λ did. absurd (owed past (turn stamp (Target t)) d (Send (Client c) (message.Block who boot cookie)) did.1 a.owes))
      (λ (last : IsLast past d). inr last) h
  keeps_old head past stamp (Target t) (Send (Client c) (message.Grant notice)) a g d h n i =
      ⊎_elim (λ did. absurd (owed past (turn stamp (Target t)) d (Send (Client c) (message.Grant notice)) did.1 a.owes))
      (λ (last : IsLast past d). inr last) h
  keeps_old head past stamp (Target t) (Send (Client c) (message.Ask who boot cookie for_who xid)) a g d h n i =
      ⊎_elim (λ did. absurd (owed past (turn stamp (Target t)) d (Send (Client c) (message.Ask who boot cookie for_who xid)) did.1 a.owes))
      (λ (last : IsLast past d). inr last) h
  keeps_old head past stamp (Target t) (Send (Client c) (message.Ready who boot number)) a g d h n i =
      ⊎_elim (λ did. absurd (owed past (turn stamp (Target t)) d (Send (Client c) (message.Ready who boot number)) did.1 a.owes))
      (λ (last : IsLast past d). inr last) h
  keeps_old head past stamp (Target t) (Send (Client c) (message.Evicted who boot)) a g d h n i =
      ⊎_elim (λ did. absurd (owed past (turn stamp (Target t)) d (Send (Client c) (message.Evicted who boot)) did.1 a.owes))
      (λ (last : IsLast past d). inr last) h
  keeps_old head past stamp (Target t) (Send (Client c) (message.Up boot)) a g d h n i =
      ⊎_elim (λ did. absurd (owed past (turn stamp (Target t)) d (Send (Client c) (message.Up boot)) did.1 a.owes))
      (λ (last : IsLast past d). inr last) h
  keeps_old head past stamp (Target t) (Send to m) a g d h n i = absurd a.ok
  keeps_old head past stamp (Client c) (Send (Client b) m) a g d h n i = absurd a.ok
  keeps_old head past stamp (Client c) (Send (Target t) m) a g d h n i =
      ⊎_elim (λ did. absurd (owed past (turn stamp (Client c)) d (Send (Target t) m) did.1 a.owes))
      (λ (last : IsLast past d). inr (
        last.0,
        ap (λ (o : Option ReplyTo). or_else o (last_reply u d.reply.who d.reply.xid.0 (printed past)))
            (client_none d.reply.who d.reply.xid.0 c m) ∙ last.1,
        last.2,
      )) h
  keeps_old head past stamp (Client c) (Grant lock asked) a g d h n i = absurd a.ok
  keeps_old head past stamp (Target t) (Grant lock (Some f)) a g d h n i =
      ⊎_elim (λ did. inl (of did.1 a.ok)) (λ (last : IsLast past d). inr last) h
    where
      new : List Line
      new = line (turn stamp (Target t)) (Grant lock (Some f)) ∷ past

      of : Did past d → EntryOk past (turn stamp (Target t)) (Target t) (Grant lock (Some f)) → NewestOf u new × Did new d
      of did (inl ok) =
          let same : f ≡ d = did_one past f d ok.1 did in
          let first : u ≡ 0 = locks_first head past u d lock g i (subst (λ (v : Deed). In lock v.reply.locks) same ok.2) in
          (ap Target (ok.0 ∙ sym first), ap (λ (v : Deed). Some v) same)
      of did (inr ok) = absurd (entered_not_did past (turn stamp (Target t)) f d ok.1 did)
  keeps_old head past stamp node e a g d h n i = ⊎_elim (λ did. absurd (owed past (turn stamp node) d e did.1 a.owes))
      (λ (last : IsLast past d). inr last) h

  -- what was done and counts was answered, but for what was just done
  pub all_answered : (head : Head) (past : List Line) → Grown head past → (d : Deed) → Acted (only u past) d
      → Counts head.osts (only u past) d → IsAnswered past d
  all_answered head [] g d i n = absurd i
  all_answered head (l ∷ past) g d i n =
      cond_both (concerns u l.at.node l.entry) (l ∷ only u past) (only u past) (λ (q : List Line). Acted q d → IsAnswered (l ∷ past) d)
      (λ own b. ⊎_elim (λ (p : DoneBy l.entry d). inl (
        done_target head past l.at.stamp u l.at.node l.entry d g.0 own p,
        done_did l.at l.entry past d p,
      )) (after (λ c m. all_answered head past g.1 d c m)) (acted_line l.at l.entry (only u past) d b))
      (λ own b. after (λ c m. all_answered head past g.1 d c m) b)
      i
    where
      after : ((b : Acted (only u past) d) → Counts head.osts (only u past) d → IsAnswered past d) → Acted (only u past) d
          → IsAnswered (l ∷ past) d
      after before b = let m = counts_before head l past d g b n
          in keeps_old head past l.at.stamp l.at.node l.entry g.0 g.1 d (before b m) m b

  -- ---- the condition

  -- the request was taken again
  answers_again : (head : Head) (past : List Line) (at : At) (t c : ℕ) (k : ReplyTo) → Grown head past → ReplyOk head (only u past) t c k
      → RepliesAgain past at u k → RepeatedAt (printed past) at u k
  answers_again head past at t c k g reply ok =
      let q = ok.request in
      let h = ((holds head past g).at u).done in
      let slot = h.slots q.who q.tag ok.kept ok.slot in
      let who : q.who ≡ k.who = sym slot.0 ∙ sym (ap (λ (v : ReplyTo). v.who) ok.is) in
      let xid : q.xid.0 ≡ k.xid.0 = sym ok.same ∙ sym slot.1 ∙ sym (ap (λ (v : ReplyTo). v.xid.0) ok.is) in
      let took = takes_it head past at ok.took.0 (message.Request q) g ok.took.1 in
      let its : (same_life q.who k.who && nat_eq q.xid.0 k.xid.0) ≡ true =
      subst (λ (v : Who). (same_life q.who v && nat_eq q.xid.0 k.xid.0) ≡ true) who
      (subst (λ (v : ℕ). (same_life q.who q.who && nat_eq q.xid.0 v) ≡ true) xid own) in
      let d = replied_acted head u past g t c k reply in
      let dwho : d.0.reply.who ≡ k.who = ap (λ (v : ReplyTo). v.who) d.2 ∙ sym (ap (λ (v : ReplyTo). v.who) reply.is) in
      let dxid : d.0.reply.xid.0 ≡ k.xid.0 = ap (λ (v : ReplyTo). v.xid.0) d.2 ∙ sym (ap (λ (v : ReplyTo). v.xid.0) reply.is) in
      record {
        asked = subst (λ (v : List Sending). list_any (λ s. asks k.who k.xid.0 s.message) v ≡ true) (sym took.1)
            (either_left (list_any (λ s. asks k.who k.xid.0 s.message) took.0) its);
        same = ⊎_elim
            (λ (did : NewestOf u past × Did past d.0). absurd (took_not_did past at ok.took.0 (message.Request q) d.0 ok.took.1 did.1))
            (λ (last : IsLast past d.0).
            let is : last_reply u k.who k.xid.0 (printed past) ≡ Some last.0 =
            subst (λ (v : Who). last_reply u v k.xid.0 (printed past) ≡ Some last.0) dwho
            (subst (λ (v : ℕ). last_reply u d.0.reply.who v (printed past) ≡ Some last.0) dxid last.1) in
            subst (λ (o : Option ReplyTo). Repeats k o) (sym is)
            (record {
              number = ap (λ (v : ReplyTo). v.txn) reply.is ∙ ap (λ (v : ReplyTo). v.txn) (sym d.2) ∙ last.2.number;
              seen = ap (λ (v : ReplyTo). v.seen) reply.is ∙ ap (λ (v : ReplyTo). v.seen) (sym d.2) ∙ last.2.seen;
              turn = ap (λ (v : ReplyTo). v.at) reply.is ∙ ap (λ (v : ReplyTo). v.at) (sym d.2) ∙ last.2.turn;
              locks = ap (λ (v : ReplyTo). v.locks) reply.is ∙ ap (λ (v : ReplyTo). v.locks) (sym d.2) ∙ last.2.locks;
              answer = ap (λ (v : ReplyTo). v.answer) reply.is ∙ ap (λ (v : ReplyTo). v.answer) (sym d.2) ∙ last.2.answer;
            }))
            (all_answered head past g d.0 d.1 d.3);
      }
    where
      own : (same_life ok.request.who ok.request.who && nat_eq ok.request.xid.0 ok.request.xid.0) ≡ true
      own = rw (life_self ok.request.who, self ok.request.xid.0) refl

-- ---- a reply to what was just done is executed in its turn

executed_now : (past : List Line) (at : At) (k : ReplyTo) → k.at ≡ at → is_executed (printed past) at k ≡ true
executed_now past at k e = either_left (is_size_for k.who k.xid.0 (taken (printed past) at))
    (subst (λ (v : At). same_turn k.at v ≡ true) e (same_turn_self k.at))

took_now : (past : List Line) (at : At) (from : Node) (m : Message) → TookNow past at from m → Took past at from m
took_now [] at from m t = absurd t
took_now (l ∷ past) at from m t = by l.entry t
  where
    by : (e : Entry) → TookNow (line l.at e ∷ past) at from m → Took (line l.at e ∷ past) at from m
    by (Take n sender k) t = inl t
    by _ t = absurd t

-- the turn took what the holder said, on behalf of that request
abbrev TookSize : List Line → At → Who → Xid → Type 0
TookSize past at who xid = (from : ℕ) × (m : SizeReport) × Took past at (Client from) (message.Size m) × (m.for_who ≡ who) × (m.xid ≡ xid)

ended_took : (osts t : ℕ) (past : List Line) (at : At) (r : RequestOf) (m : SizeReport)
    → EndedBy (λ before g. (g.request ≡ r) × TookReport osts before at t g m) past at → TookSize past at r.who r.xid
ended_took osts t [] at r m e = absurd e
ended_took osts t (l ∷ past) at r m e = by l.entry e
  where
    by : (x : Entry) → EndedBy (λ before g. (g.request ≡ r) × TookReport osts before at t g m) (line l.at x ∷ past) at
        → TookSize (line l.at x ∷ past) at r.who r.xid
    by (Ends g) q =
        let k = q.1.1 in (
          k.from,
          m,
          took_now past at (Client k.from) (message.Size m) k.took,
          k.on.1 ∙ ap (λ (v : RequestOf). v.who) q.1.0,
          k.on.2
              ∙ ap (λ (v : RequestOf). v.xid) q.1.0,
        )
    by _ q = absurd q

-- a size that a holder said is passed on in the turn that took it
reported_now : (head : Head) (past : List Line) (at : At) (t : ℕ) (d : Deed) → Grown head past → ReportedOk head.osts (only t past) at t d
    → is_size_for d.reply.who d.reply.xid.0 (taken (printed past) at) ≡ true
reported_now head past at t d g ok =
    let q = ended_took head.osts t (only t past) at ok.request ok.report ok.ended in
    let i = took_taken head past at (Client q.0) (message.Size q.1) g (took_whole t past at (Client q.0) (message.Size q.1) q.2) in
    let who : q.1.for_who ≡ d.reply.who = q.3 ∙ sym (ap (λ (x : Deed). x.reply.who) ok.is) in
    let xid : q.1.xid ≡ d.reply.xid = q.4 ∙ sym (ap (λ (x : Deed). x.reply.xid) ok.is) in
    any_passes (λ (s : Sending). answers_size d.reply.who d.reply.xid.0 s.message)
    (record { from = Client q.0; to = at.node; message = message.Size q.1 }) (taken (printed past) at) i
    (both (subst (λ (w : Who). same_life q.1.for_who w ≡ true) who (life_self q.1.for_who))
    (subst (λ (x : Xid). nat_eq q.1.xid.0 x.0 ≡ true) xid (self q.1.xid.0)))

did_executed : (head : Head) (past : List Line) (at : At) (c : ℕ) (k : ReplyTo) (d : Deed) → Grown head past → Did past d
    → Owes past at (Send (Client c) (message.Reply k)) → is_executed (printed past) at k ≡ true
did_executed head [] at c k d g i o = absurd i
did_executed head (l ∷ past) at c k d g i o = by l.at.node l.entry g.0 i o
  where
    asked : (node : Node) (f : Option Deed) (lock : Lock) → f ≡ Some d
        → OwesAsked (turn l.at.stamp node ≡ at) at lock f (Send (Client c) (message.Reply k))
        → is_executed (printed (line (turn l.at.stamp node) (Grant lock f) ∷ past)) at k ≡ true
    asked node None lock q o = absurd (cc)
    asked node (Some f) lock q o = executed_now (line (turn l.at.stamp node) (Grant lock (Some f)) ∷ past) at k
        (ap (λ (v : ReplyTo). v.at) o.0 ∙ o.1)

    by : (node : Node) (e : Entry) → Allowed head past (turn l.at.stamp node) e → Did (line (turn l.at.stamp node) e ∷ past) d
        → Owes (line (turn l.at.stamp node) e ∷ past) at (Send (Client c) (message.Reply k))
        → is_executed (printed (line (turn l.at.stamp node) e ∷ past)) at k ≡ true
    by node (Act f) a q o = executed_now (line (turn l.at.stamp node) (Act f) ∷ past) at k (ap (λ (v : ReplyTo). v.at) o.0 ∙ o.1)
    by node (Made f) a q o = executed_now (line (turn l.at.stamp node) (Made f) ∷ past) at k (ap (λ (v : ReplyTo). v.at) o.0 ∙ o.1)
    by node (Wait lock f) a q o = executed_now (line (turn l.at.stamp node) (Wait lock f) ∷ past) at k
        (ap (λ (v : ReplyTo). v.at) o.0 ∙ o.1)
    by node (Grant lock f) a q o = asked node f lock q o
    by (Client b) (Responds f) a q o = absurd a.ok
    by (Target t) (Responds f) a q o =
        let r = responded head.osts (only t past) (turn l.at.stamp (Target t)) t f (a.of t (self t)).1 in
        ⊎_elim
        (λ (w : r.when ≡ turn l.at.stamp (Target t)). executed_now (line (turn l.at.stamp (Target t)) (Responds f) ∷ past) at k
        (ap (λ (v : ReplyTo). v.at) o.1 ∙ ap (λ (v : Deed). v.reply.at) r.is ∙ w ∙ o.0))
        (λ (w : ReportedOk head.osts (only t past) (turn l.at.stamp (Target t)) t f).
        subst (λ (v : ReplyTo). is_executed (printed past) at v ≡ true) (sym o.1)
        (subst (λ (v : At). is_executed (printed past) v f.reply ≡ true) o.0
        (either_right (same_turn f.reply.at (turn l.at.stamp (Target t)))
        (reported_now head past (turn l.at.stamp (Target t)) t f g.1 w))))
        r.turn
    by node e a q o = absurd q

reply_again : (head : Head) (past : List Line) (stamp : Stamp) (t c : ℕ) (k : ReplyTo)
    → Allowed head past (turn stamp (Target t)) (Send (Client c) (message.Reply k)) → Grown head past
    → RepeatedBy (printed past) (turn stamp (Target t)) (Target t) (message.Reply k)
reply_again head past stamp t c k a g =
    let at = turn stamp (Target t) in
    λ not_executed. ⊎_elim
    (λ (f : (d : Deed) × Did past d × (d.reply ≡ a.ok.0.kept)). absurd (let e = did_executed head past at c k f.0 g f.1 a.owes in cc))
    (λ (taken : Taken past).
    answers_again t head past at t c k g (a.of t (self t)) (a.ok.1 taken))
    a.ok.0.now

repeated_at : (head : Head) (past : List Line) (l : Line) (later : List PrintedLine) → Allowed head past l.at l.entry → Grown head past
    → Keeps Repeated past l later
repeated_at head past l later a g = by l.at.node l.entry a
  where
    by : (node : Node) (e : Entry) → Allowed head past (turn l.at.stamp node) e → Says Repeated past (turn l.at.stamp node) later e
    by (Target t) (Send (Client c) (message.Reply k)) a = reply_again head past l.at.stamp t c k a g
    by (Target t) (Send (Client c) (message.Block who boot cookie)) a = tt
    by (Target t) (Send (Client c) (message.Grant notice)) a = tt
    by (Target t) (Send (Client c) (message.Ask who boot cookie for_who xid)) a = tt
    by (Target t) (Send (Client c) (message.Ready who boot number)) a = tt
    by (Target t) (Send (Client c) (message.Evicted who boot)) a = tt
    by (Target t) (Send (Client c) (message.Up boot)) a = tt
    by (Target t) (Send to m) a = absurd a.ok
    by (Client c) (Send to m) a = tt
    by _ _ a = tt

pub repeated : (head : Head) (past : List Line) → Grown head past → Holds Repeated (printed past)
repeated head past g = holds_before head Repeated (λ past. Unit {0}) (λ l past k. k)
    (λ past l later a g k. repeated_at head past l later a g) past [] g tt
