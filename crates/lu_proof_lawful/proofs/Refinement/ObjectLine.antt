-- The object and what was sent of it are what the story says, after each line.
use Rattle.std.proofs.Common.{◌≡◌, ℕ, ◌+◌, ◌≤◌, Bool, true, false, List, [], ◌∷◌, Option, Some, None, ◌⊎◌, inl, inr, ⊎_elim, refl, sym}
use Rattle.std.proofs.Common.{subst, ap, ◌∙◌, arith}
use Rattle.std.specs.Prelude.{nat_eq, nat_le, if◌then◌else◌, option_map, ◌-◌, ◌^◌, length}
use Rattle.std.proofs.lemmas.Bool.{eqb-true, and_parts, leb-true, cond_both}
use Rattle.lu_base.specs.declared.ids.At.{At}
use Rattle.lu_base.specs.declared.ids.Cookie.{Cookie}
use Rattle.lu_base.specs.declared.ids.Node.{Node}
use Rattle.lu_base.specs.declared.ids.Node.TheVariants.{Client, Target}
use Rattle.lu_base.specs.declared.ids.Stamp.{Stamp}
use Rattle.lu_base.specs.declared.ids.Who.{Who}
use Rattle.lu_base.specs.declared.locks.Extent.{Extent}
use Rattle.lu_base.specs.declared.locks.Lock.{Lock as TableLock}
use Rattle.lu_base.specs.declared.locks.Resource.{Resource}
use Rattle.lu_held.specs.Locks.{same_resource}
use Rattle.lu_lock.specs.Growth.{the_end}
use Rattle.lu_trace.specs.WellFormed.{IsCall}
use Rattle.lu_msg.specs.declared.messages.GrantNotice.{GrantNotice}
use Rattle.lu_msg.specs.declared.messages.Message.{Message}
use Rattle.lu_msg.specs.declared.messages.Message.TheVariants as message
use Rattle.lu_msg.specs.declared.messages.Reply.{Reply as ReplyTo}
use Rattle.lu_msg.specs.declared.messages.Request.{Request as RequestOf}
use Rattle.lu_msg.specs.declared.operations.Op.{Op}
use Rattle.lu_msg.specs.declared.operations.Op.TheVariants as op
use Rattle.lu_spec_entries.specs.declared.changes.Flush.{Flush}
use Rattle.lu_spec_entries.specs.declared.changes.Flush.TheVariants as flush
use Rattle.lu_spec_entries.specs.Carried.{Deed, Outcome, Kind, Writes, Cuts}
use Rattle.lu_spec_entries.specs.Words as word
use Rattle.lu_spec_entries.specs.Words.{Line, line}
use Rattle.lu_spec_entries.specs.Concerns.{concerns, only}
use Rattle.lu_spec_target.specs.Queues.{extent_of}
use Rattle.lu_spec_client.specs.Calls.{life_at}
use Rattle.lu_spec_client.specs.Stripes.{below_on}
use Rattle.lu_proof_lawful.specs.Covered.Heads.{Head}
use Rattle.lu_proof_lawful.specs.Covered.TargetStates.{server_of}
use Rattle.lu_proof_lawful.proofs.Preconditions.Acts.{kind_ranges}
use Rattle.lu_proof_lawful.proofs.Preconditions.CallGuards.{ChangesOk, ChangesOn, piece_on}
use Rattle.lu_proof_lawful.proofs.Preconditions.Calls.{limited}
use Rattle.lu_proof_lawful.proofs.Preconditions.ClientLines.{some_is}
use Rattle.lu_proof_lawful.proofs.Preconditions.ClientLooks.{below_low}
use Rattle.lu_proof_lawful.proofs.Preconditions.Guards.{In, Was, HasRange}
use Rattle.lu_proof_lawful.proofs.Preconditions.StoryGuards.{SendOf, EntryOf, CancelOk, WritesUnder, WriteOk, TxnsOk}
use Rattle.lu_proof_lawful.proofs.Preconditions.Lists.{self, turn}
use Rattle.lu_proof_lawful.proofs.Preconditions.LockKinds.{granted_kind}
use Rattle.lu_proof_lawful.proofs.Preconditions.Grown.{Grown, ShowsNext}
use Rattle.lu_proof_lawful.proofs.Invariants.Groups.{HoldsAt}
use Rattle.lu_proof_lawful.proofs.Invariants.Lines.{acted_more}
use Rattle.lu_proof_bytes.specs.Object.Words as words
use Rattle.lu_proof_bytes.specs.Object.Words.{Lock, Write, Cut, Flush as FlushOf, Did, Request, Entry, Flies, Tells, Txn, Commit, Close}
use Rattle.lu_proof_bytes.specs.Object.Words.{Reply, Give, Block, Cancel, within}
use Rattle.lu_proof_bytes.specs.Object.Folds as says
use Rattle.lu_proof_bytes.specs.Object.Folds.{op_changes}
use Rattle.lu_proof_bytes.specs.Object.Guards.{Allowed}
use Rattle.lu_proof_bytes.specs.Object.History.{ToldCut, OriginOf}
use Rattle.lu_proof_bytes.proofs.Object.Origins.{allowed_puts}
use Rattle.lu_proof_objects.specs.Points.{change_of}
use Rattle.lu_proof_lawful.specs.Projection.Lives.{number_of}
use Rattle.lu_proof_lawful.specs.Projection.Locks.{given}
use Rattle.lu_proof_lawful.specs.Projection.Requests.{op_of, asked_as, among, answer_of}
use Rattle.lu_proof_lawful.specs.Projection.Stories.{with_entry, step, story}
use Rattle.lu_proof_lawful.proofs.Refinement.Written.{starts_at}
use Rattle.lu_proof_lawful.proofs.Refinement.TiedAsked.{IsOn}
use Rattle.lu_proof_lawful.proofs.Refinement.TiedObject.{AskedOn, ObjectBy, ObjectTied}
use Rattle.lu_proof_lawful.proofs.Refinement.TiedTarget.{TargetTied}
use Rattle.lu_proof_lawful.proofs.Refinement.TargetDeeds.{asked_by}
use Rattle.lu_proof_lawful.proofs.Refinement.TargetActs.{served_some}
use Rattle.lu_proof_lawful.proofs.Refinement.TargetLines.{other_only, given_by, own_only, own_story}
use Rattle.lu_proof_lawful.proofs.Refinement.TargetLine.{target_line}
use Rattle.lu_proof_lawful.proofs.Refinement.LineCases.{IsOther, by_line}
use Rattle.lu_proof_lawful.proofs.Refinement.ObjectLines.{BytesBy, Plain, plain_same, plain_one, IsPlain, bytes_quiet, bytes_own}
use Rattle.lu_proof_lawful.proofs.Refinement.ObjectLines.{bytes_made, bytes_commit}
use Rattle.lu_proof_lawful.proofs.Refinement.ObjectClose.{bytes_close}
use Rattle.lu_proof_lawful.proofs.Refinement.ObjectMail.{asks_old, cancels_old, gives_old, blocks_old, asks_new, cancels_new, told_was}
use Rattle.lu_proof_lawful.proofs.Refinement.ObjectMail.{told_given, was_cases}
use Rattle.lu_proof_lawful.proofs.Refinement.ObjectDone.{full_line, backs_line}
use Rattle.lu_proof_lawful.proofs.Refinement.ObjectAsked.{grown_not, flew_line, replies_old, replies_new}
use Rattle.lu_proof_lawful.proofs.Refinement.AllowedBase.{within_from, ranged_extent}
use Rattle.lu_proof_lawful.proofs.Refinement.AllowedLocks.{on_resource, committed_now}
use Rattle.lu_proof_lawful.proofs.Refinement.AllowedBytes.{under_there}
use Rattle.lu_proof_lawful.proofs.Refinement.AllowedTarget.{other_story}
use Rattle.lu_proof_lawful.proofs.Refinement.Tied.{Here, Grows}

-- ---- cuts

-- no call cuts an object past the greatest offset
told_low : (head : Head) (past : List Line) (at : At) (c : ℕ) (q : Resource) (size : ℕ) → Grown head past
    → ChangesOk past at c q (flush.Cut size) → size ≤ the_end
told_low head past at c q size g ok = by ok.does ok.is
  where
    by : ChangesOn ok.running ok.work → piece_on ok.work.layout ok.work.kind ok.next.want.resource.stripe ≡ Some (flush.Cut size)
        → size ≤ the_end
    by (inl w) e =
        let z : piece_on ok.work.layout (Writes _ _) ok.next.want.resource.stripe ≡ Some (flush.Cut size) =
        ap (λ (k : Kind). piece_on ok.work.layout k ok.next.want.resource.stripe) (sym w.kind) ∙ e in
        absurd (cc)
    by (inr k) e =
        let z : piece_on ok.work.layout (Cuts k.size) ok.next.want.resource.stripe ≡ Some (flush.Cut size) =
        ap (λ (x : Kind). piece_on ok.work.layout x ok.next.want.resource.stripe) (sym k.kind) ∙ e in
        let low = below_low ok.work.layout ok.next.want.resource.stripe k.size in
        let is : below_on ok.work.layout ok.next.want.resource.stripe k.size ≡ size = cc in
        let most : k.size ≤ 2 ^ 40 = (subst IsCall k.cuts (limited head past g c ok.slot ok.running ok.call)).1 in
        omega (arith, low, is, most)

told_more : (e : Entry) (h : List Entry) (c n : ℕ) → ToldCut h c n → ToldCut (e ∷ h) c n
told_more (Tells d (Did j (Cut m))) h c n t = inr t
told_more e h c n t = t

-- a cut that is written back was told
origin_told : (h : List Entry) (q : Request) (n : ℕ) → OriginOf h q (Cut n) → ToldCut h q.life n
origin_told [] q n o = absurd o
origin_told (Flies f ∷ h) q n (inl o) = o.2
origin_told (Flies f ∷ h) q n (inr o) = origin_told h q n o
origin_told (e ∷ h) q n o = told_more e h q.life n (origin_told h q n o)

other_told : (e : Entry) (h : List Entry) (c n : ℕ) → IsOther e → ToldCut (e ∷ h) c n → ToldCut h c n
other_told (Tells d call) h c n o t = absurd o
other_told e h c n o t = t

other_plain : (e : Entry) → IsOther e → IsPlain e
other_plain (Txn n q) o = o
other_plain (Close b lost gone) o = o
other_plain e o = tt

other_is_plain : (e : Entry) (h : List Entry) → IsOther e → Plain h (e ∷ h)
other_is_plain e h o = plain_one e h (other_plain e o)

-- ---- a client's line

-- it changes no bytes of the target
client_plain : (t : ℕ) (r : Resource) (c : ℕ) (e : word.Entry) (past : List Line)
    → Plain (story t r past) (step t r (Client c) past e (story t r past))
client_plain t r c e past =
    by_line (λ (y : List Entry). Plain (story t r past) y) t r past (story t r past) (Client c) e
    (record {
      same = plain_same (story t r past);
      other = λ x o. other_is_plain x (story t r past) o;
      flies = λ d f o here is live. plain_one _ (story t r past) tt;
      heard = λ d f p o here is live. plain_one _ (story t r past) tt;
      hold = λ d lock marked size seen here is live on. plain_one _ (story t r past) tt;
      tells = λ d change j here is live. plain_one _ (story t r past) tt;
      txn = λ d o here is. absurd (cc);
      commit = λ to batch here is. absurd (cc);
      close = λ o here is. absurd (cc);
    })

bytes_of : (head : Head) (r : Resource) (past : List Line) (h : List Entry) → ObjectBy head r past h → BytesBy head r past h
bytes_of head r past h o = record { objects = o.objects; now = o.now; changed = o.changed }

bytes_client : (head : Head) (t : ℕ) (r : Resource) (stamp : Stamp) (c : ℕ) (e : word.Entry) (past : List Line)
    → Here head t r (line (turn stamp (Client c)) e) past
    → BytesBy head r (only t (line (turn stamp (Client c)) e ∷ past)) (story t r (line (turn stamp (Client c)) e ∷ past))
bytes_client head t r stamp c e past here =
    let b = bytes_of head r (only t past) (story t r past) here.tied.object in
    let new = story t r (line (turn stamp (Client c)) e ∷ past) in
    cond_both (concerns t (Client c) e) (line (turn stamp (Client c)) e ∷ only t past) (only t past)
    (λ (p : List Line). BytesBy head r p new)
    (λ on. bytes_quiet head r (only t past) stamp t (line (turn stamp (Client c)) e ∷ only t past) (story t r past) new b
    (client_plain t r c e past) refl refl refl refl
    (λ d a. acted_more (turn stamp (Client c)) e (only t past) d a) (λ m. refl))
    (λ off. bytes_quiet head r (only t past) stamp t (only t past) (story t r past) new b (client_plain t r c e past) refl refl refl refl
    (λ d a. a) (λ m. refl))

-- ---- the target's own line

module _ (head : Head) (t : ℕ) (r : Resource) (stamp : Stamp) (past : List Line) where
  abbrev at : At
  at = turn stamp (Target t)

  -- what is written starts within an object
  writes_low : (d : Deed) (here : Here head t r (line (turn stamp (Target t)) (word.Txn d)) past) → WriteOk head.osts (only t past) at d
      → Grows (story t r past) (story t r (line (turn stamp (Target t)) (word.Txn d) ∷ past))
      → (o : words.Op) (p : ℕ) → op_of r (story t r past) d.op ≡ Some o → op_changes o p ≡ true → starts_at d.op ≤ the_end
  writes_low d here ok grows o p e c = by d.op e (under_is d.op refl)
    where
      all : HoldsAt head (only t past)
      all = here.stood.before.at t

      ranges : (l : TableLock) → In l (server_of head.osts (only t past)).granted → HasRange l.ask.policy
      ranges l i = kind_ranges t l here.some (granted_kind head t past here.stood.grown l i)

      who_is : d.reply.who ≡ ok.request.who
      who_is = ap (λ (x : Deed). x.reply.who) ok.is

      under_is : (x : Op) → d.op ≡ x → WritesUnder (server_of head.osts (only t past)) ok.request.who x ok.holder
      under_is x q = subst (λ (y : Op). WritesUnder (server_of head.osts (only t past)) ok.request.who y ok.holder)
          (sym (ap (λ (y : Deed). y.op) ok.is) ∙ q) ok.under

      allowed : Allowed (story t r past) (Txn d.reply.txn.0 (asked_by d o))
      allowed = of_grows grows
        where
          story_is : story t r (line (turn stamp (Target t)) (word.Txn d) ∷ past) ≡ Txn d.reply.txn.0 (asked_by d o) ∷ story t r past
          story_is = own_story t r stamp (word.Txn d) past ∙ served_some r d (story t r past) (Txn d.reply.txn.0) o e

          of_grows : Grows (story t r past) (story t r (line (turn stamp (Target t)) (word.Txn d) ∷ past))
              → Allowed (story t r past) (Txn d.reply.txn.0 (asked_by d o))
          of_grows (inl q) = absurd (grown_not (story t r past) (Txn d.reply.txn.0 (asked_by d o)) (sym q ∙ story_is))
          of_grows (inr g) = let same : g.0 ∷ story t r past ≡ Txn d.reply.txn.0 (asked_by d o) ∷ story t r past = sym g.1 ∙ story_is
              in let is : g.0 ≡ Txn d.reply.txn.0 (asked_by d o) = cc in subst (λ (x : Entry). Allowed (story t r past) x) is g.2

      by : (x : Op) → op_of r (story t r past) x ≡ Some o → WritesUnder (server_of head.osts (only t past)) ok.request.who x ok.holder
          → starts_at x ≤ the_end
      by (op.Put q cookie offset bytes) f u =
          let on = on_resource r (story t r past) q (op.Put q cookie offset bytes) o refl f in
          let g = under_there head r (only t past) (story t r past) stamp t all here.tied.target here.tied.object ranges ok.request.who
          cookie q ok.holder on u.found in
          let w = and_parts (nat_le (extent_of ok.holder).first offset) (nat_le (offset + length bytes - 1) (extent_of ok.holder).last)
          u.within in
          let last = leb-true (offset + length bytes - 1) (extent_of ok.holder).last w.1 in
          let low : (extent_of ok.holder).last ≤ the_end = subst (λ (x : Extent). x.last ≤ the_end) (sym (ranged_extent ok.holder g.range))
          g.range.low in
          let run = within_from offset bytes p (put_within (same_resource q r) f) in
          let first = run.0 in
          let more = run.1 in
          omega (arith, first, more, last, low)
        where
          put_within : (b : Bool) → (if b then Some (FlushOf cookie.0 (Write offset bytes)) else None) ≡ Some o → within offset bytes p
              ≡ true
          put_within true f = subst (λ (x : words.Op). op_changes x p ≡ true) (sym (some_is _ o f)) c
          put_within false f = absurd (cc)
      by (op.Cut q cookie size) f u =
          let is = cut_is (same_resource q r) f in
          let puts = (allowed_puts (Txn d.reply.txn.0 (asked_by d o) ∷ story t r past) (allowed, here.all)).0 cookie.0 (Cut size) (sym is)
          in
          let low = here.tied.object.cuts (number_of d.reply.who) size (origin_told (story t r past) (asked_by d o) size puts) in
          omega (arith, low)
        where
          cut_is : (b : Bool) → (if b then Some (FlushOf cookie.0 (Cut size)) else None) ≡ Some o → FlushOf cookie.0 (Cut size) ≡ o
          cut_is true f = some_is _ o f
          cut_is false f = absurd (cc)
      by _ f u = absurd u

  own_bytes : (e : word.Entry) → Here head t r (line (turn stamp (Target t)) e) past
      → Grows (story t r past) (story t r (line (turn stamp (Target t)) e ∷ past))
      → BytesBy head r (line (turn stamp (Target t)) e ∷ only t past) (with_entry (given_by r (story t r past) e) (story t r past))
  own_bytes (word.Txn d) here grows =
      let b = bytes_of head r (only t past) (story t r past) here.tied.object in
      let ok = write (here.stood.ok.of t (self t)) in
      bytes_made head r (only t past) stamp t (story t r past) d ok (here.stood.ok.shows t (self t)) (here.stood.before.at t)
      (writes_low d here ok grows) b
    where
      write : TxnsOk head.osts (only t past) at t d → WriteOk head.osts (only t past) at d
      write (inl k) = absurd (let zero = k.0 in let high = here.some in omega arith)
      write (inr k) = k.1
  own_bytes (word.Commit to batch) here grows =
      bytes_commit head r (only t past) stamp t (story t r past) to batch (here.stood.ok.of t (self t)) (here.stood.ok.shows t (self t))
      (here.stood.before.at t) (bytes_of head r (only t past) (story t r past) here.tied.object)
  own_bytes (word.Close o) here grows =
      let all = here.stood.before.at t in
      let ok = here.stood.ok.of t (self t) in
      let shows = here.stood.ok.shows t (self t) in
      let committed = committed_now head r (only t past) (story t r past) stamp t all here.tied.target here.tied.object
      (λ l i. kind_ranges t l here.some (granted_kind head t past here.stood.grown l i)) (word.Close o) shows (λ c. c) in
      subst (λ (x : Outcome). BytesBy head r (line (turn stamp (Target t)) (word.Close x) ∷ only t past)
      (with_entry (given_by r (story t r past) (word.Close x)) (story t r past))) (sym ok.is)
      (bytes_close head (only t past) stamp t ok.recovers ok.of_committed ok.of_lives all r (story t r past) committed
      (subst (λ (x : Outcome). ShowsNext head (only t past) at (word.Close x)) ok.is shows)
      (bytes_of head r (only t past) (story t r past) here.tied.object))
  own_bytes e here grows = bytes_own head r (only t past) stamp t (story t r past) e tt (here.stood.ok.of t (self t))
      (here.stood.ok.shows t (self t)) (here.stood.before.at t) (bytes_of head r (only t past) (story t r past) here.tied.object)

-- ---- any line

-- the line with its node and its turn taken apart
module _ (head : Head) (t : ℕ) (r : Resource) (stamp : Stamp) (e : word.Entry) (past : List Line) where
  other_bytes : (u : ℕ) → nat_eq t u ≡ false → Here head t r (line (turn stamp (Target u)) e) past
      → BytesBy head r (only t (line (turn stamp (Target u)) e ∷ past)) (story t r (line (turn stamp (Target u)) e ∷ past))
  other_bytes u off here =
      subst (λ (p : List Line). BytesBy head r p (story t r (line (turn stamp (Target u)) e ∷ past)))
      (sym (other_only t stamp u e past off))
      (subst (λ (k : List Entry). BytesBy head r (only t past) k) (sym (other_story t r stamp u e past off))
      (bytes_of head r (only t past) (story t r past) here.tied.object))

  target_bytes : Here head t r (line (turn stamp (Target t)) e) past
      → Grows (story t r past) (story t r (line (turn stamp (Target t)) e ∷ past))
      → BytesBy head r (only t (line (turn stamp (Target t)) e ∷ past)) (story t r (line (turn stamp (Target t)) e ∷ past))
  target_bytes here grows =
      subst (λ (p : List Line). BytesBy head r p (story t r (line (turn stamp (Target t)) e ∷ past))) (sym (own_only t stamp e past))
      (subst (λ (k : List Entry). BytesBy head r (line (turn stamp (Target t)) e ∷ only t past) k) (sym (own_story t r stamp e past))
      (own_bytes head t r stamp past e here grows))

  bytes_line : (node : Node) → Here head t r (line (turn stamp node) e) past
      → Grows (story t r past) (story t r (line (turn stamp node) e ∷ past))
      → BytesBy head r (only t (line (turn stamp node) e ∷ past)) (story t r (line (turn stamp node) e ∷ past))
  bytes_line (Client c) here grows = bytes_client head t r stamp c e past here
  bytes_line (Target u) here grows = by (nat_eq t u) refl
    where
      by : (b : Bool) → nat_eq t u ≡ b → BytesBy head r (only t (line (turn stamp (Target u)) e ∷ past))
          (story t r (line (turn stamp (Target u)) e ∷ past))
      by false off = other_bytes u off here
      by true on =
          subst (λ (v : ℕ). Here head t r (line (turn stamp (Target v)) e) past
          → Grows (story t r past) (story t r (line (turn stamp (Target v)) e ∷ past))
          → BytesBy head r (only t (line (turn stamp (Target v)) e ∷ past)) (story t r (line (turn stamp (Target v)) e ∷ past)))
          (eqb-true t u on)
          target_bytes here grows

  -- no cut is told past the greatest offset
  cuts_line : (node : Node) → Here head t r (line (turn stamp node) e) past → (c n : ℕ)
      → ToldCut (story t r (line (turn stamp node) e ∷ past)) c n → n ≤ the_end
  cuts_line node here =
      by_line (λ (y : List Entry). (c n : ℕ) → ToldCut y c n → n ≤ the_end) t r past (story t r past) node e
      (record {
        same = here.tied.object.cuts;
        other = λ x o c n told. here.tied.object.cuts c n (other_told x (story t r past) c n o told);
        flies = λ d f o at is live c n told. here.tied.object.cuts c n told;
        heard = λ d f p o at is live c n told. here.tied.object.cuts c n told;
        hold = λ d lock marked size seen at is live on c n told. here.tied.object.cuts c n told;
        tells = λ d change j at is live c n told. tells d change j at is c n told;
        txn = λ d o at is c n told. here.tied.object.cuts c n told;
        commit = λ to batch at is c n told. here.tied.object.cuts c n told;
        close = λ o at is c n told. here.tied.object.cuts c n told;
      })
    where
      tells : (d : ℕ) (change : Flush) (j : ℕ) → node ≡ Client d → e ≡ word.Changes r change → (c n : ℕ)
          → ToldCut (Tells (number_of (life_at d past)) (Did j (change_of change)) ∷ story t r past) c n → n ≤ the_end
      tells d (flush.Put at bytes) j node is c n told = here.tied.object.cuts c n told
      tells d (flush.Cut size) j node_is is c n (inr told) = here.tied.object.cuts c n told
      tells d (flush.Cut size) j node_is is c n (inl told) =
          let at_line = subst (λ (v : Node). Here head t r (line (turn stamp v) (word.Changes r (flush.Cut size))) past) node_is
          (subst (λ (x : word.Entry). Here head t r (line (turn stamp node) x) past) is here) in
          let low = told_low head past (turn stamp (Client d)) d r size here.stood.grown at_line.stood.ok.ok in
          let same = told.1 in
          omega (arith, low, same)

module _ (head : Head) (t : ℕ) (r : Resource) (l : Line) (past : List Line) (here : Here head t r l past)
    (grows : Grows (story t r past) (story t r (l ∷ past))) (now : TargetTied head t r (l ∷ past)) where
  -- why the newest line may send that
  sent_of : (from to : Node) (m : Message) → l.at.node ≡ from → l.entry ≡ word.Send to m → concerns t l.at.node l.entry ≡ true
      → SendOf head (only t past) from to m × (concerns t from (word.Send to m) ≡ true)
  sent_of from to m node is on = (
    subst (λ (v : Node). EntryOf head (only t past) l.at v (word.Send to m)) node
        (subst (λ (e : word.Entry). EntryOf head (only t past) l.at l.at.node e) is (here.stood.ok.of t on)),
    subst (λ (v : Node). concerns t v (word.Send to m) ≡ true) node (subst (λ (e : word.Entry). concerns t l.at.node e ≡ true) is on),
  )

  target_is : (c u : ℕ) (m : Message) → concerns t (Client c) (word.Send (Target u) m) ≡ true → word.Send (Target u) m
      ≡ word.Send (Target t) m
  target_is c u m on = ap (λ (v : ℕ). word.Send (Target v) m) (sym (eqb-true t u on))

  asks_line : (from to : Node) (q : RequestOf) → Was (only t (l ∷ past)) from to (message.Request q)
      → says.evicted (number_of q.who) (story t r (l ∷ past)) ≡ false → IsOn r q.op → AskedOn r (story t r (l ∷ past)) q
  asks_line from to q w e on = ⊎_elim
      (λ n. let s = sent_of from to (message.Request q) n.0 n.1 n.2 in by from to n.0 n.1 s.0 s.1)
      (λ (v : Was (only t past) from to (message.Request q)). asks_old head t r l past here grows now from to q v e on)
      (was_cases t l past from to (message.Request q) w)
    where
      by : (from to : Node) → l.at.node ≡ from → l.entry ≡ word.Send to (message.Request q)
          → SendOf head (only t past) from to (message.Request q) → concerns t from (word.Send to (message.Request q)) ≡ true
          → AskedOn r (story t r (l ∷ past)) q
      by (Client c) (Target u) node is ok there = asks_new head t r l past here grows now c q node
          (is ∙ target_is c u (message.Request q) there) ok e on
      by (Client c) (Client d) node is ok there = absurd ok
      by (Target u) (Client d) node is ok there = absurd ok
      by (Target u) (Target v) node is ok there = absurd ok

  cancels_line : (from to : Node) (who : Who) (boot : ℕ) (cookie : Cookie) (m : Lock)
      → Was (only t (l ∷ past)) from to (message.Cancel who boot cookie) → says.evicted (number_of who) (story t r (l ∷ past)) ≡ false
      → given cookie.0 (story t r (l ∷ past)) ≡ Some m → says.Was (story t r (l ∷ past)) (Cancel boot (number_of who) cookie.0)
  cancels_line from to who boot cookie m w e g = ⊎_elim
      (λ n. let s = sent_of from to (message.Cancel who boot cookie) n.0 n.1 n.2 in by from to n.0 n.1 s.0 s.1)
      (λ (v : Was (only t past) from to (message.Cancel who boot cookie)). cancels_old head t r l past here grows now from to who boot
      cookie m v e g)
      (was_cases t l past from to (message.Cancel who boot cookie) w)
    where
      by : (from to : Node) → l.at.node ≡ from → l.entry ≡ word.Send to (message.Cancel who boot cookie)
          → SendOf head (only t past) from to (message.Cancel who boot cookie)
          → concerns t from (word.Send to (message.Cancel who boot cookie)) ≡ true
          → says.Was (story t r (l ∷ past)) (Cancel boot (number_of who) cookie.0)
      by (Client c) (Target u) node is ok there =
          let same = eqb-true t u there in
          cancels_new head t r l past here grows now c who boot cookie m node (is ∙ target_is c u (message.Cancel who boot cookie) there)
          (subst (λ (v : ℕ). CancelOk (only t past) c v who boot cookie) (sym same) ok) e g
      by (Client c) (Client d) node is ok there = absurd ok
      by (Target u) (Client d) node is ok there = absurd ok
      by (Target u) (Target v) node is ok there = absurd ok

  own_node : (u : ℕ) (c : ℕ) (m : Message) → l.at.node ≡ Target u → concerns t (Target u) (word.Send (Client c) m) ≡ true → l.at.node
      ≡ Target t
  own_node u c m node on = node ∙ ap Target (sym (eqb-true t u on))

  replies_line : (from to : Node) (k : ReplyTo) (q : Request) → Was (only t (l ∷ past)) from to (message.Reply k)
      → asked_as (number_of k.who) k.xid.0 (story t r (l ∷ past)) ≡ Some q
      → says.Was (story t r (l ∷ past)) (Reply k.boot q.life q.xid (answer_of q k))
  replies_line from to k q w e = ⊎_elim
      (λ n. let s = sent_of from to (message.Reply k) n.0 n.1 n.2 in by from to n.0 n.1 s.0 s.1)
      (λ (v : Was (only t past) from to (message.Reply k)). replies_old head t r l past here grows now from to k q v e)
      (was_cases t l past from to (message.Reply k) w)
    where
      by : (from to : Node) → l.at.node ≡ from → l.entry ≡ word.Send to (message.Reply k)
          → SendOf head (only t past) from to (message.Reply k) → concerns t from (word.Send to (message.Reply k)) ≡ true
          → says.Was (story t r (l ∷ past)) (Reply k.boot q.life q.xid (answer_of q k))
      by (Target u) (Client c) node is ok there = replies_new head t r l past here grows now c k q
          (own_node u c (message.Reply k) node there) is e
      by (Target u) (Target v) node is ok there = absurd ok
      by (Client c) (Target u) node is ok there = absurd ok
      by (Client c) (Client d) node is ok there = absurd ok

  gives_line : (from to : Node) (g : GrantNotice) (m : Lock) → Was (only t (l ∷ past)) from to (message.Grant g)
      → given g.cookie.0 (story t r (l ∷ past)) ≡ Some m → says.Was (story t r (l ∷ past)) (Give g.boot m g.size (among g.seen))
  gives_line from to g m w e = ⊎_elim
      (λ n. let s = sent_of from to (message.Grant g) n.0 n.1 n.2 in by from to n.0 n.1 s.0 s.1)
      (λ (v : Was (only t past) from to (message.Grant g)). gives_old head t r l past here grows now from to g m v e)
      (was_cases t l past from to (message.Grant g) w)
    where
      by : (from to : Node) → l.at.node ≡ from → l.entry ≡ word.Send to (message.Grant g)
          → SendOf head (only t past) from to (message.Grant g) → concerns t from (word.Send to (message.Grant g)) ≡ true
          → says.Was (story t r (l ∷ past)) (Give g.boot m g.size (among g.seen))
      by (Target u) (Client c) node is ok there =
          let own = own_node u c (message.Grant g) node there in
          told_was head t r l past here grows now c (message.Grant g) own is (Give g.boot m g.size (among g.seen))
          (ap (λ (x : Option Lock). option_map (λ x. Give g.boot x g.size (among g.seen)) x)
          (sym (told_given head t r l past here grows now c (message.Grant g) own is g.cookie.0) ∙ e))
      by (Target u) (Target v) node is ok there = absurd ok
      by (Client c) (Target u) node is ok there = absurd ok
      by (Client c) (Client d) node is ok there = absurd ok

  blocks_line : (from to : Node) (who : Who) (boot : ℕ) (cookie : Cookie) (m : Lock)
      → Was (only t (l ∷ past)) from to (message.Block who boot cookie) → given cookie.0 (story t r (l ∷ past)) ≡ Some m
      → says.Was (story t r (l ∷ past)) (Block boot (number_of who) cookie.0)
  blocks_line from to who boot cookie m w e = ⊎_elim
      (λ n. let s = sent_of from to (message.Block who boot cookie) n.0 n.1 n.2 in by from to n.0 n.1 s.0 s.1)
      (λ (v : Was (only t past) from to (message.Block who boot cookie)). blocks_old head t r l past here grows now from to who boot cookie
      m v e)
      (was_cases t l past from to (message.Block who boot cookie) w)
    where
      by : (from to : Node) → l.at.node ≡ from → l.entry ≡ word.Send to (message.Block who boot cookie)
          → SendOf head (only t past) from to (message.Block who boot cookie)
          → concerns t from (word.Send to (message.Block who boot cookie)) ≡ true
          → says.Was (story t r (l ∷ past)) (Block boot (number_of who) cookie.0)
      by (Target u) (Client c) node is ok there =
          let own = own_node u c (message.Block who boot cookie) node there in
          told_was head t r l past here grows now c (message.Block who boot cookie) own is (Block boot (number_of who) cookie.0)
          (ap (λ (x : Option Lock). option_map (λ x. Block boot (number_of who) cookie.0) x)
          (sym (told_given head t r l past here grows now c (message.Block who boot cookie) own is cookie.0) ∙ e))
      by (Target u) (Target v) node is ok there = absurd ok
      by (Client c) (Target u) node is ok there = absurd ok
      by (Client c) (Client d) node is ok there = absurd ok

  whole : BytesBy head r (only t (l ∷ past)) (story t r (l ∷ past)) → ObjectTied head t r (l ∷ past)
  whole b =
      record {
        objects = b.objects;
        now = b.now;
        changed = b.changed;
        cuts = cuts_line head t r l.at.stamp l.entry past l.at.node here;
        full = full_line head t r l.at.stamp l.entry past l.at.node here;
        backs = backs_line head t r l.at.stamp l.entry past l.at.node here;
        flew = flew_line head t r l past here grows now;
        asks = asks_line;
        cancels = cancels_line;
        replies = replies_line;
        gives = gives_line;
        blocks = blocks_line;
      }

pub object_line : (head : Head) (t : ℕ) (r : Resource) (l : Line) (past : List Line) → Here head t r l past
    → Grows (story t r past) (story t r (l ∷ past)) → ObjectTied head t r (l ∷ past)
object_line head t r l past here grows = whole head t r l past here grows (target_line head t r l past here grows)
    (bytes_line head t r l.at.stamp l.entry past l.at.node here grows)

-- ---- before the first line

pub object_start : (head : Head) (t : ℕ) (r : Resource) → ObjectTied head t r []
object_start head t r =
    record {
      objects = λ lost spares p. refl;
      now = λ p. refl;
      changed = λ n p c. absurd c;
      cuts = λ c n told. absurd told;
      full = λ c b e. absurd (cc);
      backs = λ d a back. absurd a;
      flew = λ who x q e. absurd (cc);
      asks = λ from to q w e on. absurd w;
      cancels = λ from to who boot cookie m w e g. absurd w;
      replies = λ from to k q w e. absurd w;
      gives = λ from to g m w e. absurd w;
      blocks = λ from to who boot cookie m w e. absurd w;
    }
