-- What comes to a target that serves, once it was taken: a request, a cancel, a join, where a lock is, how long an object is, or what is
-- told in a
-- recovery, which does nothing. All that is done then is allowed, and after it the target serves and is what its story says.
use Rattle.std.proofs.Common.{◌≡◌, ℕ, ◌<◌, ◌≤◌, Bool, true, false, List, [], ◌∷◌, Option, Some, None, inl, inr, refl, sym, subst, ap, ◌∙◌}
use Rattle.std.proofs.Common.{arith}
use Rattle.std.specs.Prelude.{nat_eq, nat_lt, if◌then◌else◌}
use Rattle.std.proofs.lemmas.Bool.{cond-true, cond-false, eqb-true, eq-eqb, ltb-true, ltb-false}
use Rattle.std.proofs.lemmas.Bool.Decides.{nat_tests}
use Rattle.lu_base.specs.declared.ids.At.{At}
use Rattle.lu_base.specs.declared.ids.Cookie.{Cookie}
use Rattle.lu_base.specs.declared.ids.Node.{Node}
use Rattle.lu_base.specs.declared.ids.Node.TheVariants as node
use Rattle.lu_base.specs.declared.ids.Stamp.{Stamp}
use Rattle.lu_base.specs.declared.ids.Who.{Who}
use Rattle.lu_base.specs.declared.locks.Lock.{Lock}
use Rattle.lu_msg.specs.declared.messages.Message.{Message}
use Rattle.lu_msg.specs.declared.messages.Message.TheVariants as message
use Rattle.lu_msg.specs.declared.messages.Reply.{Reply as ReplyTo}
use Rattle.lu_msg.specs.declared.messages.Request.{Request as RequestOf}
use Rattle.lu_msg.specs.declared.messages.SizeReport.{SizeReport}
use Rattle.lu_msg.specs.declared.operations.Op.{Op}
use Rattle.lu_msg.specs.declared.operations.Op.TheVariants as op
use Rattle.lu_spec_entries.specs.Carried.{Deed, Slot, Glimpse}
use Rattle.lu_spec_entries.specs.Words.{Entry, Send, Take, Enters, Release, Answers, Ends, Line, line, with_turn}
use Rattle.lu_spec_entries.specs.Concerns.{only}
use Rattle.lu_spec_target.specs.Glimpses.{glimpses_of, glimpses_end, row_report, asked_for}
use Rattle.lu_spec_target.specs.Leaving.{ready}
use Rattle.lu_spec_target.specs.Lives.{is_life, slot_in}
use Rattle.lu_spec_target.specs.Names.{names_go}
use Rattle.lu_spec_target.specs.Objects.{lock_of, objects_go}
use Rattle.lu_spec_target.specs.Queues.{grant_message, queue_goes}
use Rattle.lu_spec_target.specs.Recovery.{row_replay, row_lock, row_word}
use Rattle.lu_spec_target.specs.Replies as kept
use Rattle.lu_spec_target.specs.Replies.{row_kept}
use Rattle.lu_spec_target.specs.Requests.{goes, row_enters, by_number, goes_on, releases, row_cancels, row_cancel, row_request, row_finds}
use Rattle.lu_spec_target.specs.Requests.{row_where}
use Rattle.lu_spec_target.specs.Rows as target
use Rattle.lu_spec_target.specs.Rows.{heeds, while_serving, row_heeds}
use Rattle.lu_spec_target.specs.States.{Target, after, follow, turn as turned}
use Rattle.lu_proof_lawful.specs.Covered.Deeds.{notice}
use Rattle.lu_proof_lawful.specs.Covered.Heads.{Head}
use Rattle.lu_proof_lawful.specs.Covered.TargetStates.{Server, boot_at, server_of, slot_of, lives_of}
use Rattle.lu_proof_lawful.proofs.Preconditions.Guards.{In, Was, RepliesNow, RepliesAgain, EntersFor, SoughtNow}
use Rattle.lu_proof_lawful.proofs.Preconditions.StoryGuards.{Spoke, AsksAgain, EntersOk, ReplyOk, Unasked, GivesOk, EntryOf}
use Rattle.lu_proof_lawful.proofs.Preconditions.Grown.{GrownOf}
use Rattle.lu_proof_lawful.proofs.Preconditions.Lists.{turn, in_filter, in_right}
use Rattle.lu_proof_lawful.proofs.Preconditions.Parts.{boot_is}
use Rattle.lu_proof_lawful.proofs.Preconditions.ClientLines.{IsOnObject}
use Rattle.lu_proof_lawful.proofs.Preconditions.Comings.{asked_object, IsAsked}
use Rattle.lu_proof_lawful.proofs.Preconditions.Fresh.{fresh}
use Rattle.lu_proof_lawful.proofs.Preconditions.QueueLists.{Single, single_filter, lock_of_in}
use Rattle.lu_proof_lawful.proofs.Preconditions.TargetStory.{story_apart}
use Rattle.lu_proof_lawful.proofs.Preconditions.TargetWaits.{fresh_unasked}
use Rattle.lu_proof_lawful.proofs.Preconditions.TargetAlike.{Serving, serving_is, serving_line}
use Rattle.lu_proof_lawful.proofs.Preconditions.TargetGood.{LineAt, Reaches, reaches_more, story_turn}
use Rattle.lu_proof_lawful.proofs.Preconditions.TargetPass.{ServesAt, HighAt, High, names_good}
use Rattle.lu_proof_lawful.proofs.Preconditions.TargetLocks.{notice_same, queue_lead, enqueue_lead}
use Rattle.lu_proof_lawful.proofs.Preconditions.TargetBytes.{get_lead, put_lead, cut_lead}
use Rattle.lu_proof_lawful.proofs.Preconditions.TargetGlimpses.{Middle, size_lead, report_lead, released_lead}
use Rattle.lu_proof_lawful.proofs.Preconditions.TargetJoins.{over_lead, ready_lead, up_lead, join_lead}
use Rattle.lu_proof_lawful.proofs.Preconditions.Turns.{Settled}

-- ---- what is told in a recovery

abbrev IsTold : Message → Type 0
IsTold (message.Replay r) = Unit {0}
IsTold (message.Lock r) = Unit {0}
IsTold (message.Word who boot replays locks seen) = Unit {0}
IsTold _ = ⊥

-- ---- a message comes to a target that serves, once it was taken

module _ (head : Head) (stamp : Stamp) (t : ℕ) (past story : List Line) (v : Target) (settled : Settled past)
    (h : Serving head t v story) where
  abbrev Heeded : List Entry → Type 0
  Heeded es = High v es → Reaches head stamp t past story v es (Serving head t)

  -- one of an older boot is told so
  older_lead : (who : Who) (older : Bool) (rest : List Entry) → Spoke story t who → (older ≡ false → Heeded rest)
      → Heeded (target.by_boot v who older rest)
  older_lead who true rest spoke go high = up_lead head stamp t past story v who settled h (inl spoke)
  older_lead who false rest spoke go high = go refl high

  -- a life without a slot is told that it is over
  slot_lead : (who : Who) (rest : List Entry) → Spoke story t who → (is_life who (lives_of head.clients story) ≡ true → Heeded rest)
      → Heeded (target.by_slot v who (is_life who v.lives) rest)
  slot_lead who rest spoke go = by (is_life who v.lives) refl
    where
      by : (b : Bool) → is_life who v.lives ≡ b → Heeded (target.by_slot v who b rest)
      by true e high = go (ap (is_life who) (sym h.lives) ∙ e) high
      by false e high = over_lead head stamp t past story v who settled h (inr (inl (ap (is_life who) (sym h.lives) ∙ e, spoke)))

  heeds_lead : (who : Who) (boot : ℕ) (rest : List Entry) → Spoke story t who
      → (nat_lt boot v.boot ≡ false → is_life who (lives_of head.clients story) ≡ true → Heeded rest) → Heeded (heeds v who boot rest)
  heeds_lead who boot rest spoke go = older_lead who (nat_lt boot v.boot) (target.by_slot v who (is_life who v.lives) rest) spoke
      (λ e. slot_lead who rest spoke (go e))

  is_serving : nat_eq v.closed v.boot ≡ true
  is_serving = eq-eqb v.closed v.boot h.alike.closed

  as_served : (a b : List Entry) → Heeded a → Heeded (if nat_eq v.closed v.boot then a else b)
  as_served a b go = subst Heeded (sym (cond-true (nat_eq v.closed v.boot) a b is_serving)) go

  -- what is told in a recovery does nothing; a life that still recovers is told that it is served
  told_lead : (c : ℕ) (m : Message) → IsTold m → Was story (node.Client c) (node.Target t) m
      → Heeded (row_heeds v (turn stamp (node.Target t)) m)
  told_lead c (message.Replay r) told was =
      let at = turn stamp (node.Target t) in
      let rest = target.of_boot v r.boot (row_replay v at r) in
      heeds_lead r.who r.boot (if nat_eq v.closed v.boot then [] else rest) (c, message.Replay r, was, refl)
      (λ e has. as_served [] rest (λ high. (settled, h)))
  told_lead c (message.Lock r) told was =
      let at = turn stamp (node.Target t) in
      let rest = target.of_boot v r.boot (row_lock v at (target.lock_again r)) in
      heeds_lead r.who r.boot (if nat_eq v.closed v.boot then [] else rest) (c, message.Lock r, was, refl)
      (λ e has. as_served [] rest (λ high. (settled, h)))
  told_lead c (message.Word who boot replays locks seen) told was =
      let at = turn stamp (node.Target t) in
      let rest = target.of_boot v boot (row_word v at (record { who = who; replays = replays; locks = locks; seen = seen })) in
      heeds_lead who boot (if nat_eq v.closed v.boot then ready v who ∷ [] else rest)
      (c, message.Word who boot replays locks seen, was, refl)
      (λ e has. as_served (ready v who ∷ []) rest (λ high. ready_lead head stamp t past story v who settled h has))
  told_lead c m told was = absurd told

-- ---- a request comes, to a target that serves

module _ (head : Head) (stamp : Stamp) (t : ℕ) (past story : List Line) (of_target : story ≡ only t past) (v : Target)
    (h : Serving head t v story) (n c : ℕ) (r : RequestOf) (was : Was story (node.Client c) (node.Target t) (message.Request r))
    (grown : GrownOf head story) where
  abbrev there : At
  there = turn stamp (node.Target t)

  abbrev takes : Entry
  takes = Take n (node.Client c) (message.Request r)

  abbrev past1 : List Line
  past1 = line there takes ∷ past

  abbrev story1 : List Line
  story1 = line there takes ∷ story

  abbrev slot : Slot
  slot = slot_in v.slots r.who r.tag

  of_target1 : story1 ≡ only t past1
  of_target1 = story_turn head stamp t (takes ∷ []) past story of_target

  served : Serving head t v story1
  served = serving_line head t story stamp takes v tt tt h

  abbrev Follows : List Entry → Type 0
  Follows es = High v es → Reaches head stamp t past1 story1 v es (Serving head t)

  -- a life with a slot wasn't evicted, so its slots are alike
  slot_same : is_life r.who (lives_of head.clients story) ≡ true → slot ≡ slot_of r.who r.tag story
  slot_same has = h.slots r.who r.tag (ap (is_life r.who) h.removed ∙ story_apart head story h.story r.who has)

  current : nat_lt r.boot v.boot ≡ false → (server_of head.osts story).boot ≤ r.boot
  current older = let less = ltb-false r.boot v.boot older in let boot = h.alike.boot in omega (arith, less, boot)

  newer : is_life r.who (lives_of head.clients story) ≡ true → nat_lt slot.taken r.xid.0 ≡ true
      → (slot_of r.who r.tag story).taken < r.xid.0
  newer has above = subst (λ (s : Slot). s.taken < r.xid.0) (slot_same has) (ltb-true slot.taken r.xid.0 above)

  -- one of a new number enters
  enters_good : nat_lt r.boot v.boot ≡ false → is_life r.who (lives_of head.clients story) ≡ true → nat_lt slot.taken r.xid.0 ≡ true
      → LineAt head stamp t past1 story1 (Enters r) × Serving head t (after v (Enters r)) (line there (Enters r) ∷ story1)
  enters_good older has above = ((tt, (node.Client c, (refl, refl, refl)), ok), serving_line head t story1 stamp (Enters r) v tt ok served)
    where
      ok : EntersOk head.osts head.clients story1 t r
      ok =
          record {
            serves = serving_is head t v story h;
            has = has;
            from = c;
            was = was;
            current = current older;
            newer = newer has above;
            fresh = fresh head story c t r grown was (newer has above);
          }

  -- one of the newest number is answered again
  kept_lead : (o : Option ReplyTo) → is_life r.who (lives_of head.clients story) ≡ true → nat_eq slot.taken r.xid.0 ≡ true
      → nat_lt r.boot v.boot ≡ false → slot.reply ≡ o
      → Reaches head stamp t past1 story1 v (row_kept v o) (Serving head t)
  kept_lead None has same older is = (tt, served)
  kept_lead (Some k) has same older is = (
    ((tt, (replies, (λ x. again), (λ d did lock i. absurd did)), ok), tt),
    serving_line head t story1 stamp (Send (node.Client k.who.client) (message.Reply answer)) v tt ok served,
  )
    where
      answer : ReplyTo
      answer = kept.again v k

      replied : (slot_of r.who r.tag story).reply ≡ Some k
      replied = ap (λ (s : Slot). s.reply) (sym (slot_same has)) ∙ is

      newest : (slot_of r.who r.tag story).taken ≡ r.xid.0
      newest = ap (λ (s : Slot). s.taken) (sym (slot_same has)) ∙ eqb-true slot.taken r.xid.0 same

      -- in the whole past too
      replied1 : (slot_of r.who r.tag (only t past1)).reply ≡ Some k
      replied1 = subst (λ (p : List Line). (slot_of r.who r.tag p).reply ≡ Some k) of_target1 replied

      newest1 : (slot_of r.who r.tag (only t past1)).taken ≡ r.xid.0
      newest1 = subst (λ (p : List Line). (slot_of r.who r.tag p).taken ≡ r.xid.0) of_target1 newest

      replies : RepliesNow past1 t answer
      replies =
          record {
            who = r.who;
            tag = r.tag;
            kept = k;
            slot = replied1;
            is = refl;
            now = inr (record { at = there; number = n; from = node.Client c; message = message.Request r; before = past; newest = refl });
          }

      again : RepliesAgain past1 there t answer
      again = record { request = r; took = (node.Client c, (refl, refl, refl)); kept = k; slot = replied1; is = refl; same = newest1 }

      asks : AsksAgain head story1 t r.who r.tag
      asks = record { request = r; from = c; was = was; of_life = refl; of_tag = refl; same = newest; current = current older; has = has }

      ok : ReplyOk head story1 t k.who.client answer
      ok = record {
        serves = serving_is head t v story h;
        who = r.who;
        tag = r.tag;
        kept = k;
        slot = replied;
        is =
            rw (h.alike.boot, h.alike.committed) refl;
        to = refl;
        cause = inr asks;
      }

  -- by its number, where what comes of a new one is given
  request_lead : (nat_lt r.boot v.boot ≡ false → is_life r.who (lives_of head.clients story) ≡ true → nat_lt slot.taken r.xid.0 ≡ true
      → Follows (row_enters v there r)) → Follows (row_heeds v there (message.Request r))
  request_lead enters =
      heeds_lead head stamp t past1 story1 v tt served r.who r.boot (while_serving v (row_request v there r))
      (c, message.Request r, was, refl)
      (λ older has. as_served head stamp t past1 story1 v tt served (row_request v there r) []
      (by older has (nat_lt slot.taken r.xid.0) (nat_eq slot.taken r.xid.0) refl refl))
    where
      by : nat_lt r.boot v.boot ≡ false → is_life r.who (lives_of head.clients story) ≡ true → (above same : Bool)
          → nat_lt slot.taken r.xid.0 ≡ above → nat_eq slot.taken r.xid.0 ≡ same
          → Follows (by_number v there r slot.reply above same)
      by older has true same e f = enters older has e
      by older has false true e f = λ high. kept_lead slot.reply has f older refl
      by older has false false e f = λ high. (tt, served)

-- ---- a cancel comes, to a target that serves

module _ (head : Head) (stamp : Stamp) (t : ℕ) (past story : List Line) (of_target : story ≡ only t past) (v : Target)
    (h : Serving head t v story) (n c : ℕ) (who : Who) (boot : ℕ) (cookie : Cookie)
    (was : Was story (node.Client c) (node.Target t) (message.Cancel who boot cookie)) where
  abbrev near : At
  near = turn stamp (node.Target t)

  abbrev gives : Entry
  gives = Take n (node.Client c) (message.Cancel who boot cookie)

  abbrev past_given : List Line
  past_given = line near gives ∷ past

  abbrev story_given : List Line
  story_given = line near gives ∷ story

  given : Serving head t v story_given
  given = serving_line head t story stamp gives v tt tt h

  abbrev Gives : List Entry → Type 0
  Gives es = High v es → Reaches head stamp t past_given story_given v es (Serving head t)

  -- the lock is released
  pub release_good : (l : Lock) → nat_lt boot v.boot ≡ false → lock_of who cookie v.granted ≡ Some l
      → LineAt head stamp t past_given story_given (Release l) × Serving head t (after v (Release l)) (line near (Release l) ∷ story_given)
  release_good l older found = (
    (tt, inl (record { from = node.Client c; boot = boot; current = current; took = (refl, refl, own) }), ok),
    serving_line head t story_given stamp (Release l) v tt ok given,
  )
    where
      current : nat_lt boot (boot_at t past_given) ≡ false
      current = ap (nat_lt boot) (boot_is head.osts t past_given
          ∙ ap (λ (p : List Line). (server_of head.osts p).boot) (sym (story_turn head stamp t (gives ∷ []) past story of_target))
          ∙ sym h.alike.boot) ∙ older

      same : In l v.granted × (l.ask.who ≡ who) × (l.cookie ≡ cookie)
      same = lock_of_in who cookie v.granted l found

      own : message.Cancel who boot cookie ≡ message.Cancel l.ask.who boot l.cookie
      own = ap (λ (w : Who). message.Cancel w boot cookie) (sym same.1) ∙ ap (λ (k : Cookie). message.Cancel l.ask.who boot k) (sym same.2)

      granted : lock_of l.ask.who l.cookie (server_of head.osts story).granted ≡ Some l
      granted = ap (λ (locks : List Lock). lock_of l.ask.who l.cookie locks) (sym h.alike.granted)
          ∙ ap (λ (w : Who). lock_of w l.cookie v.granted) same.1 ∙ ap (λ (k : Cookie). lock_of who k v.granted) same.2 ∙ found

      ok : EntryOf head story_given near (node.Target t) (Release l)
      ok = (
        serving_is head t v story h,
        inl (record {
          from = c;
          boot = boot;
          was =
              subst (λ (m : Message). Was story (node.Client c) (node.Target t) m) own was;
          found = granted;
        }),
      )

  cancels_lead : ((l : Lock) → nat_lt boot v.boot ≡ false → lock_of who cookie v.granted ≡ Some l
      → Gives (follow v (releases near l v) (goes_on l near)))
      → nat_lt boot v.boot ≡ false → (o : Option Lock) → lock_of who cookie v.granted ≡ o
      → Gives (row_cancels v near o)
  cancels_lead goes older None found = λ high. (tt, given)
  cancels_lead goes older (Some l) found = goes l older found

  -- where what comes of its release is given
  pub cancel_lead : ((l : Lock) → nat_lt boot v.boot ≡ false → lock_of who cookie v.granted ≡ Some l
      → Gives (follow v (releases near l v) (goes_on l near))) → Gives (row_heeds v near (message.Cancel who boot cookie))
  cancel_lead goes =
      heeds_lead head stamp t past_given story_given v tt given who boot (while_serving v (row_cancel v near who cookie))
      (c, message.Cancel who boot cookie, was, refl)
      (λ older has. as_served head stamp t past_given story_given v tt given (row_cancel v near who cookie) []
      (cancels_lead goes older (lock_of who cookie v.granted) refl))

-- ---- what comes to the metadata target

module _ (head : Head) (stamp : Stamp) where
  abbrev at : At
  at = turn stamp (node.Target 0)

  abbrev Leads : List Line → Target → List Entry → Type 0
  Leads past v es = Reaches head stamp 0 past (only 0 past) v es (Serving head 0)

  -- what the row does, once it took the message
  abbrev Heeds : Target → List Line → List Entry → Type 0
  Heeds v past es = High v es → Leads past v es

  along : (v : Target) (past : List Line) (es fs : List Entry) → es ≡ fs → Heeds v past fs → Heeds v past es
  along v past es fs e h = subst (λ (xs : List Entry). Heeds v past xs) (sym e) h

  taken : (v : Target) (past : List Line) (n : ℕ) (from : Node) (m : Message) → ServesAt head stamp v past
      → ServesAt head stamp v (line at (Take n from m) ∷ past)
  taken v past n from m h = serving_line head 0 (only 0 past) stamp (Take n from m) v tt tt h

  -- ---- a request

  request_first : (v : Target) (past : List Line) (n c : ℕ) (r : RequestOf) → ServesAt head stamp v past → GrownOf head (only 0 past)
      → Was (only 0 past) (node.Client c) (node.Target 0) (message.Request r)
      → Heeds v (line at (Take n (node.Client c) (message.Request r)) ∷ past) (row_heeds v at (message.Request r))
  request_first v past n c r h grown was =
      request_lead head stamp 0 past (only 0 past) refl v h n c r was grown
      (λ older has above. along v past1 (row_enters v at r) (Enters r ∷ names_go at w) (ap (λ (es : List Entry). Enters r ∷ es) names)
      (λ high.
      let good = enters_good head stamp 0 past (only 0 past) refl v h n c r was grown older has above in
      let more = names_good head stamp (line at (Enters r) ∷ past1) (line at (Enters r) ∷ only 0 past1) w refl tt good.1 high in
      ((good.0, more.0), more.1)))
    where
      past1 : List Line
      past1 = line at (Take n (node.Client c) (message.Request r)) ∷ past

      w : Target
      w = after v (Enters r)

      names : (if nat_eq v.setting.id 0 then names_go at w else objects_go w at r r.op) ≡ names_go at w
      names = cond-true (nat_eq v.setting.id 0) (names_go at w) (objects_go w at r r.op) (rw h.alike.id refl)

  -- ---- a cancel

  cancel_first : (v : Target) (past : List Line) (n c : ℕ) (who : Who) (boot : ℕ) (cookie : Cookie) → ServesAt head stamp v past
      → Was (only 0 past) (node.Client c) (node.Target 0) (message.Cancel who boot cookie)
      → Heeds v (line at (Take n (node.Client c) (message.Cancel who boot cookie)) ∷ past) (row_heeds v at (message.Cancel who boot cookie))
  cancel_first v past n c who boot cookie h was = cancel_lead head stamp 0 past (only 0 past) refl v h n c who boot cookie was goes
    where
      past1 : List Line
      past1 = line at (Take n (node.Client c) (message.Cancel who boot cookie)) ∷ past

      goes : (l : Lock) → nat_lt boot v.boot ≡ false → lock_of who cookie v.granted ≡ Some l
          → Heeds v past1 (follow v (releases at l v) (goes_on l at))
      goes l older found =
          let w = after v (Release l) in
          let names : goes_on l at w ≡ names_go at w = cond-true (nat_eq v.setting.id 0) (names_go at w) (queue_goes l.resource w)
          (rw h.alike.id refl) in
          along v past1 (follow v (releases at l v) (goes_on l at)) (Release l ∷ names_go at w)
          (ap (λ (gs : List Glimpse). follow v (Release l ∷ glimpses_end at (glimpses_of l gs) v) (goes_on l at))
          (h.alike.glimpses ∙ (h.alike.names refl).1) ∙ ap (λ (es : List Entry). Release l ∷ es) names)
          (λ high.
          let good = release_good head stamp 0 past (only 0 past) refl v h n c who boot cookie was l older found in
          let more = names_good head stamp (line at (Release l) ∷ past1) (line at (Release l) ∷ only 0 past1) w refl tt good.1 high in
          ((good.0, more.0), more.1))

  -- ---- where a lock is, or how long an object is, isn't asked of it

  where_first : (v : Target) (past : List Line) (n c : ℕ) (who : Who) (boot : ℕ) (cookie : Cookie) → ServesAt head stamp v past
      → Was (only 0 past) (node.Client c) (node.Target 0) (message.Where who boot cookie)
      → Heeds v (line at (Take n (node.Client c) (message.Where who boot cookie)) ∷ past) (row_heeds v at (message.Where who boot cookie))
  where_first v past n c who boot cookie h was =
      let past1 = line at (Take n (node.Client c) (message.Where who boot cookie)) ∷ past in
      let served = taken v past n (node.Client c) (message.Where who boot cookie) h in
      heeds_lead head stamp 0 past1 (only 0 past1) v tt served who boot (while_serving v (row_where v who cookie))
      (c, message.Where who boot cookie, was, refl)
      (λ older has. as_served head stamp 0 past1 (only 0 past1) v tt served (row_where v who cookie) []
      (along v past1 (row_where v who cookie) [] (none (lock_of who cookie v.granted)) (λ high. (tt, served))))
    where
      none : (o : Option Lock) → row_finds v o ≡ []
      none None = refl
      none (Some l) = cond-true (nat_eq v.setting.id 0) [] (grant_message v l ∷ []) (rw h.alike.id refl)

  size_first : (v : Target) (past : List Line) (n c : ℕ) (m : SizeReport) → ServesAt head stamp v past
      → Was (only 0 past) (node.Client c) (node.Target 0) (message.Size m)
      → Heeds v (line at (Take n (node.Client c) (message.Size m)) ∷ past) (row_heeds v at (message.Size m))
  size_first v past n c m h was =
      let past1 = line at (Take n (node.Client c) (message.Size m)) ∷ past in
      let served = taken v past n (node.Client c) (message.Size m) h in
      let rest = row_report v at m (asked_for m v.glimpses) in
      heeds_lead head stamp 0 past1 (only 0 past1) v tt served m.who m.boot (while_serving v rest) (c, message.Size m, was, refl)
      (λ older has. as_served head stamp 0 past1 (only 0 past1) v tt served rest []
      (along v past1 rest [] (ap (λ (gs : List Glimpse). row_report v at m (asked_for m gs))
      (h.alike.glimpses ∙ (h.alike.names refl).1)) (λ high. (tt, served))))

  -- ---- all that comes to it

  told_first : (v : Target) (past : List Line) (n c : ℕ) (m : Message) → IsTold m → ServesAt head stamp v past
      → Was (only 0 past) (node.Client c) (node.Target 0) m → Heeds v (line at (Take n (node.Client c) m) ∷ past) (row_heeds v at m)
  told_first v past n c m told h was = let past1 = line at (Take n (node.Client c) m) ∷ past
      in told_lead head stamp 0 past1 (only 0 past1) v tt (taken v past n (node.Client c) m h) c m told was

  pub comes_first : (v : Target) (past : List Line) (n c : ℕ) (m : Message) → IsAsked 0 m → ServesAt head stamp v past
      → GrownOf head (only 0 past) → Was (only 0 past) (node.Client c) (node.Target 0) m
      → Heeds v (line at (Take n (node.Client c) m) ∷ past) (row_heeds v at m)
  comes_first v past n c (message.Request r) asked h grown was = request_first v past n c r h grown was
  comes_first v past n c (message.Cancel who boot cookie) asked h grown was = cancel_first v past n c who boot cookie h was
  comes_first v past n c (message.Where who boot cookie) asked h grown was = where_first v past n c who boot cookie h was
  comes_first v past n c (message.Size m) asked h grown was = size_first v past n c m h was
  comes_first v past n c (message.Join who boot) asked h grown was =
      let past1 = line at (Take n (node.Client c) (message.Join who boot)) ∷ past in
      join_lead head stamp 0 past1 (only 0 past1) v c boot who refl tt (taken v past n (node.Client c) (message.Join who boot) h)
      (inl (refl, refl, refl)) was
  comes_first v past n c (message.Replay r) asked h grown was = told_first v past n c (message.Replay r) tt h was
  comes_first v past n c (message.Lock r) asked h grown was = told_first v past n c (message.Lock r) tt h was
  comes_first v past n c (message.Word who boot replays locks seen) asked h grown was =
      told_first v past n c (message.Word who boot replays locks seen) tt h was
  comes_first v past n c m asked h grown was = absurd asked

-- ---- what comes to another target

module _ (head : Head) (stamp : Stamp) (t : ℕ) (above : 0 < t) where
  abbrev here : At
  here = turn stamp (node.Target t)

  abbrev Heard : Target → List Line → Entry → List Entry → Type 0
  Heard v past e es = High v es → Reaches head stamp t (line here e ∷ past) (line here e ∷ only t past) v es (Serving head t)

  told_other : (past : List Line) (v : Target) (n c : ℕ) (m : Message) → IsTold m → Serving head t v (only t past)
      → Was (only t past) (node.Client c) (node.Target t) m → Heard v past (Take n (node.Client c) m) (row_heeds v here m)
  told_other past v n c m told h was high =
      let e : Entry = Take n (node.Client c) m in
      told_lead head stamp t (line here e ∷ past) (line here e ∷ only t past) v tt (serving_line head t (only t past) stamp e v tt tt h) c m
      told was high

  other_target : (v : Target) (story : List Line) → Serving head t v story → nat_eq v.setting.id 0 ≡ false
  other_target v story h = let is = h.alike.id in grind (arith, nat_tests, is, above)

  -- ---- a request

  module _ (past : List Line) (v : Target) (n c : ℕ) (r : RequestOf) (asked : IsOnObject r.op) (h : Serving head t v (only t past))
      (grown : GrownOf head (only t past))
      (was : Was (only t past) (node.Client c) (node.Target t) (message.Request r)) where
    abbrev story : List Line
    story = only t past

    abbrev entered : Target
    entered = after v (Enters r)

    abbrev comes : Entry
    comes = Take n (node.Client c) (message.Request r)

    abbrev past2 : List Line
    past2 = line here (Enters r) ∷ line here comes ∷ past

    abbrev story2 : List Line
    story2 = line here (Enters r) ∷ line here comes ∷ story

    goes_is : goes here r entered ≡ objects_go entered here r r.op
    goes_is = cond-false (nat_eq v.setting.id 0) (names_go here entered) (objects_go entered here r r.op) (other_target v story h)

    of_target : story2 ≡ only t past2
    of_target = story_turn head stamp t (comes ∷ Enters r ∷ []) past story refl

    waits : In r (server_of head.osts story2).waiting
    waits = in_right r (server_of head.osts story).waiting (r ∷ []) (inl refl)

    enters_for : (d : Deed) → r.who ≡ d.reply.who → r.xid ≡ d.reply.xid → EntersFor past2 here d
    enters_for d who xid = (refl, who, xid)

    -- what is done once it entered
    does : Serving head t entered story2 → Unasked (server_of head.osts story2).glimpses r → High entered (objects_go entered here r r.op)
        → Reaches head stamp t past2 story2 entered (objects_go entered here r r.op) (Serving head t)
    does good unasked high = by r.op refl asked high
      where
        by : (o : Op) → r.op ≡ o → IsOnObject o → High entered (objects_go entered here r o)
            → Reaches head stamp t past2 story2 entered (objects_go entered here r o) (Serving head t)
        by (op.Enqueue resource mode extent) is a high = enqueue_lead head stamp t above past2 story2 entered r resource mode extent
            of_target tt good waits is enters_for high
        by (op.Get resource cookie page) is a high = get_lead head stamp t above past2 story2 entered r of_target tt good waits enters_for
            resource cookie page is
        by (op.Put resource cookie offset bytes) is a high = put_lead head stamp t above past2 story2 entered r of_target tt good waits
            enters_for resource cookie offset bytes is high
        by (op.Cut resource cookie size) is a high = cut_lead head stamp t above past2 story2 entered r of_target tt good waits enters_for
            resource cookie size is high
        by (op.Size resource) is a high = size_lead head stamp t above past2 story2 entered r resource of_target tt good waits unasked is
            enters_for (refl, refl)
        by o is a high = absurd a

    enters : nat_lt r.boot v.boot ≡ false → is_life r.who (lives_of head.clients story) ≡ true
        → nat_lt (slot_in v.slots r.who r.tag).taken r.xid.0 ≡ true → Heard v past comes (row_enters v here r)
    enters older has newer high =
        let good = enters_good head stamp t past story refl v h n c r was grown older has newer in
        let unasked = fresh_unasked (server_of head.osts story).boot (server_of head.osts story).cookie (server_of head.osts story).granted
        (server_of head.osts story).queued (server_of head.osts story).waiting (server_of head.osts story).glimpses
        h.story.waits_so r good.0.2.fresh in
        let more = does good.1 unasked (subst (λ (es : List Entry). HighAt (turned entered es)) goes_is high) in
        subst (λ (es : List Entry). Reaches head stamp t (line here comes ∷ past) (line here comes ∷ story) v (Enters r ∷ es)
        (Serving head t)) (sym goes_is) ((good.0, more.0), more.1)

    request_other : Heard v past comes (row_heeds v here (message.Request r))
    request_other = request_lead head stamp t past story refl v h n c r was grown enters

  -- ---- a lock that is given back is released; for whom its holder was asked is answered, and what waited for it goes on

  middle : Middle head stamp t above (Serving head t)
  middle =
      record {
        story = λ w p k. k.story;
        serves = λ w p k. serving_is head t w p k;
        ends = λ g w p ok k. serving_line head t p stamp (Ends g) w tt ok k;
        answers = λ d w p ok k. serving_line head t p stamp (Answers d) w tt ok k;
        replies = λ d w p ok k. serving_line head t p stamp (kept.replies d) w tt ok k;
      }

  cancel_other : (past : List Line) (v : Target) (n c : ℕ) (who : Who) (boot : ℕ) (cookie : Cookie) → Serving head t v (only t past)
      → Was (only t past) (node.Client c) (node.Target t) (message.Cancel who boot cookie)
      → Heard v past (Take n (node.Client c) (message.Cancel who boot cookie)) (row_heeds v here (message.Cancel who boot cookie))
  cancel_other past v n c who boot cookie h was = cancel_lead head stamp t past story refl v h n c who boot cookie was goes
    where
      story : List Line
      story = only t past

      e : Entry
      e = Take n (node.Client c) (message.Cancel who boot cookie)

      past1 : List Line
      past1 = line here e ∷ past

      story1 : List Line
      story1 = line here e ∷ story

      goes : (l : Lock) → nat_lt boot v.boot ≡ false → lock_of who cookie v.granted ≡ Some l
          → Heard v past e (follow v (releases here l v) (goes_on l here))
      goes l older found high =
          reaches_more head stamp t (Serving head t) (Serving head t) es (goes_on l here) past1 story1 v
          (story_turn head stamp t (e ∷ []) past story refl) ((good.0, ends.0), ends.1)
          (λ f s k. subst (λ (fs : List Entry). Reaches head stamp t (with_turn here es past1) (with_turn here es story1) (turned v es) fs
          (Serving head t))
          (sym (cond-false (nat_eq (turned v es).setting.id 0) (names_go here (turned v es)) (queue_goes l.resource (turned v es))
          (other_target (turned v es) (with_turn here es story1) k)))
          (queue_lead head stamp t above l.resource (with_turn here es past1) (with_turn here es story1) (turned v es) f s k))
        where
          es : List Entry
          es = releases here l v

          good : LineAt head stamp t past1 story1 (Release l) × Serving head t (after v (Release l)) (line here (Release l) ∷ story1)
          good = release_good head stamp t past story refl v h n c who boot cookie was l older found

          ends : Reaches head stamp t (line here (Release l) ∷ past1) (line here (Release l) ∷ story1) (after v (Release l))
              (glimpses_end here (glimpses_of l v.glimpses) v) (Serving head t)
          ends =
              released_lead head stamp t above (Serving head t) middle v l (glimpses_of l v.glimpses) (line here (Release l) ∷ past1)
              (line here (Release l) ∷ story1) (after v (Release l))
              (story_turn head stamp t (e ∷ Release l ∷ []) past story refl) tt good.1 h.alike.boot h.alike.committed h.alike.log
              (inl (refl, refl))
              (λ g i. let f = in_filter (λ (x : Glimpse). nat_eq x.cookie.0 l.cookie.0) g v.glimpses i
              in (subst (λ (gs : List Glimpse). In g gs) h.alike.glimpses f.0, f.1))
              (single_filter (λ (x : Glimpse). nat_eq x.cookie.0 l.cookie.0) v.glimpses
              (subst Single (sym h.alike.glimpses) h.story.waits_so.once))

  -- ---- where a lock is: its grant once more, where it is granted

  where_other : (past : List Line) (v : Target) (n c : ℕ) (who : Who) (boot : ℕ) (cookie : Cookie) → Serving head t v (only t past)
      → Was (only t past) (node.Client c) (node.Target t) (message.Where who boot cookie)
      → Heard v past (Take n (node.Client c) (message.Where who boot cookie)) (row_heeds v here (message.Where who boot cookie))
  where_other past v n c who boot cookie h was =
      heeds_lead head stamp t past1 story1 v tt served who boot (while_serving v (row_where v who cookie))
      (c, message.Where who boot cookie, was, refl)
      (λ older has. as_served head stamp t past1 story1 v tt served (row_where v who cookie) []
      (λ high. finds older (lock_of who cookie v.granted) refl))
    where
      story : List Line
      story = only t past

      e : Entry
      e = Take n (node.Client c) (message.Where who boot cookie)

      past1 : List Line
      past1 = line here e ∷ past

      story1 : List Line
      story1 = line here e ∷ story

      served : Serving head t v story1
      served = serving_line head t story stamp e v tt tt h

      finds : nat_lt boot v.boot ≡ false → (o : Option Lock) → lock_of who cookie v.granted ≡ o
          → Reaches head stamp t past1 story1 v (row_finds v o) (Serving head t)
      finds older None found = (tt, served)
      finds older (Some l) found =
          subst (λ (es : List Entry). Reaches head stamp t past1 story1 v es (Serving head t)) (sym same)
          (((tt, inr sought, ok), tt), serving_line head t story1 stamp gives v tt ok served)
        where
          s : Server
          s = server_of head.osts story

          gives : Entry
          gives = Send (node.Client l.ask.who.client) (message.Grant (notice s l))

          same : row_finds v (Some l) ≡ gives ∷ []
          same = cond-false (nat_eq v.setting.id 0) [] (grant_message v l ∷ []) (other_target v story h)
              ∙ ap (λ (x : Entry). x ∷ []) (notice_same head.osts t v s h.alike l)

          is : In l v.granted × (l.ask.who ≡ who) × (l.cookie ≡ cookie)
          is = lock_of_in who cookie v.granted l found

          own : message.Where who boot cookie ≡ message.Where l.ask.who boot l.cookie
          own = ap (λ (w : Who). message.Where w boot cookie) (sym is.1) ∙ ap (λ (k : Cookie). message.Where l.ask.who boot k) (sym is.2)

          sought : SoughtNow past1 here (notice s l)
          sought = record { from = node.Client c; boot = boot; took = (refl, refl, own) }

          ok : GivesOk head.osts story1 t l.ask.who.client (notice s l)
          ok =
              record {
                serves = serving_is head t v story h;
                lock = l;
                granted = subst (λ (ls : List Lock). In l ls) h.alike.granted is.0;
                is = refl;
                to = refl;
                cause = inr (record {
                  from = c;
                  boot = boot;
                  current = let less = ltb-false boot v.boot older in let same = h.alike.boot in omega (arith, less, same);
                  was = subst (λ (m : Message). Was story (node.Client c) (node.Target t) m) own was;
                });
              }

  -- ---- how long an object is, as its lock's holder says

  size_other : (past : List Line) (v : Target) (n c : ℕ) (m : SizeReport) → Serving head t v (only t past)
      → Was (only t past) (node.Client c) (node.Target t) (message.Size m)
      → Heard v past (Take n (node.Client c) (message.Size m)) (row_heeds v here (message.Size m))
  size_other past v n c m h was =
      let story : List Line = only t past in
      let e : Entry = Take n (node.Client c) (message.Size m) in
      let past1 : List Line = line here e ∷ past in
      let story1 : List Line = line here e ∷ story in
      let served : Serving head t v story1 = serving_line head t story stamp e v tt tt h in
      let rest : List Entry = row_report v here m (asked_for m v.glimpses) in
      heeds_lead head stamp t past1 story1 v tt served m.who m.boot (while_serving v rest) (c, message.Size m, was, refl)
      (λ older has. as_served head stamp t past1 story1 v tt served rest []
      (λ high. report_lead head stamp t above past1 story1 v m (story_turn head stamp t (e ∷ []) past story refl) tt served
      (λ g on. record {
        from = c;
        took = (refl, refl, refl);
        was = was;
        current = let less = ltb-false m.boot v.boot older in let same =
            h.alike.boot in omega (arith, less, same);
        on = on;
      })))

  -- ---- all that comes to it

  pub comes_other : (past : List Line) (v : Target) (n c : ℕ) (m : Message) → IsAsked t m → Serving head t v (only t past)
      → GrownOf head (only t past) → Was (only t past) (node.Client c) (node.Target t) m
      → Heard v past (Take n (node.Client c) m) (row_heeds v here m)
  comes_other past v n c (message.Request r) asked h grown was = request_other past v n c r (asked_object t r.op above asked) h grown was
  comes_other past v n c (message.Cancel who boot cookie) asked h grown was = cancel_other past v n c who boot cookie h was
  comes_other past v n c (message.Where who boot cookie) asked h grown was = where_other past v n c who boot cookie h was
  comes_other past v n c (message.Size m) asked h grown was = size_other past v n c m h was
  comes_other past v n c (message.Join who boot) asked h grown was =
      let e : Entry = Take n (node.Client c) (message.Join who boot) in
      join_lead head stamp t (line here e ∷ past) (line here e ∷ only t past) v c boot who
      (story_turn head stamp t (e ∷ []) past (only t past) refl) tt
      (serving_line head t (only t past) stamp e v tt tt h) (inl (refl, refl, refl)) was
  comes_other past v n c (message.Replay r) asked h grown was = told_other past v n c (message.Replay r) tt h was
  comes_other past v n c (message.Lock r) asked h grown was = told_other past v n c (message.Lock r) tt h was
  comes_other past v n c (message.Word who boot replays locks seen) asked h grown was =
      told_other past v n c (message.Word who boot replays locks seen) tt h was
  comes_other past v n c m asked h grown was = absurd asked
