-- What every covered run keeps of what is said: messages carry the boot and the committed number of their target, what is
-- heard was in flight, and what acts at the metadata target has the answer of the contents.
use Rattle.std.proofs.Common.{◌≡◌, ℕ, zero, suc, Bool, true, false, List, [], ◌∷◌, Option, Some, None, inl, ⊎_elim, refl, sym, subst, ap}
use Rattle.std.proofs.Common.{◌∙◌, arith}
use Rattle.std.specs.Prelude.{nat_eq, not, ◌&&◌, ◌||◌, if◌then◌else◌, is_some, filter}
use Rattle.std.specs.List.{list_any}
use Rattle.std.proofs.lemmas.Bool.Decides.{nat_tests}
use Rattle.std.proofs.lemmas.Bool.{and_parts, cond_both, cond-true, eqb-true, or_cases}
use Rattle.lu_base.specs.declared.ids.At.{At}
use Rattle.lu_base.specs.declared.ids.Cookie.{Cookie}
use Rattle.lu_base.specs.declared.ids.Node.{Node}
use Rattle.lu_base.specs.declared.ids.Node.TheVariants.{Client, Target}
use Rattle.lu_base.specs.declared.ids.Stamp.{Stamp}
use Rattle.lu_base.specs.declared.ids.Txn.{Txn as TxnOf}
use Rattle.lu_base.specs.declared.ids.Who.{Who}
use Rattle.lu_base.specs.declared.ids.Xid.{Xid}
use Rattle.lu_msg.specs.declared.commits.Batch.{Batch}
use Rattle.lu_msg.specs.declared.messages.GrantNotice.{GrantNotice}
use Rattle.lu_msg.specs.declared.messages.Message.{Message}
use Rattle.lu_msg.specs.declared.messages.Message.TheVariants as message
use Rattle.lu_msg.specs.declared.messages.Reply.{Reply as ReplyTo}
use Rattle.lu_msg.specs.declared.messages.Request.{Request as RequestOf}
use Rattle.lu_trace.specs.declared.entries.Line.{Line as PrintedLine}
use Rattle.lu_spec_machine.specs.Tree.{same_life}
use Rattle.lu_spec_machine.specs.Footprint.{Operation, answer, changes}
use Rattle.lu_spec_entries.specs.Carried.{Deed, Flight}
use Rattle.lu_spec_entries.specs.Words.{Entry, Send, Heard as Hears_, Act, Txn as Made, Commit, Line, line}
use Rattle.lu_spec_entries.specs.Concerns.{concerns, only}
use Rattle.lu_spec_entries.specs.Printed.{printed}
use Rattle.lu_proof_lawful.specs.Covered.TargetParts.{operation}
use Rattle.lu_proof_lawful.specs.Covered.TargetStates.{server_at, server_of}
use Rattle.lu_proof_lawful.specs.Covered.TargetCloses.{disk_of, closing_of}
use Rattle.lu_proof_lawful.specs.Covered.ClientStates.{flights_of, is_own}
use Rattle.lu_proof_lawful.specs.Covered.Heads.{Head}
use Rattle.lu_spec_laws.specs.Holds.{Holds}
use Rattle.lu_spec_laws.specs.Words.Pasts.{or_else}
use Rattle.lu_spec_laws.specs.Words.Sends.{Sending, as_reply, first_fit}
use Rattle.lu_spec_laws.specs.Words.Boots.{committed}
use Rattle.lu_spec_laws.specs.Words.Lives.{who_is, is_by}
use Rattle.lu_spec_laws.specs.Words.Requests.{asked, is_of, has_heard, has_number, without_number, in_flight}
use Rattle.lu_spec_laws.specs.Order.Messages.{MessageAt, Messages}
use Rattle.lu_spec_laws.specs.Order.Heard.{HeardAt, Heard}
use Rattle.lu_spec_laws.specs.Order.Answers.{none, AnswerOf, Answers}
use Rattle.lu_proof_lawful.proofs.Preconditions.Guards.{In, Was}
use Rattle.lu_proof_lawful.proofs.Preconditions.Grown.{Allowed, Grown}
use Rattle.lu_proof_lawful.proofs.Preconditions.Lists.{self, life_self}
use Rattle.lu_proof_lawful.proofs.Preconditions.Parts.{life_is_of}
use Rattle.lu_proof_lawful.proofs.Invariants.Groups.{turn}
use Rattle.lu_proof_lawful.proofs.Invariants.TargetGroups.{Hears}
use Rattle.lu_proof_lawful.proofs.Invariants.All.{holds}
use Rattle.lu_proof_lawful.proofs.Laws.Once.{acted_sent}
use Rattle.lu_spec_laws.proofs.Tests.{settled, either_left, either_right}
use Rattle.lu_proof_lawful.proofs.Laws.Lines.{Keeps, holds_before, Nothing}
use Rattle.lu_proof_lawful.proofs.Laws.Facts.{AskedAt, AllAsked}
use Rattle.lu_proof_lawful.proofs.Laws.Commits.{told_committed}
use Rattle.lu_proof_lawful.proofs.Laws.Contents.{contents_alike, asked_before}
use Rattle.lu_proof_lawful.proofs.Laws.Deeds.{ActIs, TxnIs, act_is, txn_is}
use Rattle.lu_proof_lawful.proofs.Laws.Printed.{flip, present_is, own_by, own_story}
use Rattle.lu_proof_lawful.proofs.Laws.Taking.{boot_of}
use Rattle.lu_proof_lawful.proofs.Laws.Notices.{takes_it}
use Rattle.lu_proof_lawful.proofs.Laws.OrderlyQuiet.{Says}
use Rattle.lu_proof_lawful.proofs.Invariants.Lines.{hears_more}

-- ---- what messages carry

abbrev IsSend : Entry → Type 0
IsSend (Send to m) = Unit {0}
IsSend _ = ⊥

-- where a target sends something, its last commit line says what it has committed
level_at : (head : Head) (past : List Line) (stamp : Stamp) (t : ℕ) (e : Entry) → Allowed head past (turn stamp (Target t)) e → IsSend e
    → Grown head past → committed t (printed past) ≡ (server_of head.osts (only t past)).committed.0
level_at head past stamp t e a s g = told_committed head t past g ∙ ⊎_elim
    (λ (q : (disk_of head.osts head.clients (only t past)).committed ≡ (server_of head.osts (only t past)).committed.0). q)
    (λ (c : (to : ℕ) × (batch : Batch) × (more : List Entry) × (closing_of head.clients (only t past) ≡ Commit to batch ∷ more)).
    absurd (subst IsSend (a.shows t (self t) (Commit c.0 c.1) c.2 c.3).0 s))
    ((holds head past g).at t).comes.level

reply_carries : (head : Head) (past : List Line) (stamp : Stamp) (t c : ℕ) (r : ReplyTo)
    → Allowed head past (turn stamp (Target t)) (Send (Client c) (message.Reply r)) → Grown head past
    → MessageAt (printed past) t (message.Reply r)
reply_carries head past stamp t c r a g =
    let ok = a.of t (self t) in
    record {
      present = ap (λ (v : ℕ). Some v) (ap (λ (v : ReplyTo). v.boot) ok.is ∙ sym (boot_of head t past g));
      number = ap (λ (v : ReplyTo). v.committed.0) ok.is ∙ sym (level_at head past stamp t (Send (Client c) (message.Reply r)) a tt g);
    }

block_carries : (head : Head) (past : List Line) (stamp : Stamp) (t c : ℕ) (who : Who) (boot : ℕ) (cookie : Cookie)
    → Allowed head past (turn stamp (Target t)) (Send (Client c) (message.Block who boot cookie)) → Grown head past
    → MessageAt (printed past) t (message.Block who boot cookie)
block_carries head past stamp t c who boot cookie a g = record {
  present =
      ap (λ (v : ℕ). Some v) ((a.of t (self t)).of_boot ∙ sym (boot_of head t past g));
  number = tt;
}

notice_carries : (head : Head) (past : List Line) (stamp : Stamp) (t c : ℕ) (who : Who) (boot : ℕ)
    → Allowed head past (turn stamp (Target t)) (Send (Client c) (message.Evicted who boot)) → Grown head past
    → MessageAt (printed past) t (message.Evicted who boot)
notice_carries head past stamp t c who boot a g = record {
  present =
      ap (λ (v : ℕ). Some v) ((a.of t (self t)).of_boot ∙ sym (boot_of head t past g));
  number = tt;
}

grant_carries : (head : Head) (past : List Line) (stamp : Stamp) (t c : ℕ) (n : GrantNotice)
    → Allowed head past (turn stamp (Target t)) (Send (Client c) (message.Grant n)) → Grown head past
    → MessageAt (printed past) t (message.Grant n)
grant_carries head past stamp t c n a g =
    let ok = a.of t (self t) in
    record {
      present = ap (λ (v : ℕ). Some v) (ap (λ (v : GrantNotice). v.boot) ok.is ∙ sym (boot_of head t past g));
      number = ap (λ (v : GrantNotice). v.committed.0) ok.is ∙ sym (level_at head past stamp t (Send (Client c) (message.Grant n)) a tt g);
    }

ask_carries : (head : Head) (past : List Line) (stamp : Stamp) (t c : ℕ) (who : Who) (boot : ℕ) (cookie : Cookie) (for_who : Who) (x : Xid)
    → Allowed head past (turn stamp (Target t)) (Send (Client c) (message.Ask who boot cookie for_who x))
    → Grown head past → MessageAt (printed past) t (message.Ask who boot cookie for_who x)
ask_carries head past stamp t c who boot cookie for_who x a g =
    record { present = ap (λ (v : ℕ). Some v) ((a.of t (self t)).of_boot ∙ sym (boot_of head t past g)); number = tt }

up_carries : (head : Head) (past : List Line) (stamp : Stamp) (t c boot : ℕ)
    → Allowed head past (turn stamp (Target t)) (Send (Client c) (message.Up boot)) → Grown head past
    → MessageAt (printed past) t (message.Up boot)
up_carries head past stamp t c boot a g = record {
  present = ap (λ (v : ℕ). Some v)
      ((a.of t (self t)).of_boot ∙ sym (boot_of head t past g));
  number = tt;
}

ready_carries : (head : Head) (past : List Line) (stamp : Stamp) (t c : ℕ) (who : Who) (boot : ℕ) (number : TxnOf)
    → Allowed head past (turn stamp (Target t)) (Send (Client c) (message.Ready who boot number)) → Grown head past
    → MessageAt (printed past) t (message.Ready who boot number)
ready_carries head past stamp t c who boot number a g =
    let ok = a.of t (self t) in
    record {
      present = ap (λ (v : ℕ). Some v) (ok.of_boot ∙ sym (boot_of head t past g));
      number = ap (λ (v : TxnOf). v.0) ok.of_committed ∙ sym (level_at head past stamp t (Send (Client c) (message.Ready who boot number)) a
          tt g);
    }

messages_at : (head : Head) (past : List Line) (l : Line) (later : List PrintedLine) → Allowed head past l.at l.entry → Grown head past
    → Keeps Messages past l later
messages_at head past l later a g = by l.at.node l.entry a
  where
    by : (node : Node) (e : Entry) → Allowed head past (turn l.at.stamp node) e → Says Messages past (turn l.at.stamp node) later e
    by (Client c) (Send to m) k = tt
    by (Target t) (Send (Client c) (message.Reply r)) k = reply_carries head past l.at.stamp t c r k g
    by (Target t) (Send (Client c) (message.Block who boot cookie)) k = block_carries head past l.at.stamp t c who boot cookie k g
    by (Target t) (Send (Client c) (message.Ready who boot number)) k = ready_carries head past l.at.stamp t c who boot number k g
    by (Target t) (Send (Client c) (message.Evicted who boot)) k = notice_carries head past l.at.stamp t c who boot k g
    by (Target t) (Send (Client c) (message.Up boot)) k = up_carries head past l.at.stamp t c boot k g
    by (Target t) (Send (Client c) (message.Grant n)) k = grant_carries head past l.at.stamp t c n k g
    by (Target t) (Send (Client c) (message.Ask who boot cookie for_who x)) k =
        ask_carries head past l.at.stamp t c who boot cookie for_who x k g
    by (Target t) (Send (Client c) m) k = absurd k.ok
    by (Target t) (Send (Target u) m) k = absurd k.ok
    by _ _ k = tt

pub messages : (head : Head) (past : List Line) → Grown head past → Holds Messages (printed past)
messages head past g = holds_before head Messages Nothing (λ l past k. k) (λ past l later a g k. messages_at head past l later a g) past []
    g tt

-- ---- what is heard

-- elements that pass one test stay where those that fail another go
pub any_left : {A : Type 0} (p q : A → Bool) (xs : List A) → ((x : A) → p x ≡ true → q x ≡ true) → list_any p xs ≡ true
    → list_any p (filter q xs) ≡ true
any_left p q [] stay h = h
any_left p q (x ∷ xs) stay h = by (p x) refl h (any_left p q xs stay)
  where
    by : (b : Bool) → p x ≡ b → (b || list_any p xs) ≡ true → (list_any p xs ≡ true → list_any p (filter q xs) ≡ true)
        → list_any p (filter q (x ∷ xs)) ≡ true
    by true e h left = subst (λ ys. list_any p ys ≡ true) (sym (cond-true (q x) (x ∷ filter q xs) (filter q xs) (stay x e)))
        (either_left (list_any p (filter q xs)) e)
    by false e h left = cond_both (q x) (x ∷ filter q xs) (filter q xs) (λ ys. list_any p ys ≡ true) (λ t. either_right (p x) (left h))
        (λ t. left h)

-- a life's number is in flight, or its reply was heard
abbrev FlownOr : ℕ → List Line → Who → ℕ → Type 0
FlownOr t past who x = (has_number x (in_flight t who (printed past)) || has_heard t who x (printed past)) ≡ true

module _ (flight : List RequestOf) (heard : Bool) (x : ℕ) where
  or_more : (a b : Bool) → (b || heard) ≡ true → ((a || b) || heard) ≡ true
  or_more true b h = refl
  or_more false b h = h

  -- one more is sent
  asked_more : (b : Bool) (q : RequestOf) → (has_number x flight || heard) ≡ true
      → (has_number x (if b then q ∷ flight else flight) || heard) ≡ true
  asked_more b q h = cond_both b (q ∷ flight) flight (λ (fs : List RequestOf). (has_number x fs || heard) ≡ true)
      (λ t. or_more (nat_eq q.xid.0 x) (has_number x flight) h) (λ t. h)

  -- it is sent itself
  asked_now : (r : RequestOf) → r.xid.0 ≡ x → (o a : Bool) → o ≡ true → has_number x flight ≡ a → (b : Bool)
      → (has_number x (if o && not a && not b then r ∷ flight else flight) || b) ≡ true
  asked_now r e true true is n b = either_left b n
  asked_now r e true false is n true = either_right (has_number x flight) refl
  asked_now r e true false is n false = either_left false (either_left (has_number x flight)
      (subst (λ (v : ℕ). nat_eq r.xid.0 v ≡ true) e (self r.xid.0)))
  asked_now r e false a is n b = absurd (cc)

  -- one is heard
  heard_more : (y : ℕ) (a b : Bool) → nat_eq y x ≡ b → (has_number x flight || heard) ≡ true
      → (has_number x (if a then without_number y flight else flight) || ((a && b) || heard)) ≡ true
  heard_more y false b e h = h
  heard_more y true true e h = either_right (has_number x (without_number y flight)) refl
  heard_more y true false e h = by (has_number x flight) refl h
    where
      other : (r : RequestOf) → nat_eq r.xid.0 x ≡ true → not (nat_eq r.xid.0 y) ≡ true
      other r s = let k = eqb-true r.xid.0 x s in settled (nat_eq r.xid.0 y) (grind (arith, nat_tests))

      by : (v : Bool) → has_number x flight ≡ v → (v || heard) ≡ true → (has_number x (without_number y flight) || heard) ≡ true
      by true n h = either_left heard (any_left (λ (r : RequestOf). nat_eq r.xid.0 x) (λ (r : RequestOf). not (nat_eq r.xid.0 y)) flight
          other n)
      by false n h = either_right (has_number x (without_number y flight)) h

sent_flies : (t : ℕ) (past : List Line) (who : Who) (r : RequestOf) (from : Node) → r.who ≡ who
    → Was past from (Target t) (message.Request r) → FlownOr t past who r.xid.0
sent_flies t [] who r from w s = absurd s
sent_flies t (l ∷ past) who r from w s = by l.entry s (sent_flies t past who r from w)
  where
    sends : (to : Node) (m : Message) → FlownOr t past who r.xid.0 → FlownOr t (line l.at (Send to m) ∷ past) who r.xid.0
    sends to (message.Request q) h = asked_more (in_flight t who (printed past)) (has_heard t who r.xid.0 (printed past)) r.xid.0 _ q h
    sends to _ h = h

    now : FlownOr t (line l.at (Send (Target t) (message.Request r)) ∷ past) who r.xid.0
    now =
        let flight = in_flight t who (printed past) in
        let heard = has_heard t who r.xid.0 (printed past) in
        let mine : is_of t who (Target t) r ≡ true = subst (λ (v : Who). (nat_eq t t && same_life r.who v) ≡ true) w
        (rw (self t) (life_self r.who)) in
        asked_now flight heard r.xid.0 r refl (is_of t who (Target t) r) (has_number r.xid.0 flight) mine refl heard

    by : (e : Entry) → Was (line l.at e ∷ past) from (Target t) (message.Request r)
        → (Was past from (Target t) (message.Request r) → FlownOr t past who r.xid.0) → FlownOr t (line l.at e ∷ past) who r.xid.0
    by (Send to m) s h = ⊎_elim
        (λ (p : (l.at.node ≡ from) × (to ≡ Target t) × (m ≡ message.Request r)).
        subst (λ (v : Message). FlownOr t (line l.at (Send to v) ∷ past) who r.xid.0) (sym p.2)
        (subst (λ (v : Node). FlownOr t (line l.at (Send v (message.Request r)) ∷ past) who r.xid.0) (sym p.1) now))
        (λ (p : Was past from (Target t) (message.Request r)). sends to m (h p))
        s
    by (Hears_ u f k) s h =
        heard_more (in_flight t who (printed past)) (has_heard t who r.xid.0 (printed past)) r.xid.0 k.xid.0
        (is_by who (printed past) l.at.node && nat_eq u t) (nat_eq k.xid.0 r.xid.0) refl (h s)
    by _ s h = h s

hears_still : (t : ℕ) (l : Line) (past : List Line) (who : Who) (x : ℕ) → Hears (only t past) who x → Hears (only t (l ∷ past)) who x
hears_still t l past who x h = cond_both (concerns t l.at.node l.entry) (l ∷ only t past) (only t past) (λ (p : List Line). Hears p who x)
    (λ o. hears_more l (only t past) who x h) (λ o. h)

-- what a life heard by the laws, it heard
life_heard : (head : Head) (t : ℕ) (past : List Line) → Grown head past → (who : Who) (x : ℕ) → has_heard t who x (printed past) ≡ true
    → Hears (only t past) who x
life_heard head t [] g who x i = absurd (cc)
life_heard head t (l ∷ past) g who x i = by l.at.node l.entry g.0 i (life_heard head t past g.1 who x)
  where
    here : (d u : ℕ) (f : Flight) (r : ReplyTo) → Allowed head past (turn l.at.stamp (Client d)) (Hears_ u f r)
        → (is_by who (printed past) (Client d) && nat_eq u t && nat_eq r.xid.0 x) ≡ true
        → Hears (only t (line (turn l.at.stamp (Client d)) (Hears_ u f r) ∷ past)) who x
    here d u f r k p =
        let a = and_parts (is_by who (printed past) (Client d) && nat_eq u t) _ p in
        let b = and_parts (is_by who (printed past) (Client d)) _ a.0 in
        let own : is_own who (only t past) (Client d) ≡ true = sym (own_by head who past (Client d) g.1 ∙ own_story t who past (Client d))
        ∙ b.0 in
        let there : nat_eq t u ≡ true = flip t u ∙ b.1 in
        let y = (k.of t there).xid in
        subst (λ (v : Bool). Hears (if v then line (turn l.at.stamp (Client d)) (Hears_ u f r) ∷ only t past else only t past) who x)
        (sym there) (inl (own, y ∙ eqb-true r.xid.0 x a.1))

    by : (node : Node) (e : Entry) → Allowed head past (turn l.at.stamp node) e
        → has_heard t who x (printed (line (turn l.at.stamp node) e ∷ past)) ≡ true
        → (has_heard t who x (printed past) ≡ true → Hears (only t past) who x)
        → Hears (only t (line (turn l.at.stamp node) e ∷ past)) who x
    by (Target v) (Hears_ u f r) k i h = absurd k.ok
    by (Client d) (Hears_ u f r) k i h = ⊎_elim
        (λ (p : (is_by who (printed past) (Client d) && nat_eq u t && nat_eq r.xid.0 x) ≡ true). here d u f r k p)
        (λ (p : has_heard t who x (printed past) ≡ true). hears_still t (line (turn l.at.stamp (Client d)) (Hears_ u f r)) past who x (h p))
        (or_cases (is_by who (printed past) (Client d) && nat_eq u t && nat_eq r.xid.0 x) (has_heard t who x (printed past)) i)
    by node e k i h = hears_still t (line (turn l.at.stamp node) e) past who x (h i)

reply_heard : (head : Head) (past : List Line) (stamp : Stamp) (c t : ℕ) (f : Flight) (r : ReplyTo)
    → Allowed head past (turn stamp (Client c)) (Hears_ t f r) → Grown head past
    → HeardAt (printed past) (turn stamp (Client c)) (who_is c (printed past)) t r.xid.0
reply_heard head past stamp c t f r a g =
    let at = turn stamp (Client c) in
    let ok = a.of t (self t) in
    let h = (holds head past g).at t in
    let mine : r.who ≡ who_is c (printed past) = ok.who ∙ sym (life_is_of c t past) ∙ sym (present_is head c past g) in
    let took = takes_it head past at (Target t) (message.Reply r) g a.ok.1 in
    let fits : as_reply t r.who r.xid.0 (Target t) (message.Reply r) ≡ Some r = by (same_life r.who r.who) (life_self r.who) in
    let m = h.done.sent (Target ok.from) (Client c) (message.Reply r) ok.was in
    let sent = acted_sent head past t m.deed g m.acted in
    let who : sent.0.who ≡ r.who = sent.2 ∙ ap (λ (v : ReplyTo). v.who) (sym m.is) in
    let x : sent.0.xid.0 ≡ r.xid.0 = ap (λ (v : Xid). v.0) sent.3 ∙ ap (λ (v : ReplyTo). v.xid.0) (sym m.is) in
    let flown = subst (λ (v : ℕ). FlownOr t past r.who v) x (sent_flies t past r.who sent.0 sent.1.0 who sent.1.1) in
    let unheard : has_heard t r.who r.xid.0 (printed past) ≡ true → ⊥ =
    λ e. (h.numbers.over r.who r.xid.0 (life_heard head t past g r.who r.xid.0 e)).1 f
    (subst (λ (v : Who). In f (flights_of v (only t past))) (sym ok.who) ok.flying) ok.xid in
    subst (λ (v : Who). HeardAt (printed past) at v t r.xid.0) mine
    (record {
      reply = ap (λ (v : List Sending). is_some (first_fit (λ s. as_reply t r.who r.xid.0 s.from s.message) v)) took.1
          ∙ ap (λ (o : Option ReplyTo). is_some (or_else o (first_fit (λ s. as_reply t r.who r.xid.0 s.from s.message) took.0))) fits;
      flies = in_flight_then (has_number r.xid.0 (in_flight t r.who (printed past))) (has_heard t r.who r.xid.0 (printed past)) flown
          unheard;
    })
  where
    by : (b : Bool) → b ≡ true → (if nat_eq t t && (b && nat_eq r.xid.0 r.xid.0) then Some r else None) ≡ Some r
    by true e = rw (self t, self r.xid.0) refl
    by false e = absurd (cc)

    in_flight_then : (a b : Bool) → (a || b) ≡ true → (b ≡ true → ⊥) → a ≡ true
    in_flight_then true b e n = refl
    in_flight_then false true e n = absurd (n refl)
    in_flight_then false false e n = absurd (cc)

heard_at : (head : Head) (past : List Line) (l : Line) (later : List PrintedLine) → Allowed head past l.at l.entry → Grown head past
    → Keeps Heard past l later
heard_at head past l later a g = by l.at.node l.entry a
  where
    by : (node : Node) (e : Entry) → Allowed head past (turn l.at.stamp node) e → Says Heard past (turn l.at.stamp node) later e
    by (Client c) (Hears_ t f r) k = reply_heard head past l.at.stamp c t f r k g
    by (Target u) (Hears_ t f r) k = absurd k.ok
    by _ _ k = tt

pub heard : (head : Head) (past : List Line) → Grown head past → Holds Heard (printed past)
heard head past g = holds_before head Heard Nothing (λ l past k. k) (λ past l later a g k. heard_at head past l later a g) past [] g tt

-- ---- answers

abbrev told_of : Deed → TxnOf → Operation
told_of d number = record { number = number; who = d.reply.who; op = d.op }

act_answers : (head : Head) (past : List Line) (at : At) (d : Deed) → Grown head past → AllAsked past → AskedAt 0 past d
    → ActIs head.osts (server_at head.osts 0 past) at d → AnswerOf head.osts (printed past) none d.reply.who d.reply.answer false
    (asked (printed past) 0 d.reply.who d.reply.xid.0)
act_answers head past at d g a asks is =
    let alike = contents_alike head past g a (told_of d none) in
    subst (AnswerOf head.osts (printed past) none d.reply.who d.reply.answer false) (sym asks)
    (record {
      same = is.answered ∙ ap (λ (n : TxnOf). answer head.osts (server_at head.osts 0 past).tree (told_of d n)) is.txn ∙ sym alike.answer;
      kind = alike.changes ∙ ap (λ (n : TxnOf). changes head.osts (server_at head.osts 0 past).tree (told_of d n)) (sym is.txn) ∙ is.still;
    })

txn_answers : (head : Head) (past : List Line) (at : At) (d : Deed) → Grown head past → AllAsked past → AskedAt 0 past d
    → TxnIs head.osts (server_at head.osts 0 past) at d
    → AnswerOf head.osts (printed past) d.reply.txn d.reply.who d.reply.answer true (asked (printed past) 0 d.reply.who d.reply.xid.0)
txn_answers head past at d g a asks is =
    let alike = contents_alike head past g a (operation d) in
    subst (AnswerOf head.osts (printed past) d.reply.txn d.reply.who d.reply.answer true) (sym asks)
    (record { same = is.answered ∙ sym alike.answer; kind = alike.changes ∙ is.moves })

answers_at : (head : Head) (past : List Line) (l : Line) (later : List PrintedLine) → Allowed head past l.at l.entry → Grown head past
    → AllAsked (l ∷ past) → Keeps (Answers head.osts) past l later
answers_at head past l later a g asks = by l.at.node l.entry a asks
  where
    by : (node : Node) (e : Entry) → Allowed head past (turn l.at.stamp node) e → AllAsked (line (turn l.at.stamp node) e ∷ past)
        → Says (Answers head.osts) past (turn l.at.stamp node) later e
    by (Client c) (Act d) k asks = absurd k.ok
    by (Client c) (Made d) k asks = absurd k.ok
    by (Target zero) (Act d) k asks = act_answers head past (turn l.at.stamp (Target 0)) d g asks.1 (asks.0 0 refl)
        (act_is head past l.at.stamp d k)
    by (Target (suc t)) (Act d) k asks = tt
    by (Target zero) (Made d) k asks = txn_answers head past (turn l.at.stamp (Target 0)) d g asks.1 (asks.0 0 refl)
        (txn_is head past l.at.stamp d k)
    by (Target (suc t)) (Made d) k asks = tt
    by _ _ k asks = tt

pub answers : (head : Head) (past : List Line) → Grown head past → AllAsked past → Holds (Answers head.osts) (printed past)
answers head past g a = holds_before head (Answers head.osts) AllAsked asked_before
    (λ past l later a g k. answers_at head past l later a g k) past [] g a
