-- What a transaction, a reply where it is sent first, and the grant of a lock that had waited say was seen, is what the law sees in the
-- printed past.
use Rattle.std.proofs.Common.{◌≡◌, ℕ, zero, suc, ◌+◌, ◌/◌, ◌<◌, ◌≤◌, max, Bool, true, false, List, [], ◌∷◌, ◌++◌, Option, Some, None, ◌⊎◌}
use Rattle.std.proofs.Common.{inl, inr, ⊎_elim, refl, sym, subst, ap, ◌∙◌, arith}
use Rattle.std.specs.Prelude.{nat_eq, ◌&&◌, ◌||◌, if◌then◌else◌}
use Rattle.std.specs.Bool.{then_some}
use Rattle.std.proofs.lemmas.Bool.{and_parts, cond-true, eqb-true}
use Rattle.lu_base.specs.declared.ids.At.{At}
use Rattle.lu_base.specs.declared.ids.Cookie.{Cookie}
use Rattle.lu_base.specs.declared.ids.Stamp.{Stamp}
use Rattle.lu_base.specs.declared.ids.Node.{Node}
use Rattle.lu_base.specs.declared.ids.Node.TheVariants.{Client, Target}
use Rattle.lu_base.specs.declared.ids.Txn.{Txn}
use Rattle.lu_base.specs.declared.ids.Who.{Who}
use Rattle.lu_base.specs.declared.locks.Lock.{Lock}
use Rattle.lu_base.specs.declared.locks.Policy.{Policy}
use Rattle.lu_base.specs.declared.locks.Policy.TheVariants.{Bits, Range}
use Rattle.lu_base.specs.declared.locks.Resource.{Resource}
use Rattle.lu_msg.specs.declared.answers.Answer.{Answer}
use Rattle.lu_msg.specs.declared.answers.Answer.TheVariants as told
use Rattle.lu_msg.specs.declared.messages.GrantNotice.{GrantNotice}
use Rattle.lu_msg.specs.declared.messages.Message.{Message}
use Rattle.lu_msg.specs.declared.messages.Message.TheVariants as message
use Rattle.lu_msg.specs.declared.messages.Reply.{Reply as ReplyTo}
use Rattle.lu_msg.specs.declared.messages.Request.{Request as RequestOf}
use Rattle.lu_msg.specs.declared.operations.Op.{Op}
use Rattle.lu_msg.specs.declared.operations.Op.TheVariants as op
use Rattle.lu_part.specs.declared.parts.Part.{Part}
use Rattle.lu_spec_machine.specs.Tree.{same_life}
use Rattle.lu_spec_machine.specs.Footprint.{touches}
use Rattle.lu_spec_machine.specs.Objects.{range, object_touches}
use Rattle.lu_spec_entries.specs.Carried.{Deed}
use Rattle.lu_spec_entries.specs.Words.{Entry, Send, Take, Act, Txn as Made, Grant, Wait, Answers as Responds, Line, line, turn_before}
use Rattle.lu_spec_entries.specs.Concerns.{concerns, only}
use Rattle.lu_spec_entries.specs.Sent.{Sent}
use Rattle.lu_spec_entries.specs.Printed.{printed}
use Rattle.lu_spec_client.specs.Caches.{granted_lock}
use Rattle.lu_spec_target.specs.Phase.{first_of}
use Rattle.lu_spec_target.specs.Queues.{extent_in, extent_of}
use Rattle.lu_proof_lawful.specs.Covered.ClientStates.{brings_cookie}
use Rattle.lu_proof_lawful.specs.Covered.TargetParts.{operation}
use Rattle.lu_proof_lawful.specs.Covered.TargetStates.{tree_at, server_of, seen_in}
use Rattle.lu_proof_lawful.specs.Covered.TargetCloses.{but_first, closing_of}
use Rattle.lu_proof_lawful.specs.Covered.Heads.{Head}
use Rattle.lu_spec_laws.specs.Words.Pasts.{same_turn, or_else}
use Rattle.lu_spec_laws.specs.Words.Scopes.{only_here, last_at}
use Rattle.lu_spec_laws.specs.Words.Sends.{Sending, sending, with_taken, taken}
use Rattle.lu_spec_laws.specs.Words.Requests.{asked}
use Rattle.lu_spec_laws.specs.Words.Boots.{committed, greatest}
use Rattle.lu_spec_laws.specs.Words.Seen.{touches_of, seen_by, granted_as, restored_as, policy_touches, granted_touches}
use Rattle.lu_spec_laws.specs.Laws.Recovery as law
use Rattle.lu_spec_laws.specs.Laws.Recovery.{request_sees, TransactionAt, is_size_for, is_executed, other_than, reply_seen, ReplyAt}
use Rattle.lu_spec_laws.specs.Laws.Recovery.{NoticeAt}
use Rattle.lu_proof_lawful.proofs.Preconditions.Guards.{In, Was, HasRange, Later, Steps, Did, Taken, RepliesNow, GrantedNow, SoughtNow}
use Rattle.lu_proof_lawful.proofs.Preconditions.Guards.{TookNow, TookRequest, IsTurnOf, EntryOk}
use Rattle.lu_proof_lawful.proofs.Preconditions.StoryGuards.{GivesOk, RangeOk, WaitOk, AnswersOk}
use Rattle.lu_proof_lawful.proofs.Preconditions.Acts.{Acted as ActedSo, acted, acts_sized, range_acted, wait_acted, responded}
use Rattle.lu_proof_lawful.proofs.Preconditions.Acts.{responds_acted}
use Rattle.lu_proof_lawful.proofs.Preconditions.ClientLines.{IsNames, asked_names, some_is}
use Rattle.lu_proof_lawful.proofs.Preconditions.Grown.{Allowed, Grown}
use Rattle.lu_proof_lawful.proofs.Preconditions.Only.{grown_of, sent_was}
use Rattle.lu_proof_lawful.proofs.Preconditions.Parts.{server_is}
use Rattle.lu_proof_lawful.proofs.Preconditions.Lists.{self, turn_trans, turn_irreflexive, life_is, life_self}
use Rattle.lu_proof_lawful.proofs.Invariants.Groups.{turn}
use Rattle.lu_proof_lawful.proofs.Invariants.TargetGroups.{Acted, Gave}
use Rattle.lu_proof_lawful.proofs.Invariants.All.{holds}
use Rattle.lu_proof_lawful.proofs.Invariants.DoneGrows.{did_acted}
use Rattle.lu_proof_lawful.proofs.Invariants.Lines.{acted_more, acted_whole}
use Rattle.lu_proof_lawful.proofs.Invariants.ObjectDeeds.{ToldOn, range_told, wait_told, sized_told, answers_told, makes}
use Rattle.lu_proof_lawful.proofs.Invariants.Sides.{acted_kind, acted_bare}
use Rattle.lu_proof_lawful.proofs.Laws.Story.{target_is}
use Rattle.lu_proof_lawful.proofs.Laws.Turns.{later_before, same_turn_is, same_turn_self}
use Rattle.lu_proof_lawful.proofs.Laws.Printed.{flip, sending_is}
use Rattle.lu_proof_lawful.proofs.Laws.Taking.{either_way, boot_of}
use Rattle.lu_proof_lawful.proofs.Laws.Once.{NoneNow, does, txn_now, asked_of}
use Rattle.lu_proof_lawful.proofs.Laws.Given.{ranged, owed, Showed, all_given, showed_gave}
use Rattle.lu_proof_lawful.proofs.Laws.Facts.{AskedAt, AllAsked}
use Rattle.lu_proof_lawful.proofs.Laws.Contents.{number_in_boot, asked_before, contents_alike}
use Rattle.lu_proof_lawful.proofs.Laws.SeenNumbers.{write_at, seen_is}
use Rattle.lu_proof_lawful.proofs.Laws.Commits.{told_level}
use Rattle.lu_proof_lawful.proofs.Laws.CloseLost.{made_of, made_acted}
use Rattle.lu_proof_lawful.proofs.Laws.CloseLines.{IsShow, nothing_left}
use Rattle.lu_proof_lawful.proofs.Laws.KeptReplies.{replied_acted}
use Rattle.lu_proof_lawful.proofs.Laws.Deeds.{act_is, txn_is}

-- ---- turns

-- what was done was done in an earlier turn than any later one
acted_before : (head : Head) (past : List Line) (at : At) (d : Deed) → Grown head past → Later past at → Acted past d
    → turn_before d.reply.at at ≡ true
acted_before head [] at d g later a = absurd a
acted_before head (l ∷ past) at d g later a =
    ⊎_elim
    (λ (e : d.reply.at ≡ l.at). subst (λ (v : At). turn_before v at ≡ true) (sym e) later)
    (λ (e : turn_before d.reply.at l.at ≡ true). turn_trans d.reply.at l.at at e later)
    ((holds head (l ∷ past) g).reaches.acted d a)

-- two turns of which one is before the other aren't the same
apart : (a b : At) → turn_before a b ≡ true → same_turn a b ≡ false
apart a b e = by (same_turn a b) refl
  where
    by : (s : Bool) → same_turn a b ≡ s → s ≡ false
    by true q = absurd (turn_irreflexive b (subst (λ (v : At). turn_before v b ≡ true) (same_turn_is a b q) e))
    by false q = refl

-- a turn that hasn't begun has taken nothing
none_taken : (head : Head) (past : List Line) (at : At) → Grown head past → Later past at → taken (printed past) at ≡ []
none_taken head [] at g later = refl
none_taken head (l ∷ past) at g later = by l.entry (none_taken head past at g.1 (later_before l past at g.0.steps later))
  where
    by : (e : Entry) → taken (printed past) at ≡ [] → taken (printed (line l.at e ∷ past)) at ≡ []
    by (Take n from m) h = ap (λ (b : Bool). if b then with_taken (sending (printed past) n) (taken (printed past) at)
        else taken (printed past) at) (apart l.at at later) ∙ h
    by _ h = h

not_now : (past : List Line) (at : At) (k : ReplyTo) → turn_before k.at at ≡ true → is_size_for k.who k.xid.0 (taken (printed past) at)
    ≡ false → is_executed (printed past) at k ≡ true → ⊥
not_now past at k before none e = by (same_turn k.at at) (is_size_for k.who k.xid.0 (taken (printed past) at)) (apart k.at at before) none e
  where
    by : (a b : Bool) → a ≡ false → b ≡ false → (a || b) ≡ true → ⊥
    by true b p q e = absurd (cc)
    by false true p q e = absurd (cc)
    by false false p q e = absurd (cc)

-- where a line comes that shows nothing of a close
pub none_left : (head : Head) (past : List Line) (stamp : Stamp) (t : ℕ) (e : Entry) → Allowed head past (turn stamp (Target t)) e
    → (IsShow e → ⊥) → closing_of head.clients (only t past) ≡ []
none_left head past stamp t e k n = nothing_left head (only t past) (turn stamp (Target t)) e
    (λ next more q. k.shows t (self t) next more q) n

-- the committed number by the lines is that of the story
abbrev Level : Head → ℕ → List Line → Type 0
Level head t past = committed t (printed past) ≡ (server_of head.osts (only t past)).committed.0

level_at : (head : Head) (past : List Line) (stamp : Stamp) (t : ℕ) (e : Entry) → Grown head past
    → Allowed head past (turn stamp (Target t)) e → (IsShow e → ⊥) → Level head t past
level_at head past stamp t e g k n = told_level head t past g (none_left head past stamp t e k n)

-- it stays that with a line that shows nothing
level_after : (head : Head) (past : List Line) (stamp : Stamp) (t : ℕ) (e : Entry) → Grown head (line (turn stamp (Target t)) e ∷ past)
    → (IsShow e → ⊥)
    → (closing_of head.clients (line (turn stamp (Target t)) e ∷ only t past) ≡ but_first (closing_of head.clients (only t past)))
    → Level head t (line (turn stamp (Target t)) e ∷ past)
level_after head past stamp t e g n q =
    let none = none_left head past stamp t e g.0 n in
    told_level head t (line (turn stamp (Target t)) e ∷ past) g
    (either_way (closing_of head.clients) (line (turn stamp (Target t)) e) (only t past) (nat_eq t t) (q ∙ ap but_first none ∙ sym none)
    ∙ none)

-- ---- a deed's seen numbers, by the law, after a past

abbrev law_seen : ℕ → ℕ → List Line → Deed → List ℕ
law_seen osts t past d = request_sees osts t (printed past) d.reply.txn d.reply.who d.reply.xid.0 d.reply.answer

-- on names
names_seen : (head : Head) (past : List Line) (d : Deed) → Grown head past → AllAsked past → AskedAt 0 past d → Level head 0 past
    → law_seen head.osts 0 past d ≡ seen_in (touches head.osts (tree_at head.osts 0 past) (operation d))
    (server_of head.osts (only 0 past)).log
names_seen head past d g a asks level =
    ap (λ o. seen_by head.osts 0 (printed past) (touches_of head.osts 0 (printed past) d.reply.txn d.reply.who o d.reply.answer)) asks
    ∙ ap (λ (ps : List Part). seen_by head.osts 0 (printed past) ps) (contents_alike head past g a (operation d)).touches
    ∙ seen_is head 0 past g (touches head.osts (tree_at head.osts 0 past) (operation d)) a level

-- on an object
object_seen : (head : Head) (t : ℕ) (past : List Line) (d : Deed) → 0 < t → Grown head past → AllAsked past → AskedAt t past d
    → Level head t past
    → law_seen head.osts t past d ≡ seen_in (object_touches d.op d.reply.answer) (server_of head.osts (only t past)).log
object_seen head zero past d high g a asks level = absurd (omega (arith, high))
object_seen head (suc t) past d high g a asks level =
    ap (λ o. seen_by head.osts (suc t) (printed past) (touches_of head.osts (suc t) (printed past) d.reply.txn d.reply.who o
    d.reply.answer)) asks
    ∙ seen_is head (suc t) past g (object_touches d.op d.reply.answer) a level

-- ---- transactions

-- none is above the greatest that the target has made
greatest_low : (head : Head) (t : ℕ) (past : List Line) (n : ℕ) → Grown head past
    → ((d : Deed) → In d (made_of (only t past)) → d.reply.txn.0 ≤ n) → greatest t (printed past) ≤ n
greatest_low head t [] n g h = omega arith
greatest_low head t (l ∷ past) n g h = by l.at.node l.entry g.0.ok h (greatest_low head t past n g.1)
  where
    P : List Line
    P = only t past

    Low : List Line → Type 0
    Low p = (d : Deed) → In d (made_of p) → d.reply.txn.0 ≤ n

    own : (u : ℕ) (d : Deed) (a b : Bool) → a ≡ b → Low (if b then line (turn l.at.stamp (Target u)) (Made d) ∷ P else P)
        → (Low P → greatest t (printed past) ≤ n) → (if a then max (greatest t (printed past)) d.reply.txn.0 else greatest t (printed past))
        ≤ n
    own u d true true q h ih = let old = ih (λ e i. h e (inr i)) in let new = h d (inl refl) in omega (arith, old, new)
    own u d false false q h ih = ih h
    own u d true false q h ih = absurd (cc)
    own u d false true q h ih = absurd (cc)

    -- other lines make none
    quiet : (node : Node) (e : Entry) → made_of (line (turn l.at.stamp node) e ∷ P) ≡ made_of P → (b : Bool)
        → Low (if b then line (turn l.at.stamp node) e ∷ P else P) → (Low P → greatest t (printed past) ≤ n) → greatest t (printed past) ≤ n
    quiet node e q true h ih = ih (λ d i. h d (subst (λ (ds : List Deed). In d ds) (sym q) i))
    quiet node e q false h ih = ih h

    by : (node : Node) (e : Entry) → EntryOk past (turn l.at.stamp node) node e → Low (only t (line (turn l.at.stamp node) e ∷ past))
        → (Low P → greatest t (printed past) ≤ n) → greatest t (printed (line (turn l.at.stamp node) e ∷ past)) ≤ n
    by (Client c) (Made d) ok h ih = absurd ok
    by (Target u) (Made d) ok h ih = own u d (nat_eq u t) (nat_eq t u) (flip u t) h ih
    by (Client c) e ok h ih = quiet (Client c) e refl (concerns t (Client c) e) h ih
    by (Target u) e ok h ih = quiet (Target u) e refl (concerns t (Target u) e) h ih

-- so its next one is above all
pub greatest_next : (head : Head) (t : ℕ) (past : List Line) → Grown head past
    → greatest t (printed past) ≤ first_of (server_of head.osts (only t past)).boot + (server_of head.osts (only t past)).count
greatest_next head t past g =
    greatest_low head t past (first_of (server_of head.osts (only t past)).boot + (server_of head.osts (only t past)).count) g
    (λ d i. let m = made_acted head (only t past) (grown_of head t past g) d i in ((holds head past g).at t).history.last d m.0 m.1)

-- what it saw
txn_sees : (head : Head) (past : List Line) (stamp : Stamp) (t : ℕ) (d : Deed) → Allowed head past (turn stamp (Target t)) (Made d)
    → Grown head past → AllAsked past → AskedAt t past d → Level head t past → d.reply.seen ≡ law_seen head.osts t past d
txn_sees head past stamp zero d k g a asks level =
    (txn_is head past stamp d k).saw ∙ ap (λ v. seen_in (touches head.osts (tree_at head.osts 0 past) (operation d)) v.log)
    (server_is head.osts 0 past) ∙ sym (names_seen head past d g a asks level)
txn_sees head past stamp (suc t) d k g a asks level =
    let ok = write_at head.osts (only (suc t) past) (turn stamp (Target (suc t))) (suc t) d (omega arith) (k.of (suc t) (self (suc t))) in
    subst (λ (x : Deed). x.reply.seen ≡ seen_in (object_touches x.op x.reply.answer) (server_of head.osts (only (suc t) past)).log)
    (sym ok.is) refl ∙ sym (object_seen head (suc t) past d (omega arith) g a asks level)

pub txn_law : (head : Head) (past : List Line) (stamp : Stamp) (t : ℕ) (d : Deed) → Allowed head past (turn stamp (Target t)) (Made d)
    → Grown head past → AllAsked past → AskedAt t past d
    → TransactionAt t (printed past) d.reply.txn.0 d.reply.seen (law_seen head.osts t past d)
txn_law head past stamp t d k g a asks =
    let m = makes head.osts (only t past) (turn stamp (Target t)) t d (k.of t (self t)) in
    let n = ap (λ (v : Txn). v.0) m.number in
    let le = greatest_next head t past g in
    let few = m.room in
    let v = server_of head.osts (only t past) in
    record {
      above = omega (arith, n, le);
      in_boot = ap (λ (x : ℕ). x / 4294967296) n ∙ number_in_boot v.boot (v.count + 1) (omega (arith, few)) ∙ sym (boot_of head t past g);
      sees = txn_sees head past stamp t d k g a asks (level_at head past stamp t (Made d) g k (λ v. v));
    }

-- ---- replies

-- where nothing was done for the request in that turn
none_seen : (head : Head) (past : List Line) (at : At) (who : Who) (x : ℕ) → Grown head past → NoneNow head past at who x
    → law.seen_in (printed past) at who x ≡ None
none_seen head [] at who x g n = refl
none_seen head (l ∷ past) at who x g n = by l.at.node l.entry g.0 n (none_seen head past at who x g.1)
  where
    by : (node : Node) (e : Entry) → Allowed head past (turn l.at.stamp node) e
        → NoneNow head (line (turn l.at.stamp node) e ∷ past) at who x
        → (NoneNow head past at who x → law.seen_in (printed past) at who x ≡ None)
        → law.seen_in (printed (line (turn l.at.stamp node) e ∷ past)) at who x ≡ None
    by node (Made d) k n h = of (same_life d.reply.who who && nat_eq d.reply.xid.0 x) (same_turn (turn l.at.stamp node) at) refl refl
      where
        of : (own now : Bool) → (same_life d.reply.who who && nat_eq d.reply.xid.0 x) ≡ own → same_turn (turn l.at.stamp node) at ≡ now
            → or_else (only_here (then_some own d.reply.seen) now) (law.seen_in (printed past) at who x) ≡ None
        of true true t s =
            let p = and_parts (same_life d.reply.who who) (nat_eq d.reply.xid.0 x) t in
            let here : d.reply.at ≡ at = (txn_now head past l.at.stamp node d k g.1).turn ∙ same_turn_is (turn l.at.stamp node) at s in
            absurd (n d (inl refl) here (life_is d.reply.who who p.0) (eqb-true d.reply.xid.0 x p.1))
        of true false t s = h (λ e a. n e (inr a))
        of false now t s = h (λ e a. n e (inr a))
    by node e k n h = h (λ d a. n d (acted_more (turn l.at.stamp node) e past d a))

abbrev reply_numbers : ℕ → ℕ → List Line → At → ReplyTo → List ℕ
reply_numbers osts t past at k = reply_seen osts t (printed past) k (law.seen_in (printed past) at k.who k.xid.0)

-- of what was answered without a transaction
plain_reply : (osts t : ℕ) (past : List Line) (at : At) (d : Deed) → d.reply.txn.0 ≡ 0
    → law.seen_in (printed past) at d.reply.who d.reply.xid.0 ≡ None → d.reply.seen ≡ law_seen osts t past d → d.reply.seen
    ≡ reply_numbers osts t past at d.reply
plain_reply osts t past at d number never saw =
    saw ∙ sym (ap (λ (n : ℕ). other_than n (law_seen osts t past d)) number)
    ∙ sym (ap (λ o. reply_seen osts t (printed past) d.reply o) never)

-- nothing was done before for a request that is answered now
new_now : (head : Head) (past : List Line) (stamp : Stamp) (t : ℕ) (at : At) (d : Deed) → Grown head past
    → Steps past (turn stamp (Target t)) → ActedSo head.osts (only t past) at d
    → NoneNow head past (turn stamp (Target t)) d.reply.who d.reply.xid.0
new_now head past stamp t at d g steps k =
    (does head past (turn stamp (Target t)) t (record {
      tag = d.tag;
      op = d.op;
      writes = d.writes;
      reply =
          record d.reply { at = turn stamp (Target t) };
    }) k.request g steps refl refl k.serves k.waits (sym k.who) (sym k.xid) (sym k.of_op)
    (sym k.tag)).now

-- an act
act_reply : (head : Head) (before : List Line) (stamp : Stamp) (d : Deed) → let past = line (turn stamp (Target 0)) (Act d) ∷ before
    in Grown head past → AllAsked past
    → d.reply.seen ≡ reply_numbers head.osts 0 past (turn stamp (Target 0)) d.reply
act_reply head before stamp d g a =
    let level = level_after head before stamp 0 (Act d) g (λ v. v) refl in
    let past = line (turn stamp (Target 0)) (Act d) ∷ before in
    let is = act_is head before stamp d g.0 in
    let never = none_seen head before (turn stamp (Target 0)) d.reply.who d.reply.xid.0 g.1
    (new_now head before stamp 0 (turn stamp (Target 0)) d g.1 g.0.steps
    (acted head.osts (only 0 before) (turn stamp (Target 0)) 0 d (g.0.of 0 refl))) in
    plain_reply head.osts 0 past (turn stamp (Target 0)) d (ap (λ (n : Txn). n.0) is.txn) never
    (is.saw ∙ ap (λ v. seen_in (touches head.osts (tree_at head.osts 0 before) (operation d)) v.log) (server_is head.osts 0 past)
    ∙ sym (names_seen head past d g a (asked_of head past 0 d g (inl refl)) level))

-- what is told of an object
told_reply : (head : Head) (before : List Line) (stamp : Stamp) (t : ℕ) (e : Entry) (at : At) (d : Deed) → let past =
    line (turn stamp (Target t)) e ∷ before in 0 < t → Grown head past → AllAsked past → Level head t past → Acted (only t past) d
    → ((server_of head.osts (only t past)).log ≡ (server_of head.osts (only t before)).log)
    → (law.seen_in (printed past) (turn stamp (Target t)) d.reply.who d.reply.xid.0
    ≡ law.seen_in (printed before) (turn stamp (Target t)) d.reply.who d.reply.xid.0)
    → ToldOn head.osts (only t before) d → ActedSo head.osts (only t before) at d → d.reply.seen
    ≡ reply_numbers head.osts t past (turn stamp (Target t)) d.reply
told_reply head before stamp t e at d high g a level did log same k acts =
    let past = line (turn stamp (Target t)) e ∷ before in
    let never = same ∙ none_seen head before (turn stamp (Target t)) d.reply.who d.reply.xid.0 g.1
    (new_now head before stamp t at d g.1 g.0.steps acts) in
    let saw = subst (λ (x : Deed). x.reply.seen ≡ seen_in (object_touches x.op x.reply.answer) (server_of head.osts (only t before)).log)
    (sym k.is) refl in
    plain_reply head.osts t past (turn stamp (Target t)) d (ap (λ (x : Deed). x.reply.txn.0) k.is) never
    (saw ∙ ap (seen_in (object_touches d.op d.reply.answer)) (sym log)
    ∙ sym (object_seen head t past d high g a (asked_of head past t d g did) level))

-- a transaction
made_reply : (head : Head) (before : List Line) (stamp : Stamp) (t : ℕ) (d : Deed) → let past = line (turn stamp (Target t)) (Made d)
    ∷ before in d.reply.seen ≡ reply_numbers head.osts t past (turn stamp (Target t)) d.reply
made_reply head before stamp t d =
    let at = turn stamp (Target t) in
    let past = line at (Made d) ∷ before in
    let own : (same_life d.reply.who d.reply.who && nat_eq d.reply.xid.0 d.reply.xid.0) ≡ true =
    rw (life_self d.reply.who, self d.reply.xid.0) refl in
    let rest = law.seen_in (printed before) at d.reply.who d.reply.xid.0 in
    let here : or_else (only_here (then_some (same_life d.reply.who d.reply.who && nat_eq d.reply.xid.0 d.reply.xid.0) d.reply.seen)
    (same_turn at at)) rest ≡ Some d.reply.seen = rw (own, same_turn_self at) refl in
    sym (ap (λ o. reply_seen head.osts t (printed past) d.reply o) here)

-- what is done in a target's line is done in its story
acted_there : (t : ℕ) (stamp : Stamp) (e : Entry) (past : List Line) (d : Deed) → Acted (line (turn stamp (Target t)) e ∷ only t past) d
    → Acted (if nat_eq t t then line (turn stamp (Target t)) e ∷ only t past else only t past) d
acted_there t stamp e past d a = subst (λ (p : List Line). Acted p d)
    (sym (cond-true (nat_eq t t) (line (turn stamp (Target t)) e ∷ only t past) (only t past) (self t))) a

-- its log stays
log_same : (osts t : ℕ) (x : Line) (past : List Line) → ((server_of osts (x ∷ past)).log ≡ (server_of osts past).log) → (b : Bool)
    → (server_of osts (if b then x ∷ past else past)).log ≡ (server_of osts past).log
log_same osts t x past q true = q
log_same osts t x past q false = refl

acts_reply : (head : Head) (before : List Line) (stamp : Stamp) (t : ℕ) (d : Deed) → let past = line (turn stamp (Target t)) (Act d)
    ∷ before in Grown head past → AllAsked past
    → d.reply.seen ≡ reply_numbers head.osts t past (turn stamp (Target t)) d.reply
acts_reply head before stamp zero d g a = act_reply head before stamp d g a
acts_reply head before stamp (suc t) d g a =
    let at = turn stamp (Target (suc t)) in
    let ok = acts_sized head.osts (only (suc t) before) at (suc t) d (omega arith) (g.0.of (suc t) (self (suc t))) in
    told_reply head before stamp (suc t) (Act d) at d (omega arith) g a (level_after head before stamp (suc t) (Act d) g (λ v. v) refl)
    (acted_there (suc t) stamp (Act d) before d (inl refl))
    (log_same head.osts (suc t) (line at (Act d)) (only (suc t) before) refl (nat_eq (suc t) (suc t))) refl
    (sized_told head.osts (only (suc t) before) at d ok) (acted head.osts (only (suc t) before) at (suc t) d
    (g.0.of (suc t) (self (suc t))))

-- a lock on names is shown without a change of what is seen
grant_same : (osts t : ℕ) (past : List Line) (x at : At) (lock : Lock) (asked : Option Deed) (r : ReplyTo) → t ≡ 0
    → reply_numbers osts t past at r ≡ reply_numbers osts t (line x (Grant lock asked) ∷ past) at r
grant_same osts zero past x at lock asked r e = refl
grant_same osts (suc t) past x at lock asked r e = absurd (omega (arith, e))

-- what was just done and names this turn was done in it
did_now : (head : Head) (past : List Line) (at : At) (d : Deed) → Grown head past → Steps past at → Did past d → d.reply.at ≡ at
    → IsTurnOf past at
did_now head [] at d g steps i now = absurd i
did_now head (l ∷ past) at d g (inl same) i now = same
did_now head (l ∷ past) at d g (inr lt) i now =
    absurd (turn_irreflexive at (subst (λ (v : At). turn_before v at ≡ true) now
    (acted_before head (l ∷ past) at d g lt (did_acted (l ∷ past) d i))))

-- what the target just did
did_reply : (head : Head) (t : ℕ) (past : List Line) (at : At) (d : Deed) → at.node ≡ Target t → IsTurnOf past at → Grown head past
    → AllAsked past → Did past d → d.reply.seen ≡ reply_numbers head.osts t past at d.reply
did_reply head t [] at d here now g a i = absurd i
did_reply head t (l ∷ past) at d here now g a i =
    subst (λ (v : At). d.reply.seen ≡ reply_numbers head.osts t (l ∷ past) v d.reply) now
    (subst (λ (n : Node). Goal n l.entry) (sym (ap (λ (v : At). v.node) now ∙ here)) (by l.entry) g a i (did_reply head t past))
  where
    Before : Type 0
    Before = (at : At) (d : Deed) → at.node ≡ Target t → IsTurnOf past at → Grown head past → AllAsked past → Did past d → d.reply.seen
        ≡ reply_numbers head.osts t past at d.reply

    Goal : Node → Entry → Type 0
    Goal n e =
        Grown head (line (turn l.at.stamp n) e ∷ past) → AllAsked (line (turn l.at.stamp n) e ∷ past)
        → Did (line (turn l.at.stamp n) e ∷ past) d → Before
        → d.reply.seen ≡ reply_numbers head.osts t (line (turn l.at.stamp n) e ∷ past) (turn l.at.stamp n) d.reply

    here_at : At
    here_at = turn l.at.stamp (Target t)

    -- answered on an object, without a transaction
    told_so : (e : Entry) (at : At) → (Acted (line here_at e ∷ only t past) d)
        → ((server_of head.osts (line here_at e ∷ only t past)).log ≡ (server_of head.osts (only t past)).log)
        → (law.seen_in (printed (line here_at e ∷ past)) here_at d.reply.who d.reply.xid.0
        ≡ law.seen_in (printed past) here_at d.reply.who d.reply.xid.0)
        → 0 < t → ToldOn head.osts (only t past) d → ActedSo head.osts (only t past) at d → Grown head (line here_at e ∷ past)
        → AllAsked (line here_at e ∷ past) → (IsShow e → ⊥)
        → (closing_of head.clients (line here_at e ∷ only t past) ≡ but_first (closing_of head.clients (only t past)))
        → d.reply.seen ≡ reply_numbers head.osts t (line here_at e ∷ past) here_at d.reply
    told_so e at did log same high k acts g a n q =
        told_reply head past l.at.stamp t e at d high g a (level_after head past l.at.stamp t e g n q)
        (acted_there t l.at.stamp e past d did) (log_same head.osts t (line here_at e) (only t past) log (nat_eq t t)) same k acts

    by : (e : Entry) → Goal (Target t) e
    by (Act x) g a i h = subst (λ (v : Deed). v.reply.seen ≡ reply_numbers head.osts t (line here_at (Act x) ∷ past) here_at v.reply) i
        (acts_reply head past l.at.stamp t x g a)
    by (Made x) g a i h = subst (λ (v : Deed). v.reply.seen ≡ reply_numbers head.osts t (line here_at (Made x) ∷ past) here_at v.reply) i
        (made_reply head past l.at.stamp t x)
    by (Grant lock None) g a i h = absurd (cc)
    by (Grant lock (Some x)) g a i h = of g.0.ok
      where
        same : x ≡ d
        same = some_is x d i

        of : EntryOk past here_at (Target t) (Grant lock (Some x)) → d.reply.seen
            ≡ reply_numbers head.osts t (line here_at (Grant lock (Some x)) ∷ past) here_at d.reply
        of (inl ok) =
            let did = subst (λ (v : Deed). Did past v) same ok.1 in
            h here_at d refl (did_now head past here_at d g.1 g.0.steps did (owed past here_at d (Grant lock (Some x)) did g.0.owes)) g.1
            (asked_before (line here_at (Grant lock (Some x))) past a) did
            ∙ grant_same head.osts t past here_at here_at lock (Some x) d.reply ok.0
        of (inr ok) =
            let k = subst (RangeOk head.osts (only t past) here_at lock) same
            (ranged head.osts (only t past) here_at t lock x ok.0 (g.0.of t (self t))) in
            told_so (Grant lock (Some x)) here_at (inl i) refl refl ok.0 (range_told head.osts (only t past) here_at lock d k)
            (range_acted head.osts (only t past) here_at lock d k) g a (λ v. v) refl
    by (Wait lock x) g a i h =
        let k = subst (WaitOk head.osts (only t past) here_at lock) i (g.0.of t (self t)).1 in
        told_so (Wait lock x) here_at (inl i) refl refl g.0.ok.0 (wait_told head.osts (only t past) here_at lock d k)
        (wait_acted head.osts (only t past) here_at lock d k) g a (λ v. v) refl
    by (Responds x) g a i h =
        let k = subst (AnswersOk head.osts (only t past) here_at t) i (g.0.of t (self t)).1 in
        let r = responded head.osts (only t past) here_at t d k in
        told_so (Responds x) r.when (inl i) refl refl g.0.ok.0 (answers_told head.osts (only t past) here_at t d k)
        (responds_acted head.osts (only t past) here_at t d r) g a (λ v. v) refl
    by _ g a i h = absurd i

-- a reply that the target sends
pub reply_law : (head : Head) (past : List Line) (stamp : Stamp) (t c : ℕ) (k : ReplyTo)
    → Allowed head past (turn stamp (Target t)) (Send (Client c) (message.Reply k)) → Grown head past → AllAsked past
    → ReplyAt head.osts t (printed past) (turn stamp (Target t)) k
reply_law head past stamp t c k al g a = by past al g a (acted_whole t past done.0 done.1)
  where
    at : At
    at = turn stamp (Target t)

    done : (d : Deed) × Acted (only t past) d × (k.at ≡ d.reply.at)
    done =
        let ok = al.of t (self t) in
        let d = replied_acted head t past g t c k ok in
        (d.0, d.1, ap (λ (r : ReplyTo). r.at) ok.is ∙ ap (λ (r : ReplyTo). r.at) (sym d.2))

    -- what was done is no part of a later turn
    earlier : (p : List Line) → Grown head p → Later p at → Acted p done.0 → turn_before k.at at ≡ true
    earlier p gp later i = subst (λ (v : At). turn_before v at ≡ true) (sym done.2) (acted_before head p at done.0 gp later i)

    -- a request is no answer of a holder
    no_size : (from to : Node) (m : Message) (r : RequestOf) (o : Option Sending) (ss : List Sending) (b : Bool) → o
        ≡ Some (record { from = from; to = to; message = m }) → m ≡ message.Request r → ss ≡ []
        → is_size_for k.who k.xid.0 (if b then with_taken o ss else ss) ≡ false
    no_size from to m r o ss true p w q =
        ap (λ (v : Option Sending). is_size_for k.who k.xid.0 (with_taken v ss))
        (p ∙ ap (λ (n : Message). Some (record { from = from; to = to; message = n })) w)
        ∙ ap (λ (vs : List Sending). is_size_for k.who k.xid.0 vs) q
    no_size from to m r o ss false p w q = ap (λ (vs : List Sending). is_size_for k.who k.xid.0 vs) q

    -- as a request comes again
    again : (x : Line) (p : List Line) (r : RequestOf) → Grown head (x ∷ p) → Acted (x ∷ p) done.0 → TookRequest (x ∷ p) at r
        → is_executed (printed (x ∷ p)) at k ≡ true → ⊥
    again x p r g i took = of x.entry g.0.ok i took.1
      where
        of : (e : Entry) → EntryOk p x.at x.at.node e → Acted (line x.at e ∷ p) done.0
            → TookNow (line x.at e ∷ p) at took.0 (message.Request r) → is_executed (printed (line x.at e ∷ p)) at k ≡ true → ⊥
        of (Take n from m) ok i q =
            let later : Later p at = subst (λ (v : At). Later p v) q.0 ok.later in
            not_now (line x.at (Take n from m) ∷ p) at k (earlier p g.1 later i)
            (no_size from x.at.node m r (sending (printed p) n) (taken (printed p) at) (same_turn x.at at)
            (sending_is p n from x.at.node m ok.sent) q.2 (none_taken head p at g.1 later))
        of _ ok i q = absurd q

    by : (p : List Line) → Allowed head p at (Send (Client c) (message.Reply k)) → Grown head p → AllAsked p → Acted p done.0
        → ReplyAt head.osts t (printed p) at k
    by [] al g a i e = absurd i
    by (l ∷ p) al g a i e = ⊎_elim now (λ (lt : turn_before l.at at ≡ true). absurd
        (not_now (l ∷ p) at k (earlier (l ∷ p) g lt i) (ap (λ (ss : List Sending). is_size_for k.who k.xid.0 ss)
        (none_taken head (l ∷ p) at g lt)) e)) al.steps
      where
        replies : RepliesNow (l ∷ p) t k
        replies = al.ok.0

        now : l.at ≡ at → k.seen ≡ reply_numbers head.osts t (l ∷ p) at k
        now same =
            ⊎_elim
            (λ (d : (d : Deed) × Did (l ∷ p) d × (d.reply ≡ replies.kept)).
            subst (λ (v : ReplyTo). v.seen ≡ reply_numbers head.osts t (l ∷ p) at v) (sym replies.is)
            (subst (λ (v : ReplyTo). v.seen ≡ reply_numbers head.osts t (l ∷ p) at v) d.2
            (did_reply head t (l ∷ p) at d.0 refl same g a d.1)))
            (λ (took : Taken (l ∷ p)). let r = al.ok.1 took in absurd (again l p r.request g i r.took e))
            replies.now

-- ---- the grant of a lock that had waited

-- what is done on names brings none that waits
names_bring : (o : Op) (a : Answer) (k : ℕ) → IsNames o → brings_cookie o a k ≡ true → ⊥
names_bring (op.Enqueue resource mode extent) a k n e = n
names_bring o a k n e = absurd (cc)

-- who asks where a lock is asks an object storage target
where_object : (head : Head) (past : List Line) (from : Node) (t : ℕ) (who : Who) (boot : ℕ) (cookie : Cookie) → Grown head past
    → Was past from (Target t) (message.Where who boot cookie) → 0 < t
where_object head [] from t who boot cookie g w = absurd w
where_object head (l ∷ past) from t who boot cookie g w = by l.at.node l.entry g.0 w (where_object head past from t who boot cookie g.1)
  where
    awaited : (c u : ℕ) (w : Who) (b : ℕ) (k : Cookie) → Allowed head past (turn l.at.stamp (Client c))
        (Send (Target u) (message.Where w b k)) → 0 < u
    awaited c zero w b k a =
        let ok = a.of 0 refl in
        let q = ((holds head past g.1).at 0).locks.awaits w k.0 ok.awaits in
        absurd (names_bring q.deed.op q.deed.reply.answer k.0 (asked_names q.deed.op (acted_kind head past 0 q.deed g.1 q.acted)) q.brings)
    awaited c (suc u) w b k a = omega arith

    by : (node : Node) (e : Entry) → Allowed head past (turn l.at.stamp node) e
        → Was (line (turn l.at.stamp node) e ∷ past) from (Target t) (message.Where who boot cookie)
        → (Was past from (Target t) (message.Where who boot cookie) → 0 < t) → 0 < t
    by node (Send to m) a (inr p) h = h p
    by (Client c) (Send (Client d) m) a (inl p) h = absurd a.ok
    by (Client c) (Send (Target u) m) a (inl p) h = subst (λ (v : ℕ). 0 < v) (target_is u t p.1)
        (awaited c u who boot cookie (subst (λ (x : Message). Allowed head past (turn l.at.stamp (Client c)) (Send (Target u) x)) p.2 a))
    by (Target u) (Send (Client d) m) a (inl p) h = absurd (let other = p.1 in cc)
    by (Target u) (Send (Target v) m) a (inl p) h = absurd a.ok
    by node e a w h = h w

-- a granted lock on an object is on a range
gave_range : (head : Head) (t : ℕ) (past : List Line) (d : Deed) (l : Lock) → 0 < t → Grown head past → Gave (only t past) d l
    → HasRange l.ask.policy
gave_range head t past d l high g (a, inl i) = by d.op d.reply.answer
    (subst (λ (ls : List Lock). In l (ls ++ granted_lock d.op d.reply d.reply.answer)) (acted_bare head past t d high g a) i)
  where
    by : (o : Op) (w : Answer) → In l (granted_lock o d.reply w) → HasRange l.ask.policy
    by (op.Enqueue resource mode extent) (told.Granted cookie given size) (inl e) = subst (λ (k : Lock). HasRange k.ask.policy) e tt
    by (op.Enqueue resource mode extent) (told.Granted cookie given size) (inr e) = absurd e
    by o w j = absurd j
gave_range head t past d l high g (a, inr p) = (((holds head past g).at t).locks.promoted l p.0).4

-- what its extent is
policy_range : (resource : Resource) (p : Policy) → HasRange p → policy_touches resource p
    ≡ range resource (extent_in p).first (extent_in p).last
policy_range resource (Range extent) h = refl
policy_range resource (Bits bits) h = absurd h

-- the last line that grants a lock of that cookie grants that lock
last_granted : (head : Head) (t : ℕ) (past : List Line) (k : Lock) → Grown head past
    → ((l : Lock) → Showed t past l → l.cookie.0 ≡ k.cookie.0 → l ≡ k) → Showed t past k → last_at (granted_as k.cookie.0) t (printed past)
    ≡ Some k
last_granted head t [] k g one s = absurd s
last_granted head t (l ∷ past) k g one s = by l.at.node l.entry g.0.ok one s (λ o. last_granted head t past k g.1 o)
  where
    Q : Option Lock
    Q = last_at (granted_as k.cookie.0) t (printed past)

    by : (node : Node) (e : Entry) → EntryOk past (turn l.at.stamp node) node e
        → ((x : Lock) → Showed t (line (turn l.at.stamp node) e ∷ past) x → x.cookie.0 ≡ k.cookie.0 → x ≡ k)
        → Showed t (line (turn l.at.stamp node) e ∷ past) k
        → (((x : Lock) → Showed t past x → x.cookie.0 ≡ k.cookie.0 → x ≡ k) → Showed t past k → Q ≡ Some k)
        → last_at (granted_as k.cookie.0) t (printed (line (turn l.at.stamp node) e ∷ past)) ≡ Some k
    by (Client c) (Grant lock asked) ok one s h = absurd ok
    by (Target u) (Grant lock asked) ok one s h = of (nat_eq lock.cookie.0 k.cookie.0) (nat_eq u t) refl refl s
      where
        of : (a b : Bool) → nat_eq lock.cookie.0 k.cookie.0 ≡ a → nat_eq u t ≡ b → ((Target u ≡ Target t) × (lock ≡ k)) ⊎ Showed t past k
            → or_else (only_here (then_some a lock) b) Q ≡ Some k
        of true true p q s = ap Some (one lock (inl (ap Target (eqb-true u t q), refl)) (eqb-true lock.cookie.0 k.cookie.0 p))
        of false b p q (inl r) = absurd (let same = ap (λ (x : Lock). nat_eq x.cookie.0 k.cookie.0) r.1 ∙ self k.cookie.0 in cc)
        of true false p q (inl r) = absurd (let same = subst (λ (v : ℕ). nat_eq v t ≡ true) (sym (target_is u t r.0)) (self t) in cc)
        of false b p q (inr r) = h (λ x i. one x (inr i)) r
        of true false p q (inr r) = h (λ x i. one x (inr i)) r
    by node e ok one s h = h one s

pub notice_law : (head : Head) (past : List Line) (stamp : Stamp) (t c : ℕ) (g : GrantNotice)
    → Allowed head past (turn stamp (Target t)) (Send (Client c) (message.Grant g)) → Grown head past → AllAsked past
    → NoticeAt head.osts t (printed past) g
notice_law head past stamp t c g al gr a =
    subst (λ (n : GrantNotice). NoticeAt head.osts t (printed past) n) (sym ok.is)
    (sym (ap (λ (ps : List Part). seen_by head.osts t (printed past) ps) touched
    ∙ seen_is head t past gr (range lock.resource (extent_of lock).first (extent_of lock).last) a now.2))
  where
    at : At
    at = turn stamp (Target t)

    ok : GivesOk head.osts (only t past) t c g
    ok = al.of t (self t)

    lock : Lock
    lock = ok.lock

    cookie : ℕ → Cookie
    cookie n = record { 0 = n }

    gave : (d : Deed) × Gave (only t past) d lock
    gave = ((holds head past gr).at t).locks.granted lock ok.granted

    Just : List Line → Type 0
    Just p = (0 < t) × ((d : Deed) → Did p d → ⊥) × Level head t p

    -- a line that grants it, or takes the question where it is, comes just before
    just : (p : List Line) → Grown head p → EntryOk p at (Target t) (Send (Client c) (message.Grant g)) → Just p
    just [] gp k = absurd (⊎_elim (λ v. v) (λ (q : SoughtNow [] at g). q.took) k)
    just (l ∷ p) gp k = ⊎_elim (granted_now l.at l.entry gp) (λ (q : SoughtNow (l ∷ p) at g). sought l.at l.entry gp q.from q.boot q.took) k
      where
        here : (a : At) (e : Entry) → a ≡ at → Grown head (line a e ∷ p) → (IsShow e → ⊥)
            → (closing_of head.clients (line at e ∷ only t p) ≡ but_first (closing_of head.clients (only t p)))
            → Level head t (line a e ∷ p)
        here a e w gp n q = subst (λ (v : At). Level head t (line v e ∷ p)) (sym w)
            (level_after head p stamp t e (subst (λ (v : At). Grown head (line v e ∷ p)) w gp) n q)

        granted_now : (a : At) (e : Entry) → Grown head (line a e ∷ p) → GrantedNow (line a e ∷ p) at g → Just (line a e ∷ p)
        granted_now a (Grant k None) gp q = (
          subst (λ (n : Node). EntryOk p a n (Grant k None)) (ap (λ (v : At). v.node) q.0) gp.0.ok,
          λ d i. absurd (cc),
          here a (Grant k None) q.0 gp (λ v. v) refl,
        )
        granted_now a (Grant k (Some d)) gp q = absurd q
        granted_now a e gp q = absurd q

        sought : (a : At) (e : Entry) → Grown head (line a e ∷ p) → (from : Node) (boot : ℕ)
            → TookNow (line a e ∷ p) at from (message.Where g.who boot g.cookie) → Just (line a e ∷ p)
        sought a (Take n from m) gp v boot q = (
          where_object head p from t g.who boot g.cookie gp.1 (subst (λ (x : Message). Was p from (Target t) x) q.2
              (sent_was p n from (Target t) m (subst (λ (w : Node). Sent p n from w m) (ap (λ (w : At). w.node) q.0) gp.0.ok.sent))),
          λ d i. i,
          here a (Take n from m) q.0 gp (λ v. v) refl,
        )
        sought a _ gp v boot q = absurd q

    now : Just past
    now = just past gr al.ok

    shown : Showed t past lock
    shown = ⊎_elim (λ (q : Did past gave.0). absurd (now.1 gave.0 q)) (λ (q : Showed t past lock). q)
        (all_given head past gr t gave.0 lock gave.1)

    last : last_at (granted_as lock.cookie.0) t (printed past) ≡ Some lock
    last = last_granted head t past lock gr (λ l i e. let q = showed_gave head t past l gr i
        in (((holds head past gr).at t).locks.once q.0 gave.0 l lock q.1 gave.1 (ap cookie e)).1) shown

    touched : granted_touches (last_at (granted_as lock.cookie.0) t (printed past)) (last_at (restored_as lock.cookie.0) t (printed past))
        (extent_of lock) ≡ range lock.resource (extent_of lock).first (extent_of lock).last
    touched = ap (λ (o : Option Lock). granted_touches o (last_at (restored_as lock.cookie.0) t (printed past)) (extent_of lock)) last
        ∙ policy_range lock.resource lock.ask.policy (gave_range head t past gave.0 lock now.0 gr gave.1)
