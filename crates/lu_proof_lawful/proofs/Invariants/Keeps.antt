-- What a life keeps of a target for a recovery: of each reply that it heard the transaction, and all numbers that it saw, but for what it
-- was
-- told of as committed, which is committed there.
use Rattle.std.proofs.Common.{◌≡◌, ℕ, ◌<◌, ◌≤◌, Bool, true, false, List, [], ◌∷◌, ◌⊎◌, inl, inr, ⊎_elim, refl, sym, subst, ap, ◌∙◌, arith}
use Rattle.std.specs.Prelude.{nat_eq, ◌&&◌, if◌then◌else◌, Option}
use Rattle.std.proofs.lemmas.Bool.{and_parts}
use Rattle.lu_base.specs.declared.ids.At.{At}
use Rattle.lu_base.specs.declared.ids.Node.{Node}
use Rattle.lu_base.specs.declared.ids.Node.TheVariants.{Client, Target}
use Rattle.lu_base.specs.declared.ids.Stamp.{Stamp}
use Rattle.lu_base.specs.declared.ids.Txn.{Txn}
use Rattle.lu_base.specs.declared.ids.Who.{Who}
use Rattle.lu_base.specs.declared.locks.Lock.{Lock}
use Rattle.lu_msg.specs.declared.commits.Batch.{Batch}
use Rattle.lu_msg.specs.declared.messages.GrantNotice.{GrantNotice}
use Rattle.lu_msg.specs.declared.messages.Message.{Message}
use Rattle.lu_msg.specs.declared.messages.Message.TheVariants as message
use Rattle.lu_msg.specs.declared.messages.Reply.{Reply as ReplyTo}
use Rattle.lu_spec_entries.specs.Carried.{Deed, Flight, Outcome}
use Rattle.lu_spec_entries.specs.Words.{Entry, Send, Heard, Hold, Settles, Life, Commit, Close, Line, line, same_life}
use Rattle.lu_spec_client.specs.Imports.{Replay, Kept, nothing_kept, kept_after, replay_of}
use Rattle.lu_proof_lawful.specs.Covered.TargetStates.{server_of}
use Rattle.lu_proof_lawful.specs.Covered.TargetCloses.{disk_of, outcome_of}
use Rattle.lu_proof_lawful.specs.Covered.ClientStates.{life_of, kept_of, is_own}
use Rattle.lu_proof_lawful.specs.Covered.Heads.{Head}
use Rattle.lu_proof_lawful.proofs.Preconditions.Guards.{In, Was, HeardNow}
use Rattle.lu_proof_lawful.proofs.Preconditions.StoryGuards.{HeardOk, HeldOk, GivenOf, SettlesOk, LifeOf, CommitOk, CloseOk, EntryOf}
use Rattle.lu_proof_lawful.proofs.Preconditions.Lists.{life_is, own_is, own_self}
use Rattle.lu_proof_lawful.proofs.Invariants.Groups.{turn, HeardAs, SawBy, Keeps, HoldsAt}
use Rattle.lu_proof_lawful.proofs.Invariants.TargetGroups.{Flew, SawIn, IsSeen, Done}
use Rattle.lu_proof_lawful.proofs.Invariants.KeptLists.{KeepsFor, for_settled, for_reply, for_shown, for_more, for_nothing, last_news}
use Rattle.lu_proof_lawful.proofs.Invariants.Lives.{new_flew}

-- ---- life by life

keeps_for : (osts : ℕ) (past : List Line) → Keeps osts past → (who : Who)
    → KeepsFor (server_of osts past).committed.0 (HeardAs past who) (SawIn past who) (kept_of who past)
keeps_for osts past h who =
    record {
      committed = h.committed who;
      replay_kept = h.replay_kept who;
      kept_replay = h.kept_replay who;
      seen_kept = h.seen_kept who;
      kept_seen = h.kept_seen who;
      rises = h.replays_rise who;
    }

for_keeps : (osts : ℕ) (past : List Line) → ((who : Who) → KeepsFor (server_of osts past).committed.0 (HeardAs past who) (SawIn past who)
    (kept_of who past)) → ((who : Who) (n : ℕ) → SawIn past who n → SawBy past who n) → Keeps osts past
for_keeps osts past f by =
    record {
      committed = λ who. (f who).committed;
      replay_kept = λ who. (f who).replay_kept;
      kept_replay = λ who. (f who).kept_replay;
      seen_kept = λ who. (f who).seen_kept;
      kept_seen = λ who. (f who).kept_seen;
      saw_by = by;
      replays_rise = λ who. (f who).rises;
    }

pub keeps_start : (osts : ℕ) → Keeps osts []
keeps_start osts = for_keeps osts [] (λ who. for_nothing 0 (HeardAs [] who) (SawIn [] who) 0 (omega arith) (λ f r i. absurd i)
    (λ n i. absurd i)) (λ who n i. absurd i)

-- ---- what a life heard

-- it asked for
pub heard_flew : (osts clients : ℕ) (past : List Line) → Done osts clients past → (who : Who) (f : Flight) (r : ReplyTo)
    → HeardAs past who f r → (g : Flight) × Flew past who g
heard_flew osts clients past k who f r i =
    let a = k.answered who f r i in
    let own : r.who ≡ a.0.reply.who = ap (λ (v : ReplyTo). v.who) a.2 in
    let g = k.flew a.0 a.1 in
    (g.0, subst (λ (w : Who). Flew past w g.0) (sym own ∙ a.3) g.1)

-- and what it saw came to a life that asked for something
pub saw_flew : (osts clients : ℕ) (past : List Line) → Done osts clients past → Keeps osts past → (who : Who) (n : ℕ) → SawIn past who n
    → (g : Flight) × Flew past who g
saw_flew osts clients past k h who n i = let s = h.saw_by who n i in heard_flew osts clients past k who s.0 s.1 s.2

-- what came with a reply that was heard was seen
pub heard_saw : (past : List Line) (who : Who) (f : Flight) (r : ReplyTo) (n : ℕ) → HeardAs past who f r → In n r.seen → SawIn past who n
heard_saw [] who f r n i j = absurd i
heard_saw (l ∷ past) who f r n i j = by l.entry i (λ k. heard_saw past who f r n k j)
  where
    by : (e : Entry) → HeardAs (line l.at e ∷ past) who f r → (HeardAs past who f r → SawIn past who n) → SawIn (line l.at e ∷ past) who n
    by (Heard t g k) i ih = ⊎_elim
        (λ (o : (is_own who past l.at.node ≡ true) × (g ≡ f) × (k ≡ r)). inl (o.0, subst (λ (v : ReplyTo). In n v.seen) (sym o.2) j))
        (λ (o : HeardAs past who f r). inr (ih o))
        i
    by (Hold t lock marked size seen) i ih = inr (ih i)
    by _ i ih = ih i

-- what was seen is committed, or was done
pub saw_done : (head : Head) (past : List Line) → HoldsAt head past → (who : Who) (n : ℕ) → SawIn past who n → IsSeen head.osts past n
saw_done head past h who n i = by s.3
  where
    s : SawBy past who n
    s = h.keeps.saw_by who n i

    by : In n s.1.seen ⊎ ((t c : ℕ) × (g : GrantNotice) × Was past (Target t) (Client c) (message.Grant g) × In n g.seen)
        → IsSeen head.osts past n
    by (inl j) = let d = h.done.answered who s.0 s.1 s.2 in (h.history.saw d.0 n d.1 (subst (λ (x : ReplyTo). In n x.seen) d.2 j)).0
    by (inr g) = (h.done.sent (Target g.0) (Client g.1) (message.Grant g.2) g.3).saw n g.4

-- two replies of one number are to the same, so they leave the same to replay
abbrev replay_for : Deed → Replay
replay_for d = record { txn = d.reply.txn; xid = d.reply.xid; tag = d.tag; seen = d.reply.seen; op = d.op }

replay_is : (f : Flight) (r : ReplyTo) (d : Deed) → r ≡ record d.reply { boot = r.boot; committed = r.committed } → f.op ≡ d.op → f.tag
    ≡ d.tag → replay_of f r ≡ replay_for d
replay_is f r d e op tag =
    let txn : r.txn ≡ d.reply.txn = ap (λ (v : ReplyTo). v.txn) e in
    let xid : r.xid ≡ d.reply.xid = ap (λ (v : ReplyTo). v.xid) e in
    let seen : r.seen ≡ d.reply.seen = ap (λ (v : ReplyTo). v.seen) e in
    cc

pub same_replay : (osts clients : ℕ) (past : List Line) → Done osts clients past → (who : Who) (f g : Flight) (r s : ReplyTo)
    → HeardAs past who f r → HeardAs past who g s → 0 < s.txn.0 → s.txn.0 ≡ r.txn.0 → replay_of g s ≡ replay_of f r
same_replay osts clients past k who f g r s i j pos e =
    let a = k.answered who f r i in
    let b = k.answered who g s j in
    let first : r.txn ≡ a.0.reply.txn = ap (λ (v : ReplyTo). v.txn) a.2 in
    let second : s.txn ≡ b.0.reply.txn = ap (λ (v : ReplyTo). v.txn) b.2 in
    let number : s.txn ≡ r.txn = number_is s.txn r.txn e in
    let made : 0 < b.0.reply.txn.0 = subst (λ (v : Txn). 0 < v.0) second pos in
    let same : b.0 ≡ a.0 = k.single b.0 a.0 b.1 a.1 made (subst (λ (v : Txn). 0 < v.0) (sym second ∙ number ∙ first) made)
    (sym second ∙ number ∙ first) in
    replay_is g s b.0 b.2 b.5 b.6 ∙ ap replay_for same ∙ sym (replay_is f r a.0 a.2 a.5 a.6)
  where
    number_is : (a b : Txn) → a.0 ≡ b.0 → a ≡ b
    number_is a b e = ap (λ (n : ℕ). record { 0 = n }) e

-- what the newest lines show was heard
pub now_heard : (past : List Line) (at : At) (t c : ℕ) (f : Flight) (r : ReplyTo) → HeardNow past at t f r → at.node ≡ Client c
    → HeardAs past (life_of c past) f r
now_heard [] at t c f r h q = absurd h
now_heard (l ∷ past) at t c f r h q = by l.entry h (λ k. now_heard past at t c f r k q)
  where
    by : (e : Entry) → HeardNow (line l.at e ∷ past) at t f r → (HeardNow past at t f r → HeardAs past (life_of c past) f r)
        → HeardAs (line l.at e ∷ past) (life_of c (line l.at e ∷ past)) f r
    by (Heard u g k) h ih = inl (
      subst (λ (n : Node). is_own (life_of c past) past n ≡ true) (sym (ap (λ (v : At). v.node) h.0 ∙ q))
          (own_self past c),
      h.2,
      h.3,
    )
    by (Hold u lock marked size seen) h ih = ih h
    by _ h ih = absurd h

-- ---- what was seen, over a line

saw_more : (past new : List Line) → ((who : Who) (f : Flight) (r : ReplyTo) → HeardAs past who f r → HeardAs new who f r)
    → ((from to : Node) (m : Message) → Was past from to m → Was new from to m) → (who : Who) (n : ℕ) → SawBy past who n → SawBy new who n
saw_more past new heard was who n s = (
  s.0,
  s.1,
  heard who s.0 s.1 s.2,
  ⊎_elim (λ (i : In n s.1.seen). inl i)
      (λ (g : (t c : ℕ) × (g : GrantNotice) × Was past (Target t) (Client c) (message.Grant g) × In n g.seen). inr
      (g.0, g.1, g.2, was (Target g.0) (Client g.1) (message.Grant g.2) g.3, g.4)) s.3,
)

-- ---- a reply is heard

keeps_heard : (head : Head) (past : List Line) (stamp : Stamp) (c t : ℕ) (f : Flight) (r : ReplyTo) → HeardOk past c f r → HoldsAt head past
    → let new = line (turn stamp (Client c)) (Heard t f r) ∷ past in Done head.osts head.clients new → Keeps head.osts new
keeps_heard head past stamp c t f r ok h k = for_keeps head.osts new (λ who. by who (is_own who past (Client c)) refl) saw
  where
    new : List Line
    new = line (turn stamp (Client c)) (Heard t f r) ∷ past

    most : ℕ
    most = (server_of head.osts past).committed.0

    saw : (who : Who) (n : ℕ) → SawIn new who n → SawBy new who n
    saw who n (inl o) = (f, r, inl (o.0, refl, refl), inl o.1)
    saw who n (inr i) = saw_more past new (λ w g s j. inr j) (λ from to m w. w) who n (h.keeps.saw_by who n i)

    by : (who : Who) (b : Bool) → is_own who past (Client c) ≡ b
        → KeepsFor most (HeardAs new who) (SawIn new who) (if b then kept_after (kept_of who past) (Heard t f r) else kept_of who past)
    by who true own =
        for_settled most (HeardAs new who) (SawIn new who) r.committed.0 _
        (h.done.sent (Target ok.from) (Client c) (message.Reply r) ok.was).committed
        (for_reply most (HeardAs past who) (HeardAs new who) (SawIn past who) (SawIn new who) f r (kept_of who past) (inl (own, refl, refl))
        (λ g s i. inr i)
        (λ g s. ⊎_elim (λ (e : (is_own who past (Client c) ≡ true) × (f ≡ g) × (r ≡ s)). inl (e.1, e.2))
        (λ (i : HeardAs past who g s). inr i))
        (record {
          now = λ n i. inl (own, i);
          into = λ n i. inr i;
          out =
              λ n. ⊎_elim (λ (e : (is_own who past (Client c) ≡ true) × In n r.seen). inl e.1) (λ (i : SawIn past who n). inr i);
        })
        (λ g s i pos e. same_replay head.osts head.clients new k who f g r s (inl (own, refl, refl)) (inr i) pos e)
        (keeps_for head.osts past h.keeps who))
    by who false own =
        for_more most most (HeardAs past who) (HeardAs new who) (SawIn past who) (SawIn new who) (kept_of who past) (omega arith)
        (λ g s i. inr i)
        (λ g s. ⊎_elim (λ (e : (is_own who past (Client c) ≡ true) × (f ≡ g) × (r ≡ s)). absurd (let yes = e.0 in cc))
        (λ (i : HeardAs past who g s). i))
        (λ n i. inr i)
        (λ n. ⊎_elim (λ (e : (is_own who past (Client c) ≡ true) × In n r.seen). absurd (let yes = e.0 in cc))
        (λ (i : SawIn past who n). i))
        (keeps_for head.osts past h.keeps who)

-- ---- a lock is held: it came with a reply, or had waited

-- of the life whose line it is
abbrev SawWith : List Line → ℕ → List ℕ → Type 0
SawWith past c seen = (n : ℕ) → In n seen → SawBy past (life_of c past) n

held_saw : (past : List Line) (c t : ℕ) (lock : Lock) (seen : List ℕ) → HeldOk past c t lock seen → SawWith past c seen
held_saw past c t lock seen ok n i = (
  ok.flight,
  ok.reply,
  now_heard past ok.at t c ok.flight ok.reply ok.heard ok.here,
  inl (subst (λ (ns : List ℕ). In n ns) ok.saw i),
)

given_saw : (past : List Line) (c t : ℕ) (lock : Lock) (seen : List ℕ) → GivenOf past c t lock seen → SawWith past c seen
given_saw past c t lock seen ok n i = (
  ok.flight,
  ok.reply,
  subst (λ (w : Who). HeardAs past w ok.flight ok.reply) ok.who ok.heard,
  inr (t, c, ok.notice, ok.was, subst (λ (ns : List ℕ). In n ns) ok.saw i),
)

keeps_hold : (osts : ℕ) (past : List Line) (stamp : Stamp) (c t : ℕ) (lock : Lock) (marked : Bool) (size : Option ℕ) (seen : List ℕ)
    → SawWith past c seen → Keeps osts past → Keeps osts (line (turn stamp (Client c)) (Hold t lock marked size seen) ∷ past)
keeps_hold osts past stamp c t lock marked size seen came h = for_keeps osts new (λ who. by who (is_own who past (Client c)) refl) saw
  where
    new : List Line
    new = line (turn stamp (Client c)) (Hold t lock marked size seen) ∷ past

    most : ℕ
    most = (server_of osts past).committed.0

    saw : (who : Who) (n : ℕ) → SawIn new who n → SawBy new who n
    saw who n (inl o) = subst (λ (w : Who). SawBy past w n) (sym (own_is who past c o.0)) (came n o.1)
    saw who n (inr i) = h.saw_by who n i

    by : (who : Who) (b : Bool) → is_own who past (Client c) ≡ b
        → KeepsFor most (HeardAs past who) (SawIn new who) (if b then kept_after (kept_of who past) (Hold t lock marked size seen)
        else kept_of who past)
    by who true own =
        for_settled most (HeardAs past who) (SawIn new who) 0 _ (omega arith)
        (for_shown most (HeardAs past who) (SawIn past who) (SawIn new who) seen (kept_of who past)
        (record {
          now = λ n i. inl (own, i);
          into = λ n i. inr i;
          out =
              λ n. ⊎_elim (λ (e : (is_own who past (Client c) ≡ true) × In n seen). inl e.1) (λ (i : SawIn past who n). inr i);
        })
        (keeps_for osts past h who))
    by who false own =
        for_more most most (HeardAs past who) (HeardAs past who) (SawIn past who) (SawIn new who) (kept_of who past) (omega arith)
        (λ g s i. i) (λ g s i. i) (λ n i. inr i)
        (λ n. ⊎_elim (λ (e : (is_own who past (Client c) ≡ true) × In n seen). absurd (let yes = e.0 in cc)) (λ (i : SawIn past who n). i))
        (keeps_for osts past h who)

-- ---- more is said to be committed

-- by a target that serves the life, or with the grant of a lock
settles_low : (head : Head) (past : List Line) (c t to : ℕ) → SettlesOk past c t to → HoldsAt head past
    → to ≤ (server_of head.osts past).committed.0
settles_low head past c t to (inl ok) h = (h.done.sent (Target t) (Client c) (message.Ready (life_of c past) ok.boot (record { 0 = to }))
    ok.was).2
settles_low head past c t to (inr ok) h = let le = (h.done.sent (Target t) (Client c) (message.Grant ok.notice) ok.was).committed in let e =
    ok.is in omega (arith, le, e)

keeps_settles : (head : Head) (past : List Line) (stamp : Stamp) (c t to : ℕ) → SettlesOk past c t to → HoldsAt head past
    → Keeps head.osts (line (turn stamp (Client c)) (Settles t to) ∷ past)
keeps_settles head past stamp c t to ok h = for_keeps head.osts (line (turn stamp (Client c)) (Settles t to) ∷ past)
    (λ who. by who (is_own who past (Client c))) h.keeps.saw_by
  where
    most : ℕ
    most = (server_of head.osts past).committed.0

    by : (who : Who) (b : Bool) → KeepsFor most (HeardAs past who) (SawIn past who)
        (if b then kept_after (kept_of who past) (Settles t to) else kept_of who past)
    by who true = for_settled most (HeardAs past who) (SawIn past who) to (kept_of who past) (settles_low head past c t to ok h)
        (keeps_for head.osts past h.keeps who)
    by who false = keeps_for head.osts past h.keeps who

-- ---- a new life has heard and seen nothing

keeps_life : (head : Head) (past : List Line) (stamp : Stamp) (c : ℕ) (new : Who) → LifeOf past c new → HoldsAt head past
    → Keeps head.osts (line (turn stamp (Client c)) (Life new) ∷ past)
keeps_life head past stamp c new ok h = for_keeps head.osts (line (turn stamp (Client c)) (Life new) ∷ past)
    (λ who. by who (nat_eq who.client c && same_life who new) refl) h.keeps.saw_by
  where
    most : ℕ
    most = (server_of head.osts past).committed.0

    by : (who : Who) (b : Bool) → (nat_eq who.client c && same_life who new) ≡ b
        → KeepsFor most (HeardAs past who) (SawIn past who) (if b
        then record nothing_kept { committed = (kept_of (life_of who.client past) past).committed } else kept_of who past)
    by who true e =
        let is : who ≡ new = life_is who new (and_parts (nat_eq who.client c) (same_life who new) e).1 in
        for_nothing most (HeardAs past who) (SawIn past who) (kept_of (life_of who.client past) past).committed
        (h.keeps.committed (life_of who.client past))
        (λ f r i. let a = heard_flew head.osts head.clients past h.done who f r i
        in new_flew head.osts past c new ok h.phase h.numbers a.0 (subst (λ (w : Who). Flew past w a.0) is a.1))
        (λ n i. let a = saw_flew head.osts head.clients past h.done h.keeps who n i
        in new_flew head.osts past c new ok h.phase h.numbers a.0 (subst (λ (w : Who). Flew past w a.0) is a.1))
    by who false e = keeps_for head.osts past h.keeps who

-- ---- more is committed

more_committed : (osts : ℕ) (past new : List Line) → (server_of osts past).committed.0 ≤ (server_of osts new).committed.0
    → ((who : Who) (f : Flight) (r : ReplyTo) → HeardAs past who f r → HeardAs new who f r)
    → ((who : Who) (f : Flight) (r : ReplyTo) → HeardAs new who f r → HeardAs past who f r)
    → ((who : Who) (n : ℕ) → SawIn past who n → SawIn new who n) → ((who : Who) (n : ℕ) → SawIn new who n → SawIn past who n)
    → ((from to : Node) (m : Message) → Was past from to m → Was new from to m) → ((who : Who) → kept_of who new ≡ kept_of who past)
    → Keeps osts past → Keeps osts new
more_committed osts past new le into out shows hides was same h =
    for_keeps osts new (λ who. subst (λ (k : Kept). KeepsFor (server_of osts new).committed.0 (HeardAs new who) (SawIn new who) k)
    (sym (same who))
    (for_more (server_of osts past).committed.0 (server_of osts new).committed.0 (HeardAs past who) (HeardAs new who) (SawIn past who)
    (SawIn new who) (kept_of who past) le (into who) (out who) (shows who) (hides who) (keeps_for osts past h who)))
    (λ who n i. saw_more past new into was who n (h.saw_by who n (hides who n i)))

pub commits_more : (head : Head) (past : List Line) (at : At) (to : ℕ) (batch : Batch) → CommitOk head past at to batch → HoldsAt head past
    → (server_of head.osts past).committed.0 ≤ to
commits_more head past at to batch ok h =
    ⊎_elim
    (λ (d : (d : Deed) × _ × (to ≡ d.reply.txn.0)). let lt = (h.history.log d.0 d.1).3 in let e = d.2 in omega (arith, lt, e))
    (λ (e : to ≡ (server_of head.osts past).committed.0). omega (arith, e))
    ok.is

pub closes_more : (head : Head) (past : List Line) (at : At) (o : Outcome) → CloseOk head past at o
    → (server_of head.osts past).committed.0 ≤ (outcome_of head.osts head.clients at past).disk.committed
closes_more head past at o ok =
    subst (λ n. n ≤ (outcome_of head.osts head.clients at past).disk.committed) ok.of_committed
    (last_news (disk_of head.osts head.clients past).committed _)

-- ---- a message

keeps_send : (osts : ℕ) (past : List Line) (at : At) (to : Node) (m : Message)
    → ((who : Who) → kept_of who (line at (Send to m) ∷ past) ≡ kept_of who past)
    → (server_of osts past).committed.0 ≤ (server_of osts (line at (Send to m) ∷ past)).committed.0 → Keeps osts past
    → Keeps osts (line at (Send to m) ∷ past)
keeps_send osts past at to m same le h = more_committed osts past (line at (Send to m) ∷ past) le (λ who f r i. i) (λ who f r i. i)
    (λ who n i. i) (λ who n i. i) (λ from into p w. inr w) same h

-- ---- each line

pub keeps_keeps : (head : Head) (past : List Line) (stamp : Stamp) (node : Node) (e : Entry) → EntryOf head past (turn stamp node) node e
    → HoldsAt head past
    → Done head.osts head.clients (line (turn stamp node) e ∷ past) → Keeps head.osts (line (turn stamp node) e ∷ past)
keeps_keeps head past stamp (Client c) (Heard t f r) ok h k = keeps_heard head past stamp c t f r ok h k
keeps_keeps head past stamp (Client c) (Hold t lock marked size seen) (inl ok) h k =
    keeps_hold head.osts past stamp c t lock marked size seen (held_saw past c t lock seen ok.1) h.keeps
keeps_keeps head past stamp (Client c) (Hold t lock marked size seen) (inr ok) h k =
    keeps_hold head.osts past stamp c t lock marked size seen (given_saw past c t lock seen ok) h.keeps
keeps_keeps head past stamp (Client c) (Send to m) ok h k = keeps_send head.osts past (turn stamp (Client c)) to m (λ who. refl)
    (omega arith) h.keeps
keeps_keeps head past stamp (Target t) (Send to m) ok h k = keeps_send head.osts past (turn stamp (Target t)) to m (λ who. refl)
    (omega arith) h.keeps
keeps_keeps head past stamp (Client c) (Settles t to) ok h k = keeps_settles head past stamp c t to ok h
keeps_keeps head past stamp (Client c) (Life who) ok h k = keeps_life head past stamp c who ok h
keeps_keeps head past stamp (Target t) (Commit to batch) ok h k =
    more_committed head.osts past (line (turn stamp (Target t)) (Commit to batch) ∷ past)
    (commits_more head past (turn stamp (Target t)) to batch ok h) (λ who f r i. i) (λ who f r i. i) (λ who n i. i) (λ who n i. i)
    (λ from to m w. w) (λ who. refl) h.keeps
keeps_keeps head past stamp (Target t) (Close o) ok h k =
    subst (λ (v : Outcome). Keeps head.osts (line (turn stamp (Target t)) (Close v) ∷ past)) (sym ok.is)
    (more_committed head.osts past (line (turn stamp (Target t)) (Close (outcome_of head.osts head.clients (turn stamp (Target t)) past))
    ∷ past) (closes_more head past (turn stamp (Target t)) o ok) (λ who f r i. i) (λ who f r i. i) (λ who n i. i) (λ who n i. i)
    (λ from to m w. w) (λ who. refl) h.keeps)
keeps_keeps head past stamp (Target t) (Heard u f r) ok h k = absurd ok
keeps_keeps head past stamp (Target t) (Hold u lock marked size seen) ok h k = absurd ok
keeps_keeps head past stamp (Target t) (Settles u to) ok h k = absurd ok
keeps_keeps head past stamp (Target t) (Life who) ok h k = absurd ok
keeps_keeps head past stamp node e ok h k = h.keeps
