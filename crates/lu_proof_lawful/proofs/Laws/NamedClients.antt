-- A printed past names no client but the run's: each life that a line names is of a client that spoke, asked or had a slot.
use Rattle.std.proofs.Common.{◌≡◌, ℕ, ◌+◌, ◌<◌, ◌≤◌, Bool, true, false, List, [], ◌∷◌, Option, Some, None, inl, inr, ⊎_elim, refl, sym}
use Rattle.std.proofs.Common.{subst, ap, ◌∙◌, arith}
use Rattle.std.specs.Prelude.{suc, max, if◌then◌else◌}
use Rattle.lu_base.specs.declared.ids.At.{At}
use Rattle.lu_base.specs.declared.ids.Node.{Node}
use Rattle.lu_base.specs.declared.ids.Node.TheVariants.{Client, Target}
use Rattle.lu_base.specs.declared.ids.Stamp.{Stamp}
use Rattle.lu_base.specs.declared.ids.Who.{Who}
use Rattle.lu_base.specs.declared.locks.Cause.{Cause}
use Rattle.lu_base.specs.declared.locks.Lock.{Lock}
use Rattle.lu_msg.specs.declared.answers.Answer.{Answer}
use Rattle.lu_msg.specs.declared.messages.Message.{Message}
use Rattle.lu_msg.specs.declared.messages.GrantNotice.{GrantNotice}
use Rattle.lu_msg.specs.declared.messages.Message.TheVariants as message
use Rattle.lu_msg.specs.declared.messages.Reply.{Reply as ReplyTo}
use Rattle.lu_msg.specs.declared.messages.Request.{Request as RequestOf}
use Rattle.lu_held.specs.Locks.{same_resource}
use Rattle.lu_trace.specs.declared.entries.Entry.{Entry as PrintedEntry}
use Rattle.lu_spec_entries.specs.Carried.{Deed, Flight, Outcome, Work}
use Rattle.lu_spec_entries.specs.Words.{Entry, Send, Flies, Told, Life, Act, Txn as Made, Grant, Wait, Back, Stores, Brings, Says, Wishes}
use Rattle.lu_spec_entries.specs.Words.{Close, Restore, Evict, Joined, Line, line}
use Rattle.lu_spec_entries.specs.Concerns.{concerns, only}
use Rattle.lu_spec_entries.specs.Sent.{count_sent}
use Rattle.lu_spec_entries.specs.Printed.{printed_entry, printed}
use Rattle.lu_spec_target.specs.Lives.{is_life}
use Rattle.lu_spec_target.specs.Replies.{locks_on}
use Rattle.lu_proof_lawful.specs.Covered.TargetStates.{server_of, lives_of, evicted_of, window_of}
use Rattle.lu_proof_lawful.specs.Covered.ClientStates.{life_of}
use Rattle.lu_proof_lawful.specs.Covered.Heads.{Head}
use Rattle.lu_spec_laws.specs.Words.Clients.{node_clients, message_clients, entry_clients, clients}
use Rattle.lu_proof_lawful.proofs.Preconditions.Guards.{In, Was, IsMark, BackNow, EntryOk, ToldOk, KnownOk, EndsOk, BadOk, SizesToldOk}
use Rattle.lu_proof_lawful.proofs.Preconditions.Guards.{FlushedOk, ReadToldOk, StatToldOk, WroteOk}
use Rattle.lu_proof_lawful.proofs.Preconditions.StoryGuards.{SaidBy, Spoke, Newer, GrantOk, RangeOk, CloseOk, EvictOk, LeavesOk, JoinedOk}
use Rattle.lu_proof_lawful.proofs.Preconditions.StoryGuards.{ComesOk, KeepsOk, IsRecovering, ReportedOk, EntryOf}
use Rattle.lu_proof_lawful.proofs.Preconditions.Grown.{Allowed, Grown, GrownOf, LivesAt}
use Rattle.lu_proof_lawful.proofs.Preconditions.Lists.{self, life_is, in_right, in_filter}
use Rattle.lu_proof_lawful.proofs.Preconditions.Only.{was_back, was_only, grown_of}
use Rattle.lu_proof_lawful.proofs.Invariants.Groups.{turn, Recovers}
use Rattle.lu_proof_lawful.proofs.Invariants.TargetGroups.{Flew, Acted, Gave, Had, HasSlot, Evicted}
use Rattle.lu_proof_lawful.proofs.Invariants.Lines.{DoneBy, DoneIn, acted_line, done_here, reported_said, acted_whole, flew_whole}
use Rattle.lu_proof_lawful.proofs.Invariants.Lines.{life_only}
use Rattle.lu_proof_lawful.proofs.Invariants.Brings.{of_reply}
use Rattle.lu_proof_lawful.proofs.Invariants.DoneGrows.{did_acted}
use Rattle.lu_proof_lawful.proofs.Invariants.LifeLists.{put_or, back_word}
use Rattle.lu_proof_lawful.proofs.Invariants.LivesClose.{out_now}
use Rattle.lu_proof_lawful.proofs.Invariants.All.{holds}
use Rattle.lu_proof_lawful.proofs.Laws.Deeds.{act_for, txn_for}

-- ---- who spoke

-- a client's life is its own
abbrev Low : Head → Who → Type 0
Low head who = who.client < head.clients

own_low : (head : Head) (past : List Line) (t c : ℕ) (who : Who) → Grown head past → c < head.clients → who ≡ life_of c (only t past)
    → Low head who
own_low head past t c who g lt e = subst (λ (n : ℕ). n < head.clients)
    (sym (ap (λ (v : Who). v.client) e ∙ ((holds head past g).at t).phase.client c)) lt

flew_low : (head : Head) (past : List Line) (who : Who) (f : Flight) → Grown head past → Flew past who f → Low head who
flew_low head [] who f g w = absurd w
flew_low head (l ∷ past) who f g w = by l.at.node l.entry g.0.lives w (flew_low head past who f g.1)
  where
    by : (node : Node) (e : Entry) → LivesAt head past node → Flew (line (turn l.at.stamp node) e ∷ past) who f
        → (Flew past who f → Low head who) → Low head who
    by (Client c) (Flies t k) a (inl p) h = own_low head past 0 c who g.1 a.one
        (life_is who (life_of c past) p.0 ∙ sym (life_only c 0 past))
    by (Client c) (Flies t k) a (inr w) h = h w
    by (Target t) (Flies u k) a (inl p) h = absurd (cc)
    by (Target t) (Flies u k) a (inr w) h = h w
    by node e a w h = h w

acted_low : (head : Head) (past : List Line) (t : ℕ) (d : Deed) → Grown head past → Acted (only t past) d → Low head d.reply.who
acted_low head past t d g a = let f = ((holds head past g).at t).done.flew d a
    in flew_low head past d.reply.who f.0 g (flew_whole t past d.reply.who f.0 f.1)

gave_low : (head : Head) (past : List Line) (t : ℕ) (d : Deed) (lock : Lock) → Grown head past → Gave (only t past) d lock
    → Low head lock.ask.who
gave_low head past t d lock g a = subst (Low head) (sym (((holds head past g).at t).locks.whose d lock a)) (acted_low head past t d g a.0)

-- what clients send, in their own name
sends_low : (head : Head) (past : List Line) (stamp : Stamp) (c : ℕ) (to : Node) (m : Message)
    → Allowed head past (turn stamp (Client c)) (Send to m) → Grown head past → (max (node_clients to) (message_clients m) ≤ head.clients)
    × ((who : Who) → SaidBy who m → Low head who)
sends_low head past stamp c (Target t) (message.Request r) k g = let lt =
    own_low head past t c r.who g k.lives.one (ap (λ v. v.who) (k.of t (self t)).is) in (omega (arith, lt), λ who e. subst (Low head) e lt)
sends_low head past stamp c (Target t) (message.Cancel other boot cookie) k g = let lt =
    own_low head past t c other g k.lives.one (k.of t (self t)).of_life in (omega (arith, lt), λ who e. subst (Low head) e lt)
sends_low head past stamp c (Target t) (message.Where other boot cookie) k g = let lt =
    own_low head past t c other g k.lives.one (k.of t (self t)).of_life in (omega (arith, lt), λ who e. subst (Low head) e lt)
sends_low head past stamp c (Target t) (message.Size m) k g =
    let ok = k.of t (self t) in
    let lt = own_low head past t c m.who g k.lives.one ok.of_life in
    let asked = ((holds head past g).at t).done.sent (Target t) (Client c) (message.Ask m.who ok.boot m.cookie m.for_who m.xid) ok.was in
    let for = flew_low head past m.for_who asked.2.0 g (flew_whole t past m.for_who asked.2.0 asked.2.1) in
    (omega (arith, lt, for), λ who e. subst (Low head) e lt)
sends_low head past stamp c (Target t) (message.Join other boot) k g = let lt =
    own_low head past t c other g k.lives.one (k.of t (self t)).of_life in (omega (arith, lt), λ who e. absurd e)
sends_low head past stamp c (Target t) (message.Replay r) k g = let lt =
    own_low head past t c r.who g k.lives.one (k.of t (self t)).tells.of_life in (omega (arith, lt), λ who e. subst (Low head) e lt)
sends_low head past stamp c (Target t) (message.Lock r) k g = let lt =
    own_low head past t c r.who g k.lives.one (k.of t (self t)).tells.of_life in (omega (arith, lt), λ who e. subst (Low head) e lt)
sends_low head past stamp c (Target t) (message.Word other boot replays locks seen) k g = let lt =
    own_low head past t c other g k.lives.one (k.of t (self t)).tells.of_life in (omega (arith, lt), λ who e. subst (Low head) e lt)
sends_low head past stamp c (Target t) m k g = absurd k.ok
sends_low head past stamp c (Client d) m k g = absurd k.ok

said_low : (head : Head) (past : List Line) (from to : Node) (m : Message) (who : Who) → Grown head past → Was past from to m → SaidBy who m
    → Low head who
said_low head [] from to m who g w s = absurd w
said_low head (l ∷ past) from to m who g w s = by l.at.node l.entry g.0 w (λ v. said_low head past from to m who g.1 v s)
  where
    from_target : (t : ℕ) (to : Node) (k : Message) → Allowed head past (turn l.at.stamp (Target t)) (Send to k) → SaidBy who k
        → Low head who
    from_target t (Client c) (message.Request r) a s = absurd a.ok
    from_target t (Target u) (message.Request r) a s = absurd a.ok
    from_target t (Client c) (message.Cancel other boot cookie) a s = absurd a.ok
    from_target t (Target u) (message.Cancel other boot cookie) a s = absurd a.ok
    from_target t (Client c) (message.Where other boot cookie) a s = absurd a.ok
    from_target t (Target u) (message.Where other boot cookie) a s = absurd a.ok
    from_target t (Client c) (message.Size m) a s = absurd a.ok
    from_target t (Target u) (message.Size m) a s = absurd a.ok
    from_target t (Client c) (message.Replay r) a s = absurd a.ok
    from_target t (Target u) (message.Replay r) a s = absurd a.ok
    from_target t (Client c) (message.Lock r) a s = absurd a.ok
    from_target t (Target u) (message.Lock r) a s = absurd a.ok
    from_target t (Client c) (message.Word other boot replays locks seen) a s = absurd a.ok
    from_target t (Target u) (message.Word other boot replays locks seen) a s = absurd a.ok
    from_target t to k a s = absurd s

    by : (node : Node) (e : Entry) → Allowed head past (turn l.at.stamp node) e → Was (line (turn l.at.stamp node) e ∷ past) from to m
        → (Was past from to m → Low head who) → Low head who
    by (Client c) (Send into k) a (inl p) h = (sends_low head past l.at.stamp c into k a g.1).1 who (subst (SaidBy who) (sym p.2) s)
    by (Target t) (Send into k) a (inl p) h = from_target t into k a (subst (SaidBy who) (sym p.2) s)
    by node (Send into k) a (inr v) h = h v
    by node e a v h = h v

spoke_low : (head : Head) (past : List Line) (t u : ℕ) (who : Who) → Grown head past → Spoke (only t past) u who → Low head who
spoke_low head past t u who g s = said_low head past (Client s.0) (Target u) s.1 who g (was_back t past (Client s.0) (Target u) s.1 s.2) s.3

-- ---- where what is done is done

-- at a target, or it is a size that a client said
acted_node : (head : Head) (past : List Line) (d : Deed) → Grown head past → Acted past d → node_clients d.reply.at.node ≤ head.clients
acted_node head [] d g a = absurd a
acted_node head (l ∷ past) d g a = ⊎_elim (λ (p : DoneBy l.entry d). by
    (done_here head past l.at.stamp l.at.node l.entry g.0.ok g.0.of g.0.owes d p)) (λ (b : Acted past d). acted_node head past d g.1 b)
    (acted_line l.at l.entry past d a)
  where
    by : (t : ℕ) × (l.at.node ≡ Target t) × DoneIn head past l.at.stamp t d → node_clients d.reply.at.node ≤ head.clients
    by k = ⊎_elim
        (λ (w : d.reply.at ≡ turn l.at.stamp (Target k.0)). let zero : node_clients d.reply.at.node ≡ 0 =
        ap (λ (v : At). node_clients v.node) w in omega (arith, zero))
        (λ (r : ReportedOk head.osts (only k.0 past) (turn l.at.stamp (Target k.0)) k.0 d).
        let said = reported_said head.osts (only k.0 past) (turn l.at.stamp (Target k.0)) k.0 d r in
        let lt = said_low head past (Client said.0.0) (Target k.0) (message.Size r.report) r.report.who g.1
        (was_back k.0 past (Client said.0.0) (Target k.0) (message.Size r.report) said.0.1) refl in
        let is : node_clients d.reply.at.node ≡ suc r.report.who.client = ap (λ (v : At). node_clients v.node) said.1 in
        omega (arith, lt, is))
        k.2

-- ---- who has or had a slot

slot_low : (head : Head) (past : List Line) (t : ℕ) (who : Who) → Grown head past → HasSlot head.clients (only t past) who → Low head who
slot_low head past t who g e = (((holds head past g).at t).lives.knows who e).0

-- with the lives that were evicted before
evicted_step : (head : Head) (l : Line) (past : List Line) (t : ℕ) (who : Who) → Grown head (l ∷ past)
    → ((x : Who) → Evicted (only t past) x → Low head x) → Evicted (only t (l ∷ past)) who → Low head who
evicted_step head l past t who g old e = by l.at.node l.entry (concerns t l.at.node l.entry) refl g.0 e
  where
    P : List Line
    P = only t past

    put : (x : Who) → Low head x → (x ≡ who → Low head who)
    put x lt s = subst (Low head) s lt

    one : (u : ℕ) (x : Who) (cause : Cause) → EntryOf head P (turn l.at.stamp (Target u)) (Target u) (Evict x cause) → Low head x
    one u x cause (inl ok) = slot_low head past t x g.1 ok.has
    one u x cause (inr ok) = old x ok.evicted

    closed : (u : ℕ) (o : Outcome) → CloseOk head P (turn l.at.stamp (Target u)) o → is_life who o.disk.removed ≡ true → Low head who
    closed u o ok e =
        let h = (holds head past g.1).at t in
        ⊎_elim
        (λ i. slot_low head past t who g.1 i.0)
        (λ (i : Evicted P who). old who i)
        (out_now head P l.at.stamp u o ok h.recovers h.lives who (subst (λ (v : Outcome). is_life who v.disk.removed ≡ true) ok.is e))

    by : (node : Node) (x : Entry) (b : Bool) → concerns t node x ≡ b → Allowed head past (turn l.at.stamp node) x
        → Evicted (if b then line (turn l.at.stamp node) x ∷ P else P) who → Low head who
    by node x false c k e = old who e
    by (Client d) x true c k e = old who e
    by (Target u) (Evict x cause) true c k e = ⊎_elim (λ (s : who ≡ x). put x (one u x cause (k.of t c)) (sym s))
        (λ (i : Evicted P who). old who i) (put_or who x (evicted_of P) e)
    by (Target u) (Close o) true c k e = closed u o (k.of t c) e
    by (Target u) x true c k e = old who e

evicted_low : (head : Head) (past : List Line) (t : ℕ) (who : Who) → Grown head past → Evicted (only t past) who → Low head who
evicted_low head [] t who g e = absurd (cc)
evicted_low head (l ∷ past) t who g e = evicted_step head l past t who g (λ x. evicted_low head past t x g.1) e

had_low : (head : Head) (past : List Line) (t : ℕ) (who : Who) → Grown head past → Had head.clients (only t past) who → Low head who
had_low head past t who g (inl e) = slot_low head past t who g e
had_low head past t who g (inr e) = evicted_low head past t who g e

-- ---- what targets send

tells_low : (head : Head) (past : List Line) (stamp : Stamp) (t : ℕ) (to : Node) (m : Message)
    → Allowed head past (turn stamp (Target t)) (Send to m) → Grown head past → max (node_clients to) (message_clients m) ≤ head.clients
tells_low head past stamp t (Client c) (message.Up boot) k g =
    let ok = k.of t (self t) in
    let h = (holds head past g).at t in
    let lt : ok.who.client < head.clients = ⊎_elim
    (λ (e : HasSlot head.clients (only t past) ok.who). slot_low head past t ok.who g e)
    (λ e. ⊎_elim
    (λ (s : Spoke (only t past) t ok.who). spoke_low head past t t ok.who g s)
    (λ (j : (from asked : ℕ) × Was (only t past) (Client from) (Target t) (message.Join ok.who asked)). h.lives.joins (Client j.0)
    (Target t) ok.who j.1 j.2)
    e)
    ok.cause in
    let to = ok.to in
    omega (arith, lt, to)
tells_low head past stamp t (Client c) (message.Reply r) k g =
    let l : Line = line (turn stamp (Target t)) (Send (Client c) (message.Reply r)) in
    let new : Grown head (l ∷ past) = (k, g) in
    let sent = ((holds head (l ∷ past) new).at t).done.sent (Target t) (Client c) (message.Reply r)
    (was_only t (l ∷ past) (Target t) (Client c) (message.Reply r) (self t) (inl (refl, refl, refl))) in
    let lt : r.who.client < head.clients = subst (λ (v : ReplyTo). Low head v.who) (sym sent.is)
    (acted_low head (l ∷ past) t sent.deed new sent.acted) in
    let at : node_clients r.at.node ≤ head.clients = subst (λ (v : ReplyTo). node_clients v.at.node ≤ head.clients) (sym sent.is)
    (acted_node head (l ∷ past) sent.deed new (acted_whole t (l ∷ past) sent.deed sent.acted)) in
    let to = sent.to in
    omega (arith, lt, at, to)
tells_low head past stamp t (Client c) (message.Block other boot cookie) k g =
    let ok = k.of t (self t) in
    let gave = ((holds head past g).at t).locks.granted ok.lock ok.granted in
    let lt : other.client < head.clients = subst (Low head) (sym ok.of_life) (gave_low head past t gave.0 ok.lock g gave.1) in
    let to = ok.to in
    omega (arith, lt, to)
tells_low head past stamp t (Client c) (message.Grant n) k g =
    let ok = k.of t (self t) in
    let gave = ((holds head past g).at t).locks.granted ok.lock ok.granted in
    let lt : n.who.client < head.clients = subst (Low head) (sym (ap (λ (v : GrantNotice). v.who) ok.is))
    (gave_low head past t gave.0 ok.lock g gave.1) in
    let to : c ≡ n.who.client = ok.to ∙ ap (λ (v : GrantNotice). v.who.client) (sym ok.is) in
    omega (arith, lt, to)
tells_low head past stamp t (Client c) (message.Ask other boot cookie for_who xid) k g =
    let ok = k.of t (self t) in
    let gave = ((holds head past g).at t).locks.granted ok.lock ok.granted in
    let lt : other.client < head.clients = subst (Low head) (sym ok.of_life) (gave_low head past t gave.0 ok.lock g gave.1) in
    let f = ((holds head past g).at t).done.glimpses ok.glimpse ok.waits in
    let for : for_who.client < head.clients = subst (Low head) (sym ok.for_life)
    (flew_low head past ok.glimpse.request.who f.0 g (flew_whole t past ok.glimpse.request.who f.0 f.1)) in
    let to = ok.to in
    omega (arith, lt, for, to)
tells_low head past stamp t (Client c) (message.Ready other boot committed) k g = let ok = k.of t (self t)
    in let lt : other.client < head.clients = slot_low head past t other g ok.has in let to = ok.to in omega (arith, lt, to)
tells_low head past stamp t (Client c) (message.Evicted other boot) k g =
    let ok = k.of t (self t) in
    let lt : other.client < head.clients = ⊎_elim
    (λ (e : Evicted (only t past) other). evicted_low head past t other g e)
    (λ e. ⊎_elim
    (λ (s : (is_life other (lives_of head.clients (only t past)) ≡ false) × Spoke (only t past) t other). spoke_low head past t t other g
    s.1)
    (λ (n : Newer head.clients (only t past) other). subst (λ (v : ℕ). v < head.clients) n.client (had_low head past t n.life g n.had))
    e)
    ok.cause in
    let to = ok.to in
    omega (arith, lt, to)
tells_low head past stamp t (Client c) m k g = absurd k.ok
tells_low head past stamp t (Target u) m k g = absurd k.ok

-- ---- who is back

back_slot : (head : Head) (past : List Line) (t : ℕ) (who : Who) → Grown head past → BackNow head.osts head.clients (only t past) who
    → HasSlot head.clients (only t past) who
back_slot head past t who g b = by (only t past) (grown_of head t past g) ((holds head past g).at t).recovers b
  where
    recovering : (l : Line) (p : List Line) (node : Node) (e : Entry) → EntryOf head p (turn l.at.stamp node) node e → IsMark e
        → IsRecovering head.osts (line (turn l.at.stamp node) e ∷ p)
    recovering l p (Target u) (Stores r) k i = k.keeps.recovers
    recovering l p (Target u) (Brings lock) k i = k.keeps.recovers
    recovering l p (Target u) (Says said) k i = ⊎_elim (λ (z : KeepsOk head p (turn l.at.stamp (Target u)) u k.from
        (message.Word said.who k.boot said.replays said.locks said.seen) said.who k.boot). z.recovers) (λ z. z.1.recovers) k.keeps
    recovering l p (Target u) (Wishes w) k i = k.keeps.recovers
    recovering l p (Client c) (Stores r) k i = absurd k
    recovering l p (Client c) (Brings lock) k i = absurd k
    recovering l p (Client c) (Says said) k i = absurd k
    recovering l p (Client c) (Wishes w) k i = absurd k
    recovering l p node e k i = absurd i

    by : (p : List Line) → GrownOf head p → Recovers head.osts head.clients p → BackNow head.osts head.clients p who
        → HasSlot head.clients p who
    by [] g r b = absurd b
    by (l ∷ p) g r b = let w = back_word (window_of head.osts head.clients (l ∷ p)) who b.1.now
        in (r.words (recovering l p l.at.node l.entry g.0 b.0) who w.0 w.1).1

-- ---- a line

abbrev names : Option PrintedEntry → ℕ
names None = 0
names (Some e) = entry_clients e

told_low : (head : Head) (past : List Line) (at : At) (c slot : ℕ) (of : At) (answer : Answer) (work : Option Work) → Grown head past
    → c < head.clients → at.node ≡ Client c → EntryOk past at (Client c) (Told slot of answer work) → node_clients of.node ≤ head.clients
told_low head past at c slot of answer work g lt here ok = ⊎_elim
    (λ (k : ToldOk past at c slot of answer work).
    let r = (holds head past g).replies c slot k.target k.running k.reply k.call k.answered in
    let same : node_clients of.node ≡ node_clients r.deed.reply.at.node = ap (λ (v : At). node_clients v.node) k.of_turn
    ∙ ap (λ (v : ReplyTo). node_clients v.at.node) (sym r.is) in
    let le = acted_node head past r.deed g (acted_whole k.target past r.deed r.acted) in
    omega (arith, same, le))
    (⊎_elim
    (λ (k : KnownOk past at c slot of answer work). own k.of_turn)
    (⊎_elim
    (λ (k : EndsOk past at c slot of answer work). own k.of_turn)
    (⊎_elim
    (λ (k : BadOk past at c slot of answer work). own k.of_turn)
    (⊎_elim
    (λ (k : SizesToldOk past at c slot of answer work). own k.of_turn)
    (⊎_elim
    (λ (k : FlushedOk past at c slot of answer work). own k.of_turn)
    (⊎_elim
    (λ (k : ReadToldOk past at c slot of answer work). own k.of_turn)
    (⊎_elim (λ (k : StatToldOk past at c slot of answer work). own k.of_turn)
    (λ (k : WroteOk past at c slot of answer work). own k.of_turn))))))))
    ok
  where
    own : of ≡ at → node_clients of.node ≤ head.clients
    own e = let s : node_clients of.node ≡ suc c = ap (λ (v : At). node_clients v.node) e ∙ ap node_clients here in omega (arith, s, lt)

-- of a request that waited
waited_low : (head : Head) (past : List Line) (t : ℕ) (r : RequestOf) (who : Who) → Grown head past
    → In r (server_of head.osts (only t past)).waiting → who ≡ r.who → Low head who
waited_low head past t r who g i e = let f = (((holds head past g).at t).done.waits r i).asks
    in subst (Low head) (sym e) (flew_low head past r.who f.0 g (flew_whole t past r.who f.0 f.1))

line_low : (head : Head) (past : List Line) (stamp : Stamp) (node : Node) (e : Entry) → Allowed head past (turn stamp node) e
    → Grown head past → (n : ℕ) → names (printed_entry n e) ≤ head.clients
line_low head past stamp (Client c) (Send to m) k g n = (sends_low head past stamp c to m k g).0
line_low head past stamp (Target t) (Send to m) k g n = tells_low head past stamp t to m k g
line_low head past stamp (Client c) (Told slot of answer work) k g n =
    told_low head past (turn stamp (Client c)) c slot of answer work g k.lives.one refl k.ok
line_low head past stamp (Target t) (Told slot of answer work) k g n = absurd k.ok
line_low head past stamp (Client c) (Life who) k g n =
    let lt = own_low head past 0 c (life_of c (only 0 past)) g k.lives.one refl in
    let same : who.client ≡ (life_of c (only 0 past)).client = ap (λ (v : Who). v.client) (k.of 0 refl).next in
    omega (arith, lt, same)
line_low head past stamp (Target t) (Life who) k g n = absurd k.ok
line_low head past stamp (Client c) (Act d) k g n = absurd k.ok
line_low head past stamp (Target t) (Act d) k g n = let ok = act_for head past stamp t d k in let lt =
    waited_low head past t ok.request d.reply.who g ok.waits ok.who in omega (arith, lt)
line_low head past stamp (Client c) (Made d) k g n = absurd k.ok
line_low head past stamp (Target t) (Made d) k g n = let ok = txn_for head past stamp t d k in let lt =
    waited_low head past t ok.request d.reply.who g ok.waits ok.who in omega (arith, lt)
line_low head past stamp (Client c) (Grant lock asked) k g n = absurd k.ok
line_low head past stamp (Target t) (Grant lock None) k g n =
    let ok = (k.of t (self t)).1 in
    let asked : In ok.asked (locks_on lock.resource (server_of head.osts (only t past)).queued) =
    subst (In ok.asked) (sym ok.queue) (in_right ok.asked ok.ahead (ok.asked ∷ ok.later) (inl refl)) in
    let q = ((holds head past g).at t).locks.waits ok.asked (in_filter (λ (l : Lock). same_resource l.resource lock.resource) ok.asked
    (server_of head.osts (only t past)).queued asked).0 in
    let lt : Low head lock.ask.who = subst (Low head) (sym (ap (λ (l : Lock). l.ask.who) ok.of_lock ∙ q.who))
    (acted_low head past t q.deed g q.acted) in
    omega (arith, lt)
line_low head past stamp (Target t) (Grant lock (Some d)) k g n =
    let lt : Low head lock.ask.who = ⊎_elim
    (λ (ok : (t ≡ 0) × GrantOk head.osts (only t past) lock d). gave_low head past t d lock g
    (did_acted (only t past) d ok.1.did, inl (of_reply d.op d.reply lock ok.1.among)))
    (λ (ok : (0 < t) × RangeOk head.osts (only t past) (turn stamp (Target t)) lock d). waited_low head past t ok.1.request lock.ask.who g
    ok.1.waits (ap (λ (l : Lock). l.ask.who) ok.1.of_lock))
    (k.of t (self t)) in
    omega (arith, lt)
line_low head past stamp (Client c) (Wait lock asked) k g n = absurd k.ok
line_low head past stamp (Target t) (Wait lock asked) k g n = let ok = (k.of t (self t)).1 in let lt =
    waited_low head past t ok.request lock.ask.who g ok.waits (ap (λ (l : Lock). l.ask.who) ok.of_lock) in omega (arith, lt)
line_low head past stamp (Client c) (Back who) k g n = absurd k.ok
line_low head past stamp (Target t) (Back who) k g n = let lt = slot_low head past t who g (back_slot head past t who g (k.of t (self t)).0)
    in omega (arith, lt)
line_low head past stamp (Client c) (Restore lock) k g n = absurd k.ok
line_low head past stamp (Target t) (Restore lock) k g n = let gave =
    ((holds head past g).at t).locks.granted lock (k.of t (self t)).granted in let lt = gave_low head past t gave.0 lock g gave.1
    in omega (arith, lt)
line_low head past stamp (Client c) (Evict who cause) k g n = absurd k.ok
line_low head past stamp (Target t) (Evict who cause) k g n =
    let lt : Low head who = ⊎_elim (λ (ok : EvictOk head (only t past) (turn stamp (Target t)) who cause). slot_low head past t who g
    ok.has) (λ (ok : LeavesOk head (only t past) (turn stamp (Target t)) who cause). evicted_low head past t who g ok.evicted)
    (k.of t (self t)) in
    omega (arith, lt)
line_low head past stamp (Client c) (Joined who) k g n = absurd k.ok
line_low head past stamp (Target t) (Joined who) k g n =
    let lt : Low head who = ⊎_elim
    (λ (ok : JoinedOk head (only t past) (turn stamp (Target t)) t who). ((holds head past g).at t).lives.joins (Client ok.from) (Target t)
    who ok.boot ok.was)
    (λ (ok : ComesOk head (only t past) (turn stamp (Target t)) t who). slot_low head past t who g ok.has)
    (k.of t (self t)) in
    omega (arith, lt)
line_low head past stamp node e k g n = omega arith

node_low : (head : Head) (past : List Line) (node : Node) → LivesAt head past node → node_clients node ≤ head.clients
node_low head past (Client c) a = let lt = a.one in omega (arith, lt)
node_low head past (Target t) a = omega arith

pub clients_low : (head : Head) (past : List Line) → Grown head past → clients (printed past) ≤ head.clients
clients_low head [] g = omega arith
clients_low head (l ∷ past) g = by (printed_entry (count_sent past + 1) l.entry) (clients_low head past g.1)
    (node_low head past l.at.node g.0.lives) (line_low head past l.at.stamp l.at.node l.entry g.0 g.1 (count_sent past + 1))
  where
    by : (o : Option PrintedEntry) → clients (printed past) ≤ head.clients → node_clients l.at.node ≤ head.clients → names o ≤ head.clients
        → clients (elim o [ None ↦ printed past | Some e ↦ record { at = l.at; entry = e } ∷ printed past ]) ≤ head.clients
    by None old node h = old
    by (Some e) old node h = omega (arith, old, node, h)
