-- A message's boot is one that its target has had: what a client sends is of the boot that it knows, and what a target sends of its own.
use Rattle.std.proofs.Common.{◌≡◌, ℕ, ◌≤◌, List, [], ◌∷◌, ◌⊎◌, ⊎_elim, subst, ap, arith}
use Rattle.lu_base.specs.declared.ids.Node.{Node}
use Rattle.lu_base.specs.declared.ids.Node.TheVariants.{Client, Target}
use Rattle.lu_base.specs.declared.ids.Stamp.{Stamp}
use Rattle.lu_msg.specs.declared.messages.GrantNotice.{GrantNotice}
use Rattle.lu_msg.specs.declared.messages.Message.{Message}
use Rattle.lu_msg.specs.declared.messages.Message.TheVariants as message
use Rattle.lu_msg.specs.declared.messages.Reply.{Reply as ReplyTo}
use Rattle.lu_msg.specs.declared.messages.Request.{Request as RequestOf}
use Rattle.lu_spec_entries.specs.Words.{Entry, Send, Boot, Line, line}
use Rattle.lu_proof_lawful.specs.Covered.TargetStates.{server_of}
use Rattle.lu_proof_lawful.specs.Covered.ClientStates.{known_of}
use Rattle.lu_proof_lawful.specs.Covered.Heads.{Head}
use Rattle.lu_proof_lawful.proofs.Preconditions.Guards.{Was}
use Rattle.lu_proof_lawful.proofs.Preconditions.StoryGuards.{SendOf, EntryOf}
use Rattle.lu_proof_lawful.proofs.Invariants.Groups.{turn, HoldsAt}
use Rattle.lu_proof_lawful.proofs.Invariants.TargetGroups.{Phase, BootIn, Boots}

in_more : (most more : ℕ) → most ≤ more → (m : Message) → BootIn most m → BootIn more m
in_more most more le (message.Request r) h = let x = h.1 in (h.0, omega arith)
in_more most more le (message.Reply r) h = let x = h.1 in (h.0, omega arith)
in_more most more le (message.Block who boot cookie) h = let x = h.1 in (h.0, omega arith)
in_more most more le (message.Cancel who boot cookie) h = let x = h.1 in (h.0, omega arith)
in_more most more le (message.Join who boot) h = let x = h.1 in (h.0, omega arith)
in_more most more le (message.Up boot) h = let x = h.1 in (h.0, omega arith)
in_more most more le (message.Ready who boot committed) h = let x = h.1 in (h.0, omega arith)
in_more most more le (message.Evicted who boot) h = let x = h.1 in (h.0, omega arith)
in_more most more le (message.Replay r) h = let x = h.1 in (h.0, omega arith)
in_more most more le (message.Lock r) h = let x = h.1 in (h.0, omega arith)
in_more most more le (message.Word who boot replays locks seen) h = let x = h.1 in (h.0, omega arith)
in_more most more le (message.Where who boot cookie) h = let x = h.1 in (h.0, omega arith)
in_more most more le (message.Size s) h = let x = h.1 in (h.0, omega arith)
in_more most more le (message.Grant g) h = let x = h.1 in (h.0, omega arith)
in_more most more le (message.Ask who boot cookie for_who xid) h = let x = h.1 in (h.0, omega arith)

-- a boot that a client knows, and the target's own
abbrev Had : ℕ → List Line → ℕ → Type 0
Had osts past boot = (1 ≤ boot) × (boot ≤ (server_of osts past).boot)

known_had : (osts : ℕ) (past : List Line) (c boot : ℕ) → boot ≡ known_of c past → Phase osts past → Had osts past boot
known_had osts past c boot e p = let low = p.least c in let high = p.known c in (omega arith, omega arith)

own_had : (osts : ℕ) (past : List Line) (boot : ℕ) → boot ≡ (server_of osts past).boot → Phase osts past → Had osts past boot
own_had osts past boot e p = let low = p.low in (omega arith, omega arith)

sent_in : (head : Head) (past : List Line) (node to : Node) (m : Message) → SendOf head past node to m → Phase head.osts past
    → BootIn (server_of head.osts past).boot m
sent_in head past (Client c) (Target t) (message.Request r) ok p =
    known_had head.osts past c r.boot (ap (λ (v : RequestOf). v.boot) ok.is) p
sent_in head past (Client c) (Target t) (message.Cancel who boot cookie) ok p = known_had head.osts past c boot ok.of_boot p
sent_in head past (Client c) (Target t) (message.Join who boot) ok p = known_had head.osts past c boot ok.of_boot p
sent_in head past (Client c) (Target t) (message.Replay r) ok p = known_had head.osts past c r.boot ok.tells.of_boot p
sent_in head past (Client c) (Target t) (message.Lock r) ok p = known_had head.osts past c r.boot ok.tells.of_boot p
sent_in head past (Client c) (Target t) (message.Word who boot replays locks seen) ok p = known_had head.osts past c boot ok.tells.of_boot p
sent_in head past (Target t) (Client c) (message.Up boot) ok p = own_had head.osts past boot ok.of_boot p
sent_in head past (Target t) (Client c) (message.Reply k) ok p = own_had head.osts past k.boot (ap (λ (v : ReplyTo). v.boot) ok.is) p
sent_in head past (Target t) (Client c) (message.Block who boot cookie) ok p = own_had head.osts past boot ok.of_boot p
sent_in head past (Target t) (Client c) (message.Ready who boot committed) ok p = own_had head.osts past boot ok.of_boot p
sent_in head past (Target t) (Client c) (message.Evicted who boot) ok p = own_had head.osts past boot ok.of_boot p
sent_in head past (Client c) (Target t) (message.Where who boot cookie) ok p = known_had head.osts past c boot ok.of_boot p
sent_in head past (Client c) (Target t) (message.Size s) ok p = known_had head.osts past c s.boot ok.of_boot p
sent_in head past (Target t) (Client c) (message.Grant g) ok p = own_had head.osts past g.boot (ap (λ (v : GrantNotice). v.boot) ok.is) p
sent_in head past (Target t) (Client c) (message.Ask who boot cookie for_who xid) ok p = own_had head.osts past boot ok.of_boot p
sent_in head past node to m ok p = absurd ok

-- one more message
more_in : (most : ℕ) (past : List Line) (node to : Node) (m : Message) → BootIn most m
    → ((from into : Node) (p : Message) → Was past from into p → BootIn most p)
    → (from into : Node) (p : Message) → ((node ≡ from) × (to ≡ into) × (m ≡ p)) ⊎ Was past from into p → BootIn most p
more_in most past node to m now old from into p = ⊎_elim (λ (q : (node ≡ from) × (to ≡ into) × (m ≡ p)). subst (BootIn most) q.2 now)
    (λ (w : Was past from into p). old from into p w)

pub boots_start : (osts : ℕ) → Boots osts []
boots_start osts from to m w = absurd w

pub keeps_boots : (head : Head) (past : List Line) (stamp : Stamp) (node : Node) (e : Entry) → EntryOf head past (turn stamp node) node e
    → HoldsAt head past → Boots head.osts (line (turn stamp node) e ∷ past)
keeps_boots head past stamp (Client c) (Send to m) ok h = more_in (server_of head.osts past).boot past (Client c) to m
    (sent_in head past (Client c) to m ok h.phase) h.boots
keeps_boots head past stamp (Target t) (Send to m) ok h = more_in (server_of head.osts past).boot past (Target t) to m
    (sent_in head past (Target t) to m ok h.phase) h.boots
keeps_boots head past stamp (Target t) (Boot boot disk) ok h = λ from to m w. in_more (server_of head.osts past).boot boot
    (let n = ok.next in omega arith) m (h.boots from to m w)
keeps_boots head past stamp node e ok h = h.boots
