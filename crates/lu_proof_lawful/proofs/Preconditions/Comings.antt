-- What comes to a target: which messages are sent to it, what the requests among them ask, and that none of a client is of a later boot
-- than its own.
use Rattle.std.proofs.Common.{◌≡◌, ℕ, ◌+◌, ◌<◌, ◌≤◌, Bool, true, false, List, [], ◌∷◌, ◌⊎◌, inl, inr, ⊎_elim, refl, sym, subst, ap, ◌∙◌}
use Rattle.std.proofs.Common.{arith}
use Rattle.std.specs.Prelude.{if◌then◌else◌}
use Rattle.lu_base.specs.declared.ids.At.{At}
use Rattle.lu_base.specs.declared.ids.Node.{Node}
use Rattle.lu_base.specs.declared.ids.Node.TheVariants as node
use Rattle.lu_base.specs.declared.ids.Who.{Who}
use Rattle.lu_msg.specs.declared.messages.Message.{Message}
use Rattle.lu_msg.specs.declared.messages.Message.TheVariants as message
use Rattle.lu_msg.specs.declared.messages.Request.{Request as RequestOf}
use Rattle.lu_msg.specs.declared.operations.Op.{Op}
use Rattle.lu_spec_entries.specs.Carried.{Flight}
use Rattle.lu_spec_entries.specs.Words.{Entry, Send, Knows, Boot, Line, line, is_client, is_target}
use Rattle.lu_spec_entries.specs.Concerns.{concerns, only}
use Rattle.lu_spec_entries.specs.Sent.{Sent}
use Rattle.lu_proof_lawful.specs.Covered.Heads.{Head}
use Rattle.lu_proof_lawful.specs.Covered.TargetStates.{server_of}
use Rattle.lu_proof_lawful.specs.Covered.ClientStates.{known_of}
use Rattle.lu_proof_lawful.proofs.Preconditions.Guards.{In, Was, EntryOk}
use Rattle.lu_proof_lawful.proofs.Preconditions.StoryGuards.{AskOk, SendOf, EntryOf}
use Rattle.lu_proof_lawful.proofs.Preconditions.Grown.{Grown, GrownOf}
use Rattle.lu_proof_lawful.proofs.Preconditions.Lists.{turn, self}
use Rattle.lu_proof_lawful.proofs.Preconditions.Parts.{flights_now}
use Rattle.lu_proof_lawful.proofs.Preconditions.ClientLines.{IsOnObject, IsAskedOf, flights_asked}

-- ---- no message of a client is of a later boot than the target's

-- what holds of boots in a story
pub record Boots (head : Head) (story : List Line) : Type 0 where
  pub told : (u c boot : ℕ) → Was story (node.Target u) (node.Client c) (message.Up boot) → boot ≤ (server_of head.osts story).boot
  pub known : (c : ℕ) → known_of c story ≤ (server_of head.osts story).boot
  pub asked : (u c boot : ℕ) (who : Who) → Was story (node.Client c) (node.Target u) (message.Join who boot)
      → boot ≤ (server_of head.osts story).boot

pub boots_of : (head : Head) (story : List Line) → GrownOf head story → Boots head story
boots_of head [] g = record { told = λ u c boot was. absurd was; known = λ c. omega arith; asked = λ u c boot who was. absurd was }
boots_of head (l ∷ story) g = by l.at.node l.entry g.0 (boots_of head story g.3)
  where
    Of : Node → Entry → Type 0
    Of n e = EntryOf head story (turn l.at.stamp n) n e

    More : Node → Entry → Type 0
    More n e = Boots head (line (turn l.at.stamp n) e ∷ story)

    sends : (n to : Node) (m : Message) → Of n (Send to m) → Boots head story → (to2 : Node) (k : Message) (from : Node) → (n ≡ from)
        × (to ≡ to2) × (m ≡ k) → Of from (Send to2 k)
    sends n to m ok h to2 k from q =
        subst (λ (x : Message). Of from (Send to2 x)) q.2 (subst (λ (x : Node). Of from (Send x m)) q.1
        (subst (λ (x : Node). EntryOf head story (turn l.at.stamp x) x (Send to m)) q.0 ok))

    knows : (d b c : ℕ) → Was story (node.Target d) (node.Client c) (message.Up b) → Boots head story → (e : ℕ) (own : Bool)
        → (if own then b else known_of e story) ≤ (server_of head.osts story).boot
    knows d b c was h e true = h.told d c b was
    knows d b c was h e false = h.known e

    by : (n : Node) (e : Entry) → Of n e → Boots head story → More n e
    by (node.Client d) (Send to m) ok h =
        record {
          told = λ u c boot was. ⊎_elim (λ (q : (node.Client d ≡ node.Target u) × (to ≡ node.Client c) × (m ≡ message.Up boot)). absurd
              (let e = q.0 in cc)) (λ (w : Was story (node.Target u) (node.Client c) (message.Up boot)). h.told u c boot w) was;
          known = h.known;
          asked = λ u c boot who was. ⊎_elim (λ (q : (node.Client d ≡ node.Client c) × (to ≡ node.Target u) × (m ≡ message.Join who boot)).
              let k = sends (node.Client d) to m ok h (node.Target u) (message.Join who boot) (node.Client c) q
              in subst (λ (b : ℕ). b ≤ (server_of head.osts story).boot) (sym k.of_boot) (h.known c))
              (λ (w : Was story (node.Client c) (node.Target u) (message.Join who boot)). h.asked u c boot who w) was;
        }
    by (node.Target d) (Send to m) ok h =
        record {
          told = λ u c boot was. ⊎_elim (λ (q : (node.Target d ≡ node.Target u) × (to ≡ node.Client c) × (m ≡ message.Up boot)). let k =
              sends (node.Target d) to m ok h (node.Client c) (message.Up boot) (node.Target u) q in let same = k.of_boot
              in omega (arith, same)) (λ (w : Was story (node.Target u) (node.Client c) (message.Up boot)). h.told u c boot w) was;
          known = h.known;
          asked = λ u c boot who was. ⊎_elim (λ (q : (node.Target d ≡ node.Client c) × (to ≡ node.Target u) × (m ≡ message.Join who boot)).
              absurd (let e = q.0 in cc)) (λ (w : Was story (node.Client c) (node.Target u) (message.Join who boot)). h.asked u c boot who
              w) was;
        }
    by (node.Client d) (Knows u b) ok h = record {
      told = h.told;
      known = λ c. knows u b d ok.was h c (is_client c (node.Client d));
      asked =
          h.asked;
    }
    by (node.Target d) (Knows u b) ok h = absurd ok
    by (node.Client d) (Boot b disk) ok h = absurd ok
    by (node.Target d) (Boot b disk) ok h =
        let next : b ≡ (server_of head.osts story).boot + 1 = ok.next in
        record {
          told = λ u c boot was. let le = h.told u c boot was in omega (arith, le, next);
          known = λ c. let le = h.known c in omega (arith, le, next);
          asked = λ u c boot who was. let le = h.asked u c boot who was in omega (arith, le, next);
        }
    by (node.Client d) e ok h = record { told = h.told; known = h.known; asked = h.asked }
    by (node.Target d) e ok h = record { told = h.told; known = h.known; asked = h.asked }

-- ---- the requests of clients

-- a flight's operation may be asked of its target
ask_asked : (head : Head) (past : List Line) (c t : ℕ) (r : RequestOf) → Grown head past → AskOk (only t past) c r → IsAskedOf t r.op
ask_asked head past c t r g ok =
    subst (λ (x : RequestOf). IsAskedOf t x.op) (sym ok.is) (flights_asked head c t past g ok.flight
    (subst (λ (fs : List Flight). In ok.flight fs) (sym (flights_now head c t past g)) ok.flying))

-- what a client sends to a target is allowed in the target's story
send_of : (head : Head) (past : List Line) (sender to : Node) (x : Message) (c t : ℕ) (m : Message) → sender ≡ node.Client c → to
    ≡ node.Target t → x ≡ m
    → ((u : ℕ) → concerns u sender (Send to x) ≡ true → SendOf head (only u past) sender to x)
    → SendOf head (only t past) (node.Client c) (node.Target t) m
send_of head past sender to x c t m from_is to_is is of =
    subst (λ (y : Message). SendOf head (only t past) (node.Client c) (node.Target t) y) is
    (subst (λ (k : Node). SendOf head (only t past) (node.Client c) k x) to_is
    (subst (λ (k : Node). SendOf head (only t past) k to x) from_is
    (of t (ap (λ (k : Node). concerns t k (Send to x)) from_is ∙ ap (is_target t) to_is ∙ self t))))

-- so each request that a client sent asks what may be asked of its target
pub request_asked : (head : Head) (past : List Line) (c t : ℕ) (r : RequestOf) → Grown head past
    → Was past (node.Client c) (node.Target t) (message.Request r) → IsAskedOf t r.op
request_asked head [] c t r g w = absurd w
request_asked head (l ∷ past) c t r g w = by l.entry w g.0.of (λ v. request_asked head past c t r g.1 v)
  where
    by : (e : Entry) → Was (line l.at e ∷ past) (node.Client c) (node.Target t) (message.Request r)
        → ((u : ℕ) → concerns u l.at.node e ≡ true → EntryOf head (only u past) l.at l.at.node e)
        → (Was past (node.Client c) (node.Target t) (message.Request r) → IsAskedOf t r.op) → IsAskedOf t r.op
    by (Send to x) (inl q) of more = ask_asked head past c t r g.1 (send_of head past l.at.node to x c t (message.Request r) q.0 q.1 q.2 of)
    by (Send to x) (inr q) of more = more q
    by e q of more = more q

pub asked_object : (t : ℕ) (o : Op) → 0 < t → IsAskedOf t o → IsOnObject o
asked_object t o high (inl a) = absurd (let zero = a.0 in omega (arith, zero, high))
asked_object t o high (inr a) = a.1

-- ---- what clients send to a target: requests, cancels, where a lock is, how long an object is, joins, and what is told in a recovery

abbrev pub IsAsked : ℕ → Message → Type 0
IsAsked t (message.Request r) = IsAskedOf t r.op
IsAsked t (message.Cancel who boot cookie) = Unit {0}
IsAsked t (message.Where who boot cookie) = Unit {0}
IsAsked t (message.Size m) = Unit {0}
IsAsked t (message.Join who boot) = Unit {0}
IsAsked t (message.Replay r) = Unit {0}
IsAsked t (message.Lock r) = Unit {0}
IsAsked t (message.Word who boot replays locks seen) = Unit {0}
IsAsked t _ = ⊥

-- by a client
pub record Asks (from : Node) (t : ℕ) (m : Message) : Type 0 where
  pub client : ℕ
  pub is : from ≡ node.Client client
  pub asked : IsAsked t m

sends_so : (head : Head) (past : List Line) (at : At) (from : Node) (t : ℕ) (m : Message) → Grown head past
    → EntryOk past at from (Send (node.Target t) m)
    → ((c : ℕ) → from ≡ node.Client c → SendOf head (only t past) (node.Client c) (node.Target t) m) → Asks from t m
sends_so head past at (node.Client c) t (message.Request r) g ok of =
    record { client = c; is = refl; asked = ask_asked head past c t r g (of c refl) }
sends_so head past at (node.Client c) t (message.Cancel who boot cookie) g ok of = record { client = c; is = refl; asked = tt }
sends_so head past at (node.Client c) t (message.Where who boot cookie) g ok of = record { client = c; is = refl; asked = tt }
sends_so head past at (node.Client c) t (message.Size m) g ok of = record { client = c; is = refl; asked = tt }
sends_so head past at (node.Client c) t (message.Join who boot) g ok of = record { client = c; is = refl; asked = tt }
sends_so head past at (node.Client c) t (message.Replay r) g ok of = record { client = c; is = refl; asked = tt }
sends_so head past at (node.Client c) t (message.Lock r) g ok of = record { client = c; is = refl; asked = tt }
sends_so head past at (node.Client c) t (message.Word who boot replays locks seen) g ok of = record { client = c; is = refl; asked = tt }
sends_so head past at from t m g ok of = absurd ok

-- what is sent to a target is
pub asks_of : (head : Head) (past : List Line) (n : ℕ) (from : Node) (t : ℕ) (m : Message) → Grown head past
    → Sent past n from (node.Target t) m → Asks from t m
asks_of head [] n from t m g s = absurd s
asks_of head (l ∷ past) n from t m g s = by l.entry s g.0.ok g.0.of (λ r. asks_of head past n from t m g.1 r)
  where
    by : (e : Entry) → Sent (line l.at e ∷ past) n from (node.Target t) m → EntryOk past l.at l.at.node e
        → ((u : ℕ) → concerns u l.at.node e ≡ true → EntryOf head (only u past) l.at l.at.node e)
        → (Sent past n from (node.Target t) m → Asks from t m) → Asks from t m
    by (Send to k) (inl r) ok of f =
        sends_so head past l.at from t m g.1
        (subst (λ (x : Message). EntryOk past l.at from (Send (node.Target t) x)) r.3
        (subst (λ (x : Node). EntryOk past l.at from (Send x k)) r.2 (subst (λ (x : Node). EntryOk past l.at x (Send to k)) r.1 ok)))
        (λ c e. send_of head past l.at.node to k c t m (r.1 ∙ e) r.2 r.3 of)
    by (Send to k) (inr r) ok of f = f r
    by e r ok of f = f r
