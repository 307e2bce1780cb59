-- What comes to a node in a run: to each target requests, what is said of locks, joins, and what lives that come back tell one that
-- recovers; to a client of the run replies, in which layouts are on object storage targets, locks that waited, blocks, questions of
-- glimpses, and
-- word that a target is up again, and that its life is served or is over. Where no turn may ask a disk, all is of first lives and of the
-- first
-- boot, and nobody joins or comes back.
use Rattle.std.proofs.Common.{◌≡◌, ℕ, ◌+◌, ◌<◌, ◌≤◌, true, false, List, [], ◌∷◌, Option, Some, None, ◌⊎◌, inl, inr, ⊎_elim, refl, sym}
use Rattle.std.proofs.Common.{subst, ap, ◌∙◌, zero, suc, arith, pos}
use Rattle.std.specs.Prelude.{nat_eq, nat_lt}
use Rattle.std.proofs.lemmas.Bool.{cond_both, eqb-true}
use Rattle.std.proofs.lemmas.Bool.Decides.{nat_tests}
use Rattle.lu_base.specs.declared.ids.At.{At}
use Rattle.lu_base.specs.declared.ids.Node.{Node}
use Rattle.lu_base.specs.declared.ids.Node.TheVariants.{Client, Target}
use Rattle.lu_base.specs.declared.ids.Who.{Who}
use Rattle.lu_base.specs.declared.locks.Cause.{Cause}
use Rattle.lu_layout.specs.Raid0.{Raid0}
use Rattle.lu_spec_machine.specs.Fits.{answer_fits}
use Rattle.lu_msg.specs.declared.answers.Answer.{Answer}
use Rattle.lu_msg.specs.declared.answers.Answer.TheVariants as answer
use Rattle.lu_msg.specs.declared.calls.Call.{Call}
use Rattle.lu_msg.specs.declared.calls.Call.TheVariants as call
use Rattle.lu_msg.specs.declared.messages.Message.{Message}
use Rattle.lu_msg.specs.declared.messages.Message.TheVariants as message
use Rattle.lu_msg.specs.declared.messages.Reply.{Reply as ReplyTo}
use Rattle.lu_msg.specs.declared.messages.Request.{Request as RequestOf}
use Rattle.lu_msg.specs.declared.operations.Op.{Op}
use Rattle.lu_msg.specs.declared.operations.Op.TheVariants as op
use Rattle.lu_trace.specs.WellFormed.{IsCall}
use Rattle.lu_spec_entries.specs.Carried.{Deed, HandleFile, Flight, Outcome}
use Rattle.lu_spec_entries.specs.Concerns.{concerns, only}
use Rattle.lu_spec_entries.specs.Sent.{Sent}
use Rattle.lu_spec_entries.specs.Words.{Entry, Send, Flies, Life, Act, Txn, Grant, Wait, Answers, Boot, Close, Evict, Joined, Wishes, Line}
use Rattle.lu_spec_entries.specs.Words.{line}
use Rattle.lu_spec_target.specs.Lives.{is_life, without_lives, lives_of as lives_in}
use Rattle.lu_spec_target.specs.Outcomes as recovered
use Rattle.lu_spec_target.specs.Windows.{Window, kept_numbers, gone_from}
use Rattle.lu_spec_target.specs.States.{Target as TargetState, lives_from}
use Rattle.lu_proof_lawful.specs.Covered.Calls.{operation_of, first_life}
use Rattle.lu_proof_lawful.specs.Covered.ClientStates.{life_of, is_own}
use Rattle.lu_proof_lawful.specs.Covered.Heads.{Head}
use Rattle.lu_proof_lawful.specs.Covered.TargetCloses.{disk_of, recovering_of, outcome_of}
use Rattle.lu_proof_lawful.specs.Covered.TargetStates.{lives_of, evicted_of, wishes_of}
use Rattle.lu_proof_lawful.proofs.Preconditions.Guards.{In, Was, EntryOk}
use Rattle.lu_proof_lawful.proofs.Preconditions.StoryGuards.{EntryOf, Newer, SaidBy, EvictOk, LeavesOk, JoinedOk, ComesOk, CloseOk}
use Rattle.lu_proof_lawful.proofs.Preconditions.StoryGuards.{WishesOk}
use Rattle.lu_proof_lawful.proofs.Preconditions.Grown.{IsOneOf, Grown, GrownOf}
use Rattle.lu_proof_lawful.proofs.Preconditions.Lists.{self, own_is}
use Rattle.lu_proof_lawful.proofs.Preconditions.Only.{sent_was, was_only, grown_of}
use Rattle.lu_proof_lawful.proofs.Invariants.Groups.{turn, HoldsAt}
use Rattle.lu_proof_lawful.proofs.Invariants.TargetGroups.{Acted, Flew, FlewFor, Evicted, Had}
use Rattle.lu_proof_lawful.proofs.Invariants.Lines.{flew_whole, acted_whole}
use Rattle.lu_proof_lawful.proofs.Invariants.All.{holds}
use Rattle.lu_proof_lawful.proofs.Invariants.Asked.{Began, AskedBy, flew_asked}
use Rattle.lu_proof_lawful.proofs.Invariants.Layouts.{OnTargets, on_target, IsLaid, acted_laid}
use Rattle.lu_proof_lawful.proofs.Invariants.OnNames.{op_is}
use Rattle.lu_proof_lawful.proofs.Invariants.Refused.{acted_answered}
use Rattle.lu_proof_lawful.proofs.Invariants.Sides.{flew_kind}
use Rattle.lu_proof_lawful.proofs.Laws.Story.{was_to}
use Rattle.lu_proof_lawful.proofs.Preconditions.Comings.{request_asked}
use Rattle.lu_proof_lawful.proofs.Preconditions.ClientLines.{IsOnObject, IsAskedOf}
use Rattle.lu_proof_scenes.proofs.Asking.{IsOf, Suits, IsNode, AllSuit, was_suits}
use Rattle.lu_proof_scenes.proofs.Clients.{OnOsts, AnswerCalm}
use Rattle.lu_proof_scenes.proofs.ClientRows.{MessageCalm}
use Rattle.lu_proof_scenes.proofs.Numbers.{IsShort}
use Rattle.lu_proof_scenes.proofs.NumberRows.{MessageFits}
use Rattle.lu_proof_scenes.proofs.Targets.{Spoken, MessageServed}
use Rattle.lu_proof_lawful.proofs.Preconditions.LifeLists.{stands_life, life_stands, life_left}
use Rattle.lu_proof_lawful.proofs.Preconditions.CloseLists.{puts_or, left_all, gone_had, in_wish}
use Rattle.lu_proof_lawful.proofs.Invariants.LifeLists.{first_among, put_or}

-- ---- between whom messages go

abbrev pub Goes : (from to : Node) → Message → Type 0
Goes (Client c) (Target t) (message.Request r) = Unit {0}
Goes (Client c) (Target t) (message.Cancel who boot cookie) = Unit {0}
Goes (Client c) (Target t) (message.Where who boot cookie) = Unit {0}
Goes (Client c) (Target t) (message.Size m) = Unit {0}
Goes (Client c) (Target t) (message.Join who boot) = Unit {0}
Goes (Client c) (Target t) (message.Replay r) = Unit {0}
Goes (Client c) (Target t) (message.Lock r) = Unit {0}
Goes (Client c) (Target t) (message.Word who boot replays locks seen) = Unit {0}
Goes (Target t) (Client c) (message.Up boot) = Unit {0}
Goes (Target t) (Client c) (message.Reply k) = Unit {0}
Goes (Target t) (Client c) (message.Grant g) = Unit {0}
Goes (Target t) (Client c) (message.Block who boot cookie) = Unit {0}
Goes (Target t) (Client c) (message.Ask who boot cookie for_who xid) = Unit {0}
Goes (Target t) (Client c) (message.Ready who boot committed) = Unit {0}
Goes (Target t) (Client c) (message.Evicted who boot) = Unit {0}
Goes _ _ _ = ⊥

send_goes : (past : List Line) (at : At) (node to : Node) (m : Message) → EntryOk past at node (Send to m) → Goes node to m
send_goes past at (Client c) (Target t) (message.Request r) ok = tt
send_goes past at (Client c) (Target t) (message.Cancel who boot cookie) ok = tt
send_goes past at (Client c) (Target t) (message.Where who boot cookie) ok = tt
send_goes past at (Client c) (Target t) (message.Size m) ok = tt
send_goes past at (Client c) (Target t) (message.Join who boot) ok = tt
send_goes past at (Client c) (Target t) (message.Replay r) ok = tt
send_goes past at (Client c) (Target t) (message.Lock r) ok = tt
send_goes past at (Client c) (Target t) (message.Word who boot replays locks seen) ok = tt
send_goes past at (Target t) (Client c) (message.Up boot) ok = tt
send_goes past at (Target t) (Client c) (message.Reply k) ok = tt
send_goes past at (Target t) (Client c) (message.Grant g) ok = tt
send_goes past at (Target t) (Client c) (message.Block who boot cookie) ok = tt
send_goes past at (Target t) (Client c) (message.Ask who boot cookie for_who xid) ok = tt
send_goes past at (Target t) (Client c) (message.Ready who boot committed) ok = tt
send_goes past at (Target t) (Client c) (message.Evicted who boot) ok = tt
send_goes past at node to m ok = absurd ok

pub was_goes : (head : Head) (past : List Line) (from to : Node) (m : Message) → Grown head past → Was past from to m → Goes from to m
was_goes head [] from to m g w = absurd w
was_goes head (l ∷ past) from to m g w = by l.entry g.0.ok w (λ v. was_goes head past from to m g.1 v)
  where
    by : (e : Entry) → EntryOk past l.at l.at.node e → Was (line l.at e ∷ past) from to m → (Was past from to m → Goes from to m)
        → Goes from to m
    by (Send node k) ok w h = ⊎_elim
        (λ (p : (l.at.node ≡ from) × (node ≡ to) × (k ≡ m)).
        subst (λ (v : Node). Goes v to m) p.0 (subst (λ (v : Node). Goes l.at.node v m) p.1
        (subst (λ (x : Message). Goes l.at.node node x) p.2 (send_goes past l.at l.at.node node k ok))))
        h
        w
    by e ok w h = h w

-- what came to a target is in its story, and what a target sent is in its
pub came : (head : Head) (past : List Line) (t : ℕ) (from : Node) (m : Message) → Grown head past → Was past from (Target t) m
    → Was (only t past) from (Target t) m
came head past t from m g w = was_to head past t from m g w

told : (past : List Line) (t : ℕ) (to : Node) (m : Message) → Was past (Target t) to m → Was (only t past) (Target t) to m
told past t to m w = was_only t past (Target t) to m (self t) w

-- ---- clients of the run: lives that asked, have a slot or were evicted are of one

among_first : (from more : ℕ) (w : Who) → In w (lives_from from more) → w.client < from + more
among_first from zero w i = absurd i
among_first from (suc more) w (inl e) = let is : from ≡ w.client = ap (λ (x : Who). x.client) e in omega (arith, is)
among_first from (suc more) w (inr i) = let is = among_first (from + 1) more w i in omega (arith, is)

module _ (head : Head) where
  -- over what concerns one target
  life_client : (past : List Line) → GrownOf head past → (c : ℕ) → (life_of c past).client ≡ c
  life_client [] g c = refl
  life_client (l ∷ past) g c = by l.at.node l.entry g.0 (life_client past g.3)
    where
      by : (node : Node) (e : Entry) → EntryOf head past l.at node e → ((d : ℕ) → (life_of d past).client ≡ d)
          → (life_of c (line (turn l.at.stamp node) e ∷ past)).client ≡ c
      by (Client d) (Life who) ok h =
          cond_both (nat_eq c d) who (life_of c past) (λ (w : Who). w.client ≡ c)
          (λ t. ap (λ (w : Who). w.client) ok.next ∙ h d ∙ sym (eqb-true c d t)) (λ t. h c)
      by (Target u) (Life who) ok h = absurd ok
      by node e ok h = h c

  own_one : (past : List Line) → GrownOf head past → (who : Who) (node : Node) → IsOneOf head node → is_own who past node ≡ true
      → IsOf head.clients who
  own_one past g who (Client d) one own = subst (λ (n : ℕ). n < head.clients)
      (sym (ap (λ (w : Who). w.client) (own_is who past d own) ∙ life_client past g d)) one
  own_one past g who (Target u) one own = absurd (cc)

  pub flew_one : (past : List Line) → GrownOf head past → (who : Who) (f : Flight) → Flew past who f → IsOf head.clients who
  flew_one [] g who f i = absurd i
  flew_one (l ∷ past) g who f i = by l.entry i (flew_one past g.3 who f)
    where
      by : (e : Entry) → Flew (line l.at e ∷ past) who f → (Flew past who f → IsOf head.clients who) → IsOf head.clients who
      by (Flies t x) i h = ⊎_elim (λ (p : (is_own who past l.at.node ≡ true) × (x ≡ f)). own_one past g.3 who l.at.node g.2.one p.0) h i
      by e i h = h i

  joins_one : (past : List Line) → GrownOf head past → (from to : Node) (who : Who) (boot : ℕ) → Was past from to (message.Join who boot)
      → IsOf head.clients who
  joins_one [] g from to who boot w = absurd w
  joins_one (l ∷ past) g from to who boot w = by l.entry g.0 w (joins_one past g.3 from to who boot)
    where
      sends : (node to : Node) → EntryOf head past l.at node (Send to (message.Join who boot)) → IsOneOf head node → IsOf head.clients who
      sends (Client c) (Target t) ok one = subst (λ (n : ℕ). n < head.clients)
          (sym (ap (λ (w : Who). w.client) ok.of_life ∙ life_client past g.3 c)) one
      sends (Client c) (Client d) ok one = absurd ok
      sends (Target t) (Client c) ok one = absurd ok
      sends (Target t) (Target u) ok one = absurd ok

      by : (e : Entry) → EntryOf head past l.at l.at.node e → Was (line l.at e ∷ past) from to (message.Join who boot)
          → (Was past from to (message.Join who boot) → IsOf head.clients who) → IsOf head.clients who
      by (Send node k) ok w h =
          ⊎_elim
          (λ (p : (l.at.node ≡ from) × (node ≡ to) × (k ≡ message.Join who boot)). sends l.at.node node
          (subst (λ (x : Message). EntryOf head past l.at l.at.node (Send node x)) p.2 ok) g.2.one)
          h w
      by e ok w h = h w

  -- so are those that have a slot, or were evicted, or wish to join
  abbrev pub AreOf : List Line → Type 0
  AreOf past =
      record {
        lives : (w : Who) → is_life w (lives_of head.clients past) ≡ true → IsOf head.clients w;
        evicted : (w : Who) → Evicted past w → IsOf head.clients w;
        wishes : (w : Who) → In w (wishes_of past) → IsOf head.clients w;
      }

  -- a close gives slots to those that wished to join, and evicts lives that had one
  close_lives : (past : List Line) (at : At) (o : Outcome) → CloseOk head past at o → AreOf past → (w : Who) → is_life w o.disk.lives ≡ true
      → IsOf head.clients w
  close_lives past at o ok h w =
      subst (λ (o : Outcome). is_life w o.disk.lives ≡ true → IsOf head.clients w) (sym ok.is)
      (λ i.
      let gone : List Who = lives_in (outcome_of head.osts head.clients at past).gone in
      let disk : List Who = (disk_of head.osts head.clients past).lives in
      ⊎_elim (λ (n : In w (wishes_of past)). h.wishes w n)
      (λ (e : is_life w (without_lives gone disk) ≡ true). h.lives w
      (subst (λ (ws : List Who). is_life w ws ≡ true) ok.of_lives (left_all w gone disk e).0))
      (puts_or w (wishes_of past) (without_lives gone disk) i))

  close_evicted : (past : List Line) (at : At) (o : Outcome) → CloseOk head past at o → AreOf past → (w : Who) → is_life w o.disk.removed
      ≡ true → IsOf head.clients w
  close_evicted past at o ok h w =
      subst (λ (o : Outcome). is_life w o.disk.removed ≡ true → IsOf head.clients w) (sym ok.is)
      (λ i.
      let v : Window = recovered.window_of (recovering_of head.osts head.clients past) in
      let gone : List Who = lives_in (gone_from v (kept_numbers v) (lives_of head.clients past)) in
      let disk : List Who = (disk_of head.osts head.clients past).removed in
      ⊎_elim (λ (n : In w gone). h.lives w (gone_had v (kept_numbers v) (lives_of head.clients past) w (life_stands w gone n)))
      (λ (e : is_life w disk ≡ true). h.evicted w (subst (λ (ws : List Who). is_life w ws ≡ true) ok.of_removed e)) (puts_or w gone disk i))

  -- who wishes to join has a life with a slot
  wish_of_one : (past : List Line) (at : At) (t : ℕ) (who : Who) → WishesOk head past at t who → AreOf past → IsOf head.clients who
  wish_of_one past at t who ok h = subst (λ (n : ℕ). n < head.clients) ok.client (h.lives ok.old ok.keeps.has)

  pub are_of : (past : List Line) → GrownOf head past → AreOf past
  are_of [] g =
      record {
        lives = λ w i. let low = among_first 0 head.clients w (stands_life w (lives_from 0 head.clients) i) in omega (arith, low);
        evicted = λ w i. absurd (cc);
        wishes = λ w i. absurd i;
      }
  are_of (l ∷ past) g = by l.at.node l.entry g.0 (are_of past g.3)
    where
      leaves : (who : Who) (cause : Cause) → EvictOk head past l.at who cause ⊎ LeavesOk head past l.at who cause → AreOf past
          → IsOf head.clients who
      leaves who cause (inl ok) h = h.lives who ok.has
      leaves who cause (inr ok) h = h.evicted who ok.evicted

      joins : (t : ℕ) (who : Who) → JoinedOk head past l.at t who ⊎ ComesOk head past l.at t who → AreOf past → IsOf head.clients who
      joins t who (inl ok) h = joins_one past g.3 (Client ok.from) (Target t) who ok.boot ok.was
      joins t who (inr ok) h = h.lives who ok.has

      by : (node : Node) (e : Entry) → EntryOf head past l.at node e → AreOf past → AreOf (line (turn l.at.stamp node) e ∷ past)
      by (Target t) (Evict who cause) ok h =
          record {
            lives = λ w i. h.lives w (life_left w who (lives_of head.clients past) i).0;
            evicted = λ w i. ⊎_elim (λ (e : w ≡ who). subst (IsOf head.clients) (sym e) (leaves who cause ok h)) (h.evicted w)
                (put_or w who (evicted_of past) i);
            wishes = h.wishes;
          }
      by (Target t) (Joined who) ok h =
          record {
            lives = λ w i. ⊎_elim (λ (e : w ≡ who). subst (IsOf head.clients) (sym e) (joins t who ok h)) (h.lives w)
                (put_or w who (lives_of head.clients past) i);
            evicted = h.evicted;
            wishes = h.wishes;
          }
      by (Target t) (Wishes who) ok h =
          record {
            lives = h.lives;
            evicted = h.evicted;
            wishes = λ w i. ⊎_elim (λ (e : who ≡ w). subst (IsOf head.clients) e (wish_of_one past l.at t who ok h)) (h.wishes w)
                (in_wish w who (wishes_of past) i);
          }
      by (Target t) (Close o) ok h = record {
        lives = close_lives past l.at o ok h;
        evicted = close_evicted past l.at o ok h;
        wishes =
            λ w i. absurd i;
      }
      by (Target t) (Boot boot disk) ok h = record { lives = h.lives; evicted = h.evicted; wishes = λ w i. absurd i }
      by (Client c) e ok h = record { lives = h.lives; evicted = h.evicted; wishes = h.wishes }
      by (Target t) e ok h = record { lives = h.lives; evicted = h.evicted; wishes = h.wishes }

-- ---- where no turn may ask a disk each life is the first

module _ (MayAsk : Type 0) (osts clients : ℕ) (none : MayAsk → ⊥) where
  life_first : (past : List Line) → AllSuit MayAsk osts clients past → (c : ℕ) → life_of c past ≡ first_life c
  life_first [] s c = refl
  life_first (l ∷ past) s c = by l.entry s.0 (life_first past s.1 c)
    where
      by : (e : Entry) → Suits MayAsk osts clients e → life_of c past ≡ first_life c → life_of c (line l.at e ∷ past) ≡ first_life c
      by (Life who) suits h = absurd (none suits)
      by e suits h = h

  own_first : (past : List Line) → AllSuit MayAsk osts clients past → (who : Who) (node : Node) → is_own who past node ≡ true → who
      ≡ first_life who.client
  own_first past s who (Client d) own =
      let is : who ≡ first_life d = own_is who past d own ∙ life_first past s d in
      is ∙ ap first_life (sym (ap (λ (w : Who). w.client) is))
  own_first past s who (Target u) own = absurd (cc)

  pub flew_first : (past : List Line) → AllSuit MayAsk osts clients past → (who : Who) (f : Flight) → Flew past who f → who
      ≡ first_life who.client
  flew_first [] s who f i = absurd i
  flew_first (l ∷ past) s who f i = by l.entry i (flew_first past s.1 who f)
    where
      by : (e : Entry) → Flew (line l.at e ∷ past) who f → (Flew past who f → who ≡ first_life who.client) → who ≡ first_life who.client
      by (Flies t x) i h = ⊎_elim (λ (p : (is_own who past l.at.node ≡ true) × (x ≡ f)). own_first past s.1 who l.at.node p.0) h i
      by e i h = h i

-- ---- where something was done is a target of the run

acted_there : (MayAsk : Type 0) (osts : ℕ) (head : Head) (t : ℕ) (d : Deed) (past : List Line) → Grown head past
    → AllSuit MayAsk osts head.clients past → Acted (only t past) d → t ≤ osts
acted_there MayAsk osts head t d [] g s a = absurd a
acted_there MayAsk osts head t d (l ∷ past) g s a =
    cond_both (concerns t l.at.node l.entry) (l ∷ only t past) (only t past) (λ (p : List Line). Acted p d → t ≤ osts)
    (λ own b. by l.at.node l.entry g.0.ok s.2 own b (acted_there MayAsk osts head t d past g.1 s.1))
    (λ other b. acted_there MayAsk osts head t d past g.1 s.1 b) a
  where
    by : (node : Node) (e : Entry) → EntryOk past l.at node e → IsNode osts node → concerns t node e ≡ true
        → Acted (line l.at e ∷ only t past) d → (Acted (only t past) d → t ≤ osts) → t ≤ osts
    by (Target u) e ok one own b more = let same = eqb-true t u own in omega (arith, same, one)
    by (Client c) (Act x) ok one own b more = absurd ok
    by (Client c) (Txn x) ok one own b more = absurd ok
    by (Client c) (Grant lock asked) ok one own b more = absurd ok
    by (Client c) (Wait lock asked) ok one own b more = absurd ok
    by (Client c) (Answers x) ok one own b more = absurd ok
    by (Client c) e ok one own b more = more b

-- ---- the paths of operations

short : (file : Option HandleFile) (k : Call) (o : Op) → operation_of file k ≡ Some o → IsCall k → IsShort o
short file (call.Lookup path) o e fits = subst IsShort (op_is (op.Lookup path) o e) fits.are_names.0
short file (call.Stat path) o e fits = subst IsShort (op_is (op.Stat path) o e) fits.are_names.0
short file (call.List path) o e fits = subst IsShort (op_is (op.List path) o e) fits.are_names.0
short file (call.Layout path) o e fits = subst IsShort (op_is (op.Layout path) o e) fits.are_names.0
short file (call.Mkdir path) o e fits = subst IsShort (op_is (op.Mkdir path) o e) tt
short file (call.Create path None) o e fits = subst IsShort (op_is (op.Create path 1048576 (pos 1)) o e) tt
short file (call.Create path (Some stripes)) o e fits = subst IsShort (op_is (op.Create path stripes.0 stripes.1) o e) tt
short file (call.Link old new) o e fits = subst IsShort (op_is (op.Link old new) o e) tt
short file (call.Unlink path) o e fits = subst IsShort (op_is (op.Unlink path) o e) tt
short file (call.Rmdir path) o e fits = subst IsShort (op_is (op.Rmdir path) o e) tt
short file (call.Rename old new) o e fits = subst IsShort (op_is (op.Rename old new) o e) tt
short file (call.Chmod path mode) o e fits = subst IsShort (op_is (op.Chmod path mode) o e) tt
short file (call.Open h path) o e fits = subst IsShort (op_is (op.Open path) o e) tt
short (Some f) (call.Close h) o e fits = subst IsShort (op_is (op.Close f.number f.fid) o e) tt
short file k o e fits = absurd (cc)

object_short : (o : Op) → IsOnObject o → IsShort o
object_short (op.Size resource) is = tt
object_short (op.Enqueue resource mode extent) is = tt
object_short (op.Get resource cookie page) is = tt
object_short (op.Put resource cookie offset bytes) is = tt
object_short (op.Cut resource cookie size) is = tt
object_short o is = absurd is

-- ---- answers

on_osts : (osts : ℕ) (l : Raid0) → OnTargets osts l.targets → OnOsts l
on_osts osts l on stripe low = (on_target osts l.targets on stripe low).0

names_answer : (osts : ℕ) (a : Answer) → IsLaid osts a → AnswerCalm a
names_answer osts (answer.FileStat fid mode links layout) laid = on_osts osts layout laid
names_answer osts (answer.Layout layout) laid = on_osts osts layout laid
names_answer osts (answer.OpenFile fid number layout) laid = on_osts osts layout laid
names_answer osts a laid = tt

-- no answer about an object has a layout
object_answer : (o : Op) (a : Answer) → IsOnObject o → answer_fits o a ≡ true → AnswerCalm a
object_answer (op.Size resource) (answer.FileStat fid mode links layout) is fits = absurd (cc)
object_answer (op.Size resource) (answer.Layout layout) is fits = absurd (cc)
object_answer (op.Size resource) (answer.OpenFile fid number layout) is fits = absurd (cc)
object_answer (op.Enqueue resource mode extent) (answer.FileStat fid mode2 links layout) is fits = absurd (cc)
object_answer (op.Enqueue resource mode extent) (answer.Layout layout) is fits = absurd (cc)
object_answer (op.Enqueue resource mode extent) (answer.OpenFile fid number layout) is fits = absurd (cc)
object_answer (op.Get resource cookie page) (answer.FileStat fid mode links layout) is fits = absurd (cc)
object_answer (op.Get resource cookie page) (answer.Layout layout) is fits = absurd (cc)
object_answer (op.Get resource cookie page) (answer.OpenFile fid number layout) is fits = absurd (cc)
object_answer (op.Put resource cookie offset bytes) (answer.FileStat fid mode links layout) is fits = absurd (cc)
object_answer (op.Put resource cookie offset bytes) (answer.Layout layout) is fits = absurd (cc)
object_answer (op.Put resource cookie offset bytes) (answer.OpenFile fid number layout) is fits = absurd (cc)
object_answer (op.Cut resource cookie size) (answer.FileStat fid mode links layout) is fits = absurd (cc)
object_answer (op.Cut resource cookie size) (answer.Layout layout) is fits = absurd (cc)
object_answer (op.Cut resource cookie size) (answer.OpenFile fid number layout) is fits = absurd (cc)
object_answer o (answer.FileStat fid mode links layout) is fits = absurd is
object_answer o (answer.Layout layout) is fits = absurd is
object_answer o (answer.OpenFile fid number layout) is fits = absurd is
object_answer o a is fits = tt

-- ---- a life that asks where a lock is, or tells how long an object is

module _ (MayAsk : Type 0) (osts : ℕ) (head : Head) where
  only_suits : (t : ℕ) (past : List Line) → AllSuit MayAsk osts head.clients past → AllSuit MayAsk osts head.clients (only t past)
  only_suits t [] s = tt
  only_suits t (l ∷ past) s =
      let rest = only_suits t past s.1 in
      cond_both (concerns t l.at.node l.entry) (l ∷ only t past) (only t past) (AllSuit MayAsk osts head.clients) (λ own. (s.0, rest, s.2))
      (λ other. rest)

  -- it says so
  abbrev Says : Who → Message → Type 0
  Says who (message.Where other boot cookie) = other ≡ who
  Says who (message.Size m) = m.who ≡ who
  Says who m = ⊥

  -- it is of a client of the run, and the first where no turn may ask a disk
  abbrev IsPresent : Who → Type 0
  IsPresent who = IsOf head.clients who × ((MayAsk → ⊥) → who ≡ first_life who.client)

  present : (past : List Line) → GrownOf head past → AllSuit MayAsk osts head.clients past → (c : ℕ) → c < head.clients
      → IsPresent (life_of c past)
  present past g s c one =
      let same = life_client head past g c in (
        subst (λ (n : ℕ). n < head.clients) (sym same) one,
        λ none. life_first MayAsk osts head.clients none past s c ∙ ap first_life (sym same),
      )

  said_by : (past : List Line) → GrownOf head past → AllSuit MayAsk osts head.clients past → (from to : Node) (m : Message) (who : Who)
      → Says who m → Was past from to m → IsPresent who
  said_by [] g s from to m who is w = absurd w
  said_by (l ∷ past) g s from to m who is w = by l.entry g.0 w (said_by past g.3 s.1 from to m who is)
    where
      sends : (node to : Node) (m : Message) → Says who m → EntryOf head past l.at node (Send to m) → IsOneOf head node → IsPresent who
      sends (Client c) (Target t) (message.Where other boot cookie) is ok one =
          subst IsPresent (sym ok.of_life ∙ is) (present past g.3 s.1 c one)
      sends (Client c) (Target t) (message.Size m) is ok one = subst IsPresent (sym ok.of_life ∙ is) (present past g.3 s.1 c one)
      sends (Client c) (Client d) m is ok one = absurd ok
      sends (Target t) (Client c) (message.Where other boot cookie) is ok one = absurd ok
      sends (Target t) (Client c) (message.Size m) is ok one = absurd ok
      sends (Target t) (Target u) m is ok one = absurd ok
      sends node to m is ok one = absurd is

      by : (e : Entry) → EntryOf head past l.at l.at.node e → Was (line l.at e ∷ past) from to m → (Was past from to m → IsPresent who)
          → IsPresent who
      by (Send node k) ok w h =
          ⊎_elim
          (λ (p : (l.at.node ≡ from) × (node ≡ to) × (k ≡ m)). sends l.at.node node m is
          (subst (λ (x : Message). EntryOf head past l.at l.at.node (Send node x)) p.2 ok) g.2.one)
          h w
      by e ok w h = h w

-- in a quiet run no turn may ask a disk
module _ (Quiet : Type 0) (head : Head) (osts : ℕ) (past : List Line) (g : Grown head past)
    (suits : AllSuit (Quiet → ⊥) osts head.clients past) (begun : (k : Call) → Began past k → IsCall k) where
  abbrev May : Type 0
  May = Quiet → ⊥

  -- what was asked has a short path
  asked_short : (o : Op) → AskedBy past o → IsShort o
  asked_short o a = short a.2 a.0 o a.3 (begun a.0 a.1)

  -- ---- to a target

  -- where no turn may ask a disk it is of a life that has a slot
  in_slots : (v : TargetState) → (Quiet → v.lives ≡ lives_from 0 head.clients) → (who : Who) → IsPresent May osts head who
      → is_life who v.lives ≡ false → May
  in_slots v lives who is out quiet =
      let one = is.0 in
      let first = is.1 (λ may. may quiet) in
      let among : is_life who (lives_from 0 head.clients) ≡ true =
      subst (λ (w : Who). is_life w (lives_from 0 head.clients) ≡ true) (sym first)
      (first_among 0 head.clients who.client (omega arith) (omega (arith, one))) in
      let has : is_life who v.lives ≡ true = subst (λ (ws : List Who). is_life who ws ≡ true) (sym (lives quiet)) among in
      absurd (cc)

  has_slot : (t : ℕ) (v : TargetState) → (Quiet → v.lives ≡ lives_from 0 head.clients) → (who : Who) (f : Flight) → Flew (only t past) who f
      → is_life who v.lives ≡ false → May
  has_slot t v lives who f flew =
      in_slots v lives who (
        flew_one head (only t past) (grown_of head t past g) who f flew,
        λ none. flew_first May osts head.clients none past suits who f (flew_whole t past who f flew),
      )

  at_target : (t : ℕ) → HoldsAt head (only t past)
  at_target t = (holds head past g).at t

  had_here : (t : ℕ) (who : Who) → Had head.clients (only t past) who → IsOf head.clients who
  had_here t who (inl has) = (are_of head (only t past) (grown_of head t past g)).lives who has
  had_here t who (inr out) = (are_of head (only t past) (grown_of head t past g)).evicted who out

  -- what is known of it
  pub record Arrives (t : ℕ) (v : TargetState) (m : Message) : Type 0 where
    pub served : MessageServed May head.clients v m
    pub fits : MessageFits m
    pub one : t ≤ osts

  pub target_served : (t : ℕ) (v : TargetState) → (Quiet → v.lives ≡ lives_from 0 head.clients) → (Quiet → v.boot ≡ 1)
      → (n : ℕ) (from : Node) (m : Message) → Sent past n from (Target t) m → Arrives t v m
  target_served t v lives boots n from m sent = by from m (was_goes head past from (Target t) m g w) w
    where
      w : Was past from (Target t) m
      w = sent_was past n from (Target t) m sent

      -- where no turn may ask a disk it isn't of an older boot
      present : (boot : ℕ) → 1 ≤ boot → nat_lt boot v.boot ≡ true → May
      present boot low older quiet = let first = boots quiet in absurd (grind (arith, nat_tests))

      -- one life told it
      spoken : (from : Node) (m : Message) (who : Who) → SaidBy who m → Was (only t past) from (Target t) m → IsOf head.clients who
      spoken from m who by w = had_here t who ((at_target t).lives.spoke from (Target t) who m w by)

      tells : (c : ℕ) (m : Message) → (May × (t ≤ osts) → MessageServed May head.clients v m) → MessageFits m → May × (t ≤ osts)
          → Arrives t v m
      tells c m served fits suits = record { served = served suits; fits = fits; one = suits.1 }

      -- one life said it
      says : (c : ℕ) (m : Message) (who : Who) (boot : ℕ) → Says May osts head who m → MessageFits m → 1 ≤ boot
          → Was (only t past) (Client c) (Target t) m
          → (Spoken May head.clients v who boot → MessageServed May head.clients v m) → t ≤ osts → Arrives t v m
      says c m who boot is fits low w served one =
          let of = said_by May osts head (only t past) (grown_of head t past g) (only_suits May osts head t past suits) (Client c)
          (Target t) m who is w in
          record {
            served = served (record { of = of.0; older = present boot low; without = in_slots v lives who of });
            fits = fits;
            one = one;
          }

      by : (from : Node) (m : Message) → Goes from (Target t) m → Was past from (Target t) m → Arrives t v m
      by (Client c) (message.Request r) goes w =
          let mine = came head past t (Client c) (message.Request r) g w in
          let meant = (at_target t).done.sent (Client c) (Target t) (message.Request r) mine in
          let same : meant.0.op ≡ r.op = ap (λ (x : RequestOf). x.op) (sym meant.2) in
          let kind : IsAskedOf t r.op = request_asked head past c t r g w in
          record {
            served = record {
              of = spoken (Client c) (message.Request r) r.who refl mine;
              older = present r.boot ((at_target t).boots (Client c) (Target t) (message.Request r) mine).0;
              without = has_slot t v lives r.who meant.0 meant.1;
            };
            fits = short_one meant.0 r.who same meant.1 kind;
            one = (was_suits May osts head.clients past (Client c) (Target t) (message.Request r) suits w).0.0;
          }
        where
          short_one : (f : Flight) (who : Who) → f.op ≡ r.op → Flew (only t past) who f → IsAskedOf t r.op → IsShort r.op
          short_one f who same flew (inl k) = asked_short r.op (subst (AskedBy past) same
              (flew_asked head past who f g (subst (λ (n : ℕ). Flew (only n past) who f) k.0 flew)))
          short_one f who same flew (inr k) = object_short r.op k.1
      by (Client c) (message.Where who boot cookie) goes w =
          let mine = came head past t (Client c) (message.Where who boot cookie) g w in
          says c (message.Where who boot cookie) who boot refl tt
          ((at_target t).boots (Client c) (Target t) (message.Where who boot cookie) mine).0 mine (λ s. s)
          (was_suits May osts head.clients past (Client c) (Target t) (message.Where who boot cookie) suits w).0
      by (Client c) (message.Size m) goes w =
          let mine = came head past t (Client c) (message.Size m) g w in
          says c (message.Size m) m.who m.boot refl tt ((at_target t).boots (Client c) (Target t) (message.Size m) mine).0 mine (λ s. s)
          (was_suits May osts head.clients past (Client c) (Target t) (message.Size m) suits w).0
      by (Client c) (message.Cancel who boot cookie) goes w =
          let mine = came head past t (Client c) (message.Cancel who boot cookie) g w in
          let back = (at_target t).locks.cancels (Client c) (Target t) who boot cookie mine in
          let flew = (at_target t).done.flew back.deed back.gave.0 in
          record {
            served = record {
              of = spoken (Client c) (message.Cancel who boot cookie) who refl mine;
              older = present boot ((at_target t).boots (Client c) (Target t) (message.Cancel who boot cookie) mine).0;
              without = has_slot t v lives who flew.0 (subst (λ (x : Who). Flew (only t past) x flew.0) back.of flew.1);
            };
            fits = tt;
            one = acted_there May osts head t back.deed past g suits back.gave.0;
          }
      by (Client c) (message.Join who boot) goes w =
          let mine = came head past t (Client c) (message.Join who boot) g w in
          tells c (message.Join who boot) (λ s. (s.0, (at_target t).lives.joins (Client c) (Target t) who boot mine)) tt
          (was_suits May osts head.clients past (Client c) (Target t) (message.Join who boot) suits w).0
      by (Client c) (message.Replay r) goes w =
          let mine = came head past t (Client c) (message.Replay r) g w in
          tells c (message.Replay r) (λ s. (s.0, spoken (Client c) (message.Replay r) r.who refl mine)) tt
          (was_suits May osts head.clients past (Client c) (Target t) (message.Replay r) suits w).0
      by (Client c) (message.Lock r) goes w =
          let mine = came head past t (Client c) (message.Lock r) g w in
          tells c (message.Lock r) (λ s. (s.0, spoken (Client c) (message.Lock r) r.who refl mine)) tt
          (was_suits May osts head.clients past (Client c) (Target t) (message.Lock r) suits w).0
      by (Client c) (message.Word who boot replays locks seen) goes w =
          let mine = came head past t (Client c) (message.Word who boot replays locks seen) g w in
          tells c (message.Word who boot replays locks seen) (λ s.
          (s.0, spoken (Client c) (message.Word who boot replays locks seen) who refl mine)) tt
          (was_suits May osts head.clients past (Client c) (Target t) (message.Word who boot replays locks seen) suits w).0
      by from m goes w = absurd goes

  -- ---- to a client

  -- what a target answers
  deed_calm : (t : ℕ) (d : Deed) → Acted (only t past) d → AnswerCalm d.reply.answer
  deed_calm t d a = by (subst (IsAskedOf t) f.3 (flew_kind head past t d.reply.who f.0 g f.1))
    where
      f : FlewFor (only t past) d
      f = (at_target t).done.flew d a

      whole : Acted past d
      whole = acted_whole t past d a

      by : IsAskedOf t d.op → AnswerCalm d.reply.answer
      by (inl names) = names_answer head.osts d.reply.answer (acted_laid head past d g whole)
      by (inr object) = object_answer d.op d.reply.answer object.1 (acted_answered head past d g whole).0

  pub client_calm : (n c : ℕ) (from : Node) (m : Message) → Sent past n from (Client c) m → MessageCalm May osts from m
  client_calm n c from m sent = by from m (was_goes head past from (Client c) m g w) w
    where
      w : Was past from (Client c) m
      w = sent_was past n from (Client c) m sent

      by : (from : Node) (m : Message) → Goes from (Client c) m → Was past from (Client c) m → MessageCalm May osts from m
      by (Target t) (message.Reply r) goes w =
          let was = told past t (Client c) (message.Reply r) w in
          let meant = (at_target t).done.sent (Target t) (Client c) (message.Reply r) was in
          subst AnswerCalm (sym (ap (λ (x : ReplyTo). x.answer) meant.is)) (deed_calm t meant.deed meant.acted)
      by (Target t) (message.Grant notice) goes w = tt
      by (Target t) (message.Ask who boot cookie for_who xid) goes w =
          (was_suits May osts head.clients past (Target t) (Client c) (message.Ask who boot cookie for_who xid) suits w).1
      by (Target t) (message.Block who boot cookie) goes w = tt
      by (Target t) (message.Up boot) goes w =
          let suits = was_suits May osts head.clients past (Target t) (Client c) (message.Up boot) suits w in
          (suits.0.0, suits.1)
      by (Target t) (message.Ready who boot committed) goes w =
          (was_suits May osts head.clients past (Target t) (Client c) (message.Ready who boot committed) suits w).0
      by (Target t) (message.Evicted who boot) goes w = (was_suits May osts head.clients past (Target t) (Client c)
          (message.Evicted who boot) suits w).0
      by from m goes w = absurd goes

-- it is one of the run
module _ (head : Head) (past : List Line) (g : Grown head past) (t : ℕ) where
  at_each : HoldsAt head (only t past)
  at_each = (holds head past g).at t

  story : GrownOf head (only t past)
  story = grown_of head t past g

  done_one : (d : Deed) → Acted (only t past) d → d.reply.who.client < head.clients
  done_one d a = let f = at_each.done.flew d a in flew_one head (only t past) story d.reply.who f.0 f.1

  had_one : (who : Who) → (is_life who (lives_of head.clients (only t past)) ≡ true) ⊎ Evicted (only t past) who → who.client < head.clients
  had_one who (inl has) = (are_of head (only t past) story).lives who has
  had_one who (inr out) = (are_of head (only t past) story).evicted who out

  sent_one : (MayAsk : Type 0) (osts c : ℕ) (m : Message) → Goes (Target t) (Client c) m
      → Suits MayAsk osts head.clients (Send (Client c) m) → Was past (Target t) (Client c) m → c < head.clients
  sent_one MayAsk osts c (message.Up boot) goes suits w = suits.1
  sent_one MayAsk osts c (message.Reply k) goes suits w =
      let meant = at_each.done.sent (Target t) (Client c) (message.Reply k) (told past t (Client c) (message.Reply k) w) in
      subst (λ (n : ℕ). n < head.clients) (sym (meant.to ∙ ap (λ (r : ReplyTo). r.who.client) meant.is)) (done_one meant.deed meant.acted)
  sent_one MayAsk osts c (message.Grant notice) goes suits w =
      let was = told past t (Client c) (message.Grant notice) w in
      let given = at_each.locks.notices (Target t) (Client c) notice was in
      let meant = at_each.done.sent (Target t) (Client c) (message.Grant notice) was in
      subst (λ (n : ℕ). n < head.clients) (ap (λ (w : Who). w.client) given.of ∙ sym meant.to) (done_one given.deed given.gave.0)
  sent_one MayAsk osts c (message.Ask who boot cookie for_who xid) goes suits w =
      let meant = at_each.done.sent (Target t) (Client c) (message.Ask who boot cookie for_who xid)
      (told past t (Client c) (message.Ask who boot cookie for_who xid) w) in
      subst (λ (n : ℕ). n < head.clients) (sym meant.0) (flew_one head (only t past) story who meant.1.0 meant.1.1)
  sent_one MayAsk osts c (message.Block who boot cookie) goes suits w =
      let called = at_each.locks.blocks (Target t) c who boot cookie (told past t (Client c) (message.Block who boot cookie) w) in
      subst (λ (n : ℕ). n < head.clients) (ap (λ (w : Who). w.client) called.of ∙ called.to) (done_one called.deed called.gave.0)
  sent_one MayAsk osts c (message.Ready who boot committed) goes suits w =
      let was = told past t (Client c) (message.Ready who boot committed) w in
      let meant = at_each.done.sent (Target t) (Client c) (message.Ready who boot committed) was in
      subst (λ (n : ℕ). n < head.clients) (sym meant.1) (had_one who (at_each.lives.ready (Target t) (Client c) who boot committed was))
  sent_one MayAsk osts c (message.Evicted who boot) goes suits w =
      let was = told past t (Client c) (message.Evicted who boot) w in
      let meant = at_each.done.sent (Target t) (Client c) (message.Evicted who boot) was in
      subst (λ (n : ℕ). n < head.clients) (sym meant)
      (⊎_elim (λ (out : Evicted (only t past) who). had_one who (inr out))
      (λ (n : Newer head.clients (only t past) who). subst (λ (x : ℕ). x < head.clients) n.client (had_one n.life n.had))
      (at_each.lives.over (Target t) (Client c) who boot was))
  sent_one MayAsk osts c m goes suits w = absurd goes

pub to_client : (MayAsk : Type 0) (osts : ℕ) (head : Head) (past : List Line) → Grown head past → AllSuit MayAsk osts head.clients past
    → (n c : ℕ) (from : Node) (m : Message) → Sent past n from (Client c) m → c < head.clients
to_client MayAsk osts head past g suits n c from m sent = by from (was_goes head past from (Client c) m g w) w
  where
    w : Was past from (Client c) m
    w = sent_was past n from (Client c) m sent

    by : (from : Node) → Goes from (Client c) m → Was past from (Client c) m → c < head.clients
    by (Target t) goes w = sent_one head past g t MayAsk osts c m goes
        (was_suits MayAsk osts head.clients past (Target t) (Client c) m suits w).0 w
    by (Client d) goes w = absurd goes
