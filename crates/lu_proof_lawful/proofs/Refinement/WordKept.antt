-- What lines of one target's story leave of words that were sent, of what was told with them, and of who knows the boot, while it recovers.
use Rattle.std.proofs.Common.{◌≡◌, ℕ, ◌≤◌, Bool, true, false, List, ◌∷◌, ◌⊎◌, inl, inr, ⊎_elim, refl, sym, subst, ap, ◌∙◌, arith}
use Rattle.std.specs.Prelude.{map, if◌then◌else◌}
use Rattle.std.proofs.lemmas.Bool.{eq-eqb}
use Rattle.lu_base.specs.declared.ids.Node.{Node}
use Rattle.lu_base.specs.declared.ids.Node.TheVariants.{Client, Target}
use Rattle.lu_base.specs.declared.ids.Stamp.{Stamp}
use Rattle.lu_base.specs.declared.ids.Who.{Who}
use Rattle.lu_base.specs.declared.locks.Lock.{Lock}
use Rattle.lu_held.specs.declared.locks.HeldLock.{HeldLock}
use Rattle.lu_msg.specs.declared.messages.Message.{Message}
use Rattle.lu_msg.specs.declared.messages.Message.TheVariants as message
use Rattle.lu_spec_entries.specs.Carried.{Said}
use Rattle.lu_spec_entries.specs.Words.{Entry, Send, Knows, Boot, Close, Evict, Joined, Says, Line, line}
use Rattle.lu_spec_target.specs.Recovery.{empty_word}
use Rattle.lu_spec_target.specs.Windows.{word_before}
use Rattle.lu_spec_client.specs.Caches.{held_as, held_at}
use Rattle.lu_proof_lawful.specs.Covered.TargetStates.{server_of, lives_of, closed_of, words_of}
use Rattle.lu_proof_lawful.specs.Covered.ClientStates.{life_of, known_of, is_own}
use Rattle.lu_proof_lawful.specs.Covered.Heads.{Head}
use Rattle.lu_proof_lawful.proofs.Preconditions.CloseLists.{in_placed}
use Rattle.lu_proof_lawful.proofs.Preconditions.Guards.{In, Was}
use Rattle.lu_proof_lawful.proofs.Preconditions.StoryGuards.{IsRecovering, HeldOk, KeepsOk, EntryOf}
use Rattle.lu_proof_lawful.proofs.Preconditions.ClientStoryGuards.{GivenOf}
use Rattle.lu_proof_lawful.proofs.Preconditions.Lists.{turn, own_is}
use Rattle.lu_proof_lawful.proofs.Preconditions.LifeLists.{life_left}
use Rattle.lu_proof_lawful.proofs.Preconditions.Only.{was_more}
use Rattle.lu_proof_lawful.proofs.Invariants.Groups.{HoldsAt}
use Rattle.lu_proof_lawful.proofs.Invariants.TargetGroups.{HasSlot, told_of, boot_told, who_told, BootIn}
use Rattle.lu_proof_lawful.proofs.Invariants.Recovers.{serving_not}
use Rattle.lu_proof_lawful.proofs.Invariants.RecoversTold.{low_not}
use Rattle.lu_proof_lawful.proofs.Refinement.TiedWord.{IsWord, SentWord}

-- ---- who told the boot knows it

module _ (head : Head) (past : List Line) (h : HoldsAt head past) (who : Who) where
  pub word_known : (boot : ℕ) → SentWord past who boot → boot ≤ known_of who.client past
  word_known boot s = let k = h.lives.knew s.from s.to s.message s.was in let le = s.of_boot
      in subst (λ (w : Who). boot ≤ known_of w.client past) s.of_life (omega (arith, k, le))

  -- so it isn't the life of a client that knows no boot but such that served
  pub word_not_low : IsRecovering head.osts past → SentWord past who (server_of head.osts past).boot → (c : ℕ)
      → known_of c past ≤ closed_of past → life_of c past ≡ who → ⊥
  word_not_low off s c low own = low_not head.osts past c low h.phase off who.client (word_known (server_of head.osts past).boot s)
      (ap (λ (w : Who). w.client) (sym own) ∙ h.phase.client c)

-- ---- a client that comes to hold a lock knows none

pub hold_low : (head : Head) (past : List Line) (c t : ℕ) (lock : Lock) (marked : Bool) (seen : List ℕ) → HoldsAt head past
    → ((marked ≡ false) × HeldOk past c t lock seen) ⊎ GivenOf past c t lock seen
    → (known_of c past ≤ closed_of past) × (lock.ask.who ≡ life_of c past)
hold_low head past c t lock marked seen h (inl ok) =
    let g = h.locks.held c (held_as t lock false) ok.1.held in
    (h.recovers.hears ok.1.at c t ok.1.flight ok.1.reply ok.1.here ok.1.heard, h.locks.whose g.deed lock g.gave ∙ g.who)
hold_low head past c t lock marked seen h (inr ok) =
    let b = (h.done.sent (Target t) (Client c) (message.Grant ok.notice) ok.was).boot in
    let e = ok.boot in
    (omega (arith, b, e), ok.of_life ∙ ok.who)

-- ---- words that were sent

pub sent_more : (l : Line) (past : List Line) (who : Who) (boot : ℕ) → SentWord past who boot → SentWord (l ∷ past) who boot
sent_more l past who boot s =
    record {
      from = s.from;
      to = s.to;
      message = s.message;
      was = was_more l past s.from s.to s.message s.was;
      is_word = s.is_word;
      of_life = s.of_life;
      of_boot = s.of_boot;
    }

-- this line sends one
pub record SendsWord (e : Entry) (who : Who) (boot : ℕ) : Type 0 where
  pub to : Node
  pub message : Message
  pub is : e ≡ Send to message
  pub is_word : IsWord message
  pub of_life : who_told message ≡ who
  pub of_boot : boot ≤ boot_told message

pub sent_or : (l : Line) (past : List Line) (who : Who) (boot : ℕ) → SentWord (l ∷ past) who boot → SentWord past who boot
    ⊎ SendsWord l.entry who boot
sent_or l past who boot s = by l.entry s.was
  where
    by : (e : Entry) → Was (line l.at e ∷ past) s.from s.to s.message → SentWord past who boot ⊎ SendsWord e who boot
    by (Send to m) w = ⊎_elim
        (λ (q : (l.at.node ≡ s.from) × (to ≡ s.to) × (m ≡ s.message)). inr (record {
          to = to;
          message = m;
          is = refl;
          is_word = subst IsWord (sym q.2) s.is_word;
          of_life = ap who_told q.2 ∙ s.of_life;
          of_boot = subst (λ (x : Message). boot ≤ boot_told x) (sym q.2) s.of_boot;
        }))
        (λ (q : Was past s.from s.to s.message). inl (record {
          from = s.from;
          to = s.to;
          message = s.message;
          was = q;
          is_word = s.is_word;
          of_life = s.of_life;
          of_boot = s.of_boot;
        }))
        w
    by e w = inl (record {
      from = s.from;
      to = s.to;
      message = s.message;
      was = w;
      is_word = s.is_word;
      of_life = s.of_life;
      of_boot =
          s.of_boot;
    })

-- a word tells no boot that the target hasn't had
word_low : (most : ℕ) (m : Message) → IsWord m → BootIn most m → boot_told m ≤ most
word_low most (message.Word who boot replays locks seen) w b = b.1
word_low most (message.Join who boot) w b = b.1
word_low most m w b = absurd w

-- ---- what the target has taken of words was sent

pub said_line : (head : Head) (past : List Line) (stamp : Stamp) (node : Node) (e : Entry) → EntryOf head past (turn stamp node) node e
    → ((w : Said) → In w (words_of past) → SentWord past w.who (server_of head.osts past).boot)
    → (w : Said) → In w (words_of (line (turn stamp node) e ∷ past))
    → SentWord (line (turn stamp node) e ∷ past) w.who (server_of head.osts (line (turn stamp node) e ∷ past)).boot
said_line head past stamp (Client c) e ok h w i = sent_more (line (turn stamp (Client c)) e) past w.who (server_of head.osts past).boot
    (h w i)
said_line head past stamp (Target u) (Boot boot disk) ok h w i = absurd i
said_line head past stamp (Target u) (Close o) ok h w i = absurd i
said_line head past stamp (Target u) (Says said) ok h w i =
    ⊎_elim
    (λ (e : said ≡ w). subst (λ (x : Said). SentWord new x.who (server_of head.osts past).boot) e
    (sent_more (line (turn stamp (Target u)) (Says said)) past said.who (server_of head.osts past).boot (by ok.keeps)))
    (λ (j : In w (words_of past)). sent_more (line (turn stamp (Target u)) (Says said)) past w.who (server_of head.osts past).boot (h w j))
    (in_placed word_before said w (words_of past) i)
  where
    new : List Line
    new = line (turn stamp (Target u)) (Says said) ∷ past

    by : KeepsOk head past (turn stamp (Target u)) u ok.from (message.Word said.who ok.boot said.replays said.locks said.seen) said.who
        ok.boot ⊎ ((said ≡ empty_word said.who) × KeepsOk head past (turn stamp (Target u)) u ok.from (message.Join said.who ok.boot)
        said.who ok.boot)
        → SentWord past said.who (server_of head.osts past).boot
    by (inl k) =
        let e = k.of_boot in
        record {
          from = ok.from;
          to = Target u;
          message = message.Word said.who ok.boot said.replays said.locks said.seen;
          was = k.was;
          is_word = tt;
          of_life = refl;
          of_boot = omega (arith, e);
        }
    by (inr k) =
        let e = k.1.of_boot in
        record {
          from = ok.from;
          to = Target u;
          message = message.Join said.who ok.boot;
          was = k.1.was;
          is_word = tt;
          of_life = refl;
          of_boot = omega (arith, e);
        }
said_line head past stamp (Target u) e ok h w i = sent_more (line (turn stamp (Target u)) e) past w.who (server_of head.osts past).boot
    (h w i)

-- ---- before a line after which a target recovers it did so too

pub record Before (head : Head) (past new : List Line) (who : Who) : Type 0 where
  pub off : IsRecovering head.osts past
  pub boot : (server_of head.osts new).boot ≡ (server_of head.osts past).boot
  pub has : HasSlot head.clients past who

pub recovered_before : (head : Head) (past : List Line) (stamp : Stamp) (node : Node) (e : Entry)
    → EntryOf head past (turn stamp node) node e → HoldsAt head past → (who : Who)
    → IsRecovering head.osts (line (turn stamp node) e ∷ past) → HasSlot head.clients (line (turn stamp node) e ∷ past) who
    → SentWord (line (turn stamp node) e ∷ past) who (server_of head.osts (line (turn stamp node) e ∷ past)).boot
    → Before head past (line (turn stamp node) e ∷ past) who
recovered_before head past stamp (Client c) e ok h who off has s = record { off = off; boot = refl; has = has }
recovered_before head past stamp (Target u) (Boot boot disk) ok h who off has s =
    let low = word_low (server_of head.osts past).boot s.message s.is_word (h.boots s.from s.to s.message s.was) in
    let le = s.of_boot in
    let next = ok.next in
    absurd (omega (arith, low, le, next))
recovered_before head past stamp (Target u) (Close o) ok h who off has s = absurd (by (ap (λ x. x.boot) ok.is))
  where
    by : o.boot ≡ (server_of head.osts past).boot → ⊥
    by e = let t = eq-eqb o.boot (server_of head.osts past).boot e in absurd (cc)
recovered_before head past stamp (Target u) (Evict gone cause) ok h who off has s =
    record { off = off; boot = refl; has = (life_left who gone (lives_of head.clients past) has).0 }
recovered_before head past stamp (Target u) (Joined new) ok h who off has s =
    absurd (serving_not head.osts past (⊎_elim (λ x. x.serves) (λ x. x.serves) ok) off)
recovered_before head past stamp (Target u) e ok h who off has s = record { off = off; boot = refl; has = has }

-- ---- what was told of stays

pub told_same : (head : Head) (past : List Line) (stamp : Stamp) (node : Node) (e : Entry) → EntryOf head past (turn stamp node) node e
    → HoldsAt head past → (who : Who) → (server_of head.osts past).boot ≤ known_of who.client past
    → told_of who (line (turn stamp node) e ∷ past) ≡ told_of who past
told_same head past stamp (Client c) (Knows t boot) ok h who le = lasts (is_own who past (Client c)) refl
  where
    lasts : (b : Bool) → is_own who past (Client c) ≡ b → (if b then map {A = HeldLock} {B = Lock} (λ g. g.lock) (held_at who.client past)
        else told_of who past) ≡ told_of who past
    lasts true o =
        let lt = ok.newer in
        let most = (h.boots (Target t) (Client c) (message.Up boot) ok.was).1 in
        let same : known_of who.client past ≡ known_of c past =
        ap (λ v. known_of v past) (ap (λ (w : Who). w.client) (own_is who past c o) ∙ h.phase.client c) in
        absurd (omega (arith, lt, most, le, same))
    lasts false o = refl
told_same head past stamp (Target u) (Knows t boot) ok h who le = absurd ok
told_same head past stamp node e ok h who le = refl
