-- What lives hold that have told a target all they have stays as it was when they were told its boot, line by line: while the target
-- recovers such
-- a life comes to hold nothing, hears nothing, and gives nothing up, unless it is over. What it tells it has, since it gave up none before.
use Rattle.std.proofs.Common.{◌≡◌, ℕ, ◌<◌, ◌≤◌, Bool, true, false, List, [], ◌∷◌, Option, ◌⊎◌, inl, inr, ⊎_elim, refl, sym, subst, ap, ◌∙◌}
use Rattle.std.proofs.Common.{arith}
use Rattle.std.specs.Prelude.{nat_eq, map, length, if◌then◌else◌}
use Rattle.std.proofs.lemmas.Bool.{cond_both, cond-true, and_from, eq-eqb}
use Rattle.std.proofs.lemmas.List.{length-map}
use Rattle.lu_base.specs.declared.ids.At.{At}
use Rattle.lu_base.specs.declared.ids.Node.{Node}
use Rattle.lu_base.specs.declared.ids.Node.TheVariants.{Client, Target}
use Rattle.lu_base.specs.declared.ids.Stamp.{Stamp}
use Rattle.lu_base.specs.declared.ids.Who.{Who}
use Rattle.lu_base.specs.declared.locks.Lock.{Lock as TableLock}
use Rattle.lu_base.specs.declared.locks.Resource.{Resource}
use Rattle.lu_held.specs.declared.locks.HeldLock.{HeldLock}
use Rattle.lu_held.specs.Locks.{name_of, is_named}
use Rattle.lu_msg.specs.declared.messages.Message.{Message}
use Rattle.lu_msg.specs.declared.messages.Message.TheVariants as message
use Rattle.lu_spec_entries.specs.Carried.{Deed, Flight, Said}
use Rattle.lu_spec_entries.specs.Words as word
use Rattle.lu_spec_entries.specs.Words.{Line, line}
use Rattle.lu_spec_entries.specs.Concerns.{concerns, only}
use Rattle.lu_spec_client.specs.Caches.{held_as, held_at, with_held}
use Rattle.lu_spec_client.specs.Calls.{life_at}
use Rattle.lu_proof_lawful.specs.Covered.TargetStates.{server_of, words_of}
use Rattle.lu_proof_lawful.specs.Covered.ClientStates.{life_of, known_of, awaits_of}
use Rattle.lu_proof_lawful.specs.Covered.Heads.{Head}
use Rattle.lu_proof_lawful.proofs.Preconditions.Guards.{In, Noticed, Ending, Closes, GivesUp, EntryOk}
use Rattle.lu_proof_lawful.proofs.Preconditions.StoryGuards.{IsRecovering, HeardOk, WordsOk, JoinsOk, SendOf, EntryOf, locks_told}
use Rattle.lu_proof_lawful.proofs.Preconditions.HeedMarks.{owed_of}
use Rattle.lu_proof_lawful.proofs.Preconditions.Held.{held_there, held_target}
use Rattle.lu_proof_lawful.proofs.Preconditions.ClientLines.{held_once}
use Rattle.lu_proof_lawful.proofs.Preconditions.ClientLocks.{Once, once_filter, with_self, in_map}
use Rattle.lu_proof_lawful.proofs.Preconditions.Lists.{self, turn}
use Rattle.lu_proof_lawful.proofs.Preconditions.Parts.{life_is_of, standing_is}
use Rattle.lu_proof_lawful.proofs.Invariants.Groups.{Holds, HoldsAt}
use Rattle.lu_proof_lawful.proofs.Invariants.TargetGroups.{Flew, Promoted, Gave, HasSlot, Evicted, told_of, boot_told, who_told}
use Rattle.lu_proof_lawful.proofs.Invariants.Lines.{only_more, flew_more}
use Rattle.lu_proof_lawful.proofs.Invariants.LocksHeard.{numbered}
use Rattle.lu_proof_lawful.proofs.Invariants.RecoversTold.{recovers_below}
use Rattle.lu_proof_lawful.proofs.Invariants.Pigeons.{Different, all_there}
use Rattle.lu_proof_bytes.specs.Object.Words.{Lock, Entry}
use Rattle.lu_proof_bytes.specs.Object.Folds.{HeldBy, awaits}
use Rattle.lu_proof_bytes.specs.Object.Folds as says
use Rattle.lu_proof_lawful.specs.Projection.Lives.{number_of, is_live}
use Rattle.lu_proof_lawful.specs.Projection.Locks.{lock_of}
use Rattle.lu_proof_lawful.specs.Projection.Stories.{story}
use Rattle.lu_proof_lawful.proofs.Projection.Lives.{same_life}
use Rattle.lu_proof_lawful.proofs.Refinement.TiedAsked.{AskedBy, IsOwed}
use Rattle.lu_proof_lawful.proofs.Refinement.TiedWord.{IsWord, SentWord, HoldsJust, GivenAs, Asking, WordTied}
use Rattle.lu_proof_lawful.proofs.Refinement.Tied.{Here, Grows}
use Rattle.lu_proof_lawful.proofs.Refinement.ClosedCommits.{line_is}
use Rattle.lu_proof_lawful.proofs.Refinement.OverLives.{noticed_over, live_parts, lasts_live}
use Rattle.lu_proof_lawful.proofs.Refinement.WordParts.{Parted, CameHeld, WentHeld, HearsOf, parted}
use Rattle.lu_proof_lawful.proofs.Refinement.WordKept.{word_known, word_not_low, hold_low, SendsWord, sent_or, said_line, recovered_before}
use Rattle.lu_proof_lawful.proofs.Refinement.WordKept.{told_same}

-- ---- lines

-- the line is a client's that ends its life, in the turn that the last line is of
pub ending_now : (past : List Line) (at : At) (c : ℕ) → Closes past at → Ending past c → Noticed past at (life_at c past)
ending_now [] at c closes k = absurd k
ending_now (l ∷ past) at c (inl now) k = subst (λ (a : At). Noticed (l ∷ past) a (life_at c (l ∷ past))) now k.1
ending_now (l ∷ past) at c (inr over) k = absurd (over c k)

-- a message leaves what was told of
same_told : (l : Line) (past : List Line) (who : Who) (to : Node) (m : Message) → l.entry ≡ word.Send to m → told_of who past
    ≡ told_of who (l ∷ past)
same_told l past who to m is = subst (λ (e : word.Entry). told_of who past ≡ told_of who (line l.at e ∷ past)) (sym is) refl

-- ---- what was given or asked stays so

promoted_more : (l : Line) (past : List Line) (k : TableLock) → Promoted past k → Promoted (l ∷ past) k
promoted_more l past k p = by l.entry
  where
    by : (e : word.Entry) → Promoted (line l.at e ∷ past) k
    by (word.Grant lock asked) = inr p
    by _ = p

pub only_gave : (t : ℕ) (l : Line) (past : List Line) (d : Deed) (k : TableLock) → Gave (only t past) d k → Gave (only t (l ∷ past)) d k
only_gave t l past d k g = (
  only_more t l past d g.0,
  ⊎_elim
      (λ i. inl i)
      (λ p. inr (
        cond_both (concerns t l.at.node l.entry) (l ∷ only t past) (only t past) (λ (q : List Line). Promoted q k)
            (λ c. promoted_more l (only t past) k p.0) (λ c. p.0),
        p.1,
      ))
      g.1,
)

pub only_flew : (t : ℕ) (l : Line) (past : List Line) (who : Who) (f : Flight) → Flew (only t past) who f → Flew (only t (l ∷ past)) who f
only_flew t l past who f a = cond_both (concerns t l.at.node l.entry) (l ∷ only t past) (only t past) (λ (q : List Line). Flew q who f)
    (λ c. flew_more l (only t past) who f a) (λ c. a)

-- ---- locks held by name are different

different_locks : (t : ℕ) (hs : List HeldLock) → Once hs → ((h : HeldLock) → In h hs → h.target.0 ≡ t)
    → Different (map {A = HeldLock} {B = TableLock} (λ h. h.lock) hs)
different_locks t [] o all = tt
different_locks t (h ∷ hs) o all = (apart, different_locks t hs o.1 (λ k i. all k (inr i)))
  where
    apart : In h.lock (map {A = HeldLock} {B = TableLock} (λ h. h.lock) hs) → ⊥
    apart i =
        let r = in_map (λ (k : HeldLock). k.lock) h.lock hs i in
        let target = eq-eqb h.target.0 r.0.target.0 (all h (inl refl) ∙ sym (all r.0 (inr r.1))) in
        let cookie = eq-eqb h.lock.cookie.0 r.0.lock.cookie.0 (ap (λ (x : TableLock). x.cookie.0) (sym r.2)) in
        let yes : is_named (name_of h) r.0 ≡ true = and_from (nat_eq h.target.0 r.0.target.0) (nat_eq h.lock.cookie.0 r.0.lock.cookie.0)
        target cookie in
        let no = o.0 r.0 r.1 in
        absurd (cc)

-- ---- a lock that comes to be held was given

came_given : (head : Head) (t : ℕ) (r : Resource) (stamp : Stamp) (c : ℕ) (lock : TableLock) (marked : Bool) (size : Option ℕ)
    (seen : List ℕ) (past : List Line)
    → Holds head (line (turn stamp (Client c)) (word.Hold t lock marked size seen) ∷ past) → lock.resource ≡ r
    → GivenAs r (only t (line (turn stamp (Client c)) (word.Hold t lock marked size seen) ∷ past)) (lock_of lock)
came_given head t r stamp c lock marked size seen past all on =
    let g = h.locks.held c (held_as t lock marked) there in
    subst (λ (p : List Line). GivenAs r p (lock_of lock)) (sym now) (g.deed, lock, g.gave, on, refl)
  where
    new : List Line
    new = line (turn stamp (Client c)) (word.Hold t lock marked size seen) ∷ only t past

    now : only t (line (turn stamp (Client c)) (word.Hold t lock marked size seen) ∷ past) ≡ new
    now = cond-true (nat_eq t t) new (only t past) (self t)

    h : HoldsAt head new
    h = subst (HoldsAt head) now (all.at t)

    there : In (held_as t lock marked) (held_at c new)
    there = subst (λ b. In (held_as t lock marked) (if b then with_held (held_as t lock marked) (held_at c (only t past))
        else held_at c (only t past))) (sym (self c)) (with_self (held_as t lock marked) (held_at c (only t past)))

-- ---- the start

pub word_start : (head : Head) (t : ℕ) (r : Resource) → WordTied head t r []
word_start head t r = record {
  given = λ m i. absurd i;
  awaited = λ c k e. absurd (cc);
  said = λ w i. absurd i;
  word =
      λ off who has s. absurd s.was;
}

-- ---- each line

module _ (head : Head) (t : ℕ) (r : Resource) (l : Line) (past : List Line) (here : Here head t r l past) where
  abbrev P : List Line
  P = only t past

  abbrev h : List Entry
  h = story t r past

  abbrev k : List Entry
  k = story t r (l ∷ past)

  at : HoldsAt head P
  at = here.stood.before.at t

  part : Parted t r l.at.node past l.entry h k
  part = parted t r past h l.at.node l.entry

  -- what the guards of the story say of the line, and those of the whole past
  of_story : (node : Node) (e : word.Entry) → l.at.node ≡ node → l.entry ≡ e → concerns t node e ≡ true
      → EntryOf head P (turn l.at.stamp node) node e
  of_story node e p q own =
      let same = line_is l node e p q in
      subst (λ (x : Line). EntryOf head P x.at x.at.node x.entry) same
      (here.stood.ok.of t (subst (λ (x : Line). concerns t x.at.node x.entry ≡ true) (sym same) own))

  of_past : (node : Node) (e : word.Entry) → l.at.node ≡ node → l.entry ≡ e → EntryOk past (turn l.at.stamp node) node e
  of_past node e p q = subst (λ (x : Line). EntryOk past x.at x.at.node x.entry) (line_is l node e p q) here.stood.ok.ok

  given_line : (m : Lock) → HeldBy k m → GivenAs r (only t (l ∷ past)) m
  given_line m i =
      ⊎_elim
      (λ (j : HeldBy h m). let g = here.tied.word.given m j in (g.0, g.1, only_gave t l past g.0 g.1 g.2, g.3, g.4))
      (λ (x : CameHeld t r l.at.node past l.entry h m).
      let same = line_is l (Client x.client) (word.Hold t x.lock x.marked x.size x.seen) x.here x.is in
      subst (GivenAs r (only t (l ∷ past))) x.same
      (subst (λ (y : Line). GivenAs r (only t (y ∷ past)) (lock_of x.lock)) (sym same)
      (came_given head t r l.at.stamp x.client x.lock x.marked x.size x.seen past
      (subst (λ (y : Line). Holds head (y ∷ past)) same here.stood.after) x.on)))
      (part.back m i)

  awaited_line : (w j : ℕ) → awaits w j k ≡ true → Asking (only t (l ∷ past)) w
  awaited_line w j e =
      ⊎_elim
      (λ (a : awaits w j h ≡ true). let x = here.tied.word.awaited w j a in (x.0, x.1, x.2, only_flew t l past x.0 x.2 x.3))
      (λ (x : HearsOf t r l.at.node past l.entry h w).
      let ok : HeardOk P x.client x.flight x.reply = of_story (Client x.client) (word.Heard t x.flight x.reply) x.here x.is (self t) in (
        life_of x.client P,
        ap number_of (sym (life_is_of x.client t past)) ∙ sym x.life,
        x.flight,
        only_flew t l past (life_of x.client P) x.flight (at.numbers.flying (life_of x.client P) x.flight ok.flying),
      ))
      (part.awaits w j e)

  said_now : (w : Said) → In w (words_of (only t (l ∷ past))) → SentWord (only t (l ∷ past)) w.who
      (server_of head.osts (only t (l ∷ past))).boot
  said_now =
      cond_both (concerns t l.at.node l.entry) (l ∷ P) P (λ (p : List Line). (w : Said) → In w (words_of p)
      → SentWord p w.who (server_of head.osts p).boot)
      (λ q. said_line head P l.at.stamp l.at.node l.entry (of_story l.at.node l.entry refl refl q) here.tied.word.said)
      (λ q. here.tied.word.said)

  -- ---- who has told all it has

  module _ (who : Who) (off : IsRecovering head.osts P) (has : HasSlot head.clients P who) where
    not_came : SentWord P who (server_of head.osts P).boot → (m : Lock) → m.life ≡ number_of who → CameHeld t r l.at.node past l.entry h m
        → ⊥
    not_came s m life x =
        let low = hold_low head P x.client t x.lock x.marked x.seen at
        (of_story (Client x.client) (word.Hold t x.lock x.marked x.size x.seen) x.here x.is (self t)) in
        word_not_low head P at who off s x.client low.0 (sym low.1 ∙ same_life x.lock.ask.who who (ap (λ (y : Lock). y.life) x.same ∙ life))

    not_went : SentWord P who (server_of head.osts P).boot → (m : Lock) → HeldBy h m → m.life ≡ number_of who
        → WentHeld t r l.at.node past l.entry h m → ⊥
    not_went s m i life x = by (of_past (Client x.client) (word.Drop t x.lock) x.here x.is)
      where
        -- the lock is that life's
        own : life_of x.client P ≡ who
        own =
            let ok = of_story (Client x.client) (word.Drop t x.lock) x.here x.is (self t) in
            let given = here.tied.word.given m i in
            let g = at.locks.held x.client ok.holding ok.held in
            let cookie : ok.holding.lock.cookie.0 ≡ given.1.cookie.0 = ap (λ (y : TableLock). y.cookie.0) ok.is ∙ x.cookie
            ∙ ap (λ (y : Lock). y.cookie) (sym given.4) in
            let same = at.locks.once g.deed given.0 ok.holding.lock given.1 g.gave given.2 (ap numbered cookie) in
            let mine : given.1.ask.who ≡ who = same_life given.1.ask.who who (ap (λ (y : Lock). y.life) given.4 ∙ life) in
            sym g.who ∙ ap (λ (d : Deed). d.reply.who) same.0 ∙ sym (at.locks.whose given.0 given.1 given.2) ∙ mine

        by : GivesUp past (turn l.at.stamp (Client x.client)) x.client t x.lock → ⊥
        by (inl marked) = word_not_low head P at who off s x.client
            (at.phase.served x.client (sym (standing_is x.client t past) ∙ marked.serves)) own
        by (inr n) =
            let yes = noticed_over past (turn l.at.stamp (Client x.client)) x.client (life_at x.client past) refl n in
            let no = (live_parts x.client past h x.live).1 in
            absurd (cc)

    not_hears : SentWord P who (server_of head.osts P).boot → HearsOf t r l.at.node past l.entry h (number_of who) → ⊥
    not_hears s x =
        let ok : HeardOk P x.client x.flight x.reply = of_story (Client x.client) (word.Heard t x.flight x.reply) x.here x.is (self t) in
        let b = (at.done.sent (Target ok.from) (Client x.client) (message.Reply x.reply) ok.was).boot in
        let e = ok.boot in
        word_not_low head P at who off s x.client (omega (arith, b, e))
        (sym (life_is_of x.client t past) ∙ sym (same_life who (life_at x.client past) x.life))

    -- who told it before
    still : SentWord P who (server_of head.osts P).boot → HoldsJust r k who (told_of who P)
    still s =
        let j = here.tied.word.word off who has s in
        record {
          among = λ m i life. ⊎_elim (λ (i : HeldBy h m). j.among m i life)
              (λ (x : CameHeld t r l.at.node past l.entry h m). absurd (not_came s m life x)) (part.back m i);
          held = λ x i on. ⊎_elim
              (λ (i : HeldBy k (lock_of x)). i)
              (λ (w : WentHeld t r l.at.node past l.entry h (lock_of x)). absurd
              (not_went s (lock_of x) (j.held x i on) (ap number_of (j.own x i)) w))
              (part.kept (lock_of x) (j.held x i on));
          own = j.own;
          forgot = λ n. by n (awaits (number_of who) n k) refl (j.forgot n);
        }
      where
        by : (n : ℕ) (b : Bool) → awaits (number_of who) n k ≡ b → awaits (number_of who) n h ≡ false → b ≡ false
        by n true e none = ⊎_elim (λ (yes : awaits (number_of who) n h ≡ true). absurd (cc)) (λ x. absurd (not_hears s x))
            (part.awaits (number_of who) n e)
        by n false e none = refl

    -- a line that sends a message leaves what is held and awaited
    as_sent : (to : Node) (m : Message) → l.entry ≡ word.Send to m → (ls : List TableLock) → HoldsJust r h who ls → HoldsJust r k who ls
    as_sent to m is ls j =
        record {
          among = λ x i life. ⊎_elim (λ (i : HeldBy h x). j.among x i life)
              (λ (y : CameHeld t r l.at.node past l.entry h x). absurd (let other = y.is in cc)) (part.back x i);
          held = λ x i on. ⊎_elim (λ (i : HeldBy k (lock_of x)). i)
              (λ (y : WentHeld t r l.at.node past l.entry h (lock_of x)). absurd (let other = y.is in cc))
              (part.kept (lock_of x) (j.held x i on));
          own = j.own;
          forgot = λ n. by n (awaits (number_of who) n k) refl (j.forgot n);
        }
      where
        by : (n : ℕ) (b : Bool) → awaits (number_of who) n k ≡ b → awaits (number_of who) n h ≡ false → b ≡ false
        by n true e none = ⊎_elim (λ (yes : awaits (number_of who) n h ≡ true). absurd (cc))
            (λ (y : HearsOf t r l.at.node past l.entry h (number_of who)). absurd (let other = y.is in cc))
            (part.awaits (number_of who) n e)
        by n false e none = refl

    -- who joins has asked nothing, so it holds nothing
    joins : (c b : ℕ) → JoinsOk P c who b → HoldsJust r h who (told_of who P)
    joins c b ok =
        record {
          among = λ m i life. absurd (by_held m i life);
          held = λ x i on. absurd (subst (λ (ls : List TableLock). In x ls) none i);
          own = λ x i. absurd (subst (λ (ls : List TableLock). In x ls) none i);
          forgot = λ n. by_awaits n (awaits (number_of who) n h) refl;
        }
      where
        none : told_of who P ≡ []
        none = ap (λ (w : Who). told_of w P) ok.of_life ∙ at.recovers.bare c ok.joins

        silent : (w : Who) (f : Flight) → w ≡ who → Flew P w f → ⊥
        silent w f e a = at.lives.silent c ok.joins f (subst (λ (x : Who). Flew P x f) (e ∙ ok.of_life) a)

        by_held : (m : Lock) → HeldBy h m → m.life ≡ number_of who → ⊥
        by_held m i life =
            let g = here.tied.word.given m i in
            let f = at.done.flew g.0 g.2.0 in
            silent g.0.reply.who f.0 (sym (at.locks.whose g.0 g.1 g.2) ∙ same_life g.1.ask.who who (ap (λ (y : Lock). y.life) g.4 ∙ life))
            f.1

        by_awaits : (n : ℕ) (b : Bool) → awaits (number_of who) n h ≡ b → b ≡ false
        by_awaits n true e = let a = here.tied.word.awaited (number_of who) n e in absurd (silent a.0 a.2 (same_life a.0 who a.1) a.3)
        by_awaits n false e = refl

    -- who tells a word holds as much as it did when it was told the boot
    words : (c u b : ℕ) (replays locks : ℕ) (seen : List ℕ) → l.at.node ≡ Client c → l.entry
        ≡ word.Send (Target u) (message.Word who b replays locks seen) → WordsOk P c who b replays locks seen
        → (Noticed past l.at (life_at c past) → ⊥)
        → (server_of head.osts P).boot ≤ b → HoldsJust r h who (told_of who P)
    words c u b replays locks seen node is ok alive le =
        record {
          among = λ m i life. let a = asked.locks.held m i (life ∙ ap number_of mine) in (a.0.lock, told a.0 a.1, a.2, a.3);
          held = λ x i on. by_held x i on;
          own = λ x i. let y = back x i in ap (λ (z : TableLock). z.ask.who) (sym y.2)
              ∙ (let g = at.locks.held c y.0 y.1 in at.locks.whose g.deed y.0.lock g.gave ∙ g.who) ∙ sym ok.tells.of_life;
          forgot = λ n. by_awaits n (awaits (number_of who) n h) refl;
        }
      where
        -- it is the client's, and live
        mine : who ≡ life_at c past
        mine = ok.tells.of_life ∙ sym (life_is_of c t past)

        known : (server_of head.osts P).boot ≤ known_of c P
        known = let e = ok.tells.of_boot in omega (arith, e, le)

        not_evicted : (e : Bool) → says.evicted (number_of (life_at c past)) h ≡ e → e ≡ false
        not_evicted true e =
            let x : Evicted P who = subst (Evicted P) (sym mine) (sym (here.tied.target.evicted (life_at c past)) ∙ e) in
            let less = at.lives.apart who who has x refl in
            absurd (omega (arith, less))
        not_evicted false e = refl

        live : is_live c past h ≡ true
        live = lasts_live head c past h here.stood.grown (not_evicted (says.evicted (number_of (life_at c past)) h) refl)
            (λ e. alive (ending_now past l.at c here.stood.ok.closes e))

        asked : AskedBy t r past c
        asked = here.tied.asked.of c live

        told : (x : HeldLock) → In x (held_at c P) → In x.lock (told_of who P)
        told x i = subst (λ (w : Who). In x.lock (told_of w P)) (sym ok.tells.of_life) (at.recovers.holds off c known x i)

        -- all that it was told with it holds still
        held : List TableLock
        held = map {A = HeldLock} {B = TableLock} (λ x. x.lock) (held_at c P)

        different : Different held
        different = different_locks t (held_at c P) (subst Once (held_there c t past)
            (once_filter _ (held_at c past) (held_once head c past here.stood.grown))) (λ x i. held_target c t past x i)

        enough : length (told_of who P) ≤ length held
        enough =
            let le = ok.whole in
            let as_told : length (locks_told c P) ≡ length (told_of who P) =
            ap (λ (ls : List TableLock). length ls) (at.recovers.told_as c ∙ ap (λ (w : Who). told_of w P) (sym ok.tells.of_life)) in
            let as_held : length held ≡ length (held_at c P) = length-map (held_at c P) (λ (x : HeldLock). x.lock) in
            omega (arith, le, as_told, as_held)

        back : (x : TableLock) → In x (told_of who P) → (y : HeldLock) × In y (held_at c P) × (y.lock ≡ x)
        back x i =
            in_map (λ (y : HeldLock). y.lock) x (held_at c P)
            (all_there held (told_of who P) different (λ z j. let y = in_map (λ (y : HeldLock). y.lock) z (held_at c P) j
            in subst (λ (v : TableLock). In v (told_of who P)) y.2 (told y.0 y.1)) enough x i)

        by_held : (x : TableLock) → In x (told_of who P) → x.resource ≡ r → HeldBy h (lock_of x)
        by_held x i on =
            let y = back x i in
            ⊎_elim
            (λ (j : HeldBy h (lock_of y.0.lock)). subst (λ (z : TableLock). HeldBy h (lock_of z)) y.2 j)
            (λ (o : IsOwed t y.0.lock (owed_of c past)). absurd (not_owed y.0.lock o))
            (asked.locks.holds y.0 y.1 (ap (λ (z : TableLock). z.resource) y.2 ∙ on))
          where
            not_owed : (x : TableLock) → IsOwed t x (owed_of c past) → ⊥
            not_owed x o = let n = here.stood.heeds.0 c (word.Hold t x false o.0 o.1) o.2 o.3 in let other = n.1 in absurd (cc)

        by_awaits : (n : ℕ) (e : Bool) → awaits (number_of who) n h ≡ e → e ≡ false
        by_awaits n true e =
            let a = asked.awaits.awaits n (ap (λ (w : Who). awaits (number_of w) n h) (sym mine) ∙ e) in
            let client : who.client ≡ c = ap (λ (w : Who). w.client) ok.tells.of_life ∙ at.phase.client c in
            let x = at.locks.awaits who n (subst (λ (w : Who). 0 < awaits_of w n P) (sym mine) a.0) in
            let b = at.done.boots x.deed x.acted in
            let most = b.1 in
            let same = x.boot (ap (λ d. life_of d P) client ∙ sym ok.tells.of_life) in
            let also : known_of who.client P ≡ known_of c P = ap (λ d. known_of d P) client in
            let low = recovers_below head.osts P at.phase off in
            absurd (omega (arith, most, same, also, low, known))
        by_awaits n false e = refl

    -- who tells it now
    fresh : SendsWord l.entry who (server_of head.osts P).boot → concerns t l.at.node l.entry ≡ true → HoldsJust r k who (told_of who P)
    fresh x own = as_sent x.to x.message x.is (told_of who P) (by l.at.node x.to x.message refl x.is
        (of_story l.at.node (word.Send x.to x.message) refl x.is (subst (λ (e : word.Entry). concerns t l.at.node e ≡ true) x.is own))
        x.is_word x.of_life x.of_boot)
      where
        by : (node to : Node) (m : Message) → l.at.node ≡ node → l.entry ≡ word.Send to m → SendOf head P node to m → IsWord m → who_told m
            ≡ who → (server_of head.osts P).boot ≤ boot_told m → HoldsJust r h who (told_of who P)
        by (Client c) (Target u) (message.Word w b replays locks seen) node is ok q of le =
            words c u b replays locks seen node (is ∙ ap (λ (v : Who). word.Send (Target u) (message.Word v b replays locks seen)) of)
            (subst (λ (v : Who). WordsOk P c v b replays locks seen) of ok)
            (subst (λ (n : Node). Noticed past (turn l.at.stamp n) (life_at c past) → ⊥) (sym node)
            (of_past (Client c) (word.Send (Target u) (message.Word w b replays locks seen)) node is).alive) le
        by (Client c) (Target u) (message.Join w b) node is ok q of le = joins c b (subst (λ (v : Who). JoinsOk P c v b) of ok)
        by (Target v) (Client c) (message.Word w b replays locks seen) node is ok q of le = absurd ok
        by (Target v) (Client c) (message.Join w b) node is ok q of le = absurd ok
        by (Client c) (Client d) m node is ok q of le = absurd ok
        by (Target v) (Target u) m node is ok q of le = absurd ok
        by node to m here is ok q of le = absurd q

  word_line_of : (who : Who) → IsRecovering head.osts (only t (l ∷ past)) → HasSlot head.clients (only t (l ∷ past)) who
      → SentWord (only t (l ∷ past)) who (server_of head.osts (only t (l ∷ past))).boot
      → HoldsJust r k who (told_of who (only t (l ∷ past)))
  word_line_of who =
      cond_both (concerns t l.at.node l.entry) (l ∷ P) P (λ (p : List Line). IsRecovering head.osts p → HasSlot head.clients p who
      → SentWord p who (server_of head.osts p).boot → HoldsJust r k who (told_of who p))
      (λ q off has s. own q off has s)
      (λ q off has s. still who off has s)
    where
      own : concerns t l.at.node l.entry ≡ true → IsRecovering head.osts (l ∷ P) → HasSlot head.clients (l ∷ P) who
          → SentWord (l ∷ P) who (server_of head.osts (l ∷ P)).boot → HoldsJust r k who (told_of who (l ∷ P))
      own q off has s =
          let ok = of_story l.at.node l.entry refl refl q in
          let b = recovered_before head P l.at.stamp l.at.node l.entry ok at who off has s in
          let sent = subst (SentWord (l ∷ P) who) b.boot s in
          ⊎_elim
          (λ (x : SentWord P who (server_of head.osts P).boot). subst (HoldsJust r k who)
          (sym (told_same head P l.at.stamp l.at.node l.entry ok at who (word_known head P at who (server_of head.osts P).boot x)))
          (still who b.off b.has x))
          (λ (x : SendsWord l.entry who (server_of head.osts P).boot). subst (HoldsJust r k who) (same_told l P who x.to x.message x.is)
          (fresh who b.off b.has x q))
          (sent_or l P who (server_of head.osts P).boot sent)

pub word_line : (head : Head) (t : ℕ) (r : Resource) (l : Line) (past : List Line) → Here head t r l past
    → Grows (story t r past) (story t r (l ∷ past)) → WordTied head t r (l ∷ past)
word_line head t r l past here grows =
    record {
      given = given_line head t r l past here;
      awaited = awaited_line head t r l past here;
      said = said_now head t r l past here;
      word = λ off who has s. word_line_of head t r l past here who off has s;
    }
