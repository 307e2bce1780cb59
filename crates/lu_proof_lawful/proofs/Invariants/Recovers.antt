-- What a target that recovers has taken is what the lives have, line by line.
use Rattle.std.proofs.Common.{◌≡◌, ℕ, ◌+◌, ◌<◌, ◌≤◌, Bool, true, false, List, [], ◌∷◌, ◌⊎◌, inl, inr, ⊎_elim, refl, sym, subst, ap, ◌∙◌}
use Rattle.std.proofs.Common.{arith}
use Rattle.std.specs.Prelude.{nat_eq, map, not, ◌&&◌, if◌then◌else◌, Option}
use Rattle.std.proofs.lemmas.Bool.{cond_both, cond-false, and_parts, eqb-true, eqb-false, eq-eqb}
use Rattle.lu_base.specs.declared.ids.At.{At}
use Rattle.lu_base.specs.declared.ids.Node.{Node}
use Rattle.lu_base.specs.declared.ids.Node.TheVariants.{Client, Target}
use Rattle.lu_base.specs.declared.ids.Stamp.{Stamp}
use Rattle.lu_base.specs.declared.ids.Who.{Who}
use Rattle.lu_base.specs.declared.locks.Cause.{Cause}
use Rattle.lu_base.specs.declared.locks.Lock.{Lock}
use Rattle.lu_held.specs.declared.locks.Change.TheVariants.{Mark, Pin, Unpin}
use Rattle.lu_held.specs.declared.locks.HeldLock.{HeldLock}
use Rattle.lu_held.specs.Held.{changed, without, used, unmarked}
use Rattle.lu_held.specs.Locks.{is_named, named}
use Rattle.lu_msg.specs.declared.messages.GrantNotice.{GrantNotice}
use Rattle.lu_msg.specs.declared.messages.Message.{Message}
use Rattle.lu_msg.specs.declared.messages.Message.TheVariants as message
use Rattle.lu_msg.specs.declared.messages.Reply.{Reply as ReplyTo}
use Rattle.lu_spec_entries.specs.Carried.{Deed, Flight, Disk, Outcome}
use Rattle.lu_spec_entries.specs.Words.{Entry, Send, Heard, Hold, Drop, Pins, Unpins, Marks, Unmarks, Knows, Serves, Settles, Life, Act}
use Rattle.lu_spec_entries.specs.Words.{Txn as Made, Grant, Wait, Answers, Boot, Close, Evict, Joined, Stores, Brings, Says, Wishes, Line}
use Rattle.lu_spec_entries.specs.Words.{line, same_life}
use Rattle.lu_spec_client.specs.Caches.{brought, held_at}
use Rattle.lu_proof_lawful.specs.Covered.Imports.{Standing, Joining, Serving, interrupted}
use Rattle.lu_proof_lawful.specs.Covered.TargetStates.{server_of, closed_of, replays_of, brought_of, wishes_of}
use Rattle.lu_proof_lawful.specs.Covered.TargetCloses.{outcome_of}
use Rattle.lu_proof_lawful.specs.Covered.ClientStates.{life_of, known_of, standing_of, kept_of, is_own}
use Rattle.lu_proof_lawful.specs.Covered.Heads.{Head}
use Rattle.lu_proof_lawful.proofs.Preconditions.CloseLists.{OneEach}
use Rattle.lu_proof_lawful.proofs.Preconditions.Guards.{In, Was, HeardNow}
use Rattle.lu_proof_lawful.proofs.Preconditions.StoryGuards.{IsServing, IsRecovering, EvictOk, LeavesOk, JoinedOk, ComesOk, BootOk, LifeOf}
use Rattle.lu_proof_lawful.proofs.Preconditions.StoryGuards.{BootKnownOk, SendOf, EntryOf, locks_told}
use Rattle.lu_proof_lawful.proofs.Preconditions.Lists.{life_is, own_is, own_self, in_filter}
use Rattle.lu_proof_lawful.proofs.Preconditions.ClientLocks.{in_mapped}
use Rattle.lu_proof_lawful.proofs.Preconditions.Acts.{acted, responded, made}
use Rattle.lu_proof_lawful.proofs.Invariants.Groups.{turn, HeardAs, ReplayedRise, BroughtRise, ToldIn, Recovers, HoldsAt}
use Rattle.lu_proof_lawful.proofs.Invariants.TargetGroups.{told_of, HasSlot, Promoted, tells_wait, BootIn, boot_told, who_told, Lives}
use Rattle.lu_proof_lawful.proofs.Invariants.LockLists.{Kept, kept_same, changed_kept, unmarked_kept, used_in}
use Rattle.lu_proof_lawful.proofs.Invariants.Phase.{life_rises}
use Rattle.lu_proof_lawful.proofs.Invariants.Lives.{known_rises, still_joins}
use Rattle.lu_proof_lawful.proofs.Invariants.RecoversTold.{low_not, low_other, Leaves, recovers_still, told_again, joins_holds, sent_told}
use Rattle.lu_proof_lawful.proofs.Invariants.RecoversTaken.{recovers_stores, recovers_brings, recovers_says, recovers_wishes}

pub recovers_start : (osts clients : ℕ) → Recovers osts clients []
recovers_start osts clients =
    record {
      told = λ from to m w. absurd w;
      replays = λ off r i. absurd i;
      replays_rise = tt;
      brought = λ off l i. absurd i;
      brought_rise = tt;
      words = λ off who w e. absurd (cc);
      wishes = λ off who i. absurd i;
      wishes_rise = tt;
      holds = λ off c le x i. absurd i;
      bare = λ c j. refl;
      told_as = λ c. refl;
      later = λ who lt. refl;
      hears = λ at c u f r q i. absurd i;
    }

-- ---- where the target doesn't recover

pub serving_not : (osts : ℕ) (past : List Line) → IsServing osts past → IsRecovering osts past → ⊥
serving_not osts past s off = let t = eq-eqb (closed_of past) (server_of osts past).boot s.closed in absurd (cc)

-- all that is left to say of it
recovers_none : (osts clients : ℕ) (past : List Line) → (IsRecovering osts past → ⊥) → ReplayedRise (replays_of past)
    → BroughtRise (brought_of past) → OneEach (wishes_of past)
    → ((c : ℕ) → standing_of c past ≡ Joining → told_of (life_of c past) past ≡ [])
    → ((c : ℕ) → locks_told c past ≡ told_of (life_of c past) past)
    → ((who : Who) → (life_of who.client past).life < who.life → told_of who past ≡ [])
    → ((at : At) (c t : ℕ) (f : Flight) (r : ReplyTo) → at.node ≡ Client c → HeardNow past at t f r → known_of c past ≤ closed_of past)
    → Recovers osts clients past
recovers_none osts clients past none replays brought wishes bare told_as later hears =
    record {
      told = λ from to m w off. absurd (none off);
      replays = λ off. absurd (none off);
      replays_rise = replays;
      brought = λ off. absurd (none off);
      brought_rise = brought;
      words = λ off. absurd (none off);
      wishes = λ off. absurd (none off);
      wishes_rise = wishes;
      holds = λ off. absurd (none off);
      bare = bare;
      told_as = told_as;
      later = later;
      hears = hears;
    }

module _ (osts clients : ℕ) (past : List Line) (stamp : Stamp) (t : ℕ) (s : IsServing osts past) (h : Recovers osts clients past) where
  none : IsRecovering osts past → ⊥
  none off = serving_not osts past s off

  recovers_act : (d : Deed) → Recovers osts clients (line (turn stamp (Target t)) (Act d) ∷ past)
  recovers_act d = recovers_none osts clients (line (turn stamp (Target t)) (Act d) ∷ past) none h.replays_rise h.brought_rise h.wishes_rise
      h.bare h.told_as h.later (λ at c u f r q i. absurd i)

  recovers_txn : (d : Deed) → Recovers osts clients (line (turn stamp (Target t)) (Made d) ∷ past)
  recovers_txn d = recovers_none osts clients (line (turn stamp (Target t)) (Made d) ∷ past) none h.replays_rise h.brought_rise
      h.wishes_rise h.bare h.told_as h.later (λ at c u f r q i. absurd i)

  recovers_wait : (lock : Lock) (d : Deed) → Recovers osts clients (line (turn stamp (Target t)) (Wait lock d) ∷ past)
  recovers_wait lock d = recovers_none osts clients (line (turn stamp (Target t)) (Wait lock d) ∷ past) none h.replays_rise h.brought_rise
      h.wishes_rise h.bare h.told_as h.later (λ at c u f r q i. absurd i)

  recovers_answers : (d : Deed) → Recovers osts clients (line (turn stamp (Target t)) (Answers d) ∷ past)
  recovers_answers d = recovers_none osts clients (line (turn stamp (Target t)) (Answers d) ∷ past) none h.replays_rise h.brought_rise
      h.wishes_rise h.bare h.told_as h.later (λ at c u f r q i. absurd i)

  recovers_evict : (who : Who) (cause : Cause) → Recovers osts clients (line (turn stamp (Target t)) (Evict who cause) ∷ past)
  recovers_evict who cause = recovers_none osts clients (line (turn stamp (Target t)) (Evict who cause) ∷ past) none h.replays_rise
      h.brought_rise h.wishes_rise h.bare h.told_as h.later (λ at c u f r q i. absurd i)

  recovers_joined : (who : Who) → Recovers osts clients (line (turn stamp (Target t)) (Joined who) ∷ past)
  recovers_joined who = recovers_none osts clients (line (turn stamp (Target t)) (Joined who) ∷ past) none h.replays_rise h.brought_rise
      h.wishes_rise h.bare h.told_as h.later (λ at c u f r q i. absurd i)

-- a line that grants a lock leaves what was taken
recovers_grant : (osts clients : ℕ) (past : List Line) (stamp : Stamp) (t : ℕ) (lock : Lock) (asked : Option Deed) → Lives clients past
    → Recovers osts clients past
    → Recovers osts clients (line (turn stamp (Target t)) (Grant lock asked) ∷ past)
recovers_grant osts clients past stamp t lock asked lives h =
    recovers_still osts clients past new leaves lives h (record {
      told = told_again osts clients past new leaves lives h;
      replays = refl;
      brought = refl;
      words = refl;
      wishes = refl;
      holds = h.holds;
      bare = h.bare;
      told_as = h.told_as;
      later = h.later;
      hears = λ at c u f r q i. absurd i;
    })
  where
    new : List Line
    new = line (turn stamp (Target t)) (Grant lock asked) ∷ past

    leaves : Leaves osts clients past new
    leaves =
        record {
          off = λ o. o;
          boot = refl;
          had = λ who o. o;
          has = λ who o. o;
          known = λ c. omega arith;
          life = λ c. omega arith;
          kept = λ off who has le. refl;
          heard = λ off who has le f k i. i;
          locks = λ off who has le. refl;
          gave = λ d l g. (
            inr g.0,
            ⊎_elim (λ (i : In l (brought d.op d.reply)). inl i)
                (λ (p : Promoted past l × (tells_wait d.op d.reply.answer l.cookie.0 ≡ true)). inr (inr p.0, p.1)) g.1,
          );
        }

-- after a close it serves
recovers_close : (osts clients : ℕ) (past : List Line) (stamp : Stamp) (t : ℕ) → Recovers osts clients past
    → Recovers osts clients (line (turn stamp (Target t)) (Close (outcome_of osts clients (turn stamp (Target t)) past)) ∷ past)
recovers_close osts clients past stamp t h =
    recovers_none osts clients (line (turn stamp (Target t)) (Close (outcome_of osts clients (turn stamp (Target t)) past)) ∷ past) none tt
    tt tt h.bare h.told_as h.later (λ at c u f r q i. absurd i)
  where
    none : nat_eq (server_of osts past).boot (server_of osts past).boot ≡ false → ⊥
    none off = let t = eq-eqb (server_of osts past).boot (server_of osts past).boot refl in absurd (cc)

-- after a boot nothing is taken yet, and no client knows it
told_below : (most : ℕ) (m : Message) → 1 ≤ most → BootIn most m → boot_told m ≤ most
told_below most (message.Replay r) low b = b.1
told_below most (message.Lock r) low b = b.1
told_below most (message.Word who boot replays locks seen) low b = b.1
told_below most (message.Join who boot) low b = b.1
told_below most m low b = omega arith

recovers_boot : (head : Head) (past : List Line) (stamp : Stamp) (t boot : ℕ) (disk : Disk) → BootOk head past boot disk → HoldsAt head past
    → Recovers head.osts head.clients (line (turn stamp (Target t)) (Boot boot disk) ∷ past)
recovers_boot head past stamp t boot disk ok h =
    record {
      told = λ from to m w off le. let b = told_below (server_of head.osts past).boot m h.phase.low (h.boots from to m w) in let n = ok.next
          in absurd (omega (arith, b, n, le));
      replays = λ off r i. absurd i;
      replays_rise = tt;
      brought = λ off l i. absurd i;
      brought_rise = tt;
      words = λ off who w e. absurd (cc);
      wishes = λ off who i. absurd i;
      wishes_rise = tt;
      holds = λ off c le. let k = h.phase.known c in let n = ok.next in absurd (omega (arith, k, n, le));
      bare = h.recovers.bare;
      told_as = h.recovers.told_as;
      later = h.recovers.later;
      hears = λ at c u f r q i. absurd i;
    }

-- ---- messages

recovers_send : (head : Head) (past : List Line) (stamp : Stamp) (node to : Node) (m : Message) → SendOf head past node to m
    → HoldsAt head past
    → (from into : Node) (p : Message) → ((node ≡ from) × (to ≡ into) × (m ≡ p)) ⊎ Was past from into p → IsRecovering head.osts past
    → (server_of head.osts past).boot ≤ boot_told p → HasSlot head.clients past (who_told p) → ToldIn past p
recovers_send head past stamp node to m ok h from into p =
    ⊎_elim
    (λ (q : (node ≡ from) × (to ≡ into) × (m ≡ p)). subst (λ (v : Message). IsRecovering head.osts past
    → (server_of head.osts past).boot ≤ boot_told v → HasSlot head.clients past (who_told v) → ToldIn past v) q.2
    (λ off le has. sent_told head past node to m ok h off le))
    (λ (w : Was past from into p). h.recovers.told from into p w)

-- ---- what a client holds, with other pins and marks, or less of it

abbrev Holds : (osts : ℕ) → List Line → Type 0
Holds osts past = IsRecovering osts past → (c : ℕ) → (server_of osts past).boot ≤ known_of c past → (x : HeldLock) → In x (held_at c past)
    → In x.lock (told_of (life_of c past) past)

-- at that client; what others hold stays
holds_kept : (osts : ℕ) (past : List Line) (d : ℕ) (change : List HeldLock → List HeldLock)
    → ((hs : List HeldLock) (x : HeldLock) → In x (change hs) → Kept hs x) → Holds osts past
    → IsRecovering osts past → (c : ℕ) → (server_of osts past).boot ≤ known_of c past → (x : HeldLock)
    → In x (if nat_eq c d then change (held_at c past) else held_at c past) → In x.lock (told_of (life_of c past) past)
holds_kept osts past d change k h off c le x =
    cond_both (nat_eq c d) (change (held_at c past)) (held_at c past)
    (λ (hs : List HeldLock). In x hs → In x.lock (told_of (life_of c past) past))
    (λ q i. let g = k (held_at c past) x i in subst (λ (l : Lock). In l (told_of (life_of c past) past)) g.3 (h off c le g.0 g.1))
    (λ q i. h off c le x i)

-- ---- a client hears

-- lines of a client that knows no boot but such that served
module _ (head : Head) (past : List Line) (stamp : Stamp) (c : ℕ) (low : known_of c past ≤ closed_of past) (h : HoldsAt head past) where
  other : IsRecovering head.osts past → (who : Who) → (server_of head.osts past).boot ≤ known_of who.client past
      → is_own who past (Client c) ≡ false
  other off who le = low_other head.osts past c low h.phase off who le

  holds_low : IsRecovering head.osts past → (d : ℕ) → (server_of head.osts past).boot ≤ known_of d past
      → (held : List HeldLock) (x : HeldLock) → In x (if nat_eq d c then held else held_at d past)
      → In x.lock (told_of (life_of d past) past)
  holds_low off d le held x =
      cond_both (nat_eq d c) held (held_at d past) (λ (hs : List HeldLock). In x hs → In x.lock (told_of (life_of d past) past))
      (λ q i. absurd (low_not head.osts past c low h.phase off d le (eqb-true d c q)))
      (λ q i. h.recovers.holds off d le x i)

  -- it is no other's
  same_client : (d : ℕ) → Client c ≡ Client d → c ≡ d
  same_client d e = cc

  recovers_heard : (t : ℕ) (f : Flight) (r : ReplyTo) → Recovers head.osts head.clients (line (turn stamp (Client c)) (Heard t f r) ∷ past)
  recovers_heard t f r =
      recovers_still head.osts head.clients past new leaves h.lives h.recovers (record {
        told = told_again head.osts head.clients past new leaves h.lives h.recovers;
        replays = refl;
        brought = refl;
        words = refl;
        wishes = refl;
        holds = λ off d le x. holds_low off d le _ x;
        bare = h.recovers.bare;
        told_as = h.recovers.told_as;
        later = h.recovers.later;
        hears = λ at d u g k q i. subst (λ v. known_of v past ≤ closed_of past) (same_client d (ap (λ (v : At). v.node) i.0 ∙ q)) low;
      })
    where
      new : List Line
      new = line (turn stamp (Client c)) (Heard t f r) ∷ past

      leaves : Leaves head.osts head.clients past new
      leaves =
          record {
            off = λ o. o;
            boot = refl;
            had = λ who o. o;
            has = λ who o. o;
            known = λ d. omega arith;
            life = λ d. omega arith;
            kept = λ off who has le. cond-false (is_own who past (Client c)) _ (kept_of who past) (other off who le);
            heard = λ off who has le g k. ⊎_elim (λ (q : (is_own who past (Client c) ≡ true) × (f ≡ g) × (r ≡ k)). absurd
                (let no = other off who le in let yes = q.0 in cc)) (λ (i : HeardAs past who g k). i);
            locks = λ off who has le. refl;
            gave = λ d l g. g;
          }

  recovers_hold : (t : ℕ) (lock : Lock) (marked : Bool) (size : Option ℕ) (seen : List ℕ)
      → Recovers head.osts head.clients (line (turn stamp (Client c)) (Hold t lock marked size seen) ∷ past)
  recovers_hold t lock marked size seen =
      recovers_still head.osts head.clients past new leaves h.lives h.recovers (record {
        told = told_again head.osts head.clients past new leaves h.lives h.recovers;
        replays = refl;
        brought = refl;
        words = refl;
        wishes = refl;
        holds = λ off d le x. holds_low off d le _ x;
        bare = h.recovers.bare;
        told_as = h.recovers.told_as;
        later = h.recovers.later;
        hears = h.recovers.hears;
      })
    where
      new : List Line
      new = line (turn stamp (Client c)) (Hold t lock marked size seen) ∷ past

      leaves : Leaves head.osts head.clients past new
      leaves =
          record {
            off = λ o. o;
            boot = refl;
            had = λ who o. o;
            has = λ who o. o;
            known = λ d. omega arith;
            life = λ d. omega arith;
            kept = λ off who has le. cond-false (is_own who past (Client c)) _ (kept_of who past) (other off who le);
            heard = λ off who has le g k i. i;
            locks = λ off who has le. refl;
            gave = λ d l g. g;
          }

  recovers_settles : (t to : ℕ) → Recovers head.osts head.clients (line (turn stamp (Client c)) (Settles t to) ∷ past)
  recovers_settles t to =
      recovers_still head.osts head.clients past new leaves h.lives h.recovers (record {
        told = told_again head.osts head.clients past new leaves h.lives h.recovers;
        replays = refl;
        brought = refl;
        words = refl;
        wishes = refl;
        holds = h.recovers.holds;
        bare = h.recovers.bare;
        told_as = h.recovers.told_as;
        later = h.recovers.later;
        hears = λ at d u g k q i. absurd i;
      })
    where
      new : List Line
      new = line (turn stamp (Client c)) (Settles t to) ∷ past

      leaves : Leaves head.osts head.clients past new
      leaves =
          record {
            off = λ o. o;
            boot = refl;
            had = λ who o. o;
            has = λ who o. o;
            known = λ d. omega arith;
            life = λ d. omega arith;
            kept = λ off who has le. cond-false (is_own who past (Client c)) _ (kept_of who past) (other off who le);
            heard = λ off who has le g k i. i;
            locks = λ off who has le. refl;
            gave = λ d l g. g;
          }

-- a client that is told of a lock that had waited knows no boot but such that served
notice_low : (head : Head) (past : List Line) (c t : ℕ) (g : GrantNotice) → Was past (Target t) (Client c) (message.Grant g) → g.boot
    ≡ known_of c past → HoldsAt head past → known_of c past ≤ closed_of past
notice_low head past c t g w e h = let le = (h.done.sent (Target t) (Client c) (message.Grant g) w).boot in omega (arith, le, e)

-- ---- a new life: none of its client that has a slot is as new

recovers_life : (head : Head) (past : List Line) (stamp : Stamp) (c : ℕ) (new : Who) → LifeOf past c new → HoldsAt head past
    → Recovers head.osts head.clients (line (turn stamp (Client c)) (Life new) ∷ past)
recovers_life head past stamp c new ok h =
    recovers_still head.osts head.clients past after leaves h.lives h.recovers (record {
      told = told_again head.osts head.clients past after leaves h.lives h.recovers;
      replays = refl;
      brought = refl;
      words = refl;
      wishes = refl;
      holds = λ off d le x i. by_held off d le x i (nat_eq d c) refl;
      bare = λ d. by_bare d (nat_eq d c);
      told_as = λ d. by_told d (nat_eq d c);
      later = λ who lt. h.recovers.later who (let le = life_rises past stamp c new ok who.client in omega (arith, le, lt));
      hears = λ at d u g k q i. absurd i;
    })
  where
    after : List Line
    after = line (turn stamp (Client c)) (Life new) ∷ past

    -- it was told no boot yet
    none : told_of new past ≡ []
    none = h.recovers.later new (
        let client : new.client ≡ c = ap (λ (w : Who). w.client) ok.next ∙ h.phase.client c in
        let same : (life_of new.client past).life ≡ (life_of c past).life = ap (λ v. (life_of v past).life) client in
        let more : new.life ≡ (life_of c past).life + 1 = ap (λ (w : Who). w.life) ok.next in
        omega (arith, same, more)
        )

    by_held : IsRecovering head.osts past → (d : ℕ) → (server_of head.osts past).boot ≤ known_of d past → (x : HeldLock)
        → In x (held_at d past) → (b : Bool) → nat_eq d c ≡ b → In x.lock (told_of (if b then new else life_of d past) past)
    by_held off d le x i true e = let none : In x [] = subst (λ (hs : List HeldLock). In x hs) ok.empty
        (subst (λ v. In x (held_at v past)) (eqb-true d c e) i) in absurd none
    by_held off d le x i false e = h.recovers.holds off d le x i

    by_bare : (d : ℕ) (b : Bool) → (if b then Joining else standing_of d past) ≡ Joining → told_of (if b then new else life_of d past) past
        ≡ []
    by_bare d true j = none
    by_bare d false j = h.recovers.bare d j

    by_told : (d : ℕ) (b : Bool) → (if b then [] else locks_told d past) ≡ told_of (if b then new else life_of d past) past
    by_told d true = sym none
    by_told d false = h.recovers.told_as d

    -- no life that has a slot is the new one
    older : (who : Who) → HasSlot head.clients past who → who ≡ new → ⊥
    older who has e =
        let client : who.client ≡ c = ap (λ (w : Who). w.client) (e ∙ ok.next) ∙ h.phase.client c in
        let le : who.life ≤ (life_of c past).life = subst (λ v. who.life ≤ (life_of v past).life) client (h.lives.low who (inl has)) in
        let more : who.life ≡ (life_of c past).life + 1 = ap (λ (w : Who). w.life) (e ∙ ok.next) in
        omega (arith, le, more)

    not_new : (who : Who) → HasSlot head.clients past who → (nat_eq who.client c && same_life who new) ≡ false
    not_new who has = by (nat_eq who.client c && same_life who new) refl
      where
        by : (b : Bool) → (nat_eq who.client c && same_life who new) ≡ b → b ≡ false
        by true e = absurd (older who has (life_is who new (and_parts (nat_eq who.client c) (same_life who new) e).1))
        by false e = refl

    leaves : Leaves head.osts head.clients past after
    leaves =
        record {
          off = λ o. o;
          boot = refl;
          had = λ who o. o;
          has = λ who o. o;
          known = λ d. omega arith;
          life = life_rises past stamp c new ok;
          kept = λ off who has le. cond-false (nat_eq who.client c && same_life who new) _ (kept_of who past) (not_new who has);
          heard = λ off who has le g k i. i;
          locks = λ off who has le. refl;
          gave = λ d l g. g;
        }

-- ---- a client is told a boot

recovers_knows : (head : Head) (past : List Line) (stamp : Stamp) (c t boot : ℕ) → BootKnownOk past c t boot → HoldsAt head past
    → Recovers head.osts head.clients (line (turn stamp (Client c)) (Knows t boot) ∷ past)
recovers_knows head past stamp c t boot ok h =
    recovers_still head.osts head.clients past after leaves h.lives h.recovers (record {
      told = told_again head.osts head.clients past after leaves h.lives h.recovers;
      replays = refl;
      brought = refl;
      words = refl;
      wishes = refl;
      holds = λ off d le x i. subst (λ (ks : List Lock). In x.lock ks) (sym (now d)) (by_held off d x i (nat_eq d c) le);
      bare = λ d j. now d ∙ by_bare d (nat_eq d c) j;
      told_as = λ d. by_told d (nat_eq d c) ∙ sym (now d);
      later = λ who lt. by_later who lt (is_own who past (Client c)) refl;
      hears = λ at d u g k q i. absurd i;
    })
  where
    after : List Line
    after = line (turn stamp (Client c)) (Knows t boot) ∷ past

    -- a life of a client is in that line if it is of this client
    own_client : (d : ℕ) → is_own (life_of d past) past (Client c) ≡ nat_eq d c
    own_client d = by (nat_eq d c) (is_own (life_of d past) past (Client c)) refl refl
      where
        by : (a b : Bool) → nat_eq d c ≡ a → is_own (life_of d past) past (Client c) ≡ b → b ≡ a
        by true true e o = refl
        by false false e o = refl
        by true false e o = let own : is_own (life_of d past) past (Client c) ≡ true =
            subst (λ v. is_own (life_of v past) past (Client c) ≡ true) (sym (eqb-true d c e)) (own_self past c) in absurd (cc)
        by false true e o = let same : d ≡ c = sym (h.phase.client d) ∙ ap (λ (w : Who). w.client) (own_is (life_of d past) past c o)
            ∙ h.phase.client c in absurd (eqb-false d c e same)

    -- what its client held then is what it was told with
    now : (d : ℕ) → told_of (life_of d past) after ≡ (if nat_eq d c then map {A = HeldLock} {B = Lock} (λ g. g.lock) (held_at d past)
        else told_of (life_of d past) past)
    now d =
        ap (λ (b : Bool). if b then map {A = HeldLock} {B = Lock} (λ g. g.lock) (held_at (life_of d past).client past)
        else told_of (life_of d past) past) (own_client d)
        ∙ ap (λ v. if nat_eq d c then map {A = HeldLock} {B = Lock} (λ g. g.lock) (held_at v past) else told_of (life_of d past) past)
        (h.phase.client d)

    by_held : IsRecovering head.osts past → (d : ℕ) (x : HeldLock) → In x (held_at d past) → (b : Bool)
        → (server_of head.osts past).boot ≤ (if b then boot else known_of d past)
        → In x.lock (if b then map {A = HeldLock} {B = Lock} (λ g. g.lock) (held_at d past) else told_of (life_of d past) past)
    by_held off d x i true le = in_mapped (λ (g : HeldLock). g.lock) x (held_at d past) i
    by_held off d x i false le = h.recovers.holds off d le x i

    by_bare : (d : ℕ) (b : Bool) → (if b then interrupted (standing_of d past) else standing_of d past) ≡ Joining
        → (if b then map {A = HeldLock} {B = Lock} (λ g. g.lock) (held_at d past) else told_of (life_of d past) past) ≡ []
    by_bare d true j = ap (λ (hs : List HeldLock). map {A = HeldLock} {B = Lock} (λ g. g.lock) hs)
        (joins_holds head past h d (still_joins (standing_of d past) j))
    by_bare d false j = h.recovers.bare d j

    by_told : (d : ℕ) (b : Bool) → (if b then map {A = HeldLock} {B = Lock} (λ g. g.lock) (held_at d past) else locks_told d past)
        ≡ (if b then map {A = HeldLock} {B = Lock} (λ g. g.lock) (held_at d past) else told_of (life_of d past) past)
    by_told d true = refl
    by_told d false = h.recovers.told_as d

    -- no life to come is told anything
    by_later : (who : Who) → (life_of who.client past).life < who.life → (b : Bool) → is_own who past (Client c) ≡ b
        → (if b then map {A = HeldLock} {B = Lock} (λ g. g.lock) (held_at who.client past) else told_of who past) ≡ []
    by_later who lt true o =
        let me = own_is who past c o in
        let client : who.client ≡ c = ap (λ (w : Who). w.client) me ∙ h.phase.client c in
        let same : (life_of who.client past).life ≡ who.life = ap (λ v. (life_of v past).life) client ∙ ap (λ (w : Who). w.life) (sym me) in
        absurd (omega (arith, lt, same))
    by_later who lt false o = h.recovers.later who lt

    -- it knew an earlier one
    older : (d : ℕ) → (server_of head.osts past).boot ≤ known_of d past → d ≡ c → ⊥
    older d le e =
        let lt = ok.newer in
        let most = (h.boots (Target t) (Client c) (message.Up boot) ok.was).1 in
        let same : known_of d past ≡ known_of c past = ap (λ v. known_of v past) e in
        omega (arith, lt, most, le, same)

    lasts : (who : Who) → (server_of head.osts past).boot ≤ known_of who.client past → (b : Bool) → is_own who past (Client c) ≡ b
        → (if b then map {A = HeldLock} {B = Lock} (λ g. g.lock) (held_at who.client past) else told_of who past) ≡ told_of who past
    lasts who le true o = absurd (older who.client le (ap (λ (w : Who). w.client) (own_is who past c o) ∙ h.phase.client c))
    lasts who le false o = refl

    leaves : Leaves head.osts head.clients past after
    leaves =
        record {
          off = λ o. o;
          boot = refl;
          had = λ who o. o;
          has = λ who o. o;
          known = known_rises past stamp c t boot ok;
          life = λ d. omega arith;
          kept = λ off who has le. refl;
          heard = λ off who has le g k i. i;
          locks = λ off who has le. lasts who le (is_own who past (Client c)) refl;
          gave = λ d l g. g;
        }

-- ---- each line

pub keeps_recovers : (head : Head) (past : List Line) (stamp : Stamp) (node : Node) (e : Entry) → EntryOf head past (turn stamp node) node e
    → HoldsAt head past → Recovers head.osts head.clients (line (turn stamp node) e ∷ past)
keeps_recovers head past stamp (Client c) (Send to m) ok h =
    record {
      told = recovers_send head past stamp (Client c) to m ok h;
      replays = h.recovers.replays;
      replays_rise = h.recovers.replays_rise;
      brought = h.recovers.brought;
      brought_rise = h.recovers.brought_rise;
      words = h.recovers.words;
      wishes = h.recovers.wishes;
      wishes_rise = h.recovers.wishes_rise;
      holds = h.recovers.holds;
      bare = h.recovers.bare;
      told_as = h.recovers.told_as;
      later = h.recovers.later;
      hears = λ at d u f r q i. absurd i;
    }
keeps_recovers head past stamp (Target t) (Send to m) ok h =
    record {
      told = recovers_send head past stamp (Target t) to m ok h;
      replays = h.recovers.replays;
      replays_rise = h.recovers.replays_rise;
      brought = h.recovers.brought;
      brought_rise = h.recovers.brought_rise;
      words = h.recovers.words;
      wishes = h.recovers.wishes;
      wishes_rise = h.recovers.wishes_rise;
      holds = h.recovers.holds;
      bare = h.recovers.bare;
      told_as = h.recovers.told_as;
      later = h.recovers.later;
      hears = λ at d u f r q i. absurd i;
    }
keeps_recovers head past stamp (Client c) (Heard t f r) ok h = recovers_heard head past stamp c
    (let le = (h.done.sent (Target ok.from) (Client c) (message.Reply r) ok.was).boot in let e = ok.boot in omega (arith, le, e)) h t f r
keeps_recovers head past stamp (Client c) (Hold t lock marked size seen) (inl ok) h =
    recovers_hold head past stamp c (h.recovers.hears ok.1.at c t ok.1.flight ok.1.reply ok.1.here ok.1.heard) h t lock marked size seen
keeps_recovers head past stamp (Client c) (Hold t lock marked size seen) (inr ok) h =
    recovers_hold head past stamp c (notice_low head past c t ok.notice ok.was ok.boot h) h t lock marked size seen
keeps_recovers head past stamp (Client c) (Settles t to) (inl ok) h = recovers_settles head past stamp c (h.phase.served c ok.serves) h t to
keeps_recovers head past stamp (Client c) (Settles t to) (inr ok) h =
    recovers_settles head past stamp c (notice_low head past c t ok.notice ok.was ok.boot h) h t to
keeps_recovers head past stamp (Client c) (Life who) ok h = recovers_life head past stamp c who ok h
keeps_recovers head past stamp (Client c) (Knows t boot) ok h = recovers_knows head past stamp c t boot ok h
keeps_recovers head past stamp (Client c) (Drop t lock) ok h =
    record {
      told = h.recovers.told;
      replays = h.recovers.replays;
      replays_rise = h.recovers.replays_rise;
      brought = h.recovers.brought;
      brought_rise = h.recovers.brought_rise;
      words = h.recovers.words;
      wishes = h.recovers.wishes;
      wishes_rise = h.recovers.wishes_rise;
      holds = holds_kept head.osts past c (λ (hs : List HeldLock). without (named (record { 0 = t }) lock.cookie) hs)
          (λ hs x i. kept_same hs x (in_filter (λ (g : HeldLock). not (is_named (named (record { 0 = t }) lock.cookie) g)) x hs i).0)
          h.recovers.holds;
      bare = h.recovers.bare;
      told_as = h.recovers.told_as;
      later = h.recovers.later;
      hears = λ at d u f r q i. absurd i;
    }
keeps_recovers head past stamp (Client c) (Pins name) ok h =
    record {
      told = h.recovers.told;
      replays = h.recovers.replays;
      replays_rise = h.recovers.replays_rise;
      brought = h.recovers.brought;
      brought_rise = h.recovers.brought_rise;
      words = h.recovers.words;
      wishes = h.recovers.wishes;
      wishes_rise = h.recovers.wishes_rise;
      holds = holds_kept head.osts past c (λ (hs : List HeldLock). changed name Pin hs) (λ hs x i. changed_kept name Pin hs x i)
          h.recovers.holds;
      bare = h.recovers.bare;
      told_as = h.recovers.told_as;
      later = h.recovers.later;
      hears = λ at d u f r q i. absurd i;
    }
keeps_recovers head past stamp (Client c) (Unpins name) ok h =
    record {
      told = h.recovers.told;
      replays = h.recovers.replays;
      replays_rise = h.recovers.replays_rise;
      brought = h.recovers.brought;
      brought_rise = h.recovers.brought_rise;
      words = h.recovers.words;
      wishes = h.recovers.wishes;
      wishes_rise = h.recovers.wishes_rise;
      holds = holds_kept head.osts past c (λ (hs : List HeldLock). used name (changed name Unpin hs))
          (λ hs x i. changed_kept name Unpin hs x (used_in name (changed name Unpin hs) x i)) h.recovers.holds;
      bare = h.recovers.bare;
      told_as = h.recovers.told_as;
      later = h.recovers.later;
      hears = λ at d u f r q i. absurd i;
    }
keeps_recovers head past stamp (Client c) (Marks name) ok h =
    record {
      told = h.recovers.told;
      replays = h.recovers.replays;
      replays_rise = h.recovers.replays_rise;
      brought = h.recovers.brought;
      brought_rise = h.recovers.brought_rise;
      words = h.recovers.words;
      wishes = h.recovers.wishes;
      wishes_rise = h.recovers.wishes_rise;
      holds = holds_kept head.osts past c (λ (hs : List HeldLock). changed name Mark hs) (λ hs x i. changed_kept name Mark hs x i)
          h.recovers.holds;
      bare = h.recovers.bare;
      told_as = h.recovers.told_as;
      later = h.recovers.later;
      hears = λ at d u f r q i. absurd i;
    }
keeps_recovers head past stamp (Client c) (Unmarks t) ok h =
    record {
      told = h.recovers.told;
      replays = h.recovers.replays;
      replays_rise = h.recovers.replays_rise;
      brought = h.recovers.brought;
      brought_rise = h.recovers.brought_rise;
      words = h.recovers.words;
      wishes = h.recovers.wishes;
      wishes_rise = h.recovers.wishes_rise;
      holds = holds_kept head.osts past c (λ (hs : List HeldLock). unmarked (record { 0 = t }) hs)
          (λ hs x i. unmarked_kept (record { 0 = t }) hs x i) h.recovers.holds;
      bare = h.recovers.bare;
      told_as = h.recovers.told_as;
      later = h.recovers.later;
      hears = λ at d u f r q i. absurd i;
    }
keeps_recovers head past stamp (Client c) (Serves t boot) ok h =
    record {
      told = h.recovers.told;
      replays = h.recovers.replays;
      replays_rise = h.recovers.replays_rise;
      brought = h.recovers.brought;
      brought_rise = h.recovers.brought_rise;
      words = h.recovers.words;
      wishes = h.recovers.wishes;
      wishes_rise = h.recovers.wishes_rise;
      holds = h.recovers.holds;
      bare = λ d. cond_both (nat_eq d c) Serving (standing_of d past) (λ (s : Standing). s ≡ Joining → told_of (life_of d past) past ≡ [])
          (λ q j. absurd (cc)) (λ q j. h.recovers.bare d j);
      told_as = h.recovers.told_as;
      later = h.recovers.later;
      hears = λ at d u f r q i. absurd i;
    }
keeps_recovers head past stamp (Client c) (Act d) ok h = absurd ok
keeps_recovers head past stamp (Client c) (Made d) ok h = absurd ok
keeps_recovers head past stamp (Client c) (Grant lock asked) ok h = absurd ok
keeps_recovers head past stamp (Target t) (Grant lock asked) ok h =
    recovers_grant head.osts head.clients past stamp t lock asked h.lives h.recovers
keeps_recovers head past stamp (Target t) (Act d) ok h = recovers_act head.osts head.clients past stamp t
    (acted head.osts past (turn stamp (Target t)) t d ok).serves h.recovers d
keeps_recovers head past stamp (Target t) (Wait lock d) ok h = recovers_wait head.osts head.clients past stamp t ok.1.serves h.recovers lock
    d
keeps_recovers head past stamp (Target t) (Answers d) ok h = recovers_answers head.osts head.clients past stamp t
    (responded head.osts past (turn stamp (Target t)) t d ok.1).serves h.recovers d
keeps_recovers head past stamp (Client c) (Wait lock d) ok h = absurd ok
keeps_recovers head past stamp (Client c) (Answers d) ok h = absurd ok
keeps_recovers head past stamp (Target t) (Made d) ok h = recovers_txn head.osts head.clients past stamp t
    (made head.osts past (turn stamp (Target t)) t d ok).serves h.recovers d
keeps_recovers head past stamp (Target t) (Evict who cause) ok h =
    recovers_evict head.osts head.clients past stamp t (⊎_elim (λ (o : EvictOk head past (turn stamp (Target t)) who cause). o.serves)
    (λ (o : LeavesOk head past (turn stamp (Target t)) who cause). o.serves) ok) h.recovers who cause
keeps_recovers head past stamp (Target t) (Joined who) ok h =
    recovers_joined head.osts head.clients past stamp t (⊎_elim (λ (o : JoinedOk head past (turn stamp (Target t)) t who). o.serves)
    (λ (o : ComesOk head past (turn stamp (Target t)) t who). o.serves) ok) h.recovers who
keeps_recovers head past stamp (Target t) (Boot boot disk) ok h = recovers_boot head past stamp t boot disk ok h
keeps_recovers head past stamp (Target t) (Close o) ok h =
    subst (λ (v : Outcome). Recovers head.osts head.clients (line (turn stamp (Target t)) (Close v) ∷ past)) (sym ok.is)
    (recovers_close head.osts head.clients past stamp t h.recovers)
keeps_recovers head past stamp (Target t) (Stores r) ok h = recovers_stores head past stamp t h r ok
keeps_recovers head past stamp (Target t) (Brings l) ok h = recovers_brings head past stamp t h l ok
keeps_recovers head past stamp (Target t) (Says said) ok h = recovers_says head past stamp t h said ok
keeps_recovers head past stamp (Target t) (Wishes who) ok h = recovers_wishes head past stamp t h who ok
keeps_recovers head past stamp (Target t) (Heard u f r) ok h = absurd ok
keeps_recovers head past stamp (Target t) (Hold u lock marked size seen) ok h = absurd ok
keeps_recovers head past stamp node e ok h =
    record {
      told = h.recovers.told;
      replays = h.recovers.replays;
      replays_rise = h.recovers.replays_rise;
      brought = h.recovers.brought;
      brought_rise = h.recovers.brought_rise;
      words = h.recovers.words;
      wishes = h.recovers.wishes;
      wishes_rise = h.recovers.wishes_rise;
      holds = h.recovers.holds;
      bare = h.recovers.bare;
      told_as = h.recovers.told_as;
      later = h.recovers.later;
      hears = λ at d u f r q i. absurd i;
    }
