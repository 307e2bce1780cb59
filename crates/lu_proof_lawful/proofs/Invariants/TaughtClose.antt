-- What replies taught stays true through the close of a recovery window: a lock that stands again is one that its life brought and holds,
-- so the life heard the
-- reply that came with it; what that saw stands, and nothing that is lost wrote what a fact is of.
use Rattle.std.proofs.Common.{◌≡◌, ℕ, ◌<◌, ◌≤◌, Bool, true, false, List, [], ◌∷◌, ◌⊎◌, inl, inr, refl, sym, subst, ap, ◌∙◌, arith}
use Rattle.std.specs.Prelude.{◌&&◌, not}
use Rattle.std.proofs.lemmas.Bool.{and_parts, and_from, or_parts, eqb-false, not-true}
use Rattle.lu_base.specs.declared.ids.Cookie.{Cookie}
use Rattle.lu_base.specs.declared.ids.At.{At}
use Rattle.lu_base.specs.declared.ids.Node.{Node}
use Rattle.lu_base.specs.declared.ids.Node.TheVariants.{Client, Target}
use Rattle.lu_base.specs.declared.ids.Stamp.{Stamp}
use Rattle.lu_base.specs.declared.ids.Who.{Who}
use Rattle.lu_base.specs.declared.locks.Lock.{Lock}
use Rattle.lu_msg.specs.declared.messages.Reply.{Reply as ReplyTo}
use Rattle.lu_msg.specs.declared.operations.Op.{Op}
use Rattle.lu_part.specs.declared.parts.Part.{Part}
use Rattle.lu_part.specs.declared.parts.Part.TheVariants as part
use Rattle.lu_held.specs.declared.locks.HeldLock.{HeldLock}
use Rattle.lu_spec_machine.specs.declared.child.Child.{Child}
use Rattle.lu_spec_machine.specs.Footprint.{Same, Apart, inode_of}
use Rattle.lu_spec_machine.proofs.Outcomes.{IsReached}
use Rattle.lu_spec_entries.specs.Carried.{Deed, Outcome}
use Rattle.lu_spec_entries.specs.Words.{Entry, Close, Line, line}
use Rattle.lu_spec_client.specs.Caches.{brought, held_at}
use Rattle.lu_spec_client.specs.Facts.{Fact}
use Rattle.lu_spec_target.specs.Lives.{is_life, lives_of as lives_in, without_lives}
use Rattle.lu_proof_lawful.specs.Covered.TargetStates.{server_of, evicted_of, closed_of, brought_of}
use Rattle.lu_proof_lawful.specs.Covered.TargetCloses.{disk_of, is_lost, loses, outcome_of}
use Rattle.lu_proof_lawful.specs.Covered.ClientStates.{life_of, known_of}
use Rattle.lu_proof_lawful.specs.Covered.Heads.{Head}
use Rattle.lu_proof_lawful.proofs.Preconditions.Guards.{In}
use Rattle.lu_proof_lawful.proofs.Preconditions.StoryGuards.{CloseOk, EntryOf}
use Rattle.lu_proof_lawful.proofs.Preconditions.Lists.{in_filter}
use Rattle.lu_proof_lawful.proofs.Invariants.Groups.{turn, HeardAs, HoldsAt}
use Rattle.lu_proof_lawful.proofs.Invariants.TargetGroups.{Acted, IsMade, Stands, HasSlot, NoneOf, IsOver}
use Rattle.lu_proof_lawful.proofs.Preconditions.CloseLists.{puts_more, stays_all, in_restored}
use Rattle.lu_proof_lawful.proofs.Invariants.Brings.{of_reply}
use Rattle.lu_proof_lawful.proofs.Invariants.LockLists.{cookie_or, brought_again}
use Rattle.lu_proof_lawful.proofs.Invariants.KnownPaths.{IsPlaced, placed_reached}
use Rattle.lu_proof_lawful.proofs.Invariants.FactsStay.{Placed, tells_same}
use Rattle.lu_proof_lawful.proofs.Invariants.PartsStay.{Closed, AllSaw, OfKept, Saw, sound_now, stays, not_lost, closed_both, part_stays}
use Rattle.lu_proof_lawful.proofs.Invariants.Unheld.{HeldHeard}
use Rattle.lu_proof_lawful.proofs.Invariants.FirstDeeds.{FirstOf}
use Rattle.lu_proof_lawful.proofs.Invariants.Taught.{bound_of, Seat, SeatFor, Rests, Taught, granted_now, under_line, line_taught}

-- ---- what a close decides of locks and lives

-- a lock that stands again was brought, by a life that stays
lock_stood : (osts clients : ℕ) (at : At) (past : List Line) (l : Lock) → In l (outcome_of osts clients at past).locks
    → In l (brought_of past) × (is_life l.ask.who (lives_in (outcome_of osts clients at past).gone) ≡ false)
lock_stood osts clients at past l i =
    let gone = lives_in (outcome_of osts clients at past).gone in
    let r = in_filter (λ (k : Lock). not (is_life k.ask.who gone)) l (brought_of past) (in_restored [] _ l i) in
    (r.0, not-true (is_life l.ask.who gone) r.1)

-- a life that stays keeps its slot
life_stood : (osts clients : ℕ) (at : At) (past : List Line) (who : Who) → is_life who (disk_of osts clients past).lives ≡ true
    → is_life who (lives_in (outcome_of osts clients at past).gone) ≡ false → is_life who (outcome_of osts clients at past).disk.lives
    ≡ true
life_stood osts clients at past who has off =
    let gone = lives_in (outcome_of osts clients at past).gone in
    puts_more who (outcome_of osts clients at past).joins (without_lives gone (disk_of osts clients past).lives)
    (stays_all who gone (disk_of osts clients past).lives has off)

-- ---- a close

module _ (head : Head) (past : List Line) (stamp : Stamp) (t : ℕ) (o : Outcome) (ok : CloseOk head past (turn stamp (Target t)) o)
    (h : HoldsAt head past) (next : HoldsAt head (line (turn stamp (Target t)) (Close o) ∷ past)) (heard : HeldHeard past) where
  abbrev closing : List Line
  closing = line (turn stamp (Target t)) (Close o) ∷ past

  abbrev stay : ℕ → Bool
  stay n = stays head past stamp t o h next n

  up : (server_of head.osts past).committed.0 ≤ (server_of head.osts closing).committed.0
  up = let e = ok.of_committed in let le = next.history.on_disk in omega (arith, e, le)

  stay_closed : Closed head.osts past stay
  stay_closed = closed_both head past stamp t o h next (λ n. true) up
      (record { root = refl; low = λ n le. refl; saw = λ e a m s k n i. refl })

  module _ (d : Deed) (l : Lock) (a : Acted past d) (among : In l d.reply.locks) (stood : In l o.locks) (fresh : IsOver past d l → ⊥) where
    taken : In l (brought_of past) × (is_life l.ask.who (lives_in o.gone) ≡ false)
    taken = subst (λ (x : Outcome). In l x.locks → In l (brought_of past) × (is_life l.ask.who (lives_in x.gone) ≡ false)) (sym ok.is)
        (lock_stood head.osts head.clients (turn stamp (Target t)) past l) stood

    whose : l.ask.who ≡ d.reply.who
    whose = h.locks.whose d l (a, inl (of_reply d.op d.reply l among))

    slot : HasSlot head.clients past d.reply.who
    slot = subst (λ (w : Who). HasSlot head.clients past w) whose (h.recovers.brought ok.recovers l taken.0).0

    -- it is of a boot before the present one, which its client knows
    later_known : d.reply.boot < known_of d.reply.who.client past
    later_known =
        let low = (h.done.boots d a).1 in
        let le : (server_of head.osts past).boot ≤ known_of d.reply.who.client past =
        subst (λ (w : Who). (server_of head.osts past).boot ≤ known_of w.client past) whose (h.recovers.brought ok.recovers l taken.0).1
        in
        let under = h.phase.under in
        let apart = eqb-false (closed_of past) (server_of head.osts past).boot ok.recovers in
        omega (arith, low, le, under, apart)

    holds : (g : HeldLock) × In g (held_at d.reply.who.client past) × (g.lock.cookie.0 ≡ l.cookie.0)
    holds = by (cookie_or l.cookie (held_at d.reply.who.client past))
      where
        by : ((g : HeldLock) × In g (held_at d.reply.who.client past) × (g.lock.cookie.0 ≡ l.cookie.0))
            ⊎ NoneOf l.cookie (held_at d.reply.who.client past)
            → (g : HeldLock) × In g (held_at d.reply.who.client past) × (g.lock.cookie.0 ≡ l.cookie.0)
        by (inl g) = g
        by (inr none) = absurd (fresh (inr (later_known, none)))

    not_evicted : is_life d.reply.who (evicted_of past) ≡ false
    not_evicted = by (is_life d.reply.who (evicted_of past)) refl
      where
        by : (b : Bool) → is_life d.reply.who (evicted_of past) ≡ b → b ≡ false
        by true e = absurd (let lt = h.lives.apart d.reply.who d.reply.who slot e refl in omega (arith, lt))
        by false e = refl

    abbrev cookie_of : ℕ → Cookie
    cookie_of n = record { 0 = n }

    -- the life heard the reply, and nothing that it saw is lost
    saw_stays : AllSaw stay d
    saw_stays n i =
        let one = holds in
        let r = heard d.reply.who.client one.0 one.1 in
        let done = h.done.answered (life_of d.reply.who.client past) r.0 r.1 r.2 in
        let gives : In one.0.lock (brought done.0.op done.0.reply) =
        subst (λ (ls : List Lock). In one.0.lock ls) (ap (λ (o : Op). brought o r.1) done.5
        ∙ brought_again done.0.op done.0.reply r.1 done.2) r.3 in
        let it : d ≡ done.0 = (h.locks.once d done.0 l one.0.lock (a, inl (of_reply d.op d.reply l among)) (done.1, inl gives)
        (ap cookie_of (sym one.2))).0 in
        let who : d.reply.who ≡ life_of d.reply.who.client past = ap (λ (v : Deed). v.reply.who) it
        ∙ ap (λ (v : ReplyTo). v.who) (sym done.2) ∙ done.3 in
        let seen : In n r.1.seen = subst (λ (ns : List ℕ). In n ns)
        (ap (λ (v : Deed). v.reply.seen) it ∙ ap (λ (v : ReplyTo). v.seen) (sym done.2)) i in
        let off : is_life d.reply.who (lives_in o.gone) ≡ false = subst (λ (w : Who). is_life w (lives_in o.gone) ≡ false) whose taken.1 in
        let there : is_life d.reply.who (disk_of head.osts head.clients past).lives ≡ true =
        subst (λ (ws : List Who). is_life d.reply.who ws ≡ true) (sym ok.of_lives) slot in
        let kept : HasSlot head.clients closing d.reply.who = subst
        (λ (x : Outcome). is_life d.reply.who (lives_in x.gone) ≡ false → is_life d.reply.who x.disk.lives ≡ true) (sym ok.is)
        (life_stood head.osts head.clients (turn stamp (Target t)) past d.reply.who there) off in
        not_lost head past stamp t o h next n ((next.history.heard d.reply.who r.0 r.1
        (subst (λ (w : Who). HeardAs past w r.0 r.1) (sym who) r.2) kept).1 n seen)

    module _ (f : Fact) (k : Rests head.osts past d f) where
      -- nothing that is lost wrote what it is of
      spared : (p : Part) → Saw head.osts past d p → (e : Deed) → Acted past e → IsMade e → Stands head.osts past e → stay e.reply.txn.0
          ≡ false → Apart e.writes p
      spared p saw e b m s gone = by (saw e b m s)
        where
          by : Apart e.writes p ⊎ ((e.reply.txn.0 ≤ (server_of head.osts past).committed.0) ⊎ In e.reply.txn.0 d.reply.seen)
              → Apart e.writes p
          by (inl x) = x
          by (inr (inl le)) = absurd (let kept = stay_closed.low e.reply.txn.0 le in cc)
          by (inr (inr i)) = absurd (let kept = saw_stays e.reply.txn.0 i in cc)

      same : (p : Part) → Saw head.osts past d p → OfKept head.osts past d p
          → Same (server_of head.osts past).tree (server_of head.osts closing).tree p
      same p saw kept = part_stays head past stamp t o h next stay_closed p (spared p saw) (kept stay stay_closed saw_stays)

      saw_after : (p : Part) → Saw head.osts past d p → Saw head.osts closing d p
      saw_after p saw e b m s = by (saw e b m (or_parts (is_lost head.osts past e.reply.txn.0)
          (loses (server_of head.osts past).committed.0 o e.reply.txn.0) s).0)
        where
          by : Apart e.writes p ⊎ ((e.reply.txn.0 ≤ (server_of head.osts past).committed.0) ⊎ In e.reply.txn.0 d.reply.seen)
              → Apart e.writes p ⊎ ((e.reply.txn.0 ≤ (server_of head.osts closing).committed.0) ⊎ In e.reply.txn.0 d.reply.seen)
          by (inl x) = inl x
          by (inr (inl le)) = inr (inl (let higher = up in omega (arith, le, higher)))
          by (inr (inr i)) = inr (inr i)

      kept_after : (p : Part) → OfKept head.osts past d p → OfKept head.osts closing d p
      kept_after p kept keep c s =
          (and_parts (keep (inode_of p).0) (stay (inode_of p).0)
          (kept (λ n. keep n && stay n) (closed_both head past stamp t o h next keep up c)
          (λ n i. and_from (keep n) (stay n) (s n i) (saw_stays n i)))).0

      seat_after : (c : Child) → Seat head.osts past d c → Seat head.osts closing d c
      seat_after c (inl e) = inl e
      seat_after c (inr x) = inr (
        x.0,
        x.1,
        sym (same (part.Name x.0 x.1) x.4 x.5) ∙ x.2,
        x.3,
        saw_after (part.Name x.0 x.1) x.4,
        kept_after (part.Name x.0 x.1) x.5,
      )

      seats_after : (p : Part) → SeatFor head.osts past d p → SeatFor head.osts closing d p
      seats_after (part.Attr g) x = (x.0, x.1, seat_after x.0 x.2)
      seats_after _ x = tt

      -- what its attributes are of stands where it stood
      placed_at : (c : Child) → Seat head.osts past d c → IsPlaced (server_of head.osts closing).tree (bound_of head.osts past) c
      placed_at c (inl e) = inl e
      placed_at c (inr x) = inr (x.0, x.1, sym (same (part.Name x.0 x.1) x.4 x.5) ∙ x.2, x.3)

      reached : (c : Child) → Seat head.osts past d c → IsReached (server_of head.osts past).tree c
      reached c (inl e) = inl e
      reached c (inr x) = inr (x.0, (x.1, x.2))

      placed : (p : Part) → SeatFor head.osts past d p → Placed (server_of head.osts past).tree (server_of head.osts closing).tree
          (bound_of head.osts past) p
      placed (part.Attr g) x = λ c e p.
          let it : x.0 ≡ c = (sound_now head past h).one x.0 c (reached x.0 x.2)
          (placed_reached (server_of head.osts past).tree (bound_of head.osts past) c p) (x.1 ∙ sym e) in
          subst (IsPlaced (server_of head.osts closing).tree (bound_of head.osts past)) it (placed_at x.0 x.2)
      placed (part.Name e n) x = tt
      placed (part.List e) x = tt
      placed (part.Layout g) x = tt
      placed (part.Parent g) x = tt
      placed (part.Bytes g stripe extent) x = tt

      rests_after : Rests head.osts closing d f
      rests_after =
          record {
            tells = tells_same (server_of head.osts past).tree (server_of head.osts closing).tree (bound_of head.osts past) f
                (same f.part k.saw k.kept) (placed f.part k.seat) k.tells;
            saw = saw_after f.part k.saw;
            kept = kept_after f.part k.kept;
            seat = seats_after f.part k.seat;
          }

  close_taught : Taught head.osts past → Taught head.osts closing
  close_taught taught d f k =
      let u = taught d f k in
      under_line head past stamp (Target t) (Close o) ok h (omega arith) d f k.0 u
      (λ fresh i. rests_after d u.lock k.0 u.among i fresh f (u.stands fresh
      (granted_now head past h d f u k.0 fresh (not_evicted d u.lock k.0 u.among i fresh))))

-- ---- all lines

pub keeps_taught : (head : Head) (past : List Line) (stamp : Stamp) (node : Node) (e : Entry) → FirstOf past node e
    → EntryOf head past (turn stamp node) node e → HoldsAt head past → HoldsAt head (line (turn stamp node) e ∷ past) → HeldHeard past
    → Taught head.osts past → Taught head.osts (line (turn stamp node) e ∷ past)
keeps_taught head past stamp (Target t) (Close o) of ok all next heard h = close_taught head past stamp t o ok all next heard h
keeps_taught head past stamp (Client c) (Close o) of ok all next heard h = absurd ok
keeps_taught head past stamp node e of ok all next heard h = line_taught head past stamp all h node e tt of ok
