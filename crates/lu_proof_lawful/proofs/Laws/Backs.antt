-- Who is back: where the target takes what brings a life back, its line follows in the turn; and such a line stands nowhere else.
use Rattle.std.proofs.Common.{◌≡◌, ℕ, ◌+◌, ◌<◌, Bool, true, false, List, [], ◌∷◌, Option, Some, None, ◌⊎◌, inl, inr, ⊎_elim, refl, sym}
use Rattle.std.proofs.Common.{subst, ap, ◌∙◌}
use Rattle.std.specs.Prelude.{nat_eq, not, ◌&&◌, ◌||◌, if◌then◌else◌}
use Rattle.std.proofs.lemmas.Bool.{and_parts, eqb-true, true≢false, not-true, false_from_ne_true}
use Rattle.lu_base.specs.declared.ids.At.{At}
use Rattle.lu_base.specs.declared.ids.Stamp.{Stamp}
use Rattle.lu_base.specs.declared.ids.Node.{Node}
use Rattle.lu_base.specs.declared.ids.Node.TheVariants.{Client, Target}
use Rattle.lu_base.specs.declared.ids.Who.{Who}
use Rattle.lu_msg.specs.declared.messages.Message.{Message}
use Rattle.lu_msg.specs.declared.messages.Message.TheVariants as message
use Rattle.lu_trace.specs.declared.entries.Entry.{Entry as PrintedEntry}
use Rattle.lu_trace.specs.declared.entries.Entry.TheVariants as trace
use Rattle.lu_trace.specs.declared.entries.Line.{Line as PrintedLine}
use Rattle.lu_spec_entries.specs.Carried.{Said}
use Rattle.lu_spec_entries.specs.Words.{Entry, Send, Take, Boot, Back, Stores, Brings, Says, Wishes, Line, line, turn_before}
use Rattle.lu_spec_entries.specs.Concerns.{concerns, only}
use Rattle.lu_spec_entries.specs.Sent.{count_sent}
use Rattle.lu_spec_entries.specs.Printed.{printed_entry, printed}
use Rattle.lu_spec_target.specs.Windows.{Window}
use Rattle.lu_spec_target.specs.Windows as window
use Rattle.lu_proof_lawful.specs.Covered.ClientStates.{life_of}
use Rattle.lu_proof_lawful.specs.Covered.TargetStates.{server_of, up_of, replays_of, brought_of, words_of, window_of}
use Rattle.lu_proof_lawful.specs.Covered.Heads.{Head}
use Rattle.lu_spec_laws.specs.Words.Pasts.{same_turn}
use Rattle.lu_spec_laws.specs.Words.Scopes.{any_in, any_later}
use Rattle.lu_spec_laws.specs.Words.Boots.{boot, is_recovering}
use Rattle.lu_spec_laws.specs.Words.Slots.{has_slot}
use Rattle.lu_spec_laws.specs.Words.Handed.{handed, has_all, is_back, comes_back}
use Rattle.lu_spec_laws.specs.Laws.Recovery.{is_back_of, came_back, BackAt, BringsBack}
use Rattle.lu_proof_lawful.proofs.Preconditions.Guards.{In, Was, TookNow, Later, IsTurnOf, IsMark, CameBack, BackNow, due}
use Rattle.lu_proof_lawful.proofs.Preconditions.StoryGuards.{IsRecovering, EntryOf, KeepsOk}
use Rattle.lu_proof_lawful.proofs.Preconditions.Grown.{Noted, Allowed, Grown}
use Rattle.lu_proof_lawful.proofs.Preconditions.ClientLocks.{any_true}
use Rattle.lu_proof_lawful.proofs.Preconditions.Lists.{self, life_self, turn_irreflexive}
use Rattle.lu_proof_lawful.proofs.Preconditions.Only.{sent_was, grown_of, was_more}
use Rattle.lu_proof_lawful.proofs.Invariants.Groups.{turn}
use Rattle.lu_proof_lawful.proofs.Invariants.All.{holds}
use Rattle.lu_proof_lawful.proofs.Laws.Turns.{later_before, same_turn_is, same_turn_self}
use Rattle.lu_proof_lawful.proofs.Laws.Lines.{after_line}
use Rattle.lu_proof_lawful.proofs.Laws.CloseSlots.{recovering_none, slot_now, now_slot}
use Rattle.lu_proof_lawful.proofs.Laws.Handed.{replays_with, brought_with, words_with, IsWord, Agrees, OneWord, back_law, law_back}
use Rattle.lu_proof_lawful.proofs.Laws.Handed.{heard_word}
use Rattle.lu_proof_lawful.proofs.Laws.Taking.{taken_of, either_way, handed_is, boot_of, open_of, recovering_is, opens, recovers, due_note}
use Rattle.lu_proof_lawful.proofs.Laws.Taking.{none_due, due_stores, due_brings, due_says, marked_of, agrees_at}

-- ---- what was taken was sent, by one of the run's clients where it is a word

pub taken_was : (head : Head) (t : ℕ) (past : List Line) (m : Message) → Grown head past → In m (taken_of (only t past)) → (from : Node)
    × Was past from (Target t) m
taken_was head t [] m g i = absurd i
taken_was head t (l ∷ past) m g i = by l.at.node l.entry g.0 i (λ j. taken_was head t past m g.1 j)
  where
    P : List Line
    P = only t past

    Sent : Node → Entry → Type 0
    Sent node e = (from : Node) × Was (line (turn l.at.stamp node) e ∷ past) from (Target t) m

    older : (node : Node) (e : Entry) → ((from : Node) × Was past from (Target t) m) → Sent node e
    older node e h = (h.0, was_more (line (turn l.at.stamp node) e) past h.0 (Target t) m h.1)

    rest : (node : Node) (e : Entry) → taken_of (line (turn l.at.stamp node) e ∷ P) ≡ taken_of P
        → In m (taken_of (only t (line (turn l.at.stamp node) e ∷ past))) → (In m (taken_of P) → (from : Node) × Was past from (Target t) m)
        → Sent node e
    rest node e q i h = older node e (h (subst (λ (ms : List Message). In m ms)
        (either_way taken_of (line (turn l.at.stamp node) e) P (concerns t node e) q) i))

    took : (u n : ℕ) (from : Node) (k : Message) (b : Bool) → nat_eq t u ≡ b → Was past from (Target u) k
        → In m (taken_of (if b then line (turn l.at.stamp (Target u)) (Take n from k) ∷ P else P))
        → (In m (taken_of P) → (from : Node) × Was past from (Target t) m) → Sent (Target u) (Take n from k)
    took u n from k false e w i h = older (Target u) (Take n from k) (h i)
    took u n from k true e w (inl q) h = older (Target u) (Take n from k) (
      from,
      subst (λ (v : ℕ). Was past from (Target v) m) (sym (eqb-true t u e))
          (subst (λ (v : Message). Was past from (Target u) v) q w),
    )
    took u n from k true e w (inr j) h = older (Target u) (Take n from k) (h j)

    booted : (u : ℕ) (x : Entry) (b : Bool) → taken_of (line (turn l.at.stamp (Target u)) x ∷ P) ≡ []
        → In m (taken_of (if b then line (turn l.at.stamp (Target u)) x ∷ P else P))
        → (In m (taken_of P) → (from : Node) × Was past from (Target t) m) → Sent (Target u) x
    booted u x false q i h = older (Target u) x (h i)
    booted u x true q i h = absurd (subst (λ (ms : List Message). In m ms) q i)

    by : (node : Node) (e : Entry) → Allowed head past (turn l.at.stamp node) e
        → In m (taken_of (only t (line (turn l.at.stamp node) e ∷ past))) → (In m (taken_of P) → (from : Node) × Was past from (Target t) m)
        → Sent node e
    by (Target u) (Take n from k) a i h = took u n from k (nat_eq t u) refl (sent_was past n from (Target u) k a.ok.sent) i h
    by (Target u) (Boot b disk) a i h = booted u (Boot b disk) (nat_eq t u) refl i h
    by (Client c) (Take n from k) a i h = rest (Client c) (Take n from k) refl i h
    by (Client c) e a i h = rest (Client c) e refl i h
    by (Target u) e a i h = rest (Target u) e refl i h

sent_by : (head : Head) (past : List Line) (stamp : Stamp) (node to : Node) (m : Message) → Allowed head past (turn stamp node) (Send to m)
    → Grown head past → (b : ℕ) (who : Who) (s : Said) → IsWord b who m s → who.client < head.clients
sent_by head past stamp (Client c) (Target t) (message.Word other boot replays locks seen) k g b who s w =
    of_client head past c t other who k.lives.one g (k.of t (self t)).tells.of_life w.0
  where
    of_client : (head : Head) (past : List Line) (c t : ℕ) (other who : Who) → c < head.clients → Grown head past → other
        ≡ life_of c (only t past) → other ≡ who → who.client < head.clients
    of_client head past c t other who lt g e f = subst (λ (n : ℕ). n < head.clients)
        (sym (((holds head past g).at t).phase.client c) ∙ ap (λ (v : Who). v.client) (sym e ∙ f)) lt
sent_by head past stamp (Client c) (Target t) (message.Join other boot) k g b who s w =
    of_client head past c t other who k.lives.one g (k.of t (self t)).of_life w.0
  where
    of_client : (head : Head) (past : List Line) (c t : ℕ) (other who : Who) → c < head.clients → Grown head past → other
        ≡ life_of c (only t past) → other ≡ who → who.client < head.clients
    of_client head past c t other who lt g e f = subst (λ (n : ℕ). n < head.clients)
        (sym (((holds head past g).at t).phase.client c) ∙ ap (λ (v : Who). v.client) (sym e ∙ f)) lt
sent_by head past stamp (Client c) (Client d) (message.Word other boot replays locks seen) k g b who s w = absurd k.ok
sent_by head past stamp (Target t) (Client d) (message.Word other boot replays locks seen) k g b who s w = absurd k.ok
sent_by head past stamp (Target t) (Target u) (message.Word other boot replays locks seen) k g b who s w = absurd k.ok
sent_by head past stamp (Client c) (Client d) (message.Join other boot) k g b who s w = absurd k.ok
sent_by head past stamp (Target t) (Client d) (message.Join other boot) k g b who s w = absurd k.ok
sent_by head past stamp (Target t) (Target u) (message.Join other boot) k g b who s w = absurd k.ok
sent_by head past stamp node to m k g b who s w = absurd w

teller : (head : Head) (past : List Line) (from to : Node) (m : Message) → Grown head past → Was past from to m
    → (b : ℕ) (who : Who) (s : Said) → IsWord b who m s → who.client < head.clients
teller head [] from to m g w b who s i = absurd w
teller head (l ∷ past) from to m g w b who s i = by l.entry g.0 w (λ v. teller head past from to m g.1 v b who s i)
  where
    by : (e : Entry) → Allowed head past l.at e → Was (line l.at e ∷ past) from to m → (Was past from to m → who.client < head.clients)
        → who.client < head.clients
    by (Send node k) a (inl p) h = sent_by head past l.at.stamp l.at.node node k a g.1 b who s
        (subst (λ (v : Message). IsWord b who v s) (sym p.2) i)
    by (Send node k) a (inr v) h = h v
    by _ a v h = h v

-- ---- who is back, by the laws and by the window with what is due

abbrev pub ahead : (osts clients : ℕ) → List Line → Option Entry → Window
ahead osts clients past o =
    record (window_of osts clients past) {
      replays = replays_with o (replays_of past);
      brought = brought_with o (brought_of past);
      words = words_with o (words_of past);
    }

-- the laws' own words
abbrev pub OneTold : Head → ℕ → List Line → Type 0
OneTold head t past = IsRecovering head.osts (only t past) → OneWord (server_of head.osts (only t past)).boot (taken_of (only t past))

module _ (head : Head) (t : ℕ) (past : List Line) (g : Grown head past) (r : IsRecovering head.osts (only t past)) (o : Option Entry)
    (e : due head.osts head.clients (only t past) ≡ o) where
  pub agrees : let v = ahead head.osts head.clients (only t past) o
      in Agrees (server_of head.osts (only t past)).boot (taken_of (only t past)) v.lives v.replays v.brought v.words
  agrees = subst (λ (d : Option Entry). let v = ahead head.osts head.clients (only t past) d
      in Agrees (server_of head.osts (only t past)).boot (taken_of (only t past)) v.lives v.replays v.brought v.words) e
      (agrees_at head (only t past) (grown_of head t past g) (marked_of head t past g) r)

  all_is : (who : Who) → has_all (boot t (printed past)) who (handed t (printed past))
      ≡ has_all (server_of head.osts (only t past)).boot who (taken_of (only t past))
  all_is who = ap (λ (b : ℕ). has_all b who (handed t (printed past))) (boot_of head t past g)
      ∙ ap (λ (ms : List Message). has_all (server_of head.osts (only t past)).boot who ms) (handed_is head t past g)

  pub window_law : (who : Who) → window.is_back (ahead head.osts head.clients (only t past) o) who ≡ true → is_back t (printed past) who
      ≡ true
  window_law who w =
      let k = back_law (ahead head.osts head.clients (only t past) o) (server_of head.osts (only t past)).boot (taken_of (only t past))
      agrees who w in
      rw (slot_now head t past g (recovering_none head (only t past) (grown_of head t past g) r) who k.0, all_is who ∙ k.1) refl

  pub law_window : OneTold head t past → (who : Who) → is_back t (printed past) who ≡ true
      → window.is_back (ahead head.osts head.clients (only t past) o) who ≡ true
  law_window one who w =
      let v = ahead head.osts head.clients (only t past) o in
      let p = and_parts (has_slot t (printed past) who) (has_all (boot t (printed past)) who (handed t (printed past))) w in
      let all : has_all (server_of head.osts (only t past)).boot who (taken_of (only t past)) ≡ true = sym (all_is who) ∙ p.1 in
      law_back v (server_of head.osts (only t past)).boot (taken_of (only t past)) agrees (one r) who
      (now_slot head t past g (recovering_none head (only t past) (grown_of head t past g) r) who p.0 (client_of who all)) all
    where
      client_of : (who : Who) → has_all (server_of head.osts (only t past)).boot who (taken_of (only t past)) ≡ true
          → who.client < head.clients
      client_of who all =
          let b = (server_of head.osts (only t past)).boot in
          let f = any_true _ (taken_of (only t past)) all in
          let w = heard_word (ahead head.osts head.clients (only t past) o) b (taken_of (only t past)) agrees who _ _ f.0 f.2 in
          let s = taken_was head t past f.0 g f.1 in
          teller head past s.0 (Target t) f.0 g s.1 b who w.0 w.1

-- ---- what follows a line

-- with what is due, or with the newest line, the life is back
abbrev pub Expected : Head → List Line → Who → Type 0
Expected head [] who = ⊥
Expected head (l ∷ past) who =
    ((mark : Entry) × (due head.osts head.clients (l ∷ past) ≡ Some mark) × CameBack head.osts head.clients (l ∷ past) (line l.at mark) who)
    ⊎ BackNow head.osts head.clients (l ∷ past) who

-- its line stands in the rest of the turn
abbrev pub Follows : Head → List Line → List PrintedLine → Type 0
Follows head past later = (t : ℕ) (who : Who) (at : At) → IsTurnOf (only t past) at → Expected head (only t past) who
    → any_later (is_back_of who) at later ≡ true

pub follows_none : (head : Head) (past : List Line) (later : List PrintedLine) → Noted head past → Follows head past later
follows_none head past later n t who at turned x = absurd (by (only t past) x (n.marked t) (n.told t who))
  where
    by : (p : List Line) → Expected head p who → due head.osts head.clients p ≡ None → (BackNow head.osts head.clients p who → ⊥) → ⊥
    by [] x d b = x
    by (l ∷ p) (inl y) d b = let e : None ≡ Some y.0 = sym d ∙ y.1 in cc
    by (l ∷ p) (inr y) d b = b y

any_after : (f : PrintedEntry → Bool) (at : At) (l : Line) (o : Option PrintedEntry) (later : List PrintedLine) → any_later f at later
    ≡ true → any_later f at (after_line l o later) ≡ true
any_after f at l None later e = e
any_after f at l (Some x) later e = by (f x && same_turn l.at at)
  where
    by : (b : Bool) → (b || any_later f at later) ≡ true
    by true = refl
    by false = e

pub follows_before : (head : Head) (l : Line) (past : List Line) (later : List PrintedLine) → Allowed head past l.at l.entry
    → Follows head (l ∷ past) later → Follows head past (after_line l (printed_entry (count_sent past + 1) l.entry) later)
follows_before head l past later a f t who at turned x = by (concerns t l.at.node l.entry) refl (f t who)
  where
    P : List Line
    P = only t past

    new : List PrintedLine
    new = after_line l (printed_entry (count_sent past + 1) l.entry) later

    told : l.entry ≡ Back who → l.at ≡ at → any_later (is_back_of who) at new ≡ true
    told e s =
        subst (λ (x : Entry). any_later (is_back_of who) at (after_line l (printed_entry (count_sent past + 1) x) later) ≡ true) (sym e)
        (rw (life_self who, subst (λ (v : At). same_turn l.at v ≡ true) s (same_turn_self l.at)) refl)

    -- the target's newest line, and what it brings
    own : (p : List Line) → IsTurnOf p at → Expected head p who
        → ((mark : Entry) → due head.osts head.clients p ≡ Some mark → (l.entry ≡ mark) × IsTurnOf p l.at)
        → (BackNow head.osts head.clients p who → (l.entry ≡ Back who) × IsTurnOf p l.at)
        → ((at : At) → (l.at ≡ at) → Expected head (l ∷ p) who → any_later (is_back_of who) at later ≡ true)
        → any_later (is_back_of who) at new ≡ true
    own [] s x d b h = absurd s
    own (m ∷ p) s (inl y) d b h =
        let k = d y.0 y.1 in
        let here : l.at ≡ at = sym k.1 ∙ s in
        let is : line m.at y.0 ≡ l = ap (λ (v : At). line v y.0) k.1 ∙ ap (λ (v : Entry). line l.at v) (sym k.0) in
        any_after (is_back_of who) at l (printed_entry (count_sent past + 1) l.entry) later
        (h at here (inr (
          subst (λ (v : Entry). IsMark v) (sym k.0) (due_note head.osts head.clients (m ∷ p) y.0 y.1),
          subst (λ (v : Line). CameBack head.osts head.clients (m ∷ p) v who) is y.2,
        )))
    own (m ∷ p) s (inr y) d b h = let k = b y in told k.0 (sym k.1 ∙ s)

    by : (b : Bool) → concerns t l.at.node l.entry ≡ b → ((at : At) → IsTurnOf (if b then l ∷ P else P) at
        → Expected head (if b then l ∷ P else P) who → any_later (is_back_of who) at later ≡ true) → any_later (is_back_of who) at new
        ≡ true
    by true e h = own P turned x (λ mark d. a.marks t mark e d) (λ b. a.backs t who e b) h
    by false e h = any_after (is_back_of who) at l (printed_entry (count_sent past + 1) l.entry) later (h at turned x)

-- ---- a life comes back

left_true : (a b : Bool) → (a && b) ≡ true → a ≡ true
left_true a b e = (and_parts a b e).0

-- what is taken at a target that recovers
pub brings_back : (head : Head) (past : List Line) (stamp : Stamp) (t n : ℕ) (from : Node) (m : Message) (later : List PrintedLine)
    (who : Who) → let l = line (turn stamp (Target t)) (Take n from m) in Grown head (l ∷ past)
    → OneTold head t (l ∷ past) → Follows head (l ∷ past) later
    → BringsBack t (printed past) (record { at = turn stamp (Target t); entry = trace.Take n }) later who
brings_back head past stamp t n from m later who g one f e =
    let p = and_parts (is_recovering t (printed past) && is_back t (printed (l ∷ past)) who) (not (is_back t (printed past) who)) e in
    let q = and_parts (is_recovering t (printed past)) (is_back t (printed (l ∷ past)) who) p.0 in
    let r : IsRecovering head.osts P = recovers head P (grown_of head t past g.1) (sym (recovering_is head t past g.1) ∙ q.0) in
    let here : nat_eq t t ≡ true = self t in
    let now : only t (l ∷ past) ≡ l ∷ P = ap (λ (b : Bool). if b then l ∷ P else P) here in
    let none : due head.osts head.clients P ≡ None = none_due head.osts head.clients P (Take n from m) (λ v. v)
    (λ mark d. (g.0.marks t mark here d).0) in
    let before : window.is_back (window_of head.osts head.clients P) who ≡ false =
    false_from_ne_true (window.is_back (window_of head.osts head.clients P) who)
    (λ w. true≢false (sym (window_law head t past g.1 r None none who w) ∙ not-true (is_back t (printed past) who) p.1)) in
    let rec : IsRecovering head.osts (only t (l ∷ past)) = subst (λ (v : List Line). IsRecovering head.osts v) (sym now) r in
    at now (due head.osts head.clients (l ∷ P)) refl before (λ o d. subst
    (λ (v : List Line). window.is_back (ahead head.osts head.clients v o) who ≡ true) now
    (law_window head t (l ∷ past) g rec o (ap (λ (v : List Line). due head.osts head.clients v) now ∙ d) one who q.1))
  where
    l : Line
    l = line (turn stamp (Target t)) (Take n from m)

    P : List Line
    P = only t past

    at : only t (l ∷ past) ≡ l ∷ P → (o : Option Entry) → due head.osts head.clients (l ∷ P) ≡ o
        → window.is_back (window_of head.osts head.clients P) who ≡ false
        → ((o : Option Entry) → due head.osts head.clients (l ∷ P) ≡ o → window.is_back (ahead head.osts head.clients (l ∷ P) o) who ≡ true)
        → any_later (is_back_of who) l.at later ≡ true
    at now None d before h = absurd (true≢false (sym (h None d) ∙ before))
    at now (Some mark) d before h =
        f t who l.at (subst (λ (v : List Line). IsTurnOf v l.at) (sym now) refl)
        (subst (λ (v : List Line). Expected head v who) (sym now) (inl (mark, d, record { before = before; now = h (Some mark) d })))

-- with the mark that is due of what was taken
module _ (head : Head) (t : ℕ) (who : Who) where
  more : (past : List Line) (at : At) (l : Line) (o : Option PrintedEntry) → came_back t at (printed past) who ≡ true
      → came_back t at (elim o [ None ↦ printed past | Some e ↦ record { at = l.at; entry = e } ∷ printed past ]) who ≡ true
  more past at l None e = e
  more past at l (Some x) e = by (same_turn l.at at && comes_back t who (printed past) (record { at = l.at; entry = x }))
    where
      by : (b : Bool) → (b || came_back t at (printed past) who) ≡ true
      by true = refl
      by false = e

  came_take : (past : List Line) (at : At) (mark : Entry) → Grown head past
      → ((past' : List Line) → Grown head past' → OneTold head t past') → IsTurnOf (only t past) at → open_of (only t past) ≡ true
      → due head.osts head.clients (only t past) ≡ Some mark
      → CameBack head.osts head.clients (only t past) (line at mark) who → came_back t at (printed past) who ≡ true
  came_take [] at mark g one s w d c = absurd s
  came_take (l ∷ past) at mark g one s w d c = by l.at.node l.entry g s w d c (λ s w d c. came_take past at mark g.1 one s w d c)
    where
      P : List Line
      P = only t past

      Came : List Line → Type 0
      Came p = IsTurnOf p at → open_of p ≡ true → due head.osts head.clients p ≡ Some mark
          → CameBack head.osts head.clients p (line at mark) who → came_back t at (printed (l ∷ past)) who ≡ true

      rest : (node : Node) (x : Entry) → let k = line (turn l.at.stamp node) x in due head.osts head.clients (k ∷ P) ≡ None
          → IsTurnOf (only t (k ∷ past)) at → open_of (only t (k ∷ past)) ≡ true → due head.osts head.clients (only t (k ∷ past))
          ≡ Some mark → CameBack head.osts head.clients (only t (k ∷ past)) (line at mark) who
          → (IsTurnOf P at → open_of P ≡ true → due head.osts head.clients P ≡ Some mark
          → CameBack head.osts head.clients P (line at mark) who → came_back t at (printed past) who ≡ true)
          → came_back t at (printed (k ∷ past)) who ≡ true
      rest node x none s w d c h = of (concerns t node x) s w d c
        where
          k : Line
          k = line (turn l.at.stamp node) x

          of : (b : Bool) → IsTurnOf (if b then k ∷ P else P) at → open_of (if b then k ∷ P else P) ≡ true
              → due head.osts head.clients (if b then k ∷ P else P) ≡ Some mark
              → CameBack head.osts head.clients (if b then k ∷ P else P) (line at mark) who → came_back t at (printed (k ∷ past)) who ≡ true
          of false s w d c = more past at k (printed_entry (count_sent past + 1) x) (h s w d c)
          of true s w d c = absurd (let e : None ≡ Some mark = sym none ∙ d in cc)

      by : (node : Node) (x : Entry) → let k = line (turn l.at.stamp node) x in Grown head (k ∷ past)
          → IsTurnOf (only t (k ∷ past)) at → open_of (only t (k ∷ past)) ≡ true → due head.osts head.clients (only t (k ∷ past))
          ≡ Some mark → CameBack head.osts head.clients (only t (k ∷ past)) (line at mark) who
          → (IsTurnOf P at → open_of P ≡ true → due head.osts head.clients P ≡ Some mark
          → CameBack head.osts head.clients P (line at mark) who → came_back t at (printed past) who ≡ true)
          → came_back t at (printed (k ∷ past)) who ≡ true
      by (Target u) (Take n from m) g s w d c h = of (nat_eq t u) refl s w d c
        where
          k : Line
          k = line (turn l.at.stamp (Target u)) (Take n from m)

          here : t ≡ u → k.at ≡ at → open_of P ≡ true → due head.osts head.clients (k ∷ P) ≡ Some mark
              → CameBack head.osts head.clients (k ∷ P) (line at mark) who → came_back t at (printed (k ∷ past)) who ≡ true
          here e s w d c =
              let own : nat_eq t u ≡ true = subst (λ (v : ℕ). nat_eq t v ≡ true) e (self t) in
              let now : only t (k ∷ past) ≡ k ∷ P = ap (λ (b : Bool). if b then k ∷ P else P) own in
              let r : IsRecovering head.osts P = recovers head P (grown_of head t past g.1) w in
              let rec : IsRecovering head.osts (only t (k ∷ past)) = subst (λ (v : List Line). IsRecovering head.osts v) (sym now) r in
              let none : due head.osts head.clients P ≡ None = none_due head.osts head.clients P (Take n from m) (λ v. v)
              (λ j q. (g.0.marks t j own q).0) in
              let placed : CameBack head.osts head.clients (k ∷ P) (line k.at mark) who =
              subst (λ (v : At). CameBack head.osts head.clients (k ∷ P) (line v mark) who) (sym s) c in
              let after : is_back t (printed (k ∷ past)) who ≡ true =
              window_law head t (k ∷ past) g rec (Some mark) (ap (λ (v : List Line). due head.osts head.clients v) now ∙ d) who
              (subst (λ (v : List Line). window.is_back (ahead head.osts head.clients v (Some mark)) who ≡ true) (sym now) placed.now)
              in
              let before : is_back t (printed past) who ≡ false =
              false_from_ne_true (is_back t (printed past) who)
              (λ q. true≢false (sym (law_window head t past g.1 r None none (one past g.1) who q) ∙ c.before)) in
              let comes : comes_back t who (printed past) (record { at = k.at; entry = trace.Take n }) ≡ true =
              rw (recovering_is head t past g.1 ∙ w, after, before) refl in
              let same : same_turn k.at at ≡ true = subst (λ (v : At). same_turn k.at v ≡ true) s (same_turn_self k.at) in
              ap (λ (b : Bool). b && comes_back t who (printed past) (record { at = k.at; entry = trace.Take n })
              || came_back t at (printed past) who) same ∙ ap (λ (b : Bool). b || came_back t at (printed past) who) comes

          of : (b : Bool) → nat_eq t u ≡ b → IsTurnOf (if b then k ∷ P else P) at → open_of (if b then k ∷ P else P) ≡ true
              → due head.osts head.clients (if b then k ∷ P else P) ≡ Some mark
              → CameBack head.osts head.clients (if b then k ∷ P else P) (line at mark) who → came_back t at (printed (k ∷ past)) who ≡ true
          of false e s w d c = more past at k (Some (trace.Take n)) (h s w d c)
          of true e s w d c = here (eqb-true t u e) s w d c
      by (Client c) (Take n from m) g s w d b h = rest (Client c) (Take n from m) refl s w d b h
      by (Client c) x g s w d b h = rest (Client c) x refl s w d b h
      by (Target u) x g s w d b h = rest (Target u) x refl s w d b h

  -- and so with the mark that keeps it
  pub came_mark : (past : List Line) (at : At) → Grown head past → ((past' : List Line) → Grown head past' → OneTold head t past')
      → IsTurnOf (only t past) at → BackNow head.osts head.clients (only t past) who → (came_back t at (printed past) who ≡ true)
      × (open_of (only t past) ≡ true)
  came_mark [] at g one s b = absurd s
  came_mark (l ∷ past) at g one s b = by l.at.node l.entry g s b (λ s b. came_mark past at g.1 one s b)
    where
      P : List Line
      P = only t past

      Goal : Node → Entry → Type 0
      Goal node x = (came_back t at (printed (line (turn l.at.stamp node) x ∷ past)) who ≡ true)
          × (open_of (only t (line (turn l.at.stamp node) x ∷ past)) ≡ true)

      Old : Type 0
      Old = (came_back t at (printed past) who ≡ true) × (open_of P ≡ true)

      -- a line that concerns the target
      own : (node : Node) (x : Entry) → let k = line (turn l.at.stamp node) x
          in ((concerns t node x ≡ true) → IsTurnOf (k ∷ P) at → BackNow head.osts head.clients (k ∷ P) who
          → (came_back t at (printed (k ∷ past)) who ≡ true) × (open_of (k ∷ P) ≡ true))
          → IsTurnOf (only t (k ∷ past)) at → BackNow head.osts head.clients (only t (k ∷ past)) who
          → (IsTurnOf P at → BackNow head.osts head.clients P who → Old) → Goal node x
      own node x now s b h = of (concerns t node x) refl s b
        where
          k : Line
          k = line (turn l.at.stamp node) x

          of : (c : Bool) → concerns t node x ≡ c → IsTurnOf (if c then k ∷ P else P) at
              → BackNow head.osts head.clients (if c then k ∷ P else P) who → (came_back t at (printed (k ∷ past)) who ≡ true)
              × (open_of (if c then k ∷ P else P) ≡ true)
          of false e s b = let r = h s b in (more past at k (printed_entry (count_sent past + 1) x) r.0, r.1)
          of true e s b = now e s b

      -- a mark of what was taken
      noted : (u : ℕ) (x : Entry) → Grown head (line (turn l.at.stamp (Target u)) x ∷ past) → due head.osts head.clients P ≡ Some x
          → IsRecovering head.osts P → up_of P ≡ true
          → IsTurnOf P (turn l.at.stamp (Target u)) → turn l.at.stamp (Target u) ≡ at
          → CameBack head.osts head.clients P (line (turn l.at.stamp (Target u)) x) who → (came_back t at (printed past) who ≡ true)
          × (open_of P ≡ true)
      noted u x g d r up w s c =
          let now : open_of P ≡ true = (opens head P (grown_of head t past g.1)).opened up r in (
            came_take past at x g.1 one (subst (λ (v : At). IsTurnOf P v) s w) now d
                (subst (λ (v : At). CameBack head.osts head.clients P (line v x) who) s c),
            now,
          )

      turned : (p : List Line) (u : ℕ) (from : Node) (m : Message) → TookNow p (turn l.at.stamp (Target u)) from m
          → IsTurnOf p (turn l.at.stamp (Target u))
      turned [] u from m k = k
      turned (x ∷ p) u from m k = of x.entry k
        where
          of : (e : Entry) → TookNow (line x.at e ∷ p) (turn l.at.stamp (Target u)) from m → x.at ≡ turn l.at.stamp (Target u)
          of (Take n sender k) q = q.0
          of e q = absurd q

      by : (node : Node) (x : Entry) → let k = line (turn l.at.stamp node) x in Grown head (k ∷ past) → IsTurnOf (only t (k ∷ past)) at
          → BackNow head.osts head.clients (only t (k ∷ past)) who → (IsTurnOf P at → BackNow head.osts head.clients P who → Old)
          → Goal node x
      by (Target u) (Stores replay) g s b h = own (Target u) (Stores replay)
          (λ e s b. let ok = g.0.of t e in noted u (Stores replay) g (due_stores head P l.at.stamp u replay ok) ok.keeps.recovers
          ok.keeps.up (turned P u ok.from _ ok.keeps.took) s b.1) s b h
      by (Target u) (Brings lock) g s b h = own (Target u) (Brings lock)
          (λ e s b. let ok = g.0.of t e in noted u (Brings lock) g (due_brings head P l.at.stamp u lock ok) ok.keeps.recovers ok.keeps.up
          (turned P u ok.from _ ok.keeps.took) s b.1) s b h
      by (Target u) (Says said) g s b h = own (Target u) (Says said) (λ e s b. let ok = g.0.of t e in ⊎_elim
          (λ (k : KeepsOk head P (turn l.at.stamp (Target u)) u ok.from (message.Word said.who ok.boot said.replays said.locks said.seen)
          said.who ok.boot).
          noted u (Says said) g (due_says head P l.at.stamp u said ok) k.recovers k.up (turned P u ok.from _ k.took) s b.1)
          (λ k. noted u (Says said) g (due_says head P l.at.stamp u said ok) k.1.recovers k.1.up (turned P u ok.from _ k.1.took) s b.1)
          ok.keeps) s b h
      by (Target u) (Wishes other) g s b h = own (Target u) (Wishes other) (λ e s b. absurd (true≢false (sym b.1.now ∙ b.1.before))) s b h
      by (Client c) (Stores replay) g s b h = absurd g.0.ok
      by (Client c) (Brings lock) g s b h = absurd g.0.ok
      by (Client c) (Says said) g s b h = absurd g.0.ok
      by (Client c) (Wishes other) g s b h = absurd g.0.ok
      by node x g s b h = own node x (λ e s b. absurd b.0) s b h

  -- ---- of which the turn has one line

  -- no line of a later turn stands in the past
  none_later : (f : PrintedEntry → Bool) (past : List Line) (at : At) → Grown head past → Later past at → any_in f at (printed past) ≡ false
  none_later f [] at g w = refl
  none_later f (l ∷ past) at g w = by (printed_entry (count_sent past + 1) l.entry)
      (none_later f past at g.1 (later_before l past at g.0.steps w))
    where
      other : same_turn l.at at ≡ false
      other = false_from_ne_true (same_turn l.at at) (λ e. turn_irreflexive at
          (subst (λ (v : At). turn_before v at ≡ true) (same_turn_is l.at at e) w))

      by : (o : Option PrintedEntry) → any_in f at (printed past) ≡ false
          → any_in f at (elim o [ None ↦ printed past | Some e ↦ record { at = l.at; entry = e } ∷ printed past ]) ≡ false
      by None h = h
      by (Some e) h = ap (λ (b : Bool). f e && b || any_in f at (printed past)) other ∙ off (f e) (any_in f at (printed past)) h
        where
          off : (a b : Bool) → b ≡ false → (a && false || b) ≡ false
          off true b h = h
          off false b h = h

  -- a line of another node
  elsewhere : (f : PrintedEntry → Bool) (l : Line) (past : List Line) (at : At) (o : Option PrintedEntry) → at.node ≡ Target t
      → concerns t l.at.node l.entry ≡ false → any_in f at (printed past) ≡ false
      → any_in f at (elim o [ None ↦ printed past | Some e ↦ record { at = l.at; entry = e } ∷ printed past ]) ≡ false
  elsewhere f l past at None n c h = h
  elsewhere f l past at (Some e) n c h = ap (λ (b : Bool). f e && b || any_in f at (printed past)) other
      ∙ off (f e) (any_in f at (printed past)) h
    where
      other : same_turn l.at at ≡ false
      other = false_from_ne_true (same_turn l.at at) (λ q. let here : l.at.node ≡ Target t =
          ap (λ (v : At). v.node) (same_turn_is l.at at q) ∙ n in true≢false
          (sym (ap (λ (v : Node). concerns t v l.entry) here ∙ self t) ∙ c))

      off : (a b : Bool) → b ≡ false → (a && false || b) ≡ false
      off true b h = h
      off false b h = h

  none_took : (past : List Line) (at : At) (from : Node) (m : Message) → Grown head past → at.node ≡ Target t
      → TookNow (only t past) at from m → any_in (is_back_of who) at (printed past) ≡ false
  none_took [] at from m g n k = absurd k
  none_took (l ∷ past) at from m g n k = by (concerns t l.at.node l.entry) refl k (λ k. none_took past at from m g.1 n k)
    where
      here : (x : Entry) → Allowed head past l.at x → TookNow (line l.at x ∷ only t past) at from m
          → any_in (is_back_of who) at (printed (line l.at x ∷ past)) ≡ false
      here (Take n sender k) a q = none_later (is_back_of who) past at g.1 (subst (λ (v : At). Later past v) q.0 a.ok.later)
      here x a q = absurd q

      by : (b : Bool) → concerns t l.at.node l.entry ≡ b → TookNow (if b then l ∷ only t past else only t past) at from m
          → (TookNow (only t past) at from m → any_in (is_back_of who) at (printed past) ≡ false)
          → any_in (is_back_of who) at (printed (l ∷ past)) ≡ false
      by true e k h = here l.entry g.0 k
      by false e k h = elsewhere (is_back_of who) l past at (printed_entry (count_sent past + 1) l.entry) n e (h k)

  pub none_mark : (past : List Line) (at : At) → Grown head past → at.node ≡ Target t → IsTurnOf (only t past) at
      → BackNow head.osts head.clients (only t past) who → any_in (is_back_of who) at (printed past) ≡ false
  none_mark [] at g n s b = absurd s
  none_mark (l ∷ past) at g n s b = by (concerns t l.at.node l.entry) refl s b (λ s b. none_mark past at g.1 n s b)
    where
      P : List Line
      P = only t past

      kept : (stamp : Stamp) (node : Node) (x : Entry) → EntryOf head P (turn stamp node) node x → turn stamp node ≡ at
          → CameBack head.osts head.clients P (line (turn stamp node) x) who → IsMark x
          → any_in (is_back_of who) at (printed (line (turn stamp node) x ∷ past)) ≡ false
      kept stamp (Target u) (Stores replay) ok s c i = none_took past at ok.from _ g.1 n
          (subst (λ (v : At). TookNow P v ok.from (message.Replay ok.given)) s ok.keeps.took)
      kept stamp (Target u) (Brings lock) ok s c i = none_took past at ok.from _ g.1 n
          (subst (λ (v : At). TookNow P v ok.from (message.Lock ok.given)) s ok.keeps.took)
      kept stamp (Target u) (Says said) ok s c i = ⊎_elim
          (λ (k : KeepsOk head P (turn stamp (Target u)) u ok.from (message.Word said.who ok.boot said.replays said.locks said.seen)
          said.who ok.boot). none_took past at ok.from _ g.1 n
          (subst (λ (v : At). TookNow P v ok.from (message.Word said.who ok.boot said.replays said.locks said.seen)) s k.took))
          (λ k. none_took past at ok.from _ g.1 n (subst (λ (v : At). TookNow P v ok.from (message.Join said.who ok.boot)) s k.1.took))
          ok.keeps
      kept stamp (Target u) (Wishes other) ok s c i = absurd (true≢false (sym c.now ∙ c.before))
      kept stamp (Client c) (Stores replay) ok s b i = absurd ok
      kept stamp (Client c) (Brings lock) ok s b i = absurd ok
      kept stamp (Client c) (Says said) ok s b i = absurd ok
      kept stamp (Client c) (Wishes other) ok s b i = absurd ok
      kept stamp node x ok s c i = absurd i

      by : (c : Bool) → concerns t l.at.node l.entry ≡ c → IsTurnOf (if c then l ∷ P else P) at
          → BackNow head.osts head.clients (if c then l ∷ P else P) who
          → (IsTurnOf P at → BackNow head.osts head.clients P who → any_in (is_back_of who) at (printed past) ≡ false)
          → any_in (is_back_of who) at (printed (l ∷ past)) ≡ false
      by true e s b h = kept l.at.stamp l.at.node l.entry (g.0.of t e) s b.1 b.0
      by false e s b h = elsewhere (is_back_of who) l past at (printed_entry (count_sent past + 1) l.entry) n e (h s b)

-- at its line
pub back_at : (head : Head) (past : List Line) (stamp : Stamp) (t : ℕ) (who : Who) → Grown head past
    → ((past' : List Line) → Grown head past' → OneTold head t past') → BackNow head.osts head.clients (only t past) who
    → IsTurnOf (only t past) (turn stamp (Target t)) → BackAt t (printed past) (turn stamp (Target t)) who
back_at head past stamp t who g one b s =
    let c = came_mark head t who past (turn stamp (Target t)) g one s b in
    record {
      recovering = recovering_is head t past g ∙ c.1;
      came = c.0;
      once =
          none_mark head t who past (turn stamp (Target t)) g refl s b;
    }
