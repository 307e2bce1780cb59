-- What every covered run keeps of a life that joins: it asked for it in this turn, or since the boot where this turn closed the window; it
-- is
-- newer than the last one of its client that joined, and that one was evicted.
use Rattle.std.proofs.Common.{◌≡◌, ℕ, ◌<◌, Bool, true, false, List, [], ◌∷◌, ◌++◌, Some, None, inl, inr, ⊎_elim, refl, sym, subst, ap, ◌∙◌}
use Rattle.std.proofs.Common.{arith}
use Rattle.std.specs.Prelude.{nat_eq, ◌&&◌, ◌||◌, if◌then◌else◌, unwrap_or, map}
use Rattle.std.specs.List.{list_any}
use Rattle.std.proofs.lemmas.Bool.{cond-true, cond-false, eqb-true, eq-eqb, true≢false}
use Rattle.lu_base.specs.declared.ids.At.{At}
use Rattle.lu_base.specs.declared.ids.Node.{Node}
use Rattle.lu_base.specs.declared.ids.Node.TheVariants.{Client, Target}
use Rattle.lu_base.specs.declared.ids.Stamp.{Stamp}
use Rattle.lu_base.specs.declared.ids.Who.{Who}
use Rattle.lu_base.specs.declared.locks.Cause.{Cause}
use Rattle.lu_base.specs.declared.locks.Lock.{Lock}
use Rattle.lu_msg.specs.declared.messages.Message.{Message}
use Rattle.lu_msg.specs.declared.messages.Message.TheVariants as message
use Rattle.lu_trace.specs.declared.entries.Line.{Line as PrintedLine}
use Rattle.lu_spec_entries.specs.Carried.{Deed, Gone, Outcome}
use Rattle.lu_spec_entries.specs.Words.{Entry, same_life, Take, Boot, Close, Evict, Joined as Joins, Line, line, turn_before}
use Rattle.lu_spec_entries.specs.Concerns.{concerns, only}
use Rattle.lu_spec_entries.specs.Printed.{printed}
use Rattle.lu_spec_target.specs.Lives.{is_life}
use Rattle.lu_spec_target.specs.Recovery.{kept_lines, restore_lines}
use Rattle.lu_proof_lawful.specs.Covered.TargetStates.{lives_of, evicted_of}
use Rattle.lu_proof_lawful.specs.Covered.TargetCloses.{shows_evicted, shows_ready, shows_joined, staying, says_ready, shows, but_first}
use Rattle.lu_proof_lawful.specs.Covered.TargetCloses.{closing_of}
use Rattle.lu_proof_lawful.specs.Covered.Heads.{Head}
use Rattle.lu_spec_laws.specs.Holds.{Holds}
use Rattle.lu_spec_laws.specs.Words.Pasts.{or_else, newest}
use Rattle.lu_spec_laws.specs.Words.Sends.{Sending, taken}
use Rattle.lu_spec_laws.specs.Words.Boots.{boot}
use Rattle.lu_spec_laws.specs.Words.Lives.{is_evicted}
use Rattle.lu_spec_laws.specs.Order.Handed.{has_closed, since_boot}
use Rattle.lu_spec_laws.specs.Order.Joined.{is_join, counted, joins_as, last_life, JoinedAt, Joined}
use Rattle.lu_proof_lawful.proofs.Preconditions.CloseLists.{OneEach}
use Rattle.lu_proof_lawful.proofs.Preconditions.Guards.{In, Later, Steps, Took, EntryOk}
use Rattle.lu_proof_lawful.proofs.Preconditions.StoryGuards.{CloseOk, JoinedOk, ComesOk, EntryOf}
use Rattle.lu_proof_lawful.proofs.Preconditions.ClientLocks.{any_passes}
use Rattle.lu_proof_lawful.proofs.Preconditions.Grown.{Allowed, Grown, GrownOf}
use Rattle.lu_proof_lawful.proofs.Preconditions.LifeLists.{stands_life, life_put, none_is}
use Rattle.lu_proof_lawful.proofs.Preconditions.Lists.{self, life_self, turn_trans}
use Rattle.lu_proof_lawful.proofs.Preconditions.Only.{grown_of}
use Rattle.lu_proof_lawful.proofs.Preconditions.Ends.{none_took}
use Rattle.lu_proof_lawful.proofs.Invariants.Groups.{turn, Upto, HoldsAt}
use Rattle.lu_proof_lawful.proofs.Invariants.TargetGroups.{Had, Evicted}
use Rattle.lu_proof_lawful.proofs.Invariants.All.{holds, holds_at}
use Rattle.lu_proof_lawful.proofs.Invariants.CloseFacts.{closing}
use Rattle.lu_proof_lawful.proofs.Invariants.LifeLists.{older_than}
use Rattle.lu_proof_lawful.proofs.Laws.Turns.{steps_trans}
use Rattle.lu_proof_lawful.proofs.Laws.Lines.{Keeps, holds_before, Nothing}
use Rattle.lu_proof_lawful.proofs.Laws.Taking.{taken_of, boot_of}
use Rattle.lu_proof_lawful.proofs.Laws.Printed.{flip, took_whole}
use Rattle.lu_proof_lawful.proofs.Laws.CloseLines.{shown_parts}
use Rattle.lu_proof_lawful.proofs.Laws.CloseSlots.{LeftEvict, had_on, evicted_law}
use Rattle.lu_proof_lawful.proofs.Laws.Notices.{took_any}
use Rattle.lu_proof_lawful.proofs.Laws.OrderlyQuiet.{Says}
use Rattle.lu_proof_lawful.proofs.Laws.OrderlyHanded.{since_is, due_handed, kept_in_lines, restore_in_lines, evicted_in_lines}
use Rattle.lu_proof_lawful.proofs.Laws.OrderlyHanded.{ready_in_lines, joined_in_lines}

-- ---- what a turn took was taken since the boot

later_upto : (past : List Line) (a b : At) → Later past a → Upto a b → Later past b
later_upto [] a b later u = tt
later_upto (l ∷ past) a b later (inl e) = subst (λ (v : At). turn_before l.at v ≡ true) e later
later_upto (l ∷ past) a b later (inr e) = turn_trans l.at a b later e

took_since : (head : Head) (t : ℕ) (past : List Line) (at : At) (from : Node) (m : Message) → Grown head past → Steps past at → at.node
    ≡ Target t → Took past at from m → In m (taken_of (only t past))
took_since head t [] at from m g s n k = absurd k
took_since head t (l ∷ past) at from m g s n k = on l.at.node l.entry (concerns t l.at.node l.entry) refl g.0.ok s k
    (took_since head t past at from m g.1 (steps_trans past l.at at g.0.steps s) n)
  where
    P : List Line
    P = only t past

    on : (node : Node) (e : Entry) (b : Bool) → concerns t node e ≡ b → EntryOk past (turn l.at.stamp node) node e
        → Upto (turn l.at.stamp node) at → Took (line (turn l.at.stamp node) e ∷ past) at from m
        → (Took past at from m → In m (taken_of P)) → In m (taken_of (if b then line (turn l.at.stamp node) e ∷ P else P))
    on (Target u) (Take x sender k) true c ok s (inl p) h = inl p.2
    on (Target u) (Take x sender k) true c ok s (inr q) h = inr (h q)
    on (Target u) (Take x sender k) false c ok s (inl p) h =
        let e : Target u ≡ Target t = ap (λ (v : At). v.node) p.0 ∙ n in
        let same : u ≡ t = cc in
        absurd (true≢false (sym (eq-eqb t u (sym same)) ∙ c))
    on (Target u) (Take x sender k) false c ok s (inr q) h = h q
    on (Client d) (Take x sender k) b c ok s (inl p) h = absurd (let e : Client d ≡ Target t = ap (λ (v : At). v.node) p.0 ∙ n in cc)
    on (Client d) (Take x sender k) true c ok s (inr q) h = h q
    on (Client d) (Take x sender k) false c ok s (inr q) h = h q
    on (Target u) (Boot b disk) true c ok s q h = absurd (none_took head past at from m g.1
        (later_upto past (turn l.at.stamp (Target u)) at ok s) q)
    on (Target u) (Boot b disk) false c ok s q h = h q
    on (Client d) e true c ok s q h = h q
    on (Client d) e false c ok s q h = h q
    on (Target u) e true c ok s q h = h q
    on (Target u) e false c ok s q h = h q

any_of : (p : Message → Bool) (ss : List Sending) → list_any (λ (s : Sending). p s.message) ss ≡ true
    → list_any p (map {A = Sending} {B = Message} (λ s. s.message) ss) ≡ true
any_of p [] e = e
any_of p (s ∷ ss) e = by (p s.message) e (any_of p ss)
  where
    by : (b : Bool) → (b || list_any (λ (s : Sending). p s.message) ss) ≡ true
        → (list_any (λ (s : Sending). p s.message) ss ≡ true → list_any p (map {A = Sending} {B = Message} (λ s. s.message) ss) ≡ true)
        → (b || list_any p (map {A = Sending} {B = Message} (λ s. s.message) ss)) ≡ true
    by true e h = refl
    by false e h = h e

-- ---- who joined last

abbrev last : ℕ → ℕ → List Line → Who
last t c past = record { client = c; life = last_life t c (printed past) }

last_had : (head : Head) (t c : ℕ) (past : List Line) → Grown head past → c < head.clients → Had head.clients (only t past) (last t c past)
last_had head t c [] g lt = ((holds head [] g).at t).lives.first c lt
last_had head t c (l ∷ past) g lt = by l.at.node l.entry g (last_had head t c past g.1 lt)
  where
    on : (node : Node) (e : Entry) → Grown head (line (turn l.at.stamp node) e ∷ past) → last t c (line (turn l.at.stamp node) e ∷ past)
        ≡ last t c past → Had head.clients (only t past) (last t c past)
        → Had head.clients (only t (line (turn l.at.stamp node) e ∷ past)) (last t c (line (turn l.at.stamp node) e ∷ past))
    on node e n same h = subst (λ (v : Who). Had head.clients (only t (line (turn l.at.stamp node) e ∷ past)) v) (sym same)
        (had_on head t (line (turn l.at.stamp node) e) past n (last t c past) h)

    joined : (u : ℕ) (who : Who) (a b : Bool) → Grown head (line (turn l.at.stamp (Target u)) (Joins who) ∷ past) → nat_eq u t ≡ a
        → nat_eq who.client c ≡ b → Had head.clients (only t past) (last t c past)
        → Had head.clients (only t (line (turn l.at.stamp (Target u)) (Joins who) ∷ past))
        (record {
          client = c;
          life = unwrap_or (or_else (if a && b then Some who.life else None) (newest (joins_as t c) (printed past)))
              1;
        })
    joined u who true true n e f h =
        let same : who ≡ record { client = c; life = who.life } =
        ap (λ (n : ℕ). record { client = n; life = who.life }) (eqb-true who.client c f) in
        subst (λ (v : Who). Had head.clients (only t (line (turn l.at.stamp (Target u)) (Joins who) ∷ past)) v) same
        (subst (λ (v : List Line). Had head.clients v who) (sym
        (cond-true (nat_eq t u) (line (turn l.at.stamp (Target u)) (Joins who) ∷ only t past) (only t past) (flip t u ∙ e)))
        (inl (life_put who (lives_of head.clients (only t past)))))
    joined u who true false n e f h = had_on head t (line (turn l.at.stamp (Target u)) (Joins who)) past n (last t c past) h
    joined u who false b n e f h = had_on head t (line (turn l.at.stamp (Target u)) (Joins who)) past n (last t c past) h

    by : (node : Node) (e : Entry) → Grown head (line (turn l.at.stamp node) e ∷ past) → Had head.clients (only t past) (last t c past)
        → Had head.clients (only t (line (turn l.at.stamp node) e ∷ past)) (last t c (line (turn l.at.stamp node) e ∷ past))
    by (Client d) (Joins who) n h = on (Client d) (Joins who) n refl h
    by (Target u) (Joins who) n h = joined u who (nat_eq u t) (nat_eq who.client c) n refl refl h
    by node e n h = on node e n refl h

-- ---- what a close has still to show is in order

-- of each client one life joins at most, and after a join none is evicted
abbrev Tidy : List Entry → Type 0
Tidy [] = Unit {0}
Tidy (e ∷ es) =
    elim e [
      | Joins w ↦ ((x : Who) → In (Joins x) es → w.client ≡ x.client → ⊥) × ((x : Who) (c : Cause) → In (Evict x c) es → ⊥) × Tidy es
      | _ ↦ Tidy es
    ]

tidy_rest : (es : List Entry) → Tidy es → Tidy (but_first es)
tidy_rest [] t = tt
tidy_rest (e ∷ es) t = by e t
  where
    by : (e : Entry) → Tidy (e ∷ es) → Tidy es
    by (Joins w) t = t.2
    by e t = t

tidy_kept : (ds : List Deed) (es : List Entry) → Tidy es → Tidy (kept_lines ds ++ es)
tidy_kept [] es t = t
tidy_kept (d ∷ ds) es t = tidy_kept ds es t

tidy_restored : (ls : List Lock) (es : List Entry) → Tidy es → Tidy (restore_lines ls ++ es)
tidy_restored [] es t = t
tidy_restored (l ∷ ls) es t = tidy_restored ls es t

tidy_evicted : (o : Outcome) (gone : List Gone) (es : List Entry) → Tidy es → Tidy (shows_evicted o gone ++ es)
tidy_evicted o [] es t = t
tidy_evicted o (x ∷ gone) es t = tidy_evicted o gone es t

tidy_ready : (o : Outcome) (ws : List Who) (es : List Entry) → Tidy es → Tidy (shows_ready o ws ++ es)
tidy_ready o [] es t = t
tidy_ready o (w ∷ ws) es t = tidy_ready o ws es t

joins_among : (o : Outcome) (ws : List Who) (x : Who) → In (Joins x) (shows_joined o ws) → In x ws
joins_among o ws x i = joined_in_lines (λ (e : Entry). (y : Who) → e ≡ Joins y → In y ws) o ws
    (λ w j y q. let same : w ≡ y = cc in subst (λ (v : Who). In v ws) same j) (λ to m y q. absurd (cc)) (Joins x) i x refl

none_evicted : (o : Outcome) (ws : List Who) (x : Who) (c : Cause) → In (Evict x c) (shows_joined o ws) → ⊥
none_evicted o ws x c i = joined_in_lines (λ (e : Entry). (y : Who) (k : Cause) → e ≡ Evict y k → ⊥) o ws (λ w j y k q. cc)
    (λ to m y k q. cc) (Evict x c) i x c refl

tidy_joined : (o : Outcome) (ws : List Who) → OneEach ws → Tidy (shows_joined o ws)
tidy_joined o [] r = tt
tidy_joined o (w ∷ ws) r = (
  λ x i e. ⊎_elim
      (λ (q : says_ready o w ≡ Joins x). absurd (cc))
      (λ (j : In (Joins x) (shows_joined o ws)). let lt = r.0 x (joins_among o ws x j) in omega (arith, lt, e))
      i,
  λ x c i. ⊎_elim
      (λ (q : says_ready o w ≡ Evict x c). absurd (cc))
      (λ (j : In (Evict x c) (shows_joined o ws)). none_evicted o ws x c j)
      i,
  tidy_joined o ws r.1,
)

tidy_shown : (o : Outcome) (lives : List Who) → OneEach o.joins → Tidy (shows o lives)
tidy_shown o lives r =
    let d = shows_ready o (staying o lives) in
    let f = shows_joined o o.joins in
    tidy_kept o.kept (restore_lines o.locks ++ (shows_evicted o o.gone ++ (d ++ f)))
    (tidy_restored o.locks (shows_evicted o o.gone ++ (d ++ f))
    (tidy_evicted o o.gone (d ++ f) (tidy_ready o (staying o lives) f (tidy_joined o o.joins r))))

tidy_left : (head : Head) (past : List Line) → GrownOf head past → Tidy (closing_of head.clients past)
tidy_left head [] g = tt
tidy_left head (l ∷ past) g = by l.at.node l.entry g.0 (tidy_left head past g.3)
  where
    by : (node : Node) (e : Entry) → EntryOf head past (turn l.at.stamp node) node e → Tidy (closing_of head.clients past)
        → Tidy (closing_of head.clients (line (turn l.at.stamp node) e ∷ past))
    by (Target u) (Close o) ok t =
        let h = holds_at head past g.3 in
        tidy_shown o (lives_of head.clients past) (subst OneEach (sym (closing head past (turn l.at.stamp (Target u)) o ok h).joins)
        h.recovers.wishes_rise)
    by (Client c) e ok t = t
    by (Target u) e ok t = tidy_rest (closing_of head.clients past) t

-- where a join comes, no eviction is left to show
no_evict : (head : Head) (past : List Line) (stamp : Stamp) (t : ℕ) (who : Who) → Allowed head past (turn stamp (Target t)) (Joins who)
    → Grown head past → (x : Who) → LeftEvict head (only t past) x → ⊥
no_evict head past stamp t who a g x left = by (closing_of head.clients (only t past)) refl left.1
  where
    by : (es : List Entry) → closing_of head.clients (only t past) ≡ es → In (Evict x left.0) es → ⊥
    by [] q i = i
    by (y ∷ es) q i =
        let next = (a.shows t (self t) y es q).0 in
        let tidy = subst Tidy (ap (λ (v : Entry). v ∷ es) (sym next)) (subst Tidy q (tidy_left head (only t past) (grown_of head t past g)))
        in
        ⊎_elim (λ (e : y ≡ Evict x left.0). absurd (let r : Joins who ≡ Evict x left.0 = next ∙ e in cc))
        (λ (j : In (Evict x left.0) es). tidy.1 x left.0 j) i

-- ---- who is still to join by a close is newer than the last life that joined

newer_close : (head : Head) (past : List Line) (t : ℕ) (at : At) (o : Outcome) → Grown head past → CloseOk head (only t past) at o
    → (w : Who) → In w o.joins → last_life t w.client (printed past) < w.life
newer_close head past t at o g ok w i =
    let P = only t past in
    let h = (holds head past g).at t in
    let wish = h.recovers.wishes ok.recovers w (subst (λ (ws : List Who). In w ws) (closing head P at o ok h).joins i) in
    let old = wish.0 in
    let lower = wish.3 in
    let before = last t w.client past in
    let small = (h.lives.knows old wish.1).0 in
    ⊎_elim
    (λ (slot : is_life before (lives_of head.clients P) ≡ true).
    let same : old ≡ before = h.lives.one old before wish.1 slot wish.2 in
    subst (λ (n : ℕ). n < w.life) (ap (λ (v : Who). v.life) same) lower)
    (λ (gone : Evicted P before). let less : before.life < old.life = h.lives.apart old before wish.1 gone wish.2
    in omega (arith, less, lower))
    (last_had head t w.client past g (subst (λ (v : ℕ). v < head.clients) wish.2 small))

joins_shown : (o : Outcome) (lives : List Who) (w : Who) → In (Joins w) (shows o lives) → In w o.joins
joins_shown o lives w (inl q) = absurd (cc)
joins_shown o lives w (inr i) =
    shown_parts o lives (λ (e : Entry). (x : Who) → e ≡ Joins x → In x o.joins)
    (record {
      kept = kept_in_lines (λ (e : Entry). (x : Who) → e ≡ Joins x → In x o.joins) o.kept (λ d j x q. absurd (cc));
      restored = restore_in_lines (λ (e : Entry). (x : Who) → e ≡ Joins x → In x o.joins) o.locks (λ l j x q. absurd (cc));
      evicted = evicted_in_lines (λ (e : Entry). (x : Who) → e ≡ Joins x → In x o.joins) o o.gone (λ v c x q. absurd (cc))
          (λ to m x q. absurd (cc));
      ready = ready_in_lines (λ (e : Entry). (x : Who) → e ≡ Joins x → In x o.joins) o (staying o lives) (λ to m x q. absurd (cc));
      joined = joined_in_lines (λ (e : Entry). (x : Who) → e ≡ Joins x → In x o.joins) o o.joins
          (λ v j x q. let same : v ≡ x = cc in subst (λ (y : Who). In y o.joins) same j) (λ to m x q. absurd (cc));
    })
    (Joins w) i w refl

newer_left : (head : Head) (t : ℕ) (past : List Line) → Grown head past → (w : Who) → In (Joins w) (closing_of head.clients (only t past))
    → last_life t w.client (printed past) < w.life
newer_left head t [] g w i = absurd i
newer_left head t (l ∷ past) g w i = by (concerns t l.at.node l.entry) refl i (newer_left head t past g.1 w)
  where
    P : List Line
    P = only t past

    C : List Entry
    C = closing_of head.clients P

    Newer : List Line → Type 0
    Newer p = last_life t w.client (printed p) < w.life

    later : (es : List Entry) → In (Joins w) (but_first es) → In (Joins w) es
    later [] j = j
    later (x ∷ es) j = inr j

    -- another client's life joins
    passed : (u : ℕ) (x : Who) (a b : Bool) → nat_eq x.client w.client ≡ b → b ≡ false → nat_eq u t ≡ a → Newer past
        → unwrap_or (or_else (if a && b then Some x.life else None) (newest (joins_as t w.client) (printed past))) 1 < w.life
    passed u x true false e f q h = h
    passed u x false b e f q h = h
    passed u x a true e f q h = absurd (cc)

    apart : (x : Who) (es : List Entry) → C ≡ es → ((next : Entry) (more : List Entry) → C ≡ next ∷ more → Joins x ≡ next)
        → In (Joins w) (but_first es) → nat_eq x.client w.client ≡ false
    apart x [] q next j = absurd j
    apart x (y ∷ es) q next j =
        let tidy = subst Tidy (ap (λ (v : Entry). v ∷ es) (sym (next y es q))) (subst Tidy q (tidy_left head P (grown_of head t past g.1)))
        in
        no (nat_eq x.client w.client) refl (tidy.0 w j)
      where
        no : (b : Bool) → nat_eq x.client w.client ≡ b → (x.client ≡ w.client → ⊥) → b ≡ false
        no false e n = refl
        no true e n = absurd (n (eqb-true x.client w.client e))

    on : (node : Node) (x : Entry) → EntryOf head P (turn l.at.stamp node) node x
        → ((next : Entry) (more : List Entry) → C ≡ next ∷ more → x ≡ next)
        → In (Joins w) (closing_of head.clients (line (turn l.at.stamp node) x ∷ P)) → (In (Joins w) C → Newer past)
        → Newer (line (turn l.at.stamp node) x ∷ past)
    on (Target u) (Close o) ok next j h = newer_close head past t (turn l.at.stamp (Target u)) o g.1 ok w
        (joins_shown o (lives_of head.clients P) w j)
    on (Target u) (Joins x) ok next j h = passed u x (nat_eq u t) (nat_eq x.client w.client) refl (apart x C refl next j) refl
        (h (later C j))
    on (Client c) (Joins x) ok next j h = absurd ok
    on (Client c) x ok next j h = h j
    on (Target u) x ok next j h = h (later C j)

    off : (node : Node) (x : Entry) → concerns t node x ≡ false → Newer past → Newer (line (turn l.at.stamp node) x ∷ past)
    off (Target u) (Joins x) q h = away u x (nat_eq u t) (flip u t ∙ q) h
      where
        away : (u : ℕ) (x : Who) (a : Bool) → a ≡ false → Newer past
            → unwrap_or (or_else (if a && nat_eq x.client w.client then Some x.life else None)
            (newest (joins_as t w.client) (printed past))) 1 < w.life
        away u x false e h = h
        away u x true e h = absurd (cc)
    off (Client c) (Joins x) q h = h
    off (Client c) x q h = h
    off (Target u) x q h = h

    by : (b : Bool) → concerns t l.at.node l.entry ≡ b → In (Joins w) (closing_of head.clients (if b then l ∷ P else P))
        → (In (Joins w) C → Newer past) → Newer (l ∷ past)
    by true q j h = on l.at.node l.entry (g.0.of t q) (λ next more e. (g.0.shows t q next more e).0) j h
    by false q j h = off l.at.node l.entry q (h j)

-- ---- the condition

module _ (head : Head) (past : List Line) (stamp : Stamp) (t : ℕ) (who : Who) (a : Allowed head past (turn stamp (Target t)) (Joins who))
    (g : Grown head past) where
  abbrev at : At
  at = turn stamp (Target t)

  abbrev P : List Line
  P = only t past

  abbrev before : Who
  before = last t who.client past

  -- that one's eviction was shown
  free_of : Evicted P before → is_evicted t (printed past) before ≡ true
  free_of gone = ⊎_elim (λ (e : is_evicted t (printed past) before ≡ true). e)
      (λ (left : LeftEvict head P before). absurd (no_evict head past stamp t who a g before left)) (evicted_law head t past g before gone)

  joins_now : JoinedOk head P at t who → JoinedAt (printed past) at t who
  joins_now ok = record {
    asked = asked (has_closed (printed past) at) refl;
    newer =
        older_than who (evicted_of P) ok.newer before gone refl;
    free = free_of gone;
  }
    where
      h : HoldsAt head P
      h = (holds head past g).at t

      took : Took past at (Client ok.from) (message.Join who ok.boot)
      took = took_whole t past at (Client ok.from) (message.Join who ok.boot) ok.took

      known : ok.boot ≡ boot t (printed past)
      known =
          let high = (h.boots (Client ok.from) (Target t) (message.Join who ok.boot) ok.was).1 in
          let low = ok.current in
          let is = boot_of head t past g in
          omega (arith, low, high, is)

      joins : is_join (boot t (printed past)) who (message.Join who ok.boot) ≡ true
      joins = subst (λ (v : ℕ). (nat_eq ok.boot v && same_life who who) ≡ true) known (rw (self ok.boot, life_self who) refl)

      asked : (b : Bool) → has_closed (printed past) at ≡ b → list_any (is_join (boot t (printed past)) who) (counted (printed past) at t)
          ≡ true
      asked true e =
          subst (λ (ms : List Message). list_any (is_join (boot t (printed past)) who) ms ≡ true)
          (sym (cond-true (has_closed (printed past) at) (since_boot t (printed past))
          (map {A = Sending} {B = Message} (λ s. s.message) (taken (printed past) at)) e ∙ since_is head t past g))
          (any_passes (is_join (boot t (printed past)) who) (message.Join who ok.boot) (taken_of P)
          (took_since head t past at (Client ok.from) (message.Join who ok.boot) g a.steps refl took) joins)
      asked false e =
          subst (λ (ms : List Message). list_any (is_join (boot t (printed past)) who) ms ≡ true)
          (sym (cond-false (has_closed (printed past) at) (since_boot t (printed past))
          (map {A = Sending} {B = Message} (λ s. s.message) (taken (printed past) at)) e))
          (any_of (is_join (boot t (printed past)) who) (taken (printed past) at)
          (took_any head past at (Client ok.from) (message.Join who ok.boot)
          (λ (s : Sending). is_join (boot t (printed past)) who s.message) g took joins))

      gone : Evicted P before
      gone = ⊎_elim
          (λ (i : is_life before (lives_of head.clients P) ≡ true). absurd
          (none_is who.client (lives_of head.clients P) ok.none before (stands_life before (lives_of head.clients P) i) refl))
          (λ (e : Evicted P before). e)
          (last_had head t who.client past g (h.lives.joins (Client ok.from) (Target t) who ok.boot ok.was))

  -- one that a close gave a slot
  joins_by_close : ComesOk head P at t who → JoinedAt (printed past) at t who
  joins_by_close ok =
      let h = (holds head past g).at t in
      let handed = due_handed head past stamp t (Joins who) g ok.due in
      let newer = newer_left head t past g who (subst (λ (es : List Entry). In (Joins who) es) (sym ok.due.1) (inl refl)) in
      let gone : Evicted P before = ⊎_elim
      (λ (i : is_life before (lives_of head.clients P) ≡ true). let same : before ≡ who = h.lives.one before who i ok.has refl in let q =
      ap (λ (v : Who). v.life) same in absurd (omega (arith, newer, q)))
      (λ (e : Evicted P before). e)
      (last_had head t who.client past g (h.lives.knows who ok.has).0)
      in
      record {
        asked = subst (λ (ms : List Message). list_any (is_join (boot t (printed past)) who) ms ≡ true)
            (sym (cond-true (has_closed (printed past) at) (since_boot t (printed past))
            (map {A = Sending} {B = Message} (λ s. s.message) (taken (printed past) at)) handed.0)) handed.1;
        newer = newer;
        free = free_of gone;
      }

joined_at : (head : Head) (past : List Line) (l : Line) (later : List PrintedLine) → Allowed head past l.at l.entry → Grown head past
    → Keeps Joined past l later
joined_at head past l later a g = by l.at.node l.entry a
  where
    by : (node : Node) (e : Entry) → Allowed head past (turn l.at.stamp node) e → Says Joined past (turn l.at.stamp node) later e
    by (Client c) (Joins who) k = absurd k.ok
    by (Target t) (Joins who) k = ⊎_elim (joins_now head past l.at.stamp t who k g) (joins_by_close head past l.at.stamp t who k g)
        (k.of t (self t))
    by _ _ k = tt

pub joined : (head : Head) (past : List Line) → Grown head past → Holds Joined (printed past)
joined head past g = holds_before head Joined Nothing (λ l past k. k) (λ past l later a g k. joined_at head past l later a g) past [] g tt
