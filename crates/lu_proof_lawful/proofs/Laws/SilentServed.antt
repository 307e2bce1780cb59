-- A call that repeats one whose answer is known begins while no held lock is marked that isn't pinned. What a life knows goes with the news
-- of a boot in which
-- a target doesn't serve it yet, and no call is calm that begins before it does; and of a target that a life joins it holds nothing.
use Rattle.std.proofs.Common.{◌≡◌, ℕ, ◌+◌, Bool, true, false, List, [], ◌∷◌, ◌++◌, Option, Some, inl, inr, refl, sym, subst, ap, ◌∙◌, arith}
use Rattle.std.specs.Prelude.{nat_eq, not, ◌==◌, ◌&&◌, ◌||◌, if◌then◌else◌, length, filter}
use Rattle.std.specs.Option.{option_map}
use Rattle.std.proofs.lemmas.Bool.{cond_both, cond-true, and_parts, eqb-true, or_parts}
use Rattle.std.proofs.lemmas.Bool.Decides.{nat_tests}
use Rattle.lu_base.specs.declared.ids.At.{At}
use Rattle.lu_base.specs.declared.ids.Node.{Node}
use Rattle.lu_base.specs.declared.ids.Node.TheVariants.{Client, Target}
use Rattle.lu_base.specs.declared.ids.Stamp.{Stamp}
use Rattle.lu_base.specs.declared.ids.Who.{Who}
use Rattle.lu_base.specs.declared.locks.Mode.TheVariants.{PW}
use Rattle.lu_msg.specs.declared.answers.Answer.{Answer}
use Rattle.lu_msg.specs.declared.calls.Call.{Call}
use Rattle.lu_msg.specs.declared.messages.Message.{Message}
use Rattle.lu_msg.specs.declared.messages.Message.TheVariants as message
use Rattle.lu_held.specs.declared.locks.HeldLock.{HeldLock}
use Rattle.lu_held.specs.Locks.{named}
use Rattle.lu_spec_entries.specs.Words.{Entry, Begin, Take, Drop, Told, Life, Knows, Serves, Line, line, same_life}
use Rattle.lu_spec_entries.specs.Concerns.{only}
use Rattle.lu_spec_entries.specs.Printed.{printed}
use Rattle.lu_spec_client.specs.Caches.{held_at}
use Rattle.lu_proof_lawful.specs.Covered.ClientStates.{known_of}
use Rattle.lu_proof_lawful.specs.Covered.Calls.{life_at}
use Rattle.lu_proof_lawful.specs.Covered.Heads.{Head}
use Rattle.lu_proof_lawful.specs.Covered.Imports.{Standing, Joining, Recovering, Serving, interrupted, standing_at, known_at}
use Rattle.lu_spec_laws.specs.Words.Pasts.{Past}
use Rattle.lu_spec_laws.specs.Words.Sends.{Sending, sending, message_of}
use Rattle.lu_spec_laws.specs.Words.Lives.{life, who_is, is_by}
use Rattle.lu_spec_laws.specs.Words.Repeats.{disturbs, unready_with, unready_after, unready, is_ready, begun_calm, calm, told_calm, known}
use Rattle.lu_spec_laws.specs.Words.Repeats.{is_error}
use Rattle.lu_proof_lawful.proofs.Preconditions.Guards.{In, Was, TookNow, is_ready_for, is_welcome}
use Rattle.lu_proof_lawful.proofs.Preconditions.Grown.{Allowed, Grown}
use Rattle.lu_proof_lawful.proofs.Preconditions.Held.{held_in}
use Rattle.lu_proof_lawful.proofs.Preconditions.Lists.{self, in_filtered, life_self}
use Rattle.lu_spec_laws.proofs.Tests.{clash}
use Rattle.lu_proof_lawful.proofs.Preconditions.Only.{told_by_target, grown_of}
use Rattle.lu_proof_lawful.proofs.Preconditions.Parts.{standing_is, known_is, life_is_of}
use Rattle.lu_proof_lawful.proofs.Invariants.Groups.{turn}
use Rattle.lu_proof_lawful.proofs.Invariants.All.{holds_at}
use Rattle.lu_proof_lawful.proofs.Invariants.RecoversTold.{joins_holds}
use Rattle.lu_proof_lawful.proofs.Laws.Printed.{flip, sending_is}
use Rattle.lu_proof_lawful.proofs.Laws.SilentReady.{ready_own}
use Rattle.lu_proof_lawful.proofs.Laws.SilentWorlds.{NoWrites}

-- ---- a life that recovers knows nothing, and no call of it is calm: it was told a boot in which a target doesn't serve it yet

not_ready : (up : ℕ × ℕ) (ups : List (ℕ × ℕ)) → In up ups → (length ups == 0) ≡ false
not_ready up [] i = absurd i
not_ready up (x ∷ ups) i = grind (arith, nat_tests)

abbrev Stopped : Who → Past → (of boot : ℕ) → Type 0
Stopped who past of boot = record { knows : known who past ≡ []; calms : calm who past ≡ []; up : In (of, boot) (unready who past) }

module _ {A : Type 0} where
  filtered : (b : Bool) (test : A → Bool) (old : List A) → old ≡ [] → (if b then filter test old else old) ≡ []
  filtered true test old e = ap (filter test) e
  filtered false test old e = e

  cleared : (b : Bool) (old : List A) → old ≡ [] → (if b then [] else old) ≡ []
  cleared true old e = refl
  cleared false old e = e

begun_none : (b : Bool) (slot : ℕ) (new : Call) (ready : Bool) (old : List (ℕ × Call)) → ready ≡ false → old ≡ []
    → (if b then begun_calm slot new ready old else old) ≡ []
begun_none true slot new true old e h = absurd (cc)
begun_none true slot new false old e h = ap (λ (v : List (ℕ × Call)). begun_calm slot new false v) h
begun_none false slot new ready old e h = h

told_none : (b : Bool) (slot : ℕ) (given : Answer) (standing : List (ℕ × Call)) (old : List Call) → standing ≡ [] → old ≡ []
    → (if b then told_calm slot given standing ++ old else old) ≡ []
told_none true slot given standing old e h = ap (λ (v : List (ℕ × Call)). told_calm slot given v ++ old) e ∙ by (is_error given)
  where
    by : (v : Bool) → (if v then [] else []) ++ old ≡ []
    by true = h
    by false = h
told_none false slot given standing old e h = h

-- it isn't what that target says once it serves in that boot
abbrev IsOther : (of b : ℕ) → Node → Message → Type 0
IsOther of b (Target t) (message.Ready who boot committed) = (of == t && b == boot) ≡ false
IsOther of b _ _ = Unit {0}

up_stays : (of b : ℕ) (from : Node) (m : Message) (old : List (ℕ × ℕ)) → IsOther of b from m → In (of, b) old
    → In (of, b) (unready_with from m old)
up_stays of b (Target t) (message.Up boot) old f i = inr i
up_stays of b (Target t) (message.Ready who boot committed) old f i =
    in_filtered (λ (x : ℕ × ℕ). not (x.0 == t && x.1 == boot)) (of, b) old i (ap not f)
up_stays of b _ _ old f i = i

module _ (head : Head) (c u : ℕ) where
  abbrev StoppedAt : List Line → Type 0
  StoppedAt past = Stopped (who_is c (printed past)) (printed past) u (known_at c u past)

  its_own : (past : List Line) → is_by (who_is c (printed past)) (printed past) (Client c) ≡ true
  its_own past = rw (self c, self (life c (printed past))) refl

  -- the newest line took the news
  just_told : (past : List Line) (at : At) (b : ℕ) → Grown head past → at.node ≡ Client c → TookNow past at (Target u) (message.Up b)
      → Stopped (who_is c (printed past)) (printed past) u b
  just_told [] at b g n took = absurd took
  just_told (l ∷ past) at b g n took = by l.entry g.0 took
    where
      P : Past
      P = printed past

      W : Who
      W = who_is c P

      by : (e : Entry) → Allowed head past l.at e → TookNow (line l.at e ∷ past) at (Target u) (message.Up b)
          → Stopped (who_is c (printed (line l.at e ∷ past))) (printed (line l.at e ∷ past)) u b
      by (Take k sender m) a took =
          let mine : is_by W P l.at.node ≡ true = ap (is_by W P) (ap (λ (v : At). v.node) took.0 ∙ n) ∙ its_own past in
          let sent : sending P k ≡ Some (record { from = Target u; to = l.at.node; message = message.Up b }) =
          sending_is past k sender l.at.node m a.ok.sent ∙ ap (λ (v : Node). coming v m) took.1
          ∙ ap (λ (v : Message). coming (Target u) v) took.2
          in
          let says : disturbs (message_of P k) ≡ true = ap (λ (o : Option Sending). disturbs (option_map (λ (s : Sending). s.message) o))
          sent in
          let test : (is_by W P l.at.node && disturbs (message_of P k)) ≡ true = rw (mine, says) refl in
          record {
            knows = cond-true (is_by W P l.at.node && disturbs (message_of P k)) [] (known W P) test;
            calms = cond-true (is_by W P l.at.node && disturbs (message_of P k)) [] (calm W P) test;
            up = subst (λ (ups : List (ℕ × ℕ)). In (u, b) ups)
                (sym (cond-true (is_by W P l.at.node) (unready_after (sending P k) (unready W P)) (unready W P) mine
                ∙ ap (λ (o : Option Sending). unready_after o (unready W P)) sent)) (inl refl);
          }
        where
          coming : Node → Message → Option Sending
          coming from m = Some (record { from = from; to = l.at.node; message = m })
      by _ a took = absurd took

  -- what the target says of the boot that the client knows is of its present life
  other_taken : (past : List Line) (stamp : Stamp) (n : ℕ) (from : Node) (m : Message)
      → Allowed head past (turn stamp (Client c)) (Take n from m) → Grown head past → standing_at c u past ≡ Recovering
      → is_ready_for c u past from m ≡ false → IsOther u (known_at c u past) from m
  other_taken past stamp n (Target t) (message.Ready who b committed) a g s w = of (u == t) (known_at c u past == b) refl refl
    where
      of : (x y : Bool) → (u == t) ≡ x → (known_at c u past == b) ≡ y → (x && y) ≡ false
      of true true p q =
          let first : t ≡ u = sym (eqb-true u t p) in
          let boot : known_at c u past ≡ b = eqb-true (known_at c u past) b q in
          let known : known_of c (only u past) ≡ b = sym (known_is c u past) ∙ boot in
          let was : Was (only u past) (Target u) (Client c) (message.Ready who b committed) =
          subst (λ (v : ℕ). Was (only v past) (Target v) (Client c) (message.Ready who b committed)) first
          (told_by_target past n t (Client c) (message.Ready who b committed) a.ok.sent) in
          let own : who ≡ life_at c past = ready_own head c (Target u) who b committed (only u past) (grown_of head u past g)
          (sym (standing_is c u past) ∙ s) (omega (arith, known)) was ∙ sym (life_is_of c u past) in
          let welcome : is_ready_for c u past (Target u) (message.Ready who b committed) ≡ true =
          subst (λ (v : Who). (u == u && same_life who v && b == known_at c u past) ≡ true) own
          (subst (λ (v : ℕ). (u == u && same_life who who && b == v) ≡ true) (sym boot) (rw (self u, life_self who, self b) refl)) in
          absurd (clash (is_ready_for c u past (Target u) (message.Ready who b committed)) welcome
          (subst (λ (v : ℕ). is_ready_for c u past (Target v) (message.Ready who b committed) ≡ false) first w))
      of true false p q = refl
      of false y p q = refl
  other_taken past stamp n (Target t) (message.Up b) a g s w = tt
  other_taken past stamp n from m a g s w = tt

  stopped : (past : List Line) → Grown head past → standing_at c u past ≡ Recovering → is_welcome c u past ≡ false → StoppedAt past
  stopped [] g s w = absurd (cc)
  stopped (l ∷ past) g s w = by l.at.node l.entry g.0 s w (stopped past g.1)
    where
      S : Standing
      S = standing_at c u past

      P : Past
      P = printed past

      W : Who
      W = who_is c P

      B : ℕ
      B = known_at c u past

      by : (node : Node) (e : Entry) → Allowed head past (turn l.at.stamp node) e → standing_at c u (line (turn l.at.stamp node) e ∷ past)
          ≡ Recovering
          → is_welcome c u (line (turn l.at.stamp node) e ∷ past) ≡ false → (S ≡ Recovering → is_welcome c u past ≡ false → StoppedAt past)
          → StoppedAt (line (turn l.at.stamp node) e ∷ past)
      by (Client d) (Knows t b) a s w ih = of (nat_eq c d && nat_eq u t) refl s
        where
          of : (v : Bool) → (nat_eq c d && nat_eq u t) ≡ v → (if v then interrupted S else S) ≡ Recovering
              → Stopped W P u (if v then b else B)
          of true q r =
              let p = and_parts (nat_eq c d) (nat_eq u t) q in
              just_told past (turn l.at.stamp (Client d)) b g.1 (ap Client (sym (eqb-true c d p.0)))
              (subst (λ (v : ℕ). TookNow past (turn l.at.stamp (Client d)) (Target v) (message.Up b)) (sym (eqb-true u t p.1)) a.ok)
          of false q r = ih r w
      by (Client d) (Serves t b) a s w ih = of (nat_eq c d) (nat_eq u t) (nat_eq t u) (flip u t) s w
        where
          of : (x y z : Bool) → y ≡ z → (if x && y then Serving else S) ≡ Recovering → (if x && z then false else is_welcome c u past)
              ≡ false → StoppedAt past
          of true true z e r v = absurd (cc)
          of true false false e r v = ih r v
          of true false true e r v = absurd (cc)
          of false y z e r v = ih r v
      by (Client d) (Life x) a s w ih = of (nat_eq c d) (nat_eq d c) (flip c d) s
        where
          of : (own v : Bool) → own ≡ v → (if own && true then Joining else S) ≡ Recovering
              → Stopped (record { client = c; life = if v then x.life else life c P }) P u B
          of true y e r = absurd (cc)
          of false false e r = ih r w
          of false true e r = absurd (cc)
      by (Client d) (Begin slot running) a s w ih =
          let h = ih s w in
          record {
            knows = filtered (is_by W P (Client d)) _ (known W P) h.knows;
            calms = begun_none (is_by W P (Client d)) slot running.call (is_ready W P) (calm W P) (not_ready (u, B) (unready W P) h.up)
                h.calms;
            up = h.up;
          }
      by (Client d) (Told slot named given work) a s w ih =
          let h = ih s w in
          record {
            knows = told_none (is_by W P (Client d)) slot given (calm W P) (known W P) h.calms h.knows;
            calms = filtered (is_by W P (Client d)) _ (calm W P) h.calms;
            up = h.up;
          }
      by (Client d) (Drop t x) a s w ih = let h = ih s w in record {
        knows = cleared (is_by W P (Client d)) (known W P) h.knows;
        calms = cleared (is_by W P (Client d)) (calm W P) h.calms;
        up =
            h.up;
      }
      by (Client d) (Take n from m) a s w ih =
          let h = ih s (unwelcome (nat_eq c d) w) in
          record {
            knows = cleared (is_by W P (Client d) && disturbs (message_of P n)) (known W P) h.knows;
            calms = cleared (is_by W P (Client d) && disturbs (message_of P n)) (calm W P) h.calms;
            up = cond_both (is_by W P (Client d)) (unready_after (sending P n) (unready W P)) (unready W P)
                (λ (ups : List (ℕ × ℕ)). In (u, B) ups)
                (λ q. subst (λ (o : Option Sending). In (u, B) (unready_after o (unready W P)))
                (sym (sending_is past n from (Client d) m a.ok.sent))
                (up_stays u B from m (unready W P) (mine (eqb-true d c (and_parts (nat_eq d c) _ q).0)) h.up))
                (λ q. h.up);
          }
        where
          unwelcome : (b : Bool) → (if b then is_ready_for c u past from m || is_welcome c u past else is_welcome c u past) ≡ false
              → is_welcome c u past ≡ false
          unwelcome true q = (or_parts (is_ready_for c u past from m) (is_welcome c u past) q).1
          unwelcome false q = q

          mine : d ≡ c → IsOther u B from m
          mine e =
              let here : nat_eq c d ≡ true = ap (nat_eq c) e ∙ self c in
              let none = subst (λ (b : Bool). (if b then is_ready_for c u past from m || is_welcome c u past else is_welcome c u past)
              ≡ false) here w in
              other_taken past l.at.stamp n from m (subst (λ (v : ℕ). Allowed head past (turn l.at.stamp (Client v)) (Take n from m)) e a)
              g.1 s (or_parts (is_ready_for c u past from m) (is_welcome c u past) none).0
      by (Target o) (Knows t b) a s w ih = absurd a.ok
      by (Target o) (Serves t b) a s w ih = absurd a.ok
      by (Target o) (Life w) a s v ih = absurd a.ok
      by (Target o) (Begin slot running) a s w ih = absurd a.ok
      by (Target o) (Told slot named given work) a s w ih = absurd a.ok
      by (Target o) (Drop t x) a s w ih = absurd a.ok
      by (Target o) (Take n from m) a s w ih = ih s w
      by _ _ a s w ih = ih s w

-- ---- so where an answer is known, no held lock is marked as a call begins that isn't pinned

pub repeats_unmarked : (head : Head) (c : ℕ) (past : List Line) → Grown head past → NoWrites c past → (k : Call)
    → In k (known (who_is c (printed past)) (printed past))
    → ((h : HeldLock) → In h (held_at c past) → standing_at c h.target.0 past ≡ Serving → h.pins ≡ 0 → (h.lock.ask.mode ≡ PW → ⊥) → h.marked
    ≡ false)
    → ((t : ℕ) → is_welcome c t past ≡ false) → (h : HeldLock) → In h (held_at c past) → h.pins ≡ 0 → h.marked ≡ false
repeats_unmarked head c past g reads k i calm ready h j free = by (standing_at c h.target.0 past) refl
  where
    t : ℕ
    t = h.target.0

    there : In h (held_at c (only t past))
    there = held_in c past h j

    by : (s : Standing) → standing_at c t past ≡ s → h.marked ≡ false
    by Serving e = calm h j e free (reads h j)
    by Joining e = absurd (subst (λ (v : List HeldLock). In h v)
        (joins_holds head (only t past) (holds_at head (only t past) (grown_of head t past g)) c (sym (standing_is c t past) ∙ e)) there)
    by Recovering e = absurd (subst (λ (v : List Call). In k v) (stopped head c t past g e (ready t)).knows i)
