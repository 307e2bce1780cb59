-- What every run keeps of crashes and boots, and that what only a serving target does stands where it serves.
use Rattle.std.proofs.Common.{◌≡◌, ℕ, ◌+◌, ◌<◌, Bool, true, false, List, [], ◌∷◌, Option, Some, None, inl, inr, ⊎_elim, refl, sym, subst}
use Rattle.std.proofs.Common.{ap, ◌∙◌, arith}
use Rattle.std.specs.Prelude.{nat_eq, if◌then◌else◌, unwrap_or}
use Rattle.std.proofs.lemmas.Bool.{eq-eqb}
use Rattle.std.proofs.lemmas.Bool.Decides.{nat_tests}
use Rattle.lu_base.specs.declared.ids.At.{At}
use Rattle.lu_base.specs.declared.ids.Node.{Node}
use Rattle.lu_base.specs.declared.ids.Node.TheVariants.{Client, Target}
use Rattle.lu_trace.specs.declared.entries.Line.{Line as PrintedLine}
use Rattle.lu_spec_entries.specs.Carried.{Deed, Outcome}
use Rattle.lu_spec_entries.specs.Words.{Entry, Act, Txn as Made, Grant, Wait, Answers as Responds, Block, Release, Crash, Boot, Close, Line}
use Rattle.lu_spec_entries.specs.Words.{line}
use Rattle.lu_spec_entries.specs.Concerns.{concerns, only}
use Rattle.lu_spec_entries.specs.Sent.{count_sent}
use Rattle.lu_spec_entries.specs.Printed.{printed_entry, printed}
use Rattle.lu_proof_lawful.specs.Covered.Heads.{Head}
use Rattle.lu_proof_lawful.specs.Covered.TargetStates.{server_of, closed_of, up_of}
use Rattle.lu_spec_laws.specs.Holds.{Holds}
use Rattle.lu_spec_laws.specs.Words.Pasts.{Past, or_else, newest}
use Rattle.lu_spec_laws.specs.Order.Phases.{Phase, IsDown, Recovers, Serves, turns_to, phase, is_serving, is_down, serves}
use Rattle.lu_spec_laws.specs.Order.Serving.{Serving}
use Rattle.lu_spec_laws.specs.Order.Boots.{Boots}
use Rattle.lu_proof_lawful.proofs.Preconditions.Guards.{Did, EntryOk}
use Rattle.lu_proof_lawful.proofs.Preconditions.StoryGuards.{IsServing, TxnsOk, GrantOk, RangeOk, BlockOk, WayOk, CloseOk, EntryOf}
use Rattle.lu_proof_lawful.proofs.Preconditions.Acts.{acted, responded, responds_acted}
use Rattle.lu_proof_lawful.proofs.Preconditions.Grown.{Allowed, Grown, GrownOf}
use Rattle.lu_proof_lawful.proofs.Preconditions.Lists.{self}
use Rattle.lu_proof_lawful.proofs.Preconditions.Only.{grown_of}
use Rattle.lu_proof_lawful.proofs.Preconditions.ClientLines.{some_is}
use Rattle.lu_proof_lawful.proofs.Invariants.Groups.{turn}
use Rattle.lu_proof_lawful.proofs.Invariants.All.{holds}
use Rattle.lu_proof_lawful.proofs.Laws.Deeds.{act_for}
use Rattle.lu_proof_lawful.proofs.Laws.Printed.{flip}
use Rattle.lu_proof_lawful.proofs.Laws.Taking.{boot_of, either_way}
use Rattle.lu_proof_lawful.proofs.Laws.Lines.{OfPrinted, Keeps, holds_before, Nothing}

-- what a condition says of what is printed of an entry
abbrev pub Says : (Past → PrintedLine → List PrintedLine → Type 0) → List Line → At → List PrintedLine → Entry → Type 0
Says law past at later e = OfPrinted (λ p. law (printed past) (record { at = at; entry = p }) later) (printed_entry (count_sent past + 1) e)

-- ---- whether a target is down, recovers or serves

abbrev stands_as : (up serves : Bool) → Phase
stands_as false serves = IsDown
stands_as true true = Serves
stands_as true false = Recovers

abbrev stands : ℕ → List Line → Phase
stands osts past = stands_as (up_of past) (nat_eq (closed_of past) (server_of osts past).boot)

phase_is : (head : Head) (t : ℕ) (past : List Line) → Grown head past → phase t (printed past) ≡ stands head.osts (only t past)
phase_is head t [] g = refl
phase_is head t (l ∷ past) g = by l.at.node l.entry g.0.ok g.0.of (phase_is head t past g.1)
  where
    P : List Line
    P = only t past

    now : List Line → Phase
    now p = stands head.osts p

    own : (u : ℕ) (x : Entry) (f : Phase) (a b : Bool) (o : Option Phase) → a ≡ b
        → (b ≡ true → now (line (turn l.at.stamp (Target u)) x ∷ P) ≡ f) → unwrap_or o Serves ≡ now P
        → unwrap_or (or_else (if a then Some f else None) o) Serves ≡ now (if b then line (turn l.at.stamp (Target u)) x ∷ P else P)
    own u x f true true o q is h = sym (is refl)
    own u x f false false o q is h = h
    own u x f true false o q is h = absurd (cc)
    own u x f false true o q is h = absurd (cc)

    -- a boot after the first one isn't served
    recovers : (b : ℕ) → b ≡ (server_of head.osts P).boot + 1 → stands_as true (nat_eq (closed_of P) b) ≡ Recovers
    recovers b e =
        let p = ((holds head past g.1).at t).phase in
        let under = p.under in
        let other : nat_eq (closed_of P) b ≡ false = grind (arith, nat_tests, under, e) in
        ap (stands_as true) other

    -- a close serves the present boot
    closes : (u : ℕ) (o : Outcome) → CloseOk head P (turn l.at.stamp (Target u)) o
        → stands_as (up_of P) (nat_eq o.boot (server_of head.osts P).boot) ≡ Serves
    closes u o ok =
        ap (λ (b : Bool). stands_as b (nat_eq o.boot (server_of head.osts P).boot)) ok.up
        ∙ ap (stands_as true) (eq-eqb o.boot (server_of head.osts P).boot (ap (λ (v : Outcome). v.boot) ok.is))

    by : (node : Node) (e : Entry) → EntryOk past (turn l.at.stamp node) node e
        → ((u : ℕ) → concerns u node e ≡ true → EntryOf head (only u past) (turn l.at.stamp node) node e) → phase t (printed past) ≡ now P
        → phase t (printed (line (turn l.at.stamp node) e ∷ past)) ≡ now (only t (line (turn l.at.stamp node) e ∷ past))
    by (Target u) Crash ok of h = own u Crash IsDown (nat_eq u t) (nat_eq t u) (newest (turns_to t) (printed past)) (flip u t) (λ b. refl) h
    by (Target u) (Boot b disk) ok of h = own u (Boot b disk) Recovers (nat_eq u t) (nat_eq t u) (newest (turns_to t) (printed past))
        (flip u t) (λ q. recovers b (of t q).next) h
    by (Target u) (Close o) ok of h = own u (Close o) Serves (nat_eq u t) (nat_eq t u) (newest (turns_to t) (printed past)) (flip u t)
        (λ q. closes u o (of t q)) h
    by (Client c) Crash ok of h = absurd ok
    by (Client c) (Boot b disk) ok of h = absurd ok
    by (Client c) (Close outcome) ok of h = absurd ok
    by (Client c) e ok of h = h ∙ sym (either_way now (line (turn l.at.stamp (Client c)) e) P (concerns t (Client c) e) refl)
    by (Target u) e ok of h = h ∙ sym (either_way now (line (turn l.at.stamp (Target u)) e) P (concerns t (Target u) e) refl)

it_serves : (head : Head) (t : ℕ) (past : List Line) → Grown head past → IsServing head.osts (only t past)
    → serves (printed past) (Target t) ≡ true
it_serves head t past g s = ap is_serving (phase_is head t past g
    ∙ ap (λ (b : Bool). stands_as b (nat_eq (closed_of (only t past)) (server_of head.osts (only t past)).boot)) s.up
    ∙ ap (stands_as true) (eq-eqb (closed_of (only t past)) (server_of head.osts (only t past)).boot s.closed))

-- what makes a transaction serves
txns_serve : (osts : ℕ) (past : List Line) (at : At) (t : ℕ) (d : Deed) → TxnsOk osts past at t d → IsServing osts past
txns_serve osts past at t d (inl ok) = ok.1.serves
txns_serve osts past at t d (inr ok) = ok.1.serves

-- a lock is shown as the target acts
did_serves : (head : Head) (past : List Line) (d : Deed) → GrownOf head past → Did past d → IsServing head.osts past
did_serves head [] d g i = absurd i
did_serves head (l ∷ past) d g i = by l.at.node l.entry g.0 i (did_serves head past d g.3)
  where
    on : (node : Node) (e : Entry) → IsServing head.osts past → (closed_of (line (turn l.at.stamp node) e ∷ past) ≡ closed_of past)
        → (server_of head.osts (line (turn l.at.stamp node) e ∷ past)).boot ≡ (server_of head.osts past).boot
        → up_of (line (turn l.at.stamp node) e ∷ past) ≡ up_of past → IsServing head.osts (line (turn l.at.stamp node) e ∷ past)
    on node e s closed boot up = record { closed = closed ∙ s.closed ∙ sym boot; up = up ∙ s.up }

    by : (node : Node) (e : Entry) → EntryOf head past (turn l.at.stamp node) node e → Did (line (turn l.at.stamp node) e ∷ past) d
        → (Did past d → IsServing head.osts past) → IsServing head.osts (line (turn l.at.stamp node) e ∷ past)
    by (Target t) (Act x) ok i h = on (Target t) (Act x) (acted head.osts past (turn l.at.stamp (Target t)) t x ok).serves refl refl refl
    by (Target t) (Made x) ok i h = on (Target t) (Made x) (txns_serve head.osts past (turn l.at.stamp (Target t)) t x ok) refl refl refl
    by (Target t) (Wait lock x) ok i h = on (Target t) (Wait lock x) ok.1.serves refl refl refl
    by (Target t) (Responds x) ok i h = on (Target t) (Responds x)
        (responds_acted head.osts past (turn l.at.stamp (Target t)) t x
        (responded head.osts past (turn l.at.stamp (Target t)) t x ok.1)).serves refl refl refl
    by (Target t) (Grant lock None) ok i h = absurd (cc)
    by (Target t) (Grant lock (Some x)) (inl ok) i h = on (Target t) (Grant lock (Some x))
        (h (subst (λ (y : Deed). Did past y) (some_is x d i) ok.1.did)) refl refl refl
    by (Target t) (Grant lock (Some x)) (inr ok) i h = on (Target t) (Grant lock (Some x)) ok.1.serves refl refl refl
    by (Client c) (Act x) ok i h = absurd ok
    by (Client c) (Made x) ok i h = absurd ok
    by (Client c) (Wait lock x) ok i h = absurd ok
    by (Client c) (Responds x) ok i h = absurd ok
    by (Client c) (Grant lock asked) ok i h = absurd ok
    by _ _ ok i h = absurd i

serving_at : (head : Head) (past : List Line) (l : Line) (later : List PrintedLine) → Allowed head past l.at l.entry → Grown head past
    → Keeps Serving past l later
serving_at head past l later a g = by l.at.node l.entry a
  where
    by : (node : Node) (e : Entry) → Allowed head past (turn l.at.stamp node) e → Says Serving past (turn l.at.stamp node) later e
    by (Client c) (Act d) k = absurd k.ok
    by (Target t) (Act d) k = it_serves head t past g (act_for head past l.at.stamp t d k).serves
    by (Client c) (Made d) k = absurd k.ok
    by (Target t) (Made d) k = it_serves head t past g (txns_serve head.osts (only t past) (turn l.at.stamp (Target t)) t d
        (k.of t (self t)))
    by (Client c) (Grant lock asked) k = absurd k.ok
    by (Target t) (Grant lock None) k = it_serves head t past g (k.of t (self t)).1.serves
    by (Target t) (Grant lock (Some d)) k = it_serves head t past g (⊎_elim
        (λ (p : (t ≡ 0) × GrantOk head.osts (only t past) lock d). did_serves head (only t past) d (grown_of head t past g) p.1.did)
        (λ (p : (0 < t) × RangeOk head.osts (only t past) (turn l.at.stamp (Target t)) lock d). p.1.serves)
        (k.of t (self t)))
    by (Client c) (Wait lock asked) k = absurd k.ok
    by (Target t) (Wait lock asked) k = it_serves head t past g (k.of t (self t)).1.serves
    by (Client c) (Block called) k = absurd k.ok
    by (Target t) (Block called) k = it_serves head t past g (⊎_elim (λ (p : (t ≡ 0) × BlockOk head.osts (only t past) called). p.1.serves)
        (λ (p : (0 < t) × WayOk head.osts (only t past) called). p.1.serves) (k.of t (self t)))
    by (Client c) (Release lock) k = absurd k.ok
    by (Target t) (Release lock) k = it_serves head t past g (k.of t (self t)).0
    by _ _ k = tt

pub serving : (head : Head) (past : List Line) → Grown head past → Holds Serving (printed past)
serving head past g = holds_before head Serving Nothing (λ l past k. k) (λ past l later a g k. serving_at head past l later a g) past [] g
    tt

-- ---- crashes and boots

boots_at : (head : Head) (past : List Line) (l : Line) (later : List PrintedLine) → Allowed head past l.at l.entry → Grown head past
    → Keeps Boots past l later
boots_at head past l later a g = by l.at.node l.entry a
  where
    by : (node : Node) (e : Entry) → Allowed head past (turn l.at.stamp node) e → Says Boots past (turn l.at.stamp node) later e
    by (Client c) (Boot b disk) k = absurd k.ok
    by (Target t) (Boot b disk) k =
        let ok = k.of t (self t) in
        let is = boot_of head t past g in
        let next = ok.next in
        record {
          down = ap is_down (phase_is head t past g ∙ ap (λ (up : Bool). stands_as up
              (nat_eq (closed_of (only t past)) (server_of head.osts (only t past)).boot)) ok.down);
          next = omega (arith, is, next);
        }
    by (Client c) Crash k = absurd k.ok
    by (Target t) Crash k =
        ap is_down (phase_is head t past g ∙ ap (λ (up : Bool). stands_as up
        (nat_eq (closed_of (only t past)) (server_of head.osts (only t past)).boot)) (k.of t (self t)))
        ∙ up_now (nat_eq (closed_of (only t past)) (server_of head.osts (only t past)).boot)
      where
        up_now : (b : Bool) → is_down (stands_as true b) ≡ false
        up_now true = refl
        up_now false = refl
    by _ _ k = tt

pub boots : (head : Head) (past : List Line) → Grown head past → Holds Boots (printed past)
boots head past g = holds_before head Boots Nothing (λ l past k. k) (λ past l later a g k. boots_at head past l later a g) past [] g tt
