-- The sizes that a glimpse may tell, as a past goes on: what an object measured at a moment since the call began it measured then, whatever
-- comes;
-- and between two moments of a turn nothing changes any.
use Rattle.std.proofs.Common.{◌≡◌, ℕ, ◌+◌, Bool, true, false, List, [], ◌∷◌, map, Option, Some, None, ◌⊎◌, inl, inr, ⊎_elim, refl, sym}
use Rattle.std.proofs.Common.{subst, ap, ◌∙◌}
use Rattle.std.specs.Prelude.{nat_eq, not, ◌==◌, ◌&&◌, ◌||◌, if◌then◌else◌}
use Rattle.std.specs.List.{list_any}
use Rattle.std.proofs.lemmas.Bool.{eqb-true}
use Rattle.lu_base.specs.declared.ids.At.{At}
use Rattle.lu_base.specs.declared.ids.Fid.{Fid}
use Rattle.lu_base.specs.declared.ids.Node.{Node}
use Rattle.lu_base.specs.declared.ids.Node.TheVariants.{Client, Target}
use Rattle.lu_trace.specs.declared.entries.Entry.{Entry as PrintedEntry}
use Rattle.lu_trace.specs.declared.entries.Entry.TheVariants as trace
use Rattle.lu_trace.specs.declared.entries.Line.{Line as PrintedLine}
use Rattle.lu_spec_machine.specs.Machine.{Machine}
use Rattle.lu_spec_entries.specs.Carried.{Running}
use Rattle.lu_spec_entries.specs.Words.{Entry, Begin, Told, Txn, Evict, Close, Fail, Line, line, turn_before}
use Rattle.lu_spec_entries.specs.Sent.{count_sent}
use Rattle.lu_spec_entries.specs.Printed.{printed_entry, printed}
use Rattle.lu_proof_lawful.specs.Covered.Calls.{call_at}
use Rattle.lu_proof_lawful.specs.Covered.Heads.{Head}
use Rattle.lu_spec_laws.specs.Words.Pasts.{Past, is_client, same_turn}
use Rattle.lu_spec_laws.specs.Words.Glimpses.{begins, is_moment, goes_on, with_cut, cuts, machine_cut, has_size, with_size, peeked}
use Rattle.lu_proof_lawful.proofs.Preconditions.Guards.{Later, Steps, EntryOk}
use Rattle.lu_proof_lawful.proofs.Preconditions.Grown.{Allowed, Grown}
use Rattle.lu_proof_lawful.proofs.Preconditions.Lists.{self, turn_irreflexive}
use Rattle.lu_proof_lawful.proofs.Preconditions.Calls.{JustBegan, Came, call_cases}
use Rattle.lu_proof_lawful.proofs.Invariants.Groups.{turn, Upto}
use Rattle.lu_proof_lawful.proofs.Laws.Turns.{same_turn_is, steps_trans, later_before}
use Rattle.lu_proof_lawful.proofs.Laws.Printed.{flip, flip_client}

-- ---- an object's size now, and since a call began

-- by the plain machine over this past
abbrev pub SizeNow : ℕ → List Line → (f : Fid) → (i n : ℕ) → Type 0
SizeNow osts past f i n = has_size (Some f) i n (machine_cut osts (printed past)) ≡ true

-- over one of these cuts, or as a life said that was gone
abbrev pub SizeOver : ℕ → Past → (c slot : ℕ) → (f : Fid) → (i n : ℕ) → At → Type 0
SizeOver osts past c slot f i n next = (list_any (has_size (Some f) i n) (map (machine_cut osts) (cuts c slot next past))
    || list_any (nat_eq n) (peeked c slot (Some f) i past)) ≡ true

-- whatever line comes next
abbrev pub Known : ℕ → List Line → (c slot : ℕ) → (f : Fid) → (i n : ℕ) → Type 0
Known osts past c slot f i n = (next : At) → Steps past next → SizeOver osts (printed past) c slot f i n next

-- ---- what is printed of a line

-- it begins that call
abbrev shown_begins : (c slot : ℕ) → At → Option PrintedEntry → Bool
shown_begins c slot at o = elim o [ None ↦ false | Some e ↦ begins c slot (record { at = at; entry = e }) ]

begins_none : (past : List Line) (stamp : _) (node : Node) (e : Entry) (c slot number : ℕ) (r : Running)
    → EntryOk past (turn stamp node) node e → call_at c slot past ≡ Some r → shown_begins c slot (turn stamp node) (printed_entry number e)
    ≡ false
begins_none past stamp (Client d) (Begin s running) c slot number r ok is = by (is_client c (Client d)) refl (s == slot) refl
  where
    by : (a : Bool) → is_client c (Client d) ≡ a → (b : Bool) → (s == slot) ≡ b → (a && b) ≡ false
    by false p b q = refl
    by true p false q = refl
    by true p true q =
        let same : c ≡ d = eqb-true c d (flip c d ∙ p) in
        let none : call_at c slot past ≡ None = ap (λ (x : ℕ). call_at x slot past) same
        ∙ ap (λ (x : ℕ). call_at d x past) (sym (eqb-true s slot q)) ∙ ok.free in
        absurd (let both : None ≡ Some r = sym none ∙ is in cc)
begins_none past stamp (Target t) (Begin s running) c slot number r ok is = absurd ok
begins_none past stamp node e c slot number r ok is = refl

-- ---- what was known is known still

pub or_right : (a b : Bool) → b ≡ true → (a || b) ≡ true
or_right true b e = refl
or_right false b e = e

or_left : (a b : Bool) → a ≡ true → (a || b) ≡ true
or_left true b e = refl
or_left false b e = absurd (cc)

or_both : (a b : Bool) → (a || b) ≡ true → (a ≡ true) ⊎ (b ≡ true)
or_both true b e = inl refl
or_both false b e = inr e

-- with one more cut
more_cuts : (osts : ℕ) (f : Fid) (i n : ℕ) (b : Bool) (p : Past) (ps : List Past)
    → list_any (has_size (Some f) i n) (map (machine_cut osts) ps) ≡ true
    → list_any (has_size (Some f) i n) (map (machine_cut osts) (with_cut b p ps)) ≡ true
more_cuts osts f i n true p ps e = e
more_cuts osts f i n false p ps e = or_right (has_size (Some f) i n (machine_cut osts p))
    (list_any (has_size (Some f) i n) (map (machine_cut osts) ps)) e

-- with one more size of such a life
more_sizes : (n : ℕ) (b : Bool) (m : ℕ) (ns : List ℕ) → list_any (nat_eq n) ns ≡ true → list_any (nat_eq n) (with_size b m ns) ≡ true
more_sizes n true m ns e = or_right (nat_eq n m) (list_any (nat_eq n) ns) e
more_sizes n false m ns e = e

peeked_more : (c slot : ℕ) (f : Fid) (i n : ℕ) (at : At) (e : PrintedEntry) (p : Past) → begins c slot (record { at = at; entry = e })
    ≡ false → list_any (nat_eq n) (peeked c slot (Some f) i p) ≡ true
    → list_any (nat_eq n) (peeked c slot (Some f) i (record { at = at; entry = e } ∷ p)) ≡ true
peeked_more c slot f i n at (trace.Begin s call) p none is = subst
    (λ (b : Bool). list_any (nat_eq n) (if b then [] else peeked c slot (Some f) i p) ≡ true) (sym none) is
peeked_more c slot f i n at (trace.Peek t cookie size) p none is = more_sizes n _ size (peeked c slot (Some f) i p) is
peeked_more c slot f i n at e p none is = is

over_more : (osts c slot : ℕ) (f : Fid) (i n : ℕ) (at next : At) (e : PrintedEntry) (p : Past)
    → begins c slot (record { at = at; entry = e }) ≡ false → SizeOver osts p c slot f i n at
    → SizeOver osts (record { at = at; entry = e } ∷ p) c slot f i n next
over_more osts c slot f i n at next e p none is =
    let l : PrintedLine = record { at = at; entry = e } in
    let left = list_any (has_size (Some f) i n) (map (machine_cut osts) (cuts c slot next (l ∷ p))) in
    let right = list_any (nat_eq n) (peeked c slot (Some f) i (l ∷ p)) in
    ⊎_elim
    (λ (k : list_any (has_size (Some f) i n) (map (machine_cut osts) (cuts c slot at p)) ≡ true).
    or_left left right (more_cuts osts f i n (goes_on l next) (l ∷ p) (if begins c slot l then [] else cuts c slot at p)
    (subst (λ (b : Bool). list_any (has_size (Some f) i n) (map (machine_cut osts) (if b then [] else cuts c slot at p)) ≡ true) (sym none)
    k)))
    (λ (k : list_any (nat_eq n) (peeked c slot (Some f) i p) ≡ true). or_right left right (peeked_more c slot f i n at e p none k))
    (or_both (list_any (has_size (Some f) i n) (map (machine_cut osts) (cuts c slot at p)))
    (list_any (nat_eq n) (peeked c slot (Some f) i p)) is)

-- of a line in that turn or later
abbrev pub From : ℕ → List Line → At → (c slot : ℕ) → (f : Fid) → (i n : ℕ) → Type 0
From osts past at c slot f i n = (next : At) → Upto at next → SizeOver osts (printed past) c slot f i n next

pub from_known : (osts : ℕ) (past : List Line) (at : At) (c slot : ℕ) (f : Fid) (i n : ℕ) → Steps past at → Known osts past c slot f i n
    → From osts past at c slot f i n
from_known osts past at c slot f i n steps known next up = known next (steps_trans past at next steps up)

-- where the call stood before
pub from_more : (head : Head) (l : Line) (past : List Line) (c slot : ℕ) (r : Running) (f : Fid) (i n : ℕ) → Allowed head past l.at l.entry
    → call_at c slot past ≡ Some r → From head.osts past l.at c slot f i n → Known head.osts (l ∷ past) c slot f i n
from_more head l past c slot r f i n ok is known next steps =
    by (printed_entry (count_sent past + 1) l.entry) (begins_none past l.at.stamp l.at.node l.entry c slot (count_sent past + 1) r ok.ok is)
  where
    by : (o : Option PrintedEntry) → shown_begins c slot l.at o ≡ false
        → SizeOver head.osts (elim o [ None ↦ printed past | Some e ↦ record { at = l.at; entry = e } ∷ printed past ]) c slot f i n next
    by None none = known next steps
    by (Some e) none = over_more head.osts c slot f i n l.at next e (printed past) none (known l.at (inl refl))

pub known_more : (head : Head) (l : Line) (past : List Line) (c slot : ℕ) (r : Running) (f : Fid) (i n : ℕ) → Allowed head past l.at l.entry
    → call_at c slot past ≡ Some r → Known head.osts past c slot f i n → Known head.osts (l ∷ past) c slot f i n
known_more head l past c slot r f i n ok is known = from_more head l past c slot r f i n ok is
    (from_known head.osts past l.at c slot f i n ok.steps known)

-- ---- back to the moment before

-- it changes nothing of the machine, nor what is gone or lost; where it isn't told
abbrev pub IsCalm : Entry → Type 0
IsCalm (Txn d) = ⊥
IsCalm (Evict who cause) = ⊥
IsCalm (Close o) = ⊥
IsCalm Fail = ⊥
IsCalm _ = Unit {0}

-- so are all lines of that turn
abbrev pub Calm : At → List Line → Type 0
Calm next [] = Unit {0}
Calm next (l ∷ past) = (same_turn l.at next ≡ true → IsCalm l.entry) × Calm next past

-- the call's begin is printed
abbrev pub HasBegun : (c slot : ℕ) → Past → Type 0
HasBegun c slot [] = ⊥
HasBegun c slot (l ∷ past) = (begins c slot l ≡ true) ⊎ HasBegun c slot past

begins_moment : (c slot : ℕ) (at : At) (e : PrintedEntry) → is_moment (record { at = at; entry = e }) ≡ false
    → begins c slot (record { at = at; entry = e }) ≡ false
begins_moment c slot at (trace.Begin s call) none = absurd (let q : true ≡ false = none in cc)
begins_moment c slot at e none = refl

abbrev shown_moment : At → Option PrintedEntry → Bool
shown_moment at o = elim o [ None ↦ false | Some e ↦ is_moment (record { at = at; entry = e }) ]

abbrev with_shown : At → Option PrintedEntry → Past → Past
with_shown at o p = elim o [ None ↦ p | Some e ↦ record { at = at; entry = e } ∷ p ]

calm_machine : (osts number : ℕ) (at : At) (e : Entry) (p : Past) → IsCalm e → shown_moment at (printed_entry number e) ≡ false
    → machine_cut osts (with_shown at (printed_entry number e) p) ≡ machine_cut osts p
calm_machine osts number at (Begin slot running) p calm none = absurd (let q : true ≡ false = none in cc)
calm_machine osts number at (Told slot turn answer work) p calm none = absurd (let q : true ≡ false = none in cc)
calm_machine osts number at (Txn d) p calm none = absurd calm
calm_machine osts number at (Evict who cause) p calm none = absurd calm
calm_machine osts number at (Close o) p calm none = absurd calm
calm_machine osts number at Fail p calm none = absurd calm
calm_machine osts number at e p calm none = refl

-- so the object has at the moment before the size that it has now
pub cut_back : (osts c slot : ℕ) (f : Fid) (i n : ℕ) (past : List Line) (next : At) → SizeNow osts past f i n
    → HasBegun c slot (printed past) → Calm next past → SizeOver osts (printed past) c slot f i n next
cut_back osts c slot f i n [] next now begun calm = absurd begun
cut_back osts c slot f i n (l ∷ past) next now begun calm =
    by (printed_entry (count_sent past + 1) l.entry) now begun (λ q none. calm_machine osts (count_sent past + 1) l.at l.entry
    (printed past) (calm.0 q) none) (λ q k b. subst (λ (v : At). SizeOver osts (printed past) c slot f i n v)
    (sym (same_turn_is l.at next q)) (cut_back osts c slot f i n past next k b calm.1))
    (λ k b. cut_back osts c slot f i n past next k b calm.1)
  where
    Now : Past → Type 0
    Now p = has_size (Some f) i n (machine_cut osts p) ≡ true

    by : (o : Option PrintedEntry) → Now (with_shown l.at o (printed past)) → HasBegun c slot (with_shown l.at o (printed past))
        → (same_turn l.at next ≡ true → shown_moment l.at o ≡ false → machine_cut osts (with_shown l.at o (printed past))
        ≡ machine_cut osts (printed past))
        → (same_turn l.at next ≡ true → Now (printed past) → HasBegun c slot (printed past)
        → SizeOver osts (printed past) c slot f i n l.at)
        → (Now (printed past) → HasBegun c slot (printed past) → SizeOver osts (printed past) c slot f i n next)
        → SizeOver osts (with_shown l.at o (printed past)) c slot f i n next
    by None now begun same back on = on now begun
    by (Some e) now begun same back on = turns (same_turn l.at next) refl (is_moment pl) refl
      where
        pl : PrintedLine
        pl = record { at = l.at; entry = e }

        -- the cut right after the line
        here : goes_on pl next ≡ false → SizeOver osts (pl ∷ printed past) c slot f i n next
        here q =
            let rest = if begins c slot pl then [] else cuts c slot l.at (printed past) in
            or_left (list_any (has_size (Some f) i n) (map (machine_cut osts) (cuts c slot next (pl ∷ printed past))))
            (list_any (nat_eq n) (peeked c slot (Some f) i (pl ∷ printed past)))
            (subst (λ (b : Bool). list_any (has_size (Some f) i n) (map (machine_cut osts) (with_cut b (pl ∷ printed past) rest)) ≡ true)
            (sym q)
            (or_left (has_size (Some f) i n (machine_cut osts (pl ∷ printed past)))
            (list_any (has_size (Some f) i n) (map (machine_cut osts) rest)) now))

        older : begins c slot pl ≡ false → HasBegun c slot (printed past)
        older none = ⊎_elim (λ (q : begins c slot pl ≡ true). absurd (let x : true ≡ false = sym q ∙ none in cc))
            (λ (k : HasBegun c slot (printed past)). k) begun

        turns : (a : Bool) → same_turn l.at next ≡ a → (b : Bool) → is_moment pl ≡ b → SizeOver osts (pl ∷ printed past) c slot f i n next
        turns false q b r = here (ap (λ (v : Bool). v && not (is_moment pl)) q)
        turns true q true r = here (ap (λ (v : Bool). same_turn l.at next && not v) r ∙ and_not (same_turn l.at next))
          where
            and_not : (v : Bool) → (v && false) ≡ false
            and_not true = refl
            and_not false = refl
        turns true q false r =
            let none = begins_moment c slot l.at e r in
            over_more osts c slot f i n l.at next e (printed past) none
            (back q (subst (λ (m : Machine). has_size (Some f) i n m ≡ true) (same q r) now) (older none))

-- ---- the call has begun

begun_more : (l : Line) (past : List Line) (c slot : ℕ) → HasBegun c slot (printed past) → HasBegun c slot (printed (l ∷ past))
begun_more l past c slot b = by (printed_entry (count_sent past + 1) l.entry)
  where
    by : (o : Option PrintedEntry) → HasBegun c slot (with_shown l.at o (printed past))
    by None = b
    by (Some e) = inr b

pub has_begun : (head : Head) (past : List Line) → Grown head past → (c slot : ℕ) (r : Running) → call_at c slot past ≡ Some r
    → HasBegun c slot (printed past)
has_begun head [] g c slot r is = absurd (let q : None ≡ Some r = is in cc)
has_begun head (l ∷ past) g c slot r is = by (λ q k. begun_more l past c slot (has_begun head past g.1 c slot q k))
    (call_cases past l.at.stamp l.at.node l.entry g.0.ok c slot r is)
  where
    Old : Type 0
    Old = (q : Running) → call_at c slot past ≡ Some q → HasBegun c slot (printed (l ∷ past))

    -- it begins with the line
    now : (node : Node) (e : Entry) → JustBegan (line (turn l.at.stamp node) e ∷ past) c slot r
        → HasBegun c slot (printed (line (turn l.at.stamp node) e ∷ past))
    now node (Begin s running) j =
        inl (ap (λ (v : Node). is_client c v && (s == slot)) j.0 ∙ ap (λ (v : ℕ). is_client c (Client c) && (v == slot)) j.1
        ∙ ap (λ (v : Bool). v && (slot == slot)) (flip_client c (Client c) ∙ self c) ∙ self slot)
    now node e j = absurd j

    by : Old → Came past l.at l.at.node l.entry c slot r → HasBegun c slot (printed (l ∷ past))
    by old (inl same) = old r same
    by old (inr (inl began)) = now l.at.node l.entry began.newest
    by old (inr (inr (inl touched))) = old touched.before touched.call
    by old (inr (inr (inr stood))) = old stood.before stood.call

-- ---- whose lines are calm

-- a client's all
pub client_calm : (head : Head) (past : List Line) (next : At) (c : ℕ) → Grown head past → next.node ≡ Client c → Calm next past
client_calm head [] next c g is = tt
client_calm head (l ∷ past) next c g is = (
  λ q. by l.at.node l.entry (ap (λ (v : At). v.node) (same_turn_is l.at next q) ∙ is) g.0.ok,
  client_calm head past next c g.1 is,
)
  where
    by : (node : Node) (e : Entry) → node ≡ Client c → EntryOk past (turn l.at.stamp node) node e → IsCalm e
    by (Client d) (Txn d1) q ok = absurd ok
    by (Client d) (Evict who cause) q ok = absurd ok
    by (Client d) (Close o) q ok = absurd ok
    by (Client d) Fail q ok = absurd ok
    by (Client d) e q ok = tt
    by (Target t) e q ok = absurd (let x : Target t ≡ Client c = q in cc)

-- there are none of a turn to come
pub later_calm : (head : Head) (past : List Line) (next : At) → Grown head past → Later past next → Calm next past
later_calm head [] next g later = tt
later_calm head (l ∷ past) next g later = (
  λ q. absurd (turn_irreflexive next (subst (λ (v : At). turn_before v next ≡ true) (same_turn_is l.at next q) later)),
  later_calm head past next g.1 (later_before l past next g.0.steps later),
)
