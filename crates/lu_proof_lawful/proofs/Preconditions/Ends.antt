-- A client's turn that takes the notice of its life's end isn't over before the next life: it makes the line of the new life, and no
-- turn takes two messages.
use Rattle.std.proofs.Common.{◌≡◌, ℕ, ◌+◌, ◌<◌, ◌≤◌, Bool, true, false, List, [], ◌∷◌, ◌++◌, Option, Some, None, ◌⊎◌, inl, inr, ⊎_elim}
use Rattle.std.proofs.Common.{refl, sym, subst, ap, ◌∙◌, arith}
use Rattle.std.specs.Prelude.{nat_eq, ◌||◌, is_some}
use Rattle.std.specs.List.{list_any}
use Rattle.std.proofs.lemmas.Bool.{cond-true}
use Rattle.lu_base.specs.declared.ids.At.{At}
use Rattle.lu_base.specs.declared.ids.Node.{Node}
use Rattle.lu_base.specs.declared.ids.Node.TheVariants.{Client, Target}
use Rattle.lu_base.specs.declared.ids.Stamp.{Stamp}
use Rattle.lu_base.specs.declared.ids.Who.{Who}
use Rattle.lu_msg.specs.declared.calls.Call.{Call}
use Rattle.lu_msg.specs.declared.calls.Call.TheVariants as call
use Rattle.lu_msg.specs.declared.messages.Message.{Message}
use Rattle.lu_msg.specs.declared.messages.Message.TheVariants as message
use Rattle.lu_held.specs.Held.{in_order}
use Rattle.lu_spec_entries.specs.Carried.{HandleFile, Running}
use Rattle.lu_spec_entries.specs.Words.{Entry, Take, Life, Line, line, with_turn, turn_before}
use Rattle.lu_spec_client.specs.Recovery.{ends_calls, drops_all, next_life, joins_all, evicted}
use Rattle.lu_spec_client.specs.Calls.{call_on, file_of}
use Rattle.lu_spec_client.specs.Slots.{begins, begins_on, begins_close, begins_open, opens}
use Rattle.lu_spec_client.specs.Messages.{comes_by, evicted_heard}
use Rattle.lu_spec_client.specs.Rows.{Event, Begins, Comes, Ticks, Dies, rests, row_call, row}
use Rattle.lu_spec_client.specs.States.{Client as ClientState, Limits, turn as turn_of}
use Rattle.lu_proof_lawful.specs.Covered.Calls.{life_at}
use Rattle.lu_proof_lawful.specs.Covered.Heads.{Head}
use Rattle.lu_proof_lawful.proofs.Preconditions.Guards.{In, Took, Noticed, Later, Steps, Ending, Closes, LifeOk, EntryOk}
use Rattle.lu_proof_lawful.proofs.Preconditions.Grown.{Grown}
use Rattle.lu_proof_lawful.proofs.Preconditions.Lists.{self, turn, turn_trans, turn_irreflexive, in_left, in_right, life_self}

-- ---- what was before the turn isn't of it

-- a turn to come has taken nothing
pub none_took : (head : Head) (past : List Line) (at : At) (from : Node) (m : Message) → Grown head past → Later past at
    → Took past at from m → ⊥
none_took head [] at from m g later took = absurd took
none_took head (l ∷ past) at from m g later took = by l.entry took (λ k. none_took head past at from m g.1 (before past g.0.steps) k)
  where
    before : (p : List Line) → Steps p l.at → Later p at
    before [] s = tt
    before (x ∷ p) (inl e) = subst (λ (a : At). turn_before a at ≡ true) (sym e) later
    before (x ∷ p) (inr b) = turn_trans x.at l.at at b later

    by : (e : Entry) → Took (line l.at e ∷ past) at from m → (Took past at from m → ⊥) → ⊥
    by (Take n sender k) a h = ⊎_elim (λ (p : (l.at ≡ at) × (sender ≡ from) × (k ≡ m)). turn_irreflexive at
        (subst (λ (a : At). turn_before a at ≡ true) p.0 later)) h a
    by _ a h = h a

-- what a turn took stays, whatever comes
pub took_more : (l : Line) (past : List Line) (at : At) (from : Node) (m : Message) → Took past at from m → Took (l ∷ past) at from m
took_more l past at from m r = by l.entry
  where
    by : (e : Entry) → Took (line l.at e ∷ past) at from m
    by (Take n sender k) = inr r
    by e = r

-- what is before the lines of a turn is grown
pub grown_under : (head : Head) (at : At) (es : List Entry) (p : List Line) → Grown head (with_turn at es p) → Grown head p
grown_under head at [] p g = g
grown_under head at (e ∷ es) p g = (grown_under head at es (line at e ∷ p) g).1

-- ---- what a turn makes after its first line

-- the newest line is of this turn
abbrev Here : At → List Line → Type 0
Here at [] = ⊥
Here at (l ∷ p) = l.at ≡ at

here_now : (at : At) (l : Line) (p : List Line) → Later (l ∷ p) at → Here at (l ∷ p) → ⊥
here_now at l p later h = turn_irreflexive at (subst (λ (a : At). turn_before a at ≡ true) h later)

-- what this turn took is its first entry
abbrev Only : At → Entry → List Line → Type 0
Only at first p = (from : Node) (m : Message) → Took p at from m → (n : ℕ) × (first ≡ Take n from m)

module _ (head : Head) (stamp : Stamp) (c : ℕ) (first : Entry) where
  abbrev here : At
  here = turn stamp (Client c)

  only_more : (e : Entry) (p : List Line) → Grown head (line here e ∷ p) → Here here p → Only here first p
      → Only here first (line here e ∷ p)
  only_more e [] g h only from m took = absurd h
  only_more e (l ∷ p) g h only from m took = by e g.0.ok took
    where
      by : (x : Entry) → EntryOk (l ∷ p) here (Client c) x → Took (line here x ∷ l ∷ p) here from m → (n : ℕ) × (first ≡ Take n from m)
      by (Take n sender k) ok took = absurd (here_now here l p ok.later h)
      by _ ok took = only from m took

  only_all : (es : List Entry) (p : List Line) → Grown head (with_turn here es p) → Here here p → Only here first p
      → Only here first (with_turn here es p)
  only_all [] p g h only = only
  only_all (e ∷ es) p g h only = only_all es (line here e ∷ p) g refl (only_more e p (grown_under head here es (line here e ∷ p) g) h only)

  -- lives rise
  life_line : (w : Who) (p : List Line) → life_at c (line here (Life w) ∷ p) ≡ w
  life_line w p = cond-true (nat_eq c c) w (life_at c p) (self c)

  rises_once : (e : Entry) (p : List Line) → EntryOk p here (Client c) e → (life_at c p).life ≤ (life_at c (line here e ∷ p)).life
  rises_once (Life w) p ok = let e : (life_at c (line here (Life w) ∷ p)).life ≡ (life_at c p).life + 1 =
      ap (λ (v : Who). v.life) (life_line w p ∙ ok.next) in omega arith
  rises_once e p ok = omega arith

  rises : (es : List Entry) (p : List Line) → Grown head (with_turn here es p) → (life_at c p).life ≤ (life_at c (with_turn here es p)).life
  rises [] p g = omega arith
  rises (e ∷ es) p g =
      let a = rises_once e p (grown_under head here es (line here e ∷ p) g).0.ok in
      let b = rises es (line here e ∷ p) g in
      omega arith

  -- the turn took the notice of that life: it stays, where no new one begins, and one begins after that life alone
  module _ (who : Who) (n t boot : ℕ) (notice : first ≡ Take n (Target t) (message.Evicted who boot)) where
    abbrev Stays : List Entry → List Line → Type 0
    Stays es p = ((life_at c p ≡ life_at c (with_turn here es p)) × ((w : Who) → In (Life w) es → ⊥))
        ⊎ (who.life < (life_at c (with_turn here es p)).life)

    after_life : (w : Who) (es : List Entry) (p : List Line) → Grown head (with_turn here es (line here (Life w) ∷ p)) → Only here first p
        → LifeOk p here c w → Stays (Life w ∷ es) p
    after_life w es p g only ok =
        let took = only (Target ok.notice.target) (message.Evicted (life_at c p) ok.notice.boot) ok.notice.took in
        let same : Take n (Target t) (message.Evicted who boot)
        ≡ Take took.0 (Target ok.notice.target) (message.Evicted (life_at c p) ok.notice.boot) = sym notice ∙ took.1 in
        let mine : who ≡ life_at c p = cc in
        let e : (life_at c (line here (Life w) ∷ p)).life ≡ (life_at c p).life + 1 = ap (λ (v : Who). v.life) (life_line w p ∙ ok.next) in
        let m : who.life ≡ (life_at c p).life = ap (λ (v : Who). v.life) mine in
        let r = rises es (line here (Life w) ∷ p) g in
        inr (omega arith)

    walk : (es : List Entry) (p : List Line) → Grown head (with_turn here es p) → Here here p → Only here first p → Stays es p
    walk [] p g h only = inl (refl, λ w i. absurd i)
    walk (e ∷ es) p g h only =
        let under = grown_under head here es (line here e ∷ p) g in
        by e g under.0.ok (walk es (line here e ∷ p) g refl (only_more e p under h only))
      where
        by : (x : Entry) → Grown head (with_turn here es (line here x ∷ p)) → EntryOk p here (Client c) x → Stays es (line here x ∷ p)
            → Stays (x ∷ es) p
        by (Life w) g ok k = after_life w es p g only ok
        by x g ok k = ⊎_elim
            (λ (s : (life_at c p ≡ life_at c (with_turn here es (line here x ∷ p))) × ((w : Who) → In (Life w) es → ⊥)). inl
            (s.0, λ w i. ⊎_elim (λ (q : x ≡ Life w). absurd (cc)) (λ (j : In (Life w) es). s.1 w j) i))
            (λ (lt : who.life < (life_at c (with_turn here es (line here x ∷ p))).life). inr lt)
            k

-- the newest line is of this turn
ending_here : (stamp : Stamp) (c d : ℕ) (es : List Entry) (p : List Line) → Here (turn stamp (Client c)) p
    → Ending (with_turn (turn stamp (Client c)) es p) d
    → (Client c ≡ Client d) × Noticed (with_turn (turn stamp (Client c)) es p) (turn stamp (Client c))
    (life_at d (with_turn (turn stamp (Client c)) es p))
ending_here stamp c d [] [] h k = absurd h
ending_here stamp c d [] (l ∷ p) h k = (
  ap (λ (at : At). at.node) (sym h) ∙ k.0,
  subst (λ (at : At). Noticed (l ∷ p) at (life_at d (l ∷ p))) h k.1,
)
ending_here stamp c d (e ∷ es) p h k = ending_here stamp c d es (line (turn stamp (Client c)) e ∷ p) refl k

-- a turn that makes the line of a new life where it takes the notice of the old one's end
pub closed_turn : (head : Head) (past : List Line) (stamp : Stamp) (c : ℕ) (e : Entry) (es : List Entry)
    → Grown head (with_turn (turn stamp (Client c)) (e ∷ es) past) → Later past (turn stamp (Client c))
    → ((n t boot : ℕ) → e ≡ Take n (Target t) (message.Evicted (life_at c past) boot) → (w : Who) × In (Life w) es)
    → (d : ℕ) → Ending (with_turn (turn stamp (Client c)) (e ∷ es) past) d → ⊥
closed_turn head past stamp c e es g later begins d k =
    let at = turn stamp (Client c) in
    let p = line at e ∷ past in
    let under = grown_under head at es p g in
    let k2 = ending_here stamp c d es p refl k in
    let mine : c ≡ d = cc in
    let ends : Noticed (with_turn at es p) at (life_at c (with_turn at es p)) =
    subst (λ v. Noticed (with_turn at es p) at (life_at v (with_turn at es p))) (sym mine) k2.1 in
    let only = start under.1 in
    let took = only_all head stamp c e es p g refl only (Target ends.target) (message.Evicted (life_at c (with_turn at es p)) ends.boot)
    ends.took in
    last took.0 ends.target ends.boot took.1 (walk head stamp c e (life_at c (with_turn at es p)) took.0 ends.target ends.boot took.1 es p g
    refl only)
  where
    start : Grown head past → Only (turn stamp (Client c)) e (line (turn stamp (Client c)) e ∷ past)
    start g from m took = by e took
      where
        by : (x : Entry) → Took (line (turn stamp (Client c)) x ∷ past) (turn stamp (Client c)) from m → (n : ℕ) × (x ≡ Take n from m)
        by (Take n sender k) took = ⊎_elim
            (λ (q : (turn stamp (Client c) ≡ turn stamp (Client c)) × (sender ≡ from) × (k ≡ m)).
            (n, ap (λ (v : Node). Take n v k) q.1 ∙ ap (λ (v : Message). Take n from v) q.2))
            (λ (q : Took past (turn stamp (Client c)) from m). absurd (none_took head past (turn stamp (Client c)) from m g later q))
            took
        by x took = absurd (none_took head past (turn stamp (Client c)) from m g later took)

    final : List Line
    final = with_turn (turn stamp (Client c)) es (line (turn stamp (Client c)) e ∷ past)

    -- the first line leaves the life, since it takes a message
    first_stays : (x : Entry) (n t boot : ℕ) (who : Who) → x ≡ Take n (Target t) (message.Evicted who boot)
        → life_at c (line (turn stamp (Client c)) x ∷ past) ≡ life_at c past
    first_stays (Life w) n t boot who q = absurd (cc)
    first_stays x n t boot who q = refl

    last : (n t boot : ℕ) → e ≡ Take n (Target t) (message.Evicted (life_at c final) boot)
        → ((life_at c (line (turn stamp (Client c)) e ∷ past) ≡ life_at c final) × ((w : Who) → In (Life w) es → ⊥))
        ⊎ ((life_at c final).life < (life_at c final).life) → ⊥
    last n t boot q (inl s) =
        let same : life_at c final ≡ life_at c past = sym s.0 ∙ first_stays e n t boot (life_at c final) q in
        let b = begins n t boot (q ∙ ap (λ (w : Who). Take n (Target t) (message.Evicted w boot)) same) in
        s.1 b.0 b.1
    last n t boot q (inr lt) = omega arith

-- ---- the rows of a client

-- the first entry is another than a message's
abbrev pub Other : List Entry → Type 0
Other [] = ⊥
Other (Take n from m ∷ es) = ⊥
Other (e ∷ es) = Unit {0}

other_more : (es fs : List Entry) → Other es → Other (es ++ fs)
other_more [] fs o = absurd o
other_more (Take n from m ∷ es) fs o = absurd o
other_more (e ∷ es) fs o = tt

other_open : (at : At) (slot : ℕ) (c : Call) (b : Bool) → Other (begins_open at slot c b)
other_open at slot c true = tt
other_open at slot c false = tt

other_close : (at : At) (slot h : ℕ) (f : Option HandleFile) → Other (begins_close at slot h f)
other_close at slot h None = tt
other_close at slot h (Some f) = tt

other_on : (at : At) (slot : ℕ) (c : Call) (f : Option HandleFile) → Other (begins_on at slot c f)
other_on at slot c None = tt
other_on at slot c (Some f) = tt

other_begins : (at : At) (slot : ℕ) (c : Call) (k : ClientState) → Other (begins at slot c k)
other_begins at slot (call.Open h path) k = other_open at slot (call.Open h path)
    (is_some (file_of h k.handles) || list_any (opens h) k.calls)
other_begins at slot (call.Close h) k = other_close at slot h (file_of h k.handles)
other_begins at slot (call.Read h x n) k = other_on at slot (call.Read h x n) (file_of h k.handles)
other_begins at slot (call.Write h x bs) k = other_on at slot (call.Write h x bs) (file_of h k.handles)
other_begins at slot (call.Cut h n) k = other_on at slot (call.Cut h n) (file_of h k.handles)
other_begins at slot (call.Flush h) k = other_on at slot (call.Flush h) (file_of h k.handles)
other_begins at slot (call.Glimpse h) k = other_on at slot (call.Glimpse h) (file_of h k.handles)
other_begins at slot c k = tt

pub other_call : (limits : Limits) (at : At) (slot : ℕ) (c : Call) (k : ClientState) (r : Option Running)
    → Other (row_call limits at slot c k r)
other_call limits at slot c k None = other_more (begins at slot c k) (rests limits at (turn_of k (begins at slot c k)))
    (other_begins at slot c k)
other_call limits at slot c k (Some r) = tt

pub other_first : (e : Entry) (es : List Entry) (n : ℕ) (from : Node) (m : Message) → Other (e ∷ es) → e ≡ Take n from m → ⊥
other_first (Take p f k) es n from m o q = o
other_first e es n from m o q = absurd (cc)

ends_made : (at : At) (k : ClientState) → In (Life (next_life k.who)) (evicted at k)
ends_made at k =
    let w = next_life k.who in
    in_right (Life w) (ends_calls at 0 k.calls ++ drops_all (in_order k.store.held)) (Life w ∷ joins_all w 0 k.imports) (inl refl)

-- where the first entry is the notice of the life's end, a new one begins
row_begins : (limits : Limits) (at : At) (event : Event) (k : ClientState) (e : Entry) (es : List Entry) → row limits at event k ≡ e ∷ es
    → (n t boot : ℕ) → e ≡ Take n (Target t) (message.Evicted k.who boot) → (w : Who) × In (Life w) es
row_begins limits at (Begins slot c) k e es q n t boot is = absurd
    (other_first e es n (Target t) (message.Evicted k.who boot) (subst Other q (other_call limits at slot c k (call_on slot k.calls))) is)
row_begins limits at (Comes p from m) k e es q n t boot is =
    let more = rests limits at (turn_of k (Take p from m ∷ comes_by at from m k)) in
    let rest_is : comes_by at from m k ++ more ≡ es = cc in
    let first_is : Take p from m ≡ e = cc in
    let took : Take p from m ≡ Take n (Target t) (message.Evicted k.who boot) = first_is ∙ is in
    let from_is : Target t ≡ from = cc in
    let m_is : message.Evicted k.who boot ≡ m = cc in (
      next_life k.who,
      subst (λ (xs : List Entry). In (Life (next_life k.who)) xs) rest_is
          (in_left (Life (next_life k.who)) (comes_by at from m k) more
          (subst (λ (v : Node). In (Life (next_life k.who)) (comes_by at v m k)) from_is
          (subst (λ (v : Message). In (Life (next_life k.who)) (comes_by at (Target t) v k)) m_is
          (subst (λ (b : Bool). In (Life (next_life k.who)) (evicted_heard at k b)) (sym (life_self k.who)) (ends_made at k))))),
    )
row_begins limits at Ticks k e es q n t boot is = absurd (cc)
row_begins limits at Dies k e es q n t boot is = absurd (cc)

-- so after a client's turn none ends a life
pub closed_row : (head : Head) (limits : Limits) (past : List Line) (stamp : Stamp) (c : ℕ) (event : Event) (k : ClientState) → k.who
    ≡ life_at c past → Later past (turn stamp (Client c)) → ((d : ℕ) → Ending past d → ⊥)
    → Grown head (with_turn (turn stamp (Client c)) (row limits (turn stamp (Client c)) event k) past) → (d : ℕ)
    → Ending (with_turn (turn stamp (Client c)) (row limits (turn stamp (Client c)) event k) past) d → ⊥
closed_row head limits past stamp c event k same later closed g = by (row limits (turn stamp (Client c)) event k) refl g
  where
    by : (xs : List Entry) → row limits (turn stamp (Client c)) event k ≡ xs → Grown head (with_turn (turn stamp (Client c)) xs past)
        → (d : ℕ) → Ending (with_turn (turn stamp (Client c)) xs past) d → ⊥
    by [] q g = closed
    by (e ∷ es) q g = closed_turn head past stamp c e es g later
        (λ n t boot is. row_begins limits (turn stamp (Client c)) event k e es q n t boot
        (is ∙ ap (λ (w : Who). Take n (Target t) (message.Evicted w boot)) (sym same)))

-- after a target's turn none does
pub closed_target : (stamp : Stamp) (t : ℕ) (es : List Entry) (past : List Line) → ((d : ℕ) → Ending past d → ⊥) → (d : ℕ)
    → Ending (with_turn (turn stamp (Target t)) es past) d → ⊥
closed_target stamp t [] past closed = closed
closed_target stamp t (e ∷ es) past closed = closed_target stamp t es (line (turn stamp (Target t)) e ∷ past)
    (λ d k. absurd (let q = k.0 in cc))

-- the first line of the next turn
pub closes_after : (past : List Line) (at : At) → ((d : ℕ) → Ending past d → ⊥) → Closes past at
closes_after [] at closed = tt
closes_after (l ∷ past) at closed = inr closed
