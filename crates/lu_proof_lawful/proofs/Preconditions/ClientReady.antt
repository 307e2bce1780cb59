-- A client that is told that a target serves its life, in the boot that it knows, stands so at the end of that turn: the line that says so
-- comes next, and no turn takes two messages.
use Rattle.std.proofs.Common.{◌≡◌, ℕ, ◌≤◌, Bool, true, false, List, [], ◌∷◌, ◌++◌, refl, sym, subst, ap, ◌∙◌}
use Rattle.std.specs.Prelude.{nat_eq, ◌&&◌, ◌||◌, ◌==◌, if◌then◌else◌}
use Rattle.std.proofs.lemmas.Bool.{and_parts, eqb-true}
use Rattle.lu_base.specs.declared.ids.At.{At}
use Rattle.lu_base.specs.declared.ids.Node.{Node}
use Rattle.lu_base.specs.declared.ids.Node.TheVariants.{Client, Target}
use Rattle.lu_base.specs.declared.ids.Stamp.{Stamp}
use Rattle.lu_base.specs.declared.ids.Txn.{Txn}
use Rattle.lu_base.specs.declared.ids.Who.{Who}
use Rattle.lu_msg.specs.declared.messages.Message.{Message}
use Rattle.lu_msg.specs.declared.messages.Message.TheVariants as message
use Rattle.lu_spec_entries.specs.Words.{Entry, Take, Serves, Line, line, with_turn, turn_before, is_client, same_life}
use Rattle.lu_spec_client.specs.Calls.{call_on}
use Rattle.lu_spec_client.specs.Imports.{import_of}
use Rattle.lu_spec_client.specs.Messages.{comes_by, ready_heard, is_present}
use Rattle.lu_spec_client.specs.Rows.{Event, Begins, Comes, Ticks, Dies, rests, row}
use Rattle.lu_spec_client.specs.States.{Client as ClientState, Limits, turn as turn_of}
use Rattle.lu_proof_lawful.specs.Covered.Calls.{life_at}
use Rattle.lu_proof_lawful.specs.Covered.Imports.{known_at}
use Rattle.lu_spec_run.specs.Heads as table
use Rattle.lu_spec_run.specs.Runs.{limits_of, client_of}
use Rattle.lu_proof_lawful.proofs.Preconditions.Guards.{Later, EntryOk, is_ready_for, is_welcome}
use Rattle.lu_proof_lawful.proofs.Preconditions.Grown.{Grown}
use Rattle.lu_proof_lawful.proofs.Preconditions.Lists.{self, turn, turn_irreflexive}
use Rattle.lu_proof_lawful.proofs.Preconditions.Only.{sent_was}
use Rattle.lu_proof_lawful.proofs.Preconditions.Ends.{grown_under, Other, other_call, other_first}
use Rattle.lu_proof_lawful.proofs.Preconditions.Turns.{covered_head}
use Rattle.lu_proof_lawful.proofs.Preconditions.ClientLines.{AllThere, was_there}
use Rattle.lu_proof_lawful.proofs.Preconditions.ClientRests.{import_there}

-- ---- turns of other nodes

pub welcome_other : (c t : ℕ) (at : At) (es : List Entry) (past : List Line) → is_client c at.node ≡ false
    → is_welcome c t (with_turn at es past) ≡ is_welcome c t past
welcome_other c t at [] past other = refl
welcome_other c t at (e ∷ es) past other = welcome_other c t at es (line at e ∷ past) other ∙ by e
  where
    by : (x : Entry) → is_welcome c t (line at x ∷ past) ≡ is_welcome c t past
    by (Take n from m) = ap (λ (b : Bool). if b then is_ready_for c t past from m || is_welcome c t past else is_welcome c t past) other
    by (Serves u boot) = ap (λ (b : Bool). if b && u == t then false else is_welcome c t past) other
    by _ = refl

-- ---- after its first line a turn takes no message

module _ (head : table.Head) (c t : ℕ) where
  calm_more : (at : At) (es : List Entry) (l : Line) (past : List Line) → l.at ≡ at → Grown (covered_head head) (with_turn at es (l ∷ past))
      → is_welcome c t (l ∷ past) ≡ false → is_welcome c t (with_turn at es (l ∷ past)) ≡ false
  calm_more at [] l past here g w = w
  calm_more at (e ∷ es) l past here g w = calm_more at es (line at e) (l ∷ past) refl g
      (by e (grown_under (covered_head head) at es (line at e ∷ l ∷ past) g).0.ok)
    where
      by : (x : Entry) → EntryOk (l ∷ past) at at.node x → is_welcome c t (line at x ∷ l ∷ past) ≡ false
      by (Take n from m) ok = absurd (turn_irreflexive at (subst (λ (a : At). turn_before a at ≡ true) here ok.later))
      by (Serves u boot) ok = cleared (is_client c at.node && u == t)
        where
          cleared : (b : Bool) → (if b then false else is_welcome c t (l ∷ past)) ≡ false
          cleared true = refl
          cleared false = w
      by _ ok = w

  -- ---- the line that says so comes next

  row_serves : (limits : Limits) (at : At) (event : Event) (k : ClientState) (e : Entry) (es : List Entry) → row limits at event k ≡ e ∷ es
      → (n : ℕ) (who : Who) (boot : ℕ) (committed : Txn) → e ≡ Take n (Target t) (message.Ready who boot committed)
      → is_present who boot t k ≡ true → (more : List Entry) × (es ≡ Serves t boot ∷ more)
  row_serves limits at (Begins slot x) k e es q n who boot committed is here =
      absurd (other_first e es n (Target t) (message.Ready who boot committed)
      (subst Other q (other_call limits at slot x k (call_on slot k.calls))) is)
  row_serves limits at (Comes p from m) k e es q n who boot committed is here =
      let more = rests limits at (turn_of k (Take p from m ∷ comes_by at from m k)) in
      let rest_is : comes_by at from m k ++ more ≡ es = cc in
      let first_is : Take p from m ≡ e = cc in
      let took : Take p from m ≡ Take n (Target t) (message.Ready who boot committed) = first_is ∙ is in
      let from_is : from ≡ Target t = cc in
      let m_is : m ≡ message.Ready who boot committed = cc in
      let serves : comes_by at from m k ≡ ready_heard t boot committed.0 k true = ap (λ (v : Node). comes_by at v m k) from_is
      ∙ ap (λ (v : Message). comes_by at (Target t) v k) m_is ∙ ap (λ (b : Bool). ready_heard t boot committed.0 k b) here in
      (_, sym rest_is ∙ ap (λ (xs : List Entry). xs ++ more) serves)
  row_serves limits at Ticks k e es q n who boot committed is here = absurd (cc)
  row_serves limits at Dies k e es q n who boot committed is here = absurd (cc)

  -- ---- a turn of the client

  welcome_own : (past : List Line) (stamp : Stamp) (event : Event) → is_welcome c t past ≡ false → AllThere head.osts past
      → Grown (covered_head head) (with_turn (turn stamp (Client c))
      (row (limits_of head) (turn stamp (Client c)) event (client_of head c past)) past)
      → is_welcome c t (with_turn (turn stamp (Client c)) (row (limits_of head) (turn stamp (Client c)) event (client_of head c past)) past)
      ≡ false
  welcome_own past stamp event w there g = by (row (limits_of head) at event k) refl g
    where
      at : At
      at = turn stamp (Client c)

      k : ClientState
      k = client_of head c past

      cleared : (b : Bool) → (if b then false else is_welcome c t past) ≡ false
      cleared true = refl
      cleared false = w

      ready : (n : ℕ) (who : Who) (boot : ℕ) (committed : Txn) (es : List Entry) → row (limits_of head) at event k
          ≡ Take n (Target t) (message.Ready who boot committed) ∷ es
          → Grown (covered_head head) (with_turn at es (line at (Take n (Target t) (message.Ready who boot committed)) ∷ past))
          → same_life who (life_at c past) ≡ true → (boot == known_at c t past) ≡ true
          → is_welcome c t (with_turn at es (line at (Take n (Target t) (message.Ready who boot committed)) ∷ past)) ≡ false
      ready n who boot committed es q g own known =
          let m = message.Ready who boot committed in
          let low : t ≤ head.osts =
          was_there head.osts t (Client c) m past there (sent_was past n (Target t) (Client c) m
          (grown_under (covered_head head) at es (line at (Take n (Target t) m) ∷ past) g).0.ok.sent) in
          let boots : (boot == (import_of t k.imports).boot) ≡ true =
          ap (λ (v : ℕ). boot == v) (ap (λ (i : _). i.boot) (import_there head c stamp past t low)) ∙ known in
          let here : is_present who boot t k ≡ true = rw (own, boots) refl in
          let s = row_serves (limits_of head) at event k (Take n (Target t) m) es q n who boot committed refl here in
          subst (λ (xs : List Entry). Grown (covered_head head) (with_turn at xs (line at (Take n (Target t) m) ∷ past))
          → is_welcome c t (with_turn at xs (line at (Take n (Target t) m) ∷ past)) ≡ false)
          (sym s.1)
          (λ gr. calm_more at s.0 (line at (Serves t boot)) (line at (Take n (Target t) m) ∷ past) refl gr
          (ap (λ (b : Bool). if b then false else is_welcome c t (line at (Take n (Target t) m) ∷ past))
          (let own : (is_client c (Client c) && t == t) ≡ true = rw (self c, self t) refl in own)))
          g

      taken : (n : ℕ) (from : Node) (m : Message) (es : List Entry) → row (limits_of head) at event k ≡ Take n from m ∷ es
          → Grown (covered_head head) (with_turn at es (line at (Take n from m) ∷ past))
          → (b : Bool) → is_ready_for c t past from m ≡ b → is_welcome c t (with_turn at es (line at (Take n from m) ∷ past)) ≡ false
      taken n (Target u) (message.Ready who boot committed) es q g true is =
          let p = and_parts (u == t && same_life who (life_at c past)) (boot == known_at c t past) is in
          let o = and_parts (u == t) (same_life who (life_at c past)) p.0 in
          by (eqb-true u t o.0) q g o.1 p.1
        where
          by : u ≡ t → row (limits_of head) at event k ≡ Take n (Target u) (message.Ready who boot committed) ∷ es
              → Grown (covered_head head) (with_turn at es (line at (Take n (Target u) (message.Ready who boot committed)) ∷ past))
              → same_life who (life_at c past) ≡ true → (boot == known_at c t past) ≡ true
              → is_welcome c t (with_turn at es (line at (Take n (Target u) (message.Ready who boot committed)) ∷ past)) ≡ false
          by e =
              subst (λ (v : ℕ). row (limits_of head) at event k ≡ Take n (Target v) (message.Ready who boot committed) ∷ es
              → Grown (covered_head head) (with_turn at es (line at (Take n (Target v) (message.Ready who boot committed)) ∷ past))
              → same_life who (life_at c past) ≡ true → (boot == known_at c t past) ≡ true
              → is_welcome c t (with_turn at es (line at (Take n (Target v) (message.Ready who boot committed)) ∷ past)) ≡ false)
              (sym e) (ready n who boot committed es)
      taken n from m es q g false is =
          calm_more at es (line at (Take n from m)) past refl g
          (ap (λ (b : Bool). if b then is_ready_for c t past from m || is_welcome c t past else is_welcome c t past) (self c)
          ∙ ap (λ (b : Bool). b || is_welcome c t past) is ∙ w)
      taken n (Client d) m es q g true is = absurd (cc)
      taken n (Target u) m es q g true is = absurd (cc)

      by : (xs : List Entry) → row (limits_of head) at event k ≡ xs → Grown (covered_head head) (with_turn at xs past)
          → is_welcome c t (with_turn at xs past) ≡ false
      by [] q gr = w
      by (Take n from m ∷ es) q gr = taken n from m es q gr (is_ready_for c t past from m) refl
      by (Serves u boot ∷ es) q gr = calm_more at es (line at (Serves u boot)) past refl gr (cleared (is_client c (Client c) && u == t))
      by (e ∷ es) q gr = calm_more at es (line at e) past refl gr w

-- after a client's turn none is welcome that doesn't stand so
pub welcome_client : (head : table.Head) (past : List Line) (stamp : Stamp) (c : ℕ) (event : Event)
    → ((d t : ℕ) → is_welcome d t past ≡ false) → AllThere head.osts past → Later past (turn stamp (Client c))
    → Grown (covered_head head) (with_turn (turn stamp (Client c))
    (row (limits_of head) (turn stamp (Client c)) event (client_of head c past)) past) → (d t : ℕ)
    → is_welcome d t (with_turn (turn stamp (Client c)) (row (limits_of head) (turn stamp (Client c)) event (client_of head c past)) past)
    ≡ false
welcome_client head past stamp c event w there later g d t = by (nat_eq d c) refl
  where
    es : List Entry
    es = row (limits_of head) (turn stamp (Client c)) event (client_of head c past)

    by : (b : Bool) → nat_eq d c ≡ b → is_welcome d t (with_turn (turn stamp (Client c)) es past) ≡ false
    by true e = subst (λ (v : ℕ). is_welcome v t (with_turn (turn stamp (Client c)) es past) ≡ false) (sym (eqb-true d c e))
        (welcome_own head c t past stamp event (w c t) there g)
    by false e = welcome_other d t (turn stamp (Client c)) es past e ∙ w d t
