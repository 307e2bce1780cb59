-- The turn of a client in a covered run in which its life is over: each call is told so, each lock is dropped, and a new life begins, which
-- asks
-- each target to serve it.
use Rattle.std.proofs.Common.{◌≡◌, ℕ, zero, suc, ◌+◌, Bool, true, false, List, [], ◌∷◌, ◌++◌, inl, inr, ⊎_elim, Option, Some, None, refl}
use Rattle.std.proofs.Common.{sym, subst, ap, ◌∙◌, arith}
use Rattle.std.specs.Prelude.{nat_eq, ◌&&◌, if◌then◌else◌}
use Rattle.std.proofs.lemmas.Bool.{eqb-true}
use Rattle.lu_base.specs.declared.ids.At.{At}
use Rattle.lu_base.specs.declared.ids.Node.TheVariants.{Client, Target}
use Rattle.lu_base.specs.declared.ids.Stamp.{Stamp}
use Rattle.lu_base.specs.declared.ids.Who.{Who}
use Rattle.lu_msg.specs.declared.answers.Answer.TheVariants as answer
use Rattle.lu_msg.specs.declared.answers.Errno.TheVariants.{EIO}
use Rattle.lu_msg.specs.declared.messages.Message.TheVariants as message
use Rattle.lu_held.specs.declared.locks.HeldLock.{HeldLock}
use Rattle.lu_held.specs.declared.names.LockName.{LockName}
use Rattle.lu_held.specs.Locks.{name_of, is_named}
use Rattle.lu_held.specs.Held.{without, in_order}
use Rattle.lu_spec_entries.specs.Carried.{Running}
use Rattle.lu_spec_entries.specs.Words.{Entry, Take, Drop, Told, Life, Line, line, with_turn, same_life}
use Rattle.lu_spec_entries.specs.Concerns.{only}
use Rattle.lu_spec_entries.specs.Sent.{Sent}
use Rattle.lu_spec_client.specs.Caches.{held_at, patches_at}
use Rattle.lu_spec_client.specs.Calls.{calls_at}
use Rattle.lu_spec_client.specs.Messages.{evicted_heard, comes_by}
use Rattle.lu_spec_client.specs.Recovery.{joins_all, next_life, ends_call, ends_calls, drops_all}
use Rattle.lu_spec_client.specs.States.{Client as ClientState}
use Rattle.lu_proof_lawful.specs.Covered.Calls.{call_at, life_at}
use Rattle.lu_proof_lawful.specs.Covered.Imports.{Joining, known_at, standing_at}
use Rattle.lu_spec_run.specs.Heads as table
use Rattle.lu_spec_run.specs.Runs.{client_of}
use Rattle.lu_proof_lawful.proofs.Preconditions.Guards.{In, Noticed}
use Rattle.lu_proof_lawful.proofs.Preconditions.Grown.{Grown}
use Rattle.lu_proof_lawful.proofs.Preconditions.StoryGuards as story_guards
use Rattle.lu_proof_lawful.proofs.Preconditions.Lists.{self, life_is, turn, turn_more}
use Rattle.lu_proof_lawful.proofs.Preconditions.Parts.{life_is_of}
use Rattle.lu_proof_lawful.proofs.Preconditions.Turns.{Settled, owes_nothing}
use Rattle.lu_proof_lawful.proofs.Preconditions.Held.{held_into, held_target, none_there}
use Rattle.lu_proof_lawful.proofs.Preconditions.ClientLocks.{Once, own_name, without_only, without_other, in_ordered, ordered_in}
use Rattle.lu_proof_lawful.proofs.Preconditions.ClientLocks.{once_ordered}
use Rattle.lu_proof_lawful.proofs.Preconditions.ClientHandles.{new_tied}
use Rattle.lu_proof_lawful.proofs.Preconditions.ClientLines.{SmallOn, small_on, held_once}
use Rattle.lu_proof_lawful.proofs.Preconditions.CallStands.{Idle}
use Rattle.lu_proof_lawful.proofs.Preconditions.ClientGood.{Good, Rested, the_head, adds, at_one, call_line, held_line}
use Rattle.lu_proof_lawful.proofs.Preconditions.TurnStarts.{Starts, took_rested}
use Rattle.lu_proof_lawful.proofs.Preconditions.ClientResends.{Still, still_start, joins_good}

module _ (head : table.Head) (c : ℕ) (stamp : Stamp) where
  abbrev at : At
  at = turn stamp (Client c)

  -- ---- its life is over

  -- of one that leaves: this turn took the notice; start: where the turn began
  record Leaving (who : Who) (start p : List Line) : Type 0 where
    good : Good head c at p
    settled : Settled p
    life : life_at c p ≡ who
    known : (t : ℕ) → known_at c t p ≡ known_at c t start
    notice : Noticed p at who

  -- a call on one slot is told so, if there is one
  record EndedOn (who : Who) (start : List Line) (slot : ℕ) (p q : List Line) : Type 0 where
    leaving : Leaving who start q
    calls : (s : ℕ) → call_at c s q ≡ (if nat_eq slot s then None else call_at c s p)
    held : held_at c q ≡ held_at c p

  end_one : (who : Who) (start : List Line) (slot : ℕ) (x : Option Running) (p : List Line) → Leaving who start p → call_at c slot p ≡ x
      → EndedOn who start slot p (with_turn at (ends_call at slot x) p)
  end_one who start slot None p l is = record { leaving = l; calls = λ s. by s (nat_eq slot s) refl; held = refl }
    where
      by : (s : ℕ) (b : Bool) → nat_eq slot s ≡ b → call_at c s p ≡ (if b then None else call_at c s p)
      by s true e = ap (λ (u : ℕ). call_at c u p) (sym (eqb-true slot s e)) ∙ is
      by s false e = refl
  end_one who start slot (Some r) p l is =
      let e = Told slot at (answer.Refused EIO) None in
      record {
        leaving = record {
          good =
              adds head c stamp p e l.good (owes_nothing p at e l.settled)
              (inr (inr (inl (record {
                running = r;
                call = is;
                notice = subst (λ (w : Who). Noticed p at w) (sym l.life) l.notice;
                of_turn =
                    refl;
                of_answer = refl;
                plain = refl;
              })))) (λ t q. tt) tt refl;
          settled = tt;
          life = l.life;
          known = l.known;
          notice = record { target = l.notice.target; boot = l.notice.boot; took = l.notice.took };
        };
        calls = λ s. call_line head c stamp s p e;
        held = refl;
      }

  -- all calls were told
  record Told4 (who : Who) (start before p : List Line) : Type 0 where
    leaving : Leaving who start p
    none : (slot : ℕ) → call_at c slot p ≡ None
    held : held_at c p ≡ held_at c before

  no_more : (p : List Line) (n : ℕ) → Grown (the_head head c stamp) p → call_at c (suc (suc (suc (suc n)))) p ≡ None
  no_more p n g = by (call_at c (suc (suc (suc (suc n)))) p) (small_on (the_head head c stamp) c (suc (suc (suc (suc n)))) p g)
    where
      by : (x : Option Running) → SmallOn (suc (suc (suc (suc n)))) x → x ≡ None
      by None b = refl
      by (Some r) b = absurd (omega (arith, b))

  end_all : (who : Who) (start p : List Line) → Leaving who start p → Told4 who start p (with_turn at (ends_calls at 0 (calls_at c p)) p)
  end_all who start p l = subst (Told4 who start p) (sym all) (record
      { leaving = s3.leaving; none = none; held = s3.held ∙ s2.held ∙ s1.held ∙ s0.held })
    where
      e0 : List Entry
      e0 = ends_call at 0 (call_at c 0 p)

      e1 : List Entry
      e1 = ends_call at 1 (call_at c 1 p)

      e2 : List Entry
      e2 = ends_call at 2 (call_at c 2 p)

      e3 : List Entry
      e3 = ends_call at 3 (call_at c 3 p)

      p1 : List Line
      p1 = with_turn at e0 p

      p2 : List Line
      p2 = with_turn at e1 p1

      p3 : List Line
      p3 = with_turn at e2 p2

      p4 : List Line
      p4 = with_turn at e3 p3

      all : with_turn at (ends_calls at 0 (calls_at c p)) p ≡ p4
      all = turn_more at e0 (e1 ++ (e2 ++ (e3 ++ []))) p ∙ turn_more at e1 (e2 ++ (e3 ++ [])) p1 ∙ turn_more at e2 (e3 ++ []) p2
          ∙ turn_more at e3 [] p3

      s0 : EndedOn who start 0 p p1
      s0 = end_one who start 0 (call_at c 0 p) p l refl

      s1 : EndedOn who start 1 p1 p2
      s1 = end_one who start 1 (call_at c 1 p) p1 s0.leaving (s0.calls 1)

      s2 : EndedOn who start 2 p2 p3
      s2 = end_one who start 2 (call_at c 2 p) p2 s1.leaving (s1.calls 2 ∙ s0.calls 2)

      s3 : EndedOn who start 3 p3 p4
      s3 = end_one who start 3 (call_at c 3 p) p3 s2.leaving (s2.calls 3 ∙ s1.calls 3 ∙ s0.calls 3)

      none : (slot : ℕ) → call_at c slot p4 ≡ None
      none zero = s3.calls 0 ∙ s2.calls 0 ∙ s1.calls 0 ∙ s0.calls 0
      none (suc zero) = s3.calls 1 ∙ s2.calls 1 ∙ s1.calls 1
      none (suc (suc zero)) = s3.calls 2 ∙ s2.calls 2
      none (suc (suc (suc zero))) = s3.calls 3
      none (suc (suc (suc (suc n)))) = no_more p4 n s3.leaving.good.grown

  -- all locks were dropped
  record Bare (who : Who) (start p : List Line) : Type 0 where
    leaving : Leaving who start p
    none : (slot : ℕ) → call_at c slot p ≡ None
    empty : held_at c p ≡ []

  nothing_in : (hs : List HeldLock) → ((x : HeldLock) → In x hs → ⊥) → hs ≡ []
  nothing_in [] f = refl
  nothing_in (h ∷ hs) f = absurd (f h (inl refl))

  drops_good : (who : Who) (start : List Line) (hs : List HeldLock) (p : List Line) → Once hs → Leaving who start p
      → ((slot : ℕ) → call_at c slot p ≡ None) → ((x : HeldLock) → In x hs → In x (held_at c p))
      → ((x : HeldLock) → In x (held_at c p) → In x hs)
      → Bare who start (with_turn at (drops_all hs) p)
  drops_good who start [] p once l none i back = record { leaving = l; none = none; empty = nothing_in (held_at c p) back }
  drops_good who start (h ∷ hs) p once l none i back = drops_good who start hs p1 once.1 dropped none there only_there
    where
      t : ℕ
      t = h.target.0

      name : LockName
      name = name_of h

      p1 : List Line
      p1 = line at (Drop t h.lock) ∷ p

      left : held_at c p1 ≡ without name (held_at c p)
      left = held_line head c stamp p (Drop t h.lock)

      dropped : Leaving who start p1
      dropped =
          record {
            good =
                adds head c stamp p (Drop t h.lock) l.good (owes_nothing p at (Drop t h.lock) l.settled)
                (inr (subst (λ (w : Who). Noticed p at w) (sym l.life) l.notice))
                (at_one head c stamp t (λ (u : ℕ). story_guards.DropOk (only u p) c t h.lock)
                (record {
                  holding = h;
                  held = held_into c t p h refl (i h (inl refl));
                  of_target = refl;
                  is = refl;
                  there =
                      held_target c t p;
                })) tt refl;
            settled = tt;
            life = l.life;
            known = l.known;
            notice = record { target = l.notice.target; boot = l.notice.boot; took = l.notice.took };
          }

      there : (x : HeldLock) → In x hs → In x (held_at c p1)
      there x j = subst (λ (gs : List HeldLock). In x gs) (sym left) (without_other name x (held_at c p) (i x (inr j)) (once.0 x j))

      only_there : (x : HeldLock) → In x (held_at c p1) → In x hs
      only_there x j = ⊎_elim (λ (e : h ≡ x). absurd (gone e)) (λ (k : In x hs). k) (back x was.0)
        where
          was : In x (held_at c p) × (is_named name x ≡ false)
          was = without_only name x (held_at c p) (subst (λ (gs : List HeldLock). In x gs) left j)

          gone : h ≡ x → ⊥
          gone e =
              let q : true ≡ false = sym (own_name name) ∙ ap (is_named name) e ∙ was.1 in
              cc

  -- then a new life begins, and asks each target to serve it
  begins_anew : (who : Who) (start p : List Line) → Bare who start p
      → Rested head c at (with_turn at (Life (next_life who) ∷ joins_all (next_life who) 0 (client_of head c start).imports) p)
  begins_anew who start p b = (joins_good head c stamp (next_life who) start p1 (head.osts + 1) 0 p1 (λ u. sym (b.leaving.known u)) still
      joining).rested
    where
      e : Entry
      e = Life (next_life who)

      p1 : List Line
      p1 = line at e ∷ p

      good : Good head c at p1
      good =
          adds head c stamp p e b.leaving.good (owes_nothing p at e b.leaving.settled)
          (record {
            notice = subst (λ (w : Who). Noticed p at w) (sym b.leaving.life) b.leaving.notice;
            next =
                ap next_life (sym b.leaving.life);
            idle = b.none;
          })
          (λ t q. record { next = ap next_life (sym b.leaving.life ∙ life_is_of c t p); empty = none_there c t p b.empty }) tt refl

      still : Still head c stamp (next_life who) p1 p1
      still =
          still_start head c stamp (next_life who) p1 (record {
            good = good;
            settled = tt;
            idle = λ slot. subst (Idle (life_at c p1) (patches_at c p1) (calls_at c p1)) (sym (b.none slot)) tt;
            handles = new_tied c stamp p (next_life who);
          }) (ap (λ (own : Bool). if own then next_life who else life_at c p) (self c))

      joining : (u : ℕ) → standing_at c u p1 ≡ Joining
      joining u = ap (λ (own : Bool). if own && true then Joining else standing_at c u p) (self c)

  pub evicted_rested : (p : List Line) (n t : ℕ) (who : Who) (boot : ℕ) → Starts head c stamp p
      → Sent p n (Target t) (Client c) (message.Evicted who boot)
      → Rested head c at (with_turn at (comes_by at (Target t) (message.Evicted who boot) (client_of head c p))
      (line at (Take n (Target t) (message.Evicted who boot)) ∷ p))
  evicted_rested p n t who boot s sent = by (same_life who k.who) refl
    where
      k : ClientState
      k = client_of head c p

      p1 : List Line
      p1 = line at (Take n (Target t) (message.Evicted who boot)) ∷ p

      took : Rested head c at p1
      took = took_rested head c stamp p n t (message.Evicted who boot) s sent

      by : (b : Bool) → same_life who k.who ≡ b → Rested head c at (with_turn at (evicted_heard at k b) p1)
      by false e = took
      by true e =
          let own : who ≡ life_at c p = life_is who k.who e in
          let leaving : Leaving (life_at c p) p p1 = record {
            good = took.good;
            settled = tt;
            life = refl;
            known = λ u. refl;
            notice =
                record { target = t; boot = boot; took = inl (refl, refl, ap (λ (w : Who). message.Evicted w boot) own) };
          } in
          let told = end_all (life_at c p) p p1 leaving in
          let es = ends_calls at 0 k.calls in
          let hs = in_order (held_at c p) in
          let ds = drops_all hs in
          let more = Life (next_life k.who) ∷ joins_all (next_life k.who) 0 k.imports in
          let p2 = with_turn at es p1 in
          let p3 = with_turn at ds p2 in
          let bare : Bare (life_at c p) p p3 =
          drops_good (life_at c p) p hs p2 (once_ordered (held_at c p) (held_once (the_head head c stamp) c p s.grown)) told.leaving
          told.none
          (λ x i. subst (λ (gs : List HeldLock). In x gs) (sym told.held) (in_ordered x (held_at c p) i))
          (λ x i. ordered_in x (held_at c p) (subst (λ (gs : List HeldLock). In x gs) told.held i)) in
          subst (Rested head c at) (sym (turn_more at (es ++ ds) more p1 ∙ ap (with_turn at more) (turn_more at es ds p1)))
          (begins_anew (life_at c p) p p3 bare)
