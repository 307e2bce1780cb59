-- The turn of a client in a covered run in which a target asks how long an object is, under a lock that the client holds: it tells it to
-- its user
-- first, where the lock is one for writing to the end and the object reaches above its start, and then the target.
use Rattle.std.proofs.Common.{◌≡◌, ℕ, ◌<◌, ◌≤◌, Bool, true, false, List, [], ◌∷◌, inl, inr, Option, Some, None, refl, sym, subst, ap, ◌∙◌}
use Rattle.std.proofs.Common.{arith}
use Rattle.std.specs.Prelude.{nat_eq, nat_lt, if◌then◌else◌}
use Rattle.std.proofs.lemmas.Bool.{and_parts, eqb-true}
use Rattle.std.proofs.lemmas.Bool.Decides.{nat_tests}
use Rattle.lu_base.specs.declared.ids.At.{At}
use Rattle.lu_base.specs.declared.ids.Cookie.{Cookie}
use Rattle.lu_base.specs.declared.ids.Node.TheVariants.{Client, Target}
use Rattle.lu_base.specs.declared.ids.Stamp.{Stamp}
use Rattle.lu_base.specs.declared.ids.Who.{Who}
use Rattle.lu_base.specs.declared.ids.Xid.{Xid}
use Rattle.lu_base.specs.declared.locks.Extent.{Extent}
use Rattle.lu_base.specs.declared.locks.Lock.{Lock}
use Rattle.lu_base.specs.declared.locks.Mode.{Mode}
use Rattle.lu_base.specs.declared.locks.Mode.TheVariants.{PW}
use Rattle.lu_base.specs.declared.locks.Policy.{Policy}
use Rattle.lu_base.specs.declared.locks.Policy.TheVariants.{Bits, Range}
use Rattle.lu_msg.specs.declared.messages.Message.{Message}
use Rattle.lu_msg.specs.declared.messages.Message.TheVariants as message
use Rattle.lu_msg.specs.declared.messages.SizeReport.{SizeReport}
use Rattle.lu_held.specs.declared.locks.HeldLock.{HeldLock}
use Rattle.lu_held.specs.declared.names.LockName.{LockName}
use Rattle.lu_held.specs.Locks.{named, is_named, reaches_end}
use Rattle.lu_spec_entries.specs.Words.{Entry, Take, Peek, Line, line, with_turn, same_life}
use Rattle.lu_spec_entries.specs.Concerns.{only}
use Rattle.lu_spec_entries.specs.Sent.{Sent}
use Rattle.lu_spec_client.specs.Imports.{Import, import_of}
use Rattle.lu_spec_client.specs.Looks.{size_under}
use Rattle.lu_spec_client.specs.Messages.{Question, held_as, size_where, size_told, size_held, reports, peeks, asked, comes_by}
use Rattle.lu_spec_client.specs.States.{Client as ClientState, Store}
use Rattle.lu_proof_lawful.specs.Covered.Calls.{life_at}
use Rattle.lu_proof_lawful.specs.Covered.Imports.{known_at}
use Rattle.lu_spec_run.specs.Heads as table
use Rattle.lu_spec_run.specs.Runs.{client_of}
use Rattle.lu_proof_lawful.proofs.Preconditions.Guards.{In, Was, SizeOk, PeekOk, TookAsk}
use Rattle.lu_proof_lawful.proofs.Preconditions.StoryGuards as story_guards
use Rattle.lu_proof_lawful.proofs.Preconditions.Lists.{self, life_is, turn}
use Rattle.lu_proof_lawful.proofs.Preconditions.Only.{sent_was, was_only}
use Rattle.lu_proof_lawful.proofs.Preconditions.Parts.{known_is, life_is_of}
use Rattle.lu_proof_lawful.proofs.Preconditions.Turns.{owes_nothing}
use Rattle.lu_proof_lawful.proofs.Preconditions.ClientGood.{Rested, adds, at_one}
use Rattle.lu_proof_lawful.proofs.Preconditions.ClientRests.{import_there}
use Rattle.lu_proof_lawful.proofs.Preconditions.TurnStarts.{Starts, took_rested}

-- ---- the lock that is asked of

-- what is found under a name is held
found_held : (name : LockName) (held : List HeldLock) (l : Lock) → held_as name held ≡ Some l → (h : HeldLock) × In h held
    × (is_named name h ≡ true) × (h.lock ≡ l)
found_held name [] l e = absurd (cc)
found_held name (h ∷ held) l e = by (is_named name h) refl e (found_held name held l)
  where
    by : (b : Bool) → is_named name h ≡ b → (if b then Some h.lock else held_as name held) ≡ Some l
        → (held_as name held ≡ Some l → (g : HeldLock) × In g held × (is_named name g ≡ true) × (g.lock ≡ l))
        → (g : HeldLock) × In g (h ∷ held) × (is_named name g ≡ true) × (g.lock ≡ l)
    by true is q more = (h, inl refl, is, cc)
    by false is q more = let k = more q in (k.0, inr k.1, k.2, k.3)

-- where there is a size, the lock is one for writing to the end, and the object reaches above its start
record Reached (l : Lock) (s : Store) (n : ℕ) : Type 0 where
  mode : l.ask.mode ≡ PW
  extent : Extent
  range : l.ask.policy ≡ Range extent
  ends : reaches_end l.ask.policy ≡ true
  is : n ≡ size_under l s
  above : extent.first < n

reached : (l : Lock) (s : Store) (n : ℕ) → size_told l s l.ask.mode l.ask.policy ≡ Some n → Reached l s n
reached l s n = by l.ask.mode l.ask.policy refl refl
  where
    above : (first size : ℕ) (b : Bool) → nat_lt first size ≡ b → (if b then Some size else None) ≡ Some n → (n ≡ size) × (first < n)
    above first size true lt e = let same : size ≡ n = cc in (sym same, grind (arith, nat_tests, lt, same))
    above first size false lt e = absurd (cc)

    where_to : (extent : Extent) (b : Bool) → reaches_end (Range extent) ≡ b → size_where extent.first (size_under l s) b ≡ Some n
        → (reaches_end (Range extent) ≡ true) × (n ≡ size_under l s) × (extent.first < n)
    where_to extent true ends e = let k = above extent.first (size_under l s) (nat_lt extent.first (size_under l s)) refl e
        in (ends, k.0, k.1)
    where_to extent false ends e = absurd (cc)

    by : (mode : Mode) (policy : Policy) → l.ask.mode ≡ mode → l.ask.policy ≡ policy → size_told l s mode policy ≡ Some n → Reached l s n
    by PW (Range extent) m p e =
        let k = where_to extent (reaches_end (Range extent)) refl e in
        record { mode = m; extent = extent; range = p; ends = ap reaches_end p ∙ k.0; is = k.1; above = k.2 }
    by PW (Bits bits) m p e = absurd (cc)
    by mode policy m p e = absurd (cc)

-- ---- the turn

module _ (head : table.Head) (c : ℕ) (stamp : Stamp) where
  abbrev at : At
  at = turn stamp (Client c)

  module _ (p : List Line) (n t : ℕ) (who : Who) (boot : ℕ) (cookie : Cookie) (for_who : Who) (xid : Xid) (s : Starts head c stamp p)
      (low : t ≤ head.osts) (sent : Sent p n (Target t) (Client c) (message.Ask who boot cookie for_who xid)) where
    abbrev k : ClientState
    k = client_of head c p

    abbrev m : Message
    m = message.Ask who boot cookie for_who xid

    abbrev a : Question
    a = record { cookie = cookie; for_who = for_who; xid = xid }

    abbrev name : LockName
    name = named (record { 0 = t }) cookie

    abbrev known : ℕ
    known = (import_of t k.imports).boot

    abbrev report : Option ℕ → SizeReport
    report o = record { who = k.who; boot = known; cookie = cookie; for_who = for_who; xid = xid; size = o; stamp = at.stamp }

    abbrev p1 : List Line
    p1 = line at (Take n (Target t) m) ∷ p

    took : Rested head c at p1
    took = took_rested head c stamp p n t m s sent

    known_now : known ≡ known_at c t p
    known_now = ap (λ (i : Import). i.boot) (import_there head c stamp p t low)

    -- its life is asked
    asks : who ≡ life_at c p → (o : Option ℕ) → TookAsk p1 at t (report o)
    asks own o = (boot, (refl, refl, ap (λ (w : Who). message.Ask w boot cookie for_who xid) own))

    was : who ≡ life_at c p → (o : Option ℕ) (q : List Line) → life_at c p ≡ life_at c q → known_at c t p ≡ known_at c t q
        → Was q (Target t) (Client c) m → story_guards.ReportsOk (only t q) c t (report o)
    was own o q life same w =
        record {
          of_life = life ∙ life_is_of c t q;
          of_boot = known_now ∙ same ∙ known_is c t q;
          boot = boot;
          was = subst (λ (v : Who). Was (only t q) (Target t) (Client c) (message.Ask v boot cookie for_who xid)) own
              (was_only t q (Target t) (Client c) m (self t) w);
        }

    sent_it : Was p (Target t) (Client c) m
    sent_it = sent_was p n (Target t) (Client c) m sent

    reported : (o : Option ℕ) (q : List Line) → Rested head c at q → SizeOk q at c t (report o)
        → story_guards.ReportsOk (only t q) c t (report o) → Rested head c at (line at (reports at t a k.who known o) ∷ q)
    reported o q r ok story =
        record {
          good = adds head c stamp q (reports at t a k.who known o) r.good (owes_nothing q at (reports at t a k.who known o) r.settled) ok
              (at_one head c stamp t (λ (u : ℕ). story_guards.ReportsOk (only u q) c t (report o)) story) tt refl;
          settled = tt;
          idle = r.idle;
          handles = r.handles;
        }

    peeked : who ≡ life_at c p → (o : Option ℕ) → size_held k.store (held_as name k.store.held) ≡ o
        → Rested head c at (with_turn at (peeks at t a k.who known o) p1)
    peeked own None none = reported None p1 took (record {
      of_life = refl;
      of_boot = known_now;
      is = sym none;
      took =
          inl (refl, asks own None);
      of_turn = refl;
    }) (was own None p1 refl refl sent_it)
    peeked own (Some size) some = by (held_as name k.store.held) refl some
      where
        here : (l : Lock) → held_as name k.store.held ≡ Some l → Reached l k.store size
            → Rested head c at (with_turn at (peeks at t a k.who known (Some size)) p1)
        here l is r =
            let h = found_held name k.store.held l is in
            let names = and_parts (nat_eq t h.0.target.0) (nat_eq cookie.0 h.0.lock.cookie.0) h.2 in
            let peek : Entry = Peek t cookie size in
            let ok : PeekOk p1 at c t cookie size = record {
              question = report (Some size);
              took = asks own (Some size);
              of_life = refl;
              of_cookie = refl;
              holding = h.0;
              held = h.1;
              of_target = sym (eqb-true t h.0.target.0 names.0);
              of_lock = ap (λ (x : ℕ). record { 0 = x }) (sym (eqb-true cookie.0 h.0.lock.cookie.0 names.1));
              mode = ap (λ (x : Lock). x.ask.mode) h.3 ∙ r.mode;
              extent = r.extent;
              range = ap (λ (x : Lock). x.ask.policy) h.3 ∙ r.range;
              ends = ap (λ (x : Lock). reaches_end x.ask.policy) h.3 ∙ r.ends;
              is = r.is ∙ ap (λ (x : Lock). size_under x k.store) (sym h.3);
              above = r.above;
            } in
            reported (Some size) (line at peek ∷ p1)
            (record {
              good = adds head c stamp p1 peek took.good (owes_nothing p1 at peek took.settled) ok (λ u e. tt) tt refl;
              settled =
                  tt;
              idle = took.idle;
              handles = took.handles;
            })
            (record {
              of_life = refl;
              of_boot = known_now;
              is = sym some;
              took =
                  inr (size, refl, (refl, refl, refl, refl, asks own (Some size)));
              of_turn = refl;
            })
            (was own (Some size) (line at peek ∷ p1) refl refl sent_it)

        by : (found : Option Lock) → held_as name k.store.held ≡ found → size_held k.store found ≡ Some size
            → Rested head c at (with_turn at (peeks at t a k.who known (Some size)) p1)
        by None is e = absurd (cc)
        by (Some l) is e = here l is (reached l k.store size e)

    pub ask_rested : Rested head c at (with_turn at (comes_by at (Target t) m k) p1)
    ask_rested = by (same_life who k.who) refl
      where
        by : (b : Bool) → same_life who k.who ≡ b → Rested head c at (with_turn at (asked at t a k b) p1)
        by false e = took
        by true e = peeked (life_is who k.who e) (size_held k.store (held_as name k.store.held)) refl
