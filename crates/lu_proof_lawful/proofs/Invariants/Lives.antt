-- Whose lives a target serves: of each client one at most has a slot, none newer than the client's own; and who is served there,
-- or spoke to it as one that is, has a slot or was evicted.
use Rattle.std.proofs.Common.{◌≡◌, ℕ, ◌+◌, ◌<◌, ◌≤◌, Bool, true, false, List, [], ◌∷◌, Option, ◌⊎◌, inl, inr, ⊎_elim, refl, sym, subst, ap}
use Rattle.std.proofs.Common.{◌∙◌, arith}
use Rattle.std.specs.Prelude.{nat_eq, if◌then◌else◌}
use Rattle.std.proofs.lemmas.Bool.{cond_both, eqb-true}
use Rattle.lu_base.specs.declared.ids.Node.{Node}
use Rattle.lu_base.specs.declared.ids.Node.TheVariants.{Client, Target}
use Rattle.lu_base.specs.declared.ids.Stamp.{Stamp}
use Rattle.lu_base.specs.declared.ids.Who.{Who}
use Rattle.lu_base.specs.declared.locks.Cause.{Cause}
use Rattle.lu_base.specs.declared.locks.Lock.{Lock}
use Rattle.lu_msg.specs.declared.messages.Message.{Message}
use Rattle.lu_msg.specs.declared.messages.Message.TheVariants as message
use Rattle.lu_msg.specs.declared.messages.Request.{Request as RequestOf}
use Rattle.lu_spec_entries.specs.Carried.{Deed, Flight, Outcome}
use Rattle.lu_spec_entries.specs.Words.{Entry, Send, Flies, Knows, Serves, Life, Act, Txn as Made, Grant, Wait, Answers, Evict, Joined}
use Rattle.lu_spec_entries.specs.Words.{Close, Line, line, same_life}
use Rattle.lu_spec_target.specs.Lives.{is_life}
use Rattle.lu_proof_lawful.specs.Covered.Calls.{first_life}
use Rattle.lu_proof_lawful.specs.Covered.Imports.{Standing, Joining, Recovering, Serving, interrupted}
use Rattle.lu_proof_lawful.specs.Covered.TargetStates.{lives_of, evicted_of, closed_of}
use Rattle.lu_proof_lawful.specs.Covered.ClientStates.{life_of, known_of, standing_of, is_own}
use Rattle.lu_proof_lawful.specs.Covered.Heads.{Head}
use Rattle.lu_proof_lawful.proofs.Preconditions.Guards.{Was}
use Rattle.lu_proof_lawful.proofs.Preconditions.StoryGuards.{Newer, SaidBy, Spoke, BootKnownOk, TellsOk, FliesOk, LifeOf, ServesOk, EvictOk}
use Rattle.lu_proof_lawful.proofs.Preconditions.StoryGuards.{LeavesOk, JoinedOk, ComesOk, SendOf, EntryOf}
use Rattle.lu_proof_lawful.proofs.Preconditions.Grown.{IsOneOf, IsPlaced}
use Rattle.lu_proof_lawful.proofs.Preconditions.Lists.{life_self, own_is, same_who}
use Rattle.lu_proof_lawful.proofs.Invariants.Groups.{turn, HoldsAt}
use Rattle.lu_proof_lawful.proofs.Invariants.TargetGroups.{Flew, Phase, Numbers, Done, Locks, Evicted, Had, boot_told, who_told, Lives}
use Rattle.lu_proof_lawful.proofs.Invariants.Phase.{life_rises}
use Rattle.lu_proof_lawful.proofs.Invariants.LifeLists.{older_than, first_among, put_or, goes_or, from_low, goes_none, puts_there}
use Rattle.lu_proof_lawful.proofs.Invariants.LivesClose.{lives_close}
use Rattle.lu_proof_lawful.proofs.Preconditions.LifeLists.{stands_life, life_put, life_put_more, life_left, not_same, from_first, none_is}

-- ---- the start

first_only : (clients : ℕ) (w : Who) → is_life w (lives_of clients []) ≡ true → w.life ≡ 1
first_only clients w t = from_first w 0 clients (stands_life w (lives_of clients []) t)

first_low : (clients : ℕ) (w : Who) → is_life w (lives_of clients []) ≡ true → w.client < clients
first_low clients w t = let lt = from_low w 0 clients (stands_life w (lives_of clients []) t) in omega (arith, lt)

pub lives_start : (clients : ℕ) → Lives clients []
lives_start clients =
    record {
      knows = λ w t. (first_low clients w t, omega arith);
      low = λ w h. ⊎_elim (λ (t : is_life w (lives_of clients []) ≡ true). let e = first_only clients w t in omega arith)
          (λ (t : Evicted [] w). absurd (cc)) h;
      one = λ w x t u c. same_who w x c (first_only clients w t ∙ sym (first_only clients x u));
      apart = λ w x t e c. absurd (cc);
      first = λ c lt. inl (first_among 0 clients c (omega arith) (omega (arith, lt)));
      served = λ c lt s. inl (first_among 0 clients c (omega arith) (omega (arith, lt)));
      flew = λ who f a. absurd a;
      acted = λ d a. absurd a;
      spoke = λ from to who m w. absurd w;
      ready = λ from to who boot committed w. absurd w;
      over = λ from to who boot w. absurd w;
      knew = λ from to m w. absurd w;
      joins = λ from to who boot w. absurd w;
      silent = λ c j f a. absurd a;
    }

-- ---- who isn't joining

serves_joins : (s : Standing) → s ≡ Serving → s ≡ Joining → ⊥
serves_joins s e j = let both : Serving ≡ Joining = sym e ∙ j in absurd (cc)

recovers_joins : (s : Standing) → s ≡ Recovering → s ≡ Joining → ⊥
recovers_joins s e j = let both : Recovering ≡ Joining = sym e ∙ j in absurd (cc)

interrupted_joins : (s : Standing) → (interrupted s ≡ Joining → ⊥) → s ≡ Joining → ⊥
interrupted_joins Joining n e = n refl
interrupted_joins s n e = absurd (cc)

-- ---- one more request in flight

lives_flies : (head : Head) (past : List Line) (stamp : Stamp) (c t : ℕ) (f : Flight) → FliesOk head past c t f → c < head.clients
    → Phase head.osts past → Lives head.clients past
    → Lives head.clients (line (turn stamp (Client c)) (Flies t f) ∷ past)
lives_flies head past stamp c t f ok lt p h =
    record {
      knows = h.knows;
      low = h.low;
      one = h.one;
      apart = h.apart;
      first = h.first;
      served = h.served;
      flew = λ who g. ⊎_elim
          (λ (p : (is_own who past (Client c) ≡ true) × (f ≡ g)). subst (Had head.clients past) (sym (own_is who past c p.0))
          (h.served c lt (serves_joins (standing_of c past) ok.serves)))
          (λ (p : Flew past who g). h.flew who g p);
      acted = h.acted;
      spoke = h.spoke;
      ready = h.ready;
      over = h.over;
      knew = h.knew;
      joins = h.joins;
      silent = λ d j g. ⊎_elim
          (λ (q : (is_own (life_of d past) past (Client c) ≡ true) × (f ≡ g)).
          let same : d ≡ c = sym (p.client d) ∙ ap (λ (v : Who). v.client) (own_is (life_of d past) past c q.0) ∙ p.client c in
          serves_joins (standing_of c past) ok.serves (subst (λ v. standing_of v past ≡ Joining) same j))
          (λ (q : Flew past (life_of d past) g). h.silent d j g q);
    }

-- ---- the target serves the life, which had a slot there when it was told so

lives_serves : (clients : ℕ) (past : List Line) (stamp : Stamp) (c t boot : ℕ) → ServesOk past c t boot → Lives clients past
    → Lives clients (line (turn stamp (Client c)) (Serves t boot) ∷ past)
lives_serves clients past stamp c t boot ok h =
    record {
      knows = h.knows;
      low = h.low;
      one = h.one;
      apart = h.apart;
      first = h.first;
      served = λ d lt. cond_both (nat_eq d c) Serving (standing_of d past)
          (λ (s : Standing). (s ≡ Joining → ⊥) → Had clients past (life_of d past))
          (λ q s. subst (λ v. Had clients past (life_of v past)) (sym (eqb-true d c q))
          (h.ready (Target t) (Client c) (life_of c past) boot ok.committed ok.was))
          (λ q s. h.served d lt s);
      flew = h.flew;
      acted = h.acted;
      spoke = h.spoke;
      ready = h.ready;
      over = h.over;
      knew = h.knew;
      joins = h.joins;
      silent = λ d. cond_both (nat_eq d c) Serving (standing_of d past)
          (λ (s : Standing). s ≡ Joining → (f : Flight) → Flew past (life_of d past) f → ⊥) (λ q j. absurd (cc)) (λ q j. h.silent d j);
    }

-- ---- a client is told a newer boot, under which its life recovers if it doesn't join

-- one that joins was joining before
pub still_joins : (s : Standing) → interrupted s ≡ Joining → s ≡ Joining
still_joins Joining e = refl
still_joins Recovering e = absurd (cc)
still_joins Serving e = absurd (cc)

-- the boot that it knows rises
pub known_rises : (past : List Line) (stamp : Stamp) (c t boot : ℕ) → BootKnownOk past c t boot → (d : ℕ)
    → known_of d past ≤ known_of d (line (turn stamp (Client c)) (Knows t boot) ∷ past)
known_rises past stamp c t boot ok d =
    cond_both (nat_eq d c) boot (known_of d past) (λ (n : ℕ). known_of d past ≤ n)
    (λ q. let lt = ok.newer in let s : known_of d past ≡ known_of c past = ap (λ v. known_of v past) (eqb-true d c q) in omega arith)
    (λ q. omega arith)

lives_knows : (clients : ℕ) (past : List Line) (stamp : Stamp) (c t boot : ℕ) → BootKnownOk past c t boot → Lives clients past
    → Lives clients (line (turn stamp (Client c)) (Knows t boot) ∷ past)
lives_knows clients past stamp c t boot ok h =
    record {
      knows = λ w i. let k = h.knows w i in let le = k.1 in let rises = known_rises past stamp c t boot ok w.client in (k.0, omega arith);
      low = h.low;
      one = h.one;
      apart = h.apart;
      first = h.first;
      served = λ d lt. cond_both (nat_eq d c) (interrupted (standing_of d past)) (standing_of d past)
          (λ (s : Standing). (s ≡ Joining → ⊥) → Had clients past (life_of d past))
          (λ q n. h.served d lt (interrupted_joins (standing_of d past) n))
          (λ q n. h.served d lt n);
      flew = h.flew;
      acted = h.acted;
      spoke = h.spoke;
      ready = h.ready;
      over = h.over;
      knew = λ from to m w. let le = h.knew from to m w in let rises = known_rises past stamp c t boot ok (who_told m).client
          in omega arith;
      joins = h.joins;
      silent = λ d. cond_both (nat_eq d c) (interrupted (standing_of d past)) (standing_of d past)
          (λ (s : Standing). s ≡ Joining → (f : Flight) → Flew past (life_of d past) f → ⊥)
          (λ q j. h.silent d (still_joins (standing_of d past) j))
          (λ q j. h.silent d j);
    }

-- ---- a new life, which isn't served

-- which has asked nothing
pub new_flew : (osts : ℕ) (past : List Line) (c : ℕ) (new : Who) → LifeOf past c new → Phase osts past → Numbers past → (f : Flight)
    → Flew past new f → ⊥
new_flew osts past c new ok p n f a =
    let client : new.client ≡ c = ap (λ (w : Who). w.client) ok.next ∙ p.client c in
    let le : new.life ≤ (life_of c past).life = subst (λ v. new.life ≤ (life_of v past).life) client (n.lived new f a) in
    let more : new.life ≡ (life_of c past).life + 1 = ap (λ (w : Who). w.life) ok.next in
    omega (arith, le, more)

lives_life : (osts clients : ℕ) (past : List Line) (stamp : Stamp) (c : ℕ) (new : Who) → LifeOf past c new → Phase osts past → Numbers past
    → Lives clients past → Lives clients (line (turn stamp (Client c)) (Life new) ∷ past)
lives_life osts clients past stamp c new ok p n h =
    record {
      knows = h.knows;
      low = λ w k. let le = h.low w k in let rises = life_rises past stamp c new ok w.client in omega arith;
      one = h.one;
      apart = h.apart;
      first = h.first;
      served = λ d lt. by d lt (nat_eq d c);
      flew = h.flew;
      acted = h.acted;
      spoke = h.spoke;
      ready = h.ready;
      over = h.over;
      knew = h.knew;
      joins = h.joins;
      silent = λ d. quiet d (nat_eq d c);
    }
  where
    by : (d : ℕ) → d < clients → (b : Bool) → ((if b then Joining else standing_of d past) ≡ Joining → ⊥)
        → Had clients past (if b then new else life_of d past)
    by d lt true s = absurd (s refl)
    by d lt false s = h.served d lt s

    quiet : (d : ℕ) (b : Bool) → (if b then Joining else standing_of d past) ≡ Joining → (f : Flight)
        → Flew past (if b then new else life_of d past) f → ⊥
    quiet d true j f a = new_flew osts past c new ok p n f a
    quiet d false j f a = h.silent d j f a

-- ---- what was done is of a life that flew

lives_act : (osts clients : ℕ) (past : List Line) (stamp : Stamp) (t : ℕ) (d : Deed) → let new = line (turn stamp (Target t)) (Act d) ∷ past
    in Done osts clients new → Lives clients past → Lives clients new
lives_act osts clients past stamp t d k h =
    record {
      knows = h.knows;
      low = h.low;
      one = h.one;
      apart = h.apart;
      first = h.first;
      served = h.served;
      flew = h.flew;
      acted = λ e a. let f = k.flew e a in h.flew e.reply.who f.0 f.1;
      spoke = h.spoke;
      ready = h.ready;
      over = h.over;
      knew = h.knew;
      joins = h.joins;
      silent = h.silent;
    }

lives_txn : (osts clients : ℕ) (past : List Line) (stamp : Stamp) (t : ℕ) (d : Deed) → let new = line (turn stamp (Target t)) (Made d)
    ∷ past in Done osts clients new → Lives clients past → Lives clients new
lives_txn osts clients past stamp t d k h =
    record {
      knows = h.knows;
      low = h.low;
      one = h.one;
      apart = h.apart;
      first = h.first;
      served = h.served;
      flew = h.flew;
      acted = λ e a. let f = k.flew e a in h.flew e.reply.who f.0 f.1;
      spoke = h.spoke;
      ready = h.ready;
      over = h.over;
      knew = h.knew;
      joins = h.joins;
      silent = h.silent;
    }

lives_grant : (osts clients : ℕ) (past : List Line) (stamp : Stamp) (t : ℕ) (lock : Lock) (asked : Option Deed)
    → let new = line (turn stamp (Target t)) (Grant lock asked) ∷ past in Done osts clients new → Lives clients past → Lives clients new
lives_grant osts clients past stamp t lock asked k h =
    record {
      knows = h.knows;
      low = h.low;
      one = h.one;
      apart = h.apart;
      first = h.first;
      served = h.served;
      flew = h.flew;
      acted = λ e a. let f = k.flew e a in h.flew e.reply.who f.0 f.1;
      spoke = h.spoke;
      ready = h.ready;
      over = h.over;
      knew = h.knew;
      joins = h.joins;
      silent = h.silent;
    }

lives_wait : (osts clients : ℕ) (past : List Line) (stamp : Stamp) (t : ℕ) (lock : Lock) (d : Deed) → let new =
    line (turn stamp (Target t)) (Wait lock d) ∷ past in Done osts clients new → Lives clients past → Lives clients new
lives_wait osts clients past stamp t lock d k h =
    record {
      knows = h.knows;
      low = h.low;
      one = h.one;
      apart = h.apart;
      first = h.first;
      served = h.served;
      flew = h.flew;
      acted = λ e a. let f = k.flew e a in h.flew e.reply.who f.0 f.1;
      spoke = h.spoke;
      ready = h.ready;
      over = h.over;
      knew = h.knew;
      joins = h.joins;
      silent = h.silent;
    }

lives_answers : (osts clients : ℕ) (past : List Line) (stamp : Stamp) (t : ℕ) (d : Deed) → let new =
    line (turn stamp (Target t)) (Answers d) ∷ past in Done osts clients new → Lives clients past → Lives clients new
lives_answers osts clients past stamp t d k h =
    record {
      knows = h.knows;
      low = h.low;
      one = h.one;
      apart = h.apart;
      first = h.first;
      served = h.served;
      flew = h.flew;
      acted = λ e a. let f = k.flew e a in h.flew e.reply.who f.0 f.1;
      spoke = h.spoke;
      ready = h.ready;
      over = h.over;
      knew = h.knew;
      joins = h.joins;
      silent = h.silent;
    }

-- ---- a life leaves, or one joins: who had a slot did so

newer_more : (clients : ℕ) (past new : List Line) → ((x : Who) → Had clients past x → Had clients new x) → (who : Who)
    → Newer clients past who → Newer clients new who
newer_more clients past new more who n = record { life = n.life; client = n.client; newer = n.newer; had = more n.life n.had }

over_more : (clients : ℕ) (past new : List Line) → ((x : Who) → Had clients past x → Had clients new x)
    → ((x : Who) → Evicted past x → Evicted new x) → (who : Who) → Evicted past who ⊎ Newer clients past who → Evicted new who
    ⊎ Newer clients new who
over_more clients past new more evicted who (inl e) = inl (evicted who e)
over_more clients past new more evicted who (inr n) = inr (newer_more clients past new more who n)

module _ (head : Head) (past : List Line) (stamp : Stamp) (t : ℕ) (who : Who) (cause : Cause)
    (ok : EvictOk head past (turn stamp (Target t)) who cause) (h : Lives head.clients past) where
  abbrev evicts : List Line
  evicts = line (turn stamp (Target t)) (Evict who cause) ∷ past

  -- what still has a slot had one, and isn't the life that left
  rests : (x : Who) → is_life x (lives_of head.clients evicts) ≡ true → (is_life x (lives_of head.clients past) ≡ true)
      × (same_life x who ≡ false)
  rests x e = let left = life_left x who (lives_of head.clients past) e in (left.0, not_same x who left.1)

  left : (x : Who) → Evicted evicts x → (x ≡ who) ⊎ Evicted past x
  left x e = put_or x who (evicted_of past) e

  had_before : (x : Who) → Had head.clients evicts x → Had head.clients past x
  had_before x = ⊎_elim
      (λ (e : is_life x (lives_of head.clients evicts) ≡ true). inl (rests x e).0)
      (λ (e : Evicted evicts x). ⊎_elim (λ (s : x ≡ who). subst (Had head.clients past) (sym s) (inl ok.has))
      (λ (k : Evicted past x). inr k) (left x e))

  evicted_still : (x : Who) → Evicted past x → Evicted evicts x
  evicted_still x e = life_put_more x who (evicted_of past) e

  evicted_now : (x : Who) → x ≡ who → Evicted evicts x
  evicted_now x s = subst (Evicted evicts) (sym s) (life_put who (evicted_of past))

  had_still : (x : Who) → Had head.clients past x → Had head.clients evicts x
  had_still x = ⊎_elim
      (λ (e : is_life x (lives_of head.clients past) ≡ true). ⊎_elim (λ (s : x ≡ who). inr (evicted_now x s))
      (λ (stays : is_life x (lives_of head.clients evicts) ≡ true). inl stays) (goes_or x who (lives_of head.clients past) e))
      (λ (e : Evicted past x). inr (evicted_still x e))

  -- the life that left was the one of its client
  apart_now : (w x : Who) → is_life w (lives_of head.clients evicts) ≡ true → Evicted evicts x → w.client ≡ x.client → x.life < w.life
  apart_now w x e k c =
      let r = rests w e in
      ⊎_elim
      (λ (s : x ≡ who). let same : w ≡ who = h.one w who r.0 ok.has (c ∙ ap (λ (v : Who). v.client) s) in let u = life_self who
      in let v : same_life w who ≡ same_life who who = ap (λ (y : Who). same_life y who) same in absurd (let f = r.1 in cc))
      (λ (i : Evicted past x). h.apart w x r.0 i c)
      (left x k)

  lives_evict : Lives head.clients evicts
  lives_evict =
      record {
        knows = λ w k. h.knows w (rests w k).0;
        low = λ w k. h.low w (had_before w k);
        one = λ w x e k. h.one w x (rests w e).0 (rests x k).0;
        apart = apart_now;
        first = λ c lt. had_still (first_life c) (h.first c lt);
        served = λ c lt s. had_still (life_of c past) (h.served c lt s);
        flew = λ x f a. had_still x (h.flew x f a);
        acted = λ d a. had_still d.reply.who (h.acted d a);
        spoke = λ from to x m w s. had_still x (h.spoke from to x m w s);
        ready = λ from to x boot committed w. had_still x (h.ready from to x boot committed w);
        over = λ from to x boot w. over_more head.clients past evicts had_still evicted_still x (h.over from to x boot w);
        knew = h.knew;
        joins = h.joins;
        silent = h.silent;
      }

module _ (head : Head) (past : List Line) (stamp : Stamp) (t : ℕ) (who : Who) (ok : JoinedOk head past (turn stamp (Target t)) t who)
    (k : Done head.osts head.clients past) (h : Lives head.clients past) where
  abbrev comes : List Line
  comes = line (turn stamp (Target t)) (Joined who) ∷ past

  has_now : (x : Who) → is_life x (lives_of head.clients comes) ≡ true → (x ≡ who) ⊎ (is_life x (lives_of head.clients past) ≡ true)
  has_now x e = put_or x who (lives_of head.clients past) e

  has_still : (x : Who) → Had head.clients past x → Had head.clients comes x
  has_still x = ⊎_elim
      (λ (e : is_life x (lives_of head.clients past) ≡ true). inl (life_put_more x who (lives_of head.clients past) e))
      (λ (e : Evicted past x). inr e)

  -- no other life of its client has a slot
  alone : (x : Who) → is_life x (lives_of head.clients past) ≡ true → x.client ≡ who.client → ⊥
  alone x e c = none_is who.client (lives_of head.clients past) ok.none x (stands_life x (lives_of head.clients past) e) c

  -- none that was evicted is as new
  newest : (x : Who) → Evicted past x → who.client ≡ x.client → x.life < who.life
  newest x e c = older_than who (evicted_of past) ok.newer x e (sym c)

  lives_joined : Lives head.clients comes
  lives_joined =
      record {
        knows = λ w e. ⊎_elim
            (λ (s : w ≡ who). subst (λ (v : Who). (v.client < head.clients) × (closed_of past ≤ known_of v.client past)) (sym s) (
              h.joins (Client ok.from) (Target t) who ok.boot ok.was,
              let le =
                  h.knew (Client ok.from) (Target t) (message.Join who ok.boot) ok.was in let low = ok.current in let now = ok.serves.closed
                  in omega arith,
            ))
            (λ (i : is_life w (lives_of head.clients past) ≡ true). h.knows w i)
            (has_now w e);
        low = λ w. ⊎_elim
            (λ (e : is_life w (lives_of head.clients comes) ≡ true). ⊎_elim
            (λ (s : w ≡ who). subst (λ (v : Who). v.life ≤ (life_of v.client past).life) (sym s)
            (k.sent (Client ok.from) (Target t) (message.Join who ok.boot) ok.was))
            (λ (i : is_life w (lives_of head.clients past) ≡ true). h.low w (inl i))
            (has_now w e))
            (λ (e : Evicted past w). h.low w (inr e));
        one = λ w x e j c. ⊎_elim
            (λ (s : w ≡ who). ⊎_elim
            (λ (u : x ≡ who). s ∙ sym u)
            (λ (i : is_life x (lives_of head.clients past) ≡ true). absurd (alone x i (sym c ∙ ap (λ (v : Who). v.client) s)))
            (has_now x j))
            (λ (i : is_life w (lives_of head.clients past) ≡ true). ⊎_elim
            (λ (u : x ≡ who). absurd (alone w i (c ∙ ap (λ (v : Who). v.client) u)))
            (λ (m : is_life x (lives_of head.clients past) ≡ true). h.one w x i m c)
            (has_now x j))
            (has_now w e);
        apart = λ w x e j c. ⊎_elim
            (λ (s : w ≡ who). subst (λ (v : Who). x.life < v.life) (sym s) (newest x j (ap (λ (v : Who). v.client) (sym s) ∙ c)))
            (λ (i : is_life w (lives_of head.clients past) ≡ true). h.apart w x i j c)
            (has_now w e);
        first = λ c lt. has_still (first_life c) (h.first c lt);
        served = λ c lt s. has_still (life_of c past) (h.served c lt s);
        flew = λ x f a. has_still x (h.flew x f a);
        acted = λ d a. has_still d.reply.who (h.acted d a);
        spoke = λ from to x m w s. has_still x (h.spoke from to x m w s);
        ready = λ from to x boot committed w. has_still x (h.ready from to x boot committed w);
        over = λ from to x boot w. over_more head.clients past comes has_still (λ y e. e) x (h.over from to x boot w);
        knew = h.knew;
        joins = h.joins;
        silent = h.silent;
      }

-- ---- what a close shows of lives stands already

-- both lists have the same lives as before
lives_same : (clients : ℕ) (past new : List Line) → ((x : Who) → is_life x (lives_of clients new) ≡ is_life x (lives_of clients past))
    → ((x : Who) → is_life x (evicted_of new) ≡ is_life x (evicted_of past)) → (x : Who) → (Had clients past x → Had clients new x)
    × (Had clients new x → Had clients past x)
lives_same clients past new l e x = (to, from)
  where
    to : Had clients past x → Had clients new x
    to (inl t) = inl (l x ∙ t)
    to (inr t) = inr (e x ∙ t)

    from : Had clients new x → Had clients past x
    from (inl t) = inl (sym (l x) ∙ t)
    from (inr t) = inr (sym (e x) ∙ t)

module _ (head : Head) (past : List Line) (stamp : Stamp) (t : ℕ) (who : Who) (cause : Cause)
    (ok : LeavesOk head past (turn stamp (Target t)) who cause) (h : Lives head.clients past) where
  abbrev shows_left : List Line
  shows_left = line (turn stamp (Target t)) (Evict who cause) ∷ past

  left_lives : (x : Who) → is_life x (lives_of head.clients shows_left) ≡ is_life x (lives_of head.clients past)
  left_lives x = goes_none x who (lives_of head.clients past) ok.gone

  left_evicted : (x : Who) → is_life x (evicted_of shows_left) ≡ is_life x (evicted_of past)
  left_evicted x = puts_there x who (evicted_of past) ok.evicted

  left_had : (x : Who) → (Had head.clients past x → Had head.clients shows_left x)
      × (Had head.clients shows_left x → Had head.clients past x)
  left_had = lives_same head.clients past shows_left left_lives left_evicted

  lives_left : Lives head.clients shows_left
  lives_left =
      record {
        knows = λ w e. h.knows w (sym (left_lives w) ∙ e);
        low = λ w k. h.low w ((left_had w).1 k);
        one = λ w x e k. h.one w x (sym (left_lives w) ∙ e) (sym (left_lives x) ∙ k);
        apart = λ w x e k. h.apart w x (sym (left_lives w) ∙ e) (sym (left_evicted x) ∙ k);
        first = λ c lt. (left_had (first_life c)).0 (h.first c lt);
        served = λ c lt s. (left_had (life_of c past)).0 (h.served c lt s);
        flew = λ x f a. (left_had x).0 (h.flew x f a);
        acted = λ d a. (left_had d.reply.who).0 (h.acted d a);
        spoke = λ from to x m w s. (left_had x).0 (h.spoke from to x m w s);
        ready = λ from to x boot committed w. (left_had x).0 (h.ready from to x boot committed w);
        over = λ from to x boot w. over_more head.clients past shows_left (λ y. (left_had y).0) (λ y e. left_evicted y ∙ e) x
            (h.over from to x boot w);
        knew = h.knew;
        joins = h.joins;
        silent = h.silent;
      }

module _ (head : Head) (past : List Line) (stamp : Stamp) (t : ℕ) (who : Who) (ok : ComesOk head past (turn stamp (Target t)) t who)
    (h : Lives head.clients past) where
  abbrev shows_come : List Line
  shows_come = line (turn stamp (Target t)) (Joined who) ∷ past

  come_lives : (x : Who) → is_life x (lives_of head.clients shows_come) ≡ is_life x (lives_of head.clients past)
  come_lives x = puts_there x who (lives_of head.clients past) ok.has

  come_had : (x : Who) → (Had head.clients past x → Had head.clients shows_come x)
      × (Had head.clients shows_come x → Had head.clients past x)
  come_had = lives_same head.clients past shows_come come_lives (λ x. refl)

  lives_come : Lives head.clients shows_come
  lives_come =
      record {
        knows = λ w e. h.knows w (sym (come_lives w) ∙ e);
        low = λ w k. h.low w ((come_had w).1 k);
        one = λ w x e k. h.one w x (sym (come_lives w) ∙ e) (sym (come_lives x) ∙ k);
        apart = λ w x e k. h.apart w x (sym (come_lives w) ∙ e) k;
        first = λ c lt. (come_had (first_life c)).0 (h.first c lt);
        served = λ c lt s. (come_had (life_of c past)).0 (h.served c lt s);
        flew = λ x f a. (come_had x).0 (h.flew x f a);
        acted = λ d a. (come_had d.reply.who).0 (h.acted d a);
        spoke = λ from to x m w s. (come_had x).0 (h.spoke from to x m w s);
        ready = λ from to x boot committed w. (come_had x).0 (h.ready from to x boot committed w);
        over = λ from to x boot w. over_more head.clients past shows_come (λ y. (come_had y).0) (λ y e. e) x (h.over from to x boot w);
        knew = h.knew;
        joins = h.joins;
        silent = h.silent;
      }

-- ---- one more message

-- what a message says of lives
abbrev Says : ℕ → List Line → Message → Type 0
Says clients past (message.Request r) = Had clients past r.who
Says clients past (message.Cancel who boot cookie) = Had clients past who
Says clients past (message.Where who boot cookie) = Had clients past who
Says clients past (message.Size m) = Had clients past m.who
Says clients past (message.Replay r) = Had clients past r.who
Says clients past (message.Lock r) = Had clients past r.who
Says clients past (message.Word who boot replays locks seen) = Had clients past who
Says clients past (message.Ready who boot committed) = Had clients past who
Says clients past (message.Evicted who boot) = Evicted past who ⊎ Newer clients past who
Says clients past _ = Unit {0}

says_had : (clients : ℕ) (past : List Line) (who : Who) (m : Message) → Says clients past m → SaidBy who m → Had clients past who
says_had clients past who (message.Request r) h s = subst (Had clients past) s h
says_had clients past who (message.Cancel other boot cookie) h s = subst (Had clients past) s h
says_had clients past who (message.Where other boot cookie) h s = subst (Had clients past) s h
says_had clients past who (message.Size m) h s = subst (Had clients past) s h
says_had clients past who (message.Replay r) h s = subst (Had clients past) s h
says_had clients past who (message.Lock r) h s = subst (Had clients past) s h
says_had clients past who (message.Word other boot replays locks seen) h s = subst (Had clients past) s h
says_had clients past who m h s = absurd s

says_old : (clients : ℕ) (past : List Line) (h : Lives clients past) (from into : Node) (m : Message) → Was past from into m
    → Says clients past m
says_old clients past h from into (message.Request r) w = h.spoke from into r.who (message.Request r) w refl
says_old clients past h from into (message.Cancel who boot cookie) w = h.spoke from into who (message.Cancel who boot cookie) w refl
says_old clients past h from into (message.Where who boot cookie) w = h.spoke from into who (message.Where who boot cookie) w refl
says_old clients past h from into (message.Size m) w = h.spoke from into m.who (message.Size m) w refl
says_old clients past h from into (message.Replay r) w = h.spoke from into r.who (message.Replay r) w refl
says_old clients past h from into (message.Lock r) w = h.spoke from into r.who (message.Lock r) w refl
says_old clients past h from into (message.Word who boot replays locks seen) w =
    h.spoke from into who (message.Word who boot replays locks seen) w refl
says_old clients past h from into (message.Ready who boot committed) w = h.ready from into who boot committed w
says_old clients past h from into (message.Evicted who boot) w = h.over from into who boot w
says_old clients past h from into m w = tt

-- what is sent of a life that tells of itself, and of one that joins
abbrev Tells : ℕ → List Line → Message → Type 0
Tells clients past m = (boot_told m ≤ known_of (who_told m).client past)
    × ((who : Who) (boot : ℕ) → m ≡ message.Join who boot → who.client < clients)

module _ (clients : ℕ) (past : List Line) (stamp : Stamp) (node to : Node) (m : Message) (tells : Tells clients past m)
    (h : Lives clients past) where
  sends_knew : (from into : Node) (p : Message) → Was (line (turn stamp node) (Send to m) ∷ past) from into p
      → boot_told p ≤ known_of (who_told p).client past
  sends_knew from into p = ⊎_elim
      (λ (q : (node ≡ from) × (to ≡ into) × (m ≡ p)). subst (λ v. boot_told v ≤ known_of (who_told v).client past) q.2 tells.0)
      (λ (w : Was past from into p). h.knew from into p w)

  sends_joins : (from into : Node) (who : Who) (boot : ℕ) → Was (line (turn stamp node) (Send to m) ∷ past) from into
      (message.Join who boot) → who.client < clients
  sends_joins from into who boot = ⊎_elim
      (λ (q : (node ≡ from) × (to ≡ into) × (m ≡ message.Join who boot)). tells.1 who boot q.2)
      (λ (w : Was past from into (message.Join who boot)). h.joins from into who boot w)

module _ (clients : ℕ) (past : List Line) (stamp : Stamp) (node to : Node) (m : Message) (says : Says clients past m)
    (h : Lives clients past) where
  sends : (from into : Node) (p : Message) → (Was past from into p → Says clients past p)
      → Was (line (turn stamp node) (Send to m) ∷ past) from into p → Says clients past p
  sends from into p old = ⊎_elim (λ (q : (node ≡ from) × (to ≡ into) × (m ≡ p)). subst (Says clients past) q.2 says) old

lives_send : (clients : ℕ) (past : List Line) (stamp : Stamp) (node to : Node) (m : Message) → Says clients past m → Tells clients past m
    → Lives clients past → Lives clients (line (turn stamp node) (Send to m) ∷ past)
lives_send clients past stamp (Client c) to m says tells h =
    record {
      knows = h.knows;
      low = h.low;
      one = h.one;
      apart = h.apart;
      first = h.first;
      served = h.served;
      flew = h.flew;
      acted = h.acted;
      spoke = λ from into who p w s. says_had clients past who p
          (sends clients past stamp (Client c) to m says h from into p (λ v. says_old clients past h from into p v) w) s;
      ready = λ from into who boot committed. sends clients past stamp (Client c) to m says h from into (message.Ready who boot committed)
          (h.ready from into who boot committed);
      over = λ from into who boot. sends clients past stamp (Client c) to m says h from into (message.Evicted who boot)
          (h.over from into who boot);
      knew = sends_knew clients past stamp (Client c) to m tells h;
      joins = sends_joins clients past stamp (Client c) to m tells h;
      silent = h.silent;
    }
lives_send clients past stamp (Target t) to m says tells h =
    record {
      knows = h.knows;
      low = h.low;
      one = h.one;
      apart = h.apart;
      first = h.first;
      served = h.served;
      flew = h.flew;
      acted = h.acted;
      spoke = λ from into who p w s. says_had clients past who p
          (sends clients past stamp (Target t) to m says h from into p (λ v. says_old clients past h from into p v) w) s;
      ready = λ from into who boot committed. sends clients past stamp (Target t) to m says h from into (message.Ready who boot committed)
          (h.ready from into who boot committed);
      over = λ from into who boot. sends clients past stamp (Target t) to m says h from into (message.Evicted who boot)
          (h.over from into who boot);
      knew = sends_knew clients past stamp (Target t) to m tells h;
      joins = sends_joins clients past stamp (Target t) to m tells h;
      silent = h.silent;
    }

-- who spoke and has no slot was evicted
spoke_evicted : (clients : ℕ) (past : List Line) (t : ℕ) (who : Who) → is_life who (lives_of clients past) ≡ false → Spoke past t who
    → Lives clients past → Evicted past who
spoke_evicted clients past t who none spoke h = gone (h.spoke (Client spoke.0) (Target t) who spoke.1 spoke.2 spoke.3)
  where
    gone : Had clients past who → Evicted past who
    gone (inl t) = absurd (cc)
    gone (inr e) = e

-- who recovers isn't joining
told_had : (head : Head) (past : List Line) (c : ℕ) → c < head.clients → (who : Who) (boot : ℕ) → TellsOk past c who boot
    → Lives head.clients past → Had head.clients past who
told_had head past c one who boot ok h = subst (Had head.clients past) (sym ok.of_life)
    (h.served c one (recovers_joins (standing_of c past) ok.recovers))

sent_says : (head : Head) (past : List Line) (stamp : Stamp) (node to : Node) (m : Message) → SendOf head past node to m → IsOneOf head node
    → Done head.osts head.clients past → Locks head.osts head.clients (line (turn stamp node) (Send to m) ∷ past) → Lives head.clients past
    → Says head.clients past m
sent_says head past stamp (Client c) (Target t) (message.Request r) ok one n k h =
    subst (Had head.clients past) (sym (ap (λ (v : RequestOf). v.who) ok.is)) (h.served c one (serves_joins (standing_of c past) ok.serves))
sent_says head past stamp (Client c) (Target t) (message.Cancel who boot cookie) ok one n k h =
    let g = k.cancels (Client c) (Target t) who boot cookie (inl (refl, refl, refl)) in
    subst (Had head.clients past) g.of (h.acted g.deed g.gave.0)
sent_says head past stamp (Client c) (Target t) (message.Where who boot cookie) ok one n k h =
    subst (Had head.clients past) (sym ok.of_life) (h.served c one (serves_joins (standing_of c past) ok.serves))
sent_says head past stamp (Client c) (Target t) (message.Size m) ok one n k h = let asked =
    (n.sent (Target t) (Client c) (message.Ask m.who ok.boot m.cookie m.for_who m.xid) ok.was).1 in h.flew m.who asked.0 asked.1
sent_says head past stamp (Client c) (Target t) (message.Join who boot) ok one n k h = tt
sent_says head past stamp (Client c) (Target t) (message.Replay r) ok one n k h = told_had head past c one r.who r.boot ok.tells h
sent_says head past stamp (Client c) (Target t) (message.Lock r) ok one n k h = told_had head past c one r.who r.boot ok.tells h
sent_says head past stamp (Client c) (Target t) (message.Word who boot replays locks seen) ok one n k h =
    told_had head past c one who boot ok.tells h
sent_says head past stamp (Target t) (Client c) (message.Up boot) ok one n k h = tt
sent_says head past stamp (Target t) (Client c) (message.Grant g) ok one n k h = tt
sent_says head past stamp (Target t) (Client c) (message.Ask who boot cookie for_who xid) ok one n k h = tt
sent_says head past stamp (Target t) (Client c) (message.Reply r) ok one n k h = tt
sent_says head past stamp (Target t) (Client c) (message.Block who boot cookie) ok one n k h = tt
sent_says head past stamp (Target t) (Client c) (message.Ready who boot committed) ok one n k h = inl ok.has
sent_says head past stamp (Target t) (Client c) (message.Evicted who boot) ok one n k h = by ok.cause
  where
    by : (is_life who (evicted_of past) ≡ true) ⊎ ((is_life who (lives_of head.clients past) ≡ false) × Spoke past t who)
        ⊎ Newer head.clients past who → Evicted past who ⊎ Newer head.clients past who
    by (inl e) = inl e
    by (inr (inl s)) = inl (spoke_evicted head.clients past t who s.0 s.1 h)
    by (inr (inr n)) = inr n
sent_says head past stamp node to m ok one n k h = absurd ok

join_who : (who other : Who) (boot b : ℕ) → message.Join who boot ≡ message.Join other b → who ≡ other
join_who who other boot b e = cc

-- of the boot that the client knows
own_knew : (osts : ℕ) (past : List Line) (c : ℕ) (who : Who) (boot : ℕ) → who ≡ life_of c past → boot ≡ known_of c past → Phase osts past
    → boot ≤ known_of who.client past
own_knew osts past c who boot e b p =
    let client : who.client ≡ c = ap (λ (w : Who). w.client) e ∙ p.client c in
    let same : known_of who.client past ≡ known_of c past = ap (λ v. known_of v past) client in
    omega arith

sent_tells : (head : Head) (past : List Line) (node to : Node) (m : Message) → SendOf head past node to m → IsOneOf head node
    → Phase head.osts past → Tells head.clients past m
sent_tells head past (Client c) (Target t) (message.Replay r) ok one p =
    (own_knew head.osts past c r.who r.boot ok.tells.of_life ok.tells.of_boot p, λ who boot e. absurd (cc))
sent_tells head past (Client c) (Target t) (message.Lock r) ok one p =
    (own_knew head.osts past c r.who r.boot ok.tells.of_life ok.tells.of_boot p, λ who boot e. absurd (cc))
sent_tells head past (Client c) (Target t) (message.Word who boot replays locks seen) ok one p =
    (own_knew head.osts past c who boot ok.tells.of_life ok.tells.of_boot p, λ w b e. absurd (cc))
sent_tells head past (Client c) (Target t) (message.Join who boot) ok one p = (
  own_knew head.osts past c who boot ok.of_life ok.of_boot p,
  λ w b e.
      let same : who ≡ w = join_who who w boot b e in
      subst (λ (v : Who). v.client < head.clients) same (subst (λ n. n < head.clients)
      (sym (ap (λ (v : Who). v.client) ok.of_life ∙ p.client c)) one),
)
sent_tells head past (Client c) (Client d) m ok one p = absurd ok
sent_tells head past (Target t) (Target u) m ok one p = absurd ok
sent_tells head past (Target t) (Client c) (message.Replay r) ok one p = absurd ok
sent_tells head past (Target t) (Client c) (message.Lock r) ok one p = absurd ok
sent_tells head past (Target t) (Client c) (message.Word who boot replays locks seen) ok one p = absurd ok
sent_tells head past (Target t) (Client c) (message.Join who boot) ok one p = absurd ok
sent_tells head past node to m ok one p = (omega arith, λ who boot e. absurd (cc))

-- ---- each line: by what was done and the locks after it

pub keeps_lives : (head : Head) (past : List Line) (stamp : Stamp) (node : Node) (e : Entry) → EntryOf head past (turn stamp node) node e
    → IsPlaced head past (line (turn stamp node) e) → HoldsAt head past
    → Done head.osts head.clients (line (turn stamp node) e ∷ past) → Locks head.osts head.clients (line (turn stamp node) e ∷ past)
    → Lives head.clients (line (turn stamp node) e ∷ past)
keeps_lives head past stamp (Client c) (Send to m) ok placed h n k =
    lives_send head.clients past stamp (Client c) to m (sent_says head past stamp (Client c) to m ok placed.one h.done k h.lives)
    (sent_tells head past (Client c) to m ok placed.one h.phase) h.lives
keeps_lives head past stamp (Target t) (Send to m) ok placed h n k =
    lives_send head.clients past stamp (Target t) to m (sent_says head past stamp (Target t) to m ok placed.one h.done k h.lives)
    (sent_tells head past (Target t) to m ok placed.one h.phase) h.lives
keeps_lives head past stamp (Client c) (Flies t f) ok placed h n k = lives_flies head past stamp c t f ok placed.one h.phase h.lives
keeps_lives head past stamp (Client c) (Serves t boot) ok placed h n k = lives_serves head.clients past stamp c t boot ok h.lives
keeps_lives head past stamp (Client c) (Life who) ok placed h n k =
    lives_life head.osts head.clients past stamp c who ok h.phase h.numbers h.lives
keeps_lives head past stamp (Client c) (Knows t boot) ok placed h n k = lives_knows head.clients past stamp c t boot ok h.lives
keeps_lives head past stamp (Client c) (Act e) ok placed h n k = absurd ok
keeps_lives head past stamp (Client c) (Made e) ok placed h n k = absurd ok
keeps_lives head past stamp (Target t) (Act e) ok placed h n k = lives_act head.osts head.clients past stamp t e n h.lives
keeps_lives head past stamp (Target t) (Made e) ok placed h n k = lives_txn head.osts head.clients past stamp t e n h.lives
keeps_lives head past stamp (Client c) (Wait lock e) ok placed h n k = absurd ok
keeps_lives head past stamp (Client c) (Answers e) ok placed h n k = absurd ok
keeps_lives head past stamp (Target t) (Wait lock e) ok placed h n k = lives_wait head.osts head.clients past stamp t lock e n h.lives
keeps_lives head past stamp (Target t) (Answers e) ok placed h n k = lives_answers head.osts head.clients past stamp t e n h.lives
keeps_lives head past stamp (Client c) (Grant lock asked) ok placed h n k = absurd ok
keeps_lives head past stamp (Target t) (Grant lock asked) ok placed h n k =
    lives_grant head.osts head.clients past stamp t lock asked n h.lives
keeps_lives head past stamp (Target t) (Evict who cause) ok placed h n k =
    ⊎_elim (λ (o : EvictOk head past (turn stamp (Target t)) who cause). lives_evict head past stamp t who cause o h.lives)
    (λ (o : LeavesOk head past (turn stamp (Target t)) who cause). lives_left head past stamp t who cause o h.lives) ok
keeps_lives head past stamp (Target t) (Joined who) ok placed h n k =
    ⊎_elim (λ (o : JoinedOk head past (turn stamp (Target t)) t who). lives_joined head past stamp t who o h.done h.lives)
    (λ (o : ComesOk head past (turn stamp (Target t)) t who). lives_come head past stamp t who o h.lives) ok
keeps_lives head past stamp (Target t) (Close o) ok placed h n k =
    subst (λ (v : Outcome). Lives head.clients (line (turn stamp (Target t)) (Close v) ∷ past)) (sym ok.is)
    (lives_close head past stamp t o ok h.recovers h.lives)
keeps_lives head past stamp (Target t) (Flies u f) ok placed h n k = absurd ok
keeps_lives head past stamp node e ok placed h n k = h.lives
