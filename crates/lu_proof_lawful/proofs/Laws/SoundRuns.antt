-- After every line of a run what a client changed of objects lies under locks to write that it holds, while its life isn't over.
use Rattle.std.proofs.Common.{◌≡◌, ℕ, zero, suc, ◌+◌, Bool, true, false, List, [], ◌∷◌, ◌⊎◌, inl, inr, ⊎_elim, Option, Some, None, refl}
use Rattle.std.proofs.Common.{sym, subst, ap, ◌∙◌, arith}
use Rattle.std.specs.Prelude.{nat_eq, pos}
use Rattle.std.proofs.lemmas.Bool.{cond-true, cond-false, eqb-true, or_parts}
use Rattle.lu_base.specs.declared.ids.Node.{Node}
use Rattle.lu_base.specs.declared.ids.Node.TheVariants.{Client, Target}
use Rattle.lu_base.specs.declared.ids.Stamp.{Stamp}
use Rattle.lu_base.specs.declared.ids.Who.{Who}
use Rattle.lu_base.specs.declared.locks.Resource.{Resource}
use Rattle.lu_msg.specs.declared.calls.Call.{Call}
use Rattle.lu_msg.specs.declared.calls.Call.TheVariants as call
use Rattle.lu_msg.specs.declared.operations.Op.{Op}
use Rattle.lu_msg.specs.declared.operations.Op.TheVariants as op
use Rattle.lu_spec_entries.specs.Carried.{HandleFile, Queued}
use Rattle.lu_spec_entries.specs.Words.{Entry, Take, Queues, Flies, Heard, Hold, Drop, Life, Pins, Unpins, Marks, Unmarks, Changes}
use Rattle.lu_spec_entries.specs.Words.{WritesBack, Acks, Fills, Zeroes, Grown as GrownTo, Shows, Line, line, is_client}
use Rattle.lu_spec_client.specs.Caches.{patch_at}
use Rattle.lu_spec_client.specs.Imports.{Import, imports_from}
use Rattle.lu_spec_client.specs.Patches.{in_flight}
use Rattle.lu_spec_client.specs.States.{Client as ClientState, client_at}
use Rattle.lu_proof_lawful.specs.Covered.Calls.{operation_of, becomes, life_at}
use Rattle.lu_proof_lawful.specs.Covered.Heads.{Head, IsHead}
use Rattle.lu_proof_run.proofs.Clients.{client_first, client_other}
use Rattle.lu_proof_objects.specs.Sound.{Asked, backs_to}
use Rattle.lu_proof_lawful.proofs.Preconditions.Guards.{marks_of, Noticed, MarkedOk, CallAsksOk, NamesAskOk, SizeAskOk, LockAskOk, GetAskOk}
use Rattle.lu_proof_lawful.proofs.Preconditions.Guards.{BackAskOk}
use Rattle.lu_proof_lawful.proofs.Preconditions.Heeds.{AllHeed, HeedsNext, none_owed}
use Rattle.lu_proof_lawful.proofs.Preconditions.Grown.{Allowed, Grown}
use Rattle.lu_proof_lawful.proofs.Preconditions.Lists.{self, turn}
use Rattle.lu_proof_lawful.proofs.Preconditions.PinsFit.{PinsFit}
use Rattle.lu_proof_lawful.specs.Projection.Lives.{is_over}
use Rattle.lu_proof_lawful.proofs.Refinement.MarksOwed.{none_marked}
use Rattle.lu_proof_lawful.proofs.Refinement.OverLives.{noticed_over}
use Rattle.lu_proof_lawful.proofs.Laws.Sounds.{limits_from, imports_of, Backed}
use Rattle.lu_proof_lawful.proofs.Laws.SoundImports.{none_first, first_asks}
use Rattle.lu_proof_lawful.proofs.Laws.SoundLines.{SoundAt, AckFirst, after_line, state_is, quiet_line, popped_line}
use Rattle.lu_proof_lawful.proofs.Laws.SoundSteps.{changes_line, takes_line}
use Rattle.lu_proof_lawful.proofs.Laws.SoundAsks.{IsNoBack, queues_other, queues_back, flies_line}
use Rattle.lu_proof_lawful.proofs.Laws.SoundEnds.{locks_stay, heard_line, drops_line, acks_line}

-- ---- at the start

start : (head : Head) (c : ℕ) → SoundAt head c []
start head c =
    record {
      now = subst (λ (is : List Import). Backed [] [] is) (sym (ap (λ (k : ClientState). k.imports) (client_first (limits_from head) c)))
          (record {
            objects = λ r. record { rises = tt; dirty = λ p b. absurd (cc); cut = λ n e. absurd (cc) };
            asked =
                λ t o a. absurd (first_asks t (head.osts + 1) o a);
            single = λ r. let e = none_first r (head.osts + 1) in omega (arith, e);
          });
      first = tt;
      acks = λ r more m. absurd (cc);
      took = tt;
    }

-- ---- a line of another node

marks_other : (c : ℕ) (l : Line) (past : List Line) → is_client c l.at.node ≡ false → marks_of c (l ∷ past) ≡ marks_of c past
marks_other c l past out = by l.entry
  where
    by : (e : Entry) → marks_of c (line l.at e ∷ past) ≡ marks_of c past
    by (Heard t f r) = cond-false (is_client c l.at.node) _ (marks_of c past) out
    by (Acks r) = cond-false (is_client c l.at.node) _ (marks_of c past) out
    by (Fills r o bs) = cond-false (is_client c l.at.node) _ (marks_of c past) out
    by (Zeroes r n) = cond-false (is_client c l.at.node) _ (marks_of c past) out
    by (GrownTo r ch) = cond-false (is_client c l.at.node) _ (marks_of c past) out
    by (Shows r k n) = cond-false (is_client c l.at.node) _ (marks_of c past) out
    by e = refl

other_line : (head : Head) (c : ℕ) (l : Line) (past : List Line) → is_client c l.at.node ≡ false → SoundAt head c past
    → SoundAt head c (l ∷ past)
other_line head c l past out s =
    record {
      now = subst (λ (k : ClientState). Backed k.store.held k.store.patches k.imports) (sym same) s.now;
      first = subst AckFirst (sym (marks_other c l past out)) s.first;
      acks = λ r more m.
          let a = s.acks r more (sym (marks_other c l past out) ∙ m) in (
            ap (λ (k : ClientState). backs_to r k.imports) same ∙ a.0,
            ap (λ (k : ClientState). in_flight (patch_at r k.store.patches)) same
                ∙ a.1,
          );
      took = λ r change n e. absurd (let q : true ≡ false = sym (self c) ∙ ap (is_client c) (sym n) ∙ out in cc);
    }
  where
    same : client_at (limits_from head) c (l ∷ past) ≡ client_at (limits_from head) c past
    same = client_other (limits_from head) c past l.at (l.entry ∷ []) out

-- ---- a new life

life_asks : (who : Who) (t u : ℕ) (o : Op) (imports : List Import) → Asked (imports_from u imports (Life who)) t o → ⊥
life_asks who t u o [] (inl x) = x.1
life_asks who t u o [] (inr x) = x.1
life_asks who zero u o (i ∷ imports) (inl x) = x.1
life_asks who zero u o (i ∷ imports) (inr x) = x.1
life_asks who (suc t) u o (i ∷ imports) a = life_asks who t (suc u) o imports a

life_backs : (who : Who) (u : ℕ) (r : Resource) (imports : List Import) → backs_to r (imports_from u imports (Life who)) ≡ 0
life_backs who u r [] = refl
life_backs who u r (i ∷ imports) = let e = life_backs who (suc u) r imports in omega (arith, e)

life_line : (head : Head) (past : List Line) (stamp : Stamp) (c : ℕ) (who : Who) → Allowed head past (turn stamp (Client c)) (Life who)
    → marks_of c past ≡ [] → SoundAt head c (after_line head past stamp c (Life who))
life_line head past stamp c who a marks =
    record {
      now = subst (λ (k : ClientState). Backed k.store.held k.store.patches k.imports) (sym (state_is head past stamp c (Life who)))
          (record {
            objects = λ r. record { rises = tt; dirty = λ p b. absurd (cc); cut = λ n e. absurd (cc) };
            asked = λ t o x. absurd (life_asks who t 0 o (imports_of head c past) x);
            single = λ r. let e = life_backs who 0 r (imports_of head c past) in omega (arith, e);
          });
      first = subst AckFirst (sym marks) tt;
      acks = λ r more m. absurd (let e : [] ≡ Acks r ∷ more = sym marks ∙ m in cc);
      took = λ r d n e. absurd (cc);
    }

-- ---- what a call asks writes nothing back

of_some : (a : Op) → IsNoBack a → (o : Op) → Some a ≡ Some o → IsNoBack o
of_some a n o e = let same : a ≡ o = cc in subst IsNoBack same n

names_ask : (file : Option HandleFile) (k : Call) (o : Op) → operation_of file k ≡ Some o → IsNoBack o
names_ask file (call.Lookup path) o e = of_some (op.Lookup path) tt o e
names_ask file (call.Stat path) o e = of_some (op.Stat path) tt o e
names_ask file (call.List path) o e = of_some (op.List path) tt o e
names_ask file (call.Layout path) o e = of_some (op.Layout path) tt o e
names_ask file (call.Mkdir path) o e = of_some (op.Mkdir path) tt o e
names_ask file (call.Link old new) o e = of_some (op.Link old new) tt o e
names_ask file (call.Unlink path) o e = of_some (op.Unlink path) tt o e
names_ask file (call.Rmdir path) o e = of_some (op.Rmdir path) tt o e
names_ask file (call.Rename old new) o e = of_some (op.Rename old new) tt o e
names_ask file (call.Chmod path mode) o e = of_some (op.Chmod path mode) tt o e
names_ask file (call.Create path None) o e = of_some (op.Create path 1048576 (pos 1)) tt o e
names_ask file (call.Create path (Some stripes)) o e = of_some (op.Create path stripes.0 stripes.1) tt o e
names_ask file (call.Open h path) o e = of_some (op.Open path) tt o e
names_ask (Some f) (call.Close h) o e = of_some (op.Close f.number f.fid) tt o e
names_ask file k o e = absurd (cc)

call_asks : (past : List Line) (c t : ℕ) (q : Queued) → CallAsksOk past c t q → IsNoBack q.op
call_asks past c t q k = by k.asks
  where
    by : NamesAskOk past c t k.running q.op ⊎ SizeAskOk t k.running q.op ⊎ LockAskOk t k.running q.op ⊎ GetAskOk past c t k.running q.op
        → IsNoBack q.op
    by (inl a) = names_ask k.running.file k.running.call q.op a.becomes
    by (inr (inl a)) = subst IsNoBack (sym a.of_op) tt
    by (inr (inr (inl a))) = subst IsNoBack (sym a.of_op) tt
    by (inr (inr (inr a))) = subst IsNoBack (sym a.of_op) tt

-- ---- each line

pub over_before : (c : ℕ) (w : Who) (l : Line) (past : List Line) → is_over c w (l ∷ past) ≡ false → is_over c w past ≡ false
over_before c w l past e = by l.entry e
  where
    by : (x : Entry) → is_over c w (line l.at x ∷ past) ≡ false → is_over c w past ≡ false
    by (Take n from m) e = (or_parts _ (is_over c w past) e).1
    by x e = e

module _ (head : Head) (ranges : IsHead head) (past : List Line) (stamp : Stamp) (c : ℕ) (g : Grown head past) (fit : PinsFit past)
    (heeds : AllHeed past) where
  own_line : (e : Entry) → Allowed head past (turn stamp (Client c)) e → HeedsNext c past (line (turn stamp (Client c)) e)
      → (is_over c (life_at c past) past ≡ false → SoundAt head c past)
      → is_over c (life_at c (after_line head past stamp c e)) (after_line head past stamp c e) ≡ false
      → SoundAt head c (after_line head past stamp c e)
  own_line (Changes r change) a h s alive = changes_line head past stamp c g fit (s alive) ranges r change a.ok
  own_line (WritesBack r change) a h s alive = takes_line head past stamp c g fit (s alive) r change a.ok
  own_line (Queues t q) a h s alive = ⊎_elim (λ (k : CallAsksOk past c t q). queues_other head past stamp c g fit (s alive) t q
      (call_asks past c t q k)) (λ (k : BackAskOk past c t q). queues_back head past stamp c g fit (s alive) t q k) a.ok
  own_line (Flies t f) a h s alive = flies_line head past stamp c g fit (s alive) t f (a.of t (self t))
  own_line (Heard t f k) a h s alive = heard_line head past stamp c g fit (s alive) ranges t f k a
  own_line (Drop t x) a h s alive =
      ⊎_elim (λ (k : MarkedOk past c t x). drops_line head past stamp c g fit (s alive) t x k)
      (λ (n : Noticed past (turn stamp (Client c)) (life_at c past)). absurd
      (let q : true ≡ false = sym (noticed_over past (turn stamp (Client c)) c (life_at c past) refl n) ∙ alive in cc)) a.ok
  own_line (Acks r) a h s alive = acks_line head past stamp c g fit (s alive) r a.ok
  own_line (Fills r o bs) a h s alive = popped_line head past stamp c (Fills r o bs) (λ i. (refl, refl))
      (cond-true (nat_eq c c) _ _ (self c)) (λ z d e. absurd (cc)) (s alive).now (s alive)
  own_line (Zeroes r n) a h s alive = popped_line head past stamp c (Zeroes r n) (λ i. (refl, refl)) (cond-true (nat_eq c c) _ _ (self c))
      (λ z d e. absurd (cc)) (s alive).now (s alive)
  own_line (GrownTo r ch) a h s alive = popped_line head past stamp c (GrownTo r ch) (λ i. (refl, refl))
      (cond-true (nat_eq c c) _ _ (self c)) (λ z d e. absurd (cc)) (s alive).now (s alive)
  own_line (Shows r k n) a h s alive = popped_line head past stamp c (Shows r k n) (λ i. (refl, refl)) (cond-true (nat_eq c c) _ _ (self c))
      (λ z d e. absurd (cc)) (s alive).now (s alive)
  own_line (Hold t x marked size seen) a h s alive =
      quiet_line head past stamp c (Hold t x marked size seen) (λ i. (refl, refl)) (λ r. refl) refl (λ z d e. absurd (cc))
      (locks_stay head past stamp c g fit (s alive) (Hold t x marked size seen) a (λ u j e. absurd (cc))) (s alive)
  own_line (Pins name) a h s alive = quiet_line head past stamp c (Pins name) (λ i. (refl, refl)) (λ r. refl) refl (λ z d e. absurd (cc))
      (locks_stay head past stamp c g fit (s alive) (Pins name) a (λ u j e. absurd (cc))) (s alive)
  own_line (Unpins name) a h s alive = quiet_line head past stamp c (Unpins name) (λ i. (refl, refl)) (λ r. refl) refl
      (λ z d e. absurd (cc)) (locks_stay head past stamp c g fit (s alive) (Unpins name) a (λ u j e. absurd (cc))) (s alive)
  own_line (Marks name) a h s alive = quiet_line head past stamp c (Marks name) (λ i. (refl, refl)) (λ r. refl) refl (λ z d e. absurd (cc))
      (locks_stay head past stamp c g fit (s alive) (Marks name) a (λ u j e. absurd (cc))) (s alive)
  own_line (Unmarks t) a h s alive = quiet_line head past stamp c (Unmarks t) (λ i. (refl, refl)) (λ r. refl) refl (λ z d e. absurd (cc))
      (locks_stay head past stamp c g fit (s alive) (Unmarks t) a (λ u j e. absurd (cc))) (s alive)
  own_line (Life who) a h s alive = life_line head past stamp c who a
      (none_marked c past heeds (none_owed c past (line (turn stamp (Client c)) (Life who)) h (λ o. o)))
  own_line (Take n from m) a h s alive =
      let t = s (over_before c (life_at c past) (line (turn stamp (Client c)) (Take n from m)) past alive) in
      quiet_line head past stamp c (Take n from m) (λ i. (refl, refl)) (λ r. refl) refl (λ z d e. absurd (cc)) t.now t
  own_line e a h s alive = quiet_line head past stamp c e (λ i. (refl, refl)) (λ r. refl) refl (λ z d x. absurd (cc)) (s alive).now
      (s alive)

pub sound_at : (head : Head) → IsHead head → (past : List Line) → Grown head past → PinsFit past → AllHeed past → (c : ℕ)
    → is_over c (life_at c past) past ≡ false → SoundAt head c past
sound_at head ranges [] g fit heeds c alive = start head c
sound_at head ranges (l ∷ past) g fit heeds c alive = by (is_client c l.at.node) refl (sound_at head ranges past g.1 fit.1 heeds.1 c)
  where
    other : is_client c l.at.node ≡ false → (is_over c (life_at c past) past ≡ false → SoundAt head c past) → SoundAt head c (l ∷ past)
    other out s =
        let same = ap (λ (k : ClientState). k.who) (client_other (limits_from head) c past l.at (l.entry ∷ []) out) in
        other_line head c l past out (s (over_before c (life_at c past) l past
        (subst (λ (w : Who). is_over c w (l ∷ past) ≡ false) same alive)))

    by : (b : Bool) → is_client c l.at.node ≡ b → (is_over c (life_at c past) past ≡ false → SoundAt head c past)
        → SoundAt head c (l ∷ past)
    by false out s = other out s
    by true own s = of l.at.node own g.0 (heeds.0 c) alive
      where
        of : (node : Node) → is_client c node ≡ true → Allowed head past (turn l.at.stamp node) l.entry
            → HeedsNext c past (line (turn l.at.stamp node) l.entry)
            → is_over c (life_at c (line (turn l.at.stamp node) l.entry ∷ past)) (line (turn l.at.stamp node) l.entry ∷ past) ≡ false
            → SoundAt head c (line (turn l.at.stamp node) l.entry ∷ past)
        of (Target t) own a h alive = absurd (cc)
        of (Client d) own a h alive = mine d (eqb-true c d own) a h alive
          where
            mine : (d : ℕ) → c ≡ d → Allowed head past (turn l.at.stamp (Client d)) l.entry
                → HeedsNext c past (line (turn l.at.stamp (Client d)) l.entry)
                → is_over c (life_at c (line (turn l.at.stamp (Client d)) l.entry ∷ past))
                (line (turn l.at.stamp (Client d)) l.entry ∷ past) ≡ false
                → SoundAt head c (line (turn l.at.stamp (Client d)) l.entry ∷ past)
            mine d e = subst (λ (n : ℕ). Allowed head past (turn l.at.stamp (Client n)) l.entry
                → HeedsNext c past (line (turn l.at.stamp (Client n)) l.entry)
                → is_over c (life_at c (line (turn l.at.stamp (Client n)) l.entry ∷ past))
                (line (turn l.at.stamp (Client n)) l.entry ∷ past) ≡ false
                → SoundAt head c (line (turn l.at.stamp (Client n)) l.entry ∷ past)) e
                (λ a h alive. own_line head ranges past l.at.stamp c g.1 fit.1 heeds.1 l.entry a h s alive)
