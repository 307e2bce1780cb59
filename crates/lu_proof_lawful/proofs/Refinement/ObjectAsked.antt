-- The requests that a story has by their numbers are those that lives had in flight, and a reply is to one of them: line by line.
use Rattle.std.proofs.Common.{◌≡◌, ℕ, suc, ◌+◌, ◌≤◌, Bool, true, false, List, ◌∷◌, Option, Some, None, ◌⊎◌, inl, inr, ⊎_elim, refl, sym}
use Rattle.std.proofs.Common.{subst, ap, ◌∙◌, arith, length}
use Rattle.std.specs.Prelude.{nat_eq, ◌&&◌, if◌then◌else◌, option_map}
use Rattle.std.proofs.lemmas.Bool.{eqb-true, and_parts, cond_both}
use Rattle.lu_base.specs.declared.ids.Node.{Node}
use Rattle.lu_base.specs.declared.ids.Node.TheVariants.{Client, Target}
use Rattle.lu_base.specs.declared.ids.Who.{Who}
use Rattle.lu_base.specs.declared.locks.Resource.{Resource}
use Rattle.lu_msg.specs.declared.messages.Message.TheVariants as message
use Rattle.lu_msg.specs.declared.messages.Reply.{Reply as ReplyTo}
use Rattle.lu_spec_entries.specs.Carried.{Flight}
use Rattle.lu_spec_entries.specs.Words as word
use Rattle.lu_spec_entries.specs.Words.{Line, line}
use Rattle.lu_spec_entries.specs.Concerns.{concerns, only}
use Rattle.lu_spec_client.specs.Calls.{life_at}
use Rattle.lu_proof_lawful.specs.Covered.ClientStates.{life_of, last_of}
use Rattle.lu_proof_lawful.specs.Covered.Heads.{Head}
use Rattle.lu_proof_lawful.proofs.Preconditions.Guards.{Was}
use Rattle.lu_proof_lawful.proofs.Preconditions.StoryGuards.{FliesOk}
use Rattle.lu_proof_lawful.proofs.Preconditions.Lists.{self, turn, life_self}
use Rattle.lu_proof_lawful.proofs.Preconditions.Parts.{life_is_of}
use Rattle.lu_proof_lawful.proofs.Invariants.TargetGroups.{Flew}
use Rattle.lu_proof_lawful.proofs.Invariants.Lines.{flew_more}
use Rattle.lu_proof_bytes.specs.Object.Words as words
use Rattle.lu_proof_bytes.specs.Object.Words.{Request, Entry, Flies, Reply}
use Rattle.lu_proof_bytes.specs.Object.Folds as says
use Rattle.lu_proof_bytes.specs.Object.Guards.{Allowed, New}
use Rattle.lu_proof_lawful.specs.Projection.Lives.{number_of, is_live}
use Rattle.lu_proof_lawful.proofs.Projection.Lives.{same_life}
use Rattle.lu_proof_lawful.specs.Projection.Requests.{op_of, asked_as, answer_of}
use Rattle.lu_proof_lawful.specs.Projection.Messages.{request_as}
use Rattle.lu_proof_lawful.specs.Projection.Stories.{with_entry, of_life_at, flies, step, story}
use Rattle.lu_proof_lawful.proofs.Refinement.TiedObject.{FlewOn}
use Rattle.lu_proof_lawful.proofs.Refinement.TiedTarget.{TargetTied}
use Rattle.lu_proof_lawful.proofs.Refinement.TargetSame.{has_stays, op_stays}
use Rattle.lu_proof_lawful.proofs.Refinement.TargetDeeds.{on_of}
use Rattle.lu_proof_lawful.proofs.Refinement.LineCases.{IsOther, by_line}
use Rattle.lu_proof_lawful.proofs.Refinement.ObjectMail.{was_grows, flies_lock, stay, told_was, told_asked}
use Rattle.lu_proof_lawful.proofs.Refinement.Tied.{Here, Grows}

-- the request of that life and number flies with the newest line
pub record NewFlight (t : ℕ) (r : Resource) (node : Node) (e : word.Entry) (past : List Line) (w x : ℕ) (q : Request) : Type 0 where
  pub client : ℕ
  pub flight : Flight
  pub here : node ≡ Client client
  pub is : e ≡ word.Flies t flight
  pub op : words.Op
  pub there : op_of r (story t r past) flight.op ≡ Some op
  pub request : q ≡ request_as (number_of (life_at client past)) flight.xid op
  pub life : w ≡ number_of (life_at client past)
  pub number : x ≡ flight.xid
  pub grew : step t r node past e (story t r past) ≡ Flies q ∷ story t r past

abbrev IsFlies : word.Entry → Type 0
IsFlies (word.Flies u f) = Unit {0}
IsFlies _ = ⊥

other_asks : (w x : ℕ) (e : Entry) (h : List Entry) → IsOther e → asked_as w x (e ∷ h) ≡ asked_as w x h
other_asks w x (Flies q) h o = absurd o
other_asks w x e h o = refl

-- no other line asks
asks_same : (t : ℕ) (r : Resource) (node : Node) (e : word.Entry) (past : List Line) (w x : ℕ) → (IsFlies e → ⊥)
    → asked_as w x (step t r node past e (story t r past)) ≡ asked_as w x (story t r past)
asks_same t r node e past w x other =
    by_line (λ (y : List Entry). asked_as w x y ≡ asked_as w x (story t r past)) t r past (story t r past) node e
    (record {
      same = refl;
      other = λ y o. other_asks w x y (story t r past) o;
      flies = λ c f o here is live. absurd (other (subst IsFlies (sym is) tt));
      heard = λ c f p o here is live. refl;
      hold = λ c lock marked size seen here is live on. refl;
      tells = λ c change j here is live. refl;
      txn = λ d o here is. refl;
      commit = λ to batch here is. refl;
      close = λ o here is. refl;
    })

flies_cases : (t : ℕ) (r : Resource) (c u : ℕ) (f : Flight) (past : List Line) (w x : ℕ) (q : Request)
    → asked_as w x (of_life_at t u (Client c) past (flies r f (story t r past)) (story t r past)) ≡ Some q
    → (asked_as w x (story t r past) ≡ Some q) ⊎ NewFlight t r (Client c) (word.Flies u f) past w x q
flies_cases t r c u f past w x q e = by (nat_eq u t) refl (is_live c past (story t r past)) refl (op_of r (story t r past) f.op) refl e
  where
    by : (a : Bool) → nat_eq u t ≡ a → (b : Bool) → is_live c past (story t r past) ≡ b → (o : Option words.Op)
        → op_of r (story t r past) f.op ≡ o
        → asked_as w x (if a then (if b then with_entry (option_map (λ y. Flies (request_as (number_of (life_at c past)) f.xid y)) o)
        (story t r past) else story t r past) else story t r past) ≡ Some q
        → (asked_as w x (story t r past) ≡ Some q) ⊎ NewFlight t r (Client c) (word.Flies u f) past w x q
    by false p b l o g e = inl e
    by true p false l o g e = inl e
    by true p true l None g e = inl e
    by true p true l (Some o) g e = one (nat_eq w (number_of (life_at c past)) && nat_eq x f.xid) refl e
      where
        grown : step t r (Client c) past (word.Flies u f) (story t r past) ≡ Flies (request_as (number_of (life_at c past)) f.xid o)
            ∷ story t r past
        grown = rw (p, l, g) refl

        one : (b : Bool) → (nat_eq w (number_of (life_at c past)) && nat_eq x f.xid) ≡ b
            → (if b then Some (request_as (number_of (life_at c past)) f.xid o) else asked_as w x (story t r past)) ≡ Some q
            → (asked_as w x (story t r past) ≡ Some q) ⊎ NewFlight t r (Client c) (word.Flies u f) past w x q
        one false z e = inl e
        one true z e =
            let same : request_as (number_of (life_at c past)) f.xid o ≡ q = cc in
            let parts = and_parts (nat_eq w (number_of (life_at c past))) (nat_eq x f.xid) z in
            inr (record {
              client = c;
              flight = f;
              here = refl;
              is = ap (λ (v : ℕ). word.Flies v f) (eqb-true u t p);
              op = o;
              there = g;
              request = sym same;
              life = eqb-true w (number_of (life_at c past)) parts.0;
              number = eqb-true x f.xid parts.1;
              grew = grown ∙ ap (λ (v : Request). Flies v ∷ story t r past) same;
            })

same_both : {A : Type 0} (b : Bool) (x : A) → (if b then x else x) ≡ x
same_both true x = refl
same_both false x = refl

pub asked_cases : (t : ℕ) (r : Resource) (node : Node) (e : word.Entry) (past : List Line) (w x : ℕ) (q : Request)
    → asked_as w x (step t r node past e (story t r past)) ≡ Some q
    → (asked_as w x (story t r past) ≡ Some q) ⊎ NewFlight t r node e past w x q
asked_cases t r (Client c) (word.Flies u f) past w x q e = flies_cases t r c u f past w x q e
asked_cases t r (Target v) (word.Flies u f) past w x q e = inl (ap (asked_as w x) (sym (same_both (nat_eq u t) (story t r past))) ∙ e)
asked_cases t r node e past w x q f = inl (sym (asks_same t r node e past w x (λ z. z)) ∙ f)

pub grown_not : (h : List Entry) (x : Entry) → h ≡ x ∷ h → ⊥
grown_not h x e = let n : length h ≡ suc (length h) = ap (λ (y : List Entry). length y) e in absurd (omega arith)

module _ (head : Head) (t : ℕ) (r : Resource) (l : Line) (past : List Line) (here : Here head t r l past)
    (grows : Grows (story t r past) (story t r (l ∷ past))) (now : TargetTied head t r (l ∷ past)) where
  -- a flight that is new is allowed
  new_allowed : (w x : ℕ) (q : Request) → NewFlight t r l.at.node l.entry past w x q → New (story t r past) q
  new_allowed w x q n = by grows
    where
      by : Grows (story t r past) (story t r (l ∷ past)) → New (story t r past) q
      by (inl e) = absurd (grown_not (story t r past) (Flies q) (sym e ∙ n.grew))
      by (inr g) = let same : g.0 ∷ story t r past ≡ Flies q ∷ story t r past = sym g.1 ∙ n.grew in let is : g.0 ≡ Flies q = cc
          in subst (λ (e : Entry). Allowed (story t r past) e) is g.2

  flies_ok : (c : ℕ) (f : Flight) → l.at.node ≡ Client c → l.entry ≡ word.Flies t f → FliesOk head (only t past) c t f
  flies_ok c f node is =
      let at = subst (λ (v : Node). Here head t r (line (turn l.at.stamp v) (word.Flies t f)) past) node
      (subst (λ (e : word.Entry). Here head t r (line l.at e) past) is here) in
      at.stood.ok.of t (self t)

  flew_now : (c : ℕ) (f : Flight) → l.at.node ≡ Client c → l.entry ≡ word.Flies t f → Flew (only t (l ∷ past)) (life_at c past) f
  flew_now c f node is =
      subst (λ (e : word.Entry). Flew (only t (line l.at e ∷ past)) (life_at c past) f) (sym is)
      (subst (λ (v : Node). Flew (only t (line (turn l.at.stamp v) (word.Flies t f) ∷ past)) (life_at c past) f) (sym node)
      (subst (λ (b : Bool). Flew (if b then line (turn l.at.stamp (Client c)) (word.Flies t f) ∷ only t past else only t past)
      (life_at c past) f) (sym (self t))
      (inl (subst (λ (w : Who). word.same_life (life_at c past) w ≡ true) (life_is_of c t past) (life_self (life_at c past)), refl))))

  flew_still : (who : Who) (f : Flight) → Flew (only t past) who f → Flew (only t (l ∷ past)) who f
  flew_still who f w = cond_both (concerns t l.at.node l.entry) (l ∷ only t past) (only t past) (λ (p : List Line). Flew p who f)
      (λ on. flew_more l (only t past) who f w) (λ off. w)

  pub flew_line : (who : Who) (x : ℕ) (q : Request) → asked_as (number_of who) x (story t r (l ∷ past)) ≡ Some q
      → FlewOn r (only t (l ∷ past)) (story t r (l ∷ past)) who x q
  flew_line who x q e = ⊎_elim old new (asked_cases t r l.at.node l.entry past (number_of who) x q e)
    where
      old : asked_as (number_of who) x (story t r past) ≡ Some q → FlewOn r (only t (l ∷ past)) (story t r (l ∷ past)) who x q
      old f =
          let o = here.tied.object.flew who x q f in
          record {
            flight = o.flight;
            flew = flew_still who o.flight o.flew;
            xid = o.xid;
            on = o.on;
            op = op_stays r (story t r past) (story t r (l ∷ past)) o.flight.op (stay head t r l past here grows now) o.lock ∙ o.op;
            lock = has_stays (story t r past) (story t r (l ∷ past)) o.flight.op (stay head t r l past here grows now) o.lock;
            is = o.is;
          }

      new : NewFlight t r l.at.node l.entry past (number_of who) x q → FlewOn r (only t (l ∷ past)) (story t r (l ∷ past)) who x q
      new n =
          let w : who ≡ life_at n.client past = same_life who (life_at n.client past) n.life in
          let ok = new_allowed (number_of who) x q n in
          let op_is : q.op ≡ n.op = ap (λ (v : Request). v.op) n.request in
          let lock = flies_lock r (story t r past) n.flight.op q.op q.life here.world (n.there ∙ ap Some (sym op_is)) ok.op in
          record {
            flight = n.flight;
            flew = subst (λ (v : Who). Flew (only t (l ∷ past)) v n.flight) (sym w) (flew_now n.client n.flight n.here n.is);
            xid = sym n.number;
            on = on_of r (story t r past) n.flight.op n.op n.there;
            op = op_stays r (story t r past) (story t r (l ∷ past)) n.flight.op (stay head t r l past here grows now) lock ∙ n.there
                ∙ ap Some (sym op_is);
            lock = has_stays (story t r past) (story t r (l ∷ past)) n.flight.op (stay head t r l past here grows now) lock;
            is = n.request ∙ ap (λ (v : ℕ). request_as v n.flight.xid n.op) (sym n.life)
                ∙ ap (λ (v : ℕ). request_as (number_of who) v n.op) (sym n.number)
                ∙ ap (λ (v : words.Op). request_as (number_of who) x v) (sym op_is);
          }

  -- a reply that was sent is to a request that flew before
  pub replies_old : (from to : Node) (k : ReplyTo) (q : Request) → Was (only t past) from to (message.Reply k)
      → asked_as (number_of k.who) k.xid.0 (story t r (l ∷ past)) ≡ Some q
      → says.Was (story t r (l ∷ past)) (Reply k.boot q.life q.xid (answer_of q k))
  replies_old from (Target u) k q w e = absurd ((here.stood.before.at t).done.sent from (Target u) (message.Reply k) w)
  replies_old from (Client d) k q w e = ⊎_elim
      (λ (f : asked_as (number_of k.who) k.xid.0 (story t r past) ≡ Some q). was_grows (story t r past) (story t r (l ∷ past))
      (Reply k.boot q.life q.xid (answer_of q k)) grows (here.tied.object.replies from (Client d) k q w f))
      (λ (n : NewFlight t r l.at.node l.entry past (number_of k.who) k.xid.0 q).
      let all = here.stood.before.at t in
      let sent = all.done.sent from (Client d) (message.Reply k) w in
      let g = all.done.flew sent.deed sent.acted in
      let who : sent.deed.reply.who ≡ life_of n.client (only t past) = ap (λ (x : ReplyTo). x.who) (sym sent.is)
      ∙ same_life k.who (life_at n.client past) n.life ∙ life_is_of n.client t past in
      let xid : k.xid.0 ≡ sent.deed.reply.xid.0 = ap (λ (x : ReplyTo). x.xid.0) sent.is in
      let low = (all.numbers.tagged sent.deed.reply.who g.0 g.1).low in
      let last : g.0.xid ≤ last_of (life_of n.client (only t past)) (only t past) =
      subst (λ (v : Who). g.0.xid ≤ last_of v (only t past)) who low in
      let next : n.flight.xid ≡ last_of (life_of n.client (only t past)) (only t past) + 1 =
      ap (λ (f : Flight). f.xid) (flies_ok n.client n.flight n.here n.is).is in
      let a = g.2 in
      let b = n.number in
      absurd (omega (arith, last, next, a, b, xid)))
      (asked_cases t r l.at.node l.entry past (number_of k.who) k.xid.0 q e)

  pub replies_new : (c : ℕ) (k : ReplyTo) (q : Request) → l.at.node ≡ Target t → l.entry ≡ word.Send (Client c) (message.Reply k)
      → asked_as (number_of k.who) k.xid.0 (story t r (l ∷ past)) ≡ Some q
      → says.Was (story t r (l ∷ past)) (Reply k.boot q.life q.xid (answer_of q k))
  replies_new c k q node is e =
      told_was head t r l past here grows now c (message.Reply k) node is (Reply k.boot q.life q.xid (answer_of q k))
      (ap (λ (x : Option Request). option_map (λ q. Reply k.boot q.life q.xid (answer_of q k)) x)
      (sym (told_asked head t r l past here grows now c (message.Reply k) node is (number_of k.who) k.xid.0) ∙ e))
