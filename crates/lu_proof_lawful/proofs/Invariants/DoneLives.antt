-- What was done and said, as a life leaves or comes, transactions go to the disk, or a glimpse waits for a lock's holder.
use Rattle.std.proofs.Common.{◌≡◌, ℕ, ◌≤◌, List, [], ◌∷◌, ◌⊎◌, inl, inr, ⊎_elim, refl, sym, subst, ap, ◌∙◌, arith}
use Rattle.std.specs.Prelude.{not}
use Rattle.lu_base.specs.declared.ids.Node.TheVariants.{Target}
use Rattle.lu_base.specs.declared.ids.Stamp.{Stamp}
use Rattle.lu_base.specs.declared.ids.Who.{Who}
use Rattle.lu_base.specs.declared.locks.Cause.{Cause}
use Rattle.lu_msg.specs.declared.commits.Batch.{Batch}
use Rattle.lu_msg.specs.declared.messages.Request.{Request as RequestOf}
use Rattle.lu_spec_entries.specs.Carried.{Deed, Glimpse}
use Rattle.lu_spec_entries.specs.Words.{Commit, Evict, Joined, Asks, Ends, Line, line}
use Rattle.lu_spec_target.specs.Lives.{is_life}
use Rattle.lu_spec_target.specs.Locks.{same_glimpse}
use Rattle.lu_proof_lawful.specs.Covered.TargetStates.{server_of, lives_of, evicted_of}
use Rattle.lu_proof_lawful.specs.Covered.Heads.{Head}
use Rattle.lu_proof_lawful.proofs.Preconditions.Guards.{In}
use Rattle.lu_proof_lawful.proofs.Preconditions.StoryGuards.{CommitOk, JoinedOk, ComesOk, AsksOk}
use Rattle.lu_proof_lawful.proofs.Preconditions.Lists.{in_append, in_filter}
use Rattle.lu_proof_lawful.proofs.Preconditions.LifeLists.{stands_life, life_put_more, life_stays, life_left, gone_not, none_is}
use Rattle.lu_proof_lawful.proofs.Invariants.Groups.{turn, HoldsAt}
use Rattle.lu_proof_lawful.proofs.Invariants.TargetGroups.{HasSlot, Had, IsAsking, Waits, Done, Lives}
use Rattle.lu_proof_lawful.proofs.Invariants.LifeLists.{older_than, put_or}
use Rattle.lu_proof_lawful.proofs.Invariants.DoneGrows.{meant_more}

-- ---- a life leaves: what of it waited, waits no more

module _ (osts clients : ℕ) (past : List Line) (stamp : Stamp) (t : ℕ) (who : Who) (cause : Cause) (h : Done osts clients past) where
  abbrev evicts : List Line
  evicts = line (turn stamp (Target t)) (Evict who cause) ∷ past

  had : (w : Who) → HasSlot clients evicts w → HasSlot clients past w
  had w has = (life_left w who (lives_of clients past) has).0

  still_waits : (r : RequestOf) → In r (server_of osts evicts).waiting → Waits osts clients evicts r
  still_waits r i =
      let j = in_filter (λ (q : RequestOf). not (is_life q.who (who ∷ []))) r (server_of osts past).waiting i in
      let w = h.waits r j.0 in
      record {
        was = w.was;
        asks = w.asks;
        current = w.current;
        has =
            life_stays r.who who (lives_of clients past) (gone_not r.who who j.1) w.has;
        taken = w.taken;
        new = w.new;
      }

  pub done_evict : Done osts clients evicts
  done_evict =
      record {
        flew = h.flew;
        boots = h.boots;
        numbers = h.numbers;
        bare = h.bare;
        plain = h.plain;
        high = λ d a has. h.high d a (had d.reply.who has);
        kept = h.kept;
        slots = h.slots;
        heard = h.heard;
        newest = h.newest;
        known = λ w x i has. h.known w x i (had w has);
        answered = h.answered;
        waits = still_waits;
        glimpses = λ g i. h.glimpses g (in_filter (λ (x : Glimpse). not (is_life x.request.who (who ∷ []))) g (server_of osts past).glimpses
            i).0;
        sent = h.sent;
        once = h.once;
        alone = λ w f r d e i has. h.alone w f r d e i (had w has);
        rises = h.rises;
        single = h.single;
      }

-- ---- a life comes: it had a slot already, or hasn't done anything yet

module _ (osts clients : ℕ) (past : List Line) (stamp : Stamp) (t : ℕ) (who : Who)
    (came : HasSlot clients past who ⊎ (Had clients past who → ⊥)) (h : Done osts clients past) (lives : Lives clients past) where
  abbrev joins : List Line
  joins = line (turn stamp (Target t)) (Joined who) ∷ past

  before : (w : Who) → HasSlot clients joins w → Had clients past w → HasSlot clients past w
  before w has had = by (put_or w who (lives_of clients past) has) came
    where
      by : (w ≡ who) ⊎ HasSlot clients past w → HasSlot clients past who ⊎ (Had clients past who → ⊥) → HasSlot clients past w
      by (inr k) c = k
      by (inl e) (inl k) = subst (HasSlot clients past) (sym e) k
      by (inl e) (inr n) = absurd (n (subst (Had clients past) e had))

  acted_before : (d : Deed) → (w : Who) → d.reply.who ≡ w → Had clients past d.reply.who → HasSlot clients joins w → HasSlot clients past w
  acted_before d w e had has = before w has (subst (Had clients past) e had)

  pub done_joined : Done osts clients joins
  done_joined =
      record {
        flew = h.flew;
        boots = h.boots;
        numbers = h.numbers;
        bare = h.bare;
        plain = h.plain;
        high = λ d a has. h.high d a (before d.reply.who has (lives.acted d a));
        kept = h.kept;
        slots = h.slots;
        heard = h.heard;
        newest = h.newest;
        known = λ w x i has. let g = h.heard w x i in h.known w x i (acted_before g.0 w g.2 (lives.acted g.0 g.1) has);
        answered = h.answered;
        waits = λ r i. let w = h.waits r i in record {
          was = w.was;
          asks = w.asks;
          current = w.current;
          has =
              life_put_more r.who who (lives_of clients past) w.has;
          taken = w.taken;
          new = w.new;
        };
        glimpses = h.glimpses;
        sent = h.sent;
        once = h.once;
        alone = λ w f r d e i has. let g = h.answered w f r i in h.alone w f r d e i
            (acted_before g.0 w (sym (ap (λ v. v.who) g.2) ∙ g.3) (lives.acted g.0 g.1) has);
        rises = h.rises;
        single = h.single;
      }

-- who joins while the target serves never had a slot; who joins as a close says has one
came_new : (head : Head) (past : List Line) (stamp : Stamp) (t : ℕ) (who : Who) → JoinedOk head past (turn stamp (Target t)) t who
    → Had head.clients past who → ⊥
came_new head past stamp t who ok (inl has) = none_is who.client (lives_of head.clients past) ok.none who
    (stands_life who (lives_of head.clients past) has) refl
came_new head past stamp t who ok (inr gone) = let lt = older_than who (evicted_of past) ok.newer who gone refl in omega arith

pub came : (head : Head) (past : List Line) (stamp : Stamp) (t : ℕ) (who : Who) → JoinedOk head past (turn stamp (Target t)) t who
    ⊎ ComesOk head past (turn stamp (Target t)) t who → HasSlot head.clients past who ⊎ (Had head.clients past who → ⊥)
came head past stamp t who (inl ok) = inr (came_new head past stamp t who ok)
came head past stamp t who (inr ok) = inl ok.has

-- ---- transactions go to the disk

-- the number up to which all is there doesn't fall
pub commits_rise : (head : Head) (past : List Line) (stamp : Stamp) (t to : ℕ) (batch : Batch)
    → CommitOk head past (turn stamp (Target t)) to batch → HoldsAt head past → (server_of head.osts past).committed.0 ≤ to
commits_rise head past stamp t to batch ok h =
    ⊎_elim
    (λ (g : (d : Deed) × In d (server_of head.osts past).log × (to ≡ d.reply.txn.0)). let lt = (h.history.log g.0 g.1).3 in let e = g.2
    in omega arith)
    (λ (e : to ≡ (server_of head.osts past).committed.0). omega arith)
    ok.is

pub done_commit : (head : Head) (past : List Line) (stamp : Stamp) (t to : ℕ) (batch : Batch)
    → CommitOk head past (turn stamp (Target t)) to batch → HoldsAt head past
    → Done head.osts head.clients (line (turn stamp (Target t)) (Commit to batch) ∷ past)
done_commit head past stamp t to batch ok a =
    let h = a.done in
    let new : List Line = line (turn stamp (Target t)) (Commit to batch) ∷ past in
    record {
      flew = h.flew;
      boots = h.boots;
      numbers = h.numbers;
      bare = h.bare;
      plain = h.plain;
      high = h.high;
      kept = h.kept;
      slots = h.slots;
      heard = h.heard;
      newest = h.newest;
      known = h.known;
      answered = h.answered;
      waits = h.waits;
      glimpses = h.glimpses;
      sent = λ from into m s. meant_more head.osts past new (record {
        flew = λ w f i. i;
        acted = λ d b. b;
        lives = λ c. omega arith;
        closed = omega arith;
        committed =
            commits_rise head past stamp t to batch ok a;
        counts = λ b low le d q. q;
        stays = λ le n e. e;
      }) into m (h.sent from into m s);
      once = h.once;
      alone = h.alone;
      rises = h.rises;
      single = h.single;
    }

-- ---- a glimpse waits for a lock's holder, or waits no longer

-- one that waits, or the glimpse of a request that waits
module _ (osts clients : ℕ) (past : List Line) (h : Done osts clients past) where
  asks_or : (g x : Glimpse) → In g.request (server_of osts past).waiting → In x (server_of osts past).glimpses ⊎ In x (g ∷ [])
      → IsAsking past x.request
  asks_or g x w (inl i) = h.glimpses x i
  asks_or g x w (inr (inl e)) = subst (λ (v : Glimpse). IsAsking past v.request) e (h.waits g.request w).asks
  asks_or g x w (inr (inr z)) = absurd z

pub done_asks : (head : Head) (past : List Line) (stamp : Stamp) (t : ℕ) (g : Glimpse) → AsksOk head.osts past g
    → Done head.osts head.clients past → Done head.osts head.clients (line (turn stamp (Target t)) (Asks g) ∷ past)
done_asks head past stamp t g ok h =
    record {
      flew = h.flew;
      boots = h.boots;
      numbers = h.numbers;
      bare = h.bare;
      plain = h.plain;
      high = h.high;
      kept = h.kept;
      slots = h.slots;
      heard = h.heard;
      newest = h.newest;
      known = h.known;
      answered = h.answered;
      waits = h.waits;
      glimpses = λ x i. asks_or head.osts head.clients past h g x ok.waits (in_append x (server_of head.osts past).glimpses (g ∷ []) i);
      sent = h.sent;
      once = h.once;
      alone = h.alone;
      rises = h.rises;
      single = h.single;
    }

pub done_ends : (osts clients : ℕ) (past : List Line) (stamp : Stamp) (t : ℕ) (g : Glimpse) → Done osts clients past
    → Done osts clients (line (turn stamp (Target t)) (Ends g) ∷ past)
done_ends osts clients past stamp t g h =
    record {
      flew = h.flew;
      boots = h.boots;
      numbers = h.numbers;
      bare = h.bare;
      plain = h.plain;
      high = h.high;
      kept = h.kept;
      slots = h.slots;
      heard = h.heard;
      newest = h.newest;
      known = h.known;
      answered = h.answered;
      waits = h.waits;
      glimpses = λ x i. h.glimpses x (in_filter (λ (y : Glimpse). not (same_glimpse g y)) x (server_of osts past).glimpses i).0;
      sent = h.sent;
      once = h.once;
      alone = h.alone;
      rises = h.rises;
      single = h.single;
    }
