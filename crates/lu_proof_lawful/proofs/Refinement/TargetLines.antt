-- What a line is for the ties of a target to an object's story: a client's line, and that of another target, leaves what the target has
-- decided;
-- the target's own line gives what its entry says.
use Rattle.std.proofs.Common.{◌≡◌, ℕ, Bool, true, false, List, ◌∷◌, Option, Some, None, refl, arith}
use Rattle.std.specs.Option.{unwrap_or}
use Rattle.std.specs.Prelude.{nat_eq, if◌then◌else◌, option_map}
use Rattle.std.proofs.lemmas.Bool.{cond_both}
use Rattle.lu_base.specs.declared.ids.Node.TheVariants.{Client, Target}
use Rattle.lu_base.specs.declared.ids.Stamp.{Stamp}
use Rattle.lu_base.specs.declared.locks.Resource.{Resource}
use Rattle.lu_held.specs.Locks.{same_resource}
use Rattle.lu_spec_entries.specs.Words as word
use Rattle.lu_spec_entries.specs.Words.{Line, line}
use Rattle.lu_spec_entries.specs.Concerns.{concerns, only}
use Rattle.lu_spec_client.specs.Calls.{life_at}
use Rattle.lu_proof_lawful.specs.Covered.Heads.{Head}
use Rattle.lu_proof_lawful.proofs.Preconditions.Guards.{EntryOk}
use Rattle.lu_proof_lawful.proofs.Preconditions.Lists.{self, turn}
use Rattle.lu_proof_bytes.specs.Object.Words.{Did, Entry, Takes, Tells, Flies, Heard, Txn, Wait, Release, Commit, Evict, Send, Hold, Drop}
use Rattle.lu_proof_bytes.specs.Object.Words.{Forgets}
use Rattle.lu_proof_objects.specs.Points.{change_of}
use Rattle.lu_proof_lawful.specs.Projection.Lives.{number_of, is_live}
use Rattle.lu_proof_lawful.specs.Projection.Locks.{lock_of, held, lock_over}
use Rattle.lu_proof_lawful.specs.Projection.Requests.{op_of, among, answer_of}
use Rattle.lu_proof_lawful.specs.Projection.Messages.{request_as, by_client, by_target}
use Rattle.lu_proof_lawful.specs.Projection.Calls.{did, takes}
use Rattle.lu_proof_lawful.specs.Projection.Closes.{closes}
use Rattle.lu_proof_lawful.specs.Projection.Stories.{with_entry, of_life, of_life_at, if_on, flies, hears, served, acts, grants, story}
use Rattle.lu_proof_lawful.proofs.Refinement.TargetSame.{Silent, OfLife, silent_same, silent_life, silent_maybe, silent_if, Still}
use Rattle.lu_proof_lawful.proofs.Refinement.TargetSame.{still_same}

-- ---- a client's line

silent_lives : (c : ℕ) (past : List Line) (gives : ℕ → Option Entry) (h : List Entry) → ((w : ℕ) → Silent h (with_entry (gives w) h))
    → Silent h (of_life (Client c) past gives h)
silent_lives c past gives h q = silent_if (is_live c past h) h (with_entry (gives (number_of (life_at c past))) h)
    (q (number_of (life_at c past)))

silent_at : (t u c : ℕ) (past : List Line) (gives : ℕ → Option Entry) (h : List Entry) → ((w : ℕ) → Silent h (with_entry (gives w) h))
    → Silent h (of_life_at t u (Client c) past gives h)
silent_at t u c past gives h q = silent_if (nat_eq u t) h (of_life (Client c) past gives h) (silent_lives c past gives h q)

silent_on : (b : Bool) (e : Entry) (h : List Entry) → OfLife e → Silent h (with_entry (if b then Some e else None) h)
silent_on true e h of = silent_life e h of
silent_on false e h of = silent_same h

module _ (t : ℕ) (r : Resource) (stamp : Stamp) (c : ℕ) (past : List Line) where
  abbrev so_far : List Entry
  so_far = story t r past

  pub client_silent : (e : word.Entry) → Silent so_far (story t r (line (turn stamp (Client c)) e ∷ past))
  client_silent (word.Send (Target u) m) = silent_at t u c past (λ w. option_map Send (by_client r so_far m)) so_far
      (λ w. silent_maybe Send (by_client r so_far m) so_far (λ a. tt))
  client_silent (word.Flies u f) = silent_at t u c past (flies r f so_far) so_far
      (λ w. silent_maybe (λ o. Flies (request_as w f.xid o)) (op_of r so_far f.op) so_far (λ a. tt))
  client_silent (word.Heard u f p) =
      silent_at t u c past (hears r f p so_far) so_far (λ w. silent_maybe
      (λ o. Heard (request_as w f.xid o) (answer_of (request_as w f.xid o) p)) (op_of r so_far f.op) so_far (λ a. tt))
  client_silent (word.Hold u l marked size seen) =
      let e = Hold (lock_of l) (unwrap_or size 0) (among seen) in
      silent_at t u c past (λ w. if_on r l.resource e) so_far (λ w. silent_on (same_resource l.resource r) e so_far tt)
  client_silent (word.Drop u l) = silent_at t u c past (λ w. if_on r l.resource (Drop (lock_of l))) so_far
      (λ w. silent_on (same_resource l.resource r) (Drop (lock_of l)) so_far tt)
  client_silent (word.Knows u boot) = silent_at t u c past (λ w. Some (Forgets w)) so_far (λ w. silent_life (Forgets w) so_far tt)
  client_silent (word.Changes q change) =
      silent_if (same_resource q r) so_far (of_life (Client c) past (λ w. did w change so_far) so_far)
      (silent_lives c past (λ w. did w change so_far) so_far (λ w. silent_maybe (λ k. Tells w (Did k (change_of change)))
      (lock_over w (change_of change) (held so_far)) so_far (λ a. tt)))
  client_silent (word.WritesBack q change) =
      silent_if (same_resource q r) so_far (of_life (Client c) past (λ w. takes w change so_far) so_far)
      (silent_lives c past (λ w. takes w change so_far) so_far (λ w. silent_maybe (λ k. Takes w k (change_of change))
      (lock_over w (change_of change) (held so_far)) so_far (λ a. tt)))
  client_silent (word.Send (Client d) m) = silent_same so_far
  client_silent _ = silent_same so_far

-- in what concerns a target, with the line of a client
client_there : (head : Head) (before past : List Line) (stamp : Stamp) (c : ℕ) (e : word.Entry)
    → EntryOk before (turn stamp (Client c)) (Client c) e → Still head past (line (turn stamp (Client c)) e ∷ past)
client_there head before past stamp c (word.Act d) ok = absurd ok
client_there head before past stamp c (word.Txn d) ok = absurd ok
client_there head before past stamp c (word.Grant l asked) ok = absurd ok
client_there head before past stamp c (word.Wait l asked) ok = absurd ok
client_there head before past stamp c (word.Answers d) ok = absurd ok
client_there head before past stamp c _ ok =
    record {
      gives = record { gave = λ d l g. g; back = λ d l g. g };
      does = record { acted = λ d a. a; back = λ d a. a; closed = refl; lost = λ n. refl };
      grants = record { granted = refl; evicted = refl; shown = λ d l g i serves. i serves };
      cookie = omega arith;
      queued = refl;
    }

pub client_still : (head : Head) (t : ℕ) (stamp : Stamp) (c : ℕ) (e : word.Entry) (past : List Line)
    → EntryOk past (turn stamp (Client c)) (Client c) e → Still head (only t past) (only t (line (turn stamp (Client c)) e ∷ past))
client_still head t stamp c e past ok =
    cond_both (concerns t (Client c) e) (line (turn stamp (Client c)) e ∷ only t past) (only t past)
    (λ (p : List Line). Still head (only t past) p)
    (λ on. client_there head past (only t past) stamp c e ok)
    (λ off. still_same head (only t past))

-- ---- another target's line

silent_off : (b : Bool) (h k : List Entry) → b ≡ false → Silent h (if b then k else h)
silent_off true h k e = absurd (cc)
silent_off false h k e = silent_same h

silent_none : (b : Bool) (h : List Entry) → Silent h (if b then h else h)
silent_none b h = silent_if b h h (silent_same h)

pub other_silent : (t : ℕ) (r : Resource) (stamp : Stamp) (u : ℕ) (e : word.Entry) (past : List Line) → nat_eq t u ≡ false
    → Silent (story t r past) (story t r (line (turn stamp (Target u)) e ∷ past))
other_silent t r stamp u (word.Send (Target v) m) past off = silent_none (nat_eq v t) (story t r past)
other_silent t r stamp u (word.Send (Client d) m) past off = let h = story t r past
    in silent_off (nat_eq t u) h (with_entry (option_map Send (by_target h m)) h) off
other_silent t r stamp u (word.Flies v f) past off = silent_none (nat_eq v t) (story t r past)
other_silent t r stamp u (word.Heard v f p) past off = silent_none (nat_eq v t) (story t r past)
other_silent t r stamp u (word.Hold v l marked size seen) past off = silent_none (nat_eq v t) (story t r past)
other_silent t r stamp u (word.Drop v l) past off = silent_none (nat_eq v t) (story t r past)
other_silent t r stamp u (word.Knows v boot) past off = silent_none (nat_eq v t) (story t r past)
other_silent t r stamp u (word.Changes q change) past off = silent_none (same_resource q r) (story t r past)
other_silent t r stamp u (word.WritesBack q change) past off = silent_none (same_resource q r) (story t r past)
other_silent t r stamp u (word.Grant l asked) past off = let h = story t r past
    in silent_off (nat_eq t u) h (with_entry (grants r l asked h) h) off
other_silent t r stamp u (word.Wait l asked) past off = let h = story t r past
    in silent_off (nat_eq t u) h (with_entry (served r asked h (λ q. Wait q (lock_of l))) h) off
other_silent t r stamp u (word.Act d) past off = let h = story t r past in silent_off (nat_eq t u) h (with_entry (acts r d h) h) off
other_silent t r stamp u (word.Answers d) past off = let h = story t r past in silent_off (nat_eq t u) h (with_entry (acts r d h) h) off
other_silent t r stamp u (word.Txn d) past off = let h = story t r past
    in silent_off (nat_eq t u) h (with_entry (served r d h (Txn d.reply.txn.0)) h) off
other_silent t r stamp u (word.Release l) past off = let h = story t r past
    in silent_off (nat_eq t u) h (with_entry (if_on r l.resource (Release l.cookie.0)) h) off
other_silent t r stamp u (word.Commit to batch) past off = let h = story t r past
    in silent_off (nat_eq t u) h (with_entry (Some (Commit to)) h) off
other_silent t r stamp u (word.Close o) past off = let h = story t r past
    in silent_off (nat_eq t u) h (with_entry (Some (closes h o)) h) off
other_silent t r stamp u (word.Evict who cause) past off = let h = story t r past
    in silent_off (nat_eq t u) h (with_entry (Some (Evict (number_of who))) h) off
other_silent t r stamp u _ past off = silent_same (story t r past)

pub other_only : (t : ℕ) (stamp : Stamp) (u : ℕ) (e : word.Entry) (past : List Line) → nat_eq t u ≡ false
    → only t (line (turn stamp (Target u)) e ∷ past) ≡ only t past
other_only t stamp u e past off = rw off refl

-- ---- the target's own line

-- what an entry of the target gives
abbrev pub given_by : Resource → List Entry → word.Entry → Option Entry
given_by r h (word.Send (Client c) m) = option_map Send (by_target h m)
given_by r h (word.Grant l asked) = grants r l asked h
given_by r h (word.Wait l asked) = served r asked h (λ q. Wait q (lock_of l))
given_by r h (word.Act d) = acts r d h
given_by r h (word.Answers d) = acts r d h
given_by r h (word.Txn d) = served r d h (Txn d.reply.txn.0)
given_by r h (word.Release l) = if_on r l.resource (Release l.cookie.0)
given_by r h (word.Commit to batch) = Some (Commit to)
given_by r h (word.Close o) = Some (closes h o)
given_by r h (word.Evict who cause) = Some (Evict (number_of who))
given_by r h _ = None

pub own_only : (t : ℕ) (stamp : Stamp) (e : word.Entry) (past : List Line) → only t (line (turn stamp (Target t)) e ∷ past)
    ≡ line (turn stamp (Target t)) e ∷ only t past
own_only t stamp e past = rw (self t) refl

same_both : {A : Type 0} (b : Bool) (x : A) → (if b then x else x) ≡ x
same_both true x = refl
same_both false x = refl

pub own_story : (t : ℕ) (r : Resource) (stamp : Stamp) (e : word.Entry) (past : List Line)
    → story t r (line (turn stamp (Target t)) e ∷ past) ≡ with_entry (given_by r (story t r past) e) (story t r past)
own_story t r stamp (word.Send (Target v) m) past = same_both (nat_eq v t) (story t r past)
own_story t r stamp (word.Send (Client d) m) past = rw (self t) refl
own_story t r stamp (word.Flies v f) past = same_both (nat_eq v t) (story t r past)
own_story t r stamp (word.Heard v f p) past = same_both (nat_eq v t) (story t r past)
own_story t r stamp (word.Hold v l marked size seen) past = same_both (nat_eq v t) (story t r past)
own_story t r stamp (word.Drop v l) past = same_both (nat_eq v t) (story t r past)
own_story t r stamp (word.Knows v boot) past = same_both (nat_eq v t) (story t r past)
own_story t r stamp (word.Changes q change) past = same_both (same_resource q r) (story t r past)
own_story t r stamp (word.WritesBack q change) past = same_both (same_resource q r) (story t r past)
own_story t r stamp (word.Grant l asked) past = rw (self t) refl
own_story t r stamp (word.Wait l asked) past = rw (self t) refl
own_story t r stamp (word.Act d) past = rw (self t) refl
own_story t r stamp (word.Answers d) past = rw (self t) refl
own_story t r stamp (word.Txn d) past = rw (self t) refl
own_story t r stamp (word.Release l) past = rw (self t) refl
own_story t r stamp (word.Commit to batch) past = rw (self t) refl
own_story t r stamp (word.Close o) past = rw (self t) refl
own_story t r stamp (word.Evict who cause) past = rw (self t) refl
own_story t r stamp _ past = refl
