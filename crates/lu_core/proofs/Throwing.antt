-- Messages at the front that go to a node that is down are thrown away, one after another: the player stays where it is.
use Rattle.std.proofs.Common.{◌≡◌, ℕ, zero, suc, ◌+◌, ◌-◌, Bool, true, false, List, [], ◌∷◌, Option, Some, None, refl, sym, ap, ◌∙◌, arith}
use Rattle.std.specs.List.{slice_get}
use Rattle.std.specs.Prelude.{slice_set, IsSomeAnd, option_map}
use Rattle.lu_net.specs.declared.links.Posted.{Posted}
use Rattle.lu_net.specs.declared.links.Sent.{Sent as SentMessage}
use Rattle.lu_net.specs.Posts.{sent_at, post_at, IsUnspent, least_unspent, spend}
use Rattle.lu_scene.specs.declared.scene.Scene.{Scene}
use Rattle.lu_scene.specs.declared.scene.SceneLine.{SceneLine}
use Rattle.lu_scene.specs.declared.scene.SceneLine.TheVariants.{Run, RunSome}
use Rattle.lu_spec_run.specs.Scenarios.{Config, head_of, past_of, is_down}
use Rattle.lu_proof_run.specs.Steps.{LeadsTo, none_failing, spent}
use Rattle.lu_proof_run.proofs.Messages.{run_thrown, some_thrown}
use Rattle.lu_run_nodes.specs.States.{is_down_in}
use Rattle.lu_run_wire.specs.Wires.{WireState}
use Rattle.lu_run_wire.proofs.Shown.{spent_shows}
use Rattle.lu_core.specs.States.{PlayerState, is_thrown_in, player_spent}
use Rattle.lu_core.specs.Progress.{IsAt, RunsOn, Throws}
use Rattle.lu_core.proofs.Moves.{down_is}

-- ---- each message that is thrown away is spent, so that one less isn't

-- how many messages aren't spent
abbrev pub unspent : List Posted → ℕ
unspent [] = 0
unspent (p ∷ posts) = elim p.spent [ true ↦ unspent posts | false ↦ unspent posts + 1 ]

fewer : (posts : List Posted) (place : ℕ) (p : Posted) → slice_get posts place ≡ Some p → p.spent ≡ false
    → unspent (slice_set posts place (record { sent = p.sent; spent = true })) + 1 ≡ unspent posts
fewer [] place p e free = absurd (cc)
fewer (x ∷ posts) zero p e free = let same : x.spent ≡ false = ap (λ (v : Posted). v.spent) (same_some x p e) ∙ free in rw same refl
  where
    same_some : (a b : Posted) → Some a ≡ Some b → a ≡ b
    same_some a b e = cc
fewer (x ∷ posts) (suc place) p e free = by x.spent (fewer posts place p e free)
  where
    by : (s : Bool) → unspent (slice_set posts place (record { sent = p.sent; spent = true })) + 1 ≡ unspent posts
        → (elim s [
          | true ↦ unspent (slice_set posts place (record { sent = p.sent; spent = true }))
          | false
              ↦ unspent (slice_set posts place (record { sent = p.sent; spent = true })) + 1
        ]) + 1
        ≡ (elim s [ true ↦ unspent posts | false ↦ unspent posts + 1 ])
    by true h = h
    by false h = omega arith

pub spend_fewer : (posts : List Posted) (n : ℕ) → IsUnspent posts n → unspent (spend posts n) + 1 ≡ unspent posts
spend_fewer posts zero is = absurd is
spend_fewer posts (suc place) is = by (slice_get posts place) refl is
  where
    by : (o : Option Posted) → slice_get posts place ≡ o → IsSomeAnd o (λ post. post.spent ≡ false) → unspent (spend posts (suc place)) + 1
        ≡ unspent posts
    by None e is = absurd is
    by (Some p) e is = let k : suc place - 1 ≡ place = omega arith in rw (e, k) (fewer posts place p e is)

-- ---- what the player has of a message

-- one that was sent, and whether its node is down
pub found_in : (p : PlayerState) (n : ℕ) (t : Bool) → is_thrown_in p n ≡ Some t → (m : SentMessage) × (sent_at p.wire.links n ≡ Some m)
    × (is_down_in p.nodes m.to ≡ t)
found_in p n t e = by (sent_at p.wire.links n) refl e
  where
    by : (o : Option SentMessage) → sent_at p.wire.links n ≡ o → option_map (λ sent. is_down_in p.nodes sent.to) o ≡ Some t
        → (m : SentMessage) × (sent_at p.wire.links n ≡ Some m) × (is_down_in p.nodes m.to ≡ t)
    by None f e = absurd (cc)
    by (Some m) f e = (m, f, cc)

-- one that isn't spent was sent; it is thrown away unless its node takes it
pub is_thrown : (p : PlayerState) (n : ℕ) → IsUnspent p.wire.links n → (is_thrown_in p n ≡ Some false → ⊥) → is_thrown_in p n ≡ Some true
is_thrown p n is up = by (post_at p.wire.links n) refl is
  where
    by : (o : Option Posted) → post_at p.wire.links n ≡ o → IsSomeAnd o (λ post. post.spent ≡ false) → is_thrown_in p n ≡ Some true
    by None e is = absurd is
    by (Some post) e is = down (is_down_in p.nodes post.sent.to) refl
      where
        down : (t : Bool) → is_down_in p.nodes post.sent.to ≡ t → is_thrown_in p n ≡ Some true
        down true t = rw (e, t) refl
        down false t = absurd (up (rw (e, t) refl))

-- the run has the same message, and the same of its node
pub found_at : (scene : Scene) (p : PlayerState) (c : Config) (at : IsAt scene p c) (n : ℕ) (t : Bool) → is_thrown_in p n ≡ Some t
    → (m : SentMessage) × (sent_at c.posts n ≡ Some m) × (is_down (head_of scene.head) none_failing m.to (past_of c) ≡ t)
found_at scene p c at n t thrown =
    let m = found_in p n t thrown in
    (m.0, ap (λ ps. sent_at ps n) (sym at.wire.links) ∙ m.1, sym (down_is scene p c m.0.to at) ∙ m.2)

pub least_at : (scene : Scene) (p : PlayerState) (c : Config) (at : IsAt scene p c) (least : Option ℕ) → least_unspent p.wire.links ≡ least
    → least_unspent c.posts ≡ least
least_at scene p c at least is = ap least_unspent (sym at.wire.links) ∙ is

-- ---- it is spent

-- as the player's parts have it
pub spent_is : (parts p : PlayerState) (w : WireState) (n : ℕ) → parts ≡ p → w ≡ record parts.wire { links = spend parts.wire.links n }
    → ◌≡◌ {A = PlayerState} (record { nodes = parts.nodes; wire = w }) (player_spent p n)
spent_is parts p w n same spent =
    ap (λ (v : WireState). record { nodes = parts.nodes; wire = v }) spent ∙ ap (λ (v : PlayerState). player_spent v n) same

pub spent_at : (scene : Scene) (p : PlayerState) (c : Config) (n : ℕ) (lines : List SceneLine) → IsAt scene p c
    → LeadsTo scene (spent c n lines)
    → IsAt scene (player_spent p n) (spent c n lines)
spent_at scene p c n lines at leads = record { leads = leads; nodes = at.nodes; wire = spent_shows p.wire c n lines at.wire }

thrown_leads : (line : SceneLine) (scene : Scene) (c : Config) (rest : List SceneLine) (n : ℕ) (m : SentMessage) → RunsOn line
    → LeadsTo scene c
    → c.lines ≡ line ∷ rest → least_unspent c.posts ≡ Some n → sent_at c.posts n ≡ Some m
    → is_down (head_of scene.head) none_failing m.to (past_of c) ≡ true → LeadsTo scene (spent c n (line ∷ rest))
thrown_leads Run scene c rest n m runs = run_thrown scene c rest n m
thrown_leads (RunSome (suc k)) scene c rest n m runs = some_thrown scene c rest k n m
thrown_leads (RunSome zero) scene c rest n m runs = absurd runs
thrown_leads _ scene c rest n m runs = absurd runs

pub throws_none : (p : PlayerState) → Throws p p
throws_none p scene c line rest runs at is = (c, at, is)

-- one more
pub throws_one : (p q : PlayerState) (n : ℕ) → Throws p q → least_unspent q.wire.links ≡ Some n → is_thrown_in q n ≡ Some true
    → Throws p (player_spent q n)
throws_one p q n throws least down scene c line rest runs at is =
    let d = throws scene c line rest runs at is in
    let m = found_at scene q d.0 d.1 n true down in (
      spent d.0 n (line ∷ rest),
      spent_at scene q d.0 n (line ∷ rest) d.1
          (thrown_leads line scene d.0 rest n m.0 runs d.1.leads d.2 (least_at scene q d.0 d.1 (Some n) least) m.1 m.2),
      refl,
    )
