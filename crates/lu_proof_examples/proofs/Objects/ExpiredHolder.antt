-- The scenario `scenarios/expired-holder.scene`: the holder of a lock doesn't hear its callback in time, and loses its life at that target
-- with
-- what it has written; the reader goes on. The holder hears so later, and drops its lock over its changes: that is no entry.
use Rattle.std.proofs.Common.{◌≡◌, List, [], ◌∷◌, false, refl, sym, subst, inl, inr, arith}
use Rattle.std.specs.Prelude.{drop}
use Rattle.lu_base.specs.declared.ids.Node.TheVariants.{Target}
use Rattle.lu_layout.specs.Raid0 as raid0
use Rattle.lu_msg.specs.declared.calls.Call.TheVariants as call
use Rattle.lu_scene.specs.declared.scene.Scene.{Scene}
use Rattle.lu_scene.specs.declared.scene.SceneLine.TheVariants.{Call, Run, RunSome, Lose, Tick}
use Rattle.lu_proof_bytes.specs.Object.Words.{Waiting, Give, Block, Entry, Heard, Hold, Promote, Release, Evict, Commit, Send}
use Rattle.lu_proof_bytes.specs.Object.Guards.{AllAllowed}
use Rattle.lu_proof_lawful.specs.Projection.Requests.{among}
use Rattle.lu_proof_lawful.specs.Projection.Stories.{story}
use Rattle.lu_proof_examples.proofs.Objects.Checks.{free_is, released}
use Rattle.lu_proof_examples.proofs.Objects.Beginnings.{whole, called_back_allowed}
use Rattle.lu_proof_examples.proofs.Objects.Words.{written, waits, past_after, two_clients, written_by_one, first, writer, reader}
use Rattle.lu_proof_examples.proofs.Objects.Words.{object_at, ask_read, read, called_back}

abbrev pub scene : Scene
scene =
    record {
      head = record two_clients { expire = 2 };
      lines = written_by_one (Call 1 0 (call.Read 0 0 8) ∷ RunSome 1 ∷ Lose 11 ∷ Tick (Target 1) ∷ Lose 12 ∷ Tick (Target 1) ∷ Run ∷ []);
    }

-- the last entry is the commit with which the holder's next life is admitted
abbrev pub told : List Entry
told =
    Commit 0
    ∷ Hold read 0 (among [])
    ∷ Heard ask_read (Waiting (first 2))
    ∷ Send (Give 1 read 0 (among []))
    ∷ Promote read
    ∷ Release (first 1)
    ∷ Evict writer
    ∷ Commit 0
    ∷ Send (Block 1 writer (first 1))
    ∷ called_back

pub told_is : story 1 (object_at 0) (past_after 60 scene) ≡ told
unfolding raid0.stripe_of raid0.offset_of raid0.position_of raid0.greatest_end
told_is = refl

pub told_allowed : AllAllowed told
told_allowed =
    let block : AllAllowed (drop 8 told) = ((written, inl refl, refl, refl), called_back_allowed) in
    let commit : AllAllowed (drop 7 told) = (tt, block) in
    let evict : AllAllowed (drop 6 told) = (tt, commit) in
    let release : AllAllowed (drop 5 told) = (inr (released (first 1) (drop 6 told) refl), evict) in
    let promote : AllAllowed (drop 4 told) = (
      record {
        ahead = waits;
        waits = (λ e. absurd (omega arith), inl refl);
        life = refl;
        cookie = refl;
        write = refl;
        covered = λ p e. whole (first 2) reader false p;
        free = free_is read (drop 5 told) refl;
      },
      release,
    ) in
    let gives : AllAllowed (drop 3 told) = (
      (inl refl, (λ p i. refl, λ p e. absurd (omega arith)), (λ n p a i low. absurd i), refl),
      promote,
    ) in
    let heard : AllAllowed (drop 2 told) = ((refl, inr (inr (inr (inl refl)))), gives) in
    let hold : AllAllowed (drop 1 told) = ((refl, inr (inl refl)), heard) in
    (tt, hold)

pub allowed : AllAllowed (story 1 (object_at 0) (past_after 60 scene))
allowed = subst AllAllowed (sym told_is) told_allowed
