-- The scenario `scenarios/striped-file.scene`: a file over two object targets is cut, written and read. The story of its first stripe,
-- which is
-- on target 2: changes and a page, and no read, since each read is one of two stripes.
use Rattle.std.proofs.Common.{◌≡◌, true, List, [], ◌∷◌, Some, None, refl, sym, subst, inl, arith}
use Rattle.std.specs.Prelude.{drop}
use Rattle.std.specs.Prelude.{pos}
use Rattle.lu_layout.specs.Raid0 as raid0
use Rattle.lu_msg.specs.declared.calls.Call.TheVariants as call
use Rattle.lu_scene.specs.Lines.{default_head}
use Rattle.lu_scene.specs.declared.scene.Scene.{Scene}
use Rattle.lu_scene.specs.declared.scene.SceneLine.TheVariants.{Call, Run}
use Rattle.lu_spec_client.specs.Messages.{padded}
use Rattle.lu_proof_bytes.specs.Object.Words.{Write, Cut, Get, Request, Answer, Content, Ask, Reply, Did, Entry, Flies, Heard, Tells, Acts}
use Rattle.lu_proof_bytes.specs.Object.Words.{Send}
use Rattle.lu_proof_bytes.specs.Object.Guards.{AllAllowed}
use Rattle.lu_proof_lawful.specs.Projection.Requests.{among}
use Rattle.lu_proof_lawful.specs.Projection.Stories.{story}
use Rattle.lu_proof_examples.proofs.Objects.Checks.{no_answer}
use Rattle.lu_proof_examples.proofs.Objects.Beginnings.{padded_reads, to_write, to_read, granted_to_read, has_lock_allowed}
use Rattle.lu_proof_examples.proofs.Objects.Words.{past_after, f, first, writer, object_at, request, has_lock}

abbrev pub scene : Scene
scene =
    record {
      head = record default_head { osts = 2 };
      lines =
          Call 0 0 (call.Create f (Some (65536, pos 2))) ∷ Run ∷ Call 0 0 (call.Open 0 f) ∷ Run ∷ Call 0 0 (call.Cut 0 70000) ∷ Run
          ∷ Call 0 0 (call.Stat f)
          ∷ Run ∷ Call 0 0 (call.Read 0 69998 10) ∷ Run ∷ Call 0 0 (call.Cut 0 3) ∷ Run ∷ Call 0 0 (call.Write 0 5 (97 ∷ 98 ∷ [])) ∷ Run
          ∷ Call 0 0 (call.Read 0 0 100) ∷ Run ∷ Call 0 0 (call.Cut 0 0) ∷ Run ∷ Call 0 0 (call.Read 0 0 1) ∷ Run ∷ Call 0 0 (call.Stat f)
          ∷ Run ∷ [];
    }

abbrev pub get : Request
get = request writer 2 (Get (first 1) 0 4096)

-- the target's object is empty still
abbrev pub nothing : Answer
nothing = Content (padded [] 4096) None (among [])

abbrev pub told : List Entry
told =
    Tells writer (Did (first 1) (Cut 0))
    ∷ Heard get nothing
    ∷ Send (Reply 1 writer 2 nothing)
    ∷ Acts get nothing
    ∷ Send (Ask 1 get)
    ∷ Flies get
    ∷ Tells writer (Did (first 1) (Write 5 (97 ∷ 98 ∷ [])))
    ∷ Tells writer (Did (first 1) (Cut 3))
    ∷ Tells writer (Did (first 1) (Cut 65536))
    ∷ has_lock 65535 None

pub told_is : story 2 (object_at 0) (past_after 60 scene) ≡ told
unfolding raid0.stripe_of raid0.offset_of raid0.position_of raid0.greatest_end
told_is = refl

pub told_allowed : AllAllowed told
told_allowed =
    let longer : AllAllowed (drop 8 told) =
    (to_write (first 1) writer (inl refl), has_lock_allowed 65535 None) in
    let shorter : AllAllowed (drop 7 told) =
    (to_write (first 1) writer (inl refl), longer) in
    let writes : AllAllowed (drop 6 told) =
    (to_write (first 1) writer (inl refl), shorter) in
    let gets : AllAllowed (drop 5 told) = (
      record {
        idle = refl;
        next = omega arith;
        op = to_read (first 1) writer true (inl refl);
      },
      writes,
    ) in
    let asks_page : AllAllowed (drop 4 told) = ((refl, refl), gets) in
    let acts : AllAllowed (drop 3 told) = (
      (
        record { was = inl refl; first = no_answer (drop 4 told) writer 2 refl },
        (
          first 1,
          0,
          4096,
          refl,
          refl,
          granted_to_read (first 1) writer true (inl refl),
          (λ n p a i low. absurd i),
          (λ p v e. padded_reads 0 4096 [] p v e),
          tt,
        ),
      ),
      asks_page,
    ) in
    let page_sent : AllAllowed (drop 2 told) = ((inl (refl, refl, refl), refl), acts) in
    let page_heard : AllAllowed (drop 1 told) = ((refl, inl refl), page_sent) in
    (to_write (first 1) writer (inl refl), page_heard)

pub allowed : AllAllowed (story 2 (object_at 0) (past_after 60 scene))
allowed = subst AllAllowed (sym told_is) told_allowed
