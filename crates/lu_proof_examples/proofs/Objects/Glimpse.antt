-- The scenario `scenarios/glimpse.scene`: a second client asks for the size of a file that the first has changed in its cache alone. The
-- holder's answer to the target is no entry; what the target answers is.
use Rattle.std.proofs.Common.{◌≡◌, List, [], ◌∷◌, Some, refl, sym, subst, inl, arith}
use Rattle.std.specs.Prelude.{drop}
use Rattle.lu_layout.specs.Raid0 as raid0
use Rattle.lu_msg.specs.declared.calls.Call.TheVariants as call
use Rattle.lu_scene.specs.declared.scene.Scene.{Scene}
use Rattle.lu_scene.specs.declared.scene.SceneLine.TheVariants.{Call, Run}
use Rattle.lu_proof_bytes.specs.Object.Words.{Size, Request, Sized, Ask, Reply, Entry, Flies, Heard, Acts, Send}
use Rattle.lu_proof_bytes.specs.Object.Guards.{AllAllowed}
use Rattle.lu_proof_lawful.specs.Projection.Stories.{story}
use Rattle.lu_proof_examples.proofs.Objects.Checks.{no_answer}
use Rattle.lu_proof_examples.proofs.Objects.Beginnings.{wrote_allowed}
use Rattle.lu_proof_examples.proofs.Objects.Words.{past_after, two_clients, written_by_one, reader, object_at, request, wrote}

abbrev pub scene : Scene
scene = record { head = two_clients; lines = written_by_one (Call 1 0 (call.Glimpse 0) ∷ Run ∷ []) }

abbrev pub ask_size : Request
ask_size = request reader 1 Size

abbrev pub told : List Entry
told =
    Heard ask_size (Sized (Some 2))
    ∷ Send (Reply 1 reader 1 (Sized (Some 2)))
    ∷ Acts ask_size (Sized (Some 2))
    ∷ Send (Ask 1 ask_size)
    ∷ Flies ask_size
    ∷ wrote

pub told_is : story 1 (object_at 0) (past_after 40 scene) ≡ told
unfolding raid0.stripe_of raid0.offset_of raid0.position_of raid0.greatest_end
told_is = refl

pub told_allowed : AllAllowed told
told_allowed =
    let flies : AllAllowed (drop 4 told) = (record { idle = refl; next = omega arith; op = tt }, wrote_allowed) in
    let asks : AllAllowed (drop 3 told) = ((refl, refl), flies) in
    let acts : AllAllowed (drop 2 told) = ((record { was = inl refl; first = no_answer (drop 3 told) reader 1 refl }, tt), asks) in
    let replies : AllAllowed (drop 1 told) = ((inl (refl, refl, refl), refl), acts) in
    ((refl, inl refl), replies)

pub allowed : AllAllowed (story 1 (object_at 0) (past_after 40 scene))
allowed = subst AllAllowed (sym told_is) told_allowed
