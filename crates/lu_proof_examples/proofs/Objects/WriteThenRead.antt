-- The scenario `scenarios/write-then-read.scene`: a second client reads what the first has in its cache alone. The story of the file's
-- object.
use Rattle.std.proofs.Common.{◌≡◌, List, [], ◌∷◌, false, refl, sym, subst, inl, inr, arith}
use Rattle.std.specs.Prelude.{drop, min, ◌-◌}
use Rattle.lu_layout.specs.Raid0 as raid0
use Rattle.lu_msg.specs.declared.calls.Call.TheVariants as call
use Rattle.lu_scene.specs.declared.scene.Scene.{Scene}
use Rattle.lu_scene.specs.declared.scene.SceneLine.TheVariants.{Call, Run}
use Rattle.lu_proof_bytes.specs.Object.Words.{Get, Request, Ask, Reply, Saw, Entry, Flies, Heard, Hold, Tells, Acts, Send}
use Rattle.lu_proof_bytes.specs.Object.Folds.{evicted, nothing_lost}
use Rattle.lu_proof_bytes.specs.Object.Guards.{AllAllowed, Reads}
use Rattle.lu_proof_bytes.specs.Object.History.{Made, Read, Locks, history, read_of, size_of}
use Rattle.lu_proof_bytes.proofs.Object.World.{allowed_lawful}
use Rattle.lu_proof_lawful.specs.Projection.Requests.{among}
use Rattle.lu_proof_lawful.specs.Projection.Stories.{story}
use Rattle.lu_proof_examples.proofs.Objects.Checks.{no_answer, seen_is}
use Rattle.lu_proof_examples.proofs.Objects.Beginnings.{to_read, granted_to_read, padded_reads, padded_has, given_back_allowed}
use Rattle.lu_proof_examples.proofs.Objects.Words.{past_after, two_clients, written_by_one, first, writer, reader, object_at, request}
use Rattle.lu_proof_examples.proofs.Objects.Words.{bytes, hi, read, page, given_back}

abbrev pub scene : Scene
scene = record { head = two_clients; lines = written_by_one (Call 1 0 (call.Read 0 0 8) ∷ Run ∷ []) }

abbrev pub get : Request
get = request reader 2 (Get (first 2) 0 4096)

-- the reader gets the page, which rests on the write-back, and is told the bytes
abbrev pub told : List Entry
told =
    Heard get (page (first 1 ∷ []))
    ∷ Send (Reply 1 reader 2 (page (first 1 ∷ [])))
    ∷ Acts get (page (first 1 ∷ []))
    ∷ Send (Ask 1 get)
    ∷ Flies get
    ∷ Hold read 2 (among (first 1 ∷ []))
    ∷ given_back

pub told_is : story 1 (object_at 0) (past_after 40 scene) ≡ told
unfolding raid0.stripe_of raid0.offset_of raid0.position_of raid0.greatest_end
told_is = refl

pub told_allowed : AllAllowed told
told_allowed =
    let hold : AllAllowed (drop 5 told) = ((refl, inr (inl refl)), given_back_allowed) in
    let flies : AllAllowed (drop 4 told) = (
      record {
        idle = refl;
        next = omega arith;
        op = to_read (first 2) reader false (inl refl);
      },
      hold,
    ) in
    let asks : AllAllowed (drop 3 told) = ((refl, refl), flies) in
    let acts : AllAllowed (drop 2 told) = (
      (
        record { was = inl refl; first = no_answer (drop 3 told) reader 2 refl },
        (
          first 2,
          0,
          4096,
          refl,
          refl,
          granted_to_read (first 2) reader false (inl refl),
          (λ n p a i low. seen_is (among (first 1 ∷ [])) (drop 3 told) 0 refl n p i low),
          (λ p v e. padded_reads 0 4096 bytes p v e),
          (refl, refl),
        ),
      ),
      asks,
    ) in
    let replies : AllAllowed (drop 1 told) = ((inl (refl, refl, refl), refl), acts) in
    ((refl, inl refl), replies)

pub allowed : AllAllowed (story 1 (object_at 0) (past_after 40 scene))
allowed = subst AllAllowed (sym told_is) told_allowed

-- ---- what the theory says of this story

-- the call is told the bytes then. Reads aren't in the map, but the theory's rule for them allows it here: what the reader takes each
-- position for
reads : Reads told reader 0 bytes
reads p v e = padded_has 0 4096 bytes p v (omega arith) e

abbrev pub with_read : List Entry
with_read = Tells reader (Saw 0 8 bytes) ∷ told

pub read_allowed : AllAllowed with_read
read_allowed = (
  inl (
    2,
    record {
      lock = read;
      held = inl refl;
      life = refl;
      last = refl;
      first = omega arith;
      end = 2;
      known = refl;
      over = (omega arith, (λ p i. refl), inl refl);
    },
    refl,
    reads,
  ),
  told_allowed,
)

-- the one history with it: the write and the read
pub history_is : history (λ c. evicted c with_read) nothing_lost with_read ≡ Read reader 0 8 bytes ∷ Made writer hi ∷ []
history_is = refl

-- so what the read was told is the bytes of the history
pub read_right : bytes ≡ read_of (Made writer hi ∷ []) 0 (min 8 (size_of (Made writer hi ∷ []) - 0))
read_right = (allowed_lawful with_read read_allowed).1.0

-- and no two locks that were held at once conflict
pub locks_right : Locks told
locks_right = (allowed_lawful told told_allowed).0
