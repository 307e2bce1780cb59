-- The read of `WriteThenRead`, and then a crash before the write-back is committed. The writer is dead, so its write-back is lost, and both
-- lives
-- are evicted by the close: the writer is absent, the reader saw what is lost. The reader's next life finds an empty object.
use Rattle.std.proofs.Common.{◌≡◌, ℕ, false, List, [], ◌∷◌, Some, None, refl, sym, subst, inl, arith}
use Rattle.std.specs.Prelude.{drop, ◌||◌}
use Rattle.std.proofs.lemmas.Bool.Decides.{nat_tests}
use Rattle.lu_layout.specs.Raid0 as raid0
use Rattle.lu_msg.specs.declared.calls.Call.TheVariants as call
use Rattle.lu_scene.specs.declared.scene.Scene.{Scene}
use Rattle.lu_scene.specs.declared.scene.SceneLine.TheVariants.{Call, Run, Crash, Boot, Close as CloseWindow, Die}
use Rattle.lu_proof_bytes.specs.Object.Words.{Lock, Enqueue, Request, Granted, Ask, Reply, Entry, Flies, Heard, Hold, Forgets, Grant, Evict}
use Rattle.lu_proof_bytes.specs.Object.Words.{Commit, Close, Send}
use Rattle.lu_proof_bytes.specs.Object.Folds.{awaits, evicted, nothing_lost}
use Rattle.lu_proof_bytes.specs.Object.Guards.{AllAllowed}
use Rattle.lu_proof_bytes.specs.Object.History.{history}
use Rattle.lu_proof_lawful.specs.Projection.Closes.{lost_by}
use Rattle.lu_proof_lawful.specs.Projection.Requests.{among}
use Rattle.lu_proof_lawful.specs.Projection.Stories.{story}
use Rattle.lu_proof_examples.proofs.Objects.Checks.{no_answer, free_is, seen_is}
use Rattle.lu_proof_examples.proofs.Objects.Beginnings.{whole}
use Rattle.lu_proof_examples.proofs.Objects.Words.{past_after, two_clients, written_by_one, f, second, writer, reader, object_at, lock}
use Rattle.lu_proof_examples.proofs.Objects.Words.{request}
use Rattle.lu_proof_examples.proofs.Objects.WriteThenRead as before

abbrev pub scene : Scene
scene =
    record {
      head = two_clients;
      lines =
          written_by_one
          (Call 1 0 (call.Read 0 0 8) ∷ Run ∷ Die 0 ∷ Crash (record { 0 = 1 }) ∷ Boot (record { 0 = 1 }) ∷ Run
          ∷ CloseWindow (record { 0 = 1 }) ∷ Run
          ∷ Call 1 0 (call.Open 0 f) ∷ Run ∷ Call 1 0 (call.Read 0 0 8) ∷ Run ∷ []);
    }

-- the second life of client 1
abbrev pub next_reader : ℕ
next_reader = 9

abbrev pub again : Lock
again = lock (second 1) next_reader false 0 None

abbrev pub ask_again : Request
ask_again = request next_reader 1 (Enqueue false 0 (Some 7))

abbrev pub closed : List Entry
closed = Evict reader ∷ Evict writer ∷ Commit 0 ∷ Close 2 (lost_by 0 2 []) (among (writer ∷ reader ∷ [])) ∷ Forgets reader ∷ before.told

abbrev pub told : List Entry
told =
    Hold again 0 (among [])
    ∷ Heard ask_again (Granted again 0 (among []))
    ∷ Send (Reply 2 next_reader 1 (Granted again 0 (among [])))
    ∷ Grant ask_again again 0 (among [])
    ∷ Send (Ask 2 ask_again)
    ∷ Flies ask_again
    ∷ Commit 0
    ∷ closed

pub told_is : story 1 (object_at 0) (past_after 100 scene) ≡ told
unfolding raid0.stripe_of raid0.offset_of raid0.position_of raid0.greatest_end
told_is = refl

-- who stays awaits no lock: neither of the two does stay
forgot : (c k : ℕ) → (among (writer ∷ reader ∷ []) c || evicted c (drop 4 closed)) ≡ false → awaits c k (drop 4 closed) ≡ false
forgot c k e = grind (arith, nat_tests)

pub closed_allowed : AllAllowed closed
closed_allowed =
    let knows : AllAllowed (drop 4 closed) = (tt, before.told_allowed) in
    let close : AllAllowed (drop 3 closed) = (
      record {
        newer = omega arith;
        kept = ((λ o. absurd (cc)), ((λ o. absurd (cc)), ((λ o. absurd (cc)), ((λ o. tt), ((λ o n s. absurd (cc)), ((λ o. tt), tt))))));
        forgot = forgot;
      },
      knows,
    ) in
    (tt, (tt, (tt, close)))

pub told_allowed : AllAllowed told
told_allowed =
    let commit : AllAllowed (drop 6 told) = (tt, closed_allowed) in
    let flies : AllAllowed (drop 5 told) = (record { idle = refl; next = omega arith; op = tt }, commit) in
    let asks : AllAllowed (drop 4 told) = ((refl, refl), flies) in
    let grant : AllAllowed (drop 3 told) = (
      record {
        fresh = record { was = inl refl; first = no_answer (drop 4 told) next_reader 1 refl };
        life = refl;
        new = omega arith;
        asks = (refl, λ p e. whole (second 1) next_reader false p);
        free = free_is again (drop 4 told) refl;
        size = (λ p i. refl, λ p e. absurd (omega arith));
        sees = λ n p a i low. seen_is (among []) (drop 4 told) 0 refl n p i low;
      },
      asks,
    ) in
    let replies : AllAllowed (drop 2 told) = ((inl (refl, refl, refl), refl), grant) in
    let heard : AllAllowed (drop 1 told) = ((refl, inl refl), replies) in
    ((refl, inl (1, inl refl)), heard)

pub allowed : AllAllowed (story 1 (object_at 0) (past_after 100 scene))
allowed = subst AllAllowed (sym told_is) told_allowed

-- nothing of the lost write is left in the history
pub history_is : history (λ c. evicted c told) nothing_lost told ≡ []
history_is = refl
