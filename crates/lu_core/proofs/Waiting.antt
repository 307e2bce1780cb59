-- Where no turn asks a disk, the requests that wait at a target are those that the guards speak of: none leaves with its life, and no
-- window closes.
use Rattle.std.proofs.Common.{◌≡◌, ℕ, Bool, true, false, List, [], ◌∷◌, ◌++◌, Some, None, refl, ap, ◌∙◌}
use Rattle.std.specs.Prelude.{nat_eq, if◌then◌else◌}
use Rattle.std.proofs.lemmas.Bool.{cond_both}
use Rattle.lu_base.specs.declared.ids.At.{At}
use Rattle.lu_base.specs.declared.ids.Node.{Node}
use Rattle.lu_base.specs.declared.ids.Node.TheVariants as node
use Rattle.lu_msg.specs.declared.messages.Request.{Request as RequestOf}
use Rattle.lu_spec_entries.specs.Concerns.{concerns, only}
use Rattle.lu_spec_entries.specs.Words.{Entry, Act, Txn, Grant, Wait, Commit, Evict, Close, Enters, Answers, Line, line}
use Rattle.lu_spec_target.specs.Locks.{without_request}
use Rattle.lu_spec_target.specs.States.{Setting, Target, after, target_at}
use Rattle.lu_proof_lawful.specs.Covered.Heads.{Head}
use Rattle.lu_proof_lawful.specs.Covered.TargetStates.{server_of, server_after}
use Rattle.lu_proof_run.proofs.Targets.{target_line, target_left}
use Rattle.lu_proof_scenes.proofs.Groups.{turn}
use Rattle.lu_proof_scenes.proofs.Asking.{Suits, AllSuit}

module _ (MayAsk : Type 0) (osts clients : ℕ) (none : MayAsk → ⊥) (head : Head) where
  line_waiting : (past : List Line) (at : At) (t : ℕ) (v : Target) (e : Entry) → Suits MayAsk osts clients e → v.queue
      ≡ (server_of head.osts past).waiting
      → (after v e).queue ≡ (server_after head.osts (server_of head.osts past) e).waiting
  line_waiting past at t v (Enters r) s h = ap (λ (rs : List RequestOf). rs ++ r ∷ []) h
  line_waiting past at t v (Act d) s h = ap (without_request d) h
  line_waiting past at t v (Txn d) s h = ap (without_request d) h
  line_waiting past at t v (Grant lock (Some d)) s h = ap (without_request d) h
  line_waiting past at t v (Grant lock None) s h = h
  line_waiting past at t v (Wait lock asked) s h = ap (without_request asked) h
  line_waiting past at t v (Answers d) s h = ap (without_request d) h
  line_waiting past at t v (Commit to batch) s h = absurd (none s.0)
  line_waiting past at t v (Evict who cause) s h = absurd (none s)
  line_waiting past at t v (Close o) s h = absurd (none s.0)
  line_waiting past at t v e s h = h

  pub waiting_same : (setting : Setting) (past : List Line) → AllSuit MayAsk osts clients past → (target_at setting clients past).queue
      ≡ (server_of head.osts (only setting.id past)).waiting
  waiting_same setting [] s = refl
  waiting_same setting (l ∷ past) s = by l.at.node (waiting_same setting past s.1)
    where
      by : (n : Node) → (target_at setting clients past).queue ≡ (server_of head.osts (only setting.id past)).waiting
          → (target_at setting clients (line (turn l.at.stamp n) l.entry ∷ past)).queue
          ≡ (server_of head.osts (only setting.id (line (turn l.at.stamp n) l.entry ∷ past))).waiting
      by (node.Client d) h =
          ap (λ (v : Target). v.queue) (target_left setting clients past (turn l.at.stamp (node.Client d)) l.entry refl)
          ∙ cond_both (concerns setting.id (node.Client d) l.entry) (line (turn l.at.stamp (node.Client d)) l.entry ∷ only setting.id past)
          (only setting.id past)
          (λ (p : List Line). (target_at setting clients past).queue ≡ (server_of head.osts p).waiting) (λ i. h) (λ i. h)
      by (node.Target u) h = own (nat_eq setting.id u) refl
        where
          at : At
          at = turn l.at.stamp (node.Target u)

          own : (b : Bool) → nat_eq setting.id u ≡ b → (target_at setting clients (line at l.entry ∷ past)).queue
              ≡ (server_of head.osts (if b then line at l.entry ∷ only setting.id past else only setting.id past)).waiting
          own false e = ap (λ (v : Target). v.queue) (target_left setting clients past at l.entry e) ∙ h
          own true e =
              ap (λ (v : Target). v.queue) (target_line setting clients past at l.entry e)
              ∙ line_waiting (only setting.id past) at u (target_at setting clients past) l.entry s.0 h
