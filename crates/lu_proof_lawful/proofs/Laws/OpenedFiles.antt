-- The file of a call on a good handle is the one that the laws read in the printed past.
use Rattle.std.proofs.Common.{◌≡◌, ℕ, List, Option, Some, None, inl, inr, refl, sym, subst, ap, ◌∙◌}
use Rattle.std.specs.Option.{option_map}
use Rattle.lu_base.specs.declared.ids.Node.TheVariants.{Client}
use Rattle.lu_base.specs.declared.ids.Stamp.{Stamp}
use Rattle.lu_msg.specs.declared.calls.Call.{Call}
use Rattle.lu_msg.specs.declared.calls.Call.TheVariants as call
use Rattle.lu_held.specs.declared.names.LockName.{LockName}
use Rattle.lu_spec_entries.specs.Carried.{HandleFile, Stage, Bad, Running}
use Rattle.lu_spec_entries.specs.Words.{Line}
use Rattle.lu_spec_entries.specs.Printed.{printed}
use Rattle.lu_proof_lawful.specs.Covered.Calls.{call_at, file_at, file_for}
use Rattle.lu_proof_lawful.specs.Covered.Runs.{IsOnBytes}
use Rattle.lu_proof_lawful.specs.Covered.Heads.{Head}
use Rattle.lu_spec_laws.specs.Words.Calls as calls
use Rattle.lu_spec_laws.specs.Words.Calls.{open_call}
use Rattle.lu_proof_lawful.proofs.Preconditions.Guards.{Begins, Later, Closes}
use Rattle.lu_proof_lawful.proofs.Preconditions.Grown.{Grown}
use Rattle.lu_proof_lawful.proofs.Invariants.Groups.{turn}
use Rattle.lu_proof_lawful.proofs.Laws.Printed.{OfBoth, both_calls, open_is}
use Rattle.lu_proof_lawful.proofs.Laws.Handles.{as_bound, bound_is}

-- ---- the laws read the same file

abbrev IsBoundBy : Running → calls.Begun → Type 0
IsBoundBy a b = IsOnBytes a.call → (a.stage ≡ Bad → ⊥) → b.bound ≡ as_bound a.file

bound_stands : (stage : Stage) (pins : List LockName) (a : Running) (b : calls.Begun) → (a.stage ≡ Bad → ⊥) → (stage ≡ Bad → ⊥)
    → IsBoundBy a b → IsBoundBy (record a { stage = stage; pins = pins }) b
bound_stands stage pins a b good better s = λ on still. s on good

bound_begins : (head : Head) (c : ℕ) (past : List Line) (stamp : Stamp) (r : Running) → Grown head past
    → Closes past (turn stamp (Client c)) → Later past (turn stamp (Client c)) → Begins c past r
    → IsBoundBy r (calls.begun c (printed past) (turn stamp (Client c)) r.call)
bound_begins head c past stamp r g closes later (inr b) on good = absurd (good b.1)
bound_begins head c past stamp r g closes later (inl b) on good = by r.call on b.2
  where
    of : (h : ℕ) → r.file ≡ file_at c h past → calls.bound_to c (printed past) h ≡ as_bound r.file
    of h is = bound_is head c past g (turn stamp (Client c)) closes later h ∙ ap as_bound (sym is)

    by : (k : Call) → IsOnBytes k → r.file ≡ file_for c past k → calls.bound_by c (printed past) (calls.handle_of k) ≡ as_bound r.file
    by (call.Read h offset count) on is = of h is
    by (call.Write h offset bytes) on is = of h is
    by (call.Cut h size) on is = of h is
    by (call.Flush h) on is = of h is
    by (call.Glimpse h) on is = of h is
    by k on is = absurd on

-- the call that stands in a slot by the laws is of that file
pub file_meant : (head : Head) (c slot : ℕ) (past : List Line) (r : Running) (file : HandleFile) → Grown head past → call_at c slot past
    ≡ Some r → IsOnBytes r.call → (r.stage ≡ Bad → ⊥) → r.file ≡ Some file
    → (b : calls.Begun) × (open_call c slot (printed past) ≡ Some b) × (b.call ≡ r.call) × (calls.file_of b ≡ Some file.fid)
file_meant head c slot past r file g is on good of_file =
    let m = open_is head c slot past r g is in (
      m.0,
      m.1,
      m.3,
      by (call_at c slot past) (open_call c slot (printed past)) refl is m.1
          (both_calls IsBoundBy (λ asking a b s. s) bound_stands head c slot
          (λ past stamp s r g k. bound_begins head c past stamp r g k.closes k.ok.later k.ok.begins) past g),
    )
  where
    by : (a : Option Running) (b : Option calls.Begun) → open_call c slot (printed past) ≡ b → a ≡ Some r → b
        ≡ Some (open_is head c slot past r g is).0 → OfBoth IsBoundBy (λ asking a b s. s) bound_stands a b
        → calls.file_of (open_is head c slot past r g is).0 ≡ Some file.fid
    by None b q e f s = absurd (cc)
    by (Some a) None q e f s = absurd s
    by (Some a) (Some b) q e f s =
        let same : a ≡ r = cc in
        let here : b ≡ (open_is head c slot past r g is).0 = cc in
        ap (λ (v : calls.Begun). calls.file_of v) (sym here)
        ∙ ap (option_map (λ (v : calls.Binding). v.fid)) (s (subst (λ (v : Running). IsOnBytes v.call) (sym same) on)
        (λ bad. good (ap (λ (v : Running). v.stage) (sym same) ∙ bad)))
        ∙ ap (λ (v : Running). option_map (λ (x : calls.Binding). x.fid) (as_bound v.file)) same
        ∙ ap (λ (v : Option HandleFile). option_map (λ (x : calls.Binding). x.fid) (as_bound v)) of_file
