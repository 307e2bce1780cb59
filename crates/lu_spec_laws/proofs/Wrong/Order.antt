-- Which conditions of `Orderly` a trace breaks. Each trace of the files below breaks one of them and keeps all others.
pub mod AtTargets
pub mod AtClients
pub mod InRecovery
pub mod OfLocks
use Rattle.std.proofs.Common.{◌≡◌, ℕ, Bool, true, false, List, [], ◌∷◌, ap, sym, ◌∙◌}
use Rattle.lu_spec_laws.specs.Words.Pasts.{Past}
use Rattle.lu_spec_laws.specs.Orderly.{Orderly}
use Rattle.lu_spec_laws.proofs.Decides.{Decided, holds}
use Rattle.lu_spec_laws.proofs.Decides.Orderly.{decide_serving, decide_requests, decide_boots, decide_messages, decide_lives, decide_held}
use Rattle.lu_spec_laws.proofs.Decides.Orderly.{decide_heard, decide_repeated}
use Rattle.lu_spec_laws.proofs.Decides.Orderly.{decide_answers, decide_closes, decide_kept, decide_restored, decide_joined, decide_waits}
use Rattle.lu_spec_laws.proofs.Decides.Orderly.{decide_releases, decide_blocks}

pub data Field : Type 0 where
  Serving : Field
  Requests : Field
  Boots : Field
  Messages : Field
  Lives : Field
  Held : Field
  Heard : Field
  Repeated : Field
  Answers : Field
  Closes : Field
  Kept : Field
  Restored : Field
  Joined : Field
  Waits : Field
  Releases : Field
  Blocks : Field

abbrev pub unless_kept : Bool → Field → List Field → List Field
unless_kept true field fields = fields
unless_kept false field fields = field ∷ fields

abbrev pub broken : ℕ → Past → List Field
broken osts whole =
    unless_kept (holds decide_serving whole).answer Serving
    (unless_kept (holds decide_requests whole).answer Requests
    (unless_kept (holds decide_boots whole).answer Boots
    (unless_kept (holds decide_messages whole).answer Messages
    (unless_kept (holds decide_lives whole).answer Lives
    (unless_kept (holds decide_held whole).answer Held
    (unless_kept (holds decide_heard whole).answer Heard
    (unless_kept (holds decide_repeated whole).answer Repeated
    (unless_kept (holds (decide_answers osts) whole).answer Answers
    (unless_kept (holds decide_closes whole).answer Closes
    (unless_kept (holds decide_kept whole).answer Kept
    (unless_kept (holds decide_restored whole).answer Restored
    (unless_kept (holds decide_joined whole).answer Joined
    (unless_kept (holds decide_waits whole).answer Waits
    (unless_kept (holds decide_releases whole).answer Releases
    (unless_kept (holds (decide_blocks osts) whole).answer Blocks [])))))))))))))))

-- what is kept isn't among them
passed : {A : Type 0} → (d : Decided A) → A → (field : Field) (fields : List Field) → unless_kept d.answer field fields ≡ fields
passed d a field fields = ap (λ (b : Bool). unless_kept b field fields) (d.decides.1 a)

pub none_broken : (osts : ℕ) (whole : Past) → Orderly osts whole → broken osts whole ≡ []
none_broken osts whole o =
    passed (holds decide_serving whole) o.serving Serving _
    ∙ passed (holds decide_requests whole) o.requests Requests _
    ∙ passed (holds decide_boots whole) o.boots Boots _
    ∙ passed (holds decide_messages whole) o.messages Messages _
    ∙ passed (holds decide_lives whole) o.lives Lives _
    ∙ passed (holds decide_held whole) o.held Held _
    ∙ passed (holds decide_heard whole) o.heard Heard _
    ∙ passed (holds decide_repeated whole) o.repeated Repeated _
    ∙ passed (holds (decide_answers osts) whole) o.answers Answers _
    ∙ passed (holds decide_closes whole) o.closes Closes _
    ∙ passed (holds decide_kept whole) o.kept Kept _
    ∙ passed (holds decide_restored whole) o.restored Restored _
    ∙ passed (holds decide_joined whole) o.joined Joined _
    ∙ passed (holds decide_waits whole) o.waits Waits _
    ∙ passed (holds decide_releases whole) o.releases Releases _
    ∙ passed (holds (decide_blocks osts) whole) o.blocks Blocks _

-- a trace that breaks that condition, and no other, of two object storage targets
abbrev pub Breaks : Field → Past → Type 0
Breaks field whole = broken 2 whole ≡ field ∷ []

pub not_orderly : (field : Field) (whole : Past) → Breaks field whole → Orderly 2 whole → ⊥
not_orderly field whole b o = let e : [] ≡ field ∷ [] = sym (none_broken 2 whole o) ∙ b in absurd (cc)
