-- An operation as what it looks at, one part after another, and what it then does.
use Rattle.std.specs.Prelude.{ℕ, List, [], ◌∷◌, Option}
use Rattle.lu_base.specs.declared.ids.Fid.{Fid}
use Rattle.lu_layout.specs.Raid0.{Raid0}
use Rattle.lu_msg.specs.declared.answers.Answer.{Answer}
use Rattle.lu_msg.specs.declared.answers.Answer.TheVariants.{Refused}
use Rattle.lu_msg.specs.declared.answers.Errno.{Errno}
use Rattle.lu_part.specs.declared.parts.Part.{Part}
use Rattle.lu_part.specs.declared.parts.Part.TheVariants as part
use Rattle.lu_part.specs.declared.parts.Want.{Want}
use Rattle.lu_spec_machine.specs.declared.child.Child.{Child}
use Rattle.lu_spec_machine.specs.Tree.{Tree, Attributes, fid_of, child, listing, attributes, layout}
use Rattle.lu_spec_machine.specs.Change.{Change}

pub data Plan : Type 0 where
  Refuse : (errno : Errno) → Plan
  Do : (answer : Answer) (grants : List Want) (changes : List Change) → Plan
  LookName : (dir : Fid) (name : List ℕ) → (Option Child → Plan) → Plan
  LookList : (dir : Fid) → (List (List ℕ) → Plan) → Plan
  LookAttr : (of : Child) → (Attributes → Plan) → Plan
  LookLayout : (fid : Fid) → (Raid0 → Plan) → Plan

pub record Outcome : Type 0 where
  pub answer : Answer
  pub grants : List Want
  pub changes : List Change

-- what comes of a plan in a tree: a refusal changes and grants nothing
abbrev pub outcome : Tree → Plan → Outcome
outcome t (Refuse e) = record { answer = Refused e; grants = []; changes = [] }
outcome t (Do answer grants changes) = record { answer = answer; grants = grants; changes = changes }
outcome t (LookName d n next) = outcome t (next (child t d n))
outcome t (LookList d next) = outcome t (next (listing t d))
outcome t (LookAttr c next) = outcome t (next (attributes t c))
outcome t (LookLayout f next) = outcome t (next (layout t f))

-- the parts that it has looked at, in order
abbrev pub looked : Tree → Plan → List Part
looked t (Refuse e) = []
looked t (Do answer grants changes) = []
looked t (LookName d n next) = part.Name d n ∷ looked t (next (child t d n))
looked t (LookList d next) = part.List d ∷ looked t (next (listing t d))
looked t (LookAttr c next) = part.Attr (fid_of c) ∷ looked t (next (attributes t c))
looked t (LookLayout f next) = part.Layout f ∷ looked t (next (layout t f))
