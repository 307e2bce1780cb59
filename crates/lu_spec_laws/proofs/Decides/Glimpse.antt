-- The law of glimpses is decided, for all lives that are out.
use Rattle.std.proofs.Common.{ℕ, suc, Bool, Option, Some, None, List, [], ◌∷◌}
use Rattle.lu_base.specs.declared.ids.At.{At}
use Rattle.lu_base.specs.declared.ids.Fid.{Fid}
use Rattle.lu_base.specs.declared.ids.Node.{Node}
use Rattle.lu_base.specs.declared.ids.Node.TheVariants.{Client, Target}
use Rattle.lu_base.specs.declared.ids.Who.{Who}
use Rattle.lu_msg.specs.declared.answers.Answer.{Answer}
use Rattle.lu_msg.specs.declared.answers.Answer.TheVariants as told
use Rattle.lu_trace.specs.declared.entries.Entry.{Entry}
use Rattle.lu_trace.specs.declared.entries.Entry.TheVariants.{Told}
use Rattle.lu_trace.specs.declared.entries.Line.{Line}
use Rattle.lu_spec_machine.specs.Machine.{Machine}
use Rattle.lu_spec_laws.specs.Words.Pasts.{Past}
use Rattle.lu_spec_laws.specs.Words.Lives.{is_gone}
use Rattle.lu_spec_laws.specs.Words.Calls.{Begun, open_call, file_of}
use Rattle.lu_spec_laws.specs.Laws.Glimpse.{AreSizes, machines, SizesOn, SizesAt, GlimpseAt, GlimpseOf, Glimpse}
use Rattle.lu_spec_laws.proofs.Decides.{Decided, nothing, both, is_true, unless}

abbrev decide_sizes : (after : List Machine) (past : Past) (c slot : ℕ) (file : Option Fid) (stripe : ℕ) (sizes : List ℕ)
    → Decided (AreSizes after past c slot file stripe sizes)
decide_sizes after past c slot file stripe [] = nothing
decide_sizes after past c slot file stripe (n ∷ ns) = both (is_true _) (decide_sizes after past c slot file (suc stripe) ns)

module _ (out : Who → Bool) (osts : ℕ) where
  abbrev decide_on : (past : Past) (l : Line) (later : List Line) (c slot : ℕ) (sizes : List ℕ) (begun : Option Begun)
      → Decided (SizesOn out osts past l later c slot sizes begun)
  decide_on past l later c slot sizes None = nothing
  decide_on past l later c slot sizes (Some begun) = decide_sizes (machines out osts past l later c slot) past c slot (file_of begun) 0
      sizes

  abbrev decide_at : (past : Past) (l : Line) (later : List Line) (node : Node) (slot : ℕ) (sizes : List ℕ)
      → Decided (SizesAt out osts past l later node slot sizes)
  decide_at past l later (Client c) slot sizes = unless _ (decide_on past l later c slot sizes (open_call c slot past))
  decide_at past l later (Target t) slot sizes = nothing

  abbrev decide_told : (past : Past) (l : Line) (later : List Line) (slot : ℕ) (turn : At) (answer : Answer)
      → Decided (GlimpseAt out osts past l later (Told slot turn answer))
  decide_told past l later slot turn (told.Sizes sizes) = decide_at past l later l.at.node slot sizes
  decide_told past l later slot turn _ = nothing

  abbrev decide_glimpse_at : (past : Past) (l : Line) (later : List Line) (said : Entry) → Decided (GlimpseAt out osts past l later said)
  decide_glimpse_at past l later (Told slot turn answer) = decide_told past l later slot turn answer
  decide_glimpse_at past l later _ = nothing

  abbrev pub decide_glimpse_of : (past : Past) (l : Line) (later : List Line) → Decided (GlimpseOf out osts past l later)
  decide_glimpse_of past l later = decide_glimpse_at past l later l.entry

abbrev pub decide_glimpse : (osts : ℕ) (whole past : Past) (l : Line) (later : List Line) → Decided (Glimpse osts whole past l later)
decide_glimpse osts whole past l later = decide_glimpse_of (is_gone whole) osts past l later
