-- What an operation on names leaves of a service, part by part; and what stays when the opens of a life are forgotten.
use Rattle.std.specs.Prelude.{◌≡◌, false, not, [], Some}
use Rattle.std.specs.List.{filter}
use Rattle.std.specs.Map.{lookup}
use Rattle.lu_base.specs.declared.ids.Fid.{Fid}
use Rattle.lu_base.specs.declared.ids.Who.{Who}
use Rattle.lu_msg.specs.declared.answers.Answer.TheVariants.{Made}
use Rattle.lu_part.specs.declared.parts.Part.{Part}
use Rattle.lu_spec_machine.specs.Tree.{Tree, Inode, same_fid, same_life}
use Rattle.lu_spec_machine.specs.Footprint as footprint
use Rattle.lu_spec_machine.specs.Footprint.{Operation, Apart, forget, inode_of}
use Rattle.lu_spec_machine.specs.Trim.{is_alive}
use Rattle.lu_service.specs.Acts.{Agree}
use Rattle.lu_service.specs.Contents.{Contents, Same}
use Rattle.lu_service.specs.Names.{names, after, forgotten}

-- a file of that tree that has neither a name nor an open, and so leaves it
abbrev pub HasLeft : Tree → Fid → Type 0
HasLeft t f = (i : Inode) × (lookup (same_fid f) t.files ≡ Some i) × (is_alive t.opens (f, i) ≡ false)

-- the operation makes that inode, or the inode leaves with it
abbrev pub Makes : Contents → Operation → Fid → Type 0
Makes s a f = names.answer s a ≡ Made f

abbrev pub Loses : Contents → Operation → Fid → Type 0
Loses s a f = HasLeft (footprint.after s.osts s.tree a) f

-- what meets nothing that is written stays, but in an inode that the operation makes or removes
abbrev pub OthersStay : Type 0
OthersStay =
    (s : Contents) (a : Operation) (p : Part) → Apart (names.writes s a) p → (Makes s a (inode_of p) → ⊥)
    → (Loses s a (inode_of p) → ⊥) → Same s (after s a) p

-- each part after it depends on what it touches and on that part before it, the written ones too
abbrev pub NewFromOld : Type 0
NewFromOld =
    (s t : Contents) (a : Operation) (p : Part) → Agree names s t a → Same s t p
    → (Loses s a (inode_of p) → ⊥) → (Loses t a (inode_of p) → ⊥) → Same (after s a) (after t a) p

-- `forget` drops the opens of that life and no other, and with them only files that have neither a name nor an open
abbrev pub ForgetDropsOpens : Type 0
ForgetDropsOpens =
    (s : Contents) (who : Who)
    → record {
      own : filter (λ o. same_life o.life who) (forgotten s who).tree.opens ≡ [];
      others : (forgotten s who).tree.opens ≡ filter (λ o. not (same_life o.life who)) s.tree.opens;
      parts : (p : Part) → (HasLeft (forget s.tree who) (inode_of p) → ⊥) → Same s (forgotten s who) p;
    }
