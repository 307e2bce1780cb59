-- What the table of the names holds, and that it shows a past.
use Rattle.std.specs.Prelude.{◌≡◌, ℕ, max, Bool, nat_lt, if◌then◌else◌, Option, Some, None, List, ◌∷◌, map, reverse}
use Rattle.lu_base.specs.declared.ids.Txn.{Txn as TxnOf}
use Rattle.lu_base.specs.declared.ids.Who.{Who}
use Rattle.lu_msg.specs.declared.operations.Op.{Op}
use Rattle.lu_spec_machine.specs.Removal.{Acts}
use Rattle.lu_spec_laws.specs.Words.Pasts.{Past}
use Rattle.lu_spec_laws.specs.Words.Boots.{greatest}
use Rattle.lu_spec_laws.specs.Words.Lost.{is_lost}
use Rattle.lu_judge_names.specs.declared.contents.Contents.{Contents}
use Rattle.lu_judge_names.specs.Events.{Marked, items, marked, marked_of}
use Rattle.lu_judge_names.specs.Names.{NamesState, changed_by, names_of}

-- the greatest number of a transaction, what changed the names, the newest first, and the names
pub record Held : Type 0 where
  pub greatest : ℕ
  pub marks : List Marked
  pub names : NamesState

abbrev pub held : Contents → Held
held t = record { greatest = t.greatest; marks = map marked_of (reverse t.events.items); names = t.names }

-- ---- it shows a past

pub record ShowsHeld (osts : ℕ) (h : Held) (past : Past) : Type 0 where
  pub number : h.greatest ≡ greatest 0 past
  pub all : h.marks ≡ map (marked (is_lost past 0)) (items past)
  pub left : h.names ≡ names_of osts h.marks

-- the names of the metadata target after this past, over so many object storage targets
abbrev pub ShowsContents : ℕ → Contents → Past → Type 0
ShowsContents osts t past = ShowsHeld osts (held t) past

-- ---- changes

-- after one more item
abbrev pub grown : Held → Marked → Held
grown h m = record { greatest = h.greatest; marks = m ∷ h.marks; names = changed_by h.names m.item m.lost }

abbrev pub counted : Held → ℕ → Held
counted h n = record { greatest = max h.greatest n; marks = h.marks; names = h.names }

-- after a transaction, over which numbers are lost
abbrev pub executed : (ℕ → Bool) → Held → TxnOf → Who → Option Op → Held
executed lost h number who None = counted h number.0
executed lost h number who (Some o) =
    if nat_lt (max 1 h.greatest) number.0
    then grown (counted h number.0) (marked lost (Acts (record { number = number; who = who; op = o })))
    else counted h number.0

abbrev pub remarked : (ℕ → Bool) → Marked → Marked
remarked lost m = marked lost m.item

-- once other numbers are lost
abbrev pub settled : (ℕ → Bool) → Held → Held
settled lost h =
    record {
      greatest = h.greatest;
      marks = map (remarked lost) h.marks;
      names = names_of h.names.tree.osts (map (remarked lost) h.marks);
    }
