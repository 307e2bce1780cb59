-- Where the last call in a slot began, and how many sizes calls are told.
use Rattle.std.specs.Prelude.{◌≡◌, ℕ, ◌≤◌, ◌==◌, if◌then◌else◌, List, [], ◌∷◌, length, unwrap_or}
use Rattle.std.specs.HashMap.{get_by}
use Rattle.std.specs.Prelude.{◌&&◌}
use Rattle.lu_base.specs.declared.ids.Node.{Node}
use Rattle.lu_base.specs.declared.ids.Node.TheVariants.{Client, Target}
use Rattle.lu_msg.specs.declared.answers.Answer.{Answer}
use Rattle.lu_msg.specs.declared.answers.Answer.TheVariants as told
use Rattle.lu_trace.specs.declared.entries.Entry.{Entry}
use Rattle.lu_trace.specs.declared.entries.Entry.TheVariants.{Told}
use Rattle.lu_trace.specs.declared.entries.Line.{Line}
use Rattle.lu_spec_laws.specs.Words.Pasts.{Past}
use Rattle.lu_spec_laws.specs.Words.Glimpses.{begins}
use Rattle.lu_judge_glimpse.specs.declared.begins.Begins.{Begins}
use Rattle.lu_judge_glimpse.specs.declared.counts.Counts.{Counts}

-- the place, from 0, of the line at which the last call in the slot began; 0 where none did
abbrev pub begun_place : ℕ → ℕ → Past → ℕ
begun_place c slot [] = 0
begun_place c slot (l ∷ past) = if begins c slot l then length past else begun_place c slot past

abbrev pub begun_in : Begins → ℕ → ℕ → ℕ
begun_in t c slot = unwrap_or (get_by (λ k. c == k.0 && slot == k.1) t.by_slot) 0

abbrev pub ShowsBegins : Begins → Past → Type 0
ShowsBegins t past = (c slot : ℕ) → begun_in t c slot ≡ begun_place c slot past

-- ---- how many sizes a call is told

abbrev pub count_in : Counts → ℕ → ℕ
count_in t place = unwrap_or (get_by (λ k. place == k) t.by_place) 0

abbrev pub CountedBy : Counts → Past → Node → ℕ → List ℕ → Type 0
CountedBy t past (Client c) slot sizes = length sizes ≤ count_in t (begun_place c slot past)
CountedBy t past (Target target) slot sizes = Unit {0}

abbrev pub CountedAt : Counts → Past → Node → Entry → Type 0
CountedAt t past node (Told slot turn (told.Sizes sizes)) = CountedBy t past node slot sizes
CountedAt t past node _ = Unit {0}

-- sizes that the line tells aren't more than are counted for its call
abbrev pub Counted : Counts → Past → Line → Type 0
Counted t past l = CountedAt t past l.at.node l.entry
