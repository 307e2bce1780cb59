-- The summary of a run: what its trace has of each.
use Rattle.std.specs.Prelude.{ℕ, ◌+◌, Bool, true, false, not, ◌&&◌, nat_eq, if◌then◌else◌, List, [], ◌∷◌, ◌++◌, Option, Some, None, codes}
use Rattle.std.specs.Prelude.{decimal, length, filter}
use Rattle.lu_base.specs.declared.ids.At.{At}
use Rattle.lu_base.specs.declared.ids.Node.{Node}
use Rattle.lu_base.specs.declared.ids.Node.TheVariants.{Client, Target}
use Rattle.lu_msg.specs.declared.answers.Answer.{Answer}
use Rattle.lu_msg.specs.declared.answers.Answer.TheVariants.{Refused}
use Rattle.lu_msg.specs.declared.answers.Errno.TheVariants.{EIO}
use Rattle.lu_trace.specs.declared.entries.Entry.{Entry}
use Rattle.lu_trace.specs.declared.entries.Entry.TheVariants as entry
use Rattle.lu_trace.specs.declared.entries.Line.{Line}
use Rattle.lu_run_summary.specs.declared.summaries.Counted.{Counted}
use Rattle.lu_run_summary.specs.declared.summaries.Counted.TheVariants as counted

-- ---- what is counted

abbrev pub is_eio : Answer → Bool
is_eio (Refused EIO) = true
is_eio _ = false

abbrev pub is_failed : Entry → Bool
is_failed (entry.Told slot at answer) = is_eio answer
is_failed _ = false

abbrev pub is_sent : Entry → Bool
is_sent (entry.Send number to message) = true
is_sent _ = false

abbrev pub is_told : Entry → Bool
is_told (entry.Told slot at answer) = true
is_told _ = false

abbrev pub is_made : Entry → Bool
is_made (entry.Txn txn who xid seen answer) = true
is_made _ = false

abbrev pub is_kept : Entry → Bool
is_kept (entry.Kept txn) = true
is_kept _ = false

abbrev pub is_evicted : Entry → Bool
is_evicted (entry.Evict who cause) = true
is_evicted _ = false

abbrev pub is_counted : Counted → Entry → Bool
is_counted counted.Sent e = is_sent e
is_counted counted.Told e = is_told e
is_counted counted.Failed e = is_failed e
is_counted counted.Made e = is_made e
is_counted counted.Kept e = is_kept e
is_counted counted.Evicted e = is_evicted e

abbrev pub count_of : Counted → List Line → ℕ
count_of k lines = length (filter (λ line. is_counted k line.entry) lines)

-- ---- turns: the lines of a turn stand together

abbrev pub same_node : Node → Node → Bool
same_node (Client c) (Client d) = nat_eq c d
same_node (Target t) (Target u) = nat_eq t u
same_node _ _ = false

abbrev pub same_turn : At → At → Bool
same_turn a b = nat_eq a.stamp.0 b.stamp.0 && same_node a.node b.node

abbrev pub begins : Option At → At → Bool
begins None at = true
begins (Some before) at = not (same_turn before at)

abbrev pub turns_after : Option At → List Line → ℕ
turns_after last [] = 0
turns_after last (line ∷ lines) = (if begins last line.at then 1 else 0) + turns_after (Some line.at) lines

abbrev pub turns_in : List Line → ℕ
turns_in lines = turns_after None lines

-- ---- the text

abbrev pub count_line : List ℕ → ℕ → List ℕ
count_line word count = word ++ decimal count ++ 10 ∷ []

abbrev pub summary_text : ℕ → List Line → List ℕ
summary_text seed lines =
    count_line (codes "seed ") seed
    ++ count_line (codes "turns ") (turns_in lines)
    ++ count_line (codes "messages ") (count_of counted.Sent lines)
    ++ count_line (codes "told ") (count_of counted.Told lines)
    ++ count_line (codes "eio ") (count_of counted.Failed lines)
    ++ count_line (codes "transactions ") (count_of counted.Made lines)
    ++ count_line (codes "kept ") (count_of counted.Kept lines)
    ++ count_line (codes "evictions ") (count_of counted.Evicted lines)
