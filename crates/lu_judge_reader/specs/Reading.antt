-- Readers of words: what is read of a list of words, and the words that are left.
use Rattle.std.specs.Prelude.{◌≡◌, ℕ, List, [], ◌∷◌, Option, Some, None, Result, Ok, Err}
use Rattle.lu_judge_reader.specs.declared.faults.LineFault.{LineFault}
use Rattle.lu_judge_reader.specs.declared.faults.LineFault.TheVariants as faults

-- what was read, and the words that are left; or nothing
abbrev pub Read : Type 0 → Type 0
Read A = Option (A × List (List ℕ))

abbrev pub Reader : Type 0 → Type 0
Reader A = List (List ℕ) → Read A

-- what comes next, unless nothing was read
abbrev pub further : {A B : Type 0} → Read A → (A → Reader B) → Read B
further None next = None
further (Some read) next = next read.0 read.1

infixl 10 ◌>>=◌
abbrev pub ◌>>=◌ : {A B : Type 0} → Reader A → (A → Reader B) → Reader B
reader >>= next = λ words. further (reader words) next

-- no word is read
abbrev pub give : {A : Type 0} → A → Reader A
give value = λ words. Some (value, words)

-- the value of a word, with the words behind it
abbrev pub with_left : {A : Type 0} → Option A → List (List ℕ) → Read A
with_left None words = None
with_left (Some value) words = Some (value, words)

-- one word
abbrev pub one : {A : Type 0} → (List ℕ → Option A) → Reader A
one value_of [] = None
one value_of (word ∷ words) = with_left (value_of word) words

-- this value where no word is left
abbrev pub if_more : {A : Type 0} → A → Reader A → Reader A
if_more value reader [] = Some (value, [])
if_more value reader (word ∷ words) = reader (word ∷ words)

-- what a function answers that reads words, where these are left: the same, unless memory ran out
abbrev pub Reads : {A : Type 0} → Result A LineFault → List (List ℕ) → Read A → Type 0
Reads (Ok value) left read = read ≡ Some (value, left)
Reads (Err faults.Unread) left read = read ≡ None
Reads (Err faults.Memory) left read = Unit {0}

-- what a function answers that reads one word
abbrev pub Gives : {A : Type 0} → Result A LineFault → Option A → Type 0
Gives (Ok value) read = read ≡ Some value
Gives (Err faults.Unread) read = read ≡ None
Gives (Err faults.Memory) read = Unit {0}

-- the same of options, one after another
infixl 10 ◌>>?◌
abbrev pub ◌>>?◌ : {A B : Type 0} → Option A → (A → Option B) → Option B
None >>? next = None
(Some value) >>? next = next value
