-- The forms of a command line.
use Rattle.std.specs.Prelude.{◌≡◌, ℕ, ◌<◌, ◌^◌, List, [], ◌∷◌, codes, decimal, Option, Some, None}
use Rattle.lu_top.specs.declared.forms.Performance.TheVariants.{Play, Storm}
use Rattle.lu_top.specs.declared.forms.Form.{Form}
use Rattle.lu_top.specs.declared.forms.Form.TheVariants.{Perform, Judge}

-- its word, and the number after it if it has one
abbrev pub word_of : Form → List ℕ
word_of (Perform Play) = codes "play"
word_of (Perform (Storm seed)) = codes "storm"
word_of Judge = codes "judge"

abbrev pub number_of : Form → Option (List ℕ)
number_of (Perform Play) = None
number_of (Perform (Storm seed)) = Some (decimal seed)
number_of Judge = None

-- a word, and a number after it if there is one
abbrev pub words_with : List ℕ → Option (List ℕ) → List (List ℕ)
words_with word None = word ∷ []
words_with word (Some number) = word ∷ number ∷ []

-- a form that there is: its number is a u64
abbrev pub IsForm : Form → Type 0
IsForm (Perform Play) = Unit {0}
IsForm (Perform (Storm seed)) = seed < 2 ^ 64
IsForm Judge = Unit {0}

-- the words are of this form
abbrev pub Says : List (List ℕ) → Form → Type 0
Says words form = IsForm form × (words ≡ words_with (word_of form) (number_of form))

-- they are of none
abbrev pub SaysNothing : List (List ℕ) → Type 0
SaysNothing words = (form : Form) → ¬ Says words form
