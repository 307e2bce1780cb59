-- Words are of one form at most.
use Rattle.std.proofs.Common.{◌≡◌, ℕ, List, [], ◌∷◌, Option, Some, None, IfSome, IfNone, refl, sym, ap, ap₂, ◌∙◌, decimal, codes}
use Rattle.std.proofs.lemmas.Fmt.{decimal_injective}
use Rattle.lu_top.specs.Forms.{IsForm, Says, SaysNothing, word_of, number_of, words_with}
use Rattle.lu_top.specs.declared.forms.Performance.{Performance}
use Rattle.lu_top.specs.declared.forms.Performance.TheVariants.{Play, Storm}
use Rattle.lu_top.specs.declared.forms.Form.{Form}
use Rattle.lu_top.specs.declared.forms.Form.TheVariants.{Perform, Judge}

abbrev words_of : Form → List (List ℕ)
words_of form = words_with (word_of form) (number_of form)

abbrev some_of : List ℕ → Option (List ℕ)
some_of a = Some a

same_number : (a b : List ℕ) → codes "storm" ∷ a ∷ [] ≡ codes "storm" ∷ b ∷ [] → a ≡ b
same_number a b is = cc

same_form : (a b : Form) → IsForm a → IsForm b → words_of a ≡ words_of b → a ≡ b
same_form Judge Judge x y is = refl
same_form Judge (Perform Play) x y is = absurd (cc is)
same_form Judge (Perform (Storm n)) x y is = absurd (cc is)
same_form (Perform Play) Judge x y is = absurd (cc is)
same_form (Perform Play) (Perform Play) x y is = refl
same_form (Perform Play) (Perform (Storm n)) x y is = absurd (cc is)
same_form (Perform (Storm m)) Judge x y is = absurd (cc is)
same_form (Perform (Storm m)) (Perform Play) x y is = absurd (cc is)
same_form (Perform (Storm m)) (Perform (Storm n)) x y is =
    ap (λ k. Perform (Storm k)) (decimal_injective m n x y (same_number (decimal m) (decimal n) is))

one_form : (words : List (List ℕ)) (a b : Form) → Says words a → Says words b → a ≡ b
one_form words a b x y = same_form a b x.0 y.0 (sym x.1 ∙ y.1)

same_performance : (p q : Performance) → Perform p ≡ Perform q → p ≡ q
same_performance p q is = cc

-- so they ask for one performance
pub one_performance : (words : List (List ℕ)) (p q : Performance) → Says words (Perform p) → Says words (Perform q) → p ≡ q
one_performance words p q x y = same_performance p q (one_form words (Perform p) (Perform q) x y)

same_some : (a b : List ℕ) → some_of a ≡ some_of b → a ≡ b
same_some a b is = cc

-- so what is found of a word and a number is the form that they say
pub found_is : (word : List ℕ) (number : Option (List ℕ)) (found : Option Form) (form : Form)
    → IfSome found (Says (words_with word number)) → IfNone found (SaysNothing (words_with word number))
    → IsForm form → some_of word ≡ some_of (word_of form) → number ≡ number_of form → found ≡ Some form
found_is word number (Some other) form some none is word_is number_is =
    ap (λ (f : Form). Some f) (one_form (words_with word number) other form some
    (is, ap₂ words_with (same_some word (word_of form) word_is) number_is))
found_is word number None form some none is word_is number_is =
    absurd (none form (is, ap₂ words_with (same_some word (word_of form) word_is) number_is))
