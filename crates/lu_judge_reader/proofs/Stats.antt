-- What a lock is on, and the attributes of a file: each is read from its words.
use Rattle.std.proofs.Common.{◌≡◌, ℕ, ◌==◌, Bool, true, false, ◌||◌, List, [], ◌∷◌, ◌++◌, map, Option, Some, refl, ap, ◌∙◌, decimal}
use Rattle.std.proofs.Common.{append_assoc}
use Rattle.std.specs.List.{list_any, join_with_byte}
use Rattle.std.proofs.lemmas.Bool.{cond-true, cond-false}
use Rattle.std.proofs.lemmas.List.Folds.{list_any_none}
use Rattle.lu_base.specs.Texts.{pair_text}
use Rattle.lu_base.specs.Values.{mode_text}
use Rattle.lu_base.specs.declared.ids.Fid.{Fid}
use Rattle.lu_base.specs.declared.locks.Extent.{Extent}
use Rattle.lu_base.specs.declared.locks.Mode.{Mode}
use Rattle.lu_base.specs.declared.locks.Policy.{Policy}
use Rattle.lu_base.specs.declared.locks.Policy.TheVariants.{Bits, Range}
use Rattle.lu_base.specs.declared.locks.Resource.{Resource}
use Rattle.lu_layout.specs.Raid0.{Raid0}
use Rattle.lu_msg.specs.declared.answers.Answer.TheVariants as answer
use Rattle.lu_scene.specs.Fields.{number_of}
use Rattle.lu_scene.proofs.Numerals.{number_of-decimal}
use Rattle.lu_trace.specs.Lists.{layout_text}
use Rattle.lu_trace.specs.Values.{extent_text, object_text, policy_text, resource_text}
use Rattle.lu_trace.specs.WellFormed.{Fits, AreTerms, IsStriped}
use Rattle.lu_judge_reader.specs.Reading.{◌>>?◌, ◌>>=◌, one, with_left}
use Rattle.lu_judge_reader.specs.Values.{small_of, object_of, inode_of, extent_of, mode_of}
use Rattle.lu_judge_reader.specs.Lists.{layout_of}
use Rattle.lu_judge_reader.specs.Parts.{word_of, stat_of, policy_of, terms}
use Rattle.lu_judge_reader.proofs.Bytewise.{is_digit, is_figure, of_free, decimal_of, pair_figures}
use Rattle.lu_judge_reader.proofs.Steps.{one_then}
use Rattle.lu_judge_reader.proofs.ValuesAgain.{octet_again, object_again, inode_again, extent_again, mode_again}
use Rattle.lu_judge_reader.proofs.ListsAgain.{layout_again}
use Rattle.lu_judge_reader.proofs.Shown.{AreShown, more_words, octet_shown, pair_shown, object_shown, extent_shown, mode_shown}

or_right : (p q : Bool) → q ≡ true → (p || q) ≡ true
or_right true q is = refl
or_right false q is = is

-- a byte that stands between two texts is there
there : (c : ℕ) → (c == c) ≡ true → (a b : List ℕ) → list_any (λ d. d == c) (a ++ c ∷ b) ≡ true
there c is [] b = ap (λ (t : Bool). t || list_any (λ d. d == c) b) is
there c is (x ∷ a) b = or_right (x == c) (list_any (λ d. d == c) (a ++ c ∷ b)) (there c is a b)

there_pair : (c : ℕ) → (c == c) ≡ true → (a b : List ℕ) → list_any (λ d. d == c) ((a ++ c ∷ []) ++ b) ≡ true
there_pair c is a b = ap (list_any (λ d. d == c)) (append_assoc a (c ∷ []) b) ∙ there c is a b

pub stat_layout : (fid : Fid) (mode links : ℕ) (layout : Raid0) → IsStriped layout → stat_of fid.0 mode links (layout_text layout)
    ≡ Some (answer.FileStat fid mode links layout)
stat_layout fid mode links layout is =
    cond-true (list_any (λ b. b == 58) (layout_text layout)) (layout_of (layout_text layout) >>? λ l. Some
    (answer.FileStat fid mode links l)) (number_of (layout_text layout) >>? λ n. Some (answer.FileSize fid mode links n))
    (there_pair 58 refl (decimal layout.size) (join_with_byte 44 (map decimal layout.targets)))
    ∙ ap (λ (o : Option Raid0). o >>? λ l. Some (answer.FileStat fid mode links l)) (layout_again layout is)

pub stat_size : (fid : Fid) (mode links size : ℕ) → Fits 64 size → stat_of fid.0 mode links (decimal size)
    ≡ Some (answer.FileSize fid mode links size)
stat_size fid mode links size fits =
    cond-false (list_any (λ b. b == 58) (decimal size)) (layout_of (decimal size) >>? λ l. Some (answer.FileStat fid mode links l))
    (number_of (decimal size) >>? λ n. Some (answer.FileSize fid mode links n))
    (list_any_none (λ b. b == 58) (decimal size) (of_free is_digit 58 refl (decimal size) (decimal_of size fits)))
    ∙ ap (λ (o : Option ℕ). o >>? λ n. Some (answer.FileSize fid mode links n)) (number_of-decimal size fits)

policy_again : (resource : Resource) (mode : Mode) (policy : Policy) → AreTerms resource policy
    → policy_of (resource_text resource policy) mode (policy_text policy) ≡ Some (resource, mode, policy)
policy_again resource mode (Bits bits) is =
    let on = pair_text resource.fid.0 in
    cond-false (list_any (λ b. b == 47) on) (object_of on >>? λ r. extent_of (decimal bits) >>? λ extent. Some (r, mode, Range extent))
    (inode_of on >>? λ r. small_of 8 (decimal bits) >>? λ b. Some (r, mode, Bits b))
    (list_any_none (λ b. b == 47) on (of_free is_figure 47 refl on (pair_figures resource.fid.0 is.0.0)))
    ∙ ap (λ (o : Option Resource). o >>? λ r. small_of 8 (decimal bits) >>? λ b. Some (r, mode, Bits b)) (inode_again resource is.0 is.1)
    ∙ ap (λ (o : Option ℕ). o >>? λ b. Some (resource, mode, Bits b)) (octet_again bits is.2)
policy_again resource mode (Range extent) is =
    let on = object_text resource in
    cond-true (list_any (λ b. b == 47) on) (object_of on >>? λ r. extent_of (extent_text extent) >>? λ e. Some (r, mode, Range e))
    (inode_of on >>? λ r. small_of 8 (extent_text extent) >>? λ b. Some (r, mode, Bits b))
    (there_pair 47 refl (pair_text resource.fid.0) (decimal resource.stripe))
    ∙ ap (λ (o : Option Resource). o >>? λ r. extent_of (extent_text extent) >>? λ e. Some (r, mode, Range e)) (object_again resource is.0)
    ∙ ap (λ (o : Option Extent). o >>? λ e. Some (resource, mode, Range e)) (extent_again extent is.1)

-- what a lock is on, its mode and its bits or range, and words behind it
pub terms_again : (resource : Resource) (mode : Mode) (policy : Policy) (rest : List (List ℕ)) → AreTerms resource policy
    → terms (resource_text resource policy ∷ mode_text mode ∷ policy_text policy ∷ rest) ≡ Some ((resource, mode, policy), rest)
unfolding terms
terms_again resource mode policy rest is =
    one_then word_of (λ on. one mode_of >>= λ m. one (policy_of on m)) (resource_text resource policy)
    (mode_text mode ∷ policy_text policy ∷ rest) (resource_text resource policy) refl
    ∙ one_then mode_of (λ m. one (policy_of (resource_text resource policy) m)) (mode_text mode) (policy_text policy ∷ rest) mode
    (mode_again mode)
    ∙ ap (λ (o : Option (Resource × Mode × Policy)). with_left o rest) (policy_again resource mode policy is)

pub terms_shown : (resource : Resource) (mode : Mode) (policy : Policy) (rest : List (List ℕ)) → AreTerms resource policy → AreShown rest
    → AreShown (resource_text resource policy ∷ mode_text mode ∷ policy_text policy ∷ rest)
terms_shown resource mode (Bits bits) rest is are =
    more_words (pair_text resource.fid.0) (mode_text mode ∷ decimal bits ∷ rest) (pair_shown resource.fid.0 is.0.0)
    (more_words (mode_text mode) (decimal bits ∷ rest) (mode_shown mode) (more_words (decimal bits) rest (octet_shown bits is.2) are))
terms_shown resource mode (Range extent) rest is are =
    more_words (object_text resource) (mode_text mode ∷ extent_text extent ∷ rest) (object_shown resource is.0)
    (more_words (mode_text mode) (extent_text extent ∷ rest) (mode_shown mode)
    (more_words (extent_text extent) rest (extent_shown extent is.1) are))
