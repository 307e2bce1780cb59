-- Each byte of a value's text is shown, and no space.
use Rattle.std.proofs.Common.{◌≡◌, ℕ, zero, suc, ◌/◌, ◌%◌, ◌^◌, ◌<◌, ◌==◌, Bool, true, false, cond, ◌&&◌, List, [], ◌∷◌, ◌++◌, length, map}
use Rattle.std.proofs.Common.{Option, Some, None, refl, sym, subst, decimal, arith}
use Rattle.std.specs.Prelude.{nat_le, nat_lt, slice_index, codes, All, ℤ, pos, negsuc}
use Rattle.std.specs.List.{list_all, join_with_byte}
use Rattle.std.specs.Fmt.{signed_decimal}
use Rattle.std.proofs.lemmas.Bool.{and_parts, agree_below_at}
use Rattle.std.proofs.lemmas.Bool.Decides.{nat_tests}
use Rattle.std.proofs.lemmas.List.Elements.{All-nil, All-cons, All-head, All-tail}
use Rattle.std.proofs.lemmas.List.Sums.{AllPass-from_list_all}
use Rattle.hex.specs.Hex.{IsBytes, lower_digits, encode_with, encode_lower}
use Rattle.lu_base.specs.Texts.{pair_text, path_text, bytes_text, is_repeated, repeated_text, is_name_byte, IsPath, IsName}
use Rattle.lu_base.specs.Values.{octal_text, mode_text, node_text, target_text}
use Rattle.lu_base.specs.declared.ids.At.{At}
use Rattle.lu_base.specs.declared.ids.Node.{Node}
use Rattle.lu_base.specs.declared.ids.Node.TheVariants.{Client, Target}
use Rattle.lu_base.specs.declared.ids.Who.{Who}
use Rattle.lu_base.specs.declared.ids.Xid.{Xid}
use Rattle.lu_base.specs.declared.locks.Cause.{Cause}
use Rattle.lu_base.specs.declared.locks.Cause.TheVariants as causes
use Rattle.lu_base.specs.declared.locks.Extent.{Extent}
use Rattle.lu_base.specs.declared.locks.Lock.{Lock}
use Rattle.lu_base.specs.declared.locks.Mode.{Mode}
use Rattle.lu_base.specs.declared.locks.Mode.TheVariants as modes
use Rattle.lu_base.specs.declared.locks.Resource.{Resource}
use Rattle.lu_layout.specs.Raid0.{Raid0}
use Rattle.lu_scene.proofs.Graphic.{is_graphic, path_word}
use Rattle.lu_trace.specs.Values.{who_text, at_text, last_text, extent_text, object_text}
use Rattle.lu_trace.specs.Lists.{list_text, seen_text, numbers_text, lock_text, locks_text, layout_text}
use Rattle.lu_trace.specs.Entries.{cause_text}
use Rattle.lu_trace.specs.Messages.{tagged_text, size_text}
use Rattle.lu_trace.specs.WellFormed.{Fits, IsWho, IsNode, IsAt, IsExtent, IsResource, IsCount, IsSize, IsReplyLock, IsStriped}
use Rattle.lu_judge_reader.proofs.Bytewise.{Of, is_digit, is_figure, of_nil, of_cons, of_parted, of_pair, of_wider, decimal_of}
use Rattle.lu_judge_reader.proofs.Bytewise.{decimal_figures, pair_figures}
use Rattle.lu_judge_reader.proofs.ValuesAgain.{minus_one}
use Rattle.lu_judge_reader.proofs.ListsAgain.{map_all, joined_of, is_listed, listed, lock_figures}
use Rattle.lu_judge_reader.proofs.BytesAgain.{octal_digits, are_bytes}

abbrev pub Shown : List ℕ → Type 0
Shown text = Of is_graphic text

abbrev pub AreShown : List (List ℕ) → Type 0
AreShown texts = All Shown texts

pub no_words : AreShown []
no_words = All-nil Shown

pub more_words : (w : List ℕ) (ws : List (List ℕ)) → Shown w → AreShown ws → AreShown (w ∷ ws)
more_words w ws one more = All-cons Shown w ws one more

pub code_shown : (text : List ℕ) → list_all is_graphic text ≡ true → Shown text
code_shown text is = AllPass-from_list_all is_graphic text is

digit_graphic : (b : ℕ) → is_digit b ≡ true → is_graphic b ≡ true
digit_graphic b is = grind (arith, nat_tests)

figure_graphic : (b : ℕ) → is_figure b ≡ true → is_graphic b ≡ true
figure_graphic b is = grind (arith, nat_tests)

listed_graphic : (b : ℕ) → is_listed b ≡ true → is_graphic b ≡ true
listed_graphic b is = grind (arith, nat_tests)

name_graphic : (b : ℕ) → is_name_byte b ≡ true → is_graphic b ≡ true
name_graphic b is = grind (arith, nat_tests)

-- numbers

pub decimal_shown : (n : ℕ) → n < 2 ^ 64 → Shown (decimal n)
decimal_shown n small = of_wider is_digit is_graphic digit_graphic (decimal n) (decimal_of n small)

pub octet_shown : (n : ℕ) → n < 2 ^ 8 → Shown (decimal n)
octet_shown n small = decimal_shown n (omega (arith, small))

pub place_shown : (n : ℕ) → n < 2 ^ 16 → Shown (decimal n)
place_shown n small = decimal_shown n (omega (arith, small))

pub short_shown : (n : ℕ) → n < 2 ^ 32 → Shown (decimal n)
short_shown n small = decimal_shown n (omega (arith, small))

pub pair_shown : (n : ℕ) → n < 2 ^ 64 → Shown (pair_text n)
pair_shown n small = of_wider is_figure is_graphic figure_graphic (pair_text n) (pair_figures n small)

-- values

pub who_shown : (who : Who) → IsWho who → Shown (who_text who)
who_shown who is =
    of_pair is_graphic (codes "c" ++ decimal who.client) 46 (decimal who.life) refl
    (of_cons is_graphic 99 (decimal who.client) refl (place_shown who.client is.0)) (short_shown who.life is.1)

pub node_shown : (node : Node) → IsNode node → Shown (node_text node)
node_shown (Client n) is = of_cons is_graphic 99 (decimal n) refl (place_shown n is)
node_shown (Target n) is = of_cons is_graphic 116 (decimal n) refl (place_shown n is)

pub target_shown : (n : ℕ) → n < 2 ^ 16 → Shown (target_text n)
target_shown n small = of_cons is_graphic 116 (decimal n) refl (place_shown n small)

pub at_shown : (at : At) → IsAt at → Shown (at_text at)
at_shown at is = of_pair is_graphic (decimal at.stamp.0) 58 (node_text at.node) refl (decimal_shown at.stamp.0 is.0)
    (node_shown at.node is.1)

pub tagged_shown : (xid : Xid) (tag : ℕ) → xid.0 < 2 ^ 64 → tag < 2 ^ 8 → Shown (tagged_text xid tag)
tagged_shown xid tag fits small = by (tag == 0)
  where
    by : (b : Bool) → Shown (cond b (decimal xid.0) (decimal xid.0 ++ codes "/" ++ decimal tag))
    by true = decimal_shown xid.0 fits
    by false = of_pair is_graphic (decimal xid.0) 47 (decimal tag) refl (decimal_shown xid.0 fits) (octet_shown tag small)

pub size_shown : (size : Option ℕ) → IsSize size → Shown (size_text size)
size_shown None fits = code_shown (codes "-") refl
size_shown (Some n) fits = decimal_shown n fits

pub object_shown : (resource : Resource) → IsResource resource → Shown (object_text resource)
object_shown resource is = of_pair is_graphic (pair_text resource.fid.0) 47 (decimal resource.stripe) refl (pair_shown resource.fid.0 is.0)
    (place_shown resource.stripe is.1)

last_shown : (n : ℕ) → n < 2 ^ 64 → Shown (last_text n)
last_shown n fits = by (n == 18446744073709551615)
  where
    by : (b : Bool) → Shown (cond b (codes "end") (decimal n))
    by true = code_shown (codes "end") refl
    by false = decimal_shown n fits

pub extent_shown : (extent : Extent) → IsExtent extent → Shown (extent_text extent)
extent_shown extent is = of_pair is_graphic (decimal extent.first) 45 (last_text extent.last) refl (decimal_shown extent.first is.0)
    (last_shown extent.last is.1)

pub mode_shown : (mode : Mode) → Shown (mode_text mode)
mode_shown modes.EX = code_shown (codes "EX") refl
mode_shown modes.PW = code_shown (codes "PW") refl
mode_shown modes.PR = code_shown (codes "PR") refl
mode_shown modes.CW = code_shown (codes "CW") refl
mode_shown modes.CR = code_shown (codes "CR") refl
mode_shown modes.NL = code_shown (codes "NL") refl

pub cause_shown : (cause : Cause) → Shown (cause_text cause)
cause_shown causes.Absent = code_shown (codes "absent") refl
cause_shown causes.Gap = code_shown (codes "gap") refl
cause_shown causes.Expired = code_shown (codes "expired") refl
cause_shown causes.Replaced = code_shown (codes "replaced") refl

octal_graphic : (b : ℕ) → (nat_le 48 b && nat_le b 55) ≡ true → is_graphic b ≡ true
octal_graphic b is = grind (arith, nat_tests)

pub octal_shown : (n : ℕ) → n < 2 ^ 16 → Shown (octal_text n)
octal_shown n small =
    of_wider (λ b. nat_le 48 b && nat_le b 55) is_graphic octal_graphic (octal_text n)
    (AllPass-from_list_all (λ b. nat_le 48 b && nat_le b 55) (octal_text n) (octal_digits n small).1)

pub rights_shown : (n : ℕ) → n < 2 ^ 12 → Shown (octal_text n)
rights_shown n small = octal_shown n (omega (arith, small))

pub count_shown : (count : ℤ) → IsCount count → Shown (signed_decimal count)
count_shown (pos n) fits = decimal_shown n (omega (arith, fits))
count_shown (negsuc n) fits = subst (λ (m : ℕ). Shown (signed_decimal (negsuc m))) (sym fits)
    (subst Shown (sym minus_one) (code_shown (codes "-1") refl))

pub path_shown : (path : List (List ℕ)) → IsPath path → Shown (path_text path)
path_shown path is = code_shown (path_text path) (and_parts (nat_lt 0 (length (path_text path))) (list_all is_graphic (path_text path))
    (path_word path is)).1

-- bytes

hex_shown : (k : ℕ) → k < 16 → is_graphic (slice_index lower_digits k) ≡ true
hex_shown k small = agree_below_at (λ (d : ℕ). is_graphic (slice_index lower_digits d)) (λ (d : ℕ). true) 16 k refl small

encoded_shown : (bytes : List ℕ) → IsBytes bytes → Shown (encode_lower bytes)
unfolding encode_with
encoded_shown [] fit = of_nil is_graphic
encoded_shown (b ∷ more) fit =
    let small : b < 256 = fit 0 in
    of_cons is_graphic (slice_index lower_digits (b / 16)) (slice_index lower_digits (b % 16) ∷ encode_lower more)
    (hex_shown (b / 16) (omega (arith, small)))
    (of_cons is_graphic (slice_index lower_digits (b % 16)) (encode_lower more) (hex_shown (b % 16) (omega arith))
    (encoded_shown more (λ i. fit (suc i))))

one_byte : (b : ℕ) → b < 256 → IsBytes (b ∷ [])
one_byte b small zero = small
one_byte b small (suc i) = none i
  where
    none : (i : ℕ) → slice_index [] i < 256
    none i = omega arith

pub bytes_shown : (bytes : List ℕ) → All (Fits 8) bytes → length bytes < 2 ^ 63 → Shown (bytes_text bytes)
bytes_shown [] are few = code_shown (codes "-") refl
bytes_shown (b ∷ more) are few = by (is_repeated (b ∷ more))
  where
    by : (v : Bool) → Shown (cond v (repeated_text b (length (b ∷ more))) (encode_lower (b ∷ more)))
    by true =
        of_parted is_graphic (encode_lower (b ∷ [])) 42 (decimal (length (b ∷ more))) refl
        (encoded_shown (b ∷ []) (one_byte b (All-head (Fits 8) b more are))) (decimal_shown (length (b ∷ more)) (omega (arith, few)))
    by false = encoded_shown (b ∷ more) (are_bytes (b ∷ more) are)

-- lists

list_shown : {A : Type 0} (text : A → List ℕ) (P : A → Type 0) → ((x : A) → P x → Of is_figure (text x)) → (xs : List A) → All P xs
    → Shown (list_text text xs)
list_shown text P figures [] are = code_shown (codes "-") refl
list_shown text P figures (x ∷ xs) are =
    of_wider is_listed is_graphic listed_graphic (join_with_byte 44 (map text (x ∷ xs)))
    (joined_of is_listed 44 refl (text x) (map text xs) (listed (text x) (figures x (All-head P x xs are)))
    (map_all text P (Of is_listed) (λ y is. listed (text y) (figures y is)) xs (All-tail P x xs are)))

pub seen_shown : (seen : List ℕ) → All (Fits 64) seen → Shown (seen_text seen)
seen_shown seen are = list_shown pair_text (Fits 64) pair_figures seen are

pub sizes_shown : (sizes : List ℕ) → All (Fits 64) sizes → Shown (numbers_text sizes)
sizes_shown sizes are = list_shown decimal (Fits 64) decimal_figures sizes are

pub locks_shown : (who : Who) (locks : List Lock) → All (IsReplyLock who) locks → Shown (locks_text locks)
locks_shown who locks are = list_shown lock_text (IsReplyLock who) (lock_figures who) locks are

targets_shown : (targets : List ℕ) → All (Fits 16) targets → Shown (join_with_byte 44 (map decimal targets))
targets_shown [] are = of_nil is_graphic
targets_shown (t ∷ ts) are =
    joined_of is_graphic 44 refl (decimal t) (map decimal ts) (place_shown t (All-head (Fits 16) t ts are))
    (map_all decimal (Fits 16) Shown place_shown ts (All-tail (Fits 16) t ts are))

pub layout_shown : (layout : Raid0) → IsStriped layout → Shown (layout_text layout)
layout_shown layout is =
    let most = is.0.size.2 in
    of_pair is_graphic (decimal layout.size) 58 (join_with_byte 44 (map decimal layout.targets)) refl
    (decimal_shown layout.size (omega (arith, most))) (targets_shown layout.targets is.1)

pub names_shown : (names : List (List ℕ)) → All IsName names → AreShown names
names_shown [] are = no_words
names_shown (x ∷ xs) are =
    more_words x xs (of_wider is_name_byte is_graphic name_graphic x (All-head IsName x xs are).bytes)
    (names_shown xs (All-tail IsName x xs are))
