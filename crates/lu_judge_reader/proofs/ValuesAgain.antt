-- Each value's text is read as the value.
use Rattle.std.proofs.Common.{◌≡◌, ℕ, ◌+◌, ◌-◌, ◌*◌, ◌/◌, ◌%◌, ◌^◌, ◌<◌, ◌≤◌, ◌==◌, Bool, true, false, cond, ◌&&◌, ◌||◌, List, [], ◌∷◌}
use Rattle.std.proofs.Common.{◌++◌, Option, Some, None, refl, sym, ap, subst, ◌∙◌, decimal, arith}
use Rattle.std.specs.Prelude.{nat_le, nat_lt, codes, ℤ, pos, negsuc}
use Rattle.std.specs.List.{slice_split}
use Rattle.std.specs.Str.{bytes_eq}
use Rattle.std.specs.Fmt.{digits, signed_decimal}
use Rattle.std.proofs.lemmas.Bool.{true≢false, lt-ltb, le-leb, eqb-true, false_from_ne_true, cond-true, cond-false}
use Rattle.std.proofs.lemmas.Bool.Decides.{nat_tests}
use Rattle.std.proofs.lemmas.List.Elements.{All-head}
use Rattle.lu_base.specs.Texts.{pair_text}
use Rattle.lu_base.specs.Values.{node_text, target_text, mode_text}
use Rattle.lu_base.specs.declared.ids.At.{At}
use Rattle.lu_base.specs.declared.ids.Node.{Node}
use Rattle.lu_base.specs.declared.ids.Node.TheVariants.{Client, Target}
use Rattle.lu_base.specs.declared.ids.Who.{Who}
use Rattle.lu_base.specs.declared.ids.Xid.{Xid}
use Rattle.lu_base.specs.declared.locks.Cause.{Cause}
use Rattle.lu_base.specs.declared.locks.Cause.TheVariants as causes
use Rattle.lu_base.specs.declared.locks.Extent.{Extent}
use Rattle.lu_base.specs.declared.locks.Mode.{Mode}
use Rattle.lu_base.specs.declared.locks.Mode.TheVariants as modes
use Rattle.lu_base.specs.declared.locks.Resource.{Resource}
use Rattle.lu_scene.specs.Fields.{number_of}
use Rattle.lu_scene.proofs.Options.{bytes_same}
use Rattle.lu_scene.proofs.Numerals.{number_of-decimal}
use Rattle.lu_trace.specs.Entries.{cause_text}
use Rattle.lu_trace.specs.Messages.{tagged_text, size_text}
use Rattle.lu_trace.specs.Values.{who_text, at_text, last_text, extent_text, object_text}
use Rattle.lu_trace.specs.WellFormed.{IsWho, IsNode, IsAt, IsExtent, IsResource, IsCount, IsSize}
use Rattle.lu_judge_reader.specs.Reading.{◌>>?◌}
use Rattle.lu_judge_reader.specs.Values.{small_of, up_to, halves_of, pair_of, life_of, who_of, node_of, target_of, turn_of, at_of}
use Rattle.lu_judge_reader.specs.Values.{request_of, tagged_of, size_of, stripe_of, object_of, inode_of, last_of, range_of, extent_of}
use Rattle.lu_judge_reader.specs.Values.{mode_of, cause_of, count_of}
use Rattle.lu_judge_reader.proofs.Bytewise.{Of, Free, is_digit, is_figure, of_nil, of_cons, of_free, of_wider, decimal_of, pair_figures}
use Rattle.lu_judge_reader.proofs.Bytewise.{split_one, split_two, split_pair, not_alone}

-- numbers

pub small_again : (bits n : ℕ) → n < 2 ^ bits → n < 2 ^ 64 → small_of bits (decimal n) ≡ Some n
small_again bits n small fits =
    ap (λ (o : Option ℕ). o >>? λ m. cond (nat_lt m (2 ^ bits)) (Some m) None) (number_of-decimal n fits)
    ∙ cond-true (nat_lt n (2 ^ bits)) (Some n) None (lt-ltb n (2 ^ bits) small)

pub octet_again : (n : ℕ) → n < 2 ^ 8 → small_of 8 (decimal n) ≡ Some n
octet_again n small = small_again 8 n small (omega (arith, small))

pub place_again : (n : ℕ) → n < 2 ^ 16 → small_of 16 (decimal n) ≡ Some n
place_again n small = small_again 16 n small (omega (arith, small))

pub short_again : (n : ℕ) → n < 2 ^ 32 → small_of 32 (decimal n) ≡ Some n
short_again n small = small_again 32 n small (omega (arith, small))

pub up_to_again : (most n : ℕ) → n ≤ most → n < 2 ^ 64 → up_to most (decimal n) ≡ Some n
up_to_again most n low fits =
    ap (λ (o : Option ℕ). o >>? λ m. cond (nat_le m most) (Some m) None) (number_of-decimal n fits)
    ∙ cond-true (nat_le n most) (Some n) None (le-leb n most low)

free_dot : (n : ℕ) → n < 2 ^ 64 → Free 46 (decimal n)
free_dot n small = of_free is_digit 46 refl (decimal n) (decimal_of n small)

free_slash : (n : ℕ) → n < 2 ^ 64 → Free 47 (decimal n)
free_slash n small = of_free is_digit 47 refl (decimal n) (decimal_of n small)

-- the two halves of a number make it up
pub pair_again : (n : ℕ) → n < 2 ^ 64 → pair_of (pair_text n) ≡ Some n
unfolding pair_of
pair_again n fits =
    let high : n / 2 ^ 32 < 2 ^ 32 = omega (arith, fits) in
    let low : n % 2 ^ 32 < 2 ^ 32 = omega arith in
    let sum : n / 2 ^ 32 * 2 ^ 32 + n % 2 ^ 32 ≡ n = omega arith in
    ap halves_of (split_two 46 (decimal (n / 2 ^ 32)) (decimal (n % 2 ^ 32)) refl (free_dot (n / 2 ^ 32) (omega (arith, high)))
    (free_dot (n % 2 ^ 32) (omega (arith, low))))
    ∙ ap (λ (o : Option ℕ). o >>? λ h. small_of 32 (decimal (n % 2 ^ 32)) >>? λ l. Some (h * 2 ^ 32 + l)) (short_again (n / 2 ^ 32) high)
    ∙ ap (λ (o : Option ℕ). o >>? λ l. Some (n / 2 ^ 32 * 2 ^ 32 + l)) (short_again (n % 2 ^ 32) low)
    ∙ ap (λ (m : ℕ). Some m) sum

pub who_again : (who : Who) → IsWho who → who_of (who_text who) ≡ Some who
unfolding who_of
who_again who is =
    let client = is.0 in
    let life = is.1 in
    ap life_of (split_pair 46 (decimal who.client) (decimal who.life) refl (free_dot who.client (omega (arith, client)))
    (free_dot who.life (omega (arith, life))))
    ∙ ap (λ (o : Option ℕ). o >>? λ c. small_of 32 (decimal who.life) >>? λ l. Some (record { client = c; life = l }))
    (place_again who.client client)
    ∙ ap (λ (o : Option ℕ). o >>? λ l. Some (record { client = who.client; life = l })) (short_again who.life life)

pub node_again : (node : Node) → IsNode node → node_of (node_text node) ≡ Some node
unfolding node_of
node_again (Client n) is = ap (λ (o : Option ℕ). o >>? λ m. Some (Client m)) (place_again n is)
node_again (Target n) is = ap (λ (o : Option ℕ). o >>? λ m. Some (Target m)) (place_again n is)

pub target_again : (n : ℕ) → n < 2 ^ 16 → target_of (target_text n) ≡ Some n
unfolding target_of
target_again n small = place_again n small

-- a letter of a node, or a digit
abbrev is_node : ℕ → Bool
is_node b = is_digit b || b == 99 || b == 116

node_byte : (b : ℕ) → is_digit b ≡ true → is_node b ≡ true
node_byte b is = grind (arith, nat_tests)

wide : (text : List ℕ) → Of is_digit text → Of is_node text
wide text are = of_wider is_digit is_node node_byte text are

free_colon : (node : Node) → IsNode node → Free 58 (node_text node)
free_colon (Client n) is = of_free is_node 58 refl (99 ∷ decimal n)
    (of_cons is_node 99 (decimal n) refl (wide (decimal n) (decimal_of n (omega (arith, is)))))
free_colon (Target n) is = of_free is_node 58 refl (116 ∷ decimal n)
    (of_cons is_node 116 (decimal n) refl (wide (decimal n) (decimal_of n (omega (arith, is)))))

pub at_again : (at : At) → IsAt at → at_of (at_text at) ≡ Some at
unfolding at_of
at_again at is =
    ap turn_of (split_pair 58 (decimal at.stamp.0) (node_text at.node) refl
    (of_free is_digit 58 refl (decimal at.stamp.0) (decimal_of at.stamp.0 is.0)) (free_colon at.node is.1))
    ∙ ap (λ (o : Option ℕ). o >>? λ s. node_of (node_text at.node) >>? λ n. Some (record { stamp = record { 0 = s }; node = n }))
    (number_of-decimal at.stamp.0 is.0)
    ∙ ap (λ (o : Option Node). o >>? λ n. Some (record { stamp = at.stamp; node = n })) (node_again at.node is.1)

-- a request's number and its tag
pub tagged_again : (xid : Xid) (tag : ℕ) → xid.0 < 2 ^ 64 → tag < 2 ^ 8 → tagged_of (tagged_text xid tag) ≡ Some (xid, tag)
unfolding tagged_of
tagged_again xid tag fits small = by (tag == 0) refl
  where
    by : (b : Bool) → (tag == 0) ≡ b → request_of (slice_split (λ c. c == 47)
        (cond b (decimal xid.0) (decimal xid.0 ++ codes "/" ++ decimal tag))) ≡ Some (xid, tag)
    by true is =
        ap request_of (split_one 47 (decimal xid.0) (free_slash xid.0 fits))
        ∙ ap (λ (o : Option ℕ). o >>? λ n. Some (record { 0 = n }, 0)) (number_of-decimal xid.0 fits)
        ∙ ap (λ (t : ℕ). Some (xid, t)) (sym (eqb-true tag 0 is))
    by false is =
        ap request_of (split_pair 47 (decimal xid.0) (decimal tag) refl (free_slash xid.0 fits) (free_slash tag (omega (arith, small))))
        ∙ ap (λ (o : Option ℕ). o >>? λ n. small_of 8 (decimal tag) >>? λ t. Some (record { 0 = n }, t)) (number_of-decimal xid.0 fits)
        ∙ ap (λ (o : Option ℕ). o >>? λ t. Some (xid, t)) (octet_again tag small)

pub size_again : (size : Option ℕ) → IsSize size → size_of (size_text size) ≡ Some size
unfolding size_of
size_again None fits = refl
size_again (Some n) fits =
    cond-false (bytes_eq (decimal n) (codes "-")) (Some None) (number_of (decimal n) >>? λ m. Some (Some m))
    (not_alone 45 (decimal n) refl (of_free is_digit 45 refl (decimal n) (decimal_of n fits)))
    ∙ ap (λ (o : Option ℕ). o >>? λ m. Some (Some m)) (number_of-decimal n fits)

-- what locks are on

pub object_again : (resource : Resource) → IsResource resource → object_of (object_text resource) ≡ Some resource
unfolding object_of
object_again resource is =
    let fid = is.0 in
    let stripe = is.1 in
    ap stripe_of (split_pair 47 (pair_text resource.fid.0) (decimal resource.stripe) refl
    (of_free is_figure 47 refl (pair_text resource.fid.0) (pair_figures resource.fid.0 fid))
    (free_slash resource.stripe (omega (arith, stripe))))
    ∙ ap (λ (o : Option ℕ). o >>? λ f. small_of 16 (decimal resource.stripe) >>? λ s. Some (record { fid = record { 0 = f }; stripe = s }))
    (pair_again resource.fid.0 fid)
    ∙ ap (λ (o : Option ℕ). o >>? λ s. Some (record { fid = resource.fid; stripe = s })) (place_again resource.stripe stripe)

pub inode_again : (resource : Resource) → IsResource resource → resource.stripe ≡ 0 → inode_of (pair_text resource.fid.0) ≡ Some resource
unfolding inode_of
inode_again resource is none =
    ap (λ (o : Option ℕ). o >>? λ f. Some (record { fid = record { 0 = f }; stripe = 0 })) (pair_again resource.fid.0 is.0)
    ∙ ap (λ (s : ℕ). Some (record { fid = resource.fid; stripe = s })) (sym none)

is_letter_free : (n : ℕ) → n < 2 ^ 64 → bytes_eq (decimal n) (codes "end") ≡ false
is_letter_free n small =
    false_from_ne_true _ (λ e.
    let all : Of is_digit (codes "end") = subst (Of is_digit) (bytes_same (decimal n) (codes "end") e) (decimal_of n small) in
    true≢false (sym (All-head (λ b. is_digit b ≡ true) 101 (110 ∷ 100 ∷ []) all)))

pub last_again : (n : ℕ) → n < 2 ^ 64 → last_of (last_text n) ≡ Some n
unfolding last_of
last_again n fits = by (n == 2 ^ 64 - 1) refl
  where
    by : (b : Bool) → (n == 2 ^ 64 - 1) ≡ b
        → cond (bytes_eq (cond b (codes "end") (decimal n)) (codes "end")) (Some (2 ^ 64 - 1))
        (number_of (cond b (codes "end") (decimal n))) ≡ Some n
    by true is = ap (λ (m : ℕ). Some m) (sym (eqb-true n (2 ^ 64 - 1) is))
    by false is = cond-false (bytes_eq (decimal n) (codes "end")) (Some (2 ^ 64 - 1)) (number_of (decimal n)) (is_letter_free n fits)
        ∙ number_of-decimal n fits

abbrev is_lower : ℕ → Bool
is_lower b = nat_le 97 b && nat_le b 122

free_dash : (n : ℕ) → n < 2 ^ 64 → Free 45 (last_text n)
free_dash n fits = by (n == 2 ^ 64 - 1)
  where
    by : (b : Bool) → Free 45 (cond b (codes "end") (decimal n))
    by true = of_free is_lower 45 refl (codes "end") (of_cons is_lower 101 (110 ∷ 100 ∷ []) refl
        (of_cons is_lower 110 (100 ∷ []) refl (of_cons is_lower 100 [] refl (of_nil is_lower))))
    by false = of_free is_digit 45 refl (decimal n) (decimal_of n fits)

pub extent_again : (extent : Extent) → IsExtent extent → extent_of (extent_text extent) ≡ Some extent
unfolding extent_of
extent_again extent is =
    ap range_of (split_pair 45 (decimal extent.first) (last_text extent.last) refl
    (of_free is_digit 45 refl (decimal extent.first) (decimal_of extent.first is.0)) (free_dash extent.last is.1))
    ∙ ap (λ (o : Option ℕ). o >>? λ f. last_of (last_text extent.last) >>? λ l. Some (record { first = f; last = l }))
    (number_of-decimal extent.first is.0)
    ∙ ap (λ (o : Option ℕ). o >>? λ l. Some (record { first = extent.first; last = l })) (last_again extent.last is.1)

pub mode_again : (mode : Mode) → mode_of (mode_text mode) ≡ Some mode
mode_again modes.EX = refl
mode_again modes.PW = refl
mode_again modes.PR = refl
mode_again modes.CW = refl
mode_again modes.CR = refl
mode_again modes.NL = refl

pub cause_again : (cause : Cause) → cause_of (cause_text cause) ≡ Some cause
cause_again causes.Absent = refl
cause_again causes.Gap = refl
cause_again causes.Expired = refl
cause_again causes.Replaced = refl

-- a number of stripes

pub minus_one : signed_decimal (negsuc 0) ≡ codes "-1"
unfolding digits
minus_one = refl

not_minus : (n : ℕ) → n < 2 ^ 64 → bytes_eq (decimal n) (codes "-1") ≡ false
not_minus n small =
    false_from_ne_true _ (λ e.
    let all : Of is_digit (codes "-1") = subst (Of is_digit) (bytes_same (decimal n) (codes "-1") e) (decimal_of n small) in
    true≢false (sym (All-head (λ b. is_digit b ≡ true) 45 (49 ∷ []) all)))

pub count_again : (count : ℤ) → IsCount count → count_of (signed_decimal count) ≡ Some count
unfolding count_of
count_again (pos n) fits =
    cond-false (bytes_eq (decimal n) (codes "-1")) (Some (negsuc 0)) (up_to 1000 (decimal n) >>? λ m. Some (pos m))
    (not_minus n (omega (arith, fits)))
    ∙ ap (λ (o : Option ℕ). o >>? λ m. Some (pos m)) (up_to_again 1000 n fits (omega (arith, fits)))
count_again (negsuc n) fits = subst (λ (m : ℕ). count_of (signed_decimal (negsuc m)) ≡ Some (negsuc m)) (sym fits) (ap count_of minus_one)
