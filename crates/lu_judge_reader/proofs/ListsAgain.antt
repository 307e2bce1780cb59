-- Each list's text is read as the list.
use Rattle.std.proofs.Common.{◌≡◌, ℕ, ◌/◌, ◌%◌, ◌^◌, ◌<◌, ◌==◌, Bool, true, ◌||◌, List, [], ◌∷◌, ◌++◌, length, map, Option, Some, None}
use Rattle.std.proofs.Common.{refl, sym, ap, ◌∙◌, decimal, arith}
use Rattle.std.specs.Prelude.{codes, All}
use Rattle.std.specs.List.{slice_split, join_with_byte}
use Rattle.std.specs.Str.{bytes_eq}
use Rattle.std.proofs.lemmas.Bool.{eq-eqb, cond-true, cond-false}
use Rattle.std.proofs.lemmas.Bool.Decides.{nat_tests}
use Rattle.std.proofs.lemmas.List.Elements.{All-nil, All-cons, All-head, All-tail}
use Rattle.lu_base.specs.Texts.{pair_text, IsName}
use Rattle.lu_base.specs.declared.ids.Cookie.{Cookie}
use Rattle.lu_base.specs.declared.ids.Who.{Who}
use Rattle.lu_base.specs.declared.locks.Lock.{Lock}
use Rattle.lu_base.specs.declared.locks.Mode.{Mode}
use Rattle.lu_base.specs.declared.locks.Mode.TheVariants.{PR}
use Rattle.lu_base.specs.declared.locks.Policy.{Policy}
use Rattle.lu_base.specs.declared.locks.Policy.TheVariants.{Bits, Range}
use Rattle.lu_base.specs.declared.locks.Resource.{Resource}
use Rattle.lu_layout.specs.Raid0.{Raid0}
use Rattle.lu_layout.specs.Sound.{IsLayout}
use Rattle.lu_scene.specs.Fields.{number_of, is_name}
use Rattle.lu_scene.proofs.PathWords.{is_name-from}
use Rattle.lu_scene.proofs.Numerals.{number_of-decimal}
use Rattle.lu_trace.specs.Lists.{list_text, seen_text, numbers_text, lock_text, locks_text, layout_text}
use Rattle.lu_trace.specs.Values.{policy_text}
use Rattle.lu_trace.specs.WellFormed.{Fits, AreTerms, HasBits, IsReplyLock, IsStriped}
use Rattle.lu_judge_reader.specs.Reading.{◌>>?◌}
use Rattle.lu_judge_reader.specs.Values.{small_of, pair_of, name_of}
use Rattle.lu_judge_reader.specs.Lists.{all_of, items_of, seen_of, sizes_of, granted_of, lock_of, locks_of, names_of, striped, raid_of}
use Rattle.lu_judge_reader.specs.Lists.{layout_of}
use Rattle.lu_judge_reader.proofs.Stripes.{striped_ok}
use Rattle.lu_judge_reader.proofs.Bytewise.{Of, Free, is_digit, is_figure, of_parted, of_pair, of_free, of_wider, decimal_of}
use Rattle.lu_judge_reader.proofs.Bytewise.{decimal_figures, pair_figures, split_pair, split_three, split_joined, not_alone}
use Rattle.lu_judge_reader.proofs.ValuesAgain.{octet_again, place_again, pair_again}

-- the texts of values are read as the values
pub all_again : {A : Type 0} (text : A → List ℕ) (f : List ℕ → Option A) (P : A → Type 0) → ((x : A) → P x → f (text x) ≡ Some x)
    → (xs : List A) → All P xs → all_of f (map text xs) ≡ Some xs
all_again text f P again [] are = refl
all_again {A} text f P again (x ∷ xs) are =
    ap (λ (o : Option A). o >>? λ v. all_of f (map text xs) >>? λ vs. Some (v ∷ vs)) (again x (All-head P x xs are))
    ∙ ap (λ (o : Option (List A)). o >>? λ vs. Some (x ∷ vs)) (all_again text f P again xs (All-tail P x xs are))

pub map_all : {A : Type 0} (text : A → List ℕ) (P : A → Type 0) (Q : List ℕ → Type 0) → ((x : A) → P x → Q (text x)) → (xs : List A)
    → All P xs → All Q (map text xs)
map_all text P Q more [] are = All-nil Q
map_all text P Q more (x ∷ xs) are = All-cons Q (text x) (map text xs) (more x (All-head P x xs are))
    (map_all text P Q more xs (All-tail P x xs are))

pub joined_of : (kind : ℕ → Bool) (c : ℕ) → kind c ≡ true → (w : List ℕ) (ws : List (List ℕ)) → Of kind w → All (Of kind) ws
    → Of kind (join_with_byte c (w ∷ ws))
joined_of kind c is w [] one more = one
joined_of kind c is w (v ∷ ws) one more =
    of_parted kind w c (join_with_byte c (v ∷ ws)) is one (joined_of kind c is v ws (All-head (Of kind) v ws more)
    (All-tail (Of kind) v ws more))

-- a figure or a comma
abbrev pub is_listed : ℕ → Bool
is_listed b = is_figure b || b == 44

listed_byte : (b : ℕ) → is_figure b ≡ true → is_listed b ≡ true
listed_byte b is = grind (arith, nat_tests)

pub listed : (text : List ℕ) → Of is_figure text → Of is_listed text
listed text are = of_wider is_figure is_listed listed_byte text are

-- items of figures, joined, are those items
pub items_again : {A : Type 0} (text : A → List ℕ) (P : A → Type 0) → ((x : A) → P x → Of is_figure (text x)) → (xs : List A) → All P xs
    → items_of (list_text text xs) ≡ map text xs
items_again text P figures [] are = refl
items_again text P figures (x ∷ xs) are =
    let whole = join_with_byte 44 (map text (x ∷ xs)) in
    let first = figures x (All-head P x xs are) in
    let rest = All-tail P x xs are in
    let of : Of is_listed whole = joined_of is_listed 44 refl (text x) (map text xs) (listed (text x) first)
    (map_all text P (Of is_listed) (λ y is. listed (text y) (figures y is)) xs rest) in
    cond-false (bytes_eq whole (codes "-")) [] (slice_split (λ b. b == 44) whole)
    (not_alone 45 whole refl (of_free is_listed 45 refl whole of))
    ∙ split_joined 44 refl (text x) (map text xs) (of_free is_figure 44 refl (text x) first)
    (map_all text P (Free 44) (λ y is. of_free is_figure 44 refl (text y) (figures y is)) xs rest)

pub seen_again : (seen : List ℕ) → All (Fits 64) seen → seen_of (seen_text seen) ≡ Some seen
unfolding seen_of
seen_again seen are =
    ap (all_of pair_of) (items_again pair_text (Fits 64) pair_figures seen are) ∙ all_again pair_text pair_of (Fits 64) pair_again seen are

pub sizes_again : (sizes : List ℕ) → All (Fits 64) sizes → sizes_of (numbers_text sizes) ≡ Some sizes
unfolding sizes_of
sizes_again sizes are =
    ap (all_of number_of) (items_again decimal (Fits 64) decimal_figures sizes are)
    ∙ all_again decimal number_of (Fits 64) number_of-decimal sizes are

-- the locks of a reply

-- a digit or a dot
abbrev is_dotted : ℕ → Bool
is_dotted b = is_digit b || b == 46

dotted_byte : (b : ℕ) → is_digit b ≡ true → is_dotted b ≡ true
dotted_byte b is = grind (arith, nat_tests)

dotted_decimal : (n : ℕ) → n < 2 ^ 64 → Of is_dotted (decimal n)
dotted_decimal n small = of_wider is_digit is_dotted dotted_byte (decimal n) (decimal_of n small)

dotted : (n : ℕ) → n < 2 ^ 64 → Of is_dotted (pair_text n)
dotted n small =
    let high : n / 2 ^ 32 < 2 ^ 32 = omega (arith, small) in
    let low : n % 2 ^ 32 < 2 ^ 32 = omega arith in
    of_parted is_dotted (decimal (n / 2 ^ 32)) 46 (decimal (n % 2 ^ 32)) refl
    (dotted_decimal (n / 2 ^ 32) (omega (arith, high))) (dotted_decimal (n % 2 ^ 32) (omega (arith, low)))

abbrev of_parts : Who → ℕ → ℕ → ℕ → Lock
of_parts who c f b = record {
  cookie = record { 0 = c };
  resource = record { fid = record { 0 = f }; stripe = 0 };
  ask =
      record { who = who; mode = PR; policy = Bits b };
}

no_colon : (n : ℕ) → n < 2 ^ 64 → Free 58 (pair_text n)
no_colon n small = of_free is_dotted 58 refl (pair_text n) (dotted n small)

granted_again : (who : Who) (cookie : Cookie) (resource : Resource) (w : Who) (mode : Mode) (policy : Policy) → Fits 64 cookie.0
    → AreTerms resource policy → w ≡ who → mode ≡ PR → HasBits policy
    → lock_of who (pair_text cookie.0 ++ codes ":" ++ pair_text resource.fid.0 ++ codes ":" ++ policy_text policy)
    ≡ Some (record { cookie = cookie; resource = resource; ask = record { who = w; mode = mode; policy = policy } })
granted_again who cookie resource w mode (Range extent) fits terms same read bits = absurd bits
granted_again who cookie resource w mode (Bits bits) fits terms same read has =
    let fid = terms.0.0 in
    let small = terms.2 in
    ap (granted_of who)
    (split_three 58 (pair_text cookie.0) (pair_text resource.fid.0) (decimal bits) refl (no_colon cookie.0 fits)
    (no_colon resource.fid.0 fid) (of_free is_digit 58 refl (decimal bits) (decimal_of bits (omega (arith, small)))))
    ∙ ap (λ (o : Option ℕ). o >>? λ c. pair_of (pair_text resource.fid.0) >>? λ f. small_of 8 (decimal bits) >>? λ b. Some
    (of_parts who c f b)) (pair_again cookie.0 fits)
    ∙ ap (λ (o : Option ℕ). o >>? λ f. small_of 8 (decimal bits) >>? λ b. Some (of_parts who cookie.0 f b)) (pair_again resource.fid.0 fid)
    ∙ ap (λ (o : Option ℕ). o >>? λ b. Some (of_parts who cookie.0 resource.fid.0 b)) (octet_again bits small)
    ∙ ap (λ (s : ℕ). Some (record {
      cookie = cookie;
      resource = record { fid = resource.fid; stripe = s };
      ask =
          record { who = who; mode = PR; policy = Bits bits };
    })) (sym terms.1)
    ∙ ap (λ (v : Who). Some (record { cookie = cookie; resource = resource; ask = record { who = v; mode = PR; policy = Bits bits } }))
    (sym same)
    ∙ ap (λ (m : Mode). Some (record { cookie = cookie; resource = resource; ask = record { who = w; mode = m; policy = Bits bits } }))
    (sym read)

lock_again : (who : Who) (lock : Lock) → IsReplyLock who lock → lock_of who (lock_text lock) ≡ Some lock
lock_again who lock is = granted_again who lock.cookie lock.resource lock.ask.who lock.ask.mode lock.ask.policy is.0.0 is.0.2 is.1 is.2 is.3

figures : (cookie : Cookie) (resource : Resource) (policy : Policy) → Fits 64 cookie.0 → AreTerms resource policy → HasBits policy
    → Of is_figure (pair_text cookie.0 ++ codes ":" ++ pair_text resource.fid.0 ++ codes ":" ++ policy_text policy)
figures cookie resource (Range extent) fits terms bits = absurd bits
figures cookie resource (Bits bits) fits terms has =
    let small = terms.2 in
    of_pair is_figure (pair_text cookie.0 ++ codes ":" ++ pair_text resource.fid.0) 58 (decimal bits) refl
    (of_pair is_figure (pair_text cookie.0) 58 (pair_text resource.fid.0) refl (pair_figures cookie.0 fits)
    (pair_figures resource.fid.0 terms.0.0)) (decimal_figures bits (omega (arith, small)))

pub lock_figures : (who : Who) (lock : Lock) → IsReplyLock who lock → Of is_figure (lock_text lock)
lock_figures who lock is = figures lock.cookie lock.resource lock.ask.policy is.0.0 is.0.2 is.3

pub locks_again : (who : Who) (locks : List Lock) → All (IsReplyLock who) locks → locks_of who (locks_text locks) ≡ Some locks
unfolding locks_of
locks_again who locks are =
    ap (all_of (lock_of who)) (items_again lock_text (IsReplyLock who) (lock_figures who) locks are)
    ∙ all_again lock_text (lock_of who) (IsReplyLock who) (lock_again who) locks are

-- names

name_again : (name : List ℕ) → IsName name → name_of name ≡ Some name
name_again name is = cond-true (is_name name) (Some name) None (is_name-from name is)

all_names : (names : List (List ℕ)) → All IsName names → all_of name_of names ≡ Some names
all_names [] are = refl
all_names (x ∷ xs) are =
    ap (λ (o : Option (List ℕ)). o >>? λ v. all_of name_of xs >>? λ vs. Some (v ∷ vs)) (name_again x (All-head IsName x xs are))
    ∙ ap (λ (o : Option (List (List ℕ))). o >>? λ vs. Some (x ∷ vs)) (all_names xs (All-tail IsName x xs are))

pub names_again : (names : List (List ℕ)) → All IsName names → names_of (length names) names ≡ Some names
unfolding names_of
names_again names are = cond-true (length names == length names) (all_of name_of names) None (eq-eqb (length names) (length names) refl)
    ∙ all_names names are

-- layouts

place_figures : (n : ℕ) → n < 2 ^ 16 → Of is_digit (decimal n)
place_figures n small = decimal_of n (omega (arith, small))

-- a digit or a comma
abbrev is_targets : ℕ → Bool
is_targets b = is_digit b || b == 44

targets_byte : (b : ℕ) → is_digit b ≡ true → is_targets b ≡ true
targets_byte b is = grind (arith, nat_tests)

targets_of : (text : List ℕ) → Of is_digit text → Of is_targets text
targets_of text are = of_wider is_digit is_targets targets_byte text are

raid_again : (size : ℕ) (targets : List ℕ) → IsLayout (record { size = size; targets = targets }) → All (Fits 16) targets
    → layout_of (decimal size ++ codes ":" ++ join_with_byte 44 (map decimal targets)) ≡ Some (record { size = size; targets = targets })
unfolding layout_of
raid_again size [] sound are = let some = sound.targets.0 in absurd (omega (arith, some))
raid_again size (t ∷ ts) sound are =
    let targets = t ∷ ts in
    let most = sound.size.2 in
    let fits : size < 2 ^ 64 = omega (arith, most) in
    let joined = join_with_byte 44 (map decimal targets) in
    let first = place_figures t (All-head (Fits 16) t ts are) in
    let rest = All-tail (Fits 16) t ts are in
    let of : Of is_targets joined = joined_of is_targets 44 refl (decimal t) (map decimal ts) (targets_of (decimal t) first)
    (map_all decimal (Fits 16) (Of is_targets) (λ y is. targets_of (decimal y) (place_figures y is)) ts rest) in
    let split : slice_split (λ b. b == 44) joined ≡ map decimal targets =
    split_joined 44 refl (decimal t) (map decimal ts) (of_free is_digit 44 refl (decimal t) first)
    (map_all decimal (Fits 16) (Free 44) (λ y is. of_free is_digit 44 refl (decimal y) (place_figures y is)) ts rest) in
    ap raid_of (split_pair 58 (decimal size) joined refl (of_free is_digit 58 refl (decimal size) (decimal_of size fits))
    (of_free is_targets 58 refl joined of))
    ∙ ap (λ (o : Option ℕ). o >>? λ s. all_of (small_of 16) (slice_split (λ b. b == 44) joined) >>? λ vs. striped s vs)
    (number_of-decimal size fits)
    ∙ ap (λ (ws : List (List ℕ)). all_of (small_of 16) ws >>? λ vs. striped size vs) split
    ∙ ap (λ (o : Option (List ℕ)). o >>? λ vs. striped size vs) (all_again decimal (small_of 16) (Fits 16) place_again targets are)
    ∙ striped_ok size targets (record { size = size; targets = targets }) refl sound

pub layout_again : (layout : Raid0) → IsStriped layout → layout_of (layout_text layout) ≡ Some layout
layout_again layout is = raid_again layout.size layout.targets is.0 is.1
