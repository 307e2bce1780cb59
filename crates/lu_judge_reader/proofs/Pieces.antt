-- What stands between the line feeds of a text: no line feed, and joined again the text.
use Rattle.std.proofs.Common.{◌≡◌, ℕ, ◌==◌, Bool, true, false, List, [], ◌∷◌, ◌++◌, length, map, refl, sym, ap, subst, ◌∙◌, append_assoc}
use Rattle.std.proofs.Common.{arith}
use Rattle.std.specs.Prelude.{All}
use Rattle.std.specs.List.{slice_split, onto_first, join_with_byte}
use Rattle.std.proofs.lemmas.List.{map-append}
use Rattle.std.proofs.lemmas.List.Elements.{All-nil, All-cons, All-head, All-tail}
use Rattle.std.proofs.lemmas.List.Splits.{slice_split_none, slice_split-cons_yes, slice_split-cons_no, join_with_byte-slice_split}
use Rattle.std.proofs.lemmas.List.Splits.{length-slice_split}
use Rattle.lu_judge_reader.specs.Reads.{HasNoFeed, unlines}

abbrev pieces : List ℕ → List (List ℕ)
pieces text = slice_split (λ b. b == 10) text

no_feed_nil : HasNoFeed []
no_feed_nil = All-nil (λ b. (b == 10) ≡ false)

onto_free : (b : ℕ) (parts : List (List ℕ)) → (b == 10) ≡ false → All HasNoFeed parts → All HasNoFeed (onto_first b parts)
onto_free b [] other are = All-cons HasNoFeed (b ∷ []) [] (All-cons (λ c. (c == 10) ≡ false) b [] other no_feed_nil) (All-nil HasNoFeed)
onto_free b (part ∷ parts) other are =
    All-cons HasNoFeed (b ∷ part) parts (All-cons (λ c. (c == 10) ≡ false) b part other (All-head HasNoFeed part parts are))
    (All-tail HasNoFeed part parts are)

pub pieces_free : (text : List ℕ) → All HasNoFeed (pieces text)
pieces_free [] = subst (All HasNoFeed) (sym (slice_split_none (λ b. b == 10) [] no_feed_nil))
    (All-cons HasNoFeed [] [] no_feed_nil (All-nil HasNoFeed))
pieces_free (b ∷ text) = by (b == 10) refl (pieces_free text)
  where
    by : (v : Bool) → (b == 10) ≡ v → All HasNoFeed (pieces text) → All HasNoFeed (pieces (b ∷ text))
    by true is are = subst (All HasNoFeed) (sym (slice_split-cons_yes (λ c. c == 10) b text is))
        (All-cons HasNoFeed [] (pieces text) no_feed_nil are)
    by false is are = subst (All HasNoFeed) (sym (slice_split-cons_no (λ c. c == 10) b text is)) (onto_free b (pieces text) is are)

joined : (ls : List (List ℕ)) (last : List ℕ) → join_with_byte 10 (ls ++ last ∷ []) ≡ unlines ls ++ last
joined [] last = refl
joined (l ∷ []) last = sym (append_assoc l (10 ∷ []) last)
joined (l ∷ m ∷ ls) last = ap (λ (t : List ℕ). l ++ 10 ∷ t) (joined (m ∷ ls) last) ∙ sym (append_assoc l (10 ∷ unlines (m ∷ ls)) last)

front_of : (P : List ℕ → Type 0) (ls : List (List ℕ)) (last : List ℕ) → All P (ls ++ last ∷ []) → All P ls × P last
front_of P [] last are = (All-nil P, All-head P last [] are)
front_of P (l ∷ ls) last are =
    let more = front_of P ls last (All-tail P l (ls ++ last ∷ []) are) in
    (All-cons P l ls (All-head P l (ls ++ last ∷ []) are) more.0, more.1)

-- the lines of a text, and what follows the last line feed
pub record Parted (text : List ℕ) (lines : List (List ℕ)) (last : List ℕ) : Type 0 where
  pub whole : unlines lines ++ last ≡ text
  pub lines_free : All HasNoFeed lines
  pub last_free : HasNoFeed last

pub parted : {B : Type 0} (now : B → List ℕ) (text : List ℕ) (all rest : List B) (last : B) → map now all ≡ pieces text → all ≡ rest ++ last
    ∷ [] → Parted text (map now rest) (now last)
parted {B} now text all rest last are is =
    let same : pieces text ≡ map now rest ++ now last ∷ [] = sym are ∙ ap (map now) is ∙ map-append now rest (last ∷ []) in
    let free = front_of HasNoFeed (map now rest) (now last) (subst (All HasNoFeed) same (pieces_free text)) in
    record {
      whole = sym (joined (map now rest) (now last)) ∙ ap (join_with_byte 10) (sym same) ∙ join_with_byte-slice_split 10 text;
      lines_free = free.0;
      last_free = free.1;
    }

-- there is at least one piece
pub no_pieces : {B : Type 0} (now : B → List ℕ) (text : List ℕ) (all : List B) → map now all ≡ pieces text → length all ≡ 0 → ⊥
no_pieces now text [] are none =
    let count = length-slice_split (λ b. b == 10) text in
    let zero_is : length (pieces text) ≡ 0 = ap length (sym are) in
    omega (arith, count, zero_is)
no_pieces now text (b ∷ all) are none = omega (arith, none)
