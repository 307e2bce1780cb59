-- Texts with a byte between them, as a loop appends them.
use Rattle.std.proofs.Common.{◌≡◌, ℕ, ◌+◌, ◌<◌, List, [], ◌∷◌, ◌++◌, length, take, get_or, refl, ap, sym, ◌∙◌, append_assoc, append-nil}
use Rattle.std.proofs.Common.{add-one, map}
use Rattle.std.specs.List.{join_with_byte, flat_map}
use Rattle.std.proofs.lemmas.Grind.{flat_map-append}
use Rattle.std.proofs.Math.Seq.{take-suc}

-- one more text, after a first one
join-more : (between : ℕ) (first : List ℕ) (texts : List (List ℕ)) (text : List ℕ)
    → join_with_byte between (first ∷ (texts ++ text ∷ [])) ≡ join_with_byte between (first ∷ texts) ++ between ∷ text
join-more between first [] text = refl
join-more between first (next ∷ texts) text =
    ap (λ rest. first ++ between ∷ rest) (join-more between next texts text)
    ∙ sym (append_assoc first (between ∷ join_with_byte between (next ∷ texts)) (between ∷ text))

map-snoc : {A : Type 0} (f : A → List ℕ) (xs : List A) (x : A) → map f (xs ++ x ∷ []) ≡ map f xs ++ f x ∷ []
map-snoc f [] x = refl
map-snoc f (y ∷ ys) x = ap (λ rest. f y ∷ rest) (map-snoc f ys x)

-- the byte and one more text, after what stands already
append-more : (between : ℕ) (start first now pushed after text : List ℕ) (texts : List (List ℕ))
    → now ≡ start ++ join_with_byte between (first ∷ texts) → pushed ≡ now ++ between ∷ [] → after ≡ pushed ++ text
    → after ≡ start ++ join_with_byte between (first ∷ (texts ++ text ∷ []))
append-more between start first now pushed after text texts so_far byte added =
    let joined = join_with_byte between (first ∷ texts) in
    added ∙ ap (λ w. w ++ text) (byte ∙ ap (λ w. w ++ between ∷ []) so_far)
    ∙ append_assoc (start ++ joined) (between ∷ []) text
    ∙ append_assoc start joined (between ∷ text)
    ∙ ap (λ w. start ++ w) (sym (join-more between first texts text))

-- the next of the texts
pub append-next : (between : ℕ) (start first now pushed after text : List ℕ) (texts : List (List ℕ)) (i : ℕ) → i < length texts
    → now ≡ start ++ join_with_byte between (first ∷ take i texts) → pushed ≡ now ++ between ∷ [] → after ≡ pushed ++ text
    → text ≡ get_or texts i text
    → after ≡ start ++ join_with_byte between (first ∷ take (i + 1) texts)
append-next between start first now pushed after text texts i within so_far byte added is =
    append-more between start first now pushed after text (take i texts) so_far byte added
    ∙ ap (λ t. start ++ join_with_byte between (first ∷ (take i texts ++ t ∷ []))) is
    ∙ ap (λ ts. start ++ join_with_byte between (first ∷ ts)) (sym (take-suc texts i text within)
    ∙ ap (λ k. take k texts) (sym (add-one i)))

-- the next of the items' texts
pub append-next_item : {A : Type 0} (write : A → List ℕ) (between : ℕ) (start first now pushed after : List ℕ) (items : List A) (item : A)
    (i : ℕ)
    → i < length items
    → now ≡ start ++ join_with_byte between (first ∷ map write (take i items)) → pushed ≡ now ++ between ∷ [] → after ≡ pushed ++ write item
    → item ≡ get_or items i item
    → after ≡ start ++ join_with_byte between (first ∷ map write (take (i + 1) items))
append-next_item write between start first now pushed after items item i within so_far byte added is =
    append-more between start first now pushed after (write item) (map write (take i items)) so_far byte added
    ∙ ap (λ ts. start ++ join_with_byte between (first ∷ ts)) (sym (map-snoc write (take i items) item))
    ∙ ap (λ t. start ++ join_with_byte between (first ∷ map write (take i items ++ t ∷ []))) is
    ∙ ap (λ ts. start ++ join_with_byte between (first ∷ map write ts))
    (sym (take-suc items i item within) ∙ ap (λ k. take k items) (sym (add-one i)))

-- the next of the items' texts, with nothing between them
pub append-next_text : {A : Type 0} (write : A → List ℕ) (start now after : List ℕ) (items : List A) (item : A) (i : ℕ) → i < length items
    → now ≡ start ++ flat_map write (take i items) → after ≡ now ++ write item → item ≡ get_or items i item
    → after ≡ start ++ flat_map write (take (i + 1) items)
append-next_text write start now after items item i within so_far added is =
    let written = flat_map write (take i items) in
    added ∙ ap (λ w. w ++ write item) so_far ∙ append_assoc start written (write item)
    ∙ ap (λ w. start ++ w) (
    ap (λ w. written ++ w) (sym (append-nil (write item)))
    ∙ sym (flat_map-append write (take i items) (item ∷ []))
    ∙ ap (λ t. flat_map write (take i items ++ t ∷ [])) is
    ∙ ap (λ ts. flat_map write ts) (sym (take-suc items i item within) ∙ ap (λ k. take k items) (sym (add-one i))))
