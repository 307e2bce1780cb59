-- Printing lines one after the other.
use Rattle.std.proofs.Common.{◌≡◌, ℕ, ◌+◌, ◌<◌, ◌≤◌, List, [], ◌∷◌, ◌++◌, length, get_or, take, map, refl, sym, ap, ◌∙◌, append_assoc}
use Rattle.std.proofs.Common.{add-one}
use Rattle.std.proofs.Math.Seq.{take-suc}
use Rattle.std.proofs.lemmas.List.{map-append, take_all}
use Rattle.lu_scene.specs.declared.scene.SceneLine.{SceneLine}
use Rattle.lu_msg.specs.declared.calls.Call.{Call}
use Rattle.lu_msg.specs.declared.calls.Call.TheVariants as calls
use Rattle.lu_trace.specs.Words.{words}
use Rattle.lu_trace.specs.Calls.{call_words, call_text}
use Rattle.lu_scene.specs.Print.{lines_text, line_words}

pub lines_text-append : (xs ys : List (List (List ℕ))) → lines_text (xs ++ ys) ≡ lines_text xs ++ lines_text ys
lines_text-append [] ys = refl
lines_text-append (w ∷ ws) ys =
    ap (λ (t : List ℕ). words w ++ 10 ∷ t) (lines_text-append ws ys) ∙ sym (append_assoc (words w) (10 ∷ lines_text ws) (lines_text ys))

-- one more line
pub line_more : (old now after : List ℕ) (before : List (List (List ℕ))) (line : List (List ℕ)) → now ≡ old ++ lines_text before → after
    ≡ now ++ (words line ++ 10 ∷ [])
    → after ≡ old ++ lines_text (before ++ line ∷ [])
line_more old now after before line so_far added =
    added ∙ ap (λ (t : List ℕ). t ++ (words line ++ 10 ∷ [])) so_far ∙ append_assoc old (lines_text before) (words line ++ 10 ∷ [])
    ∙ ap (λ (t : List ℕ). old ++ t) (sym (lines_text-append before (line ∷ [])))

-- seven lines
pub seven : (o a b c d e f g : List ℕ) (p q r s t u v : List (List ℕ)) → a ≡ o ++ (words p ++ 10 ∷ []) → b ≡ a ++ (words q ++ 10 ∷ []) → c
    ≡ b ++ (words r ++ 10 ∷ [])
    → d ≡ c ++ (words s ++ 10 ∷ []) → e ≡ d ++ (words t ++ 10 ∷ []) → f ≡ e ++ (words u ++ 10 ∷ []) → g ≡ f ++ (words v ++ 10 ∷ [])
    → g ≡ o ++ lines_text (p ∷ q ∷ r ∷ s ∷ t ∷ u ∷ v ∷ [])
seven o a b c d e f g p q r s t u v one two three four five six last =
    line_more o f g (p ∷ q ∷ r ∷ s ∷ t ∷ u ∷ []) v
    (line_more o e f (p ∷ q ∷ r ∷ s ∷ t ∷ []) u
    (line_more o d e (p ∷ q ∷ r ∷ s ∷ []) t
    (line_more o c d (p ∷ q ∷ r ∷ []) s
    (line_more o b c (p ∷ q ∷ []) r
    (line_more o a b (p ∷ []) q one two) three) four) five) six) last

-- the lines of a scenario so far, and one more
pub said_more : (now put after : List ℕ) (head : List (List (List ℕ))) (lines : List SceneLine) (i : ℕ) (d : SceneLine) → i < length lines
    → now ≡ lines_text (head ++ map line_words (take i lines)) → put ≡ now ++ words (line_words (get_or lines i d)) → after ≡ put ++ 10 ∷ []
    → after ≡ lines_text (head ++ map line_words (take (i + 1) lines))
said_more now put after head lines i d within so_far added ended =
    let whole : after ≡ now ++ (words (line_words (get_or lines i d)) ++ 10 ∷ []) =
    ended ∙ ap (λ (t : List ℕ). t ++ 10 ∷ []) added ∙ append_assoc now (words (line_words (get_or lines i d))) (10 ∷ []) in
    line_more [] now after (head ++ map line_words (take i lines)) (line_words (get_or lines i d)) so_far whole
    ∙ ap lines_text (append_assoc head (map line_words (take i lines)) (line_words (get_or lines i d) ∷ [])
    ∙ ap (λ (ws : List (List (List ℕ))). head ++ ws) (sym (map-append line_words (take i lines) (get_or lines i d ∷ []))
    ∙ ap (λ (ls : List SceneLine). map line_words ls) (sym (take-suc lines i d within) ∙ ap (λ (k : ℕ). take k lines) (sym (add-one i)))))

-- the text of all lines
pub all_said : (now : List ℕ) (head : List (List (List ℕ))) (items said : List SceneLine) (i : ℕ) → length items ≤ i → items ≡ said
    → now ≡ lines_text (head ++ map line_words (take i items)) → now ≡ lines_text (head ++ map line_words said)
all_said now head items said i past same so_far = so_far ∙ ap (λ (ls : List SceneLine). lines_text (head ++ map line_words ls))
    (take_all i items past ∙ same)

-- a call behind its slot
pub call_behind : (slot : List ℕ) (call : Call) → words (slot ∷ call_words call) ≡ slot ++ 32 ∷ call_text call
call_behind slot (calls.Lookup path) = refl
call_behind slot (calls.Stat path) = refl
call_behind slot (calls.List path) = refl
call_behind slot (calls.Layout path) = refl
call_behind slot (calls.Mkdir path) = refl
call_behind slot (calls.Create path stripes) = refl
call_behind slot (calls.Link old new) = refl
call_behind slot (calls.Unlink path) = refl
call_behind slot (calls.Rmdir path) = refl
call_behind slot (calls.Rename old new) = refl
call_behind slot (calls.Chmod path mode) = refl
call_behind slot (calls.Open handle path) = refl
call_behind slot (calls.Close handle) = refl
call_behind slot (calls.Read handle offset length) = refl
call_behind slot (calls.Write handle offset bytes) = refl
call_behind slot (calls.Cut handle size) = refl
call_behind slot (calls.Flush handle) = refl
call_behind slot (calls.Glimpse handle) = refl
