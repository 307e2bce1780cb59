-- Each kind of word: what is read is so written, and what is so written is read.
use Rattle.std.proofs.Common.{◌≡◌, ℕ, zero, suc, ◌^◌, ◌<◌, ◌≤◌, ◌==◌, Bool, true, false, cond, ◌&&◌, List, [], ◌∷◌, length, replicate}
use Rattle.std.proofs.Common.{Option, Some, None, Result, Ok, Err, refl, sym, ap, subst, ◌∙◌, decimal, arith, inl, inr, lit<}
use Rattle.std.specs.Prelude.{nat_le, nat_lt, codes, slice_index, ℤ, pos, negsuc}
use Rattle.std.specs.List.{All, slice_split, join_with_byte}
use Rattle.std.specs.Str.{bytes_eq}
use Rattle.std.specs.Str.Parse.{AllDigits}
use Rattle.std.specs.Char.{digit_value}
use Rattle.std.proofs.lemmas.Bool.{ltb-true, lt-ltb, leb-true, le-leb, eqb-true, eq-eqb, ne_eqb, and_parts, and_from, false_from_ne_true}
use Rattle.std.proofs.lemmas.Bool.{cond-true, cond-false}
use Rattle.std.proofs.lemmas.Fmt.{decimal_is_IsNumeral}
use Rattle.std.proofs.lemmas.List.Elements.{All-nil, All-cons}
use Rattle.std.proofs.lemmas.List.Splits.{slice_split_none, slice_split_at, join_with_byte-slice_split}
use Rattle.hex.specs.Hex.{IsBytes}
use Rattle.lu_base.specs.Texts.{path_text, IsPath, IsDataText}
use Rattle.lu_base.specs.declared.ids.Node.{Node}
use Rattle.lu_base.specs.declared.ids.Node.TheVariants.{Client, Target}
use Rattle.lu_base.specs.declared.ids.TargetId.{TargetId}
use Rattle.lu_scene.specs.declared.faults.Fault.{Fault}
use Rattle.lu_scene.specs.declared.faults.Fault.TheVariants as faults
use Rattle.lu_scene.specs.declared.scene.Head.{Head}
use Rattle.lu_scene.specs.Fields.{◌>>=◌, or_fault, number_of, number_in, number_at, mode_of, mode_at, count_at, number_behind, client_at}
use Rattle.lu_scene.specs.Fields.{target_at, node_at, slot_of, slot_at, path_of, path_at, data_of, data_at}
use Rattle.lu_base.specs.Values.{client_text, target_text, node_text}
use Rattle.std.specs.Fmt.{digits, signed_decimal}
use Rattle.lu_scene.specs.Print.{slot_text}
use Rattle.lu_scene.specs.Grammar.{CountFits, NodeFits, IsModeText}
use Rattle.lu_scene.proofs.Options.{bind_ok, or_fault_ok, guard_ok, ok_is, bytes_same}
use Rattle.lu_scene.proofs.Numerals.{number_of-decimal, number_of-read}
use Rattle.lu_scene.proofs.PathWords.{path_of-text, path_of-read}
use Rattle.lu_scene.proofs.DataWords.{data_of-text, data_of-read, data_of-bytes}
use Rattle.lu_scene.proofs.Modes.{mode_of-read, mode_of-octal, small_mode}

-- numbers

pub number_at-read : (word : List ℕ) (n : ℕ) → number_at word ≡ Ok n → (word ≡ decimal n) × (n < 2 ^ 64)
number_at-read word n e = number_of-read word n (or_fault_ok faults.Number (number_of word) n e)

pub number_at-again : (n : ℕ) → n < 2 ^ 64 → number_at (decimal n) ≡ Ok n
number_at-again n small = ap (or_fault faults.Number) (number_of-decimal n small)

-- a number in its range, as read
pub record Ranged (least most : ℕ) (word : List ℕ) (n : ℕ) : Type 0 where
  pub text : word ≡ decimal n
  pub low : least ≤ n
  pub high : n ≤ most

pub number_in-read : (least most : ℕ) (word : List ℕ) (n : ℕ) → number_in least most word ≡ Ok n → Ranged least most word n
number_in-read least most word n e =
    let b = bind_ok (number_at word) (λ m. cond (nat_le least m && nat_le m most) (Ok m) (Err faults.Number)) n e in
    let g = guard_ok (nat_le least b.0 && nat_le b.0 most) faults.Number b.0 n b.2 in
    let parts = and_parts (nat_le least b.0) (nat_le b.0 most) g.0 in
    subst (λ (m : ℕ). Ranged least most word m) g.1 (record {
      text = (number_at-read word b.0 b.1).0;
      low = leb-true least b.0 parts.0;
      high = leb-true b.0 most parts.1;
    })

pub number_in-again : (least most n : ℕ) → least ≤ n → n ≤ most → most < 2 ^ 64 → number_in least most (decimal n) ≡ Ok n
number_in-again least most n low high small =
    ap (λ (r : Result ℕ Fault). r >>= λ m. cond (nat_le least m && nat_le m most) (Ok m) (Err faults.Number))
    (number_at-again n (omega (arith, high, small)))
    ∙ cond-true (nat_le least n && nat_le n most) (Ok n) (Err faults.Number) (and_from _ _ (le-leb least n low) (le-leb n most high))

-- modes

pub mode_at-read : (word : List ℕ) (mode : ℕ) → mode_at word ≡ Ok mode → IsModeText word mode × (mode < 4096)
mode_at-read word mode e =
    let is = mode_of-read word mode (or_fault_ok faults.Number (mode_of word) mode e) in
    (is, subst (λ (n : ℕ). n < 4096) (sym is.1) (small_mode word is.0))

pub mode_at-again : (word : List ℕ) (mode : ℕ) → IsModeText word mode → mode_at word ≡ Ok mode
mode_at-again word mode is = ap (or_fault faults.Number) (mode_of-octal word is.0)
    ∙ ap (λ (n : ℕ). or_fault faults.Number (Some n)) (sym is.1)

-- numbers of stripes

-- the text of -1
minus_one : signed_decimal (negsuc 0) ≡ codes "-1"
unfolding digits
minus_one = refl

-- no number's text is `-1`
not_minus : (n : ℕ) → n < 2 ^ 64 → bytes_eq (decimal n) (codes "-1") ≡ false
not_minus n small = false_from_ne_true _ (λ e.
    let digits = subst (λ (t : List ℕ). AllDigits 10 t) (bytes_same (decimal n) (codes "-1") e) (decimal_is_IsNumeral n small).0.1 in
    omega (arith, digits.0))

pub count_at-read : (word : List ℕ) (count : ℤ) → count_at word ≡ Ok count → (word ≡ signed_decimal count) × CountFits count
count_at-read word count e = by (bytes_eq word (codes "-1")) refl e
  where
    by : (b : Bool) → bytes_eq word (codes "-1") ≡ b → cond b (Ok (negsuc 0)) (number_in 0 1000 word >>= λ n. Ok (pos n)) ≡ Ok count
        → (word ≡ signed_decimal count) × CountFits count
    by true is read = subst (λ (z : ℤ). (word ≡ signed_decimal z) × CountFits z) (ok_is (negsuc 0) count read)
        (bytes_same word (codes "-1") is ∙ sym minus_one, refl)
    by false is read =
        let b = bind_ok (number_in 0 1000 word) (λ n. Ok (pos n)) count read in
        let r = number_in-read 0 1000 word b.0 b.1 in
        subst (λ (z : ℤ). (word ≡ signed_decimal z) × CountFits z) (ok_is (pos b.0) count b.2) (r.text, r.high)

pub count_at-again : (count : ℤ) → CountFits count → count_at (signed_decimal count) ≡ Ok count
count_at-again (pos n) fits =
    cond-false _ (Ok (negsuc 0)) (number_in 0 1000 (decimal n) >>= λ m. Ok (pos m)) (not_minus n (omega (arith, fits)))
    ∙ ap (λ (r : Result ℕ Fault). r >>= λ m. Ok (pos m)) (number_in-again 0 1000 n (omega arith) fits (lit< tt))
count_at-again (negsuc zero) fits = ap count_at minus_one
count_at-again (negsuc (suc n)) fits = absurd (omega (arith, fits))

-- nodes

behind-read : (letter : ℕ) (word : List ℕ) (n : ℕ) → number_behind letter word ≡ Some n → (word ≡ letter ∷ decimal n) × (n < 2 ^ 64)
behind-read letter [] n e = absurd cc
behind-read letter (b ∷ digits) n e = by (b == letter) refl e
  where
    by : (v : Bool) → (b == letter) ≡ v → cond v (number_of digits) None ≡ Some n → (b ∷ digits ≡ letter ∷ decimal n) × (n < 2 ^ 64)
    by true is read =
        let found = number_of-read digits n read in
        (ap (λ (d : ℕ). d ∷ digits) (eqb-true b letter is) ∙ ap (λ (ds : List ℕ). letter ∷ ds) found.0, found.1)
    by false is read = absurd cc

behind-again : (letter n : ℕ) → n < 2 ^ 64 → number_behind letter (letter ∷ decimal n) ≡ Some n
behind-again letter n small = cond-true (letter == letter) (number_of (decimal n)) None (eq-eqb letter letter refl)
    ∙ number_of-decimal n small

pub client_at-read : (clients : ℕ) (word : List ℕ) (client : ℕ) → client_at clients word ≡ Ok client → (word ≡ client_text client)
    × (client < clients)
client_at-read clients word client e =
    let b = bind_ok (or_fault faults.Node (number_behind 99 word)) (λ n. cond (nat_lt n clients) (Ok n) (Err faults.Node)) client e in
    let is = behind-read 99 word b.0 (or_fault_ok faults.Node (number_behind 99 word) b.0 b.1) in
    let g = guard_ok (nat_lt b.0 clients) faults.Node b.0 client b.2 in
    subst (λ (n : ℕ). (word ≡ client_text n) × (n < clients)) g.1 (is.0, ltb-true b.0 clients g.0)

pub client_at-again : (clients client : ℕ) → client < clients → clients ≤ 16 → client_at clients (client_text client) ≡ Ok client
client_at-again clients client within few =
    ap (λ (o : Option ℕ). or_fault faults.Node o >>= λ n. cond (nat_lt n clients) (Ok n) (Err faults.Node))
    (behind-again 99 client (omega (arith, within, few)))
    ∙ cond-true (nat_lt client clients) (Ok client) (Err faults.Node) (lt-ltb client clients within)

target_of : ℕ → TargetId
target_of n = record { 0 = n }

pub target_at-read : (osts : ℕ) (word : List ℕ) (target : TargetId) → target_at osts word ≡ Ok target → (word ≡ target_text target.0)
    × (target.0 ≤ osts)
target_at-read osts word target e =
    let b = bind_ok (or_fault faults.Node (number_behind 116 word)) (λ n. cond (nat_le n osts) (Ok (record { 0 = n })) (Err faults.Node))
    target e in
    let is = behind-read 116 word b.0 (or_fault_ok faults.Node (number_behind 116 word) b.0 b.1) in
    let g = guard_ok (nat_le b.0 osts) faults.Node (record { 0 = b.0 }) target b.2 in
    subst (λ (t : TargetId). (word ≡ target_text t.0) × (t.0 ≤ osts)) g.1 (is.0, leb-true b.0 osts g.0)

pub target_at-again : (osts : ℕ) (target : TargetId) → target.0 ≤ osts → osts ≤ 8 → target_at osts (target_text target.0) ≡ Ok target
target_at-again osts target within few =
    ap (λ (o : Option ℕ). or_fault faults.Node o >>= λ n. cond (nat_le n osts) (Ok (record { 0 = n })) (Err faults.Node))
    (behind-again 116 target.0 (omega (arith, within, few)))
    ∙ cond-true (nat_le target.0 osts) (Ok target) (Err faults.Node) (le-leb target.0 osts within)

pub node_at-read : (head : Head) (word : List ℕ) (node : Node) → node_at head.clients head.osts word ≡ Ok node → (word ≡ node_text node)
    × NodeFits head node
node_at-read head word node e = by (slice_index word 0 == 99) e
  where
    by : (v : Bool) → cond v (client_at head.clients word >>= λ client. Ok (Client client))
        (target_at head.osts word >>= λ target. Ok (Target target.0)) ≡ Ok node
        → (word ≡ node_text node) × NodeFits head node
    by true read =
        let b = bind_ok (client_at head.clients word) (λ client. Ok (Client client)) node read in
        subst (λ (n : Node). (word ≡ node_text n) × NodeFits head n) (ok_is (Client b.0) node b.2)
        (client_at-read head.clients word b.0 b.1)
    by false read =
        let b = bind_ok (target_at head.osts word) (λ target. Ok (Target target.0)) node read in
        subst (λ (n : Node). (word ≡ node_text n) × NodeFits head n) (ok_is (Target b.0.0) node b.2) (target_at-read head.osts word b.0 b.1)

pub node_at-again : (head : Head) (node : Node) → NodeFits head node → head.clients ≤ 16 → head.osts ≤ 8
    → node_at head.clients head.osts (node_text node) ≡ Ok node
node_at-again head (Client client) fits few some = ap (λ (r : Result ℕ Fault). r >>= λ c. Ok (Client c))
    (client_at-again head.clients client fits few)
node_at-again head (Target target) fits few some = ap (λ (r : Result TargetId Fault). r >>= λ t. Ok (Target t.0))
    (target_at-again head.osts (record { 0 = target }) fits some)

-- slots

slot_of-read : (clients : ℕ) (parts : List (List ℕ)) (slot : ℕ × ℕ) → slot_of clients parts ≡ Ok slot
    → (parts ≡ decimal slot.0 ∷ decimal slot.1 ∷ []) × (slot.0 < clients) × (slot.1 ≤ 3)
slot_of-read clients [] slot e = absurd cc
slot_of-read clients (first ∷ []) slot e = absurd cc
slot_of-read clients (first ∷ second ∷ third ∷ more) slot e = absurd cc
slot_of-read clients (first ∷ second ∷ []) slot e =
    let a = bind_ok (or_fault faults.Node (number_of first)) (λ n. or_fault faults.Node (number_of second) >>=
    λ m. cond (nat_lt n clients && nat_le m 3) (Ok (n, m)) (Err faults.Node)) slot e in
    let b = bind_ok (or_fault faults.Node (number_of second)) (λ m. cond (nat_lt a.0 clients && nat_le m 3) (Ok (a.0, m)) (Err faults.Node))
    slot a.2 in
    let g = guard_ok (nat_lt a.0 clients && nat_le b.0 3) faults.Node (a.0, b.0) slot b.2 in
    let parts = and_parts (nat_lt a.0 clients) (nat_le b.0 3) g.0 in
    let one = number_of-read first a.0 (or_fault_ok faults.Node (number_of first) a.0 a.1) in
    let two = number_of-read second b.0 (or_fault_ok faults.Node (number_of second) b.0 b.1) in
    subst (λ (s : ℕ × ℕ). (first ∷ second ∷ [] ≡ decimal s.0 ∷ decimal s.1 ∷ []) × (s.0 < clients) × (s.1 ≤ 3)) g.1 (
      ap (λ (w : List ℕ). w ∷ second ∷ []) one.0 ∙ ap (λ (w : List ℕ). decimal a.0 ∷ w ∷ []) two.0,
      ltb-true a.0 clients parts.0,
      leb-true b.0 3 parts.1,
    )

pub slot_at-read : (clients : ℕ) (word : List ℕ) (slot : ℕ × ℕ) → slot_at clients word ≡ Ok slot → (word ≡ slot_text slot.0 slot.1)
    × (slot.0 < clients) × (slot.1 ≤ 3)
slot_at-read clients word slot e =
    let is = slot_of-read clients (slice_split (λ b. b == 46) word) slot e in
    (sym (join_with_byte-slice_split 46 word) ∙ ap (join_with_byte 46) is.0, is.1, is.2)

-- no byte of a number is a dot
digits_no_dot : (text : List ℕ) → AllDigits 10 text → All (λ b. (b == 46) ≡ false) text
digits_no_dot [] digits = All-nil (λ b. (b == 46) ≡ false)
digits_no_dot (b ∷ more) digits =
    All-cons (λ c. (c == 46) ≡ false) b more
    (ne_eqb b 46 (λ e. let d = subst (λ (c : ℕ). digit_value c < 10) e digits.0 in omega (arith, d)))
    (digits_no_dot more digits.1)

no_dot : (n : ℕ) → n < 2 ^ 64 → All (λ b. (b == 46) ≡ false) (decimal n)
no_dot n small = digits_no_dot (decimal n) (decimal_is_IsNumeral n small).0.1

pub slot_at-again : (clients client slot : ℕ) → client < clients → slot ≤ 3 → clients ≤ 16 → slot_at clients (slot_text client slot)
    ≡ Ok (client, slot)
slot_at-again clients client slot within low few =
    let small : client < 2 ^ 64 = omega (arith, within, few) in
    let short : slot < 2 ^ 64 = omega (arith, low) in
    let split : slice_split (λ b. b == 46) (slot_text client slot) ≡ decimal client ∷ decimal slot ∷ [] =
    slice_split_at (λ b. b == 46) (decimal client) 46 (decimal slot) (no_dot client small) refl
    ∙ ap (λ (ws : List (List ℕ)). decimal client ∷ ws) (slice_split_none (λ b. b == 46) (decimal slot) (no_dot slot short)) in
    ap (slot_of clients) split
    ∙ ap (λ (o : Option ℕ). or_fault faults.Node o >>= λ n. or_fault faults.Node (number_of (decimal slot)) >>=
    λ m. cond (nat_lt n clients && nat_le m 3) (Ok (n, m)) (Err faults.Node)) (number_of-decimal client small)
    ∙ ap (λ (o : Option ℕ). or_fault faults.Node o >>= λ m. cond (nat_lt client clients && nat_le m 3) (Ok (client, m)) (Err faults.Node))
    (number_of-decimal slot short)
    ∙ cond-true (nat_lt client clients && nat_le slot 3) (Ok (client, slot)) (Err faults.Node)
    (and_from _ _ (lt-ltb client clients within) (le-leb slot 3 low))

-- paths

pub path_at-read : (word : List ℕ) (path : List (List ℕ)) → path_at word ≡ Ok path → IsPath path × (word ≡ path_text path)
path_at-read word path e = path_of-read word path (or_fault_ok faults.Path (path_of word) path e)

pub path_at-again : (path : List (List ℕ)) → IsPath path → path_at (path_text path) ≡ Ok path
path_at-again path is = ap (or_fault faults.Path) (path_of-text path is)

-- data

-- data, as read
pub record IsData (word bytes : List ℕ) : Type 0 where
  pub text : IsDataText word bytes
  pub fit : IsBytes bytes
  pub some : 1 ≤ length bytes
  pub few : length bytes ≤ 65536

data_filled : (word bytes : List ℕ) → IsDataText word bytes → 1 ≤ length bytes
data_filled word [] (inl digits) = absurd (digits.1 refl)
data_filled word (b ∷ bs) (inl digits) = omega arith
data_filled word bytes (inr (byte, zero, small, one, most, is, are)) = absurd (omega (arith, one))
data_filled word bytes (inr (byte, suc n, small, one, most, is, are)) =
    subst (λ (xs : List ℕ). 1 ≤ length xs) (sym are) (long (replicate n byte))
  where
    long : (xs : List ℕ) → 1 ≤ length (byte ∷ xs)
    long xs = omega arith

pub data_at-read : (word bytes : List ℕ) → data_at word ≡ Ok bytes → IsData word bytes
data_at-read word bytes e =
    let b = bind_ok (or_fault faults.Data (data_of word)) (λ found. cond (nat_le (length found) 65536) (Ok found) (Err faults.Data)) bytes e
    in
    let g = guard_ok (nat_le (length b.0) 65536) faults.Data b.0 bytes b.2 in
    let found = or_fault_ok faults.Data (data_of word) b.0 b.1 in
    let is = data_of-read word b.0 found in
    subst (λ (xs : List ℕ). IsData word xs) g.1 (record {
      text = is;
      fit = data_of-bytes word b.0 found;
      some = data_filled word b.0 is;
      few = leb-true (length b.0) 65536 g.0;
    })

pub data_at-again : (word bytes : List ℕ) → IsDataText word bytes → IsBytes bytes → length bytes ≤ 65536 → data_at word ≡ Ok bytes
data_at-again word bytes is fits few =
    ap (λ (o : Option (List ℕ)). or_fault faults.Data o >>= λ found. cond (nat_le (length found) 65536) (Ok found) (Err faults.Data))
    (data_of-text word bytes fits is)
    ∙ cond-true (nat_le (length bytes) 65536) (Ok bytes) (Err faults.Data) (le-leb (length bytes) 65536 few)
