-- Calls: what is read has the form and keeps the limits, and what has the form and keeps them is read.
use Rattle.std.proofs.Common.{◌≡◌, ℕ, ◌+◌, ◌^◌, ◌<◌, ◌≤◌, cond, List, [], ◌∷◌, length, Option, Some, None, Result, Ok, Err, ap, subst, ◌∙◌}
use Rattle.std.proofs.Common.{decimal, arith, lit<}
use Rattle.std.specs.Prelude.{nat_le, ℤ}
use Rattle.std.proofs.lemmas.Bool.{leb-true, le-leb, cond-true}
use Rattle.lu_base.specs.Texts.{path_text, IsPath}
use Rattle.lu_msg.specs.declared.calls.Call.{Call}
use Rattle.lu_msg.specs.declared.calls.Call.TheVariants as calls
use Rattle.lu_scene.specs.declared.faults.Fault.{Fault}
use Rattle.lu_scene.specs.declared.faults.Fault.TheVariants as faults
use Rattle.lu_scene.specs.declared.words.CallName.{CallName}
use Rattle.lu_scene.specs.declared.words.CallName.TheVariants as names
use Rattle.lu_scene.specs.Words.{name_text}
use Rattle.lu_scene.specs.Fields.{◌>>=◌, number_in, number_at, mode_at, count_at, path_at, data_at}
use Rattle.lu_scene.specs.Calls.{one_path, two_paths, handle_at, one_handle, create_of, chmod_of, open_of, read_of, write_of, cut_of}
use Rattle.lu_scene.specs.Calls.{call_of}
use Rattle.std.specs.Fmt.{signed_decimal}
use Rattle.lu_trace.specs.Calls.{stripes_words}
use Rattle.lu_scene.specs.Grammar.{StripesFit, CallFits, IsCall}
use Rattle.lu_scene.proofs.Options.{bind_ok, guard_ok, ok_is}
use Rattle.lu_scene.proofs.Readings.{number_at-read, number_at-again, number_in-read, number_in-again, mode_at-read, mode_at-again}
use Rattle.lu_scene.proofs.Readings.{count_at-read, count_at-again, path_at-read, path_at-again, data_at-read, data_at-again}

-- a call that was read
abbrev pub WasCall : CallName → List (List ℕ) → Call → Type 0
WasCall name words call = CallFits call × IsCall (name_text name ∷ words) call

one_path-read : (words : List (List ℕ)) (path : List (List ℕ)) → one_path words ≡ Ok path → IsPath path × (words ≡ path_text path ∷ [])
one_path-read [] path e = absurd cc
one_path-read (word ∷ []) path e = let is = path_at-read word path e in (is.0, ap (λ (w : List ℕ). w ∷ []) is.1)
one_path-read (word ∷ second ∷ more) path e = absurd cc

-- a call of one path
path_call : (make : List (List ℕ) → Call) (words : List (List ℕ)) (call : Call) → (one_path words >>= λ path. Ok (make path)) ≡ Ok call
    → (path : List (List ℕ)) × IsPath path × (words ≡ path_text path ∷ []) × (make path ≡ call)
path_call make words call e =
    let b = bind_ok (one_path words) (λ path. Ok (make path)) call e in
    let is = one_path-read words b.0 b.1 in
    (b.0, is.0, is.1, ok_is (make b.0) call b.2)

two_paths-read : (words : List (List ℕ)) (paths : List (List ℕ) × List (List ℕ)) → two_paths words ≡ Ok paths
    → IsPath paths.0 × IsPath paths.1 × (words ≡ path_text paths.0 ∷ path_text paths.1 ∷ [])
two_paths-read [] paths e = absurd cc
two_paths-read (word ∷ []) paths e = absurd cc
two_paths-read (word ∷ second ∷ third ∷ more) paths e = absurd cc
two_paths-read (word ∷ second ∷ []) paths e =
    let a = bind_ok (path_at word) (λ old. path_at second >>= λ new. Ok (old, new)) paths e in
    let b = bind_ok (path_at second) (λ new. Ok (a.0, new)) paths a.2 in
    let one = path_at-read word a.0 a.1 in
    let two = path_at-read second b.0 b.1 in
    subst (λ (p : List (List ℕ) × List (List ℕ)). IsPath p.0 × IsPath p.1 × (word ∷ second ∷ [] ≡ path_text p.0 ∷ path_text p.1 ∷ []))
    (ok_is (a.0, b.0) paths b.2)
    (one.0, two.0, ap (λ (w : List ℕ). w ∷ second ∷ []) one.1 ∙ ap (λ (w : List ℕ). path_text a.0 ∷ w ∷ []) two.1)

-- a call of two paths
paths_call : (make : List (List ℕ) → List (List ℕ) → Call) (words : List (List ℕ)) (call : Call)
    → (two_paths words >>= λ paths. Ok (make paths.0 paths.1)) ≡ Ok call
    → (old : List (List ℕ)) × (new : List (List ℕ)) × IsPath old × IsPath new × (words ≡ path_text old ∷ path_text new ∷ [])
    × (make old new ≡ call)
paths_call make words call e =
    let b = bind_ok (two_paths words) (λ paths. Ok (make paths.0 paths.1)) call e in
    let is = two_paths-read words b.0 b.1 in
    (b.0.0, b.0.1, is.0, is.1, is.2, ok_is (make b.0.0 b.0.1) call b.2)

one_handle-read : (words : List (List ℕ)) (handle : ℕ) → one_handle words ≡ Ok handle → (handle ≤ 15) × (words ≡ decimal handle ∷ [])
one_handle-read [] handle e = absurd cc
one_handle-read (word ∷ []) handle e = let is = number_in-read 0 15 word handle e in (is.high, ap (λ (w : List ℕ). w ∷ []) is.text)
one_handle-read (word ∷ second ∷ more) handle e = absurd cc

-- a call of a handle
handle_call : (make : ℕ → Call) (words : List (List ℕ)) (call : Call) → (one_handle words >>= λ handle. Ok (make handle)) ≡ Ok call
    → (handle : ℕ) × (handle ≤ 15) × (words ≡ decimal handle ∷ []) × (make handle ≡ call)
handle_call make words call e =
    let b = bind_ok (one_handle words) (λ handle. Ok (make handle)) call e in
    let is = one_handle-read words b.0 b.1 in
    (b.0, is.0, is.1, ok_is (make b.0) call b.2)

create_of-read : (words : List (List ℕ)) (call : Call) → create_of words ≡ Ok call → WasCall names.Create words call
create_of-read [] call e = absurd cc
create_of-read (word ∷ second ∷ []) call e = absurd cc
create_of-read (word ∷ second ∷ third ∷ fourth ∷ more) call e = absurd cc
create_of-read (word ∷ []) call e =
    let a = bind_ok (path_at word) (λ path. Ok (calls.Create path None)) call e in
    let is = path_at-read word a.0 a.1 in
    subst (λ (k : Call). WasCall names.Create (word ∷ []) k) (ok_is (calls.Create a.0 None) call a.2)
    ((is.0, tt), ap (λ (w : List ℕ). name_text names.Create ∷ w ∷ []) is.1)
create_of-read (word ∷ second ∷ third ∷ []) call e =
    let a = bind_ok (path_at word) (λ path. number_in 0 (2 ^ 32) second >>= λ size. count_at third >>=
    λ count. Ok (calls.Create path (Some (size, count)))) call e in
    let b = bind_ok (number_in 0 (2 ^ 32) second) (λ size. count_at third >>= λ count. Ok (calls.Create a.0 (Some (size, count)))) call a.2
    in
    let d = bind_ok (count_at third) (λ count. Ok (calls.Create a.0 (Some (b.0, count)))) call b.2 in
    let one = path_at-read word a.0 a.1 in
    let two = number_in-read 0 (2 ^ 32) second b.0 b.1 in
    let three = count_at-read third d.0 d.1 in
    subst (λ (k : Call). WasCall names.Create (word ∷ second ∷ third ∷ []) k) (ok_is (calls.Create a.0 (Some (b.0, d.0))) call d.2) (
      (one.0, (two.high, three.1)),
      ap (λ (w : List ℕ). name_text names.Create ∷ w ∷ second ∷ third ∷ []) one.1
          ∙ ap (λ (w : List ℕ). name_text names.Create ∷ path_text a.0 ∷ w ∷ third ∷ []) two.text
          ∙ ap (λ (w : List ℕ). name_text names.Create ∷ path_text a.0 ∷ decimal b.0 ∷ w ∷ []) three.0,
    )

chmod_of-read : (words : List (List ℕ)) (call : Call) → chmod_of words ≡ Ok call → WasCall names.Chmod words call
chmod_of-read [] call e = absurd cc
chmod_of-read (word ∷ []) call e = absurd cc
chmod_of-read (word ∷ second ∷ third ∷ more) call e = absurd cc
chmod_of-read (word ∷ second ∷ []) call e =
    let a = bind_ok (path_at word) (λ path. mode_at second >>= λ mode. Ok (calls.Chmod path mode)) call e in
    let b = bind_ok (mode_at second) (λ mode. Ok (calls.Chmod a.0 mode)) call a.2 in
    let one = path_at-read word a.0 a.1 in
    let two = mode_at-read second b.0 b.1 in
    subst (λ (k : Call). WasCall names.Chmod (word ∷ second ∷ []) k) (ok_is (calls.Chmod a.0 b.0) call b.2)
    ((one.0, two.1), (second, two.0, ap (λ (w : List ℕ). name_text names.Chmod ∷ w ∷ second ∷ []) one.1))

open_of-read : (words : List (List ℕ)) (call : Call) → open_of words ≡ Ok call → WasCall names.Open words call
open_of-read [] call e = absurd cc
open_of-read (word ∷ []) call e = absurd cc
open_of-read (word ∷ second ∷ third ∷ more) call e = absurd cc
open_of-read (word ∷ second ∷ []) call e =
    let a = bind_ok (handle_at word) (λ handle. path_at second >>= λ path. Ok (calls.Open handle path)) call e in
    let b = bind_ok (path_at second) (λ path. Ok (calls.Open a.0 path)) call a.2 in
    let one = number_in-read 0 15 word a.0 a.1 in
    let two = path_at-read second b.0 b.1 in
    subst (λ (k : Call). WasCall names.Open (word ∷ second ∷ []) k) (ok_is (calls.Open a.0 b.0) call b.2) (
      (one.high, two.0),
      ap (λ (w : List ℕ). name_text names.Open ∷ w ∷ second ∷ []) one.text
          ∙ ap (λ (w : List ℕ). name_text names.Open ∷ decimal a.0 ∷ w ∷ []) two.1,
    )

read_of-read : (words : List (List ℕ)) (call : Call) → read_of words ≡ Ok call → WasCall names.Read words call
read_of-read [] call e = absurd cc
read_of-read (word ∷ []) call e = absurd cc
read_of-read (word ∷ second ∷ []) call e = absurd cc
read_of-read (word ∷ second ∷ third ∷ fourth ∷ more) call e = absurd cc
read_of-read (word ∷ second ∷ third ∷ []) call e =
    let a = bind_ok (handle_at word) (λ handle. number_at second >>= λ offset. number_in 1 65536 third >>=
    λ size. cond (nat_le (offset + size) (2 ^ 40)) (Ok (calls.Read handle offset size)) (Err faults.Number)) call e in
    let b = bind_ok (number_at second) (λ offset. number_in 1 65536 third >>=
    λ size. cond (nat_le (offset + size) (2 ^ 40)) (Ok (calls.Read a.0 offset size)) (Err faults.Number)) call a.2 in
    let d = bind_ok (number_in 1 65536 third) (λ size. cond (nat_le (b.0 + size) (2 ^ 40)) (Ok (calls.Read a.0 b.0 size))
    (Err faults.Number)) call b.2 in
    let g = guard_ok (nat_le (b.0 + d.0) (2 ^ 40)) faults.Number (calls.Read a.0 b.0 d.0) call d.2 in
    let one = number_in-read 0 15 word a.0 a.1 in
    let two = number_at-read second b.0 b.1 in
    let three = number_in-read 1 65536 third d.0 d.1 in
    subst (λ (k : Call). WasCall names.Read (word ∷ second ∷ third ∷ []) k) g.1 (
      (one.high, three.low, three.high, leb-true (b.0 + d.0) (2 ^ 40) g.0),
      ap (λ (w : List ℕ). name_text names.Read ∷ w ∷ second ∷ third ∷ []) one.text
          ∙ ap (λ (w : List ℕ). name_text names.Read ∷ decimal a.0 ∷ w ∷ third ∷ []) two.0
          ∙ ap (λ (w : List ℕ). name_text names.Read ∷ decimal a.0 ∷ decimal b.0 ∷ w ∷ []) three.text,
    )

write_of-read : (words : List (List ℕ)) (call : Call) → write_of words ≡ Ok call → WasCall names.Write words call
write_of-read [] call e = absurd cc
write_of-read (word ∷ []) call e = absurd cc
write_of-read (word ∷ second ∷ []) call e = absurd cc
write_of-read (word ∷ second ∷ third ∷ fourth ∷ more) call e = absurd cc
write_of-read (word ∷ second ∷ third ∷ []) call e =
    let a = bind_ok (handle_at word) (λ handle. number_at second >>= λ offset. data_at third >>=
    λ bytes. cond (nat_le (offset + length bytes) (2 ^ 40)) (Ok (calls.Write handle offset bytes)) (Err faults.Number)) call e in
    let b = bind_ok (number_at second) (λ offset. data_at third >>=
    λ bytes. cond (nat_le (offset + length bytes) (2 ^ 40)) (Ok (calls.Write a.0 offset bytes)) (Err faults.Number)) call a.2 in
    let d = bind_ok (data_at third) (λ bytes. cond (nat_le (b.0 + length bytes) (2 ^ 40)) (Ok (calls.Write a.0 b.0 bytes))
    (Err faults.Number)) call b.2 in
    let g = guard_ok (nat_le (b.0 + length d.0) (2 ^ 40)) faults.Number (calls.Write a.0 b.0 d.0) call d.2 in
    let one = number_in-read 0 15 word a.0 a.1 in
    let two = number_at-read second b.0 b.1 in
    let three = data_at-read third d.0 d.1 in
    subst (λ (k : Call). WasCall names.Write (word ∷ second ∷ third ∷ []) k) g.1 (
      (one.high, three.fit, three.some, three.few, leb-true (b.0 + length d.0) (2 ^ 40) g.0),
      (
        third,
        three.text,
        ap (λ (w : List ℕ). name_text names.Write ∷ w ∷ second ∷ third ∷ []) one.text
            ∙ ap (λ (w : List ℕ). name_text names.Write ∷ decimal a.0 ∷ w ∷ third ∷ []) two.0,
      ),
    )

cut_of-read : (words : List (List ℕ)) (call : Call) → cut_of words ≡ Ok call → WasCall names.Cut words call
cut_of-read [] call e = absurd cc
cut_of-read (word ∷ []) call e = absurd cc
cut_of-read (word ∷ second ∷ third ∷ more) call e = absurd cc
cut_of-read (word ∷ second ∷ []) call e =
    let a = bind_ok (handle_at word) (λ handle. number_in 0 (2 ^ 40) second >>= λ size. Ok (calls.Cut handle size)) call e in
    let b = bind_ok (number_in 0 (2 ^ 40) second) (λ size. Ok (calls.Cut a.0 size)) call a.2 in
    let one = number_in-read 0 15 word a.0 a.1 in
    let two = number_in-read 0 (2 ^ 40) second b.0 b.1 in
    subst (λ (k : Call). WasCall names.Cut (word ∷ second ∷ []) k) (ok_is (calls.Cut a.0 b.0) call b.2) (
      (one.high, two.high),
      ap (λ (w : List ℕ). name_text names.Cut ∷ w ∷ second ∷ []) one.text
          ∙ ap (λ (w : List ℕ). name_text names.Cut ∷ decimal a.0 ∷ w ∷ []) two.text,
    )

-- a call that is read has its form and keeps the limits
pub call_of-read : (name : CallName) (words : List (List ℕ)) (call : Call) → call_of name words ≡ Ok call → WasCall name words call
call_of-read names.Lookup words call e =
    let r = path_call (λ path. calls.Lookup path) words call e in
    subst (λ (k : Call). WasCall names.Lookup words k) r.3 (r.1, ap (λ (ws : List (List ℕ)). name_text names.Lookup ∷ ws) r.2)
call_of-read names.Stat words call e =
    let r = path_call (λ path. calls.Stat path) words call e in
    subst (λ (k : Call). WasCall names.Stat words k) r.3 (r.1, ap (λ (ws : List (List ℕ)). name_text names.Stat ∷ ws) r.2)
call_of-read names.List words call e =
    let r = path_call (λ path. calls.List path) words call e in
    subst (λ (k : Call). WasCall names.List words k) r.3 (r.1, ap (λ (ws : List (List ℕ)). name_text names.List ∷ ws) r.2)
call_of-read names.Layout words call e =
    let r = path_call (λ path. calls.Layout path) words call e in
    subst (λ (k : Call). WasCall names.Layout words k) r.3 (r.1, ap (λ (ws : List (List ℕ)). name_text names.Layout ∷ ws) r.2)
call_of-read names.Mkdir words call e =
    let r = path_call (λ path. calls.Mkdir path) words call e in
    subst (λ (k : Call). WasCall names.Mkdir words k) r.3 (r.1, ap (λ (ws : List (List ℕ)). name_text names.Mkdir ∷ ws) r.2)
call_of-read names.Create words call e = create_of-read words call e
call_of-read names.Link words call e =
    let r = paths_call (λ old new. calls.Link old new) words call e in
    subst (λ (k : Call). WasCall names.Link words k) r.5 ((r.2, r.3), ap (λ (ws : List (List ℕ)). name_text names.Link ∷ ws) r.4)
call_of-read names.Unlink words call e =
    let r = path_call (λ path. calls.Unlink path) words call e in
    subst (λ (k : Call). WasCall names.Unlink words k) r.3 (r.1, ap (λ (ws : List (List ℕ)). name_text names.Unlink ∷ ws) r.2)
call_of-read names.Rmdir words call e =
    let r = path_call (λ path. calls.Rmdir path) words call e in
    subst (λ (k : Call). WasCall names.Rmdir words k) r.3 (r.1, ap (λ (ws : List (List ℕ)). name_text names.Rmdir ∷ ws) r.2)
call_of-read names.Rename words call e =
    let r = paths_call (λ old new. calls.Rename old new) words call e in
    subst (λ (k : Call). WasCall names.Rename words k) r.5 ((r.2, r.3), ap (λ (ws : List (List ℕ)). name_text names.Rename ∷ ws) r.4)
call_of-read names.Chmod words call e = chmod_of-read words call e
call_of-read names.Open words call e = open_of-read words call e
call_of-read names.Close words call e =
    let r = handle_call (λ handle. calls.Close handle) words call e in
    subst (λ (k : Call). WasCall names.Close words k) r.3 (r.1, ap (λ (ws : List (List ℕ)). name_text names.Close ∷ ws) r.2)
call_of-read names.Read words call e = read_of-read words call e
call_of-read names.Write words call e = write_of-read words call e
call_of-read names.Cut words call e = cut_of-read words call e
call_of-read names.Flush words call e =
    let r = handle_call (λ handle. calls.Flush handle) words call e in
    subst (λ (k : Call). WasCall names.Flush words k) r.3 (r.1, ap (λ (ws : List (List ℕ)). name_text names.Flush ∷ ws) r.2)
call_of-read names.Glimpse words call e =
    let r = handle_call (λ handle. calls.Glimpse handle) words call e in
    subst (λ (k : Call). WasCall names.Glimpse words k) r.3 (r.1, ap (λ (ws : List (List ℕ)). name_text names.Glimpse ∷ ws) r.2)

-- a call of this form is read
abbrev pub Again : List (List ℕ) → Call → Type 0
Again words call = (name : CallName) × (more : List (List ℕ)) × (words ≡ name_text name ∷ more) × (call_of name more ≡ Ok call)

again_path : (make : List (List ℕ) → Call) (path : List (List ℕ)) → IsPath path → (one_path (path_text path ∷ []) >>= λ p. Ok (make p))
    ≡ Ok (make path)
again_path make path is = ap (λ (r : Result (List (List ℕ)) Fault). r >>= λ p. Ok (make p)) (path_at-again path is)

abbrev both : List (List ℕ) → List (List ℕ) → Result (List (List ℕ) × List (List ℕ)) Fault
both old new = Ok (old, new)

again_paths : (make : List (List ℕ) → List (List ℕ) → Call) (old new : List (List ℕ)) → IsPath old → IsPath new
    → (two_paths (path_text old ∷ path_text new ∷ []) >>= λ p. Ok (make p.0 p.1)) ≡ Ok (make old new)
again_paths make old new one two =
    ap (λ (r : Result (List (List ℕ)) Fault). (r >>= λ p. path_at (path_text new) >>= λ q. both p q) >>= λ p. Ok (make p.0 p.1))
    (path_at-again old one)
    ∙ ap (λ (r : Result (List (List ℕ)) Fault). (r >>= λ q. both old q) >>= λ p. Ok (make p.0 p.1)) (path_at-again new two)

handle_again : (handle : ℕ) → handle ≤ 15 → handle_at (decimal handle) ≡ Ok handle
handle_again handle low = number_in-again 0 15 handle (omega arith) low (lit< tt)

again_handle : (make : ℕ → Call) (handle : ℕ) → handle ≤ 15 → (one_handle (decimal handle ∷ []) >>= λ h. Ok (make h)) ≡ Ok (make handle)
again_handle make handle low = ap (λ (r : Result ℕ Fault). r >>= λ h. Ok (make h)) (handle_again handle low)

again_create : (path : List (List ℕ)) (stripes : Option (ℕ × ℤ)) → IsPath path → StripesFit stripes
    → create_of (path_text path ∷ stripes_words stripes) ≡ Ok (calls.Create path stripes)
again_create path None is fits = ap (λ (r : Result (List (List ℕ)) Fault). r >>= λ p. Ok (calls.Create p None)) (path_at-again path is)
again_create path (Some stripes) is fits =
    ap (λ (r : Result (List (List ℕ)) Fault). r >>= λ p. number_in 0 (2 ^ 32) (decimal stripes.0) >>=
    λ size. count_at (signed_decimal stripes.1) >>= λ count. Ok (calls.Create p (Some (size, count)))) (path_at-again path is)
    ∙ ap (λ (r : Result ℕ Fault). r >>= λ size. count_at (signed_decimal stripes.1) >>=
    λ count. Ok (calls.Create path (Some (size, count)))) (number_in-again 0 (2 ^ 32) stripes.0 (omega arith) fits.0 (lit< tt))
    ∙ ap (λ (r : Result ℤ Fault). r >>= λ count. Ok (calls.Create path (Some (stripes.0, count)))) (count_at-again stripes.1 fits.1)

offset_small : (offset size : ℕ) → offset + size ≤ 2 ^ 40 → offset < 2 ^ 64
offset_small offset size most = omega (arith, most)

-- a call that has its form and keeps the limits is read
pub call_of-again : (words : List (List ℕ)) (call : Call) → CallFits call → IsCall words call → Again words call
call_of-again words (calls.Lookup path) fits is = (names.Lookup, path_text path ∷ [], is, again_path (λ p. calls.Lookup p) path fits)
call_of-again words (calls.Stat path) fits is = (names.Stat, path_text path ∷ [], is, again_path (λ p. calls.Stat p) path fits)
call_of-again words (calls.List path) fits is = (names.List, path_text path ∷ [], is, again_path (λ p. calls.List p) path fits)
call_of-again words (calls.Layout path) fits is = (names.Layout, path_text path ∷ [], is, again_path (λ p. calls.Layout p) path fits)
call_of-again words (calls.Mkdir path) fits is = (names.Mkdir, path_text path ∷ [], is, again_path (λ p. calls.Mkdir p) path fits)
call_of-again words (calls.Create path stripes) fits is = (
  names.Create,
  path_text path ∷ stripes_words stripes,
  is,
  again_create path stripes fits.0 fits.1,
)
call_of-again words (calls.Link old new) fits is = (
  names.Link,
  path_text old ∷ path_text new ∷ [],
  is,
  again_paths (λ p q. calls.Link p q) old new fits.0 fits.1,
)
call_of-again words (calls.Unlink path) fits is = (names.Unlink, path_text path ∷ [], is, again_path (λ p. calls.Unlink p) path fits)
call_of-again words (calls.Rmdir path) fits is = (names.Rmdir, path_text path ∷ [], is, again_path (λ p. calls.Rmdir p) path fits)
call_of-again words (calls.Rename old new) fits is = (
  names.Rename,
  path_text old ∷ path_text new ∷ [],
  is,
  again_paths (λ p q. calls.Rename p q) old new fits.0 fits.1,
)
call_of-again words (calls.Chmod path mode) fits (text, is, form) = (
  names.Chmod,
  path_text path ∷ text ∷ [],
  form,
  ap (λ (r : Result (List (List ℕ)) Fault). r >>= λ p. mode_at text >>= λ m. Ok (calls.Chmod p m)) (path_at-again path fits.0)
      ∙ ap (λ (r : Result ℕ Fault). r >>= λ m. Ok (calls.Chmod path m)) (mode_at-again text mode is),
)
call_of-again words (calls.Open handle path) fits is = (
  names.Open,
  decimal handle ∷ path_text path ∷ [],
  is,
  ap (λ (r : Result ℕ Fault). r >>= λ h. path_at (path_text path) >>= λ p. Ok (calls.Open h p)) (handle_again handle fits.0)
      ∙ ap (λ (r : Result (List (List ℕ)) Fault). r >>= λ p. Ok (calls.Open handle p)) (path_at-again path fits.1),
)
call_of-again words (calls.Close handle) fits is = (names.Close, decimal handle ∷ [], is, again_handle (λ h. calls.Close h) handle fits)
call_of-again words (calls.Read handle offset size) fits is = (
  names.Read,
  decimal handle ∷ decimal offset ∷ decimal size ∷ [],
  is,
  ap (λ (r : Result ℕ Fault). r >>= λ h. number_at (decimal offset) >>= λ o. number_in 1 65536 (decimal size) >>=
      λ n. cond (nat_le (o + n) (2 ^ 40)) (Ok (calls.Read h o n)) (Err faults.Number)) (handle_again handle fits.0)
      ∙ ap (λ (r : Result ℕ Fault). r >>= λ o. number_in 1 65536 (decimal size) >>=
      λ n. cond (nat_le (o + n) (2 ^ 40)) (Ok (calls.Read handle o n)) (Err faults.Number))
      (number_at-again offset (offset_small offset size fits.3))
      ∙ ap (λ (r : Result ℕ Fault). r >>= λ n. cond (nat_le (offset + n) (2 ^ 40)) (Ok (calls.Read handle offset n)) (Err faults.Number))
      (number_in-again 1 65536 size fits.1 fits.2 (lit< tt))
      ∙ cond-true (nat_le (offset + size) (2 ^ 40)) (Ok (calls.Read handle offset size)) (Err faults.Number)
      (le-leb (offset + size) (2 ^ 40) fits.3),
)
call_of-again words (calls.Write handle offset bytes) fits (text, is, form) = (
  names.Write,
  decimal handle ∷ decimal offset ∷ text ∷ [],
  form,
  ap (λ (r : Result ℕ Fault). r >>= λ h. number_at (decimal offset) >>= λ o. data_at text >>=
      λ b. cond (nat_le (o + length b) (2 ^ 40)) (Ok (calls.Write h o b)) (Err faults.Number)) (handle_again handle fits.0)
      ∙ ap (λ (r : Result ℕ Fault). r >>= λ o. data_at text >>=
      λ b. cond (nat_le (o + length b) (2 ^ 40)) (Ok (calls.Write handle o b)) (Err faults.Number))
      (number_at-again offset (offset_small offset (length bytes) fits.4))
      ∙ ap (λ (r : Result (List ℕ) Fault). r >>= λ b. cond (nat_le (offset + length b) (2 ^ 40)) (Ok (calls.Write handle offset b))
      (Err faults.Number)) (data_at-again text bytes is fits.1 fits.3)
      ∙ cond-true (nat_le (offset + length bytes) (2 ^ 40)) (Ok (calls.Write handle offset bytes)) (Err faults.Number)
      (le-leb (offset + length bytes) (2 ^ 40) fits.4),
)
call_of-again words (calls.Cut handle size) fits is = (
  names.Cut,
  decimal handle ∷ decimal size ∷ [],
  is,
  ap (λ (r : Result ℕ Fault). r >>= λ h. number_in 0 (2 ^ 40) (decimal size) >>= λ n. Ok (calls.Cut h n)) (handle_again handle fits.0)
      ∙ ap (λ (r : Result ℕ Fault). r >>= λ n. Ok (calls.Cut handle n)) (number_in-again 0 (2 ^ 40) size (omega arith) fits.1 (lit< tt)),
)
call_of-again words (calls.Flush handle) fits is = (names.Flush, decimal handle ∷ [], is, again_handle (λ h. calls.Flush h) handle fits)
call_of-again words (calls.Glimpse handle) fits is = (
  names.Glimpse,
  decimal handle ∷ [],
  is,
  again_handle (λ h. calls.Glimpse h) handle fits,
)
