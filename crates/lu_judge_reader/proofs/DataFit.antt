-- Bytes that are read are bytes.
use Rattle.std.proofs.Common.{◌≡◌, ℕ, zero, suc, ◌^◌, ◌<◌, Bool, true, false, cond, List, [], ◌∷◌, replicate, Option, Some, None, Result}
use Rattle.std.proofs.Common.{Ok, Err, subst, take, drop}
use Rattle.std.specs.Prelude.{All, IfOk, nat_lt}
use Rattle.std.proofs.lemmas.List.Elements.{All-cons, All-nil, All-head}
use Rattle.hex.specs.Hex.{IsBytes}
use Rattle.lu_trace.specs.WellFormed.{Fits}
use Rattle.lu_scene.specs.Fields.{number_of, data_of}
use Rattle.lu_scene.proofs.DataWords.{data_of-bytes}
use Rattle.lu_judge_reader.specs.declared.faults.LineFault.{LineFault}
use Rattle.lu_judge_reader.specs.Reading.{◌>>?◌, Gives}
use Rattle.lu_judge_reader.specs.Values.{repeated, repeated_of}
use Rattle.lu_judge_reader.proofs.Alls.{some_is, then_some}

pub bytes_fit : (bytes : List ℕ) → IsBytes bytes → All (Fits 8) bytes
bytes_fit [] fit = All-nil (Fits 8)
bytes_fit (b ∷ bytes) fit = All-cons (Fits 8) b bytes (fit 0) (bytes_fit bytes (λ i. fit (suc i)))

replicated : (count b : ℕ) → b < 2 ^ 8 → All (Fits 8) (replicate count b)
replicated zero b small = All-nil (Fits 8)
replicated (suc count) b small = All-cons (Fits 8) b (replicate count b) small (replicated count b small)

repeated_fit : (count : ℕ) (bytes read : List ℕ) → All (Fits 8) bytes → repeated count bytes ≡ Some read → All (Fits 8) read
repeated_fit count [] read fit e = absurd cc
repeated_fit count (b ∷ bytes) read fit e = subst (All (Fits 8)) (some_is (replicate count b) read e)
    (replicated count b (All-head (Fits 8) b bytes fit))

pub data_fit : (word bytes : List ℕ) → data_of word ≡ Some bytes → All (Fits 8) bytes
data_fit word bytes e = bytes_fit bytes (data_of-bytes word bytes e)

cond_is : {A : Type 0} (b : Bool) (o : Option A) (x : A) → cond b o None ≡ Some x → o ≡ Some x
cond_is true o x e = e
cond_is false o x e = absurd cc

pub repeated_of-fit : (word bytes : List ℕ) → repeated_of word ≡ Some bytes → All (Fits 8) bytes
repeated_of-fit word bytes e =
    let a = then_some (data_of (take 2 word)) (λ held. number_of (drop 3 word) >>? λ count. cond (nat_lt count (2 ^ 63))
    (repeated count held) None) bytes e in
    let b = then_some (number_of (drop 3 word)) (λ count. cond (nat_lt count (2 ^ 63)) (repeated count a.0) None) bytes a.2 in
    repeated_fit b.0 a.0 bytes (data_fit (take 2 word) a.0 a.1) (cond_is (nat_lt b.0 (2 ^ 63)) (repeated b.0 a.0) bytes b.2)

-- what a reader answers is so
pub given_fit : {A : Type 0} (P : A → Type 0) (r : Result A LineFault) (o : Option A) → Gives r o → ((x : A) → o ≡ Some x → P x) → IfOk r P
given_fit P (Ok x) o read fit = fit x read
given_fit P (Err fault) o read fit = tt
