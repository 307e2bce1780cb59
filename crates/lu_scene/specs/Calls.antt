-- What the words after the name of a call say, or the first fault in them.
use Rattle.std.specs.Prelude.{ℕ, ◌+◌, ◌^◌, nat_le, if◌then◌else◌, List, [], ◌∷◌, length, Some, None, Result, Ok, Err}
use Rattle.lu_msg.specs.declared.calls.Call.{Call}
use Rattle.lu_msg.specs.declared.calls.Call.TheVariants as calls
use Rattle.lu_scene.specs.declared.faults.Fault.{Fault}
use Rattle.lu_scene.specs.declared.faults.Fault.TheVariants as faults
use Rattle.lu_scene.specs.declared.words.CallName.{CallName}
use Rattle.lu_scene.specs.declared.words.CallName.TheVariants as names
use Rattle.lu_scene.specs.Fields.{◌>>=◌, number_in, number_at, mode_at, count_at, path_at, data_at}

-- one path
abbrev pub one_path : List (List ℕ) → Result (List (List ℕ)) Fault
one_path (word ∷ []) = path_at word
one_path _ = Err faults.Fields

-- two paths
abbrev pub two_paths : List (List ℕ) → Result (List (List ℕ) × List (List ℕ)) Fault
two_paths (first ∷ second ∷ []) = do
  old ← path_at first
  new ← path_at second
  Ok (old, new)
two_paths _ = Err faults.Fields

-- the number of a handle
abbrev pub handle_at : List ℕ → Result ℕ Fault
handle_at word = number_in 0 15 word

-- a handle
abbrev pub one_handle : List (List ℕ) → Result ℕ Fault
one_handle (word ∷ []) = handle_at word
one_handle _ = Err faults.Fields

-- a path, a stripe size and a number of stripes
abbrev pub striped_of : List ℕ → List ℕ → List ℕ → Result Call Fault
striped_of word second third = do
  path ← path_at word
  size ← number_in 0 (2 ^ 32) second
  count ← count_at third
  Ok (calls.Create path (Some (size, count)))

abbrev pub create_of : List (List ℕ) → Result Call Fault
create_of (word ∷ []) = do
  path ← path_at word
  Ok (calls.Create path None)
create_of (word ∷ second ∷ third ∷ []) = striped_of word second third
create_of _ = Err faults.Fields

abbrev pub chmod_of : List (List ℕ) → Result Call Fault
chmod_of (word ∷ second ∷ []) = do
  path ← path_at word
  mode ← mode_at second
  Ok (calls.Chmod path mode)
chmod_of _ = Err faults.Fields

abbrev pub open_of : List (List ℕ) → Result Call Fault
open_of (word ∷ second ∷ []) = do
  handle ← handle_at word
  path ← path_at second
  Ok (calls.Open handle path)
open_of _ = Err faults.Fields

-- the end is at or below 2^40
abbrev pub read_of : List (List ℕ) → Result Call Fault
read_of (word ∷ second ∷ third ∷ []) = do
  handle ← handle_at word
  offset ← number_at second
  size ← number_in 1 65536 third
  if nat_le (offset + size) (2 ^ 40) then Ok (calls.Read handle offset size) else Err faults.Number
read_of _ = Err faults.Fields

-- the end is at or below 2^40
abbrev pub write_of : List (List ℕ) → Result Call Fault
write_of (word ∷ second ∷ third ∷ []) = do
  handle ← handle_at word
  offset ← number_at second
  bytes ← data_at third
  if nat_le (offset + length bytes) (2 ^ 40) then Ok (calls.Write handle offset bytes) else Err faults.Number
write_of _ = Err faults.Fields

abbrev pub cut_of : List (List ℕ) → Result Call Fault
cut_of (word ∷ second ∷ []) = do
  handle ← handle_at word
  size ← number_in 0 (2 ^ 40) second
  Ok (calls.Cut handle size)
cut_of _ = Err faults.Fields

-- the call
abbrev pub call_of : CallName → List (List ℕ) → Result Call Fault
call_of names.Lookup words = one_path words >>= λ path. Ok (calls.Lookup path)
call_of names.Stat words = one_path words >>= λ path. Ok (calls.Stat path)
call_of names.List words = one_path words >>= λ path. Ok (calls.List path)
call_of names.Layout words = one_path words >>= λ path. Ok (calls.Layout path)
call_of names.Mkdir words = one_path words >>= λ path. Ok (calls.Mkdir path)
call_of names.Create words = create_of words
call_of names.Link words = two_paths words >>= λ paths. Ok (calls.Link paths.0 paths.1)
call_of names.Unlink words = one_path words >>= λ path. Ok (calls.Unlink path)
call_of names.Rmdir words = one_path words >>= λ path. Ok (calls.Rmdir path)
call_of names.Rename words = two_paths words >>= λ paths. Ok (calls.Rename paths.0 paths.1)
call_of names.Chmod words = chmod_of words
call_of names.Open words = open_of words
call_of names.Close words = one_handle words >>= λ handle. Ok (calls.Close handle)
call_of names.Read words = read_of words
call_of names.Write words = write_of words
call_of names.Cut words = cut_of words
call_of names.Flush words = one_handle words >>= λ handle. Ok (calls.Flush handle)
call_of names.Glimpse words = one_handle words >>= λ handle. Ok (calls.Glimpse handle)
