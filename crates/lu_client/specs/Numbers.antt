-- How many requests a client has sent: each target's have the numbers 1, 2, and so on.
use Rattle.std.specs.Prelude.{ℕ, ◌+◌, ◌*◌, ◌<◌, ◌≤◌, ◌^◌, List}
use Rattle.lu_msg.specs.Limits.{tag_count}
use Rattle.lu_spec_client.specs.Imports.{Import, import_of}

-- Each target has been asked fewer than 2^63 requests: in no step will a request find no number.
abbrev pub HasNumbers : List Import → Type 0
HasNumbers imports = (t : ℕ) → (import_of t imports).last < 2 ^ 63

-- Each target was asked at most 8 requests more.
abbrev pub AreCounted : List Import → List Import → Type 0
AreCounted old new = (t : ℕ) → (import_of t new).last ≤ (import_of t old).last + tag_count

-- In so many turns each target was asked at most 8 requests in each.
abbrev pub HasAsked : ℕ → List Import → Type 0
HasAsked turns imports = (t : ℕ) → (import_of t imports).last ≤ tag_count * turns
