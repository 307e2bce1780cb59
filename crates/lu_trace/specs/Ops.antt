-- The text of an operation.
use Rattle.std.specs.Prelude.{ℕ, List, [], ◌∷◌, codes, decimal}
use Rattle.std.specs.Fmt.{signed_decimal}
use Rattle.lu_base.specs.declared.ids.Cookie.{Cookie}
use Rattle.lu_base.specs.declared.locks.Resource.{Resource}
use Rattle.lu_base.specs.Texts.{pair_text, bytes_text, path_text}
use Rattle.lu_msg.specs.declared.operations.Op.{Op}
use Rattle.lu_msg.specs.declared.operations.Op.TheVariants.{Lookup, Stat, List as ListNames, Layout, Mkdir, Create, Link, Unlink, Rmdir}
use Rattle.lu_msg.specs.declared.operations.Op.TheVariants.{Rename, Chmod, Open, Close, Enqueue, Get, Put, Cut, Size}
use Rattle.lu_trace.specs.Words.{words}
use Rattle.lu_trace.specs.Values.{object_text, extent_text}
use Rattle.lu_base.specs.Values.{octal_text, mode_text}

-- a word, an object, the lock under which it is read or changed, and a number
abbrev pub under_lock_text : List ℕ → Resource → Cookie → ℕ → List ℕ
under_lock_text word resource cookie number = words (word ∷ object_text resource ∷ pair_text cookie.0 ∷ decimal number ∷ [])

abbrev pub op_text : Op → List ℕ
op_text (Lookup path) = words (codes "lookup" ∷ path_text path ∷ [])
op_text (Stat path) = words (codes "stat" ∷ path_text path ∷ [])
op_text (ListNames path) = words (codes "list" ∷ path_text path ∷ [])
op_text (Layout path) = words (codes "layout" ∷ path_text path ∷ [])
op_text (Mkdir path) = words (codes "mkdir" ∷ path_text path ∷ [])
op_text (Create path size count) = words (codes "create" ∷ path_text path ∷ decimal size ∷ signed_decimal count ∷ [])
op_text (Link old new) = words (codes "link" ∷ path_text old ∷ path_text new ∷ [])
op_text (Unlink path) = words (codes "unlink" ∷ path_text path ∷ [])
op_text (Rmdir path) = words (codes "rmdir" ∷ path_text path ∷ [])
op_text (Rename old new) = words (codes "rename" ∷ path_text old ∷ path_text new ∷ [])
op_text (Chmod path mode) = words (codes "chmod" ∷ path_text path ∷ octal_text mode ∷ [])
op_text (Open path) = words (codes "open" ∷ path_text path ∷ [])
op_text (Close txn fid) = words (codes "close" ∷ pair_text txn.0 ∷ pair_text fid.0 ∷ [])
op_text (Enqueue resource mode extent) =
    words (codes "enqueue" ∷ object_text resource ∷ mode_text mode ∷ extent_text extent ∷ [])
op_text (Get resource cookie page) = under_lock_text (codes "get") resource cookie page
op_text (Put resource cookie offset bytes) =
    words (codes "put" ∷ object_text resource ∷ pair_text cookie.0 ∷ decimal offset ∷ bytes_text bytes ∷ [])
op_text (Cut resource cookie size) = under_lock_text (codes "cut") resource cookie size
op_text (Size resource) = words (codes "size" ∷ object_text resource ∷ [])
