-- Whether a target is up, which boot it is in and which it serves in, and what it counts (Lustre Operations Manual,
-- recovery: boots and transaction numbers; the form of the numbers is this project's profile). Each field has a test
-- which entries it reads and a step, both with a catch-all last.
use Rattle.std.specs.Prelude.{ℕ, ◌+◌, ◌*◌, max, Bool, true, false, List, [], ◌∷◌}
use Rattle.lu_base.specs.declared.locks.Lock.{Lock}
use Rattle.lu_spec_entries.specs.Words.{Entry, Tick, Act, Txn, Grant, Wait, Crash, Boot, Close, Fail}

-- ---- up, and failed: a target whose disk failed makes no further turn

abbrev pub reads_up : Entry → Bool
reads_up Crash = true
reads_up (Boot boot disk) = true
reads_up _ = false

abbrev pub up_after : Bool → Entry → Bool
up_after up Crash = false
up_after up (Boot boot disk) = true
up_after up _ = up

abbrev pub reads_failed : Entry → Bool
reads_failed Fail = true
reads_failed _ = false

abbrev pub failed_after : Bool → Entry → Bool
failed_after failed Fail = true
failed_after failed _ = failed

-- ---- the boot, and the boot of the last close: while they differ the target recovers, while they are equal it serves

abbrev pub reads_boot : Entry → Bool
reads_boot (Boot boot disk) = true
reads_boot _ = false

abbrev pub boot_after : ℕ → Entry → ℕ
boot_after n (Boot boot disk) = boot
boot_after n _ = n

abbrev pub reads_closed : Entry → Bool
reads_closed (Close o) = true
reads_closed _ = false

abbrev pub closed_after : ℕ → Entry → ℕ
closed_after n (Close o) = o.boot
closed_after n _ = n

-- ---- ticks of this boot

abbrev pub reads_ticks : Entry → Bool
reads_ticks Tick = true
reads_ticks (Boot boot disk) = true
reads_ticks _ = false

abbrev pub ticks_after : ℕ → Entry → ℕ
ticks_after n Tick = n + 1
ticks_after n (Boot boot disk) = 0
ticks_after n _ = n

-- ---- the greatest transaction number and the greatest cookie of this boot: the boot in the high 32 bits, and a count
-- from 1 in it, so the next one is one more

abbrev pub first_of : ℕ → ℕ
first_of boot = boot * 4294967296

abbrev pub reads_number : Entry → Bool
reads_number (Txn d) = true
reads_number (Boot boot disk) = true
reads_number _ = false

abbrev pub number_after : ℕ → Entry → ℕ
number_after n (Txn d) = d.reply.txn.0
number_after n (Boot boot disk) = first_of boot
number_after n _ = n

abbrev pub greatest_cookie : ℕ → List Lock → ℕ
greatest_cookie n [] = n
greatest_cookie n (l ∷ locks) = greatest_cookie (max n l.cookie.0) locks

abbrev pub reads_cookie : Entry → Bool
reads_cookie (Act d) = true
reads_cookie (Grant lock asked) = true
reads_cookie (Wait lock asked) = true
reads_cookie (Boot boot disk) = true
reads_cookie _ = false

-- an act has the locks that it grants
abbrev pub cookie_after : ℕ → Entry → ℕ
cookie_after n (Act d) = greatest_cookie n d.reply.locks
cookie_after n (Grant lock asked) = max n lock.cookie.0
cookie_after n (Wait lock asked) = max n lock.cookie.0
cookie_after n (Boot boot disk) = first_of boot
cookie_after n _ = n
