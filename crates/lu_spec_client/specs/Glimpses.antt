-- A glimpse: how long each stripe's object is, without the holder's lock (Wang et al., Understanding Lustre Filesystem
-- Internals: glimpse requests). It pins nothing, and is told all sizes together.
use Rattle.std.specs.Prelude.{ℕ, List, [], ◌∷◌, ◌++◌, Option, Some, None}
use Rattle.lu_base.specs.declared.ids.At.{At}
use Rattle.lu_base.specs.declared.locks.Lock.{Lock}
use Rattle.lu_msg.specs.declared.answers.Answer.{Answer}
use Rattle.lu_msg.specs.declared.answers.Answer.TheVariants as answer
use Rattle.lu_msg.specs.declared.operations.Op.TheVariants as op
use Rattle.lu_held.specs.declared.locks.HeldLock.{HeldLock}
use Rattle.lu_held.specs.declared.locks.Use.{Use}
use Rattle.lu_held.specs.Held.{serving}
use Rattle.lu_spec_entries.specs.Carried.{Glimpses, Work, Sizes, Running}
use Rattle.lu_spec_entries.specs.Words.{Entry, Queues, Stands}
use Rattle.lu_spec_client.specs.States.{Store}
use Rattle.lu_spec_client.specs.Looks.{size_under}
use Rattle.lu_spec_client.specs.Advances.{at_stage, queued_for, tells, asks_lock}

-- the locks that are left, with the sizes so far
abbrev pub sized : List Use → List ℕ → Work → Work
sized left sizes w = record w { kind = Glimpses sizes; left = left }

-- the target of the first of them is asked for its object's size
abbrev pub asks_size : ℕ → Use → List Use → List ℕ → Running → Work → List Entry
asks_size slot wanted left sizes r w =
    Stands slot (at_stage r (Sizes (sized (wanted ∷ left) sizes w))) ∷ Queues wanted.target.0 (queued_for slot (op.Size wanted.resource))
    ∷ []

abbrev pub glimpses_on : (HeldLock → List Entry) → List Entry → Option HeldLock → List Entry
glimpses_on more asks None = asks
glimpses_on more asks (Some h) = more h

-- a held lock on the whole object that isn't called back answers at once
abbrev pub glimpses : At → ℕ → List Use → List ℕ → Running → Work → Store → List Entry
glimpses at slot [] sizes r w s = tells slot r at (answer.Sizes sizes) None
glimpses at slot (wanted ∷ left) sizes r w s =
    glimpses_on
    (λ h. glimpses at slot left (sizes ++ size_under h.lock s ∷ []) r w s)
    (asks_size slot wanted left sizes r w)
    (serving wanted s.held)

-- the target leaves it to the lock: that is asked for, or a held one used
abbrev pub glimpse_asks : At → ℕ → List Use → List ℕ → Running → Work → Store → List Entry
glimpse_asks at slot [] sizes r w s = []
glimpse_asks at slot (wanted ∷ left) sizes r w s =
    glimpses_on
    (λ h. glimpses at slot left (sizes ++ size_under h.lock s ∷ []) r w s)
    (asks_lock slot wanted r (sized (wanted ∷ left) sizes w))
    (serving wanted s.held)

-- the lock came: the size is taken under it, also where it was called back meanwhile
abbrev pub glimpse_comes : At → ℕ → Lock → List Use → List ℕ → Running → Work → Store → List Entry
glimpse_comes at slot l [] sizes r w s = []
glimpse_comes at slot l (wanted ∷ left) sizes r w s = glimpses at slot left (sizes ++ size_under l s ∷ []) r w s

-- the target answered
abbrev pub glimpse_hears : At → ℕ → List Use → List ℕ → Answer → Running → Work → Store → List Entry
glimpse_hears at slot (wanted ∷ left) sizes (answer.Size size) r w s = glimpses at slot left (sizes ++ size ∷ []) r w s
glimpse_hears at slot left sizes answer.Lock r w s = glimpse_asks at slot left sizes r w s
glimpse_hears at slot left sizes a r w s = []
