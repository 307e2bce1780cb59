-- What else a target asks of the holders of its locks: glimpses, and locks that are in the way of a change of names.
use Rattle.std.specs.Prelude.{◌≡◌, if◌then◌else◌, Bool, true, false, not, List, [], ◌∷◌, ◌++◌, map, filter, All}
use Rattle.std.specs.List.{list_any}
use Rattle.lu_base.specs.declared.ids.Cookie.{Cookie}
use Rattle.lu_base.specs.declared.ids.Who.{Who}
use Rattle.lu_base.specs.declared.ids.Xid.{Xid}
use Rattle.lu_base.specs.declared.locks.Lock.{Lock}
use Rattle.lu_base.specs.declared.locks.Mode.TheVariants.{EX}
use Rattle.lu_base.specs.declared.locks.Resource.{Resource}
use Rattle.lu_callback.specs.declared.callbacks.Kind.{Kind}
use Rattle.lu_callback.specs.declared.callbacks.Kind.TheVariants as kind
use Rattle.lu_lock.specs.Modes.{compatible}
use Rattle.lu_msg.specs.declared.messages.Request.{Request}
use Rattle.lu_spec_target.specs.Glimpses.{glimpses_of, row_asks}
use Rattle.lu_spec_target.specs.Replies.{is_called, blocks}
use Rattle.lu_spec_target.specs.States.{Target, turn}
use Rattle.lu_target_refines.specs.Callbacks.{glimpse_kind, is_glimpse, is_of_lock}
use Rattle.lu_target_locks.specs.Servers.{ServerState, Shows, blocks_told}

-- what is outstanding of a lock: its block first, and then the glimpses in the order in which they were made
abbrev pub kinds_asked : Target → Lock → List Kind
kinds_asked v l = (if is_called l.cookie v.called then kind.Block ∷ [] else []) ++ map {B = Kind} glimpse_kind (glimpses_of l v.glimpses)

-- The holder of a lock is asked for its object's size, for a request of this life and number: it is new where that wasn't
-- asked of that lock yet, and then it is outstanding.
pub record IsGlimpsed (cookie : Cookie) (who : Who) (xid : Xid) (new : Bool) (before after : ServerState) : Type 0 where
  pub is_new : (v : Target) → Shows before v → new ≡ not (list_any (is_glimpse cookie who xid) v.glimpses)
  pub shows : (v : Target) (r : Request) (resource : Resource) (l : Lock) → Shows before v → l.cookie ≡ cookie → r.who ≡ who → r.xid ≡ xid
      → list_any (is_of_lock cookie) v.granted ≡ true → new ≡ true → Shows after (turn v (row_asks v r resource l))

-- no granted lock bears another one of mode EX beside it
abbrev pub AreShared : List Lock → Type 0
AreShared locks = All (λ l. compatible EX l.ask.mode ≡ false) locks

abbrev pub cookies_of : List Lock → List Cookie
cookies_of locks = map {A = Lock} {B = Cookie} (λ l. l.cookie) locks

-- The granted locks of these cookies, which are those that pass a test, are called back, and these weren't before.
pub record AreCalled (cookies : List Cookie) (locks : List Lock) (old new : ServerState) : Type 0 where
  pub told : (v : Target) (test : Lock → Bool) → Shows old v → cookies ≡ cookies_of (filter test v.granted)
      → blocks v (filter test v.granted) ≡ blocks_told v locks
  pub shows : (v : Target) (test : Lock → Bool) → Shows old v → cookies ≡ cookies_of (filter test v.granted)
      → Shows new (turn v (blocks v (filter test v.granted)))
