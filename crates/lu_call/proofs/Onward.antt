-- A call on bytes in its stage: what its rows say there is what its parts do.
use Rattle.std.proofs.Common.{◌≡◌, ℕ, true, false, List, [], ◌∷◌, ◌++◌, drop, Option, Some, None, refl, sym, ap, subst, ◌∙◌}
use Rattle.std.specs.Prelude.{◌≢◌}
use Rattle.lu_base.specs.declared.ids.At.{At}
use Rattle.lu_base.specs.declared.locks.Lock.{Lock}
use Rattle.lu_msg.specs.declared.answers.Answer.{Answer}
use Rattle.lu_msg.specs.declared.answers.Answer.TheVariants as answer
use Rattle.lu_msg.specs.declared.messages.Reply.{Reply as ReplyTo}
use Rattle.lu_held.specs.declared.locks.Use.{Use}
use Rattle.lu_spec_entries.specs.Carried.{HandleFile, Kind, Glimpses, Work, Asking, Answered, Stage, Plain, Looks, Came, Sizes, Flushing}
use Rattle.lu_spec_entries.specs.Carried.{Running}
use Rattle.lu_spec_client.specs.Advances.{at_stage, looks, comes, acts}
use Rattle.lu_spec_client.specs.Glimpses.{glimpse_asks, glimpse_comes, glimpse_hears}
use Rattle.lu_spec_client.specs.Slots.{goes_at}
use Rattle.lu_spec_client.specs.Starts.{looks_at, comes_at, sizes_heard}
use Rattle.lu_spec_client.specs.States.{Store}
use Rattle.lu_spec_client.specs.Stripes.{stripes}
use Rattle.lu_spec_client.specs.WriteBack.{flushing}
use Rattle.lu_client_store.specs.Stored.{StoreState}
use Rattle.lu_call.specs.declared.nexts.Next.{Next}
use Rattle.lu_call.specs.declared.nexts.Next.TheVariants as next
use Rattle.lu_call.specs.Going.{GoesBy, GoesFrom}
use Rattle.lu_call.specs.Ranges.{is_glimpse}
use Rattle.lu_call.specs.Starting.{alone, sizes_of, glimpsing}
use Rattle.lu_call.proofs.Going.{goes_as, goes_from, goes_nowhere}
use Rattle.lu_call.proofs.Unstaged.{looks_unstaged, comes_unstaged, acts_unstaged, for_glimpse, glimpses_unstaged, glimpse_asks_unstaged}
use Rattle.lu_call.proofs.Unstaged.{glimpse_comes_unstaged, flush_unstaged}
use Rattle.lu_call.proofs.Beginning.{from_as, looks_for_locks}

-- ---- a glimpse, and what isn't one

comes_for_locks : (at : At) (slot : ℕ) (kind : Kind) (r : Running) (w : Work) (s : Store) (l : Lock) → is_glimpse kind ≡ false
    → comes_at at slot kind r w s l ≡ comes slot (acts at slot kind) l w.left r w s
comes_for_locks at slot (Glimpses sizes) r w s l glimpse = absurd (cc)
comes_for_locks at slot kind r w s l glimpse = refl

glimpse_looks : (at : At) (slot : ℕ) (kind : Kind) (sizes : List ℕ) (r : Running) (w : Work) (s : Store) → is_glimpse kind ≡ true → sizes
    ≡ sizes_of kind → looks_at at slot kind r w s ≡ glimpse_asks at slot w.left sizes r w s
glimpse_looks at slot (Glimpses sizes) given r w s glimpse same = ap (λ (it : List ℕ). glimpse_asks at slot w.left it r w s) (sym same)
glimpse_looks at slot kind given r w s glimpse same = absurd (cc)

glimpse_comes_at : (at : At) (slot : ℕ) (kind : Kind) (sizes : List ℕ) (r : Running) (w : Work) (s : Store) (l : Lock) → is_glimpse kind
    ≡ true → sizes ≡ sizes_of kind → comes_at at slot kind r w s l ≡ glimpse_comes at slot l w.left sizes r w s
glimpse_comes_at at slot (Glimpses sizes) given r w s l glimpse same =
    ap (λ (it : List ℕ). glimpse_comes at slot l w.left it r w s) (sym same)
glimpse_comes_at at slot kind given r w s l glimpse same = absurd (cc)

pub acting_looks : {new : Running} {before after : StoreState} {out : Next} (at : At) (slot : ℕ) (r : Running) (w : Work)
    → is_glimpse w.kind ≡ false → GoesBy (looks slot (acts at slot w.kind) w.left r w before.store) slot new before after out
    → GoesBy (looks_at at slot w.kind r w before.store) slot new before after out
acting_looks {before = before} at slot r w glimpse goes = goes_as (looks_for_locks at slot w.kind r w before.store glimpse) goes

pub acting_comes : {new : Running} {before after : StoreState} {out : Next} (at : At) (slot : ℕ) (r : Running) (w : Work) (l : Lock)
    → is_glimpse w.kind ≡ false → GoesBy (comes slot (acts at slot w.kind) l w.left r w before.store) slot new before after out
    → GoesBy (comes_at at slot w.kind r w before.store l) slot new before after out
acting_comes {before = before} at slot r w l glimpse goes = goes_as (comes_for_locks at slot w.kind r w before.store l glimpse) goes

pub glimpsing_looks : {new : Running} {before after : StoreState} {out : Next} (at : At) (slot : ℕ) (r : Running) (w v : Work)
    (sizes : List ℕ) → is_glimpse w.kind ≡ true → sizes ≡ sizes_of w.kind → v ≡ glimpsing [] w
    → GoesBy (glimpse_asks at slot v.left sizes r v before.store) slot new before after out
    → GoesBy (looks_at at slot w.kind r w before.store) slot new before after out
glimpsing_looks {new = new} {before = before} {after = after} {out = out} at slot r w v sizes glimpse same taken goes =
    goes_as (glimpse_looks at slot w.kind sizes r w before.store glimpse same
    ∙ sym (glimpse_asks_unstaged at slot w.left sizes r.stage r (Glimpses []) w.left w before.store))
    (subst (λ (it : Work). GoesBy (glimpse_asks at slot it.left sizes r it before.store) slot new before after out) taken goes)

pub glimpsing_comes : {new : Running} {before after : StoreState} {out : Next} (at : At) (slot : ℕ) (r : Running) (w v : Work) (l : Lock)
    (sizes : List ℕ) → is_glimpse w.kind ≡ true → sizes ≡ sizes_of w.kind → v ≡ glimpsing [] w
    → GoesBy (glimpse_comes at slot l v.left sizes r v before.store) slot new before after out
    → GoesBy (comes_at at slot w.kind r w before.store l) slot new before after out
glimpsing_comes {new = new} {before = before} {after = after} {out = out} at slot r w v l sizes glimpse same taken goes =
    goes_as (glimpse_comes_at at slot w.kind sizes r w before.store l glimpse same
    ∙ sym (glimpse_comes_unstaged at slot l w.left sizes r.stage r (Glimpses []) w.left w before.store))
    (subst (λ (it : Work). GoesBy (glimpse_comes at slot l it.left sizes r it before.store) slot new before after out) taken goes)

-- ---- a glimpse hears

hears_unstaged : (at : At) (slot : ℕ) (left : List Use) (sizes : List ℕ) (a : Answer) (stage : Stage) (r : Running) (kind : Kind)
    (others : List Use) (w : Work) (s : Store) → glimpse_hears at slot left sizes a (at_stage r stage) (for_glimpse kind others w) s
    ≡ glimpse_hears at slot left sizes a r w s
hears_unstaged at slot (wanted ∷ left) sizes (answer.Size size) stage r kind others w s =
    glimpses_unstaged at slot left (sizes ++ size ∷ []) stage r kind others w s
hears_unstaged at slot [] sizes (answer.Size size) stage r kind others w s = refl
hears_unstaged at slot [] sizes answer.Lock stage r kind others w s = glimpse_asks_unstaged at slot [] sizes stage r kind others w s
hears_unstaged at slot (wanted ∷ left) sizes answer.Lock stage r kind others w s =
    glimpse_asks_unstaged at slot (wanted ∷ left) sizes stage r kind others w s
hears_unstaged at slot [] sizes a stage r kind others w s = refl
hears_unstaged at slot (wanted ∷ left) sizes a stage r kind others w s = refl

-- it is told a size
pub sized_on : {new : Running} {before after : StoreState} {out : Next} (at : At) (slot : ℕ) (r : Running) (w v : Work) (size : ℕ)
    (sizes : List ℕ) → sizes ≡ sizes_of w.kind → v ≡ glimpsing [] w
    → GoesBy (glimpse_hears at slot v.left sizes (answer.Size size) r v before.store) slot new before after out
    → GoesBy (glimpse_hears at slot w.left (sizes_of w.kind) (answer.Size size) r w before.store) slot new before after out
sized_on {new = new} {before = before} {after = after} {out = out} at slot r w v size sizes same taken goes =
    goes_as (ap (λ (it : List ℕ). glimpse_hears at slot w.left it (answer.Size size) r w before.store) (sym same)
    ∙ sym (hears_unstaged at slot w.left sizes (answer.Size size) r.stage r (Glimpses []) w.left w before.store))
    (subst (λ (it : Work). GoesBy (glimpse_hears at slot it.left sizes (answer.Size size) r it before.store) slot new before after out)
    taken goes)

hears_it : (at : At) (slot : ℕ) (asking : Asking) (kind : Kind) (t : ℕ) (reply : ReplyTo) (r : Running) (w : Work) (s : Store) → asking
    ≡ Answered t reply → is_glimpse kind ≡ true → sizes_heard at slot asking kind r w s
    ≡ glimpse_hears at slot w.left (sizes_of kind) reply.answer r w s
hears_it at slot asking (Glimpses sizes) t reply r w s heard glimpse =
    ap (λ (it : Asking). sizes_heard at slot it (Glimpses sizes) r w s) heard
hears_it at slot asking kind t reply r w s heard glimpse = absurd (cc)

-- with a size
pub hears_size : (at : At) (slot : ℕ) (asking : Asking) (t : ℕ) (reply : ReplyTo) (size : ℕ) (r : Running) (w : Work) (s : Store) → asking
    ≡ Answered t reply → reply.answer ≡ answer.Size size → is_glimpse w.kind ≡ true → sizes_heard at slot asking w.kind r w s
    ≡ glimpse_hears at slot w.left (sizes_of w.kind) (answer.Size size) r w s
hears_size at slot asking t reply size r w s heard is glimpse =
    hears_it at slot asking w.kind t reply r w s heard glimpse ∙ ap (λ (a : Answer). glimpse_hears at slot w.left (sizes_of w.kind) a r w s)
    is

lock_hears : (at : At) (slot : ℕ) (left : List Use) (sizes : List ℕ) (r : Running) (w : Work) (s : Store)
    → glimpse_hears at slot left sizes answer.Lock r w s ≡ glimpse_asks at slot left sizes r w s
lock_hears at slot [] sizes r w s = refl
lock_hears at slot (wanted ∷ left) sizes r w s = refl

-- with nothing but the lock
pub hears_lock : (at : At) (slot : ℕ) (asking : Asking) (t : ℕ) (reply : ReplyTo) (r : Running) (w : Work) (s : Store) → asking
    ≡ Answered t reply → reply.answer ≡ answer.Lock → is_glimpse w.kind ≡ true → sizes_heard at slot asking w.kind r w s
    ≡ looks_at at slot w.kind r w s
hears_lock at slot asking t reply r w s heard is glimpse =
    hears_it at slot asking w.kind t reply r w s heard glimpse
    ∙ ap (λ (a : Answer). glimpse_hears at slot w.left (sizes_of w.kind) a r w s) is
    ∙ lock_hears at slot w.left (sizes_of w.kind) r w s
    ∙ sym (glimpse_looks at slot w.kind (sizes_of w.kind) r w s glimpse refl)

nothing_heard : (at : At) (slot : ℕ) (left : List Use) (sizes : List ℕ) (a : Answer) (r : Running) (w : Work) (s : Store)
    → ((size : ℕ) → a ≢ answer.Size size) → a ≢ answer.Lock → glimpse_hears at slot left sizes a r w s ≡ []
nothing_heard at slot [] sizes (answer.Size size) r w s not_size not_lock = refl
nothing_heard at slot (wanted ∷ left) sizes (answer.Size size) r w s not_size not_lock = absurd (not_size size refl)
nothing_heard at slot left sizes answer.Lock r w s not_size not_lock = absurd (not_lock refl)
nothing_heard at slot [] sizes a r w s not_size not_lock = refl
nothing_heard at slot (wanted ∷ left) sizes a r w s not_size not_lock = refl

-- with anything else it waits on
pub hears_nothing : (at : At) (slot : ℕ) (asking : Asking) (t : ℕ) (reply : ReplyTo) (r : Running) (w : Work) (s : Store) → asking
    ≡ Answered t reply → ((size : ℕ) → reply.answer ≢ answer.Size size) → reply.answer ≢ answer.Lock → is_glimpse w.kind ≡ true
    → sizes_heard at slot asking w.kind r w s ≡ []
hears_nothing at slot asking t reply r w s heard not_size not_lock glimpse =
    hears_it at slot asking w.kind t reply r w s heard glimpse ∙ nothing_heard at slot w.left (sizes_of w.kind) reply.answer r w s not_size
    not_lock

-- the call stands as it stood
pub stays : (slot : ℕ) (old new : Running) (s : StoreState) → old ≡ new → GoesFrom [] slot old new s s next.Waits
stays slot old new s same = subst (λ (r : Running). GoesFrom [] slot old r s s next.Waits) same (goes_nowhere slot old s)

-- ---- whatever the stage was when its work was taken out of it

looks_at_unstaged : (at : At) (slot : ℕ) (kind : Kind) (stage : Stage) (r : Running) (w : Work) (s : Store)
    → looks_at at slot kind (at_stage r stage) w s ≡ looks_at at slot kind r w s
looks_at_unstaged at slot (Glimpses sizes) stage r w s = glimpse_asks_unstaged at slot w.left sizes stage r w.kind w.left w s
looks_at_unstaged at slot kind stage r w s = looks_unstaged slot (acts at slot kind) (acts_unstaged at slot kind) w.left stage r w s

comes_at_unstaged : (at : At) (slot : ℕ) (kind : Kind) (stage : Stage) (r : Running) (w : Work) (s : Store) (l : Lock)
    → comes_at at slot kind (at_stage r stage) w s l ≡ comes_at at slot kind r w s l
comes_at_unstaged at slot (Glimpses sizes) stage r w s l = glimpse_comes_unstaged at slot l w.left sizes stage r w.kind w.left w s
comes_at_unstaged at slot kind stage r w s l = comes_unstaged slot (acts at slot kind) (acts_unstaged at slot kind) l w.left stage r w s

sizes_unstaged : (at : At) (slot : ℕ) (asking : Asking) (kind : Kind) (stage : Stage) (r : Running) (w : Work) (s : Store)
    → sizes_heard at slot asking kind (at_stage r stage) w s ≡ sizes_heard at slot asking kind r w s
sizes_unstaged at slot (Answered t reply) (Glimpses sizes) stage r w s =
    hears_unstaged at slot w.left sizes reply.answer stage r w.kind w.left w s
sizes_unstaged at slot (Answered t reply) kind stage r w s = refl
sizes_unstaged at slot asking kind stage r w s = refl

flushing_unstaged : (at : At) (slot i : ℕ) (file : Option HandleFile) (stage : Stage) (r : Running) (s : Store)
    → flushing at slot i (at_stage r stage) file s ≡ flushing at slot i r file s
flushing_unstaged at slot i None stage r s = refl
flushing_unstaged at slot i (Some f) stage r s = flush_unstaged at slot stage r f (drop i (stripes f.layout)) s

-- ---- it advances

pub advances_looking : {new : Running} {before after : StoreState} {out : Next} (at : At) (slot : ℕ) (old call : Running) (w : Work)
    → old.stage ≡ Looks w → call ≡ at_stage old Plain → GoesBy (looks_at at slot w.kind call w before.store) slot new before after out
    → GoesFrom (goes_at at slot old.stage old (alone old before)) slot old new before after out
advances_looking {before = before} at slot old call w stage taken goes =
    from_as (ap (λ (it : Stage). goes_at at slot it old (alone old before)) stage)
    (goes_from old (goes_as (sym (looks_at_unstaged at slot w.kind Plain old w before.store)
    ∙ ap (λ (it : Running). looks_at at slot w.kind it w before.store) (sym taken)) goes))

pub advances_with_lock : {new : Running} {before after : StoreState} {out : Next} (at : At) (slot : ℕ) (old call : Running) (w : Work)
    (l : Lock) → old.stage ≡ Came w l → call ≡ at_stage old Plain
    → GoesBy (comes_at at slot w.kind call w before.store l) slot new before after out
    → GoesFrom (goes_at at slot old.stage old (alone old before)) slot old new before after out
advances_with_lock {before = before} at slot old call w l stage taken goes =
    from_as (ap (λ (it : Stage). goes_at at slot it old (alone old before)) stage)
    (goes_from old (goes_as (sym (comes_at_unstaged at slot w.kind Plain old w before.store l)
    ∙ ap (λ (it : Running). comes_at at slot w.kind it w before.store l) (sym taken)) goes))

pub advances_sizing : {new : Running} {before after : StoreState} {out : Next} (at : At) (slot : ℕ) (old call : Running) (w : Work)
    → old.stage ≡ Sizes w → call ≡ at_stage old Plain → GoesFrom (sizes_heard at slot call.asking w.kind call w before.store) slot
    (at_stage call (Sizes w)) new before after out → GoesFrom (goes_at at slot old.stage old (alone old before)) slot old new before after
    out
advances_sizing {new = new} {before = before} {after = after} {out = out} at slot old call w stage taken goes =
    from_as (ap (λ (it : Stage). goes_at at slot it old (alone old before)) stage
    ∙ sym (sizes_unstaged at slot old.asking w.kind Plain old w before.store))
    (subst (λ (it : Running). GoesFrom (sizes_heard at slot old.asking w.kind (at_stage old Plain) w before.store) slot it new before after
    out) (ap (λ (it : Stage). at_stage old it) (sym stage))
    (subst (λ (it : Running). GoesFrom (sizes_heard at slot it.asking w.kind it w before.store) slot (at_stage it (Sizes w)) new before
    after out) taken goes))

pub advances_flushing : {new : Running} {before after : StoreState} {out : Next} (at : At) (slot : ℕ) (old call : Running) (i : ℕ)
    → old.stage ≡ Flushing i → call ≡ at_stage old Plain → GoesFrom (flushing at slot i call call.file before.store) slot
    (at_stage call (Flushing i)) new before after out → GoesFrom (goes_at at slot old.stage old (alone old before)) slot old new before
    after out
advances_flushing {new = new} {before = before} {after = after} {out = out} at slot old call i stage taken goes =
    from_as (ap (λ (it : Stage). goes_at at slot it old (alone old before)) stage
    ∙ sym (flushing_unstaged at slot i old.file Plain old before.store))
    (subst (λ (it : Running). GoesFrom (flushing at slot i (at_stage old Plain) old.file before.store) slot it new before after out)
    (ap (λ (it : Stage). at_stage old it) (sym stage))
    (subst (λ (it : Running). GoesFrom (flushing at slot i it it.file before.store) slot (at_stage it (Flushing i)) new before after out)
    taken goes))
