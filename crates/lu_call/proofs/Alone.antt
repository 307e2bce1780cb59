-- A call goes on among others as it does alone, but for a close that the others on its open keep waiting.
use Rattle.std.proofs.Common.{◌≡◌, ℕ, Bool, true, false, ◌&&◌, List, [], ◌∷◌, Option, Some, None, refl, sym, ap, ◌∙◌}
use Rattle.std.specs.Prelude.{if◌then◌else◌}
use Rattle.lu_base.specs.declared.ids.At.{At}
use Rattle.lu_msg.specs.declared.answers.Answer.{Answer}
use Rattle.lu_msg.specs.declared.answers.Answer.TheVariants as answer
use Rattle.lu_msg.specs.declared.calls.Call.{Call}
use Rattle.lu_msg.specs.declared.calls.Call.TheVariants as call
use Rattle.lu_msg.specs.declared.operations.Op.TheVariants as op
use Rattle.lu_spec_entries.specs.Carried.{HandleFile, Asking, Unasked, Asked, Answered, Stage, Plain, Running}
use Rattle.lu_spec_client.specs.Slots.{is_close, goes_at}
use Rattle.lu_spec_client.specs.Starts.{asks_names, starts_close, starts, answers, goes_plain}
use Rattle.lu_spec_client.specs.States.{Client}
use Rattle.lu_client_store.specs.Stored.{StoreState}
use Rattle.lu_call.specs.Starting.{alone, is_shared, is_kept_waiting}
use Rattle.lu_call.proofs.Beginning.{closes_it}

-- the client with this store
abbrev pub with_store : StoreState → Client → Client
with_store s k = record k { facts = s.facts; store = s.store }

-- ---- it isn't kept waiting

closes_alone : (slot : ℕ) (r : Running) (calls : List (Option Running)) (file : Option HandleFile) → r.file ≡ file → is_shared calls file
    ≡ false → starts_close slot calls file ≡ starts_close slot (Some r ∷ []) file
closes_alone slot r calls None is free = refl
closes_alone slot r calls (Some f) is free =
    ap (λ (shared : Bool). if shared then [] else asks_names slot (op.Close f.number f.fid)) free ∙ sym (closes_it slot r f is)

starts_alone : (at : At) (slot : ℕ) (c : Call) (r : Running) (k : Client) (s : StoreState)
    → (is_close c Unasked && is_shared k.calls r.file) ≡ false → starts at slot c r (with_store s k) ≡ starts at slot c r (alone r s)
starts_alone at slot (call.Close h) r k s free = closes_alone slot r k.calls r.file refl free
starts_alone at slot c r k s free = refl

answers_alone : (at : At) (slot : ℕ) (acted : At) (a : Answer) (c : Call) (r : Running) (k : Client) (s : StoreState)
    → answers at slot acted a c r (with_store s k) ≡ answers at slot acted a c r (alone r s)
answers_alone at slot acted (answer.OpenFile fid number layout) (call.Open h path) r k s = refl
answers_alone at slot acted (answer.FileStat fid mode links layout) (call.Stat path) r k s = refl
answers_alone at slot acted a c r k s = refl

plain_alone : (at : At) (slot : ℕ) (asking : Asking) (r : Running) (k : Client) (s : StoreState)
    → (is_close r.call asking && is_shared k.calls r.file) ≡ false → goes_plain at slot asking r (with_store s k)
    ≡ goes_plain at slot asking r (alone r s)
plain_alone at slot Unasked r k s free = starts_alone at slot r.call r k s free
plain_alone at slot (Answered t reply) r k s free = answers_alone at slot reply.at reply.answer r.call r k s
plain_alone at slot Asked r k s free = refl

stage_alone : (at : At) (slot : ℕ) (stage : Stage) (r : Running) (k : Client) (s : StoreState) → is_kept_waiting k.calls r ≡ false
    → goes_at at slot stage r (with_store s k) ≡ goes_at at slot stage r (alone r s)
stage_alone at slot Plain r k s free = plain_alone at slot r.asking r k s free
stage_alone at slot stage r k s free = refl

pub goes_alone : (at : At) (slot : ℕ) (r : Running) (k : Client) (s : StoreState) → is_kept_waiting k.calls r ≡ false
    → goes_at at slot r.stage r (with_store s k) ≡ goes_at at slot r.stage r (alone r s)
goes_alone at slot r k s free = stage_alone at slot r.stage r k s free

-- ---- it is

kept_close : (slot : ℕ) (calls : List (Option Running)) (file : Option HandleFile) → is_shared calls file ≡ true
    → starts_close slot calls file ≡ []
kept_close slot calls None kept = absurd (cc)
kept_close slot calls (Some f) kept = ap (λ (shared : Bool). if shared then [] else asks_names slot (op.Close f.number f.fid)) kept

kept_start : (at : At) (slot : ℕ) (c : Call) (r : Running) (k : Client) → (is_close c Unasked && is_shared k.calls r.file) ≡ true
    → starts at slot c r k ≡ []
kept_start at slot (call.Close h) r k kept = kept_close slot k.calls r.file kept
kept_start at slot c r k kept = absurd (cc)

kept_plain : (at : At) (slot : ℕ) (asking : Asking) (r : Running) (k : Client) → (is_close r.call asking && is_shared k.calls r.file) ≡ true
    → goes_plain at slot asking r k ≡ []
kept_plain at slot Unasked r k kept = kept_start at slot r.call r k kept
kept_plain at slot Asked r k kept = refl
kept_plain at slot (Answered t reply) r k kept = by r.call kept
  where
    by : (c : Call) → (is_close c (Answered t reply) && is_shared k.calls r.file) ≡ true → goes_plain at slot (Answered t reply) r k ≡ []
    by (call.Close h) kept = absurd (cc)
    by c kept = absurd (cc)

-- it waits; a close has no stage but this
pub kept_waiting : (at : At) (slot : ℕ) (r : Running) (k : Client) → r.stage ≡ Plain → is_kept_waiting k.calls r ≡ true
    → goes_at at slot r.stage r k ≡ []
kept_waiting at slot r k stage kept = ap (λ (it : Stage). goes_at at slot it r k) stage ∙ kept_plain at slot r.asking r k kept
