-- Deeds that become the journal's again, one after another.
use Rattle.std.proofs.Common.{◌≡◌, ℕ, ◌+◌, ◌*◌, ◌^◌, ◌<◌, ◌≤◌, List, [], ◌∷◌, ◌++◌, refl, sym, ap, subst, ◌∙◌, append_assoc, arith}
use Rattle.lu_spec_entries.specs.Carried.{Deed}
use Rattle.lu_spec_target.specs.Phase.{first_of}
use Rattle.lu_spec_target.specs.States.{Target}
use Rattle.lu_target_store.specs.Stores.{StoreState, Redoes, IsRedone}
use Rattle.lu_target_store.proofs.Closing.{begins}
use Rattle.lu_target_store.proofs.Keeping.{redoes_slot}
use Rattle.lu_target_server.specs.Closing.{MayRedo, MayBeNext, CanRedo}
use Rattle.lu_target_server.specs.Servers.{ServerState}
use Rattle.lu_target_server.proofs.Composing.{nothing_more}
use Rattle.lu_target_server.proofs.WindowClose.{redoes_boot}

-- These are done of all, and those that are left may be.
pub record Redoing (all left : List Deed) (st : StoreState) (v : Target) : Type 0 where
  pub done : List Deed
  pub parts : done ++ left ≡ all
  pub redoes : Redoes done st v
  pub may : MayRedo v.lives (first_of v.boot) st.journal.newest left

pub redoing_begins : (all : List Deed) (s : ServerState) (v : Target) → CanRedo all s v → Redoing all all s.store v
redoing_begins all s v can = record {
  done = [];
  parts = refl;
  redoes = begins s.store v can.0;
  may = subst (λ (n : ℕ). MayRedo v.lives (first_of v.boot) n all) (can.0.journal.booted.committed ∙ sym can.0.newest) can.1;
}

below_next : (boot own n : ℕ) → boot ≡ own → n ≤ first_of boot → n < (own + 1) * 2 ^ 32
below_next boot own n same le = omega (arith, same, le)

pub redoing_asks : (all rest : List Deed) (d : Deed) (st : StoreState) (v : Target) → Redoing all (d ∷ rest) st v → MayBeNext d st
redoing_asks all rest d st v here = record {
  slot = redoes_slot here.done st v d.reply.who here.redoes here.may.0.0;
  tag = here.may.0.1;
  above = here.may.0.2;
  boot = below_next v.boot st.journal.boot d.reply.txn.0 (redoes_boot here.done st v here.redoes) here.may.0.3;
}

pub redoing_goes : (all rest : List Deed) (d : Deed) (old new : StoreState) (v : Target) → IsRedone d old new
    → new.journal.newest ≡ d.reply.txn.0 → Redoing all (d ∷ rest) old v → Redoing all rest new v
redoing_goes all rest d old new v redone newest here = record {
  done = here.done ++ d ∷ [];
  parts = append_assoc here.done (d ∷ []) rest ∙ here.parts;
  redoes = redone v here.done here.redoes;
  may = subst (λ (n : ℕ). MayRedo v.lives (first_of v.boot) n rest) (sym newest) here.may.1;
}

pub redoing_ends : (all : List Deed) (st : StoreState) (v : Target) → Redoing all [] st v → Redoes all st v
redoing_ends all st v here = subst (λ (deeds : List Deed). Redoes deeds st v) (sym (nothing_more here.done) ∙ here.parts) here.redoes

-- all but the store stays
pub same_then : (a b c : ServerState) → b ≡ record a { store = b.store } → c ≡ record b { store = c.store } → c
    ≡ record a { store = c.store }
same_then a b c one two = two ∙ ap (λ (it : ServerState). record it { store = c.store }) one
