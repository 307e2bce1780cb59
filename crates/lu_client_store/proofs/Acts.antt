-- One turn of the loops that write and cut, stripe by stripe.
use Rattle.std.proofs.Common.{◌≡◌, ℕ, ◌+◌, ◌<◌, List, length, drop, get_or, sym, ap, ◌∙◌}
use Rattle.lu_layout.specs.Raid0.{Raid0}
use Rattle.lu_spec_entries.specs.declared.changes.Flush.TheVariants.{Cut}
use Rattle.lu_spec_entries.specs.declared.uses.Using.{Using}
use Rattle.lu_spec_entries.specs.Words.{Entry, Changes}
use Rattle.lu_spec_client.specs.Stripes.{below_on, bytes_on}
use Rattle.lu_spec_client.specs.Advances.{writes_on, writes, cuts}
use Rattle.lu_client_store.specs.Stored.{StoreState, stored_after, stored_turn}
use Rattle.lu_client_store.proofs.Rests.{dropped}

abbrev pub write_one : Raid0 → ℕ → List ℕ → Using → List Entry
write_one l p bs u = writes_on u (below_on l u.want.resource.stripe p) (bytes_on l u.want.resource.stripe p bs)

abbrev pub cut_one : Raid0 → ℕ → Using → Entry
cut_one l n u = Changes u.want.resource (Cut (below_on l u.want.resource.stripe n))

pub writes_step : (l : Raid0) (p : ℕ) (bs : List ℕ) (used : List Using) (k : ℕ) (d : Using) (s t : StoreState) → k < length used → t
    ≡ stored_turn s (write_one l p bs (get_or used k d)) → stored_turn t (writes l p bs (drop (k + 1) used))
    ≡ stored_turn s (writes l p bs (drop k used))
writes_step l p bs used k d s t less e =
    ap (λ r. stored_turn r (writes l p bs (drop (k + 1) used))) e
    ∙ sym (ap (λ us. stored_turn s (writes l p bs us)) (dropped used k d less))

pub cuts_step : (l : Raid0) (n : ℕ) (used : List Using) (k : ℕ) (d : Using) (s t : StoreState) → k < length used → t
    ≡ stored_after s (cut_one l n (get_or used k d)) → stored_turn t (cuts l n (drop (k + 1) used)) ≡ stored_turn s (cuts l n (drop k used))
cuts_step l n used k d s t less e =
    ap (λ r. stored_turn r (cuts l n (drop (k + 1) used))) e
    ∙ sym (ap (λ us. stored_turn s (cuts l n us)) (dropped used k d less))
