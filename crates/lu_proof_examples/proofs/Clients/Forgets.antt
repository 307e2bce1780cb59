-- Computed: what a lock that is given up says of an object. Cookies count from the same number at every target, and a lock on
-- a file's names has the resource of the file's first object; so such a lock can have the cookie of a lock on that object.
use Rattle.std.proofs.Common.{◌≡◌, List, [], ◌∷◌, refl}
use Rattle.lu_base.specs.declared.locks.Lock.{Lock}
use Rattle.lu_base.specs.declared.locks.Mode.TheVariants as mode
use Rattle.lu_base.specs.declared.locks.Policy.TheVariants.{Bits, Range}
use Rattle.lu_spec_entries.specs.Words.{Drop}
use Rattle.lu_spec_client.specs.Caches.{Note, sizes_after, shown_after}
use Rattle.lu_proof_examples.proofs.Clients.Words.{cookie, life, object, extent}

abbrev size_note : List Note
size_note = record { resource = object 1 1 0; cookie = cookie 1 1; number = 1 } ∷ []

abbrev on_names : Lock
on_names = record { cookie = cookie 1 1; resource = object 1 1 0; ask = record { who = life 0 1; mode = mode.PR; policy = Bits 1 } }

abbrev on_bytes : Lock
on_bytes = record {
  cookie = cookie 1 1;
  resource = object 1 1 0;
  ask =
      record { who = life 0 1; mode = mode.PR; policy = Range (extent 0 99) };
}

-- the size that is known under the lock on the object stays, and so does what was shown
size_stays : sizes_after size_note (Drop 0 on_names) ≡ size_note
size_stays = refl

shown_stays : shown_after size_note (Drop 0 on_names) ≡ size_note
shown_stays = refl

-- they go with that lock
size_goes : sizes_after size_note (Drop 1 on_bytes) ≡ []
size_goes = refl

shown_goes : shown_after size_note (Drop 1 on_bytes) ≡ []
shown_goes = refl
