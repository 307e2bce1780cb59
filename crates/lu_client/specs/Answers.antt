-- What an answer makes of a client, by the form of the answer.
use Rattle.std.specs.Prelude.{ℕ, List, [], ◌∷◌, ◌++◌, Option}
use Rattle.lu_base.specs.declared.locks.Resource.{Resource}
use Rattle.lu_msg.specs.declared.answers.Answer.{Answer}
use Rattle.lu_msg.specs.declared.answers.Answer.TheVariants as answer
use Rattle.lu_held.specs.declared.names.LockName.{LockName}
use Rattle.lu_spec_entries.specs.declared.changes.Flush.TheVariants.{Cut, Put}
use Rattle.lu_spec_entries.specs.Words.{Entry, Acks, Fills, Zeroes, Grown}
use Rattle.lu_spec_client.specs.Messages.{held_as, looks_again, on_slot, page_heard}
use Rattle.lu_spec_client.specs.States.{Client}

-- a page of an object, under the lock of this name
abbrev pub page_came : Resource → LockName → ℕ → List ℕ → Client → List Entry
page_came resource name page bs k = page_heard resource name.cookie page bs (held_as name k.store.held)

-- a get was answered
abbrev pub get_heard : Option ℕ → Resource → LockName → ℕ → Answer → Client → List Entry
get_heard slot resource name page (answer.Content bs) k = page_came resource name page bs k ++ on_slot looks_again slot k
get_heard slot resource name page a k = []

-- a put was answered
abbrev pub put_heard : Resource → ℕ → List ℕ → Answer → List Entry
put_heard resource at bs answer.Done = Acks resource ∷ Fills resource at bs ∷ Grown resource (Put at bs) ∷ []
put_heard resource at bs a = []

-- a cut was answered
abbrev pub cut_heard : Resource → ℕ → Answer → List Entry
cut_heard resource n answer.Done = Acks resource ∷ Zeroes resource n ∷ Grown resource (Cut n) ∷ []
cut_heard resource n a = []
