-- Messages as they are sent, one after another.
use Rattle.std.specs.Prelude.{List, [], ◌∷◌}
use Rattle.lu_msg.specs.declared.messages.Post.{Post}
use Rattle.lu_spec_entries.specs.Words.{Entry, Send}

-- The entries of these messages.
abbrev pub posted : List Post → List Entry
posted [] = []
posted (post ∷ posts) = Send post.to post.message ∷ posted posts
