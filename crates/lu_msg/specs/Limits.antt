-- How much a client may have under way (this project's profile; Lustre bounds a client's requests in flight, too).
use Rattle.std.specs.Prelude.{ℕ}

-- the slots of a client
abbrev pub slot_count : ℕ
slot_count = 4

-- the tags of a life at a target, one for each request in flight
abbrev pub tag_count : ℕ
tag_count = 8
