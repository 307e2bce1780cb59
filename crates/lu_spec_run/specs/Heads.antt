-- The numbers of a run that its nodes know.
use Rattle.std.specs.Prelude.{◌≤◌, ℕ}
use Rattle.lu_msg.specs.Limits.{tag_count}

-- clients, object storage targets, after how many ticks a lock that was called back ends its life, the most dirty bytes
-- and the most unused locks of a client, and how many requests of one client may be in flight at one target
pub record Head : Type 0 where
  pub clients : ℕ
  pub osts : ℕ
  pub expire : ℕ
  pub dirty : ℕ
  pub unused : ℕ
  pub flight : ℕ

pub record IsHead (head : Head) : Type 0 where
  pub clients : 1 ≤ head.clients
  pub most_clients : head.clients ≤ 16
  pub osts : 1 ≤ head.osts
  pub most_osts : head.osts ≤ 8
  pub expire : 1 ≤ head.expire
  pub dirty : 1 ≤ head.dirty
  pub unused : 1 ≤ head.unused
  pub flight : 1 ≤ head.flight
  pub most_flight : head.flight ≤ tag_count
