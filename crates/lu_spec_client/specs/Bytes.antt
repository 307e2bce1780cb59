-- What a client keeps of an object, position by position: what stands outside a lock, unbroken runs, and bytes that
-- become 0.
pub use Rattle.lu_spec_bytes.specs.Runs.{page_size, run_from, first_run, first_position, run_with, run_at}
pub use Rattle.lu_spec_bytes.specs.Changes.{outside, Bytes, zeroed}
