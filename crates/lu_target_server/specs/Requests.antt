-- Requests that wait to be answered, by life and number.
pub use Rattle.lu_target_invariant.specs.Requests.{is_named, request_of}
