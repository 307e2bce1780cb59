use Rattle.std.proofs.Common.{◌≡◌, ◌+◌, ◌-◌, ◌≤◌, ◌<◌, ◌∙◌, arith, rules, sym, ap, subst}
use Rattle.std.proofs.lemmas.Result.{IfOk-weaker}
use Rattle.std.specs.Prelude.{map, Option, ℕ}
use Rattle.std.specs.Option.{unwrap_or}
use Rattle.lu_spec_machine.specs.Places.{RisingFrom, inside, end_of}
use Rattle.lu_spec_machine.proofs.Places.{end_inside}
use Rattle.lu_spec_bytes.specs.Runs.{found_run}
use Rattle.lu_object.specs.Reading.{bytes_from, read_from}
use Rattle.lu_object.proofs.Looked.{read_is}
use Rattle.lu_object.proofs.objects.Object.read.Goals as goal

pub read-requires : goal.read-requires
read-requires c =
    record {
      fits = let e = end_inside (record { first = c.args.at; last = c.args.at + (c.args.len - 1) }) c.self.inside.bytes
          in omega (arith, e, c.saturating_sub.ensures, c.end_in-end.ensures.end, c.requires.fits);
    }

pub returns : goal.returns
returns c =
    let found : c.deref.result.now ≡ found_run (end_of (inside (bytes_from c.args.at c.args.len) c.self.inside.bytes) - c.args.at)
    c.self.inside.bytes c.args.at =
    c.deref.ensures.value ∙ c.in_ok-found.ensures.found
    ∙ ap (λ n. found_run n c.self.inside.bytes c.args.at) (c.saturating_sub.ensures ∙ ap (λ e. e - c.args.at) c.end_in-end.ensures.end) in
    let some : 0 < c.args.len = omega (arith, c.if-len-eq0.false) in
    record {
      read =
          IfOk-weaker c.with_zeros.result _ _
          (λ bytes is.
          is ∙ ap (map {A = Option ℕ} {B = ℕ} (λ byte. unwrap_or byte 0)) found
          ∙ read_is c.args.at c.args.len c.self.inside.bytes some c.self.invariant
          ∙ ap (read_from c.args.at c.args.len) c.self.view_is)
          c.with_zeros.ensures.bytes;
      rises = subst (λ m. RisingFrom 0 m) c.self.view_is c.self.invariant;
    }
