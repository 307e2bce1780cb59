use Rattle.std.proofs.Common.{◌++◌, ◌∙◌, ℕ, List, sym, ap}
use Rattle.std.proofs.lemmas.Result.{on_ok_weaker}
use Rattle.lu_layout.specs.Raid0.{stripe_of}
use Rattle.lu_spec_client.specs.Stripes.{object}
use Rattle.lu_client_store.specs.Runs.{run_on}
use Rattle.lu_client_store.proofs.Contents.{unit_read}
use Rattle.lu_client_store.proofs.store.Store.add_unit.Goals as goal

pub returns : goal.returns
returns c =
    let old = c.args.bytes.now in
    let store = c.args.self.now.store in
    record {
      added = on_ok_weaker c.add_run.result
          (λ added. added
          ∙ ap (λ (i : ℕ). old ++ run_on (object c.args.fid i) c.place-stripe.result.1 c.args.count store) c.place-stripe.ensures.stripe
          ∙ ap (λ (q : ℕ). old ++ run_on (object c.args.fid (stripe_of c.args.layout.now c.args.position)) q c.args.count store)
          c.place-stripe.ensures.offset
          ∙ ap (λ (bs : List ℕ). old ++ bs) (sym (unit_read c.args.layout.now c.args.fid store c.args.position c.args.count
          c.requires.unit)))
          c.add_run.ensures.added;
    }
