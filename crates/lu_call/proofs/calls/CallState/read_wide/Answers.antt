use Rattle.std.proofs.Common.{◌≡◌, ◌+◌, ◌∙◌, ap, sym, Some, None}
use Rattle.std.specs.Prelude.{option_map}
use Rattle.lu_spec_client.specs.Looks.{Page, missing}
use Rattle.lu_client_store.specs.Pages.{page_of}
use Rattle.lu_call.specs.Views.{work_of}
use Rattle.lu_call.proofs.Acting.{wide_fetches, wide_tells}
use Rattle.lu_call.proofs.calls.CallState.read_wide.Goals as goal

pub returns-in-Some : goal.returns-in-Some
returns-in-Some c =
    let page : Page = page_of (c.in-Some.under, c.in-Some.page) in
    let found : missing c.args.work.layout c.args.offset (c.args.offset + c.args.count) c.args.store.now.store c.args.work.used.items
    ≡ Some page =
    rw (← c.deref.ensures.value) (sym c.missing.ensures.missing ∙ ap (option_map page_of) c.in-Some.is) in
    record {
      goes = λ slot. wide_fetches c.args.at slot c.args.offset c.args.count c.args.self.now (work_of c.args.work) page found
          (c.fetch.ensures.goes slot c.args.store.now);
    }

pub returns : goal.returns
returns c =
    let found : missing c.args.work.layout c.args.offset (c.args.offset + c.args.count) c.args.store.now.store c.args.work.used.items
    ≡ None =
    rw (← c.deref.ensures.value) (sym c.missing.ensures.missing ∙ ap (option_map page_of) c.in_default.is) in
    record {
      goes = λ slot. wide_tells c.args.at slot c.args.offset c.args.count c.args.self.now (work_of c.args.work) c.in_ok-bytes.bytes
          found c.in_ok-bytes.ensures.bytes (c.tell.ensures.told slot (Some (work_of c.args.work)));
    }
