use Rattle.std.proofs.Common.{◌≡◌, ◌+◌, ◌-◌, ◌∙◌, ap, sym, true, Some, None}
use Rattle.std.specs.Prelude.{option_map}
use Rattle.lu_spec_client.specs.Looks.{Page, missing, has_reached}
use Rattle.lu_client_store.specs.Pages.{page_of}
use Rattle.lu_call.specs.Views.{work_of}
use Rattle.lu_call.proofs.Acting.{narrow_fetches, narrow_tells}
use Rattle.lu_call.proofs.calls.CallState.read_narrow.Goals as goal

pub returns-in-Some : goal.returns-in-Some
returns-in-Some c =
    let page : Page = page_of (c.in-Some.under, c.in-Some.page) in
    let found : missing c.args.work.layout c.args.offset (c.args.offset + c.args.count) c.args.store.now.store c.args.work.used.items
    ≡ Some page =
    rw (← c.deref.ensures.value) (sym c.missing.ensures.missing ∙ ap (option_map page_of) c.in-Some.is) in
    record {
      goes = λ slot. narrow_fetches c.args.at slot c.args.offset c.args.count c.args.self.now (work_of c.args.work) page found
          (c.fetch.ensures.goes slot c.args.store.now);
    }

pub returns-then-reached : goal.returns-then-reached
returns-then-reached c =
    let found : missing c.args.work.layout c.args.offset (c.args.offset + c.args.count) c.args.store.now.store c.args.work.used.items
    ≡ None =
    rw (← c.deref.ensures.value) (sym c.missing.ensures.missing ∙ ap (option_map page_of) c.in_default.is) in
    let reached : has_reached c.args.work.layout (c.args.offset + c.args.count - 1) c.args.work.used.items c.args.store.now.store ≡ true =
    rw (← c.deref-2.ensures.value) (sym c.in_ok-reached.ensures.reached ∙ c.if-reached.true) in
    record {
      goes = λ slot. narrow_tells c.args.at slot c.args.offset c.args.count c.args.self.now (work_of c.args.work) c.in_ok-bytes.bytes
          found reached c.in_ok-bytes.ensures.content (c.tell.ensures.told slot (Some (work_of c.args.work)));
    }
