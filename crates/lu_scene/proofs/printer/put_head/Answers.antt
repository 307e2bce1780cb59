use Rattle.lu_scene.specs.declared.words.Header.TheVariants as headers
use Rattle.lu_scene.specs.Print.{header_words}
use Rattle.lu_scene.proofs.Printed.{seven}
use Rattle.lu_scene.proofs.printer.put_head.Goals as goal

pub returns : goal.returns
returns c =
    let head = c.args.head.now in
    record {
      put = seven c.args.out.now c.put_header.new.out c.put_header-2.new.out c.put_header-3.new.out c.put_header-4.new.out
          c.put_header-5.new.out c.put_header-6.new.out c.put_header-7.new.out
          (header_words headers.Clients head.clients) (header_words headers.Osts head.osts) (header_words headers.Expire head.expire)
          (header_words headers.Dirty head.dirty) (header_words headers.Unused head.unused) (header_words headers.Rounds head.rounds)
          (header_words headers.Flight head.flight)
          c.in_ok-put_header.ensures.put c.in_ok-put_header-2.ensures.put c.in_ok-put_header-3.ensures.put c.in_ok-put_header-4.ensures.put
          c.in_ok-put_header-5.ensures.put c.in_ok-put_header-6.ensures.put c.in_ok-put_header-7.ensures.put;
    }
