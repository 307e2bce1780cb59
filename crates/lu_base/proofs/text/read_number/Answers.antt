use Rattle.std.proofs.Common.{◌≡◌, Ok, rules, arith, decimal, sym, ◌∙◌, true≢false}
use Rattle.std.proofs.lemmas.Fmt.{IsAscii-decimal, parse-decimal}
use Rattle.std.proofs.lemmas.Str.{IsUtf8-from_ascii}
use Rattle.std.proofs.lemmas.Slice.Eq.{slice_eq-Decides}
use Rattle.std.proofs.lemmas.Bool.Decides.{Decides-eqb}
use Rattle.std.specs.Str.{IsUtf8}
use Rattle.lu_base.proofs.text.read_number.Goals as goal

pub returns-in_default-clause-none : goal.returns-in_default-clause-none
returns-in_default-clause-none c = λ n small e.
    let text : IsUtf8 c.args.text.now = rw e (IsUtf8-from_ascii (decimal n) (IsAscii-decimal n small)) in
    c.in_default.ensures.cases.0 text

pub returns-in_default-parse-clause-none : goal.returns-in_default-parse-clause-none
returns-in_default-parse-clause-none c = λ n small e.
    let same : c.in-Ok.held.now ≡ c.args.text.now = search rules in
    let read = parse-decimal 64 n c.in-Ok.held.now c.parse.result small small (same ∙ e) c.parse.ensures.value.0 in
    c.in_default-parse.not-Ok n read

pub returns-clause-none : goal.returns-clause-none
returns-clause-none c = λ n small e.
    let same : c.in-Ok.held.now ≡ c.args.text.now = search rules in
    let read : c.parse.result ≡ Ok n = parse-decimal 64 n c.in-Ok.held.now c.parse.result small small (same ∙ e) c.parse.ensures.value.0 in
    let is : c.in-Ok-parse.n ≡ n = grind (arith, read, c.in-Ok-parse.is) in
    let text : c.format.result.now ≡ c.args.text.now = grind (arith, c.format.ensures.text, is, e) in
    let left : c.as_bytes.result.now ≡ c.args.text.now = c.as_bytes.ensures.value ∙ text in
    true≢false (sym ((slice_eq-Decides Decides-eqb _ _ _ c.eq.ensures).1 left) ∙ c.if-eq.false)
