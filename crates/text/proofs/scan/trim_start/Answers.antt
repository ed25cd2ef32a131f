-- `text::scan::trim_start` meets its contract: what is skipped ends before e or not.
use Rattle.std.proofs.Common.{ap, ◌∙◌, min, arith}
use Rattle.text.specs.Scan.{trim_start}
use Rattle.text.proofs.scan.trim_start.Goals as goal

pub returns : goal.returns
unfolding trim_start
returns c =
    let args = c.args in
    let f = c.parse_ws.ensures in
    record {
      is = c.min.ensures ∙ ap (λ k. min k args.e) f.is;
      from = omega (arith, f.from, c.min.ensures);
      to = omega (arith, c.min.ensures);
    }
