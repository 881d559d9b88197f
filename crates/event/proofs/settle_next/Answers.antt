-- `event::settle_next` meets its contract: of a file that settling accepts the header is read.
use mathlib.Core.Path.{ap, ◌∙◌}
use native.Mathlib.Omega.{arith}
use Rattle.settling.specs.Settling.{result_bytes}
use Rattle.event.proofs.FileLaws.{header_long, HeaderKnown, header_known}
use Rattle.event.proofs.settle_next.Goals as goal

pub header_of-requires : goal.header_of-requires
header_of-requires c = header_long _ _ _ c.in_ok-settle_file.ensures.answer

pub result_bytes-requires : goal.result_bytes-requires
result_bytes-requires c = (header_known _ _ _ _ c.in_ok-settle_file.ensures.answer c.header_of.ensures).few

pub returns : goal.returns
returns c =
    let h : HeaderKnown c.args.file.now c.args.res.now c.header_of.result =
    header_known _ _ _ _ c.in_ok-settle_file.ensures.answer c.header_of.ensures in
    let fills = c.result_bytes.ensures in
    record {
      refusal = c.in_ok-settle_file.ensures.answer;
      leaves = c.settle_file.ensures.ledger_bytes;
      puts = c.settle_file.ensures.result_bytes;
      fills = fills ∙ ap result_bytes h.rows;
      within = omega (arith, fills, h.room, c.settle_file.auto.res);
    }
