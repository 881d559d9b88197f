-- `calls::settle` meets its contract. The file that it settles is the listing's.
use mathlib.Core.Path.{ap, ◌∙◌}
use Rattle.settling.specs.Settling.{settling}
use Rattle.calls.proofs.settle.Goals as goal

pub returns : goal.returns
returns c =
    let start = c.args in
    let given = ap (λ f. settling start.ledger.now f start.res.now) c.file.ensures in
    record {
      answer = c.from.ensures ∙ c.npa_settle.ensures.answer ∙ ap (λ a. a.refusal) given;
      ledger_after = c.npa_settle.ensures.ledger_bytes ∙ ap (λ a. a.ledger) given;
      res_after = c.npa_settle.ensures.result_bytes ∙ ap (λ a. a.result) given;
    }
