-- `ledger::layout::standing_of` meets its contract. Each word is the number at its place.
use Rattle.words.specs.Words.{word64}
use Rattle.reading.specs.Values.{terms_in}
use Rattle.ledger.specs.Ledger.{standing_of}
use Rattle.ledger.specs.Values.{standing_in}
use Rattle.ledger.proofs.layout.standing_of.Goals as goal

pub returns : goal.returns
unfolding standing_in terms_in standing_of word64
returns c =
    λ x. record {
      terms = record {
        net_cone = c.number.ensures.value x;
        days = c.number-2.ensures.value x;
        year = c.number-3.ensures.value x;
      };
      earliest = c.number-4.ensures.value x;
      carried = c.number-5.ensures.value x;
      account_count = c.number-6.ensures.value x;
    }
