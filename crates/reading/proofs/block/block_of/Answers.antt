-- `reading::block::block_of` meets its contract. Each word is the number at its place.
use Rattle.words.specs.Words.{word32}
use Rattle.reading.specs.Block.{block_words}
use Rattle.reading.specs.Values.{terms_in, block_in}
use Rattle.reading.proofs.block.block_of.Goals as goal

pub returns : goal.returns
unfolding terms_in block_in block_words word32
returns c =
    λ x. record {
      format = c.number-3.ensures.value x;
      terms = record {
        net_cone = c.number.ensures.value x;
        days = c.number-2.ensures.value x;
        year = c.year_named.ensures x;
      };
      id_count = c.size.ensures.value x;
      ids_offset = c.size-2.ensures.value x;
    }
